use Rattle.std.proofs.Common.{◌+◌, refl, arith}
use Rattle.cp_frame.specs.declared.mode.Mode.TheVariants.{Packed}
use Rattle.cp_frame.specs.declared.status.Status.TheVariants.{Reading}
use Rattle.cp_frame.proofs.Needed.{less_kept, small_least}
use Rattle.cp_frame.proofs.Readers.{part_short}
use Rattle.cp_frame.proofs.Taken.{takes_run}
use Rattle.cp_frame.proofs.rest.Rest.push_byte.Goals as goal

pub overflow_add-self : goal.overflow_add-self
overflow_add-self c =
    let r = c.args.self.now in
    let limits = c.args.limits in
    omega (arith, c.requires.count, less_kept limits r.frame c.requires.frame, small_least limits r.frame c.requires.frame, part_short Packed limits Reading r c.requires)

pub returns-clause-takes : goal.returns-clause-takes
returns-clause-takes c =
    takes_run c.args.limits c.args.self.now (record { frame = c.push_run.new.self; group = c.take.new.self; taken = c.args.self.now.taken + 1 }) c.args.byte c.in_ok-run.run'.count c.in_ok-run.run'.word
    c.push_run.result c.in_ok-run.ensures.range c.in_ok-run.ensures.words c.in_ok-run.ensures.state refl c.push_run.ensures.begun c.push_run.ensures.no_part c.push_run.ensures.rest
