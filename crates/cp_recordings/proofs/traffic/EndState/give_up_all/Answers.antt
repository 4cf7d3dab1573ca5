use Rattle.std.proofs.Common.{◌∙◌, ap, sym}
use Rattle.std.proofs.lemmas.List.{take_all}
use Rattle.std.proofs.lemmas.List.Sums.{fold_more}
use Rattle.cp_recordings.specs.Traffic.{giving_up, giving_up_all}
use Rattle.cp_recordings.proofs.traffic.EndState.give_up_all.Goals as goal

pub loop-i-preserved : goal.loop-i-preserved
loop-i-preserved c =
    rw (c.in_ok-give_up.ensures, c.id.ensures, c.loop-i.invariant) (sym (fold_more (λ e id. giving_up e id 1) c.args.self.now c.args.ids.now c.loop-i.i 0 (rw c.len-i-end.ensures at c.loop-i-test.true)))

pub returns : goal.returns
returns c =
    c.loop-i.invariant ∙ ap (giving_up_all c.args.self.now) (take_all c.loop-i.i c.args.ids.now (rw c.len-i-end.ensures at c.loop-i-test.false))
