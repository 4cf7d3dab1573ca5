use Rattle.std.proofs.Common.{subst, List, ℕ, sym}
use Rattle.std.proofs.lemmas.Result.{IfErr-weaker}
use Rattle.cp_frame.specs.Parts.{IsWholeTable}
use Rattle.cp_frame.proofs.Opened.{fault_pushed, table_goes_on}
use Rattle.cp_frame.proofs.frame.OpenFrame.push.Goals as goal

pub returns-else-is_whole-clause-fault : goal.returns-else-is_whole-clause-fault
returns-else-is_whole-clause-fault c =
    let open_table = table_goes_on c.args.limits c.args.self.now c.requires.begun
    (λ w. (let t = c.is_whole.ensures.1 (subst (λ (ws : List ℕ). IsWholeTable ws) (sym c.deref.ensures.value) w) in let f = c.if-is_whole.false in cc (t, f))) in
    IfErr-weaker c.push_table.result _ _ (λ fault k. fault_pushed c.args.limits c.args.self.now c.args.word fault open_table c.requires.no_part c.ranges.word.fits k) c.push_table.ensures.fault
