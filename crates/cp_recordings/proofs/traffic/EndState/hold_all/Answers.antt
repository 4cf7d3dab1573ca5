use Rattle.std.proofs.Common.{◌∙◌, ap, sym}
use Rattle.std.proofs.lemmas.List.{take_all}
use Rattle.std.proofs.lemmas.List.Sums.{fold_more}
use Rattle.cp_recordings.specs.Traffic.{holding, holding_all}
use Rattle.cp_recordings.proofs.traffic.EndState.hold_all.Goals as goal

pub loop-i-preserved : goal.loop-i-preserved
loop-i-preserved c =
    rw (c.in_ok-hold.ensures, c.id.ensures, c.loop-i.invariant) (sym (fold_more (λ e id. holding e id c.args.source) c.args.self.now c.args.ids.now c.loop-i.i 0 (rw c.len-i-end.ensures at c.loop-i-test.true)))

pub returns : goal.returns
returns c =
    c.loop-i.invariant ∙ ap (λ ids. holding_all c.args.self.now ids c.args.source) (take_all c.loop-i.i c.args.ids.now (rw c.len-i-end.ensures at c.loop-i-test.false))
