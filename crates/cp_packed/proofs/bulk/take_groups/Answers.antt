use Rattle.cp_packed.specs.Groups.{TakesGroups}
use Rattle.cp_packed.proofs.Bulks.{takes_both}
use Rattle.cp_packed.proofs.bulk.take_groups.Goals as goal
use Rattle.cp_packed.proofs.bulk.take_groups.Goals.{then-run-eq0+in_ok-back, else-run-eq0+in_ok-back-2}

pub taking-preserved : goal.taking-preserved
taking-preserved c =
    let l = c.taking in
    let more : TakesGroups c.args.most l.words.items l.run l.left.now c.if-run-eq0.words.items c.if-run-eq0.run c.if-run-eq0.back.now = elim c.if-run-eq0.branch [
      | then-run-eq0+in_ok-back w ↦ rw (w.words-is, w.run-is, w.back-is) w.in_ok-back.ensures.takes
      | else-run-eq0+in_ok-back-2 w ↦ rw (w.words-is, w.run-is, w.back-is) w.in_ok-back-2.ensures.takes
    ] in
    takes_both c.args.most c.args.words.now.items l.words.items c.if-run-eq0.words.items c.args.left.now l.left.now c.if-run-eq0.back.now c.args.run.now l.run c.if-run-eq0.run l.invariant more
