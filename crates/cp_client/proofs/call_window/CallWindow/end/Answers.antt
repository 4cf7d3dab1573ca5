use Rattle.std.proofs.Common.{[], ◌∷◌, ◌++◌, refl, sym, ap, ◌∙◌, subst, append-nil, drop}
use Rattle.std.proofs.lemmas.Result.{err_from_is_err_and}
use Rattle.cp_client.specs.ConversationOf.{seen}
use Rattle.cp_client.specs.CallWindows.{EndsEach}
use Rattle.cp_client.proofs.Streaming.{oldest_first, none_oldest, fewer, moved, ends_last}
use Rattle.cp_client.proofs.call_window.CallWindow.end.Goals as goal

pub ending-init : goal.ending-init
ending-init g c = ([], refl, refl, refl)

pub ending-smaller : goal.ending-smaller
ending-smaller g c = fewer _ _ _ (sym c.in-Some.ensures) c.in_ok-end_oldest.ensures.left

pub ending-preserved : goal.ending-preserved
ending-preserved g c =
    let h = c.ending.invariant in
    let k = c.in_ok-end_oldest.ensures in (
      h.0 ++ c.in-Some.question ∷ [],
      moved _ _ _ _ _ h.1 (sym c.in-Some.ensures) k.left,
      ends_last _ _ _ _ _ h.2 k.ends,
      k.same_window ∙ h.3,
    )

pub returns-in_err-end_oldest-clause-breaks : goal.returns-in_err-end_oldest-clause-breaks
returns-in_err-end_oldest-clause-breaks g c =
    let p = err_from_is_err_and c.from_residual.result c.from_residual.ensures.1 in
    let h = c.ending.invariant in
    let first = oldest_first c.ending.self.under_way c.in-Some.question (sym c.in-Some.ensures) in
    rw (p.1, p.2) (record {
      ended = h.0;
      q = c.in-Some.question;
      rest = drop 1 c.ending.self.under_way;
      in_order = h.1 ∙ ap (λ z. h.0 ++ z) first;
      mid = seen g.S.DrivenSession.state g.R.Read.remaining g.W.Write.contents c.ending.client;
      ends = h.2;
      unended = rw first at c.in_err-end_oldest.ensures.unended;
    })

pub returns-in_err-end_oldest-clause-same_window : goal.returns-in_err-end_oldest-clause-same_window
returns-in_err-end_oldest-clause-same_window g c = c.in_err-end_oldest.ensures.same_window ∙ c.ending.invariant.3

pub returns-clause-ends : goal.returns-clause-ends
returns-clause-ends g c =
    let h = c.ending.invariant in
    let none = none_oldest c.ending.self.under_way (sym c.in_default.ensures) in
    subst (λ qs. EndsEach g.S.DrivenSession.table (seen g.S.DrivenSession.state g.R.Read.remaining g.W.Write.contents c.args.client.now) qs (seen g.S.DrivenSession.state g.R.Read.remaining g.W.Write.contents c.ending.client))
    (sym (h.1 ∙ ap (λ z. h.0 ++ z) none ∙ append-nil h.0)) h.2

pub returns-clause-same_window : goal.returns-clause-same_window
returns-clause-same_window g c = c.ending.invariant.3
