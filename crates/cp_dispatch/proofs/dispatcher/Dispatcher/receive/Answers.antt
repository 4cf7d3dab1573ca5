use Rattle.std.proofs.Common.{refl, ap, ◌∙◌}
use Rattle.std.proofs.lemmas.Result.{err_from_is_err_and}
use Rattle.cp_frame.specs.Reader.{taken_of}
use Rattle.cp_connection.proofs.Finishing.{receives_of}
use Rattle.cp_dispatch.specs.Receiving.{is_unreceived, ran_out}
use Rattle.cp_dispatch.specs.WorkOf.{work_of}
use Rattle.cp_dispatch.proofs.Living.{lives_both}
use Rattle.cp_dispatch.proofs.Lending.{ended_by, hands_lives, same_reading, works_off_lent}
use Rattle.cp_dispatch.proofs.dispatcher.Dispatcher.receive.Goals as goal

pub returns-in_err-count-clause-unreceived : goal.returns-in_err-count-clause-unreceived
returns-in_err-count-clause-unreceived g c =
    let p = err_from_is_err_and c.from_residual.result c.from_residual.ensures.1 in
    rw (p.1, p.2) (is_unreceived c.in_err-count.ensures.unreceived.0 c.in_err-count.ensures.unreceived.1 refl)

pub returns-in_err-answer_lent-clause-unreceived : goal.returns-in_err-answer_lent-clause-unreceived
returns-in_err-answer_lent-clause-unreceived g c =
    let p = err_from_is_err_and c.from_residual-in_err-answer_lent.result c.from_residual-in_err-answer_lent.ensures.1 in
    let got = c.in_ok-count.ensures.received in
    rw (p.1, p.2) (ran_out c.in_ok-count.count got.0 (receives_of got.1) (lives_both (hands_lives _ _ _ got.2) c.answer_lent.ensures.lives) refl)

pub returns-in_err-work_off-clause-unreceived : goal.returns-in_err-work_off-clause-unreceived
returns-in_err-work_off-clause-unreceived g c =
    let p = err_from_is_err_and c.from_residual-in_err-work_off.result c.from_residual-in_err-work_off.ensures.1 in
    let got = c.in_ok-count.ensures.received in
    rw (p.1, p.2)
    (ran_out c.in_ok-count.count got.0 (receives_of got.1) (lives_both (lives_both (hands_lives _ _ _ got.2) c.answer_lent.ensures.lives) (rw c.reuse.ensures at c.work_off.ensures.lives)) refl)

pub returns-in_err-cancel-clause-unreceived : goal.returns-in_err-cancel-clause-unreceived
returns-in_err-cancel-clause-unreceived g c =
    let p = err_from_is_err_and c.from_residual-in_err-cancel.result c.from_residual-in_err-cancel.ensures.1 in
    let got = c.in_ok-count.ensures.received in
    rw (p.1, p.2)
    (ran_out c.in_ok-count.count got.0 (receives_of got.1)
    (lives_both (lives_both (lives_both (hands_lives _ _ _ got.2) c.answer_lent.ensures.lives) (rw c.reuse.ensures at c.work_off.ensures.lives)) c.cancel.ensures.lives) refl)

pub returns-clause-received : goal.returns-clause-received
returns-clause-received g c =
    let got = c.in_ok-count.ensures.received in (
      got.0,
      c.in_ok-count.finished,
      _,
      _,
      got.1,
      ended_by c.held-has_ended.result.came _ (c.held-has_ended.ensures.came ∙ ap taken_of (same_reading _ _ _ got.2)),
      works_off_lent g.H.ObjectTable.table _ (work_of c.args.self.now c.args.connection.now) got.0 _ _ _ _ _ _ got.2 c.in_ok-answer_lent.ensures.done (rw c.reuse.ensures at c.in_ok-work_off.ensures.done),
      rw c.answer_given_up.ensures at c.in_ok-cancel.ensures.done,
      lives_both (lives_both (lives_both (hands_lives _ _ _ got.2) c.answer_lent.ensures.lives) (rw c.reuse.ensures at c.work_off.ensures.lives)) c.cancel.ensures.lives,
    )
