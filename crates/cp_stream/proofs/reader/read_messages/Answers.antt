use Rattle.std.proofs.Common.{◌+◌, inl, inr, ⊎_elim, refl, sym, subst, rules}
use Rattle.std.proofs.lemmas.Result.{err_from_is_err_and}
use Rattle.cp_stream.specs.Stream.{HoldsNone}
use Rattle.cp_stream.specs.Reader.{IsMemory}
use Rattle.cp_stream.specs.Kept.{ReadsFirst}
use Rattle.cp_stream.proofs.Reading.{reads_more, refuses_next}
use Rattle.cp_stream.proofs.reader.read_messages.Goals as goal

pub loop-frame-preserved : goal.loop-frame-preserved
loop-frame-preserved c =
    let l = c.loop-frame in
    let before : ReadsFirst c.args.limits c.args.frames.now l.frame-index l.messages.items c.args.at.now l.reached =
    subst (λ n. ReadsFirst c.args.limits c.args.frames.now l.frame-index l.messages.items c.args.at.now n) l.invariant.1 l.invariant.0 in
    let all = reads_more c.args.limits c.args.frames.now l.frame-index l.messages.items c.args.at.now l.reached c.saturating_add-reached.result c.frame-item.result c.in_ok-message_in.field-0
    before (search (rules)) _ c.frame-item.is c.in_ok-message_in.ensures.found c.saturating_add-reached.ensures in
    (subst (λ ms. ReadsFirst c.args.limits c.args.frames.now (l.frame-index + 1) ms c.args.at.now c.saturating_add-reached.result) (sym c.in_ok-push.ensures.items) all, refl)

pub returns-in_err-message_in-clause-refused : goal.returns-in_err-message_in-clause-refused
returns-in_err-message_in-clause-refused c =
    let l = c.loop-frame in
    let p = err_from_is_err_and c.from_residual.result c.from_residual.ensures.1 in
    let refusal = c.in_err-message_in.field-0.0 in
    rw (p.1, p.2)
    (⊎_elim (λ (h : IsMemory refusal). inl h)
    (λ (h : HoldsNone c.args.limits c.frame-item.result.1 refusal).
    inr (refuses_next c.args.limits c.args.frames.now l.frame-index l.messages.items c.args.at.now l.at c.frame-item.result refusal l.invariant.0 (search (rules)) _ c.frame-item.is h))
    c.in_err-message_in.ensures.refused)
