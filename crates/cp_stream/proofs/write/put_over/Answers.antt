use Rattle.std.proofs.Common.{◌≤◌, subst, arith}
use Rattle.std.proofs.lemmas.Result.{err_from_is_err_and}
use Rattle.cp_stream.specs.declared.fault.Refusal.TheVariants as refusals
use Rattle.cp_stream.specs.Write.{IsLaidOutAs, IsNotLaidOut}
use Rattle.cp_stream.proofs.Writing.{written_alone, refused_alone, refused_frame}
use Rattle.cp_stream.proofs.write.put_over.Goals as goal

pub returns-clause-put : goal.returns-clause-put
returns-clause-put c =
    let limits = c.args.limits in
    let m = c.args.message.now in
    let S = c.in_ok-segments.segments in
    let small : limits.frame_words ≤ 67108864 = omega (arith, c.frame_words.ensures.value, c.frame_words.ensures.range) in
    let laid = subst (λ n. IsLaidOutAs limits n limits.segments m S) c.frame_words.ensures.value c.in_ok-segments.ensures.laid in
    let w = c.in_ok-write_after.ensures.written in (w.0, written_alone limits m small c.args.mode w.0 (record { lists = S; laid = laid; written = w.2 }), w.1)

pub returns-in_err-segments-clause-refused : goal.returns-in_err-segments-clause-refused
returns-in_err-segments-clause-refused c =
    let limits = c.args.limits in
    let m = c.args.message.now in
    let fault = c.in_err-segments.field-0.0 in
    let small : limits.frame_words ≤ 67108864 = omega (arith, c.frame_words.ensures.value, c.frame_words.ensures.range) in
    let refused = subst (λ n. IsNotLaidOut limits n limits.segments m fault) c.frame_words.ensures.value c.in_err-segments.ensures.refused in
    let p = err_from_is_err_and c.from_residual.result c.from_residual.ensures.1 in
    rw (p.1, p.2) (refused_alone limits m small (refusals.Write fault) refused)

pub returns-in_err-write_after-clause-refused : goal.returns-in_err-write_after-clause-refused
returns-in_err-write_after-clause-refused c =
    let limits = c.args.limits in
    let m = c.args.message.now in
    let S = c.in_ok-segments.segments in
    let fault = c.in_err-write_after.field-0.0 in
    let small : limits.frame_words ≤ 67108864 = omega (arith, c.frame_words.ensures.value, c.frame_words.ensures.range) in
    let laid = subst (λ n. IsLaidOutAs limits n limits.segments m S) c.frame_words.ensures.value c.in_ok-segments.ensures.laid in
    let p = err_from_is_err_and c.from_residual-in_err-write_after.result c.from_residual-in_err-write_after.ensures.1 in
    rw (p.1, p.2) (refused_alone limits m small (refusals.Frame fault) (refused_frame limits limits.frame_words limits.segments m S fault laid c.in_err-write_after.ensures.refused))
