use Rattle.std.proofs.Common.{◌≤◌, IfOk, IfErr, inr, subst, arith}
use Rattle.cp_rpc.specs.Viewed.{viewed}
use Rattle.cp_messages.specs.declared.message.Message.{Message}
use Rattle.cp_stream.specs.Write.{IsWrittenAs, IsUnwrittenFor}
use Rattle.cp_stream.proofs.Writing.{written_alone, refused_alone}
use Rattle.cp_stream.proofs.Taking.{map_err, map_if_ok}
use Rattle.cp_stream.proofs.write.frame_of_view.Goals as goal

pub returns-clause-written : goal.returns-clause-written
returns-clause-written c =
    let limits = c.args.limits in
    let small : limits.frame_words ≤ 67108864 = omega (arith, c.frame_words.ensures.value, c.frame_words.ensures.range) in
    let made = subst (λ n. IfOk c.frame_of-frame.result (λ b. IsWrittenAs c.args.mode limits n limits.segments c.in-Ok.message b.items)) c.frame_words.ensures.value c.frame_of-frame.ensures.written in
    let shown = subst (λ (m : Message). IfOk c.frame_of-frame.result (λ b. IsWrittenAs c.args.mode limits limits.frame_words limits.segments m b.items)) c.in-Ok.ensures made in
    map_if_ok c.frame_of-frame.result _ _ (λ b. written_alone limits (viewed c.args.view.now) small c.args.mode b.items) shown

pub returns-clause-refused : goal.returns-clause-refused
returns-clause-refused c =
    let limits = c.args.limits in
    let small : limits.frame_words ≤ 67108864 = omega (arith, c.frame_words.ensures.value, c.frame_words.ensures.range) in
    let refused = subst (λ n. IfErr c.frame_of-frame.result (IsUnwrittenFor limits n limits.segments c.in-Ok.message)) c.frame_words.ensures.value c.frame_of-frame.ensures.refused in
    let shown = subst (λ (m : Message). IfErr c.frame_of-frame.result (IsUnwrittenFor limits limits.frame_words limits.segments m)) c.in-Ok.ensures refused in
    map_err c.frame_of-frame.result _ _ (λ r h. inr (refused_alone limits (viewed c.args.view.now) small r h)) shown
