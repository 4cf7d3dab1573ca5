use Rattle.std.proofs.Common.{◌≤◌, OnOk, IfErr, subst, arith}
use Rattle.cp_stream.specs.Write.{IsSent, IsCutShort}
use Rattle.cp_stream.proofs.Writing.{sent_alone, cut_short_alone}
use Rattle.cp_stream.proofs.Taking.{map_err, map_ok}
use Rattle.cp_stream.proofs.write.write_message.Goals as goal

pub returns-clause-sent : goal.returns-clause-sent
returns-clause-sent g c =
    let args = c.args in
    let old = args.to.now in
    let new = c.write_message_in.new.to in
    let contents = g.W.Write.contents in
    let small : args.limits.frame_words ≤ 67108864 = omega (arith, c.frame_words.ensures.value, c.frame_words.ensures.range) in
    let sent = subst (λ n. OnOk c.write_message_in.result (IsSent contents args.mode args.limits n args.limits.segments args.message.now old new)) c.frame_words.ensures.value c.write_message_in.ensures.sent in
    map_ok c.write_message_in.result _ _ (sent_alone contents args.mode args.limits args.message.now old new small) sent

pub returns-clause-stopped : goal.returns-clause-stopped
returns-clause-stopped g c =
    let args = c.args in
    let old = args.to.now in
    let new = c.write_message_in.new.to in
    let contents = g.W.Write.contents in
    let small : args.limits.frame_words ≤ 67108864 = omega (arith, c.frame_words.ensures.value, c.frame_words.ensures.range) in
    let stopped = subst (λ n. IfErr c.write_message_in.result (IsCutShort contents args.mode args.limits n args.limits.segments args.message.now old new)) c.frame_words.ensures.value c.write_message_in.ensures.stopped in
    map_err c.write_message_in.result _ _ (cut_short_alone contents args.mode args.limits args.message.now old new small) stopped
