use Rattle.std.proofs.Common.{◌≡◌, length, arith}
use Rattle.std.proofs.lemmas.Bool.Decides.{nat_tests}
use Rattle.std.proofs.lemmas.List.{nil_from_length}
use Rattle.cp_stream.proofs.Straight.{put_first}
use Rattle.cp_stream.proofs.write.put_message.Goals.{in-Plain, in_default}
use Rattle.cp_stream.proofs.write.put_message.Goals as goal

pub returns-clause-put : goal.returns-clause-put
returns-clause-put c =
    let old = c.args.block.now.items in
    elim c.match-mode.branch [
      | in-Plain w ↦
          let none : length old ≡ 0 = grind (arith, nat_tests, w.is_empty.ensures, w.if-is_empty.true) in
          rw (w.put-is, w.block-is) (put_first w.put_straight-put.result c.args.mode c.args.limits c.args.message.now old w.put_straight-put.new.block.items w.in-Plain.is (nil_from_length old none) w.put_straight-put.ensures.put)
      | in_default w ↦ rw (w.put-is, w.block-is) w.put_over-put.ensures.put
    ]
