use Rattle.std.proofs.Common.{◌≡◌, length, arith}
use Rattle.std.proofs.lemmas.Bool.Decides.{nat_tests}
use Rattle.cp_frame.proofs.Sends.{sends_none, sends_front, sends_all}
use Rattle.cp_frame.proofs.send.send_packed_words.Goals as goal

pub packing-init : goal.packing-init
packing-init g c = sends_none (g.W.Write.contents c.args.to.now) c.args.buffer.now.items c.args.words.now

pub packing-preserved : goal.packing-preserved
packing-preserved g c =
    let contents = g.W.Write.contents in
    sends_front (contents c.args.to.now) (contents c.packing.to) (contents c.flush.new.to) c.args.buffer.now.items c.packing.buffer.items c.push_groups.new.out.items c.flush.new.buffer.items c.args.words.now c.packing.left.now c.in_ok-left.left.now c.packing.invariant c.in_ok-left.ensures.front c.in_ok-flush.ensures

pub returns : goal.returns
returns g c =
    let contents = g.W.Write.contents in
    let none : length c.packing.left.now ≡ 0 = grind (arith, nat_tests) in
    sends_all (contents c.args.to.now) (contents c.packing.to) c.args.buffer.now.items c.packing.buffer.items c.args.words.now c.packing.left.now c.packing.invariant none
