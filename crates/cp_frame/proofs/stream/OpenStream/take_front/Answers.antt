use Rattle.std.proofs.Common.{arith}
use Rattle.std.proofs.lemmas.Result.{IfOk-weaker}
use Rattle.cp_frame.specs.Bulk.{TakesFront}
use Rattle.cp_packed.proofs.Bytes.{bytes_by}
use Rattle.cp_frame.proofs.Following.{front_both, still_packed}
use Rattle.cp_frame.proofs.stream.OpenStream.take_front.Goals as goal

pub take_segment_groups-requires : goal.take_segment_groups-requires
take_segment_groups-requires c =
    let left = c.args.left.now in
    still_packed c.args.self.now.limits c.args.self.now.rest c.take_table.new.self left c.in_ok-begun.begun.now c.requires (bytes_by left (λ j. omega (arith, c.type_inv.left j))) c.in_ok-begun.ensures.takes c.in_ok-begun.ensures.begun

pub returns-clause-takes : goal.returns-clause-takes
returns-clause-takes c =
    let limits = c.args.self.now.limits in
    let r = c.args.self.now.rest in
    let s = c.take_table.new.self in
    let t = c.take_segment_groups.new.self in
    let left = c.args.left.now in
    let begun = c.in_ok-begun.begun.now in
    IfOk-weaker c.take_segment_groups.result (λ back. TakesFront limits s begun t back.now) (λ back. TakesFront limits r left t back.now) (λ back h. front_both limits r s t left begun back.now c.in_ok-begun.ensures.takes h) c.take_segment_groups.ensures.takes
