use Rattle.std.proofs.Common.{◌≡◌, ◌+◌, ◌<◌, ◌++◌, map, take, drop, set, length, sym, ap, ◌∙◌, arith}
use Rattle.cp_messages.specs.declared.descriptor.Descriptor.{Descriptor}
use Rattle.cp_tail_calls.specs.Seen.{other_way}
use Rattle.cp_tail_calls.proofs.Turning.{turned_one}
use Rattle.cp_tail_calls.proofs.seen.turned.Goals as goal

pub loop-descriptor-preserved : goal.loop-descriptor-preserved
loop-descriptor-preserved c =
    let items = c.loop-descriptor.descriptor-items in
    let i = c.loop-descriptor.descriptor-index in
    let inside : i < length items = omega arith in
    let new : c.turn.new.descriptor ≡ other_way c.descriptor-item.result = c.turn.ensures ∙ ap other_way (sym c.descriptor-item.is) in
    ap (λ (d : Descriptor). take (i + 1) (set items i d) ++ map other_way (drop (i + 1) (set items i d))) new
    ∙ turned_one other_way items i c.descriptor-item.result inside c.descriptor-item.is
    ∙ c.loop-descriptor.invariant
