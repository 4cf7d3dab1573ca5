use Rattle.std.proofs.Common.{◌≡◌, ◌+◌, ◌-◌, ◌*◌, ◌++◌, ℕ, List, length, take, drop, replicate, ◌∙◌, ap, length-append, arith}
use Rattle.std.specs.Vec.{vec_len}
use Rattle.std.proofs.lemmas.List.{length-replicate}
use Rattle.std.proofs.Math.Seq.{take-append_seam}
use borrow.Rule.Slice.PartMut.{put_mid, same_len_mid}
use Rattle.cp_packed.proofs.Bytes.{filled_up}
use Rattle.cp_packed.proofs.Blocks.{tail_put}
use Rattle.cp_packed.proofs.Putting.{front_kept}
use Rattle.cp_packed.proofs.packing.push_some.Goals as goal

pub returns-clause-front : goal.returns-clause-front
returns-clause-front c =
    let old = c.args.out.now.items in
    let start = c.len-start.result in
    let whole = c.deref_mut.result.now in
    let part = c.put_groups-filled.new.block in
    let filled = c.put_groups-filled.result.0 in
    let room = 10 * c.min-count.result in
    let n = start + room in
    let held : start ≡ length old = omega (arith, c.len-start.ensures) in
    let same : vec_len c.args.out.now ≡ length old = omega arith in
    let resized = c.in_ok-resize.ensures.items ∙ ap (λ (m : ℕ). take n old ++ replicate (n - m) 0) same in
    let zeros : whole ≡ old ++ replicate room 0 = c.deref_mut.ensures.value ∙ resized ∙ filled_up old n room 0 (omega (arith, held)) in
    let long : length whole ≡ n = ap (λ (b : List ℕ). length b) zeros ∙ length-append old (replicate room 0) ∙ omega (arith, held, length-replicate {A = ℕ} room 0) in
    let front : take start whole ≡ old = ap (λ (b : List ℕ). take start b) zeros ∙ ap (λ (m : ℕ). take m (old ++ replicate room 0)) held ∙ take-append_seam old (replicate room 0) in
    let tail : List ℕ = put_mid start (length whole - start) whole part in
    let put : tail ≡ old ++ part = tail_put start whole part (omega (arith, long)) ∙ ap (λ (ws : List ℕ). ws ++ part) front in
    let size : length tail ≡ length whole = same_len_mid start (length whole - start) whole part c.put_groups-filled.auto.block in
    let kept : c.resize.new.self.len ≡ length tail = omega (arith, size, c.in_ok-resize.ensures.len) in
    let after : List ℕ = drop (length tail) c.resize.new.self.items in
    let all : take c.resize.new.self.len (tail ++ after) ≡ tail = ap (λ (m : ℕ). take m (tail ++ after)) kept ∙ take-append_seam tail after in
    front_kept start filled old part c.truncate.new.self.items c.args.words.now c.put_groups-filled.result.1.now held c.put_groups-filled.ensures.front (c.truncate.ensures.items ∙ ap (λ (ws : List ℕ). take (start + filled) ws) (all ∙ put))
