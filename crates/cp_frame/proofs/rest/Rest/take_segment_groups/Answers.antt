use Rattle.std.proofs.Common.{◌≡◌, ◌+◌, ◌-◌, inr, ℕ, List, [], length, length-append, ap, refl, subst, rules, arith}
use Rattle.std.specs.Vec.{vec_len}
use Rattle.std.proofs.lemmas.List.{nil_from_length}
use Rattle.cp_frame.specs.Parts.{IsWholeTable}
use Rattle.cp_frame.proofs.Begun.{zero_by}
use Rattle.cp_frame.proofs.Opened.{segments_go_on}
use Rattle.cp_frame.proofs.Parted.{part_front, part_sound, few_taken}
use Rattle.cp_frame.proofs.rest.Rest.take_segment_groups.Goals as goal

pub overflow_add-self : goal.overflow_add-self
overflow_add-self c =
    let r = c.args.self.now in
    let none : r.group.part.items ≡ [] = nil_from_length r.group.part.items (let e : vec_len r.group.part ≡ 0 = zero_by (vec_len r.group.part) c.is_empty.result c.is_empty.ensures c.if-not-is_empty.false in omega (arith, e)) in
    let few = few_taken c.args.limits r c.requires none in
    search (rules, few)

pub returns-clause-sound : goal.returns-clause-sound
returns-clause-sound c =
    let r = c.args.self.now in
    let none : r.group.part.items ≡ [] = nil_from_length r.group.part.items (let e : vec_len r.group.part ≡ 0 = zero_by (vec_len r.group.part) c.is_empty.result c.is_empty.ensures c.if-not-is_empty.false in omega (arith, e)) in
    part_sound c.args.limits r (record { frame = c.take_segment_groups.new.self; group = record { part = r.group.part; run = c.take_segment_groups.new.run }; taken = r.taken + (length c.args.left.now - length c.in_ok-back.back.now) })
    c.args.left.now c.in_ok-back.back.now c.in_ok-back.ensures none

pub returns-clause-takes : goal.returns-clause-takes
returns-clause-takes c =
    let r = c.args.self.now in
    let none : r.group.part.items ≡ [] = nil_from_length r.group.part.items (let e : vec_len r.group.part ≡ 0 = zero_by (vec_len r.group.part) c.is_empty.result c.is_empty.ensures c.if-not-is_empty.false in omega (arith, e)) in
    part_front c.args.limits r (record { frame = c.take_segment_groups.new.self; group = record { part = r.group.part; run = c.take_segment_groups.new.run }; taken = r.taken + (length c.args.left.now - length c.in_ok-back.back.now) })
    c.args.left.now c.in_ok-back.back.now c.in_ok-back.ensures none none refl

pub take_segment_groups-requires-clause-begun : goal.take_segment_groups-requires-clause-begun
take_segment_groups-requires-clause-begun c =
    segments_go_on c.args.limits c.args.self.now.frame c.requires.frame (subst (λ (ws : List ℕ). IsWholeTable ws) c.deref.ensures.value (c.is_whole.ensures.0 c.if-not-is_whole.false))

pub overflow_sub-self : goal.overflow_sub-self
overflow_sub-self c =
    let t = c.in_ok-back.ensures in
    omega (arith, ap (λ (b : List ℕ). length b) t.whole, length-append t.front c.in_ok-back.back.now)

pub returns-then-not-is_empty-clause-sound : goal.returns-then-not-is_empty-clause-sound
returns-then-not-is_empty-clause-sound c = inr (c.requires.frame, c.requires.little)
