use Rattle.std.proofs.Common.{◌≡◌, ◌≢◌, ◌⊎◌, inl, inr, ◌<◌, ◌≤◌, length, subst, sym, ◌∙◌, ap, arith}
use Rattle.std.specs.Prelude.{Vec, ℕ}
use Rattle.std.specs.declared.alloc.Global.{Global}
use Rattle.std.proofs.lemmas.List.{length-map}
use Rattle.cp_writing.specs.declared.arena.Arena.{Arena}
use Rattle.cp_writing.specs.Sheets.{Placed, IsWithin, SameLimits, written, with_segment_for, place_on, place_in, here, after_landing_pad, IsPlace, Places}
use Rattle.cp_writing.proofs.Sheets.{capacity-keeps, capacity-goes, put-keeps, place-here, place-there, place-stays, within, limits_on, writes_on}
use Rattle.cp_writing.proofs.arena.Arena.place.Goals.{then-size-eq0-via-then-size-eq0, then-size-eq0-via-else-size-eq0+then-at-len}
use Rattle.cp_writing.proofs.arena.Arena.place.Goals as goal

roomy : (A B : Arena) (segment size : ℕ) → written B ≡ with_segment_for A.capacity segment size (written A) → SameLimits A B → IsWithin A → IsWithin B
roomy A B segment size is same keeps = within A B _ is same (capacity-keeps A.capacity segment size (written A) keeps)

pub returns-then-size-eq0 : goal.returns-then-size-eq0
returns-then-size-eq0 c =
    let A = c.args.self.now in
    let B = c.segment_for.new.self in
    let C = c.place_here.new.self in
    let at = c.args.at in
    let segment = c.in_ok-segment_for.ensures in
    let keeps = roomy A B at.segment c.args.size segment.written segment.limits c.requires.keeps in
    let direct : (c.args.size ≡ 0) ⊎ (at.segment ≡ length (written B).full) = elim c.then-size-eq0.branch [
      | then-size-eq0-via-then-size-eq0 w ↦ inl w.if-size-eq0.true
      | then-size-eq0-via-else-size-eq0+then-at-len w ↦ inr (w.if-at-len.true ∙ w.len.ensures ∙ B.full.ok.0 ∙ sym (length-map B.full.items (λ (x : Vec ℕ Global). x.items)))
    ] in
    let e : place_on A at c.args.kind c.args.size ≡ here at.segment at.word c.args.kind (written B) = ap (λ G. place_in at.segment at.word c.args.kind c.args.size G) (sym segment.written) ∙ place-here at.segment at.word c.args.kind c.args.size (written B) direct in
    let placed = c.place_here.ensures in
    let arena = placed.written ∙ ap (λ (x : Placed). x.arena) (sym e) in
    let place = placed.at ∙ ap (λ (x : Placed). x.at) (sym e) in
    let goes : length (written A).full ≤ length (written B).full = subst (λ G. length (written A).full ≤ length G.full) (sym segment.written) (capacity-goes A.capacity at.segment c.args.size (written A)) in
    ((arena, within B C _ placed.written placed.limits (put-keeps B.capacity (written B) at.segment at.word _ (omega (arith, goes, c.requires.there)) keeps), limits_on A B C segment.limits placed.limits), place)

pub place_after_landing_pad-requires-clause-keeps : goal.place_after_landing_pad-requires-clause-keeps
place_after_landing_pad-requires-clause-keeps c =
    let segment = c.in_ok-segment_for.ensures in
    roomy c.args.self.now c.segment_for.new.self c.args.at.segment c.args.size segment.written segment.limits c.requires.keeps

pub place_after_landing_pad-requires-clause-there : goal.place_after_landing_pad-requires-clause-there
place_after_landing_pad-requires-clause-there c =
    let A = c.args.self.now in
    let at = c.args.at in
    subst (λ G. IsPlace G at) (sym c.in_ok-segment_for.ensures.written) (place-stays A.capacity at.segment c.args.size (written A) at c.requires.there)

pub place_here-requires-clause-there : goal.place_here-requires-clause-there
place_here-requires-clause-there c =
    let A = c.args.self.now in
    let at = c.args.at in
    subst (λ G. IsPlace G at) (sym c.in_ok-segment_for.ensures.written) (place-stays A.capacity at.segment c.args.size (written A) at c.requires.there)

pub place_here-requires-clause-small : goal.place_here-requires-clause-small
place_here-requires-clause-small c =
    let segment = c.in_ok-segment_for.ensures in
    let keeps = roomy c.args.self.now c.segment_for.new.self c.args.at.segment c.args.size segment.written segment.limits c.requires.keeps in
    λ s. omega (arith, keeps.0, keeps.1, keeps.3 s)

pub returns : goal.returns
returns c =
    let A = c.args.self.now in
    let B = c.segment_for.new.self in
    let at = c.args.at in
    let segment = c.in_ok-segment_for.ensures in
    let same = length-map B.full.items (λ (x : Vec ℕ Global). x.items) in
    let some : 0 < c.args.size = omega (arith, c.if-size-eq0.false) in
    let other : at.segment ≢ length (written B).full = λ e. c.if-at-len.false (omega (arith, e, same, c.len.ensures, B.full.ok.0)) in
    let e : place_on A at c.args.kind c.args.size ≡ after_landing_pad at.segment at.word c.args.kind (written B) =
    ap (λ G. place_in at.segment at.word c.args.kind c.args.size G) (sym segment.written) ∙ place-there at.segment at.word c.args.kind c.args.size (written B) some other in
    let placed = c.place_after_landing_pad.ensures in
    subst (λ (x : Placed). Places A c.place_after_landing_pad.new.self c.place_after_landing_pad.result x) (sym e) (writes_on A B c.place_after_landing_pad.new.self c.place_after_landing_pad.result _ segment.limits placed.0, placed.1)
