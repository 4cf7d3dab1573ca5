-- Bodies are placed where the layout says.
use Rattle.std.proofs.Common.{◌≡◌, ◌≢◌, ℕ, ◌+◌, ◌-◌, ◌^◌, ◌<◌, ◌≤◌, inl, inr, ⊎_elim, List, [], ◌∷◌, length, pos, false, refl, sym, ap, subst, ◌∙◌, arith}
use Rattle.std.specs.Prelude.{slice_index}
use Rattle.std.proofs.lemmas.Bool.{cases_eq, cases_lt, eq-eqb, ne_eqb, le-leb, lt-leb}
use Rattle.std.proofs.lemmas.List.{length-append}
use Rattle.cp_words.specs.Word.{pointer_of, word_of}
use Rattle.cp_words.specs.declared.pointer.Pointer.TheVariants as pointers
use Rattle.cp_words.specs.declared.kind.BodyKind.{BodyKind}
use Rattle.cp_words.specs.declared.kind.BodyKind.TheVariants as kinds
use Rattle.cp_writing.specs.declared.arena.Capacity.{Capacity}
use Rattle.cp_words.specs.Targets.{segment, HasTargetHere, HasTargetByLandingPad}
use Rattle.cp_writing.specs.Layout.{Filled, FitsHere, FitsAfterLandingPad, Follows, FollowsLandingPad, Begins, IsEnd, Places, without_words, here as placed_here, after_landing_pad as placed_after, in_new, last_here, last_after_landing_pad}
use Rattle.cp_writing.specs.Layout as layout
use Rattle.cp_writing.specs.Sheets.{Written, Placed, put, append, begin, end_of, here, after_landing_pad, with_segment_for, place_in, place_by, body_word, IsNamed, landing_pad_for}
use Rattle.cp_writing.proofs.PointerWords.{says_far, says_struct, says_list}
use Rattle.cp_writing.proofs.Sheets.{end-put, end-last, end-begin, full-put, full-begin, last-put, place-here, place-there}
use Rattle.cp_writing.proofs.Keeps.{at, Keeps, keeps_both, keeps_put, keeps_append}
use Rattle.cp_writing.proofs.Later.{Later, at_last, filled, at-put, at-append_old, at-append_new}

-- the capacity that a layout has
abbrev pub capacity_of : Capacity → layout.Capacity
capacity_of capacity = record { words = capacity.words; segments = capacity.segments }

-- a word that names a body after it
has_target : (S : List (List ℕ)) (s p o start : ℕ) (k : BodyKind) → p < length (segment S s) → slice_index (segment S s) p ≡ body_word k o → IsNamed k → o < 2 ^ 29 → start ≡ p + 1 + o → HasTargetHere S s p k start
has_target S s p o start (kinds.Struct d n) lt is named near e =
    record { pointer = pointers.Struct (pos o) d n; offset = pos o; stands = (lt, ap pointer_of is ∙ says_struct o d n near named.0 named.1 (omega (arith, named.2))); says = (refl, refl); begins = ap pos e }
has_target S s p o start (kinds.List size n) lt is named near e =
    record { pointer = pointers.List (pos o) size n; offset = pos o; stands = (lt, ap pointer_of is ∙ says_list o size n near); says = (refl, refl); begins = ap pos e }

-- how far segments are filled once the body's words are appended
pub filled-here : (F : Written) (s p : ℕ) (k : BodyKind) (size : ℕ) (xs : List ℕ) → length xs ≡ size → filled (append xs (here s p k F).arena) ≡ record { last = length F.full; used = length F.last + size }
filled-here F s p k size xs long =
    let w = body_word k (end_of F s - (p + 1)) in
    rw (length-append (put s p w F).last xs, full-put F s p w, last-put F s p w, long) refl

pub filled-starts_after : (F : Written) (s p : ℕ) (k : BodyKind) (size : ℕ) (xs : List ℕ) → length xs ≡ size → filled (append xs (after_landing_pad s p k F).arena) ≡ record { last = length F.full; used = length F.last + 1 + size }
filled-starts_after F s p k size xs long =
    let w = word_of (pointers.Far false (length F.last) (length F.full)) in
    let landing_pad = body_word k 0 ∷ [] in
    rw (length-append (append landing_pad (put s p w F)).last xs, length-append (put s p w F).last landing_pad, full-put F s p w, last-put F s p w, long) refl

-- when there is capacity, and when a segment is begun
module _ (capacity : Capacity) (s size : ℕ) (F : Written) where
  pub segment_for_nothing : size ≡ 0 → with_segment_for capacity s size F ≡ F
  segment_for_nothing z = rw (eq-eqb size 0 z) refl

  pub segment_for_fits : 0 < size → length F.last + landing_pad_for s F + size ≤ capacity.words → with_segment_for capacity s size F ≡ F
  segment_for_fits some fits = rw (ne_eqb size 0 (λ z. omega (arith, z, some)), le-leb (length F.last + landing_pad_for s F + size) capacity.words fits) refl

  pub segment_for_all : 0 < size → capacity.words < length F.last + landing_pad_for s F + size → capacity.segments ≤ length F.full + 1 → with_segment_for capacity s size F ≡ F
  segment_for_all some past none = rw (ne_eqb size 0 (λ z. omega (arith, z, some)), lt-leb (length F.last + landing_pad_for s F + size) capacity.words past, le-leb capacity.segments (length F.full + 1) none) refl

  pub segment_for_begun : 0 < size → capacity.words < length F.last + landing_pad_for s F + size → length F.full + 1 < capacity.segments → with_segment_for capacity s size F ≡ begin F
  segment_for_begun some past more = rw (ne_eqb size 0 (λ z. omega (arith, z, some)), lt-leb (length F.last + landing_pad_for s F + size) capacity.words past, lt-leb capacity.segments (length F.full + 1) more) refl

module _ (capacity : Capacity) (S : List (List ℕ)) (small : (b : ℕ) → length (segment S b) ≤ 134217728) where
  -- directly
  target_here : (F : Written) (s p : ℕ) (k : BodyKind) → s ≤ length F.full → p < end_of F s → IsNamed k → Later F s p 1 (here s p k F).arena S → HasTargetHere S s p k (end_of F s)
  target_here F s p k le lt named l =
      let o = end_of F s - (p + 1) in
      let G = put s p (body_word k o) F in
      let end : end_of G s ≡ end_of F s = end-put F s p (body_word k o) s le in
      let is = l.same s p (inr (refl, omega arith, omega arith)) (omega (arith, lt, end)) ∙ at-put F s p (body_word k o) le lt in
      has_target S s p o (end_of F s) k (omega (arith, lt, end, l.ends s)) is named (omega (arith, small s, l.ends s, end)) (omega (arith, lt))

  -- by a pad
  target_pad : (F : Written) (s p : ℕ) (k : BodyKind) → s ≤ length F.full → p < end_of F s → IsNamed k → Later F s p 1 (after_landing_pad s p k F).arena S
      → (a : HasTargetByLandingPad S s p k (length F.full) (length F.last + 1)) × (a.place ≡ length F.last)
  target_pad F s p k le lt named l =
      let far = word_of (pointers.Far false (length F.last) (length F.full)) in
      let P = put s p far F in
      let landing_pad = body_word k 0 ∷ [] in
      let full : length P.full ≡ length F.full = full-put F s p far in
      let last : length P.last ≡ length F.last = last-put F s p far in
      let end : end_of P s ≡ end_of F s = end-put F s p far s le in
      let long : end_of (append landing_pad P) (length F.full) ≡ length F.last + 1 =
      subst (λ n. end_of (append landing_pad P) n ≡ length F.last + 1) full (end-last (append landing_pad P) ∙ length-append P.last landing_pad ∙ ap (λ n. n + 1) last) in
      let old : p < end_of (append landing_pad P) s = omega (arith, lt, end, (keeps_append P landing_pad 0 0 0).ends s) in
      let near : length F.last < 2 ^ 29 = omega (arith, small (length F.full), l.ends (length F.full), long) in
      let is = l.same s p (inr (refl, omega arith, omega arith)) old ∙ at-append_old P landing_pad s p (omega (arith, lt, end)) ∙ at-put F s p far le lt in
      let new : at (append landing_pad P) (length F.full) (length F.last) ≡ body_word k 0 = ap (λ b. at (append landing_pad P) b (length F.last)) (sym full) ∙ ap (λ r. at (append landing_pad P) (length P.full) r) (omega (arith, last)) ∙ at-append_new P landing_pad 0 in
      let there = l.same (length F.full) (length F.last) (inl (omega (arith, end-last F))) (omega (arith, long)) ∙ new in (
        record {
          place = length F.last;
          stands = (omega (arith, old, l.ends s), ap pointer_of is ∙ says_far (length F.last) (length F.full) near);
          landing_pad = has_target S (length F.full) (length F.last) 0 (length F.last + 1) k (omega (arith, long, l.ends (length F.full))) there named (omega arith) (omega arith);
        },
        refl,
      )

  -- the body's words follow
  follows : (F : Written) (s p : ℕ) (k : BodyKind) (size : ℕ) (xs : List ℕ) → length xs ≡ size → s ≤ length F.full → p < end_of F s → IsNamed k → s ≡ length F.full → Later F s p 1 (here s p k F).arena S
      → Follows S s p k size (filled F) s (end_of F s) (filled (append xs (here s p k F).arena))
  follows F s p k size xs long le lt named e l = record { has_target = target_here F s p k le lt named l; same = refl; starts_after = ap (end_of F) e ∙ end-last F; fills = filled-here F s p k size xs long }

  follows_pad : (F : Written) (s p : ℕ) (k : BodyKind) (size : ℕ) (xs : List ℕ) → length xs ≡ size → s ≤ length F.full → p < end_of F s → IsNamed k → Later F s p 1 (after_landing_pad s p k F).arena S
      → FollowsLandingPad S s p k size (filled F) (length F.full) (length F.last + 1) (filled (append xs (after_landing_pad s p k F).arena))
  follows_pad F s p k size xs long le lt named l =
      let a = target_pad F s p k le lt named l in
      record { has_target = a.0; last = refl; landing_pad = a.1; starts_after = refl; fills = filled-starts_after F s p k size xs long }

  begins : (F : Written) (s p : ℕ) (k : BodyKind) (size : ℕ) (xs : List ℕ) → length xs ≡ size → s ≤ length F.full → p < end_of F s → IsNamed k → Later F s p 1 (after_landing_pad s p k (begin F)).arena S
      → Begins S s p k size (filled F) (length (begin F).full) 1 (filled (append xs (after_landing_pad s p k (begin F)).arena))
  begins F s p k size xs long le lt named l =
      let G = begin F in
      let far = word_of (pointers.Far false 0 (length G.full)) in
      let there : s ≤ length G.full = omega (arith, le, full-begin F) in
      let a = target_pad G s p k there (omega (arith, lt, end-begin F s)) named (at_last l (λ b r fresh. ⊎_elim (λ ge. inl (omega (arith, ge, end-begin F b))) (λ i. inr i) fresh)) in
      let kept : Keeps G s p 1 (after_landing_pad s p k G).arena = keeps_both (keeps_put G s p far there) (keeps_append (put s p far G) (body_word k 0 ∷ []) s p 1) (λ b r inside i. i) (λ b r inside i. i) in
      let next = full-begin F in
      record {
        has_target = a.0;
        ends = l.ended (length F.full) (omega (arith, next, kept.goes)) ∙ kept.ended (length F.full) (omega (arith, next)) ∙ end-begin F (length F.full) ∙ end-last F;
        next = next;
        landing_pad = a.1;
        starts_after = refl;
        fills = filled-starts_after G s p k size xs long ∙ ap (λ n. record { last = n; used = 1 + size }) next;
      }

  -- where a body goes, and how far the segments are filled with it
  abbrev pub AsLaid : Written → ℕ → ℕ → BodyKind → ℕ → List ℕ → Placed → Type 0
  AsLaid F s p k size xs x = Later F s p 1 x.arena S → Places S (capacity_of capacity) s p k size (filled F) x.at.segment x.at.word (filled (append xs x.arena))

  placed_nothing : (F : Written) (s p : ℕ) (k : BodyKind) (size : ℕ) (xs : List ℕ) → length xs ≡ size → s ≤ length F.full → p < end_of F s → IsNamed k → size ≡ 0 → AsLaid F s p k size xs (here s p k F)
  placed_nothing F s p k size xs long le lt named z l =
      let w = body_word k (end_of F s - (p + 1)) in
      let end : IsEnd S s (filled F) (end_of F s) = ⊎_elim
      (λ e. inl (e, ap (end_of F) e ∙ end-last F))
      (λ other. inr (other, sym (l.ended s (omega (arith, full-put F s p w, le, other)) ∙ end-put F s p w s le)))
      (cases_eq s (length F.full)) in
      without_words z (target_here F s p k le lt named l) refl end (filled-here F s p k size xs long ∙ ap (λ n. record { last = length F.full; used = n }) (omega (arith, z)))

  placed_some : (F : Written) (s p : ℕ) (k : BodyKind) (size : ℕ) (xs : List ℕ) → length xs ≡ size → s ≤ length F.full → p < end_of F s → IsNamed k → 0 < size → s ≡ length F.full → AsLaid F s p k size xs (place_by capacity s p k size F)
  placed_some F s p k size xs long le lt named some e =
      let landing_pad : landing_pad_for s F ≡ 0 = rw (eq-eqb s (length F.full) e) refl in
      let is : with_segment_for capacity s size F ≡ F → place_by capacity s p k size F ≡ here s p k F = λ q. ap (place_in s p k size) q ∙ place-here s p k size F (inr e) in
      let starts_after : ¬ (FitsAfterLandingPad (capacity_of capacity) s size (filled F)) = λ h. h.0 e in
      ⊎_elim
      (λ past.
      let past_pad : capacity.words < length F.last + landing_pad_for s F + size = omega (arith, past, landing_pad) in
      let not_here : ¬ (FitsHere (capacity_of capacity) s size (filled F)) = λ h. absurd (omega (arith, h.1, past)) in
      ⊎_elim
      (λ more. subst (AsLaid F s p k size xs) (sym (ap (place_in s p k size) (segment_for_begun capacity s size F some past_pad more) ∙ place-there s p k size (begin F) some (λ q. omega (arith, q, e, full-begin F))))
      (λ l. in_new some not_here starts_after more (begins F s p k size xs long le lt named l)))
      (λ none. subst (AsLaid F s p k size xs) (sym (is (segment_for_all capacity s size F some past_pad none))) (λ l. last_here some not_here starts_after none e (follows F s p k size xs long le lt named e l)))
      (cases_lt (length F.full + 1) capacity.segments))
      (λ fits. subst (AsLaid F s p k size xs) (sym (is (segment_for_fits capacity s size F some (omega (arith, fits, landing_pad))))) (λ l. placed_here some (e, fits) (follows F s p k size xs long le lt named e l)))
      (cases_lt capacity.words (length F.last + size))

  placed_other : (F : Written) (s p : ℕ) (k : BodyKind) (size : ℕ) (xs : List ℕ) → length xs ≡ size → s ≤ length F.full → p < end_of F s → IsNamed k → 0 < size → s ≢ length F.full → AsLaid F s p k size xs (place_by capacity s p k size F)
  placed_other F s p k size xs long le lt named some other =
      let landing_pad : landing_pad_for s F ≡ 1 = rw (ne_eqb s (length F.full) other) refl in
      let is : with_segment_for capacity s size F ≡ F → place_by capacity s p k size F ≡ after_landing_pad s p k F = λ q. ap (place_in s p k size) q ∙ place-there s p k size F some other in
      let not_here : ¬ (FitsHere (capacity_of capacity) s size (filled F)) = λ h. other h.0 in
      ⊎_elim
      (λ past.
      let past_pad : capacity.words < length F.last + landing_pad_for s F + size = omega (arith, past, landing_pad) in
      let starts_after : ¬ (FitsAfterLandingPad (capacity_of capacity) s size (filled F)) = λ h. absurd (omega (arith, h.1, past)) in
      ⊎_elim
      (λ more. subst (AsLaid F s p k size xs) (sym (ap (place_in s p k size) (segment_for_begun capacity s size F some past_pad more) ∙ place-there s p k size (begin F) some (λ q. omega (arith, q, le, full-begin F))))
      (λ l. in_new some not_here starts_after more (begins F s p k size xs long le lt named l)))
      (λ none. subst (AsLaid F s p k size xs) (sym (is (segment_for_all capacity s size F some past_pad none))) (λ l. last_after_landing_pad some not_here starts_after none other (follows_pad F s p k size xs long le lt named l)))
      (cases_lt (length F.full + 1) capacity.segments))
      (λ fits. subst (AsLaid F s p k size xs) (sym (is (segment_for_fits capacity s size F some (omega (arith, fits, landing_pad))))) (λ l. placed_after some not_here (other, fits) (follows_pad F s p k size xs long le lt named l)))
      (cases_lt capacity.words (length F.last + 1 + size))

  pub placed : (F : Written) (s p : ℕ) (k : BodyKind) (size : ℕ) (xs : List ℕ) → length xs ≡ size → s ≤ length F.full → p < end_of F s → IsNamed k → AsLaid F s p k size xs (place_by capacity s p k size F)
  placed F s p k size xs long le lt named = ⊎_elim
      (λ z. subst (AsLaid F s p k size xs) (sym (ap (place_in s p k size) (segment_for_nothing capacity s size F z) ∙ place-here s p k size F (inl z))) (placed_nothing F s p k size xs long le lt named z))
      (λ nz.
      let some : 0 < size = omega (arith, nz) in
      ⊎_elim (placed_some F s p k size xs long le lt named some) (placed_other F s p k size xs long le lt named some) (cases_eq s (length F.full)))
      (cases_eq size 0)
