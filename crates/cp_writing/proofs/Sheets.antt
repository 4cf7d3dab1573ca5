-- Segments after each step of writing.
use Rattle.std.proofs.Common.{◌≡◌, ◌≢◌, ℕ, zero, suc, ◌+◌, ◌<◌, ◌≤◌, ◌⊎◌, inl, inr, ⊎_elim, Bool, true, false, List, [], ◌∷◌, ◌++◌, length, set, get_or, Result, Ok, Err, refl, sym, ap, subst, ◌∙◌, arith}
use Rattle.std.specs.Prelude.{slice_index_or, nat_le, if◌then◌else◌}
use Rattle.std.proofs.lemmas.Bool.{leb-false, cases_eq, ne_eqb, eq-eqb}
use Rattle.std.proofs.lemmas.List.{length-set, length-map, map-set, get_or-map, length_push, length-append, get_or_append_left, get_or_push, get_or_past, get_or-set_same, get_or-set_other}
use Rattle.std.specs.Prelude.{Vec}
use Rattle.std.specs.Vec.{with_item}
use Rattle.std.specs.declared.alloc.Global.{Global}
use Rattle.cp_words.specs.Segments.{words_of}
use Rattle.cp_words.specs.Targets.{segment}
use Rattle.cp_tree.specs.declared.fault.WriteFault.{WriteFault}
use Rattle.cp_writing.specs.declared.arena.Capacity.{Capacity}
use Rattle.cp_writing.specs.declared.arena.Arena.{Arena}
use Rattle.cp_writing.specs.declared.strip.Strip.{Strip}
use Rattle.cp_writing.specs.Strips.{words_on}
use Rattle.cp_words.specs.declared.kind.BodyKind.{BodyKind}
use Rattle.cp_words.specs.declared.place.Place.{Place}
use Rattle.cp_writing.specs.Sheets.{Placed, here, after_landing_pad, place_in, with_segment_for, KeepsTo, IsPlace, IsWithin, SameLimits, Refuses, Writes, Written, written, segments_of, end_of, put, append, begin}

-- a segment of those that are written
abbrev pub seg : Written → ℕ → List ℕ
seg F s = segment (segments_of F) s

pub seg-last : (F : Written) → seg F (length F.full) ≡ F.last
seg-last F = get_or_push F.full F.last [] (length F.full) refl

pub seg-full : (F : Written) (s : ℕ) → s < length F.full → seg F s ≡ slice_index_or F.full s []
seg-full F s lt = get_or_append_left F.full (F.last ∷ []) [] s lt

pub seg-past : (F : Written) (s : ℕ) → length F.full < s → seg F s ≡ []
seg-past F s lt = get_or_past (segments_of F) s [] (omega (arith, length_push F.full F.last))

-- a word at a place: that segment has it, and the others stay
pub put-here : (F : Written) (p w : ℕ) → put (length F.full) p w F ≡ record { full = F.full; last = set F.last p w; words = F.words }
put-here F p w = rw (eq-eqb (length F.full) (length F.full) refl) refl

pub put-there : (F : Written) (s p w : ℕ) → s ≢ length F.full → put s p w F ≡ record { full = set F.full s (set (slice_index_or F.full s []) p w); last = F.last; words = F.words }
put-there F s p w other = rw (ne_eqb s (length F.full) other) refl

-- a word that is set in the last segment
pub put_last : (F : Written) (s p w : ℕ) (last : List ℕ) → s ≡ length F.full → last ≡ set F.last p w → record { full = F.full; last = last; words = F.words } ≡ put s p w F
put_last F s p w last e is = rw (e, is) (sym (put-here F p w))

pub seg-put_same : (F : Written) (s p w : ℕ) → s ≤ length F.full → seg (put s p w F) s ≡ set (seg F s) p w
seg-put_same F s p w le = ⊎_elim
    (λ e. subst (λ t. seg (put t p w F) t ≡ set (seg F t) p w) (sym e) (rw (put-here F p w, seg-last F) (seg-last (record { full = F.full; last = set F.last p w; words = F.words }))))
    (λ other.
    let lt : s < length F.full = omega (arith, other) in
    let inside : s < length (set F.full s (set (slice_index_or F.full s []) p w)) = rw (length-set F.full s (set (slice_index_or F.full s []) p w)) lt in
    rw (put-there F s p w other, seg-full F s lt)
    (get_or_append_left (set F.full s (set (slice_index_or F.full s []) p w)) (F.last ∷ []) [] s inside ∙ get_or-set_same F.full s (set (slice_index_or F.full s []) p w) [] lt))
    (cases_eq s (length F.full))

same-get : (xs ys : List (List ℕ)) (y : List ℕ) (b : ℕ) → length xs ≡ length ys → get_or xs b [] ≡ get_or ys b [] → get_or (xs ++ y ∷ []) b [] ≡ get_or (ys ++ y ∷ []) b []
same-get [] [] y b l e = refl
same-get (x ∷ xs) [] y b l e = absurd (omega (arith, l))
same-get [] (z ∷ ys) y b l e = absurd (omega (arith, l))
same-get (x ∷ xs) (z ∷ ys) y zero l e = e
same-get (x ∷ xs) (z ∷ ys) y (suc b) l e = same-get xs ys y b (omega (arith, l)) e

other-get : (xs : List (List ℕ)) (y z : List ℕ) (b : ℕ) → b ≢ length xs → get_or (xs ++ y ∷ []) b [] ≡ get_or (xs ++ z ∷ []) b []
other-get [] y z zero n = absurd (n refl)
other-get [] y z (suc b) n = refl
other-get (x ∷ xs) y z zero n = refl
other-get (x ∷ xs) y z (suc b) n = other-get xs y z b (λ e. n (ap suc e))

pub seg-put_other : (F : Written) (s p w b : ℕ) → s ≤ length F.full → b ≢ s → seg (put s p w F) b ≡ seg F b
seg-put_other F s p w b le n = ⊎_elim
    (λ e. subst (λ t. b ≢ t → seg (put t p w F) b ≡ seg F b) (sym e) (λ m. rw (put-here F p w) (other-get F.full (set F.last p w) F.last b m)) n)
    (λ other. rw (put-there F s p w other) (same-get (set F.full s (set (slice_index_or F.full s []) p w)) F.full F.last b (length-set F.full s (set (slice_index_or F.full s []) p w)) (get_or-set_other F.full s b (set (slice_index_or F.full s []) p w) [] n)))
    (cases_eq s (length F.full))

pub full-put : (F : Written) (s p w : ℕ) → length (put s p w F).full ≡ length F.full
full-put F s p w = ⊎_elim
    (λ e. subst (λ t. length (put t p w F).full ≡ length F.full) (sym e) (rw (put-here F p w) refl))
    (λ other. rw (put-there F s p w other) (length-set F.full s (set (slice_index_or F.full s []) p w)))
    (cases_eq s (length F.full))

pub words-put : (F : Written) (s p w : ℕ) → (put s p w F).words ≡ F.words
words-put F s p w = ⊎_elim
    (λ e. subst (λ t. (put t p w F).words ≡ F.words) (sym e) (rw (put-here F p w) refl))
    (λ other. rw (put-there F s p w other) refl)
    (cases_eq s (length F.full))

pub last-put : (F : Written) (s p w : ℕ) → length (put s p w F).last ≡ length F.last
last-put F s p w = ⊎_elim
    (λ e. subst (λ t. length (put t p w F).last ≡ length F.last) (sym e) (rw (put-here F p w) (length-set F.last p w)))
    (λ other. rw (put-there F s p w other) refl)
    (cases_eq s (length F.full))

pub end-put : (F : Written) (s p w b : ℕ) → s ≤ length F.full → end_of (put s p w F) b ≡ end_of F b
end-put F s p w b le = ⊎_elim
    (λ e. subst (λ t. end_of (put s p w F) t ≡ end_of F t) (sym e) (rw (seg-put_same F s p w le) (length-set (seg F s) p w)))
    (λ other. rw (seg-put_other F s p w b le other) refl)
    (cases_eq b s)

-- words at the end of the last segment
pub seg-append_last : (F : Written) (ws : List ℕ) → seg (append ws F) (length F.full) ≡ F.last ++ ws
seg-append_last F ws = get_or_push F.full (F.last ++ ws) [] (length F.full) refl

pub seg-append_other : (F : Written) (ws : List ℕ) (b : ℕ) → b ≢ length F.full → seg (append ws F) b ≡ seg F b
seg-append_other F ws b n = other-get F.full (F.last ++ ws) F.last b n

-- a new segment is empty, as one is that isn't there
begun-get : (xs : List (List ℕ)) (b : ℕ) → get_or (xs ++ [] ∷ []) b [] ≡ get_or xs b []
begun-get [] zero = refl
begun-get [] (suc b) = refl
begun-get (x ∷ xs) zero = refl
begun-get (x ∷ xs) (suc b) = begun-get xs b

pub seg-begin : (F : Written) (b : ℕ) → seg (begin F) b ≡ seg F b
seg-begin F b = begun-get (F.full ++ F.last ∷ []) b

pub end-last : (F : Written) → end_of F (length F.full) ≡ length F.last
end-last F = ap length (seg-last F)

-- one segment of one word, and no other
pub one_blank : (full : List (List ℕ)) (last : List ℕ) (n s : ℕ) → full ≡ [] → last ≡ 0 ∷ [] → end_of (record { full = full; last = last; words = n }) s ≤ 1
one_blank full last n zero e w = rw (e, w) (omega arith)
one_blank full last n (suc s) e w = rw (e) (omega arith)

-- a word is set in a segment that is full
pub set_in : (full : List (Vec ℕ Global)) (s p w : ℕ) (v : Vec ℕ Global) → v ≡ get_or full s v → s < length full → words_of (set full s (with_item v p w)) ≡ set (words_of full) s (set (slice_index_or (words_of full) s []) p w)
set_in full s p w v is lt =
    let items : slice_index_or (words_of full) s [] ≡ v.items = get_or-map (λ (x : Vec ℕ Global). x.items) full s v [] lt ∙ ap (λ (x : Vec ℕ Global). x.items) (sym is) in
    map-set (λ (x : Vec ℕ Global). x.items) full s (with_item v p w) ∙ ap (λ xs. set (words_of full) s (set xs p w)) (sym items)

pub put_there_of : (full : List (Vec ℕ Global)) (last : List ℕ) (n s p w : ℕ) (v : Vec ℕ Global) → v ≡ get_or full s v → s < length full
    → record { full = words_of (set full s (with_item v p w)); last = last; words = n } ≡ put s p w (record { full = words_of full; last = last; words = n })
put_there_of full last n s p w v is lt =
    let other : s ≢ length (words_of full) = λ e. omega (arith, length-map full (λ (x : Vec ℕ Global). x.items), e, lt) in
    rw (put-there (record { full = words_of full; last = last; words = n }) s p w other, set_in full s p w v is lt) refl

chosen : (P : Written → Type 0) (a b c : Bool) (x y : Written) → P x → (c ≡ false → P y) → P (if a then x else (if b then x else (if c then x else y)))
chosen P true b c x y h k = h
chosen P false true c x y h k = h
chosen P false false true x y h k = h
chosen P false false false x y h k = k refl

-- what holds of what is written holds once there is capacity, if it does where a segment is begun that may be
pub with_room_keeps : (P : Written → Type 0) (capacity : Capacity) (s size : ℕ) (F : Written) → P F → (length F.full + 1 < capacity.segments → P (begin F)) → P (with_segment_for capacity s size F)
with_room_keeps P capacity s size F h k = chosen P _ _ (nat_le capacity.segments (length F.full + 1)) F (begin F) h (λ e. let n = leb-false capacity.segments (length F.full + 1) e in k (omega (arith, n)))

pub end-begin : (F : Written) (b : ℕ) → end_of (begin F) b ≡ end_of F b
end-begin F b = ap length (seg-begin F b)

pub capacity-keeps : (capacity : Capacity) (s size : ℕ) (F : Written) → KeepsTo capacity F → KeepsTo capacity (with_segment_for capacity s size F)
capacity-keeps capacity s size F h =
    with_room_keeps (KeepsTo capacity) capacity s size F h (λ more. (h.0, h.1, omega (arith, length_push F.full F.last, more, h.0), λ b. rw (end-begin F b) (h.3 b)))

pub full-begin : (F : Written) → length (begin F).full ≡ length F.full + 1
full-begin F = length_push F.full F.last

pub put-keeps : (capacity : Capacity) (F : Written) (s p w : ℕ) → s ≤ length F.full → KeepsTo capacity F → KeepsTo capacity (put s p w F)
put-keeps capacity F s p w le h = (h.0, omega (arith, h.1, words-put F s p w), omega (arith, h.2, full-put F s p w), λ b. omega (arith, h.3 b, end-put F s p w b le, words-put F s p w))

pub append-keeps : (capacity : Capacity) (F : Written) (ws : List ℕ) → KeepsTo capacity F → F.words + length ws ≤ capacity.whole → KeepsTo capacity (append ws F)
append-keeps capacity F ws h within = (
  h.0,
  within,
  h.2,
  λ b. ⊎_elim
      (λ e. subst (λ t. end_of (append ws F) t ≤ F.words + length ws) (sym e) (omega (arith, ap length (seg-append_last F ws), length-append F.last ws, end-last F, h.3 (length F.full))))
      (λ m. omega (arith, ap length (seg-append_other F ws b m), h.3 b))
      (cases_eq b (length F.full)),
)

-- an arena keeps to its capacity, where what is written on it does
pub within : (old new : Arena) (F : Written) → written new ≡ F → SameLimits old new → KeepsTo old.capacity F → IsWithin new
within old new F is same h = subst (λ k. KeepsTo k (written new)) (sym same.0) (subst (KeepsTo old.capacity) (sym is) h)

pub limits_on : (old mid new : Arena) → SameLimits old mid → SameLimits mid new → SameLimits old new
limits_on old mid new same more = (more.0 ∙ same.0, more.1 ∙ same.1)

-- what is refused after a step that leaves the limits, or written, is so from the start
pub refuses_on : (old mid : Arena) (e : WriteFault) (wanted : Written) → SameLimits old mid → Refuses mid.capacity e wanted → Refuses old.capacity e wanted
refuses_on old mid e wanted same h = subst (λ k. Refuses k e wanted) same.0 h

pub writes_on : {X : Type 0} (old mid new : Arena) (r : Result X WriteFault) (wanted : Written) → SameLimits old mid → Writes mid new r wanted → Writes old new r wanted
writes_on old mid new (Ok x) wanted same h = (h.0, h.1, limits_on old mid new same h.2)
writes_on old mid new (Err e) wanted same h = refuses_on old mid e wanted same h

-- words that were counted were appended
abbrev Appended : Arena → List ℕ → Strip → Arena → Type 0
Appended old ws v mid = (written (record mid { last = v }) ≡ append ws (written old)) × IsWithin (record mid { last = v }) × SameLimits old (record mid { last = v })

pub counted : (old mid : Arena) (v : Strip) (ws : List ℕ) (n : ℕ) → IsWithin old → length ws ≡ n → old.words + n ≤ old.capacity.whole → mid ≡ record old { words = old.words + n } → words_on v ≡ words_on mid.last ++ ws → Appended old ws v mid
counted old mid v ws n h long most count is =
    let last : words_on v ≡ words_on old.last ++ ws = is ∙ ap (λ (w : Arena). words_on w.last ++ ws) count in
    let new : Arena = record old { words = old.words + n; last = v } in
    let e : written new ≡ append ws (written old) = rw (last, long) refl in
    subst (Appended old ws v) (sym count) (e, within old new _ e (refl, refl) (append-keeps old.capacity (written old) ws h (omega (arith, long, most))), (refl, refl))

-- where a body is placed directly, and where not
pub place-here : (s p : ℕ) (k : BodyKind) (size : ℕ) (F : Written) → (size ≡ 0) ⊎ (s ≡ length F.full) → place_in s p k size F ≡ here s p k F
place-here s p k zero F h = refl
place-here s p k (suc size) F (inl e) = absurd (omega (arith, e))
place-here s p k (suc size) F (inr e) = rw (ne_eqb (suc size) 0 (λ z. omega (arith, z)), eq-eqb s (length F.full) e) refl

pub place-there : (s p : ℕ) (k : BodyKind) (size : ℕ) (F : Written) → 0 < size → s ≢ length F.full → place_in s p k size F ≡ after_landing_pad s p k F
place-there s p k zero F some other = absurd (omega (arith, some))
place-there s p k (suc size) F some other = rw (ne_eqb (suc size) 0 (λ z. omega (arith, z)), ne_eqb s (length F.full) other) refl

pub place-cases : (P : Placed → Type 0) (s p : ℕ) (k : BodyKind) (size : ℕ) (F : Written) → ((size ≡ 0) ⊎ (s ≡ length F.full) → P (here s p k F)) → (0 < size → s ≢ length F.full → P (after_landing_pad s p k F)) → P (place_in s p k size F)
place-cases P s p k zero F direct padded = direct (inl refl)
place-cases P s p k (suc size) F direct padded = ⊎_elim
    (λ e. subst P (sym (place-here s p k (suc size) F (inr e))) (direct (inr e)))
    (λ n. subst P (sym (place-there s p k (suc size) F (omega arith) n)) (padded (omega arith) n))
    (cases_eq s (length F.full))

-- a place that was written stays one, where there is capacity for more
pub place-stays : (capacity : Capacity) (s size : ℕ) (F : Written) (at : Place) → IsPlace F at → IsPlace (with_segment_for capacity s size F) at
place-stays capacity s size F at h = with_room_keeps (λ G. IsPlace G at) capacity s size F h (λ more. (omega (arith, full-begin F, h.0), omega (arith, end-begin F at.segment, h.1)))

pub capacity-goes : (capacity : Capacity) (s size : ℕ) (F : Written) → length F.full ≤ length (with_segment_for capacity s size F).full
capacity-goes capacity s size F = with_room_keeps (λ G. length F.full ≤ length G.full) capacity s size F (omega arith) (λ more. omega (arith, full-begin F))
