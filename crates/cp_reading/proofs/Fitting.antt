-- What words of 64 bits denote, a message can hold.
use Rattle.std.proofs.Common.{◌≡◌, inl, inr, ℕ, ◌+◌, ◌/◌, ◌%◌, ◌<◌, ◌^◌, ℤ, ◌∷◌, zero, suc, ◌==◌, if◌then◌else◌, List, [], length, All, Bool, true, false, Some, None, slice_index, slice_index_or, subst, arith}
use Rattle.std.proofs.lemmas.List.Elements.{All-head, All-tail, All-take, All-drop, All-map, All-same}
use Rattle.std.specs.List.{range_with_len}
use Rattle.cp_words.specs.Word.{pointer_of, tag_of, offset_of, high_of, size_of}
use Rattle.cp_words.specs.declared.pointer.ElementSize.TheVariants as sizes
use Rattle.cp_words.specs.declared.pointer.Pointer.{Pointer}
use Rattle.cp_words.specs.declared.pointer.Pointer.TheVariants as pointers
use Rattle.cp_words.specs.declared.pointer.Tag.{Tag}
use Rattle.cp_words.specs.declared.kind.BodyKind.{BodyKind}
use Rattle.cp_words.specs.declared.kind.BodyKind.TheVariants as kinds
use Rattle.cp_words.specs.Targets.{segment, Holds, IsBodyPointer, IsLandingPadTag, HasTargetHere, HasTarget, words_at}
use Rattle.cp_tree.specs.Elements.{element, elements_of, numbers}
use Rattle.cp_reading.specs.Denotes.{Denotes, EachDenotes, EachBody}
use Rattle.cp_tree.specs.Node.{Elements, voids, bits, bytes, halves, quads, words, element_size, element_count, Node, null, cap, struct, list, ptrs, structs, Nodes, no_nodes, node, Bodies, no_bodies, body, count}
use Rattle.cp_tree.specs.Shaped.{AllFit, HasSizes, ElementsFit, Shaped, EachShaped, EachEven}
use Rattle.cp_reading.proofs.Views.{some_is}

-- the parts of a pointer fit their bits
abbrev PointerFits : Pointer → Type 0
PointerFits pointers.Null = Unit {0}
PointerFits (pointers.Struct offset d n) = HasSizes d n
PointerFits (pointers.List offset size n) = n < 2 ^ 29
PointerFits (pointers.Far double place other) = Unit {0}
PointerFits (pointers.Cap i) = i < 2 ^ 32

abbrev KindFits : BodyKind → Type 0
KindFits (kinds.Struct d n) = HasSizes d n
KindFits (kinds.List size n) = n < 2 ^ 29

pointer_fits : (w : ℕ) → w < 2 ^ 64 → (r : Pointer) → pointer_of w ≡ Some r → PointerFits r
unfolding pointer_of
pointer_fits w small r e = go (w == 0) (w % 4 == 0) (w % 4 == 1) (w % 4 == 2) (w % 2 ^ 32 == 3) e
  where
    go : (a b c d f : Bool) → (if a then Some pointers.Null
        else (if b then Some (pointers.Struct (offset_of w) (high_of w % 2 ^ 16) (high_of w / 2 ^ 16))
        else (if c then Some (pointers.List (offset_of w) (size_of (high_of w % 8)) (high_of w / 8))
        else (if d then Some (pointers.Far (w / 4 % 2 == 1) (w / 8 % 2 ^ 29) (high_of w))
        else (if f then Some (pointers.Cap (high_of w)) else None))))) ≡ Some r → PointerFits r
    go true b c d f k = subst PointerFits (some_is k) tt
    go false true c d f k = subst PointerFits (some_is k) (omega arith, omega arith)
    go false false true d f k = subst PointerFits (some_is k) (omega arith)
    go false false false true f k = subst PointerFits (some_is k) tt
    go false false false false true k = subst PointerFits (some_is k) (omega arith)
    go false false false false false k = cc

tag_fits : (w : ℕ) → w < 2 ^ 64 → (t : Tag) → tag_of w ≡ Some t → (t.count < 2 ^ 30) × HasSizes t.words t.ptrs
unfolding tag_of
tag_fits w small t e = go (w % 4 == 0) e
  where
    go : (a : Bool) → (if a then Some (record { count = w / 4 % 2 ^ 30; words = high_of w % 2 ^ 16; ptrs = high_of w / 2 ^ 16 }) else None) ≡ Some t → (t.count < 2 ^ 30) × HasSizes t.words t.ptrs
    go true k = subst (λ (x : Tag). (x.count < 2 ^ 30) × HasSizes x.words x.ptrs) (some_is k) (omega arith, (omega arith, omega arith))
    go false k = cc

body_fits : (r : Pointer) (o : ℤ) (k : BodyKind) → PointerFits r → IsBodyPointer r o k → KindFits k
body_fits pointers.Null o k f i = absurd i
body_fits (pointers.Struct offset d n) o k f i = subst KindFits i.1 f
body_fits (pointers.List offset size n) o k f i = subst KindFits i.1 f
body_fits (pointers.Far double place other) o k f i = absurd i
body_fits (pointers.Cap c) o k f i = absurd i

pad_tag_fits : (r : Pointer) (k : BodyKind) → PointerFits r → IsLandingPadTag r k → KindFits k
pad_tag_fits pointers.Null k f i = subst KindFits i (omega arith, omega arith)
pad_tag_fits (pointers.Struct offset d n) k f i = subst KindFits i.1 f
pad_tag_fits (pointers.List offset size n) k f i = subst KindFits i.1 f
pad_tag_fits (pointers.Far double place other) k f i = absurd i
pad_tag_fits (pointers.Cap c) k f i = absurd i

pub list_at_fits : (S : List (List ℕ)) → All (AllFit 64) S → (s : ℕ) → AllFit 64 (slice_index_or S s [])
list_at_fits [] fit s = λ k d within. absurd (omega arith)
list_at_fits (ws ∷ S) fit zero = All-head (AllFit 64) ws S fit
list_at_fits (ws ∷ S) fit (suc s) = list_at_fits S (All-tail (AllFit 64) ws S fit) s

pub word_at_fits : (ws : List ℕ) → AllFit 64 ws → (p : ℕ) → slice_index ws p < 2 ^ 64
word_at_fits [] fit p = omega arith
word_at_fits (w ∷ ws) fit zero = All-head (λ n. n < 2 ^ 64) w ws fit
word_at_fits (w ∷ ws) fit (suc p) = word_at_fits ws (All-tail (λ n. n < 2 ^ 64) w ws fit) p

module _ (S : List (List ℕ)) (fit : All (AllFit 64) S) where
  word_fits : (s p : ℕ) → slice_index (segment S s) p < 2 ^ 64
  word_fits s p = word_at_fits (segment S s) (list_at_fits S fit s) p

  holds_fits : (s p : ℕ) (r : Pointer) → Holds S s p r → PointerFits r
  holds_fits s p r h = pointer_fits _ (word_fits s p) r h.1

  here_fits : (s p : ℕ) (k : BodyKind) (start : ℕ) → HasTargetHere S s p k start → KindFits k
  here_fits s p k start a = body_fits a.pointer a.offset k (holds_fits s p a.pointer a.stands) a.says

  target_fits : (s p : ℕ) (k : BodyKind) (s' start : ℕ) → HasTarget S s p k s' start → KindFits k
  target_fits s p k s' start (inl a) = here_fits s p k start a.0
  target_fits s p k s' start (inr (inl a)) = here_fits s' a.place k start a.landing_pad
  target_fits s p k s' start (inr (inr a)) = pad_tag_fits a.pointer k (holds_fits a.other (a.place + 1) a.pointer a.second) a.says

  words_fit : (s q n : ℕ) → AllFit 64 (words_at S s q n)
  words_fit s q n = All-take (λ x. x < 2 ^ 64) n _ (All-drop (λ x. x < 2 ^ 64) q _ (list_at_fits S fit s))

numbers_fit : (ws : List ℕ) (w n : ℕ) → ((k : ℕ) → element ws w k < 2 ^ w) → AllFit w (numbers ws w n)
numbers_fit ws w n small = All-map (λ x. x < 2 ^ w) (element ws w) (range_with_len 0 n) (λ k d within. small _)

elements_fit : (es : Elements) (ws : List ℕ) → element_count es < 2 ^ 29 → es ≡ elements_of ws (element_size es) (element_count es) → ElementsFit es
elements_fit (voids n) ws f e = f
elements_fit (bits bs) ws f e = f
elements_fit (bytes ns) ws f e = (f, All-same (λ x. x < 2 ^ 8) _ _ (let same : ns ≡ numbers ws 8 (length ns) = cc in same) (numbers_fit ws 8 (length ns) (λ k. omega arith)))
elements_fit (halves ns) ws f e = (f, All-same (λ x. x < 2 ^ 16) _ _ (let same : ns ≡ numbers ws 16 (length ns) = cc in same) (numbers_fit ws 16 (length ns) (λ k. omega arith)))
elements_fit (quads ns) ws f e = (f, All-same (λ x. x < 2 ^ 32) _ _ (let same : ns ≡ numbers ws 32 (length ns) = cc in same) (numbers_fit ws 32 (length ns) (λ k. omega arith)))
elements_fit (words ns) ws f e = (f, All-same (λ x. x < 2 ^ 64) _ _ (let same : ns ≡ numbers ws 64 (length ns) = cc in same) (numbers_fit ws 64 (length ns) (λ k. omega arith)))

module _ (S : List (List ℕ)) (fit : All (AllFit 64) S) where
  mutual
    pub denotes_shaped : (t : Node) (s p : ℕ) → Denotes S s p t → Shaped t
    denotes_shaped null s p h = tt
    denotes_shaped (cap i) s p h = holds_fits S fit s p (pointers.Cap i) h
    denotes_shaped (struct ws ts) s p h =
        (target_fits S fit s p _ _ _ h.2.has_target, All-same (λ x. x < 2 ^ 64) _ _ h.3.0 (words_fit S fit h.0 h.1 (length ws)), each_shaped ts h.0 (h.1 + length ws) h.3.1)
    denotes_shaped (list es) s p h = elements_fit es _ (target_fits S fit s p (kinds.List (element_size es) (element_count es)) h.0 h.1 h.2.has_target) h.3
    denotes_shaped (ptrs ts) s p h = (target_fits S fit s p (kinds.List sizes.Pointer (count ts)) h.0 h.1 h.2.has_target, each_shaped ts h.0 h.1 h.3)
    denotes_shaped (structs d n bs) s p h =
        let l = h.2 in
        let tag = tag_fits _ (word_fits S fit h.0 l.1) _ l.3 in
        let size : l.0 < 2 ^ 29 = target_fits S fit s p (kinds.List sizes.Composite l.0) h.0 l.1 l.2.has_target in
        (tag.1, tag.0, omega (arith, l.4), each_even bs h.0 h.1 d n h.3)

    pub each_shaped : (ts : Nodes) (s p : ℕ) → EachDenotes S s p ts → EachShaped ts
    each_shaped no_nodes s p h = tt
    each_shaped (node t ts) s p h = (denotes_shaped t s p h.0, each_shaped ts s (p + 1) h.1)

    pub each_even : (bs : Bodies) (s q d n : ℕ) → EachBody S s q d n bs → EachEven d n bs
    each_even no_bodies s q d n h = tt
    each_even (body ws ts bs) s q d n h = (h.0, h.1, All-same (λ x. x < 2 ^ 64) _ _ h.2 (words_fit S fit s q d), each_shaped ts s (q + d) h.3, each_even bs s (q + d + n) d n h.4)
