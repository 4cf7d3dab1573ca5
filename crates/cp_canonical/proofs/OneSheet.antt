-- What is written into one segment is a tree's layout there.
use Rattle.std.proofs.Common.{◌≡◌, inr, ℕ, ◌+◌, ◌*◌, ◌==◌, if◌then◌else◌, negsuc, Bool, true, false, List, [], ◌∷◌, ◌++◌, length, replicate, set, refl, sym, ap, subst, ◌∙◌, arith}
use Rattle.std.proofs.lemmas.Bool.Decides.{nat_tests}
use Rattle.std.proofs.lemmas.List.{append_assoc}
use Rattle.cp_words.specs.Word.{word_of, words_for}
use Rattle.cp_words.specs.declared.pointer.ElementSize.TheVariants as sizes
use Rattle.cp_words.specs.declared.pointer.Pointer.TheVariants as pointers
use Rattle.cp_words.specs.declared.kind.BodyKind.{BodyKind}
use Rattle.cp_words.specs.declared.kind.BodyKind.TheVariants as kinds
use Rattle.cp_tree.specs.Node.{element_size, element_count, Node, null, cap, struct, list, ptrs, structs, Nodes, no_nodes, node, Bodies, no_bodies, body, count, number_of}
use Rattle.cp_words.specs.Limits.{Bounds}
use Rattle.cp_writing.specs.LaidOut.{capacity_for}
use Rattle.cp_writing.specs.Packed.{packed}
use Rattle.cp_writing.specs.Sheets.{Written, put, append, Placed, with_segment_for, place_in, place_by}
use Rattle.cp_writing.specs.Writing.{body_blank, bodies_blank, tag_word, begun, tree_by, row_by, bodies_by}
use Rattle.cp_writing.proofs.Sheets.{with_room_keeps, place-here}
use Rattle.cp_canonical.specs.Arenas.{pointed, with_body, with_ptrs, with_tag, with_tree, with_row, with_bodies}

-- one segment, of these words
abbrev pub sole : List ℕ → ℕ → Written
sole ws n = record { full = []; last = ws; words = n }

-- there is one segment, of these words
abbrev pub Holds : Written → List ℕ → Type 0
Holds F ws = (n : ℕ) × (F ≡ sole ws n)

no_row : (ts : Nodes) (p : ℕ) (ws : List ℕ) → count ts ≡ 0 → with_row p ts ws ≡ ws
no_row no_nodes p ws e = refl
no_row (node t ts) p ws e = absurd (omega (arith, e))

module _ (most : ℕ) (limits : Bounds) where
  -- a body is placed after the last word
  placed : (p : ℕ) (k : BodyKind) (size : ℕ) (ws : List ℕ) (n : ℕ) → place_by (capacity_for most 1 limits) 0 p k size (sole ws n) ≡ record { arena = sole (pointed p k ws) n; at = record { segment = 0; word = length ws } }
  placed p k size ws n =
      let same : with_segment_for (capacity_for most 1 limits) 0 size (sole ws n) ≡ sole ws n = with_room_keeps (λ G. G ≡ sole ws n) (capacity_for most 1 limits) 0 size (sole ws n) refl (λ more. absurd (omega (arith, more))) in
      ap (place_in 0 p k size) same ∙ place-here 0 p k size (sole ws n) (inr refl)

  -- a struct, by what its pointers are written as; one of size zero has none
  struct_case : (ds : List ℕ) (ts : Nodes) (p n : ℕ) (ws : List ℕ)
      → Holds (row_by (capacity_for most 1 limits) 0 (length ws + length ds) ts (append (body_blank ds (count ts)) (sole (pointed p (kinds.Struct (length ds) (count ts)) ws) n))) (with_row (length ws + length ds) ts (with_body p (kinds.Struct (length ds) (count ts)) (body_blank ds (count ts)) ws))
      → Holds (tree_by (capacity_for most 1 limits) 0 p (struct ds ts) (sole ws n)) (with_tree p (struct ds ts) ws)
  struct_case ds ts p n ws row = go (length ds + count ts == 0) refl
    where
      go : (b : Bool) → (length ds + count ts == 0) ≡ b
          → Holds
          (if b then put 0 p (word_of (pointers.Struct (negsuc 0) 0 0)) (sole ws n)
          else (let x : Placed = begun (body_blank ds (count ts)) (length ds) (place_by (capacity_for most 1 limits) 0 p (kinds.Struct (length ds) (count ts)) (length ds + count ts) (sole ws n)) in row_by (capacity_for most 1 limits) x.at.segment x.at.word ts x.arena))
          (with_row (length ws + length ds) ts (if b then set ws p (word_of (pointers.Struct (negsuc 0) 0 0)) else with_body p (kinds.Struct (length ds) (count ts)) (body_blank ds (count ts)) ws))
      go true e = let none : count ts ≡ 0 = grind (arith, nat_tests, e) in (n, ap (λ vs. sole vs n) (sym (no_row ts (length ws + length ds) _ none)))
      go false e =
          subst (λ y. Holds (let x : Placed = begun (body_blank ds (count ts)) (length ds) y in row_by (capacity_for most 1 limits) x.at.segment x.at.word ts x.arena) (with_row (length ws + length ds) ts (with_body p (kinds.Struct (length ds) (count ts)) (body_blank ds (count ts)) ws)))
          (sym (placed p (kinds.Struct (length ds) (count ts)) (length ds + count ts) ws n)) row

  mutual
    pub one_tree : (t : Node) (p n : ℕ) (ws : List ℕ) → Holds (tree_by (capacity_for most 1 limits) 0 p t (sole ws n)) (with_tree p t ws)
    one_tree null p n ws = (n, refl)
    one_tree (cap i) p n ws = (n, refl)
    one_tree (struct ds ts) p n ws = struct_case ds ts p n ws (one_row ts (length ws + length ds) _ _)
    one_tree (list es) p n ws = (_, ap (λ (x : Placed). append (packed es) x.arena) (placed p (kinds.List (element_size es) (element_count es)) (words_for (element_size es) (element_count es)) ws n))
    one_tree (ptrs ts) p n ws =
        let here : length ws + 0 ≡ length ws = omega arith in
        subst (λ y. Holds (let x : Placed = begun (replicate (count ts) 0) 0 y in row_by (capacity_for most 1 limits) x.at.segment x.at.word ts x.arena) (with_row (length ws) ts (with_ptrs p (count ts) ws)))
        (sym (placed p (kinds.List sizes.Pointer (count ts)) (count ts) ws n))
        (subst (λ q. Holds (row_by (capacity_for most 1 limits) 0 q ts (append (replicate (count ts) 0) (sole (pointed p (kinds.List sizes.Pointer (count ts)) ws) n))) (with_row (length ws) ts (with_ptrs p (count ts) ws))) (sym here) (one_row ts (length ws) _ _))
    one_tree (structs d m bs) p n ws =
        let k : BodyKind = kinds.List sizes.Composite (number_of bs * (d + m)) in
        let all : pointed p k ws ++ (tag_word (number_of bs) d m ∷ bodies_blank bs) ≡ with_tag p d m (number_of bs) ws ++ bodies_blank bs = sym (append_assoc (pointed p k ws) (tag_word (number_of bs) d m ∷ []) (bodies_blank bs)) in
        subst (λ y. Holds (let x : Placed = begun (tag_word (number_of bs) d m ∷ bodies_blank bs) 1 y in bodies_by (capacity_for most 1 limits) x.at.segment x.at.word d m bs x.arena) (with_bodies (length ws + 1) d m bs (with_tag p d m (number_of bs) ws ++ bodies_blank bs)))
        (sym (placed p k (number_of bs * (d + m) + 1) ws n))
        (subst (λ vs. Holds (bodies_by (capacity_for most 1 limits) 0 (length ws + 1) d m bs (append (tag_word (number_of bs) d m ∷ bodies_blank bs) (sole (pointed p k ws) n))) (with_bodies (length ws + 1) d m bs vs)) all (one_bodies bs (length ws + 1) d m _ _))

    one_row : (ts : Nodes) (p n : ℕ) (ws : List ℕ) → Holds (row_by (capacity_for most 1 limits) 0 p ts (sole ws n)) (with_row p ts ws)
    one_row no_nodes p n ws = (n, refl)
    one_row (node t ts) p n ws =
        let first = one_tree t p n ws in
        subst (λ F. Holds (row_by (capacity_for most 1 limits) 0 (p + 1) ts F) (with_row (p + 1) ts (with_tree p t ws))) (sym first.1) (one_row ts (p + 1) first.0 (with_tree p t ws))

    one_bodies : (bs : Bodies) (q d m n : ℕ) (ws : List ℕ) → Holds (bodies_by (capacity_for most 1 limits) 0 q d m bs (sole ws n)) (with_bodies q d m bs ws)
    one_bodies no_bodies q d m n ws = (n, refl)
    one_bodies (body ds ts bs) q d m n ws =
        let first = one_row ts (q + d) n ws in
        subst (λ F. Holds (bodies_by (capacity_for most 1 limits) 0 (q + d + m) d m bs F) (with_bodies (q + d + m) d m bs (with_row (q + d) ts ws))) (sym first.1) (one_bodies bs (q + d + m) d m first.0 (with_row (q + d) ts ws))
