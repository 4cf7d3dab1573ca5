-- A tree's words are those that are begun for it, and then those of what hangs on it.
use Rattle.std.proofs.Common.{◌≡◌, ℕ, ◌+◌, ◌-◌, ◌*◌, ◌≤◌, ◌==◌, if◌then◌else◌, negsuc, Bool, true, false, List, [], ◌∷◌, ◌++◌, length, take, set, replicate, Option, Result, Ok, Err, refl, sym, ap, ◌∙◌, arith}
use Rattle.std.proofs.lemmas.Bool.Decides.{nat_tests}
use Rattle.std.proofs.lemmas.List.{length-append, length-replicate, length-set}
use Rattle.cp_words.specs.Word.{word_of}
use Rattle.cp_words.specs.declared.kind.BodyKind.{BodyKind}
use Rattle.cp_words.specs.declared.kind.BodyKind.TheVariants as kinds
use Rattle.cp_words.specs.declared.pointer.ElementSize.TheVariants as sizes
use Rattle.cp_words.specs.declared.pointer.Pointer.TheVariants as pointers
use Rattle.cp_tree.specs.Node.{Node, IsStruct, Nodes, Bodies, no_bodies, body, count, number_of, data_of, row_of}
use Rattle.cp_tree.specs.Seen.{AreWordsOf}
use Rattle.cp_tree.specs.Shaped.{EachEven}
use Rattle.cp_reading.specs.Rows.{bodies_in}
use Rattle.cp_writing.specs.Sheets.{body_word}
use Rattle.cp_writing.specs.Writing.{bodies_blank, body_blank, tag_word}
use Rattle.cp_canonical.specs.Cut.{cut, cut_bodies, cut_row, first_cap, first_cap_in, first_cap_of, most_ptrs, most_words, take_ptrs, used_ptrs, used_words}
use Rattle.cp_canonical.specs.Arenas.{IsPtrs, IsStructs, Writes, elements_blank, pointed, with_bodies, with_body, with_ptrs, with_row, with_struct, with_tag, with_tree}
use Rattle.cp_canonical.specs.declared.fault.CanonicalFault.{CanonicalFault}
use Rattle.cp_canonical.specs.declared.arena.Arena.{Arena}
use Rattle.cp_canonical.proofs.Rows.{take_all}
use Rattle.cp_canonical.proofs.Shapes.{count-cut_row, count-take_all, number-cut, ptrs_within}
use Rattle.cp_canonical.proofs.Tops.{cut-ptrs, cut-struct, cut-structs, struct-words}
use Rattle.cp_canonical.proofs.Uses.{used_ptrs-within}
use Rattle.cp_canonical.proofs.Writes.{fails, longer_bodies, longer_row}

-- what is written after something else was begun
pub after : (X : Type 0) (old mid new : Arena) (r : Result X CanonicalFault) (c c' : Option ℕ) (f g : List ℕ → List ℕ) → mid.most ≡ old.most → c ≡ c' → f mid.words.items ≡ g old.words.items
    → Writes {X = X} mid new r c f → Writes {X = X} old new r c' g
after X old mid new (Ok x) c c' f g most caps words h = (h.0 ∙ words, h.1, h.2 ∙ most, sym caps ∙ h.3)
after X old mid new (Err e) c c' f g most caps words h = fails X X old mid new new e c c' f g most (λ i k. sym caps ∙ k) (omega (arith, ap length words)) h

pub ptrs_tree : (t : Node) (p n : ℕ) (old : List ℕ) → IsPtrs t → count (row_of t) ≡ n → with_tree p (cut t) old ≡ with_row (length old) (cut_row (row_of t)) (with_ptrs p n old)
ptrs_tree t p n old is e = ap (λ u. with_tree p u old) (cut-ptrs t is) ∙ ap (λ k. with_row (length old) (cut_row (row_of t)) (with_ptrs p k old)) (count-cut_row (row_of t) ∙ e)

pub ptrs_longer : (t : Node) (p n : ℕ) (old : List ℕ) → IsPtrs t → count (row_of t) ≡ n → length (with_ptrs p n old) ≤ length (with_tree p (cut t) old)
ptrs_longer t p n old is e = omega (arith, longer_row (cut_row (row_of t)) (length old) (with_ptrs p n old), ap length (ptrs_tree t p n old is e))

-- the words and the pointers of a struct that are left
abbrev pub words_left : Node → List ℕ
words_left t = take (used_words (data_of t)) (data_of t)

abbrev pub row_left : Node → Nodes
row_left t = take_ptrs (used_ptrs (row_of t)) (cut_row (row_of t))

pub struct_tree : (t : Node) (p : ℕ) (old : List ℕ) → IsStruct t → with_tree p (cut t) old ≡ with_row (length old + length (words_left t)) (row_left t) (with_struct p (words_left t) (used_ptrs (row_of t)) old)
struct_tree t p old is =
    let number : count (row_left t) ≡ used_ptrs (row_of t) = count-take_all (used_ptrs (row_of t)) (cut_row (row_of t)) (omega (arith, used_ptrs-within (row_of t), count-cut_row (row_of t))) in
    ap (λ u. with_tree p u old) (cut-struct t is) ∙ ap (λ k. with_row (length old + length (words_left t)) (row_left t) (with_struct p (words_left t) k old)) number

pub struct_longer : (t : Node) (p : ℕ) (old : List ℕ) → IsStruct t → length (with_struct p (words_left t) (used_ptrs (row_of t)) old) ≤ length (with_tree p (cut t) old)
struct_longer t p old is =
    omega (arith, longer_row (row_left t) (length old + length (words_left t)) (with_struct p (words_left t) (used_ptrs (row_of t)) old), ap length (struct_tree t p old is))

-- the elements that are cut, with blank words for their pointers
blank_left : (d n m : ℕ) (bs : Bodies) → m ≤ n → EachEven d n bs → (k : ℕ) → bodies_blank (cut_bodies k m bs) ≡ elements_blank k m bs
blank_left d n m no_bodies few even k = refl
blank_left d n m (body ws ts bs) few even k =
    let number : count (take_ptrs m (cut_row ts)) ≡ m = count-take_all m (cut_row ts) (omega (arith, few, even.1, count-cut_row ts)) in
    rw (number, blank_left d n m bs few even.4 k) refl

abbrev pub bodies_left : Node → Bodies
bodies_left t = cut_bodies (most_words (bodies_in t)) (most_ptrs (bodies_in t)) (bodies_in t)

pub structs_tree : (t : Node) (p d n k : ℕ) (old : List ℕ) → IsStructs t d n k → EachEven d n (bodies_in t) → number_of (bodies_in t) ≡ k
    → with_tree p (cut t) old ≡ with_bodies (length old + 1) (most_words (bodies_in t)) (most_ptrs (bodies_in t)) (bodies_left t) (with_tag p (most_words (bodies_in t)) (most_ptrs (bodies_in t)) k old ++ elements_blank (most_words (bodies_in t)) (most_ptrs (bodies_in t)) (bodies_in t))
structs_tree t p d n k old is even e =
    let w = most_words (bodies_in t) in
    let m = most_ptrs (bodies_in t) in
    ap (λ u. with_tree p u old) (cut-structs t d n k is)
    ∙ ap (λ j. with_bodies (length old + 1) w m (bodies_left t) (with_tag p w m j old ++ bodies_blank (bodies_left t))) (number-cut w m (bodies_in t) ∙ e)
    ∙ ap (λ ws. with_bodies (length old + 1) w m (bodies_left t) (with_tag p w m k old ++ ws)) (blank_left d n m (bodies_in t) (ptrs_within d n (bodies_in t) even) even w)

module _ (t : Node) (p d n k : ℕ) (old : List ℕ) (is : IsStructs t d n k) (even : EachEven d n (bodies_in t)) (number : number_of (bodies_in t) ≡ k) where
  abbrev elements_left : List ℕ
  elements_left = elements_blank (most_words (bodies_in t)) (most_ptrs (bodies_in t)) (bodies_in t)

  pub structs_longer : length (with_tag p (most_words (bodies_in t)) (most_ptrs (bodies_in t)) k old ++ elements_left) ≤ length (with_tree p (cut t) old)
  structs_longer =
      let begun = with_tag p (most_words (bodies_in t)) (most_ptrs (bodies_in t)) k old ++ elements_left in
      omega (arith, longer_bodies (bodies_left t) (length old + 1) (most_words (bodies_in t)) (most_ptrs (bodies_in t)) begun, ap length (structs_tree t p d n k old is even number))

  pub tag_longer : length (with_tag p (most_words (bodies_in t)) (most_ptrs (bodies_in t)) k old) ≤ length (with_tree p (cut t) old)
  tag_longer = omega (arith, structs_longer, length-append (with_tag p (most_words (bodies_in t)) (most_ptrs (bodies_in t)) k old) elements_left)

-- how many words are begun
pub length-tag : (p d n k : ℕ) (old : List ℕ) → length (with_tag p d n k old) ≡ length old + 1
length-tag p d n k old =
    let kind : BodyKind = kinds.List sizes.Composite (k * (d + n)) in
    omega (arith, length-append (pointed p kind old) (tag_word k d n ∷ []), length-set old p (body_word kind (length old - (p + 1))))

pub length-struct : (p n : ℕ) (ws old : List ℕ) → length (with_struct p ws n old) ≡ length old + length ws + n
length-struct p n ws old = go (length ws + n == 0) refl
  where
    go : (b : Bool) → (length ws + n == 0) ≡ b → length (if b then set old p (word_of (pointers.Struct (negsuc 0) 0 0)) else with_body p (kinds.Struct (length ws) n) (body_blank ws n) old) ≡ length old + length ws + n
    go true e = let none : length ws + n ≡ 0 = grind (arith, nat_tests, e) in omega (arith, none, length-set old p (word_of (pointers.Struct (negsuc 0) 0 0)))
    go false e =
        let kind : BodyKind = kinds.Struct (length ws) n in
        omega (arith, length-append (pointed p kind old) (body_blank ws n), length-append ws (replicate n 0), length-replicate {A = ℕ} n 0, length-set old p (body_word kind (length old - (p + 1))))

-- the words of a struct that are left, of those that a view lends
pub lent_left : (t : Node) (lent : List ℕ) (n : ℕ) → IsStruct t → AreWordsOf lent t → n ≡ used_words lent → take n lent ≡ words_left t
lent_left t lent n is are e = ap (λ k. take k lent) e ∙ ap (λ ws. take (used_words ws) ws) (struct-words t lent is are)

pub all_left : (t : Node) (n : ℕ) → count (row_of t) ≡ n → take_ptrs n (cut_row (row_of t)) ≡ cut_row (row_of t)
all_left t n e = take_all (cut_row (row_of t)) n (omega (arith, count-cut_row (row_of t), e))

-- the capabilities of what is left of a struct, of a list of pointers and of a composite list
pub struct_caps : (t : Node) (n : ℕ) → IsStruct t → n ≡ used_ptrs (row_of t) → first_cap_in (take_ptrs n (cut_row (row_of t))) ≡ first_cap (cut t)
struct_caps t n is e = ap (λ k. first_cap_in (take_ptrs k (cut_row (row_of t)))) e ∙ ap first_cap (sym (cut-struct t is))

pub ptrs_caps : (t : Node) (n : ℕ) → IsPtrs t → count (row_of t) ≡ n → first_cap_in (take_ptrs n (cut_row (row_of t))) ≡ first_cap (cut t)
ptrs_caps t n is e = ap first_cap_in (all_left t n e) ∙ ap first_cap (sym (cut-ptrs t is))

pub structs_caps : (t : Node) (d n k : ℕ) → IsStructs t d n k → first_cap_of (bodies_left t) ≡ first_cap (cut t)
structs_caps t d n k is = ap first_cap (sym (cut-structs t d n k is))
