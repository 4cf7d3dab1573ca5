-- What has come of a frame after a word or bytes of it.
use Rattle.std.proofs.Common.{◌≡◌, ◌==◌, inl, inr, Bool, true, false, ℕ, zero, suc, ◌+◌, ◌<◌, List, [], ◌∷◌, ◌++◌, length, refl, sym, ◌∙◌, ap, subst, append_assoc, arith}
use Rattle.std.specs.Int.{to_le_bytes, w64}
use Rattle.std.proofs.lemmas.Bool.{true≢false}
use Rattle.std.proofs.lemmas.Bool.Decides.{nat_tests}
use Rattle.std.proofs.lemmas.List.{append-nil}
use Rattle.std.proofs.lemmas.Grind.{flat_map-append}
use Rattle.cp_words.specs.Limits.{Bounds}
use Rattle.cp_words.specs.Segments.{words_of}
use Rattle.cp_packed.specs.Words.{bytes_of}
use Rattle.cp_frame.specs.declared.frame.OpenFrame.{OpenFrame}
use Rattle.cp_packed.specs.declared.group.OpenGroup.{OpenGroup}
use Rattle.cp_packed.specs.Unpacking.{Pending, nothing, pending_of}
use Rattle.cp_frame.specs.Stream.{named_sizes, numbers}
use Rattle.cp_frame.specs.Parts.{halves, rest_of, EndsInOne, Fills, InTable, IsBegun, IsTable, IsWholeTable, NamesLittle}
use Rattle.cp_frame.proofs.Opened.{rest_in_table}

-- all segments have come, or a part of one
pub begun_closed : (limits : Bounds) (g : OpenFrame) → IsTable limits g.table.items g.total → IsWholeTable g.table.items → Fills (named_sizes (halves g.table.items)) (words_of g.segments.items) g.words.items
    → EndsInOne g.table.items g.segments.items g.words.items → g.part.items ≡ [] → IsBegun limits g
begun_closed limits g table whole fills (inl all) none = inr (record { table = table; whole = whole; fills = fills; all = all; no_part = none })
begun_closed limits g table whole fills (inr less) none =
    inl (inr (record { table = table; whole = whole; fills = fills; goes_on = less; short = omega (arith, ap (λ (b : List ℕ). length b) none) }))

-- one word more of the table
pub rest_pushed : (limits : Bounds) (f : OpenFrame) (word : ℕ) (table B part : List ℕ) → InTable limits f → f.part.items ≡ [] → table ≡ f.table.items ++ word ∷ [] → B ≡ [] → part ≡ []
    → (bytes_of table ++ B) ++ part ≡ rest_of f ++ to_le_bytes w64 word
rest_pushed limits f word table B part h e t b p =
    let T = f.table.items in
    let le = to_le_bytes w64 word in
    let all : (bytes_of table ++ B) ++ part ≡ bytes_of (T ++ word ∷ []) =
    ap (λ (ws : List ℕ). (bytes_of ws ++ B) ++ part) t ∙ ap (λ (c : List ℕ). (bytes_of (T ++ word ∷ []) ++ c) ++ part) b ∙ ap (λ (c : List ℕ). (bytes_of (T ++ word ∷ []) ++ []) ++ c) p
    ∙ append-nil (bytes_of (T ++ word ∷ []) ++ []) ∙ append-nil (bytes_of (T ++ word ∷ [])) in
    all ∙ flat_map-append (to_le_bytes w64) T (word ∷ []) ∙ ap (λ (c : List ℕ). bytes_of T ++ c) (append-nil le)
    ∙ sym (rest_in_table limits f le h ∙ ap (λ (c : List ℕ). bytes_of T ++ (c ++ le)) e)

-- bytes of the segments where no part of a word had come
pub rest_taken : (T B C part back left : List ℕ) → part ≡ [] → C ++ back ≡ B ++ left → ((T ++ C) ++ part) ++ back ≡ ((T ++ B) ++ part) ++ left
rest_taken T B C part back left e k =
    ap (λ (p : List ℕ). ((T ++ C) ++ p) ++ back) e ∙ ap (λ (c : List ℕ). c ++ back) (append-nil (T ++ C)) ∙ append_assoc T C back ∙ ap (λ (c : List ℕ). T ++ c) k ∙ sym (append_assoc T B left)
    ∙ ap (λ (c : List ℕ). c ++ left) (sym (append-nil (T ++ B))) ∙ ap (λ (p : List ℕ). ((T ++ B) ++ p) ++ left) (sym e)

-- a part of a word more
pub rest_part : (X part left new back : List ℕ) → new ≡ part ++ left → back ≡ [] → (X ++ new) ++ back ≡ (X ++ part) ++ left
rest_part X part left new back e k =
    ap (λ (c : List ℕ). (X ++ new) ++ c) k ∙ append-nil (X ++ new) ∙ ap (λ (c : List ℕ). X ++ c) e ∙ sym (append_assoc X part left)

-- the rest of a word
pub rest_word : (X part left new back rest word : List ℕ) → new ≡ [] → part ++ left ≡ word ++ back → rest ≡ (X ++ new) ++ word → rest ++ back ≡ (X ++ part) ++ left
rest_word X part left new back rest word e k r =
    ap (λ (c : List ℕ). c ++ back) (r ∙ ap (λ (c : List ℕ). (X ++ c) ++ word) e ∙ ap (λ (c : List ℕ). c ++ word) (append-nil X)) ∙ append_assoc X word back
    ∙ ap (λ (c : List ℕ). X ++ c) (sym k) ∙ sym (append_assoc X part left)

-- no segment yet
pub fills_none : (sizes : List ℕ) → Fills sizes [] []
fills_none sizes = record { each = tt; are_words = tt; sized = refl; some = omega arith; fitting = omega arith }

-- the table isn't whole yet
pub still_table : (limits : Bounds) (g : OpenFrame) (table : List ℕ) (whole : Bool) → IsTable limits g.table.items g.total → table ≡ g.table.items → (IsWholeTable table → whole ≡ true) → whole ≡ false
    → g.segments.items ≡ [] → g.words.items ≡ [] → g.part.items ≡ [] → InTable limits g
still_table limits g table whole t same k e no_segments no_words none =
    let T = g.table.items in
    let part : IsWholeTable T → ⊥ = λ w. true≢false (sym (k (subst (λ (ws : List ℕ). IsWholeTable ws) (sym same) w)) ∙ e) in
    record {
      table = t;
      goes_on = omega (arith, part);
      no_segments = no_segments;
      no_words = no_words;
      short = omega (arith, ap (λ (b : List ℕ). length b) none);
      little = subst (λ (ns : List ℕ). NamesLittle limits ns) (sym (ap (λ (b : List ℕ). halves T ++ numbers b) none ∙ append-nil (halves T))) t.little;
    }

-- a group of which something has come
some_come : (run : ℕ) (part : List ℕ) → ((run ≡ 0) × (part ≡ []) → ⊥) → 0 < length part + run
some_come zero [] k = absurd (k (refl, refl))
some_come zero (x ∷ part) k = omega arith
some_come (suc n) part k = omega arith

pub unfinished : (g : OpenGroup) → (pending_of g ≡ nothing → ⊥) → 0 < length g.part.items + g.run
unfinished g k =
    some_come g.run g.part.items
    (λ w. k (ap (λ (n : ℕ). let p : Pending = record { run = n; part = g.part.items } in p) w.0 ∙ ap (λ (b : List ℕ). let p : Pending = record { run = 0; part = b } in p) w.1))

-- what the test of an empty list says
pub zero_by : (n : ℕ) (empty : Bool) → empty ≡ (n == 0) → empty ≡ true → n ≡ 0
zero_by n empty h e = grind (arith, nat_tests)
