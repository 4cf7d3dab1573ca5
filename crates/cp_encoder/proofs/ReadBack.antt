-- What was given is read from the struct that is made: fields that are put later leave it as it is.
use Rattle.std.proofs.Common.{◌≡◌, ◌≢◌, ℕ, zero, suc, ◌^◌, ◌<◌, List, [], ◌∷◌, length, map, replicate, refl, ap, sym, subst, ◌∙◌, arith, rules}
use Rattle.std.specs.Prelude.{All, AllPairs, bit_xor}
use Rattle.std.proofs.Math.Nat.{mod-eq_of_lt}
use Rattle.std.proofs.lemmas.Nat.{mod_below, pow_pos, xor_lt}
use Rattle.std.proofs.lemmas.List.{length-replicate, length-set}
use Rattle.std.proofs.lemmas.List.Elements.{All-nil, All-cons}
use Rattle.cp_tree.specs.Node.{Node, null, struct, Nodes, no_nodes, node, count}
use Rattle.cp_tree.specs.NodeOf.{nodes_of}
use Rattle.cp_tree.specs.Seen.{node_at}
use Rattle.cp_tree.proofs.Trees.{count-nodes}
use Rattle.cp_fields.specs.Numbers.{plain, uint}
use Rattle.cp_builder.specs.Drafts.{with_node}
use Rattle.cp_builder.specs.Numbers.{with_number, IsInWord}
use Rattle.cp_builder.proofs.ReadBack.{number_back_or, pointer_back}
use Rattle.cp_builder.proofs.Others.{number_stays, pointer_stays}
use Rattle.cp_encoder.specs.declared.value.Width.{Width}
use Rattle.cp_encoder.specs.declared.value.Width.TheVariants as widths
use Rattle.cp_encoder.specs.declared.value.Number.{Number}
use Rattle.cp_encoder.specs.declared.value.Fields.{Fields, out-Fields, the_lemmas}
use Rattle.cp_encoder.specs.declared.value.TextPointer.{TextPointer}
use Rattle.cp_encoder.specs.Values.{bits_in, stored, with_stored, with_all_stored, with_all_nodes, value_node, fields_body, fields_node, placed}
use Rattle.cp_encoder.specs.ReadBack.{FitsIn, AreBeside, numbers_of, pointers_of, HasOwnBits, HasOwnPlaces, IsNumberOf, IsPointerOf}

-- what holds of each element of a list, and of each pair
first_of : {X : Type 0} (P : X → Type 0) (x : X) (xs : List X) → All P (x ∷ xs) → P x
first_of P x xs each = each 0 x (omega arith)

rest_of : {X : Type 0} (P : X → Type 0) (x : X) (xs : List X) → All P (x ∷ xs) → All P xs
rest_of P x xs each = λ k d within. each (suc k) d (omega (arith, within))

with_first : {X : Type 0} (R : X → X → Type 0) (x : X) (xs : List X) → AllPairs R (x ∷ xs) → All (R x) xs
with_first R x xs pairs = λ k d within. pairs 0 (suc k) d (omega arith) (omega (arith, within))

after_first : {X : Type 0} (R : X → X → Type 0) (x : X) (xs : List X) → AllPairs R (x ∷ xs) → AllPairs R xs
after_first R x xs pairs = λ i j d before within. pairs (suc i) (suc j) d (omega (arith, before)) (omega (arith, within))

in_word : (w : Width) (i : ℕ) → IsInWord (bits_in w) i
in_word widths.Bit i = omega arith
in_word widths.Byte i = omega arith
in_word widths.TwoBytes i = omega arith
in_word widths.FourBytes i = omega arith
in_word widths.Word i = omega arith

stored_fits : (n : Number) → stored n < 2 ^ bits_in n.width
stored_fits n = mod_below (bit_xor n.bits n.default) (2 ^ bits_in n.width) (pow_pos (bits_in n.width))

numbers_stay : (ws : List ℕ) (ts : Nodes) (ms : List Number) (n : Number) → All (AreBeside n) ms
    → plain (struct (with_all_stored ws ms) ts) (bits_in n.width) n.place ≡ plain (struct ws ts) (bits_in n.width) n.place
numbers_stay ws ts [] n apart = refl
numbers_stay ws ts (m ∷ ms) n apart =
    numbers_stay (with_stored ws m) ts ms n (rest_of (AreBeside n) m ms apart)
    ∙ number_stays (struct ws ts) (bits_in m.width) m.place (stored m) (bits_in n.width) n.place
    (in_word m.width m.place, stored_fits m) (in_word n.width n.place) (first_of (AreBeside n) m ms apart)

length_kept : (ws : List ℕ) (n : Number) → length (with_stored ws n) ≡ length ws
length_kept ws n = length-set ws _ _

number_back : (ws : List ℕ) (ts : Nodes) (n : Number) → FitsIn (length ws) n → IsNumberOf (struct (with_stored ws n) ts) n
number_back ws ts n fits =
    ap (λ (s : ℕ). uint (struct (with_number ws (bits_in n.width) n.place s) ts) (bits_in n.width) n.place n.default) (mod-eq_of_lt (xor_lt (bits_in n.width) n.bits n.default fits.1 fits.2))
    ∙ number_back_or (struct ws ts) (bits_in n.width) n.place n.bits n.default fits.0 fits.1 fits.2

each_back : (ws : List ℕ) (ts : Nodes) (ns : List Number) → All (FitsIn (length ws)) ns → AllPairs AreBeside ns → All (IsNumberOf (struct (with_all_stored ws ns) ts)) ns
each_back ws ts [] fits apart = All-nil (IsNumberOf (struct ws ts))
each_back ws ts (n ∷ ns) fits apart =
    All-cons (IsNumberOf (struct (with_all_stored (with_stored ws n) ns) ts)) n ns
    (ap (λ (x : ℕ). bit_xor x n.default) (numbers_stay (with_stored ws n) ts ns n (with_first AreBeside n ns apart)) ∙ number_back ws ts n (first_of (FitsIn (length ws)) n ns fits))
    (each_back (with_stored ws n) ts ns
    (subst (λ (d : ℕ). All (FitsIn d) ns) (sym (length_kept ws n)) (rest_of (FitsIn (length ws)) n ns fits))
    (after_first AreBeside n ns apart))

body_is : (f : Fields) → fields_body f ≡ (with_all_stored (replicate (out-Fields f).words 0) (numbers_of f), with_all_nodes (nodes_of (replicate (out-Fields f).pointers null)) (map placed (pointers_of f)))
body_is f = search (rules, the_lemmas)

pub numbers_back : (f : Fields) → HasOwnBits f → All (IsNumberOf (fields_node f)) (numbers_of f)
numbers_back f own =
    subst (λ (b : List ℕ × Nodes). All (IsNumberOf (struct b.0 b.1)) (numbers_of f)) (sym (body_is f))
    (each_back (replicate (out-Fields f).words 0) (with_all_nodes (nodes_of (replicate (out-Fields f).pointers null)) (map placed (pointers_of f))) (numbers_of f)
    (subst (λ (d : ℕ). All (FitsIn d) (numbers_of f)) (sym (length-replicate (out-Fields f).words 0)) own.0)
    own.1)

placed_is : (p : TextPointer) → placed p ≡ (p.place, value_node p.value)
placed_is p = search (rules, the_lemmas)

count_kept : (ts : Nodes) (i : ℕ) (t : Node) → count (with_node ts i t) ≡ count ts
count_kept no_nodes i t = refl
count_kept (node old ts) zero t = refl
count_kept (node old ts) (suc i) t = ap suc (count_kept ts i t)

pointers_stay : (ts : Nodes) (ps : List TextPointer) (i : ℕ) → All (λ (p : TextPointer). p.place ≢ i) ps → node_at (with_all_nodes ts (map placed ps)) i ≡ node_at ts i
pointers_stay ts [] i apart = refl
pointers_stay ts (p ∷ ps) i apart =
    ap (λ (b : ℕ × Node). node_at (with_all_nodes (with_node ts b.0 b.1) (map placed ps)) i) (placed_is p)
    ∙ pointers_stay (with_node ts p.place (value_node p.value)) ps i (rest_of (λ (q : TextPointer). q.place ≢ i) p ps apart)
    ∙ pointer_stays (struct [] ts) p.place (value_node p.value) i (first_of (λ (q : TextPointer). q.place ≢ i) p ps apart)

each_held : (ts : Nodes) (ps : List TextPointer) → All (λ (p : TextPointer). p.place < count ts) ps → AllPairs (λ (p q : TextPointer). q.place ≢ p.place) ps
    → All (λ (p : TextPointer). node_at (with_all_nodes ts (map placed ps)) p.place ≡ value_node p.value) ps
each_held ts [] within apart = All-nil (λ (p : TextPointer). node_at ts p.place ≡ value_node p.value)
each_held ts (p ∷ ps) within apart =
    let next : Nodes = with_node ts p.place (value_node p.value) in
    subst (λ (b : ℕ × Node). All (λ (q : TextPointer). node_at (with_all_nodes (with_node ts b.0 b.1) (map placed ps)) q.place ≡ value_node q.value) (p ∷ ps)) (sym (placed_is p))
    (All-cons (λ (q : TextPointer). node_at (with_all_nodes next (map placed ps)) q.place ≡ value_node q.value) p ps
    (pointers_stay next ps p.place (with_first (λ (q r : TextPointer). r.place ≢ q.place) p ps apart)
    ∙ pointer_back (struct [] ts) p.place (value_node p.value) (first_of (λ (q : TextPointer). q.place < count ts) p ps within))
    (each_held next ps
    (subst (λ (n : ℕ). All (λ (q : TextPointer). q.place < n) ps) (sym (count_kept ts p.place (value_node p.value))) (rest_of (λ (q : TextPointer). q.place < count ts) p ps within))
    (after_first (λ (q r : TextPointer). r.place ≢ q.place) p ps apart)))

nulls_counted : (n : ℕ) → count (nodes_of (replicate n null)) ≡ n
nulls_counted n = count-nodes (replicate n null) ∙ length-replicate n null

pub pointers_back : (f : Fields) → HasOwnPlaces f → All (IsPointerOf (fields_node f)) (pointers_of f)
pointers_back f own =
    subst (λ (b : List ℕ × Nodes). All (IsPointerOf (struct b.0 b.1)) (pointers_of f)) (sym (body_is f))
    (each_held (nodes_of (replicate (out-Fields f).pointers null)) (pointers_of f)
    (subst (λ (n : ℕ). All (λ (p : TextPointer). p.place < n) (pointers_of f)) (sym (nulls_counted (out-Fields f).pointers)) own.0)
    own.1)
