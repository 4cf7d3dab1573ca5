-- What was set is read back.
use Rattle.std.proofs.Common.{◌≡◌, ℕ, zero, suc, ◌+◌, ◌-◌, ◌*◌, ◌/◌, ◌%◌, ◌^◌, ◌<◌, List, [], ◌∷◌, ◌++◌, length, set, get_or, get_or-set_same, ap, ◌∙◌, refl, arith, subst, sym}
use Rattle.std.specs.Prelude.{slice_index, slice_index_or, take, Bool, true, false, not, bit_xor, if◌then◌else◌, Result, Ok, ◌==◌}
use Rattle.std.proofs.lemmas.Nat.{shr_high, mod_low, mod_below, pow_pos, xor_lt}
use lib.Bits.{xor_assoc, xor_self, xor_zero_r}
use Rattle.std.proofs.lemmas.List.{length-append}
use Rattle.cp_tree.specs.Node.{Node, null, cap, list, ptrs, structs, bytes, struct, Nodes, no_nodes, node, data_of, count}
use Rattle.cp_tree.specs.Seen.{pointee_of, node_at}
use Rattle.cp_tree.specs.Elements.{element}
use Rattle.cp_fields.specs.Numbers.{plain, uint, flag}
use Rattle.cp_fields.specs.Pointers.{pointers_of, ends_in_zero, text_field}
use Rattle.cp_fields.specs.Kinds.{wrong}
use Rattle.cp_fields.specs.declared.kind.Kind.TheVariants as kinds
use Rattle.cp_fields.specs.declared.kind.WrongKind.{WrongKind}
use Rattle.cp_builder.specs.Numbers.{put, with_number, flag_bit}
use Rattle.cp_builder.specs.Drafts.{with_uint, with_node, with_pointer, text_tree}

-- the bits of a word that were replaced are those of the number
put_read : (word w s n : ℕ) → n < 2 ^ w → put word w s n / 2 ^ s % 2 ^ w ≡ n
put_read word w s n small =
    ap (λ (x : ℕ). x % 2 ^ w) (shr_high (word / 2 ^ (s + w) * 2 ^ w + n) s (word % 2 ^ s) (mod_below word (2 ^ s) (pow_pos s)))
    ∙ mod_low (word / 2 ^ (s + w)) w n small

element_back : (ws : List ℕ) (w i n : ℕ) → i * w / 64 < length ws → n < 2 ^ w → element (with_number ws w i n) w i ≡ n
element_back ws w i n within small =
    ap (λ (x : ℕ). x / 2 ^ (i * w % 64) % 2 ^ w) (get_or-set_same ws (i * w / 64) (put (slice_index ws (i * w / 64)) w (i * w % 64) n) 0 within)
    ∙ put_read (slice_index ws (i * w / 64)) w (i * w % 64) n small

pub number_back : (t : Node) (w i n : ℕ) → i * w / 64 < length (data_of t) → n < 2 ^ w → plain (with_uint t w i n) w i ≡ n
number_back (struct ws ts) w i n within small = element_back ws w i n within small
number_back null w i n within small = absurd (omega (arith, within))
number_back (cap k) w i n within small = absurd (omega (arith, within))
number_back (list es) w i n within small = absurd (omega (arith, within))
number_back (ptrs ts) w i n within small = absurd (omega (arith, within))
number_back (structs d k bs) w i n within small = absurd (omega (arith, within))

-- a number that is xor'd with another one twice is as it was
xor_back : (n d : ℕ) → bit_xor (bit_xor n d) d ≡ n
xor_back n d = xor_assoc n d d ∙ ap (λ (x : ℕ). bit_xor n x) (xor_self d) ∙ xor_zero_r n

pub number_back_or : (t : Node) (w i n d : ℕ) → i * w / 64 < length (data_of t) → n < 2 ^ w → d < 2 ^ w → uint (with_uint t w i (bit_xor n d)) w i d ≡ n
number_back_or t w i n d within small default =
    ap (λ (x : ℕ). bit_xor x d) (number_back t w i (bit_xor n d) within (xor_lt w n d small default)) ∙ xor_back n d

bit_fits : (b : Bool) → flag_bit b < 2 ^ 1
bit_fits true = omega arith
bit_fits false = omega arith

bit_is : (b : Bool) → (flag_bit b == 1) ≡ b
bit_is true = refl
bit_is false = refl

twice_turned : (b : Bool) → not (not b) ≡ b
twice_turned true = refl
twice_turned false = refl

pub bit_back : (t : Node) (i : ℕ) (b : Bool) → i / 64 < length (data_of t) → flag (with_uint t 1 i (flag_bit b)) i ≡ b
bit_back t i b within = ap (λ (x : ℕ). x == 1) (number_back t 1 i (flag_bit b) (omega (arith, within)) (bit_fits b)) ∙ bit_is b

pub bit_back_or_true : (t : Node) (i : ℕ) (b : Bool) → i / 64 < length (data_of t) → not (flag (with_uint t 1 i (flag_bit (not b))) i) ≡ b
bit_back_or_true t i b within = ap not (bit_back t i (not b) within) ∙ twice_turned b

node_back : (ts : Nodes) (i : ℕ) (x : Node) → i < count ts → node_at (with_node ts i x) i ≡ x
node_back no_nodes i x within = absurd (omega (arith, within))
node_back (node t ts) zero x within = refl
node_back (node t ts) (suc i) x within = node_back ts i x (omega (arith, within))

pub pointer_back : (t : Node) (i : ℕ) (x : Node) → i < count (pointers_of t) → pointee_of (with_pointer t i x) i ≡ x
pointer_back (struct ws ts) i x within = node_back ts i x within
pointer_back null i x within = absurd (omega (arith, within))
pointer_back (cap k) i x within = absurd (omega (arith, within))
pointer_back (list es) i x within = absurd (omega (arith, within))
pointer_back (ptrs ts) i x within = absurd (omega (arith, within))
pointer_back (structs d k bs) i x within = absurd (omega (arith, within))

last_zero : (bs : List ℕ) → slice_index_or (bs ++ 0 ∷ []) (length bs) 1 ≡ 0
last_zero [] = refl
last_zero (b ∷ bs) = last_zero bs

front : (bs : List ℕ) → take (length bs) (bs ++ 0 ∷ []) ≡ bs
front [] = refl
front (b ∷ bs) = ap (λ (l : List ℕ). b ∷ l) (front bs)

one_less : (bs : List ℕ) → length (bs ++ 0 ∷ []) - 1 ≡ length bs
one_less bs = omega (arith, length-append bs (0 ∷ []))

ends : (bs : List ℕ) → ends_in_zero (bs ++ 0 ∷ []) ≡ true
ends bs = ap (λ (k : ℕ). slice_index_or (bs ++ 0 ∷ []) k 1 == 0) (one_less bs) ∙ ap (λ (x : ℕ). x == 0) (last_zero bs)

pub text_back : (default bs : List ℕ) → text_field default (text_tree bs) ≡ Ok bs
text_back default bs =
    ap (λ (b : Bool). if◌then◌else◌ {A = Result (List ℕ) WrongKind} b (Ok (take (length (bs ++ 0 ∷ []) - 1) (bs ++ 0 ∷ []))) (wrong kinds.Text (list (bytes (bs ++ 0 ∷ []))))) (ends bs)
    ∙ ap (λ (l : List ℕ). Ok l) (ap (λ (k : ℕ). take k (bs ++ 0 ∷ [])) (one_less bs) ∙ front bs)
