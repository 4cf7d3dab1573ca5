-- The numbers that a table gives, descriptor by descriptor, and when a number is free.
use Rattle.std.proofs.Common.{◌≡◌, ◌<◌, ◌≤◌, ◌+◌, ℕ, false, nat_lt, List, [], ◌∷◌, ◌++◌, length, drop, get_or, Option, Some, None, sym, ◌∙◌, ap, append_assoc, arith}
use Rattle.std.proofs.lemmas.List.{drop_more}
use Rattle.std.proofs.lemmas.Bool.Decides.{nat_tests}
use Rattle.cp_messages.specs.declared.descriptor.Descriptor.{Descriptor}
use Rattle.cp_messages.specs.declared.descriptor.Descriptor.TheVariants as descriptors
use Rattle.cp_relay.specs.References.{hosted_number, hosted_numbers, first_if}

-- the descriptor at i gives its number first
first_at : (table : List Descriptor) (i : ℕ) (id : Option ℕ) → i < length table → hosted_number (get_or table i descriptors.None) ≡ id → hosted_numbers (drop i table) ≡ first_if id (hosted_numbers (drop (i + 1) table))
first_at table i id h e = ap hosted_numbers (drop_more table i descriptors.None h) ∙ ap (λ x. first_if x (hosted_numbers (drop (i + 1) table))) e

pub taken_at : (table : List Descriptor) (found all : List ℕ) (i id : ℕ) → i < length table → hosted_number (get_or table i descriptors.None) ≡ Some id → found ++ hosted_numbers (drop i table) ≡ all → (found ++ id ∷ []) ++ hosted_numbers (drop (i + 1) table) ≡ all
taken_at table found all i id h e all_is = append_assoc found (id ∷ []) (hosted_numbers (drop (i + 1) table)) ∙ sym (ap (λ x. found ++ x) (first_at table i (Some id) h e)) ∙ all_is

pub passed_at : (table : List Descriptor) (found all : List ℕ) (i : ℕ) → i < length table → hosted_number (get_or table i descriptors.None) ≡ None → found ++ hosted_numbers (drop i table) ≡ all → found ++ hosted_numbers (drop (i + 1) table) ≡ all
passed_at table found all i h e all_is = sym (ap (λ x. found ++ x) (first_at table i None h e)) ∙ all_is

-- what isn't less than the count takes all of it
pub not_less : (n count : ℕ) → count ≤ n → nat_lt n count ≡ false
not_less n count h = grind (arith, nat_tests)
