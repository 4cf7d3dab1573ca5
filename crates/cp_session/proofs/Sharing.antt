-- What sessions take of the pool, and what they keep together.
use Rattle.std.proofs.Common.{◌≡◌, ℕ, ◌+◌, ◌-◌, ◌*◌, ◌≤◌, List, [], ◌∷◌, length, Option, Some, None, refl, sym, ap, ◌∙◌, arith}
use Rattle.std.specs.List.{sum_by}
use Rattle.std.proofs.lemmas.List.{length-map}
use Rattle.std.proofs.lemmas.List.Sums.{sum_by-cons}
use Rattle.std.specs.FinMap.{get, insert, empty, entries, values, len, len-entries}
use Rattle.cp_tables.specs.Table.{Table}
use Rattle.cp_refs.proofs.Sums.{of_entry, held-insert, held-remove, held-empty}
use Rattle.cp_session.specs.Budget.{beyond, taken_of, own_of, others_of, KeepNoMore, StaysWithin}

pub none_taken : (share : ℕ) → taken_of share empty ≡ 0
none_taken share = held-empty (beyond share)

own_entry : (share : ℕ) (o : Option ℕ) → of_entry (beyond share) o ≡ own_of share o
own_entry share None = refl
own_entry share (Some bytes) = refl

-- what the others take, and what one more session does
pub others_is : (share : ℕ) (kept : Table ℕ) (session taken own : ℕ) → taken ≡ taken_of share kept → own ≡ own_of share (get kept session) → taken - own ≡ others_of share kept session
others_is share kept session taken own is owns = omega (arith, is, owns, held-remove (beyond share) kept session, own_entry share (get kept session))

pub taken_more : (share : ℕ) (kept : Table ℕ) (session bytes : ℕ) → taken_of share (insert kept session bytes) ≡ others_of share kept session + (bytes - share)
taken_more share kept session bytes = omega (arith, held-insert (beyond share) kept session bytes, held-remove (beyond share) kept session)

-- what all keep is a share each, and what they take of the pool
each_has_share : (share : ℕ) (bs : List ℕ) → sum_by (λ b. b) bs ≤ length bs * share + sum_by (beyond share) bs
each_has_share share [] = omega arith
each_has_share share (b ∷ bs) =
    omega (arith, sum_by-cons (λ (n : ℕ). n) b bs, sum_by-cons (beyond share) b bs, each_has_share share bs)

number_of_values : (kept : Table ℕ) → length (values kept) ≡ len kept
number_of_values kept = length-map (entries kept) (λ e. e.1) ∙ sym (len-entries kept)

pub all_keep : KeepNoMore
all_keep k within =
    let each = each_has_share k.share (values k.kept) in
    let many : length (values k.kept) * k.share ≡ len k.kept * k.share = ap (λ n. n * k.share) (number_of_values k.kept) in
    omega (arith, each, many, within)

pub stays : StaysWithin
stays k session bytes within =
    let others = held-remove (beyond k.share) k.kept session in
    (λ few. omega (arith, taken_more k.share k.kept session bytes, few, within, others), omega (arith, within, others))
