-- The segment table by its words.
use Rattle.std.proofs.Common.{false, nat_eq, ◌≡◌, ◌≢◌, ℕ, zero, suc, ◌+◌, ◌*◌, ◌/◌, ◌%◌, ◌^◌, ◌<◌, ◌≤◌, List, [], ◌∷◌, ◌++◌, length, sum, take, get_or, refl, sym, ◌∙◌, ap, subst, append_assoc, length-append, arith}
use Rattle.std.specs.Int.{from_le_bytes, to_le_bytes, w32, w64}
use Rattle.byteorder.specs.Endian.{little_number}
use Rattle.std.proofs.lemmas.List.{append-nil, take_all, take_at, get_or-take, length-take}
use Rattle.std.proofs.lemmas.List.Sums.{sum_by-cons, sum_by-append, sum_by_push}
use Rattle.cp_words.specs.Limits.{Bounds}
use Rattle.cp_frame.specs.declared.fault.FrameFault.{FrameFault}
use Rattle.cp_frame.specs.declared.fault.FrameFault.TheVariants as faults
use Rattle.cp_frame.specs.Stream.{numbers, named_sizes, NamesFault}
use Rattle.cp_frame.specs.Parts.{halves, count_of, IsWholeTable, NamesLittle}
use Rattle.cp_frame.proofs.Numbers.{length_halves, numbers_words}
use Rattle.cp_frame.proofs.Streams.{sum_more}

-- the numbers of a table, two in each word
pub halves_even : (ws : List ℕ) (i : ℕ) → get_or (halves ws) (i + i) 0 ≡ get_or ws i 0 % 2 ^ 32
halves_even [] i = refl
halves_even (w ∷ ws) zero = refl
halves_even (w ∷ ws) (suc i) = let e : suc i + suc i ≡ suc (suc (i + i)) = omega arith in rw e (halves_even ws i)

pub halves_odd : (ws : List ℕ) (i : ℕ) → get_or (halves ws) (suc (i + i)) 0 ≡ get_or ws i 0 / 2 ^ 32
halves_odd [] i = refl
halves_odd (w ∷ ws) zero = refl
halves_odd (w ∷ ws) (suc i) = let e : suc i + suc i ≡ suc (suc (i + i)) = omega arith in rw e (halves_odd ws i)

pub halves-append : (a b : List ℕ) → halves (a ++ b) ≡ halves a ++ halves b
halves-append [] b = refl
halves-append (w ∷ a) b = ap (λ ns. w % 2 ^ 32 ∷ w / 2 ^ 32 ∷ ns) (halves-append a b)

-- what a whole table names
pub length_named : (table : List ℕ) → IsWholeTable table → length (named_sizes (halves table)) ≡ count_of table
length_named [] h = absurd (omega (arith, h))
length_named (w ∷ ws) h = length-take (w % 2 ^ 32 + 1) (w / 2 ^ 32 ∷ halves ws) ∙ omega (arith, h, length_halves ws)

pub named_at : (table : List ℕ) (k : ℕ) → k < count_of table → get_or (named_sizes (halves table)) k 0 ≡ get_or (halves table) (suc k) 0
named_at [] k h = refl
named_at (w ∷ ws) k h = get_or-take (w % 2 ^ 32 + 1) (w / 2 ^ 32 ∷ halves ws) k 0 h

pub size_even : (table : List ℕ) (k : ℕ) → k % 2 ≡ 0 → k < count_of table → get_or (named_sizes (halves table)) k 0 ≡ get_or table ((k + 1) / 2) 0 / 2 ^ 32
size_even table k e h =
    let half : suc k ≡ suc ((k + 1) / 2 + (k + 1) / 2) = omega (arith, e) in
    named_at table k h ∙ ap (λ i. get_or (halves table) i 0) half ∙ halves_odd table ((k + 1) / 2)

pub size_odd : (table : List ℕ) (k : ℕ) → k % 2 ≢ 0 → k < count_of table → get_or (named_sizes (halves table)) k 0 ≡ get_or table ((k + 1) / 2) 0 % 2 ^ 32
size_odd table k e h =
    let half : suc k ≡ (k + 1) / 2 + (k + 1) / 2 = omega (arith, e) in
    named_at table k h ∙ ap (λ i. get_or (halves table) i 0) half ∙ halves_even table ((k + 1) / 2)

-- a table of one word names one size
pub named_first : (w : ℕ) → sum (named_sizes (halves (w ∷ []))) ≡ w / 2 ^ 32
named_first w =
    let one : sum (w / 2 ^ 32 ∷ []) ≡ w / 2 ^ 32 = omega arith in
    ap (λ (ns : List ℕ). sum ns) (take_all (w % 2 ^ 32 + 1) (w / 2 ^ 32 ∷ []) (omega arith)) ∙ one

-- as many as there are
pub sum_all : (n : ℕ) (ns : List ℕ) → length ns ≤ n → sum (take n ns) ≡ sum ns
sum_all n ns h = ap (λ (ms : List ℕ). sum ms) (take_all n ns h)

-- all but the last
pub sum_front : (n : ℕ) (ns : List ℕ) (a b : ℕ) → length ns + 1 ≡ n → sum (take n (ns ++ a ∷ b ∷ [])) ≡ sum ns + a
sum_front n ns a b h =
    ap (λ (ms : List ℕ). sum (take n ms)) (sym (append_assoc ns (a ∷ []) (b ∷ []))) ∙ ap (λ (ms : List ℕ). sum ms) (take_at (ns ++ a ∷ []) (b ∷ []) n (length-append ns (a ∷ []) ∙ h))
    ∙ sum_by_push (λ x. x) ns a

-- a table with another word names one size more, or two
pub named_both : (w : ℕ) (ws : List ℕ) (word : ℕ) → 2 * length (w ∷ ws) < count_of (w ∷ ws)
    → sum (named_sizes (halves ((w ∷ ws) ++ word ∷ []))) ≡ sum (named_sizes (halves (w ∷ ws))) + word % 2 ^ 32 + word / 2 ^ 32
named_both w ws word h =
    let n = w % 2 ^ 32 + 1 in
    let ns = w / 2 ^ 32 ∷ halves ws in
    let longer : halves (ws ++ word ∷ []) ≡ halves ws ++ (word % 2 ^ 32 ∷ word / 2 ^ 32 ∷ []) = halves-append ws (word ∷ []) in
    let all = ap (λ (ms : List ℕ). sum (take n (w / 2 ^ 32 ∷ ms))) longer
    ∙ sum_all n (ns ++ (word % 2 ^ 32 ∷ word / 2 ^ 32 ∷ [])) (omega (arith, h, length-append ns (word % 2 ^ 32 ∷ word / 2 ^ 32 ∷ []), length_halves ws))
    ∙ sum_by-append (λ x. x) ns (word % 2 ^ 32 ∷ word / 2 ^ 32 ∷ []) in
    let before = sum_all n ns (omega (arith, h, length_halves ws)) in
    omega (arith, all, before)

pub named_one : (w : ℕ) (ws : List ℕ) (word : ℕ) → length (w ∷ ws) ≤ count_of (w ∷ ws) / 2 → count_of (w ∷ ws) ≤ 2 * length (w ∷ ws)
    → sum (named_sizes (halves ((w ∷ ws) ++ word ∷ []))) ≡ sum (named_sizes (halves (w ∷ ws))) + word % 2 ^ 32
named_one w ws word h k =
    let n = w % 2 ^ 32 + 1 in
    let ns = w / 2 ^ 32 ∷ halves ws in
    let longer : halves (ws ++ word ∷ []) ≡ halves ws ++ (word % 2 ^ 32 ∷ word / 2 ^ 32 ∷ []) = halves-append ws (word ∷ []) in
    let all = ap (λ (ms : List ℕ). sum (take n (w / 2 ^ 32 ∷ ms))) longer
    ∙ sum_front n ns (word % 2 ^ 32) (word / 2 ^ 32) (omega (arith, h, k, length_halves ws)) in
    let before = sum_all n ns (omega (arith, h, k, length_halves ws)) in
    omega (arith, all, before)

-- what a table with another word names, by cases on the table
pub total_first : (table : List ℕ) (word : ℕ) → length table ≡ 0 → word / 2 ^ 32 ≡ sum (named_sizes (halves (table ++ word ∷ [])))
total_first [] word e = sym (named_first word)
total_first (w ∷ ws) word e = absurd (omega (arith, e))

pub total_both : (table : List ℕ) (total word : ℕ) → false ≡ nat_eq (length table) 0 → total ≡ sum (named_sizes (halves table)) → 2 * length table < count_of table
    → total + word % 2 ^ 32 + word / 2 ^ 32 ≡ sum (named_sizes (halves (table ++ word ∷ [])))
total_both [] total word n e h = cc
total_both (w ∷ ws) total word n e h = rw e (sym (named_both w ws word h))

pub total_one : (table : List ℕ) (total word : ℕ) → false ≡ nat_eq (length table) 0 → total ≡ sum (named_sizes (halves table)) → length table ≤ count_of table / 2
    → count_of table ≤ 2 * length table → total + word % 2 ^ 32 ≡ sum (named_sizes (halves (table ++ word ∷ [])))
total_one [] total word n e h k = cc
total_one (w ∷ ws) total word n e h k = rw e (sym (named_one w ws word h k))

-- numbers that are zero name nothing
pub sum_zero : (n : ℕ) (ns : List ℕ) → sum (take n (ns ++ 0 ∷ [])) ≡ sum (take n ns)
sum_zero zero ns = refl
sum_zero (suc n) [] = ap (λ (ms : List ℕ). sum (0 ∷ ms)) (take_all n [] (omega arith))
sum_zero (suc n) (x ∷ ns) = sum_by-cons (λ x. x) x (take n (ns ++ 0 ∷ [])) ∙ ap (λ m. x + m) (sum_zero n ns) ∙ sym (sum_by-cons (λ x. x) x (take n ns))

pub fault_zero : (limits : Bounds) (n : ℕ) (ns : List ℕ) (fault : FrameFault) → NamesFault limits ((n ∷ ns) ++ 0 ∷ []) fault → NamesFault limits (n ∷ ns) fault
fault_zero limits n ns faults.TooManySegments h = h
fault_zero limits n ns faults.FrameTooLarge h = (h.0, omega (arith, h.1, sum_zero (n + 1) ns))
fault_zero limits n ns faults.Truncated h = h
fault_zero limits n ns faults.RunPastFrame h = h
fault_zero limits n ns faults.Failed h = h
fault_zero limits n ns faults.OutOfMemory h = h

-- the first half of a word that isn't whole
pub half_numbers : (part : List ℕ) (low : ℕ) → 4 ≤ length part → length part < 8 → low ≡ little_number 4 part → numbers part ≡ low ∷ []
half_numbers [] low h k e = absurd (omega (arith, h))
half_numbers (a ∷ []) low h k e = absurd (omega (arith, h))
half_numbers (a ∷ b ∷ []) low h k e = absurd (omega (arith, h))
half_numbers (a ∷ b ∷ c ∷ []) low h k e = absurd (omega (arith, h))
half_numbers (a ∷ b ∷ c ∷ d ∷ []) low h k e = let n : from_le_bytes w32 (a ∷ b ∷ c ∷ d ∷ []) ≡ low = omega (arith, e) in ap (λ (m : ℕ). m ∷ []) n
half_numbers (a ∷ b ∷ c ∷ d ∷ p ∷ []) low h k e = let n : from_le_bytes w32 (a ∷ b ∷ c ∷ d ∷ []) ≡ low = omega (arith, e) in ap (λ (m : ℕ). m ∷ []) n
half_numbers (a ∷ b ∷ c ∷ d ∷ p ∷ q ∷ []) low h k e = let n : from_le_bytes w32 (a ∷ b ∷ c ∷ d ∷ []) ≡ low = omega (arith, e) in ap (λ (m : ℕ). m ∷ []) n
half_numbers (a ∷ b ∷ c ∷ d ∷ p ∷ q ∷ r ∷ []) low h k e = let n : from_le_bytes w32 (a ∷ b ∷ c ∷ d ∷ []) ≡ low = omega (arith, e) in ap (λ (m : ℕ). m ∷ []) n
half_numbers (a ∷ b ∷ c ∷ d ∷ p ∷ q ∷ r ∷ s ∷ more) low h k e = absurd (omega (arith, k))

pub no_numbers : (part : List ℕ) → length part < 4 → numbers part ≡ []
no_numbers [] h = refl
no_numbers (a ∷ []) h = refl
no_numbers (a ∷ b ∷ []) h = refl
no_numbers (a ∷ b ∷ c ∷ []) h = refl
no_numbers (a ∷ b ∷ c ∷ d ∷ more) h = absurd (omega (arith, h))

-- a word with a low half alone names what that half names
pub low_word : (table : List ℕ) (low : ℕ) → low < 2 ^ 32 → halves (table ++ low ∷ []) ≡ (halves table ++ low ∷ []) ++ 0 ∷ []
low_word table low h =
    let same : low % 2 ^ 32 ≡ low = omega (arith, h) in
    let none : low / 2 ^ 32 ≡ 0 = omega (arith, h) in
    let word : halves (low ∷ []) ≡ low ∷ 0 ∷ [] = cc (same, none) in
    halves-append table (low ∷ []) ∙ ap (λ ns. halves table ++ ns) word ∙ sym (append_assoc (halves table) (low ∷ []) (0 ∷ []))

pub half_fault : (limits : Bounds) (table : List ℕ) (low : ℕ) (fault : FrameFault) → low < 2 ^ 32 → NamesFault limits (halves (table ++ low ∷ [])) fault → NamesFault limits (halves table ++ low ∷ []) fault
half_fault limits [] low fault h k = fault_zero limits low [] fault (subst (λ (ns : List ℕ). NamesFault limits ns fault) (low_word [] low h) k)
half_fault limits (w ∷ ws) low fault h k =
    fault_zero limits (w % 2 ^ 32) (w / 2 ^ 32 ∷ (halves ws ++ low ∷ [])) fault (subst (λ (ns : List ℕ). NamesFault limits ns fault) (low_word (w ∷ ws) low h) k)

-- fewer numbers name no more
pub little_less : (limits : Bounds) (ns more : List ℕ) → NamesLittle limits (ns ++ more) → NamesLittle limits ns
little_less limits [] more h = tt
little_less limits (n ∷ ns) more h = (h.0, omega (arith, h.1, sum_more (n + 1) ns more))

pub part_fault : (limits : Bounds) (table part : List ℕ) (low : ℕ) (fault : FrameFault) → low < 2 ^ 32 → 4 ≤ length part → length part < 8 → low ≡ little_number 4 part
    → NamesFault limits (halves (table ++ low ∷ [])) fault → NamesFault limits (halves table ++ numbers part) fault
part_fault limits table part low fault h f e v k = rw (half_numbers part low f e v) (half_fault limits table low fault h k)

pub part_little : (limits : Bounds) (table part : List ℕ) (low : ℕ) → low < 2 ^ 32 → 4 ≤ length part → length part < 8 → low ≡ little_number 4 part
    → NamesLittle limits (halves (table ++ low ∷ [])) → NamesLittle limits (halves table ++ numbers part)
part_little limits table part low h f e v k =
    rw (half_numbers part low f e v) (little_less limits (halves table ++ low ∷ []) (0 ∷ []) (subst (λ (ns : List ℕ). NamesLittle limits ns) (low_word table low h) k))

pub part_none : (limits : Bounds) (table part : List ℕ) → length part < 4 → NamesLittle limits (halves table) → NamesLittle limits (halves table ++ numbers part)
part_none limits table part h k = rw (no_numbers part h, append-nil) k

-- a word that is there whole
pub whole_word : (table : List ℕ) (word : ℕ) (b : List ℕ) → word < 2 ^ 64 → to_le_bytes w64 word ≡ b → halves (table ++ word ∷ []) ≡ halves table ++ numbers b
whole_word table word b h e =
    let named : numbers (to_le_bytes w64 word) ≡ halves (word ∷ []) = numbers_words (word ∷ []) [] (h, tt) in
    halves-append table (word ∷ []) ∙ ap (λ (ns : List ℕ). halves table ++ ns) (sym named ∙ ap numbers e)
