-- How many bytes a rest still needs.
use Rattle.std.proofs.Common.{◌≡◌, ◌⊎◌, inl, inr, ◌==◌, false, ℕ, zero, suc, ◌+◌, ◌-◌, ◌*◌, ◌/◌, ◌%◌, ◌^◌, ◌<◌, ◌≤◌, List, [], ◌∷◌, ◌++◌, length, sum, take, get_or, refl, sym, ◌∙◌, ap, subst, append_assoc, length-append, arith}
use Rattle.std.specs.List.{flat_map}
use Rattle.std.proofs.lemmas.List.{append-nil, take_at}
use Rattle.std.proofs.lemmas.Bool.{cases_eq}
use Rattle.cp_words.specs.Limits.{Bounds}
use Rattle.cp_frame.specs.declared.mode.Mode.TheVariants as modes
use Rattle.cp_frame.specs.declared.frame.OpenFrame.{OpenFrame}
use Rattle.cp_frame.specs.declared.rest.Rest.{Rest}
use Rattle.cp_frame.specs.Framed.{sizes_of, Framed}
use Rattle.cp_packed.specs.Words.{AreBytes, AreWords, bytes_of}
use Rattle.cp_frame.specs.Frame.{Frame}
use Rattle.cp_frame.specs.Stream.{numbers, named_sizes}
use Rattle.cp_frame.specs.declared.mode.Mode.{Mode}
use Rattle.cp_frame.specs.declared.status.Status.{Status}
use Rattle.cp_frame.specs.declared.status.Status.TheVariants as statuses
use Rattle.cp_frame.specs.Kept.{seen, KeepsUp}
use Rattle.cp_frame.specs.Reader.{IsNeeded, Needs}
use Rattle.cp_frame.specs.Parts.{halves, count_of, body, rest_of, least_words, kept_words, IsOpen, IsTable}
use Rattle.cp_words.specs.Segments.{words_of}
use Rattle.cp_frame.specs.Rest.{InPacked, KeptFor, bytes_for}
use Rattle.cp_packed.specs.Unpacking.{Pending, nothing, next, after, still, header_of, IsPending}
use Rattle.cp_frame.proofs.Numbers.{numbers_words}
use Rattle.cp_frame.proofs.Streams.{sum_more}
use Rattle.cp_frame.proofs.Framing.{numbers_framed, length_framed, length_sizes}
use Rattle.cp_frame.proofs.Filling.{length_lists}
use Rattle.cp_frame.proofs.Opened.{last_of, length_rest}
use Rattle.cp_frame.proofs.Ends.{sizes_named, sum_inside}
use Rattle.cp_packed.proofs.Opens.{test_true, test_false, after-append, step_more, raw_more, raw_last}
use Rattle.cp_packed.proofs.Unpacks.{packed_brings, brings_tag, pending_step}
use Rattle.cp_frame.proofs.Certain.{missing, missing_run, are_back, packed_are}
use Rattle.cp_frame.proofs.Texts.{brings_kept}

-- one byte makes what is missing less by one at most
misses : (run : ℕ) (part : List ℕ) (x : ℕ) → IsPending (record { run = run; part = part }) → missing run part ≤ suc (missing (next (record { run = run; part = part }) x).run (next (record { run = run; part = part }) x).part)
misses zero [] x h = omega arith
misses zero (t ∷ p) x h = go (cases_eq (suc (length (p ++ x ∷ []))) (header_of t))
  where
    go : (suc (length (p ++ x ∷ [])) ≡ header_of t) ⊎ (suc (length (p ++ x ∷ [])) ≡ header_of t → ⊥) → missing zero (t ∷ p) ≤ suc (missing (next (record { run = zero; part = t ∷ p }) x).run (next (record { run = zero; part = t ∷ p }) x).part)
    go (inl e) = omega (arith, e, length-append p (x ∷ []))
    go (inr e) =
        let less : suc (length (p ++ x ∷ [])) < header_of t = omega (arith, e, h.short, length-append p (x ∷ [])) in
        omega (arith, length-append p (x ∷ []), ap (λ (q : Pending). missing q.run q.part) (step_more t x p less))
misses (suc n) part x h = go (cases_eq (length (part ++ x ∷ [])) 8)
  where
    go : (length (part ++ x ∷ []) ≡ 8) ⊎ (length (part ++ x ∷ []) ≡ 8 → ⊥) → missing (suc n) part ≤ suc (missing (next (record { run = suc n; part = part }) x).run (next (record { run = suc n; part = part }) x).part)
    go (inl e) = omega (arith, e, length-append part (x ∷ []), missing_run n, ap (λ (q : Pending). missing q.run q.part) (raw_last n x part e))
    go (inr e) =
        let less : length (part ++ x ∷ []) < 8 = omega (arith, e, h.short, length-append part (x ∷ [])) in
        omega (arith, length-append part (x ∷ []), ap (λ (q : Pending). missing q.run q.part) (raw_more n x part less))

missing_least : (more : List ℕ) (run : ℕ) (part : List ℕ) → IsPending (record { run = run; part = part }) → AreBytes more → after (record { run = run; part = part }) more ≡ nothing → missing run part ≤ length more
missing_least [] run part h k e = omega (arith, ap (λ (q : Pending). missing q.run q.part) e)
missing_least (x ∷ more) run part h k e =
    let q = next (record { run = run; part = part }) x in
    omega (arith, misses run part x h, missing_least more q.run q.part (pending_step run part x h k.0) k.1 e)

still_least : (more : List ℕ) (run : ℕ) (part : List ℕ) → IsPending (record { run = run; part = part }) → AreBytes more → (length more ≡ 0 → ⊥) → after (record { run = run; part = part }) more ≡ nothing → still run part ≤ length more
still_least [] zero [] h k n e = absurd (n refl)
still_least (x ∷ []) zero [] h k n e = omega (arith, ap (λ (q : Pending). length q.part) (sym (brings_tag x).open_then ∙ e))
still_least (x ∷ y ∷ more) zero [] h k n e = omega arith
still_least more zero (t ∷ p) h k n e = missing_least more zero (t ∷ p) h k e
still_least more (suc m) part h k n e = missing_least more (suc m) part h k e

still_some : (run : ℕ) (part : List ℕ) → IsPending (record { run = run; part = part }) → 0 < still run part
still_some zero [] h = omega arith
still_some zero (t ∷ p) h = omega (arith, h.short)
still_some (suc n) part h = omega (arith, h.short)

pub needs_packed : (limits : Bounds) (r : Rest) (b : List ℕ) → InPacked limits r → KeptFor modes.Packed limits r b → IsNeeded modes.Packed limits b (still r.group.run r.group.part.items)
needs_packed limits r b h k = record { some = still_some r.group.run r.group.part.items h.pending; to_come = to_come; all = tt }
  where
    to_come : (S : List (List ℕ)) (more : List ℕ) → Frame modes.Packed limits S (b ++ more) → still r.group.run r.group.part.items ≤ length more
    to_come S more m =
        let t = bytes_for modes.Packed r in
        let packed = (k.0 m.form.0 more).1 m.form.2 in
        let open_then = ap (λ (p : Pending). after p more) (sym (brings_kept limits r h).open_then) ∙ sym (after-append nothing t more) ∙ (packed_brings m.form.0 (t ++ more) packed).open_then in
        still_least more r.group.run r.group.part.items h.pending (are_back t more (packed_are m.form.0 (t ++ more) packed)) (λ e. whole more e m) open_then
      where
        whole : (more : List ℕ) → length more ≡ 0 → Frame modes.Packed limits S (b ++ more) → ⊥
        whole [] e m = k.2.no_front S (b ++ []) [] (sym (append-nil b) ∙ sym (append-nil (b ++ []))) m
        whole (x ∷ more) e m = omega (arith, e)

-- the words that a frame has at the least
pub least_none : (f : OpenFrame) → length f.table.items ≡ 0 → least_words f ≡ 1 + f.total
least_none f e = rw (test_true (length f.table.items) 0 e) (omega arith)

least_some : (f : OpenFrame) → 0 < length f.table.items → least_words f ≡ count_of f.table.items / 2 + 1 + f.total
least_some f h = rw (test_false (length f.table.items) 0 (λ e. omega (arith, e, h))) refl

less_by : (f : OpenFrame) → (length f.table.items ≡ 0) ⊎ (length f.table.items ≡ 0 → ⊥) → kept_words f ≡ length f.table.items → length f.table.items ≤ count_of f.table.items / 2 → kept_words f < least_words f
less_by f (inl e) k l = omega (arith, least_none f e, k, e)
less_by f (inr e) k l = omega (arith, least_some f (omega (arith, e)), k, l)

pub less_kept : (limits : Bounds) (f : OpenFrame) → IsOpen limits f → kept_words f < least_words f
less_kept limits f (inl h) =
    less_by f (cases_eq (length f.table.items) 0) (rw (h.no_segments, h.no_words) (omega arith)) h.goes_on
less_kept limits f (inr h) =
    let named = named_sizes (halves f.table.items) in
    let S = words_of f.segments.items in
    let before : sum (sizes_of S) ≡ sum (take (length S) named) = ap (λ (ns : List ℕ). sum ns) h.fills.sized in
    let fitting : length f.words.items < get_or named (length S) 0 = subst (λ i. length f.words.items < get_or named i 0) (sym (length_lists f.segments.items)) h.goes_on in
    omega (arith, least_some f (omega (arith, h.whole)), h.table.no_longer, before, sum_inside named (length S) (length f.words.items) fitting, h.table.sums)

part_less : (limits : Bounds) (f : OpenFrame) → IsOpen limits f → length f.part.items < 8
part_less limits f (inl h) = h.short
part_less limits f (inr h) = h.short

table_of : (limits : Bounds) (f : OpenFrame) → IsOpen limits f → IsTable limits f.table.items f.total
table_of limits f (inl h) = h.table
table_of limits f (inr h) = h.table

pub small_least : (limits : Bounds) (f : OpenFrame) → IsOpen limits f → least_words f < 2 ^ 40
small_least limits f h = by (cases_eq (length f.table.items) 0)
  where
    by : (length f.table.items ≡ 0) ⊎ (length f.table.items ≡ 0 → ⊥) → least_words f < 2 ^ 40
    by (inl e) = omega (arith, least_none f e, (table_of limits f h).fits)
    by (inr e) = omega (arith, least_some f (omega (arith, e)), (table_of limits f h).fits, (table_of limits f h).few)

-- the sizes that are named are some of a frame's
named_most : (table more : List ℕ) (n : ℕ) (sizes others : List ℕ) → halves table ++ more ≡ n ∷ (sizes ++ others) → length sizes ≡ n + 1 → sum (named_sizes (halves table)) ≤ sum sizes
named_most [] more n sizes others e k = omega arith
named_most (w ∷ ws) more n sizes others e k =
    let first : w % 2 ^ 32 ≡ n = cc (e) in
    let tails : (w / 2 ^ 32 ∷ halves ws) ++ more ≡ sizes ++ others = cc (e) in
    let all = ap (λ (ns : List ℕ). sum (take (w % 2 ^ 32 + 1) ns)) tails ∙ ap (λ (ns : List ℕ). sum ns) (take_at sizes others (w % 2 ^ 32 + 1) (let l : length sizes ≡ w % 2 ^ 32 + 1 = omega (arith, k, first) in l)) in
    omega (arith, sum_more (w % 2 ^ 32 + 1) (w / 2 ^ 32 ∷ halves ws) more, all)

-- the numbers of what has come, and of what follows it
abbrev following : OpenFrame → List ℕ → List ℕ
following f more = (body (words_of f.segments.items) f.words.items ++ f.part.items) ++ more

numbers_all : (f : OpenFrame) (more : List ℕ) → AreWords f.table.items → numbers (rest_of f ++ more) ≡ halves f.table.items ++ numbers (following f more)
numbers_all f more h =
    ap numbers (ap (λ (b : List ℕ). b ++ more) (append_assoc (bytes_of f.table.items) (body (words_of f.segments.items) f.words.items) f.part.items)
    ∙ append_assoc (bytes_of f.table.items) (body (words_of f.segments.items) f.words.items ++ f.part.items) more)
    ∙ numbers_words f.table.items (following f more) h

numbers_both : (f : OpenFrame) (S : List (List ℕ)) (more : List ℕ) → AreWords f.table.items → (k : Framed S (rest_of f ++ more))
    → halves f.table.items ++ numbers (following f more) ≡ (length S - 1) ∷ (sizes_of S ++ numbers (k.padding ++ (flat_map bytes_of S ++ [])))
numbers_both f S more h k = sym (numbers_all f more h) ∙ ap numbers (sym (append-nil (rest_of f ++ more))) ∙ numbers_framed S (rest_of f ++ more) [] k

frame_least : (limits : Bounds) (f : OpenFrame) (S : List (List ℕ)) (more : List ℕ) → IsOpen limits f → Framed S (rest_of f ++ more) → least_words f ≤ length S / 2 + 1 + sum (sizes_of S)
frame_least limits f S more h k = by (cases_eq (length f.table.items) 0)
  where
    table : IsTable limits f.table.items f.total
    table = table_of limits f h

    same : halves f.table.items ++ numbers (following f more) ≡ (length S - 1) ∷ (sizes_of S ++ numbers (k.padding ++ (flat_map bytes_of S ++ [])))
    same = numbers_both f S more table.are_words k

    total : f.total ≤ sum (sizes_of S)
    total = omega (arith, table.sums, named_most f.table.items (numbers (following f more)) (length S - 1) (sizes_of S) _ same (let l : length (sizes_of S) ≡ length S - 1 + 1 = omega (arith, length_sizes S, k.some) in l))

    by : (length f.table.items ≡ 0) ⊎ (length f.table.items ≡ 0 → ⊥) → least_words f ≤ length S / 2 + 1 + sum (sizes_of S)
    by (inl e) = omega (arith, least_none f e, total)
    by (inr e) =
        let some : 0 < length f.table.items = omega (arith, e) in
        omega (arith, least_some f some, total, last_of f.table.items (numbers (following f more)) _ (length S - 1) some same, k.some)

frame_all : (limits : Bounds) (f : OpenFrame) (S : List (List ℕ)) (more : List ℕ) → IsOpen limits f → Framed S (rest_of f ++ more) → 8 * (length S / 2 + 1) ≤ length (rest_of f) → least_words f ≡ length S / 2 + 1 + sum (sizes_of S)
frame_all limits f S more (inl h) k l = absurd (by (cases_eq (length f.table.items) 0))
  where
    kept : kept_words f ≡ length f.table.items
    kept = rw (h.no_segments, h.no_words) (omega arith)

    by : (length f.table.items ≡ 0) ⊎ (length f.table.items ≡ 0 → ⊥) → ⊥
    by (inl e) = omega (arith, l, length_rest f, kept, e, h.short)
    by (inr e) = omega (arith, l, length_rest f, kept, h.short, h.goes_on, last_of f.table.items (numbers (following f more)) _ (length S - 1) (omega (arith, e)) (numbers_both f S more h.table.are_words k), k.some)
frame_all limits f S more (inr h) k l =
    let same = numbers_both f S more h.table.are_words k in
    let some : 0 < length f.table.items = omega (arith, h.whole) in
    let sizes = sizes_named f.table.items (numbers (following f more)) (length S - 1) (sizes_of S) _ h.whole same (let n : length (sizes_of S) ≡ length S - 1 + 1 = omega (arith, length_sizes S, k.some) in n) in
    omega (arith, least_some f some, h.table.sums, ap (λ (ns : List ℕ). sum ns) sizes, last_of f.table.items (numbers (following f more)) _ (length S - 1) some same, k.some)

pub needs_plain : (limits : Bounds) (f : OpenFrame) (b : List ℕ) (n : ℕ) → IsOpen limits f → rest_of f ≡ b → n + length (rest_of f) ≡ 8 * least_words f → IsNeeded modes.Plain limits b n
needs_plain limits f b n h e k =
    subst (λ (c : List ℕ). IsNeeded modes.Plain limits c n) e (record {
      some = omega (arith, k, length_rest f, part_less limits f h, less_kept limits f h);
      to_come = λ S more m. omega (arith, k, frame_least limits f S more h m.form, length_framed S (rest_of f ++ more) m.form, length-append (rest_of f) more);
      all = λ S more m l. omega (arith, k, frame_all limits f S more h m.form l, length_framed S (rest_of f ++ more) m.form, length-append (rest_of f) more);
    })

pub needs_by : (f : OpenFrame) (table n : ℕ) → kept_words f < least_words f → length f.part.items < 8 → table + 1 + f.total ≡ least_words f → n ≡ 8 * (table + 1 + f.total - kept_words f) - length f.part.items
    → n + length (rest_of f) ≡ 8 * least_words f
needs_by f table n h k e m = omega (arith, h, k, e, m, length_rest f)

pub least_more : (f : OpenFrame) (n : ℕ) → n ≡ length f.table.items → false ≡ (n == 0) → least_words f ≡ count_of f.table.items / 2 + 1 + f.total
least_more f n l e = rw (sym (e ∙ ap (λ (m : ℕ). m == 0) l)) refl

-- what a reader tells
pub keeps_plain : (mode : Mode) (limits : Bounds) (status : Status) (r : Rest) → status ≡ statuses.Reading → mode ≡ modes.Plain → KeepsUp mode limits status r → IsOpen limits r.frame
keeps_plain mode limits status r e m h =
    (subst (λ (u : Mode). KeepsUp u limits statuses.Reading r) m (subst (λ (s : Status). KeepsUp mode limits s r) e h)).0

pub keeps_packed : (mode : Mode) (limits : Bounds) (status : Status) (r : Rest) → status ≡ statuses.Reading → mode ≡ modes.Packed → KeepsUp mode limits status r → InPacked limits r
keeps_packed mode limits status r e m h = subst (λ (u : Mode). KeepsUp u limits statuses.Reading r) m (subst (λ (s : Status). KeepsUp mode limits s r) e h)

pub needs_of_plain : (mode : Mode) (limits : Bounds) (status : Status) (r : Rest) (n : ℕ) → status ≡ statuses.Reading → mode ≡ modes.Plain → KeepsUp mode limits status r → n + length (rest_of r.frame) ≡ 8 * least_words r.frame
    → Needs (seen mode limits status r) (seen mode limits status r).state n
needs_of_plain mode limits status r n e m h k =
    subst (λ (u : Mode). Needs (seen u limits status r) (seen u limits status r).state n) (sym m)
    (subst (λ (s : Status). Needs (seen modes.Plain limits s r) (seen modes.Plain limits s r).state n) (sym e) (λ b f. needs_plain limits r.frame b n (keeps_plain mode limits status r e m h) f.0 k))

pub needs_of_packed : (mode : Mode) (limits : Bounds) (status : Status) (r : Rest) (n : ℕ) → status ≡ statuses.Reading → mode ≡ modes.Packed → KeepsUp mode limits status r → n ≡ still r.group.run r.group.part.items
    → Needs (seen mode limits status r) (seen mode limits status r).state n
needs_of_packed mode limits status r n e m h k =
    subst (λ (u : Mode). Needs (seen u limits status r) (seen u limits status r).state n) (sym m)
    (subst (λ (s : Status). Needs (seen modes.Packed limits s r) (seen modes.Packed limits s r).state n) (sym e)
    (λ b f. subst (λ (j : ℕ). IsNeeded modes.Packed limits b j) (sym k) (needs_packed limits r b (keeps_packed mode limits status r e m h) f)))
