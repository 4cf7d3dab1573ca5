-- What a reader did with a piece, and what it stands for.
use Rattle.std.proofs.Common.{◌≡◌, ◌⊎◌, inl, inr, ℕ, zero, suc, ◌+◌, ◌^◌, ◌<◌, ◌≤◌, List, [], ◌∷◌, ◌++◌, length, sum, take, get_or, refl, sym, ◌∙◌, ap, subst, length-append, arith}
use Rattle.std.proofs.lemmas.List.{nil_from_length}
use Rattle.cp_words.specs.Limits.{Bounds}
use Rattle.cp_frame.specs.declared.fault.FrameFault.{FrameFault}
use Rattle.cp_frame.specs.declared.fault.FrameFault.TheVariants as faults
use Rattle.cp_frame.specs.declared.mode.Mode.{Mode}
use Rattle.cp_frame.specs.declared.mode.Mode.TheVariants as modes
use Rattle.cp_frame.specs.declared.status.Status.{Status}
use Rattle.cp_frame.specs.declared.status.Status.TheVariants as statuses
use Rattle.cp_frame.specs.declared.frame.OpenFrame.{OpenFrame}
use Rattle.cp_frame.specs.declared.rest.Rest.{Rest}
use Rattle.cp_frame.specs.Framed.{sizes_of}
use Rattle.cp_frame.specs.Stream.{Frames, HasFault, Laid, Open, numbers, named_sizes}
use Rattle.cp_frame.specs.Parts.{rest_of, IsOpen, IsEmpty, InTable, InSegments, kept_words, halves}
use Rattle.cp_words.specs.Segments.{words_of}
use Rattle.cp_frame.specs.Reader.{Reader, EndsWell, Gives, Reports, ReportsAtEnd, KeepsLittle, failed}
use Rattle.cp_packed.specs.Unpacking.{Pending, IsPending, laid, pending_of}
use Rattle.cp_frame.specs.Rest.{InPacked, IsRest, IsBlank, KeptFor, Reads, Refuses, bytes_for, count_for, words_in_order}
use Rattle.cp_frame.specs.Kept.{seen, KeepsUp}
use Rattle.cp_frame.proofs.Numbers.{numbers_more}
use Rattle.cp_frame.proofs.Streams.{sum_more}
use Rattle.cp_frame.proofs.Opened.{length_rest, numbers_in_segments, named_whole}
use Rattle.cp_frame.proofs.Filling.{length_lists}
use Rattle.cp_frame.proofs.Ends.{open_rest, sum_inside, empty_open, empty_rest}
use Rattle.cp_frame.proofs.Certain.{laid_one}
use Rattle.cp_frame.proofs.Alike.{alike_back, alike_laid}
use Rattle.cp_frame.proofs.Texts.{bytes_words, text_are, brings_kept, laid_words}
use Rattle.cp_frame.proofs.Taken.{short_header, keeps_blank}

-- a fault is reported
pub reports_memory : (mode : Mode) (limits : Bounds) (status : Status) (r : Rest) (new : Reader) (piece : List ℕ) (fault : FrameFault) → status ≡ statuses.Reading → new.state ≡ failed → fault ≡ faults.OutOfMemory
    → Reports (seen mode limits status r) piece new fault
reports_memory mode limits status r new piece fault e f h = subst (λ (s : Status). Reports (seen mode limits s r) piece new fault) (sym e) (record { reported = inl h; failed = f })

pub reports_fault : (mode : Mode) (limits : Bounds) (status : Status) (r : Rest) (new : Reader) (piece : List ℕ) (given : List (ℕ × List (List ℕ))) (fault : FrameFault) → status ≡ statuses.Reading → new.state ≡ failed → given ≡ []
    → (fault ≡ faults.OutOfMemory) ⊎ Refuses mode limits r piece given fault → Reports (seen mode limits status r) piece new fault
reports_fault mode limits status r new piece given fault e f n (inl h) = reports_memory mode limits status r new piece fault e f h
reports_fault mode limits status r new piece given fault e f n (inr h) = subst (λ (s : Status). Reports (seen mode limits s r) piece new fault) (sym e) (record { reported = inr reported; failed = f })
  where
    reported : (b : List ℕ) → KeptFor mode limits r b → HasFault mode limits (b ++ piece) fault
    reported b m =
        let all = h b m in
        let none : b ++ piece ≡ all.0 = subst (λ (gs : List (ℕ × List (List ℕ))). Frames mode limits (b ++ piece) gs all.0) n all.1 in
        subst (λ (x : List ℕ). HasFault mode limits x fault) (sym none) all.2

-- frames are given
pub gives_read : (mode : Mode) (limits : Bounds) (status : Status) (r : Rest) (form : Mode) (bounds : Bounds) (after : Status) (s : Rest) (piece : List ℕ) (given : List (ℕ × List (List ℕ))) → status ≡ statuses.Reading
    → after ≡ statuses.Reading → form ≡ mode → bounds ≡ limits → Reads mode limits r piece given s → Gives (seen mode limits status r) piece (seen form bounds after s) given
gives_read mode limits status r form bounds after s piece given e f m l h =
    rw (e, f, m, l) (record { was_reading = tt; same_mode = refl; same_limits = refl; frames = λ b k. h b k; kept = λ k. absurd k })

-- the stream ends inside a frame, or after one
pub reports_cut : (mode : Mode) (limits : Bounds) (status : Status) (r : Rest) (new : Reader) → status ≡ statuses.Reading → new.state ≡ failed → (count_for mode r ≡ 0 → ⊥) → ReportsAtEnd (seen mode limits status r) new faults.Truncated
reports_cut mode limits status r new e f k =
    subst (λ (s : Status). ReportsAtEnd (seen mode limits s r) new faults.Truncated) (sym e) (record { reported = (refl, λ b h n. k (h.1 ∙ ap (λ (c : List ℕ). length c) n)); failed = f })

pub ends_well : (mode : Mode) (limits : Bounds) (status : Status) (after : Status) (r : Rest) → status ≡ statuses.Reading → after ≡ statuses.Reading → count_for mode r ≡ 0 → EndsWell (seen mode limits status r) (seen mode limits after r)
ends_well mode limits status after r e f k = rw (e, f) (record { was_reading = tt; same = refl; nothing = λ b h. nil_from_length b (sym h.1 ∙ k) })

pub empty_words : (f : OpenFrame) → IsEmpty f → kept_words f ≡ 0
empty_words f h = rw (h.table, h.segments, h.words) refl

-- the words kept are the table and words that it names
pub words_of_table : (limits : Bounds) (f : OpenFrame) → InTable limits f → kept_words f ≤ 257
words_of_table limits f h = rw (h.no_segments, h.no_words) (omega (arith, h.table.few, h.goes_on))

pub words_named : (limits : Bounds) (f : OpenFrame) → InSegments limits f → kept_words f ≤ 257 + sum (named_sizes (halves f.table.items))
words_named limits f h =
    let named = named_sizes (halves f.table.items) in
    let S = words_of f.segments.items in
    let before : sum (sizes_of S) ≡ sum (take (length S) named) = ap (λ (ns : List ℕ). sum ns) h.fills.sized in
    let fitting : length f.words.items < get_or named (length S) 0 = subst (λ i. length f.words.items < get_or named i 0) (sym (length_lists f.segments.items)) h.goes_on in
    omega (arith, before, sum_inside named (length S) (length f.words.items) fitting, h.table.few, h.table.no_longer)

pub words_kept : (limits : Bounds) (f : OpenFrame) → IsOpen limits f → kept_words f ≤ 257 + sum (named_sizes (numbers (rest_of f)))
words_kept limits f (inl h) = omega (arith, words_of_table limits f h)
words_kept limits f (inr h) =
    let same = ap (λ (ns : List ℕ). sum (named_sizes ns)) (numbers_in_segments limits f h) ∙ ap (λ (ns : List ℕ). sum ns) (named_whole f.table.items _ h.whole) in
    omega (arith, words_named limits f h, same)

pub open_kept : (mode : Mode) (limits : Bounds) (r : Rest) → IsRest mode limits r → IsOpen limits r.frame
open_kept modes.Plain limits r h = h.0
open_kept modes.Packed limits r h = h.frame

-- a table without words is all that there is
no_table : (limits : Bounds) (f : OpenFrame) → IsOpen limits f → length f.table.items ≡ 0 → kept_words f ≡ 0
no_table limits f (inl h) e = rw (h.no_segments, h.no_words) (omega (arith, e))
no_table limits f (inr h) e = absurd (omega (arith, h.whole, e))

pub blank_table : (mode : Mode) (limits : Bounds) (r : Rest) → IsRest mode limits r → length r.frame.table.items ≡ 0 → kept_words r.frame ≡ 0
blank_table mode limits r h e = no_table limits r.frame (open_kept mode limits r h) e

words_open : (limits : Bounds) (f : OpenFrame) → IsOpen limits f → kept_words f < 2 ^ 64
words_open limits f (inl h) = omega (arith, words_of_table limits f h)
words_open limits f (inr h) = omega (arith, words_named limits f h, h.table.sums, h.table.fits)

pub words_fit : (mode : Mode) (limits : Bounds) (status : Status) (r : Rest) → KeepsUp mode limits status r → kept_words r.frame < 2 ^ 64
words_fit mode limits statuses.Reading r h = words_open limits r.frame (open_kept mode limits r h)
words_fit mode limits statuses.Failed r h = omega (arith, empty_words r.frame h.frame)
words_fit mode limits (statuses.Refusing fault) r h = omega (arith, empty_words r.frame h.frame)

part_few : (run : ℕ) (part : List ℕ) → IsPending (record { run = run; part = part }) → length part ≤ 9
part_few zero [] h = omega arith
part_few zero (t ∷ q) h = omega (arith, h.short, short_header t h.are_bytes.0)
part_few (suc n) part h = omega (arith, h.short)

part_open : (limits : Bounds) (f : OpenFrame) → IsOpen limits f → length f.part.items ≤ 9
part_open limits f (inl h) = omega (arith, h.short)
part_open limits f (inr h) = omega (arith, h.short)

no_part : (r : Rest) → IsBlank r → length r.frame.part.items + length r.group.part.items ≤ 9
no_part r h = omega (arith, ap (λ (b : List ℕ). length b) h.frame.part, ap (λ (p : Pending). length p.part) h.group)

pub part_short : (mode : Mode) (limits : Bounds) (status : Status) (r : Rest) → KeepsUp mode limits status r → length r.frame.part.items + length r.group.part.items ≤ 9
part_short modes.Plain limits statuses.Reading r h = omega (arith, part_open limits r.frame h.0, ap (λ (p : Pending). length p.part) h.1)
part_short modes.Packed limits statuses.Reading r h = omega (arith, ap (λ (b : List ℕ). length b) h.no_part, part_few r.group.run r.group.part.items h.pending)
part_short mode limits statuses.Failed r h = no_part r h
part_short mode limits (statuses.Refusing fault) r h = no_part r h

-- what a packed rest lays
laid_kept : (limits : Bounds) (r : Rest) (b l : List ℕ) → InPacked limits r → KeptFor modes.Packed limits r b → Laid modes.Packed b l → l ≡ rest_of r.frame ++ laid (pending_of r.group)
laid_kept limits r b l h k m =
    let t = bytes_for modes.Packed r in
    laid_one t l (text_are limits r h) (alike_laid b t l (alike_back t b k.0) m) ∙ laid_words t (words_in_order r.frame) (pending_of r.group) (brings_kept limits r h)
    ∙ ap (λ (c : List ℕ). c ++ laid (pending_of r.group)) (bytes_words r.frame h.no_part)

sum_named : (ns more : List ℕ) → sum (named_sizes ns) ≤ sum (named_sizes (ns ++ more))
sum_named [] more = omega arith
sum_named (n ∷ ns) more = sum_more (n + 1) ns more

packed_named : (limits : Bounds) (r : Rest) → InPacked limits r → kept_words r.frame ≤ 257 + sum (named_sizes (numbers (rest_of r.frame ++ laid (pending_of r.group))))
packed_named limits r h =
    let ns = numbers_more (rest_of r.frame) (laid (pending_of r.group)) in
    omega (arith, words_kept limits r.frame h.frame, sum_named (numbers (rest_of r.frame)) ns.0, ap (λ (ms : List ℕ). sum (named_sizes ms)) ns.1)

pub keeps_little : (mode : Mode) (limits : Bounds) (status : Status) (r : Rest) → KeepsUp mode limits status r → KeepsLittle (seen mode limits status r)
keeps_little modes.Plain limits statuses.Reading r h = record {
  bytes = part_short modes.Plain limits statuses.Reading r h;
  laid = λ b l k m. omega (arith, length_rest r.frame, ap (λ (x : List ℕ). length x) (m ∙ sym k.0));
  named = λ b l k m. subst (λ (x : List ℕ). kept_words r.frame ≤ 257 + sum (named_sizes (numbers x))) (k.0 ∙ sym m) (words_kept limits r.frame h.0);
  spare = r.frame.spare.little;
}
keeps_little modes.Packed limits statuses.Reading r h = record {
  bytes = part_short modes.Packed limits statuses.Reading r h;
  laid = λ b l k m. omega (arith, length_rest r.frame, ap (λ (x : List ℕ). length x) (laid_kept limits r b l h k m), length-append (rest_of r.frame) (laid (pending_of r.group)));
  named = λ b l k m. subst (λ (x : List ℕ). kept_words r.frame ≤ 257 + sum (named_sizes (numbers x))) (sym (laid_kept limits r b l h k m)) (packed_named limits r h);
  spare = r.frame.spare.little;
}
keeps_little mode limits statuses.Failed r h = record { bytes = part_short mode limits statuses.Failed r h; laid = λ b l k m. absurd k; named = λ b l k m. absurd k; spare = r.frame.spare.little }
keeps_little mode limits (statuses.Refusing fault) r h = record {
  bytes = part_short mode limits (statuses.Refusing fault) r h;
  laid = λ b l k m. omega (arith, empty_words r.frame h.frame);
  named = λ b l k m. omega (arith, empty_words r.frame h.frame);
  spare = r.frame.spare.little;
}

-- no bytes have come where neither a word of the table nor a part of one has
pub plain_none : (r : Rest) → (length r.frame.table.items ≡ 0 → kept_words r.frame ≡ 0) → length r.frame.table.items + length r.frame.part.items ≡ 0 → length (rest_of r.frame) ≡ 0
plain_none r h e = let none : length r.frame.table.items ≡ 0 = omega (arith, e) in omega (arith, length_rest r.frame, h none, e)

pub none_plain : (r : Rest) → length (rest_of r.frame) ≡ 0 → length r.frame.table.items + length r.frame.part.items ≡ 0
none_plain r e = omega (arith, length_rest r.frame, e)

-- what a reader begins with stands for nothing
pub blank_stands : (mode : Mode) (limits : Bounds) (r : Rest) → IsBlank r → KeptFor mode limits r []
blank_stands modes.Plain limits r h =
    let none = empty_rest r.frame h.frame in
    (none, ap (λ (b : List ℕ). length b) none, subst (λ (b : List ℕ). Open modes.Plain limits b) none (open_rest limits r.frame (empty_open limits r.frame h.frame)))
blank_stands modes.Packed limits r h = keeps_blank limits r h
