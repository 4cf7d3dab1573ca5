-- Frames of one segment.
use Rattle.std.proofs.Common.{◌≡◌, ℕ, suc, slice_index, ◌+◌, ◌-◌, ◌*◌, ◌/◌, ◌%◌, ◌^◌, ◌<◌, List, [], ◌∷◌, ◌++◌, length, sum, take, drop, get_or, refl, sym, ◌∙◌, ap, subst, append_assoc, length-append, length-drop, arith, inl, inr}
use Rattle.std.proofs.lemmas.List.{get_or-drop}
use Rattle.std.proofs.Math.Seq.{drop-append-add}
use Rattle.byteorder.specs.Endian.{IsRead, little_number}
use Rattle.byteorder.specs.Numbers.{little_number-reads_back}
use Rattle.std.specs.List.{flat_map}
use Rattle.std.specs.Int.{to_le_bytes, w64}
use Rattle.std.proofs.lemmas.List.{append-nil, take_all, take-append-drop, length-take-le, nil_from_length, get_or_past}
use Rattle.cp_words.specs.Limits.{Bounds}
use Rattle.cp_frame.specs.declared.frame.OpenFrame.{OpenFrame}
use Rattle.cp_frame.specs.Framed.{sizes_of, Framed}
use Rattle.cp_frame.specs.Parts.{halves, count_of, rest_of, IsOpen, IsComplete, InSegments, body, IsEmpty, IsTable, IsWholeTable, NamesLittle}
use Rattle.cp_words.specs.Segments.{words_of}
use Rattle.cp_packed.specs.Words.{words_in, AreWords, bytes_of}
use Rattle.cp_frame.specs.Stream.{named_sizes, numbers}
use Rattle.cp_packed.specs.Unpacking.{Pending, nothing, after, given, laid, pending_of}
use Rattle.cp_frame.specs.declared.rest.Rest.{Rest}
use Rattle.cp_frame.specs.Rest.{InPacked, IsSound}
use Rattle.cp_frame.specs.Bulk.{TakesFront}
use Rattle.cp_packed.specs.Groups.{running, TakesGroups}
use Rattle.cp_frame.specs.Single.{BeginsWithOne, TakesWhole, IsOne, TakesTable, IsStillOpen}
use Rattle.cp_frame.proofs.Opened.{little_in_segments}
use Rattle.cp_frame.proofs.Tables.{length_named}
use Rattle.cp_frame.proofs.Filling.{length_lists}
use Rattle.cp_packed.proofs.Bytes.{words_in_is, take_small}
use Rattle.cp_frame.proofs.Ends.{inside, framed_by, empty_open, empty_rest}

-- words that were read from bytes, each from its place
read_each : (ws xs : List ℕ) → AreWords ws → length xs ≡ length ws → ((k : ℕ) → k < length xs → slice_index xs k ≡ little_number 8 (drop (8 * k) (bytes_of ws))) → xs ≡ ws
read_each [] [] a e h = refl
read_each [] (x ∷ xs) a e h = absurd (omega (arith, e))
read_each (w ∷ ws) [] a e h = absurd (omega (arith, e))
read_each (w ∷ ws) (x ∷ xs) a e h =
    let first : x ≡ w = h 0 (omega arith) ∙ little_number-reads_back 8 w (bytes_of ws) a.0 in
    let later : (k : ℕ) → drop (8 * suc k) (bytes_of (w ∷ ws)) ≡ drop (8 * k) (bytes_of ws) = λ k.
    let step : 8 * suc k ≡ 8 + 8 * k = omega arith in
    ap (λ (n : ℕ). drop n (bytes_of (w ∷ ws))) step ∙ drop-append-add (to_le_bytes w64 w) (bytes_of ws) (8 * k) in
    let more = read_each ws xs a.1 (omega (arith, e)) (λ k l. h (suc k) (omega (arith, l)) ∙ ap (λ (b : List ℕ). little_number 8 b) (later k)) in
    ap (λ (y : ℕ). y ∷ xs) first ∙ ap (λ (ys : List ℕ). w ∷ ys) more

-- the words that were read from bytes are the words that these are
pub words_read : (n : ℕ) (b xs : List ℕ) → length b ≡ 8 * n → ((i : ℕ) → get_or b i 0 < 256) → length xs ≡ n → IsRead little_number 8 b xs → xs ≡ words_in b
words_read n b xs h k e r =
    let words = words_in_is n b h k in
    read_each (words_in b) xs words.1 (omega (arith, e, words.0)) (λ i l. r i l ∙ ap (λ (c : List ℕ). little_number 8 (drop (8 * i) c)) (sym words.2))

-- a segment after the word that is its table
single_framed : (w : ℕ) (ws : List ℕ) → w < 2 ^ 64 → w % 2 ^ 32 ≡ 0 → w / 2 ^ 32 ≡ length ws → AreWords ws → Framed (ws ∷ []) (to_le_bytes w64 w ++ bytes_of ws)
single_framed w ws h none size k =
    let framed = framed_by (w ∷ []) (ws ∷ []) (h, tt) (omega (arith, none)) (omega (arith, none)) (k, tt)
    (ap (λ (n : ℕ). n ∷ []) (sym size) ∙ ap (λ (n : ℕ). take (n + 1) (w / 2 ^ 32 ∷ [])) (sym none)) in
    let head : bytes_of (w ∷ []) ≡ to_le_bytes w64 w = append-nil (to_le_bytes w64 w) in
    let tail : flat_map bytes_of (ws ∷ []) ≡ bytes_of ws = append-nil (bytes_of ws) in
    subst (λ (b : List ℕ). Framed (ws ∷ []) b) (ap (λ (b : List ℕ). b ++ flat_map bytes_of (ws ∷ [])) head ∙ ap (λ (b : List ℕ). to_le_bytes w64 w ++ b) tail) framed

-- the frame that bytes begin with, in parts
pub takes_single : (limits : Bounds) (bytes : List ℕ) (size : ℕ) (body front back : List ℕ) → BeginsWithOne limits bytes size → ((i : ℕ) → get_or bytes i 0 < 256)
    → body ≡ drop 8 bytes → front ≡ take (8 * size) body → back ≡ drop (8 * size) body → TakesWhole limits bytes (8 + 8 * size) (words_in front ∷ []) back
takes_single limits bytes size body front back h k at_body at_front at_back =
    let head = take 8 bytes in
    let long : length body ≡ length bytes - 8 = ap (λ (b : List ℕ). length b) at_body ∙ length-drop 8 bytes in
    let eight : length head ≡ 8 = length-take-le 8 bytes (omega (arith, h.there)) in
    let count : length front ≡ 8 * size = ap (λ (b : List ℕ). length b) at_front ∙ length-take-le (8 * size) body (omega (arith, long, h.there)) in
    let bytes_then : (i : ℕ) → get_or body i 0 < 256 = λ i. subst (λ (b : List ℕ). get_or b i 0 < 256) (sym at_body) (subst (λ (m : ℕ). m < 256) (sym (get_or-drop 8 bytes i 0)) (k (8 + i))) in
    let small : (i : ℕ) → get_or front i 0 < 256 = subst (λ (b : List ℕ). (i : ℕ) → get_or b i 0 < 256) (sym at_front) (take_small (8 * size) body bytes_then) in
    let words = words_in_is size front count small in
    let w = 2 ^ 32 * size in
    let framed = single_framed w (words_in front) (omega (arith, h.fits)) (omega arith) (omega (arith, words.0)) words.1 in
    let same : to_le_bytes w64 w ++ bytes_of (words_in front) ≡ head ++ front = ap (λ (b : List ℕ). b ++ bytes_of (words_in front)) h.table ∙ ap (λ (b : List ℕ). head ++ b) words.2 in
    let parts : front ++ back ≡ body = ap (λ (b : List ℕ). b ++ back) at_front ∙ ap (λ (b : List ℕ). take (8 * size) body ++ b) at_back ∙ take-append-drop (8 * size) body in
    record {
      front = head ++ front;
      whole = sym (take-append-drop 8 bytes) ∙ ap (λ (b : List ℕ). head ++ b) (sym at_body ∙ sym parts) ∙ sym (append_assoc head front back);
      count = omega (arith, eight, count, length-append head front);
      frame = record {
        within = record { few = h.one; small = omega (arith, h.small, words.0) };
        form = subst (λ (b : List ℕ). Framed (words_in front ∷ []) b) same framed;
      };
      shorter = omega (arith, ap (λ (b : List ℕ). length b) at_back, length-drop (8 * size) body, long, h.there);
    }

-- nothing of a table has come, and so nothing at all
pub nothing_come : (limits : Bounds) (f : OpenFrame) → IsOpen limits f → length f.table.items + length f.part.items ≡ 0 → rest_of f ≡ []
nothing_come limits f (inl h) e =
    let no_table = nil_from_length f.table.items (omega (arith, e)) in
    let no_part = nil_from_length f.part.items (omega (arith, e)) in
    rw (no_table, h.no_segments, h.no_words, no_part) refl
nothing_come limits f (inr h) e = absurd (omega (arith, h.whole, e))

-- a frame that is complete has its sizes together, and no words besides
pub complete_parts : (limits : Bounds) (f : OpenFrame) → IsComplete limits f → (f.total ≡ sum (sizes_of (words_of f.segments.items))) × (f.words.items ≡ []) × (f.part.items ≡ [])
complete_parts limits f h =
    let S = words_of f.segments.items in
    let named = named_sizes (halves f.table.items) in
    let many : length named ≡ count_of f.table.items = length_named f.table.items h.whole in
    let count : length S ≡ count_of f.table.items = length_lists f.segments.items ∙ h.all in
    let sizes : sizes_of S ≡ named = h.fills.sized ∙ take_all (length S) named (omega (arith, many, count)) in
    let none : length f.words.items ≡ 0 = omega (arith, h.fills.fitting, get_or_past named (length S) 0 (omega (arith, many, count))) in
    (h.table.sums ∙ ap (λ (ns : List ℕ). sum ns) (sym sizes), nil_from_length f.words.items none, h.no_part)

-- nothing at all has come
pub empty_of : (limits : Bounds) (f : OpenFrame) → IsOpen limits f → length f.table.items + length f.part.items ≡ 0 → IsEmpty f
empty_of limits f (inl h) e =
    let no_table = nil_from_length f.table.items (omega (arith, e)) in
    record {
      table = no_table;
      total = h.table.sums ∙ ap (λ (ws : List ℕ). sum (named_sizes (halves ws))) no_table;
      segments = h.no_segments;
      words = h.no_words;
      part = nil_from_length f.part.items (omega (arith, e));
    }
empty_of limits f (inr h) e = absurd (omega (arith, h.whole, e))

-- what a table of one segment says
one_halves : (size : ℕ) → halves (2 ^ 32 * size ∷ []) ≡ 0 ∷ size ∷ []
one_halves size =
    let low : (2 ^ 32 * size) % 2 ^ 32 ≡ 0 = omega arith in
    let high : (2 ^ 32 * size) / 2 ^ 32 ≡ size = omega arith in
    ap (λ (n : ℕ). n ∷ (2 ^ 32 * size) / 2 ^ 32 ∷ []) low ∙ ap (λ (n : ℕ). 0 ∷ n ∷ []) high

one_table : (limits : Bounds) (table : List ℕ) (size : ℕ) → IsOne limits table size → IsTable limits table size × IsWholeTable table × (named_sizes (halves table) ≡ size ∷ [])
one_table limits table size h =
    let w = 2 ^ 32 * size in
    let ns = one_halves size in
    subst (λ (T : List ℕ). IsTable limits T size × IsWholeTable T × (named_sizes (halves T) ≡ size ∷ [])) (sym h.word) (
      record {
        are_words = (omega (arith, h.fits), tt);
        little = subst (λ (ms : List ℕ). NamesLittle limits ms) (sym ns) (h.one, omega (arith, h.small));
        sums = subst (λ (ms : List ℕ). size ≡ sum (named_sizes ms)) (sym ns) (omega arith);
        no_longer = omega arith;
        few = omega arith;
        fits = h.fits;
      },
      omega arith,
      ap (λ (ms : List ℕ). named_sizes ms) ns,
    )

-- the group of such a table
pub takes_table : (limits : Bounds) (f : OpenFrame) (left back table : List ℕ) (size next : ℕ) → TakesGroups 1 [] 0 left table next back → IsOne limits table size → 0 < size
    → f.table.items ≡ table → f.total ≡ size → f.segments.items ≡ [] → f.words.items ≡ [] → f.part.items ≡ [] → TakesTable limits left f back
takes_table limits f left back table size next t one some at_table at_total at_segments at_words at_part =
    let facts = one_table limits table size one in
    let single : length table ≡ 1 = ap (λ (ws : List ℕ). length ws) one.word in
    let named : named_sizes (halves f.table.items) ≡ size ∷ [] = ap (λ (ws : List ℕ). named_sizes (halves ws)) at_table ∙ facts.2 in
    let segments : InSegments limits f = record {
      table = rw (at_table, at_total) facts.0;
      whole = rw at_table facts.1;
      fills = rw (at_segments, at_words) (record { each = tt; are_words = tt; sized = refl; some = omega arith; fitting = omega arith });
      goes_on = rw (at_segments, at_words, named) some;
      short = rw at_part (omega arith);
    } in
    record {
      front = t.front;
      whole = t.whole;
      are_words = t.are_words;
      words = rw (at_table, at_segments, at_words, at_part) (append-nil (bytes_of table ++ []) ∙ append-nil (bytes_of table) ∙ ap (λ (ws : List ℕ). bytes_of ws) t.puts);
      open_then = t.open_then ∙ ap (λ (n : ℕ). running n) (t.ends single);
      no_part = at_part;
      begun = inr segments;
      little = little_in_segments limits f [] segments;
    }

-- nothing was taken
pub takes_none : (limits : Bounds) (f : OpenFrame) (left : List ℕ) → IsEmpty f → TakesTable limits left f left
takes_none limits f left h = record {
  front = [];
  whole = refl;
  are_words = tt;
  words = empty_rest f h;
  open_then = refl;
  no_part = h.part;
  begun = empty_open limits f h;
  little = rw (empty_rest f h) tt;
}

-- the same, of a packed rest
pub front_table : (limits : Bounds) (r s : Rest) (left back : List ℕ) → InPacked limits r → IsEmpty r.frame → pending_of r.group ≡ nothing → TakesTable limits left s.frame back → s.group ≡ r.group
    → s.taken ≡ r.taken + (length left - length back) → TakesFront limits r left s back
front_table limits r s left back h e none t same count = (
  t.front,
  t.whole,
  record {
    no_part = t.no_part;
    are_words = subst (λ (p : Pending). AreWords (given p t.front)) (sym none) t.are_words;
    words = t.words ∙ ap (λ (p : Pending). bytes_of (given p t.front)) (sym none) ∙ ap (λ (b : List ℕ). b ++ bytes_of (given (pending_of r.group) t.front)) (sym (empty_rest r.frame e));
    group = ap pending_of same ∙ none ∙ sym t.open_then ∙ ap (λ (p : Pending). after p t.front) (sym none);
    taken = omega (arith, count, ap (λ (b : List ℕ). length b) t.whole, length-append t.front back);
  },
)

pub open_table : (limits : Bounds) (s : Rest) (left back : List ℕ) → TakesTable limits left s.frame back → pending_of s.group ≡ nothing → IsStillOpen limits s
open_table limits s left back t none = (t.begun, subst (λ (p : Pending). NamesLittle limits (numbers (rest_of s.frame ++ laid p))) (sym none) t.little)

-- an open frame isn't whole
open_short : (limits : Bounds) (f : OpenFrame) → IsOpen limits f → IsWholeTable f.table.items → length f.segments.items ≡ count_of f.table.items → ⊥
open_short limits f (inl h) whole all = omega (arith, h.goes_on, whole)
open_short limits f (inr h) whole all =
    omega (arith, inside (named_sizes (halves f.table.items)) (length f.segments.items) (length f.words.items) h.goes_on, length_named f.table.items whole, all)

-- a rest whose segments are all there is whole
pub sound_whole : (limits : Bounds) (r : Rest) → IsSound limits r → IsWholeTable r.frame.table.items → length r.frame.segments.items ≡ count_of r.frame.table.items
    → IsComplete limits r.frame × (pending_of r.group ≡ nothing)
sound_whole limits r (inl h) whole all = h
sound_whole limits r (inr h) whole all = absurd (open_short limits r.frame h.0 whole all)
