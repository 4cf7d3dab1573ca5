-- When a frame has come, and when it hasn't.
use Rattle.std.proofs.Common.{◌≡◌, inl, inr, Bool, true, false, ℕ, zero, suc, ◌+◌, ◌-◌, ◌*◌, ◌/◌, ◌%◌, ◌^◌, ◌<◌, ◌≤◌, List, [], ◌∷◌, ◌++◌, length, sum, take, drop, get_or, refl, sym, ◌∙◌, ap, subst, length-append, length-drop, arith}
use Rattle.std.specs.List.{AllByRecursion, flat_map}
use Rattle.std.proofs.lemmas.List.{append-nil, take-append-le, take-append-drop, take_all, get_or_past, nil_from_length}
use Rattle.std.proofs.lemmas.List.Sums.{sum_by_more_le}
use Rattle.std.proofs.lemmas.Bool.{true≢false}
use Rattle.std.proofs.lemmas.Grind.{flat_map-append}
use Rattle.std.specs.Int.{to_le_bytes, w32}
use Rattle.cp_words.specs.Limits.{Bounds}
use Rattle.cp_frame.specs.declared.mode.Mode.{Mode}
use Rattle.cp_frame.specs.declared.mode.Mode.TheVariants as modes
use Rattle.cp_frame.specs.declared.frame.OpenFrame.{OpenFrame}
use Rattle.cp_frame.specs.Framed.{spelled, sizes_of, table, Framed}
use Rattle.cp_packed.specs.Words.{AreWords, bytes_of}
use Rattle.cp_frame.specs.Frame.{Frame}
use Rattle.cp_frame.specs.Stream.{numbers, named_sizes, Frames, Open}
use Rattle.cp_frame.specs.Parts.{halves, count_of, body, rest_of, InTable, InSegments, IsComplete, IsOpen, IsBegun, IsEmpty, NamesLittle, IsWholeTable}
use Rattle.cp_words.specs.Segments.{words_of}
use Rattle.cp_packed.proofs.Bytes.{all-take}
use Rattle.cp_frame.proofs.Numbers.{length_halves, length_spelled, spelled_halves, halves_small}
use Rattle.cp_frame.proofs.Tables.{length_named}
use Rattle.cp_frame.proofs.Filling.{length_lists}
use Rattle.cp_frame.proofs.Framing.{numbers_framed, length_framed, length_sizes}
use Rattle.cp_frame.proofs.Streams.{plain_fault}
use Rattle.cp_frame.proofs.Opened.{numbers_in_table, numbers_in_segments, length_rest, little_no_fault, little_whole, named_whole, front_in_table, last_of, table_goes_on}

-- a place that holds more than 0 is inside
pub inside : (ns : List ℕ) (i : ℕ) (n : ℕ) → n < get_or ns i 0 → i < length ns
inside [] i n h = absurd (omega (arith, h))
inside (m ∷ ns) zero n h = omega arith
inside (m ∷ ns) (suc i) n h = omega (arith, inside ns i n h)

-- the sizes before a place, and less than what stands there, are less than all
pub sum_inside : (ns : List ℕ) (i n : ℕ) → n < get_or ns i 0 → sum (take i ns) + n < sum ns
sum_inside ns i n h = omega (arith, h, sum_by_more_le (λ m. m) ns i 0 (inside ns i n h))

-- the sizes that a table names are those of a frame which begins as it does
pub sizes_named : (table more : List ℕ) (n : ℕ) (S others : List ℕ) → IsWholeTable table → halves table ++ more ≡ n ∷ (S ++ others) → length S ≡ n + 1 → named_sizes (halves table) ≡ S
sizes_named [] more n S others h e k = absurd (omega (arith, h))
sizes_named (w ∷ ws) more n S others h e k =
    let first : w % 2 ^ 32 ≡ n = cc (e) in
    let tails : (w / 2 ^ 32 ∷ halves ws) ++ more ≡ S ++ others = cc (e) in
    let count : w % 2 ^ 32 + 1 ≡ length S = omega (arith, first, k) in
    sym (named_whole (w ∷ ws) more h) ∙ ap (λ (ns : List ℕ). take (w % 2 ^ 32 + 1) ns) tails ∙ take-append-le (w % 2 ^ 32 + 1) S others (omega (arith, count)) ∙ take_all (w % 2 ^ 32 + 1) S (omega (arith, count))

-- while segments come, no frame has come
pub front_in_segments : (limits : Bounds) (f : OpenFrame) (T : List (List ℕ)) (g back : List ℕ) → InSegments limits f → rest_of f ≡ g ++ back → Framed T g → ⊥
front_in_segments limits f T g back h e k =
    let named = named_sizes (halves f.table.items) in
    let S = words_of f.segments.items in
    let all = sym (numbers_in_segments limits f h) ∙ ap numbers e ∙ numbers_framed T g back k in
    let some : 0 < length f.table.items = omega (arith, h.whole) in
    let count = last_of f.table.items (numbers (body S f.words.items ++ f.part.items)) _ (length T - 1) some all in
    let sizes = sizes_named f.table.items (numbers (body S f.words.items ++ f.part.items)) (length T - 1) (sizes_of T) _ h.whole all (omega (arith, length_sizes T, k.some)) in
    let total : sum named ≡ sum (sizes_of T) = ap (λ (ns : List ℕ). sum ns) sizes in
    let before : sum (sizes_of S) ≡ sum (take (length S) named) = ap (λ (ns : List ℕ). sum ns) h.fills.sized in
    let place : length S ≡ length f.segments.items = length_lists f.segments.items in
    let fitting : length f.words.items < get_or named (length S) 0 = subst (λ i. length f.words.items < get_or named i 0) (sym place) h.goes_on in
    let less = sum_inside named (length S) (length f.words.items) fitting in
    let long : 8 * (length T / 2 + 1 + sum (sizes_of T)) ≤ length (rest_of f) = omega (arith, ap length e, length-append g back, length_framed T g k) in
    omega (arith, long, length_rest f, total, before, less, count, h.table.no_longer, h.short, k.some)

-- what has come of a frame is an open rest
pub open_rest : (limits : Bounds) (f : OpenFrame) → IsOpen limits f → Open modes.Plain limits (rest_of f)
open_rest limits f (inl h) = record {
  no_front = λ S front back e k. front_in_table limits f S front back h e k.form;
  no_fault = λ fault k.
      let ns = sym (ap numbers (append-nil (rest_of f))) ∙ numbers_in_table limits f [] h ∙ ap (λ (b : List ℕ). halves f.table.items ++ numbers b) (append-nil f.part.items) in
      little_no_fault limits (numbers (rest_of f)) fault (subst (λ (ms : List ℕ). NamesLittle limits ms) (sym ns) h.little) (plain_fault limits (rest_of f) fault k);
}
open_rest limits f (inr h) = record {
  no_front = λ S front back e k. front_in_segments limits f S front back h e k.form;
  no_fault = λ fault k.
      let little = little_whole limits f.table.items (numbers (body (words_of f.segments.items) f.words.items ++ f.part.items)) h.whole h.table.little in
      little_no_fault limits (numbers (rest_of f)) fault (subst (λ (ms : List ℕ). NamesLittle limits ms) (sym (numbers_in_segments limits f h)) little) (plain_fault limits (rest_of f) fault k);
}

-- all segments are there, so a frame has come
pub complete_of : (limits : Bounds) (f : OpenFrame) → IsBegun limits f → IsWholeTable f.table.items → length f.segments.items ≡ count_of f.table.items → IsComplete limits f
complete_of limits f (inl (inl h)) whole all = absurd (omega (arith, h.goes_on, whole))
complete_of limits f (inl (inr h)) whole all =
    absurd (omega (arith, inside (named_sizes (halves f.table.items)) (length f.segments.items) (length f.words.items) h.goes_on, length_named f.table.items whole, all))
complete_of limits f (inr h) whole all = h

pub open_of : (limits : Bounds) (f : OpenFrame) → IsBegun limits f → (IsWholeTable f.table.items × (length f.segments.items ≡ count_of f.table.items) → ⊥) → IsOpen limits f
open_of limits f (inl h) k = h
open_of limits f (inr h) k = absurd (k (h.whole, h.all))

pub open_by : (limits : Bounds) (f : OpenFrame) (done : Bool) → IsBegun limits f → (IsWholeTable f.table.items × (length f.segments.items ≡ count_of f.table.items) → done ≡ true) → done ≡ false → IsOpen limits f
open_by limits f done h k e = open_of limits f h (λ w. true≢false (sym (k w) ∙ e))

pub table_by : (limits : Bounds) (f : OpenFrame) (table : List ℕ) (whole : Bool) → IsOpen limits f → table ≡ f.table.items → (IsWholeTable table → whole ≡ true) → whole ≡ false → InTable limits f
table_by limits f table whole h same k e = table_goes_on limits f h (λ w. true≢false (sym (k (subst (λ (ws : List ℕ). IsWholeTable ws) (sym same) w)) ∙ e))

pub empty_open : (limits : Bounds) (f : OpenFrame) → IsEmpty f → IsOpen limits f
empty_open limits f h = inl (record {
  table = record {
    are_words = rw h.table tt;
    little = rw h.table tt;
    sums = rw (h.total, h.table) refl;
    no_longer = rw h.table (omega arith);
    few = rw h.table (omega arith);
    fits = rw h.total (omega arith);
  };
  goes_on = rw h.table (omega arith);
  no_segments = h.segments;
  no_words = h.words;
  short = rw h.part (omega arith);
  little = rw (h.table, h.part) tt;
})

pub empty_rest : (f : OpenFrame) → IsEmpty f → rest_of f ≡ []
empty_rest f h = rw (h.table, h.segments, h.words, h.part) refl

-- one frame more
pub frames_push : (mode : Mode) (limits : Bounds) (b : List ℕ) (given : List (ℕ × List (List ℕ))) (n : ℕ) (S : List (List ℕ)) (front back : List ℕ)
    → Frames mode limits b given (front ++ back) → n ≡ length front → Frame mode limits S front → Frames mode limits b (given ++ (n, S) ∷ []) back
frames_push mode limits b [] n S front back h e k = (front, back, h, e, k, refl)
frames_push mode limits b (g ∷ given) n S front back h e k = (h.0, h.1, h.2, h.3, h.4, frames_push mode limits h.1 given n S front back h.5 e k)

-- a frame that has come, by the words of its table
pub framed_by : (table_words : List ℕ) (S : List (List ℕ)) → AreWords table_words → IsWholeTable table_words → length table_words ≤ count_of table_words / 2 + 1
    → AllByRecursion AreWords S → sizes_of S ≡ named_sizes (halves table_words) → Framed S (bytes_of table_words ++ flat_map bytes_of S)
framed_by [] S h whole short each sizes = absurd (omega (arith, whole))
framed_by (w ∷ ws) S h whole short each sizes =
    let n = w % 2 ^ 32 in
    let tail = w / 2 ^ 32 ∷ halves ws in
    let long : length tail ≡ 2 * length ws + 1 = omega (arith, length_halves ws) in
    let count : length S ≡ n + 1 = omega (arith, sym (length_sizes S) ∙ ap (λ (ns : List ℕ). length ns) sizes ∙ length_named (w ∷ ws) whole) in
    let more = drop (n + 1) tail in
    let padding = spelled more in
    let many : length more ≡ length tail - (n + 1) = length-drop (n + 1) tail in
    let named : table S ≡ spelled (n ∷ take (n + 1) tail) = ap (λ (m : ℕ). spelled (m ∷ sizes_of S)) (let e : length S - 1 ≡ n = omega (arith, count) in e) ∙ ap (λ (ns : List ℕ). spelled (n ∷ ns)) sizes in
    let all : spelled (halves (w ∷ ws)) ≡ table S ++ padding =
    ap (λ (ns : List ℕ). spelled (n ∷ ns)) (sym (take-append-drop (n + 1) tail)) ∙ flat_map-append (to_le_bytes w32) (n ∷ take (n + 1) tail) more ∙ ap (λ (b : List ℕ). b ++ padding) (sym named) in
    record {
      some = omega (arith, count);
      few = omega (arith, count);
      small = subst (λ (ns : List ℕ). AllByRecursion (λ m. m < 2 ^ 32) ns) (sym sizes) (all-take (λ m. m < 2 ^ 32) (n + 1) tail ((halves_small (w ∷ ws) h).1));
      are_words = each;
      padding = padding;
      short = omega (arith, length_spelled more, many, long, whole, short);
      whole = omega (arith, ap (λ (b : List ℕ). length b) all, length_spelled (halves (w ∷ ws)), length_halves (w ∷ ws));
      spells = ap (λ (b : List ℕ). b ++ flat_map bytes_of S) (spelled_halves (w ∷ ws) h ∙ all);
    }

pub little_within : (limits : Bounds) (table_words : List ℕ) → IsWholeTable table_words → NamesLittle limits (halves table_words)
    → (count_of table_words ≤ limits.segments) × (sum (named_sizes (halves table_words)) ≤ limits.frame_words)
little_within limits [] h k = absurd (omega (arith, h))
little_within limits (w ∷ ws) h k = k

pub complete_frame : (limits : Bounds) (f : OpenFrame) → IsComplete limits f → Frame modes.Plain limits (words_of f.segments.items) (rest_of f)
complete_frame limits f h =
    let S = words_of f.segments.items in
    let named = named_sizes (halves f.table.items) in
    let many : length named ≡ count_of f.table.items = length_named f.table.items h.whole in
    let count : length S ≡ count_of f.table.items = length_lists f.segments.items ∙ h.all in
    let sizes : sizes_of S ≡ named = h.fills.sized ∙ take_all (length S) named (omega (arith, many, count)) in
    let none : length f.words.items ≡ 0 = omega (arith, h.fills.fitting, get_or_past named (length S) 0 (omega (arith, many, count))) in
    let no_words : f.words.items ≡ [] = nil_from_length f.words.items none in
    let within = little_within limits f.table.items h.whole h.table.little in
    let rest : rest_of f ≡ bytes_of f.table.items ++ flat_map bytes_of S =
    rw (no_words, h.no_part, append-nil (flat_map bytes_of S)) (append-nil (bytes_of f.table.items ++ flat_map bytes_of S)) in
    record {
      within = record { few = omega (arith, within.0, count); small = subst (λ (ns : List ℕ). sum ns ≤ limits.frame_words) (sym sizes) within.1 };
      form = subst (λ (b : List ℕ). Framed S b) (sym rest) (framed_by f.table.items S h.table.are_words h.whole h.table.no_longer h.fills.each sizes);
    }
