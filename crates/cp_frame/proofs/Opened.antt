-- What has come of a frame, as the beginning of its bytes.
use Rattle.std.proofs.Common.{inl, inr, ◌==◌, if◌then◌else◌, Bool, true, false, ◌≡◌, ℕ, zero, suc, ◌+◌, ◌-◌, ◌*◌, ◌/◌, ◌%◌, ◌^◌, ◌<◌, ◌≤◌, List, [], ◌∷◌, ◌++◌, length, sum, take, get_or, sym, ◌∙◌, ap, subst, append_assoc, length-append, arith}
use Rattle.std.specs.List.{flat_map}
use Rattle.std.specs.Int.{to_le_bytes, w64}
use Rattle.std.proofs.lemmas.List.{append-nil}
use Rattle.cp_words.specs.Limits.{Bounds}
use Rattle.cp_frame.specs.declared.fault.FrameFault.{FrameFault}
use Rattle.cp_frame.specs.declared.fault.FrameFault.TheVariants as faults
use Rattle.cp_frame.specs.declared.frame.OpenFrame.{OpenFrame}
use Rattle.cp_frame.specs.Framed.{spelled, sizes_of, table, Framed}
use Rattle.cp_packed.specs.Words.{bytes_of}
use Rattle.cp_frame.specs.Frame.{padded_table}
use Rattle.cp_frame.specs.Stream.{numbers, named_sizes, NamesFault}
use Rattle.cp_frame.specs.Parts.{halves, count_of, body, rest_of, InTable, InSegments, IsOpen, IsFaultOf, NamesLittle, IsWholeTable, kept_words}
use Rattle.cp_words.specs.Segments.{words_of}
use Rattle.std.specs.Global.{Vec}
use Rattle.std.proofs.lemmas.List.{take-append-le, take_more, take-map}
use Rattle.std.proofs.lemmas.List.Sums.{sum_by_more_le, sum_by_push}
use Rattle.cp_frame.proofs.Numbers.{numbers_words, length_bytes_of, length_halves, length_spelled}
use Rattle.std.proofs.lemmas.Grind.{flat_map-append}
use Rattle.cp_frame.proofs.Tables.{halves-append}
use Rattle.cp_frame.proofs.Filling.{length_lists}
use Rattle.cp_frame.proofs.Framing.{numbers_framed, length_framed, length_bodies, length_sizes}
use Rattle.cp_frame.proofs.Streams.{names_more}

pub fault_of : (limits : Bounds) (ns : List ℕ) (fault : FrameFault) → NamesFault limits ns fault → IsFaultOf limits ns fault
fault_of limits ns faults.TooManySegments h = h
fault_of limits ns faults.FrameTooLarge h = h
fault_of limits ns faults.Truncated h = h
fault_of limits ns faults.RunPastFrame h = h
fault_of limits ns faults.Failed h = h
fault_of limits ns faults.OutOfMemory h = tt

pub fault_of_more : (limits : Bounds) (ns more : List ℕ) (fault : FrameFault) → IsFaultOf limits ns fault → IsFaultOf limits (ns ++ more) fault
fault_of_more limits ns more faults.TooManySegments h = names_more limits ns more faults.TooManySegments h
fault_of_more limits ns more faults.FrameTooLarge h = names_more limits ns more faults.FrameTooLarge h
fault_of_more limits ns more faults.Truncated h = h
fault_of_more limits ns more faults.RunPastFrame h = h
fault_of_more limits ns more faults.Failed h = h
fault_of_more limits ns more faults.OutOfMemory h = tt

-- as long as the table comes, the rest is its words and a part of the next
pub rest_in_table : (limits : Bounds) (f : OpenFrame) (left : List ℕ) → InTable limits f → rest_of f ++ left ≡ bytes_of f.table.items ++ (f.part.items ++ left)
rest_in_table limits f left h =
    rw (h.no_segments, h.no_words, append-nil (bytes_of f.table.items)) (append_assoc (bytes_of f.table.items) f.part.items left)

pub numbers_in_table : (limits : Bounds) (f : OpenFrame) (left : List ℕ) → InTable limits f → numbers (rest_of f ++ left) ≡ halves f.table.items ++ numbers (f.part.items ++ left)
numbers_in_table limits f left h = ap numbers (rest_in_table limits f left h) ∙ numbers_words f.table.items (f.part.items ++ left) h.table.are_words

pub fault_in_part : (limits : Bounds) (f : OpenFrame) (left words part : List ℕ) (fault : FrameFault) → InTable limits f → words ≡ f.table.items → part ≡ f.part.items ++ left
    → NamesFault limits (halves words ++ numbers part) fault → IsFaultOf limits (numbers (rest_of f ++ left)) fault
fault_in_part limits f left words part fault h t e k =
    let all : halves words ++ numbers part ≡ numbers (rest_of f ++ left) =
    ap (λ (ws : List ℕ). halves ws ++ numbers part) t ∙ ap (λ (b : List ℕ). halves f.table.items ++ numbers b) e ∙ sym (numbers_in_table limits f left h) in
    fault_of limits (numbers (rest_of f ++ left)) fault (subst (λ (ns : List ℕ). NamesFault limits ns fault) all k)

pub fault_in_word : (limits : Bounds) (f : OpenFrame) (left back : List ℕ) (word : ℕ) (fault : FrameFault) → InTable limits f → word < 2 ^ 64 → f.part.items ++ left ≡ to_le_bytes w64 word ++ back
    → IsFaultOf limits (halves (f.table.items ++ word ∷ [])) fault → IsFaultOf limits (numbers (rest_of f ++ left)) fault
fault_in_word limits f left back word fault h small e k =
    let ns = halves f.table.items in
    let next : numbers (to_le_bytes w64 word ++ back) ≡ word % 2 ^ 32 ∷ word / 2 ^ 32 ∷ numbers back = numbers_words (word ∷ []) back (small, tt) in
    let all : numbers (rest_of f ++ left) ≡ halves (f.table.items ++ word ∷ []) ++ numbers back =
    numbers_in_table limits f left h ∙ ap (λ (b : List ℕ). ns ++ numbers b) e ∙ ap (λ (ms : List ℕ). ns ++ ms) next
    ∙ sym (append_assoc ns (halves (word ∷ [])) (numbers back)) ∙ ap (λ (ms : List ℕ). ms ++ numbers back) (sym (halves-append f.table.items (word ∷ []))) in
    subst (λ (ms : List ℕ). IsFaultOf limits ms fault) (sym all) (fault_of_more limits (halves (f.table.items ++ word ∷ [])) (numbers back) fault k)

-- one word more of the table
pub fault_pushed : (limits : Bounds) (f : OpenFrame) (word : ℕ) (fault : FrameFault) → InTable limits f → f.part.items ≡ [] → word < 2 ^ 64
    → IsFaultOf limits (halves (f.table.items ++ word ∷ [])) fault → IsFaultOf limits (numbers (rest_of f ++ to_le_bytes w64 word)) fault
fault_pushed limits f word fault h e small k =
    fault_in_word limits f (to_le_bytes w64 word) [] word fault h small (ap (λ (b : List ℕ). b ++ to_le_bytes w64 word) e ∙ sym (append-nil (to_le_bytes w64 word))) k

-- whether its table is whole tells what has come
pub table_goes_on : (limits : Bounds) (f : OpenFrame) → IsOpen limits f → (IsWholeTable f.table.items → ⊥) → InTable limits f
table_goes_on limits f (inl h) k = h
table_goes_on limits f (inr h) k = absurd (k h.whole)

pub segments_go_on : (limits : Bounds) (f : OpenFrame) → IsOpen limits f → IsWholeTable f.table.items → InSegments limits f
segments_go_on limits f (inl h) k = absurd (omega (arith, h.goes_on, k))
segments_go_on limits f (inr h) k = h

pub length_body : (S : List (List ℕ)) (ws : List ℕ) → length (body S ws) ≡ 8 * (sum (sizes_of S) + length ws)
length_body S ws = omega (arith, length-append (flat_map bytes_of S) (bytes_of ws), length_bodies S, length_bytes_of ws)

-- eight bytes to each word that is kept, and those of a part
pub length_rest : (f : OpenFrame) → length (rest_of f) ≡ 8 * kept_words f + length f.part.items
length_rest f =
    omega (
      arith,
      length-append (bytes_of f.table.items ++ body (words_of f.segments.items) f.words.items) f.part.items,
      length-append (bytes_of f.table.items) (body (words_of f.segments.items) f.words.items),
      length_body (words_of f.segments.items) f.words.items,
      length_bytes_of f.table.items,
    )

-- numbers that are within the limits have no fault
pub little_no_fault : (limits : Bounds) (ns : List ℕ) (fault : FrameFault) → NamesLittle limits ns → NamesFault limits ns fault → ⊥
little_no_fault limits [] faults.TooManySegments h k = k
little_no_fault limits (n ∷ ns) faults.TooManySegments h k = omega (arith, h.0, k)
little_no_fault limits [] faults.FrameTooLarge h k = k
little_no_fault limits (n ∷ ns) faults.FrameTooLarge h k = omega (arith, h.1, k.1)
little_no_fault limits ns faults.Truncated h k = k
little_no_fault limits ns faults.RunPastFrame h k = k
little_no_fault limits ns faults.Failed h k = k
little_no_fault limits ns faults.OutOfMemory h k = k

-- what follows a whole table names nothing
pub named_whole : (table more : List ℕ) → IsWholeTable table → named_sizes (halves table ++ more) ≡ named_sizes (halves table)
named_whole [] more h = absurd (omega (arith, h))
named_whole (w ∷ ws) more h = take-append-le (w % 2 ^ 32 + 1) (w / 2 ^ 32 ∷ halves ws) more (omega (arith, h, length_halves ws))

pub little_whole : (limits : Bounds) (table more : List ℕ) → IsWholeTable table → NamesLittle limits (halves table) → NamesLittle limits (halves table ++ more)
little_whole limits [] more h k = absurd (omega (arith, h))
little_whole limits (w ∷ ws) more h k = (k.0, subst (λ (n : ℕ). n ≤ limits.frame_words) (ap (λ (ns : List ℕ). sum ns) (sym (named_whole (w ∷ ws) more h))) k.1)

-- the table has no fault with bytes that follow what has come
pub little_in_table : (limits : Bounds) (f : OpenFrame) (more : List ℕ) → InTable limits f → f.part.items ≡ [] → numbers (rest_of f ++ more) ≡ halves f.table.items ++ numbers more
little_in_table limits f more h e = numbers_in_table limits f more h ∙ ap (λ (b : List ℕ). halves f.table.items ++ numbers (b ++ more)) e

pub little_in_segments : (limits : Bounds) (f : OpenFrame) (more : List ℕ) → InSegments limits f → NamesLittle limits (numbers (rest_of f ++ more))
little_in_segments limits f more h =
    let after = (body (words_of f.segments.items) f.words.items ++ f.part.items) ++ more in
    let rest : rest_of f ++ more ≡ bytes_of f.table.items ++ after =
    ap (λ (b : List ℕ). b ++ more) (append_assoc (bytes_of f.table.items) (body (words_of f.segments.items) f.words.items) f.part.items)
    ∙ append_assoc (bytes_of f.table.items) (body (words_of f.segments.items) f.words.items ++ f.part.items) more in
    subst (λ (ns : List ℕ). NamesLittle limits ns) (sym (ap numbers rest ∙ numbers_words f.table.items after h.table.are_words)) (little_whole limits f.table.items (numbers after) h.whole h.table.little)

-- the numbers of a rest whose table is whole
pub numbers_in_segments : (limits : Bounds) (f : OpenFrame) → InSegments limits f
    → numbers (rest_of f) ≡ halves f.table.items ++ numbers (body (words_of f.segments.items) f.words.items ++ f.part.items)
numbers_in_segments limits f h =
    ap numbers (append_assoc (bytes_of f.table.items) (body (words_of f.segments.items) f.words.items) f.part.items)
    ∙ numbers_words f.table.items (body (words_of f.segments.items) f.words.items ++ f.part.items) h.table.are_words

-- a table names the first of a frame's segments less one before their sizes
pub last_of : (table more S : List ℕ) (n : ℕ) → 0 < length table → halves table ++ more ≡ n ∷ S → count_of table ≡ n + 1
last_of [] more S n h e = absurd (omega (arith, h))
last_of (w ∷ ws) more S n h e = let first : w % 2 ^ 32 ≡ n = cc (e) in omega (arith, first)

-- while the table comes, no frame has come
pub front_in_table : (limits : Bounds) (f : OpenFrame) (T : List (List ℕ)) (g back : List ℕ) → InTable limits f → rest_of f ≡ g ++ back → Framed T g → ⊥
front_in_table limits f T g back h e k =
    let words : kept_words f ≡ length f.table.items = rw (h.no_segments, h.no_words) (omega arith) in
    let long : 8 * (length T / 2 + 1 + sum (sizes_of T)) ≤ length (rest_of f) = omega (arith, ap length e, length-append g back, length_framed T g k) in
    let some : 0 < length f.table.items = omega (arith, long, length_rest f, words, h.short) in
    let all = sym (numbers_in_table limits f [] h) ∙ ap numbers (append-nil (rest_of f) ∙ e) ∙ numbers_framed T g back k in
    let count = last_of f.table.items (numbers (f.part.items ++ [])) _ (length T - 1) some all in
    omega (arith, long, length_rest f, words, h.short, h.goes_on, count, k.some)

-- how long a segment is, among the sizes of all
pub size_read : (vs : List (Vec ℕ)) (i : ℕ) (v : Vec ℕ) → i < length vs → v ≡ get_or vs i v → get_or (sizes_of (words_of vs)) i 0 ≡ length v.items
size_read [] i v h e = absurd (omega (arith, h))
size_read (w ∷ vs) zero v h e = ap (λ (u : Vec ℕ). length u.items) (sym e)
size_read (w ∷ vs) (suc i) v h e = size_read vs i v (omega (arith, h)) e

pub length_sizes_of_lists : (vs : List (Vec ℕ)) → length (sizes_of (words_of vs)) ≡ length vs
length_sizes_of_lists vs = length_sizes (words_of vs) ∙ length_lists vs

-- one segment more
pub next_size : (vs : List (Vec ℕ)) (i : ℕ) (v : Vec ℕ) → i < length vs → v ≡ get_or vs i v
    → take (i + 1) (sizes_of (words_of vs)) ≡ take i (sizes_of (words_of vs)) ++ length v.items ∷ []
next_size vs i v h e = take_more (sizes_of (words_of vs)) i 0 (omega (arith, h, length_sizes_of_lists vs)) ∙ ap (λ n. take i (sizes_of (words_of vs)) ++ n ∷ []) (size_read vs i v h e)

pub next_sum : (vs : List (Vec ℕ)) (i : ℕ) (v : Vec ℕ) → i < length vs → v ≡ get_or vs i v
    → sum (take (i + 1) (sizes_of (words_of vs))) ≡ sum (take i (sizes_of (words_of vs))) + length v.items
next_sum vs i v h e = ap (λ (ns : List ℕ). sum ns) (next_size vs i v h e) ∙ sum_by_push (λ n. n) (take i (sizes_of (words_of vs))) (length v.items)

pub size_within : (vs : List (Vec ℕ)) (i : ℕ) (v : Vec ℕ) → i < length vs → v ≡ get_or vs i v → sum (take i (sizes_of (words_of vs))) + length v.items ≤ sum (sizes_of (words_of vs))
size_within vs i v h e = omega (arith, size_read vs i v h e, sum_by_more_le (λ n. n) (sizes_of (words_of vs)) i 0 (omega (arith, h, length_sizes_of_lists vs)))

pub list_read : (vs : List (Vec ℕ)) (i : ℕ) (v : Vec ℕ) → i < length vs → v ≡ get_or vs i v → get_or (words_of vs) i [] ≡ v.items
list_read [] i v h e = absurd (omega (arith, h))
list_read (w ∷ vs) zero v h e = ap (λ (u : Vec ℕ). u.items) (sym e)
list_read (w ∷ vs) (suc i) v h e = list_read vs i v (omega (arith, h)) e

pub next_list : (vs : List (Vec ℕ)) (i : ℕ) (v : Vec ℕ) → i < length vs → v ≡ get_or vs i v → take (i + 1) (words_of vs) ≡ take i (words_of vs) ++ v.items ∷ []
next_list vs i v h e = take_more (words_of vs) i [] (omega (arith, h, length_lists vs)) ∙ ap (λ (ws : List ℕ). take i (words_of vs) ++ ws ∷ []) (list_read vs i v h e)

pub next_body : (vs : List (Vec ℕ)) (i : ℕ) (v : Vec ℕ) → i < length vs → v ≡ get_or vs i v
    → flat_map bytes_of (take (i + 1) (words_of vs)) ≡ flat_map bytes_of (take i (words_of vs)) ++ bytes_of v.items
next_body vs i v h e =
    ap (λ (S : List (List ℕ)). flat_map bytes_of S) (next_list vs i v h e) ∙ flat_map-append bytes_of (take i (words_of vs)) (v.items ∷ [])
    ∙ ap (λ (b : List ℕ). flat_map bytes_of (take i (words_of vs)) ++ b) (append-nil (bytes_of v.items))

pub length_padded : (S : List (List ℕ)) → length (padded_table S) ≤ 8 + 4 * length S
length_padded S = omega (arith, length-append (table S) (if length S % 2 == 0 then spelled (0 ∷ []) else []), length_spelled ((length S - 1) ∷ sizes_of S), length_sizes S, pad (length S % 2 == 0))
  where
    pad : (b : Bool) → length (if b then spelled (0 ∷ []) else []) ≤ 4
    pad true = omega arith
    pad false = omega arith

-- how long what is written is, before a segment
pub written_short : (vs : List (Vec ℕ)) (i : ℕ) (v : Vec ℕ) → i < length vs → v ≡ get_or vs i v → length vs ≤ 512 → sum (sizes_of (words_of vs)) ≤ 67108864
    → length (padded_table (words_of vs) ++ flat_map bytes_of (take i (words_of vs))) + length v.items < 2 ^ 40
written_short vs i v h e few small =
    let sizes : sum (sizes_of (take i (words_of vs))) ≡ sum (take i (sizes_of (words_of vs))) = ap (λ (ns : List ℕ). sum ns) (sym (take-map (λ seg. length seg) i (words_of vs))) in
    omega (arith, length-append (padded_table (words_of vs)) (flat_map bytes_of (take i (words_of vs))), length_padded (words_of vs), length_lists vs, length_bodies (take i (words_of vs)), sizes, size_within vs i v h e, few, small)
