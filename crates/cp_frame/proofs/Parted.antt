-- Groups taken at once into the segments of a frame.
use Rattle.std.proofs.Common.{◌≡◌, ◌⊎◌, inl, inr, ℕ, ◌+◌, ◌-◌, ◌^◌, ◌<◌, List, [], ◌++◌, length, get_or, sym, ◌∙◌, ap, subst, append_assoc, length-append, arith}
use Rattle.std.specs.Global.{Vec}
use Rattle.std.proofs.lemmas.List.{append-nil}
use Rattle.cp_words.specs.Limits.{Bounds}
use Rattle.cp_frame.specs.declared.frame.OpenFrame.{OpenFrame}
use Rattle.cp_frame.specs.declared.spare.Spare.{Spare}
use Rattle.cp_frame.specs.declared.rest.Rest.{Rest}
use Rattle.cp_packed.specs.Words.{AreWords, bytes_of}
use Rattle.cp_frame.specs.Stream.{named_sizes}
use Rattle.cp_frame.specs.Parts.{halves, count_of, body, rest_of, Fills, InSegments, IsComplete}
use Rattle.cp_words.specs.Segments.{words_of}
use Rattle.cp_packed.specs.Unpacking.{Pending, nothing, after, given, laid, pending_of}
use Rattle.cp_frame.specs.Rest.{InPacked, IsSound}
use Rattle.cp_frame.specs.Bulk.{TakesPart, TakesFront}
use Rattle.cp_packed.specs.Groups.{running, TakesGroups}
use Rattle.cp_frame.proofs.Filling.{fills_more, body_more, length_lists}
use Rattle.cp_frame.proofs.Opened.{little_in_segments}
use Rattle.cp_frame.proofs.Needed.{less_kept, small_least}

rest_more : (T B more part : List ℕ) → part ≡ [] → (T ++ (B ++ more)) ++ part ≡ ((T ++ B) ++ part) ++ more
rest_more T B more part e =
    ap (λ (p : List ℕ). (T ++ (B ++ more)) ++ p) e ∙ append-nil (T ++ (B ++ more)) ∙ sym (append_assoc T B more) ∙ ap (λ (c : List ℕ). c ++ more) (sym (append-nil (T ++ B)))
    ∙ ap (λ (p : List ℕ). ((T ++ B) ++ p) ++ more) (sym e)

module _ (limits : Bounds) (f : OpenFrame) (h : InSegments limits f) (none : f.part.items ≡ []) (most run next : ℕ) (left words back : List ℕ) (t : TakesGroups most f.words.items run left words next back)
    (size : most ≡ get_or (named_sizes (halves f.table.items)) (length f.segments.items) 0) where
  abbrev sizes : List ℕ
  sizes = named_sizes (halves f.table.items)

  abbrev S : List (List ℕ)
  S = words_of f.segments.items

  abbrev more : List ℕ
  more = given (running run) t.front

  fitting : most ≡ get_or sizes (length S) 0
  fitting = size ∙ ap (λ (n : ℕ). get_or sizes n 0) (sym (length_lists f.segments.items))

  -- the words that were taken find room
  pub fills_taken : Fills sizes S words
  fills_taken =
      subst (λ (ws : List ℕ). Fills sizes S ws) (sym t.puts)
      (fills_more sizes S f.words.items more h.fills t.are_words (omega (arith, t.within, fitting, ap (λ (ws : List ℕ). length ws) t.puts, length-append f.words.items more)))

  rest_taken : (V : List (Vec ℕ)) (ws : List ℕ) → body (words_of V) ws ≡ body S words → (bytes_of f.table.items ++ body (words_of V) ws) ++ f.part.items ≡ rest_of f ++ bytes_of more
  rest_taken V ws e =
      ap (λ (b : List ℕ). (bytes_of f.table.items ++ b) ++ f.part.items) (e ∙ ap (λ (us : List ℕ). body S us) t.puts ∙ body_more S f.words.items more)
      ∙ rest_more (bytes_of f.table.items) (body S f.words.items) (bytes_of more) f.part.items none

  pub part_open : (W : Vec ℕ) (R : Spare) → W.items ≡ words → (length words ≡ most → ⊥) → TakesPart limits f run left (record { table = f.table; total = f.total; segments = f.segments; words = W; part = f.part; spare = R }) next back
  part_open W R e n = record {
    front = t.front;
    whole = t.whole;
    are_words = t.are_words;
    words = rest_taken f.segments.items W.items (ap (λ (ws : List ℕ). body S ws) e);
    open_then = t.open_then;
    no_part = none;
    goes_on = inl (record {
      table = h.table;
      whole = h.whole;
      fills = subst (λ (ws : List ℕ). Fills sizes S ws) (sym e) fills_taken;
      goes_on = omega (arith, n, t.within, size, ap (λ (ws : List ℕ). length ws) e);
      short = h.short;
    });
  }

  pub part_full : (V : Vec (Vec ℕ)) (W : Vec ℕ) (R : Spare) → length words ≡ most → Fills sizes (words_of V.items) W.items → body (words_of V.items) W.items ≡ body S words
      → (length V.items ≡ count_of f.table.items) ⊎ (length W.items < get_or sizes (length V.items) 0) → TakesPart limits f run left (record { table = f.table; total = f.total; segments = V; words = W; part = f.part; spare = R }) next back
  part_full V W R e fills b k = record {
    front = t.front;
    whole = t.whole;
    are_words = t.are_words;
    words = rest_taken V.items W.items b;
    open_then = t.open_then;
    no_part = none;
    goes_on = by k;
  }
    where
      by : (length V.items ≡ count_of f.table.items) ⊎ (length W.items < get_or sizes (length V.items) 0)
          → InSegments limits (record { table = f.table; total = f.total; segments = V; words = W; part = f.part; spare = R }) ⊎ (IsComplete limits (record { table = f.table; total = f.total; segments = V; words = W; part = f.part; spare = R }) × (next ≡ 0))
      by (inl all) = inr (record { table = h.table; whole = h.whole; fills = fills; all = all; no_part = none }, t.ends e)
      by (inr less) = inl (record { table = h.table; whole = h.whole; fills = fills; goes_on = less; short = h.short })

-- the rest is sound after it
pub part_sound : (limits : Bounds) (r s : Rest) (left back : List ℕ) → TakesPart limits r.frame r.group.run left s.frame s.group.run back → s.group.part.items ≡ [] → IsSound limits s
part_sound limits r s left back t none = by t.goes_on
  where
    by : InSegments limits s.frame ⊎ (IsComplete limits s.frame × (s.group.run ≡ 0)) → IsSound limits s
    by (inl h) = inr (inr h, little_in_segments limits s.frame (laid (pending_of s.group)) h)
    by (inr h) =
        let same : pending_of s.group ≡ nothing =
        ap (λ (n : ℕ). let p : Pending = record { run = n; part = s.group.part.items } in p) h.1 ∙ ap (λ (b : List ℕ). let p : Pending = record { run = 0; part = b } in p) none in
        inl (h.0, same)

-- what it took of the bytes
pub part_front : (limits : Bounds) (r s : Rest) (left back : List ℕ) → TakesPart limits r.frame r.group.run left s.frame s.group.run back → r.group.part.items ≡ [] → s.group.part.items ≡ []
    → s.taken ≡ r.taken + (length left - length back) → TakesFront limits r left s back
part_front limits r s left back t none no_part count =
    let same : running r.group.run ≡ pending_of r.group = ap (λ (b : List ℕ). let p : Pending = record { run = r.group.run; part = b } in p) (sym none) in
    let next : pending_of s.group ≡ running s.group.run = ap (λ (b : List ℕ). let p : Pending = record { run = s.group.run; part = b } in p) no_part in (
      t.front,
      t.whole,
      record {
        no_part = t.no_part;
        are_words = subst (λ (p : Pending). AreWords (given p t.front)) same t.are_words;
        words = t.words ∙ ap (λ (p : Pending). rest_of r.frame ++ bytes_of (given p t.front)) same;
        group = next ∙ sym t.open_then ∙ ap (λ (p : Pending). after p t.front) same;
        taken = omega (arith, count, ap (λ (b : List ℕ). length b) t.whole, length-append t.front back);
      },
    )

-- how many bytes have come of it
pub few_taken : (limits : Bounds) (r : Rest) → InPacked limits r → r.group.part.items ≡ [] → r.taken < 2 ^ 44
few_taken limits r h none = omega (arith, h.count, less_kept limits r.frame h.frame, small_least limits r.frame h.frame, ap (λ (b : List ℕ). length b) none)
