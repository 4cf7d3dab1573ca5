-- How a tree is written into segments. (Encoding specification: "Messages", "Inter-Segment Pointers".)
use Rattle.std.specs.Prelude.{◌≡◌, ◌≢◌, ◌⊎◌, ℕ, ◌+◌, ◌*◌, ◌<◌, ◌≤◌, negsuc, List, [], ◌∷◌, length, All, max, Some, slice_index}
use Rattle.cp_words.specs.Word.{bits_of, words_for, tag_of}
use Rattle.cp_words.specs.declared.pointer.ElementSize.TheVariants as sizes
use Rattle.cp_words.specs.declared.pointer.Pointer.TheVariants as pointers
use Rattle.cp_words.specs.declared.kind.BodyKind.{BodyKind}
use Rattle.cp_words.specs.declared.kind.BodyKind.TheVariants as kinds
use Rattle.cp_tree.specs.Node.{Elements, element_size, element_count, Node, null, cap, struct, list, ptrs, structs, Nodes, no_nodes, node, Bodies, no_bodies, body, count, number_of}
use Rattle.cp_words.specs.Targets.{segment, Holds, HasTargetHere, HasTargetByLandingPad, words_at}
use Rattle.cp_tree.specs.Elements.{element, elements_of}
use Rattle.cp_tree.specs.Shaped.{AllFit}

-- how far the segments are filled: the last one begun, and how many words it has
pub record Filled : Type 0 where
  pub last : ℕ
  pub used : ℕ

-- at most this many words in a segment, and at most this many segments
pub record Capacity : Type 0 where
  pub words : ℕ
  pub segments : ℕ

-- a body of this many words fits into the last segment, in which its pointer is
abbrev pub FitsHere : Capacity → ℕ → ℕ → Filled → Type 0
FitsHere capacity s size f = (s ≡ f.last) × (f.used + size ≤ capacity.words)

-- it fits there with a landing pad before it, where its pointer is in another segment
abbrev pub FitsAfterLandingPad : Capacity → ℕ → ℕ → Filled → Type 0
FitsAfterLandingPad capacity s size f = (s ≢ f.last) × (f.used + 1 + size ≤ capacity.words)

-- The body follows what the last segment has.
pub record Follows (S : List (List ℕ)) (s p : ℕ) (k : BodyKind) (size : ℕ) (before : Filled) (s' start : ℕ) (after : Filled) : Type 0 where
  pub has_target : HasTargetHere S s p k start
  pub same : s' ≡ s
  pub starts_after : start ≡ before.used
  pub fills : after ≡ record { last = before.last; used = before.used + size }

-- The body follows a landing pad of one word, which follows what the last segment has.
pub record FollowsLandingPad (S : List (List ℕ)) (s p : ℕ) (k : BodyKind) (size : ℕ) (before : Filled) (s' start : ℕ) (after : Filled) : Type 0 where
  pub has_target : HasTargetByLandingPad S s p k s' start
  pub last : s' ≡ before.last
  pub landing_pad : has_target.place ≡ before.used
  pub starts_after : start ≡ before.used + 1
  pub fills : after ≡ record { last = before.last; used = before.used + 1 + size }

-- The landing pad and the body begin a new segment, and the one before it ends.
pub record Begins (S : List (List ℕ)) (s p : ℕ) (k : BodyKind) (size : ℕ) (before : Filled) (s' start : ℕ) (after : Filled) : Type 0 where
  pub has_target : HasTargetByLandingPad S s p k s' start
  pub ends : length (segment S before.last) ≡ before.used
  pub next : s' ≡ before.last + 1
  pub landing_pad : has_target.place ≡ 0
  pub starts_after : start ≡ 1
  pub fills : after ≡ record { last = before.last + 1; used = 1 + size }

-- the end of a pointer's segment, as far as it is filled
abbrev pub IsEnd : List (List ℕ) → ℕ → Filled → ℕ → Type 0
IsEnd S s f end = ((s ≡ f.last) × (end ≡ f.used)) ⊎ ((s ≢ f.last) × (end ≡ length (segment S s)))

-- Where a body of this many words is placed whose pointer is word p of segment s. A body of no words is named directly, at
-- the end of its pointer's segment. What fits in the last segment, if its pointer is there, is named directly. Else a
-- landing pad with the body after it is placed: in the last segment, if the pointer is in another and both fit; else in a
-- new segment. Where no segment may be begun any more, the body goes to the end of the last one, after a landing pad unless
-- its pointer is there.
pub data Places (S : List (List ℕ)) (capacity : Capacity) (s p : ℕ) (k : BodyKind) (size : ℕ) (before : Filled) (s' start : ℕ) (after : Filled) : Type 0 where
  without_words : (none : size ≡ 0) (has_target : HasTargetHere S s p k start) (same : s' ≡ s) (end : IsEnd S s before start) (fills : after ≡ before) → Places S capacity s p k size before s' start after
  here : (some : 0 < size) (fits : FitsHere capacity s size before) (follows : Follows S s p k size before s' start after) → Places S capacity s p k size before s' start after
  after_landing_pad : (some : 0 < size) (not_here : ¬ (FitsHere capacity s size before)) (fits : FitsAfterLandingPad capacity s size before) (follows : FollowsLandingPad S s p k size before s' start after) → Places S capacity s p k size before s' start after
  in_new : (some : 0 < size) (not_here : ¬ (FitsHere capacity s size before)) (not_after : ¬ (FitsAfterLandingPad capacity s size before)) (more : before.last + 1 < capacity.segments) (begins : Begins S s p k size before s' start after)
      → Places S capacity s p k size before s' start after
  last_here : (some : 0 < size) (not_here : ¬ (FitsHere capacity s size before)) (not_after : ¬ (FitsAfterLandingPad capacity s size before)) (no_more : capacity.segments ≤ before.last + 1) (same : s ≡ before.last)
      (follows : Follows S s p k size before s' start after) → Places S capacity s p k size before s' start after
  last_after_landing_pad : (some : 0 < size) (not_here : ¬ (FitsHere capacity s size before)) (not_after : ¬ (FitsAfterLandingPad capacity s size before)) (no_more : capacity.segments ≤ before.last + 1) (other : s ≢ before.last)
      (follows : FollowsLandingPad S s p k size before s' start after) → Places S capacity s p k size before s' start after

-- the words hold the elements, and the bits after the last one are zero
pub record HoldElements (ws : List ℕ) (es : Elements) : Type 0 where
  pub elements : es ≡ elements_of ws (element_size es) (element_count es)
  pub padding : (k : ℕ) → element_count es * bits_of (element_size es) ≤ k → element ws 1 k ≡ 0

abbrev mutual
  -- Word p of segment s is the tree's pointer. Its body follows what is filled before, then all that hangs on it, before
  -- the next pointer of its parent is written. A struct of size zero is its own special word.
  pub Lays : List (List ℕ) → Capacity → ℕ → ℕ → Node → Filled → Filled → Type 0
  Lays S capacity s p null before after = Holds S s p pointers.Null × (after ≡ before)
  Lays S capacity s p (cap i) before after = Holds S s p (pointers.Cap i) × (after ≡ before)
  Lays S capacity s p (struct [] no_nodes) before after = Holds S s p (pointers.Struct (negsuc 0) 0 0) × (after ≡ before)
  Lays S capacity s p (struct ws ts) before after =
      (s' : ℕ) × (start : ℕ) × (mid : Filled) × Places S capacity s p (kinds.Struct (length ws) (count ts)) (length ws + count ts) before s' start mid
      × (ws ≡ words_at S s' start (length ws)) × LaysRow S capacity s' (start + length ws) ts mid after
  Lays S capacity s p (list es) before after =
      (s' : ℕ) × (start : ℕ) × Places S capacity s p (kinds.List (element_size es) (element_count es)) (words_for (element_size es) (element_count es)) before s' start after
      × HoldElements (words_at S s' start (words_for (element_size es) (element_count es))) es
  Lays S capacity s p (ptrs ts) before after =
      (s' : ℕ) × (start : ℕ) × (mid : Filled) × Places S capacity s p (kinds.List sizes.Pointer (count ts)) (count ts) before s' start mid × LaysRow S capacity s' start ts mid after
  Lays S capacity s p (structs d n bs) before after =
      (s' : ℕ) × (tag : ℕ) × (mid : Filled) × Places S capacity s p (kinds.List sizes.Composite (number_of bs * (d + n))) (number_of bs * (d + n) + 1) before s' tag mid
      × (tag_of (slice_index (segment S s') tag) ≡ Some (record { count = number_of bs; words = d; ptrs = n })) × LaysBodies S capacity s' (tag + 1) d n bs mid after

  -- the pointers from word p on, from the left
  pub LaysRow : List (List ℕ) → Capacity → ℕ → ℕ → Nodes → Filled → Filled → Type 0
  LaysRow S capacity s p no_nodes before after = after ≡ before
  LaysRow S capacity s p (node t ts) before after = (mid : Filled) × Lays S capacity s p t before mid × LaysRow S capacity s (p + 1) ts mid after

  -- The elements stand together, from word q on; what hangs on the pointers of one comes before what hangs on those of
  -- the next.
  pub LaysBodies : List (List ℕ) → Capacity → ℕ → ℕ → ℕ → ℕ → Bodies → Filled → Filled → Type 0
  LaysBodies S capacity s q d n no_bodies before after = after ≡ before
  LaysBodies S capacity s q d n (body ws ts bs) before after =
      (mid : Filled) × (ws ≡ words_at S s q d) × LaysRow S capacity s (q + d) ts before mid × LaysBodies S capacity s (q + d + n) d n bs mid after

-- The segments that a tree is written into: segment 0 begins with the root's pointer, and nothing comes after what is
-- laid. A segment of no words counts as one of one word.
pub record Layout (S : List (List ℕ)) (capacity : Capacity) (t : Node) : Type 0 where
  pub filled : Filled
  pub laid : Lays S (record { words = max 1 capacity.words; segments = capacity.segments }) 0 0 t (record { last = 0; used = 1 }) filled
  pub all : length S ≡ filled.last + 1
  pub ends : length (segment S filled.last) ≡ filled.used
  pub fit : All (AllFit 64) S

-- the one segment that holds a tree: no second one may be begun
abbrev pub Built : Node → List ℕ → Type 0
Built t ws = Layout (ws ∷ []) (record { words = length ws; segments = 1 }) t
