-- The words of one segment while a tree is written into it. No public clause names these.
use Rattle.std.specs.Prelude.{◌≡◌, ℕ, ◌+◌, ◌*◌, ◌-◌, ◌^◌, ◌%◌, ◌<◌, ◌≤◌, negsuc, List, [], ◌∷◌, ◌++◌, length, set, replicate, slice_index, take, if◌then◌else◌, ◌==◌, Option, Some, None, Result, Ok, Err}
use Rattle.cp_words.specs.Word.{word_of}
use Rattle.cp_words.specs.declared.pointer.ElementSize.TheVariants as sizes
use Rattle.cp_words.specs.declared.pointer.Pointer.TheVariants as pointers
use Rattle.cp_words.specs.declared.kind.BodyKind.{BodyKind}
use Rattle.cp_words.specs.declared.kind.BodyKind.TheVariants as kinds
use Rattle.cp_tree.specs.Node.{Elements, element_size, element_count, Node, null, cap, struct, list, ptrs, structs, Nodes, no_nodes, node, Bodies, no_bodies, body, count, number_of, row_of}
use Rattle.cp_tree.specs.Shaped.{EachShaped}
use Rattle.cp_tree.specs.declared.fault.WriteFault.TheVariants as writes
use Rattle.cp_reading.specs.Rows.{bodies_in}
use Rattle.cp_writing.specs.Packed.{packed}
use Rattle.cp_writing.specs.Sheets.{body_word}
use Rattle.cp_writing.specs.Writing.{body_blank, bodies_blank, tag_word}
use Rattle.cp_canonical.specs.Cut.{cut_bodies, cut_row, take_ptrs}
use Rattle.cp_canonical.specs.declared.fault.CanonicalFault.{CanonicalFault}
use Rattle.cp_canonical.specs.declared.fault.CanonicalFault.TheVariants as faults
use Rattle.cp_canonical.specs.declared.arena.Arena.{Arena}
use Rattle.cp_canonical.specs.declared.used.Composite.{Composite}

-- word p points to a body of this kind, which follows the last word
abbrev pub pointed : ℕ → BodyKind → List ℕ → List ℕ
pointed p k so_far = set so_far p (body_word k (length so_far - (p + 1)))

-- the words of the body follow
abbrev pub with_body : ℕ → BodyKind → List ℕ → List ℕ → List ℕ
with_body p k ws so_far = pointed p k so_far ++ ws

-- a struct without what hangs on it; one of size zero is its own special word
abbrev pub with_struct : ℕ → List ℕ → ℕ → List ℕ → List ℕ
with_struct p ws n so_far =
    if length ws + n == 0 then set so_far p (word_of (pointers.Struct (negsuc 0) 0 0))
    else with_body p (kinds.Struct (length ws) n) (body_blank ws n) so_far

-- a list without pointers
abbrev pub with_list : ℕ → Elements → List ℕ → List ℕ
with_list p es so_far = with_body p (kinds.List (element_size es) (element_count es)) (packed es) so_far

-- a list of pointers without what hangs on it
abbrev pub with_ptrs : ℕ → ℕ → List ℕ → List ℕ
with_ptrs p n so_far = with_body p (kinds.List sizes.Pointer n) (replicate n 0) so_far

-- the tag of a composite list
abbrev pub with_tag : ℕ → ℕ → ℕ → ℕ → List ℕ → List ℕ
with_tag p d n k so_far = with_body p (kinds.List sizes.Composite (k * (d + n))) (tag_word k d n ∷ []) so_far

abbrev mutual
  -- the words once the tree is written whose pointer is word p
  pub with_tree : ℕ → Node → List ℕ → List ℕ
  with_tree p null so_far = set so_far p 0
  with_tree p (cap i) so_far = set so_far p (word_of (pointers.Cap i))
  with_tree p (struct ws ts) so_far = with_row (length so_far + length ws) ts (with_struct p ws (count ts) so_far)
  with_tree p (list es) so_far = with_list p es so_far
  with_tree p (ptrs ts) so_far = with_row (length so_far) ts (with_ptrs p (count ts) so_far)
  with_tree p (structs d n bs) so_far = with_bodies (length so_far + 1) d n bs (with_tag p d n (number_of bs) so_far ++ bodies_blank bs)

  -- the trees whose pointers stand from word p on
  pub with_row : ℕ → Nodes → List ℕ → List ℕ
  with_row p no_nodes so_far = so_far
  with_row p (node t ts) so_far = with_row (p + 1) ts (with_tree p t so_far)

  -- what hangs on the pointers of a composite list's elements, which stand from word q on
  pub with_bodies : ℕ → ℕ → ℕ → Bodies → List ℕ → List ℕ
  with_bodies q d n no_bodies so_far = so_far
  with_bodies q d n (body ws ts bs) so_far = with_bodies (q + d + n) d n bs (with_row (q + d) ts so_far)

-- the elements of a composite list, cut to this many words and with blank words for this many pointers each
abbrev pub elements_blank : ℕ → ℕ → Bodies → List ℕ
elements_blank d n no_bodies = []
elements_blank d n (body ws ts bs) = take d ws ++ replicate n 0 ++ elements_blank d n bs

-- each of these structs has at least this many words
abbrev pub EachHasWords : ℕ → Bodies → Type 0
EachHasWords d no_bodies = Unit {0}
EachHasWords d (body ws ts bs) = (d ≤ length ws) × EachHasWords d bs

-- each has at least this many pointers, and trees that a message can hold
abbrev pub EachHasPtrs : ℕ → Bodies → Type 0
EachHasPtrs n no_bodies = Unit {0}
EachHasPtrs n (body ws ts bs) = (n ≤ count ts) × EachShaped ts × EachHasPtrs n bs

-- a list of pointers
abbrev pub IsPtrs : Node → Type 0
IsPtrs (ptrs ts) = Unit {0}
IsPtrs other = ⊥

-- a composite list of so many elements, of these sizes
abbrev pub IsStructs : Node → ℕ → ℕ → ℕ → Type 0
IsStructs (structs d n bs) d' n' k = (d ≡ d') × (n ≡ n') × (number_of bs ≡ k)
IsStructs other d' n' k = ⊥

-- the trees that are kept of these first pointers
abbrev pub kept_row : ℕ → Node → Nodes
kept_row n t = take_ptrs n (cut_row (row_of t))

-- the elements of a composite list, cut to these sizes
abbrev pub kept_bodies : Composite → Node → Bodies
kept_bodies of t = cut_bodies of.words of.ptrs (bodies_in t)

-- what hangs on their pointers, which stand from word q on
abbrev pub with_elements : ℕ → Composite → Node → List ℕ → List ℕ
with_elements q of t so_far = with_bodies q of.words of.ptrs (kept_bodies of t) so_far

-- no more words than may be written
abbrev pub IsArena : Arena → Type 0
IsArena s = (length s.words.items ≤ s.most) × (s.most ≤ 67108864)

-- The words were written, and none of what was written is a capability. Or the first one is named; or the words are more
-- than may be written; or memory ran out.
abbrev pub Writes : {X : Type 0} → Arena → Arena → Result X CanonicalFault → Option ℕ → (List ℕ → List ℕ) → Type 0
Writes old new (Ok x) caps wanted = (new.words.items ≡ wanted old.words.items) × IsArena new × (new.most ≡ old.most) × (caps ≡ None)
Writes old new (Err (faults.Capability i)) caps wanted = caps ≡ Some i
Writes old new (Err (faults.Write writes.TooManyWords)) caps wanted = old.most < length (wanted old.words.items)
Writes old new (Err (faults.Write writes.OutOfMemory)) caps wanted = Unit {0}
Writes old new (Err other) caps wanted = ⊥

-- the words, with these bits of the last one alone; with all, if none are counted
abbrev pub masked : ℕ → List ℕ → List ℕ
masked bits ws = if bits == 0 then ws else set ws (length ws - 1) (slice_index ws (length ws - 1) % 2 ^ bits)
