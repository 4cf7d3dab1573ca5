-- Reading as a function of the segments: the tree and what is left of the cost limit, or the first fault.
use Rattle.std.specs.Prelude.{◌≡◌, ℕ, zero, suc, ◌+◌, ◌-◌, ◌*◌, ◌≤◌, ◌<◌, ℤ, pos, negsuc, List, length, Option, Some, None, Bool, true, false, slice_index, Result, Ok, Err, nat_lt, nat_le, ◌==◌, if◌then◌else◌}
use Rattle.cp_words.specs.Word.{pointer_of, tag_of, words_for}
use Rattle.cp_words.specs.declared.pointer.Pointer.{Pointer}
use Rattle.cp_words.specs.declared.pointer.Pointer.TheVariants as pointers
use Rattle.cp_words.specs.declared.pointer.ElementSize.TheVariants as sizes
use Rattle.cp_words.specs.declared.pointer.Tag.{Tag}
use Rattle.cp_tree.specs.Node.{Node, null, cap, struct, list, ptrs, structs, Nodes, no_nodes, node, Bodies, no_bodies, body}
use Rattle.cp_words.specs.Targets.{segment, words_at}
use Rattle.cp_tree.specs.Elements.{elements_of}
use Rattle.cp_reading.specs.declared.target.PointerTarget.{PointerTarget}
use Rattle.cp_words.specs.declared.kind.BodyKind.{BodyKind}
use Rattle.cp_words.specs.declared.kind.BodyKind.TheVariants as kinds
use Rattle.cp_reading.specs.declared.area.Area.{Area}
use Rattle.cp_reading.specs.declared.area.Form.{Form}
use Rattle.cp_reading.specs.declared.area.Form.TheVariants as forms
use Rattle.cp_reading.specs.declared.fault.TreeFault.{TreeFault}
use Rattle.cp_reading.specs.declared.fault.TreeFault.TheVariants as faults
use Rattle.cp_words.specs.declared.place.Place.{Place}

infixl 10 ◌>>=◌
abbrev pub ◌>>=◌ : {A B : Type 0} → Result A TreeFault → (A → Result B TreeFault) → Result B TreeFault
(Ok x) >>= f = f x
(Err e) >>= f = Err e

-- a value, and what is left of the cost limit
abbrev pub Read : Type 0 → Type 0
Read A = Result (A × ℕ) TreeFault

-- where a body begins, unless that is before its segment
abbrev pub start_of : ℕ → ℤ → Option ℕ
start_of p (pos n) = Some (p + 1 + n)
start_of p (negsuc n) = if nat_le n p then Some (p - n) else None

-- the body of a pointer at word p of segment s
abbrev pub target_here : ℕ → ℕ → Pointer → Option PointerTarget
target_here s p (pointers.Struct offset d n) = Some (record { kind = kinds.Struct d n; segment = s; start = start_of p offset })
target_here s p (pointers.List offset size n) = Some (record { kind = kinds.List size n; segment = s; start = start_of p offset })
target_here s p pointers.Null = None
target_here s p (pointers.Cap i) = None
target_here s p (pointers.Far double place other) = None

-- what the second word of a landing pad says that the body is
abbrev pub tag_kind_of : Option Pointer → Option BodyKind
tag_kind_of (Some pointers.Null) = Some (kinds.Struct 0 0)
tag_kind_of (Some (pointers.Struct (pos zero) d n)) = Some (kinds.Struct d n)
tag_kind_of (Some (pointers.List (pos zero) size n)) = Some (kinds.List size n)
tag_kind_of other = None

-- the body that a landing pad of two words names
abbrev pub target_second : Place → List (List ℕ) → ℕ → ℕ → Option BodyKind → Result PointerTarget TreeFault
target_second at S start s' None = Err (faults.BadPad at)
target_second at S start s' (Some k) = if nat_lt s' (length S) then Ok (record { kind = k; segment = s'; start = Some start }) else Err (faults.NoSegment at)

abbrev pub target_by_two : Place → List (List ℕ) → Option Pointer → Option Pointer → Result PointerTarget TreeFault
target_by_two at S (Some (pointers.Far false start s')) second = target_second at S start s' (tag_kind_of second)
target_by_two at S first second = Err (faults.BadPad at)

abbrev pub or_bad_pad : Place → Option PointerTarget → Result PointerTarget TreeFault
or_bad_pad at None = Err (faults.BadPad at)
or_bad_pad at (Some target) = Ok target

abbrev pub target_by_one : Place → ℕ → ℕ → Option Pointer → Result PointerTarget TreeFault
target_by_one at s p None = Err (faults.BadPad at)
target_by_one at s p (Some r) = or_bad_pad at (target_here s p r)

-- the body to which a far pointer leads
abbrev pub target_by_far : Place → List (List ℕ) → Bool → ℕ → ℕ → Result PointerTarget TreeFault
target_by_far at S false place s' =
    if nat_lt s' (length S) then
    (if nat_lt place (length (segment S s')) then target_by_one at s' place (pointer_of (slice_index (segment S s') place)) else Err (faults.OutOfBounds at))
    else Err (faults.NoSegment at)
target_by_far at S true place s' =
    if nat_lt s' (length S) then
    (if nat_lt (place + 1) (length (segment S s')) then target_by_two at S (pointer_of (slice_index (segment S s') place)) (pointer_of (slice_index (segment S s') (place + 1))) else Err (faults.OutOfBounds at))
    else Err (faults.NoSegment at)

-- the body to which a pointer leads: at its own word, or where a far pointer leads
abbrev pub target_by : Place → List (List ℕ) → Pointer → Result PointerTarget TreeFault
target_by at S (pointers.Far double place other) = target_by_far at S double place other
target_by at S r = or_bad_pad at (target_here at.segment at.word r)

-- where a body begins, if this many words from there on lie in the segment
abbrev pub in_segment : List ℕ → ℕ → Option ℕ → Option ℕ
in_segment ws size None = None
in_segment ws size (Some start) = if nat_le (start + size) (length ws) then Some start else None

-- a body, or the fault that it isn't inside
abbrev pub placed : Place → Option ℕ → Result ℕ TreeFault
placed at None = Err (faults.OutOfBounds at)
placed at (Some start) = Ok start

-- the elements after a composite list's tag, of a list of this many words
abbrev pub tagged : Place → ℕ → ℕ → ℕ → Option Tag → Result Area TreeFault
tagged at s size start None = Err (faults.BadTag at)
tagged at s size start (Some tag) =
    if nat_lt size (tag.count * (tag.words + tag.ptrs)) then Err (faults.OutOfBounds at)
    else Ok (record { form = forms.Structs tag.words tag.ptrs tag.count; segment = s; start = start + 1 })

abbrev pub area_by_kind : Place → List ℕ → ℕ → Option ℕ → BodyKind → Result Area TreeFault
area_by_kind at ws s start (kinds.Struct d n) = placed at (in_segment ws (d + n) start) >>= λ q. Ok (record { form = forms.Struct d n; segment = s; start = q })
area_by_kind at ws s start (kinds.List sizes.Composite n) = placed at (in_segment ws (n + 1) start) >>= λ q. tagged at s n q (tag_of (slice_index ws q))
area_by_kind at ws s start (kinds.List size n) = placed at (in_segment ws (words_for size n) start) >>= λ q. Ok (record { form = forms.List size n; segment = s; start = q })

-- the body to which a pointer leads, if it is wholly inside its segment
abbrev pub area_by : Place → List (List ℕ) → PointerTarget → Result Area TreeFault
area_by at S target = area_by_kind at (segment S target.segment) target.segment target.start target.kind

-- the body of a pointer that leads into its own segment, which has these words
abbrev pub area_here : Place → List ℕ → Pointer → Result Area TreeFault
area_here at ws r = or_bad_pad at (target_here at.segment at.word r) >>= λ target. area_by_kind at ws target.segment target.start target.kind

-- how the pointers of a body are read: of a segment, this many from a word on, with what is left
abbrev pub Kids : Type 0
Kids = ℕ → ℕ → ℕ → ℕ → Read Nodes

-- the trees of the pointer words from p on
unfoldable pub row_by : (ℕ → ℕ → Read Node) → ℕ → ℕ → ℕ → Read Nodes
row_by read zero p budget = Ok (no_nodes, budget)
row_by read (suc n) p budget = read p budget >>= λ t. row_by read n (p + 1) t.1 >>= λ ts. Ok (node t.0 ts.0, ts.1)

-- the bodies from word q of segment s on, each of d words and n pointers
unfoldable pub bodies_by : (ℕ → ℕ → ℕ → Read Nodes) → List (List ℕ) → ℕ → ℕ → ℕ → ℕ → ℕ → ℕ → Read Bodies
bodies_by kids S s d n zero q budget = Ok (no_bodies, budget)
bodies_by kids S s d n (suc k) q budget = kids n (q + d) budget >>= λ ts. bodies_by kids S s d n k (q + d + n) ts.1 >>= λ bs. Ok (body (words_at S s q d) ts.0 bs.0, bs.1)

-- the tree of a body of this form, whose parts begin at word q of segment s
abbrev pub filled : Kids → List (List ℕ) → Form → ℕ → ℕ → ℕ → Read Node
filled kids S (forms.Struct d n) s q budget = kids s n (q + d) budget >>= λ ts. Ok (struct (words_at S s q d) ts.0, ts.1)
filled kids S (forms.List sizes.Pointer n) s q budget = kids s n q budget >>= λ ts. Ok (ptrs ts.0, ts.1)
filled kids S (forms.List size n) s q budget = Ok (list (elements_of (words_at S s q (words_for size n)) size n), budget)
filled kids S (forms.Structs d n k) s q budget = bodies_by (kids s) S s d n k q budget >>= λ bs. Ok (structs d n bs.0, bs.1)

-- what a body costs, apart from what hangs on it
abbrev pub price : Form → ℕ
price (forms.Struct d n) = 1 + d + n
price (forms.List size n) = 1 + words_for size n
price (forms.Structs d n k) = 2 + k * (1 + d + n)

-- The way into a body: first the depth is checked, then the cost is taken.
abbrev pub charged : Place → Option Kids → ℕ → ℕ → Result (Kids × ℕ) TreeFault
charged at None price budget = Err (faults.NestingLimit at)
charged at (Some kids) price budget = if nat_lt budget price then Err (faults.TraversalLimit at) else Ok (kids, budget - price)

-- the same way in, of a depth
abbrev pub budget_after : Place → ℕ → ℕ → ℕ → Result ℕ TreeFault
budget_after at n price budget = if n == 0 then Err (faults.NestingLimit at) else (if nat_lt budget price then Err (faults.TraversalLimit at) else Ok (budget - price))

-- the tree of a body
abbrev pub body_by : Place → Option Kids → List (List ℕ) → ℕ → Area → Read Node
body_by at kids S budget a = charged at kids (price a.form) budget >>= λ e. filled e.0 S a.form a.segment a.start e.1

abbrev pub pointer_by : Place → Option Kids → List (List ℕ) → ℕ → Option Pointer → Read Node
pointer_by at kids S budget None = Err (faults.BadCapability at)
pointer_by at kids S budget (Some pointers.Null) = Ok (null, budget)
pointer_by at kids S budget (Some (pointers.Cap i)) = Ok (cap i, budget)
pointer_by at kids S budget (Some r) = target_by at S r >>= area_by at S >>= body_by at kids S budget

-- one pointer word
abbrev pub word_by : Option Kids → List (List ℕ) → ℕ → ℕ → ℕ → Read Node
word_by kids S s p budget = pointer_by (record { segment = s; word = p }) kids S budget (pointer_of (slice_index (segment S s) p))

-- how the pointers of a body are read, where bodies may nest that deep
unfoldable pub kids_at : ℕ → List (List ℕ) → Option Kids
kids_at zero S = None
kids_at (suc n) S = Some (λ s. row_by (word_by (kids_at n S) S s))

-- the tree at a word, with bodies nested no deeper than the first number
abbrev pub tree_at : ℕ → List (List ℕ) → ℕ → ℕ → ℕ → Read Node
tree_at n S s p budget = word_by (kids_at n S) S s p budget

abbrev pub rows_at : ℕ → List (List ℕ) → Kids
rows_at n S s = row_by (tree_at n S s)

-- the root's place
abbrev pub top : Place
top = record { segment = 0; word = 0 }

-- the root leads to a struct
abbrev pub rooted : BodyKind → Read Node → Result Node TreeFault
rooted (kinds.Struct d n) read = read >>= λ x. Ok x.0
rooted (kinds.List size n) read = Err (faults.RootKind top)

abbrev pub root_by : Option Kids → List (List ℕ) → ℕ → Option Pointer → Result Node TreeFault
root_by kids S budget None = Err (faults.BadCapability top)
root_by kids S budget (Some pointers.Null) = Err (faults.NoRoot top)
root_by kids S budget (Some (pointers.Cap i)) = Err (faults.RootKind top)
root_by kids S budget (Some r) = target_by top S r >>= λ target. rooted target.kind (area_by top S target >>= body_by top kids S budget)

-- the message's tree, or the first fault
unfoldable pub root_of : ℕ → ℕ → List (List ℕ) → Result Node TreeFault
root_of nesting traversal S =
    if length (segment S 0) == 0 then Err (faults.NoRoot top)
    else root_by (kids_at nesting S) S traversal (pointer_of (slice_index (segment S 0) 0))

-- how many words the parts of a body take
abbrev pub body_words : Form → ℕ
body_words (forms.Struct d n) = d + n
body_words (forms.List size n) = words_for size n
body_words (forms.Structs d n k) = k * (d + n)

-- how many of these are data: a struct's data words, or all words of a list without pointers
abbrev pub lent_words : Form → ℕ
lent_words (forms.Struct d n) = d
lent_words (forms.List sizes.Pointer n) = 0
lent_words (forms.List size n) = words_for size n
lent_words (forms.Structs d n k) = 0

-- a composite list has its own form
abbrev pub IsWhole : Form → Type 0
IsWhole (forms.List sizes.Composite n) = ⊥
IsWhole other = Unit {0}

-- A body of this form lies inside a segment that exists.
abbrev pub IsWithin : List (List ℕ) → Area → Type 0
IsWithin S a = (a.segment < length S) × (a.start + body_words a.form ≤ length (segment S a.segment)) × IsWhole a.form

-- The greatest nesting and traversal that any limits allow. A view's tree is what its words are read as within these.
unfoldable pub most_nesting : ℕ
most_nesting = 256

unfoldable pub most_traversal : ℕ
most_traversal = 67108864

-- a tree that was read, and null where it wasn't
abbrev pub node_in : Read Node → Node
node_in (Ok x) = x.0
node_in (Err e) = null

-- the tree at a word, and that of a body, within the greatest limits
abbrev pub tree_read : List (List ℕ) → ℕ → ℕ → Read Node
tree_read S s p = tree_at most_nesting S s p most_traversal

-- what a struct, list or far pointer leads to
abbrev pub pointer_read : List (List ℕ) → Place → Pointer → Read Node
pointer_read S at r = target_by at S r >>= area_by at S >>= body_by at (kids_at most_nesting S) S most_traversal

abbrev pub area_read : List (List ℕ) → Area → Read Node
area_read S a = filled (rows_at most_nesting S) S a.form a.segment a.start most_traversal

-- The root is what the body was read as, within the limits.
pub record IsRootArea (nesting traversal : ℕ) (S : List (List ℕ)) (a : Area) : Type 0 where
  pub tree : Node
  pub budget : ℕ
  pub within : IsWithin S a
  pub body : body_by top (kids_at nesting S) S traversal a ≡ Ok (tree, budget)
  pub root : root_of nesting traversal S ≡ Ok tree
