-- The first fault of a message in reading order: the root's word comes first, each word before what hangs on it, and the
-- pointers of a body from the left, each with all that hangs on it before the next.
use Rattle.std.specs.Prelude.{◌≡◌, ℕ, ◌+◌, ◌-◌, ◌*◌, ◌≤◌, ◌<◌, List}
use Rattle.cp_words.specs.Limits.{Bounds}
use Rattle.cp_words.specs.declared.pointer.ElementSize.TheVariants as sizes
use Rattle.cp_words.specs.declared.place.Place.{Place}
use Rattle.cp_tree.specs.Node.{Nodes, Bodies, count, number_of, greatest_depth, deepest_body, total_cost, body_cost}
use Rattle.cp_reading.specs.declared.area.Form.{Form}
use Rattle.cp_reading.specs.declared.area.Form.TheVariants as forms
use Rattle.cp_reading.specs.declared.fault.TreeFault.{TreeFault}
use Rattle.cp_reading.specs.declared.fault.TreeFault.TheVariants as faults
use Rattle.cp_reading.specs.Denotes.{EachDenotes, EachBody}
use Rattle.cp_reading.specs.Faults.{HasBadCapability, NamesNoSegment, HasBadPad, IsOutOfBounds, HasBadTag, HasNoRoot, RootIsNoStruct}
use Rattle.cp_reading.specs.Locates.{Locates}
use Rattle.cp_reading.specs.Reading.{price, IsWhole}

-- the place of a word
abbrev pub place_of : ℕ → ℕ → Place
place_of s p = record { segment = s; word = p }

-- the word has a body of this form, which a composite list has by its elements
abbrev pub HasForm : List (List ℕ) → ℕ → ℕ → Form → ℕ → ℕ → Type 0
HasForm S s p form s' start = IsWhole form × Locates S s p form s' start

-- The word has this fault, whatever is left of the limits: of G3 to G7 a word has at most one.
abbrev pub HasWordFault : List (List ℕ) → ℕ → ℕ → TreeFault → Type 0
HasWordFault S s p (faults.OutOfBounds at) = (place_of s p ≡ at) × IsOutOfBounds S s p
HasWordFault S s p (faults.NoSegment at) = (place_of s p ≡ at) × NamesNoSegment S s p
HasWordFault S s p (faults.BadPad at) = (place_of s p ≡ at) × HasBadPad S s p
HasWordFault S s p (faults.BadTag at) = (place_of s p ≡ at) × HasBadTag S s p
HasWordFault S s p (faults.BadCapability at) = (place_of s p ≡ at) × HasBadCapability S s p
HasWordFault S s p other = ⊥

-- The word itself has this fault, where this many levels and this much cost are left: G8 says that it has a body and no
-- level is left, G9 that a level is left and the body's price is more than the cost that is left.
abbrev pub HasFault : List (List ℕ) → ℕ → ℕ → ℕ → ℕ → TreeFault → Type 0
HasFault S s p levels budget (faults.NestingLimit at) = (place_of s p ≡ at) × (levels ≡ 0) × (form : Form) × (s' : ℕ) × (start : ℕ) × HasForm S s p form s' start
HasFault S s p levels budget (faults.TraversalLimit at) = (place_of s p ≡ at) × (0 < levels) × (form : Form) × (s' : ℕ) × (start : ℕ) × HasForm S s p form s' start × (budget < price form)
HasFault S s p levels budget fault = HasWordFault S s p fault

-- A body as elements, each of data words and then pointers. A struct is one element, and so is a list of pointers; a list
-- without pointers counts as none.
pub record Parts : Type 0 where
  pub elements : ℕ
  pub words : ℕ
  pub ptrs : ℕ

abbrev pub parts_of : Form → Parts
parts_of (forms.Struct d n) = record { elements = 1; words = d; ptrs = n }
parts_of (forms.List sizes.Pointer n) = record { elements = 1; words = 0; ptrs = n }
parts_of (forms.List size n) = record { elements = 0; words = 0; ptrs = 0 }
parts_of (forms.Structs d n k) = record { elements = k; words = d; ptrs = n }

-- where the pointers of an element begin, in a body that begins at a word
abbrev pub pointers_at : Parts → ℕ → ℕ → ℕ
pointers_at parts start element = start + element * (parts.words + parts.ptrs) + parts.words

-- What comes before a pointer of a body denotes these trees, none of which nests deeper than the levels that are left: the
-- elements before its own, and the pointers to its left in its own.
pub record ComesBefore (S : List (List ℕ)) (s start : ℕ) (parts : Parts) (levels : ℕ) (elements : Bodies) (ptrs : Nodes) : Type 0 where
  pub more_elements : number_of elements < parts.elements
  pub more_ptrs : count ptrs < parts.ptrs
  pub elements_denoted : EachBody S s start parts.words parts.ptrs elements
  pub ptrs_denoted : EachDenotes S s (pointers_at parts start (number_of elements)) ptrs
  pub elements_not_deeper : deepest_body elements ≤ levels
  pub ptrs_not_deeper : greatest_depth ptrs ≤ levels

-- what a body costs with the trees of what comes before one of its pointers
abbrev pub cost_before : Form → Bodies → Nodes → ℕ
cost_before form elements ptrs = price form + (body_cost elements + total_cost ptrs)

-- The first fault at a word, where this many levels and this much cost are left, is the word's own; or the word has a body,
-- which is a level down, and it is the first fault at one of the body's pointers, where what comes before that pointer
-- denotes trees, and is paid for.
pub data FirstAt (S : List (List ℕ)) (fault : TreeFault) : ℕ → ℕ → ℕ → ℕ → Type 0 where
  own : {s p levels budget : ℕ} (has : HasFault S s p levels budget fault) → FirstAt S fault s p levels budget
  below : {s p levels budget : ℕ} (form : Form) (s' start : ℕ) (elements : Bodies) (ptrs : Nodes) (body : HasForm S s p form s' start) (deep : 0 < levels)
      (before : ComesBefore S s' start (parts_of form) (levels - 1) elements ptrs) (paid : cost_before form elements ptrs ≤ budget)
      (later : FirstAt S fault s' (pointers_at (parts_of form) start (number_of elements) + count ptrs) (levels - 1) (budget - cost_before form elements ptrs)) → FirstAt S fault s p levels budget

-- The message's first fault in reading order: G1, there is no root; G2, the root leads to no struct; or else the first at
-- the root's word within the limits.
pub data IsFirstFault (S : List (List ℕ)) (limits : Bounds) : TreeFault → Type 0 where
  no_root : (none : HasNoRoot S) → IsFirstFault S limits (faults.NoRoot (place_of 0 0))
  root_kind : (no_struct : RootIsNoStruct S) → IsFirstFault S limits (faults.RootKind (place_of 0 0))
  first : {fault : TreeFault} (struct : ¬ (RootIsNoStruct S)) (at_root : FirstAt S fault 0 0 limits.nesting limits.traversal) → IsFirstFault S limits fault
