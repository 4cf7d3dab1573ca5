-- Marks under paths of fields.
use Rattle.std.specs.Prelude.{ℕ, List, Option, map}
use Rattle.std.specs.Global.{Vec}
use Rattle.std.specs.Ordering.{nat_cmp}
use Rattle.std.specs.Cmp.Lexicographic.{slice_cmp}
use Rattle.std.specs.FinMap.{FinMap, from_entries}
use Rattle.std.specs.BTreeMap.{BTreeMap, IsOrdered}

-- marks under paths, each with its embargo once one was asked for
abbrev pub Marked : Type 0
Marked = FinMap (slice_cmp nat_cmp) (Option ℕ)

-- a list of marks under keys that have fields
abbrev pub by_fields : {K : Type 0} → (K → List ℕ) → List (K × Option ℕ) → Marked
by_fields fields es = from_entries (map (λ e. (fields e.0, e.1)) es)

-- the fields of a key
abbrev pub fields_of : Vec ℕ → List ℕ
fields_of key = key.items

-- the keys are in order, and none is there twice
abbrev pub AreInOrder : BTreeMap (Vec ℕ) (Option ℕ) → Type 0
AreInOrder marks = IsOrdered (λ x y. slice_cmp nat_cmp (fields_of x) (fields_of y)) marks
