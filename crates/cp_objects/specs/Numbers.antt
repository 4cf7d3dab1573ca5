-- Numbers in lists and sets.
use Rattle.std.specs.Prelude.{◌≡◌, ℕ, ◌≤◌, ◌<◌, ◌==◌, Bool, true, false, if◌then◌else◌, List, [], ◌∷◌, ◌++◌, Option, Some, None}
use Rattle.std.specs.List.{list_any}
use Rattle.std.specs.Ordering.{nat_cmp}
use Rattle.std.specs.FinSet as set
use Rattle.cp_refs.specs.declared.cap.Cap.{Cap}
use Rattle.cp_refs.specs.declared.cap.Cap.TheVariants as caps

-- a set of numbers
abbrev pub Numbers : Type 0
Numbers = set.FinSet nat_cmp

-- it is one of these numbers
abbrev pub is_among : ℕ → List ℕ → Bool
is_among k ns = list_any (λ n. n == k) ns

-- the objects and promises of this end that a table names, as objects see it
abbrev pub local_in : List Cap → List ℕ
local_in [] = []
local_in (caps.Object k ∷ more) = k ∷ local_in more
local_in (other ∷ more) = local_in more

-- it is this number, if it is one
abbrev pub is_number : ℕ → Option ℕ → Bool
is_number k None = false
is_number k (Some n) = n == k

-- the first that is this number is gone
abbrev pub without : ℕ → List ℕ → List ℕ
without n [] = []
without n (x ∷ more) = if x == n then more else x ∷ without n more

-- the first of each of these is gone
abbrev pub without_each : List ℕ → List ℕ → List ℕ
without_each [] xs = xs
without_each (n ∷ more) xs = without_each more (without n xs)

-- these are in the set, too
abbrev pub inserted : List ℕ → Numbers → Numbers
inserted [] s = s
inserted (n ∷ more) s = inserted more (set.insert s n)

-- the numbers of these lists, one after another
abbrev pub joined_lists : List (List ℕ) → List ℕ
joined_lists [] = []
joined_lists (ns ∷ more) = ns ++ joined_lists more

-- it is the first from a number on of those that pass a test, or there is none
abbrev pub IsFirstBy : (ℕ → Bool) → ℕ → Option ℕ → Type 0
IsFirstBy test from (Some k) = (from ≤ k) × (test k ≡ true) × ((j : ℕ) → from ≤ j → j < k → test j ≡ false)
IsFirstBy test from None = (j : ℕ) → from ≤ j → test j ≡ false

-- it is the first of a set from a number on, or there is none
abbrev pub IsFirst : ℕ → Option ℕ → Numbers → Type 0
IsFirst from first s = IsFirstBy (λ k. set.contains s k) from first
