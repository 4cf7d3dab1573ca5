-- How often numbers were added.
use Rattle.std.specs.Prelude.{◌≡◌, ℕ, zero, suc, ◌+◌, ◌-◌, ◌==◌, if◌then◌else◌, nat_lt, List, [], ◌∷◌, ◌++◌, Option, Some, None}
use Rattle.std.specs.Option.{unwrap_or}
use Rattle.std.specs.FinMap.{get, insert, remove}
use Rattle.cp_tables.specs.Table.{Table}

-- how often a number is there
abbrev pub count_of : Table ℕ → ℕ → ℕ
count_of counts k = unwrap_or (get counts k) 0

-- it is there once more
abbrev pub raised : Table ℕ → ℕ → Table ℕ
raised counts k = insert counts k (count_of counts k + 1)

-- it is there once less
abbrev pub lowered : Table ℕ → ℕ → Table ℕ
lowered counts k = if nat_lt 1 (count_of counts k) then insert counts k (count_of counts k - 1) else remove counts k

-- how often it is one of these numbers
abbrev pub times : ℕ → List ℕ → ℕ
times k [] = 0
times k (n ∷ more) = if n == k then suc (times k more) else times k more

-- Those of these numbers that are there, each as often as it is there at most, after some that were.
abbrev pub those_in_after : List ℕ → List ℕ → List ℕ → List ℕ
those_in_after found [] ns = found
those_in_after found (n ∷ more) ns = those_in_after (if nat_lt (times n found) (times n ns) then found ++ n ∷ [] else found) more ns

abbrev pub those_in : List ℕ → List ℕ → List ℕ
those_in numbers ns = those_in_after [] numbers ns

-- so often, if it is there at all
abbrev pub if_any : ℕ → Option ℕ
if_any zero = None
if_any (suc n) = Some (suc n)

-- each number is there as often as it is one of these
abbrev pub AreCounts : Table ℕ → List ℕ → Type 0
AreCounts counts ns = (k : ℕ) → get counts k ≡ if_any (times k ns)
