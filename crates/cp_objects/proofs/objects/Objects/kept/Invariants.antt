use Rattle.std.proofs.Common.{◌≡◌, ℕ, map}
use Rattle.std.specs.Prelude.{◌||◌}
use Rattle.std.specs.List.{list_any}
use Rattle.std.specs.FinSet.{contains}
use Rattle.cp_objects.specs.Objects.{is_kept, objects_of}
use Rattle.cp_objects.specs.Numbers.{is_among}
use Rattle.cp_objects.proofs.objects.Objects.kept.Given as goal

-- what is kept, and what the others keep, is all that is
abbrev pub invariant-loop-member : goal.invariant-loop-member
invariant-loop-member g l =
    (k : ℕ) → (contains l.kept k || list_any (λ member. is_among k member.keeps) (map (λ e. e.1) l.member-iterator)) ≡ is_kept (objects_of l.self) k
