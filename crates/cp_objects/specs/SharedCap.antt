-- Capabilities that all sessions of a host may name.
use Rattle.std.specs.Prelude.{ℕ, ◌==◌, Bool, true, false}
use Rattle.cp_refs.specs.declared.cap.Cap.{Cap}
use Rattle.cp_refs.specs.declared.cap.Cap.TheVariants as caps
use Rattle.cp_objects.specs.declared.shared_cap.LentCap.{LentCap}

-- A session names it by the capability itself: it is null, or that session lends it. No table names a broken one.
abbrev pub is_home_as : ℕ → LentCap → Cap → Bool
is_home_as session shared caps.None = true
is_home_as session shared (caps.Broken exception) = false
is_home_as session shared other = shared.session == session

abbrev pub is_home : ℕ → LentCap → Bool
is_home session shared = is_home_as session shared shared.cap
