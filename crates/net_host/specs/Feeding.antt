-- A session that is given the bytes of its peer.
use Rattle.std.specs.Prelude.{◌≡◌, ℕ, List, All, ◌++◌}
use Rattle.cp_objects.specs.ObjectTable.{ObjectTableKind}
use Rattle.cp_session.specs.Runs.{Runs, nothing}
use Rattle.cp_session.specs.State.{State}

-- each of these times is this one
abbrev pub AreAt : ℕ → List ℕ → Type 0
AreAt now times = All (λ (time : ℕ). time ≡ now) times

module _ {H : Type 0} (table : ObjectTableKind H) where
  -- Of the session only this was done: it was given these bytes, in order and each once, at this time.
  abbrev pub IsFed : ℕ → State H → List ℕ → State H → Type 0
  IsFed now old given new =
      (taken : List ℕ) × (times : List ℕ) × AreAt now times × Runs table old (record nothing { given = given; taken = taken; times = times }) new

  -- Of a piece a session was given the first bytes at this time, and these are left. No public clause names this.
  abbrev pub Leaves : ℕ → State H → List ℕ → List ℕ → State H → Type 0
  Leaves now old piece left new = (given : List ℕ) × (piece ≡ given ++ left) × IsFed now old given new
