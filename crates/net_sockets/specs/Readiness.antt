-- What is noted of the entries of a slab whose streams are watched.
use Rattle.std.specs.Prelude.{◌≡◌, ◌/◌, ◌%◌, ◌==◌, Contains, ℕ, Bool, true, List, ◌++◌, Some, option_map}
use Rattle.slab.specs.Slab.{Slab, get, slab_len}
use Rattle.mio.specs.declared.token.Token.{Token}

-- this is the token of that stream of the entry under a key
abbrev pub Names : Token → ℕ → Bool → Type 0
Names token key is_second = (token.0 / 2 ≡ key) × ((token.0 % 2 == 1) ≡ is_second)

module _ {E : Type 0} where
  -- the key of each entry that says that it is in the queue is there
  abbrev pub HasEach : (E → Bool) → Slab E → List ℕ → Type 0
  HasEach is_queued entries queue = (key : ℕ) (entry : E) → get entries key ≡ Some entry → is_queued entry ≡ true → Contains queue key

  -- Events were noted. The same entries are there, with all that no event changes. Keys came to the end of the queue, so that none is missing where none was.
  pub record Notes {K : Type 0} (kept : E → K) (is_queued : E → Bool) (old : Slab E) (before : List ℕ) (new : Slab E) (after : List ℕ) : Type 0 where
    pub len : slab_len new ≡ slab_len old
    pub same : (key : ℕ) → option_map kept (get new key) ≡ option_map kept (get old key)
    pub enters : (more : List ℕ) × (after ≡ before ++ more)
    pub none_missing : HasEach is_queued old before → HasEach is_queued new after
