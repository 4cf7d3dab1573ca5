-- A stream that is fed to a relay in pieces.
use Rattle.std.specs.Prelude.{◌≡◌, ℕ, Bool, List, [], ◌∷◌}
use Rattle.cp_frame.specs.Runs.{joined}
use Rattle.cp_messages.specs.declared.message.Message.{Message}
use Rattle.cp_relay.specs.declared.output.Output.TheVariants as outputs
use Rattle.cp_relay.specs.Relay.{Relay, StandsFor, LetsThrough, Gives}

-- The pieces were fed one after another, and none was at fault.
abbrev pub Fed : {V : Type 0} → (V → Message → Bool → V → Type 0) → Relay → List (List ℕ) → Relay → V → V → List ℕ → List ℕ → Type 0
Fed says old [] new before after out now = (new ≡ old) × (after ≡ before) × (now ≡ out)
Fed {V} says old (piece ∷ pieces) new before after out now =
    (mid : Relay) × (visitor : V) × (held : List ℕ) × Gives says old piece mid before visitor out held × Fed says mid pieces new visitor after held now

-- what pieces let through is what the stream that they make does
abbrev pub FeedsStream : {V : Type 0} → (V → Message → Bool → V → Type 0) → Type 0
FeedsStream {V} says = (old new : Relay) (pieces : List (List ℕ)) (before after : V) (out now b : List ℕ)
    → StandsFor old b → Fed says old pieces new before after out now
    → (rest : List ℕ) × LetsThrough says old (joined pieces) new before after out now b rest × StandsFor new rest

-- however a stream comes in pieces, what goes out as it was read is the same, and so is its number of bytes; and the relays stand for the same rest
abbrev pub FeedsSame : {V : Type 0} → (V → Message → Bool → V → Type 0) → Type 0
FeedsSame {V} says = (old new other : Relay) (pieces others : List (List ℕ)) (before after before' after' : V) (out now end b : List ℕ)
    → old.output ≡ outputs.AsRead → StandsFor old b → Fed says old pieces new before after out now → Fed says old others other before' after' out end → joined pieces ≡ joined others
    → (now ≡ end) × (new.at ≡ other.at) × (rest : List ℕ) × StandsFor new rest × StandsFor other rest
