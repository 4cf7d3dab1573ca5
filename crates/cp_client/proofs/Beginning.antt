-- How a client begins.
use Rattle.std.proofs.Common.{◌≡◌, ℕ, List, [], None, refl}
use Rattle.std.specs.FinMap.{empty}
use Rattle.cp_session.specs.State.{State}
use Rattle.cp_client.specs.Conversation.{Asked, Conversation}
use Rattle.cp_client.specs.Devices.{Device}

abbrev made : {H : Type 0} → State H → ℕ → List ℕ → Asked → Device → Device → Conversation H
made session number left asked from to = record { session = session; number = number; left = left; asked = asked; closed = None; from = from; to = to }

-- a client by its parts
pub begun_by : {H : Type 0} (session first : State H) (number : ℕ) (left : List ℕ) (asked : Asked) (from reader to writer : Device) → session ≡ first → left ≡ [] → asked ≡ empty
    → from ≡ reader → to ≡ writer → made session number left asked from to ≡ made first number [] empty reader writer
begun_by session first number left asked from reader to writer s l a f t = rw (s, l, a, f, t) refl
