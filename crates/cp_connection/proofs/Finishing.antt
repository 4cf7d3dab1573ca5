-- What is taken in, whatever answer it finishes.
use Rattle.std.proofs.Common.{ℕ, List, Option, inl, inr}
use Rattle.cp_connection.specs.Finishing.{ReceivesNaming}
use Rattle.cp_connection.specs.Link.{Link}
use Rattle.cp_connection.specs.Receiving.{Receives}

pub receives_of : {old new : Link} {piece : List ℕ} {count : ℕ} {finished : Option ℕ} → ReceivesNaming old piece count finished new → Receives old piece count new
receives_of (inl h) = inl (h.0, h.2)
receives_of (inr h) = inr (h.0, h.1, h.2, h.3, h.4, h.5, h.6, h.7)
