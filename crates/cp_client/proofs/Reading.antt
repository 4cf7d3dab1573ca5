-- Whether a client has bytes, once a piece was read.
use Rattle.std.proofs.Common.{◌≡◌, ◌<◌, ℕ, List, [], Bool, true, false, refl, ap, length, arith}
use Rattle.std.specs.Io.KnownBytes.{IsAtEnd}
use Rattle.cp_client.specs.Conversation.{Conversation}
use Rattle.cp_client.specs.Reading.{Reads, ReadsPiece, has_none, reads}

-- what has a length isn't empty
some_by_length : (xs : List ℕ) → 0 < length xs → xs ≡ [] → ⊥
some_by_length xs some none = omega (arith, some, ap (λ (l : List ℕ). length l) none)

-- by what was told of the piece
pub reads_by : {H : Type 0} (old new : Conversation H) (some : Bool) → ReadsPiece old new → (some ≡ true → 0 < length new.left)
    → (some ≡ false → (new.left ≡ []) × IsAtEnd new.from.bytes) → Reads old some new
reads_by old new true piece some none = reads piece refl (some_by_length new.left (some refl))
reads_by old new false piece some none = has_none piece refl (none refl).0 (none refl).1
