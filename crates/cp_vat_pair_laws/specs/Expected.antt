-- What follows for the messages on the way, while neither vat is closed. (rpc.capnp: "Four Tables", "Release", "Return", "Finish".)
use Rattle.std.specs.Prelude.{◌≡◌, ℕ, ◌≤◌, List, ◌∷◌, Option, Some, None}
use Rattle.cp_tables.specs.Counted.{count_of}
use Rattle.cp_tables.specs.declared.exchange.Stage.{Stage}
use Rattle.cp_tables.specs.declared.exchange.Stage.TheVariants as stages
use Rattle.cp_messages.specs.declared.message.Message.{Message}
use Rattle.cp_messages.specs.declared.message.Message.TheVariants as messages
use Rattle.cp_vat_pair_laws.specs.Accounts.{Account, Accounts, accounts_of, lowerable, lowered_by}
use Rattle.cp_vat_pair_laws.specs.Owed.{lowered_on_way}
use Rattle.cp_vat_pair_laws.specs.VatPair.{VatPair, Side, across, end_of, new_pair, Move, Moves, last_of, AreOpen, AreQuiet}

-- It holds of every pair that two new vats come to, while neither was closed.
abbrev pub HoldsAlways : (VatPair → Type 0) → Type 0
HoldsAlways Holds =
    (one other : Option ℕ) (moves : List Move) → Moves (new_pair one other) moves → AreOpen (last_of (new_pair one other) moves)
    → Holds (last_of (new_pair one other) moves)

-- All together, the messages on the way to a vat don't lower an export past its count.
abbrev pub LowersFit : VatPair → Type 0
LowersFit w =
    (side : Side) (e : ℕ) → lowered_on_way (lowerable (accounts_of (end_of w side).vat)) (end_of w side).inbox e ≤ count_of (end_of w side).vat.counts.exports e

-- What a vat holds is an export of the other one, which counts it as often at least; and where no message is on the way, exactly as often.
abbrev pub HeldIsThere : VatPair → Type 0
HeldIsThere w = (side : Side) (e : ℕ) → count_of (end_of w (across side)).vat.counts.imports e ≤ count_of (end_of w side).vat.counts.exports e

abbrev pub HeldIsAll : VatPair → Type 0
HeldIsAll w = AreQuiet w → (side : Side) (e : ℕ) → count_of (end_of w side).vat.counts.exports e ≡ count_of (end_of w (across side)).vat.counts.imports e

-- Where no message is on the way, each question is at the stage of its answer, and there is one where there is the other.
abbrev pub stage_of : Option Account → Option Stage
stage_of None = None
stage_of (Some account) = Some account.stage

abbrev pub StagesMatch : VatPair → Type 0
StagesMatch w =
    AreQuiet w → (side : Side) (q : ℕ)
    → stage_of ((accounts_of (end_of w side).vat).questions q) ≡ stage_of ((accounts_of (end_of w (across side)).vat).answers q)

-- a question that waits for its Return, and an answer that waits for its Finish
abbrev pub IsNotReturned : Stage → Type 0
IsNotReturned stages.Returned = ⊥
IsNotReturned other = Unit {0}

abbrev pub IsAwaited : Option Account → Type 0
IsAwaited None = ⊥
IsAwaited (Some account) = IsNotReturned account.stage

abbrev pub IsNotFinished : Stage → Type 0
IsNotFinished stages.Finished = ⊥
IsNotFinished other = Unit {0}

abbrev pub IsKept : Option Account → Type 0
IsKept None = ⊥
IsKept (Some account) = IsNotFinished account.stage

-- A message is expected if it opens an answer where there is none, returns to a question that waits for that, or finishes an answer that is kept and
-- wasn't finished. Any other message always is.
abbrev pub IsExpected : Accounts → Message → Type 0
IsExpected here (messages.Call c) = here.answers c.question_id ≡ None
IsExpected here (messages.Bootstrap b) = here.answers b.question_id ≡ None
IsExpected here (messages.Return r) = IsAwaited (here.questions r.answer_id)
IsExpected here (messages.Finish f) = IsKept (here.answers f.question_id)
IsExpected here other = Unit {0}

-- The next message to a vat is expected, and doesn't lower an export past its count.
pub record NextIsExpected (w : VatPair) (side : Side) (m : Message) : Type 0 where
  pub expected : IsExpected (accounts_of (end_of w side).vat) m
  pub fits : (e : ℕ) → lowered_by (lowerable (accounts_of (end_of w side).vat)) m e ≤ count_of (end_of w side).vat.counts.exports e

abbrev pub AllIsExpected : VatPair → Type 0
AllIsExpected w = (side : Side) (m : Message) (rest : List Message) → (end_of w side).inbox ≡ m ∷ rest → NextIsExpected w side m
