-- What holds of the messages between two vats, and of each number's question and answer. (rpc.capnp: "Return", "Finish", "Four Tables".)
use Rattle.std.specs.Prelude.{◌≡◌, ℕ, if◌then◌else◌, Bool, true, false, List, [], ◌∷◌, ◌++◌, flat_map, Option, Some, None, IsTrue}
use Rattle.std.specs.List.{list_all, AllByRecursion}
use Rattle.cp_tables.specs.declared.exchange.Stage.{Stage}
use Rattle.cp_tables.specs.declared.exchange.Stage.TheVariants as stages
use Rattle.cp_messages.specs.declared.descriptor.Descriptor.{Descriptor}
use Rattle.cp_messages.specs.declared.descriptor.Descriptor.TheVariants as descriptors
use Rattle.cp_messages.specs.declared.returned.Returned.{Returned}
use Rattle.cp_messages.specs.declared.returned.Returned.TheVariants as returns
use Rattle.cp_messages.specs.declared.resolve.Resolution.{Resolution}
use Rattle.cp_messages.specs.declared.resolve.Resolution.TheVariants as resolutions
use Rattle.cp_messages.specs.declared.message.Message.{Message}
use Rattle.cp_messages.specs.declared.message.Message.TheVariants as messages
use Rattle.cp_vat_machine.specs.Supported.{is_supported}
use Rattle.cp_vat_pair_laws.specs.Ledger.{named_by, opens, returns_to, finishes}
use Rattle.cp_vat_pair_laws.specs.Accounts.{Account, Accounts, accounts_of, is_releasing, Sent, Came}
use Rattle.cp_vat_pair_laws.specs.Owed.{owed_between}
use Rattle.cp_vat_pair_laws.specs.VatPair.{VatPair}

-- a descriptor that isn't a receiverAnswer
abbrev pub is_settled_descriptor : Descriptor → Bool
is_settled_descriptor (descriptors.ReceiverAnswer answer) = false
is_settled_descriptor other = true

abbrev pub is_settled_returned : Returned → Bool
is_settled_returned (returns.Results p) = list_all is_settled_descriptor p.cap_table
is_settled_returned other = true

abbrev pub is_settled_resolution : Resolution → Bool
is_settled_resolution (resolutions.Cap d) = is_settled_descriptor d
is_settled_resolution other = true

-- What a vat sends to another one: no Unimplemented, and while both are open no Abort; no Return lowers what params named; a receiverAnswer
-- occurs in Calls alone.
abbrev pub IsOfKind : Message → Type 0
IsOfKind (messages.Unimplemented t) = ⊥
IsOfKind (messages.Abort x) = ⊥
IsOfKind (messages.Return r) = (r.release_param_caps ≡ false) × IsTrue (is_settled_returned r.returned)
IsOfKind (messages.Resolve r) = IsTrue (is_settled_resolution r.resolution)
IsOfKind other = Unit {0}

abbrev pub IsUsual : Message → Type 0
IsUsual m = IsTrue (is_supported m) × IsOfKind m

abbrev pub AreUsual : List Message → Type 0
AreUsual messages = AllByRecursion IsUsual messages

-- The status of an answer: there is none under its number; it is kept and wasn't given; it was finished before it was given; it was given, and its
-- results named these exports; or a message came that is about no such answer.
pub data Standing : Type 0 where
  absent : Standing
  ungiven : Standing
  left_ungiven : Standing
  given : List ℕ → Standing
  mistaken : Standing

abbrev pub standing_at : Stage → List ℕ → Standing
standing_at stages.Open mentions = ungiven
standing_at stages.Finished mentions = left_ungiven
standing_at stages.Returned mentions = given mentions

abbrev pub standing_of : Option Account → Standing
standing_of None = absent
standing_of (Some account) = standing_at account.stage account.kept

-- how it will stand when its Call or Bootstrap came, and when its Finish came: by true before it was given, by either after that
abbrev pub opened : Standing → Standing
opened absent = ungiven
opened other = mistaken

abbrev pub finished : Bool → Standing → Standing
finished true ungiven = left_ungiven
finished release (given mentions) = absent
finished release other = mistaken

abbrev pub stands_after : ℕ → Message → Standing → Standing
stands_after q m standing = if opens q m then opened standing else (if finishes q m then finished (is_releasing m) standing else standing)

-- how it will stand when all messages on the way came
abbrev pub will_stand : ℕ → List Message → Standing → Standing
will_stand q [] standing = standing
will_stand q (m ∷ more) standing = will_stand q more (stands_after q m standing)

-- the Returns of a question that are on the way, by what each names
abbrev pub return_of : ℕ → Message → List (List ℕ)
return_of q m = if returns_to q m then (named_by m ∷ []) else []

abbrev pub returns_of : ℕ → List Message → List (List ℕ)
returns_of q messages = flat_map (return_of q) messages

-- Where a question is open, its answer will be ungiven, or given as the Return on the way says.
abbrev pub FitsOpen : List (List ℕ) → Standing → Type 0
FitsOpen [] ungiven = Unit {0}
FitsOpen (named ∷ []) (given mentions) = named ≡ mentions
FitsOpen other standing = ⊥

-- Where it was finished before its Return, its answer will be so too, and with a Return on the way there will be none.
abbrev pub FitsFinished : List (List ℕ) → Standing → Type 0
FitsFinished [] left_ungiven = Unit {0}
FitsFinished (named ∷ []) absent = Unit {0}
FitsFinished other standing = ⊥

-- Where its Return came, its answer was given and will be so; and where there is no question, there will be no answer.
abbrev pub FitsReturned : List (List ℕ) → Standing → Type 0
FitsReturned [] (given mentions) = Unit {0}
FitsReturned other standing = ⊥

abbrev pub FitsNone : List (List ℕ) → Standing → Type 0
FitsNone [] absent = Unit {0}
FitsNone other standing = ⊥

abbrev pub FitsAt : Stage → List (List ℕ) → Standing → Type 0
FitsAt stages.Open returns standing = FitsOpen returns standing
FitsAt stages.Finished returns standing = FitsFinished returns standing
FitsAt stages.Returned returns standing = FitsReturned returns standing

abbrev pub Fits : Option Account → List (List ℕ) → Standing → Type 0
Fits None returns standing = FitsNone returns standing
Fits (Some account) returns standing = FitsAt account.stage returns standing

-- The questions of one end fit the answers of the other.
abbrev pub LivesFit : Accounts → List Message → Accounts → List Message → Type 0
LivesFit asker inbox_back answerer inbox_there =
    (q : ℕ) → Fits (asker.questions q) (returns_of q inbox_back) (will_stand q inbox_there (standing_of (answerer.answers q)))

-- Each export's count is what it is owed.
abbrev pub AreOwed : Accounts → List Message → Accounts → List Message → Type 0
AreOwed there inbox_there here inbox_here = (e : ℕ) → here.exports e ≡ owed_between there inbox_there here inbox_here e

-- What holds of two accounts and the messages between them, whatever the vats do.
pub record Agree (one : Accounts) (to_one : List Message) (other : Accounts) (to_other : List Message) : Type 0 where
  pub usual : AreUsual to_one
  pub usual_back : AreUsual to_other
  pub lives : LivesFit one to_one other to_other
  pub lives_back : LivesFit other to_other one to_one
  pub counts : AreOwed other to_other one to_one
  pub counts_back : AreOwed one to_one other to_other

abbrev pub AreAgreed : VatPair → Type 0
AreAgreed w = Agree (accounts_of w.first.vat) w.first.inbox (accounts_of w.second.vat) w.second.inbox

-- They agree on, whatever usual message the one sends, and when it takes in the front of those to it.
pub record Keeps : Type 0 where
  pub sent : {one new other : Accounts} {to_one to_other : List Message} {m : Message} → Agree one to_one other to_other → IsUsual m → Sent one m new
      → Agree new to_one other (to_other ++ m ∷ [])
  pub came : {one new other : Accounts} {to_one to_other : List Message} {m : Message} → Agree one (m ∷ to_one) other to_other → Came one m new
      → Agree new to_one other to_other
