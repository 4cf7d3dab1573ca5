-- The accounts of the vat behind tail calls, from turn to turn.
use Rattle.std.specs.Prelude.{◌≡◌, ℕ, ◌^◌, ◌<◌, Bool, true, false, List, [], ◌∷◌, Option, Some, None, IsTrue}
use Rattle.cp_tables.specs.declared.exchange.Stage.{Stage}
use Rattle.cp_messages.specs.declared.call.Call.{Call}
use Rattle.cp_messages.specs.declared.message.Message.{Message}
use Rattle.cp_messages.specs.declared.message.Message.TheVariants as messages
use Rattle.cp_messages.specs.declared.small.Release.{Release}
use Rattle.cp_vat_machine.specs.Resolving.{given_back}
use Rattle.cp_vat_machine.specs.Supported.{is_supported, is_supported_to_caller}
use Rattle.cp_vat_pair_laws.specs.Ledger.{Traffic}
use Rattle.cp_vat_pair_laws.specs.Ledger as ledger
use Rattle.cp_vat_pair_laws.specs.Accounts.{Accounts, Sent, Came}
use Rattle.cp_vat_pair_laws.specs.Expected.{IsExpected, stage_of}
use Rattle.cp_tail_calls.specs.declared.forwarding.ForwardedMessage.TheVariants as owed
use Rattle.cp_tail_calls.specs.declared.forwarding.Trigger.{Trigger}
use Rattle.cp_tail_calls.specs.declared.forwarding.Trigger.TheVariants as triggers
use Rattle.cp_tail_calls.specs.Runs.{Turn, came, went, passed, TakesTurn}
use Rattle.cp_tail_calls.specs.Tails.{Tails, none}
use Rattle.cp_tail_counts.specs.Peer.{peer_past}

-- The vat gets a message, which it expects and takes in. One that isn't supported changes nothing.
abbrev pub GetsIf : Bool → Accounts → Message → Accounts → Type 0
GetsIf true old m new = IsExpected old m × Came old m new
GetsIf false old m new = new ≡ old

abbrev pub Gets : Accounts → Message → Accounts → Type 0
Gets old m new = GetsIf (is_supported m) old m new

abbrev pub GetsIfAny : Accounts → Option Message → Accounts → Type 0
GetsIfAny old None new = new ≡ old
GetsIfAny old (Some m) new = Gets old m new

-- Tail calls know the stages of the vat's questions.
abbrev pub Knows : Accounts → (ℕ → Option Stage) → Type 0
Knows vat stage = (q : ℕ) → stage q ≡ stage_of (vat.questions q)

-- A message of the peer's comes once nothing is to be passed on any more.
pub record Comes (t : Tails) (old : Accounts) (acts_on : Call → Bool) (stage : ℕ → Option Stage) (on : Option Message) (new : Accounts) : Type 0 where
  pub settled : t.owed ≡ []
  pub acts : (c : Call) → acts_on c ≡ is_supported_to_caller c
  pub knows : Knows old stage
  pub gets : GetsIfAny old on new

-- A vat gives an import back with its whole count when the application does so, and else once, after a Resolve that named it and came too late.
abbrev pub WasNamed : Release → List Traffic → Type 0
WasNamed r (ledger.came (messages.Resolve x) ∷ past) = (given_back x.resolution ≡ r.id ∷ []) × (r.reference_count ≡ 1)
WasNamed r other = ⊥

abbrev pub GivesBack : Trigger → Message → List Traffic → Accounts → Type 0
GivesBack triggers.Application (messages.Release r) past new = new.imports r.id ≡ 0
GivesBack triggers.Message (messages.Release r) past new = WasNamed r past
GivesBack trigger other past new = Unit {0}

-- A vat's Returns give back nothing that params named.
abbrev pub KeepsParams : Message → Type 0
KeepsParams (messages.Return r) = r.release_param_caps ≡ false
KeepsParams other = Unit {0}

-- The vat sends a message.
pub record Goes (old : Accounts) (trigger : Trigger) (m : Message) (past : List Traffic) (new : Accounts) : Type 0 where
  pub supported : IsTrue (is_supported m)
  pub params : KeepsParams m
  pub sends : Sent old m new
  pub gives_back : GivesBack trigger m past new

-- What is passed on to the vat came. What it counts of each import fits 32 bits.
pub record Passes (old : Accounts) (stage : ℕ → Option Stage) (m : Message) (new : Accounts) : Type 0 where
  pub knows : Knows old stage
  pub gets : Gets old m new
  pub fits : (i : ℕ) → new.imports i < 2 ^ 32

-- what a turn does to the vat's accounts
abbrev pub Does : Tails → Accounts → List Traffic → Turn → Accounts → Type 0
Does t old past (came acts_on stage m on) new = Comes t old acts_on stage on new
Does t old past (went trigger m on) new = Goes old trigger m past new
Does t old past (passed stage (owed.ToPeer m)) new = new ≡ old
Does t old past (passed stage (owed.ToVat m)) new = Passes old stage m new

-- a new vat: nothing is counted, asked or answered
pub record IsNew (vat : Accounts) : Type 0 where
  pub exports : (e : ℕ) → vat.exports e ≡ 0
  pub imports : (i : ℕ) → vat.imports i ≡ 0
  pub questions : (q : ℕ) → vat.questions q ≡ None
  pub answers : (a : ℕ) → vat.answers a ≡ None

-- All turns of tail calls before a new vat, with what is kept after them and with the vat's accounts.
abbrev pub Lived : List Turn → Tails → Accounts → Type 0
Lived [] last vat = (last ≡ none) × IsNew vat
Lived (turn ∷ past) last vat = (mid : Tails) × (before : Accounts) × Lived past mid before × TakesTurn mid turn last × Does mid before (peer_past past) turn vat
