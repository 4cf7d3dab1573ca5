-- Which references the ends gave each other: those to which a chain of messages leads, of which each went. An end is the callee where its Bool is true, and else the caller.
use Rattle.std.specs.Prelude.{◌≡◌, ◌≢◌, ◌≤◌, ◌⊎◌, ℕ, Bool, true, false, not, List, [], ◌∷◌, Option, Some, None, IsSome, Contains}
use Rattle.std.specs.FinMap.{get, empty}
use Rattle.std.specs.Int.RustNames.{bit_and}
use Rattle.cp_messages.specs.declared.call.Call.{Call}
use Rattle.cp_messages.specs.declared.small.Release.{Release}
use Rattle.cp_messages.specs.declared.target.Target.{Target}
use Rattle.cp_messages.specs.declared.target.Target.TheVariants as targets
use Rattle.cp_messages.specs.declared.message.Message.{Message}
use Rattle.cp_messages.specs.declared.message.Message.TheVariants as messages
use Rattle.cp_relay.specs.declared.rules.Rules.{Rules}
use Rattle.cp_relay.specs.declared.rules.Grant.{Grant}
use Rattle.cp_relay.specs.declared.references.Given.{Given}
use Rattle.cp_relay.specs.declared.references.Side.{Side}
use Rattle.cp_relay.specs.declared.references.References.{References}
use Rattle.cp_relay.specs.declared.state.GuardState.{GuardState}
use Rattle.cp_relay.specs.Rules.{is_method, is_in, may_call, follows}
use Rattle.cp_relay.specs.References.{no_references, hosted_numbers, returned_numbers, resolved_number}
use Rattle.cp_relay.specs.Followed.{gained}
use Rattle.cp_relay.specs.Judged.{goes, judged, judged_from}
use Rattle.cp_relay.specs.Allowed.{Goes}
use Rattle.cp_relay.specs.Once.{Asks}
use Rattle.cp_relay.specs.Traffic.{Heard, from_caller, from_callee, second, knows}

-- What may be called: an object or a promise of an end, by its number; or what the results of a question to it give.
pub data Reference : Type 0 where
  object : Bool → ℕ → Reference
  results : Bool → ℕ → Reference

-- what a call to an end goes to
abbrev pub reference_of : Bool → Target → Option Reference
reference_of end (targets.ImportedCap id) = Some (object end id)
reference_of end (targets.PromisedAnswer promised) = Some (results end promised.question_id)
reference_of end (targets.Unknown number) = None

-- a message of an end is heard
abbrev pub sent_by : Bool → List ℕ → Message → Heard
sent_by true frame m = from_callee frame m
sent_by false frame m = from_caller frame m

-- what is known of a connection on which nothing was sent
abbrev pub nothing_known : GuardState
nothing_known = record { refused = empty; unfinished = 0; under_way = 0; opened = 0; references = no_references }

-- what is known after all this was heard, the last first
abbrev pub known_after : Rules → List Heard → GuardState
known_after rules [] = nothing_known
known_after rules (one ∷ past) = knows rules (known_after rules past) one

-- a message of an end goes, by what was known then
abbrev pub Went : Rules → List Heard → Bool → Message → Type 0
Went rules past end m = goes (judged_from end rules (known_after rules past) m).ruling ≡ true

-- what an end gave
abbrev pub given_by : Bool → References → Side
given_by true refs = refs.callee
given_by false refs = refs.caller

-- the reference's number is in use
abbrev pub IsInUse : References → Reference → Type 0
IsInUse refs (object end id) = IsSome (get (given_by end refs).given id)
IsInUse refs (results end question) = IsSome (get (given_by end refs).questions question)

-- a message gives a reference under this number: in results, or as what a promise becomes
abbrev pub Gives : Message → ℕ → Type 0
Gives (messages.Return r) id = Contains (returned_numbers r.returned) id
Gives (messages.Resolve r) id = resolved_number r.resolution ≡ Some id
Gives other id = ⊥

-- and that reference comes by this one: by the question that is answered, or by the promise
abbrev pub giver : Bool → Message → Option Reference
giver end (messages.Return r) = Some (results end r.answer_id)
giver end (messages.Resolve r) = Some (object end r.promise_id)
giver end other = None

-- A chain of messages that went leads to a reference, of all that was heard, the last first.
pub data Chain (rules : Rules) (Begins : Heard → Type 0) : List Heard → Reference → Type 0 where
  -- it begins with a question,
  asked : (past : List Heard) (end : Bool) (frame : List ℕ) (m : Message) (question : ℕ) → Begins (sent_by end frame m) → Asks m question → Went rules past end m → Chain rules Begins (sent_by end frame m ∷ past) (results (not end) question)
  -- or with what an end gives by itself;
  lent : (past : List Heard) (end : Bool) (frame : List ℕ) (m : Message) (id : ℕ) → Begins (sent_by end frame m) → Gives m id → Went rules past end m → Chain rules Begins (sent_by end frame m ∷ past) (object end id)
  -- a call on a reference leads on,
  called : (past : List Heard) (end : Bool) (frame : List ℕ) (call : Call) (target : Reference) → Chain rules Begins past target → reference_of (not end) call.target ≡ Some target → Went rules past end (messages.Call call)
      → Chain rules Begins (sent_by end frame (messages.Call call) ∷ past) (results (not end) call.question_id)
  -- and what leads to a call leads to what its params give;
  passed : (past : List Heard) (end : Bool) (frame : List ℕ) (call : Call) (id : ℕ) → Chain rules Begins (sent_by end frame (messages.Call call) ∷ past) (results (not end) call.question_id) → Contains (hosted_numbers call.params.cap_table) id
      → Chain rules Begins (sent_by end frame (messages.Call call) ∷ past) (object end id)
  -- so it does to what results, or a promise, give;
  given : (past : List Heard) (end : Bool) (frame : List ℕ) (m : Message) (by : Reference) (id : ℕ) → Chain rules Begins past by → giver end m ≡ Some by → Gives m id → Went rules past end m → Chain rules Begins (sent_by end frame m ∷ past) (object end id)
  -- and it stands for as long as the reference's number is in use.
  stands : (past : List Heard) (one : Heard) (reference : Reference) → Chain rules Begins past reference → IsInUse (known_after rules (one ∷ past)).references reference
      → Chain rules Begins (one ∷ past) reference

-- a Bootstrap begins a chain, and what the callee gives by a message of its own
abbrev pub Opens : Heard → Type 0
Opens (from_caller frame (messages.Bootstrap bootstrap)) = Unit {0}
Opens (from_callee frame (messages.Call call)) = Unit {0}
Opens (from_callee frame (messages.Resolve r)) = Unit {0}
Opens other = ⊥

-- A call begins a chain of this rule: it is of the left side of a rule with its mark.
abbrev pub IsAfter : Rules → Grant → Call → Type 0
IsAfter rules grant call = (other : Grant) × Contains rules.grants.items other × (is_method call.interface_id call.method_id other.after ≡ true) × (bit_and other.mark grant.mark ≢ 0)

abbrev pub BeginsRule : Rules → Grant → Heard → Type 0
BeginsRule rules grant (from_caller frame (messages.Call call)) = IsAfter rules grant call
BeginsRule rules grant other = ⊥

-- A rule lets a call go: its right side has the method, and a chain that begins with a call of its left side leads to what the call goes to.
pub record IsGranted (rules : Rules) (past : List Heard) (call : Call) (target : Reference) : Type 0 where
  pub grant : Grant
  pub of_rules : Contains rules.grants.items grant
  pub method : is_in call.interface_id call.method_id grant.callable ≡ true
  pub chain : Chain rules (BeginsRule rules grant) past target

-- A chain of messages leads to the call's target, and its method may be called on all, or by a rule.
pub record IsGiven (rules : Rules) (past : List Heard) (call : Call) : Type 0 where
  pub target : Reference
  pub goes_to : reference_of true call.target ≡ Some target
  pub chain : Chain rules Opens past target
  pub may : (may_call rules call.interface_id call.method_id ≡ true) ⊎ IsGranted rules past call target

-- Whatever was heard before, where a rule is on what calls gave no call goes but such a one.
abbrev pub OnlyGiven : Type 0
OnlyGiven = (rules : Rules) (past : List Heard) (came : Call) (m : Message) → follows rules ≡ true → Goes (judged rules (known_after rules past) (messages.Call came)).ruling (messages.Call came) m → IsGiven rules past came

-- And a number that is given back as often as it was given is free: what is given under it later has the marks of what gives it then, alone.
abbrev pub ReleasedIsFree : Type 0
ReleasedIsFree = (rules : Rules) (s : GuardState) (end : Bool) (r : Release) (g : Given) → follows rules ≡ true → get (given_by (not end) s.references).given r.id ≡ Some g → g.count ≤ r.reference_count
    → get (given_by (not end) (judged_from end rules s (messages.Release r)).state.references).given r.id ≡ None

-- one's marks are among the other's
abbrev pub Within : ℕ → ℕ → Type 0
Within marks all = bit_and marks all ≡ marks

-- An object of the caller's that a call passes has no mark but those of what the call gives,
abbrev pub PassesMarks : Type 0
PassesMarks = (rules : Rules) (past : List Heard) (frame : List ℕ) (call : Call) (id : ℕ) (g : Given) → follows rules ≡ true → Went rules past false (messages.Call call) → Contains (hosted_numbers call.params.cap_table) id
    → get (known_after rules (from_caller frame (messages.Call call) ∷ past)).references.caller.given id ≡ Some g → Within g.marks (gained rules.grants.items (known_after rules past).references.callee call)

-- and it gets no other for as long as its number is in use.
abbrev pub GainsNoMark : Type 0
GainsNoMark = (rules : Rules) (past : List Heard) (one : Heard) (id : ℕ) (g new : Given) → get (known_after rules past).references.caller.given id ≡ Some g → get (known_after rules (one ∷ past)).references.caller.given id ≡ Some new → Within new.marks g.marks
