-- What a vat does when a Release, a Resolve, a Disembargo, an Unimplemented or an Abort comes. (rpc.capnp: "Release", "Resolve", "Disembargo",
-- "Message.unimplemented", "Message.abort".)
use Rattle.std.specs.Prelude.{◌≡◌, ℕ, ◌==◌, not, true, false, Bool, List, [], ◌∷◌, Option, Some, None, Result, Ok, Err}
use Rattle.std.specs.FinMap.{get, insert, remove, retain_keys}
use Rattle.cp_tree.specs.Node.{Node}
use Rattle.cp_tables.specs.declared.counted.Counted.{Counted}
use Rattle.cp_messages.specs.Denoted.{message_denoted}
use Rattle.cp_messages.specs.Faults.{message_faults}
use Rattle.cp_messages.specs.declared.fault.SchemaFault.{SchemaFault}
use Rattle.cp_messages.specs.declared.exception.Exception.{Exception}
use Rattle.cp_messages.specs.declared.small.Release.{Release}
use Rattle.cp_messages.specs.declared.resolve.Resolution.{Resolution}
use Rattle.cp_messages.specs.declared.resolve.Resolution.TheVariants as resolutions
use Rattle.cp_messages.specs.declared.resolve.Resolve.{Resolve}
use Rattle.cp_messages.specs.declared.target.Target.{Target}
use Rattle.cp_messages.specs.declared.target.Target.TheVariants as targets
use Rattle.cp_messages.specs.declared.disembargo.DisembargoContext.{DisembargoContext}
use Rattle.cp_messages.specs.declared.disembargo.DisembargoContext.TheVariants as contexts
use Rattle.cp_messages.specs.declared.message.Message.{Message}
use Rattle.cp_messages.specs.declared.message.Message.TheVariants as messages
use Rattle.cp_refs.specs.At.{cap_at}
use Rattle.cp_refs.specs.declared.cap.Cap.{Cap}
use Rattle.cp_refs.specs.declared.cap.Cap.TheVariants as caps
use Rattle.cp_refs.specs.declared.outcome.Outcome.{Outcome}
use Rattle.cp_vat_machine.specs.State.{State, with_exports}
use Rattle.cp_vat_machine.specs.Then.{Done, Then, fault_if, Unless}
use Rattle.cp_vat_machine.specs.Writing.{ResolvesTo, mentioned_by}
use Rattle.cp_vat_machine.specs.Receiving.{answer_of, path_of, ReceivesCap, release_exports, released}
use Rattle.cp_vat_machine.specs.Answering.{target_faults}
use Rattle.cp_vat_machine.specs.declared.effect.Effect.{Effect}
use Rattle.cp_vat_machine.specs.declared.effect.Effect.TheVariants as effects
use Rattle.cp_vat_machine.specs.declared.effect.Reason.TheVariants as reasons
use Rattle.cp_vat_machine.specs.declared.entry.ImportKind.{ImportKind}
use Rattle.cp_vat_machine.specs.declared.entry.ImportKind.TheVariants as kinds
use Rattle.cp_vat_machine.specs.declared.fault.PeerFault.{PeerFault}
use Rattle.cp_vat_machine.specs.declared.fault.PeerFault.TheVariants as faults

-- A Release lowers an export by its count.
abbrev pub OnRelease : State → Release → Result Done PeerFault → Type 0
OnRelease old r out = Then (λ exports. exports ≡ released old.counts.exports r.id r.reference_count) (λ exports out. out ≡ Ok ([], with_exports old exports)) out

abbrev pub release_of : ℕ → ℕ → Effect
release_of i n = effects.Send (messages.Release (record { id = i; reference_count = n }))

-- what the Resolve of an import that isn't held any more names is given back
abbrev pub given_back : Resolution → List ℕ
given_back (resolutions.Cap d) = mentioned_by d
given_back other = []

abbrev pub releases_of : List ℕ → List Effect
releases_of [] = []
releases_of (i ∷ ids) = release_of i 1 ∷ releases_of ids

-- an import that may be resolved: a promise that came to nothing yet
abbrev pub is_open_promise : ImportKind → Option (Option Cap) → Bool
is_open_promise kinds.Promise (Some None) = true
is_open_promise kind value = false

abbrev pub TakeResolution : State → Resolution → Result (Cap × State) PeerFault → Type 0
TakeResolution old (resolutions.Cap d) out = ReceivesCap old d out
TakeResolution old (resolutions.Exception x) out = out ≡ Ok (caps.Broken x, old)
TakeResolution old (resolutions.Unknown n) out = ⊥

-- the import came to this
abbrev pub resolved : State → ℕ → Cap → State
resolved s i value = record s { values = record s.values { imports = insert s.values.imports i (Some value) } }

-- A Resolve says what an import came to. That of one that isn't held any more is only given back.
abbrev pub ResolveOf : State → Resolve → Option (Counted ImportKind) → Result Done PeerFault → Type 0
ResolveOf old r None out = out ≡ Ok (releases_of (given_back r.resolution), old)
ResolveOf old r (Some entry) out =
    Unless
    (fault_if (not (is_open_promise entry.kept (get old.values.imports r.promise_id))) faults.NotAnOpenPromise)
    (Then (TakeResolution old r.resolution) (λ taken out. out ≡ Ok ([], resolved taken.1 r.promise_id taken.0)))
    out

abbrev pub OnResolve : State → Resolve → Result Done PeerFault → Type 0
OnResolve old r out = ResolveOf old r (get old.counts.imports r.promise_id) out

-- The echo of a Disembargo goes to the import at which its target ends.
abbrev pub echo_to : State → ℕ → Cap → Result Done PeerFault
echo_to s n (caps.Import i) =
    Ok (effects.Send (messages.Disembargo (record { context = contexts.ReceiverLoopback n; target = targets.ImportedCap i })) ∷ [], s)
echo_to s n other = Err faults.DisembargoTarget

abbrev pub Echoes : State → ℕ → Cap → Result Done PeerFault → Type 0
Echoes old n cap out = (last : Cap) × ResolvesTo old.values cap last × (out ≡ echo_to old n last)

abbrev pub EchoesExport : State → ℕ → Option (Counted Cap) → Result Done PeerFault → Type 0
EchoesExport old n None out = ⊥
EchoesExport old n (Some entry) out = Echoes old n entry.kept out

-- what isn't given yet doesn't end at an import
abbrev pub EchoesAnswer : State → ℕ → List ℕ → Option (Option Outcome) → Result Done PeerFault → Type 0
EchoesAnswer old n path None out = ⊥
EchoesAnswer old n path (Some None) out = out ≡ Err faults.DisembargoTarget
EchoesAnswer old n path (Some (Some outcome)) out = Echoes old n (cap_at outcome path) out

abbrev pub EchoesTarget : State → ℕ → Target → Result Done PeerFault → Type 0
EchoesTarget old n (targets.ImportedCap e) out = EchoesExport old n (get old.counts.exports e) out
EchoesTarget old n (targets.PromisedAnswer answer) out = EchoesAnswer old n (path_of answer.transform) (answer_of old answer.question_id) out
EchoesTarget old n (targets.Unknown m) out = ⊥

-- a mark under this embargo
abbrev pub is_under : ℕ → Option (Option ℕ) → Bool
is_under n (Some (Some m)) = m == n
is_under n other = false

-- An embargo ends: its reference isn't marked any more, and its gate has ended with what it led to.
abbrev pub embargo_ended : State → ℕ → Cap → State
embargo_ended s n cap =
    record s {
      marks =
          record {
            imports = retain_keys s.marks.imports (λ i. not (is_under n (get s.marks.imports i)));
            paths = retain_keys s.marks.paths (λ key. not (is_under n (get s.marks.paths key)));
            embargoes = remove s.marks.embargoes n;
          };
      waiting = record s.waiting { over = record s.waiting.over { embargoes = insert s.waiting.over.embargoes n cap } };
    }

abbrev pub ended_by : State → ℕ → Option Cap → Result Done PeerFault
ended_by s n None = Err faults.UnknownEmbargo
ended_by s n (Some cap) = Ok ([], embargo_ended s n cap)

-- A senderLoopback is echoed, and a receiverLoopback ends its embargo, whatever its target.
abbrev pub OnDisembargo : State → DisembargoContext → Target → Result Done PeerFault → Type 0
OnDisembargo old (contexts.SenderLoopback n) target out = Unless (target_faults old target) (EchoesTarget old n target) out
OnDisembargo old (contexts.ReceiverLoopback n) target out = out ≡ ended_by old n (get old.marks.embargoes n)
OnDisembargo old other target out = ⊥

-- The message that a tree says, if it says one.
abbrev pub told_by : List SchemaFault → Message → Option Message
told_by [] m = Some m
told_by (fault ∷ more) m = None

abbrev pub told : Node → Option Message
told t = told_by (message_faults t) (message_denoted t)

-- A Resolve that the peer doesn't know gives back what it named. Any other message is one that this end needs.
abbrev pub UnknownToPeer : State → Option Message → Result Done PeerFault → Type 0
UnknownToPeer old (Some (messages.Resolve r)) out =
    Then (λ exports. exports ≡ release_exports old.counts.exports (given_back r.resolution)) (λ exports out. out ≡ Ok ([], with_exports old exports)) out
UnknownToPeer old other out = out ≡ Err faults.PeerLacksLevelOne

abbrev pub OnUnimplemented : State → Node → Result Done PeerFault → Type 0
OnUnimplemented old t out = UnknownToPeer old (told t) out

-- An Abort closes the vat.
abbrev pub closed : State → State
closed s = record s { is_closed = true }

abbrev pub OnAbort : State → Exception → Result Done PeerFault → Type 0
OnAbort old x out = out ≡ Ok (effects.Closed (reasons.Peer x) ∷ [], closed old)
