-- How a descriptor is taken in, and how exports are lowered. (rpc.capnp: "CapDescriptor", "Release", "Return.releaseParamCaps",
-- "Finish.releaseResultCaps".)
use Rattle.std.specs.Prelude.{◌≡◌, ℕ, ◌+◌, ◌-◌, ◌==◌, ltb, if◌then◌else◌, List, [], ◌∷◌, ◌++◌, length, filter, flat_map, Option, Some, None, is_none, Result, Ok, Err}
use Rattle.std.specs.List.{list_any}
use Rattle.std.specs.FinMap.{get, insert, remove}
use Rattle.cp_tables.specs.Table.{Table, with_change}
use Rattle.cp_tables.specs.Counted.{new_counted, count_of}
use Rattle.cp_tables.specs.declared.counted.Counted.{Counted}
use Rattle.cp_tables.specs.declared.exchange.Exchange.{Exchange}
use Rattle.cp_tables.specs.declared.exchange.Stage.TheVariants as stages
use Rattle.cp_tables.specs.declared.exchange.Stage.{Stage}
use Rattle.cp_messages.specs.declared.promised_answer.Op.{Op}
use Rattle.cp_messages.specs.declared.promised_answer.Op.TheVariants as ops
use Rattle.cp_messages.specs.declared.descriptor.Descriptor.{Descriptor}
use Rattle.cp_messages.specs.declared.descriptor.Descriptor.TheVariants as descriptors
use Rattle.cp_refs.specs.At.{cap_at}
use Rattle.cp_refs.specs.declared.cap.Cap.{Cap}
use Rattle.cp_refs.specs.declared.cap.Cap.TheVariants as caps
use Rattle.cp_refs.specs.declared.outcome.Outcome.{Outcome}
use Rattle.cp_vat_machine.specs.State.{State}
use Rattle.cp_vat_machine.specs.Then.{Then, Each}
use Rattle.cp_vat_machine.specs.Capacity.{has_capacity, Fresh}
use Rattle.cp_vat_machine.specs.declared.entry.AnswerEntry.{AnswerEntry}
use Rattle.cp_vat_machine.specs.declared.entry.ImportKind.{ImportKind}
use Rattle.cp_vat_machine.specs.declared.entry.ImportKind.TheVariants as kinds
use Rattle.cp_vat_machine.specs.declared.fault.PeerFault.{PeerFault}
use Rattle.cp_vat_machine.specs.declared.fault.PeerFault.TheVariants as faults

-- the path of pointer fields that a transform says
abbrev pub fields_of : Op → List ℕ
fields_of (ops.GetPointerField field) = field ∷ []
fields_of other = []

abbrev pub path_of : List Op → List ℕ
path_of transform = flat_map fields_of transform

-- an import is held once more, or from now on, and then it is of this kind and came to nothing yet
abbrev pub held_once_more : State → ℕ → ImportKind → Option (Counted ImportKind) → Result State PeerFault
held_once_more s i kind (Some entry) =
    if ltb entry.count 4294967295 then Ok (record s { counts = record s.counts { imports = insert s.counts.imports i (record entry { count = entry.count + 1 }) } })
    else Err faults.TableFull
held_once_more s i kind None =
    if has_capacity s.counts.imports then Ok (
    record s {
      counts = record s.counts { imports = insert s.counts.imports i (new_counted kind) };
      values = record s.values { imports = insert s.values.imports i None };
    }
    ) else Err faults.TableFull

abbrev pub held_import : State → ℕ → ImportKind → Result State PeerFault
held_import s i kind = held_once_more s i kind (get s.counts.imports i)

-- an answer that is kept and whose Finish hasn't come: whether it was given, and what
abbrev pub unfinished : Stage → Option (Option Outcome) → Option (Option Outcome)
unfinished stages.Finished outcome = None
unfinished other outcome = outcome

abbrev pub answer_by : Option (Exchange AnswerEntry) → Option (Option Outcome) → Option (Option Outcome)
answer_by None outcome = None
answer_by (Some entry) outcome = unfinished entry.stage outcome

abbrev pub answer_of : State → ℕ → Option (Option Outcome)
answer_of s a = answer_by (get s.entries.answers a) (get s.values.answers a)

-- a new promise stands for what an answer will give at a path
abbrev pub tie : ℕ → List ℕ → AnswerEntry → AnswerEntry
tie p path entry = record entry { tied = entry.tied ++ record { promise = p; path = path } ∷ [] }

abbrev pub tied : State → ℕ → List ℕ → ℕ → State
tied s a path p =
    record s {
      values = record s.values { promises = insert s.values.promises p None };
      entries = record s.entries { answers = with_change s.entries.answers a (λ entry. record entry { kept = tie p path entry.kept }) };
    }

-- what the peer names by an answer and a path: what it gave there, or a new promise where it isn't given
abbrev pub ReceivesAnswer : State → ℕ → List ℕ → Option (Option Outcome) → Result (Cap × State) PeerFault → Type 0
ReceivesAnswer old a path None out = out ≡ Err faults.UnknownAnswer
ReceivesAnswer old a path (Some (Some outcome)) out = out ≡ Ok (cap_at outcome path, old)
ReceivesAnswer old a path (Some None) out = Then (Fresh old.values.promises) (λ p out. out ≡ Ok (caps.Promise p, tied old a path p)) out

-- what the peer names by one of this end's exports
abbrev pub taken_export : State → Option (Counted Cap) → Result (Cap × State) PeerFault
taken_export s None = Err faults.UnknownExport
taken_export s (Some entry) = Ok (entry.kept, s)

-- A descriptor is taken in as a capability. The peer's own is imported, and held once more; this end's is what was exported.
abbrev pub ReceivesCap : State → Descriptor → Result (Cap × State) PeerFault → Type 0
ReceivesCap old descriptors.None out = out ≡ Ok (caps.None, old)
ReceivesCap old (descriptors.SenderHosted i) out = Then (λ held. held ≡ held_import old i kinds.Hosted) (λ new out. out ≡ Ok (caps.Import i, new)) out
ReceivesCap old (descriptors.SenderPromise i) out = Then (λ held. held ≡ held_import old i kinds.Promise) (λ new out. out ≡ Ok (caps.Import i, new)) out
ReceivesCap old (descriptors.ReceiverHosted e) out = out ≡ taken_export old (get old.counts.exports e)
ReceivesCap old (descriptors.ReceiverAnswer answer) out = ReceivesAnswer old answer.question_id (path_of answer.transform) (answer_of old answer.question_id) out
ReceivesCap old (descriptors.ThirdPartyHosted t) out = ⊥
ReceivesCap old (descriptors.Unknown n) out = ⊥

-- a capability table is taken in one by one
abbrev pub ReceivesCaps : State → List Descriptor → Result (List Cap × State) PeerFault → Type 0
ReceivesCaps old table out = Each ReceivesCap old table out

-- An export is lowered by this number; at 0 it is gone.
abbrev pub less_by : Table (Counted Cap) → ℕ → ℕ → Option (Counted Cap) → Table (Counted Cap)
less_by exports e n None = exports
less_by exports e n (Some entry) = if entry.count == n then remove exports e else insert exports e (record entry { count = entry.count - n })

abbrev pub lowered_by : Table (Counted Cap) → ℕ → ℕ → Table (Counted Cap)
lowered_by exports e n = less_by exports e n (get exports e)

-- exports lowered by one for each mention
abbrev pub lowered : Table (Counted Cap) → List ℕ → Table (Counted Cap)
lowered exports [] = exports
lowered exports (e ∷ ids) = lowered (lowered_by exports e 1) ids

-- how often a number is in a list
abbrev pub times : ℕ → List ℕ → ℕ
times e ids = length (filter (λ id. id == e) ids)

-- What one message lowers must be there, and all together it must not pass the count.
abbrev pub release_exports : Table (Counted Cap) → List ℕ → Result (Table (Counted Cap)) PeerFault
release_exports exports ids =
    if list_any (λ e. is_none (get exports e)) ids then Err faults.UnknownExport
    else (if list_any (λ e. ltb (count_of exports e) (times e ids)) ids then Err faults.ReleaseTooLarge else Ok (lowered exports ids))

abbrev pub released : Table (Counted Cap) → ℕ → ℕ → Result (Table (Counted Cap)) PeerFault
released exports e n =
    if is_none (get exports e) then Err faults.UnknownExport
    else (if ltb (count_of exports e) n then Err faults.ReleaseTooLarge else Ok (lowered_by exports e n))
