-- How a capability is sent. (rpc.capnp: "CapDescriptor", "Four Tables".)
use Rattle.std.specs.Prelude.{◌≡◌, ◌≢◌, ℕ, zero, suc, ◌+◌, ◌-◌, ◌^◌, ◌<◌, List, [], ◌∷◌, map, flat_map, Option, Some, None, IfSome, Result, Ok, Err}
use Rattle.std.specs.FinMap.{get, insert}
use Rattle.cp_tables.specs.Counted.{new_counted}
use Rattle.cp_messages.specs.declared.promised_answer.Op.TheVariants as ops
use Rattle.cp_messages.specs.declared.promised_answer.PromisedAnswer.{PromisedAnswer}
use Rattle.cp_messages.specs.declared.descriptor.Descriptor.{Descriptor}
use Rattle.cp_messages.specs.declared.descriptor.Descriptor.TheVariants as descriptors
use Rattle.cp_refs.specs.Values.{ValueMaps}
use Rattle.cp_refs.specs.Route.{Way, ends, leads, missing, way}
use Rattle.cp_refs.specs.declared.cap.Cap.{Cap}
use Rattle.cp_refs.specs.declared.cap.Cap.TheVariants as caps
use Rattle.cp_vat_machine.specs.State.{State, with_exports}
use Rattle.cp_vat_machine.specs.Then.{Then, Each}
use Rattle.cp_vat_machine.specs.Capacity.{Fresh}
use Rattle.cp_vat_machine.specs.declared.fault.PeerFault.{PeerFault}
use Rattle.cp_vat_machine.specs.declared.fault.PeerFault.TheVariants as faults

-- What a capability comes to, if its way ends within this many steps: the first one that isn't a settled promise or a settled question.
abbrev pub end_by : (Cap → Option Cap) → Cap → Way → Option Cap
end_by end_of c (ends route) = Some c
end_by end_of c (leads next) = end_of next
end_by end_of c missing = None

abbrev pub end_within : ℕ → ValueMaps → Cap → Option Cap
end_within zero values c = None
end_within (suc n) values c = end_by (λ next. end_within n values next) c (way values c)

-- the capability comes to that one
abbrev pub ResolvesTo : ValueMaps → Cap → Cap → Type 0
ResolvesTo values c last = (n : ℕ) × (end_within n values c ≡ Some last)

-- it is the export of this capability
abbrev pub IsExport : State → ℕ → Cap → Type 0
IsExport s e cap = (count : ℕ) × (get s.counts.exports e ≡ Some (record { count = count; kept = cap }))

-- the capability has no export
abbrev pub HasNoExport : State → Cap → Type 0
HasNoExport s cap = (e : ℕ) → IfSome (get s.counts.exports e) (λ entry. entry.kept ≢ cap)

-- A capability's export is counted once more, or one is opened for it under any number that is free. A table or a count may be full.
pub data Raise (old : State) (cap : Cap) : Result (ℕ × State) PeerFault → Type 0 where
  counted : (e count : ℕ) → get old.counts.exports e ≡ Some (record { count = count; kept = cap }) → count < 2 ^ 32 - 1
      → Raise old cap (Ok (e, with_exports old (insert old.counts.exports e (record { count = count + 1; kept = cap }))))
  counted_out : (e : ℕ) → get old.counts.exports e ≡ Some (record { count = 2 ^ 32 - 1; kept = cap }) → Raise old cap (Err faults.TableFull)
  opened : (e : ℕ) → HasNoExport old cap → Fresh old.counts.exports (Ok e) → Raise old cap (Ok (e, with_exports old (insert old.counts.exports e (new_counted cap))))
  has_no_capacity : {fault : PeerFault} → HasNoExport old cap → Fresh old.counts.exports (Err fault) → Raise old cap (Err fault)

-- what a question will give at a path, as the peer names it
abbrev pub promised : ℕ → List ℕ → PromisedAnswer
promised q path = record { question_id = q; transform = map (λ field. ops.GetPointerField field) path }

-- How what a capability comes to is sent. An object and an open promise are exported; null and what fails are sent as none. A question's path is
-- only sent while the question is open on the wire.
abbrev pub WritesEnd : State → Cap → Result (Descriptor × State) PeerFault → Type 0
WritesEnd old caps.None out = out ≡ Ok (descriptors.None, old)
WritesEnd old (caps.Object k) out = Then (Raise old (caps.Object k)) (λ raised out. out ≡ Ok (descriptors.SenderHosted raised.0, raised.1)) out
WritesEnd old (caps.Promise p) out = Then (Raise old (caps.Promise p)) (λ raised out. out ≡ Ok (descriptors.SenderPromise raised.0, raised.1)) out
WritesEnd old (caps.Import i) out = out ≡ Ok (descriptors.ReceiverHosted i, old)
WritesEnd old (caps.Pipelined q path) out = out ≡ Ok (descriptors.ReceiverAnswer (promised q path), old)
WritesEnd old (caps.Broken x) out = out ≡ Ok (descriptors.None, old)

-- a capability is sent as what it comes to
abbrev pub WritesDescriptor : State → Cap → Result (Descriptor × State) PeerFault → Type 0
WritesDescriptor old cap out = (last : Cap) × ResolvesTo old.values cap last × WritesEnd old last out

-- a capability table is sent one by one
abbrev pub WritesDescriptors : State → List Cap → Result (List Descriptor × State) PeerFault → Type 0
WritesDescriptors old table out = Each WritesDescriptor old table out

-- the exports that descriptors name
abbrev pub mentioned_by : Descriptor → List ℕ
mentioned_by (descriptors.SenderHosted e) = e ∷ []
mentioned_by (descriptors.SenderPromise e) = e ∷ []
mentioned_by other = []

abbrev pub mentions_of : List Descriptor → List ℕ
mentions_of table = flat_map mentioned_by table
