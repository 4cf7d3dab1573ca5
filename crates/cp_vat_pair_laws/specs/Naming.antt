-- What messages on the way name, and what each vat has in the place of the other one's references. (rpc.capnp: "CapDescriptor", "Return", "Resolve", "Disembargo".)
use Rattle.std.specs.Prelude.{◌≡◌, ℕ, ◌+◌, ◌==◌, if◌then◌else◌, Bool, true, false, List, [], ◌∷◌, ◌++◌, slice_get, Option, Some, None, is_some}
use Rattle.std.specs.List.{count_by, list_any}
use Rattle.std.specs.FinMap.{get}
use Rattle.cp_tree.specs.Node.{Node, cap}
use Rattle.cp_tables.specs.declared.counted.Counted.{Counted}
use Rattle.cp_messages.specs.declared.returned.Returned.{Returned}
use Rattle.cp_messages.specs.declared.returned.Returned.TheVariants as returns
use Rattle.cp_messages.specs.declared.resolve.Resolution.{Resolution}
use Rattle.cp_messages.specs.declared.resolve.Resolution.TheVariants as resolutions
use Rattle.cp_messages.specs.declared.descriptor.Descriptor.{Descriptor}
use Rattle.cp_messages.specs.declared.descriptor.Descriptor.TheVariants as descriptors
use Rattle.cp_messages.specs.declared.disembargo.DisembargoContext.{DisembargoContext}
use Rattle.cp_messages.specs.declared.disembargo.DisembargoContext.TheVariants as contexts
use Rattle.cp_messages.specs.declared.message.Message.{Message}
use Rattle.cp_messages.specs.declared.message.Message.TheVariants as messages
use Rattle.cp_refs.specs.At.{cap_at, node_along}
use Rattle.cp_refs.specs.declared.cap.Cap.{Cap}
use Rattle.cp_refs.specs.declared.cap.Cap.TheVariants as caps
use Rattle.cp_refs.specs.declared.outcome.Outcome.{Outcome}
use Rattle.cp_vat_machine.specs.State.{State}
use Rattle.cp_vat_pair_laws.specs.Accounts.{accounts_of, is_given_up}
use Rattle.cp_vat_pair_laws.specs.Lane.{Reference, import_, path_to}

-- of each message on the way, with what comes before it and after it
abbrev pub EachOnWay : List Message → (List Message → Message → List Message → Type 0) → Type 0
EachOnWay inbox Holds = (before after : List Message) (m : Message) → inbox ≡ before ++ m ∷ after → Holds before m after

-- the descriptors of a message
abbrev pub returned_table : Returned → List Descriptor
returned_table (returns.Results p) = p.cap_table
returned_table other = []

abbrev pub resolution_table : Resolution → List Descriptor
resolution_table (resolutions.Cap d) = d ∷ []
resolution_table other = []

abbrev pub table_of : Message → List Descriptor
table_of (messages.Call c) = c.params.cap_table
table_of (messages.Return r) = returned_table r.returned
table_of (messages.Resolve r) = resolution_table r.resolution
table_of other = []

-- The descriptors that are looked at when a message comes. Those of a Return are only where its question wasn't given up.
abbrev pub looked_at : State → Message → List Descriptor
looked_at receiver (messages.Return r) = if is_given_up ((accounts_of receiver).questions r.answer_id) then [] else returned_table r.returned
looked_at receiver other = table_of other

-- A descriptor of an export is of the export's kind: an object is hosted, and a promise is a promise.
abbrev pub IsOfCap : Descriptor → Cap → Type 0
IsOfCap (descriptors.SenderHosted e) (caps.Object k) = Unit {0}
IsOfCap (descriptors.SenderPromise e) (caps.Promise p) = Unit {0}
IsOfCap other value = ⊥

abbrev pub resolves : ℕ → Message → Bool
resolves e (messages.Resolve r) = r.promise_id == e
resolves e other = false

-- unless a Resolve of that export is still to come
abbrev pub IsOfExportUnless : Bool → Descriptor → Option (Counted Cap) → Type 0
IsOfExportUnless true d export_ = Unit {0}
IsOfExportUnless false d None = Unit {0}
IsOfExportUnless false d (Some entry) = IsOfCap d entry.kept

abbrev pub IsOfKindAfter : State → List Message → Descriptor → Type 0
IsOfKindAfter sender after (descriptors.SenderHosted e) =
    IsOfExportUnless (list_any (resolves e) after) (descriptors.SenderHosted e) (get sender.counts.exports e)
IsOfKindAfter sender after (descriptors.SenderPromise e) =
    IsOfExportUnless (list_any (resolves e) after) (descriptors.SenderPromise e) (get sender.counts.exports e)
IsOfKindAfter sender after other = Unit {0}

-- the loop of an embargo, on its way there and on its way back
abbrev pub is_loop_of : ℕ → DisembargoContext → Bool
is_loop_of n (contexts.SenderLoopback m) = m == n
is_loop_of n other = false

abbrev pub is_loop : ℕ → Message → Bool
is_loop n (messages.Disembargo d) = is_loop_of n d.context
is_loop n other = false

abbrev pub is_echo_of : ℕ → DisembargoContext → Bool
is_echo_of n (contexts.ReceiverLoopback m) = m == n
is_echo_of n other = false

abbrev pub is_echo : ℕ → Message → Bool
is_echo n (messages.Disembargo d) = is_echo_of n d.context
is_echo n other = false

-- each open embargo has one loop message, and no other one has any
abbrev pub loops_of : List Message → List Message → ℕ → ℕ
loops_of inbox_there inbox_back n = count_by (is_loop n) inbox_there + count_by (is_echo n) inbox_back

abbrev pub AreLooped : State → List Message → List Message → Type 0
AreLooped s inbox_there inbox_back = (n : ℕ) → loops_of inbox_there inbox_back n ≡ (if is_some (get s.marks.embargoes n) then 1 else 0)

-- what a Return says at a path, and what a Resolve says
abbrev pub descriptor_at : Node → List Descriptor → Option Descriptor
descriptor_at (cap i) table = slice_get table i
descriptor_at other table = None

abbrev pub path_returned : List ℕ → Returned → Option Descriptor
path_returned path (returns.Results p) = descriptor_at (node_along p.content path) p.cap_table
path_returned path other = None

abbrev pub resolved_as : Resolution → Option Descriptor
resolved_as (resolutions.Cap d) = Some d
resolved_as other = None

-- What the other vat has in the place of a reference: what it exported, or what its answer gave at the path.
abbrev pub exported_cap : Option (Counted Cap) → Option Cap
exported_cap None = None
exported_cap (Some entry) = Some entry.kept

abbrev pub answered_cap : List ℕ → Option (Option Outcome) → Option Cap
answered_cap path (Some (Some outcome)) = Some (cap_at outcome path)
answered_cap path other = None

abbrev pub place_of : State → Reference → Option Cap
place_of there (import_ i) = exported_cap (get there.counts.exports i)
place_of there (path_to q path) = answered_cap path (get there.values.answers q)
