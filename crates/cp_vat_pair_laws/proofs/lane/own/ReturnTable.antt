-- What a Return tells at a path is what is taken in there: an export of this end by a receiverHosted, and else no object.
use Rattle.std.specs.Prelude.{◌≡◌, refl, ℕ, zero, suc, ◌+◌, slice_get, slice_index_or, List, [], ◌∷◌, Option, Some, None, IsTrue, Ok}
use Rattle.std.specs.List.{list_all}
use Rattle.std.specs.FinMap.{get}
use Rattle.std.proofs.Common.{arith, ap, ◌∙◌}
use Rattle.cp_tables.specs.Counted.{count_of}
use Rattle.cp_tree.specs.Node.{Node, null, cap, struct, list, ptrs, structs}
use Rattle.cp_messages.specs.declared.descriptor.Descriptor.{Descriptor}
use Rattle.cp_messages.specs.declared.descriptor.Descriptor.TheVariants as descriptors
use Rattle.cp_messages.specs.declared.returned.Returned.{Returned}
use Rattle.cp_messages.specs.declared.returned.Returned.TheVariants as returns
use Rattle.cp_refs.specs.At.{cap_in, cap_at, node_along}
use Rattle.cp_refs.specs.declared.cap.Cap.{Cap}
use Rattle.cp_refs.specs.declared.cap.Cap.TheVariants as caps
use Rattle.cp_refs.specs.declared.outcome.Outcome.{Outcome}
use Rattle.cp_vat_machine.specs.State.{State, none_over}
use Rattle.cp_vat_machine.specs.Writing.{mentions_of}
use Rattle.cp_vat_machine.specs.Receiving.{times, ReceivesCap, ReceivesCaps}
use Rattle.cp_vat_machine.specs.Give.{returned_mentions}
use Rattle.cp_vat_machine.specs.Asking.{ReceivesReturned}
use Rattle.cp_vat_machine.proofs.Basics.{ok_in, then_out}
use Rattle.cp_vat_laws.specs.Within.{Within}
use Rattle.cp_vat_laws.proofs.within.Take.{take_keeps, take_all_keeps}
use Rattle.cp_vat_pair_laws.specs.Lives.{is_settled_descriptor, is_settled_returned}
use Rattle.cp_vat_pair_laws.specs.Naming.{returned_table, descriptor_at, path_returned}
use Rattle.cp_vat_pair_laws.proofs.counts.rules.Say.{first_true, second_true}
use Rattle.cp_vat_pair_laws.proofs.counts.rules.Take.{take_all_in}
use Rattle.cp_vat_pair_laws.proofs.lane.own.Take.{ResolvesNone, take_all_back}
use Rattle.cp_vat_pair_laws.proofs.lane.own.ResolveComes.{IsTakenAs, taken_as}

-- where exports stay as they are
taken_on : (old new : State) (d : Option Descriptor) (value : Cap) → new.counts.exports ≡ old.counts.exports → IsTakenAs d old value → IsTakenAs d new value
taken_on old new None value same taken = taken
taken_on old new (Some descriptors.None) value same taken = taken
taken_on old new (Some (descriptors.SenderHosted i)) value same taken = taken
taken_on old new (Some (descriptors.SenderPromise i)) value same taken = taken
taken_on old new (Some (descriptors.ReceiverHosted e)) value same taken = (taken.0, ap (λ t. get t e) same ∙ taken.1)
taken_on old new (Some (descriptors.ReceiverAnswer a)) value same taken = taken
taken_on old new (Some (descriptors.ThirdPartyHosted t)) value same taken = taken
taken_on old new (Some (descriptors.Unknown n)) value same taken = taken

-- each of a capability table, and null past its end
item_taken : (table : List Descriptor) (s : State) (taken : List Cap × State) → Within s None [] → s.waiting.over ≡ none_over
    → IsTrue (list_all is_settled_descriptor table) → ReceivesCaps s table (Ok taken) → (i : ℕ) → IsTakenAs (slice_get table i) taken.1 (slice_index_or taken.0 i caps.None)
item_taken [] s taken w still settled is i = rw (ok_in _ _ is) (λ object. object)
item_taken (d ∷ table) s taken w still settled is i =
    let first = then_out {A = Cap × State} {B = List Cap × State} (ReceivesCap s d) _ taken is in
    let rest = then_out {A = List Cap × State} {B = List Cap × State} (ReceivesCaps first.0.1 table) _ taken first.2 in
    let one = take_keeps None [] s d first.0 w still first.1 in
    let over : first.0.1.waiting.over ≡ none_over = ap (λ x. x.over) one.1.waiting ∙ still in
    let more = take_all_keeps None [] table first.0.1 rest.0 one.0 over rest.1 in
    let it = taken_as s d first.0 (first_true (is_settled_descriptor d) (list_all is_settled_descriptor table) settled) first.1 in
    let others = item_taken table first.0.1 rest.0 one.0 over (second_true (is_settled_descriptor d) (list_all is_settled_descriptor table) settled) rest.1 in
    rw (ok_in _ _ rest.2) (by first.0 rest.0 i (taken_on first.0.1 rest.0.1 (Some d) first.0.0 more.1.exports it) others)
  where
    by : (first : Cap × State) (rest : List Cap × State) (i : ℕ) → IsTakenAs (Some d) rest.1 first.0
        → ((i : ℕ) → IsTakenAs (slice_get table i) rest.1 (slice_index_or rest.0 i caps.None))
        → IsTakenAs (slice_get (d ∷ table) i) rest.1 (slice_index_or (first.0 ∷ rest.0) i caps.None)
    by first rest zero it others = it
    by first rest (suc i) it others = others i

-- what stands at a place of the results
place_taken : (table : List Descriptor) (taken : List Cap) (s : State) → ((i : ℕ) → IsTakenAs (slice_get table i) s (slice_index_or taken i caps.None)) → (place : Node)
    → IsTakenAs (descriptor_at place table) s (cap_in taken place)
place_taken table taken s each (cap i) = each i
place_taken table taken s each null = λ object. object
place_taken table taken s each (struct words nodes) = λ object. object
place_taken table taken s each (list elements) = λ object. object
place_taken table taken s each (ptrs nodes) = λ object. object
place_taken table taken s each (structs words nodes others) = λ object. object

pub path_taken : (s : State) (returned : Returned) (taken : Outcome × State) → Within s None [] → s.waiting.over ≡ none_over → IsTrue (is_settled_returned returned)
    → ReceivesReturned s returned (Ok taken) → (path : List ℕ) → IsTakenAs (path_returned path returned) taken.1 (cap_at taken.0 path)
path_taken s (returns.Results p) taken w still settled is path =
    let parts = then_out {A = List Cap × State} {B = Outcome × State} (ReceivesCaps s p.cap_table) _ taken is in
    rw
    (ok_in _ _ parts.2)
    (place_taken p.cap_table parts.0.0 parts.0.1 (item_taken p.cap_table s parts.0 w still settled parts.1) (node_along p.content path))
path_taken s (returns.Exception x) taken w still settled is path = rw (ok_in _ _ is) (λ object. object)
path_taken s returns.Canceled taken w still settled is path = rw (ok_in _ _ is) (λ object. object)
path_taken s returns.ResultsSentElsewhere taken w still settled is path = absurd is
path_taken s (returns.TakeFromOtherQuestion q) taken w still settled is path = absurd is
path_taken s (returns.AcceptFromThirdParty t) taken w still settled is path = absurd is
path_taken s (returns.Unknown n) taken w still settled is path = absurd is

-- What a Return names is counted, and resolves no import.
pub record IsTable (old : State) (returned : Returned) (new : State) : Type 0 where
  pub back : ResolvesNone old new
  pub counted : (i : ℕ) → count_of new.counts.imports i ≡ count_of old.counts.imports i + times i (mentions_of (returned_table returned))
  pub named : mentions_of (returned_table returned) ≡ returned_mentions returned

pub table_taken : (s : State) (returned : Returned) (taken : Outcome × State) → ReceivesReturned s returned (Ok taken) → IsTable s returned taken.1
table_taken s (returns.Results p) taken is =
    let parts = then_out {A = List Cap × State} {B = Outcome × State} (ReceivesCaps s p.cap_table) _ taken is in
    rw
    (ok_in _ _ parts.2)
    (record { back = take_all_back p.cap_table s parts.0 parts.1; counted = (take_all_in p.cap_table s parts.0 parts.1).counted; named = refl })
table_taken s (returns.Exception x) taken is = rw (ok_in _ _ is) (record { back = λ i value at. at; counted = λ i. omega arith; named = refl })
table_taken s returns.Canceled taken is = rw (ok_in _ _ is) (record { back = λ i value at. at; counted = λ i. omega arith; named = refl })
table_taken s returns.ResultsSentElsewhere taken is = absurd is
table_taken s (returns.TakeFromOtherQuestion q) taken is = absurd is
table_taken s (returns.AcceptFromThirdParty t) taken is = absurd is
table_taken s (returns.Unknown n) taken is = absurd is
