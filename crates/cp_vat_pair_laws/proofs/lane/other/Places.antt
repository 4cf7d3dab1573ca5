-- What rules do to the places for the other vat's references: a promise that is settled and an answer that is given tell it.
use Rattle.std.specs.Prelude.{◌≡◌, ◌≢◌, ◌⊎◌, refl, ℕ, zero, suc, ◌==◌, IfSome, if◌then◌else◌, Bool, true, false, List, [], ◌∷◌, slice_get, slice_index_or, option_map, Option, Some, None, Result, Ok}
use Rattle.std.specs.List.{list_any}
use Rattle.std.specs.FinMap.{get}
use Rattle.std.proofs.Common.{inl, inr, ap, sym, ◌∙◌, true≢false}
use Rattle.cp_tree.specs.Node.{Node, null, cap, struct, list, ptrs, structs}
use Rattle.cp_tables.specs.declared.counted.Counted.{Counted}
use Rattle.cp_messages.specs.declared.descriptor.Descriptor.{Descriptor}
use Rattle.cp_messages.specs.declared.descriptor.Descriptor.TheVariants as descriptors
use Rattle.cp_messages.specs.declared.resolve.Resolution.{Resolution}
use Rattle.cp_messages.specs.declared.resolve.Resolution.TheVariants as resolutions
use Rattle.cp_messages.specs.declared.returned.Returned.{Returned}
use Rattle.cp_messages.specs.declared.message.Message.{Message}
use Rattle.cp_messages.specs.declared.message.Message.TheVariants as messages
use Rattle.cp_refs.specs.At.{cap_at, cap_in, node_along}
use Rattle.cp_refs.specs.Route.{Way, ends, leads, missing, way, route_by, route_within, Routes}
use Rattle.cp_refs.specs.Values.{ValueMaps}
use Rattle.cp_refs.specs.declared.cap.Cap.{Cap}
use Rattle.cp_refs.specs.declared.cap.Cap.TheVariants as caps
use Rattle.cp_refs.specs.declared.outcome.Outcome.{Outcome}
use Rattle.cp_refs.specs.declared.outcome.Outcome.TheVariants as outcomes
use Rattle.cp_refs.specs.declared.route.Gate.{Gate}
use Rattle.cp_refs.specs.declared.route.Gate.TheVariants as gates
use Rattle.cp_refs.specs.declared.route.Route.TheVariants as routes
use Rattle.cp_vat_machine.specs.State.{State}
use Rattle.cp_vat_machine.specs.Then.{Done, Then}
use Rattle.cp_vat_machine.specs.Writing.{Raise, ResolvesTo, IsExport, end_by, end_within, WritesEnd, WritesDescriptor, WritesDescriptors}
use Rattle.cp_vat_machine.specs.Give.{ResolvesEnd, Tells, settled, value_for, last_for, Settle, Returns, given, return_of, resolve_of}
use Rattle.cp_vat_machine.specs.Local.{AreOne}
use Rattle.cp_vat_machine.specs.Texts.{promise_loop}
use Rattle.cp_vat_machine.specs.declared.entry.AnswerEntry.{AnswerEntry}
use Rattle.cp_vat_machine.specs.declared.fault.PeerFault.{PeerFault}
use Rattle.cp_vat_machine.proofs.Basics.{some_out, none_out, ok_in, then_out, is_equal, is_itself, put_at}
use Rattle.cp_vat_laws.proofs.order.Settle.{IsOnly, end_only, told_only}
use Rattle.cp_vat_laws.proofs.order.Give.{returned_only}
use Rattle.cp_vat_pair_laws.specs.VatPair.{messages_sent}
use Rattle.cp_vat_pair_laws.specs.Lane.{Reference, import_, path_to}
use Rattle.cp_vat_pair_laws.specs.Naming.{resolved_as, descriptor_at, path_returned, place_of}
use Rattle.cp_vat_pair_laws.specs.Phases.{LeadsBack, tells, told_by, IsOpenPlace, EndsAt}
use Rattle.cp_vat_pair_laws.proofs.still.Grows.{WaysStay, comes_import}
use Rattle.cp_vat_pair_laws.proofs.still.Give.{SettledAs, settle_grows}
use Rattle.cp_vat_pair_laws.proofs.lane.other.NoCallMoves.{IsNotBack, IsToldRightly, PlaceStep, stays, settles}

-- What comes to an import is routed there.
route_in : (values : ValueMaps) (e n : ℕ) → ((c : Cap) → end_within n values c ≡ Some (caps.Import e) → route_within n values c ≡ Some (routes.Import e)) → (c : Cap) (w : Way)
    → way values c ≡ w → end_by (λ next. end_within n values next) c w ≡ Some (caps.Import e) → route_by (λ next. route_within n values next) w ≡ Some (routes.Import e)
route_in values e n more c (ends r) is at =
    let same : c ≡ caps.Import e = some_out at in
    let there : way values (caps.Import e) ≡ ends r = rw same at is in
    ap (route_by (λ next. route_within n values next)) (sym there)
route_in values e n more c (leads next) is at = more next at
route_in values e n more c missing is at = none_out at

route_within_import : (values : ValueMaps) (e n : ℕ) (c : Cap) → end_within n values c ≡ Some (caps.Import e) → route_within n values c ≡ Some (routes.Import e)
route_within_import values e zero c at = none_out at
route_within_import values e (suc n) c at = route_in values e n (route_within_import values e n) c (way values c) refl at

pub comes_routes : (values : ValueMaps) (c : Cap) (e : ℕ) → ResolvesTo values c (caps.Import e) → Routes values c (routes.Import e)
comes_routes values c e comes = (comes.0, route_within_import values e comes.0 c comes.1)

-- What is said of a capability, by which something comes back, is the import to which it comes.
abbrev is_back : Descriptor → Bool
is_back (descriptors.ReceiverHosted e) = true
is_back other = false

not_back : {A : Type 0} (d : Descriptor) (e : ℕ) → d ≡ descriptors.ReceiverHosted e → is_back d ≡ false → A
not_back d e is not = absurd (true≢false (sym (ap is_back is) ∙ not))

abbrev back_or : ℕ → Descriptor → ℕ
back_or n (descriptors.ReceiverHosted e) = e
back_or n other = n

said_end : (old : State) (last : Cap) (said : Descriptor × State) (e : ℕ) → WritesEnd old last (Ok said) → said.0 ≡ descriptors.ReceiverHosted e → last ≡ caps.Import e
said_end old caps.None said e is at = not_back said.0 e at (rw (ok_in _ _ is) refl)
said_end old (caps.Object k) said e is at =
    let parts = then_out {A = ℕ × State} {B = Descriptor × State} (Raise old (caps.Object k)) _ said is in not_back said.0 e at (rw (ok_in _ _ parts.2) refl)
said_end old (caps.Promise p) said e is at =
    let parts = then_out {A = ℕ × State} {B = Descriptor × State} (Raise old (caps.Promise p)) _ said is in not_back said.0 e at (rw (ok_in _ _ parts.2) refl)
said_end old (caps.Import i) said e is at =
    let same : descriptors.ReceiverHosted i ≡ descriptors.ReceiverHosted e = sym (ap (λ x. x.0) (ok_in _ _ is)) ∙ at in ap (λ n. caps.Import n) (ap (back_or i) same)
said_end old (caps.Pipelined q path) said e is at = not_back said.0 e at (rw (ok_in _ _ is) refl)
said_end old (caps.Broken x) said e is at = not_back said.0 e at (rw (ok_in _ _ is) refl)

said_at : (table : List Cap) (old : State) (said : List Descriptor × State) (values : ValueMaps) → old.values ≡ values → WritesDescriptors old table (Ok said) → (i e : ℕ)
    → slice_get said.0 i ≡ Some (descriptors.ReceiverHosted e) → ResolvesTo values (slice_index_or table i caps.None) (caps.Import e)
said_at [] old said values same says i e at = none_out (sym (ap (λ ds. slice_get ds i) (ap (λ x. x.0) (ok_in _ _ says))) ∙ at)
said_at (c ∷ table) old said values same says zero e at =
    let first = then_out {A = Descriptor × State} {B = List Descriptor × State} (WritesDescriptor old c) _ said says in
    let rest = then_out {A = List Descriptor × State} {B = List Descriptor × State} (WritesDescriptors first.0.1 table) _ said first.2 in
    let here : Some first.0.0 ≡ Some (descriptors.ReceiverHosted e) = sym (ap (λ ds. slice_get ds 0) (ap (λ x. x.0) (ok_in _ _ rest.2))) ∙ at in
    let last = said_end old first.1.0 first.0 e first.1.2 (some_out here) in
    rw (← same, ← last) first.1.1
said_at (c ∷ table) old said values same says (suc i) e at =
    let first = then_out {A = Descriptor × State} {B = List Descriptor × State} (WritesDescriptor old c) _ said says in
    let rest = then_out {A = List Descriptor × State} {B = List Descriptor × State} (WritesDescriptors first.0.1 table) _ said first.2 in
    let there : slice_get rest.0.0 i ≡ Some (descriptors.ReceiverHosted e) = sym (ap (λ ds. slice_get ds (suc i)) (ap (λ x. x.0) (ok_in _ _ rest.2))) ∙ at in
    said_at table first.0.1 rest.0 values (ap (λ s. s.values) (end_only old first.1.0 first.0 first.1.2) ∙ same) rest.1 i e there

-- What is returned at a path
at_node : (values : ValueMaps) (table : List Cap) (ds : List Descriptor) (e : ℕ)
    → ((i : ℕ) → slice_get ds i ≡ Some (descriptors.ReceiverHosted e) → ResolvesTo values (slice_index_or table i caps.None) (caps.Import e)) → (node : Node)
    → descriptor_at node ds ≡ Some (descriptors.ReceiverHosted e) → ResolvesTo values (cap_in table node) (caps.Import e)
at_node values table ds e each (cap i) at = each i at
at_node values table ds e each null at = none_out at
at_node values table ds e each (struct ws ts) at = none_out at
at_node values table ds e each (list elements) at = none_out at
at_node values table ds e each (ptrs ts) at = none_out at
at_node values table ds e each (structs a b items) at = none_out at

returned_at : (old : State) (outcome : Outcome) (said : Returned × State) (path : List ℕ) (e : ℕ) → Returns old outcome (Ok said)
    → path_returned path said.0 ≡ Some (descriptors.ReceiverHosted e) → ResolvesTo old.values (cap_at outcome path) (caps.Import e)
returned_at old (outcomes.Results content table) said path e returns_ at =
    let parts = then_out {A = List Descriptor × State} {B = Returned × State} (WritesDescriptors old table) _ said returns_ in
    let there : descriptor_at (node_along content path) parts.0.0 ≡ Some (descriptors.ReceiverHosted e) = sym (ap (λ x. path_returned path x.0) (ok_in _ _ parts.2)) ∙ at in
    at_node old.values table parts.0.0 e (λ i. said_at table old parts.0 old.values refl parts.1 i e) (node_along content path) there
returned_at old (outcomes.Failed x) said path e returns_ at = none_out (sym (ap (λ y. path_returned path y.0) (ok_in _ _ returns_)) ∙ at)
returned_at old outcomes.Canceled said path e returns_ at = none_out (sym (ap (λ y. path_returned path y.0) (ok_in _ _ returns_)) ∙ at)

-- by whether something comes back
back_cases : (d : Option Descriptor) → IsNotBack d ⊎ ((e : ℕ) × (d ≡ Some (descriptors.ReceiverHosted e)))
back_cases None = inl tt
back_cases (Some descriptors.None) = inl tt
back_cases (Some (descriptors.SenderHosted i)) = inl tt
back_cases (Some (descriptors.SenderPromise i)) = inl tt
back_cases (Some (descriptors.ReceiverHosted e)) = inr (e, refl)
back_cases (Some (descriptors.ReceiverAnswer a)) = inl tt
back_cases (Some (descriptors.ThirdPartyHosted t)) = inl tt
back_cases (Some (descriptors.Unknown n)) = inl tt

right_by : (mid : State) (ref : Reference) (gate : Gate) (telling : Message)
    → ((e : ℕ) → told_by ref telling ≡ Some (descriptors.ReceiverHosted e) → EndsAt mid (place_of mid ref) e × LeadsBack mid e gate) → IsToldRightly mid ref gate telling
right_by mid ref gate telling ends_ = by (back_cases (told_by ref telling))
  where
    by : IsNotBack (told_by ref telling) ⊎ ((e : ℕ) × (told_by ref telling ≡ Some (descriptors.ReceiverHosted e))) → IsToldRightly mid ref gate telling
    by (inl none) = inl none
    by (inr (e, is)) = let both = ends_ e is in inr (e, is, both.0, both.1)

-- Nothing is told, and what is open stays so.
pub place_stays : (old mid : State) (ref : Reference) (ms : List Message) → ((e : ℕ) (c : Cap) → IsExport old e c → IsExport mid e c)
    → ((p : ℕ) → get old.values.promises p ≡ Some None → get mid.values.promises p ≡ Some None)
    → ((a : ℕ) → get old.values.answers a ≡ Some None → get mid.values.answers a ≡ Some None) → list_any (tells ref) ms ≡ false → PlaceStep old mid ref ms
place_stays old mid (import_ i) ms exports promises answers untold =
    stays (λ gate open_. (open_.0, exports i (caps.Promise open_.0) open_.1, promises open_.0 open_.2, open_.3)) untold
place_stays old mid (path_to q path) ms exports promises answers untold = stays (λ gate open_. (answers q open_.0, open_.1)) untold

-- An answer is given.
module _ (old : State) (a : ℕ) (kept : AnswerEntry) (outcome : Outcome) (said : Returned × State) (returns_ : Returns old outcome (Ok said))
    (exports : (e : ℕ) (c : Cap) → IsExport old e c → IsExport said.1 e c) (open_ : get old.values.answers a ≡ Some None) where
  abbrev given_then : State
  given_then = given said.1 a kept outcome said.0

  only : IsOnly old said.1
  only = returned_only old outcome said returns_

  given_answer : get given_then.values.answers a ≡ Some (Some outcome)
  given_answer = put_at said.1.values.answers a a (Some outcome) true (is_itself a)

  ways_on : WaysStay old.values given_then.values
  ways_on =
      record {
        promises = λ p value is. ap (λ s. get s.values.promises p) only ∙ is;
        questions = λ q question o is given_. ap (λ s. get s.values.questions q) only ∙ is;
      }

  given_path : (path : List ℕ) (e : ℕ) → path_returned path said.0 ≡ Some (descriptors.ReceiverHosted e)
      → EndsAt given_then (place_of given_then (path_to a path)) e × LeadsBack given_then e (gates.Answer a path)
  given_path path e at =
      let comes = comes_import old.values given_then.values ways_on (cap_at outcome path) e (returned_at old outcome said path e returns_ at) in (
        rw (given_answer) comes,
        (cap_at outcome path, ap (option_map (λ o. cap_at o path)) (put_at said.1.waiting.over.answers a a outcome true (is_itself a)), comes_routes given_then.values (cap_at outcome path) e comes),
      )

  given_open : (b : ℕ) (t : Bool) → (a == b) ≡ t → t ≡ false → get old.values.answers b ≡ Some None → get given_then.values.answers b ≡ Some None
  given_open b true t is at = absurd (true≢false is)
  given_open b false t is at = put_at said.1.values.answers a b (Some outcome) false t ∙ ap (λ s. get s.values.answers b) only ∙ at

  returned_place : (ref : Reference) → PlaceStep old given_then ref (messages_sent (return_of a said.0 ∷ []))
  returned_place (import_ i) =
      stays (λ gate o. (o.0, exports i (caps.Promise o.0) o.1, ap (λ s. get s.values.promises o.0) only ∙ o.2, o.3)) refl
  returned_place (path_to q path) = by (a == q) refl
    where
      by : (t : Bool) → (a == q) ≡ t → PlaceStep old given_then (path_to q path) (messages_sent (return_of a said.0 ∷ []))
      by true t =
          rw
          (← is_equal a q t)
          (settles (gates.Answer a path) [] (messages.Return (record { answer_id = a; release_param_caps = false; returned = said.0 })) [] (open_, refl)
          (record { all = refl; it = is_itself a; none_before = refl; none_after = refl }) (outcome, given_answer)
          (right_by given_then (path_to a path) (gates.Answer a path) (messages.Return (record { answer_id = a; release_param_caps = false; returned = said.0 })) (given_path path)))
      by false t = stays (λ gate o. (given_open q false t refl o.0, o.1)) (rw (t) refl)

  pub given_place : (ref : Reference) → PlaceStep old given_then ref (messages_sent (return_of a said.0 ∷ []))
  given_place = returned_place

-- A promise is settled.
resolved_end : (old : State) (last : Cap) (said : Resolution × State) (e : ℕ) → ResolvesEnd old last (Ok said) → resolved_as said.0 ≡ Some (descriptors.ReceiverHosted e)
    → last ≡ caps.Import e
resolved_end old (caps.Broken x) said e is at = none_out (sym (ap (λ y. resolved_as y.0) (ok_in _ _ is)) ∙ at)
resolved_end old caps.None said e is at = by_end old caps.None said e is at
  where
    by_end : (old : State) (last : Cap) (said : Resolution × State) (e : ℕ)
        → Then (WritesEnd old last) (λ said out. out ≡ Ok (resolutions.Cap said.0, said.1)) (Ok said)
        → resolved_as said.0 ≡ Some (descriptors.ReceiverHosted e) → last ≡ caps.Import e
    by_end old last said e is at =
        let parts = then_out {A = Descriptor × State} {B = Resolution × State} (WritesEnd old last) _ said is in
        said_end old last parts.0 e parts.1 (some_out (sym (ap (λ y. resolved_as y.0) (ok_in _ _ parts.2)) ∙ at))
resolved_end old (caps.Object k) said e is at =
    let parts = then_out {A = Descriptor × State} {B = Resolution × State} (WritesEnd old (caps.Object k)) _ said is in
    said_end old (caps.Object k) parts.0 e parts.1 (some_out (sym (ap (λ y. resolved_as y.0) (ok_in _ _ parts.2)) ∙ at))
resolved_end old (caps.Promise p) said e is at =
    let parts = then_out {A = Descriptor × State} {B = Resolution × State} (WritesEnd old (caps.Promise p)) _ said is in
    said_end old (caps.Promise p) parts.0 e parts.1 (some_out (sym (ap (λ y. resolved_as y.0) (ok_in _ _ parts.2)) ∙ at))
resolved_end old (caps.Import i) said e is at =
    let parts = then_out {A = Descriptor × State} {B = Resolution × State} (WritesEnd old (caps.Import i)) _ said is in
    said_end old (caps.Import i) parts.0 e parts.1 (some_out (sym (ap (λ y. resolved_as y.0) (ok_in _ _ parts.2)) ∙ at))
resolved_end old (caps.Pipelined q path) said e is at =
    let parts = then_out {A = Descriptor × State} {B = Resolution × State} (WritesEnd old (caps.Pipelined q path)) _ said is in
    said_end old (caps.Pipelined q path) parts.0 e parts.1 (some_out (sym (ap (λ y. resolved_as y.0) (ok_in _ _ parts.2)) ∙ at))

abbrev is_import : Cap → Bool
is_import (caps.Import i) = true
is_import other = false

-- what a promise is settled to, where it comes to an import
import_for : (p e : ℕ) (last value : Cap) → last_for p last ≡ caps.Import e → (last ≡ caps.Import e) × (value_for p last value ≡ value)
import_for p e (caps.Promise r) value is = by (r == p) refl
  where
    by : (b : Bool) → (r == p) ≡ b → (◌≡◌ {A = Cap} (caps.Promise r) (caps.Import e)) × (value_for p (caps.Promise r) value ≡ value)
    by true t = absurd (true≢false (sym (ap is_import (sym (ap (λ b. if b then caps.Broken promise_loop else caps.Promise r) t) ∙ is))))
    by false t = absurd (true≢false (sym (ap is_import (sym (ap (λ b. if b then caps.Broken promise_loop else caps.Promise r) t) ∙ is))))
import_for p e caps.None value is = (is, refl)
import_for p e (caps.Object k) value is = (is, refl)
import_for p e (caps.Import i) value is = (is, refl)
import_for p e (caps.Pipelined q path) value is = (is, refl)
import_for p e (caps.Broken x) value is = (is, refl)

module _ (old : State) (p : ℕ) (value : Cap) (done : Done) (one : AreOne old) (open_ : get old.values.promises p ≡ Some None) (settles_ : Settle old p value (Ok done)) where
  abbrev last : Cap
  last = settles_.0

  abbrev to : Cap
  to = value_for p last value

  grows : SettledAs old p done
  grows = settle_grows old p value done one open_ settles_

  settled_only : IsOnly (settled old p to) done.1
  settled_only = (told_only (settled old p to) p (last_for p last) done settles_.2).0

  settled_promise : get done.1.values.promises p ≡ Some (Some to)
  settled_promise = ap (λ s. get s.values.promises p) settled_only ∙ put_at old.values.promises p p (Some to) true (is_itself p)

  settled_over : get done.1.waiting.over.promises p ≡ Some to
  settled_over = ap (λ s. get s.waiting.over.promises p) settled_only ∙ put_at old.waiting.over.promises p p to true (is_itself p)

  answers_same : done.1.values.answers ≡ old.values.answers
  answers_same = ap (λ s. s.values.answers) settled_only

  -- it ends where its value does
  settled_ends : (i e : ℕ) → IsExport old i (caps.Promise p) → last_for p last ≡ caps.Import e
      → EndsAt done.1 (place_of done.1 (import_ i)) e × LeadsBack done.1 e (gates.Promise p)
  settled_ends i e export_ is =
      let parts = import_for p e last value is in
      let comes : ResolvesTo old.values value (caps.Import e) = rw (parts.0) at settles_.1 in
      let on = comes_import old.values done.1.values grows.grown.places.ways value e comes in
      let stays_ = grows.grown.places.exports i (caps.Promise p) export_ in
      let promise : get done.1.values.promises p ≡ Some (Some value) = settled_promise ∙ ap (λ v. Some (Some v)) parts.1 in (
        rw (stays_.1) (suc on.0, rw (promise) on.1),
        (value, settled_over ∙ ap (λ v. Some v) parts.1, comes_routes done.1.values value e on),
      )

  open_on : (i : ℕ) → ((r : ℕ) → IsExport old i (caps.Promise r) → (p == r) ≡ false) → (gate : Gate) → IsOpenPlace old (import_ i) gate → IsOpenPlace done.1 (import_ i) gate
  open_on i other gate o =
      (o.0, grows.grown.places.exports i (caps.Promise o.0) o.1, grows.others o.0 (other o.0 o.1) ∙ o.2, o.3)

  settled_path : (q : ℕ) (path : List ℕ) → list_any (tells (path_to q path)) (messages_sent done.0) ≡ false → PlaceStep old done.1 (path_to q path) (messages_sent done.0)
  settled_path q path untold = stays (λ gate o. (ap (λ m. get m q) answers_same ∙ o.0, o.1)) untold

  settled_by : Tells (settled old p to) p (last_for p last) (Ok done) → (ref : Reference) → PlaceStep old done.1 ref (messages_sent done.0)
  settled_by (inl (none, is)) (path_to q path) = settled_path q path (rw (ok_in _ _ is) refl)
  settled_by (inl (none, is)) (import_ i) = stays (λ gate o. open_on i other gate o) (rw (ok_in _ _ is) refl)
    where
      other : (r : ℕ) → IsExport old i (caps.Promise r) → (p == r) ≡ false
      other r export_ = by (p == r) refl
        where
          none_there : (o : Option (Counted Cap)) → IfSome o (λ entry. entry.kept ≢ caps.Promise p) → o ≡ Some (record { count = export_.0; kept = caps.Promise p }) → ⊥
          none_there None h is = none_out is
          none_there (Some entry) h is = h (ap (λ x. x.kept) (some_out is))

          by : (b : Bool) → (p == r) ≡ b → (p == r) ≡ false
          by true t = absurd (none_there (get old.counts.exports i) (none i) (export_.1 ∙ ap (λ n. Some (record { count = export_.0; kept = caps.Promise n })) (sym (is_equal p r t))))
          by false t = t
  settled_by (inr (e, export_, is)) (path_to q path) =
      let parts = then_out {A = Resolution × State} {B = Done} (ResolvesEnd (settled old p to) (last_for p last)) _ done is in
      settled_path q path (rw (ok_in _ _ parts.2) refl)
  settled_by (inr (e, export_, is)) (import_ i) = by (e == i) refl
    where
      parts : (said : Resolution × State) × ResolvesEnd (settled old p to) (last_for p last) (Ok said)
          × (◌≡◌ {A = Result Done PeerFault} (Ok done) (Ok (resolve_of e said.0 ∷ [], said.1)))
      parts = then_out {A = Resolution × State} {B = Done} (ResolvesEnd (settled old p to) (last_for p last)) _ done is

      sent : messages_sent done.0 ≡ messages.Resolve (record { promise_id = e; resolution = parts.0.0 }) ∷ []
      sent = ap (λ d. messages_sent d.0) (ok_in _ _ parts.2)

      other : (e == i) ≡ false → (r : ℕ) → IsExport old i (caps.Promise r) → (p == r) ≡ false
      other not r there = by (p == r) refl
        where
          by : (b : Bool) → (p == r) ≡ b → (p == r) ≡ false
          by true t =
              let same : e ≡ i = one e i (record { count = export_.0; kept = caps.Promise p }) (record { count = there.0; kept = caps.Promise r }) export_.1 there.1 (ap (λ n. caps.Promise n) (is_equal p r t)) in
              absurd (true≢false (sym (is_itself e) ∙ ap (λ n. e == n) same ∙ not))
          by false t = t

      by : (b : Bool) → (e == i) ≡ b → PlaceStep old done.1 (import_ i) (messages_sent done.0)
      by true t =
          rw
          (← is_equal e i t, sent)
          (settles (gates.Promise p) [] (messages.Resolve (record { promise_id = e; resolution = parts.0.0 })) [] (p, export_, open_, refl)
          (record { all = refl; it = is_itself e; none_before = refl; none_after = refl })
          (p, to, grows.grown.places.exports e (caps.Promise p) export_, settled_promise)
          (right_by done.1 (import_ e) (gates.Promise p) (messages.Resolve (record { promise_id = e; resolution = parts.0.0 }))
          (λ number at. settled_ends e number export_ (resolved_end (settled old p to) (last_for p last) parts.0 number parts.1 at))))
      by false t = stays (λ gate o. open_on i (other t) gate o) (rw (sent, t) refl)

  pub settled_place : (ref : Reference) → PlaceStep old done.1 ref (messages_sent done.0)
  settled_place ref = settled_by settles_.2 ref
