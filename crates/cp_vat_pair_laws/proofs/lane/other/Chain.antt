-- Parts of an event at the other end in which no call moves, one after another, keep a lane.
use Rattle.std.specs.Prelude.{◌≡◌, ◌⊎◌, refl, ℕ, zero, suc, Bool, true, false, List, [], ◌∷◌, ◌++◌, flat_map, Option, Some, None}
use Rattle.std.specs.List.{list_any, AllByRecursion}
use Rattle.std.specs.FinMap.{get, values}
use Rattle.std.proofs.Common.{inl, inr, ap, sym, ◌∙◌, true≢false}
use Rattle.std.proofs.lemmas.List.{append_assoc, append-nil}
use Rattle.std.proofs.lemmas.Grind.{flat_map-append}
use Rattle.cp_tables.specs.declared.counted.Counted.{Counted}
use Rattle.cp_messages.specs.declared.message.Message.{Message}
use Rattle.cp_messages.specs.declared.message.Message.TheVariants as messages
use Rattle.cp_refs.specs.At.{cap_at}
use Rattle.cp_refs.specs.Route.{Way, ends, leads, missing, promise_way, outcome_way, question_way, way, route_by, route_within, Routes}
use Rattle.cp_refs.specs.Values.{ValueMaps}
use Rattle.cp_refs.specs.declared.cap.Cap.{Cap}
use Rattle.cp_refs.specs.declared.cap.Cap.TheVariants as caps
use Rattle.cp_refs.specs.declared.call.Origin.{Origin}
use Rattle.cp_refs.specs.declared.call.Origin.TheVariants as origins
use Rattle.cp_refs.specs.declared.outcome.Outcome.{Outcome}
use Rattle.cp_refs.specs.declared.route.Gate.{Gate}
use Rattle.cp_refs.specs.declared.route.Route.TheVariants as routes
use Rattle.cp_refs.specs.declared.values.QuestionState.{QuestionState}
use Rattle.cp_refs.specs.declared.values.QuestionKind.{QuestionKind}
use Rattle.cp_refs.specs.declared.values.QuestionKind.TheVariants as kinds
use Rattle.cp_vat_machine.specs.State.{State, gave}
use Rattle.cp_vat_machine.specs.Writing.{IsExport, end_by, end_within}
use Rattle.cp_vat_machine.specs.Calling.{mark_of}
use Rattle.cp_vat_machine.specs.declared.effect.Effect.{Effect}
use Rattle.cp_vat_machine.proofs.Basics.{some_out, none_out}
use Rattle.cp_vat_laws.proofs.Tables.{every_of}
use Rattle.cp_vat_pair_laws.specs.VatPair.{End, with_mail, message_sent, messages_sent}
use Rattle.cp_vat_pair_laws.specs.Ledger.{opens}
use Rattle.cp_vat_pair_laws.specs.Lane.{Reference, import_, path_to, cap_of, Delivery, own_ticket, answer_forwarded, stands_for}
use Rattle.cp_vat_pair_laws.specs.Naming.{place_of, exported_cap, answered_cap, is_echo}
use Rattle.cp_vat_pair_laws.specs.Phases.{of_lane, forwarded_for, waits_for, stands_as, LeadsBack, opens_place, tells, IsOpenPlace, IsClosedPlace, EndsAt, IsAbsent, IsHostedThere, LaneHolds}
use Rattle.cp_vat_pair_laws.proofs.still.Grows.{WaysStay, PlacesStay, places_same, places_both, comes_import}
use Rattle.cp_vat_pair_laws.proofs.lane.parts.Silent.{Silent, is_call}
use Rattle.cp_vat_pair_laws.proofs.lane.Calm.{any_mail, any_taken, none_of_front}
use Rattle.cp_vat_pair_laws.proofs.lane.other.Calm.{LevelThere}
use Rattle.cp_vat_pair_laws.proofs.lane.other.NoCallMoves.{PlaceStep, stays, settles, IsNewPlace, part_there}
use Rattle.cp_vat_pair_laws.proofs.lane.other.Places.{comes_routes}

-- What is routed to an import comes to it.
abbrev is_to_import : Way → Bool
is_to_import (ends (routes.Import i)) = true
is_to_import other = false

abbrev import_or : ℕ → Way → ℕ
import_or n (ends (routes.Import i)) = i
import_or n other = n

not_there : {A : Type 0} (w : Way) (e : ℕ) → w ≡ ends (routes.Import e) → is_to_import w ≡ false → A
not_there w e is not = absurd (true≢false (sym (ap is_to_import is) ∙ not))

promise_not : (p : ℕ) (o : Option (Option Cap)) → is_to_import (promise_way p o) ≡ false
promise_not p None = refl
promise_not p (Some None) = refl
promise_not p (Some (Some v)) = refl

outcome_not : (kind : QuestionKind) (q : ℕ) (path : List ℕ) (o : Option Outcome) → is_to_import (outcome_way kind q path o) ≡ false
outcome_not kinds.Wire q path None = refl
outcome_not kinds.Local q path None = refl
outcome_not kinds.Wire q path (Some x) = refl
outcome_not kinds.Local q path (Some x) = refl

question_not : (q : ℕ) (path : List ℕ) (o : Option QuestionState) → is_to_import (question_way q path o) ≡ false
question_not q path None = refl
question_not q path (Some question) = outcome_not question.kind q path question.outcome

ends_import : (values : ValueMaps) (c : Cap) (e : ℕ) → way values c ≡ ends (routes.Import e) → c ≡ caps.Import e
ends_import values caps.None e is = not_there _ e is refl
ends_import values (caps.Object k) e is = not_there _ e is refl
ends_import values (caps.Promise p) e is = not_there _ e is (promise_not p (get values.promises p))
ends_import values (caps.Import i) e is = ap (λ n. caps.Import n) (ap (import_or i) is)
ends_import values (caps.Pipelined q path) e is = not_there _ e is (question_not q path (get values.questions q))
ends_import values (caps.Broken x) e is = not_there _ e is refl

comes_by : (values : ValueMaps) (e n : ℕ) → ((c : Cap) → route_within n values c ≡ Some (routes.Import e) → end_within n values c ≡ Some (caps.Import e)) → (c : Cap) (w : Way)
    → way values c ≡ w → route_by (λ next. route_within n values next) w ≡ Some (routes.Import e) → end_by (λ next. end_within n values next) c w ≡ Some (caps.Import e)
comes_by values e n more c (ends r) is at = ap (λ x. Some x) (ends_import values c e (is ∙ ap (λ x. ends x) (some_out at)))
comes_by values e n more c (leads next) is at = more next at
comes_by values e n more c missing is at = none_out at

comes_within : (values : ValueMaps) (e n : ℕ) (c : Cap) → route_within n values c ≡ Some (routes.Import e) → end_within n values c ≡ Some (caps.Import e)
comes_within values e zero c at = none_out at
comes_within values e (suc n) c at = comes_by values e n (comes_within values e n) c (way values c) refl at

pub routes_import : (old new : ValueMaps) → WaysStay old new → (c : Cap) (e : ℕ) → Routes old c (routes.Import e) → Routes new c (routes.Import e)
routes_import old new stay c e way_ = comes_routes new c e (comes_import old new stay c e (way_.0, comes_within old e way_.0 c way_.1))

-- What gates that are over gave, they go on to give.
abbrev pub OverStays : State → State → Type 0
OverStays old new = (gate : Gate) (cap : Cap) → gave old.waiting.over gate ≡ Some cap → gave new.waiting.over gate ≡ Some cap

-- what is exported for the first time
abbrev pub ExportsFresh : State → State → Type 0
ExportsFresh old new = (i : ℕ) → get old.counts.exports i ≡ None → (get new.counts.exports i ≡ None) ⊎ IsNewPlace new (import_ i)

-- what a part in which no call moves does to the places of all references
pub record KeptThere (old : State) (effects : List Effect) (new : State) : Type 0 where
  pub level : (here : End) (made : List ℕ) (inbox : List Message) → LevelThere here (record { vat = old; inbox = inbox }) made new inbox (messages_sent effects)
  pub places : PlacesStay old new
  pub place : (ref : Reference) → PlaceStep old new ref (messages_sent effects)
  pub over : OverStays old new
  pub fresh : ExportsFresh old new
  pub answers : (q : ℕ) → get new.values.answers q ≡ Some None → get old.values.answers q ≡ Some None
  pub no_echo : (n : ℕ) → list_any (is_echo n) (messages_sent effects) ≡ false

-- What is known of the other end within an event: no open answer is opened again by a message on the way to it, and what it doesn't export isn't
-- told of; an import that isn't held isn't marked; and where a place ends in the end, there is an export.
pub record IsThere (here : End) (s final : State) (inbox : List Message) : Type 0 where
  pub unopened : (q : ℕ) → get s.values.answers q ≡ Some None → list_any (opens q) inbox ≡ false
  pub untold : (i : ℕ) → get s.counts.exports i ≡ None → list_any (tells (import_ i)) here.inbox ≡ false
  pub unmarked : (i : ℕ) → get here.vat.values.imports i ≡ None → mark_of here.vat (caps.Import i) ≡ None
  pub stay : PlacesStay s final
  pub held : (ref : Reference) (e : ℕ) → EndsAt final (place_of final ref) e → (cap : Cap) × IsExport here.vat e cap

-- where a place ends, it ends for good
place_on : (s : State) (i : ℕ) (c : Cap) → IsExport s i c → place_of s (import_ i) ≡ Some c
place_on s i c is = ap exported_cap is.1

ends_by : (old new : State) → PlacesStay old new → (i e : ℕ) (o : Option (Counted Cap)) → get old.counts.exports i ≡ o → EndsAt old (exported_cap o) e
    → EndsAt new (place_of new (import_ i)) e
ends_by old new stay i e None is at = absurd at
ends_by old new stay i e (Some entry) is at =
    rw (place_on new i entry.kept (stay.exports i entry.kept (entry.count, is))) (comes_import old.values new.values stay.ways entry.kept e at)

answered_by : (old new : State) → PlacesStay old new → (q e : ℕ) (path : List ℕ) (o : Option (Option Outcome)) → get old.values.answers q ≡ o → EndsAt old (answered_cap path o) e
    → EndsAt new (place_of new (path_to q path)) e
answered_by old new stay q e path None is at = absurd at
answered_by old new stay q e path (Some None) is at = absurd at
answered_by old new stay q e path (Some (Some outcome)) is at =
    rw (stay.answers q outcome is) (comes_import old.values new.values stay.ways (cap_at outcome path) e at)

pub ends_on : (old new : State) → PlacesStay old new → (ref : Reference) (e : ℕ) → EndsAt old (place_of old ref) e → EndsAt new (place_of new ref) e
ends_on old new stay (import_ i) e at = ends_by old new stay i e (get old.counts.exports i) refl at
ends_on old new stay (path_to q path) e at = answered_by old new stay q e path (get old.values.answers q) refl at

pub hosted_on : (old new : State) → PlacesStay old new → (ref : Reference) → IsHostedThere old ref → IsHostedThere new ref
hosted_on old new stay (import_ i) is = (is.0, stay.exports i (caps.Object is.0) is.1)
hosted_on old new stay (path_to q path) is = absurd is

pub closed_on : (old new : State) → PlacesStay old new → (ref : Reference) → IsClosedPlace old ref → IsClosedPlace new ref
closed_on old new stay (import_ i) is = (is.0, is.1, stay.exports i (caps.Promise is.0) is.2, stay.ways.promises is.0 is.1 is.3)
closed_on old new stay (path_to q path) is = (is.0, stay.answers q is.0 is.1)

pub leads_on : (old new : State) → PlacesStay old new → OverStays old new → (e : ℕ) (gate : Gate) → LeadsBack old e gate → LeadsBack new e gate
leads_on old new stay over e gate is = (is.0, over gate is.0 is.1, routes_import old.values new.values stay.ways is.0 e is.2)

-- the lists of a lane where no call moves
no_call_at : (here there : State) (made : List ℕ) (ms : List Message) → list_any is_call ms ≡ false → AllByRecursion (λ m. of_lane made (forwarded_for here there m) ≡ []) ms
no_call_at here there made [] none = tt
no_call_at here there made (m ∷ ms) none = (by m (none_of_front is_call m ms none), no_call_at here there made ms (any_taken is_call m ms none))
  where
    by : (m : Message) → is_call m ≡ false → of_lane made (forwarded_for here there m) ≡ []
    by (messages.Call c) not = absurd (true≢false not)
    by (messages.Unimplemented t) not = refl
    by (messages.Abort x) not = refl
    by (messages.Return r) not = refl
    by (messages.Finish f) not = refl
    by (messages.Resolve r) not = refl
    by (messages.Release r) not = refl
    by (messages.Bootstrap b) not = refl
    by (messages.Disembargo d) not = refl
    by (messages.Other which body) not = refl

pub forwards_at : (here old new : State) → ((q : ℕ) → answer_forwarded (get new.entries.questions q) ≡ answer_forwarded (get old.entries.questions q)) → (a : ℕ)
    → stands_for here new a ≡ stands_for here old a
forwards_at here old new same a = ap (flat_map (λ question. own_ticket (get here.entries.questions question))) (same a)

pub forwarded_at : (here old new : State) → ((q : ℕ) → answer_forwarded (get new.entries.questions q) ≡ answer_forwarded (get old.entries.questions q)) → (m : Message)
    → forwarded_for here new m ≡ forwarded_for here old m
forwarded_at here old new same (messages.Call c) = forwards_at here old new same c.question_id
forwarded_at here old new same (messages.Unimplemented t) = refl
forwarded_at here old new same (messages.Abort x) = refl
forwarded_at here old new same (messages.Return r) = refl
forwarded_at here old new same (messages.Finish f) = refl
forwarded_at here old new same (messages.Resolve r) = refl
forwarded_at here old new same (messages.Release r) = refl
forwarded_at here old new same (messages.Bootstrap b) = refl
forwarded_at here old new same (messages.Disembargo d) = refl
forwarded_at here old new same (messages.Other which body) = refl

pub still_level : (here there : End) (made : List ℕ) (effects : List Effect) (new : State) → new.waiting.calls ≡ there.vat.waiting.calls
    → ((q : ℕ) → answer_forwarded (get new.entries.questions q) ≡ answer_forwarded (get there.vat.entries.questions q))
    → list_any is_call (messages_sent effects) ≡ false → LevelThere here there made new there.inbox (messages_sent effects)
still_level here there made effects new calls forwards no_call =
    record {
      waiting = ap (λ cs. of_lane made (flat_map (λ call. waits_for here.vat call.origin) (values cs))) calls;
      calls = λ ticket call is. inr (sym (ap (λ cs. get cs ticket) calls) ∙ is);
      forwards =
          every_of (λ m. of_lane made (forwarded_for here.vat new m) ≡ of_lane made (forwarded_for here.vat there.vat m)) here.inbox
          (λ m. ap (of_lane made) (forwarded_at here.vat there.vat new forwards m));
      held = λ ticket call is none. held call.origin none;
      sends = no_call_at here.vat new made (messages_sent effects) no_call;
      taken = inl refl;
    }
  where
    held : (origin : Origin) → of_lane made (stands_as here.vat there.vat origin) ≡ [] → of_lane made (stands_as here.vat new origin) ≡ []
    held (origins.Answer a) none = ap (of_lane made) (forwards_at here.vat there.vat new forwards a) ∙ none
    held (origins.Own q) none = none

pub silent_level : (here there : End) (made : List ℕ) (effects : List Effect) (new : State) → Silent there.vat effects new
    → LevelThere here there made new there.inbox (messages_sent effects)
silent_level here there made effects new silent = still_level here there made effects new silent.calls silent.bearing.forwards silent.no_call

-- such a part keeps the lane, and what is known
absent_at : (here : End) (old new final : State) (inbox : List Message) (effects : List Effect) → KeptThere old effects new → IsThere here old final inbox → (ref : Reference)
    → PlaceStep old new ref (messages_sent effects) → IsAbsent here.vat old ref
    → IsAbsent here.vat new ref ⊎ (IsNewPlace new ref × (mark_of here.vat (cap_of ref) ≡ None) × (list_any (tells ref) (here.inbox ++ messages_sent effects) ≡ false))
absent_at here old new final inbox effects kept known (path_to q path) step none = inl none
absent_at here old new final inbox effects kept known (import_ i) step none = by (kept.fresh i none.1)
  where
    untold : PlaceStep old new (import_ i) (messages_sent effects) → list_any (tells (import_ i)) (messages_sent effects) ≡ false
    untold (stays open_ is) = is
    untold (settles gate before telling after open_ only closed right) = none_out (sym none.1 ∙ open_.1.1)

    by : (get new.counts.exports i ≡ None) ⊎ IsNewPlace new (import_ i)
        → IsAbsent here.vat new (import_ i)
        ⊎ (IsNewPlace new (import_ i) × (mark_of here.vat (caps.Import i) ≡ None) × (list_any (tells (import_ i)) (here.inbox ++ messages_sent effects) ≡ false))
    by (inl still) = inl (none.0, still)
    by (inr place) = inr (place, known.unmarked i none.0, any_mail (tells (import_ i)) here.inbox (messages_sent effects) (known.untold i none.1) (untold step))

pub not_opened_at : (here : End) (old final : State) (inbox : List Message) → IsThere here old final inbox → (ref : Reference) (gate : Gate) → IsOpenPlace old ref gate
    → list_any (opens_place ref) inbox ≡ false
not_opened_at here old final inbox known (import_ i) gate open_ = none_false inbox
  where
    none_false : (xs : List Message) → list_any (λ (m : Message). false) xs ≡ false
    none_false [] = refl
    none_false (x ∷ xs) = none_false xs
not_opened_at here old final inbox known (path_to q path) gate open_ = known.unopened q open_.0

module _ (here : End) (old new final : State) (inbox : List Message) (effects : List Effect) (kept : KeptThere old effects new) (later : PlacesStay new final)
    (known : IsThere here old final inbox) where
  abbrev here_then : End
  here_then = with_mail here (messages_sent effects)

  pub part_kept : (ref : Reference) (made : List ℕ) (delivered : List Delivery) → LaneHolds here (record { vat = old; inbox = inbox }) ref made delivered
      → LaneHolds here_then (record { vat = new; inbox = inbox }) ref made delivered
  part_kept ref made delivered lane =
      part_there here (record { vat = old; inbox = inbox }) ref made new inbox (messages_sent effects)
      (record {
        level = kept.level here made inbox;
        place = kept.place ref;
        absent_ = absent_at here old new final inbox effects kept known ref (kept.place ref);
        ends_ = ends_on old new kept.places ref;
        hosted = hosted_on old new kept.places ref;
        closed_ = closed_on old new kept.places ref;
        leads_ = leads_on old new kept.places kept.over;
        held_there = λ e at. known.held ref e (ends_on new final later ref e at);
        not_opened = not_opened_at here old final inbox known ref;
        no_echo = λ n marked. kept.no_echo n;
        front = inl refl;
      })
      delivered lane

  pub known_then : IsThere here_then new final inbox
  known_then =
      record {
        unopened = λ q open_. known.unopened q (kept.answers q open_);
        untold = λ i none. untold i none (kept.place (import_ i));
        unmarked = known.unmarked;
        stay = later;
        held = known.held;
      }
    where
      gone : (i : ℕ) (o : Option (Counted Cap)) → get old.counts.exports i ≡ o → get new.counts.exports i ≡ None → get old.counts.exports i ≡ None
      gone i None is none = is
      gone i (Some entry) is none = none_out (sym none ∙ (kept.places.exports i entry.kept (entry.count, is)).1)

      untold : (i : ℕ) → get new.counts.exports i ≡ None → PlaceStep old new (import_ i) (messages_sent effects)
          → list_any (tells (import_ i)) (here.inbox ++ messages_sent effects) ≡ false
      untold i none (stays open_ is) =
          any_mail (tells (import_ i)) here.inbox (messages_sent effects) (known.untold i (gone i (get old.counts.exports i) refl none)) is
      untold i none (settles gate before telling after open_ only closed right) = none_out (sym (gone i (get old.counts.exports i) refl none) ∙ open_.1.1)

-- Such parts one after another.
pub data Chain : State → List Effect → State → Type 0 where
  ended : {s : State} → Chain s [] s
  goes_on : {old mid new : State} {first rest all : List Effect} → KeptThere old first mid → Chain mid rest new → all ≡ first ++ rest → Chain old all new

pub chain_places : {old new : State} {all : List Effect} → Chain old all new → PlacesStay old new
chain_places {old = old} ended = places_same refl refl
chain_places (goes_on kept chain is) = places_both kept.places (chain_places chain)

pub chain_one : {old new : State} {effects : List Effect} → KeptThere old effects new → Chain old effects new
chain_one {effects = effects} kept = goes_on kept ended (sym (append-nil effects))

pub chain_both : {old mid new : State} {first rest : List Effect} → Chain old first mid → Chain mid rest new → Chain old (first ++ rest) new
chain_both ended more = more
chain_both {rest = rest} (goes_on {first = head} {rest = tail} kept chain is) more =
    goes_on kept (chain_both chain more) (ap (λ xs. xs ++ rest) is ∙ append_assoc head tail rest)

pub sent_both : (first rest : List Effect) → messages_sent (first ++ rest) ≡ messages_sent first ++ messages_sent rest
sent_both first rest = flat_map-append message_sent first rest

same_mail : (here : End) (first rest all : List Effect) → all ≡ first ++ rest → with_mail (with_mail here (messages_sent first)) (messages_sent rest) ≡ with_mail here (messages_sent all)
same_mail here first rest all is =
    ap (λ inbox. record here { inbox = inbox }) (append_assoc here.inbox (messages_sent first) (messages_sent rest) ∙ ap (λ xs. here.inbox ++ xs) (sym (ap messages_sent is ∙ sent_both first rest)))

-- They keep the lane, and what is known.
pub chain_kept : {old new : State} {all : List Effect} (here : End) (final : State) (inbox : List Message) → Chain old all new → PlacesStay new final → IsThere here old final inbox
    → (ref : Reference) (made : List ℕ) (delivered : List Delivery) → LaneHolds here (record { vat = old; inbox = inbox }) ref made delivered
    → LaneHolds (with_mail here (messages_sent all)) (record { vat = new; inbox = inbox }) ref made delivered
chain_kept here final inbox ended later known ref made delivered lane = rw (append-nil here.inbox) lane
chain_kept {old = old} {new = new} {all = all} here final inbox (goes_on {mid = mid} {first = first} {rest = rest} kept chain is) later known ref made delivered lane =
    let stay = places_both (chain_places chain) later in
    let next = part_kept here old mid final inbox first kept stay known ref made delivered lane in
    rw
    (← same_mail here first rest all is)
    (chain_kept (with_mail here (messages_sent first)) final inbox chain later (known_then here old mid final inbox first kept stay known) ref made delivered next)

pub chain_known : {old new : State} {all : List Effect} (here : End) (final : State) (inbox : List Message) → Chain old all new → PlacesStay new final → IsThere here old final inbox
    → IsThere (with_mail here (messages_sent all)) new final inbox
chain_known here final inbox ended later known = rw (append-nil here.inbox) known
chain_known {old = old} {all = all} here final inbox (goes_on {mid = mid} {first = first} {rest = rest} kept chain is) later known =
    let stay = places_both (chain_places chain) later in
    rw
    (← same_mail here first rest all is)
    (chain_known (with_mail here (messages_sent first)) final inbox chain later (known_then here old mid final inbox first kept stay known))
