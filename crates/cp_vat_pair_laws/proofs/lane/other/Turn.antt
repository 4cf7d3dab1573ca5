-- A waiting call that goes at the other end keeps a lane.
use Rattle.std.specs.Prelude.{◌≡◌, ◌⊎◌, refl, ℕ, ◌<◌, ◌≤◌, ◌==◌, Bool, true, false, List, [], ◌∷◌, ◌++◌, flat_map, option_map, option_to_list, Option, Some, None, Ok}
use Rattle.std.specs.List.{list_any, AllByRecursion}
use Rattle.std.specs.FinMap.{get, insert, remove, values, entries}
use Rattle.std.proofs.Common.{arith, inl, inr, ap, subst, sym, ◌∙◌}
use Rattle.std.proofs.lemmas.List.{append_assoc, append-nil}
use Rattle.cp_tables.specs.declared.counted.Counted.{Counted}
use Rattle.cp_tables.specs.Exchange.{new_exchange}
use Rattle.cp_tables.specs.declared.exchange.Stage.{Stage}
use Rattle.cp_tables.specs.declared.exchange.Stage.TheVariants as stages
use Rattle.cp_messages.specs.declared.descriptor.Descriptor.{Descriptor}
use Rattle.cp_messages.specs.declared.call.Call.{Call}
use Rattle.cp_messages.specs.declared.call.SendResultsTo.TheVariants as results_to
use Rattle.cp_messages.specs.declared.target.Target.{Target}
use Rattle.cp_messages.specs.declared.target.Target.TheVariants as targets
use Rattle.cp_messages.specs.declared.message.Message.{Message}
use Rattle.cp_messages.specs.declared.message.Message.TheVariants as messages
use Rattle.cp_messages.specs.declared.exception.Exception.{Exception}
use Rattle.cp_refs.specs.At.{cap_at}
use Rattle.cp_refs.specs.Route.{Routes}
use Rattle.cp_refs.specs.declared.call.Request.{Request}
use Rattle.cp_refs.specs.declared.cap.Cap.{Cap}
use Rattle.cp_refs.specs.declared.cap.Cap.TheVariants as caps
use Rattle.cp_refs.specs.declared.call.WaitingCall.{WaitingCall}
use Rattle.cp_refs.specs.declared.call.Origin.{Origin}
use Rattle.cp_refs.specs.declared.call.Origin.TheVariants as origins
use Rattle.cp_refs.specs.declared.outcome.Outcome.{Outcome}
use Rattle.cp_refs.specs.declared.outcome.Outcome.TheVariants as outcomes
use Rattle.cp_refs.specs.declared.route.Gate.{Gate}
use Rattle.cp_refs.specs.declared.route.Route.{Route}
use Rattle.cp_refs.specs.declared.route.Route.TheVariants as routes
use Rattle.cp_vat_machine.specs.State.{State, gave, with_questions}
use Rattle.cp_vat_machine.specs.Then.{Done}
use Rattle.cp_vat_machine.specs.Capacity.{Fresh}
use Rattle.cp_vat_machine.specs.Writing.{IsExport, WritesDescriptors, promised}
use Rattle.cp_vat_machine.specs.Give.{Give}
use Rattle.cp_vat_machine.specs.Go.{PendingCall, IsNext, delivered, call_of, finish_after, forwarding, sent, GoOut, Go, GoTo, without_call, underway}
use Rattle.cp_vat_machine.specs.Local.{AreOne, IsTicketOf}
use Rattle.cp_vat_machine.specs.Calling.{mark_of}
use Rattle.cp_vat_machine.specs.declared.effect.Effect.{Effect}
use Rattle.cp_vat_machine.specs.declared.effect.Effect.TheVariants as effects
use Rattle.cp_vat_machine.proofs.Basics.{some_out, none_out, ok_in, then_out, is_equal, is_itself, other_number, put_at, all_front}
use Rattle.cp_vat_laws.specs.Within.{Within, WaitsFor}
use Rattle.cp_vat_laws.proofs.Tables.{there_of, gone_cases}
use Rattle.cp_vat_laws.proofs.order.Settle.{all_only}
use Rattle.cp_vat_laws.proofs.order.Routes.{one_route}
use Rattle.cp_vat_laws.proofs.order.Sound.{waiting_ungiven}
use Rattle.cp_vat_pair_laws.specs.VatPair.{End, with_mail, messages_sent}
use Rattle.cp_vat_pair_laws.specs.Places.{NoneFinished}
use Rattle.cp_vat_pair_laws.specs.Naming.{is_echo}
use Rattle.cp_vat_pair_laws.specs.Ledger.{opens}
use Rattle.cp_vat_pair_laws.specs.Lane.{Reference, import_, path_to, cap_of, Delivery, own_ticket, answer_forwarded, stands_for}
use Rattle.cp_vat_pair_laws.specs.Phases.{IsAbsent, of_lane, forwarded_for, waits_for, stands_as, waits, on_way, back_in, LeadsBack, tells, IsOpenPlace, IsClosedPlace, IsHostedThere, Told, Phase, absent, unopened, unsettled, told, free, marked, embargoed, echoed, local_open, IsElsewhere, came_to_other, told_other, hosted_there, InLane, LaneHolds}
use Rattle.cp_vat_pair_laws.proofs.counts.rules.Accounts.{free_out}
use Rattle.cp_vat_pair_laws.proofs.still.Grows.{PlacesStay, places_same, places_both}
use Rattle.cp_vat_pair_laws.proofs.still.Say.{said_all}
use Rattle.cp_vat_pair_laws.proofs.still.Go.{turn_grows}
use Rattle.cp_vat_pair_laws.proofs.lane.parts.Silent.{silent_none}
use Rattle.cp_vat_pair_laws.proofs.lane.parts.Go.{failed_, goes_went}
use Rattle.cp_vat_pair_laws.proofs.lane.parts.Tables.{PlacedIn, gone_placed, all_entries, lane_first}
use Rattle.cp_vat_pair_laws.proofs.lane.other.NotOfLane.{IsFreshThere, turn_there}
use Rattle.cp_vat_pair_laws.proofs.lane.Lists.{lane_unmade, wait_none}
use Rattle.cp_vat_pair_laws.proofs.lane.Calm.{only_mail, any_mail, any_taken, none_of_front}
use Rattle.cp_vat_pair_laws.proofs.lane.other.Calm.{LevelThere}
use Rattle.cp_vat_pair_laws.proofs.lane.other.NoCallMoves.{PlaceStep, stays, settles, IsNewPlace, open_closed, open_hosted, PartThere, part_there}
use Rattle.cp_vat_pair_laws.proofs.lane.other.Places.{place_stays}
use Rattle.cp_vat_pair_laws.proofs.lane.other.Chain.{sent_both, not_opened_at, OverStays, ExportsFresh, IsThere, ends_on, hosted_on, closed_on, leads_on, Chain, ended, goes_on, chain_kept, chain_known}
use Rattle.cp_vat_pair_laws.proofs.lane.other.Give.{NoneLeft, all_fresh, give_chain}
use Rattle.cp_vat_pair_laws.proofs.lane.other.Phase.{GoesBack, goes_told}

pub cons_not : (x : ℕ) (xs : List ℕ) → x ∷ xs ≡ [] → ⊥
cons_not x xs is = cc

-- A reference that is elsewhere stays so.
pub elsewhere_part : (here there : End) (ref : Reference) (made : List ℕ) (mid : State) (inbox ms : List Message) → PlaceStep there.vat mid ref ms
    → (IsClosedPlace there.vat ref → IsClosedPlace mid ref) → (IsHostedThere there.vat ref → IsHostedThere mid ref) → IsElsewhere here there ref made
    → IsElsewhere (with_mail here ms) (record { vat = mid; inbox = inbox }) ref made
elsewhere_part here there ref made mid inbox ms step closed hosted (came_to_other p) = came_to_other p
elsewhere_part here there ref made mid inbox ms (stays open_ untold) closed hosted (told_other p) =
    told_other
    (record {
      yet = p.yet;
      closed = closed p.closed;
      before = p.before;
      telling = p.telling;
      after = p.after ++ ms;
      only = only_mail ms p.only untold;
      says = p.says;
    })
elsewhere_part here there ref made mid inbox ms (stays open_ untold) closed hosted (hosted_there p) =
    hosted_there (record { yet = p.yet; hosted = hosted p.hosted; untold = any_mail (tells ref) here.inbox ms p.untold untold })
elsewhere_part here there ref made mid inbox ms (settles gate before telling after open_ only closed_ right) closed hosted (told_other p) =
    open_closed there.vat ref gate open_ p.closed
elsewhere_part here there ref made mid inbox ms (settles gate before telling after open_ only closed_ right) closed hosted (hosted_there p) =
    open_hosted there.vat ref gate open_ p.hosted

pub same_mail : (here : End) (first rest all : List Effect) → all ≡ first ++ rest → with_mail (with_mail here (messages_sent first)) (messages_sent rest) ≡ with_mail here (messages_sent all)
same_mail here first rest all is =
    ap (λ inbox. record here { inbox = inbox })
    (append_assoc here.inbox (messages_sent first) (messages_sent rest)
    ∙ ap (λ xs. here.inbox ++ xs) (sym (ap messages_sent is ∙ sent_both first rest)))

pub chain_elsewhere : {old new : State} {all : List Effect} (here : End) (inbox : List Message) → Chain old all new → (ref : Reference) (made : List ℕ)
    → IsElsewhere here (record { vat = old; inbox = inbox }) ref made → IsElsewhere (with_mail here (messages_sent all)) (record { vat = new; inbox = inbox }) ref made
chain_elsewhere here inbox ended ref made elsewhere = rw (append-nil here.inbox) elsewhere
chain_elsewhere {old = old} {all = all} here inbox (goes_on {mid = mid} {first = first} {rest = rest} kept chain is) ref made elsewhere =
    rw
    (← same_mail here first rest all is)
    (chain_elsewhere (with_mail here (messages_sent first)) inbox chain ref made
    (elsewhere_part here (record { vat = old; inbox = inbox }) ref made mid inbox (messages_sent first) (kept.place ref) (closed_on old mid kept.places ref)
    (hosted_on old mid kept.places ref) elsewhere))

-- What a call that doesn't fail does to values and places: nothing, but that what it sends is exported.
pub record Steady (old : State) (done : Done) : Type 0 where
  pub values_ : done.1.values ≡ old.values
  pub over : done.1.waiting.over ≡ old.waiting.over
  pub exports : (e : ℕ) (c : Cap) → IsExport old e c → IsExport done.1 e c
  pub fresh : ExportsFresh old done.1
  pub untold : (ref : Reference) → list_any (tells ref) (messages_sent done.0) ≡ false
  pub no_echo : (n : ℕ) → list_any (is_echo n) (messages_sent done.0) ≡ false

call_untold : (q : ℕ) (target : Target) (request : Request) (table : List Descriptor) (stage : Stage) (ref : Reference)
    → list_any (tells ref) (messages_sent (call_of q target request table ∷ finish_after q stage)) ≡ false
call_untold q target request table stages.Open (import_ i) = refl
call_untold q target request table stages.Open (path_to p path) = refl
call_untold q target request table stages.Finished (import_ i) = refl
call_untold q target request table stages.Finished (path_to p path) = refl
call_untold q target request table stages.Returned (import_ i) = refl
call_untold q target request table stages.Returned (path_to p path) = refl

call_echoes : (q : ℕ) (target : Target) (request : Request) (table : List Descriptor) (stage : Stage) (n : ℕ)
    → list_any (is_echo n) (messages_sent (call_of q target request table ∷ finish_after q stage)) ≡ false
call_echoes q target request table stages.Open n = refl
call_echoes q target request table stages.Finished n = refl
call_echoes q target request table stages.Returned n = refl

fresh_on : (old mid new : State) → new.values ≡ mid.values → new.counts.exports ≡ mid.counts.exports → ExportsFresh old mid → ExportsFresh old new
fresh_on old mid new values_ exports fresh i none = by (fresh i none)
  where
    by : (get mid.counts.exports i ≡ None) ⊎ IsNewPlace mid (import_ i) → (get new.counts.exports i ≡ None) ⊎ IsNewPlace new (import_ i)
    by (inl none) = inl (ap (λ m. get m i) exports ∙ none)
    by (inr (inl (p, export_, open_))) = inr (inl (p, (export_.0, ap (λ m. get m i) exports ∙ export_.1), ap (λ v. get v.promises p) values_ ∙ open_))
    by (inr (inr (k, export_))) = inr (inr (k, (export_.0, ap (λ m. get m i) exports ∙ export_.1)))

out_steady : (old : State) (call : PendingCall) (target : Target) (origin : Origin) (done : Done) → AreOne old → GoOut old call target origin (Ok done) → Steady old done
out_steady old call target (origins.Answer a) done one goes =
    let fresh = then_out {A = ℕ} {B = Done} (Fresh old.entries.questions) _ done goes in
    let parts = then_out {A = List Descriptor × State} {B = Done} (WritesDescriptors old call.request.caps) _ done fresh.2 in
    let only = all_only call.request.caps old parts.0 parts.1 in
    let said = said_all call.request.caps old parts.0 one parts.1 in
    let last : State = with_questions parts.0.1 (insert parts.0.1.entries.questions fresh.0 (new_exchange (forwarding a call parts.0.0))) in
    rw
    (ok_in _ _ parts.2)
    (record {
      values_ = ap (λ s. s.values) only;
      over = ap (λ s. s.waiting.over) only;
      exports = said.exports;
      fresh = fresh_on old parts.0.1 last refl refl (all_fresh call.request.caps old parts.0 one parts.1);
      untold = λ ref. call_untold fresh.0 target call.request parts.0.0 stages.Open ref;
      no_echo = λ n. refl;
    })
out_steady old call target (origins.Own q) done one goes =
    let parts = then_out {A = List Descriptor × State} {B = Done} (WritesDescriptors old call.request.caps) _ done goes.2 in
    let only = all_only call.request.caps old parts.0 parts.1 in
    let said = said_all call.request.caps old parts.0 one parts.1 in
    rw
    (ok_in _ _ parts.2)
    (record {
      values_ = ap (λ s. s.values) only;
      over = ap (λ s. s.waiting.over) only;
      exports = said.exports;
      fresh = fresh_on old parts.0.1 (sent parts.0.1 q parts.0.0) refl refl (all_fresh call.request.caps old parts.0 one parts.1);
      untold = λ ref. call_untold q target call.request parts.0.0 goes.0.stage ref;
      no_echo = λ n. call_echoes q target call.request parts.0.0 goes.0.stage n;
    })

deliver_steady : (old : State) (k : ℕ) (call : PendingCall) (origin : Origin) → Steady old (effects.Deliver k call.origin call.ticket call.request ∷ [], delivered old origin)
deliver_steady old k call (origins.Answer a) =
    record { values_ = refl; over = refl; exports = λ e c is. is; fresh = λ i none. inl none; untold = λ ref. refl; no_echo = λ n. refl }
deliver_steady old k call (origins.Own q) =
    record { values_ = refl; over = refl; exports = λ e c is. is; fresh = λ i none. inl none; untold = λ ref. refl; no_echo = λ n. refl }

-- a route by which a call doesn't fail
abbrev pub IsNoFailure : Route → Type 0
IsNoFailure (routes.Fail x) = ⊥
IsNoFailure other = Unit {0}

pub go_steady : (old : State) (call : PendingCall) (route : Route) (done : Done) → AreOne old → IsNoFailure route → Go old call route (Ok done) → Steady old done
go_steady old call (routes.Deliver k) done one fine goes = rw (ok_in _ _ goes) (deliver_steady old k call call.origin)
go_steady old call (routes.Import i) done one fine goes = out_steady old call (targets.ImportedCap i) call.origin done one goes
go_steady old call (routes.Pipe q path) done one fine goes = out_steady old call (targets.PromisedAnswer (promised q path)) call.origin done one goes
go_steady old call (routes.Wait gate) done one fine goes =
    rw (ok_in _ _ goes) (record { values_ = refl; over = refl; exports = λ e c is. is; fresh = λ i none. inl none; untold = λ ref. refl; no_echo = λ n. refl })
go_steady old call (routes.Fail x) done one fine goes = absurd fine

over_same : (old new : State) → new.waiting.over ≡ old.waiting.over → OverStays old new
over_same old new same gate cap is = rw (same) is

-- The part that doesn't fail, where the lists of the lane stay.
module _ (here : End) (old final : State) (inbox : List Message) (known : IsThere here old final inbox) (done : Done) (h : Steady old done) (stay : PlacesStay old done.1)
    (later : PlacesStay done.1 final) where
  steady_place : (ref : Reference) → PlaceStep old done.1 ref (messages_sent done.0)
  steady_place ref =
      place_stays old done.1 ref (messages_sent done.0) h.exports (λ p is. ap (λ x. get x.promises p) h.values_ ∙ is) (λ a is. ap (λ x. get x.answers a) h.values_ ∙ is)
      (h.untold ref)

  pub steady_part : (ref : Reference) (made : List ℕ) → LevelThere here (record { vat = old; inbox = inbox }) made done.1 inbox (messages_sent done.0)
      → PartThere here (record { vat = old; inbox = inbox }) ref made done.1 inbox (messages_sent done.0)
  steady_part ref made level =
      record {
        level = level;
        place = steady_place ref;
        absent_ = absent_by ref;
        ends_ = ends_on old done.1 stay ref;
        hosted = hosted_on old done.1 stay ref;
        closed_ = closed_on old done.1 stay ref;
        leads_ = leads_on old done.1 stay (over_same old done.1 h.over);
        held_there = λ e at. known.held ref e (ends_on done.1 final later ref e at);
        not_opened = not_opened_at here old final inbox known ref;
        no_echo = λ n marked_. h.no_echo n;
        front = inl refl;
      }
    where
      absent_by : (r : Reference) → IsAbsent here.vat old r
          → IsAbsent here.vat done.1 r
          ⊎ (IsNewPlace done.1 r × (mark_of here.vat (cap_of r) ≡ None) × (list_any (tells r) (here.inbox ++ messages_sent done.0) ≡ false))
      absent_by (path_to q path) none = inl none
      absent_by (import_ i) none = by (h.fresh i none.1)
        where
          by : (get done.1.counts.exports i ≡ None) ⊎ IsNewPlace done.1 (import_ i)
              → IsAbsent here.vat done.1 (import_ i)
              ⊎ (IsNewPlace done.1 (import_ i) × (mark_of here.vat (caps.Import i) ≡ None)
              × (list_any (tells (import_ i)) (here.inbox ++ messages_sent done.0) ≡ false))
          by (inl still) = inl (none.0, still)
          by (inr place) = inr (place, known.unmarked i none.0, any_mail (tells (import_ i)) here.inbox (messages_sent done.0) (known.untold i none.1) (h.untold (import_ i)))

  pub steady_known : IsThere (with_mail here (messages_sent done.0)) done.1 final inbox
  steady_known =
      record {
        unopened = λ q open_. known.unopened q (sym (ap (λ x. get x.answers q) h.values_) ∙ open_);
        untold = λ i none. any_mail (tells (import_ i)) here.inbox (messages_sent done.0) (known.untold i (gone i (get old.counts.exports i) refl none)) (h.untold (import_ i));
        unmarked = known.unmarked;
        stay = later;
        held = known.held;
      }
    where
      gone : (i : ℕ) (o : Option (Counted Cap)) → get old.counts.exports i ≡ o → get done.1.counts.exports i ≡ None
          → get old.counts.exports i ≡ None
      gone i None is none = is
      gone i (Some entry) is none = none_out (sym none ∙ (h.exports i entry.kept (entry.count, is)).1)

-- A call of the peer's that is forwarded goes under a question that wasn't there.
pub record Forwarded (old : State) (target : Target) (a : ℕ) (done : Done) : Type 0 where
  pub c : Call
  pub fresh : get old.entries.questions c.question_id ≡ None
  pub sends : messages_sent done.0 ≡ messages.Call c ∷ []
  pub to : c.target ≡ target
  pub calls : done.1.waiting.calls ≡ old.waiting.calls
  pub gives : answer_forwarded (get done.1.entries.questions c.question_id) ≡ a ∷ []
  pub others : (r : ℕ) → (c.question_id == r) ≡ false → get done.1.entries.questions r ≡ get old.entries.questions r

pub out_forwarded : (old : State) (call : PendingCall) (target : Target) (a : ℕ) (done : Done) → GoOut old call target (origins.Answer a) (Ok done) → Forwarded old target a done
out_forwarded old call target a done goes =
    let fresh = then_out {A = ℕ} {B = Done} (Fresh old.entries.questions) _ done goes in
    let parts = then_out {A = List Descriptor × State} {B = Done} (WritesDescriptors old call.request.caps) _ done fresh.2 in
    let only = all_only call.request.caps old parts.0 parts.1 in
    let c : Call =
    record {
      question_id = fresh.0;
      method_id = call.request.method;
      send_results_to = results_to.Caller;
      interface_id = call.request.interface;
      target = target;
      params = record { content = call.request.content; cap_table = parts.0.0 };
    } in
    rw
    (ok_in _ _ parts.2)
    (record {
      c = c;
      fresh = free_out old.entries.questions fresh.0 fresh.1;
      sends = refl;
      to = refl;
      calls = ap (λ s. s.waiting.calls) only;
      gives = ap answer_forwarded (put_at parts.0.1.entries.questions fresh.0 fresh.0 (new_exchange (forwarding a call parts.0.0)) true (is_itself fresh.0));
      others = λ r other. put_at parts.0.1.entries.questions fresh.0 r (new_exchange (forwarding a call parts.0.0)) false other ∙ ap (λ s. get s.entries.questions r) only;
    })

-- so the lane's tickets on the way back are as before, and those of what is sent are those of the call
module _ (here old new : State) (made : List ℕ) (q a : ℕ) (gives : answer_forwarded (get new.entries.questions q) ≡ a ∷ [])
    (others : (r : ℕ) → (q == r) ≡ false → get new.entries.questions r ≡ get old.entries.questions r) where
  stands_other : (r : ℕ) → (q == r) ≡ false → stands_for here new r ≡ stands_for here old r
  stands_other r other = ap (λ o. flat_map (λ question. own_ticket (get here.entries.questions question)) (answer_forwarded o)) (others r other)

  pub forwards_other : (xs : List Message) → list_any (opens q) xs ≡ false → AllByRecursion (λ m. of_lane made (forwarded_for here new m) ≡ of_lane made (forwarded_for here old m)) xs
  forwards_other [] none = tt
  forwards_other (m ∷ xs) none = (by m (none_of_front (opens q) m xs none), forwards_other xs (any_taken (opens q) m xs none))
    where
      by : (m : Message) → opens q m ≡ false → of_lane made (forwarded_for here new m) ≡ of_lane made (forwarded_for here old m)
      by (messages.Call c) not = ap (of_lane made) (stands_other c.question_id (other_number c.question_id q not))
      by (messages.Unimplemented t) not = refl
      by (messages.Abort x) not = refl
      by (messages.Return r) not = refl
      by (messages.Finish f) not = refl
      by (messages.Resolve r) not = refl
      by (messages.Release r) not = refl
      by (messages.Bootstrap b) not = refl
      by (messages.Disembargo d) not = refl
      by (messages.Other which body) not = refl

  pub stands_it : stands_for here new q ≡ own_ticket (get here.entries.questions a)
  stands_it =
      ap (λ as_. flat_map (λ question. own_ticket (get here.entries.questions question)) as_) gives ∙ append-nil (own_ticket (get here.entries.questions a))

  pub held_other : (origin : Origin) → (origin ≡ origins.Answer q → ⊥) → of_lane made (stands_as here old origin) ≡ [] → of_lane made (stands_as here new origin) ≡ []
  held_other (origins.Own r) not none = none
  held_other (origins.Answer r) not none = ap (of_lane made) (stands_other r (differs (q == r) refl)) ∙ none
    where
      differs : (b : Bool) → (q == r) ≡ b → (q == r) ≡ false
      differs true t = absurd (not (ap (λ n. origins.Answer n) (sym (is_equal q r t))))
      differs false t = t

module _ (here : End) (s final : State) (inbox : List Message) (w : Within s None []) (none : NoneFinished s) (left_ : NoneLeft s) (known : IsThere here s final inbox)
    (fresh : (q : ℕ) → get s.entries.questions q ≡ None → IsFreshThere here q) (call : WaitingCall) (cap : Cap) (next : IsNext s call cap) (done : Done)
    (goes : GoTo (without_call s call) (underway call) cap (Ok done)) (later : PlacesStay done.1 final) where
  abbrev there : End
  there = record { vat = s; inbox = inbox }

  abbrev rest : State
  rest = without_call s call

  abbrev here_then : End
  here_then = with_mail here (messages_sent done.0)

  abbrev there_then : End
  there_then = record { vat = done.1; inbox = inbox }

  places : PlacesStay s done.1
  places = (turn_grows w call cap next done goes).places

  own : (q : ℕ) → call.origin ≡ origins.Own q → answer_forwarded (get s.entries.questions q) ≡ []
  own q is =
      let whose : IsTicketOf s (origins.Own q) call.ticket = rw is at (there_of (WaitsFor s call.ticket) (get s.waiting.calls call.ticket) call next.waits (w.waiting call.ticket)).2 in
      ap answer_forwarded whose.1 ∙ ap option_to_list whose.4

  level_of : (made : List ℕ) → of_lane made (waits_for here.vat call.origin) ≡ [] → LevelThere here there made done.1 inbox (messages_sent done.0)
  level_of made empty_ = turn_there here there made call next.waits empty_ fresh own done.1 done.0 (goes_went rest (underway call) cap done none goes)

  -- it doesn't wait any more
  removed : Steady s ([], rest)
  removed = record { values_ = refl; over = refl; exports = λ e c is. is; fresh = λ i none. inl none; untold = λ ref. refl; no_echo = λ n. refl }

  rest_places : PlacesStay s rest
  rest_places = places_same refl refl

  back_places : PlacesStay rest s
  back_places = places_same refl refl

  rest_known : IsThere here rest final inbox
  rest_known =
      record {
        unopened = known.unopened;
        untold = known.untold;
        unmarked = known.unmarked;
        stay = places_both back_places known.stay;
        held = known.held;
      }

  same_here : with_mail here [] ≡ here
  same_here = ap (λ xs. record here { inbox = xs }) (append-nil here.inbox)

  fails : (x : Exception) → Give rest call.origin (outcomes.Failed x) (Ok done) → Chain rest done.0 done.1
  fails x gives = give_chain rest call.origin (outcomes.Failed x) done w.one_export none left_ (waiting_ungiven s call w next.waits).1 gives

  -- where the call isn't of the lane
  other_by : (route : Route) → Routes s.values cap route → Go rest (underway call) route (Ok done) → (ref : Reference) (made : List ℕ) (delivered : List Delivery)
      → of_lane made (waits_for here.vat call.origin) ≡ [] → LaneHolds here there ref made delivered → LaneHolds here_then there_then ref made delivered
  other_by (routes.Fail x) way_ go ref made delivered empty_ lane =
      let level = turn_there here there made call next.waits empty_ fresh own rest [] (failed_ (silent_none rest)) in
      let first = part_there here there ref made rest inbox [] (steady_part here s final inbox known ([], rest) removed rest_places (places_both back_places known.stay) ref made level) delivered lane in
      chain_kept here final inbox (fails x go) later rest_known ref made delivered (subst (λ h. LaneHolds h (record { vat = rest; inbox = inbox }) ref made delivered) same_here first)
  other_by (routes.Deliver k) way_ go ref made delivered empty_ lane = on (routes.Deliver k) tt go ref made delivered empty_ lane
    where
      on : (route : Route) → IsNoFailure route → Go rest (underway call) route (Ok done) → (ref : Reference) (made : List ℕ) (delivered : List Delivery)
          → of_lane made (waits_for here.vat call.origin) ≡ [] → LaneHolds here there ref made delivered → LaneHolds here_then there_then ref made delivered
      on route fine go ref made delivered empty_ lane =
          part_there here there ref made done.1 inbox (messages_sent done.0)
          (steady_part here s final inbox known done (steady_of (go_steady rest (underway call) route done w.one_export fine go)) places later ref made (level_of made empty_)) delivered lane
        where
          steady_of : Steady rest done → Steady s done
          steady_of h = record { values_ = h.values_; over = h.over; exports = h.exports; fresh = h.fresh; untold = h.untold; no_echo = h.no_echo }
  other_by (routes.Import i) way_ go ref made delivered empty_ lane =
      part_there here there ref made done.1 inbox (messages_sent done.0)
      (steady_part here s final inbox known done (steady_of (go_steady rest (underway call) (routes.Import i) done w.one_export tt go)) places later ref made (level_of made empty_)) delivered lane
    where
      steady_of : Steady rest done → Steady s done
      steady_of h = record { values_ = h.values_; over = h.over; exports = h.exports; fresh = h.fresh; untold = h.untold; no_echo = h.no_echo }
  other_by (routes.Pipe q path) way_ go ref made delivered empty_ lane =
      part_there here there ref made done.1 inbox (messages_sent done.0)
      (steady_part here s final inbox known done (steady_of (go_steady rest (underway call) (routes.Pipe q path) done w.one_export tt go)) places later ref made (level_of made empty_)) delivered lane
    where
      steady_of : Steady rest done → Steady s done
      steady_of h = record { values_ = h.values_; over = h.over; exports = h.exports; fresh = h.fresh; untold = h.untold; no_echo = h.no_echo }
  other_by (routes.Wait gate) way_ go ref made delivered empty_ lane =
      part_there here there ref made done.1 inbox (messages_sent done.0)
      (steady_part here s final inbox known done (steady_of (go_steady rest (underway call) (routes.Wait gate) done w.one_export tt go)) places later ref made (level_of made empty_)) delivered lane
    where
      steady_of : Steady rest done → Steady s done
      steady_of h = record { values_ = h.values_; over = h.over; exports = h.exports; fresh = h.fresh; untold = h.untold; no_echo = h.no_echo }

  -- what is known then
  known_by : (route : Route) → Go rest (underway call) route (Ok done) → IsThere here_then done.1 final inbox
  known_by route go = by route go
    where
      steady_of : Steady rest done → Steady s done
      steady_of h = record { values_ = h.values_; over = h.over; exports = h.exports; fresh = h.fresh; untold = h.untold; no_echo = h.no_echo }

      by : (route : Route) → Go rest (underway call) route (Ok done) → IsThere here_then done.1 final inbox
      by (routes.Fail x) go = chain_known here final inbox (fails x go) later rest_known
      by (routes.Deliver k) go = steady_known here s final inbox known done (steady_of (go_steady rest (underway call) (routes.Deliver k) done w.one_export tt go)) places later
      by (routes.Import i) go = steady_known here s final inbox known done (steady_of (go_steady rest (underway call) (routes.Import i) done w.one_export tt go)) places later
      by (routes.Pipe q path) go = steady_known here s final inbox known done (steady_of (go_steady rest (underway call) (routes.Pipe q path) done w.one_export tt go)) places later
      by (routes.Wait gate) go = steady_known here s final inbox known done (steady_of (go_steady rest (underway call) (routes.Wait gate) done w.one_export tt go)) places later

  pub turn_known : IsThere here_then done.1 final inbox
  turn_known = known_by goes.0 goes.2

  -- where the reference is elsewhere
  elsewhere_by : (route : Route) → Go rest (underway call) route (Ok done) → (ref : Reference) (made : List ℕ) → IsElsewhere here there ref made
      → IsElsewhere here_then there_then ref made
  elsewhere_by (routes.Fail x) go ref made elsewhere =
      chain_elsewhere here inbox (fails x go) ref made (elsewhere_left elsewhere)
    where
      elsewhere_left : IsElsewhere here there ref made → IsElsewhere here (record { vat = rest; inbox = inbox }) ref made
      elsewhere_left e =
          subst (λ h. IsElsewhere h (record { vat = rest; inbox = inbox }) ref made) same_here
          (elsewhere_part here there ref made rest inbox [] (steady_place here s final inbox known ([], rest) removed rest_places (places_both back_places known.stay) ref)
          (closed_on s rest rest_places ref) (hosted_on s rest rest_places ref) e)
  elsewhere_by route go ref made elsewhere = by route go
    where
      steady_of : Steady rest done → Steady s done
      steady_of h = record { values_ = h.values_; over = h.over; exports = h.exports; fresh = h.fresh; untold = h.untold; no_echo = h.no_echo }

      on : Steady s done → IsElsewhere here_then there_then ref made
      on h = elsewhere_part here there ref made done.1 inbox (messages_sent done.0) (steady_place here s final inbox known done h places later ref) (closed_on s done.1 places ref) (hosted_on s done.1 places ref) elsewhere

      by : (route : Route) → Go rest (underway call) route (Ok done) → IsElsewhere here_then there_then ref made
      by (routes.Fail x) go = chain_elsewhere here inbox (fails x go) ref made (subst (λ h. IsElsewhere h (record { vat = rest; inbox = inbox }) ref made) same_here
          (elsewhere_part here there ref made rest inbox [] (steady_place here s final inbox known ([], rest) removed rest_places (places_both back_places known.stay) ref)
          (closed_on s rest rest_places ref) (hosted_on s rest rest_places ref) elsewhere))
      by (routes.Deliver k) go = on (steady_of (go_steady rest (underway call) (routes.Deliver k) done w.one_export tt go))
      by (routes.Import i) go = on (steady_of (go_steady rest (underway call) (routes.Import i) done w.one_export tt go))
      by (routes.Pipe q path) go = on (steady_of (go_steady rest (underway call) (routes.Pipe q path) done w.one_export tt go))
      by (routes.Wait gate) go = on (steady_of (go_steady rest (underway call) (routes.Wait gate) done w.one_export tt go))

  -- A call of the lane that waits and may go is one of a lane that is told, and goes back.
  open_not_over : (ref : Reference) (gate : Gate) → IsOpenPlace s ref gate → gave s.waiting.over gate ≡ Some cap → ⊥
  open_not_over (import_ i) gate open_ over =
      let there_ : get s.waiting.over.promises open_.0 ≡ Some cap = rw open_.3 at over in w.over_promises open_.0 cap there_ open_.2
  open_not_over (path_to q path) gate open_ over = answer_over (get s.waiting.over.answers q) refl (rw open_.1 at over)
    where
      answer_over : (o : Option Outcome) → get s.waiting.over.answers q ≡ o
          → option_map (λ x. cap_at x path) (get s.waiting.over.answers q) ≡ Some cap → ⊥
      answer_over None is e = none_out (sym (ap (option_map (λ x. cap_at x path)) is) ∙ e)
      answer_over (Some outcome) is e = w.over_answers q outcome is open_.0

  module _ (ref : Reference) (made : List ℕ) (some : of_lane made (waits_for here.vat call.origin) ≡ [] → ⊥) where
    not_waiting : {A : Type 0} → waits here there made ≡ [] → A
    not_waiting none_ = absurd (some (wait_none made (λ c. waits_for here.vat c.origin) s.waiting.calls none_ call.ticket call next.waits))

    -- the call goes to the import at which its place ends
    leads_there : (p : Told here there ref made) → Routes s.values cap (routes.Import p.number)
    leads_there p = by (p.waiting call.ticket call next.waits)
      where
        by : of_lane made (waits_for here.vat call.origin) ≡ [] ⊎ LeadsBack s p.number call.gate → Routes s.values cap (routes.Import p.number)
        by (inl empty_) = absurd (some empty_)
        by (inr (given, gave_, way_)) = rw (some_out (sym next.ended ∙ gave_)) way_

    -- and it is the first of them
    lower_none : (p : Told here there ref made) → AllByRecursion (λ e. of_lane made (waits_for here.vat e.1.origin) ≡ [])
        (gone_placed s.waiting.calls call.ticket call next.waits).front
    lower_none p = by (gone_placed s.waiting.calls call.ticket call next.waits).front (gone_placed s.waiting.calls call.ticket call next.waits).lower front_all
      where
        placed : PlacedIn (entries (remove s.waiting.calls call.ticket)) (entries s.waiting.calls) call.ticket call
        placed = gone_placed s.waiting.calls call.ticket call next.waits

        front_all : AllByRecursion (λ e. get s.waiting.calls e.0 ≡ Some e.1) (gone_placed s.waiting.calls call.ticket call next.waits).front
        front_all =
            all_front (λ e. get s.waiting.calls e.0 ≡ Some e.1) placed.front ((call.ticket, call) ∷ placed.back)
            (rw (placed.with_it) at (all_entries (λ ticket c. get s.waiting.calls ticket ≡ Some c) s.waiting.calls (λ ticket c is. is)))

        one : (ticket : ℕ) (c : WaitingCall) → ticket < call.ticket → get s.waiting.calls ticket ≡ Some c → of_lane made (waits_for here.vat c.origin) ≡ [] ⊎ LeadsBack s p.number c.gate
            → of_lane made (waits_for here.vat c.origin) ≡ []
        one ticket c low is (inl empty_) = empty_
        one ticket c low is (inr (given, gave_, way_)) = absurd (never (next.lowest ticket c given is gave_))
          where
            never : call.ticket ≤ ticket → ⊥
            never high = omega (arith, low, high)

        by : (es : List (ℕ × WaitingCall)) → AllByRecursion (λ e. e.0 < call.ticket) es → AllByRecursion (λ e. get s.waiting.calls e.0 ≡ Some e.1) es
            → AllByRecursion (λ e. of_lane made (waits_for here.vat e.1.origin) ≡ []) es
        by [] low all = tt
        by (e ∷ es) low all = (one e.0 e.1 low.0 all.0 (p.waiting e.0 e.1 all.0), by es low.1 all.1)

    -- so it goes back
    goes_back : (p : Told here there ref made) (a : ℕ) → call.origin ≡ origins.Answer a → Go rest (underway call) (routes.Import p.number) (Ok done)
        → GoesBack here there ref made done.1 inbox (messages_sent done.0) (of_lane made (waits_for here.vat call.origin)) p.number
    goes_back p a is go =
        let out : GoOut rest (underway call) (targets.ImportedCap p.number) (origins.Answer a) (Ok done) = rw is at go in
        let f = out_forwarded rest (underway call) (targets.ImportedCap p.number) a done out in
        let steady = go_steady rest (underway call) (routes.Import p.number) done w.one_export tt go in
        let q = f.c.question_id in
        let new = fresh q f.fresh in
        record {
          taken = inl refl;
          moved = ap (λ xs. xs ++ on_way here there made) (first_of f.calls) ∙ append_assoc (of_lane made (waits_for here.vat call.origin)) (waits here there_then made) (on_way here there made);
          calls = λ ticket c at. inr ((gone_cases s.waiting.calls call.ticket ticket c (sym (ap (λ m. get m ticket) f.calls) ∙ at)).1);
          forwards = forwards_other here.vat s done.1 made q a f.gives f.others here.inbox new.on_way;
          held = λ none_ ticket c at. held_other here.vat s done.1 made q a f.gives f.others c.origin (new.held ticket c at) (none_ ticket c at);
          bears = ap (back_in here.vat done.1 made) f.sends ∙ ap (of_lane made) (append-nil (stands_for here.vat done.1 q) ∙ stands_it here.vat s done.1 made q a f.gives f.others ∙ sym (ap (waits_for here.vat) is));
          goes_ = rw (f.sends) (inr f.to, tt);
          ends = ends_on s done.1 places ref p.number;
          leads = leads_on s done.1 places (over_same s done.1 steady.over) p.number;
          untold = steady.untold ref;
          no_echo = steady.no_echo;
        }
      where
        first_of : done.1.waiting.calls ≡ rest.waiting.calls → waits here there made ≡ of_lane made (waits_for here.vat call.origin) ++ waits here there_then made
        first_of calls =
            lane_first made (λ c. waits_for here.vat c.origin) (gone_placed s.waiting.calls call.ticket call next.waits) (lower_none p)
            ∙ ap (λ m. of_lane made (waits_for here.vat call.origin) ++ of_lane made (flat_map (λ c. waits_for here.vat c.origin) (values m))) (sym calls)

    own_none : (q : ℕ) → call.origin ≡ origins.Own q → ⊥
    own_none q is = some (rw (is) refl)

    told_by_origin : (p : Told here there ref made) (delivered : List Delivery) → InLane here there ref made delivered → (origin : Origin) → call.origin ≡ origin
        → InLane here_then there_then ref made delivered
    told_by_origin p delivered lane (origins.Own q) is = absurd (own_none q is)
    told_by_origin p delivered lane (origins.Answer a) is =
        let route : goes.0 ≡ routes.Import p.number = one_route s.values cap goes.0 (routes.Import p.number) goes.1 (leads_there p) in
        let go : Go rest (underway call) (routes.Import p.number) (Ok done) = rw route at goes.2 in
        goes_told here there ref made done.1 inbox (messages_sent done.0) (of_lane made (waits_for here.vat call.origin)) p.number (goes_back p a is go) p refl delivered lane

    unmade_not : {A : Type 0} → made ≡ [] → A
    unmade_not is = absurd (some (rw (is) (lane_unmade (waits_for here.vat call.origin))))

    its_lane : (delivered : List Delivery) → Phase here there ref made → InLane here there ref made delivered → InLane here_then there_then ref made delivered
    its_lane delivered (absent p) lane = unmade_not p.unmade
    its_lane delivered (unopened p) lane = not_waiting p.no_waits
    its_lane delivered (unsettled p) lane = by (p.waiting call.ticket call next.waits)
      where
        by : of_lane made (waits_for here.vat call.origin) ≡ [] ⊎ (call.gate ≡ p.gate) → InLane here_then there_then ref made delivered
        by (inl empty_) = absurd (some empty_)
        by (inr at) = absurd (open_not_over ref p.gate p.open_ (rw at at next.ended))
    its_lane delivered (told p) lane = told_by_origin p delivered lane call.origin refl
    its_lane delivered (free p) lane = not_waiting p.no_waits
    its_lane delivered (marked p) lane = not_waiting p.comes.no_waits
    its_lane delivered (embargoed p) lane = not_waiting p.comes.no_waits
    its_lane delivered (echoed p) lane = not_waiting p.comes.no_waits
    its_lane delivered (local_open p) lane = not_waiting p.no_waits

  -- Whatever call goes, the lane holds on.
  pub turn_kept : (ref : Reference) (made : List ℕ) (delivered : List Delivery) → LaneHolds here there ref made delivered → LaneHolds here_then there_then ref made delivered
  turn_kept ref made delivered (inl elsewhere) = inl (elsewhere_by goes.0 goes.2 ref made elsewhere)
  turn_kept ref made delivered (inr lane) = by (of_lane made (waits_for here.vat call.origin)) refl
    where
      by : (xs : List ℕ) → of_lane made (waits_for here.vat call.origin) ≡ xs → LaneHolds here_then there_then ref made delivered
      by [] is = other_by goes.0 goes.1 goes.2 ref made delivered is (inr lane)
      by (x ∷ xs) is = inr (its_lane ref made (λ empty_. cons_not x xs (sym is ∙ empty_)) delivered lane.phase lane)
