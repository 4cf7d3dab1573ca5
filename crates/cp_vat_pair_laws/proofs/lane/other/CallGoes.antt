-- A Call that the other end takes keeps a lane: one of the lane waits there, or goes back.
use Rattle.std.specs.Prelude.{◌≡◌, ◌⊎◌, refl, ℕ, ◌<◌, ◌==◌, false, List, [], ◌∷◌, ◌++◌, map, flat_map, Option, Some, None, IfSome, Ok}
use Rattle.std.specs.List.{AllByRecursion}
use Rattle.std.specs.FinMap.{get, insert, values, entries}
use Rattle.std.proofs.Common.{arith, inl, inr, ap, subst, sym, ◌∙◌}
use Rattle.std.proofs.lemmas.List.{append-nil}
use Rattle.cp_tables.specs.declared.counted.Counted.{Counted}
use Rattle.cp_tables.specs.declared.exchange.Exchange.{Exchange}
use Rattle.cp_tables.specs.declared.exchange.Stage.{Stage}
use Rattle.cp_tables.specs.declared.exchange.Stage.TheVariants as stages
use Rattle.cp_messages.specs.declared.call.Call.{Call}
use Rattle.cp_messages.specs.declared.promised_answer.Op.TheVariants as ops
use Rattle.cp_messages.specs.declared.target.Target.{Target}
use Rattle.cp_messages.specs.declared.target.Target.TheVariants as targets
use Rattle.cp_messages.specs.declared.message.Message.{Message}
use Rattle.cp_messages.specs.declared.message.Message.TheVariants as messages
use Rattle.cp_refs.specs.At.{cap_at}
use Rattle.cp_refs.specs.Route.{Routes}
use Rattle.cp_refs.specs.declared.cap.Cap.{Cap}
use Rattle.cp_refs.specs.declared.cap.Cap.TheVariants as caps
use Rattle.cp_refs.specs.declared.call.WaitingCall.{WaitingCall}
use Rattle.cp_refs.specs.declared.call.Origin.{Origin}
use Rattle.cp_refs.specs.declared.call.Origin.TheVariants as origins
use Rattle.cp_refs.specs.declared.outcome.Outcome.{Outcome}
use Rattle.cp_refs.specs.declared.outcome.Outcome.TheVariants as outcomes
use Rattle.cp_refs.specs.declared.route.Gate.{Gate}
use Rattle.cp_refs.specs.declared.route.Gate.TheVariants as gates
use Rattle.cp_refs.specs.declared.route.Route.{Route}
use Rattle.cp_refs.specs.declared.route.Route.TheVariants as routes
use Rattle.cp_vat_machine.specs.State.{State}
use Rattle.cp_vat_machine.specs.Then.{Done}
use Rattle.cp_vat_machine.specs.Writing.{ResolvesTo}
use Rattle.cp_vat_machine.specs.Receiving.{unfinished, answer_by, answer_of, path_of}
use Rattle.cp_vat_machine.specs.Answering.{GoToExport, GoToAnswer, GoToTarget}
use Rattle.cp_vat_machine.specs.Calling.{old_target}
use Rattle.cp_vat_machine.specs.Go.{PendingCall, held_at, GoOut, Go, GoTo}
use Rattle.cp_vat_machine.specs.Local.{AreOne}
use Rattle.cp_vat_machine.specs.declared.entry.AnswerEntry.{AnswerEntry}
use Rattle.cp_vat_machine.proofs.Basics.{ok_in, all_back}
use Rattle.cp_vat_laws.proofs.Tables.{every_of, put_cases}
use Rattle.cp_vat_laws.proofs.order.Give.{IsUngiven}
use Rattle.cp_vat_laws.proofs.order.Routes.{one_route}
use Rattle.cp_vat_pair_laws.specs.VatPair.{End, with_mail, messages_sent}
use Rattle.cp_vat_pair_laws.specs.Accounts.{is_finish_noted}
use Rattle.cp_vat_pair_laws.specs.Places.{NoneFinished}
use Rattle.cp_vat_pair_laws.specs.Naming.{place_of, exported_cap, answered_cap}
use Rattle.cp_vat_pair_laws.specs.Lane.{Reference, import_, path_to, cap_of, Delivery, own_ticket, answer_forwarded, stands_for}
use Rattle.cp_vat_pair_laws.specs.Phases.{AllWait, HaveTarget, IsElsewhere, of_lane, sent_for, forwarded_for, waits_for, stands_as, waits, on_way, back_in, sent_in, LeadsBack, HasTarget, NoneHeld, IsOpenPlace, EndsAt, Phase, absent, unopened, unsettled, told, free, marked, embargoed, echoed, local_open, Unsettled, InLane, LaneHolds}
use Rattle.cp_vat_pair_laws.proofs.still.Grows.{PlacesStay}
use Rattle.cp_vat_pair_laws.proofs.lane.parts.Go.{Went, failed_, delivered_, waits_, sent_, go_went}
use Rattle.cp_vat_pair_laws.proofs.lane.parts.Tables.{PlacedIn, put_placed, all_entries, lane_without, lane_last}
use Rattle.cp_vat_pair_laws.proofs.lane.other.NotOfLane.{IsFreshThere}
use Rattle.cp_vat_pair_laws.proofs.lane.Lists.{lane_cons, lane_unmade, none_lane}
use Rattle.cp_vat_pair_laws.proofs.lane.other.Calm.{LevelThere}
use Rattle.cp_vat_pair_laws.proofs.lane.other.NoCallMoves.{part_there}
use Rattle.cp_vat_pair_laws.proofs.lane.other.Places.{comes_routes, place_stays}
use Rattle.cp_vat_pair_laws.proofs.lane.other.Chain.{still_level, forwarded_at, forwards_at, OverStays, IsThere, ends_on, leads_on, hosted_on, closed_on, chain_kept, chain_known}
use Rattle.cp_vat_pair_laws.proofs.lane.other.Give.{NoneLeft, give_chain}
use Rattle.cp_vat_pair_laws.proofs.lane.other.Turn.{elsewhere_part, chain_elsewhere, Steady, go_steady, steady_part, steady_known, out_forwarded, forwards_other, stands_it, held_other}
use Rattle.cp_vat_pair_laws.proofs.lane.other.Phase.{WaitsThere, waits_there, GoesBack, goes_told, goes_marked, goes_embargoed}

-- The lists of a lane that a peer's call in hand isn't of.
module _ (here : End) (old : State) (inbox : List Message) (call : PendingCall) (made : List ℕ) (a : ℕ) (from : call.origin ≡ origins.Answer a)
    (none : of_lane made (waits_for here.vat (origins.Answer a)) ≡ []) (unheld : get old.waiting.calls call.ticket ≡ None)
    (fresh : (q : ℕ) → get old.entries.questions q ≡ None → IsFreshThere here q) where
  abbrev there : End
  there = record { vat = old; inbox = inbox }

  abbrev as_held : Gate → WaitingCall
  as_held gate = record { ticket = call.ticket; origin = call.origin; request = call.request; gate = gate }

  its_none : of_lane made (waits_for here.vat call.origin) ≡ []
  its_none = rw (from) none

  pub hand_level : (done : Done) → Went call old done.0 done.1 → LevelThere here there made done.1 inbox (messages_sent done.0)
  hand_level done (failed_ silent) = still_level here there made done.0 done.1 silent.calls silent.bearing.forwards silent.no_call
  hand_level done (delivered_ k is silent) = still_level here there made done.0 done.1 silent.calls silent.bearing.forwards (rw (is) refl)
  hand_level done (waits_ gate is new) =
      let still = still_level here there made done.0 (record done.1 { waiting = record done.1.waiting { calls = old.waiting.calls } }) refl
      (λ r. ap (λ s. answer_forwarded (get s.entries.questions r)) new) (rw (is) refl) in
      let calls = ap (λ s. s.waiting.calls) new in
      record {
        waiting = ap (λ cs. of_lane made (flat_map (λ c. waits_for here.vat c.origin) (values cs))) calls
            ∙ lane_without made (λ c. waits_for here.vat c.origin) (put_placed old.waiting.calls call.ticket (as_held gate) unheld) its_none;
        calls = λ ticket c at. elim (put_cases old.waiting.calls call.ticket ticket (as_held gate) c (sym (ap (λ cs. get cs ticket) calls) ∙ at)) [
          | inl it ↦ inl (ap (λ (h : WaitingCall). of_lane made (waits_for here.vat h.origin)) (sym it.1) ∙ its_none)
          | inr was ↦ inr was.1
        ];
        forwards = still.forwards;
        held = still.held;
        sends = still.sends;
        taken = inl refl;
      }
  hand_level done (sent_ q target table is calls for_) =
      let opened_ : (get old.entries.questions q ≡ None) × (own_ticket (get done.1.entries.questions q) ≡ []) × (answer_forwarded (get done.1.entries.questions q) ≡ a ∷ [])
      × ((r : ℕ) → (q == r) ≡ false → get done.1.entries.questions r ≡ get old.entries.questions r) = rw from at for_ in
      let new = fresh q opened_.0 in
      record {
        waiting = ap (λ cs. of_lane made (flat_map (λ c. waits_for here.vat c.origin) (values cs))) calls;
        calls = λ ticket c at. inr (sym (ap (λ cs. get cs ticket) calls) ∙ at);
        forwards = forwards_other here.vat old done.1 made q a opened_.2 opened_.3 here.inbox new.on_way;
        held = λ ticket c at before. held_other here.vat old done.1 made q a opened_.2 opened_.3 c.origin (new.held ticket c at) before;
        sends = rw (is) (ap (of_lane made) (stands_it here.vat old done.1 made q a opened_.2 opened_.3) ∙ none, tt);
        taken = inl refl;
      }

-- A peer's call goes from hand, by whatever route, and isn't of the lane.
module _ (here : End) (old final : State) (rest : List Message) (known : IsThere here old final rest) (call : PendingCall) (a : ℕ) (from : call.origin ≡ origins.Answer a)
    (unheld : get old.waiting.calls call.ticket ≡ None) (fresh : (q : ℕ) → get old.entries.questions q ≡ None → IsFreshThere here q) (one : AreOne old) (none : NoneFinished old)
    (left : NoneLeft old) (may : IsUngiven old (origins.Answer a)) (route : Route) (done : Done) (goes : Go old call route (Ok done)) (stay : PlacesStay old done.1)
    (later : PlacesStay done.1 final) where
  abbrev Kept : Type 0
  Kept =
      (ref : Reference) (made : List ℕ) (delivered : List Delivery) → of_lane made (waits_for here.vat (origins.Answer a)) ≡ []
      → LaneHolds here (record { vat = old; inbox = rest }) ref made delivered
      → LaneHolds (with_mail here (messages_sent done.0)) (record { vat = done.1; inbox = rest }) ref made delivered

  abbrev KnownThen : Type 0
  KnownThen = IsThere (with_mail here (messages_sent done.0)) done.1 final rest

  on_steady : Steady old done → Kept × KnownThen
  on_steady steady = (
    λ ref made delivered empty_ lane.
        part_there here (record { vat = old; inbox = rest }) ref made done.1 rest (messages_sent done.0)
        (steady_part here old final rest known done steady stay later ref made (hand_level here old rest call made a from empty_ unheld fresh done (go_went old call route done none goes))) delivered lane,
    steady_known here old final rest known done steady stay later,
  )

  on_route : (r : Route) → route ≡ r → Kept × KnownThen
  on_route (routes.Fail x) is =
      let gives : Go old call (routes.Fail x) (Ok done) = rw is at goes in
      let chain = give_chain old (origins.Answer a) (outcomes.Failed x) done one none left may (rw from at gives) in
      (λ ref made delivered empty_ lane. chain_kept here final rest chain later known ref made delivered lane, chain_known here final rest chain later known)
  on_route (routes.Deliver k) is = on_steady (go_steady old call (routes.Deliver k) done one tt (rw is at goes))
  on_route (routes.Import i) is = on_steady (go_steady old call (routes.Import i) done one tt (rw is at goes))
  on_route (routes.Pipe q path) is = on_steady (go_steady old call (routes.Pipe q path) done one tt (rw is at goes))
  on_route (routes.Wait gate) is = on_steady (go_steady old call (routes.Wait gate) done one tt (rw is at goes))

  pub hand_kept : Kept × KnownThen
  hand_kept = on_route route refl

abbrev first_or : Message → List Message → Message
first_or m [] = m
first_or m (x ∷ xs) = x

-- what a call on a target does
target_goes : (s : State) (call : PendingCall) (target : Target) (done : Done) → GoToTarget s call target (Ok done) → (route : Route) × Go s call route (Ok done)
target_goes s call (targets.ImportedCap e) done goes = by (get s.counts.exports e) goes
  where
    by : (o : Option (Counted Cap)) → GoToExport s call o (Ok done) → (route : Route) × Go s call route (Ok done)
    by None goes = absurd goes
    by (Some entry) goes = (goes.0, goes.2)
target_goes s call (targets.PromisedAnswer answer) done goes = by (answer_of s answer.question_id) goes
  where
    by : (o : Option (Option Outcome)) → GoToAnswer s call answer.question_id (path_of answer.transform) o (Ok done) → (route : Route) × Go s call route (Ok done)
    by None goes = absurd goes
    by (Some None) goes = (routes.Wait (gates.Answer answer.question_id (path_of answer.transform)), goes)
    by (Some (Some outcome)) goes = (goes.0, goes.2)
target_goes s call (targets.Unknown n) done goes = absurd goes

pub call_goes : (s : State) (call : PendingCall) (target : Target) (done : Done) → GoToTarget s call target (Ok done) → (route : Route) × Go s call route (Ok done)
call_goes s call target done goes = target_goes s call target done goes

path_again : (path : List ℕ) → path_of (map (λ field. ops.GetPointerField field) path) ≡ path
path_again [] = refl
path_again (field ∷ path) = ap (λ p. field ∷ p) (path_again path)

-- the answer, where it wasn't finished
answer_there : (o : Option (Exchange AnswerEntry)) (v : Option (Option Outcome)) → IfSome o (λ entry. is_finish_noted entry.stage ≡ false)
    → (answer_by o v ≡ None) ⊎ (answer_by o v ≡ v)
answer_there None v left = inl refl
answer_there (Some entry) v left = by entry.stage left
  where
    by : (stage : Stage) → is_finish_noted stage ≡ false → (unfinished stage v ≡ None) ⊎ (unfinished stage v ≡ v)
    by stages.Open left = inr refl
    by stages.Returned left = inr refl
    by stages.Finished left = inl refl

-- A call on a reference's own target goes by its place there.
module _ (s : State) (left : NoneLeft s) (call : PendingCall) (done : Done) where
  open_promise : (p : ℕ) → get s.values.promises p ≡ Some None → Routes s.values (caps.Promise p) (routes.Wait (gates.Promise p))
  open_promise p is = (1, rw (is) refl)

  waits_at : (ref : Reference) (gate : Gate) → IsOpenPlace s ref gate → GoToTarget s call (old_target (cap_of ref)) (Ok done) → Go s call (routes.Wait gate) (Ok done)
  waits_at (import_ i) gate (p, export_, open_, is) goes =
      let goto : GoTo s call (caps.Promise p) (Ok done) = rw export_.1 at goes in
      let route : goto.0 ≡ routes.Wait gate = one_route s.values (caps.Promise p) goto.0 (routes.Wait (gates.Promise p)) goto.1 (open_promise p open_) ∙ ap (λ g. routes.Wait g) (sym is) in
      rw route at goto.2
  waits_at (path_to q path) gate (open_, is) goes =
      by (answer_there (get s.entries.answers q) (get s.values.answers q) (left q))
    where
      by : (answer_of s q ≡ None) ⊎ (answer_of s q ≡ get s.values.answers q) → Go s call (routes.Wait gate) (Ok done)
      by (inl none) = absurd (subst (λ o. GoToAnswer s call q (path_of (map (λ field. ops.GetPointerField field) path)) o (Ok done)) none goes)
      by (inr same) =
          let go : Go s call (routes.Wait (gates.Answer q (path_of (map (λ field. ops.GetPointerField field) path)))) (Ok done) =
          subst (λ o. GoToAnswer s call q (path_of (map (λ field. ops.GetPointerField field) path)) o (Ok done)) (same ∙ open_) goes in
          subst (λ g. Go s call (routes.Wait g) (Ok done)) (ap (λ p. gates.Answer q p) (path_again path) ∙ sym is) go

  goto_import : (cap : Cap) (e : ℕ) → ResolvesTo s.values cap (caps.Import e) → GoTo s call cap (Ok done) → Go s call (routes.Import e) (Ok done)
  goto_import cap e comes goto =
      let route : goto.0 ≡ routes.Import e = one_route s.values cap goto.0 (routes.Import e) goto.1 (comes_routes s.values cap e comes) in rw route at goto.2

  ends_at : (ref : Reference) (e : ℕ) → EndsAt s (place_of s ref) e → GoToTarget s call (old_target (cap_of ref)) (Ok done) → Go s call (routes.Import e) (Ok done)
  ends_at (import_ i) e at goes = by (get s.counts.exports i) at goes
    where
      by : (o : Option (Counted Cap)) → EndsAt s (exported_cap o) e → GoToExport s call o (Ok done) → Go s call (routes.Import e) (Ok done)
      by None at goes = absurd at
      by (Some entry) at goes = goto_import entry.kept e at goes
  ends_at (path_to q path) e at goes = by (answer_there (get s.entries.answers q) (get s.values.answers q) (left q))
    where
      given_by : (o : Option (Option Outcome)) → EndsAt s (answered_cap path o) e → GoToAnswer s call q (path_of (map (λ field. ops.GetPointerField field) path)) o (Ok done)
          → Go s call (routes.Import e) (Ok done)
      given_by None at goes = absurd at
      given_by (Some None) at goes = absurd at
      given_by (Some (Some outcome)) at goes = goto_import (cap_at outcome path) e at (subst (λ p. GoTo s call (cap_at outcome p) (Ok done)) (path_again path) goes)

      by : (answer_of s q ≡ None) ⊎ (answer_of s q ≡ get s.values.answers q) → Go s call (routes.Import e) (Ok done)
      by (inl none) = absurd (subst (λ o. GoToAnswer s call q (path_of (map (λ field. ops.GetPointerField field) path)) o (Ok done)) none goes)
      by (inr same) =
          given_by (get s.values.answers q) at (subst (λ o. GoToAnswer s call q (path_of (map (λ field. ops.GetPointerField field) path)) o (Ok done)) same goes)

-- A Call of the lane is taken: `old` is the vat before its answer was opened, and `s` after that.
module _ (here : End) (old s : State) (c : Call) (rest : List Message) (call : PendingCall) (from : call.origin ≡ origins.Answer c.question_id)
    (calls : s.waiting.calls ≡ old.waiting.calls) (asked : s.entries.questions ≡ old.entries.questions)
    (opened_stay : PlacesStay old s) (over_stay : OverStays old s) (open_stay : (ref : Reference) (gate : Gate) → IsOpenPlace old ref gate → IsOpenPlace s ref gate)
    (highest : (ticket : ℕ) (held : WaitingCall) → get old.waiting.calls ticket ≡ Some held → ticket < call.ticket)
    (fresh : (q : ℕ) → get s.entries.questions q ≡ None → IsFreshThere here q) (one : AreOne s) (left : NoneLeft s) (done : Done)
    (goes : GoToTarget s call c.target (Ok done)) (stay : PlacesStay s done.1) (ref : Reference) (made : List ℕ) where
  abbrev before_it : End
  before_it = record { vat = old; inbox = messages.Call c ∷ rest }

  abbrev here_then : End
  here_then = with_mail here (messages_sent done.0)

  abbrev after_it : End
  after_it = record { vat = done.1; inbox = rest }

  abbrev ts : List ℕ
  ts = of_lane made (sent_for here.vat (messages.Call c))

  unheld_here : get old.waiting.calls call.ticket ≡ None
  unheld_here = by (get old.waiting.calls call.ticket) refl
    where
      never : (n : ℕ) → n < n → ⊥
      never n less = omega (arith, less)

      by : (o : Option WaitingCall) → get old.waiting.calls call.ticket ≡ o → get old.waiting.calls call.ticket ≡ None
      by None is = is
      by (Some held) is = absurd (never call.ticket (highest call.ticket held is))

  same_forwards : (new : State) → new.entries.questions ≡ s.entries.questions
      → AllByRecursion (λ m. of_lane made (forwarded_for here.vat new m) ≡ of_lane made (forwarded_for here.vat old m)) here.inbox
  same_forwards new same =
      every_of (λ m. of_lane made (forwarded_for here.vat new m) ≡ of_lane made (forwarded_for here.vat old m)) here.inbox
      (λ m. ap (of_lane made) (forwarded_at here.vat old new (λ q. ap (λ t. answer_forwarded (get t q)) (same ∙ asked)) m))

  same_held : (new : State) → new.entries.questions ≡ s.entries.questions → NoneHeld here before_it made → NoneHeld here (record { vat = new; inbox = rest }) made
  same_held new same none ticket held is = by held.origin (none ticket held is)
    where
      by : (origin : Origin) → of_lane made (stands_as here.vat old origin) ≡ [] → of_lane made (stands_as here.vat new origin) ≡ []
      by (origins.Own q) e = e
      by (origins.Answer a) e = ap (of_lane made) (forwards_at here.vat old new (λ q. ap (λ t. answer_forwarded (get t q)) (same ∙ asked)) a) ∙ e

  -- it waits
  call_waits : (p : Unsettled here before_it ref made) → c.target ≡ old_target (cap_of ref)
      → (done.0 ≡ []) × WaitsThere here before_it ref made done.1 rest [] ts p.gate
  call_waits p target =
      let go = waits_at s left call done ref p.gate (open_stay ref p.gate p.open_) (rw target at goes) in
      let is = ok_in _ _ go in
      (ap (λ d. d.0) is, subst (λ d. WaitsThere here before_it ref made d.1 rest [] ts p.gate) (sym is) at_gate)
    where
      held : WaitingCall
      held = record { ticket = call.ticket; origin = call.origin; request = call.request; gate = p.gate }

      new : State
      new = held_at s call p.gate

      put : new.waiting.calls ≡ insert old.waiting.calls call.ticket held
      put = ap (λ cs. insert cs call.ticket held) calls

      placed : PlacedIn (entries old.waiting.calls) (entries (insert old.waiting.calls call.ticket held)) call.ticket held
      placed = put_placed old.waiting.calls call.ticket held unheld_here

      none_after : AllByRecursion (λ e. of_lane made (waits_for here.vat e.1.origin) ≡ []) (put_placed old.waiting.calls call.ticket held unheld_here).back
      none_after = by (put_placed old.waiting.calls call.ticket held unheld_here).back (put_placed old.waiting.calls call.ticket held unheld_here).higher back_all
        where
          back_all : AllByRecursion (λ e. get old.waiting.calls e.0 ≡ Some e.1) (put_placed old.waiting.calls call.ticket held unheld_here).back
          back_all =
              all_back (λ e. get old.waiting.calls e.0 ≡ Some e.1) (put_placed old.waiting.calls call.ticket held unheld_here).front
              (put_placed old.waiting.calls call.ticket held unheld_here).back
              (rw ((put_placed old.waiting.calls call.ticket held unheld_here).without) at (all_entries (λ ticket h. get old.waiting.calls ticket ≡ Some h) old.waiting.calls (λ ticket h is. is)))

          by : (es : List (ℕ × WaitingCall)) → AllByRecursion (λ e. call.ticket < e.0) es → AllByRecursion (λ e. get old.waiting.calls e.0 ≡ Some e.1) es
              → AllByRecursion (λ e. of_lane made (waits_for here.vat e.1.origin) ≡ []) es
          by [] high all = tt
          by (e ∷ es) high all = (absurd (never e.0 call.ticket high.0 (highest e.0 e.1 all.0)), by es high.1 all.1)
            where
              never : (n k : ℕ) → k < n → n < k → ⊥
              never n k less more = omega (arith, less, more)

      at_gate : WaitsThere here before_it ref made new rest [] ts p.gate
      at_gate =
          record {
            x = messages.Call c;
            was = refl;
            bears = refl;
            waiting = ap (λ cs. of_lane made (flat_map (λ h. waits_for here.vat h.origin) (values cs))) put
                ∙ lane_last made (λ h. waits_for here.vat h.origin) (put_placed old.waiting.calls call.ticket held unheld_here) none_after
                ∙ ap (λ o. waits here before_it made ++ of_lane made (waits_for here.vat o)) from;
            calls = λ ticket h at. elim (put_cases old.waiting.calls call.ticket ticket held h (sym (ap (λ cs. get cs ticket) put) ∙ at)) [
              | inl it ↦ inr (inr (ap (λ (x : WaitingCall). x.gate) (sym it.1)))
              | inr was ↦ inr (inl was.1)
            ];
            forwards = same_forwards new refl;
            held = same_held new refl;
            sends = refl;
            open_ = open_by ref (open_stay ref p.gate p.open_);
          }
        where
          open_by : (r : Reference) → IsOpenPlace s r p.gate → IsOpenPlace new r p.gate
          open_by (import_ i) is = is
          open_by (path_to q path) is = is

  -- it goes back
  call_goes_back : (e : ℕ) → EndsAt old (place_of old ref) e → c.target ≡ old_target (cap_of ref) → waits here before_it made ≡ []
      → GoesBack here before_it ref made done.1 rest (messages_sent done.0) ts e
  call_goes_back e at target none_waits =
      let go = ends_at s left call done ref e (ends_on old s opened_stay ref e at) (rw target at goes) in
      let out : GoOut s call (targets.ImportedCap e) (origins.Answer c.question_id) (Ok done) = rw from at go in
      let f = out_forwarded s call (targets.ImportedCap e) c.question_id done out in
      let steady = go_steady s call (routes.Import e) done one tt go in
      let q = f.c.question_id in
      let new = fresh q f.fresh in
      let same_calls : done.1.waiting.calls ≡ old.waiting.calls = f.calls ∙ calls in
      let others : (r : ℕ) → (q == r) ≡ false → get done.1.entries.questions r ≡ get old.entries.questions r = λ r other. f.others r other ∙ ap (λ t. get t r) asked in
      let waits_then : waits here after_it made ≡ waits here before_it made =
      ap (λ cs. of_lane made (flat_map (λ h. waits_for here.vat h.origin) (values cs))) same_calls in
      record {
        taken = inr (messages.Call c, refl, λ n. refl);
        moved =
            ap (λ xs. xs ++ on_way here before_it made) none_waits ∙ lane_cons made (sent_for here.vat) (messages.Call c) rest
            ∙ ap (λ xs. ts ++ (xs ++ on_way here after_it made)) (sym (waits_then ∙ none_waits));
        calls = λ ticket h is. inr (sym (ap (λ cs. get cs ticket) same_calls) ∙ is);
        forwards = forwards_other here.vat old done.1 made q c.question_id f.gives others here.inbox new.on_way;
        held = λ none_ ticket h is. held_other here.vat old done.1 made q c.question_id f.gives others h.origin (new.held ticket h is) (none_ ticket h is);
        bears = ap (back_in here.vat done.1 made) f.sends
            ∙ ap (of_lane made) (append-nil (stands_for here.vat done.1 q) ∙ stands_it here.vat old done.1 made q c.question_id f.gives others);
        goes_ = rw (f.sends) (inr f.to, tt);
        ends = λ is. ends_on s done.1 stay ref e (ends_on old s opened_stay ref e is);
        leads = λ gate is. leads_on s done.1 stay (λ g cap gave_. rw (steady.over) gave_) e gate (leads_on old s opened_stay over_stay e gate is);
        untold = steady.untold ref;
        no_echo = steady.no_echo;
      }

  -- by its phase
  module _ (some : ts ≡ [] → ⊥) (told_rests : (e : ℕ) → AllWait here before_it made (LeadsBack old e) → waits here before_it made ≡ []) where
    not_on_way : {A : Type 0} → on_way here before_it made ≡ [] → A
    not_on_way none = absurd (some (none_lane made (sent_for here.vat) (messages.Call c ∷ rest) none).0)

    its_target : HaveTarget here before_it ref made → c.target ≡ old_target (cap_of ref)
    its_target all = by all.0
      where
        by : ts ≡ [] ⊎ HasTarget ref (messages.Call c) → c.target ≡ old_target (cap_of ref)
        by (inl none) = absurd (some none)
        by (inr is) = is

    unopened_not : {A : Type 0} (before after : List Message) (opening : Message) → messages.Call c ∷ rest ≡ before ++ opening ∷ after
        → sent_in here.vat made (before ++ opening ∷ []) ≡ [] → A
    unopened_not [] after opening is none =
        let same : messages.Call c ≡ opening = ap (λ ms. first_or (messages.Call c) ms) is in
        absurd (some (ap (λ m. of_lane made (sent_for here.vat m)) same ∙ (none_lane made (sent_for here.vat) (opening ∷ []) none).0))
    unopened_not (x ∷ before) after opening is none =
        let same : messages.Call c ≡ x = ap (λ ms. first_or (messages.Call c) ms) is in
        absurd (some (ap (λ m. of_lane made (sent_for here.vat m)) same ∙ (none_lane made (sent_for here.vat) (x ∷ before ++ opening ∷ []) none).0))

    -- The lane holds on.
    pub lane_call : (delivered : List Delivery) → Phase here before_it ref made → InLane here before_it ref made delivered → InLane here_then after_it ref made delivered
    lane_call delivered (absent p) lane = absurd (some (rw (p.unmade) (lane_unmade (sent_for here.vat (messages.Call c)))))
    lane_call delivered (unopened p) lane = unopened_not p.before p.after p.opening p.only.all p.sent_after
    lane_call delivered (unsettled p) lane =
        let moves = call_waits p (its_target lane.targets) in
        waits_there here before_it ref made done.1 rest (messages_sent done.0) ts p
        (subst (λ ms. WaitsThere here before_it ref made done.1 rest ms ts p.gate) (sym (ap messages_sent moves.0)) moves.1) delivered lane
    lane_call delivered (told p) lane =
        goes_told here before_it ref made done.1 rest (messages_sent done.0) ts p.number
        (call_goes_back p.number p.ends (its_target lane.targets) (told_rests p.number p.waiting)) p refl delivered lane
    lane_call delivered (free p) lane = not_on_way p.no_way
    lane_call delivered (marked p) lane =
        goes_marked here before_it ref made done.1 rest (messages_sent done.0) ts p.comes.number
        (call_goes_back p.comes.number p.comes.ends (its_target lane.targets) p.comes.no_waits) p refl delivered lane
    lane_call delivered (embargoed p) lane =
        goes_embargoed here before_it ref made done.1 rest (messages_sent done.0) ts p.comes.number
        (call_goes_back p.comes.number p.comes.ends (its_target lane.targets) p.comes.no_waits) p refl delivered lane
    lane_call delivered (echoed p) lane = not_on_way p.no_way
    lane_call delivered (local_open p) lane = not_on_way p.no_way

-- A reference that is elsewhere stays so, whatever a peer's call in hand does.
module _ (here : End) (old : State) (rest : List Message) (call : PendingCall) (a : ℕ) (from : call.origin ≡ origins.Answer a) (one : AreOne old) (none : NoneFinished old)
    (left : NoneLeft old) (may : IsUngiven old (origins.Answer a)) (route : Route) (done : Done) (goes : Go old call route (Ok done)) (stay : PlacesStay old done.1) where
  abbrev ElsewhereKept : Type 0
  ElsewhereKept =
      (ref : Reference) (made : List ℕ) → IsElsewhere here (record { vat = old; inbox = rest }) ref made
      → IsElsewhere (with_mail here (messages_sent done.0)) (record { vat = done.1; inbox = rest }) ref made

  steady_elsewhere : Steady old done → ElsewhereKept
  steady_elsewhere h ref made elsewhere =
      elsewhere_part here (record { vat = old; inbox = rest }) ref made done.1 rest (messages_sent done.0)
      (place_stays old done.1 ref (messages_sent done.0) h.exports (λ p is. ap (λ x. get x.promises p) h.values_ ∙ is) (λ q is. ap (λ x. get x.answers q) h.values_ ∙ is) (h.untold ref))
      (closed_on old done.1 stay ref) (hosted_on old done.1 stay ref) elsewhere

  elsewhere_route : (r : Route) → route ≡ r → ElsewhereKept
  elsewhere_route (routes.Fail x) is = λ ref made elsewhere.
      let gives : Go old call (routes.Fail x) (Ok done) = rw is at goes in
      chain_elsewhere here rest (give_chain old (origins.Answer a) (outcomes.Failed x) done one none left may (rw from at gives)) ref made elsewhere
  elsewhere_route (routes.Deliver k) is = steady_elsewhere (go_steady old call (routes.Deliver k) done one tt (rw is at goes))
  elsewhere_route (routes.Import i) is = steady_elsewhere (go_steady old call (routes.Import i) done one tt (rw is at goes))
  elsewhere_route (routes.Pipe q path) is = steady_elsewhere (go_steady old call (routes.Pipe q path) done one tt (rw is at goes))
  elsewhere_route (routes.Wait gate) is = steady_elsewhere (go_steady old call (routes.Wait gate) done one tt (rw is at goes))

  pub hand_elsewhere : ElsewhereKept
  hand_elsewhere = elsewhere_route route refl
