-- What the application does at the other end keeps a lane.
use Rattle.std.specs.Prelude.{◌≡◌, refl, ℕ, ◌+◌, ◌<◌, ◌==◌, cond, Bool, true, false, List, [], ◌∷◌, ◌++◌, flat_map, Option, Some, None, is_some, Ok, Err}
use Rattle.std.specs.List.{list_any}
use Rattle.std.specs.FinMap.{get, insert, values, get-empty}
use Rattle.std.specs.Ordering.{nat_cmp}
use Rattle.std.proofs.Common.{arith, inl, inr, ap, sym, ◌∙◌, true≢false}
use Rattle.cp_tables.specs.Exchange.{new_exchange}
use Rattle.cp_tables.specs.declared.exchange.Exchange.{Exchange}
use Rattle.cp_messages.specs.declared.message.Message.{Message}
use Rattle.cp_messages.specs.declared.message.Message.TheVariants as messages
use Rattle.cp_refs.specs.declared.cap.Cap.{Cap}
use Rattle.cp_refs.specs.declared.cap.Cap.TheVariants as caps
use Rattle.cp_refs.specs.declared.call.WaitingCall.{WaitingCall}
use Rattle.cp_refs.specs.declared.call.Origin.{Origin}
use Rattle.cp_refs.specs.declared.call.Origin.TheVariants as origins
use Rattle.cp_refs.specs.declared.call.Request.{Request}
use Rattle.cp_refs.specs.declared.outcome.Outcome.{Outcome}
use Rattle.cp_refs.specs.declared.outcome.Outcome.TheVariants as outcomes
use Rattle.cp_refs.specs.declared.route.Gate.{Gate}
use Rattle.cp_refs.specs.declared.route.Gate.TheVariants as gates
use Rattle.cp_refs.specs.declared.route.Route.{Route}
use Rattle.cp_refs.specs.declared.route.Route.TheVariants as routes
use Rattle.cp_refs.specs.declared.values.QuestionKind.{QuestionKind}
use Rattle.cp_refs.specs.declared.values.QuestionKind.TheVariants as kinds
use Rattle.cp_vat_machine.specs.State.{State, none_over}
use Rattle.cp_vat_machine.specs.Then.{Done}
use Rattle.cp_vat_machine.specs.Capacity.{Fresh}
use Rattle.cp_vat_machine.specs.Calling.{asked, called, own_call, mark_of, with_mark, marked, has_mark_capacity, disembargo_of, FirstEmbargoed, GoBack, GoByValue, GoFrom, plain, on_wire, came_to, reference_of, OwnDone, Opens, call_refusals, DoCall}
use Rattle.cp_vat_machine.specs.Calling as calling
use Rattle.cp_vat_machine.specs.Doing.{awaits, answer_refusals, promise_made, is_made, is_settled, resolve_refusals, value_refusals, Resolves}
use Rattle.cp_vat_machine.specs.Give.{Settle, Give}
use Rattle.cp_vat_machine.specs.InUse.{has_promise}
use Rattle.cp_vat_machine.specs.Step.{Does}
use Rattle.cp_vat_machine.specs.Go.{PendingCall, held_at, Go, GoTo}
use Rattle.cp_vat_machine.specs.Local.{AreOne, Local}
use Rattle.cp_vat_machine.specs.declared.effect.Effect.{Effect}
use Rattle.cp_vat_machine.specs.declared.effect.Effect.TheVariants as effects
use Rattle.cp_vat_machine.specs.declared.entry.QuestionEntry.{QuestionEntry}
use Rattle.cp_vat_machine.specs.declared.event.Event.{Event}
use Rattle.cp_vat_machine.specs.declared.event.Event.TheVariants as events
use Rattle.cp_vat_machine.specs.declared.fault.PeerFault.TheVariants as peer_faults
use Rattle.cp_vat_machine.specs.declared.fault.VatFault.{VatFault}
use Rattle.cp_vat_machine.proofs.Basics.{none_out, ok_in, ok_out, then_out, unless_out, or_full_out, is_equal, is_itself, put_at}
use Rattle.cp_vat_laws.specs.Within.{Within, WaitsFor}
use Rattle.cp_vat_laws.proofs.within.Between.{local_is_within}
use Rattle.cp_vat_laws.proofs.order.Does.{quietly_out, awaited, both_of}
use Rattle.cp_vat_laws.proofs.Tables.{there_of, put_cases, each_put, no_faults, front_empty, back_empty, not_met}
use Rattle.cp_vat_laws.proofs.within.Follows.{none_valued}
use Rattle.cp_vat_laws.proofs.order.Give.{IsUngiven}
use Rattle.cp_vat_pair_laws.specs.VatPair.{End, messages_sent}
use Rattle.cp_vat_pair_laws.specs.Accounts.{is_finish_noted}
use Rattle.cp_vat_pair_laws.specs.Places.{NoneFinished}
use Rattle.cp_vat_pair_laws.specs.Naming.{is_echo}
use Rattle.cp_vat_pair_laws.specs.Lane.{Reference, import_, path_to, own_ticket, answer_forwarded, IsStill}
use Rattle.cp_vat_pair_laws.specs.Phases.{of_lane, waits_for, tells}
use Rattle.cp_vat_pair_laws.proofs.counts.rules.Accounts.{free_out}
use Rattle.cp_vat_pair_laws.proofs.still.Grows.{PlacesStay, places_same}
use Rattle.cp_vat_pair_laws.proofs.still.Go.{go_grows}
use Rattle.cp_vat_pair_laws.proofs.still.Does.{asked_places}
use Rattle.cp_vat_pair_laws.proofs.lane.parts.Silent.{is_call, SameBearing}
use Rattle.cp_vat_pair_laws.proofs.lane.parts.Go.{Went, failed_, delivered_, waits_, sent_, go_went}
use Rattle.cp_vat_pair_laws.proofs.lane.parts.Tables.{put_placed, lane_without}
use Rattle.cp_vat_pair_laws.proofs.lane.other.Calm.{LevelThere}
use Rattle.cp_vat_pair_laws.proofs.lane.other.Places.{place_stays}
use Rattle.cp_vat_pair_laws.proofs.lane.other.Chain.{still_level, KeptThere, Chain, ended, chain_one, chain_both}
use Rattle.cp_vat_pair_laws.proofs.lane.other.Give.{NoneLeft, settle_kept, give_chain}
use Rattle.cp_vat_pair_laws.proofs.lane.other.Turn.{Steady, go_steady}

-- A part that doesn't settle, with its lists.
abbrev pub LevelOf : State → List Effect → State → Type 0
LevelOf old effects new = (here : End) (made : List ℕ) (inbox : List Message) → LevelThere here (record { vat = old; inbox = inbox }) made new inbox (messages_sent effects)

pub steady_kept : (old : State) (done : Done) → Steady old done → LevelOf old done.0 done.1 → PlacesStay old done.1 → KeptThere old done.0 done.1
steady_kept old done h level stay =
    record {
      level = level;
      places = stay;
      place = λ ref. place_stays old done.1 ref (messages_sent done.0) h.exports (λ p is. ap (λ x. get x.promises p) h.values_ ∙ is) (λ a is. ap (λ x. get x.answers a) h.values_ ∙ is)
          (h.untold ref);
      over = λ gate cap is. rw (h.over) is;
      fresh = h.fresh;
      answers = λ q is. sym (ap (λ x. get x.answers q) h.values_) ∙ is;
      no_echo = h.no_echo;
    }

-- a question of the application's is opened
module _ (s : State) (q : ℕ) (kind : QuestionKind) (ticket : Option ℕ) (is_sent : Bool) (fresh : get s.entries.questions q ≡ None) (unvalued : get s.values.questions q ≡ None) where
  asked_forwards : (r : ℕ) (b : Bool) → (q == r) ≡ b
      → answer_forwarded (get (asked s q kind ticket is_sent).entries.questions r) ≡ answer_forwarded (get s.entries.questions r)
  asked_forwards r true t =
      ap answer_forwarded (put_at s.entries.questions q r (new_exchange (record { forwards = None; ticket = ticket; is_sent = is_sent; is_delivered = false; mentions = [] })) true t)
      ∙ sym (ap answer_forwarded (ap (λ n. get s.entries.questions n) (sym (is_equal q r t)) ∙ fresh))
  asked_forwards r false t =
      ap answer_forwarded (put_at s.entries.questions q r (new_exchange (record { forwards = None; ticket = ticket; is_sent = is_sent; is_delivered = false; mentions = [] })) false t)

  pub asked_kept : (effects : List Effect) → list_any is_call (messages_sent effects) ≡ false → ((ref : Reference) → list_any (tells ref) (messages_sent effects) ≡ false)
      → ((n : ℕ) → list_any (is_echo n) (messages_sent effects) ≡ false) → KeptThere s effects (asked s q kind ticket is_sent)
  asked_kept effects no_call untold no_echo =
      record {
        level = λ here made inbox. still_level here (record { vat = s; inbox = inbox }) made effects (asked s q kind ticket is_sent) refl (λ r. asked_forwards r (q == r) refl) no_call;
        places = asked_places s q kind ticket is_sent unvalued;
        place = λ ref. place_stays s (asked s q kind ticket is_sent) ref (messages_sent effects) (λ e c is. is) (λ p is. is) (λ a is. is) (untold ref);
        over = λ gate cap is. is;
        fresh = λ i none. inl none;
        answers = λ r is. is;
        no_echo = no_echo;
      }

  pub called_kept : KeptThere s [] (record (asked s q kind ticket is_sent) { next_ticket = s.next_ticket + 1 })
  called_kept =
      record {
        level = λ here made inbox. still_level here (record { vat = s; inbox = inbox }) made [] (record (asked s q kind ticket is_sent) { next_ticket = s.next_ticket + 1 }) refl (λ r. asked_forwards r (q == r) refl) refl;
        places = record {
          ways = (asked_places s q kind ticket is_sent unvalued).ways;
          answers = (asked_places s q kind ticket is_sent unvalued).answers;
          exports = (asked_places s q kind ticket is_sent unvalued).exports;
          one_export = (asked_places s q kind ticket is_sent unvalued).one_export;
        };
        place = λ ref. place_stays s (record (asked s q kind ticket is_sent) { next_ticket = s.next_ticket + 1 }) ref [] (λ e c is. is) (λ p is. is) (λ a is. is) refl;
        over = λ gate cap is. is;
        fresh = λ i none. inl none;
        answers = λ r is. is;
        no_echo = λ n. refl;
      }

-- its reference is marked
mark_kept : (s : State) (cap : Cap) (embargo : Option ℕ) → KeptThere s [] (with_mark s cap embargo)
mark_kept s (caps.Import i) embargo =
    steady_kept s ([], with_mark s (caps.Import i) embargo)
    (record { values_ = refl; over = refl; exports = λ e c is. is; fresh = λ j none. inl none; untold = λ ref. refl; no_echo = λ n. refl })
    (λ here made inbox. still_level here (record { vat = s; inbox = inbox }) made [] (with_mark s (caps.Import i) embargo) refl (λ q. refl) refl) (places_same refl refl)
mark_kept s (caps.Pipelined p path) embargo =
    steady_kept s ([], with_mark s (caps.Pipelined p path) embargo)
    (record { values_ = refl; over = refl; exports = λ e c is. is; fresh = λ j none. inl none; untold = λ ref. refl; no_echo = λ n. refl })
    (λ here made inbox. still_level here (record { vat = s; inbox = inbox }) made [] (with_mark s (caps.Pipelined p path) embargo) refl (λ q. refl) refl) (places_same refl refl)
mark_kept s caps.None embargo = same_kept s
  where
    same_kept : (s : State) → KeptThere s [] s
    same_kept s =
        steady_kept s ([], s) (record { values_ = refl; over = refl; exports = λ e c is. is; fresh = λ j none. inl none; untold = λ ref. refl; no_echo = λ n. refl })
        (λ here made inbox. still_level here (record { vat = s; inbox = inbox }) made [] s refl (λ q. refl) refl) (places_same refl refl)
mark_kept s (caps.Object k) embargo =
    steady_kept s ([], s) (record { values_ = refl; over = refl; exports = λ e c is. is; fresh = λ j none. inl none; untold = λ ref. refl; no_echo = λ n. refl })
    (λ here made inbox. still_level here (record { vat = s; inbox = inbox }) made [] s refl (λ q. refl) refl) (places_same refl refl)
mark_kept s (caps.Promise p) embargo =
    steady_kept s ([], s) (record { values_ = refl; over = refl; exports = λ e c is. is; fresh = λ j none. inl none; untold = λ ref. refl; no_echo = λ n. refl })
    (λ here made inbox. still_level here (record { vat = s; inbox = inbox }) made [] s refl (λ q. refl) refl) (places_same refl refl)
mark_kept s (caps.Broken x) embargo =
    steady_kept s ([], s) (record { values_ = refl; over = refl; exports = λ e c is. is; fresh = λ j none. inl none; untold = λ ref. refl; no_echo = λ n. refl })
    (λ here made inbox. still_level here (record { vat = s; inbox = inbox }) made [] s refl (λ q. refl) refl) (places_same refl refl)

marked_chain : (s mid : State) (cap : Cap) (mark : Option (Option ℕ)) → Ok mid ≡ marked s cap mark → Chain s [] mid
marked_chain s mid cap (Some embargo) is = rw (ok_in _ _ is) ended
marked_chain s mid cap None is = by (has_mark_capacity s cap) is
  where
    by : (b : Bool) → Ok mid ≡ cond b (Ok (with_mark s cap None)) (Err peer_faults.TableFull) → Chain s [] mid
    by true e = rw (ok_in _ _ e) (chain_one (mark_kept s cap None))
    by false e = ok_out e

-- An own call goes, from hand.
module _ (old : State) (q : ℕ) (call : PendingCall) (from : call.origin ≡ origins.Own q) (gives : answer_forwarded (get old.entries.questions q) ≡ [])
    (unheld : get old.waiting.calls call.ticket ≡ None) where
  held_level : (new : State) (gate : Gate) (effects : List Effect) → new.waiting.calls ≡ (held_at old call gate).waiting.calls
      → ((r : ℕ) → answer_forwarded (get new.entries.questions r) ≡ answer_forwarded (get old.entries.questions r)) → list_any is_call (messages_sent effects) ≡ false
      → LevelOf old effects new
  held_level new gate effects calls forwards no_call here made inbox =
      let there : End = record { vat = old; inbox = inbox } in
      let still = still_level here there made effects (record new { waiting = record new.waiting { calls = old.waiting.calls } }) refl forwards no_call in
      let held : WaitingCall = record { ticket = call.ticket; origin = call.origin; request = call.request; gate = gate } in
      let none : of_lane made (waits_for here.vat call.origin) ≡ [] = rw (from) refl in
      record {
        waiting = ap (λ cs. of_lane made (flat_map (λ c. waits_for here.vat c.origin) (values cs))) calls
            ∙ lane_without made (λ c. waits_for here.vat c.origin) (put_placed old.waiting.calls call.ticket held unheld) none;
        calls = λ ticket c is. elim (put_cases old.waiting.calls call.ticket ticket held c (sym (ap (λ cs. get cs ticket) calls) ∙ is)) [
          | inl it ↦ inl (ap (λ (h : WaitingCall). of_lane made (waits_for here.vat h.origin)) (sym it.1) ∙ none)
          | inr was ↦ inr was.1
        ];
        forwards = still.forwards;
        held = still.held;
        sends = still.sends;
        taken = inl refl;
      }

  went_level : (done : Done) → Went call old done.0 done.1 → LevelOf old done.0 done.1
  went_level done (failed_ silent) here made inbox = still_level here (record { vat = old; inbox = inbox }) made done.0 done.1 silent.calls silent.bearing.forwards silent.no_call
  went_level done (delivered_ k is silent) here made inbox =
      still_level here (record { vat = old; inbox = inbox }) made done.0 done.1 silent.calls silent.bearing.forwards (rw (is) refl)
  went_level done (waits_ gate is new) here made inbox = held_level done.1 gate done.0 (ap (λ s. s.waiting.calls) new) (λ r. ap (λ s. answer_forwarded (get s.entries.questions r)) new) (rw (is) refl) here made inbox
  went_level done (sent_ p target table is calls for_) here made inbox =
      let there : End = record { vat = old; inbox = inbox } in
      let own : (p ≡ q) × SameBearing old done.1 = rw from at for_ in
      let still = still_level here there made [] done.1 calls own.1.forwards refl in
      let none : answer_forwarded (get done.1.entries.questions p) ≡ [] = own.1.forwards p ∙ ap (λ n. answer_forwarded (get old.entries.questions n)) own.0 ∙ gives in
      record {
        waiting = still.waiting;
        calls = still.calls;
        forwards = still.forwards;
        held = still.held;
        sends = rw (is) (ap (λ as_. of_lane made (flat_map (λ question. own_ticket (get here.vat.entries.questions question)) as_)) none, tt);
        taken = inl refl;
      }

  pub own_chain : (route : Route) (done : Done) → AreOne old → NoneFinished old → NoneLeft old → IsUngiven old (origins.Own q) → Go old call route (Ok done)
      → Chain old done.0 done.1
  own_chain (routes.Fail x) done one none left may goes = give_chain old (origins.Own q) (outcomes.Failed x) done one none left may (rw from at goes)
  own_chain (routes.Deliver k) done one none left may goes =
      chain_one (steady_kept old done (go_steady old call (routes.Deliver k) done one tt goes) (went_level done (go_went old call (routes.Deliver k) done none goes)) (go_grows old call (routes.Deliver k) done one tt goes).places)
  own_chain (routes.Import i) done one none left may goes =
      chain_one (steady_kept old done (go_steady old call (routes.Import i) done one tt goes) (went_level done (go_went old call (routes.Import i) done none goes)) (go_grows old call (routes.Import i) done one tt goes).places)
  own_chain (routes.Pipe p path) done one none left may goes =
      chain_one (steady_kept old done (go_steady old call (routes.Pipe p path) done one tt goes) (went_level done (go_went old call (routes.Pipe p path) done none goes)) (go_grows old call (routes.Pipe p path) done one tt goes).places)
  own_chain (routes.Wait gate) done one none left may goes =
      chain_one (steady_kept old done (go_steady old call (routes.Wait gate) done one tt goes) (went_level done (go_went old call (routes.Wait gate) done none goes)) (go_grows old call (routes.Wait gate) done one tt goes).places)

  embargo_untold : (n : ℕ) (cap : Cap) (ref : Reference) → list_any (tells ref) (messages_sent (disembargo_of n cap ∷ [])) ≡ false
  embargo_untold n cap (import_ i) = refl
  embargo_untold n cap (path_to p path) = refl

  embargo_kept : (cap : Cap) (n : ℕ) (mid : State) → mid.values ≡ old.values → mid.waiting ≡ old.waiting → mid.counts ≡ old.counts → mid.entries ≡ old.entries
      → KeptThere old (disembargo_of n cap ∷ []) (held_at mid call (gates.Embargo n))
  embargo_kept cap n mid same waiting counts entries =
      steady_kept old (disembargo_of n cap ∷ [], held_at mid call (gates.Embargo n))
      (record {
        values_ = same;
        over = ap (λ x. x.over) waiting;
        exports = λ e c is. (is.0, ap (λ x. get x.exports e) counts ∙ is.1);
        fresh = λ i none. inl (ap (λ x. get x.exports i) counts ∙ none);
        untold = embargo_untold n cap;
        no_echo = λ m. refl;
      })
      (held_level (held_at mid call (gates.Embargo n)) (gates.Embargo n) (disembargo_of n cap ∷ [])
      (ap (λ x. insert x.calls call.ticket (record { ticket = call.ticket; origin = call.origin; request = call.request; gate = gates.Embargo n })) waiting)
      (λ r. ap (λ x. answer_forwarded (get x.questions r)) entries) refl)
      (places_same same (ap (λ x. x.exports) counts))

  embargo_by : (cap : Cap) (n : ℕ) (value : Cap) → Chain old (disembargo_of n cap ∷ [])
      (held_at (with_mark (record old { marks = record old.marks { embargoes = insert old.marks.embargoes n value } }) cap (Some n)) call (gates.Embargo n))
  embargo_by (caps.Import i) n value = chain_one (embargo_kept (caps.Import i) n (with_mark (record old { marks = record old.marks { embargoes = insert old.marks.embargoes n value } }) (caps.Import i) (Some n)) refl refl refl refl)
  embargo_by (caps.Pipelined p path) n value =
      chain_one (embargo_kept (caps.Pipelined p path) n (with_mark (record old { marks = record old.marks { embargoes = insert old.marks.embargoes n value } }) (caps.Pipelined p path) (Some n)) refl refl refl refl)
  embargo_by caps.None n value = chain_one (embargo_kept caps.None n (record old { marks = record old.marks { embargoes = insert old.marks.embargoes n value } }) refl refl refl refl)
  embargo_by (caps.Object k) n value = chain_one (embargo_kept (caps.Object k) n (record old { marks = record old.marks { embargoes = insert old.marks.embargoes n value } }) refl refl refl refl)
  embargo_by (caps.Promise r) n value = chain_one (embargo_kept (caps.Promise r) n (record old { marks = record old.marks { embargoes = insert old.marks.embargoes n value } }) refl refl refl refl)
  embargo_by (caps.Broken x) n value = chain_one (embargo_kept (caps.Broken x) n (record old { marks = record old.marks { embargoes = insert old.marks.embargoes n value } }) refl refl refl refl)

  embargoed_chain : (cap value : Cap) (done : Done) → FirstEmbargoed old call cap value (Ok done) → Chain old done.0 done.1
  embargoed_chain cap value done goes =
      let parts = then_out {A = ℕ} {B = Done} (Fresh old.marks.embargoes) _ done goes in rw (ok_in _ _ parts.2) (embargo_by cap parts.0 value)

  module _ (one : AreOne old) (none : NoneFinished old) (left : NoneLeft old) (may : IsUngiven old (origins.Own q)) where
    goes_chain : (cap : Cap) (done : Done) → GoTo old call cap (Ok done) → Chain old done.0 done.1
    goes_chain cap done goes = own_chain goes.0 done one none left may goes.2

    back_chain : (cap value : Cap) (mark : Option (Option ℕ)) (done : Done) → GoBack old call cap value mark (Ok done) → Chain old done.0 done.1
    back_chain cap value None done goes = goes_chain value done goes
    back_chain cap value (Some None) done goes = embargoed_chain cap value done goes
    back_chain cap value (Some (Some n)) done goes = own_chain (routes.Wait (gates.Embargo n)) done one none left may goes

-- The application calls.
marked_as : (s mid : State) (cap : Cap) (mark : Option (Option ℕ)) → Ok mid ≡ marked s cap mark
    → (mid.values ≡ s.values) × (mid.waiting ≡ s.waiting) × (mid.counts ≡ s.counts) × (mid.entries ≡ s.entries)
marked_as s mid cap (Some embargo) is = rw (ok_in _ _ is) (refl, refl, refl, refl)
marked_as s mid cap None is = by (has_mark_capacity s cap) is
  where
    at : (cap : Cap) → ((with_mark s cap None).values ≡ s.values) × ((with_mark s cap None).waiting ≡ s.waiting) × ((with_mark s cap None).counts ≡ s.counts)
        × ((with_mark s cap None).entries ≡ s.entries)
    at caps.None = (refl, refl, refl, refl)
    at (caps.Object k) = (refl, refl, refl, refl)
    at (caps.Promise p) = (refl, refl, refl, refl)
    at (caps.Import i) = (refl, refl, refl, refl)
    at (caps.Pipelined p path) = (refl, refl, refl, refl)
    at (caps.Broken x) = (refl, refl, refl, refl)

    by : (b : Bool) → Ok mid ≡ cond b (Ok (with_mark s cap None)) (Err peer_faults.TableFull)
        → (mid.values ≡ s.values) × (mid.waiting ≡ s.waiting) × (mid.counts ≡ s.counts) × (mid.entries ≡ s.entries)
    by true e = rw (ok_in _ _ e) (at cap)
    by false e = ok_out e

module _ (s : State) (w : Within s None []) (none_over_ : s.waiting.over ≡ none_over) (none : NoneFinished s) (left : NoneLeft s) (q : ℕ) (fresh : get s.entries.questions q ≡ None)
    (request : Request) where
  unheld : get s.waiting.calls s.next_ticket ≡ None
  unheld = by (get s.waiting.calls s.next_ticket) refl
    where
      by : (o : Option WaitingCall) → get s.waiting.calls s.next_ticket ≡ o → get s.waiting.calls s.next_ticket ≡ None
      by None is = is
      by (Some call) is =
          let waits = there_of (WaitsFor s s.next_ticket) (get s.waiting.calls s.next_ticket) call is (w.waiting s.next_ticket) in absurd (never s.next_ticket waits.1)
        where
          never : (n : ℕ) → n < n → ⊥
          never n less = omega (arith, less)

  unvalued : get s.values.questions q ≡ None
  unvalued = none_valued w q fresh

  module _ (kind : QuestionKind) where
    abbrev at : State
    at = called s q kind

    at_gives : (mid : State) → mid.entries ≡ at.entries → answer_forwarded (get mid.entries.questions q) ≡ []
    at_gives mid same =
        ap (λ x. answer_forwarded (get x.questions q)) same
        ∙ ap answer_forwarded (put_at s.entries.questions q q (new_exchange (record { forwards = None; ticket = Some s.next_ticket; is_sent = false; is_delivered = false; mentions = [] })) true (is_itself q))

    at_none : (mid : State) → mid.entries ≡ at.entries → NoneFinished mid
    at_none mid same =
        rw
        (same)
        (each_put (λ r (x : Exchange QuestionEntry). is_finish_noted x.stage ≡ false) (λ r (x : Exchange QuestionEntry). is_finish_noted x.stage ≡ false) s.entries.questions q _ none refl
        (λ r x other is not. not))

    at_may : (mid : State) → mid.values ≡ at.values → mid.waiting ≡ at.waiting → IsUngiven mid (origins.Own q)
    at_may mid same waiting = (
      record { kind = kind; outcome = None },
      ap (λ x. get x.questions q) same ∙ put_at s.values.questions q q (record { kind = kind; outcome = None }) true (is_itself q),
      refl,
      ap (λ x. get x.over.questions q) waiting ∙ ap (λ x. get x.questions q) none_over_ ∙ get-empty nat_cmp q,
    )

    start : Chain s [] at
    start = chain_one (called_kept s q kind (Some s.next_ticket) false fresh unvalued)

    go_at : (route : Route) (done : Done) → Go at (own_call s q request) route (Ok done) → Chain s done.0 done.1
    go_at route done goes =
        chain_both start (own_chain at q (own_call s q request) refl (at_gives at refl) unheld route done w.one_export (at_none at refl) left (at_may at refl refl) goes)

    goes_at : (cap : Cap) (done : Done) → GoTo at (own_call s q request) cap (Ok done) → Chain s done.0 done.1
    goes_at cap done goes = go_at goes.0 done goes.2

    back_at : (cap value : Cap) (mark : Option (Option ℕ)) (done : Done) → GoBack at (own_call s q request) cap value mark (Ok done) → Chain s done.0 done.1
    back_at cap value mark done goes =
        chain_both start (back_chain at q (own_call s q request) refl (at_gives at refl) unheld w.one_export (at_none at refl) left (at_may at refl refl) cap value mark done goes)

    wired_at : (cap : Cap) (mid : State) (done : Done) → Ok mid ≡ marked at cap (mark_of s cap) → GoTo mid (own_call s q request) cap (Ok done) → Chain s done.0 done.1
    wired_at cap mid done marks goes =
        let same = marked_as at mid cap (mark_of s cap) marks in
        chain_both start
        (chain_both (marked_chain at mid cap (mark_of s cap) marks)
        (own_chain mid q (own_call s q request) refl (at_gives mid same.3) (ap (λ x. get x.calls s.next_ticket) same.1 ∙ unheld) goes.0 done (one_of mid same.2) (at_none mid same.3) (left_of mid same.3)
        (at_may mid same.0 same.1) goes.2))
      where
        one_of : (mid : State) → mid.counts ≡ at.counts → AreOne mid
        one_of mid same = rw (same) w.one_export

        left_of : (mid : State) → mid.entries ≡ at.entries → NoneLeft mid
        left_of mid same = rw (same) left

  by_value : (cap value : Cap) (done : Done) → GoByValue s q request cap value (Ok done) → Chain s done.0 done.1
  by_value cap (caps.Import j) done goes = go_at kinds.Wire (routes.Import j) done goes
  by_value cap (caps.Object k) done goes = back_at kinds.Local cap (caps.Object k) (mark_of s cap) done goes
  by_value cap (caps.Promise p) done goes = back_at kinds.Local cap (caps.Promise p) (mark_of s cap) done goes
  by_value cap caps.None done goes = goes_at kinds.Local caps.None done goes
  by_value cap (caps.Pipelined p path) done goes = goes_at kinds.Local (caps.Pipelined p path) done goes
  by_value cap (caps.Broken x) done goes = goes_at kinds.Local (caps.Broken x) done goes

  pub from_chain : (cap : Cap) (ref : calling.Standing) (done : Done) → GoFrom s q request cap ref (Ok done) → Chain s done.0 done.1
  from_chain cap plain done goes = goes_at kinds.Local cap done goes
  from_chain cap on_wire done goes =
      let parts = then_out {A = State} {B = Done} (λ mid. mid ≡ marked (called s q kinds.Wire) cap (mark_of s cap)) _ done goes in wired_at kinds.Wire cap parts.0 done parts.1 parts.2
  from_chain cap (came_to value) done goes = by_value cap value done goes

first_empty : {X : Type 0} (a b c d e : List X) → a ++ b ++ c ++ d ++ e ≡ [] → a ≡ []
first_empty a b c d e is = front_empty a b (front_empty (a ++ b) c (front_empty (a ++ b ++ c) d (front_empty (a ++ b ++ c ++ d) e is)))

awaits_of : (s : State) (origin : Origin) (outcome : Outcome) → answer_refusals s origin outcome ≡ [] → awaits s origin ≡ true
awaits_of s origin outcome fine = both_of (awaits s origin) _ (not_met _ _ (first_empty _ _ _ _ _ fine))

unsettled_by : (o : Option (Option Cap)) → is_settled o ≡ false → is_some o ≡ true → o ≡ Some None
unsettled_by None e some = absurd (true≢false (sym some))
unsettled_by (Some None) e some = refl
unsettled_by (Some (Some v)) e some = absurd (true≢false e)

-- a promise is made
promise_kept : (s : State) (p : ℕ) → get s.values.promises p ≡ None → KeptThere s [] (promise_made s p)
promise_kept s p fresh =
    record {
      level = λ here made inbox. still_level here (record { vat = s; inbox = inbox }) made [] (promise_made s p) refl (λ q. refl) refl;
      places =
          record {
            ways = record { promises = λ r v is. stay r v (p == r) refl is; questions = λ q question o is given_. is };
            answers = λ a o is. is;
            exports = λ e c is. is;
            one_export = λ is. is;
          };
      place = λ ref. place_stays s (promise_made s p) ref [] (λ e c is. is) (λ r is. open_on r (p == r) refl is) (λ a is. is) refl;
      over = λ gate cap is. is;
      fresh = λ i none. inl none;
      answers = λ q is. is;
      no_echo = λ n. refl;
    }
  where
    stay : (r : ℕ) (v : Cap) (b : Bool) → (p == r) ≡ b → get s.values.promises r ≡ Some (Some v) → get (insert s.values.promises p None) r ≡ Some (Some v)
    stay r v true t is = none_out (sym fresh ∙ ap (λ n. get s.values.promises n) (is_equal p r t) ∙ is)
    stay r v false t is = put_at s.values.promises p r None false t ∙ is

    open_on : (r : ℕ) (b : Bool) → (p == r) ≡ b → get s.values.promises r ≡ Some None → get (insert s.values.promises p None) r ≡ Some None
    open_on r true t is = put_at s.values.promises p r None true t
    open_on r false t is = put_at s.values.promises p r None false t ∙ is

-- Whatever the application does, but finish, release or forget.
boot_untold : (q : ℕ) (ref : Reference) → list_any (tells ref) (messages.Bootstrap (record { question_id = q }) ∷ []) ≡ false
boot_untold q (import_ i) = refl
boot_untold q (path_to p path) = refl

module _ (s : State) (local_ : Local s) (none : NoneFinished s) (left : NoneLeft s) where
  w : Within s None []
  w = local_is_within s local_

  pub does_chain : (event : Event) (done : OwnDone) → IsStill event → Does s event (Ok done) → Chain s done.1 done.2
  does_chain (events.Receive m) done still does = absurd does
  does_chain events.Bootstrap done still does =
      let parts = then_out {A = ℕ} {B = OwnDone} (Fresh s.entries.questions) _ done (or_full_out _ _ does) in
      let fresh = free_out s.entries.questions parts.0 parts.1 in
      rw
      (ok_in _ _ parts.2)
      (chain_one
      (asked_kept s parts.0 kinds.Wire None true fresh (none_valued w parts.0 fresh) (effects.Send (messages.Bootstrap (record { question_id = parts.0 })) ∷ []) refl (boot_untold parts.0)
      (λ n. refl)))
  does_chain (events.Call cap request) done still does =
      let opens = or_full_out _ _ (unless_out {A = OwnDone} {F = VatFault} (call_refusals s cap request) _ done does) in
      let first = then_out {A = ℕ} {B = OwnDone} (Fresh s.entries.questions) _ done opens in
      let goes = then_out {A = Done} {B = OwnDone} (GoFrom s first.0 request cap (reference_of s.values cap)) _ done first.2 in
      rw
      (ok_in _ _ goes.2)
      (from_chain s w local_.none_over_ none left first.0 (free_out s.entries.questions first.0 first.1) request cap (reference_of s.values cap) goes.0 goes.1)
  does_chain (events.Answer origin outcome) done still does =
      let fine = no_faults (answer_refusals s origin outcome) _ done does in
      let parts = quietly_out (Give s origin outcome) done (unless_out (answer_refusals s origin outcome) _ done does) in
      rw (parts.2) (give_chain s origin outcome parts.0 w.one_export none left (awaited s origin w (awaits_of s origin outcome fine)) parts.1)
  does_chain events.Promise done still does =
      let parts = then_out {A = ℕ} {B = OwnDone} (Fresh s.values.promises) _ done (or_full_out _ _ does) in
      rw (ok_in _ _ parts.2) (chain_one (promise_kept s parts.0 (free_out s.values.promises parts.0 parts.1)))
  does_chain (events.Resolve p cap) done still does =
      let fine = no_faults (resolve_refusals s p cap) _ done does in
      by fine (unless_out (resolve_refusals s p cap) _ done does)
    where
      by : resolve_refusals s p cap ≡ [] → Resolves s p cap (Ok done) → Chain s done.1 done.2
      by fine (inl (cycle, is)) = ok_out is
      by fine (inr (acyclic, rule)) =
          let parts = quietly_out (Settle s p cap) done (unless_out (value_refusals s cap) _ done rule) in
          let made_here = both_of (is_made s p) (has_promise s cap) (not_met _ _ (back_empty _ _ (front_empty _ _ fine))) in
          let open_ = unsettled_by (get s.values.promises p) (not_met _ _ (back_empty _ _ fine)) (local_.owned p made_here) in
          rw (parts.2) (chain_one (settle_kept s p cap parts.0 w.one_export open_ (ap (λ x. get x.promises p) local_.none_over_ ∙ get-empty nat_cmp p) parts.1))
  does_chain (events.Finish q) done still does = absurd still
  does_chain (events.Release i) done still does = absurd still
  does_chain (events.Forget p) done still does = absurd still
  does_chain events.Idle done still does = rw (ok_in _ _ does) ended
