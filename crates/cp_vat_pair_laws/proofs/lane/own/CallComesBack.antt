-- A Call that comes to the lane's own end keeps each lane: one of the lane that comes back is delivered at once, at the object that its reference came to.
use Rattle.std.specs.Prelude.{◌≡◌, ◌⊎◌, refl, ℕ, ◌<◌, Bool, true, false, List, [], ◌∷◌, ◌++◌, map, flat_map, Option, Some, None, Ok}
use Rattle.std.specs.List.{AllByRecursion}
use Rattle.std.specs.FinMap.{get, values, get-empty}
use Rattle.std.specs.Ordering.{nat_cmp}
use Rattle.std.proofs.Common.{inl, inr, arith, ap, subst, sym, ◌∙◌, append-nil}
use Rattle.cp_messages.specs.declared.call.Call.{Call}
use Rattle.cp_messages.specs.declared.message.Message.{Message}
use Rattle.cp_messages.specs.declared.message.Message.TheVariants as messages
use Rattle.cp_messages.specs.declared.target.Target.TheVariants as targets
use Rattle.cp_refs.specs.declared.cap.Cap.{Cap}
use Rattle.cp_refs.specs.declared.cap.Cap.TheVariants as caps
use Rattle.cp_refs.specs.declared.call.WaitingCall.{WaitingCall}
use Rattle.cp_refs.specs.declared.call.Origin.TheVariants as origins
use Rattle.cp_refs.specs.declared.outcome.Outcome.{Outcome}
use Rattle.cp_refs.specs.declared.route.Route.{Route}
use Rattle.cp_refs.specs.declared.route.Route.TheVariants as routes
use Rattle.cp_vat_machine.specs.State.{State, none_over}
use Rattle.cp_vat_machine.specs.Then.{Done}
use Rattle.cp_vat_machine.specs.Writing.{IsExport}
use Rattle.cp_vat_machine.specs.Receiving.{ReceivesCaps}
use Rattle.cp_vat_machine.specs.Answering.{GoToTarget, peer_call, entered, call_faults, OnCall}
use Rattle.cp_vat_machine.specs.Go as going
use Rattle.cp_vat_machine.specs.Go.{PendingCall, Go, GoTo}
use Rattle.cp_vat_machine.specs.Local.{Local}
use Rattle.cp_vat_machine.specs.declared.effect.Effect.{Effect}
use Rattle.cp_vat_machine.specs.declared.effect.Effect.TheVariants as effects
use Rattle.cp_vat_machine.specs.declared.fault.PeerFault.{PeerFault}
use Rattle.cp_vat_machine.proofs.Basics.{ok_in, then_out, unless_out}
use Rattle.cp_vat_laws.specs.Within.{Within, WaitsFor}
use Rattle.cp_vat_laws.proofs.within.Between.{local_is_within}
use Rattle.cp_vat_laws.proofs.order.Routes.{one_route}
use Rattle.cp_vat_laws.proofs.Tables.{there_of}
use Rattle.cp_vat_laws.proofs.within.Take.{Grows, take_all_keeps}
use Rattle.cp_vat_pair_laws.specs.Accounts.{accounts_of}
use Rattle.cp_vat_pair_laws.specs.Lives.{Agree}
use Rattle.cp_vat_pair_laws.specs.VatPair.{End, messages_sent, with_mail}
use Rattle.cp_vat_pair_laws.specs.Lane.{Reference, import_, path_to, CameTo, own_ticket, answer_forwarded, stands_for, is_among, Delivery, delivered_among, tickets_of}
use Rattle.cp_vat_pair_laws.specs.Phases.{of_lane, forwarded_for, waits_as, back, back_in, waits_here, IsOnly, GoesTo, tells, told_by, IsYet, Phase, absent, unopened, unsettled, told, free, marked, embargoed, echoed, local_open, IsElsewhere, came_to_other, told_other, hosted_there, InLane, LaneHolds}
use Rattle.cp_vat_pair_laws.specs.Places.{NoneFinished}
use Rattle.cp_vat_pair_laws.proofs.lane.Lists.{lane_unmade, none_lane}
use Rattle.cp_vat_pair_laws.proofs.lane.Calm.{only_taken, any_taken}
use Rattle.cp_vat_pair_laws.proofs.lane.own.Calm.{IsApartHere, other_on}
use Rattle.cp_vat_pair_laws.proofs.lane.own.Phase.{Delivers, back_marked, back_embargoed, back_echoed}
use Rattle.cp_vat_pair_laws.proofs.still.Go.{MayFail, go_grows}
use Rattle.cp_vat_pair_laws.proofs.still.Does.{fresh_value}
use Rattle.cp_vat_pair_laws.proofs.still.Receives.{opened_may}
use Rattle.cp_vat_pair_laws.proofs.lane.parts.Silent.{Silent, bearing_same, delivered_silent}
use Rattle.cp_vat_pair_laws.proofs.lane.parts.Go.{Went, go_went}
use Rattle.cp_vat_pair_laws.proofs.lane.own.NotOfLane.{silent_here, stands_on}
use Rattle.cp_vat_pair_laws.proofs.lane.parts.Calm.{Calm, none_open_over}
use Rattle.cp_vat_pair_laws.proofs.lane.own.Reference.{RefCalm, ref_calm}
use Rattle.cp_vat_pair_laws.proofs.lane.own.Turn.{lane_delivered}
use Rattle.cp_vat_pair_laws.proofs.lane.own.NoCallMoves.{level_lane}
use Rattle.cp_vat_pair_laws.proofs.lane.other.Take.{nothing_sent}
use Rattle.cp_vat_pair_laws.proofs.lane.own.Take.{take_all_back, take_lane}
use Rattle.cp_vat_pair_laws.proofs.lane.other.CallGoes.{call_goes}
use Rattle.cp_vat_pair_laws.proofs.lane.own.CallOfNone.{hand_here, hand_delivers, hand_calm}
use Rattle.cp_vat_pair_laws.proofs.counts.rules.Take.{take_all_in}

-- what is delivered of a lane, where calls go to one object
abbrev delivered_at : ℕ → List ℕ → List Delivery
delivered_at k ts = map (λ own. record { ticket = own; object = k }) ts

among_at : (made : List ℕ) (k : ℕ) (ts : List ℕ) → delivered_among made (delivered_at k ts) ≡ delivered_at k (of_lane made ts)
among_at made k [] = refl
among_at made k (t ∷ ts) = by (is_among t made) refl (among_at made k ts)
  where
    by : (b : Bool) → is_among t made ≡ b → delivered_among made (delivered_at k ts) ≡ delivered_at k (of_lane made ts)
        → delivered_among made (delivered_at k (t ∷ ts)) ≡ delivered_at k (of_lane made (t ∷ ts))
    by true is more = rw (is) (ap (λ ds. record { ticket = t; object = k } ∷ ds) more)
    by false is more = rw (is) more

tickets_at : (k : ℕ) (ts : List ℕ) → tickets_of (delivered_at k ts) ≡ ts
tickets_at k [] = refl
tickets_at k (t ∷ ts) = ap (λ xs. t ∷ xs) (tickets_at k ts)

objects_at : (k : ℕ) (ts : List ℕ) → AllByRecursion (λ delivery. delivery.object ≡ k) (delivered_at k ts)
objects_at k [] = tt
objects_at k (t ∷ ts) = (refl, objects_at k ts)

-- A reference that is elsewhere stays so, whatever call comes.
module _ (here there : End) (ref : Reference) (made : List ℕ) (x : Message) (rest : List Message) (was : here.inbox ≡ x ∷ rest) (not_ : tells ref x ≡ false) (mid : State)
    (effects : List Effect) (refs : RefCalm here.vat effects mid ref) (exports : (e : ℕ) (cap : Cap) → IsExport here.vat e cap → IsExport mid e cap) where
  abbrev heard_end : End
  heard_end = record { vat = mid; inbox = rest }

  abbrev theard_end : End
  theard_end = with_mail there (messages_sent effects)

  yet_on : IsYet here.vat ref made → IsYet mid ref made
  yet_on (inl open_) = inl (refs.same ∙ open_)
  yet_on (inr unheld) = inr (refs.unheld made unheld)

  pub elsewhere_heard : IsElsewhere here there ref made → IsElsewhere heard_end theard_end ref made
  elsewhere_heard (came_to_other p) = came_to_other (p.0, refs.same ∙ p.1, p.2)
  elsewhere_heard (told_other p) =
      let taken = only_taken x rest (tells ref) p.before p.telling p.after (rw was at p.only) not_ in
      told_other
      (record {
        yet = yet_on p.yet;
        closed = p.closed;
        before = taken.left;
        telling = p.telling;
        after = p.after;
        only = taken.only;
        says = other_on here.vat mid exports (told_by ref p.telling) p.says;
      })
  elsewhere_heard (hosted_there p) = hosted_there (record { yet = yet_on p.yet; hosted = p.hosted; untold = any_taken (tells ref) x rest (rw was at p.untold) })

-- The call is in hand, with an answer and a ticket: `old` is the vat before the event, and `s` after that.
module _ (old s : State) (c : Call) (rest : List Message) (there : End) (ref : Reference) (made : List ℕ) (call : PendingCall) (from : call.origin ≡ origins.Answer c.question_id)
    (asked : s.entries.questions ≡ old.entries.questions) (unheld : get s.waiting.calls call.ticket ≡ None) (done : Done) (went : Went call s done.0 done.1)
    (calm : Calm s done.0 done.1) (exports : (e : ℕ) (cap : Cap) → IsExport s e cap → IsExport done.1 e cap) (goes : GoToTarget s call c.target (Ok done)) where
  abbrev it : Message
  it = messages.Call c

  abbrev here : End
  here = record { vat = s; inbox = it ∷ rest }

  abbrev here_then : End
  here_then = record { vat = done.1; inbox = rest }

  abbrev there_then : End
  there_then = with_mail there (messages_sent done.0)

  abbrev ds : List Delivery
  ds = lane_delivered old there.vat made done.0

  abbrev ts : List ℕ
  ts = of_lane made (stands_for s there.vat c.question_id)

  refs : RefCalm s done.0 done.1 ref
  refs = ref_calm ref calm

  tells_none : tells ref it ≡ false
  tells_none = by ref
    where
      by : (r : Reference) → tells r it ≡ false
      by (import_ i) = refl
      by (path_to q path) = refl

  same_stands : stands_for s there.vat c.question_id ≡ stands_for old there.vat c.question_id
  same_stands = ap (λ qs. flat_map (λ question. own_ticket (get qs question)) (answer_forwarded (get there.vat.entries.questions c.question_id))) asked

  -- it isn't of the lane
  outside : ts ≡ [] → (delivered : List Delivery) → LaneHolds here there ref made delivered → LaneHolds here_then there_then ref made (delivered ++ ds)
  outside none delivered holds =
      let apart : IsApartHere here there ref made it = record { back_ = none; tell = tells_none; echo = λ n is. refl } in
      let level = hand_here here there made call c.question_id from none unheld rest (inr (it, refl, none)) done.1 done.0 went in
      let nothing = hand_delivers here there made call c.question_id from none unheld rest (inr (it, refl, none)) old (ap (of_lane made) (sym same_stands) ∙ none) done.1 done.0 went in
      rw
      (nothing, append-nil delivered)
      (level_lane here there ref made done.1 rest done.0 level refs exports (inr (it, refl, apart)) delivered holds)

  -- it is: those that come back go to the object's export
  module _ (some : ts ≡ [] → ⊥) where
    not_back : {A : Type 0} → back here there made ≡ [] → A
    not_back none = absurd (some (none_lane made (forwarded_for s there.vat) (it ∷ rest) none).0)

    -- it goes to its object
    module _ (k : ℕ) (came : CameTo s ref (caps.Object k)) (e : ℕ) (is_export : IsExport s e (caps.Object k)) (to : ts ≡ [] ⊎ GoesTo e it) where
      its_target : c.target ≡ targets.ImportedCap e
      its_target = by to
        where
          by : ts ≡ [] ⊎ GoesTo e it → c.target ≡ targets.ImportedCap e
          by (inl none) = absurd (some none)
          by (inr is) = is

      done_is : done ≡ (effects.Deliver k call.origin call.ticket call.request ∷ [], going.delivered s call.origin)
      done_is =
          let at_target : GoToTarget s call (targets.ImportedCap e) (Ok done) = rw its_target at goes in
          let goto : GoTo s call (caps.Object k) (Ok done) = rw is_export.1 at at_target in
          let route : goto.0 ≡ routes.Deliver k = one_route s.values (caps.Object k) goto.0 (routes.Deliver k) goto.1 (1, refl) in
          let go : Go s call (routes.Deliver k) (Ok done) = rw route at goto.2 in
          ok_in _ _ go

      first_is : done.0 ≡ effects.Deliver k call.origin call.ticket call.request ∷ []
      first_is = ap (λ (d : Done). d.0) done_is

      silent : Silent s [] done.1
      silent = rw (ap (λ (d : Done). d.1) done_is) (delivered_silent s call.origin)

      ds_is : ds ≡ delivered_at k ts
      ds_is =
          ap (lane_delivered old there.vat made) first_is
          ∙ ap (λ o. lane_delivered old there.vat made (effects.Deliver k o call.ticket call.request ∷ [])) from
          ∙ ap (delivered_among made) (append-nil (delivered_at k (stands_for old there.vat c.question_id)))
          ∙ ap (λ xs. delivered_among made (delivered_at k xs)) (sym same_stands) ∙ among_at made k (stands_for s there.vat c.question_id)

      pub delivers : Delivers here there ref made done.1 rest (messages_sent done.0) k ds
      delivers =
          record {
            tickets = λ q. ap (of_lane made) (silent.bearing.tickets q);
            calls = λ ticket held at. inr (sym (ap (λ cs. get cs ticket) silent.calls) ∙ at);
            held = λ none ticket held at.
                ap (of_lane made) (stands_on s done.1 there.vat silent.bearing.tickets held.origin) ∙ none ticket held (sym (ap (λ cs. get cs ticket) silent.calls) ∙ at);
            silent = ap messages_sent first_is;
            at_object = rw (ds_is) (objects_at k ts);
            came = refs.same ∙ came;
            mark = refs.mark;
          }

      pub bears : of_lane made (forwarded_for s there.vat it) ≡ tickets_of ds
      bears = sym (ap tickets_of ds_is ∙ tickets_at k ts)

      pub same_here : waits_here here_then made ≡ waits_here here made
      same_here = ap (λ cs. of_lane made (flat_map (λ held. waits_as held held.origin) (values cs))) silent.calls

    told_not : {A : Type 0} (before after : List Message) (telling : Message) → IsOnly (it ∷ rest) (tells ref) before telling after
        → back_in s there.vat made before ≡ [] → A
    told_not before after telling only none =
        let taken = only_taken it rest (tells ref) before telling after only tells_none in
        absurd (some (none_lane made (forwarded_for s there.vat) (it ∷ taken.left) (rw (taken.was) at none)).0)

    inside : (delivered : List Delivery) → InLane here there ref made delivered → InLane here_then there_then ref made (delivered ++ ds)
    inside delivered lane = by lane.phase
      where
        by : Phase here there ref made → InLane here_then there_then ref made (delivered ++ ds)
        by (absent p) = absurd (some (rw (p.unmade) (lane_unmade (stands_for s there.vat c.question_id))))
        by (unopened p) = not_back p.no_back
        by (unsettled p) = not_back p.no_back
        by (told p) = told_not p.before p.after p.telling p.only p.back_after
        by (free p) = not_back p.no_back
        by (marked p) =
            let m = p.comes in
            back_marked here there ref made done.1 rest (messages_sent done.0) m.object ds (delivers m.object m.came m.number m.is_export m.goes_back.0) it refl
            (bears m.object m.came m.number m.is_export m.goes_back.0) (same_here m.object m.came m.number m.is_export m.goes_back.0) exports p refl delivered lane
        by (embargoed p) =
            let m = p.comes in
            back_embargoed here there ref made done.1 rest (messages_sent done.0) m.object ds (delivers m.object m.came m.number m.is_export m.goes_back.0) it refl
            (bears m.object m.came m.number m.is_export m.goes_back.0) (same_here m.object m.came m.number m.is_export m.goes_back.0) exports p refl delivered lane
        by (echoed p) =
            let m = p.comes in
            back_echoed here there ref made done.1 rest (messages_sent done.0) m.object ds (delivers m.object m.came m.number m.is_export m.goes_back.0) it refl
            (bears m.object m.came m.number m.is_export m.goes_back.0) (same_here m.object m.came m.number m.is_export m.goes_back.0) exports p refl refl delivered lane
        by (local_open p) = not_back p.no_back

  pub hand_lane : (delivered : List Delivery) → LaneHolds here there ref made delivered → LaneHolds here_then there_then ref made (delivered ++ ds)
  hand_lane delivered (inl elsewhere) = inl (elsewhere_heard here there ref made it rest refl tells_none done.1 done.0 refs exports elsewhere)
  hand_lane delivered (inr lane) = by ts refl
    where
      nonempty : (x : ℕ) (xs : List ℕ) → x ∷ xs ≡ [] → ⊥
      nonempty x xs is = absurd (cc)

      by : (xs : List ℕ) → ts ≡ xs → LaneHolds here_then there_then ref made (delivered ++ ds)
      by [] is = outside is delivered (inr lane)
      by (x ∷ xs) is = inr (inside (λ none. nonempty x xs (sym is ∙ none)) delivered lane)

-- The Call comes: what it names is taken in, its answer is opened, and it goes by its target's route.
module _ (s : State) (c : Call) (rest : List Message) (there : End) (ref : Reference) (made : List ℕ) (delivered : List Delivery) (local_ : Local s) (none : NoneFinished s)
    (agree : Agree (accounts_of s) (messages.Call c ∷ rest) (accounts_of there.vat) there.inbox) where
  abbrev its : Message
  its = messages.Call c

  abbrev CallThen : List Effect → State → Type 0
  CallThen done new = LaneHolds (record { vat = new; inbox = rest }) (with_mail there (messages_sent done)) ref made (delivered ++ lane_delivered s there.vat made done)

  h : Within s None []
  h = local_is_within s local_

  module _ (table : List Cap) (t : State) (takes : ReceivesCaps s c.params.cap_table (Ok (table, t))) (done : Done)
      (goes : GoToTarget (entered t c.question_id) (peer_call t c table) c.target (Ok done)) where
    abbrev new : State
    new = entered t c.question_id

    abbrev hand : PendingCall
    hand = peer_call t c table

    both : Within t None [] × Grows s t
    both = let all = take_all_keeps None [] c.params.cap_table s (table, t) h local_.none_over_ takes in (all.0, all.1)

    still : t.waiting.over ≡ none_over
    still = ap (λ w. w.over) both.1.waiting ∙ local_.none_over_

    taken_lane : LaneHolds (record { vat = s; inbox = its ∷ rest }) there ref made delivered → LaneHolds (record { vat = t; inbox = its ∷ rest }) there ref made delivered
    taken_lane holds =
        take_lane s t its rest there ref made c.params.cap_table both.1 (take_all_back c.params.cap_table s (table, t) takes)
        (take_all_in c.params.cap_table s (table, t) takes).counted (λ i. refl) agree h both.0 delivered holds

    entered_silent : Silent t [] new
    entered_silent = record { calls = refl; bearing = bearing_same t new refl; no_call = refl; no_delivery = refl }

    entered_calm : Calm t [] new
    entered_calm = record { imports = refl; questions = refl; marks = refl; gave_ = λ gate cap is. is; no_open = λ q is. refl; no_loop = λ n. refl }

    entered_lane : LaneHolds (record { vat = t; inbox = its ∷ rest }) there ref made delivered → LaneHolds (record { vat = new; inbox = its ∷ rest }) there ref made delivered
    entered_lane holds =
        let before : End = record { vat = t; inbox = its ∷ rest } in
        subst (λ e. LaneHolds (record { vat = new; inbox = its ∷ rest }) e ref made delivered) (nothing_sent there)
        (level_lane before there ref made new (its ∷ rest) [] (silent_here before there made new (its ∷ rest) (inl refl) [] entered_silent) (ref_calm ref entered_calm)
        (λ e cap is. is) (inl refl) delivered holds)

    -- where it goes
    route : (r : Route) × Go new hand r (Ok done)
    route = call_goes new hand c.target done goes

    may_fail : (r : Route) → MayFail new (origins.Answer c.question_id) r
    may_fail (routes.Fail x) = opened_may t c.question_id (Some t.next_ticket)
    may_fail (routes.Deliver k) = tt
    may_fail (routes.Import i) = tt
    may_fail (routes.Pipe q path) = tt
    may_fail (routes.Wait gate) = tt

    unheld : get t.waiting.calls t.next_ticket ≡ None
    unheld = by (get t.waiting.calls t.next_ticket) refl
      where
        never : (n : ℕ) → n < n → ⊥
        never n less = omega (arith, less)

        by : (o : Option WaitingCall) → get t.waiting.calls t.next_ticket ≡ o → get t.waiting.calls t.next_ticket ≡ None
        by None is = is
        by (Some held) is =
            absurd (never t.next_ticket (there_of (WaitsFor t t.next_ticket) (get t.waiting.calls t.next_ticket) held is (both.0.waiting t.next_ticket)).1)

    none_new : NoneFinished new
    none_new = rw (both.1.asked) none

    calm : Calm new done.0 done.1
    calm =
        hand_calm new hand c.question_id refl (none_open_over both.0) (ap (λ o. get o.answers c.question_id) still ∙ get-empty {X = Outcome} nat_cmp c.question_id)
        (opened_may t c.question_id (Some t.next_ticket)).1 (λ q is. fresh_value both.0 q is) route.0 done route.1

    came_lane : LaneHolds (record { vat = s; inbox = its ∷ rest }) there ref made delivered → CallThen done.0 done.1
    came_lane holds =
        hand_lane s new c rest there ref made hand refl both.1.asked unheld done (go_went new hand route.0 done none_new route.1) calm
        (go_grows new hand route.0 done both.0.one_export (may_fail route.0) route.1).places.exports goes delivered (entered_lane (taken_lane holds))

  pub call_comes : (done : Done) → OnCall s c (Ok done) → LaneHolds (record { vat = s; inbox = its ∷ rest }) there ref made delivered → CallThen done.0 done.1
  call_comes done does holds =
      let parts = then_out {A = List Cap × State} {B = Done} (ReceivesCaps s c.params.cap_table) _ done (unless_out {A = Done} {F = PeerFault} (call_faults s c) _ done does) in
      came_lane parts.0.0 parts.0.1 parts.1 done parts.2 holds
