-- A call of the application keeps each lane of its own end; a call on the lane's reference has one ticket more.
-- `call_does` says so of the call's own part, and `call_leaves` of all that it does, with the waiting calls that leave then.
use Rattle.std.specs.Prelude.{◌≡◌, refl, ℕ, ◌==◌, ◌&&◌, not, if◌then◌else◌, cond, Bool, true, false, List, [], ◌∷◌, ◌++◌, flat_map, map, Option, Some, None, is_some, Ok, Err}
use Rattle.std.specs.List.{list_any, AllByRecursion}
use Rattle.std.specs.FinMap.{get, insert}
use Rattle.std.proofs.Common.{inl, inr, ap, subst, sym, ◌∙◌, append-nil, append_assoc, true≢false}
use Rattle.cp_tables.specs.declared.exchange.Exchange.{Exchange}
use Rattle.cp_messages.specs.declared.message.Message.{Message}
use Rattle.cp_refs.specs.Route.{question_way, route_by, Routes}
use Rattle.cp_refs.specs.declared.cap.Cap.{Cap}
use Rattle.cp_refs.specs.declared.cap.Cap.TheVariants as caps
use Rattle.cp_refs.specs.declared.call.Origin.{Origin}
use Rattle.cp_refs.specs.declared.call.Origin.TheVariants as origins
use Rattle.cp_refs.specs.declared.call.Request.{Request}
use Rattle.cp_refs.specs.declared.route.Gate.TheVariants as gates
use Rattle.cp_refs.specs.declared.route.Route.TheVariants as routes
use Rattle.cp_refs.specs.declared.values.QuestionState.{QuestionState}
use Rattle.cp_refs.specs.declared.values.QuestionKind.{QuestionKind}
use Rattle.cp_refs.specs.declared.values.QuestionKind.TheVariants as kinds
use Rattle.cp_vat_machine.specs.State.{State}
use Rattle.cp_vat_machine.specs.Then.{Done, fault_if}
use Rattle.cp_vat_machine.specs.Capacity.{has_capacity, has_ticket, Fresh, cap_fits, request_fits}
use Rattle.cp_vat_machine.specs.Writing.{IsExport}
use Rattle.cp_vat_machine.specs.InUse.{is_own, has_question, has_promise, has_import, is_local_path}
use Rattle.cp_vat_machine.specs.Go.{held_at, delivered, Go, GoTo, Leave}
use Rattle.cp_vat_machine.specs.Calling.{plain, on_wire, came_to, import_reference, question_reference, reference_of, called, own_call, mark_of, with_mark, has_mark_capacity, marked, old_target, FirstEmbargoed, GoBack, GoByValue, GoFrom, OwnDone, not_all, call_refusals, DoCall}
use Rattle.cp_vat_machine.specs.Calling as calling
use Rattle.cp_vat_machine.specs.Local.{Local}
use Rattle.cp_vat_machine.specs.declared.effect.Effect.{Effect}
use Rattle.cp_vat_machine.specs.declared.effect.Effect.TheVariants as effects
use Rattle.cp_vat_machine.specs.declared.entry.QuestionEntry.{QuestionEntry}
use Rattle.cp_vat_machine.specs.declared.event.Event.TheVariants as events
use Rattle.cp_vat_machine.specs.declared.fault.PeerFault.TheVariants as faults
use Rattle.cp_vat_machine.specs.declared.fault.VatFault.{VatFault}
use Rattle.cp_vat_machine.specs.declared.fault.VatFault.TheVariants as refusals
use Rattle.cp_vat_machine.proofs.Basics.{some_out, none_out, ok_in, ok_out, then_out, unless_out, or_full_out, not_false, put_at}
use Rattle.cp_vat_laws.proofs.within.Between.{local_is_within}
use Rattle.cp_vat_laws.proofs.order.Mark.{is_plain, mark_got}
use Rattle.cp_vat_laws.proofs.order.Routes.{one_route}
use Rattle.cp_vat_laws.proofs.within.GiveOwn.{its_question}
use Rattle.cp_vat_laws.proofs.Tables.{no_faults, front_empty, back_empty, not_met}
use Rattle.cp_vat_pair_laws.specs.Accounts.{accounts_of}
use Rattle.cp_vat_pair_laws.specs.Lives.{Agree}
use Rattle.cp_vat_pair_laws.specs.VatPair.{End, messages_sent, with_mail}
use Rattle.cp_vat_pair_laws.specs.Lane.{Reference, import_, path_to, cap_of, names, own_ticket, answer_forwarded, stands_for, ticket_borne, Delivery, delivery_of, delivered_among}
use Rattle.cp_vat_pair_laws.specs.Naming.{AreLooped}
use Rattle.cp_vat_pair_laws.specs.Orderly.{IsOrderly}
use Rattle.cp_vat_pair_laws.specs.Phases.{IsMarkedIf, IsUnheld, IsLocalOpen, IsElsewhere, Phase, InLane, LaneHolds}
use Rattle.cp_vat_pair_laws.specs.Phases as phases
use Rattle.cp_vat_pair_laws.specs.Places.{NoneFinished}
use Rattle.cp_vat_pair_laws.specs.Tickets.{TicketsHold}
use Rattle.cp_vat_pair_laws.proofs.counts.rules.Accounts.{free_out}
use Rattle.cp_vat_pair_laws.proofs.still.Does.{fresh_value, does_moved}
use Rattle.cp_vat_pair_laws.proofs.lane.parts.Midway.{Midway, does_midway}
use Rattle.cp_vat_pair_laws.proofs.lane.own.Reference.{IsPathOf}
use Rattle.cp_vat_pair_laws.proofs.counts.rules.Say.{first_true}
use Rattle.cp_vat_pair_laws.proofs.lane.OrderFollows.{absent_plain, local_plain}
use Rattle.cp_vat_pair_laws.proofs.lane.other.Turn.{same_mail}
use Rattle.cp_vat_pair_laws.proofs.lane.own.Turn.{lane_delivered, lane_delivered_both}
use Rattle.cp_vat_pair_laws.proofs.lane.own.Leave.{leave_lane}
use Rattle.cp_vat_pair_laws.proofs.lane.own.NextTicket.{are_other, named_is, none_forwards}
use Rattle.cp_vat_pair_laws.proofs.lane.own.CallSteps.{mark_same, Called, starts_marked, starts_embargoed, goes_out, wire_out, with_embargo, from_called}
use Rattle.cp_vat_pair_laws.proofs.lane.own.CallElsewhere.{beside_lane}
use Rattle.cp_vat_pair_laws.proofs.lane.own.CallOnIt.{wire_plain, wire_came, plain_came, same_value, local_question, sent_lane, elsewhere_lane, delivered_lane, embargoed_lane, echoed_lane, local_lane, marked_lane}

-- what a call does, but for its value
abbrev own_done : OwnDone → Done
own_done done = (done.1, done.2)

-- what a reference is, where it is one of the vat's
module _ (s : State) (inbox : List Message) (there : End) (local_ : Local s) (there_local : Local there.vat) (midway : Midway s inbox there) (loops : AreLooped s there.inbox inbox)
    (made : List ℕ) (tickets : TicketsHold s made) (q : ℕ) (fresh : get s.entries.questions q ≡ None) (request : Request) (ref : Reference) (delivered_ : List Delivery)
    (has_import_ : has_import s (cap_of ref) ≡ true) (has_question_ : has_question s (cap_of ref) ≡ true) (done : Done)
    (exports : (e : ℕ) (x : Cap) → IsExport s e x → IsExport done.1 e x) where
  abbrev here : End
  here = record { vat = s; inbox = inbox }

  abbrev cap : Cap
  cap = cap_of ref

  abbrev more : List ℕ
  more = made ++ s.next_ticket ∷ []

  abbrev MadeThen : Type 0
  MadeThen =
      LaneHolds (record { vat = done.1; inbox = inbox }) (with_mail there (messages_sent done.0)) ref more (delivered_ ++ lane_delivered s there.vat more done.0)

  none : NoneFinished s
  none = midway.unfinished

  unvalued : get s.values.questions q ≡ None
  unvalued = fresh_value midway.within q fresh

  -- it is held, or a question of the application's
  own_is : (o : Option (Exchange QuestionEntry)) → is_own o ≡ true → (entry : Exchange QuestionEntry) × (o ≡ Some entry) × (entry.kept.forwards ≡ None)
  own_is None is = absurd (true≢false (sym is))
  own_is (Some entry) is = (entry, refl, none_by entry.kept.forwards (first_true _ _ is))
    where
      none_by : (o : Option ℕ) → not (is_some o) ≡ true → o ≡ None
      none_by None e = refl
      none_by (Some a) e = absurd (true≢false (sym e))

  path_there : (r : ℕ) → has_question s (caps.Pipelined r []) ≡ true → (question : QuestionState) × (get s.values.questions r ≡ Some question)
  path_there r has =
      let own = own_is (get s.entries.questions r) has in
      its_question own.0.kept.forwards own.0.stage (get s.values.questions r) own.2 (rw own.1 at (midway.within.questions_valued r))

  not_path : IsPathOf q ref → ⊥
  not_path is = by ref has_question_ is
    where
      by : (ref : Reference) → has_question s (cap_of ref) ≡ true → IsPathOf q ref → ⊥
      by (import_ i) has is = is
      by (path_to r path) has is =
          let its = path_there r has in
          none_out (sym unvalued ∙ ap (λ n. get s.values.questions n) is ∙ its.1)

  never_unheld : IsUnheld s ref made → ⊥
  never_unheld unheld = by ref has_import_ unheld
    where
      by : (ref : Reference) → has_import s (cap_of ref) ≡ true → IsUnheld s ref made → ⊥
      by (import_ i) has is = true≢false (sym has ∙ midway.within.imports_valued i ∙ ap is_some is.0)
      by (path_to r path) has is = is

  never_yet : {A : Type 0} (x : calling.Standing) → reference_of s.values cap ≡ x → (on_wire ≡ x → ⊥) → phases.IsYet s ref made → A
  never_yet x is not (inl open_) = absurd (not (sym open_ ∙ is))
  never_yet x is not (inr unheld) = absurd (never_unheld unheld)

  -- on the wire
  wire_mark : (mid : State) → Ok mid ≡ marked (called s q kinds.Wire) cap (mark_of s cap) → reference_of (called s q kinds.Wire).values cap ≡ on_wire
      → IsMarkedIf made (mark_of s cap) → mark_of mid cap ≡ Some None
  wire_mark mid is wire marked_if = by (mark_of s cap) refl is
    where
      with_none : (o : Option (Option ℕ)) → o ≡ None → IsMarkedIf made o → IsMarkedIf made None
      with_none o e m = rw e at m

      never_embargoed : {A : Type 0} (m : List ℕ) (n : ℕ) → IsMarkedIf m (Some (Some n)) → A
      never_embargoed [] n m = none_out (sym m)
      never_embargoed (x ∷ xs) n m = none_out (sym (some_out m))

      before : mark_of (called s q kinds.Wire) cap ≡ mark_of s cap
      before = mark_same (called s q kinds.Wire) s ref refl

      put : (b : Bool) → Ok mid ≡ cond b (Ok (with_mark (called s q kinds.Wire) cap None)) (Err faults.TableFull) → mark_of mid cap ≡ Some None
      put true e = ap (λ x. mark_of x cap) (ok_in _ _ e) ∙ mark_got (called s q kinds.Wire) cap None (ap is_plain wire)
      put false e = ok_out e

      by : (o : Option (Option ℕ)) → mark_of s cap ≡ o → Ok mid ≡ marked (called s q kinds.Wire) cap o → mark_of mid cap ≡ Some None
      by None at e = put (has_mark_capacity (called s q kinds.Wire) cap) e
      by (Some None) at e = ap (λ x. mark_of x cap) (ok_in _ _ e) ∙ before ∙ at
      by (Some (Some n)) at e = never_embargoed made n (rw at at marked_if)

  called_same : (kind : QuestionKind) → reference_of (called s q kind).values cap ≡ reference_of s.values cap
  called_same kind = by ref not_path
    where
      by : (ref : Reference) → (IsPathOf q ref → ⊥) → reference_of (called s q kind).values (cap_of ref) ≡ reference_of s.values (cap_of ref)
      by (import_ i) other = refl
      by (path_to r path) other = ap (question_reference path) (put_at s.values.questions q r (record { kind = kind; outcome = None }) false (are_other q r other))

  wire_made : reference_of s.values cap ≡ on_wire → GoFrom s q request cap on_wire (Ok done) → Called s q cap done.0 done.1 → LaneHolds here there ref made delivered_ → MadeThen
  wire_made is goes c holds =
      let parts = then_out {A = State} {B = Done} (λ mid. mid ≡ marked (called s q kinds.Wire) cap (mark_of s cap)) _ done goes in
      let starts = starts_marked s q request none fresh kinds.Wire cap (mark_of s cap) parts.0 parts.1 in
      let out = goes_out s q request none fresh kinds.Wire cap parts.0 starts (old_target cap) done (wire_out s q request none fresh unvalued cap parts.0 done is starts parts.2) in
      sent_lane s inbox there local_ there_local midway loops made tickets q fresh request ref delivered_ done.0 done.1 c exports not_path out.table out.is
      (out.calls ∙ ap (λ w. w.calls) starts.waiting_) is
      (λ marked_if. mark_same done.1 parts.0 ref out.aside.marks ∙ wire_mark parts.0 parts.1 (called_same kinds.Wire ∙ is) marked_if) holds

  -- open here
  plain_phase : reference_of s.values cap ≡ plain → GoTo (called s q kinds.Local) (own_call s q request) cap (Ok done) → Called s q cap done.0 done.1 → InLane here there ref made delivered_
      → Phase here there ref made → MadeThen
  plain_phase is goes c lane (phases.absent p) = absurd (never_absent ref has_import_ has_question_ p.none)
    where
      never_absent : (ref : Reference) → has_import s (cap_of ref) ≡ true → has_question s (cap_of ref) ≡ true → phases.IsAbsent s there.vat ref → ⊥
      never_absent (import_ i) has own is = true≢false (sym has ∙ midway.within.imports_valued i ∙ ap is_some is.0)
      never_absent (path_to r path) has own is = none_out (sym is ∙ (path_there r own).1)
  plain_phase is goes c lane (phases.unopened p) = wire_plain (sym p.open_ ∙ is)
  plain_phase is goes c lane (phases.unsettled p) = never_yet plain is wire_plain p.yet
  plain_phase is goes c lane (phases.told p) = never_yet plain is wire_plain p.yet
  plain_phase is goes c lane (phases.free p) = plain_came (caps.Object p.object) (sym is ∙ p.came)
  plain_phase is goes c lane (phases.marked p) = plain_came (caps.Object p.comes.object) (sym is ∙ p.comes.came)
  plain_phase is goes c lane (phases.embargoed p) = plain_came (caps.Object p.comes.object) (sym is ∙ p.comes.came)
  plain_phase is goes c lane (phases.echoed p) = plain_came (caps.Object p.comes.object) (sym is ∙ p.comes.came)
  plain_phase is goes c lane (phases.local_open p) =
      let waits : done ≡ ([], held_at (called s q kinds.Local) (own_call s q request) p.gate) = waits_there ref not_path has_question_ is p.open_ goes in
      local_lane s inbox there local_ there_local midway loops made tickets q fresh request ref delivered_ done.0 done.1 c exports not_path p.gate
      (ap (λ (d : Done). d.1.waiting.calls) waits) (ap (λ (d : Done). d.0) waits)
      (ap (λ (d : Done). mark_of d.1 cap) waits ∙ mark_same (held_at (called s q kinds.Local) (own_call s q request) p.gate) s ref refl) p refl
      (open_then ref not_path p.open_ (ap (λ (d : Done). d.1.values) waits)) lane
    where
      waits_there : (ref : Reference) → (IsPathOf q ref → ⊥) → has_question s (cap_of ref) ≡ true → reference_of s.values (cap_of ref) ≡ plain → IsLocalOpen s ref p.gate
          → GoTo (called s q kinds.Local) (own_call s q request) (cap_of ref) (Ok done) → done ≡ ([], held_at (called s q kinds.Local) (own_call s q request) p.gate)
      waits_there (import_ i) other has is_ open_ goes_ = absurd open_
      waits_there (path_to r path) other has is_ open_ goes_ =
          let its = path_there r has in
          let local_is = local_question path its.0 (sym (ap (question_reference path) its.1) ∙ is_) in
          let at : get (called s q kinds.Local).values.questions r ≡ Some (record { kind = kinds.Local; outcome = None }) =
          put_at s.values.questions q r (record { kind = kinds.Local; outcome = None }) false (are_other q r other) ∙ its.1 ∙ ap Some local_is in
          let waited : Routes (called s q kinds.Local).values (caps.Pipelined r path) (routes.Wait (gates.Question r path)) =
          (1, ap (λ o. route_by (λ next. None) (question_way r path o)) at) in
          let route : goes_.0 ≡ routes.Wait (gates.Question r path) =
          one_route (called s q kinds.Local).values (caps.Pipelined r path) goes_.0 (routes.Wait (gates.Question r path)) goes_.1 waited in
          let go : Go (called s q kinds.Local) (own_call s q request) (routes.Wait (gates.Question r path)) (Ok done) = rw route at goes_.2 in
          rw (open_.1) (ok_in _ _ go)

      open_then : (ref : Reference) → (IsPathOf q ref → ⊥) → IsLocalOpen s ref p.gate → done.1.values ≡ (called s q kinds.Local).values → IsLocalOpen done.1 ref p.gate
      open_then (import_ i) other open_ same = absurd open_
      open_then (path_to r path) other open_ same =
          let at : get done.1.values.questions r ≡ get s.values.questions r =
          ap (λ v. get v.questions r) same ∙ put_at s.values.questions q r (record { kind = kinds.Local; outcome = None }) false (are_other q r other) in
          (rw (at) open_.0, open_.1)

  plain_made : reference_of s.values cap ≡ plain → GoFrom s q request cap plain (Ok done) → Called s q cap done.0 done.1 → LaneHolds here there ref made delivered_ → MadeThen
  plain_made is goes c (inl elsewhere) =
      elsewhere_lane s inbox there local_ there_local midway loops made tickets q fresh request ref delivered_ done.0 done.1 c exports not_path never_unheld elsewhere
  plain_made is goes c (inr lane) = plain_phase is goes c lane lane.phase

  -- come to an object
  back_free : (p : phases.Free here there ref made) → GoBack (called s q kinds.Local) (own_call s q request) cap (caps.Object p.object) (mark_of s cap) (Ok done)
      → Called s q cap done.0 done.1 → InLane here there ref made delivered_ → MadeThen
  back_free p goes c lane =
      let to : GoTo (called s q kinds.Local) (own_call s q request) (caps.Object p.object) (Ok done) = rw p.mark at goes in
      let route : to.0 ≡ routes.Deliver p.object = one_route (called s q kinds.Local).values (caps.Object p.object) to.0 (routes.Deliver p.object) to.1 (1, refl) in
      let go : Go (called s q kinds.Local) (own_call s q request) (routes.Deliver p.object) (Ok done) = rw route at to.2 in
      let is = ok_in _ _ go in
      delivered_lane s inbox there local_ there_local midway loops made tickets q fresh request ref delivered_ done.0 done.1 c exports not_path p (ap (λ (d : Done). d.0) is)
      (ap (λ (d : Done). d.1.waiting.calls) is)
      (ap (λ (d : Done). mark_of d.1 cap) is ∙ mark_same (delivered (called s q kinds.Local) (origins.Own q)) s ref refl ∙ p.mark) lane

  back_marked : (p : phases.Marked here there ref made) → GoBack (called s q kinds.Local) (own_call s q request) cap (caps.Object p.comes.object) (mark_of s cap) (Ok done)
      → Called s q cap done.0 done.1 → InLane here there ref made delivered_ → MadeThen
  back_marked p goes c lane =
      let first : FirstEmbargoed (called s q kinds.Local) (own_call s q request) cap (caps.Object p.comes.object) (Ok done) = rw p.mark at goes in
      let parts = then_out {A = ℕ} {B = Done} (Fresh s.marks.embargoes) _ done first in
      let n = parts.0 in
      let mid : State = with_embargo s q request none fresh cap (caps.Object p.comes.object) n in
      let starts = starts_embargoed s q request none fresh cap (caps.Object p.comes.object) n in
      let is = ok_in _ _ parts.2 in
      let from : State = record (called s q kinds.Local) { marks = record s.marks { embargoes = insert s.marks.embargoes n (caps.Object p.comes.object) } } in
      let came : is_plain (reference_of from.values cap) ≡ false = ap is_plain (called_same kinds.Local ∙ p.comes.came) in
      marked_lane s inbox there local_ there_local midway loops made tickets q fresh request ref delivered_ done.0 done.1 c exports not_path (gates.Embargo n)
      (ap (λ (d : Done). d.1.waiting.calls) is ∙ ap (λ w. insert w.calls s.next_ticket (record { ticket = s.next_ticket; origin = origins.Own q; request = request; gate = gates.Embargo n })) starts.waiting_)
      p n (ap (λ (d : Done). d.0) is) refl (free_out s.marks.embargoes n parts.1)
      (ap (λ (d : Done). mark_of d.1 cap) is ∙ mark_same (held_at mid (own_call s q request) (gates.Embargo n)) mid ref refl ∙ mark_got from cap (Some n) came) lane

  waits_after : (n : ℕ) (object : ℕ) → mark_of s cap ≡ Some (Some n) → GoBack (called s q kinds.Local) (own_call s q request) cap (caps.Object object) (mark_of s cap) (Ok done)
      → done ≡ ([], held_at (called s q kinds.Local) (own_call s q request) (gates.Embargo n))
  waits_after n object mark goes =
      let go : Go (called s q kinds.Local) (own_call s q request) (routes.Wait (gates.Embargo n)) (Ok done) = rw mark at goes in ok_in _ _ go

  held_mark : (n : ℕ) → done ≡ ([], held_at (called s q kinds.Local) (own_call s q request) (gates.Embargo n)) → mark_of done.1 cap ≡ mark_of s cap
  held_mark n is = ap (λ (d : Done). mark_of d.1 cap) is ∙ mark_same (held_at (called s q kinds.Local) (own_call s q request) (gates.Embargo n)) s ref refl

  value_at : (value : Cap) (object : ℕ) → reference_of s.values cap ≡ came_to value → reference_of s.values cap ≡ came_to (caps.Object object) → GoByValue s q request cap value (Ok done)
      → GoBack (called s q kinds.Local) (own_call s q request) cap (caps.Object object) (mark_of s cap) (Ok done)
  value_at value object is came goes =
      let it : value ≡ caps.Object object = same_value value (caps.Object object) (sym is ∙ came) in
      let by_object : GoByValue s q request cap (caps.Object object) (Ok done) = rw it at goes in by_object

  came_phase : (value : Cap) → reference_of s.values cap ≡ came_to value → GoByValue s q request cap value (Ok done) → Called s q cap done.0 done.1 → InLane here there ref made delivered_
      → Phase here there ref made → MadeThen
  came_phase value is goes c lane (phases.absent p) = plain_came value (sym (absent_plain s there.vat ref p.none) ∙ is)
  came_phase value is goes c lane (phases.unopened p) = wire_came value (sym p.open_ ∙ is)
  came_phase value is goes c lane (phases.unsettled p) = never_yet (came_to value) is (wire_came value) p.yet
  came_phase value is goes c lane (phases.told p) = never_yet (came_to value) is (wire_came value) p.yet
  came_phase value is goes c lane (phases.free p) = back_free p (value_at value p.object is p.came goes) c lane
  came_phase value is goes c lane (phases.marked p) = back_marked p (value_at value p.comes.object is p.comes.came goes) c lane
  came_phase value is goes c lane (phases.embargoed p) =
      let waits = waits_after p.embargo p.comes.object p.mark (value_at value p.comes.object is p.comes.came goes) in
      embargoed_lane s inbox there local_ there_local midway loops made tickets q fresh request ref delivered_ done.0 done.1 c exports not_path (gates.Embargo p.embargo)
      (ap (λ (d : Done). d.1.waiting.calls) waits) (ap (λ (d : Done). d.0) waits) (held_mark p.embargo waits) p refl lane
  came_phase value is goes c lane (phases.echoed p) =
      let waits = waits_after p.embargo p.comes.object p.mark (value_at value p.comes.object is p.comes.came goes) in
      echoed_lane s inbox there local_ there_local midway loops made tickets q fresh request ref delivered_ done.0 done.1 c exports not_path (gates.Embargo p.embargo)
      (ap (λ (d : Done). d.1.waiting.calls) waits) (ap (λ (d : Done). d.0) waits) (held_mark p.embargo waits) p refl lane
  came_phase value is goes c lane (phases.local_open p) = plain_came value (sym (local_plain s ref p.gate p.open_) ∙ is)

  came_made : (value : Cap) → reference_of s.values cap ≡ came_to value → GoFrom s q request cap (came_to value) (Ok done) → Called s q cap done.0 done.1
      → LaneHolds here there ref made delivered_ → MadeThen
  came_made value is goes c (inl elsewhere) =
      elsewhere_lane s inbox there local_ there_local midway loops made tickets q fresh request ref delivered_ done.0 done.1 c exports not_path never_unheld elsewhere
  came_made value is goes c (inr lane) = came_phase value is goes c lane lane.phase

  pub made_lane : (r : calling.Standing) → reference_of s.values cap ≡ r → GoFrom s q request cap r (Ok done) → LaneHolds here there ref made delivered_ → MadeThen
  made_lane plain is goes holds = plain_made is goes (from_called s q request none fresh unvalued cap plain done is goes) holds
  made_lane on_wire is goes holds = wire_made is goes (from_called s q request none fresh unvalued cap on_wire done is goes) holds
  made_lane (came_to value) is goes holds = came_made value is goes (from_called s q request none fresh unvalued cap (came_to value) done is goes) holds

-- what a call isn't refused for
allowed : (s : State) (cap : Cap) (request : Request) → call_refusals s cap request ≡ [] → (has_import s cap ≡ true) × (has_question s cap ≡ true)
allowed s cap request none =
    let import_fault = fault_if (not_all (has_import s) (cap ∷ request.caps)) refusals.UnknownImport in
    let imports = not_met _ refusals.UnknownImport (back_empty _ import_fault none) in
    let five = front_empty _ import_fault none in
    let four = front_empty _ (fault_if (not (has_capacity s.entries.questions && has_ticket s)) refusals.Full) five in
    let three = front_empty _ (fault_if (not (cap_fits cap && request_fits request)) refusals.TooLarge) four in
    let two = front_empty _ (fault_if (list_any (is_local_path s) request.caps) refusals.Unsettled) three in
    let one = front_empty (fault_if (not_all (has_question s) (cap ∷ request.caps)) refusals.UnknownQuestion) (fault_if (not_all (has_promise s) (cap ∷ request.caps)) refusals.UnknownPromise) two in
    let questions = not_met _ refusals.UnknownQuestion one in
    (first_true _ _ (not_false _ imports), first_true _ _ (not_false _ questions))

module _ (s : State) (inbox : List Message) (there : End) (ref : Reference) (made : List ℕ) (delivered_ : List Delivery) (local_ : Local s) (there_local : Local there.vat)
    (none : NoneFinished s) (orderly : IsOrderly s) (agree : Agree (accounts_of s) inbox (accounts_of there.vat) there.inbox) (loops : AreLooped s there.inbox inbox)
    (tickets : TicketsHold s made) (cap : Cap) (request : Request) where
  abbrev pub called_here : End
  called_here = record { vat = s; inbox = inbox }

  -- the calls made on the reference then
  abbrev pub made_then : List ℕ
  made_then = made ++ (if names ref cap then (s.next_ticket ∷ []) else [])

  abbrev pub CallThen : List Effect → State → Type 0
  CallThen done new =
      LaneHolds (record { vat = new; inbox = inbox }) (with_mail there (messages_sent done)) ref made_then (delivered_ ++ lane_delivered s there.vat made_then done)

  midway : Midway s inbox there
  midway = record { within = local_is_within s local_; unfinished = none; orderly = orderly; agreed = agree }

  module _ (done : OwnDone) (does : DoCall s cap request (Ok done)) where
    opened : (q : ℕ) × Fresh s.entries.questions (Ok q) × (goes : Done) × GoFrom s q request cap (reference_of s.values cap) (Ok goes) × (goes ≡ (done.1, done.2))
    opened =
        let opens_ = or_full_out _ _ (unless_out {A = OwnDone} {F = VatFault} (call_refusals s cap request) _ done does) in
        let first = then_out {A = ℕ} {B = OwnDone} (Fresh s.entries.questions) _ done opens_ in
        let goes = then_out {A = Done} {B = OwnDone} (GoFrom s first.0 request cap (reference_of s.values cap)) _ done first.2 in
        (first.0, first.1, goes.0, goes.1, ap own_done (sym (ok_in _ _ goes.2)))

    abbrev q : ℕ
    q = opened.0

    fresh : get s.entries.questions q ≡ None
    fresh = free_out s.entries.questions q opened.1

    nothing_there : get s.values.questions q ≡ None
    nothing_there = fresh_value midway.within q fresh

    goes : GoFrom s q request cap (reference_of s.values cap) (Ok (done.1, done.2))
    goes = rw opened.4 at opened.3

    called_so : Called s q cap done.1 done.2
    called_so = from_called s q request none fresh nothing_there cap (reference_of s.values cap) (done.1, done.2) refl goes

    exports : (e : ℕ) (x : Cap) → IsExport s e x → IsExport done.2 e x
    exports = (does_moved s (events.Call cap request) done midway.within tt does).exports

    its_lane : cap ≡ cap_of ref → LaneHolds called_here there ref made delivered_
        → LaneHolds (record { vat = done.2; inbox = inbox }) (with_mail there (messages_sent done.1)) ref (made ++ s.next_ticket ∷ [])
        (delivered_ ++ lane_delivered s there.vat (made ++ s.next_ticket ∷ []) done.1)
    its_lane same holds =
        let may = allowed s cap request (no_faults {A = OwnDone} {F = VatFault} (call_refusals s cap request) _ done does) in
        made_lane s inbox there local_ there_local midway loops made tickets q fresh request ref delivered_ (rw same at may.0) (rw same at may.1) (done.1, done.2) exports
        (reference_of s.values (cap_of ref)) refl (subst (λ x. GoFrom s q request x (reference_of s.values x) (Ok (done.1, done.2))) same goes) holds

    -- the call's own part
    pub call_does : LaneHolds called_here there ref made delivered_ → CallThen done.1 done.2
    call_does holds = by (names ref cap) refl
      where
        by : (b : Bool) → names ref cap ≡ b → CallThen done.1 done.2
        by true is = rw (is) (its_lane (named_is ref cap is) holds)
        by false is = rw (is, append-nil made) (beside_lane s inbox there local_ agree made tickets q fresh cap done.1 done.2 called_so exports ref is delivered_ holds)

    -- What waiting calls stand for is as before.
    stands_so : (a : ℕ) → stands_for done.2 there.vat a ≡ stands_for s there.vat a
    stands_so a = each (answer_forwarded (get there.vat.entries.questions a)) (none_forwards s inbox there agree there_local q fresh a)
      where
        each : (ps : List ℕ) → AllByRecursion (λ p. (q == p) ≡ false) ps
            → flat_map (λ p. own_ticket (get done.2.entries.questions p)) ps ≡ flat_map (λ p. own_ticket (get s.entries.questions p)) ps
        each [] all = refl
        each (p ∷ ps) all =
            ap (λ xs. xs ++ flat_map (λ r. own_ticket (get done.2.entries.questions r)) ps) (called_so.tickets p all.0)
            ∙ ap (λ xs. own_ticket (get s.entries.questions p) ++ xs) (each ps all.1)

    borne_so : (origin : Origin) (ticket : ℕ) → ticket_borne done.2 there.vat origin ticket ≡ ticket_borne s there.vat origin ticket
    borne_so (origins.Own p) ticket = refl
    borne_so (origins.Answer a) ticket = stands_so a

    delivery_so : (effect : Effect) → delivery_of done.2 there.vat effect ≡ delivery_of s there.vat effect
    delivery_so (effects.Deliver object origin ticket call) =
        ap (λ xs. map (λ own. record { ticket = own; object = object }) xs) (borne_so origin ticket)
    delivery_so effect = refl

    delivered_so : (m : List ℕ) (rest : List Effect) → lane_delivered done.2 there.vat m rest ≡ lane_delivered s there.vat m rest
    delivered_so m rest = ap (delivered_among m) (each rest)
      where
        each : (rest : List Effect) → flat_map (delivery_of done.2 there.vat) rest ≡ flat_map (delivery_of s there.vat) rest
        each [] = refl
        each (effect ∷ rest) =
            ap (λ xs. xs ++ flat_map (delivery_of done.2 there.vat) rest) (delivery_so effect) ∙ ap (λ xs. delivery_of s there.vat effect ++ xs) (each rest)

    -- with what leaves then
    pub call_leaves : (rest : List Effect) (last : State) → Leave done.2 rest (Ok last) → LaneHolds called_here there ref made delivered_ → CallThen (done.1 ++ rest) last
    call_leaves rest last leave holds =
        let mid = does_midway s inbox there (events.Call cap request) done local_ none orderly agree tt does in
        let left = leave_lane done.2 done.2 last rest inbox (with_mail there (messages_sent done.1)) ref made_then (delivered_ ++ lane_delivered s there.vat made_then done.1) mid
        (λ p. refl) (call_does holds) leave in
        rw (
          ← same_mail there done.1 rest (done.1 ++ rest) refl,
          lane_delivered_both s there.vat made_then done.1 rest,
          ← append_assoc delivered_ (lane_delivered s there.vat made_then done.1) (lane_delivered s there.vat made_then rest),
          ← delivered_so made_then rest,
        )
        left
