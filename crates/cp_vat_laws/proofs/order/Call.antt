-- A call of the application's enters.
use Rattle.std.specs.Prelude.{◌≡◌, ◌⊎◌, refl, ℕ, not, ◌&&◌, cond, Bool, true, false, List, [], ◌∷◌, ◌++◌, flat_map, Option, Some, None, is_some, Ok, Err}
use Rattle.std.specs.List.{list_all}
use Rattle.std.specs.FinMap.{get, insert}
use Rattle.std.proofs.Common.{arith, inl, inr, ap, subst, sym, ◌∙◌, true≢false}
use Rattle.cp_tables.specs.Exchange.{new_exchange}
use Rattle.cp_tables.specs.declared.exchange.Exchange.{Exchange}
use Rattle.cp_refs.specs.Route.{Routes}
use Rattle.cp_refs.specs.declared.cap.Cap.{Cap}
use Rattle.cp_refs.specs.declared.cap.Cap.TheVariants as caps
use Rattle.cp_refs.specs.declared.call.Request.{Request}
use Rattle.cp_refs.specs.declared.outcome.Outcome.{Outcome}
use Rattle.cp_refs.specs.declared.route.Gate.{Gate}
use Rattle.cp_refs.specs.declared.route.Gate.TheVariants as gates
use Rattle.cp_refs.specs.declared.route.Route.{Route}
use Rattle.cp_refs.specs.declared.route.Route.TheVariants as routes
use Rattle.cp_refs.specs.declared.values.QuestionState.{QuestionState}
use Rattle.cp_refs.specs.declared.values.QuestionKind.{QuestionKind}
use Rattle.cp_refs.specs.declared.values.QuestionKind.TheVariants as kinds
use Rattle.cp_vat_machine.specs.State.{State, none_over, gave}
use Rattle.cp_vat_machine.specs.Then.{Done, fault_if}
use Rattle.cp_vat_machine.specs.Capacity.{has_capacity, has_ticket, Fresh, cap_fits, request_fits}
use Rattle.cp_vat_machine.specs.InUse.{has_question, has_promise, has_import, is_local_path, is_own}
use Rattle.cp_vat_machine.specs.Calling.{Standing, plain, on_wire, came_to, reference_of, called, own_call, mark_of, with_mark, has_mark_capacity, marked, disembargo_of, GoBack, GoByValue, GoFrom, OwnDone, Opens, not_all, call_refusals, DoCall}
use Rattle.cp_vat_machine.specs.Go.{PendingCall, held_at, Go, GoTo}
use Rattle.cp_vat_machine.specs.Local.{OwnIs, QuestionIs}
use Rattle.cp_vat_machine.specs.Trace.{Turn}
use Rattle.cp_vat_machine.specs.Ports.{capability, NameRoute, is_there}
use Rattle.cp_vat_machine.specs.declared.effect.Effect.{Effect}
use Rattle.cp_vat_machine.specs.declared.entry.QuestionEntry.{QuestionEntry}
use Rattle.cp_vat_machine.specs.declared.event.Event.TheVariants as events
use Rattle.cp_vat_machine.specs.declared.event.Value.{Value}
use Rattle.cp_vat_machine.specs.declared.event.Value.TheVariants as values
use Rattle.cp_vat_machine.specs.declared.fault.PeerFault.{PeerFault}
use Rattle.cp_vat_machine.specs.declared.fault.VatFault.{VatFault}
use Rattle.cp_vat_machine.specs.declared.fault.VatFault.TheVariants as refusals
use Rattle.cp_vat_laws.specs.Within.{Within}
use Rattle.cp_vat_laws.specs.OrderKept.{FitsMark, is_off_wire, OrderHolds}
use Rattle.cp_vat_machine.proofs.Basics.{some_out, none_out, is_itself, ok_in, ok_out, then_out, unless_out, or_full_out, put_at}
use Rattle.cp_vat_laws.proofs.order.Passes.{IsKept, IsOfThisEnd, Sound}
use Rattle.cp_vat_laws.proofs.order.Names.{IsOff, has_route}
use Rattle.cp_vat_laws.proofs.order.Same.{marks_same, fits_same, IsGoing}
use Rattle.cp_vat_laws.proofs.order.Sound.{sound_within}
use Rattle.cp_vat_laws.proofs.order.Grows.{GrowsTo, put_grows, reference_same, grow_routes, grows_passes}
use Rattle.cp_vat_laws.proofs.order.Rest.{none_gave}
use Rattle.cp_vat_laws.proofs.order.Enters.{owning}
use Rattle.cp_vat_laws.proofs.order.Mark.{came_kept, mark_embargo, plain_unmarked, wire_route, mark_set, mark_got, mark_only}
use Rattle.cp_vat_laws.proofs.order.EntersThen.{IsCome, no_embargo, exits_hold, held_holds, routed_holds}
use Rattle.cp_vat_laws.proofs.Tables.{no_faults, front_empty, back_empty, not_met}

-- a number without an entry has no value
pub free_question : (s : State) (q : ℕ) → Within s None [] → get s.entries.questions q ≡ None → get s.values.questions q ≡ None
free_question s q w free = by (get s.values.questions q) refl (rw (free) at (w.questions_valued q))
  where
    by : (o : Option QuestionState) → get s.values.questions q ≡ o → QuestionIs None o → get s.values.questions q ≡ None
    by None is h = is
    by (Some x) is h = absurd h

pub free_at : {X : Type 0} (table : Rattle.cp_tables.specs.Table.Table X) (n : ℕ) → Fresh table (Ok n) → get table n ≡ None
free_at table n (Rattle.cp_vat_machine.specs.Capacity.free m is small room) = is

module _ (old : State) (q : ℕ) (request : Request) (cap : Cap) (within : Within old None []) (none : old.waiting.over ≡ none_over) (free : get old.entries.questions q ≡ None)
    (there : is_there old.values (capability cap) ≡ true) where
  sound : Sound old
  sound = sound_within old None [] within

  abbrev call : PendingCall
  call = own_call old q request

  -- the state in which the call goes, with these marks
  module _ (kind : QuestionKind) (between : State) (only : between ≡ record (called old q kind) { marks = between.marks })
      (embargoes : (n : ℕ) (v : Cap) → get old.marks.embargoes n ≡ Some v → get between.marks.embargoes n ≡ Some v)
      (marks : (c : Cap) (g : Gate) → is_off_wire (reference_of old.values c) ≡ true → FitsMark old (mark_of old c) g → FitsMark between (mark_of between c) g) where
    abbrev its_question : QuestionState
    its_question = record { kind = kind; outcome = None }

    abbrev its_entry : Exchange QuestionEntry
    its_entry = new_exchange (record { forwards = None; ticket = Some old.next_ticket; is_sent = false; is_delivered = false; mentions = [] })

    its_values : between.values ≡ (called old q kind).values
    its_values = ap (λ s. s.values) only

    grown : GrowsTo old.values (called old q kind).values
    grown =
        record {
          promises = λ p x is. is;
          imports = λ i x is. is;
          answers = λ a x is. is;
          questions = put_grows old.values.questions q its_question (free_question old q within free);
        }

    values_grow : GrowsTo old.values between.values
    values_grow = rw (its_values) grown

    entry_is : get between.entries.questions q ≡ Some its_entry
    entry_is = ap (λ s. get s.entries.questions q) only ∙ put_at old.entries.questions q q its_entry true (is_itself q)

    over_is : between.waiting.over ≡ none_over
    over_is = ap (λ s. s.waiting.over) only ∙ none

    is_come : IsCome old between call
    is_come =
        record {
          passes =
              grows_passes old between values_grow (ap (λ s. s.waiting.over) only) embargoes (λ c g there off fits. marks c g off fits)
              (omega (arith, ap (λ s. s.next_ticket) only));
          grows = values_grow;
          over = over_is;
          calls = ap (λ s. s.waiting.calls) only;
          next = ap (λ s. s.next_ticket) only;
          ticket = refl;
          whose = (its_entry, entry_is, refl, refl, refl);
          ungiven = (
            its_question,
            ap (λ v. get v.questions q) its_values ∙ put_at old.values.questions q q its_question true (is_itself q),
            refl,
            ap (λ o. get o.questions q) over_is ∙ Rattle.std.specs.FinMap.get-empty {X = Outcome} Rattle.std.specs.Ordering.nat_cmp q,
          );
          fresh = (its_entry, entry_is, refl);
        }

  pub called_come : (kind : QuestionKind) → IsCome old (called old q kind) call
  called_come kind =
      is_come kind (called old q kind) refl (λ n v is. is) (λ c g off fits. marks_same old (called old q kind) c g refl refl fits)

  -- so the reference is what it was
  called_reference : (kind : QuestionKind) → reference_of (called old q kind).values cap ≡ reference_of old.values cap
  called_reference kind = reference_same old.values (called old q kind).values (called_come kind).grows cap there

  called_mark : (kind : QuestionKind) (c : Cap) → mark_of (called old q kind) c ≡ mark_of old c
  called_mark kind c = Rattle.cp_vat_laws.proofs.order.Same.mark_same old (called old q kind) c refl

  off_by : (reference : Standing) → reference_of old.values cap ≡ reference → is_off_wire reference ≡ true → IsOff (called old q kinds.Local).values (capability cap)
  off_by reference is off = rw (called_reference kinds.Local, is) off

  marked_only : (s : State) (embargo : Option ℕ) → with_mark s cap embargo ≡ record s { marks = (with_mark s cap embargo).marks }
  marked_only s embargo = mark_only s cap embargo ∙ ap (λ m. record s { marks = m }) (ap (λ x. x.marks) (sym (mark_only s cap embargo)))

  abbrev new_wire : State
  new_wire = with_mark (called old q kinds.Wire) cap None

  wire_fits : reference_of old.values cap ≡ on_wire → (c : Cap) (g : Gate) → is_off_wire (reference_of old.values c) ≡ true → FitsMark old (mark_of old c) g
      → (cap ≡ c) ⊎ (mark_of new_wire c ≡ mark_of (called old q kinds.Wire) c) → FitsMark new_wire (mark_of new_wire c) g
  wire_fits is c g off fits (inl same) = absurd (true≢false (sym off ∙ ap (λ x. is_off_wire (reference_of old.values x)) (sym same) ∙ ap is_off_wire is))
  wire_fits is c g off fits (inr same) =
      rw (same, called_mark kinds.Wire c) (fits_same old new_wire (mark_of old c) g (ap (λ s. s.waiting.over.embargoes) (marked_only (called old q kinds.Wire) None)) fits)

  pub wire_come : reference_of old.values cap ≡ on_wire → IsCome old new_wire call
  wire_come is =
      is_come kinds.Wire new_wire (marked_only (called old q kinds.Wire) None)
      (λ n v was. ap (λ s. get s.marks.embargoes n) (mark_only (called old q kinds.Wire) cap None) ∙ was)
      (λ c g off fits. wire_fits is c g off fits (mark_set (called old q kinds.Wire) cap c None))

  module _ (past : List Turn) (h : OrderHolds past old) (first : List Effect) (mid : State) (later : Sound mid) where
    abbrev Holds : Type 0
    Holds = OrderHolds (owning (events.Call cap request) (values.Question q) old first mid ∷ past) mid

    -- Called as it is.
    plain_holds : reference_of old.values cap ≡ plain → GoTo (called old q kinds.Local) call cap (Ok (first, mid)) → Holds
    plain_holds is goes =
        let clear = plain_unmarked old cap within there is in
        routed_holds past (events.Call cap request) (values.Question q) old (called old q kinds.Local) call (capability cap) h sound refl none (called_come kinds.Local) there first mid later
        (off_by plain is refl) clear (called_mark kinds.Local cap ∙ clear) goes.0 (rw (called_reference kinds.Local, is) goes.1)
        (λ g e. no_embargo (called old q kinds.Local).values cap g (subst (Routes (called old q kinds.Local).values cap) e goes.1)) goes.2

    -- Open on the wire: it is sent, and marks the reference.
    wire_holds : (between : State) → IsCome old between call → reference_of between.values cap ≡ on_wire → reference_of old.values cap ≡ on_wire
        → GoTo between call cap (Ok (first, mid)) → Holds
    wire_holds between come is was goes =
        let leaves = wire_route between.values cap goes.0 is goes.1 in
        exits_hold past (events.Call cap request) (values.Question q) old between call (capability cap) h sound refl none come there first mid later goes.0 goes.2 leaves.0
        (rw (is) goes.1) (inl leaves.1) (λ m mark off. true≢false (sym off ∙ ap is_off_wire was))

    wire_new : reference_of old.values cap ≡ on_wire → (between : State) → GoTo between call cap (Ok (first, mid)) → (b : Bool)
        → Ok between ≡ cond b (Ok new_wire) (Err Rattle.cp_vat_machine.specs.declared.fault.PeerFault.TheVariants.TableFull) → Holds
    wire_new is between goes true e =
        wire_holds between (rw (ok_in _ _ e) (wire_come is))
        (rw (ok_in _ _ e) (ap (λ s. reference_of s.values cap) (mark_only (called old q kinds.Wire) cap None) ∙ called_reference kinds.Wire ∙ is)) is goes
    wire_new is between goes false e = ok_out e

    wire_marked : reference_of old.values cap ≡ on_wire → (mark : Option (Option ℕ)) → mark_of old cap ≡ mark → (between : State)
        → Ok between ≡ marked (called old q kinds.Wire) cap mark → GoTo between call cap (Ok (first, mid)) → Holds
    wire_marked is (Some embargo) at between sets goes =
        wire_holds between (rw (ok_in _ _ sets) (called_come kinds.Wire)) (rw (ok_in _ _ sets) (called_reference kinds.Wire ∙ is)) is goes
    wire_marked is None at between sets goes = wire_new is between goes (has_mark_capacity (called old q kinds.Wire) cap) sets

    -- It came to something.
    module _ (v : Cap) (is : reference_of old.values cap ≡ came_to v) where
      kept : IsKept old v
      kept = came_kept old cap v sound is

      came_way : (kind : QuestionKind) (r : Route) → Routes (called old q kind).values v r → NameRoute (called old q kind).values (capability cap) r
      came_way kind r way = rw (called_reference kind, is) way

      came_off : (kind : QuestionKind) → IsOff (called old q kind).values (capability cap)
      came_off kind = rw (called_reference kind, is) refl

      -- under an embargo it came to something of this end
      here_if : (m : ℕ) → mark_of old cap ≡ Some (Some m) → IsOfThisEnd v
      here_if m mark = (sound.embargoes m v (mark_embargo old cap v m within is mark)).0

      -- to an import of the peer's, which it is sent to
      import_holds : (j : ℕ) → v ≡ caps.Import j → Go (called old q kinds.Wire) call (routes.Import j) (Ok (first, mid)) → Holds
      import_holds j at goes =
          exits_hold past (events.Call cap request) (values.Question q) old (called old q kinds.Wire) call (capability cap) h sound refl none (called_come kinds.Wire) there first mid later
          (routes.Import j) goes tt (came_way kinds.Wire (routes.Import j) (rw (at) (1, refl))) (inl tt) (λ m mark off. subst IsOfThisEnd at (here_if m mark))

      -- to what fails
      fails_holds : (x : Rattle.cp_messages.specs.declared.exception.Exception.Exception) → (IsOfThisEnd v → ⊥) → ((r : Route) → Routes (called old q kinds.Local).values v r → r ≡ routes.Fail x)
          → GoTo (called old q kinds.Local) call v (Ok (first, mid)) → Holds
      fails_holds x away fails goes =
          let route_is = fails goes.0 goes.1 in
          exits_hold past (events.Call cap request) (values.Question q) old (called old q kinds.Local) call (capability cap) h sound refl none (called_come kinds.Local) there first mid later
          goes.0 goes.2 (rw (route_is) tt) (came_way kinds.Local goes.0 goes.1) (inr (came_off kinds.Local)) (λ m mark off. away (here_if m mark))

      -- unmarked, to something of this end
      unmarked_holds : mark_of old cap ≡ None → GoTo (called old q kinds.Local) call v (Ok (first, mid)) → Holds
      unmarked_holds clear goes =
          routed_holds past (events.Call cap request) (values.Question q) old (called old q kinds.Local) call (capability cap) h sound refl none (called_come kinds.Local) there first mid later
          (came_off kinds.Local) clear (called_mark kinds.Local cap ∙ clear) goes.0 (came_way kinds.Local goes.0 goes.1)
          (λ g e. no_embargo (called old q kinds.Local).values v g (subst (Routes (called old q kinds.Local).values v) e goes.1)) goes.2

      -- A call waits at an embargo of the reference.
      at_embargo : (between : State) (come : IsCome old between call) (n : ℕ) → get between.marks.embargoes n ≡ Some v → mark_of between cap ≡ Some (Some n)
          → ((gate : Gate) (m : ℕ) → FitsMark old (mark_of old cap) gate → gates.Embargo n ≡ gates.Embargo m → gate ≡ gates.Embargo m)
          → ((gate : Gate) (m : ℕ) → FitsMark old (mark_of old cap) gate → gate ≡ gates.Embargo m → gates.Embargo n ≡ gates.Embargo m)
          → (f : List Effect) → ((s : State) → flat_map (Rattle.cp_vat_machine.specs.Exits.exit_by s) f ≡ []) → Sound (held_at between call (gates.Embargo n))
          → OrderHolds (owning (events.Call cap request) (values.Question q) old f (held_at between call (gates.Embargo n)) ∷ past) (held_at between call (gates.Embargo n))
      at_embargo between come n leads mark up down f quiet then =
          let routed = has_route old v kept.ends in
          let way = grow_routes old.values between.values come.grows v routed.0 routed.1 in
          let over : get between.waiting.over.embargoes n ≡ None = ap (λ o. gave o (gates.Embargo n)) come.over ∙ none_gave (gates.Embargo n) in
          let reference : reference_of between.values cap ≡ came_to v = reference_same old.values between.values come.grows cap there ∙ is in
          held_holds past (events.Call cap request) (values.Question q) old between call (capability cap) h sound refl none come there f (gates.Embargo n) then quiet routed.0
          (rw (reference) way) (rw (over) (v, leads, way))
          (rw (reference) refl, rw (Rattle.cp_vat_laws.proofs.order.Same.mark_same between (held_at between call (gates.Embargo n)) cap refl, mark) (refl, over))
          (λ gate m fits at. up gate m fits.1 at) (λ gate m fits at. down gate m fits.1 at)

      -- one that is marked already, with its embargo
      next_holds : (n : ℕ) → mark_of old cap ≡ Some (Some n) → Go (called old q kinds.Local) call (routes.Wait (gates.Embargo n)) (Ok (first, mid)) → Holds
      next_holds n mark goes = by first mid later (ok_in _ _ goes)
        where
          same_gate : (mark : Option (Option ℕ)) → mark ≡ Some (Some n) → (gate : Gate) → FitsMark old mark gate → gate ≡ gates.Embargo n
          same_gate None e gate fits = none_out e
          same_gate (Some None) e gate fits = absurd fits
          same_gate (Some (Some m)) e gate fits = fits.0 ∙ ap (λ k. gates.Embargo k) (some_out (some_out e))

          by : (f : List Effect) (m : State) → Sound m → ◌≡◌ {A = List Effect × State} (f, m) ([], held_at (called old q kinds.Local) call (gates.Embargo n))
              → OrderHolds (owning (events.Call cap request) (values.Question q) old f m ∷ past) m
          by f m then e =
              rw
              (ap (λ d. d.0) e, ap (λ d. d.1) e)
              (at_embargo (called old q kinds.Local) (called_come kinds.Local) n (mark_embargo old cap v n within is mark) (called_mark kinds.Local cap ∙ mark)
              (λ gate m fits at. same_gate (mark_of old cap) mark gate fits ∙ at) (λ gate m fits at. sym (same_gate (mark_of old cap) mark gate fits) ∙ at) [] (λ s. refl)
              (rw (ap (λ d. d.1) e) at then))

      -- the first one after those that were sent: a Disembargo goes out, and it waits for the echo
      module _ (n : ℕ) (unused : get old.marks.embargoes n ≡ None) (mark : mark_of old cap ≡ Some None) where
        abbrev opened : State
        opened =
            record (called old q kinds.Local) {
              marks = record (called old q kinds.Local).marks { embargoes = insert (called old q kinds.Local).marks.embargoes n v };
            }

        abbrev new_mark : State
        new_mark = with_mark opened cap (Some n)

        not_free : (mark : Option (Option ℕ)) → mark ≡ Some None → (gate : Gate) → FitsMark old mark gate → ⊥
        not_free None e gate fits = none_out e
        not_free (Some None) e gate fits = fits
        not_free (Some (Some m)) e gate fits = none_out (sym (some_out e))

        new_fits : (c : Cap) (g : Gate) → FitsMark old (mark_of old c) g → (cap ≡ c) ⊎ (mark_of new_mark c ≡ mark_of opened c) → FitsMark new_mark (mark_of new_mark c) g
        new_fits c g fits (inl same) = absurd (not_free (mark_of old c) (ap (mark_of old) (sym same) ∙ mark) g fits)
        new_fits c g fits (inr same) =
            rw (same, opened_mark c) (fits_same old new_mark (mark_of old c) g (ap (λ s. s.waiting.over.embargoes) (mark_only opened cap (Some n))) fits)
          where
            opened_mark : (c : Cap) → mark_of opened c ≡ mark_of old c
            opened_mark caps.None = refl
            opened_mark (caps.Object k) = refl
            opened_mark (caps.Promise p) = refl
            opened_mark (caps.Import i) = refl
            opened_mark (caps.Pipelined r path) = refl
            opened_mark (caps.Broken x) = refl

        new_only : new_mark ≡ record (called old q kinds.Local) { marks = new_mark.marks }
        new_only = marked_only opened (Some n)

        new_come : IsCome old new_mark call
        new_come =
            is_come kinds.Local new_mark new_only
            (λ m w was. ap (λ s. get s.marks.embargoes m) (mark_only opened cap (Some n)) ∙ put_grows old.marks.embargoes n v unused m w was)
            (λ c g off fits. new_fits c g fits (mark_set opened cap c (Some n)))

        first_holds : ◌≡◌ {A = List Effect × State} (first, mid) (disembargo_of n cap ∷ [], held_at new_mark call (gates.Embargo n)) → Holds
        first_holds e = by first mid later e
          where
            by : (f : List Effect) (m : State) → Sound m → ◌≡◌ {A = List Effect × State} (f, m) (disembargo_of n cap ∷ [], held_at new_mark call (gates.Embargo n))
                → OrderHolds (owning (events.Call cap request) (values.Question q) old f m ∷ past) m
            by f m then e =
                rw
                (ap (λ d. d.0) e, ap (λ d. d.1) e)
                (at_embargo new_mark new_come n (ap (λ s. get s.marks.embargoes n) (mark_only opened cap (Some n)) ∙ put_at old.marks.embargoes n n v true (is_itself n))
                (mark_got opened cap (Some n) (rw (called_reference kinds.Local, is) refl))
                (λ gate m fits at. absurd (not_free (mark_of old cap) mark gate fits)) (λ gate m fits at. absurd (not_free (mark_of old cap) mark gate fits))
                (disembargo_of n cap ∷ []) (λ s. refl) (rw (ap (λ d. d.1) e) at then))

      back_holds : (mark : Option (Option ℕ)) → mark_of old cap ≡ mark → GoBack (called old q kinds.Local) call cap v mark (Ok (first, mid)) → Holds
      back_holds None at goes = unmarked_holds at goes
      back_holds (Some None) at goes =
          let parts = then_out {A = ℕ} {B = Done} (Fresh old.marks.embargoes) _ (first, mid) goes in
          first_holds parts.0 (free_at old.marks.embargoes parts.0 parts.1) at (ok_in _ _ parts.2)
      back_holds (Some (Some n)) at goes = next_holds n at goes

    one_fail : (values : Rattle.cp_refs.specs.Values.ValueMaps) (c : Cap) (x : Rattle.cp_messages.specs.declared.exception.Exception.Exception)
        → Routes values c (routes.Fail x) → (r : Route) → Routes values c r → r ≡ routes.Fail x
    one_fail values c x fails r way = Rattle.cp_vat_laws.proofs.order.Routes.one_route values c r (routes.Fail x) way fails

    by_value : (v : Cap) → reference_of old.values cap ≡ came_to v → GoByValue old q request cap v (Ok (first, mid)) → Holds
    by_value (caps.Import j) is goes = import_holds (caps.Import j) is j refl goes
    by_value (caps.Object k) is goes = back_holds (caps.Object k) is (mark_of old cap) refl goes
    by_value (caps.Promise p) is goes = back_holds (caps.Promise p) is (mark_of old cap) refl goes
    by_value caps.None is goes =
        fails_holds caps.None is Rattle.cp_refs.specs.At.null_capability (λ x. x) (one_fail (called old q kinds.Local).values caps.None Rattle.cp_refs.specs.At.null_capability (1, refl)) goes
    by_value (caps.Pipelined r path) is goes = absurd (true≢false (kept (caps.Pipelined r path) is).plain_)
    by_value (caps.Broken x) is goes = fails_holds (caps.Broken x) is x (λ y. y) (one_fail (called old q kinds.Local).values (caps.Broken x) x (1, refl)) goes

    -- The call goes.
    from_holds : (reference : Standing) → reference_of old.values cap ≡ reference → GoFrom old q request cap reference (Ok (first, mid)) → Holds
    from_holds plain is goes = plain_holds is goes
    from_holds on_wire is goes =
        let parts = then_out {A = State} {B = Done} (λ mid. mid ≡ marked (called old q kinds.Wire) cap (mark_of old cap)) _ (first, mid) goes in
        wire_marked is (mark_of old cap) refl parts.0 parts.1 parts.2
    from_holds (came_to v) is goes = by_value v is goes

-- what a call that isn't refused names is there
first_all : (test : Cap → Bool) (cap : Cap) (more : List Cap) → not_all test (cap ∷ more) ≡ false → test cap ≡ true
first_all test cap more e = by (test cap) e
  where
    by : (b : Bool) → not (b && list_all test more) ≡ false → b ≡ true
    by true e = refl
    by false e = absurd (true≢false e)

question_some : (s : State) (q : ℕ) → Within s None [] → (e : Option (Exchange QuestionEntry)) → get s.entries.questions q ≡ e → is_own e ≡ true → is_some (get s.values.questions q) ≡ true
question_some s q w None is own = absurd (true≢false (sym own))
question_some s q w (Some entry) is own = by entry.kept.forwards (get s.values.questions q) (rw (is) at (w.questions_valued q)) own
  where
    by : (f : Option ℕ) (o : Option QuestionState) → OwnIs f entry.stage o → (not (is_some f) && Rattle.cp_vat_machine.specs.InUse.is_unfinished entry.stage) ≡ true → is_some o ≡ true
    by None None h own = absurd h
    by None (Some x) h own = refl
    by (Some a) o h own = absurd (true≢false (sym own))

named_there : (s : State) (cap : Cap) → Within s None [] → has_question s cap ≡ true → has_promise s cap ≡ true → has_import s cap ≡ true → is_there s.values (capability cap) ≡ true
named_there s caps.None w question promise import_ = refl
named_there s (caps.Object k) w question promise import_ = refl
named_there s (caps.Promise p) w question promise import_ = promise
named_there s (caps.Import i) w question promise import_ = sym (w.imports_valued i) ∙ import_
named_there s (caps.Pipelined q path) w question promise import_ = question_some s q w (get s.entries.questions q) refl question
named_there s (caps.Broken x) w question promise import_ = refl

abbrev question_faults : State → Cap → Request → List VatFault
question_faults s cap request = fault_if (not_all (has_question s) (cap ∷ request.caps)) refusals.UnknownQuestion

abbrev promise_faults : State → Cap → Request → List VatFault
promise_faults s cap request = fault_if (not_all (has_promise s) (cap ∷ request.caps)) refusals.UnknownPromise

abbrev path_faults : State → Cap → Request → List VatFault
path_faults s cap request = fault_if (Rattle.std.specs.List.list_any (is_local_path s) request.caps) refusals.Unsettled

abbrev size_faults : State → Cap → Request → List VatFault
size_faults s cap request = fault_if (not (cap_fits cap && request_fits request)) refusals.TooLarge

abbrev room_faults : State → List VatFault
room_faults s = fault_if (not (has_capacity s.entries.questions && has_ticket s)) refusals.Full

abbrev import_faults : State → Cap → Request → List VatFault
import_faults s cap request = fault_if (not_all (has_import s) (cap ∷ request.caps)) refusals.UnknownImport

pub call_there : (s : State) (cap : Cap) (request : Request) → Within s None [] → call_refusals s cap request ≡ [] → is_there s.values (capability cap) ≡ true
call_there s cap request w fine =
    let Q = question_faults s cap request in
    let P = promise_faults s cap request in
    let L = path_faults s cap request in
    let S = size_faults s cap request in
    let R = room_faults s in
    let I = import_faults s cap request in
    let five = front_empty (Q ++ P ++ L ++ S ++ R) I fine in
    let four = front_empty (Q ++ P ++ L ++ S) R five in
    let three = front_empty (Q ++ P ++ L) S four in
    let two = front_empty (Q ++ P) L three in
    named_there s cap w
    (first_all (has_question s) cap request.caps (not_met (not_all (has_question s) (cap ∷ request.caps)) _ (front_empty Q P two)))
    (first_all (has_promise s) cap request.caps (not_met (not_all (has_promise s) (cap ∷ request.caps)) _ (back_empty Q P two)))
    (first_all (has_import s) cap request.caps (not_met (not_all (has_import s) (cap ∷ request.caps)) _ (back_empty (Q ++ P ++ L ++ S ++ R) I fine)))

-- The turn of the application's call.
pub do_call : (past : List Turn) (old : State) (cap : Cap) (request : Request) (value : Value) (first : List Effect) (mid : State) → OrderHolds past old → Within old None []
    → old.waiting.over ≡ none_over → Sound mid → DoCall old cap request (Ok (value, first, mid)) → OrderHolds (owning (events.Call cap request) value old first mid ∷ past) mid
do_call past old cap request value first mid h within none later does =
    let there = call_there old cap request within (no_faults (call_refusals old cap request) _ (value, first, mid) does) in
    let opens = or_full_out {A = OwnDone} (Opens old cap request) (value, first, mid) (unless_out (call_refusals old cap request) _ (value, first, mid) does) in
    let fresh = then_out {A = ℕ} {B = OwnDone} (Fresh old.entries.questions) _ (value, first, mid) opens in
    let goes = then_out {A = Done} {B = OwnDone} (GoFrom old fresh.0 request cap (reference_of old.values cap)) _ (value, first, mid) fresh.2 in
    by fresh.0 (free_at old.entries.questions fresh.0 fresh.1) there goes.0.0 goes.0.1 goes.1 value first mid later (ok_in _ _ goes.2)
  where
    by : (q : ℕ) → get old.entries.questions q ≡ None → is_there old.values (capability cap) ≡ true → (f : List Effect) (m : State)
        → GoFrom old q request cap (reference_of old.values cap) (Ok (f, m)) → (v : Value) (x : List Effect) (y : State) → Sound y
        → ◌≡◌ {A = OwnDone} (v, x, y) (values.Question q, f, m) → OrderHolds (owning (events.Call cap request) v old x y ∷ past) y
    by q free there f m goes v x y then e =
        rw
        (ap (λ d. d.0) e, ap (λ d. d.1) e, ap (λ d. d.2) e)
        (from_holds old q request cap within none free there past h f m (rw (ap (λ d. d.2) e) at then) (reference_of old.values cap) refl goes)
