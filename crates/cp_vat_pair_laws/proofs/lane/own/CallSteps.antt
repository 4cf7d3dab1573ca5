-- What a call of the application does to its vat, before waiting calls leave: it opens a question, and is sent, delivered, held or failed.
use Rattle.std.specs.Prelude.{◌≡◌, ◌⊎◌, refl, ℕ, ◌==◌, cond, Bool, true, false, List, [], ◌∷◌, Option, Some, None, option_map, is_some, Ok, Err}
use Rattle.std.specs.List.{list_any, AllByRecursion}
use Rattle.std.specs.FinMap.{get, insert}
use Rattle.std.proofs.Common.{inl, inr, ap, sym, ◌∙◌, true≢false}
use Rattle.cp_tables.specs.Exchange.{new_exchange}
use Rattle.cp_tables.specs.declared.exchange.Exchange.{Exchange}
use Rattle.cp_tables.specs.declared.exchange.Stage.{Stage}
use Rattle.cp_tables.specs.declared.exchange.Stage.TheVariants as stages
use Rattle.cp_messages.specs.declared.descriptor.Descriptor.{Descriptor}
use Rattle.cp_messages.specs.declared.exception.Exception.{Exception}
use Rattle.cp_messages.specs.declared.message.Message.{Message}
use Rattle.cp_messages.specs.declared.message.Message.TheVariants as messages
use Rattle.cp_messages.specs.declared.target.Target.{Target}
use Rattle.cp_messages.specs.declared.target.Target.TheVariants as targets
use Rattle.cp_refs.specs.Route.{question_way, route_by, Routes}
use Rattle.cp_refs.specs.declared.cap.Cap.{Cap}
use Rattle.cp_refs.specs.declared.cap.Cap.TheVariants as caps
use Rattle.cp_refs.specs.declared.call.Origin.TheVariants as origins
use Rattle.cp_refs.specs.declared.call.Request.{Request}
use Rattle.cp_refs.specs.declared.outcome.Outcome.TheVariants as outcomes
use Rattle.cp_refs.specs.declared.route.Gate.{Gate}
use Rattle.cp_refs.specs.declared.route.Gate.TheVariants as gates
use Rattle.cp_refs.specs.declared.route.Route.{Route}
use Rattle.cp_refs.specs.declared.route.Route.TheVariants as routes
use Rattle.cp_refs.specs.declared.values.QuestionState.{QuestionState}
use Rattle.cp_refs.specs.declared.values.QuestionKind.{QuestionKind}
use Rattle.cp_refs.specs.declared.values.QuestionKind.TheVariants as kinds
use Rattle.cp_vat_machine.specs.State.{State}
use Rattle.cp_vat_machine.specs.Then.{Done}
use Rattle.cp_vat_machine.specs.Capacity.{Fresh}
use Rattle.cp_vat_machine.specs.Writing.{WritesDescriptors, promised, mentions_of}
use Rattle.cp_vat_machine.specs.Give.{GiveOwnBy}
use Rattle.cp_vat_machine.specs.Go.{PendingCall, held_at, delivered, call_of, sent, GoOut, Go, GoTo}
use Rattle.cp_vat_machine.specs.Calling.{plain, on_wire, came_to, reference_of, question_reference, called, own_call, mark_of, with_mark, has_mark_capacity, marked, old_target, disembargo_of, FirstEmbargoed, GoBack, GoByValue, GoFrom}
use Rattle.cp_vat_machine.specs.Calling as calling
use Rattle.cp_vat_machine.specs.declared.effect.Effect.{Effect}
use Rattle.cp_vat_machine.specs.declared.effect.Effect.TheVariants as effects
use Rattle.cp_vat_machine.specs.declared.entry.QuestionEntry.{QuestionEntry}
use Rattle.cp_vat_machine.specs.declared.fault.PeerFault.TheVariants as faults
use Rattle.cp_vat_machine.proofs.Basics.{some_out, none_out, ok_in, ok_out, then_out, is_equal, is_itself, put_at}
use Rattle.cp_vat_laws.proofs.order.Mark.{mark_set, mark_only}
use Rattle.cp_vat_laws.proofs.order.Routes.{one_route}
use Rattle.cp_vat_pair_laws.specs.Ledger.{opens}
use Rattle.cp_vat_pair_laws.specs.VatPair.{messages_sent}
use Rattle.cp_vat_pair_laws.specs.Naming.{is_loop}
use Rattle.cp_vat_pair_laws.specs.Lane.{Reference, import_, path_to, cap_of, names, own_ticket}
use Rattle.cp_vat_pair_laws.specs.Places.{NoneFinished}
use Rattle.cp_vat_pair_laws.proofs.counts.rules.Accounts.{free_out}
use Rattle.cp_vat_pair_laws.proofs.counts.rules.Say.{said_all}
use Rattle.cp_vat_pair_laws.proofs.still.Give.{changed_get}
use Rattle.cp_vat_pair_laws.proofs.still.Does.{asked_mails, wire_at}
use Rattle.cp_vat_pair_laws.proofs.lane.parts.Silent.{is_delivery, bearing_same, bearing_both, bearing_changed, own_silent, delivered_silent}
use Rattle.cp_vat_pair_laws.proofs.lane.parts.Go.{no_finish}
use Rattle.cp_vat_pair_laws.proofs.lane.own.NextTicket.{are_other, not_named}

-- What became of its question: it is on the wire, and its Call goes out; it is open here; or its call failed.
pub data AskedAs (s : State) (q : ℕ) (effects : List Effect) (new : State) : Type 0 where
  wired : (m : Message) → get new.values.questions q ≡ Some (record { kind = kinds.Wire; outcome = None }) → messages_sent effects ≡ m ∷ [] → opens q m ≡ true → AskedAs s q effects new
  here_yet : get new.values.questions q ≡ Some (record { kind = kinds.Local; outcome = None }) → AskedAs s q effects new
  broken : (x : Exception) (kind : QuestionKind) → get new.values.questions q ≡ Some (record { kind = kind; outcome = Some (outcomes.Failed x) }) → AskedAs s q effects new

-- it doesn't wait, or it waits with the next ticket
pub data WaitsAs (s : State) (q : ℕ) (new : State) : Type 0 where
  gone_on : new.waiting.calls ≡ s.waiting.calls → WaitsAs s q new
  held_too : (request : Request) (gate : Gate)
      → new.waiting.calls ≡ insert s.waiting.calls s.next_ticket (record { ticket = s.next_ticket; origin = origins.Own q; request = request; gate = gate }) → WaitsAs s q new

-- a Call that is sent has its question
abbrev pub IsSentUnder : ℕ → Message → Type 0
IsSentUnder q (messages.Call c) = c.question_id ≡ q
IsSentUnder q other = Unit {0}

-- what is delivered, if anything, is the call itself
abbrev pub DeliversOnly : State → ℕ → List Effect → Type 0
DeliversOnly s q done =
    (list_any is_delivery done ≡ false)
    ⊎ ((k : ℕ) × (request : Request) × (done ≡ effects.Deliver k (origins.Own q) s.next_ticket request ∷ []))

-- What the call leaves as it was, and what it does: but for its question, what it was called on, and what it sends.
pub record Called (s : State) (q : ℕ) (cap : Cap) (effects : List Effect) (new : State) : Type 0 where
  pub imports : new.values.imports ≡ s.values.imports
  pub questions : (r : ℕ) → (q == r) ≡ false → get new.values.questions r ≡ get s.values.questions r
  pub marks : (ref : Reference) → names ref cap ≡ false → mark_of new (cap_of ref) ≡ mark_of s (cap_of ref)
  pub ticket : own_ticket (get new.entries.questions q) ≡ s.next_ticket ∷ []
  pub tickets : (r : ℕ) → (q == r) ≡ false → own_ticket (get new.entries.questions r) ≡ own_ticket (get s.entries.questions r)
  pub waits_as_ : WaitsAs s q new
  pub opens_ : (r : ℕ) → (q == r) ≡ false → list_any (opens r) (messages_sent effects) ≡ false
  pub loops : (n : ℕ) → is_some (get s.marks.embargoes n) ≡ true → list_any (is_loop n) (messages_sent effects) ≡ false
  pub sends : AllByRecursion (IsSentUnder q) (messages_sent effects)
  pub delivers : DeliversOnly s q effects
  pub asked_as : AskedAs s q effects new

-- the vat where its question was opened, and perhaps its reference marked
pub record Starts (s : State) (q : ℕ) (kind : QuestionKind) (cap : Cap) (mid : State) : Type 0 where
  pub values_ : mid.values ≡ (called s q kind).values
  pub entries_ : mid.entries ≡ (called s q kind).entries
  pub waiting_ : mid.waiting ≡ s.waiting
  pub marks_ : (ref : Reference) → names ref cap ≡ false → mark_of mid (cap_of ref) ≡ mark_of s (cap_of ref)

-- What the call does from there leaves this beside its question.
pub record Aside (q : ℕ) (mid new : State) : Type 0 where
  pub imports : new.values.imports ≡ mid.values.imports
  pub questions : (r : ℕ) → (q == r) ≡ false → get new.values.questions r ≡ get mid.values.questions r
  pub marks : new.marks ≡ mid.marks
  pub tickets : (r : ℕ) → own_ticket (get new.entries.questions r) ≡ own_ticket (get mid.entries.questions r)

pub mark_same : (one other : State) (ref : Reference) → one.marks ≡ other.marks → mark_of one (cap_of ref) ≡ mark_of other (cap_of ref)
mark_same one other (import_ i) same = ap (λ m. get m.imports i) same
mark_same one other (path_to q path) same = ap (λ m. get m.paths (q ∷ path)) same

-- its Call goes out
pub record WentOut (q : ℕ) (request : Request) (target : Target) (mid : State) (done : Done) : Type 0 where
  pub table : List Descriptor
  pub is : done.0 ≡ call_of q target request table ∷ []
  pub values_ : done.1.values ≡ mid.values
  pub calls : done.1.waiting.calls ≡ mid.waiting.calls
  pub aside : Aside q mid done.1

module _ (s : State) (q : ℕ) (request : Request) (none : NoneFinished s) (fresh : get s.entries.questions q ≡ None) where
  abbrev call : PendingCall
  call = own_call s q request

  abbrev its_question : QuestionKind → QuestionState
  its_question kind = record { kind = kind; outcome = None }

  abbrev its_entry : Exchange QuestionEntry
  its_entry = new_exchange (record { forwards = None; ticket = Some s.next_ticket; is_sent = false; is_delivered = false; mentions = [] })

  pub starts_called : (kind : QuestionKind) (cap : Cap) → Starts s q kind cap (called s q kind)
  starts_called kind cap = record { values_ = refl; entries_ = refl; waiting_ = refl; marks_ = λ ref not. mark_same (called s q kind) s ref refl }

  starts_with : (kind : QuestionKind) (cap : Cap) (from : State) (embargo : Option ℕ) → Starts s q kind cap from → Starts s q kind cap (with_mark from cap embargo)
  starts_with kind cap from embargo h =
      let only = mark_only from cap embargo in
      record {
        values_ = ap (λ x. x.values) only ∙ h.values_;
        entries_ = ap (λ x. x.entries) only ∙ h.entries_;
        waiting_ = ap (λ x. x.waiting) only ∙ h.waiting_;
        marks_ = λ ref not. elim (mark_set from cap (cap_of ref) embargo) [
          | inl same ↦ absurd (not_named ref cap not same)
          | inr other ↦ other ∙ h.marks_ ref not
        ];
      }

  pub starts_marked : (kind : QuestionKind) (cap : Cap) (mark : Option (Option ℕ)) (mid : State) → Ok mid ≡ marked (called s q kind) cap mark → Starts s q kind cap mid
  starts_marked kind cap (Some embargo) mid is = rw (ok_in _ _ is) (starts_called kind cap)
  starts_marked kind cap None mid is = by (has_mark_capacity (called s q kind) cap) is
    where
      by : (b : Bool) → Ok mid ≡ cond b (Ok (with_mark (called s q kind) cap None)) (Err faults.TableFull) → Starts s q kind cap mid
      by true e = rw (ok_in _ _ e) (starts_with kind cap (called s q kind) None (starts_called kind cap))
      by false e = ok_out e

  -- from there
  module _ (kind : QuestionKind) (cap : Cap) (mid : State) (h : Starts s q kind cap mid) where
    entry_at : get mid.entries.questions q ≡ Some its_entry
    entry_at = ap (λ x. get x.questions q) h.entries_ ∙ put_at s.entries.questions q q its_entry true (is_itself q)

    question_at : get mid.values.questions q ≡ Some (its_question kind)
    question_at = ap (λ x. get x.questions q) h.values_ ∙ put_at s.values.questions q q (its_question kind) true (is_itself q)

    pub starts_none : NoneFinished mid
    starts_none = rw (h.entries_) ((asked_mails s q kind (Some s.next_ticket) false).unfinished none)

    called_by : (done : Done) → Aside q mid done.1 → WaitsAs s q done.1 → ((r : ℕ) → (q == r) ≡ false → list_any (opens r) (messages_sent done.0) ≡ false)
        → ((n : ℕ) → is_some (get s.marks.embargoes n) ≡ true → list_any (is_loop n) (messages_sent done.0) ≡ false) → AllByRecursion (IsSentUnder q) (messages_sent done.0)
        → DeliversOnly s q done.0 → AskedAs s q done.0 done.1 → Called s q cap done.0 done.1
    called_by done aside waits_ opens__ loops_ sends_ delivers_ asked_ =
        record {
          imports = aside.imports ∙ ap (λ x. x.imports) h.values_;
          questions = λ r other. aside.questions r other ∙ ap (λ x. get x.questions r) h.values_ ∙ put_at s.values.questions q r (its_question kind) false other;
          marks = λ ref not. mark_same done.1 mid ref aside.marks ∙ h.marks_ ref not;
          ticket = aside.tickets q ∙ ap own_ticket entry_at;
          tickets = λ r other.
              aside.tickets r ∙ ap (λ x. own_ticket (get x.questions r)) h.entries_ ∙ ap own_ticket (put_at s.entries.questions q r its_entry false other);
          waits_as_ = waits_;
          opens_ = opens__;
          loops = loops_;
          sends = sends_;
          delivers = delivers_;
          asked_as = asked_;
        }

    -- its Call goes out
    pub goes_out : (target : Target) (done : Done) → GoOut mid call target (origins.Own q) (Ok done) → WentOut q request target mid done
    goes_out target done goes =
        let parts = then_out {A = List Descriptor × State} {B = Done} (WritesDescriptors mid request.caps) _ done goes.2 in
        let said : State = parts.0.1 in
        let only = (said_all request.caps mid parts.0 parts.1).only in
        let bearing = bearing_both mid said (sent said q parts.0.0) (bearing_same mid said (ap (λ x. x.entries.questions) only))
        (bearing_changed (λ x. record x { kept = record x.kept { is_sent = true; mentions = mentions_of parts.0.0 } }) (λ x. (refl, refl)) said (sent said q parts.0.0) q refl) in
        let nothing = no_finish mid q goes.0 goes.0.stage starts_none goes.1 refl in
        rw
        (ok_in _ _ parts.2)
        (record {
          table = parts.0.0;
          is = ap (λ more. call_of q target request parts.0.0 ∷ more) nothing;
          values_ = ap (λ x. x.values) only;
          calls = ap (λ x. x.waiting.calls) only;
          aside =
              record {
                imports = ap (λ x. x.values.imports) only;
                questions = λ r other. ap (λ x. get x.values.questions r) only;
                marks = ap (λ x. x.marks) only;
                tickets = bearing.tickets;
              };
        })

    out_asked : (target : Target) (table : List Descriptor) (done : Done) → done.0 ≡ call_of q target request table ∷ [] → (k : QuestionKind)
        → get done.1.values.questions q ≡ Some (its_question k) → AskedAs s q done.0 done.1
    out_asked target table done is kinds.Wire at = wired _ at (ap messages_sent is) (is_itself q)
    out_asked target table done is kinds.Local at = here_yet at

    pub out_called : (target : Target) (done : Done) → GoOut mid call target (origins.Own q) (Ok done) → Called s q cap done.0 done.1
    out_called target done goes =
        let out = goes_out target done goes in
        called_by done out.aside (gone_on (out.calls ∙ ap (λ w. w.calls) h.waiting_)) (λ r other. rw (out.is, other) refl) (λ n open_. rw (out.is) refl) (rw (out.is) (refl, tt))
        (inl (rw (out.is) refl)) (out_asked target out.table done out.is kind (ap (λ x. get x.questions q) out.values_ ∙ question_at))

  -- by any route, where its question is the vat's own
  module _ (cap : Cap) (mid : State) (h : Starts s q kinds.Local cap mid) where
    its_wait : (gate : Gate) (new : State) → new.waiting.calls ≡ (held_at mid call gate).waiting.calls → WaitsAs s q new
    its_wait gate new is = held_too request gate (is ∙ ap (λ w. insert w.calls s.next_ticket (record { ticket = s.next_ticket; origin = origins.Own q; request = request; gate = gate })) h.waiting_)

    fails_by : (x : Exception) (entry : Exchange QuestionEntry) (stage : Stage) (done : Done) → get mid.entries.questions q ≡ Some entry → entry.stage ≡ stage
        → GiveOwnBy mid q (outcomes.Failed x) stage (Ok done) → Called s q cap done.0 done.1
    fails_by x entry stages.Open done is at gives =
        let silent = own_silent mid q (outcomes.Failed x) done (starts_none kinds.Local cap mid h) (entry, is, rw (at) gives) in
        let same = ok_in _ _ gives in
        let aside : Aside q mid done.1 =
        rw
        (same)
        (record {
          imports = refl;
          questions = λ r other. changed_get mid.values.questions q r (λ y. record y { outcome = Some (outcomes.Failed x) }) false other;
          marks = refl;
          tickets = rw same at silent.bearing.tickets;
        }) in
        let asked_ : AskedAs s q done.0 done.1 =
        rw
        (same)
        (broken x kinds.Local
        (changed_get mid.values.questions q q (λ y. record y { outcome = Some (outcomes.Failed x) }) true (is_itself q)
        ∙ ap (λ (o : Option QuestionState). option_map (λ (y : QuestionState). record y { outcome = Some (outcomes.Failed x) }) o) (question_at kinds.Local cap mid h))) in
        called_by kinds.Local cap mid h done aside (gone_on (silent.calls ∙ ap (λ w. w.calls) h.waiting_)) (λ r other. rw (same) refl) (λ n open_. rw (same) refl) (rw (same) tt)
        (inl silent.no_delivery) asked_
    fails_by x entry stages.Finished done is at gives =
        let same : its_entry ≡ entry = some_out (sym (entry_at kinds.Local cap mid h) ∙ is) in
        absurd (apart (ap (λ (e : Exchange QuestionEntry). e.stage) same ∙ at))
      where
        apart : stages.Open ≡ stages.Finished → ⊥
        apart e = cc
    fails_by x entry stages.Returned done is at gives = absurd gives

    pub local_goes : (route : Route) (done : Done) → Go mid call route (Ok done) → Called s q cap done.0 done.1
    local_goes (routes.Deliver k) done goes =
        rw
        (ok_in _ _ goes)
        (called_by kinds.Local cap mid h (effects.Deliver k (origins.Own q) s.next_ticket request ∷ [], delivered mid (origins.Own q))
        (record {
          imports = refl;
          questions = λ r other. refl;
          marks = refl;
          tickets = (delivered_silent mid (origins.Own q)).bearing.tickets;
        })
        (gone_on (ap (λ w. w.calls) h.waiting_)) (λ r other. refl) (λ n open_. refl) tt (inr (k, request, refl)) (here_yet (question_at kinds.Local cap mid h)))
    local_goes (routes.Import i) done goes = out_called kinds.Local cap mid h (targets.ImportedCap i) done goes
    local_goes (routes.Pipe r path) done goes = out_called kinds.Local cap mid h (targets.PromisedAnswer (promised r path)) done goes
    local_goes (routes.Wait gate) done goes =
        rw
        (ok_in _ _ goes)
        (called_by kinds.Local cap mid h ([], held_at mid call gate) (record { imports = refl; questions = λ r other. refl; marks = refl; tickets = λ r. refl })
        (its_wait gate (held_at mid call gate) refl) (λ r other. refl) (λ n open_. refl) tt (inl refl) (here_yet (question_at kinds.Local cap mid h)))
    local_goes (routes.Fail x) done goes = fails_by x goes.0 goes.0.stage done goes.1 refl goes.2

  -- the first after those that were sent: it waits for an echo
  abbrev pub with_embargo : Cap → Cap → ℕ → State
  with_embargo cap value n = with_mark (record (called s q kinds.Local) { marks = record s.marks { embargoes = insert s.marks.embargoes n value } }) cap (Some n)

  pub starts_embargoed : (cap value : Cap) (n : ℕ) → Starts s q kinds.Local cap (with_embargo cap value n)
  starts_embargoed cap value n =
      starts_with kinds.Local cap (record (called s q kinds.Local) { marks = record s.marks { embargoes = insert s.marks.embargoes n value } }) (Some n)
      (record { values_ = refl; entries_ = refl; waiting_ = refl; marks_ = λ ref not. before ref })
    where
      before : (ref : Reference) → mark_of (record (called s q kinds.Local) { marks = record s.marks { embargoes = insert s.marks.embargoes n value } }) (cap_of ref) ≡ mark_of s (cap_of ref)
      before (import_ i) = refl
      before (path_to r path) = refl

  pub embargoed_called : (cap value : Cap) (n : ℕ) → get s.marks.embargoes n ≡ None
      → Called s q cap (disembargo_of n cap ∷ []) (held_at (with_embargo cap value n) call (gates.Embargo n))
  embargoed_called cap value n closed =
      let mid : State = with_embargo cap value n in
      called_by kinds.Local cap mid (starts_embargoed cap value n) (disembargo_of n cap ∷ [], held_at mid call (gates.Embargo n))
      (record { imports = refl; questions = λ r other. refl; marks = refl; tickets = λ r. refl })
      (its_wait cap mid (starts_embargoed cap value n) (gates.Embargo n) (held_at mid call (gates.Embargo n)) refl) (λ r other. refl) (λ m open_. rw (are_other n m (closed_not m open_)) refl) (tt, tt)
      (inl refl) (here_yet (question_at kinds.Local cap mid (starts_embargoed cap value n)))
    where
      closed_not : (m : ℕ) → is_some (get s.marks.embargoes m) ≡ true → n ≡ m → ⊥
      closed_not m open_ same = true≢false (sym open_ ∙ ap (λ k. is_some (get s.marks.embargoes k)) (sym same) ∙ ap is_some closed)

  -- from the rule
  local_called : (cap to : Cap) (done : Done) → GoTo (called s q kinds.Local) call to (Ok done) → Called s q cap done.0 done.1
  local_called cap to done goes = local_goes cap (called s q kinds.Local) (starts_called kinds.Local cap) goes.0 done goes.2

  back_called : (cap value : Cap) (mark : Option (Option ℕ)) (done : Done) → GoBack (called s q kinds.Local) call cap value mark (Ok done) → Called s q cap done.0 done.1
  back_called cap value None done goes = local_called cap value done goes
  back_called cap value (Some None) done goes =
      let parts = then_out {A = ℕ} {B = Done} (Fresh s.marks.embargoes) _ done goes in
      rw (ok_in _ _ parts.2) (embargoed_called cap value parts.0 (free_out s.marks.embargoes parts.0 parts.1))
  back_called cap value (Some (Some n)) done goes =
      local_goes cap (called s q kinds.Local) (starts_called kinds.Local cap) (routes.Wait (gates.Embargo n)) done goes

  value_called : (cap value : Cap) (done : Done) → GoByValue s q request cap value (Ok done) → Called s q cap done.0 done.1
  value_called cap (caps.Import j) done goes = out_called kinds.Wire cap (called s q kinds.Wire) (starts_called kinds.Wire cap) (targets.ImportedCap j) done goes
  value_called cap (caps.Object k) done goes = back_called cap (caps.Object k) (mark_of s cap) done goes
  value_called cap (caps.Promise p) done goes = back_called cap (caps.Promise p) (mark_of s cap) done goes
  value_called cap caps.None done goes = local_called cap caps.None done goes
  value_called cap (caps.Pipelined r path) done goes = local_called cap (caps.Pipelined r path) done goes
  value_called cap (caps.Broken x) done goes = local_called cap (caps.Broken x) done goes

  -- on the wire it goes out to its reference's own target
  never_wired : {A : Type 0} → plain ≡ on_wire → A
  never_wired is = absurd (cc)

  pub wire_out : (unvalued : get s.values.questions q ≡ None) (cap : Cap) (mid : State) (done : Done) → reference_of s.values cap ≡ on_wire → Starts s q kinds.Wire cap mid
      → GoTo mid call cap (Ok done) → GoOut mid call (old_target cap) (origins.Own q) (Ok done)
  wire_out unvalued (caps.Import i) mid done is h goes =
      let route : goes.0 ≡ routes.Import i = one_route mid.values (caps.Import i) goes.0 (routes.Import i) goes.1 (1, refl) in
      rw route at goes.2
  wire_out unvalued (caps.Pipelined r path) mid done is h goes =
      let was = wire_at path (get s.values.questions r) is in
      let at : get mid.values.questions r ≡ Some (its_question kinds.Wire) = ap (λ x. get x.questions r) h.values_ ∙ stays r (q == r) refl was in
      let piped : Routes mid.values (caps.Pipelined r path) (routes.Pipe r path) = (1, ap (λ o. route_by (λ next. None) (question_way r path o)) at) in
      let route : goes.0 ≡ routes.Pipe r path = one_route mid.values (caps.Pipelined r path) goes.0 (routes.Pipe r path) goes.1 piped in
      rw route at goes.2
    where
      stays : (r : ℕ) (b : Bool) → (q == r) ≡ b → get s.values.questions r ≡ Some (its_question kinds.Wire) → get (called s q kinds.Wire).values.questions r ≡ Some (its_question kinds.Wire)
      stays r true t was = none_out (sym unvalued ∙ ap (λ n. get s.values.questions n) (is_equal q r t) ∙ was)
      stays r false t was = put_at s.values.questions q r (its_question kinds.Wire) false t ∙ was
  wire_out unvalued caps.None mid done is h goes = never_wired is
  wire_out unvalued (caps.Object k) mid done is h goes = never_wired is
  wire_out unvalued (caps.Promise p) mid done is h goes = never_wired is
  wire_out unvalued (caps.Broken x) mid done is h goes = never_wired is

  pub from_called : (unvalued : get s.values.questions q ≡ None) (cap : Cap) (ref : calling.Standing) (done : Done) → reference_of s.values cap ≡ ref
      → GoFrom s q request cap ref (Ok done) → Called s q cap done.0 done.1
  from_called unvalued cap plain done is goes = local_called cap cap done goes
  from_called unvalued cap on_wire done is goes =
      let parts = then_out {A = State} {B = Done} (λ mid. mid ≡ marked (called s q kinds.Wire) cap (mark_of s cap)) _ done goes in
      let starts = starts_marked kinds.Wire cap (mark_of s cap) parts.0 parts.1 in
      out_called kinds.Wire cap parts.0 starts (old_target cap) done (wire_out unvalued cap parts.0 done is starts parts.2)
  from_called unvalued cap (came_to value) done is goes = value_called cap value done goes
