-- What a call of the application does.
use Rattle.std.specs.Prelude.{◌≡◌, refl, ℕ, zero, suc, ◌==◌, ◌⊎◌, not, cond, Bool, true, false, List, [], ◌∷◌, Option, Some, None, is_some, Ok, Err, ◌&&◌}
use Rattle.std.specs.List.{list_any, AllByRecursion, list_all}
use Rattle.std.specs.FinMap.{get, insert, values, get-empty}
use Rattle.std.specs.Ordering.{nat_cmp}
use Rattle.std.proofs.Common.{inl, inr, ap, sym, subst, ◌∙◌, true≢false}
use Rattle.cp_tables.specs.Exchange.{new_exchange}
use Rattle.cp_tables.specs.declared.exchange.Exchange.{Exchange}
use Rattle.cp_tables.specs.declared.exchange.Stage.TheVariants as stages
use Rattle.cp_refs.specs.At.{cap_at}
use Rattle.cp_refs.specs.Route.{ends, way, route_by, route_within, Routes, HasRoute}
use Rattle.cp_refs.specs.Values.{ValueMaps}
use Rattle.cp_refs.specs.declared.cap.Cap.{Cap}
use Rattle.cp_refs.specs.declared.cap.Cap.TheVariants as caps
use Rattle.cp_refs.specs.declared.call.Origin.TheVariants as origins
use Rattle.cp_refs.specs.declared.outcome.Outcome.{Outcome}
use Rattle.cp_refs.specs.declared.route.Gate.TheVariants as gates
use Rattle.cp_refs.specs.declared.route.Route.{Route}
use Rattle.cp_refs.specs.declared.route.Route.TheVariants as routes
use Rattle.cp_refs.specs.declared.values.QuestionState.{QuestionState}
use Rattle.cp_refs.specs.declared.values.QuestionKind.{QuestionKind}
use Rattle.cp_refs.specs.declared.values.QuestionKind.TheVariants as kinds
use Rattle.cp_refs.specs.declared.call.Request.{Request}
use Rattle.cp_vat_machine.specs.State.{State, Marks, gave, none_over}
use Rattle.cp_vat_machine.specs.Then.{Done, OrFull, fault_if}
use Rattle.cp_vat_machine.specs.Capacity.{Fresh, has_capacity, has_ticket, cap_fits, request_fits}
use Rattle.cp_vat_machine.specs.Go.{PendingCall, held_at, GoTo}
use Rattle.cp_vat_machine.specs.InUse.{caps_of, is_pipelined_of, is_local_path, is_unfinished, is_own, has_question, has_promise, has_import}
use Rattle.cp_vat_machine.specs.Local.{IsThere, is_wire, HasWaiting, IsExportable, IsPathMark, path_value, IsImportMark}
use Rattle.cp_vat_machine.specs.declared.entry.QuestionEntry.{QuestionEntry}
use Rattle.cp_vat_machine.specs.Calling.{on_wire, came_to, import_reference, path_reference, question_reference, reference_of, called, own_call, mark_of, with_mark, has_mark_capacity, marked, FirstEmbargoed, GoBack, GoByValue, GoFrom, OwnDone, Opens, not_all, call_refusals, DoCall}
use Rattle.cp_vat_machine.specs.Calling as calling
use Rattle.cp_vat_machine.specs.declared.fault.PeerFault.TheVariants as faults
use Rattle.cp_vat_machine.specs.declared.fault.VatFault.{VatFault}
use Rattle.cp_vat_machine.specs.declared.fault.VatFault.TheVariants as refusals
use Rattle.cp_vat_machine.proofs.Basics.{some_out, none_out, ok_in, then_out, is_equal, ok_out, unless_out, or_full_out}
use Rattle.cp_vat_laws.specs.Within.{Within, IsPlain, IsFit, IsInHand, NamesNoneFinished}
use Rattle.cp_vat_laws.proofs.Tables.{there_of, put_cases, all_of, no_faults, front_empty, back_empty, not_met, pass_none, none_pass}
use Rattle.cp_vat_laws.proofs.within.AllKept.{at_path, both_all}
use Rattle.cp_vat_laws.proofs.within.Take.{fresh_is, get_put}
use Rattle.cp_vat_laws.proofs.within.Settle.{any_embargo}
use Rattle.cp_vat_laws.proofs.within.StaysThere.{fresh_kept}
use Rattle.cp_vat_laws.proofs.within.Follows.{none_valued, never_finished, not_true}
use Rattle.cp_vat_laws.proofs.within.GiveOwn.{its_question}
use Rattle.cp_vat_laws.proofs.within.Rest.{held_within}
use Rattle.cp_vat_laws.proofs.within.Go.{MayGo, go_keeps, go_to_keeps, IsTarget, plain_target}
use Rattle.cp_vat_laws.proofs.within.Asks.{own_called, own_in_hand_now}
use Rattle.cp_vat_laws.proofs.within.Mark.{marks_import, marks_path, embargoes_import, embargoes_path}

-- what a reference came to, or that it is open on the wire
import_came : (o : Option (Option Cap)) (v : Cap) → import_reference o ≡ came_to v → o ≡ Some (Some v)
import_came None v is = absurd (cc)
import_came (Some None) v is = absurd (cc)
import_came (Some (Some w)) v is = cc

import_wired : (o : Option (Option Cap)) → import_reference o ≡ on_wire → o ≡ Some None
import_wired None is = absurd (cc)
import_wired (Some None) is = refl
import_wired (Some (Some w)) is = absurd (cc)

path_came : (path : List ℕ) (kind : QuestionKind) (o : Option Outcome) (v : Cap) → path_reference path kind o ≡ came_to v
    → (outcome : Outcome) × (o ≡ Some outcome) × (v ≡ cap_at outcome path)
path_came path kinds.Wire None v is = absurd (cc)
path_came path kinds.Local None v is = absurd (cc)
path_came path kinds.Wire (Some outcome) v is = (outcome, refl, sym (came_out _ _ is))
  where
    came_out : (a b : Cap) → came_to a ≡ came_to b → a ≡ b
    came_out a b e = cc
path_came path kinds.Local (Some outcome) v is = (outcome, refl, sym (came_out _ _ is))
  where
    came_out : (a b : Cap) → came_to a ≡ came_to b → a ≡ b
    came_out a b e = cc

path_wired : (path : List ℕ) (kind : QuestionKind) (o : Option Outcome) → path_reference path kind o ≡ on_wire → (kind ≡ kinds.Wire) × (o ≡ None)
path_wired path kinds.Wire None is = (refl, refl)
path_wired path kinds.Local None is = absurd (cc)
path_wired path kinds.Wire (Some outcome) is = absurd (cc)
path_wired path kinds.Local (Some outcome) is = absurd (cc)

question_came : (path : List ℕ) (o : Option QuestionState) (v : Cap) → question_reference path o ≡ came_to v
    → (question : QuestionState) × (outcome : Outcome) × (o ≡ Some question) × (question.outcome ≡ Some outcome) × (v ≡ cap_at outcome path)
question_came path None v is = absurd (cc)
question_came path (Some question) v is =
    let found = path_came path question.kind question.outcome v is in
    (question, found.0, refl, found.1, found.2)

question_wired : (path : List ℕ) (o : Option QuestionState) → question_reference path o ≡ on_wire
    → (question : QuestionState) × (o ≡ Some question) × (question.kind ≡ kinds.Wire) × (question.outcome ≡ None)
question_wired path None is = absurd (cc)
question_wired path (Some question) is =
    let found = path_wired path question.kind question.outcome is in
    (question, refl, found.0, found.1)

path_at : (o : Option QuestionState) (path : List ℕ) (question : QuestionState) (outcome : Outcome) (v : Cap) → o ≡ Some question → question.outcome ≡ Some outcome
    → v ≡ cap_at outcome path
    → path_value o path ≡ Some v
path_at o path question outcome v at given same = rw (at, given) (ap (λ c. Some c) (sym same))

never_plain : {Y : Type 0} {v : Cap} → calling.plain ≡ came_to v → Y
never_plain is = absurd (cc)

never_wired : {Y : Type 0} → calling.plain ≡ on_wire → Y
never_wired is = absurd (cc)

-- What a reference came to is fit to be a value.
pub came_fit : {s : State} → Within s None [] → (cap v : Cap) → reference_of s.values cap ≡ came_to v → IsFit s v
came_fit {s = s} h (caps.Import i) v is =
    let at = import_came (get s.values.imports i) v is in
    (h.plain.imports i v at, h.there.values_.imports i v at, h.ends.values_.imports i v at)
came_fit {s = s} h (caps.Pipelined q path) v is =
    let found = question_came path (get s.values.questions q) v is in
    let all = all_of (λ c. IsPlain c × (IsThere s c × HasRoute s.values c)) (IsFit s) (caps_of found.1) (λ c x. (x.0, x.1.0, x.1.1))
    (both_all IsPlain (λ c. IsThere s c × HasRoute s.values c) (caps_of found.1) (h.plain.questions q found.0 found.1 found.2 found.3)
    (both_all (IsThere s) (HasRoute s.values) (caps_of found.1) (h.there.values_.questions q found.0 found.1 found.2 found.3)
    (h.ends.values_.questions q found.0 found.1 found.2 found.3))) in
    rw (found.4) (at_path (IsFit s) found.1 path (refl, tt, (1, refl)) (λ x. (refl, tt, (1, refl))) all)
came_fit h caps.None v is = never_plain is
came_fit h (caps.Object k) v is = never_plain is
came_fit h (caps.Promise p) v is = never_plain is
came_fit h (caps.Broken x) v is = never_plain is

-- routes to the peer
import_route : (values : ValueMaps) (i : ℕ) (r : Route) → Routes values (caps.Import i) r → r ≡ routes.Import i
import_route values i r routed = by routed.0 routed.1
  where
    by : (n : ℕ) → route_within n values (caps.Import i) ≡ Some r → r ≡ routes.Import i
    by zero is = none_out is
    by (suc n) is = sym (some_out is)

pipe_route : (values : ValueMaps) (q : ℕ) (path : List ℕ) (question : QuestionState) (r : Route) → get values.questions q ≡ Some question
    → question.kind ≡ kinds.Wire → question.outcome ≡ None
    → Routes values (caps.Pipelined q path) r → r ≡ routes.Pipe q path
pipe_route values q path question r there wire unset routed = by routed.0 routed.1
  where
    its_way : way values (caps.Pipelined q path) ≡ ends (routes.Pipe q path)
    its_way = rw (there, wire, unset) refl

    by : (n : ℕ) → route_within n values (caps.Pipelined q path) ≡ Some r → r ≡ routes.Pipe q path
    by zero is = none_out is
    by (suc n) is = sym (some_out (subst (λ w. route_by (λ next. route_within n values next) w ≡ Some r) its_way is))

-- with other marks a call in hand stays so
in_hand_marks : (s : State) (marks : Marks) (call : PendingCall) → IsInHand s call → IsInHand (record s { marks = marks }) call
in_hand_marks s marks call i =
    record { whose = i.whose; given = i.given; free = i.free; sendable = i.sendable; there = i.there; ends = i.ends; unfinished = i.unfinished }

-- a test that holds of all
pub all_pass : (test : Cap → Bool) (table : List Cap) → not_all test table ≡ false → AllByRecursion (λ c. test c ≡ true) table
all_pass test [] is = tt
all_pass test (c ∷ table) is = by (test c) refl (all_pass test table) is
  where
    by : (b : Bool) → test c ≡ b → (not_all test table ≡ false → AllByRecursion (λ c. test c ≡ true) table) → not (b && list_all test table) ≡ false
        → AllByRecursion (λ c. test c ≡ true) (c ∷ table)
    by true t more is = (t, more is)
    by false t more is = absurd (true≢false is)

-- what the application may name is there
pub own_parts : (a b : Bool) → (not a && b) ≡ true → (a ≡ false) × (b ≡ true)
own_parts true b is = absurd (true≢false (sym is))
own_parts false b is = (refl, is)

pub not_forwards : (o : Option ℕ) → is_some o ≡ false → o ≡ None
not_forwards None is = refl
not_forwards (Some a) is = absurd (true≢false is)

module _ {s : State} (h : Within s None []) where
  own_there : (q : ℕ) (o : Option (Exchange QuestionEntry)) → get s.entries.questions q ≡ o → is_own o ≡ true → is_some (get s.values.questions q) ≡ true
  own_there q None at is = absurd (true≢false (sym is))
  own_there q (Some entry) at is =
      let parts = own_parts (is_some entry.kept.forwards) (is_unfinished entry.stage) is in
      let found = its_question entry.kept.forwards entry.stage (get s.values.questions q) (not_forwards entry.kept.forwards parts.0)
      (rw at at (h.questions_valued q)) in
      ap is_some found.1

  pub named_there : (c : Cap) → has_question s c ≡ true → has_promise s c ≡ true → has_import s c ≡ true → IsThere s c
  named_there caps.None question promise held = tt
  named_there (caps.Object k) question promise held = tt
  named_there (caps.Promise p) question promise held = promise
  named_there (caps.Import i) question promise held = held
  named_there (caps.Pipelined q path) question promise held = own_there q (get s.entries.questions q) refl question
  named_there (caps.Broken x) question promise held = tt

  pub all_named : (table : List Cap) → AllByRecursion (λ c. has_question s c ≡ true) table → AllByRecursion (λ c. has_promise s c ≡ true) table
      → AllByRecursion (λ c. has_import s c ≡ true) table
      → AllByRecursion (IsThere s) table
  all_named [] question promise held = tt
  all_named (c ∷ table) question promise held = (named_there c question.0 promise.0 held.0, all_named table question.1 promise.1 held.1)

unfinished_not : (entry : Exchange QuestionEntry) → entry.stage ≡ stages.Finished → is_own (Some entry) ≡ true → ⊥
unfinished_not entry at own =
    let parts = own_parts (is_some entry.kept.forwards) (is_unfinished entry.stage) own in
    let finished : is_unfinished entry.stage ≡ false = rw (at) refl in
    true≢false (sym parts.1 ∙ finished)

named_target : (s : State) (c : Cap) → has_question s c ≡ true → IsTarget s c
named_target s caps.None is q entry at stage = refl
named_target s (caps.Object k) is q entry at stage = refl
named_target s (caps.Promise p) is q entry at stage = refl
named_target s (caps.Import i) is q entry at stage = refl
named_target s (caps.Pipelined r path) is q entry at stage = not_true _ (λ same.
    let there : get s.entries.questions r ≡ Some entry = rw (is_equal r q same) at in
    unfinished_not entry stage (rw there at is))
named_target s (caps.Broken x) is q entry at stage = refl

named_none : (s : State) (table : List Cap) → AllByRecursion (λ c. has_question s c ≡ true) table → NamesNoneFinished s table
named_none s table all q entry at stage =
    pass_none (is_pipelined_of q) table (all_of (λ c. has_question s c ≡ true) (λ c. is_pipelined_of q c ≡ false) table
    (λ c is. named_target s c is q entry at stage) all)

-- A call of the application's, by what it names.
module _ (s : State) (h : Within s None []) (still : s.waiting.over ≡ none_over) (q : ℕ) (request : Request) (fresh : get s.entries.questions q ≡ None)
    (there : AllByRecursion (IsThere s) request.caps) (may : AllByRecursion (λ x. is_local_path s x ≡ false) request.caps)
    (none : NamesNoneFinished s request.caps) where
  not_over : get s.waiting.over.questions q ≡ None
  not_over = ap (λ o. get o.questions q) still ∙ get-empty {X = Outcome} nat_cmp q

  no_value : get s.values.questions q ≡ None
  no_value = none_valued h q fresh

  as_called : (kind : QuestionKind) → Within (called s q kind) (Some (origins.Own q)) []
  as_called kind = own_called h q kind fresh not_over

  in_hand : (kind : QuestionKind) → IsInHand (called s q kind) (own_call s q request)
  in_hand kind = own_in_hand_now h q kind fresh not_over request there may none

  local_here : is_wire (get (insert s.values.questions q (record { kind = kinds.Local; outcome = None })) q) ≡ false
  local_here = rw (get_put s.values.questions q (record { kind = kinds.Local; outcome = None })) refl

  target_on : (c : Cap) → IsTarget s c → IsTarget (called s q kinds.Local) c
  target_on c target r entry at stage = by (put_cases s.entries.questions q r _ entry at)
    where
      by : ((q ≡ r) × (new_exchange (record { forwards = None; ticket = Some s.next_ticket; is_sent = false; is_delivered = false; mentions = [] }) ≡ entry))
          ⊎ (((q == r) ≡ false) × (get s.entries.questions r ≡ Some entry)) → is_pipelined_of r c ≡ false
      by (inl new) = never_finished (ap (λ (x : Exchange QuestionEntry). x.stage) new.1 ∙ stage)
      by (inr old) = target r entry old.1 stage

  -- another question is as it was
  other_question : (r : ℕ) (question : QuestionState) (kind : QuestionKind) → get s.values.questions r ≡ Some question
      → get (insert s.values.questions q (record { kind = kind; outcome = None })) r ≡ Some question
  other_question r question kind at = fresh_kept s.values.questions q (record { kind = kind; outcome = None }) no_value r question at

  goes_plain : (cap : Cap) (done : Done) → IsTarget s cap → GoTo (called s q kinds.Local) (own_call s q request) cap (Ok done) → Within done.1 None []
  goes_plain cap done target goes = go_to_keeps (called s q kinds.Local) (own_call s q request) cap done (as_called kinds.Local) (in_hand kinds.Local)
      (target_on cap target) local_here goes

  goes_fit : (v : Cap) (done : Done) → IsPlain v → GoTo (called s q kinds.Local) (own_call s q request) v (Ok done) → Within done.1 None []
  goes_fit v done fit goes =
      go_to_keeps (called s q kinds.Local) (own_call s q request) v done (as_called kinds.Local) (in_hand kinds.Local)
      (plain_target (called s q kinds.Local) v fit) local_here goes

  -- on the wire
  import_goes : (mid : State) (i : ℕ) (done : Done) → Within mid (Some (origins.Own q)) [] → IsInHand mid (own_call s q request)
      → GoTo mid (own_call s q request) (caps.Import i) (Ok done)
      → Within done.1 None []
  import_goes mid i done within hand goes =
      let route = import_route mid.values i goes.0 goes.1 in
      let may_out : MayGo mid (origins.Own q) goes.0 = rw (route) tt in
      go_keeps mid (own_call s q request) goes.0 done within hand may_out goes.2

  path_goes : (mid : State) (r : ℕ) (path : List ℕ) (question : QuestionState) (done : Done) → Within mid (Some (origins.Own q)) []
      → IsInHand mid (own_call s q request)
      → get mid.values.questions r ≡ Some question → question.kind ≡ kinds.Wire → question.outcome ≡ None
      → GoTo mid (own_call s q request) (caps.Pipelined r path) (Ok done) → Within done.1 None []
  path_goes mid r path question done within hand at wire unset goes =
      let route = pipe_route mid.values r path question goes.0 at wire unset goes.1 in
      let may_out : MayGo mid (origins.Own q) goes.0 = rw (route) tt in
      go_keeps mid (own_call s q request) goes.0 done within hand may_out goes.2

  marked_import : (i : ℕ) (o : Option (Option ℕ)) (mid : State) → is_some (get s.counts.imports i) ≡ true
      → Ok mid ≡ marked (called s q kinds.Wire) (caps.Import i) o
      → Within mid (Some (origins.Own q)) [] × IsInHand mid (own_call s q request)
  marked_import i (Some embargo) mid counted is = rw (ok_in _ _ is) (as_called kinds.Wire, in_hand kinds.Wire)
  marked_import i None mid counted is =
      rw (ok_in _ _ is) (marks_import (as_called kinds.Wire) i counted, in_hand_marks (called s q kinds.Wire) _ (own_call s q request) (in_hand kinds.Wire))

  marked_path : (r : ℕ) (path : List ℕ) (o : Option (Option ℕ)) (mid : State) → is_wire (get (called s q kinds.Wire).values.questions r) ≡ true
      → Ok mid ≡ marked (called s q kinds.Wire) (caps.Pipelined r path) o
      → (Within mid (Some (origins.Own q)) [] × IsInHand mid (own_call s q request)) × (mid.values ≡ (called s q kinds.Wire).values)
  marked_path r path (Some embargo) mid wire is = rw (ok_in _ _ is) ((as_called kinds.Wire, in_hand kinds.Wire), refl)
  marked_path r path None mid wire is = by (has_mark_capacity (called s q kinds.Wire) (caps.Pipelined r path)) is
    where
      by : (b : Bool) → Ok mid ≡ cond b (Ok (with_mark (called s q kinds.Wire) (caps.Pipelined r path) None)) (Err faults.TableFull)
          → (Within mid (Some (origins.Own q)) [] × IsInHand mid (own_call s q request)) × (mid.values ≡ (called s q kinds.Wire).values)
      by true is =
          rw (ok_in _ _ is) (
            (
              marks_path (as_called kinds.Wire) r path wire,
              in_hand_marks (called s q kinds.Wire) _ (own_call s q request)
                  (in_hand kinds.Wire),
            ),
            refl,
          )
      by false is = ok_out is

  wire_goes : (cap : Cap) (mid : State) (done : Done) → reference_of s.values cap ≡ on_wire → Ok mid ≡ marked (called s q kinds.Wire) cap (mark_of s cap)
      → GoTo mid (own_call s q request) cap (Ok done) → Within done.1 None []
  wire_goes (caps.Import i) mid done is marks goes =
      let at = import_wired (get s.values.imports i) is in
      let counted : is_some (get s.counts.imports i) ≡ true = h.imports_valued i ∙ ap is_some at in
      let here = marked_import i (get s.marks.imports i) mid counted marks in
      import_goes mid i done here.0 here.1 goes
  wire_goes (caps.Pipelined r path) mid done is marks goes =
      let found = question_wired path (get s.values.questions r) is in
      let at = other_question r found.0 kinds.Wire found.1 in
      let wire : is_wire (get (called s q kinds.Wire).values.questions r) ≡ true = rw (at, found.2) refl in
      let here = marked_path r path (get s.marks.paths (r ∷ path)) mid wire marks in
      path_goes mid r path found.0 done here.0.0 here.0.1 (ap (λ v. get v.questions r) here.1 ∙ at) found.2 found.3 goes
  wire_goes caps.None mid done is marks goes = never_wired is
  wire_goes (caps.Object k) mid done is marks goes = never_wired is
  wire_goes (caps.Promise p) mid done is marks goes = never_wired is
  wire_goes (caps.Broken x) mid done is marks goes = never_wired is

  -- back to this end, after an embargo
  module _ (n : ℕ) where
    waits_at : Within (held_at (called s q kinds.Local) (own_call s q request) (gates.Embargo n)) None []
    waits_at =
        held_within (own_call s q request) (as_called kinds.Local) (in_hand kinds.Local) local_here (gates.Embargo n)
        (any_embargo (called s q kinds.Local) n (gave s.waiting.over (gates.Embargo n))) (λ r entry at stage. refl)

    somebody : HasWaiting (held_at (called s q kinds.Local) (own_call s q request) (gates.Embargo n)) n
    somebody = (s.next_ticket, _, get_put s.waiting.calls s.next_ticket _, refl)

    embargo_not_over : get s.waiting.over.embargoes n ≡ None
    embargo_not_over = ap (λ o. get o.embargoes n) still ∙ get-empty {X = Cap} nat_cmp n

  first_embargoed : (cap v : Cap) (done : Done) → reference_of s.values cap ≡ came_to v → mark_of s cap ≡ Some None → IsExportable s v
      → FirstEmbargoed (called s q kinds.Local) (own_call s q request) cap v (Ok done) → Within done.1 None []
  first_embargoed (caps.Import i) v done is at exportable goes =
      let parts = then_out {A = ℕ} {B = Done} (Fresh s.marks.embargoes) _ done goes in
      let mark = there_of (IsImportMark s i) (get s.marks.imports i) None at (h.import_marks i) in
      rw
      (ok_in _ _ parts.2)
      (embargoes_import (waits_at parts.0) parts.0 v (fresh_is s.marks.embargoes (Ok parts.0) parts.1) (embargo_not_over parts.0) exportable
      (somebody parts.0) i mark.0
      (import_came (get s.values.imports i) v is))
  first_embargoed (caps.Pipelined r path) v done is at exportable goes =
      let parts = then_out {A = ℕ} {B = Done} (Fresh s.marks.embargoes) _ done goes in
      let mark = there_of (IsPathMark s (r ∷ path)) (get s.marks.paths (r ∷ path)) None at (h.path_marks (r ∷ path)) in
      let found = question_came path (get s.values.questions r) v is in
      let there_now = other_question r found.0 kinds.Local found.2 in
      let wire_then : is_wire (Some found.0) ≡ true = rw found.2 at mark.0 in
      let wire : is_wire (get (insert s.values.questions q (record { kind = kinds.Local; outcome = None })) r) ≡ true = rw (there_now) wire_then in
      let came : path_value (get (insert s.values.questions q
      (record { kind = kinds.Local; outcome = None })) r) path ≡ Some v = path_at _ path found.0 found.1 v there_now found.3 found.4 in
      rw
      (ok_in _ _ parts.2)
      (embargoes_path (waits_at parts.0) parts.0 v (fresh_is s.marks.embargoes (Ok parts.0) parts.1) (embargo_not_over parts.0) exportable
      (somebody parts.0) r path wire came)
  first_embargoed caps.None v done is at exportable goes = never_plain is
  first_embargoed (caps.Object k) v done is at exportable goes = never_plain is
  first_embargoed (caps.Promise p) v done is at exportable goes = never_plain is
  first_embargoed (caps.Broken x) v done is at exportable goes = never_plain is

  goes_back : (cap v : Cap) (o : Option (Option ℕ)) (done : Done) → reference_of s.values cap ≡ came_to v → mark_of s cap ≡ o → IsExportable s v → IsPlain v
      → GoBack (called s q kinds.Local) (own_call s q request) cap v o (Ok done) → Within done.1 None []
  goes_back cap v None done is at exportable fit goes = goes_fit v done fit goes
  goes_back cap v (Some None) done is at exportable fit goes = first_embargoed cap v done is at exportable goes
  goes_back cap v (Some (Some n)) done is at exportable fit goes =
      go_keeps (called s q kinds.Local) (own_call s q request) (routes.Wait (gates.Embargo n)) done (as_called kinds.Local) (in_hand kinds.Local)
      (local_here, record { ungiven = any_embargo (called s q kinds.Local) n (gave s.waiting.over (gates.Embargo n)); off = λ r entry there_ stage. refl }) goes

  value_goes : (cap v : Cap) (done : Done) → reference_of s.values cap ≡ came_to v → GoByValue s q request cap v (Ok done) → Within done.1 None []
  value_goes cap (caps.Import j) done is goes = go_keeps (called s q kinds.Wire) (own_call s q request) (routes.Import j) done (as_called kinds.Wire)
      (in_hand kinds.Wire) tt goes
  value_goes cap (caps.Object k) done is goes = goes_back cap (caps.Object k) (mark_of s cap) done is refl tt refl goes
  value_goes cap (caps.Promise p) done is goes = goes_back cap (caps.Promise p) (mark_of s cap) done is refl (came_fit h cap (caps.Promise p) is).1 refl goes
  value_goes cap caps.None done is goes = goes_fit caps.None done refl goes
  value_goes cap (caps.Pipelined r path) done is goes = goes_fit (caps.Pipelined r path) done (came_fit h cap (caps.Pipelined r path) is).0 goes
  value_goes cap (caps.Broken x) done is goes = goes_fit (caps.Broken x) done refl goes

  goes_from : (cap : Cap) (ref : calling.Standing) (done : Done) → IsTarget s cap → reference_of s.values cap ≡ ref → GoFrom s q request cap ref (Ok done)
      → Within done.1 None []
  goes_from cap calling.plain done target is goes = goes_plain cap done target goes
  goes_from cap on_wire done target is goes =
      let parts = then_out {A = State} {B = Done} (λ mid. mid ≡ marked (called s q kinds.Wire) cap (mark_of s cap)) _ done goes in
      wire_goes cap parts.0 done is parts.1 parts.2
  goes_from cap (came_to v) done target is goes = value_goes cap v done is goes

opens_keeps : (s : State) (cap : Cap) (request : Request) (done : OwnDone) → Within s None [] → s.waiting.over ≡ none_over → IsTarget s cap
    → AllByRecursion (IsThere s) request.caps
    → AllByRecursion (λ x. is_local_path s x ≡ false) request.caps → NamesNoneFinished s request.caps → Opens s cap request (Ok done) → Within done.2 None []
opens_keeps s cap request done h still target there may none does =
    let fresh = then_out {A = ℕ} {B = OwnDone} (Fresh s.entries.questions) _ done does in
    let goes = then_out {A = Done} {B = OwnDone} (GoFrom s fresh.0 request cap (reference_of s.values cap)) _ done fresh.2 in
    rw
    (ok_in _ _ goes.2)
    (goes_from s h still fresh.0 request (fresh_is s.entries.questions (Ok fresh.0) fresh.1) there may none cap
    (reference_of s.values cap) goes.0 target refl goes.1)

pub do_call_keeps : (s : State) (cap : Cap) (request : Request) (done : OwnDone) → Within s None [] → s.waiting.over ≡ none_over
    → DoCall s cap request (Ok done) → Within done.2 None []
do_call_keeps s cap request done h still does =
    let rule = or_full_out (Opens s cap request) done (unless_out {A = OwnDone} {F = VatFault} (call_refusals s cap request)
    (OrFull (Opens s cap request)) done does) in
    let none = no_faults {A = OwnDone} {F = VatFault} (call_refusals s cap request) (OrFull (Opens s cap request)) done does in
    let five = front_empty _ (fault_if (not_all (has_import s) (cap ∷ request.caps)) refusals.UnknownImport) none in
    let held = all_pass (has_import s) (cap ∷ request.caps)
    (not_met _ refusals.UnknownImport (back_empty _ (fault_if (not_all (has_import s) (cap ∷ request.caps)) refusals.UnknownImport) none)) in
    let four = front_empty _ (fault_if (not (has_capacity s.entries.questions && has_ticket s)) refusals.Full) five in
    let three = front_empty _ (fault_if (not (cap_fits cap && request_fits request)) refusals.TooLarge) four in
    let may = none_pass (is_local_path s) request.caps (not_met _ refusals.Unsettled
    (back_empty _ (fault_if (list_any (is_local_path s) request.caps) refusals.Unsettled) three)) in
    let two = front_empty _ (fault_if (list_any (is_local_path s) request.caps) refusals.Unsettled) three in
    let promise = all_pass (has_promise s) (cap ∷ request.caps)
    (not_met _ refusals.UnknownPromise (back_empty _ (fault_if (not_all (has_promise s) (cap ∷ request.caps)) refusals.UnknownPromise) two)) in
    let question = all_pass (has_question s) (cap ∷ request.caps)
    (not_met _ refusals.UnknownQuestion (front_empty (fault_if (not_all (has_question s) (cap ∷ request.caps)) refusals.UnknownQuestion)
    (fault_if (not_all (has_promise s) (cap ∷ request.caps)) refusals.UnknownPromise) two)) in
    opens_keeps s cap request done h still (named_target s cap question.0) (all_named h request.caps question.1 promise.1 held.1) may
    (named_none s request.caps question.1) rule
