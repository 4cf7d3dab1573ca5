-- Where a call goes, by its route.
use Rattle.std.specs.Prelude.{◌≡◌, refl, ℕ, zero, suc, ◌+◌, ◌==◌, Bool, true, false, List, [], Option, Some, None, Ok}
use Rattle.std.specs.List.{AllByRecursion}
use Rattle.std.specs.FinMap.{get, insert}
use Rattle.std.proofs.Common.{arith, ap, sym, ◌∙◌}
use Rattle.cp_tables.specs.Exchange.{new_exchange}
use Rattle.cp_tables.specs.declared.exchange.Exchange.{Exchange}
use Rattle.cp_tables.specs.declared.exchange.Stage.TheVariants as stages
use Rattle.cp_messages.specs.declared.descriptor.Descriptor.{Descriptor}
use Rattle.cp_messages.specs.declared.target.Target.{Target}
use Rattle.cp_messages.specs.declared.target.Target.TheVariants as targets
use Rattle.cp_refs.specs.At.{cap_at}
use Rattle.cp_refs.specs.Route.{Way, ends, leads, missing, promise_way, open_way, outcome_way, question_way, way, route_by, route_within, Routes}
use Rattle.cp_refs.specs.Values.{ValueMaps}
use Rattle.cp_refs.specs.declared.cap.Cap.{Cap}
use Rattle.cp_refs.specs.declared.cap.Cap.TheVariants as caps
use Rattle.cp_refs.specs.declared.call.Origin.{Origin}
use Rattle.cp_refs.specs.declared.call.Origin.TheVariants as origins
use Rattle.cp_refs.specs.declared.outcome.Outcome.{Outcome}
use Rattle.cp_refs.specs.declared.outcome.Outcome.TheVariants as outcomes
use Rattle.cp_refs.specs.declared.route.Gate.{Gate}
use Rattle.cp_refs.specs.declared.route.Gate.TheVariants as gates
use Rattle.cp_refs.specs.declared.route.Route.{Route}
use Rattle.cp_refs.specs.declared.route.Route.TheVariants as routes
use Rattle.cp_refs.specs.declared.values.QuestionState.{QuestionState}
use Rattle.cp_refs.specs.declared.values.QuestionKind.{QuestionKind}
use Rattle.cp_refs.specs.declared.values.QuestionKind.TheVariants as kinds
use Rattle.cp_vat_machine.specs.State.{State, gave, with_questions}
use Rattle.cp_vat_machine.specs.Then.{Done}
use Rattle.cp_vat_machine.specs.Capacity.{Fresh}
use Rattle.cp_vat_machine.specs.Writing.{WritesDescriptors, promised, mentions_of}
use Rattle.cp_vat_machine.specs.Give.{Give}
use Rattle.cp_vat_machine.specs.Go.{PendingCall, delivered, forwarding, sent, GoOut, Go, GoTo}
use Rattle.cp_vat_machine.specs.InUse.{caps_of, is_pipelined_of, is_at_question}
use Rattle.cp_vat_machine.specs.Local.{waiting_of, forwarding_of, one_if, IsTicketOf, is_wire, IsSentIf}
use Rattle.cp_vat_machine.specs.declared.entry.QuestionEntry.{QuestionEntry}
use Rattle.cp_vat_machine.proofs.Basics.{some_out, none_out, ok_in, then_out}
use Rattle.cp_vat_laws.specs.Within.{Within, HasAnswerPlace, HasQuestionPlace, AreValues, IsPlain, IsFit, IsUngivenIf, IsInHand}
use Rattle.cp_vat_laws.proofs.Tables.{there_of}
use Rattle.cp_vat_laws.proofs.within.AllKept.{at_path}
use Rattle.cp_vat_laws.proofs.within.Follows.{plain_of}
use Rattle.cp_vat_laws.proofs.within.Exports.{OnlyExports, say_all_keeps, in_hand_only}
use Rattle.cp_vat_laws.proofs.within.Take.{fresh_is}
use Rattle.cp_vat_laws.proofs.within.Settle.{any_promise, any_question}
use Rattle.cp_vat_laws.proofs.within.InHand.{alone_some, is_held}
use Rattle.cp_vat_laws.proofs.within.Give.{IsToGive, give_answer_keeps}
use Rattle.cp_vat_laws.proofs.within.GiveOwn.{IsToSettle, give_own_keeps}
use Rattle.cp_vat_laws.proofs.within.Rest.{IsHere, held_within, answer_delivered, own_rests, answer_forwarded}

-- where a call in hand may wait
pub record MayWait (s : State) (gate : Gate) : Type 0 where
  pub ungiven : IsUngivenIf s (gave s.waiting.over gate) gate
  pub off : (q : ℕ) (entry : Exchange QuestionEntry) → get s.entries.questions q ≡ Some entry → entry.stage ≡ stages.Finished → is_at_question q gate ≡ false

-- where a call in hand may go: a question on the wire only to the peer
abbrev pub MayGo : State → Origin → Route → Type 0
MayGo s origin (routes.Deliver k) = IsHere s origin
MayGo s origin (routes.Import i) = Unit {0}
MayGo s origin (routes.Pipe q path) = Unit {0}
MayGo s origin (routes.Wait gate) = IsHere s origin × MayWait s gate
MayGo s origin (routes.Fail x) = IsHere s origin

-- the call in hand is in no other place
pub answer_in_hand : {s : State} (a t : ℕ) → Within s (Some (origins.Answer a)) [] → IsTicketOf s (origins.Answer a) t → IsToGive s (Some (origins.Answer a)) a
answer_in_hand {s = s} a t h ticket =
    let place = there_of (HasAnswerPlace s (Some (origins.Answer a)) a) (get s.entries.answers a) ticket.0 ticket.1 (h.answers a) ticket.2 in
    let here : 1 + waiting_of s (origins.Answer a) + one_if ticket.0.kept.is_delivered + forwarding_of s a ≡ 1 = rw (is_held (origins.Answer a)) at place in
    record { alone = alone_some (origins.Answer a); waits = omega (arith, here); forwarded = omega (arith, here) }

module _ {s : State} (q t : ℕ) (h : Within s (Some (origins.Own q)) []) (ticket : IsTicketOf s (origins.Own q) t) where
  own_place : 1 + waiting_of s (origins.Own q) + one_if ticket.0.kept.is_delivered + one_if ticket.0.kept.is_sent ≡ 1
  own_place =
      let place = there_of (HasQuestionPlace s (Some (origins.Own q)) q) (get s.entries.questions q) ticket.0 ticket.1 (h.questions q) ticket.2 in
      rw (is_held (origins.Own q)) at place

  own_waits : waiting_of s (origins.Own q) ≡ 0
  own_waits = omega (arith, own_place)

  own_in_hand : is_wire (get s.values.questions q) ≡ false → IsToSettle s (Some (origins.Own q)) q
  own_in_hand here =
      record {
        alone = alone_some (origins.Own q);
        waits = own_waits;
        own = λ e is. ap (λ (x : Exchange QuestionEntry). x.kept.forwards) (some_out (sym is ∙ ticket.1)) ∙ ticket.4;
        sent = λ e is. rw (here) tt;
      }

pub zero_is_false : (b : Bool) → one_if b ≡ 0 → b ≡ false
zero_is_false true is = absurd (one_zero is)
  where
    one_zero : ◌≡◌ {A = ℕ} 1 0 → ⊥
    one_zero is = omega (arith, is)
zero_is_false false is = refl

sent_if : (b : Bool) (kept : QuestionEntry) → kept.is_sent ≡ true → kept.is_delivered ≡ false → IsSentIf b kept
sent_if true kept sent held = (sent, held)
sent_if false kept sent held = tt

-- an outcome is given to the call in hand
give_in_hand : (s : State) (origin : Origin) (t : ℕ) (outcome : Outcome) (done : Done) → Within s (Some origin) [] → IsTicketOf s origin t → IsHere s origin
    → AllByRecursion (IsFit s) (caps_of outcome)
    → Give s origin outcome (Ok done) → Within done.1 None []
give_in_hand s (origins.Answer a) t outcome done h ticket here fit gives = give_answer_keeps s (Some (origins.Answer a)) a outcome done h
    (answer_in_hand a t h ticket) fit gives
give_in_hand s (origins.Own q) t outcome done h ticket here fit gives = give_own_keeps s (Some (origins.Own q)) q outcome done h
    (own_in_hand q t h ticket here) fit gives

-- it is delivered
delivers : (s : State) (origin : Origin) (t : ℕ) → Within s (Some origin) [] → IsTicketOf s origin t → IsHere s origin → Within (delivered s origin) None []
delivers s (origins.Answer a) t h ticket here = rw (ticket.1) (answer_delivered a h ticket.0 ticket.1)
delivers s (origins.Own q) t h ticket here =
    let place = own_place q t h ticket in
    let entry : Exchange QuestionEntry = ticket.0 in
    let changed : Exchange QuestionEntry = record entry { kept = record entry.kept { is_delivered = true } } in
    let not_sent : entry.kept.is_sent ≡ false = zero_is_false entry.kept.is_sent (omega (arith, place)) in
    rw
    (ticket.1)
    (own_rests q h entry changed ticket.1 refl refl refl ticket.4 (λ open_. rw (not_sent) (omega (arith, place))) (rw (here) tt))

-- it goes to the peer
module _ (s mid : State) (call : PendingCall) (table : List Descriptor) where
  goes_on : (a q : ℕ) → call.origin ≡ origins.Answer a → OnlyExports s (Some (origins.Answer a)) [] mid → IsInHand s call → get s.entries.questions q ≡ None
      → Within (with_questions mid (insert mid.entries.questions q (new_exchange (forwarding a call table)))) None []
  goes_on a q is said i fresh =
      let in_mid = in_hand_only s mid call said.1 i in
      let whose : IsTicketOf mid (origins.Answer a) call.ticket = rw is at in_mid.whose in
      answer_forwarded a q said.0 (forwarding a call table) (rw (said.1) fresh) refl refl refl whose

  goes_own : (q : ℕ) → call.origin ≡ origins.Own q → OnlyExports s (Some (origins.Own q)) [] mid → IsInHand s call → Within (sent mid q table) None []
  goes_own q is said i =
      let in_mid = in_hand_only s mid call said.1 i in
      let ticket : IsTicketOf mid (origins.Own q) call.ticket = rw is at in_mid.whose in
      let place = own_place q call.ticket said.0 ticket in
      let entry : Exchange QuestionEntry = ticket.0 in
      let changed : Exchange QuestionEntry = record entry { kept = record entry.kept { is_sent = true; mentions = mentions_of table } } in
      let held_back : entry.kept.is_delivered ≡ false = zero_is_false entry.kept.is_delivered (omega (arith, place)) in
      rw
      (ticket.1)
      (own_rests q said.0 entry changed ticket.1 refl refl refl ticket.4 (λ open_. rw (held_back) (omega (arith, place)))
      (sent_if (is_wire (get mid.values.questions q)) changed.kept refl held_back))

go_out_keeps : (s : State) (call : PendingCall) (target : Target) (origin : Origin) (done : Done) → call.origin ≡ origin → Within s (Some origin) []
    → IsInHand s call → GoOut s call target origin (Ok done)
    → Within done.1 None []
go_out_keeps s call target (origins.Answer a) done is h i goes =
    let fresh = then_out {A = ℕ} {B = Done} (Fresh s.entries.questions) _ done goes in
    let said = then_out {A = List Descriptor × State} {B = Done} (WritesDescriptors s call.request.caps) _ done fresh.2 in
    rw
    (ok_in _ _ said.2)
    (goes_on s said.0.1 call said.0.0 a fresh.0 is (say_all_keeps (Some (origins.Answer a)) [] call.request.caps s said.0 h said.1) i
    (fresh_is s.entries.questions (Ok fresh.0) fresh.1))
go_out_keeps s call target (origins.Own q) done is h i goes =
    let said = then_out {A = List Descriptor × State} {B = Done} (WritesDescriptors s call.request.caps) _ done goes.2 in
    rw (ok_in _ _ said.2) (goes_own s said.0.1 call said.0.0 q is (say_all_keeps (Some (origins.Own q)) [] call.request.caps s said.0 h said.1) i)

-- A call goes by its route.
pub go_keeps : (s : State) (call : PendingCall) (route : Route) (done : Done) → Within s (Some call.origin) [] → IsInHand s call → MayGo s call.origin route
    → Go s call route (Ok done)
    → Within done.1 None []
go_keeps s call (routes.Deliver k) done h i may goes = rw (ok_in _ _ goes) (delivers s call.origin call.ticket h i.whose may)
go_keeps s call (routes.Import j) done h i may goes = go_out_keeps s call (targets.ImportedCap j) call.origin done refl h i goes
go_keeps s call (routes.Pipe q path) done h i may goes = go_out_keeps s call (targets.PromisedAnswer (promised q path)) call.origin done refl h i goes
go_keeps s call (routes.Wait gate) done h i may goes = rw (ok_in _ _ goes) (held_within call h i may.0 gate may.1.ungiven may.1.off)
go_keeps s call (routes.Fail x) done h i may goes = give_in_hand s call.origin call.ticket (outcomes.Failed x) done h i.whose may tt goes

-- A way that doesn't begin at a path of a question doesn't end there: values name no such paths.
abbrev IsGateOff : ℕ → Gate → Type 0
IsGateOff q (gates.Answer a path) = ⊥
IsGateOff q (gates.Promise p) = Unit {0}
IsGateOff q (gates.Question r path) = (r == q) ≡ false
IsGateOff q (gates.Embargo n) = ⊥

abbrev IsRouteOff : ℕ → Route → Type 0
IsRouteOff q (routes.Wait gate) = IsGateOff q gate
IsRouteOff q other = Unit {0}

abbrev IsWayOff : ℕ → Way → Type 0
IsWayOff q (ends route) = IsRouteOff q route
IsWayOff q (leads c) = is_pipelined_of q c ≡ false
IsWayOff q missing = Unit {0}

module _ (values : ValueMaps) (q : ℕ) (plain : AreValues IsPlain values) where
  promise_off : (p : ℕ) (o : Option (Option Cap)) → get values.promises p ≡ o → IsWayOff q (promise_way p o)
  promise_off p None is = tt
  promise_off p (Some None) is = tt
  promise_off p (Some (Some value)) is = plain_of q value (plain.promises p value is)

  open_off : (kind : QuestionKind) (r : ℕ) (path : List ℕ) → (r == q) ≡ false → IsRouteOff q (open_way kind r path)
  open_off kinds.Wire r path other = tt
  open_off kinds.Local r path other = other

  outcome_off : (kind : QuestionKind) (r : ℕ) (path : List ℕ) (o : Option Outcome) → (r == q) ≡ false
      → ((outcome : Outcome) → o ≡ Some outcome → AllByRecursion IsPlain (caps_of outcome))
      → IsWayOff q (outcome_way kind r path o)
  outcome_off kind r path None other all = open_off kind r path other
  outcome_off kind r path (Some outcome) other all = plain_of q (cap_at outcome path) (at_path IsPlain outcome path refl (λ x. refl) (all outcome refl))

  question_off : (r : ℕ) (path : List ℕ) (o : Option QuestionState) → get values.questions r ≡ o → (r == q) ≡ false → IsWayOff q (question_way r path o)
  question_off r path None is other = tt
  question_off r path (Some question) is other = outcome_off question.kind r path question.outcome other
      (λ outcome given. plain.questions r question outcome is given)

  way_off : (c : Cap) → is_pipelined_of q c ≡ false → IsWayOff q (way values c)
  way_off caps.None other = tt
  way_off (caps.Object k) other = tt
  way_off (caps.Promise p) other = promise_off p (get values.promises p) refl
  way_off (caps.Import i) other = tt
  way_off (caps.Pipelined r path) other = question_off r path (get values.questions r) refl other
  way_off (caps.Broken x) other = tt

  off_by : (n : ℕ) (w : Way) (r : Route) → ((c : Cap) → is_pipelined_of q c ≡ false → route_within n values c ≡ Some r → IsRouteOff q r) → IsWayOff q w
      → route_by (λ next. route_within n values next) w ≡ Some r → IsRouteOff q r
  off_by n (ends x) r more off is = rw (← some_out is) off
  off_by n (leads c) r more off is = more c off is
  off_by n missing r more off is = none_out is

  off_within : (n : ℕ) (c : Cap) (r : Route) → is_pipelined_of q c ≡ false → route_within n values c ≡ Some r → IsRouteOff q r
  off_within zero c r other is = none_out is
  off_within (suc n) c r other is = off_by n (way values c) r (λ d. off_within n d r) (way_off c other) is

  gate_off : (c : Cap) (gate : Gate) → is_pipelined_of q c ≡ false → Routes values c (routes.Wait gate) → IsGateOff q gate
  gate_off c gate other routed = off_within routed.0 c (routes.Wait gate) other routed.1

off_question : (q : ℕ) (gate : Gate) → IsGateOff q gate → is_at_question q gate ≡ false
off_question q (gates.Answer a path) off = absurd off
off_question q (gates.Promise p) off = refl
off_question q (gates.Question r path) off = off
off_question q (gates.Embargo n) off = absurd off

-- The gate of a way is no answer and no embargo.
abbrev IsOnWay : Gate → Type 0
IsOnWay (gates.Answer a path) = ⊥
IsOnWay (gates.Embargo n) = ⊥
IsOnWay other = Unit {0}

abbrev IsRouteOn : Route → Type 0
IsRouteOn (routes.Wait gate) = IsOnWay gate
IsRouteOn other = Unit {0}

abbrev IsWayOn : Way → Type 0
IsWayOn (ends route) = IsRouteOn route
IsWayOn (leads c) = Unit {0}
IsWayOn missing = Unit {0}

module _ (values : ValueMaps) where
  promise_on : (p : ℕ) (o : Option (Option Cap)) → IsWayOn (promise_way p o)
  promise_on p None = tt
  promise_on p (Some None) = tt
  promise_on p (Some (Some value)) = tt

  open_on : (kind : QuestionKind) (q : ℕ) (path : List ℕ) → IsRouteOn (open_way kind q path)
  open_on kinds.Wire q path = tt
  open_on kinds.Local q path = tt

  outcome_on : (kind : QuestionKind) (q : ℕ) (path : List ℕ) (o : Option Outcome) → IsWayOn (outcome_way kind q path o)
  outcome_on kind q path None = open_on kind q path
  outcome_on kind q path (Some outcome) = tt

  question_on : (q : ℕ) (path : List ℕ) (o : Option QuestionState) → IsWayOn (question_way q path o)
  question_on q path None = tt
  question_on q path (Some question) = outcome_on question.kind q path question.outcome

  way_on : (c : Cap) → IsWayOn (way values c)
  way_on caps.None = tt
  way_on (caps.Object k) = tt
  way_on (caps.Promise p) = promise_on p (get values.promises p)
  way_on (caps.Import i) = tt
  way_on (caps.Pipelined q path) = question_on q path (get values.questions q)
  way_on (caps.Broken x) = tt

  on_by : (n : ℕ) (w : Way) (r : Route) → ((c : Cap) → route_within n values c ≡ Some r → IsRouteOn r) → IsWayOn w
      → route_by (λ next. route_within n values next) w ≡ Some r → IsRouteOn r
  on_by n (ends x) r more on is = rw (← some_out is) on
  on_by n (leads c) r more on is = more c is
  on_by n missing r more on is = none_out is

  on_within : (n : ℕ) (c : Cap) (r : Route) → route_within n values c ≡ Some r → IsRouteOn r
  on_within zero c r is = none_out is
  on_within (suc n) c r is = on_by n (way values c) r (λ d. on_within n d r) (way_on c) is

  pub route_on : (c : Cap) (r : Route) → Routes values c r → IsRouteOn r
  route_on c r routed = on_within routed.0 c r routed.1

ungiven_on : (s : State) (gate : Gate) → IsOnWay gate → IsUngivenIf s (gave s.waiting.over gate) gate
ungiven_on s (gates.Answer a path) on = absurd on
ungiven_on s (gates.Promise p) on = any_promise s p (gave s.waiting.over (gates.Promise p))
ungiven_on s (gates.Question q path) on = any_question s q path (gave s.waiting.over (gates.Question q path))
ungiven_on s (gates.Embargo n) on = absurd on

-- A call on a capability that names no path of a finished question goes by its route.
abbrev pub IsTarget : State → Cap → Type 0
IsTarget s cap = (q : ℕ) (entry : Exchange QuestionEntry) → get s.entries.questions q ≡ Some entry → entry.stage ≡ stages.Finished
    → is_pipelined_of q cap ≡ false

pub plain_target : (s : State) (cap : Cap) → IsPlain cap → IsTarget s cap
plain_target s cap plain q entry is at = plain_of q cap plain

may_go : {s : State} {hand : Option Origin} → Within s hand [] → (origin : Origin) (cap : Cap) (route : Route) → IsTarget s cap → IsHere s origin
    → Routes s.values cap route → MayGo s origin route
may_go h origin cap (routes.Deliver k) target here routed = here
may_go h origin cap (routes.Import i) target here routed = tt
may_go h origin cap (routes.Pipe q path) target here routed = tt
may_go {s = s} h origin cap (routes.Wait gate) target here routed = (
  here,
  record {
    ungiven = ungiven_on s gate (route_on s.values cap (routes.Wait gate) routed);
    off = λ q entry is at. off_question q gate (gate_off s.values q h.plain cap gate (target q entry is at) routed);
  },
)
may_go h origin cap (routes.Fail x) target here routed = here

pub go_to_keeps : (s : State) (call : PendingCall) (cap : Cap) (done : Done) → Within s (Some call.origin) [] → IsInHand s call → IsTarget s cap
    → IsHere s call.origin → GoTo s call cap (Ok done)
    → Within done.1 None []
go_to_keeps s call cap done h i target here goes = go_keeps s call goes.0 done h i (may_go h call.origin cap goes.0 target here goes.1) goes.2
