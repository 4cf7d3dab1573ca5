-- A turn of waiting calls at its own end keeps each lane.
use Rattle.std.specs.Prelude.{◌≡◌, ◌⊎◌, refl, ℕ, zero, suc, ◌==◌, ◌<◌, Bool, true, false, List, [], ◌∷◌, ◌++◌, map, flat_map, Option, Some, None, option_map, is_some, not, IsTrue, Ok}
use Rattle.std.specs.List.{list_any, AllByRecursion}
use Rattle.std.specs.FinMap.{get, values}
use Rattle.std.proofs.Common.{inl, inr, arith, ap, subst, sym, ◌∙◌, append-nil, true≢false}
use Rattle.std.proofs.lemmas.List.Elements.{filter-append}
use Rattle.std.proofs.lemmas.Grind.{flat_map-append}
use Rattle.cp_tables.specs.declared.exchange.Exchange.{Exchange}
use Rattle.cp_tables.specs.declared.exchange.Stage.{Stage}
use Rattle.cp_tables.specs.declared.exchange.Stage.TheVariants as stages
use Rattle.cp_messages.specs.declared.descriptor.Descriptor.{Descriptor}
use Rattle.cp_messages.specs.declared.exception.Exception.{Exception}
use Rattle.cp_messages.specs.declared.message.Message.{Message}
use Rattle.cp_messages.specs.declared.target.Target.{Target}
use Rattle.cp_messages.specs.declared.target.Target.TheVariants as targets
use Rattle.cp_refs.specs.At.{cap_at}
use Rattle.cp_refs.specs.Route.{Routes, route_within}
use Rattle.cp_refs.specs.Values.{ValueMaps}
use Rattle.cp_refs.specs.declared.cap.Cap.{Cap}
use Rattle.cp_refs.specs.declared.cap.Cap.TheVariants as caps
use Rattle.cp_refs.specs.declared.call.WaitingCall.{WaitingCall}
use Rattle.cp_refs.specs.declared.call.Origin.{Origin}
use Rattle.cp_refs.specs.declared.call.Origin.TheVariants as origins
use Rattle.cp_refs.specs.declared.call.Request.{Request}
use Rattle.cp_refs.specs.declared.outcome.Outcome.{Outcome}
use Rattle.cp_refs.specs.declared.outcome.Outcome.TheVariants as outcomes
use Rattle.cp_refs.specs.declared.route.Gate.{Gate}
use Rattle.cp_refs.specs.declared.route.Gate.TheVariants as gates
use Rattle.cp_refs.specs.declared.route.Route.{Route}
use Rattle.cp_refs.specs.declared.route.Route.TheVariants as routes
use Rattle.cp_refs.specs.declared.values.QuestionState.{QuestionState}
use Rattle.cp_refs.specs.declared.values.QuestionKind.{QuestionKind}
use Rattle.cp_refs.specs.declared.values.QuestionKind.TheVariants as kinds
use Rattle.cp_vat_machine.specs.State.{State, gave, with_exports}
use Rattle.cp_vat_machine.specs.Then.{Done}
use Rattle.cp_vat_machine.specs.Capacity.{Fresh}
use Rattle.cp_vat_machine.specs.Writing.{IsExport, WritesDescriptors, promised}
use Rattle.cp_vat_machine.specs.Give.{question_settled, GiveOwnBy, Give}
use Rattle.cp_vat_machine.specs.Go as going
use Rattle.cp_vat_machine.specs.Go.{PendingCall, held_at, delivered, sent, finish_after, call_of, GoOut, Go, GoTo, IsNext, without_call, underway}
use Rattle.cp_vat_machine.specs.InUse.{is_question_here, is_open_here}
use Rattle.cp_vat_machine.specs.Calling.{mark_of}
use Rattle.cp_vat_machine.specs.Local.{IsTicketOf, AnswerIs, is_wire, IsImportMark, IsPathMark}
use Rattle.cp_vat_machine.specs.declared.effect.Effect.{Effect}
use Rattle.cp_vat_machine.specs.declared.effect.Effect.TheVariants as effects
use Rattle.cp_vat_machine.specs.declared.entry.QuestionEntry.{QuestionEntry}
use Rattle.cp_vat_machine.proofs.Basics.{some_out, none_out, ok_in, then_out, is_equal, not_equal, all_front, or_first, or_second}
use Rattle.cp_vat_laws.specs.Within.{Within, WaitsFor}
use Rattle.cp_vat_laws.proofs.Tables.{there_of, gone_cases}
use Rattle.cp_vat_laws.proofs.within.GiveOwn.{its_question}
use Rattle.cp_vat_pair_laws.specs.Accounts.{is_finish_noted}
use Rattle.cp_vat_pair_laws.specs.VatPair.{End, messages_sent, with_mail}
use Rattle.cp_vat_pair_laws.specs.Lane.{Reference, import_, path_to, cap_of, own_ticket, ticket_borne, is_among, Delivery, delivery_of, delivered_among}
use Rattle.cp_vat_pair_laws.specs.Phases.{CameToOther, of_lane, waits_as, stands_as, waits_here, AllWaitHere, GaveObject, IsLocalOpen, Free, LocalOpen, Phase, absent, unopened, unsettled, told, free, marked, embargoed, echoed, local_open, IsElsewhere, came_to_other, InLane, LaneHolds}
use Rattle.cp_vat_pair_laws.proofs.counts.rules.Accounts.{free_out}
use Rattle.cp_vat_pair_laws.proofs.counts.rules.Say.{said_all}
use Rattle.cp_vat_pair_laws.proofs.lane.Lists.{wait_none}
use Rattle.cp_vat_pair_laws.proofs.lane.own.Calm.{LevelHere, stands_same}
use Rattle.cp_vat_pair_laws.proofs.lane.own.Phase.{Delivers, goes_free}
use Rattle.cp_vat_pair_laws.proofs.still.Go.{turn_grows, kind_off, tied_open, no_outcome}
use Rattle.cp_vat_pair_laws.proofs.still.Does.{fresh_value}
use Rattle.cp_vat_pair_laws.proofs.lane.parts.Tables.{gone_placed, lane_first, all_entries}
use Rattle.cp_vat_pair_laws.proofs.lane.parts.Silent.{is_delivery, Silent, delivered_silent}
use Rattle.cp_vat_pair_laws.proofs.lane.parts.Go.{SentFor, Went, failed_, delivered_, waits_, sent_, goes_went, no_finish}
use Rattle.cp_vat_pair_laws.proofs.lane.own.NotOfLane.{turn_here, stands_on}
use Rattle.cp_vat_pair_laws.proofs.lane.parts.Midway.{Midway, own_ticket_is}
use Rattle.cp_vat_pair_laws.proofs.lane.parts.Calm.{Calm, calm_both, calm_only, none_open_over, answer_calm, delivered_calm, held_calm}
use Rattle.cp_vat_pair_laws.proofs.lane.own.Reference.{RefCalm, ref_calm, other_calm, path_comes, failed_other, elsewhere_stays, lane_stays}

-- What is delivered of a lane.
abbrev pub lane_delivered : State → State → List ℕ → List Effect → List Delivery
lane_delivered old there made done = delivered_among made (flat_map (delivery_of old there) done)

pub none_delivered : (old there : State) (made : List ℕ) (done : List Effect) → list_any is_delivery done ≡ false → lane_delivered old there made done ≡ []
none_delivered old there made done none = ap (delivered_among made) (nothing done none)
  where
    by : (e : Effect) → is_delivery e ≡ false → delivery_of old there e ≡ []
    by (effects.Deliver object origin ticket call) not_ = absurd (true≢false not_)
    by e not_ = refl

    nothing : (done : List Effect) → list_any is_delivery done ≡ false → flat_map (delivery_of old there) done ≡ []
    nothing [] none = refl
    nothing (e ∷ more) none =
        ap (λ xs. xs ++ flat_map (delivery_of old there) more) (by e (or_first (is_delivery e) (list_any is_delivery more) none))
        ∙ nothing more (or_second (is_delivery e) (list_any is_delivery more) none)

pub lane_delivered_both : (old there : State) (made : List ℕ) (first more : List Effect)
    → lane_delivered old there made (first ++ more) ≡ lane_delivered old there made first ++ lane_delivered old there made more
lane_delivered_both old there made first more =
    ap (delivered_among made) (flat_map-append (delivery_of old there) first more)
    ∙ filter-append (λ (d : Delivery). is_among d.ticket made) (flat_map (delivery_of old there) first) (flat_map (delivery_of old there) more)

among_none : (made ts : List ℕ) (k : ℕ) → of_lane made ts ≡ [] → delivered_among made (map (λ own. record { ticket = own; object = k }) ts) ≡ []
among_none made [] k none = refl
among_none made (t ∷ ts) k none = by (is_among t made) refl none (among_none made ts k)
  where
    by : (b : Bool) → is_among t made ≡ b → of_lane made (t ∷ ts) ≡ [] → (of_lane made ts ≡ [] → delivered_among made (map (λ own. record { ticket = own; object = k }) ts) ≡ [])
        → delivered_among made (map (λ own. record { ticket = own; object = k }) (t ∷ ts)) ≡ []
    by true is none more =
        let some : t ∷ of_lane made ts ≡ [] = rw is at none in absurd (cc)
    by false is none more =
        let rest : of_lane made ts ≡ [] = rw is at none in
        rw (is) (more rest)

pub one_delivered : (old there : State) (made : List ℕ) (k : ℕ) (call : PendingCall) (origin : Origin) → call.origin ≡ origin
    → of_lane made (ticket_borne old there origin call.ticket) ≡ [] → lane_delivered old there made (effects.Deliver k call.origin call.ticket call.request ∷ []) ≡ []
one_delivered old there made k call origin is none =
    ap (delivered_among made) (append-nil (map (λ own. record { ticket = own; object = k }) (ticket_borne old there call.origin call.ticket)))
    ∙ ap (λ o. delivered_among made (map (λ own. record { ticket = own; object = k }) (ticket_borne old there o call.ticket))) is
    ∙ among_none made (ticket_borne old there origin call.ticket) k none

-- the route of an object
object_route : (values : ValueMaps) (k n : ℕ) (route : Route) → route_within n values (caps.Object k) ≡ Some route → routes.Deliver k ≡ route
object_route values k zero route is = none_out is
object_route values k (suc n) route is = some_out is

-- What a turn does to references: nothing, or its own call fails, and its question gets the exception.
pub data TurnCalm (call : WaitingCall) (s : State) (first : List Effect) (new : State) : Type 0 where
  calmly : Calm s first new → TurnCalm call s first new
  fails : (q : ℕ) (x : Exception) → call.origin ≡ origins.Own q → first ≡ effects.Settled q (outcomes.Failed x) ∷ []
      → new ≡ question_settled (without_call s call) q (outcomes.Failed x) → TurnCalm call s first new

left_calm : (s : State) (call : WaitingCall) → Calm s [] (without_call s call)
left_calm s call = record { imports = refl; questions = refl; marks = refl; gave_ = λ gate cap is. is; no_open = λ q is. refl; no_loop = λ n. refl }

module _ {s : State} {inbox : List Message} {other : End} (h : Midway s inbox other) (call : WaitingCall) (cap : Cap) (next : IsNext s call cap) where
  abbrev left : State
  left = without_call s call

  opens_not : (q r : ℕ) (b : Bool) → (q == r) ≡ b → is_wire (get s.values.questions q) ≡ false → IsTrue (is_wire (get s.values.questions r)) → (q == r) ≡ false
  opens_not q r true t off on = absurd (true≢false (sym on ∙ ap (λ x. is_wire (get s.values.questions x)) (sym (is_equal q r t)) ∙ off))
  opens_not q r false t off on = t

  wire_off : (q : ℕ) (o : Option QuestionState) → get s.values.questions q ≡ o → call.origin ≡ origins.Own q → is_wire (get s.values.questions q) ≡ false
  wire_off q None at from = ap is_wire at
  wire_off q (Some question) at from = ap is_wire at ∙ kind_off h.within call cap next q question from at

  own_out : (q : ℕ) (target : Target) (table : List Descriptor) (mid : State) (more : List Effect) → mid ≡ with_exports left mid.counts.exports
      → is_wire (get s.values.questions q) ≡ false → more ≡ [] → Calm left (call_of q target call.request table ∷ more) (sent mid q table)
  own_out q target table mid more only off none =
      let calm = calm_only left mid (call_of q target call.request table ∷ []) only (λ r on. rw (opens_not q r (q == r) refl off on) refl) (λ n. refl) in
      rw
      (none)
      (record { imports = calm.imports; questions = calm.questions; marks = calm.marks; gave_ = calm.gave_; no_open = calm.no_open; no_loop = calm.no_loop })

  out_calm : (target : Target) (origin : Origin) (done : Done) → call.origin ≡ origin → GoOut left (underway call) target origin (Ok done) → Calm left done.0 done.1
  out_calm target (origins.Answer a) done from goes =
      let fresh = then_out {A = ℕ} {B = Done} (Fresh left.entries.questions) _ done goes in
      let parts = then_out {A = List Descriptor × State} {B = Done} (WritesDescriptors left call.request.caps) _ done fresh.2 in
      let only = (said_all call.request.caps left parts.0 parts.1).only in
      let none : get s.values.questions fresh.0 ≡ None = fresh_value h.within fresh.0 (free_out s.entries.questions fresh.0 fresh.1) in
      let calm = calm_only left parts.0.1 (call_of fresh.0 target call.request parts.0.0 ∷ []) only
      (λ r on. rw (opens_not fresh.0 r (fresh.0 == r) refl (ap is_wire none) on) refl) (λ n. refl) in
      rw
      (ok_in _ _ parts.2)
      (record { imports = calm.imports; questions = calm.questions; marks = calm.marks; gave_ = calm.gave_; no_open = calm.no_open; no_loop = calm.no_loop })
  out_calm target (origins.Own q) done from goes =
      let parts = then_out {A = List Descriptor × State} {B = Done} (WritesDescriptors left call.request.caps) _ done goes.2 in
      let only = (said_all call.request.caps left parts.0 parts.1).only in
      let off = wire_off q (get s.values.questions q) refl from in
      let none_after = no_finish s q goes.0 goes.0.stage h.unfinished goes.1 refl in
      rw (ok_in _ _ parts.2) (own_out q target parts.0.0 parts.0.1 (finish_after q goes.0.stage) only off none_after)

  from_left : (first : List Effect) (new : State) → Calm left first new → Calm s first new
  from_left first new calm = calm_both s left new [] first (left_calm s call) calm

  answer_over : (a : ℕ) → call.origin ≡ origins.Answer a → get s.waiting.over.answers a ≡ None
  answer_over a from = by (get s.waiting.over.answers a) refl
    where
      whose : IsTicketOf s (origins.Answer a) call.ticket
      whose =
          let waits = there_of (WaitsFor s call.ticket) (get s.waiting.calls call.ticket) call next.waits (h.within.waiting call.ticket) in
          rw from at waits.2

      ungiven_at : get s.values.answers a ≡ Some None
      ungiven_at = given_by (get s.values.answers a) refl (rw (whose.1) at (h.within.answers_valued a))
        where
          given_by : (o : Option (Option Outcome)) → get s.values.answers a ≡ o → AnswerIs (Some whose.0) o → o ≡ Some None
          given_by None at valued = absurd valued
          given_by (Some None) at valued = refl
          given_by (Some (Some o)) at valued = absurd (true≢false (valued ∙ ap not whose.2))

      by : (o : Option Outcome) → get s.waiting.over.answers a ≡ o → get s.waiting.over.answers a ≡ None
      by None is = is
      by (Some o) is = absurd (h.within.over_answers a o is ungiven_at)

  own_calm : (q : ℕ) (x : Exception) (entry : Exchange QuestionEntry) (stage : Stage) (done : Done) → call.origin ≡ origins.Own q → get s.entries.questions q ≡ Some entry
      → entry.stage ≡ stage → GiveOwnBy left q (outcomes.Failed x) stage (Ok done) → TurnCalm call s done.0 done.1
  own_calm q x entry stages.Open done from is at gives =
      let same = ok_in _ _ gives in fails q x from (ap (λ (d : Done). d.0) same) (ap (λ (d : Done). d.1) same)
  own_calm q x entry stages.Finished done from is at gives =
      let not_ = there_of (λ (e : Exchange QuestionEntry). is_finish_noted e.stage ≡ false) (get s.entries.questions q) entry is (h.unfinished q) in
      absurd (true≢false (sym (ap is_finish_noted at) ∙ not_))
  own_calm q x entry stages.Returned done from is at gives = absurd gives

  give_calm : (x : Exception) (origin : Origin) (done : Done) → call.origin ≡ origin → Give left origin (outcomes.Failed x) (Ok done) → TurnCalm call s done.0 done.1
  give_calm x (origins.Answer a) done from gives =
      calmly (from_left done.0 done.1 (answer_calm left a (outcomes.Failed x) done (none_open_over h.within) (answer_over a from) (λ entry at. tied_open h.within a entry at) gives))
  give_calm x (origins.Own q) done from gives = own_calm q x gives.0 gives.0.stage done from gives.1 refl gives.2

  turn_is_calm : (route : Route) (done : Done) → Go left (underway call) route (Ok done) → TurnCalm call s done.0 done.1
  turn_is_calm (routes.Deliver k) done goes =
      let calm = from_left [] (delivered left call.origin) (delivered_calm left call.origin) in
      rw
      (ok_in _ _ goes)
      (calmly (record { imports = calm.imports; questions = calm.questions; marks = calm.marks; gave_ = calm.gave_; no_open = calm.no_open; no_loop = calm.no_loop }))
  turn_is_calm (routes.Import i) done goes = calmly (from_left done.0 done.1 (out_calm (targets.ImportedCap i) call.origin done refl goes))
  turn_is_calm (routes.Pipe q path) done goes = calmly (from_left done.0 done.1 (out_calm (targets.PromisedAnswer (promised q path)) call.origin done refl goes))
  turn_is_calm (routes.Wait gate) done goes =
      rw (ok_in _ _ goes) (calmly (from_left [] (held_at left (underway call) gate) (held_calm left (underway call) gate)))
  turn_is_calm (routes.Fail x) done goes = give_calm x call.origin done refl goes

-- what own questions bear where a call is sent
pub sent_tickets : (old new : State) (r q : ℕ) (origin : Origin) → SentFor origin old r new → own_ticket (get new.entries.questions q) ≡ own_ticket (get old.entries.questions q)
sent_tickets old new r q (origins.Own p) for_ = for_.1.tickets q
sent_tickets old new r q (origins.Answer a) for_ = by (r == q) refl
  where
    by : (b : Bool) → (r == q) ≡ b → own_ticket (get new.entries.questions q) ≡ own_ticket (get old.entries.questions q)
    by true t =
        let same : r ≡ q = is_equal r q t in
        ap (λ x. own_ticket (get new.entries.questions x)) (sym same) ∙ for_.1 ∙ sym (ap own_ticket (ap (λ x. get old.entries.questions x) (sym same) ∙ for_.0))
    by false t = ap own_ticket (for_.3 q t)

-- a delivery is no message
deliver_calm : {old new : State} {k ticket : ℕ} {origin : Origin} {request : Request} → Calm old [] new → Calm old (effects.Deliver k origin ticket request ∷ []) new
deliver_calm c =
    record { imports = c.imports; questions = c.questions; marks = c.marks; gave_ = c.gave_; no_open = c.no_open; no_loop = c.no_loop }

-- where the reference is marked, its embargo is open
pub embargo_there : (s : State) (ref : Reference) (n : ℕ) → Within s None [] → mark_of s (cap_of ref) ≡ Some (Some n) → get s.marks.embargoes n ≡ None → ⊥
embargo_there s (import_ i) n h mark none =
    let at = there_of (IsImportMark s i) (get s.marks.imports i) (Some n) mark (h.import_marks i) in
    true≢false (sym at.1.1 ∙ ap is_some (at.1.0 ∙ none))
embargo_there s (path_to q path) n h mark none =
    let at = there_of (IsPathMark s (q ∷ path)) (get s.marks.paths (q ∷ path)) (Some n) mark (h.path_marks (q ∷ path)) in
    true≢false (sym at.1.1 ∙ ap is_some (at.1.0 ∙ none))

-- an open local question isn't over
local_not_over : (s : State) (ref : Reference) (gate : Gate) (cap : Cap) → Within s None [] → IsLocalOpen s ref gate → gave s.waiting.over gate ≡ Some cap → ⊥
local_not_over s (import_ i) gate cap h is over = is
local_not_over s (path_to q path) gate cap h is over = by (get s.waiting.over.questions q) refl (rw is.1 at over)
  where
    unset : (o : Option QuestionState) → get s.values.questions q ≡ o → IsTrue (is_question_here o) → (question : QuestionState) × (get s.values.questions q ≡ Some question) × (question.outcome ≡ None)
    unset None at here = absurd (true≢false (sym here))
    unset (Some question) at here = (question, at, none question.kind question.outcome here)
      where
        none : (kind : QuestionKind) (o : Option Outcome) → IsTrue (is_open_here kind o) → o ≡ None
        none kinds.Local None here = refl
        none kinds.Wire None here = refl
        none kinds.Local (Some x) here = absurd (true≢false (sym here))
        none kinds.Wire (Some x) here = absurd (true≢false (sym here))

    by : (o : Option Outcome) → get s.waiting.over.questions q ≡ o → option_map (λ x. cap_at x path) (get s.waiting.over.questions q) ≡ Some cap → ⊥
    by None is_ over = none_out (sym (ap (option_map (λ x. cap_at x path)) is_) ∙ over)
    by (Some o) is_ over = let found = unset (get s.values.questions q) refl is.0 in h.over_questions q o found.0 is_ found.1 found.2

-- A call that fails gives its question the exception: its paths come to that.
ref_again : (s : State) (call : WaitingCall) (done : List Effect) (new : State) (ref : Reference) → RefCalm (without_call s call) done new ref → RefCalm s done new ref
ref_again s call done new (import_ i) c =
    record { same = c.same; unheld = c.unheld; absent_ = c.absent_; local_ = λ gate is. absurd is; mark = c.mark; gave_ = c.gave_; no_open = c.no_open; no_loop = c.no_loop }
ref_again s call done new (path_to q path) c =
    record { same = c.same; unheld = λ made is. absurd is; absent_ = c.absent_; local_ = c.local_; mark = c.mark; gave_ = c.gave_; no_open = c.no_open; no_loop = c.no_loop }

module _ {s : State} (h : Within s None []) (call : WaitingCall) (cap : Cap) (next : IsNext s call cap) (q : ℕ) (x : Exception) (from : call.origin ≡ origins.Own q) where
  whose : IsTicketOf s (origins.Own q) call.ticket
  whose =
      let waits = there_of (WaitsFor s call.ticket) (get s.waiting.calls call.ticket) call next.waits (h.waiting call.ticket) in
      rw from at waits.2

  its : (question : QuestionState) × (get s.values.questions q ≡ Some question)
  its = its_question whose.0.kept.forwards whose.0.stage (get s.values.questions q) whose.4 (rw whose.1 at (h.questions_valued q))

  not_over : get s.waiting.over.questions q ≡ None
  not_over = by (get s.waiting.over.questions q) refl
    where
      by : (o : Option Outcome) → get s.waiting.over.questions q ≡ o → get s.waiting.over.questions q ≡ None
      by None is = is
      by (Some o) is = absurd (h.over_questions q o its.0 is its.1 (no_outcome h q whose.0 its.0 whose.1 whose.2 its.1))

  abbrev FailsTo : Reference → Type 0
  FailsTo ref =
      RefCalm s (effects.Settled q (outcomes.Failed x) ∷ []) (question_settled (without_call s call) q (outcomes.Failed x)) ref
      ⊎ CameToOther (question_settled (without_call s call) q (outcomes.Failed x)) ref

  at_path : (p : ℕ) (path : List ℕ) (b : Bool) → (q == p) ≡ b → FailsTo (path_to p path)
  at_path p path true t =
      let there = failed_other (question_settled (without_call s call) q (outcomes.Failed x)) q x path
      (path_comes (without_call s call) q (outcomes.Failed x) not_over path its.0 its.1) in
      inr (rw (← is_equal q p t) there)
  at_path p path false t =
      inl (ref_again s call _ _ (path_to p path) (other_calm (without_call s call) q (outcomes.Failed x) not_over (path_to p path) (λ is. not_equal q p t is)))

  pub fails_then : (ref : Reference) → FailsTo ref
  fails_then (import_ i) = inl (ref_again s call _ _ (import_ i) (other_calm (without_call s call) q (outcomes.Failed x) not_over (import_ i) (λ is. is)))
  fails_then (path_to p path) = at_path p path (q == p) refl

-- a turn of this call, in a lane
module _ (old : State) (here there : End) (ref : Reference) (made : List ℕ) (delivered : List Delivery) (h : Midway here.vat here.inbox there) (call : WaitingCall) (cap : Cap)
    (next : IsNext here.vat call cap) (first : List Effect) (new : State) (goes : GoTo (without_call here.vat call) (underway call) cap (Ok (first, new)))
    (tickets : (q : ℕ) → of_lane made (own_ticket (get here.vat.entries.questions q)) ≡ of_lane made (own_ticket (get old.entries.questions q))) where
  abbrev s : State
  s = here.vat

  abbrev here_then : End
  here_then = record { vat = new; inbox = here.inbox }

  abbrev there_then : End
  there_then = with_mail there (messages_sent first)

  abbrev ds : List Delivery
  ds = lane_delivered old there.vat made first

  went : Went (underway call) (without_call s call) first new
  went = goes_went (without_call s call) (underway call) cap (first, new) h.unfinished goes

  exports : (e : ℕ) (c : Cap) → IsExport s e c → IsExport new e c
  exports = (turn_grows h.within call cap next (first, new) goes).places.exports

  calm : TurnCalm call s first new
  calm = turn_is_calm h call cap next goes.0 (first, new) goes.2

  -- what becomes of the reference
  abbrev RefThen : Type 0
  RefThen = RefCalm s first new ref ⊎ CameToOther new ref

  then_ref : TurnCalm call s first new → RefThen
  then_ref (calmly c) = inl (ref_calm ref c)
  then_ref (fails q x from is same) = rw (is, same) (fails_then h.within call cap next q x from ref)

  -- where it is none of the lane, or the reference is elsewhere
  elsewhere_then : IsElsewhere here there ref made → LaneHolds here_then there_then ref made (delivered ++ ds)
  elsewhere_then e = by (then_ref calm)
    where
      by : RefThen → LaneHolds here_then there_then ref made (delivered ++ ds)
      by (inl c) = inl (elsewhere_stays here there ref made new first c exports e)
      by (inr other) = inl (came_to_other other)

  level_then : of_lane made (waits_as call call.origin) ≡ [] → LevelHere here there made new here.inbox (messages_sent first)
  level_then none = turn_here here there made call next.waits none own new first went
    where
      own : (q : ℕ) → call.origin ≡ origins.Own q → of_lane made (own_ticket (get here.vat.entries.questions q)) ≡ []
      own q from =
          let mine : of_lane made (waits_as call (origins.Own q)) ≡ [] = rw from at none in
          ap (of_lane made) (own_ticket_is h.within call cap next q from) ∙ mine

  -- nothing of the lane is delivered
  nothing_then : (origin : Origin) → call.origin ≡ origin → of_lane made (waits_as call origin) ≡ [] → of_lane made (stands_as s there.vat origin) ≡ []
      → of_lane made (ticket_borne old there.vat origin call.ticket) ≡ []
  nothing_then (origins.Own q) from none stands = none
  nothing_then (origins.Answer a) from none stands = sym (stands_same made old s tickets there.vat a) ∙ stands

  nothing_delivered : Went (underway call) (without_call s call) first new → of_lane made (ticket_borne old there.vat call.origin call.ticket) ≡ [] → ds ≡ []
  nothing_delivered (failed_ silent) none = none_delivered old there.vat made first silent.no_delivery
  nothing_delivered (delivered_ k is silent) none =
      ap (lane_delivered old there.vat made) is ∙ one_delivered old there.vat made k (underway call) call.origin refl none
  nothing_delivered (waits_ gate is new_) none = ap (lane_delivered old there.vat made) is
  nothing_delivered (sent_ q target table is calls for_) none = ap (lane_delivered old there.vat made) is

  outside : of_lane made (waits_as call call.origin) ≡ [] → InLane here there ref made delivered → LaneHolds here_then there_then ref made (delivered ++ ds)
  outside none lane = by (then_ref calm)
    where
      ds_none : ds ≡ []
      ds_none = nothing_delivered went (nothing_then call.origin refl none (lane.none_held call.ticket call next.waits))

      by : RefThen → LaneHolds here_then there_then ref made (delivered ++ ds)
      by (inl c) = rw (ds_none, append-nil delivered) (lane_stays here there ref made new first c exports (level_then none) delivered (inr lane))
      by (inr other) = inl (came_to_other other)

  -- where it is of the lane, whose calls wait at what gave its object
  module _ (q : ℕ) (from : call.origin ≡ origins.Own q) (among : is_among call.ticket made ≡ true) where
    its_ticket : of_lane made (waits_as call call.origin) ≡ call.ticket ∷ []
    its_ticket = ap (λ o. of_lane made (waits_as call o)) from ∙ one (is_among call.ticket made) refl among
      where
        one : (b : Bool) → is_among call.ticket made ≡ b → b ≡ true → of_lane made (call.ticket ∷ []) ≡ call.ticket ∷ []
        one true is t = rw (is) refl
        one false is t = absurd (true≢false (sym t))

    some_waits : {A : Type 0} → of_lane made (waits_as call call.origin) ≡ [] → A
    some_waits none = nonempty (sym its_ticket ∙ none)
      where
        nonempty : {A : Type 0} → call.ticket ∷ [] ≡ [] → A
        nonempty is = absurd (cc)

    none_here : {A : Type 0} → waits_here here made ≡ [] → A
    none_here none = some_waits (wait_none made (λ c. waits_as c c.origin) s.waiting.calls none call.ticket call next.waits)

    at_embargo : {A : Type 0} (n : ℕ) → mark_of s (cap_of ref) ≡ Some (Some n) → call.gate ≡ gates.Embargo n → A
    at_embargo n mark at =
        let over : get s.waiting.over.embargoes n ≡ Some cap = rw at at next.ended in
        absurd (embargo_there s ref n h.within mark (h.within.over_embargoes n cap over))

    held_at_embargo : {A : Type 0} (n : ℕ) → mark_of s (cap_of ref) ≡ Some (Some n) → AllWaitHere here made (λ g. g ≡ gates.Embargo n) → A
    held_at_embargo n mark waiting = by (waiting call.ticket call next.waits)
      where
        by : {A : Type 0} → of_lane made (waits_as call call.origin) ≡ [] ⊎ (call.gate ≡ gates.Embargo n) → A
        by (inl none) = some_waits none
        by (inr at) = at_embargo n mark at

    held_local : {A : Type 0} (p : LocalOpen here there ref made) → A
    held_local p = by (p.waiting call.ticket call next.waits)
      where
        by : {A : Type 0} → of_lane made (waits_as call call.origin) ≡ [] ⊎ (call.gate ≡ p.gate) → A
        by (inl none) = some_waits none
        by (inr at) =
            let over : gave s.waiting.over p.gate ≡ Some cap = rw at at next.ended in
            absurd (local_not_over s ref p.gate cap h.within p.open_ over)

    -- it goes to the object
    module _ (p : Free here there ref made) where
      gave_object : cap ≡ caps.Object p.object
      gave_object = by (p.waiting call.ticket call next.waits)
        where
          by : of_lane made (waits_as call call.origin) ≡ [] ⊎ GaveObject s p.object call.gate → cap ≡ caps.Object p.object
          by (inl none) = some_waits none
          by (inr gave_) = some_out (sym next.ended ∙ gave_)

      goes_there : routes.Deliver p.object ≡ goes.0
      goes_there =
          let routed : Routes (without_call s call).values (caps.Object p.object) goes.0 = rw gave_object at goes.1 in
          object_route (without_call s call).values p.object routed.0 goes.0 routed.1

      done_is : ◌≡◌ {A = Done} (first, new) (effects.Deliver p.object call.origin call.ticket call.request ∷ [], going.delivered (without_call s call) call.origin)
      done_is =
          let went_ = subst (λ r. Go (without_call s call) (underway call) r (Ok (first, new))) (sym goes_there) goes.2 in
          ok_in _ _ went_

      first_is : first ≡ effects.Deliver p.object call.origin call.ticket call.request ∷ []
      first_is = ap (λ (d : Done). d.0) done_is

      new_is : new ≡ going.delivered (without_call s call) (origins.Own q)
      new_is = ap (λ (d : Done). d.1) done_is ∙ ap (going.delivered (without_call s call)) from

      abbrev it : Delivery
      it = record { ticket = call.ticket; object = p.object }

      ds_is : ds ≡ it ∷ []
      ds_is =
          ap (lane_delivered old there.vat made) first_is
          ∙ ap (λ o. delivered_among made (map (λ own. record { ticket = own; object = p.object }) (ticket_borne old there.vat o call.ticket) ++ [])) from
          ∙ one (is_among call.ticket made) refl among
        where
          one : (b : Bool) → is_among call.ticket made ≡ b → b ≡ true → delivered_among made (it ∷ []) ≡ it ∷ []
          one true is t = rw (is) refl
          one false is t = absurd (true≢false (sym t))

      silent : Silent (without_call s call) [] new
      silent = rw (new_is) (delivered_silent (without_call s call) (origins.Own q))

      ref_calm_then : RefCalm s first new ref
      ref_calm_then =
          rw
          (first_is, new_is)
          (ref_calm ref (deliver_calm (calm_both s (without_call s call) (going.delivered (without_call s call) (origins.Own q)) [] [] (left_calm s call)
          (delivered_calm (without_call s call) (origins.Own q)))))

      gone_before : (ticket : ℕ) (held : WaitingCall) → get new.waiting.calls ticket ≡ Some held → get s.waiting.calls ticket ≡ Some held
      gone_before ticket held at = (gone_cases s.waiting.calls call.ticket ticket held (sym (ap (λ cs. get cs ticket) silent.calls) ∙ at)).1

      delivers : Delivers here there ref made new here.inbox (messages_sent first) p.object (it ∷ [])
      delivers =
          record {
            tickets = λ r. ap (of_lane made) (silent.bearing.tickets r);
            calls = λ ticket held at. inr (gone_before ticket held at);
            held = λ none ticket held at. ap (of_lane made) (stands_on s new there.vat silent.bearing.tickets held.origin) ∙ none ticket held (gone_before ticket held at);
            silent = ap messages_sent first_is;
            at_object = (refl, tt);
            came = ref_calm_then.same ∙ p.came;
            mark = ref_calm_then.mark;
          }

      -- those that wait with lower tickets aren't of the lane
      lower_none : (ticket : ℕ) (held : WaitingCall) → get s.waiting.calls ticket ≡ Some held → ticket < call.ticket → of_lane made (waits_as held held.origin) ≡ []
      lower_none ticket held at less = by (p.waiting ticket held at)
        where
          by : of_lane made (waits_as held held.origin) ≡ [] ⊎ GaveObject s p.object held.gate → of_lane made (waits_as held held.origin) ≡ []
          by (inl none) = none
          by (inr gave_) = absurd (omega (arith, less, next.lowest ticket held (caps.Object p.object) at gave_))

      moved : waits_here here made ≡ call.ticket ∷ waits_here here_then made
      moved =
          let placed = gone_placed s.waiting.calls call.ticket call next.waits in
          let all = all_entries (λ ticket held. ticket < call.ticket → of_lane made (waits_as held held.origin) ≡ []) s.waiting.calls lower_none in
          let front = all_front (λ (e : ℕ × WaitingCall). e.0 < call.ticket → of_lane made (waits_as e.1 e.1.origin) ≡ []) placed.front ((call.ticket, call) ∷ placed.back)
          (rw (placed.with_it) at all) in
          lane_first made (λ c. waits_as c c.origin) placed (applied placed.front front placed.lower) ∙ ap (λ xs. xs ++ of_lane made (flat_map (λ c. waits_as c c.origin)
          (values (without_call s call).waiting.calls))) its_ticket
          ∙ ap (λ cs. call.ticket ∷ of_lane made (flat_map (λ c. waits_as c c.origin) (values cs))) (sym silent.calls)
        where
          applied : (es : List (ℕ × WaitingCall)) → AllByRecursion (λ (e : ℕ × WaitingCall). e.0 < call.ticket → of_lane made (waits_as e.1 e.1.origin) ≡ []) es
              → AllByRecursion (λ (e : ℕ × WaitingCall). e.0 < call.ticket) es → AllByRecursion (λ (e : ℕ × WaitingCall). of_lane made (waits_as e.1 e.1.origin) ≡ []) es
          applied [] f less = tt
          applied (e ∷ es) f less = (f.0 less.0, applied es f.1 less.1)

      free_then : InLane here there ref made delivered → InLane here_then there_then ref made (delivered ++ (it ∷ []))
      free_then lane =
          goes_free here there ref made new here.inbox (messages_sent first) p.object (it ∷ []) delivers p refl refl moved
          (λ gate gave_. ref_calm_then.gave_ gate (caps.Object p.object) gave_) delivered lane

    inside : InLane here there ref made delivered → LaneHolds here_then there_then ref made (delivered ++ ds)
    inside lane = by lane.phase
      where
        none_made : {A : Type 0} (m : List ℕ) → m ≡ [] → is_among call.ticket m ≡ true → A
        none_made m is t = absurd (true≢false (sym t ∙ ap (is_among call.ticket) is))

        by : Phase here there ref made → LaneHolds here_then there_then ref made (delivered ++ ds)
        by (absent p) = none_made made p.unmade among
        by (unopened p) = none_here p.none_here
        by (unsettled p) = none_here p.none_here
        by (told p) = none_here p.none_here
        by (free p) = rw (ds_is p) (inr (free_then p lane))
        by (marked p) = none_here p.none_here
        by (embargoed p) = held_at_embargo p.embargo p.mark p.waiting
        by (echoed p) = held_at_embargo p.embargo p.mark p.waiting
        by (local_open p) = held_local p

  -- So a turn keeps the lane.
  turn_by : (origin : Origin) → call.origin ≡ origin → InLane here there ref made delivered → LaneHolds here_then there_then ref made (delivered ++ ds)
  turn_by (origins.Answer a) from lane = outside (ap (λ o. of_lane made (waits_as call o)) from) lane
  turn_by (origins.Own q) from lane = by (is_among call.ticket made) refl
    where
      none_of : (b : Bool) → is_among call.ticket made ≡ b → b ≡ false → of_lane made (call.ticket ∷ []) ≡ []
      none_of true is f = absurd (true≢false f)
      none_of false is f = rw (is) refl

      by : (b : Bool) → is_among call.ticket made ≡ b → LaneHolds here_then there_then ref made (delivered ++ ds)
      by true is = inside q from is lane
      by false is = outside (ap (λ o. of_lane made (waits_as call o)) from ∙ none_of (is_among call.ticket made) refl is) lane

  pub turn_lane : LaneHolds here there ref made delivered → LaneHolds here_then there_then ref made (delivered ++ ds)
  turn_lane (inl e) = elsewhere_then e
  turn_lane (inr lane) = turn_by call.origin refl lane

  -- and its tickets are as many of the lane
  pub turn_tickets : (q : ℕ) → of_lane made (own_ticket (get new.entries.questions q)) ≡ of_lane made (own_ticket (get old.entries.questions q))
  turn_tickets q = tickets_by went ∙ tickets q
    where
      tickets_by : Went (underway call) (without_call s call) first new → of_lane made (own_ticket (get new.entries.questions q)) ≡ of_lane made (own_ticket (get s.entries.questions q))
      tickets_by (failed_ silent) = ap (of_lane made) (silent.bearing.tickets q)
      tickets_by (delivered_ k is silent) = ap (of_lane made) (silent.bearing.tickets q)
      tickets_by (waits_ gate is same) = ap (λ x. of_lane made (own_ticket (get x.entries.questions q))) same
      tickets_by (sent_ r target table is calls for_) = ap (of_lane made) (sent_tickets (without_call s call) new r q call.origin for_)
