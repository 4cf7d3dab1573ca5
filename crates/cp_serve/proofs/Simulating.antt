-- What is done for objects on a connection is what a server does by its queue of effects.
use Rattle.std.proofs.Common.{◌≡◌, ◌≢◌, ◌⊎◌, inl, inr, ℕ, ◌<◌, ◌≤◌, ◌+◌, ◌-◌, ◌^◌, min, ◌||◌, ◌&&◌, not, Bool, true, false, true≢false, IsSome, List, [], ◌∷◌, ◌++◌, Option, Some, None, Result, Ok, Err, refl, sym, ap, ◌∙◌, subst, length, append-nil, append_assoc, length-append, add_assoc, arith}
use Rattle.std.proofs.lemmas.Bool.{false≢true}
use Rattle.std.specs.List.{list_any}
use Rattle.std.specs.Ordering.{nat_cmp}
use Rattle.std.specs.Global.{Vec}
use Rattle.std.specs.FinMap.{get, insert, remove, get-empty}
use Rattle.cp_frame.specs.declared.mode.Mode.{Mode}
use Rattle.cp_tables.specs.Table.{Table}
use Rattle.cp_messages.specs.declared.message.Message.{Message}
use Rattle.cp_refs.specs.declared.call.Origin.{Origin}
use Rattle.cp_refs.specs.declared.call.Request.{Request}
use Rattle.cp_refs.specs.declared.outcome.Outcome.{Outcome}
use Rattle.cp_vat_machine.specs.State.{State}
use Rattle.cp_vat_machine.specs.Then.{OrFull, Unless, fault_if}
use Rattle.cp_vat_machine.specs.Step.{Step}
use Rattle.cp_vat_machine.specs.Step as step
use Rattle.cp_vat_machine.specs.Doing.{DoAnswer, Quietly, awaits}
use Rattle.cp_vat_machine.specs.Calling.{OwnDone, not_all}
use Rattle.cp_vat_machine.specs.Capacity.{outcome_fits}
use Rattle.cp_vat_machine.specs.Give.{Give}
use Rattle.cp_vat_machine.specs.InUse.{has_question, has_promise, has_import, is_pipelined, caps_of}
use Rattle.cp_vat_machine.specs.declared.effect.Effect.{Effect}
use Rattle.cp_vat_machine.specs.declared.effect.Effect.TheVariants as effects
use Rattle.cp_vat_machine.specs.declared.effect.Reason.{Reason}
use Rattle.cp_vat_machine.specs.declared.event.Event.{Event}
use Rattle.cp_vat_machine.specs.declared.event.Event.TheVariants as events
use Rattle.cp_vat_machine.specs.declared.event.Value.{Value}
use Rattle.cp_vat_machine.specs.declared.event.Value.TheVariants as values
use Rattle.cp_vat_machine.specs.declared.fault.PeerFault.{PeerFault}
use Rattle.cp_vat_machine.specs.declared.fault.VatFault.{VatFault}
use Rattle.cp_vat_machine.specs.declared.fault.VatFault.TheVariants as refusals
use Rattle.cp_vat_machine.proofs.Basics.{none_out, ok_out, some_out}
use Rattle.cp_tail_calls.specs.Bridging.{sent_of}
use Rattle.cp_tail_calls.specs.Serving.{closes}
use Rattle.cp_connection.specs.declared.fault.ConnectionFault.{ConnectionFault}
use Rattle.cp_connection.specs.declared.fault.ConnectionFault.TheVariants as faults
use Rattle.cp_connection.specs.declared.event.ConnectionEvent.{ConnectionEvent}
use Rattle.cp_connection.specs.declared.event.ConnectionEvent.TheVariants as happenings
use Rattle.cp_connection.specs.declared.event.ConnectionStats.{ConnectionStats}
use Rattle.cp_connection.specs.Doing.{Does, Acts}
use Rattle.cp_connection.specs.Effects.{happening_by, AreFramesOf}
use Rattle.cp_connection.specs.Link.{Link}
use Rattle.cp_connection.specs.Receiving.{HandsOut}
use Rattle.cp_connection.specs.Refusing.{refusal_of}
use Rattle.cp_connection.proofs.Concluding.{refused_same, no_effects, was_still}
use Rattle.cp_connection.proofs.Noting.{closes_both, frames_both, happening_both, sent_both}
use Rattle.cp_connection.proofs.Serving.{served_none, steps_alone}
use Rattle.cp_servants.specs.declared.servant.OutgoingCall.{OutgoingCall}
use Rattle.cp_servants.specs.declared.servant.Reply.{Reply}
use Rattle.cp_servants.specs.declared.servant.Reply.TheVariants as replies
use Rattle.cp_servants.specs.declared.servant.Settled.{Settled}
use Rattle.cp_servants.specs.Outcomes.{bad_outcome, no_such_object}
use Rattle.cp_servants.specs.Servant.{Kind}
use Rattle.cp_objects.specs.Listed.{listed}
use Rattle.cp_dispatch.specs.declared.question_owner.QuestionOwner.{QuestionOwner}
use Rattle.cp_dispatch.specs.declared.event.SessionEvent.{SessionEvent}
use Rattle.cp_dispatch.specs.declared.event.SessionEvent.TheVariants as notices
use Rattle.cp_dispatch.specs.Work as objects
use Rattle.cp_dispatch.specs.Calling as calling
use Rattle.cp_dispatch.specs.GivingUp as giving_up
use Rattle.cp_dispatch.specs.PromiseRequests as pledging
use Rattle.cp_dispatch.specs.Rounds as rounds
use Rattle.cp_dispatch.proofs.Holding.{holds_unnoted, gives_unnoted, gives_up_all, tries_all}
use Rattle.cp_serve.specs.Work.{Work, Did, IsDone, Answers, is_taken, was_closed, is_replaced, Replies, Tries, is_released, is_used, is_dropped, TriesEach, Releases}
use Rattle.cp_serve.specs.Service.{Delivers, to_object, to_none, WorksOff, none_left, acts, Settles, gives_none, is_stranger, is_awaited, PollsFrom, Rounds, TakesMessage, takes, written}
use Rattle.cp_serve.specs.Service as service
use Rattle.cp_serve.specs.Matching.{reason_in, ended_if, is_over, ClosesBy, IsBetween, Matches, IsAllDone}
use Rattle.cp_serve.proofs.Closing.{tells_closing}

-- ---- why a connection ended

not_ended : (b : Bool) → ended_if b ≡ None → b ≡ false
not_ended false e = refl
not_ended true e = none_out (sym e)

is_shut : {fault : ConnectionFault} (b : Bool) → ended_if b ≡ Some fault → b ≡ true
is_shut true e = refl
is_shut false e = none_out e

shut_if : (b : Bool) → IsSome (ended_if b) → b ≡ true
shut_if true e = refl
shut_if false e = absurd (false≢true e)

abbrev is_refusal : ConnectionFault → Bool
is_refusal (faults.Refused refusal) = true
is_refusal other = false

no_refusal : {refusal : VatFault} (b : Bool) → ended_if b ≡ Some (faults.Refused refusal) → ⊥
no_refusal true e = true≢false (sym (ap is_refusal (some_out e)))
no_refusal false e = none_out e

-- an allocation failure, or a refusal that is reported as it is
pub refusal_is : (refusal : VatFault) → (refusal ≡ refusals.OutOfMemory) ⊎ ((refusal ≢ refusals.OutOfMemory) × (refusal_of refusal ≡ faults.Refused refusal))
refusal_is refusals.OutOfMemory = inl refl
refusal_is refusals.UnknownQuestion = inr ((λ e. cc (e)), refl)
refusal_is refusals.UnknownPromise = inr ((λ e. cc (e)), refl)
refusal_is refusals.AlreadyResolved = inr ((λ e. cc (e)), refl)
refusal_is refusals.PromiseCycle = inr ((λ e. cc (e)), refl)
refusal_is refusals.Unsettled = inr ((λ e. cc (e)), refl)
refusal_is refusals.InUse = inr ((λ e. cc (e)), refl)
refusal_is refusals.TooLarge = inr ((λ e. cc (e)), refl)
refusal_is refusals.Full = inr ((λ e. cc (e)), refl)
refusal_is refusals.Closed = inr ((λ e. cc (e)), refl)
refusal_is refusals.UnknownImport = inr ((λ e. cc (e)), refl)

abbrev refused_or : VatFault → ConnectionFault → VatFault
refused_or other (faults.Refused refusal) = refusal
refused_or other fault = other

-- what is reported as a refusal is that one
refused_is : (told refusal : VatFault) → faults.Refused told ≡ refusal_of refusal → (refusal ≡ told) × (refusal ≢ refusals.OutOfMemory)
refused_is told refusal e = by (refusal_is refusal)
  where
    by : (refusal ≡ refusals.OutOfMemory) ⊎ ((refusal ≢ refusals.OutOfMemory) × (refusal_of refusal ≡ faults.Refused refusal)) → (refusal ≡ told) × (refusal ≢ refusals.OutOfMemory)
    by (inl full) = absurd (true≢false (ap is_refusal (e ∙ ap refusal_of full)))
    by (inr h) = (ap (refused_or told) (sym h.1 ∙ sym e), h.0)

-- no refusal says that a connection had ended
no_end : (refusal : VatFault) → objects.IsEnd (refusal_of refusal) → ⊥
no_end refusal h = by (refusal_is refusal)
  where
    by : (refusal ≡ refusals.OutOfMemory) ⊎ ((refusal ≢ refusals.OutOfMemory) × (refusal_of refusal ≡ faults.Refused refusal)) → ⊥
    by (inl full) = subst objects.IsEnd (ap refusal_of full) h
    by (inr k) = subst objects.IsEnd k.1 h

-- ---- what a vat refuses

refused_at : (old new vat : State) (event : Event) (refusal : VatFault) (all : List Effect) → Step old event (Err refusal) all new → refusal ≢ refusals.OutOfMemory → old ≡ vat → Step vat event (Err refusal) [] vat
refused_at old new vat event refusal all s n e =
    subst (λ (x : State). Step x event (Err refusal) [] x) e
    (subst (λ (es : List Effect). Step old event (Err refusal) es old) (no_effects s) (subst (λ (x : State). Step old event (Err refusal) all x) (refused_same s n) s))

abbrev is_full : VatFault → Bool
is_full refusals.Full = true
is_full other = false

abbrev refusal_or : VatFault → Result OwnDone VatFault → VatFault
refusal_or other (Ok done) = other
refusal_or other (Err refusal) = refusal

closes_none : (Rule : Result OwnDone PeerFault → Type 0) → OrFull Rule (Err refusals.Closed) → ⊥
closes_none Rule (Ok x, r, is) = ok_out (sym is)
closes_none Rule (Err fault, r, is) = true≢false (sym (ap is_full (ap (refusal_or refusals.Full) is)))

other_refusal : (refusal : VatFault) → refusal ≢ refusals.Closed → ◌≡◌ {A = Result OwnDone VatFault} (Err refusals.Closed) (Err refusal) → ⊥
other_refusal refusal n e = n (sym (ap (refusal_or refusals.Closed) e))

-- an open vat doesn't refuse an answer as a closed one does
answer_faults : (a b c d e : Bool) (Rule : Result OwnDone VatFault → Type 0)
    → Unless (fault_if a refusals.UnknownQuestion ++ fault_if b refusals.UnknownPromise ++ fault_if c refusals.Unsettled ++ fault_if d refusals.TooLarge ++ fault_if e refusals.UnknownImport) Rule (Err refusals.Closed)
    → Rule (Err refusals.Closed)
answer_faults true b c d e Rule h = absurd (other_refusal refusals.UnknownQuestion (λ k. cc (k)) h)
answer_faults false true c d e Rule h = absurd (other_refusal refusals.UnknownPromise (λ k. cc (k)) h)
answer_faults false false true d e Rule h = absurd (other_refusal refusals.Unsettled (λ k. cc (k)) h)
answer_faults false false false true e Rule h = absurd (other_refusal refusals.TooLarge (λ k. cc (k)) h)
answer_faults false false false false true Rule h = absurd (other_refusal refusals.UnknownImport (λ k. cc (k)) h)
answer_faults false false false false false Rule h = h

answer_closed : (s : State) (origin : Origin) (outcome : Outcome) → DoAnswer s origin outcome (Err refusals.Closed) → ⊥
answer_closed s origin outcome does =
    closes_none (Quietly (Give s origin outcome))
    (answer_faults (not (awaits s origin && not (not_all (has_question s) (caps_of outcome)))) (not_all (has_promise s) (caps_of outcome)) (list_any is_pipelined (caps_of outcome)) (not (outcome_fits outcome))
    (not_all (has_import s) (caps_of outcome)) (OrFull (Quietly (Give s origin outcome))) does)

was_shut : (s new : State) (origin : Origin) (outcome : Outcome) (all : List Effect) → Step s (events.Answer origin outcome) (Err refusals.Closed) all new → s.is_closed ≡ true
was_shut s new origin outcome all (step.was_closed event shut) = shut
was_shut s new origin outcome all (step.refused event still does) = absurd (answer_closed s origin outcome does)

-- ---- why the vat closed, as events say

reason_settled : (ns : List SessionEvent) (q : ℕ) (outcome : Outcome) → reason_in (ns ++ notices.Outcome q outcome ∷ []) ≡ reason_in ns
reason_settled [] q outcome = refl
reason_settled (notices.Outcome p other ∷ ns) q outcome = reason_settled ns q outcome
reason_settled (notices.Closed reason ∷ ns) q outcome = refl
reason_settled (notices.Restless ∷ ns) q outcome = reason_settled ns q outcome
reason_settled (notices.Fault fault ∷ ns) q outcome = reason_settled ns q outcome
reason_settled (notices.Limit limit ∷ ns) q outcome = reason_settled ns q outcome
reason_settled (notices.Ended ∷ ns) q outcome = reason_settled ns q outcome

reason_closed : (ns : List SessionEvent) (reason : Reason) → reason_in ns ≡ None → reason_in (ns ++ notices.Closed reason ∷ []) ≡ Some reason
reason_closed [] reason h = refl
reason_closed (notices.Outcome q outcome ∷ ns) reason h = reason_closed ns reason h
reason_closed (notices.Closed other ∷ ns) reason h = none_out (sym h)
reason_closed (notices.Restless ∷ ns) reason h = reason_closed ns reason h
reason_closed (notices.Fault fault ∷ ns) reason h = reason_closed ns reason h
reason_closed (notices.Limit limit ∷ ns) reason h = reason_closed ns reason h
reason_closed (notices.Ended ∷ ns) reason h = reason_closed ns reason h

-- the first event says so, or the others do
pub reason_first : (n : SessionEvent) (more : List SessionEvent) (reason : Reason) → Some reason ≡ reason_in (n ∷ []) → Some reason ≡ reason_in (n ∷ more)
reason_first (notices.Outcome q outcome) more reason e = none_out (sym e)
reason_first (notices.Closed other) more reason e = e
reason_first notices.Restless more reason e = none_out (sym e)
reason_first (notices.Fault fault) more reason e = none_out (sym e)
reason_first (notices.Limit limit) more reason e = none_out (sym e)
reason_first notices.Ended more reason e = none_out (sym e)

pub reason_later : (n : SessionEvent) (more : List SessionEvent) → None ≡ reason_in (n ∷ []) → reason_in (n ∷ more) ≡ reason_in more
reason_later (notices.Outcome q outcome) more e = refl
reason_later (notices.Closed other) more e = none_out e
reason_later notices.Restless more e = refl
reason_later (notices.Fault fault) more e = refl
reason_later (notices.Limit limit) more e = refl
reason_later notices.Ended more e = refl

-- ---- what is left to be worked off

still_open : (c : Option Reason) (es : List Effect) → is_over c es ≡ false → (c ≡ None) × (closes es ≡ false)
still_open None es e = (refl, e)
still_open (Some reason) es e = absurd (true≢false e)

-- where nothing is left, the vat closed for a reason that is known
known_reason : (c : Option Reason) (es : List Effect) → is_over c es ≡ true → es ≡ [] → IsSome c
known_reason None es says none = absurd (true≢false (sym says ∙ ap closes none))
known_reason (Some reason) es says none = refl

is_closed_by : (c : Option Reason) (es : List Effect) (b : Bool) → ClosesBy c es b → is_over c es ≡ true → b ≡ true
is_closed_by None es b h says = h says
is_closed_by (Some reason) es b h says = h.0

closes_rest : (c : Option Reason) (effect : Effect) (es : List Effect) (b : Bool) → ClosesBy c (effect ∷ es) b → closes (effect ∷ es) ≡ closes es → ClosesBy c es b
closes_rest None effect es b h e = λ says. h (e ∙ says)
closes_rest (Some reason) effect es b h e = absurd (cc (h.1))

over_rest : (c : Option Reason) (effect : Effect) (es : List Effect) → closes (effect ∷ es) ≡ closes es → is_over c es ≡ is_over c (effect ∷ es)
over_rest None effect es e = sym e
over_rest (Some reason) effect es e = refl

not_closed_yet : (c : Option Reason) (effect : Effect) (es : List Effect) (b : Bool) → ClosesBy c (effect ∷ es) b → c ≡ None
not_closed_yet None effect es b h = refl
not_closed_yet (Some reason) effect es b h = absurd (cc (h.1))

-- ---- works that match

module _ (base : Link) (w : Work) (o : objects.Work) (h : Matches base w o) where
  pub open_work : o.link.fault ≡ None → (w.closed ≡ None) × (closes w.effects ≡ false)
  open_work e = still_open w.closed w.effects (not_ended (is_over w.closed w.effects) (sym h.ended ∙ e))

  shut_work : {fault : ConnectionFault} → o.link.fault ≡ Some fault → w.vat.is_closed ≡ true
  shut_work e = is_closed_by w.closed w.effects w.vat.is_closed h.closes_by (is_shut (is_over w.closed w.effects) (sym h.ended ∙ e))

  pub closed_work : IsSome o.link.fault → w.effects ≡ [] → IsSome w.closed
  closed_work some none = known_reason w.closed w.effects (shut_if (is_over w.closed w.effects) (subst (λ (f : Option ConnectionFault). IsSome f) h.ended some)) none

  -- other calls are awaited, and other imports were given up
  owes : (a b : Table Origin) (c : Table ℕ) (g i : List ℕ) → b ≡ a → i ≡ g → Matches base (record w { awaited = a; given_up = g }) (record o { awaited = b; owed = c; given_up = i })
  owes a b c g i e f = record {
    vat = h.vat;
    no_tails = h.no_tails;
    awaited = e;
    given_up = f;
    none_call = h.none_call;
    none_asked = h.none_asked;
    none_held = h.none_held;
    none_given = h.none_given;
    happens = h.happens;
    bytes = h.bytes;
    frames = h.frames;
    goes_out = h.goes_out;
    counts = h.counts;
    same_stats = h.same_stats;
    same_mode = h.same_mode;
    same_limits = h.same_limits;
    same_reading = h.same_reading;
    ended = h.ended;
    closes_by = h.closes_by;
    between = h.between;
    reason = h.reason;
  }

  -- effects were worked off
  worked : (es : List Effect) (sent : List Message) (c : Option Reason) (hs : List ConnectionEvent) (ns : List SessionEvent) → hs ≡ happening_by es → sent ++ sent_of es ≡ w.sent ++ sent_of w.effects
      → ClosesBy c es w.vat.is_closed → is_over c es ≡ is_over w.closed w.effects → reason_in ns ≡ c
      → Matches base (record w { effects = es; sent = sent; closed = c }) (record o { link = record o.link { happened = hs }; notices = ns })
  worked es sent c hs ns happens all closes_by over reason = record {
    vat = h.vat;
    no_tails = h.no_tails;
    awaited = h.awaited;
    given_up = h.given_up;
    none_call = h.none_call;
    none_asked = h.none_asked;
    none_held = h.none_held;
    none_given = h.none_given;
    happens = happens;
    bytes = h.bytes;
    frames = subst (λ (ms : List Message). AreFramesOf base.mode ms h.bytes) (sym all) h.frames;
    goes_out = h.goes_out;
    counts = λ n e. h.counts n e ∙ ap (λ (ms : List Message). min (n + length ms) (2 ^ 64 - 1)) (sym all);
    same_stats = h.same_stats;
    same_mode = h.same_mode;
    same_limits = h.same_limits;
    same_reading = h.same_reading;
    ended = h.ended ∙ ap ended_if (sym over);
    closes_by = closes_by;
    between = h.between;
    reason = reason;
  }

  -- no tail calls are served after an event
  none_served : {event : Event} {value : Value} {link : Link} → Does o.link event (Ok value) link → link.tails ≡ None
  none_served d = served_none d h.no_tails

  -- the vat did an event, and its effects are left
  does : (event : Event) (value : Value) (link : Link) → (d : Does o.link event (Ok value) link) → Matches base (record w { vat = link.vat; effects = w.effects ++ d.effects }) (record o { link = link })
  does event value link d =
      let here = open_work d.was_open in
      let none_after : link.tails ≡ None = none_served d in
      let law = tells_closing (steps_alone d h.no_tails) (subst IsBetween (sym h.vat) h.between) in
      let says : closes (w.effects ++ d.effects) ≡ closes d.effects = closes_both w.effects d.effects ∙ ap (λ (b : Bool). b || closes d.effects) here.1 in
      let all : (w.sent ++ sent_of w.effects) ++ sent_of d.effects ≡ w.sent ++ sent_of (w.effects ++ d.effects) =
      append_assoc w.sent (sent_of w.effects) (sent_of d.effects) ∙ ap (λ (x : List Message). w.sent ++ x) (sym (sent_both w.effects d.effects here.1)) in
      record {
        vat = refl;
        no_tails = none_after;
        awaited = h.awaited;
        given_up = h.given_up;
        none_call = h.none_call;
        none_asked = h.none_asked;
        none_held = h.none_held;
        none_given = h.none_given;
        happens = d.happens ∙ ap (λ (x : List ConnectionEvent). x ++ happening_by d.effects) h.happens ∙ sym (happening_both w.effects d.effects here.1);
        bytes = h.bytes ++ d.bytes;
        frames =
            subst (λ (ms : List Message). AreFramesOf base.mode ms (h.bytes ++ d.bytes)) all
            (frames_both base.mode (w.sent ++ sent_of w.effects) (sent_of d.effects) h.bytes d.bytes h.frames (subst (λ (m : Mode). AreFramesOf m (sent_of d.effects) d.bytes) h.same_mode d.are_frames));
        goes_out = d.goes_out ∙ ap (λ (x : List ℕ). x ++ d.bytes) h.goes_out ∙ append_assoc base.unwritten h.bytes d.bytes;
        counts = λ n e.
            d.counts (n + length (w.sent ++ sent_of w.effects)) (h.counts n e)
            ∙ ap (λ (k : ℕ). min k (2 ^ 64 - 1)) (add_assoc n (length (w.sent ++ sent_of w.effects)) (length (sent_of d.effects)) ∙ ap (λ (k : ℕ). n + k) (sym (length-append (w.sent ++ sent_of w.effects) (sent_of d.effects)) ∙ ap (λ (ms : List Message). length ms) all));
        same_stats = d.same_stats ∙ ap (λ (t : ConnectionStats). record t { sent = link.stats.sent }) h.same_stats;
        same_mode = d.same_mode ∙ h.same_mode;
        same_limits = d.same_limits ∙ h.same_limits;
        same_reading = d.same_reading ∙ h.same_reading;
        ended = d.ends ∙ ap ended_if (sym (ap (λ (c : Option Reason). is_over c (w.effects ++ d.effects)) here.0 ∙ says));
        closes_by = subst (λ (c : Option Reason). ClosesBy c (w.effects ++ d.effects) link.vat.is_closed) (sym here.0) (λ e. law.0 (sym says ∙ e));
        between = law.1;
        reason = h.reason;
      }

  step_at : (event : Event) (value : Value) (link : Link) (all : List Effect) → Step o.link.vat event (Ok value) all link.vat → Step w.vat event (Ok value) all link.vat
  step_at event value link all s = subst (λ (x : State). Step x event (Ok value) all link.vat) h.vat s

  -- nothing changed
  unchanged : (link : Link) → link ≡ o.link → Matches base w (record o { link = link })
  unchanged link e = subst (λ (l : Link). Matches base w (record o { link = l })) (sym e) h

  did_nothing : Did w w.vat [] w
  did_nothing = ap (λ (es : List Effect). record w { effects = es }) (sym (append-nil w.effects))

  pub follows_done : (event : Event) (link : Link) → objects.IsDone o.link event link → (next : Work) × IsDone w event next × Matches base next (record o { link = link })
  follows_done event link done = by done.result done.memory done.acts
    where
      by : (result : Result Value ConnectionFault) → objects.HadMemory result → Acts o.link event result link → (next : Work) × IsDone w event next × Matches base next (record o { link = link })
      by (Ok value) memory d = (
        record w { vat = link.vat; effects = w.effects ++ d.effects },
        record { result = Ok value; effects = d.effects; vat = link.vat; step = step_at event value link d.effects (steps_alone d h.no_tails); memory = tt; did = refl },
        does event value link d,
      )
      by (Err fault) memory (inl ended) = (
        w,
        record { result = Err refusals.Closed; effects = []; vat = w.vat; step = step.was_closed event (shut_work ended.0); memory = λ e. cc (e); did = did_nothing },
        unchanged link ended.1,
      )
      by (Err fault) memory (inr refuses) =
          let fits : refuses.0 ≢ refusals.OutOfMemory = λ e. memory (refuses.1 ∙ ap refusal_of e) in (
            w,
            record {
              result = Err refuses.0;
              effects = [];
              vat = w.vat;
              step = refused_at o.link.vat link.vat w.vat event refuses.0 refuses.2.effects (steps_alone refuses.2 h.no_tails) fits h.vat;
              memory = fits;
              did = did_nothing;
            },
            unchanged link (refuses.3 fits),
          )

  -- a closed vat does nothing
  nothing_done : (event : Event) (link : Link) → w.vat.is_closed ≡ true → objects.IsDone o.link event link → link ≡ o.link
  nothing_done event link shut done = by done.result done.memory done.acts
    where
      by : (result : Result Value ConnectionFault) → objects.HadMemory result → Acts o.link event result link → link ≡ o.link
      by (Ok value) memory d = absurd (true≢false (sym shut ∙ was_still (step_at event value link d.effects (steps_alone d h.no_tails))))
      by (Err fault) memory (inl ended) = ended.1
      by (Err fault) memory (inr refuses) = refuses.3 (λ e. memory (refuses.1 ∙ ap refusal_of e))

  pub follows_answers : (origin : Origin) (outcome : Outcome) (link : Link) → objects.Answers o.link origin outcome link → (next : Work) × Answers w origin outcome next × Matches base next (record o { link = link })
  follows_answers origin outcome link (objects.is_taken d) = (
    record w { vat = link.vat; effects = w.effects ++ d.effects },
    is_taken link.vat d.effects (step_at (events.Answer origin outcome) values.Nothing link d.effects (steps_alone d h.no_tails)) refl,
    does (events.Answer origin outcome) values.Nothing link d,
  )
  follows_answers origin outcome link (objects.had_ended fault is_end (inl ended)) = (w, was_closed w.vat (step.was_closed (events.Answer origin outcome) (shut_work ended.0)) refl, unchanged link ended.1)
  follows_answers origin outcome link (objects.had_ended fault is_end (inr refuses)) = absurd (no_end refuses.0 (subst objects.IsEnd refuses.1 is_end))
  follows_answers origin outcome link (objects.is_replaced refusal mid (inl ended) done) = absurd (no_refusal (is_over w.closed w.effects) (sym h.ended ∙ ended.0))
  follows_answers origin outcome link (objects.is_replaced refusal mid (inr refuses) done) = by w.vat.is_closed refl
    where
      fits : refuses.0 ≢ refusals.OutOfMemory
      fits = (refused_is refusal refuses.0 refuses.1).1

      again : objects.IsDone o.link (events.Answer origin bad_outcome) link
      again = subst (λ (l : Link). objects.IsDone l (events.Answer origin bad_outcome) link) (refuses.3 fits) done

      stepped : Step w.vat (events.Answer origin outcome) (Err refuses.0) [] w.vat
      stepped = refused_at o.link.vat mid.vat w.vat (events.Answer origin outcome) refuses.0 refuses.2.effects (steps_alone refuses.2 h.no_tails) fits h.vat

      by : (b : Bool) → w.vat.is_closed ≡ b → (next : Work) × Answers w origin outcome next × Matches base next (record o { link = link })
      by true shut = (w, was_closed w.vat (step.was_closed (events.Answer origin outcome) shut) refl, unchanged link (nothing_done (events.Answer origin bad_outcome) link shut again))
      by false still =
          let no_closing : refuses.0 ≢ refusals.Closed =
          λ e. true≢false (sym (was_shut w.vat w.vat origin outcome [] (subst (λ (r : VatFault). Step w.vat (events.Answer origin outcome) (Err r) [] w.vat) e stepped)) ∙ still) in
          let more = follows_done (events.Answer origin bad_outcome) link again in
          (more.0, is_replaced refuses.0 w.vat (no_closing, fits) stepped more.1, more.2)

  pub follows_tries : (i : ℕ) (new : objects.Work) → objects.Tries o i new → (next : Work) × Tries w i next × Matches base next new
  follows_tries i new (objects.is_released link d e) = (
    record w { vat = link.vat; effects = w.effects ++ d.effects },
    is_released link.vat d.effects (step_at (events.Release i) values.Nothing link d.effects (steps_alone d h.no_tails)) refl,
    subst (λ (x : objects.Work). Matches base (record w { vat = link.vat; effects = w.effects ++ d.effects }) x) (sym e) (does (events.Release i) values.Nothing link d),
  )
  follows_tries i new (objects.is_refused refusal link (inl ended) stays) = absurd (no_refusal (is_over w.closed w.effects) (sym h.ended ∙ ended.0))
  follows_tries i new (objects.is_refused refusal link (inr refuses) stays) = by stays
    where
      is : (refuses.0 ≡ refusal) × (refuses.0 ≢ refusals.OutOfMemory)
      is = refused_is refusal refuses.0 refuses.1

      stepped : Step w.vat (events.Release i) (Err refuses.0) [] w.vat
      stepped = refused_at o.link.vat link.vat w.vat (events.Release i) refuses.0 refuses.2.effects (steps_alone refuses.2 h.no_tails) is.1 h.vat

      same : link ≡ o.link
      same = refuses.3 is.1

      by : objects.Stays i refusal (record o { link = link }) new → (next : Work) × Tries w i next × Matches base next new
      by (objects.is_used used gives) = (
        record w { given_up = w.given_up ++ i ∷ [] },
        is_used w.vat (subst (λ (r : VatFault). Step w.vat (events.Release i) (Err r) [] w.vat) (is.0 ∙ used) stepped) refl,
        subst (λ (x : objects.Work). Matches base (record w { given_up = w.given_up ++ i ∷ [] }) x) (sym gives)
            (subst (λ (l : Link). Matches base (record w { given_up = w.given_up ++ i ∷ [] }) (record o { link = l; given_up = o.given_up ++ i ∷ [] })) (sym same)
            (owes w.awaited o.awaited o.owed (w.given_up ++ i ∷ []) (o.given_up ++ i ∷ []) h.awaited (ap (λ (x : List ℕ). x ++ i ∷ []) h.given_up))),
      )
      by (objects.is_dropped other e) = (w, is_dropped refuses.0 w.vat (λ k. other (sym is.0 ∙ k)) is.1 stepped refl, subst (λ (x : objects.Work). Matches base w x) (sym e) (unchanged link same))
  follows_tries i new (objects.had_ended fault link is_end (inl ended) e) = (
    w,
    is_dropped refusals.Closed w.vat (λ k. cc (k)) (λ k. cc (k)) (step.was_closed (events.Release i) (shut_work ended.0)) refl,
    subst (λ (x : objects.Work). Matches base w x) (sym e) (unchanged link ended.1),
  )
  follows_tries i new (objects.had_ended fault link is_end (inr refuses) e) = absurd (no_end refuses.0 (subst objects.IsEnd refuses.1 is_end))

-- ---- what objects reply and settle

follows_replies : {base : Link} {w : Work} {o new : objects.Work} → Matches base w o → (origin : Origin) (ticket : ℕ) (reply : Reply) → objects.Replies (λ outcome. outcome) o origin ticket reply new
    → (next : Work) × Replies w origin ticket reply next × Matches base next new
follows_replies {base = base} {w = w} {o = o} h origin ticket (replies.Now outcome gives_up) r =
    let owed : objects.Work = record o { given_up = o.given_up ++ gives_up } in
    let all : r.0 ≡ owed = gives_up_all gives_up o h.none_held r.2 in
    let more = follows_answers base (record w { given_up = w.given_up ++ gives_up }) owed
    (owes base w o h w.awaited o.awaited o.owed (w.given_up ++ gives_up) (o.given_up ++ gives_up) h.awaited (ap (λ (x : List ℕ). x ++ gives_up) h.given_up)) origin outcome r.1
    (subst (λ (x : objects.Work). objects.Answers x.link origin outcome r.1) all r.3) in
    (more.0, more.1, subst (λ (x : objects.Work). Matches base more.0 x) (sym (r.4 ∙ ap (λ (x : objects.Work). record x { link = r.1 }) all)) more.2)
follows_replies {base = base} {w = w} {o = o} h origin ticket replies.Later r =
    let a : Table Origin = insert w.awaited ticket origin in (
      record w { awaited = a },
      refl,
      subst (λ (x : objects.Work). Matches base (record w { awaited = a }) x) (sym r)
          (owes base w o h a (insert o.awaited ticket origin) (insert o.owed (objects.key_of origin) ticket) w.given_up o.given_up (ap (λ (t : Table Origin). insert t ticket origin) h.awaited) h.given_up),
    )

follows_settles : {base : Link} {w : Work} {o new : objects.Work} → Matches base w o → (settled : Option Settled) (gave : Bool) → calling.Settles (λ outcome. outcome) o settled gave new
    → (next : Work) × Settles w settled gave next × Matches base next new
follows_settles {w = w} h settled gave calling.gives_none = (w, gives_none, h)
follows_settles {w = w} h settled gave (calling.is_stranger s none) = (w, is_stranger s (ap (λ (t : Table Origin). get t s.ticket) (sym h.awaited) ∙ none), h)
follows_settles {base = base} {w = w} {o = o} h settled gave (calling.is_awaited s origin link {mid = mid} got gives answers e) =
    let taken : objects.Work = objects.awaiting_no_more origin s.ticket o in
    let owed : objects.Work = record taken { given_up = o.given_up ++ s.gives_up } in
    let all : mid ≡ owed = gives_up_all s.gives_up taken h.none_held gives in
    let more = follows_answers base (record w { awaited = remove w.awaited s.ticket; given_up = w.given_up ++ s.gives_up }) owed
    (owes base w o h (remove w.awaited s.ticket) (remove o.awaited s.ticket) (remove o.owed (objects.key_of origin)) (w.given_up ++ s.gives_up) (o.given_up ++ s.gives_up) (ap (λ (t : Table Origin). remove t s.ticket) h.awaited) (ap (λ (x : List ℕ). x ++ s.gives_up) h.given_up))
    origin s.outcome link (subst (λ (x : objects.Work). objects.Answers x.link origin s.outcome link) all answers) in (
      more.0,
      is_awaited s origin (ap (λ (t : Table Origin). get t s.ticket) (sym h.awaited) ∙ got) more.1,
      subst (λ (x : objects.Work). Matches base more.0 x) (sym (e ∙ ap (λ (x : objects.Work). record x { link = link }) all)) more.2,
    )

-- ---- objects that may not call make no calls

module _ {A : Type 0} (kind : Kind A) where
  next_none : {number : ℕ} {o new : objects.Work} {next_call : Option OutgoingCall} {seen others : Vec A} → o.may_call ≡ false → calling.NextCall (listed kind) number o next_call new seen others
      → (next_call ≡ None) × (new ≡ o) × (others ≡ seen)
  next_none off (calling.next_calls link may still asked kept is) = absurd (true≢false (sym may ∙ off))
  next_none off (calling.is_unasked why none still same) = (none, still, same)

  settles_none : {o new : objects.Work} {seen others : Vec A} → calling.SettlesEach (listed kind) o new seen others → (new ≡ o) × (others ≡ seen)
  settles_none (calling.none_left none) = (refl, none.1)
  settles_none (calling.settles settled gave handed settles rest) = none_out (sym handed.0)

  cancels_no_call : {o new : objects.Work} {seen others : Vec A} → giving_up.CancelsEach (listed kind) o new seen others → (new ≡ o) × (others ≡ seen)
  cancels_no_call (giving_up.none_left none) = (refl, none.1)
  cancels_no_call (giving_up.cancels call handed canceled rest) = none_out (sym handed.0)

  no_calls : {number : ℕ} {o new : objects.Work} {seen others : Vec A} → o.may_call ≡ false → calling.MakesCalls (listed kind) number o new seen others → (new ≡ o) × (others ≡ seen)
  no_calls off (calling.makes_none next canceled settled) =
      let none = next_none off next in
      let given = cancels_no_call canceled in
      let all = settles_none settled in
      (all.0 ∙ given.0 ∙ none.1, all.1 ∙ given.1 ∙ none.2)
  no_calls off (calling.makes_one next_call next made more) = none_out (sym (next_none off next).0)

-- ---- objects of a list make no promises

no_promise_requests : {A : Type 0} (kind : Kind A) {old new : Link} {seen others : Vec A} → pledging.KeepsPromiseRequests (listed kind) old new seen others → (new ≡ old) × (others ≡ seen)
no_promise_requests kind (pledging.none_left none) = (refl, none.1)
no_promise_requests kind (pledging.keeps promise_request handed kept rest) = none_out (sym handed.0)

-- ---- objects of a list aren't told of calls that were given up

tells_none : {A : Type 0} (kind : Kind A) {origin : Origin} {o new : objects.Work} {seen others : Vec A} → giving_up.TellsLate (listed kind) origin o new seen others
    → (owed_then : Table ℕ) × (new ≡ record o { owed = owed_then }) × (others ≡ seen)
tells_none kind {o = o} (giving_up.is_for_somebody waited same still) = (o.owed, same, still)
tells_none kind {o = o} (giving_up.is_for_nobody finished (giving_up.is_not_owed none same still)) = (o.owed, same, still)
tells_none kind {origin = origin} {o = o} (giving_up.is_for_nobody finished (giving_up.is_owed ticket told link owed_ cancels kept same)) =
    let quiet = no_promise_requests kind kept in
    let owed_then : Table ℕ = remove o.owed (objects.key_of origin) in
    (owed_then, same ∙ ap (λ (l : Link). record o { link = l; owed = owed_then }) quiet.0, quiet.1 ∙ cancels.1)

-- ---- effects that are worked off

at_least : (a b : ℕ) → (a < b → ⊥) → b ≤ a
at_least a b h = omega (arith, h)

abbrev HasNoSend : List Effect → Type 0
HasNoSend (effects.Send m ∷ more) = ⊥
HasNoSend other = Unit {0}

nothing_first : {first : ConnectionEvent} {more : List ConnectionEvent} → first ∷ more ≡ [] → ⊥
nothing_first e = cc (e)

first_none : (es : List Effect) → HasNoSend es → happening_by es ≡ [] → es ≡ []
first_none [] n e = refl
first_none (effects.Send m ∷ more) n e = absurd n
first_none (effects.Deliver k origin ticket call ∷ more) n e = absurd (nothing_first e)
first_none (effects.Settled q outcome ∷ more) n e = absurd (nothing_first e)
first_none (effects.Closed reason ∷ more) n e = absurd (nothing_first e)

-- The messages that come first among the effects are worked off, and what follows does so too.
abbrev Led : {A : Type 0} → Kind A → Link → Work → objects.Work → List A → Type 0
Led {A = A} kind base w o seen = (v : Work) × ((next : Work) (last : List A) → WorksOff kind v seen next last → WorksOff kind w seen next last) × Matches base v o × HasNoSend v.effects

module _ {A : Type 0} {kind : Kind A} where
  sends_off : {base : Link} {o : objects.Work} (seen : List A) (es : List Effect) (w : Work) → w.effects ≡ es → Matches base w o → Led kind base w o seen
  sends_off seen [] w e h = (w, (λ next last k. k), h, subst HasNoSend (sym e) tt)
  sends_off {base = base} {o = o} seen (effects.Send m ∷ more) w e h =
      let after : Matches base (record w { effects = more; sent = w.sent ++ m ∷ [] }) o =
      worked base w o h more (w.sent ++ m ∷ []) w.closed o.link.happened o.notices (h.happens ∙ ap happening_by e)
      (append_assoc w.sent (m ∷ []) (sent_of more) ∙ ap (λ (x : List Message). w.sent ++ x) (ap sent_of (sym e)))
      (closes_rest w.closed (effects.Send m) more w.vat.is_closed (subst (λ (x : List Effect). ClosesBy w.closed x w.vat.is_closed) e h.closes_by) refl)
      (over_rest w.closed (effects.Send m) more refl ∙ ap (is_over w.closed) (sym e)) h.reason in
      let led = sends_off seen more (record w { effects = more; sent = w.sent ++ m ∷ [] }) refl after in
      (led.0, (λ next last k. acts (effects.Send m) more e (refl, refl) (led.1 next last k)), led.2, led.3)
  sends_off seen (effects.Deliver k origin ticket call ∷ more) w e h = (w, (λ next last k. k), h, subst HasNoSend (sym e) tt)
  sends_off seen (effects.Settled q outcome ∷ more) w e h = (w, (λ next last k. k), h, subst HasNoSend (sym e) tt)
  sends_off seen (effects.Closed reason ∷ more) w e h = (w, (λ next last k. k), h, subst HasNoSend (sym e) tt)

  -- a call that is delivered
  delivers : {base : Link} {w : Work} {o given mid told new : objects.Work} {link : Link} {seen between kept after others : Vec A} (k : ℕ) (origin : Origin) (ticket : ℕ) (call : Request)
      (reply : Reply) → Matches base w o → rounds.Gives (listed kind) k ticket call reply o given seen between → pledging.KeepsPromiseRequests (listed kind) given.link link between kept
      → objects.Replies (λ outcome. outcome) (record given { link = link }) origin ticket reply mid → giving_up.TellsLate (listed kind) origin mid told kept after
      → calling.MakesCalls (listed kind) k told new after others
      → (next : Work) × Delivers kind w seen.items k origin ticket call next others.items × Matches base next new
  delivers {base = base} {w = w} {o = o} {given = given} {mid = mid} {seen = seen} {between = between} {others = others} k origin ticket call reply h gives pledged replied late called =
      let quiet = no_promise_requests kind pledged in
      let is : record given { link = _ } ≡ o = ap (λ (l : Link). record given { link = l }) quiet.0 ∙ unnoted gives in
      let more = follows_replies h origin ticket reply (subst (λ (x : objects.Work). objects.Replies (λ outcome. outcome) x origin ticket reply mid) is replied) in
      let telling = tells_none kind late in
      let here = subst (λ (x : objects.Work). Matches base more.0 x) (sym telling.1)
      (owes base more.0 mid more.2 more.0.awaited mid.awaited telling.0 more.0.given_up mid.given_up more.2.awaited more.2.given_up) in
      let none = no_calls kind here.none_call called in
      (more.0, by more.0 more.1 (none.1 ∙ telling.2 ∙ quiet.1) gives, subst (λ (x : objects.Work). Matches base more.0 x) (sym none.0) here)
    where
      unnoted : rounds.Gives (listed kind) k ticket call reply o given seen between → given ≡ o
      unnoted (rounds.by_object holds changes) = holds_unnoted call.caps o h.none_call holds
      unnoted (rounds.by_none past is same still) = same

      by : (next : Work) → Replies w origin ticket reply next → others ≡ between → rounds.Gives (listed kind) k ticket call reply o given seen between → Delivers kind w seen.items k origin ticket call next others.items
      by next r same (rounds.by_object holds changes) = subst (λ (x : Vec A). Delivers kind w seen.items k origin ticket call next x.items) (sym same) (to_object reply changes r)
      by next r same (rounds.by_none past is idle still) =
          to_none (at_least k (length seen.items) past)
          (subst (λ (g : List ℕ). Answers (record w { given_up = g }) origin no_such_object next) (append-nil w.given_up) (subst (λ (x : Reply). Replies w origin ticket x next) is r)) (ap (λ (v : Vec A). v.items) (same ∙ still))

-- what one event asks
abbrev Acted : {A : Type 0} → Kind A → Link → Work → objects.Work → Vec A → Vec A → Type 0
Acted kind base v mid seen between = (effect : Effect) × (rest : List Effect) × (next : Work) × (v.effects ≡ effect ∷ rest) × service.Acts kind effect (record v { effects = rest }) seen.items next between.items × Matches base next mid

module _ {base : Link} {o : objects.Work} (first : ConnectionEvent) (link : Link) (out : HandsOut o.link (Some first) link) (v : Work) (h : Matches base v o) where
  -- the first of what happened is that of the first effect, and the others are those of the others
  happens_by : (effect : Effect) (rest : List Effect) → v.effects ≡ effect ∷ rest → first ∷ link.happened ≡ happening_by (effect ∷ rest)
  happens_by effect rest e = sym out.0 ∙ h.happens ∙ ap happening_by e

  -- that effect was taken
  one_taken : (effect : Effect) (rest : List Effect) → v.effects ≡ effect ∷ rest → sent_of (effect ∷ rest) ≡ sent_of rest → closes (effect ∷ rest) ≡ closes rest → link.happened ≡ happening_by rest
      → Matches base (record v { effects = rest }) (record o { link = link })
  one_taken effect rest e sends shuts happens =
      subst (λ (l : Link). Matches base (record v { effects = rest }) (record o { link = l })) (sym out.1)
      (worked base v o h rest v.sent v.closed link.happened o.notices happens (ap (λ (x : List Message). v.sent ++ x) (sym sends ∙ ap sent_of (sym e)))
      (closes_rest v.closed effect rest v.vat.is_closed (subst (λ (x : List Effect). ClosesBy v.closed x v.vat.is_closed) e h.closes_by) shuts)
      (over_rest v.closed effect rest shuts ∙ ap (is_over v.closed) (sym e)) h.reason)

  module _ {A : Type 0} {kind : Kind A} {mid : objects.Work} (seen between : Vec A) (handled : rounds.Handles (listed kind) first (record o { link = link }) mid seen between) where
    one_delivered : (k : ℕ) (origin : Origin) (ticket : ℕ) (call : Request) (rest : List Effect) → v.effects ≡ effects.Deliver k origin ticket call ∷ rest → Acted kind base v mid seen between
    one_delivered k origin ticket call rest e =
        let all : first ∷ link.happened ≡ happenings.Delivered k origin ticket call ∷ happening_by rest = happens_by (effects.Deliver k origin ticket call) rest e in
        let heads : first ≡ happenings.Delivered k origin ticket call = cc (all) in
        let tails : link.happened ≡ happening_by rest = cc (all) in
        let parts = subst (λ (x : ConnectionEvent). rounds.Handles (listed kind) x (record o { link = link }) mid seen between) heads handled in
        let done = delivers k origin ticket call parts.0 (one_taken (effects.Deliver k origin ticket call) rest e refl refl tails) parts.8 parts.9 parts.10 parts.11 parts.12 in
        (effects.Deliver k origin ticket call, rest, done.0, e, done.1, done.2)

    one_settled : (q : ℕ) (outcome : Outcome) (rest : List Effect) → v.effects ≡ effects.Settled q outcome ∷ rest → Acted kind base v mid seen between
    one_settled q outcome rest e = by (subst (λ (x : ConnectionEvent). rounds.Handles (listed kind) x (record o { link = link }) mid seen between) heads handled)
      where
        all : first ∷ link.happened ≡ happenings.Settled q outcome ∷ happening_by rest
        all = happens_by (effects.Settled q outcome) rest e

        heads : first ≡ happenings.Settled q outcome
        heads = cc (all)

        tails : link.happened ≡ happening_by rest
        tails = cc (all)

        here : Matches base (record v { effects = rest }) (record o { link = link })
        here = one_taken (effects.Settled q outcome) rest e refl refl tails

        noted_alone : calling.NotesOutcome q outcome (record o { link = link }) mid → mid ≡ record o { link = link; notices = o.notices ++ notices.Outcome q outcome ∷ [] }
        noted_alone notes =
            notes.2
            ∙ ap (λ (x : objects.Work). record x { notices = x.notices ++ notices.Outcome q outcome ∷ [] }) (gives_unnoted (caps_of outcome) (record o { link = link }) h.none_call notes.1)

        by : calling.HandsBack (listed kind) q outcome (record o { link = link }) mid seen between → Acted kind base v mid seen between
        by (calling.to_user none notes same) = (
          effects.Settled q outcome,
          rest,
          record v { effects = rest },
          e,
          (refl, ap (λ (v : Vec A). v.items) same),
          subst (λ (x : objects.Work). Matches base (record v { effects = rest }) x) (sym (noted_alone notes))
              (worked base (record v { effects = rest }) (record o { link = link }) here rest v.sent v.closed link.happened (o.notices ++ notices.Outcome q outcome ∷ []) tails refl here.closes_by refl
              (reason_settled o.notices q outcome ∙ here.reason)),
        )
        by (calling.to_object owner other got done hears calls) = none_out (sym (get-empty nat_cmp q) ∙ ap (λ (t : Table QuestionOwner). get t q) (sym h.none_asked) ∙ got)

    one_closed : (reason : Reason) (rest : List Effect) → v.effects ≡ effects.Closed reason ∷ rest → Acted kind base v mid seen between
    one_closed reason rest e =
        let all : first ∷ link.happened ≡ happenings.Closed reason ∷ [] = happens_by (effects.Closed reason) rest e in
        let heads : first ≡ happenings.Closed reason = cc (all) in
        let tails : link.happened ≡ [] = cc (all) in
        let notes = subst (λ (x : ConnectionEvent). rounds.Handles (listed kind) x (record o { link = link }) mid seen between) heads handled in
        let by : ClosesBy v.closed (effects.Closed reason ∷ rest) v.vat.is_closed = subst (λ (x : List Effect). ClosesBy v.closed x v.vat.is_closed) e h.closes_by in
        let none : v.closed ≡ None = not_closed_yet v.closed (effects.Closed reason) rest v.vat.is_closed by in
        let shut : v.vat.is_closed ≡ true = subst (λ (c : Option Reason). ClosesBy c (effects.Closed reason ∷ rest) v.vat.is_closed) none by refl in (
          effects.Closed reason,
          rest,
          record v { closed = Some reason; effects = [] },
          e,
          (refl, ap (λ (v : Vec A). v.items) notes.1),
          subst (λ (x : objects.Work). Matches base (record v { closed = Some reason; effects = [] }) x) (sym notes.0)
              (subst (λ (l : Link). Matches base (record v { closed = Some reason; effects = [] }) (record o { link = l; notices = o.notices ++ notices.Closed reason ∷ [] })) (sym out.1)
              (worked base v o h [] v.sent (Some reason) link.happened (o.notices ++ notices.Closed reason ∷ []) tails (ap (λ (x : List Message). v.sent ++ x) (ap sent_of (sym e))) (shut, refl)
              (sym (ap (λ (c : Option Reason). is_over c v.effects) none ∙ ap closes e))
              (reason_closed o.notices reason (h.reason ∙ none)))),
        )

    one_off : (es : List Effect) → v.effects ≡ es → HasNoSend es → Acted kind base v mid seen between
    one_off [] e n = absurd (nothing_first (sym out.0 ∙ h.happens ∙ ap happening_by e))
    one_off (effects.Send m ∷ rest) e n = absurd n
    one_off (effects.Deliver k origin ticket call ∷ rest) e n = one_delivered k origin ticket call rest e
    one_off (effects.Settled q outcome ∷ rest) e n = one_settled q outcome rest e
    one_off (effects.Closed reason ∷ rest) e n = one_closed reason rest e

module _ {A : Type 0} {kind : Kind A} where
  pub follows_works_off : {base : Link} {o new : objects.Work} {seen others : Vec A} → rounds.WorksOff (listed kind) o new seen others → (w : Work) → Matches base w o
      → (next : Work) × WorksOff kind w seen.items next others.items × Matches base next new × (next.effects ≡ [])
  follows_works_off {seen = seen} (rounds.none_left none) w h =
      let led = sends_off seen.items w.effects w refl h in
      let all : led.0.effects ≡ [] = first_none led.0.effects led.3 (sym led.2.happens ∙ none) in
      (led.0, led.1 led.0 seen.items (none_left all), led.2, all)
  follows_works_off {seen = seen} {others = others} (rounds.handles {between = between} first link out handled tail) w h =
      let led = sends_off seen.items w.effects w refl h in
      let one = one_off first link out led.0 led.2 seen between handled led.0.effects refl led.3 in
      let more = follows_works_off tail one.2 one.5 in
      (more.0, led.1 more.0 others.items (acts one.0 one.1 one.3 one.4 more.1), more.2, more.3)

-- ---- rounds

module _ {A : Type 0} {kind : Kind A} where
  pub follows_polls : {place : ℕ} {base : Link} {o new : objects.Work} {seen others : Vec A} {gave : Bool} → rounds.PollsFrom (listed kind) place o gave new seen others → (w : Work) → Matches base w o → w.effects ≡ []
      → (next : Work) × PollsFrom kind place w seen.items gave next others.items × Matches base next new × (next.effects ≡ [])
  follows_polls (rounds.none_left past) w h rest = (w, service.none_left past, h, rest)
  follows_polls {base = base} {o = o} (rounds.has_ended some) w h rest = (w, service.is_closed (closed_work base w o h some rest), h, rest)
  follows_polls {base = base} {o = o} {seen = seen} {others = others} {gave = gave} (rounds.polls {mid = mid} {last = last} number settled first more still next polled pledged settles calls off tail e) w h rest =
      let quiet = no_promise_requests kind pledged in
      let one = follows_settles h settled first (subst (λ (l : Link). calling.Settles (λ outcome. outcome) (record o { link = l }) settled first mid) quiet.0 settles) in
      let none = no_calls kind one.2.none_call calls in
      let two = follows_works_off off one.0 (subst (λ (x : objects.Work). Matches base one.0 x) (sym none.0) one.2) in
      let three = follows_polls tail two.0 two.2 two.3 in
      let polls = service.polls {new = three.0} settled first more (open_work base w o h still).0 polled one.1 (subst (λ (x : Vec A). WorksOff kind one.0 x.items two.0 last.items) (none.1 ∙ quiet.1) two.1) three.1 e in
      (three.0, subst (λ (n : ℕ). PollsFrom kind n w seen.items gave three.0 others.items) next.0 polls, three.2, three.3)

follows_each : {base : Link} (imports : List ℕ) {w : Work} {o new : objects.Work} → Matches base w o → objects.TriesEach o imports new → (next : Work) × TriesEach w imports next × Matches base next new
follows_each {base = base} [] {w = w} h e = (w, refl, subst (λ (x : objects.Work). Matches base w x) (sym e) h)
follows_each {base = base} (i ∷ more) {w = w} {o = o} h tries =
    let one = follows_tries base w o h i tries.0 (tries_all i h.none_held h.none_given tries.1) in
    let rest = follows_each more one.2 tries.2 in
    (rest.0, (one.0, one.1, rest.1), rest.2)

follows_releases : {base : Link} {w : Work} {o new : objects.Work} → Matches base w o → objects.Releases o new → (next : Work) × Releases w next × Matches base next new
follows_releases {base = base} {w = w} {o = o} {new = new} h releases =
    follows_each w.given_up (owes base w o h w.awaited o.awaited o.owed [] [] h.awaited refl) (subst (λ (x : List ℕ). objects.TriesEach (record o { given_up = [] }) x new) h.given_up releases)

-- the objects of a list give nothing up beside what they answer
gives_up_none : {A : Type 0} (kind : Kind A) (o new : objects.Work) (seen others : Vec A) → rounds.GivesUpBeside (listed kind) o new seen others → new ≡ o
gives_up_none kind o new seen others beside = subst (λ (is : List ℕ). objects.GivesUp is o new) beside.1.0 beside.2

module _ {A : Type 0} {kind : Kind A} where
  pub follows_round : {base : Link} {o new : objects.Work} {seen others : Vec A} {gave : Bool} → rounds.Rounds (listed kind) o gave new seen others → (w : Work) → Matches base w o → w.effects ≡ []
      → (next : Work) × Rounds kind w seen.items gave next others.items × Matches base next new × (next.effects ≡ [])
  follows_round {base = base} {new = new} (rounds.has_ended polled some) w h rest =
      let one = follows_polls polled w h rest in
      (one.0, service.is_closed one.1 (closed_work base one.0 new one.2 some one.3), one.2, one.3)
  follows_round {base = base} {others = others} (rounds.releases mid given released between left polled still given_up tried off) w h rest =
      let one = follows_polls polled w h rest in
      let two = follows_releases (subst (λ (x : objects.Work). Matches base one.0 x) (sym (gives_up_none kind mid given between left given_up)) one.2) tried in
      let three = follows_works_off off two.0 two.2 in
      let off_left = subst (λ (x : Vec A). WorksOff kind two.0 x.items three.0 others.items) given_up.1.1 three.1 in
      (three.0, service.releases one.0 two.0 between.items one.1 (open_work base one.0 mid one.2 still).0 two.1 off_left, three.2, three.3)

  -- a message is taken
  pub follows_message : {base : Link} {o mid new : objects.Work} {seen between others : Vec A} (m : Message) (link : Link) (gave : Bool) (owed_then : Table ℕ) → Does o.link (events.Receive m) (Ok values.Nothing) link
      → rounds.WorksOff (listed kind) (record o { link = link }) mid seen between → rounds.Rounds (listed kind) (record mid { owed = owed_then }) gave new between others → (w : Work) → Matches base w o
      → (next : Work) × TakesMessage kind w seen.items m next others.items × Matches base next new × (next.effects ≡ [])
  follows_message {base = base} {o = o} {mid = mid} {between = between} m link gave owed_then d off round w h =
      let received : Work = record w { vat = link.vat; effects = w.effects ++ d.effects } in
      let done : IsDone w (events.Receive m) received =
      record { result = Ok values.Nothing; effects = d.effects; vat = link.vat; step = step_at base w o h (events.Receive m) values.Nothing link d.effects (steps_alone d h.no_tails); memory = tt; did = refl } in
      let one = follows_works_off off received (does base w o h (events.Receive m) values.Nothing link d) in
      let two = follows_round round one.0 (owes base one.0 mid one.2 one.0.awaited mid.awaited owed_then one.0.given_up mid.given_up one.2.awaited one.2.given_up) one.3 in
      (two.0, takes received one.0 between.items gave done one.1 two.1, two.2, two.3)

-- ---- between messages

and_none : (n : ℕ) → n ≡ n + 0
and_none n = omega arith

-- Nothing is left to be done but to write, and the connection goes on as it was.
pub rests_after : {base : Link} {w : Work} {o : objects.Work} → Matches base w o → w.effects ≡ [] → (link : Link) → link.vat ≡ o.link.vat → link.tails ≡ o.link.tails → link.happened ≡ o.link.happened → link.fault ≡ o.link.fault
    → IsAllDone (written w) (record o { link = link })
rests_after {w = w} {o = o} h none link vat tails happened fault = record {
  matches = record {
    vat = vat ∙ h.vat;
    no_tails = tails ∙ h.no_tails;
    awaited = h.awaited;
    given_up = h.given_up;
    none_call = h.none_call;
    none_asked = h.none_asked;
    none_held = h.none_held;
    none_given = h.none_given;
    happens = happened ∙ h.happens;
    bytes = [];
    frames = subst (λ (es : List Effect). AreFramesOf link.mode (sent_of es) []) (sym none) refl;
    goes_out = sym (append-nil link.unwritten);
    counts = λ n e. e ∙ ap (λ (k : ℕ). min k (2 ^ 64 - 1)) (and_none n) ∙ ap (λ (es : List Effect). min (n + length (sent_of es)) (2 ^ 64 - 1)) (sym none);
    same_stats = refl;
    same_mode = refl;
    same_limits = refl;
    same_reading = refl;
    ended = fault ∙ h.ended;
    closes_by = h.closes_by;
    between = h.between;
    reason = h.reason;
  };
  none_left = none;
  none_unsent = refl;
}
