-- What the vat did is what the connection does.
use Rattle.std.proofs.Common.{◌≡◌, ◌≢◌, ◌⊎◌, inl, ℕ, ◌+◌, ◌-◌, ◌^◌, ◌++◌, ◌∷◌, min, Bool, true, false, List, [], Option, None, Result, Ok, Err, inr, refl, sym, ap, ◌∙◌, subst, append-nil, is_none, true≢false, arith}
use Rattle.cp_messages.specs.declared.message.Message.{Message}
use Rattle.cp_vat_machine.specs.Asked.{stage_of}
use Rattle.cp_vat_machine.specs.Run.{Moment}
use Rattle.cp_vat_machine.specs.State.{State}
use Rattle.cp_vat_machine.specs.Step.{Step, was_closed, ran_out, refused, did, received, faulted}
use Rattle.cp_vat_machine.specs.Supported.{is_supported_to_caller}
use Rattle.cp_vat_machine.specs.declared.acted.Acted.{Acted}
use Rattle.cp_vat_machine.specs.declared.effect.Effect.{Effect}
use Rattle.cp_vat_machine.specs.declared.event.Event.{Event}
use Rattle.cp_vat_machine.specs.declared.event.Event.TheVariants as events
use Rattle.cp_vat_machine.specs.declared.event.Value.{Value}
use Rattle.cp_vat_machine.specs.declared.fault.VatFault.{VatFault}
use Rattle.cp_vat_machine.specs.declared.fault.VatFault.TheVariants as refusals
use Rattle.cp_tail_calls.specs.Serving.{Served, Goes, Serves, calls, refuses, comes_of, is_message, moment, trigger_of}
use Rattle.cp_tail_calls.specs.Tails.{Tails}
use Rattle.cp_tail_calls.specs.declared.forwarding.Trigger.{Trigger}
use Rattle.cp_tail_calls.specs.declared.forwarding.Trigger.TheVariants as triggers
use Rattle.cp_connection.specs.declared.agenda.Agenda.{Agenda}
use Rattle.cp_connection.specs.declared.fault.ConnectionFault.{ConnectionFault}
use Rattle.cp_connection.specs.declared.fault.ConnectionFault.TheVariants as faults
use Rattle.cp_connection.specs.declared.parts.Parts.{Parts}
use Rattle.cp_connection.specs.Noting.{Notes}
use Rattle.cp_connection.specs.Refusing.{refusal_of}
use Rattle.cp_connection.specs.Link.{Link}
use Rattle.cp_connection.specs.LinkOf.{closed_if, link_of, refused_by, tails_if}
use Rattle.cp_connection.specs.Doing.{Acts, ended_by, Does, HadEnded, Refuses}
use Rattle.cp_connection.specs.Settling.{behind, closed_by, Concludes, Follows, Loses, NotesAll}

-- a refusal changes nothing
pub refused_same : {old new : State} {event : Event} {fault : VatFault} {all : List Effect} → Step old event (Err fault) all new → fault ≢ refusals.OutOfMemory → new ≡ old
refused_same (was_closed event shut) n = refl
refused_same (ran_out event still shut) n = absurd (n refl)
refused_same (refused event still does) n = refl

-- what was done was done by an open vat
pub was_still : {old new : State} {event : Event} {value : Value} {all : List Effect} → Step old event (Ok value) all new → old.is_closed ≡ false
was_still (did event first rest mid still does follows all) = still
was_still (received m first rest mid still does follows all) = still
was_still (faulted m still does shut) = still

pub no_effects : {old new : State} {event : Event} {fault : VatFault} {all : List Effect} → Step old event (Err fault) all new → all ≡ []
no_effects (was_closed event shut) = refl
no_effects (ran_out event still shut) = refl
no_effects (refused event still does) = refl

-- a message is refused by a closed vat, or memory ran out
pub message_refused : {old new : State} {m : Message} {fault : VatFault} {all : List Effect} → Step old (events.Receive m) (Err fault) all new
    → (old.is_closed ≡ true) ⊎ ((fault ≡ refusals.OutOfMemory) × (old.is_closed ≡ false) × (new.is_closed ≡ true))
message_refused (was_closed event shut) = inl shut
message_refused (ran_out event still shut) = inr (refl, still, shut)
message_refused (refused event still does) = absurd does

none_more : (a : ℕ) (n : ℕ) → a ≡ min n (2 ^ 64 - 1) → a ≡ min (n + 0) (2 ^ 64 - 1)
none_more a n is = omega (arith, is)

-- what leads to a call is the application
called_by : (event : Event) → is_message event ≡ false → trigger_of event ≡ triggers.Application
called_by (events.Receive m) e = absurd (true≢false e)
called_by events.Bootstrap e = refl
called_by (events.Call cap request) e = refl
called_by (events.Answer origin outcome) e = refl
called_by events.Promise e = refl
called_by (events.Resolve p cap) e = refl
called_by (events.Finish q) e = refl
called_by (events.Release i) e = refl
called_by (events.Forget p) e = refl
called_by events.Idle e = refl

abbrev serve : State → Option Tails → Served
serve v t = record { vat = v; tails = t }

-- the vat did an event, and all that follows was noted
pub goes_so : (p q : Parts) (before : State) (event : Event) (value : Value) (by : List Effect) → Step before event (Ok value) by p.vat → (f : Follows p (trigger_of event) by q)
    → Goes is_supported_to_caller stage_of (serve before p.tails) event value (moment event (Ok value) by ∷ f.later) ((comes_of (trigger_of event) p.tails by).0 ++ f.rest) (behind q)
goes_so p q before event value by step f = record {
  by = by;
  vat = p.vat;
  step = step;
  later = f.later;
  rest = f.rest;
  settles = f.settles;
  whole = refl;
  all = refl;
}

-- of a connection, before which its vat and the tail calls were these
module _ (p : Parts) (before : State) (first : Option Tails) (event : Event) (open_ : p.fault ≡ None) (kept : p.is_lost ≡ false) where
  abbrev start : Link
  start = record (link_of p) { vat = before; tails = first }

  -- the vat did it, and what comes of it was noted
  does_at : (value : Value) (history : List Moment) (out : List Effect) (a : Agenda) (v : State) (t : Option Tails) (f : Option ConnectionFault)
      → Serves is_supported_to_caller stage_of (serve before first) event (Ok value) history out (serve v t) → Notes p.agenda out a → f ≡ closed_by out
      → Does start event (Ok value) (link_of (record p { agenda = a; vat = v; tails = t; fault = f }))
  does_at value history out a v t f serves noted ends = record {
    was_open = open_;
    history = history;
    effects = out;
    serves =
        subst (λ (x : Served). Serves is_supported_to_caller stage_of (serve before first) event (Ok value) history out x)
        (sym (ap (λ (b : Bool). serve (closed_if b v) (tails_if b t)) kept)) serves;
    bytes = noted.bytes;
    are_frames = noted.frames;
    goes_out = noted.goes_out;
    happens = noted.happens;
    counts = noted.counts;
    same_stats = refl;
    ends = ends;
    same_mode = noted.same_mode;
    same_limits = refl;
    same_reading = refl;
  }

  pub does_noted : (value : Value) (history : List Moment) (out : List Effect) (q : Parts) → Serves is_supported_to_caller stage_of (serve before first) event (Ok value) history out (behind q)
      → Notes p.agenda out q.agenda → q.fault ≡ closed_by out → q ≡ record p { agenda = q.agenda; vat = q.vat; tails = q.tails; fault = q.fault }
      → Does start event (Ok value) (link_of q)
  does_noted value history out q serves noted ends same =
      subst (λ (x : Parts). Does start event (Ok value) (link_of x)) (sym same) (does_at value history out q.agenda q.vat q.tails q.fault serves noted ends)

  -- memory ran out for what follows
  does_lost : (q : Parts) → before.is_closed ≡ false → Loses p q → Does start event (Err refusals.OutOfMemory) (link_of q)
  does_lost q still lost = subst (λ (x : Parts). Does start event (Err refusals.OutOfMemory) (link_of x)) (sym lost.same) (record {
    was_open = open_;
    history = moment event (Err refusals.OutOfMemory) [] ∷ [];
    effects = [];
    serves = refuses event (ran_out event still refl) (λ n. absurd (n refl));
    bytes = [];
    are_frames = refl;
    goes_out = lost.stays.same_bytes ∙ sym (append-nil p.agenda.outgoing);
    happens = lost.stays.same_happenings ∙ sym (append-nil p.agenda.happened.items);
    counts = λ n is. lost.stays.same_count ∙ none_more p.agenda.sent n is;
    same_stats = refl;
    ends = refl;
    same_mode = lost.stays.same_mode;
    same_limits = refl;
    same_reading = refl;
  })

  pub loses : (q : Parts) → before.is_closed ≡ false → Loses p q → Refuses start event faults.OutOfMemory (link_of q)
  loses q still lost = (refusals.OutOfMemory, refl, does_lost q still lost, λ n. absurd (n refl))

  -- the vat refused it, and only an allocation failure changes anything
  module _ (fault : VatFault) (step : Step before event (Err fault) [] p.vat) (same : fault ≢ refusals.OutOfMemory → p.tails ≡ first) where
    seen : serve (closed_if p.is_lost p.vat) (tails_if p.is_lost p.tails) ≡ behind p
    seen = ap (λ (b : Bool). serve (closed_if b p.vat) (tails_if b p.tails)) kept

    whole : fault ≢ refusals.OutOfMemory → behind p ≡ serve before first
    whole n = ap (λ (s : State). serve s p.tails) (refused_same step n) ∙ ap (λ (t : Option Tails). serve before t) (same n)

    does_refused : (f : Option ConnectionFault) → f ≡ ended_by (Err fault) [] → Does start event (Err fault) (link_of (record p { fault = f }))
    does_refused f ends = record {
      was_open = open_;
      history = moment event (Err fault) [] ∷ [];
      effects = [];
      serves =
          refuses event (subst (λ (s : Served). Step before event (Err fault) [] s.vat) (sym seen) step)
          (λ n. seen ∙ whole n);
      bytes = [];
      are_frames = refl;
      goes_out = sym (append-nil p.agenda.outgoing);
      happens = sym (append-nil p.agenda.happened.items);
      counts = none_more p.agenda.sent;
      same_stats = refl;
      ends = ends;
      same_mode = refl;
      same_limits = refl;
      same_reading = refl;
    }

    -- and that changed nothing
    refused_whole : fault ≢ refusals.OutOfMemory → link_of p ≡ start
    refused_whole n = ap (λ (s : Served). record (link_of p) { vat = s.vat; tails = s.tails }) (seen ∙ whole n)

    -- what its refusal leaves of the connection
    ends_by : (x : VatFault) → refused_by x p.fault ≡ ended_by (Err x) []
    ends_by refusals.OutOfMemory = refl
    ends_by refusals.UnknownQuestion = open_
    ends_by refusals.UnknownPromise = open_
    ends_by refusals.AlreadyResolved = open_
    ends_by refusals.PromiseCycle = open_
    ends_by refusals.Unsettled = open_
    ends_by refusals.InUse = open_
    ends_by refusals.TooLarge = open_
    ends_by refusals.Full = open_
    ends_by refusals.Closed = open_
    ends_by refusals.UnknownImport = open_

    same_fault : (x : VatFault) → x ≢ refusals.OutOfMemory → refused_by x p.fault ≡ p.fault
    same_fault refusals.OutOfMemory n = absurd (n refl)
    same_fault refusals.UnknownQuestion n = refl
    same_fault refusals.UnknownPromise n = refl
    same_fault refusals.AlreadyResolved n = refl
    same_fault refusals.PromiseCycle n = refl
    same_fault refusals.Unsettled n = refl
    same_fault refusals.InUse n = refl
    same_fault refusals.TooLarge n = refl
    same_fault refusals.Full n = refl
    same_fault refusals.Closed n = refl
    same_fault refusals.UnknownImport n = refl

    pub refuses_so : Refuses start event (refusal_of fault) (link_of (record p { fault = refused_by fault p.fault }))
    refuses_so = (
      fault,
      refl,
      does_refused (refused_by fault p.fault) (ends_by fault),
      λ n. ap (λ (f : Option ConnectionFault). record (link_of p) { fault = f }) (same_fault fault n) ∙ refused_whole n,
    )

-- ---- a call of the application

module _ {A : Type 0} (p : Parts) (open_ : p.fault ≡ None) (kept : p.is_lost ≡ false) where
  pub concludes : (trigger : Trigger) (acted : Result (Acted A) VatFault) (result : Result A ConnectionFault) (q : Parts) → NotesAll p trigger acted result q → Concludes p trigger acted result q
  concludes trigger (Ok acted) (Ok x) q noted before event value is call step =
      let was : p.tails ≡ tails_if p.is_lost p.tails = sym (ap (λ (b : Bool). tails_if b p.tails) kept) in
      let lead : trigger ≡ trigger_of event = is ∙ sym (called_by event call) in
      let follows = subst (λ (t : Trigger). Follows p t acted.effects q) lead noted.1 in
      let serves : Serves is_supported_to_caller stage_of (serve before p.tails) event (Ok (value acted.value)) _ _ (behind q) = calls event call (goes_so p q before event (value acted.value) acted.effects step follows) in
      subst (λ (v : A). Does (record (link_of p) { vat = before }) event (Ok (value v)) (link_of q)) (sym noted.0)
      (subst (λ (t : Option Tails). Does (record (link_of p) { vat = before; tails = t }) event (Ok (value acted.value)) (link_of q)) was
      (does_noted p before p.tails event open_ kept (value acted.value) _ _ q serves follows.noted follows.ended follows.same))
  concludes trigger (Ok acted) (Err fault) q noted before event value is call step =
      let was : p.tails ≡ tails_if p.is_lost p.tails = sym (ap (λ (b : Bool). tails_if b p.tails) kept) in
      subst (λ (f : ConnectionFault). Acts (record (link_of p) { vat = before }) event (Err f) (link_of q)) (sym noted.0)
      (inr (subst (λ (t : Option Tails). Refuses (record (link_of p) { vat = before; tails = t }) event faults.OutOfMemory (link_of q)) was
      (loses p before p.tails event open_ kept q (was_still step) noted.1)))
  concludes trigger (Err refusal) (Ok x) q noted before event value is call step = absurd noted
  concludes trigger (Err refusal) (Err fault) q noted before event value is call step =
      let was : p.tails ≡ tails_if p.is_lost p.tails = sym (ap (λ (b : Bool). tails_if b p.tails) kept) in
      subst (λ (x : Parts). Acts (record (link_of p) { vat = before }) event (Err fault) (link_of x)) (sym noted.1)
      (subst (λ (f : ConnectionFault). Acts (record (link_of p) { vat = before }) event (Err f) (link_of (record p { fault = refused_by refusal p.fault }))) (sym noted.0)
      (inr (subst (λ (t : Option Tails). Refuses (record (link_of p) { vat = before; tails = t }) event (refusal_of refusal) (link_of (record p { fault = refused_by refusal p.fault }))) was
      (refuses_so p before p.tails event open_ kept refusal step (λ n. refl)))))

-- an open connection refuses for its vat
pub still_refuses : (old new : Link) (event : Event) (fault : ConnectionFault) → old.fault ≡ None → HadEnded old fault new ⊎ Refuses old event fault new → Refuses old event fault new
still_refuses old new event fault open_ (inl h) = absurd (true≢false (ap is_none (sym open_ ∙ h.0)))
still_refuses old new event fault open_ (inr h) = h
