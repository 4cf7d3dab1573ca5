-- What is served is a run of a vat.
use Rattle.std.proofs.Common.{◌≡◌, ℕ, IsSome, List, [], ◌∷◌, ◌++◌, Option, Some, None, Bool, refl, sym, ap, ◌∙◌, subst, append-nil, append_assoc, Ok, Err, true}
use Rattle.std.proofs.lemmas.Bool.{false≢true}
use Rattle.cp_messages.specs.declared.message.Message.{Message}
use Rattle.cp_refs.specs.declared.call.Origin.{Origin}
use Rattle.cp_refs.specs.declared.call.Request.{Request}
use Rattle.cp_refs.specs.declared.outcome.Outcome.{Outcome}
use Rattle.cp_vat_machine.specs.Run.{Moment, Steps}
use Rattle.cp_vat_machine.specs.State.{State, new_state}
use Rattle.cp_vat_machine.specs.Step.{Step}
use Rattle.cp_vat_machine.specs.declared.effect.Effect.{Effect}
use Rattle.cp_vat_machine.specs.declared.effect.Effect.TheVariants as effects
use Rattle.cp_vat_machine.specs.declared.effect.Reason.{Reason}
use Rattle.cp_vat_machine.specs.declared.event.Event.{Event}
use Rattle.cp_vat_machine.specs.declared.event.Event.TheVariants as events
use Rattle.cp_vat_machine.specs.declared.event.Value.TheVariants as values
use Rattle.cp_vat_machine.specs.declared.fault.VatFault.TheVariants as refusals
use Rattle.cp_servants.specs.declared.servant.Reply.{Reply}
use Rattle.cp_servants.specs.declared.servant.Reply.TheVariants as replies
use Rattle.cp_servants.specs.declared.servant.Settled.{Settled}
use Rattle.cp_servants.specs.Servant.{Kind}
use Rattle.cp_serve.specs.Work.{Work, IsDone, Answers, is_taken, was_closed, is_replaced, Replies, Tries, is_released, is_used, is_dropped, TriesEach, Releases}
use Rattle.cp_serve.specs.Service.{Delivers, to_object, to_none, WorksOff, none_left, acts, Settles, gives_none, is_stranger, is_awaited, PollsFrom, is_closed, polls, Rounds, releases, TakesMessage, takes, TakesAll, none_taken, takes_more, ClosesAll, none_yet, one_more, written, new_work}
use Rattle.cp_serve.specs.History.{received_by, received, effects_of, sent_by, closed_by, IsRunOf}

steps_both : (a b : List Moment) (old mid new : State) → Steps old a mid → Steps mid b new → Steps old (a ++ b) new
steps_both [] b old mid new h k = subst (λ (s : State). Steps s b new) h k
steps_both (m ∷ a) b old mid new h k = (h.0, h.1, steps_both a b h.0 mid new h.2 k)

effects_both : (a b : List Moment) → effects_of (a ++ b) ≡ effects_of a ++ effects_of b
effects_both [] b = refl
effects_both (m ∷ a) b = ap (λ (x : List Effect). m.effects ++ x) (effects_both a b) ∙ sym (append_assoc m.effects (effects_of a) (effects_of b))

received_one : (e : Event) (a b : List Message) → received_by e (a ++ b) ≡ received_by e a ++ b
received_one (events.Receive m) a b = refl
received_one events.Bootstrap a b = refl
received_one (events.Call cap request) a b = refl
received_one (events.Answer origin outcome) a b = refl
received_one events.Promise a b = refl
received_one (events.Resolve p cap) a b = refl
received_one (events.Finish q) a b = refl
received_one (events.Release i) a b = refl
received_one (events.Forget p) a b = refl
received_one events.Idle a b = refl

received_both : (a b : List Moment) → received (a ++ b) ≡ received a ++ received b
received_both [] b = refl
received_both (m ∷ a) b = ap (λ (x : List Message). received_by m.event x) (received_both a b) ∙ received_one m.event (received a) (received b)

-- The vat did events, and their effects went after those that were to be worked off.
record Adds (old new : Work) (ms : List Message) : Type 0 where
  history : List Moment
  steps : Steps old.vat history new.vat
  receives : received history ≡ ms
  queue : new.effects ≡ old.effects ++ effects_of history
  sent : new.sent ≡ old.sent
  closed : new.closed ≡ old.closed

-- nothing was done
adds_none : (old new : Work) → new.vat ≡ old.vat → new.effects ≡ old.effects → new.sent ≡ old.sent → new.closed ≡ old.closed → Adds old new []
adds_none old new v e s c = record { history = []; steps = v; receives = refl; queue = e ∙ sym (append-nil old.effects); sent = s; closed = c }

adds_both : {a b : List Message} (old mid new : Work) → Adds old mid a → Adds mid new b → Adds old new (a ++ b)
adds_both {a = a} {b = b} old mid new h k = record {
  history = h.history ++ k.history;
  steps = steps_both h.history k.history old.vat mid.vat new.vat h.steps k.steps;
  receives = received_both h.history k.history ∙ ap (λ (x : List Message). x ++ received k.history) h.receives ∙ ap (λ (x : List Message). a ++ x) k.receives;
  queue =
      k.queue ∙ ap (λ (x : List Effect). x ++ effects_of k.history) h.queue ∙ append_assoc old.effects (effects_of h.history) (effects_of k.history)
      ∙ ap (λ (x : List Effect). old.effects ++ x) (sym (effects_both h.history k.history));
  sent = k.sent ∙ h.sent;
  closed = k.closed ∙ h.closed;
}

-- one event was done
adds_one : (old new : Work) (m : Moment) → Step old.vat m.event m.result m.effects new.vat → new.effects ≡ old.effects ++ m.effects → new.sent ≡ old.sent → new.closed ≡ old.closed
    → Adds old new (received_by m.event [])
adds_one old new m step e s c = record {
  history = m ∷ [];
  steps = (new.vat, step, refl);
  receives = refl;
  queue = e ∙ ap (λ (x : List Effect). old.effects ++ x) (sym (append-nil m.effects));
  sent = s;
  closed = c;
}

-- the same from a work that differs only in what an event doesn't look at
adds_from : {ms : List Message} (old base new : Work) → Adds base new ms → base.vat ≡ old.vat → base.effects ≡ old.effects → base.sent ≡ old.sent → base.closed ≡ old.closed → Adds old new ms
adds_from {ms = ms} old base new h v e s c = adds_both old base new (adds_none old base v e s c) h

adds_done : (old new : Work) (event : Event) → IsDone old event new → Adds old new (received_by event [])
adds_done old new event h =
    adds_one old new (record { event = event; result = h.result; effects = h.effects }) (subst (λ (s : State). Step old.vat event h.result h.effects s) (sym (ap (λ (w : Work). w.vat) h.did)) h.step)
    (ap (λ (w : Work). w.effects) h.did) (ap (λ (w : Work). w.sent) h.did) (ap (λ (w : Work). w.closed) h.did)

adds_answers : (old new : Work) (origin : Origin) (outcome : Outcome) → Answers old origin outcome new → Adds old new []
adds_answers old new origin outcome (is_taken vat effects step did) =
    adds_one old new (record { event = events.Answer origin outcome; result = Ok values.Nothing; effects = effects }) (subst (λ (s : State). Step old.vat (events.Answer origin outcome) (Ok values.Nothing) effects s) (sym (ap (λ (w : Work). w.vat) did)) step)
    (ap (λ (w : Work). w.effects) did) (ap (λ (w : Work). w.sent) did) (ap (λ (w : Work). w.closed) did)
adds_answers old new origin outcome (was_closed vat step e) =
    adds_one old new (record { event = events.Answer origin outcome; result = Err refusals.Closed; effects = [] }) (subst (λ (s : State). Step old.vat (events.Answer origin outcome) (Err refusals.Closed) [] s) (sym (ap (λ (w : Work). w.vat) e)) step)
    (ap (λ (w : Work). w.effects) e ∙ sym (append-nil old.effects)) (ap (λ (w : Work). w.sent) e) (ap (λ (w : Work). w.closed) e)
adds_answers old new origin outcome (is_replaced fault mid replaced step done) =
    let between : Work = record old { vat = mid } in
    adds_both old between new
    (adds_one old between (record { event = events.Answer origin outcome; result = Err fault; effects = [] }) step (sym (append-nil old.effects)) refl refl)
    (adds_done between new _ done)

adds_replies : (old new : Work) (origin : Origin) (ticket : ℕ) (reply : Reply) → Replies old origin ticket reply new → Adds old new []
adds_replies old new origin ticket (replies.Now outcome gives_up) h =
    let base : Work = record old { given_up = old.given_up ++ gives_up } in
    adds_from old base new (adds_answers base new origin outcome h) refl refl refl refl
adds_replies old new origin ticket replies.Later h = adds_none old new (ap (λ (w : Work). w.vat) h) (ap (λ (w : Work). w.effects) h) (ap (λ (w : Work). w.sent) h) (ap (λ (w : Work). w.closed) h)

adds_tries : (old new : Work) (i : ℕ) → Tries old i new → Adds old new []
adds_tries old new i (is_released vat effects step did) =
    adds_one old new (record { event = events.Release i; result = Ok values.Nothing; effects = effects }) (subst (λ (s : State). Step old.vat (events.Release i) (Ok values.Nothing) effects s) (sym (ap (λ (w : Work). w.vat) did)) step)
    (ap (λ (w : Work). w.effects) did) (ap (λ (w : Work). w.sent) did) (ap (λ (w : Work). w.closed) did)
adds_tries old new i (is_used vat step e) =
    adds_one old new (record { event = events.Release i; result = Err refusals.InUse; effects = [] }) (subst (λ (s : State). Step old.vat (events.Release i) (Err refusals.InUse) [] s) (sym (ap (λ (w : Work). w.vat) e)) step)
    (ap (λ (w : Work). w.effects) e ∙ sym (append-nil old.effects)) (ap (λ (w : Work). w.sent) e) (ap (λ (w : Work). w.closed) e)
adds_tries old new i (is_dropped fault vat used full step e) =
    adds_one old new (record { event = events.Release i; result = Err fault; effects = [] }) (subst (λ (s : State). Step old.vat (events.Release i) (Err fault) [] s) (sym (ap (λ (w : Work). w.vat) e)) step)
    (ap (λ (w : Work). w.effects) e ∙ sym (append-nil old.effects)) (ap (λ (w : Work). w.sent) e) (ap (λ (w : Work). w.closed) e)

adds_tries_each : (old new : Work) (is : List ℕ) → TriesEach old is new → Adds old new []
adds_tries_each old new [] h = adds_none old new (ap (λ (w : Work). w.vat) h) (ap (λ (w : Work). w.effects) h) (ap (λ (w : Work). w.sent) h) (ap (λ (w : Work). w.closed) h)
adds_tries_each old new (i ∷ more) h = adds_both old h.0 new (adds_tries old h.0 i h.1) (adds_tries_each h.0 new more h.2)

adds_releases : (old new : Work) → Releases old new → Adds old new []
adds_releases old new h = let base : Work = record old { given_up = [] } in adds_from old base new (adds_tries_each base new old.given_up h) refl refl refl refl

module _ {A : Type 0} {kind : Kind A} where
  adds_delivers : (old new : Work) (objects others : List A) (k : ℕ) (origin : Origin) (ticket : ℕ) (call : Request) → Delivers kind old objects k origin ticket call new others → Adds old new []
  adds_delivers old new objects others k origin ticket call (to_object reply changes h) = adds_replies old new origin ticket reply h
  adds_delivers old new objects others k origin ticket call (to_none past h e) = adds_answers old new origin _ h

adds_settles : (old new : Work) (settled : Option Settled) (gave : Bool) → Settles old settled gave new → Adds old new []
adds_settles old new settled gave gives_none = adds_none old old refl refl refl refl
adds_settles old new settled gave (is_stranger s none) = adds_none old old refl refl refl refl
adds_settles old new settled gave (is_awaited s origin got h) =
    adds_from old _ new (adds_answers _ new origin _ h) refl refl refl refl

-- the messages that effects still send, and the reason that they still give, where the vat closed or not
abbrev pub later : Option Reason → List Effect → List Message
later None es = sent_by es
later (Some reason) es = []

abbrev pub ends : Option Reason → List Effect → Option Reason
ends None es = closed_by es
ends (Some reason) es = Some reason

-- The vat did events. Whatever follows their effects, the same is sent in all, and the vat closes for the same reason.
record Works (old new : Work) (ms : List Message) : Type 0 where
  history : List Moment
  steps : Steps old.vat history new.vat
  receives : received history ≡ ms
  sends : (more : List Effect) → old.sent ++ later old.closed (old.effects ++ (effects_of history ++ more)) ≡ new.sent ++ later new.closed (new.effects ++ more)
  reason : (more : List Effect) → ends old.closed (old.effects ++ (effects_of history ++ more)) ≡ ends new.closed (new.effects ++ more)

works_adds : {ms : List Message} (old new : Work) → Adds old new ms → Works old new ms
works_adds old new h =
    let queue : (more : List Effect) → old.effects ++ (effects_of h.history ++ more) ≡ new.effects ++ more =
    λ more. sym (append_assoc old.effects (effects_of h.history) more) ∙ ap (λ (x : List Effect). x ++ more) (sym h.queue) in
    record {
      history = h.history;
      steps = h.steps;
      receives = h.receives;
      sends = λ more. rw (queue more, h.sent, h.closed) refl;
      reason = λ more. rw (queue more, h.closed) refl;
    }

works_none : (w : Work) → Works w w []
works_none w = works_adds w w (adds_none w w refl refl refl refl)

works_both : {a b : List Message} (old mid new : Work) → Works old mid a → Works mid new b → Works old new (a ++ b)
works_both {a = a} {b = b} old mid new h k =
    let joined : (more : List Effect) → effects_of (h.history ++ k.history) ++ more ≡ effects_of h.history ++ (effects_of k.history ++ more) =
    λ more. ap (λ (x : List Effect). x ++ more) (effects_both h.history k.history) ∙ append_assoc (effects_of h.history) (effects_of k.history) more in
    record {
      history = h.history ++ k.history;
      steps = steps_both h.history k.history old.vat mid.vat new.vat h.steps k.steps;
      receives = received_both h.history k.history ∙ ap (λ (x : List Message). x ++ received k.history) h.receives ∙ ap (λ (x : List Message). a ++ x) k.receives;
      sends = λ more. ap (λ (x : List Effect). old.sent ++ later old.closed (old.effects ++ x)) (joined more) ∙ h.sends (effects_of k.history ++ more) ∙ k.sends more;
      reason = λ more. ap (λ (x : List Effect). ends old.closed (old.effects ++ x)) (joined more) ∙ h.reason (effects_of k.history ++ more) ∙ k.reason more;
    }

-- an effect was worked off
works_one : (old mid : Work) (effect : Effect) (rest : List Effect) → old.effects ≡ effect ∷ rest → mid.vat ≡ old.vat
    → ((more : List Effect) → old.sent ++ later old.closed (effect ∷ (rest ++ more)) ≡ mid.sent ++ later mid.closed (mid.effects ++ more))
    → ((more : List Effect) → ends old.closed (effect ∷ (rest ++ more)) ≡ ends mid.closed (mid.effects ++ more)) → Works old mid []
works_one old mid effect rest e v sends reason = record {
  history = [];
  steps = v;
  receives = refl;
  sends = λ more. ap (λ (x : List Effect). old.sent ++ later old.closed (x ++ more)) e ∙ sends more;
  reason = λ more. ap (λ (x : List Effect). ends old.closed (x ++ more)) e ∙ reason more;
}

works_send : (old mid : Work) (m : Message) (rest : List Effect) → old.effects ≡ effects.Send m ∷ rest → old.closed ≡ None → mid ≡ record old { effects = rest; sent = old.sent ++ m ∷ [] } → Works old mid []
works_send old mid m rest e is_open h =
    let closed : mid.closed ≡ None = ap (λ (w : Work). w.closed) h ∙ is_open in
    let sent : mid.sent ≡ old.sent ++ m ∷ [] = ap (λ (w : Work). w.sent) h in
    let left : mid.effects ≡ rest = ap (λ (w : Work). w.effects) h in
    works_one old mid (effects.Send m) rest e (ap (λ (w : Work). w.vat) h)
    (λ more. rw (is_open, closed, sent, left) (sym (append_assoc old.sent (m ∷ []) (sent_by (rest ++ more))))) (λ more. rw (is_open, closed, left) refl)

works_closed : (old mid : Work) (r : Reason) (rest : List Effect) → old.effects ≡ effects.Closed r ∷ rest → old.closed ≡ None → mid ≡ record old { effects = []; closed = Some r } → Works old mid []
works_closed old mid r rest e is_open h =
    let closed : mid.closed ≡ Some r = ap (λ (w : Work). w.closed) h in
    let sent : mid.sent ≡ old.sent = ap (λ (w : Work). w.sent) h in
    works_one old mid (effects.Closed r) rest e (ap (λ (w : Work). w.vat) h) (λ more. rw (is_open, closed, sent) refl) (λ more. rw (is_open, closed) refl)

-- an effect that sends nothing and closes nothing
works_past : (old mid : Work) (effect : Effect) (rest : List Effect) → old.effects ≡ effect ∷ rest → old.closed ≡ None → ((es : List Effect) → sent_by (effect ∷ es) ≡ sent_by es)
    → ((es : List Effect) → closed_by (effect ∷ es) ≡ closed_by es) → Adds (record old { effects = rest }) mid [] → Works old mid []
works_past old mid effect rest e is_open sends closes h =
    let base : Work = record old { effects = rest } in
    works_both old base mid
    (works_one old base effect rest e refl (λ more. rw is_open (ap (λ (x : List Message). old.sent ++ x) (sends (rest ++ more)))) (λ more. rw is_open (closes (rest ++ more)))) (works_adds base mid h)

module _ {A : Type 0} {kind : Kind A} where
  after_closed : (old new : Work) (objects others : List A) → old.effects ≡ [] → WorksOff kind old objects new others → Works old new []
  after_closed old new objects others e (none_left none) = works_none old
  after_closed old new objects others e (acts effect rest some act tail) = absurd (nil_cons rest (sym e ∙ some))
    where
      nil_cons : {x : Effect} (xs : List Effect) → [] ≡ x ∷ xs → ⊥
      nil_cons xs h = cc (h)

  works_off : (old new : Work) (objects others : List A) → old.closed ≡ None → WorksOff kind old objects new others → Works old new []
  works_off old new objects others is_open (none_left none) = works_none old
  works_off old new objects others is_open (acts {mid = mid} {between = between} (effects.Send m) rest e act tail) =
      works_both old mid new (works_send old mid m rest e is_open act.0) (works_off mid new between others (ap (λ (w : Work). w.closed) act.0 ∙ is_open) tail)
  works_off old new objects others is_open (acts {mid = mid} {between = between} (effects.Deliver k origin ticket call) rest e act tail) =
      let added = adds_delivers (record old { effects = rest }) mid objects between k origin ticket call act in
      works_both old mid new (works_past old mid (effects.Deliver k origin ticket call) rest e is_open (λ es. refl) (λ es. refl) added) (works_off mid new between others (added.closed ∙ is_open) tail)
  works_off old new objects others is_open (acts {mid = mid} {between = between} (effects.Settled q outcome) rest e act tail) =
      let added = adds_none (record old { effects = rest }) mid (ap (λ (w : Work). w.vat) act.0) (ap (λ (w : Work). w.effects) act.0) (ap (λ (w : Work). w.sent) act.0) (ap (λ (w : Work). w.closed) act.0) in
      works_both old mid new (works_past old mid (effects.Settled q outcome) rest e is_open (λ es. refl) (λ es. refl) added) (works_off mid new between others (added.closed ∙ is_open) tail)
  works_off old new objects others is_open (acts {mid = mid} {between = between} (effects.Closed r) rest e act tail) =
      works_both old mid new (works_closed old mid r rest e is_open act.0) (after_closed mid new between others (ap (λ (w : Work). w.effects) act.0) tail)

  rests_off : (old new : Work) (objects others : List A) → WorksOff kind old objects new others → new.effects ≡ []
  rests_off old new objects others (none_left none) = none
  rests_off old new objects others (acts {mid = mid} {between = between} effect rest e act tail) = rests_off mid new between others tail

-- nothing is left to be worked off, unless the vat closed
abbrev pub IsWorkedOff : Work → Type 0
IsWorkedOff w = w.closed ≡ None → w.effects ≡ []

module _ {A : Type 0} {kind : Kind A} where
  works_polls : (place : ℕ) (old new : Work) (objects others : List A) (gave : Bool) → PollsFrom kind place old objects gave new others → Works old new []
  works_polls place old new objects others gave (none_left past) = works_none old
  works_polls place old new objects others gave (is_closed closed) = works_none old
  works_polls place old new objects others gave (polls {mid = mid} {done = done} {between = between} {last = last} settled first more is_open changes settles off tail e) =
      let added = adds_settles old mid settled first settles in
      works_both old mid new (works_adds old mid added)
      (works_both mid done new (works_off mid done between last (added.closed ∙ is_open) off) (works_polls _ done new last others more tail))

pub none_some : (o : Option Reason) → o ≡ None → IsSome o → ⊥
none_some None e h = false≢true h
none_some (Some x) e h = cc (e)

module _ {A : Type 0} {kind : Kind A} where
  works_round : (old new : Work) (objects others : List A) (gave : Bool) → Rounds kind old objects gave new others → Works old new []
  works_round old new objects others gave (is_closed polled closed) = works_polls 0 old new objects others gave polled
  works_round old new objects others gave (releases mid released between polled is_open released_all off) =
      let added = adds_releases mid released released_all in
      works_both old mid new (works_polls 0 old mid objects between gave polled) (works_both mid released new (works_adds mid released added) (works_off released new between others (added.closed ∙ is_open) off))

  rests_round : (old new : Work) (objects others : List A) (gave : Bool) → Rounds kind old objects gave new others → IsWorkedOff new
  rests_round old new objects others gave (is_closed polled closed) = λ e. absurd (none_some new.closed e closed)
  rests_round old new objects others gave (releases mid released between polled is_open released_all off) = λ e. rests_off released new between others off

  works_message : (old new : Work) (objects others : List A) (m : Message) → old.closed ≡ None → TakesMessage kind old objects m new others → Works old new (m ∷ [])
  works_message old new objects others m is_open (takes received mid between gave done off round) =
      let added = adds_done old received (events.Receive m) done in
      works_both old received new (works_adds old received added)
      (works_both received mid new (works_off received mid objects between (added.closed ∙ is_open) off) (works_round mid new between others gave round))

  rests_message : (old new : Work) (objects others : List A) (m : Message) → TakesMessage kind old objects m new others → IsWorkedOff new
  rests_message old new objects others m (takes received mid between gave done off round) = rests_round mid new between others gave round

-- So far these messages were received and those sent.
pub record Ran (taken sent : List Message) (last : Work) : Type 0 where
  pub history : List Moment
  pub steps : Steps (new_state (Some 0)) history last.vat
  pub receives : received history ≡ taken
  pub sends : (more : List Effect) → sent_by (effects_of history ++ more) ≡ sent ++ (last.sent ++ later last.closed (last.effects ++ more))
  pub reason : (more : List Effect) → closed_by (effects_of history ++ more) ≡ ends last.closed (last.effects ++ more)
  pub rests : IsWorkedOff last
  pub none_left : last.sent ≡ []

ran_none : Ran [] [] new_work
ran_none = record { history = []; steps = refl; receives = refl; sends = λ more. refl; reason = λ more. refl; rests = λ h. refl; none_left = refl }

ran_more : {taken sent ms : List Message} (w new last : Work) → Ran taken sent w → Works w new ms → last ≡ written new → IsWorkedOff new → Ran (taken ++ ms) (sent ++ new.sent) last
ran_more {taken = taken} {sent = sent} {ms = ms} w new last h k e rests =
    subst (λ (x : Work). Ran (taken ++ ms) (sent ++ new.sent) x) (sym e) (record {
      history = h.history ++ k.history;
      steps = steps_both h.history k.history (new_state (Some 0)) w.vat new.vat h.steps k.steps;
      receives = received_both h.history k.history ∙ ap (λ (x : List Message). x ++ received k.history) h.receives ∙ ap (λ (x : List Message). taken ++ x) k.receives;
      sends = λ more.
          ap sent_by (joined more) ∙ h.sends (effects_of k.history ++ more) ∙ ap (λ (x : List Message). sent ++ x) (k.sends more)
          ∙ sym (append_assoc sent new.sent (later new.closed (new.effects ++ more)));
      reason = λ more. ap closed_by (joined more) ∙ h.reason (effects_of k.history ++ more) ∙ k.reason more;
      rests = rests;
      none_left = refl;
    })
  where
    joined : (more : List Effect) → effects_of (h.history ++ k.history) ++ more ≡ effects_of h.history ++ (effects_of k.history ++ more)
    joined more = ap (λ (x : List Effect). x ++ more) (effects_both h.history k.history) ∙ append_assoc (effects_of h.history) (effects_of k.history) more

module _ {A : Type 0} {kind : Kind A} where
  pub ran_takes : (objects : List A) (taken sent : List Message) (last : Work) (others : List A) → TakesAll kind new_work objects taken sent last others → Ran taken sent last
  ran_takes objects taken sent last others none_taken = ran_none
  ran_takes objects all more last others (takes_more {taken = taken} {sent = sent} {mid = mid} {new = new} {between = between} m before is_open message e f g) =
      subst (λ (x : List Message). Ran x more last) (sym e) (subst (λ (x : List Message). Ran (taken ++ m ∷ []) x last) (sym f)
      (ran_more mid new last (ran_takes objects taken sent mid between before) (works_message mid new between others m is_open message) g (rests_message mid new between others m message)))

  pub ran_closes : (taken first : List Message) (mid : Work) (between : List A) (gave : Bool) (closing : List Message) (last : Work) (others : List A) → Ran taken first mid
      → ClosesAll kind mid between gave closing last others → Ran taken (first ++ closing) last
  ran_closes taken first mid between gave closing last others h none_yet = subst (λ (x : List Message). Ran taken x mid) (sym (append-nil first)) h
  ran_closes taken first start objects gave more last others h (one_more {sent = sent} {mid = mid} {new = new} {between = between} before is_open round e f) =
      subst (λ (x : List Message). Ran taken (first ++ x) last) (sym e) (subst (λ (x : List Message). Ran taken x last) (append_assoc first sent new.sent)
      (subst (λ (x : List Message). Ran x ((first ++ sent) ++ new.sent) last) (append-nil taken)
      (ran_more mid new last (ran_closes taken first start objects true sent mid between h before) (works_round mid new between others gave round) f (rests_round mid new between others gave round))))

pub run_of : (taken sent : List Message) (last : Work) → Ran taken sent last → IsRunOf taken sent last
run_of taken sent last h = record {
  history = h.history;
  steps = h.steps;
  receives = h.receives;
  sends = ap sent_by (sym (append-nil (effects_of h.history))) ∙ h.sends [] ∙ ap (λ (x : List Message). sent ++ x) (rw h.none_left (none_later last.closed h.rests)) ∙ append-nil sent;
  reason = ap closed_by (sym (append-nil (effects_of h.history))) ∙ h.reason [] ∙ none_ends last.closed h.rests;
}
  where
    none_later : (c : Option Reason) → (c ≡ None → last.effects ≡ []) → later c (last.effects ++ []) ≡ []
    none_later None r = rw (r refl) refl
    none_later (Some x) r = refl

    none_ends : (c : Option Reason) → (c ≡ None → last.effects ≡ []) → ends c (last.effects ++ []) ≡ c
    none_ends None r = rw (r refl) refl
    none_ends (Some x) r = refl
