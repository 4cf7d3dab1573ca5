-- What the vat did for a message of the peer's, or what followed where it got none, is what the connection does for it.
use Rattle.std.proofs.Common.{◌≡◌, ◌≢◌, ◌⊎◌, inl, inr, Bool, true, false, List, [], Option, Some, None, Result, Ok, Err, refl, sym, ap, ◌∙◌, subst, is_none, true≢false}
use Rattle.cp_messages.specs.declared.message.Message.{Message}
use Rattle.cp_vat_machine.specs.Asked.{stage_of}
use Rattle.cp_vat_machine.specs.Run.{Moment}
use Rattle.cp_vat_machine.specs.State.{State}
use Rattle.cp_vat_machine.specs.Step.{Step, ran_out}
use Rattle.cp_vat_machine.specs.Supported.{is_supported_to_caller}
use Rattle.cp_vat_machine.specs.declared.acted.Acted.{Acted}
use Rattle.cp_vat_machine.specs.declared.effect.Effect.{Effect}
use Rattle.cp_vat_machine.specs.declared.event.Event.TheVariants as events
use Rattle.cp_vat_machine.specs.declared.event.Value.TheVariants as values
use Rattle.cp_vat_machine.specs.declared.fault.VatFault.{VatFault}
use Rattle.cp_vat_machine.specs.declared.fault.VatFault.TheVariants as refusals
use Rattle.cp_vat.specs.Stepping as vat
use Rattle.cp_tail_calls.specs.Receiving.{Passed, received}
use Rattle.cp_tail_calls.specs.Serving.{Served, Goes, Serves, takes, keeps, gets}
use Rattle.cp_tail_calls.specs.Tails.{Tails}
use Rattle.cp_tail_calls.specs.declared.forwarding.Trigger.TheVariants as triggers
use Rattle.cp_connection.specs.declared.fault.ConnectionFault.{ConnectionFault}
use Rattle.cp_connection.specs.declared.fault.ConnectionFault.TheVariants as faults
use Rattle.cp_connection.specs.declared.parts.Parts.{Parts}
use Rattle.cp_connection.specs.Owing.{AreSendable, OwesSendable}
use Rattle.cp_connection.specs.Refusing.{refusal_of}
use Rattle.cp_connection.specs.Link.{Link}
use Rattle.cp_connection.specs.LinkOf.{closed_if, link_of, refused_by, tails_if}
use Rattle.cp_connection.specs.Doing.{Acts, answered, Does, Refuses}
use Rattle.cp_connection.specs.Settling.{behind, GetsFor, GoesOnIf, Loses, NotesAll, Settled}
use Rattle.cp_connection.proofs.Concluding.{message_refused, was_still, goes_so, does_noted, loses, refuses_so}
use Rattle.cp_connection.proofs.Owing.{received_owes}

abbrev serve : State → Option Tails → Served
serve v t = record { vat = v; tails = t }

-- what the vat gets in the place of a message, by the tail calls then
abbrev pub GetsTo : Parts → Message → Option Message → Option Tails → Type 0
GetsTo p m on t =
    ((on ≡ Some m) × (t ≡ p.tails) × ((p.tails ≡ None) ⊎ (p.vat.is_closed ≡ true)))
    ⊎ ((p.vat.is_closed ≡ false) × (gets is_supported_to_caller stage_of p.vat p.tails m ≡ (on, t)))

pub gets_to : (p q : Parts) (m : Message) (on : Option Message) → GetsFor p m on q → GetsTo p m on q.tails
gets_to p q m on (inl h) = inl (h.0, ap (λ (x : Parts). x.tails) h.1, h.2)
gets_to p q m on (inr h) = inr (h.0, h.1)

-- nothing but the tail calls changed
pub gets_same : (p q : Parts) (m : Message) (on : Option Message) → GetsFor p m on q → q ≡ record p { tails = q.tails }
gets_same p q m on (inl h) = subst (λ (x : Parts). x ≡ record p { tails = x.tails }) (sym h.1) refl
gets_same p q m on (inr h) = h.2

-- the vat got a message, and this is its state then
module _ (p : Parts) (t : Option Tails) (v : State) (m : Message) (open_ : p.fault ≡ None) (kept : p.is_lost ≡ false) where
  abbrev pub got : Parts
  got = record p { tails = t; vat = v }

  pub back : record (link_of got) { vat = p.vat; tails = p.tails } ≡ link_of p
  back = ap (λ (b : Bool). record (link_of p) { vat = closed_if b p.vat; tails = tails_if b p.tails }) (sym kept)

  -- it took it
  pub did_get : (x : Message) {by : List Effect} → GetsTo p m (Some x) t → Step p.vat (events.Receive x) (Ok values.Nothing) by v
      → gets is_supported_to_caller stage_of p.vat p.tails m ≡ (Some x, t)
  did_get x (inl (e, f, inl none)) step =
      ap (λ (o : Option Tails). gets is_supported_to_caller stage_of p.vat o m) none ∙ ap (λ (o : Option Message). (o, None)) (sym e) ∙ ap (λ (o : Option Tails). (Some x, o)) (sym (f ∙ none))
  did_get x (inl (e, f, inr shut)) step = absurd (true≢false (sym shut ∙ was_still step))
  did_get x (inr (still, is)) step = is

  pub does_take : (x : Message) (by : List Effect) (history : List Moment) (out : List Effect) (q : Parts) → GetsTo p m (Some x) t → Step p.vat (events.Receive x) (Ok values.Nothing) by v
      → Goes is_supported_to_caller stage_of (serve p.vat t) (events.Receive x) values.Nothing history out (behind q)
      → Serves is_supported_to_caller stage_of (serve p.vat p.tails) (events.Receive m) (Ok values.Nothing) history out (behind q)
  does_take x by history out q is step goes = takes m x t (did_get x is step) goes

  -- it refused it
  pub refuses_message : (x : Message) (fault : VatFault) → GetsTo p m (Some x) t → Step p.vat (events.Receive x) (Err fault) [] v
      → Refuses (link_of p) (events.Receive m) (refusal_of fault) (link_of (record got { fault = refused_by fault p.fault }))
  refuses_message x fault is step =
      subst (λ (l : Link). Refuses l (events.Receive m) (refusal_of fault) (link_of (record got { fault = refused_by fault p.fault }))) back (by is (message_refused step))
    where
      all : Step p.vat (events.Receive m) (Err fault) [] v → (fault ≢ refusals.OutOfMemory → t ≡ p.tails) → Refuses (record (link_of got) { vat = p.vat; tails = p.tails }) (events.Receive m) (refusal_of fault) (link_of (record got { fault = refused_by fault p.fault }))
      all s same = refuses_so got p.vat p.tails (events.Receive m) open_ kept fault s same

      same_message : Some x ≡ Some m → x ≡ m
      same_message e = cc

      by : GetsTo p m (Some x) t → (p.vat.is_closed ≡ true) ⊎ ((fault ≡ refusals.OutOfMemory) × (p.vat.is_closed ≡ false) × (v.is_closed ≡ true)) → Refuses (record (link_of got) { vat = p.vat; tails = p.tails }) (events.Receive m) (refusal_of fault) (link_of (record got { fault = refused_by fault p.fault }))
      by (inl h) (inl shut) = all (subst (λ (y : Message). Step p.vat (events.Receive y) (Err fault) [] v) (same_message h.0) step) (λ n. h.1)
      by (inr h) (inl shut) = absurd (true≢false (sym shut ∙ h.0))
      by how (inr h) = all (subst (λ (f : VatFault). Step p.vat (events.Receive m) (Err f) [] v) (sym h.0) (ran_out (events.Receive m) h.1 h.2)) (λ n. absurd (n h.0))

  -- memory ran out for what follows
  pub loses_message : (q : Parts) → p.vat.is_closed ≡ false → Loses got q → Refuses (link_of p) (events.Receive m) faults.OutOfMemory (link_of q)
  loses_message q still lost =
      subst (λ (l : Link). Refuses l (events.Receive m) faults.OutOfMemory (link_of q)) back (loses got p.vat p.tails (events.Receive m) open_ kept q still lost)

  -- what it did
  pub takes_in : (x : Message) (acted : Result (Acted (Unit {0})) VatFault) (result : Result (Unit {0}) ConnectionFault) (q : Parts) → GetsTo p m (Some x) t
      → Step p.vat (events.Receive x) (vat.answered (λ _. values.Nothing) acted) (vat.effects_of acted) v → NotesAll got triggers.Message acted result q
      → Acts (link_of p) (events.Receive m) (answered (λ _. values.Nothing) result) (link_of q)
  takes_in x (Ok acted) (Ok value) q is step noted =
      let follows = noted.1 in
      subst (λ (l : Link). Does l (events.Receive m) (Ok values.Nothing) (link_of q)) back
      (does_noted got p.vat p.tails (events.Receive m) open_ kept values.Nothing _ _ q
      (does_take x acted.effects _ _ q is step (goes_so got q p.vat (events.Receive x) values.Nothing acted.effects step follows)) follows.noted follows.ended follows.same)
  takes_in x (Ok acted) (Err fault) q is step noted =
      subst (λ (f : ConnectionFault). Acts (link_of p) (events.Receive m) (Err f) (link_of q)) (sym noted.0) (inr (loses_message q (was_still step) noted.1))
  takes_in x (Err refusal) (Ok value) q is step noted = absurd noted
  takes_in x (Err refusal) (Err fault) q is step noted =
      subst (λ (y : Parts). Acts (link_of p) (events.Receive m) (Err fault) (link_of y)) (sym noted.1)
      (subst (λ (f : ConnectionFault). Acts (link_of p) (events.Receive m) (Err f) (link_of (record got { fault = refused_by refusal p.fault }))) (sym noted.0)
      (inr (refuses_message x refusal is step)))

-- ---- a message that the vat doesn't get

module _ (p q r : Parts) (m : Message) (open_ : p.fault ≡ None) (kept : p.is_lost ≡ false) (kept_back : GetsFor p m None q) where
  none_got : {X : Type 0} → None ≡ Some m → X
  none_got e = absurd (true≢false (ap is_none e))

  still : p.vat.is_closed ≡ false
  still = by kept_back
    where
      by : GetsFor p m None q → p.vat.is_closed ≡ false
      by (inl h) = none_got h.0
      by (inr h) = h.0

  keeps_it : gets is_supported_to_caller stage_of p.vat p.tails m ≡ (None, q.tails)
  keeps_it = by kept_back
    where
      by : GetsFor p m None q → gets is_supported_to_caller stage_of p.vat p.tails m ≡ (None, q.tails)
      by (inl h) = none_got h.0
      by (inr h) = h.1

  same : q ≡ record p { tails = q.tails }
  same = gets_same p q m None kept_back

  pub does_keep : Settled q r → Does (link_of p) (events.Receive m) (Ok values.Nothing) (link_of r)
  does_keep settled =
      let s : Settled (record p { tails = q.tails }) r = subst (λ (x : Parts). Settled x r) same settled in
      subst (λ (l : Link). Does l (events.Receive m) (Ok values.Nothing) (link_of r)) (back p q.tails p.vat m open_ kept)
      (does_noted (record p { tails = q.tails }) p.vat p.tails (events.Receive m) open_ kept values.Nothing s.history s.effects r
      (keeps m q.tails still keeps_it s.settles) s.noted s.ended s.same)

  pub loses_keep : Loses q r → Refuses (link_of p) (events.Receive m) faults.OutOfMemory (link_of r)
  loses_keep lost = loses_message p q.tails p.vat m open_ kept r still (subst (λ (x : Parts). Loses x r) same lost)

  pub keeps_in : (result : Result (Unit {0}) ConnectionFault) → GoesOnIf q result r → Acts (link_of p) (events.Receive m) (answered (λ _. values.Nothing) result) (link_of r)
  keeps_in (Ok value) h = does_keep h
  keeps_in (Err fault) h = subst (λ (f : ConnectionFault). Acts (link_of p) (events.Receive m) (Err f) (link_of r)) (sym h.0) (inr (loses_keep h.1))

-- tail calls ran out of memory for it
pub loses_before : (p q : Parts) (m : Message) → p.fault ≡ None → p.is_lost ≡ false → p.vat.is_closed ≡ false → Loses p q → Refuses (link_of p) (events.Receive m) faults.OutOfMemory (link_of q)
loses_before p q m open_ kept still lost = loses_message p p.tails p.vat m open_ kept q still lost

-- ---- the same, as functions say it

-- tail calls changed what the vat got so
pub gets_kept : (p : Parts) (t u : Tails) (m : Message) (on : Option Message) → p.tails ≡ Some t → p.vat.is_closed ≡ false → received is_supported_to_caller (stage_of p.vat) t m ≡ (on, u) → OwesSendable p.tails
    → GetsFor p m on (record p { tails = Some u })
gets_kept p t u m on is still e owes = inr (
  still,
  ap (λ (o : Option Tails). gets is_supported_to_caller stage_of p.vat o m) is ∙ ap (λ (r : Passed). (r.0, Some r.1)) e,
  refl,
  subst (λ (x : Tails). AreSendable x.owed) (ap (λ (r : Passed). r.1) e) (received_owes is_supported_to_caller (stage_of p.vat) t m (subst OwesSendable is owes)),
)

module _ (p q r : Parts) (m : Message) (on : Option Message) (open_ : p.fault ≡ None) (kept : p.is_lost ≡ false) (given : GetsFor p m on q) where
  pub takes_message : (v : State) (x : Message) (acted : Result (Acted (Unit {0})) VatFault) (result : Result (Unit {0}) ConnectionFault) → on ≡ Some x
      → Step q.vat (events.Receive x) (vat.answered (λ _. values.Nothing) acted) (vat.effects_of acted) v → NotesAll (record q { vat = v }) triggers.Message acted result r
      → Acts (link_of p) (events.Receive m) (answered (λ _. values.Nothing) result) (link_of r)
  takes_message v x acted result is step noted =
      let same = gets_same p q m on given in
      takes_in p q.tails v m open_ kept x acted result r (subst (λ (o : Option Message). GetsTo p m o q.tails) is (gets_to p q m on given))
      (subst (λ (s : State). Step s (events.Receive x) (vat.answered (λ _. values.Nothing) acted) (vat.effects_of acted) v) (ap (λ (y : Parts). y.vat) same) step)
      (subst (λ (y : Parts). NotesAll (record y { vat = v }) triggers.Message acted result r) same noted)

  pub keeps_message : (result : Result (Unit {0}) ConnectionFault) → on ≡ None → GoesOnIf q result r → Acts (link_of p) (events.Receive m) (answered (λ _. values.Nothing) result) (link_of r)
  keeps_message result none goes = keeps_in p q r m open_ kept (subst (λ (o : Option Message). GetsFor p m o q) none given) result goes

  pub keeps_well : on ≡ None → Settled q r → Does (link_of p) (events.Receive m) (Ok values.Nothing) (link_of r)
  keeps_well none settled = does_keep p q r m open_ kept (subst (λ (o : Option Message). GetsFor p m o q) none given) settled

  pub keeps_not : (fault : ConnectionFault) → on ≡ None → (fault ≡ faults.OutOfMemory) × Loses q r → Refuses (link_of p) (events.Receive m) fault (link_of r)
  keeps_not fault none h =
      subst (λ (f : ConnectionFault). Refuses (link_of p) (events.Receive m) f (link_of r)) (sym h.0)
      (loses_keep p q r m open_ kept (subst (λ (o : Option Message). GetsFor p m o q) none given) h.1)

-- memory ran out before
pub lost_before : (p q : Parts) (m : Message) (fault : ConnectionFault) → p.fault ≡ None → p.is_lost ≡ false → p.vat.is_closed ≡ false → (fault ≡ faults.OutOfMemory) × Loses p q
    → Refuses (link_of p) (events.Receive m) fault (link_of q)
lost_before p q m fault open_ kept still h =
    subst (λ (f : ConnectionFault). Refuses (link_of p) (events.Receive m) f (link_of q)) (sym h.0) (loses_before p q m open_ kept still h.1)
