-- What the vat did is what the connection does, where a call is lent; and a message that a frame holds was read.
use Rattle.std.proofs.Common.{◌≡◌, ℕ, ◌+◌, ◌-◌, ◌^◌, ◌==◌, min, Bool, true, false, List, [], ◌∷◌, ◌++◌, Option, Some, None, Result, Ok, Err, IfOk, IfErr, inl, inr, refl, sym, ap, ◌∙◌, subst, length, arith}
use Rattle.std.proofs.lemmas.Bool.Decides.{nat_tests}
use Rattle.std.proofs.lemmas.List.{nil_from_length}
use Rattle.cp_words.specs.Limits.{Bounds}
use Rattle.cp_messages.specs.declared.message.Message.{Message}
use Rattle.cp_stream.specs.Stream.{Holds}
use Rattle.cp_vat_machine.specs.Asked.{stage_of}
use Rattle.cp_vat_machine.specs.Run.{Moment}
use Rattle.cp_vat_machine.specs.State.{State}
use Rattle.cp_vat_machine.specs.Step.{Step}
use Rattle.cp_vat_machine.specs.Supported.{is_supported_to_caller}
use Rattle.cp_vat_machine.specs.declared.acted.Acted.{Acted}
use Rattle.cp_vat_machine.specs.declared.effect.Effect.{Effect}
use Rattle.cp_vat_machine.specs.declared.event.Event.TheVariants as events
use Rattle.cp_vat_machine.specs.declared.event.Value.TheVariants as values
use Rattle.cp_vat_machine.specs.declared.fault.VatFault.{VatFault}
use Rattle.cp_vat.specs.Lending.{deliveries, effects_lending}
use Rattle.cp_vat.specs.Stepping as vat
use Rattle.cp_vat.specs.declared.borrowed_call.BorrowedCall.{BorrowedCall}
use Rattle.cp_tail_calls.specs.Serving.{Settles, Goes, Serves, closes, comes_of, moment}
use Rattle.cp_tail_calls.specs.Tails.{Tails}
use Rattle.cp_tail_calls.specs.declared.forwarding.Trigger.TheVariants as triggers
use Rattle.cp_connection.specs.declared.agenda.Agenda.{Agenda}
use Rattle.cp_connection.specs.declared.fault.ConnectionFault.{ConnectionFault}
use Rattle.cp_connection.specs.declared.fault.ConnectionFault.TheVariants as faults
use Rattle.cp_connection.specs.declared.event.ConnectionEvent.{ConnectionEvent}
use Rattle.cp_connection.specs.declared.parts.Parts.{Parts}
use Rattle.cp_connection.specs.Doing.{Does, Refuses}
use Rattle.cp_connection.specs.Effects.{happening_by}
use Rattle.cp_connection.specs.Lending.{DoesLending, delivered}
use Rattle.cp_connection.specs.Link.{Link}
use Rattle.cp_connection.specs.LinkOf.{link_of, CountsOne, GivesFrame, KeepsUp, RefusesFrame, closed_if, tails_if, refused_by}
use Rattle.cp_connection.specs.Noting.{Notes}
use Rattle.cp_connection.specs.Receiving.{IsUnreceived, IsUnread, Reads}
use Rattle.cp_connection.specs.Settling.{behind, closed_by, Follows, GetsFor, NotesAll}
use Rattle.cp_connection.proofs.Concluding.{does_noted, goes_so, was_still}
use Rattle.cp_connection.proofs.Reading.{reads_one, unread_message}
use Rattle.cp_connection.proofs.Taking.{GetsTo, back, does_take, gets_same, gets_to, got, loses_message, refuses_message}

-- ---- a frame ends in a piece

module _ (p mid q : Parts) (keeps : KeepsUp p) (piece back : List ℕ) (taken : ℕ) (S : List (List ℕ)) (given : GivesFrame p piece taken S back mid) where
  same_limits : mid.limits ≡ p.limits
  same_limits = ap (λ (x : Parts). x.limits) given.same

  -- the connection after its message was counted
  module _ (counts : CountsOne mid taken q) where
    pub counted_is : q ≡ record p { frames = mid.frames; bytes = q.bytes; messages = q.messages }
    counted_is = counts.same ∙ ap (λ (x : Parts). record x { bytes = q.bytes; messages = q.messages }) given.same

    -- it is open
    pub counted_open : q.fault ≡ None
    counted_open = ap (λ (x : Parts). x.fault) counted_is ∙ given.was_open

    pub counted_happened : q.agenda.happened.items ≡ p.agenda.happened.items
    counted_happened = ap (λ (x : Parts). x.agenda.happened.items) counted_is

    -- its message was read
    pub reads_message : (m : Message) → Holds mid.limits S m → Reads (link_of p) given.gives.front m (link_of q)
    reads_message m holds =
        subst (λ (x : Parts). Reads (link_of p) given.gives.front m (link_of x)) (sym counted_is)
        (reads_one p (keeps given.was_open) mid.frames q.bytes q.messages piece back taken S m given.was_open given.gives (subst (λ (l : Bounds). Holds l S m) same_limits holds)
        (counts.bytes ∙ ap (λ (x : Parts). min (x.bytes + taken) (2 ^ 64 - 1)) given.same) (counts.messages ∙ ap (λ (x : Parts). min (x.messages + 1) (2 ^ 64 - 1)) given.same))

  -- it holds no message
  pub unread_so : (fault : ConnectionFault) → RefusesFrame mid S fault q → IsUnreceived (link_of p) piece [] fault (link_of q)
  unread_so fault refuses_ =
      let P : Parts → Type 0 = λ x. IsUnreceived (link_of p) piece [] fault (link_of x) in
      let is : q ≡ record p { frames = mid.frames; fault = Some fault } = refuses_.same ∙ ap (λ (x : Parts). record x { fault = Some fault }) given.same in
      subst P (sym is) (inr (inl (refl, unread, record { was_open = given.was_open; same = refl })))
    where
      told : fault ≡ faults.Unreadable p.bytes refuses_.refusal
      told = refuses_.told ∙ ap (λ (x : Parts). faults.Unreadable x.bytes refuses_.refusal) given.same

      unread : IsUnread (link_of p) piece fault
      unread =
          subst (λ (f : ConnectionFault). IsUnread (link_of p) piece f) (sym told)
          (unread_message p (keeps given.was_open) mid.frames piece back taken S refuses_.refusal given.gives (rw same_limits at refuses_.none))

-- ---- a call is lent

-- no number but zero is zero by a test
zero_by : (n : ℕ) → (n == 0) ≡ true → n ≡ 0
zero_by n e = grind (arith, nat_tests)

-- what is empty by a test of its length has no elements
pub none_by : {X : Type 0} (items : List X) (n : ℕ) (b : Bool) → n ≡ length items → b ≡ (n == 0) → b ≡ true → items ≡ []
none_by items n b long is holds = nil_from_length items (sym long ∙ zero_by n (sym is ∙ holds))

-- what comes of a delivery, and of those after it
comes_deliver : (t : Option Tails) (lent : BorrowedCall) (more : List Effect)
    → comes_of triggers.Message t (deliveries (Some lent) ++ more) ≡ (deliveries (Some lent) ++ (comes_of triggers.Message t more).0, (comes_of triggers.Message t more).1)
comes_deliver None lent more = refl
comes_deliver (Some t) lent more = refl

module _ (p : Parts) (t : Option Tails) (v : State) (m : Message) (open_ : p.fault ≡ None) (kept : p.is_lost ≡ false) (none : p.agenda.happened.items ≡ []) where
  abbrev after : Parts
  after = got p t v m open_ kept

  -- the vat lent a call, and what follows was noted
  goes_lent : (x : Message) (lent : BorrowedCall) (by : List Effect) (q : Parts) → Step p.vat (events.Receive x) (Ok values.Nothing) (deliveries (Some lent) ++ by) v → (f : Follows after triggers.Message by q)
      → Goes is_supported_to_caller stage_of (record { vat = p.vat; tails = t }) (events.Receive x) values.Nothing (moment (events.Receive x) (Ok values.Nothing) (deliveries (Some lent) ++ by) ∷ f.later)
      (deliveries (Some lent) ++ ((comes_of triggers.Message t by).0 ++ f.rest)) (behind q)
  goes_lent x lent by q step f =
      let comes = comes_deliver t lent by in
      record {
        by = deliveries (Some lent) ++ by;
        vat = v;
        step = step;
        later = f.later;
        rest = f.rest;
        settles =
            subst (λ (u : Option Tails). Settles is_supported_to_caller stage_of (closes by) (record { vat = v; tails = u }) f.later f.rest (behind q))
            (sym (ap (λ (c : List Effect × Option Tails). c.1) comes)) f.settles;
        whole = refl;
        all = ap (λ (c : List Effect × Option Tails). c.0 ++ f.rest) (sym comes);
      }

  -- a call that was lent happened first
  lent_at : (lent : BorrowedCall) (history : List Moment) (out : List Effect) (a : Agenda) (w : State) (u : Option Tails) (f : Option ConnectionFault)
      → Serves is_supported_to_caller stage_of (record { vat = p.vat; tails = p.tails }) (events.Receive m) (Ok values.Nothing) history (deliveries (Some lent) ++ out) (record { vat = w; tails = u })
      → Notes p.agenda out a → f ≡ closed_by out → DoesLending (link_of p) (events.Receive m) (Some lent) (link_of (record after { agenda = a; vat = w; tails = u; fault = f }))
  lent_at lent history out a w u f serves noted ends = (
    record (link_of (record after { agenda = a; vat = w; tails = u; fault = f })) { happened = delivered lent ∷ a.happened.items },
    record {
      was_open = open_;
      history = history;
      effects = deliveries (Some lent) ++ out;
      serves =
          subst
          (λ (b : Bool). Serves is_supported_to_caller stage_of (record { vat = closed_if b p.vat; tails = tails_if b p.tails }) (events.Receive m) (Ok values.Nothing) history (deliveries (Some lent) ++ out) (record { vat = closed_if b w; tails = tails_if b u }))
          (sym kept) serves;
      bytes = noted.bytes;
      are_frames = noted.frames;
      goes_out = noted.goes_out;
      happens =
          ap (λ (h : List ConnectionEvent). delivered lent ∷ h) (noted.happens ∙ ap (λ (h : List ConnectionEvent). h ++ happening_by out) none)
          ∙ sym (ap (λ (h : List ConnectionEvent). h ++ (delivered lent ∷ happening_by out)) none);
      counts = noted.counts;
      same_stats = refl;
      ends = ends;
      same_mode = noted.same_mode;
      same_limits = refl;
      same_reading = refl;
    },
    (refl, refl),
  )

  lends_value : (x : Message) (value : Option BorrowedCall) (by : List Effect) (q : Parts) → GetsTo p m (Some x) t → Step p.vat (events.Receive x) (Ok values.Nothing) (deliveries value ++ by) v
      → Follows after triggers.Message by q → DoesLending (link_of p) (events.Receive m) value (link_of q)
  lends_value x None by q is step f = (
    _,
    subst (λ (l : Link). Does l (events.Receive m) (Ok values.Nothing) (link_of q)) (back p t v m open_ kept)
        (does_noted after p.vat p.tails (events.Receive m) open_ kept values.Nothing _ _ q
        (does_take p t v m open_ kept x by _ _ q is step (goes_so after q p.vat (events.Receive x) values.Nothing by step f)) f.noted f.ended f.same),
    refl,
  )
  lends_value x (Some lent) by q is step f =
      subst (λ (y : Parts). DoesLending (link_of p) (events.Receive m) (Some lent) (link_of y)) (sym f.same)
      (lent_at lent _ ((comes_of triggers.Message t by).0 ++ f.rest) q.agenda q.vat q.tails q.fault
      (does_take p t v m open_ kept x (deliveries (Some lent) ++ by) _ _ q is step (goes_lent x lent by q step f)) f.noted f.ended)

  -- what was lent
  pub lends : (x : Message) (acted : Result (Acted (Option BorrowedCall)) VatFault) (result : Result (Option BorrowedCall) ConnectionFault) (q : Parts) → GetsTo p m (Some x) t
      → Step p.vat (events.Receive x) (vat.answered (λ _. values.Nothing) acted) (effects_lending acted) v → NotesAll after triggers.Message acted result q
      → IfOk result (λ lent. DoesLending (link_of p) (events.Receive m) lent (link_of q))
  lends x (Ok acted) (Ok lent) q is step noted =
      subst (λ (value : Option BorrowedCall). DoesLending (link_of p) (events.Receive m) value (link_of q)) (sym noted.0) (lends_value x acted.value acted.effects q is step noted.1)
  lends x (Ok acted) (Err fault) q is step noted = tt
  lends x (Err refusal) (Ok lent) q is step noted = absurd noted
  lends x (Err refusal) (Err fault) q is step noted = tt

  -- why nothing was
  pub lends_not : (x : Message) (acted : Result (Acted (Option BorrowedCall)) VatFault) (result : Result (Option BorrowedCall) ConnectionFault) (q : Parts) → GetsTo p m (Some x) t
      → Step p.vat (events.Receive x) (vat.answered (λ _. values.Nothing) acted) (effects_lending acted) v → NotesAll after triggers.Message acted result q
      → IfErr result (λ fault. Refuses (link_of p) (events.Receive m) fault (link_of q))
  lends_not x (Ok acted) (Ok lent) q is step noted = tt
  lends_not x (Ok acted) (Err fault) q is step noted =
      subst (λ (f : ConnectionFault). Refuses (link_of p) (events.Receive m) f (link_of q)) (sym noted.0)
      (loses_message p t v m open_ kept q (was_still step) noted.1)
  lends_not x (Err refusal) (Ok lent) q is step noted = absurd noted
  lends_not x (Err refusal) (Err fault) q is step noted =
      subst (λ (y : Parts). Refuses (link_of p) (events.Receive m) fault (link_of y)) (sym noted.1)
      (subst (λ (f : ConnectionFault). Refuses (link_of p) (events.Receive m) f (link_of (record after { fault = refused_by refusal p.fault }))) (sym noted.0)
      (refuses_message p t v m open_ kept x refusal is step))

-- ---- the same, as functions say it

module _ (p q r : Parts) (m : Message) (on : Option Message) (open_ : p.fault ≡ None) (kept : p.is_lost ≡ false) (none : p.agenda.happened.items ≡ []) (given : GetsFor p m on q) (v : State) (x : Message)
    (acted : Result (Acted (Option BorrowedCall)) VatFault) (result : Result (Option BorrowedCall) ConnectionFault) (is : on ≡ Some x) (step : Step q.vat (events.Receive x) (vat.answered (λ _. values.Nothing) acted) (effects_lending acted) v)
    (noted : NotesAll (record q { vat = v }) triggers.Message acted result r) where
  same : q ≡ record p { tails = q.tails }
  same = gets_same p q m on given

  to_it : GetsTo p m (Some x) q.tails
  to_it = subst (λ (o : Option Message). GetsTo p m o q.tails) is (gets_to p q m on given)

  stepped : Step p.vat (events.Receive x) (vat.answered (λ _. values.Nothing) acted) (effects_lending acted) v
  stepped = subst (λ (s : State). Step s (events.Receive x) (vat.answered (λ _. values.Nothing) acted) (effects_lending acted) v) (ap (λ (y : Parts). y.vat) same) step

  noted_so : NotesAll (record p { tails = q.tails; vat = v }) triggers.Message acted result r
  noted_so = subst (λ (y : Parts). NotesAll (record y { vat = v }) triggers.Message acted result r) same noted

  pub lends_message : IfOk result (λ lent. DoesLending (link_of p) (events.Receive m) lent (link_of r))
  lends_message = lends p q.tails v m open_ kept none x acted result r to_it stepped noted_so

  pub lends_no_message : IfErr result (λ fault. Refuses (link_of p) (events.Receive m) fault (link_of r))
  lends_no_message = lends_not p q.tails v m open_ kept none x acted result r to_it stepped noted_so
