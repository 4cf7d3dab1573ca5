-- What tail calls owe is passed on, one after another.
use Rattle.std.proofs.Common.{◌≡◌, ℕ, Ok, IsSome, if◌then◌else◌, Bool, true, false, List, [], ◌∷◌, ◌++◌, Option, Some, None, refl, sym, ap, ◌∙◌, subst, append-nil, append_assoc, is_none, true≢false}
use Rattle.std.proofs.lemmas.Bool.{false≢true}
use Rattle.cp_tables.specs.declared.exchange.Stage.{Stage}
use Rattle.cp_messages.specs.declared.message.Message.{Message}
use Rattle.cp_vat_machine.specs.Asked.{stage_of}
use Rattle.cp_vat_machine.specs.Run.{Moment}
use Rattle.cp_vat_machine.specs.State.{State}
use Rattle.cp_vat_machine.specs.Supported.{is_supported_to_caller}
use Rattle.cp_vat_machine.specs.declared.effect.Effect.{Effect}
use Rattle.cp_vat_machine.specs.declared.effect.Effect.TheVariants as effects
use Rattle.cp_vat_machine.specs.declared.event.Event.TheVariants as events
use Rattle.cp_vat_machine.specs.declared.event.Value.TheVariants as values
use Rattle.cp_tail_calls.specs.Sending.{next_of}
use Rattle.cp_tail_calls.specs.Serving.{Served, Settles, has_closed, nothing_owed, to_peer, to_vat, closes, comes_of, moment, owed_by}
use Rattle.cp_tail_calls.specs.Tails.{Tails}
use Rattle.cp_tail_calls.specs.declared.forwarding.ForwardedMessage.{ForwardedMessage}
use Rattle.cp_tail_calls.specs.declared.forwarding.ForwardedMessage.TheVariants as owed
use Rattle.cp_tail_calls.specs.declared.forwarding.Trigger.{Trigger}
use Rattle.cp_tail_calls.specs.declared.forwarding.Trigger.TheVariants as triggers
use Rattle.cp_connection.specs.declared.agenda.Agenda.{Agenda}
use Rattle.cp_connection.specs.declared.agenda.Mark.{Mark}
use Rattle.cp_connection.specs.declared.fault.ConnectionFault.{ConnectionFault}
use Rattle.cp_connection.specs.declared.fault.ConnectionFault.TheVariants as faults
use Rattle.cp_connection.specs.declared.parts.Parts.{Parts}
use Rattle.cp_connection.specs.Noting.{Notes, Stays, Marks, GoesBack}
use Rattle.cp_connection.specs.Owing.{AreSendable, OwesSendable}
use Rattle.cp_connection.specs.Settling.{behind, closed_by, MayNote, NotesEvent, Passes, PassesOn, PassesIf, Settled, Follows, Loses}
use Rattle.cp_connection.proofs.Noting.{notes_none, notes_both, grows_none, grows_by, grows_both, closes_later, closes_comes, stays_back}
use Rattle.cp_connection.proofs.Owing.{comes_owes, rest_owes}

abbrev serve : State → Option Tails → Served
serve v t = record { vat = v; tails = t }

abbrev ended_if : Bool → Option ConnectionFault
ended_if b = if b then Some faults.Closed else None

-- a connection that is open wasn't closed by these
pub not_closed : (by : List Effect) → closed_by by ≡ None → closes by ≡ false
not_closed by e = test (closes by) e
  where
    test : (b : Bool) → ◌≡◌ {A = Option ConnectionFault} (if b then Some faults.Closed else None) None → b ≡ false
    test true e = absurd (true≢false (ap is_none (sym e)))
    test false e = refl

-- the parts that may change did
framed : (p r : Parts) (a : Agenda) (v : State) (t : Option Tails) (f : Option ConnectionFault) → r ≡ record p { agenda = a; vat = v; tails = t; fault = f }
    → r ≡ record p { agenda = r.agenda; vat = r.vat; tails = r.tails; fault = r.fault }
framed p r a v t f e = subst (λ (x : Parts). x ≡ record p { agenda = x.agenda; vat = x.vat; tails = x.tails; fault = x.fault }) (sym e) refl

same_both : (a b c : Parts) → b ≡ record a { agenda = b.agenda; vat = b.vat; tails = b.tails; fault = b.fault } → c ≡ record b { agenda = c.agenda; vat = c.vat; tails = c.tails; fault = c.fault }
    → c ≡ record a { agenda = c.agenda; vat = c.vat; tails = c.tails; fault = c.fault }
same_both a b c h k = k ∙ ap (λ (x : Parts). record x { agenda = c.agenda; vat = c.vat; tails = c.tails; fault = c.fault }) h

-- ---- where memory runs out

pub may_none : (a : Parts) → MayNote a a
may_none a = record { grown = grows_none a.agenda a.agenda refl refl refl; same = refl }

-- only the vat did something, or only tail calls, or nothing was noted
pub may_vat : (p : Parts) (v : State) → MayNote p (record p { vat = v })
may_vat p v = record { grown = grows_none p.agenda p.agenda refl refl refl; same = refl }

pub may_only : (p : Parts) (t : Option Tails) → MayNote p (record p { tails = t })
may_only p t = record { grown = grows_none p.agenda p.agenda refl refl refl; same = refl }

pub may_stays : (p : Parts) (a : Agenda) → Stays p.agenda a → MayNote p (record p { agenda = a })
may_stays p a stays = record { grown = grows_none p.agenda a stays.same_mode stays.same_bytes stays.same_happenings; same = refl }

pub may_both : (a b c : Parts) → MayNote a b → MayNote b c → MayNote a c
may_both a b c h k = record { grown = grows_both a.agenda b.agenda c.agenda h.grown k.grown; same = same_both a b c h.same k.same }

pub may_by : (a b : Parts) → PassesOn a b → MayNote a b
may_by a b h = record { grown = grows_by a.agenda b.agenda h.effects h.noted; same = h.same }

pub may_event : (a b : Parts) (trigger : Trigger) (by : List Effect) → NotesEvent a trigger by b → MayNote a b
may_event a b trigger by h = record {
  grown = grows_by a.agenda b.agenda (comes_of trigger a.tails by).0 h.noted;
  same = framed a b b.agenda a.vat b.tails b.fault h.same;
}

pub loses_noted : (a b c : Parts) (mark : Mark) → Marks a.agenda mark → MayNote a b → GoesBack b.agenda mark c.agenda
    → c ≡ record b { agenda = c.agenda; is_lost = true; fault = Some faults.OutOfMemory } → Loses a c
loses_noted a b c mark marks may back e =
    let is : c ≡ record a { agenda = c.agenda; vat = b.vat; tails = b.tails; is_lost = true; fault = Some faults.OutOfMemory } =
    e ∙ ap (λ (x : Parts). record x { agenda = c.agenda; is_lost = true; fault = Some faults.OutOfMemory }) may.same in
    record {
      stays = stays_back a.agenda b.agenda c.agenda mark marks may.grown back;
      same = subst (λ (x : Parts). x ≡ record a { agenda = x.agenda; vat = x.vat; tails = x.tails; is_lost = true; fault = Some faults.OutOfMemory }) (sym is) refl;
    }

-- ---- one after another

pub passes_none : (a : Parts) → a.fault ≡ None → OwesSendable a.tails → PassesOn a a
passes_none a open_ owes = record {
  history = [];
  effects = [];
  leads = λ later rest new s. s;
  noted = notes_none a.agenda;
  ended = open_;
  owes = owes;
  same = refl;
}

pub passes_both : (a b c : Parts) → PassesOn a b → b.fault ≡ None → PassesOn b c → PassesOn a c
passes_both a b c h open_ k =
    let still : closes h.effects ≡ false = not_closed h.effects (sym h.ended ∙ open_) in
    record {
      history = h.history ++ k.history;
      effects = h.effects ++ k.effects;
      leads = λ later rest new s.
          subst (λ (es : List Effect). Settles is_supported_to_caller stage_of false (behind a) ((h.history ++ k.history) ++ later) es new) (sym (append_assoc h.effects k.effects rest))
          (subst (λ (ms : List Moment). Settles is_supported_to_caller stage_of false (behind a) ms (h.effects ++ (k.effects ++ rest)) new) (sym (append_assoc h.history k.history later))
          (h.leads (k.history ++ later) (k.effects ++ rest) new
          (subst (λ (x : Bool). Settles is_supported_to_caller stage_of x (behind b) (k.history ++ later) (k.effects ++ rest) new) (sym still)
          (k.leads later rest new
          (subst (λ (x : Bool). Settles is_supported_to_caller stage_of x (behind c) later rest new) (closes_later h.effects k.effects still) s)))));
      noted = notes_both a.agenda b.agenda c.agenda h.effects k.effects still h.noted k.noted;
      ended = k.ended ∙ ap (λ (x : Bool). if x then Some faults.Closed else None) (sym (closes_later h.effects k.effects still));
      owes = k.owes;
      same = same_both a b c h.same k.same;
    }

-- what was owed first
pub passes_owed : (p r : Parts) (t mid : Tails) (first : ForwardedMessage) → p.tails ≡ Some t → p.fault ≡ None → next_of (stage_of p.vat) t t.owed ≡ (Some first, mid) → AreSendable mid.owed
    → Passes (record p { tails = Some mid }) first r → PassesOn p r
passes_owed p r t mid (owed.ToPeer m) is open_ next owes h =
    let same : behind r ≡ record { vat = p.vat; tails = Some mid } = ap behind h.1 in
    record {
      history = [];
      effects = effects.Send m ∷ [];
      leads = λ later rest new s. to_peer m t mid is next (subst (λ (x : Served). Settles is_supported_to_caller stage_of false x later rest new) same s) refl;
      noted = h.0;
      ended = ap (λ (x : Parts). x.fault) h.1 ∙ open_;
      owes = subst OwesSendable (sym (ap (λ (x : Parts). x.tails) h.1)) owes;
      same = framed p r r.agenda p.vat (Some mid) p.fault h.1;
    }
passes_owed p r t mid (owed.ToVat m) is open_ next owes h =
    let by = h.0 in
    let note = h.2 in
    let same : behind r ≡ record { vat = r.vat; tails = (comes_of triggers.Message (Some mid) by).1 } = ap (λ (x : Option Tails). serve r.vat x) note.tails in
    record {
      history = moment (events.Receive m) (Ok values.Nothing) by ∷ [];
      effects = (comes_of triggers.Message (Some mid) by).0;
      leads = λ later rest new s.
          to_vat m t mid by r.vat is next h.1
          (subst (λ (x : Bool). Settles is_supported_to_caller stage_of x (record { vat = r.vat; tails = (comes_of triggers.Message (Some mid) by).1 }) later rest new) (closes_comes triggers.Message (Some mid) by)
          (subst (λ (x : Served). Settles is_supported_to_caller stage_of (closes (comes_of triggers.Message (Some mid) by).0) x later rest new) same s))
          refl refl;
      noted = note.noted;
      ended = note.ended ∙ ap (λ (x : Bool). if x then Some faults.Closed else None) (sym (closes_comes triggers.Message (Some mid) by));
      owes = subst OwesSendable (sym note.tails) (comes_owes triggers.Message (Some mid) by owes);
      same = note.same;
    }

-- all was passed on
pub settles_all : (a b c : Parts) → PassesOn a b → PassesIf false b c → Settled a c
settles_all a b c h last = subst (λ (x : Parts). Settled a x) (sym last.1) (record {
  history = h.history;
  effects = h.effects;
  settles =
      subst (λ (es : List Effect). Settles is_supported_to_caller stage_of false (behind a) h.history es (behind b)) (append-nil h.effects)
      (subst (λ (ms : List Moment). Settles is_supported_to_caller stage_of false (behind a) ms (h.effects ++ []) (behind b)) (append-nil h.history)
      (h.leads [] [] (behind b) (by (closes h.effects) refl)));
  noted = h.noted;
  ended = h.ended;
  owes = h.owes;
  same = h.same;
})
  where
    by : (x : Bool) → closes h.effects ≡ x → Settles is_supported_to_caller stage_of x (behind b) [] [] (behind b)
    by true e = has_closed
    by false e = last.0 (h.ended ∙ ap (λ (x : Bool). if x then Some faults.Closed else None) e)

-- ---- one turn

pub goes_turn : (a b c : Parts) (more : Bool) → more ≡ true → PassesOn a b → PassesIf more b c → PassesOn a c
goes_turn a b c true e h k = passes_both a b c h k.0 k.1
goes_turn a b c false e h k = absurd (true≢false (sym e))

pub ends_turn : (a b c : Parts) (more : Bool) → more ≡ false → PassesOn a b → PassesIf more b c → Settled a c
ends_turn a b c true e h k = absurd (true≢false e)
ends_turn a b c false e h k = settles_all a b c h k

pub may_turn : (a b c : Parts) → PassesOn a b → MayNote b c → MayNote a c
may_turn a b c h k = may_both a b c (may_by a b h) k

next_none : (stage : ℕ → Option Stage) (t mid : Tails) (all : List ForwardedMessage) → next_of stage t all ≡ (None, mid) → (all ≡ []) × (mid ≡ t)
next_none stage t mid [] e = (refl, sym (ap (λ (x : Option ForwardedMessage × Tails). x.1) e))
next_none stage t mid (first ∷ rest) e = absurd (true≢false (ap is_none (sym (ap (λ (x : Option ForwardedMessage × Tails). x.0) e))))

-- nothing was owed
pub passes_nothing : (p : Parts) (t mid : Tails) (on : Option ForwardedMessage) → p.tails ≡ Some t → next_of (stage_of p.vat) t t.owed ≡ (on, mid) → on ≡ None → PassesIf false p (record p { tails = Some mid })
passes_nothing p t mid on is next none_ =
    let none = next_none (stage_of p.vat) t mid t.owed (next ∙ ap (λ (o : Option ForwardedMessage). (o, mid)) none_) in (
      λ open_. nothing_owed (ap owed_by is ∙ none.0),
      ap (λ (x : Option Tails). record p { tails = x }) (ap (λ (x : Tails). Some x) none.1 ∙ sym is),
    )

-- what was owed first was passed on
pub passes_first : (p r : Parts) (t mid : Tails) (on : Option ForwardedMessage) (first : ForwardedMessage) → p.tails ≡ Some t → p.fault ≡ None → OwesSendable p.tails → next_of (stage_of p.vat) t t.owed ≡ (on, mid) → on ≡ Some first
    → Passes (record p { tails = Some mid }) first r → PassesOn p r
passes_first p r t mid on first is open_ owes next some h =
    passes_owed p r t mid first is open_ (next ∙ ap (λ (o : Option ForwardedMessage). (o, mid)) some)
    (rest_owes (stage_of p.vat) t mid on (subst OwesSendable is owes) next) h

pub passes_unserved : (p : Parts) → p.tails ≡ None → PassesIf false p p
passes_unserved p none = ((λ open_. nothing_owed (ap owed_by none)), refl)

-- only the tail calls may have changed
pub may_tails : (p q : Parts) (t : Option Tails) → MayNote (record p { tails = t }) q → MayNote p q
may_tails p q t h = record { grown = h.grown; same = h.same }

-- ---- the effects of one event, and what follows

module _ (a b : Parts) (trigger : Trigger) (effects_ : List Effect) (h : NotesEvent a trigger effects_ b) where
  begins : behind b ≡ record { vat = a.vat; tails = (comes_of trigger a.tails effects_).1 }
  begins = ap (λ (x : State). serve x b.tails) (ap (λ (x : Parts). x.vat) h.same) ∙ ap (λ (x : Option Tails). serve a.vat x) h.tails

  -- the vat closed
  pub follows_none : closes effects_ ≡ true → OwesSendable b.tails → Follows a trigger effects_ b
  follows_none shut owes = record {
    later = [];
    rest = [];
    settles =
        subst (λ (x : Bool). Settles is_supported_to_caller stage_of x (record { vat = a.vat; tails = (comes_of trigger a.tails effects_).1 }) [] [] (behind b)) (sym shut)
        (subst (λ (x : Served). Settles is_supported_to_caller stage_of true x [] [] (behind b)) begins has_closed);
    noted = subst (λ (es : List Effect). Notes a.agenda es b.agenda) (sym (append-nil (comes_of trigger a.tails effects_).0)) h.noted;
    ended =
        h.ended ∙ ap (λ (x : Bool). if x then Some faults.Closed else None)
        (sym (ap closes (append-nil (comes_of trigger a.tails effects_).0) ∙ closes_comes trigger a.tails effects_));
    owes = owes;
    same = framed a b b.agenda a.vat b.tails b.fault h.same;
  }

  -- what was owed then was passed on
  pub follows_all : (c : Parts) → b.fault ≡ None → Settled b c → Follows a trigger effects_ c
  follows_all c open_ k =
      let first = (comes_of trigger a.tails effects_).0 in
      let still : closes effects_ ≡ false = not_closed effects_ (sym h.ended ∙ open_) in
      let quiet : closes first ≡ false = closes_comes trigger a.tails effects_ ∙ still in
      record {
        later = k.history;
        rest = k.effects;
        settles =
            subst (λ (x : Bool). Settles is_supported_to_caller stage_of x (record { vat = a.vat; tails = (comes_of trigger a.tails effects_).1 }) k.history k.effects (behind c)) (sym still)
            (subst (λ (x : Served). Settles is_supported_to_caller stage_of false x k.history k.effects (behind c)) begins k.settles);
        noted = notes_both a.agenda b.agenda c.agenda first k.effects quiet h.noted k.noted;
        ended = k.ended ∙ ap (λ (x : Bool). if x then Some faults.Closed else None) (sym (closes_later first k.effects quiet));
        owes = k.owes;
        same = same_both a b c (framed a b b.agenda a.vat b.tails b.fault h.same) k.same;
      }

-- ---- the same, as functions say it

module _ (a b : Parts) (trigger : Trigger) (effects_ : List Effect) (h : NotesEvent a trigger effects_ b) (owes : OwesSendable a.tails) where
  pub event_owes : OwesSendable b.tails
  event_owes = subst OwesSendable (sym h.tails) (comes_owes trigger a.tails effects_ owes)

  pub follows_shut : IsSome b.fault → Follows a trigger effects_ b
  follows_shut some = follows_none a b trigger effects_ h (test (closes effects_) (subst (λ (f : Option ConnectionFault). IsSome f) h.ended some)) event_owes
    where
      test : (x : Bool) → IsSome (ended_if x) → x ≡ true
      test true e = refl
      test false e = absurd (false≢true e)
