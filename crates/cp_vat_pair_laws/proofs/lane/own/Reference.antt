-- A reference, its mark and what gates gave, where a part of an event at its own end leaves them as they are.
use Rattle.std.specs.Prelude.{◌≡◌, refl, ℕ, ◌==◌, Bool, true, false, List, [], ◌∷◌, Option, Some, None, option_map, IsTrue}
use Rattle.std.specs.List.{list_any}
use Rattle.std.specs.FinMap.{get, insert}
use Rattle.std.proofs.Common.{inl, inr, ap, sym, ◌∙◌}
use Rattle.cp_messages.specs.declared.message.Message.{Message}
use Rattle.cp_messages.specs.declared.exception.Exception.{Exception}
use Rattle.cp_refs.specs.At.{cap_at}
use Rattle.cp_refs.specs.declared.cap.Cap.{Cap}
use Rattle.cp_refs.specs.declared.cap.Cap.TheVariants as caps
use Rattle.cp_refs.specs.declared.outcome.Outcome.{Outcome}
use Rattle.cp_refs.specs.declared.outcome.Outcome.TheVariants as outcomes
use Rattle.cp_refs.specs.declared.route.Gate.{Gate}
use Rattle.cp_refs.specs.declared.route.Gate.TheVariants as gates
use Rattle.cp_refs.specs.declared.values.QuestionState.{QuestionState}
use Rattle.cp_refs.specs.declared.values.QuestionKind.{QuestionKind}
use Rattle.cp_refs.specs.declared.values.QuestionKind.TheVariants as kinds
use Rattle.cp_vat_machine.specs.State.{State, gave}
use Rattle.cp_vat_machine.specs.Writing.{IsExport}
use Rattle.cp_vat_machine.specs.Give.{question_settled}
use Rattle.cp_vat_machine.specs.Calling.{on_wire, came_to, import_reference, question_reference, path_reference, reference_of, mark_of}
use Rattle.cp_vat_machine.specs.Local.{is_wire}
use Rattle.cp_vat_machine.specs.declared.effect.Effect.{Effect}
use Rattle.cp_vat_machine.specs.declared.effect.Effect.TheVariants as effects
use Rattle.cp_vat_machine.proofs.Basics.{none_out, is_equal, is_itself, put_at}
use Rattle.cp_vat_pair_laws.specs.Ledger.{opens}
use Rattle.cp_vat_pair_laws.specs.VatPair.{End, messages_sent, with_mail}
use Rattle.cp_vat_pair_laws.specs.Lane.{Reference, import_, path_to, cap_of, CameTo, Delivery}
use Rattle.cp_vat_pair_laws.specs.Naming.{is_loop}
use Rattle.cp_vat_pair_laws.specs.Phases.{IsYet, IsUnheld, IsLocalOpen, IsAbsent, GaveObject, opens_place, told_by, CameToOther, IsElsewhere, came_to_other, told_other, hosted_there, Absent, absent, InLane, LaneHolds}
use Rattle.cp_vat_pair_laws.proofs.lane.own.Calm.{LevelHere, CalmHere, calm_here, other_on, level_waits_here}
use Rattle.cp_vat_pair_laws.proofs.lane.own.Phase.{another_phase}
use Rattle.cp_vat_pair_laws.proofs.still.Give.{changed_get}
use Rattle.cp_vat_pair_laws.proofs.still.Does.{wire_at}
use Rattle.cp_vat_pair_laws.proofs.lane.parts.Calm.{Calm}

-- It is left so.
pub record RefCalm (old : State) (effects : List Effect) (new : State) (ref : Reference) : Type 0 where
  pub same : reference_of new.values (cap_of ref) ≡ reference_of old.values (cap_of ref)
  pub unheld : (made : List ℕ) → IsUnheld old ref made → IsUnheld new ref made
  pub absent_ : (there : State) → IsAbsent old there ref → IsAbsent new there ref
  pub local_ : (gate : Gate) → IsLocalOpen old ref gate → IsLocalOpen new ref gate
  pub mark : mark_of new (cap_of ref) ≡ mark_of old (cap_of ref)
  pub gave_ : (gate : Gate) (cap : Cap) → gave old.waiting.over gate ≡ Some cap → gave new.waiting.over gate ≡ Some cap
  pub no_open : reference_of old.values (cap_of ref) ≡ on_wire → list_any (opens_place ref) (messages_sent effects) ≡ false
  pub no_loop : (n : ℕ) → list_any (is_loop n) (messages_sent effects) ≡ false

-- an import isn't opened by a message
none_opened : (i : ℕ) (ms : List Message) → list_any (opens_place (import_ i)) ms ≡ false
none_opened i [] = refl
none_opened i (m ∷ ms) = none_opened i ms

path_opened : (q : ℕ) (path : List ℕ) (ms : List Message) → list_any (opens q) ms ≡ false → list_any (opens_place (path_to q path)) ms ≡ false
path_opened q path ms none = none

wired : (path : List ℕ) (o : Option QuestionState) → question_reference path o ≡ on_wire → IsTrue (is_wire o)
wired path o is = rw (wire_at path o is) refl

-- where imports, questions and marks are as they were
pub ref_calm : {old new : State} {effects : List Effect} (ref : Reference) → Calm old effects new → RefCalm old effects new ref
ref_calm {old = old} {new = new} {effects = effects} (import_ i) h =
    record {
      same = ap (λ m. import_reference (get m i)) h.imports;
      unheld = λ made is. (ap (λ m. get m i) h.imports ∙ is.0, is.1);
      absent_ = λ there is. (ap (λ m. get m i) h.imports ∙ is.0, is.1);
      local_ = λ gate is. absurd is;
      mark = ap (λ m. get m.imports i) h.marks;
      gave_ = h.gave_;
      no_open = λ open_. none_opened i (messages_sent effects);
      no_loop = h.no_loop;
    }
ref_calm {old = old} {new = new} {effects = effects} (path_to q path) h =
    record {
      same = ap (λ m. question_reference path (get m q)) h.questions;
      unheld = λ made is. absurd is;
      absent_ = λ there is. ap (λ m. get m q) h.questions ∙ is;
      local_ = λ gate is. (rw (h.questions) is.0, is.1);
      mark = ap (λ m. get m.paths (q ∷ path)) h.marks;
      gave_ = h.gave_;
      no_open = λ open_. path_opened q path (messages_sent effects) (h.no_open q (wired path (get old.values.questions q) open_));
      no_loop = h.no_loop;
    }

-- a path of this question
abbrev pub IsPathOf : ℕ → Reference → Type 0
IsPathOf q (import_ i) = ⊥
IsPathOf q (path_to r path) = q ≡ r

-- A question that gets its outcome: its paths come to that, and others stay as they are.
module _ (s : State) (q : ℕ) (outcome : Outcome) (none : get s.waiting.over.questions q ≡ None) where
  abbrev given_state : State
  given_state = question_settled s q outcome

  question_gave : (r : ℕ) (path : List ℕ) (cap : Cap) (t : Bool) → (q == r) ≡ t → option_map (λ o. cap_at o path) (get s.waiting.over.questions r) ≡ Some cap
      → option_map (λ o. cap_at o path) (get (insert s.waiting.over.questions q outcome) r) ≡ Some cap
  question_gave r path cap true t is =
      let at : get s.waiting.over.questions r ≡ None = rw (← is_equal q r t) none in
      none_out (sym (ap (option_map (λ o. cap_at o path)) at) ∙ is)
  question_gave r path cap false t is = ap (option_map (λ o. cap_at o path)) (put_at s.waiting.over.questions q r outcome false t) ∙ is

  pub given_gave : (gate : Gate) (cap : Cap) → gave s.waiting.over gate ≡ Some cap → gave given_state.waiting.over gate ≡ Some cap
  given_gave (gates.Answer a path) cap is = is
  given_gave (gates.Promise p) cap is = is
  given_gave (gates.Question r path) cap is = question_gave r path cap (q == r) refl is
  given_gave (gates.Embargo n) cap is = is

  pub other_calm : (ref : Reference) → (IsPathOf q ref → ⊥) → RefCalm s (effects.Settled q outcome ∷ []) given_state ref
  other_calm (import_ i) not_ =
      record {
        same = refl;
        unheld = λ made is. is;
        absent_ = λ there is. is;
        local_ = λ gate is. absurd is;
        mark = refl;
        gave_ = given_gave;
        no_open = λ open_. refl;
        no_loop = λ n. refl;
      }
  other_calm (path_to r path) not_ =
      let at : get given_state.values.questions r ≡ get s.values.questions r = others r (q == r) refl not_ in
      record {
        same = ap (question_reference path) at;
        unheld = λ made is. absurd is;
        absent_ = λ there is. at ∙ is;
        local_ = λ gate is. (rw (at) is.0, is.1);
        mark = refl;
        gave_ = given_gave;
        no_open = λ open_. refl;
        no_loop = λ n. refl;
      }
    where
      others : (r : ℕ) (t : Bool) → (q == r) ≡ t → ((q ≡ r) → ⊥) → get given_state.values.questions r ≡ get s.values.questions r
      others r true t not_ = absurd (not_ (is_equal q r t))
      others r false t not_ = changed_get s.values.questions q r (λ x. record x { outcome = Some outcome }) false t

  -- what a path of it comes to
  pub path_comes : (path : List ℕ) (question : QuestionState) → get s.values.questions q ≡ Some question
      → CameTo given_state (path_to q path) (cap_at outcome path)
  path_comes path question is =
      let at : get given_state.values.questions q ≡ Some (record question { outcome = Some outcome }) =
      changed_get s.values.questions q q (λ x. record x { outcome = Some outcome }) true (is_itself q)
      ∙ ap (λ (o : Option QuestionState). option_map (λ (x : QuestionState). record x { outcome = Some outcome }) o) is in
      ap (question_reference path) at ∙ by question.kind
    where
      by : (kind : QuestionKind) → path_reference path kind (Some outcome) ≡ came_to (cap_at outcome path)
      by kinds.Wire = refl
      by kinds.Local = refl

pub failed_other : (s : State) (q : ℕ) (x : Exception) (path : List ℕ) → CameTo s (path_to q path) (cap_at (outcomes.Failed x) path) → CameToOther s (path_to q path)
failed_other s q x path came = (caps.Broken x, came, λ object. object)

-- So a lane holds on where no call of it moves, and what is elsewhere stays so.
module _ (here there : End) (ref : Reference) (made : List ℕ) (mid : State) (effects : List Effect) (calm : RefCalm here.vat effects mid ref)
    (exports : (e : ℕ) (cap : Cap) → IsExport here.vat e cap → IsExport mid e cap) where
  abbrev here_then : End
  here_then = record { vat = mid; inbox = here.inbox }

  abbrev there_then : End
  there_then = with_mail there (messages_sent effects)

  yet_on : IsYet here.vat ref made → IsYet mid ref made
  yet_on (inl open_) = inl (calm.same ∙ open_)
  yet_on (inr unheld) = inr (calm.unheld made unheld)

  pub elsewhere_stays : IsElsewhere here there ref made → IsElsewhere here_then there_then ref made
  elsewhere_stays (came_to_other p) = came_to_other (p.0, calm.same ∙ p.1, p.2)
  elsewhere_stays (told_other p) =
      told_other
      (record {
        yet = yet_on p.yet;
        closed = p.closed;
        before = p.before;
        telling = p.telling;
        after = p.after;
        only = p.only;
        says = other_on here.vat mid exports (told_by ref p.telling) p.says;
      })
  elsewhere_stays (hosted_there p) = hosted_there (record { yet = yet_on p.yet; hosted = p.hosted; untold = p.untold })

  pub is_calm : LevelHere here there made mid here.inbox (messages_sent effects) → CalmHere here there ref made mid here.inbox (messages_sent effects)
  is_calm level =
      record {
        level = level;
        open_ = λ is. calm.same ∙ is;
        yet = yet_on;
        came = λ value is. calm.same ∙ is;
        local_ = calm.local_;
        mark = calm.mark;
        exports = exports;
        gave_ = λ k waiting.
            level_waits_here here there made mid here.inbox (messages_sent effects) level (GaveObject here.vat k) (GaveObject mid k)
            (λ gate is. calm.gave_ gate (caps.Object k) is) waiting;
        unopened_ = calm.no_open;
        no_loop = λ n is. calm.no_loop n;
        front = inl refl;
      }

  absent_on : LevelHere here there made mid here.inbox (messages_sent effects) → (delivered : List Delivery) → Absent here there ref made → InLane here there ref made delivered
      → LaneHolds here_then there_then ref made delivered
  absent_on level delivered p lane =
      inr
      (another_phase here there ref made mid here.inbox (messages_sent effects) level delivered (rw (calm.same) lane.delivered_) lane
      (absent (record { none = calm.absent_ there.vat p.none; unmade = p.unmade })))

  pub lane_stays : LevelHere here there made mid here.inbox (messages_sent effects) → (delivered : List Delivery) → LaneHolds here there ref made delivered
      → LaneHolds here_then there_then ref made delivered
  lane_stays level delivered holds =
      calm_here here there ref made mid here.inbox (messages_sent effects) (is_calm level) delivered (absent_on level delivered) holds
