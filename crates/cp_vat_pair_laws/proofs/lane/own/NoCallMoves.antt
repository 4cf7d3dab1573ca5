-- Own parts of events at its own end that move no call of a lane, and a question of the application's that is given.
use Rattle.std.specs.Prelude.{◌≡◌, refl, ℕ, ◌==◌, Bool, true, false, List, [], ◌∷◌, ◌++◌, Option, Some, None, option_map}
use Rattle.std.specs.FinMap.{get}
use Rattle.std.proofs.Common.{inl, inr, ap, sym, ◌∙◌, append-nil, true≢false}
use Rattle.cp_messages.specs.declared.message.Message.{Message}
use Rattle.cp_refs.specs.At.{cap_at}
use Rattle.cp_refs.specs.declared.cap.Cap.{Cap}
use Rattle.cp_refs.specs.declared.cap.Cap.TheVariants as caps
use Rattle.cp_refs.specs.declared.outcome.Outcome.{Outcome}
use Rattle.cp_refs.specs.declared.route.Gate.{Gate}
use Rattle.cp_refs.specs.declared.route.Gate.TheVariants as gates
use Rattle.cp_refs.specs.declared.values.QuestionState.{QuestionState}
use Rattle.cp_refs.specs.declared.values.QuestionKind.TheVariants as kinds
use Rattle.cp_vat_machine.specs.State.{State, gave}
use Rattle.cp_vat_machine.specs.Writing.{IsExport}
use Rattle.cp_vat_machine.specs.Give.{question_settled}
use Rattle.cp_vat_machine.specs.Calling.{plain, on_wire, came_to, question_reference, reference_of, mark_of}
use Rattle.cp_vat_machine.specs.Local.{is_wire, IsPathMark}
use Rattle.cp_vat_machine.specs.declared.effect.Effect.{Effect}
use Rattle.cp_vat_machine.specs.declared.effect.Effect.TheVariants as effects
use Rattle.cp_vat_machine.proofs.Basics.{none_out, is_equal, is_itself, not_equal, put_at}
use Rattle.cp_vat_laws.specs.Within.{Within}
use Rattle.cp_vat_laws.proofs.Tables.{there_of}
use Rattle.cp_vat_pair_laws.specs.VatPair.{End, messages_sent, with_mail}
use Rattle.cp_vat_pair_laws.specs.Lane.{Reference, import_, path_to, cap_of, CameTo, Delivery}
use Rattle.cp_vat_pair_laws.specs.Phases.{of_lane, forwarded_for, IsYet, GaveObject, Absent, LocalOpen, Phase, absent, unopened, unsettled, told, free, marked, embargoed, echoed, local_open, came_to_other, told_other, hosted_there, InLane, LaneHolds}
use Rattle.cp_vat_pair_laws.proofs.lane.Calm.{IsFront}
use Rattle.cp_vat_pair_laws.proofs.lane.own.Calm.{LevelHere, CalmHere, IsApartHere, calm_here, level_waits_here}
use Rattle.cp_vat_pair_laws.proofs.lane.own.Phase.{another_phase, local_given}
use Rattle.cp_vat_pair_laws.proofs.lane.parts.Silent.{Silent}
use Rattle.cp_vat_pair_laws.proofs.lane.own.NotOfLane.{silent_here}
use Rattle.cp_vat_pair_laws.proofs.lane.own.Reference.{RefCalm, IsPathOf, other_calm, path_comes, lane_stays}
use Rattle.cp_vat_pair_laws.proofs.lane.own.Turn.{lane_delivered, none_delivered}

-- What a part keeps in which no call of the lane moves and that leaves its reference alone, also after a message that has nothing to do with the lane.
module _ (here there : End) (ref : Reference) (made : List ℕ) (mid : State) (inbox : List Message) (effects : List Effect)
    (level : LevelHere here there made mid inbox (messages_sent effects)) (refs : RefCalm here.vat effects mid ref)
    (exports : (e : ℕ) (cap : Cap) → IsExport here.vat e cap → IsExport mid e cap) (front : IsFront (IsApartHere here there ref made) here.inbox inbox) where
  abbrev here_then : End
  here_then = record { vat = mid; inbox = inbox }

  abbrev there_then : End
  there_then = with_mail there (messages_sent effects)

  yet_on : IsYet here.vat ref made → IsYet mid ref made
  yet_on (inl open_) = inl (refs.same ∙ open_)
  yet_on (inr unheld) = inr (refs.unheld made unheld)

  calm : CalmHere here there ref made mid inbox (messages_sent effects)
  calm =
      record {
        level = level;
        open_ = λ is. refs.same ∙ is;
        yet = yet_on;
        came = λ value is. refs.same ∙ is;
        local_ = refs.local_;
        mark = refs.mark;
        exports = exports;
        gave_ = λ k waiting.
            level_waits_here here there made mid inbox (messages_sent effects) level (GaveObject here.vat k) (GaveObject mid k)
            (λ gate is. refs.gave_ gate (caps.Object k) is) waiting;
        unopened_ = refs.no_open;
        no_loop = λ n is. refs.no_loop n;
        front = front;
      }

  absent_on : (delivered : List Delivery) → Absent here there ref made → InLane here there ref made delivered → LaneHolds here_then there_then ref made delivered
  absent_on delivered p lane =
      inr
      (another_phase here there ref made mid inbox (messages_sent effects) level delivered (rw (refs.same) lane.delivered_) lane
      (absent (record { none = refs.absent_ there.vat p.none; unmade = p.unmade })))

  pub level_lane : (delivered : List Delivery) → LaneHolds here there ref made delivered → LaneHolds here_then there_then ref made delivered
  level_lane delivered holds = calm_here here there ref made mid inbox (messages_sent effects) calm delivered (absent_on delivered) holds

-- So it is with a silent part.
module _ (here there : End) (ref : Reference) (made : List ℕ) (mid : State) (inbox : List Message) (effects : List Effect) (silent : Silent here.vat effects mid)
    (refs : RefCalm here.vat effects mid ref) (exports : (e : ℕ) (cap : Cap) → IsExport here.vat e cap → IsExport mid e cap)
    (front : IsFront (IsApartHere here there ref made) here.inbox inbox) where
  taken : IsFront (λ m. of_lane made (forwarded_for here.vat there.vat m) ≡ []) here.inbox inbox
  taken = by front
    where
      by : IsFront (IsApartHere here there ref made) here.inbox inbox → IsFront (λ m. of_lane made (forwarded_for here.vat there.vat m) ≡ []) here.inbox inbox
      by (inl same) = inl same
      by (inr (m, was, apart)) = inr (m, was, apart.back_)

  pub silent_lane : (delivered : List Delivery) → LaneHolds here there ref made delivered
      → LaneHolds (record { vat = mid; inbox = inbox }) (with_mail there (messages_sent effects)) ref made (delivered ++ lane_delivered here.vat there.vat made effects)
  silent_lane delivered holds =
      rw
      (none_delivered here.vat there.vat made effects silent.no_delivery, append-nil delivered)
      (level_lane here there ref made mid inbox effects (silent_here here there made mid inbox taken effects silent) refs exports front delivered holds)

-- The application gives an outcome to a local question: its paths come to that, and others stay as they are.
module _ (here there : End) (q : ℕ) (outcome : Outcome) (question : QuestionState) (at : get here.vat.values.questions q ≡ Some question)
    (local_ : question.kind ≡ kinds.Local) (unset : question.outcome ≡ None) (not_over : get here.vat.waiting.over.questions q ≡ None) (h : Within here.vat None [])
    (silent : Silent here.vat (effects.Settled q outcome ∷ []) (question_settled here.vat q outcome)) where
  abbrev mid : State
  mid = question_settled here.vat q outcome

  abbrev given_here : End
  given_here = record { vat = mid; inbox = here.inbox }

  question_is : get here.vat.values.questions q ≡ Some (record { kind = kinds.Local; outcome = None })
  question_is = at ∙ ap Some (both local_ unset)
    where
      both : question.kind ≡ kinds.Local → question.outcome ≡ None → question ≡ record { kind = kinds.Local; outcome = None }
      both k o = rw (k, o) refl

  module _ (path : List ℕ) (made : List ℕ) where
    abbrev ref : Reference
    ref = path_to q path

    plain_then : reference_of here.vat.values (cap_of ref) ≡ plain
    plain_then = ap (question_reference path) question_is

    never_open : {A : Type 0} → reference_of here.vat.values (cap_of ref) ≡ on_wire → A
    never_open is = apart (sym plain_then ∙ is)
      where
        apart : {A : Type 0} → plain ≡ on_wire → A
        apart e = absurd (cc)

    never_came : {A : Type 0} (value : Cap) → CameTo here.vat ref value → A
    never_came value is = apart (sym plain_then ∙ is)
      where
        apart : {A : Type 0} → plain ≡ came_to value → A
        apart e = absurd (cc)

    never_yet : {A : Type 0} → IsYet here.vat ref made → A
    never_yet (inl open_) = never_open open_
    never_yet (inr unheld) = absurd unheld

    never_absent : {A : Type 0} → get here.vat.values.questions q ≡ None → A
    never_absent none = none_out (sym none ∙ question_is)

    unmarked : mark_of mid (cap_of ref) ≡ None
    unmarked = by (get here.vat.marks.paths (q ∷ path)) refl
      where
        by : (o : Option (Option ℕ)) → get here.vat.marks.paths (q ∷ path) ≡ o → get here.vat.marks.paths (q ∷ path) ≡ None
        by None is = is
        by (Some mark) is =
            let on = there_of (IsPathMark here.vat (q ∷ path)) (get here.vat.marks.paths (q ∷ path)) mark is (h.path_marks (q ∷ path)) in
            absurd (true≢false (sym on.0 ∙ ap is_wire question_is))

    came : CameTo mid ref (cap_at outcome path)
    came = path_comes here.vat q outcome not_over path question at

    gate_gave : (gate : Gate) → gate ≡ gates.Question q path → gave mid.waiting.over gate ≡ Some (cap_at outcome path)
    gate_gave gate is =
        ap (gave mid.waiting.over) is
        ∙ ap (option_map (λ (x : Outcome). cap_at x path)) (put_at here.vat.waiting.over.questions q q outcome true (is_itself q))

    level_given : LevelHere here there made mid here.inbox []
    level_given = silent_here here there made mid here.inbox (inl refl) (effects.Settled q outcome ∷ []) silent

    local_then : (delivered : List Delivery) → InLane here there ref made delivered → LocalOpen here there ref made → (value : Cap) → cap_at outcome path ≡ value
        → LaneHolds given_here (with_mail there []) ref made delivered
    local_then delivered lane p (caps.Object k) is =
        let gave_ : GaveObject mid k p.gate = gate_gave p.gate p.open_.1 ∙ ap Some is in
        inr (local_given here there ref made mid here.inbox [] level_given p k (came ∙ ap came_to is) unmarked gave_ delivered lane)
    local_then delivered lane p caps.None is = inl (came_to_other (caps.None, came ∙ ap came_to is, λ x. x))
    local_then delivered lane p (caps.Promise r) is = inl (came_to_other (caps.Promise r, came ∙ ap came_to is, λ x. x))
    local_then delivered lane p (caps.Import i) is = inl (came_to_other (caps.Import i, came ∙ ap came_to is, λ x. x))
    local_then delivered lane p (caps.Pipelined r other) is = inl (came_to_other (caps.Pipelined r other, came ∙ ap came_to is, λ x. x))
    local_then delivered lane p (caps.Broken x) is = inl (came_to_other (caps.Broken x, came ∙ ap came_to is, λ x. x))

    path_given : (delivered : List Delivery) → LaneHolds here there ref made delivered → LaneHolds given_here (with_mail there []) ref made delivered
    path_given delivered (inl (came_to_other p)) = never_came p.0 p.1
    path_given delivered (inl (told_other p)) = never_yet p.yet
    path_given delivered (inl (hosted_there p)) = never_yet p.yet
    path_given delivered (inr lane) = by lane.phase
      where
        by : Phase here there ref made → LaneHolds given_here (with_mail there []) ref made delivered
        by (absent p) = never_absent p.none
        by (unopened p) = never_open p.open_
        by (unsettled p) = never_yet p.yet
        by (told p) = never_yet p.yet
        by (free p) = never_came (caps.Object p.object) p.came
        by (marked p) = never_came (caps.Object p.comes.object) p.comes.came
        by (embargoed p) = never_came (caps.Object p.comes.object) p.comes.came
        by (echoed p) = never_came (caps.Object p.comes.object) p.comes.came
        by (local_open p) = local_then delivered lane p (cap_at outcome path) refl

  other_given : (ref : Reference) (made : List ℕ) (delivered : List Delivery) → (IsPathOf q ref → ⊥) → LaneHolds here there ref made delivered
      → LaneHolds given_here (with_mail there []) ref made delivered
  other_given ref made delivered not_ holds =
      lane_stays here there ref made mid (effects.Settled q outcome ∷ []) (other_calm here.vat q outcome not_over ref not_) (λ e cap is. is)
      (silent_here here there made mid here.inbox (inl refl) (effects.Settled q outcome ∷ []) silent) delivered holds

  pub given_lane : (ref : Reference) (made : List ℕ) (delivered : List Delivery) → LaneHolds here there ref made delivered
      → LaneHolds given_here (with_mail there []) ref made delivered
  given_lane (import_ i) made delivered holds = other_given (import_ i) made delivered (λ is. is) holds
  given_lane (path_to r path) made delivered holds = by (q == r) refl
    where
      by : (b : Bool) → (q == r) ≡ b → LaneHolds given_here (with_mail there []) (path_to r path) made delivered
      by true t =
          let same : q ≡ r = is_equal q r t in
          let it : LaneHolds here there (path_to q path) made delivered = rw (same) holds in
          rw (← same) (path_given path made delivered it)
      by false t = other_given (path_to r path) made delivered (λ is. not_equal q r t is) holds
