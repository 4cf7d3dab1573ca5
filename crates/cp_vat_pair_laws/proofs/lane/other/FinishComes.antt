-- A Finish that the other end takes keeps each lane: it ends an answer that was given, to whose place no reference leads any more.
use Rattle.std.specs.Prelude.{◌≡◌, refl, ℕ, ◌==◌, not, if◌then◌else◌, Bool, true, false, List, [], ◌∷◌, ◌++◌, Option, Some, None, IfSome, Ok}
use Rattle.std.specs.List.{list_any}
use Rattle.std.specs.FinMap.{get, remove}
use Rattle.std.proofs.Common.{inl, inr, ap, subst, sym, ◌∙◌, true≢false}
use Rattle.cp_tables.specs.Table.{Table}
use Rattle.cp_tables.specs.declared.counted.Counted.{Counted}
use Rattle.cp_tables.specs.declared.exchange.Exchange.{Exchange}
use Rattle.cp_tables.specs.declared.exchange.Stage.{Stage}
use Rattle.cp_tables.specs.declared.exchange.Stage.TheVariants as stages
use Rattle.cp_messages.specs.declared.message.Message.{Message}
use Rattle.cp_messages.specs.declared.message.Message.TheVariants as messages
use Rattle.cp_messages.specs.declared.small.Finish.{Finish}
use Rattle.cp_refs.specs.declared.cap.Cap.{Cap}
use Rattle.cp_refs.specs.declared.cap.Cap.TheVariants as caps
use Rattle.cp_refs.specs.declared.outcome.Outcome.{Outcome}
use Rattle.cp_refs.specs.declared.route.Gate.{Gate}
use Rattle.cp_refs.specs.declared.values.QuestionState.{QuestionState}
use Rattle.cp_refs.specs.declared.values.QuestionKind.{QuestionKind}
use Rattle.cp_refs.specs.declared.values.QuestionKind.TheVariants as kinds
use Rattle.cp_vat_machine.specs.State.{State}
use Rattle.cp_vat_machine.specs.Then.{Done}
use Rattle.cp_vat_machine.specs.Writing.{IsExport}
use Rattle.cp_vat_machine.specs.Receiving.{release_exports}
use Rattle.cp_vat_machine.specs.Answering.{without_answer, AtStage, FinishedBy, OnFinish}
use Rattle.cp_vat_machine.specs.Calling.{mark_of, plain, on_wire, came_to, question_reference, path_reference}
use Rattle.cp_vat_machine.specs.Local.{Local, is_open_stage, AnswerIs, OwnIs, QuestionIs, is_wire, is_wire_kind, IsSentIf, IsPathMark}
use Rattle.cp_vat_machine.specs.declared.entry.AnswerEntry.{AnswerEntry}
use Rattle.cp_vat_machine.specs.declared.entry.QuestionEntry.{QuestionEntry}
use Rattle.cp_vat_machine.proofs.Basics.{some_out, none_out, ok_in, ok_out, then_out, is_equal, is_itself, gone_at}
use Rattle.cp_vat_laws.proofs.Tables.{there_of}
use Rattle.cp_vat_pair_laws.specs.Accounts.{accounts_of, asked_account, is_releasing, is_finish_noted}
use Rattle.cp_vat_pair_laws.specs.Ledger.{opens, finishes}
use Rattle.cp_vat_pair_laws.specs.VatPair.{End, with_mail}
use Rattle.cp_vat_pair_laws.specs.Lives.{Standing, absent, ungiven, left_ungiven, given, mistaken, opened, finished, standing_of, stands_after, will_stand, returns_of, FitsOpen, FitsReturned, FitsNone, FitsAt, Fits, Agree}
use Rattle.cp_vat_pair_laws.specs.Places.{NoneFinished}
use Rattle.cp_vat_pair_laws.specs.Lane.{Reference, import_, path_to, cap_of, CameTo, Delivery}
use Rattle.cp_vat_pair_laws.specs.Naming.{place_of, answered_cap}
use Rattle.cp_vat_pair_laws.specs.Phases.{tells, IsClosedPlace, EndsAt, IsAbsent, IsHostedThere, IsOnly, LeadsBack, Phase, absent as unheard, unopened, unsettled, told, free, marked, embargoed, echoed, local_open, IsElsewhere, came_to_other, told_other, hosted_there, InLane, LaneHolds}
use Rattle.cp_vat_pair_laws.proofs.counts.Standing.{after_by, stays_mistaken, never_fits}
use Rattle.cp_vat_pair_laws.proofs.still.Grows.{PlacesStay, ways_same, places_same, comes_import}
use Rattle.cp_vat_pair_laws.proofs.still.Receives.{unlowered}
use Rattle.cp_vat_pair_laws.proofs.lane.other.Phase.{another_phase}
use Rattle.cp_vat_pair_laws.proofs.lane.Calm.{any_mail, any_taken, none_of_front}
use Rattle.cp_vat_pair_laws.proofs.lane.other.Calm.{LevelThere, level_back, level_way}
use Rattle.cp_vat_pair_laws.proofs.lane.other.NoCallMoves.{part_there}
use Rattle.cp_vat_pair_laws.proofs.lane.other.Places.{place_stays}
use Rattle.cp_vat_pair_laws.proofs.lane.other.Chain.{IsThere, still_level, routes_import, ends_on, not_opened_at}
use Rattle.cp_vat_pair_laws.proofs.lane.own.Asks.{none_returned}
use Rattle.cp_vat_pair_laws.proofs.lane.other.Take.{nothing_sent, taken_known, take_there}
use Rattle.cp_vat_pair_laws.proofs.lane.other.CallComes.{HeardKept}
use Rattle.cp_vat_pair_laws.proofs.lane.other.ResolveComes.{plain_apart}
use Rattle.cp_vat_pair_laws.proofs.lane.other.Start.{StartsThere, known_there, held_there}

-- After the Finish of an answer that was given, none of its number is given until its next opening came.
abbrev IsNotGiven : Standing → Type 0
IsNotGiven (given mentions) = ⊥
IsNotGiven other = Unit {0}

not_given_opened : (st : Standing) → IsNotGiven (opened st)
not_given_opened absent = tt
not_given_opened ungiven = tt
not_given_opened left_ungiven = tt
not_given_opened (given mentions) = tt
not_given_opened mistaken = tt

not_given_finished : (release : Bool) (st : Standing) → IsNotGiven st → IsNotGiven (finished release st)
not_given_finished true absent is = tt
not_given_finished false absent is = tt
not_given_finished true ungiven is = tt
not_given_finished false ungiven is = tt
not_given_finished true left_ungiven is = tt
not_given_finished false left_ungiven is = tt
not_given_finished release (given mentions) is = absurd is
not_given_finished true mistaken is = tt
not_given_finished false mistaken is = tt

not_given_after : (o f r : Bool) (st : Standing) → IsNotGiven st → IsNotGiven (after_by o f r st)
not_given_after true f r st is = not_given_opened st
not_given_after false true r st is = not_given_finished r st is
not_given_after false false r st is = is

will_not_be_given : (q : ℕ) (ms : List Message) (st : Standing) → IsNotGiven st → IsNotGiven (will_stand q ms st)
will_not_be_given q [] st is = is
will_not_be_given q (m ∷ ms) st is = will_not_be_given q ms (stands_after q m st) (not_given_after (opens q m) (finishes q m) (is_releasing m) st is)

-- So no Return of a question of this number is on the way, nor did one come.
open_returns : (rs : List (List ℕ)) (st : Standing) → IsNotGiven st → FitsOpen rs st → rs ≡ []
open_returns [] st not_ fits = refl
open_returns (r ∷ []) absent not_ fits = absurd fits
open_returns (r ∷ []) ungiven not_ fits = absurd fits
open_returns (r ∷ []) left_ungiven not_ fits = absurd fits
open_returns (r ∷ []) (given mentions) not_ fits = absurd not_
open_returns (r ∷ []) mistaken not_ fits = absurd fits
open_returns (r ∷ (t ∷ rs)) st not_ fits = absurd fits

returned_given : (rs : List (List ℕ)) (st : Standing) → IsNotGiven st → FitsReturned rs st → ⊥
returned_given [] absent not_ fits = fits
returned_given [] ungiven not_ fits = fits
returned_given [] left_ungiven not_ fits = fits
returned_given [] (given mentions) not_ fits = not_
returned_given [] mistaken not_ fits = fits
returned_given (r ∷ rs) st not_ fits = fits

none_returns : (rs : List (List ℕ)) (st : Standing) → FitsNone rs st → rs ≡ []
none_returns [] st fits = refl
none_returns (r ∷ rs) st fits = absurd fits

abbrev IsUnreturned : Exchange QuestionEntry → Type 0
IsUnreturned entry = entry.kept.is_sent ≡ true → entry.stage ≡ stages.Returned → ⊥

at_returns : (stage : Stage) (rs : List (List ℕ)) (st : Standing) → is_finish_noted stage ≡ false → IsNotGiven st → FitsAt stage rs st
    → (rs ≡ []) × (stage ≡ stages.Returned → ⊥)
at_returns stages.Open rs st unfinished not_ fits = (open_returns rs st not_ fits, λ is. apart is)
  where
    apart : stages.Open ≡ stages.Returned → ⊥
    apart is = cc
at_returns stages.Finished rs st unfinished not_ fits = absurd (true≢false unfinished)
at_returns stages.Returned rs st unfinished not_ fits = absurd (returned_given rs st not_ fits)

asked_returns : (o : Option (Exchange QuestionEntry)) (rs : List (List ℕ)) (st : Standing) → IfSome o (λ entry. is_finish_noted entry.stage ≡ false) → IsNotGiven st
    → Fits (asked_account o) rs st → (rs ≡ []) × IfSome o IsUnreturned
asked_returns None rs st unfinished not_ fits = (none_returns rs st fits, tt)
asked_returns (Some entry) rs st unfinished not_ fits = by entry.kept.is_sent refl
  where
    by : (b : Bool) → entry.kept.is_sent ≡ b → (rs ≡ []) × IsUnreturned entry
    by true t =
        let at : FitsAt entry.stage rs st = rw t at fits in
        let out = at_returns entry.stage rs st unfinished not_ at in
        (out.0, λ sent. out.1)
    by false t =
        let at : FitsNone rs st = rw t at fits in
        (none_returns rs st at, λ sent is. true≢false (sym sent ∙ t))

-- A marked path that came to something is of a question whose Return came.
came_by : (path : List ℕ) (kind : QuestionKind) (o : Option Outcome) (value : Cap) → path_reference path kind o ≡ came_to value → (outcome : Outcome) × (o ≡ Some outcome)
came_by path kinds.Wire None value is = apart is
  where
    apart : {A : Type 0} → on_wire ≡ came_to value → A
    apart e = absurd (cc)
came_by path kinds.Local None value is = apart is
  where
    apart : {A : Type 0} → plain ≡ came_to value → A
    apart e = absurd (cc)
came_by path kind (Some outcome) value is = (outcome, refl)

returned_stage : (stage : Stage) → true ≡ not (is_open_stage stage) → stage ≡ stages.Returned
returned_stage stages.Open is = absurd (true≢false is)
returned_stage stages.Finished is = absurd (true≢false is)
returned_stage stages.Returned is = refl

module _ (s : State) (local_ : Local s) (a : ℕ) (path : List ℕ) (value : Cap) (came : CameTo s (path_to a path) value) (unreturned : IfSome (get s.entries.questions a) IsUnreturned) where
  own_returned : (forwards : Option ℕ) (stage : Stage) (kind : QuestionKind) (o : Option Outcome) → OwnIs forwards stage (Some (record { kind = kind; outcome = o }))
      → (outcome : Outcome) × (o ≡ Some outcome) → stage ≡ stages.Returned
  own_returned None stage kind o valued found = returned_stage stage (rw (found.1) at valued)
  own_returned (Some b) stage kind o valued found = absurd valued

  entry_not : (o : Option (Exchange QuestionEntry)) (question : QuestionState) → get s.entries.questions a ≡ o → get s.values.questions a ≡ Some question → is_wire_kind question.kind ≡ true
      → (outcome : Outcome) × (question.outcome ≡ Some outcome) → ⊥
  entry_not None question is at wire found = absurd (by (rw is at (rw at at (local_.questions_valued a))))
    where
      by : QuestionIs None (Some question) → ⊥
      by h = h
  entry_not (Some entry) question is at wire found =
      let valued : QuestionIs (Some entry) (Some question) = rw is at (rw at at (local_.questions_valued a)) in
      let sent_if = there_of (λ (e : Exchange QuestionEntry). IsSentIf (is_wire (get s.values.questions a)) e.kept) (get s.entries.questions a) entry is (local_.wire a) in
      let sent : IsSentIf true entry.kept = rw wire at (rw at at sent_if) in
      there_of IsUnreturned (get s.entries.questions a) entry is unreturned sent.0 (own_returned entry.kept.forwards entry.stage question.kind question.outcome valued found)

  question_not : (o : Option QuestionState) → get s.values.questions a ≡ o → is_wire o ≡ true → question_reference path o ≡ came_to value → ⊥
  question_not None at wire is = true≢false (sym wire)
  question_not (Some question) at wire is = entry_not (get s.entries.questions a) question refl at wire (came_by path question.kind question.outcome value is)

  unmarked : {A : Type 0} (mark : Option ℕ) → mark_of s (caps.Pipelined a path) ≡ Some mark → A
  unmarked mark is =
      let on = there_of (IsPathMark s (a ∷ path)) (get s.marks.paths (a ∷ path)) mark is (local_.path_marks (a ∷ path)) in
      absurd (question_not (get s.values.questions a) refl on.0 came)

-- An answer that was given is gone.
module _ (here : End) (s final : State) (rest : List Message) (known : IsThere here s s rest) (a : ℕ) (outcome : Outcome) (was : get s.values.answers a ≡ Some (Some outcome))
    (later : PlacesStay (without_answer s a) final) (held : (ref : Reference) (e : ℕ) → EndsAt final (place_of final ref) e → (cap : Cap) × IsExport here.vat e cap) where
  abbrev gone : State
  gone = without_answer s a

  abbrev before_it : End
  before_it = record { vat = s; inbox = rest }

  abbrev after_it : End
  after_it = record { vat = gone; inbox = rest }

  level : (made : List ℕ) → LevelThere here before_it made gone rest []
  level made = still_level here before_it made [] gone refl (λ q. refl) refl

  open_on : (q : ℕ) → get s.values.answers q ≡ Some None → get (remove s.values.answers a) q ≡ Some None
  open_on q open_ = by (a == q) refl
    where
      by : (b : Bool) → (a == q) ≡ b → get (remove s.values.answers a) q ≡ Some None
      by true t = none_out (some_out (sym open_ ∙ sym (ap (λ n. get s.values.answers n) (is_equal a q t)) ∙ was))
      by false t = gone_at s.values.answers a q false t ∙ open_

  open_was : (q : ℕ) → get (remove s.values.answers a) q ≡ Some None → get s.values.answers q ≡ Some None
  open_was q open_ = by (a == q) refl
    where
      by : (b : Bool) → (a == q) ≡ b → get s.values.answers q ≡ Some None
      by true t = none_out (sym (gone_at s.values.answers a q true t) ∙ open_)
      by false t = sym (gone_at s.values.answers a q false t) ∙ open_

  pub gone_known : IsThere here gone final rest
  gone_known =
      record {
        unopened = λ q open_. known.unopened q (open_was q open_);
        untold = known.untold;
        unmarked = known.unmarked;
        stay = later;
        held = held;
      }

  -- the place of any other reference
  abbrev IsApart : Reference → Type 0
  IsApart (import_ i) = Unit {0}
  IsApart (path_to q path) = (a == q) ≡ false

  other_absent : (ref : Reference) → IsAbsent here.vat s ref → IsAbsent here.vat gone ref
  other_absent (import_ i) none = none
  other_absent (path_to q path) none = none

  other_ends : (ref : Reference) → IsApart ref → (e : ℕ) → EndsAt s (place_of s ref) e → EndsAt gone (place_of gone ref) e
  other_ends ref other e at = by ref other at
    where
      on : (place : Option Cap) → EndsAt s place e → EndsAt gone place e
      on None at = at
      on (Some c) at = comes_import s.values gone.values (ways_same refl refl) c e at

      by : (r : Reference) → IsApart r → EndsAt s (place_of s r) e → EndsAt gone (place_of gone r) e
      by (import_ i) other at = on (place_of s (import_ i)) at
      by (path_to q path) other at = rw (gone_at s.values.answers a q false other) (on (answered_cap path (get s.values.answers q)) at)

  other_hosted : (ref : Reference) → IsHostedThere s ref → IsHostedThere gone ref
  other_hosted (import_ i) is = is
  other_hosted (path_to q path) is = is

  other_closed : (ref : Reference) → IsApart ref → IsClosedPlace s ref → IsClosedPlace gone ref
  other_closed (import_ i) other is = is
  other_closed (path_to q path) other is = (is.0, gone_at s.values.answers a q false other ∙ is.1)

  other_leads : (e : ℕ) (gate : Gate) → LeadsBack s e gate → LeadsBack gone e gate
  other_leads e gate is = (is.0, is.1, routes_import s.values gone.values (ways_same refl refl) is.0 e is.2)

  other_kept : (ref : Reference) (made : List ℕ) (delivered : List Delivery) → IsApart ref → LaneHolds here before_it ref made delivered → LaneHolds here after_it ref made delivered
  other_kept ref made delivered other lane =
      subst (λ h. LaneHolds h after_it ref made delivered) (nothing_sent here)
      (part_there here before_it ref made gone rest []
      (record {
        level = level made;
        place = place_stays s gone ref [] (λ e c is. is) (λ p is. is) open_on refl;
        absent_ = λ none. inl (other_absent ref none);
        ends_ = other_ends ref other;
        hosted = other_hosted ref;
        closed_ = other_closed ref other;
        leads_ = other_leads;
        held_there = λ e at. held ref e (ends_on gone final later ref e at);
        not_opened = not_opened_at here s s rest known ref;
        no_echo = λ n marked_. refl;
        front = inl refl;
      })
      delivered lane)

  -- its own
  module _ (path : List ℕ) (made : List ℕ) (delivered : List Delivery) (local_ : Local here.vat) (untold : list_any (tells (path_to a path)) here.inbox ≡ false)
      (unreturned : IfSome (get here.vat.entries.questions a) IsUnreturned) where
    abbrev its : Reference
    its = path_to a path

    not_told : {A : Type 0} (before after : List Message) (m : Message) → IsOnly here.inbox (tells its) before m after → A
    not_told before after m only = absurd (has before (sym (ap (list_any (tells its)) only.all) ∙ untold))
      where
        has : (xs : List Message) → list_any (tells its) (xs ++ m ∷ after) ≡ false → ⊥
        has [] none = true≢false (sym only.it ∙ none_of_front (tells its) m after none)
        has (x ∷ xs) none = has xs (any_taken (tells its) x (xs ++ m ∷ after) none)

    not_marked : {A : Type 0} (k : ℕ) (mark : Option ℕ) → CameTo here.vat its (caps.Object k) → mark_of here.vat (cap_of its) ≡ Some mark → A
    not_marked k mark came is = unmarked here.vat local_ a path (caps.Object k) came unreturned mark is

    its_phase : Phase here before_it its made → Phase (with_mail here []) after_it its made
    its_phase (unheard p) = unheard (record { none = p.none; unmade = p.unmade })
    its_phase (unopened p) =
        unopened
        (record {
          open_ = p.open_;
          before = p.before;
          opening = p.opening;
          after = p.after;
          only = p.only;
          sent_after = p.sent_after;
          mark = p.mark;
          untold = any_mail (tells its) here.inbox [] p.untold refl;
          no_back = level_back here before_it made gone rest [] (level made) ∙ p.no_back;
          no_waits = (level made).waiting ∙ p.no_waits;
          none_here = p.none_here;
        })
    its_phase (unsettled p) = none_out (some_out (sym p.open_.0 ∙ was))
    its_phase (told p) = not_told p.before p.after p.telling p.only
    its_phase (free p) =
        free
        (record {
          object = p.object;
          came = p.came;
          mark = p.mark;
          no_back = level_back here before_it made gone rest [] (level made) ∙ p.no_back;
          no_waits = (level made).waiting ∙ p.no_waits;
          no_way = level_way here before_it made gone rest [] (level made) ∙ p.no_way;
          waiting = p.waiting;
        })
    its_phase (marked p) = not_marked p.comes.object None p.comes.came p.mark
    its_phase (embargoed p) = not_marked p.comes.object (Some p.embargo) p.comes.came p.mark
    its_phase (echoed p) = not_marked p.comes.object (Some p.embargo) p.comes.came p.mark
    its_phase (local_open p) =
        local_open
        (record {
          gate = p.gate;
          open_ = p.open_;
          waiting = p.waiting;
          no_back = level_back here before_it made gone rest [] (level made) ∙ p.no_back;
          no_waits = (level made).waiting ∙ p.no_waits;
          no_way = level_way here before_it made gone rest [] (level made) ∙ p.no_way;
        })

    its_elsewhere : IsElsewhere here before_it its made → IsElsewhere here after_it its made
    its_elsewhere (came_to_other p) = came_to_other p
    its_elsewhere (told_other p) = not_told p.before p.after p.telling p.only
    its_elsewhere (hosted_there p) = absurd p.hosted

    its_kept : LaneHolds here before_it its made delivered → LaneHolds here after_it its made delivered
    its_kept (inl elsewhere) = inl (its_elsewhere elsewhere)
    its_kept (inr lane) =
        inr
        (subst (λ h. InLane h after_it its made delivered) (nothing_sent here)
        (another_phase here before_it its made gone rest [] (level made) delivered lane (its_phase lane.phase)))

  pub gone_kept : Local here.vat → ((path : List ℕ) → list_any (tells (path_to a path)) here.inbox ≡ false) → IfSome (get here.vat.entries.questions a) IsUnreturned
      → (ref : Reference) (made : List ℕ) (delivered : List Delivery) → LaneHolds here before_it ref made delivered → LaneHolds here after_it ref made delivered
  gone_kept local_ untold unreturned (import_ i) made delivered lane = other_kept (import_ i) made delivered tt lane
  gone_kept local_ untold unreturned (path_to q path) made delivered lane = by (a == q) refl
    where
      by : (b : Bool) → (a == q) ≡ b → LaneHolds here after_it (path_to q path) made delivered
      by true t =
          subst (λ n. LaneHolds here after_it (path_to n path) made delivered) (is_equal a q t)
          (its_kept path made delivered local_ (untold path) unreturned (subst (λ n. LaneHolds here before_it (path_to n path) made delivered) (sym (is_equal a q t)) lane))
      by false t = other_kept (path_to q path) made delivered t lane

-- From the rule. Its answer was given, or it would be mistaken.
module _ (here : End) (s final : State) (f : Finish) (rest sent : List Message) (starts : StartsThere here s (messages.Finish f ∷ rest)) (here_local : Local here.vat)
    (here_none : NoneFinished here.vat) (local_ : Local s) (agree : Agree (accounts_of s) (messages.Finish f ∷ rest) (accounts_of here.vat) here.inbox)
    (keeps : f.release_result_caps ≡ false) (final_local : Local final) (agree_then : Agree (accounts_of final) rest (accounts_of here.vat) sent) where
  abbrev a : ℕ
  a = f.question_id

  known : IsThere here s s (messages.Finish f ∷ rest)
  known = known_there here s s (messages.Finish f ∷ rest) (messages.Finish f ∷ rest) here.inbox starts (places_same refl refl) local_ agree

  stands_then : (st : Standing) → stands_after a (messages.Finish f) st ≡ finished false st
  stands_then st = rw (is_itself a, keeps) refl

  fits : (st : Standing) → standing_of ((accounts_of s).answers a) ≡ st → Fits ((accounts_of here.vat).questions a) (returns_of a here.inbox) (will_stand a rest (finished false st))
  fits st is =
      subst (λ x. Fits ((accounts_of here.vat).questions a) (returns_of a here.inbox) (will_stand a rest x)) (stands_then st)
      (subst (λ x. Fits ((accounts_of here.vat).questions a) (returns_of a here.inbox) (will_stand a rest (stands_after a (messages.Finish f) x))) is (agree.lives_back a))

  to_rest : (ref : Reference) (made : List ℕ) (delivered : List Delivery) → LaneHolds here (record { vat = s; inbox = messages.Finish f ∷ rest }) ref made delivered
      → LaneHolds here (record { vat = s; inbox = rest }) ref made delivered
  to_rest ref made delivered lane = take_there here s s (messages.Finish f) rest known ref made delivered (plain_apart here ref made (messages.Finish f) tt) lane

  given_at : (entry : Exchange AnswerEntry) → get s.entries.answers a ≡ Some entry → entry.stage ≡ stages.Returned → (outcome : Outcome) × (get s.values.answers a ≡ Some (Some outcome))
  given_at entry is at = by (get s.values.answers a) (rw is at (local_.answers_valued a))
    where
      by : (o : Option (Option Outcome)) → AnswerIs (Some entry) o → (outcome : Outcome) × (o ≡ Some (Some outcome))
      by None valued = absurd valued
      by (Some None) valued = absurd (true≢false (sym (valued ∙ ap (λ x. not (is_open_stage x)) at)))
      by (Some (Some outcome)) valued = (outcome, refl)

  leaves : (entry : Exchange AnswerEntry) → get s.entries.answers a ≡ Some entry → entry.stage ≡ stages.Returned → PlacesStay (without_answer s a) final
      → HeardKept here s (messages.Finish f ∷ rest) ([], without_answer s a) rest final
  leaves entry is at later =
      let stands : standing_of ((accounts_of s).answers a) ≡ given entry.kept.mentions = rw (is, at) refl in
      let returns_ = asked_returns (get here.vat.entries.questions a) (returns_of a here.inbox) (will_stand a rest absent) (here_none a) (will_not_be_given a rest absent tt)
      (fits (given entry.kept.mentions) stands) in
      let given_ = given_at entry is at in
      let held = held_there here.vat final rest sent final_local agree_then in
      let known_rest = taken_known here s s (messages.Finish f) rest known in (
        λ ref made delivered lane.
            subst (λ h. LaneHolds h (record { vat = without_answer s a; inbox = rest }) ref made delivered) (sym (nothing_sent here))
            (gone_kept here s final rest known_rest a given_.0 given_.1 later held here_local (λ path. none_returned a path here.inbox returns_.0) returns_.1 ref made delivered
            (to_rest ref made delivered lane)),
        subst (λ h. IsThere h (without_answer s a) final rest) (sym (nothing_sent here)) (gone_known here s final rest known_rest a given_.0 given_.1 later held),
      )

  at_stage : (entry : Exchange AnswerEntry) → get s.entries.answers a ≡ Some entry → (stage : Stage) → entry.stage ≡ stage → (done : Done) → AtStage s f entry.kept stage (Ok done)
      → PlacesStay done.1 final → HeardKept here s (messages.Finish f ∷ rest) done rest final
  at_stage entry is stages.Open at done does later =
      let stands : standing_of ((accounts_of s).answers a) ≡ ungiven = rw (is, at) refl in
      absurd (never_fits ((accounts_of here.vat).questions a) (returns_of a here.inbox) (rw (stays_mistaken a rest) at (fits ungiven stands)))
  at_stage entry is stages.Returned at done does later =
      let parts = then_out {A = Table (Counted Cap)} {B = Done}
      (λ exports. exports ≡ (if f.release_result_caps then release_exports s.counts.exports entry.kept.mentions else Ok s.counts.exports)) _ done does in
      let same = unlowered f.release_result_caps s entry.kept.mentions parts.0 keeps parts.1 in
      let same_done : done ≡ ([], without_answer s a) = ok_in _ _ parts.2 ∙ ap (λ x. ([], without_answer x a)) same in
      subst (λ d. HeardKept here s (messages.Finish f ∷ rest) d rest final) (sym same_done) (leaves entry is at (subst (λ d. PlacesStay d.1 final) same_done later))
  at_stage entry is stages.Finished at done does later = ok_out does

  pub on_finish_kept : (done : Done) → OnFinish s f (Ok done) → PlacesStay done.1 final → HeardKept here s (messages.Finish f ∷ rest) done rest final
  on_finish_kept done does later = by (get s.entries.answers a) refl does
    where
      by : (o : Option (Exchange AnswerEntry)) → get s.entries.answers a ≡ o → FinishedBy s f o (Ok done) → HeardKept here s (messages.Finish f ∷ rest) done rest final
      by None is does = ok_out does
      by (Some entry) is does = at_stage entry is entry.stage refl done does later
