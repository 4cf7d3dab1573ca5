-- A Return that comes keeps each lane of its own end: paths of its question are told, and one that forwarded a call has none.
-- `return_comes` says so of the message's own part, after which waiting calls leave.
use Rattle.std.specs.Prelude.{◌≡◌, refl, ℕ, ◌==◌, ◌||◌, not, if◌then◌else◌, Bool, true, false, List, [], ◌∷◌, ◌++◌, Option, Some, None, option_map, Result, Ok}
use Rattle.std.specs.List.{list_any}
use Rattle.std.specs.FinMap.{get, get-empty, get-retain_keys, slice_cmp-IsAntisymmetric, nat_cmp-IsAntisymmetric}
use Rattle.std.specs.Ordering.{nat_cmp}
use Rattle.std.proofs.Common.{inl, inr, ap, subst, sym, ◌∙◌, append-nil, true≢false}
use Rattle.std.proofs.lemmas.List.Folds.{list_any-append}
use Rattle.cp_tables.specs.Table.{Table}
use Rattle.cp_tables.specs.declared.counted.Counted.{Counted}
use Rattle.cp_tables.specs.declared.exchange.Exchange.{Exchange}
use Rattle.cp_tables.specs.declared.exchange.Stage.{Stage}
use Rattle.cp_tables.specs.declared.exchange.Stage.TheVariants as stages
use Rattle.cp_messages.specs.declared.descriptor.Descriptor.TheVariants as descriptors
use Rattle.cp_messages.specs.declared.message.Message.{Message}
use Rattle.cp_messages.specs.declared.message.Message.TheVariants as messages
use Rattle.cp_messages.specs.declared.returned.Return.{Return}
use Rattle.cp_refs.specs.At.{cap_at}
use Rattle.cp_refs.specs.declared.cap.Cap.{Cap}
use Rattle.cp_refs.specs.declared.cap.Cap.TheVariants as caps
use Rattle.cp_refs.specs.declared.outcome.Outcome.{Outcome}
use Rattle.cp_refs.specs.declared.route.Gate.{Gate}
use Rattle.cp_refs.specs.declared.route.Gate.TheVariants as gates
use Rattle.cp_refs.specs.declared.values.QuestionState.{QuestionState}
use Rattle.cp_refs.specs.declared.values.QuestionKind.{QuestionKind}
use Rattle.cp_refs.specs.declared.values.QuestionKind.TheVariants as kinds
use Rattle.cp_vat_machine.specs.State.{State, gave, none_over, with_exports}
use Rattle.cp_vat_machine.specs.Then.{Done, Then, fault_if, after}
use Rattle.cp_vat_machine.specs.Writing.{IsExport, mentions_of}
use Rattle.cp_vat_machine.specs.Receiving.{times, release_exports}
use Rattle.cp_vat_machine.specs.Give.{GiveAnswer, GiveOwnBy, question_settled, is_path_of, without_question}
use Rattle.cp_vat_machine.specs.Go.{finish_of}
use Rattle.cp_vat_machine.specs.Asking.{ReceivesReturned, Settles, ReturnBy, is_asked, ReturnOf, OnReturn}
use Rattle.cp_vat_machine.specs.Calling.{plain, on_wire, came_to, question_reference, reference_of, mark_of}
use Rattle.cp_vat_machine.specs.Local.{Local, is_wire, IsPathMark, QuestionIs, OwnIs}
use Rattle.cp_vat_machine.specs.declared.effect.Effect.{Effect}
use Rattle.cp_vat_machine.specs.declared.effect.Effect.TheVariants as effects
use Rattle.cp_vat_machine.specs.declared.entry.QuestionEntry.{QuestionEntry}
use Rattle.cp_vat_machine.specs.declared.fault.PeerFault.{PeerFault}
use Rattle.cp_vat_machine.specs.declared.fault.PeerFault.TheVariants as faults
use Rattle.cp_vat_machine.proofs.Basics.{some_out, none_out, ok_in, ok_out, then_out, unless_out, not_false, is_equal, is_itself, not_equal, other_number, put_at, gone_at, or_second}
use Rattle.cp_vat_laws.specs.Within.{Within}
use Rattle.cp_vat_laws.proofs.within.Between.{local_is_within}
use Rattle.cp_vat_laws.proofs.within.GiveOwn.{its_question}
use Rattle.cp_vat_laws.proofs.Tables.{there_of, no_faults, not_met}
use Rattle.cp_vat_pair_laws.specs.Accounts.{accounts_of, asked_account, is_finish_noted, taken_in}
use Rattle.cp_vat_pair_laws.specs.Ledger.{opens, named_by}
use Rattle.cp_vat_pair_laws.specs.Lives.{standing_of, will_stand, return_of, returns_of, Fits, Agree}
use Rattle.cp_vat_pair_laws.specs.Lane.{Reference, import_, path_to, cap_of, CameTo, own_ticket, Delivery}
use Rattle.cp_vat_pair_laws.specs.Naming.{returned_table, path_returned}
use Rattle.cp_vat_pair_laws.specs.Phases.{of_lane, opens_place, tells, told_by, IsOnly, IsYet, IsOther, GaveObject, Told, LocalOpen, Phase, absent, unopened, unsettled, told, free, marked, embargoed, echoed, local_open, came_to_other, told_other, hosted_there, InLane, LaneHolds}
use Rattle.cp_vat_pair_laws.specs.Places.{NoneFinished}
use Rattle.cp_vat_pair_laws.specs.VatPair.{End, messages_sent, with_mail}
use Rattle.cp_vat_pair_laws.proofs.still.Give.{answer_grows}
use Rattle.cp_vat_pair_laws.proofs.still.Receives.{unset, forwarded_may, TakenIn, returned_taken, unlowered}
use Rattle.cp_vat_pair_laws.proofs.lane.parts.Silent.{Silent, silent_none, answer_silent, own_silent}
use Rattle.cp_vat_pair_laws.proofs.lane.parts.Calm.{Calm, calm_none, none_open_over, answer_calm}
use Rattle.cp_vat_pair_laws.proofs.lane.own.NotOfLane.{stands_on, silent_here}
use Rattle.cp_vat_pair_laws.proofs.lane.parts.Lives.{returning_unopened}
use Rattle.cp_vat_pair_laws.proofs.lane.own.Reference.{RefCalm, ref_calm, IsPathOf, other_calm, path_comes, lane_stays}
use Rattle.cp_vat_pair_laws.proofs.lane.own.Phase.{tell_comes, local_given}
use Rattle.cp_vat_pair_laws.proofs.lane.OrderFollows.{local_plain}
use Rattle.cp_vat_pair_laws.proofs.lane.Calm.{only_front, none_of_front}
use Rattle.cp_vat_pair_laws.proofs.lane.own.Calm.{LevelHere, IsApartHere}
use Rattle.cp_vat_pair_laws.proofs.lane.other.Turn.{same_mail}
use Rattle.cp_vat_pair_laws.proofs.lane.own.Turn.{lane_delivered, none_delivered}
use Rattle.cp_vat_pair_laws.proofs.lane.other.Take.{nothing_sent}
use Rattle.cp_vat_pair_laws.proofs.lane.own.Take.{take_lane}
use Rattle.cp_vat_pair_laws.proofs.lane.own.Asks.{unmade_lane, unmade}
use Rattle.cp_vat_pair_laws.proofs.lane.own.NoCallMoves.{silent_lane}
use Rattle.cp_vat_pair_laws.proofs.lane.own.NextTicket.{are_other}
use Rattle.cp_vat_pair_laws.proofs.lane.own.ResolveComes.{IsTakenAs, same_export, other_taken, none_leads_back}
use Rattle.cp_vat_pair_laws.proofs.lane.own.ReturnTable.{path_taken, table_taken}

-- one of a kind isn't on the way where none is
not_only : {A : Type 0} (inbox : List Message) (is : Message → Bool) (before : List Message) (m : Message) (after : List Message) → list_any is inbox ≡ false
    → IsOnly inbox is before m after → A
not_only inbox is before m after none only =
    let all : (list_any is before || list_any is (m ∷ after)) ≡ false = sym (ap (list_any is) only.all ∙ list_any-append is before (m ∷ after)) ∙ none in
    absurd (true≢false (sym only.it ∙ none_of_front is m after (or_second (list_any is before) (list_any is (m ∷ after)) all)))

same_question : (question : QuestionState) (kind : QuestionKind) → question.kind ≡ kind → question.outcome ≡ None → question ≡ record { kind = kind; outcome = None }
same_question question kind is unset = rw (is, unset) refl

-- A question of the application's is given what a Return told.
module _ (s : State) (r : Return) (rest : List Message) (there : End) (made : List ℕ) (delivered : List Delivery) (outcome : Outcome) (question : QuestionState)
    (at : get s.values.questions r.answer_id ≡ Some question) (open_ : question.outcome ≡ None) (not_over : get s.waiting.over.questions r.answer_id ≡ None)
    (silent : Silent s (effects.Settled r.answer_id outcome ∷ []) (question_settled s r.answer_id outcome))
    (taken : (path : List ℕ) → IsTakenAs (path_returned path r.returned) s (cap_at outcome path)) (unopened_ : list_any (opens r.answer_id) there.inbox ≡ false)
    (none_there : there.vat.waiting.over ≡ none_over) (h : Within s None []) where
  abbrev q : ℕ
  q = r.answer_id

  abbrev message : Message
  message = messages.Return r

  abbrev here : End
  here = record { vat = s; inbox = message ∷ rest }

  abbrev mid : State
  mid = question_settled s q outcome

  abbrev here_then : End
  here_then = record { vat = mid; inbox = rest }

  level : LevelHere here there made mid rest []
  level = silent_here here there made mid rest (inr (message, refl, refl)) (effects.Settled q outcome ∷ []) silent

  -- references that aren't its paths
  other_given : (ref : Reference) → (IsPathOf q ref → ⊥) → tells ref message ≡ false → LaneHolds here there ref made delivered
      → LaneHolds here_then (with_mail there []) ref made delivered
  other_given ref not_ untold holds =
      let apart : IsApartHere here there ref made message = record { back_ = refl; tell = untold; echo = λ n is. refl } in
      let done = silent_lane here there ref made mid rest (effects.Settled q outcome ∷ []) silent (other_calm s q outcome not_over ref not_) (λ e cap is. is)
      (inr (message, refl, apart)) delivered holds in
      rw (append-nil delivered) at done

  module _ (path : List ℕ) where
    abbrev ref : Reference
    ref = path_to q path

    tells_it : tells ref message ≡ true
    tells_it = is_itself q

    came : CameTo mid ref (cap_at outcome path)
    came = path_comes s q outcome not_over path question at

    never_untold : {A : Type 0} → list_any (tells ref) here.inbox ≡ false → A
    never_untold none = absurd (true≢false (sym (ap (λ b. b || list_any (tells ref) rest) tells_it) ∙ none))

    -- one on the wire
    module _ (wire : question.kind ≡ kinds.Wire) where
      is_open : reference_of s.values (cap_of ref) ≡ on_wire
      is_open = ap (question_reference path) (at ∙ ap Some (same_question question kinds.Wire wire open_))

      never_came : {A : Type 0} (v : Cap) → CameTo s ref v → A
      never_came v is = apart (sym is_open ∙ is)
        where
          apart : {A : Type 0} → on_wire ≡ came_to v → A
          apart e = absurd (cc)

      never_local : {A : Type 0} → reference_of s.values (cap_of ref) ≡ plain → A
      never_local is = apart (sym is_open ∙ is)
        where
          apart : {A : Type 0} → on_wire ≡ plain → A
          apart e = absurd (cc)

      told_then : InLane here there ref made delivered → Told here there ref made → LaneHolds here_then (with_mail there []) ref made delivered
      told_then lane p =
          let front = only_front message rest (tells ref) p.before p.telling p.after p.only tells_it in
          let says : path_returned path r.returned ≡ Some (descriptors.ReceiverHosted p.number) = ap (told_by ref) (sym front.1) ∙ p.says in
          let mine : IsExport s p.number (cap_at outcome path) = rw says at (taken path) in
          let object : cap_at outcome path ≡ caps.Object p.object = same_export s p.number (cap_at outcome path) (caps.Object p.object) mine p.is_export in
          inr
          (tell_comes here there ref made mid rest [] level message refl tells_it p (came ∙ ap came_to object) refl (λ e cap is. is)
          (none_leads_back here there made p.number none_there p.waiting) delivered lane)

      wire_given : LaneHolds here there ref made delivered → LaneHolds here_then (with_mail there []) ref made delivered
      wire_given (inl (came_to_other p)) = never_came p.0 p.1
      wire_given (inl (told_other p)) =
          let front = only_front message rest (tells ref) p.before p.telling p.after p.only tells_it in
          let says : IsOther s (path_returned path r.returned) = rw front.1 at p.says in
          inl (came_to_other (cap_at outcome path, came, other_taken s (path_returned path r.returned) (cap_at outcome path) (taken path) says))
      wire_given (inl (hosted_there p)) = never_untold p.untold
      wire_given (inr lane) = by lane.phase
        where
          by : Phase here there ref made → LaneHolds here_then (with_mail there []) ref made delivered
          by (absent p) = none_out (sym p.none ∙ at)
          by (unopened p) = not_only there.inbox (opens_place ref) p.before p.opening p.after unopened_ p.only
          by (unsettled p) = never_untold p.untold
          by (told p) = told_then lane p
          by (free p) = never_came (caps.Object p.object) p.came
          by (marked p) = never_came (caps.Object p.comes.object) p.comes.came
          by (embargoed p) = never_came (caps.Object p.comes.object) p.comes.came
          by (echoed p) = never_came (caps.Object p.comes.object) p.comes.came
          by (local_open p) = never_local (local_plain s ref p.gate p.open_)

    -- one whose call waited here before it was sent
    module _ (local_ : question.kind ≡ kinds.Local) where
      question_is : get s.values.questions q ≡ Some (record { kind = kinds.Local; outcome = None })
      question_is = at ∙ ap Some (same_question question kinds.Local local_ open_)

      is_plain : reference_of s.values (cap_of ref) ≡ plain
      is_plain = ap (question_reference path) question_is

      never_open : {A : Type 0} → reference_of s.values (cap_of ref) ≡ on_wire → A
      never_open is = apart (sym is_plain ∙ is)
        where
          apart : {A : Type 0} → plain ≡ on_wire → A
          apart e = absurd (cc)

      never_gone : {A : Type 0} (v : Cap) → CameTo s ref v → A
      never_gone v is = apart (sym is_plain ∙ is)
        where
          apart : {A : Type 0} → plain ≡ came_to v → A
          apart e = absurd (cc)

      never_yet : {A : Type 0} → IsYet s ref made → A
      never_yet (inl is) = never_open is
      never_yet (inr unheld) = absurd unheld

      unmarked : mark_of mid (cap_of ref) ≡ None
      unmarked = by (get s.marks.paths (q ∷ path)) refl
        where
          by : (o : Option (Option ℕ)) → get s.marks.paths (q ∷ path) ≡ o → get s.marks.paths (q ∷ path) ≡ None
          by None is = is
          by (Some mark) is =
              let on = there_of (IsPathMark s (q ∷ path)) (get s.marks.paths (q ∷ path)) mark is (h.path_marks (q ∷ path)) in
              absurd (true≢false (sym on.0 ∙ ap is_wire question_is))

      gate_gave : (gate : Gate) → gate ≡ gates.Question q path → gave mid.waiting.over gate ≡ Some (cap_at outcome path)
      gate_gave gate is =
          ap (gave mid.waiting.over) is
          ∙ ap (option_map (λ (x : Outcome). cap_at x path)) (put_at s.waiting.over.questions q q outcome true (is_itself q))

      waited_then : InLane here there ref made delivered → LocalOpen here there ref made → (value : Cap) → cap_at outcome path ≡ value
          → LaneHolds here_then (with_mail there []) ref made delivered
      waited_then lane p (caps.Object k) is =
          let gave_ : GaveObject mid k p.gate = gate_gave p.gate p.open_.1 ∙ ap Some is in
          inr (local_given here there ref made mid rest [] level p k (came ∙ ap came_to is) unmarked gave_ delivered lane)
      waited_then lane p caps.None is = inl (came_to_other (caps.None, came ∙ ap came_to is, λ x. x))
      waited_then lane p (caps.Promise n) is = inl (came_to_other (caps.Promise n, came ∙ ap came_to is, λ x. x))
      waited_then lane p (caps.Import i) is = inl (came_to_other (caps.Import i, came ∙ ap came_to is, λ x. x))
      waited_then lane p (caps.Pipelined n other) is = inl (came_to_other (caps.Pipelined n other, came ∙ ap came_to is, λ x. x))
      waited_then lane p (caps.Broken x) is = inl (came_to_other (caps.Broken x, came ∙ ap came_to is, λ x. x))

      local_then : LaneHolds here there ref made delivered → LaneHolds here_then (with_mail there []) ref made delivered
      local_then (inl (came_to_other p)) = never_gone p.0 p.1
      local_then (inl (told_other p)) = never_yet p.yet
      local_then (inl (hosted_there p)) = never_yet p.yet
      local_then (inr lane) = by lane.phase
        where
          by : Phase here there ref made → LaneHolds here_then (with_mail there []) ref made delivered
          by (absent p) = none_out (sym p.none ∙ at)
          by (unopened p) = never_open p.open_
          by (unsettled p) = never_yet p.yet
          by (told p) = never_yet p.yet
          by (free p) = never_gone (caps.Object p.object) p.came
          by (marked p) = never_gone (caps.Object p.comes.object) p.comes.came
          by (embargoed p) = never_gone (caps.Object p.comes.object) p.comes.came
          by (echoed p) = never_gone (caps.Object p.comes.object) p.comes.came
          by (local_open p) = waited_then lane p (cap_at outcome path) refl

    path_given : (kind : QuestionKind) → question.kind ≡ kind → LaneHolds here there ref made delivered → LaneHolds here_then (with_mail there []) ref made delivered
    path_given kinds.Wire is holds = wire_given is holds
    path_given kinds.Local is holds = local_then is holds

  returned_lane : (any : Reference) → LaneHolds here there any made delivered → LaneHolds here_then (with_mail there []) any made delivered
  returned_lane (import_ i) holds = other_given (import_ i) (λ is. is) refl holds
  returned_lane (path_to p path) holds = by (q == p) refl
    where
      by : (b : Bool) → (q == p) ≡ b → LaneHolds here_then (with_mail there []) (path_to p path) made delivered
      by true t =
          let same : q ≡ p = is_equal q p t in
          let done = path_given path question.kind refl (subst (λ n. LaneHolds here there (path_to n path) made delivered) (sym same) holds) in
          subst (λ n. LaneHolds here_then (with_mail there []) (path_to n path) made delivered) same done
      by false t = other_given (path_to p path) (λ is. not_equal q p t is) t holds

-- A question that forwarded a call is gone, and finished; then its answer is given.
module _ (s : State) (r : Return) (rest : List Message) (there : End) (made : List ℕ) (delivered : List Delivery) (a : ℕ) (entry : Exchange QuestionEntry)
    (is : get s.entries.questions r.answer_id ≡ Some entry) (forwards : entry.kept.forwards ≡ Some a) (h : Within s None []) (still : s.waiting.over ≡ none_over)
    (outcome : Outcome) (x : Done) (gives : GiveAnswer (without_question s r.answer_id) a outcome (Ok x)) where
  abbrev q_ : ℕ
  q_ = r.answer_id

  abbrev before_it : End
  before_it = record { vat = s; inbox = messages.Return r ∷ rest }

  abbrev left : End
  left = record { vat = s; inbox = rest }

  abbrev gone : State
  gone = without_question s q_

  abbrev finish : List Effect
  finish = finish_of q_ false ∷ []

  abbrev there_told : End
  there_told = with_mail there (messages_sent finish)

  unvalued : get s.values.questions q_ ≡ None
  unvalued = by (get s.values.questions q_) (rw is at (h.questions_valued q_))
    where
      none_own : (o : Option QuestionState) → OwnIs (Some a) entry.stage o → o ≡ None
      none_own None valued = refl
      none_own (Some question) valued = absurd valued

      by : (o : Option QuestionState) → QuestionIs (Some entry) o → o ≡ None
      by o valued = none_own o (rw forwards at valued)

  ticket_none : own_ticket (get s.entries.questions q_) ≡ []
  ticket_none = rw (is, forwards) refl

  tickets : (p : ℕ) → own_ticket (get gone.entries.questions p) ≡ own_ticket (get s.entries.questions p)
  tickets p = by (q_ == p) refl
    where
      by : (b : Bool) → (q_ == p) ≡ b → own_ticket (get gone.entries.questions p) ≡ own_ticket (get s.entries.questions p)
      by true t = ap own_ticket (gone_at s.entries.questions q_ p true t) ∙ sym (ap (λ n. own_ticket (get s.entries.questions n)) (sym (is_equal q_ p t)) ∙ ticket_none)
      by false t = ap own_ticket (gone_at s.entries.questions q_ p false t)

  gone_level : LevelHere left there made gone rest (messages_sent finish)
  gone_level =
      record {
        tickets = λ p. ap (of_lane made) (tickets p);
        waiting = refl;
        calls = λ ticket call at. inr at;
        held = λ none ticket call at. ap (of_lane made) (stands_on s gone there.vat tickets call.origin) ∙ none ticket call at;
        sends = (refl, tt);
        taken = inl refl;
      }

  mark_left : (p : ℕ) (path : List ℕ) → (q_ == p) ≡ false → get gone.marks.paths (p ∷ path) ≡ get s.marks.paths (p ∷ path)
  mark_left p path other =
      get-retain_keys s.marks.paths (λ key. not (is_path_of q_ key)) (p ∷ path)
      (λ y tie. ap (λ k. not (is_path_of q_ k)) (sym (slice_cmp-IsAntisymmetric nat_cmp-IsAntisymmetric (p ∷ path) y tie)))
      ∙ rw (other_number q_ p other) refl

  gone_calm : (ref : Reference) → (IsPathOf q_ ref → ⊥) → RefCalm s finish gone ref
  gone_calm (import_ i) not_ =
      record {
        same = refl;
        unheld = λ m at. at;
        absent_ = λ t at. at;
        local_ = λ gate at. absurd at;
        mark = refl;
        gave_ = λ gate cap at. at;
        no_open = λ at. refl;
        no_loop = λ n. refl;
      }
  gone_calm (path_to p path) not_ =
      let other = are_other q_ p not_ in
      let same = gone_at s.values.questions q_ p false other in
      record {
        same = ap (question_reference path) same;
        unheld = λ m at. absurd at;
        absent_ = λ t at. same ∙ at;
        local_ = λ gate at. (rw (same) at.0, at.1);
        mark = mark_left p path other;
        gave_ = λ gate cap at. at;
        no_open = λ at. refl;
        no_loop = λ n. refl;
      }

  -- what it gives its answer
  given_silent : Silent gone x.0 x.1
  given_silent = answer_silent gone a outcome x gives

  given_calm : Calm gone x.0 x.1
  given_calm =
      answer_calm gone a outcome x (none_open_over h) (ap (λ o. get o.answers a) still ∙ get-empty {X = Outcome} nat_cmp a)
      (λ other at. (forwarded_may h q_ a entry is forwards).1 other at) gives

  exports : (e : ℕ) (cap : Cap) → IsExport gone e cap → IsExport x.1 e cap
  exports = (answer_grows gone a outcome x h.one_export (forwarded_may h q_ a entry is forwards) gives).places.exports

  abbrev GivenThen : Reference → Type 0
  GivenThen ref =
      LaneHolds (record { vat = x.1; inbox = rest }) (with_mail there (messages_sent (after finish x).0)) ref made
      (delivered ++ lane_delivered s there.vat made (after finish x).0)

  none_here : (old : State) → lane_delivered old there.vat made x.0 ≡ []
  none_here old = none_delivered old there.vat made x.0 given_silent.no_delivery

  none_all : lane_delivered s there.vat made (after finish x).0 ≡ []
  none_all = none_delivered s there.vat made (after finish x).0 given_silent.no_delivery

  other_forwarded : (ref : Reference) → (IsPathOf q_ ref → ⊥) → tells ref (messages.Return r) ≡ false → LaneHolds before_it there ref made delivered → GivenThen ref
  other_forwarded ref not_ untold holds =
      let apart : IsApartHere before_it there ref made (messages.Return r) = record { back_ = refl; tell = untold; echo = λ n at. refl } in
      let first = silent_lane before_it there ref made s rest [] (silent_none s) (ref_calm ref (calm_none s)) (λ e cap at. at) (inr (messages.Return r, refl, apart)) delivered holds in
      let taken : LaneHolds left there ref made delivered = rw (append-nil delivered, nothing_sent there) at first in
      let told_ = lane_stays left there ref made gone finish (gone_calm ref not_) (λ e cap at. at) gone_level delivered taken in
      let last = silent_lane (record { vat = gone; inbox = rest }) there_told ref made x.1 rest x.0 given_silent (ref_calm ref given_calm) exports (inl refl) delivered told_ in
      rw (none_all, ← same_mail there finish x.0 (after finish x).0 refl) (rw (none_here gone) at last)

  path_forwarded : (path : List ℕ) → LaneHolds before_it there (path_to q_ path) made delivered → GivenThen (path_to q_ path)
  path_forwarded path holds =
      let nothing = unmade before_it there q_ path made delivered unvalued holds in
      let none : get x.1.values.questions q_ ≡ None = ap (λ m. get m q_) given_calm.questions ∙ gone_at s.values.questions q_ q_ true (is_itself q_) in
      rw
      (none_all, nothing.0, nothing.1)
      (inr
      (unmade_lane (record { vat = x.1; inbox = rest }) (with_mail there (messages_sent (after finish x).0)) (path_to q_ path)
      (absent (record { none = none; unmade = refl }))))

  forwarded_lane : (ref : Reference) → LaneHolds before_it there ref made delivered → GivenThen ref
  forwarded_lane (import_ i) holds = other_forwarded (import_ i) (λ at. at) refl holds
  forwarded_lane (path_to p path) holds = by (q_ == p) refl
    where
      by : (b : Bool) → (q_ == p) ≡ b → GivenThen (path_to p path)
      by true t =
          let same : q_ ≡ p = is_equal q_ p t in
          let done = path_forwarded path (subst (λ n. LaneHolds before_it there (path_to n path) made delivered) (sym same) holds) in
          subst (λ n. GivenThen (path_to n path)) same done
      by false t = other_forwarded (path_to p path) (λ at. not_equal q_ p t at) t holds

-- A question that waits for its Return is open, where none was finished.
pub asked_open : (s : State) → NoneFinished s → (q : ℕ) (entry : Exchange QuestionEntry) → get s.entries.questions q ≡ Some entry → (stage : Stage) → entry.stage ≡ stage
    → is_asked entry.kept.is_sent stage ≡ true → (entry.stage ≡ stages.Open) × (entry.kept.is_sent ≡ true)
asked_open s none q entry is stages.Open at asked = (at, asked)
asked_open s none q entry is stages.Finished at asked =
    let not_ = there_of (λ (e : Exchange QuestionEntry). is_finish_noted e.stage ≡ false) (get s.entries.questions q) entry is (none q) in
    absurd (true≢false (sym (ap is_finish_noted at) ∙ not_))
asked_open s none q entry is stages.Returned at asked = absurd (true≢false (sym asked))

-- A question whose Return comes fits its answer at the other end, which was given.
module _ (s : State) (r : Return) (rest : List Message) (there : End) (agree : Agree (accounts_of s) (messages.Return r ∷ rest) (accounts_of there.vat) there.inbox)
    (entry : Exchange QuestionEntry) (is : get s.entries.questions r.answer_id ≡ Some entry) (open_ : entry.stage ≡ stages.Open) (is_sent : entry.kept.is_sent ≡ true) where
  pub returned_account : asked_account (get s.entries.questions r.answer_id) ≡ Some (record { stage = stages.Open; kept = entry.kept.mentions })
  returned_account = rw (is, is_sent, open_) refl

  pub returned_fits : Fits (Some (record { stage = stages.Open; kept = entry.kept.mentions })) (named_by (messages.Return r) ∷ returns_of r.answer_id rest)
      (will_stand r.answer_id there.inbox (standing_of ((accounts_of there.vat).answers r.answer_id)))
  returned_fits =
      let fits : Fits (asked_account (get s.entries.questions r.answer_id)) (returns_of r.answer_id (messages.Return r ∷ rest))
      (will_stand r.answer_id there.inbox (standing_of ((accounts_of there.vat).answers r.answer_id))) = agree.lives r.answer_id in
      let first : return_of r.answer_id (messages.Return r) ≡ named_by (messages.Return r) ∷ [] =
      ap (λ b. if b then (named_by (messages.Return r) ∷ []) else []) (is_itself r.answer_id) in
      rw (returned_account, first) at fits

-- from the rule
module _ (s : State) (r : Return) (rest : List Message) (there : End) (ref : Reference) (made : List ℕ) (delivered : List Delivery) (local_ : Local s) (none : NoneFinished s)
    (agree : Agree (accounts_of s) (messages.Return r ∷ rest) (accounts_of there.vat) there.inbox) (none_there : there.vat.waiting.over ≡ none_over) where
  abbrev returned_here : End
  returned_here = record { vat = s; inbox = messages.Return r ∷ rest }

  abbrev ReturnedThen : List Effect → State → Type 0
  ReturnedThen done new = LaneHolds (record { vat = new; inbox = rest }) (with_mail there (messages_sent done)) ref made (delivered ++ lane_delivered s there.vat made done)

  h : Within s None []
  h = local_is_within s local_

  -- its question was sent, and is open
  module _ (entry : Exchange QuestionEntry) (is : get s.entries.questions r.answer_id ≡ Some entry) (open_ : entry.stage ≡ stages.Open) (is_sent : entry.kept.is_sent ≡ true) where
    account : asked_account (get s.entries.questions r.answer_id) ≡ Some (record { stage = stages.Open; kept = entry.kept.mentions })
    account = returned_account s r rest there agree entry is open_ is_sent

    unopened_ : list_any (opens r.answer_id) there.inbox ≡ false
    unopened_ =
        returning_unopened r.answer_id entry.kept.mentions (named_by (messages.Return r)) (returns_of r.answer_id rest) there.inbox
        (standing_of ((accounts_of there.vat).answers r.answer_id)) (returned_fits s r rest there agree entry is open_ is_sent)

    module _ (taken : Outcome × State) (takes : ReceivesReturned s r.returned (Ok taken)) where
      abbrev t : State
      t = taken.1

      well : TakenIn s taken.1
      well = returned_taken s r.returned taken h local_.none_over_ takes

      named : (i : ℕ) → times i (mentions_of (returned_table r.returned)) ≡ times i (taken_in (accounts_of s).questions (messages.Return r))
      named i = rw (account) (ap (times i) (table_taken s r.returned taken takes).named)

      taken_holds : LaneHolds returned_here there ref made delivered → LaneHolds (record { vat = t; inbox = messages.Return r ∷ rest }) there ref made delivered
      taken_holds holds =
          let table = table_taken s r.returned taken takes in
          take_lane s t (messages.Return r) rest there ref made (returned_table r.returned) well.grows table.back table.counted named agree h well.within delivered holds

      asked_t : get t.entries.questions r.answer_id ≡ Some entry
      asked_t = ap (λ m. get m r.answer_id) well.grows.asked ∙ is

      over_t : t.waiting.over ≡ none_over
      over_t = ap (λ x. x.over) well.grows.waiting ∙ local_.none_over_

      none_t : NoneFinished t
      none_t p = rw (well.grows.asked) (none p)

      -- one of the application's
      own_then : entry.kept.forwards ≡ None → (done : Done) → GiveOwnBy t r.answer_id taken.0 stages.Open (Ok done) → LaneHolds returned_here there ref made delivered
          → ReturnedThen done.0 done.1
      own_then own done gives holds =
          let its = its_question entry.kept.forwards entry.stage (get t.values.questions r.answer_id) own (rw asked_t at (well.within.questions_valued r.answer_id)) in
          let unset_ = unset well.within r.answer_id entry asked_t (rw (open_) refl) its.0 its.1 in
          let same = ok_in _ _ gives in
          let gives_own : GiveOwnBy t r.answer_id taken.0 entry.stage (Ok (effects.Settled r.answer_id taken.0 ∷ [], question_settled t r.answer_id taken.0)) = rw (open_) refl in
          let silent = own_silent t r.answer_id taken.0 (effects.Settled r.answer_id taken.0 ∷ [], question_settled t r.answer_id taken.0) none_t (entry, asked_t, gives_own) in
          rw
          (same, append-nil delivered)
          (returned_lane t r rest there made delivered taken.0 its.0 its.1 unset_ (ap (λ o. get o.questions r.answer_id) over_t ∙ get-empty {X = Outcome} nat_cmp r.answer_id) silent
          (path_taken s r.returned taken h local_.none_over_ agree.usual.0.1.1 takes) unopened_ none_there well.within ref (taken_holds holds))

      settles_then : (forwards : Option ℕ) → entry.kept.forwards ≡ forwards → (done : Done) → Settles t r.answer_id forwards taken.0 (Ok done)
          → LaneHolds returned_here there ref made delivered → ReturnedThen done.0 done.1
      settles_then None own done gives holds =
          let same : gives.0 ≡ entry = some_out (sym gives.1 ∙ asked_t) in
          own_then own done (rw (ap (λ (e : Exchange QuestionEntry). e.stage) same ∙ open_) at gives.2) holds
      settles_then (Some a) forwards done gives holds =
          let parts = then_out {A = Done} {B = Done} (GiveAnswer (without_question t r.answer_id) a taken.0) _ done gives in
          let there_none : lane_delivered t there.vat made done.0 ≡ lane_delivered s there.vat made done.0 = ap (λ x. x) (delivered_same parts.0 parts.1 done (ok_in _ _ parts.2)) in
          let last = forwarded_lane t r rest there made delivered a entry asked_t forwards well.within over_t taken.0 parts.0 parts.1 ref (taken_holds holds) in
          rw (← there_none) (subst (λ (d : Done). LaneHolds (record { vat = d.1; inbox = rest }) (with_mail there (messages_sent d.0)) ref made (delivered ++ lane_delivered t there.vat made d.0))
          (sym (ok_in _ _ parts.2)) last)
        where
          delivered_same : (x : Done) → GiveAnswer (without_question t r.answer_id) a taken.0 (Ok x) → (done : Done) → done ≡ after (finish_of r.answer_id false ∷ []) x
              → lane_delivered t there.vat made done.0 ≡ lane_delivered s there.vat made done.0
          delivered_same x gives_ done same =
              let silent = answer_silent (without_question t r.answer_id) a taken.0 x gives_ in
              rw
              (same)
              (none_delivered t there.vat made (after (finish_of r.answer_id false ∷ []) x).0 silent.no_delivery
              ∙ sym (none_delivered s there.vat made (after (finish_of r.answer_id false ∷ []) x).0 silent.no_delivery))

    return_by : (stage : Stage) → entry.stage ≡ stage → (done : Done) → ReturnBy s r entry.kept stage (Ok done) → LaneHolds returned_here there ref made delivered
        → ReturnedThen done.0 done.1
    return_by stages.Open at done does holds =
        let parts = then_out {A = Outcome × State} {B = Done} (ReceivesReturned s r.returned) _ done does in
        settles_then parts.0 parts.1 entry.kept.forwards refl done parts.2 holds
    return_by stages.Finished at done does holds = absurd (apart (sym open_ ∙ at))
      where
        apart : stages.Open ≡ stages.Finished → ⊥
        apart e = cc
    return_by stages.Returned at done does holds = absurd does

  return_of_ : (o : Option (Exchange QuestionEntry)) → get s.entries.questions r.answer_id ≡ o → (done : Done) → ReturnOf s r o (Ok done)
      → LaneHolds returned_here there ref made delivered → ReturnedThen done.0 done.1
  return_of_ None is done does holds = ok_out does
  return_of_ (Some entry) is done does holds =
      let Rule : Result Done PeerFault → Type 0 =
      Then (λ exports. exports ≡ (if r.release_param_caps then release_exports s.counts.exports entry.kept.mentions else Ok s.counts.exports))
      (λ exports. ReturnBy (with_exports s exports) r entry.kept entry.stage) in
      let test = fault_if (not (is_asked entry.kept.is_sent entry.stage)) faults.UnknownQuestion in
      let rule = unless_out {A = Done} {F = PeerFault} test Rule done does in
      let asked = not_false _ (not_met (not (is_asked entry.kept.is_sent entry.stage)) faults.UnknownQuestion (no_faults {A = Done} {F = PeerFault} test Rule done does)) in
      let is_open = asked_open s none r.answer_id entry is entry.stage refl asked in
      let lowers = then_out {A = Table (Counted Cap)} {B = Done}
      (λ exports. exports ≡ (if r.release_param_caps then release_exports s.counts.exports entry.kept.mentions else Ok s.counts.exports)) _ done rule in
      let same = unlowered r.release_param_caps s entry.kept.mentions lowers.0 agree.usual.0.1.0 lowers.1 in
      return_by entry is is_open.0 is_open.1 entry.stage refl done (rw same at lowers.2) holds

  pub return_comes : (done : Done) → OnReturn s r (Ok done) → LaneHolds returned_here there ref made delivered → ReturnedThen done.0 done.1
  return_comes done does holds = return_of_ (get s.entries.questions r.answer_id) refl done does holds
