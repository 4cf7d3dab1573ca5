-- The echo of a Disembargo that comes keeps each lane of its own end: the calls that wait at its embargo may go.
use Rattle.std.specs.Prelude.{◌≡◌, refl, ℕ, ◌==◌, ◌||◌, not, cond, ◌++◌, Bool, true, false, List, [], ◌∷◌, Option, Some, None, is_some, Ok}
use Rattle.std.specs.List.{list_any}
use Rattle.std.specs.FinMap.{get, insert, get-empty, get-retain_keys, slice_cmp-IsAntisymmetric, nat_cmp-IsAntisymmetric}
use Rattle.std.specs.Ordering.{nat_cmp}
use Rattle.std.proofs.Common.{inl, inr, ap, sym, ◌∙◌, append-nil, true≢false}
use Rattle.cp_messages.specs.declared.disembargo.DisembargoContext.TheVariants as contexts
use Rattle.cp_messages.specs.declared.message.Message.{Message}
use Rattle.cp_messages.specs.declared.message.Message.TheVariants as messages
use Rattle.cp_messages.specs.declared.target.Target.{Target}
use Rattle.cp_refs.specs.At.{cap_at}
use Rattle.cp_refs.specs.declared.cap.Cap.{Cap}
use Rattle.cp_refs.specs.declared.cap.Cap.TheVariants as caps
use Rattle.cp_refs.specs.declared.outcome.Outcome.{Outcome}
use Rattle.cp_refs.specs.declared.route.Gate.{Gate}
use Rattle.cp_refs.specs.declared.route.Gate.TheVariants as gates
use Rattle.cp_refs.specs.declared.values.QuestionState.{QuestionState}
use Rattle.cp_refs.specs.declared.values.QuestionKind.{QuestionKind}
use Rattle.cp_refs.specs.declared.values.QuestionKind.TheVariants as kinds
use Rattle.cp_vat_machine.specs.State.{State, gave}
use Rattle.cp_vat_machine.specs.Then.{Done}
use Rattle.cp_vat_machine.specs.Calling.{plain, came_to, import_reference, path_reference, question_reference, reference_of, mark_of}
use Rattle.cp_vat_machine.specs.Local.{Local, import_value, path_value, IsEmbargoOf, IsImportMark, IsPathMark}
use Rattle.cp_vat_machine.specs.Resolving.{is_under, embargo_ended, ended_by, OnDisembargo}
use Rattle.cp_vat_machine.specs.declared.effect.Effect.{Effect}
use Rattle.cp_vat_machine.proofs.Basics.{some_out, none_out, ok_in, ok_out, is_equal, is_itself, put_at}
use Rattle.cp_vat_laws.proofs.Tables.{there_of}
use Rattle.cp_vat_pair_laws.specs.VatPair.{End, messages_sent, with_mail}
use Rattle.cp_vat_pair_laws.specs.Lane.{Reference, import_, path_to, cap_of, CameTo, Delivery}
use Rattle.cp_vat_pair_laws.specs.Naming.{is_echo}
use Rattle.cp_vat_pair_laws.specs.Phases.{IsYet, IsMarkedIf, GaveObject, tells, Echoed, Phase, absent, unopened, unsettled, told, free, marked, embargoed, echoed, local_open, IsElsewhere, came_to_other, told_other, hosted_there, InLane, LaneHolds}
use Rattle.cp_vat_pair_laws.proofs.lane.OrderFollows.{absent_plain, local_plain}
use Rattle.cp_vat_pair_laws.proofs.lane.Calm.{only_taken, any_taken}
use Rattle.cp_vat_pair_laws.proofs.lane.own.Calm.{LevelHere, IsApartHere}
use Rattle.cp_vat_pair_laws.proofs.lane.own.Phase.{echo_comes}
use Rattle.cp_vat_pair_laws.proofs.lane.parts.Silent.{Silent, bearing_same}
use Rattle.cp_vat_pair_laws.proofs.lane.own.NotOfLane.{silent_here}
use Rattle.cp_vat_pair_laws.proofs.lane.own.Reference.{RefCalm}
use Rattle.cp_vat_pair_laws.proofs.lane.own.NoCallMoves.{silent_lane}
use Rattle.cp_vat_pair_laws.proofs.lane.own.Turn.{lane_delivered}

-- what a reference came to
abbrev value_of : State → Reference → Option Cap
value_of s (import_ i) = import_value (get s.values.imports i)
value_of s (path_to q path) = path_value (get s.values.questions q) path

import_came : (o : Option (Option Cap)) (v : Cap) → import_reference o ≡ came_to v → import_value o ≡ Some v
import_came None v is = absurd (cc)
import_came (Some None) v is = absurd (cc)
import_came (Some (Some w)) v is = ap Some (out is)
  where
    out : came_to w ≡ came_to v → w ≡ v
    out e = cc

import_plain : (o : Option (Option Cap)) → import_reference o ≡ plain → is_some (import_value o) ≡ false
import_plain None is = refl
import_plain (Some None) is = refl
import_plain (Some (Some w)) is = absurd (cc)

path_came : (path : List ℕ) (kind : QuestionKind) (o : Option Outcome) (v : Cap) → path_reference path kind o ≡ came_to v
    → path_value (Some (record { kind = kind; outcome = o })) path ≡ Some v
path_came path kinds.Wire None v is = absurd (cc)
path_came path kinds.Local None v is = absurd (cc)
path_came path kinds.Wire (Some outcome) v is = ap Some (out is)
  where
    out : came_to (cap_at outcome path) ≡ came_to v → cap_at outcome path ≡ v
    out e = cc
path_came path kinds.Local (Some outcome) v is = ap Some (out is)
  where
    out : came_to (cap_at outcome path) ≡ came_to v → cap_at outcome path ≡ v
    out e = cc

path_plain : (path : List ℕ) (kind : QuestionKind) (o : Option Outcome) → path_reference path kind o ≡ plain
    → is_some (path_value (Some (record { kind = kind; outcome = o })) path) ≡ false
path_plain path kind None is = refl
path_plain path kinds.Wire (Some outcome) is = absurd (cc)
path_plain path kinds.Local (Some outcome) is = absurd (cc)

question_came : (path : List ℕ) (o : Option QuestionState) (v : Cap) → question_reference path o ≡ came_to v → path_value o path ≡ Some v
question_came path None v is = absurd (cc)
question_came path (Some question) v is = path_came path question.kind question.outcome v is

question_plain : (path : List ℕ) (o : Option QuestionState) → question_reference path o ≡ plain → is_some (path_value o path) ≡ false
question_plain path None is = refl
question_plain path (Some question) is = path_plain path question.kind question.outcome is

came_value : (s : State) (ref : Reference) (v : Cap) → CameTo s ref v → value_of s ref ≡ Some v
came_value s (import_ i) v is = import_came (get s.values.imports i) v is
came_value s (path_to q path) v is = question_came path (get s.values.questions q) v is

plain_value : (s : State) (ref : Reference) → reference_of s.values (cap_of ref) ≡ plain → is_some (value_of s ref) ≡ false
plain_value s (import_ i) is = import_plain (get s.values.imports i) is
plain_value s (path_to q path) is = question_plain path (get s.values.questions q) is

-- a mark under an embargo
under_is : (n : ℕ) (mark : Option (Option ℕ)) → is_under n mark ≡ true → mark ≡ Some (Some n)
under_is n None is = absurd (true≢false (sym is))
under_is n (Some None) is = absurd (true≢false (sym is))
under_is n (Some (Some m)) is = ap (λ x. Some (Some x)) (is_equal m n is)

not_under : (n m : ℕ) (mark : Option (Option ℕ)) → is_under n mark ≡ false → mark ≡ Some (Some m) → (n == m) ≡ false
not_under n m mark not_ is = by (n == m) refl
  where
    by : (b : Bool) → (n == m) ≡ b → b ≡ false
    by false t = refl
    by true t =
        let same : n ≡ m = is_equal n m t in
        let under : is_under n mark ≡ true = ap (is_under n) is ∙ ap (λ x. x == n) (sym same) ∙ is_itself n in
        absurd (true≢false (sym under ∙ not_))

module _ (s : State) (n : ℕ) (value : Cap) (target : Target) (rest : List Message) (there : End) (made : List ℕ) (delivered : List Delivery)
    (was : get s.marks.embargoes n ≡ Some value) (local_ : Local s) where
  abbrev message : Message
  message = messages.Disembargo (record { context = contexts.ReceiverLoopback n; target = target })

  abbrev here : End
  here = record { vat = s; inbox = message ∷ rest }

  abbrev mid : State
  mid = embargo_ended s n value

  abbrev here_then : End
  here_then = record { vat = mid; inbox = rest }

  mark_left : (ref : Reference) → mark_of mid (cap_of ref) ≡ cond (not (is_under n (mark_of s (cap_of ref)))) (mark_of s (cap_of ref)) None
  mark_left (import_ i) =
      get-retain_keys s.marks.imports (λ i. not (is_under n (get s.marks.imports i))) i
      (λ x tie. ap (λ k. not (is_under n (get s.marks.imports k))) (sym (nat_cmp-IsAntisymmetric i x tie)))
  mark_left (path_to q path) =
      get-retain_keys s.marks.paths (λ key. not (is_under n (get s.marks.paths key))) (q ∷ path)
      (λ x tie. ap (λ k. not (is_under n (get s.marks.paths k))) (sym (slice_cmp-IsAntisymmetric nat_cmp-IsAntisymmetric (q ∷ path) x tie)))

  silent : Silent s [] mid
  silent = record { calls = refl; bearing = bearing_same s mid refl; no_call = refl; no_delivery = refl }

  level : LevelHere here there made mid rest []
  level = silent_here here there made mid rest (inr (message, refl, refl)) [] silent

  tells_none : (ref : Reference) → tells ref message ≡ false
  tells_none (import_ i) = refl
  tells_none (path_to q path) = refl

  none_over_at : get s.waiting.over.embargoes n ≡ None
  none_over_at = ap (λ o. get o.embargoes n) local_.none_over_ ∙ get-empty {X = Cap} nat_cmp n

  embargo_gave : (m : ℕ) (cap : Cap) (b : Bool) → (n == m) ≡ b → get s.waiting.over.embargoes m ≡ Some cap → get (insert s.waiting.over.embargoes n value) m ≡ Some cap
  embargo_gave m cap true t is = none_out (sym none_over_at ∙ ap (get s.waiting.over.embargoes) (is_equal n m t) ∙ is)
  embargo_gave m cap false t is = put_at s.waiting.over.embargoes n m value false t ∙ is

  gate_gave : (gate : Gate) (cap : Cap) → gave s.waiting.over gate ≡ Some cap → gave mid.waiting.over gate ≡ Some cap
  gate_gave (gates.Answer a path) cap is = is
  gate_gave (gates.Promise p) cap is = is
  gate_gave (gates.Question r path) cap is = is
  gate_gave (gates.Embargo m) cap is = embargo_gave m cap (n == m) refl is

  -- a reference that isn't under it
  other_ref : (ref : Reference) → is_under n (mark_of s (cap_of ref)) ≡ false → RefCalm s [] mid ref
  other_ref (import_ i) not_ =
      record {
        same = refl;
        unheld = λ m is. is;
        absent_ = λ t is. is;
        local_ = λ gate is. absurd is;
        mark = mark_left (import_ i) ∙ ap (λ b. cond (not b) (mark_of s (cap_of (import_ i))) None) not_;
        gave_ = gate_gave;
        no_open = λ is. refl;
        no_loop = λ m. refl;
      }
  other_ref (path_to q path) not_ =
      record {
        same = refl;
        unheld = λ m is. absurd is;
        absent_ = λ t is. is;
        local_ = λ gate is. is;
        mark = mark_left (path_to q path) ∙ ap (λ b. cond (not b) (mark_of s (cap_of (path_to q path))) None) not_;
        gave_ = gate_gave;
        no_open = λ is. refl;
        no_loop = λ m. refl;
      }

  other_lane : (ref : Reference) → is_under n (mark_of s (cap_of ref)) ≡ false → LaneHolds here there ref made delivered → LaneHolds here_then (with_mail there []) ref made delivered
  other_lane ref not_ holds =
      let apart : IsApartHere here there ref made message =
      record { back_ = refl; tell = tells_none ref; echo = λ m is. not_under n m (mark_of s (cap_of ref)) not_ is } in
      let done = silent_lane here there ref made mid rest [] silent (other_ref ref not_) (λ e cap is. is) (inr (message, refl, apart)) delivered holds in
      rw (append-nil delivered) at done

  -- its own
  embargo_value : (ref : Reference) → mark_of s (cap_of ref) ≡ Some (Some n) → IsEmbargoOf s (value_of s ref) (Some n)
  embargo_value (import_ i) is = (there_of (IsImportMark s i) (get s.marks.imports i) (Some n) is (local_.import_marks i)).1
  embargo_value (path_to q path) is = (there_of (IsPathMark s (q ∷ path)) (get s.marks.paths (q ∷ path)) (Some n) is (local_.path_marks (q ∷ path))).1

  module _ (ref : Reference) (under : mark_of s (cap_of ref) ≡ Some (Some n)) where
    never_plain : {A : Type 0} → reference_of s.values (cap_of ref) ≡ plain → A
    never_plain is = absurd (true≢false (sym (embargo_value ref under).1 ∙ plain_value s ref is))

    never_if : {A : Type 0} (m : List ℕ) → IsMarkedIf m (mark_of s (cap_of ref)) → A
    never_if [] is = none_out (sym is ∙ under)
    never_if (ticket ∷ more) is = none_out (sym (some_out (sym under ∙ is)) ∙ refl)

    unmarked : mark_of mid (cap_of ref) ≡ None
    unmarked =
        let it : is_under n (mark_of s (cap_of ref)) ≡ true = ap (is_under n) under ∙ is_itself n in
        mark_left ref ∙ ap (λ b. cond (not b) (mark_of s (cap_of ref)) None) it

    yet_on : IsYet s ref made → IsYet mid ref made
    yet_on yet = by ref yet
      where
        by : (ref : Reference) → IsYet s ref made → IsYet mid ref made
        by (import_ i) yet = yet
        by (path_to q path) yet = yet

    elsewhere_on : IsElsewhere here there ref made → IsElsewhere here_then (with_mail there []) ref made
    elsewhere_on (came_to_other p) = came_to_other p
    elsewhere_on (told_other p) =
        let taken = only_taken message rest (tells ref) p.before p.telling p.after p.only (tells_none ref) in
        told_other
        (record { yet = yet_on p.yet; closed = p.closed; before = taken.left; telling = p.telling; after = p.after; only = taken.only; says = p.says })
    elsewhere_on (hosted_there p) = hosted_there (record { yet = yet_on p.yet; hosted = p.hosted; untold = any_taken (tells ref) message rest p.untold })

    is_its : (m : ℕ) → mark_of s (cap_of ref) ≡ Some (Some m) → is_echo m message ≡ true
    is_its m is =
        let same : n ≡ m = some_out (some_out (sym under ∙ is)) in
        ap (λ x. n == x) (sym same) ∙ is_itself n

    echoed_then : InLane here there ref made delivered → Echoed here there ref made → LaneHolds here_then (with_mail there []) ref made delivered
    echoed_then lane p =
        let same : n ≡ p.embargo = some_out (some_out (sym under ∙ p.mark)) in
        let object : value ≡ caps.Object p.comes.object =
        some_out (sym was ∙ sym (embargo_value ref under).0 ∙ came_value s ref (caps.Object p.comes.object) p.comes.came) in
        let gave_ : GaveObject mid p.comes.object (gates.Embargo p.embargo) =
        put_at s.waiting.over.embargoes n p.embargo value true (ap (λ x. n == x) (sym same) ∙ is_itself n) ∙ ap Some object in
        inr
        (echo_comes here there ref made mid rest [] level message refl p (is_its p.embargo p.mark) p.comes.came unmarked gave_ refl delivered lane)

    own_lane : LaneHolds here there ref made delivered → LaneHolds here_then (with_mail there []) ref made delivered
    own_lane (inl elsewhere) = inl (elsewhere_on elsewhere)
    own_lane (inr lane) = by lane.phase
      where
        never_echo : {A : Type 0} (m : ℕ) → mark_of s (cap_of ref) ≡ Some (Some m) → list_any (is_echo m) here.inbox ≡ false → A
        never_echo m is none = absurd (true≢false (sym (ap (λ b. b || list_any (is_echo m) rest) (is_its m is)) ∙ none))

        by : Phase here there ref made → LaneHolds here_then (with_mail there []) ref made delivered
        by (absent p) = never_plain (absent_plain s there.vat ref p.none)
        by (unopened p) = never_if made p.mark
        by (unsettled p) = never_if made p.mark
        by (told p) = never_if made p.mark
        by (free p) = none_out (sym p.mark ∙ under)
        by (marked p) = none_out (some_out (sym p.mark ∙ under))
        by (embargoed p) = never_echo p.embargo p.mark p.no_echo
        by (echoed p) = echoed_then lane p
        by (local_open p) = never_plain (local_plain s ref p.gate p.open_)

  pub ended_lane : (ref : Reference) → LaneHolds here there ref made delivered → LaneHolds here_then (with_mail there []) ref made delivered
  ended_lane ref holds = by (is_under n (mark_of s (cap_of ref))) refl
    where
      by : (b : Bool) → is_under n (mark_of s (cap_of ref)) ≡ b → LaneHolds here_then (with_mail there []) ref made delivered
      by true t = own_lane ref (under_is n (mark_of s (cap_of ref)) t) holds
      by false t = other_lane ref t holds

module _ (s : State) (n : ℕ) (target : Target) (rest : List Message) (there : End) (ref : Reference) (made : List ℕ) (delivered : List Delivery) (local_ : Local s) where
  abbrev EchoThen : List Effect → State → Type 0
  EchoThen done new = LaneHolds (record { vat = new; inbox = rest }) (with_mail there (messages_sent done)) ref made (delivered ++ lane_delivered s there.vat made done)

  ended_then : (o : Option Cap) (done : Done) → get s.marks.embargoes n ≡ o → Ok done ≡ ended_by s n o
      → LaneHolds (record { vat = s; inbox = messages.Disembargo (record { context = contexts.ReceiverLoopback n; target = target }) ∷ rest }) there ref made delivered
      → EchoThen done.0 done.1
  ended_then None done was does holds = ok_out does
  ended_then (Some value) done was does holds = rw (ok_in _ _ does, append-nil delivered) (ended_lane s n value target rest there made delivered was local_ ref holds)

  pub echo_lane : (done : Done) → OnDisembargo s (contexts.ReceiverLoopback n) target (Ok done)
      → LaneHolds (record { vat = s; inbox = messages.Disembargo (record { context = contexts.ReceiverLoopback n; target = target }) ∷ rest }) there ref made delivered
      → EchoThen done.0 done.1
  echo_lane done does holds = ended_then (get s.marks.embargoes n) done refl does holds
