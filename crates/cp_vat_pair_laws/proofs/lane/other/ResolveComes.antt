-- A Resolve and a Disembargo that the other end takes keep each lane.
use Rattle.std.specs.Prelude.{◌≡◌, refl, ℕ, ◌==◌, not, Bool, true, false, List, [], ◌∷◌, Option, Some, None, is_some, Ok}
use Rattle.std.specs.List.{list_any}
use Rattle.std.specs.FinMap.{get, get-empty}
use Rattle.std.specs.Ordering.{nat_cmp}
use Rattle.std.proofs.Common.{inl, inr, ap, sym, ◌∙◌, true≢false}
use Rattle.cp_tables.specs.declared.counted.Counted.{Counted}
use Rattle.cp_messages.specs.declared.disembargo.DisembargoContext.TheVariants as contexts
use Rattle.cp_messages.specs.declared.disembargo.Disembargo.{Disembargo}
use Rattle.cp_messages.specs.declared.resolve.Resolution.{Resolution}
use Rattle.cp_messages.specs.declared.resolve.Resolution.TheVariants as resolutions
use Rattle.cp_messages.specs.declared.resolve.Resolve.{Resolve}
use Rattle.cp_messages.specs.declared.target.Target.{Target}
use Rattle.cp_messages.specs.declared.target.Target.TheVariants as targets
use Rattle.cp_messages.specs.declared.message.Message.{Message}
use Rattle.cp_messages.specs.declared.message.Message.TheVariants as messages
use Rattle.cp_refs.specs.declared.cap.Cap.{Cap}
use Rattle.cp_refs.specs.declared.cap.Cap.TheVariants as caps
use Rattle.cp_refs.specs.declared.outcome.Outcome.{Outcome}
use Rattle.cp_refs.specs.declared.route.Gate.{Gate}
use Rattle.cp_refs.specs.declared.route.Gate.TheVariants as gates
use Rattle.cp_vat_machine.specs.State.{State, none_over, gave}
use Rattle.cp_vat_machine.specs.Then.{Done, fault_if}
use Rattle.cp_vat_machine.specs.Receiving.{answer_of, path_of}
use Rattle.cp_vat_machine.specs.Answering.{target_faults}
use Rattle.cp_vat_machine.specs.Calling.{mark_of}
use Rattle.cp_vat_machine.specs.Resolving.{is_open_promise, TakeResolution, resolved, ResolveOf, OnResolve, echo_to, EchoesExport, EchoesAnswer, EchoesTarget, embargo_ended, ended_by, OnDisembargo}
use Rattle.cp_vat_machine.specs.declared.entry.ImportKind.{ImportKind}
use Rattle.cp_vat_machine.specs.declared.fault.PeerFault.{PeerFault}
use Rattle.cp_vat_machine.specs.declared.fault.PeerFault.TheVariants as faults
use Rattle.cp_vat_machine.proofs.Basics.{some_out, none_out, ok_in, ok_out, then_out, unless_out, is_equal, is_itself}
use Rattle.cp_vat_laws.specs.Within.{Within}
use Rattle.cp_vat_laws.proofs.within.Take.{take_keeps}
use Rattle.cp_vat_pair_laws.specs.VatPair.{End, with_mail, messages_sent}
use Rattle.cp_vat_pair_laws.specs.Naming.{is_loop, is_echo}
use Rattle.cp_vat_pair_laws.specs.Lane.{Reference, import_, path_to, cap_of, Delivery}
use Rattle.cp_vat_pair_laws.specs.Phases.{of_lane, forwarded_for, tells, IsMarkedIf, Phase, absent, unopened, unsettled, told, free, marked, embargoed, echoed, local_open, IsElsewhere, InLane, LaneHolds}
use Rattle.cp_vat_pair_laws.proofs.still.Grows.{PlacesStay, places_same}
use Rattle.cp_vat_pair_laws.proofs.lane.Calm.{any_mail, none_of_front}
use Rattle.cp_vat_pair_laws.proofs.lane.other.Calm.{LevelThere, IsApartThere, level_back, level_way}
use Rattle.cp_vat_pair_laws.proofs.lane.other.NoCallMoves.{PartThere, part_there}
use Rattle.cp_vat_pair_laws.proofs.lane.other.Places.{place_stays}
use Rattle.cp_vat_pair_laws.proofs.lane.other.Chain.{still_level, KeptThere, IsThere, not_opened_at, ends_on, Chain, ended, chain_one, chain_both, chain_kept, chain_known}
use Rattle.cp_vat_pair_laws.proofs.lane.other.Turn.{elsewhere_part}
use Rattle.cp_vat_pair_laws.proofs.lane.other.Take.{taken_known, take_there, grows_kept}
use Rattle.cp_vat_pair_laws.proofs.lane.other.CallComes.{HeardKept}
use Rattle.cp_vat_pair_laws.proofs.lane.other.Phase.{another_phase, is_echoed}

-- A message that has nothing to do with any lane, and what follows of it.
abbrev pub IsPlainThere : Message → Type 0
IsPlainThere (messages.Call c) = ⊥
IsPlainThere (messages.Bootstrap b) = ⊥
IsPlainThere (messages.Disembargo d) = (n : ℕ) → is_loop n (messages.Disembargo d) ≡ false
IsPlainThere other = Unit {0}

pub plain_apart : (here : End) (ref : Reference) (made : List ℕ) (m : Message) → IsPlainThere m → IsApartThere here ref made m
plain_apart here ref made (messages.Call c) plain = absurd plain
plain_apart here ref made (messages.Bootstrap b) plain = absurd plain
plain_apart here (import_ i) made (messages.Disembargo d) plain = record { sent = refl; opens_ = refl; loop = λ n is. plain n }
plain_apart here (path_to q path) made (messages.Disembargo d) plain = record { sent = refl; opens_ = refl; loop = λ n is. plain n }
plain_apart here (import_ i) made (messages.Unimplemented t) plain = record { sent = refl; opens_ = refl; loop = λ n is. refl }
plain_apart here (path_to q path) made (messages.Unimplemented t) plain = record { sent = refl; opens_ = refl; loop = λ n is. refl }
plain_apart here (import_ i) made (messages.Abort x) plain = record { sent = refl; opens_ = refl; loop = λ n is. refl }
plain_apart here (path_to q path) made (messages.Abort x) plain = record { sent = refl; opens_ = refl; loop = λ n is. refl }
plain_apart here (import_ i) made (messages.Return r) plain = record { sent = refl; opens_ = refl; loop = λ n is. refl }
plain_apart here (path_to q path) made (messages.Return r) plain = record { sent = refl; opens_ = refl; loop = λ n is. refl }
plain_apart here (import_ i) made (messages.Finish f) plain = record { sent = refl; opens_ = refl; loop = λ n is. refl }
plain_apart here (path_to q path) made (messages.Finish f) plain = record { sent = refl; opens_ = refl; loop = λ n is. refl }
plain_apart here (import_ i) made (messages.Resolve r) plain = record { sent = refl; opens_ = refl; loop = λ n is. refl }
plain_apart here (path_to q path) made (messages.Resolve r) plain = record { sent = refl; opens_ = refl; loop = λ n is. refl }
plain_apart here (import_ i) made (messages.Release r) plain = record { sent = refl; opens_ = refl; loop = λ n is. refl }
plain_apart here (path_to q path) made (messages.Release r) plain = record { sent = refl; opens_ = refl; loop = λ n is. refl }
plain_apart here (import_ i) made (messages.Other which body) plain = record { sent = refl; opens_ = refl; loop = λ n is. refl }
plain_apart here (path_to q path) made (messages.Other which body) plain = record { sent = refl; opens_ = refl; loop = λ n is. refl }

pub plain_kept : (here : End) (s final : State) (m : Message) (rest : List Message) (done : Done) → IsThere here s final (m ∷ rest) → IsPlainThere m → Chain s done.0 done.1
    → PlacesStay done.1 final → HeardKept here s (m ∷ rest) done rest final
plain_kept here s final m rest done known plain chain later = (
  λ ref made delivered lane.
      chain_kept here final rest chain later (taken_known here s final m rest known) ref made delivered
      (take_there here s final m rest known ref made delivered (plain_apart here ref made m plain) lane),
  chain_known here final rest chain later (taken_known here s final m rest known),
)

-- A Resolve: an import comes to something.
resolved_kept : (s : State) (i : ℕ) (value : Cap) → KeptThere s [] (resolved s i value)
resolved_kept s i value =
    record {
      level = λ here made inbox. still_level here (record { vat = s; inbox = inbox }) made [] (resolved s i value) refl (λ q. refl) refl;
      places =
          record {
            ways = record { promises = λ p v is. is; questions = λ q question o is given_. is };
            answers = λ a o is. is;
            exports = λ e c is. is;
            one_export = λ one. one;
          };
      place = λ ref. place_stays s (resolved s i value) ref [] (λ e c is. is) (λ p is. is) (λ a is. is) refl;
      over = λ gate cap is. is;
      fresh = λ e none. inl none;
      answers = λ q is. is;
      no_echo = λ n. refl;
    }

resolution_chain : (s : State) (resolution : Resolution) (taken : Cap × State) → Within s None [] → s.waiting.over ≡ none_over → TakeResolution s resolution (Ok taken)
    → Chain s [] taken.1
resolution_chain s (resolutions.Cap d) taken w still is = chain_one (grows_kept s taken.1 (take_keeps None [] s d taken w still is).1)
resolution_chain s (resolutions.Exception x) taken w still is = rw (ok_in _ _ is) ended
resolution_chain s (resolutions.Unknown n) taken w still is = absurd is

pub resolve_chain : (s : State) (r : Resolve) (done : Done) → Within s None [] → s.waiting.over ≡ none_over → is_some (get s.counts.imports r.promise_id) ≡ true
    → OnResolve s r (Ok done) → Chain s done.0 done.1
resolve_chain s r done w still held does = by (get s.counts.imports r.promise_id) held does
  where
    by : (o : Option (Counted ImportKind)) → is_some o ≡ true → ResolveOf s r o (Ok done) → Chain s done.0 done.1
    by None held does = absurd (true≢false (sym held))
    by (Some entry) held does =
        let rule = unless_out {A = Done} {F = PeerFault} (fault_if (not (is_open_promise entry.kept (get s.values.imports r.promise_id))) faults.NotAnOpenPromise) _ done does in
        let parts = then_out {A = Cap × State} {B = Done} (TakeResolution s r.resolution) _ done rule in
        rw (ok_in _ _ parts.2) (chain_both (resolution_chain s r.resolution parts.0 w still parts.1) (chain_one (resolved_kept parts.0.1 r.promise_id parts.0.0)))

-- The echo of its own Disembargo: an embargo of the other end's ends.
pub echo_chain : (s : State) (n : ℕ) (target : Target) (done : Done) → s.waiting.over ≡ none_over → OnDisembargo s (contexts.ReceiverLoopback n) target (Ok done)
    → Chain s done.0 done.1
echo_chain s n target done still does = by (get s.marks.embargoes n) does
  where
    ended_kept : (cap : Cap) → KeptThere s [] (embargo_ended s n cap)
    ended_kept cap =
        record {
          level = λ here made inbox. still_level here (record { vat = s; inbox = inbox }) made [] (embargo_ended s n cap) refl (λ q. refl) refl;
          places = places_same refl refl;
          place = λ ref. place_stays s (embargo_ended s n cap) ref [] (λ e c is. is) (λ p is. is) (λ a is. is) refl;
          over = λ gate given_ is. over_on gate given_ is;
          fresh = λ i none. inl none;
          answers = λ q is. is;
          no_echo = λ k. refl;
        }
      where
        over_on : (gate : Gate) (given_ : Cap) → gave s.waiting.over gate ≡ Some given_ → gave (embargo_ended s n cap).waiting.over gate ≡ Some given_
        over_on (gates.Answer a path) given_ is = is
        over_on (gates.Promise p) given_ is = is
        over_on (gates.Question q path) given_ is = is
        over_on (gates.Embargo k) given_ is = none_out (sym (ap (λ x. get x.embargoes k) still ∙ get-empty nat_cmp k) ∙ is)

    by : (o : Option Cap) → Ok done ≡ ended_by s n o → Chain s done.0 done.1
    by None is = ok_out is
    by (Some cap) is = rw (ok_in _ _ is) (chain_one (ended_kept cap))

-- A Disembargo of this end's is echoed.
abbrev pub Echoed_ : State → ℕ → Done → Type 0
Echoed_ s n done = (done.1 ≡ s) × ((target : Target) × (messages_sent done.0 ≡ messages.Disembargo (record { context = contexts.ReceiverLoopback n; target = target }) ∷ []))

echo_end : (s : State) (n : ℕ) (last : Cap) (done : Done) → Ok done ≡ echo_to s n last → Echoed_ s n done
echo_end s n (caps.Import i) done is = rw (ok_in _ _ is) (refl, (targets.ImportedCap i, refl))
echo_end s n caps.None done is = ok_out is
echo_end s n (caps.Object k) done is = ok_out is
echo_end s n (caps.Promise p) done is = ok_out is
echo_end s n (caps.Pipelined q path) done is = ok_out is
echo_end s n (caps.Broken x) done is = ok_out is

echo_target : (s : State) (n : ℕ) (target : Target) (done : Done) → EchoesTarget s n target (Ok done) → Echoed_ s n done
echo_target s n (targets.ImportedCap e) done does = by (get s.counts.exports e) does
  where
    by : (o : Option (Counted Cap)) → EchoesExport s n o (Ok done) → Echoed_ s n done
    by None does = absurd does
    by (Some entry) does = echo_end s n does.0 done does.2
echo_target s n (targets.PromisedAnswer answer) done does = by (answer_of s answer.question_id) does
  where
    by : (o : Option (Option Outcome)) → EchoesAnswer s n (path_of answer.transform) o (Ok done) → Echoed_ s n done
    by None does = absurd does
    by (Some None) does = ok_out does
    by (Some (Some outcome)) does = echo_end s n does.0 done does.2
echo_target s n (targets.Unknown m) done does = absurd does

pub loop_does : (s : State) (n : ℕ) (target : Target) (done : Done) → OnDisembargo s (contexts.SenderLoopback n) target (Ok done) → Echoed_ s n done
loop_does s n target done does = echo_target s n target done (unless_out (target_faults s target) _ done does)

module _ (here : End) (s final : State) (d : Disembargo) (n : ℕ) (is_it : d.context ≡ contexts.SenderLoopback n) (rest : List Message) (known : IsThere here s final (messages.Disembargo d ∷ rest))
    (echo : Message) (is_echo_ : (k : ℕ) → is_echo k echo ≡ (n == k)) (untold_ : (ref : Reference) → tells ref echo ≡ false)
    (no_back : (made : List ℕ) → of_lane made (forwarded_for here.vat s echo) ≡ []) where
  abbrev loop : Message
  loop = messages.Disembargo d

  abbrev before_it : End
  before_it = record { vat = s; inbox = loop ∷ rest }

  abbrev after_it : End
  after_it = record { vat = s; inbox = rest }

  abbrev here_then : End
  here_then = with_mail here (echo ∷ [])

  is_loop_ : (k : ℕ) → is_loop k loop ≡ (n == k)
  is_loop_ k = rw (is_it) refl

  loop_level : (made : List ℕ) → LevelThere here before_it made s rest (echo ∷ [])
  loop_level made =
      let still = still_level here before_it made [] s refl (λ q. refl) refl in
      record { waiting = still.waiting; calls = still.calls; forwards = still.forwards; held = still.held; sends = (no_back made, tt); taken = inr (loop, refl, refl) }

  one_untold : (ref : Reference) → list_any (tells ref) (echo ∷ []) ≡ false
  one_untold ref = rw (untold_ ref) refl

  loop_apart : (ref : Reference) (made : List ℕ) → ((k : ℕ) → mark_of here.vat (cap_of ref) ≡ Some (Some k) → (n == k) ≡ false) → IsApartThere here ref made loop
  loop_apart (import_ i) made other = record { sent = refl; opens_ = refl; loop = λ k marked_. is_loop_ k ∙ other k marked_ }
  loop_apart (path_to q path) made other = record { sent = refl; opens_ = refl; loop = λ k marked_. is_loop_ k ∙ other k marked_ }

  loop_part : (ref : Reference) (made : List ℕ) → ((k : ℕ) → mark_of here.vat (cap_of ref) ≡ Some (Some k) → (n == k) ≡ false) → PartThere here before_it ref made s rest (echo ∷ [])
  loop_part ref made other =
      record {
        level = loop_level made;
        place = place_stays s s ref (echo ∷ []) (λ e c is. is) (λ p is. is) (λ a is. is) (one_untold ref);
        absent_ = λ none. inl none;
        ends_ = λ e at. at;
        hosted = λ is. is;
        closed_ = λ is. is;
        leads_ = λ e gate is. is;
        held_there = λ e at. known.held ref e (ends_on s final known.stay ref e at);
        not_opened = not_opened_at here s final (loop ∷ rest) known ref;
        no_echo = λ k marked_. rw (is_echo_ k, other k marked_) refl;
        front = inr (loop, refl, loop_apart ref made other);
      }

  -- a lane whose embargo has another number
  other_loop : (ref : Reference) (made : List ℕ) (delivered : List Delivery) → ((k : ℕ) → mark_of here.vat (cap_of ref) ≡ Some (Some k) → (n == k) ≡ false)
      → LaneHolds here before_it ref made delivered → LaneHolds here_then after_it ref made delivered
  other_loop ref made delivered other lane = part_there here before_it ref made s rest (echo ∷ []) (loop_part ref made other) delivered lane

  loop_elsewhere : (ref : Reference) (made : List ℕ) → IsElsewhere here before_it ref made → IsElsewhere here_then after_it ref made
  loop_elsewhere ref made elsewhere =
      elsewhere_part here before_it ref made s rest (echo ∷ []) (place_stays s s ref (echo ∷ []) (λ e c is. is) (λ p is. is) (λ a is. is) (one_untold ref)) (λ is. is) (λ is. is) elsewhere

  -- that of this number
  module _ (ref : Reference) (made : List ℕ) (delivered : List Delivery) (its : mark_of here.vat (cap_of ref) ≡ Some (Some n)) (lane : InLane here before_it ref made delivered) where
    with_phase : Phase here_then after_it ref made → LaneHolds here_then after_it ref made delivered
    with_phase phase = inr (another_phase here before_it ref made s rest (echo ∷ []) (loop_level made) delivered lane phase)

    marked_if_not : {A : Type 0} (m : List ℕ) → IsMarkedIf m (mark_of here.vat (cap_of ref)) → A
    marked_if_not [] is = none_out (sym is ∙ its)
    marked_if_not (t ∷ m) is = none_out (some_out (sym is ∙ its))

    same_number : (k : ℕ) → mark_of here.vat (cap_of ref) ≡ Some (Some k) → k ≡ n
    same_number k is = some_out (some_out (sym is ∙ its))

    loop_phase : Phase here before_it ref made → LaneHolds here_then after_it ref made delivered
    loop_phase (absent p) = with_phase (absent (record { none = p.none; unmade = p.unmade }))
    loop_phase (unopened p) = marked_if_not made p.mark
    loop_phase (unsettled p) = marked_if_not made p.mark
    loop_phase (told p) = marked_if_not made p.mark
    loop_phase (free p) = none_out (sym p.mark ∙ its)
    loop_phase (marked p) = none_out (some_out (sym p.mark ∙ its))
    loop_phase (embargoed p) =
        with_phase
        (echoed
        (is_echoed here before_it ref made s rest (echo ∷ []) (loop_level made) loop echo refl refl (λ e at. at) p
        (is_loop_ p.embargo ∙ ap (λ k. n == k) (same_number p.embargo p.mark) ∙ is_itself n) (is_echo_ p.embargo ∙ ap (λ k. n == k) (same_number p.embargo p.mark) ∙ is_itself n)))
    loop_phase (echoed p) =
        let not = none_of_front (is_loop p.embargo) loop rest p.no_loop in
        absurd (true≢false (sym (is_loop_ p.embargo ∙ ap (λ k. n == k) (same_number p.embargo p.mark) ∙ is_itself n) ∙ not))
    loop_phase (local_open p) =
        with_phase
        (local_open
        (record {
          gate = p.gate;
          open_ = p.open_;
          waiting = p.waiting;
          no_back = level_back here before_it made s rest (echo ∷ []) (loop_level made) ∙ p.no_back;
          no_waits = (loop_level made).waiting ∙ p.no_waits;
          no_way = level_way here before_it made s rest (echo ∷ []) (loop_level made) ∙ p.no_way;
        }))

  -- Each lane holds on.
  pub loop_kept : (ref : Reference) (made : List ℕ) (delivered : List Delivery) → LaneHolds here before_it ref made delivered → LaneHolds here_then after_it ref made delivered
  loop_kept ref made delivered (inl elsewhere) = inl (loop_elsewhere ref made elsewhere)
  loop_kept ref made delivered (inr lane) = by (mark_of here.vat (cap_of ref)) refl
    where
      by : (mark : Option (Option ℕ)) → mark_of here.vat (cap_of ref) ≡ mark → LaneHolds here_then after_it ref made delivered
      by None is = other_loop ref made delivered (λ k at. none_out (sym is ∙ at)) (inr lane)
      by (Some None) is = other_loop ref made delivered (λ k at. none_out (some_out (sym is ∙ at))) (inr lane)
      by (Some (Some k)) is = number (n == k) refl
        where
          number : (b : Bool) → (n == k) ≡ b → LaneHolds here_then after_it ref made delivered
          number true t = loop_phase ref made delivered (is ∙ ap (λ j. Some (Some j)) (sym (is_equal n k t))) lane lane.phase
          number false t = other_loop ref made delivered (λ j at. ap (λ i. n == i) (some_out (some_out (sym at ∙ is))) ∙ t) (inr lane)

  pub loop_known : IsThere here_then s final rest
  loop_known =
      let taken = taken_known here s final loop rest known in
      record {
        unopened = taken.unopened;
        untold = λ i none. any_mail (tells (import_ i)) here.inbox (echo ∷ []) (taken.untold i none) (one_untold (import_ i));
        unmarked = taken.unmarked;
        stay = taken.stay;
        held = taken.held;
      }
