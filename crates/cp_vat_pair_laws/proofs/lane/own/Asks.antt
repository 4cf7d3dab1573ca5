-- A question that the application opens: its paths had no calls, and have none yet.
use Rattle.std.specs.Prelude.{◌≡◌, ◌⊎◌, refl, ℕ, ◌==◌, Bool, true, false, List, [], ◌∷◌, ◌++◌, flat_map, Option, Some, None, Ok}
use Rattle.std.specs.List.{list_any}
use Rattle.std.specs.FinMap.{get}
use Rattle.std.proofs.Common.{inl, inr, ap, subst, sym, ◌∙◌, append-nil, true≢false}
use Rattle.cp_messages.specs.declared.message.Message.{Message}
use Rattle.cp_messages.specs.declared.message.Message.TheVariants as messages
use Rattle.cp_refs.specs.declared.cap.Cap.{Cap}
use Rattle.cp_refs.specs.declared.cap.Cap.TheVariants as caps
use Rattle.cp_refs.specs.declared.values.QuestionKind.TheVariants as kinds
use Rattle.cp_vat_machine.specs.State.{State}
use Rattle.cp_vat_machine.specs.Capacity.{Fresh}
use Rattle.cp_vat_machine.specs.Calling.{plain, on_wire, came_to, question_reference, reference_of, mark_of, asked, OwnDone}
use Rattle.cp_vat_machine.specs.Doing.{DoBootstrap}
use Rattle.cp_vat_machine.specs.InUse.{waiting_calls}
use Rattle.cp_vat_machine.specs.Local.{Local, is_wire, IsPathMark}
use Rattle.cp_vat_machine.specs.declared.effect.Effect.TheVariants as effects
use Rattle.cp_vat_machine.proofs.Basics.{ok_in, then_out, or_full_out, is_equal, is_itself, not_equal, put_at}
use Rattle.cp_vat_laws.specs.Within.{Within}
use Rattle.cp_vat_laws.proofs.Tables.{there_of, every_of}
use Rattle.cp_vat_laws.proofs.within.Between.{local_is_within}
use Rattle.cp_vat_pair_laws.specs.Ledger.{opens, returns_to, named_by}
use Rattle.cp_vat_pair_laws.specs.Accounts.{accounts_of}
use Rattle.cp_vat_pair_laws.specs.Lives.{Standing, standing_of, will_stand, return_of, returns_of, FitsNone, Fits, Agree}
use Rattle.cp_vat_pair_laws.specs.VatPair.{End, messages_sent, with_mail}
use Rattle.cp_vat_pair_laws.specs.Lane.{Reference, import_, path_to, cap_of, CameTo, own_ticket, answer_forwarded, Delivery}
use Rattle.cp_vat_pair_laws.specs.Phases.{of_lane, sent_for, forwarded_for, waits_for, waits_as, stands_as, HasTarget, IsYet, tells, opens_place, Phase, absent, unopened, unsettled, told, free, marked, embargoed, echoed, local_open, came_to_other, told_other, hosted_there, InLane, LaneHolds}
use Rattle.cp_vat_pair_laws.proofs.counts.rules.Accounts.{free_out}
use Rattle.cp_vat_pair_laws.proofs.lane.Lists.{lane_unmade}
use Rattle.cp_vat_pair_laws.proofs.lane.Calm.{only_last}
use Rattle.cp_vat_pair_laws.proofs.lane.own.Calm.{delivered_nothing}
use Rattle.cp_vat_pair_laws.proofs.still.Does.{fresh_value}
use Rattle.cp_vat_pair_laws.proofs.lane.parts.Silent.{Silent, SameBearing}
use Rattle.cp_vat_pair_laws.proofs.lane.parts.Lives.{fresh_unopened}
use Rattle.cp_vat_pair_laws.proofs.lane.own.Reference.{RefCalm, IsPathOf}
use Rattle.cp_vat_pair_laws.proofs.lane.own.Turn.{lane_delivered}
use Rattle.cp_vat_pair_laws.proofs.lane.own.NoCallMoves.{silent_lane}

-- A lane without any call, in a phase.
pub unmade_lane : (here there : End) (ref : Reference) → Phase here there ref [] → InLane here there ref [] []
unmade_lane here there ref phase =
    record {
      whole =
          rw (
            lane_unmade (flat_map (forwarded_for here.vat there.vat) here.inbox),
            lane_unmade (flat_map (λ call. waits_for here.vat call.origin) (waiting_calls there.vat)),
            lane_unmade (flat_map (sent_for here.vat) there.inbox),
            lane_unmade (flat_map (λ call. waits_as call call.origin) (waiting_calls here.vat)),
          )
          refl;
      targets = every_of (λ m. of_lane [] (sent_for here.vat m) ≡ [] ⊎ HasTarget ref m) there.inbox (λ m. inl (lane_unmade (sent_for here.vat m)));
      none_held = λ ticket call is. lane_unmade (stands_as here.vat there.vat call.origin);
      delivered_ = delivered_nothing (reference_of here.vat.values (cap_of ref));
      phase = phase;
    }

-- A path of a question that isn't there had no call.
module _ (here there : End) (q : ℕ) (path : List ℕ) (made : List ℕ) (delivered : List Delivery) (none : get here.vat.values.questions q ≡ None) where
  abbrev ref : Reference
  ref = path_to q path

  plain_then : reference_of here.vat.values (cap_of ref) ≡ plain
  plain_then = ap (question_reference path) none

  never_open : {A : Type 0} → reference_of here.vat.values (cap_of ref) ≡ on_wire → A
  never_open is = apart (sym plain_then ∙ is)
    where
      apart : {A : Type 0} → plain ≡ on_wire → A
      apart e = absurd (cc)

  never_came : {A : Type 0} (value : Cap) → CameTo here.vat ref value → A
  never_came value is = apart (sym plain_then ∙ is)
    where
      apart : {A : Type 0} → plain ≡ came_to value → A
      apart e = absurd (cc)

  never_yet : {A : Type 0} → IsYet here.vat ref made → A
  never_yet (inl open_) = never_open open_
  never_yet (inr unheld) = absurd unheld

  pub unmade : LaneHolds here there ref made delivered → (made ≡ []) × (delivered ≡ [])
  unmade (inl (came_to_other p)) = never_came p.0 p.1
  unmade (inl (told_other p)) = never_yet p.yet
  unmade (inl (hosted_there p)) = never_yet p.yet
  unmade (inr lane) = (by lane.phase, rw plain_then at lane.delivered_)
    where
      by : Phase here there ref made → made ≡ []
      by (absent p) = p.unmade
      by (unopened p) = never_open p.open_
      by (unsettled p) = never_yet p.yet
      by (told p) = never_yet p.yet
      by (free p) = never_came (caps.Object p.object) p.came
      by (marked p) = never_came (caps.Object p.comes.object) p.comes.came
      by (embargoed p) = never_came (caps.Object p.comes.object) p.comes.came
      by (echoed p) = never_came (caps.Object p.comes.object) p.comes.came
      by (local_open p) = absurd (true≢false (sym (rw none at p.open_.0)))

-- No Return of it is on the way.
tells_returns : (q : ℕ) (path : List ℕ) (m : Message) → tells (path_to q path) m ≡ returns_to q m
tells_returns q path (messages.Return r) = refl
tells_returns q path m = refl

pub none_returned : (q : ℕ) (path : List ℕ) (ms : List Message) → returns_of q ms ≡ [] → list_any (tells (path_to q path)) ms ≡ false
none_returned q path [] none = refl
none_returned q path (m ∷ ms) none = by (returns_to q m) refl none (none_returned q path ms)
  where
    by : (b : Bool) → returns_to q m ≡ b → return_of q m ++ returns_of q ms ≡ [] → (returns_of q ms ≡ [] → list_any (tells (path_to q path)) ms ≡ false)
        → list_any (tells (path_to q path)) (m ∷ ms) ≡ false
    by true t is more =
        let some : named_by m ∷ returns_of q ms ≡ [] = rw t at is in absurd (cc)
    by false t is more =
        let rest : returns_of q ms ≡ [] = rw t at is in
        rw (tells_returns q path m, t) (more rest)

pub fits_none : (returns : List (List ℕ)) (st : Standing) → FitsNone returns st → returns ≡ []
fits_none [] st fits = refl
fits_none (r ∷ rs) st fits = absurd fits

-- It is opened by a message that goes out.
module _ (here there : End) (q : ℕ) (path : List ℕ) (mid : State) (m : Message) (at : get mid.values.questions q ≡ Some (record { kind = kinds.Wire; outcome = None }))
    (it : opens q m ≡ true) (unopened_ : list_any (opens q) there.inbox ≡ false) (untold : list_any (tells (path_to q path)) here.inbox ≡ false)
    (unmarked : mark_of mid (cap_of (path_to q path)) ≡ None) where
  abbrev here_then : End
  here_then = record { vat = mid; inbox = here.inbox }

  abbrev there_then : End
  there_then = with_mail there (m ∷ [])

  pub opens_lane : InLane here_then there_then (path_to q path) [] []
  opens_lane =
      unmade_lane here_then there_then (path_to q path)
      (unopened
      (record {
        open_ = ap (question_reference path) at;
        before = there.inbox;
        opening = m;
        after = [];
        only = only_last there.inbox (opens_place (path_to q path)) m unopened_ it;
        sent_after = lane_unmade (flat_map (sent_for mid) (there.inbox ++ m ∷ []));
        mark = unmarked;
        untold = untold;
        no_back = lane_unmade (flat_map (forwarded_for mid there.vat) here.inbox);
        no_waits = lane_unmade (flat_map (λ call. waits_for mid call.origin) (waiting_calls there.vat));
        none_here = lane_unmade (flat_map (λ call. waits_as call call.origin) (waiting_calls mid));
      }))

-- the application asks for the peer's bootstrap capability
module _ (s : State) (inbox : List Message) (there : End) (local_ : Local s) (agree : Agree (accounts_of s) inbox (accounts_of there.vat) there.inbox) (q : ℕ)
    (fresh : get s.entries.questions q ≡ None) where
  abbrev here : End
  here = record { vat = s; inbox = inbox }

  abbrev opening : Message
  opening = messages.Bootstrap (record { question_id = q })

  abbrev mid : State
  mid = asked s q kinds.Wire None true

  abbrev mid_end : End
  mid_end = record { vat = mid; inbox = inbox }

  h : Within s None []
  h = local_is_within s local_

  none : get s.values.questions q ≡ None
  none = fresh_value h q fresh

  fits : Fits None (returns_of q inbox) (will_stand q there.inbox (standing_of ((accounts_of there.vat).answers q)))
  fits = rw fresh at (agree.lives q)

  unmarked : (path : List ℕ) → get s.marks.paths (q ∷ path) ≡ None
  unmarked path = by (get s.marks.paths (q ∷ path)) refl
    where
      by : (o : Option (Option ℕ)) → get s.marks.paths (q ∷ path) ≡ o → get s.marks.paths (q ∷ path) ≡ None
      by None is = is
      by (Some mark) is =
          let on = there_of (IsPathMark s (q ∷ path)) (get s.marks.paths (q ∷ path)) mark is (h.path_marks (q ∷ path)) in
          absurd (true≢false (sym on.0 ∙ ap is_wire none))

  bearing : SameBearing s mid
  bearing = record { tickets = λ r. ticket_at r (q == r) refl; forwards = λ r. forward_at r (q == r) refl }
    where
      at_q : (r : ℕ) → (q == r) ≡ true → get s.entries.questions r ≡ None
      at_q r t = ap (λ x. get s.entries.questions x) (sym (is_equal q r t)) ∙ fresh

      ticket_at : (r : ℕ) (b : Bool) → (q == r) ≡ b → own_ticket (get mid.entries.questions r) ≡ own_ticket (get s.entries.questions r)
      ticket_at r true t = ap own_ticket (put_at s.entries.questions q r _ true t) ∙ sym (ap own_ticket (at_q r t))
      ticket_at r false t = ap own_ticket (put_at s.entries.questions q r _ false t)

      forward_at : (r : ℕ) (b : Bool) → (q == r) ≡ b → answer_forwarded (get mid.entries.questions r) ≡ answer_forwarded (get s.entries.questions r)
      forward_at r true t = ap answer_forwarded (put_at s.entries.questions q r _ true t) ∙ sym (ap answer_forwarded (at_q r t))
      forward_at r false t = ap answer_forwarded (put_at s.entries.questions q r _ false t)

  silent : Silent s (effects.Send opening ∷ []) mid
  silent = record { calls = refl; bearing = bearing; no_call = refl; no_delivery = refl }

  others : (ref : Reference) → (IsPathOf q ref → ⊥) → RefCalm s (effects.Send opening ∷ []) mid ref
  others (import_ i) not_ =
      record {
        same = refl;
        unheld = λ m is. is;
        absent_ = λ t is. is;
        local_ = λ gate is. absurd is;
        mark = refl;
        gave_ = λ gate cap is. is;
        no_open = λ is. refl;
        no_loop = λ n. refl;
      }
  others (path_to r path) not_ =
      let other = differs r (q == r) refl not_ in
      let same = put_at s.values.questions q r (record { kind = kinds.Wire; outcome = None }) false other in
      record {
        same = ap (question_reference path) same;
        unheld = λ m is. absurd is;
        absent_ = λ t is. same ∙ is;
        local_ = λ gate is. (rw (same) is.0, is.1);
        mark = refl;
        gave_ = λ gate cap is. is;
        no_open = λ is. rw (other) refl;
        no_loop = λ n. refl;
      }
    where
      differs : (r : ℕ) (b : Bool) → (q == r) ≡ b → ((q ≡ r) → ⊥) → (q == r) ≡ false
      differs r true t not_ = absurd (not_ (is_equal q r t))
      differs r false t not_ = t

  abbrev AskedThen : Reference → List ℕ → List Delivery → Type 0
  AskedThen ref made delivered = LaneHolds mid_end (with_mail there (opening ∷ [])) ref made delivered

  path_asked : (path : List ℕ) (made : List ℕ) (delivered : List Delivery) → LaneHolds here there (path_to q path) made delivered → AskedThen (path_to q path) made delivered
  path_asked path made delivered holds =
      let nothing = unmade here there q path made delivered none holds in
      rw
      (nothing.0, nothing.1)
      (inr
      (opens_lane here there q path mid opening (put_at s.values.questions q q (record { kind = kinds.Wire; outcome = None }) true (is_itself q)) (is_itself q)
      (fresh_unopened q (returns_of q inbox) there.inbox (standing_of ((accounts_of there.vat).answers q)) fits)
      (none_returned q path inbox (fits_none (returns_of q inbox) (will_stand q there.inbox (standing_of ((accounts_of there.vat).answers q))) fits)) (unmarked path)))

  other_asked : (ref : Reference) (made : List ℕ) (delivered : List Delivery) → (IsPathOf q ref → ⊥) → LaneHolds here there ref made delivered → AskedThen ref made delivered
  other_asked ref made delivered not_ holds =
      let done = silent_lane here there ref made mid inbox (effects.Send opening ∷ []) silent (others ref not_) (λ e cap is. is) (inl refl) delivered holds in
      rw (append-nil delivered) at done

  pub asked_lane : (ref : Reference) (made : List ℕ) (delivered : List Delivery) → LaneHolds here there ref made delivered → AskedThen ref made delivered
  asked_lane (import_ i) made delivered holds = other_asked (import_ i) made delivered (λ is. is) holds
  asked_lane (path_to r path) made delivered holds = by (q == r) refl
    where
      by : (b : Bool) → (q == r) ≡ b → AskedThen (path_to r path) made delivered
      by true t =
          let same : q ≡ r = is_equal q r t in
          let done = path_asked path made delivered (subst (λ k. LaneHolds here there (path_to k path) made delivered) (sym same) holds) in
          subst (λ k. AskedThen (path_to k path) made delivered) same done
      by false t = other_asked (path_to r path) made delivered (λ is. not_equal q r t is) holds

pub bootstrap_asks : (s : State) (inbox : List Message) (there : End) (ref : Reference) (made : List ℕ) (delivered : List Delivery) (done : OwnDone) → Local s
    → Agree (accounts_of s) inbox (accounts_of there.vat) there.inbox → DoBootstrap s (Ok done) → LaneHolds (record { vat = s; inbox = inbox }) there ref made delivered
    → LaneHolds (record { vat = done.2; inbox = inbox }) (with_mail there (messages_sent done.1)) ref made (delivered ++ lane_delivered s there.vat made done.1)
bootstrap_asks s inbox there ref made delivered done local_ agree does holds =
    let parts = then_out {A = ℕ} {B = OwnDone} (Fresh s.entries.questions) _ done (or_full_out _ _ does) in
    rw
    (ok_in _ _ parts.2, append-nil delivered)
    (asked_lane s inbox there local_ agree parts.0 (free_out s.entries.questions parts.0 parts.1) ref made delivered holds)
