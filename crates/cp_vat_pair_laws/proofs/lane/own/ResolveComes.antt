-- A Resolve that comes keeps each lane of its own end: that of its import is told.
use Rattle.std.specs.Prelude.{◌≡◌, ◌⊎◌, refl, ℕ, ◌==◌, ◌||◌, not, ◌++◌, Bool, true, false, List, [], ◌∷◌, Option, Some, None, is_some, IsTrue, Result, Ok}
use Rattle.std.specs.List.{list_any}
use Rattle.std.specs.FinMap.{get}
use Rattle.std.proofs.Common.{inl, inr, ap, subst, sym, ◌∙◌, append-nil, true≢false}
use Rattle.cp_tables.specs.declared.counted.Counted.{Counted}
use Rattle.cp_messages.specs.declared.descriptor.Descriptor.{Descriptor}
use Rattle.cp_messages.specs.declared.descriptor.Descriptor.TheVariants as descriptors
use Rattle.cp_messages.specs.declared.message.Message.{Message}
use Rattle.cp_messages.specs.declared.message.Message.TheVariants as messages
use Rattle.cp_messages.specs.declared.resolve.Resolution.{Resolution}
use Rattle.cp_messages.specs.declared.resolve.Resolution.TheVariants as resolutions
use Rattle.cp_messages.specs.declared.resolve.Resolve.{Resolve}
use Rattle.cp_refs.specs.declared.cap.Cap.{Cap}
use Rattle.cp_refs.specs.declared.cap.Cap.TheVariants as caps
use Rattle.cp_refs.specs.declared.call.WaitingCall.{WaitingCall}
use Rattle.cp_vat_machine.specs.State.{State, none_over}
use Rattle.cp_vat_machine.specs.Then.{Done, Then, fault_if}
use Rattle.cp_vat_machine.specs.Writing.{IsExport, mentioned_by, mentions_of}
use Rattle.cp_vat_machine.specs.Receiving.{times, held_import, taken_export, ReceivesCap}
use Rattle.cp_vat_machine.specs.Resolving.{is_open_promise, TakeResolution, resolved, ResolveOf, OnResolve}
use Rattle.cp_vat_machine.specs.Calling.{on_wire, came_to, import_reference, reference_of}
use Rattle.cp_vat_machine.specs.Local.{Local}
use Rattle.cp_vat_machine.specs.declared.effect.Effect.{Effect}
use Rattle.cp_vat_machine.specs.declared.entry.ImportKind.{ImportKind}
use Rattle.cp_vat_machine.specs.declared.entry.ImportKind.TheVariants as kinds
use Rattle.cp_vat_machine.specs.declared.fault.PeerFault.{PeerFault}
use Rattle.cp_vat_machine.specs.declared.fault.PeerFault.TheVariants as faults
use Rattle.cp_vat_machine.proofs.Basics.{some_out, none_out, ok_in, ok_out, then_out, unless_out, not_false, is_equal, is_itself, put_at}
use Rattle.cp_vat_laws.specs.Within.{Within}
use Rattle.cp_vat_laws.proofs.Tables.{no_faults, not_met}
use Rattle.cp_vat_laws.proofs.within.Between.{local_is_within}
use Rattle.cp_vat_laws.proofs.within.Take.{take_keeps}
use Rattle.cp_vat_pair_laws.specs.Accounts.{accounts_of, taken_in}
use Rattle.cp_vat_pair_laws.specs.Lives.{Agree, is_settled_descriptor}
use Rattle.cp_vat_pair_laws.specs.VatPair.{End, messages_sent, with_mail}
use Rattle.cp_vat_pair_laws.specs.Lane.{Reference, import_, path_to, cap_of, CameTo, Delivery}
use Rattle.cp_vat_pair_laws.specs.Naming.{resolved_as}
use Rattle.cp_vat_pair_laws.specs.Phases.{of_lane, waits, waits_for, AllWait, LeadsBack, IsObject, IsOther, tells, told_by, Told, Phase, absent, unopened, unsettled, told, free, marked, embargoed, echoed, local_open, came_to_other, told_other, hosted_there, InLane, LaneHolds}
use Rattle.cp_vat_pair_laws.proofs.lane.Lists.{none_wait}
use Rattle.cp_vat_pair_laws.proofs.lane.OrderFollows.{over_none}
use Rattle.cp_vat_pair_laws.proofs.lane.Calm.{only_front}
use Rattle.cp_vat_pair_laws.proofs.lane.own.Calm.{LevelHere, IsApartHere}
use Rattle.cp_vat_pair_laws.proofs.lane.own.Phase.{tell_comes}
use Rattle.cp_vat_pair_laws.proofs.lane.parts.Silent.{Silent, bearing_same}
use Rattle.cp_vat_pair_laws.proofs.lane.own.NotOfLane.{silent_here}
use Rattle.cp_vat_pair_laws.proofs.lane.own.Reference.{RefCalm}
use Rattle.cp_vat_pair_laws.proofs.lane.own.NoCallMoves.{silent_lane}
use Rattle.cp_vat_pair_laws.proofs.lane.own.Turn.{lane_delivered}
use Rattle.cp_vat_pair_laws.proofs.lane.own.Take.{take_back, take_lane}
use Rattle.cp_vat_pair_laws.proofs.counts.rules.Take.{take_in}

-- What is told is taken as: an export of this end by a receiverHosted, and else no object.
abbrev pub IsTakenAs : Option Descriptor → State → Cap → Type 0
IsTakenAs (Some (descriptors.ReceiverHosted e)) s value = IsExport s e value
IsTakenAs other s value = IsObject value → ⊥

pub same_export : (s : State) (e : ℕ) (one other : Cap) → IsExport s e one → IsExport s e other → one ≡ other
same_export s e one other is at = ap (λ x. x.kept) (some_out (sym is.1 ∙ at.1))

-- where it tells something else, that is no object
pub other_taken : (s : State) (d : Option Descriptor) (value : Cap) → IsTakenAs d s value → IsOther s d → IsObject value → ⊥
other_taken s None value taken other = taken
other_taken s (Some descriptors.None) value taken other = taken
other_taken s (Some (descriptors.SenderHosted i)) value taken other = taken
other_taken s (Some (descriptors.SenderPromise i)) value taken other = taken
other_taken s (Some (descriptors.ReceiverHosted e)) value taken other = rw (same_export s e value other.0 taken other.1) other.2
other_taken s (Some (descriptors.ReceiverAnswer a)) value taken other = taken
other_taken s (Some (descriptors.ThirdPartyHosted t)) value taken other = taken
other_taken s (Some (descriptors.Unknown n)) value taken other = taken

-- Nothing waits there at a gate that leads back, between events of the other end.
pub none_leads_back : (here there : End) (made : List ℕ) (e : ℕ) → there.vat.waiting.over ≡ none_over → AllWait here there made (LeadsBack there.vat e) → waits here there made ≡ []
none_leads_back here there made e none waiting =
    none_wait made (λ call. waits_for here.vat call.origin) there.vat.waiting.calls (λ ticket call is. by call (waiting ticket call is))
  where
    by : (call : WaitingCall) → of_lane made (waits_for here.vat call.origin) ≡ [] ⊎ LeadsBack there.vat e call.gate → of_lane made (waits_for here.vat call.origin) ≡ []
    by call (inl nothing) = nothing
    by call (inr leads) = absurd (over_none there.vat call.gate leads.0 none leads.1)

module _ (s : State) (r : Resolve) (rest : List Message) (there : End) (made : List ℕ) (delivered : List Delivery) (value : Cap)
    (at : get s.values.imports r.promise_id ≡ Some None) (taken : IsTakenAs (resolved_as r.resolution) s value) (none_there : there.vat.waiting.over ≡ none_over) where
  abbrev message : Message
  message = messages.Resolve r

  abbrev here : End
  here = record { vat = s; inbox = message ∷ rest }

  abbrev mid : State
  mid = resolved s r.promise_id value

  abbrev here_then : End
  here_then = record { vat = mid; inbox = rest }

  silent : Silent s [] mid
  silent = record { calls = refl; bearing = bearing_same s mid refl; no_call = refl; no_delivery = refl }

  -- other references
  other_ref : (ref : Reference) → tells ref message ≡ false → RefCalm s [] mid ref
  other_ref (import_ j) not_ =
      let same = put_at s.values.imports r.promise_id j (Some value) false not_ in
      record {
        same = ap import_reference same;
        unheld = λ m is. (same ∙ is.0, is.1);
        absent_ = λ t is. (same ∙ is.0, is.1);
        local_ = λ gate is. absurd is;
        mark = refl;
        gave_ = λ gate cap is. is;
        no_open = λ is. refl;
        no_loop = λ n. refl;
      }
  other_ref (path_to q path) not_ =
      record {
        same = refl;
        unheld = λ m is. absurd is;
        absent_ = λ t is. is;
        local_ = λ gate is. is;
        mark = refl;
        gave_ = λ gate cap is. is;
        no_open = λ is. refl;
        no_loop = λ n. refl;
      }

  apart : (ref : Reference) → tells ref message ≡ false → IsApartHere here there ref made message
  apart ref not_ = record { back_ = refl; tell = not_; echo = λ n is. refl }

  others_lane : (ref : Reference) → tells ref message ≡ false → LaneHolds here there ref made delivered → LaneHolds here_then (with_mail there []) ref made delivered
  others_lane ref not_ holds =
      let done = silent_lane here there ref made mid rest [] silent (other_ref ref not_) (λ e cap is. is) (inr (message, refl, apart ref not_)) delivered holds in
      rw (append-nil delivered) at done

  -- its own
  abbrev ref : Reference
  ref = import_ r.promise_id

  tells_it : tells ref message ≡ true
  tells_it = is_itself r.promise_id

  open_ : reference_of s.values (cap_of ref) ≡ on_wire
  open_ = ap import_reference at

  never_came : {A : Type 0} (v : Cap) → CameTo s ref v → A
  never_came v is = apart_ (sym open_ ∙ is)
    where
      apart_ : {A : Type 0} → on_wire ≡ came_to v → A
      apart_ e = absurd (cc)

  never_untold : {A : Type 0} → list_any (tells ref) here.inbox ≡ false → A
  never_untold none = absurd (true≢false (sym (ap (λ b. b || list_any (tells ref) rest) tells_it) ∙ none))

  came : CameTo mid ref value
  came = ap import_reference (put_at s.values.imports r.promise_id r.promise_id (Some value) true (is_itself r.promise_id))

  level : LevelHere here there made mid rest []
  level = silent_here here there made mid rest (inr (message, refl, refl)) [] silent

  told_then : InLane here there ref made delivered → Told here there ref made → LaneHolds here_then (with_mail there []) ref made delivered
  told_then lane p =
      let front = only_front message rest (tells ref) p.before p.telling p.after p.only tells_it in
      let says : resolved_as r.resolution ≡ Some (descriptors.ReceiverHosted p.number) = ap (told_by ref) (sym front.1) ∙ p.says in
      let mine : IsExport s p.number value = rw says at taken in
      let object : value ≡ caps.Object p.object = same_export s p.number value (caps.Object p.object) mine p.is_export in
      inr
      (tell_comes here there ref made mid rest [] level message refl tells_it p (came ∙ ap came_to object) refl (λ e cap is. is)
      (none_leads_back here there made p.number none_there p.waiting) delivered lane)

  own_lane : LaneHolds here there ref made delivered → LaneHolds here_then (with_mail there []) ref made delivered
  own_lane (inl (came_to_other p)) = never_came p.0 p.1
  own_lane (inl (told_other p)) =
      let front = only_front message rest (tells ref) p.before p.telling p.after p.only tells_it in
      let says : IsOther s (resolved_as r.resolution) = rw front.1 at p.says in
      inl (came_to_other (value, came, other_taken s (resolved_as r.resolution) value taken says))
  own_lane (inl (hosted_there p)) = never_untold p.untold
  own_lane (inr lane) = by lane.phase
    where
      by : Phase here there ref made → LaneHolds here_then (with_mail there []) ref made delivered
      by (absent p) = none_out (sym p.none.0 ∙ at)
      by (unopened p) = absurd (true≢false (sym p.only.it))
      by (unsettled p) = never_untold p.untold
      by (told p) = told_then lane p
      by (free p) = never_came (caps.Object p.object) p.came
      by (marked p) = never_came (caps.Object p.comes.object) p.comes.came
      by (embargoed p) = never_came (caps.Object p.comes.object) p.comes.came
      by (echoed p) = never_came (caps.Object p.comes.object) p.comes.came
      by (local_open p) = absurd p.open_

  pub resolved_lane : (any : Reference) → LaneHolds here there any made delivered → LaneHolds here_then (with_mail there []) any made delivered
  resolved_lane (import_ j) holds = by (r.promise_id == j) refl
    where
      by : (b : Bool) → (r.promise_id == j) ≡ b → LaneHolds here_then (with_mail there []) (import_ j) made delivered
      by true t =
          let same : r.promise_id ≡ j = is_equal r.promise_id j t in
          let done = own_lane (subst (λ k. LaneHolds here there (import_ k) made delivered) (sym same) holds) in
          subst (λ k. LaneHolds here_then (with_mail there []) (import_ k) made delivered) same done
      by false t = others_lane (import_ j) t holds
  resolved_lane (path_to q path) holds = others_lane (path_to q path) refl holds

-- what a Resolve tells, and what it is taken as
export_taken : (s : State) (e : ℕ) (o : Option (Counted Cap)) (taken : Cap × State) → get s.counts.exports e ≡ o → Ok taken ≡ taken_export s o
    → IsExport taken.1 e taken.0
export_taken s e None taken at is = ok_out is
export_taken s e (Some entry) taken at is = rw (ok_in _ _ is) (entry.count, at)

import_taken : (s : State) (i : ℕ) (kind : ImportKind) (taken : Cap × State)
    → Then (λ held. held ≡ held_import s i kind) (λ new out. out ≡ Ok (caps.Import i, new)) (Ok taken) → IsObject taken.0 → ⊥
import_taken s i kind taken is =
    let parts = then_out {A = State} {B = Cap × State} (λ held. held ≡ held_import s i kind) _ taken is in
    rw (ok_in _ _ parts.2) (λ object. object)

pub taken_as : (s : State) (d : Descriptor) (taken : Cap × State) → IsTrue (is_settled_descriptor d) → ReceivesCap s d (Ok taken) → IsTakenAs (Some d) taken.1 taken.0
taken_as s descriptors.None taken settled is = rw (ok_in _ _ is) (λ object. object)
taken_as s (descriptors.SenderHosted i) taken settled is = import_taken s i kinds.Hosted taken is
taken_as s (descriptors.SenderPromise i) taken settled is = import_taken s i kinds.Promise taken is
taken_as s (descriptors.ReceiverHosted e) taken settled is = export_taken s e (get s.counts.exports e) taken refl is
taken_as s (descriptors.ReceiverAnswer answer) taken settled is = absurd (true≢false (sym settled))
taken_as s (descriptors.ThirdPartyHosted t) taken settled is = absurd is
taken_as s (descriptors.Unknown n) taken settled is = absurd is

open_import : (kind : ImportKind) (o : Option (Option Cap)) → is_open_promise kind o ≡ true → o ≡ Some None
open_import kinds.Promise (Some None) is = refl
open_import kinds.Promise None is = absurd (true≢false (sym is))
open_import kinds.Promise (Some (Some v)) is = absurd (true≢false (sym is))
open_import kinds.Hosted o is = absurd (true≢false (sym is))

module _ (s : State) (r : Resolve) (rest : List Message) (there : End) (ref : Reference) (made : List ℕ) (delivered : List Delivery) (local_ : Local s)
    (agree : Agree (accounts_of s) (messages.Resolve r ∷ rest) (accounts_of there.vat) there.inbox) (none_there : there.vat.waiting.over ≡ none_over) where
  abbrev ResolvedThen : List Effect → State → Type 0
  ResolvedThen done new = LaneHolds (record { vat = new; inbox = rest }) (with_mail there (messages_sent done)) ref made (delivered ++ lane_delivered s there.vat made done)

  h : Within s None []
  h = local_is_within s local_

  taken_then : (resolution : Resolution) (taken : Cap × State) → r.resolution ≡ resolution → get s.values.imports r.promise_id ≡ Some None
      → TakeResolution s resolution (Ok taken) → LaneHolds (record { vat = s; inbox = messages.Resolve r ∷ rest }) there ref made delivered
      → LaneHolds (record { vat = resolved taken.1 r.promise_id taken.0; inbox = rest }) (with_mail there []) ref made delivered
  taken_then (resolutions.Cap d) taken is at takes holds =
      let settled : IsTrue (is_settled_descriptor d) = rw is at agree.usual.0.1 in
      let well = take_keeps None [] s d taken h local_.none_over_ takes in
      let counted = take_in s d taken takes in
      let named : (i : ℕ) → times i (mentions_of (d ∷ [])) ≡ times i (taken_in (accounts_of s).questions (messages.Resolve r)) =
      λ i. rw (is) (ap (times i) (append-nil (mentioned_by d))) in
      let first = take_lane s taken.1 (messages.Resolve r) rest there ref made (d ∷ []) well.1 (take_back s d taken takes) counted.counted named agree h well.0 delivered holds in
      let told_as : IsTakenAs (resolved_as r.resolution) taken.1 taken.0 = rw (is) (taken_as s d taken settled takes) in
      resolved_lane taken.1 r rest there made delivered taken.0 (well.1.imports r.promise_id None at) told_as none_there ref first
  taken_then (resolutions.Exception x) taken is at takes holds =
      let same = ok_in _ _ takes in
      let told_as : IsTakenAs (resolved_as r.resolution) s (caps.Broken x) = rw (is) (λ object. object) in
      rw (same) (resolved_lane s r rest there made delivered (caps.Broken x) at told_as none_there ref holds)
  taken_then (resolutions.Unknown n) taken is at takes holds = absurd takes

  resolve_of : (o : Option (Counted ImportKind)) (done : Done) → IsTrue (is_some o) → ResolveOf s r o (Ok done)
      → LaneHolds (record { vat = s; inbox = messages.Resolve r ∷ rest }) there ref made delivered → ResolvedThen done.0 done.1
  resolve_of None done held does holds = absurd (true≢false (sym held))
  resolve_of (Some entry) done held does holds =
      let Rule : Result Done PeerFault → Type 0 =
      Then (TakeResolution s r.resolution) (λ taken out. out ≡ Ok ([], resolved taken.1 r.promise_id taken.0)) in
      let test = fault_if (not (is_open_promise entry.kept (get s.values.imports r.promise_id))) faults.NotAnOpenPromise in
      let rule = unless_out {A = Done} {F = PeerFault} test Rule done does in
      let none = no_faults {A = Done} {F = PeerFault} test Rule done does in
      let is_open = not_false _ (not_met (not (is_open_promise entry.kept (get s.values.imports r.promise_id))) faults.NotAnOpenPromise none) in
      let at = open_import entry.kept (get s.values.imports r.promise_id) is_open in
      let parts = then_out {A = Cap × State} {B = Done} (TakeResolution s r.resolution) _ done rule in
      rw (ok_in _ _ parts.2, append-nil delivered) (taken_then r.resolution parts.0 refl at parts.1 holds)

  pub resolve_comes : (done : Done) → IsTrue (is_some (get s.counts.imports r.promise_id)) → OnResolve s r (Ok done)
      → LaneHolds (record { vat = s; inbox = messages.Resolve r ∷ rest }) there ref made delivered → ResolvedThen done.0 done.1
  resolve_comes done held does holds = resolve_of (get s.counts.imports r.promise_id) done held does holds
