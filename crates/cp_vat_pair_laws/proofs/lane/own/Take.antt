-- A capability table that is taken in at its own end keeps each lane: it opens imports, and resolves none.
use Rattle.std.specs.Prelude.{◌≡◌, refl, ℕ, ◌+◌, ◌<◌, ltb, if◌then◌else◌, Bool, true, false, List, [], ◌∷◌, Option, Some, None, is_some, Ok, Err}
use Rattle.std.specs.FinMap.{get, insert}
use Rattle.std.proofs.Common.{inl, inr, arith, ap, sym, ◌∙◌, append-nil, true≢false}
use Rattle.cp_tables.specs.Counted.{new_counted, count_of, IsCount}
use Rattle.cp_tables.specs.declared.counted.Counted.{Counted}
use Rattle.cp_messages.specs.declared.descriptor.Descriptor.{Descriptor}
use Rattle.cp_messages.specs.declared.descriptor.Descriptor.TheVariants as descriptors
use Rattle.cp_messages.specs.declared.message.Message.{Message}
use Rattle.cp_refs.specs.declared.cap.Cap.{Cap}
use Rattle.cp_refs.specs.declared.cap.Cap.TheVariants as caps
use Rattle.cp_refs.specs.declared.outcome.Outcome.{Outcome}
use Rattle.cp_refs.specs.declared.route.Gate.{Gate}
use Rattle.cp_vat_machine.specs.State.{State, gave}
use Rattle.cp_vat_machine.specs.Then.{Then}
use Rattle.cp_vat_machine.specs.Capacity.{has_capacity, Fresh}
use Rattle.cp_vat_machine.specs.Writing.{IsExport, mentions_of}
use Rattle.cp_vat_machine.specs.Receiving.{times, answer_of, path_of, held_once_more, held_import, ReceivesAnswer, taken_export, ReceivesCap, ReceivesCaps}
use Rattle.cp_vat_machine.specs.Calling.{plain, on_wire, came_to, import_reference, question_reference, reference_of, mark_of}
use Rattle.cp_vat_machine.specs.Calling as calling
use Rattle.cp_vat_machine.specs.declared.entry.ImportKind.{ImportKind}
use Rattle.cp_vat_machine.specs.declared.entry.ImportKind.TheVariants as kinds
use Rattle.cp_vat_machine.specs.declared.fault.PeerFault.TheVariants as faults
use Rattle.cp_vat_machine.proofs.Basics.{none_out, ok_in, ok_out, then_out}
use Rattle.cp_vat_laws.specs.Within.{Within}
use Rattle.cp_vat_laws.proofs.Tables.{there_of, put_cases}
use Rattle.cp_vat_laws.proofs.within.Take.{Grows}
use Rattle.cp_vat_pair_laws.specs.Accounts.{accounts_of, taken_in}
use Rattle.cp_vat_pair_laws.specs.Lives.{Agree}
use Rattle.cp_vat_pair_laws.specs.VatPair.{End, with_mail}
use Rattle.cp_vat_pair_laws.specs.Lane.{Reference, import_, path_to, cap_of, Delivery}
use Rattle.cp_vat_pair_laws.specs.Phases.{IsYet, IsAbsent, IsLocalOpen, Absent, absent, GaveObject, InLane, LaneHolds}
use Rattle.cp_vat_pair_laws.proofs.lane.own.Calm.{LevelHere, CalmHere, calm_here, level_waits_here}
use Rattle.cp_vat_pair_laws.proofs.lane.OrderFollows.{absent_plain}
use Rattle.cp_vat_pair_laws.proofs.lane.own.Phase.{another_phase}
use Rattle.cp_vat_pair_laws.proofs.lane.parts.Silent.{Silent, bearing_same}
use Rattle.cp_vat_pair_laws.proofs.lane.own.NotOfLane.{silent_here}

-- Nothing that is taken in resolves an import.
abbrev pub ResolvesNone : State → State → Type 0
ResolvesNone old new = (i : ℕ) (value : Cap) → get new.values.imports i ≡ Some (Some value) → get old.values.imports i ≡ Some (Some value)

held_back : (old : State) (i : ℕ) (kind : ImportKind) (o : Option (Counted ImportKind)) (new : State) → Ok new ≡ held_once_more old i kind o → ResolvesNone old new
held_back old i kind (Some entry) new is = by (ltb entry.count 4294967295) is
  where
    by : (b : Bool)
        → Ok new
        ≡ (if b then Ok (record old { counts = record old.counts { imports = insert old.counts.imports i (record entry { count = entry.count + 1 }) } })
        else Err faults.TableFull)
        → ResolvesNone old new
    by true is = λ j value at. sym (ap (λ (s : State). get s.values.imports j) (ok_in _ _ is)) ∙ at
    by false is = ok_out is
held_back old i kind None new is = by (has_capacity old.counts.imports) is
  where
    opened : State
    opened = record old {
      counts = record old.counts { imports = insert old.counts.imports i (new_counted kind) };
      values = record old.values { imports = insert old.values.imports i None };
    }

    back : (j : ℕ) (value : Cap) → get (insert old.values.imports i None) j ≡ Some (Some value) → get old.values.imports j ≡ Some (Some value)
    back j value at =
        elim (put_cases old.values.imports i j None (Some value) at) [ inl new_ ↦ none_out new_.1 | inr was ↦ was.1 ]

    by : (b : Bool)
        → Ok new
        ≡ (if b then Ok (
        record old {
          counts = record old.counts { imports = insert old.counts.imports i (new_counted kind) };
          values = record old.values { imports = insert old.values.imports i None };
        }
        ) else Err faults.TableFull)
        → ResolvesNone old new
    by true is = λ j value at. back j value (sym (ap (λ (s : State). get s.values.imports j) (ok_in _ _ is)) ∙ at)
    by false is = ok_out is

import_back : (old : State) (i : ℕ) (kind : ImportKind) (taken : Cap × State)
    → Then (λ held. held ≡ held_import old i kind) (λ new out. out ≡ Ok (caps.Import i, new)) (Ok taken) → ResolvesNone old taken.1
import_back old i kind taken is =
    let parts = then_out {A = State} {B = Cap × State} (λ held. held ≡ held_import old i kind) _ taken is in
    rw (ok_in _ _ parts.2) (held_back old i kind (get old.counts.imports i) parts.0 parts.1)

answer_back : (old : State) (a : ℕ) (path : List ℕ) (o : Option (Option Outcome)) (taken : Cap × State) → ReceivesAnswer old a path o (Ok taken) → ResolvesNone old taken.1
answer_back old a path None taken is = ok_out is
answer_back old a path (Some (Some outcome)) taken is = rw (ok_in _ _ is) (λ i value at. at)
answer_back old a path (Some None) taken is =
    let parts = then_out {A = ℕ} {B = Cap × State} (Fresh old.values.promises) _ taken is in
    rw (ok_in _ _ parts.2) (λ i value at. at)

export_back : (old : State) (o : Option (Counted Cap)) (taken : Cap × State) → Ok taken ≡ taken_export old o → ResolvesNone old taken.1
export_back old None taken is = ok_out is
export_back old (Some entry) taken is = rw (ok_in _ _ is) (λ i value at. at)

pub take_back : (old : State) (d : Descriptor) (taken : Cap × State) → ReceivesCap old d (Ok taken) → ResolvesNone old taken.1
take_back old descriptors.None taken is = rw (ok_in _ _ is) (λ i value at. at)
take_back old (descriptors.SenderHosted i) taken is = import_back old i kinds.Hosted taken is
take_back old (descriptors.SenderPromise i) taken is = import_back old i kinds.Promise taken is
take_back old (descriptors.ReceiverHosted e) taken is = export_back old (get old.counts.exports e) taken is
take_back old (descriptors.ReceiverAnswer answer) taken is =
    answer_back old answer.question_id (path_of answer.transform) (answer_of old answer.question_id) taken is
take_back old (descriptors.ThirdPartyHosted t) taken is = absurd is
take_back old (descriptors.Unknown n) taken is = absurd is

pub take_all_back : (table : List Descriptor) (old : State) (taken : List Cap × State) → ReceivesCaps old table (Ok taken) → ResolvesNone old taken.1
take_all_back [] old taken is = rw (ok_in _ _ is) (λ i value at. at)
take_all_back (d ∷ table) old taken is =
    let first = then_out {A = Cap × State} {B = List Cap × State} (ReceivesCap old d) _ taken is in
    let rest = then_out {A = List Cap × State} {B = List Cap × State} (ReceivesCaps first.0.1 table) _ taken first.2 in
    rw
    (ok_in _ _ rest.2)
    (λ i value at. take_back old d first.0 first.1 i value (take_all_back table first.0.1 rest.0 rest.1 i value at))

-- the table of a message to this end is taken in
module _ (s new : State) (m : Message) (rest : List Message) (there : End) (ref : Reference) (made : List ℕ) (ds : List Descriptor) (grows : Grows s new)
    (back : ResolvesNone s new) (counted : (i : ℕ) → count_of new.counts.imports i ≡ count_of s.counts.imports i + times i (mentions_of ds))
    (named : (i : ℕ) → times i (mentions_of ds) ≡ times i (taken_in (accounts_of s).questions m))
    (agree : Agree (accounts_of s) (m ∷ rest) (accounts_of there.vat) there.inbox) (h : Within s None []) (then_ : Within new None []) where
  abbrev here : End
  here = record { vat = s; inbox = m ∷ rest }

  abbrev here_then : End
  here_then = record { vat = new; inbox = m ∷ rest }

  -- An import that is opened is an export of the other end's.
  valued : (t : State) → Within t None [] → (i : ℕ) (o : Option (Counted ImportKind)) → get t.counts.imports i ≡ o → is_some (get t.values.imports i) ≡ true → 0 < count_of t.counts.imports i
  valued t w i None at is = absurd (true≢false (sym is ∙ sym (w.imports_valued i) ∙ ap is_some at))
  valued t w i (Some entry) at is =
      let fine = there_of (λ (x : Counted ImportKind). IsCount x.count) (get t.counts.imports i) entry at (w.imported i) in
      rw (at) fine.0

  unvalued : (i : ℕ) → get s.values.imports i ≡ None → count_of s.counts.imports i ≡ 0
  unvalued i none = by (get s.counts.imports i) refl
    where
      by : (o : Option (Counted ImportKind)) → get s.counts.imports i ≡ o → count_of s.counts.imports i ≡ 0
      by None at = rw (at) refl
      by (Some entry) at = absurd (true≢false (sym (ap is_some at) ∙ h.imports_valued i ∙ ap is_some none))

  opened_is_there : {A : Type 0} (i : ℕ) (o : Option Cap) → get s.values.imports i ≡ None → get new.values.imports i ≡ Some o → get there.vat.counts.exports i ≡ None → A
  opened_is_there i o none opened absent_ =
      let above = valued new then_ i (get new.counts.imports i) refl (ap is_some opened) in
      let none_there : count_of there.vat.counts.exports i ≡ 0 = rw (absent_) refl in
      let owed = agree.counts_back i in
      absurd (omega (arith, above, none_there, owed, counted i, named i, unvalued i none))

  -- what becomes of references
  import_same : (i : ℕ) (o : Option Cap) → get s.values.imports i ≡ Some o → import_reference (get new.values.imports i) ≡ import_reference (get s.values.imports i)
  import_same i o is = ap import_reference (grows.imports i o is ∙ sym is)

  not_plain : (r : Reference) (x : calling.Standing) → reference_of s.values (cap_of r) ≡ x → (x ≡ plain → ⊥) → reference_of new.values (cap_of r) ≡ x
  not_plain (import_ i) x is not_ = by (get s.values.imports i) refl
    where
      by : (o : Option (Option Cap)) → get s.values.imports i ≡ o → reference_of new.values (cap_of (import_ i)) ≡ x
      by None at = absurd (not_ (sym is ∙ ap import_reference at))
      by (Some o) at = import_same i o at ∙ is
  not_plain (path_to q path) x is not_ = ap (λ m. question_reference path (get m q)) grows.questions ∙ is

  apart_wire : on_wire ≡ plain → ⊥
  apart_wire e = absurd (cc)

  apart_came : (value : Cap) → came_to value ≡ plain → ⊥
  apart_came value e = absurd (cc)

  yet_on : (r : Reference) → IsYet s r made → IsYet new r made
  yet_on r (inl open_) = inl (not_plain r on_wire open_ apart_wire)
  yet_on (import_ i) (inr unheld) = by (get new.values.imports i) refl
    where
      by : (o : Option (Option Cap)) → get new.values.imports i ≡ o → IsYet new (import_ i) made
      by None at = inr (at, unheld.1)
      by (Some None) at = inl (ap import_reference at)
      by (Some (Some value)) at = none_out (sym unheld.0 ∙ back i value at)
  yet_on (path_to q path) (inr unheld) = absurd unheld

  local_on : (r : Reference) (gate : Gate) → IsLocalOpen s r gate → IsLocalOpen new r gate
  local_on (import_ i) gate is = absurd is
  local_on (path_to q path) gate is = (rw (grows.questions) is.0, is.1)

  mark_on : (r : Reference) → mark_of new (cap_of r) ≡ mark_of s (cap_of r)
  mark_on (import_ i) = ap (λ m. get m.imports i) grows.marks
  mark_on (path_to q path) = ap (λ m. get m.paths (q ∷ path)) grows.marks

  silent : Silent s [] new
  silent = record { calls = ap (λ w. w.calls) grows.waiting; bearing = bearing_same s new grows.asked; no_call = refl; no_delivery = refl }

  level : LevelHere here there made new (m ∷ rest) []
  level = silent_here here there made new (m ∷ rest) (inl refl) [] silent

  exports_on : (e : ℕ) (cap : Cap) → IsExport s e cap → IsExport new e cap
  exports_on e cap is = rw (grows.exports) is

  calm : CalmHere here there ref made new (m ∷ rest) []
  calm =
      record {
        level = level;
        open_ = λ is. not_plain ref on_wire is apart_wire;
        yet = yet_on ref;
        came = λ value is. not_plain ref (came_to value) is (apart_came value);
        local_ = local_on ref;
        mark = mark_on ref;
        exports = exports_on;
        gave_ = λ k waiting.
            level_waits_here here there made new (m ∷ rest) [] level (GaveObject s k) (GaveObject new k) (λ gate is. ap (λ w. gave w.over gate) grows.waiting ∙ is) waiting;
        unopened_ = λ is. refl;
        no_loop = λ n is. refl;
        front = inl refl;
      }

  absent_stays : (r : Reference) → IsAbsent s there.vat r → IsAbsent new there.vat r
  absent_stays (import_ i) is = (by (get new.values.imports i) refl, is.1)
    where
      by : (o : Option (Option Cap)) → get new.values.imports i ≡ o → get new.values.imports i ≡ None
      by None at = at
      by (Some o) at = opened_is_there i o is.0 at is.1
  absent_stays (path_to q path) is = ap (λ m. get m q) grows.questions ∙ is

  absent_on : (delivered : List Delivery) → Absent here there ref made → InLane here there ref made delivered → LaneHolds here_then (with_mail there []) ref made delivered
  absent_on delivered p lane =
      let none = absent_stays ref p.none in
      let are = lane.delivered_ in
      inr
      (another_phase here there ref made new (m ∷ rest) [] level delivered
      (rw (absent_plain new there.vat ref none) (rw (absent_plain s there.vat ref p.none) at are)) lane (absent (record { none = none; unmade = p.unmade })))

  pub take_lane : (delivered : List Delivery) → LaneHolds here there ref made delivered → LaneHolds here_then there ref made delivered
  take_lane delivered holds =
      let done = calm_here here there ref made new (m ∷ rest) [] calm delivered (absent_on delivered) holds in
      rw mail at done
    where
      mail : with_mail there [] ≡ there
      mail = ap (λ inbox. record there { inbox = inbox }) (append-nil there.inbox)
