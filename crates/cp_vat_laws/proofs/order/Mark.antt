-- References and their marks.
use Rattle.std.specs.Prelude.{◌≡◌, ◌⊎◌, refl, ℕ, zero, suc, ◌==◌, cond, Bool, true, false, List, [], ◌∷◌, Option, Some, None, is_some, IfSome}
use Rattle.std.specs.Ordering.{nat_cmp, eq_by_cmp, is_eq}
use Rattle.std.specs.Cmp.Lexicographic.{slice_cmp, nat_list_cmp_total}
use Rattle.std.specs.Cmp.{tied_itself}
use Rattle.std.specs.FinMap.{get, insert, get-insert, slice_cmp-IsAntisymmetric, nat_cmp-IsAntisymmetric}
use Rattle.std.specs.declared.cmp.Ordering.{Ordering}
use Rattle.std.specs.declared.cmp.Ordering.TheVariants.{Equal, Less, Greater}
use Rattle.std.proofs.Common.{inl, inr, ap, subst, sym, ◌∙◌, true≢false}
use Rattle.cp_refs.specs.At.{cap_at}
use Rattle.cp_refs.specs.Route.{question_way, outcome_way, route_by, route_within, Routes}
use Rattle.cp_refs.specs.Values.{ValueMaps}
use Rattle.cp_refs.specs.declared.cap.Cap.{Cap}
use Rattle.cp_refs.specs.declared.cap.Cap.TheVariants as caps
use Rattle.cp_refs.specs.declared.outcome.Outcome.{Outcome}
use Rattle.cp_refs.specs.declared.route.Route.{Route}
use Rattle.cp_refs.specs.declared.values.QuestionState.{QuestionState}
use Rattle.cp_refs.specs.declared.values.QuestionKind.{QuestionKind}
use Rattle.cp_refs.specs.declared.values.QuestionKind.TheVariants as kinds
use Rattle.cp_vat_machine.specs.State.{State}
use Rattle.cp_vat_machine.specs.Calling.{Standing, plain, on_wire, came_to, import_reference, path_reference, question_reference, reference_of, mark_of, with_mark}
use Rattle.cp_vat_machine.specs.Local.{IsEmbargoOf, IsImportMark, import_value, path_value, is_wire, IsPathMark}
use Rattle.cp_vat_machine.specs.Ports.{capability, is_there}
use Rattle.cp_vat_laws.specs.Within.{Within}
use Rattle.cp_vat_laws.specs.OrderKept.{is_off_wire}
use Rattle.cp_vat_machine.proofs.Basics.{some_out, none_out, is_equal, is_itself, put_at}
use Rattle.cp_vat_laws.proofs.order.Basics.{there_is}
use Rattle.cp_vat_laws.proofs.order.Passes.{IsKept, Sound}
use Rattle.cp_vat_laws.proofs.order.Same.{IsGoing}
use Rattle.cp_vat_laws.proofs.order.NewCall.{IsSent}

-- what a reference came to
abbrev pub came : Standing → Option Cap
came (came_to v) = Some v
came other = None

abbrev pub is_plain : Standing → Bool
is_plain plain = true
is_plain other = false

-- an import that came to something, and a question's path
import_came : (o : Option (Option Cap)) (v : Cap) → import_reference o ≡ came_to v → o ≡ Some (Some v)
import_came None v e = none_out (ap came e)
import_came (Some None) v e = none_out (ap came e)
import_came (Some (Some w)) v e = ap (λ x. Some (Some x)) (some_out (ap came e))

path_came_by : (path : List ℕ) (kind : QuestionKind) (o : Option Outcome) (v : Cap) → path_reference path kind o ≡ came_to v → (outcome : Outcome) × (o ≡ Some outcome) × (v ≡ cap_at outcome path)
path_came_by path kinds.Wire None v e = none_out (ap came e)
path_came_by path kinds.Local None v e = none_out (ap came e)
path_came_by path kinds.Wire (Some outcome) v e = (outcome, refl, some_out (ap came (sym e)))
path_came_by path kinds.Local (Some outcome) v e = (outcome, refl, some_out (ap came (sym e)))

path_came : (path : List ℕ) (o : Option QuestionState) (v : Cap) → question_reference path o ≡ came_to v
    → (question : QuestionState) × (outcome : Outcome) × (o ≡ Some question) × (question.outcome ≡ Some outcome) × (v ≡ cap_at outcome path)
path_came path None v e = none_out (ap came e)
path_came path (Some question) v e = let by = path_came_by path question.kind question.outcome v e in (question, by.0, refl, by.1, by.2)

-- What a reference came to is kept.
pub came_kept : (s : State) (c v : Cap) → Sound s → reference_of s.values c ≡ came_to v → IsKept s v
came_kept s caps.None v sound e = none_out (ap came e)
came_kept s (caps.Object k) v sound e = none_out (ap came e)
came_kept s (caps.Promise p) v sound e = none_out (ap came e)
came_kept s (caps.Import i) v sound e = sound.imports i v (import_came (get s.values.imports i) v e)
came_kept s (caps.Pipelined q path) v sound e =
    let by = path_came path (get s.values.questions q) v e in
    rw (by.4) (sound.questions q by.0 by.1 path by.2 by.3)
came_kept s (caps.Broken x) v sound e = none_out (ap came e)

-- an embargo of a mark leads to what the reference came to
embargo_is : (s : State) (value : Option Cap) (m : ℕ) (v : Cap) → value ≡ Some v → IsEmbargoOf s value (Some m) → get s.marks.embargoes m ≡ Some v
embargo_is s value m v is h = sym h.0 ∙ is

path_is : (question : QuestionState) (outcome : Outcome) (path : List ℕ) → question.outcome ≡ Some outcome → path_value (Some question) path ≡ Some (cap_at outcome path)
path_is question outcome path e = rw (e) refl

pub mark_embargo : (s : State) (c v : Cap) (m : ℕ) → Within s None [] → reference_of s.values c ≡ came_to v → mark_of s c ≡ Some (Some m) → get s.marks.embargoes m ≡ Some v
mark_embargo s caps.None v m w e mark = none_out mark
mark_embargo s (caps.Object k) v m w e mark = none_out mark
mark_embargo s (caps.Promise p) v m w e mark = none_out mark
mark_embargo s (caps.Import i) v m w e mark =
    let fits = there_is (IsImportMark s i) (get s.marks.imports i) (Some m) mark (w.import_marks i) in
    embargo_is s (import_value (get s.values.imports i)) m v (ap import_value (import_came (get s.values.imports i) v e)) fits.1
mark_embargo s (caps.Pipelined q path) v m w e mark =
    let fits = there_is (IsPathMark s (q ∷ path)) (get s.marks.paths (q ∷ path)) (Some m) mark (w.path_marks (q ∷ path)) in
    let by = path_came path (get s.values.questions q) v e in
    embargo_is s (path_value (get s.values.questions q) path) m v (ap (λ o. path_value o path) by.2 ∙ path_is by.0 by.1 path by.3 ∙ ap (λ x. Some x) (sym by.4)) fits.1
mark_embargo s (caps.Broken x) v m w e mark = none_out mark

-- What is called as it is has no mark.
import_plain : (o : Option (Option Cap)) → import_reference o ≡ plain → is_some o ≡ true → ⊥
import_plain None e there = true≢false (sym there)
import_plain (Some None) e there = true≢false (sym (ap is_plain e))
import_plain (Some (Some v)) e there = true≢false (sym (ap is_plain e))

wire_plain : (path : List ℕ) (question : QuestionState) (kind : QuestionKind) (o : Option Outcome) → question.kind ≡ kind → question.outcome ≡ o → path_reference path kind o ≡ plain
    → is_wire (Some question) ≡ true → ⊥
wire_plain path question kinds.Wire None kind none e wire = true≢false (sym (ap is_plain e))
wire_plain path question kinds.Local None kind none e wire = true≢false (sym (rw (kind) at wire))
wire_plain path question kinds.Wire (Some outcome) kind given e wire = true≢false (sym (ap is_plain e))
wire_plain path question kinds.Local (Some outcome) kind given e wire = true≢false (sym (ap is_plain e))

path_plain : (path : List ℕ) (o : Option QuestionState) → question_reference path o ≡ plain → is_wire o ≡ true → ⊥
path_plain path None e wire = true≢false (sym wire)
path_plain path (Some question) e wire = wire_plain path question question.kind question.outcome refl refl e wire

pub plain_unmarked : (s : State) (c : Cap) → Within s None [] → is_there s.values (capability c) ≡ true → reference_of s.values c ≡ plain → mark_of s c ≡ None
plain_unmarked s caps.None w there e = refl
plain_unmarked s (caps.Object k) w there e = refl
plain_unmarked s (caps.Promise p) w there e = refl
plain_unmarked s (caps.Import i) w there e = absurd (import_plain (get s.values.imports i) e there)
plain_unmarked s (caps.Pipelined q path) w there e = by (get s.marks.paths (q ∷ path)) (w.path_marks (q ∷ path))
  where
    by : (o : Option (Option ℕ)) → IfSome o (IsPathMark s (q ∷ path)) → o ≡ None
    by None h = refl
    by (Some embargo) h = absurd (path_plain path (get s.values.questions q) e h.0)
plain_unmarked s (caps.Broken x) w there e = refl

-- One that is open on the wire leads there.
wire_question : (values : ValueMaps) (n q : ℕ) (path : List ℕ) (r : Route) (question : QuestionState) (kind : QuestionKind) (o : Option Outcome) → question.kind ≡ kind → question.outcome ≡ o
    → path_reference path kind o ≡ on_wire → route_by (λ next. route_within n values next) (outcome_way kind q path o) ≡ Some r → IsGoing r × IsSent r
wire_question values n q path r question kinds.Wire None kind none e h = subst (λ x. IsGoing x × IsSent x) (some_out h) (tt, tt)
wire_question values n q path r question kinds.Local None kind none e h = absurd (true≢false (ap is_off_wire e))
wire_question values n q path r question kinds.Wire (Some outcome) kind given e h = absurd (true≢false (ap is_off_wire e))
wire_question values n q path r question kinds.Local (Some outcome) kind given e h = absurd (true≢false (ap is_off_wire e))

wire_path : (values : ValueMaps) (n q : ℕ) (path : List ℕ) (r : Route) (o : Option QuestionState) → question_reference path o ≡ on_wire
    → route_by (λ next. route_within n values next) (question_way q path o) ≡ Some r → IsGoing r × IsSent r
wire_path values n q path r None e h = none_out h
wire_path values n q path r (Some question) e h = wire_question values n q path r question question.kind question.outcome refl refl e h

wire_within : (values : ValueMaps) (n : ℕ) (c : Cap) (r : Route) → reference_of values c ≡ on_wire → route_within n values c ≡ Some r → IsGoing r × IsSent r
wire_within values zero c r e h = none_out h
wire_within values (suc n) caps.None r e h = absurd (true≢false (ap is_off_wire e))
wire_within values (suc n) (caps.Object k) r e h = absurd (true≢false (ap is_off_wire e))
wire_within values (suc n) (caps.Promise p) r e h = absurd (true≢false (ap is_off_wire e))
wire_within values (suc n) (caps.Import i) r e h = subst (λ x. IsGoing x × IsSent x) (some_out h) (tt, tt)
wire_within values (suc n) (caps.Pipelined q path) r e h = wire_path values n q path r (get values.questions q) e h
wire_within values (suc n) (caps.Broken x) r e h = absurd (true≢false (ap is_off_wire e))

pub wire_route : (values : ValueMaps) (c : Cap) (r : Route) → reference_of values c ≡ on_wire → Routes values c r → IsGoing r × IsSent r
wire_route values c r e h = wire_within values h.0 c r e h.1

-- A mark that is set: that of the reference, and no other.
is_tie : (o : Ordering) → is_eq o ≡ true → o ≡ Equal
is_tie Less e = absurd (true≢false (sym e))
is_tie Equal e = refl
is_tie Greater e = absurd (true≢false (sym e))

same_key : (k x : List ℕ) → eq_by_cmp (slice_cmp nat_cmp) x k ≡ true → x ≡ k
same_key k x e = slice_cmp-IsAntisymmetric nat_cmp-IsAntisymmetric x k (is_tie (slice_cmp nat_cmp x k) e)

abbrev cap_of_key : List ℕ → Cap
cap_of_key [] = caps.None
cap_of_key (q ∷ path) = caps.Pipelined q path

other_import : (s : State) (i j : ℕ) (embargo : Option ℕ) (b : Bool) → (i == j) ≡ b
    → (caps.Import i ≡ caps.Import j) ⊎ (get (insert s.marks.imports i embargo) j ≡ get s.marks.imports j)
other_import s i j embargo true e = inl (ap (λ n. caps.Import n) (is_equal i j e))
other_import s i j embargo false e = inr (put_at s.marks.imports i j embargo false e)

other_path : (s : State) (q r : ℕ) (path along : List ℕ) (embargo : Option ℕ) (b : Bool) → eq_by_cmp (slice_cmp nat_cmp) (r ∷ along) (q ∷ path) ≡ b
    → (caps.Pipelined q path ≡ caps.Pipelined r along) ⊎ (get (insert s.marks.paths (q ∷ path) embargo) (r ∷ along) ≡ get s.marks.paths (r ∷ along))
other_path s q r path along embargo true e = inl (ap cap_of_key (sym (same_key (q ∷ path) (r ∷ along) e)))
other_path s q r path along embargo false e = inr (get-insert nat_list_cmp_total s.marks.paths (q ∷ path) embargo (r ∷ along) ∙ ap (λ b. cond b (Some embargo) (get s.marks.paths (r ∷ along))) e)

import_set : (s : State) (i : ℕ) (other : Cap) (embargo : Option ℕ) → (caps.Import i ≡ other) ⊎ (mark_of (with_mark s (caps.Import i) embargo) other ≡ mark_of s other)
import_set s i caps.None embargo = inr refl
import_set s i (caps.Object k) embargo = inr refl
import_set s i (caps.Promise p) embargo = inr refl
import_set s i (caps.Import j) embargo = other_import s i j embargo (i == j) refl
import_set s i (caps.Pipelined q path) embargo = inr refl
import_set s i (caps.Broken x) embargo = inr refl

path_set : (s : State) (q : ℕ) (path : List ℕ) (other : Cap) (embargo : Option ℕ)
    → (caps.Pipelined q path ≡ other) ⊎ (mark_of (with_mark s (caps.Pipelined q path) embargo) other ≡ mark_of s other)
path_set s q path caps.None embargo = inr refl
path_set s q path (caps.Object k) embargo = inr refl
path_set s q path (caps.Promise p) embargo = inr refl
path_set s q path (caps.Import j) embargo = inr refl
path_set s q path (caps.Pipelined r along) embargo = other_path s q r path along embargo (eq_by_cmp (slice_cmp nat_cmp) (r ∷ along) (q ∷ path)) refl
path_set s q path (caps.Broken x) embargo = inr refl

pub mark_set : (s : State) (c other : Cap) (embargo : Option ℕ) → (c ≡ other) ⊎ (mark_of (with_mark s c embargo) other ≡ mark_of s other)
mark_set s caps.None other embargo = inr refl
mark_set s (caps.Object k) other embargo = inr refl
mark_set s (caps.Promise p) other embargo = inr refl
mark_set s (caps.Import i) other embargo = import_set s i other embargo
mark_set s (caps.Pipelined q path) other embargo = path_set s q path other embargo
mark_set s (caps.Broken x) other embargo = inr refl

-- a reference bears the mark that is set
pub mark_got : (s : State) (c : Cap) (embargo : Option ℕ) → is_plain (reference_of s.values c) ≡ false → mark_of (with_mark s c embargo) c ≡ Some embargo
mark_got s caps.None embargo e = absurd (true≢false e)
mark_got s (caps.Object k) embargo e = absurd (true≢false e)
mark_got s (caps.Promise p) embargo e = absurd (true≢false e)
mark_got s (caps.Import i) embargo e = put_at s.marks.imports i i embargo true (is_itself i)
mark_got s (caps.Pipelined q path) embargo e =
    get-insert nat_list_cmp_total s.marks.paths (q ∷ path) embargo (q ∷ path)
    ∙ ap (λ o. cond (is_eq o) (Some embargo) (get s.marks.paths (q ∷ path))) (tied_itself nat_list_cmp_total (q ∷ path))
mark_got s (caps.Broken x) embargo e = absurd (true≢false e)

-- and nothing else changes
pub mark_only : (s : State) (c : Cap) (embargo : Option ℕ) → with_mark s c embargo ≡ record s { marks = record s.marks { imports = (with_mark s c embargo).marks.imports; paths = (with_mark s c embargo).marks.paths } }
mark_only s caps.None embargo = refl
mark_only s (caps.Object k) embargo = refl
mark_only s (caps.Promise p) embargo = refl
mark_only s (caps.Import i) embargo = refl
mark_only s (caps.Pipelined q path) embargo = refl
mark_only s (caps.Broken x) embargo = refl
