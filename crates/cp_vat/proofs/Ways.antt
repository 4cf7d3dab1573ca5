-- Calls of the application on their way.
use Rattle.std.proofs.Common.{◌≡◌, ◌∷◌, ◌+◌, ◌-◌, arith, ℕ, Bool, true, false, cond, is_some, List, Option, Some, None, Result, Ok, Err, refl, sym, ap, ◌∙◌, subst}
use Rattle.std.specs.Cmp.Lexicographic.{nat_list_cmp_total}
use Rattle.std.specs.FinMap.{get, nat_cmp-IsAntisymmetric, slice_cmp-IsAntisymmetric}
use Rattle.cp_tables.specs.Table.{Table}
use Rattle.cp_refs.proofs.Queueing.{put-back}
use Rattle.cp_refs.specs.declared.cap.Cap.{Cap}
use Rattle.cp_refs.specs.declared.cap.Cap.TheVariants as caps
use Rattle.cp_refs.specs.declared.call.Origin.{Origin}
use Rattle.cp_refs.specs.declared.call.Origin.TheVariants as origins
use Rattle.cp_refs.specs.declared.call.Request.{Request}
use Rattle.cp_refs.specs.declared.values.QuestionKind.{QuestionKind}
use Rattle.cp_refs.specs.declared.values.QuestionKind.TheVariants as kinds
use Rattle.cp_vat_machine.specs.State.{State, Marks}
use Rattle.cp_vat_machine.specs.Then.{Done}
use Rattle.cp_vat_machine.specs.Go.{GoTo, PendingCall}
use Rattle.cp_vat_machine.specs.Calling.{GoByValue, GoFrom, Opens, called, has_mark_capacity, mark_of, marked, own_call, with_mark}
use Rattle.cp_vat_machine.specs.Capacity.{Fresh, free}
use Rattle.cp_vat_machine.specs.declared.effect.Effect.{Effect}
use Rattle.cp_vat_machine.specs.declared.event.Value.{Value}
use Rattle.cp_vat_machine.specs.declared.fault.PeerFault.{PeerFault}
use Rattle.cp_vat_machine.specs.declared.fault.PeerFault.TheVariants as faults
use Rattle.cp_vat_state.specs.Halts.{Acts, Becomes, IfFault, Owns}
use Rattle.cp_vat_state.specs.Marking.{with_marks, without_mark}
use Rattle.cp_vat_state.specs.StateOf.{state_of}
use Rattle.cp_vat_state.specs.declared.step_fault.StepFault.{StepFault}
use Rattle.cp_vat_state.specs.declared.step_fault.StepFault.TheVariants as halts
use Rattle.cp_vat_state.specs.declared.parts.Core.{Core}
use Rattle.cp_vat_state.proofs.Under.{put-gone}
use Rattle.cp_vat_rules.specs.Going.{MayGo}
use Rattle.cp_vat_rules.specs.Ungiven.{IsUngiven}
use Rattle.cp_vat_rules.specs.declared.go.PendingCall as go
use Rattle.cp_vat.specs.Ways.{GoMarked, seen, taken_back, value_kind}
use Rattle.cp_vat.specs.declared.going.Standing.TheVariants as references
use Rattle.cp_vat.proofs.Acting.{acts_by}

-- a call may go whatever the marks are
pub may_marked : (s : State) (marks : Marks) (call : PendingCall) → MayGo s call → MayGo (with_marks s marks) call
may_marked s marks call may = record { free = may.free; given = may.given; ungiven = still call.origin may.ungiven; ends = may.ends }
  where
    still : (origin : Origin) → IsUngiven s origin → IsUngiven (with_marks s marks) origin
    still (origins.Answer a) h = h
    still (origins.Own q) h = h

-- a value that is no import, object or promise takes its own way
pub other_goes : (old : State) (q : ℕ) (request : Request) (cap value : Cap) (out : Result Done PeerFault) → ((i : ℕ) → value ≡ caps.Import i → ⊥) → ((k : ℕ) → value ≡ caps.Object k → ⊥)
    → ((p : ℕ) → value ≡ caps.Promise p → ⊥) → GoTo (called old q (value_kind value)) (own_call old q request) value out → GoByValue old q request cap value out
other_goes old q request cap (caps.Import i) out import object promise went = absurd (import i refl)
other_goes old q request cap (caps.Object k) out import object promise went = absurd (object k refl)
other_goes old q request cap (caps.Promise p) out import object promise went = absurd (promise p refl)
other_goes old q request cap caps.None out import object promise went = went
other_goes old q request cap (caps.Pipelined r path) out import object promise went = went
other_goes old q request cap (caps.Broken x) out import object promise went = went

-- where an opened call on the wire goes is where the application's call goes
pub from_wire : (old now : State) (q : ℕ) (request : Request) (call : PendingCall) → call ≡ own_call old q request → (cap : Cap) (r : Result (Unit {0}) StepFault) (before after : List Effect) (new : State) → now ≡ called old q kinds.Wire
    → Acts (GoMarked now call cap) r before after new → Acts (GoFrom old q request cap (seen references.OnWire)) r before after new
from_wire old now q request call is_call cap r before after new is acts =
    acts_by (GoMarked now call cap) (GoFrom old q request cap (seen references.OnWire)) r before after new
    (λ out met. subst (λ u. GoMarked (called old q kinds.Wire) u cap out) is_call (subst (λ s. GoMarked s call cap out) is met))
    acts

module _ (old : State) (call : PendingCall) (cap : Cap) where
  -- there was no room for the mark
  pub mark_stops : (step_fault : StepFault) (before after : List Effect) (mid new : State) → Becomes (marked old cap (mark_of old cap)) (Err step_fault) mid → Acts (GoMarked old call cap) (Err step_fault) before after new
  mark_stops (halts.Fault fault) before after mid new stopped = (Err fault, sym stopped, refl)
  mark_stops halts.OutOfMemory before after mid new stopped = tt

  module _ (mid : State) (is : marked old cap (mark_of old cap) ≡ Ok mid) where
    -- the call went after its mark
    pub marked_goes : (r : Result (Unit {0}) StepFault) (before after : List Effect) (new : State) → Acts (GoTo mid call cap) r before after new → Acts (GoMarked old call cap) r before after new
    marked_goes r before after new acts = acts_by (GoTo mid call cap) (GoMarked old call cap) r before after new (λ out went. (Ok mid, sym is, went)) acts

    -- it found no room
    pub marked_stops : (step_fault : StepFault) (before after before' after' : List Effect) (new last : State) → Acts (GoTo mid call cap) (Err step_fault) before after new → Acts (GoMarked old call cap) (Err step_fault) before' after' last
    marked_stops (halts.Fault fault) before after before' after' new last acts = (Ok mid, sym is, acts)
    marked_stops halts.OutOfMemory before after before' after' new last acts = tt

-- the state that was answered
abbrev left : State → Result State PeerFault → State
left s (Ok x) = x
left s (Err fault) = s

put_if : (s put : State) (b : Bool) (x : State) → cond b (Ok x) (Err faults.TableFull) ≡ Ok put → put ≡ x
put_if s put true x is = sym (ap (left s) is)
put_if s put false x is = absurd (cc)

marked_put : (s put : State) (cap : Cap) (o : Option (Option ℕ)) → o ≡ None → marked s cap o ≡ Ok put → put ≡ with_mark s cap None
marked_put s put cap None none is = put_if s put (has_mark_capacity s cap) (with_mark s cap None) is
marked_put s put cap (Some e) none is = absurd (cc)

-- a mark that is put and taken out again leaves the marks as they were
mark_back : (s : State) (cap : Cap) → mark_of s cap ≡ None → without_mark (with_mark s cap None).marks cap ≡ s.marks
mark_back s caps.None none = refl
mark_back s (caps.Object k) none = refl
mark_back s (caps.Promise p) none = refl
mark_back s (caps.Import i) none = rw (put-back s.marks.imports i None none) refl
mark_back s (caps.Pipelined q path) none = rw (put-gone nat_list_cmp_total (slice_cmp-IsAntisymmetric nat_cmp-IsAntisymmetric) s.marks.paths (q ∷ path) None none) refl
mark_back s (caps.Broken x) none = refl

none_marked : (o : Option (Option ℕ)) → is_some o ≡ false → o ≡ None
none_marked None h = refl
none_marked (Some x) h = absurd (cc)

still_marked : (s put : State) (cap : Cap) (o : Option (Option ℕ)) → is_some o ≡ true → marked s cap o ≡ Ok put → put ≡ s
still_marked s put cap None some is = absurd (cc)
still_marked s put cap (Some e) some is = sym (ap (left s) is)

module _ (core went : Core) (put : Marks) (cap : Cap) (is : marked (state_of core) cap (mark_of (state_of core) cap) ≡ Ok (with_marks (state_of core) put)) where
  -- a call that found no room and whose mark was taken out again leaves the parts as they were
  pub unmarked_as_it_was : (step_fault : StepFault) (removed : Marks) → is_some (mark_of (state_of core) cap) ≡ false → removed ≡ without_mark went.marks cap → IfFault {A = Unit {0}} (Err step_fault) (◌≡◌ {A = Core} went (record core { marks = put }))
      → IfFault {A = Unit {0}} (Err step_fault) (◌≡◌ {A = Core} (record went { marks = removed }) core)
  unmarked_as_it_was (halts.Fault fault) removed none gone same =
      let nothing = none_marked (mark_of (state_of core) cap) none in
      let is_put = ap (λ s. s.marks) (marked_put (state_of core) (with_marks (state_of core) put) cap (mark_of (state_of core) cap) nothing is) in
      let back : removed ≡ core.marks = gone ∙ ap (λ k. without_mark k.marks cap) same ∙ ap (λ m. without_mark m cap) is_put ∙ mark_back (state_of core) cap nothing in
      let with_removed : Core → Core = λ k. record k { marks = removed } in
      let with_marks_of : Marks → Core = λ m. record core { marks = m } in
      ap with_removed same ∙ ap with_marks_of back
  unmarked_as_it_was halts.OutOfMemory removed none gone same = tt

  -- so does one whose reference was marked before
  pub marked_as_it_was : (step_fault : StepFault) → is_some (mark_of (state_of core) cap) ≡ true → IfFault {A = Unit {0}} (Err step_fault) (◌≡◌ {A = Core} went (record core { marks = put })) → IfFault {A = Unit {0}} (Err step_fault) (went ≡ core)
  marked_as_it_was (halts.Fault fault) some same =
      let is_put : put ≡ core.marks = ap (λ s. s.marks) (still_marked (state_of core) (with_marks (state_of core) put) cap (mark_of (state_of core) cap) some is) in
      let with_marks_of : Marks → Core = λ m. record core { marks = m } in
      same ∙ ap with_marks_of is_put
  marked_as_it_was halts.OutOfMemory some same = tt

-- ---- a call that opens its question
-- there was no room for it
pub opens_full : (was now : Core) (cap : Cap) (request : Request) (value : ℕ → Value) (step_fault : StepFault) (before after : List Effect)
    → ((fault : PeerFault) → ◌≡◌ {A = Result (ℕ × go.PendingCall) StepFault} (Err step_fault) (Err (halts.Fault fault)) → Fresh was.questions (Err fault)) → IfFault {A = ℕ × go.PendingCall} (Err step_fault) (now ≡ was)
    → Owns {A = ℕ} (Opens (state_of was) cap request) value (state_of was) (Err step_fault) before after (state_of now)
opens_full was now cap request value (halts.Fault fault) before after full same = ((Err fault, full fault refl, refl), ap state_of same)
opens_full was now cap request value halts.OutOfMemory before after full same = tt

pub fresh_free : {X : Type 0} (table : Table X) (q : ℕ) → Fresh table (Ok q) → get table q ≡ None
fresh_free table q (free n none fits room) = none

-- what a question that was opened and its ticket changed is taken back
pub call_taken_back : (s : State) (q : ℕ) (kind : QuestionKind) → get s.values.questions q ≡ None → get s.entries.questions q ≡ None → taken_back (called s q kind) q ≡ s
call_taken_back s q kind no_value no_entry =
    let less : s.next_ticket + 1 - 1 ≡ s.next_ticket = omega arith in
    rw (put-back s.values.questions q (record { kind = kind; outcome = None }) no_value, put-back s.entries.questions q _ no_entry, less) refl
