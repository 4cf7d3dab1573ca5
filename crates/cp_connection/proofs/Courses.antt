-- Whatever is done with a connection, up to its abort, is a run, and nothing more goes out after that.
use Rattle.std.proofs.Common.{◌≡◌, ◌⊎◌, inl, inr, ℕ, true, false, List, [], ◌++◌, Option, Some, refl, sym, ap, ◌∙◌, subst, append-nil, append_assoc, true≢false}
use Rattle.cp_messages.specs.declared.message.Message.{Message}
use Rattle.cp_vat_machine.specs.Run.{Moment, Steps}
use Rattle.cp_vat_machine.specs.State.{State}
use Rattle.cp_connection.specs.declared.excess.Excess.{Excess}
use Rattle.cp_connection.specs.declared.fault.ConnectionFault.{ConnectionFault}
use Rattle.cp_connection.specs.declared.fault.ConnectionFault.TheVariants as faults
use Rattle.cp_connection.specs.declared.event.ConnectionEvent.{ConnectionEvent}
use Rattle.cp_connection.specs.Doing.{Aborts, tells, runs_out, was_closed, first_fault}
use Rattle.cp_connection.specs.Effects.{AreFramesOf, happened}
use Rattle.cp_connection.specs.Link.{Link, new_link, new_link_with_tails}
use Rattle.cp_connection.specs.Lives.{Course, lives, aborts, IsAborted, IsRunOf, IsRunBehind, LivesUntilAbort, LivesBehindUntilAbort}
use Rattle.cp_connection.specs.Moves.{Moves}
use Rattle.cp_connection.proofs.Living.{lives_move, run_of, run_behind}
use Rattle.cp_connection.proofs.Moving.{moves_both}

-- once a connection ended nothing is done, but that what was left is written and handed out
record IsLeft (mid : Link) (taken written : List ℕ) (handed : List ConnectionEvent) (last : Link) (fault : ConnectionFault) : Type 0 where
  none_taken : taken ≡ []
  goes_out : mid.unwritten ≡ written ++ last.unwritten
  happens : mid.happened ≡ handed ++ last.happened
  same_vat : last.vat ≡ mid.vat
  ended : last.fault ≡ Some fault

left : {mid last : Link} {taken written : List ℕ} {handed : List ConnectionEvent} (fault : ConnectionFault) → mid.fault ≡ Some fault → Moves mid taken written handed last
    → IsLeft mid taken written handed last fault
left {mid = mid} {last = last} fault is moves =
    let still = moves.stays fault is in
    let none : moves.bytes ≡ [] = subst (λ (ms : List Message). AreFramesOf mid.mode ms moves.bytes) still.none_went moves.are_frames in
    record {
      none_taken = still.none_taken;
      goes_out = sym (append-nil mid.unwritten) ∙ ap (λ (x : List ℕ). mid.unwritten ++ x) (sym none) ∙ moves.goes_out;
      happens = sym (append-nil mid.happened) ∙ ap (λ (x : List Moment). mid.happened ++ happened x) (sym still.none_done) ∙ moves.happens;
      same_vat = subst (λ (x : List Moment). Steps mid.vat x last.vat) still.none_done moves.steps;
      ended = still.still;
    }

-- an abort, of what was so
aborted_now : {WasSo : List ℕ → List ConnectionEvent → Link → Type 0} {written : List ℕ} {handed : List ConnectionEvent} (before aborted : Link) (excess : Excess) (fault : ConnectionFault)
    → WasSo written handed before → before.vat.is_closed ≡ false → Aborts before excess aborted → aborted.vat.is_closed ≡ true → aborted.fault ≡ Some fault
    → IsAborted written handed aborted WasSo
aborted_now {written = written} {handed = handed} before aborted excess fault was_so open_ aborts_ closed ended = record {
  gone = written;
  out = handed;
  before = before;
  was_so = was_so;
  was_open = open_;
  excess = excess;
  aborted = aborted;
  aborts = aborts_;
  goes_out = refl;
  happens = refl;
  stays_closed = closed;
  fault = fault;
  ended = ended;
}

-- and what is done then
aborted_on : {WasSo : List ℕ → List ConnectionEvent → Link → Type 0} {taken written further : List ℕ} {handed others : List ConnectionEvent} {mid last : Link} (a : IsAborted written handed mid WasSo)
    → IsLeft mid taken further others last a.fault → IsAborted (written ++ further) (handed ++ others) last WasSo
aborted_on {written = written} {further = further} {handed = handed} {others = others} {last = last} a is_left = record {
  gone = a.gone;
  out = a.out;
  before = a.before;
  was_so = a.was_so;
  was_open = a.was_open;
  excess = a.excess;
  aborted = a.aborted;
  aborts = a.aborts;
  goes_out = a.goes_out ∙ ap (λ (x : List ℕ). written ++ x) is_left.goes_out ∙ sym (append_assoc written further last.unwritten);
  happens = a.happens ∙ ap (λ (x : List ConnectionEvent). handed ++ x) is_left.happens ∙ sym (append_assoc handed others last.happened);
  stays_closed = ap (λ (s : State). s.is_closed) is_left.same_vat ∙ a.stays_closed;
  fault = a.fault;
  ended = is_left.ended;
}

-- what follows of what was so
aborted_as : {WasSo IsSo : List ℕ → List ConnectionEvent → Link → Type 0} {written : List ℕ} {handed : List ConnectionEvent} {last : Link} (a : IsAborted written handed last WasSo)
    → IsSo a.gone a.out a.before → IsAborted written handed last IsSo
aborted_as a is_so = record {
  gone = a.gone;
  out = a.out;
  before = a.before;
  was_so = is_so;
  was_open = a.was_open;
  excess = a.excess;
  aborted = a.aborted;
  aborts = a.aborts;
  goes_out = a.goes_out;
  happens = a.happens;
  stays_closed = a.stays_closed;
  fault = a.fault;
  ended = a.ended;
}

-- a connection moved, up to its abort, if it was aborted
abbrev Moved : Link → List ℕ → List ℕ → List ConnectionEvent → Link → Type 0
Moved first taken written handed last = Moves first taken written handed last ⊎ IsAborted written handed last (Moves first taken)

module _ {taken more written further : List ℕ} {handed others : List ConnectionEvent} (first mid aborted last : Link) (excess : Excess) (then_ : Moves aborted more further others last) where
  moved_on : IsAborted written handed aborted (Moves first taken) → Moved first (taken ++ more) (written ++ further) (handed ++ others) last
  moved_on a =
      let is_left = left a.fault a.ended then_ in
      inr
      (subst (λ (x : List ℕ). IsAborted (written ++ further) (handed ++ others) last (Moves first x)) (sym (ap (λ (x : List ℕ). taken ++ x) is_left.none_taken ∙ append-nil taken))
      (aborted_on a is_left))

  moved_by : Moved first taken written handed mid → Aborts mid excess aborted → Moved first (taken ++ more) (written ++ further) (handed ++ others) last
  moved_by (inl moves) (tells bytes sent open_ frames counts is) =
      moved_on
      (aborted_now mid aborted excess (first_fault mid.fault faults.Closed) moves open_ (tells bytes sent open_ frames counts is) (ap (λ (l : Link). l.vat.is_closed) is)
      (ap (λ (l : Link). l.fault) is))
  moved_by (inl moves) (runs_out open_ is) =
      moved_on
      (aborted_now mid aborted excess (first_fault mid.fault faults.OutOfMemory) moves open_ (runs_out open_ is) (ap (λ (l : Link). l.vat.is_closed) is)
      (ap (λ (l : Link). l.fault) is))
  moved_by (inl moves) (was_closed closed is) =
      inl (moves_both first mid last moves (subst (λ (l : Link). Moves l more further others last) is then_))
  moved_by (inr a) (tells bytes sent open_ frames counts is) = absurd (true≢false (sym a.stays_closed ∙ open_))
  moved_by (inr a) (runs_out open_ is) = absurd (true≢false (sym a.stays_closed ∙ open_))
  moved_by (inr a) (was_closed closed is) = moved_on (subst (λ (l : Link). IsAborted written handed l (Moves first taken)) (sym is) a)

course_moves : {first last : Link} {taken written : List ℕ} {handed : List ConnectionEvent} → Course first taken written handed last → Moved first taken written handed last
course_moves (lives life) = inl (lives_move life)
course_moves {first = first} {last = last} (aborts {mid = mid} {aborted = aborted} excess before aborts_ life e f g) =
    rw (e, f, g) (moved_by first mid aborted last excess (lives_move life) (course_moves before) aborts_)

pub lives_until_abort : LivesUntilAbort
lives_until_abort mode limits bootstrap taken written handed last course = so_it_is (course_moves course)
  where
    so_it_is : Moved (new_link mode limits bootstrap) taken written handed last
        → IsRunOf mode limits bootstrap taken written handed last ⊎ IsAborted written handed last (IsRunOf mode limits bootstrap taken)
    so_it_is (inl moves) = inl (run_of mode limits bootstrap taken written handed last moves)
    so_it_is (inr a) = inr (aborted_as a (run_of mode limits bootstrap taken a.gone a.out a.before a.was_so))

pub lives_behind_until_abort : LivesBehindUntilAbort
lives_behind_until_abort mode limits bootstrap taken written handed last course = so_it_is (course_moves course)
  where
    so_it_is : Moved (new_link_with_tails mode limits bootstrap) taken written handed last
        → IsRunBehind mode limits bootstrap taken written handed last ⊎ IsAborted written handed last (IsRunBehind mode limits bootstrap taken)
    so_it_is (inl moves) = inl (run_behind mode limits bootstrap taken written handed last moves)
    so_it_is (inr a) = inr (aborted_as a (run_behind mode limits bootstrap taken a.gone a.out a.before a.was_so))
