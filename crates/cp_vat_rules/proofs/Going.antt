-- Where calls go, and how waiting calls leave.
use Rattle.std.proofs.Common.{◌≡◌, ◌<◌, List, [], ◌++◌, None, Result, Ok, Err, refl, sym, ap, ◌∙◌, subst, append_assoc, append-nil}
use Rattle.cp_refs.specs.Route.{HasRoute}
use Rattle.cp_refs.specs.declared.cap.Cap.{Cap}
use Rattle.cp_refs.specs.declared.call.WaitingCall.{WaitingCall}
use Rattle.std.specs.FinMap.{remove}
use Rattle.cp_vat_laws.specs.Within.{Within}
use Rattle.cp_vat_laws.proofs.within.Turns.{turns_left, turn_falls}
use Rattle.cp_vat_laws.proofs.within.Leave.{in_hand_within, is_in_hand_now, turn_within}
use Rattle.cp_vat_state.specs.Halts.{Acts}
use Rattle.cp_vat_rules.specs.Going.{AllLeave, MayGo}
use Rattle.cp_vat_rules.proofs.Ready.{may_go}
use Rattle.cp_vat_state.specs.declared.step_fault.StepFault.{StepFault}
use Rattle.cp_vat_state.specs.declared.step_fault.StepFault.TheVariants as halts
use Rattle.cp_vat_state.specs.Overs.{NoneOverIn, IsNextIn}
use Rattle.cp_vat_machine.specs.State.{State, with_over, none_over}
use Rattle.cp_vat_state.specs.Queue.{Queue}
use Rattle.cp_vat_state.specs.Queue as queue
use Rattle.cp_vat_rules.proofs.Giving.{queue_of}
use Rattle.cp_vat_machine.specs.Go.{NoneOver, IsNext, without_call, underway, GoTo, Leave, stays, leaves, finds_table_full}
use Rattle.cp_vat_machine.specs.declared.effect.Effect.{Effect}
use Rattle.cp_vat_machine.specs.declared.fault.PeerFault.{PeerFault}

-- what leaves from now on, after what left, leaves from the start
abbrev pub LeavesFrom : State → State → List Effect → Type 0
LeavesFrom start now done = (rest : List Effect) (out : Result State PeerFault) → Leave now rest out → Leave start (done ++ rest) out

module _ (start now : State) (done : List Effect) (goes_on : LeavesFrom start now done) where
  -- a call left
  pub one_left : (call : WaitingCall) (cap : Cap) (first : List Effect) (mid : State) → IsNext now call cap → GoTo (without_call now call) (underway call) cap (Ok (first, mid)) → LeavesFrom start mid (done ++ first)
  one_left call cap first mid next went rest out more =
      subst (λ l. Leave start l out) (sym (append_assoc done first rest)) (goes_on (first ++ rest) out (leaves call cap next went more refl))

  -- none is left
  pub all_gone : NoneOver now → Leave start done (Ok (with_over now none_over))
  all_gone none = subst (λ l. Leave start l (Ok (with_over now none_over))) (append-nil done) (goes_on [] _ (stays none))

  -- a call found no room
  pub no_room : (call : WaitingCall) (cap : Cap) (fault : PeerFault) → IsNext now call cap → GoTo (without_call now call) (underway call) cap (Err fault) → Leave start done (Err fault)
  no_room call cap fault next went = subst (λ l. Leave start l (Err fault)) (append-nil done) (goes_on [] _ (finds_table_full call cap next went))

-- the state with this queue
abbrev pub with_queue : State → Queue → State
with_queue s q = record s { waiting = q.waiting; next_ticket = q.next_ticket }

is_next_of : (s : State) (call : WaitingCall) (cap : Cap) → IsNextIn s.waiting call cap → IsNext s call cap
is_next_of s call cap next = record { waits = next.waits; ended = next.ended; lowest = next.lowest }

module _ (start now : State) (done : List Effect) (goes_on : LeavesFrom start now done) (q : Queue) where
  -- the gates that ended are forgotten
  pub leave_ends : NoneOverIn now.waiting → q ≡ queue.with_over (queue_of now) none_over → Leave start done (Ok (with_queue now q))
  leave_ends none is = subst (λ v. Leave start done (Ok (with_queue now v))) (sym is) (all_gone start now done goes_on none)

  module _ (call : WaitingCall) (cap : Cap) (next : IsNextIn now.waiting call cap) (is : q ≡ queue.with_calls (queue_of now) (remove now.waiting.calls call.ticket)) where
    is_now : with_queue now q ≡ without_call now call
    is_now = ap (with_queue now) is

    module _ (within : Within now None []) where
      -- the call that left may go
      pub left_may : MayGo (with_queue now q) (underway call)
      left_may =
          let its = is_next_of now call cap next in
          subst (λ s. MayGo s (underway call)) (sym is_now) (may_go (without_call now call) (underway call) (in_hand_within within call cap its) (is_in_hand_now within call cap its))

      -- it goes to what has a way that ends
      pub left_ends : HasRoute now.values cap
      left_ends = (within.gifts call.gate cap next.ended).2

      module _ (before after : List Effect) (mid : State) (none : before ≡ []) (went : (first : List Effect) × (after ≡ before ++ first) × GoTo (with_queue now q) (underway call) cap (Ok (first, mid))) where
        to_mid : GoTo (without_call now call) (underway call) cap (Ok (went.0, mid))
        to_mid = subst (λ s. GoTo s (underway call) cap (Ok (went.0, mid))) is_now went.2

        -- where it went it holds within the event
        pub left_within : Within mid None []
        left_within = turn_within within call cap (is_next_of now call cap next) (went.0, mid) to_mid

        -- and fewer turns are left
        pub left_fewer : turns_left mid < turns_left now
        left_fewer = turn_falls within call cap (is_next_of now call cap next) (went.0, mid) to_mid

    -- a call went
    pub leave_goes : (before after : List Effect) (mid : State) → before ≡ [] → (first : List Effect) × (after ≡ before ++ first) × GoTo (with_queue now q) (underway call) cap (Ok (first, mid)) → LeavesFrom start mid (done ++ after)
    leave_goes before after mid none went =
        let same : after ≡ went.0 = went.1 ∙ ap (λ b. b ++ went.0) none in
        subst (λ l. LeavesFrom start mid (done ++ l)) (sym same)
        (one_left start now done goes_on call cap went.0 mid (is_next_of now call cap next) (subst (λ v. GoTo (with_queue now v) (underway call) cap (Ok (went.0, mid))) is went.2))

    -- a call found no room
    pub leave_stops : (fault : PeerFault) → GoTo (with_queue now q) (underway call) cap (Err fault) → Leave start done (Err fault)
    leave_stops fault went = no_room start now done goes_on call cap fault (is_next_of now call cap next) (subst (λ v. GoTo (with_queue now v) (underway call) cap (Err fault)) is went)

    -- a call stopped
    pub leave_halts : (step_fault : StepFault) (before after all so_far : List Effect) (mid new : State) → all ≡ so_far ++ done → Acts (GoTo (with_queue now q) (underway call) cap) (Err step_fault) before after mid → AllLeave start (Err step_fault) so_far all new
    leave_halts (halts.Fault fault) before after all so_far mid new is_all went = (done, is_all, leave_stops fault went)
    leave_halts halts.OutOfMemory before after all so_far mid new is_all went = tt
