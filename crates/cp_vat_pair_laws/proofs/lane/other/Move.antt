-- What is done at the other end keeps a lane, with the waiting calls that leave then.
use Rattle.std.specs.Prelude.{◌≡◌, refl, ℕ, not, Bool, true, false, List, [], ◌∷◌, ◌++◌, Option, Some, None, Ok}
use Rattle.std.specs.List.{list_any}
use Rattle.std.specs.FinMap.{get}
use Rattle.std.proofs.Common.{ap, sym, true≢false}
use Rattle.cp_tables.specs.declared.exchange.Exchange.{Exchange}
use Rattle.cp_tables.specs.declared.exchange.Stage.TheVariants as stages
use Rattle.cp_messages.specs.declared.disembargo.DisembargoContext.{DisembargoContext}
use Rattle.cp_messages.specs.declared.disembargo.DisembargoContext.TheVariants as contexts
use Rattle.cp_messages.specs.declared.disembargo.Disembargo.{Disembargo}
use Rattle.cp_messages.specs.declared.message.Message.{Message}
use Rattle.cp_messages.specs.declared.message.Message.TheVariants as messages
use Rattle.cp_messages.specs.declared.returned.Return.{Return}
use Rattle.cp_refs.specs.declared.call.WaitingCall.{WaitingCall}
use Rattle.cp_refs.specs.declared.call.Origin.TheVariants as origins
use Rattle.cp_vat_machine.specs.State.{State}
use Rattle.cp_vat_machine.specs.Then.{Done, fault_if}
use Rattle.cp_vat_machine.specs.Capacity.{message_fits}
use Rattle.cp_vat_machine.specs.Supported.{is_supported}
use Rattle.cp_vat_machine.specs.Go.{Leave}
use Rattle.cp_vat_machine.specs.Asking.{is_asked, ReturnOf, OnReturn}
use Rattle.cp_vat_machine.specs.Resolving.{OnDisembargo}
use Rattle.cp_vat_machine.specs.Local.{Local, IsWaiting, IsTicketOf}
use Rattle.cp_vat_machine.specs.Step.{On, Does, Receives, ReceivesIf}
use Rattle.cp_vat_machine.specs.declared.effect.Effect.{Effect}
use Rattle.cp_vat_machine.specs.declared.entry.QuestionEntry.{QuestionEntry}
use Rattle.cp_vat_machine.specs.declared.event.Event.{Event}
use Rattle.cp_vat_machine.specs.declared.event.Value.{Value}
use Rattle.cp_vat_machine.specs.declared.fault.PeerFault.{PeerFault}
use Rattle.cp_vat_machine.specs.declared.fault.PeerFault.TheVariants as faults
use Rattle.cp_vat_machine.proofs.Basics.{ok_out, unless_out, not_false, is_itself}
use Rattle.cp_vat_laws.specs.Within.{Within}
use Rattle.cp_vat_laws.proofs.within.Between.{local_is_within}
use Rattle.cp_vat_laws.proofs.Tables.{there_of, no_faults, not_met}
use Rattle.cp_vat_pair_laws.specs.Ledger.{named_by, opens}
use Rattle.cp_vat_pair_laws.specs.Accounts.{accounts_of}
use Rattle.cp_vat_pair_laws.specs.Lives.{Standing, mistaken, standing_of, opened, will_stand, returns_of, Fits, Agree}
use Rattle.cp_vat_pair_laws.specs.VatPair.{End, messages_sent, with_mail}
use Rattle.cp_vat_pair_laws.specs.Lane.{Reference, import_, path_to, Delivery, IsStill}
use Rattle.cp_vat_pair_laws.specs.Naming.{is_loop_of}
use Rattle.cp_vat_pair_laws.specs.Orderly.{IsOrderly}
use Rattle.cp_vat_pair_laws.specs.Phases.{LaneHolds, gives_up, tells}
use Rattle.cp_vat_pair_laws.specs.Places.{NoneFinished}
use Rattle.cp_vat_pair_laws.proofs.counts.Standing.{never_fits}
use Rattle.cp_vat_pair_laws.proofs.still.Grows.{PlacesStay}
use Rattle.cp_vat_pair_laws.proofs.still.Go.{leave_grows}
use Rattle.cp_vat_pair_laws.proofs.still.Receives.{ComesToHeld}
use Rattle.cp_vat_pair_laws.proofs.lane.parts.Lives.{IsOpened, opened_is, will_stay, open_fits, returning_unopened}
use Rattle.cp_vat_pair_laws.proofs.lane.other.NotOfLane.{IsFreshThere}
use Rattle.cp_vat_pair_laws.proofs.lane.parts.Midway.{Midway, open_standing, fresh_there, receives_midway}
use Rattle.cp_vat_pair_laws.proofs.lane.other.Chain.{IsThere}
use Rattle.cp_vat_pair_laws.proofs.lane.other.Give.{NoneLeft}
use Rattle.cp_vat_pair_laws.proofs.lane.other.Leave.{none_is_left}
use Rattle.cp_vat_pair_laws.proofs.lane.other.CallComes.{HeardKept, bootstrap_kept, on_call_kept}
use Rattle.cp_vat_pair_laws.proofs.lane.other.ResolveComes.{plain_kept, resolve_chain, echo_chain, loop_does, loop_kept, loop_known}
use Rattle.cp_vat_pair_laws.proofs.lane.other.ReturnComes.{on_return_kept}
use Rattle.cp_vat_pair_laws.proofs.lane.own.ReturnComes.{asked_open, returned_fits}
use Rattle.cp_vat_pair_laws.proofs.lane.other.DoesThenLeave.{did_there, heard_there}
use Rattle.cp_vat_pair_laws.proofs.lane.other.Start.{StartsThere, opened_again}
use Rattle.cp_vat_pair_laws.proofs.lane.other.StartPlaces.{IsNoFinish, heard_known, did_known}
use Rattle.cp_vat_pair_laws.proofs.lane.other.FinishComes.{on_finish_kept}

-- What opens an answer is the last on the way that does: it would be mistaken.
opened_once : (here : End) (s : State) (m : Message) (rest : List Message) (q : ℕ) → opens q m ≡ true
    → Agree (accounts_of s) (m ∷ rest) (accounts_of here.vat) here.inbox → list_any (opens q) rest ≡ false
opened_once here s m rest q it agree = by (list_any (opens q) rest) refl
  where
    stands : list_any (opens q) rest ≡ true → will_stand q (m ∷ rest) (standing_of ((accounts_of s).answers q)) ≡ mistaken
    stands is = rw (it) (opened_again q rest (opened (standing_of ((accounts_of s).answers q))) (opened_is (standing_of ((accounts_of s).answers q))) is)

    by : (b : Bool) → list_any (opens q) rest ≡ b → list_any (opens q) rest ≡ false
    by false is = is
    by true is = absurd (never_fits ((accounts_of here.vat).questions q) (returns_of q here.inbox) (rw (stands is) at (agree.lives_back q)))

-- A question whose Return comes isn't opened on the way, and its call doesn't wait: its answer was given.
module _ (here : End) (s : State) (r : Return) (rest : List Message) (none : NoneFinished s) (here_local : Local here.vat)
    (agree : Agree (accounts_of s) (messages.Return r ∷ rest) (accounts_of here.vat) here.inbox) where
  abbrev q : ℕ
  q = r.answer_id

  abbrev stands_now : Standing
  stands_now = standing_of ((accounts_of here.vat).answers q)

  module _ (entry : Exchange QuestionEntry) (is : get s.entries.questions q ≡ Some entry) (open_ : entry.stage ≡ stages.Open) (is_sent : entry.kept.is_sent ≡ true) where
    fits : Fits (Some (record { stage = stages.Open; kept = entry.kept.mentions })) (named_by (messages.Return r) ∷ returns_of q rest) (will_stand q here.inbox stands_now)
    fits = returned_fits s r rest here agree entry is open_ is_sent

    held_not : (ticket : ℕ) (call : WaitingCall) → get here.vat.waiting.calls ticket ≡ Some call → call.origin ≡ origins.Answer q → ⊥
    held_not ticket call at from =
        let waits = there_of (IsWaiting here.vat ticket) (get here.vat.waiting.calls ticket) call at (here_local.waiting ticket) in
        let whose : IsTicketOf here.vat (origins.Answer q) ticket = rw from at waits.whose in
        let stands : IsOpened stands_now = rw (whose.1) (open_standing whose.0.stage whose.0.kept.mentions whose.2) in
        open_fits (named_by (messages.Return r)) (returns_of q rest) (will_stand q here.inbox stands_now) fits (will_stay q here.inbox stands_now stands)

    fresh_by : IsFreshThere here q
    fresh_by =
        record {
          on_way = returning_unopened q entry.kept.mentions (named_by (messages.Return r)) (returns_of q rest) here.inbox stands_now fits;
          held = held_not;
        }

  returned_fresh : (done : Done) → OnReturn s r (Ok done) → IsFreshThere here q
  returned_fresh done does = by (get s.entries.questions q) refl does
    where
      by : (o : Option (Exchange QuestionEntry)) → get s.entries.questions q ≡ o → ReturnOf s r o (Ok done) → IsFreshThere here q
      by None is does = ok_out does
      by (Some entry) is does =
          let test = fault_if (not (is_asked entry.kept.is_sent entry.stage)) faults.UnknownQuestion in
          let asked = not_false _ (not_met (not (is_asked entry.kept.is_sent entry.stage)) faults.UnknownQuestion (no_faults {A = Done} {F = PeerFault} test _ done does)) in
          let is_open = asked_open s none q entry is entry.stage refl asked in
          fresh_by entry is is_open.0 is_open.1

-- a Disembargo tells nothing
disembargo_untold : (d : Disembargo) (ref : Reference) → tells ref (messages.Disembargo d) ≡ false
disembargo_untold d (import_ i) = refl
disembargo_untold d (path_to q path) = refl

-- What holds of both ends, and after the move.
module _ (here : End) (s last : State) (inbox rest sent : List Message) (here_local : Local here.vat) (here_none : NoneFinished here.vat) (local_ : Local s) (none : NoneFinished s)
    (orderly : IsOrderly s) (agree : Agree (accounts_of s) inbox (accounts_of here.vat) here.inbox) (starts : StartsThere here s inbox) (local_last : Local last)
    (agree_last : Agree (accounts_of last) rest (accounts_of here.vat) sent) where
  w : Within s None []
  w = local_is_within s local_

  midway : Midway s inbox here
  midway = record { within = w; unfinished = none; orderly = orderly; agreed = agree }

  left : NoneLeft s
  left = none_is_left midway here_none

  -- the application's own part
  pub did_over : inbox ≡ rest → (event : Event) (value : Value) (first more : List Effect) (mid : State) → IsStill event → Does s event (Ok (value, first, mid))
      → Leave mid more (Ok last) → (ref : Reference) (made : List ℕ) (delivered : List Delivery) → LaneHolds here (record { vat = s; inbox = inbox }) ref made delivered
      → LaneHolds (with_mail here (messages_sent (first ++ more))) (record { vat = last; inbox = rest }) ref made delivered
  did_over same event value first more mid still does leave ref made delivered lane =
      let agree_now : Agree (accounts_of last) inbox (accounts_of here.vat) sent = rw (same) agree_last in
      let known = did_known here s last inbox sent event (value, first, mid) more starts local_ none left still does leave local_last agree_now in
      rw
      (← same)
      (did_there here s last inbox event (value, first, mid) more here_local here_none local_ none orderly agree known still does leave ref made delivered lane)

-- A message that it takes.
module _ (here : End) (s last : State) (rest sent : List Message) (here_local : Local here.vat) (here_none : NoneFinished here.vat) (local_ : Local s) (none : NoneFinished s)
    (orderly : IsOrderly s) (local_last : Local last) (agree_last : Agree (accounts_of last) rest (accounts_of here.vat) sent) where
  h : Within s None []
  h = local_is_within s local_

  loop_heard : (d : Disembargo) (n : ℕ) → d.context ≡ contexts.SenderLoopback n → (done : Done) → IsThere here s last (messages.Disembargo d ∷ rest)
      → OnDisembargo s (contexts.SenderLoopback n) d.target (Ok done) → HeardKept here s (messages.Disembargo d ∷ rest) done rest last
  loop_heard d n is done known does =
      let echoes = loop_does s n d.target done does in
      let back : Disembargo = record { context = contexts.ReceiverLoopback n; target = echoes.1.0 } in
      rw
      (echoes.0, echoes.1.1) (
        loop_kept here s last d n is rest known (messages.Disembargo back) (λ k. refl) (disembargo_untold back) (λ made. refl),
        loop_known here s last d n is rest known (messages.Disembargo back) (λ k. refl) (disembargo_untold back) (λ made. refl),
      )

  disembargo_heard : (d : Disembargo) (context : DisembargoContext) → d.context ≡ context → (done : Done) → IsThere here s last (messages.Disembargo d ∷ rest) → PlacesStay done.1 last
      → OnDisembargo s context d.target (Ok done) → HeardKept here s (messages.Disembargo d ∷ rest) done rest last
  disembargo_heard d (contexts.SenderLoopback n) is done known later does = loop_heard d n is done known does
  disembargo_heard d (contexts.ReceiverLoopback n) is done known later does =
      plain_kept here s last (messages.Disembargo d) rest done known (λ k. ap (is_loop_of k) is) (echo_chain s n d.target done local_.none_over_ does) later
  disembargo_heard d contexts.Accept is done known later does = absurd does
  disembargo_heard d (contexts.Provide q) is done known later does = absurd does
  disembargo_heard d (contexts.Unknown n) is done known later does = absurd does

  module _ (m : Message) (agree : Agree (accounts_of s) (m ∷ rest) (accounts_of here.vat) here.inbox) where
    now : Midway s (m ∷ rest) here
    now = record { within = h; unfinished = none; orderly = orderly; agreed = agree }

    left_now : NoneLeft s
    left_now = none_is_left now here_none

  on_there : (m : Message) (done : Done) (agree : Agree (accounts_of s) (m ∷ rest) (accounts_of here.vat) here.inbox) → gives_up m ≡ false → ComesToHeld s m
      → StartsThere here s (m ∷ rest) → (IsNoFinish m → IsThere here s last (m ∷ rest)) → PlacesStay done.1 last → On s m (Ok done) → HeardKept here s (m ∷ rest) done rest last
  on_there (messages.Unimplemented t) done agree quiet held starts known later does = absurd agree.usual.0.1
  on_there (messages.Abort x) done agree quiet held starts known later does = absurd agree.usual.0.1
  on_there (messages.Call c) done agree quiet held starts known later does =
      on_call_kept here s last c rest (known tt) h local_.none_over_ none (left_now (messages.Call c) agree)
      (opened_once here s (messages.Call c) rest c.question_id (is_itself c.question_id) agree) (fresh_there (now (messages.Call c) agree) here_local) done does later
  on_there (messages.Return r) done agree quiet held starts known later does =
      on_return_kept here s last r rest (known tt) h local_.none_over_ none (left_now (messages.Return r) agree) agree.usual.0.1.0
      (returned_fresh here s r rest none here_local agree done does) done does later
  on_there (messages.Finish f) done agree quiet held starts known later does =
      on_finish_kept here s last f rest sent starts here_local here_none local_ agree quiet local_last agree_last done does later
  on_there (messages.Resolve r) done agree quiet held starts known later does =
      plain_kept here s last (messages.Resolve r) rest done (known tt) tt (resolve_chain s r done h local_.none_over_ held does) later
  on_there (messages.Release r) done agree quiet held starts known later does = absurd (true≢false quiet)
  on_there (messages.Bootstrap b) done agree quiet held starts known later does =
      bootstrap_kept here s last b rest (known tt) h local_.none_over_ none (left_now (messages.Bootstrap b) agree)
      (opened_once here s (messages.Bootstrap b) rest b.question_id (is_itself b.question_id) agree) done does later
  on_there (messages.Disembargo d) done agree quiet held starts known later does = disembargo_heard d d.context refl done (known tt) later does
  on_there (messages.Other which body) done agree quiet held starts known later does = absurd does

  receives_by : (b : Bool) (m : Message) (done : Done) → b ≡ true → (agree : Agree (accounts_of s) (m ∷ rest) (accounts_of here.vat) here.inbox) → gives_up m ≡ false
      → ComesToHeld s m → StartsThere here s (m ∷ rest) → (IsNoFinish m → IsThere here s last (m ∷ rest)) → PlacesStay done.1 last → ReceivesIf b s m (Ok done)
      → HeardKept here s (m ∷ rest) done rest last
  receives_by true m done is agree quiet held starts known later does =
      on_there m done agree quiet held starts known later (unless_out {A = Done} {F = PeerFault} (fault_if (not (message_fits m)) faults.PayloadTooLarge) (On s m) done does)
  receives_by false m done is agree quiet held starts known later does = absurd (true≢false (sym is))

  pub heard_over : (m : Message) (first more : List Effect) (mid : State) → Agree (accounts_of s) (m ∷ rest) (accounts_of here.vat) here.inbox → gives_up m ≡ false
      → ComesToHeld s m → StartsThere here s (m ∷ rest) → Receives s m (Ok (first, mid)) → Leave mid more (Ok last) → (ref : Reference) (made : List ℕ)
      (delivered : List Delivery) → LaneHolds here (record { vat = s; inbox = m ∷ rest }) ref made delivered
      → LaneHolds (with_mail here (messages_sent (first ++ more))) (record { vat = last; inbox = rest }) ref made delivered
  heard_over m first more mid agree quiet held starts does leave ref made delivered lane =
      let midway = receives_midway s m rest here (first, mid) local_ none orderly agree quiet held does in
      let later = (leave_grows mid last more midway.within leave).places in
      let known : IsNoFinish m → IsThere here s last (m ∷ rest) =
      λ not_. heard_known here s last m rest sent (first, mid) more starts local_ none agree.usual.0 quiet held not_ does leave local_last agree_last in
      heard_there here s last (m ∷ rest) rest (first, mid) more here_local here_none midway
      (receives_by (is_supported m) m (first, mid) agree.usual.0.0 agree quiet held starts known later does) leave ref made delivered lane
