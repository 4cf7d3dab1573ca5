-- Places stay over a whole move, but where a Finish comes; so what is known of the other end where a move starts is known for all of it.
use Rattle.std.specs.Prelude.{◌≡◌, refl, ℕ, ◌==◌, not, if◌then◌else◌, Bool, true, false, List, [], ◌∷◌, ◌++◌, Option, Some, None, is_some, Ok}
use Rattle.std.specs.FinMap.{get, insert}
use Rattle.std.proofs.Common.{ap, sym, ◌∙◌, true≢false}
use Rattle.cp_tables.specs.Table.{Table}
use Rattle.cp_tables.specs.declared.counted.Counted.{Counted}
use Rattle.cp_tables.specs.declared.exchange.Exchange.{Exchange}
use Rattle.cp_tables.specs.declared.exchange.Stage.{Stage}
use Rattle.cp_tables.specs.declared.exchange.Stage.TheVariants as stages
use Rattle.cp_messages.specs.declared.call.Call.{Call}
use Rattle.cp_messages.specs.declared.disembargo.DisembargoContext.{DisembargoContext}
use Rattle.cp_messages.specs.declared.disembargo.DisembargoContext.TheVariants as contexts
use Rattle.cp_messages.specs.declared.message.Message.{Message}
use Rattle.cp_messages.specs.declared.message.Message.TheVariants as messages
use Rattle.cp_messages.specs.declared.returned.Return.{Return}
use Rattle.cp_messages.specs.declared.target.Target.{Target}
use Rattle.cp_refs.specs.declared.cap.Cap.{Cap}
use Rattle.cp_refs.specs.declared.call.Origin.TheVariants as origins
use Rattle.cp_refs.specs.declared.outcome.Outcome.{Outcome}
use Rattle.cp_refs.specs.declared.route.Route.{Route}
use Rattle.cp_refs.specs.declared.route.Route.TheVariants as routes
use Rattle.cp_vat_machine.specs.State.{State, none_over}
use Rattle.cp_vat_machine.specs.Then.{Done, fault_if}
use Rattle.cp_vat_machine.specs.Capacity.{has_capacity, message_fits}
use Rattle.cp_vat_machine.specs.Supported.{is_supported}
use Rattle.cp_vat_machine.specs.Receiving.{ReceivesCaps, release_exports}
use Rattle.cp_vat_machine.specs.Give.{GiveAnswer, GiveOwn, GiveOwnBy, without_question}
use Rattle.cp_vat_machine.specs.Asking.{ReceivesReturned, Settles, ReturnBy, ReturnOf, is_asked, OnReturn}
use Rattle.cp_vat_machine.specs.Answering.{with_answer, bootstrap_outcome, is_answering, OnBootstrap, peer_call, entered, call_faults, target_faults, OnCall}
use Rattle.cp_vat_machine.specs.Resolving.{OnDisembargo}
use Rattle.cp_vat_machine.specs.Go.{Leave}
use Rattle.cp_vat_machine.specs.Calling.{OwnDone}
use Rattle.cp_vat_machine.specs.Local.{Local}
use Rattle.cp_vat_machine.specs.Step.{On, ReceivesIf, Receives, Does}
use Rattle.cp_vat_machine.specs.declared.effect.Effect.{Effect}
use Rattle.cp_vat_machine.specs.declared.entry.QuestionEntry.{QuestionEntry}
use Rattle.cp_vat_machine.specs.declared.event.Event.{Event}
use Rattle.cp_vat_machine.specs.declared.fault.PeerFault.{PeerFault}
use Rattle.cp_vat_machine.specs.declared.fault.PeerFault.TheVariants as faults
use Rattle.cp_vat_machine.proofs.Basics.{some_out, none_out, ok_in, ok_out, then_out, unless_out, is_equal, put_at}
use Rattle.cp_vat_laws.specs.Within.{Within}
use Rattle.cp_vat_laws.proofs.within.Between.{local_is_within}
use Rattle.cp_vat_laws.proofs.within.Step.{does_within, receives_within}
use Rattle.cp_vat_laws.proofs.Tables.{there_of, no_faults, front_empty, not_met}
use Rattle.cp_vat_laws.proofs.within.Take.{take_all_keeps}
use Rattle.cp_vat_pair_laws.specs.Accounts.{accounts_of, is_finish_noted}
use Rattle.cp_vat_pair_laws.specs.VatPair.{End}
use Rattle.cp_vat_pair_laws.specs.Lives.{IsUsual, Agree}
use Rattle.cp_vat_pair_laws.specs.Lane.{IsStill}
use Rattle.cp_vat_pair_laws.specs.Phases.{gives_up}
use Rattle.cp_vat_pair_laws.specs.Places.{NoneFinished}
use Rattle.cp_vat_pair_laws.proofs.still.Grows.{PlacesStay, places_same, places_both}
use Rattle.cp_vat_pair_laws.proofs.still.Give.{answer_grows, outcome_places, left_grows}
use Rattle.cp_vat_pair_laws.proofs.still.Go.{MayFail, go_grows, leave_grows}
use Rattle.cp_vat_pair_laws.proofs.still.Receives.{taken_places, opened_may, unset, forwarded_may, returned_taken, unlowered, ComesToHeld}
use Rattle.cp_vat_pair_laws.proofs.lane.other.Chain.{IsThere, chain_places}
use Rattle.cp_vat_pair_laws.proofs.lane.other.Give.{NoneLeft}
use Rattle.cp_vat_pair_laws.proofs.lane.other.Does.{does_chain}
use Rattle.cp_vat_pair_laws.proofs.lane.other.CallGoes.{call_goes}
use Rattle.cp_vat_pair_laws.proofs.lane.other.CallComes.{unanswered_of}
use Rattle.cp_vat_pair_laws.proofs.lane.other.ResolveComes.{resolve_chain, echo_chain, loop_does}
use Rattle.cp_vat_pair_laws.proofs.lane.other.Start.{StartsThere, known_there}

-- An answer that is opened is new.
opened_stay : (s : State) (a : ℕ) (ticket : Option ℕ) → get s.values.answers a ≡ None → PlacesStay s (with_answer s a ticket)
opened_stay s a ticket new =
    record {
      ways = record { promises = λ p v is. is; questions = λ q question o is given_. is };
      answers = λ q o is. by q o (a == q) refl is;
      exports = λ e c is. is;
      one_export = λ one. one;
    }
  where
    by : (q : ℕ) (o : Outcome) (b : Bool) → (a == q) ≡ b → get s.values.answers q ≡ Some (Some o) → get (insert s.values.answers a None) q ≡ Some (Some o)
    by q o true t is = none_out (sym new ∙ ap (λ n. get s.values.answers n) (is_equal a q t) ∙ is)
    by q o false t is = put_at s.values.answers a q None false t ∙ is

not_some : {X : Type 0} (o : Option X) → is_some o ≡ false → o ≡ None
not_some None is = refl
not_some (Some x) is = absurd (true≢false is)

module _ (s : State) (w : Within s None []) (still : s.waiting.over ≡ none_over) where
  bootstrap_stay : (a : ℕ) (done : Done) → OnBootstrap s a (Ok done) → PlacesStay s done.1
  bootstrap_stay a done does =
      let checks = fault_if (is_answering s a) faults.QuestionInUse ++ fault_if (not (has_capacity s.entries.answers)) faults.TableFull in
      let free = not_some (get s.entries.answers a) (not_met _ _ (front_empty _ _ (no_faults checks _ done does))) in
      places_both (opened_stay s a None (unanswered_of s w a free))
      (answer_grows (with_answer s a None) a (bootstrap_outcome s.bootstrap) done w.one_export (opened_may s a None) (unless_out checks _ done does)).places

  fails_at : (t : State) (a : ℕ) (route : Route) → MayFail (entered t a) (origins.Answer a) route
  fails_at t a (routes.Fail x) = opened_may t a (Some t.next_ticket)
  fails_at t a (routes.Deliver k) = tt
  fails_at t a (routes.Import i) = tt
  fails_at t a (routes.Pipe q path) = tt
  fails_at t a (routes.Wait gate) = tt

  call_stay : (c : Call) (done : Done) → OnCall s c (Ok done) → PlacesStay s done.1
  call_stay c done does =
      let free = not_some (get s.entries.answers c.question_id)
      (not_met _ _
      (front_empty (fault_if (is_answering s c.question_id) faults.QuestionInUse) (target_faults s c.target)
      (front_empty (fault_if (is_answering s c.question_id) faults.QuestionInUse ++ target_faults s c.target) _ (no_faults (call_faults s c) _ done does)))) in
      let taken = then_out {A = List Cap × State} {B = Done} (ReceivesCaps s c.params.cap_table) _ done (unless_out (call_faults s c) _ done does) in
      let all = take_all_keeps None [] c.params.cap_table s taken.0 w still taken.1 in
      let t : State = taken.0.1 in
      let new : get t.values.answers c.question_id ≡ None = ap (λ x. get x c.question_id) all.1.answers ∙ unanswered_of s w c.question_id free in
      let opened = opened_stay t c.question_id (Some t.next_ticket) new in
      let enters : PlacesStay t (entered t c.question_id)
      = record { ways = opened.ways; answers = opened.answers; exports = opened.exports; one_export = opened.one_export } in
      let goes = call_goes (entered t c.question_id) (peer_call t c taken.0.0) c.target done taken.2 in
      places_both (taken_places all.1)
      (places_both enters
      (go_grows (entered t c.question_id) (peer_call t c taken.0.0) goes.0 done all.0.one_export (fails_at t c.question_id goes.0) goes.1).places)

  -- A Return settles its question, or answers the call that it forwards.
  own_stay : (t : State) (q : ℕ) (entry : Exchange QuestionEntry) (outcome : Outcome) (done : Done) → Within t None [] → get t.entries.questions q ≡ Some entry → entry.stage ≡ stages.Open
      → GiveOwn t q outcome (Ok done) → PlacesStay t done.1
  own_stay t q entry outcome done h is open_ gives =
      let same : gives.0.stage ≡ stages.Open = ap (λ (x : Exchange QuestionEntry). x.stage) (some_out (sym gives.1 ∙ is)) ∙ open_ in
      let by : GiveOwnBy t q outcome stages.Open (Ok done) = rw same at gives.2 in
      rw (ok_in _ _ by) (outcome_places t q outcome (unset h q entry is (rw (open_) refl)))

  settles_stay : (t : State) (q : ℕ) (entry : Exchange QuestionEntry) (outcome : Outcome) (done : Done) → Within t None [] → get t.entries.questions q ≡ Some entry
      → entry.stage ≡ stages.Open → (forwards : Option ℕ) → entry.kept.forwards ≡ forwards → Settles t q forwards outcome (Ok done) → PlacesStay t done.1
  settles_stay t q entry outcome done h is open_ None own gives = own_stay t q entry outcome done h is open_ gives
  settles_stay t q entry outcome done h is open_ (Some a) forwards gives =
      let parts = then_out {A = Done} {B = Done} (GiveAnswer (without_question t q) a outcome) _ done gives in
      let left = left_grows t q outcome (unset h q entry is (rw (open_) refl)) in
      let answers = answer_grows (without_question t q) a outcome parts.0 h.one_export (forwarded_may h q a entry is forwards) parts.1 in
      rw (ok_in _ _ parts.2) (places_both left.places answers.places)

  return_stay : (r : Return) (done : Done) → NoneFinished s → r.release_param_caps ≡ false → OnReturn s r (Ok done) → PlacesStay s done.1
  return_stay r done none keeps does = by (get s.entries.questions r.answer_id) refl does
    where
      at_stage : (entry : Exchange QuestionEntry) → get s.entries.questions r.answer_id ≡ Some entry → (stage : Stage) → entry.stage ≡ stage → ReturnBy s r entry.kept stage (Ok done)
          → PlacesStay s done.1
      at_stage entry is stages.Open at gives =
          let taken = then_out {A = Outcome × State} {B = Done} (ReceivesReturned s r.returned) _ done gives in
          let one = returned_taken s r.returned taken.0 w still taken.1 in
          let there : get taken.0.1.entries.questions r.answer_id ≡ Some entry = ap (λ m. get m r.answer_id) one.grows.asked ∙ is in
          places_both (taken_places one.grows) (settles_stay taken.0.1 r.answer_id entry taken.0.0 done one.within there at entry.kept.forwards refl taken.2)
      at_stage entry is stages.Finished at gives =
          let unfinished = there_of (λ (x : Exchange QuestionEntry). is_finish_noted x.stage ≡ false) (get s.entries.questions r.answer_id) entry is (none r.answer_id) in
          absurd (true≢false (sym (ap is_finish_noted at) ∙ unfinished))
      at_stage entry is stages.Returned at gives = absurd gives

      by : (o : Option (Exchange QuestionEntry)) → get s.entries.questions r.answer_id ≡ o → ReturnOf s r o (Ok done) → PlacesStay s done.1
      by None is gives = ok_out gives
      by (Some entry) is gives =
          let rule = unless_out {A = Done} {F = PeerFault} (fault_if (not (is_asked entry.kept.is_sent entry.stage)) faults.UnknownQuestion) _ done gives in
          let lowers = then_out {A = Table (Counted Cap)} {B = Done}
          (λ exports. exports ≡ (if r.release_param_caps then release_exports s.counts.exports entry.kept.mentions else Ok s.counts.exports)) _ done rule in
          let same = unlowered r.release_param_caps s entry.kept.mentions lowers.0 keeps lowers.1 in
          at_stage entry is entry.stage refl (rw same at lowers.2)

  disembargo_stay : (context : DisembargoContext) (target : Target) (done : Done) → OnDisembargo s context target (Ok done) → PlacesStay s done.1
  disembargo_stay (contexts.SenderLoopback n) target done does = rw ((loop_does s n target done does).0) (places_same refl refl)
  disembargo_stay (contexts.ReceiverLoopback n) target done does = chain_places (echo_chain s n target done still does)
  disembargo_stay contexts.Accept target done does = absurd does
  disembargo_stay (contexts.Provide q) target done does = absurd does
  disembargo_stay (contexts.Unknown n) target done does = absurd does

-- Only a Finish takes a place away.
abbrev pub IsNoFinish : Message → Type 0
IsNoFinish (messages.Finish f) = ⊥
IsNoFinish other = Unit {0}

module _ (s : State) (w : Within s None []) (still : s.waiting.over ≡ none_over) (none : NoneFinished s) where
  on_stay : (m : Message) (done : Done) → IsUsual m → gives_up m ≡ false → ComesToHeld s m → IsNoFinish m → On s m (Ok done) → PlacesStay s done.1
  on_stay (messages.Unimplemented t) done usual quiet held not_ does = absurd usual.1
  on_stay (messages.Abort x) done usual quiet held not_ does = absurd usual.1
  on_stay (messages.Call c) done usual quiet held not_ does = call_stay s w still c done does
  on_stay (messages.Return r) done usual quiet held not_ does = return_stay s w still r done none usual.1.0 does
  on_stay (messages.Finish f) done usual quiet held not_ does = absurd not_
  on_stay (messages.Resolve r) done usual quiet held not_ does = chain_places (resolve_chain s r done w still held does)
  on_stay (messages.Release r) done usual quiet held not_ does = absurd (true≢false quiet)
  on_stay (messages.Bootstrap b) done usual quiet held not_ does = bootstrap_stay s w still b.question_id done does
  on_stay (messages.Disembargo d) done usual quiet held not_ does = disembargo_stay s w still d.context d.target done does
  on_stay (messages.Other which body) done usual quiet held not_ does = absurd does

  receives_stay : (b : Bool) (m : Message) (done : Done) → b ≡ true → IsUsual m → gives_up m ≡ false → ComesToHeld s m → IsNoFinish m → ReceivesIf b s m (Ok done)
      → PlacesStay s done.1
  receives_stay true m done is usual quiet held not_ does =
      on_stay m done usual quiet held not_ (unless_out {A = Done} {F = PeerFault} (fault_if (not (message_fits m)) faults.PayloadTooLarge) (On s m) done does)
  receives_stay false m done is usual quiet held not_ does = absurd (true≢false (sym is))

-- Over what is done at first, and what leaves then.
pub heard_stay : (s last : State) (m : Message) (done : Done) (rest : List Effect) → Local s → NoneFinished s → IsUsual m → gives_up m ≡ false → ComesToHeld s m → IsNoFinish m
    → Receives s m (Ok done) → Leave done.1 rest (Ok last) → PlacesStay s last
heard_stay s last m done rest local_ none usual quiet held not_ does leave =
    places_both (receives_stay s (local_is_within s local_) local_.none_over_ none (is_supported m) m done usual.0 usual quiet held not_ does)
    (leave_grows done.1 last rest (receives_within s m done local_ does) leave).places

pub did_stay : (s last : State) (event : Event) (done : OwnDone) (rest : List Effect) → Local s → NoneFinished s → NoneLeft s → IsStill event → Does s event (Ok done)
    → Leave done.2 rest (Ok last) → PlacesStay s last
did_stay s last event done rest local_ none left still does leave =
    places_both (chain_places (does_chain s local_ none left event done still does)) (leave_grows done.2 last rest (does_within s event done local_ does) leave).places

-- So this is known from its start on.
pub heard_known : (here : End) (s last : State) (m : Message) (inbox sent : List Message) (done : Done) (rest : List Effect) → StartsThere here s (m ∷ inbox) → Local s
    → NoneFinished s → IsUsual m → gives_up m ≡ false → ComesToHeld s m → IsNoFinish m → Receives s m (Ok done) → Leave done.1 rest (Ok last) → Local last
    → Agree (accounts_of last) inbox (accounts_of here.vat) sent → IsThere here s last (m ∷ inbox)
heard_known here s last m inbox sent done rest starts local_ none usual quiet held not_ does leave local_last agree =
    known_there here s last (m ∷ inbox) inbox sent starts (heard_stay s last m done rest local_ none usual quiet held not_ does leave) local_last agree

pub did_known : (here : End) (s last : State) (inbox sent : List Message) (event : Event) (done : OwnDone) (rest : List Effect) → StartsThere here s inbox → Local s
    → NoneFinished s → NoneLeft s → IsStill event → Does s event (Ok done) → Leave done.2 rest (Ok last) → Local last
    → Agree (accounts_of last) inbox (accounts_of here.vat) sent → IsThere here s last inbox
did_known here s last inbox sent event done rest starts local_ none left still does leave local_last agree =
    known_there here s last inbox inbox sent starts (did_stay s last event done rest local_ none left still does leave) local_last agree
