-- Messages that move no call of a lane, tell nothing of its reference and aren't its echo: a Finish, a Bootstrap and a Disembargo that is echoed.
use Rattle.std.specs.Prelude.{◌≡◌, refl, ℕ, not, ◌++◌, if◌then◌else◌, false, List, [], ◌∷◌, Option, Some, None, Ok}
use Rattle.std.specs.Ordering.{nat_cmp}
use Rattle.std.specs.FinMap.{get, get-empty}
use Rattle.std.proofs.Common.{inr, ap, ◌∙◌}
use Rattle.cp_tables.specs.Table.{Table}
use Rattle.cp_tables.specs.Exchange.{with_stage}
use Rattle.cp_tables.specs.declared.counted.Counted.{Counted}
use Rattle.cp_tables.specs.declared.exchange.Exchange.{Exchange}
use Rattle.cp_tables.specs.declared.exchange.Stage.{Stage}
use Rattle.cp_tables.specs.declared.exchange.Stage.TheVariants as stages
use Rattle.cp_messages.specs.declared.disembargo.DisembargoContext.TheVariants as contexts
use Rattle.cp_messages.specs.declared.message.Message.{Message}
use Rattle.cp_messages.specs.declared.message.Message.TheVariants as messages
use Rattle.cp_messages.specs.declared.small.Finish.{Finish}
use Rattle.cp_messages.specs.declared.target.Target.{Target}
use Rattle.cp_messages.specs.declared.target.Target.TheVariants as targets
use Rattle.cp_refs.specs.declared.cap.Cap.{Cap}
use Rattle.cp_refs.specs.declared.cap.Cap.TheVariants as caps
use Rattle.cp_refs.specs.declared.outcome.Outcome.{Outcome}
use Rattle.cp_vat_machine.specs.State.{State, with_answers}
use Rattle.cp_vat_machine.specs.Then.{Done, fault_if}
use Rattle.cp_vat_machine.specs.Capacity.{has_capacity}
use Rattle.cp_vat_machine.specs.Writing.{IsExport}
use Rattle.cp_vat_machine.specs.Receiving.{answer_of, path_of, release_exports}
use Rattle.cp_vat_machine.specs.Give.{GiveAnswer}
use Rattle.cp_vat_machine.specs.Answering.{with_answer, bootstrap_outcome, is_answering, OnBootstrap, without_answer, AtStage, FinishedBy, OnFinish, target_faults}
use Rattle.cp_vat_machine.specs.Resolving.{echo_to, EchoesExport, EchoesAnswer, EchoesTarget, OnDisembargo}
use Rattle.cp_vat_machine.specs.Local.{Local}
use Rattle.cp_vat_machine.specs.declared.effect.Effect.{Effect}
use Rattle.cp_vat_machine.specs.declared.effect.Effect.TheVariants as effects
use Rattle.cp_vat_machine.specs.declared.entry.AnswerEntry.{AnswerEntry}
use Rattle.cp_vat_machine.specs.declared.fault.PeerFault.{PeerFault}
use Rattle.cp_vat_machine.specs.declared.fault.PeerFault.TheVariants as faults
use Rattle.cp_vat_machine.proofs.Basics.{ok_in, ok_out, then_out, unless_out}
use Rattle.cp_vat_laws.specs.Within.{Within}
use Rattle.cp_vat_laws.proofs.within.Between.{local_is_within}
use Rattle.cp_vat_pair_laws.specs.VatPair.{End, messages_sent, with_mail}
use Rattle.cp_vat_pair_laws.specs.Lane.{Reference, import_, path_to, Delivery}
use Rattle.cp_vat_pair_laws.specs.Phases.{tells, LaneHolds}
use Rattle.cp_vat_pair_laws.proofs.lane.own.Calm.{IsApartHere}
use Rattle.cp_vat_pair_laws.proofs.still.Receives.{unlowered, opened_may}
use Rattle.cp_vat_pair_laws.proofs.lane.parts.Silent.{Silent, silent_both, bearing_same, answer_silent}
use Rattle.cp_vat_pair_laws.proofs.lane.parts.Calm.{Calm, calm_both, none_open_over, answer_calm}
use Rattle.cp_vat_pair_laws.proofs.lane.own.Reference.{ref_calm}
use Rattle.cp_vat_pair_laws.proofs.lane.own.Turn.{lane_delivered}
use Rattle.cp_vat_pair_laws.proofs.lane.own.NoCallMoves.{silent_lane}

module _ (s : State) (m : Message) (rest : List Message) (there : End) (ref : Reference) (made : List ℕ) (delivered : List Delivery) where
  abbrev here : End
  here = record { vat = s; inbox = m ∷ rest }

  abbrev LaneThen : List Effect → State → Type 0
  LaneThen done new = LaneHolds (record { vat = new; inbox = rest }) (with_mail there (messages_sent done)) ref made (delivered ++ lane_delivered s there.vat made done)

  -- a message that has nothing to do with the lane
  pub hears_lane : (done : List Effect) (new : State) → IsApartHere here there ref made m → Silent s done new → Calm s done new
      → ((e : ℕ) (cap : Cap) → IsExport s e cap → IsExport new e cap) → LaneHolds here there ref made delivered → LaneThen done new
  hears_lane done new apart silent calm exports holds =
      silent_lane here there ref made new rest done silent (ref_calm ref calm) exports (inr (m, refl, apart)) delivered holds

-- a Finish
finish_apart : (end other : End) (ref : Reference) (made : List ℕ) (f : Finish) → IsApartHere end other ref made (messages.Finish f)
finish_apart end other ref made f = record { back_ = refl; tell = by ref; echo = λ n is. refl }
  where
    by : (ref : Reference) → tells ref (messages.Finish f) ≡ false
    by (import_ i) = refl
    by (path_to q path) = refl

module _ (s : State) (rest : List Message) (there : End) (ref : Reference) (made : List ℕ) (delivered : List Delivery) (f : Finish) (keeps : f.release_result_caps ≡ false) where
  abbrev finished_here : End
  finished_here = record { vat = s; inbox = messages.Finish f ∷ rest }

  abbrev FinishThen : List Effect → State → Type 0
  FinishThen done new = LaneHolds (record { vat = new; inbox = rest }) (with_mail there (messages_sent done)) ref made (delivered ++ lane_delivered s there.vat made done)

  left_lane : LaneHolds finished_here there ref made delivered → FinishThen [] (without_answer s f.question_id)
  left_lane holds =
      hears_lane s (messages.Finish f) rest there ref made delivered [] (without_answer s f.question_id) (finish_apart finished_here there ref made f)
      (record { calls = refl; bearing = bearing_same s (without_answer s f.question_id) refl; no_call = refl; no_delivery = refl })
      (record { imports = refl; questions = refl; marks = refl; gave_ = λ gate cap is. is; no_open = λ q is. refl; no_loop = λ n. refl }) (λ e cap is. is) holds

  abbrev noted : State
  noted = with_answers s (with_stage s.entries.answers f.question_id stages.Finished)

  noted_lane : LaneHolds finished_here there ref made delivered → FinishThen [] noted
  noted_lane holds =
      hears_lane s (messages.Finish f) rest there ref made delivered [] noted (finish_apart finished_here there ref made f)
      (record { calls = refl; bearing = bearing_same s noted refl; no_call = refl; no_delivery = refl })
      (record { imports = refl; questions = refl; marks = refl; gave_ = λ gate cap is. is; no_open = λ q is. refl; no_loop = λ n. refl }) (λ e cap is. is) holds

  finish_at : (kept : AnswerEntry) (stage : Stage) (done : Done) → AtStage s f kept stage (Ok done) → LaneHolds finished_here there ref made delivered → FinishThen done.0 done.1
  finish_at kept stages.Open done does holds = rw (ok_in _ _ does) (noted_lane holds)
  finish_at kept stages.Returned done does holds =
      let parts = then_out {A = Table (Counted Cap)} {B = Done}
      (λ exports. exports ≡ (if f.release_result_caps then release_exports s.counts.exports kept.mentions else Ok s.counts.exports)) _ done does in
      let same = unlowered f.release_result_caps s kept.mentions parts.0 keeps parts.1 in
      let is : done ≡ ([], without_answer s f.question_id) = ok_in _ _ parts.2 ∙ ap (λ x. ([], without_answer x f.question_id)) same in
      rw (is) (left_lane holds)
  finish_at kept stages.Finished done does holds = ok_out does

  finish_by : (o : Option (Exchange AnswerEntry)) (done : Done) → FinishedBy s f o (Ok done) → LaneHolds finished_here there ref made delivered → FinishThen done.0 done.1
  finish_by None done does holds = ok_out does
  finish_by (Some entry) done does holds = finish_at entry.kept entry.stage done does holds

  pub finish_lane : (done : Done) → OnFinish s f (Ok done) → LaneHolds finished_here there ref made delivered → FinishThen done.0 done.1
  finish_lane done does holds = finish_by (get s.entries.answers f.question_id) done does holds

-- a Bootstrap of the peer's
module _ (s : State) (rest : List Message) (there : End) (ref : Reference) (made : List ℕ) (delivered : List Delivery) (a : ℕ) (local_ : Local s) where
  abbrev asked_here : End
  asked_here = record { vat = s; inbox = messages.Bootstrap (record { question_id = a }) ∷ rest }

  abbrev BootstrapThen : List Effect → State → Type 0
  BootstrapThen done new = LaneHolds (record { vat = new; inbox = rest }) (with_mail there (messages_sent done)) ref made (delivered ++ lane_delivered s there.vat made done)

  asked_apart : IsApartHere asked_here there ref made (messages.Bootstrap (record { question_id = a }))
  asked_apart = record { back_ = refl; tell = by ref; echo = λ n is. refl }
    where
      by : (ref : Reference) → tells ref (messages.Bootstrap (record { question_id = a })) ≡ false
      by (import_ i) = refl
      by (path_to q path) = refl

  abbrev opened : State
  opened = with_answer s a None

  pub bootstrap_lane : (done : Done) → ((e : ℕ) (cap : Cap) → IsExport s e cap → IsExport done.1 e cap) → OnBootstrap s a (Ok done)
      → LaneHolds asked_here there ref made delivered → BootstrapThen done.0 done.1
  bootstrap_lane done exports does holds =
      let gives = unless_out {A = Done} {F = PeerFault}
      (fault_if (is_answering s a) faults.QuestionInUse ++ fault_if (not (has_capacity s.entries.answers)) faults.TableFull)
      (GiveAnswer opened a (bootstrap_outcome s.bootstrap)) done does in
      let first : Silent s [] opened = record { calls = refl; bearing = bearing_same s opened refl; no_call = refl; no_delivery = refl } in
      let silent = silent_both s opened done.1 [] done.0 first (answer_silent opened a (bootstrap_outcome s.bootstrap) done gives) in
      let over : get opened.waiting.over.answers a ≡ None = ap (λ o. get o.answers a) local_.none_over_ ∙ get-empty {X = Outcome} nat_cmp a in
      let calm_first : Calm s [] opened =
      record { imports = refl; questions = refl; marks = refl; gave_ = λ gate cap is. is; no_open = λ q is. refl; no_loop = λ n. refl } in
      let h : Within s None [] = local_is_within s local_ in
      let calm_then = answer_calm opened a (bootstrap_outcome s.bootstrap) done (none_open_over h) over (opened_may s a None).1 gives in
      hears_lane s (messages.Bootstrap (record { question_id = a })) rest there ref made delivered done.0 done.1 asked_apart silent
      (calm_both s opened done.1 [] done.0 calm_first calm_then) exports holds

-- a Disembargo that is echoed
module _ (s : State) (rest : List Message) (there : End) (ref : Reference) (made : List ℕ) (delivered : List Delivery) (n : ℕ) (target : Target) where
  abbrev looped : Message
  looped = messages.Disembargo (record { context = contexts.SenderLoopback n; target = target })

  abbrev looped_here : End
  looped_here = record { vat = s; inbox = looped ∷ rest }

  abbrev LoopThen : List Effect → State → Type 0
  LoopThen done new = LaneHolds (record { vat = new; inbox = rest }) (with_mail there (messages_sent done)) ref made (delivered ++ lane_delivered s there.vat made done)

  looped_apart : IsApartHere looped_here there ref made looped
  looped_apart = record { back_ = refl; tell = by ref; echo = λ m is. refl }
    where
      by : (ref : Reference) → tells ref looped ≡ false
      by (import_ i) = refl
      by (path_to q path) = refl

  abbrev echo_of : ℕ → Effect
  echo_of i = effects.Send (messages.Disembargo (record { context = contexts.ReceiverLoopback n; target = targets.ImportedCap i }))

  echo_by : (last : Cap) (done : Done) → Ok done ≡ echo_to s n last → LaneHolds looped_here there ref made delivered → LoopThen done.0 done.1
  echo_by (caps.Import i) done is holds =
      let same = ok_in _ _ is in
      rw
      (same)
      (hears_lane s looped rest there ref made delivered (echo_of i ∷ []) s looped_apart (record { calls = refl; bearing = bearing_same s s refl; no_call = refl; no_delivery = refl })
      (record { imports = refl; questions = refl; marks = refl; gave_ = λ gate cap at. at; no_open = λ q at. refl; no_loop = λ m. refl }) (λ e cap at. at) holds)
  echo_by caps.None done is holds = ok_out is
  echo_by (caps.Object k) done is holds = ok_out is
  echo_by (caps.Promise p) done is holds = ok_out is
  echo_by (caps.Pipelined q path) done is holds = ok_out is
  echo_by (caps.Broken x) done is holds = ok_out is

  at_export : (o : Option (Counted Cap)) (done : Done) → EchoesExport s n o (Ok done) → LaneHolds looped_here there ref made delivered → LoopThen done.0 done.1
  at_export None done does holds = absurd does
  at_export (Some entry) done does holds = echo_by does.0 done does.2 holds

  at_answer : (path : List ℕ) (o : Option (Option Outcome)) (done : Done) → EchoesAnswer s n path o (Ok done) → LaneHolds looped_here there ref made delivered
      → LoopThen done.0 done.1
  at_answer path None done does holds = absurd does
  at_answer path (Some None) done does holds = ok_out does
  at_answer path (Some (Some outcome)) done does holds = echo_by does.0 done does.2 holds

  echoes_at : (t : Target) (done : Done) → EchoesTarget s n t (Ok done) → LaneHolds looped_here there ref made delivered → LoopThen done.0 done.1
  echoes_at (targets.ImportedCap e) done does holds = at_export (get s.counts.exports e) done does holds
  echoes_at (targets.PromisedAnswer answer) done does holds = at_answer (path_of answer.transform) (answer_of s answer.question_id) done does holds
  echoes_at (targets.Unknown k) done does holds = absurd does

  pub loop_lane : (done : Done) → OnDisembargo s (contexts.SenderLoopback n) target (Ok done) → LaneHolds looped_here there ref made delivered → LoopThen done.0 done.1
  loop_lane done does holds = echoes_at target done (unless_out {A = Done} {F = PeerFault} (target_faults s target) _ done does) holds
