-- What a vat does when a Bootstrap, a Call, a Finish or a Return comes, found by computing.
use Rattle.std.specs.Prelude.{◌≡◌, refl, ℕ, ◌+◌, ltb, not, ◌&&◌, false, List, [], ◌∷◌, ◌++◌, is_none, is_some, Option, Some, None, Ok, Err}
use Rattle.std.proofs.Common.{sym, ap}
use Rattle.cp_tables.specs.Exchange.{new_exchange}
use Rattle.cp_tables.specs.declared.counted.Counted.{Counted}
use Rattle.cp_tables.specs.declared.exchange.Exchange.{Exchange}
use Rattle.cp_tables.specs.declared.exchange.Stage.{Stage}
use Rattle.cp_tables.specs.declared.exchange.Stage.TheVariants as stages
use Rattle.cp_messages.specs.declared.call.Call.{Call}
use Rattle.cp_messages.specs.declared.small.Finish.{Finish}
use Rattle.cp_messages.specs.declared.returned.Return.{Return}
use Rattle.cp_messages.specs.declared.returned.Returned.{Returned}
use Rattle.cp_messages.specs.declared.returned.Returned.TheVariants as returns
use Rattle.cp_messages.specs.declared.target.Target.{Target}
use Rattle.cp_messages.specs.declared.target.Target.TheVariants as targets
use Rattle.cp_refs.specs.At.{cap_at}
use Rattle.cp_refs.specs.declared.cap.Cap.{Cap}
use Rattle.cp_refs.specs.declared.outcome.Outcome.{Outcome}
use Rattle.cp_refs.specs.declared.outcome.Outcome.TheVariants as outcomes
use Rattle.cp_refs.specs.declared.route.Gate.TheVariants as gates
use Rattle.cp_refs.specs.declared.route.Route.TheVariants as routes
use Rattle.cp_vat_machine.specs.State.{with_answers}
use Rattle.cp_vat_machine.specs.Then.{Then, fault_if, after}
use Rattle.cp_vat_machine.specs.Capacity.{has_ticket}
use Rattle.cp_vat_machine.specs.Receiving.{path_of}
use Rattle.cp_vat_machine.specs.Give.{GiveAnswer}
use Rattle.cp_vat_machine.specs.Go.{PendingCall, finish_of}
use Rattle.cp_vat_machine.specs.Answering.{bootstrap_outcome, OnBootstrap, target_faults, GoToExport, GoToAnswer, GoToTarget, peer_call, OnCall, without_answer, AtStage, FinishedBy, OnFinish}
use Rattle.cp_vat_machine.specs.Asking.{ReceivesReturned, Settles, ReturnBy, is_asked, ReturnOf, OnReturn}
use Rattle.cp_vat_machine.specs.declared.entry.AnswerEntry.{AnswerEntry}
use Rattle.cp_vat_machine.specs.declared.entry.QuestionEntry.{QuestionEntry}
use Rattle.cp_vat_machine.specs.declared.fault.PeerFault.{PeerFault}
use Rattle.cp_vat_machine.specs.declared.fault.PeerFault.TheVariants as faults
use Rattle.test_vat.proofs.Known.{Known, state, at, get_is, size, without, remove_is}
use Rattle.test_vat.proofs.Found.{Finds, lacks, found, beside, moved, unless, follow}
use Rattle.test_vat.proofs.Finding.{room_is}
use Rattle.test_vat.proofs.Taking.{changed, changed_is, known_answer, answer_is, find_all_taken, find_lowered_if}
use Rattle.test_vat.proofs.Giving.{find_answer_given, find_own_given, without_question_known, without_question_is}
use Rattle.test_vat.proofs.Going.{find_gone, find_gone_to}

abbrev pub answering_known : Known → ℕ → Option ℕ → Known
answering_known k a ticket =
    record k {
      answers = (a, None) ∷ k.answers;
      answering = (a, new_exchange (record { ticket = ticket; is_delivered = false; mentions = []; tied = [] })) ∷ k.answering;
    }

abbrev pub find_bootstrapped : (k : Known) (a : ℕ) → Finds beside (OnBootstrap (state k) a)
find_bootstrapped k a =
    unless
    _
    (fault_if (is_some (at k.answering a)) faults.QuestionInUse ++ fault_if (not (ltb (size k.answering) 65536)) faults.TableFull)
    (λ i. fault_if (is_some (get_is k.answering a i)) faults.QuestionInUse ++ fault_if (not (room_is k.answering i)) faults.TableFull)
    (find_answer_given (answering_known k a None) a (bootstrap_outcome k.bootstrap))

-- a target that the peer may name
abbrev pub known_target_faults : Known → Target → List PeerFault
known_target_faults k (targets.ImportedCap e) = fault_if (is_none (at k.exports e)) faults.UnknownExport
known_target_faults k (targets.PromisedAnswer answer) = fault_if (is_none (known_answer k answer.question_id)) faults.UnknownAnswer
known_target_faults k (targets.Unknown n) = []

pub target_faults_are : (k : Known) (target : Target) → target_faults (state k) target ≡ known_target_faults k target
target_faults_are k (targets.ImportedCap e) = λ i. fault_if (is_none (get_is k.exports e i)) faults.UnknownExport
target_faults_are k (targets.PromisedAnswer answer) = λ i. fault_if (is_none (answer_is k answer.question_id i)) faults.UnknownAnswer
target_faults_are k (targets.Unknown n) = refl

abbrev pub find_to_export : (k : Known) (call : PendingCall) (o : Option (Counted Cap)) → Finds beside (GoToExport (state k) call o)
find_to_export k call None = lacks
find_to_export k call (Some entry) = find_gone_to k call entry.kept

abbrev pub find_to_answer : (k : Known) (call : PendingCall) (a : ℕ) (path : List ℕ) (o : Option (Option Outcome)) → Finds beside (GoToAnswer (state k) call a path o)
find_to_answer k call a path None = lacks
find_to_answer k call a path (Some None) = find_gone k call (routes.Wait (gates.Answer a path))
find_to_answer k call a path (Some (Some outcome)) = find_gone_to k call (cap_at outcome path)

abbrev pub find_to_target : (k : Known) (call : PendingCall) (target : Target) → Finds beside (GoToTarget (state k) call target)
find_to_target k call (targets.ImportedCap e) = moved (GoToExport (state k) call) (get_is k.exports e) (find_to_export k call (at k.exports e))
find_to_target k call (targets.PromisedAnswer answer) =
    moved
    (GoToAnswer (state k) call answer.question_id (path_of answer.transform))
    (answer_is k answer.question_id)
    (find_to_answer k call answer.question_id (path_of answer.transform) (known_answer k answer.question_id))
find_to_target k call (targets.Unknown n) = lacks

abbrev pub entered_known : Known → ℕ → Known
entered_known k a = record (answering_known k a (Some k.next_ticket)) { next_ticket = k.next_ticket + 1 }

abbrev pub find_called : (k : Known) (c : Call) → Finds beside (OnCall (state k) c)
find_called k c =
    unless
    _
    (fault_if (is_some (at k.answering c.question_id)) faults.QuestionInUse
    ++ known_target_faults k c.target
    ++ fault_if (not (ltb (size k.answering) 65536 && has_ticket (state k))) faults.TableFull)
    (λ i.
    fault_if (is_some (get_is k.answering c.question_id i)) faults.QuestionInUse
    ++ target_faults_are k c.target i
    ++ fault_if (not (room_is k.answering i && has_ticket (state k))) faults.TableFull)
    (follow _ (find_all_taken k c.params.cap_table) (λ taken. find_to_target (entered_known taken.1 c.question_id) (peer_call (state taken.1) c taken.0) c.target))

abbrev pub without_answer_known : Known → ℕ → Known
without_answer_known k a = record k { answers = without k.answers a; answering = without k.answering a }

pub without_answer_is : (k : Known) (a : ℕ) → without_answer (state k) a ≡ state (without_answer_known k a)
without_answer_is k a = λ i.
    record (state k) {
      values = record (state k).values { answers = remove_is k.answers a i };
      entries = record (state k).entries { answers = remove_is k.answering a i };
    }

abbrev pub find_at_stage : (k : Known) (f : Finish) (kept : AnswerEntry) (stage : Stage) → Finds beside (AtStage (state k) f kept stage)
find_at_stage k f kept stages.Open =
    found
    (Ok ([], record k { answering = changed k.answering f.question_id (λ entry. record entry { stage = stages.Finished }) }))
    (ap (λ answers. Ok ([], with_answers (state k) answers)) (sym (changed_is k.answering f.question_id (λ entry. record entry { stage = stages.Finished }))))
find_at_stage k f kept stages.Returned =
    follow
    _
    (find_lowered_if f.release_result_caps k.exports kept.mentions)
    (λ exports.
    let old : Known = record k { exports = exports } in
    found (Ok ([], without_answer_known old f.question_id)) (ap (λ s. Ok ([], s)) (sym (without_answer_is old f.question_id))))
find_at_stage k f kept stages.Finished = found (Err faults.UnknownAnswer) refl

abbrev pub find_finished_by : (k : Known) (f : Finish) (o : Option (Exchange AnswerEntry)) → Finds beside (FinishedBy (state k) f o)
find_finished_by k f None = found (Err faults.UnknownAnswer) refl
find_finished_by k f (Some entry) = find_at_stage k f entry.kept entry.stage

abbrev pub find_finished : (k : Known) (f : Finish) → Finds beside (OnFinish (state k) f)
find_finished k f = moved (FinishedBy (state k) f) (get_is k.answering f.question_id) (find_finished_by k f (at k.answering f.question_id))

-- what was returned
abbrev pub find_returned_taken : (k : Known) (returned : Returned) → Finds beside (ReceivesReturned (state k) returned)
find_returned_taken k (returns.Results p) =
    follow _ (find_all_taken k p.cap_table) (λ taken. found (Ok (outcomes.Results p.content taken.0, taken.1)) refl)
find_returned_taken k (returns.Exception x) = found (Ok (outcomes.Failed x, k)) refl
find_returned_taken k returns.Canceled = found (Ok (outcomes.Canceled, k)) refl
find_returned_taken k returns.ResultsSentElsewhere = lacks
find_returned_taken k (returns.TakeFromOtherQuestion q) = lacks
find_returned_taken k (returns.AcceptFromThirdParty t) = lacks
find_returned_taken k (returns.Unknown n) = lacks

abbrev pub find_question_settled : (k : Known) (q : ℕ) (o : Option ℕ) (outcome : Outcome) → Finds beside (Settles (state k) q o outcome)
find_question_settled k q None outcome = find_own_given k q outcome
find_question_settled k q (Some a) outcome =
    moved
    (λ s. Then (GiveAnswer s a outcome) (λ done out. out ≡ Ok (after (finish_of q false ∷ []) done)))
    (without_question_is k q)
    (follow _ (find_answer_given (without_question_known k q) a outcome) (λ done. found (Ok (finish_of q false ∷ done.0, done.1)) refl))

abbrev pub find_return_by : (k : Known) (r : Return) (kept : QuestionEntry) (stage : Stage) → Finds beside (ReturnBy (state k) r kept stage)
find_return_by k r kept stages.Open = follow _ (find_returned_taken k r.returned) (λ taken. find_question_settled taken.1 r.answer_id kept.forwards taken.0)
find_return_by k r kept stages.Finished =
    found (Ok ([], without_question_known k r.answer_id)) (ap (λ s. Ok ([], s)) (sym (without_question_is k r.answer_id)))
find_return_by k r kept stages.Returned = lacks

abbrev pub find_return_of : (k : Known) (r : Return) (o : Option (Exchange QuestionEntry)) → Finds beside (ReturnOf (state k) r o)
find_return_of k r None = found (Err faults.UnknownQuestion) refl
find_return_of k r (Some entry) =
    unless
    _
    (fault_if (not (is_asked entry.kept.is_sent entry.stage)) faults.UnknownQuestion)
    refl
    (follow _ (find_lowered_if r.release_param_caps k.exports entry.kept.mentions) (λ exports. find_return_by (record k { exports = exports }) r entry.kept entry.stage))

abbrev pub find_return : (k : Known) (r : Return) → Finds beside (OnReturn (state k) r)
find_return k r = moved (ReturnOf (state k) r) (get_is k.asked r.answer_id) (find_return_of k r (at k.asked r.answer_id))
