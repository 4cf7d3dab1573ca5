-- A Return is quiet.
use Rattle.std.specs.Prelude.{◌≡◌, refl, ℕ, not, false, if◌then◌else◌, List, [], ◌∷◌, Option, Some, None, IfSome, Ok}
use Rattle.std.specs.FinMap.{get}
use Rattle.std.proofs.Common.{arith, ap, ◌∙◌}
use Rattle.cp_tables.specs.Table.{Table}
use Rattle.cp_tables.specs.declared.counted.Counted.{Counted}
use Rattle.cp_tables.specs.declared.exchange.Exchange.{Exchange}
use Rattle.cp_tables.specs.declared.exchange.Stage.{Stage}
use Rattle.cp_tables.specs.declared.exchange.Stage.TheVariants as stages
use Rattle.cp_messages.specs.declared.returned.Return.{Return}
use Rattle.cp_messages.specs.declared.returned.Returned.{Returned}
use Rattle.cp_messages.specs.declared.returned.Returned.TheVariants as returns
use Rattle.cp_refs.specs.declared.cap.Cap.{Cap}
use Rattle.cp_refs.specs.declared.call.Origin.TheVariants as origins
use Rattle.cp_refs.specs.declared.outcome.Outcome.{Outcome}
use Rattle.cp_vat_machine.specs.State.{State, none_over, with_exports}
use Rattle.cp_vat_machine.specs.Then.{Done, Then, fault_if}
use Rattle.cp_vat_machine.specs.Receiving.{ReceivesCaps, release_exports}
use Rattle.cp_vat_machine.specs.Give.{GiveAnswer, without_question}
use Rattle.cp_vat_machine.specs.Go.{finish_of}
use Rattle.cp_vat_machine.specs.Local.{ForwardsRightly}
use Rattle.cp_vat_machine.specs.Asking.{ReceivesReturned, Settles, ReturnBy, is_asked, ReturnOf, OnReturn}
use Rattle.cp_vat_machine.specs.declared.entry.AnswerEntry.{AnswerEntry}
use Rattle.cp_vat_machine.specs.declared.entry.QuestionEntry.{QuestionEntry}
use Rattle.cp_vat_machine.specs.declared.fault.PeerFault.TheVariants as faults
use Rattle.cp_vat_laws.specs.Within.{Within}
use Rattle.cp_vat_machine.proofs.Basics.{ok_in, ok_out, then_out, unless_out}
use Rattle.cp_vat_laws.proofs.order.Basics.{there_is}
use Rattle.cp_vat_laws.proofs.order.Passes.{Passes}
use Rattle.cp_vat_laws.proofs.order.Same.{marks_same}
use Rattle.cp_vat_laws.proofs.order.Closes.{closes_both}
use Rattle.cp_vat_laws.proofs.order.Settle.{AreOpen}
use Rattle.cp_vat_laws.proofs.order.Give.{IsUngiven, give_done, are_open_same}
use Rattle.cp_vat_laws.proofs.order.Sound.{sound_within, question_open, ticket_ungiven}
use Rattle.cp_vat_laws.proofs.order.Grows.{grows_passes}
use Rattle.cp_vat_laws.proofs.order.Removes.{question_goes}
use Rattle.cp_vat_laws.proofs.order.Quiet.{closes_quietly}
use Rattle.cp_vat_laws.proofs.order.OtherComes.{DoesQuietly, then_closes, exports_closes}
use Rattle.cp_vat_laws.proofs.within.Take.{Grows, take_all_keeps, grows_not}
use Rattle.cp_vat_laws.proofs.within.Exports.{fewer_exports, lower_if}

-- what is taken in grows, whatever became of the exports
lowered_passes : (old taken : State) (exports : Table (Counted Cap)) → Grows (with_exports old exports) taken → Passes old taken
lowered_passes old taken exports grows =
    grows_passes old taken
    (record {
      promises = λ p x is. grows.promises p x is;
      imports = λ i x is. grows.imports i x is;
      answers = λ a x is. ap (λ t. get t a) grows.answers ∙ is;
      questions = λ q x is. ap (λ t. get t q) grows.questions ∙ is;
    })
    (ap (λ w. w.over) grows.waiting) (λ n v is. ap (λ m. get m.embargoes n) grows.marks ∙ is)
    (λ c g there off fits. marks_same old taken c g grows.marks (ap (λ w. w.over.embargoes) grows.waiting) fits) (omega (arith, grows.tickets))

-- What is returned is taken in.
pub record IsTakenIn (s : State) (taken : State) : Type 0 where
  pub within : Within taken None []
  pub grows : Grows s taken

pub taken_in : (s : State) (returned : Returned) (taken : Outcome × State) → Within s None [] → s.waiting.over ≡ none_over → ReceivesReturned s returned (Ok taken) → IsTakenIn s taken.1
taken_in s (returns.Results p) taken w none does =
    let parts = then_out {A = List Cap × State} {B = Outcome × State} (ReceivesCaps s p.cap_table) _ taken does in
    let well = take_all_keeps None [] p.cap_table s parts.0 w none parts.1 in
    rw (ok_in _ _ parts.2) (record { within = well.0; grows = well.1 })
taken_in s (returns.Exception x) taken w none does = rw (ok_in _ _ does) (record { within = w; grows = grows_not s })
taken_in s returns.Canceled taken w none does = rw (ok_in _ _ does) (record { within = w; grows = grows_not s })
taken_in s returns.ResultsSentElsewhere taken w none does = absurd does
taken_in s other taken w none does = absurd does

-- A question that forwards goes, and its answer is open.
without_open : (s : State) (q a : ℕ) → IsUngiven s (origins.Answer a) → IsUngiven (without_question s q) (origins.Answer a)
without_open s q a h = (h.0, h.1, by (get s.entries.answers a) h.2)
  where
    by : (o : Option (Exchange AnswerEntry)) → IfSome o (λ entry. AreOpen s entry.kept.tied) → IfSome o (λ entry. AreOpen (without_question s q) entry.kept.tied)
    by None k = tt
    by (Some entry) k = are_open_same s (without_question s q) entry.kept.tied refl refl k

forwarded_open : (s : State) (a : ℕ) (ticket : Option ℕ) → Within s None [] → ForwardsRightly s (Some a) ticket → IsUngiven s (origins.Answer a)
forwarded_open s a None w h = absurd h
forwarded_open s a (Some ticket) w h = ticket_ungiven s None w (origins.Answer a) ticket h

module _ (old : State) (exports : Table (Counted Cap)) (q : ℕ) (entry : Exchange QuestionEntry) (taken : State) (outcome : Outcome) (done : Done) (none : old.waiting.over ≡ none_over)
    (is : get old.entries.questions q ≡ Some entry) (open_ : entry.stage ≡ stages.Open) (inn : IsTakenIn (with_exports old exports) taken) where
  entry_is : get taken.entries.questions q ≡ Some entry
  entry_is = ap (λ t. get t q) inn.grows.asked ∙ is

  passes : Passes old taken
  passes = lowered_passes old taken exports inn.grows

  calls : taken.waiting.calls ≡ old.waiting.calls
  calls = ap (λ w. w.calls) inn.grows.waiting

  settles_by : (forwards : Option ℕ) → entry.kept.forwards ≡ forwards → Settles taken q forwards outcome (Ok done) → DoesQuietly old done
  settles_by None own does =
      let value = question_open taken None [] inn.within q entry entry_is (rw (open_) refl) own (get taken.values.questions q) refl (inn.within.questions_valued q) in
      let gives =
      give_done taken (origins.Own q) outcome done does
      (value.0, value.1, value.2, (sound_within taken None [] inn.within).opens.open_questions q value.0 value.1 value.2) in
      then_closes old taken done.1 done.0 passes calls gives.closes gives.quiet
  settles_by (Some a) forwards does =
      let parts = then_out {A = Done} {B = Done} (GiveAnswer (without_question taken q) a outcome) _ done does in
      let rightly = there_is (λ x. ForwardsRightly taken x.kept.forwards x.kept.ticket) (get taken.entries.questions q) entry entry_is (inn.within.forwards q) in
      let may = without_open taken q a (forwarded_open taken a entry.kept.ticket inn.within (rw (forwards) at rightly)) in
      let gives = give_done (without_question taken q) (origins.Answer a) outcome parts.0 parts.1 may in
      rw
      (ok_in _ _ parts.2)
      (then_closes old taken parts.0.1 (finish_of q false ∷ parts.0.0) passes calls (closes_both taken (without_question taken q) parts.0.1 (question_goes taken q) gives.closes)
      (λ s. gives.quiet s))

return_by : (old : State) (exports : Table (Counted Cap)) (r : Return) (entry : Exchange QuestionEntry) (stage : Stage) (done : Done) → Within (with_exports old exports) None []
    → old.waiting.over ≡ none_over → get old.entries.questions r.answer_id ≡ Some entry → entry.stage ≡ stage → ReturnBy (with_exports old exports) r entry.kept stage (Ok done) → DoesQuietly old done
return_by old exports r entry stages.Open done w none is at does =
    let s : State = with_exports old exports in
    let parts = then_out {A = Outcome × State} {B = Done} (ReceivesReturned s r.returned) _ done does in
    settles_by old exports r.answer_id entry parts.0.1 parts.0.0 done none is at (taken_in s r.returned parts.0 w none parts.1) entry.kept.forwards refl parts.2
return_by old exports r entry stages.Finished done w none is at does =
    let s : State = with_exports old exports in
    rw
    (ok_in _ _ does)
    (closes_quietly old [] (without_question s r.answer_id) (closes_both old s (without_question s r.answer_id) (exports_closes old exports) (question_goes s r.answer_id)) (λ t. refl))
return_by old exports r entry stages.Returned done w none is at does = absurd does

return_of : (old : State) (r : Return) (o : Option (Exchange QuestionEntry)) (done : Done) → Within old None [] → old.waiting.over ≡ none_over → get old.entries.questions r.answer_id ≡ o
    → ReturnOf old r o (Ok done) → DoesQuietly old done
return_of old r None done w none is does = ok_out does
return_of old r (Some entry) done w none is does =
    let F = fault_if (not (is_asked entry.kept.is_sent entry.stage)) faults.UnknownQuestion in
    let parts =
    then_out {A = Table (Counted Cap)} {B = Done} (λ exports. exports ≡ (if r.release_param_caps then release_exports old.counts.exports entry.kept.mentions else Ok old.counts.exports)) _ done
    (unless_out {A = Done} F
    (Then (λ exports. exports ≡ (if r.release_param_caps then release_exports old.counts.exports entry.kept.mentions else Ok old.counts.exports))
    (λ exports. ReturnBy (with_exports old exports) r entry.kept entry.stage)) done does) in
    let lowered = fewer_exports w parts.0 (lower_if r.release_param_caps old.counts.exports parts.0 entry.kept.mentions w.counts parts.1) in
    return_by old parts.0 r entry entry.stage done lowered none is refl parts.2

pub on_return : (old : State) (r : Return) (done : Done) → Within old None [] → old.waiting.over ≡ none_over → OnReturn old r (Ok done) → DoesQuietly old done
on_return old r done w none does = return_of old r (get old.entries.questions r.answer_id) done w none refl does
