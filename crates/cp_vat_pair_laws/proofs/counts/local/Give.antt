-- What an outcome that is given does to local questions.
use Rattle.std.specs.Prelude.{◌≡◌, refl, ℕ, Bool, true, false, List, [], ◌∷◌, Some, Ok}
use Rattle.std.specs.FinMap.{get}
use Rattle.std.proofs.Common.{inl, inr, ap, ◌∙◌}
use Rattle.cp_tables.specs.declared.exchange.Stage.{Stage}
use Rattle.cp_tables.specs.declared.exchange.Stage.TheVariants as stages
use Rattle.cp_messages.specs.declared.descriptor.Descriptor.{Descriptor}
use Rattle.cp_messages.specs.declared.resolve.Resolution.{Resolution}
use Rattle.cp_messages.specs.declared.resolve.Resolution.TheVariants as resolutions
use Rattle.cp_messages.specs.declared.returned.Returned.{Returned}
use Rattle.cp_refs.specs.At.{cap_at}
use Rattle.cp_refs.specs.declared.cap.Cap.{Cap}
use Rattle.cp_refs.specs.declared.cap.Cap.TheVariants as caps
use Rattle.cp_refs.specs.declared.call.Origin.{Origin}
use Rattle.cp_refs.specs.declared.call.Origin.TheVariants as origins
use Rattle.cp_refs.specs.declared.outcome.Outcome.{Outcome}
use Rattle.cp_refs.specs.declared.outcome.Outcome.TheVariants as outcomes
use Rattle.cp_vat_machine.specs.State.{State}
use Rattle.cp_vat_machine.specs.Then.{Done, Then}
use Rattle.cp_vat_machine.specs.Writing.{WritesEnd, WritesDescriptors}
use Rattle.cp_vat_machine.specs.Give.{ResolvesEnd, Tells, value_for, last_for, Settle, SettleTied, Returns, given, gone, GiveBy, GiveAnswer, question_over, question_settled, without_question, GiveOwnBy, Give}
use Rattle.cp_vat_machine.specs.Give as give
use Rattle.cp_vat_machine.specs.declared.effect.Effect.TheVariants as effects
use Rattle.cp_vat_machine.specs.declared.entry.AnswerEntry.{AnswerEntry}
use Rattle.cp_vat_machine.specs.declared.entry.QuestionEntry.{QuestionEntry}
use Rattle.cp_vat_machine.specs.declared.entry.Tied.{Tied}
use Rattle.cp_vat_machine.proofs.Basics.{is_itself, ok_in, then_out}
use Rattle.cp_vat_pair_laws.specs.LocalQuestions.{LocalQuestion, settled, after_effects}
use Rattle.cp_vat_pair_laws.proofs.counts.rules.Say.{said_end, said_all}
use Rattle.cp_vat_pair_laws.proofs.counts.local.Matches.{IsGone, MatchesIf, MatchAfter, match_both, match_from, match_put, match_gone, settled_gone, IsBack, undelivered_of}

-- A promise that is settled leaves questions as they are.
resolved_same : (old : State) (last : Cap) (said : Resolution × State) → Then (WritesEnd old last) (λ said out. out ≡ Ok (resolutions.Cap said.0, said.1)) (Ok said)
    → said.1.entries.questions ≡ old.entries.questions
resolved_same old last said does =
    let parts = then_out {A = Descriptor × State} {B = Resolution × State} (WritesEnd old last) _ said does in
    rw (ok_in _ _ parts.2) (ap (λ s. s.entries.questions) (said_end old last parts.0 parts.1).only)

resolves_same : (old : State) (last : Cap) (said : Resolution × State) → ResolvesEnd old last (Ok said) → said.1.entries.questions ≡ old.entries.questions
resolves_same old (caps.Broken x) said does = rw (ok_in _ _ does) refl
resolves_same old caps.None said does = resolved_same old caps.None said does
resolves_same old (caps.Object k) said does = resolved_same old (caps.Object k) said does
resolves_same old (caps.Promise p) said does = resolved_same old (caps.Promise p) said does
resolves_same old (caps.Import i) said does = resolved_same old (caps.Import i) said does
resolves_same old (caps.Pipelined q path) said does = resolved_same old (caps.Pipelined q path) said does

tells_match : (old : State) (p : ℕ) (last : Cap) (done : Done) → Tells old p last (Ok done) → MatchAfter old.entries.questions done.0 done.1.entries.questions
tells_match old p last done (inl h) = rw (ok_in _ _ h.1) (λ q question is. is)
tells_match old p last done (inr h) =
    let parts = then_out {A = Resolution × State} {B = Done} (ResolvesEnd old last) _ done h.2 in
    rw (ok_in _ _ parts.2, resolves_same old last parts.0 parts.1) (λ q question is. is)

pub settle_match : (old : State) (p : ℕ) (value : Cap) (done : Done) → Settle old p value (Ok done) → MatchAfter old.entries.questions done.0 done.1.entries.questions
settle_match old p value done does = tells_match (give.settled old p (value_for p does.0 value)) p (last_for p does.0) done does.2

tied_match : (tied : List Tied) (old : State) (outcome : Outcome) (done : Done) → SettleTied old outcome tied (Ok done)
    → MatchAfter old.entries.questions done.0 done.1.entries.questions
tied_match [] old outcome done does = rw (ok_in _ _ does) (λ q question is. is)
tied_match (tied ∷ more) old outcome done does =
    let first = then_out {A = Done} {B = Done} (Settle old tied.promise (cap_at outcome tied.path)) _ done does in
    let rest = then_out {A = Done} {B = Done} (SettleTied first.0.1 outcome more) _ done first.2 in
    rw
    (ok_in _ _ rest.2)
    (match_both old.entries.questions first.0.1.entries.questions rest.0.1.entries.questions first.0.0 rest.0.0
    (settle_match old tied.promise (cap_at outcome tied.path) first.0 first.1) (tied_match more first.0.1 outcome rest.0 rest.1))

-- So does an answer that is given.
returns_same : (old : State) (outcome : Outcome) (said : Returned × State) → Returns old outcome (Ok said) → said.1.entries.questions ≡ old.entries.questions
returns_same old (outcomes.Results content table) said does =
    let parts = then_out {A = List Descriptor × State} {B = Returned × State} (WritesDescriptors old table) _ said does in
    rw (ok_in _ _ parts.2) (ap (λ s. s.entries.questions) (said_all table old parts.0 parts.1).only)
returns_same old (outcomes.Failed x) said does = rw (ok_in _ _ does) refl
returns_same old outcomes.Canceled said does = rw (ok_in _ _ does) refl

gives_match : (old : State) (a : ℕ) (outcome : Outcome) (kept : AnswerEntry) (stage : Stage) (done : Done) → GiveBy old a outcome kept stage (Ok done)
    → MatchAfter old.entries.questions done.0 done.1.entries.questions
gives_match old a outcome kept stages.Open done does =
    let says = then_out {A = Returned × State} {B = Done} (Returns old outcome) _ done does in
    let rest = then_out {A = Done} {B = Done} (SettleTied (given says.0.1 a kept outcome says.0.0) outcome kept.tied) _ done says.2 in
    let all = tied_match kept.tied (given says.0.1 a kept outcome says.0.0) outcome rest.0 rest.1 in
    rw
    (ok_in _ _ rest.2)
    (match_from says.0.1.entries.questions old.entries.questions rest.0.1.entries.questions rest.0.0 (returns_same old outcome says.0 says.1) all)
gives_match old a outcome kept stages.Finished done does =
    let rest = then_out {A = Done} {B = Done} (SettleTied (gone old a outcome) outcome kept.tied) _ done does in
    rw (ok_in _ _ rest.2) (tied_match kept.tied (gone old a outcome) outcome rest.0 rest.1)
gives_match old a outcome kept stages.Returned done does = absurd does

pub answer_match : (old : State) (a : ℕ) (outcome : Outcome) (done : Done) → GiveAnswer old a outcome (Ok done) → MatchAfter old.entries.questions done.0 done.1.entries.questions
answer_match old a outcome done does = gives_match old a outcome does.0.kept does.0.stage done does.2

-- An own question is settled, which is reported.
settled_by : (b : Bool) (kept : QuestionEntry) (question : LocalQuestion) → MatchesIf b question (record { stage = stages.Open; kept = kept })
    → MatchesIf b (settled question) (record { stage = stages.Returned; kept = kept })
settled_by true kept question is = settled_gone question is
settled_by false kept question is = (rw (is.0) refl, is.1)

pub open_match : (old : State) (p : ℕ) (outcome : Outcome) (kept : QuestionEntry) → get old.entries.questions p ≡ Some (record { stage = stages.Open; kept = kept })
    → MatchAfter old.entries.questions (effects.Settled p outcome ∷ []) (question_settled old p outcome).entries.questions
open_match old p outcome kept there =
    rw
    (there)
    (match_put old.entries.questions p (λ q question. after_effects q (effects.Settled p outcome ∷ []) question) (λ q question t. rw (t) refl)
    (record { stage = stages.Returned; kept = kept }) (λ question is. rw (is_itself p) (settled_by kept.is_sent kept question (rw there at is))))

-- One that was finished goes unreported.
left_by : (b : Bool) (kept : QuestionEntry) (question : LocalQuestion) → kept.is_delivered ≡ false → MatchesIf b question (record { stage = stages.Finished; kept = kept })
    → IsGone question
left_by true kept question not is = is
left_by false kept question not is = inr (is.0, is.1 ∙ not)

left_match : (old : State) (p : ℕ) (outcome : Outcome) (kept : QuestionEntry) → get old.entries.questions p ≡ Some (record { stage = stages.Finished; kept = kept })
    → kept.is_delivered ≡ false → MatchAfter old.entries.questions [] (without_question (question_over old p outcome) p).entries.questions
left_match old p outcome kept there not =
    match_gone old.entries.questions p (λ q question. question) (λ q question t. refl) (λ question is. left_by kept.is_sent kept question not (rw there at is))

own_match : (old : State) (p : ℕ) (outcome : Outcome) (kept : QuestionEntry) (stage : Stage) (done : Done) → get old.entries.questions p ≡ Some (record { stage = stage; kept = kept })
    → kept.is_delivered ≡ false → GiveOwnBy old p outcome stage (Ok done) → MatchAfter old.entries.questions done.0 done.1.entries.questions
own_match old p outcome kept stages.Open done there not does = rw (ok_in _ _ does) (open_match old p outcome kept there)
own_match old p outcome kept stages.Finished done there not does = rw (ok_in _ _ does) (left_match old p outcome kept there not)
own_match old p outcome kept stages.Returned done there not does = absurd does

-- the call's origin gets its outcome
pub give_match : (old : State) (origin : Origin) (outcome : Outcome) (done : Done) → IsBack old.entries.questions origin → Give old origin outcome (Ok done)
    → MatchAfter old.entries.questions done.0 done.1.entries.questions
give_match old (origins.Answer a) outcome done back does = answer_match old a outcome done does
give_match old (origins.Own q) outcome done back does =
    own_match old q outcome does.0.kept does.0.stage done does.1 (undelivered_of (get old.entries.questions q) does.0 does.1 back) does.2
