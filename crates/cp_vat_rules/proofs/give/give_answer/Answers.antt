use Rattle.std.proofs.Common.{Some, sym, ap, ◌∙◌}
use Rattle.cp_tables.specs.declared.exchange.Stage.TheVariants as stages
use Rattle.cp_vat_machine.specs.Give.{GiveBy, GiveAnswer}
use Rattle.cp_vat_state.specs.StateOf.{state_of}
use Rattle.cp_vat_rules.proofs.Giving.{acts_as}
use Rattle.cp_vat_rules.proofs.give.give_answer.Goals as goal

pub returns-in-Open-clause-acts : goal.returns-in-Open-clause-acts
returns-in-Open-clause-acts c =
    let old = state_of c.args.core.now in
    let kept = c.in-Some.answer.now.kept in
    let there = sym c.in-Some.ensures ∙ ap (λ st. Some (record { stage = st; kept = kept })) c.in-Open.is in
    acts_as (λ out. GiveBy old c.args.id c.args.outcome kept stages.Open out) (GiveAnswer old c.args.id c.args.outcome) _ _ _ _ (λ out given. (record { stage = stages.Open; kept = kept }, there, given)) (c.give_open.ensures.acts kept there)

pub returns-in-Finished-clause-acts : goal.returns-in-Finished-clause-acts
returns-in-Finished-clause-acts c =
    let old = state_of c.args.core.now in
    let kept = c.in-Some.answer.now.kept in
    let there = sym c.in-Some.ensures ∙ ap (λ st. Some (record { stage = st; kept = kept })) c.in-Finished.is in
    acts_as (λ out. GiveBy old c.args.id c.args.outcome kept stages.Finished out) (GiveAnswer old c.args.id c.args.outcome) _ _ _ _ (λ out given. (record { stage = stages.Finished; kept = kept }, there, given)) (c.give_finished.ensures.acts kept there)
