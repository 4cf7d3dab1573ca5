use Rattle.std.proofs.Common.{None, sym, subst}
use Rattle.cp_refs.specs.declared.call.Origin.TheVariants as origins
use Rattle.cp_vat_state.specs.StateOf.{state_of}
use Rattle.cp_vat_rules.specs.Ungiven.{IsUngiven}
use Rattle.cp_vat.proofs.Ready.{opened_ungiven}
use Rattle.cp_vat.proofs.on_bootstrap.on_bootstrap.Goals as goal

pub give_answer-requires-clause-ungiven : goal.give_answer-requires-clause-ungiven
give_answer-requires-clause-ungiven c = subst (λ s. IsUngiven s (origins.Answer c.args.id)) (sym c.in_ok-open_answer.ensures.opened) (opened_ungiven (state_of c.args.core.now) c.args.id None)
