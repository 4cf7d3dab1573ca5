use Rattle.std.proofs.Common.{sym, ◌∙◌}
use Rattle.cp_messages.specs.declared.returned.Return.{Return}
use Rattle.cp_vat_state.specs.StateOf.{state_of}
use Rattle.cp_vat.proofs.Ready.{asked_awaits}
use Rattle.cp_vat.proofs.Returning.{begins_open}
use Rattle.cp_vat.proofs.on_return.begin.Goals as goal

pub returns-in-Open : goal.returns-in-Open
returns-in-Open c returned =
    let r : Return = record { answer_id = c.args.id; release_param_caps = c.args.release_param_caps; returned = returned } in
    let lowered = rw c.ids-named.ensures at c.in_default-lower_if.ensures in
    let asked = sym c.if-not-is_asked.false ∙ c.is_asked.ensures in (
      asked_awaits (state_of c.args.core.now) r c.in-Some.question.now c.lower_if.new.exports c.requires c.in-Some.ensures asked c.in-Open.is lowered,
      begins_open (state_of c.args.core.now) r c.in-Some.question.now c.lower_if.new.exports c.in-Some.ensures asked c.in-Open.is lowered,
    )
