use Rattle.std.proofs.Common.{◌∙◌, ap}
use Rattle.std.specs.FinMap as map
use Rattle.cp_tables.specs.declared.exchange.Stage.TheVariants as stages
use Rattle.cp_vat_rules.proofs.Giving.{same_entry, given_noted}
use Rattle.cp_vat_rules.proofs.entry.note_given.Goals as goal

pub returns : goal.returns
returns c = λ kept there.
    let same = same_entry kept c.in-Some.kept.now _ c.in-Some.ensures.value there in
    let noted = given_noted c.args.answers.now c.note_return.new.self c.args.id kept _ c.note_return.result there c.note_return.ensures.noted in
    noted ∙ ap (λ k. map.insert c.args.answers.now c.args.id (record { stage = stages.Returned; kept = record { ticket = k.ticket; is_delivered = k.is_delivered; mentions = c.args.mentions; tied = c.new-2.result } })) same
    ∙ ap (λ t. map.insert c.args.answers.now c.args.id (record { stage = stages.Returned; kept = record kept { mentions = c.args.mentions; tied = t } })) (c.new-2.ensures ∙ c.new.ensures.items)
