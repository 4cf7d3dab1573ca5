use Rattle.std.proofs.Common.{sym, ◌∙◌}
use Rattle.cp_connection.proofs.Taking.{gets_kept}
use Rattle.cp_connection.proofs.parts.Parts.for_vat.Goals as goal

pub returns-in-Ok-clause-gets : goal.returns-in-Ok-clause-gets
returns-in-Ok-clause-gets c =
    gets_kept c.args.self.now _ _ _ _ c.in-Some.is (sym c.is_closed.ensures ∙ c.if-is_closed.false) c.in-Ok.ensures (c.requires.keeps c.requires.is_open).owes
