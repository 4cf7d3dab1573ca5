use Rattle.std.proofs.Common.{◌∙◌, ap, arith}
use Rattle.cp_session.proofs.Deciding.{by_first, by_second}
use Rattle.cp_session.proofs.endpoint.Endpoint.may_hold_idle.Goals as goal

pub returns-then-held_imports-held : goal.returns-then-held_imports-held
returns-then-held_imports-held g c =
    by_first _ _ _ _ c.if-held_imports-held.true (c.held_imports.ensures c.args.self.now.connection) c.held-held.ensures.imports

pub returns-else-held_imports-held : goal.returns-else-held_imports-held
returns-else-held_imports-held g c =
    by_second _ _ _ _ _ _ (omega (arith, c.if-held_imports-held.false)) (c.held_imports.ensures c.args.self.now.connection) c.held-held.ensures.imports
    (c.unknown_promises.ensures ∙ ap (λ n. g.H.ObjectTable.table.unknown n c.args.objects.now) c.held-held.ensures.promises)
