use Rattle.std.proofs.Common.{refl}
use Rattle.cp_tables.proofs.TableLemmas.{get-listed, listed-remove}
use Rattle.cp_objects.proofs.proxy.Proxy.close.Goals as goal

pub returns-clause-open : goal.returns-clause-open
returns-clause-open g c = rw (← c.self.view_is, get-listed, ← c.in-Some.ensures.value) refl

pub returns-clause-noted : goal.returns-clause-noted
returns-clause-noted g c = rw (← c.self.view_is, get-listed, ← c.in-Some.ensures.value, c.saturating_sub-context.ensures) refl

pub returns-clause-closed : goal.returns-clause-closed
returns-clause-closed g c = rw (← c.self.view_is, listed-remove c.self.inside.pending c.remove.new.self c.args.ticket c.remove.ensures.updates) refl

pub returns-in_default-clause-open : goal.returns-in_default-clause-open
returns-in_default-clause-open g c = rw (← c.self.view_is, get-listed, ← c.in_default.ensures.value) refl

pub returns-in_default-clause-noted : goal.returns-in_default-clause-noted
returns-in_default-clause-noted g c = rw (← c.self.view_is, get-listed, ← c.in_default.ensures.value) refl

pub returns-in_default-clause-closed : goal.returns-in_default-clause-closed
returns-in_default-clause-closed g c = rw (← c.self.view_is, listed-remove c.self.inside.pending c.remove.new.self c.args.ticket c.remove.ensures.updates) refl
