use Rattle.std.proofs.Common.{sym, subst}
use Rattle.cp_vat_machine.proofs.NewVats.{new_local}
use Rattle.cp_vat_laws.proofs.writable.Stepping.{new_fits}
use Rattle.cp_vat.specs.Stepping.{Stays}
use Rattle.cp_vat.proofs.vat.Vat.new.Goals as goal

pub invariant_of-result : goal.invariant_of-result
invariant_of-result c = subst Stays (sym c.new.ensures) ((λ still. new_local c.args.bootstrap), (λ still. new_fits c.args.bootstrap))
