use Rattle.std.proofs.Common.{false, refl, sym, ◌∙◌}
use Rattle.cp_objects.specs.Canceling.{is_told, is_owed_by_none, owner_is_gone}
use Rattle.cp_objects.proofs.Answering.{not_some}
use Rattle.cp_objects.proofs.objects.Objects.cancel.Goals as goal

pub returns-in_default : goal.returns-in_default
returns-in_default g c = is_owed_by_none (sym c.owner.ensures ∙ c.in_default.is)

pub returns-then-not-contains : goal.returns-then-not-contains
returns-then-not-contains g c = owner_is_gone c.in-Some.owner (sym c.in-Some.ensures) (not_some _ false c.if-not-contains.ensures refl)

pub returns : goal.returns
returns g c = is_told c.in-Some.owner (sym c.in-Some.ensures) c.in_ok-tell_cancel.ensures
