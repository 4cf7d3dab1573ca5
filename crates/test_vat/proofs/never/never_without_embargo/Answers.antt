use Rattle.test_vat.proofs.Embargoed.{not_without_embargo}
use Rattle.test_vat.proofs.never.never_without_embargo.Goals as goal

pub returns : goal.returns
returns c = not_without_embargo
