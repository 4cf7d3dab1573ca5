use Rattle.cp_writing.proofs.OneLayout.{one_layout}
use Rattle.cp_writing.proofs.laws.one_layout.Goals as goal

pub returns : goal.returns
returns c = one_layout
