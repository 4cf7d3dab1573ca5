use Rattle.cp_stream.proofs.LayoutDenotes.{layout_denotes}
use Rattle.cp_stream.proofs.laws.layout_denotes.Goals as goal

pub returns : goal.returns
returns c = layout_denotes
