use Rattle.std.proofs.Common.{refl, false}
use Rattle.cp_serve.proofs.Reaching.{not_some}
use Rattle.cp_serve.proofs.serving.Server.ends_block.Goals as goal

pub returns : goal.returns
returns c = λ e. not_some _ false c.if-has_ended.ensures refl
