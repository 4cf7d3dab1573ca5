use Rattle.cp_stream.proofs.ReadBack.{laid_root, laid_one}
use Rattle.cp_stream.proofs.laws.written_is_read.Goals as goal

pub returns-clause-root : goal.returns-clause-root
returns-clause-root c = laid_root

pub returns-clause-only : goal.returns-clause-only
returns-clause-only c = laid_one
