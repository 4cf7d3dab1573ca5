use Rattle.cp_stream.proofs.Runs.{has_one_front, is_one_stream}
use Rattle.cp_stream.proofs.laws.one_front.Goals as goal

pub returns-clause-front : goal.returns-clause-front
returns-clause-front c = has_one_front

pub returns-clause-stream : goal.returns-clause-stream
returns-clause-stream c = is_one_stream
