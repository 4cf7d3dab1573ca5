use Rattle.cp_writing.proofs.MostWords.{has_layout}
use Rattle.cp_writing.proofs.laws.layout_exists.Goals as goal

pub returns : goal.returns
returns c limits capacity allowed few t = has_layout limits capacity t allowed few
