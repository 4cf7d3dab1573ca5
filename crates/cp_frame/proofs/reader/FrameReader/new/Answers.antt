use Rattle.cp_frame.proofs.Readers.{blank_stands}
use Rattle.cp_frame.proofs.reader.FrameReader.new.Goals as goal

pub returns-clause-stands : goal.returns-clause-stands
returns-clause-stands c = blank_stands c.args.mode c.args.limits c.new.result c.new.ensures.blank
