use Rattle.cp_builder.proofs.Words.{put_is}
use Rattle.cp_encoder.proofs.making.put.Goals as goal

pub returns : goal.returns
returns g = put_is g.args.word g.args.width g.args.first g.args.number g.ranges.word.fits g.requires.first g.requires.within g.requires.fits
