use Rattle.cp_vat_state.proofs.Indexing.{release_lowers}
use Rattle.cp_vat_state.proofs.exports.Exported.take_back.Goals as goal

pub returns : goal.returns
returns c = release_lowers c.args.self.now c.release.new.self c.args.id c.release.result c.release.ensures.released c.release.ensures.err
