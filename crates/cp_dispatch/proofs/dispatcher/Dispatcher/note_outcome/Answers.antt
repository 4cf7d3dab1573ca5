use Rattle.cp_dispatch.specs.WorkOf.{work_of}
use Rattle.cp_dispatch.proofs.Working.{after_ok}
use Rattle.cp_dispatch.proofs.dispatcher.Dispatcher.note_outcome.Goals as goal

pub returns : goal.returns
returns c = after_ok c.note.result c.note.ensures (λ noted link. (work_of c.give.new.self link, c.in_default.ensures link, noted link))
