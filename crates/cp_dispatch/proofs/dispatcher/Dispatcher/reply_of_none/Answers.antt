use Rattle.std.proofs.Common.{refl}
use Rattle.cp_dispatch.proofs.dispatcher.Dispatcher.reply_of_none.Goals as goal

pub returns : goal.returns
returns c = rw (c.in_ok-no_such_object.ensures, c.new-2.ensures, c.new.ensures.items) refl
