use Rattle.std.proofs.Common.{refl}
use Rattle.cp_vat_state.proofs.resolutions.Resolutions.reopen_promise.Goals as goal

pub put_promise-requires : goal.put_promise-requires
put_promise-requires c = rw (← c.self.view_is, ← c.promise.ensures, c.in-Some.is) refl
