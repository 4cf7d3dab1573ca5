-- `name_all` names one more each time, and stops at the first numbers that name none.
use Rattle.std.proofs.Common.{refl}
use Rattle.std.proofs.lemmas.Result.{err_from_is_err_and}
use Rattle.c_handles.proofs.Naming.{names_more, unnamed_at}
use Rattle.c_handles.proofs.caps.name_all.Goals as goal

pub naming-preserved : goal.naming-preserved
naming-preserved c =
    rw c.in_ok-push_cap.ensures (names_more c.args.table.now c.naming.caps.items c.naming.numbers-index _ c.in_ok-cap.cap _ c.naming-test.true refl c.naming.invariant c.in_ok-cap.ensures.named)

pub returns-in_err-cap-clause-unnamed : goal.returns-in_err-cap-clause-unnamed
returns-in_err-cap-clause-unnamed c =
    let p = err_from_is_err_and c.from_residual.result c.from_residual.ensures.1 in
    rw (p.1, p.2) (unnamed_at c.args.table.now c.naming.numbers-index _ c.in_err-cap.field-0.0 _ c.naming-test.true refl c.in_err-cap.ensures.unnamed)
