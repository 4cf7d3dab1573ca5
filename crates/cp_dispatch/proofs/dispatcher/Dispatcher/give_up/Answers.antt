use Rattle.std.proofs.Common.{refl}
use Rattle.std.proofs.Math.ListN.{drop_of_length-le}
use Rattle.cp_dispatch.specs.WorkOf.{work_of}
use Rattle.cp_dispatch.proofs.Working.{gives_next}
use Rattle.cp_dispatch.proofs.dispatcher.Dispatcher.give_up.Goals as goal

pub loop-import-init : goal.loop-import-init
loop-import-init c = λ link last rest. rest

pub returns : goal.returns
returns c = λ link.
    rw c.ids-import-items.ensures at
    (c.loop-import.invariant link (work_of c.loop-import.self link) (rw (drop_of_length-le c.ids-import-items.result.now c.loop-import-test.false) refl))

pub loop-import-preserved : goal.loop-import-preserved
loop-import-preserved c = λ link last rest.
    c.loop-import.invariant link last
    (gives_next c.ids-import-items.result.now c.loop-import.import-index _ last c.loop-import-test.true (c.in_ok-let_go.ensures link) rest)
