use Rattle.cp_connection.proofs.Living.{lives_behind}
use Rattle.cp_vat_laws.proofs.telling.Runs.{runs_are_in_order}
use Rattle.cp_dispatch.proofs.laws.waits_in_order.Goals as goal

pub returns : goal.returns
returns c = λ mode limits bootstrap taken written handed last life.
    let run = lives_behind mode limits bootstrap taken written handed last life in
    (run.history, ((last.vat, run.steps), runs_are_in_order bootstrap run.history (last.vat, run.steps)), run.happens)
