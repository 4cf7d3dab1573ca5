use Rattle.std.proofs.Common.{sym, ◌∙◌}
use Rattle.cp_connection.proofs.Aborting.{aborts_told, aborts_untold}
use Rattle.cp_connection.proofs.parts.Parts.abort.Goals.{in-Ok, in-Err}
use Rattle.cp_connection.proofs.parts.Parts.abort.Goals as goal

pub returns-clause-aborts : goal.returns-clause-aborts
returns-clause-aborts c =
    let open_ = sym c.is_shut.ensures ∙ c.if-is_shut.false in
    elim c.match-abort.branch [
      | in-Ok w ↦
          let goes = rw w.fault-is at c.let_go.ensures in
          aborts_told c.args.self.now c.let_go.new.self c.abort.new.self c.args.excess open_ w.in-Ok.ensures.noted goes
      | in-Err w ↦
          let goes = rw w.fault-is at c.let_go.ensures in
          aborts_untold c.args.self.now c.let_go.new.self c.abort.new.self c.args.excess open_ w.in-Err.ensures.same goes
    ]
