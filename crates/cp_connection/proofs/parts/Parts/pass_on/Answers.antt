use Rattle.std.proofs.Common.{◌≡◌, None, rules}
use Rattle.cp_connection.proofs.Results.{on_err}
use Rattle.cp_connection.proofs.Settling.{may_only, passes_first, passes_nothing, passes_unserved}
use Rattle.cp_connection.proofs.parts.Parts.pass_on.Goals as goal

pub returns-in_default-clause-passed : goal.returns-in_default-clause-passed
returns-in_default-clause-passed c = passes_unserved c.args.self.now c.in_default.is

pub returns-in_err-owed-clause-grown : goal.returns-in_err-owed-clause-grown
returns-in_err-owed-clause-grown c = on_err c.from_residual.result (may_only c.args.self.now _)

pub returns-in_ok-pass-in-Some-2-clause-passed : goal.returns-in_ok-pass-in-Some-2-clause-passed
returns-in_ok-pass-in-Some-2-clause-passed c =
    let open_ : c.args.self.now.fault ≡ None = search rules in
    (open_, passes_first c.args.self.now c.pass.new.self _ _ _ _ c.in-Some.is open_ c.requires.owes c.in_ok-owed.ensures c.in-Some-2.is c.in_ok-pass-in-Some-2.ensures.passes)

pub returns-in-None-clause-passed : goal.returns-in-None-clause-passed
returns-in-None-clause-passed c = passes_nothing c.args.self.now _ _ _ c.in-Some.is c.in_ok-owed.ensures c.in-None.is
