use Rattle.std.proofs.Common.{inr, ap}
use Rattle.std.specs.Option.{option_map}
use Rattle.std.proofs.lemmas.Result.{err_from_is_err_and}
use Rattle.cp_rpc.specs.Viewed.{viewed}
use Rattle.cp_connection.proofs.Taking.{keeps_message, lost_before, takes_message}
use Rattle.cp_connection.proofs.parts.Parts.take_in.Goals as goal

pub returns-in_err-message-clause-acts : goal.returns-in_err-message-clause-acts
returns-in_err-message-clause-acts c =
    let p = err_from_is_err_and c.from_residual.result c.from_residual.ensures.1 in
    let kept = (c.requires.keeps c.requires.is_open).kept in
    rw (p.1, p.2) (inr (lost_before c.args.self.now c.for_vat.new.self _ _ c.requires.is_open kept c.in_err-message.ensures.open c.in_err-message.ensures.loses))

pub returns-in-Some-clause-acts : goal.returns-in-Some-clause-acts
returns-in-Some-clause-acts c =
    let kept = (c.requires.keeps c.requires.is_open).kept in
    takes_message c.args.self.now c.for_vat.new.self c.conclude.new.self _ _ c.requires.is_open kept c.in_ok-message.ensures.gets _ _ _ _ (ap (λ o. option_map viewed o) c.in-Some.is) c.receive_view-acted.ensures.step c.conclude.ensures.noted

pub returns-in-None-clause-acts : goal.returns-in-None-clause-acts
returns-in-None-clause-acts c =
    let kept = (c.requires.keeps c.requires.is_open).kept in
    keeps_message c.args.self.now c.for_vat.new.self c.go_on.new.self _ _ c.requires.is_open kept c.in_ok-message.ensures.gets _ (ap (λ o. option_map viewed o) c.in-None.is) c.go_on.ensures.goes
