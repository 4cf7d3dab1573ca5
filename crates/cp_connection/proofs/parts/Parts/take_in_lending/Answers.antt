use Rattle.std.proofs.Common.{ap, refl}
use Rattle.std.specs.Option.{option_map}
use Rattle.std.proofs.lemmas.Result.{err_from_is_err_and}
use Rattle.cp_rpc.specs.Viewed.{viewed}
use Rattle.cp_connection.proofs.Lending.{lends_message, lends_no_message}
use Rattle.cp_connection.proofs.Taking.{keeps_not, keeps_well, lost_before}
use Rattle.cp_connection.proofs.parts.Parts.take_in_lending.Goals as goal

pub returns-in_err-message-clause-refuses : goal.returns-in_err-message-clause-refuses
returns-in_err-message-clause-refuses c =
    let p = err_from_is_err_and c.from_residual.result c.from_residual.ensures.1 in
    let kept = (c.requires.keeps c.requires.is_open).kept in
    rw (p.1, p.2) (lost_before c.args.self.now c.for_vat.new.self _ _ c.requires.is_open kept c.in_err-message.ensures.open c.in_err-message.ensures.loses)

pub returns-in-Some-clause-lends : goal.returns-in-Some-clause-lends
returns-in-Some-clause-lends c =
    let kept = (c.requires.keeps c.requires.is_open).kept in
    lends_message c.args.self.now c.for_vat.new.self c.conclude.new.self _ _ c.requires.is_open kept c.requires.none_happened c.in_ok-message.ensures.gets _ _ _ _ (ap (λ o. option_map viewed o) c.in-Some.is) c.receive_lending-acted.ensures.step c.conclude.ensures.noted

pub returns-in-Some-clause-refuses : goal.returns-in-Some-clause-refuses
returns-in-Some-clause-refuses c =
    let kept = (c.requires.keeps c.requires.is_open).kept in
    lends_no_message c.args.self.now c.for_vat.new.self c.conclude.new.self _ _ c.requires.is_open kept c.requires.none_happened c.in_ok-message.ensures.gets _ _ _ _ (ap (λ o. option_map viewed o) c.in-Some.is) c.receive_lending-acted.ensures.step c.conclude.ensures.noted

pub returns-in_ok-go_on-in-None-clause-lends : goal.returns-in_ok-go_on-in-None-clause-lends
returns-in_ok-go_on-in-None-clause-lends c =
    let kept = (c.requires.keeps c.requires.is_open).kept in
    (_, keeps_well c.args.self.now c.for_vat.new.self c.go_on.new.self _ _ c.requires.is_open kept c.in_ok-message.ensures.gets (ap (λ o. option_map viewed o) c.in-None.is) c.in_ok-go_on-in-None.ensures.goes, refl)

pub returns-in_err-go_on-in-None-clause-refuses : goal.returns-in_err-go_on-in-None-clause-refuses
returns-in_err-go_on-in-None-clause-refuses c =
    let p = err_from_is_err_and c.from_residual-in_err-go_on-in-None.result c.from_residual-in_err-go_on-in-None.ensures.1 in
    let kept = (c.requires.keeps c.requires.is_open).kept in
    rw (p.1, p.2)
    (keeps_not c.args.self.now c.for_vat.new.self c.go_on.new.self _ _ c.requires.is_open kept c.in_ok-message.ensures.gets _ (ap (λ o. option_map viewed o) c.in-None.is) c.in_err-go_on-in-None.ensures.goes)
