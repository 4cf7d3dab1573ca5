use Rattle.std.proofs.Common.{inl, [], ◌++◌, refl, arith}
use Rattle.std.proofs.lemmas.Bool.Decides.{nat_tests}
use Rattle.std.proofs.lemmas.Result.{err_from_is_err_and}
use Rattle.cp_relay.proofs.Streams.{gives_no_byte, gives_more, gives_all, gives_whole, stops_after}
use Rattle.cp_relay.proofs.relay.Relay.feed.Goals as goal

pub feeding-init : goal.feeding-init
feeding-init g c = ([], refl, gives_no_byte g.V.Visitor.says c.args.self.now c.args.visitor.now c.args.out.now.items c.in_ok-go_on.ensures.ok)

pub returns-in_err-back-clause-stopped : goal.returns-in_err-back-clause-stopped
returns-in_err-back-clause-stopped g c =
    let p = err_from_is_err_and c.from_residual-in_err-back.result c.from_residual-in_err-back.ensures.1 in
    let fed = c.feeding.invariant in
    rw (p.1, p.2) (inl (stops_after g.V.Visitor.says c.args.self.now c.feeding.self c.next.new.self fed.0 c.feeding.left.now c.args.piece.now c.args.visitor.now c.feeding.visitor c.next.new.visitor c.args.out.now.items c.feeding.out.items c.next.new.out.items c.in_err-back.field-0.0 fed.2 fed.1 c.in_err-back.ensures.nothing c.in_err-back.ensures.stopped))

pub returns-in_default-clause-given : goal.returns-in_default-clause-given
returns-in_default-clause-given g c =
    let none = rw c.in_default.is at c.in_ok-back.ensures.none in
    let fed = c.feeding.invariant in
    gives_all g.V.Visitor.says c.args.self.now c.feeding.self c.next.new.self fed.0 c.feeding.left.now c.args.piece.now c.args.visitor.now c.feeding.visitor c.next.new.visitor c.args.out.now.items c.feeding.out.items c.next.new.out.items fed.2 fed.1 none

pub feeding-preserved : goal.feeding-preserved
feeding-preserved g c =
    let next = rw c.in-Some.is at c.in_ok-back.ensures.given in
    let fed = c.feeding.invariant in
    let more = gives_more g.V.Visitor.says c.args.self.now c.feeding.self c.next.new.self fed.0 c.feeding.left.now c.in-Some.back.now c.args.piece.now c.args.visitor.now c.feeding.visitor c.next.new.visitor c.args.out.now.items c.feeding.out.items c.next.new.out.items fed.2 fed.1 next in
    (fed.0 ++ next.front, more.1, more.0)

pub returns-clause-given : goal.returns-clause-given
returns-clause-given g c =
    let fed = c.feeding.invariant in
    gives_whole g.V.Visitor.says c.args.self.now c.feeding.self fed.0 c.feeding.left.now c.args.piece.now c.args.visitor.now c.feeding.visitor c.args.out.now.items c.feeding.out.items fed.2 fed.1 (grind (arith, nat_tests))
