use Rattle.std.proofs.Common.{◌≡◌, ◌∙◌, refl, length, arith}
use Rattle.cp_relay.specs.declared.filter.Filter.{Filter}
use Rattle.cp_relay.proofs.Filtering.{guards_next, guards_none, taken_back, stops_unanswered}
use Rattle.cp_relay.proofs.filter.Filter.pass.Goals as goal

pub returns-in-Ok-None-clause-none : goal.returns-in-Ok-None-clause-none
returns-in-Ok-None-clause-none c =
    let none = rw c.in-Ok-None.field-0-is at c.in-Ok-None.ensures.none in
    let old = c.args.self.now in
    let new : Filter = record old { relay = c.next.new.self } in
    guards_none c.args.guard.now c.begin.new.self c.next.new.visitor old new c.args.piece.now c.args.out.now c.next.new.out c.args.answers.now c.begin.ensures none c.requires refl refl refl refl

pub returns-in-Ok-clause-given : goal.returns-in-Ok-clause-given
returns-in-Ok-clause-given c =
    let given = rw c.in-Ok-Some.field-0-is at c.in-Ok-Some.ensures.given in
    let old = c.args.self.now in
    let mid : Filter = record old { relay = c.next.new.self } in
    let took = c.take_ruling-ruling in
    let same = c.in-Ok.ensures.same in
    let held : c.len-start.result ≡ length c.args.out.now.items = omega (arith, c.len-start.ensures) in
    guards_next c.args.guard.now c.begin.new.self c.next.new.visitor took.new.self old mid c.follow.new.self c.args.piece.now c.in-Ok-Some.back.now c.len-start.result c.args.out.now c.next.new.out c.follow.new.out c.args.answers.now c.follow.new.answers took.result
    c.begin.ensures given took.ensures.ruling took.ensures.same c.requires held c.in-Ok.ensures.followed c.in-Ok.ensures.relay same.on same.back same.limits same.comes_back

pub returns-in-Err-clause-stopped : goal.returns-in-Err-clause-stopped
returns-in-Err-clause-stopped c = record { begun = c.begin.new.self; begins = c.begin.ensures; stops = c.in-Err.ensures.stopped }

pub returns-in-Err-follow-clause-stopped : goal.returns-in-Err-follow-clause-stopped
returns-in-Err-follow-clause-stopped c =
    let given = rw c.in-Ok-Some.field-0-is at c.in-Ok-Some.ensures.given in
    let old = c.args.self.now in
    let took = c.take_ruling-ruling in
    stops_unanswered c.args.guard.now c.begin.new.self c.next.new.visitor took.new.self old c.next.new.self c.args.piece.now c.in-Ok-Some.back.now c.args.out.now c.next.new.out took.result c.in-Err-follow.refusal
    c.begin.ensures given took.ensures.ruling took.ensures.same c.in-Err-follow.ensures.unput

pub returns-in-Err-follow-clause-goes_on : goal.returns-in-Err-follow-clause-goes_on
returns-in-Err-follow-clause-goes_on c =
    let given = rw c.in-Ok-Some.field-0-is at c.in-Ok-Some.ensures.given in
    let held : c.len-start.result ≡ length c.args.out.now.items = omega (arith, c.len-start.ensures) in
    c.in-Err-follow.ensures.goes_on ∙ taken_back c.len-start.result c.args.out.now.items c.next.new.out.items given.sent held given.goes_out
