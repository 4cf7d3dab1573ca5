use Rattle.std.proofs.Common.{◌≡◌, true, sym, ◌∙◌, ap}
use Rattle.cp_rpc.specs.Viewed.{viewed}
use Rattle.cp_relay.specs.Rules.{follows}
use Rattle.cp_relay.specs.Judged.{goes}
use Rattle.cp_relay.proofs.Kept.{closed_so}
use Rattle.cp_relay.proofs.guard.Guard.judge.Goals as goal

pub returns-in-Ok-Some-clause-judged : goal.returns-in-Ok-Some-clause-judged
returns-in-Ok-Some-clause-judged c =
    let old = c.args.self.now in
    let mid = c.rule.new.self in
    let so = rw (c.in_ok-ruling.ensures.same.comes_back, c.in_ok-ruling.ensures.same.rules, c.in-Ok-Some.field-0-is) at c.in-Ok-Some.ensures.followed in
    let follow : follows old.rules.now ≡ true = ap follows (sym c.in_ok-ruling.ensures.same.rules) ∙ sym c.follows.ensures ∙ c.if-not-follows.false in
    let go : goes c.in_ok-ruling.ruling ≡ true = sym c.goes.ensures ∙ c.if-not-goes.false in
    closed_so old.comes_back old.rules.now old.state mid.state c.follow.new.self.state (viewed c.args.message.now) c.in_ok-ruling.ruling c.in-Ok-Some.breach c.in_ok-ruling.ensures.ruled follow go so c.in-Ok-Some.ensures.state
