use Rattle.std.proofs.Common.{◌≡◌, inl, Some, None, refl, ◌∙◌, subst, ap}
use Rattle.cp_relay.specs.Relay.{Relay, StopsNext}
use Rattle.cp_relay.specs.Passage.{seen}
use Rattle.cp_relay.proofs.Passing.{stops_here}
use Rattle.cp_relay.proofs.relay.Relay.next.Goals as goal

pub returns-in-Err-clause-stopped : goal.returns-in-Err-clause-stopped
returns-in-Err-clause-stopped g c =
    let p = c.self.inside.passage in
    let before = c.self.inside.fault in
    let says = g.V.Visitor.says in
    let fault = c.stop-fault.result in
    let new = seen c.stop-fault.new.self (Some fault) in
    let none : before ≡ None = ap (λ (r : Relay). r.fault) c.self.view_is ∙ c.in_ok-go_on.ensures.ok in
    let at = c.stop-fault.ensures.counts ∙ c.in-Err.ensures.counts in
    let stops = stops_here says p before new c.args.piece.now c.args.visitor.now c.next.new.visitor fault c.in-Err.why none c.in-Err.ensures.refused refl c.stop-fault.ensures.place at c.stop-fault.ensures.why in
    inl (subst (λ (r : Relay). StopsNext says r c.args.piece.now new c.args.visitor.now c.next.new.visitor fault) c.self.view_is stops)
