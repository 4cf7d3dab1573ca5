use Rattle.std.proofs.Common.{ap, sym, ◌∙◌}
use Rattle.std.specs.Option.{unwrap_or}
use Rattle.std.specs.FinMap as map
use Rattle.cp_tables.proofs.TableLemmas.{get-insert_same}
use Rattle.cp_refs.proofs.Queueing.{put-back, queued-held}
use Rattle.cp_refs.proofs.waiting.Waiting.hold.Goals as goal

pub unreachable-requires : goal.unreachable-requires
unreachable-requires c =
    c.in_default-remove.not-Some c.args.held (c.remove.ensures.value ∙ ap (λ m. map.get m c.args.held.ticket) c.in_ok-put.ensures.put ∙ get-insert_same c.self.inside.calls c.args.held.ticket c.args.held)

pub invariant_of-self-in-Err : goal.invariant_of-self-in-Err
invariant_of-self-in-Err c =
    let none = rw (← c.self.view_is) at c.requires in
    let back = c.remove.ensures.removed ∙ ap (λ m. map.remove m c.args.held.ticket) c.in_ok-put.ensures.put ∙ put-back c.self.inside.calls c.args.held.ticket c.args.held none in
    rw (back, c.in-Err.ensures.err) c.self.invariant

pub returns-in-Err-clause-err : goal.returns-in-Err-clause-err
returns-in-Err-clause-err c =
    let none = rw (← c.self.view_is) at c.requires in
    let back = c.remove.ensures.removed ∙ ap (λ m. map.remove m c.args.held.ticket) c.in_ok-put.ensures.put ∙ put-back c.self.inside.calls c.args.held.ticket c.args.held none in
    rw back c.self.view_is

pub returns-in-Err-clause-back : goal.returns-in-Err-clause-back
returns-in-Err-clause-back c =
    let there = c.remove.ensures.value ∙ ap (λ m. map.get m c.args.held.ticket) c.in_ok-put.ensures.put ∙ get-insert_same c.self.inside.calls c.args.held.ticket c.args.held in
    ap (λ o. unwrap_or o c.args.held) (sym c.in-Some.is ∙ there)

pub invariant_of-self-in_default : goal.invariant_of-self-in_default
invariant_of-self-in_default c =
    rw (c.in_ok-put.ensures.put, c.in_default.ensures.queued, c.gate_key-key.ensures) (queued-held c.self.inside.calls c.self.inside.queues c.self.inside.ended c.self.invariant c.args.held (rw (← c.self.view_is) at c.requires))
