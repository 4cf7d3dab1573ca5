use Rattle.std.proofs.Common.{◌∙◌}
use Rattle.cp_refs.proofs.Walks.{fewer_left}
use Rattle.cp_vat_rules.proofs.Saying.{ends_here, leads_on}
use Rattle.cp_vat_rules.proofs.resolve.resolve_cap.Goals as goal

pub loop-last-init : goal.loop-last-init
loop-last-init c = (c.new-reached.ensures.values, λ d to. rw (c.new-reached.ensures.cap, c.in_ok-copy.ensures) at to)

pub loop-last-smaller : goal.loop-last-smaller
loop-last-smaller c =
    let reached = c.loop-last.reached in
    let next = c.in-Leads.next in
    let pace = rw c.in-Leads.is at c.in_ok-last.ensures in
    fewer_left reached.values.now reached.cap next.cap next.ending.0 reached.ending.0 pace.1 reached.ending.1 (rw pace.0 at next.ending.1)

pub loop-last-preserved : goal.loop-last-preserved
loop-last-preserved c =
    let values = c.args.values.now in
    let reached = c.loop-last.reached in
    let same = c.loop-last.invariant.0 in
    let pace = rw c.in-Leads.is at c.in_ok-last.ensures in
    (pace.0 ∙ same, λ last to. c.loop-last.invariant.1 last (leads_on values reached.cap c.in-Leads.next.cap last (rw same at pace.1) to))

pub returns-in-Ends : goal.returns-in-Ends
returns-in-Ends c =
    let values = c.args.values.now in
    let reached = c.loop-last.reached in
    let same = c.loop-last.invariant.0 in
    let pace = rw c.in-Ends.is at c.in_ok-last.ensures in
    c.loop-last.invariant.1 c.in-Ends.last (rw pace.0 (ends_here values reached.cap (rw same at pace.1)))
