use Rattle.std.proofs.Common.{◌∙◌}
use Rattle.cp_refs.proofs.Walks.{fewer_left, led_on}
use Rattle.cp_refs.proofs.values.Values.route.Goals as goal

pub loop-route-init : goal.loop-route-init
loop-route-init c = (c.new-walk.ensures.values, λ route r. rw c.new-walk.ensures.cap at r)

pub loop-route-smaller : goal.loop-route-smaller
loop-route-smaller c =
    let walk = c.loop-route.walk in
    let next = c.in-Leads.next in
    let pace = rw c.in-Leads.is at c.in_ok-route.ensures in
    fewer_left walk.values.now walk.cap.now next.cap.now next.ending.0 walk.ending.0 pace.1 walk.ending.1 (rw pace.0 at next.ending.1)

pub loop-route-preserved : goal.loop-route-preserved
loop-route-preserved c =
    let walk = c.loop-route.walk in
    let same = c.loop-route.invariant.0 in
    let pace = rw c.in-Leads.is at c.in_ok-route.ensures in (
      pace.0 ∙ same,
      λ route r. c.loop-route.invariant.1 route (led_on c.args.self.now walk.cap.now c.in-Leads.next.cap.now route (rw same at pace.1) r),
    )
