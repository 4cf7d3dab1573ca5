use Rattle.std.proofs.Common.{◌≡◌, ◌+◌, length, refl, sym, subst, rules, arith}
use Rattle.cp_frame.specs.Reader.{Reader}
use Rattle.c_handles.specs.Kept.{IsCounted}
use Rattle.c_handles.proofs.Counting.{goes_on, with_spare, stops_at_none, stops_at_other}
use Rattle.c_handles.proofs.check.check_all.Goals as goal

pub reading-preserved : goal.reading-preserved
reading-preserved c =
    let l = c.reading in
    let next = c.in-Ok.ensures.next in
    let left = c.in-Ok.next.1.now in
    subst (λ (r : Reader). IsCounted c.args.limits c.args.mode c.args.kind c.args.bytes.now r (l.frames + 1) left) (sym c.reuse.ensures.stays)
    (with_spare c.args.limits c.args.mode c.args.kind c.args.bytes.now c.next_frame.new.reader (l.frames + 1) left _
    (goes_on c.args.limits c.args.mode c.args.kind c.args.bytes.now l.reader c.next_frame.new.reader l.frames (l.frames + 1) next.0 c.in-Ok.next.0 l.left.now left l.invariant next.1 c.in_default.ensures.found refl))

pub returns-in-Err : goal.returns-in-Err
returns-in-Err c =
    let l = c.reading in
    let some : length l.left.now ≡ 0 → ⊥ = search rules in
    rw (c.stopped.ensures, c.from.ensures)
    (stops_at_none c.args.limits c.args.mode c.args.kind c.args.bytes.now l.reader c.next_frame.new.reader l.frames _ l.left.now c.in-Err.fault l.invariant (omega (arith, l.invariant.few)) some c.in-Err.ensures.none)

pub returns-in-Err-gives : goal.returns-in-Err-gives
returns-in-Err-gives c =
    let l = c.reading in
    let next = c.in-Ok.ensures.next in
    rw c.stopped-in-Err-gives.ensures
    (stops_at_other c.args.limits c.args.mode c.args.kind c.args.bytes.now l.reader c.next_frame.new.reader l.frames _ next.0 c.in-Ok.next.0 l.left.now c.in-Ok.next.1.now c.in-Err-gives.fault l.invariant
    (omega (arith, l.invariant.few)) next.1 c.in-Err-gives.ensures.refused)
