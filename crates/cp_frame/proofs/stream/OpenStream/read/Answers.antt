use Rattle.std.proofs.Common.{◌≡◌, ◌⊎◌, ◌∙◌, ℕ, List, sym, subst, arith, rules}
use Rattle.std.proofs.lemmas.Bool.Decides.{nat_tests}
use Rattle.std.proofs.lemmas.Result.{err_from_is_err_and}
use Rattle.cp_words.specs.Limits.{Bounds}
use Rattle.cp_frame.specs.declared.fault.FrameFault.TheVariants.{OutOfMemory}
use Rattle.cp_frame.specs.declared.mode.Mode.{Mode}
use Rattle.cp_frame.specs.Following.{GoesThrough, HasRead, HasThere, StopsAt}
use Rattle.cp_frame.proofs.Following.{by_same, read_all, read_fault, read_frame, read_through}
use Rattle.cp_frame.proofs.stream.OpenStream.read.Goals as goal

pub reading-preserved : goal.reading-preserved
reading-preserved c =
    let self = c.args.self.now in
    let old = c.reading.self in
    let new = c.next.new.self in
    let piece = c.args.piece.now in
    let left = c.reading.left.now in
    let taken = c.in-Some.taken in
    let S = c.in-Some.segments in
    let back = c.in-Some.back.now in
    let before = c.reading.invariant.same in
    let stops : StopsAt old.mode old.limits old.rest left taken S new.rest back = search rules in
    let stops_same = by_same (λ (mode : Mode) (limits : Bounds). StopsAt mode limits old.rest left taken S new.rest back) self old before stops in
    record {
      same = (c.next.ensures.same.0 ∙ before.0, c.next.ensures.same.1 ∙ before.1);
      reads = subst (λ (frames : List (ℕ × List (List ℕ))). HasRead self.mode self.limits self.rest piece frames new.rest back) (sym c.in_ok-push.ensures.items)
          (read_frame self.mode self.limits self.rest old.rest new.rest piece left back c.reading.frames.items taken S c.reading.invariant.reads stops_same);
    }

pub returns-in_err-taken-clause-fault : goal.returns-in_err-taken-clause-fault
returns-in_err-taken-clause-fault c =
    let self = c.args.self.now in
    let old = c.reading.self in
    let left = c.reading.left.now in
    let fault = c.in_err-taken.field-0.0 in
    let there = by_same (λ (mode : Mode) (limits : Bounds). (fault ≡ OutOfMemory) ⊎ HasThere mode limits old.rest left fault) self old c.reading.invariant.same c.in_err-taken.ensures.fault in
    let p = err_from_is_err_and c.from_residual.result c.from_residual.ensures.1 in
    rw (p.1, p.2) (read_fault self.mode self.limits self.rest old.rest c.args.piece.now left c.reading.frames.items fault c.reading.invariant.reads there)

pub returns-in_default-clause-reads : goal.returns-in_default-clause-reads
returns-in_default-clause-reads c =
    let self = c.args.self.now in
    let old = c.reading.self in
    let new = c.next.new.self in
    let left = c.reading.left.now in
    let through : GoesThrough old.mode old.limits old.rest left new.rest = search rules in
    let through_same = by_same (λ (mode : Mode) (limits : Bounds). GoesThrough mode limits old.rest left new.rest) self old c.reading.invariant.same through in
    read_through self.mode self.limits self.rest old.rest new.rest c.args.piece.now left c.reading.frames.items c.reading.invariant.reads through_same

pub returns-clause-reads : goal.returns-clause-reads
returns-clause-reads c =
    let self = c.args.self.now in
    read_all self.mode self.limits self.rest c.reading.self.rest c.args.piece.now c.reading.left.now c.reading.frames.items c.reading.invariant.reads (grind (arith, nat_tests))
