use Rattle.std.proofs.Common.{◌≡◌, ◌⊎◌, sym, ◌∙◌, subst, arith}
use Rattle.std.proofs.lemmas.Bool.Decides.{nat_tests}
use Rattle.std.proofs.lemmas.Result.{err_from_is_err_and}
use Rattle.cp_words.specs.Limits.{Bounds}
use Rattle.cp_frame.specs.declared.fault.FrameFault.TheVariants.{OutOfMemory}
use Rattle.cp_frame.specs.declared.mode.Mode.TheVariants.{Packed}
use Rattle.cp_frame.specs.declared.rest.Rest.{Rest}
use Rattle.cp_frame.specs.Rest.{InPacked}
use Rattle.cp_frame.specs.Bulk.{GivesWhole, TakesFront}
use Rattle.cp_frame.specs.Single.{IsStillOpen}
use Rattle.cp_frame.specs.Following.{HasThere}
use Rattle.cp_packed.proofs.Bytes.{bytes_by}
use Rattle.cp_frame.proofs.Following.{front_both, fault_after, still_packed, stops_packed, through_packed}
use Rattle.cp_frame.proofs.stream.OpenStream.next_packed.Goals as goal

pub reading-preserved : goal.reading-preserved
reading-preserved c =
    let limits = c.args.self.now.limits in
    let r = c.args.self.now.rest in
    let s = c.take_some.new.self.rest in
    let piece = c.args.piece.now in
    let left = c.reading.left.now in
    let back = c.in_ok-left.left.now in
    let before = c.reading.invariant.same in
    let same = c.take_some.ensures.same.1 ∙ before.1 in
    let are = bytes_by piece (λ j. omega (arith, c.type_inv.piece j)) in
    let takes = subst (λ (l : Bounds). TakesFront l c.reading.self.rest left s back) before.1 c.in_ok-left.ensures.takes in
    let open_still = subst (λ (l : Bounds). IsStillOpen l s) same c.in_default.ensures.none.0 in
    let both = front_both limits r c.reading.self.rest s piece left back c.reading.invariant.takes takes in
    let rest = sym c.in_default.ensures.none.1 in
    record {
      same = (c.give.ensures.same.0 ∙ c.take_some.ensures.same.0 ∙ before.0, c.give.ensures.same.1 ∙ same);
      takes = subst (λ (t : Rest). TakesFront limits r piece t back) rest both;
      begun = subst (λ (t : Rest). InPacked limits t) rest (still_packed limits r s piece back c.requires are both open_still);
    }

pub returns-in-Some-clause-given : goal.returns-in-Some-clause-given
returns-in-Some-clause-given c =
    let limits = c.args.self.now.limits in
    let r = c.args.self.now.rest in
    let s = c.take_some.new.self.rest in
    let t = c.give.new.self.rest in
    let piece = c.args.piece.now in
    let left = c.reading.left.now in
    let back = c.in_ok-left.left.now in
    let before = c.reading.invariant.same in
    let same = c.take_some.ensures.same.1 ∙ before.1 in
    let are = bytes_by piece (λ j. omega (arith, c.type_inv.piece j)) in
    let takes = subst (λ (l : Bounds). TakesFront l c.reading.self.rest left s back) before.1 c.in_ok-left.ensures.takes in
    let gives = subst (λ (l : Bounds). GivesWhole l s c.in-Some.taken c.in-Some.segments t) same c.in-Some.ensures.given in
    let both = front_both limits r c.reading.self.rest s piece left back c.reading.invariant.takes takes in
    stops_packed limits r s t piece left back c.in-Some.taken c.in-Some.segments c.requires are c.reading.invariant.takes both c.in_ok-left.ensures.shorter gives

pub returns-in_err-left-clause-fault : goal.returns-in_err-left-clause-fault
returns-in_err-left-clause-fault c =
    let limits = c.args.self.now.limits in
    let piece = c.args.piece.now in
    let left = c.reading.left.now in
    let fault = c.in_err-left.field-0.0 in
    let are = bytes_by piece (λ j. omega (arith, c.type_inv.piece j)) in
    let p = err_from_is_err_and c.from_residual.result c.from_residual.ensures.1 in
    let there = subst (λ (l : Bounds). (fault ≡ OutOfMemory) ⊎ HasThere Packed l c.reading.self.rest left fault) c.reading.invariant.same.1 c.in_err-left.ensures.fault in
    rw (p.1, p.2) (fault_after limits c.args.self.now.rest c.reading.self.rest piece left fault c.requires are c.reading.invariant.takes c.reading.invariant.begun there)

pub returns-clause-none : goal.returns-clause-none
returns-clause-none c =
    let piece = c.args.piece.now in
    through_packed c.args.self.now.limits c.args.self.now.rest c.reading.self.rest piece c.reading.left.now c.requires (bytes_by piece (λ j. omega (arith, c.type_inv.piece j))) c.reading.invariant.takes c.reading.invariant.begun
    (grind (arith, nat_tests))
