use Rattle.std.proofs.Common.{◌≡◌, ◌⊎◌, IfErr, IfNone, IfOk, IfSome, sym, subst}
use Rattle.cp_frame.specs.declared.fault.FrameFault.TheVariants.{OutOfMemory}
use Rattle.cp_frame.specs.declared.mode.Mode.{Mode}
use Rattle.cp_frame.specs.Following.{GoesThrough, HasThere, StopsAt}
use Rattle.cp_frame.proofs.stream.OpenStream.next.Goals as goal

pub returns-in-Plain-clause-given : goal.returns-in-Plain-clause-given
returns-in-Plain-clause-given c =
    subst (λ (mode : Mode). IfOk c.next_plain.result (λ next. IfSome next (λ t. StopsAt mode c.args.self.now.limits c.args.self.now.rest c.args.piece.now t.0 t.1 c.next_plain.new.self.rest t.2.now))) (sym c.in-Plain.is) c.next_plain.ensures.given

pub returns-in-Plain-clause-none : goal.returns-in-Plain-clause-none
returns-in-Plain-clause-none c =
    subst (λ (mode : Mode). IfOk c.next_plain.result (λ next. IfNone next (GoesThrough mode c.args.self.now.limits c.args.self.now.rest c.args.piece.now c.next_plain.new.self.rest))) (sym c.in-Plain.is) c.next_plain.ensures.none

pub returns-in-Plain-clause-fault : goal.returns-in-Plain-clause-fault
returns-in-Plain-clause-fault c =
    subst (λ (mode : Mode). IfErr c.next_plain.result (λ fault. (fault ≡ OutOfMemory) ⊎ HasThere mode c.args.self.now.limits c.args.self.now.rest c.args.piece.now fault)) (sym c.in-Plain.is) c.next_plain.ensures.fault

pub returns-in-Packed-clause-given : goal.returns-in-Packed-clause-given
returns-in-Packed-clause-given c =
    subst (λ (mode : Mode). IfOk c.next_packed.result (λ next. IfSome next (λ t. StopsAt mode c.args.self.now.limits c.args.self.now.rest c.args.piece.now t.0 t.1 c.next_packed.new.self.rest t.2.now))) (sym c.in-Packed.is) c.next_packed.ensures.given

pub returns-in-Packed-clause-none : goal.returns-in-Packed-clause-none
returns-in-Packed-clause-none c =
    subst (λ (mode : Mode). IfOk c.next_packed.result (λ next. IfNone next (GoesThrough mode c.args.self.now.limits c.args.self.now.rest c.args.piece.now c.next_packed.new.self.rest))) (sym c.in-Packed.is) c.next_packed.ensures.none

pub returns-in-Packed-clause-fault : goal.returns-in-Packed-clause-fault
returns-in-Packed-clause-fault c =
    subst (λ (mode : Mode). IfErr c.next_packed.result (λ fault. (fault ≡ OutOfMemory) ⊎ HasThere mode c.args.self.now.limits c.args.self.now.rest c.args.piece.now fault)) (sym c.in-Packed.is) c.next_packed.ensures.fault
