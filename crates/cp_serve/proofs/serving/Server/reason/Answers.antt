use Rattle.std.proofs.Common.{List, sym, ap, ◌∙◌, length, arith}
use Rattle.cp_dispatch.specs.declared.event.SessionEvent.{SessionEvent}
use Rattle.cp_serve.specs.Matching.{reason_in}
use Rattle.cp_serve.proofs.Simulating.{reason_first, reason_later}
use Rattle.cp_serve.proofs.serving.Server.reason.Goals as goal

pub returns-in-Some-reason_of : goal.returns-in-Some-reason_of
returns-in-Some-reason_of c =
    reason_first c.in-Some.notice _ c.in-Some-reason_of.reason (sym c.in-Some-reason_of.is ∙ c.reason_of.ensures) ∙ sym (ap reason_in (c.in-Some.ensures c.noting.self.connection).0) ∙ c.noting.invariant

pub noting-smaller : goal.noting-smaller
noting-smaller c = omega (arith, ap (λ (ns : List SessionEvent). length ns) (c.in-Some.ensures c.noting.self.connection).0)

pub noting-preserved : goal.noting-preserved
noting-preserved c =
    sym (ap reason_in (c.in-Some.ensures c.noting.self.connection).0 ∙ reason_later c.in-Some.notice _ (sym c.in_default-reason_of.is ∙ c.reason_of.ensures)) ∙ c.noting.invariant

pub returns : goal.returns
returns c = sym (ap reason_in (c.in_default.ensures c.noting.self.connection).0) ∙ c.noting.invariant
