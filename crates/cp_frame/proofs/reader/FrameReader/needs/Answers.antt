use Rattle.std.proofs.Common.{subst}
use Rattle.cp_frame.specs.Reader.{Reader, Needs}
use Rattle.cp_frame.proofs.Needed.{keeps_plain, needs_of_plain, needs_of_packed, less_kept}
use Rattle.cp_frame.proofs.reader.FrameReader.needs.Goals as goal

pub needs-requires-clause-kept : goal.needs-requires-clause-kept
needs-requires-clause-kept c =
    let r = c.self.inside in
    less_kept r.stream.limits r.stream.rest.frame (keeps_plain r.stream.mode r.stream.limits r.status r.stream.rest c.in-Reading-Plain.is-0 c.in-Reading-Plain.is-1 c.self.invariant)

pub returns-in-Reading-Plain : goal.returns-in-Reading-Plain
returns-in-Reading-Plain c =
    let r = c.self.inside in
    subst (λ (v : Reader). Needs v v.state c.needs.result) c.self.view_is (needs_of_plain r.stream.mode r.stream.limits r.status r.stream.rest c.needs.result c.in-Reading-Plain.is-0 c.in-Reading-Plain.is-1 c.self.invariant c.needs.ensures)

pub returns-in-Reading-Packed : goal.returns-in-Reading-Packed
returns-in-Reading-Packed c =
    let r = c.self.inside in
    subst (λ (v : Reader). Needs v v.state c.needs-in-Reading-Packed.result) c.self.view_is
    (needs_of_packed r.stream.mode r.stream.limits r.status r.stream.rest c.needs-in-Reading-Packed.result c.in-Reading-Packed.is-0 c.in-Reading-Packed.is-1 c.self.invariant c.needs-in-Reading-Packed.ensures)
