use Rattle.std.proofs.Common.{◌≡◌, refl, subst, rules, arith}
use Rattle.std.proofs.lemmas.List.{nil_from_length}
use Rattle.std.proofs.lemmas.Bool.Decides.{nat_tests}
use Rattle.std.specs.Vec.{vec_len}
use Rattle.cp_frame.specs.declared.fault.FrameFault.TheVariants.{OutOfMemory}
use Rattle.cp_frame.specs.declared.status.Status.TheVariants.{Failed}
use Rattle.cp_frame.specs.Kept.{seen}
use Rattle.cp_frame.specs.Reader.{Reader, Gives, Reports}
use Rattle.cp_frame.proofs.Readers.{gives_read, reports_memory, reports_fault}
use Rattle.cp_frame.proofs.reader.FrameReader.feed.Goals as goal
use Rattle.cp_frame.proofs.reader.FrameReader.feed.Goals.{then-eq-via-then-eq, then-eq-via-else-eq+then-is_empty}

pub returns-then-eq-clause-reported : goal.returns-then-eq-clause-reported
returns-then-eq-clause-reported c =
    let status = c.self.inside.status in
    let s = c.self.inside.stream in
    let t = c.clear.new.self in
    let new = seen t.mode t.limits Failed t.rest in
    let piece = c.args.piece.now in
    let fault = c.in-Err.fault in
    let reading = c.in_ok-go_on.ensures.ok.0 in
    subst (λ (old : Reader). Reports old piece new fault) c.self.view_is (elim c.then-eq.branch [
      | then-eq-via-then-eq w ↦ (let memory : fault ≡ OutOfMemory = search rules in reports_memory s.mode s.limits status s.rest new piece fault reading refl memory)
      | then-eq-via-else-eq+then-is_empty w ↦ (let none : vec_len c.read.new.frames ≡ 0 = grind (arith, nat_tests) in
          reports_fault s.mode s.limits status s.rest new piece c.read.new.frames.items fault reading refl (nil_from_length c.read.new.frames.items (omega (arith, none))) c.in-Err.ensures.fault)
    ])

pub returns-in-Ok-clause-given : goal.returns-in-Ok-clause-given
returns-in-Ok-clause-given c =
    let s = c.self.inside.stream in
    let t = c.read.new.self in
    let new = seen t.mode t.limits c.go_on.new.self t.rest in
    let piece = c.args.piece.now in
    let frames = c.read.new.frames.items in
    let reading = c.in_ok-go_on.ensures.ok in
    subst (λ (old : Reader). Gives old piece new frames) c.self.view_is
    (gives_read s.mode s.limits c.self.inside.status s.rest t.mode t.limits c.go_on.new.self t.rest piece frames reading.0 reading.1 c.read.ensures.same.0 c.read.ensures.same.1 c.in-Ok.ensures.reads)
