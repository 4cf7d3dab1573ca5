use Rattle.std.proofs.Common.{refl, sym, subst, ◌∙◌}
use Rattle.std.proofs.lemmas.Bool.{true≢false}
use Rattle.cp_frame.specs.declared.fault.FrameFault.TheVariants.{Truncated}
use Rattle.cp_frame.specs.declared.status.Status.TheVariants.{Failed}
use Rattle.cp_frame.specs.Kept.{seen}
use Rattle.cp_frame.specs.Reader.{Reader, EndsWell, ReportsAtEnd}
use Rattle.cp_frame.proofs.Readers.{ends_well, reports_cut}
use Rattle.cp_frame.proofs.reader.FrameReader.finish.Goals as goal

pub returns-clause-reported : goal.returns-clause-reported
returns-clause-reported c =
    let s = c.self.inside.stream in
    let t = c.clear.new.self in
    let new = seen t.mode t.limits Failed t.rest in
    subst (λ (old : Reader). ReportsAtEnd old new Truncated) c.self.view_is
    (reports_cut s.mode s.limits c.self.inside.status s.rest new c.in_ok-go_on.ensures.ok.0 refl (λ none. true≢false (sym (c.is_blank.ensures.1 none) ∙ c.if-is_blank.false)))

pub returns-then-is_blank-clause-ok : goal.returns-then-is_blank-clause-ok
returns-then-is_blank-clause-ok c =
    let s = c.self.inside.stream in
    let reading = c.in_ok-go_on.ensures.ok in
    subst (λ (old : Reader). EndsWell old (seen s.mode s.limits c.go_on.new.self s.rest)) c.self.view_is
    (ends_well s.mode s.limits c.self.inside.status c.go_on.new.self s.rest reading.0 reading.1 (c.is_blank.ensures.0 c.if-is_blank.true))
