use Rattle.std.proofs.Common.{◌≡◌, sym, subst, ap, ◌∙◌}
use Rattle.cp_stream.specs.declared.status.ReaderStatus.{ReaderStatus}
use Rattle.cp_stream.specs.declared.status.ReaderStatus.TheVariants as statuses
use Rattle.cp_stream.specs.declared.fault.Refusal.TheVariants as refusals
use Rattle.cp_stream.specs.declared.fault.StreamFault.TheVariants as faults
use Rattle.cp_stream.specs.Reader.{EndsWell, ReportsAtEnd, Reader}
use Rattle.cp_stream.specs.Kept.{seen}
use Rattle.cp_stream.proofs.Readers.{ends_well, reports_at_end}
use Rattle.cp_stream.proofs.reader.MessageReader.finish.Goals as goal

pub returns-in-Ok-clause-ok : goal.returns-in-Ok-clause-ok
returns-in-Ok-clause-ok c =
    let old : seen statuses.Reading c.self.inside.frames c.self.inside.at ≡ c.args.self.now = ap (λ (s : ReaderStatus). seen s c.self.inside.frames c.self.inside.at) (sym c.in-Reading.is) ∙ c.self.view_is in
    let all = ends_well c.self.inside.frames c.finish.new.self c.self.inside.at c.in-Ok.ensures.ok in
    subst (λ (s : ReaderStatus). EndsWell c.args.self.now (seen s c.finish.new.self c.self.inside.at)) (sym c.in-Reading.is) (subst (λ (r : Reader). EndsWell r (seen statuses.Reading c.finish.new.self c.self.inside.at)) old all)

pub returns-in-Err-clause-reported : goal.returns-in-Err-clause-reported
returns-in-Err-clause-reported c =
    let old : seen statuses.Reading c.self.inside.frames c.self.inside.at ≡ c.args.self.now = ap (λ (s : ReaderStatus). seen s c.self.inside.frames c.self.inside.at) (sym c.in-Reading.is) ∙ c.self.view_is in
    let all = reports_at_end c.self.inside.frames c.finish.new.self c.self.inside.at c.in-Err.fault c.in-Err.ensures.reported in
    rw (c.refused-in-Err.ensures) (subst (λ (r : Reader). ReportsAtEnd r (seen statuses.Failed c.finish.new.self c.self.inside.at) (faults.Refused c.self.inside.at (refusals.Frame c.in-Err.fault))) old all)
