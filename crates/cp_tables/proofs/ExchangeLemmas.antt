-- Notes of questions and answers.
use Rattle.std.proofs.Common.{◌≡◌, ℕ, Err, Some, refl, sym}
use Rattle.std.specs.FinMap.{get, insert}
use Rattle.cp_tables.specs.Table.{Table}
use Rattle.cp_tables.specs.Exchange.{HasStage, with_stage, return_outcome, finish_outcome, stage_after}
use Rattle.cp_tables.specs.declared.exchange.Exchange.{Exchange}
use Rattle.cp_tables.specs.declared.exchange.Stage.{Stage}
use Rattle.cp_tables.specs.declared.exchange.Stage.TheVariants.{Open, Returned, Finished}
use Rattle.cp_tables.specs.declared.fault.TableFault.{TableFault}
use Rattle.cp_tables.proofs.TableLemmas.{insert-same, with_change_at}

-- a Return that isn't noted changes nothing
pub refused_return : (stage : Stage) (fault : TableFault) → Err fault ≡ return_outcome stage → stage_after stage Returned ≡ stage
refused_return Open fault h = cc
refused_return Returned fault h = refl
refused_return Finished fault h = refl

-- a Finish that isn't noted changes nothing
pub refused_finish : (stage : Stage) (fault : TableFault) → Err fault ≡ finish_outcome stage → stage_after stage Finished ≡ stage
refused_finish Open fault h = cc
refused_finish Returned fault h = refl
refused_finish Finished fault h = refl

module _ {X : Type 0} (table : Table (Exchange X)) (id : ℕ) (entry new : Exchange X) (note : Stage) (is : new ≡ record entry { stage = stage_after entry.stage note }) where
  -- a note that isn't taken leaves the table as it was
  pub note_refused : Some entry ≡ get table id → stage_after entry.stage note ≡ entry.stage → insert table id new ≡ table
  note_refused there same = rw (is, same) (insert-same table id entry (sym there))

  -- the first note stays with the entry
  pub note_first : Some entry ≡ get table id → HasStage table id Open → insert table id new ≡ with_stage table id note
  note_first there was =
      let stage : entry.stage ≡ Open = rw (sym there) at was in
      rw (is, stage) (with_change_at table id entry (λ e. record e { stage = note }) (sym there))
