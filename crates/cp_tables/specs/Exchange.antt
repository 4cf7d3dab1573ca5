-- An entry of the questions or the answers. (rpc.capnp: `QuestionId`, `AnswerId`, "Return", "Finish".)
use Rattle.std.specs.Prelude.{◌≡◌, ℕ, zero, suc, Bool, true, false, Result, Ok, Err, IsSomeAnd, refl}
use Rattle.std.specs.Coded.{Coded, code_by, coded×, coded_ℕ}
use Rattle.std.specs.FinMap.{get}
use Rattle.std.proofs.Common.{ap}
use Rattle.cp_tables.specs.Table.{Table, with_change}
use Rattle.cp_tables.specs.declared.exchange.Exchange.{Exchange}
use Rattle.cp_tables.specs.declared.exchange.Stage.{Stage}
use Rattle.cp_tables.specs.declared.exchange.Stage.TheVariants.{Open, Returned, Finished}
use Rattle.cp_tables.specs.declared.fault.TableFault.{TableFault}
use Rattle.cp_tables.specs.declared.fault.TableFault.TheVariants.{Taken}

-- a stage is stored as its place among the three
abbrev pub stage_number : Stage → ℕ
stage_number Open = 0
stage_number Returned = 1
stage_number Finished = 2

abbrev pub stage_of : ℕ → Stage
stage_of zero = Open
stage_of (suc zero) = Returned
stage_of (suc (suc n)) = Finished

pub stage_of-stage_number : (stage : Stage) → stage_of (stage_number stage) ≡ stage
stage_of-stage_number Open = refl
stage_of-stage_number Returned = refl
stage_of-stage_number Finished = refl

module _ {X : Type 0} where
  -- an entry is stored as the pair of its parts
  abbrev pub exchange_code : Coded X → Coded (Exchange X)
  exchange_code code =
      code_by
      (ℕ × X)
      (coded× coded_ℕ code)
      (λ entry. (stage_number entry.stage, entry.kept))
      (λ parts. record { stage = stage_of parts.0; kept = parts.1 })
      (λ entry. ap (λ stage. record entry { stage = stage }) (stage_of-stage_number entry.stage))

  -- a new entry has neither note
  abbrev pub new_exchange : X → Exchange X
  new_exchange kept = record { stage = Open; kept = kept }

  -- there is an entry under this number, at this stage
  abbrev pub HasStage : Table (Exchange X) → ℕ → Stage → Type 0
  HasStage table id stage = IsSomeAnd (get table id) (λ entry. entry.stage ≡ stage)

  -- the table with the entry under this number at this stage
  abbrev pub with_stage : Table (Exchange X) → ℕ → Stage → Table (Exchange X)
  with_stage table id stage = with_change table id (λ entry. record entry { stage = stage })

  -- the table with this kept with the entry under this number
  abbrev pub with_kept : Table (Exchange X) → ℕ → X → Table (Exchange X)
  with_kept table id kept = with_change table id (λ entry. record entry { kept = kept })

-- Whether an entry goes by a Return, or why it isn't noted.
abbrev pub return_outcome : Stage → Result Bool TableFault
return_outcome Open = Ok false
return_outcome Returned = Err Taken
return_outcome Finished = Ok true

-- Whether an entry goes by a Finish, or why it isn't noted.
abbrev pub finish_outcome : Stage → Result Bool TableFault
finish_outcome Open = Ok false
finish_outcome Returned = Ok true
finish_outcome Finished = Err Taken

-- An open entry has the note from now on, and any other stays.
abbrev pub stage_after : Stage → Stage → Stage
stage_after Open note = note
stage_after Returned note = Returned
stage_after Finished note = Finished
