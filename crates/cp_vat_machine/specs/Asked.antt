-- How far the questions are that a vat asked of its peer. (rpc.capnp: "Finish".)
use Rattle.std.specs.Prelude.{ℕ, Bool, true, false, Option, Some, None}
use Rattle.std.specs.FinMap.{get}
use Rattle.cp_tables.specs.declared.exchange.Exchange.{Exchange}
use Rattle.cp_tables.specs.declared.exchange.Stage.{Stage}
use Rattle.cp_vat_machine.specs.State.{State}
use Rattle.cp_vat_machine.specs.declared.entry.QuestionEntry.{QuestionEntry}

-- a question whose Call or Bootstrap was sent is at a stage
abbrev pub stage_if : Bool → Stage → Option Stage
stage_if true stage = Some stage
stage_if false stage = None

abbrev pub stage_by : Option (Exchange QuestionEntry) → Option Stage
stage_by None = None
stage_by (Some entry) = stage_if entry.kept.is_sent entry.stage

-- the stage of the question under this number, if the peer was asked it
abbrev pub stage_of : State → ℕ → Option Stage
stage_of s q = stage_by (get s.entries.questions q)
