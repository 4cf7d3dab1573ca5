-- How far the calls are that a vat is to answer, and the questions of the application. (rpc.capnp: "Return", "Finish".)
use Rattle.std.specs.Prelude.{ℕ, Option, Some, None}
use Rattle.std.specs.FinMap.{get}
use Rattle.cp_tables.specs.declared.exchange.Exchange.{Exchange}
use Rattle.cp_tables.specs.declared.exchange.Stage.{Stage}
use Rattle.cp_refs.specs.declared.call.Origin.{Origin}
use Rattle.cp_refs.specs.declared.call.Origin.TheVariants as origins
use Rattle.cp_vat_machine.specs.State.{State}

-- the stage of an entry, if there is one
abbrev pub stage_if_there : {X : Type 0} → Option (Exchange X) → Option Stage
stage_if_there None = None
stage_if_there (Some entry) = Some entry.stage

-- the stage of a call by whom its outcome is for: the peer, under the number of an answer, or the application, which has a question
abbrev pub stage_at : State → Origin → Option Stage
stage_at s (origins.Answer a) = stage_if_there (get s.entries.answers a)
stage_at s (origins.Own q) = stage_if_there (get s.entries.questions q)
