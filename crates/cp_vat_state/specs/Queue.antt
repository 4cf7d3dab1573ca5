-- The calls that wait, with the ticket of the next call.
use Rattle.std.specs.Prelude.{◌≡◌, refl, ℕ, Option, MatchOption}
use Rattle.std.specs.Coded.{Coded, code_by, coded×, coded_ℕ}
use Rattle.std.specs.FinMap as map
use Rattle.cp_tables.specs.Table.{Table}
use Rattle.cp_refs.specs.declared.cap.Cap.{Cap}
use Rattle.cp_refs.specs.contracts.cap.Cap as cap
use Rattle.cp_refs.specs.declared.outcome.Outcome.{Outcome}
use Rattle.cp_refs.specs.contracts.outcome.Outcome as outcome
use Rattle.cp_refs.specs.declared.call.WaitingCall.{WaitingCall}
use Rattle.cp_refs.specs.contracts.call.WaitingCall as held
use Rattle.cp_vat_machine.specs.State.{Over, Waiting}
use Rattle.cp_vat_state.specs.declared.gates.Next.{Next}

-- the calls that wait and the gates that ended, and the ticket of the next call
pub record Queue : Type 0 where
  pub waiting : Waiting
  pub next_ticket : ℕ

-- the queue with other calls, or with other gates that ended
abbrev pub with_calls : Queue → Table WaitingCall → Queue
with_calls q calls = record q { waiting = record q.waiting { calls = calls } }

abbrev pub with_over : Queue → Over → Queue
with_over q over = record q { waiting = record q.waiting { over = over } }

-- the call that was found was taken out, if one was
abbrev pub TakesOut : Queue → Option Next → Queue → Type 0
TakesOut old next new = MatchOption next (new ≡ old) (λ found. new ≡ with_calls old (map.remove old.waiting.calls found.call.ticket))

-- they are stored as their parts
abbrev table_code : {X : Type 0} → Coded X → Coded (Table X)
table_code code = map.code coded_ℕ code

abbrev pub over_code : Coded Over
over_code =
    code_by
    (Table Outcome × (Table Cap × (Table Outcome × Table Cap)))
    (coded× (table_code outcome.the_row.coded) (coded× (table_code cap.the_row.coded) (coded× (table_code outcome.the_row.coded) (table_code cap.the_row.coded))))
    (λ o. (o.answers, (o.promises, (o.questions, o.embargoes))))
    (λ parts. record { answers = parts.0; promises = parts.1.0; questions = parts.1.1.0; embargoes = parts.1.1.1 })
    (λ _. refl)

abbrev pub queue_code : Coded Queue
queue_code =
    code_by
    (Table WaitingCall × (Over × ℕ))
    (coded× (table_code held.the_row.coded) (coded× over_code coded_ℕ))
    (λ q. (q.waiting.calls, (q.waiting.over, q.next_ticket)))
    (λ parts. record { waiting = record { calls = parts.0; over = parts.1.0 }; next_ticket = parts.1.1 })
    (λ _. refl)
