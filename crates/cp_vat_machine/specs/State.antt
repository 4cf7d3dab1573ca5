-- A vat's state, in five parts. (rpc.capnp: "Four Tables", "Call", "Resolve", "Disembargo".)
use Rattle.std.specs.Prelude.{ℕ, Bool, false, Option, option_map}
use Rattle.std.specs.Ordering.{nat_cmp}
use Rattle.std.specs.Cmp.Lexicographic.{slice_cmp}
use Rattle.std.specs.FinMap.{FinMap, get, empty}
use Rattle.std.specs.FinSet.{FinSet}
use Rattle.std.specs.FinSet as set
use Rattle.cp_tables.specs.Table.{Table}
use Rattle.cp_tables.specs.declared.counted.Counted.{Counted}
use Rattle.cp_tables.specs.declared.exchange.Exchange.{Exchange}
use Rattle.cp_refs.specs.At.{cap_at}
use Rattle.cp_refs.specs.Values.{ValueMaps}
use Rattle.cp_refs.specs.declared.cap.Cap.{Cap}
use Rattle.cp_refs.specs.declared.outcome.Outcome.{Outcome}
use Rattle.cp_refs.specs.declared.call.WaitingCall.{WaitingCall}
use Rattle.cp_refs.specs.declared.route.Gate.{Gate}
use Rattle.cp_refs.specs.declared.route.Gate.TheVariants as gates
use Rattle.cp_vat_machine.specs.declared.entry.AnswerEntry.{AnswerEntry}
use Rattle.cp_vat_machine.specs.declared.entry.QuestionEntry.{QuestionEntry}
use Rattle.cp_vat_machine.specs.declared.entry.ImportKind.{ImportKind}

-- The entries of questions and answers, each until both its Return and its Finish went by, and the promises that the application made.
pub record Exchanges : Type 0 where
  pub questions : Table (Exchange QuestionEntry)
  pub answers : Table (Exchange AnswerEntry)
  pub own_promises : FinSet nat_cmp

-- What was sent and taken, each as often as it was and wasn't released: exports with their capability, imports with their kind.
pub record Counts : Type 0 where
  pub exports : Table (Counted Cap)
  pub imports : Table (Counted ImportKind)

-- The gates that ended in this event, with what they gave: an answer or a question its outcome, a promise its value, an embargo what it led to.
pub record Over : Type 0 where
  pub answers : Table Outcome
  pub promises : Table Cap
  pub questions : Table Outcome
  pub embargoes : Table Cap

-- The calls that wait, one set, by their tickets; and the gates that ended.
pub record Waiting : Type 0 where
  pub calls : Table WaitingCall
  pub over : Over

-- The references that the application's calls were sent on before they came to something: an import by its number, a question's path by the
-- list of its question and its fields. With each is its embargo, once one was asked for. And the open embargoes, with what each leads to.
pub record Marks : Type 0 where
  pub imports : Table (Option ℕ)
  pub paths : FinMap (slice_cmp nat_cmp) (Option ℕ)
  pub embargoes : Table Cap

-- The five parts, the object that a Bootstrap gives, the ticket of the next call, and whether the vat is closed.
pub record State : Type 0 where
  pub values : ValueMaps
  pub entries : Exchanges
  pub counts : Counts
  pub waiting : Waiting
  pub marks : Marks
  pub bootstrap : Option ℕ
  pub next_ticket : ℕ
  pub is_closed : Bool

-- what a gate that ended gave
abbrev pub gave : Over → Gate → Option Cap
gave over (gates.Answer a path) = option_map (λ outcome. cap_at outcome path) (get over.answers a)
gave over (gates.Promise p) = get over.promises p
gave over (gates.Question q path) = option_map (λ outcome. cap_at outcome path) (get over.questions q)
gave over (gates.Embargo n) = get over.embargoes n

-- no gate has ended
abbrev pub none_over : Over
none_over = record { answers = empty; promises = empty; questions = empty; embargoes = empty }

-- a new vat: nothing was sent, taken or called
abbrev pub new_state : Option ℕ → State
new_state bootstrap =
    record {
      values = record { promises = empty; imports = empty; answers = empty; questions = empty };
      entries = record { questions = empty; answers = empty; own_promises = set.empty };
      counts = record { exports = empty; imports = empty };
      waiting = record { calls = empty; over = none_over };
      marks = record { imports = empty; paths = empty; embargoes = empty };
      bootstrap = bootstrap;
      next_ticket = 0;
      is_closed = false;
    }

-- the state with other exports, questions, answers or ended gates
abbrev pub with_exports : State → Table (Counted Cap) → State
with_exports s exports = record s { counts = record s.counts { exports = exports } }

abbrev pub with_questions : State → Table (Exchange QuestionEntry) → State
with_questions s questions = record s { entries = record s.entries { questions = questions } }

abbrev pub with_answers : State → Table (Exchange AnswerEntry) → State
with_answers s answers = record s { entries = record s.entries { answers = answers } }

abbrev pub with_over : State → Over → State
with_over s over = record s { waiting = record s.waiting { over = over } }
