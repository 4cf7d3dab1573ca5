-- What is looked for among the capabilities that are kept.
use Rattle.std.specs.Prelude.{◌==◌, ◌+◌, ◌*◌, ℕ, Bool, false, List, [], Option, Some, None}
use Rattle.cp_refs.specs.Contents.{question_memory}
use Rattle.cp_refs.specs.declared.cap.Cap.{Cap}
use Rattle.cp_refs.specs.declared.cap.Cap.TheVariants as caps
use Rattle.cp_refs.specs.declared.route.Gate.{Gate}
use Rattle.cp_refs.specs.declared.route.Gate.TheVariants as gates
use Rattle.cp_refs.specs.declared.values.QuestionState.{QuestionState}
use Rattle.cp_vat_machine.specs.InUse.{is_import, is_object, is_promise, is_pipelined_of, caps_given}
use Rattle.cp_vat_state.specs.declared.sought.Sought.{Sought}
use Rattle.cp_vat_state.specs.declared.sought.Sought.TheVariants as sought

-- the capability is what is looked for
abbrev pub is_sought : Sought → Cap → Bool
is_sought (sought.Import i) = is_import i
is_sought (sought.Promise p) = is_promise p
is_sought (sought.Object k) = is_object k
is_sought (sought.PathOf q) = is_pipelined_of q

-- the number under which it is counted
abbrev pub key_of : Sought → ℕ
key_of (sought.Import i) = 4 * i
key_of (sought.Promise p) = 4 * p + 1
key_of (sought.Object k) = 4 * k + 2
key_of (sought.PathOf q) = 4 * q + 3

-- what a capability is found as
abbrev pub named_by : Cap → Option Sought
named_by (caps.Import i) = Some (sought.Import i)
named_by (caps.Promise p) = Some (sought.Promise p)
named_by (caps.Object k) = Some (sought.Object k)
named_by (caps.Pipelined q path) = Some (sought.PathOf q)
named_by other = None

-- what a call waits for at a gate
abbrev pub awaited_at : Gate → Option Sought
awaited_at (gates.Promise p) = Some (sought.Promise p)
awaited_at (gates.Question q path) = Some (sought.PathOf q)
awaited_at other = None

-- they are the same import, promise or question
abbrev pub is_same : Sought → Sought → Bool
is_same (sought.Import i) (sought.Import j) = j == i
is_same (sought.Promise p) (sought.Promise q) = q == p
is_same (sought.Object k) (sought.Object j) = j == k
is_same (sought.PathOf q) (sought.PathOf p) = p == q
is_same s other = false

-- it is what is named
abbrev pub is_named : Sought → Option Sought → Bool
is_named s None = false
is_named s (Some other) = is_same s other

-- the capabilities of what a question came to, and the memory that it takes
abbrev pub question_caps : Option QuestionState → List Cap
question_caps None = []
question_caps (Some question) = caps_given question.outcome

abbrev pub asked_memory : Option QuestionState → ℕ
asked_memory None = 0
asked_memory (Some question) = question_memory question
