-- The references that the ends of a connection gave each other, and the marks of the rules by whose calls they came.
use Rattle.std.specs.Prelude.{ℕ, min, nat_lt, nat_le, ◌+◌, ◌-◌, ◌^◌, ◌==◌, ◌&&◌, Bool, true, false, if◌then◌else◌, List, [], ◌∷◌, length, Option, Some, None}
use Rattle.std.specs.Option.{option_map}
use Rattle.std.specs.FinMap.{get, insert, remove, empty, len}
use Rattle.std.specs.Int.RustNames.{bit_and, bit_or}
use Rattle.cp_tables.specs.Table.{Table}
use Rattle.cp_messages.specs.declared.target.Target.{Target}
use Rattle.cp_messages.specs.declared.target.Target.TheVariants as targets
use Rattle.cp_messages.specs.declared.descriptor.Descriptor.{Descriptor}
use Rattle.cp_messages.specs.declared.descriptor.Descriptor.TheVariants as descriptors
use Rattle.cp_messages.specs.declared.returned.Returned.{Returned}
use Rattle.cp_messages.specs.declared.returned.Returned.TheVariants as returns
use Rattle.cp_messages.specs.declared.resolve.Resolution.{Resolution}
use Rattle.cp_messages.specs.declared.resolve.Resolution.TheVariants as resolutions
use Rattle.cp_messages.specs.declared.small.Finish.{Finish}
use Rattle.cp_relay.specs.declared.references.Given.{Given}
use Rattle.cp_relay.specs.declared.references.QuestionStage.{QuestionStage}
use Rattle.cp_relay.specs.declared.references.QuestionStage.TheVariants as stages
use Rattle.cp_relay.specs.declared.references.Question.{Question}
use Rattle.cp_relay.specs.declared.references.Side.{Side}
use Rattle.cp_relay.specs.declared.references.References.{References}

-- what an end gave that sent nothing
abbrev pub no_side : Bool → Side
no_side shares = record { shares = shares; given = empty; questions = empty; calls = empty; kept = 0 }

-- The references of a connection on which nothing was sent. One of the callee's has the marks of each way by which it was given, one of the caller's those that all ways share.
abbrev pub no_references : References
no_references = record { caller = no_side true; callee = no_side false }

-- the number that a descriptor gives: that of an object of its sender, or of a promise
abbrev pub hosted_number : Descriptor → Option ℕ
hosted_number (descriptors.SenderHosted id) = Some id
hosted_number (descriptors.SenderPromise id) = Some id
hosted_number descriptors.None = None
hosted_number (descriptors.ReceiverHosted id) = None
hosted_number (descriptors.ReceiverAnswer answer) = None
hosted_number (descriptors.ThirdPartyHosted tree) = None
hosted_number (descriptors.Unknown number) = None

abbrev pub first_if : Option ℕ → List ℕ → List ℕ
first_if (Some id) ids = id ∷ ids
first_if None ids = ids

-- the numbers that a table gives
abbrev pub hosted_numbers : List Descriptor → List ℕ
hosted_numbers [] = []
hosted_numbers (d ∷ table) = first_if (hosted_number d) (hosted_numbers table)

-- the numbers that a Return gives: those of its results
abbrev pub returned_numbers : Returned → List ℕ
returned_numbers (returns.Results payload) = hosted_numbers payload.cap_table
returned_numbers (returns.Exception exception) = []
returned_numbers returns.Canceled = []
returned_numbers returns.ResultsSentElsewhere = []
returned_numbers (returns.TakeFromOtherQuestion question) = []
returned_numbers (returns.AcceptFromThirdParty tree) = []
returned_numbers (returns.Unknown number) = []

-- the number that a promise's resolution gives
abbrev pub resolved_number : Resolution → Option ℕ
resolved_number (resolutions.Cap d) = hosted_number d
resolved_number (resolutions.Exception exception) = None
resolved_number (resolutions.Unknown number) = None

-- a number is given once more, with these marks beside those that it has, or with those alone that are among both
abbrev pub given_more : Bool → Option Given → ℕ → Given
given_more shares (Some g) marks = record { count = min (g.count + 1) (2 ^ 32 - 1); marks = if shares then bit_and g.marks marks else bit_or g.marks marks }
given_more shares None marks = record { count = 1; marks = marks }

abbrev pub raised : Bool → Table Given → ℕ → ℕ → Table Given
raised shares given id marks = insert given id (given_more shares (get given id) marks)

abbrev pub raised_all : Bool → Table Given → ℕ → List ℕ → Table Given
raised_all shares given marks [] = given
raised_all shares given marks (id ∷ ids) = raised_all shares (raised shares given id marks) marks ids

-- A number is given back so often. At the last time it is free, and whatever is given under it later has other marks.
abbrev pub lowered_by : Table Given → ℕ → ℕ → Option Given → Table Given
lowered_by given id n (Some g) = if nat_lt n g.count then insert given id (record g { count = g.count - n }) else remove given id
lowered_by given id n None = given

abbrev pub lowered : Table Given → ℕ → ℕ → Table Given
lowered given id n = lowered_by given id n (get given id)

abbrev pub lowered_all : Table Given → List ℕ → Table Given
lowered_all given [] = given
lowered_all given (id ∷ ids) = lowered_all (lowered given id 1) ids

-- given back where that is said
abbrev pub lowered_if : Bool → Table Given → List ℕ → Table Given
lowered_if true given ids = lowered_all given ids
lowered_if false given ids = given

-- The marks of what a call to this end goes to, if it gave that: of a number, or of what a question's results give.
abbrev pub marks_of : Side → Target → Option ℕ
marks_of side (targets.ImportedCap id) = option_map (λ g. g.marks) (get side.given id)
marks_of side (targets.PromisedAnswer answer) = option_map (λ q. q.marks) (get side.questions answer.question_id)
marks_of side (targets.Unknown number) = None

-- how many references of an end are kept at most, and how many questions and numbers beside them
abbrev pub most_kept : ℕ
most_kept = 65536

abbrev pub has_room : Side → ℕ → Bool
has_room side n = nat_le n (most_kept - side.kept) && nat_le n (most_kept - len side.given)

-- a question that isn't answered has come so far
abbrev pub noted : Side → ℕ → ℕ → QuestionStage → Side
noted side question marks stage = record side { questions = insert side.questions question (record { stage = stage; marks = marks; numbers = [] }) }

-- a question is asked, whose results give what has these marks
abbrev pub opened : Side → ℕ → ℕ → Side
opened side question marks = noted (record side { kept = side.kept + 1 }) question marks stages.Open

-- a question is over, and what its results gave is given back if that is said
abbrev pub closed_by : Side → ℕ → Bool → Option Question → Side
closed_by side question release (Some q) =
    record side { given = lowered_if release side.given q.numbers; questions = remove side.questions question; kept = side.kept - 1 - length q.numbers }
closed_by side question release None = side

abbrev pub closed : Side → ℕ → Bool → Side
closed side question release = closed_by side question release (get side.questions question)

-- params of a call give references under these numbers, with these marks
abbrev pub lent : Side → ℕ → ℕ → List ℕ → Side
lent side call marks numbers =
    if length numbers == 0 then side
    else record side { given = raised_all side.shares side.given marks numbers; calls = insert side.calls call numbers; kept = side.kept + length numbers }

-- a call is answered, and what its params gave is given back if that is said
abbrev pub answered_by : Side → ℕ → Bool → Option (List ℕ) → Side
answered_by side call release (Some numbers) = record side { given = lowered_if release side.given numbers; calls = remove side.calls call; kept = side.kept - length numbers }
answered_by side call release None = side

abbrev pub answered : Side → ℕ → Bool → Side
answered side call release = answered_by side call release (get side.calls call)

abbrev pub finished_stage : Bool → QuestionStage
finished_stage release = if release then stages.Released else stages.Finished

-- A Finish goes. After the Return the question is over. Before it, it says what becomes of what the results will give; a second one gives that back.
abbrev pub finished_at : Side → Finish → ℕ → QuestionStage → Side
finished_at side finish marks stages.Returned = closed side finish.question_id finish.release_result_caps
finished_at side finish marks stages.Open = noted side finish.question_id marks (finished_stage finish.release_result_caps)
finished_at side finish marks stages.Finished = noted side finish.question_id marks stages.Released
finished_at side finish marks stages.Released = noted side finish.question_id marks stages.Released

abbrev pub finished_by : Side → Finish → Option Question → Side
finished_by side finish (Some q) = finished_at side finish q.marks q.stage
finished_by side finish None = side

abbrev pub finished : Side → Finish → Side
finished side finish = finished_by side finish (get side.questions finish.question_id)
