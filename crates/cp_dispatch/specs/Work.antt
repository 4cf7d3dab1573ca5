-- A connection, with what is still to be done for its objects.
use Rattle.std.specs.Prelude.{◌≡◌, ◌≢◌, ℕ, ◌<◌, ◌≤◌, ◌+◌, ◌-◌, ◌*◌, ◌^◌, Bool, if◌then◌else◌, List, [], ◌∷◌, ◌++◌, Option, Some, None, Result, Ok, Err}
use Rattle.std.specs.FinMap.{get, insert, remove, empty}
use Rattle.cp_tables.specs.Table.{Table}
use Rattle.cp_refs.specs.declared.call.Origin.{Origin}
use Rattle.cp_refs.specs.declared.call.Origin.TheVariants as origins
use Rattle.cp_refs.specs.declared.cap.Cap.{Cap}
use Rattle.cp_refs.specs.declared.outcome.Outcome.{Outcome}
use Rattle.cp_vat_machine.specs.declared.event.Event.{Event}
use Rattle.cp_vat_machine.specs.declared.event.Event.TheVariants as events
use Rattle.cp_vat_machine.specs.declared.event.Value.{Value}
use Rattle.cp_vat_machine.specs.declared.event.Value.TheVariants as values
use Rattle.cp_vat_machine.specs.declared.fault.VatFault.{VatFault}
use Rattle.cp_vat_machine.specs.declared.fault.VatFault.TheVariants as refusals
use Rattle.cp_connection.specs.declared.fault.ConnectionFault.{ConnectionFault}
use Rattle.cp_connection.specs.declared.fault.ConnectionFault.TheVariants as faults
use Rattle.cp_connection.specs.declared.event.ConnectionEvent.{ConnectionEvent}
use Rattle.cp_connection.specs.Link.{Link}
use Rattle.cp_connection.specs.Doing.{Acts}
use Rattle.cp_connection.specs.Lives.{Life}
use Rattle.cp_dispatch.specs.declared.question_owner.QuestionOwner.{QuestionOwner}
use Rattle.cp_dispatch.specs.declared.event.SessionEvent.{SessionEvent}
use Rattle.cp_servants.specs.declared.servant.Reply.{Reply}
use Rattle.cp_servants.specs.declared.servant.Reply.TheVariants as replies
use Rattle.cp_servants.specs.Outcomes.{bad_outcome, named_imports}
use Rattle.cp_dispatch.specs.Holders.{holders, held_by_more, lowered}

-- The connection, whether objects may call, the calls whose objects answer later, by their tickets, the tickets of those of them that weren't given up, by their
-- origins, the calls that objects made, by their questions, those questions, by the calls' numbers, how many objects hold each import, how often results named
-- each to the program, which holds it so often, the imports that objects gave up and that none of them held then, and what is no object's business and wasn't
-- taken.
pub record Work : Type 0 where
  pub link : Link
  pub may_call : Bool
  pub awaited : Table Origin
  pub owed : Table ℕ
  pub asked : Table QuestionOwner
  pub questions : Table ℕ
  pub held : Table ℕ
  pub given : Table ℕ
  pub given_up : List ℕ
  pub notices : List SessionEvent

-- nothing is owed yet
abbrev pub begun : Bool → Link → Work
begun may_call link = record { link = link; may_call = may_call; awaited = empty; owed = empty; asked = empty; questions = empty; held = empty; given = empty; given_up = []; notices = [] }

-- Of the connection nothing was done but calls of the application, and that it was asked what happened: no byte of the peer was taken, and none written.
abbrev pub Lives : Link → Link → Type 0
Lives old new = (handed : List ConnectionEvent) × Life old [] [] handed new

-- an event more wasn't taken
abbrev pub Notes : SessionEvent → Work → Work → Type 0
Notes notice old new = new ≡ record old { notices = old.notices ++ notice ∷ [] }

-- An object is given these capabilities. Where objects may call, each import that they name has a holder more.
abbrev pub Holds : List Cap → Work → Work → Type 0
Holds caps old new = new ≡ record old { held = if old.may_call then held_by_more old.held (named_imports caps) else old.held }

-- The program is given these capabilities. Where objects may call, it holds each import that they name once more.
abbrev pub IsGiven : List Cap → Work → Work → Type 0
IsGiven caps old new = new ≡ record old { given = if old.may_call then held_by_more old.given (named_imports caps) else old.given }

-- an import more is to be released
abbrev pub Frees : ℕ → Work → Work → Type 0
Frees i old new = new ≡ record old { given_up = old.given_up ++ i ∷ [] }

-- An object gives an import up. If others hold it, there is one holder less; and else it is held no more, and is to be released.
pub data LetsGo (i : ℕ) (old new : Work) : Type 0 where
  others_hold : 1 < holders old.held i → new ≡ record old { held = insert old.held i (holders old.held i - 1) } → LetsGo i old new
  none_holds : holders old.held i ≤ 1 → Frees i (record old { held = remove old.held i }) new → LetsGo i old new

-- an object gives imports up, one after another
abbrev pub GivesUp : List ℕ → Work → Work → Type 0
GivesUp [] old new = new ≡ old
GivesUp (i ∷ more) old new = (mid : Work) × LetsGo i old mid × GivesUp more mid new

-- memory sufficed
abbrev pub HadMemory : Result Value ConnectionFault → Type 0
HadMemory (Ok value) = Unit {0}
HadMemory (Err fault) = fault ≢ faults.OutOfMemory

-- the connection had ended, and not for an allocation failure
abbrev pub IsEnd : ConnectionFault → Type 0
IsEnd faults.Closed = Unit {0}
IsEnd (faults.Unreadable at refusal) = Unit {0}
IsEnd faults.OutOfMemory = ⊥
IsEnd (faults.Refused refusal) = ⊥

-- A call of the application was made, whatever came of it, but that memory ran out.
pub record IsDone (old : Link) (event : Event) (new : Link) : Type 0 where
  pub result : Result Value ConnectionFault
  pub memory : HadMemory result
  pub acts : Acts old event result new

-- A call is answered: with its outcome; or not any more, as the connection ended; or, where the vat refuses that outcome, with an exception, if that isn't
-- refused too.
pub data Answers (old : Link) (origin : Origin) (outcome : Outcome) (new : Link) : Type 0 where
  is_taken : Acts old (events.Answer origin outcome) (Ok values.Nothing) new → Answers old origin outcome new
  had_ended : (fault : ConnectionFault) → IsEnd fault → Acts old (events.Answer origin outcome) (Err fault) new → Answers old origin outcome new
  is_replaced : (refusal : VatFault) (mid : Link) → Acts old (events.Answer origin outcome) (Err (faults.Refused refusal)) mid
      → IsDone mid (events.Answer origin bad_outcome) new → Answers old origin outcome new

-- the key of a call that is owed: the number of its answer, and where it is the application's, the number of its question past all answers
abbrev pub key_of : Origin → ℕ
key_of (origins.Answer answer) = answer
key_of (origins.Own question) = question + 2 ^ 32

-- the key of a call that an object made: the number of the object, and the call's number below
abbrev pub key_at : ℕ → ℕ → ℕ
key_at number call_id = number * 2 ^ 64 + call_id

abbrev pub key_by : QuestionOwner → ℕ
key_by owner = key_at owner.number owner.call_id

-- an object made a call, which is this question
abbrev pub asking : ℕ → QuestionOwner → Work → Work
asking question owner old = record old { asked = insert old.asked question owner; questions = insert old.questions (key_by owner) question }

-- its outcome isn't for an object any more
abbrev pub asking_no_more : ℕ → QuestionOwner → Work → Work
asking_no_more question owner old = record old { asked = remove old.asked question; questions = remove old.questions (key_by owner) }

-- the answer of a call is awaited
abbrev pub awaiting : Origin → ℕ → Work → Work
awaiting origin ticket old = record old { awaited = insert old.awaited ticket origin; owed = insert old.owed (key_of origin) ticket }

abbrev pub awaiting_no_more : Origin → ℕ → Work → Work
awaiting_no_more origin ticket old = record old { awaited = remove old.awaited ticket; owed = remove old.owed (key_of origin) }

-- The outcome of a question isn't for an object any more, if it was.
abbrev pub TakesAsked : ℕ → Work → Option QuestionOwner → Work → Type 0
TakesAsked question old (Some owner) new = (get old.asked question ≡ Some owner) × (new ≡ asking_no_more question owner old)
TakesAsked question old None new = (get old.asked question ≡ None) × (new ≡ old)

-- The answer of a call is awaited no more, if it was.
abbrev pub TakesAwaited : ℕ → Work → Option Origin → Work → Type 0
TakesAwaited ticket old (Some origin) new = (get old.awaited ticket ≡ Some origin) × (new ≡ awaiting_no_more origin ticket old)
TakesAwaited ticket old None new = (get old.awaited ticket ≡ None) × (new ≡ old)

-- What follows an object's answer to a call: at once the object gives imports up, and the call is answered with what its outcome means to the vat; later it
-- is awaited.
abbrev pub Replies : (Outcome → Outcome) → Work → Origin → ℕ → Reply → Work → Type 0
Replies means old origin ticket (replies.Now outcome gives_up) new =
    (mid : Work) × (link : Link) × GivesUp gives_up old mid × Answers mid.link origin (means outcome) link × (new ≡ record mid { link = link })
Replies means old origin ticket replies.Later new = new ≡ awaiting origin ticket old

-- An import whose release was refused stays if it is still in use, and else is dropped.
pub data Stays (i : ℕ) (refusal : VatFault) (old new : Work) : Type 0 where
  is_used : refusal ≡ refusals.InUse → Frees i old new → Stays i refusal old new
  is_dropped : refusal ≢ refusals.InUse → new ≡ old → Stays i refusal old new

-- An import that was given up is tried: it is released; or that is refused; or the connection had ended, and it is dropped.
pub data Tries (old : Work) (i : ℕ) (new : Work) : Type 0 where
  is_released : (link : Link) → Acts old.link (events.Release i) (Ok values.Nothing) link → new ≡ record old { link = link } → Tries old i new
  is_refused : (refusal : VatFault) (link : Link) → Acts old.link (events.Release i) (Err (faults.Refused refusal)) link
      → Stays i refusal (record old { link = link }) new → Tries old i new
  had_ended : (fault : ConnectionFault) (link : Link) → IsEnd fault → Acts old.link (events.Release i) (Err fault) link → new ≡ record old { link = link }
      → Tries old i new

-- An import that was given up is tried; but where an object holds it again, or the program does, it is dropped, until that gives it up.
pub data TriesUnheld (old : Work) (i : ℕ) (new : Work) : Type 0 where
  is_held : 1 ≤ holders old.held i → new ≡ old → TriesUnheld old i new
  is_given : 1 ≤ holders old.given i → new ≡ old → TriesUnheld old i new
  is_free : holders old.held i ≡ 0 → holders old.given i ≡ 0 → Tries old i new → TriesUnheld old i new

-- imports are tried one after another
abbrev pub TriesEach : Work → List ℕ → Work → Type 0
TriesEach old [] new = new ≡ old
TriesEach old (i ∷ more) new = (mid : Work) × TriesUnheld old i mid × TriesEach mid more new

-- All imports that were given up are tried, but for those that are held again. Those that are still in use stay.
abbrev pub Releases : Work → Work → Type 0
Releases old new = TriesEach (record old { given_up = [] }) old.given_up new

-- The program gives an import up that it holds once at most: then it holds it no more. Where it doesn't hold it, that is refused.
pub data Leaves (i : ℕ) (old : Work) (result : Result Value ConnectionFault) (new : Work) : Type 0 where
  leaves : 1 ≤ holders old.given i → result ≡ Ok values.Nothing → new ≡ record old { given = lowered old.given i } → Leaves i old result new
  is_anothers : holders old.given i ≡ 0 → result ≡ Err (faults.Refused refusals.InUse) → new ≡ old → Leaves i old result new

-- The program gives an import back. Where it holds it more than once it holds it once less, and where an object holds it too it is the object's alone: nothing
-- is sent. Else the connection is to release it: if it does, with the whole count, the program holds it no more.
pub data GivesBack (i : ℕ) (old : Work) (result : Result Value ConnectionFault) (new : Work) : Type 0 where
  holds_more : 1 < holders old.given i → result ≡ Ok values.Nothing → new ≡ record old { given = lowered old.given i } → GivesBack i old result new
  leaves_it : holders old.given i ≤ 1 → 1 ≤ holders old.held i → Leaves i old result new → GivesBack i old result new
  is_last : (link : Link) → holders old.given i ≤ 1 → holders old.held i ≡ 0 → Acts old.link (events.Release i) result link → result ≡ Ok values.Nothing
      → new ≡ record old { link = link; given = lowered old.given i } → GivesBack i old result new
  is_unreleased : (fault : ConnectionFault) (link : Link) → holders old.given i ≤ 1 → holders old.held i ≡ 0 → Acts old.link (events.Release i) result link → result ≡ Err fault
      → new ≡ record old { link = link } → GivesBack i old result new
