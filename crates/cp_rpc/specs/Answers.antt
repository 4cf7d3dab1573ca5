-- What a reading answered.
use Rattle.std.specs.Prelude.{◌≡◌, ◌⊎◌, List, [], ◌∷◌, Option, None, Some, Result, Ok, Err}
use Rattle.cp_tree.specs.Node.{Node}
use Rattle.cp_rpc.specs.Viewed.{viewed_message}
use Rattle.cp_messages.specs.declared.fault.SchemaFault.{SchemaFault}
use Rattle.cp_messages.specs.declared.fault.SchemaFault.TheVariants as faults
use Rattle.cp_messages.specs.declared.message.Message.{Message}
use Rattle.cp_rpc.specs.declared.message.MessageIn.{MessageIn}

-- the first of a list
abbrev pub first_of : List SchemaFault → Option SchemaFault
first_of [] = None
first_of (f ∷ fs) = Some f

-- There are no faults, and what was answered says what is said; or the first fault was answered.
abbrev pub Gives : {V X : Type 0} → (V → X) → X → List SchemaFault → Result V SchemaFault → Type 0
Gives viewed said faults (Ok v) = (faults ≡ []) × (viewed v ≡ said)
Gives viewed said faults (Err f) = first_of faults ≡ Some f

-- There are no faults; or the first fault was answered.
abbrev pub Checks : {V : Type 0} → List SchemaFault → Result V SchemaFault → Type 0
Checks faults (Ok done) = faults ≡ []
Checks faults (Err f) = first_of faults ≡ Some f

-- a view of this message was answered, over trees that are seen so
abbrev pub AnswersIn : {S : Type 0} → (S → Node) → Result (MessageIn S) SchemaFault → Message → Type 0
AnswersIn seen (Ok v) m = viewed_message seen v ≡ m
AnswersIn seen (Err fault) m = ⊥

-- a view of this message was answered
abbrev pub AnswersView : Result (MessageIn Node) SchemaFault → Message → Type 0
AnswersView result m = AnswersIn (λ t. t) result m

-- this message was answered, or memory ran out
abbrev pub Answers : Result Message SchemaFault → Message → Type 0
Answers (Ok x) m = x ≡ m
Answers (Err fault) m = fault ≡ faults.OutOfMemory

-- the fault is the first of these, or an allocation failure
abbrev pub IsFirstFault : List SchemaFault → SchemaFault → Type 0
IsFirstFault fs fault = (fault ≡ faults.OutOfMemory) ⊎ (first_of fs ≡ Some fault)
