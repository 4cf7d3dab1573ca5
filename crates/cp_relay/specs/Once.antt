-- A question that is refused is answered once, and remembered up to its Finish, which goes nowhere.
use Rattle.std.specs.Prelude.{◌≡◌, ◌⊎◌, ℕ, Bool, Some, None}
use Rattle.std.specs.FinMap.{get}
use Rattle.cp_messages.specs.declared.message.Message.{Message}
use Rattle.cp_messages.specs.declared.message.Message.TheVariants as messages
use Rattle.cp_relay.specs.declared.rules.Rules.{Rules}
use Rattle.cp_relay.specs.declared.state.GuardState.{GuardState}
use Rattle.cp_relay.specs.declared.ruling.Cause.{Cause}
use Rattle.cp_relay.specs.declared.ruling.Ruling.{Ruling}
use Rattle.cp_relay.specs.declared.ruling.Ruling.TheVariants as rulings
use Rattle.cp_relay.specs.Answer.{answer_of}
use Rattle.cp_relay.specs.Judged.{judged}

-- the caller gets this answer
abbrev pub Replies : Message → Ruling → Type 0
Replies answer (rulings.Answers m) = answer ≡ m
Replies answer rulings.Passes = ⊥
Replies answer (rulings.Changes m) = ⊥
Replies answer rulings.Drops = ⊥
Replies answer (rulings.Closes breach) = ⊥

-- the message goes nowhere, and its sender gets nothing
abbrev pub IsDropped : Ruling → Type 0
IsDropped rulings.Drops = Unit {0}
IsDropped rulings.Passes = ⊥
IsDropped (rulings.Changes m) = ⊥
IsDropped (rulings.Answers m) = ⊥
IsDropped (rulings.Closes breach) = ⊥

-- a message asks this question
abbrev pub Asks : Message → ℕ → Type 0
Asks (messages.Call call) question = call.question_id ≡ question
Asks (messages.Bootstrap bootstrap) question = bootstrap.question_id ≡ question
Asks other question = ⊥

-- a message is the Finish of this question
abbrev pub Finishes : Message → ℕ → Type 0
Finishes (messages.Finish finish) question = finish.question_id ≡ question
Finishes other question = ⊥

-- The answer is that of the question that the message asks. It wasn't refused before, and is remembered.
pub record AnswersFor (rules : Rules) (old : GuardState) (m answer : Message) (new : GuardState) : Type 0 where
  pub question : ℕ
  pub elsewhere : Bool
  pub cause : Cause
  pub asks : Asks m question
  pub answer_is : answer ≡ answer_of rules question elsewhere cause
  pub first : get old.refused question ≡ None
  pub remembered : get new.refused question ≡ Some cause

-- The message is the Finish of a question that was refused, which is forgotten.
pub record Forgets (old : GuardState) (m : Message) (new : GuardState) : Type 0 where
  pub question : ℕ
  pub cause : Cause
  pub finishes : Finishes m question
  pub refused : get old.refused question ≡ Some cause
  pub forgotten : get new.refused question ≡ None

-- only a question that is refused is answered by the guard, and then it is remembered
abbrev pub AnsweredOnce : Type 0
AnsweredOnce = (rules : Rules) (s : GuardState) (m answer : Message) → Replies answer (judged rules s m).ruling → AnswersFor rules s m answer (judged rules s m).state

-- only the Finish of a question that was refused is dropped, and then it is forgotten
abbrev pub DropsFinishes : Type 0
DropsFinishes = (rules : Rules) (s : GuardState) (m : Message) → IsDropped (judged rules s m).ruling → Forgets s m (judged rules s m).state

-- up to its Finish a question that was refused is remembered, with its reason
abbrev pub Remembers : Type 0
Remembers = (rules : Rules) (s : GuardState) (m : Message) (question : ℕ) (cause : Cause) → get s.refused question ≡ Some cause → get (judged rules s m).state.refused question ≡ Some cause ⊎ Finishes m question
