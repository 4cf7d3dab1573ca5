-- Which question gets which results, and how often. (rpc.capnp: "Return.takeFromOtherQuestion".)
use Rattle.std.specs.Prelude.{◌≡◌, ◌⊎◌, ℕ, ◌+◌, ◌==◌, Bool, false, cond, List, [], ◌∷◌, Option, None, is_some}
use Rattle.std.specs.FinMap.{get}
use Rattle.cp_tables.specs.declared.exchange.Stage.{Stage}
use Rattle.cp_messages.specs.declared.message.Message.TheVariants as messages
use Rattle.cp_messages.specs.declared.returned.Return.{Return}
use Rattle.cp_messages.specs.declared.returned.Returned.{Returned}
use Rattle.cp_messages.specs.declared.returned.Returned.TheVariants as returns
use Rattle.cp_tail_calls.specs.declared.forwarding.ForwardedMessage.{ForwardedMessage}
use Rattle.cp_tail_calls.specs.declared.forwarding.ForwardedMessage.TheVariants as owed
use Rattle.cp_tail_calls.specs.Runs.{Turn, came, went, passed, Did, TakesTurn}
use Rattle.cp_tail_calls.specs.Seen.{seen_from_here}
use Rattle.cp_tail_calls.specs.Tails.{Tails}

-- this is so of one of them
abbrev pub OneOf : (Turn → Type 0) → List Turn → Type 0
OneOf P [] = ⊥
OneOf P (turn ∷ past) = P turn ⊎ OneOf P past

-- the question took the results of the call
abbrev pub Takes : ℕ → ℕ → Turn → Type 0
Takes a q (came acts_on stage (messages.Return r) None) = (r.answer_id ≡ a) × (r.returned ≡ returns.TakeFromOtherQuestion q)
Takes a q other = ⊥

-- the vat returned this for the call
abbrev pub Returns : ℕ → Returned → Turn → Type 0
Returns q returned (went trigger (messages.Return r) on) = (r.answer_id ≡ q) × (r.returned ≡ returned)
Returns q returned other = ⊥

-- The Return is that of a question which took the results of a call, and has what the vat returned for this, as the peer would have sent it.
abbrev pub IsRight : List Turn → Return → Type 0
IsRight past r =
    (q : ℕ) × (returned : Returned) × OneOf (Takes r.answer_id q) past × OneOf (Returns q returned) past × (r.returned ≡ seen_from_here returned)

abbrev pub RightResults : Type 0
RightResults =
    (past : List Turn) (mid last : Tails) (stage : ℕ → Option Stage) (r : Return) → Did past mid
    → TakesTurn mid (passed stage (owed.ToVat (messages.Return r))) last → IsRight past r

-- a question took results, and a question was answered
abbrev pub is_taking : ℕ → Turn → Bool
is_taking a (came acts_on stage (messages.Return r) None) = r.answer_id == a
is_taking a other = false

abbrev pub is_return_of : ℕ → ForwardedMessage → Bool
is_return_of a (owed.ToVat (messages.Return r)) = r.answer_id == a
is_return_of a other = false

abbrev pub is_answering : ℕ → Turn → Bool
is_answering a (passed stage first) = is_return_of a first
is_answering a other = false

module _ {X : Type 0} where
  -- how many of them are so
  abbrev pub times : (X → Bool) → List X → ℕ
  times test [] = 0
  times test (x ∷ xs) = cond (test x) 1 0 + times test xs

-- a question waits for results that it took, or they are about to be passed on
abbrev pub waits : ℕ → Tails → ℕ
waits a t = cond (is_some (get t.takers a)) 1 0 + times (is_return_of a) t.owed

-- As often as a question took results it was answered, unless it waits.
abbrev pub AnsweredOnce : Type 0
AnsweredOnce = (past : List Turn) (last : Tails) (a : ℕ) → Did past last → times (is_taking a) past ≡ times (is_answering a) past + waits a last
