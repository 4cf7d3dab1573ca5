-- What comes of a message by whether it is one of a tail call.
use Rattle.std.proofs.Common.{ℕ, Bool, if◌then◌else◌, None}
use Rattle.std.specs.FinMap.{get}
use Rattle.cp_messages.specs.declared.call.Call.{Call}
use Rattle.cp_messages.specs.declared.message.Message.TheVariants as messages
use Rattle.cp_messages.specs.declared.returned.Return.{Return}
use Rattle.cp_tail_calls.specs.Receiving.{Passed, goes_on, taken, taker_by, to_caller, with_new_call}
use Rattle.cp_tail_calls.specs.Tails.{Tails}

abbrev pub call_if : Bool → Tails → Call → Call × Tails
call_if b t c = if b then (to_caller c, with_new_call t c.question_id) else (c, t)

abbrev pub take_if : Bool → Tails → Return → ℕ → Passed
take_if b t r q = if b then (None, taken t q (taker_by r) (get t.results q)) else goes_on t (messages.Return r)
