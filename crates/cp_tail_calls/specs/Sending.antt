-- What comes of a message that the vat sends, and what is passed on after it. (rpc.capnp: "Return.resultsSentElsewhere", "Release", "Resolve".)
use Rattle.std.specs.Prelude.{ℕ, ◌+◌, ◌-◌, ◌^◌, min, Bool, if◌then◌else◌, List, [], ◌∷◌, ◌++◌, Option, Some, None}
use Rattle.std.specs.Option.{option_map_or}
use Rattle.std.specs.FinMap.{get, insert, remove}
use Rattle.cp_tables.specs.Table.{Table}
use Rattle.cp_tables.specs.declared.exchange.Stage.{Stage}
use Rattle.cp_tables.specs.declared.exchange.Stage.TheVariants as stages
use Rattle.cp_messages.specs.declared.descriptor.Descriptor.{Descriptor}
use Rattle.cp_messages.specs.declared.descriptor.Descriptor.TheVariants as descriptors
use Rattle.cp_messages.specs.declared.message.Message.{Message}
use Rattle.cp_messages.specs.declared.message.Message.TheVariants as messages
use Rattle.cp_messages.specs.declared.resolve.Resolution.{Resolution}
use Rattle.cp_messages.specs.declared.resolve.Resolution.TheVariants as resolutions
use Rattle.cp_messages.specs.declared.returned.Return.{Return}
use Rattle.cp_messages.specs.declared.returned.Returned.{Returned}
use Rattle.cp_messages.specs.declared.returned.Returned.TheVariants as returns
use Rattle.cp_messages.specs.declared.small.Release.{Release}
use Rattle.cp_refs.specs.At.{null_capability}
use Rattle.cp_tail_calls.specs.declared.forwarding.ForwardedMessage.{ForwardedMessage}
use Rattle.cp_tail_calls.specs.declared.forwarding.ForwardedMessage.TheVariants as owed
use Rattle.cp_tail_calls.specs.declared.progress.Progress.{Progress}
use Rattle.cp_tail_calls.specs.declared.progress.Progress.TheVariants as progress
use Rattle.cp_tail_calls.specs.declared.progress.Taker.{Taker}
use Rattle.cp_tail_calls.specs.declared.forwarding.Trigger.{Trigger}
use Rattle.cp_tail_calls.specs.declared.forwarding.Trigger.TheVariants as triggers
use Rattle.cp_tail_calls.specs.Receiving.{Passed, goes_on, without_call, sent_elsewhere, given}
use Rattle.cp_tail_calls.specs.Tails.{Tails}

-- the call's results were taken: it stays until it is finished
abbrev pub calls_after : Bool → Table Progress → ℕ → Table Progress
calls_after is_finished calls q = if is_finished then remove calls q else insert calls q progress.Given

-- the question that takes the results of a call gets them
abbrev pub answered : Tails → ℕ → Taker → Returned → Tails
answered t q taker returned =
    record t { calls = calls_after taker.is_finished t.calls q; takers = remove t.takers taker.question; owed = t.owed ++ given q taker returned }

-- The Return of a call with results to its sender is kept until a question takes them. The peer learns only that they were sent elsewhere, and only then.
abbrev pub send_return_of : Tails → Return → Option Progress → Passed
send_return_of t r (Some progress.Untaken) = (None, record t { results = insert t.results r.answer_id r })
send_return_of t r (Some (progress.Taken taker)) = (Some (sent_elsewhere r.answer_id r.release_param_caps), answered t r.answer_id taker r.returned)
send_return_of t r (Some progress.GivenUp) = (Some (sent_elsewhere r.answer_id r.release_param_caps), without_call t r.answer_id)
send_return_of t r other = goes_on t (messages.Return r)

abbrev pub send_return : Tails → Return → Passed
send_return t r = send_return_of t r (get t.calls r.answer_id)

-- A Release by the application gives an import's whole count back, of which the peer doesn't count what was lent.
abbrev pub send_release : Tails → Release → Trigger → Release × Tails
send_release t r triggers.Application = (
  record r { reference_count = r.reference_count - option_map_or (λ n. n) (get t.lent r.id) 0 },
  record t { lent = remove t.lent r.id },
)
send_release t r triggers.Message = (r, t)

-- a promise that came to no capability is broken
abbrev pub resolution_for : Resolution → Resolution
resolution_for (resolutions.Cap descriptors.None) = resolutions.Exception null_capability
resolution_for other = other

-- what comes of a message that the vat sends, by what led to it
abbrev pub sent : Tails → Trigger → Message → Passed
sent t trigger (messages.Return r) = send_return t r
sent t trigger (messages.Release r) = (Some (messages.Release (send_release t r trigger).0), (send_release t r trigger).1)
sent t trigger (messages.Resolve r) = goes_on t (messages.Resolve (record r { resolution = resolution_for r.resolution }))
sent t trigger other = goes_on t other

-- each import that a table names as its sender's counts one more (up to the most that a count can be)
abbrev pub lent_one : Table ℕ → Descriptor → Table ℕ
lent_one lent (descriptors.SenderHosted i) = insert lent i (min (option_map_or (λ n. n) (get lent i) 0 + 1) (2 ^ 32 - 1))
lent_one lent other = lent

abbrev pub lent_all : Table ℕ → List Descriptor → Table ℕ
lent_all lent [] = lent
lent_all lent (d ∷ table) = lent_all (lent_one lent d) table

-- results lend the vat what they name as the peer's, while it looks at them: the question that gets them is open
abbrev pub lent_by : Table ℕ → Returned → Option Stage → Table ℕ
lent_by lent (returns.Results p) (Some stages.Open) = lent_all lent p.cap_table
lent_by lent other stage = lent

abbrev pub lent_with : (ℕ → Option Stage) → Table ℕ → ForwardedMessage → Table ℕ
lent_with stage lent (owed.ToVat (messages.Return r)) = lent_by lent r.returned (stage r.answer_id)
lent_with stage lent other = lent

-- what is passed on first, and what is kept then
abbrev pub next_of : (ℕ → Option Stage) → Tails → List ForwardedMessage → Option ForwardedMessage × Tails
next_of stage t [] = (None, t)
next_of stage t (first ∷ rest) = (Some first, record t { owed = rest; lent = lent_with stage t.lent first })
