-- What tail calls owe the peer can be written, and so can what they send.
use Rattle.std.proofs.Common.{◌≡◌, ℕ, ◌&&◌, if◌then◌else◌, Bool, true, false, List, [], ◌∷◌, ◌++◌, Option, Some, None, IfSome, is_some, refl, ap, ◌∙◌, subst}
use Rattle.std.specs.FinMap.{get}
use Rattle.cp_tables.specs.declared.exchange.Stage.{Stage}
use Rattle.cp_messages.specs.declared.call.Call.{Call}
use Rattle.cp_messages.specs.declared.descriptor.Descriptor.TheVariants as descriptors
use Rattle.cp_messages.specs.declared.message.Message.{Message}
use Rattle.cp_messages.specs.declared.message.Message.TheVariants as messages
use Rattle.cp_messages.specs.declared.resolve.Resolution.{Resolution}
use Rattle.cp_messages.specs.declared.resolve.Resolution.TheVariants as resolutions
use Rattle.cp_messages.specs.declared.returned.Return.{Return}
use Rattle.cp_messages.specs.declared.returned.Returned.{Returned}
use Rattle.cp_messages.specs.declared.returned.Returned.TheVariants as returns
use Rattle.cp_messages.specs.declared.small.Finish.{Finish}
use Rattle.cp_messages.specs.declared.small.Release.{Release}
use Rattle.cp_vat_machine.specs.declared.effect.Effect.{Effect}
use Rattle.cp_vat_machine.specs.declared.effect.Effect.TheVariants as effects
use Rattle.cp_vat_laws.specs.Sizes.{IsWritable}
use Rattle.cp_tail_calls.specs.Receiving.{Passed, received, receive_call, receive_return, receive_returned, receive_finish_of, finish_taken, finish_if, given, goes_on, is_due, is_to_sender, is_untaken, let_go, return_of_none, sent_elsewhere, taken, taker_by, to_caller, with_new_call, with_call}
use Rattle.cp_tail_calls.specs.Sending.{sent, send_return_of, next_of, resolution_for}
use Rattle.cp_tail_calls.specs.Serving.{comes_of, passed_on, sends_first}
use Rattle.cp_tail_calls.specs.Tails.{Tails}
use Rattle.cp_tail_calls.specs.declared.forwarding.ForwardedMessage.{ForwardedMessage}
use Rattle.cp_tail_calls.specs.declared.forwarding.Trigger.{Trigger}
use Rattle.cp_tail_calls.specs.declared.forwarding.Trigger.TheVariants as triggers
use Rattle.cp_tail_calls.specs.declared.progress.Progress.{Progress}
use Rattle.cp_tail_calls.specs.declared.progress.Progress.TheVariants as progress
use Rattle.cp_tail_calls.specs.declared.progress.Taker.{Taker}
use Rattle.cp_connection.specs.Owing.{AreSendable, IsSendable, OwesSendable}

elsewhere_written : (q : ℕ) (release : Bool) → IsWritable (sent_elsewhere q release)
elsewhere_written q true = refl
elsewhere_written q false = refl

-- ---- what is sent

return_written : (t : Tails) (r : Return) (how : Option Progress) → IsWritable (messages.Return r) → IfSome (send_return_of t r how).0 IsWritable
return_written t r None h = h
return_written t r (Some progress.Untaken) h = tt
return_written t r (Some (progress.Taken taker)) h = elsewhere_written r.answer_id r.release_param_caps
return_written t r (Some progress.Given) h = h
return_written t r (Some progress.GivenUp) h = elsewhere_written r.answer_id r.release_param_caps

resolve_written : (p : ℕ) (resolution : Resolution) → IsWritable (messages.Resolve (record { promise_id = p; resolution = resolution }))
    → IsWritable (messages.Resolve (record { promise_id = p; resolution = resolution_for resolution }))
resolve_written p (resolutions.Cap descriptors.None) h = refl
resolve_written p (resolutions.Cap (descriptors.SenderHosted e)) h = h
resolve_written p (resolutions.Cap (descriptors.SenderPromise e)) h = h
resolve_written p (resolutions.Cap (descriptors.ReceiverHosted e)) h = h
resolve_written p (resolutions.Cap (descriptors.ReceiverAnswer answer)) h = h
resolve_written p (resolutions.Cap (descriptors.ThirdPartyHosted third)) h = h
resolve_written p (resolutions.Cap (descriptors.Unknown n)) h = h
resolve_written p (resolutions.Exception x) h = h
resolve_written p (resolutions.Unknown n) h = h

-- what is sent in the place of a message that can be written can be
pub sent_written : (t : Tails) (trigger : Trigger) (m : Message) → IsWritable m → IfSome (sent t trigger m).0 IsWritable
sent_written t trigger (messages.Return r) h = return_written t r (get t.calls r.answer_id) h
sent_written t triggers.Application (messages.Release r) h = refl
sent_written t triggers.Message (messages.Release r) h = h
sent_written t trigger (messages.Resolve r) h = resolve_written r.promise_id r.resolution h
sent_written t trigger (messages.Unimplemented x) h = h
sent_written t trigger (messages.Abort x) h = h
sent_written t trigger (messages.Call c) h = h
sent_written t trigger (messages.Finish f) h = h
sent_written t trigger (messages.Bootstrap b) h = h
sent_written t trigger (messages.Disembargo d) h = h
sent_written t trigger (messages.Other which body) h = h

-- ---- what is owed

owes_both : (a b : List ForwardedMessage) → AreSendable a → AreSendable b → AreSendable (a ++ b)
owes_both [] b h k = k
owes_both (first ∷ a) b h k = (h.0, owes_both a b h.1 k)

given_owes : (q : ℕ) (taker : Taker) (returned : Returned) → AreSendable (given q taker returned)
given_owes q taker returned = (tt, by taker.is_finished)
  where
    by : (b : Bool) → AreSendable (finish_if b q)
    by true = (tt, tt)
    by false = tt

abbrev Owes : Tails → Type 0
Owes t = AreSendable t.owed

if_owes : (b : Bool) (x y : Passed) → Owes x.1 → Owes y.1 → Owes (if b then x else y).1
if_owes true x y h k = h
if_owes false x y h k = k

-- as messages of the peer's come
taken_owes : (t : Tails) (q : ℕ) (taker : Taker) (results : Option Return) → Owes t → Owes (taken t q taker results)
taken_owes t q taker None h = h
taken_owes t q taker (Some r) h = owes_both t.owed _ h (elsewhere_written q r.release_param_caps, given_owes q taker r.returned)

call_if : (b : Bool) (x y : Call × Tails) → Owes x.1 → Owes y.1 → Owes (if b then x else y).1
call_if true x y h k = h
call_if false x y h k = k

tails_if : (b : Bool) (x y : Tails) → Owes x → Owes y → Owes (if b then x else y)
tails_if true x y h k = h
tails_if false x y h k = k

call_owes : (acts_on : Call → Bool) (t : Tails) (c : Call) → Owes t → Owes (receive_call acts_on t c).1
call_owes acts_on t c h =
    call_if (is_to_sender c.send_results_to && acts_on c) (to_caller c, with_new_call t c.question_id) (c, t)
    (tails_if (is_some (get t.calls c.question_id)) t (with_call t c.question_id progress.Untaken) h h) h

return_owes : (stage : ℕ → Option Stage) (t : Tails) (r : Return) → Owes t → Owes (receive_return stage t r).1
return_owes stage t r h = if_owes (is_some (get t.takers r.answer_id)) (goes_on t (messages.Return return_of_none)) (receive_returned stage t r r.returned) h (by r.returned)
  where
    by : (returned : Returned) → Owes (receive_returned stage t r returned).1
    by (returns.TakeFromOtherQuestion q) =
        if_owes (is_due (stage r.answer_id) && is_untaken (get t.calls q)) (None, taken t q (taker_by r) (get t.results q)) (goes_on t (messages.Return r)) (taken_owes t q (taker_by r) (get t.results q) h) h
    by (returns.Results p) = h
    by (returns.Exception x) = h
    by returns.Canceled = h
    by returns.ResultsSentElsewhere = h
    by (returns.AcceptFromThirdParty x) = h
    by (returns.Unknown n) = h

finish_owes : (t : Tails) (f : Finish) (how : Option Progress) → Owes t → Owes (receive_finish_of t f how).1
finish_owes t f None h = h
finish_owes t f (Some progress.Untaken) h = by (get t.results f.question_id)
  where
    by : (results : Option Return) → Owes (let_go t f.question_id results)
    by None = h
    by (Some r) = owes_both t.owed _ h (elsewhere_written f.question_id r.release_param_caps, tt)
finish_owes t f (Some (progress.Taken taker)) h = by taker.is_finished
  where
    by : (b : Bool) → Owes (finish_taken t f (record taker { is_finished = b })).1
    by true = owes_both t.owed _ h (tt, tt)
    by false = h
finish_owes t f (Some progress.Given) h = h
finish_owes t f (Some progress.GivenUp) h = h

pub received_owes : (acts_on : Call → Bool) (stage : ℕ → Option Stage) (t : Tails) (m : Message) → AreSendable t.owed → AreSendable (received acts_on stage t m).1.owed
received_owes acts_on stage t (messages.Call c) h = call_owes acts_on t c h
received_owes acts_on stage t (messages.Return r) h = return_owes stage t r h
received_owes acts_on stage t (messages.Finish f) h = finish_owes t f (get t.calls f.question_id) h
received_owes acts_on stage t (messages.Unimplemented x) h = h
received_owes acts_on stage t (messages.Abort x) h = h
received_owes acts_on stage t (messages.Resolve r) h = h
received_owes acts_on stage t (messages.Release r) h = h
received_owes acts_on stage t (messages.Bootstrap b) h = h
received_owes acts_on stage t (messages.Disembargo d) h = h
received_owes acts_on stage t (messages.Other which body) h = h

-- as the vat sends messages
sent_owes : (t : Tails) (trigger : Trigger) (m : Message) → Owes t → Owes (sent t trigger m).1
sent_owes t trigger (messages.Return r) h = by (get t.calls r.answer_id)
  where
    by : (how : Option Progress) → Owes (send_return_of t r how).1
    by None = h
    by (Some progress.Untaken) = h
    by (Some (progress.Taken taker)) = owes_both t.owed _ h (given_owes r.answer_id taker r.returned)
    by (Some progress.Given) = h
    by (Some progress.GivenUp) = h
sent_owes t triggers.Application (messages.Release r) h = h
sent_owes t triggers.Message (messages.Release r) h = h
sent_owes t trigger (messages.Resolve r) h = h
sent_owes t trigger (messages.Unimplemented x) h = h
sent_owes t trigger (messages.Abort x) h = h
sent_owes t trigger (messages.Call c) h = h
sent_owes t trigger (messages.Finish f) h = h
sent_owes t trigger (messages.Bootstrap b) h = h
sent_owes t trigger (messages.Disembargo d) h = h
sent_owes t trigger (messages.Other which body) h = h

first_owes : (on : Option Message) (rest : List Effect × Tails) → Owes rest.1 → Owes (sends_first on rest).1
first_owes None rest h = h
first_owes (Some m) rest h = h

passed_owes : (trigger : Trigger) (by : List Effect) (t : Tails) → Owes t → Owes (passed_on trigger t by).1
passed_owes trigger [] t h = h
passed_owes trigger (effects.Send m ∷ more) t h =
    first_owes (sent t trigger m).0 (passed_on trigger (sent t trigger m).1 more) (passed_owes trigger more (sent t trigger m).1 (sent_owes t trigger m h))
passed_owes trigger (effects.Deliver object origin ticket call ∷ more) t h = passed_owes trigger more t h
passed_owes trigger (effects.Settled question outcome ∷ more) t h = passed_owes trigger more t h
passed_owes trigger (effects.Closed reason ∷ more) t h = h

pub comes_owes : (trigger : Trigger) (t : Option Tails) (by : List Effect) → OwesSendable t → OwesSendable (comes_of trigger t by).1
comes_owes trigger None by h = tt
comes_owes trigger (Some t) by h = passed_owes trigger by t h

-- as what is owed is passed on
abbrev pub FirstSendable : Option ForwardedMessage → Type 0
FirstSendable None = Unit {0}
FirstSendable (Some first) = IsSendable first

pub next_owes : (stage : ℕ → Option Stage) (t : Tails) (all : List ForwardedMessage) → AreSendable all → AreSendable t.owed
    → FirstSendable (next_of stage t all).0 × AreSendable (next_of stage t all).1.owed
next_owes stage t [] h k = (tt, k)
next_owes stage t (first ∷ rest) h k = (h.0, h.1)

-- ---- the same, as functions say it

pub sends_writable : (t u : Tails) (trigger : Trigger) (m x : Message) (on : Option Message) → IsWritable m → sent t trigger m ≡ (on, u) → on ≡ Some x → IsWritable x
sends_writable t u trigger m x on h e is =
    subst (λ (o : Option Message). IfSome o IsWritable) (ap (λ (r : Passed). r.0) e ∙ is) (sent_written t trigger m h)

pub rest_owes : (stage : ℕ → Option Stage) (t mid : Tails) (on : Option ForwardedMessage) → AreSendable t.owed → next_of stage t t.owed ≡ (on, mid) → AreSendable mid.owed
rest_owes stage t mid on h e =
    subst (λ (x : Tails). AreSendable x.owed) (ap (λ (r : Option ForwardedMessage × Tails). r.1) e) (next_owes stage t t.owed h h).1

pub first_sendable : (stage : ℕ → Option Stage) (t mid : Tails) (on : Option ForwardedMessage) (first : ForwardedMessage) → AreSendable t.owed → next_of stage t t.owed ≡ (on, mid) → on ≡ Some first → IsSendable first
first_sendable stage t mid on first h e is =
    subst FirstSendable (ap (λ (r : Option ForwardedMessage × Tails). r.0) e ∙ is) (next_owes stage t t.owed h h).0
