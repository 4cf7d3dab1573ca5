-- A question is answered with the results of the call that it took them of.
use Rattle.std.proofs.Common.{◌≡◌, ℕ, Bool, true, false, ◌&&◌, if◌then◌else◌, List, [], ◌∷◌, ◌++◌, Option, Some, None, is_some, IfSome, refl, sym, ap, subst, inl, inr}
use Rattle.std.specs.List.{AllByRecursion}
use Rattle.std.specs.FinMap.{get, get-empty}
use Rattle.std.specs.Ordering.{nat_cmp}
use Rattle.cp_tables.specs.declared.exchange.Stage.{Stage}
use Rattle.cp_messages.specs.declared.call.Call.{Call}
use Rattle.cp_messages.specs.declared.message.Message.{Message}
use Rattle.cp_messages.specs.declared.message.Message.TheVariants as messages
use Rattle.cp_messages.specs.declared.returned.Return.{Return}
use Rattle.cp_messages.specs.declared.returned.Returned.{Returned}
use Rattle.cp_messages.specs.declared.returned.Returned.TheVariants as returns
use Rattle.cp_messages.specs.declared.small.Finish.{Finish}
use Rattle.cp_messages.specs.declared.small.Release.{Release}
use Rattle.cp_tail_calls.specs.declared.forwarding.ForwardedMessage.{ForwardedMessage}
use Rattle.cp_tail_calls.specs.declared.forwarding.ForwardedMessage.TheVariants as owed
use Rattle.cp_tail_calls.specs.declared.forwarding.Trigger.{Trigger}
use Rattle.cp_tail_calls.specs.declared.forwarding.Trigger.TheVariants as triggers
use Rattle.cp_tail_calls.specs.declared.progress.Progress.{Progress}
use Rattle.cp_tail_calls.specs.declared.progress.Progress.TheVariants as progress
use Rattle.cp_tail_calls.specs.declared.progress.Taker.{Taker}
use Rattle.cp_tail_calls.specs.Tails.{Tails, none}
use Rattle.cp_tail_calls.specs.Receiving.{Passed, is_to_sender, is_due, is_untaken, with_call, without_call, receive_returned, receive_finish_of, return_of_none, finish_taken, finish_of, finish_if, given, sent_elsewhere, taken, taker_by, let_go, received, goes_on}
use Rattle.cp_tail_calls.specs.Sending.{answered, calls_after, next_of, sent, send_release, send_return_of}
use Rattle.cp_tail_calls.specs.Runs.{Turn, came, went, passed, Did, TakesTurn}
use Rattle.cp_tail_calls.specs.Answering.{OneOf, Takes, Returns, IsRight, RightResults}
use Rattle.cp_tail_calls.proofs.Cases.{call_if, take_if}
use Rattle.cp_tail_calls.proofs.Entries.{Each, each-insert, each-remove, entry-of}

-- a call whose results a question takes: that question took them
abbrev TakenBefore : List Turn → ℕ → Progress → Type 0
TakenBefore past q (progress.Taken taker) = OneOf (Takes taker.question q) past
TakenBefore past q other = Unit {0}

-- results that are kept: the vat returned them
abbrev ReturnedBefore : List Turn → ℕ → Return → Type 0
ReturnedBefore past q r = OneOf (Returns q r.returned) past

-- what is passed on is right
abbrev IsOwedRight : List Turn → ForwardedMessage → Type 0
IsOwedRight past (owed.ToVat (messages.Return r)) = IsRight past r
IsOwedRight past other = Unit {0}

record Right (past : List Turn) (t : Tails) : Type 0 where
  calls : Each (TakenBefore past) t.calls
  results : Each (ReturnedBefore past) t.results
  owed : AllByRecursion (IsOwedRight past) t.owed

-- ---- the past goes on
module _ (turn : Turn) (past : List Turn) where
  call-later : (q : ℕ) (how : Progress) → TakenBefore past q how → TakenBefore (turn ∷ past) q how
  call-later q (progress.Taken taker) h = inr h
  call-later q progress.Untaken h = tt
  call-later q progress.Given h = tt
  call-later q progress.GivenUp h = tt

  option-later : {X : Type 0} (P Q : X → Type 0) → ((x : X) → P x → Q x) → (o : Option X) → IfSome o P → IfSome o Q
  option-later P Q f None h = tt
  option-later P Q f (Some x) h = f x h

  right-later : (r : Return) → IsRight past r → IsRight (turn ∷ past) r
  right-later r h = (h.0, h.1, inr h.2, inr h.3, h.4)

  owed-later : (o : ForwardedMessage) → IsOwedRight past o → IsOwedRight (turn ∷ past) o
  owed-later (owed.ToVat (messages.Return r)) h = right-later r h
  owed-later o h = tt

  all-later : (os : List ForwardedMessage) → AllByRecursion (IsOwedRight past) os → AllByRecursion (IsOwedRight (turn ∷ past)) os
  all-later [] h = tt
  all-later (o ∷ os) h = (owed-later o h.0, all-later os h.1)

  later : (t : Tails) → Right past t → Right (turn ∷ past) t
  later t h =
      record {
        calls = λ q. option-later (TakenBefore past q) (TakenBefore (turn ∷ past) q) (call-later q) (get t.calls q) (h.calls q);
        results = λ q. option-later (ReturnedBefore past q) (ReturnedBefore (turn ∷ past) q) (λ r one. inr one) (get t.results q) (h.results q);
        owed = all-later t.owed h.owed;
      }

all-append : {X : Type 0} (P : X → Type 0) (xs ys : List X) → AllByRecursion P xs → AllByRecursion P ys → AllByRecursion P (xs ++ ys)
all-append P [] ys hs h = h
all-append P (x ∷ xs) ys hs h = (hs.0, all-append P xs ys hs.1 h)

-- ---- what is kept changes
module _ (past : List Turn) where
  with-call : (t : Tails) (q : ℕ) (how : Progress) → Right past t → TakenBefore past q how → Right past (with_call t q how)
  with-call t q how h here = record { calls = each-insert (TakenBefore past) t.calls q how h.calls here; results = h.results; owed = h.owed }

  without-call : (t : Tails) (q : ℕ) → Right past t → Right past (without_call t q)
  without-call t q h = record { calls = each-remove (TakenBefore past) t.calls q h.calls; results = h.results; owed = h.owed }

  finish-right : (is_finished : Bool) (q : ℕ) → AllByRecursion (IsOwedRight past) (finish_if is_finished q)
  finish-right true q = (tt, tt)
  finish-right false q = tt

  new-call : (b : Bool) (t : Tails) (q : ℕ) → Right past t → Right past (if b then t else with_call t q progress.Untaken)
  new-call true t q h = h
  new-call false t q h = with-call t q progress.Untaken h tt

  call-right : (b : Bool) (t : Tails) (c : Call) → Right past t → Right past (call_if b t c).1
  call-right true t c h = new-call (is_some (get t.calls c.question_id)) t c.question_id h
  call-right false t c h = h

  -- a question takes results, which it did in the past
  taken-right : (t : Tails) (q : ℕ) (taker : Taker) (kept : Option Return) → get t.results q ≡ kept → Right past t → OneOf (Takes taker.question q) past
      → Right past (taken t q taker kept)
  taken-right t q taker None e h one =
      record { calls = each-insert (TakenBefore past) t.calls q (progress.Taken taker) h.calls one; results = h.results; owed = h.owed }
  taken-right t q taker (Some r) e h one =
      record {
        calls = each-insert (TakenBefore past) t.calls q progress.Given h.calls tt;
        results = each-remove (ReturnedBefore past) t.results q h.results;
        owed = all-append (IsOwedRight past) t.owed (owed.ToPeer (sent_elsewhere q r.release_param_caps) ∷ given q taker r.returned) h.owed (tt, ((q, r.returned, one, entry-of (ReturnedBefore past) t.results q r h.results e, refl), finish-right taker.is_finished q));
      }

  -- the vat returned a call whose results a question takes
  answered-right : (t : Tails) (q : ℕ) (taker : Taker) (returned : Returned) → Right past t → OneOf (Takes taker.question q) past → OneOf (Returns q returned) past
      → Right past (answered t q taker returned)
  answered-right t q taker returned h one two =
      record {
        calls = left taker.is_finished;
        results = h.results;
        owed = all-append (IsOwedRight past) t.owed (given q taker returned) h.owed ((q, returned, one, two, refl), finish-right taker.is_finished q);
      }
    where
      left : (b : Bool) → Each (TakenBefore past) (calls_after b t.calls q)
      left true = each-remove (TakenBefore past) t.calls q h.calls
      left false = each-insert (TakenBefore past) t.calls q progress.Given h.calls tt

  let-go-right : (t : Tails) (q : ℕ) (kept : Option Return) → Right past t → Right past (let_go t q kept)
  let-go-right t q None h = with-call t q progress.GivenUp h tt
  let-go-right t q (Some r) h =
      record {
        calls = each-remove (TakenBefore past) t.calls q h.calls;
        results = each-remove (ReturnedBefore past) t.results q h.results;
        owed = all-append (IsOwedRight past) t.owed (owed.ToPeer (sent_elsewhere q r.release_param_caps) ∷ []) h.owed (tt, tt);
      }

  finish-taken-right : (b : Bool) (t : Tails) (f : Finish) (taker : Taker) → taker.is_finished ≡ b → Right past t → OneOf (Takes taker.question f.question_id) past
      → Right past (finish_taken t f taker).1
  finish-taken-right true t f taker e h one =
      rw e (
      record {
        calls = h.calls;
        results = h.results;
        owed = all-append (IsOwedRight past) t.owed (owed.ToVat (messages.Finish (finish_of f.question_id)) ∷ []) h.owed (tt, tt);
      }
      )
  finish-taken-right false t f taker e h one = rw e (with-call t f.question_id (progress.Taken (record taker { is_finished = true })) h one)

  finish-of-right : (t : Tails) (f : Finish) (how : Option Progress) → get t.calls f.question_id ≡ how → Right past t → Right past (receive_finish_of t f how).1
  finish-of-right t f None e h = h
  finish-of-right t f (Some progress.Untaken) e h = let-go-right t f.question_id (get t.results f.question_id) h
  finish-of-right t f (Some (progress.Taken taker)) e h =
      finish-taken-right taker.is_finished t f taker refl h (entry-of (TakenBefore past) t.calls f.question_id (progress.Taken taker) h.calls e)
  finish-of-right t f (Some progress.Given) e h = without-call t f.question_id h
  finish-of-right t f (Some progress.GivenUp) e h = h

  return-of-right : (t : Tails) (r : Return) (how : Option Progress) → get t.calls r.answer_id ≡ how → Right past t → OneOf (Returns r.answer_id r.returned) past
      → Right past (send_return_of t r how).1
  return-of-right t r None e h one = h
  return-of-right t r (Some progress.Untaken) e h one =
      record { calls = h.calls; results = each-insert (ReturnedBefore past) t.results r.answer_id r h.results one; owed = h.owed }
  return-of-right t r (Some (progress.Taken taker)) e h one =
      answered-right t r.answer_id taker r.returned h (entry-of (TakenBefore past) t.calls r.answer_id (progress.Taken taker) h.calls e) one
  return-of-right t r (Some progress.Given) e h one = h
  return-of-right t r (Some progress.GivenUp) e h one = without-call t r.answer_id h

  release-right : (t : Tails) (r : Release) (trigger : Trigger) → Right past t → Right past (send_release t r trigger).1
  release-right t r triggers.Application h = record { calls = h.calls; results = h.results; owed = h.owed }
  release-right t r triggers.Message h = h

-- ---- a turn
module _ (past : List Turn) (acts_on : Call → Bool) (stage : ℕ → Option Stage) where
  -- what comes of a Return that may take results, by whether it does
  taking-right : (b : Bool) (t last : Tails) (r : Return) (q : ℕ) (on : Option Message) → r.returned ≡ returns.TakeFromOtherQuestion q → Right past t
      → take_if b t r q ≡ (on, last)
      → Right (came acts_on stage (messages.Return r) on ∷ past) last
  taking-right false t last r q on e h f =
      subst (λ (t : Tails). Right (came acts_on stage (messages.Return r) on ∷ past) t) (ap (λ (p : Passed). p.1) f) (later (came acts_on stage (messages.Return r) on) past t h)
  taking-right true t last r q on e h f =
      let none_on : None ≡ on = ap (λ (p : Passed). p.0) f in
      subst
      (λ (on : Option Message). Right (came acts_on stage (messages.Return r) on ∷ past) last)
      none_on
      (subst
      (λ (t : Tails). Right (came acts_on stage (messages.Return r) None ∷ past) t)
      (ap (λ (p : Passed). p.1) f)
      (taken-right (came acts_on stage (messages.Return r) None ∷ past) t q (taker_by r) (get t.results q) refl (later (came acts_on stage (messages.Return r) None) past t h) (inl (refl, e))))

  same-right : (turn : Turn) (t last : Tails) → Right past t → t ≡ last → Right (turn ∷ past) last
  same-right turn t last h e = subst (λ (t : Tails). Right (turn ∷ past) t) e (later turn past t h)

  returned-right : (t last : Tails) (r : Return) (returned : Returned) (on : Option Message) → r.returned ≡ returned → Right past t
      → receive_returned stage t r returned ≡ (on, last) → Right (came acts_on stage (messages.Return r) on ∷ past) last
  returned-right t last r (returns.TakeFromOtherQuestion q) on e h f = taking-right (is_due (stage r.answer_id) && is_untaken (get t.calls q)) t last r q on e h f
  returned-right t last r other on e h f = same-right (came acts_on stage (messages.Return r) on) t last h (ap (λ (p : Passed). p.1) f)

  any-return-right : (b : Bool) (t last : Tails) (r : Return) (on : Option Message) → Right past t
      → (if b then goes_on t (messages.Return return_of_none) else receive_returned stage t r r.returned) ≡ (on, last)
      → Right (came acts_on stage (messages.Return r) on ∷ past) last
  any-return-right true t last r on h f = same-right (came acts_on stage (messages.Return r) on) t last h (ap (λ (p : Passed). p.1) f)
  any-return-right false t last r on h f = returned-right t last r r.returned on refl h f

  came-right : (m : Message) (t last : Tails) (on : Option Message) → Right past t → received acts_on stage t m ≡ (on, last)
      → Right (came acts_on stage m on ∷ past) last
  came-right (messages.Call c) t last on h f =
      let turn = came acts_on stage (messages.Call c) on in
      subst (λ (t : Tails). Right (turn ∷ past) t) (ap (λ (p : Passed). p.1) f) (call-right (turn ∷ past) (is_to_sender c.send_results_to && acts_on c) t c (later turn past t h))
  came-right (messages.Return r) t last on h f = any-return-right (is_some (get t.takers r.answer_id)) t last r on h f
  came-right (messages.Finish x) t last on h f =
      let turn = came acts_on stage (messages.Finish x) on in
      subst (λ (t : Tails). Right (turn ∷ past) t) (ap (λ (p : Passed). p.1) f) (finish-of-right (turn ∷ past) t x (get t.calls x.question_id) refl (later turn past t h))
  came-right m t last on h f = same-right (came acts_on stage m on) t last h (ap (λ (p : Passed). p.1) f)

module _ (past : List Turn) (trigger : Trigger) where
  still-right : (turn : Turn) (t last : Tails) → Right past t → t ≡ last → Right (turn ∷ past) last
  still-right turn t last h e = subst (λ (t : Tails). Right (turn ∷ past) t) e (later turn past t h)

  went-right : (m : Message) (t last : Tails) (on : Option Message) → Right past t → sent t trigger m ≡ (on, last) → Right (went trigger m on ∷ past) last
  went-right (messages.Return r) t last on h f =
      let turn = went trigger (messages.Return r) on in
      subst (λ (t : Tails). Right (turn ∷ past) t) (ap (λ (p : Passed). p.1) f) (return-of-right (turn ∷ past) t r (get t.calls r.answer_id) refl (later turn past t h) (inl (refl, refl)))
  went-right (messages.Release r) t last on h f =
      let turn = went trigger (messages.Release r) on in
      subst (λ (t : Tails). Right (turn ∷ past) t) (ap (λ (p : Passed). p.1) f) (release-right (turn ∷ past) t r trigger (later turn past t h))
  went-right m t last on h f = still-right (went trigger m on) t last h (ap (λ (p : Passed). p.1) f)

some-injective : {X : Type 0} (x y : X) → Some x ≡ Some y → x ≡ y
some-injective x y e = cc

module _ (past : List Turn) (stage : ℕ → Option Stage) where
  -- what is passed on first was right, and what is left is
  passed-right : (os : List ForwardedMessage) (t last : Tails) (first : ForwardedMessage) → Right past t → AllByRecursion (IsOwedRight past) os → next_of stage t os ≡ (Some first, last)
      → IsOwedRight past first × Right past last
  passed-right [] t last first h all f = absurd (none≢some first (ap (λ (p : Option ForwardedMessage × Tails). p.0) f))
    where
      none≢some : (x : ForwardedMessage) → None ≡ Some x → ⊥
      none≢some x e = cc
  passed-right (o ∷ os) t last first h all f = (
    subst (λ (o : ForwardedMessage). IsOwedRight past o) (some-injective o first (ap (λ (p : Option ForwardedMessage × Tails). p.0) f)) all.0,
    subst (λ (t : Tails). Right past t) (ap (λ (p : Option ForwardedMessage × Tails). p.1) f) (record { calls = h.calls; results = h.results; owed = all.1 }),
  )

turn-right : (past : List Turn) (turn : Turn) (mid last : Tails) → Right past mid → TakesTurn mid turn last → Right (turn ∷ past) last
turn-right past (came acts_on stage m on) mid last h f = came-right past acts_on stage m mid last on h f
turn-right past (went trigger m on) mid last h f = went-right past trigger m mid last on h f
turn-right past (passed stage first) mid last h f = later (passed stage first) past last (passed-right past stage mid.owed mid last first h h.owed f).1

nothing-right : Right [] none
nothing-right = record { calls = λ q. rw (get-empty nat_cmp q) tt; results = λ q. rw (get-empty nat_cmp q) tt; owed = tt }

right : (past : List Turn) (last : Tails) → Did past last → Right past last
right [] last did = subst (λ (t : Tails). Right [] t) (sym did) nothing-right
right (turn ∷ past) last (mid, before, now) = turn-right past turn mid last (right past mid before) now

pub right_results : RightResults
right_results past mid last stage r did f =
    (passed-right past stage mid.owed mid last (owed.ToVat (messages.Return r)) (right past mid did) (right past mid did).owed f).0
