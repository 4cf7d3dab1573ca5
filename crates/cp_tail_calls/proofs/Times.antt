-- A question that took results is answered once, or waits.
use Rattle.std.proofs.Common.{◌≡◌, ℕ, ◌+◌, ◌==◌, ◌&&◌, Bool, true, false, cond, if◌then◌else◌, List, [], ◌∷◌, ◌++◌, Option, Some, None, is_some, IfSome, refl, sym, ap, ◌∙◌, subst, inl, inr, arith, add_assoc, zero-add, add-zero, true≢false}
use Rattle.std.proofs.lemmas.Bool.{cases_eq}
use Rattle.std.proofs.lemmas.Bool.Decides.{nat_tests}
use Rattle.std.specs.FinMap.{get, insert, remove, get-empty}
use Rattle.std.specs.Ordering.{nat_cmp}
use Rattle.cp_tables.specs.Table.{Table}
use Rattle.cp_tables.specs.declared.exchange.Stage.{Stage}
use Rattle.cp_tables.proofs.TableLemmas.{get-insert_same, get-insert_other, get-remove_same, get-remove_other}
use Rattle.cp_messages.specs.declared.call.Call.{Call}
use Rattle.cp_messages.specs.declared.message.Message.{Message}
use Rattle.cp_messages.specs.declared.message.Message.TheVariants as messages
use Rattle.cp_messages.specs.declared.returned.Return.{Return}
use Rattle.cp_messages.specs.declared.returned.Returned.{Returned}
use Rattle.cp_messages.specs.declared.returned.Returned.TheVariants as returns
use Rattle.cp_messages.specs.declared.small.Finish.{Finish}
use Rattle.cp_messages.specs.declared.small.Release.{Release}
use Rattle.cp_tail_calls.specs.declared.forwarding.ForwardedMessage.{ForwardedMessage}
use Rattle.cp_tail_calls.specs.declared.forwarding.ForwardedMessage.TheVariants as owed
use Rattle.cp_tail_calls.specs.declared.forwarding.Trigger.{Trigger}
use Rattle.cp_tail_calls.specs.declared.forwarding.Trigger.TheVariants as triggers
use Rattle.cp_tail_calls.specs.declared.progress.Progress.{Progress}
use Rattle.cp_tail_calls.specs.declared.progress.Progress.TheVariants as progress
use Rattle.cp_tail_calls.specs.declared.progress.Taker.{Taker}
use Rattle.cp_tail_calls.specs.Tails.{Tails}
use Rattle.cp_tail_calls.specs.Receiving.{Passed, is_to_sender, is_due, is_untaken, with_call, goes_on, receive_returned, receive_finish_of, return_of_none, finish_taken, finish_of, finish_if, given, sent_elsewhere, taken, taker_by, let_go, received}
use Rattle.cp_tail_calls.specs.Sending.{calls_after, next_of, sent, send_release, send_return_of}
use Rattle.cp_tail_calls.specs.Runs.{Turn, came, went, passed, Did, TakesTurn}
use Rattle.cp_tail_calls.specs.Answering.{AnsweredOnce, is_answering, is_return_of, is_taking, times, waits}
use Rattle.cp_tail_calls.proofs.Cases.{call_if, take_if}
use Rattle.cp_tail_calls.proofs.Entries.{Each, each-insert, each-remove, entry-of}

-- a call that a question takes results of is that question's
abbrev IsTakers : Table ℕ → ℕ → Progress → Type 0
IsTakers takers q (progress.Taken taker) = get takers taker.question ≡ Some q
IsTakers takers q other = Unit {0}

abbrev Paired : Tails → Type 0
Paired t = Each (IsTakers t.takers) t.calls

-- what waits, by what it is kept in
abbrev waits_in : ℕ → Table ℕ → List ForwardedMessage → ℕ
waits_in a takers os = cond (is_some (get takers a)) 1 0 + times (is_return_of a) os

-- one more or less waits, as a turn takes results or answers
abbrev Balanced : ℕ → Tails → Turn → Tails → Type 0
Balanced a old turn new = cond (is_taking a turn) 1 0 + waits a old ≡ cond (is_answering a turn) 1 0 + waits a new

abbrev Good : ℕ → Tails → Turn → Tails → Type 0
Good a old turn new = Paired new × Balanced a old turn new

times-append : {X : Type 0} (test : X → Bool) (xs ys : List X) → times test (xs ++ ys) ≡ times test xs + times test ys
times-append test [] ys = sym (zero-add (times test ys))
times-append test (x ∷ xs) ys = ap (λ (n : ℕ). cond (test x) 1 0 + n) (times-append test xs ys) ∙ sym (add_assoc (cond (test x) 1 0) (times test xs) (times test ys))

equal : (i j : ℕ) → j ≡ i → (j == i) ≡ true
equal i j h = grind (arith, nat_tests)

differ : (i j : ℕ) → (j ≡ i → ⊥) → (j == i) ≡ false
differ i j h = grind (arith, nat_tests)

-- no Return is passed on by a Finish
finish-waits : (a q : ℕ) (b : Bool) → times (is_return_of a) (finish_if b q) ≡ 0
finish-waits a q true = refl
finish-waits a q false = refl

nothing-more : (k n m : ℕ) → m ≡ 0 → k + n ≡ k + (n + m)
nothing-more k n m h = omega arith

-- what is passed on besides changes nothing that waits
more-owed : (a : ℕ) (takers : Table ℕ) (os more : List ForwardedMessage) → times (is_return_of a) more ≡ 0 → waits_in a takers os ≡ waits_in a takers (os ++ more)
more-owed a takers os more h =
    nothing-more (cond (is_some (get takers a)) 1 0) (times (is_return_of a) os) (times (is_return_of a) more) h
    ∙ ap (λ (n : ℕ). cond (is_some (get takers a)) 1 0 + n) (sym (times-append (is_return_of a) os more))

module _ (a : ℕ) (t : Tails) (h : Paired t) where
  -- a turn that neither takes results nor answers, after which as much waits
  still : (turn : Turn) (new : Tails) → is_taking a turn ≡ false → is_answering a turn ≡ false → Paired new → waits a t ≡ waits a new → Good a t turn new
  still turn new e f paired same = (paired, rw (e, f) (ap (λ (n : ℕ). 0 + n) same))

  with-new : (q : ℕ) (b : Bool) → Paired (if b then t else with_call t q progress.Untaken)
  with-new q true = h
  with-new q false = each-insert (IsTakers t.takers) t.calls q progress.Untaken h tt

  with-new-waits : (q : ℕ) (b : Bool) → waits a t ≡ waits a (if b then t else with_call t q progress.Untaken)
  with-new-waits q true = refl
  with-new-waits q false = refl

  call-good : (c : Call) (b : Bool) → Paired (call_if b t c).1 × (waits a t ≡ waits a (call_if b t c).1)
  call-good c true = (with-new c.question_id (is_some (get t.calls c.question_id)), with-new-waits c.question_id (is_some (get t.calls c.question_id)))
  call-good c false = (h, refl)

  -- a taker that is new leaves the others theirs
  other-takers : (takers : Table ℕ) (b q k : ℕ) (how : Progress) → is_some (get takers b) ≡ false → IsTakers takers k how → IsTakers (insert takers b q) k how
  other-takers takers b q k (progress.Taken taker) free mine = get-insert_other takers b taker.question q (apart taker.question mine) ∙ mine
    where
      apart : (c : ℕ) → get takers c ≡ Some k → c ≡ b → ⊥
      apart c mine e = true≢false (sym (ap is_some (subst (λ (c : ℕ). get takers c ≡ Some k) e mine)) ∙ free)
  other-takers takers b q k progress.Untaken free mine = tt
  other-takers takers b q k progress.Given free mine = tt
  other-takers takers b q k progress.GivenUp free mine = tt

  each-other : (takers : Table ℕ) (b q : ℕ) → is_some (get takers b) ≡ false → (calls : Table Progress) → Each (IsTakers takers) calls → Each (IsTakers (insert takers b q)) calls
  each-other takers b q free calls all k = by (get calls k) (all k)
    where
      by : (o : Option Progress) → IfSome o (IsTakers takers k) → IfSome o (IsTakers (insert takers b q) k)
      by None one = tt
      by (Some how) one = other-takers takers b q k how free one

  -- a question that takes results which aren't there waits
  new-taker-waits : (b q : ℕ) (os : List ForwardedMessage) → is_some (get t.takers b) ≡ false → cond (b == a) 1 0 + waits_in a t.takers os ≡ 0 + waits_in a (insert t.takers b q) os
  new-taker-waits b q os free =
      elim (cases_eq b a) [
        | inl same ↦ rw (equal a b same) (one same)
        | inr other ↦ rw (differ a b other, get-insert_other t.takers b a q (λ e. other (sym e))) refl
      ]
    where
      sum : (n w : ℕ) → w ≡ 0 → 1 + (w + n) ≡ 0 + (1 + n)
      sum n w e = omega arith

      one : b ≡ a → 1 + waits_in a t.takers os ≡ 0 + waits_in a (insert t.takers b q) os
      one same =
          subst
          (λ (b : ℕ). is_some (get t.takers b) ≡ false → 1 + waits_in a t.takers os ≡ 0 + waits_in a (insert t.takers b q) os)
          (sym same)
          (λ free. rw (free, get-insert_same t.takers a q) (sum (times (is_return_of a) os) 0 refl))
          free

  -- results that are there are about to be passed on
  kept-waits : (c k n m : ℕ) → m ≡ 0 + (c + 0) → c + (k + n) ≡ 0 + (k + (n + m))
  kept-waits c k n m e = omega arith

  taken-good : (acts_on : Call → Bool) (stage : ℕ → Option Stage) (r : Return) (q : ℕ) (kept : Option Return) → is_some (get t.takers r.answer_id) ≡ false
      → Good a t (came acts_on stage (messages.Return r) None) (taken t q (taker_by r) kept)
  taken-good acts_on stage r q (Some x) free =
      let more : List ForwardedMessage = owed.ToPeer (sent_elsewhere q x.release_param_caps) ∷ given q (taker_by r) x.returned in
      let k : ℕ = cond (is_some (get t.takers a)) 1 0 in (
        each-insert (IsTakers t.takers) t.calls q progress.Given h tt,
        kept-waits (cond (r.answer_id == a) 1 0) k (times (is_return_of a) t.owed) (times (is_return_of a) more) refl
            ∙ ap (λ (n : ℕ). 0 + (k + n)) (sym (times-append (is_return_of a) t.owed more)),
      )
  taken-good acts_on stage r q None free = (
    each-insert (IsTakers (insert t.takers r.answer_id q)) t.calls q (progress.Taken (taker_by r)) (each-other t.takers r.answer_id q free t.calls h) (get-insert_same t.takers r.answer_id q),
    new-taker-waits r.answer_id q t.owed free,
  )

  module _ (acts_on : Call → Bool) (stage : ℕ → Option Stage) where
    abbrev CameGood : Message → Passed → Type 0
    CameGood m p = Good a t (came acts_on stage m p.0) p.1

    taking-good : (b : Bool) (r : Return) (q : ℕ) → is_some (get t.takers r.answer_id) ≡ false
        → CameGood (messages.Return r) (take_if b t r q)
    taking-good true r q free = taken-good acts_on stage r q (get t.results q) free
    taking-good false r q free = (h, refl)

    returned-good : (r : Return) (returned : Returned) → is_some (get t.takers r.answer_id) ≡ false → CameGood (messages.Return r) (receive_returned stage t r returned)
    returned-good r (returns.TakeFromOtherQuestion q) free = taking-good (is_due (stage r.answer_id) && is_untaken (get t.calls q)) r q free
    returned-good r other free = (h, refl)

    return-good : (r : Return) (b : Bool) → is_some (get t.takers r.answer_id) ≡ b
        → CameGood (messages.Return r) (if b then goes_on t (messages.Return return_of_none) else receive_returned stage t r r.returned)
    return-good r true some = (h, refl)
    return-good r false free = returned-good r r.returned free

  let-go-good : (q : ℕ) (kept : Option Return) → Paired (let_go t q kept) × (waits a t ≡ waits a (let_go t q kept))
  let-go-good q None = (each-insert (IsTakers t.takers) t.calls q progress.GivenUp h tt, refl)
  let-go-good q (Some r) = (each-remove (IsTakers t.takers) t.calls q h, more-owed a t.takers t.owed (owed.ToPeer (sent_elsewhere q r.release_param_caps) ∷ []) refl)

  finish-taken-good : (b : Bool) (f : Finish) (taker : Taker) → taker.is_finished ≡ b → get t.takers taker.question ≡ Some f.question_id
      → Paired (finish_taken t f taker).1 × (waits a t ≡ waits a (finish_taken t f taker).1)
  finish-taken-good true f taker e mine = rw e (h, more-owed a t.takers t.owed (owed.ToVat (messages.Finish (finish_of f.question_id)) ∷ []) refl)
  finish-taken-good false f taker e mine = rw e (each-insert (IsTakers t.takers) t.calls f.question_id (progress.Taken (record taker { is_finished = true })) h mine, refl)

  finish-good : (f : Finish) (how : Option Progress) → get t.calls f.question_id ≡ how → Paired (receive_finish_of t f how).1 × (waits a t ≡ waits a (receive_finish_of t f how).1)
  finish-good f None e = (h, refl)
  finish-good f (Some progress.Untaken) e = let-go-good f.question_id (get t.results f.question_id)
  finish-good f (Some (progress.Taken taker)) e =
      finish-taken-good taker.is_finished f taker refl (entry-of (IsTakers t.takers) t.calls f.question_id (progress.Taken taker) h e)
  finish-good f (Some progress.Given) e = (each-remove (IsTakers t.takers) t.calls f.question_id h, refl)
  finish-good f (Some progress.GivenUp) e = (h, refl)

  -- a taker that is answered leaves the others theirs
  left-takers : (b q k : ℕ) (how : Progress) → (k ≡ q → ⊥) → get t.takers b ≡ Some q → IsTakers t.takers k how → IsTakers (remove t.takers b) k how
  left-takers b q k (progress.Taken taker) other its mine = get-remove_other t.takers b taker.question apart ∙ mine
    where
      some-injective : Some k ≡ Some q → k ≡ q
      some-injective e = cc

      apart : taker.question ≡ b → ⊥
      apart e = other (some-injective (sym mine ∙ ap (λ (c : ℕ). get t.takers c) e ∙ its))
  left-takers b q k progress.Untaken other its mine = tt
  left-takers b q k progress.Given other its mine = tt
  left-takers b q k progress.GivenUp other its mine = tt

  left-paired : (is_finished : Bool) (b q : ℕ) → get t.takers b ≡ Some q → Each (IsTakers (remove t.takers b)) (calls_after is_finished t.calls q)
  left-paired true b q its k =
      elim (cases_eq k q) [
        | inl same ↦ rw (same, get-remove_same t.calls q) tt
        | inr other ↦ rw (get-remove_other t.calls q k other) (by other (get t.calls k) (h k))
      ]
    where
      by : (k ≡ q → ⊥) → (o : Option Progress) → IfSome o (IsTakers t.takers k) → IfSome o (IsTakers (remove t.takers b) k)
      by other None one = tt
      by other (Some how) one = left-takers b q k how other its one
  left-paired false b q its k =
      elim (cases_eq k q) [
        | inl same ↦ rw (same, get-insert_same t.calls q progress.Given) tt
        | inr other ↦ rw (get-insert_other t.calls q k progress.Given other) (by other (get t.calls k) (h k))
      ]
    where
      by : (k ≡ q → ⊥) → (o : Option Progress) → IfSome o (IsTakers t.takers k) → IfSome o (IsTakers (remove t.takers b) k)
      by other None one = tt
      by other (Some how) one = left-takers b q k how other its one

  -- what waited is about to be passed on
  answered-waits : (b q : ℕ) (os more : List ForwardedMessage) → get t.takers b ≡ Some q → times (is_return_of a) more ≡ cond (b == a) 1 0
      → waits_in a t.takers os ≡ waits_in a (remove t.takers b) (os ++ more)
  answered-waits b q os more its more-is =
      elim (cases_eq b a) [
        | inl same ↦ here same
        | inr other ↦ rw (times-append (is_return_of a) os more, more-is, differ a b other, get-remove_other t.takers b a (λ e. other (sym e)))
            (nothing-more (cond (is_some (get t.takers a)) 1 0) (times (is_return_of a) os) 0 refl)
      ]
    where
      sum : (n : ℕ) → 1 + n ≡ 0 + (n + 1)
      sum n = omega arith

      at : get t.takers a ≡ Some q → times (is_return_of a) more ≡ 1 → waits_in a t.takers os ≡ waits_in a (remove t.takers a) (os ++ more)
      at its one = rw (its, times-append (is_return_of a) os more, one, get-remove_same t.takers a) (sum (times (is_return_of a) os))

      here : b ≡ a → waits_in a t.takers os ≡ waits_in a (remove t.takers b) (os ++ more)
      here same =
          subst
          (λ (b : ℕ). get t.takers b ≡ Some q → times (is_return_of a) more ≡ cond (b == a) 1 0 → waits_in a t.takers os ≡ waits_in a (remove t.takers b) (os ++ more))
          (sym same)
          (λ its one. at its (one ∙ ap (λ (b : Bool). cond b 1 0) (equal a a refl)))
          its
          more-is

  given-times : (q : ℕ) (taker : Taker) (returned : Returned) → times (is_return_of a) (given q taker returned) ≡ cond (taker.question == a) 1 0
  given-times q taker returned = rw (finish-waits a q taker.is_finished) (add-zero (cond (taker.question == a) 1 0))

  send-good : (r : Return) (how : Option Progress) → get t.calls r.answer_id ≡ how → Paired (send_return_of t r how).1 × (waits a t ≡ waits a (send_return_of t r how).1)
  send-good r None e = (h, refl)
  send-good r (Some progress.Untaken) e = (h, refl)
  send-good r (Some (progress.Taken taker)) e =
      let its = entry-of (IsTakers t.takers) t.calls r.answer_id (progress.Taken taker) h e in
      (left-paired taker.is_finished taker.question r.answer_id its, answered-waits taker.question r.answer_id t.owed (given r.answer_id taker r.returned) its (given-times r.answer_id taker r.returned))
  send-good r (Some progress.Given) e = (h, refl)
  send-good r (Some progress.GivenUp) e = (each-remove (IsTakers t.takers) t.calls r.answer_id h, refl)

  release-good : (r : Release) (trigger : Trigger) → Paired (send_release t r trigger).1 × (waits a t ≡ waits a (send_release t r trigger).1)
  release-good r triggers.Application = (h, refl)
  release-good r triggers.Message = (h, refl)

  passed-good : (stage : ℕ → Option Stage) (os : List ForwardedMessage) (last : Tails) (first : ForwardedMessage) → t.owed ≡ os → next_of stage t os ≡ (Some first, last)
      → Good a t (passed stage first) last
  passed-good stage [] last first e f = absurd (none≢some (ap (λ (p : Option ForwardedMessage × Tails). p.0) f))
    where
      none≢some : None ≡ Some first → ⊥
      none≢some e = cc
  passed-good stage (o ∷ os) last first e f =
      subst
      (λ (o : ForwardedMessage). Good a t (passed stage o) last)
      (same (ap (λ (p : Option ForwardedMessage × Tails). p.0) f))
      (subst (λ (new : Tails). Good a t (passed stage o) new) (ap (λ (p : Option ForwardedMessage × Tails). p.1) f) (h, rw e (sum (cond (is_some (get t.takers a)) 1 0) (cond (is_return_of a o) 1 0) (times (is_return_of a) os))))
    where
      same : Some o ≡ Some first → o ≡ first
      same e = cc

      sum : (k c n : ℕ) → 0 + (k + (c + n)) ≡ c + (k + n)
      sum k c n = omega arith

module _ (a : ℕ) (t : Tails) (h : Paired t) where
  came-good : (acts_on : Call → Bool) (stage : ℕ → Option Stage) (m : Message) → CameGood a t h acts_on stage m (received acts_on stage t m)
  came-good acts_on stage (messages.Call c) =
      let it = call-good a t h c (is_to_sender c.send_results_to && acts_on c) in
      still a t h (came acts_on stage (messages.Call c) (received acts_on stage t (messages.Call c)).0) (received acts_on stage t (messages.Call c)).1 refl refl it.0 it.1
  came-good acts_on stage (messages.Return r) = return-good a t h acts_on stage r (is_some (get t.takers r.answer_id)) refl
  came-good acts_on stage (messages.Finish f) =
      let it = finish-good a t h f (get t.calls f.question_id) refl in
      still a t h (came acts_on stage (messages.Finish f) (received acts_on stage t (messages.Finish f)).0) (received acts_on stage t (messages.Finish f)).1 refl refl it.0 it.1
  came-good acts_on stage other = (h, refl)

  went-good : (trigger : Trigger) (m : Message) → Good a t (went trigger m (sent t trigger m).0) (sent t trigger m).1
  went-good trigger (messages.Return r) =
      let it = send-good a t h r (get t.calls r.answer_id) refl in
      still a t h (went trigger (messages.Return r) (sent t trigger (messages.Return r)).0) (sent t trigger (messages.Return r)).1 refl refl it.0 it.1
  went-good trigger (messages.Release r) =
      let it = release-good a t h r trigger in
      still a t h (went trigger (messages.Release r) (sent t trigger (messages.Release r)).0) (sent t trigger (messages.Release r)).1 refl refl it.0 it.1
  went-good trigger other = (h, refl)

turn-good : (a : ℕ) (turn : Turn) (mid last : Tails) → Paired mid → TakesTurn mid turn last → Good a mid turn last
turn-good a (came acts_on stage m on) mid last h f = subst (λ (p : Passed). Good a mid (came acts_on stage m p.0) p.1) f (came-good a mid h acts_on stage m)
turn-good a (went trigger m on) mid last h f = subst (λ (p : Passed). Good a mid (went trigger m p.0) p.1) f (went-good a mid h trigger m)
turn-good a (passed stage first) mid last h f = passed-good a mid h stage mid.owed last first refl f

sum-turn : (taking answering before_takes before_answers before_waits waits : ℕ) → before_takes ≡ before_answers + before_waits → taking + before_waits ≡ answering + waits
    → taking + before_takes ≡ answering + before_answers + waits
sum-turn taking answering before_takes before_answers before_waits waits e f = omega arith

-- what was taken and answered, and who takes what
answered : (a : ℕ) (past : List Turn) (last : Tails) → Did past last → Paired last × (times (is_taking a) past ≡ times (is_answering a) past + waits a last)
answered a [] last did = subst (λ (t : Tails). Paired t × (0 ≡ 0 + waits a t)) (sym did) ((λ q. rw (get-empty nat_cmp q) tt), rw (get-empty nat_cmp a) refl)
answered a (turn ∷ past) last (mid, before, now) =
    let old = answered a past mid before in
    let here = turn-good a turn mid last old.0 now in (
      here.0,
      sum-turn
          (cond (is_taking a turn) 1 0)
          (cond (is_answering a turn) 1 0)
          (times (is_taking a) past)
          (times (is_answering a) past)
          (waits a mid)
          (waits a last)
          old.1
          here.1,
    )

pub answered_once : AnsweredOnce
answered_once past last a did = (answered a past last did).1
