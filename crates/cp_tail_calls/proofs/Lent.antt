-- What results lent of an import is taken off the count that the application gives back.
use Rattle.std.proofs.Common.{◌≡◌, ℕ, ◌+◌, ◌-◌, ◌^◌, ◌<◌, ◌==◌, min, Bool, true, false, if◌then◌else◌, List, [], ◌∷◌, Option, Some, None, is_some, refl, sym, ap, add-zero, ◌&&◌, ◌∙◌, subst, inl, inr, arith}
use Rattle.std.proofs.lemmas.Bool.{cases_eq}
use Rattle.std.proofs.lemmas.Bool.Decides.{nat_tests}
use Rattle.std.specs.Option.{option_map_or}
use Rattle.std.specs.FinMap.{get, remove, get-empty}
use Rattle.std.specs.Ordering.{nat_cmp}
use Rattle.cp_tables.specs.Table.{Table}
use Rattle.cp_tables.specs.declared.exchange.Stage.{Stage}
use Rattle.cp_tables.specs.declared.exchange.Stage.TheVariants as stages
use Rattle.cp_tables.proofs.TableLemmas.{get-insert_same, get-insert_other, get-remove_same, get-remove_other}
use Rattle.cp_messages.specs.declared.call.Call.{Call}
use Rattle.cp_messages.specs.declared.descriptor.Descriptor.{Descriptor}
use Rattle.cp_messages.specs.declared.descriptor.Descriptor.TheVariants as descriptors
use Rattle.cp_messages.specs.declared.message.Message.{Message}
use Rattle.cp_messages.specs.declared.message.Message.TheVariants as messages
use Rattle.cp_messages.specs.declared.returned.Return.{Return}
use Rattle.cp_messages.specs.declared.returned.Returned.{Returned}
use Rattle.cp_messages.specs.declared.returned.Returned.TheVariants as returns
use Rattle.cp_messages.specs.declared.small.Finish.{Finish}
use Rattle.cp_tail_calls.specs.declared.forwarding.ForwardedMessage.{ForwardedMessage}
use Rattle.cp_tail_calls.specs.declared.forwarding.ForwardedMessage.TheVariants as owed
use Rattle.cp_tail_calls.specs.declared.forwarding.Trigger.{Trigger}
use Rattle.cp_tail_calls.specs.declared.forwarding.Trigger.TheVariants as triggers
use Rattle.cp_tail_calls.specs.declared.progress.Progress.{Progress}
use Rattle.cp_tail_calls.specs.declared.progress.Progress.TheVariants as progress
use Rattle.cp_tail_calls.specs.declared.progress.Taker.{Taker}
use Rattle.cp_tail_calls.specs.Tails.{Tails}
use Rattle.cp_tail_calls.specs.Receiving.{Passed, is_to_sender, is_due, is_untaken, with_call, goes_on, receive_returned, receive_finish_of, return_of_none, finish_taken, taken, taker_by, let_go, received}
use Rattle.cp_tail_calls.specs.Sending.{lent_all, lent_by, lent_one, lent_with, next_of, sent, send_return_of}
use Rattle.cp_tail_calls.specs.Runs.{Turn, came, went, passed, Did, TakesTurn}
use Rattle.cp_tail_calls.proofs.Cases.{call_if, take_if}
use Rattle.cp_tail_calls.specs.Lending.{names, named, lends, lent_since, TakesBack}

-- how often an import is lent, as it is kept
abbrev count : Table ℕ → ℕ → ℕ
count lent i = option_map_or (λ n. n) (get lent i) 0

-- ---- a table lends what it names
equal : (i j : ℕ) → j ≡ i → (j == i) ≡ true
equal i j h = grind (arith, nat_tests)

differ : (i j : ℕ) → (j ≡ i → ⊥) → (j == i) ≡ false
differ i j h = grind (arith, nat_tests)

one-more : (n : ℕ) → n + 1 < 2 ^ 32 → min (n + 1) (2 ^ 32 - 1) ≡ n + 1
one-more n h = omega arith

module _ (i : ℕ) where
  -- an import that is named counts one more
  named-here : (lent : Table ℕ) → count lent i + 1 < 2 ^ 32 → count (lent_one lent (descriptors.SenderHosted i)) i ≡ count lent i + 1
  named-here lent h = rw (get-insert_same lent i (min (count lent i + 1) (2 ^ 32 - 1))) (one-more (count lent i) h)

  named-there : (lent : Table ℕ) (j : ℕ) → (j ≡ i → ⊥) → count (lent_one lent (descriptors.SenderHosted j)) i ≡ count lent i
  named-there lent j other = rw (get-insert_other lent j i (min (count lent j + 1) (2 ^ 32 - 1)) (λ e. other (sym e)))

  hosted-one : (lent : Table ℕ) (j : ℕ) → count lent i + names i (descriptors.SenderHosted j) < 2 ^ 32
      → count (lent_one lent (descriptors.SenderHosted j)) i ≡ count lent i + names i (descriptors.SenderHosted j)
  hosted-one lent j h =
      elim (cases_eq j i) [
        | inl same ↦ subst (λ (j : ℕ). count lent i + names i (descriptors.SenderHosted j) < 2 ^ 32
            → count (lent_one lent (descriptors.SenderHosted j)) i ≡ count lent i + names i (descriptors.SenderHosted j)) (sym same) here h
        | inr other ↦ named-there lent j other ∙ rw (differ i j other) (sym (add-zero (count lent i)))
      ]
    where
      here : count lent i + names i (descriptors.SenderHosted i) < 2 ^ 32 → count (lent_one lent (descriptors.SenderHosted i)) i ≡ count lent i + names i (descriptors.SenderHosted i)
      here = rw (equal i i refl) (named-here lent)

  named-one : (lent : Table ℕ) (d : Descriptor) → count lent i + names i d < 2 ^ 32 → count (lent_one lent d) i ≡ count lent i + names i d
  named-one lent (descriptors.SenderHosted j) h = hosted-one lent j h
  named-one lent other h = sym (add-zero (count lent i))

  named-all : (table : List Descriptor) (lent : Table ℕ) → count lent i + named i table < 2 ^ 32 → count (lent_all lent table) i ≡ count lent i + named i table
  named-all [] lent h = sym (add-zero (count lent i))
  named-all (d ∷ table) lent h =
      let one = named-one lent d (less_of (count lent i) (names i d) (named i table) h) in
      named-all table (lent_one lent d) (still (count lent i) (names i d) (named i table) (count (lent_one lent d) i) one h)
      ∙ sum (count lent i) (names i d) (named i table) (count (lent_one lent d) i) one
    where
      less_of : (a b c : ℕ) → a + (b + c) < 2 ^ 32 → a + b < 2 ^ 32
      less_of a b c h = omega arith

      still : (a b c e : ℕ) → e ≡ a + b → a + (b + c) < 2 ^ 32 → e + c < 2 ^ 32
      still a b c e f h = omega arith

      sum : (a b c e : ℕ) → e ≡ a + b → e + c ≡ a + (b + c)
      sum a b c e f = omega arith

  lent-by : (returned : Returned) (stage : Option Stage) (lent : Table ℕ) → count lent i + lends i returned stage < 2 ^ 32
      → count (lent_by lent returned stage) i ≡ count lent i + lends i returned stage
  lent-by (returns.Results p) (Some stages.Open) lent h = named-all p.cap_table lent h
  lent-by returned stage lent h = sym (add-zero (count lent i))

-- ---- what else happens lends nothing
call-lends : (b : Bool) (t : Tails) (c : Call) → (call_if b t c).1.lent ≡ t.lent
call-lends true t c = new (is_some (get t.calls c.question_id))
  where
    new : (b : Bool) → (if b then t else with_call t c.question_id progress.Untaken).lent ≡ t.lent
    new true = refl
    new false = refl
call-lends false t c = refl

taken-lends : (t : Tails) (q : ℕ) (taker : Taker) (kept : Option Return) → (taken t q taker kept).lent ≡ t.lent
taken-lends t q taker None = refl
taken-lends t q taker (Some r) = refl

let-go-lends : (t : Tails) (q : ℕ) (kept : Option Return) → (let_go t q kept).lent ≡ t.lent
let-go-lends t q None = refl
let-go-lends t q (Some r) = refl

finish-taken-lends : (b : Bool) (t : Tails) (f : Finish) (taker : Taker) → taker.is_finished ≡ b → (finish_taken t f taker).1.lent ≡ t.lent
finish-taken-lends true t f taker e = rw e refl
finish-taken-lends false t f taker e = rw e refl

finish-lends : (t : Tails) (f : Finish) (how : Option Progress) → (receive_finish_of t f how).1.lent ≡ t.lent
finish-lends t f None = refl
finish-lends t f (Some progress.Untaken) = let-go-lends t f.question_id (get t.results f.question_id)
finish-lends t f (Some (progress.Taken taker)) = finish-taken-lends taker.is_finished t f taker refl
finish-lends t f (Some progress.Given) = refl
finish-lends t f (Some progress.GivenUp) = refl

return-lends : (t : Tails) (r : Return) (how : Option Progress) → (send_return_of t r how).1.lent ≡ t.lent
return-lends t r None = refl
return-lends t r (Some progress.Untaken) = refl
return-lends t r (Some (progress.Taken taker)) = refl
return-lends t r (Some progress.Given) = refl
return-lends t r (Some progress.GivenUp) = refl

module _ (acts_on : Call → Bool) (stage : ℕ → Option Stage) (t : Tails) where
  taking-lends : (b : Bool) (r : Return) (q : ℕ) → (take_if b t r q).1.lent ≡ t.lent
  taking-lends true r q = taken-lends t q (taker_by r) (get t.results q)
  taking-lends false r q = refl

  returned-lends : (r : Return) (returned : Returned) → (receive_returned stage t r returned).1.lent ≡ t.lent
  returned-lends r (returns.TakeFromOtherQuestion q) = taking-lends (is_due (stage r.answer_id) && is_untaken (get t.calls q)) r q
  returned-lends r other = refl

  any-return-lends : (b : Bool) (r : Return) → (if b then goes_on t (messages.Return return_of_none) else receive_returned stage t r r.returned).1.lent ≡ t.lent
  any-return-lends true r = refl
  any-return-lends false r = returned-lends r r.returned

  came-lends : (m : Message) → (received acts_on stage t m).1.lent ≡ t.lent
  came-lends (messages.Call c) = call-lends (is_to_sender c.send_results_to && acts_on c) t c
  came-lends (messages.Return r) = any-return-lends (is_some (get t.takers r.answer_id)) r
  came-lends (messages.Finish f) = finish-lends t f (get t.calls f.question_id)
  came-lends other = refl

-- ---- what is kept as lent is what was lent since the application gave the import back
abbrev Keeps : List Turn → Table ℕ → Type 0
Keeps past lent = (i : ℕ) → lent_since i past < 2 ^ 32 → count lent i ≡ lent_since i past

count-removed : (lent : Table ℕ) (i j : ℕ) → count (remove lent j) i ≡ (if j == i then 0 else count lent i)
count-removed lent i j =
    elim (cases_eq j i) [
      | inl same ↦ rw (equal i j same, same, get-remove_same lent i) refl
      | inr other ↦ rw (differ i j other, get-remove_other lent j i (λ e. other (sym e))) refl
    ]

removed-keeps : (past : List Turn) (lent : Table ℕ) (j : ℕ) → Keeps past lent → (i : ℕ) → (if j == i then 0 else lent_since i past) < 2 ^ 32
    → count (remove lent j) i ≡ (if j == i then 0 else lent_since i past)
removed-keeps past lent j h i few = count-removed lent i j ∙ by (j == i) few
  where
    by : (b : Bool) → (if b then 0 else lent_since i past) < 2 ^ 32 → (if b then 0 else count lent i) ≡ (if b then 0 else lent_since i past)
    by true few = refl
    by false few = h i few

-- what is given back, and what is kept then
module _ (past : List Turn) (t last : Tails) (on : Option Message) where
  went-keeps : (trigger : Trigger) (m : Message) → Keeps past t.lent → sent t trigger m ≡ (on, last) → Keeps (went trigger m on ∷ past) last.lent
  went-keeps triggers.Application (messages.Release r) h f = subst (λ (lent : Table ℕ). Keeps (went triggers.Application (messages.Release r) on ∷ past) lent) (ap (λ (p : Passed). p.1.lent) f) (removed-keeps past t.lent r.id h)
  went-keeps triggers.Application (messages.Return r) h f = subst (Keeps past) (sym (return-lends t r (get t.calls r.answer_id)) ∙ ap (λ (p : Passed). p.1.lent) f) h
  went-keeps triggers.Message (messages.Return r) h f = subst (Keeps past) (sym (return-lends t r (get t.calls r.answer_id)) ∙ ap (λ (p : Passed). p.1.lent) f) h
  went-keeps triggers.Application m h f = subst (Keeps past) (ap (λ (p : Passed). p.1.lent) f) h
  went-keeps triggers.Message m h f = subst (Keeps past) (ap (λ (p : Passed). p.1.lent) f) h

module _ (past : List Turn) (stage : ℕ → Option Stage) where
  lent-keeps : (lent : Table ℕ) (o : ForwardedMessage) → Keeps past lent → Keeps (passed stage o ∷ past) (lent_with stage lent o)
  lent-keeps lent (owed.ToVat (messages.Return r)) h i few =
      let before : count lent i ≡ lent_since i past = h i (less (lent_since i past) (lends i r.returned (stage r.answer_id)) few) in
      lent-by i r.returned (stage r.answer_id) lent (rw before few) ∙ ap (λ (n : ℕ). n + lends i r.returned (stage r.answer_id)) before
    where
      less : (a b : ℕ) → a + b < 2 ^ 32 → a < 2 ^ 32
      less a b h = omega arith
  lent-keeps lent o h i few = h i few

  passed-keeps : (os : List ForwardedMessage) (t last : Tails) (first : ForwardedMessage) → Keeps past t.lent → next_of stage t os ≡ (Some first, last) → Keeps (passed stage first ∷ past) last.lent
  passed-keeps [] t last first h f = absurd (none≢some first (ap (λ (p : Option ForwardedMessage × Tails). p.0) f))
    where
      none≢some : (x : ForwardedMessage) → None ≡ Some x → ⊥
      none≢some x e = cc
  passed-keeps (o ∷ os) t last first h f =
      subst (λ (o : ForwardedMessage). Keeps (passed stage o ∷ past) last.lent) (same o first (ap (λ (p : Option ForwardedMessage × Tails). p.0) f)) (subst (Keeps (passed stage o ∷ past)) (ap (λ (p : Option ForwardedMessage × Tails). p.1.lent) f) (lent-keeps t.lent o h))
    where
      same : (x y : ForwardedMessage) → Some x ≡ Some y → x ≡ y
      same x y e = cc

turn-keeps : (past : List Turn) (turn : Turn) (mid last : Tails) → Keeps past mid.lent → TakesTurn mid turn last → Keeps (turn ∷ past) last.lent
turn-keeps past (came acts_on stage m on) mid last h f = subst (Keeps past) (sym (came-lends acts_on stage mid m) ∙ ap (λ (p : Passed). p.1.lent) f) h
turn-keeps past (went trigger m on) mid last h f = went-keeps past mid last on trigger m h f
turn-keeps past (passed stage first) mid last h f = passed-keeps past stage mid.owed mid last first h f

keeps : (past : List Turn) (last : Tails) → Did past last → Keeps past last.lent
keeps [] last did = subst (λ (t : Tails). Keeps [] t.lent) (sym did) (λ i few. rw (get-empty nat_cmp i) refl)
keeps (turn ∷ past) last (mid, before, now) = turn-keeps past turn mid last (keeps past mid before) now

pub takes_back : TakesBack
takes_back past mid last r on did few f =
    sym (ap (λ (p : Passed). p.0) f) ∙ ap (λ (n : ℕ). Some (messages.Release (record r { reference_count = r.reference_count - n }))) (keeps past mid did r.id few)
