-- A message of the peer's comes.
use Rattle.std.specs.Prelude.{◌≡◌, refl, ℕ, ◌<◌, ◌⊎◌, ◌&&◌, ◌++◌, if◌then◌else◌, Bool, true, false, List, [], ◌∷◌, Option, Some, None, is_some}
use Rattle.std.specs.List.{AllByRecursion}
use Rattle.std.specs.Option.{option_map}
use Rattle.std.specs.FinMap.{get}
use Rattle.std.proofs.Common.{arith, true≢false, sym, ap, subst, ◌∙◌, inl, inr}
use Rattle.cp_tables.specs.declared.exchange.Stage.{Stage}
use Rattle.cp_tables.specs.declared.exchange.Stage.TheVariants as stages
use Rattle.cp_messages.specs.declared.call.Call.{Call}
use Rattle.cp_messages.specs.declared.message.Message.{Message}
use Rattle.cp_messages.specs.declared.message.Message.TheVariants as messages
use Rattle.cp_messages.specs.declared.returned.Return.{Return}
use Rattle.cp_messages.specs.declared.returned.Returned.{Returned}
use Rattle.cp_messages.specs.declared.returned.Returned.TheVariants as returns
use Rattle.cp_messages.specs.declared.small.Finish.{Finish}
use Rattle.cp_vat_machine.specs.Supported.{is_supported, is_supported_to_caller}
use Rattle.cp_vat_machine.proofs.Basics.{is_itself}
use Rattle.cp_vat_pair_laws.specs.Ledger.{Traffic, params_of, results_of, is_finished}
use Rattle.cp_vat_pair_laws.specs.Accounts.{Account, Accounts, answer_finished, Came}
use Rattle.cp_vat_pair_laws.specs.Expected.{IsAwaited, IsKept, IsNotReturned, stage_of}
use Rattle.cp_tail_calls.specs.declared.forwarding.ForwardedMessage.{ForwardedMessage}
use Rattle.cp_tail_calls.specs.declared.forwarding.ForwardedMessage.TheVariants as owed
use Rattle.cp_tail_calls.specs.declared.progress.Progress.{Progress}
use Rattle.cp_tail_calls.specs.declared.progress.Progress.TheVariants as progress
use Rattle.cp_tail_calls.specs.declared.progress.Taker.{Taker}
use Rattle.cp_tail_calls.specs.Receiving.{Passed, Finishing, with_call, goes_on, is_to_sender, is_due, is_untaken, finish_of, let_go, receive_returned, receive_finish_of, received, return_of_none, taken, taker_by}
use Rattle.cp_tail_calls.specs.Tails.{Tails}
use Rattle.cp_tail_calls.proofs.Cases.{call_if, take_if}
use Rattle.cp_tail_counts.specs.Peer.{said, said_if}
use Rattle.cp_tail_counts.specs.Behind.{GetsIf, GetsIfAny, Knows}
use Rattle.cp_tail_counts.specs.Counts.{IsNumbered}
use Rattle.cp_tail_counts.proofs.Holds.{any, is_finish_of, IsAt, IsKeptAs, Holds}
use Rattle.cp_tail_counts.proofs.Questions.{small_known}
use Rattle.cp_tail_counts.proofs.Opening.{call_comes, bootstrap_comes}
use Rattle.cp_tail_counts.proofs.Finishing.{plain_finish, give_up, finish_taken_before, finish_kept, finish_waits, finished_again, finished_open}
use Rattle.cp_tail_counts.proofs.Answering.{return_comes, wait_holds, give_holds}
use Rattle.cp_tail_counts.proofs.Others.{other_comes}

-- After a second Finish of a call whose results a question waits for, the vat is about to get one of an answer that it doesn't keep.
pub record Doomed (t : Tails) (vat : Accounts) : Type 0 where
  pub call : ℕ
  pub rest : List ForwardedMessage
  pub first : t.owed ≡ owed.ToVat (messages.Finish (finish_of call)) ∷ rest
  pub gone : IsKept (vat.answers call) → ⊥

abbrev pub Lives : ℕ → List Traffic → Tails → Accounts → Type 0
Lives most past t vat = Holds most past t vat ⊎ Doomed t vat

module _ (most : ℕ) (past : List Traffic) (t : Tails) (old new : Accounts) (h : Holds most past t old) (settled : t.owed ≡ []) where
  -- what comes of a message
  abbrev CameAs : Message → Passed → Type 0
  CameAs m p = GetsIfAny old p.0 new → AllByRecursion (IsNumbered most) (said m p.0) → Lives most (said m p.0 ++ past) p.1 new

  -- ---- a Return
  plain_return : (r : Return) → get t.takers r.answer_id ≡ None → (s : Bool) → GetsIf s old (messages.Return r) new → Lives most (said_if s (messages.Return r) ++ past) t new
  plain_return r free true gets = inl (return_comes most past t old new h r settled free gets.0 gets.1)
  plain_return r free false same = inl (rw (same) h)

  -- of a question that waits for results: one of no question comes in its place
  second_return : (m : Message) → CameAs m (goes_on t (messages.Return return_of_none))
  second_return m gets numbered =
      let small : 4294967295 < 4294967295 = small_known (params_of past 4294967295) (is_finished past 4294967295) 4294967295 (old.questions 4294967295) (h.questions 4294967295) gets.0 in
      absurd (never 4294967295 small)
    where
      never : (n : ℕ) → n < n → ⊥
      never n less = omega arith

  untaken_of : (o : Option Progress) → is_untaken o ≡ true → o ≡ Some progress.Untaken
  untaken_of None is = absurd (true≢false (sym is))
  untaken_of (Some progress.Untaken) is = refl
  untaken_of (Some (progress.Taken taker)) is = absurd (true≢false (sym is))
  untaken_of (Some progress.Given) is = absurd (true≢false (sym is))
  untaken_of (Some progress.GivenUp) is = absurd (true≢false (sym is))

  awaited_of : (o : Option Account) → is_due (stage_of o) ≡ true → IsAwaited o
  awaited_of None is = absurd (true≢false (sym is))
  awaited_of (Some account) is = by account.stage is
    where
      by : (s : Stage) → is_due (Some s) ≡ true → IsNotReturned s
      by stages.Open is = tt
      by stages.Finished is = tt
      by stages.Returned is = absurd (true≢false (sym is))

  both : (b c : Bool) → (b && c) ≡ true → (b ≡ true) × (c ≡ true)
  both true c is = (refl, is)
  both false c is = absurd (true≢false (sym is))

  module _ (stage : ℕ → Option Stage) (knows : Knows old stage) (r : Return) (free : get t.takers r.answer_id ≡ None) where
    takes : (k : ℕ) → r.returned ≡ returns.TakeFromOtherQuestion k → IsAwaited (old.questions r.answer_id) → get t.calls k ≡ Some progress.Untaken
        → (kept : Option Return) → get t.results k ≡ kept → CameAs (messages.Return r) (None, taken t k (taker_by r) kept)
    takes k is due untaken None none same numbered = inl (rw (same) (wait_holds most past t old new h r settled free due k is untaken none))
    takes k is due untaken (Some x) there same numbered = inl (rw (same) (give_holds most past t old new h r settled free due k is untaken x there))

    taking : (k : ℕ) → r.returned ≡ returns.TakeFromOtherQuestion k → (b : Bool) → (is_due (stage r.answer_id) && is_untaken (get t.calls k)) ≡ b
        → CameAs (messages.Return r) (take_if b t r k)
    taking k is true e gets numbered =
        let parts = both (is_due (stage r.answer_id)) (is_untaken (get t.calls k)) e in
        takes k is (awaited_of (old.questions r.answer_id) (rw (knows r.answer_id) at parts.0)) (untaken_of (get t.calls k) parts.1) (get t.results k) refl gets numbered
    taking k is false e gets numbered = plain_return r free (is_supported (messages.Return r)) gets

    returned_comes : (returned : Returned) → r.returned ≡ returned → CameAs (messages.Return r) (receive_returned stage t r returned)
    returned_comes (returns.TakeFromOtherQuestion k) is gets numbered = taking k is (is_due (stage r.answer_id) && is_untaken (get t.calls k)) refl gets numbered
    returned_comes other is gets numbered = plain_return r free (is_supported (messages.Return r)) gets

  taker_comes : (stage : ℕ → Option Stage) (knows : Knows old stage) (r : Return) (o : Option ℕ) → get t.takers r.answer_id ≡ o
      → CameAs (messages.Return r) (if is_some o then goes_on t (messages.Return return_of_none) else receive_returned stage t r r.returned)
  taker_comes stage knows r (Some k) is gets numbered = second_return (messages.Return r) gets numbered
  taker_comes stage knows r None is gets numbered = returned_comes stage knows r is r.returned refl gets numbered

  -- ---- a Finish
  module _ (f : Finish) where
    abbrev k : ℕ
    k = f.question_id

    kept_as : (how : Option Progress) → get t.calls k ≡ how → IsKeptAs how (old.answers k) (get t.results k) (results_of past k) (any (is_finish_of k) t.owed)
    kept_as how is = rw (is) at (h.answers k)

    lets_go : get t.calls k ≡ Some progress.Untaken → (kept : Option Return) → get t.results k ≡ kept
        → CameAs (messages.Finish f) (Some (messages.Finish (finish_of k)), let_go t k kept)
    lets_go untaken None none gets numbered = inl (give_up most past t old new h settled f untaken none gets)
    lets_go untaken (Some r) there gets numbered = inl (finish_kept most past t old new h settled f r untaken there gets)

    finished_now : Came old (messages.Finish f) new → new.answers k ≡ answer_finished (old.answers k)
    finished_now comes = rw (comes.answers k, is_itself k) refl

    not_kept : (o : Option Account) → IsAt stages.Open o → IsKept (answer_finished o) → ⊥
    not_kept o at = finished_again (answer_finished o) (finished_open o at)

    abbrev FinishAs : Finishing → Type 0
    FinishAs p = CameAs (messages.Finish f) (option_map (λ f. messages.Finish f) p.0, p.1)

    waits : (taker : Taker) → get t.calls k ≡ Some (progress.Taken taker) → (b : Bool)
        → FinishAs
        (if b then (Some f, record t { owed = t.owed ++ owed.ToVat (messages.Finish (finish_of k)) ∷ [] })
        else (None, with_call t k (progress.Taken (record taker { is_finished = true }))))
    waits taker called true gets numbered =
        inr (
        record {
          call = k;
          rest = [];
          first = ap (λ (os : List ForwardedMessage). os ++ owed.ToVat (messages.Finish (finish_of k)) ∷ []) settled;
          gone = λ kept. not_kept (old.answers k) (kept_as (Some (progress.Taken taker)) called).2 (subst (λ (o : Option Account). IsKept o) (finished_now gets.1) kept);
        }
        )
    waits taker called false same numbered = inl (rw (same) (finish_waits most past t old new h settled f taker called))

    finish_by : (how : Option Progress) → get t.calls k ≡ how → FinishAs (receive_finish_of t f how)
    finish_by None is gets numbered = inl (plain_finish most past t old new h settled f is gets)
    finish_by (Some progress.Untaken) is gets numbered = lets_go is (get t.results k) refl gets numbered
    finish_by (Some (progress.Taken taker)) is gets numbered = waits taker is taker.is_finished gets numbered
    finish_by (Some progress.Given) is gets numbered = inl (finish_taken_before most past t old new h settled f is gets)
    finish_by (Some progress.GivenUp) is gets numbered = absurd (finished_again (old.answers k) (kept_as (Some progress.GivenUp) is).2 gets.0)

  -- ---- any message
  call_by : (acts_on : Call → Bool) → ((c : Call) → acts_on c ≡ is_supported_to_caller c) → (c : Call) (b : Bool) → (is_to_sender c.send_results_to && acts_on c) ≡ b
      → CameAs (messages.Call c) (Some (messages.Call (call_if b t c).0), (call_if b t c).1)
  call_by acts_on acts c b e gets numbered =
      inl (call_comes most past t old new h settled c b (λ is. sym (acts c) ∙ (both (is_to_sender c.send_results_to) (acts_on c) (e ∙ is)).1) gets numbered)

  comes_any : (acts_on : Call → Bool) (stage : ℕ → Option Stage) → ((c : Call) → acts_on c ≡ is_supported_to_caller c) → Knows old stage
      → (m : Message) → CameAs m (received acts_on stage t m)
  comes_any acts_on stage acts knows (messages.Call c) gets numbered = call_by acts_on acts c (is_to_sender c.send_results_to && acts_on c) refl gets numbered
  comes_any acts_on stage acts knows (messages.Return r) gets numbered = taker_comes stage knows r (get t.takers r.answer_id) refl gets numbered
  comes_any acts_on stage acts knows (messages.Finish f) gets numbered = finish_by f (get t.calls f.question_id) refl gets numbered
  comes_any acts_on stage acts knows (messages.Bootstrap b) gets numbered = inl (bootstrap_comes most past t old new h settled b gets numbered)
  comes_any acts_on stage acts knows (messages.Resolve r) gets numbered =
      inl (other_comes most past t old new h (messages.Resolve r) (record { opens_none = λ q. refl; returns_none = λ q. refl; finishes_none = λ q. refl; lowers = λ e. refl; takes = refl }) gets)
  comes_any acts_on stage acts knows (messages.Release r) gets numbered =
      inl (other_comes most past t old new h (messages.Release r) (record { opens_none = λ q. refl; returns_none = λ q. refl; finishes_none = λ q. refl; lowers = λ e. refl; takes = refl }) gets)
  comes_any acts_on stage acts knows (messages.Disembargo d) gets numbered =
      inl (other_comes most past t old new h (messages.Disembargo d) (record { opens_none = λ q. refl; returns_none = λ q. refl; finishes_none = λ q. refl; lowers = λ e. refl; takes = refl }) gets)
  comes_any acts_on stage acts knows (messages.Unimplemented x) gets numbered =
      inl (other_comes most past t old new h (messages.Unimplemented x) (record { opens_none = λ q. refl; returns_none = λ q. refl; finishes_none = λ q. refl; lowers = λ e. refl; takes = refl }) gets)
  comes_any acts_on stage acts knows (messages.Abort x) gets numbered =
      inl (other_comes most past t old new h (messages.Abort x) (record { opens_none = λ q. refl; returns_none = λ q. refl; finishes_none = λ q. refl; lowers = λ e. refl; takes = refl }) gets)
  comes_any acts_on stage acts knows (messages.Other which body) gets numbered =
      inl (other_comes most past t old new h (messages.Other which body) (record { opens_none = λ q. refl; returns_none = λ q. refl; finishes_none = λ q. refl; lowers = λ e. refl; takes = refl }) gets)

  pub came_holds : (acts_on : Call → Bool) (stage : ℕ → Option Stage) → ((c : Call) → acts_on c ≡ is_supported_to_caller c) → Knows old stage
      → (m : Message) (p : Passed) → received acts_on stage t m ≡ p → CameAs m p
  came_holds acts_on stage acts knows m p is = subst (λ (p : Passed). CameAs m p) is (comes_any acts_on stage acts knows m)
