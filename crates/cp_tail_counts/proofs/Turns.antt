-- What holds after all turns of tail calls.
use Rattle.std.specs.Prelude.{◌≡◌, refl, ℕ, zero, suc, ◌++◌, if◌then◌else◌, Bool, true, false, List, [], ◌∷◌, Option, Some, None, is_some, IsTrue}
use Rattle.std.specs.List.{AllByRecursion}
use Rattle.std.specs.Ordering.{nat_cmp}
use Rattle.std.specs.FinMap.{get, get-empty}
use Rattle.std.proofs.Common.{arith, true≢false, sym, ap, subst, ◌∙◌, inl, inr, append-nil}
use Rattle.cp_tables.specs.declared.exchange.Stage.{Stage}
use Rattle.cp_tables.specs.declared.exchange.Stage.TheVariants as stages
use Rattle.cp_messages.specs.declared.message.Message.{Message}
use Rattle.cp_messages.specs.declared.message.Message.TheVariants as messages
use Rattle.cp_messages.specs.declared.returned.Return.{Return}
use Rattle.cp_vat_machine.proofs.Basics.{some_out, none_out, all_front, all_back}
use Rattle.cp_vat_pair_laws.specs.Ledger.{Traffic, named_by, results_of, returns_to}
use Rattle.cp_vat_pair_laws.specs.Accounts.{Account, Accounts, answer_given, given_at, Sent}
use Rattle.cp_vat_pair_laws.specs.Expected.{IsKept}
use Rattle.cp_tail_calls.specs.declared.forwarding.ForwardedMessage.{ForwardedMessage}
use Rattle.cp_tail_calls.specs.declared.forwarding.ForwardedMessage.TheVariants as owed
use Rattle.cp_tail_calls.specs.declared.forwarding.Trigger.{Trigger}
use Rattle.cp_tail_calls.specs.declared.forwarding.Trigger.TheVariants as triggers
use Rattle.cp_tail_calls.specs.declared.progress.Progress.{Progress}
use Rattle.cp_tail_calls.specs.declared.progress.Progress.TheVariants as progress
use Rattle.cp_tail_calls.specs.Receiving.{Passed, given, finish_of}
use Rattle.cp_tail_calls.specs.Runs.{Turn, came, went, passed, TakesTurn}
use Rattle.cp_tail_calls.specs.Sending.{lent_with, next_of, sent, send_return_of}
use Rattle.cp_tail_calls.specs.Tails.{Tails, none}
use Rattle.cp_tail_counts.specs.Peer.{with_peer, peer_past}
use Rattle.cp_tail_counts.specs.Behind.{Passes, Does, IsNew, Lived}
use Rattle.cp_tail_counts.specs.Counts.{sum_below, owed_for, IsNumbered, CountsAgree, TurnsCount}
use Rattle.cp_tail_counts.proofs.Holds.{any, is_finish_of, lowers_all, IsAt, IsRight, AreRight, IsKeptAs, Holds}
use Rattle.cp_tail_counts.proofs.Coming.{Doomed, Lives, came_holds}
use Rattle.cp_tail_counts.proofs.Going.{went_holds}
use Rattle.cp_tail_counts.proofs.Passing.{passes_told, passes_return, passes_finish}

-- ---- the vat is about to get a Finish of an answer that it doesn't keep
-- what is owed stays so when the vat sends a message
owed_more : (t : Tails) (trigger : Trigger) (m : Message) → (more : List ForwardedMessage) × ((sent t trigger m).1.owed ≡ t.owed ++ more)
owed_more t trigger (messages.Return r) = by (get t.calls r.answer_id)
  where
    by : (how : Option Progress) → (more : List ForwardedMessage) × ((send_return_of t r how).1.owed ≡ t.owed ++ more)
    by None = ([], sym (append-nil t.owed))
    by (Some progress.Untaken) = ([], sym (append-nil t.owed))
    by (Some (progress.Taken taker)) = (given r.answer_id taker r.returned, refl)
    by (Some progress.Given) = ([], sym (append-nil t.owed))
    by (Some progress.GivenUp) = ([], sym (append-nil t.owed))
owed_more t triggers.Message (messages.Release r) = ([], sym (append-nil t.owed))
owed_more t triggers.Application (messages.Release r) = ([], sym (append-nil t.owed))
owed_more t trigger m = ([], sym (append-nil t.owed))

kept_before : (b : Bool) (named : List ℕ) (old new : Option Account) → (if b then answer_given named old else Some old) ≡ Some new → IsKept new → IsKept old
kept_before true named None new after kept = none_out after
kept_before true named (Some account) new after kept = by account.stage named after
  where
    by : (s : Stage) (named : List ℕ) → given_at named s ≡ Some new → IsKept (Some (record { stage = s; kept = account.kept }))
    by stages.Open named after = tt
    by stages.Returned named after = none_out after
    by stages.Finished [] after = rw (← some_out after) at kept
    by stages.Finished (e ∷ named) after = none_out after
kept_before false named old new after kept = rw (some_out after) kept

doomed_on : (t last : Tails) (old new : Accounts) (trigger : Trigger) (m : Message) (on : Option Message) → Doomed t old → sent t trigger m ≡ (on, last) → Sent old m new
    → Doomed last new
doomed_on t last old new trigger m on doomed is sends =
    let more = owed_more t trigger m in
    record {
      call = doomed.call;
      rest = doomed.rest ++ more.0;
      first = sym (ap (λ (p : Passed). p.1.owed) is) ∙ more.1 ∙ ap (λ (os : List ForwardedMessage). os ++ more.0) doomed.first;
      gone = λ kept.
          doomed.gone
          (kept_before (returns_to doomed.call m) (named_by m) (old.answers doomed.call) (new.answers doomed.call) (sends.answers doomed.call) kept);
    }

-- ---- what is passed on
same_first : (x y : ForwardedMessage) (t last : Tails) → ◌≡◌ {A = Option ForwardedMessage × Tails} (Some x, t) (Some y, last) → (x ≡ y) × (t ≡ last)
same_first x y t last e = (some_out (ap (λ (p : Option ForwardedMessage × Tails). p.0) e), ap (λ (p : Option ForwardedMessage × Tails). p.1) e)

none_first : {A : Type 0} (y : ForwardedMessage) (t last : Tails) → ◌≡◌ {A = Option ForwardedMessage × Tails} (None, t) (Some y, last) → A
none_first y t last e = none_out (ap (λ (p : Option ForwardedMessage × Tails). p.0) e)

same_cons : (o p : ForwardedMessage) (os ps : List ForwardedMessage) → o ∷ os ≡ p ∷ ps → o ≡ p
same_cons o p os ps e = cc

no_cons : {A : Type 0} (o : ForwardedMessage) (os : List ForwardedMessage) → [] ≡ o ∷ os → A
no_cons o os e = absurd (contra e)
  where
    contra : [] ≡ o ∷ os → ⊥
    contra e = cc

module _ (most : ℕ) (past : List Traffic) (t : Tails) (old new : Accounts) (stage : ℕ → Option Stage) where
  passes_by : (h : Holds most past t old) (o : ForwardedMessage) (rest : List ForwardedMessage) → t.owed ≡ o ∷ rest → Does t old past (passed stage o) new
      → Holds most (with_peer (passed stage o) ++ past) (record t { owed = rest; lent = lent_with stage t.lent o }) new
  passes_by h (owed.ToPeer m) rest is same = rw (same) (passes_told most past t old h rest m is)
  passes_by h (owed.ToVat (messages.Return r)) rest is passes = passes_return most past t old h rest new r is stage passes
  passes_by h (owed.ToVat (messages.Finish f)) rest is passes = passes_finish most past t old h rest new f is passes.gets
  passes_by h (owed.ToVat m) rest is passes = absurd (not_right (rw (is) at h.owed))
    where
      not_right : AreRight t.calls t.takers old (owed.ToVat m ∷ rest) → IsRight t.calls t.takers old (owed.ToVat m)
      not_right right = right.0

  doomed_passes : (o : ForwardedMessage) → Doomed t old → (rest : List ForwardedMessage) → t.owed ≡ o ∷ rest → Does t old past (passed stage o) new → ⊥
  doomed_passes o doomed rest is does =
      doomed.gone
      (expected (subst (λ (o : ForwardedMessage). Does t old past (passed stage o) new) (same_cons o (owed.ToVat (messages.Finish (finish_of doomed.call))) rest doomed.rest (sym is ∙ doomed.first)) does))
    where
      expected : Passes old stage (messages.Finish (finish_of doomed.call)) new → IsKept (old.answers doomed.call)
      expected passes = passes.gets.0

  passes_any : Lives most past t old → (os : List ForwardedMessage) → t.owed ≡ os → (first : ForwardedMessage) (last : Tails) → next_of stage t os ≡ (Some first, last)
      → Does t old past (passed stage first) new → Lives most (with_peer (passed stage first) ++ past) last new
  passes_any lives [] is first last e does = none_first first t last e
  passes_any lives (o ∷ rest) is first last e does =
      let same = same_first o first (record t { owed = rest; lent = lent_with stage t.lent o }) last e in
      let does_o = subst (λ (o : ForwardedMessage). Does t old past (passed stage o) new) (sym same.0) does in
      subst
      (λ (last : Tails). Lives most (with_peer (passed stage first) ++ past) last new)
      same.1
      (subst
      (λ (first : ForwardedMessage). Lives most (with_peer (passed stage first) ++ past) (record t { owed = rest; lent = lent_with stage t.lent o }) new)
      same.0
      (by lives does_o is))
    where
      by : Lives most past t old → Does t old past (passed stage o) new → t.owed ≡ o ∷ rest
          → Lives most (with_peer (passed stage o) ++ past) (record t { owed = rest; lent = lent_with stage t.lent o }) new
      by (inl h) does is = inl (passes_by h o rest is does)
      by (inr doomed) does is = absurd (doomed_passes o doomed rest is does)

-- ---- any turn
doomed_settled : {A : Type 0} (t : Tails) (vat : Accounts) → Doomed t vat → t.owed ≡ [] → A
doomed_settled t vat doomed settled = no_cons (owed.ToVat (messages.Finish (finish_of doomed.call))) doomed.rest (sym settled ∙ doomed.first)

turn_lives : (most : ℕ) (past : List Traffic) (turn : Turn) (t last : Tails) (old new : Accounts) → Lives most past t old → TakesTurn t turn last → Does t old past turn new
    → AllByRecursion (IsNumbered most) (with_peer turn) → Lives most (with_peer turn ++ past) last new
turn_lives most past (came acts_on stage m on) t last old new (inl h) is does numbered =
    came_holds most past t old new h does.settled acts_on stage does.acts does.knows m (on, last) is does.gets numbered
turn_lives most past (came acts_on stage m on) t last old new (inr doomed) is does numbered = doomed_settled t old doomed does.settled
turn_lives most past (went trigger m on) t last old new (inl h) is does numbered = inl (went_holds most past t old new h trigger m (on, last) is does numbered)
turn_lives most past (went trigger m on) t last old new (inr doomed) is does numbered = inr (doomed_on t last old new trigger m on doomed is does.sends)
turn_lives most past (passed stage first) t last old new lives is does numbered = passes_any most past t old new stage lives t.owed refl first last is does

sum_none : (f : ℕ → ℕ) (n : ℕ) → ((q : ℕ) → f q ≡ 0) → sum_below f n ≡ 0
sum_none f zero all = refl
sum_none f (suc n) all = omega (arith, sum_none f n all, all n)

new_holds : (most : ℕ) (vat : Accounts) → IsNew vat → Holds most [] none vat
new_holds most vat is =
    record {
      exports = λ e fair. omega (arith, is.exports e, sum_none (λ q. owed_for e vat q (get none.calls q)) most (λ q. rw (get-empty {X = Progress} nat_cmp q) refl));
      imports = λ i. rw (get-empty {X = ℕ} nat_cmp i) (omega (arith, is.imports i));
      questions = λ q. rw (is.questions q) tt;
      answers = λ q. rw (get-empty {X = Progress} nat_cmp q, get-empty {X = Return} nat_cmp q, is.answers q) (refl, tt);
      takers = λ q. rw (get-empty {X = Progress} nat_cmp q) tt;
      owed = tt;
      given_fairly = λ i. tt;
      params = tt;
      below = λ q some. absurd (true≢false (sym (rw (get-empty {X = Progress} nat_cmp q) at some)));
    }

all_live : (most : ℕ) (past : List Turn) (last : Tails) (vat : Accounts) → Lived past last vat → AllByRecursion (IsNumbered most) (peer_past past)
    → Lives most (peer_past past) last vat
all_live most [] last vat lived numbered = inl (rw (lived.0) (new_holds most vat lived.1))
all_live most (turn ∷ past) last vat lived numbered =
    let before = all_live most past lived.0 lived.1 lived.2 (all_back (IsNumbered most) (with_peer turn) (peer_past past) numbered) in
    turn_lives most (peer_past past) turn lived.0 last lived.1 vat before lived.3 lived.4 (all_front (IsNumbered most) (with_peer turn) (peer_past past) numbered)

-- a call that is kept has an answer
at_some : (stage : Stage) (account : Option Account) → IsAt stage account → IsTrue (is_some account)
at_some stage None at = absurd at
at_some stage (Some account) at = refl

answer_kept : (how : Option Progress) (account : Option Account) (kept : Option Return) (peers : List ℕ) (finishing : Bool) → IsKeptAs how account kept peers finishing
    → IsTrue (is_some how) → IsTrue (is_some account)
answer_kept None account kept peers finishing h some = absurd (true≢false (sym some))
answer_kept (Some progress.Untaken) account None peers finishing h some = at_some stages.Open account h.1
answer_kept (Some progress.Untaken) account (Some r) peers finishing h some = at_some stages.Returned account h.1.0
answer_kept (Some (progress.Taken taker)) account kept peers finishing h some = at_some stages.Open account h.2
answer_kept (Some progress.Given) account kept peers finishing h some = at_some stages.Returned account h.2
answer_kept (Some progress.GivenUp) account kept peers finishing h some = at_some stages.Finished account h.2

agrees : (most : ℕ) (past : List Traffic) (t : Tails) (vat : Accounts) → Holds most past t vat → t.owed ≡ [] → CountsAgree most past t vat
agrees most past t vat h settled =
    record {
      exports = λ e fair. omega (arith, h.exports e fair, nothing e);
      imports = h.imports;
      given_fairly = h.given_fairly;
      params = h.params;
      kept = λ q some. answer_kept (get t.calls q) (vat.answers q) (get t.results q) (results_of past q) (any (is_finish_of q) t.owed) (h.answers q) some;
    }
  where
    nothing : (e : ℕ) → lowers_all e vat t.owed ≡ 0
    nothing e = rw (settled) refl

pub turns_count : TurnsCount
turns_count most past last vat lived settled numbered = by (all_live most past last vat lived numbered)
  where
    by : Lives most (peer_past past) last vat → CountsAgree most (peer_past past) last vat
    by (inl h) = agrees most (peer_past past) last vat h settled
    by (inr doomed) = doomed_settled last vat doomed settled
