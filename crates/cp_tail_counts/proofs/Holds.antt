-- What holds after each turn of tail calls: of what they keep, of the vat's accounts, and of what the peer said and heard.
use Rattle.std.specs.Prelude.{◌≡◌, refl, ℕ, ◌+◌, ◌<◌, ◌==◌, ◌||◌, ◌⊎◌, Bool, true, false, if◌then◌else◌, List, [], ◌∷◌, ◌++◌, Option, Some, None, is_some, IfSome, IsTrue}
use Rattle.std.specs.FinMap.{get}
use Rattle.std.proofs.Common.{arith, true≢false, sym, ap, subst}
use Rattle.cp_tables.specs.Table.{Table}
use Rattle.cp_tables.specs.declared.exchange.Stage.{Stage}
use Rattle.cp_tables.specs.declared.exchange.Stage.TheVariants as stages
use Rattle.cp_messages.specs.declared.message.Message.TheVariants as messages
use Rattle.cp_messages.specs.declared.returned.Return.{Return}
use Rattle.cp_messages.specs.declared.returned.Returned.{Returned}
use Rattle.cp_messages.specs.declared.small.Finish.{Finish}
use Rattle.cp_vat_machine.specs.Receiving.{times}
use Rattle.cp_vat_machine.specs.Supported.{is_supported_returned}
use Rattle.cp_vat_machine.proofs.Basics.{or_first, or_second, is_equal}
use Rattle.cp_vat_pair_laws.specs.Ledger.{Traffic, params_of, results_of, export_count, is_finished, import_count}
use Rattle.cp_vat_pair_laws.specs.Accounts.{Account, Accounts, is_finish_noted, results_at, results_in, params_in}
use Rattle.cp_vat_pair_laws.specs.Expected.{IsAwaited}
use Rattle.cp_tail_calls.specs.declared.forwarding.ForwardedMessage.{ForwardedMessage}
use Rattle.cp_tail_calls.specs.declared.forwarding.ForwardedMessage.TheVariants as owed
use Rattle.cp_tail_calls.specs.declared.progress.Progress.{Progress}
use Rattle.cp_tail_calls.specs.declared.progress.Progress.TheVariants as progress
use Rattle.cp_tail_calls.specs.Receiving.{sent_elsewhere}
use Rattle.cp_tail_calls.specs.Seen.{seen_from_here}
use Rattle.cp_tail_calls.specs.Tails.{Tails}
use Rattle.cp_tail_counts.specs.Counts.{owed_below, lent_of, IsFair, IsGivenFairly, ParamsStay}

-- ---- what is to be passed on
-- so is one of them
abbrev pub any : (ForwardedMessage → Bool) → List ForwardedMessage → Bool
any test [] = false
any test (o ∷ os) = test o || any test os

abbrev pub returns_one : (ℕ → Bool) → ForwardedMessage → Bool
returns_one test (owed.ToVat (messages.Return r)) = test r.answer_id
returns_one test other = false

abbrev pub is_finish_of : ℕ → ForwardedMessage → Bool
is_finish_of q (owed.ToVat (messages.Finish f)) = f.question_id == q
is_finish_of q other = false

-- how often it lowers an export
abbrev pub lowers : ℕ → Accounts → ForwardedMessage → ℕ
lowers e vat (owed.ToVat (messages.Return r)) = if r.release_param_caps then times e (params_in (vat.questions r.answer_id)) else 0
lowers e vat (owed.ToVat (messages.Finish f)) = times e (results_in (vat.answers f.question_id))
lowers e vat other = 0

abbrev pub lowers_all : ℕ → Accounts → List ForwardedMessage → ℕ
lowers_all e vat [] = 0
lowers_all e vat (o ∷ os) = lowers e vat o + lowers_all e vat os

-- an account is at this stage
abbrev pub IsAt : Stage → Option Account → Type 0
IsAt stage None = ⊥
IsAt stage (Some account) = account.stage ≡ stage

-- The Return of a question is due, and its results are as the peer would send them. A Finish is that of an answer that was given, of which nothing is kept.
-- The peer is told of a call that is kept, or that is gone.
abbrev pub IsRight : Table Progress → Table ℕ → Accounts → ForwardedMessage → Type 0
IsRight calls takers vat (owed.ToPeer m) =
    (q : ℕ) × (m ≡ sent_elsewhere q false) × ((get calls q ≡ Some progress.Given) ⊎ (vat.answers q ≡ None))
IsRight calls takers vat (owed.ToVat (messages.Return r)) =
    IsAwaited (vat.questions r.answer_id) × (get takers r.answer_id ≡ None) × IsTrue (is_supported_returned r.returned)
    × ((x : Returned) × (r.returned ≡ seen_from_here x))
IsRight calls takers vat (owed.ToVat (messages.Finish f)) =
    (f.release_result_caps ≡ true) × (get calls f.question_id ≡ None) × IsAt stages.Returned (vat.answers f.question_id)
IsRight calls takers vat (owed.ToVat other) = ⊥

-- it is passed on once
abbrev pub IsOnce : ForwardedMessage → List ForwardedMessage → Type 0
IsOnce (owed.ToVat (messages.Return r)) os = any (returns_one (λ q. q == r.answer_id)) os ≡ false
IsOnce (owed.ToVat (messages.Finish f)) os = any (is_finish_of f.question_id) os ≡ false
IsOnce other os = Unit {0}

abbrev pub AreRight : Table Progress → Table ℕ → Accounts → List ForwardedMessage → Type 0
AreRight calls takers vat [] = Unit {0}
AreRight calls takers vat (o ∷ os) = IsRight calls takers vat o × IsOnce o os × AreRight calls takers vat os

-- ---- calls
-- Results that are kept are those of an answer that was given.
abbrev pub Waits : Option Return → Option Account → Type 0
Waits None account = IsAt stages.Open account
Waits (Some r) account = IsAt stages.Returned account × IsTrue (is_supported_returned r.returned) × (r.release_param_caps ≡ false)

-- An answer without a tail call is as the peer knows it, or its Finish is to be passed on. To the peer, a tail call has no results.
abbrev pub Plainly : Bool → Option Account → List ℕ → Type 0
Plainly true account peers = Unit {0}
Plainly false account peers = IfSome account (λ a. peers ≡ results_at a.stage a.kept)

abbrev pub IsKeptAs : Option Progress → Option Account → Option Return → List ℕ → Bool → Type 0
IsKeptAs None account kept peers finishing = (kept ≡ None) × Plainly finishing account peers
IsKeptAs (Some progress.Untaken) account kept peers finishing = (peers ≡ []) × Waits kept account
IsKeptAs (Some (progress.Taken taker)) account kept peers finishing = (peers ≡ []) × (kept ≡ None) × IsAt stages.Open account
IsKeptAs (Some progress.Given) account kept peers finishing = (peers ≡ []) × (kept ≡ None) × IsAt stages.Returned account
IsKeptAs (Some progress.GivenUp) account kept peers finishing = (peers ≡ []) × (kept ≡ None) × IsAt stages.Finished account

-- a question that takes results: its Return is due
abbrev pub IsTakers : Table ℕ → Accounts → ℕ → Progress → Type 0
IsTakers takers vat q (progress.Taken taker) = (get takers taker.question ≡ Some q) × IsAwaited (vat.questions taker.question)
IsTakers takers vat q other = Unit {0}

-- ---- questions
abbrev pub IsAskedAs : List ℕ → Bool → ℕ → Option Account → Type 0
IsAskedAs params finished q None = Unit {0}
IsAskedAs params finished q (Some account) = (params ≡ account.kept) × (finished ≡ is_finish_noted account.stage) × (q < 4294967295)

pub record Holds (most : ℕ) (past : List Traffic) (t : Tails) (vat : Accounts) : Type 0 where
  pub exports : (e : ℕ) → IsFair e past → vat.exports e ≡ export_count past e + (owed_below most e vat t + lowers_all e vat t.owed)
  pub imports : (i : ℕ) → vat.imports i ≡ import_count past i + lent_of t i
  pub given_fairly : (i : ℕ) → IsGivenFairly i past
  pub params : ParamsStay past
  pub questions : (q : ℕ) → IsAskedAs (params_of past q) (is_finished past q) q (vat.questions q)
  pub answers : (q : ℕ) → IsKeptAs (get t.calls q) (vat.answers q) (get t.results q) (results_of past q) (any (is_finish_of q) t.owed)
  pub takers : (q : ℕ) → IfSome (get t.calls q) (IsTakers t.takers vat q)
  pub owed : AreRight t.calls t.takers vat t.owed
  pub below : (q : ℕ) → IsTrue (is_some (get t.calls q)) → q < most

-- ---- lists of what is to be passed on
pub any_append : (test : ForwardedMessage → Bool) (os more : List ForwardedMessage) → any test os ≡ false → any test more ≡ false → any test (os ++ more) ≡ false
any_append test [] more h k = k
any_append test (o ∷ os) more h k =
    rw (or_first (test o) (any test os) h) (any_append test os more (or_second (test o) (any test os) h) k)

pub any_more : (test : ForwardedMessage → Bool) (os more : List ForwardedMessage) → any test more ≡ false → any test (os ++ more) ≡ any test os
any_more test [] more k = k
any_more test (o ∷ os) more k = ap (λ (b : Bool). test o || b) (any_more test os more k)

pub lowers_append : (e : ℕ) (vat : Accounts) (os more : List ForwardedMessage) → lowers_all e vat (os ++ more) ≡ lowers_all e vat os + lowers_all e vat more
lowers_append e vat [] more = omega arith
lowers_append e vat (o ∷ os) more = omega (arith, lowers_append e vat os more)

-- What is right stays so, and lowers as much, where each that passes a test does.
module _ (calls mores : Table Progress) (takers takings : Table ℕ) (old new : Accounts) where
  pub stay_right : (test : ForwardedMessage → Bool) (os : List ForwardedMessage) → any test os ≡ false
      → ((o : ForwardedMessage) → test o ≡ false → IsRight calls takers old o → IsRight mores takings new o) → AreRight calls takers old os → AreRight mores takings new os
  stay_right test [] none each right = tt
  stay_right test (o ∷ os) none each right = (
    each o (or_first (test o) (any test os) none) right.0,
    right.1,
    stay_right test os (or_second (test o) (any test os) none) each right.2,
  )

  pub lower_same : (e : ℕ) (test : ForwardedMessage → Bool) (os : List ForwardedMessage) → any test os ≡ false
      → ((o : ForwardedMessage) → test o ≡ false → IsRight calls takers old o → lowers e new o ≡ lowers e old o) → AreRight calls takers old os
      → lowers_all e new os ≡ lowers_all e old os
  lower_same e test [] none each right = refl
  lower_same e test (o ∷ os) none each right =
      omega (
        arith,
        each o (or_first (test o) (any test os) none) right.0,
        lower_same e test os (or_second (test o) (any test os) none) each right.2,
      )

abbrev pub never : ForwardedMessage → Bool
never o = false

pub any_never : (os : List ForwardedMessage) → any never os ≡ false
any_never [] = refl
any_never (o ∷ os) = any_never os

pub returns_none : (os : List ForwardedMessage) → any (returns_one (λ q. false)) os ≡ false
returns_none [] = refl
returns_none (o ∷ os) = by o (returns_none os)
  where
    by : (o : ForwardedMessage) → any (returns_one (λ q. false)) os ≡ false → (returns_one (λ q. false) o || any (returns_one (λ q. false)) os) ≡ false
    by (owed.ToVat (messages.Return r)) rest = rest
    by o rest = rest

-- what is passed on once isn't among others that it isn't among
pub once_append : (o : ForwardedMessage) (os more : List ForwardedMessage) → IsOnce o os → IsOnce o more → IsOnce o (os ++ more)
once_append (owed.ToVat (messages.Return r)) os more h k = any_append (returns_one (λ q. q == r.answer_id)) os more h k
once_append (owed.ToVat (messages.Finish f)) os more h k = any_append (is_finish_of f.question_id) os more h k
once_append other os more h k = tt

-- more is passed on, of which nothing was to be
module _ (calls mores : Table Progress) (takers takings : Table ℕ) (old new : Accounts) where
  pub right_append : (os more : List ForwardedMessage) → AreRight mores takings new os → AreRight mores takings new more → AreRight calls takers old os
      → ((o : ForwardedMessage) → IsRight calls takers old o → IsOnce o more) → AreRight mores takings new (os ++ more)
  right_append [] more h k was once = k
  right_append (o ∷ os) more h k was once = (
    h.0,
    once_append o os more h.1 (once o was.0),
    right_append os more h.2 k was.2 once,
  )

pub any_back : (test : ForwardedMessage → Bool) (os more : List ForwardedMessage) → any test more ≡ true → any test (os ++ more) ≡ true
any_back test [] more k = k
any_back test (o ∷ os) more k = by (test o) (any_back test os more k)
  where
    by : (b : Bool) → any test (os ++ more) ≡ true → (b || any test (os ++ more)) ≡ true
    by true rest = refl
    by false rest = rest

-- a Finish that is to be passed on is that of an answer that was given
pub finish_there : (calls : Table Progress) (takers : Table ℕ) (vat : Accounts) (q : ℕ) (os : List ForwardedMessage) → AreRight calls takers vat os → any (is_finish_of q) os ≡ true
    → IsAt stages.Returned (vat.answers q)
finish_there calls takers vat q [] h is = absurd (true≢false (sym is))
finish_there calls takers vat q (o ∷ os) h is = first o h.0 is (finish_there calls takers vat q os h.2)
  where
    by : (f : Finish) (b : Bool) → (f.question_id == q) ≡ b → IsAt stages.Returned (vat.answers f.question_id) → (b || any (is_finish_of q) os) ≡ true
        → (any (is_finish_of q) os ≡ true → IsAt stages.Returned (vat.answers q)) → IsAt stages.Returned (vat.answers q)
    by f true t at is more = subst (λ (q : ℕ). IsAt stages.Returned (vat.answers q)) (is_equal f.question_id q t) at
    by f false t at is more = more is

    first : (o : ForwardedMessage) → IsRight calls takers vat o → (is_finish_of q o || any (is_finish_of q) os) ≡ true
        → (any (is_finish_of q) os ≡ true → IsAt stages.Returned (vat.answers q)) → IsAt stages.Returned (vat.answers q)
    first (owed.ToVat (messages.Finish f)) right is more = by f (f.question_id == q) refl right.2 is more
    first other right is more = more is

-- ---- results and params
pub open_names_none : (o : Option Account) → IsAt stages.Open o → results_in o ≡ []
open_names_none None at = absurd at
open_names_none (Some account) at = ap (λ (s : Stage). results_at s account.kept) at

pub finished_names_none : (o : Option Account) → IsAt stages.Finished o → results_in o ≡ []
finished_names_none None at = absurd at
finished_names_none (Some account) at = ap (λ (s : Stage). results_at s account.kept) at

-- a call that is kept has an answer
pub no_call : (how : Option Progress) (account : Option Account) (kept : Option Return) (peers : List ℕ) (finishing : Bool) → account ≡ None
    → IsKeptAs how account kept peers finishing → how ≡ None
no_call None account kept peers finishing none h = refl
no_call (Some progress.Untaken) account None peers finishing none h = absurd (rw (none) at h.1)
no_call (Some progress.Untaken) account (Some r) peers finishing none h = absurd (rw (none) at h.1.0)
no_call (Some (progress.Taken taker)) account kept peers finishing none h = absurd (rw (none) at h.2)
no_call (Some progress.Given) account kept peers finishing none h = absurd (rw (none) at h.2)
no_call (Some progress.GivenUp) account kept peers finishing none h = absurd (rw (none) at h.2)
