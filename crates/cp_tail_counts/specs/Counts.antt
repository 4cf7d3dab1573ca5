-- What the vat behind tail calls counts, and what its peer does. (rpc.capnp: "CapDescriptor", "Release", "Finish.releaseResultCaps", "Return.releaseParamCaps".)
use Rattle.std.specs.Prelude.{◌≡◌, ℕ, zero, suc, ◌+◌, ◌<◌, ◌≤◌, true, if◌then◌else◌, List, [], ◌∷◌, Option, Some, None, is_some, IsTrue}
use Rattle.std.specs.List.{AllByRecursion}
use Rattle.std.specs.Option.{option_map_or}
use Rattle.std.specs.FinMap.{get}
use Rattle.cp_vat_machine.specs.Receiving.{times}
use Rattle.cp_vat_pair_laws.specs.Ledger.{Traffic, opens, lowered_times, export_count, given_up, import_count}
use Rattle.cp_vat_pair_laws.specs.Ledger as ledger
use Rattle.cp_vat_pair_laws.specs.Accounts.{Accounts, params_in, results_in}
use Rattle.cp_tail_calls.specs.declared.progress.Progress.{Progress}
use Rattle.cp_tail_calls.specs.declared.progress.Progress.TheVariants as progress
use Rattle.cp_tail_calls.specs.Runs.{Turn}
use Rattle.cp_tail_calls.specs.Tails.{Tails}
use Rattle.cp_tail_counts.specs.Peer.{peer_past}
use Rattle.cp_tail_counts.specs.Behind.{KeepsParams, Lived}

-- A question that takes results which aren't there: the peer may have lowered already what its params named.
abbrev pub owed_to : ℕ → Accounts → Progress → ℕ
owed_to e vat (progress.Taken taker) = if taker.release_param_caps then times e (params_in (vat.questions taker.question)) else 0
owed_to e vat other = 0

-- How often tail calls still have to lower an export, for a call with results to its sender: as often as its results name it, which the peer never got, and as
-- often as the params did of the question that takes them.
abbrev pub owed_for : ℕ → Accounts → ℕ → Option Progress → ℕ
owed_for e vat q None = 0
owed_for e vat q (Some how) = times e (results_in (vat.answers q)) + owed_to e vat how

-- over all numbers below this
abbrev pub sum_below : (ℕ → ℕ) → ℕ → ℕ
sum_below f zero = 0
sum_below f (suc n) = sum_below f n + f n

-- for all calls, whose numbers are below this
abbrev pub owed_below : ℕ → ℕ → Accounts → Tails → ℕ
owed_below most e vat t = sum_below (λ q. owed_for e vat q (get t.calls q)) most

-- how often an import was lent
abbrev pub lent_of : Tails → ℕ → ℕ
lent_of t i = option_map_or (λ n. n) (get t.lent i) 0

-- The peer never lowered an export by more than it counted of it.
abbrev pub IsFair : ℕ → List Traffic → Type 0
IsFair e [] = Unit {0}
IsFair e (ledger.sent m ∷ past) = IsFair e past
IsFair e (ledger.came m ∷ past) = (lowered_times past m e ≤ export_count past e) × IsFair e past

-- The peer never heard a Release of more than it counted of an import.
abbrev pub IsGivenFairly : ℕ → List Traffic → Type 0
IsGivenFairly i [] = Unit {0}
IsGivenFairly i (ledger.sent m ∷ past) = (given_up m i ≤ import_count past i) × IsGivenFairly i past
IsGivenFairly i (ledger.came m ∷ past) = IsGivenFairly i past

-- No Return that the peer heard gives back what its params named: Releases do.
abbrev pub ParamsStay : List Traffic → Type 0
ParamsStay [] = Unit {0}
ParamsStay (ledger.sent m ∷ past) = KeepsParams m × ParamsStay past
ParamsStay (ledger.came m ∷ past) = ParamsStay past

-- The questions of the peer have numbers below this, and those of the vat below the one that stands for no question.
abbrev pub IsNumbered : ℕ → Traffic → Type 0
IsNumbered most (ledger.came m) = (q : ℕ) → opens q m ≡ true → q < most
IsNumbered most (ledger.sent m) = (q : ℕ) → opens q m ≡ true → q < 4294967295

-- The vat counts an export as often as the peer does, and as often as tail calls still have to lower it. It counts an import as often as the peer does, and as
-- often as it was lent, and the peer never heard of more that is given back. The vat keeps an answer for each call that tail calls keep.
pub record CountsAgree (most : ℕ) (past : List Traffic) (t : Tails) (vat : Accounts) : Type 0 where
  pub exports : (e : ℕ) → IsFair e past → vat.exports e ≡ export_count past e + owed_below most e vat t
  pub imports : (i : ℕ) → vat.imports i ≡ import_count past i + lent_of t i
  pub given_fairly : (i : ℕ) → IsGivenFairly i past
  pub params : ParamsStay past
  pub kept : (q : ℕ) → IsTrue (is_some (get t.calls q)) → IsTrue (is_some (vat.answers q))

-- So it is after all turns, when nothing is to be passed on.
abbrev pub TurnsCount : Type 0
TurnsCount =
    (most : ℕ) (past : List Turn) (last : Tails) (vat : Accounts) → Lived past last vat → last.owed ≡ [] → AllByRecursion (IsNumbered most) (peer_past past)
    → CountsAgree most (peer_past past) last vat
