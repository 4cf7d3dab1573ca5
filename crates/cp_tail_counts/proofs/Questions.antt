-- What the vat sends, and what comes, as its questions see it.
use Rattle.std.specs.Prelude.{◌≡◌, refl, ℕ, ◌<◌, if◌then◌else◌, Bool, true, false, List, Option, Some, None}
use Rattle.cp_tables.specs.declared.exchange.Stage.{Stage}
use Rattle.cp_tables.specs.declared.exchange.Stage.TheVariants as stages
use Rattle.cp_vat_machine.proofs.Basics.{some_out, none_out}
use Rattle.cp_vat_pair_laws.specs.Accounts.{Account, is_finish_noted, is_given_up, params_in, asked, given_up_at, question_finished, return_noted, question_returned}
use Rattle.cp_vat_pair_laws.specs.Expected.{IsAwaited, IsNotReturned}
use Rattle.cp_tail_counts.proofs.Holds.{IsAskedAs}

-- a question that waits goes on waiting, and its params named the same
abbrev pub Stays : Option Account → Option Account → Type 0
Stays old new = IsAwaited old → IsAwaited new × (params_in new ≡ params_in old)

-- ---- a Call or a Bootstrap opens one
pub asked_open : (b : Bool) (named params : List ℕ) (finished : Bool) (q : ℕ) (old new : Option Account) → (b ≡ true → q < 4294967295)
    → IsAskedAs params finished q old → (if b then asked named old else Some old) ≡ Some new
    → IsAskedAs (if b then named else params) (if b then false else finished) q new
asked_open true named params finished q None new small is after = rw (← some_out after) (refl, refl, small refl)
asked_open true named params finished q (Some account) new small is after = none_out after
asked_open false named params finished q old new small is after = rw (← some_out after) is

pub stays_open : (b : Bool) (named : List ℕ) (old new : Option Account) → (if b then asked named old else Some old) ≡ Some new → Stays old new
stays_open true named None new after due = absurd due
stays_open true named (Some account) new after due = none_out after
stays_open false named old new after due = rw (← some_out after) (due, refl)

-- ---- a Finish gives one up
finish_by : (release : Bool) (at : Stage) (kept params : List ℕ) (q : ℕ) (new : Option Account) → params ≡ kept → q < 4294967295
    → given_up_at release at kept ≡ Some new → IsAskedAs params true q new
finish_by true stages.Open kept params q new named small after = rw (← some_out after) (named, refl, small)
finish_by false stages.Open kept params q new named small after = none_out after
finish_by true stages.Returned kept params q new named small after = none_out after
finish_by false stages.Returned kept params q new named small after = rw (← some_out after) tt
finish_by true stages.Finished kept params q new named small after = none_out after
finish_by false stages.Finished kept params q new named small after = none_out after

pub asked_finish : (b release : Bool) (params : List ℕ) (finished : Bool) (q : ℕ) (old new : Option Account) → IsAskedAs params finished q old
    → (if b then question_finished release old else Some old) ≡ Some new → IsAskedAs params (if b then true else finished) q new
asked_finish true release params finished q None new is after = none_out after
asked_finish true release params finished q (Some account) new is after = finish_by release account.stage account.kept params q new is.0 is.2 after
asked_finish false release params finished q old new is after = rw (← some_out after) is

stays_by : (release : Bool) (at : Stage) (kept : List ℕ) (new : Option Account) → given_up_at release at kept ≡ Some new → IsNotReturned at
    → IsAwaited new × (params_in new ≡ kept)
stays_by true stages.Open kept new after due = rw (← some_out after) (tt, refl)
stays_by false stages.Open kept new after due = none_out after
stays_by release stages.Returned kept new after due = absurd due
stays_by true stages.Finished kept new after due = none_out after
stays_by false stages.Finished kept new after due = none_out after

pub stays_finish : (b release : Bool) (old new : Option Account) → (if b then question_finished release old else Some old) ≡ Some new → Stays old new
stays_finish true release None new after due = absurd due
stays_finish true release (Some account) new after due = stays_by release account.stage account.kept new after due
stays_finish false release old new after due = rw (← some_out after) (due, refl)

-- ---- a Return comes
return_by : (at : Stage) (kept params : List ℕ) (finished : Bool) (q : ℕ) → params ≡ kept → finished ≡ is_finish_noted at → q < 4294967295
    → IsAskedAs params finished q (return_noted at kept)
return_by stages.Open kept params finished q named noted small = (named, noted, small)
return_by stages.Returned kept params finished q named noted small = (named, noted, small)
return_by stages.Finished kept params finished q named noted small = tt

pub asked_return : (b : Bool) (params : List ℕ) (finished : Bool) (q : ℕ) (old : Option Account) → IsAskedAs params finished q old
    → IsAskedAs params finished q (if b then question_returned old else old)
asked_return true params finished q None is = tt
asked_return true params finished q (Some account) is = return_by account.stage account.kept params finished q is.0 is.1 is.2
asked_return false params finished q old is = is

-- ---- what the peer knows of a question that waits
pub params_known : (params : List ℕ) (finished : Bool) (q : ℕ) (o : Option Account) → IsAskedAs params finished q o → IsAwaited o → params ≡ params_in o
params_known params finished q None is due = absurd due
params_known params finished q (Some account) is due = is.0

pub finish_known : (params : List ℕ) (finished : Bool) (q : ℕ) (o : Option Account) → IsAskedAs params finished q o → IsAwaited o → finished ≡ is_given_up o
finish_known params finished q None is due = absurd due
finish_known params finished q (Some account) is due = is.1

pub small_known : (params : List ℕ) (finished : Bool) (q : ℕ) (o : Option Account) → IsAskedAs params finished q o → IsAwaited o → q < 4294967295
small_known params finished q None is due = absurd due
small_known params finished q (Some account) is due = is.2
