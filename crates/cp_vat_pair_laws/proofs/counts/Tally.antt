-- Accounts beside what the Ledger says of the messages: they stay the same with each message that is sent or comes.
use Rattle.std.specs.Prelude.{◌≡◌, refl, ℕ, if◌then◌else◌, Bool, true, false, List, [], ◌∷◌, Option, Some, None, is_some, IsTrue}
use Rattle.std.proofs.Common.{arith, ap, sym, true≢false}
use Rattle.cp_tables.specs.declared.exchange.Stage.{Stage}
use Rattle.cp_tables.specs.declared.exchange.Stage.TheVariants as stages
use Rattle.cp_messages.specs.declared.message.Message.{Message}
use Rattle.cp_messages.specs.declared.message.Message.TheVariants as messages
use Rattle.cp_vat_machine.specs.Receiving.{times}
use Rattle.cp_vat_machine.proofs.Basics.{some_out, none_out}
use Rattle.cp_vat_pair_laws.specs.Ledger.{Traffic, came, sent, named_by, opens, returns_to, finishes, params_of, results_of, lowered_times, export_count, is_finished, taken_by, import_count, stage_returned, stage_finished, question_stage, answer_stage}
use Rattle.cp_vat_pair_laws.specs.Accounts.{Account, Accounts, is_finish_noted, is_given_up, taken_in, results_at, results_in, params_in, lowerable, lowered_by, new_account, asked, is_releasing, given_up_at, question_finished, given_at, answer_given, Sent, return_noted, question_returned, finish_noted, answer_finished, Came}

-- a question's account: its stage, the exports that its params named, and whether it was finished
abbrev pub IsQuestion : Option Stage → List ℕ → Bool → Option Account → Type 0
IsQuestion stage params finished None = stage ≡ None
IsQuestion stage params finished (Some account) = (stage ≡ Some account.stage) × (params ≡ account.kept) × (finished ≡ is_finish_noted account.stage)

-- an answer's account: its stage, and the exports that its results named
abbrev pub IsAnswer : Option Stage → List ℕ → Option Account → Type 0
IsAnswer stage results None = stage ≡ None
IsAnswer stage results (Some account) = (stage ≡ Some account.stage) × (results ≡ results_at account.stage account.kept)

-- accounts that are what the Ledger says
pub record Tallies (past : List Traffic) (accounts : Accounts) : Type 0 where
  pub exports : (e : ℕ) → accounts.exports e ≡ export_count past e
  pub imports : (i : ℕ) → accounts.imports i ≡ import_count past i
  pub questions : (q : ℕ) → IsQuestion (question_stage past q) (params_of past q) (is_finished past q) (accounts.questions q)
  pub answers : (a : ℕ) → IsAnswer (answer_stage past a) (results_of past a) (accounts.answers a)

-- a message is sent
never_both : (q : ℕ) (m : Message) → opens q m ≡ true → finishes q m ≡ true → ⊥
never_both q (messages.Unimplemented t) opened finished = true≢false (sym opened)
never_both q (messages.Abort x) opened finished = true≢false (sym opened)
never_both q (messages.Call c) opened finished = true≢false (sym finished)
never_both q (messages.Return r) opened finished = true≢false (sym opened)
never_both q (messages.Finish f) opened finished = true≢false (sym opened)
never_both q (messages.Resolve r) opened finished = true≢false (sym opened)
never_both q (messages.Release r) opened finished = true≢false (sym opened)
never_both q (messages.Bootstrap b) opened finished = true≢false (sym finished)
never_both q (messages.Disembargo d) opened finished = true≢false (sym opened)
never_both q (messages.Other which body) opened finished = true≢false (sym opened)

finish_sent : (release : Bool) (at : Stage) (kept : List ℕ) (stage : Option Stage) (params : List ℕ) (new : Option Account) → stage ≡ Some at → params ≡ kept
    → given_up_at release at kept ≡ Some new → IsQuestion (stage_finished stage) params true new
finish_sent true stages.Open kept stage params new is named after = rw (← some_out after, is) (refl, named, refl)
finish_sent false stages.Open kept stage params new is named after = none_out after
finish_sent true stages.Returned kept stage params new is named after = none_out after
finish_sent false stages.Returned kept stage params new is named after = rw (← some_out after, is) refl
finish_sent true stages.Finished kept stage params new is named after = none_out after
finish_sent false stages.Finished kept stage params new is named after = none_out after

question_sent : (b c release : Bool) (named : List ℕ) (stage : Option Stage) (params : List ℕ) (finished : Bool) (old new : Option Account) → (b ≡ true → c ≡ true → ⊥)
    → IsQuestion stage params finished old → (if b then asked named old else (if c then question_finished release old else Some old)) ≡ Some new
    → IsQuestion (if b then Some stages.Open else (if c then stage_finished stage else stage)) (if b then named else params) (if c then true else (if b then false else finished)) new
question_sent true true release named stage params finished old new one is after = absurd (one refl refl)
question_sent true false release named stage params finished None new one is after = rw (← some_out after) (refl, refl, refl)
question_sent true false release named stage params finished (Some account) new one is after = none_out after
question_sent false true release named stage params finished None new one is after = none_out after
question_sent false true release named stage params finished (Some account) new one is after =
    finish_sent release account.stage account.kept stage params new is.0 is.1 after
question_sent false false release named stage params finished old new one is after = rw (← some_out after) is

return_sent : (at : Stage) (kept named : List ℕ) (stage : Option Stage) (new : Option Account) → stage ≡ Some at → given_at named at ≡ Some new
    → IsAnswer (stage_returned stage) named new
return_sent stages.Open kept named stage new is after = rw (← some_out after, is) (refl, refl)
return_sent stages.Returned kept named stage new is after = none_out after
return_sent stages.Finished kept [] stage new is after = rw (← some_out after, is) refl
return_sent stages.Finished kept (e ∷ named) stage new is after = none_out after

answer_sent : (b : Bool) (named : List ℕ) (stage : Option Stage) (results : List ℕ) (old new : Option Account) → IsAnswer stage results old
    → (if b then answer_given named old else Some old) ≡ Some new → IsAnswer (if b then stage_returned stage else stage) (if b then named else results) new
answer_sent true named stage results None new is after = none_out after
answer_sent true named stage results (Some account) new is after = return_sent account.stage account.kept named stage new is.0 after
answer_sent false named stage results old new is after = rw (← some_out after) is

pub sent_tallies : (past : List Traffic) (m : Message) (old new : Accounts) → Tallies past old → Sent old m new → Tallies (sent m ∷ past) new
sent_tallies past m old new is goes =
    record {
      exports = λ e. omega (arith, goes.exports e, is.exports e);
      imports = λ i. omega (arith, goes.imports i, is.imports i);
      questions = λ q. question_sent (opens q m) (finishes q m) (is_releasing m) (named_by m) (question_stage past q) (params_of past q) (is_finished past q) (old.questions q) (new.questions q)
          (never_both q m) (is.questions q) (goes.questions q);
      answers = λ a. answer_sent (returns_to a m) (named_by m) (answer_stage past a) (results_of past a) (old.answers a) (new.answers a) (is.answers a) (goes.answers a);
    }

-- a message comes: a Return is of a question that was sent, and a Finish of an answer that is kept
abbrev pub IsKnown : Accounts → Message → Type 0
IsKnown accounts (messages.Return r) = IsTrue (is_some (accounts.questions r.answer_id))
IsKnown accounts (messages.Finish f) = IsTrue (is_some (accounts.answers f.question_id))
IsKnown accounts other = Unit {0}

params_are : (stage : Option Stage) (params : List ℕ) (finished : Bool) (o : Option Account) → IsQuestion stage params finished o → IsTrue (is_some o) → params_in o ≡ params
params_are stage params finished None is known = absurd (true≢false (sym known))
params_are stage params finished (Some account) is known = sym is.1

finish_is : (stage : Option Stage) (params : List ℕ) (finished : Bool) (o : Option Account) → IsQuestion stage params finished o → IsTrue (is_some o) → is_given_up o ≡ finished
finish_is stage params finished None is known = absurd (true≢false (sym known))
finish_is stage params finished (Some account) is known = sym is.2

results_are : (stage : Option Stage) (results : List ℕ) (o : Option Account) → IsAnswer stage results o → IsTrue (is_some o) → results_in o ≡ results
results_are stage results None is known = absurd (true≢false (sym known))
results_are stage results (Some account) is known = sym is.1

module _ (past : List Traffic) (old : Accounts) (is : Tallies past old) where
  lowers_as : (m : Message) (e : ℕ) → IsKnown old m → lowered_by (lowerable old) m e ≡ lowered_times past m e
  lowers_as (messages.Return r) e known =
      rw (params_are _ _ _ (old.questions r.answer_id) (is.questions r.answer_id) known) refl
  lowers_as (messages.Finish f) e known =
      rw (results_are _ _ (old.answers f.question_id) (is.answers f.question_id) known) refl
  lowers_as (messages.Unimplemented t) e known = refl
  lowers_as (messages.Abort x) e known = refl
  lowers_as (messages.Call c) e known = refl
  lowers_as (messages.Resolve r) e known = refl
  lowers_as (messages.Release r) e known = refl
  lowers_as (messages.Bootstrap b) e known = refl
  lowers_as (messages.Disembargo d) e known = refl
  lowers_as (messages.Other which body) e known = refl

  takes_as : (m : Message) → IsKnown old m → taken_in old.questions m ≡ taken_by past m
  takes_as (messages.Return r) known = rw (finish_is _ _ _ (old.questions r.answer_id) (is.questions r.answer_id) known) refl
  takes_as (messages.Finish f) known = refl
  takes_as (messages.Unimplemented t) known = refl
  takes_as (messages.Abort x) known = refl
  takes_as (messages.Call c) known = refl
  takes_as (messages.Resolve r) known = refl
  takes_as (messages.Release r) known = refl
  takes_as (messages.Bootstrap b) known = refl
  takes_as (messages.Disembargo d) known = refl
  takes_as (messages.Other which body) known = refl

return_came : (at : Stage) (kept : List ℕ) (stage : Option Stage) (params : List ℕ) (finished : Bool) → stage ≡ Some at → params ≡ kept → finished ≡ is_finish_noted at
    → IsQuestion (stage_returned stage) params finished (return_noted at kept)
return_came stages.Open kept stage params finished is named noted = rw (is) (refl, named, noted)
return_came stages.Returned kept stage params finished is named noted = rw (is) (refl, named, noted)
return_came stages.Finished kept stage params finished is named noted = rw (is) refl

question_came : (b : Bool) (stage : Option Stage) (params : List ℕ) (finished : Bool) (old : Option Account) → IsQuestion stage params finished old
    → IsQuestion (if b then stage_returned stage else stage) params finished (if b then question_returned old else old)
question_came true stage params finished None is = rw (is) refl
question_came true stage params finished (Some account) is = return_came account.stage account.kept stage params finished is.0 is.1 is.2
question_came false stage params finished old is = is

finish_came : (at : Stage) (kept : List ℕ) (stage : Option Stage) (results : List ℕ) → stage ≡ Some at → results ≡ results_at at kept
    → IsAnswer (stage_finished stage) results (finish_noted at kept)
finish_came stages.Open kept stage results is named = rw (is) (refl, named)
finish_came stages.Returned kept stage results is named = rw (is) refl
finish_came stages.Finished kept stage results is named = rw (is) (refl, named)

answer_came : (b c : Bool) (stage : Option Stage) (results : List ℕ) (old : Option Account) → IsAnswer stage results old
    → IsAnswer (if b then Some stages.Open else (if c then stage_finished stage else stage)) (if b then [] else results)
    (if b then Some (new_account []) else (if c then answer_finished old else old))
answer_came true c stage results old is = (refl, refl)
answer_came false true stage results None is = rw (is) refl
answer_came false true stage results (Some account) is = finish_came account.stage account.kept stage results is.0 is.1
answer_came false false stage results old is = is

pub came_tallies : (past : List Traffic) (m : Message) (old new : Accounts) → Tallies past old → IsKnown old m → Came old m new → Tallies (came m ∷ past) new
came_tallies past m old new is known comes =
    record {
      exports = λ e. omega (arith, comes.exports e, is.exports e, lowers_as past old is m e known);
      imports = λ i. omega (arith, comes.imports i, is.imports i, ap (times i) (takes_as past old is m known));
      questions = λ q. rw (comes.questions q) (question_came (returns_to q m) (question_stage past q) (params_of past q) (is_finished past q) (old.questions q) (is.questions q));
      answers = λ a. rw (comes.answers a) (answer_came (opens a m) (finishes a m) (answer_stage past a) (results_of past a) (old.answers a) (is.answers a));
    }
