-- A vat's accounts: the counts of its exports and imports, and the stages of its questions and answers. (rpc.capnp: "Four Tables", "Release", "Return", "Finish".)
use Rattle.std.specs.Prelude.{◌≡◌, ℕ, ◌+◌, ◌==◌, if◌then◌else◌, Bool, true, false, List, [], ◌∷◌, Option, Some, None}
use Rattle.std.specs.FinMap.{get}
use Rattle.cp_tables.specs.Counted.{count_of}
use Rattle.cp_tables.specs.Exchange.{new_exchange}
use Rattle.cp_tables.specs.declared.exchange.Exchange.{Exchange}
use Rattle.cp_tables.specs.declared.exchange.Stage.{Stage}
use Rattle.cp_tables.specs.declared.exchange.Stage.TheVariants as stages
use Rattle.cp_messages.specs.declared.message.Message.{Message}
use Rattle.cp_messages.specs.declared.message.Message.TheVariants as messages
use Rattle.cp_vat_machine.specs.State.{State}
use Rattle.cp_vat_machine.specs.Receiving.{times}
use Rattle.cp_vat_machine.specs.Give.{returned_mentions}
use Rattle.cp_vat_machine.specs.Resolving.{told}
use Rattle.cp_vat_machine.specs.declared.entry.AnswerEntry.{AnswerEntry}
use Rattle.cp_vat_machine.specs.declared.entry.QuestionEntry.{QuestionEntry}
use Rattle.cp_vat_pair_laws.specs.Ledger.{named_by, opens, returns_to, finishes, given_up, resolve_named}

-- a question or an answer: its stage, and the exports that its params or its results named
abbrev pub Account : Type 0
Account = Exchange (List ℕ)

-- how often each export was named and not lowered, and each import was taken and not given up; and the questions and answers, by their numbers
pub record Accounts : Type 0 where
  pub exports : ℕ → ℕ
  pub imports : ℕ → ℕ
  pub questions : ℕ → Option Account
  pub answers : ℕ → Option Account

-- A question that wasn't sent is none to the peer.
abbrev pub asked_account : Option (Exchange QuestionEntry) → Option Account
asked_account None = None
asked_account (Some entry) = if entry.kept.is_sent then Some (record { stage = entry.stage; kept = entry.kept.mentions }) else None

abbrev pub kept_account : Option (Exchange AnswerEntry) → Option Account
kept_account None = None
kept_account (Some entry) = Some (record { stage = entry.stage; kept = entry.kept.mentions })

abbrev pub accounts_of : State → Accounts
accounts_of s =
    record {
      exports = λ e. count_of s.counts.exports e;
      imports = λ i. count_of s.counts.imports i;
      questions = λ q. asked_account (get s.entries.questions q);
      answers = λ a. kept_account (get s.entries.answers a);
    }

-- a question that was finished before its Return came
abbrev pub is_finish_noted : Stage → Bool
is_finish_noted stages.Finished = true
is_finish_noted other = false

abbrev pub is_given_up : Option Account → Bool
is_given_up None = false
is_given_up (Some account) = is_finish_noted account.stage

-- the imports that a message names, as they are taken in: of a question that was given up nothing is
abbrev pub taken_in : (ℕ → Option Account) → Message → List ℕ
taken_in questions (messages.Return r) = if is_given_up (questions r.answer_id) then [] else returned_mentions r.returned
taken_in questions other = named_by other

-- the exports that the results of an answer named, if its Return was sent
abbrev pub results_at : Stage → List ℕ → List ℕ
results_at stages.Returned mentions = mentions
results_at other mentions = []

abbrev pub results_in : Option Account → List ℕ
results_in None = []
results_in (Some account) = results_at account.stage account.kept

-- the exports that the params of a question named
abbrev pub params_in : Option Account → List ℕ
params_in None = []
params_in (Some account) = account.kept

-- the lists that messages may lower exports by: the params of each question, and the results of each answer
pub record Lowerable : Type 0 where
  pub params : ℕ → List ℕ
  pub results : ℕ → List ℕ

abbrev pub lowerable : Accounts → Lowerable
lowerable accounts = record { params = λ q. params_in (accounts.questions q); results = λ a. results_in (accounts.answers a) }

-- How much a message lowers an export: a Release by its count, a Return and a Finish that ask for it by the params or the results, and a Resolve
-- that the peer doesn't know by what it named.
abbrev pub lowered_by : Lowerable → Message → ℕ → ℕ
lowered_by lists (messages.Release r) e = if r.id == e then r.reference_count else 0
lowered_by lists (messages.Return r) e = if r.release_param_caps then times e (lists.params r.answer_id) else 0
lowered_by lists (messages.Finish f) e = if f.release_result_caps then times e (lists.results f.question_id) else 0
lowered_by lists (messages.Unimplemented t) e = times e (resolve_named (told t))
lowered_by lists other e = 0

-- After a Finish its number has no results: the next Finish of that number is about another answer.
abbrev pub results_after : Message → (ℕ → List ℕ) → ℕ → List ℕ
results_after m results a = if finishes a m then [] else results a

abbrev pub lowerable_after : Message → Lowerable → Lowerable
lowerable_after m lists = record lists { results = results_after m lists.results }

-- a question or an answer that was opened just now, by a message that named these exports
abbrev pub new_account : List ℕ → Account
new_account mentions = new_exchange mentions

-- What a message does to a question that was sent: it is asked where there is none under its number, it is finished by true before its Return and by
-- false after it. Nothing else is done with questions.
abbrev pub asked : List ℕ → Option Account → Option (Option Account)
asked mentions None = Some (Some (new_account mentions))
asked mentions (Some account) = None

abbrev pub given_up_at : Bool → Stage → List ℕ → Option (Option Account)
given_up_at true stages.Open mentions = Some (Some (record { stage = stages.Finished; kept = mentions }))
given_up_at false stages.Returned mentions = Some None
given_up_at release other mentions = None

abbrev pub question_finished : Bool → Option Account → Option (Option Account)
question_finished release None = None
question_finished release (Some account) = given_up_at release account.stage account.kept

abbrev pub is_releasing : Message → Bool
is_releasing (messages.Finish f) = f.release_result_caps
is_releasing other = false

abbrev pub question_after : ℕ → Message → Option Account → Option (Option Account)
question_after q m account =
    if opens q m then asked (named_by m) account
    else (if finishes q m then question_finished (is_releasing m) account else Some account)

-- What a Return that is sent does to its answer: an open one is given, and one that was finished goes, by a Return that names nothing.
abbrev pub gone_by : List ℕ → Option (Option Account)
gone_by [] = Some None
gone_by (e ∷ mentions) = None

abbrev pub given_at : List ℕ → Stage → Option (Option Account)
given_at mentions stages.Open = Some (Some (record { stage = stages.Returned; kept = mentions }))
given_at mentions stages.Finished = gone_by mentions
given_at mentions stages.Returned = None

abbrev pub answer_given : List ℕ → Option Account → Option (Option Account)
answer_given mentions None = None
answer_given mentions (Some account) = given_at mentions account.stage

abbrev pub answer_after : ℕ → Message → Option Account → Option (Option Account)
answer_after a m account = if returns_to a m then answer_given (named_by m) account else Some account

-- A message was sent: exports count what it names, imports what it gives up.
pub record Sent (old : Accounts) (m : Message) (new : Accounts) : Type 0 where
  pub exports : (e : ℕ) → new.exports e ≡ old.exports e + times e (named_by m)
  pub imports : (i : ℕ) → old.imports i ≡ new.imports i + given_up m i
  pub questions : (q : ℕ) → question_after q m (old.questions q) ≡ Some (new.questions q)
  pub answers : (a : ℕ) → answer_after a m (old.answers a) ≡ Some (new.answers a)

-- What a message that came does to a question: its Return is noted, and with its Finish it is gone.
abbrev pub return_noted : Stage → List ℕ → Option Account
return_noted stages.Finished mentions = None
return_noted other mentions = Some (record { stage = stages.Returned; kept = mentions })

abbrev pub question_returned : Option Account → Option Account
question_returned None = None
question_returned (Some account) = return_noted account.stage account.kept

abbrev pub question_heard : ℕ → Message → Option Account → Option Account
question_heard q m account = if returns_to q m then question_returned account else account

-- What it does to an answer: it opens one, or its Finish is noted, and with its Return it is gone.
abbrev pub finish_noted : Stage → List ℕ → Option Account
finish_noted stages.Returned mentions = None
finish_noted other mentions = Some (record { stage = stages.Finished; kept = mentions })

abbrev pub answer_finished : Option Account → Option Account
answer_finished None = None
answer_finished (Some account) = finish_noted account.stage account.kept

abbrev pub answer_heard : ℕ → Message → Option Account → Option Account
answer_heard a m account = if opens a m then Some (new_account []) else (if finishes a m then answer_finished account else account)

-- A message came: imports count what is taken in, exports are lowered.
pub record Came (old : Accounts) (m : Message) (new : Accounts) : Type 0 where
  pub exports : (e : ℕ) → old.exports e ≡ new.exports e + lowered_by (lowerable old) m e
  pub imports : (i : ℕ) → new.imports i ≡ old.imports i + times i (taken_in old.questions m)
  pub questions : (q : ℕ) → new.questions q ≡ question_heard q m (old.questions q)
  pub answers : (a : ℕ) → new.answers a ≡ answer_heard a m (old.answers a)
