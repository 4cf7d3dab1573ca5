-- Outcomes that are given to whom a call's outcome is for, as the accounts see it.
use Rattle.std.specs.Prelude.{◌≡◌, refl, ℕ, ◌+◌, ◌==◌, if◌then◌else◌, Bool, true, false, List, [], ◌∷◌, Option, Some, Ok}
use Rattle.std.specs.FinMap.{get, insert, remove}
use Rattle.std.proofs.Common.{arith}
use Rattle.cp_tables.specs.Table.{Table}
use Rattle.cp_tables.specs.Counted.{count_of}
use Rattle.cp_tables.specs.declared.counted.Counted.{Counted}
use Rattle.cp_tables.specs.declared.exchange.Exchange.{Exchange}
use Rattle.cp_tables.specs.declared.exchange.Stage.{Stage}
use Rattle.cp_tables.specs.declared.exchange.Stage.TheVariants as stages
use Rattle.cp_messages.specs.declared.descriptor.Descriptor.{Descriptor}
use Rattle.cp_messages.specs.declared.returned.Returned.{Returned}
use Rattle.cp_messages.specs.declared.returned.Returned.TheVariants as returns
use Rattle.cp_messages.specs.declared.message.Message.TheVariants as messages
use Rattle.cp_refs.specs.declared.cap.Cap.{Cap}
use Rattle.cp_refs.specs.declared.call.Origin.{Origin}
use Rattle.cp_refs.specs.declared.call.Origin.TheVariants as origins
use Rattle.cp_refs.specs.declared.outcome.Outcome.{Outcome}
use Rattle.cp_refs.specs.declared.outcome.Outcome.TheVariants as outcomes
use Rattle.cp_vat_machine.specs.State.{State, with_exports}
use Rattle.cp_vat_machine.specs.Then.{Done}
use Rattle.cp_vat_machine.specs.InUse.{caps_of}
use Rattle.cp_vat_machine.specs.Receiving.{times}
use Rattle.cp_vat_machine.specs.Writing.{WritesDescriptors}
use Rattle.cp_vat_machine.specs.Give.{Returns, returned_mentions, given, gone, GiveBy, GiveAnswer, SettleTied, return_of, GiveOwnBy, GiveOwn, Give}
use Rattle.cp_vat_machine.specs.Supported.{is_supported_returned}
use Rattle.cp_vat_machine.specs.declared.entry.AnswerEntry.{AnswerEntry}
use Rattle.cp_vat_machine.specs.declared.entry.QuestionEntry.{QuestionEntry}
use Rattle.cp_vat_machine.proofs.Basics.{is_equal, ok_in, then_out, put_at, gone_at}
use Rattle.cp_vat_pair_laws.specs.Accounts.{kept_account, answer_given}
use Rattle.cp_vat_pair_laws.specs.Lives.{is_settled_returned}
use Rattle.cp_vat_pair_laws.specs.Orderly.{IsHeldBack, NoneWaits, ArePlainExports, IsOrderly, IsHeldAlone, Goes}
use Rattle.cp_vat_pair_laws.proofs.counts.rules.Same.{same_accounts}
use Rattle.cp_vat_pair_laws.proofs.counts.rules.Accounts.{unsent_put, unsent_gone}
use Rattle.cp_vat_pair_laws.proofs.counts.rules.Say.{said_all}
use Rattle.cp_vat_pair_laws.proofs.counts.rules.TwoParts.{sends_both, sends_one}
use Rattle.cp_vat_pair_laws.proofs.counts.rules.Waits.{put_question, gone_question}
use Rattle.cp_vat_pair_laws.proofs.counts.rules.Plain.{IsPlainTable, table_plain, table_settled, answers_put, answers_gone}
use Rattle.cp_vat_pair_laws.proofs.counts.rules.Settle.{tied_goes}

-- what a Return names is counted, and nothing else changed
record Returning (old : State) (returned : Returned) (new : State) : Type 0 where
  only : new ≡ with_exports old new.counts.exports
  counted : (f : ℕ) → count_of new.counts.exports f ≡ count_of old.counts.exports f + times f (returned_mentions returned)
  supported : is_supported_returned returned ≡ true
  settles : is_settled_returned returned ≡ true
  plain : ArePlainExports new.counts.exports

returns_as : (old : State) (outcome : Outcome) (said : Returned × State) → IsOrderly old → IsPlainTable (caps_of outcome) → Returns old outcome (Ok said)
    → Returning old said.0 said.1
returns_as old (outcomes.Results content table) said orderly plain does =
    let parts = then_out {A = List Descriptor × State} {B = Returned × State} (WritesDescriptors old table) _ said does in
    let all = said_all table old parts.0 parts.1 in
    rw
    (ok_in _ _ parts.2)
    (record {
      only = all.only;
      counted = all.counted;
      supported = all.supported;
      settles = table_settled table old parts.0 plain orderly.values parts.1;
      plain = table_plain table old parts.0 orderly.exports parts.1;
    })
returns_as old (outcomes.Failed x) said orderly plain does =
    rw (ok_in _ _ does) (record { only = refl; counted = λ f. omega arith; supported = refl; settles = refl; plain = orderly.exports })
returns_as old outcomes.Canceled said orderly plain does =
    rw (ok_in _ _ does) (record { only = refl; counted = λ f. omega arith; supported = refl; settles = refl; plain = orderly.exports })

-- an open answer is given
given_step : (table : Table (Exchange AnswerEntry)) (a p : ℕ) (kept : AnswerEntry) (mentions : List ℕ) (b : Bool) → (a == p) ≡ b
    → get table a ≡ Some (record { stage = stages.Open; kept = kept })
    → (if b then answer_given mentions (kept_account (get table p)) else Some (kept_account (get table p)))
    ≡ Some (kept_account (get (insert table a (record { stage = stages.Returned; kept = record kept { mentions = mentions; tied = [] } })) p))
given_step table a p kept mentions true t is =
    rw (put_at table a p (record { stage = stages.Returned; kept = record kept { mentions = mentions; tied = [] } }) true t, ← is_equal a p t, is) refl
given_step table a p kept mentions false t is =
    rw (put_at table a p (record { stage = stages.Returned; kept = record kept { mentions = mentions; tied = [] } }) false t) refl

given_goes : (old mid : State) (X : Table (Counted Cap)) (a : ℕ) (kept : AnswerEntry) (outcome : Outcome) (returned : Returned) → mid ≡ with_exports old X
    → ((f : ℕ) → count_of X f ≡ count_of old.counts.exports f + times f (returned_mentions returned)) → is_supported_returned returned ≡ true
    → is_settled_returned returned ≡ true → ArePlainExports X → IsPlainTable (caps_of outcome) → IsOrderly old
    → get old.entries.answers a ≡ Some (record { stage = stages.Open; kept = kept }) → Goes old (return_of a returned ∷ []) (given mid a kept outcome returned)
given_goes old mid X a kept outcome returned only counts supported settles plain outcome_plain orderly is =
    rw
    (only) (
      sends_one
          old
          (given (with_exports old X) a kept outcome returned)
          (messages.Return (record { answer_id = a; release_param_caps = false; returned = returned }))
          (return_of a returned ∷ [])
          refl
          (supported, (refl, settles))
          (record {
            exports = counts;
            imports = λ i. omega arith;
            questions = λ q. refl;
            answers = λ p. given_step old.entries.answers a p kept (returned_mentions returned) (a == p) refl is;
          }),
      record {
        held = orderly.held;
        values = orderly.values;
        answers = answers_put old.values.answers a (Some outcome) outcome_plain orderly.answers;
        exports = plain;
      },
    )

-- one that was finished goes
left_step : (table : Table (Exchange AnswerEntry)) (a p : ℕ) (kept : AnswerEntry) (b : Bool) → (a == p) ≡ b
    → get table a ≡ Some (record { stage = stages.Finished; kept = kept })
    → (if b then answer_given [] (kept_account (get table p)) else Some (kept_account (get table p))) ≡ Some (kept_account (get (remove table a) p))
left_step table a p kept true t is = rw (gone_at table a p true t, ← is_equal a p t, is) refl
left_step table a p kept false t is = rw (gone_at table a p false t) refl

gone_goes : (old : State) (a : ℕ) (kept : AnswerEntry) (outcome : Outcome) → IsOrderly old → get old.entries.answers a ≡ Some (record { stage = stages.Finished; kept = kept })
    → Goes old (return_of a returns.Canceled ∷ []) (gone old a outcome)
gone_goes old a kept outcome orderly is = (
  sends_one
      old
      (gone old a outcome)
      (messages.Return (record { answer_id = a; release_param_caps = false; returned = returns.Canceled }))
      (return_of a returns.Canceled ∷ [])
      refl
      (refl, (refl, refl))
      (record {
        exports = λ e. omega arith;
        imports = λ i. omega arith;
        questions = λ q. refl;
        answers = λ p. left_step old.entries.answers a p kept (a == p) refl is;
      }),
  record { held = orderly.held; values = orderly.values; answers = answers_gone old.values.answers a orderly.answers; exports = orderly.exports },
)

gives_by : (old : State) (a : ℕ) (outcome : Outcome) (kept : AnswerEntry) (stage : Stage) (done : Done) → IsOrderly old → IsPlainTable (caps_of outcome)
    → get old.entries.answers a ≡ Some (record { stage = stage; kept = kept }) → GiveBy old a outcome kept stage (Ok done) → Goes old done.0 done.1
gives_by old a outcome kept stages.Open done orderly plain is does =
    let says = then_out {A = Returned × State} {B = Done} (Returns old outcome) _ done does in
    let rest = then_out {A = Done} {B = Done} (SettleTied (given says.0.1 a kept outcome says.0.0) outcome kept.tied) _ done says.2 in
    let said = returns_as old outcome says.0 orderly plain says.1 in
    let one = given_goes old says.0.1 says.0.1.counts.exports a kept outcome says.0.0 said.only said.counted said.supported said.settles said.plain plain orderly is in
    let all = tied_goes kept.tied (given says.0.1 a kept outcome says.0.0) outcome rest.0 one.1 plain rest.1 in
    rw
    (ok_in _ _ rest.2)
    (sends_both old (given says.0.1 a kept outcome says.0.0) rest.0.1 (return_of a says.0.0 ∷ []) rest.0.0 one.0 all.0, all.1)
gives_by old a outcome kept stages.Finished done orderly plain is does =
    let rest = then_out {A = Done} {B = Done} (SettleTied (gone old a outcome) outcome kept.tied) _ done does in
    let one = gone_goes old a kept outcome orderly is in
    let all = tied_goes kept.tied (gone old a outcome) outcome rest.0 one.1 plain rest.1 in
    rw (ok_in _ _ rest.2) (sends_both old (gone old a outcome) rest.0.1 (return_of a returns.Canceled ∷ []) rest.0.0 one.0 all.0, all.1)
gives_by old a outcome kept stages.Returned done orderly plain is does = absurd does

pub answer_goes : (old : State) (a : ℕ) (outcome : Outcome) (done : Done) → IsOrderly old → IsPlainTable (caps_of outcome) → GiveAnswer old a outcome (Ok done)
    → Goes old done.0 done.1
answer_goes old a outcome done orderly plain does = gives_by old a outcome does.0.kept does.0.stage done orderly plain does.1 does.2

-- an own question that wasn't sent is settled
owns_by : (old : State) (q : ℕ) (outcome : Outcome) (kept : QuestionEntry) (stage : Stage) (done : Done) → IsOrderly old → NoneWaits old.waiting.calls q → kept.is_sent ≡ false
    → get old.entries.questions q ≡ Some (record { stage = stage; kept = kept }) → GiveOwnBy old q outcome stage (Ok done) → Goes old done.0 done.1
owns_by old q outcome kept stages.Open done orderly none unsent is does =
    rw
    (ok_in _ _ does, is) (
      record {
        usual = tt;
        posts =
            same_accounts _ _ (λ e. refl) (λ i. refl)
            (λ p. unsent_put old.entries.questions q p (record { stage = stages.Open; kept = kept }) (record { stage = stages.Returned; kept = kept }) (q == p) refl is unsent unsent)
            (λ a. refl);
      },
      record {
        held = put_question old.waiting.calls old.entries.questions orderly.held q (record { stage = stages.Returned; kept = kept }) none (λ here. unsent);
        values = orderly.values;
        answers = orderly.answers;
        exports = orderly.exports;
      },
    )
owns_by old q outcome kept stages.Finished done orderly none unsent is does =
    rw
    (ok_in _ _ does) (
      record {
        usual = tt;
        posts =
            same_accounts _ _ (λ e. refl) (λ i. refl) (λ p. unsent_gone old.entries.questions q p (record { stage = stages.Finished; kept = kept }) (q == p) refl is unsent) (λ a. refl);
      },
      record {
        held = gone_question old.waiting.calls old.entries.questions orderly.held q none;
        values = orderly.values;
        answers = orderly.answers;
        exports = orderly.exports;
      },
    )
owns_by old q outcome kept stages.Returned done orderly none unsent is does = absurd does

pub own_goes : (old : State) (q : ℕ) (outcome : Outcome) (done : Done) → IsOrderly old → NoneWaits old.waiting.calls q
    → ((entry : Exchange QuestionEntry) → get old.entries.questions q ≡ Some entry → entry.kept.is_sent ≡ false) → GiveOwn old q outcome (Ok done) → Goes old done.0 done.1
own_goes old q outcome done orderly none unsent does =
    owns_by old q outcome does.0.kept does.0.stage done orderly none (unsent does.0 does.1) does.1 does.2

-- an outcome is given to a call that may go
held_unsent : (o : Option (Exchange QuestionEntry)) (entry : Exchange QuestionEntry) → o ≡ Some entry → IsHeldBack o → entry.kept.is_sent ≡ false
held_unsent o entry is back = (rw is at back).0.0

pub give_goes : (old : State) (origin : Origin) (outcome : Outcome) (done : Done) → IsOrderly old → IsPlainTable (caps_of outcome) → IsHeldAlone old origin
    → Give old origin outcome (Ok done) → Goes old done.0 done.1
give_goes old (origins.Answer a) outcome done orderly plain may does = answer_goes old a outcome done orderly plain does
give_goes old (origins.Own q) outcome done orderly plain may does =
    own_goes old q outcome done orderly may.1 (λ entry is. held_unsent (get old.entries.questions q) entry is may.0) does
