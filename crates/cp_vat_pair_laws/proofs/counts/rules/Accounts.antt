-- What rules send, and what comes to them, as their accounts see it.
use Rattle.std.specs.Prelude.{◌≡◌, refl, ℕ, ◌+◌, ◌==◌, not, ◌++◌, if◌then◌else◌, Bool, true, false, List, [], Option, Some, None, Ok}
use Rattle.std.specs.FinMap.{get, insert, remove}
use Rattle.std.proofs.Common.{arith}
use Rattle.cp_tables.specs.Table.{Table}
use Rattle.cp_tables.specs.Exchange.{new_exchange}
use Rattle.cp_tables.specs.declared.counted.Counted.{Counted}
use Rattle.cp_tables.specs.declared.exchange.Exchange.{Exchange}
use Rattle.cp_tables.specs.declared.exchange.Stage.{Stage}
use Rattle.cp_tables.specs.declared.exchange.Stage.TheVariants as stages
use Rattle.cp_messages.specs.declared.small.Finish.{Finish}
use Rattle.cp_messages.specs.declared.small.Release.{Release}
use Rattle.cp_messages.specs.declared.message.Message.TheVariants as messages
use Rattle.cp_refs.specs.declared.cap.Cap.{Cap}
use Rattle.cp_refs.specs.declared.values.QuestionKind.TheVariants as kinds
use Rattle.cp_vat_machine.specs.State.{State, with_exports, with_questions, with_answers}
use Rattle.cp_vat_machine.specs.Then.{Done, fault_if}
use Rattle.cp_vat_machine.specs.InUse.{is_own_question, is_question_used}
use Rattle.cp_vat_machine.specs.Capacity.{Fresh, free}
use Rattle.cp_vat_machine.specs.Receiving.{times, release_exports}
use Rattle.cp_vat_machine.specs.Give.{without_question}
use Rattle.cp_vat_machine.specs.Go.{finish_of}
use Rattle.cp_vat_machine.specs.Answering.{OnFinish, FinishedBy, AtStage, without_answer}
use Rattle.cp_vat_machine.specs.Resolving.{OnRelease}
use Rattle.cp_vat_machine.specs.Calling.{OwnDone, asked}
use Rattle.cp_vat_machine.specs.Doing.{DoBootstrap, DoFinish, Finishes, FinishBy, told_if}
use Rattle.cp_vat_machine.specs.declared.entry.AnswerEntry.{AnswerEntry}
use Rattle.cp_vat_machine.specs.declared.entry.QuestionEntry.{QuestionEntry}
use Rattle.cp_vat_machine.specs.declared.fault.VatFault.{VatFault}
use Rattle.cp_vat_machine.specs.declared.fault.VatFault.TheVariants as refusals
use Rattle.cp_vat_machine.proofs.Basics.{is_equal, ok_in, ok_out, then_out, unless_out, or_full_out, put_at, gone_at}
use Rattle.cp_vat_pair_laws.specs.Accounts.{Account, accounts_of, asked_account, kept_account, new_account, results_in, question_finished, answer_finished, Sent, Came}
use Rattle.cp_vat_pair_laws.specs.Accounts as accounts
use Rattle.cp_vat_pair_laws.specs.Posting.{Sends, Hears}
use Rattle.cp_vat_pair_laws.proofs.counts.rules.Counted.{lower_counts, released_counts}
use Rattle.cp_vat_pair_laws.proofs.counts.rules.Same.{same_accounts}

-- a question is asked
pub asked_step : (table : Table (Exchange QuestionEntry)) (q p : ℕ) (kept : QuestionEntry) (b : Bool) → (q == p) ≡ b → get table q ≡ None → kept.is_sent ≡ true
    → (if b then accounts.asked kept.mentions (asked_account (get table p)) else Some (asked_account (get table p)))
    ≡ Some (asked_account (get (insert table q (new_exchange kept)) p))
asked_step table q p kept true t fresh sent = rw (put_at table q p (new_exchange kept) true t, ← is_equal q p t, fresh, sent) refl
asked_step table q p kept false t fresh sent = rw (put_at table q p (new_exchange kept) false t) refl

bootstrap_sent : (old : State) (q : ℕ) → get old.entries.questions q ≡ None
    → Sent (accounts_of old) (messages.Bootstrap (record { question_id = q })) (accounts_of (asked old q kinds.Wire None true))
bootstrap_sent old q fresh =
    record {
      exports = λ e. omega arith;
      imports = λ i. omega arith;
      questions = λ p. asked_step old.entries.questions q p (record { forwards = None; ticket = None; is_sent = true; is_delivered = false; mentions = [] }) (q == p) refl fresh refl;
      answers = λ a. refl;
    }

pub free_out : {X : Type 0} (table : Table X) (q : ℕ) → Fresh table (Ok q) → get table q ≡ None
free_out table q (free n is small room) = is

pub bootstraps : (old : State) (done : OwnDone) → DoBootstrap old (Ok done) → Sends old done.1 done.2
bootstraps old done does =
    let parts = then_out _ _ _ (or_full_out _ _ does) in
    rw (ok_in _ _ parts.2) (record { usual = ((refl, tt), tt); posts = (_, bootstrap_sent old parts.0 (free_out _ parts.0 parts.1), refl) })

-- a question is finished
finished_step : (table : Table (Exchange QuestionEntry)) (q p : ℕ) (entry : Exchange QuestionEntry) (b : Bool) → (q == p) ≡ b → get table q ≡ Some entry
    → entry.kept.is_sent ≡ true → entry.stage ≡ stages.Open
    → (if b then question_finished true (asked_account (get table p)) else Some (asked_account (get table p)))
    ≡ Some (asked_account (get (insert table q (record entry { stage = stages.Finished })) p))
finished_step table q p entry true t is sent stage = rw (put_at table q p (record entry { stage = stages.Finished }) true t, ← is_equal q p t, is, sent, stage) refl
finished_step table q p entry false t is sent stage = rw (put_at table q p (record entry { stage = stages.Finished }) false t) refl

ended_step : (table : Table (Exchange QuestionEntry)) (q p : ℕ) (entry : Exchange QuestionEntry) (b : Bool) → (q == p) ≡ b → get table q ≡ Some entry
    → entry.kept.is_sent ≡ true → entry.stage ≡ stages.Returned
    → (if b then question_finished false (asked_account (get table p)) else Some (asked_account (get table p))) ≡ Some (asked_account (get (remove table q) p))
ended_step table q p entry true t is sent stage = rw (gone_at table q p true t, ← is_equal q p t, is, sent, stage) refl
ended_step table q p entry false t is sent stage = rw (gone_at table q p false t) refl

pub unsent_put : (table : Table (Exchange QuestionEntry)) (q p : ℕ) (entry other : Exchange QuestionEntry) (b : Bool) → (q == p) ≡ b → get table q ≡ Some entry
    → entry.kept.is_sent ≡ false → other.kept.is_sent ≡ false → asked_account (get (insert table q other) p) ≡ asked_account (get table p)
unsent_put table q p entry other true t is sent now = rw (put_at table q p other true t, ← is_equal q p t, is, sent, now) refl
unsent_put table q p entry other false t is sent now = rw (put_at table q p other false t) refl

pub unsent_gone : (table : Table (Exchange QuestionEntry)) (q p : ℕ) (entry : Exchange QuestionEntry) (b : Bool) → (q == p) ≡ b → get table q ≡ Some entry
    → entry.kept.is_sent ≡ false → asked_account (get (remove table q) p) ≡ asked_account (get table p)
unsent_gone table q p entry true t is sent = rw (gone_at table q p true t, ← is_equal q p t, is, sent) refl
unsent_gone table q p entry false t is sent = rw (gone_at table q p false t) refl

given_up_open : (old : State) (q : ℕ) (entry : Exchange QuestionEntry) (b : Bool) → entry.kept.is_sent ≡ b → entry.stage ≡ stages.Open → get old.entries.questions q ≡ Some entry
    → Sends old (told_if b (finish_of q true)) (with_questions old (insert old.entries.questions q (record entry { stage = stages.Finished })))
given_up_open old q entry true sent stage is =
    record {
      usual = ((refl, tt), tt);
      posts = (
        _,
        record {
          exports = λ e. omega arith;
          imports = λ i. omega arith;
          questions = λ p. finished_step old.entries.questions q p entry (q == p) refl is sent stage;
          answers = λ a. refl;
        },
        refl,
      );
    }
given_up_open old q entry false sent stage is =
    record {
      usual = tt;
      posts =
          same_accounts _ _ (λ e. refl) (λ i. refl) (λ p. unsent_put old.entries.questions q p entry (record entry { stage = stages.Finished }) (q == p) refl is sent sent) (λ a. refl);
    }

given_up_returned : (old : State) (q : ℕ) (entry : Exchange QuestionEntry) (b : Bool) → entry.kept.is_sent ≡ b → entry.stage ≡ stages.Returned → get old.entries.questions q ≡ Some entry
    → Sends old (told_if b (finish_of q false)) (without_question old q)
given_up_returned old q entry true sent stage is =
    record {
      usual = ((refl, tt), tt);
      posts = (
        _,
        record {
          exports = λ e. omega arith;
          imports = λ i. omega arith;
          questions = λ p. ended_step old.entries.questions q p entry (q == p) refl is sent stage;
          answers = λ a. refl;
        },
        refl,
      );
    }
given_up_returned old q entry false sent stage is =
    record {
      usual = tt;
      posts = same_accounts _ _ (λ e. refl) (λ i. refl) (λ p. unsent_gone old.entries.questions q p entry (q == p) refl is sent) (λ a. refl);
    }

finish_by : (old : State) (q : ℕ) (kept : QuestionEntry) (stage : Stage) (done : OwnDone) → get old.entries.questions q ≡ Some (record { stage = stage; kept = kept })
    → FinishBy old q kept stage (Ok done) → Sends old done.1 done.2
finish_by old q kept stages.Open done is does =
    rw (ok_in _ _ does, is) (given_up_open old q (record { stage = stages.Open; kept = kept }) kept.is_sent refl refl is)
finish_by old q kept stages.Returned done is does =
    rw (ok_in _ _ does) (given_up_returned old q (record { stage = stages.Returned; kept = kept }) kept.is_sent refl refl is)
finish_by old q kept stages.Finished done is does = absurd does

finishes_at : (old : State) (q : ℕ) (o : Option (Exchange QuestionEntry)) (done : OwnDone) → get old.entries.questions q ≡ o → Finishes old q o (Ok done) → Sends old done.1 done.2
finishes_at old q None done is does = absurd does
finishes_at old q (Some entry) done is does = finish_by old q entry.kept entry.stage done is does

pub finishes_sent : (old : State) (q : ℕ) (done : OwnDone) → DoFinish old q (Ok done) → Sends old done.1 done.2
finishes_sent old q done does = finishes_at old q (get old.entries.questions q) done refl (unless_out {A = OwnDone} {F = VatFault} (fault_if (not (is_own_question old q)) refusals.UnknownQuestion ++ fault_if (is_question_used old q) refusals.InUse) (Finishes old q (get old.entries.questions q)) done does)

-- a Release comes
pub release_heard : (old : State) (r : Release) (done : Done) → OnRelease old r (Ok done) → Hears old (messages.Release r) done.0 done.1
release_heard old r done does =
    let parts = then_out _ _ _ does in
    rw
    (ok_in _ _ parts.2)
    (record {
      mid = accounts_of (with_exports old parts.0);
      came =
          record {
            exports = released_counts old.counts.exports parts.0 r.id r.reference_count parts.1;
            imports = λ i. omega arith;
            questions = λ q. refl;
            answers = λ a. refl;
          };
      usual = tt;
      posts = refl;
    })

-- a Finish comes
noted_step : (table : Table (Exchange AnswerEntry)) (q a : ℕ) (kept : AnswerEntry) (b : Bool) → (q == a) ≡ b → get table q ≡ Some (record { stage = stages.Open; kept = kept })
    → kept_account (get (insert table q (record { stage = stages.Finished; kept = kept })) a)
    ≡ (if b then answer_finished (kept_account (get table a)) else kept_account (get table a))
noted_step table q a kept true t is = rw (put_at table q a (record { stage = stages.Finished; kept = kept }) true t, ← is_equal q a t, is) refl
noted_step table q a kept false t is = rw (put_at table q a (record { stage = stages.Finished; kept = kept }) false t) refl

removed_step : (table : Table (Exchange AnswerEntry)) (q a : ℕ) (kept : AnswerEntry) (b : Bool) → (q == a) ≡ b → get table q ≡ Some (record { stage = stages.Returned; kept = kept })
    → kept_account (get (remove table q) a) ≡ (if b then answer_finished (kept_account (get table a)) else kept_account (get table a))
removed_step table q a kept true t is = rw (gone_at table q a true t, ← is_equal q a t, is) refl
removed_step table q a kept false t is = rw (gone_at table q a false t) refl

nothing_lowered : (b : Bool) (n e : ℕ) → n ≡ n + (if b then times e [] else 0)
nothing_lowered true n e = omega arith
nothing_lowered false n e = omega arith

pub lowered_if : (b : Bool) (old : State) (X : Table (Counted Cap)) (mentions : List ℕ) → Ok X ≡ (if b then release_exports old.counts.exports mentions else Ok old.counts.exports) → (e : ℕ)
    → (accounts_of old).exports e ≡ (accounts_of (with_exports old X)).exports e + (if b then times e mentions else 0)
lowered_if true old X mentions is e = lower_counts old.counts.exports X mentions is e
lowered_if false old X mentions is e = rw (ok_in _ _ is) (omega arith)

noted : (old : State) (f : Finish) (kept : AnswerEntry) → get old.entries.answers f.question_id ≡ Some (record { stage = stages.Open; kept = kept })
    → Hears old (messages.Finish f) [] (with_answers old (insert old.entries.answers f.question_id (record { stage = stages.Finished; kept = kept })))
noted old f kept is =
    record {
      mid = accounts_of (with_answers old (insert old.entries.answers f.question_id (record { stage = stages.Finished; kept = kept })));
      came =
          record {
            exports = λ e. rw (is) (nothing_lowered f.release_result_caps _ e);
            imports = λ i. omega arith;
            questions = λ q. refl;
            answers = λ a. noted_step old.entries.answers f.question_id a kept (f.question_id == a) refl is;
          };
      usual = tt;
      posts = refl;
    }

taken_away : (old : State) (f : Finish) (kept : AnswerEntry) (X : Table (Counted Cap)) → get old.entries.answers f.question_id ≡ Some (record { stage = stages.Returned; kept = kept })
    → Ok X ≡ (if f.release_result_caps then release_exports old.counts.exports kept.mentions else Ok old.counts.exports)
    → Hears old (messages.Finish f) [] (without_answer (with_exports old X) f.question_id)
taken_away old f kept X is lowers =
    record {
      mid = accounts_of (without_answer (with_exports old X) f.question_id);
      came =
          record {
            exports = λ e. rw (is) (lowered_if f.release_result_caps old X kept.mentions lowers e);
            imports = λ i. omega arith;
            questions = λ q. refl;
            answers = λ a. removed_step old.entries.answers f.question_id a kept (f.question_id == a) refl is;
          };
      usual = tt;
      posts = refl;
    }

finish_at : (old : State) (f : Finish) (kept : AnswerEntry) (stage : Stage) (done : Done) → get old.entries.answers f.question_id ≡ Some (record { stage = stage; kept = kept })
    → AtStage old f kept stage (Ok done) → Hears old (messages.Finish f) done.0 done.1
finish_at old f kept stages.Open done is does = rw (ok_in _ _ does, is) (noted old f kept is)
finish_at old f kept stages.Returned done is does =
    let parts = then_out _ _ _ does in
    rw (ok_in _ _ parts.2) (taken_away old f kept parts.0 is parts.1)
finish_at old f kept stages.Finished done is does = ok_out does

finished_at : (old : State) (f : Finish) (o : Option (Exchange AnswerEntry)) (done : Done) → get old.entries.answers f.question_id ≡ o → FinishedBy old f o (Ok done)
    → Hears old (messages.Finish f) done.0 done.1
finished_at old f None done is does = ok_out does
finished_at old f (Some entry) done is does = finish_at old f entry.kept entry.stage done is does

pub finish_heard : (old : State) (f : Finish) (done : Done) → OnFinish old f (Ok done) → Hears old (messages.Finish f) done.0 done.1
finish_heard old f done does = finished_at old f (get old.entries.answers f.question_id) done refl does
