-- Returns that come, as the accounts see them.
use Rattle.std.specs.Prelude.{◌≡◌, refl, ℕ, ◌==◌, not, if◌then◌else◌, Bool, true, false, List, [], ◌∷◌, Option, Some, None, Ok}
use Rattle.std.specs.FinMap.{get, insert, remove}
use Rattle.std.proofs.Common.{arith, ap, sym, ◌∙◌}
use Rattle.cp_tables.specs.Table.{Table}
use Rattle.cp_tables.specs.Exchange.{new_exchange}
use Rattle.cp_tables.specs.declared.counted.Counted.{Counted}
use Rattle.cp_tables.specs.declared.exchange.Exchange.{Exchange}
use Rattle.cp_tables.specs.declared.exchange.Stage.{Stage}
use Rattle.cp_tables.specs.declared.exchange.Stage.TheVariants as stages
use Rattle.cp_messages.specs.declared.descriptor.Descriptor.{Descriptor}
use Rattle.cp_messages.specs.declared.returned.Return.{Return}
use Rattle.cp_messages.specs.declared.returned.Returned.{Returned}
use Rattle.cp_messages.specs.declared.returned.Returned.TheVariants as returns
use Rattle.cp_messages.specs.declared.message.Message.TheVariants as messages
use Rattle.cp_refs.specs.declared.cap.Cap.{Cap}
use Rattle.cp_refs.specs.declared.outcome.Outcome.{Outcome}
use Rattle.cp_vat_machine.specs.State.{State, with_exports, with_questions}
use Rattle.cp_vat_machine.specs.Then.{Done, Then, Unless, fault_if}
use Rattle.cp_vat_machine.specs.InUse.{caps_of}
use Rattle.cp_vat_machine.specs.Receiving.{ReceivesCaps, release_exports}
use Rattle.cp_vat_machine.specs.Writing.{mentions_of}
use Rattle.cp_vat_machine.specs.Give.{returned_mentions, GiveAnswer, GiveOwnBy, question_settled, without_question}
use Rattle.cp_vat_machine.specs.Go.{finish_of}
use Rattle.cp_vat_machine.specs.Asking.{ReceivesReturned, Settles, ReturnBy, is_asked, ReturnOf, OnReturn}
use Rattle.cp_vat_machine.specs.declared.effect.Effect.TheVariants as effects
use Rattle.cp_vat_machine.specs.declared.entry.QuestionEntry.{QuestionEntry}
use Rattle.cp_vat_machine.specs.declared.fault.PeerFault.TheVariants as faults
use Rattle.cp_vat_machine.proofs.Basics.{some_out, is_equal, ok_in, ok_out, then_out, put_at, gone_at}
use Rattle.cp_vat_pair_laws.specs.Accounts.{accounts_of, asked_account, question_finished, Came, question_returned}
use Rattle.cp_vat_pair_laws.specs.Posting.{Hears}
use Rattle.cp_vat_pair_laws.specs.Orderly.{NoneWaits, IsOrderly, Heeds}
use Rattle.cp_vat_pair_laws.proofs.counts.rules.Accounts.{lowered_if}
use Rattle.cp_vat_pair_laws.proofs.counts.rules.TwoParts.{hears_both}
use Rattle.cp_vat_pair_laws.proofs.counts.rules.Waits.{sent_not, none_waits, put_question, gone_question}
use Rattle.cp_vat_pair_laws.proofs.counts.rules.Plain.{IsPlainTable}
use Rattle.cp_vat_pair_laws.proofs.counts.rules.Give.{answer_goes}
use Rattle.cp_vat_pair_laws.proofs.counts.rules.Take.{TakenIn, taken_none, take_all_in, take_all_plain}
use Rattle.cp_vat_pair_laws.proofs.counts.rules.CallComes.{lower_if_plain}

-- A Return is noted, and after a Finish the question is gone.
returned_step : (table : Table (Exchange QuestionEntry)) (q p : ℕ) (kept : QuestionEntry) (b : Bool) → (q == p) ≡ b → get table q ≡ Some (new_exchange kept) → kept.is_sent ≡ true
    → asked_account (get (insert table q (record { stage = stages.Returned; kept = kept })) p)
    ≡ (if b then question_returned (asked_account (get table p)) else asked_account (get table p))
returned_step table q p kept true t is is_sent = rw (put_at table q p (record { stage = stages.Returned; kept = kept }) true t, ← is_equal q p t, is, is_sent) refl
returned_step table q p kept false t is is_sent = rw (put_at table q p (record { stage = stages.Returned; kept = kept }) false t) refl

left_step : (table : Table (Exchange QuestionEntry)) (q p : ℕ) (kept : QuestionEntry) (b : Bool) → (q == p) ≡ b → get table q ≡ Some (record { stage = stages.Finished; kept = kept })
    → kept.is_sent ≡ true → asked_account (get (remove table q) p) ≡ (if b then question_returned (asked_account (get table p)) else asked_account (get table p))
left_step table q p kept true t is is_sent = rw (gone_at table q p true t, ← is_equal q p t, is, is_sent) refl
left_step table q p kept false t is is_sent = rw (gone_at table q p false t) refl

-- what was returned is taken in, and names no path of a question
abbrev table_of : Returned → List Descriptor
table_of (returns.Results p) = p.cap_table
table_of other = []

table_names : (returned : Returned) → mentions_of (table_of returned) ≡ returned_mentions returned
table_names (returns.Results p) = refl
table_names (returns.Exception x) = refl
table_names returns.Canceled = refl
table_names returns.ResultsSentElsewhere = refl
table_names (returns.TakeFromOtherQuestion q) = refl
table_names (returns.AcceptFromThirdParty t) = refl
table_names (returns.Unknown n) = refl

abbrev ReturnedIn : State → Returned → Outcome × State → Type 0
ReturnedIn old returned taken = TakenIn old (table_of returned) taken.1 × IsPlainTable (caps_of taken.0)

returned_in : (old : State) (returned : Returned) (taken : Outcome × State) → IsOrderly old → ReceivesReturned old returned (Ok taken) → ReturnedIn old returned taken
returned_in old (returns.Results p) taken orderly is =
    let parts = then_out {A = List Cap × State} {B = Outcome × State} (ReceivesCaps old p.cap_table) _ taken is in
    rw (ok_in _ _ parts.2) (take_all_in p.cap_table old parts.0 parts.1, take_all_plain p.cap_table old parts.0 orderly.answers orderly.exports parts.1)
returned_in old (returns.Exception x) taken orderly is = rw (ok_in _ _ is) (taken_none old, refl)
returned_in old returns.Canceled taken orderly is = rw (ok_in _ _ is) (taken_none old, refl)
returned_in old returns.ResultsSentElsewhere taken orderly is = absurd is
returned_in old (returns.TakeFromOtherQuestion q) taken orderly is = absurd is
returned_in old (returns.AcceptFromThirdParty t) taken orderly is = absurd is
returned_in old (returns.Unknown n) taken orderly is = absurd is

-- first the exports that the params named are lowered, if the Return asks for it
abbrev Lowers : State → Return → QuestionEntry → Table (Counted Cap) → Type 0
Lowers old r kept X = Ok X ≡ (if r.release_param_caps then release_exports old.counts.exports kept.mentions else Ok old.counts.exports)

lowered_orderly : (old : State) (r : Return) (kept : QuestionEntry) (X : Table (Counted Cap)) → Lowers old r kept X → IsOrderly old → IsOrderly (with_exports old X)
lowered_orderly old r kept X lowers orderly =
    record {
      held = orderly.held;
      values = orderly.values;
      answers = orderly.answers;
      exports = lower_if_plain r.release_param_caps old.counts.exports X kept.mentions orderly.exports lowers;
    }

-- A Return comes to a question that is open.
abbrev returned_to : State → ℕ → QuestionEntry → State
returned_to s q kept = with_questions s (insert s.entries.questions q (record { stage = stages.Returned; kept = kept }))

module _ (old mid : State) (r : Return) (kept : QuestionEntry) (X : Table (Counted Cap)) (lowers : Lowers old r kept X)
    (taken : TakenIn (with_exports old X) (table_of r.returned) mid) (orderly : IsOrderly old)
    (is : get old.entries.questions r.answer_id ≡ Some (new_exchange kept)) (is_sent : kept.is_sent ≡ true) where
  return_comes : Came (accounts_of old) (messages.Return r) (accounts_of (returned_to mid r.answer_id kept))
  return_comes =
      record {
        exports = λ e. rw (is, is_sent, taken.exports) (lowered_if r.release_param_caps old X kept.mentions lowers e);
        imports = λ i. rw (is, is_sent, ← table_names r.returned) (taken.counted i);
        questions = λ p. rw (taken.questions) (returned_step old.entries.questions r.answer_id p kept (r.answer_id == p) refl is is_sent);
        answers = taken.answers;
      }

  mid_orderly : IsOrderly mid
  mid_orderly =
      let low = lowered_orderly old r kept X lowers orderly in
      record {
        held = rw (taken.calls, taken.questions) low.held;
        values = taken.values low.values;
        answers = rw (taken.given) low.answers;
        exports = rw (taken.exports) low.exports;
      }

  still_there : get mid.entries.questions r.answer_id ≡ Some (new_exchange kept)
  still_there = rw (taken.questions) is

  none_there : NoneWaits mid.waiting.calls r.answer_id
  none_there = none_waits mid.waiting.calls mid.entries.questions mid_orderly.held r.answer_id (rw (still_there) (sent_not (new_exchange kept) is_sent))

  -- an own question is settled
  owns_heed : (outcome : Outcome) → Heeds old (messages.Return r) (effects.Settled r.answer_id outcome ∷ []) (question_settled mid r.answer_id outcome)
  owns_heed outcome =
      rw
      (still_there) (
        record { mid = accounts_of (returned_to mid r.answer_id kept); came = return_comes; usual = tt; posts = refl },
        record {
          held =
              put_question mid.waiting.calls mid.entries.questions mid_orderly.held r.answer_id (record { stage = stages.Returned; kept = kept }) none_there
              (mid_orderly.held.here r.answer_id (new_exchange kept) still_there);
          values = mid_orderly.values;
          answers = mid_orderly.answers;
          exports = mid_orderly.exports;
        },
      )

  own_by : (outcome : Outcome) (entry : Exchange QuestionEntry) (done : Done) → entry ≡ new_exchange kept → GiveOwnBy mid r.answer_id outcome entry.stage (Ok done)
      → Heeds old (messages.Return r) done.0 done.1
  own_by outcome entry done same gives =
      let gives_open : GiveOwnBy mid r.answer_id outcome stages.Open (Ok done) = rw (ap (λ x. x.stage) same) at gives in
      rw (ok_in _ _ gives_open) (owns_heed outcome)

  -- a question that forwards is finished
  finished_step : (p : ℕ) (b : Bool) → (r.answer_id == p) ≡ b
      → (if b then question_finished false (asked_account (get (insert mid.entries.questions r.answer_id (record { stage = stages.Returned; kept = kept })) p))
      else Some (asked_account (get (insert mid.entries.questions r.answer_id (record { stage = stages.Returned; kept = kept })) p)))
      ≡ Some (asked_account (get (remove mid.entries.questions r.answer_id) p))
  finished_step p true t =
      rw
      (put_at mid.entries.questions r.answer_id p (record { stage = stages.Returned; kept = kept }) true t, gone_at mid.entries.questions r.answer_id p true t, is_sent)
      refl
  finished_step p false t =
      rw (put_at mid.entries.questions r.answer_id p (record { stage = stages.Returned; kept = kept }) false t, gone_at mid.entries.questions r.answer_id p false t) refl

  forward_heeds : Heeds old (messages.Return r) (finish_of r.answer_id false ∷ []) (without_question mid r.answer_id)
  forward_heeds = (
    record {
      mid = accounts_of (returned_to mid r.answer_id kept);
      came = return_comes;
      usual = ((refl, tt), tt);
      posts = (
        accounts_of (without_question mid r.answer_id),
        record { exports = λ e. omega arith; imports = λ i. omega arith; questions = λ p. finished_step p (r.answer_id == p) refl; answers = λ a. refl },
        refl,
      );
    },
    record {
      held = gone_question mid.waiting.calls mid.entries.questions mid_orderly.held r.answer_id none_there;
      values = mid_orderly.values;
      answers = mid_orderly.answers;
      exports = mid_orderly.exports;
    },
  )

  settles_heed : (forwards : Option ℕ) (outcome : Outcome) (done : Done) → IsPlainTable (caps_of outcome) → Settles mid r.answer_id forwards outcome (Ok done)
      → Heeds old (messages.Return r) done.0 done.1
  settles_heed None outcome done plain does = own_by outcome does.0 done (some_out (sym does.1 ∙ still_there)) does.2
  settles_heed (Some a) outcome done plain does =
      let parts = then_out {A = Done} {B = Done} (GiveAnswer (without_question mid r.answer_id) a outcome) _ done does in
      let first = forward_heeds in
      let goes = answer_goes (without_question mid r.answer_id) a outcome parts.0 first.1 plain parts.1 in
      rw
      (ok_in _ _ parts.2)
      (hears_both old (without_question mid r.answer_id) parts.0.1 (messages.Return r) (finish_of r.answer_id false ∷ []) parts.0.0 first.0 goes.0, goes.1)

open_heeds : (old : State) (r : Return) (kept : QuestionEntry) (X : Table (Counted Cap)) (done : Done) → IsOrderly old → Lowers old r kept X
    → get old.entries.questions r.answer_id ≡ Some (new_exchange kept) → kept.is_sent ≡ true → ReturnBy (with_exports old X) r kept stages.Open (Ok done)
    → Heeds old (messages.Return r) done.0 done.1
open_heeds old r kept X done orderly lowers is is_sent does =
    let low : State = with_exports old X in
    let taking = then_out {A = Outcome × State} {B = Done} (ReceivesReturned low r.returned) _ done does in
    let taken = returned_in low r.returned taking.0 (lowered_orderly old r kept X lowers orderly) taking.1 in
    settles_heed old taking.0.1 r kept X lowers taken.0 orderly is is_sent kept.forwards taking.0.0 done taken.1 taking.2

-- one that was finished only ends
leaves_own : (old : State) (r : Return) (kept : QuestionEntry) (X : Table (Counted Cap)) → Lowers old r kept X
    → get old.entries.questions r.answer_id ≡ Some (record { stage = stages.Finished; kept = kept }) → kept.is_sent ≡ true
    → Hears old (messages.Return r) [] (without_question (with_exports old X) r.answer_id)
leaves_own old r kept X lowers is is_sent =
    record {
      mid = accounts_of (without_question (with_exports old X) r.answer_id);
      came =
          record {
            exports = λ e. rw (is, is_sent) (lowered_if r.release_param_caps old X kept.mentions lowers e);
            imports = λ i. rw (is, is_sent) (omega arith);
            questions = λ p. left_step old.entries.questions r.answer_id p kept (r.answer_id == p) refl is is_sent;
            answers = λ a. refl;
          };
      usual = tt;
      posts = refl;
    }

left_heeds : (old : State) (r : Return) (kept : QuestionEntry) (X : Table (Counted Cap)) (done : Done) → IsOrderly old → Lowers old r kept X
    → get old.entries.questions r.answer_id ≡ Some (record { stage = stages.Finished; kept = kept }) → kept.is_sent ≡ true
    → ReturnBy (with_exports old X) r kept stages.Finished (Ok done) → Heeds old (messages.Return r) done.0 done.1
left_heeds old r kept X done orderly lowers is is_sent does =
    let low = lowered_orderly old r kept X lowers orderly in
    rw
    (ok_in _ _ does) (
      leaves_own old r kept X lowers is is_sent,
      record {
        held =
            gone_question old.waiting.calls old.entries.questions orderly.held r.answer_id
            (none_waits old.waiting.calls old.entries.questions orderly.held r.answer_id (rw (is) (sent_not (record { stage = stages.Finished; kept = kept }) is_sent)));
        values = low.values;
        answers = low.answers;
        exports = low.exports;
      },
    )

return_at : (old : State) (r : Return) (kept : QuestionEntry) (stage : Stage) (is_sent : Bool) (done : Done) → IsOrderly old
    → get old.entries.questions r.answer_id ≡ Some (record { stage = stage; kept = kept }) → kept.is_sent ≡ is_sent
    → Unless
    (fault_if (not (is_asked is_sent stage)) faults.UnknownQuestion)
    (Then
    (λ exports. exports ≡ (if r.release_param_caps then release_exports old.counts.exports kept.mentions else Ok old.counts.exports))
    (λ exports. ReturnBy (with_exports old exports) r kept stage))
    (Ok done)
    → Heeds old (messages.Return r) done.0 done.1
return_at old r kept stages.Open false done orderly is sends does = ok_out does
return_at old r kept stages.Finished false done orderly is sends does = ok_out does
return_at old r kept stages.Returned b done orderly is sends does = ok_out does
return_at old r kept stages.Open true done orderly is sends does =
    let lowers = then_out {A = Table (Counted Cap)} {B = Done} _ _ done does in
    open_heeds old r kept lowers.0 done orderly lowers.1 is sends lowers.2
return_at old r kept stages.Finished true done orderly is sends does =
    let lowers = then_out {A = Table (Counted Cap)} {B = Done} _ _ done does in
    left_heeds old r kept lowers.0 done orderly lowers.1 is sends lowers.2

return_of : (old : State) (r : Return) (o : Option (Exchange QuestionEntry)) (done : Done) → IsOrderly old → get old.entries.questions r.answer_id ≡ o
    → ReturnOf old r o (Ok done) → Heeds old (messages.Return r) done.0 done.1
return_of old r None done orderly is does = ok_out does
return_of old r (Some entry) done orderly is does = return_at old r entry.kept entry.stage entry.kept.is_sent done orderly is refl does

pub return_heeds : (old : State) (r : Return) (done : Done) → IsOrderly old → OnReturn old r (Ok done) → Heeds old (messages.Return r) done.0 done.1
return_heeds old r done orderly does = return_of old r (get old.entries.questions r.answer_id) done orderly refl does
