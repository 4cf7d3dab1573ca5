-- What is taken in of any capability table.
use Rattle.std.specs.Prelude.{◌≡◌, refl, ℕ, ◌+◌, ◌==◌, ltb, if◌then◌else◌, Bool, true, false, List, [], ◌∷◌, Option, Some, None, Ok, Err}
use Rattle.std.specs.FinMap.{get, insert}
use Rattle.std.proofs.Common.{arith, ap, ◌∙◌}
use Rattle.cp_tables.specs.Counted.{new_counted, count_of}
use Rattle.cp_tables.specs.declared.counted.Counted.{Counted}
use Rattle.cp_tables.specs.declared.exchange.Exchange.{Exchange}
use Rattle.cp_tables.specs.declared.exchange.Stage.{Stage}
use Rattle.cp_tables.specs.declared.exchange.Stage.TheVariants as stages
use Rattle.cp_messages.specs.declared.descriptor.Descriptor.{Descriptor}
use Rattle.cp_messages.specs.declared.descriptor.Descriptor.TheVariants as descriptors
use Rattle.cp_refs.specs.declared.cap.Cap.{Cap}
use Rattle.cp_refs.specs.declared.outcome.Outcome.{Outcome}
use Rattle.cp_vat_machine.specs.State.{State}
use Rattle.cp_vat_machine.specs.Capacity.{has_capacity, Fresh}
use Rattle.cp_vat_machine.specs.Writing.{mentioned_by, mentions_of}
use Rattle.cp_vat_machine.specs.Receiving.{times, held_import, held_once_more, unfinished, answer_by, answer_of, path_of, tie, tied, ReceivesAnswer, taken_export, ReceivesCap, ReceivesCaps}
use Rattle.cp_vat_machine.specs.declared.entry.AnswerEntry.{AnswerEntry}
use Rattle.cp_vat_machine.specs.declared.entry.ImportKind.{ImportKind}
use Rattle.cp_vat_machine.specs.declared.entry.ImportKind.TheVariants as kinds
use Rattle.cp_vat_machine.specs.declared.fault.PeerFault.TheVariants as faults
use Rattle.cp_vat_machine.proofs.Basics.{ok_in, ok_out, then_out}
use Rattle.cp_vat_pair_laws.specs.Accounts.{kept_account}
use Rattle.cp_vat_pair_laws.specs.Orderly.{IsPlainAnswer, IsPlainExport, ArePlainValues, ArePlainAnswers, ArePlainExports}
use Rattle.cp_vat_pair_laws.proofs.counts.rules.Counted.{raised_one, opened_one}
use Rattle.cp_vat_pair_laws.proofs.counts.rules.Say.{times_append}
use Rattle.cp_vat_pair_laws.proofs.counts.rules.Plain.{IsPlain, IsPlainTable, plain_both, plain_at}
use Rattle.cp_vat_pair_laws.proofs.counts.rules.Settle.{values_put}
use Rattle.cp_vat_pair_laws.proofs.counts.rules.Go.{changed_account}

-- Imports are counted, promises may be opened, and nothing changed that an export, a question, an answer's account or a waiting call shows.
pub record TakenIn (old : State) (ds : List Descriptor) (new : State) : Type 0 where
  pub exports : new.counts.exports ≡ old.counts.exports
  pub questions : new.entries.questions ≡ old.entries.questions
  pub answers : (a : ℕ) → kept_account (get new.entries.answers a) ≡ kept_account (get old.entries.answers a)
  pub calls : new.waiting.calls ≡ old.waiting.calls
  pub values : ArePlainValues old.values.promises → ArePlainValues new.values.promises
  pub given : new.values.answers ≡ old.values.answers
  pub counted : (i : ℕ) → count_of new.counts.imports i ≡ count_of old.counts.imports i + times i (mentions_of ds)

pub taken_none : (old : State) → TakenIn old [] old
taken_none old = record { exports = refl; questions = refl; answers = λ a. refl; calls = refl; values = λ all. all; given = refl; counted = λ i. omega arith }

-- an import is held once more
abbrev HeldMore : State → ℕ → State → Type 0
HeldMore old i new =
    (new.counts.exports ≡ old.counts.exports) × (new.entries ≡ old.entries) × (new.waiting.calls ≡ old.waiting.calls)
    × (new.values.promises ≡ old.values.promises) × (new.values.answers ≡ old.values.answers)
    × ((f : ℕ) → count_of new.counts.imports f ≡ count_of old.counts.imports f + times f (i ∷ []))

held_by : (old : State) (i : ℕ) (kind : ImportKind) (o : Option (Counted ImportKind)) (new : State) → get old.counts.imports i ≡ o → Ok new ≡ held_once_more old i kind o
    → HeldMore old i new
held_by old i kind (Some entry) new there is = by (ltb entry.count 4294967295) is
  where
    by : (b : Bool)
        → Ok new
        ≡ (if b then Ok (record old { counts = record old.counts { imports = insert old.counts.imports i (record entry { count = entry.count + 1 }) } })
        else Err faults.TableFull)
        → HeldMore old i new
    by true is = rw (ok_in _ _ is) (refl, refl, refl, refl, refl, λ f. raised_one old.counts.imports i f entry.count entry.kept (i == f) refl (rw (there) refl))
    by false is = ok_out is
held_by old i kind None new there is = by (has_capacity old.counts.imports) is
  where
    by : (b : Bool)
        → Ok new
        ≡ (if b then Ok (
        record old {
          counts = record old.counts { imports = insert old.counts.imports i (new_counted kind) };
          values = record old.values { imports = insert old.values.imports i None };
        }
        ) else Err faults.TableFull)
        → HeldMore old i new
    by true is = rw (ok_in _ _ is) (refl, refl, refl, refl, refl, λ f. opened_one old.counts.imports i f kind (i == f) refl (rw (there) refl))
    by false is = ok_out is

same_in : (old : State) (d : Descriptor) (new : State) → mentioned_by d ≡ [] → new ≡ old → TakenIn old (d ∷ []) new
same_in old d new none is =
    rw
    (is)
    (record { exports = refl; questions = refl; answers = λ a. refl; calls = refl; values = λ all. all; given = refl; counted = λ i. rw (none) (omega arith) })

held_in : (old : State) (i : ℕ) (kind : ImportKind) (d : Descriptor) (new : State) → mentioned_by d ≡ i ∷ [] → Ok new ≡ held_import old i kind → TakenIn old (d ∷ []) new
held_in old i kind d new named is =
    let held = held_by old i kind (get old.counts.imports i) new refl is in
    record {
      exports = held.0;
      questions = ap (λ entries. entries.questions) held.1;
      answers = λ a. ap (λ entries. kept_account (get entries.answers a)) held.1;
      calls = held.2;
      values = λ all. rw (held.3) all;
      given = held.4;
      counted = λ f. rw (named) (held.5 f);
    }

tied_in : (old : State) (a p : ℕ) (path : List ℕ) (d : Descriptor) → mentioned_by d ≡ [] → TakenIn old (d ∷ []) (tied old a path p)
tied_in old a p path d none =
    record {
      exports = refl;
      questions = refl;
      answers = λ b. changed_account old.entries.answers a b (λ entry. record entry { kept = tie p path entry.kept }) (λ entry. refl);
      calls = refl;
      values = λ all. values_put old.values.promises p None tt all;
      given = refl;
      counted = λ i. rw (none) (omega arith);
    }

answer_in : (old : State) (a : ℕ) (path : List ℕ) (o : Option (Option Outcome)) (d : Descriptor) (taken : Cap × State) → mentioned_by d ≡ [] → ReceivesAnswer old a path o (Ok taken)
    → TakenIn old (d ∷ []) taken.1
answer_in old a path None d taken none is = ok_out is
answer_in old a path (Some (Some outcome)) d taken none is = same_in old d taken.1 none (ap (λ t. t.1) (ok_in _ _ is))
answer_in old a path (Some None) d taken none is =
    let parts = then_out {A = ℕ} {B = Cap × State} (Fresh old.values.promises) _ taken is in
    rw (ok_in _ _ parts.2) (tied_in old a parts.0 path d none)

taken_export_out : (old : State) (o : Option (Counted Cap)) (taken : Cap × State) → Ok taken ≡ taken_export old o → taken.1 ≡ old
taken_export_out old None taken is = ok_out is
taken_export_out old (Some entry) taken is = ap (λ t. t.1) (ok_in _ _ is)

pub take_in : (old : State) (d : Descriptor) (taken : Cap × State) → ReceivesCap old d (Ok taken) → TakenIn old (d ∷ []) taken.1
take_in old descriptors.None taken is = same_in old descriptors.None taken.1 refl (ap (λ t. t.1) (ok_in _ _ is))
take_in old (descriptors.SenderHosted i) taken is =
    let parts = then_out {A = State} {B = Cap × State} (λ held. held ≡ held_import old i kinds.Hosted) _ taken is in
    rw (ok_in _ _ parts.2) (held_in old i kinds.Hosted (descriptors.SenderHosted i) parts.0 refl parts.1)
take_in old (descriptors.SenderPromise i) taken is =
    let parts = then_out {A = State} {B = Cap × State} (λ held. held ≡ held_import old i kinds.Promise) _ taken is in
    rw (ok_in _ _ parts.2) (held_in old i kinds.Promise (descriptors.SenderPromise i) parts.0 refl parts.1)
take_in old (descriptors.ReceiverHosted e) taken is =
    same_in old (descriptors.ReceiverHosted e) taken.1 refl (taken_export_out old (get old.counts.exports e) taken is)
take_in old (descriptors.ReceiverAnswer answer) taken is =
    answer_in old answer.question_id (path_of answer.transform) (answer_of old answer.question_id) (descriptors.ReceiverAnswer answer) taken refl is
take_in old (descriptors.ThirdPartyHosted t) taken is = absurd is
take_in old (descriptors.Unknown n) taken is = absurd is

both_in : (old mid new : State) (d : Descriptor) (ds : List Descriptor) → TakenIn old (d ∷ []) mid → TakenIn mid ds new → TakenIn old (d ∷ ds) new
both_in old mid new d ds one more =
    record {
      exports = more.exports ∙ one.exports;
      questions = more.questions ∙ one.questions;
      answers = λ a. more.answers a ∙ one.answers a;
      calls = more.calls ∙ one.calls;
      values = λ all. more.values (one.values all);
      given = more.given ∙ one.given;
      counted = λ i. omega (
        arith,
        one.counted i,
        more.counted i,
        times_append i (mentioned_by d) (mentions_of ds),
        times_append i (mentioned_by d) [],
      );
    }

pub take_all_in : (table : List Descriptor) (old : State) (taken : List Cap × State) → ReceivesCaps old table (Ok taken) → TakenIn old table taken.1
take_all_in [] old taken is = rw (ok_in _ _ is) (taken_none old)
take_all_in (d ∷ table) old taken is =
    let first = then_out {A = Cap × State} {B = List Cap × State} (ReceivesCap old d) _ taken is in
    let rest = then_out {A = List Cap × State} {B = List Cap × State} (ReceivesCaps first.0.1 table) _ taken first.2 in
    rw (ok_in _ _ rest.2) (both_in old first.0.1 rest.0.1 d table (take_in old d first.0 first.1) (take_all_in table first.0.1 rest.0 rest.1))

-- No path of a question is taken in, since none is exported, and none is in an answer that was given.
export_plain : (old : State) (o : Option (Counted Cap)) (taken : Cap × State) → IsPlainExport o → Ok taken ≡ taken_export old o → IsPlain taken.0
export_plain old None taken plain is = ok_out is
export_plain old (Some entry) taken plain is = rw (ap (λ t. t.0) (ok_in _ _ is)) plain

answer_plain : (old : State) (a : ℕ) (path : List ℕ) (o : Option (Option Outcome)) (taken : Cap × State) → IsPlainAnswer o → ReceivesAnswer old a path o (Ok taken) → IsPlain taken.0
answer_plain old a path None taken plain is = ok_out is
answer_plain old a path (Some (Some outcome)) taken plain is = rw (ap (λ t. t.0) (ok_in _ _ is)) (plain_at outcome path plain)
answer_plain old a path (Some None) taken plain is =
    let parts = then_out {A = ℕ} {B = Cap × State} (Fresh old.values.promises) _ taken is in
    rw (ok_in _ _ parts.2) refl

unfinished_plain : (stage : Stage) (o : Option (Option Outcome)) → IsPlainAnswer o → IsPlainAnswer (unfinished stage o)
unfinished_plain stages.Open o plain = plain
unfinished_plain stages.Returned o plain = plain
unfinished_plain stages.Finished o plain = tt

kept_plain : (entry : Option (Exchange AnswerEntry)) (o : Option (Option Outcome)) → IsPlainAnswer o → IsPlainAnswer (answer_by entry o)
kept_plain None o plain = tt
kept_plain (Some entry) o plain = unfinished_plain entry.stage o plain

pub take_plain : (old : State) (d : Descriptor) (taken : Cap × State) → ArePlainAnswers old.values.answers → ArePlainExports old.counts.exports → ReceivesCap old d (Ok taken)
    → IsPlain taken.0
take_plain old descriptors.None taken given all is = rw (ok_in _ _ is) refl
take_plain old (descriptors.SenderHosted i) taken given all is =
    let parts = then_out {A = State} {B = Cap × State} (λ held. held ≡ held_import old i kinds.Hosted) _ taken is in
    rw (ok_in _ _ parts.2) refl
take_plain old (descriptors.SenderPromise i) taken given all is =
    let parts = then_out {A = State} {B = Cap × State} (λ held. held ≡ held_import old i kinds.Promise) _ taken is in
    rw (ok_in _ _ parts.2) refl
take_plain old (descriptors.ReceiverHosted e) taken given all is = export_plain old (get old.counts.exports e) taken (all e) is
take_plain old (descriptors.ReceiverAnswer answer) taken given all is =
    answer_plain old answer.question_id (path_of answer.transform) (answer_of old answer.question_id) taken
    (kept_plain (get old.entries.answers answer.question_id) (get old.values.answers answer.question_id) (given answer.question_id)) is
take_plain old (descriptors.ThirdPartyHosted t) taken given all is = absurd is
take_plain old (descriptors.Unknown n) taken given all is = absurd is

pub take_all_plain : (table : List Descriptor) (old : State) (taken : List Cap × State) → ArePlainAnswers old.values.answers → ArePlainExports old.counts.exports
    → ReceivesCaps old table (Ok taken) → IsPlainTable taken.0
take_all_plain [] old taken given all is = rw (ok_in _ _ is) refl
take_all_plain (d ∷ table) old taken given all is =
    let first = then_out {A = Cap × State} {B = List Cap × State} (ReceivesCap old d) _ taken is in
    let rest = then_out {A = List Cap × State} {B = List Cap × State} (ReceivesCaps first.0.1 table) _ taken first.2 in
    let one = take_in old d first.0 first.1 in
    rw
    (ok_in _ _ rest.2)
    (plain_both first.0.0 rest.0.0 (take_plain old d first.0 given all first.1)
    (take_all_plain table first.0.1 rest.0 (rw (one.given) given) (rw (one.exports) all) rest.1))
