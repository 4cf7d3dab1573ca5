-- Calls that are sent, as the accounts see them.
use Rattle.std.specs.Prelude.{◌≡◌, refl, ℕ, ◌+◌, ◌==◌, if◌then◌else◌, Bool, true, false, List, [], ◌∷◌, Some, None, Ok}
use Rattle.std.specs.FinMap.{get, insert}
use Rattle.std.specs.List.{list_all}
use Rattle.std.proofs.Common.{arith}
use Rattle.cp_tables.specs.Table.{Table}
use Rattle.cp_tables.specs.Counted.{count_of}
use Rattle.cp_tables.specs.Exchange.{new_exchange}
use Rattle.cp_tables.specs.declared.counted.Counted.{Counted}
use Rattle.cp_tables.specs.declared.exchange.Exchange.{Exchange}
use Rattle.cp_tables.specs.declared.exchange.Stage.{Stage}
use Rattle.cp_tables.specs.declared.exchange.Stage.TheVariants as stages
use Rattle.cp_messages.specs.declared.call.Call.{Call}
use Rattle.cp_messages.specs.declared.call.SendResultsTo.TheVariants as results_to
use Rattle.cp_messages.specs.declared.descriptor.Descriptor.{Descriptor}
use Rattle.cp_messages.specs.declared.target.Target.{Target}
use Rattle.cp_messages.specs.declared.message.Message.TheVariants as messages
use Rattle.cp_refs.specs.declared.cap.Cap.{Cap}
use Rattle.cp_refs.specs.declared.call.Origin.TheVariants as origins
use Rattle.cp_refs.specs.declared.call.Request.{Request}
use Rattle.cp_vat_machine.specs.State.{State, with_exports, with_questions}
use Rattle.cp_vat_machine.specs.Then.{Done}
use Rattle.cp_vat_machine.specs.Receiving.{times}
use Rattle.cp_vat_machine.specs.Writing.{WritesDescriptors, mentions_of}
use Rattle.cp_vat_machine.specs.Go.{PendingCall, GoOut, call_of, forwarding, sent, finish_after}
use Rattle.cp_vat_machine.specs.Capacity.{Fresh}
use Rattle.cp_vat_machine.specs.Supported.{is_supported_target, is_supported_descriptor}
use Rattle.cp_vat_machine.specs.declared.entry.QuestionEntry.{QuestionEntry}
use Rattle.cp_vat_machine.proofs.Basics.{is_equal, ok_in, then_out, put_at}
use Rattle.cp_vat_pair_laws.specs.Accounts.{Account, accounts_of, asked_account, taken_in, question_finished, question_returned, question_heard, Sent, Came}
use Rattle.cp_vat_pair_laws.specs.Accounts as accounts
use Rattle.cp_vat_pair_laws.specs.Lives.{IsUsual}
use Rattle.cp_vat_pair_laws.specs.Posting.{Sends, IsUnsent}
use Rattle.cp_vat_pair_laws.proofs.counts.rules.Accounts.{free_out}
use Rattle.cp_vat_pair_laws.proofs.counts.rules.Say.{both_true, said_all}

-- the Call of an own question that wasn't sent yet
unsent_step : (table : Table (Exchange QuestionEntry)) (q p : ℕ) (kept : QuestionEntry) (b : Bool) → (q == p) ≡ b → asked_account (get table q) ≡ None → kept.is_sent ≡ true
    → (if b then accounts.asked kept.mentions (asked_account (get table p)) else Some (asked_account (get table p)))
    ≡ Some (asked_account (get (insert table q (new_exchange kept)) p))
unsent_step table q p kept true t none is_sent = rw (put_at table q p (new_exchange kept) true t, ← is_equal q p t, none, is_sent) refl
unsent_step table q p kept false t none is_sent = rw (put_at table q p (new_exchange kept) false t) refl

sent_finished_step : (table : Table (Exchange QuestionEntry)) (q p : ℕ) (kept : QuestionEntry) (b : Bool) → (q == p) ≡ b → kept.is_sent ≡ true
    → (if b then question_finished true (asked_account (get (insert table q (new_exchange kept)) p)) else Some (asked_account (get (insert table q (new_exchange kept)) p)))
    ≡ Some (asked_account (get (insert table q (record { stage = stages.Finished; kept = kept })) p))
sent_finished_step table q p kept true t is_sent =
    rw (put_at table q p (new_exchange kept) true t, put_at table q p (record { stage = stages.Finished; kept = kept }) true t, is_sent) refl
sent_finished_step table q p kept false t is_sent =
    rw (put_at table q p (new_exchange kept) false t, put_at table q p (record { stage = stages.Finished; kept = kept }) false t) refl

abbrev call_sent : ℕ → Target → Request → List Descriptor → Call
call_sent q target request ds =
    record {
      question_id = q;
      method_id = request.method;
      send_results_to = results_to.Caller;
      interface_id = request.interface;
      target = target;
      params = record { content = request.content; cap_table = ds };
    }

-- a question's entry goes in with its Call
call_posted : (old : State) (X : Table (Counted Cap)) (q : ℕ) (target : Target) (request : Request) (ds : List Descriptor) (kept : QuestionEntry)
    → ((f : ℕ) → count_of X f ≡ count_of old.counts.exports f + times f (mentions_of ds)) → asked_account (get old.entries.questions q) ≡ None
    → kept.is_sent ≡ true → kept.mentions ≡ mentions_of ds
    → Sent (accounts_of old) (messages.Call (call_sent q target request ds)) (accounts_of (with_questions (with_exports old X) (insert old.entries.questions q (new_exchange kept))))
call_posted old X q target request ds kept counts none is_sent mentions =
    record {
      exports = counts;
      imports = λ i. omega arith;
      questions = λ p. rw (← mentions) (unsent_step old.entries.questions q p kept (q == p) refl none is_sent);
      answers = λ a. refl;
    }

call_usual : (q : ℕ) (target : Target) (request : Request) (ds : List Descriptor) → is_supported_target target ≡ true → list_all is_supported_descriptor ds ≡ true
    → IsUsual (messages.Call (call_sent q target request ds))
call_usual q target request ds to all = (both_true _ _ to all, tt)

abbrev kept_sent : QuestionEntry → List Descriptor → QuestionEntry
kept_sent kept ds = record kept { is_sent = true; mentions = mentions_of ds }

own_out : (old : State) (mid : State) (X : Table (Counted Cap)) (q : ℕ) (target : Target) (request : Request) (ds : List Descriptor) (kept : QuestionEntry) (stage : Stage)
    → mid ≡ with_exports old X → ((f : ℕ) → count_of X f ≡ count_of old.counts.exports f + times f (mentions_of ds)) → list_all is_supported_descriptor ds ≡ true
    → get old.entries.questions q ≡ Some (record { stage = stage; kept = kept }) → IsUnsent (record { stage = stage; kept = kept }) → is_supported_target target ≡ true
    → Sends old (call_of q target request ds ∷ finish_after q stage) (sent mid q ds)
own_out old mid X q target request ds kept stages.Open only counts all is unsent to =
    rw
    (only, is)
    (record {
      usual = (call_usual q target request ds to all, tt);
      posts = (
        _,
        call_posted old X q target request ds (kept_sent kept ds) counts (rw (is, unsent.0) refl) refl refl,
        refl,
      );
    })
own_out old mid X q target request ds kept stages.Finished only counts all is unsent to =
    rw
    (only, is)
    (record {
      usual = (call_usual q target request ds to all, ((refl, tt), tt));
      posts = (
        accounts_of (with_questions (with_exports old X) (insert old.entries.questions q (new_exchange (kept_sent kept ds)))),
        call_posted old X q target request ds (kept_sent kept ds) counts (rw (is, unsent.0) refl) refl refl,
        (
          accounts_of (with_questions (with_exports old X) (insert old.entries.questions q (record { stage = stages.Finished; kept = kept_sent kept ds }))),
          record {
            exports = λ e. omega arith;
            imports = λ i. omega arith;
            questions = λ p. sent_finished_step old.entries.questions q p (kept_sent kept ds) (q == p) refl refl;
            answers = λ a. refl;
          },
          refl,
        ),
      );
    })
own_out old mid X q target request ds kept stages.Returned only counts all is unsent to = absurd unsent.1

pub own_call_sent : (old : State) (call : PendingCall) (target : Target) (q : ℕ) (done : Done) → is_supported_target target ≡ true
    → ((entry : Exchange QuestionEntry) → get old.entries.questions q ≡ Some entry → IsUnsent entry) → GoOut old call target (origins.Own q) (Ok done)
    → Sends old done.0 done.1
own_call_sent old call target q done to unsent goes =
    let parts = then_out {A = List Descriptor × State} {B = Done} (WritesDescriptors old call.request.caps) _ done goes.2 in
    let said = said_all call.request.caps old parts.0 parts.1 in
    rw
    (ok_in _ _ parts.2)
    (own_out
    old
    parts.0.1
    parts.0.1.counts.exports
    q
    target
    call.request
    parts.0.0
    goes.0.kept
    goes.0.stage
    said.only
    said.counted
    said.supported
    goes.1
    (unsent goes.0 goes.1)
    to)

forwarded_out : (old : State) (mid : State) (X : Table (Counted Cap)) (q a : ℕ) (target : Target) (call : PendingCall) (ds : List Descriptor)
    → mid ≡ with_exports old X → ((f : ℕ) → count_of X f ≡ count_of old.counts.exports f + times f (mentions_of ds)) → list_all is_supported_descriptor ds ≡ true
    → get old.entries.questions q ≡ None → is_supported_target target ≡ true
    → Sends old (call_of q target call.request ds ∷ []) (with_questions mid (insert mid.entries.questions q (new_exchange (forwarding a call ds))))
forwarded_out old mid X q a target call ds only counts all fresh to =
    rw
    (only)
    (record {
      usual = (call_usual q target call.request ds to all, tt);
      posts = (_, call_posted old X q target call.request ds (forwarding a call ds) counts (rw (fresh) refl) refl refl, refl);
    })

pub peer_call_sent : (old : State) (call : PendingCall) (target : Target) (a : ℕ) (done : Done) → is_supported_target target ≡ true
    → GoOut old call target (origins.Answer a) (Ok done) → Sends old done.0 done.1
peer_call_sent old call target a done to goes =
    let first = then_out {A = ℕ} {B = Done} (Fresh old.entries.questions) _ done goes in
    let parts = then_out {A = List Descriptor × State} {B = Done} (WritesDescriptors old call.request.caps) _ done first.2 in
    let said = said_all call.request.caps old parts.0 parts.1 in
    rw
    (ok_in _ _ parts.2)
    (forwarded_out
    old
    parts.0.1
    parts.0.1.counts.exports
    first.0
    a
    target
    call
    parts.0.0
    said.only
    said.counted
    said.supported
    (free_out _ first.0 first.1)
    to)
