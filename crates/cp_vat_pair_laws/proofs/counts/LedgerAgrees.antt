-- Each step of an open vat keeps its accounts as the Ledger says, and its local questions as its application's calls say.
use Rattle.std.specs.Prelude.{◌≡◌, refl, ℕ, ltb, not, if◌then◌else◌, Bool, true, false, List, [], ◌∷◌, ◌++◌, flat_map, reverse, Option, Some, None, is_some, IfSome, IsTrue, Result, Ok}
use Rattle.std.specs.Option.{option_map_or}
use Rattle.std.specs.Ordering.{nat_cmp}
use Rattle.std.specs.FinMap.{get, get-empty}
use Rattle.std.proofs.Common.{arith, sym, ◌∙◌, append_assoc}
use Rattle.std.proofs.lemmas.List.{reverse-append, append-nil}
use Rattle.std.proofs.lemmas.Bool.Decides.{nat_tests}
use Rattle.cp_tables.specs.Counted.{IsCount}
use Rattle.cp_tables.specs.declared.counted.Counted.{Counted}
use Rattle.cp_tables.specs.declared.exchange.Exchange.{Exchange}
use Rattle.cp_tables.specs.declared.exchange.Stage.{Stage}
use Rattle.cp_tables.specs.declared.exchange.Stage.TheVariants as stages
use Rattle.cp_messages.specs.Written.{message_written}
use Rattle.cp_messages.specs.declared.message.Message.{Message}
use Rattle.cp_messages.specs.declared.message.Message.TheVariants as messages
use Rattle.cp_messages.specs.declared.returned.Return.{Return}
use Rattle.cp_messages.specs.declared.small.Finish.{Finish}
use Rattle.cp_refs.specs.declared.cap.Cap.{Cap}
use Rattle.cp_vat_machine.specs.State.{State, new_state}
use Rattle.cp_vat_machine.specs.Then.{Done, Unless, fault_if}
use Rattle.cp_vat_machine.specs.Capacity.{message_fits}
use Rattle.cp_vat_machine.specs.Supported.{is_supported}
use Rattle.cp_vat_machine.specs.Answering.{FinishedBy}
use Rattle.cp_vat_machine.specs.Asking.{is_asked, ReturnOf}
use Rattle.cp_vat_machine.specs.Calling.{OwnDone}
use Rattle.cp_vat_machine.specs.Local.{Local}
use Rattle.cp_vat_machine.specs.Run.{Moment, Steps}
use Rattle.cp_vat_machine.specs.Step.{On, ReceivesIf, Does, Follows, Step, was_closed, ran_out, refused, did, received, faulted}
use Rattle.cp_vat_machine.specs.declared.effect.Effect.{Effect}
use Rattle.cp_vat_machine.specs.declared.effect.Effect.TheVariants as effects
use Rattle.cp_vat_machine.specs.declared.entry.AnswerEntry.{AnswerEntry}
use Rattle.cp_vat_machine.specs.declared.entry.ImportKind.{ImportKind}
use Rattle.cp_vat_machine.specs.declared.entry.QuestionEntry.{QuestionEntry}
use Rattle.cp_vat_machine.specs.declared.event.Event.{Event}
use Rattle.cp_vat_machine.specs.declared.event.Event.TheVariants as events
use Rattle.cp_vat_machine.specs.declared.event.Value.{Value}
use Rattle.cp_vat_machine.specs.declared.fault.PeerFault.{PeerFault}
use Rattle.cp_vat_machine.specs.declared.fault.PeerFault.TheVariants as faults
use Rattle.cp_vat_machine.specs.declared.fault.VatFault.{VatFault}
use Rattle.cp_vat_machine.proofs.Basics.{ok_out, unless_out}
use Rattle.cp_vat_laws.proofs.within.Step.{runs_keep}
use Rattle.cp_vat_pair_laws.specs.Ledger.{Traffic, came, sent, arrival, departure, traffic_if, traffic_of, past_of, export_count, import_count, question_stage, answer_stage}
use Rattle.cp_vat_pair_laws.specs.Accounts.{Accounts, accounts_of, asked_account, kept_account, Sent}
use Rattle.cp_vat_pair_laws.specs.VatPair.{messages_sent}
use Rattle.cp_vat_pair_laws.specs.Posting.{Posts}
use Rattle.cp_vat_pair_laws.specs.Orderly.{IsOrderly}
use Rattle.cp_vat_pair_laws.specs.LocalQuestions.{local_question}
use Rattle.cp_vat_pair_laws.specs.Tallied.{asked_stage, unsent_stage, local_stage, kept_stage, AreTallied, LedgerAgrees}
use Rattle.cp_vat_pair_laws.proofs.counts.Tally.{IsQuestion, IsAnswer, Tallies, sent_tallies, IsKnown, came_tallies}
use Rattle.cp_vat_pair_laws.proofs.NewPairs.{new_orderly}
use Rattle.cp_vat_pair_laws.proofs.counts.rules.TwoParts.{sends_both, hears_both}
use Rattle.cp_vat_pair_laws.proofs.counts.rules.Does.{does_goes}
use Rattle.cp_vat_pair_laws.proofs.counts.rules.Receives.{receives_heeds, follows_goes, echo_goes}
use Rattle.cp_vat_pair_laws.proofs.counts.Moves.{closed_open}
use Rattle.cp_vat_pair_laws.proofs.counts.local.Steps.{still_open}
use Rattle.cp_vat_pair_laws.proofs.counts.local.Stages.{local_as}

-- later messages on a past, one by one
abbrev later : List Traffic → List Traffic → List Traffic
later past [] = past
later past (message ∷ more) = later (message ∷ past) more

later-append : (past front back : List Traffic) → later past (front ++ back) ≡ later (later past front) back
later-append past [] back = refl
later-append past (message ∷ front) back = later-append (message ∷ past) front back

reversed_onto : (past traffic : List Traffic) → reverse traffic ++ past ≡ later past traffic
reversed_onto past [] = refl
reversed_onto past (message ∷ more) =
    rw (reverse-append (message ∷ []) more, append_assoc (reverse more) (message ∷ []) past) (reversed_onto (message ∷ past) more)

is_later : (traffic : List Traffic) → reverse traffic ≡ later [] traffic
is_later traffic = sym (append-nil (reverse traffic)) ∙ reversed_onto [] traffic

-- what effects send
posts_tally : (effects : List Effect) (past : List Traffic) (old new : Accounts) → Tallies past old → Posts old (messages_sent effects) new
    → Tallies (later past (flat_map departure effects)) new
posts_tally [] past old new is posts = rw (posts) is
posts_tally (effects.Send m ∷ more) past old new is posts =
    posts_tally more (sent m ∷ past) posts.0 new (sent_tallies past m old posts.0 is posts.1) posts.2
posts_tally (effect ∷ more) past old new is posts = posts_tally more past old new is posts

-- a message that comes and is at no fault is about what exists
asked_there : (o : Option (Exchange QuestionEntry)) (entry : Exchange QuestionEntry) → o ≡ Some entry → entry.kept.is_sent ≡ true → IsTrue (is_some (asked_account o))
asked_there o entry is sends = rw (is, sends) refl

is_sent_by : (is_sent : Bool) (stage : Stage) (done : Done) (Rule : Result Done PeerFault → Type 0)
    → Unless (fault_if (not (is_asked is_sent stage)) faults.UnknownQuestion) Rule (Ok done) → is_sent ≡ true
is_sent_by true stage done Rule does = refl
is_sent_by false stages.Open done Rule does = ok_out does
is_sent_by false stages.Returned done Rule does = ok_out does
is_sent_by false stages.Finished done Rule does = ok_out does

return_known : (old : State) (r : Return) (o : Option (Exchange QuestionEntry)) (done : Done) → ReturnOf old r o (Ok done) → IsTrue (is_some (asked_account o))
return_known old r None done does = ok_out does
return_known old r (Some entry) done does = rw (is_sent_by entry.kept.is_sent entry.stage done _ does) refl

finish_known : (old : State) (f : Finish) (o : Option (Exchange AnswerEntry)) (done : Done) → FinishedBy old f o (Ok done) → IsTrue (is_some (kept_account o))
finish_known old f None done does = ok_out does
finish_known old f (Some entry) done does = refl

on_known : (old : State) (m : Message) (done : Done) → On old m (Ok done) → IsKnown (accounts_of old) m
on_known old (messages.Return r) done does = return_known old r (get old.entries.questions r.answer_id) done does
on_known old (messages.Finish f) done does = finish_known old f (get old.entries.answers f.question_id) done does
on_known old (messages.Unimplemented t) done does = tt
on_known old (messages.Abort x) done does = tt
on_known old (messages.Call c) done does = tt
on_known old (messages.Resolve r) done does = tt
on_known old (messages.Release r) done does = tt
on_known old (messages.Bootstrap b) done does = tt
on_known old (messages.Disembargo d) done does = tt
on_known old (messages.Other which body) done does = tt

-- one that isn't supported changes nothing, and its echo names nothing
echo_sent : (accounts : Accounts) (m : Message) → Sent accounts (messages.Unimplemented (message_written m)) accounts
echo_sent accounts m = record { exports = λ e. omega arith; imports = λ i. omega arith; questions = λ q. refl; answers = λ a. refl }

-- a step of an open vat
abbrev StaysTallied : List Traffic → State → Type 0
StaysTallied past new = Tallies past (accounts_of new) × IsOrderly new

calls_send : (event : Event) (old : State) (out : Result OwnDone VatFault) → Does old event out → arrival event ≡ []
calls_send (events.Receive m) old out does = absurd does
calls_send events.Bootstrap old out does = refl
calls_send (events.Call cap request) old out does = refl
calls_send (events.Answer origin outcome) old out does = refl
calls_send events.Promise old out does = refl
calls_send (events.Resolve p cap) old out does = refl
calls_send (events.Finish q) old out does = refl
calls_send (events.Release i) old out does = refl
calls_send (events.Forget p) old out does = refl
calls_send events.Idle old out does = refl

message_tallies : (b : Bool) (old mid new : State) (m : Message) (first rest : List Effect) (past : List Traffic) → is_supported m ≡ b → Tallies past (accounts_of old) → IsOrderly old
    → new.is_closed ≡ false → ReceivesIf b old m (Ok (first, mid)) → Follows mid rest new
    → StaysTallied (later past ((if b then (came m ∷ []) else []) ++ flat_map departure (first ++ rest))) new
message_tallies true old mid new m first rest past supported is orderly open_ does follows =
    let on = unless_out {A = Done} {F = PeerFault} (fault_if (not (message_fits m)) faults.PayloadTooLarge) (On old m) (first, mid) does in
    let heeds = receives_heeds old m (first, mid) supported orderly (rw (supported) does) in
    let goes = follows_goes mid new rest open_ heeds.1 follows in
    let all = hears_both old mid new m first rest heeds.0 goes.0 in
    (posts_tally (first ++ rest) (came m ∷ past) all.mid (accounts_of new) (came_tallies past m (accounts_of old) all.mid is (on_known old m (first, mid) on) all.came) all.posts, goes.1)
message_tallies false old mid new m first rest past supported is orderly open_ does follows =
    let echo = echo_goes old m (first, mid) does in
    let goes = follows_goes mid new rest open_ (rw (echo.0) orderly) follows in (
      rw
          (echo.1)
          (posts_tally rest (sent (messages.Unimplemented (message_written m)) ∷ past) (accounts_of mid) (accounts_of new)
          (sent_tallies past (messages.Unimplemented (message_written m)) (accounts_of old) (accounts_of mid) is (rw (echo.0) (echo_sent (accounts_of old) m))) goes.0.posts),
      goes.1,
    )

step_tallies : {old new : State} {event : Event} {result : Result Value VatFault} {effects : List Effect} (past : List Traffic) → Tallies past (accounts_of old) → IsOrderly old
    → new.is_closed ≡ false → Step old event result effects new → StaysTallied (later past (traffic_if result (arrival event ++ flat_map departure effects))) new
step_tallies past is orderly open_ (was_closed event shut) = (is, orderly)
step_tallies past is orderly open_ (ran_out event was shut) = closed_open shut open_
step_tallies past is orderly open_ (refused event was does) = (is, orderly)
step_tallies {old = old} {new = new} past is orderly open_ (did {value = value} event first rest mid was does follows all) =
    let goes = does_goes old event (value, first, mid) orderly does in
    let on = follows_goes mid new rest open_ goes.1 follows in
    rw
    (all, calls_send event old (Ok (value, first, mid)) does)
    (posts_tally (first ++ rest) past (accounts_of old) (accounts_of new) is (sends_both old mid new first rest goes.0 on.0).posts, on.1)
step_tallies {old = old} {new = new} past is orderly open_ (received m first rest mid was does follows all) =
    rw (all) (message_tallies (is_supported m) old mid new m first rest past refl is orderly open_ does follows)
step_tallies past is orderly open_ (faulted m was does shut) = closed_open shut open_

-- steps one after another
steps_tally : (history : List Moment) (past : List Traffic) (old last : State) → Tallies past (accounts_of old) → IsOrderly old → Steps old history last → last.is_closed ≡ false
    → Tallies (later past (flat_map traffic_of history)) (accounts_of last)
steps_tally [] past old last is orderly steps open_ = rw (steps) is
steps_tally (moment ∷ more) past old last is orderly steps open_ =
    let here = step_tallies past is orderly (still_open more steps.0 last steps.2 open_) steps.1 in
    rw
    (later-append past (traffic_of moment) (flat_map traffic_of more))
    (steps_tally more (later past (traffic_of moment)) steps.0 last here.0 here.1 steps.2 open_)

new_tallies : (bootstrap : Option ℕ) → Tallies [] (accounts_of (new_state bootstrap))
new_tallies bootstrap =
    record {
      exports = λ e. rw (get-empty {X = Counted Cap} nat_cmp e) refl;
      imports = λ i. rw (get-empty {X = Counted ImportKind} nat_cmp i) refl;
      questions = λ q. rw (get-empty {X = Exchange QuestionEntry} nat_cmp q) refl;
      answers = λ a. rw (get-empty {X = Exchange AnswerEntry} nat_cmp a) refl;
    }

-- what accounts show of the tables
asked_as : (stage : Option Stage) (params : List ℕ) (finished : Bool) (o : Option (Exchange QuestionEntry)) → IsQuestion stage params finished (asked_account o) → asked_stage o ≡ stage
asked_as stage params finished None is = sym is
asked_as stage params finished (Some entry) is = by entry.kept.is_sent is
  where
    by : (b : Bool) → IsQuestion stage params finished (if b then Some (record { stage = entry.stage; kept = entry.kept.mentions }) else None)
        → (if b then Some entry.stage else None) ≡ stage
    by true is = sym is.0
    by false is = sym is

kept_as : (stage : Option Stage) (results : List ℕ) (o : Option (Exchange AnswerEntry)) → IsAnswer stage results (kept_account o) → kept_stage o ≡ stage
kept_as stage results None is = sym is
kept_as stage results (Some entry) is = sym is.0

counted_there : {X : Type 0} (o : Option (Counted X)) (n : ℕ) → IfSome o (λ entry. IsCount entry.count) → option_map_or (λ entry. entry.count) o 0 ≡ n → is_some o ≡ ltb 0 n
counted_there None n all is = rw (← is) refl
counted_there (Some entry) n all is = sym (grind (arith, nat_tests, all.0, is))

tallied : (s : State) (history : List Moment) → Tallies (past_of history) (accounts_of s) → Local s
    → ((q : ℕ) → unsent_stage (get s.entries.questions q) ≡ local_stage s q (local_question history q)) → AreTallied s history
tallied s history is local locally =
    record {
      exports = is.exports;
      imports = is.imports;
      exported = λ e. counted_there (get s.counts.exports e) (export_count (past_of history) e) (local.counts e) (is.exports e);
      imported = λ i. counted_there (get s.counts.imports i) (import_count (past_of history) i) (local.imported i) (is.imports i);
      questions = λ q. asked_as (question_stage (past_of history) q) _ _ (get s.entries.questions q) (is.questions q);
      local = locally;
      answers = λ a. kept_as (answer_stage (past_of history) a) _ (get s.entries.answers a) (is.answers a);
    }

pub ledger_agrees : LedgerAgrees
ledger_agrees bootstrap history last steps open_ =
    let all = steps_tally history [] (new_state bootstrap) last (new_tallies bootstrap) (new_orderly bootstrap) steps open_ in
    let local = runs_keep bootstrap history last steps open_ in
    tallied last history (rw (is_later (flat_map traffic_of history)) all) local (local_as bootstrap history last steps open_ local)
