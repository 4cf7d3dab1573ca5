-- Whatever a vat behind tail calls does, turns of tail calls say what goes over the wire and what becomes of its accounts.
use Rattle.std.specs.Prelude.{◌≡◌, ◌≢◌, refl, ℕ, ◌^◌, ◌<◌, ◌⊎◌, ◌++◌, ◌&&◌, flat_map, if◌then◌else◌, Bool, true, false, List, [], ◌∷◌, Option, Some, None, is_some, IsTrue, Result, Ok, Err}
use Rattle.std.specs.List.{AllByRecursion}
use Rattle.std.specs.Ordering.{nat_cmp}
use Rattle.std.specs.Option.{option_map}
use Rattle.std.specs.FinMap.{get, insert, get-empty}
use Rattle.std.proofs.Common.{true≢false, sym, ap, subst, ◌∙◌, inl, inr}
use Rattle.cp_tables.specs.declared.counted.Counted.{Counted}
use Rattle.cp_tables.specs.declared.exchange.Exchange.{Exchange}
use Rattle.cp_tables.specs.declared.exchange.Stage.{Stage}
use Rattle.cp_messages.specs.declared.call.Call.{Call}
use Rattle.cp_messages.specs.declared.message.Message.{Message}
use Rattle.cp_messages.specs.declared.message.Message.TheVariants as messages
use Rattle.cp_messages.specs.declared.resolve.Resolve.{Resolve}
use Rattle.cp_messages.specs.declared.returned.Return.{Return}
use Rattle.cp_messages.specs.declared.returned.Returned.{Returned}
use Rattle.cp_messages.specs.declared.returned.Returned.TheVariants as returns
use Rattle.cp_messages.specs.declared.small.Finish.{Finish}
use Rattle.cp_refs.specs.declared.cap.Cap.{Cap}
use Rattle.cp_vat_machine.specs.Asked.{stage_of}
use Rattle.cp_vat_machine.specs.Run.{Moment, Steps}
use Rattle.cp_vat_machine.specs.State.{State, new_state}
use Rattle.cp_vat_machine.specs.Step.{Step}
use Rattle.cp_vat_machine.specs.Supported.{is_supported, is_supported_to_caller}
use Rattle.cp_vat_machine.specs.declared.effect.Effect.{Effect}
use Rattle.cp_vat_machine.specs.declared.effect.Effect.TheVariants as effects
use Rattle.cp_vat_machine.specs.declared.entry.AnswerEntry.{AnswerEntry}
use Rattle.cp_vat_machine.specs.declared.entry.ImportKind.{ImportKind}
use Rattle.cp_vat_machine.specs.declared.entry.QuestionEntry.{QuestionEntry}
use Rattle.cp_vat_machine.specs.declared.event.Event.{Event}
use Rattle.cp_vat_machine.specs.declared.event.Event.TheVariants as events
use Rattle.cp_vat_machine.specs.declared.event.Value.{Value}
use Rattle.cp_vat_machine.specs.declared.event.Value.TheVariants as values
use Rattle.cp_vat_machine.specs.declared.fault.VatFault.{VatFault}
use Rattle.cp_vat_machine.specs.declared.fault.VatFault.TheVariants as refusals
use Rattle.cp_vat_machine.proofs.Basics.{some_out, none_out, all_both}
use Rattle.cp_vat_laws.proofs.within.Step.{runs_keep}
use Rattle.cp_vat_pair_laws.specs.Ledger.{Traffic, departure, traffic_if}
use Rattle.cp_vat_pair_laws.specs.Ledger as ledger
use Rattle.cp_vat_pair_laws.specs.Accounts.{accounts_of}
use Rattle.cp_vat_pair_laws.specs.Orderly.{IsOrderly}
use Rattle.cp_vat_pair_laws.proofs.NewPairs.{new_orderly}
use Rattle.cp_vat_pair_laws.proofs.counts.Moves.{step_open}
use Rattle.cp_tail_calls.specs.declared.forwarding.ForwardedMessage.{ForwardedMessage}
use Rattle.cp_tail_calls.specs.declared.forwarding.ForwardedMessage.TheVariants as owed
use Rattle.cp_tail_calls.specs.declared.forwarding.Trigger.{Trigger}
use Rattle.cp_tail_calls.specs.declared.forwarding.Trigger.TheVariants as triggers
use Rattle.cp_tail_calls.specs.declared.progress.Progress.{Progress}
use Rattle.cp_tail_calls.specs.declared.progress.Progress.TheVariants as progress
use Rattle.cp_tail_calls.specs.declared.progress.Taker.{Taker}
use Rattle.cp_tail_calls.specs.Receiving.{Finishing, with_call, finish_of, goes_on, is_due, is_to_sender, is_untaken, let_go, receive_finish_of, receive_returned, received, return_of_none, taken, taker_by}
use Rattle.cp_tail_calls.specs.Runs.{Turn, came, passed}
use Rattle.cp_tail_calls.specs.Sending.{next_of}
use Rattle.cp_tail_calls.specs.Serving.{Served, Serves, calls, takes, keeps, refuses, Goes, moment, closes, gets, is_message, trigger_of, Settles, has_closed, nothing_owed, to_peer, to_vat, comes_of, passed_on, owed_by}
use Rattle.cp_tail_calls.specs.Tails.{Tails, none}
use Rattle.cp_tail_calls.proofs.Cases.{call_if, take_if}
use Rattle.cp_tail_counts.specs.Peer.{said, said_if, peer_past}
use Rattle.cp_tail_counts.specs.Behind.{Comes, Passes, Lived, IsNew}
use Rattle.cp_tail_counts.specs.Counts.{IsNumbered, CountsAgree}
use Rattle.cp_tail_counts.specs.Wire.{new_served, Act, arrived, later, wire_past, Life, CountsOverWire}
use Rattle.cp_tail_counts.proofs.Steps.{Hears, hears, Late, acts}
use Rattle.cp_tail_counts.proofs.Quiet.{AreQuiet}
use Rattle.cp_tail_counts.proofs.Turns.{turns_count}
use Rattle.cp_tail_counts.proofs.Wiring.{later_append, departures_append, steps_append, knows_stages, IsForVat, AreForVat, finish_for, went_whole, went_heard, IsNamed, same_imports, counts_fit}

-- none of these moments closes the vat
abbrev AllOpen : List Moment → Type 0
AllOpen history = AllByRecursion (λ moment. closes moment.effects ≡ false) history

-- ---- what a message leaves to be passed on
more_for : (t : Tails) (more : List ForwardedMessage) → AreForVat t → AllByRecursion IsForVat more → AllByRecursion IsForVat (t.owed ++ more)
more_for t more all new = all_both IsForVat t.owed more all new

call_for : (b : Bool) (t : Tails) (c : Call) → AreForVat t → AreForVat (call_if b t c).1
call_for true t c all = by (get t.calls c.question_id)
  where
    by : (o : Option Progress) → AreForVat (if is_some o then t else record t { calls = insert t.calls c.question_id progress.Untaken })
    by None = all
    by (Some how) = all
call_for false t c all = all

taken_for : (t : Tails) (q : ℕ) (taker : Taker) (kept : Option Return) → AreForVat t → AreForVat (taken t q taker kept)
taken_for t q taker None all = all
taken_for t q taker (Some r) all = more_for t _ all (tt, (tt, finish_for taker.is_finished q))

take_for : (b : Bool) (t : Tails) (r : Return) (q : ℕ) → AreForVat t → AreForVat (take_if b t r q).1
take_for true t r q all = taken_for t q (taker_by r) (get t.results q) all
take_for false t r q all = all

returned_for : (stage : ℕ → Option Stage) (t : Tails) (r : Return) (returned : Returned) → AreForVat t → AreForVat (receive_returned stage t r returned).1
returned_for stage t r (returns.TakeFromOtherQuestion q) all = take_for (is_due (stage r.answer_id) && is_untaken (get t.calls q)) t r q all
returned_for stage t r other all = all

let_go_for : (t : Tails) (q : ℕ) (kept : Option Return) → AreForVat t → AreForVat (let_go t q kept)
let_go_for t q None all = all
let_go_for t q (Some r) all = more_for t _ all (tt, tt)

-- what comes of a Finish of a call whose results a question waits for
abbrev held_if : Bool → Tails → Finish → Taker → Finishing
held_if b t f taker =
    if b then (Some f, record t { owed = t.owed ++ owed.ToVat (messages.Finish (finish_of f.question_id)) ∷ [] })
    else (None, with_call t f.question_id (progress.Taken (record taker { is_finished = true })))

finish_of_for : (t : Tails) (f : Finish) (how : Option Progress) → AreForVat t → AreForVat (receive_finish_of t f how).1
finish_of_for t f None all = all
finish_of_for t f (Some progress.Untaken) all = let_go_for t f.question_id (get t.results f.question_id) all
finish_of_for t f (Some (progress.Taken taker)) all = by taker.is_finished
  where
    by : (b : Bool) → AreForVat (held_if b t f taker).1
    by true = more_for t _ all (tt, tt)
    by false = all
finish_of_for t f (Some progress.Given) all = all
finish_of_for t f (Some progress.GivenUp) all = all

received_for : (acts_on : Call → Bool) (stage : ℕ → Option Stage) (t : Tails) (m : Message) → AreForVat t → AreForVat (received acts_on stage t m).1
received_for acts_on stage t (messages.Call c) all = call_for (is_to_sender c.send_results_to && acts_on c) t c all
received_for acts_on stage t (messages.Return r) all = by (get t.takers r.answer_id)
  where
    by : (o : Option ℕ) → AreForVat (if is_some o then goes_on t (messages.Return return_of_none) else receive_returned stage t r r.returned).1
    by None = returned_for stage t r r.returned all
    by (Some q) = all
received_for acts_on stage t (messages.Finish f) all = finish_of_for t f (get t.calls f.question_id) all
received_for acts_on stage t m all = all

-- ---- a Resolve goes on as it came
abbrev IsNoResolve : Option Message → Type 0
IsNoResolve (Some (messages.Resolve x)) = ⊥
IsNoResolve other = Unit {0}

returned_no : (stage : ℕ → Option Stage) (t : Tails) (r : Return) (returned : Returned) → IsNoResolve (receive_returned stage t r returned).0
returned_no stage t r (returns.TakeFromOtherQuestion q) = by (is_due (stage r.answer_id) && is_untaken (get t.calls q))
  where
    by : (b : Bool) → IsNoResolve (take_if b t r q).0
    by true = tt
    by false = tt
returned_no stage t r other = tt

finish_no : (t : Tails) (f : Finish) (how : Option Progress) → IsNoResolve (option_map (λ f. messages.Finish f) (receive_finish_of t f how).0)
finish_no t f None = tt
finish_no t f (Some progress.Untaken) = tt
finish_no t f (Some (progress.Taken taker)) = by taker.is_finished
  where
    by : (b : Bool) → IsNoResolve (option_map (λ f. messages.Finish f) (held_if b t f taker).0)
    by true = tt
    by false = tt
finish_no t f (Some progress.Given) = tt
finish_no t f (Some progress.GivenUp) = tt

-- what the vat gets is named by what the peer said, if it is a Resolve
named_by_other : (m on : Message) (past : List Traffic) → IsNoResolve (Some on) → IsNamed on (said m (Some on) ++ past)
named_by_other m (messages.Resolve x) past other = absurd other
named_by_other m on past other = tt

named_if : (b : Bool) (x : Resolve) (past : List Traffic) → IsTrue b → IsNamed (messages.Resolve x) (said_if b (messages.Resolve x) ++ past)
named_if true x past is = (past, refl)
named_if false x past is = absurd (true≢false (sym is))

named_came : (acts_on : Call → Bool) (stage : ℕ → Option Stage) (t : Tails) (m on : Message) (past : List Traffic) → (received acts_on stage t m).0 ≡ Some on
    → IsTrue (is_supported on) → IsNamed on (said m (Some on) ++ past)
named_came acts_on stage t (messages.Call c) on past is supported = named_by_other (messages.Call c) on past (subst IsNoResolve is tt)
named_came acts_on stage t (messages.Return r) on past is supported = named_by_other (messages.Return r) on past (subst IsNoResolve is (by (get t.takers r.answer_id)))
  where
    by : (o : Option ℕ) → IsNoResolve (if is_some o then goes_on t (messages.Return return_of_none) else receive_returned stage t r r.returned).0
    by None = returned_no stage t r r.returned
    by (Some q) = tt
named_came acts_on stage t (messages.Finish f) on past is supported =
    named_by_other (messages.Finish f) on past (subst IsNoResolve is (finish_no t f (get t.calls f.question_id)))
named_came acts_on stage t (messages.Resolve x) on past is supported =
    subst
    (λ (on : Message). IsTrue (is_supported on) → IsNamed on (said (messages.Resolve x) (Some on) ++ past))
    (some_out is)
    (λ supported. named_if (is_supported (messages.Resolve x)) x past supported)
    supported
named_came acts_on stage t m on past is supported = named_by_other m on past (subst IsNoResolve is tt)

-- ---- what is reached
record Reached (bootstrap : Option ℕ) (wire : List Traffic) (s : Served) : Type 0 where
  t : Tails
  tails : s.tails ≡ Some t
  turns : List Turn
  lived : Lived turns t (accounts_of s.vat)
  past : peer_past turns ≡ wire
  for_vat : AreForVat t
  orderly : IsOrderly s.vat
  history : List Moment
  steps : Steps (new_state bootstrap) history s.vat

-- nothing is to be passed on
abbrev IsSettled : Served → Type 0
IsSettled s = (t : Tails) → s.tails ≡ Some t → t.owed ≡ []

same_some : (s t : Tails) → Some s ≡ Some t → s ≡ t
same_some s t e = some_out e

-- ---- what is owed to the vat is no Resolve
not_named : (m : Message) (past : List Traffic) → IsForVat (owed.ToVat m) → IsNamed m past
not_named (messages.Resolve x) past is = absurd is
not_named m past is = tt

no_late : (m : Message) (by : List Effect) → IsForVat (owed.ToVat m) → Late m by → ⊥
no_late (messages.Return r) by is late = late
no_late (messages.Finish f) by is late = late
no_late m by is late = is

quiet_of : (m : Message) (by : List Effect) → IsForVat (owed.ToVat m) → AreQuiet by ⊎ (IsTrue (is_supported m) × Late m by) → AreQuiet by
quiet_of m by is (inl quiet) = quiet
quiet_of m by is (inr late) = absurd (no_late m by is late.1)

fits_of : (m : Message) (by : List Effect) (s vat : State) (h : Hears s vat m by) → IsForVat (owed.ToVat m) → ((i : ℕ) → (accounts_of vat).imports i < 2 ^ 32)
    → (i : ℕ) → h.mid.imports i < 2 ^ 32
fits_of m by s vat h is fit i =
    subst (λ (n : ℕ). n < 2 ^ 32) (same_imports by h.mid (accounts_of vat) (quiet_of m by is h.gives) h.posts i) (fit i)

next_is : (stage : ℕ → Option Stage) (t mid : Tails) (os : List ForwardedMessage) (first : ForwardedMessage) → next_of stage t os ≡ (Some first, mid) → AllByRecursion IsForVat os → IsForVat first
next_is stage t mid [] first next all = none_out (ap (λ (p : Option ForwardedMessage × Tails). p.0) next)
next_is stage t mid (o ∷ os) first next all = subst IsForVat (some_out (ap (λ (p : Option ForwardedMessage × Tails). p.0) next)) all.0

next_for : (stage : ℕ → Option Stage) (t mid : Tails) (os : List ForwardedMessage) (first : ForwardedMessage) → next_of stage t os ≡ (Some first, mid) → AllByRecursion IsForVat os → AreForVat mid
next_for stage t mid [] first next all = none_out (ap (λ (p : Option ForwardedMessage × Tails). p.0) next)
next_for stage t mid (o ∷ os) first next all = subst AreForVat (ap (λ (p : Option ForwardedMessage × Tails). p.1) next) all.1

-- a vat that is open was so before
settles_open : (closed : Bool) (s new : Served) (history : List Moment) (out : List Effect) → new.vat.is_closed ≡ false
    → Settles is_supported_to_caller stage_of closed s history out new → s.vat.is_closed ≡ false
settles_open closed s new history out open_ has_closed = open_
settles_open closed s new history out open_ (nothing_owed x) = open_
settles_open closed s new history out open_ (to_peer {out = more} m t mid is next settles all) = settles_open false (record s { tails = Some mid }) new history more open_ settles
settles_open closed s new history out open_ (to_vat {history = later_history} {out = more} m t mid by vat is next step settles whole all) =
    step_open (settles_open (closes by) (record { vat = vat; tails = (comes_of triggers.Message (Some mid) by).1 }) new later_history more open_ settles) step

module _ (bootstrap : Option ℕ) where
  -- the vat got a message by this turn
  heard_reaches : (s : Served) (turn : Turn) (turns : List Turn) (t : Tails) (m : Message) (by : List Effect) (vat : State) (wire : List Traffic) (history : List Moment)
      → (h : Hears s.vat vat m by) → Lived (turn ∷ turns) t h.mid → peer_past (turn ∷ turns) ≡ wire → (IsTrue (is_supported m) → IsNamed m (peer_past (turn ∷ turns)))
      → closes by ≡ false → AreForVat t → Steps (new_state bootstrap) history s.vat → Step s.vat (events.Receive m) (Ok values.Nothing) by vat
      → Reached bootstrap (later wire (flat_map departure (passed_on triggers.Message t by).0)) (record { vat = vat; tails = (comes_of triggers.Message (Some t) by).1 })
  heard_reaches s turn turns t m by vat wire history h lived same named open_ for_vat steps step =
      let went = went_heard m by (turn ∷ turns) t s.vat vat h lived named open_ for_vat in
      record {
        t = (passed_on triggers.Message t by).1;
        tails = refl;
        turns = went.all;
        lived = went.lived;
        past = went.past ∙ ap (λ (past : List Traffic). later past (flat_map departure (passed_on triggers.Message t by).0)) same;
        for_vat = went.for_vat;
        orderly = h.orderly;
        history = history ++ moment (events.Receive m) (Ok values.Nothing) by ∷ [];
        steps = steps_append history (moment (events.Receive m) (Ok values.Nothing) by ∷ []) (new_state bootstrap) s.vat vat steps (vat, step, refl);
      }

  -- what is owed is passed on
  record After (wire : List Traffic) (out : List Effect) (new : Served) : Type 0 where
    reached : Reached bootstrap (later wire (flat_map departure out)) new
    settled : IsSettled new

  wire_both : (wire : List Traffic) (first more all : List Effect) (new : Served) → all ≡ first ++ more → After (later wire (flat_map departure first)) more new → After wire all new
  wire_both wire first more all new is after =
      let same : later (later wire (flat_map departure first)) (flat_map departure more) ≡ later wire (flat_map departure all) =
      sym (later_append wire (flat_map departure first) (flat_map departure more))
      ∙ ap (λ (traffic : List Traffic). later wire traffic) (sym (departures_append first more))
      ∙ ap (λ (all : List Effect). later wire (flat_map departure all)) (sym is)
      in
      record { reached = subst (λ (wire : List Traffic). Reached bootstrap wire new) same after.reached; settled = after.settled }

  settles : (closed : Bool) (s new : Served) (history : List Moment) (out : List Effect) (wire : List Traffic) → closed ≡ false → new.vat.is_closed ≡ false → AllOpen history
      → Reached bootstrap wire s → Settles is_supported_to_caller stage_of closed s history out new → After wire out new
  settles closed s new history out wire going open_ all_open r has_closed = absurd (true≢false going)
  settles closed s new history out wire going open_ all_open r (nothing_owed none) =
      record { reached = r; settled = λ t is. subst (λ (tails : Option Tails). owed_by tails ≡ []) is none }
  settles closed s new history out wire going open_ all_open r (to_peer {out = more} m t mid is next settled all) =
      let same = same_some r.t t (sym r.tails ∙ is) in
      let turn = passed (stage_of s.vat) (owed.ToPeer m) in
      let first : List Effect = effects.Send m ∷ [] in
      let reached : Reached bootstrap (later wire (flat_map departure first)) (record s { tails = Some mid }) =
      record {
        t = mid;
        tails = refl;
        turns = turn ∷ r.turns;
        lived = (t, accounts_of s.vat, subst (λ (t : Tails). Lived r.turns t (accounts_of s.vat)) same r.lived, next, refl);
        past = ap (λ (past : List Traffic). ledger.sent m ∷ past) r.past;
        for_vat = next_for (stage_of s.vat) t mid t.owed (owed.ToPeer m) next (subst AreForVat same r.for_vat);
        orderly = r.orderly;
        history = r.history;
        steps = r.steps;
      }
      in
      wire_both wire first more out new all (settles false (record s { tails = Some mid }) new history more (later wire (flat_map departure first)) refl open_ all_open reached settled)
  settles closed s new history out wire going open_ all_open r (to_vat {history = later_history} {out = more} m t mid by vat is next step settled whole all) =
      let same = same_some r.t t (sym r.tails ∙ is) in
      let after : Served = record { vat = vat; tails = (comes_of triggers.Message (Some mid) by).1 } in
      let opens : AllOpen (moment (events.Receive m) (Ok values.Nothing) by ∷ later_history) = subst AllOpen whole all_open in
      let open_then = settles_open (closes by) after new later_history more open_ settled in
      let h = hears s.vat vat m by values.Nothing r.orderly open_then step in
      let for_vat = subst AreForVat same r.for_vat in
      let history_now = r.history ++ moment (events.Receive m) (Ok values.Nothing) by ∷ [] in
      let steps_now = steps_append r.history (moment (events.Receive m) (Ok values.Nothing) by ∷ []) (new_state bootstrap) s.vat vat r.steps (vat, step, refl) in
      let local = runs_keep bootstrap history_now vat steps_now open_then in
      let fits = fits_of m by s.vat vat h (next_is (stage_of s.vat) t mid t.owed (owed.ToVat m) next for_vat) (counts_fit vat local) in
      let turn = passed (stage_of s.vat) (owed.ToVat m) in
      let lived = subst (λ (t : Tails). Lived r.turns t (accounts_of s.vat)) same r.lived in
      let passes : Passes (accounts_of s.vat) (stage_of s.vat) m h.mid = record { knows = knows_stages s.vat; gets = h.gets; fits = fits } in
      let reached =
      heard_reaches s turn r.turns mid m by vat wire r.history h (t, accounts_of s.vat, lived, next, passes)
      r.past (λ supported. not_named m (peer_past r.turns) (next_is (stage_of s.vat) t mid t.owed (owed.ToVat m) next for_vat)) opens.0
      (next_for (stage_of s.vat) t mid t.owed (owed.ToVat m) next for_vat) r.steps step in
      wire_both wire (passed_on triggers.Message mid by).0 more out new all
      (settles (closes by) after new later_history more (later wire (flat_map departure (passed_on triggers.Message mid by).0)) opens.0 open_ opens.1 reached settled)

  -- ---- one event of the vat, and what is owed then
  module _ (s new : Served) (event : Event) (value : Value) (history : List Moment) (out : List Effect) (open_ : new.vat.is_closed ≡ false) (all_open : AllOpen history)
      (h : Goes is_supported_to_caller stage_of s event value history out new) where
    abbrev after : Served
    after = record { vat = h.vat; tails = (comes_of (trigger_of event) s.tails h.by).1 }

    opens : AllOpen (moment event (Ok value) h.by ∷ h.later)
    opens = subst AllOpen h.whole all_open

    open_then : h.vat.is_closed ≡ false
    open_then = settles_open (closes h.by) after new h.later h.rest open_ h.settles

    -- from what is reached after the event
    goes_on_from : (t : Tails) (wire : List Traffic) → s.tails ≡ Some t
        → Reached bootstrap (later wire (flat_map departure (passed_on (trigger_of event) t h.by).0))
        (record { vat = h.vat; tails = Some (passed_on (trigger_of event) t h.by).1 })
        → After wire out new
    goes_on_from t wire is reached =
        let comes = ap (λ (tails : Option Tails). comes_of (trigger_of event) tails h.by) is in
        let first = (passed_on (trigger_of event) t h.by).0 in
        let same : out ≡ first ++ h.rest = h.all ∙ ap (λ (passes : List Effect × Option Tails). passes.0 ++ h.rest) comes in
        let there : Reached bootstrap (later wire (flat_map departure first)) after =
        subst
        (λ (tails : Option Tails). Reached bootstrap (later wire (flat_map departure first)) (record { vat = h.vat; tails = tails }))
        (sym (ap (λ (passes : List Effect × Option Tails). passes.1) comes))
        reached
        in
        wire_both wire first h.rest out new same
        (settles (closes h.by) after new h.later h.rest (later wire (flat_map departure first)) opens.0 open_ opens.1 there h.settles)

  -- the application calls
  calls_reach : (s new : Served) (event : Event) (value : Value) (history : List Moment) (out : List Effect) (wire : List Traffic) → new.vat.is_closed ≡ false → AllOpen history
      → is_message event ≡ false → Reached bootstrap wire s → Goes is_supported_to_caller stage_of s event value history out new → After wire out new
  calls_reach s new event value history out wire open_ all_open call r h =
      let it = acts s.vat h.vat event h.by value r.orderly (open_then s new event value history out open_ all_open h) call h.step in
      let opens_now = opens s new event value history out open_ all_open h in
      let went_by = went_whole s.vat h.by r.turns r.t h.vat r.lived it opens_now.0 r.for_vat in
      goes_on_from s new event value history out open_ all_open h r.t wire r.tails
      (subst
      (λ (trigger : Trigger). Reached bootstrap (later wire (flat_map departure (passed_on trigger r.t h.by).0)) (record { vat = h.vat; tails = Some (passed_on trigger r.t h.by).1 }))
      (sym (by_application event call))
      (record {
        t = (passed_on triggers.Application r.t h.by).1;
        tails = refl;
        turns = went_by.all;
        lived = went_by.lived;
        past = went_by.past ∙ ap (λ (past : List Traffic). later past (flat_map departure (passed_on triggers.Application r.t h.by).0)) r.past;
        for_vat = went_by.for_vat;
        orderly = it.orderly;
        history = r.history ++ moment event (Ok value) h.by ∷ [];
        steps = steps_append r.history (moment event (Ok value) h.by ∷ []) (new_state bootstrap) s.vat h.vat r.steps (h.vat, h.step, refl);
      }))
    where
      by_application : (event : Event) → is_message event ≡ false → trigger_of event ≡ triggers.Application
      by_application (events.Receive m) call = absurd (true≢false call)
      by_application event call = refl

  -- ---- a message comes
  module _ (s new : Served) (m : Message) (history : List Moment) (out : List Effect) (wire : List Traffic) (open_ : new.vat.is_closed ≡ false) (all_open : AllOpen history)
      (r : Reached bootstrap wire s) (settled : IsSettled s) where
    abbrev last : Tails
    last = (received is_supported_to_caller (stage_of s.vat) r.t m).1

    abbrev turn_of : Option Message → Turn
    turn_of on = came is_supported_to_caller (stage_of s.vat) m on

    kept_for : AreForVat last
    kept_for = received_for is_supported_to_caller (stage_of s.vat) r.t m r.for_vat

    takes_reach : (on : Message) → (received is_supported_to_caller (stage_of s.vat) r.t m).0 ≡ Some on
        → Goes is_supported_to_caller stage_of (record s { tails = Some last }) (events.Receive on) values.Nothing history out new → After (said m (Some on) ++ wire) out new
    takes_reach on is h =
        let served : Served = record s { tails = Some last } in
        let open_now = open_then served new (events.Receive on) values.Nothing history out open_ all_open h in
        let opens_now = opens served new (events.Receive on) values.Nothing history out open_ all_open h in
        let it = hears s.vat h.vat on h.by values.Nothing r.orderly open_now h.step in
        let does : Comes r.t (accounts_of s.vat) is_supported_to_caller (stage_of s.vat) (Some on) it.mid =
        record { settled = settled r.t r.tails; acts = λ c. refl; knows = knows_stages s.vat; gets = it.gets }
        in
        let lived : Lived (turn_of (Some on) ∷ r.turns) last it.mid =
        (r.t, accounts_of s.vat, r.lived, ap (λ (on : Option Message). (on, last)) is, does)
        in
        let past : peer_past (turn_of (Some on) ∷ r.turns) ≡ said m (Some on) ++ wire = ap (λ (past : List Traffic). said m (Some on) ++ past) r.past in
        goes_on_from served new (events.Receive on) values.Nothing history out open_ all_open h last (said m (Some on) ++ wire) refl
        (heard_reaches s (turn_of (Some on)) r.turns last on h.by h.vat (said m (Some on) ++ wire) r.history it lived past
        (λ supported. named_came is_supported_to_caller (stage_of s.vat) r.t m on (peer_past r.turns) is supported) opens_now.0 kept_for r.steps h.step)

    keeps_reach : (received is_supported_to_caller (stage_of s.vat) r.t m).0 ≡ None
        → Settles is_supported_to_caller stage_of false (record s { tails = Some last }) history out new → After (said m None ++ wire) out new
    keeps_reach is h =
        let does : Comes r.t (accounts_of s.vat) is_supported_to_caller (stage_of s.vat) None (accounts_of s.vat) =
        record { settled = settled r.t r.tails; acts = λ c. refl; knows = knows_stages s.vat; gets = refl }
        in
        let reached : Reached bootstrap (said m None ++ wire) (record s { tails = Some last }) =
        record {
          t = last;
          tails = refl;
          turns = turn_of None ∷ r.turns;
          lived = (r.t, accounts_of s.vat, r.lived, ap (λ (on : Option Message). (on, last)) is, does);
          past = ap (λ (past : List Traffic). said m None ++ past) r.past;
          for_vat = kept_for;
          orderly = r.orderly;
          history = r.history;
          steps = r.steps;
        }
        in
        settles false (record s { tails = Some last }) new history out (said m None ++ wire) refl open_ all_open reached h

  -- ---- any event
  no_arrival : (s : Served) (event : Event) → is_message event ≡ false → arrived s event ≡ []
  no_arrival s (events.Receive m) call = absurd (true≢false call)
  no_arrival s event call = refl

  arrives : (wire : List Traffic) (m : Message) (on : Option Message) → later wire (said m on) ≡ said m on ++ wire
  arrives wire m None = refl
  arrives wire m (Some on) = by (is_supported on)
    where
      by : (b : Bool) → later wire (said_if b m) ≡ said_if b m ++ wire
      by true = refl
      by false = refl

  -- the peer said this, and what it heard then is to come
  said_first : (wire : List Traffic) (s new : Served) (m : Message) (on : Option Message) (out : List Effect)
      → (gets is_supported_to_caller stage_of s.vat s.tails m).0 ≡ on → After (said m on ++ wire) out new
      → Reached bootstrap (later wire (arrived s (events.Receive m) ++ flat_map departure out)) new × IsSettled new
  said_first wire s new m on out is after = (subst (λ (wire : List Traffic). Reached bootstrap wire new) same after.reached, after.settled)
    where
      same : later (said m on ++ wire) (flat_map departure out) ≡ later wire (arrived s (events.Receive m) ++ flat_map departure out)
      same =
          ap (λ (past : List Traffic). later past (flat_map departure out)) (sym (arrives wire m on))
          ∙ sym (later_append wire (said m on) (flat_map departure out))
          ∙ ap (λ (on : Option Message). later wire (said m on ++ flat_map departure out)) (sym is)

  gets_by : (s : Served) (t : Tails) (m : Message) → s.tails ≡ Some t → (gets is_supported_to_caller stage_of s.vat s.tails m).0 ≡ (received is_supported_to_caller (stage_of s.vat) t m).0
  gets_by s t m is = ap (λ (tails : Option Tails). (gets is_supported_to_caller stage_of s.vat tails m).0) is

  act_reaches : {s new : Served} {event : Event} {result : Result Value VatFault} {history : List Moment} {out : List Effect} (wire : List Traffic)
      → new.vat.is_closed ≡ false → AllOpen history → result ≢ Err refusals.OutOfMemory → Reached bootstrap wire s → IsSettled s
      → Serves is_supported_to_caller stage_of s event result history out new
      → Reached bootstrap (later wire (traffic_if result (arrived s event ++ flat_map departure out))) new × IsSettled new
  act_reaches {s = s} {new = new} {history = history} {out = out} wire open_ all_open kept r settled (calls {value = value} event call goes) =
      let after = calls_reach s new event value history out wire open_ all_open call r goes in
      (rw (no_arrival s event call) after.reached, after.settled)
  act_reaches {s = s} {new = new} {history = history} {out = out} wire open_ all_open kept r settled (takes m on mid is goes) =
      let gotten = sym (ap (λ (tails : Option Tails). gets is_supported_to_caller stage_of s.vat tails m) r.tails) ∙ is in
      let same_on = ap (λ (p : Option Message × Option Tails). p.0) gotten in
      let same_mid = ap (λ (p : Option Message × Option Tails). p.1) gotten in
      said_first wire s new m (Some on) out (ap (λ (p : Option Message × Option Tails). p.0) is)
      (takes_reach s new m history out wire open_ all_open r settled on same_on
      (subst (λ (tails : Option Tails). Goes is_supported_to_caller stage_of (record s { tails = tails }) (events.Receive on) values.Nothing history out new) (sym same_mid) goes))
  act_reaches {s = s} {new = new} {history = history} {out = out} wire open_ all_open kept r settled (keeps m mid was is goes) =
      let gotten = sym (ap (λ (tails : Option Tails). gets is_supported_to_caller stage_of s.vat tails m) r.tails) ∙ is in
      let same_on = ap (λ (p : Option Message × Option Tails). p.0) gotten in
      let same_mid = ap (λ (p : Option Message × Option Tails). p.1) gotten in
      said_first wire s new m None out (ap (λ (p : Option Message × Option Tails). p.0) is)
      (keeps_reach s new m history out wire open_ all_open r settled same_on
      (subst (λ (tails : Option Tails). Settles is_supported_to_caller stage_of false (record s { tails = tails }) history out new) (sym same_mid) goes))
  act_reaches {s = s} {new = new} wire open_ all_open kept r settled (refuses {fault = fault} event step same) =
      let is : new ≡ s = same (λ e. kept (ap (λ (fault : VatFault). Err fault) e)) in
      subst (λ (new : Served). Reached bootstrap wire new × IsSettled new) (sym is) (r, settled)

  goes_open : (s new : Served) (event : Event) (value : Value) (history : List Moment) (out : List Effect) → new.vat.is_closed ≡ false
      → Goes is_supported_to_caller stage_of s event value history out new → s.vat.is_closed ≡ false
  goes_open s new event value history out open_ h =
      step_open (settles_open (closes h.by) (record { vat = h.vat; tails = (comes_of (trigger_of event) s.tails h.by).1 }) new h.later h.rest open_ h.settles) h.step

  serves_open : {s new : Served} {event : Event} {result : Result Value VatFault} {history : List Moment} {out : List Effect} → new.vat.is_closed ≡ false
      → Serves is_supported_to_caller stage_of s event result history out new → s.vat.is_closed ≡ false
  serves_open {s = s} {new = new} {history = history} {out = out} open_ (calls {value = value} event call goes) = goes_open s new event value history out open_ goes
  serves_open {s = s} {new = new} {history = history} {out = out} open_ (takes m on mid is goes) =
      goes_open (record s { tails = mid }) new (events.Receive on) values.Nothing history out open_ goes
  serves_open open_ (keeps m mid was is goes) = was
  serves_open open_ (refuses event step same) = step_open open_ step

  new_reached : Reached bootstrap [] (new_served bootstrap) × IsSettled (new_served bootstrap)
  new_reached = (
    record {
      t = none;
      tails = refl;
      turns = [];
      lived = (refl, new_accounts);
      past = refl;
      for_vat = tt;
      orderly = new_orderly bootstrap;
      history = [];
      steps = refl;
    },
    λ t is. sym (ap (λ (t : Tails). t.owed) (some_out is)),
  )
    where
      new_accounts : IsNew (accounts_of (new_state bootstrap))
      new_accounts =
          record {
            exports = λ e. rw (get-empty {X = Counted Cap} nat_cmp e) refl;
            imports = λ i. rw (get-empty {X = Counted ImportKind} nat_cmp i) refl;
            questions = λ q. rw (get-empty {X = Exchange QuestionEntry} nat_cmp q) refl;
            answers = λ q. rw (get-empty {X = Exchange AnswerEntry} nat_cmp q) refl;
          }

  all_reach : (past : List Act) (last : Served) → Life bootstrap past last → last.vat.is_closed ≡ false → Reached bootstrap (wire_past past) last × IsSettled last
  all_reach [] last life open_ = rw (life) new_reached
  all_reach (act ∷ past) last life open_ =
      let before = all_reach past act.old life.0 (serves_open open_ life.1) in
      act_reaches (wire_past past) open_ life.2.0 life.2.1 before.0 before.1 life.1

pub counts_over_wire : CountsOverWire
counts_over_wire bootstrap most past last life open_ numbered =
    let it = all_reach bootstrap past last life open_ in
    let r = it.0 in (
      r.t,
      r.tails,
      subst
          (λ (wire : List Traffic). CountsAgree most wire r.t (accounts_of last.vat))
          r.past
          (turns_count most r.turns r.t (accounts_of last.vat) r.lived (it.1 r.t r.tails) (subst (AllByRecursion (IsNumbered most)) (sym r.past) numbered)),
    )
