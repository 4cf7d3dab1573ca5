-- Calls that go by their routes, and waiting calls that leave, as the accounts see them.
use Rattle.std.specs.Prelude.{◌≡◌, refl, ℕ, ◌==◌, Bool, true, false, List, [], ◌∷◌, Option, Some, None, Result, Ok, Err}
use Rattle.std.specs.Option.{option_map_or}
use Rattle.std.specs.FinMap.{get, insert}
use Rattle.std.proofs.Common.{sym, ◌∙◌, true≢false}
use Rattle.cp_tables.specs.Table.{Table, with_change}
use Rattle.cp_tables.specs.Exchange.{new_exchange}
use Rattle.cp_tables.specs.declared.counted.Counted.{Counted}
use Rattle.cp_tables.specs.declared.exchange.Exchange.{Exchange}
use Rattle.cp_messages.specs.declared.descriptor.Descriptor.{Descriptor}
use Rattle.cp_messages.specs.declared.target.Target.{Target}
use Rattle.cp_messages.specs.declared.target.Target.TheVariants as targets
use Rattle.cp_refs.specs.declared.cap.Cap.{Cap}
use Rattle.cp_refs.specs.declared.call.WaitingCall.{WaitingCall}
use Rattle.cp_refs.specs.declared.call.Origin.{Origin}
use Rattle.cp_refs.specs.declared.call.Origin.TheVariants as origins
use Rattle.cp_refs.specs.declared.outcome.Outcome.TheVariants as outcomes
use Rattle.cp_refs.specs.declared.route.Route.{Route}
use Rattle.cp_refs.specs.declared.route.Route.TheVariants as routes
use Rattle.cp_vat_machine.specs.State.{State, none_over, with_over, with_exports, with_questions}
use Rattle.cp_vat_machine.specs.Then.{Done}
use Rattle.cp_vat_machine.specs.Capacity.{Fresh}
use Rattle.cp_vat_machine.specs.Writing.{WritesDescriptors, promised, mentions_of}
use Rattle.cp_vat_machine.specs.Supported.{is_supported_target}
use Rattle.cp_vat_machine.specs.Go.{PendingCall, held_at, delivered, forwarding, sent, GoOut, Go, GoTo, IsNext, Leave, stays, leaves, finds_table_full, without_call, underway}
use Rattle.cp_vat_machine.specs.declared.effect.Effect.{Effect}
use Rattle.cp_vat_machine.specs.declared.effect.Effect.TheVariants as effects
use Rattle.cp_vat_machine.specs.declared.entry.AnswerEntry.{AnswerEntry}
use Rattle.cp_vat_machine.specs.declared.entry.QuestionEntry.{QuestionEntry}
use Rattle.cp_vat_machine.specs.declared.fault.PeerFault.{PeerFault}
use Rattle.cp_vat_machine.proofs.Basics.{is_equal, ok_in, then_out, put_at}
use Rattle.cp_vat_pair_laws.specs.Accounts.{kept_account}
use Rattle.cp_vat_pair_laws.specs.VatPair.{messages_sent}
use Rattle.cp_vat_pair_laws.specs.Posting.{IsUnsent}
use Rattle.cp_vat_pair_laws.specs.Orderly.{IsHeldBack, NoneWaits, ArePlainExports, IsOrderly, IsHeldAlone, Goes}
use Rattle.cp_vat_pair_laws.proofs.counts.rules.Same.{same_accounts}
use Rattle.cp_vat_pair_laws.proofs.counts.rules.Accounts.{unsent_put, free_out}
use Rattle.cp_vat_pair_laws.proofs.counts.rules.Say.{known_path, said_all}
use Rattle.cp_vat_pair_laws.proofs.counts.rules.GoOut.{own_call_sent, peer_call_sent}
use Rattle.cp_vat_pair_laws.proofs.counts.rules.TwoParts.{sends_both, sends_none}
use Rattle.cp_vat_pair_laws.proofs.counts.rules.Waits.{fresh_not, none_waits, put_question, gone_call, none_is_left, new_call}
use Rattle.cp_vat_pair_laws.proofs.counts.rules.Plain.{table_plain}
use Rattle.cp_vat_pair_laws.proofs.counts.rules.Give.{give_goes}

-- an answer changes in nothing that its account shows
change_by : (table : Table (Exchange AnswerEntry)) (a p : ℕ) (entry other : Exchange AnswerEntry) (b : Bool) → (a == p) ≡ b → get table a ≡ Some entry
    → kept_account (Some other) ≡ kept_account (Some entry) → kept_account (get (insert table a other) p) ≡ kept_account (get table p)
change_by table a p entry other true t is same = rw (put_at table a p other true t, ← is_equal a p t, is) same
change_by table a p entry other false t is same = rw (put_at table a p other false t) refl

change_of : (table : Table (Exchange AnswerEntry)) (a p : ℕ) (change : Exchange AnswerEntry → Exchange AnswerEntry) (o : Option (Exchange AnswerEntry)) → get table a ≡ o
    → ((entry : Exchange AnswerEntry) → kept_account (Some (change entry)) ≡ kept_account (Some entry))
    → kept_account (get (option_map_or (λ entry. insert table a (change entry)) o table) p) ≡ kept_account (get table p)
change_of table a p change None is same = refl
change_of table a p change (Some entry) is same = change_by table a p entry (change entry) (a == p) refl is (same entry)

pub changed_account : (table : Table (Exchange AnswerEntry)) (a p : ℕ) (change : Exchange AnswerEntry → Exchange AnswerEntry)
    → ((entry : Exchange AnswerEntry) → kept_account (Some (change entry)) ≡ kept_account (Some entry)) → kept_account (get (with_change table a change) p) ≡ kept_account (get table p)
changed_account table a p change same = change_of table a p change (get table a) refl same

-- a call is delivered
abbrev now_delivered : Exchange QuestionEntry → Exchange QuestionEntry
now_delivered entry = record entry { kept = record entry.kept { is_delivered = true } }

deliver_own : (old : State) (effect : Effect) (q : ℕ) (o : Option (Exchange QuestionEntry)) → messages_sent (effect ∷ []) ≡ [] → IsOrderly old → get old.entries.questions q ≡ o
    → IsHeldBack o → NoneWaits old.waiting.calls q
    → Goes old (effect ∷ []) (with_questions old (option_map_or (λ entry. insert old.entries.questions q (now_delivered entry)) o old.entries.questions))
deliver_own old effect q None silent orderly is back none = absurd back
deliver_own old effect q (Some entry) silent orderly is back none =
    let next : Exchange QuestionEntry = now_delivered entry in (
      sends_none
          old
          (with_questions old (insert old.entries.questions q next))
          (effect ∷ [])
          silent
          (same_accounts _ _ (λ e. refl) (λ i. refl) (λ p. unsent_put old.entries.questions q p entry next (q == p) refl is back.0.0 back.0.0) (λ a. refl)),
      record {
        held = put_question old.waiting.calls old.entries.questions orderly.held q next none (λ here. back.0.0);
        values = orderly.values;
        answers = orderly.answers;
        exports = orderly.exports;
      },
    )

deliver_goes : (old : State) (origin : Origin) (effect : Effect) → messages_sent (effect ∷ []) ≡ [] → IsOrderly old → IsHeldAlone old origin
    → Goes old (effect ∷ []) (delivered old origin)
deliver_goes old (origins.Answer a) effect silent orderly may = (
  sends_none
      old
      (delivered old (origins.Answer a))
      (effect ∷ [])
      silent
      (same_accounts _ _ (λ e. refl) (λ i. refl) (λ q. refl)
      (λ p. changed_account old.entries.answers a p (λ entry. record entry { kept = record entry.kept { is_delivered = true } }) (λ entry. refl))),
  record { held = orderly.held; values = orderly.values; answers = orderly.answers; exports = orderly.exports },
)
deliver_goes old (origins.Own q) effect silent orderly may =
    deliver_own old effect q (get old.entries.questions q) silent orderly refl may.0 may.1

-- a call goes to the peer
pub never_delivered : {A : Type 0} {b : Bool} → b ≡ false → b ≡ true → A
never_delivered not is = absurd (true≢false (sym is ∙ not))

peer_orderly : (old mid : State) (X : Table (Counted Cap)) (q : ℕ) (kept : QuestionEntry) → mid ≡ with_exports old X → ArePlainExports X → IsOrderly old
    → get old.entries.questions q ≡ None → kept.is_delivered ≡ false → IsOrderly (with_questions mid (insert mid.entries.questions q (new_exchange kept)))
peer_orderly old mid X q kept only plain orderly fresh undelivered =
    rw
    (only)
    (record {
      held =
          put_question old.waiting.calls old.entries.questions orderly.held q (new_exchange kept)
          (none_waits old.waiting.calls old.entries.questions orderly.held q (fresh_not (get old.entries.questions q) fresh))
          (never_delivered undelivered);
      values = orderly.values;
      answers = orderly.answers;
      exports = plain;
    })

own_orderly : (old mid : State) (X : Table (Counted Cap)) (q : ℕ) (entry : Exchange QuestionEntry) (ds : List Descriptor) → mid ≡ with_exports old X → ArePlainExports X → IsOrderly old
    → get old.entries.questions q ≡ Some entry → NoneWaits old.waiting.calls q → entry.kept.is_delivered ≡ false → IsOrderly (sent mid q ds)
own_orderly old mid X q entry ds only plain orderly is none undelivered =
    rw
    (only, is)
    (record {
      held =
          put_question old.waiting.calls old.entries.questions orderly.held q
          (record entry { kept = record entry.kept { is_sent = true; mentions = mentions_of ds } })
          none
          (never_delivered undelivered);
      values = orderly.values;
      answers = orderly.answers;
      exports = plain;
    })

back_of : (o : Option (Exchange QuestionEntry)) (entry : Exchange QuestionEntry) → o ≡ Some entry → IsHeldBack o → IsUnsent entry × (entry.kept.is_delivered ≡ false)
back_of o entry is back = rw is at back

pub out_goes : (old : State) (call : PendingCall) (target : Target) (origin : Origin) (done : Done) → IsOrderly old → IsHeldAlone old origin → is_supported_target target ≡ true
    → GoOut old call target origin (Ok done) → Goes old done.0 done.1
out_goes old call target (origins.Answer a) done orderly may to goes =
    let first = then_out {A = ℕ} {B = Done} (Fresh old.entries.questions) _ done goes in
    let parts = then_out {A = List Descriptor × State} {B = Done} (WritesDescriptors old call.request.caps) _ done first.2 in
    let said = said_all call.request.caps old parts.0 parts.1 in
    let plain = table_plain call.request.caps old parts.0 orderly.exports parts.1 in (
      peer_call_sent old call target a done to goes,
      rw
          (ok_in _ _ parts.2)
          (peer_orderly old parts.0.1 parts.0.1.counts.exports first.0 (forwarding a call parts.0.0) said.only plain orderly (free_out _ first.0 first.1) refl),
    )
out_goes old call target (origins.Own q) done orderly may to goes =
    let parts = then_out {A = List Descriptor × State} {B = Done} (WritesDescriptors old call.request.caps) _ done goes.2 in
    let said = said_all call.request.caps old parts.0 parts.1 in
    let plain = table_plain call.request.caps old parts.0 orderly.exports parts.1 in (
      own_call_sent old call target q done to (λ entry is. (back_of (get old.entries.questions q) entry is may.0).0) goes,
      rw
          (ok_in _ _ parts.2)
          (own_orderly old parts.0.1 parts.0.1.counts.exports q goes.0 parts.0.0 said.only plain orderly goes.1 may.1 (back_of (get old.entries.questions q) goes.0 goes.1 may.0).1),
    )

-- a call stays at a gate
pub may_wait : (old : State) (origin : Origin) (q : ℕ) → origin ≡ origins.Own q → IsHeldAlone old origin → IsHeldBack (get old.entries.questions q) × NoneWaits old.waiting.calls q
may_wait old origin q is may = rw is at may

pub go_goes : (old : State) (call : PendingCall) (route : Route) (done : Done) → IsOrderly old → IsHeldAlone old call.origin → Go old call route (Ok done) → Goes old done.0 done.1
go_goes old call (routes.Deliver k) done orderly may goes =
    rw (ok_in _ _ goes) (deliver_goes old call.origin (effects.Deliver k call.origin call.ticket call.request) refl orderly may)
go_goes old call (routes.Import i) done orderly may goes = out_goes old call (targets.ImportedCap i) call.origin done orderly may refl goes
go_goes old call (routes.Pipe q path) done orderly may goes =
    out_goes old call (targets.PromisedAnswer (promised q path)) call.origin done orderly may (known_path path) goes
go_goes old call (routes.Wait gate) done orderly may goes =
    rw
    (ok_in _ _ goes) (
      sends_none old (held_at old call gate) [] refl refl,
      record {
        held =
            new_call old.waiting.calls old.entries.questions orderly.held call.ticket
            (record { ticket = call.ticket; origin = call.origin; request = call.request; gate = gate })
            (λ q is. may_wait old call.origin q is may);
        values = orderly.values;
        answers = orderly.answers;
        exports = orderly.exports;
      },
    )
go_goes old call (routes.Fail x) done orderly may goes = give_goes old call.origin (outcomes.Failed x) done orderly refl may goes

pub goto_goes : (old : State) (call : PendingCall) (cap : Cap) (done : Done) → IsOrderly old → IsHeldAlone old call.origin → GoTo old call cap (Ok done) → Goes old done.0 done.1
goto_goes old call cap done orderly may goes = go_goes old call goes.0 done orderly may goes.2

-- waiting calls leave
may_leave : (s : State) (call : WaitingCall) (cap : Cap) (origin : Origin) → IsOrderly s → IsNext s call cap → call.origin ≡ origin → IsHeldAlone (without_call s call) origin
may_leave s call cap (origins.Answer a) orderly next is = tt
may_leave s call cap (origins.Own q) orderly next is =
    (orderly.held.back call.ticket call q next.waits is, none_is_left s.waiting.calls s.entries.questions orderly.held call.ticket call q next.waits is)

left_orderly : (s : State) (call : WaitingCall) → IsOrderly s → IsOrderly (without_call s call)
left_orderly s call orderly =
    record {
      held = gone_call s.waiting.calls s.entries.questions orderly.held call.ticket;
      values = orderly.values;
      answers = orderly.answers;
      exports = orderly.exports;
    }

abbrev pub LeftAs : State → List Effect → Result State PeerFault → Type 0
LeftAs old all (Ok last) = Goes old all last
LeftAs old all (Err fault) = Unit {0}

pub turn_goes : (old mid : State) (call : WaitingCall) (cap : Cap) (first : List Effect) → IsOrderly old → IsNext old call cap
    → GoTo (without_call old call) (underway call) cap (Ok (first, mid)) → Goes old first mid
turn_goes old mid call cap first orderly next goes =
    let one = goto_goes (without_call old call) (underway call) cap (first, mid) (left_orderly old call orderly) (may_leave old call cap call.origin orderly next refl) goes in
    (record { usual = one.0.usual; posts = one.0.posts }, one.1)

pub leave_goes : {old : State} {all : List Effect} {out : Result State PeerFault} → IsOrderly old → Leave old all out → LeftAs old all out
leave_goes {old = old} orderly (stays none) =
    (sends_none old (with_over old none_over) [] refl refl, record { held = orderly.held; values = orderly.values; answers = orderly.answers; exports = orderly.exports })
leave_goes {old = old} {all = all} orderly (leaves {mid = mid} {first = first} {rest = rest} {last = last} call cap next goes more same) =
    let one = turn_goes old mid call cap first orderly next goes in
    further last one (leave_goes one.1 more)
  where
    further : (out : Result State PeerFault) → Goes old first mid → LeftAs mid rest out → LeftAs old all out
    further (Err fault) one there = tt
    further (Ok state) one there = rw (same) (sends_both old mid state first rest one.0 there.0, there.1)
leave_goes orderly (finds_table_full call cap next goes) = tt
