-- What calls that go and waiting calls that leave do to local questions.
use Rattle.std.specs.Prelude.{◌≡◌, refl, ℕ, ◌==◌, true, false, List, [], ◌∷◌, Option, Some, None, Result, Ok, Err}
use Rattle.std.specs.Option.{option_map_or}
use Rattle.std.specs.FinMap.{get, insert}
use Rattle.std.proofs.Common.{inl}
use Rattle.cp_tables.specs.Table.{Table}
use Rattle.cp_tables.specs.Exchange.{new_exchange}
use Rattle.cp_tables.specs.declared.counted.Counted.{Counted}
use Rattle.cp_tables.specs.declared.exchange.Exchange.{Exchange}
use Rattle.cp_tables.specs.declared.exchange.Stage.{Stage}
use Rattle.cp_tables.specs.declared.exchange.Stage.TheVariants as stages
use Rattle.cp_messages.specs.declared.descriptor.Descriptor.{Descriptor}
use Rattle.cp_messages.specs.declared.target.Target.{Target}
use Rattle.cp_messages.specs.declared.target.Target.TheVariants as targets
use Rattle.cp_refs.specs.declared.cap.Cap.{Cap}
use Rattle.cp_refs.specs.declared.call.Origin.{Origin}
use Rattle.cp_refs.specs.declared.call.Origin.TheVariants as origins
use Rattle.cp_refs.specs.declared.call.Request.{Request}
use Rattle.cp_refs.specs.declared.call.WaitingCall.{WaitingCall}
use Rattle.cp_refs.specs.declared.outcome.Outcome.TheVariants as outcomes
use Rattle.cp_refs.specs.declared.route.Route.{Route}
use Rattle.cp_refs.specs.declared.route.Route.TheVariants as routes
use Rattle.cp_vat_machine.specs.State.{State, with_exports}
use Rattle.cp_vat_machine.specs.Then.{Done}
use Rattle.cp_vat_machine.specs.Capacity.{Fresh}
use Rattle.cp_vat_machine.specs.Writing.{WritesDescriptors, promised, mentions_of}
use Rattle.cp_vat_machine.specs.Go.{PendingCall, delivered, call_of, forwarding, sent, finish_after, GoOut, Go, GoTo, IsNext, Leave, stays, leaves, finds_table_full, without_call, underway}
use Rattle.cp_vat_machine.specs.declared.effect.Effect.{Effect}
use Rattle.cp_vat_machine.specs.declared.effect.Effect.TheVariants as effects
use Rattle.cp_vat_machine.specs.declared.entry.QuestionEntry.{QuestionEntry}
use Rattle.cp_vat_machine.specs.declared.fault.PeerFault.{PeerFault}
use Rattle.cp_vat_machine.proofs.Basics.{is_itself, ok_in, then_out}
use Rattle.cp_vat_pair_laws.specs.LocalQuestions.{LocalQuestion, after_effects}
use Rattle.cp_vat_pair_laws.specs.LocalQuestions as questions
use Rattle.cp_vat_pair_laws.specs.Orderly.{IsHeldBack, IsOrderly}
use Rattle.cp_vat_pair_laws.proofs.counts.rules.Say.{said_all}
use Rattle.cp_vat_pair_laws.proofs.counts.rules.Go.{turn_goes}
use Rattle.cp_vat_pair_laws.proofs.counts.local.Matches.{IsGone, Matches, MatchAfter, match_both, match_put, IsBack}
use Rattle.cp_vat_pair_laws.proofs.counts.local.Give.{give_match}

-- a call is delivered
abbrev now_delivered : Exchange QuestionEntry → Exchange QuestionEntry
now_delivered entry = record entry { kept = record entry.kept { is_delivered = true } }

delivered_by : (entry : Exchange QuestionEntry) (question : LocalQuestion) → entry.kept.is_sent ≡ false → Matches question (Some entry)
    → Matches (questions.delivered question) (Some (now_delivered entry))
delivered_by entry question unsent is = rw (unsent) ((rw unsent at is).0, refl)

deliver_own : (old : State) (k p ticket : ℕ) (request : Request) (o : Option (Exchange QuestionEntry)) → get old.entries.questions p ≡ o → IsHeldBack o
    → MatchAfter old.entries.questions (effects.Deliver k (origins.Own p) ticket request ∷ [])
    (option_map_or (λ entry. insert old.entries.questions p (now_delivered entry)) o old.entries.questions)
deliver_own old k p ticket request None there back = absurd back
deliver_own old k p ticket request (Some entry) there back =
    match_put old.entries.questions p (λ q question. after_effects q (effects.Deliver k (origins.Own p) ticket request ∷ []) question) (λ q question t. rw (t) refl)
    (now_delivered entry) (λ question is. rw (is_itself p) (delivered_by entry question back.0.0 (rw there at is)))

deliver_match : (old : State) (origin : Origin) (k ticket : ℕ) (request : Request) → IsBack old.entries.questions origin
    → MatchAfter old.entries.questions (effects.Deliver k origin ticket request ∷ []) (delivered old origin).entries.questions
deliver_match old (origins.Answer a) k ticket request back = λ q question is. is
deliver_match old (origins.Own p) k ticket request back = deliver_own old k p ticket request (get old.entries.questions p) refl back

-- A call goes to the peer. The question whose Call is sent is one of the wire.
sent_elsewhere : (stage : Stage) (p q : ℕ) (target : Target) (request : Request) (ds : List Descriptor) (question : LocalQuestion) → (p == q) ≡ false
    → after_effects q (call_of p target request ds ∷ finish_after p stage) question ≡ question
sent_elsewhere stages.Open p q target request ds question t = rw (t) refl
sent_elsewhere stages.Finished p q target request ds question t = rw (t) refl
sent_elsewhere stages.Returned p q target request ds question t = rw (t) refl

sent_here : (stage : Stage) (p : ℕ) (target : Target) (request : Request) (ds : List Descriptor) (question : LocalQuestion)
    → IsGone (after_effects p (call_of p target request ds ∷ finish_after p stage) question)
sent_here stages.Open p target request ds question = rw (is_itself p) (inl refl)
sent_here stages.Finished p target request ds question = rw (is_itself p) (inl refl)
sent_here stages.Returned p target request ds question = rw (is_itself p) (inl refl)

own_out : (old mid : State) (X : Table (Counted Cap)) (p : ℕ) (target : Target) (request : Request) (ds : List Descriptor) (entry : Exchange QuestionEntry)
    → mid ≡ with_exports old X → get old.entries.questions p ≡ Some entry
    → MatchAfter old.entries.questions (call_of p target request ds ∷ finish_after p entry.stage) (sent mid p ds).entries.questions
own_out old mid X p target request ds entry only there =
    rw
    (only, there)
    (match_put old.entries.questions p (λ q question. after_effects q (call_of p target request ds ∷ finish_after p entry.stage) question)
    (λ q question t. sent_elsewhere entry.stage p q target request ds question t)
    (record entry { kept = record entry.kept { is_sent = true; mentions = mentions_of ds } }) (λ question is. sent_here entry.stage p target request ds question))

peer_out : (old mid : State) (X : Table (Counted Cap)) (p a : ℕ) (target : Target) (call : PendingCall) (ds : List Descriptor) → mid ≡ with_exports old X
    → MatchAfter old.entries.questions (call_of p target call.request ds ∷ []) (insert mid.entries.questions p (new_exchange (forwarding a call ds)))
peer_out old mid X p a target call ds only =
    rw
    (only)
    (match_put old.entries.questions p (λ q question. after_effects q (call_of p target call.request ds ∷ []) question) (λ q question t. rw (t) refl)
    (new_exchange (forwarding a call ds)) (λ question is. rw (is_itself p) (inl refl)))

out_match : (old : State) (call : PendingCall) (target : Target) (origin : Origin) (done : Done) → GoOut old call target origin (Ok done)
    → MatchAfter old.entries.questions done.0 done.1.entries.questions
out_match old call target (origins.Answer a) done goes =
    let first = then_out {A = ℕ} {B = Done} (Fresh old.entries.questions) _ done goes in
    let parts = then_out {A = List Descriptor × State} {B = Done} (WritesDescriptors old call.request.caps) _ done first.2 in
    let said = said_all call.request.caps old parts.0 parts.1 in
    rw (ok_in _ _ parts.2) (peer_out old parts.0.1 parts.0.1.counts.exports first.0 a target call parts.0.0 said.only)
out_match old call target (origins.Own q) done goes =
    let parts = then_out {A = List Descriptor × State} {B = Done} (WritesDescriptors old call.request.caps) _ done goes.2 in
    let said = said_all call.request.caps old parts.0 parts.1 in
    rw (ok_in _ _ parts.2) (own_out old parts.0.1 parts.0.1.counts.exports q target call.request parts.0.0 goes.0 said.only goes.1)

-- by each route
pub go_match : (old : State) (call : PendingCall) (route : Route) (done : Done) → IsBack old.entries.questions call.origin → Go old call route (Ok done)
    → MatchAfter old.entries.questions done.0 done.1.entries.questions
go_match old call (routes.Deliver k) done back goes = rw (ok_in _ _ goes) (deliver_match old call.origin k call.ticket call.request back)
go_match old call (routes.Import i) done back goes = out_match old call (targets.ImportedCap i) call.origin done goes
go_match old call (routes.Pipe q path) done back goes = out_match old call (targets.PromisedAnswer (promised q path)) call.origin done goes
go_match old call (routes.Wait gate) done back goes = rw (ok_in _ _ goes) (λ q question is. is)
go_match old call (routes.Fail x) done back goes = give_match old call.origin (outcomes.Failed x) done back goes

pub goto_match : (old : State) (call : PendingCall) (cap : Cap) (done : Done) → IsBack old.entries.questions call.origin → GoTo old call cap (Ok done)
    → MatchAfter old.entries.questions done.0 done.1.entries.questions
goto_match old call cap done back goes = go_match old call goes.0 done back goes.2

-- waiting calls leave
back_of : (s : State) (call : WaitingCall) (cap : Cap) (origin : Origin) → IsOrderly s → IsNext s call cap → call.origin ≡ origin → IsBack s.entries.questions origin
back_of s call cap (origins.Answer a) orderly next is = tt
back_of s call cap (origins.Own q) orderly next is = orderly.held.back call.ticket call q next.waits is

abbrev pub LeftMatch : State → List Effect → Result State PeerFault → Type 0
LeftMatch old all (Ok last) = MatchAfter old.entries.questions all last.entries.questions
LeftMatch old all (Err fault) = Unit {0}

pub leave_match : {old : State} {all : List Effect} {out : Result State PeerFault} → IsOrderly old → Leave old all out → LeftMatch old all out
leave_match orderly (stays none) = λ q question is. is
leave_match {old = old} {all = all} orderly (leaves {mid = mid} {first = first} {rest = rest} {last = last} call cap next goes more same) =
    further last (leave_match (turn_goes old mid call cap first orderly next goes).1 more)
  where
    further : (out : Result State PeerFault) → LeftMatch mid rest out → LeftMatch old all out
    further (Err fault) there = tt
    further (Ok state) there =
        rw
        (same)
        (match_both old.entries.questions mid.entries.questions state.entries.questions first rest
        (goto_match (without_call old call) (underway call) cap (first, mid) (back_of old call cap call.origin orderly next refl) goes) there)
leave_match orderly (finds_table_full call cap next goes) = tt
