-- A call that goes by a route that doesn't wait: it exits by that route.
use Rattle.std.specs.Prelude.{◌≡◌, refl, ℕ, true, List, [], ◌∷◌, ◌++◌, map, flat_map, Option, Some, Ok}
use Rattle.std.specs.FinMap.{get, insert}
use Rattle.std.proofs.Common.{ap, sym, ◌∙◌}
use Rattle.std.proofs.lemmas.List.{append-nil}
use Rattle.cp_tables.specs.Table.{Table, with_change}
use Rattle.cp_tables.specs.Exchange.{new_exchange}
use Rattle.cp_tables.specs.declared.exchange.Exchange.{Exchange}
use Rattle.cp_tables.specs.declared.exchange.Stage.{Stage}
use Rattle.cp_tables.specs.declared.exchange.Stage.TheVariants as stages
use Rattle.cp_messages.specs.declared.descriptor.Descriptor.{Descriptor}
use Rattle.cp_messages.specs.declared.promised_answer.Op.TheVariants as ops
use Rattle.cp_messages.specs.declared.target.Target.{Target}
use Rattle.cp_messages.specs.declared.target.Target.TheVariants as targets
use Rattle.cp_refs.specs.declared.call.Origin.{Origin}
use Rattle.cp_refs.specs.declared.call.Origin.TheVariants as origins
use Rattle.cp_refs.specs.declared.outcome.Outcome.TheVariants as outcomes
use Rattle.cp_refs.specs.declared.route.Route.{Route}
use Rattle.cp_refs.specs.declared.route.Route.TheVariants as routes
use Rattle.cp_vat_machine.specs.State.{State, with_questions}
use Rattle.cp_vat_machine.specs.Then.{Done}
use Rattle.cp_vat_machine.specs.Capacity.{Fresh}
use Rattle.cp_vat_machine.specs.Writing.{WritesDescriptors, promised}
use Rattle.cp_vat_machine.specs.Receiving.{path_of}
use Rattle.cp_vat_machine.specs.Go.{PendingCall, delivered, forwarding, sent, finish_after, GoOut, Go}
use Rattle.cp_vat_machine.specs.Local.{IsTicketOf}
use Rattle.cp_vat_machine.specs.Exits.{to_target, sent_under, exit_by, given_to, failure_by, or_failure}
use Rattle.cp_vat_machine.specs.declared.entry.QuestionEntry.{QuestionEntry}
use Rattle.cp_vat_machine.proofs.Basics.{some_out, is_itself, ok_in, then_out, put_at}
use Rattle.cp_vat_laws.proofs.order.Same.{IsGoing}
use Rattle.cp_vat_laws.proofs.order.Closes.{Closes, closes_both, same_closes}
use Rattle.cp_vat_laws.proofs.order.Settle.{all_only, only_closes}
use Rattle.cp_vat_laws.proofs.order.Give.{IsUngiven, give_done}

-- the path of a promised answer
path_again : (path : List ℕ) → path_of (map (λ field. ops.GetPointerField field) path) ≡ path
path_again [] = refl
path_again (field ∷ path) = ap (λ p. field ∷ p) (path_again path)

target_nil : (ticket : ℕ) (target : Target) → to_target ticket target ++ [] ≡ to_target ticket target
target_nil ticket target = append-nil (to_target ticket target)

-- what is sent for a question with this ticket
under_ticket : (o : Option (Exchange QuestionEntry)) (entry : Exchange QuestionEntry) (ticket : ℕ) (target : Target) → o ≡ Some entry → entry.kept.ticket ≡ Some ticket
    → sent_under o target ≡ to_target ticket target
under_ticket o entry ticket target is bears = rw (is, bears) refl

-- what goes out
pub record IsOut (s : State) (call : PendingCall) (target : Target) (done : Done) : Type 0 where
  pub closes : Closes s done.1
  pub exits : flat_map (exit_by done.1) done.0 ≡ to_target call.ticket target

after_nil : (s : State) (q : ℕ) (stage : Stage) → flat_map (exit_by s) (finish_after q stage) ≡ []
after_nil s q stages.Open = refl
after_nil s q stages.Finished = refl
after_nil s q stages.Returned = refl

sent_is : (questions : Table (Exchange QuestionEntry)) (q : ℕ) (entry : Exchange QuestionEntry) (change : Exchange QuestionEntry → Exchange QuestionEntry)
    → get questions q ≡ Some entry → get (with_change questions q change) q ≡ Some (change entry)
sent_is questions q entry change is = rw (is) (put_at questions q q (change entry) true (is_itself q))

out_done : (s : State) (call : PendingCall) (target : Target) (origin : Origin) (done : Done) → GoOut s call target origin (Ok done) → IsTicketOf s origin call.ticket
    → IsOut s call target done
out_done s call target (origins.Answer a) done out whose =
    let first = then_out {A = ℕ} {B = Done} (Fresh s.entries.questions) _ done out in
    let parts = then_out {A = List Descriptor × State} {B = Done} (WritesDescriptors s call.request.caps) _ done first.2 in
    let said = parts.0 in
    let only = all_only call.request.caps s said parts.1 in
    let entry : Exchange QuestionEntry = new_exchange (forwarding a call said.0) in
    let last : State = with_questions said.1 (insert said.1.entries.questions first.0 entry) in
    rw
    (ok_in _ _ parts.2)
    (record {
      closes = closes_both s said.1 last (only_closes s said.1 only) (same_closes said.1 last refl refl refl refl);
      exits = rw (under_ticket (get last.entries.questions first.0) entry call.ticket target (put_at said.1.entries.questions first.0 first.0 entry true (is_itself first.0)) refl) (target_nil call.ticket target);
    })
out_done s call target (origins.Own q) done out whose =
    let entry = out.0 in
    let parts = then_out {A = List Descriptor × State} {B = Done} (WritesDescriptors s call.request.caps) _ done out.2 in
    let said = parts.0 in
    let only = all_only call.request.caps s said parts.1 in
    let last : State = sent said.1 q said.0 in
    let is : get said.1.entries.questions q ≡ Some entry = ap (λ x. get x.entries.questions q) only ∙ out.1 in
    let same : whose.0 ≡ entry = some_out (sym whose.1 ∙ out.1) in
    let bears : entry.kept.ticket ≡ Some call.ticket = rw (same) at whose.3 in
    rw
    (ok_in _ _ parts.2)
    (record {
      closes = closes_both s said.1 last (only_closes s said.1 only) (same_closes said.1 last refl refl refl refl);
      exits = rw (under_ticket (get last.entries.questions q) _ call.ticket target (sent_is said.1.entries.questions q entry _ is) bears, after_nil last q entry.stage) (target_nil call.ticket target);
    })

-- A call went by a route that doesn't wait: so it exits, and nothing else is told of it.
pub record IsGone (s : State) (call : PendingCall) (route : Route) (done : Done) : Type 0 where
  pub closes : Closes s done.1
  pub exits : or_failure (flat_map (exit_by done.1) done.0) (failure_by call.ticket (given_to done.1.waiting.over call.origin)) ≡ record { ticket = call.ticket; route = route } ∷ []

delivered_closes : (s : State) (origin : Origin) → Closes s (delivered s origin)
delivered_closes s (origins.Answer a) = same_closes s (delivered s (origins.Answer a)) refl refl refl refl
delivered_closes s (origins.Own q) = same_closes s (delivered s (origins.Own q)) refl refl refl refl

pub go_done : (s : State) (call : PendingCall) (route : Route) (done : Done) → Go s call route (Ok done) → IsGoing route → IsTicketOf s call.origin call.ticket
    → IsUngiven s call.origin → IsGone s call route done
go_done s call (routes.Deliver k) done goes going whose may = rw (ok_in _ _ goes) (record { closes = delivered_closes s call.origin; exits = refl })
go_done s call (routes.Import i) done goes going whose may =
    let out = out_done s call (targets.ImportedCap i) call.origin done goes whose in
    record { closes = out.closes; exits = rw (out.exits) refl }
go_done s call (routes.Pipe q path) done goes going whose may =
    let out = out_done s call (targets.PromisedAnswer (promised q path)) call.origin done goes whose in
    record { closes = out.closes; exits = rw (out.exits, path_again path) refl }
go_done s call (routes.Wait g) done goes going whose may = absurd going
go_done s call (routes.Fail x) done goes going whose may =
    let out = give_done s call.origin (outcomes.Failed x) done goes may in
    record { closes = out.closes; exits = rw (out.quiet done.1, out.over) refl }
