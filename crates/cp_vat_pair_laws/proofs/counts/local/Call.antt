-- What the application's calls on capabilities do to local questions.
use Rattle.std.specs.Prelude.{◌≡◌, refl, ℕ, ◌==◌, if◌then◌else◌, false, Option, Some, None, Ok}
use Rattle.std.specs.FinMap.{insert}
use Rattle.std.proofs.Common.{ap}
use Rattle.cp_tables.specs.Exchange.{new_exchange}
use Rattle.cp_tables.proofs.TableLemmas.{get-insert_same}
use Rattle.cp_refs.specs.declared.cap.Cap.{Cap}
use Rattle.cp_refs.specs.declared.cap.Cap.TheVariants as caps
use Rattle.cp_refs.specs.declared.call.Origin.TheVariants as origins
use Rattle.cp_refs.specs.declared.call.Request.{Request}
use Rattle.cp_refs.specs.declared.route.Gate.TheVariants as gates
use Rattle.cp_refs.specs.declared.route.Route.TheVariants as routes
use Rattle.cp_refs.specs.declared.values.QuestionKind.TheVariants as kinds
use Rattle.cp_vat_machine.specs.State.{State}
use Rattle.cp_vat_machine.specs.Then.{Done}
use Rattle.cp_vat_machine.specs.Capacity.{Fresh}
use Rattle.cp_vat_machine.specs.Go.{PendingCall}
use Rattle.cp_vat_machine.specs.Calling.{Standing, plain, on_wire, came_to, reference_of, called, own_call, mark_of, with_mark, marked, FirstEmbargoed, GoBack, GoByValue, GoFrom, OwnDone, call_refusals, DoCall}
use Rattle.cp_vat_machine.specs.declared.event.Event.TheVariants as events
use Rattle.cp_vat_machine.specs.declared.fault.VatFault.{VatFault}
use Rattle.cp_vat_machine.proofs.Basics.{is_itself, ok_in, then_out, unless_out, or_full_out}
use Rattle.cp_vat_pair_laws.specs.LocalQuestions.{asked, after_event, after_effects}
use Rattle.cp_vat_pair_laws.proofs.counts.rules.Call.{asked_entry, with_mark_is, marked_is}
use Rattle.cp_vat_pair_laws.proofs.counts.local.Matches.{Questions, MatchBy, MatchAfter, match_from, match_put, IsBack}
use Rattle.cp_vat_pair_laws.proofs.counts.local.Go.{go_match, goto_match}

-- the questions with the one that a call opens
abbrev with_new : State → ℕ → Questions
with_new s p = insert s.entries.questions p (new_exchange (asked_entry (Some s.next_ticket) false))

new_match : (s : State) (p : ℕ) → MatchBy s.entries.questions (λ q question. if p == q then asked else question) (with_new s p)
new_match s p =
    match_put s.entries.questions p (λ q question. if p == q then asked else question) (λ q question t. rw (t) refl)
    (new_exchange (asked_entry (Some s.next_ticket) false)) (λ question is. rw (is_itself p) (refl, refl))

new_back : (s : State) (p : ℕ) → IsBack (with_new s p) (origins.Own p)
new_back s p = rw (get-insert_same s.entries.questions p (new_exchange (asked_entry (Some s.next_ticket) false))) ((refl, tt), refl)

back_in : (questions before : Questions) (p : ℕ) → questions ≡ before → IsBack before (origins.Own p) → IsBack questions (origins.Own p)
back_in questions before p same back = rw (same) back

-- marks leave questions as they are
marked_same : (s mid : State) (cap : Cap) (o : Option (Option ℕ)) → Ok mid ≡ marked s cap o → mid.entries.questions ≡ s.entries.questions
marked_same s mid cap o is = ap (λ s. s.entries.questions) (marked_is s mid cap o is)

first_match : (from : State) (call : PendingCall) (cap value : Cap) (done : Done) → FirstEmbargoed from call cap value (Ok done)
    → MatchAfter from.entries.questions done.0 done.1.entries.questions
first_match from call cap value done does =
    let parts = then_out {A = ℕ} {B = Done} (Fresh from.marks.embargoes) _ done does in
    let there : State = record from { marks = record from.marks { embargoes = insert from.marks.embargoes parts.0 value } } in
    let same : (with_mark there cap (Some parts.0)).entries.questions ≡ from.entries.questions = ap (λ s. s.entries.questions) (with_mark_is there cap (Some parts.0)) in
    rw (ok_in _ _ parts.2, same) (λ q question is. is)

back_match : (from : State) (call : PendingCall) (cap value : Cap) (o : Option (Option ℕ)) (done : Done) → IsBack from.entries.questions call.origin → GoBack from call cap value o (Ok done)
    → MatchAfter from.entries.questions done.0 done.1.entries.questions
back_match from call cap value None done back does = goto_match from call value done back does
back_match from call cap value (Some None) done back does = first_match from call cap value done does
back_match from call cap value (Some (Some n)) done back does = go_match from call (routes.Wait (gates.Embargo n)) done back does

value_match : (old : State) (p : ℕ) (request : Request) (cap value : Cap) (done : Done) → GoByValue old p request cap value (Ok done)
    → MatchAfter (with_new old p) done.0 done.1.entries.questions
value_match old p request cap (caps.Import j) done does =
    go_match (called old p kinds.Wire) (own_call old p request) (routes.Import j) done (new_back old p) does
value_match old p request cap (caps.Object k) done does =
    back_match (called old p kinds.Local) (own_call old p request) cap (caps.Object k) (mark_of old cap) done (new_back old p) does
value_match old p request cap (caps.Promise r) done does =
    back_match (called old p kinds.Local) (own_call old p request) cap (caps.Promise r) (mark_of old cap) done (new_back old p) does
value_match old p request cap caps.None done does = goto_match (called old p kinds.Local) (own_call old p request) caps.None done (new_back old p) does
value_match old p request cap (caps.Pipelined r path) done does =
    goto_match (called old p kinds.Local) (own_call old p request) (caps.Pipelined r path) done (new_back old p) does
value_match old p request cap (caps.Broken x) done does =
    goto_match (called old p kinds.Local) (own_call old p request) (caps.Broken x) done (new_back old p) does

from_match : (old : State) (p : ℕ) (request : Request) (cap : Cap) (reference : Standing) (done : Done) → GoFrom old p request cap reference (Ok done)
    → MatchAfter (with_new old p) done.0 done.1.entries.questions
from_match old p request cap plain done does = goto_match (called old p kinds.Local) (own_call old p request) cap done (new_back old p) does
from_match old p request cap on_wire done does =
    let parts = then_out {A = State} {B = Done} (λ mid. mid ≡ marked (called old p kinds.Wire) cap (mark_of old cap)) _ done does in
    let same = marked_same (called old p kinds.Wire) parts.0 cap (mark_of old cap) parts.1 in
    match_from parts.0.entries.questions (with_new old p) done.1.entries.questions done.0 same
    (goto_match parts.0 (own_call old p request) cap done (back_in parts.0.entries.questions (with_new old p) p same (new_back old p)) parts.2)
from_match old p request cap (came_to value) done does = value_match old p request cap value done does

-- the call opens its question, and goes
pub call_match : (old : State) (cap : Cap) (request : Request) (done : OwnDone) → DoCall old cap request (Ok done)
    → MatchBy old.entries.questions (λ q question. after_effects q done.1 (after_event q (events.Call cap request) done.0 question)) done.2.entries.questions
call_match old cap request done does =
    let opens = or_full_out _ _ (unless_out {A = OwnDone} {F = VatFault} (call_refusals old cap request) _ done does) in
    let first = then_out {A = ℕ} {B = OwnDone} (Fresh old.entries.questions) _ done opens in
    let goes = then_out {A = Done} {B = OwnDone} (GoFrom old first.0 request cap (reference_of old.values cap)) _ done first.2 in
    let all = from_match old first.0 request cap (reference_of old.values cap) goes.0 goes.1 in
    rw (ok_in _ _ goes.2) (λ q question is. all q (if first.0 == q then asked else question) (new_match old first.0 q question is))
