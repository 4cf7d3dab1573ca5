-- The application's calls on capabilities, as the accounts see them.
use Rattle.std.specs.Prelude.{◌≡◌, refl, ℕ, ◌==◌, cond, Bool, true, false, [], ◌∷◌, Option, Some, None, Ok, Err}
use Rattle.std.specs.FinMap.{get, insert}
use Rattle.std.proofs.Common.{arith}
use Rattle.cp_tables.specs.Table.{Table}
use Rattle.cp_tables.specs.Exchange.{new_exchange}
use Rattle.cp_tables.specs.declared.exchange.Exchange.{Exchange}
use Rattle.cp_tables.proofs.TableLemmas.{get-insert_same}
use Rattle.cp_messages.specs.declared.message.Message.TheVariants as messages
use Rattle.cp_messages.specs.declared.disembargo.DisembargoContext.TheVariants as contexts
use Rattle.cp_refs.specs.declared.cap.Cap.{Cap}
use Rattle.cp_refs.specs.declared.cap.Cap.TheVariants as caps
use Rattle.cp_refs.specs.declared.call.Origin.TheVariants as origins
use Rattle.cp_refs.specs.declared.call.Request.{Request}
use Rattle.cp_refs.specs.declared.route.Gate.{Gate}
use Rattle.cp_refs.specs.declared.route.Gate.TheVariants as gates
use Rattle.cp_refs.specs.declared.route.Route.TheVariants as routes
use Rattle.cp_refs.specs.declared.values.QuestionKind.{QuestionKind}
use Rattle.cp_refs.specs.declared.values.QuestionKind.TheVariants as kinds
use Rattle.cp_vat_machine.specs.State.{State, Marks}
use Rattle.cp_vat_machine.specs.Then.{Done}
use Rattle.cp_vat_machine.specs.Capacity.{Fresh}
use Rattle.cp_vat_machine.specs.Supported.{is_supported_target}
use Rattle.cp_vat_machine.specs.Go.{PendingCall, held_at, GoTo}
use Rattle.cp_vat_machine.specs.Calling.{Standing, plain, on_wire, came_to, reference_of, asked, called, own_call, mark_of, with_mark, has_mark_capacity, marked, old_target, disembargo_of, FirstEmbargoed, GoBack, GoByValue, GoFrom, OwnDone, call_refusals, DoCall}
use Rattle.cp_vat_machine.specs.declared.entry.QuestionEntry.{QuestionEntry}
use Rattle.cp_vat_machine.specs.declared.fault.PeerFault.TheVariants as faults
use Rattle.cp_vat_machine.specs.declared.fault.VatFault.{VatFault}
use Rattle.cp_vat_machine.proofs.Basics.{is_equal, ok_in, ok_out, then_out, unless_out, or_full_out, put_at}
use Rattle.cp_vat_pair_laws.specs.Accounts.{accounts_of, asked_account}
use Rattle.cp_vat_pair_laws.specs.Orderly.{IsOrderly, IsHeldAlone, Goes}
use Rattle.cp_vat_pair_laws.proofs.counts.rules.Same.{same_accounts}
use Rattle.cp_vat_pair_laws.proofs.counts.rules.Accounts.{free_out}
use Rattle.cp_vat_pair_laws.proofs.counts.rules.Say.{known_path}
use Rattle.cp_vat_pair_laws.proofs.counts.rules.TwoParts.{sends_both, sends_none, sends_one}
use Rattle.cp_vat_pair_laws.proofs.counts.rules.Waits.{fresh_not, none_waits, put_question, new_call}
use Rattle.cp_vat_pair_laws.proofs.counts.rules.Go.{never_delivered, may_wait, go_goes, goto_goes}

-- a question that is opened and not sent
pub fresh_put : (table : Table (Exchange QuestionEntry)) (q p : ℕ) (kept : QuestionEntry) (b : Bool) → (q == p) ≡ b → get table q ≡ None → kept.is_sent ≡ false
    → asked_account (get (insert table q (new_exchange kept)) p) ≡ asked_account (get table p)
fresh_put table q p kept true t fresh unsent = rw (put_at table q p (new_exchange kept) true t, ← is_equal q p t, fresh, unsent) refl
fresh_put table q p kept false t fresh unsent = rw (put_at table q p (new_exchange kept) false t) refl

abbrev pub asked_entry : Option ℕ → Bool → QuestionEntry
asked_entry ticket is_sent = record { forwards = None; ticket = ticket; is_sent = is_sent; is_delivered = false; mentions = [] }

pub asked_orderly : (old : State) (q : ℕ) (kind : QuestionKind) (ticket : Option ℕ) (is_sent : Bool) → IsOrderly old → get old.entries.questions q ≡ None
    → IsOrderly (asked old q kind ticket is_sent)
asked_orderly old q kind ticket is_sent orderly fresh =
    record {
      held =
          put_question old.waiting.calls old.entries.questions orderly.held q (new_exchange (asked_entry ticket is_sent))
          (none_waits old.waiting.calls old.entries.questions orderly.held q (fresh_not (get old.entries.questions q) fresh))
          (never_delivered refl);
      values = orderly.values;
      answers = orderly.answers;
      exports = orderly.exports;
    }

-- A state that the call may go from: with other marks it goes on as well.
record MayStart (old : State) (q : ℕ) (from : State) : Type 0 where
  same : accounts_of from ≡ accounts_of old
  orderly : IsOrderly from
  may : IsHeldAlone from (origins.Own q)

called_starts : (old : State) (q : ℕ) (kind : QuestionKind) → IsOrderly old → get old.entries.questions q ≡ None → MayStart old q (called old q kind)
called_starts old q kind orderly fresh =
    let now = asked_orderly old q kind (Some old.next_ticket) false orderly fresh in
    record {
      same =
          same_accounts _ _ (λ e. refl) (λ i. refl) (λ p. fresh_put old.entries.questions q p (asked_entry (Some old.next_ticket) false) (q == p) refl fresh refl) (λ a. refl);
      orderly = record { held = now.held; values = now.values; answers = now.answers; exports = now.exports };
      may = (
        rw (get-insert_same old.entries.questions q (new_exchange (asked_entry (Some old.next_ticket) false))) ((refl, tt), refl),
        none_waits old.waiting.calls old.entries.questions orderly.held q (fresh_not (get old.entries.questions q) fresh),
      );
    }

marks_start : (old from mid : State) (q : ℕ) (M : Marks) → mid ≡ record from { marks = M } → MayStart old q from → MayStart old q mid
marks_start old from mid q M is start =
    rw
    (is)
    (record {
      same = start.same;
      orderly = record { held = start.orderly.held; values = start.orderly.values; answers = start.orderly.answers; exports = start.orderly.exports };
      may = start.may;
    })

-- what goes from there goes from the state before
from_start : (old from : State) (q : ℕ) (done : Done) → MayStart old q from → Goes from done.0 done.1 → Goes old done.0 done.1
from_start old from q done start goes = (sends_both old from done.1 [] done.0 (sends_none old from [] refl start.same) goes.0, goes.1)

to_start : (old from : State) (q : ℕ) (request : Request) (cap : Cap) (done : Done) (ticket : ℕ) → MayStart old q from
    → GoTo from (record { ticket = ticket; origin = origins.Own q; request = request }) cap (Ok done) → Goes old done.0 done.1
to_start old from q request cap done ticket start goes =
    from_start old from q done start
    (goto_goes from (record { ticket = ticket; origin = origins.Own q; request = request }) cap done start.orderly start.may goes)

-- marks change nothing else
pub with_mark_is : (s : State) (cap : Cap) (embargo : Option ℕ) → with_mark s cap embargo ≡ record s { marks = (with_mark s cap embargo).marks }
with_mark_is s (caps.Import i) embargo = refl
with_mark_is s (caps.Pipelined q path) embargo = refl
with_mark_is s caps.None embargo = refl
with_mark_is s (caps.Object k) embargo = refl
with_mark_is s (caps.Promise p) embargo = refl
with_mark_is s (caps.Broken x) embargo = refl

pub marked_is : (s mid : State) (cap : Cap) (o : Option (Option ℕ)) → Ok mid ≡ marked s cap o → mid ≡ record s { marks = mid.marks }
marked_is s mid cap (Some embargo) is = rw (ok_in _ _ is) refl
marked_is s mid cap None is = by (has_mark_capacity s cap) is
  where
    by : (b : Bool) → Ok mid ≡ cond b (Ok (with_mark s cap None)) (Err faults.TableFull) → mid ≡ record s { marks = mid.marks }
    by true e = rw (ok_in _ _ e) (with_mark_is s cap None)
    by false e = ok_out e

-- a Disembargo goes out, and the call waits for its echo
target_known : (cap : Cap) → is_supported_target (old_target cap) ≡ true
target_known (caps.Pipelined q path) = known_path path
target_known (caps.Import i) = refl
target_known caps.None = refl
target_known (caps.Object k) = refl
target_known (caps.Promise p) = refl
target_known (caps.Broken x) = refl

embargoed_goes : (old from mid : State) (q n : ℕ) (M : Marks) (cap : Cap) (call : PendingCall) (gate : Gate) → mid ≡ record from { marks = M } → MayStart old q from → call.origin ≡ origins.Own q
    → Goes from (disembargo_of n cap ∷ []) (held_at mid call gate)
embargoed_goes old from mid q n M cap call gate is start own =
    rw
    (is) (
      sends_one
          from
          (held_at (record from { marks = M }) call gate)
          (messages.Disembargo (record { context = contexts.SenderLoopback n; target = old_target cap }))
          (disembargo_of n cap ∷ [])
          refl
          (target_known cap, tt)
          (record { exports = λ e. omega arith; imports = λ i. omega arith; questions = λ p. refl; answers = λ a. refl }),
      record {
        held =
            new_call from.waiting.calls from.entries.questions start.orderly.held call.ticket
            (record { ticket = call.ticket; origin = call.origin; request = call.request; gate = gate })
            (λ p is. may_wait from call.origin p is (rw (own) start.may));
        values = start.orderly.values;
        answers = start.orderly.answers;
        exports = start.orderly.exports;
      },
    )

first_embargoed : (old from : State) (q : ℕ) (call : PendingCall) (cap value : Cap) (done : Done) → MayStart old q from → call.origin ≡ origins.Own q
    → FirstEmbargoed from call cap value (Ok done) → Goes from done.0 done.1
first_embargoed old from q call cap value done start own does =
    let parts = then_out {A = ℕ} {B = Done} (Fresh from.marks.embargoes) _ done does in
    let there : State = record from { marks = record from.marks { embargoes = insert from.marks.embargoes parts.0 value } } in
    let mid : State = with_mark there cap (Some parts.0) in
    rw (ok_in _ _ parts.2) (embargoed_goes old from mid q parts.0 mid.marks cap call (gates.Embargo parts.0) (with_mark_is there cap (Some parts.0)) start own)

back_goes : (old from : State) (q : ℕ) (call : PendingCall) (cap value : Cap) (o : Option (Option ℕ)) (done : Done) → MayStart old q from → call.origin ≡ origins.Own q
    → GoBack from call cap value o (Ok done) → Goes from done.0 done.1
back_goes old from q call cap value None done start own does = goto_goes from call value done start.orderly (rw (own) start.may) does
back_goes old from q call cap value (Some None) done start own does = first_embargoed old from q call cap value done start own does
back_goes old from q call cap value (Some (Some n)) done start own does =
    go_goes from call (routes.Wait (gates.Embargo n)) done start.orderly (rw (own) start.may) does

value_goes : (old : State) (q : ℕ) (request : Request) (cap value : Cap) (done : Done) → IsOrderly old → get old.entries.questions q ≡ None
    → GoByValue old q request cap value (Ok done) → Goes old done.0 done.1
value_goes old q request cap (caps.Import j) done orderly fresh does =
    let start = called_starts old q kinds.Wire orderly fresh in
    from_start old (called old q kinds.Wire) q done start
    (go_goes (called old q kinds.Wire) (own_call old q request) (routes.Import j) done start.orderly start.may does)
value_goes old q request cap (caps.Object k) done orderly fresh does =
    let start = called_starts old q kinds.Local orderly fresh in
    from_start old (called old q kinds.Local) q done start
    (back_goes old (called old q kinds.Local) q (own_call old q request) cap (caps.Object k) (mark_of old cap) done start refl does)
value_goes old q request cap (caps.Promise p) done orderly fresh does =
    let start = called_starts old q kinds.Local orderly fresh in
    from_start old (called old q kinds.Local) q done start
    (back_goes old (called old q kinds.Local) q (own_call old q request) cap (caps.Promise p) (mark_of old cap) done start refl does)
value_goes old q request cap caps.None done orderly fresh does =
    to_start old (called old q kinds.Local) q request caps.None done old.next_ticket (called_starts old q kinds.Local orderly fresh) does
value_goes old q request cap (caps.Pipelined r path) done orderly fresh does =
    to_start old (called old q kinds.Local) q request (caps.Pipelined r path) done old.next_ticket (called_starts old q kinds.Local orderly fresh) does
value_goes old q request cap (caps.Broken x) done orderly fresh does =
    to_start old (called old q kinds.Local) q request (caps.Broken x) done old.next_ticket (called_starts old q kinds.Local orderly fresh) does

from_goes : (old : State) (q : ℕ) (request : Request) (cap : Cap) (reference : Standing) (done : Done) → IsOrderly old → get old.entries.questions q ≡ None
    → GoFrom old q request cap reference (Ok done) → Goes old done.0 done.1
from_goes old q request cap plain done orderly fresh does =
    to_start old (called old q kinds.Local) q request cap done old.next_ticket (called_starts old q kinds.Local orderly fresh) does
from_goes old q request cap on_wire done orderly fresh does =
    let parts = then_out {A = State} {B = Done} (λ mid. mid ≡ marked (called old q kinds.Wire) cap (mark_of old cap)) _ done does in
    let start = called_starts old q kinds.Wire orderly fresh in
    let is = marked_is (called old q kinds.Wire) parts.0 cap (mark_of old cap) parts.1 in
    to_start old parts.0 q request cap done old.next_ticket (marks_start old (called old q kinds.Wire) parts.0 q parts.0.marks is start) parts.2
from_goes old q request cap (came_to value) done orderly fresh does = value_goes old q request cap value done orderly fresh does

pub call_goes : (old : State) (cap : Cap) (request : Request) (done : OwnDone) → IsOrderly old → DoCall old cap request (Ok done) → Goes old done.1 done.2
call_goes old cap request done orderly does =
    let opens = or_full_out _ _ (unless_out {A = OwnDone} {F = VatFault} (call_refusals old cap request) _ done does) in
    let first = then_out {A = ℕ} {B = OwnDone} (Fresh old.entries.questions) _ done opens in
    let goes = then_out {A = Done} {B = OwnDone} (GoFrom old first.0 request cap (reference_of old.values cap)) _ done first.2 in
    rw (ok_in _ _ goes.2) (from_goes old first.0 request cap (reference_of old.values cap) goes.0 orderly (free_out _ first.0 first.1) goes.1)
