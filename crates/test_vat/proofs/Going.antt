-- Where calls go and how waiting calls leave, found by computing.
use Rattle.std.specs.Prelude.{◌≡◌, refl, ℕ, zero, suc, ◌≤◌, ◌==◌, leb, ◌||◌, ◌&&◌, Bool, true, false, cond, List, [], ◌∷◌, ◌++◌, is_none, is_some, Option, Some, None, IfSome, Result, Ok, Err}
use Rattle.std.proofs.Common.{arith, sym, ap, subst, ◌∙◌, true≢false, leb-true, eqb-true}
use Rattle.std.proofs.lemmas.Bool.Decides.{nat_tests}
use Rattle.std.specs.List.{list_all}
use Rattle.std.specs.Option.{option_map}
use Rattle.std.specs.Ordering.{nat_cmp, eq_by_cmp}
use Rattle.std.specs.FinMap.{get}
use Rattle.cp_tables.specs.Exchange.{new_exchange}
use Rattle.cp_tables.specs.declared.exchange.Exchange.{Exchange}
use Rattle.cp_messages.specs.declared.descriptor.Descriptor.{Descriptor}
use Rattle.cp_messages.specs.declared.target.Target.{Target}
use Rattle.cp_messages.specs.declared.target.Target.TheVariants as targets
use Rattle.cp_refs.specs.At.{cap_at}
use Rattle.cp_refs.specs.declared.cap.Cap.{Cap}
use Rattle.cp_refs.specs.declared.call.WaitingCall.{WaitingCall}
use Rattle.cp_refs.specs.declared.call.Origin.{Origin}
use Rattle.cp_refs.specs.declared.call.Origin.TheVariants as origins
use Rattle.cp_refs.specs.declared.outcome.Outcome.TheVariants as outcomes
use Rattle.cp_refs.specs.declared.route.Gate.{Gate}
use Rattle.cp_refs.specs.declared.route.Gate.TheVariants as gates
use Rattle.cp_refs.specs.declared.route.Route.{Route}
use Rattle.cp_refs.specs.declared.route.Route.TheVariants as routes
use Rattle.cp_vat_machine.specs.State.{gave}
use Rattle.cp_vat_machine.specs.Writing.{promised}
use Rattle.cp_vat_machine.specs.Writing.{mentions_of}
use Rattle.cp_vat_machine.specs.Go.{PendingCall, delivered, call_of, forwarding, sent, finish_after, GoOut, Go, GoTo, NoneOver, IsNext, without_call, underway, Leave, stays, leaves, finds_table_full}
use Rattle.cp_vat_machine.specs.declared.effect.Effect.{Effect}
use Rattle.cp_vat_machine.specs.declared.effect.Effect.TheVariants as effects
use Rattle.cp_vat_machine.specs.declared.entry.QuestionEntry.{QuestionEntry}
use Rattle.cp_vat_machine.specs.declared.fault.PeerFault.{PeerFault}
use Rattle.test_vat.proofs.Known.{Listed, at, get_is, Known, state, rested, without, remove_is}
use Rattle.test_vat.proofs.Found.{Finds, lacks, found, seen, beside, moved, follow, holding}
use Rattle.test_vat.proofs.Finding.{find_fresh, find_all_said, routing}
use Rattle.test_vat.proofs.Taking.{changed, changed_is}
use Rattle.test_vat.proofs.Giving.{find_given}

abbrev pub held_known : Known → PendingCall → Gate → Known
held_known k call gate = record k { calls = (call.ticket, record { ticket = call.ticket; origin = call.origin; request = call.request; gate = gate }) ∷ k.calls }

abbrev pub delivered_known : Known → Origin → Known
delivered_known k (origins.Answer a) = record k { answering = changed k.answering a (λ entry. record entry { kept = record entry.kept { is_delivered = true } }) }
delivered_known k (origins.Own q) = record k { asked = changed k.asked q (λ entry. record entry { kept = record entry.kept { is_delivered = true } }) }

pub delivered_is : (k : Known) (origin : Origin) → delivered (state k) origin ≡ state (delivered_known k origin)
delivered_is k (origins.Answer a) = λ i.
    record (state k) {
      entries = record (state k).entries { answers = changed_is k.answering a (λ entry. record entry { kept = record entry.kept { is_delivered = true } }) i };
    }
delivered_is k (origins.Own q) = λ i.
    record (state k) {
      entries = record (state k).entries { questions = changed_is k.asked q (λ entry. record entry { kept = record entry.kept { is_delivered = true } }) i };
    }

abbrev pub sent_entry : List Descriptor → Exchange QuestionEntry → Exchange QuestionEntry
sent_entry table entry = record entry { kept = record entry.kept { is_sent = true; mentions = mentions_of table } }

abbrev pub sent_known : Known → ℕ → List Descriptor → Known
sent_known k q table = record k { asked = changed k.asked q (sent_entry table) }

pub sent_is : (k : Known) (q : ℕ) (table : List Descriptor) → sent (state k) q table ≡ state (sent_known k q table)
sent_is k q table = λ i. record (state k) { entries = record (state k).entries { questions = changed_is k.asked q (sent_entry table) i } }

abbrev pub find_out : (k : Known) (call : PendingCall) (target : Target) (origin : Origin) → Finds beside (GoOut (state k) call target origin)
find_out k call target (origins.Answer a) =
    follow _ (find_fresh k.asked) (λ q.
    follow _ (find_all_said k call.request.caps) (λ said.
    found
    (Ok (call_of q target call.request said.0 ∷ [], record said.1 { asked = (q, new_exchange (forwarding a call said.0)) ∷ said.1.asked }))
    refl))
find_out k call target (origins.Own q) =
    holding k.asked q _ (λ entry.
    follow _ (find_all_said k call.request.caps) (λ said.
    let first : List Effect = call_of q target call.request said.0 ∷ finish_after q entry.stage in
    found (Ok (first, sent_known said.1 q said.0)) (ap (λ s. Ok (first, s)) (sym (sent_is said.1 q said.0)))))

abbrev pub find_gone : (k : Known) (call : PendingCall) (route : Route) → Finds beside (Go (state k) call route)
find_gone k call (routes.Deliver n) =
    let first : List Effect = effects.Deliver n call.origin call.ticket call.request ∷ [] in
    found (Ok (first, delivered_known k call.origin)) (ap (λ s. Ok (first, s)) (sym (delivered_is k call.origin)))
find_gone k call (routes.Import i) = find_out k call (targets.ImportedCap i) call.origin
find_gone k call (routes.Pipe q path) = find_out k call (targets.PromisedAnswer (promised q path)) call.origin
find_gone k call (routes.Wait gate) = found (Ok ([], held_known k call gate)) refl
find_gone k call (routes.Fail x) = find_given k call.origin (outcomes.Failed x)

abbrev pub find_gone_to : (k : Known) (call : PendingCall) (c : Cap) → Finds beside (GoTo (state k) call c)
find_gone_to k call c = routing k c (Go (state k) call) (find_gone k call)

-- what a gate gave
abbrev pub known_gave : Known → Gate → Option Cap
known_gave k (gates.Answer a path) = option_map (λ outcome. cap_at outcome path) (at k.over_answers a)
known_gave k (gates.Promise p) = at k.over_promises p
known_gave k (gates.Question q path) = option_map (λ outcome. cap_at outcome path) (at k.over_questions q)
known_gave k (gates.Embargo n) = at k.over_embargoes n

pub gave_is : (k : Known) (gate : Gate) → gave (state k).waiting.over gate ≡ known_gave k gate
gave_is k (gates.Answer a path) = ap (option_map (λ outcome. cap_at outcome path)) (get_is k.over_answers a)
gave_is k (gates.Promise p) = get_is k.over_promises p
gave_is k (gates.Question q path) = ap (option_map (λ outcome. cap_at outcome path)) (get_is k.over_questions q)
gave_is k (gates.Embargo n) = get_is k.over_embargoes n

-- what holds of each entry of a list holds under each number
module _ {X : Type 0} (test : ℕ → X → Bool) where
  pub same_key : (q n : ℕ) → eq_by_cmp nat_cmp q n ≡ true → n ≡ q
  same_key q n e = grind (arith, nat_tests)

  pub left_of : (a b : Bool) → (a && b) ≡ true → a ≡ true
  left_of true b e = refl
  left_of false b e = e

  pub right_of : (a b : Bool) → (a && b) ≡ true → b ≡ true
  right_of true b e = e
  right_of false b e = absurd (true≢false (sym e))

  pub passes : (q : ℕ) (n : ℕ) (x : X) → test n x ≡ true → (b : Bool) → eq_by_cmp nat_cmp q n ≡ b → (rest : Option X) → IfSome rest (λ y. test q y ≡ true) → IfSome (cond b (Some x) rest) (λ y. test q y ≡ true)
  passes q n x holds true same rest more = subst (λ m. test m x ≡ true) (same_key q n same) holds
  passes q n x holds false same rest more = more

  pub each_passes : (es : Listed X) → list_all (λ e. test e.0 e.1) es ≡ true → (q : ℕ) → IfSome (at es q) (λ x. test q x ≡ true)
  each_passes [] all q = tt
  each_passes (e ∷ es) all q =
      passes q e.0 e.1 (left_of (test e.0 e.1) _ all) (eq_by_cmp nat_cmp q e.0) refl (at es q) (each_passes es (right_of (test e.0 e.1) _ all) q)

-- the call that leaves next
pub data Next (k : Known) : Type 0 where
  none_next : NoneOver (state k) → Next k
  next : (call : WaitingCall) (c : Cap) → IsNext (state k) call c → Next k
  unknown_next : Next k

module _ (k : Known) where
  abbrev pub is_over : Gate → Bool
  is_over gate = is_some (known_gave k gate)

  -- the lowest number of those whose gate has ended
  abbrev pub lower_one : ℕ → Option ℕ → Option ℕ
  lower_one n None = Some n
  lower_one n (Some m) = Some (cond (leb n m) n m)

  abbrev pub lowest_over : Listed WaitingCall → Option ℕ
  lowest_over [] = None
  lowest_over (e ∷ es) = cond (is_over e.1.gate) (lower_one e.0 (lowest_over es)) (lowest_over es)

  abbrev pub waits_on : ℕ → WaitingCall → Bool
  waits_on n call = is_none (known_gave k call.gate)

  abbrev pub not_before : ℕ → ℕ → WaitingCall → Bool
  not_before t n call = leb t n || is_none (known_gave k call.gate)

  pub nothing : {X : Type 0} (o : Option X) → is_none o ≡ true → o ≡ None
  nothing None e = refl
  nothing (Some x) e = absurd (true≢false (sym e))

  pub on_each : {X : Type 0} {P Q : X → Type 0} (o : Option X) → ((x : X) → P x → Q x) → IfSome o P → IfSome o Q
  on_each None each holds = tt
  on_each (Some x) each holds = each x holds

  pub none_over_is : list_all (λ e. waits_on e.0 e.1) k.calls ≡ true → NoneOver (state k)
  none_over_is all ticket =
      subst
      (λ o. IfSome o (λ call. gave (state k).waiting.over call.gate ≡ None))
      (sym (get_is k.calls ticket))
      (on_each (at k.calls ticket) (λ call waits. gave_is k call.gate ∙ nothing (known_gave k call.gate) waits) (each_passes waits_on k.calls all ticket))

  pub past : (t n : ℕ) (call : WaitingCall) (c : Cap) (b : Bool) → leb t n ≡ b → (b || is_none (known_gave k call.gate)) ≡ true → known_gave k call.gate ≡ Some c → t ≤ n
  past t n call c true less holds is = leb-true t n less
  past t n call c false less holds is = absurd (true≢false (sym holds ∙ ap is_none is))

  pub not_below : (t : ℕ) → list_all (λ e. not_before t e.0 e.1) k.calls ≡ true → (n : ℕ) (call : WaitingCall) (c : Cap) → get (state k).waiting.calls n ≡ Some call → gave (state k).waiting.over call.gate ≡ Some c → t ≤ n
  not_below t all n call c is over =
      past t n call c (leb t n) refl (subst (λ o. IfSome o (λ x. not_before t n x ≡ true)) (sym (get_is k.calls n) ∙ is) (each_passes (not_before t) k.calls all n)) (sym (gave_is k call.gate) ∙ over)

  abbrev pub next_by : (call : WaitingCall) → at k.calls call.ticket ≡ Some call → (o : Option Cap) → known_gave k call.gate ≡ o → (b : Bool) → list_all (λ e. not_before call.ticket e.0 e.1) k.calls ≡ b → Next k
  next_by call is (Some c) over true all =
      next call c (record { waits = get_is k.calls call.ticket ∙ is; ended = gave_is k call.gate ∙ over; lowest = λ n other given. not_below call.ticket all n other given })
  next_by call is (Some c) over false all = unknown_next
  next_by call is None over b all = unknown_next

  abbrev pub next_of : (t : ℕ) (call : WaitingCall) → at k.calls t ≡ Some call → (b : Bool) → (call.ticket == t) ≡ b → Next k
  next_of t call is true same =
      next_by call (subst (λ n. at k.calls n ≡ Some call) (sym (eqb-true call.ticket t same)) is) (known_gave k call.gate) refl (list_all (λ e. not_before call.ticket e.0 e.1) k.calls) refl
  next_of t call is false same = unknown_next

  abbrev pub next_at : (t : ℕ) (o : Option WaitingCall) → at k.calls t ≡ o → Next k
  next_at t None is = unknown_next
  next_at t (Some call) is = next_of t call is (call.ticket == t) refl

  abbrev pub next_from : Option ℕ → (b : Bool) → list_all (λ e. waits_on e.0 e.1) k.calls ≡ b → Next k
  next_from o true all = none_next (none_over_is all)
  next_from (Some t) false all = next_at t (at k.calls t) refl
  next_from None false all = unknown_next

  abbrev pub find_next : Next k
  find_next = next_from (lowest_over k.calls) (list_all (λ e. waits_on e.0 e.1) k.calls) refl

-- waiting calls leave, with these effects
pub data Left (k : Known) : Type 0 where
  left : (effects : List Effect) (out : Result Known PeerFault) → Leave (state k) effects (seen state out) → Left k
  stuck : Left k

pub without_call_is : (k : Known) (call : WaitingCall) → without_call (state k) call ≡ state (record k { calls = without k.calls call.ticket })
without_call_is k call = λ i. record (state k) { waiting = record (state k).waiting { calls = remove_is k.calls call.ticket i } }

abbrev pub left_after : (k : Known) (call : WaitingCall) (c : Cap) → IsNext (state k) call c → (first : List Effect) (mid : Known) → GoTo (without_call (state k) call) (underway call) c (Ok (first, state mid)) → Left mid → Left k
left_after k call c is first mid goes (left rest out more) = left (first ++ rest) out (leaves call c is goes more refl)
left_after k call c is first mid goes stuck = stuck

abbrev pub left_by : (k : Known) (call : WaitingCall) (c : Cap) → IsNext (state k) call c → Finds beside (GoTo (without_call (state k) call) (underway call) c) → ((mid : Known) → Left mid) → Left k
left_by k call c is (found (Ok (first, mid)) goes) rest = left_after k call c is first mid goes (rest mid)
left_by k call c is (found (Err fault) goes) rest = left [] (Err fault) (finds_table_full call c is goes)
left_by k call c is lacks rest = stuck

abbrev pub left_from : (k : Known) → Next k → ((mid : Known) → Left mid) → Left k
left_from k (none_next none) rest = left [] (Ok (rested k)) (stays none)
left_from k (next call c is) rest =
    left_by k call c is (moved (λ s. GoTo s (underway call) c) (without_call_is k call) (find_gone_to (record k { calls = without k.calls call.ticket }) (underway call) c)) rest
left_from k unknown_next rest = stuck

abbrev pub find_left : ℕ → (k : Known) → Left k
find_left zero k = stuck
find_left (suc n) k = left_from k (find_next k) (find_left n)
