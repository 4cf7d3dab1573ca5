-- What the numbers of holders say.
use Rattle.std.proofs.Common.{◌≡◌, ℕ, ◌+◌, ◌==◌, ltb, Bool, true, false, cond, List, [], ◌∷◌, ◌++◌, Option, Some, None, option_to_list, refl, sym, ap, ◌∙◌, arith}
use Rattle.std.specs.List.{sum_by, count_by, flat_map, list_any}
use Rattle.std.proofs.lemmas.Bool.Decides.{nat_tests}
use Rattle.std.proofs.lemmas.List.Sums.{sum_by-append}
use Rattle.std.specs.FinMap.{get, entries, values}
use Rattle.cp_tables.specs.Table.{Table}
use Rattle.cp_refs.specs.Values.{ValueMaps}
use Rattle.cp_refs.specs.declared.cap.Cap.{Cap}
use Rattle.cp_refs.specs.declared.call.WaitingCall.{WaitingCall}
use Rattle.cp_refs.specs.declared.route.Gate.{Gate}
use Rattle.cp_refs.specs.declared.route.Gate.TheVariants as gates
use Rattle.cp_refs.specs.declared.values.QuestionState.{QuestionState}
use Rattle.cp_vat_machine.specs.InUse.{is_import, is_object, is_promise, is_at_promise, is_at_question, caps_given, value_unless}
use Rattle.cp_vat_state.specs.Sought.{is_sought, is_named, named_by, awaited_at}
use Rattle.cp_vat_state.specs.Counts.{number_of, times_in}
use Rattle.cp_vat_state.specs.Holding.{AreHeld, own_uses, AreHeldByCalls, AreLedTo}
use Rattle.cp_vat_state.specs.declared.counted_calls.Uses.{Uses}
use Rattle.cp_vat_state.specs.declared.sought.Sought.{Sought}
use Rattle.cp_vat_state.specs.declared.sought.Sought.TheVariants as sought
use Rattle.cp_vat_state.specs.declared.holders.Holders.{Holders}
use Rattle.cp_vat_state.specs.declared.kept.KeptContents.{KeptContents}
use Rattle.cp_vat_state.proofs.Counting.{sought_named}
use Rattle.cp_refs.proofs.Sums.{of_others, others, together, of_entry}
use Rattle.cp_vat_state.proofs.Holding.{any_counts, count-flat_map}

-- it is in one of the lists where more than none are counted in all of them
pub any_flat : {X : Type 0} (p : Cap → Bool) (g : X → List Cap) (xs : List X) → list_any p (flat_map g xs) ≡ ltb 0 (sum_by (λ x. count_by p (g x)) xs)
any_flat p g xs = any_counts p (flat_map g xs) ∙ ap (λ n. ltb 0 n) (count-flat_map p g xs)

-- it is kept
pub is_kept : (v : ValueMaps) (kept imported : KeptContents) (s : Sought) → AreHeld v kept imported
    → ltb 0 (number_of kept.holders s)
    ≡ list_any (is_sought s) (flat_map option_to_list (values v.promises) ++ flat_map caps_given (values v.answers) ++ flat_map (λ (question : QuestionState). caps_given question.outcome) (values v.questions))
is_kept v kept imported s is =
    let a = flat_map option_to_list (values v.promises) in
    let b = flat_map caps_given (values v.answers) in
    let c = flat_map (λ (question : QuestionState). caps_given question.outcome) (values v.questions) in
    let together : count_by (is_sought s) (a ++ b ++ c) ≡ count_by (is_sought s) a + count_by (is_sought s) b + count_by (is_sought s) c = sum_by-append (λ cap. cond (is_sought s cap) 1 0) (a ++ b) c ∙ ap (λ n. n + count_by (is_sought s) c) (sum_by-append (λ cap. cond (is_sought s cap) 1 0) a b) in
    let number : number_of kept.holders s ≡ count_by (is_sought s) (a ++ b ++ c) =
    omega (arith, is.kept_so_often s, together, count-flat_map (is_sought s) option_to_list (values v.promises), count-flat_map (is_sought s) caps_given (values v.answers), count-flat_map (is_sought s) (λ (question : QuestionState). caps_given question.outcome) (values v.questions)) in
    ap (λ n. ltb 0 n) number ∙ sym (any_counts (is_sought s) (a ++ b ++ c))

-- it is the value of an import
pub is_import_value : (v : ValueMaps) (kept imported : KeptContents) (s : Sought) → AreHeld v kept imported
    → ltb 0 (number_of imported.holders s) ≡ list_any (is_sought s) (flat_map option_to_list (values v.imports))
is_import_value v kept imported s is = ap (λ n. ltb 0 n) (is.imported_so_often s) ∙ sym (any_flat (is_sought s) option_to_list (values v.imports))

-- the values of the imports but one
but_one : (i : ℕ) (es : List (ℕ × Option Cap)) → of_others (λ value. times_in (option_to_list value) (sought.Import i)) i es ≡ count_by (is_import i) (flat_map (λ entry. value_unless i entry) es)
but_one i [] = refl
but_one i (e ∷ es) =
    ap (λ n. cond (e.0 == i) 0 (times_in (option_to_list e.1) (sought.Import i)) + n) (but_one i es) ∙ ap (λ n. n + count_by (is_import i) (flat_map (λ entry. value_unless i entry) es)) (of_one (e.0 == i))
    ∙ sym (sum_by-append (λ cap. cond (is_import i cap) 1 0) (value_unless i e) (flat_map (λ entry. value_unless i entry) es))
  where
    of_one : (b : Bool) → cond b 0 (times_in (option_to_list e.1) (sought.Import i)) ≡ count_by (is_import i) (cond b [] (option_to_list e.1))
    of_one true = refl
    of_one false = refl

own_of_entry : (i : ℕ) (o : Option (Option Cap)) → of_entry (λ value. times_in (option_to_list value) (sought.Import i)) o ≡ own_uses o i
own_of_entry i None = refl
own_of_entry i (Some value) = refl

more_than : (all own rest : ℕ) → all ≡ rest + own → ltb own all ≡ ltb 0 rest
more_than all own rest is = grind (arith, nat_tests)

-- it is the value of another import
pub is_value_of_another : (v : ValueMaps) (kept imported : KeptContents) (i : ℕ) → AreHeld v kept imported
    → ltb (own_uses (get v.imports i) i) (number_of imported.holders (sought.Import i)) ≡ list_any (is_import i) (flat_map (λ entry. value_unless i entry) (entries v.imports))
is_value_of_another v kept imported i is =
    let one = sought.Import i in
    let number : number_of imported.holders one ≡ others (λ value. times_in (option_to_list value) one) v.imports i + own_uses (get v.imports i) i =
    is.imported_so_often one ∙ together (λ value. times_in (option_to_list value) one) v.imports i ∙ ap (λ n. others (λ value. times_in (option_to_list value) one) v.imports i + n) (own_of_entry i (get v.imports i)) in
    more_than _ _ _ number ∙ ap (λ n. ltb 0 n) (but_one i (entries v.imports)) ∙ sym (any_counts (is_import i) (flat_map (λ entry. value_unless i entry) (entries v.imports)))

-- ---- calls
-- it stands in a call's table
pub is_in_table : (calls : Table WaitingCall) (uses : Uses) (s : Sought) → AreHeldByCalls calls uses → ltb 0 (number_of uses.named s) ≡ list_any (is_sought s) (flat_map (λ (call : WaitingCall). call.request.caps) (values calls))
is_in_table calls uses s is = ap (λ n. ltb 0 n) (is.named s) ∙ sym (any_flat (is_sought s) (λ (call : WaitingCall). call.request.caps) (values calls))

waits_at : (calls : Table WaitingCall) (uses : Uses) (s : Sought) → AreHeldByCalls calls uses → ltb 0 (number_of uses.awaited s) ≡ list_any (λ (call : WaitingCall). is_named s (awaited_at call.gate)) (values calls)
waits_at calls uses s is = ap (λ n. ltb 0 n) (is.awaited s) ∙ sym (any_counts (λ (call : WaitingCall). is_named s (awaited_at call.gate)) (values calls))

promise_gate : (p : ℕ) (gate : Gate) → is_named (sought.Promise p) (awaited_at gate) ≡ is_at_promise p gate
promise_gate p (gates.Answer a path) = refl
promise_gate p (gates.Promise q) = refl
promise_gate p (gates.Question q path) = refl
promise_gate p (gates.Embargo n) = refl

question_gate : (q : ℕ) (gate : Gate) → is_named (sought.PathOf q) (awaited_at gate) ≡ is_at_question q gate
question_gate q (gates.Answer a path) = refl
question_gate q (gates.Promise p) = refl
question_gate q (gates.Question p path) = refl
question_gate q (gates.Embargo n) = refl

-- calls wait at it
pub waits_at_promise : (calls : Table WaitingCall) (uses : Uses) (p : ℕ) → AreHeldByCalls calls uses → ltb 0 (number_of uses.awaited (sought.Promise p)) ≡ list_any (λ (call : WaitingCall). is_at_promise p call.gate) (values calls)
waits_at_promise calls uses p is = waits_at calls uses (sought.Promise p) is ∙ ap (λ f. list_any f (values calls)) (λ i call. promise_gate p call.gate i)

pub waits_at_question : (calls : Table WaitingCall) (uses : Uses) (q : ℕ) → AreHeldByCalls calls uses → ltb 0 (number_of uses.awaited (sought.PathOf q)) ≡ list_any (λ (call : WaitingCall). is_at_question q call.gate) (values calls)
waits_at_question calls uses q is = waits_at calls uses (sought.PathOf q) is ∙ ap (λ f. list_any f (values calls)) (λ i call. question_gate q call.gate i)

-- ---- embargoes
-- an embargo leads to what is looked for
leads : (embargoes : Table Cap) (led_to : Holders) (s : Sought) → AreLedTo embargoes led_to → ltb 0 (number_of led_to s) ≡ list_any (is_sought s) (values embargoes)
leads embargoes led_to s is =
    ap (λ n. ltb 0 n) (is s) ∙ sym (any_counts (λ cap. is_named s (named_by cap)) (values embargoes)) ∙ ap (λ f. list_any f (values embargoes)) (λ i cap. sym (sought_named s cap) i)

pub leads_to : (embargoes : Table Cap) (led_to : Holders) (p : ℕ) → AreLedTo embargoes led_to → ltb 0 (number_of led_to (sought.Promise p)) ≡ list_any (is_promise p) (values embargoes)
leads_to embargoes led_to p is = leads embargoes led_to (sought.Promise p) is

pub leads_to_object : (embargoes : Table Cap) (led_to : Holders) (k : ℕ) → AreLedTo embargoes led_to → ltb 0 (number_of led_to (sought.Object k)) ≡ list_any (is_object k) (values embargoes)
leads_to_object embargoes led_to k is = leads embargoes led_to (sought.Object k) is
