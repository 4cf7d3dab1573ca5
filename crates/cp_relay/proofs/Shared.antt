-- What a call passes of the caller's has no mark but the call's own, and gets no other.
use Rattle.std.proofs.Common.{◌≡◌, ◌≢◌, ◌<◌, ◌⊎◌, inl, inr, ℕ, zero, suc, ◌-◌, Bool, true, false, ◌&&◌, nat_lt, ◌==◌, List, [], ◌∷◌, length, slice_index_or, Option, Some, None, refl, sym, ◌∙◌, ap, subst, arith, true≢false}
use Rattle.std.proofs.lemmas.Bool.{cases_eq}
use Rattle.std.proofs.lemmas.Option.{none-some}
use Rattle.std.proofs.lemmas.Nat.{and_assoc, and_comm}
use Rattle.std.proofs.lemmas.Bool.Decides.{nat_tests}
use lib.Bits.{and_self}
use Rattle.std.specs.Option.{option_map_or}
use Rattle.std.specs.List.{Contains}
use Rattle.std.specs.FinMap.{get, insert, remove}
use Rattle.std.specs.Int.RustNames.{bit_and}
use Rattle.cp_tables.specs.Table.{Table}
use Rattle.cp_tables.proofs.TableLemmas.{get-insert_same, get-insert_other, get-remove_same, get-remove_other}
use Rattle.cp_messages.specs.declared.call.Call.{Call}
use Rattle.cp_messages.specs.declared.returned.Return.{Return}
use Rattle.cp_messages.specs.declared.small.Finish.{Finish}
use Rattle.cp_messages.specs.declared.message.Message.{Message}
use Rattle.cp_messages.specs.declared.message.Message.TheVariants as messages
use Rattle.cp_relay.specs.declared.rules.Rules.{Rules}
use Rattle.cp_relay.specs.declared.rules.Grant.{Grant}
use Rattle.cp_relay.specs.declared.references.Given.{Given}
use Rattle.cp_relay.specs.declared.references.Question.{Question}
use Rattle.cp_relay.specs.declared.references.QuestionStage.{QuestionStage}
use Rattle.cp_relay.specs.declared.references.QuestionStage.TheVariants as stages
use Rattle.cp_relay.specs.declared.references.Side.{Side}
use Rattle.cp_relay.specs.declared.references.References.{References}
use Rattle.cp_relay.specs.declared.ruling.Breach.{Breach}
use Rattle.cp_relay.specs.References.{given_more, raised, raised_all, lowered_by, lowered, lowered_all, lowered_if, has_room, closed_by, lent, answered_by, finished_at, finished_by, hosted_numbers, returned_numbers, resolved_number}
use Rattle.cp_relay.specs.Followed.{Between, asked_by, gained, followed, results_followed, then_closed, return_at, return_by, return_followed, then_answered, resolve_by, followed_from}
use Rattle.cp_relay.specs.Judged.{judged_from}
use Rattle.cp_relay.specs.Traffic.{Heard, from_caller, from_callee, second}
use Rattle.cp_relay.specs.Given.{known_after, Within, PassesMarks, GainsNoMark}
use Rattle.cp_relay.proofs.Kept.{kept_after, kept_if_goes}

some_of : {X : Type 0} (x y : X) → Some x ≡ Some y → x ≡ y
some_of x y e = ap (λ o. option_map_or (λ z. z) o x) e

within_then : (a b c : ℕ) → Within a b → Within b c → Within a c
within_then a b c ab bc = ap (λ x. bit_and x c) (sym ab) ∙ and_assoc c a b ∙ ap (bit_and a) bc ∙ ab

within_old : (a b : ℕ) → Within (bit_and a b) a
within_old a b = and_assoc a a b ∙ ap (bit_and a) (and_comm b a) ∙ sym (and_assoc b a a) ∙ ap (λ x. bit_and x b) (and_self a)

within_new : (a b : ℕ) → Within (bit_and a b) b
within_new a b = and_assoc b a b ∙ ap (bit_and a) (and_self b)

-- an entry of these marks at most
abbrev At : Table Given → ℕ → ℕ → Type 0
At table id marks = (later : Given) × (get table id ≡ Some later) × Within later.marks marks

-- each entry stays, and gets no mark
abbrev Keeps : Table Given → Table Given → Type 0
Keeps old new = (id : ℕ) (g : Given) → get old id ≡ Some g → At new id g.marks

-- each entry that is there was there, with its marks
abbrev Leaves : Table Given → Table Given → Type 0
Leaves old new = (id : ℕ) (later : Given) → get new id ≡ Some later → (g : Given) × (get old id ≡ Some g) × (later.marks ≡ g.marks)

keeps_self : (table : Table Given) → Keeps table table
keeps_self table id g e = (g, e, and_self g.marks)

raised_at : (table : Table Given) (id marks : ℕ) (had : Option Given) → get table id ≡ had → At (insert table id (given_more true had marks)) id marks
raised_at table id marks None e = (given_more true None marks, get-insert_same table id _, and_self marks)
raised_at table id marks (Some g) e = (given_more true (Some g) marks, get-insert_same table id _, within_new g.marks marks)

raised_kept : (table : Table Given) (id marks : ℕ) (had : Option Given) (g : Given) → had ≡ Some g → At (insert table id (given_more true had marks)) id g.marks
raised_kept table id marks None g e = absurd (none-some g e)
raised_kept table id marks (Some had) g e =
    (given_more true (Some had) marks, get-insert_same table id _, subst (λ (x : Given). Within (bit_and had.marks marks) x.marks) (some_of had g e) (within_old had.marks marks))

raised_keeps : (table : Table Given) (id marks : ℕ) → Keeps table (raised true table id marks)
raised_keeps table id marks q g e =
    elim (cases_eq q id) [
      | inl same ↦ subst (λ x. At (raised true table id marks) x g.marks) (sym same) (raised_kept table id marks (get table id) g (subst (λ x. get table x ≡ Some g) same e))
      | inr other ↦ (g, get-insert_other table id q _ other ∙ e, and_self g.marks)
    ]

raised_all_keeps : (ids : List ℕ) (table : Table Given) (marks : ℕ) → Keeps table (raised_all true table marks ids)
raised_all_keeps [] table marks q g e = keeps_self table q g e
raised_all_keeps (id ∷ ids) table marks q g e =
    let first = raised_keeps table id marks q g e in
    let rest = raised_all_keeps ids (raised true table id marks) marks q first.0 first.1 in
    (rest.0, rest.1, within_then rest.0.marks first.0.marks g.marks rest.2 first.2)

rest_at : (x id : ℕ) (ids : List ℕ) (k : ℕ) → k < length (x ∷ ids) → slice_index_or (x ∷ ids) k id ≡ id → id ≢ x → Contains ids id
rest_at x id ids zero l e other = absurd (other (sym e))
rest_at x id ids (suc k) l e other = (k, omega (arith, l), e)

-- all that is passed has the marks of the call at most
raised_all_at : (ids : List ℕ) (table : Table Given) (marks id : ℕ) → Contains ids id → At (raised_all true table marks ids) id marks
raised_all_at [] table marks id c = absurd (omega (arith, c.1))
raised_all_at (x ∷ ids) table marks id c =
    elim (cases_eq id x) [
      | inl same ↦
          let first = raised_at table x marks (get table x) refl in
          let rest = raised_all_keeps ids (raised true table x marks) marks x first.0 first.1 in
          subst (λ y. At (raised_all true (raised true table x marks) marks ids) y marks) (sym same) (rest.0, rest.1, within_then rest.0.marks first.0.marks marks rest.2 first.2)
      | inr other ↦ raised_all_at ids (raised true table x marks) marks id (rest_at x id ids c.0 c.1 c.2 other)
    ]

leaves_self : (table : Table Given) → Leaves table table
leaves_self table id later e = (later, e, refl)

lowered_by_leaves : (table : Table Given) (id n : ℕ) (had : Option Given) (less : Bool) → get table id ≡ had → option_map_or (λ g. nat_lt n g.count) had false ≡ less → Leaves table (lowered_by table id n had)
lowered_by_leaves table id n None less e l q later is = (later, is, refl)
lowered_by_leaves table id n (Some had) true e l q later is =
    elim (cases_eq q id) [
      | inl same ↦
          let at : get (insert table id (record had { count = had.count - n })) id ≡ Some later = subst (λ (x : ℕ). get (insert table id (record had { count = had.count - n })) x ≡ Some later) same (rw l at is) in
          let entry = some_of _ _ (sym (get-insert_same table id (record had { count = had.count - n })) ∙ at) in
          (had, subst (λ (x : ℕ). get table x ≡ Some had) (sym same) e, sym (ap (λ (x : Given). x.marks) entry))
      | inr other ↦ (later, sym (get-insert_other table id q (record had { count = had.count - n }) other) ∙ (rw l at is), refl)
    ]
lowered_by_leaves table id n (Some had) false e l q later is =
    elim (cases_eq q id) [
      | inl same ↦ absurd (none-some later (sym (get-remove_same table id) ∙ subst (λ (x : ℕ). get (remove table id) x ≡ Some later) same (rw l at is)))
      | inr other ↦ (later, sym (get-remove_other table id q other) ∙ (rw l at is), refl)
    ]

lowered_leaves : (table : Table Given) (id n : ℕ) → Leaves table (lowered table id n)
lowered_leaves table id n = lowered_by_leaves table id n (get table id) _ refl refl

lowered_all_leaves : (ids : List ℕ) (table : Table Given) → Leaves table (lowered_all table ids)
lowered_all_leaves [] table q later e = leaves_self table q later e
lowered_all_leaves (id ∷ ids) table q later e =
    let rest = lowered_all_leaves ids (lowered table id 1) q later e in
    let first = lowered_leaves table id 1 q rest.0 rest.1 in
    (first.0, first.1, rest.2 ∙ first.2)

lowered_if_leaves : (release : Bool) (table : Table Given) (ids : List ℕ) → Leaves table (lowered_if release table ids)
lowered_if_leaves true table ids = lowered_all_leaves ids table
lowered_if_leaves false table ids = leaves_self table

-- the end that sends a message gives more, and the other takes back
abbrev GivesMore : Side → Side → Type 0
GivesMore old new = (new.shares ≡ old.shares) × (old.shares ≡ true → Keeps old.given new.given)

abbrev TakesBack : Side → Side → Type 0
TakesBack old new = (new.shares ≡ old.shares) × Leaves old.given new.given

same_gives : (side : Side) → GivesMore side side
same_gives side = (refl, λ e. keeps_self side.given)

same_takes : (side : Side) → TakesBack side side
same_takes side = (refl, leaves_self side.given)

lent_gives : (side : Side) (call marks : ℕ) (numbers : List ℕ) (none : Bool) → (length numbers == 0) ≡ none → GivesMore side (lent side call marks numbers)
lent_gives side call marks numbers true n = rw n (same_gives side)
lent_gives side call marks numbers false n = rw n (refl, λ e. rw e (raised_all_keeps numbers side.given marks))

closed_gives : (side given : Side) (question : ℕ) (q : Option Question) → GivesMore side given → GivesMore side (closed_by given question false q)
closed_gives side given question None h = h
closed_gives side given question (Some q) h = h

results_gives : (side : Side) (question marks : ℕ) (numbers : List ℕ) (room : Bool) → has_room side (length numbers) ≡ room → GivesMore side (results_followed side question marks numbers).side
results_gives side question marks numbers true r = rw r (refl, λ e. rw e (raised_all_keeps numbers side.given marks))
results_gives side question marks numbers false r = rw r (same_gives side)

then_closed_gives : (side given : Side) (question : ℕ) (breach : Option Breach) → GivesMore side given → GivesMore side (then_closed question breach given).side
then_closed_gives side given question (Some breach) h = h
then_closed_gives side given question None h = closed_gives side given question (get given.questions question) h

return_at_gives : (side : Side) (r : Return) (marks : ℕ) (stage : QuestionStage) → GivesMore side (return_at side r marks stage).side
return_at_gives side r marks stages.Open = results_gives side r.answer_id marks (returned_numbers r.returned) _ refl
return_at_gives side r marks stages.Finished =
    let given = results_followed side r.answer_id marks (returned_numbers r.returned) in
    then_closed_gives side given.side r.answer_id given.breach (results_gives side r.answer_id marks (returned_numbers r.returned) _ refl)
return_at_gives side r marks stages.Released = closed_gives side side r.answer_id (get side.questions r.answer_id) (same_gives side)
return_at_gives side r marks stages.Returned = same_gives side

return_gives : (side : Side) (r : Return) (q : Option Question) → GivesMore side (return_by side r q).side
return_gives side r None = same_gives side
return_gives side r (Some q) = return_at_gives side r q.marks q.stage

resolve_gives : (side : Side) (promise : ℕ) (id : Option ℕ) (room : Bool) → has_room side 1 ≡ room → GivesMore side (resolve_by side promise id).side
resolve_gives side promise None room r = same_gives side
resolve_gives side promise (Some id) false r = rw r (same_gives side)
resolve_gives side promise (Some id) true r = rw r (refl, λ e. rw e (raised_keeps side.given id _))

closed_takes : (side : Side) (question : ℕ) (release : Bool) (q : Option Question) → TakesBack side (closed_by side question release q)
closed_takes side question release None = same_takes side
closed_takes side question release (Some q) = (refl, lowered_if_leaves release side.given q.numbers)

answered_takes : (side : Side) (call : ℕ) (release : Bool) (numbers : Option (List ℕ)) → TakesBack side (answered_by side call release numbers)
answered_takes side call release None = same_takes side
answered_takes side call release (Some numbers) = (refl, lowered_if_leaves release side.given numbers)

finished_at_takes : (side : Side) (f : Finish) (marks : ℕ) (stage : QuestionStage) → TakesBack side (finished_at side f marks stage)
finished_at_takes side f marks stages.Returned = closed_takes side f.question_id f.release_result_caps (get side.questions f.question_id)
finished_at_takes side f marks stages.Open = same_takes side
finished_at_takes side f marks stages.Finished = same_takes side
finished_at_takes side f marks stages.Released = same_takes side

finished_takes : (side : Side) (f : Finish) (q : Option Question) → TakesBack side (finished_by side f q)
finished_takes side f None = same_takes side
finished_takes side f (Some q) = finished_at_takes side f q.marks q.stage

-- what a message does to both
abbrev Moves : Side → Side → Between → Type 0
Moves from to b = GivesMore from b.from × TakesBack to b.to

asked_moves : (from to : Side) (question marks : ℕ) (numbers : List ℕ) (q : Option Question) (room : Bool) → (has_room to 1 && has_room from (length numbers)) ≡ room → Moves from to (asked_by from to question marks numbers q)
asked_moves from to question marks numbers (Some q) room r = (same_gives from, same_takes to)
asked_moves from to question marks numbers None true r = rw r (lent_gives from question marks numbers (length numbers == 0) refl, same_takes to)
asked_moves from to question marks numbers None false r = rw r (same_gives from, same_takes to)

answered_moves : (from to side : Side) (r : Return) (breach : Option Breach) → GivesMore from side → Moves from to (then_answered r to breach side)
answered_moves from to side r (Some breach) h = (h, same_takes to)
answered_moves from to side r None h = (h, answered_takes to r.answer_id r.release_param_caps (get to.calls r.answer_id))

moves : (grants : List Grant) (from to : Side) (m : Message) → Moves from to (followed grants from to m)
moves grants from to (messages.Call c) = asked_moves from to c.question_id (gained grants to c) (hosted_numbers c.params.cap_table) (get to.questions c.question_id) _ refl
moves grants from to (messages.Bootstrap b) = asked_moves from to b.question_id 0 [] (get to.questions b.question_id) _ refl
moves grants from to (messages.Finish f) = (same_gives from, finished_takes to f (get to.questions f.question_id))
moves grants from to (messages.Release r) = (same_gives from, (refl, lowered_leaves to.given r.id r.reference_count))
moves grants from to (messages.Return r) = let sent = return_followed from r in answered_moves from to sent.side r sent.breach (return_gives from r (get from.questions r.answer_id))
moves grants from to (messages.Resolve r) = (resolve_gives from r.promise_id (resolved_number r.resolution) (has_room from 1) refl, same_takes to)
moves grants from to (messages.Unimplemented tree) = (same_gives from, same_takes to)
moves grants from to (messages.Abort exception) = (same_gives from, same_takes to)
moves grants from to (messages.Disembargo d) = (same_gives from, same_takes to)
moves grants from to (messages.Other which body) = (same_gives from, same_takes to)

-- what was heard next, of what the caller gave
abbrev Later : Side → Side → Type 0
Later old new = (new.shares ≡ old.shares) × (old.shares ≡ true → Keeps old.given new.given ⊎ Leaves old.given new.given)

gives_later : (old new : Side) → GivesMore old new → Later old new
gives_later old new h = (h.0, λ e. inl (h.1 e))

takes_later : (old new : Side) → TakesBack old new → Later old new
takes_later old new h = (h.0, λ e. inr h.1)

later : (rules : Rules) (past : List Heard) (one : Heard) → Later (known_after rules past).references.caller (known_after rules (one ∷ past)).references.caller
later rules past second = let old = (known_after rules past).references.caller in takes_later old old (same_takes old)
later rules past (from_caller frame m) =
    let s = known_after rules past in
    let old = s.references.caller in
    elim (kept_after false rules s m) [
      | inl same ↦ subst (λ (x : References). Later old x.caller) (sym same) (takes_later old old (same_takes old))
      | inr kept ↦ subst (λ (x : References). Later old x.caller) (sym kept.1) (gives_later old (followed rules.grants.items old s.references.callee m).from (moves rules.grants.items old s.references.callee m).0)
    ]
later rules past (from_callee frame m) =
    let s = known_after rules past in
    let old = s.references.caller in
    elim (kept_after true rules s m) [
      | inl same ↦ subst (λ (x : References). Later old x.caller) (sym same) (takes_later old old (same_takes old))
      | inr kept ↦ subst (λ (x : References). Later old x.caller) (sym kept.1) (takes_later old (followed [] s.references.callee old m).to (moves [] s.references.callee old m).1)
    ]

-- the marks of what the caller gave are shared
shares : (rules : Rules) (past : List Heard) → (known_after rules past).references.caller.shares ≡ true
shares rules [] = refl
shares rules (one ∷ past) = (later rules past one).0 ∙ shares rules past

pub gains_no_mark : GainsNoMark
gains_no_mark rules past one id g new before now =
    elim ((later rules past one).1 (shares rules past)) [
      | inl keeps ↦
          let at = keeps id g before in
          subst (λ (x : Given). Within x.marks g.marks) (some_of at.0 new (sym at.1 ∙ now)) at.2
      | inr leaves ↦
          let from = leaves id new now in
          subst (λ x. Within x g.marks) (sym (from.2 ∙ ap (λ (x : Given). x.marks) (some_of from.0 g (sym from.1 ∙ before)))) (and_self g.marks)
    ]

some_numbers : (numbers : List ℕ) (id : ℕ) → Contains numbers id → (length numbers == 0) ≡ true → ⊥
some_numbers numbers id c n = let none : length numbers ≡ 0 = grind (arith, nat_tests) in omega (arith, c.1, none)

passed_at : (from to : Side) (question marks : ℕ) (numbers : List ℕ) (id : ℕ) (q : Option Question) (room none : Bool) → (has_room to 1 && has_room from (length numbers)) ≡ room → (length numbers == 0) ≡ none → from.shares ≡ true → Contains numbers id
    → (asked_by from to question marks numbers q).breach ≡ None → At (asked_by from to question marks numbers q).from.given id marks
passed_at from to question marks numbers id (Some q) room none r n e c b = absurd (none-some _ (sym b))
passed_at from to question marks numbers id None false none r n e c b = absurd (none-some _ (sym (rw r at b)))
passed_at from to question marks numbers id None true true r n e c b = absurd (some_numbers numbers id c n)
passed_at from to question marks numbers id None true false r n e c b = rw (r, n, e) (raised_all_at numbers from.given marks id c)

pub passes_marks : PassesMarks
passes_marks rules past frame call id g f w has at =
    let s = known_after rules past in
    let from = s.references.caller in
    let to = s.references.callee in
    let kept = kept_if_goes false rules s (messages.Call call) f w in
    let passed = passed_at from to call.question_id (gained rules.grants.items to call) (hosted_numbers call.params.cap_table) id (get to.questions call.question_id) _ _ refl refl (shares rules past) has kept.0 in
    subst (λ (x : Given). Within x.marks (gained rules.grants.items to call)) (some_of passed.0 g (sym passed.1 ∙ ap (λ (x : References). get x.caller.given id) (sym kept.1) ∙ at)) passed.2
