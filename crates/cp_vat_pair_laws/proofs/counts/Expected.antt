-- The messages on the way are expected.
use Rattle.std.specs.Prelude.{◌≡◌, refl, ℕ, ◌≤◌, ◌==◌, if◌then◌else◌, Bool, true, false, List, [], ◌∷◌, ◌++◌, Option, Some, None}
use Rattle.std.proofs.Common.{arith, ap, sym, true≢false}
use Rattle.cp_tables.specs.declared.exchange.Stage.{Stage}
use Rattle.cp_tables.specs.declared.exchange.Stage.TheVariants as stages
use Rattle.cp_messages.specs.declared.message.Message.{Message}
use Rattle.cp_messages.specs.declared.message.Message.TheVariants as messages
use Rattle.cp_vat_machine.proofs.Basics.{is_itself}
use Rattle.cp_vat_pair_laws.specs.Ledger.{named_by}
use Rattle.cp_vat_pair_laws.specs.Accounts.{Account, Accounts, accounts_of, lowerable, lowered_by}
use Rattle.cp_vat_pair_laws.specs.Owed.{named_on_way, lowered_on_way}
use Rattle.cp_vat_pair_laws.specs.VatPair.{VatPair, Side, at_first, at_second, across, end_of, AreQuiet}
use Rattle.cp_vat_pair_laws.specs.Lives.{Standing, absent, mistaken, standing_at, standing_of, opened, finished, will_stand, returns_of, FitsAt, FitsNone, Fits, Agree, AreOwed}
use Rattle.cp_vat_pair_laws.specs.Expected.{HoldsAlways, LowersFit, HeldIsThere, HeldIsAll, stage_of, StagesMatch, IsNotReturned, IsAwaited, IsNotFinished, IsKept, IsExpected, NextIsExpected, AllIsExpected}
use Rattle.cp_vat_pair_laws.proofs.counts.Standing.{after_by, stays_mistaken, never_fits}
use Rattle.cp_vat_pair_laws.proofs.counts.Moves.{Holds, holds_of, agree_back}

abbrev is_nothing : {A : Type 0} → List A → Bool
is_nothing [] = true
is_nothing (x ∷ xs) = false

not_none : {A B : Type 0} {x : A} {xs : List A} → x ∷ xs ≡ [] → B
not_none e = absurd (true≢false (sym (ap is_nothing e)))

-- a question to which a Return comes
waits_at : (stage : Stage) (named : List ℕ) (rs : List (List ℕ)) (W : Standing) → FitsAt stage (named ∷ rs) W → IsNotReturned stage
waits_at stages.Open named rs W h = tt
waits_at stages.Finished named rs W h = tt
waits_at stages.Returned named rs W h = h

waits_for : (Q : Option Account) (named : List ℕ) (rs : List (List ℕ)) (W : Standing) → Fits Q (named ∷ rs) W → IsAwaited Q
waits_for None named rs W h = h
waits_for (Some account) named rs W h = waits_at account.stage named rs W h

first_return : (b : Bool) (Q : Option Account) (named : List ℕ) (rs : List (List ℕ)) (W : Standing) → b ≡ true
    → Fits Q ((if b then (named ∷ []) else []) ++ rs) W → IsAwaited Q
first_return true Q named rs W t h = waits_for Q named rs W h
first_return false Q named rs W t h = absurd (true≢false (sym t))

-- an answer that is opened, or finished
mistaken_not : (q : ℕ) (ms : List Message) (Q : Option Account) (rs : List (List ℕ)) → Fits Q rs (will_stand q ms mistaken) → ⊥
mistaken_not q ms Q rs h = never_fits Q rs (rw (← stays_mistaken q ms) h)

opened_at : (q : ℕ) (ms : List Message) (stage : Stage) (kept : List ℕ) (Q : Option Account) (rs : List (List ℕ))
    → Fits Q rs (will_stand q ms (opened (standing_at stage kept))) → ⊥
opened_at q ms stages.Open kept Q rs h = mistaken_not q ms Q rs h
opened_at q ms stages.Finished kept Q rs h = mistaken_not q ms Q rs h
opened_at q ms stages.Returned kept Q rs h = mistaken_not q ms Q rs h

opens_none : (q : ℕ) (ms : List Message) (A Q : Option Account) (rs : List (List ℕ)) → Fits Q rs (will_stand q ms (opened (standing_of A))) → A ≡ None
opens_none q ms None Q rs h = refl
opens_none q ms (Some account) Q rs h = absurd (opened_at q ms account.stage account.kept Q rs h)

first_opens : (b f release : Bool) (q : ℕ) (ms : List Message) (A Q : Option Account) (rs : List (List ℕ)) → b ≡ true
    → Fits Q rs (will_stand q ms (after_by b f release (standing_of A))) → A ≡ None
first_opens true f release q ms A Q rs t h = opens_none q ms A Q rs h
first_opens false f release q ms A Q rs t h = absurd (true≢false (sym t))

finished_not : (q : ℕ) (ms : List Message) (release : Bool) (kept : List ℕ) (Q : Option Account) (rs : List (List ℕ))
    → Fits Q rs (will_stand q ms (finished release (standing_at stages.Finished kept))) → ⊥
finished_not q ms true kept Q rs h = mistaken_not q ms Q rs h
finished_not q ms false kept Q rs h = mistaken_not q ms Q rs h

kept_at : (q : ℕ) (ms : List Message) (release : Bool) (stage : Stage) (kept : List ℕ) (Q : Option Account) (rs : List (List ℕ))
    → Fits Q rs (will_stand q ms (finished release (standing_at stage kept))) → IsNotFinished stage
kept_at q ms release stages.Open kept Q rs h = tt
kept_at q ms release stages.Returned kept Q rs h = tt
kept_at q ms release stages.Finished kept Q rs h = finished_not q ms release kept Q rs h

absent_not : (q : ℕ) (ms : List Message) (release : Bool) (Q : Option Account) (rs : List (List ℕ)) → Fits Q rs (will_stand q ms (finished release absent)) → ⊥
absent_not q ms true Q rs h = mistaken_not q ms Q rs h
absent_not q ms false Q rs h = mistaken_not q ms Q rs h

finishes_kept : (q : ℕ) (ms : List Message) (release : Bool) (A Q : Option Account) (rs : List (List ℕ))
    → Fits Q rs (will_stand q ms (finished release (standing_of A))) → IsKept A
finishes_kept q ms release None Q rs h = absent_not q ms release Q rs h
finishes_kept q ms release (Some account) Q rs h = kept_at q ms release account.stage account.kept Q rs h

first_finishes : (f release : Bool) (q : ℕ) (ms : List Message) (A Q : Option Account) (rs : List (List ℕ)) → f ≡ true
    → Fits Q rs (will_stand q ms (after_by false f release (standing_of A))) → IsKept A
first_finishes true release q ms A Q rs t h = finishes_kept q ms release A Q rs h
first_finishes false release q ms A Q rs t h = absurd (true≢false (sym t))

-- the first message on the way
expected_by : (m : Message) (one other : Accounts) (to_one to_other : List Message) → Agree one (m ∷ to_one) other to_other → IsExpected one m
expected_by (messages.Call c) one other to_one to_other agree =
    first_opens (c.question_id == c.question_id) false false c.question_id to_one (one.answers c.question_id) (other.questions c.question_id)
    (returns_of c.question_id to_other) (is_itself c.question_id) (agree.lives_back c.question_id)
expected_by (messages.Bootstrap b) one other to_one to_other agree =
    first_opens (b.question_id == b.question_id) false false b.question_id to_one (one.answers b.question_id) (other.questions b.question_id)
    (returns_of b.question_id to_other) (is_itself b.question_id) (agree.lives_back b.question_id)
expected_by (messages.Return r) one other to_one to_other agree =
    first_return (r.answer_id == r.answer_id) (one.questions r.answer_id) (named_by (messages.Return r)) (returns_of r.answer_id to_one)
    (will_stand r.answer_id to_other (standing_of (other.answers r.answer_id))) (is_itself r.answer_id) (agree.lives r.answer_id)
expected_by (messages.Finish f) one other to_one to_other agree =
    first_finishes (f.question_id == f.question_id) f.release_result_caps f.question_id to_one (one.answers f.question_id) (other.questions f.question_id)
    (returns_of f.question_id to_other) (is_itself f.question_id) (agree.lives_back f.question_id)
expected_by (messages.Unimplemented t) one other to_one to_other agree = tt
expected_by (messages.Abort x) one other to_one to_other agree = tt
expected_by (messages.Resolve r) one other to_one to_other agree = tt
expected_by (messages.Release r) one other to_one to_other agree = tt
expected_by (messages.Disembargo d) one other to_one to_other agree = tt
expected_by (messages.Other which body) one other to_one to_other agree = tt

first_fits : (m : Message) (one other : Accounts) (to_one to_other : List Message) (e : ℕ) → AreOwed other to_other one (m ∷ to_one)
    → lowered_by (lowerable one) m e ≤ one.exports e
first_fits m one other to_one to_other e owed = omega (arith, owed e)

all_fit : (one other : Accounts) (to_one to_other : List Message) (e : ℕ) → AreOwed other to_other one to_one → lowered_on_way (lowerable one) to_one e ≤ one.exports e
all_fit one other to_one to_other e owed = omega (arith, owed e)

held_there : (one other : Accounts) (to_one to_other : List Message) (e : ℕ) → AreOwed other to_other one to_one → other.imports e ≤ one.exports e
held_there one other to_one to_other e owed = omega (arith, owed e)

held_all : (one other : Accounts) (to_one to_other : List Message) (e : ℕ) → to_one ≡ [] → to_other ≡ [] → AreOwed other to_other one to_one
    → one.exports e ≡ other.imports e
held_all one other to_one to_other e none none_back owed =
    let here : lowered_on_way (lowerable one) to_one e ≡ 0 = rw (none) refl in
    let there : named_on_way other.questions to_other e ≡ 0 = rw (none_back) refl in
    omega (arith, owed e, here, there)

-- a question and its answer, with no message on the way
same_stage : (stage other : Stage) (kept : List ℕ) → FitsAt stage [] (standing_at other kept) → ◌≡◌ {A = Option Stage} (Some stage) (Some other)
same_stage stages.Open stages.Open kept h = refl
same_stage stages.Open stages.Finished kept h = absurd h
same_stage stages.Open stages.Returned kept h = absurd h
same_stage stages.Finished stages.Open kept h = absurd h
same_stage stages.Finished stages.Finished kept h = refl
same_stage stages.Finished stages.Returned kept h = absurd h
same_stage stages.Returned stages.Open kept h = absurd h
same_stage stages.Returned stages.Finished kept h = absurd h
same_stage stages.Returned stages.Returned kept h = refl

none_alone : (stage : Stage) → FitsAt stage [] absent → ⊥
none_alone stages.Open h = h
none_alone stages.Finished h = h
none_alone stages.Returned h = h

none_too : (stage : Stage) (kept : List ℕ) → FitsNone [] (standing_at stage kept) → ⊥
none_too stages.Open kept h = h
none_too stages.Finished kept h = h
none_too stages.Returned kept h = h

stages_same : (Q A : Option Account) → Fits Q [] (standing_of A) → stage_of Q ≡ stage_of A
stages_same None None h = refl
stages_same None (Some answer) h = absurd (none_too answer.stage answer.kept h)
stages_same (Some question) None h = absurd (none_alone question.stage h)
stages_same (Some question) (Some answer) h = same_stage question.stage answer.stage answer.kept h

stages_at : (one other : Accounts) (to_one to_other : List Message) (q : ℕ) → to_one ≡ [] → to_other ≡ [] → Agree one to_one other to_other
    → stage_of (one.questions q) ≡ stage_of (other.answers q)
stages_at one other to_one to_other q none none_back agree = stages_same (one.questions q) (other.answers q) (by to_one to_other none none_back (agree.lives q))
  where
    by : (ms more : List Message) → ms ≡ [] → more ≡ [] → Fits (one.questions q) (returns_of q ms) (will_stand q more (standing_of (other.answers q)))
        → Fits (one.questions q) [] (standing_of (other.answers q))
    by [] [] e f h = h
    by [] (m ∷ more) e f h = not_none f
    by (m ∷ ms) more e f h = not_none e

-- from either side
abbrev pub own : VatPair → Side → Accounts
own w side = accounts_of (end_of w side).vat

abbrev pub AgreeAt : VatPair → Side → Type 0
AgreeAt w side = Agree (own w side) (end_of w side).inbox (own w (across side)) (end_of w (across side)).inbox

agree_at : (w : VatPair) (side : Side) → Holds w → AgreeAt w side
agree_at w at_first holds = holds.agreed
agree_at w at_second holds = agree_back holds.agreed

pub always_at : (Holding : VatPair → Type 0) → ((w : VatPair) → ((side : Side) → AgreeAt w side) → Holding w) → HoldsAlways Holding
always_at Holding by one other moves made open_ = by _ (λ side. agree_at _ side (holds_of one other moves made open_))

abbrev pub NextAgrees : VatPair → Side → Message → List Message → Type 0
NextAgrees w side m rest = Agree (own w side) (m ∷ rest) (own w (across side)) (end_of w (across side)).inbox

pub next_by : (w : VatPair) (side : Side) (m : Message) (rest : List Message) → NextAgrees w side m rest → NextIsExpected w side m
next_by w side m rest agree =
    record {
      expected = expected_by m (own w side) (own w (across side)) rest (end_of w (across side)).inbox agree;
      fits = λ e. first_fits m (own w side) (own w (across side)) rest (end_of w (across side)).inbox e agree.counts;
    }

next_expected : (w : VatPair) (side : Side) (m : Message) (rest : List Message) → (end_of w side).inbox ≡ m ∷ rest → AgreeAt w side → NextIsExpected w side m
next_expected w side m rest is agree = next_by w side m rest (rw is at agree)

pub lowers_fit : HoldsAlways LowersFit
lowers_fit = always_at LowersFit (λ w agree side e. all_fit (own w side) (own w (across side)) (end_of w side).inbox (end_of w (across side)).inbox e (agree side).counts)

pub held_is_there : HoldsAlways HeldIsThere
held_is_there = always_at HeldIsThere (λ w agree side e. held_there (own w side) (own w (across side)) (end_of w side).inbox (end_of w (across side)).inbox e (agree side).counts)

quiet_at : (w : VatPair) (side : Side) → AreQuiet w → ((end_of w side).inbox ≡ []) × ((end_of w (across side)).inbox ≡ [])
quiet_at w at_first quiet = quiet
quiet_at w at_second quiet = (quiet.1, quiet.0)

pub held_is_all : HoldsAlways HeldIsAll
held_is_all = always_at HeldIsAll (λ w agree quiet side e. held_all (own w side) (own w (across side)) (end_of w side).inbox (end_of w (across side)).inbox e (quiet_at w side quiet).0 (quiet_at w side quiet).1 (agree side).counts)

pub stages_match : HoldsAlways StagesMatch
stages_match =
    always_at StagesMatch (λ w agree quiet side q. stages_at (own w side) (own w (across side)) (end_of w side).inbox (end_of w (across side)).inbox q
    (quiet_at w side quiet).0 (quiet_at w side quiet).1 (agree side))

pub all_is_expected : HoldsAlways AllIsExpected
all_is_expected = always_at AllIsExpected (λ w agree side m rest is. next_expected w side m rest is (agree side))
