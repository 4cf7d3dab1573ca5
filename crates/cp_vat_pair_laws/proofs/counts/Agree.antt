-- Two vats go on agreeing.
use Rattle.std.specs.Prelude.{◌≡◌, refl, ℕ, ◌+◌, ◌==◌, if◌then◌else◌, Bool, true, false, List, [], ◌∷◌, ◌++◌, Option, Some, None}
use Rattle.std.proofs.Common.{inl, inr, arith, ap, sym, ◌∙◌, true≢false}
use Rattle.std.proofs.lemmas.Grind.{flat_map-append}
use Rattle.std.proofs.lemmas.List.{append-nil}
use Rattle.cp_tables.specs.declared.exchange.Stage.{Stage}
use Rattle.cp_tables.specs.declared.exchange.Stage.TheVariants as stages
use Rattle.cp_messages.specs.declared.message.Message.{Message}
use Rattle.cp_messages.specs.declared.message.Message.TheVariants as messages
use Rattle.cp_vat_machine.specs.Receiving.{times}
use Rattle.cp_vat_machine.specs.Give.{returned_mentions}
use Rattle.cp_vat_machine.proofs.Basics.{some_out, none_out, is_equal, is_itself, other_number}
use Rattle.cp_vat_pair_laws.specs.Ledger.{named_by, opens, finishes, given_up}
use Rattle.cp_vat_pair_laws.specs.Accounts.{Account, Accounts, new_account, is_finish_noted, is_given_up, taken_in, results_at, results_in, Lowerable, lowerable, lowered_by, lowerable_after, is_releasing, asked, given_up_at, question_finished, question_after, gone_by, given_at, answer_given, answer_after, Sent, return_noted, question_returned, question_heard, finish_noted, answer_finished, Came}
use Rattle.cp_vat_pair_laws.specs.Owed.{named_on_way, lowered_on_way}
use Rattle.cp_vat_pair_laws.specs.Lives.{IsUsual, AreUsual, Standing, absent, ungiven, left_ungiven, given, mistaken, standing_at, standing_of, opened, finished, stands_after, will_stand, return_of, returns_of, FitsOpen, FitsAt, Fits, LivesFit, AreOwed, Agree, Keeps}
use Rattle.cp_vat_pair_laws.proofs.counts.Standing.{after_by, will_append, stays_mistaken, never_fits, none_stays, finishing_leaves, Ways, ways}
use Rattle.cp_vat_pair_laws.proofs.counts.Lives.{asking_fits, answering_fits, returning_fits, hearing_fits}
use Rattle.cp_vat_pair_laws.proofs.counts.Sums.{named_more, lists_after, lowered_more, Alike, lowered_alike, Apart, lowered_none, lowered_finishing, total, named_alike, named_up}

usual_more : (ms : List Message) (m : Message) → AreUsual ms → IsUsual m → AreUsual (ms ++ m ∷ [])
usual_more [] m all one = (one, tt)
usual_more (x ∷ ms) m all one = (all.0, usual_more ms m all.1 one)

returns_more : (q : ℕ) (ms : List Message) (m : Message) → returns_of q (ms ++ m ∷ []) ≡ returns_of q ms ++ return_of q m
returns_more q ms m = flat_map-append (return_of q) ms (m ∷ []) ∙ ap (λ r. returns_of q ms ++ r) (append-nil (return_of q m))

-- Results after messages on the way are those of an answer that was given and will be so, and none else.
abbrev Matches : List ℕ → Standing → Type 0
Matches results (given named) = results ≡ named
Matches results mistaken = Unit {0}
Matches results other = results ≡ []

matches_at : (stage : Stage) (kept : List ℕ) → Matches (results_at stage kept) (standing_at stage kept)
matches_at stages.Open kept = refl
matches_at stages.Finished kept = refl
matches_at stages.Returned kept = refl

matches_first : (A : Option Account) → Matches (results_in A) (standing_of A)
matches_first None = refl
matches_first (Some account) = matches_at account.stage account.kept

matches_opened : (f : Bool) (results : List ℕ) (st : Standing) → Matches results st → Matches (if f then [] else results) (opened st)
matches_opened true results absent h = refl
matches_opened false results absent h = h
matches_opened f results ungiven h = tt
matches_opened f results left_ungiven h = tt
matches_opened f results (given n) h = tt
matches_opened f results mistaken h = tt

matches_finished : (release : Bool) (results : List ℕ) (st : Standing) → Matches [] (finished release st)
matches_finished true results ungiven = refl
matches_finished false results ungiven = tt
matches_finished true results (given n) = refl
matches_finished false results (given n) = refl
matches_finished true results absent = tt
matches_finished false results absent = tt
matches_finished true results left_ungiven = tt
matches_finished false results left_ungiven = tt
matches_finished true results mistaken = tt
matches_finished false results mistaken = tt

matches_step : (o f release : Bool) (results : List ℕ) (st : Standing) → Matches results st → Matches (if f then [] else results) (after_by o f release st)
matches_step true f release results st h = matches_opened f results st h
matches_step false true release results st h = matches_finished release results st
matches_step false false release results st h = h

matches_after : (q : ℕ) (ms : List Message) (lists : Lowerable) (st : Standing) → Matches (lists.results q) st
    → Matches ((lists_after ms lists).results q) (will_stand q ms st)
matches_after q [] lists st h = h
matches_after q (m ∷ ms) lists st h =
    matches_after q ms (lowerable_after m lists) (stands_after q m st) (matches_step (opens q m) (finishes q m) (is_releasing m) (lists.results q) st h)

-- A message that isn't a Finish gives no question up, and what the Return of an open answer names was counted.
asked_alike : (named : List ℕ) (Q new : Option Account) → asked named Q ≡ Some new → is_given_up new ≡ is_given_up Q
asked_alike named None new e = rw (← some_out e) refl
asked_alike named (Some account) new e = none_out e

question_alike : (o f release : Bool) (named : List ℕ) (Q new : Option Account) → f ≡ false
    → (if o then asked named Q else (if f then question_finished release Q else Some Q)) ≡ Some new → is_given_up new ≡ is_given_up Q
question_alike true f release named Q new none e = asked_alike named Q new e
question_alike false true release named Q new none e = absurd (true≢false none)
question_alike false false release named Q new none e = rw (← some_out e) refl

unfinished_alike : (p : ℕ) (m : Message) (Q new : Option Account) → finishes p m ≡ false → question_after p m Q ≡ Some new → is_given_up new ≡ is_given_up Q
unfinished_alike p m Q new none e = question_alike (opens p m) (finishes p m) (is_releasing m) (named_by m) Q new none e

-- What the one sends the other: the other's exports are owed as before.
open_fits : (e : ℕ) (rs : List (List ℕ)) (W : Standing) (results : List ℕ) → FitsOpen rs W → Matches results W → times e results ≡ total e rs
open_fits e [] ungiven results h m = rw (m) refl
open_fits e [] absent results h m = absurd h
open_fits e [] left_ungiven results h m = absurd h
open_fits e [] (given n) results h m = absurd h
open_fits e [] mistaken results h m = absurd h
open_fits e (r ∷ []) (given n) results h m = rw (m, ← h) (omega arith)
open_fits e (r ∷ []) absent results h m = absurd h
open_fits e (r ∷ []) ungiven results h m = absurd h
open_fits e (r ∷ []) left_ungiven results h m = absurd h
open_fits e (r ∷ []) mistaken results h m = absurd h
open_fits e (r ∷ (s ∷ rs)) W results h m = absurd h

alike_all : (q p : ℕ) (b : Bool) (Q new : ℕ → Option Account) → (p == q) ≡ b → is_given_up (new q) ≡ is_given_up (Q q)
    → ((p : ℕ) → (p == q) ≡ false → is_given_up (new p) ≡ is_given_up (Q p)) → is_given_up (new p) ≡ is_given_up (Q p)
alike_all q p true Q new t here others = rw (is_equal p q t) here
alike_all q p false Q new t here others = others p t

finish_owed_at : (q : ℕ) (release : Bool) (stage : Stage) (kept : List ℕ) (Q new : ℕ → Option Account) (ms : List Message) (results : List ℕ) (W : Standing) (e : ℕ)
    → Q q ≡ Some (record { stage = stage; kept = kept }) → given_up_at release stage kept ≡ Some (new q)
    → ((p : ℕ) → (p == q) ≡ false → is_given_up (new p) ≡ is_given_up (Q p)) → FitsAt stage (returns_of q ms) W → Matches results W
    → named_on_way new ms e + (if release then times e results else 0) ≡ named_on_way Q ms e
finish_owed_at q true stages.Open kept Q new ms results W e was up others h m =
    omega (
      arith,
      open_fits e (returns_of q ms) W results h m,
      named_up q ms Q new e (record { before = rw (was) refl; after = rw (← some_out up) refl; others = others }),
    )
finish_owed_at q false stages.Returned kept Q new ms results W e was up others h m =
    omega (arith, named_alike ms Q new e (λ p. alike_all q p (p == q) Q new refl (rw (was, ← some_out up) refl) others))
finish_owed_at q false stages.Open kept Q new ms results W e was up others h m = none_out up
finish_owed_at q true stages.Returned kept Q new ms results W e was up others h m = none_out up
finish_owed_at q true stages.Finished kept Q new ms results W e was up others h m = none_out up
finish_owed_at q false stages.Finished kept Q new ms results W e was up others h m = none_out up

finish_owed : (q : ℕ) (release : Bool) (x : Option Account) (Q new : ℕ → Option Account) (ms : List Message) (results : List ℕ) (W : Standing) (e : ℕ)
    → Q q ≡ x → question_finished release x ≡ Some (new q)
    → ((p : ℕ) → (p == q) ≡ false → is_given_up (new p) ≡ is_given_up (Q p)) → Fits x (returns_of q ms) W → Matches results W
    → named_on_way new ms e + (if release then times e results else 0) ≡ named_on_way Q ms e
finish_owed q release None Q new ms results W e was up others h m = none_out up
finish_owed q release (Some account) Q new ms results W e was up others h m =
    finish_owed_at q release account.stage account.kept Q new ms results W e was up others h m

-- the question under the number of its Finish
finish_at_own : (b : Bool) (release : Bool) (Q new : Option Account) → b ≡ true → (if b then question_finished release Q else Some Q) ≡ Some new
    → question_finished release Q ≡ Some new
finish_at_own true release Q new t e = e
finish_at_own false release Q new t e = absurd (true≢false (sym t))

sent_owed_back : (m : Message) (Q new : ℕ → Option Account) (A : ℕ → Option Account) (lists : Lowerable) (to_one to_other : List Message) (e : ℕ) → IsUsual m
    → ((a : ℕ) → lists.results a ≡ results_in (A a)) → ((q : ℕ) → question_after q m (Q q) ≡ Some (new q))
    → ((q : ℕ) → Fits (Q q) (returns_of q to_one) (will_stand q to_other (standing_of (A q))))
    → named_on_way new to_one e + lowered_by (lists_after to_other lists) m e ≡ named_on_way Q to_one e + given_up m e
sent_owed_back (messages.Finish f) Q new A lists to_one to_other e usual results step lives =
    let q = f.question_id in
    let fits : Matches ((lists_after to_other lists).results q) (will_stand q to_other (standing_of (A q)))
    = matches_after q to_other lists (standing_of (A q)) (rw (results q) (matches_first (A q))) in
    let owed
    : named_on_way new to_one e + (if f.release_result_caps then times e ((lists_after to_other lists).results q) else 0) ≡ named_on_way Q to_one e
    = finish_owed q f.release_result_caps (Q q) Q new to_one ((lists_after to_other lists).results q) (will_stand q to_other (standing_of (A q))) e refl
    (finish_at_own (f.question_id == q) f.release_result_caps (Q q) (new q) (is_itself q) (step q))
    (λ p n. unfinished_alike p (messages.Finish f) (Q p) (new p) (other_number p q n) (step p)) (lives q) fits in
    omega (arith, owed)
sent_owed_back (messages.Return r) Q new A lists to_one to_other e usual results step lives =
    rw (usual.1.0) (omega (arith, named_alike to_one Q new e (λ p. unfinished_alike p (messages.Return r) (Q p) (new p) refl (step p))))
sent_owed_back (messages.Unimplemented t) Q new A lists to_one to_other e usual results step lives = absurd usual.1
sent_owed_back m Q new A lists to_one to_other e usual results step lives =
    omega (arith, named_alike to_one Q new e (λ p. unfinished_alike p m (Q p) (new p) refl (step p)))

-- What the one sends the other: its own exports are owed as before.
ungiven_open : (Q : Option Account) (rs : List (List ℕ)) → Fits Q rs ungiven → is_given_up Q ≡ false
ungiven_open None rs h = refl
ungiven_open (Some account) rs h = at account.stage rs h
  where
    at : (stage : Stage) (rs : List (List ℕ)) → FitsAt stage rs ungiven → is_finish_noted stage ≡ false
    at stages.Open rs h = refl
    at stages.Returned rs h = refl
    at stages.Finished [] h = absurd h
    at stages.Finished (r ∷ []) h = absurd h
    at stages.Finished (r ∷ (s ∷ rs)) h = absurd h

left_given_up : (Q : Option Account) (rs : List (List ℕ)) → Fits Q rs left_ungiven → is_given_up Q ≡ true
left_given_up None [] h = absurd h
left_given_up None (r ∷ rs) h = absurd h
left_given_up (Some account) rs h = at account.stage rs h
  where
    at : (stage : Stage) (rs : List (List ℕ)) → FitsAt stage rs left_ungiven → is_finish_noted stage ≡ true
    at stages.Finished rs h = refl
    at stages.Open [] h = absurd h
    at stages.Open (r ∷ []) h = absurd h
    at stages.Open (r ∷ (s ∷ rs)) h = absurd h
    at stages.Returned [] h = absurd h
    at stages.Returned (r ∷ rs) h = absurd h

nothing_named : (b : Bool) (e : ℕ) → times e (if b then [] else []) ≡ 0
nothing_named true e = refl
nothing_named false e = refl

-- the Return of an answer that wasn't finished
given_owed : (q : ℕ) (named : List ℕ) (Q : Option Account) (rs : List (List ℕ)) (ms : List Message) (lists other : Lowerable) (e : ℕ) → AreUsual ms
    → Apart q named lists other → Ways q ms → Fits Q rs (will_stand q ms ungiven)
    → lowered_on_way other ms e + times e (if is_given_up Q then [] else named) ≡ lowered_on_way lists ms e + times e named
given_owed q named Q rs ms lists other e usual apart (inl none) h =
    rw (ungiven_open Q rs (rw (← none_stays q ms ungiven none) h)) (omega (arith, lowered_none q named ms lists other e usual none apart))
given_owed q named Q rs ms lists other e usual apart (inr (inl f)) h =
    rw (left_given_up Q rs (rw (← finishing_leaves q ms f) h)) (omega (arith, lowered_finishing q named ms lists other e usual f apart))
given_owed q named Q rs ms lists other e usual apart (inr (inr wrong)) h = absurd (never_fits Q rs (rw (← wrong) h))

-- that of one that was
gone_owed : (named : List ℕ) (Q new : Option Account) (ms : List Message) (lists other : Lowerable) (e : ℕ) → AreUsual ms → gone_by named ≡ Some new
    → (results_in new ≡ [] → Alike lists other)
    → lowered_on_way other ms e + times e (if is_given_up Q then [] else named) ≡ lowered_on_way lists ms e + times e named
gone_owed [] Q new ms lists other e usual is alike =
    omega (arith, nothing_named (is_given_up Q) e, lowered_alike ms lists other e usual (alike (rw (← some_out is) refl)))
gone_owed (n ∷ named) Q new ms lists other e usual is alike = none_out is

alike_but : (q a : ℕ) (b : Bool) (lists other : Lowerable) → (a == q) ≡ b → other.results q ≡ lists.results q
    → ((a : ℕ) → (a == q) ≡ false → other.results a ≡ lists.results a) → other.results a ≡ lists.results a
alike_but q a true lists other t here others = rw (is_equal a q t) here
alike_but q a false lists other t here others = others a t

return_owed_at : (q : ℕ) (named : List ℕ) (stage : Stage) (kept : List ℕ) (new Q : Option Account) (rs : List (List ℕ)) (ms : List Message) (lists other : Lowerable) (e : ℕ)
    → AreUsual ms → given_at named stage ≡ Some new → lists.results q ≡ results_at stage kept → other.results q ≡ results_in new
    → ((a : ℕ) → (a == q) ≡ false → other.results a ≡ lists.results a) → Fits Q rs (will_stand q ms (standing_at stage kept))
    → lowered_on_way other ms e + times e (if is_given_up Q then [] else named) ≡ lowered_on_way lists ms e + times e named
return_owed_at q named stages.Open kept new Q rs ms lists other e usual is was now others h =
    given_owed q named Q rs ms lists other e usual (record { before = was; after = rw (now, ← some_out is) refl; others = others }) (ways q ms) h
return_owed_at q named stages.Finished kept new Q rs ms lists other e usual is was now others h =
    gone_owed named Q new ms lists other e usual is (λ none a. alike_but q a (a == q) lists other refl (rw (now, none, was) refl) others)
return_owed_at q named stages.Returned kept new Q rs ms lists other e usual is was now others h = none_out is

return_owed : (q : ℕ) (named : List ℕ) (A new Q : Option Account) (rs : List (List ℕ)) (ms : List Message) (lists other : Lowerable) (e : ℕ)
    → AreUsual ms → answer_given named A ≡ Some new → lists.results q ≡ results_in A → other.results q ≡ results_in new
    → ((a : ℕ) → (a == q) ≡ false → other.results a ≡ lists.results a) → Fits Q rs (will_stand q ms (standing_of A))
    → lowered_on_way other ms e + times e (if is_given_up Q then [] else named) ≡ lowered_on_way lists ms e + times e named
return_owed q named None new Q rs ms lists other e usual is was now others h = none_out is
return_owed q named (Some account) new Q rs ms lists other e usual is was now others h =
    return_owed_at q named account.stage account.kept new Q rs ms lists other e usual is was now others h

given_at_own : (b : Bool) (named : List ℕ) (A new : Option Account) → b ≡ true → (if b then answer_given named A else Some A) ≡ Some new
    → answer_given named A ≡ Some new
given_at_own true named A new t e = e
given_at_own false named A new t e = absurd (true≢false (sym t))

same_at_other : (b : Bool) (named : List ℕ) (A new : Option Account) → b ≡ false → (if b then answer_given named A else Some A) ≡ Some new
    → results_in new ≡ results_in A
same_at_other false named A new t e = rw (← some_out e) refl
same_at_other true named A new t e = absurd (true≢false t)

sent_owed : (m : Message) (Q : ℕ → Option Account) (A new : ℕ → Option Account) (lists other : Lowerable) (to_one to_other : List Message) (e : ℕ) → AreUsual to_one
    → ((a : ℕ) → lists.results a ≡ results_in (A a)) → ((a : ℕ) → other.results a ≡ results_in (new a)) → ((a : ℕ) → answer_after a m (A a) ≡ Some (new a))
    → ((q : ℕ) → Fits (Q q) (returns_of q to_other) (will_stand q to_one (standing_of (A q))))
    → lowered_on_way other to_one e + times e (taken_in Q m) ≡ lowered_on_way lists to_one e + times e (named_by m)
sent_owed (messages.Return r) Q A new lists other to_one to_other e usual was now step lives =
    let q = r.answer_id in
    return_owed q (returned_mentions r.returned) (A q) (new q) (Q q) (returns_of q to_other) to_one lists other e usual
    (given_at_own (r.answer_id == q) (returned_mentions r.returned) (A q) (new q) (is_itself q) (step q)) (was q) (now q)
    (λ a n. now a ∙ same_at_other (q == a) (returned_mentions r.returned) (A a) (new a) (other_number a q n) (step a) ∙ sym (was a)) (lives q)
sent_owed m Q A new lists other to_one to_other e usual was now step lives =
    omega (arith, lowered_alike to_one lists other e usual (λ a. now a ∙ ap results_in (sym (some_out (step a))) ∙ sym (was a)))

sent_counts : (one new other : Accounts) (to_one to_other : List Message) (m : Message) → Agree one to_one other to_other → Sent one m new
    → AreOwed other (to_other ++ m ∷ []) new to_one
sent_counts one new other to_one to_other m agree step e =
    omega (
      arith,
      step.exports e,
      agree.counts e,
      named_more other.questions to_other m e,
      sent_owed m other.questions one.answers new.answers (lowerable one) (lowerable new) to_one to_other e agree.usual (λ a. refl) (λ a. refl) step.answers agree.lives_back,
    )

sent_counts_back : (one new other : Accounts) (to_one to_other : List Message) (m : Message) → Agree one to_one other to_other → IsUsual m → Sent one m new
    → AreOwed new to_one other (to_other ++ m ∷ [])
sent_counts_back one new other to_one to_other m agree usual step e =
    omega (
      arith,
      step.imports e,
      agree.counts_back e,
      lowered_more (lowerable other) to_other m e,
      sent_owed_back m one.questions new.questions other.answers (lowerable other) to_one to_other e usual (λ a. refl) step.questions agree.lives,
    )

sent_lives : (one new other : Accounts) (to_one to_other : List Message) (m : Message) → Agree one to_one other to_other → Sent one m new
    → LivesFit new to_one other (to_other ++ m ∷ [])
sent_lives one new other to_one to_other m agree step q =
    rw
    (will_append q to_other (m ∷ []) (standing_of (other.answers q)))
    (asking_fits q m (one.questions q) (new.questions q) (returns_of q to_one) (will_stand q to_other (standing_of (other.answers q))) (step.questions q) (agree.lives q))

sent_lives_back : (one new other : Accounts) (to_one to_other : List Message) (m : Message) → Agree one to_one other to_other → Sent one m new
    → LivesFit other (to_other ++ m ∷ []) new to_one
sent_lives_back one new other to_one to_other m agree step q =
    rw
    (returns_more q to_other m)
    (answering_fits q m to_one (one.answers q) (new.answers q) (other.questions q) (returns_of q to_other) (step.answers q) (agree.lives_back q))

sent_keeps : {one new other : Accounts} {to_one to_other : List Message} {m : Message} → Agree one to_one other to_other → IsUsual m → Sent one m new
    → Agree new to_one other (to_other ++ m ∷ [])
sent_keeps {one} {new} {other} {to_one} {to_other} {m} agree usual step =
    record {
      usual = agree.usual;
      usual_back = usual_more to_other m agree.usual_back usual;
      lives = sent_lives one new other to_one to_other m agree step;
      lives_back = sent_lives_back one new other to_one to_other m agree step;
      counts = sent_counts one new other to_one to_other m agree step;
      counts_back = sent_counts_back one new other to_one to_other m agree usual step;
    }

-- What comes to the one lowers its exports as it was to, and no result that is left is lowered otherwise.
opened_none : (q : ℕ) (A : Option Account) (ms : List Message) (Q : Option Account) (rs : List (List ℕ)) → Fits Q rs (will_stand q ms (opened (standing_of A)))
    → results_in A ≡ []
opened_none q None ms Q rs h = refl
opened_none q (Some account) ms Q rs h = at account.stage account.kept h
  where
    at : (stage : Stage) (kept : List ℕ) → Fits Q rs (will_stand q ms (opened (standing_at stage kept))) → results_at stage kept ≡ []
    at stages.Open kept h = refl
    at stages.Finished kept h = refl
    at stages.Returned kept h = absurd (never_fits Q rs (rw (← stays_mistaken q ms) h))

finished_results : (A : Option Account) → results_in (answer_finished A) ≡ []
finished_results None = refl
finished_results (Some account) = at account.stage account.kept
  where
    at : (stage : Stage) (kept : List ℕ) → results_in (finish_noted stage kept) ≡ []
    at stages.Open kept = refl
    at stages.Finished kept = refl
    at stages.Returned kept = refl

heard_results : (q : ℕ) (o f release : Bool) (A Q : Option Account) (ms : List Message) (rs : List (List ℕ))
    → Fits Q rs (will_stand q ms (after_by o f release (standing_of A)))
    → results_in (if o then Some (new_account []) else (if f then answer_finished A else A)) ≡ (if f then [] else results_in A)
heard_results q true true release A Q ms rs h = refl
heard_results q true false release A Q ms rs h = sym (opened_none q A ms Q rs h)
heard_results q false true release A Q ms rs h = finished_results A
heard_results q false false release A Q ms rs h = refl

came_counts : (one new other : Accounts) (to_one to_other : List Message) (m : Message) → Agree one (m ∷ to_one) other to_other → Came one m new
    → AreOwed other to_other new to_one
came_counts one new other to_one to_other m agree step e =
    let same : lowered_on_way (lowerable new) to_one e ≡ lowered_on_way (lowerable_after m (lowerable one)) to_one e
    = lowered_alike to_one (lowerable_after m (lowerable one)) (lowerable new) e agree.usual.1
    (λ a.
    ap results_in (step.answers a)
    ∙ heard_results a (opens a m) (finishes a m) (is_releasing m) (one.answers a) (other.questions a) to_one (returns_of a to_other) (agree.lives_back a)) in
    omega (arith, step.exports e, agree.counts e, same)

-- No other Return of a question is on the way after one that comes.
none_after : (i : ℕ) (stage : Stage) (named : List ℕ) (rs : List (List ℕ)) (W : Standing) → FitsAt stage (named ∷ rs) W → total i rs ≡ 0
none_after i stage named [] W h = refl
none_after i stages.Open named (r ∷ rs) W h = absurd h
none_after i stages.Finished named (r ∷ rs) W h = absurd h
none_after i stages.Returned named (r ∷ rs) W h = absurd h

-- what came gives up no question, and one that was given up is gone
other_heard : (b : Bool) (Q : Option Account) → b ≡ false → is_given_up (if b then question_returned Q else Q) ≡ is_given_up Q
other_heard false Q t = refl
other_heard true Q t = absurd (true≢false t)

own_heard : (b : Bool) (Q : Option Account) → b ≡ true → is_given_up (if b then question_returned Q else Q) ≡ is_given_up (question_returned Q)
own_heard true Q t = refl
own_heard false Q t = absurd (true≢false (sym t))

return_named_at : (q i : ℕ) (named : List ℕ) (stage : Stage) (kept : List ℕ) (Q new : ℕ → Option Account) (ms : List Message) (W : Standing)
    → Q q ≡ Some (record { stage = stage; kept = kept }) → is_given_up (new q) ≡ is_given_up (return_noted stage kept)
    → ((p : ℕ) → (p == q) ≡ false → is_given_up (new p) ≡ is_given_up (Q p)) → FitsAt stage (named ∷ returns_of q ms) W
    → named_on_way new ms i ≡ named_on_way Q ms i
return_named_at q i named stages.Open kept Q new ms W was now others h =
    named_alike ms Q new i (λ p. alike_all q p (p == q) Q new refl (rw (was, now) refl) others)
return_named_at q i named stages.Returned kept Q new ms W was now others h = absurd h
return_named_at q i named stages.Finished kept Q new ms W was now others h =
    omega (
      arith,
      named_up q ms new Q i (record { before = now; after = rw (was) refl; others = λ p n. sym (others p n) }),
      none_after i stages.Finished named (returns_of q ms) W h,
    )

return_named : (q i : ℕ) (named : List ℕ) (x : Option Account) (Q new : ℕ → Option Account) (ms : List Message) (W : Standing) → Q q ≡ x
    → is_given_up (new q) ≡ is_given_up (question_returned x) → ((p : ℕ) → (p == q) ≡ false → is_given_up (new p) ≡ is_given_up (Q p))
    → Fits x (named ∷ returns_of q ms) W → named_on_way new ms i ≡ named_on_way Q ms i
return_named q i named None Q new ms W was now others h = absurd h
return_named q i named (Some account) Q new ms W was now others h =
    return_named_at q i named account.stage account.kept Q new ms W was now others h

first_return : (b : Bool) (Q : Option Account) (named : List ℕ) (rs : List (List ℕ)) (W : Standing) → b ≡ true → Fits Q ((if b then (named ∷ []) else []) ++ rs) W
    → Fits Q (named ∷ rs) W
first_return true Q named rs W t h = h
first_return false Q named rs W t h = absurd (true≢false (sym t))

came_named : (m : Message) (Q new : ℕ → Option Account) (ms : List Message) (W : ℕ → Standing) (i : ℕ) → ((q : ℕ) → new q ≡ question_heard q m (Q q))
    → ((q : ℕ) → Fits (Q q) (return_of q m ++ returns_of q ms) (W q)) → named_on_way new ms i ≡ named_on_way Q ms i
came_named (messages.Return r) Q new ms W i step lives =
    let q = r.answer_id in
    return_named q i (returned_mentions r.returned) (Q q) Q new ms (W q) refl
    (ap is_given_up (step q) ∙ own_heard (r.answer_id == q) (Q q) (is_itself q))
    (λ p n. ap is_given_up (step p) ∙ other_heard (q == p) (Q p) (other_number p q n))
    (first_return (r.answer_id == q) (Q q) (returned_mentions r.returned) (returns_of q ms) (W q) (is_itself q) (lives q))
came_named m Q new ms W i step lives = named_alike ms Q new i (λ p. ap is_given_up (step p))

came_counts_back : (one new other : Accounts) (to_one to_other : List Message) (m : Message) → Agree one (m ∷ to_one) other to_other → Came one m new
    → AreOwed new to_one other to_other
came_counts_back one new other to_one to_other m agree step e =
    omega (
      arith,
      step.imports e,
      agree.counts_back e,
      came_named m one.questions new.questions to_one (λ q. will_stand q to_other (standing_of (other.answers q))) e step.questions agree.lives,
    )

came_lives : (one new other : Accounts) (to_one to_other : List Message) (m : Message) → Agree one (m ∷ to_one) other to_other → Came one m new
    → LivesFit new to_one other to_other
came_lives one new other to_one to_other m agree step q =
    rw
    (step.questions q)
    (returning_fits q m (one.questions q) (returns_of q to_one) (will_stand q to_other (standing_of (other.answers q))) (agree.lives q))

came_lives_back : (one new other : Accounts) (to_one to_other : List Message) (m : Message) → Agree one (m ∷ to_one) other to_other → Came one m new
    → LivesFit other to_other new to_one
came_lives_back one new other to_one to_other m agree step q =
    rw (step.answers q) (hearing_fits q m to_one (one.answers q) (other.questions q) (returns_of q to_other) (agree.lives_back q))

came_keeps : {one new other : Accounts} {to_one to_other : List Message} {m : Message} → Agree one (m ∷ to_one) other to_other → Came one m new
    → Agree new to_one other to_other
came_keeps {one} {new} {other} {to_one} {to_other} {m} agree step =
    record {
      usual = agree.usual.1;
      usual_back = agree.usual_back;
      lives = came_lives one new other to_one to_other m agree step;
      lives_back = came_lives_back one new other to_one to_other m agree step;
      counts = came_counts one new other to_one to_other m agree step;
      counts_back = came_counts_back one new other to_one to_other m agree step;
    }

pub keeps : Keeps
keeps = record { sent = sent_keeps; came = came_keeps }
