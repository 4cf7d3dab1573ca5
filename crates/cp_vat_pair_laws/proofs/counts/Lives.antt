-- Questions go on fitting their answers.
use Rattle.std.specs.Prelude.{◌≡◌, refl, ℕ, ◌⊎◌, if◌then◌else◌, Bool, true, false, List, [], ◌∷◌, ◌++◌, Option, Some, None}
use Rattle.std.proofs.Common.{inl, inr}
use Rattle.std.proofs.lemmas.List.{append-nil}
use Rattle.cp_tables.specs.declared.exchange.Stage.{Stage}
use Rattle.cp_tables.specs.declared.exchange.Stage.TheVariants as stages
use Rattle.cp_messages.specs.declared.message.Message.{Message}
use Rattle.cp_vat_machine.proofs.Basics.{some_out, none_out}
use Rattle.cp_vat_pair_laws.specs.Ledger.{named_by, opens, returns_to, finishes}
use Rattle.cp_vat_pair_laws.specs.Accounts.{Account, new_account, is_releasing, asked, given_up_at, question_finished, question_after, gone_by, given_at, answer_given, answer_after, question_returned, question_heard, return_noted, answer_finished, finish_noted, answer_heard}
use Rattle.cp_vat_pair_laws.specs.Lives.{Standing, absent, ungiven, left_ungiven, given, mistaken, standing_at, standing_of, opened, finished, stands_after, will_stand, return_of, FitsOpen, FitsFinished, FitsReturned, FitsNone, FitsAt, Fits}
use Rattle.cp_vat_pair_laws.proofs.counts.Standing.{after_by, stays_mistaken, never_fits, none_stays, finishing_leaves, finishing_ends, Ways, ways, WaysLeft, ways_left}

-- a question is asked, and given up
none_opens : (rs : List (List ℕ)) (W : Standing) → FitsNone rs W → FitsOpen rs (opened W)
none_opens [] absent h = tt
none_opens [] ungiven h = absurd h
none_opens [] left_ungiven h = absurd h
none_opens [] (given n) h = absurd h
none_opens [] mistaken h = absurd h
none_opens (r ∷ rs) W h = absurd h

asked_fits : (named : List ℕ) (Q new : Option Account) (rs : List (List ℕ)) (W : Standing) → asked named Q ≡ Some new → Fits Q rs W → Fits new rs (opened W)
asked_fits named None new rs W e h = rw (← some_out e) (none_opens rs W h)
asked_fits named (Some account) new rs W e h = none_out e

open_finishes : (rs : List (List ℕ)) (W : Standing) → FitsOpen rs W → FitsFinished rs (finished true W)
open_finishes [] ungiven h = tt
open_finishes [] absent h = absurd h
open_finishes [] left_ungiven h = absurd h
open_finishes [] (given n) h = absurd h
open_finishes [] mistaken h = absurd h
open_finishes (r ∷ []) (given n) h = tt
open_finishes (r ∷ []) absent h = absurd h
open_finishes (r ∷ []) ungiven h = absurd h
open_finishes (r ∷ []) left_ungiven h = absurd h
open_finishes (r ∷ []) mistaken h = absurd h
open_finishes (r ∷ (s ∷ rs)) W h = absurd h

returned_finishes : (rs : List (List ℕ)) (W : Standing) → FitsReturned rs W → FitsNone rs (finished false W)
returned_finishes [] (given n) h = tt
returned_finishes [] absent h = absurd h
returned_finishes [] ungiven h = absurd h
returned_finishes [] left_ungiven h = absurd h
returned_finishes [] mistaken h = absurd h
returned_finishes (r ∷ rs) W h = absurd h

finish_at : (release : Bool) (stage : Stage) (kept : List ℕ) (new : Option Account) (rs : List (List ℕ)) (W : Standing)
    → given_up_at release stage kept ≡ Some new → FitsAt stage rs W → Fits new rs (finished release W)
finish_at true stages.Open kept new rs W e h = rw (← some_out e) (open_finishes rs W h)
finish_at false stages.Returned kept new rs W e h = rw (← some_out e) (returned_finishes rs W h)
finish_at false stages.Open kept new rs W e h = none_out e
finish_at true stages.Returned kept new rs W e h = none_out e
finish_at true stages.Finished kept new rs W e h = none_out e
finish_at false stages.Finished kept new rs W e h = none_out e

finish_fits : (release : Bool) (Q new : Option Account) (rs : List (List ℕ)) (W : Standing) → question_finished release Q ≡ Some new → Fits Q rs W
    → Fits new rs (finished release W)
finish_fits release None new rs W e h = none_out e
finish_fits release (Some account) new rs W e h = finish_at release account.stage account.kept new rs W e h

asking_by : (o f release : Bool) (named : List ℕ) (Q new : Option Account) (rs : List (List ℕ)) (W : Standing)
    → (if o then asked named Q else (if f then question_finished release Q else Some Q)) ≡ Some new → Fits Q rs W → Fits new rs (after_by o f release W)
asking_by true f release named Q new rs W e h = asked_fits named Q new rs W e h
asking_by false true release named Q new rs W e h = finish_fits release Q new rs W e h
asking_by false false release named Q new rs W e h = rw (← some_out e) h

pub asking_fits : (q : ℕ) (m : Message) (Q new : Option Account) (rs : List (List ℕ)) (W : Standing) → question_after q m Q ≡ Some new → Fits Q rs W
    → Fits new rs (stands_after q m W)
asking_fits q m Q new rs W e h = asking_by (opens q m) (finishes q m) (is_releasing m) (named_by m) Q new rs W e h

-- an answer is given
ungiven_given_at : (named : List ℕ) (stage : Stage) (rs : List (List ℕ)) → FitsAt stage rs ungiven → FitsAt stage (rs ++ named ∷ []) (given named)
ungiven_given_at named stages.Open [] h = refl
ungiven_given_at named stages.Open (r ∷ []) h = absurd h
ungiven_given_at named stages.Open (r ∷ (s ∷ rs)) h = absurd h
ungiven_given_at named stages.Finished [] h = absurd h
ungiven_given_at named stages.Finished (r ∷ []) h = absurd h
ungiven_given_at named stages.Finished (r ∷ (s ∷ rs)) h = absurd h
ungiven_given_at named stages.Returned [] h = absurd h
ungiven_given_at named stages.Returned (r ∷ rs) h = absurd h

ungiven_given : (named : List ℕ) (Q : Option Account) (rs : List (List ℕ)) → Fits Q rs ungiven → Fits Q (rs ++ named ∷ []) (given named)
ungiven_given named None [] h = absurd h
ungiven_given named None (r ∷ rs) h = absurd h
ungiven_given named (Some account) rs h = ungiven_given_at named account.stage rs h

left_gone_at : (named : List ℕ) (stage : Stage) (rs : List (List ℕ)) → FitsAt stage rs left_ungiven → FitsAt stage (rs ++ named ∷ []) absent
left_gone_at named stages.Finished [] h = tt
left_gone_at named stages.Finished (r ∷ []) h = absurd h
left_gone_at named stages.Finished (r ∷ (s ∷ rs)) h = absurd h
left_gone_at named stages.Open [] h = absurd h
left_gone_at named stages.Open (r ∷ []) h = absurd h
left_gone_at named stages.Open (r ∷ (s ∷ rs)) h = absurd h
left_gone_at named stages.Returned [] h = absurd h
left_gone_at named stages.Returned (r ∷ rs) h = absurd h

left_gone : (named : List ℕ) (Q : Option Account) (rs : List (List ℕ)) → Fits Q rs left_ungiven → Fits Q (rs ++ named ∷ []) absent
left_gone named None [] h = absurd h
left_gone named None (r ∷ rs) h = absurd h
left_gone named (Some account) rs h = left_gone_at named account.stage rs h

giving_by : (q : ℕ) (ms : List Message) (named : List ℕ) (Q : Option Account) (rs : List (List ℕ)) → Ways q ms → Fits Q rs (will_stand q ms ungiven)
    → Fits Q (rs ++ named ∷ []) (will_stand q ms (given named))
giving_by q ms named Q rs (inl none) h =
    rw (none_stays q ms (given named) none) (ungiven_given named Q rs (rw (← none_stays q ms ungiven none) h))
giving_by q ms named Q rs (inr (inl f)) h = rw (finishing_ends q ms named f) (left_gone named Q rs (rw (← finishing_leaves q ms f) h))
giving_by q ms named Q rs (inr (inr wrong)) h = absurd (never_fits Q rs (rw (← wrong) h))

leaving_by : (q : ℕ) (ms : List Message) (named : List ℕ) (Q : Option Account) (rs : List (List ℕ)) → WaysLeft q ms → Fits Q rs (will_stand q ms left_ungiven)
    → Fits Q (rs ++ named ∷ []) (will_stand q ms absent)
leaving_by q ms named Q rs (inl none) h = rw (none_stays q ms absent none) (left_gone named Q rs (rw (← none_stays q ms left_ungiven none) h))
leaving_by q ms named Q rs (inr wrong) h = absurd (never_fits Q rs (rw (← wrong) h))

gone_fits : (q : ℕ) (ms : List Message) (named : List ℕ) (new Q : Option Account) (rs : List (List ℕ)) → gone_by named ≡ Some new
    → Fits Q rs (will_stand q ms left_ungiven) → Fits Q (rs ++ named ∷ []) (will_stand q ms (standing_of new))
gone_fits q ms [] new Q rs e h = rw (← some_out e) (leaving_by q ms [] Q rs (ways_left q ms) h)
gone_fits q ms (n ∷ named) new Q rs e h = none_out e

given_fits_at : (q : ℕ) (ms : List Message) (named : List ℕ) (stage : Stage) (kept : List ℕ) (new Q : Option Account) (rs : List (List ℕ))
    → given_at named stage ≡ Some new → Fits Q rs (will_stand q ms (standing_at stage kept)) → Fits Q (rs ++ named ∷ []) (will_stand q ms (standing_of new))
given_fits_at q ms named stages.Open kept new Q rs e h = rw (← some_out e) (giving_by q ms named Q rs (ways q ms) h)
given_fits_at q ms named stages.Finished kept new Q rs e h = gone_fits q ms named new Q rs e h
given_fits_at q ms named stages.Returned kept new Q rs e h = none_out e

given_fits : (q : ℕ) (ms : List Message) (named : List ℕ) (A new Q : Option Account) (rs : List (List ℕ)) → answer_given named A ≡ Some new
    → Fits Q rs (will_stand q ms (standing_of A)) → Fits Q (rs ++ named ∷ []) (will_stand q ms (standing_of new))
given_fits q ms named None new Q rs e h = none_out e
given_fits q ms named (Some account) new Q rs e h = given_fits_at q ms named account.stage account.kept new Q rs e h

answering_by : (b : Bool) (q : ℕ) (ms : List Message) (named : List ℕ) (A new Q : Option Account) (rs : List (List ℕ))
    → (if b then answer_given named A else Some A) ≡ Some new → Fits Q rs (will_stand q ms (standing_of A))
    → Fits Q (rs ++ (if b then (named ∷ []) else [])) (will_stand q ms (standing_of new))
answering_by true q ms named A new Q rs e h = given_fits q ms named A new Q rs e h
answering_by false q ms named A new Q rs e h = rw (append-nil rs, ← some_out e) h

pub answering_fits : (q : ℕ) (m : Message) (ms : List Message) (A new Q : Option Account) (rs : List (List ℕ)) → answer_after q m A ≡ Some new
    → Fits Q rs (will_stand q ms (standing_of A)) → Fits Q (rs ++ return_of q m) (will_stand q ms (standing_of new))
answering_fits q m ms A new Q rs e h = answering_by (returns_to q m) q ms (named_by m) A new Q rs e h

-- a Return comes
open_returns : (named : List ℕ) (rs : List (List ℕ)) (W : Standing) → FitsOpen (named ∷ rs) W → FitsReturned rs W
open_returns named [] (given n) h = tt
open_returns named [] absent h = absurd h
open_returns named [] ungiven h = absurd h
open_returns named [] left_ungiven h = absurd h
open_returns named [] mistaken h = absurd h
open_returns named (r ∷ rs) W h = absurd h

finished_returns : (named : List ℕ) (rs : List (List ℕ)) (W : Standing) → FitsFinished (named ∷ rs) W → FitsNone rs W
finished_returns named [] absent h = tt
finished_returns named [] ungiven h = absurd h
finished_returns named [] left_ungiven h = absurd h
finished_returns named [] (given n) h = absurd h
finished_returns named [] mistaken h = absurd h
finished_returns named (r ∷ rs) W h = absurd h

returning_at : (stage : Stage) (kept named : List ℕ) (rs : List (List ℕ)) (W : Standing) → FitsAt stage (named ∷ rs) W → Fits (return_noted stage kept) rs W
returning_at stages.Open kept named rs W h = open_returns named rs W h
returning_at stages.Finished kept named rs W h = finished_returns named rs W h
returning_at stages.Returned kept named rs W h = absurd h

returning : (Q : Option Account) (named : List ℕ) (rs : List (List ℕ)) (W : Standing) → Fits Q (named ∷ rs) W → Fits (question_returned Q) rs W
returning None named rs W h = absurd h
returning (Some account) named rs W h = returning_at account.stage account.kept named rs W h

returning_by : (b : Bool) (Q : Option Account) (named : List ℕ) (rs : List (List ℕ)) (W : Standing) → Fits Q ((if b then (named ∷ []) else []) ++ rs) W
    → Fits (if b then question_returned Q else Q) rs W
returning_by true Q named rs W h = returning Q named rs W h
returning_by false Q named rs W h = h

pub returning_fits : (q : ℕ) (m : Message) (Q : Option Account) (rs : List (List ℕ)) (W : Standing) → Fits Q (return_of q m ++ rs) W → Fits (question_heard q m Q) rs W
returning_fits q m Q rs W h = returning_by (returns_to q m) Q (named_by m) rs W h

-- an opening or a Finish comes
abbrev heard_by : Bool → Bool → Option Account → Option Account
heard_by o f A = if o then Some (new_account []) else (if f then answer_finished A else A)

finish_heard : (release : Bool) (stage : Stage) (kept : List ℕ)
    → (finished release (standing_at stage kept) ≡ standing_of (finish_noted stage kept)) ⊎ (finished release (standing_at stage kept) ≡ mistaken)
finish_heard true stages.Open kept = inl refl
finish_heard false stages.Open kept = inr refl
finish_heard true stages.Finished kept = inr refl
finish_heard false stages.Finished kept = inr refl
finish_heard true stages.Returned kept = inl refl
finish_heard false stages.Returned kept = inl refl

abbrev Heard : Bool → Bool → Bool → Option Account → Type 0
Heard o f release A = (after_by o f release (standing_of A) ≡ standing_of (heard_by o f A)) ⊎ (after_by o f release (standing_of A) ≡ mistaken)

opened_heard : (stage : Stage) (kept : List ℕ) → opened (standing_at stage kept) ≡ mistaken
opened_heard stages.Open kept = refl
opened_heard stages.Finished kept = refl
opened_heard stages.Returned kept = refl

none_finished : (release : Bool) → finished release absent ≡ mistaken
none_finished true = refl
none_finished false = refl

heard : (o f release : Bool) (A : Option Account) → Heard o f release A
heard true f release None = inl refl
heard true f release (Some account) = inr (opened_heard account.stage account.kept)
heard false true release None = inr (none_finished release)
heard false true release (Some account) = finish_heard release account.stage account.kept
heard false false release A = inl refl

hearing_by : (q : ℕ) (o f release : Bool) (ms : List Message) (A Q : Option Account) (rs : List (List ℕ)) → Heard o f release A
    → Fits Q rs (will_stand q ms (after_by o f release (standing_of A))) → Fits Q rs (will_stand q ms (standing_of (heard_by o f A)))
hearing_by q o f release ms A Q rs (inl e) h = rw (← e) h
hearing_by q o f release ms A Q rs (inr e) h = absurd (never_fits Q rs (rw (← stays_mistaken q ms, ← e) h))

pub hearing_fits : (q : ℕ) (m : Message) (ms : List Message) (A Q : Option Account) (rs : List (List ℕ))
    → Fits Q rs (will_stand q ms (stands_after q m (standing_of A))) → Fits Q rs (will_stand q ms (standing_of (answer_heard q m A)))
hearing_fits q m ms A Q rs h = hearing_by q (opens q m) (finishes q m) (is_releasing m) ms A Q rs (heard (opens q m) (finishes q m) (is_releasing m) A) h
