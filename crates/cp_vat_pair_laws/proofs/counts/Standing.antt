-- How answers will stand when messages came.
use Rattle.std.specs.Prelude.{◌≡◌, refl, ℕ, ◌⊎◌, if◌then◌else◌, Bool, true, false, List, [], ◌∷◌, ◌++◌, Option, Some, None}
use Rattle.std.proofs.Common.{inl, inr}
use Rattle.std.specs.List.{AllByRecursion}
use Rattle.cp_tables.specs.declared.exchange.Stage.{Stage}
use Rattle.cp_tables.specs.declared.exchange.Stage.TheVariants as stages
use Rattle.cp_messages.specs.declared.message.Message.{Message}
use Rattle.cp_vat_pair_laws.specs.Ledger.{opens, finishes}
use Rattle.cp_vat_pair_laws.specs.Accounts.{Account, is_releasing}
use Rattle.cp_vat_pair_laws.specs.Lives.{Standing, absent, ungiven, left_ungiven, given, mistaken, opened, finished, stands_after, will_stand, FitsAt, Fits}

pub will_append : (q : ℕ) (ms more : List Message) (st : Standing) → will_stand q (ms ++ more) st ≡ will_stand q more (will_stand q ms st)
will_append q [] more st = refl
will_append q (m ∷ ms) more st = will_append q ms more (stands_after q m st)

-- what a message does, by whether it opens, finishes and releases
abbrev pub after_by : Bool → Bool → Bool → Standing → Standing
after_by opens finishes release st = if opens then opened st else (if finishes then finished release st else st)

mistaken_after : (o f r : Bool) → after_by o f r mistaken ≡ mistaken
mistaken_after true f r = refl
mistaken_after false true true = refl
mistaken_after false true false = refl
mistaken_after false false r = refl

pub stays_mistaken : (q : ℕ) (ms : List Message) → will_stand q ms mistaken ≡ mistaken
stays_mistaken q [] = refl
stays_mistaken q (m ∷ ms) = rw (mistaken_after (opens q m) (finishes q m) (is_releasing m)) (stays_mistaken q ms)

-- nothing fits what is mistaken
mistaken_at : (stage : Stage) (returns : List (List ℕ)) → FitsAt stage returns mistaken → ⊥
mistaken_at stages.Open [] h = h
mistaken_at stages.Open (n ∷ []) h = h
mistaken_at stages.Open (n ∷ (m ∷ rs)) h = h
mistaken_at stages.Finished [] h = h
mistaken_at stages.Finished (n ∷ []) h = h
mistaken_at stages.Finished (n ∷ (m ∷ rs)) h = h
mistaken_at stages.Returned [] h = h
mistaken_at stages.Returned (n ∷ rs) h = h

pub never_fits : (question : Option Account) (returns : List (List ℕ)) → Fits question returns mistaken → ⊥
never_fits None [] h = h
never_fits None (n ∷ rs) h = h
never_fits (Some account) returns h = mistaken_at account.stage returns h

-- no message opens or finishes an answer of this number
abbrev pub NoneAbout : ℕ → List Message → Type 0
NoneAbout q ms = AllByRecursion (λ m. (opens q m ≡ false) × (finishes q m ≡ false)) ms

-- then it stays as it is
pub none_stays : (q : ℕ) (ms : List Message) (st : Standing) → NoneAbout q ms → will_stand q ms st ≡ st
none_stays q [] st none = refl
none_stays q (m ∷ ms) st none = rw (none.0.0, none.0.1) (none_stays q ms st none.1)

-- one message finishes it by true, and no other is about it
pub data Finishing (q : ℕ) : List Message → Type 0 where
  now : (m : Message) (ms : List Message) → opens q m ≡ false → finishes q m ≡ true → is_releasing m ≡ true → NoneAbout q ms → Finishing q (m ∷ ms)
  later : (m : Message) (ms : List Message) → opens q m ≡ false → finishes q m ≡ false → Finishing q ms → Finishing q (m ∷ ms)

-- What an answer that isn't given meets on the way: nothing, one Finish by true, or what is mistaken.
abbrev pub Ways : ℕ → List Message → Type 0
Ways q ms = NoneAbout q ms ⊎ (Finishing q ms ⊎ (will_stand q ms ungiven ≡ mistaken))

-- what one that was finished meets: nothing, or what is mistaken
abbrev pub WaysLeft : ℕ → List Message → Type 0
WaysLeft q ms = NoneAbout q ms ⊎ (will_stand q ms left_ungiven ≡ mistaken)

ways_left_by : (q : ℕ) (m : Message) (ms : List Message) (o f r : Bool) → opens q m ≡ o → finishes q m ≡ f → is_releasing m ≡ r → WaysLeft q ms → WaysLeft q (m ∷ ms)
ways_left_by q m ms true f r eo ef er rest = inr (rw (eo) (stays_mistaken q ms))
ways_left_by q m ms false true true eo ef er rest = inr (rw (eo, ef, er) (stays_mistaken q ms))
ways_left_by q m ms false true false eo ef er rest = inr (rw (eo, ef, er) (stays_mistaken q ms))
ways_left_by q m ms false false r eo ef er (inl none) = inl ((eo, ef), none)
ways_left_by q m ms false false r eo ef er (inr wrong) = inr (rw (eo, ef) wrong)

pub ways_left : (q : ℕ) (ms : List Message) → WaysLeft q ms
ways_left q [] = inl tt
ways_left q (m ∷ ms) = ways_left_by q m ms (opens q m) (finishes q m) (is_releasing m) refl refl refl (ways_left q ms)

finishing_or : (q : ℕ) (m : Message) (ms : List Message) → opens q m ≡ false → finishes q m ≡ true → is_releasing m ≡ true → WaysLeft q ms → Ways q (m ∷ ms)
finishing_or q m ms eo ef er (inl none) = inr (inl (now m ms eo ef er none))
finishing_or q m ms eo ef er (inr wrong) = inr (inr (rw (eo, ef, er) wrong))

ways_by : (q : ℕ) (m : Message) (ms : List Message) (o f r : Bool) → opens q m ≡ o → finishes q m ≡ f → is_releasing m ≡ r → Ways q ms → Ways q (m ∷ ms)
ways_by q m ms true f r eo ef er rest = inr (inr (rw (eo) (stays_mistaken q ms)))
ways_by q m ms false true true eo ef er rest = finishing_or q m ms eo ef er (ways_left q ms)
ways_by q m ms false true false eo ef er rest = inr (inr (rw (eo, ef, er) (stays_mistaken q ms)))
ways_by q m ms false false r eo ef er (inl none) = inl ((eo, ef), none)
ways_by q m ms false false r eo ef er (inr (inl finishing)) = inr (inl (later m ms eo ef finishing))
ways_by q m ms false false r eo ef er (inr (inr wrong)) = inr (inr (rw (eo, ef) wrong))

pub ways : (q : ℕ) (ms : List Message) → Ways q ms
ways q [] = inl tt
ways q (m ∷ ms) = ways_by q m ms (opens q m) (finishes q m) (is_releasing m) refl refl refl (ways q ms)

pub finishing_leaves : (q : ℕ) (ms : List Message) → Finishing q ms → will_stand q ms ungiven ≡ left_ungiven
finishing_leaves q all (now m ms eo ef er none) = rw (eo, ef, er) (none_stays q ms left_ungiven none)
finishing_leaves q all (later m ms eo ef rest) = rw (eo, ef) (finishing_leaves q ms rest)

pub finishing_ends : (q : ℕ) (ms : List Message) (named : List ℕ) → Finishing q ms → will_stand q ms (given named) ≡ absent
finishing_ends q all named (now m ms eo ef er none) = rw (eo, ef, er) (none_stays q ms absent none)
finishing_ends q all named (later m ms eo ef rest) = rw (eo, ef) (finishing_ends q ms named rest)
