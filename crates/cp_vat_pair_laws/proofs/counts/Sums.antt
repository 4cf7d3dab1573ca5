-- Sums over messages on the way.
use Rattle.std.specs.Prelude.{◌≡◌, refl, ℕ, ◌+◌, ◌==◌, if◌then◌else◌, Bool, true, false, List, [], ◌∷◌, ◌++◌, Option}
use Rattle.std.proofs.Common.{arith, sym, true≢false}
use Rattle.cp_messages.specs.declared.message.Message.{Message}
use Rattle.cp_messages.specs.declared.message.Message.TheVariants as messages
use Rattle.cp_vat_machine.specs.Receiving.{times}
use Rattle.cp_vat_machine.specs.Give.{returned_mentions}
use Rattle.cp_vat_machine.proofs.Basics.{is_equal}
use Rattle.cp_vat_pair_laws.specs.Ledger.{finishes}
use Rattle.cp_vat_pair_laws.specs.Accounts.{Account, is_given_up, taken_in, Lowerable, lowered_by, lowerable_after, is_releasing}
use Rattle.cp_vat_pair_laws.specs.Owed.{named_on_way, lowered_on_way}
use Rattle.cp_vat_pair_laws.specs.Lives.{IsUsual, AreUsual, return_of, returns_of}
use Rattle.cp_vat_pair_laws.proofs.counts.Standing.{NoneAbout, Finishing, now, later}

-- one message more
pub named_more : (Q : ℕ → Option Account) (ms : List Message) (m : Message) (i : ℕ)
    → named_on_way Q (ms ++ m ∷ []) i ≡ named_on_way Q ms i + times i (taken_in Q m)
named_more Q [] m i = omega arith
named_more Q (x ∷ ms) m i = omega (arith, named_more Q ms m i)

abbrev pub lists_after : List Message → Lowerable → Lowerable
lists_after [] lists = lists
lists_after (m ∷ ms) lists = lists_after ms (lowerable_after m lists)

pub lowered_more : (lists : Lowerable) (ms : List Message) (m : Message) (e : ℕ)
    → lowered_on_way lists (ms ++ m ∷ []) e ≡ lowered_on_way lists ms e + lowered_by (lists_after ms lists) m e
lowered_more lists [] m e = omega arith
lowered_more lists (x ∷ ms) m e = omega (arith, lowered_more (lowerable_after x lists) ms m e)

-- the same results
abbrev pub Alike : Lowerable → Lowerable → Type 0
Alike lists other = (a : ℕ) → other.results a ≡ lists.results a

alike_by : (m : Message) (lists other : Lowerable) (e : ℕ) → IsUsual m → Alike lists other → lowered_by other m e ≡ lowered_by lists m e
alike_by (messages.Return r) lists other e usual alike = rw (usual.1.0) refl
alike_by (messages.Finish f) lists other e usual alike = rw (alike f.question_id) refl
alike_by m lists other e usual alike = refl

after_same : (b : Bool) (x y : List ℕ) → x ≡ y → (if b then [] else x) ≡ (if b then [] else y)
after_same true x y e = refl
after_same false x y e = e

alike_after : (m : Message) (lists other : Lowerable) → Alike lists other → Alike (lowerable_after m lists) (lowerable_after m other)
alike_after m lists other alike a = after_same (finishes a m) _ _ (alike a)

pub lowered_alike : (ms : List Message) (lists other : Lowerable) (e : ℕ) → AreUsual ms → Alike lists other
    → lowered_on_way other ms e ≡ lowered_on_way lists ms e
lowered_alike [] lists other e usual alike = refl
lowered_alike (m ∷ ms) lists other e usual alike =
    omega (
      arith,
      alike_by m lists other e usual.0 alike,
      lowered_alike ms (lowerable_after m lists) (lowerable_after m other) e usual.1 (alike_after m lists other alike),
    )

-- the same results but for one answer, which named nothing before
pub record Apart (q : ℕ) (named : List ℕ) (lists other : Lowerable) : Type 0 where
  pub before : lists.results q ≡ []
  pub after : other.results q ≡ named
  pub others : (a : ℕ) → (a == q) ≡ false → other.results a ≡ lists.results a

apart_by : (q : ℕ) (named : List ℕ) (m : Message) (lists other : Lowerable) (e : ℕ) → IsUsual m → finishes q m ≡ false → Apart q named lists other
    → lowered_by other m e ≡ lowered_by lists m e
apart_by q named (messages.Return r) lists other e usual f apart = rw (usual.1.0) refl
apart_by q named (messages.Finish x) lists other e usual f apart = rw (apart.others x.question_id f) refl
apart_by q named m lists other e usual f apart = refl

apart_after : (q : ℕ) (named : List ℕ) (m : Message) (lists other : Lowerable) → finishes q m ≡ false → Apart q named lists other
    → Apart q named (lowerable_after m lists) (lowerable_after m other)
apart_after q named m lists other f apart =
    record {
      before = rw (f) apart.before;
      after = rw (f) apart.after;
      others = λ a n. after_same (finishes a m) _ _ (apart.others a n);
    }

pub lowered_none : (q : ℕ) (named : List ℕ) (ms : List Message) (lists other : Lowerable) (e : ℕ) → AreUsual ms → NoneAbout q ms → Apart q named lists other
    → lowered_on_way other ms e ≡ lowered_on_way lists ms e
lowered_none q named [] lists other e usual none apart = refl
lowered_none q named (m ∷ ms) lists other e usual none apart =
    omega (
      arith,
      apart_by q named m lists other e usual.0 none.0.1 apart,
      lowered_none q named ms (lowerable_after m lists) (lowerable_after m other) e usual.1 none.1 (apart_after q named m lists other none.0.1 apart),
    )

-- what a Finish of that answer lowers
finish_lowers : (q : ℕ) (named : List ℕ) (m : Message) (lists other : Lowerable) (e : ℕ) → finishes q m ≡ true → is_releasing m ≡ true → Apart q named lists other
    → lowered_by other m e ≡ lowered_by lists m e + times e named
finish_lowers q named (messages.Finish f) lists other e is release apart =
    rw (release, is_equal f.question_id q is, apart.before, apart.after) (omega arith)
finish_lowers q named m lists other e is release apart = absurd (true≢false (sym is))

alike_from : (q : ℕ) (named : List ℕ) (m : Message) (lists other : Lowerable) (a : ℕ) (b : Bool) → (a == q) ≡ b → finishes q m ≡ true → Apart q named lists other
    → (lowerable_after m other).results a ≡ (lowerable_after m lists).results a
alike_from q named m lists other a true t is apart = rw (is_equal a q t, is) refl
alike_from q named m lists other a false t is apart = after_same (finishes a m) _ _ (apart.others a t)

pub lowered_finishing : (q : ℕ) (named : List ℕ) (ms : List Message) (lists other : Lowerable) (e : ℕ) → AreUsual ms → Finishing q ms → Apart q named lists other
    → lowered_on_way other ms e ≡ lowered_on_way lists ms e + times e named
lowered_finishing q named all lists other e usual (now m ms eo ef er none) apart =
    omega (
      arith,
      finish_lowers q named m lists other e ef er apart,
      lowered_alike ms (lowerable_after m lists) (lowerable_after m other) e usual.1 (λ a. alike_from q named m lists other a (a == q) refl ef apart),
    )
lowered_finishing q named all lists other e usual (later m ms eo ef rest) apart =
    omega (
      arith,
      apart_by q named m lists other e usual.0 ef apart,
      lowered_finishing q named ms (lowerable_after m lists) (lowerable_after m other) e usual.1 rest (apart_after q named m lists other ef apart),
    )

-- how often Returns on the way name an import
abbrev pub total : ℕ → List (List ℕ) → ℕ
total e [] = 0
total e (named ∷ more) = times e named + total e more

-- the same questions are given up
abbrev pub GivenUpAlike : (ℕ → Option Account) → (ℕ → Option Account) → Type 0
GivenUpAlike Q other = (p : ℕ) → is_given_up (other p) ≡ is_given_up (Q p)

taken_alike : (m : Message) (Q other : ℕ → Option Account) (i : ℕ) → GivenUpAlike Q other → times i (taken_in other m) ≡ times i (taken_in Q m)
taken_alike (messages.Return r) Q other i alike = rw (alike r.answer_id) refl
taken_alike m Q other i alike = refl

pub named_alike : (ms : List Message) (Q other : ℕ → Option Account) (i : ℕ) → GivenUpAlike Q other → named_on_way other ms i ≡ named_on_way Q ms i
named_alike [] Q other i alike = refl
named_alike (m ∷ ms) Q other i alike = omega (arith, taken_alike m Q other i alike, named_alike ms Q other i alike)

-- the same but for one question, which was given up
pub record GivesUp (q : ℕ) (Q other : ℕ → Option Account) : Type 0 where
  pub before : is_given_up (Q q) ≡ false
  pub after : is_given_up (other q) ≡ true
  pub others : (p : ℕ) → (p == q) ≡ false → is_given_up (other p) ≡ is_given_up (Q p)

return_by : (q a : ℕ) (named : List ℕ) (Q other : ℕ → Option Account) (i : ℕ) (b : Bool) → (a == q) ≡ b → GivesUp q Q other
    → times i (if is_given_up (Q a) then [] else named) ≡ times i (if is_given_up (other a) then [] else named) + total i (if b then (named ∷ []) else [])
return_by q a named Q other i true t up = rw (is_equal a q t, up.before, up.after) (omega arith)
return_by q a named Q other i false t up = rw (up.others a t) (omega arith)

taken_up : (q : ℕ) (m : Message) (Q other : ℕ → Option Account) (i : ℕ) → GivesUp q Q other
    → times i (taken_in Q m) ≡ times i (taken_in other m) + total i (return_of q m)
taken_up q (messages.Return r) Q other i up = return_by q r.answer_id (returned_mentions r.returned) Q other i (r.answer_id == q) refl up
taken_up q m Q other i up = omega arith

pub total_append : (i : ℕ) (rs more : List (List ℕ)) → total i (rs ++ more) ≡ total i rs + total i more
total_append i [] more = omega arith
total_append i (r ∷ rs) more = omega (arith, total_append i rs more)

pub named_up : (q : ℕ) (ms : List Message) (Q other : ℕ → Option Account) (i : ℕ) → GivesUp q Q other
    → named_on_way Q ms i ≡ named_on_way other ms i + total i (returns_of q ms)
named_up q [] Q other i up = omega arith
named_up q (m ∷ ms) Q other i up =
    omega (arith, taken_up q m Q other i up, named_up q ms Q other i up, total_append i (return_of q m) (returns_of q ms))
