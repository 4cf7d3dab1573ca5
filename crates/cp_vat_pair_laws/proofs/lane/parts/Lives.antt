-- What the lives of questions and answers say of the messages on the way.
use Rattle.std.specs.Prelude.{◌≡◌, refl, ℕ, ◌||◌, Bool, true, false, List, [], ◌∷◌, Some, None}
use Rattle.std.specs.List.{list_any}
use Rattle.std.proofs.Common.{sym, true≢false}
use Rattle.cp_tables.specs.declared.exchange.Stage.TheVariants as stages
use Rattle.cp_messages.specs.declared.message.Message.{Message}
use Rattle.cp_vat_pair_laws.specs.Ledger.{opens, finishes}
use Rattle.cp_vat_pair_laws.specs.Accounts.{is_releasing}
use Rattle.cp_vat_pair_laws.specs.Lives.{Standing, absent, ungiven, left_ungiven, given, mistaken, opened, finished, stands_after, will_stand, FitsOpen, FitsNone, Fits}
use Rattle.cp_vat_pair_laws.proofs.counts.Standing.{after_by}

-- How an answer may stand for good: where it was opened on the way, it won't be absent, nor will it be given.
abbrev pub IsOpened : Standing → Type 0
IsOpened absent = ⊥
IsOpened (given mentions) = ⊥
IsOpened other = Unit {0}

pub opened_is : (st : Standing) → IsOpened (opened st)
opened_is absent = tt
opened_is ungiven = tt
opened_is left_ungiven = tt
opened_is (given mentions) = tt
opened_is mistaken = tt

finished_stays : (release : Bool) (st : Standing) → IsOpened st → IsOpened (finished release st)
finished_stays release absent is = absurd is
finished_stays true ungiven is = tt
finished_stays false ungiven is = tt
finished_stays true left_ungiven is = tt
finished_stays false left_ungiven is = tt
finished_stays release (given mentions) is = absurd is
finished_stays true mistaken is = tt
finished_stays false mistaken is = tt

after_stays : (o f r : Bool) (st : Standing) → IsOpened st → IsOpened (after_by o f r st)
after_stays true f r st is = opened_is st
after_stays false true r st is = finished_stays r st is
after_stays false false r st is = is

pub will_stay : (q : ℕ) (ms : List Message) (st : Standing) → IsOpened st → IsOpened (will_stand q ms st)
will_stay q [] st is = is
will_stay q (m ∷ ms) st is =
    will_stay q ms (stands_after q m st) (after_stays (opens q m) (finishes q m) (is_releasing m) st is)

pub will_open : (q : ℕ) (ms : List Message) (st : Standing) → list_any (opens q) ms ≡ true → IsOpened (will_stand q ms st)
will_open q [] st is = absurd (true≢false (sym is))
will_open q (m ∷ ms) st is = by (opens q m) refl is (will_open q ms (stands_after q m st))
  where
    by : (b : Bool) → opens q m ≡ b → (opens q m || list_any (opens q) ms) ≡ true → (list_any (opens q) ms ≡ true → IsOpened (will_stand q ms (stands_after q m st)))
        → IsOpened (will_stand q ms (stands_after q m st))
    by true t any more = will_stay q ms (stands_after q m st) (rw (t) (opened_is st))
    by false t any more = more (rw t at any)

-- A question that isn't there, or whose Return came, isn't opened by a message on the way.
pub none_fits : (returns : List (List ℕ)) (st : Standing) → FitsNone returns st → IsOpened st → ⊥
none_fits [] absent fits is = is
none_fits [] ungiven fits is = fits
none_fits [] left_ungiven fits is = fits
none_fits [] (given mentions) fits is = fits
none_fits [] mistaken fits is = fits
none_fits (r ∷ rs) absent fits is = fits
none_fits (r ∷ rs) ungiven fits is = fits
none_fits (r ∷ rs) left_ungiven fits is = fits
none_fits (r ∷ rs) (given mentions) fits is = fits
none_fits (r ∷ rs) mistaken fits is = fits

by_any : (p : Message → Bool) (ms : List Message) → (list_any p ms ≡ true → ⊥) → list_any p ms ≡ false
by_any p ms not_ = by (list_any p ms) refl
  where
    by : (b : Bool) → list_any p ms ≡ b → list_any p ms ≡ false
    by true is = absurd (not_ is)
    by false is = is

pub fresh_unopened : (q : ℕ) (returns : List (List ℕ)) (ms : List Message) (st : Standing) → Fits None returns (will_stand q ms st) → list_any (opens q) ms ≡ false
fresh_unopened q returns ms st fits = by_any (opens q) ms (λ is. none_fits returns (will_stand q ms st) fits (will_open q ms st is))

-- Nor is one of which a Return is on the way, where it wasn't finished.
pub open_fits : (r : List ℕ) (rs : List (List ℕ)) (st : Standing) → FitsOpen (r ∷ rs) st → IsOpened st → ⊥
open_fits r [] absent fits is = fits
open_fits r [] ungiven fits is = fits
open_fits r [] left_ungiven fits is = fits
open_fits r [] (given mentions) fits is = is
open_fits r [] mistaken fits is = fits
open_fits r (s ∷ rs) absent fits is = fits
open_fits r (s ∷ rs) ungiven fits is = fits
open_fits r (s ∷ rs) left_ungiven fits is = fits
open_fits r (s ∷ rs) (given mentions) fits is = fits
open_fits r (s ∷ rs) mistaken fits is = fits

pub returning_unopened : (q : ℕ) (mentions r : List ℕ) (rs : List (List ℕ)) (ms : List Message) (st : Standing)
    → Fits (Some (record { stage = stages.Open; kept = mentions })) (r ∷ rs) (will_stand q ms st) → list_any (opens q) ms ≡ false
returning_unopened q mentions r rs ms st fits = by_any (opens q) ms (λ is. open_fits r rs (will_stand q ms st) fits (will_open q ms st is))
