-- Calls that are lent are handled first, and what else happened is worked off then.
use Rattle.std.proofs.Common.{◌≡◌, ◌↔◌, ◌==◌, ℕ, true, Option, Some, None, refl, sym, ap, ◌∙◌, subst, arith}
use Rattle.std.proofs.lemmas.Bool.Decides.{nat_tests}
use Rattle.cp_vat.specs.declared.borrowed_call.BorrowedCall.{BorrowedCall}
use Rattle.cp_connection.specs.Lending.{HandsLent, delivered}
use Rattle.cp_connection.specs.Link.{Link}
use Rattle.cp_objects.specs.ObjectTable.{ObjectTableKind}
use Rattle.cp_dispatch.specs.Work.{Work, Lives}
use Rattle.cp_dispatch.specs.Rounds.{WorksOff, handles}
use Rattle.cp_dispatch.specs.Receiving.{HandlesLent}
use Rattle.cp_dispatch.proofs.Living.{lives_next, lives_none}

module _ {H : Type 0} (table : ObjectTableKind H) where
  -- a call that is lent happened first
  pub works_off_lent : (lent : Option BorrowedCall) (old : Work) (link handed : Link) (mid new : Work) (objects between others : H) → HandsLent link lent handed
      → HandlesLent table lent (record old { link = handed }) mid objects between → WorksOff table mid new between others → WorksOff table (record old { link = link }) new objects others
  works_off_lent (Some lent) old link handed mid new objects between others hands handled rest = handles (delivered lent) handed hands handled rest
  works_off_lent None old link handed mid new objects between others hands handled rest =
      subst (λ (l : Link). WorksOff table (record old { link = l }) new objects others) hands
      (subst (λ (w : Work). WorksOff table w new objects others) handled.0 (subst (λ (os : H). WorksOff table mid new os others) handled.1 rest))

-- what is handed out is none of the frames
pub same_reading : (lent : Option BorrowedCall) (link handed : Link) → HandsLent link lent handed → handed.reading ≡ link.reading
same_reading (Some lent) link handed hands = ap (λ (l : Link). l.reading) hands.1
same_reading None link handed hands = ap (λ (l : Link). l.reading) hands

pub hands_lives : (lent : Option BorrowedCall) (link handed : Link) → HandsLent link lent handed → Lives link handed
hands_lives (Some lent) link handed hands = lives_next (Some (delivered lent)) hands
hands_lives None link handed hands = rw hands (lives_none link)

-- a frame ended, by a test
pub ended_by : (came n : ℕ) → came ≡ n → ((came == 0) ≡ true) ↔ (n ≡ 0)
ended_by came n is = ((λ yes. grind (arith, nat_tests)), (λ none. grind (arith, nat_tests)))
