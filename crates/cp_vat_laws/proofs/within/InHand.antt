-- Where the call in hand is.
use Rattle.std.specs.Prelude.{◌≡◌, refl, ℕ, ◌||◌, Bool, true, false, Option, Some, None}
use Rattle.std.proofs.Common.{sym, ◌∙◌, true≢false}
use Rattle.cp_tables.specs.declared.exchange.Exchange.{Exchange}
use Rattle.cp_refs.specs.declared.call.Origin.{Origin}
use Rattle.cp_refs.specs.declared.call.Origin.TheVariants as origins
use Rattle.cp_vat_machine.specs.State.{State}
use Rattle.cp_vat_machine.specs.Local.{is_origin, waiting_of, forwarding_of}
use Rattle.cp_vat_machine.specs.declared.entry.AnswerEntry.{AnswerEntry}
use Rattle.cp_vat_machine.specs.declared.entry.QuestionEntry.{QuestionEntry}
use Rattle.cp_vat_laws.specs.Within.{is_in_hand, HasAnswerPlace, HasQuestionPlace}
use Rattle.cp_vat_laws.proofs.within.Follows.{same_origin, origin_itself, not_true}

-- no other call than this one is in hand
abbrev pub IsAlone : Option Origin → Origin → Type 0
IsAlone hand one = (other : Origin) → is_origin one other ≡ false → is_in_hand hand other ≡ false

pub alone_none : (one : Origin) → IsAlone None one
alone_none one other differs = refl

other_origin : (one other : Origin) → is_origin one other ≡ false → is_origin other one ≡ false
other_origin one other differs = not_true _ (λ is.
    let same = same_origin other one is in
    let it : is_origin one other ≡ true = rw (same) (origin_itself one) in
    true≢false (sym it ∙ differs))

in_hand_is : (b : Bool) → b ≡ false → (b || false) ≡ false
in_hand_is true is = is
in_hand_is false is = refl

pub alone_some : (one : Origin) → IsAlone (Some one) one
alone_some one other differs = in_hand_is (is_origin other one) (other_origin one other differs)

-- what is in hand is the one
pub is_held : (one : Origin) → is_in_hand (Some one) one ≡ true
is_held one = rw (origin_itself one) refl

-- places of others, where the call in hand comes to rest or another one is in hand
pub answer_place : (s new : State) (hand later : Option Origin) (a : ℕ) (entry : Exchange AnswerEntry)
    → is_in_hand later (origins.Answer a) ≡ is_in_hand hand (origins.Answer a)
    → waiting_of new (origins.Answer a) ≡ waiting_of s (origins.Answer a) → forwarding_of new a ≡ forwarding_of s a → HasAnswerPlace s hand a entry
    → HasAnswerPlace new later a entry
answer_place s new hand later a entry same waiting forwarding place open_ = rw (same, waiting, forwarding) (place open_)

pub question_place : (s new : State) (hand later : Option Origin) (q : ℕ) (entry : Exchange QuestionEntry)
    → is_in_hand later (origins.Own q) ≡ is_in_hand hand (origins.Own q)
    → waiting_of new (origins.Own q) ≡ waiting_of s (origins.Own q) → HasQuestionPlace s hand q entry → HasQuestionPlace new later q entry
question_place s new hand later q entry same waiting place open_ = rw (same, waiting) (place open_)
