-- A local question beside its entry, and entries that are put in or go.
use Rattle.std.specs.Prelude.{◌≡◌, ◌⊎◌, refl, ℕ, ◌==◌, Bool, true, false, List, [], ◌∷◌, ◌++◌, Option, Some, None}
use Rattle.std.specs.FinMap.{get, insert, remove}
use Rattle.std.proofs.Common.{inl, inr}
use Rattle.cp_tables.specs.Table.{Table}
use Rattle.cp_tables.specs.declared.exchange.Exchange.{Exchange}
use Rattle.cp_tables.specs.declared.exchange.Stage.TheVariants as stages
use Rattle.cp_refs.specs.declared.call.Origin.{Origin}
use Rattle.cp_refs.specs.declared.call.Origin.TheVariants as origins
use Rattle.cp_vat_machine.specs.declared.effect.Effect.{Effect}
use Rattle.cp_vat_machine.specs.declared.entry.QuestionEntry.{QuestionEntry}
use Rattle.cp_vat_machine.proofs.Basics.{is_equal, put_at, gone_at}
use Rattle.cp_vat_pair_laws.specs.LocalQuestions.{LocalQuestion, settled, finished, after_effect, after_effects}
use Rattle.cp_vat_pair_laws.specs.Orderly.{IsHeldBack}

abbrev pub Questions : Type 0
Questions = Table (Exchange QuestionEntry)

-- No such question stands: none is told, or it was finished, and its call failed before it was delivered.
abbrev pub IsGone : LocalQuestion → Type 0
IsGone question = (question.stage ≡ None) ⊎ ((question.stage ≡ Some stages.Finished) × (question.is_delivered ≡ false))

abbrev pub MatchesIf : Bool → LocalQuestion → Exchange QuestionEntry → Type 0
MatchesIf true question entry = IsGone question
MatchesIf false question entry = (question.stage ≡ Some entry.stage) × (question.is_delivered ≡ entry.kept.is_delivered)

abbrev pub Matches : LocalQuestion → Option (Exchange QuestionEntry) → Type 0
Matches question None = IsGone question
Matches question (Some entry) = MatchesIf entry.kept.is_sent question entry

-- Each question still matches its entry when both have changed.
abbrev pub MatchBy : Questions → (ℕ → LocalQuestion → LocalQuestion) → Questions → Type 0
MatchBy old change new = (q : ℕ) (question : LocalQuestion) → Matches question (get old q) → Matches (change q question) (get new q)

abbrev pub MatchAfter : Questions → List Effect → Questions → Type 0
MatchAfter old told new = MatchBy old (λ q question. after_effects q told question) new

-- effects one after another
effects_both : (q : ℕ) (one more : List Effect) (question : LocalQuestion) → after_effects q (one ++ more) question ≡ after_effects q more (after_effects q one question)
effects_both q [] more question = refl
effects_both q (effect ∷ one) more question = effects_both q one more (after_effect q effect question)

pub match_both : (old mid new : Questions) (one more : List Effect) → MatchAfter old one mid → MatchAfter mid more new → MatchAfter old (one ++ more) new
match_both old mid new one more first rest q question is =
    rw (effects_both q one more question) (rest q (after_effects q one question) (first q question is))

pub match_more : (old mid new : Questions) (change : ℕ → LocalQuestion → LocalQuestion) (one more : List Effect)
    → MatchBy old (λ q question. after_effects q one (change q question)) mid → MatchAfter mid more new
    → MatchBy old (λ q question. after_effects q (one ++ more) (change q question)) new
match_more old mid new change one more first rest q question is =
    rw (effects_both q one more (change q question)) (rest q (after_effects q one (change q question)) (first q question is))

-- questions that are the same
pub same_match : (old new : Questions) → new ≡ old → MatchBy old (λ q question. question) new
same_match old new same q question is = rw (same) is

pub match_from : (before old new : Questions) (told : List Effect) → before ≡ old → MatchAfter before told new → MatchAfter old told new
match_from before old new told same match q question is = match q question (rw (same) is)

-- An entry is put in, or goes.
module _ (table : Questions) (p : ℕ) (change : ℕ → LocalQuestion → LocalQuestion)
    (elsewhere : (q : ℕ) (question : LocalQuestion) → (p == q) ≡ false → change q question ≡ question) where
  pub match_put : (entry : Exchange QuestionEntry) → ((question : LocalQuestion) → Matches question (get table p) → Matches (change p question) (Some entry))
      → MatchBy table change (insert table p entry)
  match_put entry here q question is = by (p == q) refl
    where
      by : (b : Bool) → (p == q) ≡ b → Matches (change q question) (get (insert table p entry) q)
      by true t = rw (put_at table p q entry true t, ← is_equal p q t) (here question (rw (is_equal p q t) is))
      by false t = rw (put_at table p q entry false t, elsewhere q question t) is

  pub match_gone : ((question : LocalQuestion) → Matches question (get table p) → IsGone (change p question)) → MatchBy table change (remove table p)
  match_gone here q question is = by (p == q) refl
    where
      by : (b : Bool) → (p == q) ≡ b → Matches (change q question) (get (remove table p) q)
      by true t = rw (gone_at table p q true t, ← is_equal p q t) (here question (rw (is_equal p q t) is))
      by false t = rw (gone_at table p q false t, elsewhere q question t) is

-- An outcome and a Finish of a question that is gone change nothing.
pub settled_gone : (question : LocalQuestion) → IsGone question → IsGone (settled question)
settled_gone question (inl none) = inl (rw (none) refl)
settled_gone question (inr left) = inl (rw (left.0) refl)

pub finished_gone : (question : LocalQuestion) → IsGone question → IsGone (finished question)
finished_gone question (inl none) = inl (rw (none) refl)
finished_gone question (inr left) = inr (rw (left.0) refl, left.1)

-- the question of a call that goes was neither sent nor delivered
abbrev pub IsBack : Questions → Origin → Type 0
IsBack questions (origins.Answer a) = Unit {0}
IsBack questions (origins.Own q) = IsHeldBack (get questions q)

pub undelivered_of : (o : Option (Exchange QuestionEntry)) (entry : Exchange QuestionEntry) → o ≡ Some entry → IsHeldBack o → entry.kept.is_delivered ≡ false
undelivered_of o entry is back = (rw is at back).1
