-- What a proxy does with a call of it, by whether it is open.
use Rattle.std.proofs.Common.{◌≡◌, ◌∙◌, ℕ, true, false, Option, Some, None, is_some, ap}
use Rattle.std.proofs.lemmas.Bool.{false≢true, true≢false}
use Rattle.std.specs.Prelude.{codes}
use Rattle.cp_messages.specs.declared.exception.Exception.{Exception}
use Rattle.cp_refs.specs.declared.outcome.Outcome.{Outcome}
use Rattle.cp_refs.specs.declared.outcome.Outcome.TheVariants as outcomes
use Rattle.cp_refs.specs.At.{failed}
use Rattle.cp_objects.specs.declared.context.ObjectEffect.TheVariants as effects
use Rattle.cp_objects.specs.declared.letters.SharedOutcome.{SharedOutcome}
use Rattle.cp_objects.specs.declared.shared_cap.LentCap.{LentCap}
use Rattle.cp_objects.specs.Context.{ContextState, with_effect}
use Rattle.cp_objects.specs.Proxying.{answering, canceling, canceling_one, discharging, giving_up_call, naming_outcome, outcome_here, settled_so, settling_here}

module _ {M : Type 0} where
  pub none_answered : (o : Option ℕ) (ticket : ℕ) (outcome : SharedOutcome) (before mid : ContextState M) → is_some o ≡ false → mid ≡ discharging o before
      → mid ≡ answering ticket outcome o before
  none_answered None ticket outcome before mid e noted = noted
  none_answered (Some bytes) ticket outcome before mid e noted = absurd (true≢false e)

  -- the call is open: what it came to is settled, as this session names it
  pub one_answered : (o : Option ℕ) (ticket : ℕ) (outcome : SharedOutcome) (before closed mid new : ContextState M) (here : Outcome) → is_some o ≡ true → closed ≡ discharging o before
      → here ≡ outcome_here outcome closed → mid ≡ naming_outcome outcome closed → new ≡ with_effect mid (effects.Settle (settled_so ticket here)) → new ≡ answering ticket outcome o before
  one_answered None ticket outcome before closed mid new here e noted here_is mid_is settles = absurd (false≢true e)
  one_answered (Some bytes) ticket outcome before closed mid new here e noted here_is mid_is settles =
      settles ∙ ap (λ (h : Outcome). with_effect mid (effects.Settle (settled_so ticket h))) here_is
      ∙ ap (λ (p : ContextState M). with_effect p (effects.Settle (settled_so ticket (outcome_here outcome closed)))) mid_is
      ∙ ap (λ (p : ContextState M). settling_here ticket outcome p) noted

  pub none_canceled : (o : Option ℕ) (target : LentCap) (ticket : ℕ) (before mid : ContextState M) → is_some o ≡ false → mid ≡ discharging o before
      → mid ≡ canceling target ticket o before
  none_canceled None target ticket before mid e noted = noted
  none_canceled (Some bytes) target ticket before mid e noted = absurd (true≢false e)

  -- the call is open: it is given up, and comes to an exception
  pub one_canceled : (o : Option ℕ) (target other : LentCap) (ticket : ℕ) (before closed given new : ContextState M) (exception : Exception) → is_some o ≡ true → closed ≡ discharging o before
      → other ≡ target → given ≡ giving_up_call other ticket closed → exception ≡ failed (codes "canceled")
      → new ≡ with_effect given (effects.Settle (settled_so ticket (outcomes.Failed exception))) → new ≡ canceling target ticket o before
  one_canceled None target other ticket before closed given new exception e noted other_is given_is exception_is settles = absurd (false≢true e)
  one_canceled (Some bytes) target other ticket before closed given new exception e noted other_is given_is exception_is settles =
      settles ∙ ap (λ (x : Exception). with_effect given (effects.Settle (settled_so ticket (outcomes.Failed x)))) exception_is
      ∙ ap (λ (p : ContextState M). with_effect p (effects.Settle (settled_so ticket (outcomes.Failed (failed (codes "canceled")))))) (given_is ∙ ap (λ (t : LentCap). giving_up_call t ticket closed) other_is)
      ∙ ap (λ (p : ContextState M). canceling_one target ticket p) noted
