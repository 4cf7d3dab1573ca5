-- What a client finds that looks for outcomes, and what results it gives then.
use Rattle.std.proofs.Common.{◌≡◌, ◌∙◌, ◌<◌, ◌≤◌, ◌+◌, ◌⊎◌, ℕ, List, [], ◌∷◌, ◌++◌, Option, Some, None, Result, Ok, Err, IfOk, IfErr, OnErr, refl, sym, ap, subst, get_or, take, drop, length, add-one}
use Rattle.std.proofs.lemmas.List.{take_all, take_more, take-append-drop}
use Rattle.std.proofs.Math.Seq.{drop-cons}
use Rattle.std.specs.FinMap.{get}
use Rattle.cp_refs.specs.declared.outcome.Outcome.{Outcome}
use Rattle.cp_objects.specs.ObjectTable.{ObjectTableKind}
use Rattle.cp_interfaces.specs.declared.payload.ResultPayload.{ResultPayload}
use Rattle.cp_interfaces.specs.Payloads.{Comes}
use Rattle.cp_client.specs.AnyOf.{AreAwaited, IsNext}
use Rattle.cp_client.specs.Conversation.{Asked, Conversation}
use Rattle.cp_client.specs.Questions.{TakesOut}
use Rattle.cp_client.specs.Results.{GivesUp, IsNone, TakesNone, TakesResults}
use Rattle.cp_client.specs.Telling.{Knows}
use Rattle.cp_client.specs.Waits.{IsNotAsked, Looks, Waits}
use Rattle.cp_client.specs.declared.fault.CallError.{CallError}
use Rattle.cp_client.specs.declared.fault.CallError.TheVariants as faults
use Rattle.cp_client.specs.declared.fault.ClientFault.{ClientFault}
use Rattle.cp_client.specs.declared.fault.ClientFault.TheVariants.{NotAsked}
use Rattle.cp_client.specs.declared.question.Question.{Question}
use Rattle.cp_client.specs.declared.questions.Questions.{Questions}
use Rattle.cp_client.proofs.Telling.{knows_asked}

module _ {H : Type 0} where
  -- an outcome is looked for once all is known
  pub looks_by : (old known : Conversation H) (q : ℕ) (asked : Asked) (came : Option Outcome) → Knows old known → TakesOut known.asked q came asked
      → Looks old q came (record known { asked = asked })
  looks_by old known q asked (Some outcome) knows taken = (known, knows, (taken.0, ap (λ (t : Asked). record known { asked = t }) taken.1))
  looks_by old known q asked None knows taken = (knows_asked old known asked taken.1 knows, subst (λ (t : Asked). get t q ≡ Some None) (sym taken.1) taken.0)

  pub looks_if : (old known : Conversation H) (q : ℕ) (asked : Asked) (result : Result (Option Outcome) ClientFault) → Knows old known
      → IfOk result (λ came. TakesOut known.asked q came asked) → IfOk result (λ came. Looks old q came (record known { asked = asked }))
  looks_if old known q asked (Ok came) knows taken = looks_by old known q asked came knows taken
  looks_if old known q asked (Err fault) knows taken = tt

  -- or the question isn't asked
  pub not_asked_if : (old known : Conversation H) (q : ℕ) (from to : Questions) (result : Result (Option Outcome) ClientFault) → from.asked ≡ known.asked → Knows old known
      → IfErr result (λ fault. (fault ≡ NotAsked) × (get to.asked q ≡ None)) → OnErr result (to ≡ from)
      → IfErr result (λ fault. IsNotAsked old q fault (record known { asked = to.asked }))
  not_asked_if old known q from to (Ok came) seen knows unknown same = tt
  not_asked_if old known q from to (Err fault) seen knows unknown same =
      (knows_asked old known to.asked (ap (λ (it : Questions). it.asked) same ∙ seen) knows, unknown.0, unknown.1)

  awaited_both : (some others : List Question) (state : Conversation H) → AreAwaited some state → AreAwaited others state → AreAwaited (some ++ others) state
  awaited_both [] others state h k = k
  awaited_both (q ∷ qs) others state h k = (h.0, awaited_both qs others state h.1 k)

  -- one question more was looked for, of which no outcome came
  pub awaited_next : (qs : List Question) (i : ℕ) (d : Question) (known : Conversation H) (asked : Asked) → i < length qs → asked ≡ known.asked → AreAwaited (take i qs) known
      → get known.asked (get_or qs i d).number ≡ Some None → AreAwaited (take (i + 1) qs) (record known { asked = asked })
  awaited_next qs i d known asked within same awaited none =
      subst (λ (t : Asked). AreAwaited (take (i + 1) qs) (record known { asked = t })) (sym same)
      (subst (λ (them : List Question). AreAwaited them known) (sym (take_more qs i d within)) (awaited_both (take i qs) (get_or qs i d ∷ []) known awaited (none, tt)))

  -- all were looked for
  pub awaited_all : (qs : List Question) (i : ℕ) (state : Conversation H) → length qs ≤ i → AreAwaited (take i qs) state → AreAwaited qs state
  awaited_all qs i state past awaited = subst (λ (them : List Question). AreAwaited them state) (take_all i qs past) awaited

  -- those before a question were looked for
  pub next_of : (qs : List Question) (i : ℕ) (d : Question) (known : Conversation H) (asked : Asked) → i < length qs → asked ≡ known.asked → AreAwaited (take i qs) known
      → IsNext qs (get_or qs i d) (record known { asked = asked })
  next_of qs i d known asked within same awaited =
      subst (λ (t : Asked). IsNext qs (get_or qs i d) (record known { asked = t })) (sym same) (record {
        before = take i qs;
        after = drop (i + 1) qs;
        in_order = rw add-one (sym (take-append-drop i qs) ∙ ap (λ (rest : List Question). take i qs ++ rest) (drop-cons qs i d within));
        awaited = awaited;
      })

module _ {H : Type 0} (table : ObjectTableKind H) where
  -- results of an outcome that was waited for, whose question was given up then
  pub takes_if : (old told new : Conversation H) (q session : ℕ) (outcome : Outcome) (result : Result ResultPayload CallError) → session ≡ told.number → Waits table old q outcome told
      → IfOk result (λ r. Comes session outcome (Ok r)) → GivesUp table told q new → IfOk result (λ r. TakesResults table old q r new)
  takes_if old told new q session outcome (Ok r) own waits comes up = (told, (subst (λ (o : Outcome). Waits table old q o told) comes.0 waits, comes.1 ∙ own), up)
  takes_if old told new q session outcome (Err fault) own waits comes up = tt

  -- or none
  pub takes_none_if : (old told new : Conversation H) (q session : ℕ) (outcome : Outcome) (result : Result ResultPayload CallError) → session ≡ told.number
      → Waits table old q outcome told → IfErr result (λ fault. IsNone session outcome fault) → GivesUp table told q new → IfErr result (λ fault. TakesNone table old q fault new)
  takes_none_if old told new q session outcome (Ok r) own waits none up = tt
  takes_none_if old told new q session outcome (Err (faults.Client fault)) own waits none up = absurd none
  takes_none_if old told new q session outcome (Err (faults.NoResults reason)) own waits none up =
      (told, (outcome, waits, subst (λ (n : ℕ). Comes n outcome (Err reason)) own none), up)
