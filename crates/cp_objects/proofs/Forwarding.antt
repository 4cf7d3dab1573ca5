-- What a forwarder does, from what its parts gave.
use Rattle.std.proofs.Common.{◌≡◌, ◌≢◌, ◌∙◌, ℕ, true, false, List, Option, Some, None, refl, sym, ap}
use Rattle.std.specs.FinMap.{entries, get, len, remove, values}
use Rattle.cp_tables.specs.Table.{Table}
use Rattle.cp_tables.proofs.TableLemmas.{remove-absent}
use Rattle.cp_refs.specs.declared.cap.Cap.{Cap}
use Rattle.cp_refs.specs.declared.outcome.Outcome.{Outcome}
use Rattle.cp_objects.specs.declared.context.ObjectEffect.TheVariants as effects
use Rattle.cp_objects.specs.declared.forwarder.Forwarder.{Forwarder}
use Rattle.cp_objects.specs.declared.letters.Caller.{Caller}
use Rattle.cp_objects.specs.declared.letters.ForwardedCall.{ForwardedCall}
use Rattle.cp_objects.specs.declared.letters.SharedOutcome.{SharedOutcome}
use Rattle.cp_objects.specs.declared.shared_cap.LentCap.{LentCap}
use Rattle.cp_objects.specs.Context.{ContextState, caps_here, giving_up, hereby_each, time_after, with_effect}
use Rattle.cp_objects.specs.Forwarding.{GivesUp, LetsGoAll, NextCalls, OnResponse, finishing, is_time, letting_go, letting_go_each, looks, naming_next, next_made, outcome_shared, placed, sharing_outcome, telling}
use Rattle.cp_objects.specs.Lending.{CallsState, answered, canceled, first_in, imports_in, is_import_of, name_of, without_first}
use Rattle.cp_objects.specs.Letters.{answer_to}

module _ {M : Type 0} (it : Forwarder) where
  -- ---- what was lent is let go
  module _ (place : ContextState M) (key : ℕ) (lent : Table LentCap) (left : lent ≡ remove it.lent key) where
    pub none_lent : None ≡ get it.lent key → placed (record it { lent = lent }) place ≡ letting_go key (placed it place)
    none_lent none = rw (← none) (ap (λ (t : Table LentCap). placed (record it { lent = t }) place) (left ∙ remove-absent it.lent key (sym none)))

    pub lent_yet : (shared : LentCap) → Some shared ≡ get it.lent key → true ≡ is_import_of shared.cap (imports_in (values lent))
        → placed (record it { lent = lent }) place ≡ letting_go key (placed it place)
    lent_yet shared some named = rw (← some, ← left, ← named) refl

    pub lent_no_more : (shared : LentCap) (after : ContextState M) → Some shared ≡ get it.lent key → false ≡ is_import_of shared.cap (imports_in (values lent))
        → after ≡ giving_up shared.cap place → placed (record it { lent = lent }) after ≡ letting_go key (placed it place)
    lent_no_more shared after some named gives = rw (← some, ← left, ← named, gives) refl

  pub looked_at : (before mid after : ContextState M) (new : Forwarder) (now : ℕ) (keys : List ℕ) → now ≡ before.now → len it.lent ≢ 0 → true ≡ is_time now it.looked
      → mid ≡ with_effect before (effects.WakeAt (time_after before.now 1000)) → placed new after ≡ letting_go_each keys (placed (record it { looked = Some now }) mid)
      → LetsGoAll it before after new
  looked_at before mid after new now keys is some time wakes gone =
      looks keys some (ap (λ n. is_time n it.looked) (sym is) ∙ sym time)
      (gone ∙ ap (λ (p : ContextState M). letting_go_each keys (placed (record it { looked = Some now }) p)) wakes
      ∙ ap (λ n. letting_go_each keys (placed (record it { looked = Some n }) (with_effect before (effects.WakeAt (time_after before.now 1000))))) is)

  -- ---- its next call
  module _ (before : ContextState M) (calls : CallsState) (rest : calls ≡ without_first it.calls) where
    pub none_waits : None ≡ first_in (entries it.calls.waiting) → NextCalls it before None before (record it { calls = calls })
    none_waits none = record {
      makes = ap (λ (o : Option (ℕ × ForwardedCall)). next_made o before) none;
      names = ap (λ (o : Option (ℕ × ForwardedCall)). naming_next o before) none;
      rest = ap (λ (k : CallsState). record it { calls = k }) rest;
    }

    pub one_waits : (number : ℕ) (call : ForwardedCall) (cap : Cap) (table : List Cap) (after : ContextState M) → Some (number, call) ≡ first_in (entries it.calls.waiting)
        → cap ≡ call.target.cap → table ≡ caps_here call.caps before → after ≡ hereby_each call.caps before
        → NextCalls it before (Some (record { cap = cap; request = record { interface = call.interface; method = call.method; content = call.content; caps = table }; call_id = number })) after (record it { calls = calls })
    one_waits number call cap table after some cap_is table_is after_is = record {
      makes =
          rw (cap_is, table_is) refl ∙ ap (λ (o : Option (ℕ × ForwardedCall)). next_made o before) some;
      names = after_is ∙ ap (λ (o : Option (ℕ × ForwardedCall)). naming_next o before) some;
      rest = ap (λ (k : CallsState). record it { calls = k }) rest;
    }

  -- ---- a call is given up
  module _ (caller : Caller) (before : ContextState M) (calls : CallsState) (rest : calls ≡ canceled caller it.calls) where
    pub gave_none : None ≡ get it.calls.numbers (name_of caller) → GivesUp caller it before before (record it { calls = calls })
    gave_none none = (ap (λ (o : Option ℕ). finishing o before) none, ap (λ (k : CallsState). record it { calls = k }) rest)

    pub gave_up : (number : ℕ) (after : ContextState M) → Some number ≡ get it.calls.numbers (name_of caller) → after ≡ with_effect before (effects.Cancel number)
        → GivesUp caller it before after (record it { calls = calls })
    gave_up number after some noted = (noted ∙ ap (λ (o : Option ℕ). finishing o before) some, ap (λ (k : CallsState). record it { calls = k }) rest)

  -- ---- what a call came to
  module _ (call_id : ℕ) (outcome : Outcome) (before mid : ContextState M) (calls : CallsState) (noted : mid ≡ sharing_outcome outcome before) (rest : calls ≡ answered call_id it.calls) where
    tells_as : (after : ContextState M) (caller : Option Caller) → caller ≡ get it.calls.callers call_id → after ≡ telling caller (outcome_shared outcome before) mid
        → OnResponse it call_id outcome before after (record it { calls = calls })
    tells_as after caller is told = record {
      tells =
          told ∙ ap (λ (p : ContextState M). telling caller (outcome_shared outcome before) p) noted
          ∙ ap (λ (o : Option Caller). telling o (outcome_shared outcome before) (sharing_outcome outcome before)) is;
      answers = ap (λ (k : CallsState). record it { calls = k }) rest;
    }

    pub told_none : None ≡ get it.calls.callers call_id → OnResponse it call_id outcome before mid (record it { calls = calls })
    told_none none = tells_as mid None none refl

    pub told_one : (caller : Caller) (shared : SharedOutcome) (after : ContextState M) → Some caller ≡ get it.calls.callers call_id → shared ≡ outcome_shared outcome before
        → after ≡ with_effect mid (effects.Post (answer_to caller shared)) → OnResponse it call_id outcome before after (record it { calls = calls })
    told_one caller shared after some shared_is posted =
        tells_as after (Some caller) some (posted ∙ ap (λ (s : SharedOutcome). with_effect mid (effects.Post (answer_to caller s))) shared_is)
