-- What a session lends to the others of its host, and the calls that it makes for them.
use Rattle.std.specs.Prelude.{◌≡◌, ◌≢◌, ◌⊎◌, ℕ, ◌-◌, Bool, true, false, if◌then◌else◌, nat_lt, not, List, [], ◌∷◌, Option, Some, None, codes}
use Rattle.std.specs.FinMap.{empty, get, len, remove, entries, values}
use Rattle.cp_tables.specs.Table.{Table}
use Rattle.cp_refs.specs.declared.cap.Cap.{Cap}
use Rattle.cp_refs.specs.declared.outcome.Outcome.{Outcome}
use Rattle.cp_refs.specs.declared.outcome.Outcome.TheVariants as outcomes
use Rattle.cp_refs.specs.At.{failed}
use Rattle.cp_servants.specs.declared.servant.OutgoingCall.{OutgoingCall}
use Rattle.cp_objects.specs.declared.context.ObjectEffect.TheVariants as effects
use Rattle.cp_objects.specs.declared.forwarder.Forwarder.{Forwarder}
use Rattle.cp_objects.specs.declared.letters.Caller.{Caller}
use Rattle.cp_objects.specs.declared.letters.ForwardedCall.{ForwardedCall}
use Rattle.cp_objects.specs.declared.letters.LetterBody.{LetterBody}
use Rattle.cp_objects.specs.declared.letters.LetterBody.TheVariants as bodies
use Rattle.cp_objects.specs.declared.letters.SharedOutcome.{SharedOutcome}
use Rattle.cp_objects.specs.declared.letters.SharedOutcome.TheVariants as shared
use Rattle.cp_objects.specs.declared.shared_cap.LentCap.{LentCap}
use Rattle.cp_objects.specs.Context.{ContextState, caps_here, giving_up, hereby_each, shared_each, sharing_each, time_after, with_effect}
use Rattle.cp_objects.specs.Lending.{answered, canceled, first_in, imports_in, is_import_of, name_of, no_calls, with_call, without_first}
use Rattle.cp_objects.specs.Letters.{answer_to}

abbrev pub new_forwarder : Forwarder
new_forwarder = record { lent = empty; calls = no_calls; looked = None }

-- all that is lent is looked at, a second after it was at last
abbrev pub is_time : ℕ → Option ℕ → Bool
is_time now None = true
is_time now (Some looked) = not (nat_lt (now - looked) 1000)

module _ {M : Type 0} where
  -- the forwarder, where it does something
  abbrev pub placed : Forwarder → ContextState M → Forwarder × ContextState M
  placed it place = (it, place)

  -- what was lent is held no more; an import that is lent under another key stays
  abbrev pub giving_back : Cap → Table LentCap → ContextState M → ContextState M
  giving_back cap left place = if is_import_of cap (imports_in (values left)) then place else giving_up cap place

  -- what is lent under this key, if something is, isn't lent any more
  abbrev pub letting_go_as : Option LentCap → ℕ → Forwarder × ContextState M → Forwarder × ContextState M
  letting_go_as None key at = at
  letting_go_as (Some lent) key at = placed (record at.0 { lent = remove at.0.lent key }) (giving_back lent.cap (remove at.0.lent key) at.1)

  abbrev pub letting_go : ℕ → Forwarder × ContextState M → Forwarder × ContextState M
  letting_go key at = letting_go_as (get at.0.lent key) key at

  abbrev pub letting_go_each : List ℕ → Forwarder × ContextState M → Forwarder × ContextState M
  letting_go_each [] at = at
  letting_go_each (key ∷ more) at = letting_go_each more (letting_go key at)

  -- it is woken a second later
  abbrev pub looking : Forwarder → ContextState M → Forwarder × ContextState M
  looking it place = placed (record it { looked = Some place.now }) (with_effect place (effects.WakeAt (time_after place.now 1000)))

  -- Once a second, while something is lent, that is let go which nobody else has. (A clause doesn't know how many have it.)
  pub data LetsGoAll (old : Forwarder) (before after : ContextState M) (new : Forwarder) : Type 0 where
    lends_nothing : len old.lent ≡ 0 → after ≡ before → new ≡ record old { looked = None } → LetsGoAll old before after new
    waits : len old.lent ≢ 0 → is_time before.now old.looked ≡ false → after ≡ before → new ≡ old → LetsGoAll old before after new
    looks : (keys : List ℕ) → len old.lent ≢ 0 → is_time before.now old.looked ≡ true → placed new after ≡ letting_go_each keys (looking old before)
        → LetsGoAll old before after new

  -- a call of its own, if it made it, is given up
  abbrev pub finishing : Option ℕ → ContextState M → ContextState M
  finishing None place = place
  finishing (Some number) place = with_effect place (effects.Cancel number)

  -- a call that was given up isn't made, or is finished
  abbrev pub GivesUp : Caller → Forwarder → ContextState M → ContextState M → Forwarder → Type 0
  GivesUp caller old before after new = (after ≡ finishing (get old.calls.numbers (name_of caller)) before) × (new ≡ record old { calls = canceled caller old.calls })

  -- A call that comes is to be made after those that came before, and one that was given up is finished. What somebody dropped is let go where nobody else has it.
  abbrev pub TakesLetter : LetterBody → Forwarder → ContextState M → ContextState M → Forwarder → Type 0
  TakesLetter (bodies.Call call) old before after new = (after ≡ before) × (new ≡ record old { calls = with_call call old.calls })
  TakesLetter (bodies.Cancel caller) old before after new = GivesUp caller old before after new
  TakesLetter (bodies.Dropped key) old before after new = (placed new after ≡ letting_go key (placed old before)) ⊎ ((after ≡ before) × (new ≡ old))
  TakesLetter other old before after new = (after ≡ before) × (new ≡ old)

  -- The call that came first is made, on what it is of, with its capabilities as this session names them.
  abbrev pub next_call_of : ℕ → ForwardedCall → ContextState M → OutgoingCall
  next_call_of number call place = record {
    cap = call.target.cap;
    request = record { interface = call.interface; method = call.method; content = call.content; caps = caps_here call.caps place };
    call_id = number;
  }

  abbrev pub next_made : Option (ℕ × ForwardedCall) → ContextState M → Option OutgoingCall
  next_made None place = None
  next_made (Some entry) place = Some (next_call_of entry.0 entry.1 place)

  abbrev pub naming_next : Option (ℕ × ForwardedCall) → ContextState M → ContextState M
  naming_next None place = place
  naming_next (Some entry) place = hereby_each entry.1.caps place

  pub record NextCalls (old : Forwarder) (before : ContextState M) (call : Option OutgoingCall) (after : ContextState M) (new : Forwarder) : Type 0 where
    pub makes : call ≡ next_made (first_in (entries old.calls.waiting)) before
    pub names : after ≡ naming_next (first_in (entries old.calls.waiting)) before
    pub rest : new ≡ record old { calls = without_first old.calls }

  -- what a call came to, as all sessions name it
  abbrev pub outcome_shared : Outcome → ContextState M → SharedOutcome
  outcome_shared (outcomes.Results content table) place = shared.Results content (shared_each table place)
  outcome_shared (outcomes.Failed exception) place = shared.Failed exception
  outcome_shared outcomes.Canceled place = shared.Failed (failed (codes "canceled"))

  abbrev pub sharing_outcome : Outcome → ContextState M → ContextState M
  sharing_outcome (outcomes.Results content table) place = sharing_each table place
  sharing_outcome other place = place

  -- who called is told what the call came to, unless it was given up
  abbrev pub telling : Option Caller → SharedOutcome → ContextState M → ContextState M
  telling None outcome place = place
  telling (Some caller) outcome place = with_effect place (effects.Post (answer_to caller outcome))

  pub record OnResponse (old : Forwarder) (call_id : ℕ) (outcome : Outcome) (before after : ContextState M) (new : Forwarder) : Type 0 where
    pub tells : after ≡ telling (get old.calls.callers call_id) (outcome_shared outcome before) (sharing_outcome outcome before)
    pub answers : new ≡ record old { calls = answered call_id old.calls }

  -- each call that isn't answered fails, as the session ended
  abbrev pub failing_each : List (ℕ × Caller) → ContextState M → ContextState M
  failing_each [] place = place
  failing_each (entry ∷ more) place = failing_each more (with_effect place (effects.Post (answer_to entry.1 shared.Disconnected)))
