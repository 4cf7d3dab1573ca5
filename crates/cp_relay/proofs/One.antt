-- A piece up to the end of a frame has one message, which the guard judged and the relay let go.
use Rattle.std.proofs.Common.{◌≡◌, ℕ, List, [], ◌∷◌, Bool, Option, Some, None, true, false, rules, refl, sym, ◌∙◌, subst, append-nil}
use Rattle.std.specs.Prelude.{is_some, not}
use Rattle.std.proofs.lemmas.Option.{none-some}
use Rattle.cp_words.specs.Limits.{Bounds}
use Rattle.cp_frame.specs.declared.mode.Mode.{Mode}
use Rattle.cp_messages.specs.declared.message.Message.{Message}
use Rattle.cp_stream.specs.Stream.{IsFrameOf}
use Rattle.cp_relay.specs.declared.output.Output.{Output}
use Rattle.cp_relay.specs.Relay.{IsSentFor, Passes, Lets}
use Rattle.cp_relay.specs.declared.guard.Guard.{Guard}
use Rattle.cp_relay.specs.declared.ruling.Breach.{Breach}
use Rattle.cp_relay.specs.Guard.{breach_in, HasJudged, GoesOn, Judges}

-- One message is read, and judged, and sent.
pub record One (before after : Guard) (mode : Mode) (output : Output) (limits : Bounds) (frame sent : List ℕ) : Type 0 where
  pub message : Message
  pub is_frame : IsFrameOf mode limits frame message
  pub sent_for : IsSentFor output limits frame message sent
  pub goes_on : GoesOn before message after

some_is_none : {A : Type 0} (v : A) → Some v ≡ None → ⊥
some_is_none v e = none-some v (sym e)

-- a guard that has judged a message lets no other one go
pub no_second : (before mid after : Guard) (m n : Message) → GoesOn before m mid → GoesOn mid n after → ⊥
no_second before mid after m n one other = some_is_none one.0.ruling (sym one.0.says_so ∙ other.0.waited)

-- what passes is one message's
pub one_of : (before after : Guard) (mode : Mode) (output : Output) (limits : Bounds) (frame sent : List ℕ) (ms : List Message) → (frame ≡ [] → ⊥)
    → Passes mode output limits frame ms sent [] → Lets Judges before ms after → One before after mode output limits frame sent
one_of before after mode output limits frame sent [] some passes lets = absurd (some passes.0)
one_of before after mode output limits frame sent (m ∷ []) some passes lets =
    let front = passes.0 in
    let back = passes.1 in
    let first = passes.2 in
    let later = passes.3 in
    let rest = passes.8 in
    let is_all : front ≡ frame = rw (passes.4, rest.0, append-nil front) refl in
    let is_sent : first ≡ sent = rw (passes.5, rest.1, append-nil first) refl in
    record {
      message = m;
      is_frame = subst (λ b. IsFrameOf mode limits b m) is_all passes.6;
      sent_for = rw (← is_sent, ← is_all) passes.7;
      goes_on = rw lets.2 (lets.1.0 refl);
    }
one_of before after mode output limits frame sent (m ∷ n ∷ ms) some passes lets =
    absurd (no_second before lets.0 lets.2.0 m n (lets.1.0 refl) (lets.2.1.0 refl))

not_true : true ≡ false → ⊥
not_true e = search (rules, e)

none_of : (breach : Option Breach) → is_some breach ≡ false → breach ≡ None
none_of None t = refl
none_of (Some breach) t = absurd (not_true t)

some_of : (breach : Option Breach) → is_some breach ≡ true → breach ≡ None → ⊥
some_of None t e = not_true (sym t)
some_of (Some breach) t e = some_is_none breach e

-- a message may go where it doesn't close the connection
pub judges_by : (old new : Guard) (m : Message) (may : Bool) (h : HasJudged old m new) → is_some (breach_in h.ruling) ≡ not may → Judges old m may new
judges_by old new m true h e = (λ goes. (h, none_of (breach_in h.ruling) e), λ stops waits. absurd (not_true stops))
judges_by old new m false h e = (λ goes. absurd (not_true (sym goes)), λ stops waits. (h, some_of (breach_in h.ruling) e))
