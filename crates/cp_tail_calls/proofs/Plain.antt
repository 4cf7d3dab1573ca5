-- Without a call with results to its sender, and without a promise that came to no capability, each message is passed on as it is.
use Rattle.std.proofs.Common.{◌≡◌, ℕ, ◌-◌, Bool, true, false, not, ◌&&◌, [], ◌∷◌, Option, Some, None, refl, sym, ap, ◌∙◌, subst, true≢false, inl, inr, arith}
use Rattle.std.proofs.lemmas.Bool.{cases_eq}
use Rattle.std.specs.Ordering.{nat_cmp}
use Rattle.std.specs.FinMap.{remove, empty, get-empty}
use Rattle.cp_tables.specs.declared.exchange.Stage.{Stage}
use Rattle.cp_tables.proofs.TableLemmas.{same_table, get-remove_same, get-remove_other}
use Rattle.cp_messages.specs.declared.call.Call.{Call}
use Rattle.cp_messages.specs.declared.message.Message.{Message}
use Rattle.cp_messages.specs.declared.message.Message.TheVariants as messages
use Rattle.cp_messages.specs.declared.resolve.Resolution.{Resolution}
use Rattle.cp_messages.specs.declared.resolve.Resolution.TheVariants as resolutions
use Rattle.cp_messages.specs.declared.descriptor.Descriptor.TheVariants as descriptors
use Rattle.cp_messages.specs.declared.returned.Return.{Return}
use Rattle.cp_messages.specs.declared.returned.Returned.{Returned}
use Rattle.cp_messages.specs.declared.returned.Returned.TheVariants as returns
use Rattle.cp_messages.specs.declared.small.Release.{Release}
use Rattle.cp_tail_calls.specs.declared.forwarding.ForwardedMessage.{ForwardedMessage}
use Rattle.cp_tail_calls.specs.declared.forwarding.Trigger.{Trigger}
use Rattle.cp_tail_calls.specs.declared.forwarding.Trigger.TheVariants as triggers
use Rattle.cp_tail_calls.specs.Tails.{Tails, none}
use Rattle.cp_tail_calls.specs.Receiving.{Passed, is_to_sender, is_due, received, receive_call, receive_return, receive_returned}
use Rattle.cp_tail_calls.specs.Sending.{sent, send_release, resolution_for}
use Rattle.cp_tail_calls.specs.Runs.{Turn, came, went, passed, TakesTurn, IsPlain, IsUnchanged, PlainTurns, is_plain, is_resolved, is_value}

-- nothing is taken out of the empty table
remove-empty : {X : Type 0} (k : ℕ) → remove (empty {X = X} {R = nat_cmp}) k ≡ empty
remove-empty {X} k =
    same_table (remove empty k) empty (λ q. elim (cases_eq q k) [
      | inl same ↦ rw (same, get-remove_same (empty {X = X} {R = nat_cmp}) k) (sym (get-empty nat_cmp k))
      | inr other ↦ get-remove_other (empty {X = X} {R = nat_cmp}) k q other
    ])

false_of : (b : Bool) → not b ≡ true → b ≡ false
false_of false h = refl
false_of true h = absurd (true≢false (sym h))

and_false : (b : Bool) → (b && false) ≡ false
and_false true = refl
and_false false = refl

module _ (acts_on : Call → Bool) (stage : ℕ → Option Stage) where
  plain_call : (c : Call) → is_to_sender c.send_results_to ≡ false → receive_call acts_on none c ≡ (c, none)
  plain_call c h = rw h refl

  plain_returned : (r : Return) (returned : Returned) → receive_returned stage none r returned ≡ (Some (messages.Return r), none)
  plain_returned r (returns.TakeFromOtherQuestion q) = rw (get-empty nat_cmp q, and_false (is_due (stage r.answer_id))) refl
  plain_returned r other = refl

  plain_return : (r : Return) → receive_return stage none r ≡ (Some (messages.Return r), none)
  plain_return r = rw (get-empty nat_cmp r.answer_id) (plain_returned r r.returned)

  plain_came : (m : Message) → is_plain m ≡ true → received acts_on stage none m ≡ (Some m, none)
  plain_came (messages.Call c) h = ap {B = Passed} (λ (p : Call × Tails). (Some (messages.Call p.0), p.1)) (plain_call c (false_of (is_to_sender c.send_results_to) h))
  plain_came (messages.Return r) h = plain_return r
  plain_came (messages.Finish f) h = rw (get-empty nat_cmp f.question_id) refl
  plain_came other h = refl

plain_release : (r : Release) (trigger : Trigger) → send_release none r trigger ≡ (r, none)
plain_release r triggers.Message = refl
plain_release r triggers.Application =
    rw (get-empty nat_cmp r.id, remove-empty r.id) (ap {B = Release × Tails} (λ (n : ℕ). (record r { reference_count = n }, none)) (minus-zero r.reference_count))
  where
    minus-zero : (n : ℕ) → n - 0 ≡ n
    minus-zero n = omega arith

plain_resolution : (r : Resolution) → is_value r ≡ true → resolution_for r ≡ r
plain_resolution (resolutions.Cap descriptors.None) h = absurd (true≢false (sym h))
plain_resolution other h = refl

plain_went : (trigger : Trigger) (m : Message) → is_resolved m ≡ true → sent none trigger m ≡ (Some m, none)
plain_went trigger (messages.Return r) h = rw (get-empty nat_cmp r.answer_id) refl
plain_went trigger (messages.Release r) h = ap {B = Passed} (λ (p : Release × Tails). (Some (messages.Release p.0), p.1)) (plain_release r trigger)
plain_went trigger (messages.Resolve r) h = ap {B = Passed} (λ (x : Resolution). (Some (messages.Resolve (record r { resolution = x })), none)) (plain_resolution r.resolution h)
plain_went trigger other h = refl

-- a turn from no tail calls leaves none, and what came or went is passed on as it is
plain_turn : (turn : Turn) (mid : Tails) → IsPlain turn → TakesTurn none turn mid → (mid ≡ none) × IsUnchanged turn
plain_turn (came acts_on stage m on) mid h first =
    let e = sym first ∙ plain_came acts_on stage m h in
    (ap (λ (p : Passed). p.1) e, ap (λ (p : Passed). p.0) e)
plain_turn (went trigger m on) mid h first =
    let e = sym first ∙ plain_went trigger m h in
    (ap (λ (p : Passed). p.1) e, ap (λ (p : Passed). p.0) e)
plain_turn (passed stage first) mid h e = absurd (none_owed first (ap (λ (p : Option ForwardedMessage × Tails). p.0) e))
  where
    none_owed : (x : ForwardedMessage) → None ≡ Some x → ⊥
    none_owed x e = cc

pub plain_turns : PlainTurns
plain_turns [] last hs did = (did, tt)
plain_turns (turn ∷ past) last hs (mid, before, now) =
    let there = plain_turns past mid hs.1 before in
    let here = plain_turn turn last hs.0 (subst (λ (t : Tails). TakesTurn t turn last) there.0 now) in
    (here.0, (here.1, there.1))
