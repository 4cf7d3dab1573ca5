-- The vat sends any message.
use Rattle.std.specs.Prelude.{◌≡◌, refl, ℕ, ◌++◌, List}
use Rattle.std.specs.List.{AllByRecursion}
use Rattle.std.specs.FinMap.{get}
use Rattle.std.proofs.Common.{subst}
use Rattle.cp_messages.specs.declared.message.Message.{Message}
use Rattle.cp_messages.specs.declared.message.Message.TheVariants as messages
use Rattle.cp_vat_pair_laws.specs.Ledger.{Traffic}
use Rattle.cp_vat_pair_laws.specs.Accounts.{Accounts}
use Rattle.cp_tail_calls.specs.declared.forwarding.Trigger.{Trigger}
use Rattle.cp_tail_calls.specs.Receiving.{Passed}
use Rattle.cp_tail_calls.specs.Sending.{sent}
use Rattle.cp_tail_calls.specs.Tails.{Tails}
use Rattle.cp_tail_counts.specs.Peer.{heard}
use Rattle.cp_tail_counts.specs.Behind.{Goes}
use Rattle.cp_tail_counts.specs.Counts.{IsNumbered}
use Rattle.cp_tail_counts.proofs.Holds.{Holds}
use Rattle.cp_tail_counts.proofs.Sending.{SendsAs, sends_other}
use Rattle.cp_tail_counts.proofs.Returning.{return_sent}

module _ (most : ℕ) (past : List Traffic) (t : Tails) (old new : Accounts) (h : Holds most past t old) where
  sends_any : (trigger : Trigger) (m : Message) → SendsAs most past t old new h trigger m
  sends_any trigger (messages.Return r) goes numbered = return_sent most past t old new h r goes.sends goes.supported goes.params (get t.calls r.answer_id) refl
  sends_any trigger (messages.Call c) goes numbered = sends_other most past t old new h trigger (messages.Call c) (λ q. refl) goes numbered
  sends_any trigger (messages.Bootstrap b) goes numbered = sends_other most past t old new h trigger (messages.Bootstrap b) (λ q. refl) goes numbered
  sends_any trigger (messages.Finish f) goes numbered = sends_other most past t old new h trigger (messages.Finish f) (λ q. refl) goes numbered
  sends_any trigger (messages.Resolve r) goes numbered = sends_other most past t old new h trigger (messages.Resolve r) (λ q. refl) goes numbered
  sends_any trigger (messages.Release r) goes numbered = sends_other most past t old new h trigger (messages.Release r) (λ q. refl) goes numbered
  sends_any trigger (messages.Disembargo d) goes numbered = sends_other most past t old new h trigger (messages.Disembargo d) (λ q. refl) goes numbered
  sends_any trigger (messages.Unimplemented x) goes numbered = sends_other most past t old new h trigger (messages.Unimplemented x) (λ q. refl) goes numbered
  sends_any trigger (messages.Abort x) goes numbered = sends_other most past t old new h trigger (messages.Abort x) (λ q. refl) goes numbered
  sends_any trigger (messages.Other which body) goes numbered = sends_other most past t old new h trigger (messages.Other which body) (λ q. refl) goes numbered

  pub went_holds : (trigger : Trigger) (m : Message) (p : Passed) → sent t trigger m ≡ p → Goes old trigger m past new → AllByRecursion (IsNumbered most) (heard p.0)
      → Holds most (heard p.0 ++ past) p.1 new
  went_holds trigger m p is goes numbered =
      subst
      (λ (p : Passed). AllByRecursion (IsNumbered most) (heard p.0) → Holds most (heard p.0 ++ past) p.1 new)
      is
      (sends_any trigger m goes)
      numbered
