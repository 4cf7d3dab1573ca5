-- When the echo of a message can be written.
use Rattle.std.proofs.Common.{◌≡◌, ℕ, ◌≤◌, leb, ◌&&◌, Bool, true, false, Decides, is_some, [], ◌∷◌, Option, Some, None, Ok, Err, refl, sym, ◌∙◌, subst, arith}
use Rattle.std.proofs.lemmas.Bool.Decides.{nat_tests}
use Rattle.cp_tree.specs.Node.{Node, depth, cost}
use Rattle.cp_messages.specs.Written.{message_written}
use Rattle.cp_messages.specs.Fitting.{message_fits}
use Rattle.cp_messages.specs.declared.message.Message.{Message}
use Rattle.cp_messages.specs.declared.message.Message.TheVariants as messages
use Rattle.cp_vat_machine.specs.State.{State}
use Rattle.cp_vat_machine.specs.Step.{echo_fits, echoed}
use Rattle.cp_vat_machine.specs.declared.effect.Effect.TheVariants as effects
use Rattle.cp_vat_machine.specs.declared.fault.PeerFault.TheVariants as faults
use Rattle.cp_vat.specs.Echoing.{Charges, lists_of_message}
use Rattle.cp_vat.proofs.Costing.{message_cost}
use Rattle.cp_vat.proofs.Lists.{message_lists}

at_most : (a b : ℕ) → a ≤ b → leb a b ≡ true
at_most a b h = grind (arith, nat_tests)

is_at_most : (a b : ℕ) → leb a b ≡ true → a ≤ b
is_at_most a b h = grind (arith, nat_tests)

both : (a b : Bool) → a ≡ true → b ≡ true → (a && b) ≡ true
both true true p q = refl
both true false p q = q
both false b p q = p

not_both : (a b : Bool) → (a ≡ true → b ≡ true → ⊥) → (a && b) ≡ false
not_both true true h = absurd (h refl refl)
not_both true false h = refl
not_both false b h = refl

-- The tree of an Unimplemented is one level deeper than the one that it holds, and costs three more.
wrapped : (t : Node) → depth t ≤ 63 → cost t ≤ 8388605 → echo_fits (message_written (messages.Unimplemented t)) ≡ true
wrapped t deep dear =
    let x = message_written (messages.Unimplemented t) in
    both (leb (depth x) 64) (leb (cost x) 8388608) (at_most (depth x) 64 (omega arith)) (at_most (cost x) 8388608 (omega arith))

not_wrapped : (t : Node) → ((depth t ≤ 63) × (cost t ≤ 8388605) → ⊥) → echo_fits (message_written (messages.Unimplemented t)) ≡ false
not_wrapped t large =
    let x = message_written (messages.Unimplemented t) in
    not_both (leb (depth x) 64) (leb (cost x) 8388608) (λ (deep : leb (depth x) 64 ≡ true) (dear : leb (cost x) 8388608 ≡ true).
    let d : depth x ≤ 64 = is_at_most (depth x) 64 deep in
    let k : cost x ≤ 8388608 = is_at_most (cost x) 8388608 dear in
    large (omega arith, omega arith))

-- a tree that fits is sent back
pub is_echoed : (s : State) (m : Message) (t q : Node) → t ≡ message_written m → q ≡ message_written m → (fits : Bool) → Decides fits ((depth q ≤ 63) × (cost q ≤ 8388605)) → fits ≡ true
    → Ok (effects.Send (messages.Unimplemented t) ∷ [], s) ≡ echoed s m
is_echoed s m t q made same fits decides is =
    let small = decides.0 is in
    let test = subst (λ x. echo_fits (message_written (messages.Unimplemented x)) ≡ true) same (wrapped q small.0 small.1) in
    rw (test, made) refl

-- a message with a list that is too long isn't
pub is_too_long : (s : State) (m : Message) → message_fits m ≡ false → Err faults.EchoTooLarge ≡ echoed s m
is_too_long s m long = rw (not_wrapped (message_written m) (λ small. absurd (differ (sym long ∙ message_cost m (omega (arith, small.1)))))) refl
  where
    differ : false ≡ true → ⊥
    differ e = cc

-- nor is one whose lists cost more than may be written
pub is_too_dear : (s : State) (m : Message) (left : Option ℕ) → Charges 8388605 (lists_of_message m) left → is_some left ≡ false → Err faults.EchoTooLarge ≡ echoed s m
is_too_dear s m None more is = rw (not_wrapped (message_written m) (λ small. omega (arith, message_lists m, small.1, more))) refl
is_too_dear s m (Some rest) more is = absurd (cc)
