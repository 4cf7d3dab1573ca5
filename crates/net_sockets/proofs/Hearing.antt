-- What came of a header, one piece after another.
use Rattle.std.proofs.Common.{◌≡◌, ◌≢◌, ◌∙◌, ℕ, ◌+◌, List, [], ◌++◌, sym, ap, subst, append-nil, append_assoc, arith}
use Rattle.std.proofs.lemmas.Bool.Decides.{nat_tests}
use Rattle.net_sockets.specs.declared.greeting.Greeting.{Greeting}
use Rattle.net_sockets.specs.declared.greeting.Greeted.{Greeted}
use Rattle.net_sockets.specs.declared.greeting.Greeted.TheVariants as greeteds
use Rattle.net_sockets.specs.Flow.{Flow, Moves, ends_of}
use Rattle.net_sockets.specs.Greeting.{Greets, IsUnmet, Keeps}
use Rattle.net_sockets.proofs.Flowing.{flows_both, flows_none}

no_end : (count : ℕ) → count ≢ 0 → 0 + ends_of count ≡ 0
no_end count some = grind (arith, nat_tests)

module _ {D : Type 0} (flow : D → Flow) where
  pub keeps_none : (it : Greeting D) → Keeps flow it [] 0 it
  keeps_none it = record { gives = flows_none (flow it.socket); kept = sym (append-nil it.came.items) }

  -- a piece more, which isn't none
  pub keeps_more : (a b c : Greeting D) (came more : List ℕ) (count : ℕ) → count ≢ 0 → Keeps flow a came 0 b → Keeps flow b more (ends_of count) c → Keeps flow a (came ++ more) 0 c
  keeps_more a b c came more count some h k = record {
    gives = subst (λ (n : ℕ). Moves (flow a.socket) (came ++ more) n [] (flow c.socket)) (no_end count some) (flows_both h.gives k.gives);
    kept = k.kept ∙ ap (λ x. x ++ more) h.kept ∙ append_assoc a.came.items came more;
  }

  -- a header that isn't whole says nothing
  pub greets_unmet : (old new : Greeting D) (greeted : Greeted) → IsUnmet greeted → Greets flow old greeted new
  greets_unmet old new (greeteds.Whole peer) h = absurd h
  greets_unmet old new greeteds.Waits h = tt
  greets_unmet old new greeteds.Broken h = tt
