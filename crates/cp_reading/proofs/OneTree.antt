-- A word denotes one tree.
use Rattle.std.proofs.Common.{◌≡◌, ℕ, max, List, sym, ap, ◌∙◌, arith}
use Rattle.cp_tree.specs.Node.{Node, depth, cost}
use Rattle.cp_reading.specs.Denotes.{Denotes}
use Rattle.cp_reading.proofs.Complete.{complete}
use Rattle.cp_reading.proofs.Sound.{ok_is}

pub denotes_one : (S : List (List ℕ)) (s p : ℕ) (t u : Node) → Denotes S s p t → Denotes S s p u → t ≡ u
denotes_one S s p t u h k =
    let n = max (depth t) (depth u) in
    let budget = max (cost t) (cost u) in
    let one = complete t n S s p budget h (omega arith) (omega arith) in
    let other = complete u n S s p budget k (omega arith) (omega arith) in
    ap (λ (x : Node × ℕ). x.0) (ok_is (sym one ∙ other))
