-- What trees leave of a limit on cost.
use Rattle.std.proofs.Common.{◌≡◌, ℕ, ◌+◌, ◌*◌, ◌-◌, ◌<◌, ◌≤◌, List, Bool, true, false, Option, Some, None, nat_le, is_some, Decides, if◌then◌else◌, refl, sym, ap, ◌∙◌, arith}
use Rattle.std.specs.Bool.{OnTrue}
use Rattle.std.proofs.lemmas.Bool.Decides.{nat_tests}
use Rattle.cp_tree.specs.Node.{Node, Nodes, node, Bodies, body, depth, greatest_depth, deepest_body, cost, total_cost, body_cost, number_of}
use Rattle.cp_tree.specs.Spent.{spent}

pub spent-0 : (budget : Option ℕ) → spent budget 0 ≡ budget
unfolding spent
spent-0 None = refl
spent-0 (Some l) = grind (arith, nat_tests)

pub spent-more : (budget : Option ℕ) (a b : ℕ) → spent (spent budget a) b ≡ spent budget (a + b)
unfolding spent
spent-more None a b = refl
spent-more (Some l) a b = grind (arith, nat_tests)

-- something is left exactly where the cost is within the limit
pub spent-fits : (limit cost : ℕ) (budget : Option ℕ) → budget ≡ spent (Some limit) cost → Decides (is_some budget) (cost ≤ limit)
unfolding spent
spent-fits limit cost budget e = go (nat_le cost limit) (λ k. grind (arith, nat_tests), λ k. grind (arith, nat_tests)) e
  where
    go : (b : Bool) → Decides b (cost ≤ limit) → budget ≡ (if b then Some (limit - cost) else None) → Decides (is_some budget) (cost ≤ limit)
    go true d k = rw k d
    go false d k = rw k d

-- what is left is of the limit, and nothing is left where the cost passes it
pub spent-some : (limit cost budget : ℕ) (rest : Option ℕ) → rest ≡ spent (Some limit) cost → rest ≡ Some budget → (cost ≤ limit) × (budget ≤ limit)
unfolding spent
spent-some limit cost budget rest e is = go (nat_le cost limit) (λ k. grind (arith, nat_tests), λ k. grind (arith, nat_tests)) (sym is ∙ e)
  where
    go : (b : Bool) → Decides b (cost ≤ limit) → ◌≡◌ {A = Option ℕ} (Some budget) (if b then Some (limit - cost) else None) → (cost ≤ limit) × (budget ≤ limit)
    go true d k = let h : budget ≡ limit - cost = cc in (d.0 refl, omega (arith, h))
    go false d k = let never : true ≡ false = ap is_some k in absurd cc

pub spent-none : (limit cost : ℕ) (rest : Option ℕ) → rest ≡ spent (Some limit) cost → rest ≡ None → limit < cost
spent-none limit cost rest e is = let d = spent-fits limit cost rest e in omega (arith, λ (h : cost ≤ limit). (let never : true ≡ false = sym (d.1 h) ∙ ap is_some is in absurd {A = ⊥} cc))

-- what holds on true is carried along an equation
pub along : {A : Type 0} (b : Bool) (x : A) {y z : A} → OnTrue b (x ≡ y) → y ≡ z → OnTrue b (x ≡ z)
along true x h e = h ∙ e
along false x h e = tt

-- two parts were paid for, and nothing more is
pub step_left : (budget next whole : Option ℕ) (a b c : ℕ) → next ≡ spent budget a → c ≡ a + b → spent budget c ≡ whole → spent next b ≡ whole
step_left budget next whole a b c paid sum k = ap (λ l. spent l b) paid ∙ spent-more budget a b ∙ ap (spent budget) (sym sum) ∙ k

pub no_more : (budget whole : Option ℕ) (n : ℕ) → n ≡ 0 → spent budget n ≡ whole → budget ≡ whole
no_more budget whole n e k = sym (spent-0 budget) ∙ ap (spent budget) (sym e) ∙ k

-- Of all these trees some are still to be gone over: those nest as deep as all may, and leave what all leave.
abbrev pub RowNests : ℕ → Nodes → Option ℕ → Nodes → Option ℕ → Type 0
RowNests levels all whole rest budget =
    (greatest_depth all ≤ levels → greatest_depth rest ≤ levels)
    × (greatest_depth rest ≤ levels → greatest_depth all ≤ levels)
    × (spent budget (total_cost rest) ≡ spent whole (total_cost all))

pub row_nests_on : (levels : ℕ) (all here rest : Nodes) (t : Node) (whole budget next : Option ℕ) → here ≡ node t rest → depth t ≤ levels → next ≡ spent budget (cost t) → RowNests levels all whole here budget → RowNests levels all whole rest next
row_nests_on levels all here rest t whole budget next e within paid kept =
    let deep = ap greatest_depth e in
    (λ h. omega (arith, kept.0 h, deep), λ h. kept.1 (omega (arith, h, within, deep)), step_left budget next _ (cost t) (total_cost rest) _ paid (ap total_cost e) kept.2)

-- The same of elements of a composite list, each of which costs so much without its trees.
abbrev pub BodiesNest : ℕ → ℕ → Bodies → Option ℕ → Bodies → Option ℕ → Type 0
BodiesNest levels price all whole rest budget =
    (deepest_body all ≤ levels → deepest_body rest ≤ levels)
    × (deepest_body rest ≤ levels → deepest_body all ≤ levels)
    × (spent budget (number_of rest * price + body_cost rest) ≡ spent whole (number_of all * price + body_cost all))

pub bodies_nest_on : (levels price : ℕ) (all here rest : Bodies) (ws : List ℕ) (ts : Nodes) (whole budget mid next : Option ℕ) → here ≡ body ws ts rest → greatest_depth ts ≤ levels → mid ≡ spent budget price → next ≡ spent mid (total_cost ts)
    → BodiesNest levels price all whole here budget → BodiesNest levels price all whole rest next
bodies_nest_on levels price all here rest ws ts whole budget mid next e within own paid kept =
    let deep = ap deepest_body e in
    let others = number_of rest * price + body_cost rest in
    let sum = ap (λ bs. number_of bs * price + body_cost bs) e in
    let parts : number_of here * price + body_cost here ≡ price + (total_cost ts + others) = omega (arith, sum) in (
      λ h. omega (arith, kept.0 h, deep),
      λ h. kept.1 (omega (arith, h, within, deep)),
      step_left mid next _ (total_cost ts) others (total_cost ts + others) paid refl (step_left budget mid _ price (total_cost ts + others) _ own parts kept.2),
    )
