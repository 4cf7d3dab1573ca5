-- What the limits on nesting and on cost leave while a tree is written.
use Rattle.std.proofs.Common.{◌≡◌, ℕ, suc, ◌+◌, ◌*◌, ◌<◌, ◌≤◌, max, Result, Ok, Err, refl, sym, ap, subst, ◌∙◌, arith}
use Rattle.cp_words.specs.Word.{words_for}
use Rattle.cp_words.specs.declared.kind.BodyKind.TheVariants as kinds
use Rattle.cp_words.specs.declared.place.Place.{Place}
use Rattle.cp_tree.specs.declared.fault.WriteFault.{WriteFault}
use Rattle.cp_tree.specs.declared.fault.WriteFault.TheVariants as faults
use Rattle.cp_writing.specs.declared.arena.Arena.{Arena}
use Rattle.cp_tree.specs.Node.{Elements, element_size, element_count, list, Node, Nodes, Bodies, no_bodies, body, structs, depth, greatest_depth, deepest_body, cost, total_cost, body_cost, count, number_of, no_nodes, node}
use Rattle.cp_tree.specs.Shaped.{EachEven}
use Rattle.cp_writing.specs.Allowed.{Charges, Lays}
use Rattle.cp_writing.specs.Packed.{packed}
use Rattle.cp_writing.specs.Sheets.{Written, written, append, place_on, SameLimits, Refuses, Writes, Appends}
use Rattle.cp_writing.specs.Writing.{Begins, BeginsBodies, LaysTree, LaysRow, LaysBodies, tree_on, row_on, bodies_on}

-- a level or a price that isn't there isn't there for more
pub not_charged : (X : Type 0) (A B : Arena) (levels price deep whole : ℕ) (e : WriteFault) (wanted : Written) → Charges A B levels (Err e) price → 0 < deep → price ≤ whole → Lays {X = X} A B levels (Err e) deep whole wanted
not_charged X A B levels price deep whole faults.TooDeep wanted h some le = omega (arith, h, some)
not_charged X A B levels price deep whole faults.TooCostly wanted h some le = omega (arith, h, le)
not_charged X A B levels price deep whole faults.TooManyWords wanted h some le = absurd h
not_charged X A B levels price deep whole faults.OutOfMemory wanted h some le = absurd h

-- what can't be written is refused
not_written : (X : Type 0) (A new : Arena) (levels deep price : ℕ) (e : WriteFault) (wanted : Written) → Refuses A.capacity e wanted → Lays {X = X} A new levels (Err e) deep price wanted
not_written X A new levels deep price faults.TooDeep wanted h = absurd h
not_written X A new levels deep price faults.TooCostly wanted h = absurd h
not_written X A new levels deep price faults.TooManyWords wanted h = h
not_written X A new levels deep price faults.OutOfMemory wanted h = h

-- a level was gone down and its price paid, and then what hangs there was laid out
one_up : {X : Type 0} (A B C new : Arena) (levels own below deep price : ℕ) (r : Result X WriteFault) (wanted : Written) → Charges A B levels (Ok below) own → SameLimits B C → Lays C new below r deep price wanted → Lays A new levels r (suc deep) (own + price) wanted
one_up A B C new levels own below deep price (Ok x) wanted charged same h = (omega (arith, charged.0, h.0), omega (arith, charged.1, same.1, h.1), h.2, h.3, h.4 ∙ same.0 ∙ ap (λ (w : Arena). w.capacity) charged.2)
one_up A B C new levels own below deep price (Err faults.TooDeep) wanted charged same h = omega (arith, charged.0, h)
one_up A B C new levels own below deep price (Err faults.TooCostly) wanted charged same h = omega (arith, charged.1, same.1, h)
one_up A B C new levels own below deep price (Err faults.TooManyWords) wanted charged same h = subst (λ k. Refuses k faults.TooManyWords wanted) (same.0 ∙ ap (λ (w : Arena). w.capacity) charged.2) h
one_up A B C new levels own below deep price (Err faults.OutOfMemory) wanted charged same h = h

-- what has no pointers is laid out once its words are written
flat : {X : Type 0} (A new : Arena) (levels : ℕ) (r : Result X WriteFault) (wanted : Written) → Writes A new r wanted → Lays A new levels r 0 0 wanted
flat A new levels (Ok x) wanted h = (omega arith, omega (arith, h.2.1), h.0, h.1, h.2.0)
flat A new levels (Err faults.TooDeep) wanted h = absurd h
flat A new levels (Err faults.TooCostly) wanted h = absurd h
flat A new levels (Err faults.TooManyWords) wanted h = h
flat A new levels (Err faults.OutOfMemory) wanted h = h

module _ (A B : Arena) (levels own below : ℕ) (charged : Charges A B levels (Ok below) own) where
  same_tree : (at : Place) (t : Node) → tree_on B at t ≡ tree_on A at t
  same_tree at t = ap (λ (w : Arena). tree_on w at t) charged.2

  -- where there is no capacity for what was charged, there is none for its tree
  pub refused : (X : Type 0) (new : Arena) (at : Place) (t : Node) (e : WriteFault) → Refuses B.capacity e (tree_on B at t) → LaysTree {X = X} A new levels (Err e) at t
  refused X new at t e h = not_written X A new levels (depth t) (cost t) e (tree_on A at t) (subst (λ (w : Arena). Refuses w.capacity e (tree_on w at t)) charged.2 h)

  -- a list whose body was placed is laid out once its words are appended
  pub listed : {X : Type 0} (C new : Arena) (at : Place) (es : Elements) (words : ℕ) (r : Result X WriteFault) → words ≡ words_for (element_size es) (element_count es) → own ≡ 1 + words
      → written C ≡ (place_on B at (kinds.List (element_size es) (element_count es)) words).arena → SameLimits B C → Appends C new r (packed es) → LaysTree A new levels r at (list es)
  listed C new at es words r size price placed same appended =
      let kind = kinds.List (element_size es) (element_count es) in
      let e : append (packed es) (written C) ≡ tree_on A at (list es) = ap (append (packed es)) (placed ∙ ap (λ n. (place_on B at kind n).arena) size) ∙ same_tree at (list es) in
      let whole : own + 0 ≡ cost (list es) = omega (arith, price, size) in
      let h = one_up A B C new levels own below 0 0 r (append (packed es) (written C)) charged same (flat C new below r _ appended) in
      subst (λ n. Lays A new levels r 1 n (tree_on A at (list es))) whole (subst (λ W. Lays A new levels r 1 (own + 0) W) e h)

  module _ (C new : Arena) (at first : Place) {X : Type 0} (r : Result X WriteFault) (t : Node) where
    -- a tree whose body was begun is laid out once what hangs on it is
    pub hung : (n : ℕ) (make : Nodes → Node) (ts : Nodes) → t ≡ make ts → count ts ≡ n → Begins B C (Ok first) at n make → depth (make ts) ≡ suc (greatest_depth ts) → cost (make ts) ≡ own + total_cost ts → LaysRow C new below r first ts → LaysTree A new levels r at t
    hung n make ts is many begun deep price row =
        let e : row_on C first ts ≡ tree_on A at (make ts) = sym (begun.3 ts many) ∙ same_tree at (make ts) in
        let h = one_up A B C new levels own below (greatest_depth ts) (total_cost ts) r (row_on C first ts) charged begun.2 row in
        subst (λ u. LaysTree A new levels r at u) (sym is) (subst (λ W. Lays A new levels r (depth (make ts)) (cost (make ts)) W) e (rw (deep, price) h))

    pub bodies_hung : (d n : ℕ) (bs : Bodies) → t ≡ structs d n bs → BeginsBodies B C (Ok first) at d n bs → own ≡ 2 + number_of bs * (1 + d + n) → LaysBodies C new below r first d n bs → LaysTree A new levels r at t
    bodies_hung d n bs is begun price bodies =
        let whole : cost (structs d n bs) ≡ own + body_cost bs = omega (arith, price) in
        let e : bodies_on C first d n bs ≡ tree_on A at (structs d n bs) = sym begun.3 ∙ same_tree at (structs d n bs) in
        let h = one_up A B C new levels own below (deepest_body bs) (body_cost bs) r (bodies_on C first d n bs) charged begun.2 bodies in
        subst (λ u. LaysTree A new levels r at u) (sym is) (subst (λ W. Lays A new levels r (suc (deepest_body bs)) (cost (structs d n bs)) W) e (rw whole h))

-- Of all these trees some are still to be laid out: those nest no deeper than all, and as deep as all may; and what
-- they cost is what all cost without what was spent.
abbrev pub Going : ℕ → ℕ → ℕ → ℕ → ℕ → ℕ → ℕ → Type 0
Going levels whole budget all_deep all_cost deep price = (deep ≤ all_deep) × (deep ≤ levels → all_deep ≤ levels) × (whole + price ≡ all_cost + budget)

module _ (levels whole budget all_deep all_cost deep price own_deep own_price next_deep next_price : ℕ) (deeper : deep ≡ max own_deep next_deep) (sum : price ≡ own_price + next_price) (going : Going levels whole budget all_deep all_cost deep price) where
  pub goes_on : (rest : ℕ) → own_deep ≤ levels → budget ≡ own_price + rest → Going levels whole rest all_deep all_cost next_deep next_price
  goes_on rest fits paid = (omega (arith, deeper, going.0), λ h. going.1 (omega (arith, deeper, h, fits)), omega (arith, going.2, sum, paid))

pub stops : (X : Type 0) (A B new : Arena) (levels all_deep all_cost deep price own_deep own_price next_deep next_price : ℕ) (e : WriteFault) (wanted all : Written) → deep ≡ max own_deep next_deep → price ≡ own_price + next_price → Going levels A.budget B.budget all_deep all_cost deep price
    → Lays {X = X} B new levels (Err e) own_deep own_price wanted → (Refuses B.capacity e wanted → Refuses A.capacity e all) → Lays {X = X} A new levels (Err e) all_deep all_cost all
stops X A B new levels all_deep all_cost deep price own_deep own_price next_deep next_price faults.TooDeep wanted all deeper sum going h on = omega (arith, h, deeper, going.0)
stops X A B new levels all_deep all_cost deep price own_deep own_price next_deep next_price faults.TooCostly wanted all deeper sum going h on = omega (arith, h, sum, going.2)
stops X A B new levels all_deep all_cost deep price own_deep own_price next_deep next_price faults.TooManyWords wanted all deeper sum going h on = on h
stops X A B new levels all_deep all_cost deep price own_deep own_price next_deep next_price faults.OutOfMemory wanted all deeper sum going h on = on h

-- nothing hangs on elements that have no pointers
no_tree : (ts : Nodes) → count ts ≡ 0 → (greatest_depth ts ≡ 0) × (total_cost ts ≡ 0)
no_tree no_nodes e = (refl, refl)
no_tree (node t ts) e = absurd (omega (arith, e))

pub no_pointers : (d n : ℕ) (bs : Bodies) → n ≡ 0 → EachEven d n bs → (deepest_body bs ≡ 0) × (body_cost bs ≡ 0)
no_pointers d n no_bodies none e = (refl, refl)
no_pointers d n (body ws ts bs) none e =
    let own = no_tree ts (e.1 ∙ none) in
    let others = no_pointers d n bs none e.4 in
    (omega (arith, own.0, others.0), omega (arith, own.1, others.1))
