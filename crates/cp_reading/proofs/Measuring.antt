-- A body is read within limits exactly where its tree keeps to them.
use Rattle.std.proofs.Common.{◌≡◌, ℕ, zero, suc, ◌-◌, ◌≤◌, max, List, Some, Ok, Err, Result, is_ok, refl, sym, ap, ◌∙◌, subst, arith}
use Rattle.std.specs.Prelude.{Decides}
use Rattle.cp_tree.specs.Node.{Node, depth, cost}
use Rattle.cp_reading.specs.Fills.{IsBody, form_of, Fills}
use Rattle.cp_reading.specs.Viewed.{viewed_node, IsViewed}
use Rattle.cp_reading.specs.Reading.{◌>>=◌, Kids, charged, filled, price, IsWithin, body_by, kids_at, rows_at, node_in}
use Rattle.cp_reading.specs.Visited.{passed, answered, pointers}
use Rattle.cp_reading.specs.declared.area.Area.{Area}
use Rattle.cp_reading.specs.declared.fault.TreeFault.{TreeFault}
use Rattle.cp_reading.specs.declared.view.Viewed.TheVariants as viewed
use Rattle.cp_words.specs.declared.place.Place.{Place}
use Rattle.cp_reading.proofs.Complete.{fills_read, charge_taken}
use Rattle.cp_reading.proofs.Charges.{charged_ok}
use Rattle.cp_reading.proofs.Fills.{inner_depth, inner_cost, depth-body, cost-body}
use Rattle.cp_reading.proofs.Sound.{bind_ok, ok_is, within_sound, charged_is}
use Rattle.cp_reading.proofs.Views.{area_reads, some_is}

-- one tree fills a body
fills_one : (S : List (List ℕ)) (s q : ℕ) (t u : Node) → Fills S s q t → Fills S s q u → form_of t ≡ form_of u → t ≡ u
fills_one S s q t u h k same =
    let n = max (inner_depth t) (inner_depth u) in
    let budget = max (inner_cost t) (inner_cost u) in
    let one = fills_read t n S s q budget h (omega arith) (omega arith) in
    let other = fills_read u n S s q budget k (omega arith) (omega arith) in
    let other' : filled (rows_at n S) S (form_of t) s q budget ≡ Ok (u, budget - inner_cost u) = rw same other in
    ap (λ (x : Node × ℕ). x.0) (ok_is (sym one ∙ other'))

module _ (S : List (List ℕ)) (at : Place) (a : Area) (within : IsWithin S a) (t : Node) (fills : Fills S a.segment a.start t) (is_body : IsBody t) (form : form_of t ≡ a.form) where
  -- what is read within limits keeps to them
  pub reads_small : (n budget : ℕ) (x : Node × ℕ) → body_by at (kids_at n S) S budget a ≡ Ok x → (depth t ≤ n) × (cost t ≤ budget)
  unfolding kids_at
  reads_small zero budget x e = cc
  reads_small (suc m) budget x e =
      let into = bind_ok (charged at (Some (rows_at m S)) (price a.form) budget) _ x e in
      let paid = charged_is at (Some (rows_at m S)) (price a.form) budget into.0 into.1 in
      let same : rows_at m S ≡ into.0.0 = some_is paid.0 in
      let read = subst (λ (k : Kids). filled k S a.form a.segment a.start into.0.1 ≡ Ok x) (sym same) into.2 in
      let b = within_sound m S a.segment a.start into.0.1 a.form x within.1 within.2 read in
      let one : x.0 ≡ t = fills_one S a.segment a.start x.0 t b.fills fills (b.form ∙ sym form) in
      let deep = depth-body x.0 b.is_body in
      let dear = cost-body x.0 b.is_body in
      let priced : price (form_of x.0) ≡ price a.form = ap price b.form in
      subst (λ u. (depth u ≤ suc m) × (cost u ≤ budget)) one (omega (arith, deep, b.nests), omega (arith, dear, priced, b.costs, paid.1))

  -- a tree that keeps to the limits is read
  pub small_reads : (n budget : ℕ) → depth t ≤ n → cost t ≤ budget → (x : Node × ℕ) × (body_by at (kids_at n S) S budget a ≡ Ok x)
  small_reads n budget deep dear =
      let d = depth-body t is_body in
      let c = cost-body t is_body in
      let priced : price (form_of t) ≡ price a.form = ap price form in
      let paid = charge_taken at n (price a.form) budget (omega arith) (omega arith) in
      let read = fills_read t (n - 1) S a.segment a.start (budget - price a.form) fills (omega arith) (omega arith) in
      let read' = subst (λ f. filled (rows_at (n - 1) S) S f a.segment a.start (budget - price a.form) ≡ Ok (t, budget - price a.form - inner_cost t)) form read in
      let kids = ap (λ e. e >>= λ (k : Kids × ℕ). filled k.0 S a.form a.segment a.start k.1) (charged_ok at S (price a.form) budget n _ paid) in
      (_, kids ∙ read')

-- what a check of a body answered
pub measured : (S : List (List ℕ)) (at : Place) (a : Area) (n budget before after visits : ℕ) (r : Result (Unit {0}) TreeFault) → IsViewed S (viewed.Body a)
    → passed pointers before (body_by at (kids_at n S) S budget a) ≡ answered r after visits
    → Decides (is_ok r) ((depth (viewed_node S (viewed.Body a)) ≤ n) × (cost (viewed_node S (viewed.Body a)) ≤ budget))
measured S at a n budget before after visits r part told =
    let y = area_reads S a part.0 part.2 in
    let node : viewed_node S (viewed.Body a) ≡ y.0.0 = ap node_in y.1 in
    rw node (go r (body_by at (kids_at n S) S budget a) refl told y.0.0 y.2.fills y.2.is_body y.2.form)
  where
    go : (r : Result (Unit {0}) TreeFault) (b : Result (Node × ℕ) TreeFault) → body_by at (kids_at n S) S budget a ≡ b → passed pointers before b ≡ answered r after visits
        → (t : Node) → Fills S a.segment a.start t → IsBody t → form_of t ≡ a.form → Decides (is_ok r) ((depth t ≤ n) × (cost t ≤ budget))
    go (Ok done) (Ok x) e told t fills is_body form = (λ ok. reads_small S at a part.0 t fills is_body form n budget x e, λ small. refl)
    go (Ok done) (Err f) e told t fills is_body form = cc
    go (Err f) (Ok x) e told t fills is_body form = cc
    go (Err f) (Err g) e told t fills is_body form = (λ ok. cc, λ small. let x = small_reads S at a part.0 t fills is_body form n budget small.0 small.1 in cc (e, x.1))
