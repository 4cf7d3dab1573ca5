use Rattle.std.proofs.Common.{◌≡◌, ◌+◌, arith, Ok, Err, sym, ap, subst, ◌∙◌}
use Rattle.std.proofs.lemmas.Result.{err_from_is_err_and}
use Rattle.cp_reading.specs.Denotes.{Root}
use Rattle.cp_words.specs.Segments.{words_of}
use Rattle.cp_reading.specs.Reading.{root_of, area_read, node_in}
use Rattle.cp_reading.specs.Visited.{pointers}
use Rattle.cp_tree.specs.Shaped.{Shaped}
use Rattle.cp_reading.proofs.Fitting.{denotes_shaped}
use Rattle.cp_reading.proofs.Roots.{root_found, root_given}
use Rattle.cp_reading.proofs.RootFaults.{root_faulted}
use Rattle.cp_reading.proofs.Sound.{ok_is}
use Rattle.cp_reading.proofs.Views.{root_again, ok_is_ok, read-node}
use Rattle.cp_reading.proofs.FirstRoots.{first_is_met, met_is_first}
use Rattle.cp_reading.proofs.view.View.root_counted.Goals as goal

pub returns-in_err-area-clause-only : goal.returns-in_err-area-clause-only
returns-in_err-area-clause-only g c t r =
    let given = root_given c.nesting.result c.traversal.result (words_of c.lists-segments.result.now) c.args.limits t (sym c.nesting.ensures.value) (sym c.traversal.ensures.value) (rw c.lists-segments.ensures.all r) in
    let fault = c.in_err-area.ensures.fault in
    cc (given, fault)

pub returns-in_err-area-clause-fault : goal.returns-in_err-area-clause-fault
returns-in_err-area-clause-fault g c =
    let p = err_from_is_err_and c.from_residual.result c.from_residual.ensures.1 in
    let fault : root_of c.args.limits.nesting c.args.limits.traversal c.args.segments.now ≡ Err c.in_err-area.field-0.0 = rw (← c.lists-segments.ensures.all, ← c.nesting.ensures.value, ← c.traversal.ensures.value) c.in_err-area.ensures.fault in
    rw (p.1, p.2) (root_faulted c.args.segments.now c.args.limits _ fault)

pub returns-in_err-area-clause-first : goal.returns-in_err-area-clause-first
returns-in_err-area-clause-first g c =
    let p = err_from_is_err_and c.from_residual.result c.from_residual.ensures.1 in
    let fault : root_of c.args.limits.nesting c.args.limits.traversal c.args.segments.now ≡ Err c.in_err-area.field-0.0 = rw (← c.lists-segments.ensures.all, ← c.nesting.ensures.value, ← c.traversal.ensures.value) c.in_err-area.ensures.fault in
    rw (p.1, p.2) (met_is_first c.args.segments.now c.args.limits _ fault)

pub returns-in_err-area-clause-reported : goal.returns-in_err-area-clause-reported
returns-in_err-area-clause-reported g c f h =
    let p = err_from_is_err_and c.from_residual.result c.from_residual.ensures.1 in
    let fault : root_of c.args.limits.nesting c.args.limits.traversal c.args.segments.now ≡ Err c.in_err-area.field-0.0 = rw (← c.lists-segments.ensures.all, ← c.nesting.ensures.value, ← c.traversal.ensures.value) c.in_err-area.ensures.fault in
    let met = first_is_met c.args.segments.now c.args.limits f h in
    cc (p.1, p.2, fault, met)

pub returns-clause-reported : goal.returns-clause-reported
returns-clause-reported g c f h =
    let read = c.in_ok-area.ensures.read in
    let met : root_of c.nesting.result c.traversal.result (words_of c.lists-segments.result.now) ≡ Err f = rw (c.nesting.ensures.value, c.traversal.ensures.value, c.lists-segments.ensures.all) (first_is_met c.args.segments.now c.args.limits f h) in
    cc (read.root, met)

pub invariant_of-result : goal.invariant_of-result
invariant_of-result g c =
    let r = c.in_ok-area.ensures.read in
    let reborrow = root_again _ _ _ _ r c.nesting.ensures.range c.traversal.ensures.range in
    let found = root_found c.nesting.result c.traversal.result (words_of c.lists-segments.result.now) c.args.limits r.tree (sym c.nesting.ensures.value) (sym c.traversal.ensures.value) r.root in
    let shaped = denotes_shaped _ c.segments_fit.ensures r.tree 0 0 found.denoted in
    ((r.within, c.in_ok-area.ensures.small, ok_is_ok _ _ reborrow), subst Shaped (sym (read-node _ _ _ reborrow)) shaped, c.segment_at.ensures.words)

pub returns-clause-found : goal.returns-clause-found
returns-clause-found g c =
    let r = c.in_ok-area.ensures.read in
    let found = root_found c.nesting.result c.traversal.result (words_of c.lists-segments.result.now) c.args.limits r.tree (sym c.nesting.ensures.value) (sym c.traversal.ensures.value) r.root in
    subst (Root c.args.segments.now c.args.limits) (sym (read-node _ _ _ (root_again _ _ _ _ c.in_ok-area.ensures.read c.nesting.ensures.range c.traversal.ensures.range))) (rw c.lists-segments.ensures.all at found)

pub returns-clause-only : goal.returns-clause-only
returns-clause-only g c t r =
    let read = c.in_ok-area.ensures.read in
    let given = root_given c.nesting.result c.traversal.result (words_of c.lists-segments.result.now) c.args.limits t (sym c.nesting.ensures.value) (sym c.traversal.ensures.value) (rw c.lists-segments.ensures.all r) in
    ap (λ x. Ok x) (read-node _ _ _ (root_again _ _ _ _ c.in_ok-area.ensures.read c.nesting.ensures.range c.traversal.ensures.range) ∙ ok_is (sym read.root ∙ given))

pub returns-clause-exact : goal.returns-clause-exact
returns-clause-exact g c =
    let read = c.in_ok-area.ensures.read in
    let node = read-node _ _ _ (root_again _ _ _ _ read c.nesting.ensures.range c.traversal.ensures.range) in
    let counted : c.check_root.new.self.visits.now ≡ c.args.visits.now + 1 + pointers (node_in (area_read (words_of c.lists-segments.result.now) c.in_ok-area.area)) = c.in_ok-area.ensures.exact _ (rw node read.root) in
    omega (arith, counted)
