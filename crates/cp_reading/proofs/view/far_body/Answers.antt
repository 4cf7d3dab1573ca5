use Rattle.std.proofs.Common.{◌≡◌, ℕ, Ok, arith, refl, sym, ap, ◌∙◌}
use Rattle.cp_tree.specs.Node.{Node}
use Rattle.cp_words.specs.Segments.{words_of}
use Rattle.cp_reading.specs.Reading.{body_by, kids_at, most_nesting, most_traversal, pointer_read, area_read, node_in}
use Rattle.cp_reading.proofs.Views.{body_again, ok_of, ok_is_ok}
use Rattle.cp_reading.proofs.view.far_body.Goals as goal

-- what the pointer was read as is what its body is read as
led : (c : goal.In-Ok-area_of) → pointer_read (words_of c.args.segments.now) c.args.at c.args.pointer ≡ body_by c.args.at (kids_at most_nesting (words_of c.args.segments.now)) (words_of c.args.segments.now) most_traversal c.in-Ok-area_of.area
led c = rw (← c.in-Ok.ensures.target, ← c.in-Ok-area_of.ensures.area) refl

reborrow : (c : goal.In-Ok-area_of) → (x : Node × ℕ) × (pointer_read (words_of c.args.segments.now) c.args.at c.args.pointer ≡ Ok x) × (budget : ℕ) × (area_read (words_of c.args.segments.now) c.in-Ok-area_of.area ≡ Ok (x.0, budget))
reborrow c =
    let k = ok_of _ c.requires.checked in
    (k.0, k.1, _, body_again (words_of c.args.segments.now) c.args.at most_nesting most_traversal c.in-Ok-area_of.area k.0 (omega arith) (omega arith) c.in-Ok-area_of.ensures.within (sym (led c) ∙ k.1))

pub returns-in-Ok-area_of-clause-node : goal.returns-in-Ok-area_of-clause-node
returns-in-Ok-area_of-clause-node c = let a = reborrow c in ap node_in a.3 ∙ sym (ap node_in a.1)

pub returns-in-Ok-area_of-clause-part : goal.returns-in-Ok-area_of-clause-part
returns-in-Ok-area_of-clause-part c = (c.in-Ok-area_of.ensures.within, c.in-Ok-area_of.ensures.small, ok_is_ok _ _ (reborrow c).3)
