use Rattle.std.proofs.Common.{◌≡◌, inl, ℕ, List, [], refl, ◌∙◌, subst}
use Rattle.cp_words.specs.Segments.{words_of}
use Rattle.cp_frame.specs.Stream.{named_sizes}
use Rattle.cp_frame.specs.Parts.{body, halves, EndsInOne, Fills, IsWholeTable}
use Rattle.cp_frame.proofs.Begun.{begun_closed, fills_none, rest_pushed, still_table}
use Rattle.cp_frame.proofs.frame.OpenFrame.push_table.Goals as goal

pub close-requires-clause-fills : goal.close-requires-clause-fills
close-requires-clause-fills c = rw (c.in_ok-self.ensures.items, c.in_ok-self-2.ensures.items) (fills_none (named_sizes (halves c.deref-then-is_whole-3.result.now)))

pub returns-in_ok-close-clause-rest : goal.returns-in_ok-close-clause-rest
returns-in_ok-close-clause-rest c =
    let f = c.args.self.now in
    let none : body (words_of c.in_ok-self.field-0.items) c.in_ok-self-2.field-0.items ≡ [] = rw (c.in_ok-self.ensures.items, c.in_ok-self-2.ensures.items) refl in
    rest_pushed c.args.limits f c.args.word c.push.new.table.items (body (words_of c.close.new.segments.items) c.close.new.words.items) f.part.items c.requires.begun c.requires.no_part c.in_ok-push.ensures.items
    (c.in_ok-close.ensures.body ∙ none) c.requires.no_part

pub returns-in_ok-close-clause-begun : goal.returns-in_ok-close-clause-begun
returns-in_ok-close-clause-begun c =
    let V = c.close.new.segments.items in
    let W = c.close.new.words.items in
    let same = c.deref-then-is_whole-3.ensures.value in
    begun_closed c.args.limits (record { table = c.push.new.table; total = c.push.new.total; segments = c.close.new.segments; words = c.close.new.words; part = c.args.self.now.part; spare = c.first_segment.new.spare })
    c.in_ok-push.ensures.so_far (subst (λ (ws : List ℕ). IsWholeTable ws) c.deref.ensures.value (c.is_whole.ensures.0 c.if-is_whole.true))
    (subst (λ (T : List ℕ). Fills (named_sizes (halves T)) (words_of V) W) same c.in_ok-close.ensures.fills) (subst (λ (T : List ℕ). EndsInOne T V W) same c.in_ok-close.ensures.ends) c.requires.no_part

pub returns-else-is_whole-clause-rest : goal.returns-else-is_whole-clause-rest
returns-else-is_whole-clause-rest c =
    let f = c.args.self.now in
    let none : body (words_of f.segments.items) f.words.items ≡ [] = rw (c.requires.begun.no_segments, c.requires.begun.no_words) refl in
    rest_pushed c.args.limits f c.args.word c.push.new.table.items (body (words_of f.segments.items) f.words.items) f.part.items c.requires.begun c.requires.no_part c.in_ok-push.ensures.items none c.requires.no_part

pub returns-else-is_whole-clause-begun : goal.returns-else-is_whole-clause-begun
returns-else-is_whole-clause-begun c =
    let f = c.args.self.now in
    inl (inl (still_table c.args.limits (record { table = c.push.new.table; total = c.push.new.total; segments = f.segments; words = f.words; part = f.part; spare = f.spare }) c.deref.result.now c.is_whole.result
    c.in_ok-push.ensures.so_far c.deref.ensures.value c.is_whole.ensures.1 c.if-is_whole.false c.requires.begun.no_segments c.requires.begun.no_words c.requires.no_part))
