use Rattle.std.proofs.Common.{◌≡◌, ◌<◌, ◌⊎◌, ℕ, List, length, get_or, refl, ◌∙◌, ap, subst, arith}
use Rattle.cp_frame.specs.Parts.{halves, count_of, Fills}
use Rattle.cp_words.specs.Segments.{words_of}
use Rattle.cp_frame.specs.Stream.{named_sizes}
use Rattle.cp_frame.proofs.Parted.{part_open, part_full}
use Rattle.cp_frame.proofs.frame.OpenFrame.take_segment_groups.Goals as goal
use Rattle.cp_frame.proofs.frame.OpenFrame.take_segment_groups.Goals.{then-len-most+in_ok-close, else-len-most}

pub returns : goal.returns
returns c =
    let f = c.args.self.now in
    let table = c.deref.ensures.value in
    let new = c.take_groups.new.words in
    let size : c.size-most.result ≡ get_or (named_sizes (halves f.table.items)) (length f.segments.items) 0 =
    c.size-most.ensures.value ∙ ap (λ (T : List ℕ). get_or (named_sizes (halves T)) c.len.result 0) table ∙ ap (λ (n : ℕ). get_or (named_sizes (halves f.table.items)) n 0) (let n : c.len.result ≡ length f.segments.items = omega (arith, c.len.ensures) in n) in
    let spare = f.spare in
    let taken = c.in_ok-back.ensures.takes in
    elim c.if-len-most.branch [
      | then-len-most+in_ok-close w ↦
          (let full : length new.items ≡ c.size-most.result = omega (arith, w.if-len-most.true, c.len-2.ensures) in
          let same = w.deref-then-len-most.ensures.value in
          let sizes = λ (T : List ℕ). named_sizes (halves T) in
          rw w.self-is (part_full c.args.limits f c.requires.begun c.requires.no_part c.size-most.result c.args.run.now c.take_groups.new.run c.args.left.now new.items c.in_ok-back.back.now taken size
          w.close.new.segments w.close.new.words spare full (subst (λ (T : List ℕ). Fills (sizes T) (words_of w.close.new.segments.items) w.close.new.words.items) same w.in_ok-close.ensures.fills) w.in_ok-close.ensures.body
          (subst (λ (T : List ℕ). (length w.close.new.segments.items ≡ count_of T) ⊎ (length w.close.new.words.items < get_or (sizes T) (length w.close.new.segments.items) 0)) same w.in_ok-close.ensures.ends)))
      | else-len-most w ↦ rw w.self-is (part_open c.args.limits f c.requires.begun c.requires.no_part c.size-most.result c.args.run.now c.take_groups.new.run c.args.left.now new.items c.in_ok-back.back.now taken size
          new spare refl (λ e. omega (arith, e, w.if-len-most.false, c.len-2.ensures)))
    ]
