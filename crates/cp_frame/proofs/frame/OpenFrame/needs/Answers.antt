use Rattle.std.proofs.Common.{◌≡◌, ◌+◌, ◌-◌, ◌*◌, List, ℕ, length, sym, ap, arith}
use Rattle.std.specs.Vec.{vec_len}
use Rattle.cp_frame.specs.Parts.{count_of, least_words}
use Rattle.cp_packed.proofs.Opens.{is_by}
use Rattle.cp_frame.proofs.Needed.{needs_by, least_none, least_more}
use Rattle.cp_frame.proofs.frame.OpenFrame.needs.Goals as goal
use Rattle.cp_frame.proofs.frame.OpenFrame.needs.Goals.{then-is_empty, else-is_empty}

pub returns : goal.returns
returns c =
    let f = c.args.self.now in
    let words : c.if-is_empty.table + 1 + f.total ≡ least_words f = elim c.if-is_empty.branch [
      | then-is_empty w ↦ omega (arith, w.table-is, least_none f (let none : length f.table.items ≡ 0 = omega (arith, is_by (vec_len f.table) 0 (sym w.if-is_empty.ensures)) in none))
      | else-is_empty w ↦ omega (arith, w.table-is, w.count.ensures.value, least_more f (vec_len f.table) (let same : vec_len f.table ≡ length f.table.items = omega arith in same) w.if-is_empty.ensures, ap (λ (ws : List ℕ). count_of ws) w.deref.ensures.value)
    ] in
    needs_by f c.if-is_empty.table (8 * (c.if-is_empty.table + 1 + f.total - c.kept_words.result) - c.len.result) c.requires.kept c.requires.short words (omega (arith, c.kept_words.ensures, c.len.ensures))
