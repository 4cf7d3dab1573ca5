-- What loops keep while rows of trees are written.
use Rattle.std.proofs.Common.{◌≡◌, ℕ, ◌+◌, ◌*◌, ◌^◌, ◌<◌, List, sym, ap, subst, ◌∙◌, arith}
use Rattle.std.proofs.Math.Nat.{suc-mul}
use Rattle.cp_words.specs.declared.place.Place.{Place}
use Rattle.cp_tree.specs.declared.fault.WriteFault.{WriteFault}
use Rattle.cp_writing.specs.declared.arena.Arena.{Arena}
use Rattle.cp_tree.specs.Node.{Elements, voids, bits, bytes, halves, quads, words, element_count, Node, Nodes, node, Bodies, body, count, number_of}
use Rattle.cp_tree.specs.Shaped.{ElementsFit, Shaped, EachShaped, EachEven}
use Rattle.cp_writing.specs.Sheets.{Written, written, IsWithin, IsRun, IsPlace, Refuses}
use Rattle.cp_writing.specs.Writing.{row_by, bodies_by, tree_on, row_on, bodies_on}
use Rattle.cp_writing.proofs.Begins.{writes_err}
use Rattle.cp_writing.proofs.Keeps.{keeps_tree, keeps_row, keeps_bodies}

-- These trees are still to be written, whose pointers stand from a place on, and then all is as it is to be.
abbrev pub RowKept : Arena → Arena → Place → Nodes → Written → Type 0
RowKept old cur at here all = IsWithin cur × (cur.capacity ≡ old.capacity) × IsRun (written cur) at (count here) × EachShaped here × (row_on cur at here ≡ all)

module _ (old cur : Arena) (at : Place) (here rest : Nodes) (t : Node) (all : Written) (e : here ≡ node t rest) (kept : RowKept old cur at here all) where
  abbrev next : Place
  next = record { segment = at.segment; word = at.word + 1 }

  tree_shaped : Shaped t × EachShaped rest
  tree_shaped = subst EachShaped e kept.3

  pub tree_needs : IsWithin cur × IsPlace (written cur) at × Shaped t
  tree_needs = let c = ap count e in (kept.0, (kept.2.0, omega (arith, kept.2.1, c)), tree_shaped.0)

  row_is : row_by cur.capacity at.segment (at.word + 1) rest (tree_on cur at t) ≡ all
  row_is = sym (ap (λ r. row_on cur at r) e) ∙ kept.4

  run_is : IsRun (tree_on cur at t) next (count rest)
  run_is =
      let k = keeps_tree cur.capacity t at.segment at.word (written cur) tree_shaped.0 kept.2.0 in
      let c = ap count e in
      (omega (arith, kept.2.0, k.goes), omega (arith, kept.2.1, c, k.ends at.segment))

  pub tree_refused : (fault : WriteFault) → Refuses cur.capacity fault (tree_on cur at t) → Refuses old.capacity fault all
  tree_refused fault h =
      let G = tree_on cur at t in
      let k = keeps_row cur.capacity rest at.segment (at.word + 1) G tree_shaped.1 run_is.0 run_is.1 in
      subst (λ c. Refuses c fault all) kept.1 (writes_err cur.capacity fault G all (omega (arith, k.counts, ap (λ (W : Written). W.words) row_is)) h)

  pub row_next : (new : Arena) → written new ≡ tree_on cur at t → IsWithin new → new.capacity ≡ cur.capacity → RowKept old new next rest all
  row_next new step keeps same = (
    keeps,
    same ∙ kept.1,
    subst (λ W. IsRun W next (count rest)) (sym step) run_is,
    tree_shaped.1,
    ap (λ c. row_by c at.segment (at.word + 1) rest (written new)) same ∙ ap (row_by cur.capacity at.segment (at.word + 1) rest) step ∙ row_is,
  )

-- The same of elements of a composite list.
abbrev pub BodiesKept : Arena → Arena → Place → ℕ → ℕ → Bodies → Written → Type 0
BodiesKept old cur at d n here all = IsWithin cur × (cur.capacity ≡ old.capacity) × IsRun (written cur) at (number_of here * (d + n)) × EachEven d n here × (bodies_on cur at d n here ≡ all)

module _ (old cur : Arena) (at : Place) (d n : ℕ) (here rest : Bodies) (ws : List ℕ) (ts : Nodes) (all : Written) (e : here ≡ body ws ts rest) (kept : BodiesKept old cur at d n here all) where
  abbrev pointers : Place
  pointers = record { segment = at.segment; word = at.word + d }

  abbrev after : Place
  after = record { segment = at.segment; word = at.word + d + n }

  body_even : EachEven d n (body ws ts rest)
  body_even = subst (EachEven d n) e kept.3

  number_next : number_of here * (d + n) ≡ number_of rest * (d + n) + (d + n)
  number_next = ap (λ k. number_of k * (d + n)) e ∙ suc-mul (number_of rest) (d + n)

  body_run : IsRun (written cur) pointers (count ts)
  body_run = (kept.2.0, omega (arith, kept.2.1, number_next, body_even.1))

  pub body_needs : IsWithin cur × IsRun (written cur) pointers (count ts) × EachShaped ts
  body_needs = (kept.0, body_run, body_even.3)

  bodies_are : bodies_by cur.capacity at.segment (at.word + d + n) d n rest (row_on cur pointers ts) ≡ all
  bodies_are = sym (ap (λ r. bodies_on cur at d n r) e) ∙ kept.4

  bodies_run : IsRun (row_on cur pointers ts) after (number_of rest * (d + n))
  bodies_run =
      let k = keeps_row cur.capacity ts at.segment (at.word + d) (written cur) body_even.3 kept.2.0 body_run.1 in
      (omega (arith, kept.2.0, k.goes), omega (arith, kept.2.1, number_next, k.ends at.segment))

  pub body_refused : (fault : WriteFault) → Refuses cur.capacity fault (row_on cur pointers ts) → Refuses old.capacity fault all
  body_refused fault h =
      let G = row_on cur pointers ts in
      let k = keeps_bodies cur.capacity rest at.segment (at.word + d + n) d n G body_even.4 bodies_run.0 bodies_run.1 in
      subst (λ c. Refuses c fault all) kept.1 (writes_err cur.capacity fault G all (omega (arith, k.counts, ap (λ (W : Written). W.words) bodies_are)) h)

  pub bodies_next : (new : Arena) → written new ≡ row_on cur pointers ts → IsWithin new → new.capacity ≡ cur.capacity → BodiesKept old new after d n rest all
  bodies_next new step keeps same = (
    keeps,
    same ∙ kept.1,
    subst (λ W. IsRun W after (number_of rest * (d + n))) (sym step) bodies_run,
    body_even.4,
    ap (λ c. bodies_by c at.segment (at.word + d + n) d n rest (written new)) same ∙ ap (bodies_by cur.capacity at.segment (at.word + d + n) d n rest) step ∙ bodies_are,
  )

-- a list that a message can hold has few elements
pub few_elements : (es : Elements) → ElementsFit es → element_count es < 2 ^ 29
few_elements (voids n) fit = fit
few_elements (bits bs) fit = fit
few_elements (bytes ns) fit = fit.0
few_elements (halves ns) fit = fit.0
few_elements (quads ns) fit = fit.0
few_elements (words ns) fit = fit.0
