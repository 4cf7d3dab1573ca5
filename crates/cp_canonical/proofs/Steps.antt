-- One tree of a row after another, and one element of a composite list after another.
use Rattle.std.proofs.Common.{◌≡◌, ℕ, zero, suc, ◌+◌, ◌≤◌, ◌<◌, max, List, ◌++◌, length, take, replicate, Option, Some, None, refl, sym, ap, ◌∙◌, arith}
use Rattle.std.proofs.lemmas.List.{append_assoc, append-nil, length-append, length-replicate}
use Rattle.cp_tree.specs.Node.{Node, Nodes, node, Bodies, no_bodies, body, count, number_of, data_of, row_of}
use Rattle.cp_tree.specs.Seen.{part_of, body_at}
use Rattle.cp_reading.specs.Rows.{bodies_in}
use Rattle.cp_reading.proofs.Builds.{part-row, part-body}
use Rattle.cp_canonical.specs.Cut.{or_else, take_ptrs, cut, cut_row, cut_bodies, first_cap, first_cap_in, first_cap_of, most_words, most_ptrs, used_words, used_ptrs}
use Rattle.cp_canonical.specs.Arenas.{elements_blank, with_tree, with_row, with_bodies}
use Rattle.cp_canonical.proofs.Rows.{drop_row, drop_bodies, row_more, row_none, body_more, body_none, kept_at}
use Rattle.cp_canonical.proofs.Shapes.{count-take_all, count-cut_row, number-cut}
use Rattle.cp_canonical.proofs.Writes.{longer_row, longer_bodies}

none-else : (c d : Option ℕ) → c ≡ None → or_else c d ≡ d
none-else None d e = refl
none-else (Some i) d e = cc

some-else : (c d : Option ℕ) (i : ℕ) → c ≡ Some i → or_else c d ≡ Some i
some-else (Some j) d i e = e
some-else None d i e = cc

module _ (first n : ℕ) (t : Node) (some : n ≤ count (row_of t)) where
  abbrev all : Nodes
  all = take_ptrs n (cut_row (row_of t))

  number : count all ≡ n
  number = count-take_all n (cut_row (row_of t)) (omega (arith, some, count-cut_row (row_of t)))

  next : (i : ℕ) → i < n → drop_row i all ≡ node (cut (part_of t i)) (drop_row (i + 1) all)
  next i within = row_more all i (omega (arith, within, number)) ∙ ap (λ u. node u (drop_row (i + 1) all)) (kept_at n (row_of t) i within ∙ ap cut (sym (part-row t i (omega (arith, within, some)))))

  turn : (i : ℕ) (now : List ℕ) → i < n → with_row (first + i) (drop_row i all) now ≡ with_row (first + i + 1) (drop_row (i + 1) all) (with_tree (first + i) (cut (part_of t i)) now)
  turn i now within = ap (λ us. with_row (first + i) us now) (next i within)

  pub row_goes_on : (i : ℕ) (now : List ℕ) (wanted : List ℕ) → i < n → with_row (first + i) (drop_row i all) now ≡ wanted → with_row (first + (i + 1)) (drop_row (i + 1) all) (with_tree (first + i) (cut (part_of t i)) now) ≡ wanted
  row_goes_on i now wanted within e =
      let place : first + (i + 1) ≡ first + i + 1 = omega arith in
      ap (λ q. with_row q (drop_row (i + 1) all) (with_tree (first + i) (cut (part_of t i)) now)) place ∙ sym (turn i now within) ∙ e

  pub row_caps_on : (i : ℕ) → i < n → first_cap_in (drop_row i all) ≡ first_cap_in all → first_cap (cut (part_of t i)) ≡ None → first_cap_in (drop_row (i + 1) all) ≡ first_cap_in all
  row_caps_on i within e none = sym (none-else (first_cap (cut (part_of t i))) (first_cap_in (drop_row (i + 1) all)) none) ∙ ap first_cap_in (sym (next i within)) ∙ e

  pub row_stops : (i j : ℕ) → i < n → first_cap_in (drop_row i all) ≡ first_cap_in all → first_cap (cut (part_of t i)) ≡ Some j → first_cap_in all ≡ Some j
  row_stops i j within e found = sym e ∙ ap first_cap_in (next i within) ∙ some-else (first_cap (cut (part_of t i))) (first_cap_in (drop_row (i + 1) all)) j found

  pub row_longer : (i : ℕ) (now wanted : List ℕ) → i < n → with_row (first + i) (drop_row i all) now ≡ wanted → length (with_tree (first + i) (cut (part_of t i)) now) ≤ length wanted
  row_longer i now wanted within e =
      omega (arith, longer_row (drop_row (i + 1) all) (first + i + 1) (with_tree (first + i) (cut (part_of t i)) now), ap length (sym (turn i now within) ∙ e))

  pub row_ends : (i : ℕ) (now wanted : List ℕ) → n ≤ i → with_row (first + i) (drop_row i all) now ≡ wanted → now ≡ wanted
  row_ends i now wanted end e = ap (λ us. with_row (first + i) us now) (sym (row_none all i (omega (arith, end, number)))) ∙ e

  pub row_caps_end : (i : ℕ) → n ≤ i → first_cap_in (drop_row i all) ≡ first_cap_in all → first_cap_in all ≡ None
  row_caps_end i end e = sym e ∙ ap first_cap_in (row_none all i (omega (arith, end, number)))

module _ (d n : ℕ) (t : Node) where
  abbrev each : Bodies
  each = cut_bodies d n (bodies_in t)

  cut_at : (bs : Bodies) (i : ℕ) → i < number_of bs → (data_of (body_at (cut_bodies d n bs) i) ≡ take d (data_of (body_at bs i))) × (row_of (body_at (cut_bodies d n bs) i) ≡ take_ptrs n (cut_row (row_of (body_at bs i))))
  cut_at no_bodies i h = absurd (omega (arith, h))
  cut_at (body ws ts bs) zero h = (refl, refl)
  cut_at (body ws ts bs) (suc i) h = cut_at bs i (omega (arith, h))

  next_body : (i : ℕ) → i < number_of (bodies_in t) → drop_bodies i each ≡ body (take d (data_of (part_of t i))) (take_ptrs n (cut_row (row_of (part_of t i)))) (drop_bodies (i + 1) each)
  next_body i within =
      let part = part-body t i within in
      let at = cut_at (bodies_in t) i within in
      body_more each i (omega (arith, within, number-cut d n (bodies_in t)))
      ∙ ap (λ ws. body ws (row_of (body_at each i)) (drop_bodies (i + 1) each)) (at.0 ∙ ap (λ u. take d (data_of u)) (sym part))
      ∙ ap (λ us. body (take d (data_of (part_of t i))) us (drop_bodies (i + 1) each)) (at.1 ∙ ap (λ u. take_ptrs n (cut_row (row_of u))) (sym part))

  body_turn : (q i : ℕ) (now : List ℕ) → i < number_of (bodies_in t) → with_bodies q d n (drop_bodies i each) now ≡ with_bodies (q + d + n) d n (drop_bodies (i + 1) each) (with_row (q + d) (take_ptrs n (cut_row (row_of (part_of t i)))) now)
  body_turn q i now within = ap (λ bs. with_bodies q d n bs now) (next_body i within)

  pub bodies_go_on : (q i : ℕ) (now wanted : List ℕ) → i < number_of (bodies_in t) → with_bodies q d n (drop_bodies i each) now ≡ wanted → with_bodies (q + d + n) d n (drop_bodies (i + 1) each) (with_row (q + d) (take_ptrs n (cut_row (row_of (part_of t i)))) now) ≡ wanted
  bodies_go_on q i now wanted within e = sym (body_turn q i now within) ∙ e

  pub bodies_caps_on : (i : ℕ) → i < number_of (bodies_in t) → first_cap_of (drop_bodies i each) ≡ first_cap_of each → first_cap_in (take_ptrs n (cut_row (row_of (part_of t i)))) ≡ None → first_cap_of (drop_bodies (i + 1) each) ≡ first_cap_of each
  bodies_caps_on i within e none = sym (none-else (first_cap_in (take_ptrs n (cut_row (row_of (part_of t i))))) (first_cap_of (drop_bodies (i + 1) each)) none) ∙ ap first_cap_of (sym (next_body i within)) ∙ e

  pub bodies_stop : (i j : ℕ) → i < number_of (bodies_in t) → first_cap_of (drop_bodies i each) ≡ first_cap_of each → first_cap_in (take_ptrs n (cut_row (row_of (part_of t i)))) ≡ Some j → first_cap_of each ≡ Some j
  bodies_stop i j within e found = sym e ∙ ap first_cap_of (next_body i within) ∙ some-else (first_cap_in (take_ptrs n (cut_row (row_of (part_of t i))))) (first_cap_of (drop_bodies (i + 1) each)) j found

  pub bodies_longer : (q i : ℕ) (now wanted : List ℕ) → i < number_of (bodies_in t) → with_bodies q d n (drop_bodies i each) now ≡ wanted → length (with_row (q + d) (take_ptrs n (cut_row (row_of (part_of t i)))) now) ≤ length wanted
  bodies_longer q i now wanted within e =
      omega (arith, longer_bodies (drop_bodies (i + 1) each) (q + d + n) d n (with_row (q + d) (take_ptrs n (cut_row (row_of (part_of t i)))) now), ap length (sym (body_turn q i now within) ∙ e))

  pub bodies_end : (q i : ℕ) (now wanted : List ℕ) → number_of (bodies_in t) ≤ i → with_bodies q d n (drop_bodies i each) now ≡ wanted → now ≡ wanted
  bodies_end q i now wanted end e = ap (λ bs. with_bodies q d n bs now) (sym (body_none each i (omega (arith, end, number-cut d n (bodies_in t))))) ∙ e

  pub bodies_caps_end : (i : ℕ) → number_of (bodies_in t) ≤ i → first_cap_of (drop_bodies i each) ≡ first_cap_of each → first_cap_of each ≡ None
  bodies_caps_end i end e = sym e ∙ ap first_cap_of (body_none each i (omega (arith, end, number-cut d n (bodies_in t))))

  -- ---- the elements themselves

  blank_next : (i : ℕ) → i < number_of (bodies_in t) → elements_blank d n (drop_bodies i (bodies_in t)) ≡ take d (data_of (part_of t i)) ++ replicate n 0 ++ elements_blank d n (drop_bodies (i + 1) (bodies_in t))
  blank_next i within =
      ap (elements_blank d n) (body_more (bodies_in t) i within) ∙ ap (λ u. take d (data_of u) ++ replicate n 0 ++ elements_blank d n (drop_bodies (i + 1) (bodies_in t))) (sym (part-body t i within))

  -- the words of an element, then its blank ones, then the rest
  pub blanks_go_on : (i : ℕ) (now wanted : List ℕ) → i < number_of (bodies_in t) → now ++ elements_blank d n (drop_bodies i (bodies_in t)) ≡ wanted
      → (now ++ take d (data_of (part_of t i))) ++ replicate n 0 ++ elements_blank d n (drop_bodies (i + 1) (bodies_in t)) ≡ wanted
  blanks_go_on i now wanted within e =
      let words = take d (data_of (part_of t i)) in
      let rest = elements_blank d n (drop_bodies (i + 1) (bodies_in t)) in
      ap (λ ws. ws ++ rest) (append_assoc now words (replicate n 0)) ∙ append_assoc now (words ++ replicate n 0) rest ∙ ap (λ ws. now ++ ws) (sym (blank_next i within)) ∙ e

  pub blanks_longer : (i : ℕ) (now wanted : List ℕ) → i < number_of (bodies_in t) → now ++ elements_blank d n (drop_bodies i (bodies_in t)) ≡ wanted → length (now ++ take d (data_of (part_of t i))) + n ≤ length wanted
  blanks_longer i now wanted within e =
      let whole = ap length (blanks_go_on i now wanted within e) in
      let words = now ++ take d (data_of (part_of t i)) in
      omega (arith, whole, length-append (words ++ replicate n 0) (elements_blank d n (drop_bodies (i + 1) (bodies_in t))), length-append words (replicate n 0), length-replicate {A = ℕ} n 0)

  pub blanks_end : (i : ℕ) (now wanted : List ℕ) → number_of (bodies_in t) ≤ i → now ++ elements_blank d n (drop_bodies i (bodies_in t)) ≡ wanted → now ≡ wanted
  blanks_end i now wanted end e = sym (append-nil now) ∙ ap (λ bs. now ++ elements_blank d n bs) (sym (body_none (bodies_in t) i end)) ∙ e

-- the most of the elements so far, and of the rest
pub most_words-next : (t : Node) (i m : ℕ) → i < number_of (bodies_in t) → max m (most_words (drop_bodies i (bodies_in t))) ≡ max (max m (used_words (data_of (part_of t i)))) (most_words (drop_bodies (i + 1) (bodies_in t)))
most_words-next t i m within =
    let e = ap most_words (body_more (bodies_in t) i within) in
    let part = ap (λ u. used_words (data_of u)) (part-body t i within) in
    omega (arith, e, part)

pub most_ptrs-next : (t : Node) (i m : ℕ) → i < number_of (bodies_in t) → max m (most_ptrs (drop_bodies i (bodies_in t))) ≡ max (max m (used_ptrs (row_of (part_of t i)))) (most_ptrs (drop_bodies (i + 1) (bodies_in t)))
most_ptrs-next t i m within =
    let e = ap most_ptrs (body_more (bodies_in t) i within) in
    let part = ap (λ u. used_ptrs (row_of u)) (part-body t i within) in
    omega (arith, e, part)
