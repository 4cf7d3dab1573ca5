-- Segments that hold what was written.
use Rattle.std.proofs.Common.{◌≡◌, ℕ, ◌+◌, ◌<◌, ◌≤◌, ◌⊎◌, List, length, drop, get_or, refl, sym, ap, ◌∙◌, arith}
use Rattle.std.specs.Prelude.{slice_index}
use Rattle.std.proofs.lemmas.List.{ext_get_or, length-drop, length-take-le, get_or-take, get_or-drop, get_or-set_same, get_or-append-add}
use Rattle.cp_words.specs.Targets.{segment, words_at}
use Rattle.cp_writing.specs.Layout.{Filled}
use Rattle.cp_writing.specs.Sheets.{Written, Placed, put, append, end_of}
use Rattle.cp_writing.proofs.Sheets.{seg, seg-put_same, seg-append_last, end-last, full-put, last-put}
use Rattle.cp_writing.proofs.Keeps.{at, In, Keeps, keeps_append, Spot}

-- how far segments are filled
abbrev pub filled : Written → Filled
filled F = record { last = length F.full; used = length F.last }

-- it came after what was written before, or is one of these pointer words
abbrev pub Fresh : Written → ℕ → ℕ → ℕ → ℕ → ℕ → Type 0
Fresh F s p n b r = (end_of F b ≤ r) ⊎ In b r s p n

-- The segments hold what was written from F to G, whatever came later. These pointer words were set on the way.
pub record Later (F : Written) (s p n : ℕ) (G : Written) (S : List (List ℕ)) : Type 0 where
  pub same : (b r : ℕ) → Fresh F s p n b r → r < end_of G b → slice_index (segment S b) r ≡ at G b r
  pub ended : (b : ℕ) → b < length G.full → length (segment S b) ≡ end_of G b
  pub ends : (b : ℕ) → end_of G b ≤ length (segment S b)

-- what was written at first
pub at_first : {F M G : Written} {s p n s1 p1 n1 s2 p2 n2 : ℕ} {S : List (List ℕ)} → Later F s p n G S → Keeps M s2 p2 n2 G → ((b r : ℕ) → Fresh F s1 p1 n1 b r → Fresh F s p n b r)
    → ((b r : ℕ) → r < end_of M b → Fresh F s1 p1 n1 b r → ¬ (In b r s2 p2 n2)) → Later F s1 p1 n1 M S
at_first l k wider apart = record {
  same = λ b r fresh lt. l.same b r (wider b r fresh) (omega (arith, lt, k.ends b)) ∙ k.same b r lt (apart b r lt fresh);
  ended = λ b lt. l.ended b (omega (arith, lt, k.goes)) ∙ k.ended b lt;
  ends = λ b. omega (arith, l.ends b, k.ends b);
}

-- what was written at last
pub at_last : {F M G : Written} {s p n s1 p1 n1 : ℕ} {S : List (List ℕ)} → Later F s p n G S → ((b r : ℕ) → Fresh M s1 p1 n1 b r → Fresh F s p n b r) → Later M s1 p1 n1 G S
at_last l wider = record { same = λ b r fresh lt. l.same b r (wider b r fresh) lt; ended = l.ended; ends = l.ends }

-- a word that was set, and words that were appended
pub at-put : (F : Written) (s p w : ℕ) → s ≤ length F.full → p < end_of F s → at (put s p w F) s p ≡ w
at-put F s p w le lt = ap (λ xs. slice_index xs p) (seg-put_same F s p w le) ∙ get_or-set_same (seg F s) p w 0 lt

pub at-append_old : (F : Written) (ws : List ℕ) (b r : ℕ) → r < end_of F b → at (append ws F) b r ≡ at F b r
at-append_old F ws b r lt = (keeps_append F ws 0 0 0).same b r lt (λ i. absurd (omega (arith, i.2)))

pub at-append_new : (F : Written) (ws : List ℕ) (i : ℕ) → at (append ws F) (length F.full) (length F.last + i) ≡ get_or ws i 0
at-append_new F ws i = ap (λ xs. slice_index xs (length F.last + i)) (seg-append_last F ws) ∙ get_or-append-add F.last ws i 0

pub filled-put : (F : Written) (s p w : ℕ) → filled (put s p w F) ≡ filled F
filled-put F s p w = rw (full-put F s p w, last-put F s p w) refl

-- words that stand from a word of a segment on
abbrev pub Stand : Written → ℕ → ℕ → List ℕ → Type 0
Stand F s q xs = (i : ℕ) → i < length xs → at F s (q + i) ≡ get_or xs i 0

-- those of a body, where it was placed
pub stand : (F : Written) (s p size : ℕ) (xs : List ℕ) (x : Placed) → Spot F s p size x → length xs ≡ size → Stand (append xs x.arena) x.at.segment x.at.word xs
stand F s p size xs x h long i lt =
    let e = h.last (omega (arith, lt, long)) in
    let start : x.at.word ≡ length x.arena.last = h.end ∙ ap (end_of x.arena) e ∙ end-last x.arena in
    rw (e, start) (at-append_new x.arena xs i)

-- words that are those of a list
pub are_words : (S : List (List ℕ)) (s q n : ℕ) (ws : List ℕ) → length ws ≡ n → q + n ≤ length (segment S s) → ((i : ℕ) → i < n → slice_index (segment S s) (q + i) ≡ get_or ws i 0) → ws ≡ words_at S s q n
are_words S s q n ws long inside same =
    let capacity : n ≤ length (drop q (segment S s)) = omega (arith, length-drop q (segment S s), inside) in
    ext_get_or 0 ws (words_at S s q n) (long ∙ sym (length-take-le n (drop q (segment S s)) capacity))
    (λ i lt.
    let within : i < n = omega (arith, lt, long) in
    sym (get_or-take n (drop q (segment S s)) i 0 within ∙ get_or-drop q (segment S s) i 0 ∙ same i within))
