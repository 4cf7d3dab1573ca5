-- Bodies that are placed and whose words are appended.
use Rattle.std.proofs.Common.{◌≡◌, ℕ, ◌+◌, ◌*◌, ◌<◌, ◌≤◌, List, [], ◌∷◌, ◌++◌, length, replicate, Ok, Err, refl, sym, ap, subst, ◌∙◌, arith}
use Rattle.std.proofs.lemmas.Bool.{ne_eqb, eq-eqb}
use Rattle.std.proofs.lemmas.List.{append_assoc, length-append, length-replicate}
use Rattle.cp_words.specs.declared.pointer.ElementSize.TheVariants as sizes
use Rattle.cp_words.specs.declared.kind.BodyKind.TheVariants as kinds
use Rattle.cp_words.specs.declared.place.Place.{Place}
use Rattle.cp_tree.specs.declared.fault.WriteFault.{WriteFault}
use Rattle.cp_tree.specs.declared.fault.WriteFault.TheVariants as faults
use Rattle.cp_writing.specs.declared.arena.Capacity.{Capacity}
use Rattle.cp_writing.specs.declared.arena.Arena.{Arena}
use Rattle.cp_tree.specs.Node.{Node, struct, ptrs, structs, Nodes, no_nodes, node, Bodies, no_bodies, body, count, number_of}
use Rattle.cp_tree.specs.Shaped.{Shaped, EachEven}
use Rattle.cp_writing.specs.Sheets.{Written, written, Placed, put, append, IsPlace, IsRun, IsWithin, SameLimits, Appends, Refuses}
use Rattle.cp_writing.specs.Writing.{body_blank, bodies_blank, tag_word, struct_placed, ptrs_placed, structs_placed, struct_begun, ptrs_begun, structs_begun, Begins, BeginsBodies, tree_by, row_by, bodies_by, tree_on, row_on, bodies_on}
use Rattle.cp_writing.proofs.Sheets.{put-keeps, full-put, end-put, within, limits_on}
use Rattle.cp_writing.proofs.Keeps.{Spot, spot, Lies, lies, length-blank, length-bodies, keeps_row, keeps_bodies}

pub append_twice : (F : Written) (a b : List ℕ) → append b (append a F) ≡ append (a ++ b) F
append_twice F a b =
    let words : F.words + length a + length b ≡ F.words + length (a ++ b) = omega (arith, length-append a b) in
    rw (append_assoc F.last a b, words) refl

-- what is too much for a part is too much for the whole
pub writes_err : (capacity : Capacity) (e : WriteFault) (A B : Written) → A.words ≤ B.words → Refuses capacity e A → Refuses capacity e B
writes_err capacity faults.TooManyWords A B le h = omega (arith, le, h)
writes_err capacity faults.OutOfMemory A B le h = tt
writes_err capacity faults.TooDeep A B le h = absurd h
writes_err capacity faults.TooCostly A B le h = absurd h

-- what hangs on a body has its pointers where the body was placed
pub run_of : (F : Written) (s p size : ℕ) (xs : List ℕ) (x : Placed) (new : Written) (start : Place) (m n : ℕ) → Spot F s p size x → length xs ≡ size → new ≡ append xs x.arena → start ≡ x.at → m + n ≤ length xs
    → IsRun new (record { segment = start.segment; word = start.word + m }) n
run_of F s p size xs x new start m n h long is at within =
    let l = lies F s p size xs x h long in
    rw (is, at) (l.there, omega (arith, l.inside, within))

-- the words of elements that a loop has still before it, and that the first of them has no more words than all
module _ (here rest : Bodies) (ws us : List ℕ) (ts : Nodes) (n : ℕ) (cur all : Written) (e : here ≡ body ws ts rest) (same : us ≡ ws) (many : n ≡ count ts) (kept : append (bodies_blank here) cur ≡ all) where
  pub next_blank : (new : Written) → new ≡ append (body_blank us n) cur → append (bodies_blank rest) new ≡ all
  next_blank new step =
      let words : bodies_blank here ≡ body_blank us n ++ bodies_blank rest = ap bodies_blank e ∙ ap (λ vs. body_blank vs (count ts) ++ bodies_blank rest) (sym same) ∙ ap (λ k. body_blank us k ++ bodies_blank rest) (sym many) in
      ap (append (bodies_blank rest)) step ∙ append_twice cur (body_blank us n) (bodies_blank rest) ∙ ap (λ vs. append vs cur) (sym words) ∙ kept

  pub first_blank : (append (body_blank us n) cur).words ≤ all.words
  first_blank =
      let words : (append (body_blank us n) cur).words + length (bodies_blank rest) ≡ all.words = ap (λ (W : Written). W.words) (next_blank (append (body_blank us n) cur) refl) in
      omega (arith, words)

-- what hangs on a row of trees, or of elements, from a place on is written from there on
row_at : (capacity : Capacity) (ts : Nodes) (first : Place) (new : Arena) (x : Placed) → new.capacity ≡ capacity → first ≡ x.at → written new ≡ x.arena → row_on new first ts ≡ row_by capacity x.at.segment x.at.word ts x.arena
row_at capacity ts first new x same at is = ap (λ c. row_by c first.segment first.word ts (written new)) same ∙ ap (row_by capacity first.segment first.word ts) is ∙ ap (λ (q : Place). row_by capacity q.segment q.word ts x.arena) at

bodies_at : (capacity : Capacity) (d n : ℕ) (bs : Bodies) (first : Place) (new : Arena) (x : Placed) → new.capacity ≡ capacity → first ≡ x.at → written new ≡ x.arena → bodies_on new first d n bs ≡ bodies_by capacity x.at.segment x.at.word d n bs x.arena
bodies_at capacity d n bs first new x same at is = ap (λ c. bodies_by c first.segment first.word d n bs (written new)) same ∙ ap (bodies_by capacity first.segment first.word d n bs) is ∙ ap (λ (q : Place). bodies_by capacity q.segment q.word d n bs x.arena) at

-- a struct of size zero, and any other
empty_struct : (capacity : Capacity) (s p : ℕ) (ws : List ℕ) (ts : Nodes) (F : Written) → length ws + count ts ≡ 0 → tree_by capacity s p (struct ws ts) F ≡ put s p 4294967292 F
empty_struct capacity s p ws ts F e = rw (eq-eqb (length ws + count ts) 0 e) refl

some_struct : (capacity : Capacity) (s p : ℕ) (ws : List ℕ) (ts : Nodes) (F : Written) → 0 < length ws + count ts
    → tree_by capacity s p (struct ws ts) F ≡ row_by capacity (struct_begun capacity s p ws (count ts) F).at.segment (struct_begun capacity s p ws (count ts) F).at.word ts (struct_begun capacity s p ws (count ts) F).arena
some_struct capacity s p ws ts F some = rw (ne_eqb (length ws + count ts) 0 (λ e. omega (arith, e, some))) refl

nothing_hangs : (capacity : Capacity) (s p : ℕ) (ts : Nodes) (F : Written) → count ts ≡ 0 → row_by capacity s p ts F ≡ F
nothing_hangs capacity s p no_nodes F e = refl
nothing_hangs capacity s p (node t ts) F e = absurd (omega (arith, e))

pub nothing_hangs_on : (capacity : Capacity) (s q d n : ℕ) (bs : Bodies) (F : Written) → n ≡ 0 → EachEven d n bs → bodies_by capacity s q d n bs F ≡ F
nothing_hangs_on capacity s q d n no_bodies F none e = refl
nothing_hangs_on capacity s q d n (body ws ts bs) F none e = ap (bodies_by capacity s (q + d + n) d n bs) (nothing_hangs capacity s (q + d) ts F (e.1 ∙ none)) ∙ nothing_hangs_on capacity s (q + d + n) d n bs F none e.4

pub empty_begins : (A B : Arena) (at : Place) (ws : List ℕ) (n : ℕ) → length ws + n ≡ 0 → IsPlace (written A) at → IsWithin A → written B ≡ put at.segment at.word 4294967292 (written A) → SameLimits A B → Begins A B (Ok at) at n (struct ws)
empty_begins A B at ws n none there keeps is same =
    let F = written A in
    let s = at.segment in
    let p = at.word in
    let G = put s p 4294967292 F in
    let run : IsRun G at n = (omega (arith, there.0, full-put F s p 4294967292), omega (arith, there.1, none, end-put F s p 4294967292 s there.0)) in (
      within A B G is same (put-keeps A.capacity F s p 4294967292 there.0 keeps),
      subst (λ W. IsRun W at n) (sym is) run,
      same,
      λ ts e. empty_struct A.capacity s p ws ts F (omega (arith, none, e)) ∙ sym is ∙ sym (nothing_hangs B.capacity s p ts (written B) (omega (arith, none, e))),
    )

module _ (capacity : Capacity) (s p : ℕ) (ws : List ℕ) (n : ℕ) (F : Written) (some : 0 < length ws + n) where
  abbrev begun_struct : ℕ → Placed
  begun_struct k = struct_begun capacity s p ws k F

  struct_is : (ts : Nodes) → count ts ≡ n → tree_by capacity s p (struct ws ts) F ≡ row_by capacity (begun_struct n).at.segment (begun_struct n).at.word ts (begun_struct n).arena
  struct_is ts e = some_struct capacity s p ws ts F (omega (arith, some, e)) ∙ ap (λ k. row_by capacity (begun_struct k).at.segment (begun_struct k).at.word ts (begun_struct k).arena) e

  pub struct_hangs : (first : Place) (new : Arena) → new.capacity ≡ capacity → first ≡ (begun_struct n).at → written new ≡ (begun_struct n).arena → (ts : Nodes) → count ts ≡ n → tree_by capacity s p (struct ws ts) F ≡ row_on new first ts
  struct_hangs first new same at is ts e = struct_is ts e ∙ sym (row_at capacity ts first new (begun_struct n) same at is)

  -- what hangs on a body has no fewer words than the body
  pub struct_refuses : (e : WriteFault) (A : Written) → s ≤ length F.full → Refuses capacity e A → A.words ≤ (begun_struct n).arena.words → (ts : Nodes) → count ts ≡ n → Shaped (struct ws ts) → Refuses capacity e (tree_by capacity s p (struct ws ts) F)
  struct_refuses e A le h fewer ts many shaped =
      let x = struct_placed capacity s p ws n F in
      let l = lies F s p (length ws + n) (body_blank ws n) x (spot capacity s p (kinds.Struct (length ws) n) (length ws + n) F le) (length-blank ws n) in
      let k = keeps_row capacity ts x.at.segment (x.at.word + length ws) (begun_struct n).arena shaped.2 l.there (omega (arith, l.inside, length-blank ws n, many)) in
      writes_err capacity e A _ (omega (arith, fewer, k.counts, ap (λ (W : Written). W.words) (struct_is ts many))) h

module _ (capacity : Capacity) (s p n : ℕ) (F : Written) where
  abbrev begun_ptrs : ℕ → Placed
  begun_ptrs k = ptrs_begun capacity s p k F

  ptrs_are : (ts : Nodes) → count ts ≡ n → tree_by capacity s p (ptrs ts) F ≡ row_by capacity (begun_ptrs n).at.segment (begun_ptrs n).at.word ts (begun_ptrs n).arena
  ptrs_are ts e = ap (λ k. row_by capacity (begun_ptrs k).at.segment (begun_ptrs k).at.word ts (begun_ptrs k).arena) e

  pub ptrs_hang : (first : Place) (new : Arena) → new.capacity ≡ capacity → first ≡ (begun_ptrs n).at → written new ≡ (begun_ptrs n).arena → (ts : Nodes) → count ts ≡ n → tree_by capacity s p (ptrs ts) F ≡ row_on new first ts
  ptrs_hang first new same at is ts e = ptrs_are ts e ∙ sym (row_at capacity ts first new (begun_ptrs n) same at is)

  pub ptrs_refuse : (e : WriteFault) (A : Written) → s ≤ length F.full → Refuses capacity e A → A.words ≤ (begun_ptrs n).arena.words → (ts : Nodes) → count ts ≡ n → Shaped (ptrs ts) → Refuses capacity e (tree_by capacity s p (ptrs ts) F)
  ptrs_refuse e A le h fewer ts many shaped =
      let x = ptrs_placed capacity s p n F in
      let blank = replicate {A = ℕ} n 0 in
      let long = length-replicate {A = ℕ} n 0 in
      let l = lies F s p n blank x (spot capacity s p (kinds.List sizes.Pointer n) n F le) long in
      let k = keeps_row capacity ts x.at.segment (x.at.word + 0) (begun_ptrs n).arena shaped.1 l.there (omega (arith, l.inside, long, many)) in
      writes_err capacity e A _ (omega (arith, fewer, k.counts, ap (λ (W : Written). W.words) (ptrs_are ts many))) h

module _ (capacity : Capacity) (at : Place) (d n : ℕ) (bs : Bodies) (F : Written) (k : ℕ) (many : k ≡ number_of bs) (shaped : Shaped (structs d n bs)) (le : at.segment ≤ length F.full) where
  abbrev begun_structs : ℕ → List ℕ → Placed
  begun_structs m ws = structs_begun capacity at.segment at.word d n m ws F

  abbrev elements : List ℕ
  elements = tag_word (number_of bs) d n ∷ bodies_blank bs

  long : length elements ≡ number_of bs * (d + n) + 1
  long = omega (arith, length-bodies d n bs shaped.3)

  structs_lie : Lies F at.segment at.word elements (structs_placed capacity at.segment at.word d n (number_of bs) F)
  structs_lie =
      let size = number_of bs * (d + n) in
      lies F at.segment at.word (size + 1) elements _ (spot capacity at.segment at.word (kinds.List sizes.Composite size) (size + 1) F le) long

  counted : (begun_structs (number_of bs) (bodies_blank bs)).arena.words ≤ (tree_by capacity at.segment at.word (structs d n bs) F).words
  counted =
      let x = structs_placed capacity at.segment at.word d n (number_of bs) F in
      (keeps_bodies capacity bs x.at.segment (x.at.word + 1) d n (begun_structs (number_of bs) (bodies_blank bs)).arena shaped.3 structs_lie.there (omega (arith, structs_lie.inside, long))).counts

  all_begun : (mid : Written) → mid ≡ (begun_structs k []).arena → append (bodies_blank bs) mid ≡ (begun_structs (number_of bs) (bodies_blank bs)).arena
  all_begun mid is =
      ap (append (bodies_blank bs)) is
      ∙ append_twice (structs_placed capacity at.segment at.word d n k F).arena (tag_word k d n ∷ []) (bodies_blank bs)
      ∙ ap (λ m. (begun_structs m (bodies_blank bs)).arena) many

  pub tag_refused : (e : WriteFault) → Refuses capacity e (begun_structs k []).arena → Refuses capacity e (tree_by capacity at.segment at.word (structs d n bs) F)
  tag_refused e h =
      let all = ap (λ (W : Written). W.words) (all_begun (begun_structs k []).arena refl) in
      writes_err capacity e (begun_structs k []).arena (tree_by capacity at.segment at.word (structs d n bs) F) (omega (arith, counted, all)) h

  pub elements_refused : (e : WriteFault) (mid : Written) → mid ≡ (begun_structs k []).arena → Refuses capacity e (append (bodies_blank bs) mid) → Refuses capacity e (tree_by capacity at.segment at.word (structs d n bs) F)
  elements_refused e mid is h =
      let all = ap (λ (W : Written). W.words) (all_begun mid is) in
      writes_err capacity e (append (bodies_blank bs) mid) (tree_by capacity at.segment at.word (structs d n bs) F) (omega (arith, counted, all)) h

pub elements_begun : (A B C : Arena) (at first : Place) (d n : ℕ) (bs : Bodies) (k : ℕ) → k ≡ number_of bs → Shaped (structs d n bs) → at.segment ≤ length (written A).full → written B ≡ (structs_begun A.capacity at.segment at.word d n k [] (written A)).arena
    → first ≡ (structs_begun A.capacity at.segment at.word d n k [] (written A)).at → SameLimits A B → Appends {X = Unit {0}} B C (Ok (tt {0})) (bodies_blank bs) → BeginsBodies A C (Ok first) at d n bs
elements_begun A B C at first d n bs k many shaped le is starts same new =
    let F = written A in
    let x = structs_begun A.capacity at.segment at.word d n (number_of bs) (bodies_blank bs) F in
    let arena : written C ≡ x.arena = new.0 ∙ all_begun A.capacity at d n bs F k many shaped le (written B) is in
    let place : first ≡ x.at = starts ∙ ap (λ m. (structs_begun A.capacity at.segment at.word d n m [] F).at) many in
    let l = structs_lie A.capacity at d n bs F k many shaped le in
    let limits = limits_on A B C same new.2 in
    let there : IsRun x.arena x.at (number_of bs * (d + n)) = (l.there, omega (arith, l.inside, long A.capacity at d n bs F k many shaped le)) in (
      new.1,
      subst (λ W. IsRun W first (number_of bs * (d + n))) (sym arena) (subst (λ q. IsRun x.arena q (number_of bs * (d + n))) (sym place) there),
      limits,
      sym (bodies_at A.capacity d n bs first C x limits.0 place arena),
    )

-- where there is no capacity for a body, there is none for its tree
pub not_begun : (A B : Arena) (at : Place) (n : ℕ) (make : Nodes → Node) (t : Node) (ts : Nodes) (e : WriteFault) → t ≡ make ts → count ts ≡ n → Shaped t → Begins A B (Err e) at n make → Refuses A.capacity e (tree_on A at t)
not_begun A B at n make t ts e is many shaped begun = subst (λ u. Refuses A.capacity e (tree_on A at u)) (sym is) (begun ts many (subst Shaped is shaped))
