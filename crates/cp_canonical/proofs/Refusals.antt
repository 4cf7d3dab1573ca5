-- What a tree's words are written as, and why they aren't.
use Rattle.std.proofs.Common.{◌≡◌, ℕ, List, [], ◌∷◌, length, All, Option, Some, None, Result, Ok, Err, Vec, refl, sym, ap, subst, ◌∙◌, arith}
use Rattle.std.proofs.lemmas.Bool.{cases_lt}
use Rattle.std.proofs.Common.{⊎_elim}
use Rattle.std.specs.Prelude.{IfOk, IfErr, get_or, slice_index}
use Rattle.std.specs.declared.alloc.Global.{Global}
use Rattle.cp_words.specs.Limits.{Bounds, IsAllowed}
use Rattle.cp_words.specs.Segments.{words_of}
use Rattle.cp_tree.specs.Node.{Node}
use Rattle.cp_tree.specs.Shaped.{AllFit, Shaped}
use Rattle.cp_tree.specs.declared.fault.WriteFault.TheVariants as writes
use Rattle.cp_reading.specs.Denotes.{Root}
use Rattle.cp_writing.specs.Layout.{Built}
use Rattle.cp_canonical.specs.Canonical.{AnswersForm, DifferFirst, IsCanonicalOf, IsFormOf, IsMessageRefusal, IsRefusalOf}
use Rattle.cp_canonical.specs.Cut.{cut, first_cap}
use Rattle.cp_canonical.specs.Arenas.{IsArena, Writes, with_tree}
use Rattle.cp_canonical.specs.declared.fault.CanonicalFault.{CanonicalFault}
use Rattle.cp_canonical.specs.declared.fault.CanonicalFault.TheVariants as faults
use Rattle.cp_canonical.specs.declared.arena.Arena.{Arena}
use Rattle.cp_canonical.proofs.Forms.{one_form_of, one_root, root_shaped}
use Rattle.cp_canonical.proofs.Shapes.{cut-shaped}
use Rattle.cp_canonical.proofs.Smaller.{depth-cut, cost-cut, struct-cut}
use Rattle.cp_canonical.proofs.Written.{form-built, built-length, never-long}

pub form_written : (limits : Bounds) (t : Node) (first last : Arena) → Shaped t → first.words.items ≡ 0 ∷ [] → last.words.items ≡ with_tree 0 (cut t) first.words.items → IsArena last → Built (cut t) last.words.items
form_written limits t first last shaped blank words arena =
    let is : last.words.items ≡ with_tree 0 (cut t) (0 ∷ []) = words ∙ ap (with_tree 0 (cut t)) blank in
    subst (Built (cut t)) (sym is) (form-built limits (cut t) (cut-shaped t shaped) (omega (arith, ap length is, arena.0, arena.1)))

pub form_refused : (X : Type 0) (limits : Bounds) (t : Node) (first last : Arena) (e : CanonicalFault) → Shaped t → first.words.items ≡ 0 ∷ [] → first.most ≡ limits.frame_words
    → Writes {X = X} first last (Err e) (first_cap (cut t)) (with_tree 0 (cut t)) → IsRefusalOf limits t e
form_refused X limits t first last (faults.Capability i) shaped blank most h = h
form_refused X limits t first last (faults.Write writes.TooManyWords) shaped blank most h =
    λ ws built. omega (arith, h, most, ap (λ vs. length (with_tree 0 (cut t) vs)) blank, built-length (cut t) ws (cut-shaped t shaped) built)
form_refused X limits t first last (faults.Write writes.OutOfMemory) shaped blank most h = tt
form_refused X limits t first last (faults.Write writes.TooDeep) shaped blank most h = absurd h
form_refused X limits t first last (faults.Write writes.TooCostly) shaped blank most h = absurd h
form_refused X limits t first last (faults.Tree fault) shaped blank most h = absurd h
form_refused X limits t first last (faults.Difference at) shaped blank most h = absurd h

-- the tree of a message doesn't have too many words
never_many : (S : List (List ℕ)) (limits : Bounds) (t : Node) → All (AllFit 64) S → IsAllowed limits → Root S limits t → IsRefusalOf limits t (faults.Write writes.TooManyWords) → ⊥
never_many S limits t fit allowed root h =
    let shaped = root_shaped S limits t fit root in
    let s = cut-shaped t shaped in
    let n = length (with_tree 0 (cut t) (0 ∷ [])) in
    let never = never-long limits (cut t) (struct-cut t root.is_struct) s (omega (arith, depth-cut t, root.not_deeper)) (omega (arith, cost-cut t shaped, root.not_dearer)) allowed.holds allowed.holds_little in
    ⊎_elim (λ large. never (omega (arith, large, allowed.holds_little))) (λ small. never (h (with_tree 0 (cut t) (0 ∷ [])) (form-built limits (cut t) s small))) (cases_lt 67108864 n)

pub message_refused : (S : List (List ℕ)) (limits : Bounds) (t : Node) (e : CanonicalFault) → All (AllFit 64) S → IsAllowed limits → Root S limits t → IsRefusalOf limits t e → IsMessageRefusal S limits e
message_refused S limits t (faults.Capability i) fit allowed root h = (t, root, h)
message_refused S limits t (faults.Write writes.TooManyWords) fit allowed root h = absurd (never_many S limits t fit allowed root h)
message_refused S limits t (faults.Write writes.OutOfMemory) fit allowed root h = tt
message_refused S limits t (faults.Write writes.TooDeep) fit allowed root h = absurd h
message_refused S limits t (faults.Write writes.TooCostly) fit allowed root h = absurd h
message_refused S limits t (faults.Tree fault) fit allowed root h = absurd h
message_refused S limits t (faults.Difference at) fit allowed root h = absurd h

some_none : (c : Option ℕ) (i : ℕ) → c ≡ None → c ≡ Some i → ⊥
some_none c i e f = cc

-- a message that has a canonical form is refused only where memory runs out
pub only_memory : (S : List (List ℕ)) (limits : Bounds) (t : Node) (ws : List ℕ) (e : CanonicalFault) → All (AllFit 64) S → IsAllowed limits → Root S limits t → IsFormOf S limits ws → IsRefusalOf limits t e → e ≡ faults.Write writes.OutOfMemory
only_memory S limits t ws (faults.Capability i) fit allowed root form h = absurd (some_none (first_cap (cut t)) i (ap (λ u. first_cap (cut u)) (one_root S limits t form.0 root form.1) ∙ form.2.1) h)
only_memory S limits t ws (faults.Write writes.TooManyWords) fit allowed root form h = absurd (never_many S limits t fit allowed root h)
only_memory S limits t ws (faults.Write writes.OutOfMemory) fit allowed root form h = refl
only_memory S limits t ws (faults.Write writes.TooDeep) fit allowed root form h = absurd h
only_memory S limits t ws (faults.Write writes.TooCostly) fit allowed root form h = absurd h
only_memory S limits t ws (faults.Tree fault) fit allowed root form h = absurd h
only_memory S limits t ws (faults.Difference at) fit allowed root form h = absurd h

pub refused_message : (X : Type 0) (S : List (List ℕ)) (limits : Bounds) (t : Node) (r : Result X CanonicalFault) → All (AllFit 64) S → IsAllowed limits → Root S limits t → IfErr r (IsRefusalOf limits t) → IfErr r (IsMessageRefusal S limits)
refused_message X S limits t (Ok x) fit allowed root h = tt
refused_message X S limits t (Err e) fit allowed root h = message_refused S limits t e fit allowed root h

pub answers_form : (S : List (List ℕ)) (limits : Bounds) (t : Node) (r : Result (Vec ℕ Global) CanonicalFault) (ws : List ℕ) → All (AllFit 64) S → IsAllowed limits → Root S limits t
    → IfOk r (λ v. IsCanonicalOf t v.items) → IfErr r (IsRefusalOf limits t) → IsFormOf S limits ws → AnswersForm r ws
answers_form S limits t (Ok v) ws fit allowed root found refused form = one_form_of S limits v.items ws fit (t, root, found) form
answers_form S limits t (Err e) ws fit allowed root found refused form = only_memory S limits t ws e fit allowed root form refused

-- words don't differ from themselves
pub no_difference : (ws vs : List ℕ) (i : ℕ) → ws ≡ vs → DifferFirst ws vs i → ⊥
no_difference ws vs i same d = ⊎_elim
    (λ h. h.2 (ap (λ us. slice_index us i) same))
    (λ h. ⊎_elim (λ k. omega (arith, k.0, k.1, ap length same)) (λ k. omega (arith, k.0, k.1, ap length same)) h)
    d.differ

-- the one list of words
pub sole_words : (lists : List (Vec ℕ Global)) (x : Vec ℕ Global) (S : List (List ℕ)) (ws : List ℕ) → words_of lists ≡ S → S ≡ ws ∷ [] → x ≡ get_or lists 0 x → x.items ≡ ws
sole_words [] x S ws all one is = absurd (none (all ∙ one))
  where
    none : ◌≡◌ {A = List (List ℕ)} [] (ws ∷ []) → ⊥
    none e = cc
sole_words (y ∷ ys) x S ws all one is = ap (λ (v : Vec ℕ Global). v.items) is ∙ first_of (all ∙ one)
  where
    first_of : y.items ∷ words_of ys ≡ ws ∷ [] → y.items ≡ ws
    first_of e = cc
