-- What a canonical form denotes, and of which trees it is the form.
use Rattle.std.proofs.Common.{◌≡◌, ℕ, List, [], ◌∷◌, length, All, refl, sym, ap, subst, ◌∙◌, arith}
use Rattle.std.specs.Prelude.{◌↔◌}
use Rattle.cp_words.specs.Limits.{Bounds}
use Rattle.cp_tree.specs.Node.{Node}
use Rattle.cp_tree.specs.Shaped.{AllFit, Shaped}
use Rattle.cp_reading.specs.Denotes.{Denotes, Root}
use Rattle.cp_reading.proofs.Fitting.{denotes_shaped}
use Rattle.cp_reading.proofs.OneTree.{denotes_one}
use Rattle.cp_writing.specs.Layout.{Built, Layout}
use Rattle.cp_writing.proofs.OneLayout.{one_layout}
use Rattle.cp_stream.proofs.LayoutDenotes.{layout_denotes}
use Rattle.cp_canonical.specs.Canonical.{AreAlike, HaveOneForm, IsCanonicalMessage, IsCanonicalOf, IsFormOf}
use Rattle.cp_canonical.specs.Cut.{cut}
use Rattle.cp_canonical.proofs.Cuts.{cut-again}
use Rattle.cp_canonical.proofs.Shapes.{cut-shaped}
use Rattle.cp_canonical.proofs.Smaller.{depth-cut, cost-cut, struct-cut}
use Rattle.cp_canonical.proofs.Written.{built-length}

pub form-denotes : (t : Node) (ws : List ℕ) → Shaped t → IsCanonicalOf t ws → Denotes (ws ∷ []) 0 0 (cut t)
form-denotes t ws shaped form = layout_denotes (ws ∷ []) (record { words = length ws; segments = 1 }) (cut t) (cut-shaped t shaped) form.0

head_of : {ws vs : List ℕ} → ◌≡◌ {A = List (List ℕ)} (ws ∷ []) (vs ∷ []) → ws ≡ vs
head_of e = cc

-- a tree is built in one list of words
pub one_built : (t : Node) (ws vs : List ℕ) → Shaped t → Built t ws → Built t vs → ws ≡ vs
one_built t ws vs shaped b c =
    let long : length vs ≡ length ws = sym (built-length t vs shaped c) ∙ built-length t ws shaped b in
    head_of (one_layout (ws ∷ []) (vs ∷ []) (record { words = length ws; segments = 1 }) t shaped b (subst (λ n. Layout (vs ∷ []) (record { words = n; segments = 1 }) t) long c))

pub one_form : (t u : Node) (ws vs : List ℕ) → Shaped t → Shaped u → IsCanonicalOf t ws → IsCanonicalOf u vs → (ws ≡ vs) ↔ AreAlike t u
one_form t u ws vs a b f g = (
  (λ same. denotes_one (ws ∷ []) 0 0 (cut t) (cut u) (form-denotes t ws a f) (subst (λ xs. Denotes (xs ∷ []) 0 0 (cut u)) (sym same) (form-denotes u vs b g))),
  (λ alike. one_built (cut t) ws vs (cut-shaped t a) f.0 (subst (λ x. Built x vs) (sym alike) g.0)),
)

-- the tree of a message, a message can hold
pub root_shaped : (S : List (List ℕ)) (limits : Bounds) (t : Node) → All (AllFit 64) S → Root S limits t → Shaped t
root_shaped S limits t fit root = denotes_shaped S fit t 0 0 root.denoted

pub form_root : (S : List (List ℕ)) (limits : Bounds) (t : Node) (ws : List ℕ) → All (AllFit 64) S → Root S limits t → IsCanonicalOf t ws → Root (ws ∷ []) limits (cut t)
form_root S limits t ws fit root form =
    let shaped = root_shaped S limits t fit root in
    record {
      denoted = form-denotes t ws shaped form;
      is_struct = struct-cut t root.is_struct;
      not_deeper = omega (arith, depth-cut t, root.not_deeper);
      not_dearer = omega (arith, cost-cut t shaped, root.not_dearer);
    }

-- the form of what is left is the same
pub form_again : (t : Node) (ws : List ℕ) → IsCanonicalOf t ws → IsCanonicalOf (cut t) ws
form_again t ws form = rw (cut-again t) form

pub written_again : (S : List (List ℕ)) (limits : Bounds) (ws : List ℕ) → All (AllFit 64) S → IsFormOf S limits ws → IsCanonicalMessage (ws ∷ []) limits
written_again S limits ws fit form = (ws, refl, (cut form.0, form_root S limits form.0 ws fit form.1 form.2, form_again form.0 ws form.2))

-- a message has one tree, and one form
pub one_root : (S : List (List ℕ)) (limits : Bounds) (t u : Node) → Root S limits t → Root S limits u → t ≡ u
one_root S limits t u a b = denotes_one S 0 0 t u a.denoted b.denoted

pub one_form_of : (S : List (List ℕ)) (limits : Bounds) (ws vs : List ℕ) → All (AllFit 64) S → IsFormOf S limits ws → IsFormOf S limits vs → ws ≡ vs
one_form_of S limits ws vs fit f g =
    let shaped = root_shaped S limits f.0 fit f.1 in
    one_built (cut f.0) ws vs (cut-shaped f.0 shaped) f.2.0 (subst (λ t. Built (cut t) vs) (one_root S limits g.0 f.0 g.1 f.1) g.2.0)

pub messages_form : (S T : List (List ℕ)) (limits : Bounds) → All (AllFit 64) S → All (AllFit 64) T → HaveOneForm S T limits
messages_form S T limits a b ws vs f g =
    let trees = one_form f.0 g.0 ws vs (root_shaped S limits f.0 a f.1) (root_shaped T limits g.0 b g.1) f.2 g.2 in (
      (λ same. (f.0, g.0, f.1, g.1, trees.0 same)),
      (λ say. trees.1 (ap cut (one_root S limits f.0 say.0 f.1 say.2) ∙ say.4 ∙ ap cut (one_root T limits say.1 g.0 say.3 g.1))),
    )
