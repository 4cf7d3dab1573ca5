-- Whether a word denotes a tree, told part by part.
use Rattle.std.proofs.Common.{◌≡◌, ℕ, List, Bool, true, false, not, Option, Some, None, Result, Ok, Err, IfOk, Decides, refl, sym, subst, rules}
use Rattle.std.specs.declared.alloc.AllocError.{AllocError}
use Rattle.cp_reading.specs.Locates.{Locates}
use Rattle.cp_reading.specs.Denotes.{Denotes}
use Rattle.cp_reading.specs.Fills.{IsBody, form_of, Fills}
use Rattle.cp_tree.specs.Node.{bits, Node}
use Rattle.cp_tree.specs.NodeOf.{node_of}
use Rattle.cp_reading.specs.Reading.{IsWhole}
use Rattle.cp_reading.specs.declared.area.Area.{Area}
use Rattle.cp_reading.specs.declared.area.Form.{Form}
use Rattle.cp_reading.specs.declared.area.Form.TheVariants as forms
use Rattle.cp_tree.specs.declared.tree.Body.{the_lemmas}
use Rattle.cp_tree.specs.declared.tree.Tree.{Tree}
use Rattle.cp_tree.specs.declared.tree.Tree.TheVariants as trees
use Rattle.cp_reading.proofs.Fills.{form_of-whole, denotes_body, has_body}
use Rattle.cp_reading.proofs.Views.{some_is}

pub same_bits : {a b : List Bool} → bits a ≡ bits b → a ≡ b
same_bits e = cc

pub same_sizes : (a b c d e f : ℕ) → forms.Structs a b c ≡ forms.Structs d e f → (a ≡ d) × (b ≡ e) × (c ≡ f)
same_sizes a b c d e f is = (cc, cc, cc)

pub not_false : (b : Bool) → false ≡ not b → b ≡ true
not_false true e = refl
not_false false e = cc

-- what decides P decides what holds exactly with it
pub carried : {P Q : Type 0} (r : Result Bool AllocError) → (P → Q) → (Q → P) → IfOk r (λ b. Decides b P) → IfOk r (λ b. Decides b Q)
carried (Ok b) f g d = (λ e. f (d.0 e), λ q. d.1 (g q))
carried (Err e) f g d = tt

-- what never holds
pub never : {P : Type 0} → (P → ⊥) → Decides false P
never none = (λ e. cc, λ p. absurd (none p))

-- a tree that is neither null nor a capability has a body
pub has_parts : (t : Tree) → (t ≡ trees.Null → ⊥) → ((i : ℕ) → t ≡ trees.Cap i → ⊥) → IsBody (node_of t)
has_parts t n c = search (rules, the_lemmas)

module _ (S : List (List ℕ)) (s p : ℕ) (t : Node) (has : IsBody t) where
  -- the word has no other body than this one, or none
  abbrev Only : Option Area → Type 0
  Only found = (f : Form) (s' start : ℕ) → IsWhole f → Locates S s p f s' start → found ≡ Some (record { form = f; segment = s'; start = start })

  only_body : (found : Option Area) → Only found → Denotes S s p t → (a : Area) × (found ≡ Some a) × (form_of t ≡ a.form) × Fills S a.segment a.start t
  only_body found only d =
      let k = has_body S s p t has d in
      (record { form = form_of t; segment = k.0; start = k.1 }, only (form_of t) k.0 k.1 (form_of-whole t) k.2, refl, k.3)

  pub body_decides : (a : Area) (r : Result Bool AllocError) → Locates S s p a.form a.segment a.start → ((f : Form) (s' start : ℕ) → IsWhole f → Locates S s p f s' start → ◌≡◌ {A = Option Area} (Some a) (Some (record { form = f; segment = s'; start = start })))
      → IfOk r (λ b. Decides b ((form_of t ≡ a.form) × Fills S a.segment a.start t)) → IfOk r (λ b. Decides b (Denotes S s p t))
  body_decides a r here only d =
      carried r
      (λ k. denotes_body S s p t a.segment a.start (subst (λ f. Locates S s p f a.segment a.start) (sym k.0) here) k.1)
      (λ h. let k = only_body (Some a) only h in subst (λ (b : Area). (form_of t ≡ b.form) × Fills S b.segment b.start t) (sym (some_is k.1)) (k.2, k.3))
      d

  pub no_body_decides : ((f : Form) (s' start : ℕ) → IsWhole f → Locates S s p f s' start → ◌≡◌ {A = Option Area} None (Some (record { form = f; segment = s'; start = start }))) → Decides false (Denotes S s p t)
  no_body_decides only = never (λ h. let k = only_body None only h in let e = k.1 in cc)
