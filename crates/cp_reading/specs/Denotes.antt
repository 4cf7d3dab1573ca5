-- What the words of a message denote. (Encoding specification: "Messages", "Structs", "Lists".)
use Rattle.std.specs.Prelude.{◌≡◌, ℕ, ◌+◌, ◌≤◌, List, length}
use Rattle.cp_words.specs.Limits.{Bounds}
use Rattle.cp_words.specs.Word.{words_for}
use Rattle.cp_words.specs.declared.pointer.ElementSize.TheVariants as sizes
use Rattle.cp_words.specs.declared.pointer.Pointer.TheVariants as pointers
use Rattle.cp_reading.specs.declared.area.Form.TheVariants as forms
use Rattle.cp_tree.specs.Node.{element_size, element_count, Node, null, cap, struct, list, ptrs, structs, Nodes, no_nodes, node, Bodies, no_bodies, body, count, number_of, depth, cost, IsStruct}
use Rattle.cp_words.specs.Targets.{words_at, Holds}
use Rattle.cp_tree.specs.Elements.{elements_of}
use Rattle.cp_reading.specs.Locates.{Locates}

-- Word p of segment s denotes the tree. A word of zero bits denotes null, and a capability word its index. Any other
-- word has a body of the tree's form: a struct's data words come first, then its pointers; a list has its elements, one
-- after another; the elements of a composite list are bodies like structs', one after another.
abbrev mutual
  pub Denotes : List (List ℕ) → ℕ → ℕ → Node → Type 0
  Denotes S s p null = Holds S s p pointers.Null
  Denotes S s p (cap i) = Holds S s p (pointers.Cap i)
  Denotes S s p (struct ws ts) =
      (s' : ℕ) × (start : ℕ) × Locates S s p (forms.Struct (length ws) (count ts)) s' start
      × ((ws ≡ words_at S s' start (length ws)) × EachDenotes S s' (start + length ws) ts)
  Denotes S s p (list es) =
      (s' : ℕ) × (start : ℕ) × Locates S s p (forms.List (element_size es) (element_count es)) s' start
      × (es ≡ elements_of (words_at S s' start (words_for (element_size es) (element_count es))) (element_size es) (element_count es))
  Denotes S s p (ptrs ts) =
      (s' : ℕ) × (start : ℕ) × Locates S s p (forms.List sizes.Pointer (count ts)) s' start × EachDenotes S s' start ts
  Denotes S s p (structs d n bs) =
      (s' : ℕ) × (start : ℕ) × Locates S s p (forms.Structs d n (number_of bs)) s' start × EachBody S s' start d n bs

  -- the words from p on denote the trees, one after another
  pub EachDenotes : List (List ℕ) → ℕ → ℕ → Nodes → Type 0
  EachDenotes S s p no_nodes = Unit {0}
  EachDenotes S s p (node t ts) = Denotes S s p t × EachDenotes S s (p + 1) ts

  -- the bodies stand one after another, each of d data words and n pointers
  pub EachBody : List (List ℕ) → ℕ → ℕ → ℕ → ℕ → Bodies → Type 0
  EachBody S s q d n no_bodies = Unit {0}
  EachBody S s q d n (body ws ts bs) =
      (length ws ≡ d) × (count ts ≡ n) × (ws ≡ words_at S s q d) × EachDenotes S s (q + d) ts × EachBody S s (q + d + n) d n bs

-- the message's tree: what word 0 of segment 0 denotes, a struct, within the limits
pub record Root (S : List (List ℕ)) (limits : Bounds) (t : Node) : Type 0 where
  pub denoted : Denotes S 0 0 t
  pub is_struct : IsStruct t
  pub not_deeper : depth t ≤ limits.nesting
  pub not_dearer : cost t ≤ limits.traversal
