-- Trees of which parts are left out, and the pointer words that reading may come to.
use Rattle.std.specs.Prelude.{◌≡◌, ℕ, ◌+◌, ◌*◌, ◌<◌, List, length}
use Rattle.cp_words.specs.declared.pointer.ElementSize.TheVariants as sizes
use Rattle.cp_reading.specs.declared.area.Form.{Form}
use Rattle.cp_reading.specs.declared.area.Form.TheVariants as forms
use Rattle.cp_tree.specs.Node.{Node, null, cap, struct, list, ptrs, structs, Nodes, no_nodes, node, Bodies, no_bodies, body, count, number_of}
use Rattle.cp_words.specs.Targets.{segment, words_at}
use Rattle.cp_reading.specs.Locates.{Locates}
use Rattle.cp_reading.specs.Denotes.{Denotes}

-- As the word denotes, but null may stand for any word below it, and for the word itself.
abbrev mutual
  pub Prunes : List (List ℕ) → ℕ → ℕ → Node → Type 0
  Prunes S s p null = p < length (segment S s)
  Prunes S s p (cap i) = Denotes S s p (cap i)
  Prunes S s p (struct ws ts) =
      (s' : ℕ) × (start : ℕ) × Locates S s p (forms.Struct (length ws) (count ts)) s' start
      × ((ws ≡ words_at S s' start (length ws)) × EachPrunes S s' (start + length ws) ts)
  Prunes S s p (list es) = Denotes S s p (list es)
  Prunes S s p (ptrs ts) =
      (s' : ℕ) × (start : ℕ) × Locates S s p (forms.List sizes.Pointer (count ts)) s' start × EachPrunes S s' start ts
  Prunes S s p (structs d n bs) =
      (s' : ℕ) × (start : ℕ) × Locates S s p (forms.Structs d n (number_of bs)) s' start × EachPrunesBody S s' start d n bs

  -- the words from p on, one after another
  pub EachPrunes : List (List ℕ) → ℕ → ℕ → Nodes → Type 0
  EachPrunes S s p no_nodes = Unit {0}
  EachPrunes S s p (node t ts) = Prunes S s p t × EachPrunes S s (p + 1) ts

  -- the bodies from word q on, each of d data words and n pointers
  pub EachPrunesBody : List (List ℕ) → ℕ → ℕ → ℕ → ℕ → Bodies → Type 0
  EachPrunesBody S s q d n no_bodies = Unit {0}
  EachPrunesBody S s q d n (body ws ts bs) =
      (length ws ≡ d) × (count ts ≡ n) × (ws ≡ words_at S s q d) × EachPrunes S s (q + d) ts × EachPrunesBody S s (q + d + n) d n bs

-- a pruned tree of the message: the root itself isn't left out
abbrev pub Pruned : List (List ℕ) → Node → Type 0
Pruned S null = Denotes S 0 0 null
Pruned S t = Prunes S 0 0 t

-- the word is one of the pointers in a body of this form, whose parts begin at word q
abbrev pub IsPointerOf : Form → ℕ → ℕ → Type 0
IsPointerOf (forms.Struct d n) q p = (i : ℕ) × (i < n) × (p ≡ q + d + i)
IsPointerOf (forms.List sizes.Pointer n) q p = (i : ℕ) × (i < n) × (p ≡ q + i)
IsPointerOf (forms.List size n) q p = ⊥
IsPointerOf (forms.Structs d n k) q p = (j : ℕ) × (j < k) × (i : ℕ) × (i < n) × (p ≡ q + j * (d + n) + d + i)

-- A pointer word is reachable if it is the root, or is in the body of a reachable word.
pub data IsReachable (S : List (List ℕ)) : ℕ → ℕ → Type 0 where
  root : IsReachable S 0 0
  below : {s p : ℕ} (form : Form) (s' start place : ℕ) (above : IsReachable S s p) (body : Locates S s p form s' start) (pointer : IsPointerOf form start place) → IsReachable S s' place
