-- What the fields of contents hold.
use Rattle.std.specs.Prelude.{◌≡◌, ℕ, List, [], ◌∷◌, ◌++◌}
use Rattle.std.specs.Str.{IsUtf8}
use Rattle.cp_tree.specs.Node.{bytes, Node, list}
use Rattle.cp_refs.specs.declared.outcome.Outcome.{Outcome}
use Rattle.cp_refs.specs.declared.outcome.Outcome.TheVariants as outcomes

-- the outcome is results with this content
abbrev pub HasResults : Outcome → Node → Type 0
HasResults (outcomes.Results content caps) t = content ≡ t
HasResults other t = ⊥

-- it is another one
abbrev pub HasNone : Outcome → Type 0
HasNone (outcomes.Results content caps) = ⊥
HasNone other = Unit {0}

-- a tree is the list of these bytes
abbrev pub IsBytes : Node → List ℕ → Type 0
IsBytes t bs = t ≡ list (bytes bs)

-- it is no list of bytes
abbrev pub IsNoBytes : Node → Type 0
IsNoBytes t = (bs : List ℕ) → IsBytes t bs → ⊥

-- The bytes are those of this text, which is UTF-8, and a zero byte.
pub record HoldText (bs text : List ℕ) : Type 0 where
  pub is : bs ≡ text ++ 0 ∷ []
  pub utf8 : IsUtf8 text

-- a tree is the list of such bytes
abbrev pub IsText : Node → List ℕ → Type 0
IsText t text = (bs : List ℕ) × IsBytes t bs × HoldText bs text

-- it is none of a text
abbrev pub IsNoText : Node → Type 0
IsNoText t = (text : List ℕ) → IsText t text → ⊥
