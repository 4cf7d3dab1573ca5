-- Structs that are made field by field.
use Rattle.std.specs.Prelude.{◌≡◌, ℕ, ◌<◌, ◌≤◌, ◌^◌, List, [], ◌∷◌, ◌++◌, length, refl, Result, Ok, Err}
use Rattle.std.specs.Coded.{Coded, code_by, coded×, coded_ℕ, coded_list}
use Rattle.cp_tree.specs.Node.{Node, struct}
use Rattle.cp_tree.specs.NodeOf.{nodes_of}
use Rattle.cp_tree.specs.Shaped.{EachShaped}
use Rattle.cp_tree.specs.Code.{tree_code}
use Rattle.cp_refs.specs.declared.cap.Cap.{Cap}
use Rattle.cp_refs.specs.contracts.cap.Cap as cap
use Rattle.cp_refs.specs.declared.outcome.Outcome.{Outcome}
use Rattle.cp_refs.specs.declared.outcome.Outcome.TheVariants as outcomes
use Rattle.cp_builder.specs.declared.fault.BuildError.{BuildError}
use Rattle.cp_builder.specs.declared.fault.BuildError.TheVariants as drafts
use Rattle.cp_servants.specs.Outcomes.{results_too_long}

-- The data words, what the pointers stand for, and the capabilities that these name.
pub record Made : Type 0 where
  pub words : List ℕ
  pub pointers : List Node
  pub caps : List Cap

-- no fields
abbrev pub nothing : Made
nothing = record { words = []; pointers = []; caps = [] }

-- one data word more
abbrev pub with_word : Made → ℕ → Made
with_word made word = record made { words = made.words ++ word ∷ [] }

-- one pointer more
abbrev pub with_pointer : Made → Node → Made
with_pointer made t = record made { pointers = made.pointers ++ t ∷ [] }

-- the struct
abbrev pub content_of : Made → Node
content_of made = struct made.words (nodes_of made.pointers)

-- The outcome is the results, if they were made; or the call fails, since no message can hold them. Where memory ran out there is none.
abbrev pub ComesTo : Result Made BuildError → Outcome → Type 0
ComesTo (Ok made) outcome = outcome ≡ outcomes.Results (content_of made) made.caps
ComesTo (Err drafts.TooLong) outcome = outcome ≡ results_too_long
ComesTo (Err drafts.OutOfMemory) outcome = ⊥

-- A message can hold so many words, and these pointers, and no more capabilities are named than there are pointers.
pub record HoldsUp (words : ℕ) (pointers : List Node) (caps : ℕ) : Type 0 where
  pub few_words : words < 2 ^ 16
  pub few_pointers : length pointers < 2 ^ 16
  pub fewer_caps : caps ≤ length pointers
  pub shaped : EachShaped (nodes_of pointers)

-- it is stored as its parts
abbrev pub made_code : Coded Made
made_code =
    code_by
    (List ℕ × (List Node × List Cap))
    (coded× (coded_list coded_ℕ) (coded× (coded_list tree_code) (coded_list cap.the_row.coded)))
    (λ m. (m.words, (m.pointers, m.caps)))
    (λ parts. record { words = parts.0; pointers = parts.1.0; caps = parts.1.1 })
    (λ _. refl)
