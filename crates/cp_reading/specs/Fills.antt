-- A tree's body, apart from the pointer word that has the body.
use Rattle.std.specs.Prelude.{◌≡◌, ℕ, ◌+◌, List, length, Option, Some}
use Rattle.cp_words.specs.Word.{words_for}
use Rattle.cp_words.specs.declared.place.Place.{Place}
use Rattle.cp_words.specs.declared.pointer.ElementSize.TheVariants as sizes
use Rattle.cp_reading.specs.declared.area.Area.{Area}
use Rattle.cp_reading.specs.declared.area.Form.{Form}
use Rattle.cp_reading.specs.declared.area.Form.TheVariants as forms
use Rattle.cp_tree.specs.Node.{element_size, element_count, Node, null, cap, struct, list, ptrs, structs, Nodes, count, number_of}
use Rattle.cp_words.specs.Targets.{words_at}
use Rattle.cp_tree.specs.Elements.{elements_of}
use Rattle.cp_reading.specs.Denotes.{EachDenotes, EachBody}
use Rattle.cp_reading.specs.Locates.{Locates}
use Rattle.cp_reading.specs.Reading.{IsWhole}

-- a tree that has a body
abbrev pub IsBody : Node → Type 0
IsBody null = ⊥
IsBody (cap i) = ⊥
IsBody other = Unit {0}

-- the form of its body
abbrev pub form_of : Node → Form
form_of (struct ws ts) = forms.Struct (length ws) (count ts)
form_of (list es) = forms.List (element_size es) (element_count es)
form_of (ptrs ts) = forms.List sizes.Pointer (count ts)
form_of (structs d n bs) = forms.Structs d n (number_of bs)
form_of other = forms.Structs 0 0 0

-- the tree's body begins at word q of segment s
abbrev pub Fills : List (List ℕ) → ℕ → ℕ → Node → Type 0
Fills S s q (struct ws ts) = (ws ≡ words_at S s q (length ws)) × EachDenotes S s (q + length ws) ts
Fills S s q (list es) = es ≡ elements_of (words_at S s q (words_for (element_size es) (element_count es))) (element_size es) (element_count es)
Fills S s q (ptrs ts) = EachDenotes S s q ts
Fills S s q (structs d n bs) = EachBody S s q d n bs
Fills S s q other = ⊥

-- these words are those of a list of this form, without pointers
abbrev pub IsListIn : Form → List ℕ → Node → Type 0
IsListIn f ws (list es) = (forms.List (element_size es) (element_count es) ≡ f) × (es ≡ elements_of ws (element_size es) (element_count es))
IsListIn f ws other = ⊥

-- a struct's words and pointers stand from word q of segment s on, this many of each
abbrev pub IsBodyAt : List (List ℕ) → ℕ → ℕ → ℕ → ℕ → List ℕ × Nodes → Type 0
IsBodyAt S s q d n b = (length b.0 ≡ d) × (count b.1 ≡ n) × (b.0 ≡ words_at S s q d) × EachDenotes S s (q + d) b.1

-- the pointer word's body, if it has one of a whole form, is the one that was found
abbrev pub FindsWhole : List (List ℕ) → Place → Option Area → Type 0
FindsWhole S at found =
    (f : Form) (s' start : ℕ) → IsWhole f → Locates S at.segment at.word f s' start → found ≡ Some (record { form = f; segment = s'; start = start })
