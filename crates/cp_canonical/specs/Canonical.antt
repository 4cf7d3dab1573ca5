-- The canonical form. (Encoding specification: "Canonicalization".)
use Rattle.std.specs.Prelude.{◌≡◌, ℕ, ◌≢◌, ◌⊎◌, ◌↔◌, ◌<◌, ◌∷◌, [], List, length, take, slice_index, All, Some, None, Vec, Result, Ok, Err}
use Rattle.std.specs.declared.alloc.Global.{Global}
use Rattle.cp_words.specs.Limits.{Bounds}
use Rattle.cp_words.specs.Targets.{segment}
use Rattle.cp_words.specs.declared.place.Place.{Place}
use Rattle.cp_tree.specs.Node.{Node}
use Rattle.cp_tree.specs.Shaped.{AllFit}
use Rattle.cp_tree.specs.declared.fault.WriteFault.TheVariants as writes
use Rattle.cp_writing.specs.Layout.{Built}
use Rattle.cp_reading.specs.Denotes.{Root}
use Rattle.cp_reading.specs.FirstFault.{IsFirstFault}
use Rattle.cp_canonical.specs.Cut.{cut, first_cap}
use Rattle.cp_canonical.specs.declared.fault.CanonicalFault.{CanonicalFault}
use Rattle.cp_canonical.specs.declared.fault.CanonicalFault.TheVariants as faults

-- The words are the one segment of what is left of a tree once all is cut that the form cuts, laid out in the order of its
-- pointers; and no capability is in it.
abbrev pub IsCanonicalOf : Node → List ℕ → Type 0
IsCanonicalOf t ws = Built (cut t) ws × (first_cap (cut t) ≡ None)

-- each word fits 64 bits
abbrev pub AreWords : List (List ℕ) → Type 0
AreWords S = All (AllFit 64) S

-- Two trees are the same up to trailing zero words and null pointers.
abbrev pub AreAlike : Node → Node → Type 0
AreAlike t u = cut t ≡ cut u

-- Two messages say the same: their trees are alike.
abbrev pub SayTheSame : List (List ℕ) → List (List ℕ) → Bounds → Type 0
SayTheSame S T limits = (t : Node) × (u : Node) × Root S limits t × Root T limits u × AreAlike t u

-- Why a tree has no canonical form: it holds a capability, first the one that is named; or it has more words than a frame
-- may have; or memory ran out.
abbrev pub IsRefusalOf : Bounds → Node → CanonicalFault → Type 0
IsRefusalOf limits t (faults.Capability i) = first_cap (cut t) ≡ Some i
IsRefusalOf limits t (faults.Write writes.TooManyWords) = (ws : List ℕ) → Built (cut t) ws → limits.frame_words < length ws
IsRefusalOf limits t (faults.Write writes.OutOfMemory) = Unit {0}
IsRefusalOf limits t other = ⊥

-- The words are the canonical form of the message's tree.
abbrev pub IsFormOf : List (List ℕ) → Bounds → List ℕ → Type 0
IsFormOf S limits ws = (t : Node) × Root S limits t × IsCanonicalOf t ws

-- the forms of two messages are the same exactly if the messages say the same
abbrev pub HaveOneForm : List (List ℕ) → List (List ℕ) → Bounds → Type 0
HaveOneForm S T limits = (ws vs : List ℕ) → IsFormOf S limits ws → IsFormOf T limits vs → (ws ≡ vs) ↔ SayTheSame S T limits

-- Why a message has no canonical form: it holds no tree, by its first fault; or its tree holds a capability; or memory ran out.
abbrev pub IsMessageRefusal : List (List ℕ) → Bounds → CanonicalFault → Type 0
IsMessageRefusal S limits (faults.Tree fault) = IsFirstFault S limits fault
IsMessageRefusal S limits (faults.Capability i) = (t : Node) × Root S limits t × (first_cap (cut t) ≡ Some i)
IsMessageRefusal S limits (faults.Write writes.OutOfMemory) = Unit {0}
IsMessageRefusal S limits other = ⊥

-- the call answered these words, or memory ran out
abbrev pub AnswersForm : Result (Vec ℕ Global) CanonicalFault → List ℕ → Type 0
AnswersForm (Ok v) ws = v.items ≡ ws
AnswersForm (Err fault) ws = fault ≡ faults.Write writes.OutOfMemory

-- A message is canonical: its one segment is the canonical form of its tree.
abbrev pub IsCanonicalMessage : List (List ℕ) → Bounds → Type 0
IsCanonicalMessage S limits = (ws : List ℕ) × (S ≡ ws ∷ []) × IsFormOf S limits ws

-- the first words end before word i, and the second don't
abbrev pub EndsAt : List ℕ → List ℕ → ℕ → Type 0
EndsAt ws vs i = (i ≡ length ws) × (i < length vs)

-- both have a word i, and not the same one
abbrev pub DifferAt : List ℕ → List ℕ → ℕ → Type 0
DifferAt ws vs i = (i < length ws) × (i < length vs) × (slice_index ws i ≢ slice_index vs i)

-- The words before this one are the same; and it is another word, or one list has it and the other ends before it.
pub record DifferFirst (ws vs : List ℕ) (i : ℕ) : Type 0 where
  pub before : take i ws ≡ take i vs
  pub differ : DifferAt ws vs i ⊎ (EndsAt ws vs i ⊎ EndsAt vs ws i)

-- The message's words differ from these first at this place: in segment 0, or else where segment 1 begins.
abbrev pub DiffersAt : List (List ℕ) → List ℕ → Place → Type 0
DiffersAt S ws at =
    ((at.segment ≡ 0) × DifferFirst (segment S 0) ws at.word)
    ⊎ ((at.segment ≡ 1) × (at.word ≡ 0) × (1 < length S) × (segment S 0 ≡ ws))

-- Why a message isn't canonical: it has no canonical form, or differs from it at this place.
abbrev pub IsNotCanonical : List (List ℕ) → Bounds → CanonicalFault → Type 0
IsNotCanonical S limits (faults.Difference at) = (ws : List ℕ) × IsFormOf S limits ws × DiffersAt S ws at
IsNotCanonical S limits fault = IsMessageRefusal S limits fault
