-- Frames that go out to a writer.
use Rattle.std.specs.Prelude.{◌≡◌, ℕ, List, ◌++◌, Option}
use Rattle.std.specs.Io.KnownBytes.{Appends}
use Rattle.cp_words.specs.Limits.{Bounds}
use Rattle.cp_frame.specs.declared.mode.Mode.{Mode}
use Rattle.cp_packed.specs.Words.{bytes_of}
use Rattle.cp_frame.specs.Frame.{padded_table, IsWritten, Written}
use Rattle.cp_packed.specs.Packing.{PutsSpelt}

-- The segments' frame in this form went out, after what the writer held.
abbrev pub SendsForm : Mode → List (List ℕ) → Option (List ℕ) → Option (List ℕ) → Type 0
SendsForm mode S old new = (b : List ℕ) × IsWritten mode S b × Appends old new b

-- what the buffer held went out, but for what it holds now
abbrev pub Moves : Option (List ℕ) → Option (List ℕ) → List ℕ → List ℕ → Type 0
Moves old new before after = (sent : List ℕ) × Appends old new sent × (before ≡ sent ++ after)

-- the words were written packed after what the buffer held; of both together this went out, and the buffer holds that now
abbrev pub SendsSpelt : Option (List ℕ) → Option (List ℕ) → List ℕ → List ℕ → List ℕ → Type 0
SendsSpelt old new before after words = (sent : List ℕ) × Appends old new sent × PutsSpelt before (sent ++ after) words

-- the table of these segments was written packed after what was held
abbrev pub PutsTable : List (List ℕ) → List ℕ → List ℕ → Type 0
PutsTable S old new = (head : List ℕ) × (padded_table S ≡ bytes_of head) × PutsSpelt old new head

-- what is written of these segments went out, after what the writer held
abbrev pub Sends : Mode → Bounds → List (List ℕ) → Option (List ℕ) → Option (List ℕ) → Type 0
Sends mode limits S old new = (b : List ℕ) × Written mode limits S b × Appends old new b
