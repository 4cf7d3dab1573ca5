-- Marks of paths, kept with their questions.
use Rattle.std.specs.Prelude.{◌≡◌, ℕ, List, [], ◌∷◌, Option}
use Rattle.std.specs.FinMap.{empty, insert, entries, len}
use Rattle.cp_tables.specs.Table.{Table}
use Rattle.cp_vat_state.specs.Paths.{Marked}

-- a question's marks, with those of others
abbrev pub put_all : ℕ → List (List ℕ × Option ℕ) → Marked → Marked
put_all q [] marks = marks
put_all q (e ∷ es) marks = insert (put_all q es marks) (q ∷ e.0) e.1

abbrev pub joined_from : List (ℕ × Marked) → Marked
joined_from [] = empty
joined_from (e ∷ es) = put_all e.0 (entries e.1) (joined_from es)

-- the marks of all questions' paths, each under the list of its question and its fields
abbrev pub joined : Table Marked → Marked
joined questions = joined_from (entries questions)

-- this is how many paths are marked
abbrev pub IsCounted : Table Marked → ℕ → Type 0
IsCounted questions count = count ≡ len (joined questions)
