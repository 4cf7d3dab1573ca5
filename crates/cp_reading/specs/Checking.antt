-- What going over a message's words reports. No public clause names these.
use Rattle.std.specs.Prelude.{◌≡◌, ℕ, ◌+◌, List, Result}
use Rattle.cp_words.specs.Segments.{words_of}
use Rattle.cp_words.specs.declared.place.Place.{Place}
use Rattle.cp_tree.specs.Node.{Node, Nodes, Bodies}
use Rattle.cp_reading.specs.Reading.{Read, bodies_by, body_by, filled, kids_at, root_of, rows_at, tree_at}
use Rattle.cp_reading.specs.Visited.{passed, answered, pointers}
use Rattle.cp_reading.specs.declared.area.Area.{Area}
use Rattle.cp_reading.specs.declared.check.Checker.{Checker}
use Rattle.cp_reading.specs.declared.fault.TreeFault.{TreeFault}

-- How a part of a message is read: of its segments, with what is left of the cost limit.
abbrev pub Reader : Type 0 → Type 0
Reader A = List (List ℕ) → ℕ → Read A

-- a body
abbrev pub body_at : Place → Area → ℕ → Reader Node
body_at at area depth S budget = body_by at (kids_at depth S) S budget area

-- what a body has, which was charged
abbrev pub parts_at : Area → ℕ → Reader Node
parts_at area depth S budget = filled (rows_at depth S) S area.form area.segment area.start budget

-- this many pointer words, from one on
abbrev pub row_at : Place → ℕ → ℕ → Reader Nodes
row_at first count depth S budget = rows_at depth S first.segment count first.word budget

-- the elements of a composite list, each of this many words and pointers, from one on
abbrev pub elements_at : Place → ℕ → ℕ → ℕ → ℕ → Reader Bodies
elements_at first words ptrs count depth S budget = bodies_by (rows_at depth S first.segment) S first.segment words ptrs count first.word budget

-- a pointer word
abbrev pub word_at : Place → ℕ → Reader Node
word_at at depth S budget = tree_at depth S at.segment at.word budget

module _ {L : Type 0} where
  -- the root of the message that is gone over, where bodies may nest this deep
  abbrev pub root_in : ℕ → Checker L → Result Node TreeFault
  root_in nesting c = root_of nesting c.budget (words_of c.segments.now)

  -- A part was gone over: what is left and how many words are visited then, or the fault, is as where it is read.
  abbrev pub GoesOver : {A : Type 0} → (A → ℕ) → Reader A → Checker L → Result (Unit {0}) TreeFault → Checker L → Type 0
  GoesOver visited read old result new = passed visited old.visits.now (read (words_of old.segments.now) old.budget) ≡ answered result new.budget new.visits.now

  -- A pointer word was visited, and what hangs on it gone over.
  abbrev pub GoesOverWord : Reader Node → Checker L → Result (Unit {0}) TreeFault → Checker L → Type 0
  GoesOverWord read old result new =
      passed pointers (old.visits.now + 1) (read (words_of old.segments.now) old.budget) ≡ answered result new.budget new.visits.now
