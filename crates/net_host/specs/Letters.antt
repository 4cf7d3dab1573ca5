-- In which order letters are delivered.
use Rattle.std.specs.Prelude.{◌≡◌, List, [], ◌∷◌, ◌++◌, option_to_list}
use Rattle.cp_objects.specs.declared.letters.Letter.{Letter}
use Rattle.cp_objects.specs.Letters.{bounced}
use Rattle.cp_objects.specs.ObjectTable.{ObjectTableKind}
use Rattle.net_host.specs.Floor.{Floor, Rounds, Turns, begins, bounces, delivers, delivers_short, ends, goes_on, turns}

module _ {H : Type 0} {table : ObjectTableKind H} where
  -- the letters that a turn wrote, in order: those that its session sent, or what bounced
  abbrev pub written_by : {old new : Floor H} → Turns table old new → List Letter
  written_by (goes_on key one next sent was stays puts ended notes added awaits) = sent
  written_by (ends key one last sent end was by puts queued forgets added due) = sent
  written_by (bounces letter rest first unserved back same ended budget due) = option_to_list (bounced letter)
  written_by (delivers_short letter one failed last rest sent end first served lost short added puts queued forgets due) = sent
  written_by other = []

  -- the letter that a turn took off, if it did: it was delivered to its session, or that isn't served any more
  abbrev pub taken_by : {old new : Floor H} → Turns table old new → List Letter
  taken_by (delivers letter one next first served takes puts ended budget awaits) = letter ∷ []
  taken_by (bounces letter rest first unserved back same ended budget due) = letter ∷ []
  taken_by (delivers_short letter one failed last rest sent end first served lost short added puts queued forgets due) = letter ∷ []
  taken_by other = []

  -- those of turns, one after another
  abbrev pub written_in : {old new : Floor H} → Rounds table old new → List Letter
  written_in begins = []
  written_in (turns before one) = written_in before ++ written_by one

  abbrev pub taken_in : {old new : Floor H} → Rounds table old new → List Letter
  taken_in begins = []
  taken_in (turns before one) = taken_in before ++ taken_by one

-- Whatever turns there are: the letters are taken off in the order in which they were written, each once, and those that weren't are there yet.
abbrev pub DeliversInOrder : {H : Type 0} → ObjectTableKind H → Type 0
DeliversInOrder {H} table = (old new : Floor H) (rounds : Rounds table old new) → old.letters ++ written_in rounds ≡ taken_in rounds ++ new.letters
