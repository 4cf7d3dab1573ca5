use Rattle.cp_reading.proofs.read.read_root.Given as goal

abbrev pub ghosts-read_uncounted : goal.ghosts-read_uncounted
ghosts-read_uncounted a = record { name = a.blank.name; parts = a.blank.parts }
