use Rattle.cp_reading.proofs.view.View.root.Given as goal

abbrev pub ghosts-root_uncounted : goal.ghosts-root_uncounted
ghosts-root_uncounted a = record { name = a.blank.name; parts = a.blank.parts }
