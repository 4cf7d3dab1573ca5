use Rattle.cp_reading.proofs.view.View.tree.Given as goal

abbrev pub ghosts-tree_uncounted : goal.ghosts-tree_uncounted
ghosts-tree_uncounted a = record { name = a.blank.name; parts = a.blank.parts }
