use Rattle.cp_encoder.proofs.reader.Reader.+add_names.Given as goal

abbrev pub decreases-add_names : goal.decreases-add_names
decreases-add_names l = l.depth
