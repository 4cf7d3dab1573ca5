use Rattle.cp_schema.proofs.kind.+inside.Given as goal

abbrev pub decreases-inside : goal.decreases-inside
decreases-inside l = l.deepest
