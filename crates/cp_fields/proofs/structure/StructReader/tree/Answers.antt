use Rattle.std.proofs.Common.{◌∙◌}
use Rattle.cp_fields.specs.Parts.{data_in, pointers_in}
use Rattle.cp_fields.proofs.Owned.{struct_of}
use Rattle.cp_fields.proofs.structure.StructReader.tree.Goals as goal

pub returns-clause-same : goal.returns-clause-same
returns-clause-same c =
    struct_of _ (data_in c.self.inside.data) (pointers_in c.self.inside.pointers) c.in_ok-words_copy.ensures c.in_ok-trees_copy.ensures ∙ c.self.view_is
