use Rattle.std.proofs.Common.{◌∙◌, ap}
use Rattle.cp_tree.specs.Seen.{shape_of}
use Rattle.cp_reading.proofs.Views.{part-shape}
use Rattle.cp_reading.proofs.view.View.shape.Goals as goal

pub returns-in-Body-clause-is : goal.returns-in-Body-clause-is
returns-in-Body-clause-is c = c.form_shape.ensures ∙ part-shape _ _ _ c.in-Body.is c.self.invariant.0 ∙ ap shape_of c.self.view_is
