use Rattle.std.proofs.Common.{Some, refl, ap, ◌∙◌}
use Rattle.cp_words.specs.Limits.{Bounds}
use Rattle.cp_connection.specs.Link.{new_link}
use Rattle.cp_serve.proofs.serving.Server.new.Goals as goal

pub returns : goal.returns
returns c = record {
  connection = c.new.ensures.fresh ∙ ap (λ (l : Bounds). new_link c.args.mode l (Some 0)) c.standard.ensures;
  owes = c.new-2.ensures;
  ready = refl;
  came = c.new.ensures.came;
}
