use Rattle.std.proofs.Common.{◌∙◌, ap}
use Rattle.std.specs.Prelude.{nat_lt}
use Rattle.cp_objects.proofs.objects.Objects.has_settled.Goals as goal

pub returns : goal.returns
returns g c = ap (λ n. nat_lt 0 n) (c.len.ensures ∙ c.args.self.now.settled.ok.0)
