use Rattle.std.proofs.Common.{refl}
use Rattle.cp_dispatch.specs.Calling.{by_object, by_none}
use Rattle.cp_dispatch.proofs.Working.{lacks, after_ok}
use Rattle.cp_dispatch.proofs.dispatcher.Dispatcher.on_response.Goals as goal

pub returns-then-has : goal.returns-then-has
returns-then-has g c = after_ok c.on_response_at.result c.on_response_at.ensures (λ told link. by_object (c.in_ok-hold_given.ensures link) told)

pub returns : goal.returns
returns g c = λ link. by_none (lacks _ c.has.ensures c.if-has.false) refl refl
