use Rattle.cp_objects.specs.Objects.{objects_of}
use Rattle.cp_objects.specs.Context.{context_of}
use Rattle.cp_objects.proofs.Answering.{after_ok}
use Rattle.cp_objects.proofs.objects.Objects.on_response.Goals as goal

pub returns : goal.returns
returns g c =
    after_ok c.settle.result c.settle.ensures (λ settled. record {
      before = c.entry_mut-member.result.now;
      object = c.on_response.new.self;
      place = context_of c.on_response.new.context;
      first = objects_of c.adopt_given.new.self;
      adopts = c.in_ok-adopt_given.ensures.adopted;
      was = c.entry_mut-member.ensures.value;
      on_response = rw (c.enter.ensures, c.named_outcome-outcome.ensures) at c.in_ok-on_response.ensures;
      is = rw (c.in_ok-insert.ensures.put, c.saturating_sub-member.ensures, c.in_ok-add_each.ensures.added, c.ids.ensures, c.in_ok-imports.ensures) at settled;
    })
