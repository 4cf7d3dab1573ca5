use Rattle.cp_objects.specs.Context.{context_of}
use Rattle.cp_objects.proofs.Answering.{after_ok}
use Rattle.cp_objects.proofs.objects.Objects.tell.Goals as goal

pub returns : goal.returns
returns g c =
    after_ok c.settle.result c.settle.ensures (λ settled. record {
      before = c.entry_mut-member.result.now;
      object = c.take.new.self;
      place = context_of c.take.new.context;
      was = c.entry_mut-member.ensures.value;
      takes = rw c.enter.ensures at c.in_ok-take.ensures;
      is = rw c.in_ok-insert.ensures.put at settled;
    })
