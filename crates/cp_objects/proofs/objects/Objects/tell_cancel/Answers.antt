use Rattle.cp_objects.specs.Context.{context_of}
use Rattle.cp_objects.proofs.Answering.{after_ok}
use Rattle.cp_objects.proofs.objects.Objects.tell_cancel.Goals as goal

pub returns : goal.returns
returns g c =
    after_ok c.settle.result c.settle.ensures (λ settled. record {
      before = c.entry_mut-member.result.now;
      object = c.on_cancel.new.self;
      place = context_of c.on_cancel.new.context;
      was = c.entry_mut-member.ensures.value;
      on_cancel = rw c.enter.ensures at c.in_ok-on_cancel.ensures;
      is = rw c.in_ok-insert.ensures.put at settled;
    })
