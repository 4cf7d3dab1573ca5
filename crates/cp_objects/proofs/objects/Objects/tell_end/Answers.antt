use Rattle.cp_objects.specs.Context.{context_of}
use Rattle.cp_objects.proofs.Answering.{after_ok}
use Rattle.cp_objects.proofs.objects.Objects.tell_end.Goals as goal

pub returns : goal.returns
returns g c =
    after_ok c.settle_last.result c.settle_last.ensures (λ done. record {
      before = c.entry_mut-member.result.now;
      object = c.ended.new.self;
      place = context_of c.ended.new.context;
      was = c.entry_mut-member.ensures.value;
      ends = rw c.enter.ensures at c.in_ok-ended.ensures;
      is = done;
    })
