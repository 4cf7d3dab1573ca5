use Rattle.std.proofs.Common.{ap, ◌∙◌}
use Rattle.cp_objects.specs.Objects.{ObjectsState, settled}
use Rattle.cp_objects.specs.Context.{context_of}
use Rattle.cp_objects.proofs.Answering.{after_ok}
use Rattle.cp_objects.proofs.objects.Objects.ask_object.Goals as goal

pub returns : goal.returns
returns g c =
    after_ok c.settle.result c.settle.ensures (λ done. record {
      before = c.entry_mut-member.result.now;
      object = c.next_call.new.self;
      place = context_of c.next_call.new.context;
      said = c.in_ok-said.said;
      was = c.entry_mut-member.ensures.value;
      next_calls = rw c.enter.ensures at c.in_ok-said.ensures;
      is = done ∙ ap (λ (k : ObjectsState g.row.O.Denot). settled c.args.number k) c.in_ok-note_call.ensures;
    })
