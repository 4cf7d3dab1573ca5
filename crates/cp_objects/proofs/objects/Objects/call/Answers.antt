use Rattle.std.proofs.Common.{◌≡◌, ℕ, List, ap, refl}
use Rattle.cp_refs.specs.declared.cap.Cap.{Cap}
use Rattle.cp_servants.specs.Requests.{request_of}
use Rattle.cp_objects.specs.Objects.{objects_of, replying_held}
use Rattle.cp_objects.specs.Context.{context_of}
use Rattle.cp_objects.proofs.Holding.{held_at}
use Rattle.cp_objects.proofs.objects.Objects.call.Goals as goal

pub returns : goal.returns
returns g c = record {
  before = c.entry_mut-member.result.now;
  object = c.call.new.self;
  said = c.in_ok-said.said;
  place = context_of c.call.new.context;
  first = objects_of c.adopt_each.new.self;
  seen = record (request_of c.args.request) { caps = c.named_each-caps.result };
  adopts = c.in_ok-adopt_each.ensures.adopted;
  was = c.entry_mut-member.ensures.value;
  sees = ap (λ (caps : List Cap). record (request_of c.args.request) { caps = caps }) c.named_each-caps.ensures;
  takes = rw c.enter.ensures at c.in_ok-said.ensures;
  replies =
      held_at (λ (holds : List ℕ). c.in_ok-reply.reply ≡ replying_held holds c.in_ok-said.said) c.adopt_each.new.self.members c.args.number
      (record c.entry_mut-member.result.now { object = c.call.new.self; holds = c.add_each.new.self }) _
      (rw (c.in_ok-add_each.ensures.added, c.ids.ensures, c.in_ok-imports.ensures) refl) c.in_ok-reply.ensures;
  is = rw (c.in_ok-add_each.ensures.added, c.ids.ensures, c.in_ok-imports.ensures, c.in_ok-named.ensures) at c.in_ok-follow_call.ensures;
}
