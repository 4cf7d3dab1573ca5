use Rattle.std.proofs.Common.{refl}
use Rattle.cp_tables.proofs.TableLemmas.{listed-insert}
use Rattle.cp_objects.proofs.forwarded_calls.ForwardedCalls.add.Goals as goal

pub returns : goal.returns
returns c =
    let inside = c.self.inside in
    rw (
      ← c.self.view_is,
      listed-insert inside.waiting c.insert.new.self inside.next c.args.call c.in_ok-insert.ensures.updates,
      listed-insert inside.callers c.insert-2.new.self inside.next c.args.call.caller c.in_ok-insert-2.ensures.updates,
      listed-insert inside.numbers c.insert-3.new.self c.name_of.result inside.next c.in_ok-insert-3.ensures.updates,
      c.name_of.ensures,
      c.in-Some.ensures.1,
    )
    refl
