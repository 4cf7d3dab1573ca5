use Rattle.std.proofs.Common.{◌≡◌}
use Rattle.cp_vat_laws.specs.Sizes.{AreWritable}
use Rattle.cp_tail_calls.specs.Serving.{closes, comes_of}
use Rattle.cp_connection.specs.declared.agenda.Agenda.{Agenda}
use Rattle.cp_connection.specs.Noting.{Notes, Grows}
use Rattle.cp_connection.proofs.agenda.Agenda.note.Given as goal

-- what noting the rest gives, noting all gives
abbrev pub invariant-loop-effect : goal.invariant-loop-effect
invariant-loop-effect l = record {
  noted : (new : Agenda) → Notes l.self (comes_of l.fn.trigger l.tails l.effect-iterator.rest.items).0 new → Notes l.fn.self (comes_of l.fn.trigger l.fn.tails l.fn.effects).0 new;
  tails : (comes_of l.fn.trigger l.tails l.effect-iterator.rest.items).1 ≡ (comes_of l.fn.trigger l.fn.tails l.fn.effects).1;
  closed : closes l.effect-iterator.rest.items ≡ closes l.fn.effects;
  grown : Grows l.fn.self l.self;
  writable : AreWritable l.effect-iterator.rest.items;
}
