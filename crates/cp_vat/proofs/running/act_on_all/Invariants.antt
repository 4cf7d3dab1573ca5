use Rattle.std.proofs.Common.{◌≡◌, ◌≤◌, ◌++◌, length, vec_len, vec_capacity}
use Rattle.cp_vat_machine.specs.Run.{Steps}
use Rattle.cp_vat.specs.Running.{moments}
use Rattle.cp_vat.proofs.running.act_on_all.Given as goal

-- the events so far were done, each with what it gave, and there is room for the others
abbrev pub invariant-loop-event : goal.invariant-loop-event
invariant-loop-event l =
    (l.fn.events.items ≡ l.yielded ++ l.event-iterator.rest.items) × (length l.done.items ≡ length l.yielded) × Steps l.initial.vat (moments l.yielded l.done.items) l.vat
    × (vec_len l.fn.events ≤ vec_capacity l.done)
