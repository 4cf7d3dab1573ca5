use Rattle.cp_connection.proofs.Writable.{is_memory}
use Rattle.cp_connection.proofs.outgoing.write_fault.Goals as goal

pub unreachable-requires : goal.unreachable-requires
unreachable-requires c = absurd (c.in_default.not-OutOfMemory (is_memory c.args.message.now c.requires.writable c.args.fault c.requires.fault))
