use Rattle.std.proofs.Common.{arith}
use Rattle.cp_session.proofs.endpoint.Endpoint.kept.Goals as goal

pub returns : goal.returns
returns g c =
    let held = c.held-held.ensures in
    omega (arith, held.came, held.unwritten, held.entries, held.promises, held.contents, c.guests.ensures, c.saturating_add-entries.ensures, c.saturating_mul-entries.ensures, c.saturating_mul-promises.ensures, c.saturating_add-bytes.ensures, c.saturating_add-tables.ensures, c.event_memory-happened.ensures, c.event_memory.ensures c.args.self.now.connection, c.saturating_add-untaken.ensures, c.saturating_add-contents.ensures, c.saturating_add.ensures, c.saturating_add-2.ensures)
