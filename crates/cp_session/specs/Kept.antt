-- How much a session keeps.
use Rattle.std.specs.Prelude.{ℕ, ◌+◌, ◌*◌, length}
use Rattle.std.specs.FinMap.{len}
use Rattle.cp_frame.specs.Reader.{taken_of}
use Rattle.cp_refs.specs.Memory.{counted}
use Rattle.cp_vat.specs.Kept.{entries_of}
use Rattle.cp_connection.specs.Contents.{event_memory, kept_contents}
use Rattle.cp_dispatch.specs.Noticed as dispatch
use Rattle.cp_dispatch.specs.Work.{Work}

-- The bytes that are kept: of the open message, of what waits to be written, of the contents that the vat keeps, and of those that weren't taken. Each entry of
-- the vat counts for 640 bytes more, as does each object that may go, and each promise for 272.
abbrev pub kept_of : Work → ℕ → ℕ
kept_of work guests =
    counted (taken_of work.link.reading + length work.link.unwritten + (entries_of work.link.vat + guests) * 640 + len work.link.vat.values.promises * 272 + kept_contents work.link + event_memory work.link.happened + dispatch.event_memory work.notices)
