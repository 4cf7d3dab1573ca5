use Rattle.std.proofs.Common.{◌≡◌, ◌≤◌, ℕ, List, [], length}
use Rattle.std.specs.Io.KnownBytes.{Consumes}
use Rattle.cp_stream.specs.Tap.{inner_of, failures_of}
use Rattle.cp_frame.specs.declared.mode.Mode.{Mode}
use Rattle.cp_serve.specs.Output.{Device, device}
use Rattle.cp_serve.specs.Reached.{Serves, AllOut}
use Rattle.cp_serve.proofs.serving.Server.take_all.Given as goal

-- this many pieces were read, and the stream is read on
abbrev pub invariant-loop-pieces : goal.invariant-loop-pieces
invariant-loop-pieces g l =
    (failures_of l.from ≡ failures_of l.fn.from)
    × ((mode : Mode) (start : List g.row.O.Denot) (held : Device)
    → Serves g.O.Servant.kind mode start held [] l.fn.self l.fn.objects.items (device g.W.Write.contents l.fn.to) → AllOut l.fn.self
    → (bytes : List ℕ) × Consumes (g.R.Read.remaining (inner_of l.fn.from)) (g.R.Read.remaining (inner_of l.from)) bytes × (l.pieces ≤ length bytes)
    × Serves g.O.Servant.kind mode start held bytes l.self l.objects.items (device g.W.Write.contents l.to) × AllOut l.self)
