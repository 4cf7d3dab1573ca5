use Rattle.std.proofs.Common.{◌≡◌, ℕ, List, ◌++◌, length}
use Rattle.cp_frame.specs.declared.mode.Mode.{Mode}
use Rattle.cp_serve.specs.Output.{Device, device}
use Rattle.cp_serve.specs.Reached.{Serves, AllOut}
use Rattle.cp_serve.proofs.serving.Server.take_piece.Given as goal

-- a front of the piece was taken, what it leads to was written, and the stream is read on
abbrev pub invariant-taking : goal.invariant-taking
invariant-taking g l =
    (mode : Mode) (start : List g.row.O.Denot) (held : Device) (bytes : List ℕ)
    → Serves g.O.Servant.kind mode start held bytes l.fn.self l.fn.objects.items (device g.W.Write.contents l.fn.to) → AllOut l.fn.self
    → (fed : List ℕ) × (l.fn.piece ≡ fed ++ l.left)
    × Serves g.O.Servant.kind mode start held (bytes ++ fed) l.self l.objects.items (device g.W.Write.contents l.to) × AllOut l.self

abbrev pub decreases-taking : goal.decreases-taking
decreases-taking g l = length l.left
