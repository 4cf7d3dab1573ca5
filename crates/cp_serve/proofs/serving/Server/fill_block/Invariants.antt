use Rattle.std.proofs.Common.{◌≡◌, ◌≤◌, ℕ, List, ◌++◌, length}
use Rattle.cp_frame.specs.declared.mode.Mode.{Mode}
use Rattle.cp_serve.specs.Output.{Device}
use Rattle.cp_serve.specs.Reached.{Serves}
use Rattle.cp_serve.proofs.serving.Server.fill_block.Given as goal

-- a front of the piece was taken, what it leads to is ready to go out, and the stream is read on
abbrev pub invariant-filling : goal.invariant-filling
invariant-filling g l =
    (length l.left ≤ length l.fn.piece)
    × ((mode : Mode) (start : List g.row.O.Denot) (held to : Device) (bytes : List ℕ)
    → Serves g.O.Servant.kind mode start held bytes l.fn.self l.fn.objects.items to
    → (fed : List ℕ) × (l.fn.piece ≡ fed ++ l.left)
    × Serves g.O.Servant.kind mode start held (bytes ++ fed) l.self l.objects.items to)

abbrev pub decreases-filling : goal.decreases-filling
decreases-filling g l = length l.left
