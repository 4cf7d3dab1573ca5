use Rattle.std.proofs.Common.{◌≡◌, ℕ, List, ◌++◌, length}
use Rattle.cp_client.specs.ConversationOf.{seen}
use Rattle.cp_client.specs.CallWindows.{EndsEach}
use Rattle.cp_client.proofs.call_window.CallWindow.end.Given as goal

-- some of the questions ended, and the others are under way
abbrev pub invariant-ending : goal.invariant-ending
invariant-ending g l =
    (ended : List ℕ)
    × (l.fn.self.under_way ≡ ended ++ l.self.under_way)
    × EndsEach g.S.DrivenSession.table (seen g.S.DrivenSession.state g.R.Read.remaining g.W.Write.contents l.fn.client) ended (seen g.S.DrivenSession.state g.R.Read.remaining g.W.Write.contents l.client)
    × (l.self.window ≡ l.fn.self.window)

abbrev pub decreases-ending : goal.decreases-ending
decreases-ending g l = length l.self.under_way
