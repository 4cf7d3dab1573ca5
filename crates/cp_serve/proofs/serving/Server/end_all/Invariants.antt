use Rattle.std.proofs.Common.{true}
use Rattle.cp_serve.specs.Work.{Work}
use Rattle.cp_serve.specs.Matching.{IsAllDone}
use Rattle.cp_serve.specs.Output.{device}
use Rattle.cp_serve.specs.Reached.{AllOut, Closes, owed}
use Rattle.cp_serve.proofs.serving.Server.end_all.Given as goal

-- each round so far gave what was awaited
abbrev pub invariant-loop : goal.invariant-loop
invariant-loop g l =
    (first : Work) → IsAllDone first (owed l.fn.self) → AllOut l.fn.self
    → Closes g.O.Servant.kind first l.fn.self l.fn.objects.items (device g.W.Write.contents l.fn.to) true
    l.self l.objects.items (device g.W.Write.contents l.to)
