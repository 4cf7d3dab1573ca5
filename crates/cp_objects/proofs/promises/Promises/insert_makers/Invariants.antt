use Rattle.std.proofs.Common.{◌≡◌, map}
use Rattle.std.specs.FinMap.{values}
use Rattle.cp_objects.specs.Numbers.{inserted}
use Rattle.cp_objects.proofs.promises.Promises.insert_makers.Given as goal

-- with the others, after those that were put in, it is with all
abbrev pub invariant-loop-served_object : goal.invariant-loop-served_object
invariant-loop-served_object l = inserted (map (λ e. e.1) l.served_object-iterator) l.known ≡ inserted (values l.self.makers) l.fn.known
