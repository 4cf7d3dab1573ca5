use Rattle.std.proofs.Common.{◌≡◌, ◌∷◌, ap}
use Rattle.cp_objects.specs.Objects.{adding_each, alone, objects_of}
use Rattle.cp_objects.specs.ServantObject.{served_each}
use Rattle.cp_objects.proofs.served.Objects+ServantObject+S.of_servants.Goals as goal

pub loop-servant-preserved : goal.loop-servant-preserved
loop-servant-preserved g c =
    let goes_on : adding_each (served_each (c.in-Some.servant ∷ c.next.new.self.rest.items)) (objects_of c.loop-servant.objects) ≡ adding_each (served_each c.args.servants.items) alone =
    rw c.in-Some.ensures.steps.0 at c.loop-servant.invariant in
    let made : c.new.result ≡ record { servant = c.in-Some.servant } = ap (λ servant. record { servant = servant }) c.new.ensures in
    rw (c.in_ok-add.ensures.added, made) goes_on
