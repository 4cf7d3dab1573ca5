use Rattle.std.proofs.Common.{◌≡◌, ◌<◌, ◌≤◌, length, take, subst, length-take, arith}
use Rattle.std.proofs.lemmas.Bool.Decides.{nat_tests}
use Rattle.std.specs.Io.KnownBytes.{Consumes}
use Rattle.std.specs.Vec.{vec_len}
use Rattle.cp_stream.proofs.Taking.{none_sooner, some_needed, map_err, ends_inside, comes_whole, goes_on, takes_more, stops_there}
use Rattle.cp_stream.proofs.read.take_frame.Goals as goal

pub returns-then-length-eq0-clause-stopped : goal.returns-then-length-eq0-clause-stopped
returns-then-length-eq0-clause-stopped g c =
    let l = c.reading in
    let none : c.in_ok-length.length ≡ 0 = grind (arith, nat_tests) in
    let read = c.in_ok-length.ensures.bytes in
    let nothing = subst (λ n. Consumes (g.R.Read.remaining l.from.inner) (g.R.Read.remaining c.read_some.new.from.inner) (take n c.read_some.new.buffer)) none read in
    map_err c.end_of.result _ _ (λ fault t.
    ends_inside c.args.mode c.args.limits (g.R.Read.remaining c.args.from.now.inner) (g.R.Read.remaining l.from.inner) (g.R.Read.remaining c.read_some.new.from.inner)
    c.args.from.now.failures l.from.failures c.read_some.new.from.failures l.frames fault l.invariant nothing (c.in_ok-length.ensures.end none) c.in_ok-length.ensures.counted t) c.end_of.ensures.inside

pub returns-then-not-is_empty-clause-read : goal.returns-then-not-is_empty-clause-read
returns-then-not-is_empty-clause-read g c =
    let l = c.reading in
    let few : length (take c.in_ok-length.length c.read_some.new.buffer) ≤ c.needs.result = omega (arith, length-take c.in_ok-length.length c.read_some.new.buffer, c.in_ok-length.ensures.bound, c.min-most.ensures) in
    let vec : 0 < vec_len c.in-Ok.given = grind (arith, nat_tests) in
    let more : 0 < length c.in-Ok.given.items = omega (arith, vec) in
    comes_whole c.args.mode c.args.limits (g.R.Read.remaining c.args.from.now.inner) (g.R.Read.remaining l.from.inner) (g.R.Read.remaining c.read_some.new.from.inner)
    c.args.from.now.failures l.from.failures c.needs.result l.frames c.feed.new.self (take c.in_ok-length.length c.read_some.new.buffer) c.in-Ok.given.items c.swap_remove.result
    l.invariant c.in_ok-length.ensures.bytes (none_sooner l.frames c.needs.result c.needs.ensures) (some_needed l.frames l.invariant.bytes c.needs.result l.invariant.reading l.invariant.stands c.needs.ensures) few c.in-Ok.ensures.given more c.swap_remove.ensures.value

pub reading-smaller : goal.reading-smaller
reading-smaller g c =
    let l = c.reading in
    let vec : vec_len c.in-Ok.given ≡ 0 = grind (arith, nat_tests) in
    let none : length c.in-Ok.given.items ≡ 0 = omega (arith, vec) in
    let more = takes_more c.args.mode c.args.limits (g.R.Read.remaining c.args.from.now.inner) (g.R.Read.remaining l.from.inner) c.args.from.now.failures l.from.failures l.frames c.feed.new.self
    (take c.in_ok-length.length c.read_some.new.buffer) c.in-Ok.given.items l.invariant c.in-Ok.ensures.given none in
    let any : 0 < c.in_ok-length.length = grind (arith, nat_tests) in
    let some : 0 < length (take c.in_ok-length.length c.read_some.new.buffer) = omega (arith, any, length-take c.in_ok-length.length c.read_some.new.buffer, c.in_ok-length.ensures.inside) in
    omega (arith, more, some, c.taken.ensures.taken, c.taken.ensures.bound)

pub reading-preserved : goal.reading-preserved
reading-preserved g c =
    let l = c.reading in
    let vec : vec_len c.in-Ok.given ≡ 0 = grind (arith, nat_tests) in
    let none : length c.in-Ok.given.items ≡ 0 = omega (arith, vec) in
    goes_on c.args.mode c.args.limits (g.R.Read.remaining c.args.from.now.inner) (g.R.Read.remaining l.from.inner) (g.R.Read.remaining c.read_some.new.from.inner)
    c.args.from.now.failures l.from.failures c.read_some.new.from.failures l.frames c.feed.new.self (take c.in_ok-length.length c.read_some.new.buffer) c.in-Ok.given.items
    l.invariant c.in_ok-length.ensures.bytes c.in_ok-length.ensures.counted c.in-Ok.ensures.given none

pub returns-in-Err-clause-stopped : goal.returns-in-Err-clause-stopped
returns-in-Err-clause-stopped g c =
    let l = c.reading in
    rw c.refused.ensures (stops_there c.args.mode c.args.limits (g.R.Read.remaining c.args.from.now.inner) (g.R.Read.remaining l.from.inner) (g.R.Read.remaining c.read_some.new.from.inner)
    c.args.from.now.failures l.from.failures c.read_some.new.from.failures l.frames c.feed.new.self (take c.in_ok-length.length c.read_some.new.buffer) c.in-Err.fault
    l.invariant c.in_ok-length.ensures.bytes c.in_ok-length.ensures.counted c.in-Err.ensures.reported)
