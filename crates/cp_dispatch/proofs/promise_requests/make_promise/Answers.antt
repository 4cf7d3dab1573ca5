use Rattle.std.proofs.Common.{refl}
use Rattle.cp_dispatch.specs.PromiseRequests.{is_made, is_unmade}
use Rattle.cp_dispatch.proofs.Living.{lives_promise}
use Rattle.cp_dispatch.proofs.Working.{after_ok}
use Rattle.cp_dispatch.proofs.promise_requests.make_promise.Goals as goal

pub returns-in-Ok-clause-done : goal.returns-in-Ok-clause-done
returns-in-Ok-clause-done g c = after_ok c.keep_promise.result c.keep_promise.ensures (λ kept. is_made c.in-Ok.id c.in-Ok.ensures kept)

pub returns-in-Ok-clause-lives : goal.returns-in-Ok-clause-lives
returns-in-Ok-clause-lives g c = lives_promise c.args.connection.now c.promise.new.self c.promise.result c.promise.ensures

pub returns-in-OutOfMemory-clause-lives : goal.returns-in-OutOfMemory-clause-lives
returns-in-OutOfMemory-clause-lives g c = lives_promise c.args.connection.now c.promise.new.self c.promise.result c.promise.ensures

pub returns-in_default : goal.returns-in_default
returns-in_default g c = record {
  done = is_unmade c.in-Err.fault c.in_default.not-OutOfMemory c.in-Err.ensures refl;
  lives = lives_promise c.args.connection.now c.promise.new.self c.promise.result c.promise.ensures;
}
