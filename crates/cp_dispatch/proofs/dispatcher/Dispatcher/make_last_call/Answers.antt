use Rattle.std.proofs.Common.{refl}
use Rattle.cp_dispatch.specs.Dropping.{is_made, is_unmade}
use Rattle.cp_dispatch.proofs.Living.{lives_none}
use Rattle.cp_dispatch.proofs.Working.{after_ok}
use Rattle.cp_dispatch.proofs.dispatcher.Dispatcher.make_last_call.Goals as goal

pub returns-then-not-self-clause-done : goal.returns-then-not-self-clause-done
returns-then-not-self-clause-done g c = is_unmade c.if-not-self.true refl refl

pub returns-then-not-self-clause-lives : goal.returns-then-not-self-clause-lives
returns-then-not-self-clause-lives g c = lives_none c.args.connection.now

pub returns-clause-done : goal.returns-clause-done
returns-clause-done g c =
    after_ok c.make_call.result c.make_call.ensures.done (λ makes. is_made c.if-not-self.false (rw c.meant_call-meant.ensures at makes))
