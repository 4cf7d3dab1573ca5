use Rattle.std.proofs.Common.{sym}
use Rattle.std.proofs.lemmas.Result.{IfErr-weaker}
use Rattle.cp_tables.proofs.TableLemmas.{insert-same}
use Rattle.cp_refs.proofs.waiting.queue_up.Goals as goal

pub returns-in-Some-clause-err : goal.returns-in-Some-clause-err
returns-in-Some-clause-err c =
    IfErr-weaker c.insert.result _ _ (λ _ same. rw same (insert-same c.args.queues.now c.args.key c.in-Some.queue.now (sym c.in-Some.ensures.value))) c.insert.ensures.err
