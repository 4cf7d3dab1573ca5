use Rattle.std.proofs.Common.{sym, ◌∙◌}
use Rattle.std.proofs.lemmas.Result.{err_from_is_err_and}
use Rattle.std.specs.FinSet as set
use Rattle.cp_tables.proofs.TableLemmas.{insert-same, remove-insert}
use Rattle.cp_refs.proofs.Queueing.{none_queued, or_none, remove-none}
use Rattle.cp_refs.specs.Queues.{is_queued}
use Rattle.cp_refs.proofs.waiting.end_queue.Goals as goal

pub returns-in_default-clause-moved : goal.returns-in_default-clause-moved
returns-in_default-clause-moved c = λ t.
    or_none (set.contains c.args.ended.now t) (is_queued c.args.queues.now c.args.key t) (none_queued c.args.queues.now c.args.key (sym c.in_default.ensures.value) t)

pub returns-in_default-clause-gone : goal.returns-in_default-clause-gone
returns-in_default-clause-gone c = remove-none c.args.queues.now c.args.key (sym c.in_default.ensures.value)

pub returns-in_err-append-clause-err : goal.returns-in_err-append-clause-err
returns-in_err-append-clause-err c =
    let p = err_from_is_err_and c.from_residual.result c.from_residual.ensures.1 in
    rw (p.1, c.in_err-append.ensures.other_err) (insert-same c.args.queues.now c.args.key c.in-Some.queue.now (sym c.in-Some.ensures.value))

pub returns-clause-gone : goal.returns-clause-gone
returns-clause-gone c = c.remove.ensures.removed ∙ remove-insert c.args.queues.now c.args.key c.append.new.other
