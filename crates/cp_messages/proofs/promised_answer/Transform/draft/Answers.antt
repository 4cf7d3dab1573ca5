use Rattle.std.proofs.Common.{◌≡◌, ◌==◌, false, length, get_or, ◌∙◌}
use Rattle.std.proofs.lemmas.List.Elements.{All-more}
use Rattle.cp_tree.specs.DraftOf.{draft_body_of}
use Rattle.cp_messages.specs.Representable.{IsOp}
use Rattle.cp_messages.specs.Written.{body_written, op_written}
use Rattle.cp_messages.proofs.Adding.{made_more, made_all}
use Rattle.cp_messages.proofs.promised_answer.Transform.draft.Goals as goal

pub loop-op-preserved : goal.loop-op-preserved
loop-op-preserved c =
    let xs = c.ops-ops.result.now in
    let i = c.loop-op.op-index in
    let x = c.op-item.result in
    let one : draft_body_of c.in_ok-draft.field-0 ≡ body_written (op_written (get_or xs i x)) = rw (← c.op-item.is) c.in_ok-draft.ensures.made in
    let held : IsOp (get_or xs i x) = rw (← c.op-item.is) c.in_ok-draft.ensures.held in
    record {
      made = made_more op_written xs i x c.loop-op.items.items c.push.new.self.items c.in_ok-draft.field-0 c.loop-op-test.true c.loop-op.invariant.made one c.in_ok-push.ensures.items;
      held = All-more IsOp xs i x c.loop-op-test.true c.loop-op.invariant.held held;
    }

pub returns-clause-made : goal.returns-clause-made
returns-clause-made c =
    let some : (length c.ops-ops.result.now == 0) ≡ false = cc in
    rw (← c.ops-ops.ensures) (c.list_of.ensures ∙ made_all op_written 1 0 c.ops-ops.result.now c.loop-op.op-index c.loop-op.items.items some c.loop-op-test.false c.loop-op.invariant.made)
