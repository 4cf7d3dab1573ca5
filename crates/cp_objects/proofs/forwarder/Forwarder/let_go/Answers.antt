use Rattle.cp_objects.specs.Context.{context_of}
use Rattle.cp_objects.proofs.Answering.{after_ok}
use Rattle.cp_objects.proofs.Forwarding.{lent_no_more, lent_yet, none_lent}
use Rattle.cp_objects.proofs.forwarder.Forwarder.let_go.Goals as goal

pub returns-in_default : goal.returns-in_default
returns-in_default g c = none_lent c.args.self.now (context_of c.args.context.now) c.args.key c.take.new.self c.in_default.ensures.left c.in_default.ensures.taken

pub returns-then-names : goal.returns-then-names
returns-then-names g c =
    lent_yet c.args.self.now (context_of c.args.context.now) c.args.key c.take.new.self c.in-Some.ensures.left c.in-Some.shared c.in-Some.ensures.taken (rw c.cap.ensures at c.if-names.ensures)

pub returns : goal.returns
returns g c =
    after_ok c.give_up_own.result c.give_up_own.ensures.noted (λ given.
    lent_no_more c.args.self.now (context_of c.args.context.now) c.args.key c.take.new.self c.in-Some.ensures.left c.in-Some.shared _ c.in-Some.ensures.taken (rw c.cap.ensures at c.if-names.ensures)
    (rw c.cap-2.ensures at given))
