use Rattle.std.proofs.Common.{ℕ, ◌-◌, List, None, length, take, sym, subst}
use Rattle.std.proofs.lemmas.Result.{err_from_is_err_and}
use Rattle.cp_stream.specs.Reader.{CountsOn}
use Rattle.cp_relay.specs.declared.passage.Passage.{Passage}
use Rattle.cp_relay.specs.Relay.{GivesNone}
use Rattle.cp_relay.specs.Passage.{seen}
use Rattle.cp_relay.proofs.Passing.{open_next, open_none, gives_next, gives_none, refuses_message, front_is, with_spare, next_with_spare, as_before}
use Rattle.cp_relay.proofs.passage.Passage.next.Goals as goal

pub returns-in_default-clause-open : goal.returns-in_default-clause-open
returns-in_default-clause-open g c =
    let none = rw c.in_default.is at c.in_ok-taken.ensures.none in
    let keeps = c.in_ok-keep.ensures.kept in
    open_none c.args.self.now c.requires.open c.next.new.self c.keep.new.self keeps.frames keeps.limits c.args.piece.now none

pub returns-in_default-clause-none : goal.returns-in_default-clause-none
returns-in_default-clause-none g c =
    let none = rw c.in_default.is at c.in_ok-taken.ensures.none in
    let keeps = c.in_ok-keep.ensures.kept in
    let says = g.V.Visitor.says in
    let given = gives_none says c.args.self.now c.requires.open c.next.new.self c.keep.new.self c.args.piece.now c.args.visitor.now c.args.out.now.items none keeps.output keeps.now keeps.frames keeps.at in
    subst (λ (now : List ℕ). GivesNone says (seen c.args.self.now None) c.args.piece.now (seen c.keep.new.self None) c.args.visitor.now c.args.visitor.now c.args.out.now.items now) (sym c.keep.ensures.nothing) given

pub returns-in_err-put-clause-refused : goal.returns-in_err-put-clause-refused
returns-in_err-put-clause-refused g c =
    let p = err_from_is_err_and c.from_residual-in_err-put.result c.from_residual-in_err-put.ensures.1 in
    let given = rw c.in-Some.is at c.in_ok-taken.ensures.given in
    rw (p.1, p.2) (refuses_message g.V.Visitor.says c.args.self.now c.requires.open c.next.new.self c.args.piece.now c.in-Some.back.now c.in-Some.taken c.in-Some.segments c.args.visitor.now c.put.new.visitor c.in_err-put.field-0.0 given c.in_err-put.ensures.refused)

pub returns-clause-open : goal.returns-clause-open
returns-clause-open g c =
    let given = rw c.in-Some.is at c.in_ok-taken.ensures.given in
    let keeps = c.in_ok-put.ensures.put.keeps in
    let spare = c.reuse.new.self.spare in
    let new : Passage = record c.put.new.self { frames = c.reuse.new.self; at = c.saturating_add-self.result } in
    let read = as_before c.next.new.self c.put.new.self.frames c.reuse.new.self c.reuse.ensures.stays keeps.frames in
    let next = next_with_spare c.args.self.now.frames c.next.new.self c.args.piece.now c.in-Some.back.now c.in-Some.taken c.in-Some.segments spare given in
    open_next c.args.self.now c.requires.open (with_spare c.next.new.self spare) new read keeps.limits c.args.piece.now c.in-Some.back.now c.in-Some.taken c.in-Some.segments next

pub returns-clause-given : goal.returns-clause-given
returns-clause-given g c =
    let given = rw c.in-Some.is at c.in_ok-taken.ensures.given in
    let put = c.in_ok-put.ensures.put in
    let spare = c.reuse.new.self.spare in
    let new : Passage = record c.put.new.self { frames = c.reuse.new.self; at = c.saturating_add-self.result } in
    let read = as_before c.next.new.self c.put.new.self.frames c.reuse.new.self c.reuse.ensures.stays put.keeps.frames in
    let next = next_with_spare c.args.self.now.frames c.next.new.self c.args.piece.now c.in-Some.back.now c.in-Some.taken c.in-Some.segments spare given in
    let front = front_is c.args.piece.now given.front c.in-Some.back.now given.whole in
    let counts = subst (λ (at : ℕ). CountsOn at c.in-Some.taken c.saturating_add-self.result) put.keeps.at c.saturating_add-self.ensures in
    gives_next g.V.Visitor.says c.args.self.now c.requires.open (with_spare c.next.new.self spare) new c.args.piece.now (take (length c.args.piece.now - length c.in-Some.back.now) c.args.piece.now) c.in-Some.back.now c.in-Some.taken c.in-Some.segments c.args.visitor.now c.put.new.visitor c.args.out.now.items c.put.new.out.items
    next front put.message put.holds put.sent put.sent_for put.goes_out put.let_go put.keeps.output put.keeps.now read counts
