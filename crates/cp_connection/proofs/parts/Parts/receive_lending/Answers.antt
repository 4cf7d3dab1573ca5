use Rattle.std.proofs.Common.{◌≡◌, ◌∙◌, ℕ, ◌-◌, List, [], inl, inr, refl, ap, length, length-append, arith}
use Rattle.std.proofs.lemmas.Result.{err_from_is_err_and}
use Rattle.cp_connection.specs.LinkOf.{link_of}
use Rattle.cp_connection.proofs.Lending.{counted_happened, counted_open, none_by, reads_message, unread_so}
use Rattle.cp_connection.proofs.parts.Parts.receive_lending.Goals as goal

pub returns-then-not-is_empty-clause-received : goal.returns-then-not-is_empty-clause-received
returns-then-not-is_empty-clause-received c = (_, c.in_ok-count.ensures.received, refl)

pub returns-in_err-taken-clause-unreceived : goal.returns-in_err-taken-clause-unreceived
returns-in_err-taken-clause-unreceived c =
    let p = err_from_is_err_and c.from_residual-in_err-taken.result c.from_residual-in_err-taken.ensures.1 in
    rw (p.1, p.2) ([], c.in_err-taken.ensures.unreceived)

pub returns-in_default-clause-received : goal.returns-in_default-clause-received
returns-in_default-clause-received c = (link_of c.next_frame.new.self, inl (refl, refl, rw c.in_default.is at c.in_ok-taken.ensures.none), refl)

pub returns-in_err-message-clause-unreceived : goal.returns-in_err-message-clause-unreceived
returns-in_err-message-clause-unreceived c =
    let p = err_from_is_err_and c.from_residual-in_err-message.result c.from_residual-in_err-message.ensures.1 in
    let some = c.in-Some in
    let given = rw some.is at c.in_ok-taken.ensures.given in
    rw (p.1, p.2)
    ([], unread_so c.args.self.now c.next_frame.new.self c.read.new.self c.requires.keeps c.args.piece.now some.back.now some.taken some.segments given c.in_err-message.field-0.0 c.in_err-message.ensures.refused)

pub take_in_lending-requires-clause-is_open : goal.take_in_lending-requires-clause-is_open
take_in_lending-requires-clause-is_open c =
    let some = c.in-Some in
    let given = rw some.is at c.in_ok-taken.ensures.given in
    counted_open c.args.self.now c.next_frame.new.self c.read.new.self c.requires.keeps c.args.piece.now some.back.now some.taken some.segments given c.in_ok-message.ensures.counted

pub take_in_lending-requires-clause-none_happened : goal.take_in_lending-requires-clause-none_happened
take_in_lending-requires-clause-none_happened c =
    let some = c.in-Some in
    let given = rw some.is at c.in_ok-taken.ensures.given in
    counted_happened c.args.self.now c.next_frame.new.self c.read.new.self c.requires.keeps c.args.piece.now some.back.now some.taken some.segments given c.in_ok-message.ensures.counted
    ∙ none_by c.args.self.now.agenda.happened.items _ _ c.args.self.now.agenda.happened.ok.0 c.is_empty.ensures c.if-not-is_empty.false

pub returns-in_err-lent-clause-unreceived : goal.returns-in_err-lent-clause-unreceived
returns-in_err-lent-clause-unreceived c =
    let p = err_from_is_err_and c.from_residual-in_err-lent.result c.from_residual-in_err-lent.ensures.1 in
    let some = c.in-Some in
    let given = rw some.is at c.in_ok-taken.ensures.given in
    let reads = reads_message c.args.self.now c.next_frame.new.self c.read.new.self c.requires.keeps c.args.piece.now some.back.now some.taken some.segments given c.in_ok-message.ensures.counted _ c.in_ok-message.ensures.found in
    rw (p.1, p.2) (given.gives.front, inr (inr (some.back.now, _, link_of c.read.new.self, given.gives.whole, reads, c.in_err-lent.ensures.refuses)))

pub returns-clause-received : goal.returns-clause-received
returns-clause-received c =
    let some = c.in-Some in
    let given = rw some.is at c.in_ok-taken.ensures.given in
    let reads = reads_message c.args.self.now c.next_frame.new.self c.read.new.self c.requires.keeps c.args.piece.now some.back.now some.taken some.segments given c.in_ok-message.ensures.counted _ c.in_ok-message.ensures.found in
    let count : length c.args.piece.now - length some.back.now ≡ length given.gives.front = omega (arith, ap (λ (b : List ℕ). length b) given.gives.whole, length-append given.gives.front some.back.now) in
    let lends = c.in_ok-lent.ensures.lends in
    (lends.0, inr (given.gives.front, some.back.now, _, link_of c.read.new.self, given.gives.whole, count, reads, lends.1, c.finished_by-finished.ensures), lends.2)

pub returns-clause-goes_on : goal.returns-clause-goes_on
returns-clause-goes_on c =
    let given = rw c.in-Some.is at c.in_ok-taken.ensures.given in
    λ some. omega (arith, given.gives.shorter)
