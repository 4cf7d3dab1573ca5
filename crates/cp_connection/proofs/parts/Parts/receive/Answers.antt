use Rattle.std.proofs.Common.{◌≡◌, ℕ, ◌-◌, List, [], inl, inr, refl, ap, length, length-append, arith}
use Rattle.std.proofs.lemmas.Result.{err_from_is_err_and}
use Rattle.cp_connection.specs.LinkOf.{link_of}
use Rattle.cp_connection.proofs.Concluding.{still_refuses}
use Rattle.cp_connection.proofs.Lending.{counted_open, reads_message, unread_so}
use Rattle.cp_connection.proofs.parts.Parts.receive.Goals as goal

pub returns-in_err-taken-clause-unreceived : goal.returns-in_err-taken-clause-unreceived
returns-in_err-taken-clause-unreceived c =
    let p = err_from_is_err_and c.from_residual.result c.from_residual.ensures.1 in
    rw (p.1, p.2) ([], c.in_err-taken.ensures.unreceived)

pub returns-in_default-clause-received : goal.returns-in_default-clause-received
returns-in_default-clause-received c = inl (refl, refl, rw c.in_default.is at c.in_ok-taken.ensures.none)

pub returns-in_err-message-clause-unreceived : goal.returns-in_err-message-clause-unreceived
returns-in_err-message-clause-unreceived c =
    let p = err_from_is_err_and c.from_residual-in_err-message.result c.from_residual-in_err-message.ensures.1 in
    let some = c.in-Some in
    let given = rw some.is at c.in_ok-taken.ensures.given in
    rw (p.1, p.2)
    ([], unread_so c.args.self.now c.next_frame.new.self c.read.new.self c.requires.keeps c.args.piece.now some.back.now some.taken some.segments given c.in_err-message.field-0.0 c.in_err-message.ensures.refused)

pub take_in-requires-clause-is_open : goal.take_in-requires-clause-is_open
take_in-requires-clause-is_open c =
    let some = c.in-Some in
    let given = rw some.is at c.in_ok-taken.ensures.given in
    counted_open c.args.self.now c.next_frame.new.self c.read.new.self c.requires.keeps c.args.piece.now some.back.now some.taken some.segments given c.in_ok-message.ensures.counted

pub returns-in_err-take_in-clause-unreceived : goal.returns-in_err-take_in-clause-unreceived
returns-in_err-take_in-clause-unreceived c =
    let p = err_from_is_err_and c.from_residual-in_err-take_in.result c.from_residual-in_err-take_in.ensures.1 in
    let some = c.in-Some in
    let given = rw some.is at c.in_ok-taken.ensures.given in
    let open_ = counted_open c.args.self.now c.next_frame.new.self c.read.new.self c.requires.keeps c.args.piece.now some.back.now some.taken some.segments given c.in_ok-message.ensures.counted in
    let reads = reads_message c.args.self.now c.next_frame.new.self c.read.new.self c.requires.keeps c.args.piece.now some.back.now some.taken some.segments given c.in_ok-message.ensures.counted _ c.in_ok-message.ensures.found in
    rw (p.1, p.2) (given.gives.front, inr (inr (some.back.now, _, link_of c.read.new.self, given.gives.whole, reads, still_refuses _ _ _ _ open_ c.in_err-take_in.ensures.acts)))

pub returns-clause-keeps : goal.returns-clause-keeps
returns-clause-keeps c = rw c.reuse.ensures.stays (λ is.
    let on = c.in_ok-take_in.ensures.keeps is in
    record { same_mode = on.same_mode; same_limits = on.same_limits; rest = on.rest; came = on.came; kept = on.kept; owes = on.owes })

pub returns-clause-received : goal.returns-clause-received
returns-clause-received c =
    let some = c.in-Some in
    let given = rw some.is at c.in_ok-taken.ensures.given in
    let reads = reads_message c.args.self.now c.next_frame.new.self c.read.new.self c.requires.keeps c.args.piece.now some.back.now some.taken some.segments given c.in_ok-message.ensures.counted _ c.in_ok-message.ensures.found in
    let count : length c.args.piece.now - length some.back.now ≡ length given.gives.front = omega (arith, ap (λ (b : List ℕ). length b) given.gives.whole, length-append given.gives.front some.back.now) in
    rw c.reuse.ensures.stays (inr (given.gives.front, some.back.now, _, link_of c.read.new.self, given.gives.whole, count, reads, c.in_ok-take_in.ensures.acts, c.finished_by-finished.ensures))

pub returns-clause-goes_on : goal.returns-clause-goes_on
returns-clause-goes_on c =
    let given = rw c.in-Some.is at c.in_ok-taken.ensures.given in
    λ some. omega (arith, given.gives.shorter)
