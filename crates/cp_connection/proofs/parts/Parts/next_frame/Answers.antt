use Rattle.std.proofs.Common.{inl, inr, refl}
use Rattle.cp_connection.proofs.Reading.{on_after_one, unread_frame}
use Rattle.cp_connection.proofs.parts.Parts.next_frame.Goals as goal

pub returns-in-Ok-Some-clause-keeps : goal.returns-in-Ok-Some-clause-keeps
returns-in-Ok-Some-clause-keeps c =
    let on = c.requires.keeps c.in_ok-check_open.ensures.open in
    let next = c.in-Ok-Some.next in
    let gives = rw c.in-Ok-Some.field-0-is at c.in-Ok-Some.ensures.given in
    λ is. on_after_one c.args.self.now c.next.new.self c.args.self.now.bytes c.args.self.now.messages next.0 c.args.piece.now next.2.now next.1 on gives

pub returns-in-Ok-Some-clause-given : goal.returns-in-Ok-Some-clause-given
returns-in-Ok-Some-clause-given c =
    let gives = rw c.in-Ok-Some.field-0-is at c.in-Ok-Some.ensures.given in
    record { was_open = c.in_ok-check_open.ensures.open; gives = gives; same = refl }

pub returns-in-Err-clause-unreceived : goal.returns-in-Err-clause-unreceived
returns-in-Err-clause-unreceived c =
    let on = c.requires.keeps c.in_ok-check_open.ensures.open in
    rw (c.fail.ensures.fails, c.fail.ensures.same, c.unread.ensures)
    (inr (inl (refl, unread_frame c.args.self.now on c.args.piece.now c.in-Err.fault c.in-Err.ensures.reported.reported, record { was_open = c.in_ok-check_open.ensures.open; same = refl })))
