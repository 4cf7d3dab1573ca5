use Rattle.std.proofs.Common.{◌≡◌, None, IsSome, rules}
use Rattle.cp_connection.proofs.Results.{after_ok}
use Rattle.cp_connection.proofs.Settling.{event_owes, follows_all, follows_shut}
use Rattle.cp_connection.proofs.parts.Parts.note.Goals as goal

pub returns-then-is_some-clause-follows : goal.returns-then-is_some-clause-follows
returns-then-is_some-clause-follows c =
    let some : IsSome c.note_event.new.self.fault = search rules in
    follows_shut c.args.self.now c.note_event.new.self c.args.trigger c.args.effects c.in_ok-note_event.ensures.noted c.requires.owes some

pub settle-requires-clause-owes : goal.settle-requires-clause-owes
settle-requires-clause-owes c = event_owes c.args.self.now c.note_event.new.self c.args.trigger c.args.effects c.in_ok-note_event.ensures.noted c.requires.owes

pub returns-clause-follows : goal.returns-clause-follows
returns-clause-follows c =
    let open_ : c.note_event.new.self.fault ≡ None = search rules in
    after_ok c.settle.result c.settle.ensures.settled (λ k. follows_all c.args.self.now c.note_event.new.self c.args.trigger c.args.effects c.in_ok-note_event.ensures.noted c.settle.new.self open_ k)
