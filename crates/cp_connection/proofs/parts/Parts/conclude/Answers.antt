use Rattle.std.proofs.Common.{refl}
use Rattle.cp_connection.proofs.Concluding.{concludes}
use Rattle.cp_connection.proofs.Settling.{loses_noted}
use Rattle.cp_connection.proofs.parts.Parts.conclude.Goals as goal

pub returns-in-Err-clause-noted : goal.returns-in-Err-clause-noted
returns-in-Err-clause-noted g c = rw (c.in-Err.is, c.refuse.ensures.same, c.refuse.ensures.ends) (refl, refl)

pub returns-in-Err-clause-acts : goal.returns-in-Err-clause-acts
returns-in-Err-clause-acts g c =
    concludes c.args.self.now c.requires.is_open (c.requires.keeps c.requires.is_open).kept c.args.trigger c.args.acted _ _ (returns-in-Err-clause-noted g c)

pub returns-in-Err-note-clause-noted : goal.returns-in-Err-note-clause-noted
returns-in-Err-note-clause-noted g c =
    rw c.in-Ok.is (c.lose.ensures.same, loses_noted c.args.self.now c.note.new.self c.lose.new.self c.mark-mark.result c.mark-mark.ensures c.in-Err-note.ensures.grown c.lose.ensures.goes_back c.lose.ensures.loses)

pub returns-in-Err-note-clause-acts : goal.returns-in-Err-note-clause-acts
returns-in-Err-note-clause-acts g c =
    concludes c.args.self.now c.requires.is_open (c.requires.keeps c.requires.is_open).kept c.args.trigger c.args.acted _ _ (returns-in-Err-note-clause-noted g c)

pub returns-in-Ok-note-clause-noted : goal.returns-in-Ok-note-clause-noted
returns-in-Ok-note-clause-noted g c = rw c.in-Ok.is (refl, c.in-Ok-note.ensures.follows)

pub returns-in-Ok-note-clause-acts : goal.returns-in-Ok-note-clause-acts
returns-in-Ok-note-clause-acts g c =
    concludes c.args.self.now c.requires.is_open (c.requires.keeps c.requires.is_open).kept c.args.trigger c.args.acted _ _ (returns-in-Ok-note-clause-noted g c)
