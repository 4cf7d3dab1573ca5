use Rattle.std.proofs.lemmas.Result.{err_from_is_err_and}
use Rattle.c_handles.specs.declared.reader.ReaderState.{ReaderState}
use Rattle.c_handles.proofs.Reading.{takes_fault}
use Rattle.c_handles.proofs.reader.ReaderState.next.Goals as goal

pub returns-in_err-segments : goal.returns-in_err-segments
returns-in_err-segments c =
    let p = err_from_is_err_and c.from_residual.result c.from_residual.ensures.1 in
    let new : ReaderState = record c.forget.new.self { frames = c.next.new.self } in
    let told = takes_fault c.args.self.now new c.forget.new.self.frames c.args.piece.now c.in_err-segments.field-0.0 c.forget.ensures.stays c.in_err-segments.ensures.reported c.forget.ensures.none c.forget.ensures.limits c.forget.ensures.nothing in
    rw (p.1, p.2) told
