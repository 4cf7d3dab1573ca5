use Rattle.std.proofs.Common.{◌≡◌, ◌⊎◌, inl, inr, [], sym, subst, rules, arith}
use Rattle.std.proofs.lemmas.List.{nil_from_length}
use Rattle.std.proofs.lemmas.Bool.Decides.{nat_tests}
use Rattle.std.specs.Vec.{vec_len}
use Rattle.cp_stream.specs.declared.status.ReaderStatus.TheVariants as statuses
use Rattle.cp_stream.specs.declared.status.ReaderStatus.{ReaderStatus}
use Rattle.cp_stream.specs.Reader.{IsMemory, Gives}
use Rattle.cp_stream.specs.Kept.{seen, KeepsUp, ReadsPiece, RefusesPiece}
use Rattle.cp_stream.proofs.Readers.{gives_all, gives_before, reports}
use Rattle.cp_stream.proofs.reader.read_piece.Goals as goal
use Rattle.cp_stream.proofs.reader.read_piece.Goals.{then-is_memory-via-then-is_memory, then-is_memory-via-else-is_memory+then-is_empty}

pub returns-then-is_memory-clause-reported : goal.returns-then-is_memory-clause-reported
returns-then-is_memory-clause-reported c =
    let same = subst (λ (s : ReaderStatus). KeepsUp c.args.limits s c.args.frames.now) c.in-Reading.is c.requires in
    let refuses = subst (λ l. RefusesPiece l c.args.frames.now c.args.piece.now c.read_frames.new.frames c.read_frames.new.messages.items c.args.at.now c.read_frames.new.at c.in-Err.refusal) (sym same) c.in-Err.ensures.refused in
    let why : IsMemory c.in-Err.refusal ⊎ (c.read_frames.new.messages.items ≡ []) =
    elim c.then-is_memory.branch [
      | then-is_memory-via-then-is_memory w ↦ inl (c.is_memory.ensures.0 w.if-is_memory.true)
      | then-is_memory-via-else-is_memory+then-is_empty w ↦ (let none : vec_len c.read_frames.new.messages ≡ 0 = grind (arith, nat_tests) in inr (nil_from_length c.read_frames.new.messages.items (omega (arith, none))))
    ] in
    let all = reports c.args.frames.now c.read_frames.new.frames c.args.piece.now c.read_frames.new.messages.items c.args.at.now c.read_frames.new.at c.in-Err.refusal refuses why in
    rw (c.refused-then-is_memory.ensures, c.in-Reading.is) all

pub returns-in-Ok-clause-given : goal.returns-in-Ok-clause-given
returns-in-Ok-clause-given c =
    let same = subst (λ (s : ReaderStatus). KeepsUp c.args.limits s c.args.frames.now) c.in-Reading.is c.requires in
    let reads = subst (λ l. ReadsPiece l c.args.frames.now c.args.piece.now c.read_frames.new.frames c.read_frames.new.messages.items c.args.at.now c.read_frames.new.at) (sym same) c.in-Ok.ensures.given in
    subst (λ (s : ReaderStatus). Gives (seen s c.args.frames.now c.args.at.now) c.args.piece.now (seen s c.read_frames.new.frames c.read_frames.new.at) c.read_frames.new.messages.items) (sym c.in-Reading.is)
    (gives_all c.args.frames.now c.read_frames.new.frames c.args.piece.now c.read_frames.new.messages.items c.args.at.now c.read_frames.new.at reads)

pub returns-else-is_empty-clause-given : goal.returns-else-is_empty-clause-given
returns-else-is_empty-clause-given c =
    let same = subst (λ (s : ReaderStatus). KeepsUp c.args.limits s c.args.frames.now) c.in-Reading.is c.requires in
    let refuses = subst (λ l. RefusesPiece l c.args.frames.now c.args.piece.now c.read_frames.new.frames c.read_frames.new.messages.items c.args.at.now c.read_frames.new.at c.in-Err.refusal) (sym same) c.in-Err.ensures.refused in
    let not_memory : IsMemory c.in-Err.refusal → ⊥ = λ h. search (rules) in
    let some : c.read_frames.new.messages.items ≡ [] → ⊥ = λ h. grind (arith, nat_tests) in
    subst (λ (s : ReaderStatus). Gives (seen s c.args.frames.now c.args.at.now) c.args.piece.now (seen (statuses.Refusing c.in-Err.refusal) c.read_frames.new.frames c.read_frames.new.at) c.read_frames.new.messages.items) (sym c.in-Reading.is)
    (gives_before c.args.frames.now c.read_frames.new.frames c.args.piece.now c.read_frames.new.messages.items c.args.at.now c.read_frames.new.at c.in-Err.refusal refuses not_memory some)
