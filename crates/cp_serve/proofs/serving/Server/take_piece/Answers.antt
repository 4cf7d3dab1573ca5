use Rattle.std.proofs.Common.{[], ◌++◌, false, refl, sym, ◌∙◌, inl}
use Rattle.std.proofs.lemmas.Result.{err_from_is_err_and}
use Rattle.cp_serve.specs.Output.{device}
use Rattle.cp_serve.specs.Reached.{ahead, ready_of}
use Rattle.cp_serve.proofs.Landing.{lands_fills, lands_out, lands_stops, stops_broken, cut_of_fills, cut_of_stopped, stops_whole, goes_ended, either_way}
use Rattle.cp_serve.proofs.Reaching.{not_some, all_written, none_left_by, serves_none, serves_all, fills_after, fills_still}
use Rattle.cp_serve.proofs.serving.Server.take_piece.Goals as goal

pub taking-init : goal.taking-init
taking-init g c = λ mode start held bytes serves out. ([], refl, serves_none bytes serves, out)

pub returns-in_err-write-clause-stopped : goal.returns-in_err-write-clause-stopped
returns-in_err-write-clause-stopped g c =
    let p = err_from_is_err_and c.from_residual.result c.from_residual.ensures.1 in
    let old = device g.W.Write.contents c.taking.to in
    let new = device g.W.Write.contents c.write.new.to in
    let filled = c.fill_block-filled.new.self in
    let broken = c.in_err-write.ensures.broken in
    rw (p.1, p.2, c.in_err-write.ensures.device.1) (λ mode start held from left bytes serves out.
    let now = c.taking.invariant mode start held bytes serves out in
    stops_broken old new (ready_of filled) broken.sent broken.left broken.splits broken.passes.appends c.in_err-write.ensures.device.0 (bytes ++ c.args.piece.now) from left [] (all_written (bytes ++ now.0) now.2.0 c.taking.self now.2.1 now.3)
    (either_way c.fill_block-filled.result c.fill_block-filled.ensures.taken c.fill_block-filled.ensures.stopped
    (λ x taken. cut_of_fills bytes now.0 c.taking.left.now c.args.piece.now x.now left.bytes now.1 (taken mode start held old (bytes ++ now.0) now.2))
    (λ fault stopped. cut_of_stopped bytes now.0 c.taking.left.now c.args.piece.now from left _ now.1 fault (stopped mode start held from left old (bytes ++ now.0) now.2)))
    broken.failed)

pub returns-in_err-left-clause-stopped : goal.returns-in_err-left-clause-stopped
returns-in_err-left-clause-stopped g c =
    let p = err_from_is_err_and c.from_residual-in_err-left.result c.from_residual-in_err-left.ensures.1 in
    let old = device g.W.Write.contents c.taking.to in
    let new = device g.W.Write.contents c.write.new.to in
    let filled = c.fill_block-filled.new.self in
    rw (p.1, p.2) (λ mode start held from left bytes serves out.
    let now = c.taking.invariant mode start held bytes serves out in
    lands_stops g.O.Servant.kind mode start held old new (ready_of filled) c.in_ok-write.ensures.sent.0.appends c.in_ok-write.ensures.sent.1 (bytes ++ c.args.piece.now) from left _ c.in_err-left.field-0.0
    (stops_whole g.O.Servant.kind mode start held (ahead old (ready_of filled)) _ bytes now.0 c.taking.left.now c.args.piece.now from left now.1 c.in_err-left.field-0.0 (c.in_err-left.ensures.stopped mode start held from left old (bytes ++ now.0) now.2)))

pub returns-then-has_ended-clause-taken : goal.returns-then-has_ended-clause-taken
returns-then-has_ended-clause-taken g c =
    let old = device g.W.Write.contents c.taking.to in
    let new = device g.W.Write.contents c.write.new.to in
    let filled = c.fill_block-filled.new.self in
    let sent = c.in_ok-write.ensures.sent in
    λ mode start held bytes serves out.
    let now = c.taking.invariant mode start held bytes serves out in
    let taken = c.in_ok-left.ensures.taken mode start held old (bytes ++ now.0) now.2 in
    let landed = lands_fills filled c.write.new.self old new c.in_ok-write.ensures.written c.in_ok-write.ensures.same sent.0.appends sent.1 (bytes ++ now.0) c.taking.left.now c.in_ok-left.left.now taken in (
      goes_ended bytes now.0 c.taking.left.now c.args.piece.now c.in_ok-left.left.now now.1 landed (c.if-has_ended.ensures.0 refl),
      lands_out filled c.write.new.self old new c.in_ok-write.ensures.written c.in_ok-write.ensures.same sent.0.appends sent.1 (bytes ++ now.0) c.taking.left.now c.in_ok-left.left.now taken,
    )

pub taking-preserved : goal.taking-preserved
taking-preserved g c =
    let is_open = not_some _ false c.if-has_ended.ensures refl in
    let old = device g.W.Write.contents c.taking.to in
    let new = device g.W.Write.contents c.write.new.to in
    let filled = c.fill_block-filled.new.self in
    let sent = c.in_ok-write.ensures.sent in
    λ mode start held bytes serves out.
    let now = c.taking.invariant mode start held bytes serves out in
    let taken = c.in_ok-left.ensures.taken mode start held old (bytes ++ now.0) now.2 in
    let landed = lands_fills filled c.write.new.self old new c.in_ok-write.ensures.written c.in_ok-write.ensures.same sent.0.appends sent.1 (bytes ++ now.0) c.taking.left.now c.in_ok-left.left.now taken in
    let front = fills_still bytes c.args.piece.now c.in_ok-left.left.now c.write.new.self (fills_after bytes now.0 c.taking.left.now c.args.piece.now c.in_ok-left.left.now now.1 landed) is_open in (
      front.0,
      front.1,
      front.2,
      lands_out filled c.write.new.self old new c.in_ok-write.ensures.written c.in_ok-write.ensures.same sent.0.appends sent.1 (bytes ++ now.0) c.taking.left.now c.in_ok-left.left.now taken,
    )

pub returns-clause-taken : goal.returns-clause-taken
returns-clause-taken g c =
    let none = none_left_by c.taking.left.now (sym c.is_empty.ensures ∙ c.taking-test.false) in
    λ mode start held bytes serves out.
    let now = c.taking.invariant mode start held bytes serves out in
    (inl (serves_all bytes now.0 c.taking.left.now c.args.piece.now now.1 none now.2), now.3)
