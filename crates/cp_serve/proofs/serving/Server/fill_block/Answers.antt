use Rattle.std.proofs.Common.{[], ◌++◌, refl, arith, inl}
use Rattle.std.proofs.lemmas.Result.{err_from_is_err_and}
use Rattle.cp_serve.specs.Reached.{ahead, ready_of}
use Rattle.cp_serve.proofs.Landing.{stops_whole}
use Rattle.cp_serve.proofs.Reaching.{serves_none, fills_after, fills_still}
use Rattle.cp_serve.proofs.serving.Server.fill_block.Goals as goal

pub filling-init : goal.filling-init
filling-init g c = (omega arith, λ mode start held to bytes serves. ([], refl, serves_none bytes serves))

pub returns-in_err-left-clause-stopped : goal.returns-in_err-left-clause-stopped
returns-in_err-left-clause-stopped g c =
    let p = err_from_is_err_and c.from_residual.result c.from_residual.ensures.1 in
    rw (p.1, p.2) (λ mode start held from left to bytes serves.
    let now = c.filling.invariant.1 mode start held to bytes serves in
    stops_whole g.O.Servant.kind mode start held (ahead to (ready_of c.take_next.new.self)) _ bytes now.0 c.filling.left.now c.args.piece.now from left now.1 c.in_err-left.field-0.0
    (c.in_err-left.ensures.stopped mode start held from left to (bytes ++ now.0) now.2))

pub returns-then-ends_block-clause-shorter : goal.returns-then-ends_block-clause-shorter
returns-then-ends_block-clause-shorter g c = omega (arith, c.filling.invariant.0, c.in_ok-left.ensures.shorter)

pub returns-then-ends_block-clause-taken : goal.returns-then-ends_block-clause-taken
returns-then-ends_block-clause-taken g c =
    λ mode start held to bytes serves.
    let now = c.filling.invariant.1 mode start held to bytes serves in
    fills_after bytes now.0 c.filling.left.now c.args.piece.now c.in_ok-left.left.now now.1 (c.in_ok-left.ensures.taken mode start held to (bytes ++ now.0) now.2)

pub filling-preserved : goal.filling-preserved
filling-preserved g c = (
  omega (arith, c.filling.invariant.0, c.in_ok-left.ensures.shorter),
  λ mode start held to bytes serves.
      let now = c.filling.invariant.1 mode start held to bytes serves in
      fills_still bytes c.args.piece.now c.in_ok-left.left.now c.take_next.new.self
      (fills_after bytes now.0 c.filling.left.now c.args.piece.now c.in_ok-left.left.now now.1 (c.in_ok-left.ensures.taken mode start held to (bytes ++ now.0) now.2)) (c.ends_block.ensures c.if-ends_block.false),
)

pub returns-clause-taken : goal.returns-clause-taken
returns-clause-taken g c = λ mode start held to bytes serves.
    let now = c.filling.invariant.1 mode start held to bytes serves in
    (now.0, now.1, inl now.2)
