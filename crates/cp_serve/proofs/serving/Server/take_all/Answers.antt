use Rattle.std.proofs.Common.{◌<◌, ◌≤◌, ◌+◌, ◌-◌, ◌%◌, ◌^◌, ℕ, List, [], ◌++◌, take, length, false, refl, ap, ◌∙◌, inl, inr, arith}
use Rattle.std.proofs.lemmas.Result.{err_from_is_err_and}
use Rattle.std.proofs.KnownBytes.{Consumes-nil, Consumes-trans, Consumes-kept}
use Rattle.cp_serve.specs.Output.{device}
use Rattle.cp_serve.proofs.Reaching.{not_some, cut_out, taken_out, rest_is_open, one_more_piece, stops_inside, reads_nothing, goes_over, goes_still, reads_well}
use Rattle.cp_serve.proofs.serving.Server.take_all.Goals as goal

pub loop-pieces-init : goal.loop-pieces-init
loop-pieces-init g c = (refl, λ mode start held serves out. ([], Consumes-nil _, omega arith, serves, out))

pub returns-in_err-storage-clause-stopped : goal.returns-in_err-storage-clause-stopped
returns-in_err-storage-clause-stopped g c =
    let p = err_from_is_err_and c.from_residual.result c.from_residual.ensures.1 in
    rw (p.1, p.2) (λ mode start held serves out. ([], Consumes-nil _, cut_out [] serves.0 _ c.args.self.now serves.1 out))

pub returns-in_err-length-clause-stopped : goal.returns-in_err-length-clause-stopped
returns-in_err-length-clause-stopped g c =
    let p = err_from_is_err_and c.from_residual-in_err-length.result c.from_residual-in_err-length.ensures.1 in
    let failed = c.in_err-length.ensures.counts.failures ∙ ap (λ (n : ℕ). (n + 1) % 2 ^ 64) c.loop-pieces.invariant.0 in
    rw (p.1, p.2) (λ mode start held serves out.
    let now = c.loop-pieces.invariant.1 mode start held serves out in (
      now.0,
      Consumes-kept _ _ _ now.0 now.1 c.in_err-length.ensures.bytes,
      (inl failed, cut_out now.0 now.3.0 (g.R.Read.remaining c.read.new.self.inner) c.loop-pieces.self now.3.1 now.4),
    ))

pub returns-then-length-eq0-clause-taken : goal.returns-then-length-eq0-clause-taken
returns-then-length-eq0-clause-taken g c =
    let some : 0 < length c.read.new.buf = omega (arith, c.read.auto.buf, c.loop-pieces.auto.buffer, ap (λ (x : List ℕ). length x) c.as_mut_slice-buffer.ensures.value, c.in_ok-storage.ensures.len) in
    λ mode start held serves out.
    let now = c.loop-pieces.invariant.1 mode start held serves out in
    let same = c.in_ok-end.ensures.ended.same in
    rw same (
      now.0,
      reads_nothing _ _ _ now.0 c.read.new.buf c.in_ok-length.length now.1 c.in_ok-length.ensures.bytes.0 c.if-length-eq0.true,
      now.3.0,
      now.3.1,
      inl (c.in_ok-end.ensures.ended.nothing now.3.0 now.3.2.came, c.in_ok-length.ensures.bytes.1 c.if-length-eq0.true some),
      now.4,
    )

pub returns-in_err-end-clause-stopped : goal.returns-in_err-end-clause-stopped
returns-in_err-end-clause-stopped g c =
    let p = err_from_is_err_and c.from_residual-in_err-end.result c.from_residual-in_err-end.ensures.1 in
    let some : 0 < length c.read.new.buf = omega (arith, c.read.auto.buf, c.loop-pieces.auto.buffer, ap (λ (x : List ℕ). length x) c.as_mut_slice-buffer.ensures.value, c.in_ok-storage.ensures.len) in
    rw (p.1, p.2) (λ mode start held serves out.
    let now = c.loop-pieces.invariant.1 mode start held serves out in (
      now.0,
      reads_nothing _ _ _ now.0 c.read.new.buf c.in_ok-length.length now.1 c.in_ok-length.ensures.bytes.0 c.if-length-eq0.true,
      stops_inside now.0 now.3.0 (device g.R.Read.remaining c.args.from.now) (device g.R.Read.remaining c.read.new.self) c.loop-pieces.self c.end.new.self now.3.1 now.3.2 now.4 c.in_err-end.field-0.0 c.in_err-end.ensures.cut
          (c.in_ok-length.ensures.bytes.1 c.if-length-eq0.true some),
    ))

pub returns-in_err-take_piece-clause-stopped : goal.returns-in_err-take_piece-clause-stopped
returns-in_err-take_piece-clause-stopped g c =
    let p = err_from_is_err_and c.from_residual-in_err-take_piece.result c.from_residual-in_err-take_piece.ensures.1 in
    rw (p.1, p.2) (λ mode start held serves out.
    let now = c.loop-pieces.invariant.1 mode start held serves out in (
      now.0 ++ take c.in_ok-length.length c.read.new.buf,
      Consumes-trans _ _ _ now.0 (take c.in_ok-length.length c.read.new.buf) now.1 c.in_ok-length.ensures.bytes.0,
      c.in_err-take_piece.ensures.stopped mode start held (device g.R.Read.remaining c.args.from.now) (device g.R.Read.remaining c.read.new.self) now.0 now.3 now.4,
    ))

pub returns-then-has_ended-clause-taken : goal.returns-then-has_ended-clause-taken
returns-then-has_ended-clause-taken g c =
    λ mode start held serves out.
    let now = c.loop-pieces.invariant.1 mode start held serves out in
    let taken = c.in_ok-take_piece.ensures.taken mode start held now.0 now.3 now.4 in
    let over = goes_over _ (g.R.Read.remaining c.read.new.self.inner) c.take_piece.new.self taken.0 (c.if-has_ended.ensures.0 refl) in (
      now.0 ++ take c.in_ok-length.length c.read.new.buf,
      Consumes-trans _ _ _ now.0 (take c.in_ok-length.length c.read.new.buf) now.1 c.in_ok-length.ensures.bytes.0,
      over.0,
      over.1,
      over.2,
      taken.1,
    )

pub loop-pieces-preserved : goal.loop-pieces-preserved
loop-pieces-preserved g c =
    let is_open = not_some _ false c.if-has_ended.ensures refl in (
      c.in_ok-length.ensures.counts.failures ∙ c.loop-pieces.invariant.0,
      λ mode start held serves out.
          let now = c.loop-pieces.invariant.1 mode start held serves out in
          let taken = c.in_ok-take_piece.ensures.taken mode start held now.0 now.3 now.4 in (
            now.0 ++ take c.in_ok-length.length c.read.new.buf,
            Consumes-trans _ _ _ now.0 (take c.in_ok-length.length c.read.new.buf) now.1 c.in_ok-length.ensures.bytes.0,
            one_more_piece now.0 (take c.in_ok-length.length c.read.new.buf) c.loop-pieces.pieces c.in_ok-length.length now.2 c.in_ok-length.ensures.bound.1 c.if-length-eq0.false,
            goes_still _ c.take_piece.new.self taken.0 is_open,
            taken.1,
          ),
    )

pub returns-clause-taken : goal.returns-clause-taken
returns-clause-taken g c =
    λ mode start held serves out.
    let now = c.loop-pieces.invariant.1 mode start held serves out in
    let many : 2 ^ 64 - 1 ≤ length now.0 = omega (arith, now.2, c.loop-pieces-test.false) in
    (now.0, now.1, now.3.0, now.3.1, inr (inr many), now.4)

pub returns-in_err-storage-clause-unread : goal.returns-in_err-storage-clause-unread
returns-in_err-storage-clause-unread g c =
    let p = err_from_is_err_and c.from_residual.result c.from_residual.ensures.1 in
    rw (p.1, p.2) (λ mode start held serves out. refl)

pub returns-in_err-length-clause-unread : goal.returns-in_err-length-clause-unread
returns-in_err-length-clause-unread g c =
    let p = err_from_is_err_and c.from_residual-in_err-length.result c.from_residual-in_err-length.ensures.1 in
    let failed = c.in_err-length.ensures.counts.failures ∙ ap (λ (n : ℕ). (n + 1) % 2 ^ 64) c.loop-pieces.invariant.0 in
    rw (p.1, p.2) (λ mode start held serves out.
    let now = c.loop-pieces.invariant.1 mode start held serves out in
    inr (
      failed,
      now.0,
      Consumes-kept _ _ _ now.0 now.1 c.in_err-length.ensures.bytes,
      taken_out now.0 now.3.0 c.loop-pieces.self now.3.1 now.4 now.3.2.is_open,
      rest_is_open now.3.0 c.loop-pieces.self now.3.1 now.3.2,
    ))

pub returns-in_err-end-clause-unread : goal.returns-in_err-end-clause-unread
returns-in_err-end-clause-unread g c =
    let p = err_from_is_err_and c.from_residual-in_err-end.result c.from_residual-in_err-end.ensures.1 in
    let same = c.in_ok-length.ensures.counts.failures ∙ c.loop-pieces.invariant.0 in
    rw (p.1, p.2) (λ mode start held serves out. reads_well g.O.Servant.kind mode start (device g.R.Read.remaining c.args.from.now) (device g.R.Read.remaining c.read.new.self) held _ _ _ same)

pub returns-in_err-take_piece-clause-unread : goal.returns-in_err-take_piece-clause-unread
returns-in_err-take_piece-clause-unread g c =
    let p = err_from_is_err_and c.from_residual-in_err-take_piece.result c.from_residual-in_err-take_piece.ensures.1 in
    let same = c.in_ok-length.ensures.counts.failures ∙ c.loop-pieces.invariant.0 in
    rw (p.1, p.2) (λ mode start held serves out. reads_well g.O.Servant.kind mode start (device g.R.Read.remaining c.args.from.now) (device g.R.Read.remaining c.read.new.self) held _ _ c.in_err-take_piece.field-0.0 same)

pub returns-then-length-eq0-clause-read : goal.returns-then-length-eq0-clause-read
returns-then-length-eq0-clause-read g c = c.in_ok-length.ensures.counts.failures ∙ c.loop-pieces.invariant.0

pub returns-then-has_ended-clause-read : goal.returns-then-has_ended-clause-read
returns-then-has_ended-clause-read g c = c.in_ok-length.ensures.counts.failures ∙ c.loop-pieces.invariant.0

pub returns-clause-read : goal.returns-clause-read
returns-clause-read g c = c.loop-pieces.invariant.0
