use Rattle.std.proofs.Common.{ℕ, List, [], length, refl, ap, arith}
use Rattle.std.proofs.lemmas.List.{length-drop}
use Rattle.std.proofs.lemmas.Result.{err_from_is_err_and}
use Rattle.cp_connection.proofs.Finishing.{receives_of}
use Rattle.cp_dispatch.proofs.Living.{lives_both}
use Rattle.cp_serve.proofs.Reaching.{rest_of_piece, takes_front, stops_short, stops_working}
use Rattle.cp_serve.proofs.serving.Server.take_next.Goals as goal

pub returns-in_err-count-clause-stopped : goal.returns-in_err-count-clause-stopped
returns-in_err-count-clause-stopped g c =
    let p = err_from_is_err_and c.from_residual.result c.from_residual.ensures.1 in
    rw (p.1, p.2) (stops_short c.args.self.now c.args.piece.now c.in_err-count.field-0.0 (record c.args.self.now { connection = c.receive.new.connection; objects = c.receive.new.self }) _ c.in_err-count.ensures.unreceived refl refl)

pub returns-in_err-follow-clause-stopped : goal.returns-in_err-follow-clause-stopped
returns-in_err-follow-clause-stopped g c =
    let p = err_from_is_err_and c.from_residual-in_err-follow.result c.from_residual-in_err-follow.ensures.1 in
    let got = c.in_ok-count.ensures.received in
    rw (p.1, p.2) (stops_working c.args.self.now c.args.piece.now got.0 c.in_ok-count.count c.follow.new.self [] (receives_of got.4) (lives_both got.8 c.follow.ensures.lives) c.in_err-follow.ensures.kept)

pub returns-clause-taken : goal.returns-clause-taken
returns-clause-taken g c =
    let got = c.in_ok-count.ensures.received in
    takes_front c.args.self.now c.args.piece.now got.0 c.in_ok-count.count _ c.in_ok-count.has_ended got.1 got.2
    (record c.args.self.now { connection = c.receive.new.connection; objects = c.receive.new.self }) c.follow.new.self c.follow.new.objects got.4 got.5 c.requires (rest_of_piece c.args.piece.now c.in_ok-count.count _ refl) got.6 got.7 refl c.in_ok-follow.ensures.done

pub returns-clause-shorter : goal.returns-clause-shorter
returns-clause-shorter g c =
    let some = c.in_ok-count.ensures.goes_on c.requires in
    omega (arith, some, c.requires, ap (λ (x : List ℕ). length x) (rest_of_piece c.args.piece.now c.in_ok-count.count _ refl), length-drop c.in_ok-count.count c.args.piece.now)
