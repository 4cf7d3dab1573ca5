use Rattle.std.proofs.Common.{◌≡◌, refl}
use Rattle.std.proofs.lemmas.Result.{err_from_is_err_and}
use Rattle.cp_objects.specs.SessionCap.{is_of}
use Rattle.cp_client.specs.Calls.{AsksOrNot}
use Rattle.cp_client.specs.ConversationOf.{seen}
use Rattle.cp_client.specs.Faults.{of_naming}
use Rattle.cp_client.specs.CallWindows.{due, forgotten, full}
use Rattle.cp_client.proofs.Calling.{is_called, unsent_for}
use Rattle.cp_client.proofs.Streaming.{noted_last, room_seen}
use Rattle.cp_client.proofs.call_window.CallWindow.send.Goals as goal

pub returns-in_err-make_room-clause-unsent : goal.returns-in_err-make_room-clause-unsent
returns-in_err-make_room-clause-unsent g c =
    let p = err_from_is_err_and c.from_residual.result c.from_residual.ensures.1 in
    rw (p.1, p.2) (full c.in_err-make_room.ensures.full)

pub returns-in_err-promised-clause-unsent : goal.returns-in_err-promised-clause-unsent
returns-in_err-promised-clause-unsent g c =
    let p = err_from_is_err_and c.from_residual-in_err-promised.result c.from_residual-in_err-promised.ensures.1 in
    let view = seen g.S.DrivenSession.state g.R.Read.remaining g.W.Write.contents in
    let target = c.args.target.now in
    rw (p.1, p.2)
    (unsent_for g.S.DrivenSession.table view c.args.self.now (view c.args.client.now) _ target c.args.request c.in_err-promised.field-0.0 c.make_room.new.client _
    c.in_ok-make_room.ensures.room (is_of c.make_room.new.client.number target) refl c.in_err-promised.ensures)

pub returns-in_err-push_back-clause-unsent : goal.returns-in_err-push_back-clause-unsent
returns-in_err-push_back-clause-unsent g c =
    let p = err_from_is_err_and c.from_residual-in_err-push_back.result c.from_residual-in_err-push_back.ensures.1 in
    let old = seen g.S.DrivenSession.state g.R.Read.remaining g.W.Write.contents c.args.client.now in
    let mid = seen g.S.DrivenSession.state g.R.Read.remaining g.W.Write.contents c.make_room.new.client in
    let room = room_seen g.S.DrivenSession.table c.args.self.now.under_way old mid (due c.args.self.now) c.self.view_is c.in_ok-make_room.ensures.room in
    let view = seen g.S.DrivenSession.state g.R.Read.remaining g.W.Write.contents in
    let target = c.args.target.now in
    let called =
    is_called mid.number (λ a cap r result b. AsksOrNot (view a) cap r result (view b)) (λ why f. f ≡ of_naming why) (is_of mid.number target) c.make_room.new.client
    target.cap c.args.request c.in_ok-promised.promised _ c.in_ok-promised.ensures in
    rw (p.1, p.2, c.in_err-push_back.ensures.items) (forgotten c.in_ok-promised.promised.question mid refl room called.0 called.1)

pub returns-clause-sends : goal.returns-clause-sends
returns-clause-sends g c =
    let old = seen g.S.DrivenSession.state g.R.Read.remaining g.W.Write.contents c.args.client.now in
    let mid = seen g.S.DrivenSession.state g.R.Read.remaining g.W.Write.contents c.make_room.new.client in
    let view = seen g.S.DrivenSession.state g.R.Read.remaining g.W.Write.contents in
    let target = c.args.target.now in
    let called =
    is_called mid.number (λ a cap r result b. AsksOrNot (view a) cap r result (view b)) (λ why f. f ≡ of_naming why) (is_of mid.number target) c.make_room.new.client
    target.cap c.args.request c.in_ok-promised.promised _ c.in_ok-promised.ensures in
    record {
      left = c.self.inside.under_way.items;
      mid = mid;
      room = room_seen g.S.DrivenSession.table c.args.self.now.under_way old mid (due c.args.self.now) c.self.view_is c.in_ok-make_room.ensures.room;
      own = called.0;
      question = c.in_ok-promised.promised.question;
      asks = called.1;
      noted =
          noted_last c.args.self.now c.make_room.new.self c.self.inside.window c.self.inside.under_way.items c.push_back.new.self.items
          c.question.result c.in_ok-promised.promised.question c.self.view_is c.make_room.ensures.same_window
          c.in_ok-push_back.ensures.items c.question.ensures;
    }
