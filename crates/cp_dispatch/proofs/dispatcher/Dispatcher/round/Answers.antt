use Rattle.std.proofs.Common.{refl, false}
use Rattle.cp_dispatch.specs.Rounds.{releases, has_ended}
use Rattle.cp_dispatch.specs.WorkOf.{work_of}
use Rattle.cp_dispatch.proofs.Living.{lives_both}
use Rattle.cp_dispatch.proofs.Working.{not_some}
use Rattle.cp_dispatch.proofs.dispatcher.Dispatcher.round.Goals as goal

pub returns-then-has_ended-clause-done : goal.returns-then-has_ended-clause-done
returns-then-has_ended-clause-done g c = has_ended c.in_ok-gave.ensures.done (c.if-has_ended.ensures.0 refl)

pub returns-in_err-release_all-clause-lives : goal.returns-in_err-release_all-clause-lives
returns-in_err-release_all-clause-lives g c = lives_both c.poll_each.ensures.lives c.release_all.ensures.lives

pub returns-in_err-work_off-clause-lives : goal.returns-in_err-work_off-clause-lives
returns-in_err-work_off-clause-lives g c = lives_both (lives_both c.poll_each.ensures.lives c.release_all.ensures.lives) c.work_off.ensures.lives

pub returns-clause-done : goal.returns-clause-done
returns-clause-done g c =
    let link = c.poll_each.new.connection in
    releases (work_of c.poll_each.new.self link) (work_of c.give_up_beside.new.self link) (work_of c.release_all.new.self c.release_all.new.connection) _ c.give_up_beside.new.objects
    c.in_ok-gave.ensures.done (not_some _ false c.if-has_ended.ensures refl)
    (c.in_ok-give_up_beside.ensures link) c.in_ok-release_all.ensures.done c.in_ok-work_off.ensures.done

pub returns-clause-lives : goal.returns-clause-lives
returns-clause-lives g c = lives_both (lives_both c.poll_each.ensures.lives c.release_all.ensures.lives) c.work_off.ensures.lives
