use Rattle.std.proofs.Common.{Bool, refl, ap, ◌∙◌}
use Rattle.cp_session.specs.Progress.{failed, moved_at, opened_by}
use Rattle.cp_session.proofs.session.SessionOver.take.Goals as goal

pub returns-in-Ok-clause-takes : goal.returns-in-Ok-clause-takes
returns-in-Ok-clause-takes g c = record {
  at = c.set_now.new.self;
  times = c.set_now.ensures;
  takes = c.in-Ok.ensures.takes;
  limits = refl;
  progress =
      c.take_at.ensures
      ∙ ap (λ (b : Bool). record (moved_at c.args.now c.args.self.now.progress) { opened = opened_by c.args.self.now.progress.opened b c.args.now }) c.is_open.ensures;
}

pub returns-in-Err-clause-cut : goal.returns-in-Err-clause-cut
returns-in-Err-clause-cut g c = record {
  at = c.set_now.new.self;
  times = c.set_now.ensures;
  link = c.receive-taken.new.self.connection;
  cut = c.in-Err.ensures.cut;
  refuses = rw (← c.excess.ensures) c.refuse.ensures.refuses;
  limits = refl;
  progress =
      c.fail.ensures
      ∙ ap (λ p. failed p c.in-Err.fault)
      (c.take_at.ensures
      ∙ ap (λ (b : Bool). record (moved_at c.args.now c.args.self.now.progress) { opened = opened_by c.args.self.now.progress.opened b c.args.now }) c.is_open.ensures);
}
