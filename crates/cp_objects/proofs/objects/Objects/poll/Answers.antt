use Rattle.std.proofs.Common.{◌≡◌, ℕ, List, refl}
use Rattle.cp_objects.specs.AnyObject.{any_object}
use Rattle.cp_objects.specs.Objects.{objects_of, own_of}
use Rattle.cp_objects.specs.Context.{context_of}
use Rattle.cp_objects.proofs.Holding.{held_at}
use Rattle.cp_objects.proofs.Polling.{goes_by}
use Rattle.cp_objects.proofs.objects.Objects.poll.Goals as goal

pub returns : goal.returns
returns g c =
    let noted = c.note_poll.ensures in
    record {
      before = c.entry_mut-member.result.now;
      object = c.poll.new.self;
      place = context_of c.poll.new.context;
      said = c.in_ok-said.said;
      rest = objects_of c.note_poll.new.self;
      was = c.entry_mut-member.ensures.value;
      polls = rw c.enter.ensures at c.in_ok-said.ensures;
      own =
          held_at (λ (holds : List ℕ). c.in_ok-given.given ≡ own_of c.args.number holds c.in_ok-said.said c.args.self.now.pending_answers) c.args.self.now.members c.args.number
          (record c.entry_mut-member.result.now { object = c.poll.new.self }) _ refl c.in_ok-given.ensures;
      goes_on = goes_by (any_object g.O.ServedObject.makes) _ _ _ _ _ c.has_more-has_more.result noted.gave noted.more noted.rests c.has_more-has_more.ensures;
      is = c.in_ok-settle.ensures;
    }
