-- A connection goes on.
use Rattle.std.proofs.Common.{◌≡◌, false, [], Some, refl, sym, ap, ◌∙◌, is_none, true≢false}
use Rattle.cp_words.specs.Limits.{Bounds}
use Rattle.cp_frame.specs.declared.mode.Mode.{Mode}
use Rattle.cp_frame.specs.declared.mode.Mode.TheVariants as modes
use Rattle.cp_frame.specs.Reader as frames
use Rattle.cp_stream.proofs.Only.{open_nil}
use Rattle.cp_connection.specs.declared.fault.ConnectionFault.{ConnectionFault}
use Rattle.cp_connection.specs.declared.parts.Parts.{Parts}
use Rattle.cp_connection.specs.LinkOf.{GoesOn, KeepsUp}
use Rattle.cp_connection.specs.Owing.{OwesSendable}

-- so does one that reads on as it did
pub goes_on_as : (p q : Parts) → q.frames ≡ p.frames → q.agenda.mode ≡ p.agenda.mode → q.limits ≡ p.limits → q.is_lost ≡ p.is_lost → OwesSendable q.tails → GoesOn p → GoesOn q
goes_on_as p q f m l k o on = record {
  same_mode = ap (λ (r : frames.Reader). r.mode) f ∙ on.same_mode ∙ sym m;
  same_limits = ap (λ (r : frames.Reader). r.limits) f ∙ on.same_limits ∙ sym l;
  rest = on.rest;
  came = rw (f, m, l) on.came;
  kept = k ∙ on.kept;
  owes = o;
}

pub keeps_as : (p q : Parts) → q.frames ≡ p.frames → q.agenda.mode ≡ p.agenda.mode → q.limits ≡ p.limits → q.is_lost ≡ p.is_lost → OwesSendable q.tails → GoesOn p → KeepsUp q
keeps_as p q f m l k o on = λ is. goes_on_as p q f m l k o on

-- one that ended needs nothing
pub keeps_ended : (q : Parts) (fault : ConnectionFault) → q.fault ≡ Some fault → KeepsUp q
keeps_ended q fault e = λ is. absurd (true≢false (ap is_none (sym is ∙ e)))

-- ---- a new connection

alike : (mode : Mode) → frames.GoesOnAs mode [] []
alike modes.Plain = refl
alike modes.Packed = λ ws more. ((λ h. h), (λ h. h))

-- a reader to which nothing came stands for nothing
pub nothing_stands : (mode : Mode) (limits : Bounds) → frames.IsReading (frames.reading [] 0) × frames.Stands mode limits (frames.reading [] 0) []
nothing_stands mode limits = (tt, (alike mode, refl, open_nil mode limits))

pub new_came : (r : frames.Reader) (own mode : Mode) (limits : Bounds) → r ≡ frames.new_reader mode limits → own ≡ mode → frames.IsReading r.state × frames.Stands own limits r.state []
new_came r own mode limits f m = rw (f, m) (nothing_stands mode limits)

pub new_goes : (p : Parts) (mode : Mode) (limits : Bounds) → p.frames ≡ frames.new_reader mode limits → p.agenda.mode ≡ mode → p.limits ≡ limits → p.is_lost ≡ false → OwesSendable p.tails → GoesOn p
new_goes p mode limits f m l k o = record {
  same_mode = ap (λ (r : frames.Reader). r.mode) f ∙ sym m;
  same_limits = ap (λ (r : frames.Reader). r.limits) f ∙ sym l;
  rest = [];
  came = rw l (new_came p.frames p.agenda.mode mode limits f m);
  kept = k;
  owes = o;
}
