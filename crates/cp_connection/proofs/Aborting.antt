-- What the parts of a connection do for an abort is what an abort does.
use Rattle.std.proofs.Common.{◌≡◌, false, [], ◌∷◌, ℕ, List, refl, ap, ◌∙◌, append-nil}
use Rattle.cp_vat_machine.specs.declared.effect.Effect.TheVariants as effects
use Rattle.cp_connection.specs.declared.agenda.Agenda.{Agenda}
use Rattle.cp_connection.specs.declared.excess.Excess.{Excess}
use Rattle.cp_connection.specs.declared.fault.ConnectionFault.{ConnectionFault}
use Rattle.cp_connection.specs.declared.fault.ConnectionFault.TheVariants as faults
use Rattle.cp_connection.specs.declared.parts.Parts.{Parts}
use Rattle.cp_connection.specs.Doing.{Aborts, tells, runs_out, let_go}
use Rattle.cp_connection.specs.Excess.{abort_of}
use Rattle.cp_connection.specs.LinkOf.{LetsGo, link_of}
use Rattle.cp_connection.specs.Noting.{Notes, Stays}

-- with this agenda a connection lets go what it keeps
gone : (p r : Parts) (agenda : Agenda) (fault : ConnectionFault) → LetsGo (record p { agenda = agenda }) fault r → agenda.mode ≡ p.agenda.mode
    → agenda.happened.items ≡ p.agenda.happened.items
    → link_of r ≡ record (let_go (link_of p) fault) { unwritten = agenda.outgoing; stats = record (link_of p).stats { sent = agenda.sent } }
gone p r agenda fault goes mode happened = ap link_of goes.same ∙ rw (goes.frames, mode, happened) refl

pub aborts_told : (p r : Parts) (agenda : Agenda) (excess : Excess) → (link_of p).vat.is_closed ≡ false → Notes p.agenda (effects.Send (abort_of excess) ∷ []) agenda
    → LetsGo (record p { agenda = agenda }) faults.Closed r → Aborts (link_of p) excess (link_of r)
aborts_told p r agenda excess open_ notes goes =
    tells notes.bytes agenda.sent open_ notes.frames notes.counts
    (gone p r agenda faults.Closed goes notes.same_mode (notes.happens ∙ append-nil p.agenda.happened.items)
    ∙ ap (λ (b : List ℕ). record (let_go (link_of p) faults.Closed) { unwritten = b; stats = record (link_of p).stats { sent = agenda.sent } }) notes.goes_out)

pub aborts_untold : (p r : Parts) (agenda : Agenda) (excess : Excess) → (link_of p).vat.is_closed ≡ false → Stays p.agenda agenda
    → LetsGo (record p { agenda = agenda }) faults.OutOfMemory r → Aborts (link_of p) excess (link_of r)
aborts_untold p r agenda excess open_ stays goes =
    runs_out open_ (gone p r agenda faults.OutOfMemory goes stays.same_mode stays.same_happenings ∙ rw (stays.same_bytes, stays.same_count) refl)
