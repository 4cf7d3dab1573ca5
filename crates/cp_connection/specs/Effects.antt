-- What the effects of a vat ask of a connection, up to the vat's closing.
use Rattle.std.specs.Prelude.{◌≡◌, ℕ, List, [], ◌∷◌, ◌++◌}
use Rattle.cp_words.specs.Limits.{standard}
use Rattle.cp_frame.specs.declared.mode.Mode.{Mode}
use Rattle.cp_messages.specs.declared.message.Message.{Message}
use Rattle.cp_stream.specs.Write.{IsWrittenAs}
use Rattle.cp_vat_machine.specs.Run.{Moment}
use Rattle.cp_vat_machine.specs.declared.effect.Effect.{Effect}
use Rattle.cp_vat_machine.specs.declared.effect.Effect.TheVariants as effects
use Rattle.cp_connection.specs.declared.event.ConnectionEvent.{ConnectionEvent}
use Rattle.cp_connection.specs.declared.event.ConnectionEvent.TheVariants as happenings

-- what happens by effects, in order
abbrev pub happening_by : List Effect → List ConnectionEvent
happening_by [] = []
happening_by (effects.Send m ∷ more) = happening_by more
happening_by (effects.Deliver object origin ticket call ∷ more) = happenings.Delivered object origin ticket call ∷ happening_by more
happening_by (effects.Settled question outcome ∷ more) = happenings.Settled question outcome ∷ happening_by more
happening_by (effects.Closed reason ∷ more) = happenings.Closed reason ∷ []

-- the frame of a message, of one segment within the standard limits, comes after these bytes
abbrev pub Puts : Mode → Message → List ℕ → List ℕ → Type 0
Puts mode m old new = (b : List ℕ) × IsWrittenAs mode standard standard.frame_words 1 m b × (new ≡ old ++ b)

-- the bytes are the frames of these messages, each of one segment within the standard limits, one after another
abbrev pub AreFramesOf : Mode → List Message → List ℕ → Type 0
AreFramesOf mode [] b = b ≡ []
AreFramesOf mode (m ∷ more) b =
    (front : List ℕ) × (back : List ℕ) × (b ≡ front ++ back) × IsWrittenAs mode standard standard.frame_words 1 m front × AreFramesOf mode more back

-- what happened, in order
abbrev pub happened : List Moment → List ConnectionEvent
happened [] = []
happened (moment ∷ more) = happening_by moment.effects ++ happened more
