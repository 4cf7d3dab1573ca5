-- What a filter puts out for each message.
use Rattle.std.specs.Prelude.{◌≡◌, ◌⊎◌, ◌<◌, ℕ, true, false, List, [], ◌++◌, length, take, Option, Some, None, IfSome, IfNone, Result, IfOk}
use Rattle.std.specs.Global.{Vec}
use Rattle.cp_words.specs.Limits.{Bounds}
use Rattle.cp_frame.specs.declared.mode.Mode.{Mode}
use Rattle.cp_messages.specs.declared.message.Message.{Message}
use Rattle.cp_stream.specs.Stream.{IsFrameOf}
use Rattle.cp_stream.specs.Write.{IsPut, IsUnwrittenFor}
use Rattle.cp_stream.specs.declared.fault.Refusal.{Refusal}
use Rattle.cp_relay.specs.declared.fault.RelayFault.{RelayFault}
use Rattle.cp_relay.specs.declared.output.Output.{Output}
use Rattle.cp_relay.specs.declared.output.Output.TheVariants as outputs
use Rattle.cp_relay.specs.Relay.{Relay, StandsFor, IsSameStream, IsSentFor, StopsNextAt, EndsInside}
use Rattle.cp_relay.specs.declared.guard.Guard.{Guard}
use Rattle.cp_relay.specs.declared.filter.Filter.{Filter}
use Rattle.cp_relay.specs.declared.filter.FilterFault.{FilterFault}
use Rattle.cp_relay.specs.declared.filter.FilterFault.TheVariants as faults
use Rattle.cp_relay.specs.declared.ruling.Ruling.{Ruling}
use Rattle.cp_relay.specs.declared.ruling.Ruling.TheVariants as rulings
use Rattle.cp_relay.specs.Judged.{judged_from}
use Rattle.cp_relay.specs.Guard.{call_in, Begins, Judges}

-- the form of the frames that go on, where those that come are in the form `from`
abbrev pub form_on : Mode → Output → Mode
form_on from outputs.AsRead = from
form_on from (outputs.Anew mode) = mode

-- What is put out for a message that is sent as these bytes: `out` becomes `now` and goes on, and `answers` become `later` and go back.
abbrev pub Follows : Mode → Mode → Bounds → Ruling → List ℕ → List ℕ → List ℕ → List ℕ → List ℕ → Type 0
Follows on back limits rulings.Passes sent out now answers later = (now ≡ out ++ sent) × (later ≡ answers)
Follows on back limits (rulings.Changes m) sent out now answers later = IsPut on limits limits.frame_words 1 m out now × (later ≡ answers)
Follows on back limits (rulings.Answers m) sent out now answers later = (now ≡ out) × IsPut back limits limits.frame_words 1 m answers later
Follows on back limits rulings.Drops sent out now answers later = (now ≡ out) × (later ≡ answers)
Follows on back limits (rulings.Closes breach) sent out now answers later = ⊥

-- The filter does what was judged of a message that is sent as these bytes.
abbrev pub Does : Filter → Ruling → List ℕ → Vec ℕ → Vec ℕ → Vec ℕ → Vec ℕ → Type 0
Does f ruling sent out now answers later = Follows f.on f.back f.limits ruling sent out.items now.items answers.items later.items

-- The same of a message that stands in `out` from `start` on: it stays, or is taken back.
abbrev pub DoesFrom : Filter → Ruling → ℕ → Vec ℕ → Vec ℕ → Vec ℕ → Vec ℕ → Type 0
DoesFrom f rulings.Passes start out now answers later = (now.items ≡ out.items) × (later.items ≡ answers.items)
DoesFrom f (rulings.Closes breach) start out now answers later = (now.items ≡ take start out.items) × (later.items ≡ answers.items)
DoesFrom f other start out now answers later = Follows f.on f.back f.limits other [] (take start out.items) now.items answers.items later.items

-- The filter reads the same stream, for the same guard and in the same forms.
pub record IsSameFilter (old new : Filter) : Type 0 where
  pub stream : IsSameStream old.relay new.relay
  pub on : new.on ≡ old.on
  pub back : new.back ≡ old.back
  pub limits : new.limits ≡ old.limits
  pub comes_back : new.comes_back ≡ old.comes_back

-- These bytes are the frame of one message. The guard judged it, and what it judged was done.
pub record Guarded (before after : Guard) (f : Filter) (frame : List ℕ) (out now answers later : Vec ℕ) : Type 0 where
  pub message : Message
  pub is_frame : IsFrameOf f.relay.frames.mode f.relay.frames.limits frame message
  pub sent : List ℕ
  pub sent_for : IsSentFor f.relay.output f.relay.frames.limits frame message sent
  pub ruling : Ruling
  pub judged : record { ruling = ruling; state = after.state } ≡ judged_from f.comes_back before.rules.now before.state message
  pub rules : after.rules.now ≡ before.rules.now
  pub called : after.call ≡ call_in f.comes_back after.state.refused message
  pub is_open : after.closed ≡ false
  pub does : Does f ruling sent out now answers later

-- The piece was read up to a frame's end, and what was judged of its message was done.
pub record GuardsNext (before after : Guard) (old new : Filter) (piece rest : List ℕ) (out now answers later : Vec ℕ) : Type 0 where
  pub front : List ℕ
  pub whole : piece ≡ front ++ rest
  pub shorter : length rest < length piece
  pub went_on : old.relay.fault ≡ None
  pub is_open : before.closed ≡ false
  pub same : IsSameFilter old new
  pub guarded : (b : List ℕ) → StandsFor old.relay b → Guarded before after old (b ++ front) out now answers later × StandsFor new.relay []

-- The guard judged nothing.
pub record IsUnasked (before after : Guard) : Type 0 where
  pub rules : after.rules.now ≡ before.rules.now
  pub state : after.state ≡ before.state
  pub uncalled : after.call ≡ None
  pub closed : after.closed ≡ before.closed

-- The piece was read, and no frame ends in it.
pub record GuardsNone (before after : Guard) (old new : Filter) (piece : List ℕ) (out now answers later : Vec ℕ) : Type 0 where
  pub went_on : old.relay.fault ≡ None
  pub is_open : before.closed ≡ false
  pub same : IsSameFilter old new
  pub goes_on : now.items ≡ out.items
  pub goes_back : later.items ≡ answers.items
  pub reads : (b : List ℕ) → StandsFor old.relay b → StandsFor new.relay (b ++ piece) × IsUnasked before after

-- The relay stopped at the first message that had come, as the guard said of it, or had stopped before and says so again.
pub record StopsRelay (before after : Guard) (old new : Filter) (piece : List ℕ) (fault : RelayFault) : Type 0 where
  pub begun : Guard
  pub begins : Begins old.comes_back before begun
  pub stops : StopsNextAt Judges old.relay piece new.relay begun after fault

-- why what was judged can't be put out
abbrev pub IsUnputFor : Bounds → Ruling → Refusal → Type 0
IsUnputFor limits (rulings.Changes m) refusal = IsUnwrittenFor limits limits.frame_words 1 m refusal
IsUnputFor limits (rulings.Answers m) refusal = IsUnwrittenFor limits limits.frame_words 1 m refusal
IsUnputFor limits other refusal = ⊥

-- These bytes are the frame of one message. The guard judged it, and what it judged can't be put out.
pub record IsUnanswered (before after : Guard) (f : Filter) (frame : List ℕ) (refusal : Refusal) : Type 0 where
  pub message : Message
  pub is_frame : IsFrameOf f.relay.frames.mode f.relay.frames.limits frame message
  pub ruling : Ruling
  pub judged : record { ruling = ruling; state = after.state } ≡ judged_from f.comes_back before.rules.now before.state message
  pub unput : IsUnputFor f.limits ruling refusal

-- so it was with the next frame
pub record StopsUnanswered (before after : Guard) (old : Filter) (piece : List ℕ) (refusal : Refusal) : Type 0 where
  pub front : List ℕ
  pub rest : List ℕ
  pub whole : piece ≡ front ++ rest
  pub went_on : old.relay.fault ≡ None
  pub unanswered : (b : List ℕ) → StandsFor old.relay b → IsUnanswered before after old (b ++ front) refusal

-- why nothing more goes through, where nothing had stopped
abbrev pub FailsFor : FilterFault → Guard → Guard → Filter → Filter → List ℕ → Type 0
FailsFor (faults.Stopped fault) before after old new piece = StopsRelay before after old new piece fault
FailsFor (faults.Unwritten refusal) before after old new piece = StopsUnanswered before after old piece refusal
FailsFor faults.Over before after old new piece = ⊥

-- The connection was open, and is closed, for this fault.
pub record Closes (fault : FilterFault) (before after : Guard) (old new : Filter) (piece : List ℕ) : Type 0 where
  pub is_open : before.closed ≡ false
  pub judged : Guard
  pub fails : FailsFor fault before judged old new piece
  pub closes : after ≡ record judged { closed = true }

-- it was closed, and nothing changes
abbrev pub IsOver : Guard → Guard → Filter → Filter → Type 0
IsOver before after old new = (before.closed ≡ true) × (after ≡ before) × (new ≡ old)

-- why nothing more goes through
abbrev pub Fails : FilterFault → Guard → Guard → Filter → Filter → List ℕ → Type 0
Fails faults.Over before after old new piece = IsOver before after old new
Fails fault before after old new piece = Closes fault before after old new piece

-- this holds of the rest of a piece, where one is given
abbrev pub IfGives : {T E : Type 0} → Result (Option T) E → (T → Type 0) → Type 0
IfGives result Holds = IfOk result (λ next. IfSome next Holds)

-- this holds where none is given
abbrev pub IfGivesNone : {T E : Type 0} → Result (Option T) E → Type 0 → Type 0
IfGivesNone result Holds = IfOk result (λ next. IfNone next Holds)

-- The stream ends inside a frame; or the relay had stopped, and says so again.
abbrev pub EndsBadly : Relay → Relay → RelayFault → Type 0
EndsBadly old new fault = EndsInside old new fault ⊎ ((old.fault ≡ Some fault) × (new ≡ old))
