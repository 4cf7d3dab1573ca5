-- What goes through a guarded connection over its whole life, in whatever pieces the streams of its ends come.
use Rattle.std.specs.Prelude.{◌≡◌, ◌⊎◌, ℕ, true, false, List, [], ◌∷◌, ◌++◌}
use Rattle.std.specs.Global.{Vec}
use Rattle.cp_words.specs.Limits.{Bounds}
use Rattle.cp_frame.specs.declared.mode.Mode.{Mode}
use Rattle.cp_messages.specs.declared.message.Message.{Message}
use Rattle.cp_stream.specs.Stream.{IsFrameOf}
use Rattle.cp_relay.specs.declared.output.Output.{Output}
use Rattle.cp_relay.specs.declared.rules.Rules.{Rules}
use Rattle.cp_relay.specs.declared.state.GuardState.{GuardState}
use Rattle.cp_relay.specs.declared.ruling.Ruling.{Ruling}
use Rattle.cp_relay.specs.declared.guard.Guard.{Guard}
use Rattle.cp_relay.specs.declared.filter.Filter.{Filter}
use Rattle.cp_relay.specs.declared.filter.FilterFault.{FilterFault}
use Rattle.cp_relay.specs.Relay.{StandsFor, IsSentFor}
use Rattle.cp_relay.specs.Judged.{judged, judged_back}
use Rattle.cp_relay.specs.Guard.{IsSecondLater}
use Rattle.cp_relay.specs.Filter.{Follows, GuardsNext, GuardsNone, Fails}

-- A guarded connection: the filter `there` takes the caller's stream, and `back` that of the callee.
pub record Connection : Type 0 where
  pub guard : Guard
  pub there : Filter
  pub back : Filter

-- what a call of a filter read of its stream, what it let go on, and what it put back as answers
pub record Read : Type 0 where
  pub bytes : List ℕ
  pub on : List ℕ
  pub answers : List ℕ

-- A call: a filter took a piece, or a second passed.
pub data Call : Type 0 where
  of_caller : Read → Call
  of_callee : Read → Call
  of_clock : Call

-- The filter read its piece up to a frame's end.
pub record TakesNext (before after : Guard) (old new : Filter) (r : Read) : Type 0 where
  pub rest : List ℕ
  pub out : Vec ℕ
  pub now : Vec ℕ
  pub answers : Vec ℕ
  pub later : Vec ℕ
  pub guards : GuardsNext before after old new (r.bytes ++ rest) rest out now answers later
  pub on : now.items ≡ out.items ++ r.on
  pub back : later.items ≡ answers.items ++ r.answers

-- The filter read its piece to the end, in which no frame ends.
pub record TakesAll (before after : Guard) (old new : Filter) (r : Read) : Type 0 where
  pub out : Vec ℕ
  pub now : Vec ℕ
  pub answers : Vec ℕ
  pub later : Vec ℕ
  pub guards : GuardsNone before after old new r.bytes out now answers later
  pub on : now.items ≡ out.items ++ r.on
  pub back : later.items ≡ answers.items ++ r.answers

-- The filter failed, and put nothing out.
pub record TakesNone (before after : Guard) (old new : Filter) (r : Read) : Type 0 where
  pub fault : FilterFault
  pub fails : Fails fault before after old new r.bytes
  pub closed : after.closed ≡ true
  pub on : r.on ≡ []
  pub back : r.answers ≡ []

-- what a call of a filter does, by its contract
abbrev pub Takes : Guard → Guard → Filter → Filter → Read → Type 0
Takes before after old new r = TakesNext before after old new r ⊎ (TakesAll before after old new r ⊎ TakesNone before after old new r)

-- what a call does with the connection
abbrev pub Does : Connection → Call → Connection → Type 0
Does old (of_caller r) new = Takes old.guard new.guard old.there new.there r × (new.back ≡ old.back)
Does old (of_callee r) new = Takes old.guard new.guard old.back new.back r × (new.there ≡ old.there)
Does old of_clock new = IsSecondLater old.guard new.guard × (new.there ≡ old.there) × (new.back ≡ old.back)

-- these calls were made, one after another
abbrev pub Runs : Connection → List Call → Connection → Type 0
Runs old [] new = new ≡ old
Runs old (call ∷ calls) new = (mid : Connection) × Does old call mid × Runs mid calls new

-- the bytes that were read of the caller's stream, and of the callee's
abbrev pub caller_sent : List Call → List ℕ
caller_sent [] = []
caller_sent (of_caller r ∷ calls) = r.bytes ++ caller_sent calls
caller_sent (of_callee r ∷ calls) = caller_sent calls
caller_sent (of_clock ∷ calls) = caller_sent calls

abbrev pub callee_sent : List Call → List ℕ
callee_sent [] = []
callee_sent (of_caller r ∷ calls) = callee_sent calls
callee_sent (of_callee r ∷ calls) = r.bytes ++ callee_sent calls
callee_sent (of_clock ∷ calls) = callee_sent calls

-- the bytes that went to the callee, and to the caller
abbrev pub to_callee : List Call → List ℕ
to_callee [] = []
to_callee (of_caller r ∷ calls) = r.on ++ to_callee calls
to_callee (of_callee r ∷ calls) = r.answers ++ to_callee calls
to_callee (of_clock ∷ calls) = to_callee calls

abbrev pub to_caller : List Call → List ℕ
to_caller [] = []
to_caller (of_caller r ∷ calls) = r.answers ++ to_caller calls
to_caller (of_callee r ∷ calls) = r.on ++ to_caller calls
to_caller (of_clock ∷ calls) = to_caller calls

-- What a guard hears: the frame of a message of either end, or that a second has passed.
pub data Heard : Type 0 where
  from_caller : List ℕ → Message → Heard
  from_callee : List ℕ → Message → Heard
  second : Heard

-- How a filter reads frames, and how it writes them.
pub record Form : Type 0 where
  pub mode : Mode
  pub read_within : Bounds
  pub output : Output
  pub on : Mode
  pub back : Mode
  pub limits : Bounds

abbrev pub form_of : Filter → Form
form_of f = record { mode = f.relay.frames.mode; read_within = f.relay.frames.limits; output = f.relay.output; on = f.on; back = f.back; limits = f.limits }

-- each is the frame of its message
abbrev pub AreFrames : Form → Form → List Heard → Type 0
AreFrames there back [] = Unit {0}
AreFrames there back (from_caller frame m ∷ heard) = IsFrameOf there.mode there.read_within frame m × AreFrames there back heard
AreFrames there back (from_callee frame m ∷ heard) = IsFrameOf back.mode back.read_within frame m × AreFrames there back heard
AreFrames there back (second ∷ heard) = AreFrames there back heard

-- the frames of one end, one after another
abbrev pub caller_frames : List Heard → List ℕ
caller_frames [] = []
caller_frames (from_caller frame m ∷ heard) = frame ++ caller_frames heard
caller_frames (from_callee frame m ∷ heard) = caller_frames heard
caller_frames (second ∷ heard) = caller_frames heard

abbrev pub callee_frames : List Heard → List ℕ
callee_frames [] = []
callee_frames (from_caller frame m ∷ heard) = callee_frames heard
callee_frames (from_callee frame m ∷ heard) = frame ++ callee_frames heard
callee_frames (second ∷ heard) = callee_frames heard

-- what the guard knows after one of these
abbrev pub knows : Rules → GuardState → Heard → GuardState
knows rules s (from_caller frame m) = (judged rules s m).state
knows rules s (from_callee frame m) = (judged_back rules s m).state
knows rules s second = record s { opened = 0 }

-- what is put out for a message by its ruling: these bytes go on, and these go back
abbrev pub PutsFor : Form → Ruling → List ℕ → Message → List ℕ → List ℕ → Type 0
PutsFor f ruling frame m on answers = (sent : List ℕ) × IsSentFor f.output f.read_within frame m sent × Follows f.on f.back f.limits ruling sent [] on [] answers

-- the first list goes to the callee, and the second to the caller
abbrev pub Puts : Form → Form → Rules → GuardState → Heard → List ℕ → List ℕ → Type 0
Puts there back rules s (from_caller frame m) callee caller = PutsFor there (judged rules s m).ruling frame m callee caller
Puts there back rules s (from_callee frame m) callee caller = PutsFor back (judged_back rules s m).ruling frame m caller callee
Puts there back rules s second callee caller = (callee ≡ []) × (caller ≡ [])

-- What is put out is that of each, one after another, as the guard judges it by what it knows then; and it knows this in the end.
abbrev pub PutsAll : Form → Form → Rules → GuardState → List Heard → List ℕ → List ℕ → GuardState → Type 0
PutsAll there back rules s [] callee caller end = (callee ≡ []) × (caller ≡ []) × (end ≡ s)
PutsAll there back rules s (one ∷ heard) callee caller end =
    (a : List ℕ) × (b : List ℕ) × (c : List ℕ) × (d : List ℕ) × (callee ≡ a ++ b) × (caller ≡ c ++ d)
    × Puts there back rules s one a c × PutsAll there back rules (knows rules s one) heard b d end

-- Of both streams, which begin with what had come of open frames, the first frames were heard, in some order of the two ends. What went out is what was judged of
-- these, and nothing else. While the connection is open, no whole frame is left.
pub record IsJudged (old : Connection) (calls : List Call) (new : Connection) (caller_open callee_open : List ℕ) : Type 0 where
  pub heard : List Heard
  pub caller_left : List ℕ
  pub callee_left : List ℕ
  pub knows : GuardState
  pub are_frames : AreFrames (form_of old.there) (form_of old.back) heard
  pub of_caller : caller_open ++ caller_sent calls ≡ caller_frames heard ++ caller_left
  pub of_callee : callee_open ++ callee_sent calls ≡ callee_frames heard ++ callee_left
  pub puts : PutsAll (form_of old.there) (form_of old.back) old.guard.rules.now old.guard.state heard (to_callee calls) (to_caller calls) knows
  pub goes_on : new.guard.closed ≡ false → StandsFor new.there.relay caller_left × StandsFor new.back.relay callee_left × (new.guard.state ≡ knows)

-- The connection is open, and this had come of each end's open frame.
pub record IsOpen (c : Connection) (caller_open callee_open : List ℕ) : Type 0 where
  pub is_open : c.guard.closed ≡ false
  pub sides : (c.there.comes_back ≡ false) × (c.back.comes_back ≡ true)
  pub there : StandsFor c.there.relay caller_open
  pub back : StandsFor c.back.relay callee_open

-- whatever calls are made on an open connection, what goes out is what was judged
abbrev pub OnlyJudgedGoes : Type 0
OnlyJudgedGoes = (old new : Connection) (calls : List Call) (caller_open callee_open : List ℕ) → IsOpen old caller_open callee_open → Runs old calls new → IsJudged old calls new caller_open callee_open

-- and once it is closed, it stays so, and nothing goes out
abbrev pub NothingAfter : Type 0
NothingAfter = (old new : Connection) (calls : List Call) → old.guard.closed ≡ true → Runs old calls new → (to_callee calls ≡ []) × (to_caller calls ≡ []) × (new.guard.closed ≡ true)
