-- What the calls of C on a relay do: on an open handle each is the call of the relay, and on a closed one none.
use Rattle.std.specs.Prelude.{◌≡◌, ℕ, zero, suc, Bool, List, [], Option, None, Some, Result, Ok, Err}
use Rattle.cp_words.specs.Limits.{Bounds}
use Rattle.cp_frame.specs.declared.mode.Mode.{Mode}
use Rattle.cp_frame.specs.declared.mode.Mode.TheVariants as modes
use Rattle.cp_relay.specs.declared.output.Output.{Output}
use Rattle.cp_relay.specs.declared.output.Output.TheVariants as outputs
use Rattle.cp_relay.specs.declared.fault.RelayFault.{RelayFault}
use Rattle.cp_relay.specs.declared.fault.RelayCause.{RelayCause}
use Rattle.cp_relay.specs.declared.fault.RelayCause.TheVariants as whys
use Rattle.cp_relay.specs.Relay.{new_relay, Gives, StopsAt, EndsWell}
use Rattle.c_handles.specs.declared.bytes.Bytes.{Bytes}
use Rattle.c_handles.specs.Lent.{LieIn}
use Rattle.c_handles.specs.declared.code.CallFault.{CallFault}
use Rattle.c_handles.specs.declared.code.CallFault.TheVariants as faults
use Rattle.c_handles.specs.declared.code.Spot.{Spot}
use Rattle.c_handles.specs.declared.method.MethodNumbers.{MethodNumbers}
use Rattle.c_handles.specs.declared.relay.RelayState.{RelayState}
use Rattle.c_handles.specs.Code.{code_of, spot_of, nowhere}
use Rattle.c_handles.specs.Rules.{passes, HasEnded}

-- what goes out for a message: its own bytes, or the message anew in the plain form or the packed one
abbrev pub output_of : ℕ → Output
output_of zero = outputs.AsRead
output_of (suc zero) = outputs.Anew modes.Plain
output_of (suc (suc n)) = outputs.Anew modes.Packed

-- a relay to which nothing came, with these rules
pub record IsNewRelay (mode : Mode) (output : Output) (limits : Bounds) (methods : List MethodNumbers) (only : Bool) (state : RelayState) : Type 0 where
  pub relay : state.relay ≡ new_relay mode output limits
  pub methods_are : state.rules.methods.items ≡ methods
  pub only_is : state.rules.only ≡ only
  pub nothing : state.lent.items ≡ []

-- one is there
abbrev pub Opens : Mode → Output → Bounds → List MethodNumbers → Bool → Option RelayState → Type 0
Opens mode output limits methods only None = ⊥
Opens mode output limits methods only (Some state) = IsNewRelay mode output limits methods only state

-- an open handle stays open, and a closed one closed, where the call answers 1
abbrev pub ThroughRelay : Option RelayState → Option RelayState → ℕ → (RelayState → RelayState → Type 0) → Type 0
ThroughRelay None None code does = code ≡ 1
ThroughRelay None (Some new) code does = ⊥
ThroughRelay (Some old) None code does = ⊥
ThroughRelay (Some old) (Some new) code does = does old new

-- why a relay stopped, as a fault of a call
abbrev pub fault_of : RelayCause → CallFault
fault_of (whys.Refused refusal) = faults.Refused refusal
fault_of whys.Forbidden = faults.Forbidden

-- the fault's number, after how many bytes it is, and what is to blame
abbrev pub TellsStop : Result (Unit {0}) RelayFault → ℕ → Spot → ℕ → Type 0
TellsStop (Ok done) at spot code = (at ≡ 0) × (spot ≡ nowhere) × (code ≡ 0)
TellsStop (Err fault) at spot code = (at ≡ fault.at) × (spot ≡ spot_of (fault_of fault.why)) × (code ≡ code_of (fault_of fault.why))

-- a piece was fed, and what goes out of it is lent; or the relay stopped, and what came before goes out
abbrev pub FeedsAs : RelayState → List ℕ → Result (Unit {0}) RelayFault → RelayState → Type 0
FeedsAs old piece (Ok done) new = Gives passes old.relay piece new.relay old.rules new.rules [] new.lent.items
FeedsAs old piece (Err fault) new = StopsAt passes old.relay piece new.relay old.rules new.rules [] new.lent.items fault

abbrev pub Feeds : List ℕ → Bytes → ℕ → Spot → ℕ → RelayState → RelayState → Type 0
Feeds piece bytes at spot code old new =
    LieIn bytes new.lent × (answer : Result (Unit {0}) RelayFault) × FeedsAs old piece answer new × TellsStop answer at spot code

abbrev pub FeedsThrough : Option RelayState → Option RelayState → List ℕ → Bytes → ℕ → Spot → ℕ → Type 0
FeedsThrough None new piece bytes at spot code = ThroughRelay None new code (λ a b. Unit {0}) × (bytes.len ≡ 0) × (at ≡ 0) × (spot ≡ nowhere)
FeedsThrough (Some old) new piece bytes at spot code = ThroughRelay (Some old) new code (Feeds piece bytes at spot code)

-- the stream ended after a message, or the relay stopped
abbrev pub EndsAs : RelayState → Result (Unit {0}) RelayFault → RelayState → Type 0
EndsAs old (Ok done) new = EndsWell old.relay new.relay
EndsAs old (Err fault) new = HasEnded old.relay new.relay fault

abbrev pub Ends : ℕ → Spot → ℕ → RelayState → RelayState → Type 0
Ends at spot code old new = (new.rules ≡ old.rules) × (answer : Result (Unit {0}) RelayFault) × EndsAs old answer new × TellsStop answer at spot code

abbrev pub EndsThrough : Option RelayState → Option RelayState → ℕ → Spot → ℕ → Type 0
EndsThrough None new at spot code = ThroughRelay None new code (λ a b. Unit {0}) × (at ≡ 0) × (spot ≡ nowhere)
EndsThrough (Some old) new at spot code = ThroughRelay (Some old) new code (Ends at spot code)
