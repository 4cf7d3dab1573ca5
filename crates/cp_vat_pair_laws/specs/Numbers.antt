-- What becomes of the numbers of exports and imports. (rpc.capnp: `ExportId`, `ImportId`, "CapDescriptor", "Release", "Finish".)
use Rattle.std.specs.Prelude.{◌≡◌, ◌⊎◌, ℕ, ◌+◌, ◌-◌, ◌^◌, ◌<◌, ltb, if◌then◌else◌, true, false, List, [], ◌∷◌, flat_map, Option, Some, None, is_some, option_to_list, Result, Ok, IsTrue}
use Rattle.std.specs.List.{list_any}
use Rattle.std.specs.FinMap.{get, insert, remove, values}
use Rattle.cp_tables.specs.Table.{Table}
use Rattle.cp_tables.specs.Counted.{new_counted, AreCounts}
use Rattle.cp_tables.specs.declared.counted.Counted.{Counted}
use Rattle.cp_messages.specs.declared.message.Message.{Message}
use Rattle.cp_messages.specs.declared.message.Message.TheVariants as messages
use Rattle.cp_refs.specs.declared.cap.Cap.{Cap}
use Rattle.cp_vat_machine.specs.State.{State, Counts}
use Rattle.cp_vat_machine.specs.Then.{Done}
use Rattle.cp_vat_machine.specs.Receiving.{release_exports, released}
use Rattle.cp_vat_machine.specs.Go.{Leave}
use Rattle.cp_vat_machine.specs.InUse.{caps_given, is_import, waiting_calls, other_values, idle_imports}
use Rattle.cp_vat_machine.specs.Calling.{OwnDone}
use Rattle.cp_vat_machine.specs.Step.{Does, Receives}
use Rattle.cp_vat_machine.specs.declared.effect.Effect.{Effect}
use Rattle.cp_vat_machine.specs.declared.entry.ImportKind.{ImportKind}
use Rattle.cp_vat_machine.specs.declared.event.Event.{Event}
use Rattle.cp_vat_machine.specs.declared.fault.PeerFault.{PeerFault}
use Rattle.cp_vat_pair_laws.specs.Accounts.{accounts_of, kept_account, results_in}
use Rattle.cp_vat_pair_laws.specs.Owed.{named_on_way}
use Rattle.cp_vat_pair_laws.specs.VatPair.{VatPair, Side, across, end_of, new_pair, Move, Moves, last_of, AreOpen, AreQuiet}
use Rattle.cp_vat_pair_laws.specs.Lives.{IsUsual}

-- an export of this number is this capability
abbrev pub IsNumberOf : Table (Counted Cap) → ℕ → Cap → Type 0
IsNumberOf exports e cap = (count : ℕ) × (get exports e ≡ Some (record { count = count; kept = cap }))

-- A small change of what a vat counts: an export is named once more, and is the same capability's; a number without an export is a capability's from now
-- on; an import is taken once more, or for the first time; or it is given back with its whole count.
pub data Change (old : Counts) : Counts → Type 0 where
  named_again : (e count : ℕ) (cap : Cap) → get old.exports e ≡ Some (record { count = count; kept = cap }) → count < 2 ^ 32 - 1
      → Change old (record old { exports = insert old.exports e (record { count = count + 1; kept = cap }) })
  named_first : (e : ℕ) (cap : Cap) → get old.exports e ≡ None → Change old (record old { exports = insert old.exports e (new_counted cap) })
  taken_again : (i : ℕ) (entry : Counted ImportKind) → get old.imports i ≡ Some entry → ltb entry.count 4294967295 ≡ true
      → Change old (record old { imports = insert old.imports i (record entry { count = entry.count + 1 }) })
  taken_first : (i : ℕ) (kind : ImportKind) → get old.imports i ≡ None → Change old (record old { imports = insert old.imports i (new_counted kind) })
  given_back : (i : ℕ) → Change old (record old { imports = remove old.imports i })

-- such changes, one after another
pub data Changes (old : Counts) : Counts → Type 0 where
  unchanged : Changes old old
  changed : {mid new : Counts} → Changes old mid → Change mid new → Changes old new

-- They keep each count above 0 and within its 32 bits, and an export stays the same capability's.
pub record ChangesKeep : Type 0 where
  pub counts : {old new : Counts} → Changes old new → AreCounts old.exports × AreCounts old.imports → AreCounts new.exports × AreCounts new.imports
  pub numbers : {old new : Counts} (e : ℕ) (cap : Cap) → Changes old new → IsNumberOf old.exports e cap → IsNumberOf new.exports e cap

-- the exports after what a message lowers: a Release by its count, and a Finish that asks for it by what the answer's results named
abbrev pub lowering : State → Message → Result (Table (Counted Cap)) PeerFault
lowering s (messages.Release r) = released s.counts.exports r.id r.reference_count
lowering s (messages.Finish f) =
    if f.release_result_caps then release_exports s.counts.exports (results_in (kept_account (get s.entries.answers f.question_id))) else Ok s.counts.exports
lowering s other = Ok s.counts.exports

-- What each rule does to what a vat counts: a call of the application and waiting calls that leave change it little by little, and a message of another
-- vat lowers exports first.
pub record RulesChange : Type 0 where
  pub does : (old : State) (event : Event) (done : OwnDone) → Does old event (Ok done) → Changes old.counts done.2.counts
  pub receives : (old : State) (m : Message) (done : Done) → IsUsual m → Receives old m (Ok done)
      → (exports : Table (Counted Cap)) × (lowering old m ≡ Ok exports) × Changes (record old.counts { exports = exports }) done.1.counts
  pub leaves : (old last : State) (all : List Effect) → Leave old all (Ok last) → Changes old.counts last.counts

-- Each count of an export or an import is above 0, and fits its 32 bits.
abbrev pub AreCounted : VatPair → Type 0
AreCounted w = (side : Side) → AreCounts (end_of w side).vat.counts.exports × AreCounts (end_of w side).vat.counts.imports

-- The other vat holds this number, or a descriptor of it that counts is on the way there.
abbrev pub IsHeldThere : VatPair → Side → ℕ → Type 0
IsHeldThere w side e =
    IsTrue (is_some (get (end_of w (across side)).vat.counts.imports e))
    ⊎ (0 < named_on_way (accounts_of (end_of w (across side)).vat).questions (end_of w (across side)).inbox e)

-- It is so before each of these moves.
abbrev pub IsHeldOver : VatPair → Side → ℕ → List Move → Type 0
IsHeldOver w side e [] = Unit {0}
IsHeldOver w side e (move ∷ more) = IsHeldThere w side e × IsHeldOver move.after side e more

-- A number stays its capability's while the other vat holds it or a descriptor of it that counts is on the way: of every list of moves and then some more
-- in which neither vat was closed.
abbrev pub NumbersStay : Type 0
NumbersStay =
    (one other : Option ℕ) (moves more : List Move) → Moves (new_pair one other) moves → Moves (last_of (new_pair one other) moves) more
    → AreOpen (last_of (last_of (new_pair one other) moves) more)
    → (side : Side) (e : ℕ) (cap : Cap) → IsNumberOf (end_of (last_of (new_pair one other) moves) side).vat.counts.exports e cap
    → IsHeldOver (last_of (new_pair one other) moves) side e more
    → IsNumberOf (end_of (last_of (last_of (new_pair one other) moves) more) side).vat.counts.exports e cap

-- A number without an export isn't held by the other vat, nor is a descriptor of it on the way: so it may be given to any capability.
abbrev pub FreeIsFree : VatPair → Type 0
FreeIsFree w = (side : Side) (e : ℕ) → get (end_of w side).vat.counts.exports e ≡ None → IsHeldThere w side e → ⊥

-- Where no message is on the way, a vat has an export exactly where the other one holds the number.
abbrev pub ExportedIsHeld : VatPair → Type 0
ExportedIsHeld w =
    AreQuiet w → (side : Side) (e : ℕ) → is_some (get (end_of w side).vat.counts.exports e) ≡ is_some (get (end_of w (across side)).vat.counts.imports e)

-- a vat holds nothing of the other one's, and exports nothing
abbrev pub HoldsNothing : State → Type 0
HoldsNothing s = (i : ℕ) → get s.counts.imports i ≡ None

abbrev pub ExportsNothing : State → Type 0
ExportsNothing s = (e : ℕ) → get s.counts.exports e ≡ None

-- Where no message is on the way and a vat holds nothing, the other one exports nothing.
abbrev pub NothingIsLeft : VatPair → Type 0
NothingIsLeft w = AreQuiet w → (side : Side) → HoldsNothing (end_of w (across side)).vat → ExportsNothing (end_of w side).vat

-- The application released all that it held: what isn't in use was given back, and no promise's value, no question's results and no waiting call names an
-- import.
pub record HasReleased (s : State) : Type 0 where
  pub released_idle : idle_imports s ≡ []
  pub promises : (i : ℕ) → list_any (is_import i) (flat_map option_to_list (values s.values.promises)) ≡ false
  pub results : (i : ℕ) → list_any (is_import i) (flat_map (λ question. caps_given question.outcome) (values s.values.questions)) ≡ false
  pub calls : (i : ℕ) → list_any (is_import i) (flat_map (λ call. call.request.caps) (waiting_calls s)) ≡ false

-- a kept answer names the import
abbrev pub IsNamedByAnswer : State → ℕ → Type 0
IsNamedByAnswer s i = IsTrue (list_any (is_import i) (flat_map caps_given (values s.values.answers)))

-- another import came to it
abbrev pub IsValueOfAnother : State → ℕ → Type 0
IsValueOfAnother s i = IsTrue (list_any (is_import i) (other_values s i))

-- Where no message is on the way and the application of a vat released all that it held, the other one's exports are those that a kept answer names or that
-- another import came to.
abbrev pub LeftIsNamed : VatPair → Type 0
LeftIsNamed w =
    AreQuiet w → (side : Side) (e : ℕ) → HasReleased (end_of w (across side)).vat → IsTrue (is_some (get (end_of w side).vat.counts.exports e))
    → IsNamedByAnswer (end_of w (across side)).vat e ⊎ IsValueOfAnother (end_of w (across side)).vat e
