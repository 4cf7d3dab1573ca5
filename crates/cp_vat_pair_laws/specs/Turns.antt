-- How calls wait on after a promise that is settled, and after one turn of waiting calls. (rpc.capnp: "Call", "Disembargo".)
use Rattle.std.specs.Prelude.{◌≡◌, ℕ, false, List, [], ◌∷◌, Option, Some, None, IfSome, Ok}
use Rattle.std.specs.FinMap.{get}
use Rattle.cp_tables.specs.Table.{Table}
use Rattle.cp_tables.specs.declared.exchange.Exchange.{Exchange}
use Rattle.cp_tables.specs.declared.exchange.Stage.{Stage}
use Rattle.cp_tables.specs.declared.exchange.Stage.TheVariants as stages
use Rattle.cp_refs.specs.At.{cap_at}
use Rattle.cp_refs.specs.Route.{Routes}
use Rattle.cp_refs.specs.Values.{ValueMaps}
use Rattle.cp_refs.specs.declared.cap.Cap.{Cap}
use Rattle.cp_refs.specs.declared.call.WaitingCall.{WaitingCall}
use Rattle.cp_refs.specs.declared.call.Origin.{Origin}
use Rattle.cp_refs.specs.declared.call.Origin.TheVariants as origins
use Rattle.cp_refs.specs.declared.outcome.Outcome.{Outcome}
use Rattle.cp_refs.specs.declared.route.Gate.{Gate}
use Rattle.cp_refs.specs.declared.route.Route.{Route}
use Rattle.cp_refs.specs.declared.route.Route.TheVariants as routes
use Rattle.cp_refs.specs.declared.values.QuestionState.{QuestionState}
use Rattle.cp_vat_machine.specs.State.{State, gave}
use Rattle.cp_vat_machine.specs.Then.{Done}
use Rattle.cp_vat_machine.specs.Give.{Settle}
use Rattle.cp_vat_machine.specs.Go.{IsNext, Go, without_call, underway}
use Rattle.cp_vat_machine.specs.Waits.{Port, on, WaitRightly}
use Rattle.cp_vat_machine.specs.Local.{tied_to, IsTiedRightly}
use Rattle.cp_vat_machine.specs.InUse.{is_pipelined_of, is_at_question}
use Rattle.cp_vat_machine.specs.declared.effect.Effect.{Effect}
use Rattle.cp_vat_machine.specs.declared.entry.AnswerEntry.{AnswerEntry}
use Rattle.cp_vat_machine.specs.declared.entry.Tied.{Tied}

-- No capability leads to a gate that is over.
abbrev pub NoneLeadsToOver : State → Type 0
NoneLeadsToOver s = (cap : Cap) (gate : Gate) → Routes s.values cap (routes.Wait gate) → gave s.waiting.over gate ≡ None

-- After an open promise that is settled, calls wait on rightly, and no capability leads to a gate that is over.
pub record SettlingKeeps : Type 0 where
  pub rightly : (old : State) (ports : Table Port) (p : ℕ) (value : Cap) (done : Done) → WaitRightly old ports → NoneLeadsToOver old
      → get old.values.promises p ≡ Some None → Settle old p value (Ok done) → WaitRightly done.1 ports
  pub over : (old : State) (p : ℕ) (value : Cap) (done : Done) → NoneLeadsToOver old → get old.values.promises p ≡ Some None
      → Settle old p value (Ok done) → NoneLeadsToOver done.1

-- The promises tied to an answer are open, and none is tied to it twice.
abbrev pub AreOpen : ValueMaps → List Tied → Type 0
AreOpen values [] = Unit {0}
AreOpen values (tied ∷ more) = (get values.promises tied.promise ≡ Some None) × (tied_to tied.promise more ≡ 0) × AreOpen values more

-- That is so of every answer where open promises are the application's, or tied to exactly one answer.
abbrev pub TiedAreOpen : Type 0
TiedAreOpen =
    (s : State) (a : ℕ) (entry : Exchange AnswerEntry) → ((p : ℕ) → IsTiedRightly s p) → get s.entries.answers a ≡ Some entry → AreOpen s.values entry.kept.tied

-- A finished question isn't waited for: no value and no gate that is over gives a path of it, and no call waits at one, nor came at one.
abbrev pub IsNoPortOf : ℕ → Option Port → Type 0
IsNoPortOf q (Some (on cap)) = is_pipelined_of q cap ≡ false
IsNoPortOf q other = Unit {0}

pub record NobodyWaitsFor (s : State) (ports : Table Port) (q : ℕ) : Type 0 where
  pub values : (p : ℕ) (value : Cap) → get s.values.promises p ≡ Some (Some value) → is_pipelined_of q value ≡ false
  pub results : (r : ℕ) (question : QuestionState) (outcome : Outcome) (path : List ℕ) → get s.values.questions r ≡ Some question → question.outcome ≡ Some outcome
      → is_pipelined_of q (cap_at outcome path) ≡ false
  pub gifts : (gate : Gate) (cap : Cap) → gave s.waiting.over gate ≡ Some cap → is_pipelined_of q cap ≡ false
  pub calls : (ticket : ℕ) → IfSome (get s.waiting.calls ticket) (λ call. (is_at_question q call.gate ≡ false) × IsNoPortOf q (get ports ticket))

-- a question without an outcome, or one that was finished and that nobody waits for
abbrev pub IsOpenQuestion : State → Table Port → ℕ → Stage → Type 0
IsOpenQuestion s ports q stages.Finished = NobodyWaitsFor s ports q
IsOpenQuestion s ports q other = (question : QuestionState) × (get s.values.questions q ≡ Some question) × (question.outcome ≡ None)

-- Nothing was given yet to whom a call's outcome is for, and the promises tied to its answer are open.
abbrev pub IsUngiven : State → Table Port → Origin → Type 0
IsUngiven s ports (origins.Answer a) =
    (get s.waiting.over.answers a ≡ None) × IfSome (get s.entries.answers a) (λ entry. AreOpen s.values entry.kept.tied)
IsUngiven s ports (origins.Own q) =
    (get s.waiting.over.questions q ≡ None) × IfSome (get s.entries.questions q) (λ entry. IsOpenQuestion s ports q entry.stage)

-- a call that fails has no outcome yet
abbrev pub MayGo : State → Table Port → Origin → Route → Type 0
MayGo s ports origin (routes.Fail x) = IsUngiven s ports origin
MayGo s ports origin other = Unit {0}

-- After any turn that meets no full table, calls wait on rightly, and no capability leads to a gate that is over.
pub record TurnKeeps : Type 0 where
  pub rightly : (old mid : State) (ports : Table Port) (call : WaitingCall) (cap : Cap) (route : Route) (first : List Effect) → WaitRightly old ports → NoneLeadsToOver old
      → IsNext old call cap → Routes old.values cap route → MayGo old ports call.origin route
      → Go (without_call old call) (underway call) route (Ok (first, mid)) → WaitRightly mid ports
  pub over : (old mid : State) (ports : Table Port) (call : WaitingCall) (cap : Cap) (route : Route) (first : List Effect) → NoneLeadsToOver old
      → MayGo old ports call.origin route → Go (without_call old call) (underway call) route (Ok (first, mid)) → NoneLeadsToOver mid
