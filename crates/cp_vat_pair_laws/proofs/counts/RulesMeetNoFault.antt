-- Rules that meet none of the faults that a vat never meets of another one.
use Rattle.std.specs.Prelude.{◌≡◌, ℕ, ◌+◌, ltb, if◌then◌else◌, Bool, true, false, List, [], ◌∷◌, Option, Some, None, Result, Ok, Err}
use Rattle.std.specs.List.{AllByRecursion}
use Rattle.std.specs.FinMap.{get, insert}
use Rattle.std.proofs.Common.{inl, inr}
use Rattle.cp_tables.specs.Table.{Table}
use Rattle.cp_tables.specs.Counted.{new_counted}
use Rattle.cp_tables.specs.declared.counted.Counted.{Counted}
use Rattle.cp_tables.specs.declared.exchange.Stage.{Stage}
use Rattle.cp_tables.specs.declared.exchange.Stage.TheVariants as stages
use Rattle.cp_messages.specs.declared.descriptor.Descriptor.{Descriptor}
use Rattle.cp_messages.specs.declared.descriptor.Descriptor.TheVariants as descriptors
use Rattle.cp_messages.specs.declared.returned.Returned.{Returned}
use Rattle.cp_messages.specs.declared.resolve.Resolution.{Resolution}
use Rattle.cp_messages.specs.declared.target.Target.{Target}
use Rattle.cp_messages.specs.declared.target.Target.TheVariants as targets
use Rattle.cp_refs.specs.At.{cap_at}
use Rattle.cp_refs.specs.declared.cap.Cap.{Cap}
use Rattle.cp_refs.specs.declared.cap.Cap.TheVariants as caps
use Rattle.cp_refs.specs.declared.call.Origin.{Origin}
use Rattle.cp_refs.specs.declared.call.Origin.TheVariants as origins
use Rattle.cp_refs.specs.declared.outcome.Outcome.{Outcome}
use Rattle.cp_refs.specs.declared.outcome.Outcome.TheVariants as outcomes
use Rattle.cp_refs.specs.declared.route.Gate.TheVariants as gates
use Rattle.cp_refs.specs.declared.route.Route.{Route}
use Rattle.cp_refs.specs.declared.route.Route.TheVariants as routes
use Rattle.cp_vat_machine.specs.State.{State}
use Rattle.cp_vat_machine.specs.Then.{Done, Then, Unless, Each}
use Rattle.cp_vat_machine.specs.Capacity.{has_capacity, Fresh, free, full}
use Rattle.cp_vat_machine.specs.Writing.{Raise, counted, counted_out, opened, has_no_capacity, WritesEnd, WritesDescriptor, WritesDescriptors, promised}
use Rattle.cp_vat_machine.specs.Receiving.{answer_of, path_of, held_once_more, held_import, ReceivesAnswer, taken_export, ReceivesCap, ReceivesCaps}
use Rattle.cp_vat_machine.specs.Give.{ResolvesEnd, Tells, settled, value_for, last_for, Settle, SettleTied, Returns, given, gone, GiveBy, GiveAnswer, GiveOwnBy, GiveOwn, Give}
use Rattle.cp_vat_machine.specs.Go.{PendingCall, GoOut, Go}
use Rattle.cp_vat_machine.specs.Answering.{GoToExport, GoToAnswer, GoToTarget}
use Rattle.cp_vat_machine.specs.declared.entry.AnswerEntry.{AnswerEntry}
use Rattle.cp_vat_machine.specs.declared.entry.ImportKind.{ImportKind}
use Rattle.cp_vat_machine.specs.declared.entry.ImportKind.TheVariants as kinds
use Rattle.cp_vat_machine.specs.declared.entry.Tied.{Tied}
use Rattle.cp_vat_machine.specs.declared.fault.PeerFault.{PeerFault}
use Rattle.cp_vat_machine.specs.declared.fault.PeerFault.TheVariants as faults
use Rattle.cp_vat_pair_laws.specs.Spared.{IsOther}

-- a result that is none of these faults
abbrev pub IsSpared : {A : Type 0} → Result A PeerFault → Type 0
IsSpared (Ok x) = Unit {0}
IsSpared (Err fault) = IsOther fault

module _ {A : Type 0} where
  pub ok_spared : (out : Result A PeerFault) (x : A) → out ≡ Ok x → IsSpared out
  ok_spared out x is = rw (is) tt

  pub err_spared : (out : Result A PeerFault) (fault : PeerFault) → out ≡ Err fault → IsOther fault → IsSpared out
  err_spared out fault is other = rw (is) other

  pub unless_spared : (list : List PeerFault) (Rule : Result A PeerFault → Type 0) (out : Result A PeerFault) → AllByRecursion IsOther list → (Rule out → IsSpared out)
      → Unless list Rule out → IsSpared out
  unless_spared [] Rule out all rule does = rule does
  unless_spared (fault ∷ more) Rule out all rule does = err_spared out fault does all.0

pub then_spared : {A B : Type 0} (First : Result A PeerFault → Type 0) (next : A → Result B PeerFault → Type 0) (out : Result B PeerFault)
    → ((o : Result A PeerFault) → First o → IsSpared o) → ((x : A) → First (Ok x) → next x out → IsSpared out) → Then First next out → IsSpared out
then_spared First next out one more (Ok x, first, rest) = more x first rest
then_spared First next out one more (Err fault, first, rest) = err_spared out fault rest (one (Err fault) first)

each_spared : {A B : Type 0} (Rule : State → A → Result (B × State) PeerFault → Type 0) → ((s : State) (x : A) (o : Result (B × State) PeerFault) → Rule s x o → IsSpared o)
    → (xs : List A) (s : State) (out : Result (List B × State) PeerFault) → Each Rule s xs out → IsSpared out
each_spared Rule one [] s out does = ok_spared out ([], s) does
each_spared {A} {B} Rule one (x ∷ xs) s out does =
    then_spared (Rule s x) _ out (one s x) (λ first is. then_spared (Each Rule first.1 xs) _ out (each_spared Rule one xs first.1) (λ rest also end. ok_spared out _ end)) does

-- what is sent
pub fresh_spared : {X : Type 0} (table : Table X) (out : Result ℕ PeerFault) → Fresh table out → IsSpared out
fresh_spared table out (free n is small room) = tt
fresh_spared table out (full room) = tt

raise_spared : (old : State) (cap : Cap) (out : Result (ℕ × State) PeerFault) → Raise old cap out → IsSpared out
raise_spared old cap out (counted e count is room) = tt
raise_spared old cap out (counted_out e is) = tt
raise_spared old cap out (opened e none fresh) = tt
raise_spared old cap out (has_no_capacity {fault = fault} none is) = fresh_spared old.counts.exports (Err fault) is

said_spared : (old : State) (last : Cap) (out : Result (Descriptor × State) PeerFault) → WritesEnd old last out → IsSpared out
said_spared old caps.None out is = ok_spared out _ is
said_spared old (caps.Object k) out is = then_spared (Raise old (caps.Object k)) _ out (raise_spared old (caps.Object k)) (λ raised first end. ok_spared out _ end) is
said_spared old (caps.Promise p) out is = then_spared (Raise old (caps.Promise p)) _ out (raise_spared old (caps.Promise p)) (λ raised first end. ok_spared out _ end) is
said_spared old (caps.Import i) out is = ok_spared out _ is
said_spared old (caps.Pipelined q path) out is = ok_spared out _ is
said_spared old (caps.Broken x) out is = ok_spared out _ is

table_spared : (old : State) (table : List Cap) (out : Result (List Descriptor × State) PeerFault) → WritesDescriptors old table out → IsSpared out
table_spared old table out is = each_spared WritesDescriptor (λ s cap o says. said_spared s says.0 o says.2) table old out is

-- what is settled
resolves_spared : (old : State) (last : Cap) (out : Result (Resolution × State) PeerFault) → ResolvesEnd old last out → IsSpared out
resolves_spared old (caps.Broken x) out is = ok_spared out _ is
resolves_spared old caps.None out is = then_spared (WritesEnd old caps.None) _ out (said_spared old caps.None) (λ said first end. ok_spared out _ end) is
resolves_spared old (caps.Object k) out is = then_spared (WritesEnd old (caps.Object k)) _ out (said_spared old (caps.Object k)) (λ said first end. ok_spared out _ end) is
resolves_spared old (caps.Promise p) out is = then_spared (WritesEnd old (caps.Promise p)) _ out (said_spared old (caps.Promise p)) (λ said first end. ok_spared out _ end) is
resolves_spared old (caps.Import i) out is = then_spared (WritesEnd old (caps.Import i)) _ out (said_spared old (caps.Import i)) (λ said first end. ok_spared out _ end) is
resolves_spared old (caps.Pipelined q path) out is =
    then_spared (WritesEnd old (caps.Pipelined q path)) _ out (said_spared old (caps.Pipelined q path)) (λ said first end. ok_spared out _ end) is

tells_spared : (old : State) (p : ℕ) (last : Cap) (out : Result Done PeerFault) → Tells old p last out → IsSpared out
tells_spared old p last out (inl h) = ok_spared out _ h.1
tells_spared old p last out (inr h) = then_spared (ResolvesEnd old last) _ out (resolves_spared old last) (λ said first end. ok_spared out _ end) h.2

settle_spared : (old : State) (p : ℕ) (value : Cap) (out : Result Done PeerFault) → Settle old p value out → IsSpared out
settle_spared old p value out does = tells_spared (settled old p (value_for p does.0 value)) p (last_for p does.0) out does.2

tied_spared : (tied : List Tied) (old : State) (outcome : Outcome) (out : Result Done PeerFault) → SettleTied old outcome tied out → IsSpared out
tied_spared [] old outcome out does = ok_spared out _ does
tied_spared (tied ∷ more) old outcome out does =
    then_spared (Settle old tied.promise (cap_at outcome tied.path)) _ out (settle_spared old tied.promise (cap_at outcome tied.path))
    (λ first is. then_spared (SettleTied first.1 outcome more) _ out (tied_spared more first.1 outcome) (λ rest also end. ok_spared out _ end)) does

-- what is given
returns_spared : (old : State) (outcome : Outcome) (out : Result (Returned × State) PeerFault) → Returns old outcome out → IsSpared out
returns_spared old (outcomes.Results content table) out is = then_spared (WritesDescriptors old table) _ out (table_spared old table) (λ said first end. ok_spared out _ end) is
returns_spared old (outcomes.Failed x) out is = ok_spared out _ is
returns_spared old outcomes.Canceled out is = ok_spared out _ is

gives_spared : (old : State) (a : ℕ) (outcome : Outcome) (kept : AnswerEntry) (stage : Stage) (out : Result Done PeerFault) → GiveBy old a outcome kept stage out → IsSpared out
gives_spared old a outcome kept stages.Open out does =
    then_spared (Returns old outcome) _ out (returns_spared old outcome)
    (λ said is. then_spared (SettleTied (given said.1 a kept outcome said.0) outcome kept.tied) _ out (tied_spared kept.tied (given said.1 a kept outcome said.0) outcome) (λ rest also end. ok_spared out _ end))
    does
gives_spared old a outcome kept stages.Finished out does =
    then_spared (SettleTied (gone old a outcome) outcome kept.tied) _ out (tied_spared kept.tied (gone old a outcome) outcome) (λ rest also end. ok_spared out _ end) does
gives_spared old a outcome kept stages.Returned out does = absurd does

pub answer_spared : (old : State) (a : ℕ) (outcome : Outcome) (out : Result Done PeerFault) → GiveAnswer old a outcome out → IsSpared out
answer_spared old a outcome out does = gives_spared old a outcome does.0.kept does.0.stage out does.2

owns_spared : (old : State) (q : ℕ) (outcome : Outcome) (stage : Stage) (out : Result Done PeerFault) → GiveOwnBy old q outcome stage out → IsSpared out
owns_spared old q outcome stages.Open out does = ok_spared out _ does
owns_spared old q outcome stages.Finished out does = ok_spared out _ does
owns_spared old q outcome stages.Returned out does = absurd does

pub own_spared : (old : State) (q : ℕ) (outcome : Outcome) (out : Result Done PeerFault) → GiveOwn old q outcome out → IsSpared out
own_spared old q outcome out does = owns_spared old q outcome does.0.stage out does.2

give_spared : (old : State) (origin : Origin) (outcome : Outcome) (out : Result Done PeerFault) → Give old origin outcome out → IsSpared out
give_spared old (origins.Answer a) outcome out does = answer_spared old a outcome out does
give_spared old (origins.Own q) outcome out does = own_spared old q outcome out does

-- calls that go
out_spared : (old : State) (call : PendingCall) (target : Target) (origin : Origin) (out : Result Done PeerFault) → GoOut old call target origin out → IsSpared out
out_spared old call target (origins.Answer a) out goes =
    then_spared (Fresh old.entries.questions) _ out (fresh_spared old.entries.questions)
    (λ q first. then_spared (WritesDescriptors old call.request.caps) _ out (table_spared old call.request.caps) (λ said also end. ok_spared out _ end)) goes
out_spared old call target (origins.Own q) out goes =
    then_spared (WritesDescriptors old call.request.caps) _ out (table_spared old call.request.caps) (λ said also end. ok_spared out _ end) goes.2

go_spared : (old : State) (call : PendingCall) (route : Route) (out : Result Done PeerFault) → Go old call route out → IsSpared out
go_spared old call (routes.Deliver k) out goes = ok_spared out _ goes
go_spared old call (routes.Import i) out goes = out_spared old call (targets.ImportedCap i) call.origin out goes
go_spared old call (routes.Pipe q path) out goes = out_spared old call (targets.PromisedAnswer (promised q path)) call.origin out goes
go_spared old call (routes.Wait gate) out goes = ok_spared out _ goes
go_spared old call (routes.Fail x) out goes = give_spared old call.origin (outcomes.Failed x) out goes

export_spared : (old : State) (call : PendingCall) (o : Option (Counted Cap)) (out : Result Done PeerFault) → GoToExport old call o out → IsSpared out
export_spared old call None out goes = absurd goes
export_spared old call (Some entry) out goes = go_spared old call goes.0 out goes.2

asked_spared : (old : State) (call : PendingCall) (a : ℕ) (path : List ℕ) (o : Option (Option Outcome)) (out : Result Done PeerFault) → GoToAnswer old call a path o out → IsSpared out
asked_spared old call a path None out goes = absurd goes
asked_spared old call a path (Some None) out goes = go_spared old call (routes.Wait (gates.Answer a path)) out goes
asked_spared old call a path (Some (Some outcome)) out goes = go_spared old call goes.0 out goes.2

pub target_spared : (old : State) (call : PendingCall) (target : Target) (out : Result Done PeerFault) → GoToTarget old call target out → IsSpared out
target_spared old call (targets.ImportedCap e) out goes = export_spared old call (get old.counts.exports e) out goes
target_spared old call (targets.PromisedAnswer answer) out goes =
    asked_spared old call answer.question_id (path_of answer.transform) (answer_of old answer.question_id) out goes
target_spared old call (targets.Unknown n) out goes = absurd goes

-- what is taken in
held_spared : (old : State) (i : ℕ) (kind : ImportKind) (o : Option (Counted ImportKind)) → IsSpared (held_once_more old i kind o)
held_spared old i kind (Some entry) = by (ltb entry.count 4294967295)
  where
    by : (b : Bool)
        → IsSpared
        (if b then Ok (record old { counts = record old.counts { imports = insert old.counts.imports i (record entry { count = entry.count + 1 }) } })
        else Err faults.TableFull)
    by true = tt
    by false = tt
held_spared old i kind None = by (has_capacity old.counts.imports)
  where
    by : (b : Bool)
        → IsSpared
        (if b then Ok (
        record old {
          counts = record old.counts { imports = insert old.counts.imports i (new_counted kind) };
          values = record old.values { imports = insert old.values.imports i None };
        }
        ) else Err faults.TableFull)
    by true = tt
    by false = tt

pub is_spared : {A : Type 0} (out other : Result A PeerFault) → out ≡ other → IsSpared other → IsSpared out
is_spared out other is spared = rw (is) spared

answered_spared : (old : State) (a : ℕ) (path : List ℕ) (o : Option (Option Outcome)) (out : Result (Cap × State) PeerFault) → ReceivesAnswer old a path o out → IsSpared out
answered_spared old a path None out is = err_spared out faults.UnknownAnswer is tt
answered_spared old a path (Some (Some outcome)) out is = ok_spared out _ is
answered_spared old a path (Some None) out is = then_spared (Fresh old.values.promises) _ out (fresh_spared old.values.promises) (λ p first end. ok_spared out _ end) is

exported_spared : (old : State) (o : Option (Counted Cap)) → IsSpared (taken_export old o)
exported_spared old None = tt
exported_spared old (Some entry) = tt

pub take_spared : (old : State) (d : Descriptor) (out : Result (Cap × State) PeerFault) → ReceivesCap old d out → IsSpared out
take_spared old descriptors.None out is = ok_spared out _ is
take_spared old (descriptors.SenderHosted i) out is =
    then_spared (λ held. held ≡ held_import old i kinds.Hosted) _ out (λ o same. is_spared o _ same (held_spared old i kinds.Hosted (get old.counts.imports i))) (λ new first end. ok_spared out _ end) is
take_spared old (descriptors.SenderPromise i) out is =
    then_spared (λ held. held ≡ held_import old i kinds.Promise) _ out (λ o same. is_spared o _ same (held_spared old i kinds.Promise (get old.counts.imports i))) (λ new first end. ok_spared out _ end) is
take_spared old (descriptors.ReceiverHosted e) out is = is_spared out _ is (exported_spared old (get old.counts.exports e))
take_spared old (descriptors.ReceiverAnswer answer) out is = answered_spared old answer.question_id (path_of answer.transform) (answer_of old answer.question_id) out is
take_spared old (descriptors.ThirdPartyHosted t) out is = absurd is
take_spared old (descriptors.Unknown n) out is = absurd is

pub take_all_spared : (old : State) (table : List Descriptor) (out : Result (List Cap × State) PeerFault) → ReceivesCaps old table out → IsSpared out
take_all_spared old table out is = each_spared ReceivesCap take_spared table old out is
