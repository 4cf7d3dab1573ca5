-- What calls that go, outcomes that are given and promises that are settled change of what a vat counts.
use Rattle.std.specs.Prelude.{◌≡◌, ℕ, cond, Bool, true, false, List, [], ◌∷◌, Option, Some, None, Result, Ok, Err}
use Rattle.std.specs.FinMap.{insert}
use Rattle.std.proofs.Common.{inl, inr}
use Rattle.cp_tables.specs.declared.exchange.Stage.{Stage}
use Rattle.cp_tables.specs.declared.exchange.Stage.TheVariants as stages
use Rattle.cp_messages.specs.declared.descriptor.Descriptor.{Descriptor}
use Rattle.cp_messages.specs.declared.returned.Returned.{Returned}
use Rattle.cp_messages.specs.declared.resolve.Resolution.{Resolution}
use Rattle.cp_messages.specs.declared.resolve.Resolution.TheVariants as resolutions
use Rattle.cp_messages.specs.declared.target.Target.{Target}
use Rattle.cp_messages.specs.declared.target.Target.TheVariants as targets
use Rattle.cp_refs.specs.At.{cap_at}
use Rattle.cp_refs.specs.declared.cap.Cap.{Cap}
use Rattle.cp_refs.specs.declared.cap.Cap.TheVariants as caps
use Rattle.cp_refs.specs.declared.call.Origin.{Origin}
use Rattle.cp_refs.specs.declared.call.Origin.TheVariants as origins
use Rattle.cp_refs.specs.declared.call.Request.{Request}
use Rattle.cp_refs.specs.declared.outcome.Outcome.{Outcome}
use Rattle.cp_refs.specs.declared.outcome.Outcome.TheVariants as outcomes
use Rattle.cp_refs.specs.declared.route.Gate.TheVariants as gates
use Rattle.cp_refs.specs.declared.route.Route.{Route}
use Rattle.cp_refs.specs.declared.route.Route.TheVariants as routes
use Rattle.cp_refs.specs.declared.values.QuestionKind.TheVariants as kinds
use Rattle.cp_vat_machine.specs.State.{State, Counts}
use Rattle.cp_vat_machine.specs.Then.{Done, Then}
use Rattle.cp_vat_machine.specs.Capacity.{Fresh, free}
use Rattle.cp_vat_machine.specs.Writing.{Raise, counted, counted_out, opened, has_no_capacity, WritesEnd, WritesDescriptor, WritesDescriptors}
use Rattle.cp_vat_machine.specs.Give.{ResolvesEnd, Tells, settled, value_for, last_for, Settle, SettleTied, Returns, given, gone, GiveBy, GiveAnswer, GiveOwnBy, Give}
use Rattle.cp_vat_machine.specs.Go.{PendingCall, underway, delivered, GoOut, Go, GoTo, Leave, stays, leaves, finds_table_full, without_call}
use Rattle.cp_vat_machine.specs.Calling.{Standing, plain, on_wire, came_to, reference_of, called, own_call, mark_of, with_mark, has_mark_capacity, marked, FirstEmbargoed, GoBack, GoByValue, GoFrom, OwnDone, call_refusals, DoCall}
use Rattle.cp_vat_machine.specs.declared.effect.Effect.{Effect}
use Rattle.cp_vat_machine.specs.declared.entry.Tied.{Tied}
use Rattle.cp_vat_machine.specs.declared.fault.PeerFault.{PeerFault}
use Rattle.cp_vat_machine.specs.declared.fault.PeerFault.TheVariants as faults
use Rattle.cp_vat_machine.specs.declared.fault.VatFault.{VatFault}
use Rattle.cp_vat_machine.proofs.Basics.{ok_in, ok_out, then_out, unless_out, or_full_out}
use Rattle.cp_vat_pair_laws.specs.Numbers.{named_again, named_first, Changes, changed}

module _ (start : Counts) where
  -- this was changed to what a state counts
  abbrev pub To : State → Type 0
  To s = Changes start s.counts

  abbrev RaisedTo : Result (ℕ × State) PeerFault → Type 0
  RaisedTo (Ok raised) = To raised.1
  RaisedTo (Err fault) = Unit {0}

  raise_to : (old : State) (cap : Cap) (out : Result (ℕ × State) PeerFault) → To old → Raise old cap out → RaisedTo out
  raise_to old cap out to (counted e count is room) = changed to (named_again e count cap is room)
  raise_to old cap out to (counted_out e is) = tt
  raise_to old cap out to (opened e none (free n is small room)) = changed to (named_first e cap is)
  raise_to old cap out to (has_no_capacity none is) = tt

  end_to : (old : State) (last : Cap) (said : Descriptor × State) → To old → WritesEnd old last (Ok said) → To said.1
  end_to old caps.None said to is = rw (ok_in _ _ is) to
  end_to old (caps.Object k) said to is =
      let parts = then_out {A = ℕ × State} {B = Descriptor × State} (Raise old (caps.Object k)) _ said is in
      rw (ok_in _ _ parts.2) (raise_to old (caps.Object k) (Ok parts.0) to parts.1)
  end_to old (caps.Promise p) said to is =
      let parts = then_out {A = ℕ × State} {B = Descriptor × State} (Raise old (caps.Promise p)) _ said is in
      rw (ok_in _ _ parts.2) (raise_to old (caps.Promise p) (Ok parts.0) to parts.1)
  end_to old (caps.Import i) said to is = rw (ok_in _ _ is) to
  end_to old (caps.Pipelined q path) said to is = rw (ok_in _ _ is) to
  end_to old (caps.Broken x) said to is = rw (ok_in _ _ is) to

  table_to : (table : List Cap) (old : State) (said : List Descriptor × State) → To old → WritesDescriptors old table (Ok said) → To said.1
  table_to [] old said to is = rw (ok_in _ _ is) to
  table_to (cap ∷ table) old said to is =
      let first = then_out {A = Descriptor × State} {B = List Descriptor × State} (WritesDescriptor old cap) _ said is in
      let rest = then_out {A = List Descriptor × State} {B = List Descriptor × State} (WritesDescriptors first.0.1 table) _ said first.2 in
      rw (ok_in _ _ rest.2) (table_to table first.0.1 rest.0 (end_to old first.1.0 first.0 to first.1.2) rest.1)

  -- promises that are settled
  resolves_to : (old : State) (last : Cap) (said : Resolution × State) → To old
      → Then (WritesEnd old last) (λ said out. out ≡ Ok (resolutions.Cap said.0, said.1)) (Ok said) → To said.1
  resolves_to old last said to is =
      let parts = then_out {A = Descriptor × State} {B = Resolution × State} (WritesEnd old last) _ said is in
      rw (ok_in _ _ parts.2) (end_to old last parts.0 to parts.1)

  resolution_to : (old : State) (last : Cap) (said : Resolution × State) → To old → ResolvesEnd old last (Ok said) → To said.1
  resolution_to old (caps.Broken x) said to is = rw (ok_in _ _ is) to
  resolution_to old caps.None said to is = resolves_to old caps.None said to is
  resolution_to old (caps.Object k) said to is = resolves_to old (caps.Object k) said to is
  resolution_to old (caps.Promise p) said to is = resolves_to old (caps.Promise p) said to is
  resolution_to old (caps.Import i) said to is = resolves_to old (caps.Import i) said to is
  resolution_to old (caps.Pipelined q path) said to is = resolves_to old (caps.Pipelined q path) said to is

  tells_to : (old : State) (p : ℕ) (last : Cap) (done : Done) → To old → Tells old p last (Ok done) → To done.1
  tells_to old p last done to (inl h) = rw (ok_in _ _ h.1) to
  tells_to old p last done to (inr h) =
      let parts = then_out {A = Resolution × State} {B = Done} (ResolvesEnd old last) _ done h.2 in
      rw (ok_in _ _ parts.2) (resolution_to old last parts.0 to parts.1)

  pub settle_to : (old : State) (p : ℕ) (value : Cap) (done : Done) → To old → Settle old p value (Ok done) → To done.1
  settle_to old p value done to does = tells_to (settled old p (value_for p does.0 value)) p (last_for p does.0) done to does.2

  tied_to : (tied : List Tied) (old : State) (outcome : Outcome) (done : Done) → To old → SettleTied old outcome tied (Ok done) → To done.1
  tied_to [] old outcome done to does = rw (ok_in _ _ does) to
  tied_to (tied ∷ more) old outcome done to does =
      let first = then_out {A = Done} {B = Done} (Settle old tied.promise (cap_at outcome tied.path)) _ done does in
      let rest = then_out {A = Done} {B = Done} (SettleTied first.0.1 outcome more) _ done first.2 in
      rw (ok_in _ _ rest.2) (tied_to more first.0.1 outcome rest.0 (settle_to old tied.promise (cap_at outcome tied.path) first.0 to first.1) rest.1)

  -- outcomes that are given
  returns_to : (old : State) (outcome : Outcome) (said : Returned × State) → To old → Returns old outcome (Ok said) → To said.1
  returns_to old (outcomes.Results content table) said to does =
      let parts = then_out {A = List Descriptor × State} {B = Returned × State} (WritesDescriptors old table) _ said does in
      rw (ok_in _ _ parts.2) (table_to table old parts.0 to parts.1)
  returns_to old (outcomes.Failed x) said to does = rw (ok_in _ _ does) to
  returns_to old outcomes.Canceled said to does = rw (ok_in _ _ does) to

  answer_by : (old : State) (a : ℕ) (outcome : Outcome) (done : Done) (does : GiveAnswer old a outcome (Ok done)) → To old → (stage : Stage)
      → GiveBy old a outcome does.0.kept stage (Ok done) → To done.1
  answer_by old a outcome done does to stages.Open gives =
      let kept = does.0.kept in
      let says = then_out {A = Returned × State} {B = Done} (Returns old outcome) _ done gives in
      let rest = then_out {A = Done} {B = Done} (SettleTied (given says.0.1 a kept outcome says.0.0) outcome kept.tied) _ done says.2 in
      rw (ok_in _ _ rest.2) (tied_to kept.tied (given says.0.1 a kept outcome says.0.0) outcome rest.0 (returns_to old outcome says.0 to says.1) rest.1)
  answer_by old a outcome done does to stages.Finished gives =
      let kept = does.0.kept in
      let rest = then_out {A = Done} {B = Done} (SettleTied (gone old a outcome) outcome kept.tied) _ done gives in
      rw (ok_in _ _ rest.2) (tied_to kept.tied (gone old a outcome) outcome rest.0 to rest.1)
  answer_by old a outcome done does to stages.Returned gives = absurd gives

  pub answer_to : (old : State) (a : ℕ) (outcome : Outcome) (done : Done) → To old → GiveAnswer old a outcome (Ok done) → To done.1
  answer_to old a outcome done to does = answer_by old a outcome done does to does.0.stage does.2

  pub own_to : (old : State) (q : ℕ) (outcome : Outcome) (stage : Stage) (done : Done) → To old → GiveOwnBy old q outcome stage (Ok done) → To done.1
  own_to old q outcome stages.Open done to does = rw (ok_in _ _ does) to
  own_to old q outcome stages.Finished done to does = rw (ok_in _ _ does) to
  own_to old q outcome stages.Returned done to does = absurd does

  pub give_to : (old : State) (origin : Origin) (outcome : Outcome) (done : Done) → To old → Give old origin outcome (Ok done) → To done.1
  give_to old (origins.Answer a) outcome done to does = answer_to old a outcome done to does
  give_to old (origins.Own q) outcome done to does = own_to old q outcome does.0.stage done to does.2

  -- calls that go
  delivered_to : (old : State) (origin : Origin) → To old → To (delivered old origin)
  delivered_to old (origins.Answer a) to = to
  delivered_to old (origins.Own q) to = to

  out_to : (old : State) (call : PendingCall) (target : Target) (origin : Origin) (done : Done) → To old → GoOut old call target origin (Ok done) → To done.1
  out_to old call target (origins.Answer a) done to goes =
      let first = then_out {A = ℕ} {B = Done} (Fresh old.entries.questions) _ done goes in
      let parts = then_out {A = List Descriptor × State} {B = Done} (WritesDescriptors old call.request.caps) _ done first.2 in
      rw (ok_in _ _ parts.2) (table_to call.request.caps old parts.0 to parts.1)
  out_to old call target (origins.Own q) done to goes =
      let parts = then_out {A = List Descriptor × State} {B = Done} (WritesDescriptors old call.request.caps) _ done goes.2 in
      rw (ok_in _ _ parts.2) (table_to call.request.caps old parts.0 to parts.1)

  pub go_to : (old : State) (call : PendingCall) (route : Route) (done : Done) → To old → Go old call route (Ok done) → To done.1
  go_to old call (routes.Deliver k) done to goes = rw (ok_in _ _ goes) (delivered_to old call.origin to)
  go_to old call (routes.Import i) done to goes = out_to old call (targets.ImportedCap i) call.origin done to goes
  go_to old call (routes.Pipe q path) done to goes = out_to old call _ call.origin done to goes
  go_to old call (routes.Wait gate) done to goes = rw (ok_in _ _ goes) to
  go_to old call (routes.Fail x) done to goes = give_to old call.origin (outcomes.Failed x) done to goes

  pub goes_to : (old : State) (call : PendingCall) (cap : Cap) (done : Done) → To old → GoTo old call cap (Ok done) → To done.1
  goes_to old call cap done to goes = go_to old call goes.0 done to goes.2

  abbrev LeftTo : Result State PeerFault → Type 0
  LeftTo (Ok last) = To last
  LeftTo (Err fault) = Unit {0}

  pub leave_to : {old : State} {all : List Effect} {out : Result State PeerFault} → To old → Leave old all out → LeftTo out
  leave_to to (stays none) = to
  leave_to {old = old} to (leaves {mid = mid} {first = first} call cap next goes more same) =
      leave_to (goes_to (without_call old call) (underway call) cap (first, mid) to goes) more
  leave_to to (finds_table_full call cap next goes) = tt

  -- calls of the application
  mark_to : (s : State) (cap : Cap) (embargo : Option ℕ) → To s → To (with_mark s cap embargo)
  mark_to s (caps.Import i) embargo to = to
  mark_to s (caps.Pipelined q path) embargo to = to
  mark_to s caps.None embargo to = to
  mark_to s (caps.Object k) embargo to = to
  mark_to s (caps.Promise p) embargo to = to
  mark_to s (caps.Broken x) embargo to = to

  marked_to : (s mid : State) (cap : Cap) (o : Option (Option ℕ)) → To s → Ok mid ≡ marked s cap o → To mid
  marked_to s mid cap (Some embargo) to is = rw (ok_in _ _ is) to
  marked_to s mid cap None to is = by (has_mark_capacity s cap) is
    where
      by : (b : Bool) → Ok mid ≡ cond b (Ok (with_mark s cap None)) (Err faults.TableFull) → To mid
      by true e = rw (ok_in _ _ e) (mark_to s cap None to)
      by false e = ok_out e

  embargoed_to : (s : State) (call : PendingCall) (cap value : Cap) (done : Done) → To s → FirstEmbargoed s call cap value (Ok done) → To done.1
  embargoed_to s call cap value done to does =
      let parts = then_out {A = ℕ} {B = Done} (Fresh s.marks.embargoes) _ done does in
      let there : State = record s { marks = record s.marks { embargoes = insert s.marks.embargoes parts.0 value } } in
      rw (ok_in _ _ parts.2) (mark_to there cap (Some parts.0) to)

  back_to : (s : State) (call : PendingCall) (cap value : Cap) (o : Option (Option ℕ)) (done : Done) → To s → GoBack s call cap value o (Ok done) → To done.1
  back_to s call cap value None done to does = goes_to s call value done to does
  back_to s call cap value (Some None) done to does = embargoed_to s call cap value done to does
  back_to s call cap value (Some (Some n)) done to does = go_to s call (routes.Wait (gates.Embargo n)) done to does

  value_to : (old : State) (q : ℕ) (request : Request) (cap value : Cap) (done : Done) → To old → GoByValue old q request cap value (Ok done) → To done.1
  value_to old q request cap (caps.Import j) done to does = go_to (called old q kinds.Wire) (own_call old q request) (routes.Import j) done to does
  value_to old q request cap (caps.Object k) done to does =
      back_to (called old q kinds.Local) (own_call old q request) cap (caps.Object k) (mark_of old cap) done to does
  value_to old q request cap (caps.Promise p) done to does =
      back_to (called old q kinds.Local) (own_call old q request) cap (caps.Promise p) (mark_of old cap) done to does
  value_to old q request cap caps.None done to does = goes_to (called old q kinds.Local) (own_call old q request) caps.None done to does
  value_to old q request cap (caps.Pipelined r path) done to does =
      goes_to (called old q kinds.Local) (own_call old q request) (caps.Pipelined r path) done to does
  value_to old q request cap (caps.Broken x) done to does = goes_to (called old q kinds.Local) (own_call old q request) (caps.Broken x) done to does

  from_to : (old : State) (q : ℕ) (request : Request) (cap : Cap) (reference : Standing) (done : Done) → To old → GoFrom old q request cap reference (Ok done) → To done.1
  from_to old q request cap plain done to does = goes_to (called old q kinds.Local) (own_call old q request) cap done to does
  from_to old q request cap on_wire done to does =
      let parts = then_out {A = State} {B = Done} (λ mid. mid ≡ marked (called old q kinds.Wire) cap (mark_of old cap)) _ done does in
      goes_to parts.0 (own_call old q request) cap done (marked_to (called old q kinds.Wire) parts.0 cap (mark_of old cap) to parts.1) parts.2
  from_to old q request cap (came_to value) done to does = value_to old q request cap value done to does

  pub call_to : (old : State) (cap : Cap) (request : Request) (done : OwnDone) → To old → DoCall old cap request (Ok done) → To done.2
  call_to old cap request done to does =
      let opens = or_full_out _ _ (unless_out {A = OwnDone} {F = VatFault} (call_refusals old cap request) _ done does) in
      let first = then_out {A = ℕ} {B = OwnDone} (Fresh old.entries.questions) _ done opens in
      let goes = then_out {A = Done} {B = OwnDone} (GoFrom old first.0 request cap (reference_of old.values cap)) _ done first.2 in
      rw (ok_in _ _ goes.2) (from_to old first.0 request cap (reference_of old.values cap) goes.0 to goes.1)
