-- What calls that go, outcomes that are given and promises that are settled send, and what a vat keeps then.
use Rattle.std.proofs.Common.{◌≡◌, ℕ, suc, ◌≤◌, leb, ◌==◌, cond, Bool, true, false, List, [], ◌∷◌, ◌++◌, length, Option, Some, None, IfSome, Result, Ok, Err, refl, sym, ap, subst, inl, inr, arith}
use Rattle.std.specs.Option.{option_map, option_map_or}
use Rattle.std.specs.List.{list_all}
use Rattle.std.proofs.lemmas.List.{length-map}
use Rattle.std.proofs.lemmas.Bool.Decides.{nat_tests}
use Rattle.std.specs.FinMap.{get, insert, remove, empty, get-empty}
use Rattle.std.specs.Ordering.{nat_cmp}
use Rattle.cp_tables.specs.Table.{Table, with_change}
use Rattle.cp_tables.specs.declared.counted.Counted.{Counted}
use Rattle.cp_tables.specs.declared.exchange.Stage.{Stage}
use Rattle.cp_tables.specs.declared.exchange.Stage.TheVariants as stages
use Rattle.cp_tables.proofs.TableLemmas.{every-insert, every-remove}
use Rattle.cp_messages.specs.declared.call.SendResultsTo.TheVariants as results_to
use Rattle.cp_messages.specs.declared.descriptor.Descriptor.{Descriptor}
use Rattle.cp_messages.specs.declared.descriptor.Descriptor.TheVariants as descriptors
use Rattle.cp_messages.specs.declared.message.Message.{Message}
use Rattle.cp_messages.specs.declared.message.Message.TheVariants as messages
use Rattle.cp_messages.specs.declared.payload.Payload.{Payload}
use Rattle.cp_messages.specs.declared.promised_answer.Op.TheVariants as ops
use Rattle.cp_messages.specs.declared.resolve.Resolution.{Resolution}
use Rattle.cp_messages.specs.declared.resolve.Resolution.TheVariants as resolutions
use Rattle.cp_messages.specs.declared.returned.Returned.{Returned}
use Rattle.cp_messages.specs.declared.returned.Returned.TheVariants as returns
use Rattle.cp_messages.specs.declared.target.Target.{Target}
use Rattle.cp_messages.specs.declared.target.Target.TheVariants as targets
use Rattle.cp_refs.specs.At.{cap_at}
use Rattle.cp_refs.specs.declared.cap.Cap.{Cap}
use Rattle.cp_refs.specs.declared.cap.Cap.TheVariants as caps
use Rattle.cp_refs.specs.declared.call.WaitingCall.{WaitingCall}
use Rattle.cp_refs.specs.declared.call.Origin.{Origin}
use Rattle.cp_refs.specs.declared.call.Origin.TheVariants as origins
use Rattle.cp_refs.specs.declared.outcome.Outcome.{Outcome}
use Rattle.cp_refs.specs.declared.outcome.Outcome.TheVariants as outcomes
use Rattle.cp_refs.specs.declared.route.Gate.{Gate}
use Rattle.cp_refs.specs.declared.route.Gate.TheVariants as gates
use Rattle.cp_refs.specs.declared.route.Route.{Route}
use Rattle.cp_refs.specs.declared.route.Route.TheVariants as routes
use Rattle.cp_vat_machine.specs.State.{State, Over, gave, none_over, with_exports}
use Rattle.cp_vat_machine.specs.Then.{Done, Then}
use Rattle.cp_vat_machine.specs.Capacity.{Fresh, cap_fits, caps_fit, content_fits, exception_fits}
use Rattle.cp_vat_machine.specs.Writing.{Raise, counted, counted_out, opened, has_no_capacity, WritesEnd, WritesDescriptor, WritesDescriptors, promised}
use Rattle.cp_vat_machine.specs.Give.{ResolvesEnd, Tells, settled, value_for, last_for, Settle, SettleTied, Returns, given, gone, GiveBy, GiveAnswer, GiveOwnBy, Give}
use Rattle.cp_vat_machine.specs.Go.{PendingCall, underway, delivered, finish_after, GoOut, Go, GoTo, Leave, stays, leaves, finds_table_full, without_call}
use Rattle.cp_vat_machine.specs.Texts.{promise_loop}
use Rattle.cp_vat_machine.specs.declared.effect.Effect.{Effect}
use Rattle.cp_vat_machine.specs.declared.effect.Effect.TheVariants as effects
use Rattle.cp_vat_machine.specs.declared.entry.Tied.{Tied}
use Rattle.cp_vat_machine.specs.declared.fault.PeerFault.{PeerFault}
use Rattle.cp_vat_laws.specs.Sizes.{AllOf, AreKept, CapFits, Fits, IsWritable, OutcomeFits, OverFits, RequestFits, ValuesFit}
use Rattle.cp_vat_laws.proofs.writable.Apart.{ok_in, then_out}
use Rattle.cp_vat_laws.proofs.writable.Caps.{RouteFits, at_fits, both, end_fits, route_fits}

-- ---- what a vat sends
abbrev pub IsSaid : Descriptor → Type 0
IsSaid (descriptors.ReceiverAnswer answer) = leb (length answer.transform) 16 ≡ true
IsSaid (descriptors.ThirdPartyHosted t) = ⊥
IsSaid other = Unit {0}

abbrev pub AreSaid : List Descriptor → Type 0
AreSaid [] = Unit {0}
AreSaid (d ∷ table) = IsSaid d × AreSaid table

abbrev pub TargetSaid : Target → Type 0
TargetSaid (targets.PromisedAnswer answer) = leb (length answer.transform) 16 ≡ true
TargetSaid other = Unit {0}

abbrev pub PayloadSaid : Payload → Type 0
PayloadSaid p = (content_fits p.content ≡ true) × (length p.cap_table ≤ 1024) × AreSaid p.cap_table

abbrev pub ReturnedSaid : Returned → Type 0
ReturnedSaid (returns.Results p) = PayloadSaid p
ReturnedSaid (returns.Exception x) = exception_fits x ≡ true
ReturnedSaid returns.Canceled = Unit {0}
ReturnedSaid other = ⊥

abbrev pub ResolutionSaid : Resolution → Type 0
ResolutionSaid (resolutions.Cap d) = IsSaid d
ResolutionSaid (resolutions.Exception x) = exception_fits x ≡ true
ResolutionSaid (resolutions.Unknown n) = ⊥

abbrev pub CanSend : Message → Type 0
CanSend (messages.Unimplemented t) = IsWritable (messages.Unimplemented t)
CanSend (messages.Abort x) = exception_fits x ≡ true
CanSend (messages.Call c) = TargetSaid c.target × PayloadSaid c.params × (c.send_results_to ≡ results_to.Caller)
CanSend (messages.Return r) = ReturnedSaid r.returned
CanSend (messages.Finish f) = Unit {0}
CanSend (messages.Resolve r) = ResolutionSaid r.resolution
CanSend (messages.Release r) = Unit {0}
CanSend (messages.Bootstrap b) = Unit {0}
CanSend (messages.Disembargo d) = TargetSaid d.target
CanSend (messages.Other which body) = ⊥

abbrev pub IsSent : Effect → Type 0
IsSent (effects.Send m) = CanSend m
IsSent other = Unit {0}

abbrev pub AreSent : List Effect → Type 0
AreSent [] = Unit {0}
AreSent (effect ∷ more) = IsSent effect × AreSent more

pub sent_both : (first rest : List Effect) → AreSent first → AreSent rest → AreSent (first ++ rest)
sent_both [] rest f r = r
sent_both (effect ∷ first) rest f r = (f.0, sent_both first rest f.1 r)

-- what a rule did
abbrev pub Good : Done → Type 0
Good done = AreSent done.0 × Fits done.1

pub at_most : (a b : ℕ) → leb a b ≡ true → a ≤ b
at_most a b t = grind (arith, nat_tests)

pub is_most : (a b : ℕ) → a ≤ b → leb a b ≡ true
is_most a b t = grind (arith, nat_tests)

pub all_empty : {X : Type 0} (P : X → Type 0) → AllOf P empty
all_empty P k = rw (get-empty nat_cmp k) tt

pub all_change : {X : Type 0} (P : X → Type 0) (table : Table X) (k : ℕ) (change : X → X) → AllOf P table → ((x : X) → P x → P (change x)) → AllOf P (with_change table k change)
all_change {X} P table k change all on = by (get table k) (all k)
  where
    by : (o : Option X) → IfSome o P → AllOf P (option_map_or (λ entry. insert table k (change entry)) o table)
    by None h = all
    by (Some x) h = every-insert P table k (change x) all (on x h)

module _ (s : State) (f : Fits s) where
  -- the state with other exports
  pub exports_fit : (exports : Table (Counted Cap)) → AllOf (λ entry. CapFits entry.kept) exports → Fits (with_exports s exports)
  exports_fit exports all = record { values_fit = f.values_fit; exports_fit = all; calls_fit = f.calls_fit; over_fits = f.over_fits; embargoes_fit = f.embargoes_fit }

  pub promise_put : (p : ℕ) (v : Option Cap) → IfSome v CapFits → ValuesFit (record s.values { promises = insert s.values.promises p v })
  promise_put p v h =
      record {
        promises = every-insert (λ value. IfSome value CapFits) s.values.promises p v f.values_fit.promises h;
        imports = f.values_fit.imports;
        answers = f.values_fit.answers;
        questions = f.values_fit.questions;
      }

  settled_fits : (p : ℕ) (value : Cap) → CapFits value → Fits (settled s p value)
  settled_fits p value h =
      record {
        values_fit = promise_put p (Some value) h;
        exports_fit = f.exports_fit;
        calls_fit = f.calls_fit;
        over_fits =
            record {
              answers = f.over_fits.answers;
              promises = every-insert CapFits s.waiting.over.promises p value f.over_fits.promises h;
              questions = f.over_fits.questions;
              embargoes = f.over_fits.embargoes;
            };
        embargoes_fit = f.embargoes_fit;
      }

  pub answer_put : (a : ℕ) (o : Option Outcome) → IfSome o OutcomeFits → ValuesFit (record s.values { answers = insert s.values.answers a o })
  answer_put a o h =
      record {
        promises = f.values_fit.promises;
        imports = f.values_fit.imports;
        answers = every-insert (λ outcome. IfSome outcome OutcomeFits) s.values.answers a o f.values_fit.answers h;
        questions = f.values_fit.questions;
      }

  pub answer_gone : (a : ℕ) → ValuesFit (record s.values { answers = remove s.values.answers a })
  answer_gone a =
      record {
        promises = f.values_fit.promises;
        imports = f.values_fit.imports;
        answers = every-remove (λ outcome. IfSome outcome OutcomeFits) s.values.answers a f.values_fit.answers;
        questions = f.values_fit.questions;
      }

  answer_over : (a : ℕ) (outcome : Outcome) → OutcomeFits outcome → OverFits (record s.waiting.over { answers = insert s.waiting.over.answers a outcome })
  answer_over a outcome h =
      record {
        answers = every-insert OutcomeFits s.waiting.over.answers a outcome f.over_fits.answers h;
        promises = f.over_fits.promises;
        questions = f.over_fits.questions;
        embargoes = f.over_fits.embargoes;
      }

  question_over : (q : ℕ) (outcome : Outcome) → OutcomeFits outcome → OverFits (record s.waiting.over { questions = insert s.waiting.over.questions q outcome })
  question_over q outcome h =
      record {
        answers = f.over_fits.answers;
        promises = f.over_fits.promises;
        questions = every-insert OutcomeFits s.waiting.over.questions q outcome f.over_fits.questions h;
        embargoes = f.over_fits.embargoes;
      }

  pub question_gone : (q : ℕ) → ValuesFit (record s.values { questions = remove s.values.questions q })
  question_gone q =
      record {
        promises = f.values_fit.promises;
        imports = f.values_fit.imports;
        answers = f.values_fit.answers;
        questions = every-remove (λ question. IfSome question.outcome OutcomeFits) s.values.questions q f.values_fit.questions;
      }

  -- ---- how capabilities are sent
  abbrev RaisedFits : Result (ℕ × State) PeerFault → Type 0
  RaisedFits (Ok raised) = Fits raised.1
  RaisedFits (Err fault) = Unit {0}

  raised_fits : (cap : Cap) (out : Result (ℕ × State) PeerFault) → CapFits cap → Raise s cap out → RaisedFits out
  raised_fits cap out h (counted e count is room) = exports_fit _ (every-insert (λ entry. CapFits entry.kept) s.counts.exports e _ f.exports_fit h)
  raised_fits cap out h (counted_out e is) = tt
  raised_fits cap out h (opened e none fresh) = exports_fit _ (every-insert (λ entry. CapFits entry.kept) s.counts.exports e _ f.exports_fit h)
  raised_fits cap out h (has_no_capacity none is) = tt

  said_fits : (last : Cap) (said : Descriptor × State) → CapFits last → WritesEnd s last (Ok said) → IsSaid said.0 × Fits said.1
  said_fits caps.None said h is = rw (ok_in _ _ is) (tt, f)
  said_fits (caps.Object k) said h is =
      let parts = then_out {A = ℕ × State} {B = Descriptor × State} (Raise s (caps.Object k)) _ said is in
      rw (ok_in _ _ parts.2) (tt, raised_fits (caps.Object k) (Ok parts.0) h parts.1)
  said_fits (caps.Promise p) said h is =
      let parts = then_out {A = ℕ × State} {B = Descriptor × State} (Raise s (caps.Promise p)) _ said is in
      rw (ok_in _ _ parts.2) (tt, raised_fits (caps.Promise p) (Ok parts.0) h parts.1)
  said_fits (caps.Import i) said h is = rw (ok_in _ _ is) (tt, f)
  said_fits (caps.Pipelined q path) said h is = rw (ok_in _ _ is, length-map path (λ field. ops.GetPointerField field)) (h, f)
  said_fits (caps.Broken x) said h is = rw (ok_in _ _ is) (tt, f)

-- a table
table_fits : (table : List Cap) (s : State) (said : List Descriptor × State) → Fits s → list_all cap_fits table ≡ true → WritesDescriptors s table (Ok said)
    → AreSaid said.0 × (length said.0 ≡ length table) × Fits said.1
table_fits [] s said f all is = rw (ok_in _ _ is) (tt, refl, f)
table_fits (c ∷ table) s said f all is =
    let each = both (cap_fits c) (list_all cap_fits table) all in
    let first = then_out {A = Descriptor × State} {B = List Descriptor × State} (WritesDescriptor s c) _ said is in
    let rest = then_out {A = List Descriptor × State} {B = List Descriptor × State} (WritesDescriptors first.0.1 table) _ said first.2 in
    let one = said_fits s f first.1.0 first.0 (end_fits s.values f.values_fit c first.1.0 each.0 first.1.1) first.1.2 in
    let more = table_fits table first.0.1 rest.0 one.1 each.1 rest.1 in
    rw (ok_in _ _ rest.2) ((one.0, more.0), ap suc more.1, more.2)

-- ---- promises that are settled
value_fits : (p : ℕ) (last value : Cap) → CapFits value → CapFits (value_for p last value)
value_fits p caps.None value h = h
value_fits p (caps.Object k) value h = h
value_fits p (caps.Promise r) value h = by (r == p)
  where
    by : (b : Bool) → CapFits (cond b (caps.Broken promise_loop) value)
    by true = refl
    by false = h
value_fits p (caps.Import i) value h = h
value_fits p (caps.Pipelined q path) value h = h
value_fits p (caps.Broken x) value h = h

module _ (s : State) (f : Fits s) where
  resolves_fits : (last : Cap) (said : Resolution × State) → CapFits last → Then (WritesEnd s last) (λ said out. out ≡ Ok (resolutions.Cap said.0, said.1)) (Ok said) → ResolutionSaid said.0 × Fits said.1
  resolves_fits last said h is =
      let parts = then_out {A = Descriptor × State} {B = Resolution × State} (WritesEnd s last) _ said is in
      rw (ok_in _ _ parts.2) (said_fits s f last parts.0 h parts.1)

  resolution_fits : (last : Cap) (said : Resolution × State) → CapFits last → ResolvesEnd s last (Ok said) → ResolutionSaid said.0 × Fits said.1
  resolution_fits (caps.Broken x) said h is = rw (ok_in _ _ is) (h, f)
  resolution_fits caps.None said h is = resolves_fits caps.None said h is
  resolution_fits (caps.Object k) said h is = resolves_fits (caps.Object k) said h is
  resolution_fits (caps.Promise p) said h is = resolves_fits (caps.Promise p) said h is
  resolution_fits (caps.Import i) said h is = resolves_fits (caps.Import i) said h is
  resolution_fits (caps.Pipelined q path) said h is = resolves_fits (caps.Pipelined q path) said h is

  tells_fits : (p : ℕ) (last : Cap) (done : Done) → CapFits last → Tells s p last (Ok done) → Good done
  tells_fits p last done h (inl is) = rw (ok_in _ _ is.1) (tt, f)
  tells_fits p last done h (inr is) =
      let parts = then_out {A = Resolution × State} {B = Done} (ResolvesEnd s last) _ done is.2 in
      let said = resolution_fits last parts.0 h parts.1 in
      rw (ok_in _ _ parts.2) ((said.0, tt), said.1)

pub settle_fits : (s : State) (f : Fits s) (p : ℕ) (value : Cap) (done : Done) → CapFits value → Settle s p value (Ok done) → Good done
settle_fits s f p value done h does =
    let last = end_fits s.values f.values_fit value does.0 h does.1 in
    tells_fits (settled s p (value_for p does.0 value)) (settled_fits s f p (value_for p does.0 value) (value_fits p does.0 value h)) p (last_for p does.0) done (value_fits p does.0 does.0 last) does.2

tied_fits : (tied : List Tied) (s : State) (f : Fits s) (outcome : Outcome) (done : Done) → OutcomeFits outcome → SettleTied s outcome tied (Ok done) → Good done
tied_fits [] s f outcome done h does = rw (ok_in _ _ does) (tt, f)
tied_fits (tied ∷ more) s f outcome done h does =
    let first = then_out {A = Done} {B = Done} (Settle s tied.promise (cap_at outcome tied.path)) _ done does in
    let rest = then_out {A = Done} {B = Done} (SettleTied first.0.1 outcome more) _ done first.2 in
    let one = settle_fits s f tied.promise (cap_at outcome tied.path) first.0 (at_fits outcome tied.path h) first.1 in
    let then = tied_fits more first.0.1 one.1 outcome rest.0 h rest.1 in
    rw (ok_in _ _ rest.2) (sent_both first.0.0 rest.0.0 one.0 then.0, then.1)

-- ---- outcomes that are given
module _ (s : State) (f : Fits s) where
  returns_fit : (outcome : Outcome) (said : Returned × State) → OutcomeFits outcome → Returns s outcome (Ok said) → ReturnedSaid said.0 × Fits said.1
  returns_fit (outcomes.Results content table) said h does =
      let parts = then_out {A = List Descriptor × State} {B = Returned × State} (WritesDescriptors s table) _ said does in
      let sizes = both (content_fits content) (caps_fit table) h in
      let caps = both (leb (length table) 1024) (list_all cap_fits table) sizes.1 in
      let said = table_fits table s parts.0 f caps.1 parts.1 in
      rw (ok_in _ _ parts.2) ((sizes.0, subst (λ n. n ≤ 1024) (sym said.1) (at_most _ _ caps.0), said.0), said.2)
  returns_fit (outcomes.Failed x) said h does = rw (ok_in _ _ does) (h, f)
  returns_fit outcomes.Canceled said h does = rw (ok_in _ _ does) (tt, f)

  gone_fits : (a : ℕ) (outcome : Outcome) → OutcomeFits outcome → Fits (gone s a outcome)
  gone_fits a outcome h = record { values_fit = answer_gone s f a; exports_fit = f.exports_fit; calls_fit = f.calls_fit; over_fits = answer_over s f a outcome h; embargoes_fit = f.embargoes_fit }

given_fits : (s : State) (f : Fits s) (a : ℕ) (outcome : Outcome) → OutcomeFits outcome → AreKept (record s.values { answers = insert s.values.answers a (Some outcome) }) s.counts.exports s.waiting.calls (record s.waiting.over { answers = insert s.waiting.over.answers a outcome }) s.marks.embargoes
given_fits s f a outcome h = record { values_fit = answer_put s f a (Some outcome) h; exports_fit = f.exports_fit; calls_fit = f.calls_fit; over_fits = answer_over s f a outcome h; embargoes_fit = f.embargoes_fit }

module _ (s : State) (f : Fits s) where
  answer_by : (a : ℕ) (outcome : Outcome) (done : Done) → OutcomeFits outcome → (does : GiveAnswer s a outcome (Ok done)) → (stage : Stage) → GiveBy s a outcome does.0.kept stage (Ok done) → Good done
  answer_by a outcome done h does stages.Open gives =
      let kept = does.0.kept in
      let says = then_out {A = Returned × State} {B = Done} (Returns s outcome) _ done gives in
      let said = returns_fit s f outcome says.0 h says.1 in
      let mid = given says.0.1 a kept outcome says.0.0 in
      let rest = then_out {A = Done} {B = Done} (SettleTied mid outcome kept.tied) _ done says.2 in
      let more = tied_fits kept.tied mid (given_fits says.0.1 said.1 a outcome h) outcome rest.0 h rest.1 in
      rw (ok_in _ _ rest.2) ((said.0, more.0), more.1)
  answer_by a outcome done h does stages.Finished gives =
      let kept = does.0.kept in
      let rest = then_out {A = Done} {B = Done} (SettleTied (gone s a outcome) outcome kept.tied) _ done gives in
      let more = tied_fits kept.tied (gone s a outcome) (gone_fits s f a outcome h) outcome rest.0 h rest.1 in
      rw (ok_in _ _ rest.2) ((tt, more.0), more.1)
  answer_by a outcome done h does stages.Returned gives = absurd gives

  pub answer_fits : (a : ℕ) (outcome : Outcome) (done : Done) → OutcomeFits outcome → GiveAnswer s a outcome (Ok done) → Good done
  answer_fits a outcome done h does = answer_by a outcome done h does does.0.stage does.2

  question_settles : (q : ℕ) (outcome : Outcome) → OutcomeFits outcome → ValuesFit (record s.values { questions = with_change s.values.questions q (λ question. record question { outcome = Some outcome }) })
  question_settles q outcome h =
      record {
        promises = f.values_fit.promises;
        imports = f.values_fit.imports;
        answers = f.values_fit.answers;
        questions =
            all_change (λ question. IfSome question.outcome OutcomeFits) s.values.questions q (λ question. record question { outcome = Some outcome }) f.values_fit.questions (λ _ _. h);
      }

  pub own_fits : (q : ℕ) (outcome : Outcome) (stage : Stage) (done : Done) → OutcomeFits outcome → GiveOwnBy s q outcome stage (Ok done) → Good done
  own_fits q outcome stages.Open done h does =
      rw (ok_in _ _ does)
      ((tt, tt), record { values_fit = question_settles q outcome h; exports_fit = f.exports_fit; calls_fit = f.calls_fit; over_fits = question_over s f q outcome h; embargoes_fit = f.embargoes_fit })
  own_fits q outcome stages.Finished done h does =
      rw (ok_in _ _ does)
      (tt, record { values_fit = question_gone s f q; exports_fit = f.exports_fit; calls_fit = f.calls_fit; over_fits = question_over s f q outcome h; embargoes_fit = f.embargoes_fit })
  own_fits q outcome stages.Returned done h does = absurd does

  pub give_fits : (origin : Origin) (outcome : Outcome) (done : Done) → OutcomeFits outcome → Give s origin outcome (Ok done) → Good done
  give_fits (origins.Answer a) outcome done h does = answer_fits a outcome done h does
  give_fits (origins.Own q) outcome done h does = own_fits q outcome does.0.stage done h does.2

  -- ---- calls that go
  delivered_fits : (origin : Origin) → Fits (delivered s origin)
  delivered_fits (origins.Answer a) = f
  delivered_fits (origins.Own q) = f

  finish_sent : (q : ℕ) (stage : Stage) → AreSent (finish_after q stage)
  finish_sent q stages.Open = tt
  finish_sent q stages.Finished = (tt, tt)
  finish_sent q stages.Returned = tt

  out_fits : (call : PendingCall) (target : Target) (origin : Origin) (done : Done) → RequestFits call.request → TargetSaid target → GoOut s call target origin (Ok done) → Good done
  out_fits call target (origins.Answer a) done h said goes =
      let first = then_out {A = ℕ} {B = Done} (Fresh s.entries.questions) _ done goes in
      let parts = then_out {A = List Descriptor × State} {B = Done} (WritesDescriptors s call.request.caps) _ done first.2 in
      let sizes = both (content_fits call.request.content) (caps_fit call.request.caps) h in
      let caps = both (leb (length call.request.caps) 1024) (list_all cap_fits call.request.caps) sizes.1 in
      let table = table_fits call.request.caps s parts.0 f caps.1 parts.1 in
      rw (ok_in _ _ parts.2) (((said, (sizes.0, subst (λ n. n ≤ 1024) (sym table.1) (at_most _ _ caps.0), table.0), refl), tt), table.2)
  out_fits call target (origins.Own q) done h said goes =
      let parts = then_out {A = List Descriptor × State} {B = Done} (WritesDescriptors s call.request.caps) _ done goes.2 in
      let sizes = both (content_fits call.request.content) (caps_fit call.request.caps) h in
      let caps = both (leb (length call.request.caps) 1024) (list_all cap_fits call.request.caps) sizes.1 in
      let table = table_fits call.request.caps s parts.0 f caps.1 parts.1 in
      rw (ok_in _ _ parts.2) (((said, (sizes.0, subst (λ n. n ≤ 1024) (sym table.1) (at_most _ _ caps.0), table.0), refl), finish_sent q goes.0.stage), table.2)

  pub go_fits : (call : PendingCall) (route : Route) (done : Done) → RequestFits call.request → RouteFits route → Go s call route (Ok done) → Good done
  go_fits call (routes.Deliver k) done h r goes = rw (ok_in _ _ goes) ((tt, tt), delivered_fits call.origin)
  go_fits call (routes.Import i) done h r goes = out_fits call (targets.ImportedCap i) call.origin done h tt goes
  go_fits call (routes.Pipe q path) done h r goes = out_fits call (targets.PromisedAnswer (promised q path)) call.origin done h (rw (length-map path (λ field. ops.GetPointerField field)) r) goes
  go_fits call (routes.Wait gate) done h r goes =
      rw (ok_in _ _ goes)
      (tt, record { values_fit = f.values_fit; exports_fit = f.exports_fit; calls_fit = every-insert (λ call. RequestFits call.request) s.waiting.calls call.ticket _ f.calls_fit h; over_fits = f.over_fits; embargoes_fit = f.embargoes_fit })
  go_fits call (routes.Fail x) done h r goes = give_fits call.origin (outcomes.Failed x) done r goes

  pub goes_fit : (call : PendingCall) (cap : Cap) (done : Done) → RequestFits call.request → CapFits cap → GoTo s call cap (Ok done) → Good done
  goes_fit call cap done h c goes = go_fits call goes.0 done h (route_fits s.values f.values_fit cap goes.0 c goes.1) goes.2

-- ---- calls that leave
abbrev or_cap : Cap → Option Cap → Cap
or_cap c None = c
or_cap c (Some d) = d

gave_at : (path : List ℕ) (c : Cap) (o : Option Outcome) → IfSome o OutcomeFits → option_map (λ outcome. cap_at outcome path) o ≡ Some c → CapFits c
gave_at path c None h is = absurd (cc)
gave_at path c (Some outcome) h is = subst CapFits (ap (or_cap c) is) (at_fits outcome path h)

gave_cap : (c : Cap) (o : Option Cap) → IfSome o CapFits → o ≡ Some c → CapFits c
gave_cap c None h is = absurd (cc)
gave_cap c (Some d) h is = subst CapFits (ap (or_cap c) is) h

gave_fits : (over : Over) (f : OverFits over) (gate : Gate) (c : Cap) → gave over gate ≡ Some c → CapFits c
gave_fits over f (gates.Answer a path) c is = gave_at path c (get over.answers a) (f.answers a) is
gave_fits over f (gates.Promise p) c is = gave_cap c (get over.promises p) (f.promises p) is
gave_fits over f (gates.Question q path) c is = gave_at path c (get over.questions q) (f.questions q) is
gave_fits over f (gates.Embargo n) c is = gave_cap c (get over.embargoes n) (f.embargoes n) is

abbrev or_held : WaitingCall → Option WaitingCall → WaitingCall
or_held c None = c
or_held c (Some d) = d

held_fits : (call : WaitingCall) (o : Option WaitingCall) → IfSome o (λ call. RequestFits call.request) → o ≡ Some call → RequestFits call.request
held_fits call None h is = absurd (cc)
held_fits call (Some other) h is = subst (λ call. RequestFits call.request) (ap (or_held call) is) h

abbrev pub LeftFits : Result State PeerFault → Type 0
LeftFits (Ok last) = Fits last
LeftFits (Err fault) = Unit {0}

pub none_fits : OverFits none_over
none_fits = record { answers = all_empty OutcomeFits; promises = all_empty CapFits; questions = all_empty OutcomeFits; embargoes = all_empty CapFits }

pub leave_fits : {old : State} {all : List Effect} {out : Result State PeerFault} → Fits old → Leave old all out → AreSent all × LeftFits out
leave_fits f (stays none) = (tt, record { values_fit = f.values_fit; exports_fit = f.exports_fit; calls_fit = f.calls_fit; over_fits = none_fits; embargoes_fit = f.embargoes_fit })
leave_fits {old = old} f (leaves {mid = mid} {first = first} {rest = rest} {last = last} call cap next goes more same) =
    let left : Fits (without_call old call) =
    record { values_fit = f.values_fit; exports_fit = f.exports_fit; calls_fit = every-remove (λ call. RequestFits call.request) old.waiting.calls call.ticket f.calls_fit; over_fits = f.over_fits; embargoes_fit = f.embargoes_fit } in
    let went = goes_fit (without_call old call) left (underway call) cap (first, mid) (held_fits call (get old.waiting.calls call.ticket) (f.calls_fit call.ticket) next.waits) (gave_fits old.waiting.over f.over_fits call.gate cap next.ended) goes in
    let then = leave_fits went.1 more in
    rw same (sent_both first rest went.0 then.0, then.1)
leave_fits f (finds_table_full call cap next goes) = (tt, tt)
