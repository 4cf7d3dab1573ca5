-- What is returned bears the outcome that was given.
use Rattle.std.specs.Prelude.{◌≡◌, refl, ℕ, zero, suc, ◌+◌, ◌==◌, Bool, true, false, List, [], ◌∷◌, filter, Option, Some, None, Result, Ok, Err}
use Rattle.std.specs.List.{AllZip}
use Rattle.std.specs.FinMap.{get, insert}
use Rattle.std.proofs.Common.{inl, inr, ap, subst, sym, ◌∙◌}
use Rattle.cp_tables.specs.Counted.{new_counted}
use Rattle.cp_tables.specs.declared.exchange.Stage.{Stage}
use Rattle.cp_tables.specs.declared.exchange.Stage.TheVariants as stages
use Rattle.cp_messages.specs.declared.descriptor.Descriptor.{Descriptor}
use Rattle.cp_messages.specs.declared.resolve.Resolution.{Resolution}
use Rattle.cp_messages.specs.declared.returned.Returned.{Returned}
use Rattle.cp_messages.specs.declared.returned.Returned.TheVariants as returns
use Rattle.cp_refs.specs.At.{cap_at}
use Rattle.cp_refs.specs.Route.{Way, ends, leads, missing, way}
use Rattle.cp_refs.specs.Values.{ValueMaps}
use Rattle.cp_refs.specs.declared.cap.Cap.{Cap}
use Rattle.cp_refs.specs.declared.cap.Cap.TheVariants as caps
use Rattle.cp_refs.specs.declared.outcome.Outcome.{Outcome}
use Rattle.cp_refs.specs.declared.outcome.Outcome.TheVariants as outcomes
use Rattle.cp_vat_machine.specs.State.{State, with_exports}
use Rattle.cp_vat_machine.specs.Then.{Done}
use Rattle.cp_vat_machine.specs.Writing.{ResolvesTo, end_by, end_within, IsExport, Raise, counted, counted_out, opened, has_no_capacity, WritesEnd, WritesDescriptor, WritesDescriptors}
use Rattle.cp_vat_machine.specs.Capacity.{free}
use Rattle.cp_vat_machine.specs.Give.{ResolvesEnd, Tells, settled, value_for, last_for, Settle, SettleTied, Returns, given, gone, GiveBy, return_of}
use Rattle.cp_vat_machine.specs.Doing.{is_settled}
use Rattle.cp_vat_machine.specs.Trace.{Turn}
use Rattle.cp_vat_machine.specs.Telling.{is_finished, LeadsBy, LeadsWithin, LeadsTo, StandsFor, Bears, is_telling, AnswerTold}
use Rattle.cp_vat_machine.specs.declared.entry.AnswerEntry.{AnswerEntry}
use Rattle.cp_vat_machine.specs.declared.entry.Tied.{Tied}
use Rattle.cp_vat_machine.specs.declared.fault.PeerFault.{PeerFault}
use Rattle.cp_vat_machine.proofs.Basics.{some_out, none_out, is_equal, ok_in, then_out, put_at}
use Rattle.cp_vat_laws.proofs.order.Closes.{AreQuiet, quiet_both, quiet_none}
use Rattle.cp_vat_laws.proofs.order.Settle.{end_only, told_only}

-- an export stays that of its capability
abbrev pub ExportsStay : State → State → Type 0
ExportsStay s t = (e : ℕ) (cap : Cap) → IsExport s e cap → IsExport t e cap

pub stay_both : (s t u : State) → ExportsStay s t → ExportsStay t u → ExportsStay s u
stay_both s t u one more e cap is = more e cap (one e cap is)

-- what raising does
abbrev Raised : State → Cap → Result (ℕ × State) PeerFault → Type 0
Raised old cap (Ok raised) = IsExport raised.1 raised.0 cap × ExportsStay old raised.1
Raised old cap (Err fault) = Unit {0}

counted_stays : (old : State) (e count : ℕ) (cap : Cap) → get old.counts.exports e ≡ Some (record { count = count; kept = cap }) → (f : ℕ) (b : Bool) → (e == f) ≡ b → (c : Cap)
    → IsExport old f c → IsExport (with_exports old (insert old.counts.exports e (record { count = count + 1; kept = cap }))) f c
counted_stays old e count cap is f true t c here =
    let there : get old.counts.exports f ≡ Some (record { count = count; kept = cap }) = rw (← is_equal e f t) is in
    let same : cap ≡ c = ap (λ x. x.kept) (some_out (sym there ∙ here.1)) in
    (count + 1, put_at old.counts.exports e f (record { count = count + 1; kept = cap }) true t ∙ ap (λ k. Some (record { count = count + 1; kept = k })) same)
counted_stays old e count cap is f false t c here = (here.0, put_at old.counts.exports e f (record { count = count + 1; kept = cap }) false t ∙ here.1)

opened_stays : (old : State) (e : ℕ) (cap : Cap) → get old.counts.exports e ≡ None → (f : ℕ) (b : Bool) → (e == f) ≡ b → (c : Cap) → IsExport old f c
    → IsExport (with_exports old (insert old.counts.exports e (new_counted cap))) f c
opened_stays old e cap unused f true t c here = none_out (sym unused ∙ ap (λ k. get old.counts.exports k) (is_equal e f t) ∙ here.1)
opened_stays old e cap unused f false t c here = (here.0, put_at old.counts.exports e f (new_counted cap) false t ∙ here.1)

raised_is : (old : State) (cap : Cap) (out : Result (ℕ × State) PeerFault) → Raise old cap out → Raised old cap out
raised_is old cap out (counted e count is room) =
    ((count + 1, Rattle.cp_tables.proofs.TableLemmas.get-insert_same old.counts.exports e (record { count = count + 1; kept = cap })), λ f c here. counted_stays old e count cap is f (e == f) refl c here)
raised_is old cap out (counted_out e is) = tt
raised_is old cap out (opened e none (free n unused small room)) =
    ((1, Rattle.cp_tables.proofs.TableLemmas.get-insert_same old.counts.exports e (new_counted cap)), λ f c here. opened_stays old e cap unused f (e == f) refl c here)
raised_is old cap out (has_no_capacity none is) = tt

-- what a way comes to, it leads to
comes_by : (values : ValueMaps) (n : ℕ) (c last : Cap) (w : Way) → ((next : Cap) → end_within n values next ≡ Some last → LeadsTo values next last) → way values c ≡ w
    → end_by (λ next. end_within n values next) c w ≡ Some last → LeadsTo values c last
comes_by values n c last (ends r) more is e = (0, some_out e)
comes_by values n c last (leads next) more is e = let there = more next e in (suc there.0, subst (λ w. LeadsBy (λ next. LeadsWithin there.0 values next last) w) (sym is) there.1)
comes_by values n c last missing more is e = none_out e

comes_within : (values : ValueMaps) (n : ℕ) (c last : Cap) → end_within n values c ≡ Some last → LeadsTo values c last
comes_within values zero c last e = none_out e
comes_within values (suc n) c last e = comes_by values n c last (way values c) (λ next k. comes_within values n next last k) refl e

pub comes_leads : (values : ValueMaps) (c last : Cap) → ResolvesTo values c last → LeadsTo values c last
comes_leads values c last h = comes_within values h.0 c last h.1

abbrev IsEnd : Way → Type 0
IsEnd (ends r) = Unit {0}
IsEnd other = ⊥

end_found : (values : ValueMaps) (n : ℕ) (c last : Cap) (w : Way) → ((next : Cap) → end_within n values next ≡ Some last → IsEnd (way values last)) → way values c ≡ w
    → end_by (λ next. end_within n values next) c w ≡ Some last → IsEnd (way values last)
end_found values n c last (ends r) more is e = subst (λ k. IsEnd (way values k)) (some_out e) (subst IsEnd (sym is) tt)
end_found values n c last (leads next) more is e = more next e
end_found values n c last missing more is e = none_out e

ends_within : (values : ValueMaps) (n : ℕ) (c last : Cap) → end_within n values c ≡ Some last → IsEnd (way values last)
ends_within values zero c last e = none_out e
ends_within values (suc n) c last e = end_found values n c last (way values c) (λ next k. ends_within values n next last k) refl e

open_by : (p : ℕ) (o : Option (Option Cap)) → IsEnd (Rattle.cp_refs.specs.Route.promise_way p o) → o ≡ Some None
open_by p None h = absurd h
open_by p (Some None) h = refl
open_by p (Some (Some v)) h = absurd h

pub comes_open : (values : ValueMaps) (c : Cap) (p : ℕ) → ResolvesTo values c (caps.Promise p) → get values.promises p ≡ Some None
comes_open values c p h = open_by p (get values.promises p) (ends_within values h.0 c (caps.Promise p) h.1)

-- What is said of a capability stands for it.
module _ (turn : Turn) (s : State) (back : (c last : Cap) → ResolvesTo s.values c last → LeadsTo turn.before.values c last)
    (unsettled : (p : ℕ) → get s.values.promises p ≡ Some None → is_settled (get turn.before.values.promises p) ≡ false) where
  end_stands : (cap last : Cap) (from : State) (said : Descriptor × State) → ResolvesTo s.values cap last → WritesEnd from last (Ok said) → ExportsStay said.1 turn.after
      → StandsFor turn said.0 cap × ExportsStay from said.1
  end_stands cap caps.None from said comes is stay = rw (ok_in _ _ is) (inl (back cap caps.None comes), λ e c h. h)
  end_stands cap (caps.Object k) from said comes is stay =
      let parts = then_out {A = ℕ × State} {B = Descriptor × State} (Raise from (caps.Object k)) _ said is in
      let raised = raised_is from (caps.Object k) (Ok parts.0) parts.1 in
      let done = ok_in _ _ parts.2 in
      let stay_on : ExportsStay parts.0.1 turn.after = subst (λ d. ExportsStay d.1 turn.after) done stay in
      rw (done) ((k, stay_on parts.0.0 (caps.Object k) raised.0, back cap (caps.Object k) comes), raised.1)
  end_stands cap (caps.Promise p) from said comes is stay =
      let parts = then_out {A = ℕ × State} {B = Descriptor × State} (Raise from (caps.Promise p)) _ said is in
      let raised = raised_is from (caps.Promise p) (Ok parts.0) parts.1 in
      let done = ok_in _ _ parts.2 in
      let stay_on : ExportsStay parts.0.1 turn.after = subst (λ d. ExportsStay d.1 turn.after) done stay in
      rw (done) ((p, stay_on parts.0.0 (caps.Promise p) raised.0, back cap (caps.Promise p) comes, unsettled p (comes_open s.values cap p comes)), raised.1)
  end_stands cap (caps.Import i) from said comes is stay = rw (ok_in _ _ is) (back cap (caps.Import i) comes, λ e c h. h)
  end_stands cap (caps.Pipelined q path) from said comes is stay = rw (ok_in _ _ is) ((q, path, refl, back cap (caps.Pipelined q path) comes), λ e c h. h)
  end_stands cap (caps.Broken x) from said comes is stay = rw (ok_in _ _ is) (inr (x, back cap (caps.Broken x) comes), λ e c h. h)

  all_stay : (table : List Cap) (from : State) (said : List Descriptor × State) → from.values ≡ s.values → WritesDescriptors from table (Ok said) → ExportsStay from said.1
  all_stay [] from said same is = rw (ok_in _ _ is) (λ e c h. h)
  all_stay (cap ∷ table) from said same is =
      let first = then_out {A = Descriptor × State} {B = List Descriptor × State} (WritesDescriptor from cap) _ said is in
      let rest = then_out {A = List Descriptor × State} {B = List Descriptor × State} (WritesDescriptors first.0.1 table) _ said first.2 in
      let only = end_only from first.1.0 first.0 first.1.2 in
      let more = all_stay table first.0.1 rest.0 (ap (λ x. x.values) only ∙ same) rest.1 in
      rw (ok_in _ _ rest.2) (stay_both from first.0.1 rest.0.1 (end_stays from first.1.0 first.0 first.1.2) more)
    where
      end_stays : (from : State) (last : Cap) (said : Descriptor × State) → WritesEnd from last (Ok said) → ExportsStay from said.1
      end_stays from caps.None said is = rw (ok_in _ _ is) (λ e c h. h)
      end_stays from (caps.Object k) said is =
          let parts = then_out {A = ℕ × State} {B = Descriptor × State} (Raise from (caps.Object k)) _ said is in
          rw (ok_in _ _ parts.2) (raised_is from (caps.Object k) (Ok parts.0) parts.1).1
      end_stays from (caps.Promise p) said is =
          let parts = then_out {A = ℕ × State} {B = Descriptor × State} (Raise from (caps.Promise p)) _ said is in
          rw (ok_in _ _ parts.2) (raised_is from (caps.Promise p) (Ok parts.0) parts.1).1
      end_stays from (caps.Import i) said is = rw (ok_in _ _ is) (λ e c h. h)
      end_stays from (caps.Pipelined q path) said is = rw (ok_in _ _ is) (λ e c h. h)
      end_stays from (caps.Broken x) said is = rw (ok_in _ _ is) (λ e c h. h)

  all_stand : (table : List Cap) (from : State) (said : List Descriptor × State) → from.values ≡ s.values → WritesDescriptors from table (Ok said) → ExportsStay said.1 turn.after
      → AllZip (StandsFor turn) said.0 table
  all_stand [] from said same is stay = rw (ok_in _ _ is) tt
  all_stand (cap ∷ table) from said same is stay =
      let first = then_out {A = Descriptor × State} {B = List Descriptor × State} (WritesDescriptor from cap) _ said is in
      let rest = then_out {A = List Descriptor × State} {B = List Descriptor × State} (WritesDescriptors first.0.1 table) _ said first.2 in
      let done = ok_in _ _ rest.2 in
      let only = end_only from first.1.0 first.0 first.1.2 in
      let values = ap (λ x. x.values) only ∙ same in
      let stay_on : ExportsStay rest.0.1 turn.after = subst (λ d. ExportsStay d.1 turn.after) done stay in
      let comes : ResolvesTo s.values cap first.1.0 = subst (λ v. ResolvesTo v cap first.1.0) same first.1.1 in
      let here = end_stands cap first.1.0 from first.0 comes first.1.2 (stay_both first.0.1 rest.0.1 turn.after (all_stay table first.0.1 rest.0 values rest.1) stay_on) in
      rw (done) (here.0, all_stand table first.0.1 rest.0 values rest.1 stay_on)

  pub bears : (outcome : Outcome) (said : Returned × State) → Returns s outcome (Ok said) → ExportsStay said.1 turn.after → Bears turn said.0 outcome
  bears (outcomes.Results content table) said is stay =
      let parts = then_out {A = List Descriptor × State} {B = Returned × State} (WritesDescriptors s table) _ said is in
      let done = ok_in _ _ parts.2 in
      let stay_on : ExportsStay parts.0.1 turn.after = subst (λ d. ExportsStay d.1 turn.after) done stay in
      rw (done) (parts.0.0, refl, all_stand table s parts.0 refl parts.1 stay_on)
  bears (outcomes.Failed x) said is stay = ap (λ d. d.0) (ok_in _ _ is)
  bears outcomes.Canceled said is stay = ap (λ d. d.0) (ok_in _ _ is)

-- exports stay where tied promises are settled
resolved_stay : (old : State) (last : Cap) (said : Resolution × State) → ResolvesEnd old last (Ok said) → ExportsStay old said.1
resolved_stay old caps.None said is = let parts = then_out {A = Descriptor × State} {B = Resolution × State} (WritesEnd old caps.None) _ said is in rw (ok_in _ _ parts.2, ok_in _ _ parts.1) (λ e c h. h)
resolved_stay old (caps.Object k) said is =
    let parts = then_out {A = Descriptor × State} {B = Resolution × State} (WritesEnd old (caps.Object k)) _ said is in
    let raises = then_out {A = ℕ × State} {B = Descriptor × State} (Raise old (caps.Object k)) _ parts.0 parts.1 in
    rw (ok_in _ _ parts.2, ok_in _ _ raises.2) (raised_is old (caps.Object k) (Ok raises.0) raises.1).1
resolved_stay old (caps.Promise p) said is =
    let parts = then_out {A = Descriptor × State} {B = Resolution × State} (WritesEnd old (caps.Promise p)) _ said is in
    let raises = then_out {A = ℕ × State} {B = Descriptor × State} (Raise old (caps.Promise p)) _ parts.0 parts.1 in
    rw (ok_in _ _ parts.2, ok_in _ _ raises.2) (raised_is old (caps.Promise p) (Ok raises.0) raises.1).1
resolved_stay old (caps.Import i) said is = let parts = then_out {A = Descriptor × State} {B = Resolution × State} (WritesEnd old (caps.Import i)) _ said is in rw (ok_in _ _ parts.2, ok_in _ _ parts.1) (λ e c h. h)
resolved_stay old (caps.Pipelined q path) said is = let parts = then_out {A = Descriptor × State} {B = Resolution × State} (WritesEnd old (caps.Pipelined q path)) _ said is in rw (ok_in _ _ parts.2, ok_in _ _ parts.1) (λ e c h. h)
resolved_stay old (caps.Broken x) said is = rw (ok_in _ _ is) (λ e c h. h)

tells_stay : (old : State) (p : ℕ) (last : Cap) (done : Done) → Tells old p last (Ok done) → ExportsStay old done.1
tells_stay old p last done (inl (none, is)) = rw (ok_in _ _ is) (λ e c h. h)
tells_stay old p last done (inr (e, is_export, is)) =
    let parts = then_out {A = Resolution × State} {B = Done} (ResolvesEnd old last) _ done is in
    rw (ok_in _ _ parts.2) (resolved_stay old last parts.0 parts.1)

pub tied_stay : (tied : List Tied) (s : State) (outcome : Outcome) (done : Done) → SettleTied s outcome tied (Ok done) → ExportsStay s done.1
tied_stay [] s outcome done is = rw (ok_in _ _ is) (λ e c h. h)
tied_stay (tied ∷ more) s outcome done is =
    let first = then_out {A = Done} {B = Done} (Settle s tied.promise (cap_at outcome tied.path)) _ done is in
    let rest = then_out {A = Done} {B = Done} (SettleTied first.0.1 outcome more) _ done first.2 in
    let last = first.1.0 in
    let here = tells_stay (settled s tied.promise (value_for tied.promise last (cap_at outcome tied.path))) tied.promise (last_for tied.promise last) first.0 first.1.2 in
    rw (ok_in _ _ rest.2) (stay_both s first.0.1 rest.0.1 here (tied_stay more first.0.1 outcome rest.0 rest.1))

-- and settling them tells no outcome
pub tied_quiet : (tied : List Tied) (s : State) (outcome : Outcome) (done : Done) → SettleTied s outcome tied (Ok done) → AreQuiet done.0
tied_quiet [] s outcome done is = rw (ok_in _ _ is) quiet_none
tied_quiet (tied ∷ more) s outcome done is =
    let first = then_out {A = Done} {B = Done} (Settle s tied.promise (cap_at outcome tied.path)) _ done is in
    let rest = then_out {A = Done} {B = Done} (SettleTied first.0.1 outcome more) _ done first.2 in
    let last = first.1.0 in
    let here = told_only (settled s tied.promise (value_for tied.promise last (cap_at outcome tied.path))) tied.promise (last_for tied.promise last) first.0 first.1.2 in
    rw (ok_in _ _ rest.2) (quiet_both first.0.0 rest.0.0 here.1 (tied_quiet more first.0.1 outcome rest.0 rest.1))

-- An answer that is given is told by a Return.
pub answer_tells : (turn : Turn) (s : State) (a : ℕ) (outcome : Outcome) (kept : AnswerEntry) (stage : Stage) (done : Done) → GiveBy s a outcome kept stage (Ok done)
    → ((said : Returned × State) → Returns s outcome (Ok said) → ExportsStay said.1 done.1 → Bears turn said.0 outcome)
    → AnswerTold turn a outcome (is_finished stage) (filter is_telling done.0)
answer_tells turn s a outcome kept stages.Open done gives bears =
    let said = then_out {A = Returned × State} {B = Done} (Returns s outcome) _ done gives in
    let mid : State = given said.0.1 a kept outcome said.0.0 in
    let rest = then_out {A = Done} {B = Done} (SettleTied mid outcome kept.tied) _ done said.2 in
    let is = ok_in _ _ rest.2 in
    let quiet = tied_quiet kept.tied mid outcome rest.0 rest.1 in (
      said.0.0,
      ap (λ d. filter is_telling d.0) is ∙ ap (λ told. return_of a said.0.0 ∷ told) quiet.telling,
      bears said.0 said.1 (subst (λ d. ExportsStay said.0.1 d.1) (sym is) (tied_stay kept.tied mid outcome rest.0 rest.1)),
    )
answer_tells turn s a outcome kept stages.Finished done gives bears =
    let rest = then_out {A = Done} {B = Done} (SettleTied (gone s a outcome) outcome kept.tied) _ done gives in
    ap (λ d. filter is_telling d.0) (ok_in _ _ rest.2) ∙ ap (λ told. return_of a returns.Canceled ∷ told) (tied_quiet kept.tied (gone s a outcome) outcome rest.0 rest.1).telling
answer_tells turn s a outcome kept stages.Returned done gives bears = absurd gives
