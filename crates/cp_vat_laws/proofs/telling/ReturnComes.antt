-- A Bootstrap and a Return tell what they give.
use Rattle.std.specs.Prelude.{◌≡◌, ◌⊎◌, refl, ℕ, zero, suc, ◌<◌, ◌==◌, not, Bool, true, false, if◌then◌else◌, List, [], ◌∷◌, ◌++◌, filter, slice_index_or, Option, Some, None, Ok}
use Rattle.std.specs.List.{Contains}
use Rattle.std.specs.FinMap.{get, insert, remove}
use Rattle.std.proofs.Common.{arith, inl, inr, ap, subst, sym, ◌∙◌, true≢false}
use Rattle.std.proofs.lemmas.List.Elements.{Contains-append_cases}
use Rattle.cp_tables.specs.Table.{Table}
use Rattle.cp_tables.specs.Exchange.{new_exchange}
use Rattle.cp_tables.specs.declared.counted.Counted.{Counted}
use Rattle.cp_tables.specs.declared.exchange.Exchange.{Exchange}
use Rattle.cp_tables.specs.declared.exchange.Stage.{Stage}
use Rattle.cp_tables.specs.declared.exchange.Stage.TheVariants as stages
use Rattle.cp_messages.specs.declared.message.Message.TheVariants as messages
use Rattle.cp_messages.specs.declared.returned.Return.{Return}
use Rattle.cp_messages.specs.declared.returned.Returned.{Returned}
use Rattle.cp_refs.specs.At.{cap_at}
use Rattle.cp_refs.specs.Route.{Way, ends, leads, missing, promise_way, question_way, way}
use Rattle.cp_refs.specs.Values.{ValueMaps}
use Rattle.cp_refs.specs.declared.cap.Cap.{Cap}
use Rattle.cp_refs.specs.declared.cap.Cap.TheVariants as caps
use Rattle.cp_refs.specs.declared.call.Origin.TheVariants as origins
use Rattle.cp_refs.specs.declared.outcome.Outcome.{Outcome}
use Rattle.cp_refs.specs.declared.values.QuestionState.{QuestionState}
use Rattle.cp_vat_machine.specs.State.{State, none_over, with_exports}
use Rattle.cp_vat_machine.specs.Then.{Done, Then, fault_if}
use Rattle.cp_vat_machine.specs.Capacity.{has_capacity}
use Rattle.cp_vat_machine.specs.Writing.{ResolvesTo, end_by, end_within}
use Rattle.cp_vat_machine.specs.Receiving.{release_exports}
use Rattle.cp_vat_machine.specs.Give.{settled, value_for, last_for, Settle, SettleTied, Returns, given, gone, GiveBy, GiveAnswer, GiveOwnBy, GiveOwn, without_question}
use Rattle.cp_vat_machine.specs.Go.{finish_of}
use Rattle.cp_vat_machine.specs.Answering.{with_answer, bootstrap_outcome, is_answering, OnBootstrap}
use Rattle.cp_vat_machine.specs.Asking.{ReceivesReturned, Settles, ReturnBy, is_asked, ReturnOf, OnReturn}
use Rattle.cp_vat_machine.specs.Doing.{is_settled}
use Rattle.cp_vat_machine.specs.Trace.{Turn}
use Rattle.cp_vat_machine.specs.Telling.{Fulfillment, asked_for, Brings, AskedGives, LeadsBy, LeadsWithin, LeadsTo, is_telling, was_finished, OriginTold, FulfillmentTold}
use Rattle.cp_vat_machine.specs.declared.effect.Effect.{Effect}
use Rattle.cp_vat_machine.specs.declared.entry.AnswerEntry.{AnswerEntry}
use Rattle.cp_vat_machine.specs.declared.entry.QuestionEntry.{QuestionEntry}
use Rattle.cp_vat_machine.specs.declared.entry.Tied.{Tied}
use Rattle.cp_vat_machine.specs.declared.event.Event.TheVariants as events
use Rattle.cp_vat_machine.specs.declared.event.Value.TheVariants as values
use Rattle.cp_vat_machine.specs.declared.fault.PeerFault.TheVariants as faults
use Rattle.cp_vat_laws.specs.Within.{Within}
use Rattle.cp_vat_machine.proofs.Basics.{some_out, none_out, is_equal, is_itself, ok_in, ok_out, then_out, unless_out, put_at, gone_at}
use Rattle.cp_vat_laws.proofs.order.Settle.{told_only}
use Rattle.cp_vat_laws.proofs.order.Give.{returned_only}
use Rattle.cp_vat_laws.proofs.order.Enters.{owning}
use Rattle.cp_vat_laws.proofs.order.ReturnComes.{IsTakenIn, taken_in}
use Rattle.cp_vat_laws.proofs.telling.Enters.{none_before}
use Rattle.cp_vat_laws.proofs.telling.Told.{give_tells}
use Rattle.cp_vat_laws.proofs.telling.Bears.{bears}
use Rattle.cp_vat_laws.proofs.telling.ReturnTable.{IsSince, TiedLast, same_finished, returned_taken}
use Rattle.cp_vat_laws.proofs.Tables.{no_faults, front_empty, not_met}
use Rattle.cp_vat_laws.proofs.within.Exports.{AreFewer, fewer_exports, lower_if}

-- What leads on in later values, where what was settled was so before, leads on in those before.
abbrev next_of : Way → Option Cap
next_of (leads c) = Some c
next_of other = None

module _ (values new : ValueMaps) (promises : (p : ℕ) (v : Cap) → get new.promises p ≡ Some (Some v) → get values.promises p ≡ Some (Some v))
    (questions : (q : ℕ) (x : QuestionState) → get new.questions q ≡ Some x → get values.questions q ≡ Some x) where
  promise_back : (p : ℕ) (o : Option (Option Cap)) (next : Cap) → get new.promises p ≡ o → next_of (promise_way p o) ≡ Some next → way values (caps.Promise p) ≡ leads next
  promise_back p None next is e = none_out e
  promise_back p (Some None) next is e = none_out e
  promise_back p (Some (Some v)) next is e = rw (promises p v is) (ap (λ c. leads c) (some_out e))

  lead_is : (w : Way) (next : Cap) → next_of w ≡ Some next → w ≡ leads next
  lead_is (ends r) next e = none_out e
  lead_is (leads c) next e = ap (λ c. leads c) (some_out e)
  lead_is missing next e = none_out e

  question_back : (q : ℕ) (path : List ℕ) (o : Option QuestionState) (next : Cap) → get new.questions q ≡ o → next_of (question_way q path o) ≡ Some next
      → way values (caps.Pipelined q path) ≡ leads next
  question_back q path None next is e = none_out e
  question_back q path (Some x) next is e = rw (questions q x is) (lead_is (question_way q path (Some x)) next e)

  way_back : (c next : Cap) → next_of (way new c) ≡ Some next → way values c ≡ leads next
  way_back caps.None next e = none_out e
  way_back (caps.Object k) next e = none_out e
  way_back (caps.Promise p) next e = promise_back p (get new.promises p) next refl e
  way_back (caps.Import i) next e = none_out e
  way_back (caps.Pipelined q path) next e = question_back q path (get new.questions q) next refl e
  way_back (caps.Broken x) next e = none_out e

  back_by : (n : ℕ) (c last : Cap) (w : Way) → ((next : Cap) → end_within n new next ≡ Some last → LeadsTo values next last) → way new c ≡ w
      → end_by (λ next. end_within n new next) c w ≡ Some last → LeadsTo values c last
  back_by n c last (ends r) more is e = (0, some_out e)
  back_by n c last (leads next) more is e =
      let there = more next e in
      (suc there.0, subst (λ w. LeadsBy (λ next. LeadsWithin there.0 values next last) w) (sym (way_back c next (ap next_of is))) there.1)
  back_by n c last missing more is e = none_out e

  back_within : (n : ℕ) (c last : Cap) → end_within n new c ≡ Some last → LeadsTo values c last
  back_within zero c last e = none_out e
  back_within (suc n) c last e = back_by n c last (way new c) (λ next k. back_within n next last k) refl e

  pub back_leads : (c last : Cap) → ResolvesTo new c last → LeadsTo values c last
  back_leads c last h = back_within h.0 c last h.1

-- A Bootstrap is answered.
abbrev pub bootstrap_turn : State → ℕ → List Effect → State → Turn
bootstrap_turn old a first mid = owning (events.Receive (messages.Bootstrap (record { question_id = a }))) values.Nothing old first mid

pub bootstrap_tells : (old : State) (a : ℕ) (first : List Effect) (mid : State) → OnBootstrap old a (Ok (first, mid))
    → OriginTold (bootstrap_turn old a first mid) (origins.Answer a) (bootstrap_outcome old.bootstrap) (filter is_telling first)
bootstrap_tells old a first mid does =
    let U = fault_if (is_answering old a) faults.QuestionInUse in
    let R = fault_if (not (has_capacity old.entries.answers)) faults.TableFull in
    let G = GiveAnswer (with_answer old a None) a (bootstrap_outcome old.bootstrap) in
    let unused = not_met (is_answering old a) faults.QuestionInUse (front_empty U R (no_faults {A = Done} (U ++ R) G (first, mid) does)) in
    let between : State = with_answer old a None in
    let entry : Exchange AnswerEntry = new_exchange (record { ticket = None; is_delivered = false; mentions = []; tied = [] }) in
    let is : get between.entries.answers a ≡ Some entry = put_at old.entries.answers a a entry true (is_itself a) in
    let turn = bootstrap_turn old a first mid in
    give_tells turn between (origins.Answer a) (bootstrap_outcome old.bootstrap) (first, mid) (unless_out {A = Done} (U ++ R) G (first, mid) does)
    (none_before (get old.entries.answers a) unused ∙ sym (ap was_finished is))
    (λ said returns stay.
    bears turn between (back_leads old.values between.values (λ p v at. at) (λ q x at. at)) (λ p open_. ap is_settled open_) (bootstrap_outcome old.bootstrap) said returns stay)

-- where tied promises are settled, entries stay, and each of them is settled
tells_entries : (s : State) (p : ℕ) (value : Cap) (done : Done) → Settle s p value (Ok done) → (done.1.entries ≡ s.entries)
    × ((q : ℕ) → is_settled (get s.values.promises q) ≡ true → is_settled (get done.1.values.promises q) ≡ true) × (is_settled (get done.1.values.promises p) ≡ true)
tells_entries s p value done (last, comes, tells) =
    let v : Cap = value_for p last value in
    let only = (told_only (settled s p v) p (last_for p last) done tells).0 in (
      ap (λ x. x.entries) only,
      λ q is. ap (λ x. is_settled (get x.values.promises q)) only ∙ by v q (p == q) refl is,
      ap (λ x. is_settled (get x.values.promises p)) only ∙ ap is_settled (put_at s.values.promises p p (Some v) true (is_itself p)),
    )
  where
    by : (v : Cap) (q : ℕ) (b : Bool) → (p == q) ≡ b → is_settled (get s.values.promises q) ≡ true → is_settled (get (insert s.values.promises p (Some v)) q) ≡ true
    by v q true e is = ap is_settled (put_at s.values.promises p q (Some v) true e)
    by v q false e is = ap is_settled (put_at s.values.promises p q (Some v) false e) ∙ is

single_is : (tied x : Tied) (k : ℕ) → k < 1 → slice_index_or (tied ∷ []) k x ≡ x → tied ≡ x
single_is tied x zero low e = e
single_is tied x (suc k) low e = absurd (never low)
  where
    never : suc k < 1 → ⊥
    never low = omega (arith, low)

tied_settles : (tied : List Tied) (s : State) (outcome : Outcome) (done : Done) → SettleTied s outcome tied (Ok done) → (done.1.entries ≡ s.entries)
    × ((q : ℕ) → is_settled (get s.values.promises q) ≡ true → is_settled (get done.1.values.promises q) ≡ true)
    × ((x : Tied) → Contains tied x → is_settled (get done.1.values.promises x.promise) ≡ true)
tied_settles [] s outcome done is = rw (ok_in _ _ is) (refl, λ q e. e, λ x has. absurd (none_in has.0 has.1))
  where
    none_in : (k : ℕ) → k < 0 → ⊥
    none_in k low = omega (arith, low)
tied_settles (tied ∷ more) s outcome done is =
    let first = then_out {A = Done} {B = Done} (Settle s tied.promise (cap_at outcome tied.path)) _ done is in
    let rest = then_out {A = Done} {B = Done} (SettleTied first.0.1 outcome more) _ done first.2 in
    let here = tells_entries s tied.promise (cap_at outcome tied.path) first.0 first.1 in
    let there = tied_settles more first.0.1 outcome rest.0 rest.1 in
    rw (ok_in _ _ rest.2) (
      there.0 ∙ here.0,
      λ q e. there.1 q (here.1 q e),
      λ x has. by first.0.1 rest.0.1 here.2 there.1 there.2 x (Contains-append_cases (tied ∷ []) more x has),
    )
  where
    by : (mid last : State) → is_settled (get mid.values.promises tied.promise) ≡ true
        → ((q : ℕ) → is_settled (get mid.values.promises q) ≡ true → is_settled (get last.values.promises q) ≡ true)
        → ((x : Tied) → Contains more x → is_settled (get last.values.promises x.promise) ≡ true)
        → (x : Tied) → Contains (tied ∷ []) x ⊎ Contains more x → is_settled (get last.values.promises x.promise) ≡ true
    by mid last set stays deeper x (inl one) = subst (λ t. is_settled (get last.values.promises t.promise) ≡ true) (single_is tied x one.0 one.1 one.2) (stays tied.promise set)
    by mid last set stays deeper x (inr other) = deeper x other

-- so a promise that is open after an answer that was given is tied to another one
last_by : (s : State) (a : ℕ) (outcome : Outcome) (entry : Exchange AnswerEntry) (done : Done) → get s.entries.answers a ≡ Some entry
    → ((b : ℕ) → (a == b) ≡ false → get done.1.entries.answers b ≡ get s.entries.answers b)
    → ((x : Tied) → Contains entry.kept.tied x → is_settled (get done.1.values.promises x.promise) ≡ true) → TiedLast s done.1
last_by s a outcome entry done is others set b was x at has open_ = by (a == b) refl
  where
    by : (c : Bool) → (a == b) ≡ c → (later : Exchange AnswerEntry) × (get done.1.entries.answers b ≡ Some later) × Contains later.kept.tied x
    by true e =
        let same : was ≡ entry = some_out (sym at ∙ ap (λ n. get s.entries.answers n) (sym (is_equal a b e)) ∙ is) in
        absurd (true≢false (sym (set x (subst (λ w. Contains w.kept.tied x) same has)) ∙ ap is_settled open_))
    by false e = (was, others b e ∙ at, has)

give_last : (s : State) (a : ℕ) (outcome : Outcome) (entry : Exchange AnswerEntry) (stage : Stage) (done : Done) → get s.entries.answers a ≡ Some entry
    → GiveBy s a outcome entry.kept stage (Ok done) → TiedLast s done.1
give_last s a outcome entry stages.Open done is gives =
    let said = then_out {A = Returned × State} {B = Done} (Returns s outcome) _ done gives in
    let mid : State = given said.0.1 a entry.kept outcome said.0.0 in
    let rest = then_out {A = Done} {B = Done} (SettleTied mid outcome entry.kept.tied) _ done said.2 in
    let only = returned_only s outcome said.0 said.1 in
    let set = tied_settles entry.kept.tied mid outcome rest.0 rest.1 in
    let same = ap (λ d. d.1) (ok_in _ _ rest.2) in
    last_by s a outcome entry done is
    (λ b e. ap (λ x. get x.entries.answers b) same ∙ ap (λ x. get x.answers b) set.0 ∙ put_at said.0.1.entries.answers a b _ false e ∙ ap (λ x. get x.entries.answers b) only)
    (λ x has. ap (λ t. is_settled (get t.values.promises x.promise)) same ∙ set.2 x has)
give_last s a outcome entry stages.Finished done is gives =
    let mid : State = gone s a outcome in
    let rest = then_out {A = Done} {B = Done} (SettleTied mid outcome entry.kept.tied) _ done gives in
    let set = tied_settles entry.kept.tied mid outcome rest.0 rest.1 in
    let same = ap (λ d. d.1) (ok_in _ _ rest.2) in
    last_by s a outcome entry done is
    (λ b e. ap (λ x. get x.entries.answers b) same ∙ ap (λ x. get x.answers b) set.0 ∙ gone_at s.entries.answers a b false e)
    (λ x has. ap (λ t. is_settled (get t.values.promises x.promise)) same ∙ set.2 x has)
give_last s a outcome entry stages.Returned done is gives = absurd gives

own_last : (s : State) (q : ℕ) (outcome : Outcome) (stage : Stage) (done : Done) → GiveOwnBy s q outcome stage (Ok done) → TiedLast s done.1
own_last s q outcome stages.Open done gives b was x at has open_ = (was, ap (λ d. get d.1.entries.answers b) (ok_in _ _ gives) ∙ at, has)
own_last s q outcome stages.Finished done gives b was x at has open_ = (was, ap (λ d. get d.1.entries.answers b) (ok_in _ _ gives) ∙ at, has)
own_last s q outcome stages.Returned done gives b was x at has open_ = absurd gives

-- A Return gives what it bears.
abbrev pub return_turn : State → Return → List Effect → State → Turn
return_turn old r first mid = owning (events.Receive (messages.Return r)) values.Nothing old first mid

abbrev pub ReturnTells : State → Return → Option (Exchange QuestionEntry) → Done → Type 0
ReturnTells old r o done =
    (fulfillment : Option Fulfillment) × AskedGives (return_turn old r done.0 done.1) r o fulfillment × FulfillmentTold (return_turn old r done.0 done.1) fulfillment (filter is_telling done.0)

lowered_since : (old : State) (exports : Table (Counted Cap)) → AreFewer old.counts.exports exports → IsSince old (with_exports old exports)
lowered_since old exports fewer =
    record {
      exports =
          λ e entry is.
          let was = (fewer e entry is).1 in
          (was.0.count, was.1 ∙ ap (λ k. Some (record { count = was.0.count; kept = k })) was.2);
      promises = λ p x is. is;
      settled = λ p v is. is;
      answers = refl;
      questions = refl;
      stages = λ a. refl;
    }

unsettled_since : (old s : State) → IsSince old s → (p : ℕ) → get s.values.promises p ≡ Some None → (o : Option (Option Cap)) → get old.values.promises p ≡ o → is_settled o ≡ false
unsettled_since old s since p open_ None is = refl
unsettled_since old s since p open_ (Some None) is = refl
unsettled_since old s since p open_ (Some (Some v)) is = none_out (some_out (sym open_ ∙ since.promises p (Some v) is))

module _ (old : State) (exports : Table (Counted Cap)) (r : Return) (entry : Exchange QuestionEntry) (taken : Outcome × State) (is : get old.entries.questions r.answer_id ≡ Some entry)
    (open_ : entry.stage ≡ stages.Open) (inn : IsTakenIn (with_exports old exports) taken.1) (since0 : IsSince old (with_exports old exports))
    (takes : ReceivesReturned (with_exports old exports) r.returned (Ok taken)) where
  since_of : (first : List Effect) (mid : State) → IsSince old taken.1
  since_of first mid = (returned_taken (return_turn old r first mid) r.returned (with_exports old exports) taken since0 takes).0

  brings : (first : List Effect) (mid : State) → TiedLast taken.1 mid → Brings (return_turn old r first mid) r.returned taken.0
  brings first mid last = (returned_taken (return_turn old r first mid) r.returned (with_exports old exports) taken since0 takes).1 last

  question_same : was_finished (get old.entries.questions r.answer_id) ≡ was_finished (get taken.1.entries.questions r.answer_id)
  question_same = ap (λ t. was_finished (get t r.answer_id)) (sym inn.grows.asked)

  gives_open : (first : List Effect) (mid : State) (fulfillment : Option Fulfillment) (outcome : Outcome) → fulfillment ≡ Some (record { origin = asked_for r.answer_id entry.kept.forwards; outcome = outcome })
      → Brings (return_turn old r first mid) r.returned outcome → AskedGives (return_turn old r first mid) r (Some entry) fulfillment
  gives_open first mid fulfillment outcome same brought = rw (open_) (outcome, same, brought)

  -- what leads on after what was taken in
  leads_back : (s : State) (first : List Effect) (mid : State) → s.values.promises ≡ taken.1.values.promises
      → ((q : ℕ) (x : QuestionState) → get s.values.questions q ≡ Some x → get taken.1.values.questions q ≡ Some x) → (c last : Cap) → ResolvesTo s.values c last → LeadsTo old.values c last
  leads_back s first mid promises questions =
      back_leads old.values s.values (λ p v at. (since_of first mid).settled p v (ap (λ t. get t p) (sym promises) ∙ at))
      (λ q x at. ap (λ t. get t q) (sym (since_of first mid).questions) ∙ questions q x at)

  own_told : (first : List Effect) (mid : State) → entry.kept.forwards ≡ None → GiveOwn taken.1 r.answer_id taken.0 (Ok (first, mid)) → ReturnTells old r (Some entry) (first, mid)
  own_told first mid own gives =
      let turn = return_turn old r first mid in
      let since = since_of first mid in (
        Some (record { origin = origins.Own r.answer_id; outcome = taken.0 }),
        gives_open first mid _ taken.0 (ap (λ f. Some (record { origin = asked_for r.answer_id f; outcome = taken.0 })) (sym own))
            (brings first mid (own_last taken.1 r.answer_id taken.0 gives.0.stage (first, mid) gives.2)),
        give_tells turn taken.1 (origins.Own r.answer_id) taken.0 (first, mid) gives question_same
            (λ said returns stay.
            bears turn taken.1 (leads_back taken.1 first mid refl (λ q x at. at)) (λ p op. unsettled_since old taken.1 since p op (get old.values.promises p) refl) taken.0 said returns
            stay),
      )

  left_question : (q : ℕ) (b : Bool) → (r.answer_id == q) ≡ b → (x : QuestionState) → get (remove taken.1.values.questions r.answer_id) q ≡ Some x → get taken.1.values.questions q ≡ Some x
  left_question q true e x at = none_out (sym (gone_at taken.1.values.questions r.answer_id q true e) ∙ at)
  left_question q false e x at = sym (gone_at taken.1.values.questions r.answer_id q false e) ∙ at

  forwarded_told : (a : ℕ) (done : Done) → entry.kept.forwards ≡ Some a → GiveAnswer (without_question taken.1 r.answer_id) a taken.0 (Ok done)
      → ReturnTells old r (Some entry) (finish_of r.answer_id false ∷ done.0, done.1)
  forwarded_told a done forwards gives =
      let first = finish_of r.answer_id false ∷ done.0 in
      let s : State = without_question taken.1 r.answer_id in
      let turn = return_turn old r first done.1 in
      let since = since_of first done.1 in (
        Some (record { origin = origins.Answer a; outcome = taken.0 }),
        gives_open first done.1 _ taken.0 (ap (λ f. Some (record { origin = asked_for r.answer_id f; outcome = taken.0 })) (sym forwards))
            (brings first done.1 (give_last s a taken.0 gives.0 gives.0.stage done gives.1 gives.2)),
        give_tells turn s (origins.Answer a) taken.0 done gives (same_finished (get old.entries.answers a) (get taken.1.entries.answers a) (sym (since.stages a)))
            (λ said returns stay.
            bears turn s (leads_back s first done.1 refl (λ q x at. left_question q (r.answer_id == q) refl x at))
            (λ p op. unsettled_since old taken.1 since p op (get old.values.promises p) refl) taken.0 said returns stay),
      )

  settles_told : (forwards : Option ℕ) (done : Done) → entry.kept.forwards ≡ forwards → Settles taken.1 r.answer_id forwards taken.0 (Ok done) → ReturnTells old r (Some entry) done
  settles_told None done own does = own_told done.0 done.1 own does
  settles_told (Some a) done forwards does =
      let parts = then_out {A = Done} {B = Done} (GiveAnswer (without_question taken.1 r.answer_id) a taken.0) _ done does in
      subst (λ d. ReturnTells old r (Some entry) d) (sym (ok_in _ _ parts.2)) (forwarded_told a parts.0 forwards parts.1)

return_by : (old : State) (exports : Table (Counted Cap)) (r : Return) (entry : Exchange QuestionEntry) (stage : Stage) (done : Done) → Within (with_exports old exports) None []
    → old.waiting.over ≡ none_over → IsSince old (with_exports old exports) → get old.entries.questions r.answer_id ≡ Some entry → entry.stage ≡ stage
    → ReturnBy (with_exports old exports) r entry.kept stage (Ok done) → ReturnTells old r (Some entry) done
return_by old exports r entry stages.Open done w none since is at does =
    let parts = then_out {A = Outcome × State} {B = Done} (ReceivesReturned (with_exports old exports) r.returned) _ done does in
    settles_told old exports r entry parts.0 is at (taken_in (with_exports old exports) r.returned parts.0 w none parts.1) since parts.1 entry.kept.forwards done refl parts.2
return_by old exports r entry stages.Finished done w none since is at does = (None, rw (at) refl, ap (λ d. filter is_telling d.0) (ok_in _ _ does))
return_by old exports r entry stages.Returned done w none since is at does = absurd does

return_of : (old : State) (r : Return) (o : Option (Exchange QuestionEntry)) (done : Done) → Within old None [] → old.waiting.over ≡ none_over → get old.entries.questions r.answer_id ≡ o
    → ReturnOf old r o (Ok done) → ReturnTells old r o done
return_of old r None done w none is does = ok_out does
return_of old r (Some entry) done w none is does =
    let F = fault_if (not (is_asked entry.kept.is_sent entry.stage)) faults.UnknownQuestion in
    let parts =
    then_out {A = Table (Counted Cap)} {B = Done} (λ exports. exports ≡ (if r.release_param_caps then release_exports old.counts.exports entry.kept.mentions else Ok old.counts.exports)) _ done
    (unless_out {A = Done} F
    (Then (λ exports. exports ≡ (if r.release_param_caps then release_exports old.counts.exports entry.kept.mentions else Ok old.counts.exports))
    (λ exports. ReturnBy (with_exports old exports) r entry.kept entry.stage)) done does) in
    let fewer = lower_if r.release_param_caps old.counts.exports parts.0 entry.kept.mentions w.counts parts.1 in
    return_by old parts.0 r entry entry.stage done (fewer_exports w parts.0 fewer) none (lowered_since old parts.0 fewer) is refl parts.2

pub return_tells : (old : State) (r : Return) (first : List Effect) (mid : State) → Within old None [] → old.waiting.over ≡ none_over → OnReturn old r (Ok (first, mid))
    → ReturnTells old r (get old.entries.questions r.answer_id) (first, mid)
return_tells old r first mid w none does = return_of old r (get old.entries.questions r.answer_id) (first, mid) w none refl does
