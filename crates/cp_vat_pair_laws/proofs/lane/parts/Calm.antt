-- Parts of an event that leave each reference of a vat, its mark and the gates that are over as they are.
use Rattle.std.specs.Prelude.{◌≡◌, refl, ℕ, ◌==◌, Bool, true, false, List, [], ◌∷◌, ◌++◌, Option, Some, None, option_map, IsTrue, Ok}
use Rattle.std.specs.List.{list_any}
use Rattle.std.specs.FinMap.{get, insert}
use Rattle.std.proofs.Common.{inl, inr, ap, sym, ◌∙◌}
use Rattle.cp_tables.specs.declared.exchange.Exchange.{Exchange}
use Rattle.cp_tables.specs.declared.exchange.Stage.{Stage}
use Rattle.cp_tables.specs.declared.exchange.Stage.TheVariants as stages
use Rattle.cp_messages.specs.declared.resolve.Resolution.{Resolution}
use Rattle.cp_messages.specs.declared.returned.Returned.{Returned}
use Rattle.cp_messages.specs.declared.returned.Returned.TheVariants as returns
use Rattle.cp_refs.specs.At.{cap_at}
use Rattle.cp_refs.specs.declared.cap.Cap.{Cap}
use Rattle.cp_refs.specs.declared.call.Origin.{Origin}
use Rattle.cp_refs.specs.declared.call.Origin.TheVariants as origins
use Rattle.cp_refs.specs.declared.outcome.Outcome.{Outcome}
use Rattle.cp_refs.specs.declared.route.Gate.{Gate}
use Rattle.cp_refs.specs.declared.route.Gate.TheVariants as gates
use Rattle.cp_vat_machine.specs.State.{State, gave, with_exports}
use Rattle.cp_vat_machine.specs.Then.{Done}
use Rattle.cp_vat_machine.specs.Give.{resolve_of, ResolvesEnd, Tells, settled, value_for, last_for, Settle, SettleTied, Returns, given, gone, return_of, GiveBy, GiveAnswer}
use Rattle.cp_vat_machine.specs.Go.{PendingCall, held_at, delivered}
use Rattle.cp_vat_machine.specs.Local.{is_wire}
use Rattle.cp_vat_machine.specs.declared.effect.Effect.{Effect}
use Rattle.cp_vat_machine.specs.declared.entry.AnswerEntry.{AnswerEntry}
use Rattle.cp_vat_machine.specs.declared.entry.Tied.{Tied}
use Rattle.cp_vat_machine.proofs.Basics.{some_out, none_out, ok_in, then_out, is_equal, is_itself, put_at}
use Rattle.cp_vat_laws.specs.Within.{Within}
use Rattle.cp_vat_pair_laws.specs.Ledger.{opens}
use Rattle.cp_vat_pair_laws.specs.VatPair.{messages_sent}
use Rattle.cp_vat_pair_laws.specs.Naming.{is_loop}
use Rattle.cp_vat_pair_laws.specs.Turns.{AreOpen}
use Rattle.cp_vat_pair_laws.proofs.counts.rules.TwoParts.{sent_both}
use Rattle.cp_vat_pair_laws.proofs.still.Grows.{any_none}
use Rattle.cp_vat_pair_laws.proofs.still.Give.{open_same, still_open}
use Rattle.cp_vat_pair_laws.proofs.lane.parts.Silent.{resolves_only, returns_only}

-- Such a part of an event.
pub record Calm (old : State) (effects : List Effect) (new : State) : Type 0 where
  pub imports : new.values.imports ≡ old.values.imports
  pub questions : new.values.questions ≡ old.values.questions
  pub marks : new.marks ≡ old.marks
  pub gave_ : (gate : Gate) (cap : Cap) → gave old.waiting.over gate ≡ Some cap → gave new.waiting.over gate ≡ Some cap
  pub no_open : (q : ℕ) → IsTrue (is_wire (get old.values.questions q)) → list_any (opens q) (messages_sent effects) ≡ false
  pub no_loop : (n : ℕ) → list_any (is_loop n) (messages_sent effects) ≡ false

pub calm_none : (s : State) → Calm s [] s
calm_none s = record { imports = refl; questions = refl; marks = refl; gave_ = λ gate cap is. is; no_open = λ q is. refl; no_loop = λ n. refl }

pub calm_both : (old mid new : State) (first more : List Effect) → Calm old first mid → Calm mid more new → Calm old (first ++ more) new
calm_both old mid new first more one two =
    record {
      imports = two.imports ∙ one.imports;
      questions = two.questions ∙ one.questions;
      marks = two.marks ∙ one.marks;
      gave_ = λ gate cap is. two.gave_ gate cap (one.gave_ gate cap is);
      no_open = λ q is.
          rw
          (sent_both first more)
          (any_none (opens q) (messages_sent first) (messages_sent more) (one.no_open q is)
          (two.no_open q (ap (λ m. is_wire (get m q)) one.questions ∙ is)));
      no_loop = λ n. rw (sent_both first more) (any_none (is_loop n) (messages_sent first) (messages_sent more) (one.no_loop n) (two.no_loop n));
    }

-- what changes exports alone
pub calm_only : (old new : State) (effects : List Effect) → new ≡ with_exports old new.counts.exports
    → ((q : ℕ) → IsTrue (is_wire (get old.values.questions q)) → list_any (opens q) (messages_sent effects) ≡ false)
    → ((n : ℕ) → list_any (is_loop n) (messages_sent effects) ≡ false) → Calm old effects new
calm_only old new effects only opens_ loops =
    record {
      imports = ap (λ s. s.values.imports) only;
      questions = ap (λ s. s.values.questions) only;
      marks = ap (λ s. s.marks) only;
      gave_ = λ gate cap is. ap (λ s. gave s.waiting.over gate) only ∙ is;
      no_open = opens_;
      no_loop = loops;
    }

-- No open promise is over.
abbrev pub NoneOpenOver : State → Type 0
NoneOpenOver s = (p : ℕ) → get s.values.promises p ≡ Some None → get s.waiting.over.promises p ≡ None

pub none_open_over : {s : State} {hand : Option Origin} → Within s hand [] → NoneOpenOver s
none_open_over {s = s} h p open_ = by (get s.waiting.over.promises p) refl
  where
    by : (o : Option Cap) → get s.waiting.over.promises p ≡ o → o ≡ None
    by None is = refl
    by (Some value) is = absurd (h.over_promises p value is open_)

-- a promise that is settled
module _ (old : State) (p : ℕ) (v : Cap) (none : get old.waiting.over.promises p ≡ None) where
  promise_gave : (q : ℕ) (cap : Cap) (b : Bool) → (p == q) ≡ b → get old.waiting.over.promises q ≡ Some cap
      → get (insert old.waiting.over.promises p v) q ≡ Some cap
  promise_gave q cap true t is =
      let here : get old.waiting.over.promises p ≡ Some cap = rw (is_equal p q t) is in
      none_out (sym none ∙ here)
  promise_gave q cap false t is = put_at old.waiting.over.promises p q v false t ∙ is

  settled_gave : (gate : Gate) (cap : Cap) → gave old.waiting.over gate ≡ Some cap → gave (settled old p v).waiting.over gate ≡ Some cap
  settled_gave (gates.Answer a path) cap is = is
  settled_gave (gates.Promise q) cap is = promise_gave q cap (p == q) refl is
  settled_gave (gates.Question q path) cap is = is
  settled_gave (gates.Embargo n) cap is = is

  settled_calm : Calm old [] (settled old p v)
  settled_calm = record { imports = refl; questions = refl; marks = refl; gave_ = settled_gave; no_open = λ q is. refl; no_loop = λ n. refl }

tells_calm : (old : State) (p : ℕ) (last : Cap) (done : Done) → Tells old p last (Ok done) → Calm old done.0 done.1
tells_calm old p last done (inl h) = rw (ok_in _ _ h.1) (calm_none old)
tells_calm old p last done (inr h) =
    let parts = then_out {A = Resolution × State} {B = Done} (ResolvesEnd old last) _ done h.2 in
    rw
    (ok_in _ _ parts.2)
    (calm_only old parts.0.1 (resolve_of h.0 parts.0.0 ∷ []) (resolves_only old last parts.0 parts.1) (λ q is. refl) (λ n. refl))

tells_only : (old : State) (p : ℕ) (last : Cap) (done : Done) → Tells old p last (Ok done) → done.1 ≡ with_exports old done.1.counts.exports
tells_only old p last done (inl h) = rw (ok_in _ _ h.1) refl
tells_only old p last done (inr h) =
    let parts = then_out {A = Resolution × State} {B = Done} (ResolvesEnd old last) _ done h.2 in
    rw (ok_in _ _ parts.2) (resolves_only old last parts.0 parts.1)

pub settle_calm : (old : State) (p : ℕ) (value : Cap) (done : Done) → get old.waiting.over.promises p ≡ None → Settle old p value (Ok done) → Calm old done.0 done.1
settle_calm old p value done none (last, comes, tells) =
    let v = value_for p last value in
    let mid : State = settled old p v in
    calm_both old mid done.1 [] done.0 (settled_calm old p v none) (tells_calm mid p (last_for p last) done tells)

-- others stay as they are, and so do the gates that aren't over
record Beside (old : State) (p : ℕ) (new : State) : Type 0 where
  promises : (q : ℕ) → (p == q) ≡ false → get new.values.promises q ≡ get old.values.promises q
  over : (q : ℕ) → (p == q) ≡ false → get new.waiting.over.promises q ≡ get old.waiting.over.promises q
  here : (value : Option Cap) → get new.values.promises p ≡ Some value → value ≡ None → ⊥

settle_beside : (old : State) (p : ℕ) (value : Cap) (done : Done) → Settle old p value (Ok done) → Beside old p done.1
settle_beside old p value done (last, comes, tells) =
    let v = value_for p last value in
    let only = tells_only (settled old p v) p (last_for p last) done tells in
    record {
      promises = λ q t. ap (λ s. get s.values.promises q) only ∙ put_at old.values.promises p q (Some v) false t;
      over = λ q t. ap (λ s. get s.waiting.over.promises q) only ∙ put_at old.waiting.over.promises p q v false t;
      here = λ o is none.
          let at : get done.1.values.promises p ≡ Some (Some v) =
          ap (λ s. get s.values.promises p) only ∙ put_at old.values.promises p p (Some v) true (is_itself p) in
          none_out (sym none ∙ some_out (sym is ∙ at));
    }

beside_over : (old : State) (p : ℕ) (new : State) → Beside old p new → NoneOpenOver old → NoneOpenOver new
beside_over old p new beside none q open_ = by (p == q) refl
  where
    by : (b : Bool) → (p == q) ≡ b → get new.waiting.over.promises q ≡ None
    by true t =
        let at : get new.values.promises p ≡ Some None = rw (is_equal p q t) open_ in
        absurd (beside.here None at refl)
    by false t = beside.over q t ∙ none q (sym (beside.promises q t) ∙ open_)

pub tied_calm : (tied : List Tied) (old : State) (outcome : Outcome) (done : Done) → NoneOpenOver old → AreOpen old.values tied → SettleTied old outcome tied (Ok done)
    → Calm old done.0 done.1
tied_calm [] old outcome done none open_ settles = rw (ok_in _ _ settles) (calm_none old)
tied_calm (tied ∷ more) old outcome done none open_ settles =
    let first = then_out {A = Done} {B = Done} (Settle old tied.promise (cap_at outcome tied.path)) _ done settles in
    let rest = then_out {A = Done} {B = Done} (SettleTied first.0.1 outcome more) _ done first.2 in
    let beside = settle_beside old tied.promise (cap_at outcome tied.path) first.0 first.1 in
    let later = tied_calm more first.0.1 outcome rest.0 (beside_over old tied.promise first.0.1 beside none)
    (still_open old first.0.1 tied.promise more beside.promises open_.1 open_.2) rest.1 in
    rw
    (ok_in _ _ rest.2)
    (calm_both old first.0.1 rest.0.1 first.0.0 rest.0.0
    (settle_calm old tied.promise (cap_at outcome tied.path) first.0 (none tied.promise open_.0) first.1) later)

-- an answer that is given
module _ (s : State) (a : ℕ) (outcome : Outcome) (none : get s.waiting.over.answers a ≡ None) where
  answer_gave : (b : ℕ) (path : List ℕ) (cap : Cap) (t : Bool) → (a == b) ≡ t → option_map (λ o. cap_at o path) (get s.waiting.over.answers b) ≡ Some cap
      → option_map (λ o. cap_at o path) (get (insert s.waiting.over.answers a outcome) b) ≡ Some cap
  answer_gave b path cap true t is =
      let at : get s.waiting.over.answers b ≡ None = rw (← is_equal a b t) none in
      none_out (sym (ap (option_map (λ o. cap_at o path)) at) ∙ is)
  answer_gave b path cap false t is = ap (option_map (λ o. cap_at o path)) (put_at s.waiting.over.answers a b outcome false t) ∙ is

  over_gave : (new : State) → new.waiting.over ≡ record s.waiting.over { answers = insert s.waiting.over.answers a outcome } → (gate : Gate) (cap : Cap)
      → gave s.waiting.over gate ≡ Some cap → gave new.waiting.over gate ≡ Some cap
  over_gave new same (gates.Answer b path) cap is = ap (λ o. gave o (gates.Answer b path)) same ∙ answer_gave b path cap (a == b) refl is
  over_gave new same (gates.Promise p) cap is = ap (λ o. gave o (gates.Promise p)) same ∙ is
  over_gave new same (gates.Question q path) cap is = ap (λ o. gave o (gates.Question q path)) same ∙ is
  over_gave new same (gates.Embargo n) cap is = ap (λ o. gave o (gates.Embargo n)) same ∙ is

answer_by : (old : State) (a : ℕ) (outcome : Outcome) (done : Done) (gives : GiveAnswer old a outcome (Ok done)) → NoneOpenOver old → get old.waiting.over.answers a ≡ None
    → AreOpen old.values gives.0.kept.tied → (stage : Stage) → GiveBy old a outcome gives.0.kept stage (Ok done) → Calm old done.0 done.1
answer_by old a outcome done gives none not_over open_ stages.Open does =
    let kept = gives.0.kept in
    let said = then_out {A = Returned × State} {B = Done} (Returns old outcome) _ done does in
    let mid : State = said.0.1 in
    let new : State = given mid a kept outcome said.0.0 in
    let rest = then_out {A = Done} {B = Done} (SettleTied new outcome kept.tied) _ done said.2 in
    let only = returns_only old outcome said.0 said.1 in
    let first = calm_only old mid (return_of a said.0.0 ∷ []) only (λ q is. refl) (λ n. refl) in
    let here : get mid.waiting.over.answers a ≡ None = ap (λ s. get s.waiting.over.answers a) only ∙ not_over in
    let second : Calm mid [] new =
    record {
      imports = refl;
      questions = refl;
      marks = refl;
      gave_ = over_gave mid a outcome here new refl;
      no_open = λ q is. refl;
      no_loop = λ n. refl;
    } in
    let later : NoneOpenOver new = λ p at. ap (λ s. get s.waiting.over.promises p) only ∙ none p (sym (ap (λ s. get s.values.promises p) only) ∙ at) in
    let last = tied_calm kept.tied new outcome rest.0 later (open_same old.values new.values kept.tied (ap (λ s. s.values.promises) only) open_) rest.1 in
    rw
    (ok_in _ _ rest.2)
    (calm_both old mid rest.0.1 (return_of a said.0.0 ∷ []) rest.0.0 first (calm_both mid new rest.0.1 [] rest.0.0 second last))
answer_by old a outcome done gives none not_over open_ stages.Finished does =
    let kept = gives.0.kept in
    let new : State = gone old a outcome in
    let rest = then_out {A = Done} {B = Done} (SettleTied new outcome kept.tied) _ done does in
    let second : Calm old (return_of a returns.Canceled ∷ []) new =
    record {
      imports = refl;
      questions = refl;
      marks = refl;
      gave_ = over_gave old a outcome not_over new refl;
      no_open = λ q is. refl;
      no_loop = λ n. refl;
    } in
    let last = tied_calm kept.tied new outcome rest.0 none (open_same old.values new.values kept.tied refl open_) rest.1 in
    rw (ok_in _ _ rest.2) (calm_both old new rest.0.1 (return_of a returns.Canceled ∷ []) rest.0.0 second last)
answer_by old a outcome done gives none not_over open_ stages.Returned does = absurd does

pub answer_calm : (old : State) (a : ℕ) (outcome : Outcome) (done : Done) → NoneOpenOver old → get old.waiting.over.answers a ≡ None
    → ((entry : Exchange AnswerEntry) → get old.entries.answers a ≡ Some entry → AreOpen old.values entry.kept.tied) → GiveAnswer old a outcome (Ok done)
    → Calm old done.0 done.1
answer_calm old a outcome done none not_over open_ gives = answer_by old a outcome done gives none not_over (open_ gives.0 gives.1) gives.0.stage gives.2

-- a call that is delivered, waits or is sent
pub delivered_calm : (s : State) (origin : Origin) → Calm s [] (delivered s origin)
delivered_calm s (origins.Answer a) = record { imports = refl; questions = refl; marks = refl; gave_ = λ gate cap is. is; no_open = λ q is. refl; no_loop = λ n. refl }
delivered_calm s (origins.Own q) = record { imports = refl; questions = refl; marks = refl; gave_ = λ gate cap is. is; no_open = λ r is. refl; no_loop = λ n. refl }

pub held_calm : (s : State) (call : PendingCall) (gate : Gate) → Calm s [] (held_at s call gate)
held_calm s call gate = record { imports = refl; questions = refl; marks = refl; gave_ = λ g cap is. is; no_open = λ q is. refl; no_loop = λ n. refl }
