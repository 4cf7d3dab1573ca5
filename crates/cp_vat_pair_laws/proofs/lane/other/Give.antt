-- An outcome that is given at the other end keeps a lane, with the promises that are settled then.
use Rattle.std.specs.Prelude.{◌≡◌, ◌⊎◌, refl, ℕ, ◌+◌, ◌==◌, IfSome, Bool, true, false, List, [], ◌∷◌, option_map, cond, Option, Some, None, Result, Ok, Err}
use Rattle.std.specs.List.{list_any, count_by}
use Rattle.std.specs.FinMap.{get, insert}
use Rattle.std.proofs.Common.{arith, inl, inr, ap, sym, ◌∙◌, true≢false}
use Rattle.std.proofs.lemmas.List.Sums.{sum_by-cons}
use Rattle.cp_tables.specs.declared.exchange.Exchange.{Exchange}
use Rattle.cp_tables.specs.declared.exchange.Stage.{Stage}
use Rattle.cp_tables.specs.declared.exchange.Stage.TheVariants as stages
use Rattle.cp_messages.specs.declared.descriptor.Descriptor.{Descriptor}
use Rattle.cp_messages.specs.declared.resolve.Resolution.{Resolution}
use Rattle.cp_messages.specs.declared.returned.Returned.{Returned}
use Rattle.cp_refs.specs.At.{cap_at}
use Rattle.cp_refs.specs.declared.cap.Cap.{Cap}
use Rattle.cp_refs.specs.declared.cap.Cap.TheVariants as caps
use Rattle.cp_refs.specs.declared.call.Origin.{Origin}
use Rattle.cp_refs.specs.declared.call.Origin.TheVariants as origins
use Rattle.cp_refs.specs.declared.outcome.Outcome.{Outcome}
use Rattle.cp_refs.specs.declared.outcome.Outcome.TheVariants as outcomes
use Rattle.cp_refs.specs.declared.route.Gate.TheVariants as gates
use Rattle.cp_refs.specs.declared.values.QuestionState.{QuestionState}
use Rattle.cp_vat_machine.specs.State.{State, gave, with_exports}
use Rattle.cp_vat_machine.specs.Then.{Done}
use Rattle.cp_vat_machine.specs.Writing.{Raise, counted, counted_out, opened, has_no_capacity, IsExport, WritesEnd, WritesDescriptor, WritesDescriptors}
use Rattle.cp_vat_machine.specs.Give.{ResolvesEnd, Tells, settled, value_for, last_for, Settle, SettleTied, Returns, given, returned_mentions, return_of, GiveBy, question_settled, GiveOwnBy, Give}
use Rattle.cp_vat_machine.specs.Local.{AreOne, tied_to}
use Rattle.cp_vat_machine.specs.declared.effect.Effect.{Effect}
use Rattle.cp_vat_machine.specs.declared.effect.Effect.TheVariants as effects
use Rattle.cp_vat_machine.specs.declared.entry.AnswerEntry.{AnswerEntry}
use Rattle.cp_vat_machine.specs.declared.entry.QuestionEntry.{QuestionEntry}
use Rattle.cp_vat_machine.specs.declared.entry.Tied.{Tied}
use Rattle.cp_vat_machine.specs.declared.fault.PeerFault.{PeerFault}
use Rattle.cp_vat_machine.proofs.Basics.{some_out, none_out, ok_in, then_out, is_equal, put_at, other_number}
use Rattle.cp_vat_laws.proofs.Tables.{there_of}
use Rattle.cp_vat_laws.proofs.order.Settle.{IsOnly, told_only, AreOpen, one_more}
use Rattle.cp_vat_laws.proofs.order.Give.{returned_only, are_open_same, IsUngiven}
use Rattle.cp_vat_pair_laws.specs.VatPair.{messages_sent}
use Rattle.cp_vat_pair_laws.specs.Accounts.{is_finish_noted}
use Rattle.cp_vat_pair_laws.specs.Places.{NoneFinished}
use Rattle.cp_vat_pair_laws.specs.Naming.{is_echo}
use Rattle.cp_vat_pair_laws.specs.Lane.{import_, own_ticket, answer_forwarded}
use Rattle.cp_vat_pair_laws.proofs.still.Grows.{PlacesStay, places_both}
use Rattle.cp_vat_pair_laws.proofs.still.Say.{IsOpenCap, SaidAs, open_end, said_end, said_all, said_places}
use Rattle.cp_vat_pair_laws.proofs.still.Give.{SettledAs, settle_grows, returned_denoted, given_grows, open_last}
use Rattle.cp_vat_pair_laws.proofs.lane.parts.Silent.{Silent, settle_silent, own_silent}
use Rattle.cp_vat_pair_laws.proofs.lane.other.NoCallMoves.{IsNewPlace}
use Rattle.cp_vat_pair_laws.proofs.lane.other.Places.{place_stays, given_place, settled_place}
use Rattle.cp_vat_pair_laws.proofs.lane.other.Chain.{silent_level, OverStays, ExportsFresh, KeptThere, Chain, ended, goes_on, chain_one}

-- What is said for the first time is an object, or an open promise.
abbrev FreshBy : State → State → ℕ → Type 0
FreshBy old new i = get old.counts.exports i ≡ None → (get new.counts.exports i ≡ None) ⊎ IsNewPlace new (import_ i)

abbrev NewAt : State → ℕ → Cap → Type 0
NewAt s i (caps.Promise p) = get s.values.promises p ≡ Some None
NewAt s i (caps.Object k) = Unit {0}
NewAt s i other = ⊥

new_at : (s : State) (i : ℕ) (cap : Cap) → NewAt s i cap → IsExport s i cap → IsNewPlace s (import_ i)
new_at s i (caps.Object k) is export_ = inr (k, export_)
new_at s i (caps.Promise p) is export_ = inl (p, export_, is)
new_at s i caps.None is export_ = absurd is
new_at s i (caps.Import j) is export_ = absurd is
new_at s i (caps.Pipelined q path) is export_ = absurd is
new_at s i (caps.Broken x) is export_ = absurd is

put_fresh : (old : State) (e n : ℕ) (cap : Cap) (i : ℕ) → ((j : ℕ) → NewAt old j cap) → FreshBy old (with_exports old (insert old.counts.exports e (record { count = n; kept = cap }))) i
put_fresh old e n cap i new none = by (e == i) refl
  where
    mid : State
    mid = with_exports old (insert old.counts.exports e (record { count = n; kept = cap }))

    by : (b : Bool) → (e == i) ≡ b → (get (insert old.counts.exports e (record { count = n; kept = cap })) i ≡ None) ⊎ IsNewPlace mid (import_ i)
    by true t = inr (new_at mid i cap (new i) (n, put_at old.counts.exports e i (record { count = n; kept = cap }) true t))
    by false t = inl (put_at old.counts.exports e i (record { count = n; kept = cap }) false t ∙ none)

abbrev RaisedFresh : State → Result (ℕ × State) PeerFault → Type 0
RaisedFresh old (Ok done) = (i : ℕ) → FreshBy old done.1 i
RaisedFresh old (Err fault) = Unit {0}

raised_fresh : (old : State) (cap : Cap) (out : Result (ℕ × State) PeerFault) → ((j : ℕ) → NewAt old j cap) → Raise old cap out → RaisedFresh old out
raised_fresh old cap out new (counted e count is room) = λ i. put_fresh old e (count + 1) cap i new
raised_fresh old cap out new (counted_out e is) = tt
raised_fresh old cap out new (opened e none at) = λ i. put_fresh old e 1 cap i new
raised_fresh old cap out new (has_no_capacity none is) = tt

end_fresh : (old : State) (last : Cap) (said : Descriptor × State) → IsOpenCap old last → WritesEnd old last (Ok said) → (i : ℕ) → FreshBy old said.1 i
end_fresh old caps.None said open_ is i = rw (ok_in _ _ is) (λ none. inl none)
end_fresh old (caps.Object k) said open_ is i =
    let parts = then_out {A = ℕ × State} {B = Descriptor × State} (Raise old (caps.Object k)) _ said is in
    rw (ok_in _ _ parts.2) (raised_fresh old (caps.Object k) (Ok parts.0) (λ j. tt) parts.1 i)
end_fresh old (caps.Promise p) said open_ is i =
    let parts = then_out {A = ℕ × State} {B = Descriptor × State} (Raise old (caps.Promise p)) _ said is in
    rw (ok_in _ _ parts.2) (raised_fresh old (caps.Promise p) (Ok parts.0) (λ j. open_) parts.1 i)
end_fresh old (caps.Import j) said open_ is i = rw (ok_in _ _ is) (λ none. inl none)
end_fresh old (caps.Pipelined q path) said open_ is i = rw (ok_in _ _ is) (λ none. inl none)
end_fresh old (caps.Broken x) said open_ is i = rw (ok_in _ _ is) (λ none. inl none)

place_on : (mid new : State) (i : ℕ) → ((e : ℕ) (c : Cap) → IsExport mid e c → IsExport new e c) → new.values.promises ≡ mid.values.promises → IsNewPlace mid (import_ i)
    → IsNewPlace new (import_ i)
place_on mid new i exports same (inl (p, export_, open_)) = inl (p, exports i (caps.Promise p) export_, ap (λ m. get m p) same ∙ open_)
place_on mid new i exports same (inr (k, export_)) = inr (k, exports i (caps.Object k) export_)

pub all_fresh : (table : List Cap) (old : State) (said : List Descriptor × State) → AreOne old → WritesDescriptors old table (Ok said) → (i : ℕ) → FreshBy old said.1 i
all_fresh [] old said one says i = rw (ok_in _ _ says) (λ none. inl none)
all_fresh (c ∷ table) old said one says i =
    let first = then_out {A = Descriptor × State} {B = List Descriptor × State} (WritesDescriptor old c) _ said says in
    let rest = then_out {A = List Descriptor × State} {B = List Descriptor × State} (WritesDescriptors first.0.1 table) _ said first.2 in
    let here = said_end old first.1.0 first.0 one (open_end old c first.1.0 first.1.1) first.1.2 in
    let there = said_all table first.0.1 rest.0 (here.one_export one) rest.1 in
    rw
    (ok_in _ _ rest.2)
    (λ none. by first.0.1 rest.0.1 (ap (λ s. s.values.promises) there.only) there.exports (end_fresh old first.1.0 first.0 (open_end old c first.1.0 first.1.1) first.1.2 i none) (all_fresh table first.0.1 rest.0 (here.one_export one) rest.1 i))
  where
    by : (mid new : State) → new.values.promises ≡ mid.values.promises → ((e : ℕ) (cap : Cap) → IsExport mid e cap → IsExport new e cap)
        → (get mid.counts.exports i ≡ None) ⊎ IsNewPlace mid (import_ i) → FreshBy mid new i → (get new.counts.exports i ≡ None) ⊎ IsNewPlace new (import_ i)
    by mid new same exports (inl none) more = more none
    by mid new same exports (inr place) more = inr (place_on mid new i exports same place)

-- A promise is settled.
resolved_fresh : (old : State) (last : Cap) (said : Resolution × State) → IsOpenCap old last → ResolvesEnd old last (Ok said) → (i : ℕ) → FreshBy old said.1 i
resolved_fresh old (caps.Broken x) said open_ is i = rw (ok_in _ _ is) (λ none. inl none)
resolved_fresh old caps.None said open_ is i =
    let parts = then_out {A = Descriptor × State} {B = Resolution × State} (WritesEnd old caps.None) _ said is in rw (ok_in _ _ parts.2) (end_fresh old caps.None parts.0 open_ parts.1 i)
resolved_fresh old (caps.Object k) said open_ is i =
    let parts = then_out {A = Descriptor × State} {B = Resolution × State} (WritesEnd old (caps.Object k)) _ said is in rw (ok_in _ _ parts.2) (end_fresh old (caps.Object k) parts.0 open_ parts.1 i)
resolved_fresh old (caps.Promise p) said open_ is i =
    let parts = then_out {A = Descriptor × State} {B = Resolution × State} (WritesEnd old (caps.Promise p)) _ said is in rw (ok_in _ _ parts.2) (end_fresh old (caps.Promise p) parts.0 open_ parts.1 i)
resolved_fresh old (caps.Import j) said open_ is i =
    let parts = then_out {A = Descriptor × State} {B = Resolution × State} (WritesEnd old (caps.Import j)) _ said is in rw (ok_in _ _ parts.2) (end_fresh old (caps.Import j) parts.0 open_ parts.1 i)
resolved_fresh old (caps.Pipelined q path) said open_ is i =
    let parts = then_out {A = Descriptor × State} {B = Resolution × State} (WritesEnd old (caps.Pipelined q path)) _ said is in rw (ok_in _ _ parts.2) (end_fresh old (caps.Pipelined q path) parts.0 open_ parts.1 i)

pub none_in : {X : Type 0} (p : X → Bool) (xs : List X) → count_by p xs ≡ 0 → list_any p xs ≡ false
none_in p [] is = refl
none_in p (x ∷ xs) is = one (p x) refl (none_in p xs)
  where
    all : (b : Bool) → p x ≡ b → cond b 1 0 + count_by p xs ≡ 0
    all b t = rw (← t) (sym (sum_by-cons (λ y. cond (p y) 1 0) x xs) ∙ is)

    none_first : (k : ℕ) → 1 + k ≡ 0 → ⊥
    none_first k e = omega (arith, e)

    rest : (k : ℕ) → 0 + k ≡ 0 → k ≡ 0
    rest k e = omega (arith, e)

    one : (b : Bool) → p x ≡ b → (count_by p xs ≡ 0 → list_any p xs ≡ false) → list_any p (x ∷ xs) ≡ false
    one true t more = absurd (none_first (count_by p xs) (all true t))
    one false t more = rw (t) (more (rest (count_by p xs) (all false t)))

pub no_echoes : (effects : List Effect) → ((n : ℕ) → count_by (is_echo n) (messages_sent effects) ≡ 0) → (n : ℕ) → list_any (is_echo n) (messages_sent effects) ≡ false
no_echoes effects none n = none_in (is_echo n) (messages_sent effects) (none n)

module _ (old : State) (p : ℕ) (value : Cap) (done : Done) (one : AreOne old) (open_ : get old.values.promises p ≡ Some None) (ungiven : get old.waiting.over.promises p ≡ None)
    (settles : Settle old p value (Ok done)) where
  abbrev to : Cap
  to = value_for p settles.0 value

  grows : SettledAs old p done
  grows = settle_grows old p value done one open_ settles

  only : IsOnly (settled old p to) done.1
  only = (told_only (settled old p to) p (last_for p settles.0) done settles.2).0

  over_by : (r : ℕ) (b : Bool) (cap : Cap) → (p == r) ≡ b → get old.waiting.over.promises r ≡ Some cap → get done.1.waiting.over.promises r ≡ Some cap
  over_by r true cap t is = none_out (sym ungiven ∙ ap (λ n. get old.waiting.over.promises n) (is_equal p r t) ∙ is)
  over_by r false cap t is = ap (λ s. get s.waiting.over.promises r) only ∙ put_at old.waiting.over.promises p r to false t ∙ is

  over_on : OverStays old done.1
  over_on (gates.Answer a path) cap is = ap (λ s. gave s.waiting.over (gates.Answer a path)) only ∙ is
  over_on (gates.Promise r) cap is = over_by r (p == r) cap refl is
  over_on (gates.Question q path) cap is = ap (λ s. gave s.waiting.over (gates.Question q path)) only ∙ is
  over_on (gates.Embargo n) cap is = ap (λ s. gave s.waiting.over (gates.Embargo n)) only ∙ is

  fresh_by : Tells (settled old p to) p (last_for p settles.0) (Ok done) → ExportsFresh old done.1
  fresh_by (inl h) i none = rw (ok_in _ _ h.1) (inl none)
  fresh_by (inr h) i none =
      let parts = then_out {A = Resolution × State} {B = Done} (ResolvesEnd (settled old p to) (last_for p settles.0)) _ done h.2 in
      rw
      (ok_in _ _ parts.2)
      (resolved_fresh (settled old p to) (last_for p settles.0) parts.0 (open_last old p value open_ settles.0 (open_end old value settles.0 settles.1)) parts.1 i none)

  pub settle_kept : KeptThere old done.0 done.1
  settle_kept =
      record {
        level = λ here made inbox. silent_level here (record { vat = old; inbox = inbox }) made done.0 done.1 (settle_silent old p value done settles);
        places = grows.grown.places;
        place = settled_place old p value done one open_ settles;
        over = over_on;
        fresh = fresh_by settles.2;
        answers = λ q is. sym (ap (λ s. get s.values.answers q) only) ∙ is;
        no_echo = no_echoes done.0 grows.grown.loops.echoes;
      }

-- So are those that are tied to an answer.
still_open : (old : State) (done : Done) (p : ℕ) (tied : List Tied)
    → ((q : ℕ) → (p == q) ≡ false → (get done.1.values.promises q ≡ get old.values.promises q) × (get done.1.waiting.over.promises q ≡ get old.waiting.over.promises q))
    → tied_to p tied ≡ 0 → AreOpen old tied → AreOpen done.1 tied
still_open old done p [] beside none are = tt
still_open old done p (tied ∷ more) beside none are =
    let parts = by (tied.promise == p) refl in
    let same = beside tied.promise (other_number tied.promise p parts.0) in
    (same.0 ∙ are.0, same.1 ∙ are.1, are.2, still_open old done p more beside parts.1 are.3)
  where
    all : tied_to p (tied ∷ more) ≡ cond (tied.promise == p) 1 0 + tied_to p more
    all = one_more p tied more

    by : (b : Bool) → (tied.promise == p) ≡ b → ((tied.promise == p) ≡ false) × (tied_to p more ≡ 0)
    by true t = absurd (never (tied_to p more) (sym (all ∙ ap (λ c. cond c 1 0 + tied_to p more) t) ∙ none))
      where
        never : (n : ℕ) → 1 + n ≡ 0 → ⊥
        never n e = omega (arith, e)
    by false t = (t, zero_is (tied_to p more) (sym (all ∙ ap (λ c. cond c 1 0 + tied_to p more) t) ∙ none))
      where
        zero_is : (n : ℕ) → 0 + n ≡ 0 → n ≡ 0
        zero_is n e = omega (arith, e)

pub tied_chain : (tied : List Tied) (old : State) (outcome : Outcome) (done : Done) → AreOne old → AreOpen old tied → SettleTied old outcome tied (Ok done)
    → Chain old done.0 done.1
tied_chain [] old outcome done one are settles = rw (ok_in _ _ settles) ended
tied_chain (tied ∷ more) old outcome done one are settles =
    let p = tied.promise in
    let value = cap_at outcome tied.path in
    let first = then_out {A = Done} {B = Done} (Settle old p value) _ done settles in
    let rest = then_out {A = Done} {B = Done} (SettleTied first.0.1 outcome more) _ done first.2 in
    let kept = settle_kept old p value first.0 one are.0 are.1 first.1 in
    rw
    (ok_in _ _ rest.2)
    (goes_on kept (tied_chain more first.0.1 outcome rest.0 (kept.places.one_export one) (still_open old first.0 p more (beside p value first.0 first.1) are.2 are.3) rest.1) refl)
  where
    beside : (p : ℕ) (value : Cap) (first : Done) → Settle old p value (Ok first) → (q : ℕ) → (p == q) ≡ false
        → (get first.1.values.promises q ≡ get old.values.promises q) × (get first.1.waiting.over.promises q ≡ get old.waiting.over.promises q)
    beside p value first settles q other =
        let to = value_for p settles.0 value in
        let only = (told_only (settled old p to) p (last_for p settles.0) first settles.2).0 in (
          ap (λ s. get s.values.promises q) only ∙ put_at old.values.promises p q (Some to) false other,
          ap (λ s. get s.waiting.over.promises q) only ∙ put_at old.waiting.over.promises p q to false other,
        )

-- An answer is given.
returned_fresh : (old : State) (outcome : Outcome) (said : Returned × State) → AreOne old → Returns old outcome (Ok said) → (i : ℕ) → FreshBy old said.1 i
returned_fresh old (outcomes.Results content table) said one is i =
    let parts = then_out {A = List Descriptor × State} {B = Returned × State} (WritesDescriptors old table) _ said is in rw (ok_in _ _ parts.2) (all_fresh table old parts.0 one parts.1 i)
returned_fresh old (outcomes.Failed x) said one is i = rw (ok_in _ _ is) (λ none. inl none)
returned_fresh old outcomes.Canceled said one is i = rw (ok_in _ _ is) (λ none. inl none)

module _ (old : State) (a : ℕ) (entry : Exchange AnswerEntry) (outcome : Outcome) (said : Returned × State) (one : AreOne old) (was : get old.entries.answers a ≡ Some entry)
    (open_ : get old.values.answers a ≡ Some None) (ungiven : get old.waiting.over.answers a ≡ None) (returns_ : Returns old outcome (Ok said)) where
  abbrev mid : State
  mid = given said.1 a entry.kept outcome said.0

  abbrev told_ : List Effect
  told_ = return_of a said.0 ∷ []

  said_as : SaidAs old (returned_mentions said.0) said.1
  said_as = returned_denoted old outcome said one returns_

  said_only : IsOnly old said.1
  said_only = returned_only old outcome said returns_

  given_places : PlacesStay old mid
  given_places =
      places_both (said_places said_as)
      (given_grows said.1 a outcome entry (ap (λ s. get s.entries.answers a) said_only ∙ was) (λ o at. none_out (some_out (sym open_ ∙ sym (ap (λ s. get s.values.answers a) said_only) ∙ at))) said.0).places

  given_over_by : (b : ℕ) (t : Bool) (o : Outcome) → (a == b) ≡ t → get old.waiting.over.answers b ≡ Some o → get mid.waiting.over.answers b ≡ Some o
  given_over_by b true o t is = none_out (sym ungiven ∙ ap (λ n. get old.waiting.over.answers n) (is_equal a b t) ∙ is)
  given_over_by b false o t is = put_at said.1.waiting.over.answers a b outcome false t ∙ ap (λ s. get s.waiting.over.answers b) said_only ∙ is

  answer_on : (b : ℕ) (path : List ℕ) (cap : Cap) (o : Option Outcome) → get old.waiting.over.answers b ≡ o → option_map (λ x. cap_at x path) o ≡ Some cap
      → option_map (λ x. cap_at x path) (get mid.waiting.over.answers b) ≡ Some cap
  answer_on b path cap None is at = none_out at
  answer_on b path cap (Some o) is at = rw (given_over_by b (a == b) o refl is) at

  given_over : OverStays old mid
  given_over (gates.Answer b path) cap is = answer_on b path cap (get old.waiting.over.answers b) refl is
  given_over (gates.Promise r) cap is = ap (λ s. get s.waiting.over.promises r) said_only ∙ is
  given_over (gates.Question q path) cap is = ap (λ s. gave s.waiting.over (gates.Question q path)) said_only ∙ is
  given_over (gates.Embargo n) cap is = ap (λ s. get s.waiting.over.embargoes n) said_only ∙ is

  back_open : (q : ℕ) (t : Bool) → (a == q) ≡ t → get mid.values.answers q ≡ Some None → get old.values.answers q ≡ Some None
  back_open q true t is = none_out (sym (some_out (sym (put_at said.1.values.answers a q (Some outcome) true t) ∙ is)))
  back_open q false t is = sym (ap (λ s. get s.values.answers q) said_only) ∙ sym (put_at said.1.values.answers a q (Some outcome) false t) ∙ is

  given_silent_here : Silent old told_ mid
  given_silent_here =
      record {
        calls = ap (λ s. s.waiting.calls) said_only;
        bearing =
            record {
              tickets = λ q. ap (λ s. own_ticket (get s.entries.questions q)) said_only;
              forwards = λ q. ap (λ s. answer_forwarded (get s.entries.questions q)) said_only;
            };
        no_call = refl;
        no_delivery = refl;
      }

  fresh_on : ExportsFresh old mid
  fresh_on i none = by (returned_fresh old outcome said one returns_ i none)
    where
      by : (get said.1.counts.exports i ≡ None) ⊎ IsNewPlace said.1 (import_ i) → (get mid.counts.exports i ≡ None) ⊎ IsNewPlace mid (import_ i)
      by (inl none) = inl none
      by (inr place) = inr (place_on said.1 mid i (λ e c is. is) refl place)

  pub given_kept : KeptThere old told_ mid
  given_kept =
      record {
        level = λ here made inbox. silent_level here (record { vat = old; inbox = inbox }) made told_ mid given_silent_here;
        places = given_places;
        place = given_place old a entry.kept outcome said returns_ said_as.exports open_;
        over = given_over;
        fresh = fresh_on;
        answers = λ q is. back_open q (a == q) refl is;
        no_echo = λ n. refl;
      }

  pub given_open : AreOpen old entry.kept.tied → AreOpen mid entry.kept.tied
  given_open are = are_open_same old mid entry.kept.tied (ap (λ s. s.values.promises) said_only) (ap (λ s. s.waiting.over.promises) said_only) are

-- no answer was finished before it was given
abbrev pub NoneLeft : State → Type 0
NoneLeft s = (a : ℕ) → IfSome (get s.entries.answers a) (λ entry. is_finish_noted entry.stage ≡ false)

answer_by : (old : State) (a : ℕ) (outcome : Outcome) (entry : Exchange AnswerEntry) (stage : Stage) (done : Done) → AreOne old → get old.entries.answers a ≡ Some entry
    → get old.values.answers a ≡ Some None → get old.waiting.over.answers a ≡ None → AreOpen old entry.kept.tied → is_finish_noted stage ≡ false
    → GiveBy old a outcome entry.kept stage (Ok done) → Chain old done.0 done.1
answer_by old a outcome entry stages.Open done one was open_ ungiven are left gives =
    let said = then_out {A = Returned × State} {B = Done} (Returns old outcome) _ done gives in
    let mid : State = given said.0.1 a entry.kept outcome said.0.0 in
    let rest = then_out {A = Done} {B = Done} (SettleTied mid outcome entry.kept.tied) _ done said.2 in
    let kept = given_kept old a entry outcome said.0 one was open_ ungiven said.1 in
    rw
    (ok_in _ _ rest.2)
    (goes_on kept
    (tied_chain entry.kept.tied mid outcome rest.0 (kept.places.one_export one) (given_open old a entry outcome said.0 one was open_ ungiven said.1 are) rest.1) refl)
answer_by old a outcome entry stages.Finished done one was open_ ungiven are left gives = absurd (true≢false left)
answer_by old a outcome entry stages.Returned done one was open_ ungiven are left gives = absurd gives

-- An own question is given.
module _ (old : State) (q : ℕ) (outcome : Outcome) (question : QuestionState) (is : get old.values.questions q ≡ Some question) (none : question.outcome ≡ None)
    (ungiven : get old.waiting.over.questions q ≡ None) where
  abbrev own_then : State
  own_then = question_settled old q outcome

  changed : own_then.values.questions ≡ insert old.values.questions q (record question { outcome = Some outcome })
  changed = rw (is) refl

  stays_by : (r : ℕ) (b : Bool) (other : QuestionState) (o : Outcome) → (q == r) ≡ b → get old.values.questions r ≡ Some other → other.outcome ≡ Some o
      → get (insert old.values.questions q (record question { outcome = Some outcome })) r ≡ Some other
  stays_by r true other o t at some =
      let same : question ≡ other = some_out (sym is ∙ ap (λ n. get old.values.questions n) (is_equal q r t) ∙ at) in
      none_out (sym none ∙ ap (λ x. x.outcome) same ∙ some)
  stays_by r false other o t at some = put_at old.values.questions q r (record question { outcome = Some outcome }) false t ∙ at

  own_places : PlacesStay old own_then
  own_places =
      record {
        ways = record { promises = λ p value at. at; questions = λ r other o at some. ap (λ m. get m r) changed ∙ stays_by r (q == r) other o refl at some };
        answers = λ a o at. at;
        exports = λ e c at. at;
        one_export = λ one. one;
      }

  own_over_by : (r : ℕ) (b : Bool) (o : Outcome) → (q == r) ≡ b → get old.waiting.over.questions r ≡ Some o → get (insert old.waiting.over.questions q outcome) r ≡ Some o
  own_over_by r true o t at = none_out (sym ungiven ∙ ap (λ n. get old.waiting.over.questions n) (is_equal q r t) ∙ at)
  own_over_by r false o t at = put_at old.waiting.over.questions q r outcome false t ∙ at

  question_on : (r : ℕ) (path : List ℕ) (cap : Cap) (o : Option Outcome) → get old.waiting.over.questions r ≡ o → option_map (λ x. cap_at x path) o ≡ Some cap
      → option_map (λ x. cap_at x path) (get (insert old.waiting.over.questions q outcome) r) ≡ Some cap
  question_on r path cap None at e = none_out e
  question_on r path cap (Some o) at e = rw (own_over_by r (q == r) o refl at) e

  own_over : OverStays old own_then
  own_over (gates.Answer a path) cap at = at
  own_over (gates.Promise r) cap at = at
  own_over (gates.Question r path) cap at = question_on r path cap (get old.waiting.over.questions r) refl at
  own_over (gates.Embargo n) cap at = at

  pub own_kept : Silent old (effects.Settled q outcome ∷ []) own_then → KeptThere old (effects.Settled q outcome ∷ []) own_then
  own_kept silent =
      record {
        level = λ here made inbox. silent_level here (record { vat = old; inbox = inbox }) made (effects.Settled q outcome ∷ []) own_then silent;
        places = own_places;
        place = λ ref. place_stays old own_then ref [] (λ e c at. at) (λ p at. at) (λ a at. at) refl;
        over = own_over;
        fresh = λ i none. inl none;
        answers = λ a at. at;
        no_echo = λ n. refl;
      }

own_by : (old : State) (q : ℕ) (outcome : Outcome) (entry : Exchange QuestionEntry) (stage : Stage) (done : Done) → NoneFinished old
    → get old.entries.questions q ≡ Some entry → entry.stage ≡ stage → IsUngiven old (origins.Own q) → Silent old done.0 done.1 → GiveOwnBy old q outcome stage (Ok done)
    → Chain old done.0 done.1
own_by old q outcome entry stages.Open done none is at may silent gives =
    let same = ok_in _ _ gives in
    let there : Silent old (effects.Settled q outcome ∷ []) (question_settled old q outcome) = rw same at silent in
    rw (same) (chain_one (own_kept old q outcome may.0 may.1 may.2 may.3 there))
own_by old q outcome entry stages.Finished done none is at may silent gives =
    let not = there_of (λ (x : Exchange QuestionEntry). is_finish_noted x.stage ≡ false) (get old.entries.questions q) entry is (none q) in
    let noted : is_finish_noted entry.stage ≡ true = rw (at) refl in
    absurd (true≢false (sym noted ∙ not))
own_by old q outcome entry stages.Returned done none is at may silent gives = absurd gives

-- An outcome is given to whom it is for.
pub give_chain : (old : State) (origin : Origin) (outcome : Outcome) (done : Done) → AreOne old → NoneFinished old → NoneLeft old → IsUngiven old origin
    → Give old origin outcome (Ok done) → Chain old done.0 done.1
give_chain old (origins.Answer a) outcome done one none left may (entry, is, gives) =
    answer_by old a outcome entry entry.stage done one is may.0 may.1 (there_of (λ (x : Exchange AnswerEntry). AreOpen old x.kept.tied) (get old.entries.answers a) entry is may.2)
    (there_of (λ (x : Exchange AnswerEntry). is_finish_noted x.stage ≡ false) (get old.entries.answers a) entry is (left a)) gives
give_chain old (origins.Own q) outcome done one none left may (entry, is, gives) =
    own_by old q outcome entry entry.stage done none is refl may (own_silent old q outcome done none (entry, is, gives)) gives
