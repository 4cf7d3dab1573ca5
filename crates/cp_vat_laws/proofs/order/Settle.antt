-- A promise that is settled, and those tied to an answer.
use Rattle.std.specs.Prelude.{◌≡◌, refl, ℕ, ◌+◌, ◌==◌, cond, Bool, true, false, List, [], ◌∷◌, Some, None, is_some, Result, Ok, Err}
use Rattle.std.specs.FinMap.{get, insert}
use Rattle.std.proofs.Common.{arith, inl, inr, ap, sym, ◌∙◌}
use Rattle.std.proofs.lemmas.List.Sums.{sum_by-cons}
use Rattle.cp_messages.specs.declared.descriptor.Descriptor.{Descriptor}
use Rattle.cp_messages.specs.declared.resolve.Resolution.{Resolution}
use Rattle.cp_refs.specs.At.{cap_at}
use Rattle.cp_refs.specs.declared.cap.Cap.{Cap}
use Rattle.cp_refs.specs.declared.cap.Cap.TheVariants as caps
use Rattle.cp_refs.specs.declared.outcome.Outcome.{Outcome}
use Rattle.cp_vat_machine.specs.State.{State, with_exports}
use Rattle.cp_vat_machine.specs.Then.{Done}
use Rattle.cp_vat_machine.specs.Writing.{Raise, counted, counted_out, opened, has_no_capacity, WritesEnd, WritesDescriptor, WritesDescriptors}
use Rattle.cp_vat_machine.specs.Give.{ResolvesEnd, Tells, settled, value_for, last_for, Settle, SettleTied}
use Rattle.cp_vat_machine.specs.Local.{tied_to}
use Rattle.cp_vat_machine.specs.declared.entry.Tied.{Tied}
use Rattle.cp_vat_machine.specs.declared.fault.PeerFault.{PeerFault}
use Rattle.cp_vat_machine.proofs.Basics.{some_out, none_out, is_equal, other_number, ok_in, then_out, put_at}
use Rattle.cp_vat_laws.proofs.order.Passes.{Slot}
use Rattle.cp_vat_laws.proofs.order.Same.{same_slot, marks_same}
use Rattle.cp_vat_laws.proofs.order.Closes.{AreQuiet, quiet_both, quiet_none, Closes, closes_both, same_closes}

-- what is sent changes nothing but exports
abbrev pub IsOnly : State → State → Type 0
IsOnly old new = new ≡ with_exports old new.counts.exports

abbrev RaisedOnly : State → Result (ℕ × State) PeerFault → Type 0
RaisedOnly old (Ok raised) = IsOnly old raised.1
RaisedOnly old (Err fault) = Unit {0}

raised_only : (old : State) (cap : Cap) (out : Result (ℕ × State) PeerFault) → Raise old cap out → RaisedOnly old out
raised_only old cap out (counted e count is room) = refl
raised_only old cap out (counted_out e is) = tt
raised_only old cap out (opened e none fresh) = refl
raised_only old cap out (has_no_capacity none is) = tt

pub end_only : (old : State) (last : Cap) (said : Descriptor × State) → WritesEnd old last (Ok said) → IsOnly old said.1
end_only old caps.None said is = rw (ok_in _ _ is) refl
end_only old (caps.Object k) said is =
    let parts = then_out {A = ℕ × State} {B = Descriptor × State} (Raise old (caps.Object k)) _ said is in
    rw (ok_in _ _ parts.2) (raised_only old (caps.Object k) (Ok parts.0) parts.1)
end_only old (caps.Promise p) said is =
    let parts = then_out {A = ℕ × State} {B = Descriptor × State} (Raise old (caps.Promise p)) _ said is in
    rw (ok_in _ _ parts.2) (raised_only old (caps.Promise p) (Ok parts.0) parts.1)
end_only old (caps.Import i) said is = rw (ok_in _ _ is) refl
end_only old (caps.Pipelined q path) said is = rw (ok_in _ _ is) refl
end_only old (caps.Broken x) said is = rw (ok_in _ _ is) refl

only_both : (old mid new : State) → IsOnly old mid → IsOnly mid new → IsOnly old new
only_both old mid new one more = more ∙ ap (λ s. with_exports s new.counts.exports) one

pub all_only : (table : List Cap) (old : State) (said : List Descriptor × State) → WritesDescriptors old table (Ok said) → IsOnly old said.1
all_only [] old said is = rw (ok_in _ _ is) refl
all_only (cap ∷ table) old said is =
    let first = then_out {A = Descriptor × State} {B = List Descriptor × State} (WritesDescriptor old cap) _ said is in
    let rest = then_out {A = List Descriptor × State} {B = List Descriptor × State} (WritesDescriptors first.0.1 table) _ said first.2 in
    rw (ok_in _ _ rest.2) (only_both old first.0.1 rest.0.1 (end_only old first.1.0 first.0 first.1.2) (all_only table first.0.1 rest.0 rest.1))

resolved_only : (old : State) (last : Cap) (said : Resolution × State) → ResolvesEnd old last (Ok said) → IsOnly old said.1
resolved_only old caps.None said is = let parts = then_out {A = Descriptor × State} {B = Resolution × State} (WritesEnd old caps.None) _ said is in rw (ok_in _ _ parts.2) (end_only old caps.None parts.0 parts.1)
resolved_only old (caps.Object k) said is = let parts = then_out {A = Descriptor × State} {B = Resolution × State} (WritesEnd old (caps.Object k)) _ said is in rw (ok_in _ _ parts.2) (end_only old (caps.Object k) parts.0 parts.1)
resolved_only old (caps.Promise p) said is = let parts = then_out {A = Descriptor × State} {B = Resolution × State} (WritesEnd old (caps.Promise p)) _ said is in rw (ok_in _ _ parts.2) (end_only old (caps.Promise p) parts.0 parts.1)
resolved_only old (caps.Import i) said is = let parts = then_out {A = Descriptor × State} {B = Resolution × State} (WritesEnd old (caps.Import i)) _ said is in rw (ok_in _ _ parts.2) (end_only old (caps.Import i) parts.0 parts.1)
resolved_only old (caps.Pipelined q path) said is = let parts = then_out {A = Descriptor × State} {B = Resolution × State} (WritesEnd old (caps.Pipelined q path)) _ said is in rw (ok_in _ _ parts.2) (end_only old (caps.Pipelined q path) parts.0 parts.1)
resolved_only old (caps.Broken x) said is = rw (ok_in _ _ is) refl

pub told_only : (old : State) (p : ℕ) (last : Cap) (done : Done) → Tells old p last (Ok done) → IsOnly old done.1 × AreQuiet done.0
told_only old p last done (inl (none, is)) = rw (ok_in _ _ is) (refl, quiet_none)
told_only old p last done (inr (e, is_export, is)) =
    let parts = then_out {A = Resolution × State} {B = Done} (ResolvesEnd old last) _ done is in
    rw (ok_in _ _ parts.2) (resolved_only old last parts.0 parts.1, record { exits = λ s. refl; telling = refl })

pub only_closes : (old new : State) → IsOnly old new → Closes old new
only_closes old new only = same_closes old new (ap (λ s. s.values) only) (ap (λ s. s.waiting) only) (ap (λ s. s.marks) only) (ap (λ s. s.next_ticket) only)

-- An open promise gets its value.
module _ (s : State) (p : ℕ) (v : Cap) (open_ : get s.values.promises p ≡ Some None) (ungiven : get s.waiting.over.promises p ≡ None) where
  set_slot : (q : ℕ) (b : Bool) → (p == q) ≡ b
      → Slot (get s.values.promises q) (get (insert s.values.promises p (Some v)) q) (get s.waiting.over.promises q) (get (insert s.waiting.over.promises p v) q)
  set_slot q true t =
      let old_is : get s.values.promises q ≡ Some None = rw (← is_equal p q t) open_ in
      let none : get s.waiting.over.promises q ≡ None = rw (← is_equal p q t) ungiven in
      record {
        over = λ x e. none_out (sym none ∙ e);
        set = λ x e some. none_out (some_out (sym old_is ∙ e));
        open_ = λ e given found. inr (v, λ some. put_at s.values.promises p q (Some v) true t, put_at s.waiting.over.promises p q v true t);
      }
  set_slot q false t = same_slot _ _ _ _ (put_at s.values.promises p q (Some v) false t) (put_at s.waiting.over.promises p q v false t)

  set_adds : (q : ℕ) (b : Bool) → (p == q) ≡ b → is_some (get (insert s.values.promises p (Some v)) q) ≡ true → is_some (get s.values.promises q) ≡ true
  set_adds q true t some = rw (← is_equal p q t, open_) refl
  set_adds q false t some = rw (sym (put_at s.values.promises p q (Some v) false t)) some

  settled_closes : Closes s (settled s p v)
  settled_closes =
      record {
        passes =
            record {
              promises = λ q. set_slot q (p == q) refl;
              answers = λ a. same_slot _ _ _ _ refl refl;
              questions = λ q. same_slot _ _ _ _ refl refl;
              kinds = λ q one other is there. ap (λ x. x.kind) (some_out (sym there ∙ is));
              imports = λ i x is some. is;
              embargoes = λ n x is none. inl (is, none);
              ended = λ n x is. is;
              marks = λ c g there found off fits. marks_same s (settled s p v) c g refl refl fits;
              next = omega arith;
            };
        adds =
            record {
              promises = λ q some. set_adds q (p == q) refl some;
              answers = λ a some. some;
              questions = λ q some. some;
              imports = λ i some. some;
            };
        calls = refl;
        embargoes = refl;
        next = refl;
      }

-- Other promises, and whether they are over, stay as they are.
abbrev pub Beside : State → State → ℕ → Type 0
Beside old mid p =
    (q : ℕ) → (p == q) ≡ false → (get mid.values.promises q ≡ get old.values.promises q) × (get mid.waiting.over.promises q ≡ get old.waiting.over.promises q)

pub settle_closes : (s : State) (p : ℕ) (value : Cap) (done : Done) → Settle s p value (Ok done) → get s.values.promises p ≡ Some None → get s.waiting.over.promises p ≡ None
    → Closes s done.1 × AreQuiet done.0 × Beside s done.1 p
settle_closes s p value done (last, comes, tells) open_ ungiven =
    let v : Cap = value_for p last value in
    let only = told_only (settled s p v) p (last_for p last) done tells in (
      closes_both s (settled s p v) done.1 (settled_closes s p v open_ ungiven) (only_closes (settled s p v) done.1 only.0),
      only.1,
      λ q other. (
        ap (λ x. get x.values.promises q) only.0 ∙ put_at s.values.promises p q (Some v) false other,
        ap (λ x. get x.waiting.over.promises q) only.0 ∙ put_at s.waiting.over.promises p q v false other,
      ),
    )

-- The promises tied to an answer are open, none is over, and none is tied to it twice.
abbrev pub AreOpen : State → List Tied → Type 0
AreOpen s [] = Unit {0}
AreOpen s (tied ∷ more) =
    (get s.values.promises tied.promise ≡ Some None) × (get s.waiting.over.promises tied.promise ≡ None) × (tied_to tied.promise more ≡ 0) × AreOpen s more

pub one_more : (p : ℕ) (tied : Tied) (more : List Tied) → tied_to p (tied ∷ more) ≡ cond (tied.promise == p) 1 0 + tied_to p more
one_more p tied more = sum_by-cons (λ t. cond (t.promise == p) 1 0) tied more

pub not_tied : (p : ℕ) (tied : Tied) (more : List Tied) (b : Bool) → (tied.promise == p) ≡ b → tied_to p (tied ∷ more) ≡ 0 → ((tied.promise == p) ≡ false) × (tied_to p more ≡ 0)
not_tied p tied more true t e =
    let all : tied_to p (tied ∷ more) ≡ 1 + tied_to p more = one_more p tied more ∙ ap (λ c. cond c 1 0 + tied_to p more) t in
    absurd (none_is (tied_to p more) (sym all ∙ e))
  where
    none_is : (n : ℕ) → 1 + n ≡ 0 → ⊥
    none_is n e = omega (arith, e)
not_tied p tied more false t e =
    let all : tied_to p (tied ∷ more) ≡ 0 + tied_to p more = one_more p tied more ∙ ap (λ c. cond c 1 0 + tied_to p more) t in
    (t, omega (arith, all, e))

still_open : (old mid : State) (p : ℕ) (tied : List Tied) → Beside old mid p → tied_to p tied ≡ 0 → AreOpen old tied → AreOpen mid tied
still_open old mid p [] beside none are = tt
still_open old mid p (tied ∷ more) beside none are =
    let parts = not_tied p tied more (tied.promise == p) refl none in
    let same = beside tied.promise (other_number tied.promise p parts.0) in
    (same.0 ∙ are.0, same.1 ∙ are.1, are.2, still_open old mid p more beside parts.1 are.3)

pub tied_closes : (tied : List Tied) (s : State) (outcome : Outcome) (done : Done) → SettleTied s outcome tied (Ok done) → AreOpen s tied → Closes s done.1 × AreQuiet done.0
tied_closes [] s outcome done is are = rw (ok_in _ _ is) (same_closes s s refl refl refl refl, quiet_none)
tied_closes (tied ∷ more) s outcome done is are =
    let first = then_out {A = Done} {B = Done} (Settle s tied.promise (cap_at outcome tied.path)) _ done is in
    let rest = then_out {A = Done} {B = Done} (SettleTied first.0.1 outcome more) _ done first.2 in
    let here = settle_closes s tied.promise (cap_at outcome tied.path) first.0 first.1 are.0 are.1 in
    let there = tied_closes more first.0.1 outcome rest.0 rest.1 (still_open s first.0.1 tied.promise more here.2 are.2 are.3) in
    rw (ok_in _ _ rest.2) (closes_both s first.0.1 rest.0.1 here.0 there.0, quiet_both first.0.0 rest.0.0 here.1 there.1)
