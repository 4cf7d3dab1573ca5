-- What outcomes and values that are given do: they close what was open, and add nothing.
use Rattle.std.specs.Prelude.{◌≡◌, ◌⊎◌, refl, ℕ, true, List, [], ◌++◌, Option, Some, None, is_some, flat_map, filter}
use Rattle.std.specs.FinMap.{get}
use Rattle.std.proofs.Common.{arith, inl, inr, ap, sym, ◌∙◌, true≢false}
use Rattle.std.proofs.lemmas.List.Concat.{flat_map-append}
use Rattle.std.proofs.lemmas.List.Elements.{filter-append}
use Rattle.cp_refs.specs.declared.cap.Cap.{Cap}
use Rattle.cp_refs.specs.declared.cap.Cap.TheVariants as caps
use Rattle.cp_refs.specs.declared.values.QuestionState.{QuestionState}
use Rattle.cp_vat_machine.specs.State.{State}
use Rattle.cp_vat_machine.specs.Ports.{capability, is_there}
use Rattle.cp_vat_machine.specs.Exits.{exit_by}
use Rattle.cp_vat_machine.specs.Telling.{is_telling}
use Rattle.cp_vat_machine.specs.declared.effect.Effect.{Effect}
use Rattle.cp_vat_laws.proofs.order.Passes.{Slot, IsStillOpen, IsGiven, StaysOrEnds, Passes, outcome_of}
use Rattle.cp_vat_laws.proofs.order.Names.{cap_off}
use Rattle.cp_vat_laws.proofs.order.Same.{same_passes}

-- effects by which no call leaves, and that tell no outcome
pub record AreQuiet (effects : List Effect) : Type 0 where
  pub exits : (s : State) → flat_map (exit_by s) effects ≡ []
  pub telling : filter is_telling effects ≡ []

pub quiet_both : (first rest : List Effect) → AreQuiet first → AreQuiet rest → AreQuiet (first ++ rest)
quiet_both first rest one more =
    record {
      exits = λ s. rw (flat_map-append (exit_by s) first rest, one.exits s) (more.exits s);
      telling = rw (filter-append is_telling first rest, one.telling) more.telling;
    }

pub quiet_none : AreQuiet []
quiet_none = record { exits = λ s. refl; telling = refl }

-- nothing is there that wasn't
pub record AddsNone (old mid : State) : Type 0 where
  pub promises : (p : ℕ) → is_some (get mid.values.promises p) ≡ true → is_some (get old.values.promises p) ≡ true
  pub answers : (a : ℕ) → is_some (get mid.values.answers a) ≡ true → is_some (get old.values.answers a) ≡ true
  pub questions : (q : ℕ) → is_some (get mid.values.questions q) ≡ true → is_some (get old.values.questions q) ≡ true
  pub imports : (i : ℕ) → is_some (get mid.values.imports i) ≡ true → is_some (get old.values.imports i) ≡ true

pub none_both : (s mid last : State) → AddsNone s mid → AddsNone mid last → AddsNone s last
none_both s mid last one more =
    record {
      promises = λ p some. one.promises p (more.promises p some);
      answers = λ a some. one.answers a (more.answers a some);
      questions = λ q some. one.questions q (more.questions q some);
      imports = λ i some. one.imports i (more.imports i some);
    }

none_there : (mid last : State) (c : Cap) → AddsNone mid last → is_there last.values (capability c) ≡ true → is_there mid.values (capability c) ≡ true
none_there mid last caps.None h some = refl
none_there mid last (caps.Object k) h some = refl
none_there mid last (caps.Promise p) h some = h.promises p some
none_there mid last (caps.Import i) h some = h.imports i some
none_there mid last (caps.Pipelined q path) h some = h.questions q some
none_there mid last (caps.Broken x) h some = refl

slot_both : {X : Type 0} (o m l : Option (Option X)) (x y z : Option X) → Slot o m x y → Slot m l y z → (is_some l ≡ true → is_some m ≡ true) → Slot o l x z
slot_both {X} o m l x y z one more adds =
    record {
      over = λ v e. more.over v (one.over v e);
      set = λ v e some. more.set v (one.set v e (adds some)) some;
      open_ = λ e none some. by some (one.open_ e none (adds some));
    }
  where
    by : is_some l ≡ true → IsStillOpen m y ⊎ IsGiven m y → IsStillOpen l z ⊎ IsGiven l z
    by some (inl h) = more.open_ h.0 h.1 some
    by some (inr h) = inr (h.0, λ some. more.set h.0 (h.1 (adds some)) some, more.over h.0 h.2)

outcome_some : (o p : Option QuestionState) → (is_some p ≡ true → is_some o ≡ true) → is_some (outcome_of p) ≡ true → is_some (outcome_of o) ≡ true
outcome_some None None h some = some
outcome_some None (Some y) h some = h refl
outcome_some (Some x) p h some = refl

there_question : (o : Option QuestionState) → is_some o ≡ true → (x : QuestionState) × (o ≡ Some x)
there_question None some = absurd (true≢false (sym some))
there_question (Some x) some = (x, refl)

ended_both : (s mid last : State) (n : ℕ) (v : Cap) → Passes mid last → StaysOrEnds mid n v → StaysOrEnds last n v
ended_both s mid last n v more (inl h) = more.embargoes n v h.0 h.1
ended_both s mid last n v more (inr h) = inr (more.ended n v h)

-- One after the other, where the second adds nothing.
pub passes_both : (s mid last : State) → Passes s mid → Passes mid last → AddsNone mid last → Passes s last
passes_both s mid last one more adds =
    record {
      promises = λ p. slot_both _ _ _ _ _ _ (one.promises p) (more.promises p) (adds.promises p);
      answers = λ a. slot_both _ _ _ _ _ _ (one.answers a) (more.answers a) (adds.answers a);
      questions = λ q. slot_both _ _ _ _ _ _ (one.questions q) (more.questions q) (outcome_some (get mid.values.questions q) (get last.values.questions q) (adds.questions q));
      kinds =
          λ q x z is there.
          let y = there_question (get mid.values.questions q) (adds.questions q (ap is_some there)) in
          more.kinds q y.0 z y.1 there ∙ one.kinds q x y.0 is y.1;
      imports = λ i v is some. more.imports i v (one.imports i v is (adds.imports i some)) some;
      embargoes = λ n v is none. ended_both s mid last n v more (one.embargoes n v is none);
      ended = λ n v is. more.ended n v (one.ended n v is);
      marks =
          λ c g there found off fits.
          let between = none_there mid last c adds found in
          more.marks c g between found (cap_off s mid one c there between off) (one.marks c g there between off fits);
      next = omega (arith, one.next, more.next);
    }

-- What is given leaves calls, embargoes and tickets as they are.
pub record Closes (old mid : State) : Type 0 where
  pub passes : Passes old mid
  pub adds : AddsNone old mid
  pub calls : mid.waiting.calls ≡ old.waiting.calls
  pub embargoes : mid.marks.embargoes ≡ old.marks.embargoes
  pub next : mid.next_ticket ≡ old.next_ticket

pub closes_both : (s mid last : State) → Closes s mid → Closes mid last → Closes s last
closes_both s mid last one more =
    record {
      passes = passes_both s mid last one.passes more.passes more.adds;
      adds = none_both s mid last one.adds more.adds;
      calls = more.calls ∙ one.calls;
      embargoes = more.embargoes ∙ one.embargoes;
      next = more.next ∙ one.next;
    }

pub same_closes : (old mid : State) → mid.values ≡ old.values → mid.waiting ≡ old.waiting → mid.marks ≡ old.marks → mid.next_ticket ≡ old.next_ticket → Closes old mid
same_closes old mid values waiting marks next =
    record {
      passes = same_passes old mid values (ap (λ w. w.over) waiting) marks (omega (arith, next));
      adds =
          record {
            promises = λ p some. rw (← values) some;
            answers = λ a some. rw (← values) some;
            questions = λ q some. rw (← values) some;
            imports = λ i some. rw (← values) some;
          };
      calls = ap (λ w. w.calls) waiting;
      embargoes = ap (λ m. m.embargoes) marks;
      next = next;
    }
