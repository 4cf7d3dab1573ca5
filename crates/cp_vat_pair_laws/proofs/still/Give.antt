-- What promises that are settled and outcomes that are given keep, and what they send.
use Rattle.std.specs.Prelude.{◌≡◌, ◌⊎◌, refl, ℕ, ◌+◌, ◌==◌, cond, if◌then◌else◌, Bool, true, false, List, [], ◌∷◌, Option, Some, None, option_map, IsTrue, Ok}
use Rattle.std.specs.FinMap.{get, insert, remove}
use Rattle.std.proofs.Common.{inl, inr, arith, ap, sym, ◌∙◌, true≢false}
use Rattle.cp_tables.specs.Table.{Table, with_change}
use Rattle.cp_tables.specs.declared.exchange.Exchange.{Exchange}
use Rattle.cp_tables.specs.declared.exchange.Stage.{Stage}
use Rattle.cp_tables.specs.declared.exchange.Stage.TheVariants as stages
use Rattle.cp_messages.specs.declared.descriptor.Descriptor.{Descriptor}
use Rattle.cp_messages.specs.declared.resolve.Resolution.{Resolution}
use Rattle.cp_messages.specs.declared.resolve.Resolution.TheVariants as resolutions
use Rattle.cp_messages.specs.declared.returned.Returned.{Returned}
use Rattle.cp_messages.specs.declared.returned.Returned.TheVariants as returns
use Rattle.cp_refs.specs.At.{cap_at}
use Rattle.cp_refs.specs.Values.{ValueMaps}
use Rattle.cp_refs.specs.declared.cap.Cap.{Cap}
use Rattle.cp_refs.specs.declared.cap.Cap.TheVariants as caps
use Rattle.cp_refs.specs.declared.call.Origin.{Origin}
use Rattle.cp_refs.specs.declared.call.Origin.TheVariants as origins
use Rattle.cp_refs.specs.declared.outcome.Outcome.{Outcome}
use Rattle.cp_refs.specs.declared.outcome.Outcome.TheVariants as outcomes
use Rattle.cp_refs.specs.declared.values.QuestionState.{QuestionState}
use Rattle.cp_vat_machine.specs.State.{State, with_exports}
use Rattle.cp_vat_machine.specs.Then.{Done, Then}
use Rattle.cp_vat_machine.specs.Writing.{IsExport, WritesEnd, WritesDescriptors}
use Rattle.cp_vat_machine.specs.Give.{resolve_of, ResolvesEnd, Tells, settled, value_for, last_for, Settle, SettleTied, Returns, returned_mentions, given, gone, return_of, GiveBy, GiveAnswer, question_over, question_settled, without_question, GiveOwnBy, Give}
use Rattle.cp_vat_machine.specs.Resolving.{given_back}
use Rattle.cp_vat_machine.specs.Local.{AreOne, tied_to, is_wire_kind}
use Rattle.cp_vat_machine.specs.declared.effect.Effect.TheVariants as effects
use Rattle.cp_vat_machine.specs.declared.entry.AnswerEntry.{AnswerEntry}
use Rattle.cp_vat_machine.specs.declared.entry.QuestionEntry.{QuestionEntry}
use Rattle.cp_vat_machine.specs.declared.entry.Tied.{Tied}
use Rattle.cp_vat_machine.proofs.Basics.{some_out, none_out, ok_in, then_out, is_equal, is_itself, other_number, put_at, gone_at}
use Rattle.cp_vat_laws.proofs.Tables.{there_of, here_of, put_cases, gone_cases, each_gone}
use Rattle.cp_vat_pair_laws.specs.Accounts.{is_finish_noted}
use Rattle.cp_vat_pair_laws.specs.Places.{NoneFinished}
use Rattle.cp_vat_pair_laws.specs.Tickets.{BearsTicket}
use Rattle.cp_vat_pair_laws.specs.Turns.{AreOpen}
use Rattle.cp_vat_laws.proofs.order.Settle.{one_more}
use Rattle.cp_vat_pair_laws.proofs.still.Grows.{PlacesStay, Mails, TicketsStay, Grown, grown_both, ways_same, refs_same, tickets_same, no_mail, no_loop, silent, grown_none}
use Rattle.cp_vat_pair_laws.proofs.still.Say.{IsOpenCap, SaidAs, said_none, said_end, said_all, open_end, said_not, said_places, said_refs, said_tickets}

resolution_denoted : (old : State) (last : Cap) (said : Resolution × State) → AreOne old → IsOpenCap old last
    → Then (WritesEnd old last) (λ said out. out ≡ Ok (resolutions.Cap said.0, said.1)) (Ok said) → SaidAs old (given_back said.0) said.1
resolution_denoted old last said one is says =
    let parts = then_out {A = Descriptor × State} {B = Resolution × State} (WritesEnd old last) _ said says in
    rw (ok_in _ _ parts.2) (said_end old last parts.0 one is parts.1)

pub resolves_said : (old : State) (last : Cap) (said : Resolution × State) → AreOne old → IsOpenCap old last → ResolvesEnd old last (Ok said)
    → SaidAs old (given_back said.0) said.1
resolves_said old (caps.Broken x) said one is says = rw (ok_in _ _ says) (said_none old)
resolves_said old caps.None said one is says = resolution_denoted old caps.None said one is says
resolves_said old (caps.Object k) said one is says = resolution_denoted old (caps.Object k) said one is says
resolves_said old (caps.Promise p) said one is says = resolution_denoted old (caps.Promise p) said one is says
resolves_said old (caps.Import i) said one is says = resolution_denoted old (caps.Import i) said one is says
resolves_said old (caps.Pipelined q path) said one is says = resolution_denoted old (caps.Pipelined q path) said one is says

-- a settled promise is told
module _ (old : State) (p : ℕ) (value : Cap) (at : get old.values.promises p ≡ Some (Some value)) (one : AreOne old) where
  told_grows : (e : ℕ) (resolution : Resolution) (new : State) → IsExport old e (caps.Promise p) → SaidAs old (given_back resolution) new
      → Grown old (resolve_of e resolution ∷ []) new
  told_grows e resolution new is said =
      record {
        places = said_places said;
        refs = said_refs said;
        tickets = said_tickets said;
        mails =
            record {
              unfinished = λ h. rw (ap (λ s. s.entries) said.only) h;
              quiet = λ h. refl;
              names = λ f r v export_ settled_. (said_not said f r v export_ settled_, tt);
              last = (
                (p, value, said.exports e (caps.Promise p) is, ap (λ s. get s.values.promises p) said.only ∙ at, (said_not said e p value is at, tt)),
                tt,
              );
            };
        loops = no_loop (ap (λ s. s.marks.embargoes) said.only) (λ n. refl) (λ n. refl);
      }

  pub tells_grows : (last : Cap) (done : Done) → IsOpenCap old last → Tells old p last (Ok done) → Grown old done.0 done.1
  tells_grows last done is (inl h) = rw (ok_in _ _ h.1) (grown_none old)
  tells_grows last done is (inr h) =
      let parts = then_out {A = Resolution × State} {B = Done} (ResolvesEnd old last) _ done h.2 in
      rw (ok_in _ _ parts.2) (told_grows h.0 parts.0.0 parts.0.1 h.1 (resolves_said old last parts.0 one is parts.1))

  -- it changes exports alone
  pub tells_only : (last : Cap) (done : Done) → IsOpenCap old last → Tells old p last (Ok done) → done.1 ≡ with_exports old done.1.counts.exports
  tells_only last done is (inl h) = rw (ok_in _ _ h.1) refl
  tells_only last done is (inr h) =
      let parts = then_out {A = Resolution × State} {B = Done} (ResolvesEnd old last) _ done h.2 in
      rw (ok_in _ _ parts.2) (resolves_said old last parts.0 one is parts.1).only

-- an open promise is settled
module _ (old : State) (p : ℕ) (v : Cap) (open_ : get old.values.promises p ≡ Some None) where
  promise_stays : (q : ℕ) (value : Cap) (b : Bool) → (p == q) ≡ b → get old.values.promises q ≡ Some (Some value)
      → get (insert old.values.promises p (Some v)) q ≡ Some (Some value)
  promise_stays q value true t is =
      let was : get old.values.promises p ≡ Some (Some value) = rw (is_equal p q t) is in
      none_out (some_out (sym open_ ∙ was))
  promise_stays q value false t is = put_at old.values.promises p q (Some v) false t ∙ is

  pub settled_grows : Grown old [] (settled old p v)
  settled_grows =
      record {
        places =
            record {
              ways = record { promises = λ q value is. promise_stays q value (p == q) refl is; questions = λ q question outcome is given. is };
              answers = λ a outcome is. is;
              exports = λ e cap is. is;
              one_export = λ is. is;
            };
        refs = refs_same refl refl;
        tickets = tickets_same refl refl;
        mails = no_mail refl (λ h. h);
        loops = silent refl refl;
      }

  pub open_last : (last : Cap) → IsOpenCap old last → IsOpenCap (settled old p (value_for p last v)) (last_for p last)
  open_last (caps.Promise r) is = by (r == p) refl
    where
      by : (b : Bool) → (r == p) ≡ b → IsOpenCap (settled old p (value_for p (caps.Promise r) v)) (last_for p (caps.Promise r))
      by true t = rw (t) tt
      by false t = rw (t) (put_at old.values.promises p r (Some v) false (other_number r p t) ∙ is)
  open_last caps.None is = tt
  open_last (caps.Object k) is = tt
  open_last (caps.Import i) is = tt
  open_last (caps.Pipelined q path) is = tt
  open_last (caps.Broken x) is = tt

-- What settling a promise keeps, and that others stay as they are.
pub record SettledAs (old : State) (p : ℕ) (done : Done) : Type 0 where
  pub grown : Grown old done.0 done.1
  pub others : (q : ℕ) → (p == q) ≡ false → get done.1.values.promises q ≡ get old.values.promises q

pub settle_grows : (old : State) (p : ℕ) (value : Cap) (done : Done) → AreOne old → get old.values.promises p ≡ Some None → Settle old p value (Ok done)
    → SettledAs old p done
settle_grows old p value done one open_ (last, comes, tells) =
    let v = value_for p last value in
    let mid : State = settled old p v in
    let at : get mid.values.promises p ≡ Some (Some v) = put_at old.values.promises p p (Some v) true (is_itself p) in
    let is = open_last old p value open_ last (open_end old value last comes) in
    let only = tells_only mid p v at one (last_for p last) done is tells in
    record {
      grown = grown_both (settled_grows old p v open_) (tells_grows mid p v at one (last_for p last) done is tells);
      others = λ q t. ap (λ s. get s.values.promises q) only ∙ put_at old.values.promises p q (Some v) false t;
    }

-- promises that are tied to an answer, one after another
pub still_open : (old new : State) (p : ℕ) (tied : List Tied) → ((q : ℕ) → (p == q) ≡ false → get new.values.promises q ≡ get old.values.promises q) → tied_to p tied ≡ 0
    → AreOpen old.values tied → AreOpen new.values tied
still_open old new p [] others none open_ = tt
still_open old new p (tied ∷ more) others none open_ = (
  others tied.promise (by (tied.promise == p) refl) ∙ open_.0,
  open_.1,
  still_open old new p more others (omega (arith, none, one_more p tied more)) open_.2,
)
  where
    by : (b : Bool) → (tied.promise == p) ≡ b → (p == tied.promise) ≡ false
    by true t =
        let all : tied_to p (tied ∷ more) ≡ 1 + tied_to p more = one_more p tied more ∙ ap (λ c. cond c 1 0 + tied_to p more) t in
        absurd (never (tied_to p more) (sym all ∙ none))
      where
        never : (n : ℕ) → 1 + n ≡ 0 → ⊥
        never n e = omega (arith, e)
    by false t = other_number tied.promise p t

pub tied_grows : (tied : List Tied) (old : State) (outcome : Outcome) (done : Done) → AreOne old → AreOpen old.values tied → SettleTied old outcome tied (Ok done)
    → Grown old done.0 done.1
tied_grows [] old outcome done one open_ settles = rw (ok_in _ _ settles) (grown_none old)
tied_grows (tied ∷ more) old outcome done one open_ settles =
    let first = then_out {A = Done} {B = Done} (Settle old tied.promise (cap_at outcome tied.path)) _ done settles in
    let rest = then_out {A = Done} {B = Done} (SettleTied first.0.1 outcome more) _ done first.2 in
    let front = settle_grows old tied.promise (cap_at outcome tied.path) first.0 one open_.0 first.1 in
    let back = tied_grows more first.0.1 outcome rest.0 (front.grown.places.one_export one)
    (still_open old first.0.1 tied.promise more front.others open_.1 open_.2) rest.1 in
    rw (ok_in _ _ rest.2) (grown_both front.grown back)

-- Tables where one entry is changed.
pub changed_get : {X : Type 0} (table : Table X) (k q : ℕ) (f : X → X) (b : Bool) → (k == q) ≡ b
    → get (with_change table k f) q ≡ (if b then option_map f (get table q) else get table q)
changed_get {X = X} table k q f b t = by (get table k) refl b t
  where
    by : (o : Option X) → get table k ≡ o → (b : Bool) → (k == q) ≡ b → get (with_change table k f) q ≡ (if b then option_map f (get table q) else get table q)
    by None is true t = rw (is, ← is_equal k q t, is) refl
    by None is false t = rw (is) refl
    by (Some v) is true t = rw (is, put_at table k q (f v) true t, ← is_equal k q t, is) refl
    by (Some v) is false t = rw (is, put_at table k q (f v) false t) refl

mapped_out : {X : Type 0} (f : X → X) (o : Option X) (y : X) → option_map f o ≡ Some y → (x : X) × (o ≡ Some x) × (y ≡ f x)
mapped_out f None y is = none_out is
mapped_out f (Some x) y is = (x, refl, sym (some_out is))

-- an entry of a table where one was changed is an old one, or what one was changed to
pub changed_cases : {X : Type 0} (table : Table X) (k q : ℕ) (f : X → X) (y : X) → get (with_change table k f) q ≡ Some y
    → (x : X) × (get table q ≡ Some x) × ((y ≡ x) ⊎ (y ≡ f x))
changed_cases {X = X} table k q f y is = by (k == q) refl
  where
    by : (b : Bool) → (k == q) ≡ b → (x : X) × (get table q ≡ Some x) × ((y ≡ x) ⊎ (y ≡ f x))
    by true t = let found = mapped_out f (get table q) y (sym (changed_get table k q f true t) ∙ is) in (found.0, found.1, inr found.2)
    by false t = (y, sym (changed_get table k q f false t) ∙ is, inl refl)

-- Tickets stay where answers and questions bear those that they bore.
pub tickets_by : {old new : State} → new.next_ticket ≡ old.next_ticket
    → ((a : ℕ) (entry : Exchange AnswerEntry) → get new.entries.answers a ≡ Some entry
    → (was : Exchange AnswerEntry) × (get old.entries.answers a ≡ Some was) × (entry.kept.ticket ≡ was.kept.ticket))
    → ((q : ℕ) (entry : Exchange QuestionEntry) → get new.entries.questions q ≡ Some entry → entry.kept.forwards ≡ None
    → (was : Exchange QuestionEntry) × (get old.entries.questions q ≡ Some was) × (entry.kept.ticket ≡ was.kept.ticket) × (was.kept.forwards ≡ None))
    → TicketsStay old new
tickets_by {old = old} {new = new} next answers questions = record { next = next; bears = bears_by }
  where
    bears_by : (origin : Origin) (ticket : ℕ) → BearsTicket new origin ticket → BearsTicket old origin ticket
    bears_by (origins.Answer a) ticket is =
        let found = answers a is.0 is.1 in
        (found.0, found.1, sym found.2 ∙ is.2)
    bears_by (origins.Own q) ticket is =
        let found = questions q is.0 is.1 is.3 in
        (found.0, found.1, sym found.2 ∙ is.2, found.3)

abbrev pub SameAnswers : State → State → Type 0
SameAnswers old new =
    (a : ℕ) (entry : Exchange AnswerEntry) → get new.entries.answers a ≡ Some entry
    → (was : Exchange AnswerEntry) × (get old.entries.answers a ≡ Some was) × (entry.kept.ticket ≡ was.kept.ticket)

pub answers_as_were : (s : State) → SameAnswers s s
answers_as_were s a entry is = (entry, is, refl)

-- A Return that is sent names what was said.
pub returned_denoted : (old : State) (outcome : Outcome) (said : Returned × State) → AreOne old → Returns old outcome (Ok said)
    → SaidAs old (returned_mentions said.0) said.1
returned_denoted old (outcomes.Results content table) said one says =
    let parts = then_out {A = List Descriptor × State} {B = Returned × State} (WritesDescriptors old table) _ said says in
    rw (ok_in _ _ parts.2) (said_all table old parts.0 one parts.1)
returned_denoted old (outcomes.Failed x) said one says = rw (ok_in _ _ says) (said_none old)
returned_denoted old outcomes.Canceled said one says = rw (ok_in _ _ says) (said_none old)

pub return_grows : (old : State) (a : ℕ) (returned : Returned) (new : State) → SaidAs old (returned_mentions returned) new
    → Grown old (return_of a returned ∷ []) new
return_grows old a returned new said =
    record {
      places = said_places said;
      refs = said_refs said;
      tickets = said_tickets said;
      mails =
          record {
            unfinished = λ h. rw (ap (λ s. s.entries) said.only) h;
            quiet = λ h. refl;
            names = λ f r v export_ settled_. (said_not said f r v export_ settled_, tt);
            last = (tt, tt);
          };
      loops = no_loop (ap (λ s. s.marks.embargoes) said.only) (λ n. refl) (λ n. refl);
    }

-- an answer that wasn't given is given, or goes
module _ (s : State) (a : ℕ) (outcome : Outcome) (entry : Exchange AnswerEntry) (was : get s.entries.answers a ≡ Some entry)
    (ungiven : (o : Outcome) → get s.values.answers a ≡ Some (Some o) → ⊥) where
  not_it : (b : ℕ) (o : Outcome) (t : Bool) → (a == b) ≡ t → get s.values.answers b ≡ Some (Some o) → (a == b) ≡ false
  not_it b o true t is = absurd (ungiven o (rw (is_equal a b t) is))
  not_it b o false t is = t

  given_answers : (returned : Returned) → SameAnswers s (given s a entry.kept outcome returned)
  given_answers returned b new is =
      elim (put_cases s.entries.answers a b _ new is) [
        | inl here ↦ (entry, ap (λ k. get s.entries.answers k) (sym here.0) ∙ was, ap (λ (x : Exchange AnswerEntry). x.kept.ticket) (sym here.1))
        | inr old ↦ (new, old.1, refl)
      ]

  answers_put : (b : ℕ) (o : Outcome) (t : Bool) → (a == b) ≡ t → get s.values.answers b ≡ Some (Some o)
      → get (insert s.values.answers a (Some outcome)) b ≡ Some (Some o)
  answers_put b o t e is = let other = not_it b o t e is in put_at s.values.answers a b (Some outcome) false other ∙ is

  answers_gone : (b : ℕ) (o : Outcome) (t : Bool) → (a == b) ≡ t → get s.values.answers b ≡ Some (Some o) → get (remove s.values.answers a) b ≡ Some (Some o)
  answers_gone b o t e is = let other = not_it b o t e is in gone_at s.values.answers a b false other ∙ is

  pub given_grows : (returned : Returned) → Grown s [] (given s a entry.kept outcome returned)
  given_grows returned =
      record {
        places =
            record {
              ways = ways_same refl refl;
              answers = λ b o is. answers_put b o (a == b) refl is;
              exports = λ e cap is. is;
              one_export = λ is. is;
            };
        refs = refs_same refl refl;
        tickets = tickets_by refl (given_answers returned) (λ q x is own. (x, is, refl, own));
        mails = no_mail refl (λ h. h);
        loops = silent refl refl;
      }

  pub gone_grows : Grown s [] (gone s a outcome)
  gone_grows =
      record {
        places =
            record {
              ways = ways_same refl refl;
              answers = λ b o is. answers_gone b o (a == b) refl is;
              exports = λ e cap is. is;
              one_export = λ is. is;
            };
        refs = refs_same refl refl;
        tickets = tickets_by refl (λ b x is. (x, (gone_cases s.entries.answers a b x is).1, refl)) (λ q x is own. (x, is, refl, own));
        mails = no_mail refl (λ h. h);
        loops = silent refl refl;
      }

pub open_same : (one other : ValueMaps) (tied : List Tied) → other.promises ≡ one.promises → AreOpen one tied → AreOpen other tied
open_same one other [] same open_ = tt
open_same one other (tied ∷ more) same open_ = (ap (λ m. get m tied.promise) same ∙ open_.0, open_.1, open_same one other more same open_.2)

-- What may be given: an answer that wasn't, and whose tied promises are open; a question without an outcome, whose call wasn't sent at once.
abbrev pub MayGive : State → Origin → Type 0
MayGive s (origins.Answer a) =
    ((o : Outcome) → get s.values.answers a ≡ Some (Some o) → ⊥)
    × ((entry : Exchange AnswerEntry) → get s.entries.answers a ≡ Some entry → AreOpen s.values entry.kept.tied)
MayGive s (origins.Own q) = (question : QuestionState) → get s.values.questions q ≡ Some question → (question.outcome ≡ None) × (is_wire_kind question.kind ≡ false)

answer_by : (old : State) (a : ℕ) (outcome : Outcome) (entry : Exchange AnswerEntry) (stage : Stage) (done : Done) → AreOne old → MayGive old (origins.Answer a)
    → get old.entries.answers a ≡ Some entry → GiveBy old a outcome entry.kept stage (Ok done) → Grown old done.0 done.1
answer_by old a outcome entry stages.Open done one may was gives =
    let said = then_out {A = Returned × State} {B = Done} (Returns old outcome) _ done gives in
    let mid : State = said.0.1 in
    let new : State = given mid a entry.kept outcome said.0.0 in
    let rest = then_out {A = Done} {B = Done} (SettleTied new outcome entry.kept.tied) _ done said.2 in
    let is = returned_denoted old outcome said.0 one said.1 in
    let first = return_grows old a said.0.0 mid is in
    let there : get mid.entries.answers a ≡ Some entry = ap (λ s. get s.entries.answers a) is.only ∙ was in
    let ungiven : (o : Outcome) → get mid.values.answers a ≡ Some (Some o) → ⊥ = λ o at. may.0 o (sym (ap (λ s. get s.values.answers a) is.only) ∙ at) in
    let second = given_grows mid a outcome entry there ungiven said.0.0 in
    let open_ = open_same old.values new.values entry.kept.tied (ap (λ s. s.values.promises) is.only) (may.1 entry was) in
    let last = tied_grows entry.kept.tied new outcome rest.0 (is.one_export one) open_ rest.1 in
    rw (ok_in _ _ rest.2) (grown_both first (grown_both second last))
answer_by old a outcome entry stages.Finished done one may was gives =
    let new : State = gone old a outcome in
    let rest = then_out {A = Done} {B = Done} (SettleTied new outcome entry.kept.tied) _ done gives in
    let first = return_grows old a returns.Canceled old (said_none old) in
    let second = gone_grows old a outcome entry was may.0 in
    let open_ = open_same old.values new.values entry.kept.tied refl (may.1 entry was) in
    let last = tied_grows entry.kept.tied new outcome rest.0 one open_ rest.1 in
    rw (ok_in _ _ rest.2) (grown_both first (grown_both second last))
answer_by old a outcome entry stages.Returned done one may was gives = absurd gives

pub answer_grows : (old : State) (a : ℕ) (outcome : Outcome) (done : Done) → AreOne old → MayGive old (origins.Answer a) → GiveAnswer old a outcome (Ok done)
    → Grown old done.0 done.1
answer_grows old a outcome done one may gives = answer_by old a outcome gives.0 gives.0.stage done one may gives.1 gives.2

-- a question gets its outcome, or goes
module _ (s : State) (q : ℕ) (outcome : Outcome)
    (unset : (question : QuestionState) → get s.values.questions q ≡ Some question → question.outcome ≡ None) where
  has_none : {A : Type 0} (r : ℕ) (question : QuestionState) (o : Outcome) → (q == r) ≡ true → get s.values.questions r ≡ Some question → question.outcome ≡ Some o → A
  has_none r question o t is given_ =
      let here : get s.values.questions q ≡ Some question = rw (is_equal q r t) is in
      none_out (sym (unset question here) ∙ given_)

  outcome_stays : (r : ℕ) (question : QuestionState) (o : Outcome) (b : Bool) → (q == r) ≡ b → get s.values.questions r ≡ Some question → question.outcome ≡ Some o
      → get (question_settled s q outcome).values.questions r ≡ Some question
  outcome_stays r question o true t is given_ = has_none r question o t is given_
  outcome_stays r question o false t is given_ = changed_get s.values.questions q r (λ x. record x { outcome = Some outcome }) false t ∙ is

  settled_questions : (r : ℕ) (entry : Exchange QuestionEntry) → get (question_settled s q outcome).entries.questions r ≡ Some entry → entry.kept.forwards ≡ None
      → (was : Exchange QuestionEntry) × (get s.entries.questions r ≡ Some was) × (entry.kept.ticket ≡ was.kept.ticket) × (was.kept.forwards ≡ None)
  settled_questions r entry is own =
      let found = changed_cases s.entries.questions q r (λ x. record x { stage = stages.Returned }) entry is in
      let same : entry.kept ≡ found.0.kept = kept_by found.2 in
      (found.0, found.1, ap (λ (k : QuestionEntry). k.ticket) same, sym (ap (λ (k : QuestionEntry). k.forwards) same) ∙ own)
    where
      kept_by : {x y : Exchange QuestionEntry} → (y ≡ x) ⊎ (y ≡ record x { stage = stages.Returned }) → y.kept ≡ x.kept
      kept_by (inl e) = ap (λ (z : Exchange QuestionEntry). z.kept) e
      kept_by (inr e) = ap (λ (z : Exchange QuestionEntry). z.kept) e

  unfinished_settled : NoneFinished s → NoneFinished (question_settled s q outcome)
  unfinished_settled h r = here_of _ (get (question_settled s q outcome).entries.questions r) (λ entry is.
      let found = changed_cases s.entries.questions q r (λ x. record x { stage = stages.Returned }) entry is in
      by entry found.0 (there_of (λ (x : Exchange QuestionEntry). is_finish_noted x.stage ≡ false) (get s.entries.questions r) found.0 found.1 (h r)) found.2)
    where
      by : (y x : Exchange QuestionEntry) → is_finish_noted x.stage ≡ false → (y ≡ x) ⊎ (y ≡ record x { stage = stages.Returned }) → is_finish_noted y.stage ≡ false
      by y x not (inl e) = ap (λ (z : Exchange QuestionEntry). is_finish_noted z.stage) e ∙ not
      by y x not (inr e) = ap (λ (z : Exchange QuestionEntry). is_finish_noted z.stage) e

  pub outcome_places : PlacesStay s (question_settled s q outcome)
  outcome_places =
      record {
        ways = record { promises = λ p value is. is; questions = λ r question o is given_. outcome_stays r question o (q == r) refl is given_ };
        answers = λ a o is. is;
        exports = λ e cap is. is;
        one_export = λ is. is;
      }

  pub outcome_tickets : TicketsStay s (question_settled s q outcome)
  outcome_tickets = tickets_by refl (answers_as_were s) settled_questions

  pub outcome_mails : Mails s (effects.Settled q outcome ∷ []) (question_settled s q outcome)
  outcome_mails = no_mail refl unfinished_settled

  outcome_left : (r : ℕ) (question : QuestionState) (o : Outcome) (b : Bool) → (q == r) ≡ b → get s.values.questions r ≡ Some question → question.outcome ≡ Some o
      → get (remove s.values.questions q) r ≡ Some question
  outcome_left r question o true t is given_ = has_none r question o t is given_
  outcome_left r question o false t is given_ = gone_at s.values.questions q r false t ∙ is

  -- without its question, whether its gate is over or not
  pub left_grows : Grown s [] (without_question s q)
  left_grows =
      record {
        places =
            record {
              ways = record { promises = λ p value is. is; questions = λ r question o is given_. outcome_left r question o (q == r) refl is given_ };
              answers = λ a o is. is;
              exports = λ e cap is. is;
              one_export = λ is. is;
            };
        refs =
            record {
              imports = λ i value is. is;
              unresolved = λ i value is. is;
              wired = λ r question o is given_ wire. (gone_cases s.values.questions q r question is).1;
            };
        tickets = tickets_by refl (answers_as_were s) (λ r x is own. (x, (gone_cases s.entries.questions q r x is).1, refl, own));
        mails = no_mail refl (λ h. each_gone (λ r (x : Exchange QuestionEntry). is_finish_noted x.stage ≡ false)
            (λ r (x : Exchange QuestionEntry). is_finish_noted x.stage ≡ false) s.entries.questions q h (λ r x other is not. not));
        loops = silent refl refl;
      }

  pub left_question_grows : Grown s [] (without_question (question_over s q outcome) q)
  left_question_grows =
      record {
        places = record { ways = left_grows.places.ways; answers = λ a o is. is; exports = λ e cap is. is; one_export = λ is. is };
        refs = record { imports = λ i value is. is; unresolved = λ i value is. is; wired = left_grows.refs.wired };
        tickets = tickets_by refl (answers_as_were s) (λ r x is own. (x, (gone_cases s.entries.questions q r x is).1, refl, own));
        mails = no_mail refl left_grows.mails.unfinished;
        loops = silent refl refl;
      }

-- where its call wasn't sent at once
module _ (s : State) (q : ℕ) (outcome : Outcome) (may : MayGive s (origins.Own q)) where
  not_wired : {A : Type 0} (r : ℕ) (question x : QuestionState) → (q == r) ≡ true → get s.values.questions r ≡ Some x → question ≡ record x { outcome = Some outcome }
      → IsTrue (is_wire_kind question.kind) → A
  not_wired r question x t is e wire =
      let here : get s.values.questions q ≡ Some x = rw (is_equal q r t) is in
      absurd (true≢false (sym wire ∙ ap (λ (y : QuestionState). is_wire_kind y.kind) e ∙ (may x here).1))

  wired_by : (r : ℕ) (question : QuestionState) (b : Bool) → (q == r) ≡ b → get (question_settled s q outcome).values.questions r ≡ Some question
      → IsTrue (is_wire_kind question.kind) → get s.values.questions r ≡ Some question
  wired_by r question true t is wire =
      let found = mapped_out (λ (x : QuestionState). record x { outcome = Some outcome }) (get s.values.questions r) question
      (sym (changed_get s.values.questions q r (λ x. record x { outcome = Some outcome }) true t) ∙ is) in
      not_wired r question found.0 t found.1 found.2 wire
  wired_by r question false t is wire = sym (changed_get s.values.questions q r (λ x. record x { outcome = Some outcome }) false t) ∙ is

  unset_by : (question : QuestionState) → get s.values.questions q ≡ Some question → question.outcome ≡ None
  unset_by question is = (may question is).0

  pub settled_question_grows : Grown s (effects.Settled q outcome ∷ []) (question_settled s q outcome)
  settled_question_grows =
      record {
        places = outcome_places s q outcome unset_by;
        refs =
            record {
              imports = λ i value is. is;
              unresolved = λ i value is. is;
              wired = λ r question o is given_ wire. wired_by r question (q == r) refl is wire;
            };
        tickets = outcome_tickets s q outcome unset_by;
        mails = outcome_mails s q outcome unset_by;
        loops = silent refl refl;
      }

  pub ended_question_grows : Grown s [] (without_question (question_over s q outcome) q)
  ended_question_grows = left_question_grows s q outcome unset_by

own_by : (old : State) (q : ℕ) (outcome : Outcome) (stage : Stage) (done : Done) → MayGive old (origins.Own q) → GiveOwnBy old q outcome stage (Ok done)
    → Grown old done.0 done.1
own_by old q outcome stages.Open done may gives = rw (ok_in _ _ gives) (settled_question_grows old q outcome may)
own_by old q outcome stages.Finished done may gives = rw (ok_in _ _ gives) (ended_question_grows old q outcome may)
own_by old q outcome stages.Returned done may gives = absurd gives

pub give_grows : (old : State) (origin : Origin) (outcome : Outcome) (done : Done) → AreOne old → MayGive old origin → Give old origin outcome (Ok done)
    → Grown old done.0 done.1
give_grows old (origins.Answer a) outcome done one may gives = answer_grows old a outcome done one may gives
give_grows old (origins.Own q) outcome done one may gives = own_by old q outcome gives.0.stage done may gives.2
