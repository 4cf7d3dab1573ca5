-- Parts of an event that send no Call, deliver nothing and leave calls waiting as they are: promises that are settled, and outcomes that are given.
use Rattle.std.specs.Prelude.{◌≡◌, refl, ℕ, ◌==◌, Bool, true, false, List, [], ◌∷◌, ◌++◌, Option, Some, None, option_map, option_to_list, Ok}
use Rattle.std.specs.List.{list_any}
use Rattle.std.specs.FinMap.{get}
use Rattle.std.proofs.Common.{inl, inr, ap, sym, ◌∙◌, true≢false}
use Rattle.cp_tables.specs.Table.{with_change}
use Rattle.cp_tables.specs.declared.exchange.Exchange.{Exchange}
use Rattle.cp_tables.specs.declared.exchange.Stage.{Stage}
use Rattle.cp_tables.specs.declared.exchange.Stage.TheVariants as stages
use Rattle.cp_messages.specs.declared.descriptor.Descriptor.{Descriptor}
use Rattle.cp_messages.specs.declared.message.Message.{Message}
use Rattle.cp_messages.specs.declared.message.Message.TheVariants as messages
use Rattle.cp_messages.specs.declared.resolve.Resolution.{Resolution}
use Rattle.cp_messages.specs.declared.resolve.Resolution.TheVariants as resolutions
use Rattle.cp_messages.specs.declared.returned.Returned.{Returned}
use Rattle.cp_messages.specs.declared.returned.Returned.TheVariants as returns
use Rattle.cp_refs.specs.At.{cap_at}
use Rattle.cp_refs.specs.declared.cap.Cap.{Cap}
use Rattle.cp_refs.specs.declared.cap.Cap.TheVariants as caps
use Rattle.cp_refs.specs.declared.call.Origin.{Origin}
use Rattle.cp_refs.specs.declared.call.Origin.TheVariants as origins
use Rattle.cp_refs.specs.declared.outcome.Outcome.{Outcome}
use Rattle.cp_refs.specs.declared.outcome.Outcome.TheVariants as outcomes
use Rattle.cp_vat_machine.specs.State.{State, with_exports}
use Rattle.cp_vat_machine.specs.Then.{Done, Then}
use Rattle.cp_vat_machine.specs.Writing.{WritesEnd, WritesDescriptors}
use Rattle.cp_vat_machine.specs.Give.{resolve_of, ResolvesEnd, Tells, settled, value_for, last_for, Settle, SettleTied, Returns, given, gone, return_of, GiveBy, GiveAnswer, question_settled, GiveOwnBy, GiveOwn, Give}
use Rattle.cp_vat_machine.specs.Go.{delivered}
use Rattle.cp_vat_machine.specs.declared.effect.Effect.{Effect}
use Rattle.cp_vat_machine.specs.declared.effect.Effect.TheVariants as effects
use Rattle.cp_vat_machine.specs.declared.entry.QuestionEntry.{QuestionEntry}
use Rattle.cp_vat_machine.specs.declared.entry.Tied.{Tied}
use Rattle.cp_vat_machine.proofs.Basics.{ok_in, then_out}
use Rattle.cp_vat_laws.proofs.Tables.{there_of}
use Rattle.cp_vat_pair_laws.specs.Accounts.{is_finish_noted}
use Rattle.cp_vat_pair_laws.specs.Lane.{own_ticket, answer_forwarded}
use Rattle.cp_vat_pair_laws.specs.Places.{NoneFinished}
use Rattle.cp_vat_pair_laws.specs.VatPair.{messages_sent}
use Rattle.cp_vat_pair_laws.proofs.counts.rules.TwoParts.{sent_both}
use Rattle.cp_vat_pair_laws.proofs.counts.rules.Say.{said_end, said_all}
use Rattle.cp_vat_pair_laws.proofs.still.Grows.{any_none}
use Rattle.cp_vat_pair_laws.proofs.still.Give.{changed_get}

-- a Call, and a delivery
abbrev pub is_call : Message → Bool
is_call (messages.Call c) = true
is_call other = false

abbrev pub is_delivery : Effect → Bool
is_delivery (effects.Deliver object origin ticket call) = true
is_delivery other = false

-- Each question bears the ticket that it bore, and gives the answer that it gave.
pub record SameBearing (old new : State) : Type 0 where
  pub tickets : (q : ℕ) → own_ticket (get new.entries.questions q) ≡ own_ticket (get old.entries.questions q)
  pub forwards : (q : ℕ) → answer_forwarded (get new.entries.questions q) ≡ answer_forwarded (get old.entries.questions q)

pub bearing_same : (old new : State) → new.entries.questions ≡ old.entries.questions → SameBearing old new
bearing_same old new same = record { tickets = λ q. ap (λ m. own_ticket (get m q)) same; forwards = λ q. ap (λ m. answer_forwarded (get m q)) same }

pub bearing_both : (old mid new : State) → SameBearing old mid → SameBearing mid new → SameBearing old new
bearing_both old mid new one more = record { tickets = λ q. more.tickets q ∙ one.tickets q; forwards = λ q. more.forwards q ∙ one.forwards q }

-- where a question is changed, and neither its ticket nor what it forwards
abbrev pub BearsOn : (Exchange QuestionEntry → Exchange QuestionEntry) → Type 0
BearsOn f = (x : Exchange QuestionEntry) → ((f x).kept.ticket ≡ x.kept.ticket) × ((f x).kept.forwards ≡ x.kept.forwards)

module _ (f : Exchange QuestionEntry → Exchange QuestionEntry) (on : BearsOn f) where
  ticket_on : (o : Option (Exchange QuestionEntry)) → own_ticket (option_map f o) ≡ own_ticket o
  ticket_on None = refl
  ticket_on (Some x) = rw ((on x).0, (on x).1) refl

  forwards_on : (o : Option (Exchange QuestionEntry)) → answer_forwarded (option_map f o) ≡ answer_forwarded o
  forwards_on None = refl
  forwards_on (Some x) = ap option_to_list (on x).1

  pub bearing_changed : (old new : State) (q : ℕ) → new.entries.questions ≡ with_change old.entries.questions q f → SameBearing old new
  bearing_changed old new q is =
      record {
        tickets = λ r. ap (λ m. own_ticket (get m r)) is ∙ ticket_at r (q == r) refl;
        forwards = λ r. ap (λ m. answer_forwarded (get m r)) is ∙ forwards_at r (q == r) refl;
      }
    where
      ticket_at : (r : ℕ) (b : Bool) → (q == r) ≡ b → own_ticket (get (with_change old.entries.questions q f) r) ≡ own_ticket (get old.entries.questions r)
      ticket_at r true t = ap own_ticket (changed_get old.entries.questions q r f true t) ∙ ticket_on (get old.entries.questions r)
      ticket_at r false t = ap own_ticket (changed_get old.entries.questions q r f false t)

      forwards_at : (r : ℕ) (b : Bool) → (q == r) ≡ b → answer_forwarded (get (with_change old.entries.questions q f) r) ≡ answer_forwarded (get old.entries.questions r)
      forwards_at r true t = ap answer_forwarded (changed_get old.entries.questions q r f true t) ∙ forwards_on (get old.entries.questions r)
      forwards_at r false t = ap answer_forwarded (changed_get old.entries.questions q r f false t)

-- Such a part of an event.
pub record Silent (old : State) (effects : List Effect) (new : State) : Type 0 where
  pub calls : new.waiting.calls ≡ old.waiting.calls
  pub bearing : SameBearing old new
  pub no_call : list_any is_call (messages_sent effects) ≡ false
  pub no_delivery : list_any is_delivery effects ≡ false

pub silent_none : (s : State) → Silent s [] s
silent_none s = record { calls = refl; bearing = bearing_same s s refl; no_call = refl; no_delivery = refl }

pub silent_both : (old mid new : State) (first more : List Effect) → Silent old first mid → Silent mid more new → Silent old (first ++ more) new
silent_both old mid new first more one two =
    record {
      calls = two.calls ∙ one.calls;
      bearing = bearing_both old mid new one.bearing two.bearing;
      no_call = rw (sent_both first more) (any_none is_call (messages_sent first) (messages_sent more) one.no_call two.no_call);
      no_delivery = any_none is_delivery first more one.no_delivery two.no_delivery;
    }

-- what changes exports alone
pub silent_only : (old new : State) (effects : List Effect) → new ≡ with_exports old new.counts.exports → list_any is_call (messages_sent effects) ≡ false
    → list_any is_delivery effects ≡ false → Silent old effects new
silent_only old new effects only call delivery =
    record {
      calls = ap (λ s. s.waiting.calls) only;
      bearing = bearing_same old new (ap (λ s. s.entries.questions) only);
      no_call = call;
      no_delivery = delivery;
    }

-- a promise that is settled
resolution_only : (old : State) (last : Cap) (said : Resolution × State) → Then (WritesEnd old last) (λ said out. out ≡ Ok (resolutions.Cap said.0, said.1)) (Ok said)
    → said.1 ≡ with_exports old said.1.counts.exports
resolution_only old last said says =
    let parts = then_out {A = Descriptor × State} {B = Resolution × State} (WritesEnd old last) _ said says in
    rw (ok_in _ _ parts.2) (said_end old last parts.0 parts.1).only

pub resolves_only : (old : State) (last : Cap) (said : Resolution × State) → ResolvesEnd old last (Ok said) → said.1 ≡ with_exports old said.1.counts.exports
resolves_only old (caps.Broken x) said says = rw (ok_in _ _ says) refl
resolves_only old caps.None said says = resolution_only old caps.None said says
resolves_only old (caps.Object k) said says = resolution_only old (caps.Object k) said says
resolves_only old (caps.Promise p) said says = resolution_only old (caps.Promise p) said says
resolves_only old (caps.Import i) said says = resolution_only old (caps.Import i) said says
resolves_only old (caps.Pipelined q path) said says = resolution_only old (caps.Pipelined q path) said says

tells_silent : (old : State) (p : ℕ) (last : Cap) (done : Done) → Tells old p last (Ok done) → Silent old done.0 done.1
tells_silent old p last done (inl h) = rw (ok_in _ _ h.1) (silent_none old)
tells_silent old p last done (inr h) =
    let parts = then_out {A = Resolution × State} {B = Done} (ResolvesEnd old last) _ done h.2 in
    rw (ok_in _ _ parts.2) (silent_only old parts.0.1 (resolve_of h.0 parts.0.0 ∷ []) (resolves_only old last parts.0 parts.1) refl refl)

settled_silent : (old : State) (p : ℕ) (v : Cap) → Silent old [] (settled old p v)
settled_silent old p v = record { calls = refl; bearing = bearing_same old (settled old p v) refl; no_call = refl; no_delivery = refl }

pub settle_silent : (old : State) (p : ℕ) (value : Cap) (done : Done) → Settle old p value (Ok done) → Silent old done.0 done.1
settle_silent old p value done (last, comes, tells) =
    let mid : State = settled old p (value_for p last value) in
    silent_both old mid done.1 [] done.0 (settled_silent old p (value_for p last value)) (tells_silent mid p (last_for p last) done tells)

pub tied_silent : (tied : List Tied) (old : State) (outcome : Outcome) (done : Done) → SettleTied old outcome tied (Ok done) → Silent old done.0 done.1
tied_silent [] old outcome done settles = rw (ok_in _ _ settles) (silent_none old)
tied_silent (tied ∷ more) old outcome done settles =
    let first = then_out {A = Done} {B = Done} (Settle old tied.promise (cap_at outcome tied.path)) _ done settles in
    let rest = then_out {A = Done} {B = Done} (SettleTied first.0.1 outcome more) _ done first.2 in
    rw
    (ok_in _ _ rest.2)
    (silent_both old first.0.1 rest.0.1 first.0.0 rest.0.0 (settle_silent old tied.promise (cap_at outcome tied.path) first.0 first.1)
    (tied_silent more first.0.1 outcome rest.0 rest.1))

-- an outcome that is given
pub returns_only : (old : State) (outcome : Outcome) (said : Returned × State) → Returns old outcome (Ok said) → said.1 ≡ with_exports old said.1.counts.exports
returns_only old (outcomes.Results content table) said says =
    let parts = then_out {A = List Descriptor × State} {B = Returned × State} (WritesDescriptors old table) _ said says in
    rw (ok_in _ _ parts.2) (said_all table old parts.0 parts.1).only
returns_only old (outcomes.Failed x) said says = rw (ok_in _ _ says) refl
returns_only old outcomes.Canceled said says = rw (ok_in _ _ says) refl

answer_by : (old : State) (a : ℕ) (outcome : Outcome) (done : Done) (gives : GiveAnswer old a outcome (Ok done)) (stage : Stage)
    → GiveBy old a outcome gives.0.kept stage (Ok done) → Silent old done.0 done.1
answer_by old a outcome done gives stages.Open does =
    let kept = gives.0.kept in
    let said = then_out {A = Returned × State} {B = Done} (Returns old outcome) _ done does in
    let mid : State = said.0.1 in
    let new : State = given mid a kept outcome said.0.0 in
    let rest = then_out {A = Done} {B = Done} (SettleTied new outcome kept.tied) _ done said.2 in
    let first = silent_only old mid (return_of a said.0.0 ∷ []) (returns_only old outcome said.0 said.1) refl refl in
    let second : Silent mid [] new = record { calls = refl; bearing = bearing_same mid new refl; no_call = refl; no_delivery = refl } in
    let last = tied_silent kept.tied new outcome rest.0 rest.1 in
    rw
    (ok_in _ _ rest.2)
    (silent_both old mid rest.0.1 (return_of a said.0.0 ∷ []) rest.0.0 first (silent_both mid new rest.0.1 [] rest.0.0 second last))
answer_by old a outcome done gives stages.Finished does =
    let kept = gives.0.kept in
    let new : State = gone old a outcome in
    let rest = then_out {A = Done} {B = Done} (SettleTied new outcome kept.tied) _ done does in
    let second : Silent old (return_of a returns.Canceled ∷ []) new = record { calls = refl; bearing = bearing_same old new refl; no_call = refl; no_delivery = refl } in
    rw (ok_in _ _ rest.2) (silent_both old new rest.0.1 (return_of a returns.Canceled ∷ []) rest.0.0 second (tied_silent kept.tied new outcome rest.0 rest.1))
answer_by old a outcome done gives stages.Returned does = absurd does

pub answer_silent : (old : State) (a : ℕ) (outcome : Outcome) (done : Done) → GiveAnswer old a outcome (Ok done) → Silent old done.0 done.1
answer_silent old a outcome done gives = answer_by old a outcome done gives gives.0.stage gives.2

settled_question_silent : (old : State) (q : ℕ) (outcome : Outcome) → Silent old (effects.Settled q outcome ∷ []) (question_settled old q outcome)
settled_question_silent old q outcome =
    record {
      calls = refl;
      bearing = bearing_changed (λ x. record x { stage = stages.Returned }) (λ x. (refl, refl)) old (question_settled old q outcome) q refl;
      no_call = refl;
      no_delivery = refl;
    }

own_by : (old : State) (q : ℕ) (outcome : Outcome) (entry : Exchange QuestionEntry) (stage : Stage) (done : Done) → NoneFinished old → get old.entries.questions q ≡ Some entry
    → entry.stage ≡ stage → GiveOwnBy old q outcome stage (Ok done) → Silent old done.0 done.1
own_by old q outcome entry stages.Open done none is at gives = rw (ok_in _ _ gives) (settled_question_silent old q outcome)
own_by old q outcome entry stages.Finished done none is at gives =
    let not_ = there_of (λ (x : Exchange QuestionEntry). is_finish_noted x.stage ≡ false) (get old.entries.questions q) entry is (none q) in
    absurd (true≢false (sym (ap is_finish_noted at) ∙ not_))
own_by old q outcome entry stages.Returned done none is at gives = absurd gives

pub own_silent : (old : State) (q : ℕ) (outcome : Outcome) (done : Done) → NoneFinished old → GiveOwn old q outcome (Ok done) → Silent old done.0 done.1
own_silent old q outcome done none gives = own_by old q outcome gives.0 gives.0.stage done none gives.1 refl gives.2

pub give_silent : (old : State) (origin : Origin) (outcome : Outcome) (done : Done) → NoneFinished old → Give old origin outcome (Ok done) → Silent old done.0 done.1
give_silent old (origins.Answer a) outcome done none gives = answer_silent old a outcome done gives
give_silent old (origins.Own q) outcome done none gives = own_silent old q outcome done none gives

-- a call that is delivered, but for the delivery itself
pub delivered_silent : (s : State) (origin : Origin) → Silent s [] (delivered s origin)
delivered_silent s (origins.Answer a) =
    record { calls = refl; bearing = bearing_same s (delivered s (origins.Answer a)) refl; no_call = refl; no_delivery = refl }
delivered_silent s (origins.Own q) =
    record {
      calls = refl;
      bearing = bearing_changed (λ x. record x { kept = record x.kept { is_delivered = true } }) (λ x. (refl, refl)) s (delivered s (origins.Own q)) q refl;
      no_call = refl;
      no_delivery = refl;
    }
