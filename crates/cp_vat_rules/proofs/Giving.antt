-- How outcomes are given, and promises settled.
use Rattle.std.proofs.lemmas.List.{at_drop_more, drop_all}
use Rattle.std.proofs.Common.{◌≡◌, ℕ, ◌+◌, ◌<◌, ◌≤◌, List, [], ◌∷◌, ◌++◌, length, get_or, drop, Option, Some, None, IsOkAnd, Result, Ok, Err, refl, sym, ap, ◌∙◌, subst, append_assoc, append-nil}
use Rattle.std.specs.Option.{option_map, option_map_or}
use Rattle.std.specs.FinMap.{get, insert}
use Rattle.cp_tables.specs.Table.{Table, with_change}
use Rattle.cp_vat_machine.specs.declared.entry.QuestionEntry.{QuestionEntry}
use Rattle.cp_tables.specs.Exchange.{new_exchange, HasStage, with_stage, with_kept}
use Rattle.cp_tables.specs.declared.exchange.Exchange.{Exchange}
use Rattle.cp_tables.specs.declared.exchange.Stage.TheVariants as stages
use Rattle.cp_tables.proofs.TableLemmas.{get-insert_same, get-insert_other, is_insert}
use Rattle.cp_messages.specs.declared.returned.Returned.{Returned}
use Rattle.cp_messages.specs.declared.returned.Returned.TheVariants as returns
use Rattle.cp_vat_machine.specs.declared.entry.AnswerEntry.{AnswerEntry}
use Rattle.cp_messages.specs.declared.resolve.Resolution.{Resolution}
use Rattle.cp_messages.specs.declared.resolve.Resolution.TheVariants as resolutions
use Rattle.cp_messages.specs.declared.exception.Exception.{Exception}
use Rattle.cp_refs.specs.At.{cap_at}
use Rattle.cp_refs.specs.declared.cap.Cap.{Cap}
use Rattle.cp_refs.specs.declared.cap.Cap.TheVariants as caps
use Rattle.cp_refs.specs.declared.outcome.Outcome.{Outcome}
use Rattle.cp_vat_machine.specs.State.{State}
use Rattle.cp_vat_machine.specs.Then.{Done, Then, after as following}
use Rattle.cp_vat_machine.specs.Writing.{WritesEnd, ResolvesTo}
use Rattle.cp_vat_machine.specs.Give.{return_of, given, gone, Returns, ResolvesEnd, Settle, SettleTied, Tells, settled, value_for, last_for, GiveBy}
use Rattle.cp_vat_machine.specs.declared.effect.Effect.{Effect}
use Rattle.cp_vat_machine.specs.declared.entry.Tied.{Tied}
use Rattle.cp_vat_machine.specs.declared.fault.PeerFault.{PeerFault}
use Rattle.cp_vat_state.specs.Halts.{Leaves, Acts}
use Rattle.cp_vat_rules.specs.Settling.{Settles}
use Rattle.cp_vat_state.specs.Queue.{Queue}
use Rattle.cp_vat_state.specs.declared.step_fault.StepFault.{StepFault}
use Rattle.cp_vat_state.specs.declared.step_fault.StepFault.TheVariants as halts

-- the queue of a state
abbrev pub queue_of : State → Queue
queue_of s = record { waiting = s.waiting; next_ticket = s.next_ticket }

-- what doesn't fail is resolved by its descriptor
pub resolves_other : (s : State) (last : Cap) (out : Result (Resolution × State) PeerFault) → ((x : Exception) → last ≡ caps.Broken x → ⊥) → Then (WritesEnd s last) (λ said out. out ≡ Ok (resolutions.Cap said.0, said.1)) out → ResolvesEnd s last out
resolves_other s caps.None out other said = said
resolves_other s (caps.Object k) out other said = said
resolves_other s (caps.Promise p) out other said = said
resolves_other s (caps.Import i) out other said = said
resolves_other s (caps.Pipelined q path) out other said = said
resolves_other s (caps.Broken x) out other said = absurd (other x refl)

-- a fault passes on
pub acts_err : {A : Type 0} (R : Result (A × State) PeerFault → Type 0) (Q : Result Done PeerFault → Type 0) (step_fault : StepFault) (mid new : State) (before after : List Effect) → ((fault : PeerFault) → R (Err fault) → Q (Err fault)) → Leaves R (Err step_fault) mid → Acts Q (Err step_fault) before after new
acts_err R Q (halts.Fault fault) mid new before after on h = on fault h
acts_err R Q halts.OutOfMemory mid new before after on h = tt

-- so where what was done is told later
pub settles_err : (A B : Type 0) (R : Result (A × State) PeerFault → Type 0) (Q : Result Done PeerFault → Type 0) (step_fault : StepFault) (mid : State) (before after : List Effect) (new : B → State) → ((fault : PeerFault) → R (Err fault) → Q (Err fault)) → Leaves R (Err step_fault) mid → Settles Q (Err step_fault) before after new
settles_err A B R Q (halts.Fault fault) mid before after new on h = on fault h
settles_err A B R Q halts.OutOfMemory mid before after new on h = tt

-- and from one such rule to another
pub settles_on : (A B : Type 0) (R Q : Result Done PeerFault → Type 0) (step_fault : StepFault) (before after before' after' : List Effect) (mid : A → State) (new : B → State) → ((fault : PeerFault) → R (Err fault) → Q (Err fault)) → Settles R (Err step_fault) before after mid → Settles Q (Err step_fault) before' after' new
settles_on A B R Q (halts.Fault fault) before after before' after' mid new on h = on fault h
settles_on A B R Q halts.OutOfMemory before after before' after' mid new on h = tt

pub acts_settled : (A : Type 0) (R Q : Result Done PeerFault → Type 0) (step_fault : StepFault) (before after before' after' : List Effect) (mid : A → State) (new : State) → ((fault : PeerFault) → R (Err fault) → Q (Err fault)) → Settles R (Err step_fault) before after mid → Acts Q (Err step_fault) before' after' new
acts_settled A R Q (halts.Fault fault) before after before' after' mid new on h = on fault h
acts_settled A R Q halts.OutOfMemory before after before' after' mid new on h = tt

-- what meets one rule meets another
pub acts_as : (R Q : Result Done PeerFault → Type 0) (r : Result (Unit {0}) StepFault) (before after : List Effect) (new : State) → ((out : Result Done PeerFault) → R out → Q out) → Acts R r before after new → Acts Q r before after new
acts_as R Q (Ok x) before after new on h = (h.0, h.1, on _ h.2)
acts_as R Q (Err (halts.Fault fault)) before after new on h = on _ h
acts_as R Q (Err halts.OutOfMemory) before after new on h = tt

-- effects, before what the rest gives
abbrev pub prefixed : List Effect → Result Done PeerFault → Result Done PeerFault
prefixed done (Ok rest) = Ok (following done rest)
prefixed done (Err fault) = Err fault

prefixed_twice : (done more : List Effect) (out : Result Done PeerFault) → prefixed done (prefixed more out) ≡ prefixed (done ++ more) out
prefixed_twice done more (Ok rest) = ap (λ l. Ok (l, rest.1)) (sym (append_assoc done more rest.0))
prefixed_twice done more (Err fault) = refl

tied_more : (old mid : State) (outcome : Outcome) (t : Tied) (more : List Tied) (first : List Effect) (out : Result Done PeerFault) → Settle old t.promise (cap_at outcome t.path) (Ok (first, mid)) → SettleTied mid outcome more out → SettleTied old outcome (t ∷ more) (prefixed first out)
tied_more old mid outcome t more first (Ok rest) settles follows = (Ok (first, mid), settles, (Ok rest, follows, refl))
tied_more old mid outcome t more first (Err fault) settles follows = (Ok (first, mid), settles, (Err fault, follows, refl))

module _ (start now : State) (outcome : Outcome) (xs : List Tied) (i : ℕ) (done : List Effect) (goes_on : (out : Result Done PeerFault) → SettleTied now outcome (drop i xs) out → SettleTied start outcome xs (prefixed done out)) where
  pub tied_step : (t : Tied) (before after : List Effect) (mid : State) (value : Cap) → i < length xs → t ≡ get_or xs i t → value ≡ cap_at outcome t.path → (first : List Effect) × (after ≡ before ++ first) × Settle now t.promise value (Ok (first, mid)) → (so_far : List Effect) → before ≡ so_far ++ done
      → (all : List Effect) × (after ≡ so_far ++ all) × ((out : Result Done PeerFault) → SettleTied mid outcome (drop (i + 1) xs) out → SettleTied start outcome xs (prefixed all out))
  tied_step t before after mid value inside is given went so_far was = (
    done ++ went.0,
    went.1 ∙ ap (λ b. b ++ went.0) was ∙ append_assoc so_far done went.0,
    λ out rest.
        let here : drop i xs ≡ t ∷ drop (i + 1) xs = at_drop_more (λ l. l) xs i t inside ∙ ap (λ d. d ∷ drop (i + 1) xs) (sym is) in
        let settles : Settle now t.promise (cap_at outcome t.path) (Ok (went.0, mid)) = subst (λ v. Settle now t.promise v (Ok (went.0, mid))) given went.2 in
        let whole = goes_on (prefixed went.0 out) (subst (λ l. SettleTied now outcome l (prefixed went.0 out)) (sym here) (tied_more now mid outcome t (drop (i + 1) xs) went.0 out settles rest)) in
        subst (λ o. SettleTied start outcome xs o) (prefixed_twice done went.0 out) whole,
  )

  pub tied_fails : (t : Tied) (value : Cap) (fault : PeerFault) → i < length xs → t ≡ get_or xs i t → value ≡ cap_at outcome t.path → Settle now t.promise value (Err fault) → SettleTied start outcome xs (Err fault)
  tied_fails t value fault inside is given went =
      let here : drop i xs ≡ t ∷ drop (i + 1) xs = at_drop_more (λ l. l) xs i t inside ∙ ap (λ d. d ∷ drop (i + 1) xs) (sym is) in
      goes_on (Err fault) (subst (λ l. SettleTied now outcome l (Err fault)) (sym here) (Err fault, subst (λ v. Settle now t.promise v (Err fault)) given went, refl))

  pub tied_done : length xs ≤ i → SettleTied start outcome xs (Ok (done, now))
  tied_done past =
      let whole = goes_on (Ok ([], now)) (subst (λ l. SettleTied now outcome l (Ok ([], now))) (sym (drop_all i xs past)) refl) in
      subst (λ l. SettleTied start outcome xs (Ok (l, now))) (append-nil done) whole

-- a fault passes on from a rule with effects
pub acts_stop : (R Q : Result Done PeerFault → Type 0) (step_fault : StepFault) (before after before' after' : List Effect) (mid new : State) → ((fault : PeerFault) → R (Err fault) → Q (Err fault)) → Acts R (Err step_fault) before after mid → Acts Q (Err step_fault) before' after' new
acts_stop R Q (halts.Fault fault) before after before' after' mid new on h = on fault h
acts_stop R Q halts.OutOfMemory before after before' after' mid new on h = tt

-- an answer that was open is noted as given
abbrev entry_in : AnswerEntry → Option AnswerEntry → AnswerEntry
entry_in kept None = kept
entry_in kept (Some entry) = entry

pub same_entry : (kept now : AnswerEntry) (o : Option (Exchange AnswerEntry)) → Some now ≡ option_map (λ entry. entry.kept) o → o ≡ Some (record { stage = stages.Open; kept = kept }) → now ≡ kept
same_entry kept now o value there = ap (entry_in kept) (value ∙ ap (option_map (λ entry. entry.kept)) there)

pub insert_twice : {X : Type 0} (table : Table X) (id : ℕ) (x y : X) → insert (insert table id x) id y ≡ insert table id y
insert_twice table id x y = is_insert table _ id y (get-insert_same (insert table id x) id y) (λ q other. get-insert_other (insert table id x) id q y other ∙ get-insert_other table id q x other)

pub given_noted : {A F : Type 0} (table new : Table (Exchange AnswerEntry)) (id : ℕ) (kept next : AnswerEntry) (r : Result A F) → get table id ≡ Some (record { stage = stages.Open; kept = kept }) → (HasStage (with_kept table id next) id stages.Open → IsOkAnd r (λ _. new ≡ with_stage (with_kept table id next) id stages.Returned)) → new ≡ insert table id (record { stage = stages.Returned; kept = next })
given_noted table new id kept next r there noted =
    let was : with_kept table id next ≡ insert table id (record { stage = stages.Open; kept = next }) = rw there refl in
    let at : get (insert table id (record { stage = stages.Open; kept = next })) id ≡ Some (record { stage = stages.Open; kept = next }) = get-insert_same table id _ in
    let staged : with_stage (insert table id (record { stage = stages.Open; kept = next })) id stages.Returned ≡ insert (insert table id (record { stage = stages.Open; kept = next })) id (record { stage = stages.Returned; kept = next }) = rw at refl in
    let has : HasStage (with_kept table id next) id stages.Open = subst (λ t. HasStage t id stages.Open) (sym was) (rw at refl) in
    ok_and r _ (noted has) ∙ ap (λ t. with_stage t id stages.Returned) was ∙ staged ∙ insert_twice table id _ _
  where
    ok_and : {A F : Type 0} (r : Result A F) (P : Type 0) → IsOkAnd r (λ _. P) → P
    ok_and (Ok x) P h = h
    ok_and (Err f) P h = absurd h

-- an open answer is given: its Return goes out, and then its tied promises are settled
pub given_open : (old said new : State) (id : ℕ) (outcome : Outcome) (kept : AnswerEntry) (returned : Returned) (before pushed after : List Effect) → Returns old outcome (Ok (returned, said)) → pushed ≡ before ++ return_of id returned ∷ []
    → (first : List Effect) × (after ≡ pushed ++ first) × SettleTied (given said id kept outcome returned) outcome kept.tied (Ok (first, new))
    → (first : List Effect) × (after ≡ before ++ first) × GiveBy old id outcome kept stages.Open (Ok (first, new))
given_open old said new id outcome kept returned before pushed after is_said was settles = (
  (return_of id returned ∷ []) ++ settles.0,
  settles.1 ∙ ap (λ l. l ++ settles.0) was ∙ append_assoc before (return_of id returned ∷ []) settles.0,
  (Ok (returned, said), is_said, (Ok (settles.0, new), settles.2, refl)),
)

-- an answer is given after its Finish: its Return says that it was canceled, and then its tied promises are settled
pub given_canceled : (old new : State) (id : ℕ) (outcome : Outcome) (kept : AnswerEntry) (before pushed after : List Effect) → pushed ≡ before ++ return_of id returns.Canceled ∷ []
    → (first : List Effect) × (after ≡ pushed ++ first) × SettleTied (gone old id outcome) outcome kept.tied (Ok (first, new))
    → (first : List Effect) × (after ≡ before ++ first) × GiveBy old id outcome kept stages.Finished (Ok (first, new))
given_canceled old new id outcome kept before pushed after was settles = (
  (return_of id returns.Canceled ∷ []) ++ settles.0,
  settles.1 ∙ ap (λ l. l ++ settles.0) was ∙ append_assoc before (return_of id returns.Canceled ∷ []) settles.0,
  (Ok (settles.0, new), settles.2, refl),
)

-- a question is opened, and its mentions are noted
pub question_noted : (table opened new : Table (Exchange QuestionEntry)) (q : ℕ) (e : QuestionEntry) (ids : List ℕ) → opened ≡ insert table q (new_exchange e) → new ≡ with_change opened q (λ entry. record entry { kept = record entry.kept { mentions = ids } }) → new ≡ insert table q (new_exchange (record e { mentions = ids }))
question_noted table opened new q e ids is noted =
    let there : get opened q ≡ Some (new_exchange e) = ap (λ t. get t q) is ∙ get-insert_same table q (new_exchange e) in
    noted ∙ ap (λ o. option_map_or (λ entry. insert opened q (record entry { kept = record entry.kept { mentions = ids } })) o opened) there ∙ ap (λ t. insert t q (new_exchange (record e { mentions = ids }))) is ∙ insert_twice table q _ _

-- a promise is settled, where what it came to is told
module _ (old : State) (p : ℕ) (value reached v last : Cap) (came : ResolvesTo old.values value reached) (is_v : v ≡ value_for p reached value) (is_last : last ≡ last_for p reached) where
  pub settle_by : (out : Result Done PeerFault) → Tells (settled old p v) p last out → Settle old p value out
  settle_by out told = (reached, came, subst (λ w. Tells (settled old p w) p (last_for p reached) out) is_v (subst (λ l. Tells (settled old p v) p l out) is_last told))
