-- No call goes but on a reference to which a chain of messages leads.
use Rattle.std.proofs.Common.{◌≡◌, ◌≢◌, ◌⊎◌, inl, inr, ℕ, suc, ◌-◌, Bool, true, false, not, ◌&&◌, if◌then◌else◌, nat_lt, ◌==◌, List, [], ◌∷◌, length, Option, Some, None, refl, sym, ◌∙◌, ap, subst, arith, true≢false}
use Rattle.std.proofs.lemmas.Bool.{cases_eq}
use Rattle.std.proofs.lemmas.Option.{none-some}
use Rattle.std.proofs.lemmas.Nat.{and_or_apart, and_le_l, and_le_r, and_assoc}
use Rattle.std.specs.Option.{option_map, option_map_or}
use Rattle.std.specs.List.{Contains, list_any}
use Rattle.std.specs.Ordering.{nat_cmp}
use Rattle.std.specs.FinMap.{get, insert, remove, get-empty}
use Rattle.std.specs.Int.RustNames.{bit_and, bit_or}
use Rattle.cp_tables.specs.Table.{Table}
use Rattle.cp_tables.proofs.TableLemmas.{get-insert_same, get-insert_other, get-remove_same, get-remove_other}
use Rattle.cp_messages.specs.declared.call.Call.{Call}
use Rattle.cp_messages.specs.declared.target.Target.{Target}
use Rattle.cp_messages.specs.declared.target.Target.TheVariants as targets
use Rattle.cp_messages.specs.declared.returned.Return.{Return}
use Rattle.cp_messages.specs.declared.resolve.Resolve.{Resolve}
use Rattle.cp_messages.specs.declared.small.Finish.{Finish}
use Rattle.cp_messages.specs.declared.small.Bootstrap.{Bootstrap}
use Rattle.cp_messages.specs.declared.message.Message.{Message}
use Rattle.cp_messages.specs.declared.message.Message.TheVariants as messages
use Rattle.cp_relay.specs.declared.rules.Rules.{Rules}
use Rattle.cp_relay.specs.declared.rules.Grant.{Grant}
use Rattle.cp_relay.specs.declared.references.Given.{Given}
use Rattle.cp_relay.specs.declared.references.Question.{Question}
use Rattle.cp_relay.specs.declared.references.QuestionStage.{QuestionStage}
use Rattle.cp_relay.specs.declared.references.QuestionStage.TheVariants as stages
use Rattle.cp_relay.specs.declared.references.Side.{Side}
use Rattle.cp_relay.specs.declared.references.References.{References}
use Rattle.cp_relay.specs.declared.ruling.Breach.{Breach}
use Rattle.cp_relay.specs.Rules.{is_method, is_in, may_call, follows, marks_after, is_granted}
use Rattle.cp_relay.specs.References.{given_more, raised, raised_all, lowered_by, lowered, lowered_all, lowered_if, marks_of, has_room, noted, opened, closed_by, lent, answered_by, finished_at, finished_by, hosted_numbers, returned_numbers, resolved_number}
use Rattle.cp_relay.specs.Followed.{Between, asked_by, gained, followed, results_followed, then_closed, return_at, return_by, return_followed, then_answered, resolve_by}
use Rattle.cp_relay.specs.declared.ruling.Ruling.{Ruling}
use Rattle.cp_relay.specs.declared.ruling.Ruling.TheVariants as rulings
use Rattle.cp_relay.specs.State.{may_reach}
use Rattle.cp_relay.specs.Judged.{goes, judged, judged_from}
use Rattle.cp_relay.specs.Allowed.{Goes}
use Rattle.cp_relay.proofs.Hosted.{not_less}
use Rattle.cp_relay.proofs.Kept.{kept_after, call_reaches}
use Rattle.cp_relay.specs.Traffic.{Heard, from_caller, from_callee, second}
use Rattle.cp_relay.specs.Given.{Reference, object, results, reference_of, sent_by, known_after, Went, given_by, Chain, asked as asks, lent as lends, called, passed, given as gives, stands, Opens, BeginsRule, IsGranted, IsGiven, OnlyGiven, ReleasedIsFree}

some_of : {X : Type 0} (x y : X) → Some x ≡ Some y → x ≡ y
some_of x y e = ap (λ o. option_map_or (λ z. z) o x) e

no_entry : {X : Type 0} (x : X) (o : Option X) → o ≡ None → o ≡ Some x → ⊥
no_entry x o n e = none-some x (sym n ∙ e)

contains_first : (x : ℕ) (xs : List ℕ) → Contains (x ∷ xs) x
contains_first x xs = (0, omega arith, refl)

contains_more : (x y : ℕ) (xs : List ℕ) → Contains xs x → Contains (y ∷ xs) x
contains_more x y xs c = (suc c.0, omega (arith, c.1), c.2)

-- what a call goes to has a name, if the end gave it
reference_at : (end : Bool) (target : Target) (marks : ℕ) (side : Side) → marks_of side target ≡ Some marks → (r : Reference) × (reference_of end target ≡ Some r)
reference_at end (targets.ImportedCap id) marks side e = (object end id, refl)
reference_at end (targets.PromisedAnswer p) marks side e = (results end p.question_id, refl)
reference_at end (targets.Unknown n) marks side e = absurd (none-some marks e)

-- the rules are on the caller's calls alone
abbrev grants_of : Bool → Rules → List Grant
grants_of true rules = []
grants_of false rules = rules.grants.items

abbrev after : Bool → Rules → Call → ℕ
after end rules c = marks_after c.interface_id c.method_id 0 (grants_of end rules)

-- a call doesn't reach what the caller wasn't given
unreached : (rules : Rules) (c : Call) (had : Option ℕ) → had ≡ None → may_reach rules c had ≡ true → ⊥
unreached rules c None e reach = true≢false (sym reach)
unreached rules c (Some marks) e reach = no_entry marks _ e refl

-- Which marks of what an end gave show that it came by what begins in this way. A chain of such a beginning leads to each reference that has them.
pub record Shown (rules : Rules) (Begins : Heard → Type 0) (Shows : Bool → ℕ → Type 0) : Type 0 where
  -- of marks that are joined, one or the other show it, and of those that are shared the last;
  pub either : (end : Bool) (a b : ℕ) → Shows end (bit_or a b) → Shows end a ⊎ Shows end b
  pub both : (end : Bool) (a b : ℕ) → Shows end (bit_and a b) → Shows end b
  -- the marks of what a call gives, or passes, show that it begins so, or those of what it goes to do;
  pub by_call : (end host : Bool) (frame : List ℕ) (c : Call) (marks : ℕ) → Shows host (bit_or (after end rules c) marks) → Begins (sent_by end frame (messages.Call c)) ⊎ Shows (not end) marks
  -- and where there are no other marks, a call of the callee does, a Bootstrap, or what is given by itself
  pub by_none : (end host : Bool) (frame : List ℕ) (c : Call) → end ≡ true → Shows host (after end rules c) → Begins (sent_by end frame (messages.Call c))
  pub by_bootstrap : (end : Bool) (frame : List ℕ) (b : Bootstrap) → Shows (not end) 0 → Begins (sent_by end frame (messages.Bootstrap b))
  pub by_promise : (end : Bool) (frame : List ℕ) (r : Resolve) → Shows end 0 → Begins (sent_by end frame (messages.Resolve r))

module _ (rules : Rules) (Begins : Heard → Type 0) (Shows : Bool → ℕ → Type 0) (shown : Shown rules Begins Shows) where
  -- a chain leads to each reference of an end that is kept with such marks
  abbrev LeadsTo : List Heard → Bool → Side → Type 0
  LeadsTo past end side =
      ((id : ℕ) (g : Given) → get side.given id ≡ Some g → Shows end g.marks → Chain rules Begins past (object end id))
      × ((question : ℕ) (q : Question) → get side.questions question ≡ Some q → Shows end q.marks → Chain rules Begins past (results end question))

  abbrev Leads : List Heard → References → Type 0
  Leads past refs = LeadsTo past false refs.caller × LeadsTo past true refs.callee

  -- What was heard next: a chain leads to each from before it, or by it.
  module _ (past : List Heard) (one : Heard) (end : Bool) where
    abbrev Led : Reference → Type 0
    Led reference = Chain rules Begins past reference ⊎ Chain rules Begins (one ∷ past) reference

    abbrev LedImports : Table Given → Type 0
    LedImports table = (id : ℕ) (g : Given) → get table id ≡ Some g → Shows end g.marks → Led (object end id)

    abbrev LedAnswers : Table Question → Type 0
    LedAnswers table = (question : ℕ) (q : Question) → get table question ≡ Some q → Shows end q.marks → Led (results end question)

    abbrev AllLed : Side → Type 0
    AllLed side = LedImports side.given × LedAnswers side.questions

    more_led : (shares : Bool) (table : Table Given) (id marks : ℕ) (had : Option Given) (g : Given) → get table id ≡ had → LedImports table → (Shows end marks → Led (object end id)) → given_more shares had marks ≡ g → Shows end g.marks → Led (object end id)
    more_led shares table id marks None g e h by is s = by (subst (λ (x : Given). Shows end x.marks) (sym is) s)
    more_led true table id marks (Some had) g e h by is s = by (shown.both end had.marks marks (subst (λ (x : Given). Shows end x.marks) (sym is) s))
    more_led false table id marks (Some had) g e h by is s =
        elim (shown.either end had.marks marks (subst (λ (x : Given). Shows end x.marks) (sym is) s)) [
          | inl old ↦ h id had e old
          | inr new ↦ by new
        ]

    raised_led : (shares : Bool) (table : Table Given) (id marks : ℕ) → LedImports table → (Shows end marks → Led (object end id)) → LedImports (raised shares table id marks)
    raised_led shares table id marks h by q g e s =
        elim (cases_eq q id) [
          | inl same ↦
              let at : get (raised shares table id marks) id ≡ Some g = subst (λ (x : ℕ). get (raised shares table id marks) x ≡ Some g) same e in
              let is = some_of _ _ (sym (get-insert_same table id (given_more shares (get table id) marks)) ∙ at) in
              subst (λ (x : ℕ). Led (object end x)) (sym same) (more_led shares table id marks (get table id) g refl h by is s)
          | inr other ↦ h q g (sym (get-insert_other table id q (given_more shares (get table id) marks) other) ∙ e) s
        ]

    raised_all_led : (shares : Bool) (ids : List ℕ) (table : Table Given) (marks : ℕ) → LedImports table → ((id : ℕ) → Contains ids id → Shows end marks → Led (object end id)) → LedImports (raised_all shares table marks ids)
    raised_all_led shares [] table marks h by = h
    raised_all_led shares (id ∷ ids) table marks h by =
        raised_all_led shares ids (raised shares table id marks) marks (raised_led shares table id marks h (by id (contains_first id ids))) (λ x c. by x (contains_more x id ids c))

    lowered_by_led : (table : Table Given) (id n : ℕ) (had : Option Given) (less : Bool) → get table id ≡ had → option_map_or (λ g. nat_lt n g.count) had false ≡ less → LedImports table → LedImports (lowered_by table id n had)
    lowered_by_led table id n None less e l h q g is s = h q g is s
    lowered_by_led table id n (Some had) true e l h q g is s =
        elim (cases_eq q id) [
          | inl same ↦
              let at : get (insert table id (record had { count = had.count - n })) id ≡ Some g = subst (λ (x : ℕ). get (insert table id (record had { count = had.count - n })) x ≡ Some g) same (rw l at is) in
              let entry = some_of _ _ (sym (get-insert_same table id (record had { count = had.count - n })) ∙ at) in
              subst (λ (x : ℕ). Led (object end x)) (sym same) (h id had e (subst (λ (x : Given). Shows end x.marks) (sym entry) s))
          | inr other ↦ h q g (sym (get-insert_other table id q (record had { count = had.count - n }) other) ∙ (rw l at is)) s
        ]
    lowered_by_led table id n (Some had) false e l h q g is s =
        elim (cases_eq q id) [
          | inl same ↦ absurd (no_entry g _ (get-remove_same table id) (subst (λ (x : ℕ). get (remove table id) x ≡ Some g) same (rw l at is)))
          | inr other ↦ h q g (sym (get-remove_other table id q other) ∙ (rw l at is)) s
        ]

    lowered_led : (table : Table Given) (id n : ℕ) → LedImports table → LedImports (lowered table id n)
    lowered_led table id n h = lowered_by_led table id n (get table id) _ refl refl h

    lowered_all_led : (ids : List ℕ) (table : Table Given) → LedImports table → LedImports (lowered_all table ids)
    lowered_all_led [] table h = h
    lowered_all_led (id ∷ ids) table h = lowered_all_led ids (lowered table id 1) (lowered_led table id 1 h)

    lowered_if_led : (release : Bool) (table : Table Given) (ids : List ℕ) → LedImports table → LedImports (lowered_if release table ids)
    lowered_if_led true table ids h = lowered_all_led ids table h
    lowered_if_led false table ids h = h

    put_led : (table : Table Question) (question : ℕ) (x : Question) → LedAnswers table → (Shows end x.marks → Led (results end question)) → LedAnswers (insert table question x)
    put_led table question x h by k q e s =
        elim (cases_eq k question) [
          | inl same ↦
              let at : get (insert table question x) question ≡ Some q = subst (λ (y : ℕ). get (insert table question x) y ≡ Some q) same e in
              let is = some_of _ _ (sym (get-insert_same table question x) ∙ at) in
              subst (λ (y : ℕ). Led (results end y)) (sym same) (by (subst (λ (y : Question). Shows end y.marks) (sym is) s))
          | inr other ↦ h k q (sym (get-insert_other table question k x other) ∙ e) s
        ]

    removed_led : (table : Table Question) (question : ℕ) → LedAnswers table → LedAnswers (remove table question)
    removed_led table question h k q e s =
        elim (cases_eq k question) [
          | inl same ↦ absurd (no_entry q _ (get-remove_same table question) (subst (λ (y : ℕ). get (remove table question) y ≡ Some q) same e))
          | inr other ↦ h k q (sym (get-remove_other table question k other) ∙ e) s
        ]

    -- what becomes of each kind of entry
    noted_led : (side : Side) (question : ℕ) (q : Question) (stage : QuestionStage) → get side.questions question ≡ Some q → AllLed side → AllLed (noted side question q.marks stage)
    noted_led side question q stage e h = (h.0, put_led side.questions question _ h.1 (h.1 question q e))

    closed_led : (side : Side) (question : ℕ) (release : Bool) (q : Option Question) → AllLed side → AllLed (closed_by side question release q)
    closed_led side question release None h = h
    closed_led side question release (Some q) h = (lowered_if_led release side.given q.numbers h.0, removed_led side.questions question h.1)

    answered_led : (side : Side) (call : ℕ) (release : Bool) (numbers : Option (List ℕ)) → AllLed side → AllLed (answered_by side call release numbers)
    answered_led side call release None h = h
    answered_led side call release (Some numbers) h = (lowered_if_led release side.given numbers h.0, h.1)

    finished_at_led : (side : Side) (f : Finish) (q : Question) (stage : QuestionStage) → get side.questions f.question_id ≡ Some q → AllLed side → AllLed (finished_at side f q.marks stage)
    finished_at_led side f q stages.Returned e h = closed_led side f.question_id f.release_result_caps (get side.questions f.question_id) h
    finished_at_led side f q stages.Open e h = noted_led side f.question_id q _ e h
    finished_at_led side f q stages.Finished e h = noted_led side f.question_id q _ e h
    finished_at_led side f q stages.Released e h = noted_led side f.question_id q _ e h

    finished_led : (side : Side) (f : Finish) (q : Option Question) → get side.questions f.question_id ≡ q → AllLed side → AllLed (finished_by side f q)
    finished_led side f None e h = h
    finished_led side f (Some q) e h = finished_at_led side f q q.stage e h

    -- params pass references
    lent_led : (side : Side) (call marks : ℕ) (numbers : List ℕ) (none : Bool) → (length numbers == 0) ≡ none → AllLed side → ((id : ℕ) → Contains numbers id → Shows end marks → Led (object end id)) → AllLed (lent side call marks numbers)
    lent_led side call marks numbers true n h by = rw n h
    lent_led side call marks numbers false n h by = rw n (raised_all_led side.shares numbers side.given marks h.0 by, h.1)

    -- a question is opened
    opened_led : (side : Side) (question marks : ℕ) → AllLed side → (Shows end marks → Led (results end question)) → AllLed (opened side question marks)
    opened_led side question marks h by = (h.0, put_led side.questions question _ h.1 by)

    -- results come
    results_led : (side : Side) (question : ℕ) (q : Question) (numbers : List ℕ) (room : Bool) → has_room side (length numbers) ≡ room → get side.questions question ≡ Some q → AllLed side
        → ((id : ℕ) → Contains numbers id → Shows end q.marks → Led (object end id)) → AllLed (results_followed side question q.marks numbers).side
    results_led side question q numbers false r e h by = rw r h
    results_led side question q numbers true r e h by = rw r (raised_all_led side.shares numbers side.given q.marks h.0 by, put_led side.questions question _ h.1 (h.1 question q e))

    then_closed_led : (question : ℕ) (breach : Option Breach) (side : Side) → AllLed side → AllLed (then_closed question breach side).side
    then_closed_led question (Some breach) side h = h
    then_closed_led question None side h = closed_led side question false (get side.questions question) h

    return_at_led : (side : Side) (r : Return) (q : Question) (stage : QuestionStage) → get side.questions r.answer_id ≡ Some q → AllLed side → ((id : ℕ) → Contains (returned_numbers r.returned) id → Shows end q.marks → Led (object end id))
        → AllLed (return_at side r q.marks stage).side
    return_at_led side r q stages.Open e h by = results_led side r.answer_id q (returned_numbers r.returned) _ refl e h by
    return_at_led side r q stages.Finished e h by =
        then_closed_led r.answer_id _ _ (results_led side r.answer_id q (returned_numbers r.returned) _ refl e h by)
    return_at_led side r q stages.Released e h by = closed_led side r.answer_id false (get side.questions r.answer_id) h
    return_at_led side r q stages.Returned e h by = h

    return_led : (side : Side) (r : Return) (q : Option Question) → get side.questions r.answer_id ≡ q → AllLed side → ((id : ℕ) (x : Question) → q ≡ Some x → Contains (returned_numbers r.returned) id → Shows end x.marks → Led (object end id))
        → AllLed (return_by side r q).side
    return_led side r None e h by = h
    return_led side r (Some q) e h by = return_at_led side r q q.stage e h (λ id c s. by id q refl c s)

    resolve_led : (side : Side) (promise : ℕ) (id : Option ℕ) (room : Bool) → has_room side 1 ≡ room → AllLed side → ((i : ℕ) → id ≡ Some i → Shows end (option_map_or (λ g. g.marks) (get side.given promise) 0) → Led (object end i))
        → AllLed (resolve_by side promise id).side
    resolve_led side promise None room r h by = h
    resolve_led side promise (Some id) false r h by = rw r h
    resolve_led side promise (Some id) true r h by = rw r (raised_led side.shares side.given id _ h.0 (by id refl), h.1)

    all_led : (side : Side) → LeadsTo past end side → AllLed side
    all_led side h = (λ id g at s. inl (h.0 id g at s), λ question q at s. inl (h.1 question q at s))

  -- of the end that sends it, and of the other
  abbrev BothLed : List Heard → Heard → Bool → Between → Type 0
  BothLed past one end b = AllLed past one end b.from × AllLed past one (not end) b.to

  -- a question is asked
  asked_led : (past : List Heard) (one : Heard) (end : Bool) (from to : Side) (question marks : ℕ) (numbers : List ℕ) (q : Option Question) (room : Bool) → (has_room to 1 && has_room from (length numbers)) ≡ room → AllLed past one end from → AllLed past one (not end) to
      → ((id : ℕ) → Contains numbers id → Shows end marks → Led past one end (object end id)) → (Shows (not end) marks → Led past one end (results (not end) question)) → BothLed past one end (asked_by from to question marks numbers q)
  asked_led past one end from to question marks numbers (Some q) room r hf ht passes by = (hf, ht)
  asked_led past one end from to question marks numbers None true r hf ht passes by =
      rw r (lent_led past one end from question marks numbers (length numbers == 0) refl hf passes, opened_led past one (not end) to question marks ht by)
  asked_led past one end from to question marks numbers None false r hf ht passes by = rw r (hf, ht)

  -- a Return goes
  then_answered_led : (past : List Heard) (one : Heard) (end : Bool) (r : Return) (to : Side) (breach : Option Breach) (from : Side) → AllLed past one end from → AllLed past one (not end) to → BothLed past one end (then_answered r to breach from)
  then_answered_led past one end r to (Some breach) from hf ht = (hf, ht)
  then_answered_led past one end r to None from hf ht = (hf, answered_led past one (not end) to r.answer_id r.release_param_caps (get to.calls r.answer_id) ht)

  -- what is in use stands, so a chain leads to all that is kept then
  leads_side : (past : List Heard) (one : Heard) (end : Bool) (side : Side) → given_by end (known_after rules (one ∷ past)).references ≡ side → AllLed past one end side → LeadsTo (one ∷ past) end (given_by end (known_after rules (one ∷ past)).references)
  leads_side past one end side e h =
      let all : AllLed past one end (given_by end (known_after rules (one ∷ past)).references) = subst (λ (x : Side). AllLed past one end x) (sym e) h in (
        λ id g at s.
            elim (all.0 id g at s) [
              | inl old ↦ stands past one (object end id) old (rw at refl)
              | inr new ↦ new
            ],
        λ question q at s.
            elim (all.1 question q at s) [
              | inl old ↦ stands past one (results end question) old (rw at refl)
              | inr new ↦ new
            ],
      )

  leads_then : (past : List Heard) (one : Heard) (refs : References) → (known_after rules (one ∷ past)).references ≡ refs → AllLed past one false refs.caller → AllLed past one true refs.callee → Leads (one ∷ past) (known_after rules (one ∷ past)).references
  leads_then past one refs e caller callee =
      (leads_side past one false refs.caller (ap (λ (x : References). x.caller) e) caller, leads_side past one true refs.callee (ap (λ (x : References). x.callee) e) callee)

  -- a chain leads to what a call goes to
  by_number : (past : List Heard) (end : Bool) (side : Side) (id marks : ℕ) (had : Option Given) → get side.given id ≡ had → option_map (λ g. g.marks) had ≡ Some marks → LeadsTo past end side → Shows end marks → Chain rules Begins past (object end id)
  by_number past end side id marks None e is h s = absurd (none-some marks is)
  by_number past end side id marks (Some g) e is h s = h.0 id g e (subst (Shows end) (sym (some_of g.marks marks is)) s)

  by_question : (past : List Heard) (end : Bool) (side : Side) (question marks : ℕ) (had : Option Question) → get side.questions question ≡ had → option_map (λ q. q.marks) had ≡ Some marks → LeadsTo past end side → Shows end marks → Chain rules Begins past (results end question)
  by_question past end side question marks None e is h s = absurd (none-some marks is)
  by_question past end side question marks (Some q) e is h s = h.1 question q e (subst (Shows end) (sym (some_of q.marks marks is)) s)

  pub leads_to : (past : List Heard) (end : Bool) (side : Side) (target : Target) (marks : ℕ) (r : Reference) → marks_of side target ≡ Some marks → reference_of end target ≡ Some r → LeadsTo past end side → Shows end marks → Chain rules Begins past r
  leads_to past end side (targets.ImportedCap id) marks r is so h s = subst (λ (x : Reference). Chain rules Begins past x) (some_of (object end id) r so) (by_number past end side id marks (get side.given id) refl is h s)
  leads_to past end side (targets.PromisedAnswer p) marks r is so h s =
      subst (λ (x : Reference). Chain rules Begins past x) (some_of (results end p.question_id) r so) (by_question past end side p.question_id marks (get side.questions p.question_id) refl is h s)
  leads_to past end side (targets.Unknown n) marks r is so h s = absurd (none-some marks is)

  -- a call leads on, and so does what it passes
  call_leads : (past : List Heard) (end host : Bool) (to : Side) (frame : List ℕ) (c : Call) (had : Option ℕ) → LeadsTo past (not end) to → marks_of to c.target ≡ had → (had ≡ None → end ≡ true) → Went rules past end (messages.Call c)
      → Shows host (option_map_or (λ marks. bit_or (after end rules c) marks) had (after end rules c)) → Chain rules Begins (sent_by end frame (messages.Call c) ∷ past) (results (not end) c.question_id)
  call_leads past end host to frame c None h e free w s = asks past end frame (messages.Call c) c.question_id (shown.by_none end host frame c (free refl) s) refl w
  call_leads past end host to frame c (Some marks) h e free w s =
      elim (shown.by_call end host frame c marks s) [
        | inl begins ↦ asks past end frame (messages.Call c) c.question_id begins refl w
        | inr on ↦
            let r = reference_at (not end) c.target marks to e in
            called past end frame c r.0 (leads_to past (not end) to c.target marks r.0 e r.1 h on) r.1 w
      ]

  -- so does what a promise becomes
  promise_leads : (past : List Heard) (end : Bool) (from : Side) (frame : List ℕ) (r : Resolve) (id : ℕ) (had : Option Given) → LeadsTo past end from → get from.given r.promise_id ≡ had → resolved_number r.resolution ≡ Some id
      → Went rules past end (messages.Resolve r) → Shows end (option_map_or (λ g. g.marks) had 0) → Chain rules Begins (sent_by end frame (messages.Resolve r) ∷ past) (object end id)
  promise_leads past end from frame r id None h e is w s = lends past end frame (messages.Resolve r) id (shown.by_promise end frame r s) is w
  promise_leads past end from frame r id (Some g) h e is w s = gives past end frame (messages.Resolve r) (object end r.promise_id) id (h.0 r.promise_id g e s) refl is w

  -- a message goes from one end to the other
  message_leads : (past : List Heard) (end : Bool) (from to : Side) (frame : List ℕ) (m : Message) → LeadsTo past end from → LeadsTo past (not end) to → ((c : Call) → m ≡ messages.Call c → marks_of to c.target ≡ None → end ≡ true) → Went rules past end m
      → BothLed past (sent_by end frame m) end (followed (grants_of end rules) from to m)
  message_leads past end from to frame (messages.Call c) hf ht free w =
      let one = sent_by end frame (messages.Call c) in
      let led : (host : Bool) → Shows host (gained (grants_of end rules) to c) → Chain rules Begins (one ∷ past) (results (not end) c.question_id) =
      λ host s. call_leads past end host to frame c (marks_of to c.target) ht refl (free c refl) w s in
      asked_led past one end from to c.question_id (gained (grants_of end rules) to c) (hosted_numbers c.params.cap_table) (get to.questions c.question_id) _ refl (all_led past one end from hf) (all_led past one (not end) to ht)
      (λ id has s. inr (passed past end frame c id (led end s) has)) (λ s. inr (led (not end) s))
  message_leads past end from to frame (messages.Bootstrap b) hf ht free w =
      let one = sent_by end frame (messages.Bootstrap b) in
      asked_led past one end from to b.question_id 0 [] (get to.questions b.question_id) _ refl (all_led past one end from hf) (all_led past one (not end) to ht)
      (λ id has s. absurd (omega (arith, has.1))) (λ s. inr (asks past end frame (messages.Bootstrap b) b.question_id (shown.by_bootstrap end frame b s) refl w))
  message_leads past end from to frame (messages.Finish f) hf ht free w =
      let one = sent_by end frame (messages.Finish f) in
      (all_led past one end from hf, finished_led past one (not end) to f (get to.questions f.question_id) refl (all_led past one (not end) to ht))
  message_leads past end from to frame (messages.Release r) hf ht free w =
      let one = sent_by end frame (messages.Release r) in
      let all = all_led past one (not end) to ht in
      (all_led past one end from hf, (lowered_led past one (not end) to.given r.id r.reference_count all.0, all.1))
  message_leads past end from to frame (messages.Return r) hf ht free w =
      let one = sent_by end frame (messages.Return r) in
      let sent = return_followed from r in
      then_answered_led past one end r to sent.breach sent.side
      (return_led past one end from r (get from.questions r.answer_id) refl (all_led past one end from hf) (λ id q e c s. inr (gives past end frame (messages.Return r) (results end r.answer_id) id (hf.1 r.answer_id q e s) refl c w)))
      (all_led past one (not end) to ht)
  message_leads past end from to frame (messages.Resolve r) hf ht free w =
      let one = sent_by end frame (messages.Resolve r) in (
        resolve_led past one end from r.promise_id (resolved_number r.resolution) (has_room from 1) refl (all_led past one end from hf) (λ id is s. inr (promise_leads past end from frame r id (get from.given r.promise_id) hf refl is w s)),
        all_led past one (not end) to ht,
      )
  message_leads past end from to frame (messages.Unimplemented tree) hf ht free w = (all_led past _ end from hf, all_led past _ (not end) to ht)
  message_leads past end from to frame (messages.Abort exception) hf ht free w = (all_led past _ end from hf, all_led past _ (not end) to ht)
  message_leads past end from to frame (messages.Disembargo d) hf ht free w = (all_led past _ end from hf, all_led past _ (not end) to ht)
  message_leads past end from to frame (messages.Other which body) hf ht free w = (all_led past _ end from hf, all_led past _ (not end) to ht)

  -- so a chain leads to all that is kept after whatever was heard
  pub leads : follows rules ≡ true → (past : List Heard) → Leads past (known_after rules past).references
  leads f [] = (
    (λ id g e s. absurd (no_entry g _ (get-empty nat_cmp id) e), λ question q e s. absurd (no_entry q _ (get-empty nat_cmp question) e)),
    (λ id g e s. absurd (no_entry g _ (get-empty nat_cmp id) e), λ question q e s. absurd (no_entry q _ (get-empty nat_cmp question) e)),
  )
  leads f (second ∷ past) =
      let h = leads f past in
      leads_then past second (known_after rules past).references refl (all_led past second false (known_after rules past).references.caller h.0) (all_led past second true (known_after rules past).references.callee h.1)
  leads f (from_caller frame m ∷ past) =
      let s = known_after rules past in
      let h = leads f past in
      elim (kept_after false rules s m) [
        | inl same ↦ leads_then past (from_caller frame m) s.references same (all_led past _ false s.references.caller h.0) (all_led past _ true s.references.callee h.1)
        | inr kept ↦
            let led = message_leads past false s.references.caller s.references.callee frame m h.0 h.1
            (λ c is none. absurd (unreached rules c (marks_of s.references.callee c.target) none (call_reaches rules s c f (subst (λ (x : Message). goes (judged rules s x).ruling ≡ true) is kept.0)))) kept.0 in
            leads_then past (from_caller frame m) _ kept.1 led.0 led.1
      ]
  leads f (from_callee frame m ∷ past) =
      let s = known_after rules past in
      let h = leads f past in
      elim (kept_after true rules s m) [
        | inl same ↦ leads_then past (from_callee frame m) s.references same (all_led past _ false s.references.caller h.0) (all_led past _ true s.references.callee h.1)
        | inr kept ↦
            let led = message_leads past true s.references.callee s.references.caller frame m h.1 h.0 (λ c is none. refl) kept.0 in
            leads_then past (from_callee frame m) _ kept.1 led.1 led.0
      ]

-- a Bootstrap, or a message of the callee's own, begins a chain to all that the callee gave
abbrev OfCallee : Bool → ℕ → Type 0
OfCallee true marks = Unit {0}
OfCallee false marks = ⊥

opens_either : (end : Bool) (a b : ℕ) → OfCallee end (bit_or a b) → OfCallee end a ⊎ OfCallee end b
opens_either true a b s = inl tt
opens_either false a b s = absurd s

opens_both : (end : Bool) (a b : ℕ) → OfCallee end (bit_and a b) → OfCallee end b
opens_both true a b s = tt
opens_both false a b s = absurd s

opens_call : (rules : Rules) (end host : Bool) (frame : List ℕ) (c : Call) (marks : ℕ) → OfCallee host (bit_or (after end rules c) marks) → Opens (sent_by end frame (messages.Call c)) ⊎ OfCallee (not end) marks
opens_call rules true host frame c marks s = inl tt
opens_call rules false host frame c marks s = inr tt

opens_none : (rules : Rules) (end host : Bool) (frame : List ℕ) (c : Call) → end ≡ true → OfCallee host (after end rules c) → Opens (sent_by end frame (messages.Call c))
opens_none rules true host frame c e s = tt
opens_none rules false host frame c e s = absurd (true≢false (sym e))

opens_bootstrap : (end : Bool) (frame : List ℕ) (b : Bootstrap) → OfCallee (not end) 0 → Opens (sent_by end frame (messages.Bootstrap b))
opens_bootstrap true frame b s = absurd s
opens_bootstrap false frame b s = tt

opens_promise : (end : Bool) (frame : List ℕ) (r : Resolve) → OfCallee end 0 → Opens (sent_by end frame (messages.Resolve r))
opens_promise true frame r s = tt
opens_promise false frame r s = absurd s

opens : (rules : Rules) → Shown rules Opens OfCallee
opens rules = record {
  either = opens_either;
  both = opens_both;
  by_call = opens_call rules;
  by_none = opens_none rules;
  by_bootstrap = opens_bootstrap;
  by_promise = opens_promise;
}

-- marks that are joined share with one mark what one or the other shares with it
shares_either : (mark a b : ℕ) → bit_and (bit_or a b) mark ≢ 0 → (bit_and a mark ≢ 0) ⊎ (bit_and b mark ≢ 0)
shares_either mark a b s =
    elim (cases_eq (bit_and b mark) 0) [
      | inl none ↦ inl (λ e. s (and_or_apart mark a b none ∙ e))
      | inr some ↦ inr some
    ]

nothing_shared : (mark : ℕ) → bit_and 0 mark ≢ 0 → ⊥
nothing_shared mark s = s (omega (arith, and_le_l 0 mark))

grants_more : (x y : Grant) (xs : List Grant) → Contains xs x → Contains (y ∷ xs) x
grants_more x y xs c = (suc c.0, omega (arith, c.1), c.2)

-- a rule after a method, which shares a mark
abbrev AfterRule : ℕ → ℕ → ℕ → List Grant → Type 0
AfterRule mark i m grants = (other : Grant) × Contains grants other × (is_method i m other.after ≡ true) × (bit_and other.mark mark ≢ 0)

after_more : (mark i m : ℕ) (g : Grant) (grants : List Grant) → AfterRule mark i m grants → AfterRule mark i m (g ∷ grants)
after_more mark i m g grants found = (found.0, grants_more found.0 g grants found.1, found.2, found.3)

after_first : (mark i m acc : ℕ) (g : Grant) (grants : List Grant) (b : Bool) → is_method i m g.after ≡ b → ((x : ℕ) → bit_and (marks_after i m x grants) mark ≢ 0 → (bit_and x mark ≢ 0) ⊎ AfterRule mark i m grants)
    → bit_and (marks_after i m (if b then bit_or acc g.mark else acc) grants) mark ≢ 0 → (bit_and acc mark ≢ 0) ⊎ AfterRule mark i m (g ∷ grants)
after_first mark i m acc g grants true e rest s =
    elim (rest (bit_or acc g.mark) s) [
      | inl joined ↦
          elim (shares_either mark acc g.mark joined) [
            | inl before ↦ inl before
            | inr own ↦ inr (g, (0, omega arith, refl), e, own)
          ]
      | inr found ↦ inr (after_more mark i m g grants found)
    ]
after_first mark i m acc g grants false e rest s =
    elim (rest acc s) [
      | inl before ↦ inl before
      | inr found ↦ inr (after_more mark i m g grants found)
    ]

-- a call's own marks are those of rules after its method
after_rules : (mark i m acc : ℕ) (grants : List Grant) → bit_and (marks_after i m acc grants) mark ≢ 0 → (bit_and acc mark ≢ 0) ⊎ AfterRule mark i m grants
after_rules mark i m acc [] s = inl s
after_rules mark i m acc (g ∷ grants) s = after_first mark i m acc g grants (is_method i m g.after) refl (λ x. after_rules mark i m x grants) s

-- what shares a rule's mark came by a call after which that rule is
abbrev Marked : Grant → Bool → ℕ → Type 0
Marked grant end marks = bit_and marks grant.mark ≢ 0

marked_both : (mark a b : ℕ) → bit_and (bit_and a b) mark ≢ 0 → bit_and b mark ≢ 0
marked_both mark a b s e = s (and_assoc mark a b ∙ ap (bit_and a) e ∙ omega (arith, and_le_r a 0))

marked_call : (rules : Rules) (grant : Grant) (end host : Bool) (frame : List ℕ) (c : Call) (marks : ℕ) → Marked grant host (bit_or (after end rules c) marks) → BeginsRule rules grant (sent_by end frame (messages.Call c)) ⊎ Marked grant (not end) marks
marked_call rules grant true host frame c marks s =
    elim (shares_either grant.mark 0 marks s) [
      | inl none ↦ absurd (nothing_shared grant.mark none)
      | inr on ↦ inr on
    ]
marked_call rules grant false host frame c marks s =
    elim (shares_either grant.mark _ marks s) [
      | inl own ↦
          elim (after_rules grant.mark c.interface_id c.method_id 0 rules.grants.items own) [
            | inl none ↦ absurd (nothing_shared grant.mark none)
            | inr found ↦ inl found
          ]
      | inr on ↦ inr on
    ]

marked_none : (rules : Rules) (grant : Grant) (end host : Bool) (frame : List ℕ) (c : Call) → end ≡ true → Marked grant host (after end rules c) → BeginsRule rules grant (sent_by end frame (messages.Call c))
marked_none rules grant true host frame c e s = absurd (nothing_shared grant.mark s)
marked_none rules grant false host frame c e s = absurd (true≢false (sym e))

by_rule : (rules : Rules) (grant : Grant) → Shown rules (BeginsRule rules grant) (Marked grant)
by_rule rules grant = record {
  either = λ end a b s. shares_either grant.mark a b s;
  both = λ end a b s. marked_both grant.mark a b s;
  by_call = marked_call rules grant;
  by_none = marked_none rules grant;
  by_bootstrap = λ end frame b s. absurd (nothing_shared grant.mark s);
  by_promise = λ end frame r s. absurd (nothing_shared grant.mark s);
}

-- a rule that lets a call go
abbrev Granting : ℕ → ℕ → ℕ → List Grant → Type 0
Granting marks i m grants = (g : Grant) × Contains grants g × (is_in i m g.callable ≡ true) × (bit_and marks g.mark ≢ 0)

granting_first : (marks i m : ℕ) (g : Grant) (grants : List Grant) (inside none : Bool) → is_in i m g.callable ≡ inside → (bit_and marks g.mark == 0) ≡ none → (list_any (is_granted marks i m) grants ≡ true → Granting marks i m grants)
    → list_any (is_granted marks i m) (g ∷ grants) ≡ true → Granting marks i m (g ∷ grants)
granting_first marks i m g grants true false a b rest e = (g, (0, omega arith, refl), a, λ z. true≢false (sym (ap (λ x. x == 0) z) ∙ b))
granting_first marks i m g grants true true a b rest e = let found = rest (rw (a, b) at e) in (found.0, grants_more found.0 g grants found.1, found.2, found.3)
granting_first marks i m g grants false none a b rest e = let found = rest (rw a at e) in (found.0, grants_more found.0 g grants found.1, found.2, found.3)

granting : (marks i m : ℕ) (grants : List Grant) → list_any (is_granted marks i m) grants ≡ true → Granting marks i m grants
granting marks i m [] e = absurd (true≢false (sym e))
granting marks i m (g ∷ grants) e = granting_first marks i m g grants (is_in i m g.callable) (bit_and marks g.mark == 0) refl refl (granting marks i m grants) e

goes_of : (v : Ruling) (came m : Message) → Goes v came m → goes v ≡ true
goes_of rulings.Passes came m g = refl
goes_of (rulings.Changes x) came m g = refl
goes_of (rulings.Answers x) came m g = absurd g
goes_of rulings.Drops came m g = absurd g
goes_of (rulings.Closes b) came m g = absurd g

is_given : (rules : Rules) (past : List Heard) (c : Call) (had : Option ℕ) → follows rules ≡ true → marks_of (known_after rules past).references.callee c.target ≡ had → may_reach rules c had ≡ true → IsGiven rules past c
is_given rules past c None f e reach = absurd (true≢false (sym reach))
is_given rules past c (Some marks) f e reach =
    let callee = (known_after rules past).references.callee in
    let r = reference_at true c.target marks callee e in
    record {
      target = r.0;
      goes_to = r.1;
      chain = leads_to rules Opens OfCallee (opens rules) past true callee c.target marks r.0 e r.1 (leads rules Opens OfCallee (opens rules) f past).1 tt;
      may = by (may_call rules c.interface_id c.method_id) refl;
    }
  where
    by : (may : Bool) → may_call rules c.interface_id c.method_id ≡ may → (may_call rules c.interface_id c.method_id ≡ true) ⊎ IsGranted rules past c (reference_at true c.target marks (known_after rules past).references.callee e).0
    by true is = inl is
    by false is =
        let callee = (known_after rules past).references.callee in
        let r = reference_at true c.target marks callee e in
        let g = granting marks c.interface_id c.method_id rules.grants.items (rw is at reach) in
        inr (record {
          grant = g.0;
          of_rules = g.1;
          method = g.2;
          chain = leads_to rules (BeginsRule rules g.0) (Marked g.0) (by_rule rules g.0) past true callee c.target marks r.0 e r.1 (leads rules (BeginsRule rules g.0) (Marked g.0) (by_rule rules g.0) f past).1 g.3;
        })

pub only_given : OnlyGiven
only_given rules past came m f g =
    let s = known_after rules past in
    is_given rules past came (marks_of s.references.callee came.target) f refl (call_reaches rules s came f (goes_of (judged rules s (messages.Call came)).ruling (messages.Call came) m g))

pub released_is_free : ReleasedIsFree
released_is_free rules s true r g f e n = rw (f, e, not_less r.reference_count g.count n) (get-remove_same s.references.caller.given r.id)
released_is_free rules s false r g f e n = rw (f, e, not_less r.reference_count g.count n) (get-remove_same s.references.callee.given r.id)
