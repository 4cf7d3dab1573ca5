-- The vat sends a message that is no Return.
use Rattle.std.specs.Prelude.{◌≡◌, refl, ℕ, ◌+◌, ◌-◌, ◌≤◌, ◌==◌, if◌then◌else◌, Bool, true, false, List, [], ◌∷◌, ◌++◌, Option, Some}
use Rattle.std.specs.List.{AllByRecursion}
use Rattle.std.specs.Option.{option_map_or}
use Rattle.std.specs.FinMap.{get, remove}
use Rattle.std.proofs.Common.{arith, true≢false, sym, ap, subst, ◌∙◌}
use Rattle.cp_tables.specs.Table.{Table}
use Rattle.cp_messages.specs.declared.descriptor.Descriptor.TheVariants as descriptors
use Rattle.cp_messages.specs.declared.message.Message.{Message}
use Rattle.cp_messages.specs.declared.message.Message.TheVariants as messages
use Rattle.cp_messages.specs.declared.resolve.Resolution.{Resolution}
use Rattle.cp_messages.specs.declared.resolve.Resolution.TheVariants as resolutions
use Rattle.cp_messages.specs.declared.small.Release.{Release}
use Rattle.cp_vat_machine.specs.Receiving.{times}
use Rattle.cp_vat_machine.specs.Resolving.{given_back}
use Rattle.cp_vat_machine.proofs.Basics.{is_equal, is_itself, some_out, gone_at}
use Rattle.cp_vat_pair_laws.specs.Ledger.{Traffic, named_by, opens, returns_to, finishes, params_of, results_of, given_up, is_finished, import_count}
use Rattle.cp_vat_pair_laws.specs.Ledger as ledger
use Rattle.cp_vat_pair_laws.specs.Accounts.{Account, Accounts, Sent}
use Rattle.cp_tail_calls.specs.declared.forwarding.Trigger.{Trigger}
use Rattle.cp_tail_calls.specs.declared.forwarding.Trigger.TheVariants as triggers
use Rattle.cp_tail_calls.specs.Sending.{sent, resolution_for}
use Rattle.cp_tail_calls.specs.Tails.{Tails}
use Rattle.cp_tail_counts.specs.Peer.{heard}
use Rattle.cp_tail_counts.specs.Behind.{Goes, GivesBack, KeepsParams, WasNamed}
use Rattle.cp_tail_counts.specs.Counts.{lent_of, IsNumbered}
use Rattle.cp_tail_counts.proofs.Holds.{returns_none, IsAskedAs, Holds}
use Rattle.cp_tail_counts.proofs.Staying.{still_owed, still_lowers, still_takers, still_right}
use Rattle.cp_tail_counts.proofs.Questions.{Stays, asked_open, stays_open, asked_finish, stays_finish}

module _ (most : ℕ) (past : List Traffic) (t : Tails) (old new : Accounts) (h : Holds most past t old) where
  -- the vat sends one message, and the peer gets another in its place
  module _ (m on : Message) (lent : Table ℕ) (sends : Sent old m new) where
    pub sends_plain : ((e : ℕ) → times e (named_by on) ≡ times e (named_by m)) → ((q : ℕ) → new.answers q ≡ old.answers q) → ((q : ℕ) → returns_to q on ≡ false)
        → ((q : ℕ) → IsAskedAs (params_of (ledger.sent on ∷ past) q) (is_finished (ledger.sent on ∷ past) q) q (new.questions q))
        → ((q : ℕ) → Stays (old.questions q) (new.questions q))
        → ((i : ℕ) → new.imports i ≡ import_count past i - given_up on i + lent_of (record t { lent = lent }) i)
        → ((i : ℕ) → given_up on i ≤ import_count past i) → KeepsParams on
        → Holds most (ledger.sent on ∷ past) (record t { lent = lent }) new
    sends_plain named same quiet asked stays imports fair_by params_by =
        record {
          exports = λ e fair.
              omega (
                arith,
                sends.exports e,
                named e,
                h.exports e fair,
                still_owed most past t old new h (λ q. false) same (λ q none. stays q) (λ a q is. refl) e,
                still_lowers most past t old new h (λ q. false) same (λ q none. stays q) (λ a q is. refl) e t.owed (returns_none t.owed) h.owed,
              );
          imports = imports;
          given_fairly = λ i. (fair_by i, h.given_fairly i);
          params = (params_by, h.params);
          questions = asked;
          answers = λ q. rw (same q, quiet q) (h.answers q);
          takers = still_takers most past t old new h (λ q. false) same (λ q none. stays q) (λ a q is. refl);
          owed = still_right most past t old new h (λ q. false) same (λ q none. stays q) (λ a q is. refl) t.owed (returns_none t.owed) h.owed;
          below = h.below;
        }

  no_more : (i : ℕ) → old.imports i ≡ new.imports i + 0 → new.imports i ≡ import_count past i - 0 + lent_of t i
  no_more i is = omega (arith, is, h.imports i)

  same_of : {o p : Option Account} → Some o ≡ Some p → p ≡ o
  same_of e = sym (some_out e)

  stays_same : {o p : Option Account} → Some o ≡ Some p → Stays o p
  stays_same e due = rw (← some_out e) (due, refl)

  asked_same : (q : ℕ) {p : Option Account} → Some (old.questions q) ≡ Some p → IsAskedAs (params_of past q) (is_finished past q) q p
  asked_same q e = rw (← some_out e) (h.questions q)

  -- ---- a Release
  -- what a Resolve named that came too late counts once
  one_named : (r : Release) (before : List Traffic) → WasNamed r before → (i : ℕ) → (if r.id == i then r.reference_count else 0) ≤ import_count before i
  one_named r (ledger.came (messages.Resolve x) ∷ before) named i = rw (named.0, named.1) (by (r.id == i) refl)
    where
      by : (b : Bool) → (r.id == i) ≡ b → (if r.id == i then 1 else 0) ≤ import_count before i + times i (r.id ∷ [])
      by true e = rw (e) (omega arith)
      by false e = rw (e) (omega arith)
  one_named r before named i = absurd named

  released : (n given lent imports before after : ℕ) → before ≡ after + n → before ≡ imports + lent → n ≤ imports → after ≡ imports - n + lent
  released n given lent imports before after e f small = omega arith

  whole : (b : Bool) (n lent imports before after : ℕ) → before ≡ after + (if b then n else 0) → before ≡ imports + lent → (b ≡ true → after ≡ 0)
      → after ≡ imports - (if b then n - lent else 0) + (if b then 0 else lent)
  whole true n lent imports before after e f none = omega (arith, e, f, none refl)
  whole false n lent imports before after e f none = omega (arith, e, f)

  whole_fair : (b : Bool) (n lent imports before after : ℕ) → before ≡ after + (if b then n else 0) → before ≡ imports + lent → (b ≡ true → after ≡ 0)
      → (if b then n - lent else 0) ≤ imports
  whole_fair true n lent imports before after e f none = omega (arith, e, f, none refl)
  whole_fair false n lent imports before after e f none = omega arith

  lent_gone : (i j : ℕ) → lent_of (record t { lent = remove t.lent j }) i ≡ (if j == i then 0 else lent_of t i)
  lent_gone i j = by (j == i) refl
    where
      by : (b : Bool) → (j == i) ≡ b → option_map_or (λ n. n) (get (remove t.lent j) i) 0 ≡ (if b then 0 else option_map_or (λ n. n) (get t.lent i) 0)
      by true e = rw (gone_at t.lent j i true e) refl
      by false e = rw (gone_at t.lent j i false e) refl

  none_left : (r : Release) (i : ℕ) → new.imports r.id ≡ 0 → (r.id == i) ≡ true → new.imports i ≡ 0
  none_left r i none e = subst (λ (i : ℕ). new.imports i ≡ 0) (is_equal r.id i e) none

  lent_at : (b : Bool) (i j : ℕ) → (j == i) ≡ b → (n : ℕ) → (if b then n - lent_of t j else 0) ≡ (if b then n - lent_of t i else 0)
  lent_at true i j e n = rw (is_equal j i e) refl
  lent_at false i j e n = refl

  sends_release : (trigger : Trigger) (r : Release) → Sent old (messages.Release r) new → GivesBack trigger (messages.Release r) past new
      → Holds most (heard (sent t trigger (messages.Release r)).0 ++ past) (sent t trigger (messages.Release r)).1 new
  sends_release triggers.Message r sends gives =
      sends_plain
      (messages.Release r)
      (messages.Release r)
      t.lent
      sends
      (λ e. refl)
      (λ q. same_of (sends.answers q))
      (λ q. refl)
      (λ q. asked_same q (sends.questions q))
      (λ q. stays_same (sends.questions q))
      (λ i.
      released
      (if r.id == i then r.reference_count else 0)
      0
      (lent_of t i)
      (import_count past i)
      (old.imports i)
      (new.imports i)
      (sends.imports i)
      (h.imports i)
      (one_named r past gives i))
      (λ i. one_named r past gives i)
      tt
  sends_release triggers.Application r sends gives =
      sends_plain
      (messages.Release r)
      (messages.Release (record r { reference_count = r.reference_count - lent_of t r.id }))
      (remove t.lent r.id)
      sends
      (λ e. refl)
      (λ q. same_of (sends.answers q))
      (λ q. refl)
      (λ q. asked_same q (sends.questions q))
      (λ q. stays_same (sends.questions q))
      (λ i.
      rw
      (lent_gone i r.id, lent_at (r.id == i) i r.id refl r.reference_count)
      (whole (r.id == i) r.reference_count (lent_of t i) (import_count past i) (old.imports i) (new.imports i) (sends.imports i) (h.imports i) (none_left r i gives)))
      (λ i.
      rw
      (lent_at (r.id == i) i r.id refl r.reference_count)
      (whole_fair (r.id == i) r.reference_count (lent_of t i) (import_count past i) (old.imports i) (new.imports i) (sends.imports i) (h.imports i) (none_left r i gives)))
      tt

  -- ---- a Resolve
  names_same : (resolution : Resolution) → given_back (resolution_for resolution) ≡ given_back resolution
  names_same (resolutions.Cap descriptors.None) = refl
  names_same other = refl

  -- ---- all messages but Returns
  abbrev pub SendsAs : Trigger → Message → Type 0
  SendsAs trigger m =
      Goes old trigger m past new → AllByRecursion (IsNumbered most) (heard (sent t trigger m).0)
      → Holds most (heard (sent t trigger m).0 ++ past) (sent t trigger m).1 new

  -- one that is about no question and no import
  sends_quiet : (m : Message) → KeepsParams m → ((q : ℕ) → returns_to q m ≡ false) → Sent old m new → ((q : ℕ) → Some (old.answers q) ≡ Some (new.answers q))
      → ((q : ℕ) → Some (old.questions q) ≡ Some (new.questions q))
      → ((q : ℕ) → params_of (ledger.sent m ∷ past) q ≡ params_of past q) → ((q : ℕ) → is_finished (ledger.sent m ∷ past) q ≡ is_finished past q)
      → ((i : ℕ) → given_up m i ≡ 0) → Holds most (ledger.sent m ∷ past) t new
  sends_quiet m kept quiet sends answers questions params finished none =
      sends_plain
      m
      m
      t.lent
      sends
      (λ e. refl)
      (λ q. same_of (answers q))
      quiet
      (λ q. rw (params q, finished q) (asked_same q (questions q)))
      (λ q. stays_same (questions q))
      (λ i. rw (none i) (no_more i (sends.imports i ∙ ap (λ (n : ℕ). new.imports i + n) (none i))))
      (λ i. rw (none i) (omega arith))
      kept

  pub sends_other : (trigger : Trigger) (m : Message) → ((q : ℕ) → returns_to q m ≡ false) → SendsAs trigger m
  sends_other trigger (messages.Release r) quiet goes numbered = sends_release trigger r goes.sends goes.gives_back
  sends_other trigger (messages.Resolve r) quiet goes numbered =
      sends_plain
      (messages.Resolve r)
      (messages.Resolve (record r { resolution = resolution_for r.resolution }))
      t.lent
      goes.sends
      (λ e. ap (λ (names : List ℕ). times e names) (names_same r.resolution))
      (λ q. same_of (goes.sends.answers q))
      (λ q. refl)
      (λ q. asked_same q (goes.sends.questions q))
      (λ q. stays_same (goes.sends.questions q))
      (λ i. no_more i (goes.sends.imports i))
      (λ i. omega arith)
      tt
  sends_other trigger (messages.Call c) quiet goes numbered =
      sends_plain
      (messages.Call c)
      (messages.Call c)
      t.lent
      goes.sends
      (λ e. refl)
      (λ q. same_of (goes.sends.answers q))
      (λ q. refl)
      (λ q. asked_open (c.question_id == q) (named_by (messages.Call c)) (params_of past q) (is_finished past q) q (old.questions q) (new.questions q) (numbered.0 q) (h.questions q) (goes.sends.questions q))
      (λ q. stays_open (c.question_id == q) (named_by (messages.Call c)) (old.questions q) (new.questions q) (goes.sends.questions q))
      (λ i. no_more i (goes.sends.imports i))
      (λ i. omega arith)
      tt
  sends_other trigger (messages.Bootstrap b) quiet goes numbered =
      sends_plain
      (messages.Bootstrap b)
      (messages.Bootstrap b)
      t.lent
      goes.sends
      (λ e. refl)
      (λ q. same_of (goes.sends.answers q))
      (λ q. refl)
      (λ q. asked_open (b.question_id == q) [] (params_of past q) (is_finished past q) q (old.questions q) (new.questions q) (numbered.0 q) (h.questions q) (goes.sends.questions q))
      (λ q. stays_open (b.question_id == q) [] (old.questions q) (new.questions q) (goes.sends.questions q))
      (λ i. no_more i (goes.sends.imports i))
      (λ i. omega arith)
      tt
  sends_other trigger (messages.Finish f) quiet goes numbered =
      sends_plain
      (messages.Finish f)
      (messages.Finish f)
      t.lent
      goes.sends
      (λ e. refl)
      (λ q. same_of (goes.sends.answers q))
      (λ q. refl)
      (λ q. asked_finish (f.question_id == q) f.release_result_caps (params_of past q) (is_finished past q) q (old.questions q) (new.questions q) (h.questions q) (goes.sends.questions q))
      (λ q. stays_finish (f.question_id == q) f.release_result_caps (old.questions q) (new.questions q) (goes.sends.questions q))
      (λ i. no_more i (goes.sends.imports i))
      (λ i. omega arith)
      tt
  sends_other trigger (messages.Return r) quiet goes numbered = absurd (true≢false (sym (is_itself r.answer_id) ∙ quiet r.answer_id))
  sends_other trigger (messages.Unimplemented x) quiet goes numbered =
      sends_quiet (messages.Unimplemented x) tt quiet goes.sends goes.sends.answers goes.sends.questions (λ q. refl) (λ q. refl) (λ i. refl)
  sends_other trigger (messages.Abort x) quiet goes numbered =
      sends_quiet (messages.Abort x) tt quiet goes.sends goes.sends.answers goes.sends.questions (λ q. refl) (λ q. refl) (λ i. refl)
  sends_other trigger (messages.Disembargo d) quiet goes numbered =
      sends_quiet (messages.Disembargo d) tt quiet goes.sends goes.sends.answers goes.sends.questions (λ q. refl) (λ q. refl) (λ i. refl)
  sends_other trigger (messages.Other which body) quiet goes numbered =
      sends_quiet (messages.Other which body) tt quiet goes.sends goes.sends.answers goes.sends.questions (λ q. refl) (λ q. refl) (λ i. refl)
