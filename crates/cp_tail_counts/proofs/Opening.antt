-- A Call or a Bootstrap comes.
use Rattle.std.specs.Prelude.{◌≡◌, refl, ℕ, ◌+◌, ◌<◌, ◌==◌, ◌⊎◌, Bool, true, false, List, [], ◌∷◌, ◌++◌, Option, Some, None, IfSome}
use Rattle.std.specs.List.{AllByRecursion}
use Rattle.std.specs.FinMap.{get, insert}
use Rattle.std.proofs.Common.{arith, true≢false, sym, subst, inl, inr}
use Rattle.cp_tables.specs.Table.{Table}
use Rattle.cp_tables.proofs.TableLemmas.{get-insert_same}
use Rattle.cp_messages.specs.declared.call.Call.{Call}
use Rattle.cp_messages.specs.declared.message.Message.{Message}
use Rattle.cp_messages.specs.declared.message.Message.TheVariants as messages
use Rattle.cp_messages.specs.declared.small.Bootstrap.{Bootstrap}
use Rattle.cp_vat_machine.specs.Supported.{is_supported, is_supported_to_caller}
use Rattle.cp_vat_machine.proofs.Basics.{is_itself, put_at}
use Rattle.cp_vat_pair_laws.specs.Ledger.{Traffic, opens, results_of, lowered_times, import_count}
use Rattle.cp_vat_pair_laws.specs.Ledger as ledger
use Rattle.cp_vat_pair_laws.specs.Accounts.{Accounts, new_account, Came}
use Rattle.cp_tail_calls.specs.declared.progress.Progress.{Progress}
use Rattle.cp_tail_calls.specs.declared.progress.Progress.TheVariants as progress
use Rattle.cp_tail_calls.specs.Receiving.{to_caller, with_call, with_new_call}
use Rattle.cp_tail_calls.specs.Tails.{Tails}
use Rattle.cp_tail_calls.proofs.Cases.{call_if}
use Rattle.cp_tail_counts.specs.Peer.{said_if}
use Rattle.cp_tail_counts.specs.Behind.{GetsIf, Gets}
use Rattle.cp_tail_counts.specs.Counts.{owed_for, lent_of, IsNumbered}
use Rattle.cp_tail_counts.proofs.Holds.{any, is_finish_of, lowers_all, IsKeptAs, IsTakers, Holds, no_call}
use Rattle.cp_tail_counts.proofs.Locally.{Locally, all_answers, all_takers, all_below, owed_change}

-- an answer is open from now on, and nothing is lowered
pub record Opens (past : List Traffic) (t : Tails) (old new : Accounts) (m : Message) (k : ℕ) : Type 0 where
  pub exports : (e : ℕ) → new.exports e ≡ old.exports e
  pub imports : (i : ℕ) → new.imports i ≡ import_count (ledger.came m ∷ past) i + lent_of t i
  pub questions : (q : ℕ) → new.questions q ≡ old.questions q
  pub others : (q : ℕ) → (k == q) ≡ false → new.answers q ≡ old.answers q
  pub here : new.answers k ≡ Some (new_account [])
  pub lowers_none : (e : ℕ) → lowered_times past m e ≡ 0
  pub peers : (q : ℕ) → (k == q) ≡ false → results_of (ledger.came m ∷ past) q ≡ results_of past q
  pub peers_here : results_of (ledger.came m ∷ past) k ≡ []
  pub none : old.answers k ≡ None

-- its call is kept, or isn't
abbrev Kept : Option Progress → Type 0
Kept how = (how ≡ None) ⊎ (how ≡ Some progress.Untaken)

module _ (most : ℕ) (past : List Traffic) (t : Tails) (old new : Accounts) (h : Holds most past t old) (settled : t.owed ≡ []) where
  module _ (m : Message) (k : ℕ) (is : Opens past t old new m k) (small : k < most) (calls : Table Progress)
      (off : (q : ℕ) → (k == q) ≡ false → get calls q ≡ get t.calls q) (kept : Kept (get calls k)) where
    abbrev last : Tails
    last = record t { calls = calls }

    abbrev later : List Traffic
    later = ledger.came m ∷ past

    none_called : get t.calls k ≡ None
    none_called = no_call (get t.calls k) (old.answers k) (get t.results k) (results_of past k) (any (is_finish_of k) t.owed) is.none (h.answers k)

    none_kept : get t.results k ≡ None
    none_kept = (rw (none_called) at (h.answers k)).0

    local : Locally k past later t last old new
    local =
        record {
          calls = off;
          results = λ q apart. refl;
          answers = is.others;
          peers = is.peers;
          finishing = λ q apart. refl;
          questions = is.questions;
          takers = λ a q apart is. is;
        }

    here : Kept (get calls k) → IsKeptAs (get calls k) (new.answers k) (get t.results k) (results_of later k) (any (is_finish_of k) t.owed)
    here (inl none) = rw (none, is.here, is.peers_here, settled) (none_kept, refl)
    here (inr untaken) = rw (untaken, is.here, is.peers_here, none_kept) (refl, refl)

    takers_here : Kept (get calls k) → IfSome (get calls k) (IsTakers t.takers new k)
    takers_here (inl none) = rw (none) tt
    takers_here (inr untaken) = rw (untaken) tt

    owed_none : (e : ℕ) → owed_for e old k (get t.calls k) ≡ 0
    owed_none e = rw (none_called) refl

    owed_here : (e : ℕ) → Kept (get calls k) → owed_for e new k (get calls k) ≡ 0
    owed_here e (inl none) = rw (none) refl
    owed_here e (inr untaken) = rw (untaken, is.here) refl

    lowered : (e : ℕ) → lowers_all e new t.owed ≡ lowers_all e old t.owed
    lowered e = rw (settled) refl

    pub open_holds : Holds most later last new
    open_holds =
        record {
          exports = λ e fair.
              omega (
                arith,
                is.exports e,
                is.lowers_none e,
                h.exports e fair.1,
                owed_change most k past later t last old new h local e small,
                owed_none e,
                owed_here e kept,
                lowered e,
              );
          imports = is.imports;
          questions = λ q. rw (is.questions q) (h.questions q);
          answers = all_answers most k past later t last old new h local (here kept);
          takers = all_takers most k past later t last old new h local (takers_here kept);
          owed = rw (settled) tt;
          below = all_below most k past later t last old new h local (λ some. small);
          given_fairly = h.given_fairly;
          params = h.params;
        }

  -- ---- a Call
  module _ (c : Call) where
    abbrev k : ℕ
    k = c.question_id

    call_opens : Came old (messages.Call (to_caller c)) new → old.answers k ≡ None → Opens past t old new (messages.Call c) k
    call_opens comes none =
        record {
          exports = λ e. omega (arith, comes.exports e);
          imports = λ i. omega (arith, comes.imports i, h.imports i);
          questions = comes.questions;
          others = λ q apart. rw (comes.answers q, apart) refl;
          here = rw (comes.answers k, is_itself k) refl;
          lowers_none = λ e. refl;
          peers = λ q apart. rw (apart) refl;
          peers_here = rw (is_itself k) refl;
          none = none;
        }

    plain_opens : Came old (messages.Call c) new → old.answers k ≡ None → Opens past t old new (messages.Call c) k
    plain_opens comes none =
        record {
          exports = λ e. omega (arith, comes.exports e);
          imports = λ i. omega (arith, comes.imports i, h.imports i);
          questions = comes.questions;
          others = λ q apart. rw (comes.answers q, apart) refl;
          here = rw (comes.answers k, is_itself k) refl;
          lowers_none = λ e. refl;
          peers = λ q apart. rw (apart) refl;
          peers_here = rw (is_itself k) refl;
          none = none;
        }

    new_call : get t.calls k ≡ None → with_new_call t k ≡ with_call t k progress.Untaken
    new_call none = rw (none) refl

    tail_comes : (s : Bool) → s ≡ true → GetsIf s old (messages.Call (to_caller c)) new → AllByRecursion (IsNumbered most) (said_if s (messages.Call c))
        → Holds most (said_if s (messages.Call c) ++ past) (with_new_call t k) new
    tail_comes true sure gets numbered =
        let opens = call_opens gets.1 gets.0 in
        let small = numbered.0 k (is_itself k) in
        let none = no_call (get t.calls k) (old.answers k) (get t.results k) (results_of past k) (any (is_finish_of k) t.owed) gets.0 (h.answers k) in
        subst
        (λ (last : Tails). Holds most (ledger.came (messages.Call c) ∷ past) last new)
        (sym (new_call none))
        (open_holds
        (messages.Call c)
        k
        opens
        small
        (insert t.calls k progress.Untaken)
        (λ q apart. put_at t.calls k q progress.Untaken false apart)
        (inr (get-insert_same t.calls k progress.Untaken)))
    tail_comes false sure gets numbered = absurd (true≢false (sym sure))

    other_comes : (s : Bool) → GetsIf s old (messages.Call c) new → AllByRecursion (IsNumbered most) (said_if s (messages.Call c))
        → Holds most (said_if s (messages.Call c) ++ past) t new
    other_comes true gets numbered =
        let none = no_call (get t.calls k) (old.answers k) (get t.results k) (results_of past k) (any (is_finish_of k) t.owed) gets.0 (h.answers k) in
        open_holds (messages.Call c) k (plain_opens gets.1 gets.0) (numbered.0 k (is_itself k)) t.calls (λ q apart. refl) (inl none)
    other_comes false same numbered = rw (same) h

    pub call_comes : (b : Bool) → (b ≡ true → is_supported_to_caller c ≡ true) → Gets old (messages.Call (call_if b t c).0) new
        → AllByRecursion (IsNumbered most) (said_if (is_supported (messages.Call (call_if b t c).0)) (messages.Call c))
        → Holds most (said_if (is_supported (messages.Call (call_if b t c).0)) (messages.Call c) ++ past) (call_if b t c).1 new
    call_comes true acts gets numbered = tail_comes (is_supported_to_caller c) (acts refl) gets numbered
    call_comes false acts gets numbered = other_comes (is_supported (messages.Call c)) gets numbered

  -- ---- a Bootstrap
  pub bootstrap_comes : (b : Bootstrap) → Gets old (messages.Bootstrap b) new → AllByRecursion (IsNumbered most) (said_if true (messages.Bootstrap b))
      → Holds most (ledger.came (messages.Bootstrap b) ∷ past) t new
  bootstrap_comes b gets numbered =
      let k = b.question_id in
      let comes = gets.1 in
      let none = no_call (get t.calls k) (old.answers k) (get t.results k) (results_of past k) (any (is_finish_of k) t.owed) gets.0 (h.answers k) in
      let opens : Opens past t old new (messages.Bootstrap b) k =
      record {
        exports = λ e. omega (arith, comes.exports e);
        imports = λ i. omega (arith, comes.imports i, h.imports i);
        questions = comes.questions;
        others = λ q apart. rw (comes.answers q, apart) refl;
        here = rw (comes.answers b.question_id, is_itself b.question_id) refl;
        lowers_none = λ e. refl;
        peers = λ q apart. rw (apart) refl;
        peers_here = rw (is_itself b.question_id) refl;
        none = gets.0;
      }
      in
      open_holds (messages.Bootstrap b) k opens (numbered.0 k (is_itself k)) t.calls (λ q apart. refl) (inl none)
