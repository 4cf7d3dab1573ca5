-- A Finish comes, or one that was held back is passed on.
use Rattle.std.specs.Prelude.{◌≡◌, refl, ℕ, ◌+◌, ◌<◌, ◌==◌, if◌then◌else◌, Bool, true, false, List, [], ◌∷◌, ◌++◌, Option, Some, None}
use Rattle.std.specs.FinMap.{get, insert, remove}
use Rattle.std.proofs.Common.{arith, sym, ap, subst, ◌∙◌, inr}
use Rattle.cp_tables.specs.Table.{Table}
use Rattle.cp_tables.specs.declared.exchange.Stage.{Stage}
use Rattle.cp_tables.specs.declared.exchange.Stage.TheVariants as stages
use Rattle.cp_tables.proofs.TableLemmas.{get-insert_same, get-remove_same}
use Rattle.cp_messages.specs.declared.message.Message.TheVariants as messages
use Rattle.cp_messages.specs.declared.returned.Return.{Return}
use Rattle.cp_messages.specs.declared.small.Finish.{Finish}
use Rattle.cp_vat_machine.specs.Receiving.{times}
use Rattle.cp_vat_machine.proofs.Basics.{is_itself, put_at, gone_at}
use Rattle.cp_vat_pair_laws.specs.Ledger.{Traffic, results_of, import_count}
use Rattle.cp_vat_pair_laws.specs.Ledger as ledger
use Rattle.cp_vat_pair_laws.specs.Accounts.{Account, Accounts, results_at, results_in, finish_noted, answer_finished, Came}
use Rattle.cp_vat_pair_laws.specs.Expected.{IsKept}
use Rattle.cp_tail_calls.specs.declared.forwarding.ForwardedMessage.{ForwardedMessage}
use Rattle.cp_tail_calls.specs.declared.forwarding.ForwardedMessage.TheVariants as owed
use Rattle.cp_tail_calls.specs.declared.progress.Progress.{Progress}
use Rattle.cp_tail_calls.specs.declared.progress.Progress.TheVariants as progress
use Rattle.cp_tail_calls.specs.declared.progress.Taker.{Taker}
use Rattle.cp_tail_calls.specs.Receiving.{sent_elsewhere, finish_of}
use Rattle.cp_tail_calls.specs.Tails.{Tails}
use Rattle.cp_tail_counts.specs.Behind.{Gets}
use Rattle.cp_tail_counts.specs.Counts.{owed_to, owed_for, lent_of}
use Rattle.cp_tail_counts.proofs.Holds.{any, is_finish_of, lowers_all, IsAt, AreRight, Waits, Plainly, IsKeptAs, Holds, open_names_none}
use Rattle.cp_tail_counts.proofs.Locally.{Locally, all_answers, all_takers, all_below, owed_change, owed_same}

-- ---- what a Finish does to an answer
pub finished_open : (o : Option Account) → IsAt stages.Open o → IsAt stages.Finished (answer_finished o)
finished_open None at = at
finished_open (Some account) at = subst (λ (s : Stage). IsAt stages.Finished (finish_noted s account.kept)) (sym at) refl

finished_given : (o : Option Account) → IsAt stages.Returned o → answer_finished o ≡ None
finished_given None at = absurd at
finished_given (Some account) at = ap (λ (s : Stage). finish_noted s account.kept) at

pub finished_again : (o : Option Account) → IsAt stages.Finished o → IsKept o → ⊥
finished_again None at kept = kept
finished_again (Some account) at kept = by account.stage at kept
  where
    by : (s : Stage) → s ≡ stages.Finished → IsKept (Some (record { stage = s; kept = account.kept })) → ⊥
    by stages.Finished at kept = kept
    by stages.Open at kept = elsewhere at
      where
        elsewhere : stages.Open ≡ stages.Finished → ⊥
        elsewhere e = cc
    by stages.Returned at kept = elsewhere at
      where
        elsewhere : stages.Returned ≡ stages.Finished → ⊥
        elsewhere e = cc

finished_plainly : (b : Bool) (o : Option Account) (peers : List ℕ) → Plainly false o peers → IsKept o → Plainly b (answer_finished o) peers
finished_plainly true o peers plain kept = tt
finished_plainly false None peers plain kept = absurd kept
finished_plainly false (Some account) peers plain kept = by account.stage plain kept
  where
    by : (s : Stage) → peers ≡ results_at s account.kept → IsKept (Some (record { stage = s; kept = account.kept })) → Plainly false (finish_noted s account.kept) peers
    by stages.Open plain kept = plain
    by stages.Returned plain kept = tt
    by stages.Finished plain kept = absurd kept

plain_results : (o : Option Account) (peers : List ℕ) → Plainly false o peers → IsKept o → results_in o ≡ peers
plain_results None peers plain kept = absurd kept
plain_results (Some account) peers plain kept = sym plain

plainly_gone : (b : Bool) (o : Option Account) (peers : List ℕ) → o ≡ None → Plainly b o peers
plainly_gone true o peers none = tt
plainly_gone false o peers none = rw (none) tt

module _ (most : ℕ) (past : List Traffic) (t : Tails) (old new : Accounts) (h : Holds most past t old) (settled : t.owed ≡ []) (f : Finish) where
  abbrev k : ℕ
  k = f.question_id

  abbrev later : List Traffic
  later = ledger.came (messages.Finish f) ∷ past

  not_finishing : (q : ℕ) → any (is_finish_of q) t.owed ≡ false
  not_finishing q = rw (settled) refl

  kept_as : (how : Option Progress) → get t.calls k ≡ how → IsKeptAs how (old.answers k) (get t.results k) (results_of past k) false
  kept_as how is = rw (is, not_finishing k) at (h.answers k)

  lowered : (e : ℕ) → lowers_all e new t.owed ≡ lowers_all e old t.owed
  lowered e = rw (settled) refl

  was_none : (e : ℕ) → lowers_all e old t.owed ≡ 0
  was_none e = rw (settled) refl

  small_of : (how : Progress) → get t.calls k ≡ Some how → k < most
  small_of how is = h.below k (rw (is) refl)

  -- the peer never got the results of a tail call
  peers_none : results_of past k ≡ [] → (b : Bool) (e : ℕ) → (if b then times e (results_of past k) else 0) ≡ 0
  peers_none none true e = rw (none) refl
  peers_none none false e = refl

  -- ---- the vat gets it
  module _ (release : Bool) (comes : Came old (messages.Finish (record { question_id = k; release_result_caps = release })) new) where
    others : (q : ℕ) → (k == q) ≡ false → new.answers q ≡ old.answers q
    others q apart = rw (comes.answers q, apart) refl

    here : new.answers k ≡ answer_finished (old.answers k)
    here = rw (comes.answers k, is_itself k) refl

    imports : (i : ℕ) → new.imports i ≡ import_count later i + lent_of t i
    imports i = omega (arith, comes.imports i, h.imports i)

    local : (calls : Table Progress) (results : Table Return) (more : List ForwardedMessage) → ((q : ℕ) → (k == q) ≡ false → get calls q ≡ get t.calls q)
        → ((q : ℕ) → (k == q) ≡ false → get results q ≡ get t.results q) → ((q : ℕ) → any (is_finish_of q) more ≡ false)
        → Locally k past later t (record t { calls = calls; results = results; owed = more }) old new
    local calls results more called kept none =
        record {
          calls = called;
          results = kept;
          answers = others;
          peers = λ q apart. refl;
          finishing = λ q apart. none q ∙ sym (not_finishing q);
          questions = comes.questions;
          takers = λ a q apart is. is;
        }

  -- of no tail call
  pub plain_finish : get t.calls k ≡ None → Gets old (messages.Finish f) new → Holds most later t new
  plain_finish none gets =
      let comes = gets.1 in
      let is = local f.release_result_caps comes t.calls t.results t.owed (λ q apart. refl) (λ q apart. refl) not_finishing in
      let was = kept_as None none in
      record {
        exports = λ e fair.
            omega (
              arith,
              comes.exports e,
              h.exports e fair.1,
              fair.0,
              owed_same most k past later t t old new h is e none none,
              lowered e,
              same_lowered was.1 gets.0 f.release_result_caps e,
            );
        imports = imports f.release_result_caps comes;
        questions = λ q. rw (comes.questions q) (h.questions q);
        answers = all_answers most k past later t t old new h is
            (rw (none, here f.release_result_caps comes) (was.0, finished_plainly (any (is_finish_of k) t.owed) (old.answers k) (results_of past k) was.1 gets.0));
        takers = all_takers most k past later t t old new h is (rw (none) tt);
        owed = rw (settled) tt;
        below = h.below;
        given_fairly = h.given_fairly;
        params = h.params;
      }
    where
      same_lowered : Plainly false (old.answers k) (results_of past k) → IsKept (old.answers k) → (b : Bool) (e : ℕ)
          → (if b then times e (results_in (old.answers k)) else 0) ≡ (if b then times e (results_of past k) else 0)
      same_lowered plain kept true e = ap (λ (names : List ℕ). times e names) (plain_results (old.answers k) (results_of past k) plain kept)
      same_lowered plain kept false e = refl

  -- before a question took the results, which aren't there
  abbrev given_up : Tails
  given_up = record t { calls = insert t.calls k progress.GivenUp }

  pub give_up : get t.calls k ≡ Some progress.Untaken → get t.results k ≡ None → Gets old (messages.Finish (finish_of k)) new → Holds most later given_up new
  give_up untaken none gets =
      let comes = gets.1 in
      let calls = insert t.calls k progress.GivenUp in
      let is = local true comes calls t.results t.owed (λ q apart. put_at t.calls k q progress.GivenUp false apart) (λ q apart. refl) not_finishing in
      let was = kept_as (Some progress.Untaken) untaken in
      let at : IsAt stages.Open (old.answers k) = rw (none) at was.1 in
      record {
        exports = λ e fair.
            omega (
              arith,
              comes.exports e,
              h.exports e fair.1,
              peers_none was.0 f.release_result_caps e,
              owed_change most k past later t given_up old new h is e (small_of progress.Untaken untaken),
              names_none e at,
              owed_then e at,
              owed_now e at (here true comes),
              lowered e,
            );
        imports = imports true comes;
        questions = λ q. rw (comes.questions q) (h.questions q);
        answers = all_answers most k past later t given_up old new h is
            (rw (get-insert_same t.calls k progress.GivenUp, here true comes) (was.0, none, finished_open (old.answers k) at));
        takers = all_takers most k past later t given_up old new h is (rw (get-insert_same t.calls k progress.GivenUp) tt);
        owed = rw (settled) tt;
        below = all_below most k past later t given_up old new h is (λ some. small_of progress.Untaken untaken);
        given_fairly = h.given_fairly;
        params = h.params;
      }
    where
      names_none : (e : ℕ) → IsAt stages.Open (old.answers k) → times e (results_in (old.answers k)) ≡ 0
      names_none e at = ap (λ (names : List ℕ). times e names) (open_names_none (old.answers k) at)

      owed_then : (e : ℕ) → IsAt stages.Open (old.answers k) → owed_for e old k (get t.calls k) ≡ 0
      owed_then e at = rw (untaken, open_names_none (old.answers k) at) refl

      finished_none : (o : Option Account) → IsAt stages.Finished o → results_in o ≡ []
      finished_none None at = absurd at
      finished_none (Some account) at = ap (λ (s : Stage). results_at s account.kept) at

      owed_now : (e : ℕ) → IsAt stages.Open (old.answers k) → new.answers k ≡ answer_finished (old.answers k) → owed_for e new k (get given_up.calls k) ≡ 0
      owed_now e at now = rw (get-insert_same t.calls k progress.GivenUp, now, finished_none (answer_finished (old.answers k)) (finished_open (old.answers k) at)) refl

  -- when the results are there: of a call that goes, with what the peer is told of it then
  module _ (how : Progress) (called : get t.calls k ≡ Some how) (peers : results_of past k ≡ []) (at : IsAt stages.Returned (old.answers k)) (gets : Gets old (messages.Finish (finish_of k)) new)
      (none_owed : (e : ℕ) → owed_to e old how ≡ 0) (results : Table Return) (off : (q : ℕ) → (k == q) ≡ false → get results q ≡ get t.results q) (gone : get results k ≡ None)
      (more : List ForwardedMessage) (quiet : (q : ℕ) → any (is_finish_of q) more ≡ false) (none_lowered : (e : ℕ) → lowers_all e new more ≡ 0)
      (right : AreRight (remove t.calls k) t.takers new more) where
    abbrev left : Tails
    left = record t { calls = remove t.calls k; results = results; owed = more }

    went : new.answers k ≡ None
    went = here true gets.1 ∙ finished_given (old.answers k) at

    left_local : Locally k past later t left old new
    left_local = local true gets.1 (remove t.calls k) results more (λ q apart. gone_at t.calls k q false apart) off quiet

    owed_then : (e : ℕ) → owed_for e old k (get t.calls k) ≡ times e (results_in (old.answers k))
    owed_then e = rw (called) (omega (arith, none_owed e))

    owed_now : (e : ℕ) → owed_for e new k (get left.calls k) ≡ 0
    owed_now e = rw (get-remove_same t.calls k) refl

    pub finish_given : Holds most later left new
    finish_given =
        record {
          exports = λ e fair.
              omega (
                arith,
                gets.1.exports e,
                h.exports e fair.1,
                peers_none peers f.release_result_caps e,
                owed_change most k past later t left old new h left_local e (small_of how called),
                owed_then e,
                owed_now e,
                was_none e,
                none_lowered e,
              );
          imports = imports true gets.1;
          questions = λ q. rw (gets.1.questions q) (h.questions q);
          answers = all_answers most k past later t left old new h left_local
              (rw (get-remove_same t.calls k, went) (gone, plainly_gone (any (is_finish_of k) more) None (results_of past k) refl));
          takers = all_takers most k past later t left old new h left_local (rw (get-remove_same t.calls k) tt);
          owed = right;
          below = all_below most k past later t left old new h left_local (λ some. small_of how called);
          given_fairly = h.given_fairly;
          params = h.params;
        }

    pub gone_answer : new.answers k ≡ None
    gone_answer = went

  -- after a question took the results
  pub finish_taken_before : get t.calls k ≡ Some progress.Given → Gets old (messages.Finish (finish_of k)) new → Holds most later (record t { calls = remove t.calls k }) new
  finish_taken_before called gets =
      let was = kept_as (Some progress.Given) called in
      finish_given progress.Given called was.0 was.2 gets (λ e. refl) t.results (λ q apart. refl) was.1 t.owed not_finishing (λ e. rw (settled) refl) (rw (settled) tt)

  -- results that no question took are let go
  abbrev telling : Bool → List ForwardedMessage
  telling b = t.owed ++ owed.ToPeer (sent_elsewhere k b) ∷ []

  pub finish_kept : (r : Return) → get t.calls k ≡ Some progress.Untaken → get t.results k ≡ Some r → Gets old (messages.Finish (finish_of k)) new
      → Holds most later (record t { calls = remove t.calls k; results = remove t.results k; owed = telling r.release_param_caps }) new
  finish_kept r called kept gets =
      let was = kept_as (Some progress.Untaken) called in
      let waits : Waits (Some r) (old.answers k) = rw (kept) at was.1 in
      let went : new.answers k ≡ None = here true gets.1 ∙ finished_given (old.answers k) waits.0 in
      finish_given
      progress.Untaken
      called
      was.0
      waits.0
      gets
      (λ e. refl)
      (remove t.results k)
      (λ q apart. gone_at t.results k q false apart)
      (get-remove_same t.results k)
      (telling r.release_param_caps)
      (λ q. rw (settled) refl)
      (λ e. rw (settled) refl)
      (rw (settled) ((k, ap (λ (b : Bool). sent_elsewhere k b) waits.2, inr went), tt, tt))

  -- before the results are there that a question takes: it is held back
  pub finish_waits : (taker : Taker) → get t.calls k ≡ Some (progress.Taken taker)
      → Holds most later (record t { calls = insert t.calls k (progress.Taken (record taker { is_finished = true })) }) old
  finish_waits taker called =
      let calls = insert t.calls k (progress.Taken (record taker { is_finished = true })) in
      let waiting : Tails = record t { calls = calls } in
      let here : get calls k ≡ Some (progress.Taken (record taker { is_finished = true })) = get-insert_same t.calls k (progress.Taken (record taker { is_finished = true })) in
      let is : Locally k past later t waiting old old =
      record {
        calls = λ q apart. put_at t.calls k q (progress.Taken (record taker { is_finished = true })) false apart;
        results = λ q apart. refl;
        answers = λ q apart. refl;
        peers = λ q apart. refl;
        finishing = λ q apart. refl;
        questions = λ q. refl;
        takers = λ a q apart is. is;
      }
      in
      let was = kept_as (Some (progress.Taken taker)) called in
      record {
        exports = λ e fair.
            omega (
              arith,
              h.exports e fair.1,
              peers_none was.0 f.release_result_caps e,
              owed_change most k past later t waiting old old h is e (small_of (progress.Taken taker) called),
              same_owed e (get t.calls k) (get calls k) called here,
            );
        imports = λ i. omega (arith, h.imports i);
        questions = h.questions;
        answers = all_answers most k past later t waiting old old h is (rw (here) was);
        takers = all_takers most k past later t waiting old old h is (rw (here) (rw (called) at (h.takers k)));
        owed = rw (settled) tt;
        below = all_below most k past later t waiting old old h is (λ some. small_of (progress.Taken taker) called);
        given_fairly = h.given_fairly;
        params = h.params;
      }
    where
      same_owed : (e : ℕ) (before after : Option Progress) → before ≡ Some (progress.Taken taker) → after ≡ Some (progress.Taken (record taker { is_finished = true }))
          → owed_for e old k after ≡ owed_for e old k before
      same_owed e before after is now = rw (is, now) refl
