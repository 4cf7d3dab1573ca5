-- The Return of a question comes, from the peer or from tail calls; or it takes the results of a call.
use Rattle.std.specs.Prelude.{◌≡◌, refl, ℕ, ◌+◌, ◌<◌, ◌==◌, if◌then◌else◌, Bool, true, false, List, [], ◌∷◌, Option, Some, None, IfSome}
use Rattle.std.specs.FinMap.{get, insert}
use Rattle.std.proofs.Common.{arith, sym, ap, ◌∙◌, inl}
use Rattle.cp_tables.proofs.TableLemmas.{get-insert_same, get-remove_same}
use Rattle.cp_messages.specs.declared.message.Message.TheVariants as messages
use Rattle.cp_messages.specs.declared.returned.Return.{Return}
use Rattle.cp_messages.specs.declared.returned.Returned.TheVariants as returns
use Rattle.cp_vat_machine.specs.Receiving.{times}
use Rattle.cp_vat_machine.specs.Give.{returned_mentions}
use Rattle.cp_vat_machine.proofs.Basics.{is_equal, other_number, none_out, put_at, gone_at}
use Rattle.cp_vat_pair_laws.specs.Ledger.{Traffic, params_of, results_of, lowered_times, export_count, is_finished, taken_by, import_count}
use Rattle.cp_vat_pair_laws.specs.Ledger as ledger
use Rattle.cp_vat_pair_laws.specs.Accounts.{Accounts, is_given_up, taken_in, results_in, params_in, lowerable, lowered_by, Came}
use Rattle.cp_vat_pair_laws.specs.Expected.{IsAwaited}
use Rattle.cp_tail_calls.specs.declared.forwarding.ForwardedMessage.{ForwardedMessage}
use Rattle.cp_tail_calls.specs.declared.forwarding.ForwardedMessage.TheVariants as owed
use Rattle.cp_tail_calls.specs.declared.progress.Progress.TheVariants as progress
use Rattle.cp_tail_calls.specs.Receiving.{sent_elsewhere, given, taken, taker_by}
use Rattle.cp_tail_calls.specs.Tails.{Tails}
use Rattle.cp_tail_counts.specs.Counts.{owed_to, owed_for, owed_below, lent_of}
use Rattle.cp_tail_counts.proofs.Holds.{any, returns_one, is_finish_of, lowers_all, AreRight, Waits, IsTakers, IsAskedAs, Holds}
use Rattle.cp_tail_counts.proofs.Locally.{Locally, all_answers, all_takers, all_below, owed_change}
use Rattle.cp_tail_counts.proofs.Staying.{still_owed, still_lowers, still_takers, still_right}
use Rattle.cp_tail_counts.proofs.Questions.{Stays, asked_return, params_known, finish_known}
use Rattle.cp_tail_counts.proofs.Returning.{seen_supported}

module _ (most : ℕ) (past : List Traffic) (t : Tails) (old new : Accounts) (h : Holds most past t old) (r : Return) where
  abbrev a : ℕ
  a = r.answer_id

  -- ---- the vat gets the Return of a question that takes no results
  module _ (free : get t.takers a ≡ None) (due : IsAwaited (old.questions a)) (comes : Came old (messages.Return r) new) where
    not_taker : (b q : ℕ) → get t.takers b ≡ Some q → (b == a) ≡ false
    not_taker b q is = by (b == a) refl
      where
        by : (c : Bool) → (b == a) ≡ c → (b == a) ≡ false
        by true same = none_out (sym free ∙ ap (λ (b : ℕ). get t.takers b) (sym (is_equal b a same)) ∙ is)
        by false other = other

    stays : (q : ℕ) → (q == a) ≡ false → Stays (old.questions q) (new.questions q)
    stays q apart waits = rw (comes.questions q, other_number q a apart) (waits, refl)

    pub asked : (q : ℕ) → IsAskedAs (params_of past q) (is_finished past q) q (new.questions q)
    asked q = rw (comes.questions q) (asked_return (a == q) (params_of past q) (is_finished past q) q (old.questions q) (h.questions q))

    -- what it lowers and lends is what the peer knows of
    pub params_same : params_of past a ≡ params_in (old.questions a)
    params_same = params_known (params_of past a) (is_finished past a) a (old.questions a) (h.questions a) due

    pub finish_same : is_finished past a ≡ is_given_up (old.questions a)
    finish_same = finish_known (params_of past a) (is_finished past a) a (old.questions a) (h.questions a) due

    pub stays_owed : (e : ℕ) → owed_below most e new t ≡ owed_below most e old t
    stays_owed e = still_owed most past t old new h (λ q. q == a) comes.answers stays not_taker e

    pub stays_lowers : (e : ℕ) (os : List ForwardedMessage) → any (returns_one (λ q. q == a)) os ≡ false → AreRight t.calls t.takers old os
        → lowers_all e new os ≡ lowers_all e old os
    stays_lowers e os none right = still_lowers most past t old new h (λ q. q == a) comes.answers stays not_taker e os none right

    pub stays_takers : (q : ℕ) → IfSome (get t.calls q) (IsTakers t.takers new q)
    stays_takers = still_takers most past t old new h (λ q. q == a) comes.answers stays not_taker

    pub stays_right : (os : List ForwardedMessage) → any (returns_one (λ q. q == a)) os ≡ false → AreRight t.calls t.takers old os → AreRight t.calls t.takers new os
    stays_right os none right = still_right most past t old new h (λ q. q == a) comes.answers stays not_taker os none right

  -- from the peer
  pub return_comes : t.owed ≡ [] → get t.takers a ≡ None → IsAwaited (old.questions a) → Came old (messages.Return r) new
      → Holds most (ledger.came (messages.Return r) ∷ past) t new
  return_comes settled free due comes =
      record {
        exports = λ e fair.
            omega (
              arith,
              comes.exports e,
              h.exports e fair.1,
              fair.0,
              lowered_same e,
              stays_owed free due comes e,
              stays_lowers free due comes e t.owed none_owed h.owed,
            );
        imports = λ i. omega (arith, comes.imports i, h.imports i, taken_same i);
        questions = asked free due comes;
        answers = λ q. rw (comes.answers q) (h.answers q);
        takers = stays_takers free due comes;
        owed = stays_right free due comes t.owed none_owed h.owed;
        below = h.below;
        given_fairly = h.given_fairly;
        params = h.params;
      }
    where
      none_owed : any (returns_one (λ q. q == a)) t.owed ≡ false
      none_owed = rw (settled) refl

      lowered_same : (e : ℕ) → lowered_by (lowerable old) (messages.Return r) e ≡ lowered_times past (messages.Return r) e
      lowered_same e = rw (params_same free due comes) refl

      taken_same : (i : ℕ) → times i (taken_in old.questions (messages.Return r)) ≡ times i (taken_by past (messages.Return r))
      taken_same i = rw (finish_same free due comes) refl

  -- ---- it takes the results of a call
  module _ (settled : t.owed ≡ []) (free : get t.takers a ≡ None) (due : IsAwaited (old.questions a)) (k : ℕ) (takes : r.returned ≡ returns.TakeFromOtherQuestion k)
      (untaken : get t.calls k ≡ Some progress.Untaken) where
    abbrev later : List Traffic
    later = ledger.came (messages.Return r) ∷ past

    small : k < most
    small = h.below k (rw (untaken) refl)

    kept_as : (kept : Option Return) → get t.results k ≡ kept → (results_of past k ≡ []) × Waits kept (old.answers k)
    kept_as kept is = rw (is) at (rw (untaken) at (h.answers k))

    not_finishing : (q : ℕ) → any (is_finish_of q) t.owed ≡ false
    not_finishing q = rw (settled) refl

    none_named : (b : Bool) (i : ℕ) → times i (if b then [] else returned_mentions r.returned) ≡ 0
    none_named true i = refl
    none_named false i = rw (takes) refl

    imports : (i : ℕ) → old.imports i ≡ import_count later i + lent_of t i
    imports i = omega (arith, h.imports i, none_named (is_finished past a) i)

    owed_then : (e : ℕ) → owed_for e old k (get t.calls k) ≡ times e (results_in (old.answers k))
    owed_then e = rw (untaken) (omega arith)

    was_none : (e : ℕ) → lowers_all e old t.owed ≡ 0
    was_none e = rw (settled) refl

    params_there : params_of past a ≡ params_in (old.questions a)
    params_there = params_known (params_of past a) (is_finished past a) a (old.questions a) (h.questions a) due

    owed_params : (e : ℕ) → lowered_times past (messages.Return r) e ≡ owed_to e old (progress.Taken (taker_by r))
    owed_params e = rw (params_there) refl

    -- once they are there
    abbrev waiting : Tails
    waiting = taken t k (taker_by r) None

    wait_local : Locally k past later t waiting old old
    wait_local =
        record {
          calls = λ q apart. put_at t.calls k q (progress.Taken (taker_by r)) false apart;
          results = λ q apart. refl;
          answers = λ q apart. refl;
          peers = λ q apart. refl;
          finishing = λ q apart. refl;
          questions = λ q. refl;
          takers = takers_off;
        }
      where
        takers_off : (b q : ℕ) → (k == q) ≡ false → get t.takers b ≡ Some q → get (insert t.takers a k) b ≡ Some q
        takers_off b q apart is = by (a == b) refl
          where
            by : (c : Bool) → (a == b) ≡ c → get (insert t.takers a k) b ≡ Some q
            by true same = none_out (sym free ∙ ap (λ (b : ℕ). get t.takers b) (is_equal a b same) ∙ is)
            by false other = put_at t.takers a b k false other ∙ is

    pub wait_holds : get t.results k ≡ None → Holds most later waiting old
    wait_holds none =
        let was = kept_as None none in
        let here : get waiting.calls k ≡ Some (progress.Taken (taker_by r)) = get-insert_same t.calls k (progress.Taken (taker_by r)) in
        record {
          exports = λ e fair.
              omega (
                arith,
                h.exports e fair.1,
                fair.0,
                owed_params e,
                owed_change most k past later t waiting old old h wait_local e small,
                owed_then e,
                owed_now e here,
              );
          imports = imports;
          questions = h.questions;
          answers = all_answers most k past later t waiting old old h wait_local (rw (here) (was.0, none, was.1));
          takers = all_takers most k past later t waiting old old h wait_local (rw (here) (get-insert_same t.takers a k, due));
          owed = rw (settled) tt;
          below = all_below most k past later t waiting old old h wait_local (λ some. small);
          given_fairly = h.given_fairly;
          params = h.params;
        }
      where
        owed_now : (e : ℕ) → get waiting.calls k ≡ Some (progress.Taken (taker_by r))
            → owed_for e old k (get waiting.calls k) ≡ times e (results_in (old.answers k)) + owed_to e old (progress.Taken (taker_by r))
        owed_now e here = rw (here) refl

    -- when they are there
    module _ (x : Return) (there : get t.results k ≡ Some x) where
      abbrev more : List ForwardedMessage
      more = owed.ToPeer (sent_elsewhere k x.release_param_caps) ∷ given k (taker_by r) x.returned

      abbrev giving : Tails
      giving = taken t k (taker_by r) (Some x)

      was : (results_of past k ≡ []) × Waits (Some x) (old.answers k)
      was = kept_as (Some x) there

      give_local : Locally k past later t giving old old
      give_local =
          record {
            calls = λ q apart. put_at t.calls k q progress.Given false apart;
            results = λ q apart. gone_at t.results k q false apart;
            answers = λ q apart. refl;
            peers = λ q apart. refl;
            finishing = λ q apart. rw (settled) refl;
            questions = λ q. refl;
            takers = λ a q apart is. is;
          }

      here : get giving.calls k ≡ Some progress.Given
      here = get-insert_same t.calls k progress.Given

      owed_now : (e : ℕ) → owed_for e old k (get giving.calls k) ≡ times e (results_in (old.answers k))
      owed_now e = rw (here) (omega arith)

      lowers_now : (e : ℕ) → lowers_all e old giving.owed ≡ owed_to e old (progress.Taken (taker_by r))
      lowers_now e = rw (settled) (omega arith)

      pub give_holds : Holds most later giving old
      give_holds =
          record {
            exports = λ e fair.
                omega (
                  arith,
                  h.exports e fair.1,
                  fair.0,
                  owed_params e,
                  owed_change most k past later t giving old old h give_local e small,
                  owed_then e,
                  owed_now e,
                  was_none e,
                  lowers_now e,
                );
            imports = imports;
            questions = h.questions;
            answers = all_answers most k past later t giving old old h give_local (rw (here, get-remove_same t.results k) (was.0, refl, was.1.0));
            takers = all_takers most k past later t giving old old h give_local (rw (here) tt);
            owed =
                rw
                (settled)
                ((k, ap (λ (b : Bool). sent_elsewhere k b) was.1.2, inl here), tt, ((due, free, seen_supported x.returned was.1.1, (x.returned, refl)), refl, tt));
            below = all_below most k past later t giving old old h give_local (λ some. small);
            given_fairly = h.given_fairly;
            params = h.params;
          }
