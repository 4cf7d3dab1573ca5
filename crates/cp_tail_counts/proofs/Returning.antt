-- The vat sends a Return.
use Rattle.std.specs.Prelude.{◌≡◌, refl, ℕ, ◌+◌, ◌-◌, ◌<◌, ◌==◌, ◌&&◌, map, if◌then◌else◌, Bool, true, false, List, [], ◌∷◌, ◌++◌, Option, Some, None, IfSome, IsTrue}
use Rattle.std.specs.List.{list_all}
use Rattle.std.specs.FinMap.{get, insert, remove}
use Rattle.std.proofs.Common.{arith, true≢false, sym, ap, subst, ◌∙◌}
use Rattle.cp_tables.specs.declared.exchange.Stage.{Stage}
use Rattle.cp_tables.specs.declared.exchange.Stage.TheVariants as stages
use Rattle.cp_tables.proofs.TableLemmas.{get-insert_same, get-remove_same}
use Rattle.cp_messages.specs.declared.descriptor.Descriptor.{Descriptor}
use Rattle.cp_messages.specs.declared.descriptor.Descriptor.TheVariants as descriptors
use Rattle.cp_messages.specs.declared.message.Message.{Message}
use Rattle.cp_messages.specs.declared.message.Message.TheVariants as messages
use Rattle.cp_messages.specs.declared.returned.Return.{Return}
use Rattle.cp_messages.specs.declared.returned.Returned.{Returned}
use Rattle.cp_messages.specs.declared.returned.Returned.TheVariants as returns
use Rattle.cp_vat_machine.specs.Receiving.{times}
use Rattle.cp_vat_machine.specs.Give.{returned_mentions}
use Rattle.cp_vat_machine.specs.Supported.{is_supported_descriptor, is_supported_returned}
use Rattle.cp_vat_machine.proofs.Basics.{is_equal, is_itself, some_out, none_out, put_at, gone_at}
use Rattle.cp_vat_pair_laws.specs.Ledger.{Traffic, named_by, params_of, results_of, export_count, is_finished, import_count}
use Rattle.cp_vat_pair_laws.specs.Ledger as ledger
use Rattle.cp_vat_pair_laws.specs.Accounts.{Account, Accounts, results_in, answer_given, given_at, Sent}
use Rattle.cp_vat_pair_laws.specs.Expected.{IsAwaited}
use Rattle.cp_tail_calls.specs.declared.forwarding.ForwardedMessage.{ForwardedMessage}
use Rattle.cp_tail_calls.specs.declared.forwarding.ForwardedMessage.TheVariants as owed
use Rattle.cp_tail_calls.specs.declared.progress.Progress.{Progress}
use Rattle.cp_tail_calls.specs.declared.progress.Progress.TheVariants as progress
use Rattle.cp_tail_calls.specs.declared.progress.Taker.{Taker}
use Rattle.cp_tail_calls.specs.Receiving.{sent_elsewhere, return_to, finish_if, without_call}
use Rattle.cp_tail_calls.specs.Seen.{other_way, seen_from_here}
use Rattle.cp_tail_calls.specs.Sending.{calls_after, send_return_of}
use Rattle.cp_tail_calls.specs.Tails.{Tails}
use Rattle.cp_tail_counts.specs.Peer.{heard}
use Rattle.cp_tail_counts.specs.Counts.{owed_to, owed_for, lent_of}
use Rattle.cp_tail_counts.proofs.Holds.{any, never, any_never, any_more, any_back, returns_one, is_finish_of, lowers_all, lowers_append, IsAt, IsRight, IsOnce, AreRight, right_append, Waits, Plainly, IsKeptAs, IsTakers, Holds, stay_right, lower_same, open_names_none, finished_names_none}
use Rattle.cp_tail_counts.proofs.Locally.{Locally, all_answers, all_takers, all_below, owed_change, owed_same, item_right, item_lowers}

-- ---- results as the peer would send them are supported
turned_supported : (table : List Descriptor) → IsTrue (list_all is_supported_descriptor table) → IsTrue (list_all is_supported_descriptor (map other_way table))
turned_supported [] h = h
turned_supported (d ∷ table) h = by d (both (is_supported_descriptor d) _ h).0 (turned_supported table (both (is_supported_descriptor d) _ h).1)
  where
    both : (b c : Bool) → IsTrue (b && c) → IsTrue b × IsTrue c
    both true c h = (refl, h)
    both false c h = absurd (true≢false (sym h))

    by : (d : Descriptor) → IsTrue (is_supported_descriptor d) → IsTrue (list_all is_supported_descriptor (map other_way table))
        → IsTrue (is_supported_descriptor (other_way d) && list_all is_supported_descriptor (map other_way table))
    by descriptors.None h rest = rest
    by (descriptors.SenderHosted e) h rest = rest
    by (descriptors.SenderPromise e) h rest = rest
    by (descriptors.ReceiverHosted i) h rest = rest
    by (descriptors.ReceiverAnswer answer) h rest = rw (h) rest
    by (descriptors.ThirdPartyHosted x) h rest = absurd (true≢false (sym h))
    by (descriptors.Unknown n) h rest = absurd (true≢false (sym h))

pub seen_supported : (returned : Returned) → IsTrue (is_supported_returned returned) → IsTrue (is_supported_returned (seen_from_here returned))
seen_supported (returns.Results p) h = turned_supported p.cap_table h
seen_supported other h = h

-- ---- an answer is given
given_open : (named : List ℕ) (o new : Option Account) → answer_given named o ≡ Some new → IsAt stages.Open o
    → new ≡ Some (record { stage = stages.Returned; kept = named })
given_open named None new after at = absurd at
given_open named (Some account) new after at = sym (some_out (subst (λ (s : Stage). given_at named s ≡ Some new) at after))

given_none : (named : List ℕ) (o new : Option Account) → answer_given named o ≡ Some new → o ≡ None → ⊥
given_none named None new after none = none_out after
given_none named (Some account) new after none = none_out (sym none)

given_again : (named : List ℕ) (o new : Option Account) → answer_given named o ≡ Some new → IsAt stages.Returned o → ⊥
given_again named None new after at = at
given_again named (Some account) new after at = none_out (subst (λ (s : Stage). given_at named s ≡ Some new) at after)

given_finished : (named : List ℕ) (o new : Option Account) → answer_given named o ≡ Some new → IsAt stages.Finished o → (named ≡ []) × (new ≡ None)
given_finished named None new after at = absurd at
given_finished named (Some account) new after at = by named (subst (λ (s : Stage). given_at named s ≡ Some new) at after)
  where
    by : (named : List ℕ) → given_at named stages.Finished ≡ Some new → (named ≡ []) × (new ≡ None)
    by [] after = (refl, sym (some_out after))
    by (e ∷ more) after = none_out after

given_plainly : (named : List ℕ) (o new : Option Account) → answer_given named o ≡ Some new → Plainly false new named
given_plainly named None new after = none_out after
given_plainly named (Some account) new after = by account.stage named after
  where
    by : (s : Stage) (named : List ℕ) → given_at named s ≡ Some new → Plainly false new named
    by stages.Open named after = rw (← some_out after) refl
    by stages.Returned named after = none_out after
    by stages.Finished [] after = rw (← some_out after) tt
    by stages.Finished (e ∷ named) after = none_out after

gone_plainly : (b : Bool) (o : Option Account) (peers : List ℕ) → o ≡ None → Plainly b o peers
gone_plainly true o peers none = tt
gone_plainly false o peers none = rw (none) tt

names_given : (o : Option Account) (named : List ℕ) → o ≡ Some (record { stage = stages.Returned; kept = named }) → results_in o ≡ named
names_given o named is = rw (is) refl

is_given : (o : Option Account) (named : List ℕ) → o ≡ Some (record { stage = stages.Returned; kept = named }) → IsAt stages.Returned o
is_given o named is = rw (is) refl

module _ (most : ℕ) (past : List Traffic) (t : Tails) (old new : Accounts) (h : Holds most past t old) (r : Return) (goes : Sent old (messages.Return r) new)
    (supported : IsTrue (is_supported_returned r.returned)) (keeps : r.release_param_caps ≡ false) where
  abbrev k : ℕ
  k = r.answer_id

  abbrev named : List ℕ
  named = returned_mentions r.returned

  after : answer_given named (old.answers k) ≡ Some (new.answers k)
  after = rw (is_itself k) at (goes.answers k)

  some_answer : old.answers k ≡ None → ⊥
  some_answer = given_none named (old.answers k) (new.answers k) after

  ungiven : IsAt stages.Returned (old.answers k) → ⊥
  ungiven = given_again named (old.answers k) (new.answers k) after

  others : (q : ℕ) → (k == q) ≡ false → new.answers q ≡ old.answers q
  others q apart = sym (some_out (rw (apart) at (goes.answers q)))

  questions : (q : ℕ) → new.questions q ≡ old.questions q
  questions q = sym (some_out (goes.questions q))

  imports : (i : ℕ) → new.imports i ≡ import_count past i + lent_of t i
  imports i = omega (arith, goes.imports i, h.imports i)

  imports_sent : (i : ℕ) → new.imports i ≡ import_count past i - 0 + lent_of t i
  imports_sent i = omega (arith, imports i)

  kept_as : (how : Option Progress) → get t.calls k ≡ how → IsKeptAs how (old.answers k) (get t.results k) (results_of past k) (any (is_finish_of k) t.owed)
  kept_as how is = rw (is) at (h.answers k)

  -- what else is kept
  module _ (later : List Traffic) (last : Tails) (is : Locally k past later t last old new) where
    rights : ((a : ℕ) → get t.takers a ≡ None → get last.takers a ≡ None) → AreRight last.calls last.takers new t.owed
    rights takes =
        stay_right t.calls last.calls t.takers last.takers old new never t.owed (any_never t.owed) (λ o none right. item_right most k past later t last old new h is takes o some_answer ungiven right) h.owed

    lowered : (e : ℕ) → lowers_all e new t.owed ≡ lowers_all e old t.owed
    lowered e =
        lower_same t.calls last.calls t.takers last.takers old new e never t.owed (any_never t.owed) (λ o none right. item_lowers most k past later t last old new h is e o ungiven right) h.owed

  -- ---- of no tail call
  plain_local : Locally k past (ledger.sent (messages.Return r) ∷ past) t t old new
  plain_local =
      record {
        calls = λ q apart. refl;
        results = λ q apart. refl;
        answers = others;
        peers = λ q apart. rw (apart) refl;
        finishing = λ q apart. refl;
        questions = questions;
        takers = λ a q apart is. is;
      }

  plainly : (b : Bool) → Plainly b (new.answers k) named
  plainly true = tt
  plainly false = given_plainly named (old.answers k) (new.answers k) after

  plain_here : get t.calls k ≡ None
      → IsKeptAs (get t.calls k) (new.answers k) (get t.results k) (results_of (ledger.sent (messages.Return r) ∷ past) k) (any (is_finish_of k) t.owed)
  plain_here none = rw (none, is_itself k) ((kept_as None none).0, plainly (any (is_finish_of k) t.owed))

  plain_holds : get t.calls k ≡ None → Holds most (ledger.sent (messages.Return r) ∷ past) t new
  plain_holds none =
      record {
        exports = λ e fair.
            omega (
              arith,
              goes.exports e,
              h.exports e fair,
              owed_same most k past (ledger.sent (messages.Return r) ∷ past) t t old new h plain_local e none none,
              lowered (ledger.sent (messages.Return r) ∷ past) t plain_local e,
            );
        imports = imports_sent;
        given_fairly = λ i. (omega arith, h.given_fairly i);
        params = (keeps, h.params);
        questions = λ q. rw (questions q) (h.questions q);
        answers = all_answers most k past (ledger.sent (messages.Return r) ∷ past) t t old new h plain_local (plain_here none);
        takers = all_takers most k past (ledger.sent (messages.Return r) ∷ past) t t old new h plain_local (rw (none) tt);
        owed = rights (ledger.sent (messages.Return r) ∷ past) t plain_local (λ a is. is);
        below = h.below;
      }

  small_of : (how : Progress) → get t.calls k ≡ Some how → k < most
  small_of how is = h.below k (rw (is) refl)

  -- ---- results that no question took are kept
  abbrev keeping : Tails
  keeping = record t { results = insert t.results k r }

  keep_local : Locally k past past t keeping old new
  keep_local =
      record {
        calls = λ q apart. refl;
        results = λ q apart. put_at t.results k q r false apart;
        answers = others;
        peers = λ q apart. refl;
        finishing = λ q apart. refl;
        questions = questions;
        takers = λ a q apart is. is;
      }

  open_of : (kept : Option Return) → Waits kept (old.answers k) → IsAt stages.Open (old.answers k)
  open_of None waits = waits
  open_of (Some x) waits = absurd (ungiven waits.0)

  keep_holds : get t.calls k ≡ Some progress.Untaken → Holds most past keeping new
  keep_holds is =
      let was = kept_as (Some progress.Untaken) is in
      let at = open_of (get t.results k) was.1 in
      let now = given_open named (old.answers k) (new.answers k) after at in
      record {
        exports = λ e fair.
            omega (
              arith,
              goes.exports e,
              h.exports e fair,
              owed_change most k past past t keeping old new h keep_local e (small_of progress.Untaken is),
              before e at,
              later e now,
              lowered past keeping keep_local e,
            );
        imports = imports;
        given_fairly = h.given_fairly;
        params = h.params;
        questions = λ q. rw (questions q) (h.questions q);
        answers = all_answers most k past past t keeping old new h keep_local
            (rw (is, get-insert_same t.results k r) (was.0, (is_given (new.answers k) named now, supported, keeps)));
        takers = all_takers most k past past t keeping old new h keep_local (rw (is) tt);
        owed = rights past keeping keep_local (λ a is. is);
        below = h.below;
      }
    where
      before : (e : ℕ) → IsAt stages.Open (old.answers k) → owed_for e old k (get t.calls k) ≡ 0
      before e at = rw (is, open_names_none (old.answers k) at) refl

      later : (e : ℕ) → new.answers k ≡ Some (record { stage = stages.Returned; kept = named }) → owed_for e new k (get t.calls k) ≡ times e named
      later e now = rw (is, names_given (new.answers k) named now) (omega arith)

  -- ---- a question takes them
  abbrev elsewhere : Message
  elsewhere = sent_elsewhere k r.release_param_caps

  elsewhere_names : (q : ℕ) → results_of (ledger.sent elsewhere ∷ past) q ≡ (if k == q then [] else results_of past q)
  elsewhere_names q = refl

  module _ (taker : Taker) (is : get t.calls k ≡ Some (progress.Taken taker)) where
    abbrev passing : Bool → List ForwardedMessage
    passing b = owed.ToVat (return_to taker r.returned) ∷ finish_if b k

    abbrev giving : Bool → Tails
    giving b = record t { calls = calls_after b t.calls k; takers = remove t.takers taker.question; owed = t.owed ++ passing b }

    taking : (get t.takers taker.question ≡ Some k) × IsAwaited (old.questions taker.question)
    taking = rw (is) at (h.takers k)

    calls_off : (b : Bool) (q : ℕ) → (k == q) ≡ false → get (calls_after b t.calls k) q ≡ get t.calls q
    calls_off true q apart = gone_at t.calls k q false apart
    calls_off false q apart = put_at t.calls k q progress.Given false apart

    no_finish : (b : Bool) (q : ℕ) → (k == q) ≡ false → any (is_finish_of q) (passing b) ≡ false
    no_finish true q apart = rw (apart) refl
    no_finish false q apart = refl

    takers_off : (a q : ℕ) → (k == q) ≡ false → get t.takers a ≡ Some q → get (remove t.takers taker.question) a ≡ Some q
    takers_off a q apart is = by (taker.question == a) refl
      where
        by : (b : Bool) → (taker.question == a) ≡ b → get (remove t.takers taker.question) a ≡ Some q
        by true same =
            let equal : k ≡ q = some_out (sym taking.0 ∙ ap (λ (a : ℕ). get t.takers a) (is_equal taker.question a same) ∙ is) in
            absurd (true≢false (sym (is_itself k) ∙ ap (λ (q : ℕ). k == q) equal ∙ apart))
        by false other = gone_at t.takers taker.question a false other ∙ is

    takes_off : (a : ℕ) → get t.takers a ≡ None → get (remove t.takers taker.question) a ≡ None
    takes_off a none = by (taker.question == a) refl
      where
        by : (b : Bool) → (taker.question == a) ≡ b → get (remove t.takers taker.question) a ≡ None
        by true same = gone_at t.takers taker.question a true same
        by false other = gone_at t.takers taker.question a false other ∙ none

    give_local : (b : Bool) → Locally k past (ledger.sent elsewhere ∷ past) t (giving b) old new
    give_local b =
        record {
          calls = calls_off b;
          results = λ q apart. refl;
          answers = others;
          peers = λ q apart. rw (apart) refl;
          finishing = λ q apart. any_more (is_finish_of q) t.owed (passing b) (no_finish b q apart);
          questions = questions;
          takers = takers_off;
        }

    was : (results_of past k ≡ []) × (get t.results k ≡ None) × IsAt stages.Open (old.answers k)
    was = kept_as (Some (progress.Taken taker)) is

    now : new.answers k ≡ Some (record { stage = stages.Returned; kept = named })
    now = given_open named (old.answers k) (new.answers k) after was.2

    calls_at : (b : Bool) → get (calls_after b t.calls k) k ≡ (if b then None else Some progress.Given)
    calls_at true = get-remove_same t.calls k
    calls_at false = get-insert_same t.calls k progress.Given

    finishes : (b : Bool) → b ≡ true → any (is_finish_of k) (t.owed ++ passing b) ≡ true
    finishes true e = any_back (is_finish_of k) t.owed (passing true) (rw (is_itself k) refl)
    finishes false e = absurd (true≢false (sym e))

    give_here : (b : Bool)
        → IsKeptAs (get (giving b).calls k) (new.answers k) (get t.results k) (results_of (ledger.sent elsewhere ∷ past) k) (any (is_finish_of k) (giving b).owed)
    give_here true = rw (calls_at true, finishes true refl) (was.1, tt)
    give_here false = rw (calls_at false, is_itself k) (refl, was.1, is_given (new.answers k) named now)

    give_takers : (b : Bool) → IfSome (get (giving b).calls k) (IsTakers (giving b).takers new k)
    give_takers true = rw (calls_at true) tt
    give_takers false = rw (calls_at false) tt

    -- what is passed on now
    return_right : (b : Bool) → IsRight (giving b).calls (giving b).takers new (owed.ToVat (return_to taker r.returned))
    return_right b = (
      rw (questions taker.question) taking.1,
      get-remove_same t.takers taker.question,
      seen_supported r.returned supported,
      (r.returned, refl),
    )

    passing_right : (b : Bool) → AreRight (giving b).calls (giving b).takers new (passing b)
    passing_right true = (return_right true, refl, ((refl, calls_at true, is_given (new.answers k) named now), refl, tt))
    passing_right false = (return_right false, refl, tt)

    not_taker : (a : ℕ) → get t.takers a ≡ None → (taker.question == a) ≡ false
    not_taker a none = by (taker.question == a) refl
      where
        by : (b : Bool) → (taker.question == a) ≡ b → (taker.question == a) ≡ false
        by true same = none_out (sym none ∙ ap (λ (a : ℕ). get t.takers a) (sym (is_equal taker.question a same)) ∙ taking.0)
        by false other = other

    not_call : (q : ℕ) → get t.calls q ≡ None → (k == q) ≡ false
    not_call q none = by (k == q) refl
      where
        by : (b : Bool) → (k == q) ≡ b → (k == q) ≡ false
        by true same = none_out (sym none ∙ ap (λ (q : ℕ). get t.calls q) (sym (is_equal k q same)) ∙ is)
        by false other = other

    return_once : (b : Bool) (a : ℕ) → (taker.question == a) ≡ false → any (returns_one (λ q. q == a)) (passing b) ≡ false
    return_once true a apart = rw (apart) refl
    return_once false a apart = rw (apart) refl

    once : (b : Bool) (o : ForwardedMessage) → IsRight t.calls t.takers old o → IsOnce o (passing b)
    once b (owed.ToPeer m) right = tt
    once b (owed.ToVat (messages.Return x)) right = return_once b x.answer_id (not_taker x.answer_id right.1)
    once b (owed.ToVat (messages.Finish f)) right = no_finish b f.question_id (not_call f.question_id right.1)
    once b (owed.ToVat m) right = absurd right

    -- how much is owed
    params_at : (e : ℕ) → owed_to e new (progress.Taken taker) ≡ owed_to e old (progress.Taken taker)
    params_at e = rw (questions taker.question) refl

    owed_before : (e : ℕ) → owed_for e old k (get t.calls k) ≡ owed_to e old (progress.Taken taker)
    owed_before e = rw (is, open_names_none (old.answers k) was.2) (omega arith)

    owed_after : (b : Bool) (e : ℕ) → owed_for e new k (get (giving b).calls k) + lowers_all e new (passing b) ≡ times e named + owed_to e new (progress.Taken taker)
    owed_after true e = rw (calls_at true, names_given (new.answers k) named now) (omega arith)
    owed_after false e = rw (calls_at false, names_given (new.answers k) named now) (omega arith)

    give_holds : (b : Bool) → Holds most (ledger.sent elsewhere ∷ past) (giving b) new
    give_holds b =
        record {
          exports = λ e fair.
              omega (
                arith,
                goes.exports e,
                h.exports e fair,
                owed_change most k past (ledger.sent elsewhere ∷ past) t (giving b) old new h (give_local b) e (small_of (progress.Taken taker) is),
                owed_before e,
                owed_after b e,
                params_at e,
                lowered (ledger.sent elsewhere ∷ past) (giving b) (give_local b) e,
                lowers_append e new t.owed (passing b),
              );
          imports = imports_sent;
          given_fairly = λ i. (omega arith, h.given_fairly i);
          params = (keeps, h.params);
          questions = λ q. rw (questions q) (h.questions q);
          answers = all_answers most k past (ledger.sent elsewhere ∷ past) t (giving b) old new h (give_local b) (give_here b);
          takers = all_takers most k past (ledger.sent elsewhere ∷ past) t (giving b) old new h (give_local b) (give_takers b);
          owed =
              right_append
              t.calls
              (giving b).calls
              t.takers
              (giving b).takers
              old
              new
              t.owed
              (passing b)
              (rights (ledger.sent elsewhere ∷ past) (giving b) (give_local b) takes_off)
              (passing_right b)
              h.owed
              (once b);
          below = all_below most k past (ledger.sent elsewhere ∷ past) t (giving b) old new h (give_local b) (λ some. small_of (progress.Taken taker) is);
        }

  -- ---- a call that was given up
  module _ (is : get t.calls k ≡ Some progress.GivenUp) where
    abbrev leaving : Tails
    leaving = without_call t k

    leave_local : Locally k past (ledger.sent elsewhere ∷ past) t leaving old new
    leave_local =
        record {
          calls = λ q apart. gone_at t.calls k q false apart;
          results = λ q apart. refl;
          answers = others;
          peers = λ q apart. rw (apart) refl;
          finishing = λ q apart. refl;
          questions = questions;
          takers = λ a q apart is. is;
        }

    up : (results_of past k ≡ []) × (get t.results k ≡ None) × IsAt stages.Finished (old.answers k)
    up = kept_as (Some progress.GivenUp) is

    gone : (named ≡ []) × (new.answers k ≡ None)
    gone = given_finished named (old.answers k) (new.answers k) after up.2

    names_none : (e : ℕ) → times e named ≡ 0
    names_none e = ap (λ (names : List ℕ). times e names) gone.0

    owed_none : (e : ℕ) → owed_for e old k (get t.calls k) ≡ 0
    owed_none e = rw (is, finished_names_none (old.answers k) up.2) refl

    owed_gone : (e : ℕ) → owed_for e new k (get leaving.calls k) ≡ 0
    owed_gone e = rw (get-remove_same t.calls k) refl

    leave_holds : Holds most (ledger.sent elsewhere ∷ past) leaving new
    leave_holds =
        record {
          exports = λ e fair.
              omega (
                arith,
                goes.exports e,
                h.exports e fair,
                owed_change most k past (ledger.sent elsewhere ∷ past) t leaving old new h leave_local e (small_of progress.GivenUp is),
                names_none e,
                owed_none e,
                owed_gone e,
                lowered (ledger.sent elsewhere ∷ past) leaving leave_local e,
              );
          imports = imports_sent;
          given_fairly = λ i. (omega arith, h.given_fairly i);
          params = (keeps, h.params);
          questions = λ q. rw (questions q) (h.questions q);
          answers = all_answers most k past (ledger.sent elsewhere ∷ past) t leaving old new h leave_local
              (rw (get-remove_same t.calls k) (up.1, gone_plainly (any (is_finish_of k) t.owed) (new.answers k) _ gone.1));
          takers = all_takers most k past (ledger.sent elsewhere ∷ past) t leaving old new h leave_local (rw (get-remove_same t.calls k) tt);
          owed = rights (ledger.sent elsewhere ∷ past) leaving leave_local (λ a is. is);
          below = all_below most k past (ledger.sent elsewhere ∷ past) t leaving old new h leave_local (λ some. small_of progress.GivenUp is);
        }

  -- ---- all of them
  pub return_sent : (how : Option Progress) → get t.calls k ≡ how → Holds most (heard (send_return_of t r how).0 ++ past) (send_return_of t r how).1 new
  return_sent None is = plain_holds is
  return_sent (Some progress.Untaken) is = keep_holds is
  return_sent (Some (progress.Taken taker)) is = give_holds taker is taker.is_finished
  return_sent (Some progress.Given) is = absurd (ungiven (kept_as (Some progress.Given) is).2)
  return_sent (Some progress.GivenUp) is = leave_holds is
