-- Resolves that come, and whole steps of a vat, as the accounts see them.
use Rattle.std.specs.Prelude.{◌≡◌, refl, ℕ, ◌+◌, not, if◌then◌else◌, Bool, true, false, List, [], ◌∷◌, Option, Some, None, IsTrue, Ok, Err}
use Rattle.std.specs.FinMap.{get}
use Rattle.std.proofs.Common.{arith, ap, sym, ◌∙◌, true≢false}
use Rattle.cp_tree.specs.Node.{Node}
use Rattle.cp_tables.specs.Table.{Table}
use Rattle.cp_tables.specs.declared.counted.Counted.{Counted}
use Rattle.cp_messages.specs.Written.{message_written}
use Rattle.cp_messages.specs.declared.descriptor.Descriptor.{Descriptor}
use Rattle.cp_messages.specs.declared.exception.Exception.{Exception}
use Rattle.cp_messages.specs.declared.message.Message.{Message}
use Rattle.cp_messages.specs.declared.message.Message.TheVariants as messages
use Rattle.cp_messages.specs.declared.resolve.Resolution.{Resolution}
use Rattle.cp_messages.specs.declared.resolve.Resolution.TheVariants as resolutions
use Rattle.cp_messages.specs.declared.resolve.Resolve.{Resolve}
use Rattle.cp_refs.specs.declared.cap.Cap.{Cap}
use Rattle.cp_refs.specs.declared.cap.Cap.TheVariants as caps
use Rattle.cp_vat_machine.specs.State.{State, with_exports}
use Rattle.cp_vat_machine.specs.Then.{Done, fault_if}
use Rattle.cp_vat_machine.specs.Capacity.{message_fits}
use Rattle.cp_vat_machine.specs.Supported.{is_supported}
use Rattle.cp_vat_machine.specs.Writing.{mentioned_by, mentions_of}
use Rattle.cp_vat_machine.specs.Receiving.{times, release_exports}
use Rattle.cp_vat_machine.specs.Resolving.{given_back, releases_of, is_open_promise, TakeResolution, resolved, ResolveOf, told, UnknownToPeer, OnAbort}
use Rattle.cp_vat_machine.specs.Step.{On, echo_fits, echoed, ReceivesIf, Receives, Follows, all_left, found_full}
use Rattle.cp_vat_machine.specs.declared.effect.Effect.{Effect}
use Rattle.cp_vat_machine.specs.declared.effect.Effect.TheVariants as effects
use Rattle.cp_vat_machine.specs.declared.entry.ImportKind.{ImportKind}
use Rattle.cp_vat_machine.specs.declared.fault.PeerFault.{PeerFault}
use Rattle.cp_vat_machine.specs.declared.fault.PeerFault.TheVariants as faults
use Rattle.cp_vat_machine.proofs.Basics.{ok_in, ok_out, then_out, unless_out}
use Rattle.cp_vat_pair_laws.specs.Accounts.{Accounts, accounts_of}
use Rattle.cp_vat_pair_laws.specs.VatPair.{messages_sent}
use Rattle.cp_vat_pair_laws.specs.Lives.{AreUsual}
use Rattle.cp_vat_pair_laws.specs.Posting.{Posts}
use Rattle.cp_vat_pair_laws.specs.Orderly.{IsOrderly, Goes, Heeds, RulesPost}
use Rattle.cp_vat_pair_laws.proofs.counts.rules.Counted.{times_more, one_of, lower_counts}
use Rattle.cp_vat_pair_laws.proofs.counts.rules.Same.{same_accounts}
use Rattle.cp_vat_pair_laws.proofs.counts.rules.Say.{times_append}
use Rattle.cp_vat_pair_laws.proofs.counts.rules.Go.{go_goes, leave_goes}
use Rattle.cp_vat_pair_laws.proofs.counts.rules.Take.{TakenIn, taken_none, take_in}
use Rattle.cp_vat_pair_laws.proofs.counts.rules.Does.{does_goes}
use Rattle.cp_vat_pair_laws.proofs.NewPairs.{new_orderly}
use Rattle.cp_vat_pair_laws.proofs.counts.rules.CallComes.{call_heeds, bootstrap_heeds, lower_plain, release_heeds, finish_heeds, disembargo_heeds}
use Rattle.cp_vat_pair_laws.proofs.counts.rules.ReturnComes.{return_heeds}

-- The Resolve of an import that isn't held is given back, import by import.
record SameElse (one other : Accounts) : Type 0 where
  exports : (e : ℕ) → other.exports e ≡ one.exports e
  questions : (q : ℕ) → other.questions q ≡ one.questions q
  answers : (a : ℕ) → other.answers a ≡ one.answers a

given_back_post : (ids : List ℕ) (old new : Accounts) → SameElse old new → ((i : ℕ) → old.imports i ≡ new.imports i + times i ids)
    → Posts old (messages_sent (releases_of ids)) new
given_back_post [] old new same counts = same_accounts old new same.exports (λ i. omega (arith, counts i)) same.questions same.answers
given_back_post (id ∷ ids) old new same counts =
    let mid : Accounts = record new { imports = λ i. new.imports i + times i ids } in (
      mid,
      record {
        exports = λ e. omega (arith, same.exports e);
        imports = λ i. omega (arith, counts i, times_more i id ids, one_of i id);
        questions = λ q. ap Some (sym (same.questions q));
        answers = λ a. ap Some (sym (same.answers a));
      },
      given_back_post ids mid new (record { exports = λ e. refl; questions = λ q. refl; answers = λ a. refl }) (λ i. refl),
    )

releases_usual : (ids : List ℕ) → AreUsual (messages_sent (releases_of ids))
releases_usual [] = tt
releases_usual (id ∷ ids) = ((refl, tt), releases_usual ids)

unheld_heeds : (old : State) (r : Resolve) → IsOrderly old → Heeds old (messages.Resolve r) (releases_of (given_back r.resolution)) old
unheld_heeds old r orderly =
    let mid : Accounts = record (accounts_of old) { imports = λ i. (accounts_of old).imports i + times i (given_back r.resolution) } in (
      record {
        mid = mid;
        came = record { exports = λ e. omega arith; imports = λ i. refl; questions = λ q. refl; answers = λ a. refl };
        usual = releases_usual (given_back r.resolution);
        posts = given_back_post (given_back r.resolution) mid (accounts_of old) (record { exports = λ e. refl; questions = λ q. refl; answers = λ a. refl }) (λ i. refl);
      },
      orderly,
    )

-- that of one that is held is taken in
held_heeds : (old mid : State) (r : Resolve) (ds : List Descriptor) (value : Cap) → TakenIn old ds mid → ((i : ℕ) → times i (mentions_of ds) ≡ times i (given_back r.resolution))
    → IsOrderly old → Heeds old (messages.Resolve r) [] (resolved mid r.promise_id value)
held_heeds old mid r ds value taken named orderly = (
  record {
    mid = accounts_of (resolved mid r.promise_id value);
    came =
        record {
          exports = λ e. rw (taken.exports) (omega arith);
          imports = λ i. omega (arith, taken.counted i, named i);
          questions = λ q. rw (taken.questions) refl;
          answers = taken.answers;
        };
    usual = tt;
    posts = refl;
  },
  record {
    held = rw (taken.calls, taken.questions) orderly.held;
    values = taken.values orderly.values;
    answers = rw (taken.given) orderly.answers;
    exports = rw (taken.exports) orderly.exports;
  },
)

resolution_heeds : (old : State) (id : ℕ) (resolution : Resolution) (taken : Cap × State) → IsOrderly old → TakeResolution old resolution (Ok taken)
    → Heeds old (messages.Resolve (record { promise_id = id; resolution = resolution })) [] (resolved taken.1 id taken.0)
resolution_heeds old id (resolutions.Cap d) taken orderly is =
    held_heeds old taken.1 (record { promise_id = id; resolution = resolutions.Cap d }) (d ∷ []) taken.0 (take_in old d taken is)
    (λ i. omega (arith, times_append i (mentioned_by d) [])) orderly
resolution_heeds old id (resolutions.Exception x) taken orderly is =
    rw
    (ok_in _ _ is)
    (held_heeds old old (record { promise_id = id; resolution = resolutions.Exception x }) [] (caps.Broken x) (taken_none old) (λ i. refl) orderly)
resolution_heeds old id (resolutions.Unknown n) taken orderly is = absurd is

resolve_of : (old : State) (r : Resolve) (o : Option (Counted ImportKind)) (done : Done) → IsOrderly old → ResolveOf old r o (Ok done)
    → Heeds old (messages.Resolve r) done.0 done.1
resolve_of old r None done orderly does = rw (ok_in _ _ does) (unheld_heeds old r orderly)
resolve_of old r (Some entry) done orderly does =
    let rule = unless_out {A = Done} {F = PeerFault}
    (fault_if (not (is_open_promise entry.kept (get old.values.imports r.promise_id))) faults.NotAnOpenPromise) _ done does in
    let parts = then_out {A = Cap × State} {B = Done} (TakeResolution old r.resolution) _ done rule in
    rw (ok_in _ _ parts.2) (resolution_heeds old r.promise_id r.resolution parts.0 orderly parts.1)

-- a Resolve that the peer doesn't know is given back
unknown_heeds : (old : State) (t : Node) (o : Option Message) (done : Done) → told t ≡ o → IsOrderly old → UnknownToPeer old o (Ok done)
    → Heeds old (messages.Unimplemented t) done.0 done.1
unknown_heeds old t (Some (messages.Resolve r)) done is orderly does =
    let parts = then_out {A = Table (Counted Cap)} {B = Done} (λ exports. exports ≡ release_exports old.counts.exports (given_back r.resolution)) _ done does in
    rw
    (ok_in _ _ parts.2) (
      record {
        mid = accounts_of (with_exports old parts.0);
        came =
            record {
              exports = λ e. rw (is) (lower_counts old.counts.exports parts.0 (given_back r.resolution) parts.1 e);
              imports = λ i. omega arith;
              questions = λ q. refl;
              answers = λ a. refl;
            };
        usual = tt;
        posts = refl;
      },
      record {
        held = orderly.held;
        values = orderly.values;
        answers = orderly.answers;
        exports = lower_plain old.counts.exports parts.0 (given_back r.resolution) orderly.exports parts.1;
      },
    )
unknown_heeds old t None done is orderly does = ok_out does
unknown_heeds old t (Some (messages.Unimplemented u)) done is orderly does = ok_out does
unknown_heeds old t (Some (messages.Abort x)) done is orderly does = ok_out does
unknown_heeds old t (Some (messages.Call c)) done is orderly does = ok_out does
unknown_heeds old t (Some (messages.Return r)) done is orderly does = ok_out does
unknown_heeds old t (Some (messages.Finish f)) done is orderly does = ok_out does
unknown_heeds old t (Some (messages.Release r)) done is orderly does = ok_out does
unknown_heeds old t (Some (messages.Bootstrap b)) done is orderly does = ok_out does
unknown_heeds old t (Some (messages.Disembargo d)) done is orderly does = ok_out does
unknown_heeds old t (Some (messages.Other which body)) done is orderly does = ok_out does

-- an Abort changes no account
abort_heeds : (old : State) (x : Exception) (done : Done) → IsOrderly old → OnAbort old x (Ok done) → Heeds old (messages.Abort x) done.0 done.1
abort_heeds old x done orderly does =
    rw
    (ok_in _ _ does) (
      record {
        mid = accounts_of old;
        came = record { exports = λ e. omega arith; imports = λ i. omega arith; questions = λ q. refl; answers = λ a. refl };
        usual = tt;
        posts = refl;
      },
      record { held = orderly.held; values = orderly.values; answers = orderly.answers; exports = orderly.exports },
    )

-- any message that is supported
on_heeds : (old : State) (m : Message) (done : Done) → IsOrderly old → On old m (Ok done) → Heeds old m done.0 done.1
on_heeds old (messages.Unimplemented t) done orderly does = unknown_heeds old t (told t) done refl orderly does
on_heeds old (messages.Abort x) done orderly does = abort_heeds old x done orderly does
on_heeds old (messages.Call c) done orderly does = call_heeds old c done orderly does
on_heeds old (messages.Return r) done orderly does = return_heeds old r done orderly does
on_heeds old (messages.Finish f) done orderly does = finish_heeds old f done orderly does
on_heeds old (messages.Resolve r) done orderly does = resolve_of old r (get old.counts.imports r.promise_id) done orderly does
on_heeds old (messages.Release r) done orderly does = release_heeds old r done orderly does
on_heeds old (messages.Bootstrap b) done orderly does = bootstrap_heeds old b.question_id done orderly does
on_heeds old (messages.Disembargo d) done orderly does = disembargo_heeds old d d.context done orderly does
on_heeds old (messages.Other which body) done orderly does = absurd does

supported_receives : (b : Bool) (old : State) (m : Message) (done : Done) → b ≡ true → ReceivesIf b old m (Ok done) → On old m (Ok done)
supported_receives true old m done is does = unless_out {A = Done} {F = PeerFault} (fault_if (not (message_fits m)) faults.PayloadTooLarge) (On old m) done does
supported_receives false old m done is does = absurd (true≢false (sym is))

pub receives_heeds : (old : State) (m : Message) (done : Done) → IsTrue (is_supported m) → IsOrderly old → Receives old m (Ok done) → Heeds old m done.0 done.1
receives_heeds old m done supported orderly does = on_heeds old m done orderly (supported_receives (is_supported m) old m done supported does)

-- one that isn't supported is sent back, and changes nothing
pub echo_goes : (old : State) (m : Message) (done : Done) → Ok done ≡ echoed old m
    → (done.1 ≡ old) × (done.0 ≡ effects.Send (messages.Unimplemented (message_written m)) ∷ [])
echo_goes old m done is = by (echo_fits (message_written (messages.Unimplemented (message_written m)))) is
  where
    by : (b : Bool) → Ok done ≡ (if b then Ok (effects.Send (messages.Unimplemented (message_written m)) ∷ [], old) else Err faults.EchoTooLarge)
        → (done.1 ≡ old) × (done.0 ≡ effects.Send (messages.Unimplemented (message_written m)) ∷ [])
    by true same = (ap (λ d. d.1) (ok_in _ _ same), ap (λ d. d.0) (ok_in _ _ same))
    by false same = ok_out same

-- what follows, while the vat is open
pub follows_goes : (mid new : State) (rest : List Effect) → new.is_closed ≡ false → IsOrderly mid → Follows mid rest new → Goes mid rest new
follows_goes mid new rest open_ orderly (all_left leave) = leave_goes orderly leave
follows_goes mid new rest open_ orderly (found_full leave all closed) = absurd (true≢false (sym closed ∙ open_))

pub rules_post : RulesPost
rules_post =
    record {
      starts = new_orderly;
      does = does_goes;
      receives = receives_heeds;
      goes = go_goes;
      leaves = λ old last all orderly leave. leave_goes orderly leave;
    }
