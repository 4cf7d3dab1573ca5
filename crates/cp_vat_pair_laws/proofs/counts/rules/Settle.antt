-- Promises that are settled, and the Resolves that tell of them, as the accounts see them.
use Rattle.std.specs.Prelude.{◌≡◌, refl, ℕ, ◌+◌, ◌==◌, if◌then◌else◌, Bool, true, false, List, [], ◌∷◌, Option, Some, Ok}
use Rattle.std.specs.FinMap.{get, insert}
use Rattle.std.proofs.Common.{inl, inr, arith}
use Rattle.cp_tables.specs.Table.{Table}
use Rattle.cp_tables.specs.Counted.{count_of}
use Rattle.cp_tables.specs.declared.counted.Counted.{Counted}
use Rattle.cp_messages.specs.declared.descriptor.Descriptor.{Descriptor}
use Rattle.cp_messages.specs.declared.resolve.Resolution.{Resolution}
use Rattle.cp_messages.specs.declared.resolve.Resolution.TheVariants as resolutions
use Rattle.cp_messages.specs.declared.message.Message.TheVariants as messages
use Rattle.cp_refs.specs.At.{cap_at}
use Rattle.cp_refs.specs.declared.cap.Cap.{Cap}
use Rattle.cp_refs.specs.declared.cap.Cap.TheVariants as caps
use Rattle.cp_refs.specs.declared.outcome.Outcome.{Outcome}
use Rattle.cp_vat_machine.specs.State.{State, with_exports}
use Rattle.cp_vat_machine.specs.Then.{Done, Then}
use Rattle.cp_vat_machine.specs.Texts.{promise_loop}
use Rattle.cp_vat_machine.specs.InUse.{caps_of}
use Rattle.cp_vat_machine.specs.Receiving.{times}
use Rattle.cp_vat_machine.specs.Writing.{WritesEnd, mentioned_by}
use Rattle.cp_vat_machine.specs.Give.{ResolvesEnd, Tells, settled, value_for, last_for, Settle, SettleTied, resolve_of}
use Rattle.cp_vat_machine.specs.Resolving.{given_back}
use Rattle.cp_vat_machine.specs.Supported.{is_supported_descriptor, is_supported_resolution}
use Rattle.cp_vat_machine.specs.declared.entry.Tied.{Tied}
use Rattle.cp_vat_machine.proofs.Basics.{ok_in, then_out, put_at}
use Rattle.cp_vat_pair_laws.specs.Lives.{is_settled_resolution}
use Rattle.cp_vat_pair_laws.specs.Orderly.{IsPlainValue, ArePlainValues, ArePlainExports, IsOrderly, Goes}
use Rattle.cp_vat_pair_laws.proofs.counts.rules.Say.{times_append, first_true, said_end}
use Rattle.cp_vat_pair_laws.proofs.counts.rules.TwoParts.{sends_both, sends_none, sends_one}
use Rattle.cp_vat_pair_laws.proofs.counts.rules.Plain.{IsPlain, IsPlainTable, plain_at, plain_end, said_plain, said_settled}

-- what a resolution names is counted, and nothing else changed
pub record Resolving (old : State) (resolution : Resolution) (new : State) : Type 0 where
  pub only : new ≡ with_exports old new.counts.exports
  pub counted : (f : ℕ) → count_of new.counts.exports f ≡ count_of old.counts.exports f + times f (given_back resolution)
  pub supported : is_supported_resolution resolution ≡ true
  pub settles : is_settled_resolution resolution ≡ true
  pub plain : ArePlainExports new.counts.exports

resolves_cap : (old : State) (last : Cap) (said : Resolution × State) → IsPlain last → ArePlainExports old.counts.exports
    → Then (WritesEnd old last) (λ said out. out ≡ Ok (resolutions.Cap said.0, said.1)) (Ok said) → Resolving old said.0 said.1
resolves_cap old last said plain all does =
    let parts = then_out {A = Descriptor × State} {B = Resolution × State} (WritesEnd old last) _ said does in
    let ended = said_end old last parts.0 parts.1 in
    rw
    (ok_in _ _ parts.2)
    (record {
      only = ended.only;
      counted = λ f. omega (arith, ended.counted f, times_append f (mentioned_by parts.0.0) []);
      supported = first_true (is_supported_descriptor parts.0.0) _ ended.supported;
      settles = said_settled old last parts.0 plain parts.1;
      plain = said_plain old last parts.0 all parts.1;
    })

resolves_end : (old : State) (last : Cap) (said : Resolution × State) → IsPlain last → ArePlainExports old.counts.exports → ResolvesEnd old last (Ok said)
    → Resolving old said.0 said.1
resolves_end old (caps.Broken x) said plain all does =
    rw (ok_in _ _ does) (record { only = refl; counted = λ f. omega arith; supported = refl; settles = refl; plain = all })
resolves_end old caps.None said plain all does = resolves_cap old caps.None said plain all does
resolves_end old (caps.Object k) said plain all does = resolves_cap old (caps.Object k) said plain all does
resolves_end old (caps.Promise p) said plain all does = resolves_cap old (caps.Promise p) said plain all does
resolves_end old (caps.Import i) said plain all does = resolves_cap old (caps.Import i) said plain all does
resolves_end old (caps.Pipelined q path) said plain all does = resolves_cap old (caps.Pipelined q path) said plain all does

-- its Resolve goes out
resolve_goes : (old mid : State) (X : Table (Counted Cap)) (e : ℕ) (resolution : Resolution) → mid ≡ with_exports old X
    → ((f : ℕ) → count_of X f ≡ count_of old.counts.exports f + times f (given_back resolution)) → is_supported_resolution resolution ≡ true
    → is_settled_resolution resolution ≡ true → ArePlainExports X → IsOrderly old → Goes old (resolve_of e resolution ∷ []) mid
resolve_goes old mid X e resolution only counts supported settles plain orderly =
    rw
    (only) (
      sends_one old (with_exports old X) (messages.Resolve (record { promise_id = e; resolution = resolution })) (resolve_of e resolution ∷ []) refl (supported, settles)
          (record { exports = counts; imports = λ i. omega arith; questions = λ q. refl; answers = λ a. refl }),
      record { held = orderly.held; values = orderly.values; answers = orderly.answers; exports = plain },
    )

tells_goes : (old : State) (p : ℕ) (last : Cap) (done : Done) → IsOrderly old → IsPlain last → Tells old p last (Ok done) → Goes old done.0 done.1
tells_goes old p last done orderly plain (inl h) = rw (ok_in _ _ h.1) (sends_none old old [] refl refl, orderly)
tells_goes old p last done orderly plain (inr h) =
    let parts = then_out {A = Resolution × State} {B = Done} (ResolvesEnd old last) _ done h.2 in
    let said = resolves_end old last parts.0 plain orderly.exports parts.1 in
    rw (ok_in _ _ parts.2) (resolve_goes old parts.0.1 parts.0.1.counts.exports h.0 parts.0.0 said.only said.counted said.supported said.settles said.plain orderly)

-- the value that a promise is settled to
plain_value : (p : ℕ) (last value : Cap) → IsPlain value → IsPlain (value_for p last value)
plain_value p (caps.Promise r) value plain = by (r == p)
  where
    by : (b : Bool) → IsPlain (if b then caps.Broken promise_loop else value)
    by true = refl
    by false = plain
plain_value p caps.None value plain = plain
plain_value p (caps.Object k) value plain = plain
plain_value p (caps.Import i) value plain = plain
plain_value p (caps.Pipelined q path) value plain = plain
plain_value p (caps.Broken x) value plain = plain

put_value : (promises : Table (Option Cap)) (p q : ℕ) (value : Option Cap) (b : Bool) → (p == q) ≡ b → IsPlainValue (Some value) → ArePlainValues promises
    → IsPlainValue (get (insert promises p value) q)
put_value promises p q value true t plain all = rw (put_at promises p q value true t) plain
put_value promises p q value false t plain all = rw (put_at promises p q value false t) (all q)

pub values_put : (promises : Table (Option Cap)) (p : ℕ) (value : Option Cap) → IsPlainValue (Some value) → ArePlainValues promises → ArePlainValues (insert promises p value)
values_put promises p value plain all q = put_value promises p q value (p == q) refl plain all

settled_orderly : (old : State) (p : ℕ) (value : Cap) → IsPlain value → IsOrderly old → IsOrderly (settled old p value)
settled_orderly old p value plain orderly =
    record { held = orderly.held; values = values_put old.values.promises p (Some value) plain orderly.values; answers = orderly.answers; exports = orderly.exports }

pub settle_goes : (old : State) (p : ℕ) (value : Cap) (done : Done) → IsOrderly old → IsPlain value → Settle old p value (Ok done) → Goes old done.0 done.1
settle_goes old p value done orderly plain does =
    let last = plain_end does.1.0 old.values value does.0 orderly.values plain does.1.1 in
    let tells = tells_goes (settled old p (value_for p does.0 value)) p (last_for p does.0) done
    (settled_orderly old p (value_for p does.0 value) (plain_value p does.0 value plain) orderly) (plain_value p does.0 does.0 last) does.2 in
    (record { usual = tells.0.usual; posts = tells.0.posts }, tells.1)

-- the promises that are tied to an answer
pub tied_goes : (tied : List Tied) (old : State) (outcome : Outcome) (done : Done) → IsOrderly old → IsPlainTable (caps_of outcome) → SettleTied old outcome tied (Ok done)
    → Goes old done.0 done.1
tied_goes [] old outcome done orderly plain does = rw (ok_in _ _ does) (sends_none old old [] refl refl, orderly)
tied_goes (tied ∷ more) old outcome done orderly plain does =
    let first = then_out {A = Done} {B = Done} (Settle old tied.promise (cap_at outcome tied.path)) _ done does in
    let rest = then_out {A = Done} {B = Done} (SettleTied first.0.1 outcome more) _ done first.2 in
    let one = settle_goes old tied.promise (cap_at outcome tied.path) first.0 orderly (plain_at outcome tied.path plain) first.1 in
    let all = tied_goes more first.0.1 outcome rest.0 one.1 plain rest.1 in
    rw (ok_in _ _ rest.2) (sends_both old first.0.1 rest.0.1 first.0.0 rest.0.0 one.0 all.0, all.1)
