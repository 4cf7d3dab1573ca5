-- What capability tables are sent as.
use Rattle.std.specs.Prelude.{◌≡◌, refl, ℕ, ◌+◌, ◌&&◌, Bool, true, false, List, [], ◌∷◌, ◌++◌, map, Ok}
use Rattle.std.specs.List.{list_all}
use Rattle.std.proofs.Common.{arith, ap, sym, ◌∙◌, true≢false}
use Rattle.cp_tables.specs.Counted.{count_of}
use Rattle.cp_messages.specs.declared.promised_answer.Op.TheVariants as ops
use Rattle.cp_messages.specs.declared.descriptor.Descriptor.{Descriptor}
use Rattle.cp_messages.specs.declared.descriptor.Descriptor.TheVariants as descriptors
use Rattle.cp_refs.specs.declared.cap.Cap.{Cap}
use Rattle.cp_refs.specs.declared.cap.Cap.TheVariants as caps
use Rattle.cp_vat_machine.specs.State.{State, with_exports}
use Rattle.cp_vat_machine.specs.Receiving.{times}
use Rattle.cp_vat_machine.specs.Writing.{WritesEnd, WritesDescriptor, WritesDescriptors, promised, mentioned_by, mentions_of}
use Rattle.cp_vat_machine.specs.Supported.{is_known_op, is_supported_descriptor}
use Rattle.cp_vat_machine.proofs.Basics.{ok_in, then_out}
use Rattle.cp_vat_pair_laws.proofs.counts.rules.Counted.{times_more, raised_as}

pub times_append : (f : ℕ) (xs ys : List ℕ) → times f (xs ++ ys) ≡ times f xs + times f ys
times_append f [] ys = omega arith
times_append f (x ∷ xs) ys = omega (arith, times_append f xs ys, times_more f x xs, times_more f x (xs ++ ys))

-- fields of a path are known steps
pub known_path : (path : List ℕ) → list_all is_known_op (map (λ field. ops.GetPointerField field) path) ≡ true
known_path [] = refl
known_path (field ∷ path) = known_path path

-- what was sent of a table: its exports are counted, and nothing else changed
pub record Said (old : State) (ds : List Descriptor) (new : State) : Type 0 where
  pub only : new ≡ with_exports old new.counts.exports
  pub counted : (f : ℕ) → count_of new.counts.exports f ≡ count_of old.counts.exports f + times f (mentions_of ds)
  pub supported : list_all is_supported_descriptor ds ≡ true

said_as_it_is : (old : State) (d : Descriptor) → mentioned_by d ≡ [] → is_supported_descriptor d ≡ true → Said old (d ∷ []) old
said_as_it_is old d none supported = record { only = refl; counted = λ f. rw (none) (omega arith); supported = rw (supported) refl }

said_raised : (old : State) (e : ℕ) (new : State) (d : Descriptor) → mentioned_by d ≡ e ∷ [] → is_supported_descriptor d ≡ true
    → (new ≡ with_exports old new.counts.exports)
    → ((f : ℕ) → count_of new.counts.exports f ≡ count_of old.counts.exports f + times f (e ∷ [])) → Said old (d ∷ []) new
said_raised old e new d named supported only counts = record { only = only; counted = λ f. rw (named) (counts f); supported = rw (supported) refl }

pub said_end : (old : State) (last : Cap) (said : Descriptor × State) → WritesEnd old last (Ok said) → Said old (said.0 ∷ []) said.1
said_end old caps.None said is = rw (ok_in _ _ is) (said_as_it_is old descriptors.None refl refl)
said_end old (caps.Object k) said is =
    let parts = then_out _ _ _ is in
    let raised = raised_as old (caps.Object k) (Ok parts.0) parts.1 in
    rw (ok_in _ _ parts.2) (said_raised old parts.0.0 parts.0.1 (descriptors.SenderHosted parts.0.0) refl refl raised.0 raised.1)
said_end old (caps.Promise p) said is =
    let parts = then_out _ _ _ is in
    let raised = raised_as old (caps.Promise p) (Ok parts.0) parts.1 in
    rw (ok_in _ _ parts.2) (said_raised old parts.0.0 parts.0.1 (descriptors.SenderPromise parts.0.0) refl refl raised.0 raised.1)
said_end old (caps.Import i) said is = rw (ok_in _ _ is) (said_as_it_is old (descriptors.ReceiverHosted i) refl refl)
said_end old (caps.Pipelined q path) said is = rw (ok_in _ _ is) (said_as_it_is old (descriptors.ReceiverAnswer (promised q path)) refl (known_path path))
said_end old (caps.Broken x) said is = rw (ok_in _ _ is) (said_as_it_is old descriptors.None refl refl)

pub both_true : (a b : Bool) → a ≡ true → b ≡ true → (a && b) ≡ true
both_true a b is at = rw (is, at) refl

pub first_true : (a b : Bool) → (a && b) ≡ true → a ≡ true
first_true true b h = refl
first_true false b h = h

pub second_true : (a b : Bool) → (a && b) ≡ true → b ≡ true
second_true true b h = h
second_true false b h = absurd (true≢false (sym h))

said_both : (old mid new : State) (d : Descriptor) (ds : List Descriptor) → Said old (d ∷ []) mid → Said mid ds new → Said old (d ∷ ds) new
said_both old mid new d ds one more =
    record {
      only = more.only ∙ ap (λ s. with_exports s new.counts.exports) one.only;
      counted = λ f. omega (
        arith,
        one.counted f,
        more.counted f,
        times_append f (mentioned_by d) (mentions_of ds),
        times_append f (mentioned_by d) [],
      );
      supported = both_true _ _ (first_true (is_supported_descriptor d) _ one.supported) more.supported;
    }

pub said_all : (table : List Cap) (old : State) (said : List Descriptor × State) → WritesDescriptors old table (Ok said) → Said old said.0 said.1
said_all [] old said is = rw (ok_in _ _ is) (record { only = refl; counted = λ f. omega arith; supported = refl })
said_all (cap ∷ table) old said is =
    let first = then_out {A = Descriptor × State} {B = List Descriptor × State} (WritesDescriptor old cap) _ said is in
    let rest = then_out {A = List Descriptor × State} {B = List Descriptor × State} (WritesDescriptors first.0.1 table) _ said first.2 in
    rw
    (ok_in _ _ rest.2)
    (said_both old first.0.1 rest.0.1 first.0.0 rest.0.0 (said_end old first.1.0 first.0 first.1.2) (said_all table first.0.1 rest.0 rest.1))
