-- What is sent and taken of capabilities that aren't paths of questions.
use Rattle.std.specs.Prelude.{◌≡◌, refl, ℕ, zero, suc, ◌==◌, Bool, true, false, List, [], ◌∷◌, slice_index_or, Option, Some, None, Result, Ok, Err}
use Rattle.std.specs.List.{list_any, list_all}
use Rattle.std.specs.FinMap.{get, insert, remove}
use Rattle.std.proofs.Common.{ap, true≢false}
use Rattle.cp_tree.specs.Node.{Node}
use Rattle.cp_tree.specs.Node as nodes
use Rattle.cp_tables.specs.Table.{Table}
use Rattle.cp_tables.specs.declared.counted.Counted.{Counted}
use Rattle.cp_messages.specs.declared.descriptor.Descriptor.{Descriptor}
use Rattle.cp_messages.specs.declared.descriptor.Descriptor.TheVariants as descriptors
use Rattle.cp_refs.specs.At.{cap_at, cap_in, node_along}
use Rattle.cp_refs.specs.Route.{promise_way}
use Rattle.cp_refs.specs.Values.{ValueMaps}
use Rattle.cp_refs.specs.declared.cap.Cap.{Cap}
use Rattle.cp_refs.specs.declared.cap.Cap.TheVariants as caps
use Rattle.cp_refs.specs.declared.outcome.Outcome.{Outcome}
use Rattle.cp_refs.specs.declared.outcome.Outcome.TheVariants as outcomes
use Rattle.cp_vat_machine.specs.State.{State}
use Rattle.cp_vat_machine.specs.InUse.{is_pipelined, caps_of}
use Rattle.cp_vat_machine.specs.Writing.{Raise, counted, counted_out, opened, has_no_capacity, WritesEnd, WritesDescriptor, WritesDescriptors, end_by, end_within}
use Rattle.cp_vat_machine.specs.Capacity.{free}
use Rattle.cp_vat_machine.specs.declared.fault.PeerFault.{PeerFault}
use Rattle.cp_vat_machine.proofs.Basics.{some_out, none_out, ok_in, or_first, or_second, then_out, put_at, gone_at}
use Rattle.cp_vat_pair_laws.specs.Lives.{is_settled_descriptor}
use Rattle.cp_vat_pair_laws.specs.Orderly.{IsPlainValue, ArePlainValues, IsPlainAnswer, ArePlainAnswers, IsPlainExport, ArePlainExports}
use Rattle.cp_vat_pair_laws.proofs.counts.rules.Say.{both_true, said_end}

-- no capability of this table is a question's path
abbrev pub IsPlainTable : List Cap → Type 0
IsPlainTable table = list_any is_pipelined table ≡ false

abbrev pub IsPlain : Cap → Type 0
IsPlain cap = is_pipelined cap ≡ false

pub plain_both : (cap : Cap) (table : List Cap) → IsPlain cap → IsPlainTable table → IsPlainTable (cap ∷ table)
plain_both cap table one all = rw (one) all

plain_index : (table : List Cap) (i : ℕ) → IsPlainTable table → IsPlain (slice_index_or table i caps.None)
plain_index [] i plain = refl
plain_index (cap ∷ table) zero plain = or_first (is_pipelined cap) _ plain
plain_index (cap ∷ table) (suc i) plain = plain_index table i (or_second (is_pipelined cap) _ plain)

plain_in : (table : List Cap) (t : Node) → IsPlainTable table → IsPlain (cap_in table t)
plain_in table (nodes.cap i) plain = plain_index table i plain
plain_in table t plain = refl

-- what an outcome gives at a path
pub plain_at : (outcome : Outcome) (path : List ℕ) → IsPlainTable (caps_of outcome) → IsPlain (cap_at outcome path)
plain_at (outcomes.Results content table) path plain = plain_in table (node_along content path) plain
plain_at (outcomes.Failed x) path plain = refl
plain_at outcomes.Canceled path plain = refl

-- what a capability comes to
plain_promise : (go : Cap → Option Cap) (p q : ℕ) (o : Option (Option Cap)) (last : Cap) → ((c last : Cap) → IsPlain c → go c ≡ Some last → IsPlain last) → IsPlainValue o
    → end_by go (caps.Promise p) (promise_way q o) ≡ Some last → IsPlain last
plain_promise go p q None last further plain is = none_out is
plain_promise go p q (Some None) last further plain is = rw (← some_out is) refl
plain_promise go p q (Some (Some value)) last further plain is = further value last plain is

pub plain_end : (n : ℕ) (values : ValueMaps) (c last : Cap) → ArePlainValues values.promises → IsPlain c → end_within n values c ≡ Some last → IsPlain last
plain_end zero values c last all plain is = none_out is
plain_end (suc n) values caps.None last all plain is = rw (← some_out is) refl
plain_end (suc n) values (caps.Object k) last all plain is = rw (← some_out is) refl
plain_end (suc n) values (caps.Promise p) last all plain is =
    plain_promise (λ next. end_within n values next) p p (get values.promises p) last (λ c l. plain_end n values c l all) (all p) is
plain_end (suc n) values (caps.Import i) last all plain is = rw (← some_out is) refl
plain_end (suc n) values (caps.Pipelined q path) last all plain is = absurd (true≢false plain)
plain_end (suc n) values (caps.Broken x) last all plain is = rw (← some_out is) refl

-- how exports change
pub put_plain : (exports : Table (Counted Cap)) (e f : ℕ) (entry : Counted Cap) (b : Bool) → (e == f) ≡ b → IsPlain entry.kept → ArePlainExports exports
    → IsPlainExport (get (insert exports e entry) f)
put_plain exports e f entry true t plain all = rw (put_at exports e f entry true t) plain
put_plain exports e f entry false t plain all = rw (put_at exports e f entry false t) (all f)

pub gone_plain : (exports : Table (Counted Cap)) (e f : ℕ) (b : Bool) → (e == f) ≡ b → ArePlainExports exports → IsPlainExport (get (remove exports e) f)
gone_plain exports e f true t all = rw (gone_at exports e f true t) tt
gone_plain exports e f false t all = rw (gone_at exports e f false t) (all f)

-- how answers change
put_answer : (answers : Table (Option Outcome)) (a b : ℕ) (outcome : Option Outcome) (c : Bool) → (a == b) ≡ c → IsPlainAnswer (Some outcome) → ArePlainAnswers answers
    → IsPlainAnswer (get (insert answers a outcome) b)
put_answer answers a b outcome true t plain all = rw (put_at answers a b outcome true t) plain
put_answer answers a b outcome false t plain all = rw (put_at answers a b outcome false t) (all b)

pub answers_put : (answers : Table (Option Outcome)) (a : ℕ) (outcome : Option Outcome) → IsPlainAnswer (Some outcome) → ArePlainAnswers answers
    → ArePlainAnswers (insert answers a outcome)
answers_put answers a outcome plain all b = put_answer answers a b outcome (a == b) refl plain all

gone_answer : (answers : Table (Option Outcome)) (a b : ℕ) (c : Bool) → (a == b) ≡ c → ArePlainAnswers answers → IsPlainAnswer (get (remove answers a) b)
gone_answer answers a b true t all = rw (gone_at answers a b true t) tt
gone_answer answers a b false t all = rw (gone_at answers a b false t) (all b)

pub answers_gone : (answers : Table (Option Outcome)) (a : ℕ) → ArePlainAnswers answers → ArePlainAnswers (remove answers a)
answers_gone answers a all b = gone_answer answers a b (a == b) refl all

abbrev RaisedPlain : Result (ℕ × State) PeerFault → Type 0
RaisedPlain (Ok raised) = ArePlainExports raised.1.counts.exports
RaisedPlain (Err fault) = Unit {0}

raised_plain : (old : State) (cap : Cap) (out : Result (ℕ × State) PeerFault) → IsPlain cap → ArePlainExports old.counts.exports → Raise old cap out → RaisedPlain out
raised_plain old cap out plain all (counted e count is room) = λ f. put_plain old.counts.exports e f _ (e == f) refl plain all
raised_plain old cap out plain all (counted_out e is) = tt
raised_plain old cap out plain all (opened e none (free n is small room)) = λ f. put_plain old.counts.exports e f _ (e == f) refl plain all
raised_plain old cap out plain all (has_no_capacity none is) = tt

same_plain : (old : State) (d : Descriptor) (said : Descriptor × State) → ◌≡◌ {A = Result (Descriptor × State) PeerFault} (Ok said) (Ok (d, old)) → ArePlainExports old.counts.exports
    → ArePlainExports said.1.counts.exports
same_plain old d said is all = rw (ok_in _ _ is) all

pub said_plain : (old : State) (last : Cap) (said : Descriptor × State) → ArePlainExports old.counts.exports → WritesEnd old last (Ok said) → ArePlainExports said.1.counts.exports
said_plain old caps.None said all is = same_plain old descriptors.None said is all
said_plain old (caps.Object k) said all is =
    let parts = then_out {A = ℕ × State} {B = Descriptor × State} (Raise old (caps.Object k)) _ said is in
    rw (ok_in _ _ parts.2) (raised_plain old (caps.Object k) (Ok parts.0) refl all parts.1)
said_plain old (caps.Promise p) said all is =
    let parts = then_out {A = ℕ × State} {B = Descriptor × State} (Raise old (caps.Promise p)) _ said is in
    rw (ok_in _ _ parts.2) (raised_plain old (caps.Promise p) (Ok parts.0) refl all parts.1)
said_plain old (caps.Import i) said all is = rw (ok_in _ _ is) all
said_plain old (caps.Pipelined q path) said all is = rw (ok_in _ _ is) all
said_plain old (caps.Broken x) said all is = rw (ok_in _ _ is) all

-- such a capability isn't sent as a receiverAnswer
pub said_settled : (old : State) (last : Cap) (said : Descriptor × State) → IsPlain last → WritesEnd old last (Ok said) → is_settled_descriptor said.0 ≡ true
said_settled old caps.None said plain is = rw (ok_in _ _ is) refl
said_settled old (caps.Object k) said plain is =
    let parts = then_out {A = ℕ × State} {B = Descriptor × State} (Raise old (caps.Object k)) _ said is in
    rw (ok_in _ _ parts.2) refl
said_settled old (caps.Promise p) said plain is =
    let parts = then_out {A = ℕ × State} {B = Descriptor × State} (Raise old (caps.Promise p)) _ said is in
    rw (ok_in _ _ parts.2) refl
said_settled old (caps.Import i) said plain is = rw (ok_in _ _ is) refl
said_settled old (caps.Pipelined q path) said plain is = absurd (true≢false plain)
said_settled old (caps.Broken x) said plain is = rw (ok_in _ _ is) refl

pub table_plain : (table : List Cap) (old : State) (said : List Descriptor × State) → ArePlainExports old.counts.exports → WritesDescriptors old table (Ok said)
    → ArePlainExports said.1.counts.exports
table_plain [] old said all is = rw (ok_in _ _ is) all
table_plain (cap ∷ table) old said all is =
    let first = then_out {A = Descriptor × State} {B = List Descriptor × State} (WritesDescriptor old cap) _ said is in
    let rest = then_out {A = List Descriptor × State} {B = List Descriptor × State} (WritesDescriptors first.0.1 table) _ said first.2 in
    rw (ok_in _ _ rest.2) (table_plain table first.0.1 rest.0 (said_plain old first.1.0 first.0 all first.1.2) rest.1)

said_values : (old : State) (last : Cap) (said : Descriptor × State) → WritesEnd old last (Ok said) → said.1.values ≡ old.values
said_values old last said is = ap (λ s. s.values) (said_end old last said is).only

pub table_settled : (table : List Cap) (old : State) (said : List Descriptor × State) → IsPlainTable table → ArePlainValues old.values.promises → WritesDescriptors old table (Ok said)
    → list_all is_settled_descriptor said.0 ≡ true
table_settled [] old said plain values is = rw (ok_in _ _ is) refl
table_settled (cap ∷ table) old said plain values is =
    let first = then_out {A = Descriptor × State} {B = List Descriptor × State} (WritesDescriptor old cap) _ said is in
    let rest = then_out {A = List Descriptor × State} {B = List Descriptor × State} (WritesDescriptors first.0.1 table) _ said first.2 in
    let last = plain_end first.1.1.0 old.values cap first.1.0 values (or_first (is_pipelined cap) _ plain) first.1.1.1 in
    let same : first.0.1.values ≡ old.values = said_values old first.1.0 first.0 first.1.2 in
    rw
    (ok_in _ _ rest.2)
    (both_true _ _ (said_settled old first.1.0 first.0 last first.1.2)
    (table_settled table first.0.1 rest.0 (or_second (is_pipelined cap) _ plain) (rw (same) values) rest.1))
