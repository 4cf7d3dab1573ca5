-- Capability tables that are said: exports stay, and what is named is an object or an open promise.
use Rattle.std.specs.Prelude.{◌≡◌, ◌≢◌, ◌⊎◌, refl, ℕ, ◌+◌, ◌==◌, Bool, true, false, List, [], ◌∷◌, Option, Some, None, Result, Ok, Err}
use Rattle.std.specs.List.{AllByRecursion}
use Rattle.std.specs.FinMap.{get, insert}
use Rattle.std.proofs.Common.{inl, inr, ap, sym, ◌∙◌}
use Rattle.cp_tables.specs.declared.counted.Counted.{Counted}
use Rattle.cp_messages.specs.declared.descriptor.Descriptor.{Descriptor}
use Rattle.cp_refs.specs.declared.cap.Cap.{Cap}
use Rattle.cp_refs.specs.declared.cap.Cap.TheVariants as caps
use Rattle.cp_vat_machine.specs.State.{State, with_exports}
use Rattle.cp_vat_machine.specs.Capacity.{free}
use Rattle.cp_vat_machine.specs.Writing.{IsExport, Raise, counted, counted_out, opened, has_no_capacity, ResolvesTo, WritesEnd, WritesDescriptor, WritesDescriptors, mentioned_by, mentions_of}
use Rattle.cp_vat_machine.specs.Local.{AreOne}
use Rattle.cp_vat_machine.specs.Receiving.{times}
use Rattle.cp_vat_machine.specs.declared.fault.PeerFault.{PeerFault}
use Rattle.cp_vat_machine.proofs.Basics.{some_out, none_out, ok_in, then_out, is_equal, is_itself, put_at, all_both}
use Rattle.cp_vat_laws.proofs.Tables.{all_of, there_of}
use Rattle.cp_vat_laws.proofs.telling.Bears.{comes_open}
use Rattle.cp_vat_pair_laws.proofs.still.Grows.{PlacesStay, RefsStay, TicketsStay, ways_same, refs_same, tickets_same}

-- A number that is an object's or an open promise's.
abbrev pub IsOpenCap : State → Cap → Type 0
IsOpenCap s (caps.Promise p) = get s.values.promises p ≡ Some None
IsOpenCap s other = Unit {0}

abbrev pub IsNamed : State → ℕ → Type 0
IsNamed s e = (cap : Cap) × IsExport s e cap × IsOpenCap s cap

-- an export is put in, or put in again
module _ (old : State) (e n : ℕ) (cap : Cap) (was : (c : Cap) → IsExport old e c → c ≡ cap)
    (alone : (f : ℕ) (x : Counted Cap) → get old.counts.exports f ≡ Some x → x.kept ≡ cap → e ≡ f) where
  abbrev raised : State
  raised = with_exports old (insert old.counts.exports e (record { count = n; kept = cap }))

  put_export : (f : ℕ) (c : Cap) (b : Bool) → (e == f) ≡ b → IsExport old f c → IsExport raised f c
  put_export f c true t is =
      rw (was c (rw (is_equal e f t) is)) (n, put_at old.counts.exports e f (record { count = n; kept = cap }) true t)
  put_export f c false t is = (is.0, put_at old.counts.exports e f (record { count = n; kept = cap }) false t ∙ is.1)

  back : (f : ℕ) (x : Counted Cap) (b : Bool) → (e == f) ≡ b → get raised.counts.exports f ≡ Some x
      → ((x.kept ≡ cap) × (e ≡ f)) ⊎ (get old.counts.exports f ≡ Some x)
  back f x true t is =
      inl (ap (λ y. y.kept) (some_out (sym is ∙ put_at old.counts.exports e f (record { count = n; kept = cap }) true t)), is_equal e f t)
  back f x false t is = inr (sym (put_at old.counts.exports e f (record { count = n; kept = cap }) false t) ∙ is)

  put_one : AreOne old → AreOne raised
  put_one one f g x y at there same =
      elim (back f x (e == f) refl at) [
        | inl new ↦
            elim (back g y (e == g) refl there) [ inl also ↦ sym new.1 ∙ also.1 | inr was ↦ sym new.1 ∙ alone g y was (sym same ∙ new.0) ]
        | inr old ↦ elim (back g y (e == g) refl there) [ inl new ↦ sym (alone f x old (same ∙ new.0)) ∙ new.1 | inr was ↦ one f g x y old was same ]
      ]

-- what raising an export keeps
pub record Raised (old : State) (cap : Cap) (e : ℕ) (new : State) : Type 0 where
  pub only : new ≡ with_exports old new.counts.exports
  pub here : IsExport new e cap
  pub exports : (f : ℕ) (c : Cap) → IsExport old f c → IsExport new f c
  pub one_export : AreOne old → AreOne new

abbrev RaisedBy : State → Cap → Result (ℕ × State) PeerFault → Type 0
RaisedBy old cap (Ok done) = AreOne old → Raised old cap done.0 done.1
RaisedBy old cap (Err fault) = Unit {0}

kept_out : (x y : Counted Cap) → ◌≡◌ {A = Option (Counted Cap)} (Some x) (Some y) → x.kept ≡ y.kept
kept_out x y is = ap (λ z. z.kept) (some_out is)

raised_by : (old : State) (cap : Cap) (out : Result (ℕ × State) PeerFault) → Raise old cap out → RaisedBy old cap out
raised_by old cap out (counted e count is room) = λ one.
    let was : (c : Cap) → IsExport old e c → c ≡ cap = λ c here. kept_out (record { count = here.0; kept = c }) (record { count = count; kept = cap }) (sym here.1 ∙ is) in
    let alone : (f : ℕ) (x : Counted Cap) → get old.counts.exports f ≡ Some x → x.kept ≡ cap → e ≡ f = λ f x there same. one e f (record { count = count; kept = cap }) x is there (sym same) in
    record {
      only = refl;
      here = (count + 1, put_at old.counts.exports e e _ true (is_itself e));
      exports = λ f c here. put_export old e (count + 1) cap was alone f c (e == f) refl here;
      one_export = put_one old e (count + 1) cap was alone;
    }
raised_by old cap out (counted_out e is) = tt
raised_by old cap out (opened e none (free n unused small room)) = λ one.
    let was : (c : Cap) → IsExport old e c → c ≡ cap = λ c here. none_out (sym unused ∙ here.1) in
    let alone : (f : ℕ) (x : Counted Cap) → get old.counts.exports f ≡ Some x → x.kept ≡ cap → e ≡ f = λ f x there same. absurd (there_of (λ entry. entry.kept ≢ cap) (get old.counts.exports f) x there (none f) same) in
    record {
      only = refl;
      here = (1, put_at old.counts.exports e e _ true (is_itself e));
      exports = λ f c here. put_export old e 1 cap was alone f c (e == f) refl here;
      one_export = put_one old e 1 cap was alone;
    }
raised_by old cap out (has_no_capacity none is) = tt

-- What saying a table keeps, with the exports that it names.
pub record SaidAs (old : State) (ids : List ℕ) (new : State) : Type 0 where
  pub only : new ≡ with_exports old new.counts.exports
  pub exports : (f : ℕ) (c : Cap) → IsExport old f c → IsExport new f c
  pub one_export : AreOne old → AreOne new
  pub named : AllByRecursion (IsNamed new) ids

pub said_none : (old : State) → SaidAs old [] old
said_none old = record { only = refl; exports = λ f c is. is; one_export = λ is. is; named = tt }

open_on : (old new : State) (cap : Cap) → new ≡ with_exports old new.counts.exports → IsOpenCap old cap → IsOpenCap new cap
open_on old new (caps.Promise p) only is = ap (λ s. get s.values.promises p) only ∙ is
open_on old new cap only is = tt

said_one : (old : State) (cap : Cap) (raised : ℕ × State) → Raised old cap raised.0 raised.1 → IsOpenCap old cap → SaidAs old (raised.0 ∷ []) raised.1
said_one old cap raised h is =
    record { only = h.only; exports = h.exports; one_export = h.one_export; named = ((cap, h.here, open_on old raised.1 cap h.only is), tt) }

pub said_end : (old : State) (last : Cap) (said : Descriptor × State) → AreOne old → IsOpenCap old last → WritesEnd old last (Ok said) → SaidAs old (mentioned_by said.0) said.1
said_end old caps.None said one is says = rw (ok_in _ _ says) (said_none old)
said_end old (caps.Object k) said one is says =
    let parts = then_out {A = ℕ × State} {B = Descriptor × State} (Raise old (caps.Object k)) _ said says in
    rw (ok_in _ _ parts.2) (said_one old (caps.Object k) parts.0 (raised_by old (caps.Object k) (Ok parts.0) parts.1 one) is)
said_end old (caps.Promise p) said one is says =
    let parts = then_out {A = ℕ × State} {B = Descriptor × State} (Raise old (caps.Promise p)) _ said says in
    rw (ok_in _ _ parts.2) (said_one old (caps.Promise p) parts.0 (raised_by old (caps.Promise p) (Ok parts.0) parts.1 one) is)
said_end old (caps.Import i) said one is says = rw (ok_in _ _ says) (said_none old)
said_end old (caps.Pipelined q path) said one is says = rw (ok_in _ _ says) (said_none old)
said_end old (caps.Broken x) said one is says = rw (ok_in _ _ says) (said_none old)

pub open_end : (s : State) (c last : Cap) → ResolvesTo s.values c last → IsOpenCap s last
open_end s c (caps.Promise p) comes = comes_open s.values c p comes
open_end s c last comes = tt

named_on : {old new : State} {ids : List ℕ} → SaidAs old ids new → (e : ℕ) → IsNamed old e → IsNamed new e
named_on {old = old} {new = new} h e is = (is.0, h.exports e is.0 is.1, open_on old new is.0 h.only is.2)

pub said_all : (table : List Cap) (old : State) (said : List Descriptor × State) → AreOne old → WritesDescriptors old table (Ok said) → SaidAs old (mentions_of said.0) said.1
said_all [] old said one says = rw (ok_in _ _ says) (said_none old)
said_all (cap ∷ table) old said one says =
    let first = then_out {A = Descriptor × State} {B = List Descriptor × State} (WritesDescriptor old cap) _ said says in
    let rest = then_out {A = List Descriptor × State} {B = List Descriptor × State} (WritesDescriptors first.0.1 table) _ said first.2 in
    let front = said_end old first.1.0 first.0 one (open_end old cap first.1.0 first.1.1) first.1.2 in
    let back = said_all table first.0.1 rest.0 (front.one_export one) rest.1 in
    rw
    (ok_in _ _ rest.2)
    (record {
      only = back.only ∙ ap (λ s. with_exports s rest.0.1.counts.exports) front.only;
      exports = λ f c is. back.exports f c (front.exports f c is);
      one_export = λ is. back.one_export (front.one_export is);
      named = all_both (IsNamed rest.0.1) (mentioned_by first.0.0) (mentions_of rest.0.0)
          (all_of (IsNamed first.0.1) (IsNamed rest.0.1) (mentioned_by first.0.0) (λ e is. named_on back e is) front.named) back.named;
    })

-- The export of a promise that was settled isn't among those that are named.
settled_not : {A : Type 0} (s : State) (e p : ℕ) (value : Cap) → IsExport s e (caps.Promise p) → get s.values.promises p ≡ Some (Some value) → IsNamed s e → A
settled_not s e p value is at named =
    let same : named.0 ≡ caps.Promise p =
    kept_out (record { count = named.1.0; kept = named.0 }) (record { count = is.0; kept = caps.Promise p }) (sym named.1.1 ∙ is.1) in
    let open_ : get s.values.promises p ≡ Some None = rw same at named.2 in
    none_out (some_out (sym open_ ∙ at))

pub named_not : (s : State) (e p : ℕ) (value : Cap) → IsExport s e (caps.Promise p) → get s.values.promises p ≡ Some (Some value) → (ids : List ℕ)
    → AllByRecursion (IsNamed s) ids → times e ids ≡ 0
named_not s e p value is at [] named = refl
named_not s e p value is at (id ∷ ids) named = by (id == e) refl (named_not s e p value is at ids named.1)
  where
    by : (b : Bool) → (id == e) ≡ b → times e ids ≡ 0 → times e (id ∷ ids) ≡ 0
    by true t none = settled_not s e p value is at (rw (← is_equal id e t) named.0)
    by false t none = rw (t) none

-- so it was before the table was said
pub said_not : {old new : State} {ids : List ℕ} → SaidAs old ids new → (e p : ℕ) (value : Cap) → IsExport old e (caps.Promise p)
    → get old.values.promises p ≡ Some (Some value) → times e ids ≡ 0
said_not {old = old} {new = new} {ids = ids} h e p value is at =
    named_not new e p value (h.exports e (caps.Promise p) is) (ap (λ s. get s.values.promises p) h.only ∙ at) ids h.named

-- With the exports of a table nothing else changes.
pub said_places : {old new : State} {ids : List ℕ} → SaidAs old ids new → PlacesStay old new
said_places {old = old} {new = new} h =
    record {
      ways = ways_same (ap (λ s. s.values.promises) h.only) (ap (λ s. s.values.questions) h.only);
      answers = λ a outcome is. ap (λ s. get s.values.answers a) h.only ∙ is;
      exports = h.exports;
      one_export = h.one_export;
    }

pub said_refs : {old new : State} {ids : List ℕ} → SaidAs old ids new → RefsStay old new
said_refs h = refs_same (ap (λ s. s.values.imports) h.only) (ap (λ s. s.values.questions) h.only)

pub said_tickets : {old new : State} {ids : List ℕ} → SaidAs old ids new → TicketsStay old new
said_tickets h = tickets_same (ap (λ s. s.entries) h.only) (ap (λ s. s.next_ticket) h.only)
