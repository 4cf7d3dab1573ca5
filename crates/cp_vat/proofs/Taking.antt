-- What a capability table that is taken in leaves as it was.
use Rattle.std.proofs.Common.{◌≡◌, ℕ, Bool, true, false, cond, is_some, inl, inr, List, [], ◌∷◌, Option, Some, None, Result, Ok, Err, refl, sym, ap, ◌∙◌, subst}
use Rattle.std.specs.Option.{option_map_or}
use Rattle.std.proofs.lemmas.Bool.{cases_eq}
use Rattle.std.specs.FinMap.{get, insert, len}
use Rattle.cp_tables.specs.Table.{Table, with_change}
use Rattle.cp_tables.specs.declared.counted.Counted.{Counted}
use Rattle.cp_tables.specs.declared.exchange.Exchange.{Exchange}
use Rattle.cp_tables.proofs.TableLemmas.{get-insert_same, get-insert_other, len-insert_held}
use Rattle.cp_messages.specs.declared.descriptor.Descriptor.{Descriptor}
use Rattle.cp_messages.specs.declared.descriptor.Descriptor.TheVariants as descriptors
use Rattle.cp_refs.specs.declared.cap.Cap.{Cap}
use Rattle.cp_refs.specs.declared.outcome.Outcome.{Outcome}
use Rattle.cp_vat_machine.specs.State.{State}
use Rattle.cp_vat_machine.specs.Then.{Then, After}
use Rattle.cp_vat_machine.specs.Receiving.{ReceivesCap, ReceivesCaps, ReceivesAnswer, answer_by, answer_of, path_of, held_import, held_once_more, taken_export, tie, tied}
use Rattle.cp_vat_machine.specs.declared.entry.AnswerEntry.{AnswerEntry}
use Rattle.cp_vat_machine.specs.declared.entry.ImportKind.{ImportKind}
use Rattle.cp_vat_machine.specs.declared.fault.PeerFault.{PeerFault}
use Rattle.cp_vat_machine.specs.declared.fault.PeerFault.TheVariants as faults

-- Whether this answer is kept, and what it came to, how many are kept, and the next ticket are as they were.
abbrev pub Keeps : ℕ → State → State → Type 0
Keeps a old new = (is_some (get new.entries.answers a) ≡ is_some (get old.entries.answers a)) × (len new.entries.answers ≡ len old.entries.answers) × (new.next_ticket ≡ old.next_ticket) × (answer_of new a ≡ answer_of old a)

keeps_same : (a : ℕ) (old new : State) → new ≡ old → Keeps a old new
keeps_same a old new same = subst (λ s. Keeps a old s) (sym same) (refl, refl, refl, refl)

keeps_on : (a : ℕ) (old mid new : State) → Keeps a old mid → Keeps a mid new → Keeps a old new
keeps_on a old mid new first more = (more.0 ∙ first.0, more.1 ∙ first.1, more.2 ∙ first.2, more.3 ∙ first.3)

-- an entry that is changed stays
change_keeps : {X : Type 0} (table : Table X) (id a : ℕ) (f : X → X) → (is_some (get (with_change table id f) a) ≡ is_some (get table a)) × (len (with_change table id f) ≡ len table)
change_keeps {X} table id a f = by (get table id) refl
  where
    at : (e : X) → get table id ≡ Some e → is_some (get (insert table id (f e)) a) ≡ is_some (get table a)
    at e there =
        elim (cases_eq a id) [
          | inl same ↦ ap (λ k. is_some (get (insert table id (f e)) k)) same ∙ ap is_some (get-insert_same table id (f e)) ∙ sym (ap is_some (ap (get table) same ∙ there))
          | inr other ↦ ap is_some (get-insert_other table id a (f e) other)
        ]

    by : (o : Option X) → get table id ≡ o → (is_some (get (option_map_or (λ e. insert table id (f e)) o table) a) ≡ is_some (get table a)) × (len (option_map_or (λ e. insert table id (f e)) o table) ≡ len table)
    by None there = (refl, refl)
    by (Some e) there = (at e there, len-insert_held table id e (f e) there)

abbrev tied_to : ℕ → List ℕ → Exchange AnswerEntry → Exchange AnswerEntry
tied_to p path entry = record entry { kept = tie p path entry.kept }

-- an answer to which a promise is tied came to the same
tied_answer : (table : Table (Exchange AnswerEntry)) (id a : ℕ) (path : List ℕ) (p : ℕ) (o : Option (Option Outcome))
    → answer_by (get (with_change table id (λ entry. record entry { kept = tie p path entry.kept })) a) o ≡ answer_by (get table a) o
tied_answer table id a path p o = by (get table id) refl
  where
    by : (found : Option (Exchange AnswerEntry)) → get table id ≡ found → answer_by (get (option_map_or (λ e. insert table id (tied_to p path e)) found table) a) o ≡ answer_by (get table a) o
    by None there = refl
    by (Some e) there =
        elim (cases_eq a id) [
          | inl same ↦ ap (λ k. answer_by (get (insert table id (tied_to p path e)) k) o) same ∙ ap (λ f. answer_by f o) (get-insert_same table id (tied_to p path e)) ∙ sym (ap (λ f. answer_by f o) (ap (get table) same ∙ there))
          | inr other ↦ ap (λ f. answer_by f o) (get-insert_other table id a (tied_to p path e) other)
        ]

-- the state that an answer leaves
abbrev left : {A : Type 0} → State → Result (A × State) PeerFault → State
left s (Ok x) = x.1
left s (Err fault) = s

abbrev left_alone : State → Result State PeerFault → State
left_alone s (Ok x) = x
left_alone s (Err fault) = s

keeps_if : (a : ℕ) (old new x : State) (b : Bool) → Ok new ≡ cond b (Ok x) (Err faults.TableFull) → Keeps a old x → Keeps a old new
keeps_if a old new x true is kept = subst (λ s. Keeps a old s) (sym (ap (left_alone old) is)) kept
keeps_if a old new x false is kept = absurd (cc)

held_keeps : (a : ℕ) (old new : State) (i : ℕ) (kind : ImportKind) (o : Option (Counted ImportKind)) → Ok new ≡ held_once_more old i kind o → Keeps a old new
held_keeps a old new i kind (Some entry) is = keeps_if a old new _ _ is (refl, refl, refl, refl)
held_keeps a old new i kind None is = keeps_if a old new _ _ is (refl, refl, refl, refl)

import_keeps : (a : ℕ) (old mid : State) (i : ℕ) (kind : ImportKind) (one last : Cap) (first : Result State PeerFault) → first ≡ held_import old i kind
    → After {B = Cap × State} (λ new out. out ≡ Ok (last, new)) first (Ok (one, mid)) → Keeps a old mid
import_keeps a old mid i kind one last (Ok new) held is = subst (λ s. Keeps a old s) (sym (ap (left old) is)) (held_keeps a old new i kind (get old.counts.imports i) held)
import_keeps a old mid i kind one last (Err fault) held is = absurd (cc)

export_keeps : (a : ℕ) (old mid : State) (one : Cap) (o : Option (Counted Cap)) → Ok (one, mid) ≡ taken_export old o → Keeps a old mid
export_keeps a old mid one None is = absurd (cc)
export_keeps a old mid one (Some entry) is = keeps_same a old mid (ap (left old) is)

tie_keeps : (a : ℕ) (old mid : State) (id : ℕ) (path : List ℕ) (one : Cap) (last : ℕ → Cap) (first : Result ℕ PeerFault) → After {B = Cap × State} (λ p out. out ≡ Ok (last p, tied old id path p)) first (Ok (one, mid)) → Keeps a old mid
tie_keeps a old mid id path one last (Ok p) is =
    let kept = change_keeps old.entries.answers id a (λ entry. record entry { kept = tie p path entry.kept }) in
    subst (λ s. Keeps a old s) (sym (ap (left old) is)) (kept.0, kept.1, refl, tied_answer old.entries.answers id a path p (get old.values.answers a))
tie_keeps a old mid id path one last (Err fault) is = absurd (cc)

answer_keeps : (a : ℕ) (old mid : State) (id : ℕ) (path : List ℕ) (one : Cap) (o : Option (Option Outcome)) → ReceivesAnswer old id path o (Ok (one, mid)) → Keeps a old mid
answer_keeps a old mid id path one None is = absurd (cc)
answer_keeps a old mid id path one (Some (Some outcome)) is = keeps_same a old mid (ap (left old) is)
answer_keeps a old mid id path one (Some None) is = tie_keeps a old mid id path one _ is.0 is.2

take_keeps : (a : ℕ) (old mid : State) (d : Descriptor) (one : Cap) → ReceivesCap old d (Ok (one, mid)) → Keeps a old mid
take_keeps a old mid descriptors.None one is = keeps_same a old mid (ap (left old) is)
take_keeps a old mid (descriptors.SenderHosted i) one is = import_keeps a old mid i _ one _ is.0 is.1 is.2
take_keeps a old mid (descriptors.SenderPromise i) one is = import_keeps a old mid i _ one _ is.0 is.1 is.2
take_keeps a old mid (descriptors.ReceiverHosted e) one is = export_keeps a old mid one (get old.counts.exports e) is
take_keeps a old mid (descriptors.ReceiverAnswer answer) one is = answer_keeps a old mid answer.question_id (path_of answer.transform) one (answer_of old answer.question_id) is
take_keeps a old mid (descriptors.ThirdPartyHosted t) one is = absurd is
take_keeps a old mid (descriptors.Unknown n) one is = absurd is

rest_keeps : (a : ℕ) (table : List Descriptor) (now mid : State) (first : Cap) (table_caps : List Cap) (rest : Result (List Cap × State) PeerFault)
    → ((new : State) (more : List Cap) → ReceivesCaps now table (Ok (more, new)) → Keeps a now new) → ReceivesCaps now table rest
    → After {B = List Cap × State} (λ rest out. out ≡ Ok (first ∷ rest.0, rest.1)) rest (Ok (table_caps, mid)) → Keeps a now mid
rest_keeps a table now mid first table_caps (Ok rest) kept taken is = subst (λ s. Keeps a now s) (sym (ap (left now) is)) (kept rest.1 rest.0 taken)
rest_keeps a table now mid first table_caps (Err fault) kept taken is = absurd (cc)

each_keeps : (a : ℕ) (d : Descriptor) (table : List Descriptor) (old mid : State) (table_caps : List Cap) (first : Result (Cap × State) PeerFault)
    → ((now new : State) (more : List Cap) → ReceivesCaps now table (Ok (more, new)) → Keeps a now new) → ReceivesCap old d first
    → After {B = List Cap × State} (λ first. Then (ReceivesCaps first.1 table) (λ rest out. out ≡ Ok (first.0 ∷ rest.0, rest.1))) first (Ok (table_caps, mid)) → Keeps a old mid
each_keeps a d table old mid table_caps (Ok first) kept taken follows =
    keeps_on a old first.1 mid (take_keeps a old first.1 d first.0 taken) (rest_keeps a table first.1 mid first.0 table_caps follows.0 (kept first.1) follows.1 follows.2)
each_keeps a d table old mid table_caps (Err fault) kept taken follows = absurd (cc)

-- so of a whole table
pub takes_keep : (a : ℕ) (table : List Descriptor) (old mid : State) (table_caps : List Cap) → ReceivesCaps old table (Ok (table_caps, mid)) → Keeps a old mid
takes_keep a [] old mid table_caps is = keeps_same a old mid (ap (left old) is)
takes_keep a (d ∷ table) old mid table_caps is = each_keeps a d table old mid table_caps is.0 (takes_keep a table) is.1 is.2
