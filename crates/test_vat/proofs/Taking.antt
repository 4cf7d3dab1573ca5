-- How descriptors are taken in and exports are lowered, found by computing.
use Rattle.std.specs.Prelude.{◌≡◌, refl, ℕ, ◌+◌, ◌-◌, ◌==◌, ltb, Bool, true, false, cond, if◌then◌else◌, List, [], ◌∷◌, is_none, Option, Some, None, Result, Ok, Err}
use Rattle.std.proofs.Common.{sym, ap, ◌∙◌}
use Rattle.std.specs.List.{list_any}
use Rattle.std.specs.Option.{option_map_or}
use Rattle.std.specs.FinMap.{insert}
use Rattle.cp_tables.specs.Table.{Table, with_change}
use Rattle.cp_tables.specs.Counted.{new_counted}
use Rattle.cp_tables.specs.declared.counted.Counted.{Counted}
use Rattle.cp_refs.specs.At.{cap_at}
use Rattle.cp_refs.specs.declared.cap.Cap.{Cap}
use Rattle.cp_refs.specs.declared.cap.Cap.TheVariants as caps
use Rattle.cp_refs.specs.declared.outcome.Outcome.{Outcome}
use Rattle.cp_messages.specs.declared.descriptor.Descriptor.{Descriptor}
use Rattle.cp_messages.specs.declared.descriptor.Descriptor.TheVariants as descriptors
use Rattle.cp_vat_machine.specs.State.{State}
use Rattle.cp_vat_machine.specs.Receiving.{path_of, held_once_more, held_import, answer_by, answer_of, tie, tied, ReceivesAnswer, taken_export, ReceivesCap, ReceivesCaps, less_by, lowered_by, lowered, times, release_exports, released}
use Rattle.cp_vat_machine.specs.declared.entry.ImportKind.{ImportKind}
use Rattle.cp_vat_machine.specs.declared.entry.ImportKind.TheVariants as kinds
use Rattle.cp_vat_machine.specs.declared.fault.PeerFault.{PeerFault}
use Rattle.cp_vat_machine.specs.declared.fault.PeerFault.TheVariants as faults
use Rattle.test_vat.proofs.Known.{Listed, tabled, Known, state, at, get_is, size, without, remove_is}
use Rattle.test_vat.proofs.Found.{Finds, lacks, found, beside, moved, decide, follow, find_each}
use Rattle.test_vat.proofs.Finding.{find_fresh, room_is}

-- a table with the entry under a number, if there is one, changed
abbrev pub changed_at : {X : Type 0} → Listed X → ℕ → (X → X) → Option X → Listed X
changed_at es n change None = es
changed_at es n change (Some x) = (n, change x) ∷ es

abbrev pub changed : {X : Type 0} → Listed X → ℕ → (X → X) → Listed X
changed es n change = changed_at es n change (at es n)

pub changed_by : {X : Type 0} (es : Listed X) (n : ℕ) (change : X → X) (o : Option X) → option_map_or (λ entry. insert (tabled es) n (change entry)) o (tabled es) ≡ tabled (changed_at es n change o)
changed_by es n change None = refl
changed_by es n change (Some x) = refl

pub changed_is : {X : Type 0} (es : Listed X) (n : ℕ) (change : X → X) → with_change (tabled es) n change ≡ tabled (changed es n change)
changed_is es n change = ap (λ o. option_map_or (λ entry. insert (tabled es) n (change entry)) o (tabled es)) (get_is es n) ∙ changed_by es n change (at es n)

-- an import is held once more
abbrev pub find_held_by : (k : Known) (i : ℕ) (kind : ImportKind) (o : Option (Counted ImportKind)) → Finds state (λ held. held ≡ held_once_more (state k) i kind o)
find_held_by k i kind (Some entry) =
    decide
    (λ b held. held ≡ (if b then Ok (record (state k) { counts = record (state k).counts { imports = insert (state k).counts.imports i (record entry { count = entry.count + 1 }) } }) else Err faults.TableFull))
    (ltb entry.count 4294967295)
    (found (Ok (record k { imports = (i, record entry { count = entry.count + 1 }) ∷ k.imports })) refl)
    (found (Err faults.TableFull) refl)
find_held_by k i kind None =
    let new : Known = record k { imports = (i, new_counted kind) ∷ k.imports; import_values = (i, None) ∷ k.import_values } in
    let Rule : Bool → Result State PeerFault → Type 0 = λ b held. held ≡ (if b then Ok (state new) else Err faults.TableFull) in
    moved Rule (room_is k.imports) (decide Rule (ltb (size k.imports) 65536) (found (Ok new) refl) (found (Err faults.TableFull) refl))

abbrev pub find_held : (k : Known) (i : ℕ) (kind : ImportKind) → Finds state (λ held. held ≡ held_import (state k) i kind)
find_held k i kind = moved (λ o held. held ≡ held_once_more (state k) i kind o) (get_is k.imports i) (find_held_by k i kind (at k.imports i))

-- an answer that isn't finished
abbrev pub known_answer : Known → ℕ → Option (Option Outcome)
known_answer k a = answer_by (at k.answering a) (at k.answers a)

pub answer_is : (k : Known) (a : ℕ) → answer_of (state k) a ≡ known_answer k a
answer_is k a = λ i. answer_by (get_is k.answering a i) (get_is k.answers a i)

abbrev pub tied_known : Known → ℕ → List ℕ → ℕ → Known
tied_known k a path p =
    record k {
      promises = (p, None) ∷ k.promises;
      answering = changed k.answering a (λ entry. record entry { kept = tie p path entry.kept });
    }

pub tied_is : (k : Known) (a : ℕ) (path : List ℕ) (p : ℕ) → tied (state k) a path p ≡ state (tied_known k a path p)
tied_is k a path p =
    let tables = changed_is k.answering a (λ entry. record entry { kept = tie p path entry.kept }) in λ i.
    record (state k) {
      values = record (state k).values { promises = tabled ((p, None) ∷ k.promises) };
      entries = record (state k).entries { answers = tables i };
    }

abbrev pub find_taken_answer : (k : Known) (a : ℕ) (path : List ℕ) (o : Option (Option Outcome)) → Finds beside (ReceivesAnswer (state k) a path o)
find_taken_answer k a path None = found (Err faults.UnknownAnswer) refl
find_taken_answer k a path (Some (Some outcome)) = found (Ok (cap_at outcome path, k)) refl
find_taken_answer k a path (Some None) =
    follow _ (find_fresh k.promises) (λ p. found (Ok (caps.Promise p, tied_known k a path p)) (ap (λ s. Ok (caps.Promise p, s)) (sym (tied_is k a path p))))

abbrev pub find_taken_export : (k : Known) (o : Option (Counted Cap)) → Finds beside (λ out. out ≡ taken_export (state k) o)
find_taken_export k None = found (Err faults.UnknownExport) refl
find_taken_export k (Some entry) = found (Ok (entry.kept, k)) refl

abbrev pub find_taken : (k : Known) (d : Descriptor) → Finds beside (ReceivesCap (state k) d)
find_taken k descriptors.None = found (Ok (caps.None, k)) refl
find_taken k (descriptors.SenderHosted i) = follow _ (find_held k i kinds.Hosted) (λ new. found (Ok (caps.Import i, new)) refl)
find_taken k (descriptors.SenderPromise i) = follow _ (find_held k i kinds.Promise) (λ new. found (Ok (caps.Import i, new)) refl)
find_taken k (descriptors.ReceiverHosted e) = moved (λ o out. out ≡ taken_export (state k) o) (get_is k.exports e) (find_taken_export k (at k.exports e))
find_taken k (descriptors.ReceiverAnswer answer) =
    moved
    (ReceivesAnswer (state k) answer.question_id (path_of answer.transform))
    (answer_is k answer.question_id)
    (find_taken_answer k answer.question_id (path_of answer.transform) (known_answer k answer.question_id))
find_taken k (descriptors.ThirdPartyHosted t) = lacks
find_taken k (descriptors.Unknown n) = lacks

abbrev pub find_all_taken : (k : Known) (table : List Descriptor) → Finds beside (ReceivesCaps (state k) table)
find_all_taken k table = find_each ReceivesCap find_taken k table

-- exports lowered
abbrev pub less : Listed (Counted Cap) → ℕ → ℕ → Option (Counted Cap) → Listed (Counted Cap)
less es e n None = es
less es e n (Some entry) = cond (entry.count == n) (without es e) ((e, record entry { count = entry.count - n }) ∷ es)

pub less_if : (es : Listed (Counted Cap)) (e : ℕ) (rest : Listed (Counted Cap)) (b : Bool) → (if b then tabled (without es e) else tabled rest) ≡ tabled (cond b (without es e) rest)
less_if es e rest true = refl
less_if es e rest false = refl

pub less_is : (es : Listed (Counted Cap)) (e n : ℕ) (o : Option (Counted Cap)) → less_by (tabled es) e n o ≡ tabled (less es e n o)
less_is es e n None = refl
less_is es e n (Some entry) =
    ap (λ gone. if entry.count == n then gone else insert (tabled es) e (record entry { count = entry.count - n })) (remove_is es e)
    ∙ less_if es e ((e, record entry { count = entry.count - n }) ∷ es) (entry.count == n)

abbrev pub lowered_at : Listed (Counted Cap) → ℕ → ℕ → Listed (Counted Cap)
lowered_at es e n = less es e n (at es e)

pub lowered_at_is : (es : Listed (Counted Cap)) (e n : ℕ) → lowered_by (tabled es) e n ≡ tabled (lowered_at es e n)
lowered_at_is es e n = ap (less_by (tabled es) e n) (get_is es e) ∙ less_is es e n (at es e)

abbrev pub lowered_all : Listed (Counted Cap) → List ℕ → Listed (Counted Cap)
lowered_all es [] = es
lowered_all es (e ∷ ids) = lowered_all (lowered_at es e 1) ids

pub lowered_all_is : (es : Listed (Counted Cap)) (ids : List ℕ) → lowered (tabled es) ids ≡ tabled (lowered_all es ids)
lowered_all_is es [] = refl
lowered_all_is es (e ∷ ids) = ap (λ exports. lowered exports ids) (lowered_at_is es e 1) ∙ lowered_all_is (lowered_at es e 1) ids

abbrev pub known_count : Listed (Counted Cap) → ℕ → ℕ
known_count es e = option_map_or (λ entry. entry.count) (at es e) 0

-- lowered, unless there is nothing to lower, or too little
abbrev pub checked : Bool → Bool → Table (Counted Cap) → Result (Table (Counted Cap)) PeerFault
checked is_gone is_past exports = if is_gone then Err faults.UnknownExport else (if is_past then Err faults.ReleaseTooLarge else Ok exports)

abbrev pub find_checked : (is_gone is_past : Bool) (es : Listed (Counted Cap)) → Finds tabled (λ out. out ≡ checked is_gone is_past (tabled es))
find_checked true is_past es = found (Err faults.UnknownExport) refl
find_checked false true es = found (Err faults.ReleaseTooLarge) refl
find_checked false false es = found (Ok es) refl

pub lower_is : (es : Listed (Counted Cap)) (ids : List ℕ) → release_exports (tabled es) ids ≡ checked (list_any (λ e. is_none (at es e)) ids) (list_any (λ e. ltb (known_count es e) (times e ids)) ids) (tabled (lowered_all es ids))
lower_is es ids = λ i.
    checked
    (list_any (λ e. is_none (get_is es e i)) ids)
    (list_any (λ e. ltb (option_map_or (λ entry. entry.count) (get_is es e i) 0) (times e ids)) ids)
    (lowered_all_is es ids i)

abbrev pub find_lowered : (es : Listed (Counted Cap)) (ids : List ℕ) → Finds tabled (λ exports. exports ≡ release_exports (tabled es) ids)
find_lowered es ids = moved (λ right exports. exports ≡ right) (lower_is es ids) (find_checked _ _ _)

pub released_is : (es : Listed (Counted Cap)) (e n : ℕ) → released (tabled es) e n ≡ checked (is_none (at es e)) (ltb (known_count es e) n) (tabled (lowered_at es e n))
released_is es e n = λ i.
    checked (is_none (get_is es e i)) (ltb (option_map_or (λ entry. entry.count) (get_is es e i) 0) n) (lowered_at_is es e n i)

abbrev pub find_released : (es : Listed (Counted Cap)) (e n : ℕ) → Finds tabled (λ exports. exports ≡ released (tabled es) e n)
find_released es e n = moved (λ right exports. exports ≡ right) (released_is es e n) (find_checked _ _ _)

abbrev pub find_lowered_if : (b : Bool) (es : Listed (Counted Cap)) (ids : List ℕ) → Finds tabled (λ exports. exports ≡ (if b then release_exports (tabled es) ids else Ok (tabled es)))
find_lowered_if true es ids = find_lowered es ids
find_lowered_if false es ids = found (Ok es) refl
