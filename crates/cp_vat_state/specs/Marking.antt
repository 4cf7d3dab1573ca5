-- Marks and embargoes.
use Rattle.std.specs.Prelude.{◌≡◌, ◌∷◌, ℕ, List, [], not, Option, Some, None}
use Rattle.std.specs.FinMap.{get, insert, remove, retain_keys}
use Rattle.cp_tables.specs.Table.{Table}
use Rattle.cp_refs.specs.declared.cap.Cap.{Cap}
use Rattle.cp_refs.specs.declared.cap.Cap.TheVariants as caps
use Rattle.cp_vat_machine.specs.State.{State, Marks}
use Rattle.cp_vat_machine.specs.Resolving.{is_under}
use Rattle.cp_vat_state.specs.Paths.{Marked}
use Rattle.cp_vat_state.specs.declared.marks.MarkKey.{MarkKey}
use Rattle.cp_vat_state.specs.declared.marks.MarkKey.TheVariants as references

-- the state with other marks
abbrev pub with_marks : State → Marks → State
with_marks s marks = record s { marks = marks }

-- the marks with one more embargo, and what it leads to
abbrev pub with_embargo : Marks → ℕ → Cap → Marks
with_embargo marks n value = record marks { embargoes = insert marks.embargoes n value }

-- the marks without that of a reference
abbrev pub without_mark : Marks → Cap → Marks
without_mark marks (caps.Import i) = record marks { imports = remove marks.imports i }
without_mark marks (caps.Pipelined q path) = record marks { paths = remove marks.paths (q ∷ path) }
without_mark marks other = marks

-- the marks without an embargo: the references under it aren't marked any more
abbrev pub without_embargo : Marks → ℕ → Marks
without_embargo marks n =
    record {
      imports = retain_keys marks.imports (λ i. not (is_under n (get marks.imports i)));
      paths = retain_keys marks.paths (λ key. not (is_under n (get marks.paths key)));
      embargoes = remove marks.embargoes n;
    }

-- Each mark that is under an embargo is the one to which the embargo leads back, and only an open embargo leads back to one.
pub record AreUnder (imports : Table (Option ℕ)) (paths : Marked) (embargoes : Table Cap) (led_back : Table MarkKey) : Type 0 where
  pub imports_led : (i : ℕ) (n : ℕ) → get imports i ≡ Some (Some n) → get led_back n ≡ Some (references.Import i)
  pub paths_led : (q : ℕ) (p : List ℕ) (n : ℕ) → get paths (q ∷ p) ≡ Some (Some n) → get led_back n ≡ Some (references.Path q p)
  pub paths_named : get paths [] ≡ None
  pub open_led : (n : ℕ) → get embargoes n ≡ None → get led_back n ≡ None
