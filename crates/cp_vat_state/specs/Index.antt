-- The way from a capability to its export.
use Rattle.std.specs.Prelude.{◌≡◌, ℕ, Option, Some, None, IfSome}
use Rattle.std.specs.FinMap.{get, insert, remove}
use Rattle.cp_tables.specs.Table.{Table}
use Rattle.cp_tables.specs.declared.counted.Counted.{Counted}
use Rattle.cp_refs.specs.declared.cap.Cap.{Cap}
use Rattle.cp_refs.specs.declared.cap.Cap.TheVariants as caps
use Rattle.cp_vat_state.specs.declared.exports.ExportedCap.{ExportedCap}
use Rattle.cp_vat_state.specs.declared.exports.ExportedCap.TheVariants as hosted
use Rattle.cp_vat_state.specs.declared.exports.Index.{Index}

-- the capability, and back
abbrev pub cap_of : ExportedCap → Cap
cap_of (hosted.Object k) = caps.Object k
cap_of (hosted.Promise p) = caps.Promise p

abbrev pub exported_cap_of : Cap → Option ExportedCap
exported_cap_of (caps.Object k) = Some (hosted.Object k)
exported_cap_of (caps.Promise p) = Some (hosted.Promise p)
exported_cap_of other = None

-- the number of a capability's export
abbrev pub number_of : Index → Cap → Option ℕ
number_of index (caps.Object k) = get index.objects k
number_of index (caps.Promise p) = get index.promises p
number_of index other = None

abbrev pub with_number : Index → Cap → ℕ → Index
with_number index (caps.Object k) e = record index { objects = insert index.objects k e }
with_number index (caps.Promise p) e = record index { promises = insert index.promises p e }
with_number index other e = index

abbrev pub without_number : Index → Cap → Index
without_number index (caps.Object k) = record index { objects = remove index.objects k }
without_number index (caps.Promise p) = record index { promises = remove index.promises p }
without_number index other = index

-- the export under this number is that of the capability
abbrev pub HasCap : Table (Counted Cap) → ℕ → Cap → Type 0
HasCap exports e cap = (count : ℕ) × (get exports e ≡ Some (record { count = count; kept = cap }))

-- the index leads from each export's capability to it, and from nothing else to anything
pub record AreIndexed (exports : Table (Counted Cap)) (index : Index) : Type 0 where
  pub kept : (e : ℕ) → IfSome (get exports e) (λ entry. number_of index entry.kept ≡ Some e)
  pub exported : (cap : Cap) (e : ℕ) → number_of index cap ≡ Some e → HasCap exports e cap
