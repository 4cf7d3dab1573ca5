-- The bodies that pointer words have. (Encoding specification: "Structs", "Lists".)
use Rattle.std.specs.Prelude.{◌≡◌, ℕ, ◌+◌, ◌*◌, ◌≤◌, List, Some, slice_index}
use Rattle.cp_words.specs.Targets.{segment, HasBody}
use Rattle.cp_words.specs.Word.{tag_of, words_for}
use Rattle.cp_words.specs.declared.kind.BodyKind.TheVariants as kinds
use Rattle.cp_words.specs.declared.pointer.ElementSize.TheVariants as sizes
use Rattle.cp_reading.specs.declared.area.Form.{Form}
use Rattle.cp_reading.specs.declared.area.Form.TheVariants as forms

-- The word has a body of this form, whose parts begin at a word of segment s'. A composite list's elements begin
-- after its tag, which says how many there are and of what size; together they take no more words than the list has.
abbrev pub Locates : List (List ℕ) → ℕ → ℕ → Form → ℕ → ℕ → Type 0
Locates S s p (forms.Struct d n) s' start = HasBody S s p (kinds.Struct d n) (d + n) s' start
Locates S s p (forms.List size n) s' start = HasBody S s p (kinds.List size n) (words_for size n) s' start
Locates S s p (forms.Structs d n k) s' start =
    (size : ℕ) × (tag : ℕ) × HasBody S s p (kinds.List sizes.Composite size) (size + 1) s' tag
    × (tag_of (slice_index (segment S s') tag) ≡ Some (record { count = k; words = d; ptrs = n }))
    × (k * (d + n) ≤ size) × (start ≡ tag + 1)
