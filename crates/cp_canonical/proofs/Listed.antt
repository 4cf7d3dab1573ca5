-- A list without pointers, as its words are written.
use Rattle.std.proofs.Common.{◌≡◌, ℕ, ◌*◌, ◌%◌, ◌<◌, ◌++◌, List, length, refl, sym, ap, ◌∙◌, arith}
use Rattle.std.proofs.lemmas.List.{length-append}
use Rattle.cp_words.specs.Word.{bits_of, words_for}
use Rattle.cp_words.specs.declared.kind.BodyKind.{BodyKind}
use Rattle.cp_words.specs.declared.kind.BodyKind.TheVariants as kinds
use Rattle.cp_words.specs.declared.pointer.ElementSize.{ElementSize}
use Rattle.cp_words.specs.declared.pointer.ElementSize.TheVariants as sizes
use Rattle.cp_tree.specs.Elements.{element, elements_of}
use Rattle.cp_tree.specs.Node.{element_size, element_count}
use Rattle.cp_tree.specs.Shaped.{AllFit, ElementsFit}
use Rattle.cp_reading.specs.Rows.{IsData}
use Rattle.cp_writing.specs.Packed.{packed}
use Rattle.cp_canonical.specs.Arenas.{masked, pointed, with_list}
use Rattle.cp_canonical.proofs.Masks.{count-map, length-elements, masked-append, packed-elements}
use Rattle.std.specs.Prelude.{◌==◌}

list_kind : (size : ElementSize) (n : ℕ) (ws : List ℕ) → IsData size → ◌≡◌ {A = BodyKind} (kinds.List (element_size (elements_of ws size n)) (element_count (elements_of ws size n))) (kinds.List size n)
list_kind sizes.Void n ws d = refl
list_kind sizes.Bit n ws d = ap (kinds.List sizes.Bit) (count-map (λ k. element ws 1 k == 1) n)
list_kind sizes.Byte n ws d = ap (kinds.List sizes.Byte) (count-map (element ws 8) n)
list_kind sizes.TwoBytes n ws d = ap (kinds.List sizes.TwoBytes) (count-map (element ws 16) n)
list_kind sizes.FourBytes n ws d = ap (kinds.List sizes.FourBytes) (count-map (element ws 32) n)
list_kind sizes.EightBytes n ws d = ap (kinds.List sizes.EightBytes) (count-map (element ws 64) n)
list_kind sizes.Pointer n ws d = absurd d
list_kind sizes.Composite n ws d = absurd d

module _ (p : ℕ) (size : ElementSize) (n : ℕ) (ws old : List ℕ) (d : IsData size) (long : length ws ≡ words_for size n) where
  pub length-listed : length (with_list p (elements_of ws size n) old) ≡ length (pointed p (kinds.List size n) old ++ ws)
  length-listed =
      let k = ap (λ kind. length (pointed p kind old ++ packed (elements_of ws size n))) (list_kind size n ws d) in
      k ∙ omega (arith, length-append (pointed p (kinds.List size n) old) (packed (elements_of ws size n)), length-append (pointed p (kinds.List size n) old) ws, length-elements size n ws d long)

  -- the words that hold the elements were appended, and the bits past them cleared
  pub listed : ElementsFit (elements_of ws size n) → AllFit 64 ws → masked (n * bits_of size % 64) (pointed p (kinds.List size n) old ++ ws) ≡ with_list p (elements_of ws size n) old
  listed fit small =
      masked-append (n * bits_of size % 64) (pointed p (kinds.List size n) old) ws (λ some. filled size n ws d long some)
      ∙ ap (λ vs. pointed p (kinds.List size n) old ++ vs) (sym (packed-elements size n ws d long fit small))
      ∙ ap (λ kind. pointed p kind old ++ packed (elements_of ws size n)) (sym (list_kind size n ws d))
    where
      filled : (size : ElementSize) (n : ℕ) (ws : List ℕ) → IsData size → length ws ≡ words_for size n → 0 < n * bits_of size % 64 → 0 < length ws
      filled sizes.Void n ws d long some = omega (arith, long, some)
      filled sizes.Bit n ws d long some = omega (arith, long, some)
      filled sizes.Byte n ws d long some = omega (arith, long, some)
      filled sizes.TwoBytes n ws d long some = omega (arith, long, some)
      filled sizes.FourBytes n ws d long some = omega (arith, long, some)
      filled sizes.EightBytes n ws d long some = omega (arith, long, some)
      filled sizes.Pointer n ws d long some = absurd d
      filled sizes.Composite n ws d long some = absurd d
