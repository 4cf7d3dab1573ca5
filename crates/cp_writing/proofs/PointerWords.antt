-- Words of pointers say what they were written for.
use Rattle.std.proofs.Common.{◌≡◌, ℕ, ◌+◌, ◌^◌, ◌<◌, pos, negsuc, Some, false, refl, arith}
use Rattle.std.proofs.lemmas.Bool.Decides.{nat_tests}
use Rattle.cp_words.specs.Word.{pointer_of, word_of, tag_of}
use Rattle.cp_words.specs.declared.pointer.ElementSize.{ElementSize}
use Rattle.cp_words.specs.declared.pointer.ElementSize.TheVariants as sizes
use Rattle.cp_words.specs.declared.pointer.Pointer.TheVariants as pointers
use Rattle.cp_writing.specs.Writing.{tag_word}

pub says_null : pointer_of 0 ≡ Some pointers.Null
unfolding pointer_of
says_null = refl

pub says_empty : pointer_of 4294967292 ≡ Some (pointers.Struct (negsuc 0) 0 0)
unfolding pointer_of
says_empty = refl

pub says_cap : (i : ℕ) → i < 2 ^ 32 → pointer_of (word_of (pointers.Cap i)) ≡ Some (pointers.Cap i)
unfolding pointer_of
says_cap i small = grind (arith, nat_tests)

pub says_far : (place s : ℕ) → place < 2 ^ 29 → pointer_of (word_of (pointers.Far false place s)) ≡ Some (pointers.Far false place s)
unfolding pointer_of
says_far place s small = grind (arith, nat_tests)

pub says_struct : (o d n : ℕ) → o < 2 ^ 29 → d < 2 ^ 16 → n < 2 ^ 16 → 0 < o + d + n → pointer_of (word_of (pointers.Struct (pos o) d n)) ≡ Some (pointers.Struct (pos o) d n)
unfolding pointer_of
says_struct o d n a b c some = grind (arith, nat_tests)

pub says_list : (o : ℕ) (size : ElementSize) (n : ℕ) → o < 2 ^ 29 → pointer_of (word_of (pointers.List (pos o) size n)) ≡ Some (pointers.List (pos o) size n)
unfolding pointer_of
says_list o sizes.Void n a = grind (arith, nat_tests)
says_list o sizes.Bit n a = grind (arith, nat_tests)
says_list o sizes.Byte n a = grind (arith, nat_tests)
says_list o sizes.TwoBytes n a = grind (arith, nat_tests)
says_list o sizes.FourBytes n a = grind (arith, nat_tests)
says_list o sizes.EightBytes n a = grind (arith, nat_tests)
says_list o sizes.Pointer n a = grind (arith, nat_tests)
says_list o sizes.Composite n a = grind (arith, nat_tests)

pub says_tag : (k d n : ℕ) → k < 2 ^ 30 → d < 2 ^ 16 → tag_of (tag_word k d n) ≡ Some (record { count = k; words = d; ptrs = n })
unfolding tag_of
says_tag k d n a b = grind (arith, nat_tests)
