-- What a word says, by its bits. Bit 0 is the lowest. (Encoding specification: "Structs", "Lists",
-- "Inter-Segment Pointers", "Capabilities (Interfaces)".)
use Rattle.std.specs.Prelude.{◌≡◌, ℕ, suc, ◌+◌, ◌*◌, ◌/◌, ◌%◌, ◌^◌, ◌<◌, ℤ, pos, negsuc, ◌-ℤ◌, ◌≤ℤ◌, ◌<ℤ◌, ◌-◌, nat_lt, if◌then◌else◌, Option, Some, None, ◌==◌}
use Rattle.cp_words.specs.declared.pointer.ElementSize.{ElementSize}
use Rattle.cp_words.specs.declared.pointer.ElementSize.TheVariants as sizes
use Rattle.cp_words.specs.declared.pointer.Pointer.{Pointer}
use Rattle.cp_words.specs.declared.pointer.Pointer.TheVariants as pointers
use Rattle.cp_words.specs.declared.pointer.Tag.{Tag}

-- bits 2 to 31, a signed number
abbrev pub offset_of : ℕ → ℤ
offset_of w =
    let field = w / 4 % 2 ^ 30 in
    if nat_lt field (2 ^ 29) then pos field else (pos field -ℤ pos (2 ^ 30))

-- bits 32 to 63
abbrev pub high_of : ℕ → ℕ
high_of w = w / 2 ^ 32

-- the three bits of an element size
abbrev pub size_code : ElementSize → ℕ
size_code sizes.Void = 0
size_code sizes.Bit = 1
size_code sizes.Byte = 2
size_code sizes.TwoBytes = 3
size_code sizes.FourBytes = 4
size_code sizes.EightBytes = 5
size_code sizes.Pointer = 6
size_code sizes.Composite = 7

-- the element size that three bits say
abbrev pub size_of : ℕ → ElementSize
size_of code =
    if code == 0 then sizes.Void else (if code == 1 then sizes.Bit else (if code == 2 then sizes.Byte else (if code == 3 then sizes.TwoBytes else
    (if code == 4 then sizes.FourBytes else (if code == 5 then sizes.EightBytes else (if code == 6 then sizes.Pointer else sizes.Composite))))))

-- What a pointer word says: all zero bits are null, and the two lowest bits are the kind of any other.
-- None is a capability word with a bit that should be zero.
unfoldable pub pointer_of : ℕ → Option Pointer
pointer_of w =
    if w == 0 then Some pointers.Null
    else (if w % 4 == 0 then Some (pointers.Struct (offset_of w) (high_of w % 2 ^ 16) (high_of w / 2 ^ 16))
    else (if w % 4 == 1 then Some (pointers.List (offset_of w) (size_of (high_of w % 8)) (high_of w / 8))
    else (if w % 4 == 2 then Some (pointers.Far (w / 4 % 2 == 1) (w / 8 % 2 ^ 29) (high_of w))
    else (if w % 2 ^ 32 == 3 then Some (pointers.Cap (high_of w)) else None))))

-- a signed number of 30 bits
abbrev pub IsOffset : ℤ → Type 0
IsOffset offset = (negsuc (2 ^ 29 - 1) ≤ℤ offset) × (offset <ℤ pos (2 ^ 29))

-- each part fits its bits, and a struct isn't the word 0
abbrev pub IsWritable : Pointer → Type 0
IsWritable pointers.Null = Unit {0}
IsWritable (pointers.Struct offset data_words ptrs) = IsOffset offset × ¬ ((offset ≡ pos 0) × (data_words ≡ 0) × (ptrs ≡ 0))
IsWritable (pointers.List offset size count) = IsOffset offset × (count < 2 ^ 29)
IsWritable (pointers.Far double place segment) = place < 2 ^ 29
IsWritable (pointers.Cap index) = Unit {0}

-- a signed number as the 30 bits that stand for it
abbrev pub offset_bits : ℤ → ℕ
offset_bits (pos n) = n
offset_bits (negsuc n) = 2 ^ 30 - suc n

-- the word that says this, of parts that fit their bits
abbrev pub word_of : Pointer → ℕ
word_of pointers.Null = 0
word_of (pointers.Struct offset data_words ptrs) = 4 * offset_bits offset + 2 ^ 32 * (data_words + 2 ^ 16 * ptrs)
word_of (pointers.List offset size count) = 1 + 4 * offset_bits offset + 2 ^ 32 * (size_code size + 8 * count)
word_of (pointers.Far double place segment) = 2 + 4 * (if double then 1 else 0) + 8 * place + 2 ^ 32 * segment
word_of (pointers.Cap index) = 3 + 2 ^ 32 * index

-- how many bits of a list's body an element takes; the elements of a composite list are counted by words
abbrev pub bits_of : ElementSize → ℕ
bits_of sizes.Void = 0
bits_of sizes.Bit = 1
bits_of sizes.Byte = 8
bits_of sizes.TwoBytes = 16
bits_of sizes.FourBytes = 32
bits_of sizes.EightBytes = 64
bits_of sizes.Pointer = 64
bits_of sizes.Composite = 64

-- The words of a list's body: its bits rounded up to whole words. A composite list has a tag before them.
abbrev pub words_for : ElementSize → ℕ → ℕ
words_for sizes.Composite count = count + 1
words_for size count = (count * bits_of size + 63) / 64

-- A composite list's tag: bits 2 to 31, unsigned, are the number of elements, and the rest is laid out as in a
-- struct pointer. None is a word of another kind.
unfoldable pub tag_of : ℕ → Option Tag
tag_of w = if w % 4 == 0 then Some (record { count = w / 4 % 2 ^ 30; words = high_of w % 2 ^ 16; ptrs = high_of w / 2 ^ 16 }) else None
