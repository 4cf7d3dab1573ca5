-- The fields of data words that are made.
use Rattle.std.proofs.Common.{◌≡◌, ℕ, ◌+◌, ◌/◌, ◌%◌, ◌^◌, ◌<◌, ◌==◌, Bool, true, false, [], ◌∷◌, ap, arith}
use Rattle.std.specs.Prelude.{not}
use Rattle.cp_messages.specs.Fields.{u16_of, u32_of, u64_of, bit_of}
use Rattle.cp_messages.specs.Representable.{IsU16, IsU32}
use Rattle.cp_messages.specs.Written.{u16_part, u32_part, bit_part}

pub u16_first : (n : ℕ) → IsU16 n → u16_of (u16_part 0 n ∷ []) 0 ≡ n
u16_first n h = omega arith

pub u16_third : (n : ℕ) → IsU16 n → u16_of (u16_part 2 n ∷ []) 2 ≡ n
u16_third n h = omega arith

pub u32_first : (n : ℕ) → IsU32 n → u32_of (u32_part 0 n ∷ []) 0 ≡ n
u32_first n h = omega arith

-- a step's number and field
pub op_first : (n i : ℕ) → IsU16 n → IsU16 i → u16_of ((u16_part 0 n + u16_part 1 i) ∷ []) 0 ≡ n
op_first n i h k = omega arith

pub op_second : (n i : ℕ) → IsU16 n → IsU16 i → u16_of ((u16_part 0 n + u16_part 1 i) ∷ []) 1 ≡ i
op_second n i h k = omega arith

-- 32 bits and then a number of 16
pub id_first : (id n : ℕ) → IsU32 id → IsU16 n → u32_of ((u32_part 0 id + u16_part 2 n) ∷ []) 0 ≡ id
id_first id n h k = omega arith

pub id_third : (id n : ℕ) → IsU32 id → IsU16 n → u16_of ((u32_part 0 id + u16_part 2 n) ∷ []) 2 ≡ n
id_third id n h k = omega arith

-- a number of 16 bits, and 32 bits after it
pub which_first : (n id : ℕ) → IsU16 n → IsU32 id → u16_of ((u16_part 0 n + u32_part 1 id) ∷ []) 0 ≡ n
which_first n id h k = omega arith

pub which_second : (n id : ℕ) → IsU16 n → IsU32 id → u32_of ((u16_part 0 n + u32_part 1 id) ∷ []) 1 ≡ id
which_second n id h k = omega arith

-- twice 32 bits
pub both_first : (a b : ℕ) → IsU32 a → IsU32 b → u32_of ((u32_part 0 a + u32_part 1 b) ∷ []) 0 ≡ a
both_first a b h k = omega arith

pub both_second : (a b : ℕ) → IsU32 a → IsU32 b → u32_of ((u32_part 0 a + u32_part 1 b) ∷ []) 1 ≡ b
both_second a b h k = omega arith

-- 32 bits and a bit whose default is true
pub flag_first : (a : ℕ) (b : Bool) → IsU32 a → u32_of ((u32_part 0 a + bit_part 32 (not b)) ∷ []) 0 ≡ a
flag_first a true h = omega arith
flag_first a false h = omega arith

pub flag_bit : (a : ℕ) (b : Bool) → IsU32 a → not (bit_of ((u32_part 0 a + bit_part 32 (not b)) ∷ []) 32) ≡ b
flag_bit a true h =
    let e : (u32_part 0 a + bit_part 32 false) / 2 ^ 32 % 2 ≡ 0 = omega arith in
    ap (λ n. not (n == 1)) e
flag_bit a false h =
    let e : (u32_part 0 a + bit_part 32 true) / 2 ^ 32 % 2 ≡ 1 = omega arith in
    ap (λ n. not (n == 1)) e

-- the words of a return
pub return_first : (a n q : ℕ) (b : Bool) → IsU32 a → IsU16 n → u32_of ((u32_part 0 a + bit_part 32 (not b) + u16_part 3 n) ∷ u32_part 2 q ∷ []) 0 ≡ a
return_first a n q true h k = omega arith
return_first a n q false h k = omega arith

pub return_bit : (a n q : ℕ) (b : Bool) → IsU32 a → IsU16 n → not (bit_of ((u32_part 0 a + bit_part 32 (not b) + u16_part 3 n) ∷ u32_part 2 q ∷ []) 32) ≡ b
return_bit a n q true h k =
    let e : (u32_part 0 a + bit_part 32 false + u16_part 3 n) / 2 ^ 32 % 2 ≡ 0 = omega arith in
    ap (λ n. not (n == 1)) e
return_bit a n q false h k =
    let e : (u32_part 0 a + bit_part 32 true + u16_part 3 n) / 2 ^ 32 % 2 ≡ 1 = omega arith in
    ap (λ n. not (n == 1)) e

pub return_fourth : (a n q : ℕ) (b : Bool) → IsU32 a → IsU16 n → u16_of ((u32_part 0 a + bit_part 32 (not b) + u16_part 3 n) ∷ u32_part 2 q ∷ []) 3 ≡ n
return_fourth a n q true h k = omega arith
return_fourth a n q false h k = omega arith

pub return_question : (w q : ℕ) → IsU32 q → u32_of (w ∷ u32_part 2 q ∷ []) 2 ≡ q
return_question w q h = omega arith

-- the words of a call
pub call_first : (q m s i : ℕ) → IsU32 q → IsU16 m → IsU16 s → u32_of ((u32_part 0 q + u16_part 2 m + u16_part 3 s) ∷ i ∷ 0 ∷ []) 0 ≡ q
call_first q m s i h k j = omega arith

pub call_third : (q m s i : ℕ) → IsU32 q → IsU16 m → IsU16 s → u16_of ((u32_part 0 q + u16_part 2 m + u16_part 3 s) ∷ i ∷ 0 ∷ []) 2 ≡ m
call_third q m s i h k j = omega arith

pub call_fourth : (q m s i : ℕ) → IsU32 q → IsU16 m → IsU16 s → u16_of ((u32_part 0 q + u16_part 2 m + u16_part 3 s) ∷ i ∷ 0 ∷ []) 3 ≡ s
call_fourth q m s i h k j = omega arith

pub call_interface : (w i : ℕ) → i < 2 ^ 64 → u64_of (w ∷ i ∷ 0 ∷ []) 1 ≡ i
call_interface w i h = omega arith
