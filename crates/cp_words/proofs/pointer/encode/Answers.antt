use Rattle.std.proofs.Common.{◌≡◌, ◌==◌, false, ◌+◌, ◌*◌, ◌/◌, ◌%◌, ◌^◌, ◌<◌, refl, arith, rules}
use Rattle.std.proofs.lemmas.Bool.Decides.{nat_tests}
use Rattle.cp_words.specs.Word.{pointer_of, size_of, size_code}
use Rattle.cp_words.specs.declared.pointer.ElementSize.{ElementSize}
use Rattle.cp_words.specs.declared.pointer.ElementSize.TheVariants as sizes
use Rattle.cp_words.proofs.pointer.encode.Goals as goal

code_back : (size : ElementSize) → (size_code size < 8) × (size_of (size_code size) ≡ size)
code_back sizes.Void = (omega arith, refl)
code_back sizes.Bit = (omega arith, refl)
code_back sizes.Byte = (omega arith, refl)
code_back sizes.TwoBytes = (omega arith, refl)
code_back sizes.FourBytes = (omega arith, refl)
code_back sizes.EightBytes = (omega arith, refl)
code_back sizes.Pointer = (omega arith, refl)
code_back sizes.Composite = (omega arith, refl)

pub returns-in-List-clause-says : goal.returns-in-List-clause-says
unfolding pointer_of
returns-in-List-clause-says c =
    let f = c.offset_field-in-List.result in
    let w = 1 + 4 * f + 2 ^ 32 * (c.code_of.result + 8 * c.in-List.count) in
    let small : c.code_of.result < 8 = rw c.code_of.ensures (code_back c.in-List.size).0 in
    let other : (w == 0) ≡ false = grind (arith, nat_tests) in
    let kind : w % 4 ≡ 1 = omega arith in
    let field : w / 4 % 2 ^ 30 ≡ f = omega (arith, c.offset_field-in-List.ensures.field) in
    let code : w / 2 ^ 32 % 8 ≡ c.code_of.result = omega (arith, small, c.offset_field-in-List.ensures.field) in
    let count : w / 2 ^ 32 / 8 ≡ c.in-List.count = omega (arith, small, c.offset_field-in-List.ensures.field) in
    rw (other, kind, field, code, count, c.offset_field-in-List.ensures.value, c.code_of.ensures, (code_back c.in-List.size).1, c.in-List.is) (search rules)
