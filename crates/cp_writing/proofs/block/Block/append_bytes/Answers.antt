use Rattle.std.proofs.Common.{◌≡◌, ◌<◌, ◌/◌, ◌*◌, ◌-◌, ◌++◌, ℕ, List, length, take, drop, ap, ◌∙◌, length-drop, arith}
use Rattle.std.proofs.lemmas.List.{take_all}
use Rattle.std.proofs.lemmas.Bool.Decides.{nat_tests}
use Rattle.cp_writing.proofs.Packing.{all_whole, one_rest}
use Rattle.cp_writing.proofs.Blocks.{value_chunks}
use Rattle.cp_writing.proofs.block.Block.append_bytes.Goals as goal

pub returns-in_ok-push : goal.returns-in_ok-push
returns-in_ok-push c =
    let ns = c.args.items.now in
    let old = c.args.self.now in
    let n = length ns / 8 in
    let rest = take (length ns - n * 8) (drop (n * 8) ns) in
    let is : rest ≡ drop (n * 8) ns = take_all (length ns - n * 8) (drop (n * 8) ns) (omega (arith, length-drop (n * 8) ns)) in
    let some : 0 < length rest = grind (arith, nat_tests, c.is_empty.ensures, c.if-not-is_empty.true) in
    let left : length rest ≡ length ns - n * 8 = ap (λ (x : List ℕ). length x) is ∙ length-drop (n * 8) ns in
    let whole = c.in_ok-append_whole.ensures ∙ ap (λ (ws : List ℕ). old ++ ws) (value_chunks n ns (omega arith)) in
    one_rest 256 8 ns old c.append_whole.new.self n whole rest c.push.new.self c.bytes_word.result (omega (arith, left, some)) is (omega (arith, left)) c.bytes_word.ensures c.in_ok-push.ensures

pub returns-else-not-is_empty : goal.returns-else-not-is_empty
returns-else-not-is_empty c =
    let ns = c.args.items.now in
    let old = c.args.self.now in
    let n = length ns / 8 in
    let rest = take (length ns - n * 8) (drop (n * 8) ns) in
    let is : rest ≡ drop (n * 8) ns = take_all (length ns - n * 8) (drop (n * 8) ns) (omega (arith, length-drop (n * 8) ns)) in
    let none : length rest ≡ 0 = grind (arith, nat_tests, c.is_empty.ensures, c.if-not-is_empty.false) in
    let left : length rest ≡ length ns - n * 8 = ap (λ (x : List ℕ). length x) is ∙ length-drop (n * 8) ns in
    let whole = c.in_ok-append_whole.ensures ∙ ap (λ (ws : List ℕ). old ++ ws) (value_chunks n ns (omega arith)) in
    all_whole 256 8 ns old c.append_whole.new.self n whole (omega (arith, left, none))
