use Rattle.std.proofs.Common.{◌≡◌, ℕ, ◌<◌, ◌/◌, ◌++◌, List, Ok, map, length, ap, ◌∙◌, arith, rules}
use Rattle.std.proofs.lemmas.Bool.Decides.{nat_tests}
use Rattle.std.proofs.lemmas.Iterator.{YieldsList-from_map, YieldsList-from_slice}
use Rattle.std.proofs.lemmas.Iterator.Consumers.{YieldsList-at}
use Rattle.std.proofs.lemmas.Iterator.Adapters.{items_from_extend}
use Rattle.std.specs.declared.alloc.AllocError.{AllocError}
use Rattle.cp_writing.specs.Packed.{value}
use Rattle.cp_writing.proofs.Packing.{all_whole, one_rest}
use Rattle.cp_writing.proofs.pack.push_two_bytes.Goals as goal

pub returns-in_ok-push : goal.returns-in_ok-push
returns-in_ok-push c =
    let ns = c.args.items.now in
    let left = c.as_chunks.ensures.back_len in
    let some : 0 < length c.as_chunks.result.1.now = grind (arith, nat_tests, c.is_empty.ensures, c.if-not-is_empty.true) in
    let given = items_from_extend {E = AllocError} (Ok c.in_ok-extend.field-0) c.in_ok-extend.ensures.ran
    (YieldsList-from_map _ (value 65536) (YieldsList-at c.map.ensures.source (YieldsList-from_slice c.as_chunks.result.0.now c.iter.ensures.rest)) c.map.ensures.closure (λ x r q k. search rules)) in
    let whole = given.0 ∙ ap (λ (xs : List (List ℕ)). c.args.words.now.items ++ map (value 65536) xs) c.as_chunks.ensures.front in
    one_rest 65536 4 ns c.args.words.now.items _ (length ns / 4) whole c.as_chunks.result.1.now c.push.new.self.items c.two_bytes_word.result (omega (arith, left, some)) c.as_chunks.ensures.back (omega (arith, left)) c.two_bytes_word.ensures c.in_ok-push.ensures.items

pub returns-else-not-is_empty : goal.returns-else-not-is_empty
returns-else-not-is_empty c =
    let ns = c.args.items.now in
    let none : length c.as_chunks.result.1.now ≡ 0 = grind (arith, nat_tests, c.is_empty.ensures, c.if-not-is_empty.false) in
    let given = items_from_extend {E = AllocError} (Ok c.in_ok-extend.field-0) c.in_ok-extend.ensures.ran
    (YieldsList-from_map _ (value 65536) (YieldsList-at c.map.ensures.source (YieldsList-from_slice c.as_chunks.result.0.now c.iter.ensures.rest)) c.map.ensures.closure (λ x r q k. search rules)) in
    let whole = given.0 ∙ ap (λ (xs : List (List ℕ)). c.args.words.now.items ++ map (value 65536) xs) c.as_chunks.ensures.front in
    all_whole 65536 4 ns c.args.words.now.items _ (length ns / 4) whole (omega (arith, c.as_chunks.ensures.back_len, none))
