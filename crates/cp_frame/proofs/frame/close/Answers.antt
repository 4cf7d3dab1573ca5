use Rattle.std.proofs.Common.{◌≡◌, ◌<◌, ℕ, length, ◌∷◌, [], ◌++◌, ◌∙◌, List, ap, sym, get_or, arith}
use Rattle.std.proofs.lemmas.List.{map_push}
use Rattle.std.specs.Global.{Vec}
use Rattle.cp_frame.proofs.Filling.{fills_next, body_next, length_lists}
use Rattle.cp_frame.proofs.Tables.{length_named}
use Rattle.cp_frame.specs.Parts.{halves}
use Rattle.cp_words.specs.Segments.{words_of}
use Rattle.cp_frame.specs.Stream.{named_sizes}
use Rattle.cp_frame.proofs.frame.close.Goals as goal

pub closing-preserved : goal.closing-preserved
closing-preserved c =
    let sizes = named_sizes (halves c.args.table.now) in
    let S = words_of c.closing.segments.items in
    let ws = c.closing.words.items in
    let pushed : words_of c.push.new.self.items ≡ S ++ ws ∷ [] =
    ap (λ (vs : List (Vec ℕ)). words_of vs) c.in_ok-push.ensures.items ∙ map_push (λ (v : Vec ℕ). v.items) c.closing.segments.items c.replace.result ∙ ap (λ (v : Vec ℕ). S ++ v.items ∷ []) c.replace.ensures.value in
    let none : c.replace.new.dest.items ≡ [] = ap (λ (v : Vec ℕ). v.items) c.replace.ensures.after ∙ c.in_ok-next.ensures.items in
    let place : length S ≡ length c.closing.segments.items = length_lists c.closing.segments.items in
    let fitting : length S < length sizes = omega (arith, place, length_named c.args.table.now c.requires.whole, c.closing-test.true, c.len.ensures, c.count-count.ensures.value) in
    let next : length S ≡ c.len-in-closing-2.result = omega (arith, place, c.len-in-closing-2.ensures) in
    let size : c.size.result ≡ get_or sizes (length S) 0 = c.size.ensures.value ∙ ap (λ i. get_or sizes i 0) (sym next) in
    let full : length ws ≡ get_or sizes (length S) 0 = omega (arith, size, c.if-len-size.true, c.len-in-closing.ensures) in
    let fills = fills_next sizes S ws c.closing.invariant.fills fitting full in
    record {
      fills = rw (pushed, none) fills;
      same = rw (pushed, none) (body_next S ws ∙ c.closing.invariant.same);
    }
