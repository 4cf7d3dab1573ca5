use Rattle.std.proofs.Common.{ℕ, ◌++◌, List, map, ◌∙◌, ap, rules}
use Rattle.std.specs.Int.{from_le_bytes, w64}
use Rattle.std.proofs.lemmas.Iterator.{YieldsList-from_map, YieldsList-from_slice}
use Rattle.std.proofs.lemmas.Iterator.Consumers.{YieldsList-at}
use Rattle.std.proofs.lemmas.Iterator.Adapters.{items_from_extend}
use Rattle.std.proofs.lemmas.Result.{on_ok_weaker}
use Rattle.cp_packed.proofs.words.take_in.Goals as goal

pub returns : goal.returns
returns c =
    let given = items_from_extend c.extend.result c.extend.ensures.ran
    (YieldsList-from_map _ (λ (b : List ℕ). from_le_bytes w64 b) (YieldsList-at c.map.ensures.source (YieldsList-from_slice c.as_chunks.result.0.now c.iter.ensures.rest)) c.map.ensures.closure (λ x r q k. search rules)) in
    on_ok_weaker c.extend.result (λ h. h.0 ∙ ap (λ (xs : List (List ℕ)). c.args.words.now.items ++ map (from_le_bytes w64) xs) c.as_chunks.ensures.front) given
