-- Structs that are made one after another.
use Rattle.std.proofs.Common.{◌≡◌, ℕ, ◌+◌, ◌<◌, ◌≤◌, ◌==◌, false, List, [], ◌∷◌, ◌++◌, length, map, take, get_or, sym, ap, ◌∙◌}
use Rattle.std.proofs.lemmas.List.{take_more, take_all, map-append}
use Rattle.cp_tree.specs.Node.{Node, structs}
use Rattle.cp_tree.specs.NodeOf.{bodies_of}
use Rattle.cp_tree.specs.DraftOf.{draft_body_of}
use Rattle.cp_tree.specs.declared.draft.DraftBody.{DraftBody}
use Rattle.cp_messages.specs.Written.{body_written, list_written}

-- one more struct is made after those that were made
pub made_more : {X : Type 0} (made : X → Node) (xs : List X) (i : ℕ) (d : X) (bs more : List DraftBody) (b : DraftBody) → i < length xs
    → map draft_body_of bs ≡ map body_written (map made (take i xs)) → draft_body_of b ≡ body_written (made (get_or xs i d)) → more ≡ bs ++ b ∷ []
    → map draft_body_of more ≡ map body_written (map made (take (i + 1) xs))
made_more made xs i d bs more b within before one pushed =
    ap (λ l. map draft_body_of l) pushed ∙ map-append draft_body_of bs (b ∷ []) ∙ ap (λ l. l ++ draft_body_of b ∷ []) before
    ∙ ap (λ x. map body_written (map made (take i xs)) ++ x ∷ []) one
    ∙ sym (ap (λ l. map body_written (map made l)) (take_more xs i d within) ∙ ap (λ l. map body_written l) (map-append made (take i xs) (get_or xs i d ∷ []))
    ∙ map-append body_written (map made (take i xs)) (made (get_or xs i d) ∷ []))

-- once all are made, they are the list
pub made_all : {X : Type 0} (made : X → Node) (d n : ℕ) (xs : List X) (i : ℕ) (bs : List DraftBody) → (length xs == 0) ≡ false → length xs ≤ i
    → map draft_body_of bs ≡ map body_written (map made (take i xs)) → structs d n (bodies_of (map draft_body_of bs)) ≡ list_written d n (map made xs)
made_all made d n [] i bs some all before = cc
made_all made d n (x ∷ xs) i bs some all before =
    ap (λ l. structs d n (bodies_of l)) (before ∙ ap (λ l. map body_written (map made l)) (take_all i (x ∷ xs) all))
