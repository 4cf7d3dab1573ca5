-- Segments that are filled, one after another.
use Rattle.std.proofs.Common.{◌≡◌, ℕ, ◌+◌, ◌^◌, ◌<◌, ◌≤◌, List, [], ◌∷◌, ◌++◌, length, take, get_or, refl, sym, ◌∙◌, ap, append_assoc, length-append, arith}
use Rattle.std.specs.List.{flat_map}
use Rattle.std.specs.Int.{to_le_bytes, w64}
use Rattle.std.specs.Global.{Vec}
use Rattle.std.proofs.lemmas.List.{append-nil, map-append, take_more}
use Rattle.std.proofs.lemmas.Grind.{flat_map-append}
use Rattle.cp_frame.specs.Framed.{sizes_of}
use Rattle.cp_packed.specs.Words.{AreWords, bytes_of}
use Rattle.cp_frame.specs.Parts.{Fills, body}
use Rattle.cp_words.specs.Segments.{words_of}
use Rattle.cp_packed.proofs.Bytes.{all-push, all-append}

pub length_lists : (vs : List (Vec ℕ)) → length (words_of vs) ≡ length vs
length_lists [] = refl
length_lists (v ∷ vs) = omega (arith, length_lists vs)

pub sizes-append : (S T : List (List ℕ)) → sizes_of (S ++ T) ≡ sizes_of S ++ sizes_of T
sizes-append S T = map-append (λ seg. length seg) S T

-- a segment that is full is put away
pub fills_next : (sizes : List ℕ) (S : List (List ℕ)) (ws : List ℕ) → Fills sizes S ws → length S < length sizes → length ws ≡ get_or sizes (length S) 0
    → Fills sizes (S ++ ws ∷ []) []
fills_next sizes S ws h k e = record {
  each = all-push AreWords S ws h.each h.are_words;
  are_words = tt;
  sized =
      let last : length (S ++ ws ∷ []) ≡ length S + 1 = length-append S (ws ∷ []) in
      let more : take (length S + 1) sizes ≡ take (length S) sizes ++ get_or sizes (length S) 0 ∷ [] = take_more sizes (length S) 0 k in
      sizes-append S (ws ∷ []) ∙ ap (λ ns. ns ++ length ws ∷ []) h.sized ∙ ap (λ n. take (length S) sizes ++ n ∷ []) e ∙ sym more ∙ ap (λ n. take n sizes) (sym last);
  some = omega (arith, k, length-append S (ws ∷ []));
  fitting = omega arith;
}

pub body_next : (S : List (List ℕ)) (ws : List ℕ) → body (S ++ ws ∷ []) [] ≡ body S ws
body_next S ws =
    ap (λ b. b ++ []) (flat_map-append bytes_of S (ws ∷ [])) ∙ append-nil (flat_map bytes_of S ++ (bytes_of ws ++ [])) ∙ ap (λ b. flat_map bytes_of S ++ b) (append-nil (bytes_of ws))

-- words that still find room
pub fills_more : (sizes : List ℕ) (S : List (List ℕ)) (ws more : List ℕ) → Fills sizes S ws → AreWords more → length ws + length more ≤ get_or sizes (length S) 0 → Fills sizes S (ws ++ more)
fills_more sizes S ws more h k fitting = record {
  each = h.each;
  are_words = all-append (λ w. w < 2 ^ 64) ws more h.are_words k;
  sized = h.sized;
  some = h.some;
  fitting = omega (arith, fitting, length-append ws more);
}

pub body_more : (S : List (List ℕ)) (ws more : List ℕ) → body S (ws ++ more) ≡ body S ws ++ bytes_of more
body_more S ws more = ap (λ b. flat_map bytes_of S ++ b) (flat_map-append (to_le_bytes w64) ws more) ∙ sym (append_assoc (flat_map bytes_of S) (bytes_of ws) (bytes_of more))
