-- A frame that is written in packed pieces.
use Rattle.std.proofs.Common.{◌≡◌, ◌==◌, if◌then◌else◌, Bool, true, false, ℕ, ◌+◌, ◌-◌, ◌*◌, ◌/◌, ◌%◌, ◌^◌, ◌<◌, ◌≤◌, List, [], ◌∷◌, ◌++◌, length, take, get_or, Result, Ok, Err, OnErr, refl, sym, ◌∙◌, ap, subst, append_assoc, length-append, arith}
use Rattle.std.specs.List.{AllZip, flat_map}
use Rattle.std.specs.Int.{to_le_bytes, w32, w64}
use Rattle.std.specs.Global.{Vec}
use Rattle.std.proofs.lemmas.List.{append-nil, take_all}
use Rattle.std.proofs.lemmas.Grind.{flat_map-append}
use Rattle.cp_frame.specs.declared.mode.Mode.TheVariants as modes
use Rattle.cp_frame.specs.Framed.{spelled, sizes_of, table}
use Rattle.cp_frame.specs.Frame.{IsWritten, IsWrittenAfter, padded_table}
use Rattle.cp_packed.specs.Packed.{Spelt}
use Rattle.cp_packed.specs.Packing.{PutsSpelt, Appends}
use Rattle.cp_words.specs.Segments.{words_of}
use Rattle.cp_packed.specs.Words.{words_in, AreBytes, bytes_of}
use Rattle.cp_frame.proofs.Numbers.{length_spelled, bytes_of_word}
use Rattle.cp_packed.proofs.Bytes.{words_in_is}
use Rattle.cp_frame.proofs.Framing.{length_sizes}
use Rattle.cp_frame.proofs.Opened.{next_list}
use Rattle.cp_frame.proofs.Whole.{length_padding}
use Rattle.cp_packed.proofs.Unpacks.{byte_at}
use Rattle.cp_frame.proofs.Certain.{are-append}

all_zip-push : (S : List (List ℕ)) (T : List (List ℕ)) (s t : List ℕ) → AllZip Spelt S T → Spelt s t → AllZip Spelt (S ++ s ∷ []) (T ++ t ∷ [])
all_zip-push [] [] s t h k = (k, tt)
all_zip-push [] (y ∷ T) s t h k = absurd h
all_zip-push (x ∷ S) [] s t h k = absurd h
all_zip-push (x ∷ S) (y ∷ T) s t h k = (h.0, all_zip-push S T s t h.1 k)

-- After some bytes the table and some segments were written.
pub record WritesPieces (start head : List ℕ) (S : List (List ℕ)) (out : List ℕ) : Type 0 where
  pub front : List ℕ
  pub pieces : List (List ℕ)
  pub first : Spelt head front
  pub each : AllZip Spelt S pieces
  pub text : out ≡ start ++ (front ++ flat_map (λ piece. piece) pieces)

pub pieces_none : (head start old out : List ℕ) → old ≡ start → PutsSpelt old out head → WritesPieces start head [] out
pieces_none head start old out e h =
    record {
      front = h.0;
      pieces = [];
      first = h.1;
      each = tt;
      text = h.2 ∙ ap (λ (b : List ℕ). b ++ h.0) e ∙ ap (λ (b : List ℕ). start ++ b) (sym (append-nil h.0));
    }

pub pieces_more : (start head : List ℕ) (vs : List (Vec ℕ)) (i : ℕ) (v : Vec ℕ) (words old out : List ℕ) → i < length vs → v ≡ get_or vs i v → words ≡ v.items
    → WritesPieces start head (take i (words_of vs)) old → PutsSpelt old out words → WritesPieces start head (take (i + 1) (words_of vs)) out
pieces_more start head vs i v words old out l r e h p =
    let piece : Spelt v.items p.0 = subst (λ (ws : List ℕ). Spelt ws p.0) e p.1 in
    let before : List ℕ = flat_map (λ (piece : List ℕ). piece) h.pieces in
    record {
      front = h.front;
      pieces = h.pieces ++ p.0 ∷ [];
      first = h.first;
      each = subst (λ (S : List (List ℕ)). AllZip Spelt S (h.pieces ++ p.0 ∷ [])) (sym (next_list vs i v l r)) (all_zip-push (take i (words_of vs)) h.pieces v.items p.0 h.each piece);
      text =
          p.2 ∙ ap (λ (b : List ℕ). b ++ p.0) h.text ∙ append_assoc start (h.front ++ before) p.0
          ∙ ap (λ (b : List ℕ). start ++ b) (
          append_assoc h.front before p.0
          ∙ ap (λ (b : List ℕ). h.front ++ (before ++ b)) (sym (append-nil p.0)) ∙ ap (λ (b : List ℕ). h.front ++ b) (sym (flat_map-append (λ (piece : List ℕ). piece) h.pieces (p.0 ∷ []))));
    }

pub pieces_all : (start head : List ℕ) (S : List (List ℕ)) (i : ℕ) (out : List ℕ) → padded_table S ≡ bytes_of head → length S ≤ i → WritesPieces start head (take i S) out
    → IsWrittenAfter modes.Packed S start out
pieces_all start head S i out e l h = (
  h.front ++ flat_map (λ piece. piece) h.pieces,
  h.text,
  (head, h.front, h.pieces, e, h.first, subst (λ (T : List (List ℕ)). AllZip Spelt T h.pieces) (take_all i S l) h.each, refl),
)

-- a frame after nothing is the frame
pub written_alone : (S : List (List ℕ)) (out : List ℕ) → IsWrittenAfter modes.Packed S [] out → IsWritten modes.Packed S out
written_alone S out h = subst (λ (b : List ℕ). IsWritten modes.Packed S b) (sym h.1) h.2

-- bytes that were appended after what was written
pub pieces_grown : (start head : List ℕ) (S : List (List ℕ)) (old new : List ℕ) → WritesPieces start head S old → Appends old new → Appends start new
pieces_grown start head S old new h k =
    let written : List ℕ = h.front ++ flat_map (λ (piece : List ℕ). piece) h.pieces in
    (written ++ k.0, k.1 ∙ ap (λ (b : List ℕ). b ++ k.0) h.text ∙ append_assoc start written k.0)

-- what holds anyhow holds at an `Err`
pub on_err_too : {T E P : Type 0} (r : Result T E) → P → OnErr r P
on_err_too (Ok x) p = tt
on_err_too (Err e) p = p

-- the padded table is whole words
pub length_table : (S : List (List ℕ)) → 0 < length S → length (padded_table S) ≡ 8 * (length S / 2 + 1)
length_table S h =
    omega (arith, length-append (table S) (if length S % 2 == 0 then spelled (0 ∷ []) else []), length_spelled ((length S - 1) ∷ sizes_of S), length_sizes S, length_padding (length S), h)

pub table_in_words : (S : List (List ℕ)) (b : List ℕ) → 0 < length S → b ≡ padded_table S → ((i : ℕ) → get_or b i 0 < 256) → padded_table S ≡ bytes_of (words_in b)
table_in_words S b h e k =
    let long : length b ≡ 8 * (length S / 2 + 1) = ap (λ (c : List ℕ). length c) e ∙ length_table S h in
    sym e ∙ sym (words_in_is (length S / 2 + 1) b long k).2

-- its bytes are bytes
spelled_are : (ns : List ℕ) → AreBytes (spelled ns)
spelled_are [] = tt
spelled_are (n ∷ ns) = are-append (to_le_bytes w32 n) (spelled ns) (omega arith, (omega arith, (omega arith, (omega arith, tt)))) (spelled_are ns)

padding_are : (b : Bool) → AreBytes (if b then spelled (0 ∷ []) else [])
padding_are true = spelled_are (0 ∷ [])
padding_are false = tt

pub padded_small : (S : List (List ℕ)) (i : ℕ) → get_or (padded_table S) i 0 < 256
padded_small S i = byte_at (padded_table S) (are-append (table S) (if length S % 2 == 0 then spelled (0 ∷ []) else []) (spelled_are ((length S - 1) ∷ sizes_of S)) (padding_are (length S % 2 == 0))) i

-- the table of one segment
pub one_table : (vs : List (Vec ℕ)) (v : Vec ℕ) (n w : ℕ) → length vs ≡ 1 → v ≡ get_or vs 0 v → n ≡ length v.items → n < 2 ^ 32 → w ≡ n * 2 ^ 32 → padded_table (words_of vs) ≡ bytes_of (w ∷ [])
one_table [] v n w h r e k m = absurd (omega (arith, h))
one_table (x ∷ y ∷ vs) v n w h r e k m = absurd (omega (arith, h))
one_table (x ∷ []) v n w h r e k m =
    let size : length x.items ≡ w / 2 ^ 32 = ap (λ (u : Vec ℕ). length u.items) (sym r) ∙ sym e ∙ omega (arith, m, k) in
    let none : 0 ≡ w % 2 ^ 32 = omega (arith, m, k) in
    append-nil (spelled (0 ∷ length x.items ∷ []))
    ∙ ap (λ (b : List ℕ). to_le_bytes w32 0 ++ b) (append-nil (to_le_bytes w32 (length x.items)))
    ∙ ap (λ (i : ℕ). to_le_bytes w32 0 ++ to_le_bytes w32 i) size
    ∙ ap (λ (i : ℕ). to_le_bytes w32 i ++ to_le_bytes w32 (w / 2 ^ 32)) none
    ∙ sym (bytes_of_word w (omega (arith, m, k)))
    ∙ sym (append-nil (to_le_bytes w64 w))
