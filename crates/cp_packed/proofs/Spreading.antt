-- A word from its tag and the bytes that are written, place by place.
use Rattle.std.proofs.Common.{◌≡◌, ℕ, zero, suc, ◌+◌, ◌/◌, ◌%◌, ◌<◌, List, [], ◌∷◌, ◌++◌, length, replicate, take, set, get_or, refl, sym, ◌∙◌, ap, append_assoc, length-append, arith}
use Rattle.std.specs.Int.{from_le_bytes, w64}
use Rattle.std.proofs.lemmas.List.{append-nil, take_at, set_at}
use Rattle.cp_packed.specs.Unpacking.{laid_by}
use Rattle.cp_packed.proofs.Unpacks.{laid_even, laid_odd}

-- The bytes before a place stand, and none after it yet.
pub record Spreads (tag : ℕ) (written bytes : List ℕ) (bits : ℕ) (left : List ℕ) (place : ℕ) : Type 0 where
  pub front : List ℕ
  pub after : ℕ
  pub long : length front ≡ place
  pub all : place + after ≡ 8
  pub stand : bytes ≡ front ++ replicate after 0
  pub are : laid_by 8 tag written ≡ front ++ laid_by after bits left

pub spreads_none : (tag : ℕ) (written : List ℕ) → Spreads tag written (0 ∷ 0 ∷ 0 ∷ 0 ∷ 0 ∷ 0 ∷ 0 ∷ 0 ∷ []) tag written 0
spreads_none tag written = record { front = []; after = 8; long = refl; all = refl; stand = refl; are = refl }

spread_by : (tag : ℕ) (written bytes : List ℕ) (bits : ℕ) (left : List ℕ) (place x n : ℕ) (front more : List ℕ) → length front ≡ place → place + suc n ≡ 8 → bytes ≡ front ++ x ∷ replicate n 0
    → laid_by 8 tag written ≡ front ++ x ∷ laid_by n bits left → Spreads tag written bytes bits left (place + 1)
spread_by tag written bytes bits left place x n front more l a s e = record {
  front = front ++ x ∷ [];
  after = n;
  long = omega (arith, l, length-append front (x ∷ []));
  all = omega (arith, a);
  stand = s ∙ sym (append_assoc front (x ∷ []) (replicate n 0));
  are = e ∙ sym (append_assoc front (x ∷ []) (laid_by n bits left));
}

even_by : (tag : ℕ) (written bytes : List ℕ) (bits : ℕ) (left : List ℕ) (place n : ℕ) (front : List ℕ) → length front ≡ place → place + n ≡ 8 → bytes ≡ front ++ replicate n 0
    → laid_by 8 tag written ≡ front ++ laid_by n bits left → place < 8 → bits % 2 ≡ 0 → Spreads tag written bytes (bits / 2) left (place + 1)
even_by tag written bytes bits left place zero front l a s e h k = absurd (omega (arith, a, h))
even_by tag written bytes bits left place (suc n) front l a s e h k =
    spread_by tag written bytes (bits / 2) left place 0 n front [] l a s (e ∙ ap (λ (b : List ℕ). front ++ b) (laid_even n bits left k))

pub spread_even : (tag : ℕ) (written bytes : List ℕ) (bits : ℕ) (left : List ℕ) (place : ℕ) → Spreads tag written bytes bits left place → place < 8 → bits % 2 ≡ 0
    → Spreads tag written bytes (bits / 2) left (place + 1)
spread_even tag written bytes bits left place h = even_by tag written bytes bits left place h.after h.front h.long h.all h.stand h.are

odd_by : (tag : ℕ) (written bytes : List ℕ) (bits : ℕ) (left : List ℕ) (place x n : ℕ) (front : List ℕ) → length front ≡ place → place + n ≡ 8 → bytes ≡ front ++ replicate n 0
    → laid_by 8 tag written ≡ front ++ laid_by n bits (x ∷ left) → place < 8 → bits % 2 ≡ 1 → Spreads tag written (set bytes place x) (bits / 2) left (place + 1)
odd_by tag written bytes bits left place x zero front l a s e h k = absurd (omega (arith, a, h))
odd_by tag written bytes bits left place x (suc n) front l a s e h k =
    spread_by tag written (set bytes place x) (bits / 2) left place x n front [] l a (ap (λ (b : List ℕ). set b place x) s ∙ set_at front 0 (replicate n 0) x place l)
    (e ∙ ap (λ (b : List ℕ). front ++ b) (laid_odd n bits (x ∷ left) k))

pub spread_odd : (tag : ℕ) (written bytes : List ℕ) (bits x : ℕ) (left : List ℕ) (place : ℕ) → Spreads tag written bytes bits (x ∷ left) place → place < 8 → bits % 2 ≡ 1
    → Spreads tag written (set bytes place x) (bits / 2) left (place + 1)
spread_odd tag written bytes bits x left place h = odd_by tag written bytes bits left place x h.after h.front h.long h.all h.stand h.are

zero_by : (tag : ℕ) (written bytes : List ℕ) (bits : ℕ) (left : List ℕ) (place n : ℕ) (front : List ℕ) → length front ≡ place → place + n ≡ 8 → bytes ≡ front ++ replicate n 0
    → laid_by 8 tag written ≡ front ++ laid_by n bits left → place < 8 → bits % 2 ≡ 0 → Spreads tag written (set bytes place 0) (bits / 2) left (place + 1)
zero_by tag written bytes bits left place zero front l a s e h k = absurd (omega (arith, a, h))
zero_by tag written bytes bits left place (suc n) front l a s e h k =
    spread_by tag written (set bytes place 0) (bits / 2) left place 0 n front [] l a (ap (λ (b : List ℕ). set b place 0) s ∙ set_at front 0 (replicate n 0) 0 place l)
    (e ∙ ap (λ (b : List ℕ). front ++ b) (laid_even n bits left k))

pub spread_zero : (tag : ℕ) (written bytes : List ℕ) (bits : ℕ) (left : List ℕ) (place : ℕ) → Spreads tag written bytes bits left place → place < 8 → bits % 2 ≡ 0
    → Spreads tag written (set bytes place 0) (bits / 2) left (place + 1)
spread_zero tag written bytes bits left place h = zero_by tag written bytes bits left place h.after h.front h.long h.all h.stand h.are

-- zeros after a word's bytes change nothing
padded_at : (front : List ℕ) (n i : ℕ) → get_or (front ++ replicate n 0) i 0 ≡ get_or front i 0
padded_at [] zero i = refl
padded_at [] (suc n) zero = refl
padded_at [] (suc n) (suc i) = padded_at [] n i
padded_at (x ∷ front) n zero = refl
padded_at (x ∷ front) n (suc i) = padded_at front n i

pub padded_word : (front : List ℕ) (n : ℕ) → from_le_bytes w64 (front ++ replicate n 0) ≡ from_le_bytes w64 front
padded_word front n =
    omega (arith, padded_at front n 0, padded_at front n 1, padded_at front n 2, padded_at front n 3, padded_at front n 4, padded_at front n 5, padded_at front n 6, padded_at front n 7)

-- what stands where the bytes end
pub record Spread (tag : ℕ) (written bytes : List ℕ) (place : ℕ) : Type 0 where
  pub known : take place bytes ≡ laid_by 8 tag written
  pub word : from_le_bytes w64 bytes ≡ from_le_bytes w64 (laid_by 8 tag written)
  pub count : place ≡ length (laid_by 8 tag written)

spread_here : (tag : ℕ) (written bytes front : List ℕ) (place n : ℕ) → length front ≡ place → bytes ≡ front ++ replicate n 0 → laid_by 8 tag written ≡ front → Spread tag written bytes place
spread_here tag written bytes front place n l s e = record {
  known = ap (λ (b : List ℕ). take place b) s ∙ take_at front (replicate n 0) place l ∙ sym e;
  word = ap (λ (b : List ℕ). from_le_bytes w64 b) s ∙ padded_word front n ∙ ap (λ (b : List ℕ). from_le_bytes w64 b) (sym e);
  count = sym l ∙ ap (λ (b : List ℕ). length b) (sym e);
}

none_left : (tag : ℕ) (written bytes : List ℕ) (bits place n : ℕ) (front : List ℕ) → length front ≡ place → place + n ≡ 8 → bytes ≡ front ++ replicate n 0
    → laid_by 8 tag written ≡ front ++ laid_by n bits [] → place < 8 → bits % 2 ≡ 1 → Spread tag written bytes place
none_left tag written bytes bits place zero front l a s e h k = absurd (omega (arith, a, h))
none_left tag written bytes bits place (suc n) front l a s e h k =
    spread_here tag written bytes front place (suc n) l s (e ∙ ap (λ (b : List ℕ). front ++ b) (laid_odd n bits [] k) ∙ append-nil front)

pub spread_stops : (tag : ℕ) (written bytes : List ℕ) (bits place : ℕ) → Spreads tag written bytes bits [] place → place < 8 → bits % 2 ≡ 1 → Spread tag written bytes place
spread_stops tag written bytes bits place h = none_left tag written bytes bits place h.after h.front h.long h.all h.stand h.are

whole_by : (tag : ℕ) (written bytes : List ℕ) (bits : ℕ) (left front : List ℕ) (n : ℕ) → length front ≡ 8 → n ≡ 0 → bytes ≡ front ++ replicate n 0 → laid_by 8 tag written ≡ front ++ laid_by n bits left → Spread tag written bytes 8
unfolding laid_by
whole_by tag written bytes bits left front zero l z s e = spread_here tag written bytes front 8 0 l s (e ∙ append-nil front)
whole_by tag written bytes bits left front (suc n) l z s e = absurd (omega (arith, z))

pub spread_whole : (tag : ℕ) (written bytes : List ℕ) (bits : ℕ) (left : List ℕ) (place : ℕ) → Spreads tag written bytes bits left place → place ≡ 8 → Spread tag written bytes 8
spread_whole tag written bytes bits left place h e = whole_by tag written bytes bits left h.front h.after (h.long ∙ e) (omega (arith, h.all, e)) h.stand h.are
