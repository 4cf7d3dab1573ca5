-- Groups taken over zeros: what one brings, and one after others.
use Rattle.std.proofs.Common.{◌≡◌, ℕ, zero, suc, ◌+◌, ◌-◌, ◌<◌, ◌≤◌, List, [], ◌∷◌, ◌++◌, length, take, drop, slice_set, replicate, refl, sym, ◌∙◌, ap, subst, append_assoc, length-append, arith}
use Rattle.std.proofs.lemmas.List.{append-nil, replicate-append-replicate, drop_all}
use borrow.Rule.Slice.PartMut.{put_mid, post_of, Post-is}
use Rattle.std.proofs.Math.Seq.{drop-append_seam, take-append_seam}
use Rattle.cp_packed.specs.Words.{AreWords}
use Rattle.cp_packed.specs.Decoding.{TakesHeader}
use Rattle.cp_packed.specs.Groups.{TakesGroups, FillsFront}
use Rattle.cp_packed.proofs.Bulks.{takes_none, takes_both, takes_header}

-- zeros, some of which stand for words
pub zeros_part : (room : List ℕ) (most count : ℕ) → room ≡ replicate most 0 → count ≤ most → room ≡ replicate count 0 ++ replicate (most - count) 0
zeros_part room most count h k =
    let both : most ≡ count + (most - count) = omega (arith, k) in h ∙ ap (λ (n : ℕ). replicate n 0) both ∙ sym (replicate-append-replicate count (most - count) 0)

pub first_set : (room : List ℕ) (most word : ℕ) → 0 < most → room ≡ replicate most 0 → slice_set room 0 word ≡ word ∷ replicate (most - 1) 0
first_set room zero word h e = absurd (omega (arith, h))
first_set room (suc n) word h e =
    let less : suc n - 1 ≡ n = omega arith in ap (λ (ws : List ℕ). slice_set ws 0 word) e ∙ ap (λ (m : ℕ). word ∷ replicate m 0) (sym less)

pub fills_header : (most filled : ℕ) (left new words back : List ℕ) → TakesHeader [] left words 0 back → AreWords words → length words ≡ filled → filled ≤ most → new ≡ words ++ replicate (most - filled) 0
    → FillsFront most left new filled back
fills_header most filled left new words back h are e fits p = record {
  words = words;
  takes = takes_header most [] words words left back 0 0 refl h refl are (omega arith) (omega (arith, fits, e)) (λ n. refl);
  count = e;
  puts = p;
}

pub fills_none : (most : ℕ) (left room : List ℕ) → 0 < most → room ≡ replicate most 0 → FillsFront most left room 0 left
fills_none most left room h e =
    let all : most ≡ most - 0 = omega arith in record { words = []; takes = takes_none most [] left 0 h (omega arith); count = refl; puts = e ∙ ap (λ (n : ℕ). replicate n 0) all }

pub takes_after : (most room : ℕ) (old left words back : List ℕ) → TakesGroups room [] 0 left words 0 back → length old + room ≤ most → TakesGroups most old 0 left (old ++ words) 0 back
takes_after most room old left words back h fits = record {
  front = h.front;
  whole = h.whole;
  are_words = h.are_words;
  puts = ap (λ (ws : List ℕ). old ++ ws) h.puts;
  open_then = h.open_then;
  few = h.few;
  within = omega (arith, fits, h.within, length-append old words);
  ends = λ e. refl;
}

-- what is still zero after the words
pub zeros_after : (most filled : ℕ) (left new back : List ℕ) → FillsFront most left new filled back → drop filled new ≡ replicate (most - filled) 0
zeros_after most filled left new back h =
    ap (λ (n : ℕ). drop n new) (sym h.count) ∙ ap (λ (ws : List ℕ). drop (length h.words) ws) h.puts ∙ drop-append_seam h.words (replicate (most - filled) 0)

pub fills_both : (most filled count : ℕ) (left new middle room back : List ℕ) → FillsFront most left new filled middle → FillsFront (most - filled) middle room count back → filled ≤ most
    → FillsFront most left (take filled new ++ room) (filled + count) back
fills_both most filled count left new middle room back h k fits =
    let kept : take filled new ≡ h.words = ap (λ (n : ℕ). take n new) (sym h.count) ∙ ap (λ (ws : List ℕ). take (length h.words) ws) h.puts ∙ take-append_seam h.words (replicate (most - filled) 0) in
    let zeros : most - filled - count ≡ most - (filled + count) = omega arith in
    record {
      words = h.words ++ k.words;
      takes = takes_both most [] h.words (h.words ++ k.words) left middle back 0 0 0 h.takes (takes_after most (most - filled) h.words middle k.words back k.takes (omega (arith, fits, h.count)));
      count = length-append h.words k.words ∙ omega (arith, h.count, k.count);
      puts =
          ap (λ (ws : List ℕ). ws ++ room) kept ∙ ap (λ (ws : List ℕ). h.words ++ ws) k.puts
          ∙ sym (append_assoc h.words k.words (replicate (most - filled - count) 0)) ∙ ap (λ (n : ℕ). (h.words ++ k.words) ++ replicate n 0) zeros;
    }

-- the last elements put anew
pub tail_put : (n : ℕ) (xs ys : List ℕ) → n ≤ length xs → put_mid n (length xs - n) xs ys ≡ take n xs ++ ys
tail_put n xs ys h =
    let none : post_of n (length xs - n) xs ≡ [] = Post-is n (length xs) xs h ∙ drop_all (length xs) xs (omega arith) in
    ap (λ (zs : List ℕ). take n xs ++ (ys ++ zs)) none ∙ ap (λ (zs : List ℕ). take n xs ++ zs) (append-nil ys)

-- groups taken after words, into zeros that were made for them
pub takes_block : (most room start filled : ℕ) (old left part new back : List ℕ) → start ≡ length old → FillsFront room left part filled back → length old + room ≤ most → new ≡ take (start + filled) (old ++ part)
    → TakesGroups most old 0 left new 0 back
takes_block most room start filled old left part new back s h fits p =
    let zeros : List ℕ = replicate (room - filled) 0 in
    let all : old ++ part ≡ (old ++ h.words) ++ zeros = ap (λ (ws : List ℕ). old ++ ws) h.puts ∙ sym (append_assoc old h.words zeros) in
    let many : start + filled ≡ length (old ++ h.words) = omega (arith, s, h.count, length-append old h.words) in
    let same : new ≡ old ++ h.words =
    p ∙ ap (λ (ws : List ℕ). take (start + filled) ws) all ∙ ap (λ (n : ℕ). take n ((old ++ h.words) ++ zeros)) many ∙ take-append_seam (old ++ h.words) zeros in
    subst (λ (ws : List ℕ). TakesGroups most old 0 left ws 0 back) (sym same) (takes_after most room old left h.words back h.takes fits)
