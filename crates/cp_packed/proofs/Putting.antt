-- Groups written over the front of a block: what one puts, and one after others.
use Rattle.std.proofs.Common.{◌≡◌, ◌⊎◌, inl, inr, ℕ, suc, ◌+◌, ◌-◌, ◌*◌, ◌<◌, ◌≤◌, List, [], ◌∷◌, ◌++◌, length, take, slice_set, Option, Some, None, refl, sym, ◌∙◌, ap, subst, append_assoc, arith}
use Rattle.std.proofs.lemmas.List.{length-take-le, length-set, take-append-le, take_more_set}
use Rattle.std.proofs.lemmas.Slice.{take-put_mid}
use Rattle.std.proofs.Math.Seq.{take-append-add, take-take}
use borrow.Rule.Slice.PartMut.{put_mid, post_of, mid_len, same_len_mid}
use Rattle.cp_packed.specs.Packed.{written}
use Rattle.cp_packed.specs.Packing.{PutsFront, PutsGroup, HasRoom}
use Rattle.cp_packed.proofs.Sparing.{front_none, front_more, front_both}
use Rattle.cp_packed.proofs.Blocks.{tail_put}

-- the same after other bytes
pub front_after : (old new words back : List ℕ) → PutsFront [] new words back → PutsFront old (old ++ new) words back
front_after old new words back h = record { front = h.front; text = ap (λ (b : List ℕ). old ++ b) h.text; goes = h.goes }

-- the front of a list and what follows it
taken_on : (n m : ℕ) (xs ys : List ℕ) → n ≤ length xs → take (n + m) (take n xs ++ ys) ≡ take n xs ++ take m ys
taken_on n m xs ys h = ap (λ (k : ℕ). take (k + m) (take n xs ++ ys)) (sym (length-take-le n xs h)) ∙ take-append-add (take n xs) ys m

pub front_joins : (filled count : ℕ) (block part words left back : List ℕ) → filled ≤ length block → PutsFront [] (take filled block) words left → PutsFront [] (take count part) left back
    → PutsFront [] (take (filled + count) (put_mid filled (length block - filled) block part)) words back
front_joins filled count block part words left back fits h k =
    let text : take (filled + count) (put_mid filled (length block - filled) block part) ≡ take filled block ++ take count part =
    ap (λ (b : List ℕ). take (filled + count) b) (tail_put filled block part fits) ∙ taken_on filled count block part fits in
    subst (λ (b : List ℕ). PutsFront [] b words back) (sym text)
    (front_both [] (take filled block) (take filled block ++ take count part) words left back h (front_after (take filled block) (take count part) left back k))

-- one group
pub front_one : (new words back : List ℕ) → PutsGroup [] new words back → PutsFront [] new words back
front_one new words back g = front_more [] [] new words words back (front_none [] words) g

-- a block after what was written before
pub front_kept : (start filled : ℕ) (old part new words back : List ℕ) → start ≡ length old → PutsFront [] (take filled part) words back → new ≡ take (start + filled) (old ++ part) → PutsFront old new words back
front_kept start filled old part new words back s h e =
    subst (λ (b : List ℕ). PutsFront old b words back) (sym (e ∙ ap (λ (n : ℕ). take (n + filled) (old ++ part)) s ∙ take-append-add old part filled)) (front_after old (take filled part) words back h)

-- room that is left for groups
pub room_left : (room words most filled left : ℕ) → HasRoom room words (words - most + 320) → filled + 10 * left ≤ 10 * words → most < left → HasRoom (room - filled) left 321
room_left room words most filled left (inl h) f m = inl (omega (arith, h, f))
room_left room words most filled left (inr h) f m = inr (omega (arith, h, f, m))

pub room_within : (room words most filled left : ℕ) → HasRoom room words (words - most + 320) → filled + 10 * left ≤ 10 * words → most < left → filled ≤ room
room_within room words most filled left (inl h) f m = omega (arith, h, f)
room_within room words most filled left (inr h) f m = omega (arith, h, f, m)

pub room_made : (words most count : ℕ) → (count ≡ words) ⊎ (count ≡ 1344) → words ≤ most + 1024 → HasRoom (10 * count) words (words - most + 320)
room_made words most count (inl e) f = inl (omega (arith, e))
room_made words most count (inr e) f = inr (omega (arith, e, f))

-- two bytes, and a tag with the bytes of a word
pub two_put : (more : ℕ) (block : List ℕ) → 2 ≤ length block → take 2 (slice_set (slice_set block 0 0) 1 more) ≡ 0 ∷ more ∷ []
two_put more [] h = absurd (omega (arith, h))
two_put more (x ∷ []) h = absurd (omega (arith, h))
two_put more (x ∷ y ∷ block) h = refl

tag_and : (tag : ℕ) (block bytes : List ℕ) → 9 ≤ length block → length bytes ≡ 8 → take 9 (put_mid 1 8 (slice_set block 0 tag) bytes) ≡ tag ∷ bytes
tag_and tag [] bytes h e = absurd (omega (arith, h))
tag_and tag (x ∷ block) bytes h e = take-put_mid 1 8 (tag ∷ block) bytes 9 (omega (arith, e)) (omega arith)

-- the bytes that are written are no more than all
pub few_written : (bytes : List (Option ℕ)) → length (written bytes) ≤ length bytes
few_written [] = omega arith
few_written (None ∷ bytes) = omega (arith, few_written bytes)
few_written (Some b ∷ bytes) = omega (arith, few_written bytes)

pub sparse_put : (mask n : ℕ) (block part lanes some : List ℕ) → 9 ≤ length block → length part ≡ 8 → part ≡ take 8 lanes → n ≡ length some → n ≤ 8 → take (length some) lanes ≡ some
    → take (1 + n) (put_mid 1 8 (slice_set block 0 mask) part) ≡ mask ∷ some
sparse_put mask n [] part lanes some h l p c few k = absurd (omega (arith, h))
sparse_put mask n (x ∷ block) part lanes some h l p c few k =
    let next : 1 + n ≡ suc n = omega arith in
    let after : List ℕ = post_of 1 8 (mask ∷ block) in
    let inner : take n (part ++ after) ≡ some =
    take-append-le n part after (omega (arith, l, few)) ∙ ap (λ (b : List ℕ). take n b) p ∙ take-take n 8 lanes few ∙ ap (λ (m : ℕ). take m lanes) c ∙ k in
    ap (λ (m : ℕ). take m (put_mid 1 8 (mask ∷ block) part)) next ∙ ap (λ (b : List ℕ). mask ∷ b) inner

-- a word, and others after it, as they are
pub raw_long : (count : ℕ) (block word : List ℕ) → 10 ≤ length block → length word ≡ 8 → length (slice_set (put_mid 1 8 (slice_set block 0 255) word) 9 count) ≡ length block
raw_long count block word h w =
    let first : List ℕ = slice_set block 0 255 in
    let long : length first ≡ length block = length-set block 0 255 in
    length-set (put_mid 1 8 first word) 9 count ∙ same_len_mid 1 8 first word (w ∙ sym (mid_len 1 9 first (omega (arith, h, long)))) ∙ long

pub raw_put : (count : ℕ) (block word run : List ℕ) → 10 + 8 * count ≤ length block → length word ≡ 8 → length run ≡ 8 * count
    → take (10 + 8 * count) (put_mid 10 (10 + 8 * count - 10) (slice_set (put_mid 1 8 (slice_set block 0 255) word) 9 count) run) ≡ 255 ∷ (word ++ (count ∷ run))
raw_put count block word run h w r =
    let head : List ℕ = put_mid 1 8 (slice_set block 0 255) word in
    let whole : List ℕ = slice_set head 9 count in
    let whole_long : length whole ≡ length block = raw_long count block word (omega (arith, h)) w in
    let size : length head ≡ length block = sym (length-set head 9 count) ∙ whole_long in
    take-put_mid 10 (10 + 8 * count - 10) whole run (10 + 8 * count) (omega (arith, r)) (omega (arith, h, whole_long))
    ∙ ap (λ (b : List ℕ). b ++ run) (take_more_set head 9 count (omega (arith, h, size)) ∙ ap (λ (b : List ℕ). b ++ count ∷ []) (tag_and 255 block word (omega (arith, h)) w))
    ∙ append_assoc (255 ∷ word) (count ∷ []) run
