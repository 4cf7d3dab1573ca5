-- Packed words read group by group: what each step does.
use Rattle.std.proofs.Common.{◌≡◌, ℕ, zero, suc, ◌+◌, ◌-◌, ◌^◌, ◌<◌, List, [], ◌∷◌, ◌++◌, length, take, drop, get_or, replicate, refl, sym, ◌∙◌, ap, subst, append_assoc, arith}
use Rattle.std.specs.Int.{to_le_bytes, from_le_bytes, w64}
use Rattle.std.proofs.lemmas.List.{append-nil, nil_from_length}
use Rattle.cp_packed.specs.Words.{AreBytes}
use Rattle.cp_packed.specs.Packed.{Packed}
use Rattle.cp_packed.specs.Unpacking.{Pending, nothing, after, given, header_of, first_words, run_of, laid_by}
use Rattle.cp_packed.specs.Decoding.{Decodes, TakesHeader}
use Rattle.cp_packed.proofs.Opens.{Brings, brings_both, after-append, given-append, feeds_part, feeds_run}
use Rattle.cp_packed.proofs.Unpacks.{packed_brings, brings_tag, brings_header, brings_word, first_sparse}
use Rattle.cp_packed.proofs.Laying.{brings_these}
use Rattle.cp_packed.proofs.Bytes.{filled_up}

-- what follows a front, and what is open then
after_front : (bytes words left : List ℕ) (run : ℕ) → Decodes bytes words run left → after nothing bytes ≡ after (record { run = run; part = [] }) left
after_front bytes words left run d =
    ap (λ (b : List ℕ). after nothing b) d.whole ∙ after-append nothing d.front left ∙ ap (λ (p : Pending). after p left) d.open_then

further : (bytes words left front back ws : List ℕ) (run next : ℕ) → Decodes bytes words run left → left ≡ front ++ back → Brings (record { run = run; part = [] }) front ws (record { run = next; part = [] })
    → Decodes bytes (words ++ ws) next back
further bytes words left front back ws run next d e h = record {
  front = d.front ++ front;
  whole = d.whole ∙ ap (λ (b : List ℕ). d.front ++ b) e ∙ sym (append_assoc d.front front back);
  brings = ap (λ (us : List ℕ). us ++ ws) d.brings ∙ ap (λ (us : List ℕ). given nothing d.front ++ us) (sym h.words)
      ∙ ap (λ (p : Pending). given nothing d.front ++ given p front) (sym d.open_then) ∙ sym (given-append nothing d.front front);
  open_then = after-append nothing d.front front ∙ ap (λ (p : Pending). after p front) d.open_then ∙ h.open_then;
}

pub decodes_none : (bytes : List ℕ) → Decodes bytes [] 0 bytes
decodes_none bytes = record { front = []; whole = refl; brings = refl; open_then = refl }

pub decodes_header : (bytes words left new back : List ℕ) (run next : ℕ) → Decodes bytes words run left → run ≡ 0 → TakesHeader words left new next back → Decodes bytes new next back
decodes_header bytes words left new back run next d e h =
    subst (λ (ws : List ℕ). Decodes bytes ws next back) (sym h.brings)
    (further bytes words left h.front back (given nothing h.front) 0 next (subst (λ (n : ℕ). Decodes bytes words n left) e d) h.whole (record { words = refl; open_then = h.open_then }))

pub decodes_word : (bytes words left front back : List ℕ) (run word : ℕ) → Decodes bytes words run left → 0 < run → word < 2 ^ 64 → to_le_bytes w64 word ≡ front → left ≡ front ++ back
    → Decodes bytes (words ++ word ∷ []) (run - 1) back
decodes_word bytes words left front back zero word d h l w e = absurd (omega (arith, h))
decodes_word bytes words left front back (suc n) word d h l w e =
    let less : suc n - 1 ≡ n = omega arith in
    subst (λ (m : ℕ). Decodes bytes (words ++ word ∷ []) m back) (sym less)
    (further bytes words left (to_le_bytes w64 word) back (word ∷ []) (suc n) n d (e ∙ ap (λ (b : List ℕ). b ++ back) (sym w)) (brings_word n word l))

-- where bytes are missing, they pack nothing
pub packs_no_header : (bytes words left : List ℕ) (run : ℕ) → Decodes bytes words run left → run ≡ 0 → (after nothing left ≡ nothing → ⊥) → (ws : List ℕ) → Packed ws bytes → ⊥
packs_no_header bytes words left run d e n ws p =
    n (ap (λ (m : ℕ). let s : Pending = record { run = m; part = [] } in after s left) (sym e) ∙ sym (after_front bytes words left run d) ∙ (packed_brings ws bytes p).open_then)

pub packs_no_word : (bytes words left : List ℕ) (run : ℕ) → Decodes bytes words run left → 0 < run → length left < 8 → (ws : List ℕ) → Packed ws bytes → ⊥
packs_no_word bytes words left zero d h l ws p = omega (arith, h)
packs_no_word bytes words left (suc n) d h l ws p =
    omega (arith, ap (λ (s : Pending). s.run) (sym (feeds_run n [] left (omega (arith, l))).open_then ∙ sym (after_front bytes words left (suc n) d) ∙ (packed_brings ws bytes p).open_then))

pub packs_no_run : (bytes words left : List ℕ) (run : ℕ) → Decodes bytes words run left → length left ≡ 0 → 0 < run → (ws : List ℕ) → Packed ws bytes → ⊥
packs_no_run bytes words left run d e h ws p = packs_no_word bytes words left run d h (omega (arith, e)) ws p

pub packs_words : (bytes words left : List ℕ) (run : ℕ) → AreBytes bytes → Decodes bytes words run left → length left ≡ 0 → run ≡ 0 → Packed words bytes
packs_words bytes words left run are d e z =
    let none = nil_from_length left e in
    let all : bytes ≡ d.front = d.whole ∙ ap (λ (b : List ℕ). d.front ++ b) none ∙ append-nil d.front in
    brings_these words bytes are (record {
      words = ap (λ (b : List ℕ). given nothing b) all ∙ sym d.brings;
      open_then = ap (λ (b : List ℕ). after nothing b) all ∙ d.open_then ∙ ap (λ (m : ℕ). let s : Pending = record { run = m; part = [] } in s) z;
    })

-- the bytes before the further words of a raw run
pub header_missing : (left following : List ℕ) (tag : ℕ) → 0 < length left → tag ≡ get_or left 0 0 → following ≡ drop 1 left → suc (length following) < header_of tag → after nothing left ≡ nothing → ⊥
header_missing [] following tag h e b l k = omega (arith, h)
header_missing (t ∷ q) following tag h e b l k =
    let short : suc (length q) < header_of t = subst (λ (n : ℕ). suc (length q) < header_of n) e (subst (λ (r : List ℕ). suc (length r) < header_of tag) b l) in
    let open_then = (brings_both nothing (record { run = 0; part = t ∷ [] }) (record { run = 0; part = t ∷ q }) (t ∷ []) q [] [] (brings_tag t) (feeds_part t [] q (omega (arith, short)))).open_then in
    omega (arith, ap (λ (p : Pending). length p.part) (sym open_then ∙ k))

pub header_there : (old left new following bytes back : List ℕ) (tag run : ℕ) → 0 < length left → tag ≡ get_or left 0 0 → following ≡ drop 1 left → following ≡ bytes ++ back → suc (length bytes) ≡ header_of tag
    → new ≡ old ++ first_words tag bytes → run ≡ run_of tag bytes → TakesHeader old left new run back
header_there old [] new following bytes back tag run h e b s l w r = absurd (omega (arith, h))
header_there old (t ∷ q) new following bytes back tag run h e b s l w r =
    let brings = brings_header tag bytes l in
    record {
      front = tag ∷ bytes;
      whole = ap (λ (n : ℕ). n ∷ q) (sym e) ∙ ap (λ (c : List ℕ). tag ∷ c) (sym b ∙ s);
      brings = w ∙ ap (λ (us : List ℕ). old ++ us) (sym brings.words);
      open_then = brings.open_then ∙ ap (λ (n : ℕ). let p : Pending = record { run = n; part = [] } in p) (sym r);
    }

pub zeros_new : (old new bytes : List ℕ) (tag n : ℕ) → tag ≡ 0 → n ≡ length old + get_or bytes 0 0 + 1 → new ≡ take n old ++ replicate (n - length old) 0 → new ≡ old ++ first_words tag bytes
zeros_new old new bytes tag n z e h =
    h ∙ filled_up old n (suc (get_or bytes 0 0)) 0 (omega (arith, e)) ∙ ap (λ (t : ℕ). old ++ first_words t bytes) (sym z)

pub word_new : (old new bytes : List ℕ) (tag word : ℕ) → 0 < tag → word ≡ from_le_bytes w64 (laid_by 8 tag bytes) → new ≡ old ++ word ∷ [] → new ≡ old ++ first_words tag bytes
word_new old new bytes tag word z e h = h ∙ ap (λ (w : ℕ). old ++ w ∷ []) e ∙ ap (λ (ws : List ℕ). old ++ ws) (sym (first_sparse tag bytes z))

pub run_raw : (bytes : List ℕ) (tag : ℕ) → tag ≡ 255 → get_or bytes 8 0 ≡ run_of tag bytes
run_raw bytes tag e = ap (λ (t : ℕ). run_of t bytes) (sym e)
