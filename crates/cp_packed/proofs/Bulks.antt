-- Groups taken at once: what they bring, and where they leave room.
use Rattle.std.proofs.Common.{◌≡◌, ℕ, suc, ◌+◌, ◌*◌, ◌^◌, ◌<◌, ◌≤◌, List, [], ◌∷◌, ◌++◌, length, get_or, refl, sym, ◌∙◌, ap, subst, append_assoc, length-append, arith}
use Rattle.std.proofs.lemmas.List.{append-nil, append_cancel_left}
use Rattle.cp_packed.specs.Words.{AreWords, bytes_of, words_in}
use Rattle.cp_packed.specs.Unpacking.{Pending, nothing, after, given}
use Rattle.cp_packed.specs.Decoding.{TakesHeader}
use Rattle.cp_packed.specs.Groups.{running, TakesGroups}
use Rattle.cp_packed.proofs.Bytes.{all-append, words_in_is}
use Rattle.cp_packed.proofs.Opens.{Brings, brings_both, after-append, given-append}
use Rattle.cp_packed.proofs.Unpacks.{brings_word}

pub takes_none : (most : ℕ) (old left : List ℕ) (run : ℕ) → length old < most → run < 256 → TakesGroups most old run left old run left
takes_none most old left run h k = record {
  front = [];
  whole = refl;
  are_words = tt;
  puts = sym (append-nil old);
  open_then = refl;
  few = k;
  within = omega (arith, h);
  ends = λ e. absurd (omega (arith, e, h));
}

-- a front, and one after it
pub takes_both : (most : ℕ) (old mid new left middle back : List ℕ) (run further next : ℕ) → TakesGroups most old run left mid further middle → TakesGroups most mid further middle new next back
    → TakesGroups most old run left new next back
takes_both most old mid new left middle back run further next h k =
    let words = given-append (running run) h.front k.front ∙ ap (λ (p : Pending). given (running run) h.front ++ given p k.front) h.open_then in
    record {
      front = h.front ++ k.front;
      whole = h.whole ∙ ap (λ (b : List ℕ). h.front ++ b) k.whole ∙ sym (append_assoc h.front k.front back);
      are_words = subst (λ (ws : List ℕ). AreWords ws) (sym words) (all-append (λ w. w < 2 ^ 64) (given (running run) h.front) (given (running further) k.front) h.are_words k.are_words);
      puts =
          k.puts ∙ ap (λ (ws : List ℕ). ws ++ given (running further) k.front) h.puts ∙ append_assoc old (given (running run) h.front) (given (running further) k.front)
          ∙ ap (λ (ws : List ℕ). old ++ ws) (sym words);
      open_then = after-append (running run) h.front k.front ∙ ap (λ (p : Pending). after p k.front) h.open_then ∙ k.open_then;
      few = k.few;
      within = k.within;
      ends = k.ends;
    }

-- the first words of a raw run
brings_some : (ws : List ℕ) (more : ℕ) → AreWords ws → Brings (running (length ws + more)) (bytes_of ws) ws (running more)
brings_some [] more h = let none : 0 + more ≡ more = omega arith in record { words = refl; open_then = ap (λ (n : ℕ). running n) none }
brings_some (w ∷ ws) more h =
    let count : suc (length ws) + more ≡ suc (length ws + more) = omega arith in
    subst (λ (n : ℕ). Brings (running n) (bytes_of (w ∷ ws)) (w ∷ ws) (running more)) (sym count)
    (brings_both (running (suc (length ws + more))) (running (length ws + more)) (running more) _ (bytes_of ws) (w ∷ []) ws (brings_word (length ws + more) w h.0) (brings_some ws more h.1))

pub takes_run : (most : ℕ) (old new left front back : List ℕ) (run count next : ℕ) → length front ≡ 8 * count → ((i : ℕ) → get_or front i 0 < 256) → left ≡ front ++ back → new ≡ old ++ words_in front
    → run ≡ count + next → run < 256 → length old + count ≤ most → (length old + count ≡ most → next ≡ 0) → TakesGroups most old run left new next back
takes_run most old new left front back run count next l small w p r few room ends =
    let some = words_in_is count front l small in
    let runs : run ≡ length (words_in front) + next = omega (arith, r, some.0) in
    let brings : Brings (running run) front (words_in front) (running next) =
    subst (λ (n : ℕ). Brings (running n) front (words_in front) (running next)) (sym runs) (subst (λ (b : List ℕ). Brings (running (length (words_in front) + next)) b (words_in front) (running next)) some.2 (brings_some (words_in front) next some.1)) in
    record {
      front = front;
      whole = w;
      are_words = subst (λ (ws : List ℕ). AreWords ws) (sym brings.words) some.1;
      puts = p ∙ ap (λ (ws : List ℕ). old ++ ws) (sym brings.words);
      open_then = brings.open_then;
      few = omega (arith, few, r);
      within = omega (arith, room, ap (λ (ws : List ℕ). length ws) p, length-append old (words_in front), some.0);
      ends = λ e. ends (omega (arith, e, ap (λ (ws : List ℕ). length ws) p, length-append old (words_in front), some.0));
    }

-- the first bytes of a group
pub takes_header : (most : ℕ) (old new words left back : List ℕ) (run next : ℕ) → run ≡ 0 → TakesHeader old left new next back → new ≡ old ++ words → AreWords words → next < 256 → length old + length words ≤ most
    → (length old + length words ≡ most → next ≡ 0) → TakesGroups most old run left new next back
takes_header most old new words left back run next z h p are few room ends =
    let same : words ≡ given nothing h.front = append_cancel_left old words (given nothing h.front) (sym p ∙ h.brings) in
    let none : nothing ≡ running run = ap (λ (n : ℕ). running n) (sym z) in
    record {
      front = h.front;
      whole = h.whole;
      are_words = subst (λ (q : Pending). AreWords (given q h.front)) none (subst (λ (ws : List ℕ). AreWords ws) same are);
      puts = h.brings ∙ ap (λ (q : Pending). old ++ given q h.front) none;
      open_then = ap (λ (q : Pending). after q h.front) (sym none) ∙ h.open_then;
      few = few;
      within = omega (arith, room, ap (λ (ws : List ℕ). length ws) p, length-append old words);
      ends = λ e. ends (omega (arith, e, ap (λ (ws : List ℕ). length ws) p, length-append old words));
    }

-- where no byte was taken, nothing is left of the front
pub takes_shorter : (most : ℕ) (old new left back : List ℕ) (run next : ℕ) → TakesGroups most old run left new next back → (length back ≡ length left → ⊥) → length back < length left
takes_shorter most old new left back run next h k = omega (arith, k, ap (λ (b : List ℕ). length b) h.whole, length-append h.front back)
