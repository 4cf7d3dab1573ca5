-- Packed bytes that are unpacked within a limit.
use Rattle.std.proofs.Common.{◌≡◌, ◌⊎◌, inl, inr, ℕ, zero, ◌+◌, ◌*◌, ◌/◌, ◌<◌, ◌≤◌, List, [], ◌∷◌, ◌++◌, length, sym, ◌∙◌, ap, subst, append_assoc, length-append, arith}
use Rattle.std.proofs.lemmas.List.{append-nil, nil_from_length}
use Rattle.std.proofs.lemmas.Bool.{cases_eq}
use Rattle.cp_frame.specs.declared.fault.FrameFault.{FrameFault}
use Rattle.cp_frame.specs.declared.fault.FrameFault.TheVariants as faults
use Rattle.cp_packed.specs.Words.{AreBytes, bytes_of}
use Rattle.cp_frame.specs.Stream.{IsNotUnpackedFor}
use Rattle.cp_packed.specs.Unpacking.{Pending, IsPending, nothing, next, brought, after, given, laid, all_laid}
use Rattle.cp_frame.specs.Bulk.{TakesWithin}
use Rattle.cp_frame.proofs.Numbers.{length_bytes_of}
use Rattle.cp_packed.proofs.Opens.{Brings, after-append, given-append}
use Rattle.cp_packed.proofs.Unpacks.{packed_brings}
use Rattle.cp_packed.proofs.Laying.{pending_nothing, pending_after, laid_at_most}
use Rattle.cp_frame.proofs.Certain.{are_front, laid_is}

-- a front, and one after it
pub within_both : (limit : ℕ) (old mid new left middle back : List ℕ) (p q r : Pending) → TakesWithin limit old p left mid q middle → TakesWithin limit mid q middle new r back → TakesWithin limit old p left new r back
within_both limit old mid new left middle back p q r h k = record {
  front = h.front ++ k.front;
  whole = h.whole ∙ ap (λ (b : List ℕ). h.front ++ b) k.whole ∙ sym (append_assoc h.front k.front back);
  puts =
      k.puts ∙ ap (λ (ws : List ℕ). ws ++ given q k.front) h.puts ∙ append_assoc old (given p h.front) (given q k.front)
      ∙ ap (λ (s : Pending). old ++ (given p h.front ++ given s k.front)) (sym h.open_then) ∙ ap (λ (ws : List ℕ). old ++ ws) (sym (given-append p h.front k.front));
  open_then = after-append p h.front k.front ∙ ap (λ (s : Pending). after s k.front) h.open_then ∙ k.open_then;
  within = k.within;
}

-- a front, and a byte after it
pub within_byte : (limit : ℕ) (old mid new left middle back : List ℕ) (x : ℕ) (p q r : Pending) → TakesWithin limit old p left mid q middle → middle ≡ x ∷ back → TakesWithin limit mid q (x ∷ []) new r []
    → TakesWithin limit old p left new r back
within_byte limit old mid new left middle back x p q r h m k =
    let one : x ∷ [] ≡ k.front = k.whole ∙ append-nil k.front in
    within_both limit old mid new left middle back p q r h (record {
      front = k.front;
      whole = m ∙ ap (λ (b : List ℕ). b ++ back) one;
      puts = k.puts;
      open_then = k.open_then;
      within = k.within;
    })

-- what is open then
pub within_pending : (limit : ℕ) (bytes words left : List ℕ) (p : Pending) → AreBytes bytes → TakesWithin limit [] nothing bytes words p left → IsPending p
within_pending limit bytes words left p h t =
    subst (λ (q : Pending). IsPending q) t.open_then (pending_after t.front zero [] pending_nothing (are_front t.front left (subst (λ (b : List ℕ). AreBytes b) t.whole h)))

-- the front is all of the bytes, where none are left
pub within_whole : (limit : ℕ) (bytes words left : List ℕ) (p : Pending) → TakesWithin limit [] nothing bytes words p left → length left ≡ 0 → Brings nothing bytes words p
within_whole limit bytes words left p t e =
    let none = nil_from_length left e in
    let all : bytes ≡ t.front = t.whole ∙ ap (λ (b : List ℕ). t.front ++ b) none ∙ append-nil t.front in
    record {
      words = ap (λ (b : List ℕ). given nothing b) all ∙ sym t.puts;
      open_then = ap (λ (b : List ℕ). after nothing b) all ∙ t.open_then;
    }

pub length_laid : (b : List ℕ) → length (all_laid b) ≡ 8 * length (given nothing b) + length (laid (after nothing b))
length_laid b = omega (arith, length-append (bytes_of (given nothing b)) (laid (after nothing b)), length_bytes_of (given nothing b))

-- the words of the first bytes and of one more are too many
pub past_limit : (limit : ℕ) (bytes words left : List ℕ) (x : ℕ) (p : Pending) → AreBytes bytes → TakesWithin limit [] nothing bytes words p (x ∷ left) → limit < length words + length (brought p x)
    → IsNotUnpackedFor bytes limit faults.FrameTooLarge
past_limit limit bytes words left x p h t k =
    let front = t.front in
    let all : given nothing bytes ≡ words ++ (brought p x ++ given (next p x) left) =
    ap (λ (b : List ℕ). given nothing b) t.whole ∙ given-append nothing front (x ∷ left) ∙ ap (λ (ws : List ℕ). ws ++ given (after nothing front) (x ∷ left)) (sym t.puts) ∙ ap (λ (q : Pending). words ++ given q (x ∷ left)) t.open_then in
    let count = ap (λ (ws : List ℕ). length ws) all ∙ length-append words (brought p x ++ given (next p x) left) in
    (all_laid bytes, laid_is bytes h, omega (arith, length_laid bytes, count, length-append (brought p x) (given (next p x) left), k))

pub stops : (limit : ℕ) (bytes words left : List ℕ) (x : ℕ) (p : Pending) (fault : FrameFault) → AreBytes bytes → TakesWithin limit [] nothing bytes words p (x ∷ left)
    → (fault ≡ faults.OutOfMemory) ⊎ ((fault ≡ faults.FrameTooLarge) × (limit < length words + length (brought p x))) → IsNotUnpackedFor bytes limit fault
stops limit bytes words left x p fault h t (inl e) = subst (λ (f : FrameFault). IsNotUnpackedFor bytes limit f) (sym e) tt
stops limit bytes words left x p fault h t (inr k) = subst (λ (f : FrameFault). IsNotUnpackedFor bytes limit f) (sym k.0) (past_limit limit bytes words left x p h t k.1)

-- a word that is laid is too many
pub past_at_end : (b : List ℕ) (limit : ℕ) → AreBytes b → length (given nothing b) ≡ limit → length (laid (after nothing b)) ≡ 8 → IsNotUnpackedFor b limit faults.FrameTooLarge
past_at_end b limit h k e = (all_laid b, laid_is b h, omega (arith, length_laid b, k, e))

-- the bytes end inside a group
pub cut_short : (b : List ℕ) (limit : ℕ) → AreBytes b → (after nothing b ≡ nothing → ⊥) → length (given nothing b) ≤ limit → (length (given nothing b) ≡ limit → length (laid (after nothing b)) ≡ 8 → ⊥)
    → IsNotUnpackedFor b limit faults.Truncated
cut_short b limit h open_then k few =
    let p = after nothing b in
    let short = laid_at_most p.run p.part (pending_after b zero [] pending_nothing h) in
    (all_laid b, laid_is b h, within short (cases_eq (length (given nothing b)) limit) (cases_eq (length (laid p)) 8), λ ws m. open_then (packed_brings ws b m).open_then)
  where
    within : length (laid (after nothing b)) ≤ 8 → (length (given nothing b) ≡ limit) ⊎ (length (given nothing b) ≡ limit → ⊥) → (length (laid (after nothing b)) ≡ 8) ⊎ (length (laid (after nothing b)) ≡ 8 → ⊥) → length (all_laid b) / 8 ≤ limit
    within s (inl e) (inl f) = absurd (few e f)
    within s (inl e) (inr f) = omega (arith, length_laid b, e, f, s)
    within s (inr e) f = omega (arith, length_laid b, e, k, s)

-- a vector that is filled up
