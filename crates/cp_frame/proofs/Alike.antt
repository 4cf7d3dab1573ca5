-- Packed rests that go on alike, and the words and the open group that a rest may be put for.
use Rattle.std.proofs.Common.{◌≡◌, ◌⊎◌, inl, inr, ℕ, zero, suc, ◌^◌, ◌<◌, List, [], ◌∷◌, ◌++◌, length, refl, sym, ◌∙◌, ap, subst, append_assoc, arith}
use Rattle.std.specs.Int.{to_le_bytes, w64}
use Rattle.std.proofs.lemmas.Nat.{from_le_bytes-to_le_bytes_8}
use Rattle.std.proofs.lemmas.List.{append_cancel_left}
use Rattle.cp_words.specs.Limits.{Bounds}
use Rattle.cp_frame.specs.declared.fault.FrameFault.{FrameFault}
use Rattle.cp_frame.specs.declared.fault.FrameFault.TheVariants as faults
use Rattle.cp_frame.specs.declared.mode.Mode.TheVariants as modes
use Rattle.cp_packed.specs.Words.{AreBytes, AreWords}
use Rattle.cp_packed.specs.Packed.{Packed}
use Rattle.cp_frame.specs.Stream.{Laid, HasFault, NoFront, Open}
use Rattle.cp_frame.specs.Reader.{GoesOnAs}
use Rattle.cp_frame.specs.Rest.{heads}
use Rattle.cp_packed.specs.Unpacking.{Pending, nothing, after, given, IsPending, laid_by}
use Rattle.cp_packed.proofs.Opens.{Brings, brings_both, after-append, given-append, feeds_part, feeds_run}
use Rattle.cp_packed.proofs.Unpacks.{packed_brings, brings_tag, brings_header}
use Rattle.cp_packed.proofs.Laying.{brings_these}
use Rattle.cp_frame.proofs.Certain.{are-append, are_back, packed_are, laid_is}
use Rattle.cp_frame.proofs.Rests.{laid_are, two_fronts}

pub alike_back : (a b : List ℕ) → GoesOnAs modes.Packed a b → GoesOnAs modes.Packed b a
alike_back a b h = λ ws more. ((h ws more).1, (h ws more).0)

pub alike_both : (a b c : List ℕ) → GoesOnAs modes.Packed a b → GoesOnAs modes.Packed b c → GoesOnAs modes.Packed a c
alike_both a b c h k = λ ws more. (λ p. (k ws more).0 ((h ws more).0 p), λ p. (h ws more).1 ((k ws more).1 p))

-- the same bytes after both
more_of : (a b x ws more : List ℕ) → ((us rest : List ℕ) → Packed us (a ++ rest) → Packed us (b ++ rest)) → Packed ws ((a ++ x) ++ more) → Packed ws ((b ++ x) ++ more)
more_of a b x ws more h p =
    subst (λ (c : List ℕ). Packed ws c) (sym (append_assoc b x more)) (h ws (x ++ more) (subst (λ (c : List ℕ). Packed ws c) (append_assoc a x more) p))

pub alike_more : (a b x : List ℕ) → GoesOnAs modes.Packed a b → GoesOnAs modes.Packed (a ++ x) (b ++ x)
alike_more a b x h = λ ws more. (λ p. more_of a b x ws more (λ us rest. (h us rest).0) p, λ p. more_of b a x ws more (λ us rest. (h us rest).1) p)

-- bytes that bring the same words, and leave the same open, go on alike
state_goes : (a b ws more : List ℕ) → AreBytes b → given nothing a ≡ given nothing b → after nothing a ≡ after nothing b → Packed ws (a ++ more) → Packed ws (b ++ more)
state_goes a b ws more h g o p =
    let all = packed_brings ws (a ++ more) p in
    let words : given nothing (b ++ more) ≡ given nothing (a ++ more) =
    given-append nothing b more ∙ ap (λ (vs : List ℕ). vs ++ given (after nothing b) more) (sym g) ∙ ap (λ (s : Pending). given nothing a ++ given s more) (sym o) ∙ sym (given-append nothing a more) in
    let end : after nothing (b ++ more) ≡ after nothing (a ++ more) = after-append nothing b more ∙ ap (λ (s : Pending). after s more) (sym o) ∙ sym (after-append nothing a more) in
    brings_these ws (b ++ more) (are-append b more h (are_back a more (packed_are ws (a ++ more) p))) (record { words = words ∙ all.words; open_then = end ∙ all.open_then })

pub alike_state : (a b : List ℕ) → AreBytes a → AreBytes b → given nothing a ≡ given nothing b → after nothing a ≡ after nothing b → GoesOnAs modes.Packed a b
alike_state a b h k g o = λ ws more. (λ p. state_goes a b ws more k g o p, λ p. state_goes b a ws more h (sym g) (sym o) p)

-- they lay the same, and have the same faults
pub alike_laid : (a b l : List ℕ) → GoesOnAs modes.Packed a b → Laid modes.Packed a l → Laid modes.Packed b l
alike_laid a b l h k = (λ ws more p. k.0 ws more ((h ws more).1 p), λ longer m. k.1 longer (λ ws more p. m ws more ((h ws more).0 p)))

pub alike_bytes : (a b : List ℕ) → GoesOnAs modes.Packed a b → AreBytes a → AreBytes b
alike_bytes a b h k = let l = laid_is a k in laid_are b _ (alike_laid a b _ h l)

pub alike_fault : (limits : Bounds) (a b : List ℕ) (fault : FrameFault) → GoesOnAs modes.Packed a b → NoFront modes.Packed limits b → HasFault modes.Packed limits a fault → HasFault modes.Packed limits b fault
alike_fault limits a b faults.TooManySegments h n k = (k.0, alike_laid a b k.0 h k.1, k.2)
alike_fault limits a b faults.FrameTooLarge h n k = (k.0, alike_laid a b k.0 h k.1, k.2)
alike_fault limits a b faults.Truncated h n k = absurd k.2
alike_fault limits a b faults.RunPastFrame h n r = (r.0, r.1, r.2, r.3, n, alike_laid a b r.1 h r.5, r.6, r.7, λ ws more p. r.8 ws more ((h ws more).1 p))
alike_fault limits a b faults.Failed h n k = absurd k.2
alike_fault limits a b faults.OutOfMemory h n k = absurd k.2

-- a front of a longer rest stands in the rest, or goes on after it
pub no_front_after : (limits : Bounds) (a b x : List ℕ) → GoesOnAs modes.Packed a b → NoFront modes.Packed limits b → NoFront modes.Packed limits (a ++ x) → NoFront modes.Packed limits (b ++ x)
no_front_after limits a b x h n k S front y e m = go (two_fronts b x front y e)
  where
    go : ((z : List ℕ) × (b ≡ front ++ z)) ⊎ ((z : List ℕ) × (front ≡ b ++ z)) → ⊥
    go (inl s) = n S front s.0 s.1 m
    go (inr s) =
        let tail : x ≡ s.0 ++ y = append_cancel_left b x (s.0 ++ y) (e ∙ ap (λ (c : List ℕ). c ++ y) s.1 ∙ append_assoc b s.0 y) in
        let packed : Packed m.form.0 (a ++ s.0) = (h m.form.0 s.0).1 (subst (λ (c : List ℕ). Packed m.form.0 c) s.1 m.form.2) in
        k S (a ++ s.0) y (ap (λ (c : List ℕ). a ++ c) tail ∙ sym (append_assoc a s.0 y)) (record { within = m.within; form = (m.form.0, m.form.1, packed) })

pub alike_open : (limits : Bounds) (a b x : List ℕ) → GoesOnAs modes.Packed a b → NoFront modes.Packed limits b → Open modes.Packed limits (a ++ x) → Open modes.Packed limits (b ++ x)
alike_open limits a b x h n k =
    let more = alike_more a b x h in
    record {
      no_front = no_front_after limits a b x h n k.no_front;
      no_fault = λ fault f. k.no_fault fault (alike_fault limits (b ++ x) (a ++ x) fault (alike_back (a ++ x) (b ++ x) more) k.no_front f);
    }

brings_single : (w run : ℕ) → w < 2 ^ 64 → Brings nothing (255 ∷ (to_le_bytes w64 w ++ run ∷ [])) (w ∷ []) (record { run = run; part = [] })
unfolding laid_by
brings_single w run h =
    let first = brings_header 255 (to_le_bytes w64 w ++ run ∷ []) refl in
    record { words = first.words ∙ ap (λ (v : ℕ). let vs : List ℕ = v ∷ [] in vs) (from_le_bytes-to_le_bytes_8 w h); open_then = first.open_then }

pub brings_heads : (ws : List ℕ) (run : ℕ) → AreWords ws → (0 < run → 0 < length ws) → Brings nothing (heads ws run) ws (record { run = run; part = [] })
brings_heads [] zero h k = record { words = refl; open_then = refl }
brings_heads [] (suc n) h k = absurd (omega (arith, k (omega arith)))
brings_heads (w ∷ []) run h k = brings_single w run h.0
brings_heads (w ∷ v ∷ ws) run h k =
    brings_both nothing nothing (record { run = run; part = [] }) (255 ∷ (to_le_bytes w64 w ++ 0 ∷ [])) (heads (v ∷ ws) run) (w ∷ []) (v ∷ ws) (brings_single w 0 h.0) (brings_heads (v ∷ ws) run h.1 (λ l. omega arith))

pub brings_part : (run : ℕ) (part : List ℕ) → IsPending (record { run = run; part = part }) → Brings (record { run = run; part = [] }) part [] (record { run = run; part = part })
brings_part zero [] h = record { words = refl; open_then = refl }
brings_part zero (t ∷ p) h =
    brings_both nothing (record { run = 0; part = t ∷ [] }) (record { run = 0; part = t ∷ p }) (t ∷ []) p [] [] (brings_tag t) (feeds_part t [] p (omega (arith, h.short)))
brings_part (suc n) part h = feeds_run n [] part (omega (arith, h.short))

-- the bytes bring the words, and leave the group open
pub brings_text : (ws : List ℕ) (run : ℕ) (part : List ℕ) → AreWords ws → (0 < run → 0 < length ws) → IsPending (record { run = run; part = part })
    → Brings nothing (heads ws run ++ part) (ws ++ []) (record { run = run; part = part })
brings_text ws run part h k p =
    brings_both nothing (record { run = run; part = [] }) (record { run = run; part = part }) (heads ws run) part ws [] (brings_heads ws run h k) (brings_part run part p)
