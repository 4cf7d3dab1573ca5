-- Words of a run taken one by one.
use Rattle.std.proofs.Common.{◌≡◌, inl, inr, ℕ, zero, suc, ◌-◌, ◌<◌, List, ◌++◌, replicate, refl, sym, ◌∙◌, ap, subst, append_assoc, arith}
use Rattle.std.specs.Int.{to_le_bytes, w64}
use Rattle.std.proofs.lemmas.List.{length-replicate}
use Rattle.cp_words.specs.Limits.{Bounds}
use Rattle.cp_frame.specs.declared.fault.FrameFault.{FrameFault}
use Rattle.cp_frame.specs.declared.fault.FrameFault.TheVariants as faults
use Rattle.cp_frame.specs.declared.frame.OpenFrame.{OpenFrame}
use Rattle.cp_packed.specs.Words.{bytes_of}
use Rattle.cp_frame.specs.Stream.{numbers}
use Rattle.cp_frame.specs.Parts.{rest_of, IsComplete, IsFaultOf}
use Rattle.cp_words.specs.Segments.{words_of}
use Rattle.cp_frame.specs.Rest.{IsFaultOfWords}
use Rattle.cp_frame.proofs.Numbers.{length_bytes_of, numbers_more}
use Rattle.cp_frame.proofs.Opened.{fault_of_more}
use Rattle.cp_frame.proofs.Ends.{complete_frame}

-- the first of the words that are left
run_left : (left word : ℕ) → 0 < left → bytes_of (replicate left word) ≡ to_le_bytes w64 word ++ bytes_of (replicate (left - 1) word)
run_left zero word h = absurd (omega (arith, h))
run_left (suc n) word h = let e : n ≡ suc n - 1 = omega arith in ap (λ (m : ℕ). to_le_bytes w64 word ++ bytes_of (replicate m word)) e

pub run_past : (limits : Bounds) (f : OpenFrame) (b : List ℕ) (left word : ℕ) → IsComplete limits f → 0 < left → rest_of f ++ bytes_of (replicate left word) ≡ b → IsFaultOfWords limits b faults.RunPastFrame
run_past limits f b left word h k e =
    inl (refl, (words_of f.segments.items, rest_of f, bytes_of (replicate left word), sym e, omega (arith, length_bytes_of (replicate left word), length-replicate left word, k), complete_frame limits f h))

pub run_fault : (limits : Bounds) (f : OpenFrame) (b : List ℕ) (left word : ℕ) (fault : FrameFault) → 0 < left → rest_of f ++ bytes_of (replicate left word) ≡ b
    → IsFaultOf limits (numbers (rest_of f ++ to_le_bytes w64 word)) fault → IsFaultOfWords limits b fault
run_fault limits f b left word fault k e h =
    let first = rest_of f ++ to_le_bytes w64 word in
    let more = bytes_of (replicate (left - 1) word) in
    let all : b ≡ first ++ more = sym e ∙ ap (λ (c : List ℕ). rest_of f ++ c) (run_left left word k) ∙ sym (append_assoc (rest_of f) (to_le_bytes w64 word) more) in
    let ns = numbers_more first more in
    inr (subst (λ (ms : List ℕ). IsFaultOf limits ms fault) (sym (ap numbers all ∙ ns.1)) (fault_of_more limits (numbers first) ns.0 fault h))

pub run_goes_on : (f g : OpenFrame) (b : List ℕ) (left word : ℕ) → 0 < left → rest_of f ++ bytes_of (replicate left word) ≡ b → rest_of g ≡ rest_of f ++ to_le_bytes w64 word
    → rest_of g ++ bytes_of (replicate (left - 1) word) ≡ b
run_goes_on f g b left word k e h =
    let more = bytes_of (replicate (left - 1) word) in
    ap (λ (c : List ℕ). c ++ more) h ∙ append_assoc (rest_of f) (to_le_bytes w64 word) more ∙ ap (λ (c : List ℕ). rest_of f ++ c) (sym (run_left left word k)) ∙ e
