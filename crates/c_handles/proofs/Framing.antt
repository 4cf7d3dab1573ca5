-- Bytes that are one plain frame, or why they aren't.
use Rattle.std.proofs.Common.{◌≡◌, ◌≢◌, ℕ, List, [], ◌++◌, length, refl, sym, ◌∙◌, ap, subst, append-nil}
use Rattle.std.proofs.lemmas.List.{nil_from_length}
use Rattle.cp_words.specs.Limits.{Bounds, standard}
use Rattle.cp_frame.specs.declared.mode.Mode.{Mode}
use Rattle.cp_frame.specs.declared.mode.Mode.TheVariants as modes
use Rattle.cp_frame.specs.declared.fault.FrameFault.{FrameFault}
use Rattle.cp_frame.specs.Frame.{Frame}
use Rattle.cp_frame.specs.Stream.{Open}
use Rattle.cp_frame.specs.Reader.{Reader, StandsFor, GivesNext, new_reader}
use Rattle.c_handles.specs.Check.{BeginsWithNone}
use Rattle.c_handles.specs.Kept.{GivesNoFrame}
use Rattle.c_handles.proofs.Counting.{open_at_first, no_frame}
use Rattle.c_handles.specs.Content.{RunsOn}

-- the front that a new reader ends a frame with
new_front : (reader new : Reader) (bytes : List ℕ) (taken : ℕ) (S : List (List ℕ)) (back : List ℕ) → reader ≡ new_reader modes.Plain standard → StandsFor reader [] → (g : GivesNext reader bytes taken S new back)
    → Frame modes.Plain standard S g.front
new_front reader new bytes taken S back e h g = subst (λ (r : Reader). Frame r.mode r.limits S g.front) e (g.frame [] h)

pub one_frame : (reader new : Reader) (bytes : List ℕ) (taken : ℕ) (S : List (List ℕ)) (back : List ℕ) → reader ≡ new_reader modes.Plain standard → StandsFor reader [] → GivesNext reader bytes taken S new back
    → length back ≡ 0 → Frame modes.Plain standard S bytes
one_frame reader new bytes taken S back e h g none =
    let all : bytes ≡ g.front = g.whole ∙ ap (λ (x : List ℕ). g.front ++ x) (nil_from_length back none) ∙ append-nil g.front in
    subst (λ (b : List ℕ). Frame modes.Plain standard S b) (sym all) (new_front reader new bytes taken S back e h g)

pub runs_on : (reader new : Reader) (bytes : List ℕ) (taken : ℕ) (S : List (List ℕ)) (back : List ℕ) → reader ≡ new_reader modes.Plain standard → StandsFor reader [] → GivesNext reader bytes taken S new back
    → (length back ≡ 0 → ⊥) → RunsOn bytes
runs_on reader new bytes taken S back e h g some = record {
  segments = S;
  front = g.front;
  back = back;
  splits = g.whole;
  more = λ none. some (ap (λ (x : List ℕ). length x) none);
  is_frame = new_front reader new bytes taken S back e h g;
}

pub begins_with_none : (reader new : Reader) (bytes : List ℕ) (fault : FrameFault) → reader ≡ new_reader modes.Plain standard → StandsFor reader [] → (length bytes ≡ 0 → ⊥) → GivesNoFrame reader bytes new fault
    → BeginsWithNone standard modes.Plain bytes fault
begins_with_none reader new bytes fault e h some g =
    let nothing : Open reader.mode reader.limits [] = subst (λ (r : Reader). Open r.mode r.limits []) (sym e) (open_at_first standard modes.Plain reader e h) in
    subst (λ (r : Reader). BeginsWithNone r.limits r.mode bytes fault) e (no_frame reader new bytes fault h nothing (λ none. some (ap (λ (x : List ℕ). length x) none)) g)
