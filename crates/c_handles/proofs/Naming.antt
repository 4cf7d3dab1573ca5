-- Capabilities that a table's numbers name, one by one.
use Rattle.std.proofs.Common.{◌≡◌, ◌⊎◌, inl, inr, ℕ, ◌+◌, ◌<◌, List, [], ◌∷◌, ◌++◌, length, take, get_or, sym, ◌∙◌, ap, subst}
use Rattle.std.proofs.lemmas.List.{take_more, get_or_default}
use Rattle.std.specs.List.{AllZip}
use Rattle.cp_refs.specs.declared.cap.Cap.{Cap}
use Rattle.c_handles.specs.declared.code.CallFault.{CallFault}
use Rattle.c_handles.specs.declared.caps.CapNumbers.{CapNumbers}
use Rattle.c_handles.specs.Caps.{Names, IsNotNamed, AreNotNamed}

names_push : (ns : List CapNumbers) (cs : List Cap) (n : CapNumbers) (c : Cap) → AllZip Names ns cs → Names n c → AllZip Names (ns ++ n ∷ []) (cs ++ c ∷ [])
names_push [] [] n c h k = (k, tt)
names_push [] (d ∷ cs) n c h k = absurd h
names_push (m ∷ ns) [] n c h k = absurd h
names_push (m ∷ ns) (d ∷ cs) n c h k = (h.0, names_push ns cs n c h.1 k)

-- one more is named
pub names_more : (ns : List CapNumbers) (cs : List Cap) (i : ℕ) (n : CapNumbers) (c : Cap) (d : CapNumbers) → i < length ns → n ≡ get_or ns i d → AllZip Names (take i ns) cs → Names n c
    → AllZip Names (take (i + 1) ns) (cs ++ c ∷ [])
names_more ns cs i n c d lt e h k =
    let next : take (i + 1) ns ≡ take i ns ++ n ∷ [] = take_more ns i d lt ∙ ap (λ (m : CapNumbers). take i ns ++ m ∷ []) (sym e) in
    subst (λ (ms : List CapNumbers). AllZip Names ms (cs ++ c ∷ [])) (sym next) (names_push (take i ns) cs n c h k)

-- one names none
pub unnamed_at : (ns : List CapNumbers) (i : ℕ) (n : CapNumbers) (fault : CallFault) (d : CapNumbers) → i < length ns → n ≡ get_or ns i d → IsNotNamed n fault → AreNotNamed ns fault
unnamed_at ns i n fault d lt e (inl h) = inl (h.0, (i, n, lt, get_or_default ns i n d lt ∙ sym e, h.1))
unnamed_at ns i n fault d lt e (inr h) = inr h
