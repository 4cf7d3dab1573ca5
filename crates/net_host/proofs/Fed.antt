-- What a session is given of a piece.
use Rattle.std.proofs.Common.{◌≡◌, ◌-◌, ◌∙◌, ℕ, List, [], ◌++◌, refl, sym, ap, arith, length, take, drop, length-drop, take_all, append_assoc}
use Rattle.std.specs.Prelude.{◌∷◌}
use Rattle.std.proofs.Math.Seq.{take-append_seam}
use Rattle.std.proofs.lemmas.List.{take-append-drop, length-append}
use Rattle.std.proofs.lemmas.List.Elements.{All-append, All-cons, All-nil}
use Rattle.cp_connection.specs.declared.fault.ConnectionFault.{ConnectionFault}
use Rattle.cp_objects.specs.ObjectTable.{ObjectTableKind}
use Rattle.cp_session.specs.Doing.{IsUntaken, Receives}
use Rattle.cp_session.specs.Runs.{begins, fails, receives}
use Rattle.cp_session.specs.State.{State}
use Rattle.cp_session.proofs.Running.{runs_both, runs_one}
use Rattle.net_host.specs.Feeding.{AreAt, IsFed, Leaves}

-- no call, one, and one after another, at this time
pub at_none : (now : ℕ) → AreAt now []
at_none now = All-nil (λ (time : ℕ). time ≡ now)

pub at_one : (now : ℕ) → AreAt now (now ∷ [])
at_one now = All-cons (λ (time : ℕ). time ≡ now) now [] refl (at_none now)

pub at_both : (now : ℕ) (one more : List ℕ) → AreAt now one → AreAt now more → AreAt now (one ++ more)
at_both now one more h k = All-append (λ (time : ℕ). time ≡ now) one more h k

pub fed_none : {H : Type 0} {table : ObjectTableKind H} (now : ℕ) (s : State H) → IsFed table now s [] s
fed_none now s = ([], [], at_none now, begins)

-- one piece after another
pub fed_both : {H : Type 0} {table : ObjectTableKind H} {now : ℕ} {a b c : State H} {one two : List ℕ} → IsFed table now a one b → IsFed table now b two c → IsFed table now a (one ++ two) c
fed_both {now = now} h k = (h.0 ++ k.0, h.1 ++ k.1, at_both now h.1 k.1 h.2 k.2, runs_both h.3 k.3)

-- what was taken
pub fed_taken : {H : Type 0} {table : ObjectTableKind H} {old new : State H} (piece : List ℕ) (now count : ℕ) → Receives table old piece now count new → IsFed table now old (take count piece) new
fed_taken piece now count h = (_, now ∷ [], at_one now, runs_one _ (receives piece now count h refl))

-- nothing is taken at a fault
pub fed_failed : {H : Type 0} {table : ObjectTableKind H} {old new : State H} (piece : List ℕ) (now : ℕ) (fault : ConnectionFault) → IsUntaken table old piece now fault new → IsFed table now old [] new
fed_failed piece now fault h = (_, now ∷ [], at_one now, runs_one _ (fails piece now fault h refl))

-- a piece is what was taken of it, and then the rest
pub parts : (piece : List ℕ) (count : ℕ) → piece ≡ take count piece ++ take (length piece - count) (drop count piece)
parts piece count =
    let rest : take (length piece - count) (drop count piece) ≡ drop count piece = take_all (length piece - count) (drop count piece) (omega (arith, length-drop count piece)) in
    sym (take-append-drop count piece) ∙ ap (λ (x : List ℕ). take count piece ++ x) (sym rest)

-- some more of it is taken
pub goes_down : (piece done left : List ℕ) (count : ℕ) → piece ≡ done ++ left → piece ≡ (done ++ take count left) ++ drop count left
goes_down piece done left count e =
    e ∙ ap (λ x. done ++ x) (sym (take-append-drop count left)) ∙ sym (append_assoc done (take count left) (drop count left))

-- what was taken of it, by what is left
pub fed_so_far : {H : Type 0} {table : ObjectTableKind H} {now : ℕ} {a c : State H} (piece done left : List ℕ) → piece ≡ done ++ left → IsFed table now a done c
    → IsFed table now a (take (length piece - length left) piece) c
fed_so_far {table = table} {a = a} {c = c} piece done left e h =
    let n : length (done ++ left) - length left ≡ length done = rw (length-append done left) (omega arith) in
    rw (e, n, take-append_seam done left) h

-- less is left of it
pub leaves_less : {H : Type 0} {table : ObjectTableKind H} {now : ℕ} {a b c : State H} (piece left : List ℕ) (count : ℕ) → Leaves table now a piece left b → IsFed table now b (take count left) c
    → Leaves table now a piece (take (length left - count) (drop count left)) c
leaves_less piece left count h k =
    let rest : take (length left - count) (drop count left) ≡ drop count left = take_all (length left - count) (drop count left) (omega (arith, length-drop count left)) in (
      h.0 ++ take count left,
      goes_down piece h.0 left count h.1 ∙ ap (λ (x : List ℕ). (h.0 ++ take count left) ++ x) (sym rest),
      fed_both h.2 k,
    )
