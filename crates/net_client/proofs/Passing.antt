-- What goes through a stream, one thing after another.
use Rattle.std.proofs.Common.{◌≡◌, ◌+◌, ◌∙◌, ◌≤◌, ◌⊎◌, ℕ, List, [], ◌∷◌, ◌++◌, length, arith, Bool, true, Result, Ok, Err, OnErr, inl, inr, refl, sym, ap, subst, append-nil, append_assoc}
use Rattle.net_sockets.specs.declared.nonblocking_stream.NonblockingStream.{NonblockingStream}
use Rattle.net_sockets.specs.declared.nonblocking_stream.Got.{Got}
use Rattle.net_sockets.specs.Flow.{Flow, Moves, Rests}
use Rattle.net_sockets.specs.Reading.{flow_of}
use Rattle.net_client.specs.Passing.{Fills, Passage, Passes, Sends, Waits}
use Rattle.net_sockets.proofs.Flowing.{flows_both, flows_none}

-- nothing was done
pub waits_none : (at : Passage) → Waits at at
waits_none at = record { came = []; ends = 0; moves = flows_none at.flow; in_order = append-nil at.ahead }

-- bytes came behind those that were there, or the stream was at rest
pub waits_came : {old new : Passage} {came : List ℕ} {ends : ℕ} → Moves old.flow came ends [] new.flow → new.ahead ≡ old.ahead ++ came → Waits old new
waits_came {came = came} {ends = ends} moves kept = record { came = came; ends = ends; moves = moves; in_order = sym kept }

-- the stream was at rest, and no byte was given out
pub waits_still : {old new : Passage} → Rests old.flow new.flow → new.ahead ≡ old.ahead → Waits old new
waits_still {old = old} moves same = record { came = []; ends = 0; moves = moves; in_order = append-nil old.ahead ∙ sym same }

-- the same flow, and the same bytes
pub waits_same : {old new : Passage} → new.flow ≡ old.flow → new.ahead ≡ old.ahead → Waits old new
waits_same {old = old} {new = new} flow same = waits_still (subst (λ (f : Flow). Rests old.flow f) (sym flow) (flows_none old.flow)) same

-- bytes that were given out as they came, where none was there
pub passes_came : {old new : Passage} {came : List ℕ} {ends : ℕ} → Moves old.flow came ends [] new.flow → old.ahead ≡ [] → new.ahead ≡ [] → Passes old came [] new
passes_came {came = came} {ends = ends} moves none left = record {
  came = came;
  ends = ends;
  moves = moves;
  in_order = ap (λ (xs : List ℕ). xs ++ came) none ∙ sym (append-nil came) ∙ ap (λ (xs : List ℕ). came ++ xs) (sym left);
}

-- bytes that were there are given out
pub passes_given : {old new : Passage} {gave : List ℕ} → new.flow ≡ old.flow → old.ahead ≡ gave ++ new.ahead → Passes old gave [] new
passes_given {old = old} flow given = record {
  came = [];
  ends = 0;
  moves = subst (λ (f : Flow). Rests old.flow f) (sym flow) (flows_none old.flow);
  in_order = append-nil old.ahead ∙ given;
}

-- one after the other
pub passes_both : {a b c : Passage} {gave more : List ℕ} {took also : List ℕ} → Passes a gave took b → Passes b more also c → Passes a (gave ++ more) (took ++ also) c
passes_both {a = a} {b = b} {c = c} {gave = gave} {more = more} h k = record {
  came = h.came ++ k.came;
  ends = h.ends + k.ends;
  moves = flows_both h.moves k.moves;
  in_order =
      sym (append_assoc a.ahead h.came k.came) ∙ ap (λ (xs : List ℕ). xs ++ k.came) h.in_order ∙ append_assoc gave b.ahead k.came
      ∙ ap (λ (xs : List ℕ). gave ++ xs) k.in_order ∙ sym (append_assoc gave more c.ahead);
}

-- what was done after bytes were waited for
pub sends_after : {a b c : Passage} {bytes : List ℕ} → Waits a b → Sends b bytes c → Sends a bytes c
sends_after h (inl sent) = inl (passes_both h sent)
sends_after h (inr lost) = inr (lost.0, passes_both h lost.1)

-- whatever was read behind the bytes that were there
pub waits_filled : {D : Type 0} (flow : D → Flow) {E : Type 0} (old new : List ℕ) (from to : NonblockingStream D) (got : Result Got E) (was is : Bool)
    → Fills flow old from got new to
    → Waits (record { ahead = old; flow = flow_of flow from; is_shut = was }) (record { ahead = new; flow = flow_of flow to; is_shut = is })
waits_filled flow old new from to (Ok got) was is f = waits_came f.2 f.1
waits_filled flow old new from to (Err error) was is f = waits_still f.1 f.0

-- whatever became of a call that failed
pub at_error : {T E : Type 0} {X : Type 0} (r : Result T E) → X → OnErr r X
at_error (Ok value) x = tt
at_error (Err error) x = x

-- where no byte is left, there is none
pub none_left : (xs : List ℕ) (count : ℕ) → count ≡ length xs → count ≤ 0 → xs ≡ []
none_left [] count is none = refl
none_left (x ∷ xs) count is none = absurd (omega (arith, is, none))
