-- How what goes through a socket follows each other.
use Rattle.std.proofs.Common.{◌≡◌, ◌+◌, ◌∙◌, ℕ, List, [], ◌++◌, Option, Some, None, refl, sym, subst, append-nil, arith}
use Rattle.std.specs.Io.KnownBytes.{Appends, Consumes}
use Rattle.std.proofs.KnownBytes.{Appends-trans, Consumes-trans}
use Rattle.net_sockets.specs.Flow.{Flow, Moves, Rests, Rises}

consumes_none : (known : Option (List ℕ)) → Consumes known known []
consumes_none None = tt
consumes_none (Some xs) = refl

appends_none : (known : Option (List ℕ)) → Appends known known []
appends_none None = tt
appends_none (Some xs) = sym (append-nil xs)

rises_none : (known : Option ℕ) → Rises known known 0
rises_none None = tt
rises_none (Some n) = omega arith

rises_both : (a b c : Option ℕ) (one other : ℕ) → Rises a b one → Rises b c other → Rises a c (one + other)
rises_both None b c one other h k = tt
rises_both (Some n) None c one other h k = absurd h
rises_both (Some n) (Some m) None one other h k = absurd k
rises_both (Some n) (Some m) (Some l) one other h k = omega (arith, h, k)

pub flows_none : (flow : Flow) → Rests flow flow
flows_none flow = record { same = refl; gave = consumes_none flow.to_come; ended = rises_none flow.ends; taken = appends_none flow.sent }

-- one after the other
pub flows_both : {a b c : Flow} {came more : List ℕ} {one other : ℕ} {took also : List ℕ} → Moves a came one took b → Moves b more other also c
    → Moves a (came ++ more) (one + other) (took ++ also) c
flows_both {a = a} {b = b} {c = c} {came = came} {more = more} {one = one} {other = other} {took = took} {also = also} h k = record {
  same = k.same ∙ h.same;
  gave = Consumes-trans a.to_come b.to_come c.to_come came more h.gave k.gave;
  ended = rises_both a.ends b.ends c.ends one other h.ended k.ended;
  taken = Appends-trans a.sent b.sent c.sent took also h.taken k.taken;
}

-- nothing after it
pub flows_still : {a b c : Flow} {came : List ℕ} {one : ℕ} {took : List ℕ} → Moves a came one took b → Rests b c → Moves a came one took c
flows_still {a = a} {c = c} {came = came} {one = one} {took = took} h k =
    let ends : one + 0 ≡ one = omega arith in
    subst (λ (n : ℕ). Moves a came n took c) ends
    (subst (λ (xs : List ℕ). Moves a came (one + 0) xs c) (append-nil took)
    (subst (λ (xs : List ℕ). Moves a xs (one + 0) (took ++ []) c) (append-nil came) (flows_both h k)))
