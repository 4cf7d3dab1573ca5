-- One course of a connection after another.
use Rattle.std.proofs.Common.{◌≡◌, ◌++◌, ◌∙◌, ℕ, List, sym, ap, append_assoc}
use Rattle.cp_connection.specs.declared.event.ConnectionEvent.{ConnectionEvent}
use Rattle.cp_connection.specs.Link.{Link}
use Rattle.cp_connection.specs.Lives.{Life, Course, lives, aborts}
use Rattle.cp_dispatch.proofs.Living.{life_both}

-- a list that ends in another, and then has more
ends_more : {X : Type 0} (a b c all : List X) → all ≡ a ++ b → all ++ c ≡ a ++ (b ++ c)
ends_more a b c all e = ap (λ x. x ++ c) e ∙ append_assoc a b c

-- and one before it
begins_more : {X : Type 0} (c a b all : List X) → all ≡ a ++ b → c ++ all ≡ (c ++ a) ++ b
begins_more c a b all e = ap (λ x. c ++ x) e ∙ sym (append_assoc c a b)

-- a life after it
pub course_then : {a b c : Link} {taken more written further : List ℕ} {handed others : List ConnectionEvent} → Course a taken written handed b → Life b more further others c
    → Course a (taken ++ more) (written ++ further) (handed ++ others) c
course_then (lives life) k = lives (life_both life k)
course_then (aborts excess before aborted life e f g) k =
    aborts excess before aborted (life_both life k) (ends_more _ _ _ _ e) (ends_more _ _ _ _ f) (ends_more _ _ _ _ g)

pub course_both : {a b c : Link} {taken more written further : List ℕ} {handed others : List ConnectionEvent} → Course a taken written handed b → Course b more further others c
    → Course a (taken ++ more) (written ++ further) (handed ++ others) c
course_both h (lives life) = course_then h life
course_both h (aborts excess before aborted life e f g) =
    aborts excess (course_both h before) aborted life (begins_more _ _ _ _ e) (begins_more _ _ _ _ f) (begins_more _ _ _ _ g)
