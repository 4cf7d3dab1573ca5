-- What is done with a connection, one after another.
use Rattle.std.proofs.Common.{◌≡◌, ℕ, List, [], ◌++◌, Option, Result, refl, sym, ap, ◌∙◌, append-nil, append_assoc}
use Rattle.cp_refs.specs.declared.call.Origin.{Origin}
use Rattle.cp_refs.specs.declared.call.Request.{Request}
use Rattle.cp_refs.specs.declared.cap.Cap.{Cap}
use Rattle.cp_refs.specs.declared.outcome.Outcome.{Outcome}
use Rattle.cp_vat_machine.specs.declared.acted.Idle.{Idle}
use Rattle.cp_vat_machine.specs.declared.event.Event.{Event}
use Rattle.cp_vat_machine.specs.declared.event.Event.TheVariants as events
use Rattle.cp_vat_machine.specs.declared.event.Value.{Value}
use Rattle.cp_vat_machine.specs.declared.event.Value.TheVariants as values
use Rattle.cp_connection.specs.declared.fault.ConnectionFault.{ConnectionFault}
use Rattle.cp_connection.specs.declared.event.ConnectionEvent.{ConnectionEvent}
use Rattle.cp_connection.specs.Link.{Link}
use Rattle.cp_connection.specs.Doing.{Acts, answered}
use Rattle.cp_connection.specs.Receiving.{HandsOut}
use Rattle.cp_connection.specs.Lives.{IsCall, acts, hands, Life, begins, goes_on}
use Rattle.cp_dispatch.specs.Work.{Work, GivesBack, holds_more, leaves_it, is_last, is_unreleased, leaves, is_anothers, Lives}

-- a list that has grown, and then grows
then_more : {X : Type 0} (a b c all more : List X) → all ≡ b ++ c → more ≡ a ++ all → more ≡ (a ++ b) ++ c
then_more a b c all more e f = f ∙ ap (λ x. a ++ x) e ∙ sym (append_assoc a b c)

-- one life after another
pub life_both : {a b c : Link} {taken more written further : List ℕ} {handed others : List ConnectionEvent} → Life a taken written handed b → Life b more further others c
    → Life a (taken ++ more) (written ++ further) (handed ++ others) c
life_both {a = a} {b = b} {taken = taken} {written = written} {handed = handed} h begins =
    rw (append-nil taken, append-nil written, append-nil handed) h
life_both {taken = taken} {written = written} {handed = handed} h (goes_on before call e f g) =
    goes_on (life_both h before) call (then_more taken _ _ _ _ e refl) (then_more written _ _ _ _ f refl) (then_more handed _ _ _ _ g refl)

pub lives_both : {a b c : Link} → Lives a b → Lives b c → Lives a c
lives_both h k = (h.0 ++ k.0, life_both h.1 k.1)

pub lives_none : (a : Link) → Lives a a
lives_none a = ([], begins)

pub lives_act : {old new : Link} (event : Event) (result : Result Value ConnectionFault) → IsCall event → Acts old event result new → Lives old new
lives_act event result call h = ([], goes_on begins (acts event result call h) refl refl refl)

pub lives_next : {old new : Link} (first : Option ConnectionEvent) → HandsOut old first new → Lives old new
lives_next first h = (_, goes_on begins (hands first h refl) refl refl refl)

-- what came of an answer, of giving an import back, and of a call and its question's end
pub lives_answer : {A : Type 0} (old new : Link) (origin : Origin) (outcome : Outcome) (result : Result A ConnectionFault) → Acts old (events.Answer origin outcome) (answered (λ _. values.Nothing) result) new
    → Lives old new
lives_answer old new origin outcome result h = lives_act (events.Answer origin outcome) (answered (λ _. values.Nothing) result) tt h

pub lives_release : {A : Type 0} (old new : Link) (i : ℕ) (result : Result A ConnectionFault) → Acts old (events.Release i) (answered (λ _. values.Nothing) result) new → Lives old new
lives_release old new i result h = lives_act (events.Release i) (answered (λ _. values.Nothing) result) tt h

pub lives_call : (old new : Link) (cap : Cap) (request : Request) (result : Result ℕ ConnectionFault) → Acts old (events.Call cap request) (answered (λ q. values.Question q) result) new → Lives old new
lives_call old new cap request result h = lives_act (events.Call cap request) (answered (λ q. values.Question q) result) tt h

pub lives_finish : {A : Type 0} (old new : Link) (question : ℕ) (result : Result A ConnectionFault) → Acts old (events.Finish question) (answered (λ _. values.Nothing) result) new → Lives old new
lives_finish old new question result h = lives_act (events.Finish question) (answered (λ _. values.Nothing) result) tt h

-- what came of making a promise, of resolving one and of forgetting one
pub lives_promise : (old new : Link) (result : Result ℕ ConnectionFault) → Acts old events.Promise (answered (λ p. values.Promise p) result) new → Lives old new
lives_promise old new result h = lives_act events.Promise (answered (λ p. values.Promise p) result) tt h

pub lives_resolve : {A : Type 0} (old new : Link) (id : ℕ) (value : Cap) (result : Result A ConnectionFault) → Acts old (events.Resolve id value) (answered (λ _. values.Nothing) result) new
    → Lives old new
lives_resolve old new id value result h = lives_act (events.Resolve id value) (answered (λ _. values.Nothing) result) tt h

pub lives_forget : {A : Type 0} (old new : Link) (id : ℕ) (result : Result A ConnectionFault) → Acts old (events.Forget id) (answered (λ _. values.Nothing) result) new → Lives old new
lives_forget old new id result h = lives_act (events.Forget id) (answered (λ _. values.Nothing) result) tt h

-- what came of asking what isn't in use
pub lives_idle : (old new : Link) (result : Result Idle ConnectionFault) → Acts old events.Idle (answered (λ idle. values.Idle idle.imports idle.promises) result) new → Lives old new
lives_idle old new result h = lives_act events.Idle (answered (λ idle. values.Idle idle.imports idle.promises) result) tt h

-- what came of giving back what the program was given
pub lives_back : {i : ℕ} {old new : Work} {result : Result Value ConnectionFault} → GivesBack i old result new → Lives old.link new.link
lives_back {old = old} (holds_more many is same) = rw same (lives_none old.link)
lives_back {old = old} (leaves_it few held (leaves some is same)) = rw same (lives_none old.link)
lives_back {old = old} (leaves_it few held (is_anothers none is same)) = rw same (lives_none old.link)
lives_back {i = i} {result = result} (is_last link few free acted is same) = rw same (lives_act (events.Release i) result tt acted)
lives_back {i = i} {result = result} (is_unreleased fault link few free acted is same) = rw same (lives_act (events.Release i) result tt acted)
