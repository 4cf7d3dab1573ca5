use Rattle.std.proofs.Common.{◌≡◌, ◌⊎◌, IfErr, IfOk, OnOk, List, ℕ, length, ◌<◌, ◌≤◌, length-append, ap, ◌∙◌, sym, subst, arith}
use Rattle.std.proofs.lemmas.Bool.Decides.{nat_tests}
use Rattle.std.proofs.lemmas.Result.{IfOk-weaker, IfErr-weaker}
use Rattle.cp_words.specs.Limits.{Bounds}
use Rattle.cp_frame.specs.declared.fault.FrameFault.TheVariants.{OutOfMemory}
use Rattle.cp_frame.specs.declared.mode.Mode.TheVariants.{Packed}
use Rattle.cp_frame.specs.Rest.{InPacked, IsSound}
use Rattle.cp_frame.specs.Bulk.{TakesFront}
use Rattle.cp_frame.specs.Following.{HasThere}
use Rattle.cp_packed.proofs.Bytes.{bytes_by}
use Rattle.cp_frame.proofs.Following.{front_both, none_packed, fault_after}
use Rattle.cp_frame.proofs.stream.OpenStream.take_some.Goals as goal

pub take_byte-requires-clause-begun : goal.take_byte-requires-clause-begun
take_byte-requires-clause-begun c =
    let left = c.args.left.now in
    let s = c.take_front.new.self.rest in
    let few : length left ≤ length c.in_ok-back.back.now = grind (arith, nat_tests) in
    subst (λ (limits : Bounds). InPacked limits s) (sym c.take_front.ensures.same.1)
    (none_packed c.args.self.now.limits c.args.self.now.rest s left c.in_ok-back.back.now c.requires.begun (bytes_by left (λ j. omega (arith, c.type_inv.left j))) c.in_ok-back.ensures.takes c.in_ok-back.ensures.sound few)

pub returns-clause-takes : goal.returns-clause-takes
returns-clause-takes c =
    let limits = c.args.self.now.limits in
    let r = c.args.self.now.rest in
    let s = c.take_front.new.self.rest in
    let t = c.take_byte.new.self.rest in
    let left = c.args.left.now in
    let middle = c.in_ok-back.back.now in
    let takes = subst (λ (l : Bounds). IfOk c.take_byte.result (λ back. TakesFront l s middle t back.now)) c.take_front.ensures.same.1 c.take_byte.ensures.takes in
    IfOk-weaker c.take_byte.result (λ back. TakesFront limits s middle t back.now) (λ back. TakesFront limits r left t back.now) (λ back h. front_both limits r s t left middle back.now c.in_ok-back.ensures.takes h) takes

pub returns-clause-fault : goal.returns-clause-fault
returns-clause-fault c =
    let limits = c.args.self.now.limits in
    let r = c.args.self.now.rest in
    let s = c.take_front.new.self.rest in
    let left = c.args.left.now in
    let middle = c.in_ok-back.back.now in
    let are = bytes_by left (λ j. omega (arith, c.type_inv.left j)) in
    let few : length left ≤ length middle = grind (arith, nat_tests) in
    let begun = none_packed limits r s left middle c.requires.begun are c.in_ok-back.ensures.takes c.in_ok-back.ensures.sound few in
    let fault = subst (λ (l : Bounds). IfErr c.take_byte.result (λ fault. (fault ≡ OutOfMemory) ⊎ HasThere Packed l s middle fault)) c.take_front.ensures.same.1 c.take_byte.ensures.fault in
    IfErr-weaker c.take_byte.result (λ fault. (fault ≡ OutOfMemory) ⊎ HasThere Packed limits s middle fault) (λ fault. (fault ≡ OutOfMemory) ⊎ HasThere Packed limits r left fault)
    (λ fault h. fault_after limits r s left middle fault c.requires.begun are c.in_ok-back.ensures.takes begun h) fault

pub returns-clause-same : goal.returns-clause-same
returns-clause-same c = (c.take_byte.ensures.same.0 ∙ c.take_front.ensures.same.0, c.take_byte.ensures.same.1 ∙ c.take_front.ensures.same.1)

pub returns-clause-sound : goal.returns-clause-sound
returns-clause-sound c = subst (λ (l : Bounds). OnOk c.take_byte.result (IsSound l c.take_byte.new.self.rest)) c.take_front.ensures.same.1 c.take_byte.ensures.sound

pub returns-clause-shorter : goal.returns-clause-shorter
returns-clause-shorter c =
    let left = c.args.left.now in
    let middle = c.in_ok-back.back.now in
    let takes = c.in_ok-back.ensures.takes in
    let less : length middle ≤ length left = omega (arith, ap (λ (b : List ℕ). length b) takes.1, length-append takes.0 middle) in
    IfOk-weaker c.take_byte.result (λ back. length back.now < length middle) (λ back. length back.now < length left) (λ back h. omega (arith, h, less)) c.take_byte.ensures.shorter
