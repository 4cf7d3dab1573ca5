use Rattle.std.proofs.Common.{◌≡◌, Option, None, Some, Result, Ok, Err, sym, ap, ◌∙◌}
use Rattle.cp_words.specs.Segments.{words_of}
use Rattle.cp_reading.specs.declared.area.Area.{Area}
use Rattle.cp_reading.specs.declared.fault.TreeFault.{TreeFault}
use Rattle.cp_reading.proofs.Complete.{led}
use Rattle.cp_reading.proofs.Sound.{target_sound, area_sound, ok_is}
use Rattle.cp_reading.proofs.Views.{some_is}
use Rattle.cp_reading.proofs.decide.body_found.Goals as goal

no_body : {e : TreeFault} {a b : Area} → ◌≡◌ {A = Result Area TreeFault} (Err e) (Ok a) → ◌≡◌ {A = Option Area} None (Some b)
no_body e = cc

pub returns-clause-located : goal.returns-clause-located
returns-clause-located c =
    let S = words_of c.args.segments.now in
    let at = c.args.at in
    let right = target_sound S at.segment at.word c.in_ok-pointer.pointer c.in-Ok.target (c.requires, sym c.in_ok-pointer.ensures.says) (sym c.in-Ok.ensures.target) in
    (area_sound S at.segment at.word c.in-Ok.target c.in-Ok-area_of.area right (sym c.in-Ok-area_of.ensures.area)).located

pub returns-clause-only : goal.returns-clause-only
returns-clause-only c f s' start w l =
    let S = words_of c.args.segments.now in
    let at = c.args.at in
    let k = led S at.segment at.word f s' start w l in
    let pointer : c.in_ok-pointer.pointer ≡ k.pointer = some_is (c.in_ok-pointer.ensures.says ∙ k.says) in
    let target : c.in-Ok.target ≡ k.target = ok_is (c.in-Ok.ensures.target ∙ rw pointer k.has_target) in
    ap Some (ok_is (c.in-Ok-area_of.ensures.area ∙ rw target k.area))

pub returns-in_default-area_of-clause-only : goal.returns-in_default-area_of-clause-only
returns-in_default-area_of-clause-only c f s' start w l =
    let S = words_of c.args.segments.now in
    let at = c.args.at in
    let k = led S at.segment at.word f s' start w l in
    let pointer : c.in_ok-pointer.pointer ≡ k.pointer = some_is (c.in_ok-pointer.ensures.says ∙ k.says) in
    let target : c.in-Ok.target ≡ k.target = ok_is (c.in-Ok.ensures.target ∙ rw pointer k.has_target) in
    no_body {a = record { form = f; segment = s'; start = start }} (c.in_default-area_of.ensures.area ∙ rw target k.area)
