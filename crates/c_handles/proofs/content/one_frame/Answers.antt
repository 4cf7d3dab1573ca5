-- `one_frame` gives the first frame of the bytes where nothing follows it, and else says why there is none.
use Rattle.std.proofs.Common.{◌≡◌, ◌∙◌, inl, inr, length, ap, rules, refl}
use Rattle.cp_words.specs.Limits.{Bounds, standard}
use Rattle.cp_frame.specs.declared.mode.Mode.TheVariants as modes
use Rattle.cp_frame.specs.Reader.{new_reader}
use Rattle.c_handles.proofs.Framing.{one_frame, runs_on, begins_with_none}
use Rattle.c_handles.proofs.content.one_frame.Goals as goal

pub returns-then-is_empty-2-clause-one : goal.returns-then-is_empty-2-clause-one
returns-then-is_empty-2-clause-one c =
    let fresh = c.plain-reader.ensures.fresh ∙ ap (λ (l : Bounds). new_reader modes.Plain l) c.standard.ensures in
    let given = rw c.in-Ok-Some.field-0-is at c.in-Ok-Some.ensures.given in
    let none : length c.in-Ok-Some.back.now ≡ 0 = search rules in
    one_frame _ _ c.args.bytes.now _ _ _ fresh c.plain-reader.ensures.stands given none

pub returns-else-is_empty-2-clause-refused : goal.returns-else-is_empty-2-clause-refused
returns-else-is_empty-2-clause-refused c =
    let fresh = c.plain-reader.ensures.fresh ∙ ap (λ (l : Bounds). new_reader modes.Plain l) c.standard.ensures in
    let given = rw c.in-Ok-Some.field-0-is at c.in-Ok-Some.ensures.given in
    let some : length c.in-Ok-Some.back.now ≡ 0 → ⊥ = search rules in
    runs_on _ _ c.args.bytes.now _ _ _ fresh c.plain-reader.ensures.stands given some

pub returns-in-Ok-None-clause-refused : goal.returns-in-Ok-None-clause-refused
returns-in-Ok-None-clause-refused c =
    let fresh = c.plain-reader.ensures.fresh ∙ ap (λ (l : Bounds). new_reader modes.Plain l) c.standard.ensures in
    let none = rw c.in-Ok-None.field-0-is at c.in-Ok-None.ensures.none in
    let some : length c.args.bytes.now ≡ 0 → ⊥ = search rules in
    rw c.from.ensures (begins_with_none _ _ c.args.bytes.now _ fresh c.plain-reader.ensures.stands some (inr (none, refl)))

pub returns-in-Err-clause-refused : goal.returns-in-Err-clause-refused
returns-in-Err-clause-refused c =
    let fresh = c.plain-reader.ensures.fresh ∙ ap (λ (l : Bounds). new_reader modes.Plain l) c.standard.ensures in
    let some : length c.args.bytes.now ≡ 0 → ⊥ = search rules in
    rw c.from-in-Err.ensures (begins_with_none _ _ c.args.bytes.now c.in-Err.fault fresh c.plain-reader.ensures.stands some (inl c.in-Err.ensures.reported))
