use Rattle.std.proofs.Common.{◌≡◌, ◌∷◌, [], ◌++◌, None, rules, arith, sym, ap, length, inl, subst}
use Rattle.std.proofs.lemmas.List.{length_push, nil_from_length}
use Rattle.cp_vat_machine.specs.Run.{Steps}
use Rattle.cp_vat.specs.Running.{moments}
use Rattle.cp_vat.proofs.Moments.{one_more, ended, splits_more, some_left}
use Rattle.cp_vat.proofs.running.act_on_all.Goals as goal

pub loop-event-preserved : goal.loop-event-preserved
loop-event-preserved c =
    let l = c.loop-event in
    let i = l.invariant in
    let pushed : c.push.new.self.items ≡ l.done.items ++ c.in-Ok.acted ∷ [] = search (rules) in (
      splits_more c.args.events.items l.yielded l.event-iterator.rest.items c.next.new.self.rest.items c.in-Some.event i.0 c.in-Some.ensures.steps.0,
      omega (arith, i.1, ap length pushed, length_push l.done.items c.in-Ok.acted, length_push l.yielded c.in-Some.event),
      subst (λ items. Steps c.args.vat.now (moments (l.yielded ++ c.in-Some.event ∷ []) items) c.act.new.self) (sym pushed)
          (one_more c.args.vat.now l.vat c.act.new.self l.yielded c.in-Some.event l.done.items c.in-Ok.acted i.1 i.2 c.in-Ok.ensures.step),
      omega (arith, i.3, c.push.ensures.capacity),
    )

pub unwrap-requires : goal.unwrap-requires
unwrap-requires c =
    let l = c.loop-event in
    let i = l.invariant in
    c.push.ensures.succeeds
    (omega (arith, i.1, i.3, some_left c.args.events.items l.yielded l.event-iterator.rest.items c.next.new.self.rest.items c.in-Some.event i.0 c.in-Some.ensures.steps.0))

pub returns : goal.returns
returns c =
    let l = c.loop-event in
    let i = l.invariant in
    ended c.args.vat.now l.vat c.args.events.items l.yielded l.event-iterator.rest.items l.done.items None i.0 i.1 i.2 (nil_from_length _ (omega (arith, c.in-None.ensures.steps.0)))

pub returns-in-Err : goal.returns-in-Err
returns-in-Err c =
    let l = c.loop-event in
    let i = l.invariant in
    ended c.args.vat.now l.vat c.args.events.items l.yielded l.event-iterator.rest.items l.done.items _ i.0 i.1 i.2
    (omega (arith, c.len.ensures), inl (rw (c.in-Some.ensures.steps.0) (c.act.new.self, c.in-Err.ensures.step)))
