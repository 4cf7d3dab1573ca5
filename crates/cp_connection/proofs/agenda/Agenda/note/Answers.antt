use Rattle.std.proofs.Common.{◌≡◌, List, [], ◌∷◌, false, rules, refl, sym, ap, ◌∙◌, subst, arith}
use Rattle.std.proofs.lemmas.List.{nil_from_length}
use Rattle.cp_vat_machine.specs.declared.effect.Effect.{Effect}
use Rattle.cp_vat_laws.specs.Sizes.{AreWritable}
use Rattle.cp_tail_calls.specs.Serving.{closes, comes_of}
use Rattle.cp_connection.specs.Noting.{Notes}
use Rattle.cp_connection.proofs.Noting.{notes_end, notes_more, tails_more, closes_later, grows_none, grows_by, grows_both}
use Rattle.cp_connection.proofs.agenda.Agenda.note.Goals as goal

pub loop-effect-init : goal.loop-effect-init
loop-effect-init c =
    let same : c.into_iter-effect-iterator.result.rest.items ≡ c.args.effects = search rules in
    record {
      noted = λ new n. subst (λ (es : List Effect). Notes c.args.self.now (comes_of c.args.trigger c.args.tails.now es).0 new) same n;
      tails = ap (λ (es : List Effect). (comes_of c.args.trigger c.args.tails.now es).1) same;
      closed = ap closes same;
      grown = grows_none c.args.self.now c.args.self.now refl refl refl;
      writable = subst AreWritable (sym same) c.requires.writable;
    }

pub loop-effect-preserved : goal.loop-effect-preserved
loop-effect-preserved c =
    let l = c.loop-effect in
    let effect = c.in-Some.effect in
    let rest = c.next.new.self.rest.items in
    let step : l.effect-iterator.rest.items ≡ effect ∷ rest = c.in-Some.ensures.steps.0 in
    let still : closes (effect ∷ []) ≡ false = sym c.is_closing-closed.ensures ∙ c.if-closed.false in
    let one = c.in_ok-note_one.ensures.noted in
    let is = c.in_ok-note_one.ensures.tails in
    let trigger = c.args.trigger in
    record {
      noted = λ new n. l.invariant.noted new (subst (λ (es : List Effect). Notes l.self (comes_of trigger l.tails es).0 new) (sym step) (notes_more l.self c.note_one.new.self new trigger l.tails c.note_one.new.tails effect rest still one is n));
      tails = tails_more trigger l.tails c.note_one.new.tails effect rest still is ∙ sym (ap (λ (es : List Effect). (comes_of trigger l.tails es).1) step) ∙ l.invariant.tails;
      closed = sym (closes_later (effect ∷ []) rest still) ∙ sym (ap closes step) ∙ l.invariant.closed;
      grown = grows_both c.args.self.now l.self c.note_one.new.self l.invariant.grown (grows_by l.self c.note_one.new.self (comes_of trigger l.tails (effect ∷ [])).0 one);
      writable = (subst AreWritable step l.invariant.writable).1;
    }

pub note_one-requires : goal.note_one-requires
note_one-requires c = record { writable = (subst AreWritable c.in-Some.ensures.steps.0 c.loop-effect.invariant.writable).0 }

pub returns-clause-noted : goal.returns-clause-noted
returns-clause-noted c =
    let l = c.loop-effect in
    let none : l.effect-iterator.rest.items ≡ [] = nil_from_length l.effect-iterator.rest.items (omega (arith, c.in-None.ensures.steps.0)) in
    l.invariant.noted l.self (notes_end l.self c.args.trigger l.tails l.effect-iterator.rest.items none)
