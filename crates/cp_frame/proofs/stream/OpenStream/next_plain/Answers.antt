use Rattle.std.proofs.Common.{rules, ◌≡◌, ◌+◌, ◌++◌, length, sym, ap, ◌∙◌, arith}
use Rattle.std.proofs.lemmas.Bool.Decides.{nat_tests}
use Rattle.std.proofs.lemmas.List.{append-nil, nil_from_length}
use Rattle.std.proofs.lemmas.Result.{err_from_is_err_and}
use Rattle.cp_frame.specs.Parts.{IsEmpty, rest_of, with_spare}
use Rattle.cp_frame.specs.Rest.{with_frame}
use Rattle.cp_frame.specs.Single.{TakesWhole}
use Rattle.cp_frame.proofs.Ends.{complete_of, open_of}
use Rattle.cp_frame.proofs.Following.{ends_plain, ends_whole, fault_plain, reported_plain, stops_plain, through_plain}
use Rattle.cp_frame.proofs.Singles.{complete_parts, empty_of, nothing_come}
use Rattle.cp_frame.proofs.stream.OpenStream.next_plain.Goals as goal

pub returns-in-Some-clause-given : goal.returns-in-Some-clause-given
returns-in-Some-clause-given c =
    let limits = c.args.self.now.limits in
    let r = c.args.self.now.rest in
    let f = r.frame in
    let g = with_spare f c.take_whole.new.spare in
    let piece = c.args.piece.now in
    let back = c.in-Some.whole.2.now in
    let none : length f.table.items + length f.part.items ≡ 0 = search rules in
    let empty = empty_of limits f c.requires.0 none in
    let same : IsEmpty g = record { table = empty.table; total = empty.total; segments = empty.segments; words = empty.words; part = empty.part } in
    let whole : TakesWhole limits piece c.in-Some.whole.0 c.in-Some.whole.1 back = rw c.in-Some.is at c.in_ok-whole.ensures in
    stops_plain limits r (with_frame r g) piece back c.in-Some.whole.0 c.in-Some.whole.1 (ends_whole limits f g piece back c.in-Some.whole.0 c.in-Some.whole.1 (nothing_come limits f c.requires.0 none) whole same) c.requires.1

pub reading-preserved : goal.reading-preserved
reading-preserved c = record {
  begun = open_of c.args.self.now.limits c.take.new.self c.in_ok-left.ensures.begun (λ complete. cc (c.is_complete.ensures.1 complete));
  whole = c.in_ok-left.ensures.rest ∙ c.reading.invariant.whole;
  within = omega (arith, c.in_ok-left.ensures.shorter, c.reading.invariant.within);
}

pub finish-taken-requires : goal.finish-taken-requires
finish-taken-requires c =
    let f = c.take.new.self in
    let there = c.is_complete.ensures.0 c.if-is_complete.true in
    let complete = complete_of c.args.self.now.limits f c.in_ok-left.ensures.begun there.0 there.1 in
    let parts = complete_parts c.args.self.now.limits f complete in
    record {
      some = omega (arith, complete.all);
      total = parts.0;
      small = omega (arith, complete.table.no_longer, complete.table.few, complete.table.fits);
      no_words = parts.1;
      no_part = parts.2;
    }

pub returns-in_err-left-clause-fault : goal.returns-in_err-left-clause-fault
returns-in_err-left-clause-fault c =
    let limits = c.args.self.now.limits in
    let fault = c.in_err-left.field-0.0 in
    let p = err_from_is_err_and c.from_residual-in_err-left.result c.from_residual-in_err-left.ensures.1 in
    rw (p.1, p.2) (fault_plain limits c.args.self.now.rest c.args.piece.now fault (rw (← c.reading.invariant.whole) (reported_plain limits (rest_of c.reading.frame ++ c.reading.left.now) fault c.in_err-left.ensures.fault)))

pub returns-then-is_complete-clause-given : goal.returns-then-is_complete-clause-given
returns-then-is_complete-clause-given c =
    let limits = c.args.self.now.limits in
    let r = c.args.self.now.rest in
    let f = c.take.new.self in
    let g = c.finish-taken.new.self in
    let piece = c.args.piece.now in
    let back = c.in_ok-left.left.now in
    let taken = c.finish-taken.result.0 in
    let S = c.finish-taken.result.1 in
    let whole = c.is_complete.ensures.0 c.if-is_complete.true in
    let complete = complete_of limits f c.in_ok-left.ensures.begun whole.0 whole.1 in
    let ends = ends_plain limits r.frame f g piece back taken S (c.in_ok-left.ensures.rest ∙ c.reading.invariant.whole) (omega (arith, c.in_ok-left.ensures.shorter, c.reading.invariant.within)) complete c.finish-taken.ensures.taken
    c.finish-taken.ensures.segments c.finish-taken.ensures.empty in
    stops_plain limits r (with_frame r g) piece back taken S ends c.requires.1

pub returns-clause-none : goal.returns-clause-none
returns-clause-none c =
    let r = c.args.self.now.rest in
    let f = c.reading.frame in
    let left = nil_from_length c.reading.left.now (grind (arith, nat_tests)) in
    through_plain c.args.self.now.limits r (with_frame r f) c.args.piece.now c.reading.invariant.begun c.requires.1 (sym (append-nil (rest_of f)) ∙ ap (λ b. rest_of f ++ b) (sym left) ∙ c.reading.invariant.whole)
