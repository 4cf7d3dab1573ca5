use Rattle.std.proofs.Common.{◌≡◌, inr, ◌+◌, ◌-◌, ◌<◌, ◌≤◌, length, take, drop, arith}
use Rattle.std.proofs.lemmas.List.{length-take-le, length-drop}
use Rattle.cp_packed.specs.Packed.{zero_bytes}
use Rattle.cp_packed.proofs.Extents.{run_on, run_stops, run_ends}
use Rattle.cp_packed.proofs.runs.raw_run.Goals as goal

pub returns-then-count-lt-STEP-clause-full : goal.returns-then-count-lt-STEP-clause-full
returns-then-count-lt-STEP-clause-full c =
    let words = c.args.words.now in
    let run = c.counting.run in
    let count = c.count_full-count.result in
    let n = run + 8 - run in
    let rest : length (drop run words) ≡ length words - run = length-drop run words in
    let long : length (take n (drop run words)) ≡ n = length-take-le n (drop run words) (omega (arith, rest, c.counting-test.true, c.min-most.ensures)) in
    run_on (λ w. zero_bytes w ≤ 1) words run n count c.counting.invariant.full (omega (arith, long, c.count_full-count.ensures.within)) c.count_full-count.ensures.full

pub returns-then-count-lt-STEP-clause-ends : goal.returns-then-count-lt-STEP-clause-ends
returns-then-count-lt-STEP-clause-ends c =
    let words = c.args.words.now in
    let run = c.counting.run in
    let count = c.count_full-count.result in
    let n = run + 8 - run in
    let rest : length (drop run words) ≡ length words - run = length-drop run words in
    let long : length (take n (drop run words)) ≡ n = length-take-le n (drop run words) (omega (arith, rest, c.counting-test.true, c.min-most.ensures)) in
    let few : count < n = omega (arith, c.if-count-lt-STEP.true) in
    inr (run_stops (λ w. zero_bytes w ≤ 1) words run n count few (omega (arith, few, rest, c.counting-test.true, c.min-most.ensures)) c.count_full-count.ensures.ends)

pub counting-preserved : goal.counting-preserved
counting-preserved c =
    let words = c.args.words.now in
    let run = c.counting.run in
    let count = c.count_full-count.result in
    let n = run + 8 - run in
    let rest : length (drop run words) ≡ length words - run = length-drop run words in
    let long : length (take n (drop run words)) ≡ n = length-take-le n (drop run words) (omega (arith, rest, c.counting-test.true, c.min-most.ensures)) in
    let few : count ≤ n = omega (arith, long, c.count_full-count.ensures.within) in
    record {
      within = omega (arith, few, c.counting-test.true);
      full = run_on (λ w. zero_bytes w ≤ 1) words run n count c.counting.invariant.full few c.count_full-count.ensures.full;
    }

pub returns-clause-full : goal.returns-clause-full
returns-clause-full c =
    let words = c.args.words.now in
    let run = c.counting.run in
    let n = c.min-most.result - run in
    let long : length (take n (drop run words)) ≡ n = length-take-le n (drop run words) (omega (arith, length-drop run words, c.min-most.ensures)) in
    run_on (λ w. zero_bytes w ≤ 1) words run n c.count_full.result c.counting.invariant.full (omega (arith, long, c.count_full.ensures.within)) c.count_full.ensures.full

pub returns-clause-ends : goal.returns-clause-ends
returns-clause-ends c =
    run_ends (λ w. zero_bytes w ≤ 1) c.args.words.now c.counting.run c.min-most.result c.count_full.result c.counting.invariant.within (omega (arith, c.min-most.ensures)) (λ k. omega (arith, k, c.min-most.ensures))
    c.count_full.ensures.within c.count_full.ensures.ends
