use Rattle.std.proofs.Common.{◌≡◌, ◌<◌, ◌+◌, length, drop, get_or, ℕ, ◌/◌, ◌%◌, List, subst, sym, arith}
use Rattle.std.proofs.lemmas.List.{drop_more, drop_all}
use Rattle.cp_packed.proofs.Spreading.{Spreads, spreads_none, spread_even, spread_odd, spread_stops, spread_whole}
use Rattle.cp_packed.proofs.group.spread.Goals as goal
use Rattle.cp_packed.proofs.group.spread.Goals.{then-bits-eq1+else-next-written, else-bits-eq1}

pub loop-place-init : goal.loop-place-init
loop-place-init c = record { inside = omega arith; spreads = spreads_none c.args.tag c.args.written.now }

pub loop-place-preserved : goal.loop-place-preserved
loop-place-preserved c =
    let tag = c.args.tag in
    let written = c.args.written.now in
    let bits = c.loop-place.bits in
    let place = c.loop-place.place in
    let next = c.loop-place.next in
    elim c.if-bits-eq1.branch [
      | then-bits-eq1+else-next-written w ↦ (let inside : next < length written = omega (arith, c.loop-place.invariant.inside, w.if-next-written.false) in
          let split = subst (λ (left : List ℕ). Spreads tag written c.loop-place.bytes bits left place) (drop_more written next 0 inside) c.loop-place.invariant.spreads in
          let more = spread_odd tag written c.loop-place.bytes bits (get_or written next 0) (drop (next + 1) written) place split c.loop-place-test.true w.if-bits-eq1.true in
          record {
            inside = omega (arith, w.next-is, inside);
            spreads = subst (λ (n : ℕ). Spreads tag written c.if-bits-eq1.bytes (bits / 2) (drop n written) (place + 1)) (sym w.next-is)
                (subst (λ (b : List ℕ). Spreads tag written b (bits / 2) (drop (next + 1) written) (place + 1)) (sym w.bytes-is) more);
          })
      | else-bits-eq1 w ↦ (let even : bits % 2 ≡ 0 = omega (arith, w.if-bits-eq1.false) in
          let more = spread_even tag written c.loop-place.bytes bits (drop next written) place c.loop-place.invariant.spreads c.loop-place-test.true even in
          record {
            inside = omega (arith, w.next-is, c.loop-place.invariant.inside);
            spreads = subst (λ (n : ℕ). Spreads tag written c.if-bits-eq1.bytes (bits / 2) (drop n written) (place + 1)) (sym w.next-is)
                (subst (λ (b : List ℕ). Spreads tag written b (bits / 2) (drop next written) (place + 1)) (sym w.bytes-is) more);
          })
    ]

pub returns-then-next-written : goal.returns-then-next-written
returns-then-next-written c =
    let written = c.args.written.now in
    let none = drop_all c.loop-place.next written (omega (arith, c.if-next-written.true)) in
    let stopped = subst (λ (left : List ℕ). Spreads c.args.tag written c.loop-place.bytes c.loop-place.bits left c.loop-place.place) none c.loop-place.invariant.spreads in
    let all = spread_stops c.args.tag written c.loop-place.bytes c.loop-place.bits c.loop-place.place stopped c.loop-place-test.true c.if-bits-eq1.true in
    record { known = all.known; word = all.word; count = all.count }

pub returns : goal.returns
returns c =
    let written = c.args.written.now in
    let eight : c.loop-place.place ≡ 8 = omega (arith, c.loop-place-test.false) in
    let all = spread_whole c.args.tag written c.loop-place.bytes c.loop-place.bits (drop c.loop-place.next written) c.loop-place.place c.loop-place.invariant.spreads eight in
    record { known = all.known; word = all.word; count = all.count }
