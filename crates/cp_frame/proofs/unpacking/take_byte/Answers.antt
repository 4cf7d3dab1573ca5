use Rattle.std.proofs.Common.{◌≡◌, ◌+◌, ◌-◌, ◌++◌, ◌∷◌, [], ℕ, List, length, take, replicate, refl, sym, ◌∙◌, ap, arith}
use Rattle.std.specs.Vec.{vec_len}
use Rattle.std.proofs.lemmas.List.{append-nil}
use Rattle.cp_packed.specs.Unpacking.{brought, pending_of}
use Rattle.cp_packed.proofs.Bytes.{filled_up}
use Rattle.cp_frame.proofs.unpacking.take_byte.Goals as goal

pub returns-clause-takes : goal.returns-clause-takes
returns-clause-takes c =
    let old = c.args.words.now.items in
    let p = pending_of c.args.group.now in
    let run = c.in_ok-run.run' in
    let n = c.len-2.result + run.count in
    let resized : c.resize.new.self.items ≡ take n old ++ replicate (n - vec_len c.args.words.now) run.word = c.in_ok-resize.ensures.items in
    let same : vec_len c.args.words.now ≡ length old = omega arith in
    let filled = ap (λ (m : ℕ). take n old ++ replicate (n - m) run.word) same ∙ filled_up old n run.count run.word (omega (arith, c.len-2.ensures)) in
    record {
      front = c.args.byte ∷ [];
      whole = refl;
      puts = resized ∙ filled ∙ ap (λ (ws : List ℕ). old ++ ws) (c.in_ok-run.ensures.words ∙ sym (append-nil (brought p c.args.byte)));
      open_then = sym c.in_ok-run.ensures.state;
      within = omega (arith, c.in_ok-resize.ensures.len, c.if-limit-len.false, c.len.ensures, c.len-2.ensures, c.requires.within);
    }
