use Rattle.std.proofs.Common.{◌≡◌, ◌∷◌, ◌<◌, ◌≤◌, [], ℕ, List, length, drop, get_or, sym, subst, ◌∙◌, ap, arith}
use Rattle.std.proofs.lemmas.Result.{err_from_is_err_and}
use Rattle.std.proofs.lemmas.Bool.Decides.{nat_tests}
use Rattle.cp_packed.specs.Unpacking.{Pending, nothing, given, after, laid, pending_of}
use Rattle.cp_frame.specs.Bulk.{TakesWithin}
use Rattle.cp_packed.proofs.Laying.{brings_these}
use Rattle.cp_packed.proofs.Bytes.{bytes_by}
use Rattle.cp_frame.proofs.Limited.{within_byte, within_both, within_pending, within_whole, stops, past_at_end, cut_short}
use Rattle.cp_frame.proofs.Fronts.{first_left}
use Rattle.cp_frame.proofs.unpacking.unpack.Goals as goal
use Rattle.cp_frame.proofs.unpacking.unpack.Goals.{else-len-limit-via-then-len-limit+else-known-eq8, else-len-limit-via-else-len-limit}

pub take_byte-requires-clause-pending : goal.take_byte-requires-clause-pending
take_byte-requires-clause-pending c =
    let l = c.unpacking in
    within_pending c.args.limit c.args.bytes.now l.words.items l.left.now (pending_of l.group) (bytes_by c.args.bytes.now (λ j. omega (arith, c.type_inv.bytes j))) l.invariant

pub returns-in_err-take_byte-clause-refused : goal.returns-in_err-take_byte-clause-refused
returns-in_err-take_byte-clause-refused c =
    let l = c.unpacking in
    let p = pending_of l.group in
    let bytes = c.args.bytes.now in
    let left = l.left.now in
    let some : 0 < length left = grind (arith, nat_tests) in
    let front = subst (λ (b : List ℕ). TakesWithin c.args.limit [] nothing bytes l.words.items p b) (first_left left some) l.invariant in
    let e = err_from_is_err_and c.from_residual-in_err-take_byte.result c.from_residual-in_err-take_byte.ensures.1 in
    rw (e.1, e.2) (stops c.args.limit bytes l.words.items (drop 1 left) (get_or left 0 0) p c.in_err-take_byte.field-0.0 (bytes_by bytes (λ j. omega (arith, c.type_inv.bytes j))) front c.in_err-take_byte.ensures.fault)

pub take_front-requires-in-unpacking-clause-few : goal.take_front-requires-in-unpacking-clause-few
take_front-requires-in-unpacking-clause-few c =
    let l = c.unpacking in
    let bytes = c.args.bytes.now in
    let left = l.left.now in
    let p = pending_of l.group in
    let q = pending_of c.take_byte.new.group in
    let some : 0 < length left = grind (arith, nat_tests) in
    let front = within_byte c.args.limit [] l.words.items c.take_byte.new.words.items bytes left (drop 1 left) (get_or left 0 0) nothing p q l.invariant (first_left left some) c.in_ok-take_byte.ensures.takes in
    (within_pending c.args.limit bytes c.take_byte.new.words.items (drop 1 left) q (bytes_by bytes (λ j. omega (arith, c.type_inv.bytes j))) front).few

pub unpacking-preserved : goal.unpacking-preserved
unpacking-preserved c =
    let l = c.unpacking in
    let bytes = c.args.bytes.now in
    let left = l.left.now in
    let x = get_or left 0 0 in
    let p = pending_of l.group in
    let q = pending_of c.take_byte.new.group in
    let mid = c.take_byte.new.words.items in
    let following = c.split_at.result.1.now in
    let some : 0 < length left = grind (arith, nat_tests) in
    let splits : left ≡ x ∷ following = first_left left some ∙ ap (λ (b : List ℕ). x ∷ b) (sym c.split_at.ensures.back) in
    let front = within_byte c.args.limit [] l.words.items mid bytes left following x nothing p q l.invariant splits c.in_ok-take_byte.ensures.takes in
    within_both c.args.limit [] mid c.take_front-in-unpacking.new.words.items bytes following c.in_ok-left-2.left.now nothing q (pending_of c.take_front-in-unpacking.new.group) front c.in_ok-left-2.ensures

pub returns-then-is_empty-clause-words : goal.returns-then-is_empty-clause-words
returns-then-is_empty-clause-words c =
    let l = c.unpacking in
    let bytes = c.args.bytes.now in
    let none : length l.left.now ≡ 0 = grind (arith, nat_tests) in
    let empty : pending_of l.group ≡ nothing = c.is_empty-2.ensures.0 c.if-is_empty.true in
    let all = within_whole c.args.limit bytes l.words.items l.left.now (pending_of l.group) l.invariant none in
    brings_these l.words.items bytes (bytes_by bytes (λ j. omega (arith, c.type_inv.bytes j))) (record { words = all.words; open_then = all.open_then ∙ empty })

pub laid-known-requires : goal.laid-known-requires
laid-known-requires c =
    let l = c.unpacking in
    within_pending c.args.limit c.args.bytes.now l.words.items l.left.now (pending_of l.group) (bytes_by c.args.bytes.now (λ j. omega (arith, c.type_inv.bytes j))) l.invariant

pub returns-then-known-eq8-clause-refused : goal.returns-then-known-eq8-clause-refused
returns-then-known-eq8-clause-refused c =
    let l = c.unpacking in
    let bytes = c.args.bytes.now in
    let none : length l.left.now ≡ 0 = grind (arith, nat_tests) in
    let all = within_whole c.args.limit bytes l.words.items l.left.now (pending_of l.group) l.invariant none in
    let count : length (given nothing bytes) ≡ c.args.limit = omega (arith, ap (λ (ws : List ℕ). length ws) all.words, c.len.ensures, c.if-len-limit.true) in
    let eight : length (laid (after nothing bytes)) ≡ 8 = ap (λ (p : Pending). length (laid p)) all.open_then ∙ sym c.laid-known.ensures.count ∙ c.if-known-eq8.true in
    past_at_end bytes c.args.limit (bytes_by bytes (λ j. omega (arith, c.type_inv.bytes j))) count eight

pub returns-clause-refused : goal.returns-clause-refused
returns-clause-refused c =
    let l = c.unpacking in
    let bytes = c.args.bytes.now in
    let none : length l.left.now ≡ 0 = grind (arith, nat_tests) in
    let all = within_whole c.args.limit bytes l.words.items l.left.now (pending_of l.group) l.invariant none in
    let not_empty : pending_of l.group ≡ nothing → ⊥ = λ e. (let t = c.is_empty-2.ensures.1 e in let f = c.if-is_empty.false in cc (t, f)) in
    let same = ap (λ (ws : List ℕ). length ws) all.words in
    let within : length (given nothing bytes) ≤ c.args.limit = omega (arith, same, l.invariant.within) in
    let known : c.laid-known.result.1 ≡ length (laid (after nothing bytes)) = c.laid-known.ensures.count ∙ ap (λ (p : Pending). length (laid p)) (sym all.open_then) in
    let sized : c.len.result ≡ length (given nothing bytes) = omega (arith, c.len.ensures, same) in
    cut_short bytes c.args.limit (bytes_by bytes (λ j. omega (arith, c.type_inv.bytes j))) (λ e. not_empty (sym all.open_then ∙ e)) within
    (λ e f. elim c.else-len-limit.branch [
      | else-len-limit-via-then-len-limit+else-known-eq8 w ↦ omega (arith, known, f, w.if-known-eq8.false)
      | else-len-limit-via-else-len-limit w ↦ omega (arith, sized, e, w.if-len-limit.false)
    ])
