-- How calls that write follow one another.
use Rattle.std.proofs.Common.{◌≡◌, ℕ, ◌+◌, ◌-◌, ◌*◌, ◌≤◌, ◌==◌, if◌then◌else◌, negsuc, Bool, true, false, List, [], ◌∷◌, ◌++◌, length, replicate, Option, Some, Err, arith}
use Rattle.std.proofs.lemmas.List.{length-set, length-append}
use Rattle.cp_words.specs.declared.pointer.Pointer.TheVariants as pointers
use Rattle.cp_tree.specs.Node.{element_size, element_count, Node, null, cap, struct, list, ptrs, structs, Nodes, no_nodes, node, Bodies, no_bodies, body, count, number_of}
use Rattle.cp_tree.specs.declared.fault.WriteFault.TheVariants as writes
use Rattle.cp_words.specs.Word.{word_of}
use Rattle.cp_words.specs.declared.pointer.ElementSize.TheVariants as sizes
use Rattle.cp_words.specs.declared.kind.BodyKind.{BodyKind}
use Rattle.cp_words.specs.declared.kind.BodyKind.TheVariants as kinds
use Rattle.cp_writing.specs.Packed.{packed}
use Rattle.cp_writing.specs.Sheets.{body_word}
use Rattle.cp_writing.specs.Writing.{body_blank, bodies_blank, tag_word}
use Rattle.cp_canonical.specs.Arenas.{Writes, pointed, with_body, with_struct, with_ptrs, with_tag, with_tree, with_row, with_bodies}
use Rattle.cp_canonical.specs.declared.fault.CanonicalFault.{CanonicalFault}
use Rattle.cp_canonical.specs.declared.fault.CanonicalFault.TheVariants as faults
use Rattle.cp_canonical.specs.declared.arena.Arena.{Arena}

-- A call that fails where more would have been written makes the whole fail.
pub fails : (X Y : Type 0) (old mid new last : Arena) (e : CanonicalFault) (c c' : Option ℕ) (f g : List ℕ → List ℕ)
    → mid.most ≡ old.most → ((i : ℕ) → c ≡ Some i → c' ≡ Some i) → length (f mid.words.items) ≤ length (g old.words.items) → Writes {X = X} mid new (Err e) c f → Writes {X = Y} old last (Err e) c' g
fails X Y old mid new last (faults.Capability i) c c' f g most caps longer h = caps i h
fails X Y old mid new last (faults.Write writes.TooManyWords) c c' f g most caps longer h = omega (arith, most, longer, h)
fails X Y old mid new last (faults.Write writes.OutOfMemory) c c' f g most caps longer h = tt
fails X Y old mid new last (faults.Write writes.TooDeep) c c' f g most caps longer h = absurd h
fails X Y old mid new last (faults.Write writes.TooCostly) c c' f g most caps longer h = absurd h
fails X Y old mid new last (faults.Tree fault) c c' f g most caps longer h = absurd h
fails X Y old mid new last (faults.Difference at) c c' f g most caps longer h = absurd h

-- ---- no word goes

longer_body : (p : ℕ) (k : BodyKind) (ws vs : List ℕ) → length vs ≤ length (with_body p k ws vs)
longer_body p k ws vs = omega (arith, length-append (pointed p k vs) ws, length-set vs p (body_word k (length vs - (p + 1))))

either : (P : List ℕ → Type 0) (b : Bool) (x y : List ℕ) → P x → P y → P (if b then x else y)
either P true x y h k = h
either P false x y h k = k

pub longer_struct : (p n : ℕ) (ws vs : List ℕ) → length vs ≤ length (with_struct p ws n vs)
longer_struct p n ws vs = either (λ us. length vs ≤ length us) (length ws + n == 0) _ _ (omega (arith, length-set vs p (word_of (pointers.Struct (negsuc 0) 0 0)))) (longer_body p (kinds.Struct (length ws) n) (body_blank ws n) vs)

mutual
  pub longer_tree : (t : Node) (p : ℕ) (vs : List ℕ) → length vs ≤ length (with_tree p t vs)
  longer_tree null p vs = omega (arith, length-set vs p 0)
  longer_tree (cap i) p vs = omega (arith, length-set vs p (word_of (pointers.Cap i)))
  longer_tree (struct ws ts) p vs = omega (arith, longer_struct p (count ts) ws vs, longer_row ts (length vs + length ws) (with_struct p ws (count ts) vs))
  longer_tree (list es) p vs = longer_body p (kinds.List (element_size es) (element_count es)) (packed es) vs
  longer_tree (ptrs ts) p vs = omega (arith, longer_body p (kinds.List sizes.Pointer (count ts)) (replicate (count ts) 0) vs, longer_row ts (length vs) (with_ptrs p (count ts) vs))
  longer_tree (structs d n bs) p vs = omega (arith, longer_body p (kinds.List sizes.Composite (number_of bs * (d + n))) (tag_word (number_of bs) d n ∷ []) vs, length-append (with_tag p d n (number_of bs) vs) (bodies_blank bs), longer_bodies bs (length vs + 1) d n (with_tag p d n (number_of bs) vs ++ bodies_blank bs))

  pub longer_row : (ts : Nodes) (p : ℕ) (vs : List ℕ) → length vs ≤ length (with_row p ts vs)
  longer_row no_nodes p vs = omega arith
  longer_row (node t ts) p vs = omega (arith, longer_tree t p vs, longer_row ts (p + 1) (with_tree p t vs))

  pub longer_bodies : (bs : Bodies) (q d n : ℕ) (vs : List ℕ) → length vs ≤ length (with_bodies q d n bs vs)
  longer_bodies no_bodies q d n vs = omega arith
  longer_bodies (body ws ts bs) q d n vs = omega (arith, longer_row ts (q + d) vs, longer_bodies bs (q + d + n) d n (with_row (q + d) ts vs))
