-- Pruned trees: what is denoted, and a body with nothing on its pointers.
use Rattle.std.proofs.Common.{◌≡◌, ℕ, zero, suc, ◌+◌, ◌*◌, ◌/◌, ◌≤◌, List, length, refl, ap, arith}
use Rattle.cp_words.specs.Word.{words_for}
use Rattle.cp_words.specs.declared.pointer.ElementSize.TheVariants as sizes
use Rattle.cp_reading.specs.declared.area.Form.{Form}
use Rattle.cp_reading.specs.declared.area.Form.TheVariants as forms
use Rattle.cp_tree.specs.Node.{element_size, element_count, Node, null, cap, struct, list, ptrs, structs, Nodes, no_nodes, node, Bodies, no_bodies, body, count, number_of}
use Rattle.cp_words.specs.Targets.{segment, words_at}
use Rattle.cp_reading.specs.Locates.{Locates}
use Rattle.cp_tree.specs.Elements.{elements_of}
use Rattle.cp_reading.specs.Denotes.{Denotes, EachDenotes, EachBody}
use Rattle.cp_reading.specs.Pruned.{Prunes, EachPrunes, EachPrunesBody}
use Rattle.cp_reading.specs.Reading.{body_words, IsWhole}
use Rattle.cp_reading.specs.Fills.{IsBody, form_of}
use Rattle.cp_reading.proofs.Sound.{width, elements-made}

mutual
  pub denotes_prunes : (t : Node) (S : List (List ℕ)) (s p : ℕ) → Denotes S s p t → Prunes S s p t
  denotes_prunes null S s p h = h.0
  denotes_prunes (cap i) S s p h = h
  denotes_prunes (struct ws ts) S s p h = (h.0, h.1, h.2, (h.3.0, each_prunes ts S h.0 (h.1 + length ws) h.3.1))
  denotes_prunes (list es) S s p h = h
  denotes_prunes (ptrs ts) S s p h = (h.0, h.1, h.2, each_prunes ts S h.0 h.1 h.3)
  denotes_prunes (structs d n bs) S s p h = (h.0, h.1, h.2, each_body_prunes bs S h.0 h.1 d n h.3)

  pub each_prunes : (ts : Nodes) (S : List (List ℕ)) (s p : ℕ) → EachDenotes S s p ts → EachPrunes S s p ts
  each_prunes no_nodes S s p h = tt
  each_prunes (node t ts) S s p h = (denotes_prunes t S s p h.0, each_prunes ts S s (p + 1) h.1)

  pub each_body_prunes : (bs : Bodies) (S : List (List ℕ)) (s q d n : ℕ) → EachBody S s q d n bs → EachPrunesBody S s q d n bs
  each_body_prunes no_bodies S s q d n h = tt
  each_body_prunes (body ws ts bs) S s q d n h = (h.0, h.1, h.2, each_prunes ts S s (q + d) h.3, each_body_prunes bs S s (q + d + n) d n h.4)

-- the tree's body stands from word q of segment s on, with parts left out
abbrev pub PrunesBody : List (List ℕ) → ℕ → ℕ → Node → Type 0
PrunesBody S s q (struct ws ts) = (ws ≡ words_at S s q (length ws)) × EachPrunes S s (q + length ws) ts
PrunesBody S s q (list es) = es ≡ elements_of (words_at S s q (words_for (element_size es) (element_count es))) (element_size es) (element_count es)
PrunesBody S s q (ptrs ts) = EachPrunes S s q ts
PrunesBody S s q (structs d n bs) = EachPrunesBody S s q d n bs
PrunesBody S s q other = ⊥

pub prunes_body : (S : List (List ℕ)) (s p : ℕ) (t : Node) (s' q : ℕ) → Locates S s p (form_of t) s' q → PrunesBody S s' q t → Prunes S s p t
prunes_body S s p null s' q l f = absurd f
prunes_body S s p (cap i) s' q l f = absurd f
prunes_body S s p (struct ws ts) s' q l f = (s', q, l, f)
prunes_body S s p (list es) s' q l f = (s', q, l, f)
prunes_body S s p (ptrs ts) s' q l f = (s', q, l, f)
prunes_body S s p (structs d n bs) s' q l f = (s', q, l, f)

-- this many null pointers
pub nulls : ℕ → Nodes
nulls zero = no_nodes
nulls (suc n) = node null (nulls n)

pub count-nulls : (n : ℕ) → count (nulls n) ≡ n
unfolding nulls
count-nulls zero = refl
count-nulls (suc n) = ap suc (count-nulls n)

pub nulls_prune : (S : List (List ℕ)) (s n p : ℕ) → p + n ≤ length (segment S s) → EachPrunes S s p (nulls n)
unfolding nulls
nulls_prune S s zero p room = tt
nulls_prune S s (suc n) p room = (omega arith, nulls_prune S s n (p + 1) (omega arith))

module _ (S : List (List ℕ)) (s d n : ℕ) where
  pub blank_bodies : ℕ → ℕ → Bodies
  blank_bodies zero q = no_bodies
  blank_bodies (suc k) q = body (words_at S s q d) (nulls n) (blank_bodies k (q + d + n))

  pub number_of-blank : (k q : ℕ) → number_of (blank_bodies k q) ≡ k
  unfolding blank_bodies
  number_of-blank zero q = refl
  number_of-blank (suc k) q = ap suc (number_of-blank k (q + d + n))

  pub blank_bodies_prune : (k q : ℕ) → q + k * (d + n) ≤ length (segment S s) → EachPrunesBody S s q d n (blank_bodies k q)
  unfolding blank_bodies
  blank_bodies_prune zero q room = tt
  blank_bodies_prune (suc k) q room =
      let here : q + d + n + k * (d + n) ≤ length (segment S s) = omega arith in
      (width S s d q (omega arith), count-nulls n, refl, nulls_prune S s n (q + d) (omega arith), blank_bodies_prune k (q + d + n) here)

-- the body of a form with null on each pointer
pub blank : List (List ℕ) → Form → ℕ → ℕ → Node
blank S (forms.Struct d n) s q = struct (words_at S s q d) (nulls n)
blank S (forms.List sizes.Pointer n) s q = ptrs (nulls n)
blank S (forms.List size n) s q = list (elements_of (words_at S s q (words_for size n)) size n)
blank S (forms.Structs d n k) s q = structs d n (blank_bodies S s d n k q)

-- it stands there
pub record IsBlank (S : List (List ℕ)) (f : Form) (s q : ℕ) : Type 0 where
  pub prunes : PrunesBody S s q (blank S f s q)
  pub is_body : IsBody (blank S f s q)
  pub form : form_of (blank S f s q) ≡ f

pub blank_stands : (S : List (List ℕ)) (f : Form) (s q : ℕ) → q + body_words f ≤ length (segment S s) → IsWhole f → IsBlank S f s q
unfolding blank
blank_stands S (forms.Struct d n) s q room w =
    let wide = width S s d q (omega arith) in
    record { prunes = (rw wide refl, rw wide (nulls_prune S s n (q + d) (omega arith))); is_body = tt; form = rw (wide, count-nulls n) refl }
blank_stands S (forms.List sizes.Pointer n) s q room w =
    let size : (n * 64 + 63) / 64 ≡ n = omega arith in
    record { prunes = nulls_prune S s n q (omega arith); is_body = tt; form = rw count-nulls refl }
blank_stands S (forms.List sizes.Composite n) s q room w = absurd w
blank_stands S (forms.List sizes.Void n) s q room w = record { prunes = refl; is_body = tt; form = refl }
blank_stands S (forms.List size n) s q room w =
    let made = elements-made (words_at S s q (words_for size n)) size n in
    record { prunes = rw made refl; is_body = tt; form = rw made refl }
blank_stands S (forms.Structs d n k) s q room w = record { prunes = blank_bodies_prune S s d n k q room; is_body = tt; form = rw number_of-blank refl }
