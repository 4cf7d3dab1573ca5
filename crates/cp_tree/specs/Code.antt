-- A tree as a list of steps that build it, which gives it back: a `Model` distinguishes its values by such a code.
use Rattle.std.specs.Prelude.{◌≡◌, ℕ, zero, suc, List, [], ◌∷◌, ◌++◌, Bool, true, false, map, ◌==◌}
use Rattle.std.specs.Coded.{Coded, code_by, coded_list, coded_ℕ}
use Rattle.std.proofs.Common.{refl, ap, ◌∙◌}
use Rattle.cp_tree.specs.Node.{Elements, voids, bits, bytes, halves, quads, words, Node, null, cap, struct, list, ptrs, structs, Nodes, no_nodes, node, Bodies, no_bodies, body}

abbrev pub Steps : Type 0
Steps = List (List ℕ)

abbrev pub bit_of : Bool → ℕ
bit_of false = 0
bit_of true = 1

-- elements without pointers as numbers, the first of which says of what size they are
abbrev pub numbers_of : Elements → List ℕ
numbers_of (voids n) = 0 ∷ n ∷ []
numbers_of (bits bs) = 1 ∷ map bit_of bs
numbers_of (bytes ns) = 2 ∷ ns
numbers_of (halves ns) = 3 ∷ ns
numbers_of (quads ns) = 4 ∷ ns
numbers_of (words ns) = 5 ∷ ns

abbrev pub elements_from : List ℕ → Elements
elements_from [] = voids 0
elements_from (zero ∷ []) = voids 0
elements_from (zero ∷ n ∷ more) = voids n
elements_from (suc zero ∷ ns) = bits (map (λ n. n == 1) ns)
elements_from (suc (suc zero) ∷ ns) = bytes ns
elements_from (suc (suc (suc zero)) ∷ ns) = halves ns
elements_from (suc (suc (suc (suc zero))) ∷ ns) = quads ns
elements_from (suc (suc (suc (suc (suc n)))) ∷ ns) = words ns

bits_back : (bs : List Bool) → map (λ n. n == 1) (map bit_of bs) ≡ bs
bits_back [] = refl
bits_back (false ∷ bs) = ap (λ more. false ∷ more) (bits_back bs)
bits_back (true ∷ bs) = ap (λ more. true ∷ more) (bits_back bs)

elements_back : (es : Elements) → elements_from (numbers_of es) ≡ es
elements_back (voids n) = refl
elements_back (bits bs) = ap bits (bits_back bs)
elements_back (bytes ns) = refl
elements_back (halves ns) = refl
elements_back (quads ns) = refl
elements_back (words ns) = refl

-- the steps that put a tree before the row in work
abbrev mutual
  pub steps : Node → Steps
  steps null = [] ∷ []
  steps (cap i) = (0 ∷ i ∷ []) ∷ []
  steps (struct ws ts) = (1 ∷ []) ∷ (row_steps ts ++ (2 ∷ ws) ∷ [])
  steps (list es) = (3 ∷ numbers_of es) ∷ []
  steps (ptrs ts) = (1 ∷ []) ∷ (row_steps ts ++ (4 ∷ []) ∷ [])
  steps (structs d c bs) = (5 ∷ []) ∷ (body_steps bs ++ (6 ∷ d ∷ c ∷ []) ∷ [])

  pub row_steps : Nodes → Steps
  row_steps no_nodes = []
  row_steps (node t ts) = row_steps ts ++ steps t

  pub body_steps : Bodies → Steps
  body_steps no_bodies = []
  body_steps (body ws ts bs) = body_steps bs ++ ((1 ∷ []) ∷ (row_steps ts ++ (7 ∷ ws) ∷ []))

-- rows and bodies in work, the newest first
pub record Work : Type 0 where
  pub rows : List Nodes
  pub lists : List Bodies

abbrev pub push_node : Node → List Nodes → List Nodes
push_node t [] = []
push_node t (row ∷ rows) = node t row ∷ rows

abbrev pub push_body : List ℕ → Nodes → List Bodies → List Bodies
push_body ws ts [] = []
push_body ws ts (bs ∷ lists) = body ws ts bs ∷ lists

abbrev pub close_struct : List ℕ → List Nodes → List Nodes
close_struct ws [] = []
close_struct ws (row ∷ rows) = push_node (struct ws row) rows

abbrev pub close_ptrs : List Nodes → List Nodes
close_ptrs [] = []
close_ptrs (row ∷ rows) = push_node (ptrs row) rows

abbrev pub close_structs : ℕ → ℕ → List Nodes → List Bodies → Work
close_structs d c rows [] = record { rows = rows; lists = [] }
close_structs d c rows (bs ∷ lists) = record { rows = push_node (structs d c bs) rows; lists = lists }

abbrev pub close_body : List ℕ → List Nodes → List Bodies → Work
close_body ws [] lists = record { rows = []; lists = lists }
close_body ws (row ∷ rows) lists = record { rows = rows; lists = push_body ws row lists }

abbrev pub put : Work → List Nodes → Work
put w rows = record { rows = rows; lists = w.lists }

abbrev pub step : List ℕ → Work → Work
step [] w = put w (push_node null w.rows)
step (zero ∷ []) w = w
step (zero ∷ i ∷ more) w = put w (push_node (cap i) w.rows)
step (suc zero ∷ more) w = put w (no_nodes ∷ w.rows)
step (suc (suc zero) ∷ ws) w = put w (close_struct ws w.rows)
step (suc (suc (suc zero)) ∷ ns) w = put w (push_node (list (elements_from ns)) w.rows)
step (suc (suc (suc (suc zero))) ∷ more) w = put w (close_ptrs w.rows)
step (suc (suc (suc (suc (suc zero)))) ∷ more) w = record { rows = w.rows; lists = no_bodies ∷ w.lists }
step (suc (suc (suc (suc (suc (suc zero))))) ∷ d ∷ c ∷ more) w = close_structs d c w.rows w.lists
step (suc (suc (suc (suc (suc (suc (suc n)))))) ∷ ws) w = close_body ws w.rows w.lists
step other w = w

abbrev pub build : Steps → Work → Work
build [] w = w
build (s ∷ more) w = build more (step s w)

abbrev pub first_of : List Nodes → Node
first_of [] = null
first_of (no_nodes ∷ rows) = null
first_of (node t ts ∷ rows) = t

abbrev pub in_front : Nodes → Nodes → Nodes
in_front no_nodes row = row
in_front (node t ts) row = node t (in_front ts row)

abbrev pub bodies_in_front : Bodies → Bodies → Bodies
bodies_in_front no_bodies bs = bs
bodies_in_front (body ws ts more) bs = body ws ts (bodies_in_front more bs)

build-append : (a b : Steps) (w : Work) → build (a ++ b) w ≡ build b (build a w)
build-append [] b w = refl
build-append (s ∷ a) b w = build-append a b (step s w)

in_front-nothing : (ts : Nodes) → in_front ts no_nodes ≡ ts
in_front-nothing no_nodes = refl
in_front-nothing (node t ts) = ap (node t) (in_front-nothing ts)

bodies_in_front-nothing : (bs : Bodies) → bodies_in_front bs no_bodies ≡ bs
bodies_in_front-nothing no_bodies = refl
bodies_in_front-nothing (body ws ts bs) = ap (body ws ts) (bodies_in_front-nothing bs)

abbrev pub work : List Nodes → List Bodies → Work
work rows lists = record { rows = rows; lists = lists }

mutual
  pub build-steps : (t : Node) (row : Nodes) (rows : List Nodes) (lists : List Bodies) → build (steps t) (work (row ∷ rows) lists) ≡ work (node t row ∷ rows) lists
  build-steps null row rows lists = refl
  build-steps (cap i) row rows lists = refl
  build-steps (struct ws ts) row rows lists =
      build-append (row_steps ts) ((2 ∷ ws) ∷ []) (work (no_nodes ∷ row ∷ rows) lists) ∙ rw (build-row_steps ts no_nodes (row ∷ rows) lists, in_front-nothing ts)
  build-steps (list es) row rows lists = ap (λ e. work (node (list e) row ∷ rows) lists) (elements_back es)
  build-steps (ptrs ts) row rows lists =
      build-append (row_steps ts) ((4 ∷ []) ∷ []) (work (no_nodes ∷ row ∷ rows) lists) ∙ rw (build-row_steps ts no_nodes (row ∷ rows) lists, in_front-nothing ts)
  build-steps (structs d c bs) row rows lists =
      build-append (body_steps bs) ((6 ∷ d ∷ c ∷ []) ∷ []) (work (row ∷ rows) (no_bodies ∷ lists)) ∙ rw (build-body_steps bs (row ∷ rows) no_bodies lists, bodies_in_front-nothing bs)

  pub build-row_steps : (ts : Nodes) (row : Nodes) (rows : List Nodes) (lists : List Bodies) → build (row_steps ts) (work (row ∷ rows) lists) ≡ work (in_front ts row ∷ rows) lists
  build-row_steps no_nodes row rows lists = refl
  build-row_steps (node t ts) row rows lists =
      build-append (row_steps ts) (steps t) (work (row ∷ rows) lists) ∙ rw (build-row_steps ts row rows lists) (build-steps t (in_front ts row) rows lists)

  pub build-body_steps : (bs : Bodies) (rows : List Nodes) (first : Bodies) (lists : List Bodies) → build (body_steps bs) (work rows (first ∷ lists)) ≡ work rows (bodies_in_front bs first ∷ lists)
  build-body_steps no_bodies rows first lists = refl
  build-body_steps (body ws ts bs) rows first lists =
      build-append (body_steps bs) ((1 ∷ []) ∷ (row_steps ts ++ (7 ∷ ws) ∷ [])) (work rows (first ∷ lists))
      ∙ rw (build-body_steps bs rows first lists) (build-append (row_steps ts) ((7 ∷ ws) ∷ []) (work (no_nodes ∷ rows) (bodies_in_front bs first ∷ lists))
      ∙ rw (build-row_steps ts no_nodes rows (bodies_in_front bs first ∷ lists), in_front-nothing ts))

-- the tree that the steps build
abbrev pub built : Steps → Node
built ss = first_of (build ss (work (no_nodes ∷ []) [])).rows

abbrev pub tree_code : Coded Node
tree_code = code_by Steps (coded_list (coded_list coded_ℕ)) steps built (λ t. ap (λ w. first_of w.rows) (build-steps t no_nodes [] []))
