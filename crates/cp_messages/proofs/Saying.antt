-- What is made says what it is made of.
use Rattle.std.proofs.Common.{◌≡◌, ℕ, ◌-◌, ◌≤◌, ◌==◌, if◌then◌else◌, true, false, List, [], ◌∷◌, ◌++◌, length, map, take, get_or, refl, ap, ◌∙◌, length-append, arith}
use Rattle.std.specs.Prelude.{flat_map, All}
use Rattle.std.specs.Str.{IsUtf8, is_utf8}
use Rattle.std.proofs.lemmas.Bool.Decides.{nat_tests}
use Rattle.std.proofs.lemmas.List.Elements.{All-head, All-tail}
use Rattle.std.proofs.lemmas.Str.{is_utf8-from_IsUtf8}
use Rattle.std.proofs.Math.Seq.{take-append_seam, get_or-append_seam}
use Rattle.cp_tree.specs.Node.{Node, struct, data_of, row_of}
use Rattle.cp_tree.specs.NodeOf.{bodies_of}
use Rattle.cp_messages.specs.Fields.{u16_of, is_text, text_of, items_of, structs_in, list_faults, text_faults}
use Rattle.cp_messages.specs.Representable.{IsU16, IsPast, IsText, IsKind, IsOp}
use Rattle.cp_messages.specs.Written.{text_written, body_written, list_written, kind_number, op_number, op_field, op_written, transform_written}
use Rattle.cp_messages.specs.Denoted.{kind_denoted, op_by, op_denoted, ops_denoted}
use Rattle.cp_messages.specs.declared.exception.ExceptionKind.{ExceptionKind}
use Rattle.cp_messages.specs.declared.exception.ExceptionKind.TheVariants as kinds
use Rattle.cp_messages.specs.declared.fault.Field.{Field}
use Rattle.cp_messages.specs.declared.fault.SchemaFault.{SchemaFault}
use Rattle.cp_messages.specs.declared.fault.SchemaFault.TheVariants.{Text}
use Rattle.cp_messages.specs.declared.promised_answer.Op.{Op}
use Rattle.cp_messages.specs.declared.promised_answer.Op.TheVariants as ops
use Rattle.cp_messages.proofs.Words.{op_first, op_second}

-- a number past another isn't one up to it
pub not_number : (last n k : ℕ) → IsPast last n → k ≤ last → (n == k) ≡ false
not_number last n k past within = grind (arith, nat_tests)

pub kind_u16 : (k : ExceptionKind) → IsKind k → IsU16 (kind_number k)
kind_u16 kinds.Failed h = omega arith
kind_u16 kinds.Overloaded h = omega arith
kind_u16 kinds.Disconnected h = omega arith
kind_u16 kinds.Unimplemented h = omega arith
kind_u16 (kinds.Unknown n) h = h.1

pub kind_back : (k : ExceptionKind) → IsKind k → kind_denoted (kind_number k) ≡ k
kind_back kinds.Failed h = refl
kind_back kinds.Overloaded h = refl
kind_back kinds.Disconnected h = refl
kind_back kinds.Unimplemented h = refl
kind_back (kinds.Unknown n) h =
    rw (not_number 3 n 0 h (omega arith), not_number 3 n 1 h (omega arith), not_number 3 n 2 h (omega arith), not_number 3 n 3 h (omega arith)) refl

but_end : (bs : List ℕ) → take (length (bs ++ 0 ∷ []) - 1) (bs ++ 0 ∷ []) ≡ bs
but_end bs =
    let e : length (bs ++ 0 ∷ []) - 1 ≡ length bs = omega (arith, length-append bs (0 ∷ [])) in
    rw e (take-append_seam bs (0 ∷ []))

-- a text is read back
pub text_back : (bs : List ℕ) → text_of (text_written bs) ≡ bs
text_back [] = refl
text_back (b ∷ bs) = but_end (b ∷ bs)

ended_text : (bs : List ℕ) → IsUtf8 bs → is_text (bs ++ 0 ∷ []) ≡ true
ended_text bs h =
    let e : length (bs ++ 0 ∷ []) - 1 ≡ length bs = omega (arith, length-append bs (0 ∷ [])) in
    let last : get_or (bs ++ 0 ∷ []) (length (bs ++ 0 ∷ []) - 1) 1 ≡ 0 = rw e (get_or-append_seam bs 0 [] 1) in
    let text : is_utf8 (take (length (bs ++ 0 ∷ []) - 1) (bs ++ 0 ∷ [])) ≡ true = ap is_utf8 (but_end bs) ∙ is_utf8-from_IsUtf8 bs h in
    rw (last, text) refl

pub text_sound : (f : Field) (bs : List ℕ) → IsText bs → text_faults f (text_written bs) ≡ []
text_sound f [] h = refl
text_sound f (b ∷ bs) h = ap (λ t. if t then [] else (Text f ∷ [])) (ended_text (b ∷ bs) h.0)

-- the structs of a list are read back
structs_back : {X : Type 0} (made : X → Node) (same : (x : X) → struct (data_of (made x)) (row_of (made x)) ≡ made x) (xs : List X)
    → structs_in (bodies_of (map body_written (map made xs))) ≡ map made xs
structs_back made same [] = refl
structs_back made same (x ∷ xs) = ap (λ l. struct (data_of (made x)) (row_of (made x)) ∷ l) (structs_back made same xs) ∙ ap (λ t. t ∷ map made xs) (same x)

pub items_back : {X : Type 0} (d n : ℕ) (made : X → Node) (same : (x : X) → struct (data_of (made x)) (row_of (made x)) ≡ made x) (xs : List X)
    → items_of (list_written d n (map made xs)) ≡ map made xs
items_back d n made same [] = refl
items_back d n made same (x ∷ xs) = structs_back made same (x ∷ xs)

-- and so are the values that the structs say
pub values_back : {X : Type 0} (P : X → Type 0) (made : X → Node) (said : Node → X) (back : (x : X) → P x → said (made x) ≡ x) (xs : List X)
    → All P xs → map said (map made xs) ≡ xs
values_back P made said back [] h = refl
values_back P made said back (x ∷ xs) h =
    ap (λ y. y ∷ map said (map made xs)) (back x (All-head P x xs h)) ∙ ap (λ l. x ∷ l) (values_back P made said back xs (All-tail P x xs h))

-- no struct of a list has a fault
pub values_sound : {X : Type 0} (P : X → Type 0) (made : X → Node) (faults : Node → List SchemaFault) (sound : (x : X) → P x → faults (made x) ≡ []) (xs : List X)
    → All P xs → flat_map faults (map made xs) ≡ []
values_sound P made faults sound [] h = refl
values_sound P made faults sound (x ∷ xs) h =
    ap (λ l. l ++ flat_map faults (map made xs)) (sound x (All-head P x xs h)) ∙ values_sound P made faults sound xs (All-tail P x xs h)

-- the faults of a list of structs are those in its structs
pub list_sound : {X : Type 0} (f : Field) (inside : List Node → List SchemaFault) (d n : ℕ) (made : X → Node) (same : (x : X) → struct (data_of (made x)) (row_of (made x)) ≡ made x) (xs : List X)
    → list_faults f inside (list_written d n (map made xs)) ≡ inside (map made xs)
list_sound f inside d n made same [] = refl
list_sound f inside d n made same (x ∷ xs) = ap inside (structs_back made same (x ∷ xs))

pub op_u16 : (op : Op) → IsOp op → IsU16 (op_number op) × IsU16 (op_field op)
op_u16 ops.Noop h = (omega arith, omega arith)
op_u16 (ops.GetPointerField i) h = (omega arith, h)
op_u16 (ops.Unknown n) h = (h.1, omega arith)

op_back : (op : Op) → IsOp op → op_denoted (data_of (op_written op)) ≡ op
op_back op h =
    let fits = op_u16 op h in
    ap (λ n. op_by n (data_of (op_written op))) (op_first (op_number op) (op_field op) fits.0 fits.1) ∙ by op h (op_second (op_number op) (op_field op) fits.0 fits.1)
  where
    by : (op : Op) → IsOp op → u16_of (data_of (op_written op)) 1 ≡ op_field op → op_by (op_number op) (data_of (op_written op)) ≡ op
    by ops.Noop h field = refl
    by (ops.GetPointerField i) h field = ap ops.GetPointerField field
    by (ops.Unknown n) h field = rw (not_number 1 n 0 h (omega arith), not_number 1 n 1 h (omega arith)) refl

-- a transform is read back
pub transform_back : (os : List Op) → All IsOp os → ops_denoted (transform_written os) ≡ os
transform_back os h = ap (λ ts. map (λ x. op_denoted (data_of x)) ts) (items_back 1 0 op_written (λ x. refl) os) ∙ values_back IsOp op_written (λ x. op_denoted (data_of x)) op_back os h

pub transform_sound : (f : Field) (os : List Op) → list_faults f (λ ops. []) (transform_written os) ≡ []
transform_sound f os = list_sound f (λ ops. []) 1 0 op_written (λ x. refl) os
