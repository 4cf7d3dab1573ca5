-- The machine values of a handle, and what it owns, for each type of what is behind it. Assumes `Logic`.
use Rattle.std.proofs.Common.{◌≡◌, ℕ, List, [], ◌∷◌, ◌++◌, None, Some, refl, subst}
use mathlib.Core.Bool.{Bool, true, false, ◌&&◌}
use lib.Dec.{T, lit<}
use mir.Syntax.{ty_ptr}
use seplogic.Ra.Ura.{Ura}
use mir.Raw.{raw as bare}
use mir.Val.{Val, vbool, vstruct, vcons, vnil, of_list, has_ty}
use base.Logic.{never, id⊢, fst∗}
use base.Fml.{Fml, fsep, ffalse}
use types.Logic.{Logic, sem}
use types.Kit.{Item, Goal, Seq, Step, step, ‵, ◌$◌, move, drop, fsplit, fjoin, fpick, fpack, feq_i, feq_l}
use denote.RattleType.{RattleType, Valss}
use denote.Builtin.{bool, RawPtr}
use denote.Memory.{lone}
use denote.RawPtr.{Ptr, block_ptr, null_ptr, ptr_val, in_a_block}
use denote.Steps.{nothing}
use denote.Param.{layout}
use denote.Struct.Struct.{Shape, Struct, within}
use denote.Struct.Owning.{Owning}
use Rattle.core.proofs.alloc.Calls.{handle_tells}
use Rattle.core.proofs.cell.Inside.{Good}
use Rattle.std_alloc.specs.Box.Ownership.{box_owns}
use Rattle.std.specs.Global.{Global}
use Rattle.std.specs.declared.option.Option.{Option}
use Rattle.std.specs.contracts.alloc.Global as heap
use Rattle.std.proofs.alloc.Global.TheLaws as heap_laws
use Rattle.std.specs.contracts.impls.GlobalAllocator.TheImpl.{ghosts}
use Rattle.c_handles.specs.Handle.{handle_owns}
use Rattle.c_handles.proofs.Values.{al}

abbrev pub Z : RattleType
Z = heap.the_row

abbrev IsNull : Ptr → Type 0
IsNull null_ptr = Unit {0}
IsNull (block_ptr b o) = ⊥

abbrev pub word : Val → Val → Bool → Val
word p h y = vstruct (vcons p (vcons h (vcons (vbool y) vnil)))

pub with_tt : (x : Bool) → T x → T (x && (true && true))
with_tt true t = tt
with_tt false t = absurd t

pub ptr_good : (p : Ptr) → Good ty_ptr (ptr_val p)
ptr_good (block_ptr b o) = (tt, tt)
ptr_good null_ptr = (tt, record { fits = lit< tt })

pub ptr_tt : (p : Ptr) (x : Bool) → T x → T (has_ty ty_ptr (ptr_val p) && (x && (true && true)))
ptr_tt (block_ptr b o) x t = with_tt x t
ptr_tt null_ptr x t = with_tt x t

-- a handle's declared type, and the row of what is behind it
module _ (H : Owning) (R : RattleType) where
  abbrev pub form : Shape
  form = record { name = H.name; args = H.args; types = H.types; fields = RawPtr ∷ Z ∷ bool ∷ [] }

  -- what a handle of these fields owns by value
  abbrev pub owned : Ptr → Global → Bool → Option R.Denot → List Val → Fml
  owned p a y k vs = fsep ((Struct form).own_val (p, (a, (y, tt))) vs) (handle_owns R a p y k)

  module _ {M : Type 1} {𝓤 : Ura M} {𝓛 : Logic 𝓤} {K : Type 0} {Γ : List (Item 𝓤)} {G : Goal 𝓤 𝓛.H} where
    -- a handle by value is [what it owns; the allocator]
    pub handle_out : K → (p : Ptr) (a : Global) (y : Bool) (k : Option R.Denot) (vs : List Val)
        → ((h : Val) → vs ≡ word (ptr_val p) h y ∷ [] → Good (layout Z) h → Seq K 𝓛 (‵ (handle_owns R a p y k) ∷ ‵ (Z.own_val a (h ∷ [])) ∷ Γ) G)
        → Seq K 𝓛 (‵ (owned p a y k vs) ∷ Γ) G
    handle_out t p a y k vs go =
        fsplit t $ fpick t (λ vss. fsplit t $ feq_l t (λ ev. fsplit t $ feq_l t (λ ep. fsplit t $ handle_tells (al R Z heap_laws.the_row_laws ghosts) t a vss.1.0 (λ h ea fits. move t (1 ∷ []) $ fsplit t $ feq_l t (λ eb. drop t $ move t (1 ∷ []) $
        go h (subst (λ (ws : List Val). vs ≡ vstruct (of_list (ptr_val p ∷ h ∷ (ws ++ []))) ∷ []) eb (subst (λ (ws : List Val). vs ≡ vstruct (of_list (ptr_val p ∷ (ws ++ (vss.1.1.0 ++ [])))) ∷ []) ea (subst (λ (ps : List Val). vs ≡ vstruct (of_list (ps ++ (vss.1.0 ++ (vss.1.1.0 ++ [])))) ∷ []) ep ev))) fits)))))

    pub handle_in : K → (p : Ptr) (a : Global) (y : Bool) (k : Option R.Denot) (h : Val)
        → Step K 𝓛 (‵ (owned p a y k (word (ptr_val p) h y ∷ [])) ∷ Γ) G (‵ (handle_owns R a p y k) ∷ ‵ (Z.own_val a (h ∷ [])) ∷ Γ) G
    handle_in t p a y k h = step (λ s. let v : Val = word (ptr_val p) h y in
        nothing t $ feq_i t (List Val) (vbool y ∷ []) (vbool y ∷ []) refl $ fjoin t $ move t (2 ∷ 0 ∷ []) $ fjoin t $
        feq_i t (List Val) (ptr_val p ∷ []) (ptr_val p ∷ []) refl $ fjoin t $ feq_i t (List Val) (v ∷ []) (v ∷ []) refl $ fjoin t $
        fpack t (Valss (RawPtr ∷ Z ∷ bool ∷ [])) (within form (p, (a, (y, tt))) (v ∷ [])) (ptr_val p ∷ [], (h ∷ [], (vbool y ∷ [], tt))) $ fjoin t $ s)

    -- it owns a block, or it is closed
    pub either : K → (a : Global) (p : Ptr) (y : Bool) (k : Option R.Denot)
        → ((b o : ℕ) (x : R.Denot) → p ≡ block_ptr b o → y ≡ true → k ≡ Some x → Seq K 𝓛 (‵ (box_owns (ghosts.dealloc_token a) R (block_ptr b o) x) ∷ Γ) G)
        → (y ≡ false → k ≡ None → Seq K 𝓛 Γ G) → Seq K 𝓛 (‵ (handle_owns R a p y k) ∷ Γ) G
    either t a p true (Some x) filled empty = in_a_block t p (λ q. box_owns (ghosts.dealloc_token a) R q x) (fst∗ 𝓤 (never 𝓤) (sem 𝓛 (ghosts.dealloc_token a (bare (lone R.mir)) null_ptr))) (λ b o e. filled b o x e refl refl)
    either t a p true None filled empty = in_a_block t null_ptr (λ _. ffalse) (id⊢ 𝓤 (never 𝓤)) (λ b o e. absurd (subst (λ (q : Ptr). IsNull q) e tt))
    either t a p false (Some x) filled empty = in_a_block t null_ptr (λ _. ffalse) (id⊢ 𝓤 (never 𝓤)) (λ b o e. absurd (subst (λ (q : Ptr). IsNull q) e tt))
    either t a p false None filled empty = drop t $ empty refl refl
