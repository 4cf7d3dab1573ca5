-- `into_loose` moves what the handle owns, and makes nothing of a closed one.
use Rattle.std.proofs.Common.{◌≡◌, List, [], ◌∷◌, ◌++◌, None, Some, Bool, true, false, refl, sym, ap, ◌∙◌, subst, lit<}
use mir.Val.{Val, vptr, vcons, vnil}
use base.Logic.{SProp, ent, emp, id⊢}
use base.Fml.{ftrue}
use prog.Wp.{WpFn}
use types.Kit.{‵, raw, ◌⊛◌, at_ret, ◌$◌, ◌∵◌, !, qed, by, move, keep, split, fsplit, fjoin, suffices, use0, use1}
use types.Run.{stop, fld, of_opd, lit, no_more, and_then, first, branches, skips, exec, returns, returns_within, enter}
use types.ByLocal.{alloc_all, pass_all, free_all, look_at, get, get_in, sets, env}
use types.Part.{agg, sub, whole}
use types.Match.{live}
use contract.Monad.{fact, fact_i}
use contract.Running.{tables}
use denote.Exit.{yes}
use denote.RattleType.{RattleType, owns}
use denote.Signature.{types_at, plain}
use denote.RawPtr.{Ptr, block_ptr, ptr_val}
use denote.Steps.{nothing}
use denote.Param.{layout}
use denote.Triple.Walked.{Stays, stay_dropped, walk_of, Goes-dropped}
use Rattle.core.proofs.cell.Inside.{Good}
use Rattle.core.proofs.option.Made.{Some-of, none_of}
use Rattle.std.proofs.alloc.Global.TheLaws as heap_laws
use Rattle.std.proofs.raw_atomic.Walks.{proved_at, leaves}
use Rattle.std.specs.contracts.option.Option as option
use Rattle.std.specs.contracts.impls.GlobalAllocator.TheImpl.{ghosts}
use Rattle.c_handles.specs.Handle.{Took}
use Rattle.c_handles.specs.contracts.relay.RelayState.{the_row as relay_row}
use Rattle.c_handles.proofs.Values.{both, Loose, loose_good, loose_in}
use Rattle.std_alloc.proofs.ResultValues.{and_tt}
use Rattle.std.specs.declared.option.Option.{Option}
use Rattle.c_handles.specs.declared.relay.RelayState.{RelayState}
use Rattle.c_handles.specs.contracts.relay_handle.RelayHandle as handle
use Rattle.c_handles.proofs.Handles.{ptr_good, ptr_tt, Z, word, with_tt, handle_out, either}
use Rattle.c_handles.specs.contracts.relay_handle.RelayHandle.into_loose.{ended, clauses}
use Rattle.c_handles.specs.contracts.relay_handle.RelayHandle.into_loose.Key.{name as #self}
use Rattle.c_handles.proofs.relay_handle.RelayHandle.into_loose.Statement.{statement}
use Rattle.c_handles.proofs.relay_handle.RelayHandle.into_loose.Code as code

pub into_loose_spec : {M : Type 1} → statement M
into_loose_spec 𝓤 𝓛 𝓜 𝓡 wired =
    let H = 𝓛.H in let 𝓣 = tables 𝓤 H 𝓜 𝓡 𝓡.env in let LZ = heap_laws.the_row_laws in let c = clauses 𝓛 𝓜.mem 𝓡.returns in let fn = code.function in let Hd = handle.the_row in let Lr = Loose relay_row Z LZ ghosts in
    let hs : Stays ended.signature.params ended.kept = (stay_dropped (plain (λ _. Hd)) yes, tt) in
    proved_at 𝓛 ended hs c 𝓜 𝓡 (Goes-dropped 𝓛 0 (plain (λ _. Hd)) yes (λ κs x f. refl), tt) #self fn (code.unfolded 𝓤 H 𝓜 𝓡 wired) (λ z are.
    let Post : Val → SProp 𝓤 = (walk_of 𝓛 ended hs c).post z in let Run : List Val → SProp 𝓤 = λ ws. WpFn 𝓤 H 𝓣.C 𝓣.Λ fn ws Post in let v = z.0.3.0 in let Out : RattleType = option.the_row Lr in
    qed 𝓛 ((‵ ftrue ⊛ ‵ (owns (types_at ended.signature.params z.0.0) z.0.3 z.0.4)) ∷ raw (emp 𝓤) ∷ []) ∵ split ! $ move ! (1 ∷ []) $ fsplit ! $ handle_out handle.the_type relay_row ! v.at v.alloc v.is_open v.value z.0.4.0 (λ h ws fits. keep ! (0 ∷ 1 ∷ []) $
    either handle.the_type relay_row ! v.alloc v.at v.is_open v.value
    (λ b o x at_b is_open is_some. let w : Val = word (vptr b o) h true in let typed : Good (layout Hd) w = (with_tt _ fits.0, (tt, (fits.1, (tt, tt)))) in
    let made : Val = both (vptr b o) h in let fine = loose_good relay_row Z LZ ghosts b o h fits in let out : Val = live 1 (vcons made vnil) in let good : Good (layout Out) out = (and_tt _ fine.0, (record { fits = lit< tt }, (fine.1, tt))) in
    let d : Lr.Denot = record { at = block_ptr b o; alloc = v.alloc; value = x } in
    let is : z.0.4.0 ≡ w ∷ [] = ws ∙ ap (λ (p : Ptr). word (ptr_val p) h v.is_open ∷ []) at_b ∙ ap (λ (y : Bool). word (vptr b o) h y ∷ []) is_open in
    suffices ! (Run (w ∷ [])) (subst (λ (us : List Val). ent 𝓤 (Run (w ∷ [])) (Run us)) (sym (λ i. is i ++ [])) (id⊢ 𝓤 (Run (w ∷ [])))) $
    enter ! 𝓣.C 𝓣.Λ fn (w ∷ []) Post $ alloc_all ! (λ l. pass_all ! refl (typed, tt) $
    sets ! (of_opd ! (get_in ! (fld ! refl (stop !)) (sub ! 0 refl (whole !)))) refl (tt, tt) $ sets ! (of_opd ! (get_in ! (fld ! refl (stop !)) (sub ! 1 refl (whole !)))) refl fits $ sets ! (of_opd ! (get_in ! (fld ! refl (stop !)) (sub ! 2 refl (whole !)))) refl (tt, tt) $
    sets ! (of_opd ! (get ! refl)) refl (tt, tt) $ first ! $ branches ! (get ! refl)
    (λ _. sets ! (of_opd ! (get ! refl)) refl (tt, tt) $ sets ! (agg ! (and_then ! (get ! refl) (and_then ! (get ! refl) (no_more !)))) refl fine $ sets ! (agg ! (and_then ! (lit ! tt) (and_then ! (get ! refl) (no_more !)))) refl good $
    loose_in relay_row Z LZ ghosts ! b o h v.alloc x $ use1 𝓛 (‵ (Out.own_val (Some d) (out ∷ []))) (Some-of 𝓛 Lr d made) $
    use0 𝓛 (raw (fact 𝓤 (Took v.value (Some d)))) (fact_i 𝓤 (Took v.value (Some d)) (emp 𝓤) (subst (λ (k : Option RelayState). Took k (Some d)) (sym is_some) refl)) $ nothing ! $ nothing ! $ fjoin ! $ nothing ! $
    returns_within ! Post refl (look_at ! 0 refl) $ free_all ! refl $ keep ! (0 ∷ 1 ∷ 3 ∷ 2 ∷ []) $ by ! (leaves 𝓛 ended hs c z out (Some d) (tt, tt) (tt, tt)))
    (λ no. absurd no)))
    (λ is_shut is_none. let w : Val = word (ptr_val v.at) h false in let at_ok = ptr_good v.at in let typed : Good (layout Hd) w = (ptr_tt v.at _ fits.0, (at_ok.1, (fits.1, (tt, tt)))) in
    let is : z.0.4.0 ≡ w ∷ [] = ws ∙ ap (λ (y : Bool). word (ptr_val v.at) h y ∷ []) is_shut in let out : Val = live 0 vnil in
    suffices ! (Run (w ∷ [])) (subst (λ (us : List Val). ent 𝓤 (Run (w ∷ [])) (Run us)) (sym (λ i. is i ++ [])) (id⊢ 𝓤 (Run (w ∷ [])))) $
    enter ! 𝓣.C 𝓣.Λ fn (w ∷ []) Post $ alloc_all ! (λ l. pass_all ! refl (typed, tt) $
    sets ! (of_opd ! (get_in ! (fld ! refl (stop !)) (sub ! 0 refl (whole !)))) refl at_ok $ sets ! (of_opd ! (get_in ! (fld ! refl (stop !)) (sub ! 1 refl (whole !)))) refl fits $ sets ! (of_opd ! (get_in ! (fld ! refl (stop !)) (sub ! 2 refl (whole !)))) refl (tt, tt) $
    sets ! (of_opd ! (get ! refl)) refl (tt, tt) $ first ! $ branches ! (get ! refl)
    (λ no. absurd no)
    (λ _. skips ! $ exec ! 𝓣.C 𝓣.Λ (env fn.locals l) code.Mir.t-6 (at_ret _ Post) $ sets ! (agg ! (and_then ! (lit ! tt) (no_more !))) refl (tt, (record { fits = lit< tt }, tt)) $
    use0 𝓛 (‵ (Out.own_val None (out ∷ []))) (none_of 𝓛 Lr) $
    use0 𝓛 (raw (fact 𝓤 (Took v.value None))) (fact_i 𝓤 (Took v.value None) (emp 𝓤) (subst (λ (k : Option RelayState). Took k None) (sym is_none) tt)) $ nothing ! $ nothing ! $ fjoin ! $ nothing ! $
    returns ! (look_at ! 0 refl) $ free_all ! refl $ keep ! (0 ∷ 1 ∷ 3 ∷ 2 ∷ []) $ by ! (leaves 𝓛 ended hs c z out None (tt, tt) (tt, tt)))))))
