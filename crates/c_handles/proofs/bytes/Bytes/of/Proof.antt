-- `Bytes::of` keeps the address and the length, and owns nothing.
use Rattle.std.proofs.Common.{List, [], ◌∷◌, ◌++◌, ◌^◌, length, refl, w64}
use mir.Val.{Val, vptr, vint, vstruct, vcons, vnil}
use base.Logic.{SProp}
use contract.Running.{tables}
use prog.Wp.{WpFn}
use types.Kit.{‵, raw, ◌⊛◌, prop, ◌$◌, ◌∵◌, !, qed, move, keep, drop, split, fsplit, fjoin, fpack, feq_l, feq_i, regoal, suffices, done, flt_l, flt_i}
use types.Part.{agg, sub, whole}
use types.Run.{enter, returns, and_then, no_more, fld, stop, addr, from, hop, of_opd}
use types.ByLocal.{alloc_all, pass_all, free_all, look_at, get, get_in, sets, look_in_at}
use denote.Exit.{yes}
use denote.RattleType.{Valss, owns}
use denote.Builtin.{u8, SliceRefOf}
use denote.RawPtr.{block_ptr}
use denote.Signature.{plain, types_at}
use denote.Slice.{slice_val}
use denote.Steps.{nothing}
use denote.Struct.Struct.{within}
use denote.Struct.Declared as Declared
use denote.Triple.Entry.{alive}
use denote.Triple.Walked.{says, Stays, stay_dropped, walk_of, ends_at, Goes-dropped}
use Rattle.std.proofs.raw_atomic.Walks.{proved_at}
use Rattle.c_handles.specs.contracts.bytes.Bytes as view
use Rattle.c_handles.specs.contracts.bytes.Bytes.of.{ended, clauses}
use Rattle.c_handles.specs.contracts.bytes.Bytes.of.Key.{name as #self}
use Rattle.c_handles.proofs.bytes.Bytes.of.Statement.{statement}
use Rattle.c_handles.proofs.bytes.Bytes.of.Code as code

pub of_spec : {M : Type 1} → statement M
of_spec 𝓤 𝓛 𝓜 𝓡 wired =
    let H = 𝓛.H in let 𝓣 = tables 𝓤 H 𝓜 𝓡 𝓡.env in let c = clauses 𝓛 𝓜.mem 𝓡.returns in let fn = code.function in
    let slot = SliceRefOf (0 ∷ []) tt (plain (λ _. u8)) (λ _. tt) in
    let hs : Stays ended.signature.params ended.kept = (stay_dropped slot yes, tt) in
    proved_at 𝓛 ended hs c 𝓜 𝓡 (Goes-dropped 𝓛 1 slot yes (λ κs x f. refl), tt) #self fn (code.unfolded 𝓤 H 𝓜 𝓡 wired) (λ z are.
    let Post : Val → SProp 𝓤 = (walk_of 𝓛 ended hs c).post z in let n = length z.0.3.0.now in let b = z.0.3.0.ref_ptr.0 in let o = z.0.3.0.ref_ptr.1 in
    let d : (view.the_row).Denot = record { at = block_ptr b o; len = n } in let v : Val = vstruct (vcons (vptr b o) (vcons (vint w64 n) vnil)) in
    qed 𝓛 ((raw (alive 𝓛 ended.signature z.0.0 z.0.1) ⊛ ‵ (owns (types_at ended.signature.params z.0.0) z.0.3 z.0.4)) ∷ raw ((c z.0.0 z.0.3).requires z.1) ∷ []) ∵
    keep ! (0 ∷ []) $ split ! $ move ! (1 ∷ []) $ fsplit ! $ fsplit ! $ fsplit ! $ feq_l ! (λ is. fsplit ! $ flt_l ! (λ count. flt_l ! (λ size. drop ! $ drop ! $
    regoal ! (λ (us : List Val). prop (WpFn 𝓤 H 𝓣.C 𝓣.Λ fn (us ++ []) Post)) is refl $
    enter ! 𝓣.C 𝓣.Λ fn (slice_val (b, o) n ∷ []) Post $ alloc_all ! (λ l. pass_all ! refl ((tt, (tt, (record { fits = count }, tt))), tt) $
    sets ! (addr ! (from ! (fld ! refl (hop ! (look_in_at ! 1 (sub ! 0 refl (whole !))) (stop !))))) refl (tt, tt) $
    sets ! (of_opd ! (get_in ! (fld ! refl (stop !)) (sub ! 1 refl (whole !)))) refl (tt, record { fits = count }) $
    sets ! (agg ! (and_then ! (get ! refl) (and_then ! (get ! refl) (no_more !)))) refl (tt, (tt, (record { fits = count }, tt))) $
    returns ! (look_at ! 0 refl) $ free_all ! refl $
    suffices ! _ (ends_at 𝓛 ended hs c z v d (tt, tt) (tt, tt)) $ says ! refl $
    nothing ! $ flt_i ! n (2 ^ 64) count $ feq_i ! (List Val) (vint w64 n ∷ []) (vint w64 n ∷ []) refl $ fjoin ! $ fjoin ! $
    feq_i ! (List Val) (vptr b o ∷ []) (vptr b o ∷ []) refl $ fjoin ! $ feq_i ! (List Val) (v ∷ []) (v ∷ []) refl $ fjoin ! $
    fpack ! (Valss (Declared.shape view.the_type).fields) (within (Declared.shape view.the_type) (d.at, (d.len, tt)) (v ∷ [])) (vptr b o ∷ [], (vint w64 n ∷ [], tt)) $
    nothing ! $ nothing ! $ fjoin ! $ move ! (2 ∷ 0 ∷ 1 ∷ []) $ done !)))))
