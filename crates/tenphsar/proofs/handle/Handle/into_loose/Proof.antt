-- `into_loose` says again what the pointer points to, and hands on what the handle owns.
use Rattle.std.proofs.Common.{◌≡◌, List, [], ◌∷◌, ◌++◌, refl, sym, ◌∙◌}
use Rattle.std.specs.Prelude.{Option, None, Some, IsSome}
use mir.Syntax.{Fn}
use mir.Val.{Val, vstruct, of_list}
use mathlib.Core.Bool.{true≢false}
use base.Logic.{SProp, emp}
use prog.Wp.{WpFn}
use contract.Monad.{fact, fact_i}
use contract.Running.{tables}
use types.Kit.{‵, raw, prop, ◌⊛◌, ◌$◌, ◌∵◌, !, qed, by, move, keep, drop, use0, split, fsplit, fsplit3, fjoin, fpick, fpack, feq_i, feq_l, rewrite, regoal}
use types.Part.{agg, sub, whole}
use types.Run.{stop, fld, of_opd, no_more, and_then, returns, enter}
use types.ByLocal.{alloc_all, pass_all, free_all, look_at, get, get_in, sets}
use denote.RattleType.{Valss, owns}
use denote.Exit.{yes}
use denote.Builtin.{RawPtr}
use denote.RawPtr.{Ptr, ptr_val}
use denote.Signature.{types_at, plain}
use denote.Steps.{nothing, heard}
use denote.Struct.Struct.{within}
use denote.Struct.Owning.{shape}
use denote.Triple.Entry.{alive}
use denote.Triple.Walked.{Stays, stay_dropped, walk_of, Goes-dropped}
use Rattle.std.proofs.raw_atomic.Walks.{proved_at, leaves}
use Rattle.std_alloc.proofs.ResultValues.{and_tt}
use Rattle.tenphsar.proofs.HandleValues.{Bare, global_val, global_told, handle_val, handle_typed, ptr_typed}
use Rattle.tenphsar.proofs.LooseValues.{both}
use Rattle.tenphsar.specs.Rows.{handle_owns}
use Rattle.smil_top.specs.declared.held.Held.{Held}
use Rattle.smil_top.specs.contracts.held.Held as held
use Rattle.tenphsar.specs.contracts.handle.Handle as handle
use Rattle.tenphsar.specs.contracts.loose.Loose as loose
use Rattle.std.specs.contracts.alloc.Global as global
use Rattle.std.specs.contracts.impls.GlobalAllocator.TheImpl.{ghosts}
use Rattle.tenphsar.specs.contracts.handle.Handle.into_loose.{ended, clauses}
use Rattle.tenphsar.specs.contracts.handle.Handle.into_loose.Key.{name as #self}
use Rattle.tenphsar.proofs.handle.Handle.into_loose.Statement.{statement}
use Rattle.tenphsar.proofs.handle.Handle.into_loose.Code as compiled

open_is : (o : Option Held) → IsSome o → (x : Held) × (o ≡ Some x)
open_is None is = absurd (true≢false (sym is))
open_is (Some x) is = (x, refl)

pub into_loose_spec : {M : Type 1} → statement M
into_loose_spec 𝓤 𝓛 𝓜 𝓡 wired =
    let H = 𝓛.H in let c = clauses 𝓛 𝓜.mem 𝓡.returns in let fn : Fn = compiled.function in
    let stays : Stays ended.signature.params ended.kept = (stay_dropped (plain (λ _. handle.the_row)) yes, (stay_dropped (plain (λ _. global.the_row)) yes, tt)) in
    let C = (tables 𝓤 H 𝓜 𝓡 𝓡.env).C in let Λ = (tables 𝓤 H 𝓜 𝓡 𝓡.env).Λ in
    proved_at 𝓛 ended stays c 𝓜 𝓡 (Goes-dropped 𝓛 0 (plain (λ _. handle.the_row)) yes (λ κs x f. refl), (Goes-dropped 𝓛 0 (plain (λ _. global.the_row)) yes (λ κs x f. refl), tt))
    #self fn (compiled.unfolded 𝓤 H 𝓜 𝓡 wired) (λ z are.
    let Post : Val → SProp 𝓤 = (walk_of 𝓛 ended stays c).post z in
    let v = z.0.3.0 in let a = z.0.3.1.0 in let p : Ptr = v.at in
    qed 𝓛 ((raw (alive 𝓛 ended.signature z.0.0 z.0.1) ⊛ ‵ (owns (types_at ended.signature.params z.0.0) z.0.3 z.0.4)) ∷ raw (fact 𝓤 (IsSome v.value)) ∷ []) ∵
    move ! (1 ∷ []) $ heard ! (IsSome v.value) (λ is. let found = open_is v.value is in let x = found.0 in
    let eg : z.0.4.1.0 ≡ global_val ∷ [] = global_told a z.0.4.1.0 are.1.0 in
    let Said : Type 0 = Some x ≡ v.value in let made : Bare.Denot = record { at = p; alloc = a; value = x } in let w : Val = both (ptr_val p) global_val in
    split ! $ move ! (1 ∷ []) $ fsplit3 ! $ fsplit ! $ fpick ! (λ vss. fsplit ! $ feq_l ! (λ ev. fsplit ! $ feq_l ! (λ ep. drop ! $
    let eh : z.0.4.0 ≡ handle_val p ∷ [] = ev ∙ (λ i. vstruct (of_list (ep i ++ [])) ∷ []) in
    -- [what is behind the handle; the allocator; nothing; the tokens]
    rewrite ! 0 (λ (o : Option Held). ‵ (handle_owns p o)) found.1 refl $ rewrite ! 1 (λ (vs : List Val). ‵ ((global.the_row).own_val a vs)) eg refl $
    regoal ! (λ (us : List Val). prop (WpFn 𝓤 H C Λ fn us Post)) (λ i. eh i ++ (eg i ++ [])) refl $
    enter ! C Λ fn (handle_val p ∷ global_val ∷ []) Post $ alloc_all ! (λ l. pass_all ! refl (handle_typed p, ((tt, ((tt, tt), tt)), tt)) $
    sets ! (of_opd ! (get_in ! (fld ! refl (stop !)) (sub ! 0 refl (whole !)))) refl (ptr_typed p) $
    sets ! (of_opd ! (get ! refl)) refl (ptr_typed p) $
    sets ! (agg ! (and_then ! (get ! refl) (and_then ! (get ! refl) (no_more !)))) refl (and_tt _ ((ptr_typed p).0), ((ptr_typed p).1, (((tt, tt), tt), tt))) $
    returns ! (look_at ! 0 refl) $ free_all ! refl $
    nothing ! $ move ! (2 ∷ 0 ∷ []) $ fjoin ! $ feq_i ! (List Val) (ptr_val p ∷ []) (ptr_val p ∷ []) refl $ fjoin ! $ feq_i ! (List Val) (w ∷ []) (w ∷ []) refl $ fjoin ! $
    fpack ! (Valss (RawPtr ∷ global.the_row ∷ [])) (within (shape (loose.the_type held.the_row global.the_row ghosts)) (p, (a, tt)) (w ∷ [])) (ptr_val p ∷ [], (global_val ∷ [], tt)) $ fjoin ! $
    -- [the result; nothing; the tokens]
    use0 𝓛 (raw (fact 𝓤 Said)) (fact_i 𝓤 Said (emp 𝓤) (sym found.1)) $ nothing ! $ nothing ! $ fjoin ! $ nothing ! $ fjoin ! $ move ! (4 ∷ 0 ∷ 2 ∷ 1 ∷ []) $ keep ! (0 ∷ 1 ∷ 2 ∷ 3 ∷ []) $
    by ! (leaves 𝓛 ended stays c z w made (tt, (tt, tt)) (tt, (tt, tt)))))))))
