-- `of` forgets what the pointer points to, and hands on what it owns.
use Rattle.std.proofs.Common.{◌≡◌, List, [], ◌∷◌, ◌++◌, refl, ◌∙◌}
use Rattle.std.specs.Prelude.{Option, Some}
use mir.Syntax.{Fn}
use mir.Val.{Val, vstruct, of_list}
use base.Logic.{SProp, emp}
use prog.Wp.{WpFn}
use contract.Monad.{fact, fact_i}
use contract.Running.{tables}
use types.Kit.{‵, raw, prop, ◌⊛◌, ◌$◌, ◌∵◌, !, qed, by, move, keep, drop, use0, split, fsplit, fjoin, fpick, feq_l, regoal}
use types.Part.{agg, sub, whole}
use types.Run.{stop, fld, of_opd, no_more, and_then, returns, enter}
use types.ByLocal.{alloc_all, pass_all, free_all, look_at, get, get_in, sets}
use denote.RattleType.{owns}
use denote.Laws.{Is, shows}
use denote.RawPtr.{Ptr, ptr_val}
use denote.Signature.{types_at, plain}
use denote.Steps.{nothing, peeks}
use denote.Triple.Entry.{alive}
use denote.Triple.Walked.{Stays, stay_dropped, walk_of, Goes-dropped}
use Rattle.std.proofs.raw_atomic.Walks.{proved_at, leaves}
use Rattle.std_alloc.proofs.ResultValues.{and_tt}
use Rattle.tenphsar.proofs.HandleValues.{Bare, global_val, global_told, handle_val, handle_own, handle_made, ptr_typed}
use Rattle.tenphsar.proofs.LooseValues.{both}
use Rattle.smil_top.specs.declared.held.Held.{Held}
use Rattle.smil_top.specs.contracts.held.Held as held
use Rattle.tenphsar.specs.contracts.handle.Handle as handle
use Rattle.tenphsar.specs.contracts.loose.Loose as loose
use Rattle.std.specs.contracts.alloc.Global as global
use Rattle.tenphsar.specs.contracts.handle.Handle.of.{ended, clauses}
use Rattle.tenphsar.specs.contracts.handle.Handle.of.Key.{name as #self}
use Rattle.tenphsar.proofs.handle.Handle.of.Statement.{statement}
use Rattle.tenphsar.proofs.handle.Handle.of.Code as compiled

pub of_spec : {M : Type 1} → statement M
of_spec 𝓤 𝓛 𝓜 𝓡 wired =
    let H = 𝓛.H in let c = clauses 𝓛 𝓜.mem 𝓡.returns in let fn : Fn = compiled.function in
    let stays : Stays ended.signature.params ended.kept = (stay_dropped (plain (λ _. Bare)) ended.kept.0, tt) in
    let C = (tables 𝓤 H 𝓜 𝓡 𝓡.env).C in let Λ = (tables 𝓤 H 𝓜 𝓡 𝓡.env).Λ in
    proved_at 𝓛 ended stays c 𝓜 𝓡 (Goes-dropped 𝓛 0 (plain (λ _. Bare)) ended.kept.0 (λ κs x f. refl), tt) #self fn (compiled.unfolded 𝓤 H 𝓜 𝓡 wired) (λ z are.
    let Post : Val → SProp 𝓤 = (walk_of 𝓛 ended stays c).post z in
    let v = z.0.3.0 in let p : Ptr = v.at in let w : Val = both (ptr_val p) global_val in
    let whole_value : Option Held = Some v.value in let Said : Type 0 = whole_value ≡ whole_value in let made : (handle.the_row).Denot = record { at = p; value = whole_value } in
    qed 𝓛 ((raw (alive 𝓛 ended.signature z.0.0 z.0.1) ⊛ ‵ (owns (types_at ended.signature.params z.0.0) z.0.3 z.0.4)) ∷ raw ((c z.0.0 z.0.3).requires z.1) ∷ []) ∵
    keep ! (0 ∷ []) $ split ! $ move ! (1 ∷ []) $ fsplit ! $ fsplit ! $ fpick ! (λ vss. fsplit ! $ feq_l ! (λ ev. fsplit ! $ feq_l ! (λ ep. fsplit ! $
    peeks ! (global.the_row) (Is (global.the_row)) (shows 𝓛 (global.the_row)) v.alloc vss.1.0 (λ told. let eg : vss.1.0 ≡ global_val ∷ [] = global_told v.alloc vss.1.0 told in
    let eh : z.0.4.0 ≡ w ∷ [] = ev ∙ (λ i. vstruct (of_list (ep i ++ (eg i ++ []))) ∷ []) in drop ! $ drop ! $
    -- [what is behind the pointer; nothing; the tokens]
    regoal ! (λ (us : List Val). prop (WpFn 𝓤 H C Λ fn us Post)) (λ i. eh i ++ []) refl $
    enter ! C Λ fn (w ∷ []) Post $ alloc_all ! (λ l. pass_all ! refl ((and_tt _ ((ptr_typed p).0), ((ptr_typed p).1, (((tt, tt), tt), tt))), tt) $
    sets ! (of_opd ! (get_in ! (fld ! refl (stop !)) (sub ! 0 refl (whole !)))) refl (ptr_typed p) $
    sets ! (of_opd ! (get ! refl)) refl (ptr_typed p) $
    sets ! (agg ! (and_then ! (get ! refl) (no_more !))) refl (and_tt _ ((ptr_typed p).0), ((ptr_typed p).1, tt)) $
    returns ! (look_at ! 0 refl) $ free_all ! refl $
    use0 𝓛 (‵ (handle_own p (handle_val p ∷ []))) (handle_made 𝓛 p) $ fjoin ! $
    use0 𝓛 (raw (fact 𝓤 Said)) (fact_i 𝓤 Said (emp 𝓤) refl) $ nothing ! $ nothing ! $ fjoin ! $ move ! (4 ∷ 0 ∷ 2 ∷ 1 ∷ []) $ keep ! (0 ∷ 1 ∷ 2 ∷ 3 ∷ []) $
    by ! (leaves 𝓛 ended stays c z (handle_val p) made (tt, tt) (tt, tt))))))))
