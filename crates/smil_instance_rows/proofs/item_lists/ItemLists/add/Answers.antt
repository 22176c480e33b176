use Rattle.std.proofs.Common.{◌≡◌, ◌∙◌, sym, ap, subst, [], ◌∷◌, ◌++◌, Ok, Err}
use Rattle.std.specs.Prelude.{IfSome, OnOk, OnErr, Result, get_or, set}
use Rattle.std.proofs.lemmas.Result.{on_ok_weaker}
use Rattle.smil_instance_rows.specs.Places.{IsNotAfter}
use Rattle.smil_instance_rows.specs.Values.{merged, with_idle, with_value}
use Rattle.smil_instance_rows.proofs.IdleItems.{changed_item, get_idle, same_merged}
use Rattle.smil_instance_rows.proofs.MergedValues.{merged_push, set_same}
use Rattle.smil_model.proofs.RisingLists.{default_free}
use Rattle.smil_instance_rows.proofs.item_lists.ItemLists.add.Goals as goal

by_result : {X E A B C D G : Type 0} (r : Result X E) → OnOk r A → OnOk r B → OnErr r C → OnErr r D → (A → B → G) → (C → D → G) → G
by_result (Ok x) a b c d ok err = ok a b
by_result (Err e) a b c d ok err = err c d

pub invariant_of-self : goal.invariant_of-self
invariant_of-self g c =
    c.self.invariant
    ∙ same_merged g.T.Instant.at_most g.T.Instant.choose c.self.inside.idle c.lay_out.new.idle c.self.inside.items.items c.lay_out.new.items.items (sym c.lay_out.ensures.same)

pub add-requires : goal.add-requires
add-requires g c =
    let items = c.lay_out.new.items.items in
    let own = c.unwrap-list.result.now in
    let value : own ≡ get_or items c.args.item own = subst (λ r. IfSome r (λ x. x.now ≡ get_or items c.args.item x.now)) c.unwrap-list.ensures c.get_mut.ensures.value in
    let all : with_idle c.lay_out.new.idle items ≡ c.args.self.now = c.lay_out.ensures.same ∙ c.self.view_is in
    let is : own ≡ get_or c.args.self.now c.args.item [] =
    value ∙ default_free items c.args.item own [] c.in_ok-lay_out.ensures.ok ∙ sym (get_idle c.lay_out.new.idle c.args.item items) ∙ ap (λ xs. get_or xs c.args.item []) all in
    subst (IsNotAfter c.args.last.place) (sym is) c.requires.order

pub invariant_of-self-2 : goal.invariant_of-self-2
invariant_of-self-2 g c =
    let le = g.T.Instant.at_most in
    let choose = g.T.Instant.choose in
    let items = c.lay_out.new.items.items in
    let inside = c.in_ok-lay_out.ensures.ok in
    let value : c.unwrap-list.result.now ≡ get_or items c.args.item c.unwrap-list.result.now = subst (λ r. IfSome r (λ x. x.now ≡ get_or items c.args.item x.now)) c.unwrap-list.ensures c.get_mut.ensures.value in
    let before : c.self.inside.sorted ≡ merged le choose items = c.self.invariant ∙ same_merged le choose c.self.inside.idle c.lay_out.new.idle c.self.inside.items.items items (sym c.lay_out.ensures.same) in
    by_result {G = c.add.new.sorted ≡ merged le choose (set items c.args.item c.add.new.kept)} c.add.result c.add.ensures.kept c.add.ensures.sorted c.add.ensures.kept_stays c.add.ensures.sorted_stays
    (λ kept put. put ∙ ap (with_value le (choose c.args.last.time)) before ∙ sym (ap (λ l. merged le choose (set items c.args.item l)) kept ∙ merged_push le g.T.Instant.order choose items c.args.item c.unwrap-list.result.now c.args.last inside value))
    (λ kept put. put ∙ before ∙ sym (ap (merged le choose) (ap (set items c.args.item) kept ∙ set_same items c.args.item c.unwrap-list.result.now value)))

pub returns-clause-ok : goal.returns-clause-ok
returns-clause-ok g c =
    let items = c.lay_out.new.items.items in
    let value : c.unwrap-list.result.now ≡ get_or items c.args.item c.unwrap-list.result.now = subst (λ r. IfSome r (λ x. x.now ≡ get_or items c.args.item x.now)) c.unwrap-list.ensures c.get_mut.ensures.value in
    on_ok_weaker c.add.result
    (λ kept. changed_item (λ l. l ++ c.args.last ∷ []) c.lay_out.new.idle c.args.item c.lay_out.new.items.items c.args.self.now c.unwrap-list.result.now c.add.new.kept c.in_ok-lay_out.ensures.ok value (c.lay_out.ensures.same ∙ c.self.view_is) kept)
    c.add.ensures.kept
