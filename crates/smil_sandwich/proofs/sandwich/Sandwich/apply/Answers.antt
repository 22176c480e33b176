use Rattle.std.proofs.Common.{rules, ◌≡◌, ◌∙◌, sym, ap, ℕ, List}
use Rattle.std.proofs.lemmas.Fn.{filter_same}
use Rattle.std.specs.List.{insert, position_or_len}
use Rattle.smil_model.specs.declared.view.Layer.{Layer}
use Rattle.smil_model.specs.shown.Sandwich.{put_layer}
use Rattle.smil_sandwich.specs.Stacks.{applied, without}
use Rattle.smil_sandwich.proofs.LayerPlaces.{above, put_at}
use Rattle.smil_sandwich.proofs.sandwich.Sandwich.apply.Goals as goal

pub returns-in_default-clause-ok : goal.returns-in_default-clause-ok
returns-in_default-clause-ok c =
    let kept : c.retain.new.self.items ≡ without c.args.setter c.self.inside.layers.items =
    filter_same _ _ _ (λ x b f' k. search rules) _ _ c.retain.ensures.filtered in
    kept ∙ ap (without c.args.setter) c.self.view_is ∙ ap (λ l. applied c.args.setter l c.args.self.now) (sym c.in_default.is)

pub returns-clause-ok : goal.returns-clause-ok
returns-clause-ok c =
    let layer : ℕ × Layer = (c.args.setter, c.in-Some.layer) in
    let kept : c.retain-2.new.self.items ≡ without c.args.setter c.self.inside.layers.items =
    filter_same _ _ _ (λ x b f' k. search rules) _ _ c.retain-2.ensures.filtered ∙ ap (without c.args.setter) c.reserve.ensures.items in
    let placed : c.insert.new.self.items ≡ insert c.retain-2.new.self.items c.place_below-place.result layer = search rules in
    let place : c.place_below-place.result ≡ position_or_len (above layer.1) c.retain-2.new.self.items = search rules in
    placed ∙ ap (λ i. insert c.retain-2.new.self.items i layer) place ∙ put_at layer c.retain-2.new.self.items
    ∙ ap (λ (ls : List (ℕ × Layer)). put_layer ls layer) (kept ∙ ap (without c.args.setter) c.self.view_is)
    ∙ ap (λ l. applied c.args.setter l c.args.self.now) (sym c.in-Some.is)
