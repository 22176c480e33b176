use Rattle.std.proofs.Common.{◌≡◌, ◌∷◌, ◌++◌, [], sym, subst, ℕ, List, Option, Some}
use Rattle.std.specs.Prelude.{slice_set, OnOk}
use Rattle.std.proofs.lemmas.Result.{on_ok_weaker}
use Rattle.smil_model.specs.reach.Reach.{is_option}
use Rattle.smil_graph.specs.Links.{row}
use Rattle.smil_graph.specs.Tables.{AreWithPlace}
use Rattle.smil_graph.proofs.KeyRows.{with_one_more}
use Rattle.smil_graph.proofs.waiting.push_key.Goals as goal

pub returns-in_ok-add_rows-in-Some : goal.returns-in_ok-add_rows-in-Some
returns-in_ok-add_rows-in-Some c =
    let key = c.in-Some.key in
    let mid = c.add_rows.new.rows.items in
    let added = c.in_ok-add_rows-in-Some.ensures in
    subst (λ (given : Option ℕ). OnOk c.push_at.result (AreWithPlace (λ i. is_option i given) c.args.place c.args.rows.now.items c.push_at.new.rows.items)) (sym c.in-Some.is)
    (on_ok_weaker c.push_at.result
    (λ (pushed : c.push_at.new.rows.items ≡ slice_set mid key (row mid key ++ c.args.place ∷ [])).
    subst (λ (new : List (List ℕ)). AreWithPlace (λ i. is_option i (Some key)) c.args.place c.args.rows.now.items new) (sym pushed) (with_one_more c.args.place key c.args.rows.now.items mid added.same added.there))
    c.push_at.ensures)
