use Rattle.std.proofs.Common.{rules, ◌≡◌, ◌∙◌, ap, pos, to_z, of_z}
use mir.Syntax.{w64}
use mir.Val.{SFits}
use Rattle.std.proofs.lemmas.Int.{to_z-of_z}
use Rattle.std.proofs.lemmas.Result.{on_ok_weaker}
use Rattle.smil_model.specs.shown.Orders.{Presentation}
use Rattle.smil_grammar.specs.Formats.{formats}
use Rattle.smil_live.proofs.ToldAnswers.{diary_told, kept_diary}
use Rattle.smil_live.proofs.TextsApart.{cells_playing, cells_with}
use Rattle.smil_live.proofs.presentation.PresentationOver.put_diary.Goals as goal

pub returns-clause-told : goal.returns-clause-told
returns-clause-told g c =
    let p = c.args.self.now in
    let fits : SFits w64 c.moment.result = search rules in
    let at : to_z w64 (of_z w64 c.moment.result) ≡ pos c.args.self.now.now = to_z-of_z w64 c.moment.result fits ∙ c.moment.ensures ∙ ap (λ (q : Presentation). pos q.now) c.self.view_is in
    let logs = c.log.ensures ∙ ap (λ (q : Presentation). q.log) c.self.view_is in
    let books = c.book.ensures ∙ kept_diary (cells_with c.self.inside.viewer.cells c.self.inside.edited) p (cells_playing c.self.inside.viewer.cells c.self.inside.viewer.seen c.self.inside.edited c.self.invariant).shown_is.settled c.self.view_is in
    on_ok_weaker c.put_now.result
    (λ four.
    diary_told formats p c.log.result.now c.book.result.now (to_z w64 (of_z w64 c.moment.result)) c.args.out.now c.put_saved.new.out c.put_outline_end.new.out c.put_entries.new.out c.put_now.new.out logs books at
    c.in_ok-put_saved.ensures.told c.in_ok-put_outline_end.ensures.ok c.in_ok-put_entries.ensures.ok four)
    c.put_now.ensures.ok
