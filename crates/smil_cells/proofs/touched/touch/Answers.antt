use Rattle.std.proofs.Common.{◌∙◌, refl, ap, subst, ◌+◌, List, drop, take, get_or}
use Rattle.std.proofs.lemmas.List.{take_all, take_rest}
use Rattle.smil_model.specs.declared.diary.Entry.{Entry}
use Rattle.smil_past.specs.Past.{history_of}
use Rattle.smil_cells.specs.Evaluated.{acts_on}
use Rattle.smil_cells.specs.Shown.{ArePutWhere, any_shows, shows_from}
use Rattle.smil_cells.proofs.ElementsShown.{entries_from}
use Rattle.smil_cells.proofs.ElementsPut.{put_none, put_then, shows_more}
use Rattle.smil_stretch.proofs.IdleClocks.{no_entry}
use Rattle.smil_cells.proofs.touched.touch.Goals as goal

pub loop-entry-init : goal.loop-entry-init
loop-entry-init c =
    let h = history_of c.args.past.now in
    put_none h.nodes (any_shows h (take 0 (entries_from c.entries.result.now c.args.from))) c.args.touched.now (λ s. refl)

pub loop-entry-preserved : goal.loop-entry-preserved
loop-entry-preserved c =
    let h = history_of c.args.past.now in
    let entries = entries_from c.entries.result.now c.args.from in
    let i = c.loop-entry.entry-index in
    let y = get_or entries i no_entry in
    put_then h.nodes (any_shows h (take i entries)) (shows_from h y.step (acts_on y.step)) (any_shows h (take (i + 1) entries)) c.args.touched.now c.loop-entry.touched c.touch_step.new.touched
    (λ s. shows_more h entries i s no_entry c.loop-entry-test.true)
    c.loop-entry.invariant c.in_ok-touch_step.ensures

pub returns : goal.returns
returns c =
    let h = history_of c.args.past.now in
    let entries = entries_from c.entries.result.now c.args.from in
    subst (λ (es : List Entry). ArePutWhere h.nodes (any_shows h es) c.args.touched.now c.loop-entry.touched)
    (take_all c.loop-entry.entry-index entries c.loop-entry-test.false
    ∙ (take_rest c.entries.result.now c.args.from ∙ ap (λ (es : List Entry). drop c.args.from es) (c.entries.ensures ∙ c.book.ensures)))
    c.loop-entry.invariant
