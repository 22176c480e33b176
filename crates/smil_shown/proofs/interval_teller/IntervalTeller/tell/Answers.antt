use Rattle.std.proofs.Common.{rules, ◌≡◌, ◌∙◌, sym, ap, subst, ◌++◌, ℤ, Option, to_z, of_z}
use mir.Syntax.{w64}
use mir.Val.{SFits}
use Rattle.std.proofs.lemmas.Int.{to_z-of_z}
use Rattle.std.proofs.lemmas.Result.{on_ok_weaker}
use Rattle.smil_model.specs.declared.diary.Entry.{Entry}
use Rattle.smil_model.specs.declared.view.How.TheVariants as how
use Rattle.smil_model.specs.diary.Diary.{History, with_entry}
use Rattle.smil_model.specs.diary.Lawful.{IsLawful}
use Rattle.smil_model.specs.Times.{IsMoment}
use Rattle.smil_stretch.proofs.PauseTurns.{entry_moment}
use Rattle.smil_instances.proofs.SumsFit.{moment_fits}
use Rattle.smil_report.specs.Words.{who_of}
use Rattle.smil_shown.specs.Histories.{finish_line}
use Rattle.smil_shown.proofs.ToldIntervals.{began_shown, ended_text, read_shown}
use Rattle.smil_shown.proofs.interval_teller.IntervalTeller.tell.Goals as goal

-- the moment of an entry is computed as it is
kept : (h : History) (y : Entry) → IsLawful (with_entry h y) → to_z w64 (of_z w64 y.moment) ≡ y.moment
kept h y lawful = to_z-of_z w64 y.moment (moment_fits y.moment (entry_moment h y lawful))

is_moment : (h : History) (y : Entry) → IsLawful (with_entry h y) → IsMoment (to_z w64 (of_z w64 y.moment))
is_moment h y lawful = subst IsMoment (sym (kept h y lawful)) (entry_moment h y lawful)

pub to_document-requires-clause-moment : goal.to_document-requires-clause-moment
to_document-requires-clause-moment c = is_moment c.requires.follows.past c.args.entry c.requires.follows.lawful

pub to_document-end-requires-clause-moment : goal.to_document-end-requires-clause-moment
to_document-end-requires-clause-moment c = is_moment c.requires.follows.past c.args.entry c.requires.follows.lawful

pub returns-in-Began-clause-present : goal.returns-in-Began-clause-present
returns-in-Began-clause-present c = λ h known lawful was.
    let fits : SFits w64 c.in-Began.begin = search rules in
    let result : SFits w64 c.to_document.result = search rules in
    let shown = read_shown h c.args.entry c.args.self.now.clocks c.args.self.now.who c.in-Began.who c.in-Began.begin _ _ c.to_document.result (kept h c.args.entry lawful) (to_z-of_z w64 c.in-Began.begin fits) c.if-who-self.true c.to_document.ensures known lawful in
    began_shown h c.args.entry c.args.self.now.who c.in-Began.who c.in-Began.begin _ c.in-Began.is c.if-who-self.true (to_z-of_z w64 c.to_document.result result ∙ shown)

pub returns-in-Ended-clause-text : goal.returns-in-Ended-clause-text
returns-in-Ended-clause-text c = λ h known lawful was.
    let fits : SFits w64 c.in-Ended.end = search rules in
    let result : SFits w64 c.to_document-end.result = search rules in
    let shown = read_shown h c.args.entry c.args.self.now.clocks c.args.self.now.who c.in-Ended.who c.in-Ended.end _ _ c.to_document-end.result (kept h c.args.entry lawful) (to_z-of_z w64 c.in-Ended.end fits) c.if-who-self-2.true c.to_document-end.ensures known lawful in
    let text = ended_text h c.args.entry c.args.self.now.who c.in-Ended.who (who_of c.args.name) c.in-Ended.end _ c.in-Ended.is c.if-who-self-2.true (to_z-of_z w64 c.to_document-end.result result ∙ shown) in
    on_ok_weaker c.finish.result
    (λ told. told ∙ ap (λ (b : Option ℤ). c.args.out.now ++ finish_line (who_of c.args.name) b (to_z w64 (of_z w64 c.to_document-end.result)) how.Ended) was ∙ ap (λ t. c.args.out.now ++ t) text)
    c.finish.ensures.ok
