use Rattle.std.proofs.Common.{◌≡◌, ◌∙◌, sym, ap, map, List, ℕ}
use Rattle.std.proofs.lemmas.Result.{on_ok_weaker}
use Rattle.std.specs.Prelude.{Option}
use Rattle.smil_model.specs.declared.interval.Interval.{Interval}
use Rattle.smil_model.specs.declared.document.Kind.{Kind}
use Rattle.smil_model.specs.declared.document.Kind.TheVariants.{Seq}
use Rattle.smil_model.specs.declared.document.Node.{Node}
use Rattle.smil_model.specs.document.Document.{time_children}
use Rattle.smil_model.specs.diary.Diary.{History}
use Rattle.smil_model.specs.interval.Current.{child_end}
use Rattle.smil_model.specs.interval.Durations.{container_duration}
use Rattle.smil_past.specs.Past.{history_of}
use Rattle.smil_element.proofs.ChildEnds.{last_decides}
use Rattle.smil_element.proofs.endings.deciding_ends.Goals as goal

pub returns-in-Seq : goal.returns-in-Seq
returns-in-Seq g c = λ e endsync start here.
    let h : History = history_of c.args.past.now in
    let given : ℕ → Option Interval = g.J.Intervals.given c.args.intervals.now in
    let children : List Node = time_children c.args.past.now.document.nodes c.args.who in
    let seq : e.kind ≡ Seq = sym (c.kind_of.ensures e here) ∙ c.in-Seq.is in
    on_ok_weaker c.last_end.result
    (λ are.
    ap (λ (k : Kind). container_duration k endsync start c.last_end.new.children.items) seq
    ∙ ap (container_duration Seq endsync start) are
    ∙ last_decides (child_end h given e) endsync start children
    ∙ ap (λ (k : Kind). container_duration k endsync start (map (child_end h given e) children)) (sym seq))
    (c.last_end.ensures e here)

pub returns-in_default : goal.returns-in_default
returns-in_default g c = λ e endsync start here.
    on_ok_weaker c.children_ends.result (λ are. ap (container_duration e.kind endsync start) are) (c.children_ends.ensures e here)
