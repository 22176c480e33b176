use Rattle.std.proofs.Common.{◌≡◌, ◌∙◌, sym, ap, ℕ}
use Rattle.std.specs.Prelude.{Option}
use Rattle.smil_model.specs.declared.interval.Interval.{Interval}
use Rattle.smil_model.specs.declared.document.Attrs.{Attrs}
use Rattle.smil_model.specs.document.Document.{elements}
use Rattle.smil_model.specs.diary.Diary.{History}
use Rattle.smil_model.specs.interval.Current.{is_named_child}
use Rattle.smil_past.proofs.ItemReferences.{stands}
use Rattle.smil_past.specs.Past.{history_of}
use Rattle.smil_element.specs.Endings.{ending_by}
use Rattle.smil_element.proofs.ChildEnds.{child_told}
use Rattle.smil_element.proofs.endings.end_of_child.Goals as goal

pub returns : goal.returns
returns g c = λ e n known there parent.
    let h : History = history_of c.args.past.now in
    let given : ℕ → Option Interval = g.J.Intervals.given c.args.intervals.now in
    let named : c.is_named.result ≡ is_named_child e.attrs.endsync n =
    c.is_named.ensures n (sym (c.attrs_of-2.ensures n there)) ∙ ap (λ (a : Attrs). is_named_child a.endsync n) (c.attrs_of.ensures e known) in
    child_told h given e n c.args.child c.is_named.result c.ending_of-ending.result
    (stands (elements h.nodes) c.args.child n there).serial named
    (c.ending_of-ending.ensures ∙ ap (λ (o : Option Interval). ending_by h o c.args.child) c.interval.ensures.value)
