use Rattle.std.proofs.Common.{◌<◌, length, below_more, sym, ap, ◌∙◌, arith}
use Rattle.std.specs.Prelude.{bytes_eq, get_or}
use Rattle.std.proofs.lemmas.List.{length-map}
use Rattle.smil_house.specs.Marks.{mark_of, marks_of}
use Rattle.smil_house.proofs.NameMarks.{absent, found, mark_read, other_name, read}
use Rattle.smil_house.proofs.house.House.index_of.Goals as goal
use Rattle.smil_house.proofs.house.House.index_of.Goals.{else-index-mark-via-then-index-mark+else-eq, else-index-mark-via-else-index-mark}

pub loop-index-init : goal.loop-index-init
loop-index-init g c = λ k less. absurd (omega (arith, less))

pub returns-then-eq : goal.returns-then-eq
returns-then-eq g c =
    let name = c.args.name.now in
    let held = c.args.self.now in
    let marks = c.self.invariant.3 ∙ ap marks_of c.self.view_is in
    let count = ap length marks ∙ length-map held (λ h. mark_of h.name) in
    let within : c.loop-index.index < length held = omega (arith, c.loop-index-test.true, c.len-index-end.ensures, count) in
    let h = c.index-then-index-mark.result.now in
    sym (found name held c.loop-index.index h within c.loop-index.invariant
    (ap (λ x. bytes_eq x.name name) (read c.self.inside.held.items held c.loop-index.index h h c.self.view_is within c.index-then-index-mark.ensures)
    ∙ ap (λ n. bytes_eq n name) (sym c.slice.ensures) ∙ sym c.eq.ensures ∙ c.if-eq.true))

pub loop-index-preserved : goal.loop-index-preserved
loop-index-preserved g c =
    let name = c.args.name.now in
    let held = c.args.self.now in
    let place = c.loop-index.index in
    let marks = c.self.invariant.3 ∙ ap marks_of c.self.view_is in
    let count = ap length marks ∙ length-map held (λ h. mark_of h.name) in
    let within : place < length held = omega (arith, c.loop-index-test.true, c.len-index-end.ensures, count) in
    below_more _ _ c.loop-index.invariant (elim c.else-index-mark.branch [
      | else-index-mark-via-then-index-mark+else-eq w ↦ λ d.
          ap (λ x. bytes_eq x.name name) (read c.self.inside.held.items held place w.index-then-index-mark.result.now d c.self.view_is within w.index-then-index-mark.ensures)
          ∙ ap (λ n. bytes_eq n name) (sym w.slice.ensures) ∙ sym w.eq.ensures ∙ w.if-eq.false
      | else-index-mark-via-else-index-mark w ↦ λ d.
          other_name (get_or held place d).name name
          (λ same. w.if-index-mark.false (sym (mark_read c.self.inside.marks.items held place c.index.result.now d marks within c.index.ensures) ∙ same ∙ sym c.mark_of-mark.ensures))
    ])

pub returns : goal.returns
returns g c =
    let held = c.args.self.now in
    let count = ap length (c.self.invariant.3 ∙ ap marks_of c.self.view_is) ∙ length-map held (λ h. mark_of h.name) in
    sym (absent c.args.name.now held c.loop-index.index (omega (arith, c.loop-index-test.false, c.len-index-end.ensures, count)) c.loop-index.invariant)
