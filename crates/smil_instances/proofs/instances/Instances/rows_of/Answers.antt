use Rattle.std.proofs.Common.{◌∙◌, sym, ap, refl, subst, ℕ, ◌∷◌, ◌++◌, [], List, get_or, length, take, arith}
use Rattle.std.proofs.lemmas.List.{take_all}
use Rattle.smil_model.specs.declared.diary.Entry.{Entry}
use Rattle.smil_stretch.specs.Clocks.{AreClocksOf}
use Rattle.smil_stretch.proofs.IdleClocks.{next_at, no_entry}
use Rattle.std.specs.FinMap.{get}
use Rattle.smil_model.specs.document.Document.{elements, serials}
use Rattle.smil_instances.specs.Spread.{IsIndex}
use Rattle.smil_instances.specs.SettledTimes.{settled_rows}
use Rattle.smil_instances.specs.Intake.{history_of, history_with}
use Rattle.smil_instances.proofs.DiaryTakenIn.{at_hand, lawful_of, next_front, next_is, next_lawful}
use Rattle.smil_instances.proofs.instances.Instances.rows_of.Goals as goal

pub of-requires : goal.of-requires
of-requires c = record {
  past = history_of c.args.history.now.tree.now [] [];
  history = record { same_nodes = refl; same_diary = sym c.new-front.ensures; lawful = record { moments = refl; steps = tt } };
}

pub idle_rows-requires-clause-places : goal.idle_rows-requires-clause-places
idle_rows-requires-clause-places c =
    subst (λ table. IsIndex (serials (elements c.args.history.now.tree.now.nodes)) (get table)) (sym c.in_ok-places.ensures.ok)
    (subst (λ (whos : List ℕ). IsIndex whos (get c.in_ok-places_of.field-0)) c.elements.ensures c.in_ok-places_of.ensures)

pub take_in-requires-clause-hand : goal.take_in-requires-clause-hand
take_in-requires-clause-hand c =
    let document = c.args.history.now.tree.now in
    let log = c.args.history.now.log.now in
    let book = c.args.history.now.book.now in
    let entries = c.entries-entry-items.result.now in
    let k = c.loop-entry.entry-index in
    let y = get_or entries k no_entry in
    let at = next_at entries book k no_entry (sym c.entries-entry-items.ensures) c.loop-entry-test.true in
    at_hand document log book k y at c.loop-entry.clocks c.push.new.front (lawful_of document log book c.requires.lawful) c.loop-entry.invariant.2 (c.in_ok-push.ensures ∙ ap (λ (ys : List Entry). ys ++ y ∷ []) c.loop-entry.invariant.1)

pub follow-requires : goal.follow-requires
follow-requires c =
    let document = c.args.history.now.tree.now in
    let log = c.args.history.now.log.now in
    let book = c.args.history.now.book.now in
    let entries = c.entries-entry-items.result.now in
    let k = c.loop-entry.entry-index in
    let y = get_or entries k no_entry in
    let at = next_at entries book k no_entry (sym c.entries-entry-items.ensures) c.loop-entry-test.true in
    record {
      past = history_of document log (take k book);
      known = c.loop-entry.invariant.2;
      lawful = next_lawful document log book k y at (lawful_of document log book c.requires.lawful);
    }

pub loop-entry-preserved : goal.loop-entry-preserved
loop-entry-preserved c =
    let document = c.args.history.now.tree.now in
    let log = c.args.history.now.log.now in
    let book = c.args.history.now.book.now in
    let entries = c.entries-entry-items.result.now in
    let k = c.loop-entry.entry-index in
    let y = get_or entries k no_entry in
    let at = next_at entries book k no_entry (sym c.entries-entry-items.ensures) c.loop-entry-test.true in
    let front = c.in_ok-push.ensures ∙ ap (λ (ys : List Entry). ys ++ y ∷ []) c.loop-entry.invariant.1 ∙ next_front document log book k y at in (
      c.in_ok-take_in.ensures.ok ∙ ap (λ ds. settled_rows (history_of document log ds)) front,
      front,
      subst (AreClocksOf c.follow.new.self) (next_is document log book k y at)
          (c.follow.ensures (history_of document log (take k book)) c.loop-entry.invariant.2 (next_lawful document log book k y at (lawful_of document log book c.requires.lawful))),
    )

pub returns : goal.returns
returns c =
    let many = ap (λ (ds : List Entry). length ds) c.entries-entry-items.ensures in
    c.loop-entry.invariant.0
    ∙ ap (λ (ds : List Entry). settled_rows (history_with c.args.history.now ds)) (take_all c.loop-entry.entry-index c.args.history.now.book.now (omega (arith, many, c.loop-entry-test.false)))
