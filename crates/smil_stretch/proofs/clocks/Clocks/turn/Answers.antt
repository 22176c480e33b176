use Rattle.std.proofs.Common.{◌≡◌, refl, ◌∙◌, ap, sym, subst, length, Some, arith}
use Rattle.std.specs.Prelude.{◌==◌, ◌<◌, ℤ, List, is_some, set, slice_get}
use Rattle.std.specs.List.{position}
use Rattle.std.specs.FinMap.{get}
use mir.Syntax.{w64}
use Rattle.std.proofs.lemmas.Int.{to_z-of_z}
use Rattle.std.proofs.lemmas.List.{take_at}
use Rattle.std.proofs.lemmas.Option.{slice_get_read}
use Rattle.std.proofs.lemmas.List.Quantifiers.{position-Some}
use Rattle.smil_model.specs.declared.diary.Entry.{Entry}
use Rattle.smil_model.specs.diary.Diary.{History, with_entry}
use Rattle.smil_model.specs.diary.Lawful.{IsLawful}
use Rattle.smil_stretch.specs.declared.clock.NodeClock.{NodeClock}
use Rattle.smil_stretch.specs.Clocks.{AreClocksOf, clocks_of}
use Rattle.smil_model.specs.Times.{IsMoment}
use Rattle.smil_stretch.specs.NodeClocks.{AllFit, ArePlacesOf, IsTurned, Turns}
use Rattle.smil_stretch.proofs.PauseTurns.{entry_moment, known_place, turned_from, clocks_with, places_same, all_fit}
use Rattle.smil_stretch.proofs.clocks.Clocks.turn.Goals as goal

pub unwrap-place-requires : goal.unwrap-place-requires
unwrap-place-requires c =
    (ap is_some (c.get.ensures ∙ ap (λ places. get places c.args.who) c.deref.ensures ∙ c.self.invariant.0 c.args.who ∙ ap (position (λ (n : NodeClock). n.serial == c.args.who)) c.self.view_is)
    ∙ known_place c.args.self.now c.requires.follows.past c.args.who c.requires.follows.known c.requires.turns.known)

pub refresh-requires-clause-moment : goal.refresh-requires-clause-moment
refresh-requires-clause-moment c =
    subst IsMoment (c.requires.at ∙ sym (to_z-of_z w64 c.args.moment c.ranges.moment)) (entry_moment c.requires.follows.past c.requires.entry c.requires.follows.lawful)

turned : (c : goal.After-self-2-1) (h : History) (y : Entry) → AreClocksOf c.args.self.now h → IsLawful (with_entry h y) → Turns h y c.args.who c.args.paused → y.moment ≡ c.args.moment → c.refresh.new.clocks ≡ clocks_of (with_entry h y)
turned c h y are lawful turns same =
    let k = c.unwrap-place.result in
    let e = c.index_mut.result.now in
    let after = clocks_of (with_entry h y) in
    let table : Some k ≡ position (λ (n : NodeClock). n.serial == c.args.who) c.self.inside.clocks.items = sym c.unwrap-place.ensures ∙ c.get.ensures ∙ ap (λ places. get places c.args.who) c.deref.ensures ∙ c.self.invariant.0 c.args.who in
    let at : Some k ≡ position (λ (n : NodeClock). n.serial == c.args.who) c.args.self.now = table ∙ ap (position (λ (n : NodeClock). n.serial == c.args.who)) c.self.view_is in
    let less : k < length c.self.inside.clocks.items = (position-Some (λ (n : NodeClock). n.serial == c.args.who) c.self.inside.clocks.items k e (sym table)).0 in
    let here : slice_get c.args.self.now k ≡ Some e = ap (λ cs. slice_get cs k) (sym c.self.view_is) ∙ slice_get_read c.self.inside.clocks.items (length c.self.inside.clocks.items) k e refl less c.index_mut.ensures.value in
    c.refresh.ensures after
    (subst (λ (m : ℤ). IsTurned k m c.deref_mut.result.now after) (same ∙ sym (to_z-of_z w64 c.args.moment c.ranges.moment))
    (subst (λ (before : List NodeClock). IsTurned k y.moment before after)
    (ap (λ cs. set cs k (record e { paused = c.args.paused })) (sym c.self.view_is) ∙ sym c.deref_mut.ensures.value)
    (turned_from c.args.self.now h y c.args.who k c.args.paused e are lawful turns at here)))

pub invariant_of-self : goal.invariant_of-self
invariant_of-self c =
    let h = c.requires.follows.past in
    let y = c.requires.entry in
    let are = c.requires.follows.known in
    let now = take_at c.refresh.new.clocks _ c.self.inside.clocks.len (omega (arith, c.refresh.auto.clocks, c.deref_mut.ensures.len)) ∙ turned c h y are c.requires.follows.lawful c.requires.turns c.requires.at in (
      subst (ArePlacesOf (get c.self.inside.places.value)) (sym now)
          (places_same (get c.self.inside.places.value) h (with_entry h y) h.nodes
          (subst (ArePlacesOf (get c.self.inside.places.value)) (c.self.view_is ∙ are.value) c.self.invariant.0)),
      subst AllFit (sym now) (all_fit (with_entry h y) h.nodes c.requires.follows.lawful),
    )

pub returns : goal.returns
returns c = λ h y are lawful turns same.
    clocks_with c.args.self.now h y are lawful _
    (take_at c.refresh.new.clocks _ c.self.inside.clocks.len (omega (arith, c.refresh.auto.clocks, c.deref_mut.ensures.len)) ∙ turned c h y are lawful turns same)
