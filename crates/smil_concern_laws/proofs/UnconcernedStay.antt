-- Entries leave an element that they do not concern with the interval, and with what comes of it, that it had.
use Rattle.std.proofs.Common.{◌≡◌, refl, sym, ◌∙◌, ap, subst, ℕ, List, [], ◌∷◌, ◌++◌, Option, Some, ℤ, false, append_assoc}
use Rattle.std.specs.Prelude.{reverse}
use Rattle.std.proofs.lemmas.Bool.{or_parts}
use Rattle.std.proofs.lemmas.List.{append-nil}
use Rattle.smil_model.specs.declared.diary.Entry.{Entry}
use Rattle.smil_model.specs.declared.document.Node.{Node}
use Rattle.smil_model.specs.declared.interval.Interval.{Interval}
use Rattle.smil_model.specs.document.Document.{elements, node_at}
use Rattle.smil_model.specs.diary.Diary.{History, up_to}
use Rattle.smil_model.specs.interval.Current.{simple_of}
use Rattle.smil_model.specs.happening.Keys.{coming_by}
use Rattle.smil_laws.specs.Locality.{ParentsBefore}
use Rattle.smil_concern_laws.specs.Concerned.{is_concerned_by}
use Rattle.smil_concern_laws.specs.Unconcerned.{LeavesUnconcerned}
use Rattle.smil_concern_laws.proofs.GivenStays.{StaysGiven, interval_by, stays_given}
use Rattle.smil_concern_laws.proofs.LoggedStays.{all_stays}
use Rattle.smil_concern_laws.proofs.SimpleSame.{simple_same}

module _ (J : ℕ → Option Interval) (now : ℤ) (e : Node) where
  itself : (h : History) → StaysGiven h h J now e
  itself h = record {
    done = record { plays_are = refl; deferred = refl };
    active = refl;
    iteration_starts = refl;
    media = refl;
    interval = λ simple. refl;
    coming = λ o simple place. refl;
  }

  through : (h m k : History) → StaysGiven h m J now e → StaysGiven m k J now e → StaysGiven h k J now e
  through h m k p q = record {
    done = record { plays_are = q.done.plays_are ∙ p.done.plays_are; deferred = q.done.deferred ∙ p.done.deferred };
    active = q.active ∙ p.active;
    iteration_starts = q.iteration_starts ∙ p.iteration_starts;
    media = q.media ∙ p.media;
    interval = λ simple. q.interval simple ∙ p.interval simple;
    coming = λ o simple place. q.coming o simple place ∙ p.coming o simple place;
  }

  -- entries one by one
  pub entries_stay : (h : History) (ys : List Entry) → ParentsBefore (reverse h.nodes) → node_at (elements h.nodes) e.serial ≡ Some e → is_concerned_by h.nodes h.log ys e.serial ≡ false → StaysGiven h (up_to h (h.diary ++ ys)) J now e
  entries_stay h [] first here free = subst (λ (d : List Entry). StaysGiven h (up_to h d) J now e) (sym (append-nil h.diary)) (itself h)
  entries_stay h (y ∷ ys) first here free =
      let parts = or_parts _ _ free in
      let now_same = stays_given h y J now e (all_stays h first y e here parts.0) in
      let later_same = entries_stay (up_to h (h.diary ++ y ∷ [])) ys first here parts.1 in
      subst (λ (d : List Entry). StaysGiven h (up_to h d) J now e) (append_assoc h.diary (y ∷ []) ys)
      (through h (up_to h (h.diary ++ y ∷ [])) (up_to h ((h.diary ++ y ∷ []) ++ ys)) now_same later_same)

pub leaves_unconcerned : LeavesUnconcerned
leaves_unconcerned h entries J now e first here free children = record {
  interval = ap (λ simple. interval_by (up_to h (h.diary ++ entries)) J simple now e) same ∙ stays.interval (simple_of h J e);
  coming = λ place. ap (λ simple. coming_by (up_to h (h.diary ++ entries)) (J e.serial) simple now place e) same ∙ stays.coming (J e.serial) (simple_of h J e) place;
}
  where
    stays : StaysGiven h (up_to h (h.diary ++ entries)) J now e
    stays = entries_stay J now e h entries first here free

    same : simple_of (up_to h (h.diary ++ entries)) J e ≡ simple_of h J e
    same = simple_same h (h.diary ++ entries) J J e stays.active stays.iteration_starts stays.media children
