-- The elements that are put in, by one test after another.
use Rattle.std.proofs.Common.{◌≡◌, ◌∙◌, refl, sym, ap, ℕ, ◌+◌, ◌<◌, List, [], ◌∷◌, Option, Some, None, Bool, true, false, inl, inr, length, take, get_or}
use Rattle.std.specs.Prelude.{◌⊎◌, ◌&&◌, ◌||◌, is_some, slice_get}
use Rattle.std.specs.List.{list_any}
use Rattle.std.proofs.lemmas.Bool.{or_cases, or_from, or_left, or_parts, or_right}
use Rattle.std.proofs.lemmas.Option.{get_or_from_slice_get, same_Some, slice_get_within}
use Rattle.std.proofs.lemmas.List.Folds.{list_any_more}
use Rattle.smil_model.specs.declared.diary.Entry.{Entry}
use Rattle.smil_model.specs.declared.diary.Step.{Step}
use Rattle.smil_model.specs.declared.document.Node.{Node}
use Rattle.smil_model.specs.document.Document.{elements, is_within, node_at, serial_of, time_children}
use Rattle.smil_model.specs.document.Closure.{has}
use Rattle.smil_model.specs.diary.Diary.{History}
use Rattle.smil_model.specs.diary.Plays.{last_finished}
use Rattle.smil_graph.specs.Tables.{takes_turns}
use Rattle.smil_past.proofs.ItemReferences.{stands}
use Rattle.smil_past.specs.Makeups.{freezes, keeps_children}
use Rattle.smil_cells.specs.Evaluated.{acts_on}
use Rattle.smil_cells.specs.Shown.{ArePutWhere, any_rests, any_shows, displaced_in, elements_at, may_rest, rests_under, shows_from, shows_in}
use Rattle.smil_cells.proofs.ElementsByPlace.{still_stands}

pub put_none : (nodes : List Node) (test : ℕ → Bool) (places : List ℕ) → ((s : ℕ) → test s ≡ false) → ArePutWhere nodes test places places
put_none nodes test places none = record {
  more = λ p was. was;
  put = λ e here passes. let never : false ≡ true = sym (none e.serial) ∙ passes in absurd (cc);
  only = λ e here was. inl was;
}

pub put_same : (nodes : List Node) (p q : ℕ → Bool) (old new : List ℕ) → ((s : ℕ) → p s ≡ q s) → ArePutWhere nodes p old new → ArePutWhere nodes q old new
put_same nodes p q old new is are = record {
  more = are.more;
  put = λ e here passes. are.put e here (is e.serial ∙ passes);
  only = λ e here on. by_case e (are.only e here on);
}
  where
    by_case : (e : Node) → (has (elements_at nodes old) e.serial ≡ true) ⊎ (p e.serial ≡ true) → (has (elements_at nodes old) e.serial ≡ true) ⊎ (q e.serial ≡ true)
    by_case e (inl was) = inl was
    by_case e (inr passes) = inr (sym (is e.serial) ∙ passes)

-- one behind the other: those that pass either test
pub put_then : (nodes : List Node) (p q r : ℕ → Bool) (old mid new : List ℕ) → ((s : ℕ) → r s ≡ (p s || q s)) → ArePutWhere nodes p old mid → ArePutWhere nodes q mid new → ArePutWhere nodes r old new
put_then nodes p q r old mid new is first second = record {
  more = λ x was. second.more x (first.more x was);
  put = λ e here passes. by_test e here (or_cases (p e.serial) (q e.serial) (sym (is e.serial) ∙ passes));
  only = λ e here on. by_second e here (second.only e here on);
}
  where
    by_test : (e : Node) → node_at (elements nodes) e.serial ≡ Some e → (p e.serial ≡ true) ⊎ (q e.serial ≡ true) → has (elements_at nodes new) e.serial ≡ true
    by_test e here (inl a) = still_stands nodes mid new second.more e.serial (first.put e here a)
    by_test e here (inr b) = second.put e here b

    by_first : (e : Node) → (has (elements_at nodes old) e.serial ≡ true) ⊎ (p e.serial ≡ true) → (has (elements_at nodes old) e.serial ≡ true) ⊎ (r e.serial ≡ true)
    by_first e (inl was) = inl was
    by_first e (inr a) = inr (is e.serial ∙ or_left (p e.serial) (q e.serial) a)

    by_second : (e : Node) → node_at (elements nodes) e.serial ≡ Some e → (has (elements_at nodes mid) e.serial ≡ true) ⊎ (q e.serial ≡ true) → (has (elements_at nodes old) e.serial ≡ true) ⊎ (r e.serial ≡ true)
    by_second e here (inl was) = by_first e (first.only e here was)
    by_second e here (inr b) = inr (is e.serial ∙ or_right (p e.serial) (q e.serial) b)

-- ---- one more of a list

pub shows_more : (h : History) (entries : List Entry) (i s : ℕ) (none : Entry) → i < length entries
    → any_shows h (take (i + 1) entries) s ≡ (any_shows h (take i entries) s || shows_from h (get_or entries i none).step (acts_on (get_or entries i none).step) s)
shows_more h entries i s none below = list_any_more (λ (y : Entry). shows_from h y.step (acts_on y.step) s) entries i none below

pub rests_more : (h : History) (children : List Node) (k s : ℕ) (n : Node) → slice_get children k ≡ Some n
    → any_rests h (take (k + 1) children) s ≡ (any_rests h (take k children) s || (may_rest h n && is_within h.nodes n.serial s))
rests_more h children k s n at =
    list_any_more (λ (m : Node). may_rest h m && is_within h.nodes m.serial s) children k n (slice_get_within children k n at)
    ∙ ap (λ (m : Node). any_rests h (take k children) s || (may_rest h m && is_within h.nodes m.serial s)) (get_or_from_slice_get children k n n at)

-- a seq or an excl of which none is kept has none that freezes, and none may rest where none freezes
pub none_freezes : (nodes : List Node) (who : ℕ) (e : Node) → node_at (elements nodes) who ≡ Some e → takes_turns (node_at (elements nodes) who) ≡ true → keeps_children nodes e ≡ false → list_any (freezes nodes) (time_children nodes who) ≡ false
none_freezes nodes who e here turns none =
    ap (λ s. list_any (freezes nodes) (time_children nodes s)) (sym (stands (elements nodes) who e here).serial)
    ∙ (ap (λ b. b && list_any (freezes nodes) (time_children nodes e.serial)) (sym (ap takes_turns (sym here) ∙ turns)) ∙ none)

pub none_rest : (h : History) (children : List Node) (s : ℕ) → list_any (freezes h.nodes) children ≡ false → any_rests h children s ≡ false
none_rest h [] s none = refl
none_rest h (n ∷ ns) s none =
    let parts = or_parts (freezes h.nodes n) (list_any (freezes h.nodes) ns) none in
    or_from _ _ (ap (λ b. (b && is_some (last_finished h n.serial)) && is_within h.nodes n.serial s) parts.0) (none_rest h ns s parts.1)

-- ---- an element, and the children that it displaces

alone : (a b : Bool) → b ≡ false → a ≡ (a || b)
alone true b none = cc
alone false b none = sym none

-- a step that displaces none shows within its element alone
pub shows_alone : (h : History) (step : Step) (x s : ℕ) → None ≡ serial_of (displaced_in h.nodes step x) → is_within h.nodes x s ≡ shows_in h step x s
shows_alone h step x s none = alone (is_within h.nodes x s) (rests_under h (displaced_in h.nodes step x) s) (no_parent (displaced_in h.nodes step x) none)
  where
    no_parent : (o : Option Node) → None ≡ serial_of o → rests_under h o s ≡ false
    no_parent None is = refl
    no_parent (Some p) is = cc

-- and else also within the children that may rest
pub shows_beside : (h : History) (step : Step) (x parent s : ℕ) → Some parent ≡ serial_of (displaced_in h.nodes step x) → shows_in h step x s ≡ (is_within h.nodes x s || any_rests h (time_children h.nodes parent) s)
shows_beside h step x parent s some = ap (λ (b : Bool). is_within h.nodes x s || b) (of_parent (displaced_in h.nodes step x) some)
  where
    of_parent : (o : Option Node) → Some parent ≡ serial_of o → rests_under h o s ≡ any_rests h (time_children h.nodes parent) s
    of_parent None is = cc
    of_parent (Some p) is = ap (λ (k : ℕ). any_rests h (time_children h.nodes k) s) (sym (same_Some parent p.serial is))
