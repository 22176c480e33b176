-- What the views come to once those of the touched elements are put in place, and what is told of
-- them.
use Rattle.std.proofs.Common.{◌≡◌, refl, sym, ◌∙◌, ap, subst, ℕ, ◌+◌, ◌<◌, ◌≤◌, ℤ, List, [], ◌∷◌, ◌++◌, Bool, true, false, length, drop, get_or, append-nil}
use Rattle.std.specs.Prelude.{cond, not, pos, map, filter, Result, Ok, Err, OnOk}
use Rattle.std.specs.Result.{is_err}
use Rattle.std.specs.List.{AllByRecursion}
use Rattle.std.proofs.lemmas.List.{length-map}
use Rattle.std.proofs.Math.ListN.{drop_of_length-le}
use Rattle.smil_model.specs.declared.document.Node.{Node}
use Rattle.smil_model.specs.declared.view.View.{View}
use Rattle.smil_model.specs.document.Closure.{has}
use Rattle.smil_model.specs.document.Document.{Document, elements, node_at, serials}
use Rattle.smil_model.specs.document.Valid.{IsDistinct}
use Rattle.smil_model.specs.shown.Answers.{name_in}
use Rattle.smil_model.specs.shown.Orders.{IsState, changed, view_eq}
use Rattle.smil_report.specs.Tellings.{Begins, Telling}
use Rattle.smil_report.proofs.Growing.{begins_by, begins_itself}
use Rattle.smil_instances.proofs.SiblingBefore.{distinct_elements}
use Rattle.smil_cells.specs.CellsState.{GoesOn, CellsState}
use Rattle.smil_shown.specs.ShownViews.{views_at}
use Rattle.smil_shown.specs.ViewTable.{differs, has_view, owners, put_in, view_in, view_now}
use Rattle.smil_shown.specs.Told.{told_between, views_told}
use Rattle.smil_shown.proofs.LinesTold.{difference_on, next_view}
use Rattle.smil_shown.proofs.ViewPlaces.{owners_put}
use Rattle.smil_live.proofs.PutViews.{AreLeft, IsTurn, OwnsIn, Stays, all_left, all_put, own_all, put_all, put_next, told_same, touched_of, touched_serials, turn_of}

-- ---- the line of one view

module _ {I : Type 0} (tell : Telling I) where
  one_line : (nodes : List Node) (m : ℕ) (moment : ℤ) (before : List View) (v w : View) → moment ≡ pos m → v ≡ w → differs before v ≡ true
      → tell.change moment (name_in nodes v.serial) v ≡ told_between tell nodes m before (w ∷ [])
  one_line nodes m moment before v w at is differ =
      ap (λ z. tell.change z (name_in nodes v.serial) v) at
      ∙ (sym (append-nil (tell.change (pos m) (name_in nodes v.serial) v))
      ∙ (ap (λ (t : Bool). views_told tell nodes m (cond t (v ∷ []) [])) (sym differ)
      ∙ ap (λ x. told_between tell nodes m before (x ∷ [])) is))

  pub no_line : (nodes : List Node) (m : ℕ) (before : List View) (v w : View) (out : List I) → v ≡ w → differs before v ≡ false → out ≡ out ++ told_between tell nodes m before (w ∷ [])
  no_line nodes m before v w out is differ =
      sym (append-nil out)
      ∙ ap (λ l. out ++ l) (ap (λ (t : Bool). views_told tell nodes m (cond t (v ∷ []) [])) (sym differ) ∙ ap (λ x. told_between tell nodes m before (x ∷ [])) is)

  -- ---- turns

  -- some of the views are put in place, and told
  pub record IsUnderWay (nodes : List Node) (m : ℕ) (first all : List View) (front : List I) (shown : List View) (i : ℕ) (out : List I) : Type 0 where
    pub left : AreLeft first all shown (drop i all)
    pub told : out ++ told_between tell nodes m first (drop i all) ≡ front ++ told_between tell nodes m first all
    pub owners_are : owners shown ≡ owners first
    pub begins : Begins front out

  module _ (nodes : List Node) (m : ℕ) (first all : List View) (front : List I) where
    pub way_begins : (shown : List View) → shown ≡ first → AreLeft first all first all → IsUnderWay nodes m first all front shown 0 front
    way_begins shown views left = record {
      left = subst (λ (vs : List View). AreLeft first all vs (drop 0 all)) (sym views) (subst (λ (vs : List View). AreLeft first all first vs) (sym (none_off all)) left);
      told = ap (λ (vs : List View). front ++ told_between tell nodes m first vs) (none_off all);
      owners_are = ap (λ (vs : List View). owners vs) views;
      begins = begins_itself front;
    }
      where
        none_off : (vs : List View) → drop 0 vs ≡ vs
        none_off [] = refl
        none_off (v ∷ vs) = refl

    same_lines : (views : List View) (v : View) → view_in views v.serial ≡ view_in first v.serial → told_between tell nodes m views (v ∷ []) ≡ told_between tell nodes m first (v ∷ [])
    same_lines views v same = ap (λ (w : View). views_told tell nodes m (cond (not (view_eq v w)) (v ∷ []) [])) same

    -- the next view is put in place
    pub way_on : (shown shown' : List View) (i : ℕ) (d v : View) (out out' : List I) → IsUnderWay nodes m first all front shown i out → i < length all → get_or all i d ≡ v
        → shown' ≡ put_in shown v → out' ≡ out ++ told_between tell nodes m shown (v ∷ []) → Begins out out' → IsUnderWay nodes m first all front shown' (i + 1) out'
    way_on shown shown' i d v out out' way l is put told more = record {
      left = subst (λ (vs : List View). AreLeft first all vs (drop (i + 1) all)) (sym put) (put_next first all shown (drop (i + 1) all) v left);
      told = difference_on tell nodes m first all i d (front ++ told_between tell nodes m first all) out out' l way.told
          (told ∙ (ap (λ x. out ++ x) (same_lines shown v left.stand.0.0) ∙ ap (λ x. out ++ told_between tell nodes m first (x ∷ [])) (sym is)));
      owners_are = ap (λ (vs : List View). owners vs) put ∙ owners_put shown v ∙ way.owners_are;
      begins = begins_by front out out' way.begins more;
    }
      where
        left : AreLeft first all shown (v ∷ drop (i + 1) all)
        left = subst (λ (vs : List View). AreLeft first all shown vs) (next_view all i d l ∙ ap (λ x. x ∷ drop (i + 1) all) is) way.left

    pub views_end : (shown : List View) (i : ℕ) (out : List I) → IsUnderWay nodes m first all front shown i out → length all ≤ i → shown ≡ put_all first all
    views_end shown i out way l = ap (put_all shown) (sym (drop_of_length-le all l)) ∙ (way.left).put

    pub told_end : (shown : List View) (i : ℕ) (out : List I) → IsUnderWay nodes m first all front shown i out → length all ≤ i → out ≡ front ++ told_between tell nodes m first all
    told_end shown i out way l = sym (append-nil out) ∙ (ap (λ (vs : List View). out ++ told_between tell nodes m first vs) (sym (drop_of_length-le all l)) ∙ way.told)

-- ---- from an earlier standing

abbrev pub touched_views : CellsState → List View
touched_views s = map (view_now s) (touched_of (has s.touched) (elements s.presentation.document.nodes))

-- the views of an earlier standing, from which those of elements that are not touched are left
pub record IsFrom (new : CellsState) (first : List View) : Type 0 where
  pub old : CellsState
  pub first_is : first ≡ map (view_now old) (elements new.presentation.document.nodes)
  pub distinct : IsDistinct (elements new.presentation.document.nodes)
  pub stay : AllByRecursion (Stays (has new.touched) (view_now old) (view_now new)) (elements new.presentation.document.nodes)
  pub touched : new.touched ≡ filter (has new.touched) (serials (elements new.presentation.document.nodes))

pub is_from : (old new : CellsState) (first : List View) → GoesOn old new → first ≡ views_at old → new.presentation.document ≡ old.presentation.document → IsState new.presentation → IsFrom new first
is_from old new first goes views same state = record {
  old = old;
  first_is = views ∙ ap (λ (d : Document). map (view_now old) (elements d.nodes)) (sym same);
  distinct = distinct;
  stay = each (elements new.presentation.document.nodes) (own_all (elements new.presentation.document.nodes) distinct);
  touched = goes.touched ∙ ap (λ (d : Document). filter (has new.touched) (serials (elements d.nodes))) (sym same);
}
  where
    distinct : IsDistinct (elements new.presentation.document.nodes)
    distinct = distinct_elements new.presentation.document.nodes (((state.document).numbered).distinct)

    each : (es : List Node) → AllByRecursion (OwnsIn (elements new.presentation.document.nodes)) es → AllByRecursion (Stays (has new.touched) (view_now old) (view_now new)) es
    each [] own = tt
    each (e ∷ es) own = (λ q. goes.views e (ap (λ (d : Document). node_at (elements d.nodes) e.serial) (sym same) ∙ own.0) q, each es own.1)

module _ (new : CellsState) (first : List View) (from : IsFrom new first) where
  abbrev es : List Node
  es = elements new.presentation.document.nodes

  pub left_first : AreLeft first (touched_views new) first (touched_views new)
  left_first =
      subst (λ (vs : List View). AreLeft vs (touched_views new) vs (touched_views new)) (sym from.first_is)
      (all_left (has new.touched) (view_now from.old) (view_now new) (λ e. refl) (λ e. refl) es from.distinct (own_all es from.distinct))

  -- the element whose turn it is
  abbrev pub IsTurnAt : ℕ → View → Type 0
  IsTurnAt i d = IsTurn (has new.touched) (view_now from.old) (view_now new) (λ e. refl) (λ e. refl) es (get_or new.touched i 0) i d

  pub turn : (i : ℕ) (d : View) → i < length new.touched → IsTurnAt i d
  turn i d l =
      turn_of (has new.touched) (view_now from.old) (view_now new) (λ e. refl) (λ e. refl) es new.touched i d
      (own_all es from.distinct) from.touched l

  pub views_last : put_all first (touched_views new) ≡ views_at new
  views_last =
      ap (λ (vs : List View). put_all vs (touched_views new)) from.first_is
      ∙ all_put (has new.touched) (view_now from.old) (view_now new) (λ e. refl) (λ e. refl) es from.distinct from.stay

  pub told_last : {I : Type 0} (tell : Telling I) → told_between tell new.presentation.document.nodes new.presentation.now first (touched_views new) ≡ told_between tell new.presentation.document.nodes new.presentation.now first (views_at new)
  told_last tell =
      ap (views_told tell new.presentation.document.nodes new.presentation.now)
      (ap (λ (vs : List View). changed vs (touched_views new)) from.first_is
      ∙ (sym (told_same (has new.touched) (view_now from.old) (view_now new) (λ e. refl) (λ e. refl) es (elements new.presentation.document.nodes) (own_all es from.distinct) from.stay)
      ∙ ap (λ (vs : List View). changed vs (views_at new)) (sym from.first_is)))

  pub touched_length : length (touched_views new) ≡ length new.touched
  touched_length =
      length-map (touched_of (has new.touched) es) (view_now new)
      ∙ sym (ap (λ (l : List ℕ). length l) (from.touched ∙ touched_serials (has new.touched) (view_now from.old) (view_now new) (λ e. refl) (λ e. refl) es) ∙ length-map (touched_of (has new.touched) es) (λ (n : Node). n.serial))

-- ---- by calls

module _ {I : Type 0} (tell : Telling I) where
  -- the line that was put
  pub on_line : {A E : Type 0} (r : Result A E) (d e : Document) (m : ℕ) (moment : ℤ) (before : List View) (v w : View) (out out' : List I) → d ≡ e → moment ≡ pos m → v ≡ w → differs before v ≡ true
      → OnOk r (out' ≡ out ++ tell.change moment (name_in d.nodes v.serial) v) → OnOk r (out' ≡ out ++ told_between tell e.nodes m before (w ∷ []))
  on_line (Err x) d e m moment before v w out out' tree at is differ made = tt
  on_line (Ok x) d e m moment before v w out out' tree at is differ made =
      made ∙ (ap (λ (k : Document). out ++ tell.change moment (name_in k.nodes v.serial) v) tree ∙ ap (λ l. out ++ l) (one_line tell e.nodes m moment before v w at is differ))

pub where_not_err : {A E : Type 0} (r : Result A E) (P : Type 0) → is_err r ≡ false → OnOk r P → P
where_not_err (Ok x) P q p = p
where_not_err (Err x) P q p = cc

pub known_next : {I : Type 0} (tell : Telling I) (nodes : List Node) (m : ℕ) (first all : List View) (front : List I) (shown : List View) (i : ℕ) (d : View) (out : List I)
    → IsUnderWay tell nodes m first all front shown i out → i < length all → has_view shown (get_or all i d).serial ≡ true
known_next tell nodes m first all front shown i d out way l = (left.stand.0).1
  where
    left : AreLeft first all shown (get_or all i d ∷ drop (i + 1) all)
    left = subst (λ (vs : List View). AreLeft first all shown vs) (next_view all i d l) way.left
