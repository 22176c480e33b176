-- Views of the elements that were touched, put in place of the old ones, one after another.
use Rattle.std.proofs.Common.{◌≡◌, refl, sym, ◌∙◌, ap, subst, ℕ, zero, suc, ◌<◌, List, [], ◌∷◌, Option, Some, Bool, true, false, length, get_or, arith}
use Rattle.std.specs.Prelude.{cond, not, ◌==◌, ◌||◌, map, find, filter, unwrap_or, slice_get, option_map}
use Rattle.std.specs.List.{AllByRecursion, list_any}
use Rattle.std.proofs.lemmas.Bool.{eq-eqb, eqb-true, or_parts}
use Rattle.std.proofs.lemmas.List.{length-map, get_or-map}
use Rattle.smil_model.specs.declared.document.Node.{Node}
use Rattle.smil_model.specs.declared.view.View.{View}
use Rattle.smil_model.specs.document.Document.{node_at, serials}
use Rattle.smil_model.specs.document.Valid.{IsDistinct}
use Rattle.smil_model.specs.shown.Orders.{changed, view_before, view_eq}
use Rattle.smil_model.specs.shown.Views.{blank}
use Rattle.smil_laws.proofs.LineageParents.{swap_eqb}
use Rattle.smil_laws.proofs.ListMembers.{differ_each}
use Rattle.smil_laws.proofs.Lists.{each_at, each_kept}
use Rattle.smil_tree.proofs.NodeRemoved.{distinct_fewer}
use Rattle.smil_shown.specs.ViewTable.{put_in, view_in, has_view, AreOne}
use Rattle.smil_live.proofs.AdvanceChanges.{same_view}
use Rattle.smil_shown.proofs.AllViews.{none_of, one_each}
use Rattle.smil_shown.proofs.ViewPlaces.{of, untouched, has_put}

-- views put in place, the first of them first
abbrev pub put_all : List View → List View → List View
put_all views [] = views
put_all views (v ∷ vs) = put_all (put_in views v) vs

-- ---- one view

-- a view that none of these replaces
behind : (v : View) (views vs : List View) → AllByRecursion (λ (w : View). of w.serial v ≡ false) vs → put_all (v ∷ views) vs ≡ v ∷ put_all views vs
behind v views [] other = refl
behind v views (w ∷ ws) other =
    ap (λ (t : Bool). put_all (cond t w v ∷ put_in views w) ws) other.0 ∙ behind v (put_in views w) ws other.1

-- the views of other elements stay
other_stays : (views : List View) (v : View) (s : ℕ) → of s v ≡ false → view_in (put_in views v) s ≡ view_in views s
other_stays views v s q = ap (λ (o : Option View). unwrap_or o (blank s)) (found views)
  where
    found : (vs : List View) → find (of s) (put_in vs v) ≡ find (of s) vs
    found [] = refl
    found (x ∷ xs) = by_test (of v.serial x) refl (found xs)
      where
        by_test : (t : Bool) → of v.serial x ≡ t → find (of s) (put_in xs v) ≡ find (of s) xs → find (of s) (cond t v x ∷ put_in xs v) ≡ find (of s) (x ∷ xs)
        by_test true e later =
            ap (λ (t : Bool). cond t (Some v) (find (of s) (put_in xs v))) q
            ∙ (later ∙ ap (λ (t : Bool). cond t (Some x) (find (of s) xs)) (sym (ap (λ (k : ℕ). k == s) (eqb-true x.serial v.serial e) ∙ q)))
        by_test false e later = ap (λ (o : Option View). cond (of s x) (Some x) o) later

-- ---- those that are left

-- each of the views that are left is of an element whose view is still the first
abbrev pub Stands : List View → List View → View → Type 0
Stands first views v = (view_in views v.serial ≡ view_in first v.serial) × (has_view views v.serial ≡ true)

pub record AreLeft (first all views rest : List View) : Type 0 where
  pub put : put_all views rest ≡ put_all first all
  pub stand : AllByRecursion (Stands first views) rest
  pub one : AreOne rest

pub put_next : (first all views rest : List View) (v : View) → AreLeft first all views (v ∷ rest) → AreLeft first all (put_in views v) rest
put_next first all views rest v left = record {
  put = left.put;
  stand = each rest left.one.0 left.stand.1;
  one = left.one.1;
}
  where
    each : (ws : List View) → has_view ws v.serial ≡ false → AllByRecursion (Stands first views) ws → AllByRecursion (Stands first (put_in views v)) ws
    each [] q stand = tt
    each (w ∷ ws) q stand =
        let apart = or_parts (of v.serial w) (has_view ws v.serial) q in (
          (other_stays views v w.serial (swap_eqb w.serial v.serial apart.0) ∙ stand.0.0, has_put views v w.serial ∙ stand.0.1),
          each ws apart.1 stand.1,
        )

-- ---- elements

-- the elements whose serials pass a test
abbrev pub touched_of : (ℕ → Bool) → List Node → List Node
touched_of t es = filter (λ (e : Node). t e.serial) es

abbrev pub OwnsIn : List Node → Node → Type 0
OwnsIn all e = node_at all e.serial ≡ Some e

-- the view of an element that is not touched is the same
abbrev pub Stays : (ℕ → Bool) → (Node → View) → (Node → View) → Node → Type 0
Stays t old new e = t e.serial ≡ false → new e ≡ old e

record IsAtPlace (ns : List Node) (i : ℕ) (n : Node) : Type 0 where
  at : slice_get ns i ≡ Some n
  read : get_or ns i n ≡ n

at_place : (ns : List Node) (i : ℕ) → i < length ns → (n : Node) × IsAtPlace ns i n
at_place [] i l = absurd (omega (arith, l))
at_place (n ∷ ns) zero l = (n, record { at = refl; read = refl })
at_place (n ∷ ns) (suc i) l =
    let rest = at_place ns i (omega (arith, l)) in
    (rest.0, record { at = (rest.1).at; read = (rest.1).read })

module _ (t : ℕ → Bool) (old new : Node → View) (olds : (e : Node) → (old e).serial ≡ e.serial) (news : (e : Node) → (new e).serial ≡ e.serial) where
  none_new : (es : List Node) (s : ℕ) → list_any (λ (m : Node). m.serial == s) es ≡ false → has_view (map new (touched_of t es)) s ≡ false
  none_new [] s q = refl
  none_new (e ∷ es) s q = by_touch (t e.serial)
      (or_parts (e.serial == s) (list_any (λ (m : Node). m.serial == s) es) q).0
      (none_new es s (or_parts (e.serial == s) (list_any (λ (m : Node). m.serial == s) es) q).1)
    where
      by_touch : (b : Bool) → e.serial == s ≡ false → has_view (map new (touched_of t es)) s ≡ false → has_view (map new (cond b (e ∷ touched_of t es) (touched_of t es))) s ≡ false
      by_touch true here later = ap (λ (k : ℕ). k == s || has_view (map new (touched_of t es)) s) (news e) ∙ (ap (λ (b : Bool). b || has_view (map new (touched_of t es)) s) here ∙ later)
      by_touch false here later = later

  other_new : (v : View) (vs : List View) → has_view vs v.serial ≡ false → AllByRecursion (λ (w : View). of w.serial v ≡ false) vs
  other_new v [] q = tt
  other_new v (w ∷ ws) q =
      let apart = or_parts (of v.serial w) (has_view ws v.serial) q in
      (swap_eqb w.serial v.serial apart.0, other_new v ws apart.1)

  -- all views are the new ones once those of the touched elements are put in place
  pub all_put : (es : List Node) → IsDistinct es → AllByRecursion (Stays t old new) es → put_all (map old es) (map new (touched_of t es)) ≡ map new es
  all_put [] d stay = refl
  all_put (e ∷ es) d stay = by_touch (t e.serial) refl (all_put es d.1 stay.1)
    where
      rest_apart : (v : View) → v.serial ≡ e.serial → AllByRecursion (λ (w : View). of w.serial v ≡ false) (map new (touched_of t es))
      rest_apart v same = other_new v (map new (touched_of t es)) (subst (λ (k : ℕ). has_view (map new (touched_of t es)) k ≡ false) (sym same) (none_new es e.serial d.0))

      by_touch : (b : Bool) → t e.serial ≡ b → put_all (map old es) (map new (touched_of t es)) ≡ map new es
          → put_all (map old (e ∷ es)) (map new (cond b (e ∷ touched_of t es) (touched_of t es))) ≡ map new (e ∷ es)
      by_touch true q later =
          ap (λ (b : Bool). put_all (cond b (new e) (old e) ∷ put_in (map old es) (new e)) (map new (touched_of t es))) (eq-eqb (old e).serial (new e).serial (olds e ∙ sym (news e)))
          ∙ (ap (λ (vs : List View). put_all (new e ∷ vs) (map new (touched_of t es))) (untouched (map old es) (new e) (subst (λ (k : ℕ). has_view (map old es) k ≡ false) (sym (news e)) (none_of old olds es e.serial d.0)))
          ∙ (behind (new e) (map old es) (map new (touched_of t es)) (rest_apart (new e) (news e)) ∙ ap (λ (vs : List View). new e ∷ vs) later))
      by_touch false q later =
          behind (old e) (map old es) (map new (touched_of t es)) (rest_apart (old e) (olds e))
          ∙ (ap (λ (v : View). v ∷ put_all (map old es) (map new (touched_of t es))) (sym (stay.0 q)) ∙ ap (λ (vs : List View). new e ∷ vs) later)

  found_old : (es : List Node) (s : ℕ) → find (of s) (map old es) ≡ option_map old (node_at es s)
  found_old [] s = refl
  found_old (e ∷ es) s =
      ap (λ (k : ℕ). cond (k == s) (Some (old e)) (find (of s) (map old es))) (olds e)
      ∙ by_test (e.serial == s) (found_old es s)
    where
      by_test : (b : Bool) → find (of s) (map old es) ≡ option_map old (node_at es s) → cond b (Some (old e)) (find (of s) (map old es)) ≡ option_map old (cond b (Some e) (node_at es s))
      by_test true later = refl
      by_test false later = later

  -- what is told of the touched elements is what is told of all
  pub told_same : (all es : List Node) → AllByRecursion (λ (e : Node). node_at all e.serial ≡ Some e) es → AllByRecursion (Stays t old new) es
      → changed (map old all) (map new es) ≡ changed (map old all) (map new (touched_of t es))
  told_same all [] own stay = refl
  told_same all (e ∷ es) own stay = by_touch (t e.serial) refl (told_same all es own.1 stay.1)
    where
      same : new e ≡ old e → view_eq (new e) (view_before (map old all) (new e)) ≡ true
      same q =
          ap (λ (o : Option View). view_eq (new e) (unwrap_or o (blank (new e).serial)))
          (ap (λ (k : ℕ). find (of k) (map old all)) (news e) ∙ (found_old all e.serial ∙ (ap (option_map old) own.0 ∙ ap Some (sym q))))
          ∙ same_view (new e)

      by_touch : (b : Bool) → t e.serial ≡ b → changed (map old all) (map new es) ≡ changed (map old all) (map new (touched_of t es))
          → changed (map old all) (map new (e ∷ es)) ≡ changed (map old all) (map new (cond b (e ∷ touched_of t es) (touched_of t es)))
      by_touch true q later = ap (λ (vs : List View). cond (not (view_eq (new e) (view_before (map old all) (new e)))) (new e ∷ vs) vs) later
      by_touch false q later = ap (λ (b : Bool). cond (not b) (new e ∷ changed (map old all) (map new es)) (changed (map old all) (map new es))) (same (stay.0 q)) ∙ later

  there_old : (all : List Node) (e : Node) → node_at all e.serial ≡ Some e → has_view (map old all) e.serial ≡ true
  there_old all e q = by_list all q
    where
      by_list : (es : List Node) → node_at es e.serial ≡ Some e → has_view (map old es) e.serial ≡ true
      by_list [] r = cc
      by_list (x ∷ xs) r = ap (λ (k : ℕ). k == e.serial || has_view (map old xs) e.serial) (olds x) ∙ by_test (x.serial == e.serial) r (by_list xs)
        where
          by_test : (b : Bool) → cond b (Some x) (node_at xs e.serial) ≡ Some e → (node_at xs e.serial ≡ Some e → has_view (map old xs) e.serial ≡ true) → b || has_view (map old xs) e.serial ≡ true
          by_test true r later = refl
          by_test false r later = later r

  -- at first all are left
  pub all_left : (all : List Node) → IsDistinct all → AllByRecursion (OwnsIn all) all → AreLeft (map old all) (map new (touched_of t all)) (map old all) (map new (touched_of t all))
  all_left all d own = record {
    put = refl;
    stand = each (touched_of t all) (each_kept (OwnsIn all) (λ (e : Node). t e.serial) all own);
    one = one_each new news (touched_of t all) (distinct_fewer (λ (e : Node). t e.serial) all d);
  }
    where
      each : (es : List Node) → AllByRecursion (OwnsIn all) es → AllByRecursion (Stands (map old all) (map old all)) (map new es)
      each [] own = tt
      each (e ∷ es) own = ((refl, ap (has_view (map old all)) (news e) ∙ there_old all e own.0), each es own.1)

  pub touched_serials : (es : List Node) → filter t (serials es) ≡ serials (touched_of t es)
  touched_serials [] = refl
  touched_serials (e ∷ es) = by_touch (t e.serial) (touched_serials es)
    where
      by_touch : (b : Bool) → filter t (serials es) ≡ serials (touched_of t es) → cond b (e.serial ∷ filter t (serials es)) (filter t (serials es)) ≡ serials (cond b (e ∷ touched_of t es) (touched_of t es))
      by_touch true later = ap (λ (l : List ℕ). e.serial ∷ l) later
      by_touch false later = later

  -- the element whose turn it is
  pub record IsTurn (all : List Node) (serial i : ℕ) (d : View) : Type 0 where
    pub element : Node
    pub at : node_at all serial ≡ Some element
    pub view : get_or (map new (touched_of t all)) i d ≡ new element
    pub below : i < length (map new (touched_of t all))

  pub turn_of : (all : List Node) (touched : List ℕ) (i : ℕ) (d : View) → AllByRecursion (OwnsIn all) all → touched ≡ filter t (serials all) → i < length touched → IsTurn all (get_or touched i 0) i d
  turn_of all touched i d own is less = by_case (at_place (touched_of t all) i inside)
    where
      same : touched ≡ serials (touched_of t all)
      same = is ∙ touched_serials all

      inside : i < length (touched_of t all)
      inside = subst (λ (n : ℕ). i < n) (ap (λ (l : List ℕ). length l) same ∙ length-map (touched_of t all) (λ (n : Node). n.serial)) less

      by_case : (e : Node) × IsAtPlace (touched_of t all) i e → IsTurn all (get_or touched i 0) i d
      by_case (e, at) =
          let serial : get_or touched i 0 ≡ e.serial =
          ap (λ (l : List ℕ). get_or l i 0) same ∙ (get_or-map (λ (n : Node). n.serial) (touched_of t all) i e 0 inside ∙ ap (λ (n : Node). n.serial) at.read) in
          record {
            element = e;
            at = subst (λ (k : ℕ). node_at all k ≡ Some e) (sym serial) (each_at (OwnsIn all) (touched_of t all) i e (each_kept (OwnsIn all) (λ (e : Node). t e.serial) all own) at.at);
            view = get_or-map new (touched_of t all) i e d inside ∙ ap new at.read;
            below = subst (λ (n : ℕ). i < n) (sym (length-map (touched_of t all) new)) inside;
          }

-- elements of different serials are their own
pub own_all : (all : List Node) → IsDistinct all → AllByRecursion (λ (e : Node). node_at all e.serial ≡ Some e) all
own_all [] d = tt
own_all (x ∷ xs) d = (
  ap (λ (t : Bool). cond t (Some x) (node_at xs x.serial)) (eq-eqb x.serial x.serial refl),
  each xs (differ_each x.serial xs d.0) (own_all xs d.1),
)
  where
    each : (ms : List Node) → AllByRecursion (λ (m : Node). m.serial == x.serial ≡ false) ms → AllByRecursion (λ (e : Node). node_at xs e.serial ≡ Some e) ms → AllByRecursion (λ (e : Node). node_at (x ∷ xs) e.serial ≡ Some e) ms
    each [] other own = tt
    each (m ∷ ms) other own = (
      ap (λ (t : Bool). cond t (Some x) (node_at xs m.serial)) (swap_eqb m.serial x.serial other.0) ∙ own.0,
      each ms other.1 own.1,
    )
