-- What is kept for an item after one more entry.
use Rattle.std.proofs.Common.{◌≡◌, refl, sym, ◌∙◌, ap, ℕ, suc, ◌≤◌, List, [], ◌∷◌, ◌++◌, length, Option, Some, None, ℤ, Bool, true, false, arith, append_assoc}
use Rattle.std.specs.Prelude.{pos, cond, int_le, min, ◌+ℤ◌, ◌-ℤ◌, ◌&&◌, ◌==◌, fold, get_or}
use Rattle.std.specs.List.{cons_option}
use Rattle.std.proofs.lemmas.Int.{ints}
use Rattle.std.proofs.lemmas.List.Sums.{fold_push}
use Rattle.std.proofs.lemmas.List.{append-nil}
use Rattle.smil_instance_rows.specs.declared.item_times.InstanceTime.{InstanceTime}
use Rattle.smil_model.specs.declared.times.Time.{Time}
use Rattle.smil_model.specs.declared.diary.Entry.{Entry}
use Rattle.smil_model.specs.declared.diary.Step.{Step}
use Rattle.smil_model.specs.declared.diary.Step.TheVariants.{Began, Repeated}
use Rattle.smil_model.specs.declared.document.Node.{Node}
use Rattle.smil_model.specs.declared.document.Edge.{Edge}
use Rattle.smil_model.specs.declared.document.Edge.TheVariants.{Begin, End}
use Rattle.smil_model.specs.declared.document.Item.{Item}
use Rattle.smil_model.specs.declared.document.Item.TheVariants.{Offset, Sync, Event, Repeat, Key, Indefinite}
use Rattle.smil_model.specs.Times.{within_horizon}
use Rattle.smil_model.specs.document.Document.{time_parent, previous_in_seq, element_named, target}
use Rattle.smil_model.specs.diary.Diary.{History, with_entry, birth, gives_birth, with_past, up_to}
use Rattle.smil_model.specs.diary.Clocks.{outer, run, iteration_start_after, iteration_start, start_under}
use Rattle.smil_model.specs.interval.Instances.{edge_time, hears}
use Rattle.smil_diary.proofs.PlaceLists.{past-length}
use Rattle.smil_instances.specs.Laws.{IsUpTo}
use Rattle.smil_instance_rows.specs.Rows.{at_place, from_place}
use Rattle.smil_instances.specs.SettledTimes.{all_edges, edge_instances, heard_time, all_heard, heard_instances, offset_instances, named_instances, event_instances, repeat_instances, instances_of, at_start, occurs_event, occurs_repeat, occurs_key}
use Rattle.smil_instances.proofs.NextItemTimes.{with_time, next_edges, next_heard, next_offset, next_named, next_event, next_repeat, next_of, next_start}
use Rattle.smil_instances.proofs.PlacedLists.{placed, placed-same, placed-push, from-with_time}
use Rattle.smil_instances.proofs.ResetPlaces.{birth-rises}
use Rattle.smil_instances.proofs.ClocksAtEntry.{edge-at, parent-at, own-at}

pub with_past-push : (y : Entry) (before ds : List Entry) → with_past before (ds ++ y ∷ []) ≡ with_past before ds ++ (before ++ ds, y) ∷ []
with_past-push y before [] = ap (λ b. (b, y) ∷ []) (sym (append-nil before))
with_past-push y before (z ∷ zs) =
    ap (λ ws. (before, z) ∷ ws) (with_past-push y (before ++ z ∷ []) zs)
    ∙ ap (λ b. (before, z) ∷ (with_past (before ++ z ∷ []) zs ++ (b, y) ∷ [])) (append_assoc before (z ∷ []) zs)

fold_same : {A B : Type 0} (f g : B → A → B) (b : B) (xs : List A) → ((j : ℕ) (d : A) (z : B) → suc j ≤ length xs → f z (get_or xs j d) ≡ g z (get_or xs j d)) → fold f b xs ≡ fold g b xs
fold_same f g b [] same = refl
fold_same f g b (x ∷ xs) same =
    ap (λ z. fold f z xs) (same 0 x b (omega arith)) ∙ fold_same f g (g b x) xs (λ j d z below. same (suc j) d z (omega (arith, below)))

-- a cut after the entry does what both cuts do
cut_after : (h : History) (o : Option Time) (a b : ℕ) (all : List InstanceTime) → a ≤ b → from_place b (with_time (length h.diary) o all) ≡ from_place b (with_time (length h.diary) o (from_place a all))
cut_after h o a b all up = from-with_time a b o (length h.diary) all up

module _ (h : History) (y : Entry) (timely : IsUpTo y.moment h.diary) where
  all_edges-push : (e x : ℕ) (offset : ℤ) (edge : Edge) → all_edges (with_entry h y) e x offset edge ≡ with_time (length h.diary) (edge_time h e x offset y.moment edge y.step) (all_edges h e x offset edge)
  all_edges-push e x offset edge =
      placed-push (after_it) h.diary y
      ∙ ap (λ o. with_time (length h.diary) o (placed after_it 0 h.diary)) (edge-at h y e x offset y.moment edge y.step (grind (arith, ints)))
      ∙ ap (with_time (length h.diary) (edge_time h e x offset y.moment edge y.step))
      (placed-same after_it before_it 0 h.diary (λ j d below. edge-at h y e x offset (get_or h.diary j d).moment edge (get_or h.diary j d).step (timely j d below)))
    where
      after_it : Entry → Option Time
      after_it = λ (z : Entry). edge_time (with_entry h y) e x offset z.moment edge z.step

      before_it : Entry → Option Time
      before_it = λ (z : Entry). edge_time h e x offset z.moment edge z.step

  edges-next : (e x : ℕ) (offset : ℤ) (edge : Edge) → edge_instances (with_entry h y) e x offset edge ≡ next_edges h y e x offset edge (edge_instances h e x offset edge)
  edges-next e x offset edge =
      ap (from_place (min (birth (with_entry h y) e) (birth (with_entry h y) x))) (all_edges-push e x offset edge)
      ∙ cut_after h (edge_time h e x offset y.moment edge y.step) (min (birth h e) (birth h x)) (min (birth (with_entry h y) e) (birth (with_entry h y) x)) (all_edges h e x offset edge)
      (let a : birth h e ≤ birth (with_entry h y) e = birth-rises h y e in let b : birth h x ≤ birth (with_entry h y) x = birth-rises h y x in omega (arith, a, b))

  -- ---- events

  module _ (e : Node) (side : Edge) (item : Item) (offset : ℤ) (occurs : History → Step → Bool) where
    abbrev by : History → List Entry × Entry → Option Time
    by k = λ (p : List Entry × Entry). heard_time k e side item offset occurs p.0 p.1

    heard-at : (p : List Entry × Entry) → int_le (p.1).moment y.moment ≡ true → by (with_entry h y) p ≡ by h p
    heard-at p q =
        ap (λ m. cond (occurs (up_to h p.0) (p.1).step && hears (up_to h p.0) e side item) (Some (within_horizon (m +ℤ offset))) None)
        (parent-at h y e.serial (p.1).moment q)

    heard-same : (k : ℕ) (before ds : List Entry) → IsUpTo y.moment ds → placed (by (with_entry h y)) k (with_past before ds) ≡ placed (by h) k (with_past before ds)
    heard-same k before [] up = refl
    heard-same k before (z ∷ zs) up =
        ap (λ o. cons_option (at_place k o) (placed (by (with_entry h y)) (suc k) (with_past (before ++ z ∷ []) zs))) (heard-at (before, z) (up 0 z (omega arith)))
        ∙ ap (λ ps. cons_option (at_place k (by h (before, z))) ps) (heard-same (suc k) (before ++ z ∷ []) zs (λ j d below. up (suc j) d (omega (arith, below))))

    all_heard-push : all_heard (with_entry h y) e side item offset occurs ≡ with_time (length h.diary) (heard_time h e side item offset occurs h.diary y) (all_heard h e side item offset occurs)
    all_heard-push =
        ap (placed (by (with_entry h y)) 0) (with_past-push y [] h.diary)
        ∙ placed-push (by (with_entry h y)) (with_past [] h.diary) (h.diary, y)
        ∙ ap (λ n. with_time n (by (with_entry h y) (h.diary, y)) (placed (by (with_entry h y)) 0 (with_past [] h.diary))) (past-length [] h.diary)
        ∙ ap (λ o. with_time (length h.diary) o (placed (by (with_entry h y)) 0 (with_past [] h.diary))) (heard-at (h.diary, y) (grind (arith, ints)))
        ∙ ap (with_time (length h.diary) (by h (h.diary, y))) (heard-same 0 [] h.diary timely)

    heard-next : heard_instances (with_entry h y) e side item offset occurs ≡ next_heard h y e side item offset occurs (heard_instances h e side item offset occurs)
    heard-next =
        ap (from_place (birth (with_entry h y) e.serial)) all_heard-push
        ∙ cut_after h (heard_time h e side item offset occurs h.diary y) (birth h e.serial) (birth (with_entry h y) e.serial) (all_heard h e side item offset occurs) (birth-rises h y e.serial)

  -- ---- offsets

  after-at : (k : ℕ) (m b : ℤ) (step : Step) → int_le m y.moment ≡ true → iteration_start_after (with_entry h y) k m b step ≡ iteration_start_after h k m b step
  after-at k m b (Began who begin) q =
      ap (λ o. cond (who == k) (o +ℤ (begin -ℤ outer (with_entry h y) k m)) b) (own-at h y k m q)
      ∙ ap (λ u. cond (who == k) (run h k m +ℤ (begin -ℤ u)) b) (parent-at h y k m q)
  after-at k m b _ q = refl

  iteration_start-push : (k : ℕ) → iteration_start (with_entry h y) k ≡ iteration_start_after h k y.moment (iteration_start h k) y.step
  iteration_start-push k =
      fold_push (follow (with_entry h y)) (pos 0) h.diary y
      ∙ ap (λ b. follow (with_entry h y) b y) (fold_same (follow (with_entry h y)) (follow h) (pos 0) h.diary (λ j d b below. after-at k (get_or h.diary j d).moment b (get_or h.diary j d).step (timely j d below)))
      ∙ after-at k y.moment (iteration_start h k) y.step (grind (arith, ints))
    where
      follow : History → ℤ → Entry → ℤ
      follow g = λ before (x : Entry). iteration_start_after g k x.moment before x.step

  start_anew : (k : ℕ) (m b : ℤ) (step : Step) (offset : ℤ) → at_start offset (iteration_start_after h k m b step) ≡ cond (gives_birth k step) (at_start offset (iteration_start_after h k m (pos 0) step)) (at_start offset b)
  start_anew k m b (Began who begin) offset = by_test (who == k)
    where
      by_test : (t : Bool) → at_start offset (cond t (run h k m +ℤ (begin -ℤ outer h k m)) b) ≡ cond t (at_start offset (cond t (run h k m +ℤ (begin -ℤ outer h k m)) (pos 0))) (at_start offset b)
      by_test true = refl
      by_test false = refl
  start_anew k m b (Repeated who start) offset = by_test (who == k)
    where
      by_test : (t : Bool) → at_start offset (cond t start b) ≡ cond t (at_start offset (cond t start (pos 0))) (at_start offset b)
      by_test true = refl
      by_test false = refl
  start_anew k m b _ offset = refl

  offset-next : (e : ℕ) (offset : ℤ) (o : Option Node) → offset_instances (with_entry h y) e offset o ≡ next_offset h y e offset o (offset_instances h e offset o)
  offset-next e offset (Some before) = edges-next e before.serial offset End
  offset-next e offset None = under (time_parent h.nodes e)
    where
      under : (o : Option Node) → at_start offset (start_under (with_entry h y) o) ≡ next_start h y o offset (at_start offset (start_under h o))
      under None = refl
      under (Some p) =
          ap (at_start offset) (iteration_start-push p.serial)
          ∙ start_anew p.serial y.moment (iteration_start h p.serial) y.step offset

  -- ---- items

  named-next : (e : ℕ) (offset : ℤ) (edge : Edge) (o : Option Node) → named_instances (with_entry h y) e offset edge o ≡ next_named h y e offset edge o (named_instances h e offset edge o)
  named-next e offset edge None = refl
  named-next e offset edge (Some x) = edges-next e x.serial offset edge

  event-next : (e : Node) (side : Edge) (item : Item) (offset : ℤ) (name : List ℕ) (o : Option ℕ) → event_instances (with_entry h y) e side item offset name o ≡ next_event h y e side item offset name o (event_instances h e side item offset name o)
  event-next e side item offset name None = refl
  event-next e side item offset name (Some x) = heard-next e side item offset (occurs_event x name)

  repeat-next : (e : Node) (side : Edge) (item : Item) (offset : ℤ) (n : ℕ) (o : Option ℕ) → repeat_instances (with_entry h y) e side item offset n o ≡ next_repeat h y e side item offset n o (repeat_instances h e side item offset n o)
  repeat-next e side item offset n None = refl
  repeat-next e side item offset n (Some x) = heard-next e side item offset (occurs_repeat x n)

  pub kept-next : (e : Node) (side : Edge) (item : Item) → instances_of (with_entry h y) e side item ≡ next_of h y e side item (instances_of h e side item)
  kept-next e side (Offset offset) = offset-next e.serial offset (previous_in_seq h.nodes e.serial)
  kept-next e side (Sync who edge offset) = named-next e.serial offset edge (element_named h.nodes who)
  kept-next e side (Event who name offset) = event-next e side (Event who name offset) offset name (target h.nodes e.serial who)
  kept-next e side (Repeat who n offset) = repeat-next e side (Repeat who n offset) offset n (target h.nodes e.serial who)
  kept-next e side (Key key offset) = heard-next e side (Key key offset) offset (occurs_key key)
  kept-next e Begin Indefinite = refl
  kept-next e End Indefinite = refl
