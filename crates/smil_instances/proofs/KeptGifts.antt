-- An entry that is no birth takes nothing out: what is kept for an item after it is what was kept
-- before and what the entry gives.
use Rattle.std.proofs.Common.{◌≡◌, refl, sym, ◌∙◌, ap, ℕ, suc, ℤ, ◌≤◌, List, [], ◌∷◌, ◌++◌, length, Option, Some, None, Bool, true, false, inl, inr, arith}
use Rattle.std.specs.Prelude.{cond, min, not, pos, nat_le, option_to_list, is_some, fold, ◌&&◌, ◌||◌, ◌==◌, ◌⊎◌, ◌+ℤ◌}
use Rattle.std.specs.List.{list_any}
use Rattle.std.specs.Option.{option_map_or}
use Rattle.std.proofs.lemmas.Bool.{and_parts, cond_both, eqb-true, or_cases}
use Rattle.std.proofs.lemmas.List.{append-nil}
use Rattle.std.proofs.lemmas.List.Elements.{filter-append}
use Rattle.smil_model.specs.declared.times.Time.{Time}
use Rattle.smil_model.specs.declared.diary.Entry.{Entry}
use Rattle.smil_model.specs.declared.diary.LogEntry.{LogEntry}
use Rattle.smil_model.specs.declared.diary.Step.{Step}
use Rattle.smil_model.specs.declared.diary.Step.TheVariants.{Began, Ended, Cut}
use Rattle.smil_model.specs.declared.document.Node.{Node}
use Rattle.smil_model.specs.declared.document.Edge.{Edge}
use Rattle.smil_model.specs.declared.document.Edge.TheVariants.{Begin, End}
use Rattle.smil_model.specs.declared.document.Item.{Item}
use Rattle.smil_model.specs.declared.document.Item.TheVariants.{Offset, Sync, Event, Repeat, Key, Indefinite}
use Rattle.smil_model.specs.Times.{within_horizon}
use Rattle.smil_model.specs.document.Defaults.{begin_list, restart_of}
use Rattle.smil_model.specs.document.Document.{element_named, elements, node_at, previous_in_seq, target, time_parent}
use Rattle.smil_model.specs.diary.Clocks.{iteration_start_after, outer, outer_stands}
use Rattle.smil_model.specs.diary.Diary.{History, active_after, birth, birth_under, gives_birth, is_active, is_alive, last_place, later_place, lives_under, up_to, with_entry, with_past}
use Rattle.smil_model.specs.diary.Lawful.{AllLawful, IsLawful, has_element, is_lawful_step, may_begin}
use Rattle.smil_model.specs.diary.Plays.{is_birth_under}
use Rattle.smil_model.specs.interval.Instances.{edge_time, hears, is_same_event, is_sensitive}
use Rattle.smil_laws.proofs.ForeignEntries.{last_place-below, last_place-push}
use Rattle.smil_laws.proofs.LawfulSteps.{Follow, active_push, by, kept_along, still}
use Rattle.smil_stretch.proofs.LawfulDiaries.{lawful_before, lawful_last}
use Rattle.smil_instance_rows.specs.declared.item_times.InstanceTime.{InstanceTime}
use Rattle.smil_instance_rows.specs.Rows.{at_place, from_place, instance_at}
use Rattle.smil_instances.specs.Contribution.{given_at, given_edge, given_event, given_repeat, is_edge, offset_given, start_time}
use Rattle.smil_instances.specs.Laws.{IsUpTo}
use Rattle.smil_instances.specs.SettledTimes.{edge_instances, event_instances, heard_instances, heard_time, instances_of, named_instances, occurs_event, occurs_key, occurs_repeat, offset_instances, repeat_instances}
use Rattle.smil_instances.specs.Sources.{base_of, source_of, syncbase_or}
use Rattle.smil_instances.specs.Updates.{BearsNone}
use Rattle.smil_instances.specs.declared.source.Source.TheVariants as source
use Rattle.smil_instances.proofs.NamedElements.{is_element_of}
use Rattle.smil_instances.proofs.NextItemTimes.{next_edges, next_event, next_heard, next_named, next_of, next_offset, next_repeat, next_start, with_time}
use Rattle.smil_instances.proofs.NotedEntry.{kept-next}
use Rattle.smil_instances.proofs.PlacedLists.{from_twice, placed}
use Rattle.smil_instances.proofs.ResetPlaces.{Stays, birth-stays, last_place-hit}
use Rattle.smil_instances.proofs.UntouchedItems.{edges_left, heard_left, other_edge, start_left}

-- ---- an active element began

pub began_once : (p : ℕ) (b : Bool) (ds : List Entry) → last_place (λ (x : Entry). gives_birth p x.step) ds ≡ None → b ≡ false → fold (λ before (x : Entry). active_after p before x.step) b ds ≡ false
began_once p b [] q off = off
began_once p b (x ∷ xs) q off = by_rest (last_place (λ (z : Entry). gives_birth p z.step) xs) (gives_birth p x.step) refl refl q (began_once p (active_after p b x.step) xs)
  where
    quiet : (c : Bool) (step : Step) → gives_birth p step ≡ false → c ≡ false → active_after p c step ≡ false
    quiet c (Began who begin) r e = ap (λ t. t || c) r ∙ e
    quiet c (Ended who end') r e = cond_both (who == p) false c (λ b. b ≡ false) (λ q. refl) (λ q. e)
    quiet c (Cut who) r e = cond_both (who == p) false c (λ b. b ≡ false) (λ q. refl) (λ q. e)
    quiet c _ r e = e

    by_rest : (o : Option ℕ) (t : Bool) → last_place (λ (z : Entry). gives_birth p z.step) xs ≡ o → gives_birth p x.step ≡ t → later_place t o ≡ None → (last_place (λ (z : Entry). gives_birth p z.step) xs ≡ None → active_after p b x.step ≡ false → fold (λ before (z : Entry). active_after p before z.step) (active_after p b x.step) xs ≡ false) → fold (λ before (z : Entry). active_after p before z.step) (active_after p b x.step) xs ≡ false
    by_rest (Some k) t e r later more = cc
    by_rest None true e r later more = cc
    by_rest None false e r later more = more e (quiet b x.step r off)

-- the time children of the element were born; there is no need where it is none
abbrev WereBorn : Option Node → List Entry → Type 0
WereBorn None ds = Unit {0}
WereBorn (Some p) ds = is_some (last_place (λ (x : Entry). gives_birth p.serial x.step) ds) ≡ true

alive_born : (o : Option Node) (ds : List Entry) → lives_under o ds ≡ true → WereBorn o ds
alive_born None ds alive = tt
alive_born (Some p) ds alive = by_place (last_place (λ (x : Entry). gives_birth p.serial x.step) ds) refl
  where
    by_place : (o : Option ℕ) → last_place (λ (x : Entry). gives_birth p.serial x.step) ds ≡ o → is_some o ≡ true
    by_place (Some k) q = refl
    by_place None q = let never : true ≡ false = sym alive ∙ began_once p.serial false ds q refl in cc

born_more : (o : Option Node) (ds : List Entry) (y : Entry) → WereBorn o ds → WereBorn o (ds ++ y ∷ [])
born_more None ds y born = tt
born_more (Some p) ds y born = by_test (gives_birth p.serial y.step) refl
  where
    by_test : (t : Bool) → gives_birth p.serial y.step ≡ t → is_some (last_place (λ (x : Entry). gives_birth p.serial x.step) (ds ++ y ∷ [])) ≡ true
    by_test true q = ap is_some (last_place-hit (λ (x : Entry). gives_birth p.serial x.step) ds y q)
    by_test false q = ap is_some (last_place-push (λ (x : Entry). gives_birth p.serial x.step) ds y q) ∙ born

-- ---- an active element was born

module _ (nodes : List Node) (log : List LogEntry) where
  abbrev AreBorn : List Entry → Type 0
  AreBorn ds = (s : ℕ) → is_active ds s ≡ true → WereBorn (time_parent nodes s) ds

  born_step : (ds : List Entry) (s : ℕ) (step : Step) → AreBorn ds → is_lawful_step (by nodes log ds) step ≡ true → active_after s (is_active ds s) step ≡ true → WereBorn (time_parent nodes s) ds
  born_step ds s (Began who begin) born q t = by_case (or_cases (who == s) (is_active ds s) t)
    where
      may : may_begin (by nodes log ds) who ≡ true
      may = (and_parts (has_element nodes who) (may_begin (by nodes log ds) who) q).1

      by_case : (who == s ≡ true) ⊎ (is_active ds s ≡ true) → WereBorn (time_parent nodes s) ds
      by_case (inl d) =
          alive_born (time_parent nodes s) ds
          (ap (is_alive (by nodes log ds)) (sym (eqb-true who s d))
          ∙ (and_parts (is_alive (by nodes log ds) who) (not (is_active ds who)) may).0)
      by_case (inr d) = born s d
  born_step ds s (Ended who end') born q t = born s ((still (who == s) (is_active ds s) t).1)
  born_step ds s (Cut who) born q t = born s ((still (who == s) (is_active ds s) t).1)
  born_step ds s _ born q t = born s t

  follow : (whole before xs : List Entry) → AllLawful (by nodes log whole) (with_past before xs) → Follow nodes log before xs
  follow whole before [] all = tt
  follow whole before (x ∷ xs) all = (all.0, follow whole (before ++ x ∷ []) xs all.1)

  active_born : (ds : List Entry) → AllLawful (by nodes log ds) (with_past [] ds) → AreBorn ds
  active_born ds all =
      kept_along nodes log AreBorn
      (λ es y born q s t. born_more (time_parent nodes s) es y (born_step es s y.step born q (sym (active_push es y s) ∙ t)))
      [] ds (λ s t. cc) (follow ds [] ds all)

-- ---- one entry more

-- the earlier of two births of which one stays
min-kept : (n a' a b' b : ℕ) → Stays n a' a → b' ≡ b → b ≤ n → (min a' b' ≡ min a b) × (min a b ≤ n)
min-kept n a' a b' b (inl p) q up = (omega (arith, p.0, q), omega (arith, up))
min-kept n a' a b' b (inr p) q up = (omega (arith, p.0, p.1, q, up), omega (arith, up))

module _ (h : History) (y : Entry) (lawful : IsLawful (with_entry h y)) where
  abbrev place : ℕ
  place = length h.diary

  -- the entry is no birth of the element
  abbrev IsUnborn : ℕ → Type 0
  IsUnborn s = is_birth_under (time_parent h.nodes s) y.step ≡ false

  birth_kept : (s : ℕ) → IsUnborn s → WereBorn (time_parent h.nodes s) h.diary → (birth (with_entry h y) s ≡ birth h s) × (birth h s ≤ place)
  birth_kept s unborn born = under (time_parent h.nodes s) born unborn
    where
      by_place : (o : Option ℕ) → is_some o ≡ true → ((k : ℕ) → o ≡ Some k → suc k ≤ place) → (option_map_or suc o (length (h.diary ++ y ∷ [])) ≡ option_map_or suc o place) × (option_map_or suc o place ≤ place)
      by_place (Some k) some below = (refl, below k refl)
      by_place None some below = cc

      under : (o : Option Node) → WereBorn o h.diary → is_birth_under o y.step ≡ false → (birth_under o (h.diary ++ y ∷ []) ≡ birth_under o h.diary) × (birth_under o h.diary ≤ place)
      under None there q = (refl, omega arith)
      under (Some p) there q =
          rw (last_place-push (λ (z : Entry). gives_birth p.serial z.step) h.diary y q)
          (by_place (last_place (λ (z : Entry). gives_birth p.serial z.step) h.diary) there (last_place-below (λ (z : Entry). gives_birth p.serial z.step) h.diary))

  -- a time that is put last stays
  last_kept : (k : ℕ) (t : Time) (kept : List InstanceTime) → k ≤ place → from_place k kept ≡ kept → from_place k (with_time place (Some t) kept) ≡ kept ++ instance_at place t ∷ []
  last_kept k t kept up same =
      let here : nat_le k place ≡ true = grind (arith, up) in
      filter-append (λ (p : InstanceTime). nat_le k p.place) kept (instance_at place t ∷ [])
      ∙ ap (λ ks. ks ++ from_place k (instance_at place t ∷ [])) same
      ∙ ap (λ b. kept ++ cond b (instance_at place t ∷ []) []) here

  -- ---- begins and ends

  edge_born : (x : ℕ) (edge : Edge) (step : Step) → is_lawful_step h step ≡ true → is_edge edge x step ≡ true → WereBorn (time_parent h.nodes x) h.diary
  edge_born x Begin (Began who begin) q on =
      let may = (and_parts (has_element h.nodes who) (may_begin h who) q).1 in
      alive_born (time_parent h.nodes x) h.diary
      (ap (is_alive h) (sym (eqb-true who x on)) ∙ (and_parts (is_alive h who) (not (is_active h.diary who)) may).0)
  edge_born x End (Ended who end') q on =
      active_born h.nodes h.log h.diary (lawful_before h y lawful).steps x
      (ap (is_active h.diary) (sym (eqb-true who x on)) ∙ (and_parts (has_element h.nodes who) (is_active h.diary who) q).1)
  edge_born x End (Cut who) q on =
      active_born h.nodes h.log h.diary (lawful_before h y lawful).steps x
      (ap (is_active h.diary) (sym (eqb-true who x on)) ∙ (and_parts (has_element h.nodes who) (is_active h.diary who) q).1)
  edge_born x _ _ q on = cc

  module _ (e x : ℕ) (offset : ℤ) (edge : Edge) where
    abbrev edges : List InstanceTime
    edges = edge_instances h e x offset edge

    abbrev edges_from : ℕ
    edges_from = min (birth (with_entry h y) e) (birth (with_entry h y) x)

    on_edge : (t : Time) → edge_time h e x offset y.moment edge y.step ≡ Some t → is_edge edge x y.step ≡ true
    on_edge t q = by_test (is_edge edge x y.step) refl
      where
        by_test : (b : Bool) → is_edge edge x y.step ≡ b → b ≡ true
        by_test true r = refl
        by_test false r = let never : None ≡ Some t = sym (other_edge h e x offset y.moment edge y.step r) ∙ q in cc

    edges_grow : IsUnborn e → IsUnborn x → next_edges h y e x offset edge edges ≡ edges ++ option_to_list (at_place place (edge_time h e x offset y.moment edge y.step))
    edges_grow own beside = by_time (edge_time h e x offset y.moment edge y.step) refl
      where
        by_time : (o : Option Time) → edge_time h e x offset y.moment edge y.step ≡ o → next_edges h y e x offset edge edges ≡ edges ++ option_to_list (at_place place o)
        by_time None q = edges_left h y e x offset edge q own beside ∙ sym (append-nil edges)
        by_time (Some t) q =
            let other = birth_kept x beside (edge_born x edge y.step (lawful_last h y lawful) (on_edge t q)) in
            let same = min-kept place (birth (with_entry h y) e) (birth h e) (birth (with_entry h y) x) (birth h x) (birth-stays h y e own) other.0 other.1 in
            ap (λ o. from_place edges_from (with_time place o edges)) q
            ∙ ap (λ k. from_place k (with_time place (Some t) edges)) same.0
            ∙ last_kept (min (birth h e) (birth h x)) t edges same.1
            (from_twice (min (birth h e) (birth h x)) (min (birth h e) (birth h x)) (placed (λ (z : Entry). edge_time h e x offset z.moment edge z.step) 0 h.diary) (omega arith))

  -- ---- events

  module _ (e : Node) (side : Edge) (item : Item) (offset : ℤ) (occurs : History → Step → Bool) where
    abbrev heard : List InstanceTime
    heard = heard_instances h e side item offset occurs

    lives : (t : Time) → heard_time h e side item offset occurs h.diary y ≡ Some t → is_alive h e.serial ≡ true
    lives t q =
        let both = told (occurs (up_to h h.diary) y.step && hears (up_to h h.diary) e side item) (Some (within_horizon (outer h e.serial y.moment +ℤ offset))) t q in
        let hear = (and_parts (occurs (up_to h h.diary) y.step) (hears (up_to h h.diary) e side item) both).1 in
        let awake = (and_parts (is_alive h e.serial && not (outer_stands h e.serial)) (is_sensitive (is_active h.diary e.serial) (restart_of h.nodes e) side (list_any (is_same_event h.nodes e.serial item) (begin_list h.nodes e))) hear).0 in
        (and_parts (is_alive h e.serial) (not (outer_stands h e.serial)) awake).0
      where
        told : (b : Bool) (o : Option Time) (t : Time) → cond b o None ≡ Some t → b ≡ true
        told true o t q = refl
        told false o t q = cc

    heard_grow : IsUnborn e.serial → next_heard h y e side item offset occurs heard ≡ heard ++ option_to_list (at_place place (heard_time h e side item offset occurs h.diary y))
    heard_grow unborn = by_time (heard_time h e side item offset occurs h.diary y) refl
      where
        by_time : (o : Option Time) → heard_time h e side item offset occurs h.diary y ≡ o → next_heard h y e side item offset occurs heard ≡ heard ++ option_to_list (at_place place o)
        by_time None q = heard_left h y e side item offset occurs q unborn ∙ sym (append-nil heard)
        by_time (Some t) q =
            let own = birth_kept e.serial unborn (alive_born (time_parent h.nodes e.serial) h.diary (lives t q)) in
            ap (λ o. from_place (birth (with_entry h y) e.serial) (with_time place o heard)) q
            ∙ ap (λ k. from_place k (with_time place (Some t) heard)) own.0
            ∙ last_kept (birth h e.serial) t heard own.1
            (from_twice (birth h e.serial) (birth h e.serial) (placed (λ (p : List Entry × Entry). heard_time h e side item offset occurs p.0 p.1) 0 (with_past [] h.diary)) (omega arith))

  -- ---- items

  start_grows : (offset : ℤ) (o : Option Node) → is_birth_under o y.step ≡ false → (kept : List InstanceTime) → next_start h y o offset kept ≡ kept ++ option_to_list (start_time h y offset o)
  start_grows offset None q kept = sym (append-nil kept)
  start_grows offset (Some p) q kept =
      start_left h y (Some p) offset kept q
      ∙ sym (append-nil kept)
      ∙ ap (λ b. kept ++ option_to_list (cond b (Some (instance_at 0 (within_horizon (iteration_start_after h p.serial y.moment (pos 0) y.step +ℤ offset)))) None)) (sym q)

  module _ (bears : BearsNone h.nodes y.step) (e : Node) (side : Edge) (here : node_at (elements h.nodes) e.serial ≡ Some e) where
    own : IsUnborn e.serial
    own = bears e.serial (ap is_some here)

    beside : (item : Item) (x : ℕ) → base_of (source_of h.nodes e.serial item) ≡ Some x → IsUnborn x
    beside item x q = bears x (is_element_of h.nodes e item x here q)

    grows : (item : Item) → next_of h y e side item (instances_of h e side item) ≡ instances_of h e side item ++ option_to_list (given_at h y e side item)
    grows (Offset offset) = by_node (previous_in_seq h.nodes e.serial) refl
      where
        by_node : (o : Option Node) → previous_in_seq h.nodes e.serial ≡ o → next_offset h y e.serial offset o (offset_instances h e.serial offset o) ≡ offset_instances h e.serial offset o ++ option_to_list (offset_given h y e.serial offset o)
        by_node None q = start_grows offset (time_parent h.nodes e.serial) own (offset_instances h e.serial offset None)
        by_node (Some x) q = edges_grow e.serial x.serial offset End own (beside (Offset offset) x.serial (ap (λ o. base_of (syncbase_or source.Start End o)) q))
    grows (Sync who edge offset) = by_node (element_named h.nodes who) refl
      where
        by_node : (o : Option Node) → element_named h.nodes who ≡ o → next_named h y e.serial offset edge o (named_instances h e.serial offset edge o) ≡ named_instances h e.serial offset edge o ++ option_to_list (at_place place (given_edge h y e.serial offset edge o))
        by_node None q = refl
        by_node (Some x) q = edges_grow e.serial x.serial offset edge own (beside (Sync who edge offset) x.serial (ap (λ o. base_of (syncbase_or source.Nothing edge o)) q))
    grows (Event who name offset) = by_target (target h.nodes e.serial who)
      where
        by_target : (o : Option ℕ) → next_event h y e side (Event who name offset) offset name o (event_instances h e side (Event who name offset) offset name o) ≡ event_instances h e side (Event who name offset) offset name o ++ option_to_list (at_place place (given_event h y e side (Event who name offset) offset name o))
        by_target None = refl
        by_target (Some x) = heard_grow e side (Event who name offset) offset (occurs_event x name) own
    grows (Repeat who n offset) = by_target (target h.nodes e.serial who)
      where
        by_target : (o : Option ℕ) → next_repeat h y e side (Repeat who n offset) offset n o (repeat_instances h e side (Repeat who n offset) offset n o) ≡ repeat_instances h e side (Repeat who n offset) offset n o ++ option_to_list (at_place place (given_repeat h y e side (Repeat who n offset) offset n o))
        by_target None = refl
        by_target (Some x) = heard_grow e side (Repeat who n offset) offset (occurs_repeat x n) own
    grows (Key key offset) = heard_grow e side (Key key offset) offset (occurs_key key) own
    grows Indefinite = sym (append-nil (instances_of h e side Indefinite))

    pub kept_with_gift : (item : Item) → IsUpTo y.moment h.diary → instances_of (with_entry h y) e side item ≡ instances_of h e side item ++ option_to_list (given_at h y e side item)
    kept_with_gift item timely = kept-next h y timely e side item ∙ grows item
