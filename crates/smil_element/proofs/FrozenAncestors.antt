-- The elements above an element, and whether it is frozen by whether the nearest of them is.
use Rattle.std.proofs.Common.{◌≡◌, refl, sym, ◌∙◌, ap, subst, ℕ, suc, ◌≤◌, ◌<◌, List, [], ◌∷◌, length, Bool, true, false, Option, Some, None, arith, drop, filter}
use Rattle.std.specs.Prelude.{cond, pos, find, reverse, not, ◌&&◌, ◌||◌, option_map, is_some, IfSome}
use Rattle.smil_model.specs.declared.document.Node.{Node}
use Rattle.smil_model.specs.document.Document.{Document, elements, is_element, lineage, node_at, serial_of, time_parent}
use Rattle.smil_model.specs.document.Valid.{IsNumberedTree}
use Rattle.smil_model.specs.diary.Diary.{History, is_active, is_deferred, lives_under}
use Rattle.smil_model.specs.diary.Lawful.{has_element}
use Rattle.smil_model.specs.shown.Views.{finished_values, is_displaced, is_frozen_in, is_frozen_under, is_frozen_by, keeps, was_cut, shows_under, time_ancestors, view_facts}
use Rattle.smil_laws.specs.Edited.{IsOrdered}
use Rattle.smil_laws.proofs.LineageParents.{upwards-rest, upwards-head}
use Rattle.smil_laws.proofs.AsideDocuments.{find_true}
use Rattle.smil_laws.proofs.NumberedTrees.{ordered}
use Rattle.smil_tree.proofs.NodeFamilies.{chain_of}
use Rattle.smil_instances.proofs.IdTargets.{element_in, element_of}
use Rattle.smil_graph.proofs.GraphAnswers.{element_at, only_element}
use Rattle.smil_past.proofs.TimeParents.{parent_node}
use Rattle.smil_instances.proofs.SensitiveItems.{serial_is}
use Rattle.smil_model.specs.document.Defaults.{effective_fill}
use Rattle.smil_model.specs.diary.Plays.{FinishedInterval, last_finished}
use Rattle.smil_past.specs.declared.plays.facts.PastInterval.{PastInterval}
use Rattle.smil_past.specs.Played.{past_interval}
use Rattle.smil_element.specs.Shown.{frozen_at, is_cut}

-- from a time parent upwards
abbrev pub chain_from : List Node → Option Node → List Node
chain_from nodes None = []
chain_from nodes (Some p) = filter is_element (lineage nodes p.serial)

-- how many nodes there are from one upwards
abbrev pub height_of : List Node → Option ℕ → ℕ
height_of nodes None = 0
height_of nodes (Some s) = length (lineage nodes s)

module _ (nodes : List Node) (o : IsOrdered nodes) where
  elements_above : (chain : List Node) (s : ℕ) → lineage nodes s ≡ chain → filter is_element chain ≡ chain_from nodes (find is_element chain)
  elements_above [] s e = refl
  elements_above (m ∷ rest) s e = step (is_element m) refl (elements_above rest m.parent (upwards-rest (reverse nodes) s m rest o.first e))
    where
      step : (t : Bool) → is_element m ≡ t → filter is_element rest ≡ chain_from nodes (find is_element rest) → cond t (m ∷ filter is_element rest) (filter is_element rest) ≡ chain_from nodes (cond t (Some m) (find is_element rest))
      step true t later =
          ap (λ b. cond b (m ∷ filter is_element rest) (filter is_element rest)) (sym t)
          ∙ ap (filter is_element) (sym e ∙ ap (lineage nodes) (sym (upwards-head (reverse nodes) s m rest e)))
      step false t later = later

  lower : (chain : List Node) (s : ℕ) → lineage nodes s ≡ chain → height_of nodes (serial_of (find is_element chain)) ≤ length chain
  lower [] s e = omega arith
  lower (m ∷ rest) s e = step (is_element m) (lower rest m.parent (upwards-rest (reverse nodes) s m rest o.first e))
    where
      step : (t : Bool) → height_of nodes (serial_of (find is_element rest)) ≤ length rest → height_of nodes (serial_of (cond t (Some m) (find is_element rest))) ≤ suc (length rest)
      step true later =
          let same : length (lineage nodes m.serial) ≡ suc (length rest) = ap length (ap (lineage nodes) (upwards-head (reverse nodes) s m rest e) ∙ e) in
          omega (arith, same)
      step false later = omega (arith, later)

  -- the elements from an element upwards
  pub element_chain : (s : ℕ) (e : Node) → node_at nodes s ≡ Some e → is_element e ≡ true → filter is_element (lineage nodes s) ≡ e ∷ chain_from nodes (time_parent nodes s)
  element_chain s e at is =
      let chain = chain_of nodes o s e at in
      ap (filter is_element) chain ∙ ap (λ b. cond b (e ∷ filter is_element (lineage nodes e.parent)) (filter is_element (lineage nodes e.parent))) is
      ∙ ap (λ ns. e ∷ ns) (elements_above (lineage nodes e.parent) e.parent refl ∙ ap (λ c. chain_from nodes (find is_element (drop 1 c))) (sym chain))

  -- the time parent stands lower
  pub parent_lower : (s : ℕ) (e : Node) → node_at nodes s ≡ Some e → suc (height_of nodes (serial_of (time_parent nodes s))) ≤ length (lineage nodes s)
  parent_lower s e at =
      let chain = chain_of nodes o s e at in
      let same : length (lineage nodes s) ≡ suc (length (lineage nodes e.parent)) = ap length chain in
      let less : height_of nodes (serial_of (time_parent nodes s)) ≤ length (lineage nodes e.parent) =
      subst (λ c. height_of nodes (serial_of (find is_element (drop 1 c))) ≤ length (lineage nodes e.parent)) (sym chain) (lower (lineage nodes e.parent) e.parent refl) in
      omega (arith, same, less)

frozen_chain : (h : History) (p : Option Node) → is_frozen_in h (chain_from h.nodes p) ≡ frozen_at h (serial_of p)
frozen_chain h None = refl
frozen_chain h (Some p) = refl

module _ (h : History) (next : ℕ) (tree : IsNumberedTree (record { nodes = h.nodes; next = next })) where
  abbrev document : Document
  document = record { nodes = h.nodes; next = next }

  in_order : IsOrdered h.nodes
  in_order = ordered document tree

  node_is : (s : ℕ) (e : Node) → node_at (elements h.nodes) s ≡ Some e → node_at h.nodes s ≡ Some e
  node_is s e at = element_in h.nodes s e tree.distinct at

  element_is : (s : ℕ) (e : Node) → node_at (elements h.nodes) s ≡ Some e → is_element e ≡ true
  element_is s e at = by (is_element e) refl
    where
      found : only_element (Some e) ≡ Some e
      found = ap only_element (sym (node_is s e at)) ∙ sym (element_at h.nodes s tree.distinct) ∙ at

      by : (t : Bool) → is_element e ≡ t → t ≡ true
      by true q = refl
      by false q = let never : None ≡ Some e = sym (ap (λ b. cond b (Some e) None) q) ∙ found in cc

  shows_is : (s : ℕ) (f : Bool) → is_some (node_at h.nodes s) ≡ true → shows_under h f (chain_from h.nodes (time_parent h.nodes s)) ≡ (lives_under (time_parent h.nodes s) h.diary || f)
  shows_is s f known = by (time_parent h.nodes s) refl
    where
      by : (p : Option Node) → time_parent h.nodes s ≡ p → shows_under h f (chain_from h.nodes p) ≡ (lives_under p h.diary || f)
      by None q = refl
      by (Some p) q =
          ap (shows_under h f) (element_chain h.nodes in_order p.serial p (parent_node h.nodes s p tree.distinct known q) (find_true is_element (drop 1 (lineage h.nodes s)) p q))

  -- an element that is frozen, by whether its time parent is
  pub frozen_is : (s : ℕ) (e : Node) → node_at (elements h.nodes) s ≡ Some e → (above : Bool) → above ≡ frozen_at h (serial_of (time_parent h.nodes s)) → frozen_at h (Some s) ≡ is_frozen_under h (lives_under (time_parent h.nodes s) h.diary || above) above e
  frozen_is s e at above told =
      ap (is_frozen_in h) (element_chain h.nodes in_order s e (node_is s e at) (element_is s e at))
      ∙ ap (λ f. is_frozen_under h (shows_under h f (chain_from h.nodes (time_parent h.nodes s))) f e) (frozen_chain h (time_parent h.nodes s) ∙ sym told)
      ∙ ap (λ b. is_frozen_under h b above e) (shows_is s above (ap is_some (node_is s e at)))

  -- the elements above an element
  pub ancestors_are : (s : ℕ) (e : Node) → node_at (elements h.nodes) s ≡ Some e → time_ancestors h.nodes s ≡ chain_from h.nodes (time_parent h.nodes s)
  ancestors_are s e at = ap (drop 1) (element_chain h.nodes in_order s e (node_is s e at) (element_is s e at))

  pub frozen_above : (s : ℕ) (e : Node) → node_at (elements h.nodes) s ≡ Some e → is_frozen_in h (time_ancestors h.nodes s) ≡ frozen_at h (serial_of (time_parent h.nodes s))
  frozen_above s e at = ap (is_frozen_in h) (ancestors_are s e at) ∙ frozen_chain h (time_parent h.nodes s)

  pub shows_above : (s : ℕ) (e : Node) (f : Bool) → node_at (elements h.nodes) s ≡ Some e → shows_under h f (time_ancestors h.nodes s) ≡ (lives_under (time_parent h.nodes s) h.diary || f)
  shows_above s e f at = ap (shows_under h f) (ancestors_are s e at) ∙ shows_is s f (ap is_some (node_is s e at))

  -- the time parent stands lower
  pub frozen_lower : (s : ℕ) (e : Node) (p : Option ℕ) → node_at (elements h.nodes) s ≡ Some e → p ≡ serial_of (time_parent h.nodes s) → height_of h.nodes p < height_of h.nodes (Some s)
  frozen_lower s e p at told =
      let lower = parent_lower h.nodes in_order s e (node_is s e at) in
      let same : height_of h.nodes p ≡ height_of h.nodes (serial_of (time_parent h.nodes s)) = ap (height_of h.nodes) told in
      omega (arith, lower, same)

  -- while it is active it is not frozen
  pub active_unfrozen : (s : ℕ) (e : Node) (t : Bool) → node_at (elements h.nodes) s ≡ Some e → t ≡ is_active h.diary s → t ≡ true → false ≡ frozen_at h (Some s)
  active_unfrozen s e t at told on =
      let above = frozen_at h (serial_of (time_parent h.nodes s)) in
      let shows = lives_under (time_parent h.nodes s) h.diary || above in
      ap (λ b. (not b && not (is_deferred h e.serial)) && is_frozen_by (view_facts h (pos 0) None shows above e)) (sym on ∙ told ∙ ap (is_active h.diary) (sym (serial_is h.nodes s e at)))
      ∙ sym (frozen_is s e at above refl)

  -- under one that is alive nothing is frozen
  pub lives_unfrozen : (p : Option Node) → IfSome (serial_of p) (λ s. has_element h.nodes s ≡ true) → true ≡ lives_under p h.diary → false ≡ frozen_at h (serial_of p)
  lives_unfrozen None known lives = refl
  lives_unfrozen (Some p) known lives =
      let e = element_of h.nodes p.serial known in
      active_unfrozen p.serial e.0 true e.1 lives refl

  pub resting_frozen : (s : ℕ) (e : Node) (t above r : Bool) → node_at (elements h.nodes) s ≡ Some e → t ≡ is_active h.diary s → t ≡ false → above ≡ frozen_at h (serial_of (time_parent h.nodes s)) → r ≡ (not (is_deferred h s) && is_frozen_by (view_facts h (pos 0) None (lives_under (time_parent h.nodes s) h.diary || above) above e)) → r ≡ frozen_at h (Some s)
  resting_frozen s e t above r at told off above_is is =
      let same = serial_is h.nodes s e at in
      is
      ∙ ap (λ b. (not b && not (is_deferred h s)) && is_frozen_by (view_facts h (pos 0) None (lives_under (time_parent h.nodes s) h.diary || above) above e)) (sym off ∙ told)
      ∙ ap (λ k. (not (is_active h.diary k) && not (is_deferred h k)) && is_frozen_by (view_facts h (pos 0) None (lives_under (time_parent h.nodes s) h.diary || above) above e)) (sym same)
      ∙ sym (frozen_is s e at above above_is)

-- whether it is frozen by what is kept of it
pub frozen_by_row : (h : History) (who : ℕ) (e : Node) (last : Option PastInterval) (kept shows above : Bool) → e.serial ≡ who → last ≡ option_map (past_interval h who) (last_finished h who) → kept ≡ (is_some last && keeps (effective_fill h.nodes e) (is_displaced h who)) → (is_some last && ((kept && shows) || (is_cut last && above))) ≡ is_frozen_by (view_facts h (pos 0) None shows above e)
frozen_by_row h who e last kept shows above same told keeps_it =
    ap (λ k. is_some last && ((k && shows) || (is_cut last && above))) keeps_it
    ∙ ap (λ l. is_some l && (((is_some l && keeps (effective_fill h.nodes e) (is_displaced h who)) && shows) || (is_cut l && above))) told
    ∙ by (last_finished h who)
    ∙ ap (λ k. is_some (option_map (finished_values h k) (last_finished h k)) && ((keeps (effective_fill h.nodes e) (is_displaced h k) && shows) || (was_cut (last_finished h k) && above))) (sym same)
  where
    by : (l : Option FinishedInterval) → (is_some (option_map (past_interval h who) l) && (((is_some (option_map (past_interval h who) l) && keeps (effective_fill h.nodes e) (is_displaced h who)) && shows) || (is_cut (option_map (past_interval h who) l) && above))) ≡ (is_some (option_map (finished_values h who) l) && ((keeps (effective_fill h.nodes e) (is_displaced h who) && shows) || (was_cut l && above)))
    by None = refl
    by (Some f) = refl
