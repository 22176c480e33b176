-- The reach of an entry: the same without the plain texts.
use Rattle.std.proofs.Common.{◌≡◌, refl, ◌∙◌, ap, ℕ, List, [], length, Option, Some, None}
use Rattle.std.specs.Prelude.{cond, ◌==◌, ◌&&◌, ◌||◌, filter, is_some, sum_by}
use Rattle.std.specs.List.{list_any}
use Rattle.smil_model.specs.declared.diary.Entry.{Entry}
use Rattle.smil_model.specs.declared.diary.LogEntry.{LogEntry}
use Rattle.smil_model.specs.declared.document.Node.{Node}
use Rattle.smil_model.specs.declared.document.Item.{Item}
use Rattle.smil_model.specs.declared.document.Item.TheVariants.{Event, Repeat}
use Rattle.smil_model.specs.document.Document.{elements, serials, node_at, has_serial, time_parent}
use Rattle.smil_model.specs.document.Dependencies.{all_items}
use Rattle.smil_model.specs.document.Closure.{closure}
use Rattle.smil_model.specs.reach.Reach.{is_option, is_event_of, reads_node, reads, shares_parent, is_near, near, down, down_from, is_key_item, waiters, down_key, reach_by, key_of, subject_of, reach}
use Rattle.smil_model.specs.reach.Bounds.{reaches}
use Rattle.smil_text_laws.specs.PlainTexts.{without_texts, bare}
use Rattle.smil_text_laws.proofs.BareLists.{any_mapped, filter_mapped, map_mapped}
use Rattle.smil_text_laws.proofs.BareDocuments.{elements_bare, element_serials_same, node_bare, within_same, seq_same, excl_same, target_same, items_same, feeds_node_same, read_same, under_same}

module _ (ns : List Node) where
  event_same : (e x : ℕ) (item : Item) → is_event_of (bare ns) e x item ≡ is_event_of ns e x item
  event_same e x (Event who name offset) = ap (is_option x) (target_same ns e who)
  event_same e x (Repeat who n offset) = ap (is_option x) (target_same ns e who)
  event_same e x _ = refl

  reads_node_same : (x : ℕ) (e : Node) → reads_node (bare ns) x (without_texts e) ≡ reads_node ns x e
  reads_node_same x e = λ i. feeds_node_same ns x e i || list_any (λ item. event_same e.serial x item i) (items_same ns e i)

  reads_same : (x y : ℕ) → reads (bare ns) x y ≡ reads ns x y
  reads_same x y =
      ap (list_any (λ (e : Node). (e.serial == y) && reads_node (bare ns) x e)) (elements_bare ns)
      ∙ any_mapped without_texts (λ (e : Node). (e.serial == y) && reads_node (bare ns) x e) (λ (e : Node). (e.serial == y) && reads_node ns x e) (λ e. ap (λ t. (e.serial == y) && t) (reads_node_same x e)) (elements ns)

  near_node_same : (x y : ℕ) → is_near (bare ns) x y ≡ is_near ns x y
  near_node_same x y = λ i. above i || within_same ns x y i || ((seq_same ns x i || excl_same ns x i) && shared i)
    where
      above : has_serial y (time_parent (bare ns) x) ≡ has_serial y (time_parent ns x)
      above = under_same (has_serial y) (has_serial y) refl (λ p. refl) ns x

      shared : shares_parent (bare ns) (time_parent (bare ns) x) y ≡ shares_parent ns (time_parent ns x) y
      shared = under_same (λ o. shares_parent (bare ns) o y) (λ o. shares_parent ns o y) refl (λ p. within_same ns p.serial y) ns x

  near_same : (x : ℕ) → near (bare ns) x ≡ near ns x
  near_same x = λ i. filter (λ y. near_node_same x y i) (element_serials_same ns i)

  down_same : (x : ℕ) → down (bare ns) x ≡ down ns x
  down_same x = λ i. closure (λ a b. reads_same a b i) (element_serials_same ns i) (near_same x i)

  there_same : (x : ℕ) → is_some (node_at (elements (bare ns)) x) ≡ is_some (node_at (elements ns) x)
  there_same x =
      ap (λ ms. is_some (node_at ms x)) (elements_bare ns)
      ∙ ap is_some (node_bare (elements ns) x)
      ∙ read_same is_some is_some refl (λ n. refl) (node_at (elements ns) x)

  down_from_same : (o : Option ℕ) → down_from (bare ns) o ≡ down_from ns o
  down_from_same None = refl
  down_from_same (Some x) = λ i. cond (there_same x i) (down_same x i) []

  waits_same : (key : ℕ) (e : Node) → list_any (is_key_item key) (all_items (bare ns) (without_texts e)) ≡ list_any (is_key_item key) (all_items ns e)
  waits_same key e = ap (list_any (is_key_item key)) (items_same ns e)

  waiters_same : (key : ℕ) → waiters (bare ns) key ≡ waiters ns key
  waiters_same key =
      ap (λ ms. serials (filter (λ (e : Node). list_any (is_key_item key) (all_items (bare ns) e)) ms)) (elements_bare ns)
      ∙ ap serials (filter_mapped without_texts (λ (e : Node). list_any (is_key_item key) (all_items (bare ns) e)) (λ (e : Node). list_any (is_key_item key) (all_items ns e)) (waits_same key) (elements ns))
      ∙ map_mapped without_texts (λ (n : Node). n.serial) (λ (n : Node). n.serial) (λ n. refl) (filter (λ (e : Node). list_any (is_key_item key) (all_items ns e)) (elements ns))

  down_key_same : (key : ℕ) → down_key (bare ns) key ≡ down_key ns key
  down_key_same key = λ i. closure (λ a b. reads_same a b i) (element_serials_same ns i) (waiters_same key i)

  reach_by_same : (key on : Option ℕ) → reach_by (bare ns) key on ≡ reach_by ns key on
  reach_by_same None on = down_from_same on
  reach_by_same (Some key) on = down_key_same key

  pub reach_same : (log : List LogEntry) (entry : Entry) → reach (bare ns) log entry ≡ reach ns log entry
  reach_same log entry = reach_by_same (key_of log entry.step) (subject_of log entry.step)

  pub reaches_same : (log : List LogEntry) (entries : List Entry) → reaches (bare ns) log entries ≡ reaches ns log entries
  reaches_same log entries = λ i. sum_by (λ entry. length (reach_same log entry i)) entries
