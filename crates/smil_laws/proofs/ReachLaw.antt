-- An entry leaves the current interval of each element outside its reach as it was.
use Rattle.std.proofs.Common.{◌≡◌, refl, sym, ◌∙◌, ap, ℕ, suc, zero, List, [], ◌∷◌, ◌++◌, length, Option, Some, None, ℤ, Bool, true, false}
use Rattle.std.specs.Prelude.{◌==◌, reverse, option_and_then, ◌&&◌}
use Rattle.std.specs.List.{list_any}
use Rattle.smil_model.specs.declared.diary.Entry.{Entry}
use Rattle.smil_model.specs.declared.document.Node.{Node}
use Rattle.smil_model.specs.document.Document.{elements, node_at, is_time_child, previous_in_seq}
use Rattle.smil_model.specs.document.Dependencies.{has_implicit_duration, is_sync_with, all_items}
use Rattle.smil_model.specs.diary.Diary.{History, up_to}
use Rattle.smil_model.specs.interval.Current.{interval_given, current_interval}
use Rattle.smil_model.specs.declared.diary.LogEntry.{LogEntry}
use Rattle.smil_model.specs.declared.diary.Step.{Step}
use Rattle.smil_model.specs.interval.Instances.{is_press}
use Rattle.smil_model.specs.reach.Reach.{is_event_of, is_key_item}
use Rattle.smil_laws.proofs.LineageParents.{ParentsBefore}
use Rattle.smil_laws.proofs.IntervalLocality.{same_interval}
use Rattle.smil_laws.proofs.ForeignEntries.{is_about, Apart, ReadsApart, interval-then}
use Rattle.smil_laws.proofs.RoundsRest.{after_rounds, after_rounds-suc, find-serial}

-- a set of elements, by the test of not being in it, outside which nothing of x is read
pub record IsOutside (nodes : List Node) (x : ℕ) (out : ℕ → Bool) (e : Node) : Type 0 where
  pub apart : Apart nodes x e.serial
  pub children : (s : ℕ) → has_implicit_duration e ≡ true → list_any (λ (c : Node). (c.serial == s) && is_time_child nodes e.serial c) nodes ≡ true → (out s ≡ true) × Apart nodes x s
  pub before : (b : Node) → previous_in_seq nodes e.serial ≡ Some b → (out b.serial ≡ true) × Apart nodes x b.serial
  pub named : (b : ℕ) → list_any (is_sync_with nodes b) (all_items nodes e) ≡ true → (out b ≡ true) × Apart nodes x b
  pub heard : (t : ℕ) → list_any (is_event_of nodes e.serial t) (all_items nodes e) ≡ true → t == x ≡ false

-- the step is no press of a key that the element waits for
abbrev pub IsMute : List Node → List LogEntry → Step → Node → Type 0
IsMute nodes log step e =
    (key : ℕ) → list_any (is_key_item key) (all_items nodes e) ≡ true → is_press log key step ≡ false

module _ (h : History) (first : ParentsBefore (reverse h.nodes)) (y : Entry) (x : ℕ) (only : (s : ℕ) → s == x ≡ false → is_about h.log s y.step ≡ false) (out : ℕ → Bool) (outside : (e : Node) → node_at (elements h.nodes) e.serial ≡ Some e → out e.serial ≡ true → IsOutside h.nodes x out e) (mute : (e : Node) → node_at (elements h.nodes) e.serial ≡ Some e → out e.serial ≡ true → IsMute h.nodes h.log y.step e) (now : ℤ) where
  abbrev next : History
  next = up_to h (h.diary ++ y ∷ [])

  reads : (e : Node) → IsOutside h.nodes x out e → IsMute h.nodes h.log y.step e → ReadsApart h first y x only e
  reads e o m = record {
    apart = o.apart;
    children = λ s i q. (o.children s i q).1;
    before = λ b q. (o.before b q).1;
    named = λ b q. (o.named b q).1;
    heard = o.heard;
    keys = m;
  }

  rounds-then : (k s : ℕ) → out s ≡ true → after_rounds next now k s ≡ after_rounds h now k s
  rounds-then zero s t = refl
  rounds-then (suc k) s t =
      after_rounds-suc next now k s
      ∙ at_node (node_at (elements h.nodes) s) refl (find-serial s (elements h.nodes)) (rounds-then k)
      ∙ sym (after_rounds-suc h now k s)
    where
      at_node : (o : Option Node) → node_at (elements h.nodes) s ≡ o → ((e : Node) → o ≡ Some e → e.serial ≡ s) → ((b : ℕ) → out b ≡ true → after_rounds next now k b ≡ after_rounds h now k b) → option_and_then (interval_given next (after_rounds next now k) now) o ≡ option_and_then (interval_given h (after_rounds h now k) now) o
      at_node None here same below = refl
      at_node (Some e) here same below =
          let one : e.serial ≡ s = same e refl in
          let stands : node_at (elements h.nodes) e.serial ≡ Some e = ap (node_at (elements h.nodes)) one ∙ here in
          let o = outside e stands (ap out one ∙ t) in
          interval-then h first y x only (after_rounds next now k) now e (reads e o (mute e stands (ap out one ∙ t)))
          ∙ same_interval h (after_rounds next now k) (after_rounds h now k) now e
          (record {
            children = λ c i q. below c ((o.children c i q).0);
            before = λ b q. below b.serial ((o.before b q).0);
            named = λ b q c. below b ((o.named b q).0);
          })

  -- the law
  pub unreached : (s : ℕ) → out s ≡ true → current_interval next now s ≡ current_interval h now s
  unreached s t = rounds-then (length (elements h.nodes)) s t
