-- Attributes that fit, and still fit with one of them absent.
use Rattle.std.proofs.Common.{◌≡◌, refl, sym, ◌∙◌, ap, Bool, true, false, Option, None, cond, inl, inr}
use Rattle.std.specs.List.{list_all}
use Rattle.std.specs.Prelude.{◌&&◌, ◌||◌, ◌⊎◌, not, is_some}
use Rattle.smil_model.specs.declared.document.Attrs.{Attrs}
use Rattle.smil_model.specs.declared.document.AttrName.{AttrName}
use Rattle.smil_model.specs.declared.document.AttrName.TheVariants as name
use Rattle.smil_model.specs.declared.texts.TextName.{TextName}
use Rattle.smil_model.specs.declared.document.Kind.{Kind}
use Rattle.smil_model.specs.document.Document.{is_class_kind}
use Rattle.smil_model.specs.document.Words.{is_id}
use Rattle.smil_model.specs.document.Values.{fit_kind, absent_or, is_begin, is_dur, is_list, is_clock, is_bound, is_count, is_positive_bound, is_endsync, has_element_attrs, has_class_attrs, are_element_values, fits_text, has_endsync, is_seq_parent, is_higher, is_lower}
use Rattle.smil_model.specs.document.Texts.{has_text, is_text, text_at, text_names, with_text}
use Rattle.smil_model.specs.document.Edits.{without_attr}
use Rattle.smil_model.proofs.TextTables.{all_texts, changed_text, each_text}

-- ---- tests of which one follows from another

abbrev Leads : Bool → Bool → Type 0
Leads a b = a ≡ true → b ≡ true

same : (a : Bool) → Leads a a
same a h = h

both : (a b c d : Bool) → Leads a c → Leads b d → Leads (a && b) (c && d)
both true b c d f g h = ap (λ t. t && d) (f refl) ∙ g h
both false b c d f g h = cc

either : (a b c d : Bool) → Leads a c → Leads b d → Leads (a || b) (c || d)
either true b c d f g h = ap (λ t. t || d) (f refl)
either false b c d f g h = by_test c
  where
    by_test : (t : Bool) → (t || d) ≡ true
    by_test true = refl
    by_test false = g h

turned : (a b : Bool) → Leads b a → Leads (not a) (not b)
turned a true f h = ap not (sym (f refl)) ∙ h
turned a false f h = refl

-- ---- a value that stays or is absent

abbrev Stays : {A : Type 0} → Option A → Option A → Type 0
Stays new old = (new ≡ old) ⊎ (new ≡ None)

some_old : {A : Type 0} (new old : Option A) → Stays new old → Leads (is_some new) (is_some old)
some_old new old (inl e) h = sym (ap is_some e) ∙ h
some_old new old (inr e) h = let never : false ≡ true = sym (ap is_some e) ∙ h in cc

passes_new : {A : Type 0} (test : A → Bool) (new old : Option A) → Stays new old → Leads (absent_or test old) (absent_or test new)
passes_new test new old (inl e) h = ap (absent_or test) e ∙ h
passes_new test new old (inr e) h = ap (absent_or test) e

module _ (attrs : Attrs) where
  id_stays : (given : AttrName) → Stays (without_attr attrs given).id attrs.id
  id_stays name.Id = inr refl
  id_stays _ = inl refl

  begin_stays : (given : AttrName) → Stays (without_attr attrs given).begin attrs.begin
  begin_stays name.Begin = inr refl
  begin_stays _ = inl refl

  dur_stays : (given : AttrName) → Stays (without_attr attrs given).dur attrs.dur
  dur_stays name.Dur = inr refl
  dur_stays _ = inl refl

  end_stays : (given : AttrName) → Stays (without_attr attrs given).«end» attrs.«end»
  end_stays name.End = inr refl
  end_stays _ = inl refl

  min_stays : (given : AttrName) → Stays (without_attr attrs given).min attrs.min
  min_stays name.Min = inr refl
  min_stays _ = inl refl

  max_stays : (given : AttrName) → Stays (without_attr attrs given).max attrs.max
  max_stays name.Max = inr refl
  max_stays _ = inl refl

  repeat_count_stays : (given : AttrName) → Stays (without_attr attrs given).repeat_count attrs.repeat_count
  repeat_count_stays name.RepeatCount = inr refl
  repeat_count_stays _ = inl refl

  repeat_dur_stays : (given : AttrName) → Stays (without_attr attrs given).repeat_dur attrs.repeat_dur
  repeat_dur_stays name.RepeatDur = inr refl
  repeat_dur_stays _ = inl refl

  restart_stays : (given : AttrName) → Stays (without_attr attrs given).restart attrs.restart
  restart_stays name.Restart = inr refl
  restart_stays _ = inl refl

  fill_stays : (given : AttrName) → Stays (without_attr attrs given).fill attrs.fill
  fill_stays name.Fill = inr refl
  fill_stays _ = inl refl

  restart_default_stays : (given : AttrName) → Stays (without_attr attrs given).restart_default attrs.restart_default
  restart_default_stays name.RestartDefault = inr refl
  restart_default_stays _ = inl refl

  fill_default_stays : (given : AttrName) → Stays (without_attr attrs given).fill_default attrs.fill_default
  fill_default_stays name.FillDefault = inr refl
  fill_default_stays _ = inl refl

  endsync_stays : (given : AttrName) → Stays (without_attr attrs given).endsync attrs.endsync
  endsync_stays name.Endsync = inr refl
  endsync_stays _ = inl refl

  peers_stays : (given : AttrName) → Stays (without_attr attrs given).peers attrs.peers
  peers_stays name.Peers = inr refl
  peers_stays _ = inl refl

  higher_stays : (given : AttrName) → Stays (without_attr attrs given).higher attrs.higher
  higher_stays name.Higher = inr refl
  higher_stays _ = inl refl

  lower_stays : (given : AttrName) → Stays (without_attr attrs given).lower attrs.lower
  lower_stays name.Lower = inr refl
  lower_stays _ = inl refl

  texts_stay : (given : AttrName) (n : TextName) → Stays (text_at (without_attr attrs given).texts n) (text_at attrs.texts n)
  texts_stay (name.Text m) n = by (changed_text attrs.texts m n None)
    where
      by : ((m ≡ n) × (text_at (with_text attrs.texts m None) n ≡ None)) ⊎ (text_at (with_text attrs.texts m None) n ≡ text_at attrs.texts n) → Stays (text_at (with_text attrs.texts m None) n) (text_at attrs.texts n)
      by (inl e) = inr e.1
      by (inr e) = inl e
  texts_stay _ n = inl refl

  module _ (kind : Kind) (parent : Option Kind) (given : AttrName) where
    abbrev after : Attrs
    after = without_attr attrs given

    texts : Leads (list_all (fits_text kind attrs.texts) text_names) (list_all (fits_text kind after.texts) text_names)
    texts h = all_texts (fits_text kind after.texts) (λ n. passes_new (λ text. has_text kind n && is_text n text) _ _ (texts_stay given n) (each_text (fits_text kind attrs.texts) h n))

    element_attrs : Leads (has_element_attrs after) (has_element_attrs attrs)
    element_attrs = either _ _ _ _ (either _ _ _ _ (either _ _ _ _ (either _ _ _ _ (either _ _ _ _ (either _ _ _ _ (either _ _ _ _ (either _ _ _ _ (either _ _ _ _ (either _ _ _ _ (either _ _ _ _ (some_old _ _ (begin_stays given)) (some_old _ _ (dur_stays given))) (some_old _ _ (end_stays given))) (some_old _ _ (min_stays given))) (some_old _ _ (max_stays given))) (some_old _ _ (repeat_count_stays given))) (some_old _ _ (repeat_dur_stays given))) (some_old _ _ (restart_stays given))) (some_old _ _ (fill_stays given))) (some_old _ _ (restart_default_stays given))) (some_old _ _ (fill_default_stays given))) (some_old _ _ (endsync_stays given))

    class_attrs : Leads (has_class_attrs after) (has_class_attrs attrs)
    class_attrs = either _ _ _ _ (either _ _ _ _ (some_old _ _ (peers_stays given)) (some_old _ _ (higher_stays given))) (some_old _ _ (lower_stays given))

    values : Leads (are_element_values (is_seq_parent parent) attrs) (are_element_values (is_seq_parent parent) after)
    values = both _ _ _ _ (both _ _ _ _ (both _ _ _ _ (both _ _ _ _ (both _ _ _ _ (both _ _ _ _ (both _ _ _ _ (passes_new (is_begin (is_seq_parent parent)) _ _ (begin_stays given)) (passes_new is_dur _ _ (dur_stays given))) (passes_new is_list _ _ (end_stays given))) (passes_new is_clock _ _ (min_stays given))) (passes_new is_bound _ _ (max_stays given))) (passes_new is_count _ _ (repeat_count_stays given))) (passes_new is_positive_bound _ _ (repeat_dur_stays given))) (passes_new is_endsync _ _ (endsync_stays given))

    of_kind : (t : Bool) → Leads
        (cond t (not (has_element_attrs attrs) && absent_or is_higher attrs.higher && absent_or is_lower attrs.lower) (not (has_class_attrs attrs) && are_element_values (is_seq_parent parent) attrs && (has_endsync kind || not (is_some attrs.endsync))))
        (cond t (not (has_element_attrs after) && absent_or is_higher after.higher && absent_or is_lower after.lower) (not (has_class_attrs after) && are_element_values (is_seq_parent parent) after && (has_endsync kind || not (is_some after.endsync))))
    of_kind true =
        both _ _ _ _ (both _ _ _ _ (turned _ _ element_attrs) (passes_new is_higher _ _ (higher_stays given))) (passes_new is_lower _ _ (lower_stays given))
    of_kind false =
        both _ _ _ _ (both _ _ _ _ (turned _ _ class_attrs) values) (either _ _ _ _ (same (has_endsync kind)) (turned _ _ (some_old _ _ (endsync_stays given))))

    pub fit_without : fit_kind kind parent attrs ≡ true → fit_kind kind parent (without_attr attrs given) ≡ true
    fit_without = both _ _ _ _ (both _ _ _ _ (passes_new is_id _ _ (id_stays given)) texts) (of_kind (is_class_kind kind))
