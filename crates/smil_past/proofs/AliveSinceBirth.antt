-- The entries since birth, and whether an element is alive, after one entry more.
use Rattle.std.proofs.Common.{◌≡◌, refl, sym, ◌∙◌, ap, ℕ, suc, ◌≤◌, List, [], ◌∷◌, ◌++◌, length, drop, Option, Some, None, Bool, true, false, arith, length-append}
use Rattle.std.specs.Prelude.{cond, ℤ, not, ◌==◌, ◌||◌, ◌&&◌, fold}
use Rattle.std.specs.Option.{option_map_or}
use Rattle.std.proofs.lemmas.Bool.{and_parts, cond_both, eqb-true}
use Rattle.std.proofs.lemmas.List.{drop-append-le, drop_all}
use Rattle.std.proofs.lemmas.List.Sums.{fold_push}
use Rattle.smil_model.specs.declared.diary.Entry.{Entry}
use Rattle.smil_model.specs.declared.diary.Step.{Step}
use Rattle.smil_model.specs.declared.diary.Step.TheVariants.{Began, Ended, Cut, Deferred, Passed}
use Rattle.smil_model.specs.declared.document.Node.{Node}
use Rattle.smil_model.specs.document.Document.{time_parent}
use Rattle.smil_model.specs.diary.Diary.{History, last_place, later_place, gives_birth, birth_under, since_birth, active_after, deferral_after, is_active, is_alive, lives_under, with_entry}
use Rattle.smil_model.specs.diary.Lawful.{has_element, is_lawful_step, may_begin}
use Rattle.smil_model.specs.diary.Plays.{is_birth_under, passed_after}
use Rattle.smil_laws.proofs.ForeignEntries.{last_place-push, last_place-below}
use Rattle.smil_diary.proofs.TestChoices.{same_choice}
use Rattle.smil_instances.proofs.ResetPlaces.{last_place-hit}

-- an active element began
began_once : (p : ℕ) (b : Bool) (ds : List Entry) → last_place (λ (x : Entry). gives_birth p x.step) ds ≡ None → b ≡ false → fold (λ before (x : Entry). active_after p before x.step) b ds ≡ false
began_once p b [] q off = off
began_once p b (x ∷ xs) q off = by_rest (last_place (λ (z : Entry). gives_birth p z.step) xs) (gives_birth p x.step) refl refl q (began_once p (active_after p b x.step) xs)
  where
    quiet : (c : Bool) (step : Step) → gives_birth p step ≡ false → c ≡ false → active_after p c step ≡ false
    quiet c (Began who begin) r e = ap (λ t. t || c) r ∙ e
    quiet c (Ended who end') r e = cond_both (who == p) false c (λ b. b ≡ false) (λ q. refl) (λ q. e)
    quiet c (Cut who) r e = cond_both (who == p) false c (λ b. b ≡ false) (λ q. refl) (λ q. e)
    quiet c _ r e = e

    by_rest : (o : Option ℕ) (t : Bool) → last_place (λ (z : Entry). gives_birth p z.step) xs ≡ o → gives_birth p x.step ≡ t → later_place t o ≡ None → (last_place (λ (z : Entry). gives_birth p z.step) xs ≡ None → active_after p b x.step ≡ false → fold (λ before (z : Entry). active_after p before z.step) (active_after p b x.step) xs ≡ false) → fold (λ before (z : Entry). active_after p before z.step) (active_after p b x.step) xs ≡ false
    by_rest (Some k) t e r later more = cc
    by_rest None true e r later more = cc
    by_rest None false e r later more = more e (quiet b x.step r off)

module _ (h : History) (y : Entry) (s : ℕ) where
  abbrev birth_now : Bool
  birth_now = is_birth_under (time_parent h.nodes s) y.step

  -- a birth leaves nothing
  pub since_hit : birth_now ≡ true → since_birth (with_entry h y) s ≡ []
  since_hit q = under (time_parent h.nodes s) q
    where
      under : (o : Option Node) → is_birth_under o y.step ≡ true → drop (birth_under o (h.diary ++ y ∷ [])) (h.diary ++ y ∷ []) ≡ []
      under None r = cc
      under (Some p) r =
          ap (λ k. drop (option_map_or suc k (length (h.diary ++ y ∷ []))) (h.diary ++ y ∷ [])) (last_place-hit (λ (z : Entry). gives_birth p.serial z.step) h.diary y r)
          ∙ drop_all (suc (length h.diary)) (h.diary ++ y ∷ []) (omega (arith, length-append h.diary (y ∷ [])))

  -- another entry stands at the end of those since birth, where it tells anything to what it is folded into
  pub since_miss : {B : Type 0} (f : B → Entry → B) (b : B) → birth_now ≡ false → (lives_under (time_parent h.nodes s) h.diary ≡ false → f b y ≡ b) → fold f b (since_birth (with_entry h y) s) ≡ f (fold f b (since_birth h s)) y
  since_miss f b q dead = under (time_parent h.nodes s) q dead
    where
      at : (o : Option ℕ) → ((k : ℕ) → o ≡ Some k → suc k ≤ length h.diary) → (o ≡ None → f b y ≡ b) → fold f b (drop (option_map_or suc o (length (h.diary ++ y ∷ []))) (h.diary ++ y ∷ [])) ≡ f (fold f b (drop (option_map_or suc o (length h.diary)) h.diary)) y
      at (Some k) below none =
          ap (fold f b) (drop-append-le (suc k) h.diary (y ∷ []) (below k refl)) ∙ fold_push f b (drop (suc k) h.diary) y
      at None below none =
          ap (fold f b) (drop_all (length (h.diary ++ y ∷ [])) (h.diary ++ y ∷ []) (omega arith)) ∙ sym (none refl)
          ∙ sym (ap (λ ds. f (fold f b ds) y) (drop_all (length h.diary) h.diary (omega arith)))

      under : (o : Option Node) → is_birth_under o y.step ≡ false → (lives_under o h.diary ≡ false → f b y ≡ b) → fold f b (drop (birth_under o (h.diary ++ y ∷ [])) (h.diary ++ y ∷ [])) ≡ f (fold f b (drop (birth_under o h.diary) h.diary)) y
      under None r none = fold_push f b h.diary y
      under (Some p) r none =
          ap (λ k. fold f b (drop (option_map_or suc k (length (h.diary ++ y ∷ []))) (h.diary ++ y ∷ []))) (last_place-push (λ (z : Entry). gives_birth p.serial z.step) h.diary y r)
          ∙ at (last_place (λ (z : Entry). gives_birth p.serial z.step) h.diary) (last_place-below (λ (z : Entry). gives_birth p.serial z.step) h.diary)
          (λ e. none (began_once p.serial false h.diary e refl))

  -- ---- an element that is not alive is neither passed over nor deferred

  pub own_alive : (who : ℕ) → (has_element h.nodes who && may_begin h who) ≡ true → who == s ≡ true → is_alive h s ≡ true
  own_alive who q is =
      let parts = and_parts (has_element h.nodes who) (may_begin h who) q in
      ap (is_alive h) (sym (eqb-true who s is)) ∙ (and_parts (is_alive h who) (not (is_active h.diary who)) parts.1).0

  pub passed_dead : is_lawful_step h y.step ≡ true → is_alive h s ≡ false → passed_after s None y.step ≡ None
  passed_dead lawful dead = by_step y.step lawful
    where
      by_own : (who : ℕ) (v : ℤ) (t : Bool) → who == s ≡ t → (who == s ≡ true → is_alive h s ≡ true) → cond t (Some v) None ≡ None
      by_own who v true e own = let never : true ≡ false = sym (own e) ∙ dead in cc
      by_own who v false e own = refl

      by_step : (step : Step) → is_lawful_step h step ≡ true → passed_after s None step ≡ None
      by_step (Passed who begin) q = by_own who begin (who == s) refl (own_alive who q)
      by_step _ q = refl

  pub deferred_dead : is_lawful_step h y.step ≡ true → is_alive h s ≡ false → deferral_after s y None y.step ≡ None
  deferred_dead lawful dead = by_step y.step lawful
    where
      by_own : (who : ℕ) (t : Bool) → who == s ≡ t → (who == s ≡ true → is_alive h s ≡ true) → cond t (Some y) None ≡ None
      by_own who true e own = let never : true ≡ false = sym (own e) ∙ dead in cc
      by_own who false e own = refl

      by_step : (step : Step) → is_lawful_step h step ≡ true → deferral_after s y None step ≡ None
      by_step (Deferred who begin) q = by_own who (who == s) refl (own_alive who q)
      by_step (Began who begin) q = same_choice (who == s) None
      by_step (Ended who end') q = same_choice (who == s) None
      by_step (Cut who) q = same_choice (who == s) None
      by_step (Passed who begin) q = same_choice (who == s) None
      by_step _ q = refl
