-- What the index keeps of an element, entry by entry.
use Rattle.std.proofs.Common.{◌≡◌, ℕ, suc, ◌+◌, ◌≤◌, Bool, true, false, ◌==◌, List, [], ◌∷◌, ◌++◌, length, refl, ap, sym, ◌∙◌, arith}
use Rattle.std.specs.Prelude.{fold, if◌then◌else◌, Option, Some, None, IfSome, option_map}
use Rattle.std.proofs.lemmas.List.Sums.{fold-append}
use Rattle.smil_model.specs.declared.diary.Entry.{Entry}
use Rattle.smil_model.specs.declared.diary.Step.{Step}
use Rattle.smil_model.specs.declared.diary.Step.TheVariants.{Began, Repeated, Ended, Cut, Paused, Resumed, Deferred, Passed, Logged}
use Rattle.smil_model.specs.declared.diary.StepKind.{StepKind}
use Rattle.smil_model.specs.declared.diary.StepKind.TheVariants as kind
use Rattle.smil_model.specs.diary.Diary.{is_step, is_active, iteration_after, iteration_from, last_step}
use Rattle.smil_diary.specs.declared.element.ElementPlaces.{ElementPlaces}
use Rattle.smil_diary.specs.declared.element.TheConstants.{NOTHING}
use Rattle.smil_diary.specs.ElementPlaces.{element_of, noted, noted_at, noted_by, subject, active_by, last_of}
use Rattle.smil_diary.proofs.LastPlaces.{active-last, found, last-push}

pub no-entries : (serial : ℕ) → element_of [] serial ≡ NOTHING
unfolding element_of
no-entries serial = refl

pub last-of : (diary : List Entry) (k : StepKind) (s : ℕ) → last_of (element_of diary s) k ≡ last_step diary k s
unfolding element_of
last-of diary kind.Began s = refl
last-of diary _ s = refl

pub last-kept : {e : ElementPlaces} (diary : List Entry) (k : StepKind) (s : ℕ)
    → e ≡ element_of diary s → last_of e k ≡ last_step diary k s
last-kept diary k s is = ap (λ e. last_of e k) is ∙ last-of diary k s

pub playing : (diary : List Entry) (s : ℕ) → active_by (element_of diary s) ≡ is_active diary s
unfolding element_of
playing diary s = sym (active-last s diary)

-- ---- one more entry

grow : ℕ → Step → ℕ → ElementPlaces → ElementPlaces
grow s step p e = record {
  began = found (is_step kind.Began s step) p e.began;
  ended = found (is_step kind.Ended s step) p e.ended;
  cut = found (is_step kind.Cut s step) p e.cut;
  repeated = found (is_step kind.Repeated s step) p e.repeated;
  repeats = iteration_after s e.repeats step;
  paused = found (is_step kind.Paused s step) p e.paused;
  resumed = found (is_step kind.Resumed s step) p e.resumed;
  deferred = found (is_step kind.Deferred s step) p e.deferred;
  passed = found (is_step kind.Passed s step) p e.passed;
}

last-step : (diary : List Entry) (x : Entry) (k : StepKind) (s : ℕ) →
    last_step (diary ++ x ∷ []) k s ≡ found (is_step k s x.step) (length diary) (last_step diary k s)
last-step diary x k s = last-push (λ (y : Entry). is_step k s y.step) diary x

grows : (diary : List Entry) (x : Entry) (s : ℕ) →
    element_of (diary ++ x ∷ []) s ≡ grow s x.step (length diary) (element_of diary s)
unfolding element_of grow
grows diary x s =
    let a = last-step diary x kind.Began s in
    let b = last-step diary x kind.Repeated s in
    let c = last-step diary x kind.Ended s in
    let d = last-step diary x kind.Cut s in
    let e = last-step diary x kind.Paused s in
    let f = last-step diary x kind.Resumed s in
    let g = last-step diary x kind.Deferred s in
    let h = last-step diary x kind.Passed s in
    let i = fold-append (λ before (y : Entry). iteration_after s before y.step) None diary (x ∷ []) in
    λ j. record {
      began = a j;
      ended = c j;
      cut = d j;
      repeated = b j;
      repeats = i j;
      paused = e j;
      resumed = f j;
      deferred = g j;
      passed = h j;
    }

-- the same, by the element that the entry is on
either : (f : Bool → ElementPlaces) (one none : ElementPlaces) → f true ≡ one → f false ≡ none → (c : Bool)
    → f c ≡ (if c then one else none)
either f one none when_so else_so true = when_so
either f one none when_so else_so false = else_so

grow-by : (s : ℕ) (step : Step) (p : ℕ) (e : ElementPlaces) → grow s step p e ≡ noted_by (subject step) p s e
unfolding grow
grow-by s (Began who begin) p e =
    either (λ c. record e { began = found c p e.began; repeats = if c then Some 0 else e.repeats }) (noted kind.Began p e) e refl refl (who == s)
grow-by s (Repeated who start) p e =
    either (λ c. record e { repeated = found c p e.repeated; repeats = if c then option_map suc e.repeats else e.repeats }) (noted kind.Repeated p e) e refl refl (who == s)
grow-by s (Ended who end') p e = either (λ c. record e { ended = found c p e.ended }) (noted kind.Ended p e) e refl refl (who == s)
grow-by s (Cut who) p e = either (λ c. record e { cut = found c p e.cut }) (noted kind.Cut p e) e refl refl (who == s)
grow-by s (Paused who) p e = either (λ c. record e { paused = found c p e.paused }) (noted kind.Paused p e) e refl refl (who == s)
grow-by s (Resumed who) p e = either (λ c. record e { resumed = found c p e.resumed }) (noted kind.Resumed p e) e refl refl (who == s)
grow-by s (Deferred who begin) p e = either (λ c. record e { deferred = found c p e.deferred }) (noted kind.Deferred p e) e refl refl (who == s)
grow-by s (Passed who begin) p e = either (λ c. record e { passed = found c p e.passed }) (noted kind.Passed p e) e refl refl (who == s)
grow-by s (Logged place) p e = refl

pub pushed : (diary : List Entry) (x : Entry) (s : ℕ) →
    element_of (diary ++ x ∷ []) s ≡ noted_by (subject x.step) (length diary) s (element_of diary s)
pushed diary x s = grows diary x s ∙ grow-by s x.step (length diary) (element_of diary s)

pub pushed-on : (diary : List Entry) (x : Entry) (s who : ℕ) (k : StepKind) → Some (who, k) ≡ subject x.step →
    element_of (diary ++ x ∷ []) s ≡ noted_at who k (length diary) s (element_of diary s)
pushed-on diary x s who k on = pushed diary x s ∙ ap (λ o. noted_by o (length diary) s (element_of diary s)) (sym on)

pub pushed-off : (diary : List Entry) (x : Entry) (s : ℕ) → None ≡ subject x.step →
    element_of (diary ++ x ∷ []) s ≡ element_of diary s
pushed-off diary x s off = pushed diary x s ∙ ap (λ o. noted_by o (length diary) s (element_of diary s)) (sym off)

-- ---- there are no more repeats than entries

few-more : (c : Bool) (o p : Option ℕ) (n : ℕ) → IfSome o (λ k. k ≤ n) → IfSome p (λ k. k ≤ n) → IfSome (if c then o else p) (λ k. k ≤ n)
few-more true o p n one other = one
few-more false o p n one other = other

few-here : (o : Option ℕ) (m n : ℕ) → m ≤ n → IfSome o (λ k. k ≤ m) → IfSome o (λ k. k ≤ n)
few-here None m n le is = tt
few-here (Some k) m n le is = omega arith

few-next : (o : Option ℕ) (n : ℕ) → IfSome o (λ k. k ≤ n) → IfSome (option_map suc o) (λ k. k ≤ suc n)
few-next None n is = tt
few-next (Some k) n is = omega arith

few-after : (s : ℕ) (before : Option ℕ) (n : ℕ) (step : Step) → IfSome before (λ k. k ≤ n) → IfSome (iteration_after s before step) (λ k. k ≤ suc n)
few-after s before n (Began who begin) is =
    few-more (who == s) (Some 0) before (suc n) (omega arith) (few-here before n (suc n) (omega arith) is)
few-after s before n (Repeated who start) is =
    few-more (who == s) (option_map suc before) before (suc n) (few-next before n is) (few-here before n (suc n) (omega arith) is)
few-after s before n _ is = few-here before n (suc n) (omega arith) is

few-from : (s : ℕ) (before : Option ℕ) (n : ℕ) (xs : List Entry) → IfSome before (λ k. k ≤ n)
    → IfSome (fold (λ b (x : Entry). iteration_after s b x.step) before xs) (λ k. k ≤ n + length xs)
few-from s before n [] is = few-here before n (n + 0) (omega arith) is
few-from s before n (x ∷ xs) is =
    few-here (fold (λ b (y : Entry). iteration_after s b y.step) (iteration_after s before x.step) xs) (suc n + length xs) (n + length (x ∷ xs)) (omega arith)
    (few-from s (iteration_after s before x.step) (suc n) xs (few-after s before n x.step is))

pub few-repeats : (diary : List Entry) (s : ℕ) → IfSome (element_of diary s).repeats (λ k. k ≤ length diary)
unfolding element_of
few-repeats diary s = few-here (iteration_from s diary) (0 + length diary) (length diary) (omega arith) (few-from s None 0 diary tt)
