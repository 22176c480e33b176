-- Who is in the queue of an excl after a lawful diary, and that there is room.
use Rattle.std.proofs.Common.{◌≡◌, refl, sym, ◌∙◌, ap, subst, ℕ, ◌<◌, ◌≤◌, List, [], ◌∷◌, ◌++◌, Some, Bool, true, false, length, arith, inl, inr}
use Rattle.std.specs.Prelude.{cond, not, ◌==◌, ◌&&◌, ◌⊎◌, filter, find, map, nat_eq, is_some}
use Rattle.std.specs.List.{AllByRecursion, list_any, IsDistinct}
use Rattle.std.specs.Cmp.{nat_eq_equiv}
use Rattle.std.proofs.lemmas.Bool.{eqb-true, eq-eqb, or_cases, or_left, or_right, or_parts}
use Rattle.std.proofs.lemmas.List.{length-map}
use Rattle.std.proofs.lemmas.Map.Keys.{IsDistinct-cons}
use Rattle.std.proofs.lemmas.Map.Made.{length-le_from_is_member}
use Rattle.smil_model.specs.declared.diary.Entry.{Entry}
use Rattle.smil_model.specs.declared.diary.LogEntry.{LogEntry}
use Rattle.smil_model.specs.declared.document.Node.{Node}
use Rattle.smil_model.specs.document.Document.{is_element, time_children}
use Rattle.smil_model.specs.diary.Diary.{History, with_past}
use Rattle.smil_model.specs.diary.Lawful.{AllLawful, IsLawful, has_element}
use Rattle.smil_model.specs.happening.Queue.{without, is_child_of, queue_of}
use Rattle.smil_laws.proofs.LineageParents.{swap_eqb}
use Rattle.smil_laws.proofs.LawfulSteps.{Follow, IsWaiting, all_waiting}
use Rattle.smil_laws.proofs.Lists.{each_weaker, each_kept}
use Rattle.smil_excl.specs.QueueState
use Rattle.smil_excl.specs.QueueState.{holds, ranked}
use Rattle.smil_excl.specs.Laws.{IsHeldOnce, held_of}
use Rattle.smil_excl.proofs.QueuePlaces.{without_is_without}
use Rattle.smil_excl.proofs.QueueDistinct.{gone, once_waiting, once_without}

-- ---- who is in a queue

followed : (nodes : List Node) (log : List LogEntry) (whole before xs : List Entry) → AllLawful (record { nodes = nodes; log = log; diary = whole }) (with_past before xs) → Follow nodes log before xs
followed nodes log whole before [] all = tt
followed nodes log whole before (x ∷ xs) all = (all.0, followed nodes log whole (before ++ x ∷ []) xs all.1)

waiting : (h : History) (e : ℕ) → IsLawful h → AllByRecursion (IsWaiting h.nodes h.log h.diary e) (queue_of h e)
waiting h e lawful = all_waiting h.nodes h.log h.diary (followed h.nodes h.log h.diary [] h.diary lawful.steps) e

-- who is a child of another is not in the queue
without_other : (nodes : List Node) (e who : ℕ) (xs : List ℕ) → is_child_of nodes e who ≡ false → AllByRecursion (λ q. is_child_of nodes e q ≡ true) xs → without who xs ≡ xs
without_other nodes e who [] c each = refl
without_other nodes e who (x ∷ xs) c each = step (x == who) refl (without_other nodes e who xs c each.1)
  where
    step : (t : Bool) → x == who ≡ t → without who xs ≡ xs → cond (not t) (x ∷ without who xs) (without who xs) ≡ x ∷ xs
    step true q rest = let never : true ≡ false = sym each.0 ∙ ap (is_child_of nodes e) (eqb-true x who q) ∙ c in cc
    step false q rest = ap (λ ys. x ∷ ys) rest

pub left_is : (h : History) (e who : ℕ) → IsLawful h → cond (is_child_of h.nodes e who) (without who (queue_of h e)) (queue_of h e) ≡ without who (queue_of h e)
left_is h e who lawful = by (is_child_of h.nodes e who) refl
  where
    by : (t : Bool) → is_child_of h.nodes e who ≡ t → cond t (without who (queue_of h e)) (queue_of h e) ≡ without who (queue_of h e)
    by true c = refl
    by false c = sym (without_other h.nodes e who (queue_of h e) c (each_weaker (IsWaiting h.nodes h.log h.diary e) (λ q. is_child_of h.nodes e q ≡ true) (queue_of h e) (waiting h e lawful) (λ q w. w.1)))

-- ---- the room

-- an element is among the time children of its time parent
listed : (nodes : List Node) (e q : ℕ) (ns : List Node) → is_child_of nodes e q ≡ true → is_some (find (λ (n : Node). n.serial == q) (filter is_element ns)) ≡ true → list_any (nat_eq q) (map (λ (n : Node). n.serial) (filter (λ (n : Node). is_element n && is_child_of nodes e n.serial) ns)) ≡ true
listed nodes e q [] c known = cc
listed nodes e q (n ∷ ns) c known = step (is_element n) refl known (listed nodes e q ns c)
  where
    rest : List ℕ
    rest = map (λ (m : Node). m.serial) (filter (λ (m : Node). is_element m && is_child_of nodes e m.serial) ns)

    skipped : (t : Bool) → list_any (nat_eq q) rest ≡ true → list_any (nat_eq q) (map (λ (m : Node). m.serial) (cond t (n ∷ filter (λ (m : Node). is_element m && is_child_of nodes e m.serial) ns) (filter (λ (m : Node). is_element m && is_child_of nodes e m.serial) ns))) ≡ true
    skipped true r = or_right (q == n.serial) (list_any (nat_eq q) rest) r
    skipped false r = r

    here : (t : Bool) → n.serial == q ≡ t → is_some (cond t (Some n) (find (λ (m : Node). m.serial == q) (filter is_element ns))) ≡ true → (is_some (find (λ (m : Node). m.serial == q) (filter is_element ns)) ≡ true → list_any (nat_eq q) rest ≡ true) → list_any (nat_eq q) (map (λ (m : Node). m.serial) (cond (is_child_of nodes e n.serial) (n ∷ filter (λ (m : Node). is_element m && is_child_of nodes e m.serial) ns) (filter (λ (m : Node). is_element m && is_child_of nodes e m.serial) ns))) ≡ true
    here true s k later =
        let same : n.serial ≡ q = eqb-true n.serial q s in
        ap (λ t. list_any (nat_eq q) (map (λ (m : Node). m.serial) (cond t (n ∷ filter (λ (m : Node). is_element m && is_child_of nodes e m.serial) ns) (filter (λ (m : Node). is_element m && is_child_of nodes e m.serial) ns)))) (ap (is_child_of nodes e) same ∙ c)
        ∙ or_left (q == n.serial) (list_any (nat_eq q) rest) (eq-eqb q n.serial (sym same))
    here false s k later = skipped (is_child_of nodes e n.serial) (later k)

    step : (t : Bool) → is_element n ≡ t → is_some (find (λ (m : Node). m.serial == q) (cond t (n ∷ filter is_element ns) (filter is_element ns))) ≡ true → (is_some (find (λ (m : Node). m.serial == q) (filter is_element ns)) ≡ true → list_any (nat_eq q) rest ≡ true) → list_any (nat_eq q) (map (λ (m : Node). m.serial) (cond (t && is_child_of nodes e n.serial) (n ∷ filter (λ (m : Node). is_element m && is_child_of nodes e m.serial) ns) (filter (λ (m : Node). is_element m && is_child_of nodes e m.serial) ns))) ≡ true
    step true t k later = here (n.serial == q) refl k later
    step false t k later = later k

-- a member of a list has what each of them has
member_each : (P : ℕ → Type 0) (q : ℕ) (xs : List ℕ) → AllByRecursion P xs → list_any (nat_eq q) xs ≡ true → P q
member_each P q [] each m = cc
member_each P q (x ∷ xs) each m = by_case (or_cases (q == x) (list_any (nat_eq q) xs) m) (member_each P q xs each.1)
  where
    by_case : (q == x ≡ true) ⊎ (list_any (nat_eq q) xs ≡ true) → (list_any (nat_eq q) xs ≡ true → P q) → P q
    by_case (inl s) later = subst P (sym (eqb-true q x s)) each.0
    by_case (inr s) later = later s

-- serials that stand once in a queue are distinct
apart_is : (nodes : List Node) (s : ℕ) (queue : List ℕ) → holds s (map (ranked nodes) queue) ≡ false → AllByRecursion (λ x. nat_eq s x ≡ false) queue
apart_is nodes s [] q = tt
apart_is nodes s (x ∷ xs) q =
    let parts = or_parts (x == s) (holds s (map (ranked nodes) xs)) q in
    (swap_eqb x s parts.0, apart_is nodes s xs parts.1)

distinct_is : (nodes : List Node) (queue : List ℕ) → IsHeldOnce (map (ranked nodes) queue) → IsDistinct nat_eq queue
unfolding IsDistinct
distinct_is nodes [] once = tt
distinct_is nodes (x ∷ xs) once = IsDistinct-cons nat_eq x xs (apart_is nodes x xs once.0) (distinct_is nodes xs once.1)

abbrev serials_of : History → ℕ → List ℕ
serials_of h e = map (λ (n : Node). n.serial) (time_children h.nodes e)

-- a serial of a time child
abbrev IsListed : History → ℕ → ℕ → Type 0
IsListed h e s = list_any (nat_eq s) (serials_of h e) ≡ true

-- distinct serials of time children are no more than the time children
no_more : (h : History) (e : ℕ) (xs : List ℕ) → IsDistinct nat_eq xs → AllByRecursion (IsListed h e) xs → length xs ≤ length (time_children h.nodes e)
no_more h e xs distinct among =
    let most : length xs ≤ length (serials_of h e) = length-le_from_is_member nat_eq_equiv xs (serials_of h e) distinct (λ s m. member_each (IsListed h e) s xs among m) in
    let same = length-map (time_children h.nodes e) (λ (n : Node). n.serial) in
    omega (arith, most, same)

-- an element that waits is a time child
all_listed : (h : History) (e : ℕ) (xs : List ℕ) → AllByRecursion (IsWaiting h.nodes h.log h.diary e) xs → AllByRecursion (IsListed h e) xs
all_listed h e xs each = each_weaker (IsWaiting h.nodes h.log h.diary e) (IsListed h e) xs each (λ s w. listed h.nodes e s h.nodes w.1 w.0)

queue_fits : (h : History) (e : ℕ) → IsLawful h → length (queue_of h e) ≤ length (time_children h.nodes e)
queue_fits h e lawful =
    no_more h e (queue_of h e) (distinct_is h.nodes (queue_of h e) (once_waiting h e)) (all_listed h e (queue_of h e) (waiting h e lawful))

-- in the queue of its time parent, which it has left, there is room for an element
pub has_room : (h : History) (e who : ℕ) → IsLawful h → has_element h.nodes who ≡ true → is_child_of h.nodes e who ≡ true → length (without who (queue_of h e)) < length (time_children h.nodes e)
has_room h e who lawful known child =
    let q = without who (queue_of h e) in
    let left = without_is_without h.nodes who (queue_of h e) in
    let absent : holds who (map (ranked h.nodes) q) ≡ false = ap (holds who) (sym left) ∙ gone who (held_of h e) in
    let once : IsHeldOnce (map (ranked h.nodes) q) = subst IsHeldOnce left (once_without who (held_of h e) (once_waiting h e)) in
    let own : IsListed h e who = listed h.nodes e who h.nodes child known in
    let among : AllByRecursion (IsListed h e) q =
    all_listed h e q (each_kept (IsWaiting h.nodes h.log h.diary e) (λ other. not (other == who)) (queue_of h e) (waiting h e lawful)) in
    let most : length (who ∷ q) ≤ length (time_children h.nodes e) = no_more h e (who ∷ q) (distinct_is h.nodes (who ∷ q) (absent, once)) (own, among) in
    omega (arith, most)

-- ---- the same of the children with their ranks

pub fits : (h : History) (e : ℕ) → IsLawful h → length (held_of h e) ≤ length (time_children h.nodes e)
fits h e lawful =
    let same = length-map (queue_of h e) (ranked h.nodes) in
    let most = queue_fits h e lawful in
    omega (arith, same, most)

pub put_in_fits : (h : History) (e who : ℕ) → IsLawful h → has_element h.nodes who ≡ true → is_child_of h.nodes e who ≡ true → length (QueueState.without who (held_of h e)) < length (time_children h.nodes e)
put_in_fits h e who lawful known child =
    let same = ap length (without_is_without h.nodes who (queue_of h e)) ∙ length-map (without who (queue_of h e)) (ranked h.nodes) in
    let room = has_room h e who lawful known child in
    omega (arith, same, room)
