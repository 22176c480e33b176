-- What follows an end, and what a begin does, by the time parent of the element.
use Rattle.std.proofs.Common.{◌≡◌, refl, sym, ◌∙◌, ap, ℕ, ℤ, List, [], ◌∷◌, Option, Some, None, Bool, true, false}
use Rattle.std.specs.Prelude.{cond, ◌&&◌, slice_get}
use Rattle.std.proofs.lemmas.Option.{same_Some}
use Rattle.smil_model.specs.declared.diary.Entry.{Entry}
use Rattle.smil_model.specs.declared.diary.Step.TheVariants.{Began, Resumed}
use Rattle.smil_model.specs.declared.document.Act.{Act}
use Rattle.smil_model.specs.declared.document.Node.{Node}
use Rattle.smil_model.specs.document.Document.{descendants, has_serial, is_excl_kind, serial_of}
use Rattle.smil_model.specs.diary.Diary.{History, is_paused}
use Rattle.smil_model.specs.diary.Clocks.{outer}
use Rattle.smil_model.specs.happening.Groups.{begin_beside, begin_under, cut_steps, cuts, follower, followers, interruption}
use Rattle.smil_model.specs.happening.Queue.{decision, playing_child, queue_of}
use Rattle.smil_element.specs.Parts.{ArePartsOf, cuts_below, left_excl, next_of, rival}
use Rattle.smil_element.specs.declared.happening.parts.Parts.{Parts}

pub cuts_are : (parts : Parts) (h : History) (who : ℕ) → ArePartsOf parts h → cuts_below parts who ≡ cuts h who
cuts_are parts h who are =
    ap (λ (ns : List Node). cut_steps parts.book.now (descendants ns who)) (sym are.same_nodes)
    ∙ ap (λ (ds : List Entry). cut_steps ds (descendants h.nodes who)) (sym are.same_diary)

pub acts : (parts : Parts) (h : History) (who : ℕ) (begin : ℤ) (playing : ℕ) (act : Act) → ArePartsOf parts h → act ≡ decision parts.tree.now.nodes playing who → interruption h parts.moment who begin playing act ≡ interruption h parts.moment who begin playing (decision h.nodes playing who)
acts parts h who begin playing act are is =
    ap (λ (a : Act). interruption h parts.moment who begin playing a) (is ∙ ap (λ (ns : List Node). decision ns playing who) (sym are.same_nodes))

pub first_follows : (h : History) (moment : ℤ) (queue : List ℕ) (first : ℕ) → Some first ≡ slice_get queue 0 → next_of h moment first ∷ [] ≡ follower h moment queue
first_follows h moment [] first q = cc
first_follows h moment (x ∷ xs) first q = ap (λ s. next_of h moment s ∷ []) (same_Some first x q) ∙ by (is_paused h.diary x)
  where
    by : (t : Bool) → cond t (Resumed x) (Began x (outer h x moment)) ∷ [] ≡ cond t (Resumed x ∷ []) (Began x (outer h x moment) ∷ [])
    by true = refl
    by false = refl

pub none_follows : (h : History) (moment : ℤ) (queue : List ℕ) → None ≡ slice_get queue 0 → [] ≡ follower h moment queue
none_follows h moment [] q = refl
none_follows h moment (x ∷ xs) q = cc

pub followers_in : (h : History) (moment : ℤ) (who excl : ℕ) (o : Option Node) → Some excl ≡ serial_of (left_excl h who o) → follower h moment (queue_of h excl) ≡ followers h moment who o
followers_in h moment who excl None q = cc
followers_in h moment who excl (Some p) q = step (is_excl_kind p.kind && has_serial who (playing_child h p.serial)) q
  where
    step : (t : Bool) → Some excl ≡ serial_of (cond t (Some p) None) → follower h moment (queue_of h excl) ≡ cond t (follower h moment (queue_of h p.serial)) []
    step true r = ap (λ e. follower h moment (queue_of h e)) (same_Some excl p.serial r)
    step false r = cc

pub no_followers : (h : History) (moment : ℤ) (who : ℕ) (o : Option Node) → None ≡ serial_of (left_excl h who o) → [] ≡ followers h moment who o
no_followers h moment who None q = refl
no_followers h moment who (Some p) q = step (is_excl_kind p.kind && has_serial who (playing_child h p.serial)) q
  where
    step : (t : Bool) → None ≡ serial_of (cond t (Some p) None) → [] ≡ cond t (follower h moment (queue_of h p.serial)) []
    step true r = cc
    step false r = refl

begins_beside : (h : History) (moment : ℤ) (who : ℕ) (begin : ℤ) (o : Option Node) → begin_beside h moment who begin (rival h o) ≡ begin_under h moment who begin o
begins_beside h moment who begin None = refl
begins_beside h moment who begin (Some p) = step (is_excl_kind p.kind)
  where
    step : (t : Bool) → begin_beside h moment who begin (cond t (playing_child h p.serial) None) ≡ cond t (begin_beside h moment who begin (playing_child h p.serial)) (Began who begin ∷ [])
    step true = refl
    step false = refl

pub begins_against : (h : History) (moment : ℤ) (who : ℕ) (begin : ℤ) (playing : ℕ) (o : Option Node) → Some playing ≡ serial_of (rival h o) → interruption h moment who begin playing (decision h.nodes playing who) ≡ begin_under h moment who begin o
begins_against h moment who begin playing o q = by (rival h o) q ∙ begins_beside h moment who begin o
  where
    by : (c : Option Node) → Some playing ≡ serial_of c → interruption h moment who begin playing (decision h.nodes playing who) ≡ begin_beside h moment who begin c
    by None r = cc
    by (Some n) r = ap (λ s. interruption h moment who begin s (decision h.nodes s who)) (same_Some playing n.serial r)

pub begins_alone : (h : History) (moment : ℤ) (who : ℕ) (begin : ℤ) (o : Option Node) → None ≡ serial_of (rival h o) → Began who begin ∷ [] ≡ begin_under h moment who begin o
begins_alone h moment who begin o q = by (rival h o) q ∙ begins_beside h moment who begin o
  where
    by : (c : Option Node) → None ≡ serial_of c → Began who begin ∷ [] ≡ begin_beside h moment who begin c
    by None r = refl
    by (Some n) r = cc
