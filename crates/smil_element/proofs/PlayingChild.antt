-- The child of an excl that plays.
use Rattle.std.proofs.Common.{◌≡◌, refl, sym, ◌∙◌, ap, ℕ, List, [], ◌∷◌, Option, Some, None, Bool, true, false, filter}
use Rattle.std.specs.Prelude.{cond, ◌==◌, ◌&&◌, find, is_some}
use Rattle.std.proofs.lemmas.Bool.{eq-eqb}
use Rattle.std.proofs.lemmas.Option.{same_Some}
use Rattle.smil_model.specs.declared.document.Node.{Node}
use Rattle.smil_model.specs.document.Document.{has_serial, is_excl_kind, is_time_child, node_at, serial_of}
use Rattle.smil_model.specs.diary.Diary.{History}
use Rattle.smil_model.specs.happening.Queue.{is_playing, playing_child}
use Rattle.smil_past.specs.Queues.{excl_in}
use Rattle.smil_element.specs.Parts.{left_excl, rival}
use Rattle.smil_model.specs.reach.Reach.{is_option}
use Rattle.smil_laws.proofs.LineageParents.{is_option-serial_of}

-- ---- the excl of an element

pub no_left : (h : History) (who : ℕ) (o : Option Node) → None ≡ serial_of (excl_in o) → None ≡ serial_of (left_excl h who o)
no_left h who None q = refl
no_left h who (Some p) q = step (is_excl_kind p.kind) q
  where
    step : (t : Bool) → None ≡ serial_of (cond t (Some p) None) → None ≡ serial_of (cond (t && has_serial who (playing_child h p.serial)) (Some p) None)
    step true r = cc
    step false r = refl

pub left_is : (h : History) (who excl : ℕ) (o : Option Node) (t : Bool) → Some excl ≡ serial_of (excl_in o) → is_option who (serial_of (playing_child h excl)) ≡ t → cond t (Some excl) None ≡ serial_of (left_excl h who o)
left_is h who excl None t q is = cc
left_is h who excl (Some p) t q is = step (is_excl_kind p.kind) q
  where
    either : (b : Bool) → excl ≡ p.serial → cond b (Some excl) None ≡ serial_of (cond b (Some p) None)
    either true e = ap Some e
    either false e = refl

    step : (b : Bool) → Some excl ≡ serial_of (cond b (Some p) None) → cond t (Some excl) None ≡ serial_of (cond (b && has_serial who (playing_child h p.serial)) (Some p) None)
    step true r =
        let same : excl ≡ p.serial = same_Some excl p.serial r in
        either t same ∙ ap (λ b. serial_of (cond b (Some p) None)) (sym is ∙ is_option-serial_of who (playing_child h excl) ∙ ap (λ e. has_serial who (playing_child h e)) same)
    step false r = cc

pub no_rival : (h : History) (o : Option Node) → None ≡ serial_of (excl_in o) → None ≡ serial_of (rival h o)
no_rival h None q = refl
no_rival h (Some p) q = step (is_excl_kind p.kind) q
  where
    step : (t : Bool) → None ≡ serial_of (cond t (Some p) None) → None ≡ serial_of (cond t (playing_child h p.serial) None)
    step true r = cc
    step false r = refl

pub rival_is : (h : History) (excl : ℕ) (o : Option Node) → Some excl ≡ serial_of (excl_in o) → serial_of (playing_child h excl) ≡ serial_of (rival h o)
rival_is h excl None q = cc
rival_is h excl (Some p) q = step (is_excl_kind p.kind) q
  where
    step : (t : Bool) → Some excl ≡ serial_of (cond t (Some p) None) → serial_of (playing_child h excl) ≡ serial_of (cond t (playing_child h p.serial) None)
    step true r = ap (λ e. serial_of (playing_child h e)) (same_Some excl p.serial r)
    step false r = cc

-- ---- who is found is a node

pub found_known : (t u : Node → Bool) (ns : List Node) (n : Node) → find t (filter u ns) ≡ Some n → is_some (node_at ns n.serial) ≡ true
found_known t u [] n q = cc
found_known t u (m ∷ ns) n q = step (u m) (t m) q (found_known t u ns n)
  where
    later : (b : Bool) → is_some (node_at ns n.serial) ≡ true → is_some (cond b (Some m) (node_at ns n.serial)) ≡ true
    later true r = refl
    later false r = r

    step : (a b : Bool) → find t (cond a (m ∷ filter u ns) (filter u ns)) ≡ Some n → (find t (filter u ns) ≡ Some n → is_some (node_at ns n.serial) ≡ true) → is_some (cond (m.serial == n.serial) (Some m) (node_at ns n.serial)) ≡ true
    step true b r rest = here (t m) r rest
      where
        here : (c : Bool) → cond c (Some m) (find t (filter u ns)) ≡ Some n → (find t (filter u ns) ≡ Some n → is_some (node_at ns n.serial) ≡ true) → is_some (cond (m.serial == n.serial) (Some m) (node_at ns n.serial)) ≡ true
        here true s more = ap (λ c. is_some (cond c (Some m) (node_at ns n.serial))) (eq-eqb m.serial n.serial (ap (λ (x : Node). x.serial) (same_Some m n s)))
        here false s more = later (m.serial == n.serial) (more s)
    step false b r rest = later (m.serial == n.serial) (rest r)

pub rival_known : (h : History) (nodes : List Node) (playing : ℕ) (o : Option Node) → h.nodes ≡ nodes → Some playing ≡ serial_of (rival h o) → is_some (node_at nodes playing) ≡ true
rival_known h nodes playing None same q = cc
rival_known h nodes playing (Some p) same q = step (is_excl_kind p.kind) q
  where
    child : (c : Option Node) → playing_child h p.serial ≡ c → Some playing ≡ serial_of c → is_some (node_at nodes playing) ≡ true
    child None e r = cc
    child (Some n) e r =
        ap (λ (ns : List Node). is_some (node_at ns playing)) (sym same) ∙ ap (λ s. is_some (node_at h.nodes s)) (same_Some playing n.serial r)
        ∙ found_known (is_playing h.diary) (is_time_child h.nodes p.serial) h.nodes n e

    step : (t : Bool) → Some playing ≡ serial_of (cond t (playing_child h p.serial) None) → is_some (node_at nodes playing) ≡ true
    step true r = child (playing_child h p.serial) refl r
    step false r = cc

pub left_known : (h : History) (who excl : ℕ) (nodes : List Node) (o : Option Node) → ((p : Node) → o ≡ Some p → is_some (node_at nodes p.serial) ≡ true) → Some excl ≡ serial_of (left_excl h who o) → is_some (node_at nodes excl) ≡ true
left_known h who excl nodes None known q = cc
left_known h who excl nodes (Some p) known q = step (is_excl_kind p.kind && has_serial who (playing_child h p.serial)) q
  where
    step : (t : Bool) → Some excl ≡ serial_of (cond t (Some p) None) → is_some (node_at nodes excl) ≡ true
    step true r = ap (λ s. is_some (node_at nodes s)) (same_Some excl p.serial r) ∙ known p refl
    step false r = cc
