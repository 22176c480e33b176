-- What evaluation reads of the attributes of an element, and where the element stands.
use Rattle.std.proofs.Common.{◌≡◌, refl, ◌∙◌, ap, ℕ, List, Option, Some, None, Bool, true, false}
use Rattle.std.specs.Prelude.{if◌then◌else◌, option_map}
use Rattle.smil_model.specs.declared.times.Time.{Time}
use Rattle.smil_model.specs.declared.document.Fill.{Fill}
use Rattle.smil_model.specs.declared.document.Kind.{Kind}
use Rattle.smil_model.specs.declared.document.Node.{Node}
use Rattle.smil_model.specs.declared.document.Restart.{Restart}
use Rattle.smil_model.specs.declared.interval.EndList.{EndList}
use Rattle.smil_model.specs.document.Document.{node_at}
use Rattle.smil_model.specs.document.Defaults.{effective_fill, fill_of, restart_of, takes_implicit}
use Rattle.smil_model.specs.interval.Current.{end_list_of}
use Rattle.smil_model.specs.interval.Durations.{Bounds, bounds_of, simple_duration, stated_duration}
use Rattle.smil_past.specs.declared.makeup.Makeup.{Makeup}
use Rattle.smil_past.specs.declared.makeup.ParentIndex.{ParentIndex}
use Rattle.smil_model.specs.document.Edits.{place_in}
use Rattle.smil_model.specs.document.Valid.{kind_of}
use Rattle.smil_past.specs.Makeups.{keeps_children, makeup_of, parent_index, stated_simple}

pub restart_is : (nodes : List Node) (s : ℕ) (e : Node) (r : Restart) → node_at nodes s ≡ Some e → Some r ≡ option_map (restart_of nodes) (node_at nodes s) → r ≡ restart_of nodes e
restart_is nodes s e r at is =
    let same : Some r ≡ Some (restart_of nodes e) = is ∙ ap (option_map (restart_of nodes)) at in
    cc

pub fill_is : (nodes : List Node) (s : ℕ) (e : Node) (f : Fill) → node_at nodes s ≡ Some e → Some f ≡ option_map (fill_of nodes) (node_at nodes s) → f ≡ fill_of nodes e
fill_is nodes s e f at is =
    let same : Some f ≡ Some (fill_of nodes e) = is ∙ ap (option_map (fill_of nodes)) at in
    cc

pub kind_is : (nodes : List Node) (s : ℕ) (e : Node) (k : Kind) → node_at nodes s ≡ Some e → Some k ≡ kind_of (node_at nodes s) → k ≡ e.kind
kind_is nodes s e k at is =
    let same : Some k ≡ Some e.kind = is ∙ ap kind_of at in
    cc

pub makeup_is : (nodes : List Node) (e : Node) (simple : Option Time) (bounds : Bounds) (list : EndList) (restart : Restart) (fill : Fill) (keeps : Bool) (kind : Kind) (node : ℕ) (parent : Option ParentIndex) → simple ≡ stated_simple e.attrs → bounds ≡ bounds_of e.attrs → list ≡ end_list_of e.attrs.«end» → restart ≡ restart_of nodes e → fill ≡ effective_fill nodes e → keeps ≡ keeps_children nodes e → kind ≡ e.kind → node ≡ place_in nodes e.serial → parent ≡ parent_index nodes e.serial → ◌≡◌ {A = Makeup} (record { simple = simple; bounds = bounds; end_list = list; restart = restart; fill = fill; keeps_children = keeps; kind = kind; node = node; parent = parent }) (makeup_of nodes e)
makeup_is nodes e simple bounds list restart fill keeps kind node parent p1 p2 p3 p4 p5 p6 p7 p8 p9 =
    λ i. record { simple = p1 i; bounds = p2 i; end_list = p3 i; restart = p4 i; fill = p5 i; keeps_children = p6 i; kind = p7 i; node = p8 i; parent = p9 i }

-- ---- the simple duration, where the attributes tell it and where they don't

pub takes : (e : Node) → None ≡ stated_simple e.attrs → takes_implicit e.attrs e.attrs.dur ≡ true
takes e is = by (takes_implicit e.attrs e.attrs.dur) is
  where
    by : (t : Bool) → None ≡ (if t then None else Some (stated_duration e.attrs.dur)) → t ≡ true
    by true q = refl
    by false q = cc

pub simple_implicit : (e : Node) (implicit : Time) → None ≡ stated_simple e.attrs → implicit ≡ simple_duration e.attrs implicit
simple_implicit e implicit is = by (takes_implicit e.attrs e.attrs.dur) is
  where
    by : (t : Bool) → None ≡ (if t then None else Some (stated_duration e.attrs.dur)) → implicit ≡ (if t then implicit else stated_duration e.attrs.dur)
    by true q = refl
    by false q = cc

pub simple_stated : (e : Node) (implicit simple : Time) → Some simple ≡ stated_simple e.attrs → simple ≡ simple_duration e.attrs implicit
simple_stated e implicit simple is = by (takes_implicit e.attrs e.attrs.dur) is
  where
    by : (t : Bool) → Some simple ≡ (if t then None else Some (stated_duration e.attrs.dur)) → simple ≡ (if t then implicit else stated_duration e.attrs.dur)
    by true q = cc
    by false q = cc
