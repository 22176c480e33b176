-- Whether a time parent is alive, and the start of its iteration, by what is kept of its plays.
use Rattle.std.proofs.Common.{◌≡◌, refl, ◌∙◌, ap, ℕ, ℤ, List, Bool, true, Option, Some, None}
use Rattle.std.specs.Prelude.{pos, is_some}
use Rattle.smil_model.specs.declared.diary.Entry.{Entry}
use Rattle.smil_model.specs.declared.document.Node.{Node}
use Rattle.smil_model.specs.document.Document.{serial_of}
use Rattle.smil_model.specs.document.Valid.{IsNumberedTree}
use Rattle.smil_model.specs.diary.Diary.{History, is_active, lives_under}
use Rattle.smil_model.specs.diary.Clocks.{iteration_start, start_under}
use Rattle.smil_past.specs.Played.{played}
use Rattle.smil_past.proofs.KeptActivity.{begun_is}

pub lives_told : (h : History) (next : ℕ) → IsNumberedTree (record { nodes = h.nodes; next = next }) → (node : Option Node) (s : ℕ) (t : Bool) → serial_of node ≡ Some s → t ≡ is_some (played h s).begun → t ≡ lives_under node h.diary
lives_told h next tree None s t is told = cc
lives_told h next tree (Some p) s t is told =
    let same : s ≡ p.serial = cc in
    told ∙ begun_is h next tree s ∙ ap (is_active h.diary) same

pub starts_told : (h : History) (node : Option Node) (s : ℕ) (t : ℤ) → serial_of node ≡ Some s → t ≡ iteration_start h s → t ≡ start_under h node
starts_told h None s t is told = cc
starts_told h (Some p) s t is told =
    let same : s ≡ p.serial = cc in
    told ∙ ap (iteration_start h) same

pub lives_rootless : (ds : List Entry) (node : Option Node) → serial_of node ≡ None → true ≡ lives_under node ds
lives_rootless ds None is = refl
lives_rootless ds (Some p) is = cc

pub starts_rootless : (h : History) (node : Option Node) → serial_of node ≡ None → pos 0 ≡ start_under h node
starts_rootless h None is = refl
starts_rootless h (Some p) is = cc
