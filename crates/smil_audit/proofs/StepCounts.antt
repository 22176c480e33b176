-- How often elements are evaluated while the front of a diary agrees.
use Rattle.std.proofs.Common.{◌≡◌, subst, ℕ, ◌+◌, ◌-◌, ◌*◌, ◌≤◌, List, length, take, arith}
use Rattle.std.proofs.Math.Nat.{mul-le-mul_right}
use Rattle.std.proofs.lemmas.List.{length-take}
use Rattle.smil_model.specs.declared.diary.Entry.{Entry}
use Rattle.smil_model.specs.declared.diary.LogEntry.{LogEntry}
use Rattle.smil_model.specs.document.Document.{Document, elements}
use Rattle.smil_audit.specs.Replayed.{Replayed, begun}

-- of a diary of which some entries are looked at, from the first one on
pub from_begin : (r : Replayed) (document : Document) (log : List LogEntry) (last : ℕ) (all : List Entry) (k before after : ℕ) → r ≡ begun document log last →
    after ≤ before + (length (take k all) - length r.at.diary + 1) * length (elements r.document.nodes) → after ≤ before + (length all + 1) * length (elements document.nodes)
from_begin r document log last all k before after is most =
    let each = length (elements document.nodes) in
    let here : after ≤ before + (length (take k all) - 0 + 1) * each =
    subst (λ (x : Replayed). after ≤ before + (length (take k all) - length x.at.diary + 1) * length (elements x.document.nodes)) is most in
    let few : length (take k all) - 0 + 1 ≤ length all + 1 = omega (arith, length-take k all) in
    let times : (length (take k all) - 0 + 1) * each ≤ (length all + 1) * each = mul-le-mul_right each few in
    omega (arith, here, times)
