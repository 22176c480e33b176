-- The clocks before the first entry, and the entries one after another.
use Rattle.std.proofs.Common.{◌≡◌, refl, sym, ◌∙◌, ap, subst, ℕ, ◌+◌, ◌<◌, List, [], ◌∷◌, ◌++◌, Some, length, get_or, take, map, arith}
use Rattle.std.specs.Prelude.{pos, slice_get}
use Rattle.std.proofs.lemmas.Bool.{and_right}
use Rattle.std.proofs.lemmas.List.{take_more}
use Rattle.std.proofs.lemmas.List.Elements.{All-nil, All-cons}
use Rattle.std.proofs.lemmas.Option.{slice_get-get_or, slice_get_within, get_or_from_slice_get}
use Rattle.smil_model.specs.declared.diary.Entry.{Entry}
use Rattle.smil_model.specs.declared.diary.Step.TheVariants.{Began}
use Rattle.smil_model.specs.declared.document.Node.{Node}
use Rattle.smil_model.specs.document.Document.{Document, is_element}
use Rattle.smil_model.specs.document.Valid.{IsNumberedTree}
use Rattle.smil_model.specs.diary.Diary.{History, is_paused, up_to, with_entry}
use Rattle.smil_laws.proofs.UnpausedClocks.{not_held}
use Rattle.smil_stretch.specs.declared.clock.NodeClock.{NodeClock}
use Rattle.smil_stretch.specs.Clocks.{clock_by, clock_of, node_clock, IsHistoryOf, AreClocksOf}
use Rattle.smil_stretch.specs.NodeClocks.{Fits, AllFit, idle_clock}
use Rattle.smil_stretch.proofs.LawfulDiaries.{lawful_first}
use Rattle.smil_stretch.proofs.ClocksLeft.{map_same}

pub idle_fit : (nodes ns : List Node) → AllFit (map (idle_clock nodes) ns)
idle_fit nodes [] = All-nil (λ (c : NodeClock). Fits c.clock)
idle_fit nodes (n ∷ ns) = All-cons (λ (c : NodeClock). Fits c.clock) (idle_clock nodes n) (map (idle_clock nodes) ns) (record { low = omega arith; high = omega arith }) (idle_fit nodes ns)

idle_is : (h : History) (n : Node) → node_clock (up_to h []) n ≡ idle_clock h.nodes n
idle_is h n =
    ap (λ t. record (idle_clock h.nodes n) { paused = t; clock = clock_of (up_to h []) n.serial }) (and_right (is_element n) (is_paused [] n.serial) refl)
    ∙ ap (λ t. record (idle_clock h.nodes n) { clock = clock_by t (pos 0) (pos 0) }) (not_held h.nodes n.serial [] refl)

pub idle_clocks_of : (clocks : List NodeClock) (h : History) (document : Document) (diary : List Entry) → IsNumberedTree document → IsHistoryOf h document diary → clocks ≡ map (idle_clock document.nodes) document.nodes → AreClocksOf clocks (up_to h (take 0 h.diary))
idle_clocks_of clocks h document diary numbered of is = record {
  next = document.next;
  document = subst (λ (ns : List Node). IsNumberedTree (record { nodes = ns; next = document.next })) (sym of.same_nodes) numbered;
  lawful = lawful_first h 0 of.lawful;
  value = is ∙ ap (λ (ns : List Node). map (idle_clock ns) ns) (sym of.same_nodes) ∙ map_same (idle_clock h.nodes) (node_clock (up_to h [])) h.nodes (λ n. sym (idle_is h n));
}

-- ---- one entry more

-- what stands for an entry where there is none
abbrev pub no_entry : Entry
no_entry = record { moment = pos 0; step = Began 0 (pos 0) }

-- the next entry stands at its place in the diary
pub next_at : (all diary : List Entry) (i : ℕ) (d : Entry) → diary ≡ all → i < length all → slice_get diary i ≡ Some (get_or all i d)
next_at all diary i d same lt = ap (λ (xs : List Entry). slice_get xs i) same ∙ slice_get-get_or all i d lt

pub next_first : (h : History) (k : ℕ) (x : Entry) → slice_get h.diary k ≡ Some x → with_entry (up_to h (take k h.diary)) x ≡ up_to h (take (k + 1) h.diary)
next_first h k x at =
    ap (λ y. up_to h (take k h.diary ++ y ∷ [])) (sym (get_or_from_slice_get h.diary k x x at))
    ∙ ap (up_to h) (sym (take_more h.diary k x (slice_get_within h.diary k x at)))
