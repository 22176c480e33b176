use Rattle.std.proofs.Common.{◌≡◌, ◌∙◌, ◌<◌, ◌-◌, sym, ap, subst, arith, ℤ, List, length, w64}
use Rattle.std.specs.Prelude.{Some, pos, ◌≤ℤ◌, slice_get}
use Rattle.std.proofs.lemmas.Int.{to_z-of_z}
use Rattle.std.proofs.lemmas.Option.{slice_get_within}
use Rattle.smil_model.specs.declared.diary.Entry.{Entry}
use Rattle.smil_model.specs.declared.times.TheConstants.{HORIZON}
use Rattle.smil_model.specs.diary.Diary.{last_moment}
use Rattle.smil_stretch.proofs.ClockAtMoment.{timed_of}
use Rattle.smil_past.specs.Past.{history_of}
use Rattle.smil_rounds.proofs.MomentEntries.{fits}
use Rattle.smil_cells.proofs.LastEntryApart.{last_at, none_last}
use Rattle.smil_model.proofs.NumberOrders.{le_from}
use Rattle.smil_cells.proofs.named.last_moment.Goals as goal

pub returns-in-Some : goal.returns-in-Some
returns-in-Some c =
    let diary = c.args.past.now.diary in
    let entries : c.entries.result.now ≡ diary = c.entries.ensures ∙ c.book.ensures in
    let at : Some c.in-Some.entry.now ≡ slice_get diary (length diary - 1) = c.in-Some.ensures.value ∙ ap (λ (d : List Entry). slice_get d (length d - 1)) entries in
    let within : length diary - 1 < length diary = slice_get_within diary (length diary - 1) c.in-Some.entry.now (sym at) in
    let is : c.in-Some.entry.now.moment ≡ last_moment diary = last_at (pos 0) diary (length diary - 1) c.in-Some.entry.now at (omega (arith, within)) in
    let timed = timed_of (history_of c.args.past.now) c.possible.ensures.lawful in
    to_z-of_z w64 c.in-Some.entry.now.moment
    (fits c.in-Some.entry.now.moment
    (subst (λ (z : ℤ). pos 0 ≤ℤ z) (sym is) (le_from (pos 0) (last_moment diary) timed.low))
    (subst (λ (z : ℤ). z ≤ℤ HORIZON) (sym is) (le_from (last_moment diary) HORIZON timed.high)))
    ∙ is

pub returns-in-None : goal.returns-in-None
returns-in-None c =
    let diary = c.args.past.now.diary in
    let entries : c.entries.result.now ≡ diary = c.entries.ensures ∙ c.book.ensures in
    none_last diary (c.in-None.ensures.value ∙ ap (λ (d : List Entry). slice_get d (length d - 1)) entries)
