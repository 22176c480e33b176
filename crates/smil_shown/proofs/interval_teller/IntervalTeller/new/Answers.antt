use Rattle.std.proofs.Common.{refl, sym, subst, List, [], None}
use Rattle.smil_model.specs.declared.diary.Entry.{Entry}
use Rattle.smil_model.specs.diary.Diary.{History, up_to}
use Rattle.smil_stretch.specs.Clocks.{IsHistoryOf}
use Rattle.smil_shown.proofs.PresentPlays.{first_history, nothing_told}
use Rattle.smil_shown.proofs.interval_teller.IntervalTeller.new.Goals as goal

pub of-requires : goal.of-requires
of-requires c =
    let past : History = record { nodes = c.args.tree.now.nodes; log = []; diary = [] } in
    let P : List Entry → Type 0 = λ ds. IsHistoryOf past c.args.tree.now ds in
    record { past = past; history = subst P (sym c.new.ensures) (first_history past c.args.tree.now refl) }

pub returns-clause-nothing : goal.returns-clause-nothing
returns-clause-nothing c = λ h name start same.
    let P : List Entry → Type 0 = λ ds. IsHistoryOf (up_to h []) c.args.tree.now ds in
    nothing_told h name start (record { who = c.args.who; clocks = c.in_ok-of.field-0; present = None })
    (c.in_ok-of.ensures (up_to h []) (subst P (sym c.new.ensures) (first_history h c.args.tree.now same))) refl
