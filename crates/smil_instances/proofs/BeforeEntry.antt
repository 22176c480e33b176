-- The history before the last entry, and its moments.
use Rattle.std.proofs.Common.{◌≡◌, sym, ◌∙◌, ap, subst, List, [], ◌∷◌, ◌++◌, ℤ, true, arith}
use Rattle.std.specs.Prelude.{pos, int_le, ◌&&◌}
use Rattle.std.proofs.lemmas.Bool.{and_parts}
use Rattle.std.proofs.lemmas.List.Elements.{All-cons}
use Rattle.std.proofs.lemmas.List.{same_from_push}
use Rattle.smil_model.specs.declared.times.TheConstants.{HORIZON}
use Rattle.smil_model.specs.declared.diary.Entry.{Entry}
use Rattle.smil_model.specs.declared.diary.LogEntry.{LogEntry}
use Rattle.smil_model.specs.document.Document.{Document}
use Rattle.smil_model.specs.diary.Diary.{History}
use Rattle.smil_model.specs.diary.Lawful.{is_rising_from}
use Rattle.smil_model.proofs.NumberOrders.{le_both}
use Rattle.smil_instances.specs.Laws.{IsUpTo}
use Rattle.smil_stretch.specs.declared.clock.NodeClock.{NodeClock}
use Rattle.smil_instances.specs.Entry.{IsAtHand, IsEntryOf}
use Rattle.smil_instances.specs.Intake.{history_of}

-- any split of the diary before its last entry is that of the history at hand
pub at_hand : (document : Document) (clocks : List NodeClock) (log : List LogEntry) (diary before : List Entry) (y : Entry) → IsAtHand document clocks log diary → diary ≡ before ++ y ∷ [] → IsEntryOf (history_of document log before) y document clocks log diary
at_hand document clocks log diary before y hand q =
    let same = same_from_push hand.past.diary before hand.entry y (sym hand.is_entry.same_diary ∙ q) in
    let past : hand.past ≡ history_of document log before =
    ap (λ ns. record { nodes = ns; log = hand.past.log; diary = hand.past.diary }) hand.is_entry.same_nodes
    ∙ ap (λ l. record { nodes = document.nodes; log = l; diary = hand.past.diary }) hand.is_entry.same_log
    ∙ ap (λ d. record { nodes = document.nodes; log = log; diary = d }) same.0 in
    subst (λ (h : History). IsEntryOf h y document clocks log diary) past
    (subst (λ (z : Entry). IsEntryOf hand.past z document clocks log diary) same.1 hand.is_entry)

-- there is such a split
pub some_last : (document : Document) (clocks : List NodeClock) (log : List LogEntry) (diary : List Entry) → IsAtHand document clocks log diary → (before : List Entry) × (y : Entry) × (diary ≡ before ++ y ∷ [])
some_last document clocks log diary hand = (hand.past.diary, hand.entry, hand.is_entry.same_diary)

rising_all : (from : ℤ) (ds : List Entry) (y : Entry) → is_rising_from from (ds ++ y ∷ []) ≡ true → (int_le from y.moment ≡ true) × IsUpTo y.moment ds
rising_all from [] y q =
    let parts = and_parts (int_le from y.moment && int_le y.moment HORIZON) true q in
    ((and_parts (int_le from y.moment) (int_le y.moment HORIZON) parts.0).0, λ i d below. absurd (omega (arith, below)))
rising_all from (x ∷ xs) y q =
    let parts = and_parts (int_le from x.moment && int_le x.moment HORIZON) (is_rising_from x.moment (xs ++ y ∷ [])) q in
    let here = and_parts (int_le from x.moment) (int_le x.moment HORIZON) parts.0 in
    let rest = rising_all x.moment xs y parts.1 in
    (le_both from x.moment y.moment here.0 rest.0, All-cons (λ (z : Entry). int_le z.moment y.moment ≡ true) x xs rest.0 rest.1)

-- no entry before the last is later than it
pub timely : (h : History) (y : Entry) (document : Document) (clocks : List NodeClock) (log : List LogEntry) (diary : List Entry) → IsEntryOf h y document clocks log diary → IsUpTo y.moment h.diary
timely h y document clocks log diary is = (rising_all (pos 0) h.diary y is.lawful.moments).1
