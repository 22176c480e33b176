use Rattle.std.proofs.Common.{◌≡◌, ◌≤◌, ◌∙◌, refl, sym, ap, List, [], ◌∷◌, ◌++◌, length, get_or, arith}
use Rattle.std.specs.Prelude.{◌+◌}
use Rattle.std.proofs.lemmas.List.{length_push}
use Rattle.smil_model.specs.declared.diary.Entry.{Entry}
use Rattle.smil_stretch.proofs.IdleClocks.{no_entry}
use Rattle.smil_past.proofs.FirstEntries.{all_reached, entry_at, rest}
use Rattle.smil_past.proofs.Catching.{caught_up, lags_next, next_follows}
use Rattle.smil_past.proofs.chronicle.Chronicle.catch_up.Goals as goal

pub push-requires-clause-follows : goal.push-requires-clause-follows
push-requires-clause-follows c =
    let entries = c.args.entries.now in
    let from = c.len.result in
    let k = c.loop-entry.entry-index in
    let y = get_or (rest entries from) k no_entry in
    let at = entry_at entries entries from k refl c.loop-entry-test.true in
    let reached : length c.loop-entry.self.book ≡ from + k = c.loop-entry.invariant.reached ∙ ap (λ n. n + k) (sym c.len.ensures.value) in
    next_follows c.args.tree.now c.args.log.now entries (from + k) y c.loop-entry.self at c.loop-entry.invariant.lags reached c.requires.possible

pub loop-entry-preserved : goal.loop-entry-preserved
loop-entry-preserved c =
    let entries = c.args.entries.now in
    let from = c.len.result in
    let k = c.loop-entry.entry-index in
    let y = get_or (rest entries from) k no_entry in
    let at = entry_at entries entries from k refl c.loop-entry-test.true in
    let reached : length c.loop-entry.self.book ≡ from + k = c.loop-entry.invariant.reached ∙ ap (λ n. n + k) (sym c.len.ensures.value) in
    let more : c.push.new.self.book ≡ c.loop-entry.self.book ++ y ∷ [] = c.in-Ok.ensures.ok in
    let one : length c.push.new.self.book ≡ length c.loop-entry.self.book + 1 = ap (λ (es : List Entry). length es) more ∙ length_push c.loop-entry.self.book y in
    record {
      lags = lags_next c.args.tree.now c.args.log.now entries (from + k) y c.loop-entry.self at c.loop-entry.invariant.lags reached c.push.new.self more c.in-Ok.ensures.tells;
      reached = omega (arith, one, c.loop-entry.invariant.reached);
    }

pub returns-clause-ok : goal.returns-clause-ok
returns-clause-ok c =
    let entries = c.args.entries.now in
    let most : length entries ≤ c.len.result + c.loop-entry.entry-index = all_reached entries c.len.result c.loop-entry.entry-index c.loop-entry-test.false in
    let all : length entries ≤ length c.loop-entry.self.book = omega (arith, most, c.len.ensures.value, c.loop-entry.invariant.reached) in
    caught_up c.args.tree.now c.args.log.now entries c.loop-entry.self c.loop-entry.invariant.lags all
