use Rattle.std.proofs.Common.{◌≡◌, refl, sym, ◌∙◌, ap, subst, ℕ, ◌<◌, ◌≤◌, List, take, length, arith}
use Rattle.std.proofs.lemmas.List.{length-take, take_all}
use Rattle.smil_model.specs.declared.limits.TheConstants.{DIARY_ENTRIES}
use Rattle.smil_model.specs.declared.diary.Entry.{Entry}
use Rattle.smil_laws.proofs.Lists.{take-more_at}
use Rattle.smil_stretch.proofs.IdleClocks.{next_at, no_entry}
use Rattle.smil_instances.specs.Dependents.{AreDependentsOf}
use Rattle.smil_instances.specs.Instances.{SettledInstances}
use Rattle.smil_instances.specs.Intake.{history_of}
use Rattle.smil_past.specs.Readings.{FollowsAll}
use Rattle.smil_past.proofs.FirstEntries.{follows_at}
use Rattle.smil_past.proofs.readings.Readings.back.Goals as goal

-- there is room behind the first entries
fewer : (book : List Entry) (i n : ℕ) {given : ℕ} → i < given → given ≡ length book → n ≡ length book → n ≤ DIARY_ENTRIES → length (take i book) < DIARY_ENTRIES
fewer book i n within many whole few = omega (arith, within, many, whole, few, length-take i book)

pub loop-entry-init : goal.loop-entry-init
loop-entry-init c =
    let k = history_of c.args.history.now.tree.now c.args.history.now.log.now c.args.history.now.book.now in
    let are = c.requires.follows in
    let same = sym c.requires.same_nodes in record {
      follows = record {
        clocks_are = c.reset.ensures c.requires.past k are.clocks_are same;
        plays_are = c.reset-2.ensures c.requires.past k are.plays_are same;
        queues_are = c.reset-3.ensures c.requires.past k are.queues_are same;
      };
      instances = refl;
    }

pub follow-requires-clause-follows : goal.follow-requires-clause-follows
follow-requires-clause-follows c =
    let document = c.args.history.now.tree.now in
    let log = c.args.history.now.log.now in
    let book = c.args.history.now.book.now in
    let i = c.loop-entry.entry-index in
    let at = next_at c.entries-entry-items.result.now book i no_entry (sym c.entries-entry-items.ensures) c.loop-entry-test.true in (
      history_of document log (take i book),
      record { same_nodes = refl; same_log = refl; follows = c.loop-entry.invariant.follows; lawful = (follows_at document log book i _ c.requires.possible at).lawful; few = fewer book i c.len.result (c.loop-entry-test.true) (ap (λ (ds : List Entry). length ds) c.entries-entry-items.ensures) c.len.ensures.value c.len.ensures.bound },
    )

pub follow-requires-clause-near : goal.follow-requires-clause-near
follow-requires-clause-near c =
    let book = c.args.history.now.book.now in
    let i = c.loop-entry.entry-index in
    let at = next_at c.entries-entry-items.result.now book i no_entry (sym c.entries-entry-items.ensures) c.loop-entry-test.true in
    (follows_at c.args.history.now.tree.now c.args.history.now.log.now book i _ c.requires.possible at).near

pub loop-entry-preserved : goal.loop-entry-preserved
loop-entry-preserved c =
    let document = c.args.history.now.tree.now in
    let log = c.args.history.now.log.now in
    let book = c.args.history.now.book.now in
    let i = c.loop-entry.entry-index in
    let at = next_at c.entries-entry-items.result.now book i no_entry (sym c.entries-entry-items.ensures) c.loop-entry-test.true in record {
      follows = subst (λ (ds : List Entry). FollowsAll c.follow.new.self (history_of document log ds)) (sym (take-more_at book i _ at))
          (c.follow.ensures.follows (history_of document log (take i book))
          (record { same_nodes = refl; same_log = refl; follows = c.loop-entry.invariant.follows; lawful = (follows_at document log book i _ c.requires.possible at).lawful; few = fewer book i c.len.result (c.loop-entry-test.true) (ap (λ (ds : List Entry). length ds) c.entries-entry-items.ensures) c.len.ensures.value c.len.ensures.bound }));
      instances = c.follow.ensures.instances ∙ c.loop-entry.invariant.instances;
    }

pub returns : goal.returns
returns c =
    let document = c.args.history.now.tree.now in
    let log = c.args.history.now.log.now in
    let book = c.args.history.now.book.now in
    let many = ap (λ (ds : List Entry). length ds) c.entries-entry-items.ensures in
    let all : take c.loop-entry.entry-index book ≡ book = take_all c.loop-entry.entry-index book (omega (arith, many, c.loop-entry-test.false)) in
    let follows = subst (λ (ds : List Entry). FollowsAll c.loop-entry.self (history_of document log ds)) all c.loop-entry.invariant.follows in
    let instances = c.loop-entry.invariant.instances ∙ c.back.ensures.rows in record {
      clocks_are = follows.clocks_are;
      plays_are = follows.plays_are;
      queues_are = follows.queues_are;
      instances_are = record {
        rows = ap (λ (v : SettledInstances). v.rows) instances ∙ c.requires.rows;
        dependents = subst (λ (v : SettledInstances). AreDependentsOf document.nodes v.dependents) (sym instances) c.requires.dependents;
      };
    }
