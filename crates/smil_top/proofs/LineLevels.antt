-- A line isn't raised by more levels than it has spaces for.
use Rattle.std.proofs.Common.{◌≡◌, ℕ, ◌+◌, ◌≤◌, ◌/◌, Bool, true, false, List, length, take, Option, Some, None, Result, Ok, Err, arith, length-take, subst}
use Rattle.std.specs.Prelude.{IfOk, slice_get, ◌%◌, ◌==◌}
use Rattle.std.specs.List.{prefix_len}
use Rattle.std.proofs.lemmas.List.Sums.{count_by-le-length, prefix_len-le-length}
use Rattle.smil_model.specs.declared.limits.TheConstants.{LINE_BYTES}
use Rattle.smil_model.specs.declared.order.Refusal.{Refusal}
use Rattle.smil_model.specs.declared.order.Refusal.TheVariants as refusal
use Rattle.smil_grammar.specs.Results.{◌>>=◌}
use Rattle.smil_grammar.specs.Nodes.{is_space}
use Rattle.smil_grammar.specs.Outlines.{in_line, refuse_if}
use Rattle.smil_switch.specs.declared.chosen.Chosen.{Chosen}
use Rattle.smil_switch.specs.declared.chosen.Chosen.TheVariants.{Dropped, Kept}
use Rattle.smil_switch.specs.declared.chosen.Below.{Below}
use Rattle.smil_switch.specs.declared.chosen.Below.TheVariants.{Aside, Open, Switch, Taken}
use Rattle.smil_switch.specs.Choices.{Choice, Seen, seen, is_of_switch, is_switch, repeats_test, line_holds, with_kept, judged, tested, with_below, pushed}
use Rattle.smil_top.specs.Loading.{last_level}

-- a line that is kept is raised by at most so many levels
abbrev RaisedWithin : ℕ → Choice × Chosen → Type 0
RaisedWithin most (choice, Dropped) = Unit {0}
RaisedWithin most (choice, Kept n) = n ≤ most

-- behind a step that doesn't choose
after : {A : Type 0} (most : ℕ) (r : Result A Refusal) (f : A → Result (Choice × Chosen) Refusal) → ((x : A) → IfOk (f x) (RaisedWithin most)) → IfOk (r >>= f) (RaisedWithin most)
after most (Ok x) f all = all x
after most (Err e) f all = tt

module _ (choice : Choice) (depth : ℕ) (line : Seen) where
  kept_few : (parent : Below) (switch : Bool) → RaisedWithin (depth + 1) (with_kept choice depth parent line switch)
  kept_few parent true = tt
  kept_few parent false = omega (arith, count_by-le-length is_of_switch (take (depth + 1) choice.levels), length-take (depth + 1) choice.levels)

  judged_few : (parent : Below) (holds : Bool) → RaisedWithin (depth + 1) (judged choice depth parent line holds)
  judged_few parent true = kept_few parent (is_switch line.shape)
  judged_few parent false = tt

  tested_few : (parent : Below) → IfOk (tested choice depth parent line) (RaisedWithin (depth + 1))
  tested_few parent =
      after (depth + 1) (refuse_if (repeats_test line.shape) refusal.BadOutline) _
      (λ single. after (depth + 1) (in_line line.spaces (line_holds choice.wanted line.shape)) _ (judged_few parent))

  below_few : (parent : Option Below) → IfOk (with_below choice depth parent line) (RaisedWithin (depth + 1))
  below_few None = after (depth + 1) (refuse_if (repeats_test line.shape) refusal.BadOutline) _ (λ single. tt)
  below_few (Some Open) = tested_few Open
  below_few (Some Switch) = tested_few Switch
  below_few (Some Aside) = tt
  below_few (Some Taken) = tt

-- by one level for each two spaces before it, and one more
pushed_few : (choice : Choice) (line : List ℕ) → IfOk (pushed choice line) (RaisedWithin (prefix_len is_space line / 2 + 1))
pushed_few choice line =
    let spaces : ℕ = prefix_len is_space line in
    after (spaces / 2 + 1) (refuse_if (spaces % 2 == 1) refusal.BadOutline) _
    (λ even. below_few choice (spaces / 2) (seen line) (slice_get choice.levels (spaces / 2)))

-- so a line that isn't too long isn't raised by more levels than a line is
pub kept-level : (choice new : Choice) (line : List ℕ) (n : ℕ) → length line ≤ LINE_BYTES → pushed choice line ≡ Ok (new, Kept n) → n ≤ last_level
kept-level choice new line n short is =
    let few : n ≤ prefix_len is_space line / 2 + 1 = subst (λ (r : Result (Choice × Chosen) Refusal). IfOk r (RaisedWithin (prefix_len is_space line / 2 + 1))) is (pushed_few choice line) in
    omega (arith, few, short, prefix_len-le-length is_space line)
