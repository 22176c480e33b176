-- What the ends of children side by side come to.
use Rattle.std.specs.Prelude.{◌≡◌, ℕ, zero, suc, List, [], ◌∷◌, map, Option, Some, None, unwrap_or, IfSome}
use Rattle.std.specs.List.{position}
use Rattle.smil_model.specs.declared.times.Time.{Time}
use Rattle.smil_model.specs.declared.times.Time.TheVariants.{Unresolved}
use Rattle.smil_model.specs.declared.interval.ChildEnd.{ChildEnd}
use Rattle.smil_model.specs.Times.{greatest_time, least_time}
use Rattle.smil_endsync.specs.declared.ends.EndSummary.{EndSummary}
use Rattle.smil_endsync.specs.declared.ends.EndSummary.TheVariants.{Greatest, Least, NoEnd}
use Rattle.smil_endsync.specs.declared.ends.Summing.{Summing}
use Rattle.smil_endsync.specs.declared.ends.Summing.TheVariants.{All, First, Last}

-- a greatest end, if there is one
abbrev pub greatest_of : Option Time → EndSummary
greatest_of None = NoEnd
greatest_of (Some t) = Greatest t

-- the greatest of ends where that is what they come to, else another time
abbrev pub greatest_or : EndSummary → Time → Time
greatest_or (Greatest t) other = t
greatest_or (Least t) other = other
greatest_or NoEnd other = other

-- the least of ends where that is what they come to, else another time
abbrev pub least_or : EndSummary → Time → Time
least_or (Least t) other = t
least_or (Greatest t) other = other
least_or NoEnd other = other

-- what one child comes to by a rule
abbrev pub one_end : Summing → ChildEnd → EndSummary
one_end First c = Least (unwrap_or c.first Unresolved)
one_end All c = Greatest (unwrap_or c.latest Unresolved)
one_end Last c = greatest_of c.latest

-- what two groups of children come to, one behind the other
abbrev pub both_ends : EndSummary → EndSummary → EndSummary
both_ends NoEnd b = b
both_ends (Least s) NoEnd = Least s
both_ends (Least s) (Least t) = Least (least_time s t)
both_ends (Least s) (Greatest t) = Greatest t
both_ends (Greatest s) NoEnd = Greatest s
both_ends (Greatest s) (Least t) = Greatest s
both_ends (Greatest s) (Greatest t) = Greatest (greatest_time s t)

-- one child has these ends, and its name stays
abbrev pub set_ends : List ChildEnd → ℕ → Option Time → Option Time → List ChildEnd
set_ends [] child first latest = []
set_ends (c ∷ cs) zero first latest =
    record { named = c.named; first = first; latest = latest } ∷ cs
set_ends (c ∷ cs) (suc child) first latest = c ∷ set_ends cs child first latest

-- what each child comes to by a rule, where that is summed, and which one is named
pub record AreSummed
    (children : List ChildEnd) (named : Option ℕ) (summing : Summing)
    (summaries : Option (List EndSummary)) : Type 0 where
  pub own : IfSome summaries (λ (all : List EndSummary). all ≡ map (one_end summing) children)
  pub named_is : named ≡ position (λ (c : ChildEnd). c.named) children
