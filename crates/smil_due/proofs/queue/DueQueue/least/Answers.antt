use Rattle.std.proofs.Common.{◌≡◌, ◌∙◌, sym, subst, rules}
use Rattle.std.specs.FinSet as set
use Rattle.std.specs.Option.{IfSome}
use Rattle.smil_due.specs.Laws.{IsLeast}
use Rattle.smil_due.proofs.KeySets.{first_key, first_is_least, no_first, first_of_none, least_by_model}
use Rattle.smil_due.proofs.queue.DueQueue.least.Goals as goal

key_is : (c : goal.After-map) → c.map.result ≡ first_key c.first.result
key_is c = search rules

pub returns-clause-none : goal.returns-clause-none
returns-clause-none c = (
  λ none. sym c.self.view_is ∙ no_first _ c.first.result (c.first.ensures.variant).1 (sym (key_is c) ∙ none),
  λ empty. key_is c ∙ first_of_none _ c.first.result (c.first.ensures.variant).0 (c.self.view_is ∙ empty),
)

pub returns-clause-least : goal.returns-clause-least
returns-clause-least c =
    subst (λ s. IfSome c.map.result (IsLeast s)) c.self.view_is
    (subst (λ r. IfSome r (IsLeast (set.from_list c.self.inside.due.keys))) (sym (key_is c))
    (first_is_least _ c.first.result c.first.ensures.member c.first.ensures.least))

pub returns-clause-of_document : goal.returns-clause-of_document
returns-clause-of_document c =
    least_by_model c.args.self.now c.map.result (returns-clause-none c).0 (returns-clause-least c)
