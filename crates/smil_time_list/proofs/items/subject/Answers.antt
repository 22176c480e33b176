use Rattle.std.proofs.Common.{◌≡◌, ℕ, List, Some, option_map, Bor, refl}
use Rattle.smil_time_list.proofs.ReferenceSubjects.{named}
use Rattle.smil_time_list.proofs.items.subject.Goals as goal

pub returns-in_ok-unescaped-in-Some : goal.returns-in_ok-unescaped-in-Some
returns-in_ok-unescaped-in-Some c =
    let here : option_map {T = Bor (List ℕ)} {U = List ℕ} (λ rest. rest.now) c.args.rest ≡ Some c.in-Some.rest.now = rw c.in-Some.is refl in
    named c.of_element.result c.args.text.now c.args.id.now c.in_ok-unescaped-in-Some.field-0 c.in-Some.rest.now _ here c.in_ok-unescaped-in-Some.ensures c.requires c.of_element.ensures
