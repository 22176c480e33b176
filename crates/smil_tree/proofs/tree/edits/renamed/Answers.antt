use Rattle.std.proofs.Common.{◌≡◌, sym, ap, ◌∙◌, ℕ, List, Bool, true, false, refl, Option, Some, None, cond}
use Rattle.std.specs.Map.{lookup}
use Rattle.std.specs.Str.{bytes_eq}
use Rattle.smil_model.specs.document.Document.{has_id}
use Rattle.smil_tree.specs.TreeFields.{bears}
use Rattle.smil_tree.proofs.tree.edits.renamed.Goals as goal

pub returns-then-have_same_id : goal.returns-then-have_same_id
returns-then-have_same_id c q =
    ap (λ (table : List (List ℕ × ℕ)). lookup (bytes_eq q) table) c.in_ok-clone.ensures.cases
    ∙ by_own (bears q c.args.old.now) refl
    ∙ ap (λ (o : Option (List ℕ)). cond (has_id q o) (Some c.args.old.now.serial) (cond (bears q c.args.old.now) None (lookup (bytes_eq q) c.args.ids.now.value))) (c.have_same_id.ensures c.if-have_same_id.true)
  where
    by_own : (t : Bool) → bears q c.args.old.now ≡ t → lookup (bytes_eq q) c.args.ids.now.value ≡ cond (bears q c.args.old.now) (Some c.args.old.now.serial) (cond (bears q c.args.old.now) None (lookup (bytes_eq q) c.args.ids.now.value))
    by_own true e = c.requires q e ∙ sym (ap (λ (t : Bool). cond t (Some c.args.old.now.serial) (cond t None (lookup (bytes_eq q) c.args.ids.now.value))) e)
    by_own false e = sym (ap (λ (t : Bool). cond t (Some c.args.old.now.serial) (cond t None (lookup (bytes_eq q) c.args.ids.now.value))) e)
