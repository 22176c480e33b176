-- An edit that leaves references as they are: the begin of the image of a par is moved.
use Rattle.std.proofs.Common.{◌≡◌, refl, ℕ, Some, None, Bool, true, false, arith}
use Rattle.std.specs.Prelude.{cond, option_map, ◌<◌}
use Rattle.std.specs.Str.{bytes_eq}
use Rattle.std.proofs.lemmas.List.Elements.{All-from_recursion}
use Rattle.smil_model.specs.declared.document.Node.{Node}
use Rattle.smil_model.specs.document.Valid.{IsNumberedTree}
use Rattle.smil_laws.specs.Image.{image}
use Rattle.smil_worked.specs.QuietEdit.{QuietEdit, name}

numbered : (b : ℕ) → IsNumberedTree (record { nodes = image b 2 name; next = 3 })
numbered b = record {
  distinct = (refl, (refl, tt));
  below = All-from_recursion (λ (n : Node). (0 < n.serial) × (n.serial < 3)) (image b 2 name) ((omega arith, omega arith), ((omega arith, omega arith), tt));
  next = omega arith;
  tree = (refl, (refl, tt));
}

one_name : (b : Bool) (m n : Node) → m.serial ≡ n.serial → option_map (λ (n : Node). n.serial) (cond b (Some m) None) ≡ option_map (λ (n : Node). n.serial) (cond b (Some n) None)
one_name true m n q = cc
one_name false m n q = refl

pub moves_begin : QuietEdit
moves_begin = record {
  old = numbered 5;
  new = numbered 7;
  under = refl;
  references = record {
    ids = λ id. one_name (bytes_eq name id) _ _ refl;
    loops = λ e x here there other t. refl;
  };
}
