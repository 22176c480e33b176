-- The faults of node lines stand in their lines.
use Rattle.std.proofs.Common.{ℕ, ◌+◌, List, length, Option, Some, None, Ok, Err, subst, arith}
use Rattle.std.specs.Prelude.{IfSome, IfErr}
use Rattle.std.proofs.lemmas.Bool.{cond_both}
use Rattle.smil_model.specs.declared.document.Kind.{Kind}
use Rattle.smil_model.specs.document.Edits.{no_attrs}
use Rattle.smil_model.specs.document.Values.{is_seq_parent}
use Rattle.smil_model.specs.document.Valid.{may_stand}
use Rattle.smil_grammar.specs.declared.fault.NodeFault.TheVariants as fault
use Rattle.smil_grammar.specs.Results.{◌>>=◌}
use Rattle.smil_grammar.specs.Nodes.{Shape, shape_of, kind_of, attrs_from, attrs_of, node_of}
use Rattle.smil_grammar.proofs.ResultFaults.{after}
use Rattle.smil_attrs.proofs.AttributeColumns.{ShapeWithin, shape_near}
use Rattle.smil_outline.proofs.FaultColumns.{FaultWithin, attrs_near, kind_shape_near}

pub kind_in : (line : List ℕ) → IfErr (kind_of line) (FaultWithin (length line + 2))
kind_in line = kind_shape_near (length line + 2) (shape_of line) (omega arith)

attrs_of_in : (n : ℕ) (parent : Option Kind) (k : Kind) (shape : Option Shape) → IfSome shape (ShapeWithin n) → IfErr (attrs_of parent k shape) (FaultWithin (n + 1))
attrs_of_in n parent k None h = tt
attrs_of_in n parent k (Some shape) h =
    cond_both (may_stand parent k) (attrs_from (is_seq_parent parent) k no_attrs shape.attributes >>= λ attrs. Ok (k, attrs)) (Err fault.BadPlace) (λ r. IfErr r (FaultWithin (n + 1)))
    (λ e. after (FaultWithin (n + 1)) (attrs_from (is_seq_parent parent) k no_attrs shape.attributes) (λ attrs. Ok (k, attrs)) (attrs_near n (is_seq_parent parent) k no_attrs shape.attributes h) (λ attrs. tt))
    (λ e. tt)

pub node_in : (parent : Option Kind) (line : List ℕ) → IfErr (node_of parent line) (FaultWithin (length line + 2))
node_in parent line = after (FaultWithin (length line + 2)) (kind_of line) (λ k. attrs_of parent k (shape_of line)) (kind_in line)
    (λ k. subst (λ n. IfErr (attrs_of parent k (shape_of line)) (FaultWithin n)) (omega arith) (attrs_of_in (length line + 1) parent k (shape_of line) (shape_near (length line + 1) line (omega arith))))
