-- A refused line's column is one that the line has behind its spaces.
use Rattle.std.proofs.Common.{ℕ, ◌+◌, ◌≤◌, Bool, true, false, List, length, take, drop, Option, Some, None, Result, Ok, Err, arith, subst, length-drop}
use Rattle.std.specs.Prelude.{IfSome, IfErr, nat_lt, nat_le, option_map, if◌then◌else◌, ◌%◌, ◌/◌, ◌==◌}
use Rattle.std.specs.List.{prefix_len}
use Rattle.std.proofs.lemmas.List.Sums.{prefix_len-le-length}
use Rattle.smil_model.specs.declared.limits.TheConstants.{LINE_BYTES, DEPTH}
use Rattle.smil_model.specs.declared.document.Kind.{Kind}
use Rattle.smil_model.specs.declared.order.Refusal.{Refusal}
use Rattle.smil_model.specs.declared.order.Refusal.TheVariants as refusal
use Rattle.smil_model.specs.document.Limits.{Limits}
use Rattle.smil_model.specs.document.Valid.{references, references_among}
use Rattle.smil_grammar.specs.declared.fault.NodeFault.{NodeFault}
use Rattle.smil_grammar.specs.declared.fault.NodeFault.TheVariants as fault
use Rattle.smil_grammar.specs.Results.{◌>>=◌}
use Rattle.smil_grammar.specs.Nodes.{Shape, is_space, shape_of, kind_of_shape}
use Rattle.smil_grammar.specs.Outlines.{Outline, refuse_if, in_line, attrs_in, is_bad_serial, is_misplaced, has_id, last_of, header_of, opens_saved, with_header, shape_in, node_within, shape_within, line_within}
use Rattle.smil_grammar.proofs.ResultFaults.{after}
use Rattle.smil_outline.specs.Steps.{IsInLine, IsNear, HasNearColumn}
use Rattle.smil_outline.specs.Gives.{GivesRefusal}
use Rattle.smil_outline.proofs.FaultColumns.{plain_in_line, saved_in_line, kind_is_near, attrs_are_near}

in_line_near : {A : Type 0} (spaces : ℕ) (r : Result A NodeFault) → spaces ≤ LINE_BYTES → IfErr r IsNear → IfErr (in_line spaces r) HasNearColumn
in_line_near spaces (Ok x) le h = tt
in_line_near spaces (Err fault.BadOutline) le h = tt
in_line_near spaces (Err (fault.Unsupported column)) le h = omega (arith, le, h)
in_line_near spaces (Err fault.BadPlace) le h = tt
in_line_near spaces (Err (fault.UnknownAttribute column)) le h = omega (arith, le, h)
in_line_near spaces (Err (fault.BadValue column)) le h = omega (arith, le, h)
in_line_near spaces (Err (fault.TooManyItems column)) le h = omega (arith, le, h)
in_line_near spaces (Err fault.Memory) le h = tt

-- refused where this holds, and else by what follows
unless_near : {B : Type 0} (b : Bool) (e : Refusal) (f : Unit {0} → Result B Refusal) → HasNearColumn e → ((x : Unit {0}) → IfErr (f x) HasNearColumn) → IfErr (refuse_if b e >>= f) HasNearColumn
unless_near true e f h k = h
unless_near false e f h k = k tt

either_near : {B : Type 0} (b : Bool) (x y : Result B Refusal) → IfErr x HasNearColumn → IfErr y HasNearColumn → IfErr (if b then x else y) HasNearColumn
either_near true x y h k = h
either_near false x y h k = k

header_near : (outline : Outline) (next : Option ℕ) → IfErr (with_header outline next) HasNearColumn
header_near outline None = tt
header_near outline (Some next) = tt

module _ (allowed : Limits) (outline : Outline) (spaces : ℕ) (le : spaces ≤ LINE_BYTES) where
  node_near : (above : List (ℕ × Kind)) (kind : Kind) (serial : ℕ) (shape : Shape) → IsInLine shape → IfErr (node_within allowed outline spaces above kind serial shape) HasNearColumn
  node_near above kind serial shape inside =
      unless_near (is_misplaced outline above kind) refusal.BadPlace _ tt
      (λ placed. after HasNearColumn (in_line spaces (attrs_in (last_of above) kind shape)) _
      (in_line_near spaces (attrs_in (last_of above) kind shape) le (attrs_are_near _ kind shape inside))
      (λ attrs. unless_near (has_id outline.nodes attrs.id) refusal.DuplicateId _ tt
      (λ single. unless_near (nat_le allowed.nodes (length outline.nodes)) refusal.TooManyElements _ tt
      (λ few. unless_near (nat_lt allowed.references (references outline.nodes + references_among attrs)) refusal.TooManyReferences _ tt (λ light. tt)))))

  shape_near : (found : Option (ℕ × Shape)) → IfSome found (λ s. IsInLine s.1) → IfErr (shape_within allowed outline spaces found) HasNearColumn
  shape_near None inside = tt
  shape_near (Some (serial, shape)) inside =
      unless_near (spaces % 2 == 1) refusal.BadOutline _ tt
      (λ even. after HasNearColumn (in_line spaces (kind_of_shape (Some shape))) _
      (in_line_near spaces (kind_of_shape (Some shape)) le (kind_is_near shape))
      (λ kind. unless_near (is_bad_serial outline outline.next serial) refusal.BadSerial _ tt
      (λ fresh. unless_near (nat_lt (length outline.branch) (spaces / 2)) refusal.DepthJump _ tt
      (λ near. unless_near (nat_le DEPTH (spaces / 2)) refusal.TooDeep _ tt
      (λ flat. after HasNearColumn (node_within allowed outline spaces (take (spaces / 2) outline.branch) kind serial shape) _
      (node_near (take (spaces / 2) outline.branch) kind serial shape inside) (λ node. tt))))))

plain_inside : (n : ℕ) (found : Option Shape) → IfSome found IsInLine → IfSome {T = ℕ × Shape} (option_map (λ (shape : Shape). (n, shape)) found) (λ s. IsInLine s.1)
plain_inside n None h = tt
plain_inside n (Some shape) h = h

inside_by : (outline : Outline) (next : Option ℕ) (text : List ℕ) → length text ≤ LINE_BYTES → IfSome (shape_in outline next text) (λ s. IsInLine s.1)
inside_by outline None text le = plain_inside (length outline.nodes + 1) (shape_of text) (plain_in_line text le)
inside_by outline (Some next) text le = saved_in_line text le

-- a line's refusal has a column that the line has
pub line_near : (allowed : Limits) (outline : Outline) (line : List ℕ) → length line ≤ LINE_BYTES → IfErr (line_within allowed outline line) HasNearColumn
line_near allowed outline line le =
    let spaces : ℕ = prefix_len is_space line in
    let few : spaces ≤ length line = prefix_len-le-length is_space line in
    unless_near (nat_lt LINE_BYTES (length line)) refusal.LongLine _ tt
    (λ short. either_near (opens_saved outline line) _ _ (header_near outline (header_of line))
    (shape_near allowed outline spaces (omega (arith, le, few)) (shape_in outline outline.next (drop spaces line))
    (inside_by outline outline.next (drop spaces line) (let n = length-drop spaces line in omega (arith, le, n)))))

-- what a call gave is near where the reading is
pub near-refusal : {A : Type 0} (e : Refusal) (reading : Result A Refusal) → GivesRefusal reading e → IfErr reading HasNearColumn → HasNearColumn e
near-refusal refusal.Memory reading gives near = tt
near-refusal e reading gives near = subst (λ (r : Result _ Refusal). IfErr r HasNearColumn) gives near
