-- No definition refuses anything since memory ran out: the orders.
use Rattle.std.proofs.Common.{◌≡◌, ◌∷◌, ◌+◌, Bool, true, false, List, [], length, Option, Some, None, Result, Ok, Err, refl}
use Rattle.std.specs.Prelude.{ℕ, ℤ, ◌-◌, ◌*◌, unwrap_or, option_map, ◌/◌, ◌%◌, ◌||◌, ◌==◌, nat_le, take, drop, nat_abs, nat_lt, is_some, bytes_eq, codes}
use Rattle.std.specs.List.{prefix_len}
use Rattle.std.specs.Option.{ok_or}
use Rattle.smil_model.specs.declared.diary.Entry.{Entry}
use Rattle.smil_model.specs.declared.diary.Happening.{Happening}
use Rattle.smil_model.specs.declared.diary.LogEntry.{LogEntry}
use Rattle.smil_model.specs.declared.document.Attr.{Attr}
use Rattle.smil_model.specs.declared.document.Attrs.{Attrs}
use Rattle.smil_model.specs.declared.document.Kind.{Kind}
use Rattle.smil_model.specs.declared.document.Node.{Node}
use Rattle.smil_model.specs.declared.order.Order.{Order}
use Rattle.smil_model.specs.declared.order.Order.TheVariants as order
use Rattle.smil_model.specs.declared.order.Refusal.{Refusal}
use Rattle.smil_model.specs.declared.order.Refusal.TheVariants as refusal
use Rattle.smil_model.specs.declared.order.Who.{Who}
use Rattle.smil_model.specs.declared.limits.TheConstants.{PRESENTATIONS, SERIALS, DEPTH, LINE_BYTES}
use Rattle.smil_model.specs.document.Document.{Document, node_at}
use Rattle.smil_model.specs.document.Edits.{no_attrs, attr_set, node_inserted}
use Rattle.smil_model.specs.document.Limits.{Limits}
use Rattle.smil_model.specs.document.Valid.{is_id_taken, kind_of, references, references_among}
use Rattle.smil_model.specs.shown.Orders.{Presentation, and_then, unless as model_unless, id_in, kept_where, unless_too_full, course_of, at_moment_with, with_logged, node_of as node_of_who, found as node_found, on_node, set_checked, attr_set_by, attr_unset_by, may_insert, insert_checked, node_inserted_by, node_removed_from, resolved_with, opened_within, outcome_within}
use Rattle.smil_model.specs.happening.Resolution.{diary_within}
use Rattle.smil_model.specs.document.Values.{is_seq_parent}
use Rattle.smil_grammar.specs.declared.read.Read.{Read}
use Rattle.smil_grammar.specs.declared.read.Read.TheVariants.{Blank, Load, LoadAt, Prefer, Close, To}
use Rattle.smil_grammar.specs.declared.fault.NodeFault.TheVariants as fault
use Rattle.smil_grammar.specs.Results.{◌>>=◌}
use Rattle.smil_grammar.specs.Positions.{Piece}
use Rattle.smil_grammar.specs.Scripts.{OrderReading, given, timed, end_timed, finish, or_refused, to, load_line, close_line, prefer_line, is_preference, behind_name, is_presentation_name, order_line, command, first_of, line_of}
use Rattle.smil_grammar.specs.Formats.{formats, written_at}
use Rattle.smil_grammar.specs.Nodes.{Shape, is_space, shape_of, kind_of_shape}
use Rattle.smil_wall.specs.declared.fault.WallFault.{WallFault}
use Rattle.smil_wall.specs.declared.fault.WallFault.TheVariants as wall
use Rattle.smil_wall.specs.Rewriting.{rewritten}
use Rattle.smil_switch.specs.declared.chosen.Chosen.{Chosen}
use Rattle.smil_switch.specs.declared.chosen.Chosen.TheVariants.{Dropped, Kept}
use Rattle.smil_switch.specs.Preferences.{Wanted, with_preference}
use Rattle.smil_switch.specs.Choices.{pushed}
use Rattle.smil_top.specs.Loading.{Loading, unread, lowered, read_raised, as_refusal, walled, raised_within, with_root, kept_within, answered_within, is_saved, loading_within}
use Rattle.smil_grammar.specs.Outlines.{Outline, refuse_if, is_misplaced, is_bad_serial, has_id, in_line, attrs_in, last_of, node_within, opens_saved, shape_in, with_header, header_of, shape_within, read_within, line_within, ended, with_node}
use Rattle.smil_top.specs.declared.fault.Fault.{Fault}
use Rattle.smil_top.specs.Cut.{NumberedLine, LoadLines, OrderLines, single, load}
use Rattle.smil_top.specs.Session.{Session, presentation_of, may_load}
use Rattle.smil_top.specs.Answers.{Answer, LoadedDocument, at_line, read_of, found_presentation, preferring, said_within, check_said, head_of, loading_from, given_within, loaded_within, silent, answer_within, check_within}
use Rattle.smil_top.specs.Transcript.{is_memory}
use Rattle.smil_top.specs.Laws.{heard, refuses_as}
use Rattle.smil_top.proofs.LoadsNeedNoMemory.{wall_lacks, rewritten_sure, in_line_sure, pushed_sure}
use Rattle.smil_top.proofs.ReadingsNeedNoMemory.{Sure, made, refused, either, found, onward, attr_sure, attrs_sure, kind_shape_sure, node_sure, name_sure, column_sure, node_lacks}

-- ---- lines

abbrev Fine : {A : Type 0} → Result A Refusal → Type 0
Fine r = Sure is_memory r

no : {A : Type 0} (refusal : Refusal) → is_memory refusal ≡ false → Fine {A = A} (Err refusal)
no refusal h = refused is_memory refusal h

unless_sure : (b : Bool) (refusal : Refusal) → is_memory refusal ≡ false → Fine (refuse_if b refusal)
unless_sure true refusal h = no refusal h
unless_sure false refusal h = made is_memory tt

-- a check, and what goes on behind it
behind : {B : Type 0} (b : Bool) (refusal : Refusal) (f : Unit {0} → Result B Refusal) → is_memory refusal ≡ false → ((x : Unit {0}) → Fine (f x)) → Fine (refuse_if b refusal >>= f)
behind b refusal f h k = onward is_memory (refuse_if b refusal) f (unless_sure b refusal h) k

-- the steps of a node from its counts, its id and its attributes on
abbrev node_made : ℕ → List (ℕ × Kind) → Kind → Attrs → Node
node_made serial above kind attrs = record { serial = serial; kind = kind; parent = unwrap_or (option_map (λ (n : ℕ × Kind). n.0) (last_of above)) 0; attrs = attrs }

abbrev counted : Outline → Limits → Attrs → Node → Result Node Refusal
counted outline allowed attrs node = do
  few ← refuse_if (nat_le allowed.nodes (length outline.nodes)) refusal.TooManyElements
  light ← refuse_if (nat_lt allowed.references (references outline.nodes + references_among attrs)) refusal.TooManyReferences
  Ok node

abbrev with_id : Outline → List (ℕ × Kind) → Kind → ℕ → Limits → Attrs → Result Node Refusal
with_id outline above kind serial allowed attrs = refuse_if (has_id outline.nodes attrs.id) refusal.DuplicateId >>= λ _. counted outline allowed attrs (node_made serial above kind attrs)

abbrev with_attrs : Outline → ℕ → List (ℕ × Kind) → Kind → ℕ → Shape → Limits → Result Node Refusal
with_attrs outline spaces above kind serial shape allowed = in_line spaces (attrs_in (last_of above) kind shape) >>= with_id outline above kind serial allowed

counted_sure : (outline : Outline) (allowed : Limits) (attrs : Attrs) (node : Node) → Fine (counted outline allowed attrs node)
counted_sure outline allowed attrs node =
    let many : Bool = nat_le allowed.nodes (length outline.nodes) in
    let heavy : Bool = nat_lt allowed.references (references outline.nodes + references_among attrs) in
    behind many refusal.TooManyElements (λ _. refuse_if heavy refusal.TooManyReferences >>= λ _. Ok node) refl
    (λ _. behind heavy refusal.TooManyReferences (λ _. Ok node) refl (λ _. made is_memory node))

node_within_sure : (allowed : Limits) (outline : Outline) (spaces : ℕ) (above : List (ℕ × Kind)) (kind : Kind) (serial : ℕ) (shape : Shape) → Fine (node_within allowed outline spaces above kind serial shape)
node_within_sure allowed outline spaces above kind serial shape =
    behind (is_misplaced outline above kind) refusal.BadPlace (λ _. with_attrs outline spaces above kind serial shape allowed) refl
    (λ _. onward is_memory (in_line spaces (attrs_in (last_of above) kind shape)) (with_id outline above kind serial allowed)
    (in_line_sure spaces _ (attrs_sure (is_seq_parent (option_map (λ (n : ℕ × Kind). n.1) (last_of above))) kind no_attrs shape.attributes))
    (λ attrs. behind (has_id outline.nodes attrs.id) refusal.DuplicateId (λ _. counted outline allowed attrs (node_made serial above kind attrs)) refl
    (λ _. counted_sure outline allowed attrs (node_made serial above kind attrs))))

-- the steps of a line from its place on, and the check of its serial before them
abbrev placed : Limits → Outline → ℕ → ℕ → Shape → Kind → Result Outline Refusal
placed allowed outline spaces serial shape kind = do
  near ← refuse_if (nat_lt (length outline.branch) (spaces / 2)) refusal.DepthJump
  flat ← refuse_if (nat_le DEPTH (spaces / 2)) refusal.TooDeep
  node ← node_within allowed outline spaces (take (spaces / 2) outline.branch) kind serial shape
  Ok (with_node outline (spaces / 2) node)

abbrev fresh : Limits → Outline → ℕ → ℕ → Shape → Kind → Result Outline Refusal
fresh allowed outline spaces serial shape kind = refuse_if (is_bad_serial outline outline.next serial) refusal.BadSerial >>= λ _. placed allowed outline spaces serial shape kind

placed_sure : (allowed : Limits) (outline : Outline) (spaces serial : ℕ) (shape : Shape) (kind : Kind) → Fine (placed allowed outline spaces serial shape kind)
placed_sure allowed outline spaces serial shape kind =
    let node : Result Node Refusal = node_within allowed outline spaces (take (spaces / 2) outline.branch) kind serial shape in
    let last : Node → Result Outline Refusal = λ n. Ok (with_node outline (spaces / 2) n) in
    behind (nat_lt (length outline.branch) (spaces / 2)) refusal.DepthJump (λ _. refuse_if (nat_le DEPTH (spaces / 2)) refusal.TooDeep >>= λ _. node >>= last) refl
    (λ _. behind (nat_le DEPTH (spaces / 2)) refusal.TooDeep (λ _. node >>= last) refl
    (λ _. onward is_memory node last (node_within_sure allowed outline spaces (take (spaces / 2) outline.branch) kind serial shape) (λ n. made is_memory (with_node outline (spaces / 2) n))))

shape_within_sure : (allowed : Limits) (outline : Outline) (spaces : ℕ) (shape : Option (ℕ × Shape)) → Fine (shape_within allowed outline spaces shape)
shape_within_sure allowed outline spaces None = no refusal.BadOutline refl
shape_within_sure allowed outline spaces (Some (serial, shape)) =
    behind (spaces % 2 == 1) refusal.BadOutline (λ _. in_line spaces (kind_of_shape (Some shape)) >>= fresh allowed outline spaces serial shape) refl
    (λ _. onward is_memory (in_line spaces (kind_of_shape (Some shape))) (fresh allowed outline spaces serial shape) (in_line_sure spaces _ (kind_shape_sure (Some shape)))
    (λ kind. behind (is_bad_serial outline outline.next serial) refusal.BadSerial (λ _. placed allowed outline spaces serial shape kind) refl
    (λ _. placed_sure allowed outline spaces serial shape kind)))

header_sure : (outline : Outline) (next : Option ℕ) → Fine (with_header outline next)
header_sure outline None = no refusal.BadOutline refl
header_sure outline (Some next) = made is_memory _

line_sure : (allowed : Limits) (outline : Outline) (line : List ℕ) → Fine (line_within allowed outline line)
line_sure allowed outline line =
    behind (nat_lt LINE_BYTES (length line)) refusal.LongLine (λ _. read_within allowed outline line) refl
    (λ _. either is_memory (opens_saved outline line) _ _ (header_sure outline (header_of line))
    (shape_within_sure allowed outline (prefix_len is_space line) (shape_in outline outline.next (drop (prefix_len is_space line) line))))

-- ---- what a line says

end_sure : (word : Piece) (order : ℤ → Order) (o : Option ℤ) → Fine (end_timed word order o)
end_sure word order (Some n) = made is_memory _
end_sure word order None = no _ refl

finish_sure : (reading : Option OrderReading) → Fine (finish reading)
finish_sure None = no refusal.NotACommand refl
finish_sure (Some (given order)) = made is_memory order
finish_sure (Some (timed word order)) = end_sure word order _

to_sure : (name : List ℕ) (r : Result Order Refusal) → Fine r → Fine (to name r)
to_sure name (Ok order) h = made is_memory (To name order)
to_sure name (Err refusal) h = record { never = h.never }

or_sure : (o : Option Read) → Fine (or_refused o)
or_sure None = no refusal.NotACommand refl
or_sure (Some read) = made is_memory read

behind_sure : (name : List ℕ) (verb : Piece × Piece) → Fine (behind_name name verb)
behind_sure name verb =
    either is_memory (is_preference name verb.0.text) _ _ (or_sure (prefer_line verb.0.text verb.1))
    (to_sure name (finish (order_line verb.0.text verb.1)) (finish_sure (order_line verb.0.text verb.1)))

command_sure : (cut : Piece × Piece) → Fine (command cut)
command_sure cut =
    either is_memory (bytes_eq cut.0.text (codes "load")) _ _ (or_sure (load_line cut.1))
    (either is_memory (bytes_eq cut.0.text (codes "close")) _ _ (or_sure (close_line cut.1))
    (either is_memory (is_presentation_name cut.0.text) _ _ (behind_sure cut.0.text (first_of cut.1)) (no refusal.NotACommand refl)))

says_sure : (line : List ℕ) → Fine (line_of line)
says_sure line = either is_memory _ _ _ (made is_memory Blank) (command_sure (first_of (record { text = line; place = 0 })))

read_sure : (line : List ℕ) → Fine (read_of line)
read_sure line = either is_memory _ _ _ (says_sure line) (no refusal.LongLine refl)

-- ---- outcomes

model_onward : {A B : Type 0} (r : Result A Refusal) (f : A → Result B Refusal) → Fine r → ((x : A) → Fine (f x)) → Fine (and_then r f)
model_onward (Ok x) f h k = k x
model_onward (Err e) f h k = record { never = h.never }

check_sure : {A : Type 0} (b : Bool) (refusal : Refusal) (x : A) → is_memory refusal ≡ false → Fine (model_unless b refusal x)
check_sure true refusal x h = no refusal h
check_sure false refusal x h = made is_memory x

-- a check, and what goes on behind it
checked : {A B : Type 0} (b : Bool) (refusal : Refusal) (x : A) (f : A → Result B Refusal) → is_memory refusal ≡ false → ((x : A) → Fine (f x)) → Fine (and_then (model_unless b refusal x) f)
checked b refusal x f h k = model_onward (model_unless b refusal x) f (check_sure b refusal x h) k

kept_sure : (p : Presentation) (o : Option (List Entry)) → Fine (kept_where p o)
kept_sure p None = no refusal.DiaryFull refl
kept_sure p (Some diary) = made is_memory p

room_sure : (allowed : Limits) (p : Presentation) → Fine (unless_too_full allowed p)
room_sure allowed p = kept_sure p (diary_within allowed.entries (course_of p))

at_sure : (allowed : Limits) (p : Presentation) (moment : ℕ) (log : List LogEntry) → Fine (at_moment_with allowed p moment log)
at_sure allowed p moment log = checked _ refusal.BeyondHorizon _ (unless_too_full allowed) refl (room_sure allowed)

logged_sure : (allowed : Limits) (p : Presentation) (what : Happening) → Fine (with_logged allowed p what)
logged_sure allowed p what = checked _ refusal.LogFull _ (unless_too_full allowed) refl (room_sure allowed)

found_sure : (o : Option Node) → Fine (node_found o)
found_sure None = no refusal.NoElement refl
found_sure (Some n) = made is_memory n

on_sure : {A : Type 0} (p : Presentation) (who : Who) (f : Node → Result A Refusal) → ((n : Node) → Fine (f n)) → Fine (on_node p who f)
on_sure p who f k = model_onward (node_found (node_of_who p.document.nodes who)) f (found_sure (node_of_who p.document.nodes who)) k

resolved_sure : (allowed : Limits) (p : Presentation) (document : Document) → Fine (resolved_with allowed p document)
resolved_sure allowed p document = room_sure allowed (record { document = document; log = p.log; now = p.now })

set_sure : (allowed : Limits) (document : Document) (n : Node) (given : Attr) → Fine (set_checked allowed document n given)
set_sure allowed document n chosen =
    checked (is_id_taken document.nodes n.serial (id_in chosen)) refusal.DuplicateId (attr_set document n.serial chosen)
    (λ (after : Document). model_unless (nat_lt allowed.references (references after.nodes)) refusal.TooManyReferences after) refl
    (λ after. check_sure (nat_lt allowed.references (references after.nodes)) refusal.TooManyReferences after refl)

insert_sure : (allowed : Limits) (document : Document) (parent place : ℕ) (kind : Kind) (attrs : Attrs) → Fine (insert_checked allowed document parent place kind attrs)
insert_sure allowed document parent place kind attrs =
    let light : Document → Result Document Refusal = λ d. model_unless (nat_lt allowed.references (references d.nodes)) refusal.TooManyReferences d in
    let many : Document → Bool = λ after. nat_lt allowed.nodes (length after.nodes) || nat_le SERIALS document.next in
    checked (is_id_taken document.nodes document.next attrs.id) refusal.DuplicateId (node_inserted document parent place kind attrs)
    (λ (after : Document). and_then (model_unless (many after) refusal.TooManyElements after) light) refl
    (λ after. checked (many after) refusal.TooManyElements after light refl (λ d. check_sure (nat_lt allowed.references (references d.nodes)) refusal.TooManyReferences d refl))

may_sure : (document : Document) (n : Node) (place : ℕ) (kind : Kind) → Fine (may_insert document n place kind)
may_sure document n place kind = checked _ refusal.TooDeep kind _ refl (λ k. check_sure _ refusal.BadPlace k refl)

attr_set_sure : (allowed : Limits) (document : Document) (n : Node) (name value : List ℕ) (name_column column : ℕ) → Fine (attr_set_by allowed formats document n name value name_column column)
attr_set_sure allowed document n name value name_column column =
    model_onward _ (set_checked allowed document n) (in_line_sure 0 _ (attr_sure (is_seq_parent (kind_of (node_at document.nodes n.parent))) n.kind (written_at name value name_column column))) (set_sure allowed document n)

attr_unset_sure : (document : Document) (n : Node) (name : List ℕ) (column : ℕ) → Fine (attr_unset_by formats document n name column)
attr_unset_sure document n name column = model_onward _ _ (in_line_sure 0 _ (column_sure (written_at name [] column column) _ (name_sure n.kind name))) (λ chosen. made is_memory _)

inserted_sure : (allowed : Limits) (document : Document) (n : Node) (place : ℕ) (line : List ℕ) (column : ℕ) → Fine (node_inserted_by allowed formats document n place line column)
inserted_sure allowed document n place line column =
    model_onward _ _ (model_onward (formats.read_kind line column) (may_insert document n place) (in_line_sure (column - 1) _ (kind_shape_sure (shape_of line))) (may_sure document n place))
    (λ kind. model_onward (formats.read_attrs n.kind line column) (insert_checked allowed document n.serial place kind)
    (in_line_sure (column - 1) _ (onward node_lacks _ _ (node_sure (Some n.kind) line) (λ node. made node_lacks node.1))) (insert_sure allowed document n.serial place kind))

outcome_sure : (allowed : Limits) (p : Presentation) (given : Order) → Fine (outcome_within allowed formats p given)
outcome_sure allowed p (order.Advance by) = at_sure allowed p _ p.log
outcome_sure allowed p (order.Seek to) = at_sure allowed p (nat_abs to) _
outcome_sure allowed p (order.Event who name) = on_sure p who _ (λ n. checked _ refusal.BadPlace n _ refl (λ e. logged_sure allowed p _))
outcome_sure allowed p (order.Media who length) = on_sure p who _ (λ n. checked _ refusal.NotContinuous n _ refl (λ e. logged_sure allowed p _))
outcome_sure allowed p (order.Key key) = logged_sure allowed p _
outcome_sure allowed p (order.Set who name value name_column column) =
    on_sure p who _ (λ n. model_onward (attr_set_by allowed formats p.document n name value name_column column) (resolved_with allowed p) (attr_set_sure allowed p.document n name value name_column column) (resolved_sure allowed p))
outcome_sure allowed p (order.Unset who name column) =
    on_sure p who _ (λ n. model_onward (attr_unset_by formats p.document n name column) (resolved_with allowed p) (attr_unset_sure p.document n name column) (resolved_sure allowed p))
outcome_sure allowed p (order.Insert who place line column) =
    on_sure p who _ (λ n. model_onward (node_inserted_by allowed formats p.document n place line column) (resolved_with allowed p) (inserted_sure allowed p.document n place line column) (resolved_sure allowed p))
outcome_sure allowed p (order.Remove who) =
    on_sure p who _ (λ n. model_onward (node_removed_from p.document n) (resolved_with allowed p) (check_sure _ refusal.Root _ refl) (resolved_sure allowed p))
outcome_sure allowed p (order.History who) = on_sure p who _ (λ n. check_sure _ refusal.BadPlace p refl)
outcome_sure allowed p order.Show = made is_memory p
outcome_sure allowed p order.Text = made is_memory p
outcome_sure allowed p order.Save = made is_memory p
outcome_sure allowed p order.Diary = made is_memory p
outcome_sure allowed p order.Values = made is_memory p
outcome_sure allowed p (order.Stack who name) = on_sure p who _ (λ n. made is_memory p)

-- ---- orders

abbrev fault_lacks : Fault → Bool
fault_lacks fault = is_memory fault.refusal

at_line_sure : {A : Type 0} (line : ℕ) (r : Result A Refusal) → Fine r → Sure fault_lacks (at_line line r)
at_line_sure line (Ok x) h = made fault_lacks x
at_line_sure line (Err e) h = record { never = h.never }

held_sure : (p : Option Presentation) → Fine (found_presentation p)
held_sure None = no refusal.NoPresentation refl
held_sure (Some p) = made is_memory p

preferring_sure : (session : Session) (word value : List ℕ) → Fine (preferring session word value)
preferring_sure session word value =
    onward is_memory (ok_or (with_preference session.wanted word value) refusal.NotACommand) _ (found is_memory (with_preference session.wanted word value) refusal.NotACommand refl) (λ wanted. made is_memory _)

checked_said_sure : (session : Session) (read : Read) → Fine (check_said session read)
checked_said_sure session (Prefer word value) = onward is_memory (preferring session word value) silent (preferring_sure session word value) (λ after. made is_memory _)
checked_said_sure session (To name order) = made is_memory _
checked_said_sure session (Close name) = made is_memory _
checked_said_sure session (Load name) = made is_memory _
checked_said_sure session (LoadAt name start) = made is_memory _
checked_said_sure session Blank = made is_memory _

said_sure : (allowed : Limits) (session : Session) (line : ℕ) (read : Read) → Fine (said_within allowed session line read)
said_sure allowed session line (To name order) =
    onward is_memory (found_presentation (presentation_of name session)) _ (held_sure (presentation_of name session))
    (λ before. onward is_memory (outcome_within allowed formats before order) _ (outcome_sure allowed before order) (λ after. made is_memory _))
said_sure allowed session line (Close name) = onward is_memory (found_presentation (presentation_of name session)) _ (held_sure (presentation_of name session)) (λ before. made is_memory _)
said_sure allowed session line (Prefer word value) = onward is_memory (preferring session word value) _ (preferring_sure session word value) (λ after. made is_memory _)
said_sure allowed session line (Load name) = no refusal.NotACommand refl
said_sure allowed session line (LoadAt name start) = no refusal.NotACommand refl
said_sure allowed session line Blank = made is_memory _

title_sure : (read : Read) → Fine (head_of read)
title_sure (Load name) = made is_memory _
title_sure (LoadAt name start) = made is_memory _
title_sure (Prefer word value) = no refusal.NotACommand refl
title_sure (Close name) = no refusal.NotACommand refl
title_sure (To name order) = no refusal.NotACommand refl
title_sure Blank = no refusal.NotACommand refl

-- ---- the lines of a load

lowered_sure : (n : ℕ) (e : Refusal) → is_memory e ≡ false → is_memory (lowered n e) ≡ false
lowered_sure n (refusal.UnknownAttribute column) h = refl
lowered_sure n (refusal.Unsupported column) h = refl
lowered_sure n (refusal.BadValue column) h = refl
lowered_sure n (refusal.TooManyItems column) h = refl
lowered_sure n other h = h

raised_sure : {A : Type 0} (n : ℕ) (r : Result A Refusal) → Fine r → Fine (read_raised n r)
raised_sure n (Ok x) h = made is_memory x
raised_sure n (Err e) h = refused is_memory (lowered n e) (lowered_sure n e h.never)

wall_sure : (r : Result (List ℕ) WallFault) → Sure wall_lacks r → Fine (as_refusal r)
wall_sure (Ok line) h = made is_memory line
wall_sure (Err wall.NoAnchor) h = no _ refl
wall_sure (Err (wall.BadValue place)) h = no _ refl
wall_sure (Err (wall.Unsupported place)) h = no _ refl
wall_sure (Err wall.Memory) h = let never : true ≡ false = h.never in absurd cc

walled_sure : (start : Option ℤ) (root : Option (List ℕ)) (line : List ℕ) → Fine (walled start root line)
walled_sure None root line = made is_memory line
walled_sure (Some at) root line = wall_sure (rewritten root at line) (rewritten_sure root at line)

keeping_sure : (allowed : Limits) (start : Option ℤ) (loading : Loading) (n : ℕ) → Fine (kept_within allowed start loading n)
keeping_sure allowed start loading n =
    onward is_memory (walled start (unwrap_or loading.root None) loading.choice.line) _ (walled_sure start (unwrap_or loading.root None) loading.choice.line)
    (λ text. onward is_memory (raised_within allowed loading.outline text n) _
    (onward is_memory (refuse_if (nat_lt LINE_BYTES (length text)) refusal.LongLine) _ (unless_sure _ refusal.LongLine refl)
    (λ short. onward is_memory (refuse_if (opens_saved loading.outline (drop (2 * n) text)) refusal.BadOutline) _ (unless_sure _ refusal.BadOutline refl)
    (λ node. raised_sure n (line_within allowed loading.outline (drop (2 * n) text)) (line_sure allowed loading.outline (drop (2 * n) text)))))
    (λ more. made is_memory _))

answered_sure : (allowed : Limits) (start : Option ℤ) (loading : Loading) (chosen : Chosen) → Fine (answered_within allowed start loading chosen)
answered_sure allowed start loading Dropped = made is_memory _
answered_sure allowed start loading (Kept n) = keeping_sure allowed start (with_root loading) n

loading_line_sure : (allowed : Limits) (start : Option ℤ) (loading : Loading) (line : List ℕ) → Fine (loading_within allowed start loading line)
loading_line_sure allowed start loading line =
    either is_memory (is_saved loading line) _ _
    (onward is_memory (line_within allowed loading.outline line) _ (line_sure allowed loading.outline line) (λ more. made is_memory _))
    (onward is_memory (refuse_if (nat_lt LINE_BYTES (length line)) refusal.LongLine) _ (unless_sure _ refusal.LongLine refl)
    (λ short. onward is_memory (pushed loading.choice line) _ (pushed_sure loading.choice line)
    (λ next. answered_sure allowed start (record loading { first = false; choice = next.0 }) next.1)))

loading_sure : (allowed : Limits) (start : Option ℤ) (loading : Loading) (lines : List NumberedLine) → Sure fault_lacks (loading_from allowed start loading lines)
loading_sure allowed start loading [] = made fault_lacks loading
loading_sure allowed start loading (line ∷ lines) =
    onward fault_lacks (at_line line.number (loading_within allowed start loading line.text)) _ (at_line_sure line.number _ (loading_line_sure allowed start loading line.text)) (λ more. loading_sure allowed start more lines)

ended_sure : (outline : Outline) → Fine (ended outline)
ended_sure outline = either is_memory _ _ _ (no refusal.BadOutline refl) (made is_memory _)

given_sure : (allowed : Limits) (wanted : Wanted) (lines : LoadLines) (end_line : ℕ) → Sure fault_lacks (given_within allowed wanted lines end_line)
given_sure allowed wanted lines end_line =
    onward fault_lacks (at_line lines.head.number (line_of lines.head.text >>= head_of)) _ (at_line_sure lines.head.number _ (onward is_memory (line_of lines.head.text) head_of (says_sure lines.head.text) title_sure))
    (λ head. onward fault_lacks (loading_from allowed head.start (unread wanted) lines.nodes) _ (loading_sure allowed head.start (unread wanted) lines.nodes)
    (λ loading. onward fault_lacks (at_line end_line (ended loading.outline)) _ (at_line_sure end_line _ (ended_sure loading.outline)) (λ document. made fault_lacks _)))

may_load_sure : (name : List ℕ) (session : Session) → Fine (may_load name session)
may_load_sure name session = either is_memory (is_some (presentation_of name session)) _ _ (no refusal.NameTaken refl) (either is_memory (nat_lt (length session.held) PRESENTATIONS) _ _ (made is_memory tt) (no refusal.TooManyPresentations refl))

loaded_sure : (allowed : Limits) (session : Session) (line : ℕ) (given : LoadedDocument) → Fine (loaded_within allowed session line given)
loaded_sure allowed session line what =
    onward is_memory (may_load what.name session) _ (may_load_sure what.name session) (λ free. onward is_memory (opened_within allowed what.document) _ (room_sure allowed (record { document = what.document; log = []; now = 0 })) (λ loaded. made is_memory _))

answer_sure : (allowed : Limits) (session : Session) (order : OrderLines) → Sure fault_lacks (answer_within allowed session order)
answer_sure allowed session (single line) =
    at_line_sure line.number _ (onward is_memory (read_of line.text) (said_within allowed session line.number) (read_sure line.text) (said_sure allowed session line.number))
answer_sure allowed session (load lines None) = refused fault_lacks _ refl
answer_sure allowed session (load lines (Some end_line)) =
    onward fault_lacks (given_within allowed session.wanted lines end_line) _ (given_sure allowed session.wanted lines end_line)
    (λ what. at_line_sure lines.head.number _ (loaded_sure allowed session lines.head.number what))

by_answer : (answer : Answer) → Sure fault_lacks answer → refuses_as is_memory (heard answer) ≡ false
by_answer (Ok accepted) h = refl
by_answer (Err fault) h = h.never

pub never_lacks : (allowed : Limits) (session : Session) (order : OrderLines) → refuses_as is_memory (heard (answer_within allowed session order)) ≡ false
never_lacks allowed session order = by_answer (answer_within allowed session order) (answer_sure allowed session order)

-- the same where orders are checked
checked_sure : (allowed : Limits) (session : Session) (order : OrderLines) → Sure fault_lacks (check_within allowed session order)
checked_sure allowed session (single line) = at_line_sure line.number _ (onward is_memory (read_of line.text) (check_said session) (read_sure line.text) (checked_said_sure session))
checked_sure allowed session (load lines None) = refused fault_lacks _ refl
checked_sure allowed session (load lines (Some end_line)) =
    onward fault_lacks (given_within allowed session.wanted lines end_line) _ (given_sure allowed session.wanted lines end_line) (λ what. made fault_lacks _)

pub checked_never_lacks : (allowed : Limits) (session : Session) (order : OrderLines) → refuses_as is_memory (heard (check_within allowed session order)) ≡ false
checked_never_lacks allowed session order = by_answer (check_within allowed session order) (checked_sure allowed session order)
