-- What a player answers to an order: the new state and the text, or the refusal.
use Rattle.std.specs.Prelude.{ℕ, ◌<◌, ◌≤◌, pos, List, [], ◌∷◌, ◌++◌, flat_map, length, true, not, ◌&&◌, ◌≡◌, ◌⊎◌, Option, Some, None, unwrap_or, Result, Ok, Err}
use Rattle.std.specs.Option.{option_map_or}
use Rattle.smil_model.specs.declared.limits.TheConstants.{TEXT_BYTES}
use Rattle.smil_model.specs.declared.document.Node.{Node}
use Rattle.smil_model.specs.declared.order.Refusal.{Refusal}
use Rattle.smil_model.specs.declared.order.Refusal.TheVariants.{DiaryFull, Memory}
use Rattle.smil_model.specs.declared.order.Who.{Who}
use Rattle.smil_model.specs.declared.order.Who.TheVariants.{Id, Serial}
use Rattle.smil_model.specs.declared.order.Order.{Order}
use Rattle.smil_model.specs.declared.order.Order.TheVariants as order
use Rattle.smil_model.specs.declared.view.View.{View}
use Rattle.smil_model.specs.declared.view.Layer.{Layer}
use Rattle.smil_model.specs.document.Document.{node_at}
use Rattle.smil_model.specs.document.Words.{is_event_name, is_raised_name, is_key}
use Rattle.smil_model.specs.document.Values.{is_clock}
use Rattle.smil_model.specs.shown.Histories.{ShownInterval, intervals_of}
use Rattle.smil_model.specs.shown.Sandwich.{layers, stack_of, names_on}
use Rattle.smil_model.specs.shown.Lines.{name_of, change_line, gone_line, interval_line, value_line, layer_line, outline_end, entry_line, now_line}
use Rattle.smil_model.specs.shown.Orders.{Formats, Presentation, resolved_history, views_of, node_of, outcome, changes_of, changes_of_load, gone_elements}

-- ---- the text

-- how the nodes are named: each element by its id or its serial
abbrev pub name_in : List Node → ℕ → Who
name_in nodes serial = option_map_or name_of (node_at nodes serial) (Serial serial)

abbrev pub change_text : List Node → ℕ × View → List ℕ
change_text nodes change = change_line (pos change.0) (name_in nodes (change.1).serial) change.1

-- the changes of a load
abbrev pub load_text : Presentation → List ℕ
load_text loaded = flat_map (change_text loaded.document.nodes) (changes_of_load loaded)

abbrev pub gone_text : Presentation → Presentation → List ℕ
gone_text before after =
    flat_map (λ (n : Node). gone_line (pos after.now) (name_of n)) (gone_elements before after)

-- the line of an interval as it is shown
abbrev pub told_line : Who → ShownInterval → List ℕ
told_line name t = interval_line name t.begin t.finish t.how

abbrev pub history_text : Presentation → Option Node → List ℕ
history_text p None = []
history_text p (Some n) =
    flat_map (told_line (name_of n)) (intervals_of (resolved_history p) (pos p.now) n)

-- the value that a set sets, and how it is named
abbrev pub value_of : List Node → ℕ → List ℕ
value_of nodes setter =
    option_map_or (λ (n : Node). unwrap_or n.attrs.texts.to []) (node_at nodes setter) []

-- each attribute of a target that is set, by the top of its stack
abbrev pub top_text : List Node → ℕ → List ℕ → List ℕ → List ℕ
top_text nodes target name [] = []
top_text nodes target name (setter ∷ below) =
    value_line (name_in nodes target) name (value_of nodes setter) (name_in nodes setter)

abbrev pub values_on : List Node → List (ℕ × Layer) → Node → List ℕ
values_on nodes all target =
    flat_map (λ name. top_text nodes target.serial name (stack_of all target.serial name))
    (names_on all target.serial)

-- targets in document order
abbrev pub values_text : Presentation → List ℕ
values_text p =
    let all = layers p.document.nodes (views_of p) in
    flat_map (values_on p.document.nodes all) p.document.nodes

-- the stack of an attribute of a node, from the top down
abbrev pub stack_text : Presentation → List ℕ → Option Node → List ℕ
stack_text p name None = []
stack_text p name (Some target) =
    flat_map
    (λ setter. layer_line (name_in p.document.nodes setter) (value_of p.document.nodes setter))
    (stack_of (layers p.document.nodes (views_of p)) target.serial name)

-- the document with its serials, the diary entry by entry, and the moment
abbrev pub diary_text : Formats → Presentation → List ℕ
diary_text formats p =
    formats.saved p.document ++ outline_end
    ++ flat_map (entry_line p.log) (resolved_history p).diary ++ now_line (pos p.now)

-- the text of an accepted order, but for its last line: the elements that are gone,
-- then the changes; or what the order asks for
abbrev pub answer_text : Formats → Presentation → Presentation → Order → List ℕ
answer_text formats before after (order.History who) =
    history_text after (node_of after.document.nodes who)
answer_text formats before after order.Text = formats.outline after.document.nodes
answer_text formats before after order.Save = formats.saved after.document
answer_text formats before after order.Diary = diary_text formats after
answer_text formats before after order.Values = values_text after
answer_text formats before after (order.Stack who name) =
    stack_text after name (node_of after.document.nodes who)
answer_text formats before after given =
    gone_text before after
    ++ flat_map (change_text after.document.nodes) (changes_of before after given)

-- ---- what may be ordered

-- a text of an order has fewer than so many bytes, and its columns stand in such a line
abbrev pub IsText : List ℕ → Type 0
IsText text = length text < TEXT_BYTES

abbrev pub IsColumn : ℕ → Type 0
IsColumn column = (1 ≤ column) × (column < TEXT_BYTES)

abbrev pub IsName : Who → Type 0
IsName (Id id) = IsText id
IsName (Serial serial) = Unit {0}

-- an order's moments and lengths are clock values, and its event and its key are such as a line may
-- name
abbrev pub IsGiven : Order → Type 0
IsGiven (order.Advance by) = is_clock by ≡ true
IsGiven (order.Seek to) = is_clock to ≡ true
IsGiven (order.Event who name) =
    IsName who × ((is_event_name name && not (is_raised_name name)) ≡ true)
IsGiven (order.Media who length) = IsName who × (is_clock length ≡ true)
IsGiven (order.Key key) = is_key key ≡ true
IsGiven (order.Set who name value name_column column) =
    IsName who × IsText name × IsText value × IsColumn name_column × IsColumn column
IsGiven (order.Unset who name column) = IsName who × IsText name × IsColumn column
IsGiven (order.Insert who place line column) = IsName who × IsText line × IsColumn column
IsGiven (order.Remove who) = IsName who
IsGiven (order.History who) = IsName who
IsGiven order.Show = Unit {0}
IsGiven order.Text = Unit {0}
IsGiven order.Save = Unit {0}
IsGiven order.Diary = Unit {0}
IsGiven order.Values = Unit {0}
IsGiven (order.Stack who name) = IsName who × IsText name

-- ---- the answer

-- an accepted order gives this state and this text
pub record Accepts
    (formats : Formats) (before after : Presentation) (given : Order) (text : List ℕ) : Type 0 where
  pub state : outcome formats before given ≡ Ok after
  pub answer : text ≡ answer_text formats before after given

-- a refusal is that of what was to be made, or memory ran out
abbrev pub IsRefusedBy : {A : Type 0} → Result A Refusal → Refusal → Type 0
IsRefusedBy wanted refusal = (refusal ≡ Memory) ⊎ (wanted ≡ Err refusal)

-- an order is refused for its first fault, or because memory ran out
abbrev pub Refuses : Formats → Presentation → Order → Refusal → Type 0
Refuses formats before given refusal = IsRefusedBy (outcome formats before given) refusal

-- ---- how often intervals are evaluated

-- at least so often, where the player tells a least number
abbrev pub AtLeast : Option ℕ → ℕ → Type 0
AtLeast None rise = Unit {0}
AtLeast (Some least) rise = least ≤ rise

-- at most so often, where the player tells a bound
abbrev pub AtMost : Option ℕ → ℕ → Type 0
AtMost None rise = Unit {0}
AtMost (Some most) rise = rise ≤ most

-- a refusal for another cause than a full diary or memory that ran out evaluates nothing,
-- where the player tells a bound
abbrev pub MayEvaluate : Option ℕ → Refusal → ℕ → Type 0
MayEvaluate None refusal rise = Unit {0}
MayEvaluate (Some most) refusal rise = (refusal ≡ DiaryFull) ⊎ ((refusal ≡ Memory) ⊎ (rise ≡ 0))
