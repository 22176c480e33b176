-- A default is stated by the node, or by those above it.
use Rattle.std.proofs.Common.{◌≡◌, refl, ◌∙◌, ap, ℕ, List, [], ◌∷◌, Option, Some, None, Bool, true, false, cond, filter}
use Rattle.std.specs.Prelude.{unwrap_or, option_and_then}
use Rattle.smil_model.specs.declared.document.Node.{Node}
use Rattle.smil_model.specs.declared.document.Restart.{Restart}
use Rattle.smil_model.specs.declared.document.Restart.TheVariants.{Always}
use Rattle.smil_model.specs.declared.document.Restart.TheVariants as restart
use Rattle.smil_model.specs.declared.document.RestartDefault.{RestartDefault}
use Rattle.smil_model.specs.declared.document.RestartDefault.TheVariants as restart_default
use Rattle.smil_model.specs.declared.document.Fill.{Fill}
use Rattle.smil_model.specs.declared.document.Fill.TheVariants.{Auto}
use Rattle.smil_model.specs.declared.document.Fill.TheVariants as fill
use Rattle.smil_model.specs.declared.document.FillDefault.{FillDefault}
use Rattle.smil_model.specs.declared.document.FillDefault.TheVariants as fill_default
use Rattle.smil_model.specs.document.Document.{node_at, lineage, is_element}
use Rattle.smil_model.specs.document.Defaults.{first_stated, inherited, default_restart, default_fill, restart_of, restart_or, restart_stated, fill_of, fill_or, fill_stated}
use Rattle.smil_laws.specs.Edited.{IsOrdered}
use Rattle.smil_tree.specs.Inherited.{own_restart, own_fill}
use Rattle.smil_tree.specs.Outline.{own, restart_by, fill_by}
use Rattle.smil_tree.proofs.NodeFamilies.{chain_of, no_chain}

module _ {A : Type 0} (stated : Node → Option A) (without : A) (nodes : List Node) where
  -- what stands above a missing node states nothing
  pub from_none : (s : ℕ) → node_at nodes s ≡ None → inherited nodes stated without s ≡ without
  from_none s q = ap (λ l. first_stated stated without (filter is_element l)) (no_chain nodes s q)

  -- a node states it, or its parent's lineage does
  pub from_node : IsOrdered nodes → (s : ℕ) (n : Node) → node_at nodes s ≡ Some n → inherited nodes stated without s ≡ unwrap_or (own stated n) (inherited nodes stated without n.parent)
  from_node o s n at = ap (λ l. first_stated stated without (filter is_element l)) (chain_of nodes o s n at) ∙ step (is_element n)
    where
      step : (t : Bool) → first_stated stated without (cond t (n ∷ filter is_element (lineage nodes n.parent)) (filter is_element (lineage nodes n.parent))) ≡ unwrap_or (cond t (stated n) None) (inherited nodes stated without n.parent)
      step true = refl
      step false = refl

-- the first that is stated is no value that no node states
never_first : {A : Type 0} (bad : A) (stated : Node → Option A) (without : A) → (without ≡ bad → ⊥) → ((n : Node) → stated n ≡ Some bad → ⊥) → (ns : List Node) → first_stated stated without ns ≡ bad → ⊥
never_first bad stated without other never [] q = other q
never_first bad stated without other never (n ∷ ns) q = step (stated n) refl q (never_first bad stated without other never ns)
  where
    step : (r : Option _) → stated n ≡ r → unwrap_or r (first_stated stated without ns) ≡ bad → (first_stated stated without ns ≡ bad → ⊥) → ⊥
    step None e f rest = rest f
    step (Some x) e f rest = never n (e ∙ ap Some f)

-- what a node states itself, or else what is stated from it upwards
pub record Inherits {A : Type 0} (itself : Node → Option A) (from : List Node → ℕ → A) (of : List Node → Node → A) : Type 0 where
  pub split : (nodes : List Node) (n : Node) → of nodes n ≡ unwrap_or (itself n) (from nodes n.serial)

-- ---- restart

no_default_restart : (d : Option RestartDefault) → option_and_then restart_stated d ≡ Some restart.ByDefault → ⊥
no_default_restart None q = cc
no_default_restart (Some restart_default.Always) q = cc
no_default_restart (Some restart_default.WhenNotActive) q = cc
no_default_restart (Some restart_default.Never) q = cc
no_default_restart (Some restart_default.Inherit) q = cc

pub restart_given : (nodes : List Node) (s : ℕ) → default_restart nodes s ≡ restart.ByDefault → ⊥
restart_given nodes s = never_first restart.ByDefault restart_by Always (λ q. cc) (λ n. no_default_restart n.attrs.restart_default) (filter is_element (lineage nodes s))

restart_split : (r : Restart) (o : Option Restart) → restart_or r o ≡ unwrap_or (own_restart o) r
restart_split r None = refl
restart_split r (Some restart.ByDefault) = refl
restart_split r (Some restart.Always) = refl
restart_split r (Some restart.WhenNotActive) = refl
restart_split r (Some restart.Never) = refl

pub restart_inherits : Inherits (λ n. own_restart n.attrs.restart) default_restart restart_of
restart_inherits = record { split = λ nodes n. restart_split (default_restart nodes n.serial) n.attrs.restart }

pub own_restart_given : (o : Option Restart) → own_restart o ≡ Some restart.ByDefault → ⊥
own_restart_given None e = cc
own_restart_given (Some restart.ByDefault) e = cc
own_restart_given (Some restart.Always) e = cc
own_restart_given (Some restart.WhenNotActive) e = cc
own_restart_given (Some restart.Never) e = cc

-- ---- fill

no_default_fill : (d : Option FillDefault) → option_and_then fill_stated d ≡ Some fill.ByDefault → ⊥
no_default_fill None q = cc
no_default_fill (Some fill_default.Remove) q = cc
no_default_fill (Some fill_default.Freeze) q = cc
no_default_fill (Some fill_default.Hold) q = cc
no_default_fill (Some fill_default.Auto) q = cc
no_default_fill (Some fill_default.Inherit) q = cc

pub fill_given : (nodes : List Node) (s : ℕ) → default_fill nodes s ≡ fill.ByDefault → ⊥
fill_given nodes s = never_first fill.ByDefault fill_by Auto (λ q. cc) (λ n. no_default_fill n.attrs.fill_default) (filter is_element (lineage nodes s))

fill_split : (f : Fill) (o : Option Fill) → fill_or f o ≡ unwrap_or (own_fill o) f
fill_split f None = refl
fill_split f (Some fill.ByDefault) = refl
fill_split f (Some fill.Remove) = refl
fill_split f (Some fill.Freeze) = refl
fill_split f (Some fill.Hold) = refl
fill_split f (Some fill.Auto) = refl

pub fill_inherits : Inherits (λ n. own_fill n.attrs.fill) default_fill fill_of
fill_inherits = record { split = λ nodes n. fill_split (default_fill nodes n.serial) n.attrs.fill }

pub own_fill_given : (o : Option Fill) → own_fill o ≡ Some fill.ByDefault → ⊥
own_fill_given None e = cc
own_fill_given (Some fill.ByDefault) e = cc
own_fill_given (Some fill.Remove) e = cc
own_fill_given (Some fill.Freeze) e = cc
own_fill_given (Some fill.Hold) e = cc
own_fill_given (Some fill.Auto) e = cc
