-- The machine value of a handle: what is owned tells it, and is made of nothing.
use Rattle.std.proofs.Common.{◌≡◌, List, [], ◌∷◌, ◌++◌, refl, ◌∙◌, lit<}
use seplogic.Ra.Ura.{Ura}
use mir.Syntax.{ty_ptr, ty_struct, tcons, tnil}
use mir.Val.{Val, vstruct, vcons, vnil, vunit, of_list}
use base.Logic.{ent, emp}
use base.Fml.{Fml}
use types.Logic.{Logic, sem}
use denote.RattleType.{RattleType}
use denote.RawPtr.{Ptr, RawPtr, block_ptr, null_ptr, ptr_val}
use denote.Shadow.{shadow, makes_shadow}
use denote.Struct.Struct.{Struct}
use Rattle.smil_top.specs.contracts.held.Held as held
use Rattle.tenphsar.specs.contracts.loose.Loose as loose
use Rattle.std.specs.contracts.alloc.Global as global
use Rattle.std.specs.contracts.impls.GlobalAllocator.TheImpl.{ghosts}
use lib.Dec.{T}
use mir.Syntax.{Ty}
use mir.Val.{has_ty, WT}

-- a value of this type that fits
abbrev pub Good : Ty → Val → Type 0
Good τ v = T (has_ty τ v) × WT v

abbrev pub plainly : List RattleType → RattleType
plainly Rs = Struct (record { name = []; args = []; types = []; fields = Rs })

abbrev pub handle_val : Ptr → Val
handle_val p = vstruct (vcons (ptr_val p) vnil)

abbrev pub handle_own : Ptr → List Val → Fml
handle_own p = (plainly (RawPtr ∷ [])).own_val (p, tt)

pub handle_told : (p : Ptr) (vs : List Val) → shadow (handle_own p vs) → vs ≡ handle_val p ∷ []
handle_told p vs s = s.1.0 ∙ (λ i. vstruct (of_list (s.1.1.0 i ++ [])) ∷ [])

pub handle_made : {M : Type 1} {𝓤 : Ura M} (𝓛 : Logic 𝓤) (p : Ptr) → ent 𝓤 (emp 𝓤) (sem 𝓛 (handle_own p (handle_val p ∷ [])))
handle_made 𝓛 p = makes_shadow 𝓛 (handle_own p (handle_val p ∷ [])) (λ _. (tt, (tt, tt))) ((ptr_val p ∷ [], tt), (refl, (refl, tt)))

pub ptr_typed : (p : Ptr) → Good ty_ptr (ptr_val p)
ptr_typed (block_ptr b o) = (tt, tt)
ptr_typed null_ptr = (tt, record { fits = lit< tt })

pub handle_typed : (p : Ptr) → Good (ty_struct [] (tcons ty_ptr tnil)) (handle_val p)
handle_typed (block_ptr b o) = (tt, (tt, tt))
handle_typed null_ptr = (tt, (record { fits = lit< tt }, tt))

-- the machine value of a `Global`, which has no bytes
abbrev pub global_val : Val
global_val = vstruct (vcons (vstruct (vcons vunit vnil)) vnil)

pub global_told : (a : (global.the_row).Denot) (vs : List Val) → shadow ((global.the_row).own_val a vs) → vs ≡ global_val ∷ []
global_told a vs s = let t = s.1.1.0 in let q = t.1.0 ∙ (λ i. vstruct (of_list (t.1.1.0 i ++ [])) ∷ []) in s.1.0 ∙ (λ i. vstruct (of_list (q i ++ [])) ∷ [])

-- the box of a session as its pointer
abbrev pub Bare : RattleType
Bare = loose.the_row held.the_row global.the_row ghosts
