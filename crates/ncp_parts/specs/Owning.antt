-- What a handle owns: nothing at null, else what a box owns; and the values of parts and boxes.
use base.Fml.{Fml, feq}
use denote.RattleType.{RattleType}
use denote.RawPtr.{Ptr, null_ptr}
use Rattle.std.specs.Prelude.{Option}
use Rattle.std.specs.declared.option.Option.TheVariants.{None, Some}
use Rattle.std.specs.Box.Ownership.{box_owns}
use Rattle.std.specs.Global.{Global}
use Rattle.std.specs.contracts.impls.GlobalAllocator.TheImpl.{ghosts}
use Rattle.std.specs.declared.boxed.Box.{Box}
use Rattle.ncp_parts.specs.declared.parts.Parts.{Parts}

abbrev pub owned_if_any : (row : RattleType) → Global → Ptr → Option row.Denot → Fml
owned_if_any row alloc p None = feq Ptr p null_ptr
owned_if_any row alloc p (Some x) = box_owns (ghosts.dealloc_token alloc) row p x

-- the value of the parts, if there are any
abbrev pub value_of_parts : {X : Type 0} → Option (Parts X Global) → Option X
value_of_parts None = None
value_of_parts (Some parts) = Some parts.value

-- the value of the box, if there is one
abbrev pub value_of_box : {X : Type 0} → Option (Box X Global) → Option X
value_of_box None = None
value_of_box (Some boxed) = Some boxed.value
