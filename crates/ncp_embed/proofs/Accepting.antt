-- The subnet behind a net was found, and accepted a message or refused it.
use Rattle.std.proofs.Common.{◌≡◌, ℕ, List, Bool, inl, inr, Option, Some, Result, Ok, refl, sym, ap, ◌∙◌, subst}
use Rattle.std.specs.Global.{Global}
use Rattle.std.specs.declared.boxed.Box.{Box}
use Rattle.ncp_bits.specs.declared.bits.BitsFault.{BitsFault}
use Rattle.ncp_bits.specs.Reasons.{IsFirst, NoneHolds}
use Rattle.ncp_subnet.specs.declared.fault.SubnetFault.{SubnetFault}
use Rattle.ncp_subnet.specs.Subnet.{Refuses, refusals, with_transit}
use Rattle.ncp_subnet.specs.Messages.{host_in, link_in}
use Rattle.ncp_subnet.specs.declared.transit.Transit.TheVariants as transit
use Rattle.ncp_embed.specs.declared.net.carried.BoxedSubnet.{BoxedSubnet}
use Rattle.ncp_results.specs.Codes.{subnet_code}
use Rattle.ncp_results.specs.declared.codes.TheConstants.{DONE}
use Rattle.ncp_parts.specs.Owning.{value_of_box}
use Rattle.ncp_embed.specs.SubnetExports.{subnet_carried, Accepts}

pub found : (taken : Option (Box BoxedSubnet Global)) (it : Box BoxedSubnet Global) (at : BoxedSubnet) (before : Option BoxedSubnet) → taken ≡ Some it → value_of_box taken ≡ before → at ≡ it.value → before ≡ Some at
found taken it at before some was same = sym (ap (λ (x : BoxedSubnet). Some x) same ∙ ap value_of_box (sym some) ∙ was)

pub refused : (read : Result (List Bool) BitsFault) (came : List Bool) (from : ℕ) (before : Option BoxedSubnet) (at : BoxedSubnet) (now : Option BoxedSubnet) (code : ℕ) (fault : SubnetFault)
    → read ≡ Ok came → before ≡ Some at → now ≡ Some (subnet_carried at.subnet) → code ≡ subnet_code fault → IsFirst (Refuses at.subnet from came) refusals fault → Accepts read from before now code
refused read came from before at now code fault is_read is_there stays coded first =
    subst (λ (r : Result (List Bool) BitsFault). Accepts r from before now code) (sym is_read)
    (subst (λ (b : Option BoxedSubnet). Accepts (Ok came) from b now code) (sym is_there) (inr (fault, coded, first, stays)))

pub accepted : (read : Result (List Bool) BitsFault) (came : List Bool) (from : ℕ) (before : Option BoxedSubnet) (at : BoxedSubnet) (now : Option BoxedSubnet) → read ≡ Ok came → before ≡ Some at
    → now ≡ Some (subnet_carried (with_transit at.subnet from (host_in came) (link_in came) (transit.Accepted came))) → NoneHolds (Refuses at.subnet from came) refusals → Accepts read from before now DONE
accepted read came from before at now is_read is_there changed none =
    subst (λ (r : Result (List Bool) BitsFault). Accepts r from before now DONE) (sym is_read)
    (subst (λ (b : Option BoxedSubnet). Accepts (Ok came) from b now DONE) (sym is_there) (inl (refl, none, changed)))
