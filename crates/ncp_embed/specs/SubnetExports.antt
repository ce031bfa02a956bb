-- The effects of the functions for C on the subnet of a net, if it has one. Without a subnet they return
-- `NO_SUBNET`, and nothing changes.
use Rattle.std.specs.Prelude.{ℕ, ◌≡◌, ◌⊎◌, Bool, if◌then◌else◌, List, Option, None, Some, Result, Ok, Err}
use Rattle.std.specs.Option.{option_map_or}
use Rattle.ncp_bits.specs.declared.bits.BitsFault.{BitsFault}
use Rattle.ncp_bits.specs.Reasons.{IsFirst, NoneHolds}
use Rattle.ncp_subnet.specs.declared.fault.SubnetFault.{SubnetFault}
use Rattle.ncp_subnet.specs.declared.transit.Transit.TheVariants as transit
use Rattle.ncp_subnet.specs.Messages.{host_in, link_in, arriving, answer_about}
use Rattle.ncp_subnet.specs.Ways.{OnLink}
use Rattle.ncp_subnet.specs.Transit.{is_accepted}
use Rattle.ncp_subnet.specs.Subnet.{Subnet, transit_at, with_transit, Refuses, refusals}
use Rattle.ncp_embed.specs.declared.net.carried.BoxedSubnet.{BoxedSubnet}
use Rattle.ncp_embed.specs.declared.subnet.LinkId.{LinkId}
use Rattle.ncp_results.specs.declared.codes.TheConstants.{DONE, NO_SUBNET, NOTHING}
use Rattle.ncp_results.specs.Codes.{bits_code, subnet_code}
use Rattle.ncp_embed.specs.Exports.{code_if_any}

abbrev pub subnet_carried : Subnet → BoxedSubnet
subnet_carried s = record { subnet = s }

-- A host's message is accepted, or refused for the first reason that applies.

abbrev pub AcceptsIn : List Bool → ℕ → Subnet → Option BoxedSubnet → ℕ → Type 0
AcceptsIn came from s now code =
    ((code ≡ DONE) × NoneHolds (Refuses s from came) refusals × (now ≡ Some (subnet_carried (with_transit s from (host_in came) (link_in came) (transit.Accepted came)))))
    ⊎ ((fault : SubnetFault) × (code ≡ subnet_code fault) × IsFirst (Refuses s from came) refusals fault × (now ≡ Some (subnet_carried s)))

abbrev pub Accepts : Result (List Bool) BitsFault → ℕ → Option BoxedSubnet → Option BoxedSubnet → ℕ → Type 0
Accepts (Err fault) from before now code = (code ≡ bits_code fault) × (now ≡ before)
Accepts (Ok came) from None now code = (code ≡ NO_SUBNET) × (now ≡ None)
Accepts (Ok came) from (Some at) now code = AcceptsIn came from at.subnet now code

-- the transit on a link from one host to another, and the subnet with another transit there
abbrev pub on_lane : LinkId → Subnet → OnLink
on_lane lane s = transit_at s lane.from lane.to lane.link

abbrev pub with_lane : LinkId → OnLink → Subnet → Subnet
with_lane lane now s = with_transit s lane.from lane.to lane.link now

-- Events of a message in transit, and its answer.

abbrev pub coming_in : LinkId → Subnet → Option (List Bool)
coming_in lane s = arriving lane.from (on_lane lane s)

abbrev pub after_coming : LinkId → Subnet → Subnet
after_coming lane s = option_map_or (λ _. with_lane lane transit.Delivered s) (coming_in lane s) s

abbrev pub answer_in_transit : LinkId → Subnet → Option (List Bool)
answer_in_transit lane s = answer_about lane.to lane.link (on_lane lane s)

abbrev pub subnet_after_answer : LinkId → Subnet → Subnet
subnet_after_answer lane s = option_map_or (λ _. with_lane lane transit.Free s) (answer_in_transit lane s) s

abbrev pub is_under_way : LinkId → Subnet → Bool
is_under_way lane s = is_accepted (on_lane lane s)

abbrev pub after_loss : LinkId → Subnet → Subnet
after_loss lane s = if is_under_way lane s then with_lane lane transit.Lost s else s

abbrev pub after_death : LinkId → Subnet → Subnet
after_death lane s = if is_under_way lane s then with_lane lane transit.Dead s else s

-- The same for a net: its code, and the subnet after it.

abbrev pub code_in_net : {A : Type 0} → (Subnet → Option A) → Option BoxedSubnet → ℕ
code_in_net reply None = NO_SUBNET
code_in_net reply (Some at) = code_if_any (reply at.subnet)

abbrev pub code_if : Bool → ℕ
code_if holds = if holds then DONE else NOTHING

abbrev pub holds_code_in : (Subnet → Bool) → Option BoxedSubnet → ℕ
holds_code_in test None = NO_SUBNET
holds_code_in test (Some at) = code_if (test at.subnet)

abbrev pub changed_in : (Subnet → Subnet) → Option BoxedSubnet → Option BoxedSubnet
changed_in after None = None
changed_in after (Some at) = Some (subnet_carried (after at.subnet))
