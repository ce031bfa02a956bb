-- Codes of the values that contracts see.
use Rattle.std.specs.Prelude.{◌≡◌, ℕ, Bool, List, [], refl, nat_eq, if◌then◌else◌}
use Rattle.std.specs.Coded.{Coded, code_by, coded×, coded_ℕ, coded_bool, coded_list}
use Rattle.std.specs.FinMap.{code}
use Rattle.ncp_subnet.specs.declared.transit.Transit.TheVariants.{Free, Accepted, Delivered, Lost, Dead}
use Rattle.ncp_subnet.specs.Ways.{OnLink}
use Rattle.ncp_subnet.specs.Subnet.{TransitKey, InTransit}

abbrev pub coded_place : Coded TransitKey
coded_place = code_by (ℕ × (ℕ × ℕ)) (coded× coded_ℕ (coded× coded_ℕ coded_ℕ)) (λ p. (p.from, (p.to, p.link))) (λ n. record { from = n.0; to = n.1.0; link = n.1.1 }) (λ _. refl)

abbrev pub transit_parts : OnLink → ℕ × List Bool
transit_parts Free = (0, [])
transit_parts (Accepted message) = (1, message)
transit_parts Delivered = (2, [])
transit_parts Lost = (3, [])
transit_parts Dead = (4, [])

abbrev pub transit_of_parts : ℕ × List Bool → OnLink
transit_of_parts parts =
    if nat_eq parts.0 0 then Free
    else if nat_eq parts.0 1 then Accepted parts.1
    else if nat_eq parts.0 2 then Delivered
    else if nat_eq parts.0 3 then Lost
    else Dead

abbrev pub transit_of_parts-transit_parts : (transit : OnLink) → transit_of_parts (transit_parts transit) ≡ transit
transit_of_parts-transit_parts Free = refl
transit_of_parts-transit_parts (Accepted message) = refl
transit_of_parts-transit_parts Delivered = refl
transit_of_parts-transit_parts Lost = refl
transit_of_parts-transit_parts Dead = refl

abbrev pub coded_transit : Coded OnLink
coded_transit = code_by (ℕ × List Bool) (coded× coded_ℕ (coded_list coded_bool)) transit_parts transit_of_parts transit_of_parts-transit_parts

abbrev pub coded_in_transit : Coded InTransit
coded_in_transit = code coded_place coded_transit
