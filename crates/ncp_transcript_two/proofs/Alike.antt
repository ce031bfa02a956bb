-- The moves of a world do to the subnet what the subnet's calls do.
use Rattle.std.proofs.Common.{◌≡◌, ℕ}
use Rattle.ncp_subnet.specs.Transit as transit
use Rattle.ncp_transcript_two.specs.Subnet.{Holds, Free, Accepted, Delivered, Lost, Dead}
use Rattle.ncp_transcript_two.specs.World.{World, delivers, loses, dies, answers_for}
use Rattle.ncp_transcript_two.proofs.Links.{set_at-same}

pub delivers-alike : (on : ℕ) (v : World) (h : Holds) → v.going on ≡ h → (delivers on h v).0.going on ≡ transit.delivered h
delivers-alike on v Free e = e
delivers-alike on v (Accepted m) e = set_at-same on Delivered v.going
delivers-alike on v Delivered e = e
delivers-alike on v Lost e = e
delivers-alike on v Dead e = e

pub loses-alike : (on : ℕ) (v : World) (h : Holds) → v.going on ≡ h → (loses on h v).0.going on ≡ transit.lost h
loses-alike on v Free e = e
loses-alike on v (Accepted m) e = set_at-same on Lost v.going
loses-alike on v Delivered e = e
loses-alike on v Lost e = e
loses-alike on v Dead e = e

pub dies-alike : (on : ℕ) (v : World) (h : Holds) → v.going on ≡ h → (dies on h v).0.going on ≡ transit.dead h
dies-alike on v Free e = e
dies-alike on v (Accepted m) e = set_at-same on Dead v.going
dies-alike on v Delivered e = e
dies-alike on v Lost e = e
dies-alike on v Dead e = e

pub answers-alike : (on : ℕ) (v : World) (h : Holds) → v.going on ≡ h → (answers_for on h v).0.going on ≡ transit.transit_answered h
answers-alike on v Free e = e
answers-alike on v (Accepted m) e = e
answers-alike on v Delivered e = set_at-same on Free v.going
answers-alike on v Lost e = set_at-same on Free v.going
answers-alike on v Dead e = set_at-same on Free v.going
