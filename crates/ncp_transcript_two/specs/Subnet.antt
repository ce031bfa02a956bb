-- The subnet's state for the messages from one host to the other, by link (BBN 1822, section 3).
-- ncp_subnet defines the events of a message, its arrival and its answer.
use Rattle.std.specs.Prelude.{ℕ, ◌==◌, if◌then◌else◌}
pub use Rattle.ncp_subnet.specs.declared.transit.Transit.TheVariants.{Free, Accepted, Delivered, Lost, Dead}
pub use Rattle.ncp_subnet.specs.Messages.{link_in}
unfoldable pub use Rattle.ncp_subnet.specs.Messages.{from_host, answer_bits}
use Rattle.ncp_subnet.specs.Ways.{OnLink}

-- the state of one link
abbrev pub Holds : Type 0
Holds = OnLink

-- the states of all links
abbrev pub TransitByLink : Type 0
TransitByLink = ℕ → Holds

abbrev pub none_in_transit : TransitByLink
none_in_transit on = Free

abbrev pub set_at : ℕ → Holds → TransitByLink → TransitByLink
set_at on holds u k = if k == on then holds else u k
