-- The outstanding allocation of an open connection and its parts, in numbers. The ALLs and RETs counted
-- are those that name the connection's link; a text counts from when it is sent until it is delivered.
use Rattle.std.specs.Prelude.{◌≡◌, Bool, ◌&&◌, if◌then◌else◌, Option, None, Some}
use Rattle.ncp_model.specs.declared.pair.Pair.{Pair}
use Rattle.ncp_model.specs.Pairs.{is_send}
use Rattle.ncp_model.specs.Endpoint.{is_open}
use Rattle.ncp_model.specs.Amounts.{◌⊕◌, allowance}
use Rattle.ncp_transcript_two.specs.World.{World, swap}
use Rattle.ncp_transcript_two.specs.Underway.{sender_at, receiver_at, text_out, amount_out, granted_on, returned_on}
use Rattle.ncp_transcript_two.specs.declared.ledger.Ledger.{Ledger}
use Rattle.ncp_transcript_two.specs.declared.side.Side.{Side}
use Rattle.ncp_transcript_two.specs.declared.side.Side.TheVariants.{A, B}
use Rattle.ncp_transcript_two.specs.Between.{Hosts}
use Rattle.ncp_transcript_two.specs.Seen.{seen}

-- the ledger of a pair whose sender is at this host
abbrev pub ledger_in : Pair → World → Ledger
ledger_in pair v = record {
  outstanding = allowance (receiver_at pair v);
  counters = allowance (sender_at pair v);
  all = granted_on pair v;
  text = amount_out (text_out pair v);
  ret = returned_on pair v;
}

abbrev pub are_open : Pair → World → Bool
are_open pair v = is_open (sender_at pair v) && is_open (receiver_at pair v)

-- the ledger of a pair, exactly when the socket here is odd, so that it sends, and both ends are open
abbrev pub ledger_from : Pair → World → Option Ledger
ledger_from pair v = if is_send pair.local && are_open pair v then Some (ledger_in pair v) else None

-- the world with the host of a side as this host
abbrev pub seen_from : Side → Hosts → World
seen_from A w = seen w
seen_from B w = swap (seen w)

abbrev pub ledger_of : Side → Pair → Hosts → Option Ledger
ledger_of side pair w = ledger_from pair (seen_from side w)

-- the outstanding allocation is the sum of the counters and the amounts underway (queued or in flight)
abbrev pub IsBalanced : Ledger → Type 0
IsBalanced l = l.outstanding ≡ l.counters ⊕ l.all ⊕ l.text ⊕ l.ret
