-- Endpoints at the start of worked rows.
use Rattle.std.specs.Prelude.{ℕ, Bool, true, false, List, [], ◌∷◌, replicate}
use Rattle.std.specs.FinMap.{from_sorted}
use Rattle.ncp_wire.specs.declared.command.Command.{Command}
use Rattle.ncp_wire.specs.declared.command.Command.TheVariants as variants
use Rattle.ncp_model.specs.declared.pair.Pair.{Pair}
use Rattle.ncp_model.specs.Endpoint.{Endpoint, new_end}
use Rattle.ncp_model.specs.Ends.{Ends}

-- socket 3 sends to socket 2: as the sender's host names it, and as the receiver's does
abbrev pub outward : Pair
outward = record { local = 3; remote = 2 }

abbrev pub inward : Pair
inward = record { local = 2; remote = 3 }

-- `count` bits
abbrev pub ones : ℕ → List Bool
ones count = replicate count true

abbrev pub zero_bits : ℕ → List Bool
zero_bits count = replicate count false

-- the peer's request alone, with link 2 or with size 8
abbrev pub link_heard : Endpoint
link_heard = record new_end { heard = true; link = 2 }

abbrev pub size_heard : Endpoint
size_heard = record new_end { heard = true; size = 8 }

-- the local request alone, with a store of 64 bits
abbrev pub asked_send : Endpoint
asked_send = record new_end { asked = true; size = 8; room = 64 }

abbrev pub asked_receive : Endpoint
asked_receive = record new_end { asked = true; link = 2; room = 64 }

-- both requests: on link 2, of size 8
abbrev pub opened_end : Endpoint
opened_end = record new_end { asked = true; heard = true; opened = true; link = 2; size = 8; room = 64 }

-- with counters, and with bits stored
abbrev pub counting : ℕ → ℕ → Endpoint
counting of_messages of_bits = record opened_end { messages = of_messages; bits = of_bits }

abbrev pub storing : List Bool → Endpoint
storing bits_there = record opened_end { stored = bits_there }

-- with a byte size and a store of 1,024 bits
abbrev pub sized : ℕ → Endpoint
sized of_size = record opened_end { size = of_size; room = 1024 }

-- the same with counters, and with bits stored
abbrev pub with_counters : ℕ → ℕ → Endpoint → Endpoint
with_counters of_messages of_bits e = record e { messages = of_messages; bits = of_bits }

abbrev pub with_stored : List Bool → Endpoint → Endpoint
with_stored bits_there e = record e { stored = bits_there }

-- a text is unacknowledged; the CLS is due; the CLS was made
abbrev pub sent_one : Endpoint → Endpoint
sent_one e = record e { busy = true }

abbrev pub due : Endpoint → Endpoint
due e = record e { leaving = true }

abbrev pub gone : Endpoint → Endpoint
gone e = record e { left = true }

-- the peer's CLS arrived
abbrev pub shut : Endpoint → Endpoint
shut e = record e { cls = true }

abbrev pub err : ℕ → List ℕ → Command
err code data_bytes = variants.Err code data_bytes

-- a host with a sender and a receiver, both open on link 2, and a local request on link 3
abbrev pub ends_both_ways : List (Pair × Endpoint)
ends_both_ways =
    (outward, counting 1 8) ∷ (record { local = 4; remote = 7 }, record (counting 3 24) { recall = true })
    ∷ (record { local = 6; remote = 9 }, record asked_receive { link = 3 }) ∷ []

abbrev pub both_ways : Ends
both_ways = from_sorted ends_both_ways
