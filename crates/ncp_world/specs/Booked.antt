-- The accounts of a connection: sums over the notes of each of its hosts of the amounts granted, returned
-- and used (NIC 8246, allocation; that a host counts again from zero after the pair has ended is this
-- profile's rule).
use Rattle.std.specs.Prelude.{◌≡◌, List}
use Rattle.ncp_model.specs.declared.pair.Pair.{Pair}
use Rattle.ncp_model.specs.declared.amounts.Amount.{Amount}
use Rattle.ncp_model.specs.Pairs.{counterpart}
use Rattle.ncp_model.specs.Amounts.{◌⊕◌}
use Rattle.ncp_proof_runs.specs.Peers.{notes_of_peer}
use Rattle.ncp_proof_runs.specs.Marks.{Marks, marks_of}
use Rattle.ncp_transcript_two.specs.declared.ledger.Ledger.{Ledger}
use Rattle.ncp_transcript_two.specs.declared.note.Note.{Note}
use Rattle.ncp_transcript_two.specs.declared.side.Side.{Side}
use Rattle.ncp_transcript_two.specs.Between.{Hosts, other, side_number}
use Rattle.ncp_transcript_two.specs.Sides.{notes_at}

-- the record and the sums of a pair, by the notes of a side's host
abbrev pub marks_at : Side → Pair → List Note → Hosts → Marks
marks_at side pair notes w = marks_of pair (notes_of_peer (side_number (other side) w) (notes_at side notes))

-- an amount is the amount granted less those returned and used, in messages and in bits
abbrev pub Remains : Amount → Marks → Type 0
Remains it m = it ⊕ m.returned ⊕ m.used ≡ m.granted

-- for a pair that sends from a side: the outstanding amount is what remains by the receiver's notes, and
-- the counters are what remains by the sender's notes
abbrev pub IsBooked : Side → Pair → List Note → Hosts → Ledger → Type 0
IsBooked side pair notes w l = Remains l.outstanding (marks_at (other side) (counterpart pair) notes w) × Remains l.counters (marks_at side pair notes w)
