-- Notes and ledgers of the examples.
use Rattle.ncp_proof_machine.specs.Resets.{Party}
use Rattle.ncp_transcript_two.specs.World.{NoteBody, WorldNote}
use Rattle.ncp_model.specs.declared.amounts.Amount.{Amount}
use Rattle.ncp_transcript_two.specs.declared.ledger.Ledger.{Ledger}

-- a note of a side with this body
abbrev pub noted_at : Party → NoteBody → WorldNote
noted_at side what = record { side = side; told = what }

-- a ledger of these amounts: outstanding, in the counters, in ALLs, in a text, in RETs
abbrev pub amounts : Amount → Amount → Amount → Amount → Amount → Ledger
amounts outstanding counters all text ret =
    record { outstanding = outstanding; counters = counters; all = all; text = text; ret = ret }
