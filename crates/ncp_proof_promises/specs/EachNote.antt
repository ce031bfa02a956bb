-- Properties of each note of a transcript, with the observed hosts and subnet before and after it. They
-- are stated for this host, which sends, and that one, its peer.
use Rattle.std.specs.Prelude.{◌≡◌, List, [], ◌∷◌, Option, None, Some}
use Rattle.ncp_proof_machine.specs.Resets.{Party, This, That}
use Rattle.ncp_transcript_two.specs.World.{World, swap, NoteBody}
use Rattle.ncp_transcript_two.specs.declared.note.Note.{Note}
use Rattle.ncp_transcript_two.specs.Between.{Hosts, hosts_after_note}
use Rattle.ncp_transcript_two.specs.Seen.{seen, as_rules, body_of, side_of}

-- a note of either side, with the host of that side as this host
abbrev pub OnSide : (NoteBody → World → World → Type 0) → Party → NoteBody → World → World → Type 0
OnSide P This told v after = P told v after
OnSide P That told v after = P told (swap v) (swap after)

-- a note without a body is of a refused call, or of one that only reads: it changes nothing
abbrev pub OfBody : (NoteBody → World → World → Type 0) → Party → Option NoteBody → World → World → Type 0
OfBody P side None v after = after ≡ v
OfBody P side (Some told) v after = OnSide P side told v after

-- it holds for each note, in order
abbrev pub OfEachNote : (NoteBody → World → World → Type 0) → List Note → Hosts → Type 0
OfEachNote P [] w = Unit {0}
OfEachNote P (note ∷ rest) w = OfBody P (as_rules (side_of note)) (body_of note) (seen w) (seen (hosts_after_note note w)) × OfEachNote P rest (hosts_after_note note w)
