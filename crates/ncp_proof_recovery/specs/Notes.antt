-- The same for a transcript of two hosts: a reset that was done, and the notes after it.
use Rattle.std.specs.Prelude.{◌≡◌, ℕ, Bool, true, false, List, [], ◌∷◌, ◌++◌, Option, None, Some}
use Rattle.ncp_model.specs.Ends.{no_ends}
use Rattle.ncp_model.specs.Phase.{up}
use Rattle.ncp_peer.specs.PeerState.{PeerState}
use Rattle.ncp_transcript.specs.declared.call.Call.{Call}
use Rattle.ncp_transcript.specs.declared.note.HostNote.{HostNote}
use Rattle.ncp_transcript.specs.Asked.{Asks, Asks_echo, Asks_reset}
use Rattle.ncp_transcript_two.specs.World.{World, NoteBody, Called}
use Rattle.ncp_transcript_two.specs.declared.side.Side.{Side}
use Rattle.ncp_transcript_two.specs.declared.note.Note.{Note}
use Rattle.ncp_transcript_two.specs.Between.{Hosts}
use Rattle.ncp_transcript_two.specs.Seen.{seen, body_of}
use Rattle.ncp_proof_quiescence.specs.Settled.{IsSettled}

-- a call that was done, other than one for what is held; a refused call does not count
abbrev pub is_done_call : NoteBody → Bool
is_done_call (Called (Asks pair call) reply) = true
is_done_call (Called (Asks_echo byte) reply) = true
is_done_call (Called Asks_reset reply) = true
is_done_call told = false

abbrev pub tells_call : Option NoteBody → Bool
tells_call None = false
tells_call (Some told) = is_done_call told

-- no user asked for anything except what is held
abbrev pub NothingIsAsked : List Note → Type 0
NothingIsAsked [] = Unit {0}
NothingIsAsked (note ∷ rest) = (tells_call (body_of note) ≡ false) × NothingIsAsked rest

-- the note of a reset that was accepted
abbrev pub reset_done : Side → ℕ → Note
reset_done side peer = Note.Called side (HostNote.Done (Call.Reset peer))

-- a host's state with a peer: up, without endpoints, and without an awaited echo
pub record IsNew (s : PeerState) : Type 0 where
  pub up : up s.peer.phase ≡ true
  pub ends : s.peer.ends ≡ no_ends
  pub echo : s.peer.echoes.awaited ≡ false

abbrev pub AreNew : World → Type 0
AreNew v = IsNew v.this × IsNew v.that

-- if nothing was asked for after a reset that was done, and only a call can happen next, both hosts are
-- as new, for any notes before the reset
abbrev pub ResetRecovers : List Note → Hosts → Type 0
ResetRecovers ns w =
    (before quiet : List Note) (side : Side) (peer : ℕ) → ns ≡ before ++ reset_done side peer ∷ quiet → NothingIsAsked quiet → IsSettled (seen w) → AreNew (seen w)
