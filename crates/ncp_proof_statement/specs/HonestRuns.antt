-- Runs of two hosts over a subnet that is honest between the two: the premise of the headline over any
-- subnet. Of the subnet only `Delivers` is assumed; no state of a subnet is part of the premise.
use Rattle.std.specs.Prelude.{◌≡◌, ◌≢◌, ◌<◌, ◌^◌, ℕ, true, List, [], ◌∷◌}
use Rattle.ncp_host.specs.Host.{Host, new_host, numbers_of, is_one_of}
use Rattle.ncp_transcript.specs.After.{after_notes}
use Rattle.ncp_transcript.specs.Runs.{IsHostRun, IsHostTranscript}
use Rattle.ncp_transcript_two.specs.declared.side.Side.{Side}
use Rattle.ncp_transcript_two.specs.declared.side.Side.TheVariants.{A, B}
use Rattle.ncp_transcript_two.specs.declared.note.Note.{Note}
use Rattle.ncp_transcript_two.specs.Between.{Hosts, transit_of}
use Rattle.ncp_transcript_two.specs.Transcript.{IsTranscript}
use Rattle.ncp_statement.specs.Statement.{Delivers, link_state}
use Rattle.ncp_proof_statement.specs.Notes.{SidedNotes, notes_by, as_notes, without_subnet, NotedCallsFit, mutual_notes, NumberedNotes, notes_of_host, notes_of_two}

-- Two hosts with distinct numbers, each with the other as its only peer. The notes of each are a run of
-- that host by itself, and the numbers of all calls fit. The subnet is honest (`Delivers`): each message
-- arrived once, whole, before its RFNM, or did not arrive and got another answer, before the next was
-- sent. The last one may be unanswered.
pub record IsHonestRun (a b : ℕ) (ns : SidedNotes) : Type 0 where
  pub differ : a ≢ b
  pub fits_a : a < 2 ^ 8
  pub fits_b : b < 2 ^ 8
  pub run_a : IsHostRun (notes_by A ns) (new_host a (b ∷ []))
  pub run_b : IsHostRun (notes_by B ns) (new_host b (a ∷ []))
  pub calls : NotedCallsFit ns
  pub honest : Delivers a b (as_notes ns)

-- Two hosts that have one another among their one to eight peers. The notes of each are a run of that
-- host by itself, the numbers of all calls fit, and messages between the two are delivered honestly. The
-- other peers may be any program, over any subnet.
pub record IsHonestRunAmong (x y : Host) (ns : SidedNotes) : Type 0 where
  pub run_x : IsHostTranscript (notes_by A ns) x
  pub run_y : IsHostTranscript (notes_by B ns) y
  pub x_has_y : is_one_of y.me (numbers_of x.peers) ≡ true
  pub y_has_x : is_one_of x.me (numbers_of y.peers) ≡ true
  pub calls : NotedCallsFit ns
  pub honest : Delivers x.me y.me (as_notes (mutual_notes x.me y.me ns))

-- The same for two of any number of hosts, by the notes of all. Nothing is assumed about the others.
pub record IsHonestRunOfMany (x y : Host) (ns : NumberedNotes) : Type 0 where
  pub run_x : IsHostTranscript (notes_of_host x.me ns) x
  pub run_y : IsHostTranscript (notes_of_host y.me ns) y
  pub x_has_y : is_one_of y.me (numbers_of x.peers) ≡ true
  pub y_has_x : is_one_of x.me (numbers_of y.peers) ≡ true
  pub calls : NotedCallsFit (notes_of_two x.me y.me ns)
  pub honest : Delivers x.me y.me (as_notes (mutual_notes x.me y.me (notes_of_two x.me y.me ns)))

-- A transcript of a world of two hosts exists that has these notes and, besides, only notes that its
-- subnet makes itself.
abbrev pub IsOfWorld : ℕ → ℕ → SidedNotes → Type 0
IsOfWorld a b ns = (more : List Note) × (w : Hosts) × IsTranscript more w × (w.number_a ≡ a) × (w.number_b ≡ b) × (without_subnet more ≡ as_notes ns)

-- A world with these notes: its transcript has them, its hosts are the two, and each of its links is in
-- the state that the notes determine.
pub record WorldOf (a b : ℕ) (ns : SidedNotes) : Type 0 where
  pub more : List Note
  pub world : Hosts
  pub is : IsTranscript more world
  pub number_a : world.number_a ≡ a
  pub number_b : world.number_b ≡ b
  pub notes : without_subnet more ≡ as_notes ns
  pub host_a : world.a ≡ after_notes (notes_by A ns) (new_host a (b ∷ []))
  pub host_b : world.b ≡ after_notes (notes_by B ns) (new_host b (a ∷ []))
  pub links : (side : Side) (on : ℕ) → transit_of side on world ≡ link_state side on (as_notes ns)
