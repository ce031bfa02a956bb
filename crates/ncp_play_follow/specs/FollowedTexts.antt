-- The output of `follow --bytes` for a message file of version 2: the text of one connection as bytes, by
-- its records before the first fault. The state of the follower before the file is a parameter: mostly it
-- is empty.
use Rattle.std.specs.Prelude.{◌≡◌, ◌*◌, ◌/◌, ℕ, Bool, true, false, List, [], ◌∷◌, ◌++◌, length, take, drop, Option, Some, None, is_some, Result, Ok, Err}
use Rattle.ncp_numbers.specs.Bytes.{bytes_of}
use Rattle.ncp_play_files.specs.declared.file.FileFault.{FileFault}
use Rattle.ncp_play_files.specs.declared.file.FileFault.TheVariants.{BadHeader}
use Rattle.ncp_play_files.specs.declared.version.Version.{Version}
use Rattle.ncp_play_files.specs.declared.version.Version.TheVariants.{One, Two}
use Rattle.ncp_play_files.specs.Results.{MatchFault}
use Rattle.ncp_play_files.specs.File.{version_of, HoldsBy, IsCut}
use Rattle.ncp_play_files.specs.Versions.{Recorded, next_in}
use Rattle.ncp_play_files.specs.Writing.{Wrote, WritesAll, WritesRead}
use Rattle.ncp_play_buffer.specs.Lines.{number_after}
use Rattle.ncp_follow.specs.declared.follower.Follower.{Follower}
use Rattle.ncp_follow.specs.Connections.{index_numbered, numbered, connection_text}
use Rattle.ncp_follow.specs.Followed.{silent}
use Rattle.ncp_play_files.specs.Passes.{PassRules, names_hosts}
use Rattle.ncp_play_follow.specs.declared.text.Texting.{Texting}
use Rattle.ncp_play_follow.specs.FollowedFiles.{after_seen}

-- after a record, with the text of the wanted connection emptied first
abbrev pub heard_alone : ℕ → Follower → ℕ → Recorded → Follower
heard_alone wanted follower number seen = after_seen (silent wanted follower) number seen

-- the bits that a record adds to that connection: its text then; nothing if there is no such connection
abbrev pub said_by : ℕ → Follower → ℕ → Recorded → List Bool
said_by wanted follower number seen = connection_text (numbered (heard_alone wanted follower number seen).tables.told (index_numbered wanted))

-- the bits that records from this number on add to it, joined
abbrev pub said_in : ℕ → Follower → ℕ → List Recorded → List Bool
said_in wanted follower number [] = []
said_in wanted follower number (seen ∷ more) = said_by wanted follower number seen ++ said_in wanted (heard_alone wanted follower number seen) (number_after number) more

-- the state after them, with the text of the connection emptied each time
abbrev pub known_after : ℕ → Follower → ℕ → List Recorded → Follower
known_after wanted follower number [] = silent wanted follower
known_after wanted follower number (seen ∷ more) = known_after wanted (heard_alone wanted follower number seen) (number_after number) more

-- whether there is a connection with that number then
abbrev pub is_there : ℕ → Follower → ℕ → List Recorded → Bool
is_there wanted follower number records = is_some (numbered (known_after wanted follower number records).tables.told (index_numbered wanted))

-- and in a whole file of version 2
abbrev pub IsThere : ℕ → Follower → List ℕ → Bool → Type 0
IsThere wanted follower bytes there = (records : List Recorded) × HoldsBy (next_in Two) (drop 4 bytes) records None × (there ≡ is_there wanted follower 1 records)

-- the bits of whole bytes among these, and those after them
abbrev pub whole_bits : List Bool → List Bool
whole_bits bits = take (8 * (length bits / 8)) bits

abbrev pub bits_left_over : List Bool → List Bool
bits_left_over bits = drop (8 * (length bits / 8)) bits

-- the state of `follow --bytes`: the wanted connection, what was followed, with the text of the
-- connection emptied, and the bits of its text that are no whole byte yet
pub record TextState : Type 0 where
  pub wanted : ℕ
  pub follower : Follower
  pub spare : List Bool

-- the bits of the text that are to be written, with those that a record adds
abbrev pub bits_with : TextState → ℕ → Recorded → List Bool
bits_with state number seen = state.spare ++ connection_text (numbered (after_seen state.follower number seen).tables.told (index_numbered state.wanted))

-- `follow --bytes` as a pass: the whole bytes of the text of each record, and at the end the last byte
abbrev pub text_pass : PassRules Texting
text_pass = record {
  State = TextState;
  state = λ pass. record { wanted = pass.wanted; follower = pass.follower.now; spare = pass.spare };
  reads = names_hosts;
  lines = λ number state seen. bytes_of (whole_bits (bits_with state number seen));
  after = λ number state seen. record { wanted = state.wanted; follower = silent state.wanted (after_seen state.follower number seen); spare = bits_left_over (bits_with state number seen) };
  closing = λ state _. bytes_of state.spare;
  good = λ state. is_some (numbered state.follower.tables.told (index_numbered state.wanted));
  closes = λ _. true;
  is_prompt = false;
}

-- by the version of a file: the text of the connection in its records before its first fault, and that
-- fault, if any; a file of version 1 names no host, so it is `BadHeader`
abbrev pub SaidIn : ℕ → Follower → List ℕ → List Bool → Option FileFault → Option Version → Type 0
SaidIn wanted follower bytes bits fault None = (bits ≡ []) × (fault ≡ Some BadHeader)
SaidIn wanted follower bytes bits fault (Some (One direction)) = (bits ≡ []) × (fault ≡ Some BadHeader)
SaidIn wanted follower bytes bits fault (Some Two) = (records : List Recorded) × HoldsBy (next_in Two) (drop 4 bytes) records fault × (bits ≡ said_in wanted follower 1 records)

abbrev pub SaidAs : ℕ → Follower → List ℕ → List Bool → Option FileFault → Type 0
SaidAs wanted follower bytes bits fault = SaidIn wanted follower bytes bits fault (version_of bytes)

-- its bytes; the spare bits of the last one are zero
abbrev pub TextAs : ℕ → Follower → List ℕ → List ℕ → Option FileFault → Type 0
TextAs wanted follower bytes text fault = (bits : List Bool) × SaidAs wanted follower bytes bits fault × (text ≡ bytes_of bits)

-- the text of the records complete in the bytes before a failed read
abbrev pub TextCut : ℕ → Follower → List ℕ → List ℕ → Type 0
TextCut wanted follower given text = (fault : Option FileFault) × IsCut given fault × TextAs wanted follower given text fault

-- a prefix of the text was written: of that for all bytes, or for the bytes before a failed read
abbrev pub TextPrefix : ℕ → Follower → List ℕ → List ℕ → Option (List ℕ) → Type 0
TextPrefix wanted follower bytes was written =
    (given : List ℕ) × (rest : List ℕ) × (text : List ℕ) × (more : List ℕ) × (fault : Option FileFault)
    × (bytes ≡ given ++ rest) × TextAs wanted follower given (text ++ more) fault × Wrote was text written

-- the output for a file, by the result: whether there is such a connection, or a fault
abbrev pub FollowsText : ℕ → Follower → List ℕ → List ℕ → Option (List ℕ) → Option (List ℕ) → Result Bool FileFault → Type 0
FollowsText wanted follower bytes was left written (Ok there) = WritesAll (TextAs wanted follower) bytes was written None × IsThere wanted follower bytes there
FollowsText wanted follower bytes was left written (Err fault) =
    MatchFault (λ f. WritesAll (TextAs wanted follower) bytes was written (Some f)) (WritesRead (TextCut wanted follower) bytes was left written)
    (TextPrefix wanted follower bytes was written) fault
