-- The output of `follow` for a message file of version 2: the lines of its connections, by its records
-- before the first fault. The state of the follower before the file is a parameter: mostly it is empty.
use Rattle.std.specs.Prelude.{◌≡◌, ℕ, Bool, true, false, List, [], ◌∷◌, ◌++◌, drop, Option, Some, None, Result, Ok, Err}
use Rattle.ncp_play_files.specs.declared.file.FileFault.{FileFault}
use Rattle.ncp_play_files.specs.declared.file.FileFault.TheVariants.{BadHeader}
use Rattle.ncp_play_files.specs.declared.file.Direction.{Direction}
use Rattle.ncp_play_files.specs.declared.file.Direction.TheVariants.{ToImp, FromImp}
use Rattle.ncp_play_files.specs.declared.version.Version.{Version}
use Rattle.ncp_play_files.specs.declared.version.Version.TheVariants.{One, Two}
use Rattle.ncp_play_files.specs.Results.{MatchFault}
use Rattle.ncp_play_files.specs.File.{version_of, HoldsBy, IsCut}
use Rattle.ncp_play_files.specs.Versions.{Recorded, next_in}
use Rattle.ncp_play_files.specs.Writing.{Wrote, WritesAll, WritesRead}
use Rattle.ncp_play_buffer.specs.Lines.{number_after}
use Rattle.ncp_follow.specs.declared.follower.Follower.{Follower}
use Rattle.ncp_follow.specs.Followed.{follower_after_record}
use Rattle.ncp_play_files.specs.Passes.{PassRules, names_hosts}
use Rattle.ncp_play_follow.specs.declared.following.Following.{Following}
use Rattle.ncp_play_follow.specs.ConnectionLines.{follow_lines}

-- the host at whose interface a record is; each record of version 2 names one
abbrev pub host_of : Option ℕ → ℕ
host_of None = 0
host_of (Some host) = host

-- the host sent it
abbrev pub is_sent : Direction → Bool
is_sent ToImp = true
is_sent FromImp = false

-- after a record with this number, and after records from this number on
abbrev pub after_seen : Follower → ℕ → Recorded → Follower
after_seen follower number seen = follower_after_record number (is_sent seen.capture_point.direction) (host_of seen.capture_point.at) seen.message follower

abbrev pub after_all : Follower → ℕ → List Recorded → Follower
after_all follower number [] = follower
after_all follower number (seen ∷ more) = after_all (after_seen follower number seen) (number_after number) more

-- the state of `follow`: whether it prints letters, and what it followed
pub record FollowState : Type 0 where
  pub letters : Bool
  pub follower : Follower

-- `follow` as a pass: the lines of all connections at the end, in files of version 2
abbrev pub follow_pass : PassRules Following
follow_pass = record {
  State = FollowState;
  state = λ pass. record { letters = pass.letters; follower = pass.follower.now };
  reads = names_hosts;
  lines = λ _ _ _. [];
  after = λ number state seen. record state { follower = after_seen state.follower number seen };
  closing = λ state _. follow_lines state.letters state.follower;
  good = λ _. true;
  closes = λ _. true;
  is_prompt = false;
}

-- by the version of a file: the state after its records before its first fault, and that fault, if any; a
-- file of version 1 names no host, so it is `BadHeader`
abbrev pub ShowsIn : Follower → List ℕ → Option FileFault → Follower → Option Version → Type 0
ShowsIn follower bytes fault after None = (after ≡ follower) × (fault ≡ Some BadHeader)
ShowsIn follower bytes fault after (Some (One direction)) = (after ≡ follower) × (fault ≡ Some BadHeader)
ShowsIn follower bytes fault after (Some Two) = (records : List Recorded) × HoldsBy (next_in Two) (drop 4 bytes) records fault × (after ≡ after_all follower 1 records)

abbrev pub ShowsFile : Follower → List ℕ → Option FileFault → Follower → Type 0
ShowsFile follower bytes fault after = ShowsIn follower bytes fault after (version_of bytes)

-- the lines of a file, with letters or without
abbrev pub FollowedAs : Bool → Follower → List ℕ → List ℕ → Option FileFault → Type 0
FollowedAs letters follower bytes text fault = (after : Follower) × ShowsFile follower bytes fault after × (text ≡ follow_lines letters after)

-- the lines of the records complete in the bytes before a failed read
abbrev pub FollowedCut : Bool → Follower → List ℕ → List ℕ → Type 0
FollowedCut letters follower given text = (fault : Option FileFault) × IsCut given fault × FollowedAs letters follower given text fault

-- a prefix of the lines was written: of those for all bytes, or for the bytes before a failed read
abbrev pub FollowsPrefix : Bool → Follower → List ℕ → List ℕ → Option (List ℕ) → Type 0
FollowsPrefix letters follower bytes was written =
    (given : List ℕ) × (rest : List ℕ) × (text : List ℕ) × (more : List ℕ) × (fault : Option FileFault)
    × (bytes ≡ given ++ rest) × FollowedAs letters follower given (text ++ more) fault × Wrote was text written

-- the output for a file, by the result
abbrev pub Follows : Bool → Follower → List ℕ → List ℕ → Option (List ℕ) → Option (List ℕ) → Result Unit FileFault → Type 0
Follows letters follower bytes was left written (Ok done) = WritesAll (FollowedAs letters follower) bytes was written None
Follows letters follower bytes was left written (Err fault) =
    MatchFault (λ f. WritesAll (FollowedAs letters follower) bytes was written (Some f)) (WritesRead (FollowedCut letters follower) bytes was left written)
    (FollowsPrefix letters follower bytes was written) fault
