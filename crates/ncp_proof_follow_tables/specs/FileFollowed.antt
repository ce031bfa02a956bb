-- A file is followed, record by record.
use Rattle.std.specs.Prelude.{◌≡◌, ◌≢◌, ℕ, ◌+◌, ◌-◌, ◌^◌, min, Bool, true, false, List, [], ◌∷◌}
use Rattle.ncp_model.specs.declared.pair.Pair.{Pair}
use Rattle.ncp_interface.specs.declared.imp_direction.ImpDirection.{ImpDirection}
use Rattle.ncp_interface.specs.declared.imp_direction.ImpDirection.TheVariants.{ToImp, FromImp}
use Rattle.ncp_follow.specs.declared.follower.Follower.{Follower}
use Rattle.ncp_follow.specs.Followed.{follower_after_record, new_follower}
use Rattle.ncp_proof_follow_tables.specs.TextReported.{text_told}

abbrev pub is_to_imp : ImpDirection → Bool
is_to_imp ToImp = true
is_to_imp FromImp = false

-- the records of a file are numbered from this number; a number saturates
abbrev pub followed_from : ℕ → List (ℕ × ImpDirection × List Bool) → Follower → Follower
followed_from number [] follower = follower
followed_from number (one ∷ more) follower =
    followed_from (min (number + 1) (2 ^ 32 - 1)) more (follower_after_record number (is_to_imp one.1) one.0 one.2 follower)

-- After any file, a record at the interface of a host changes no text reported at another interface.
abbrev pub ReportsAtItsOwnInterface : Type 0
ReportsAtItsOwnInterface =
    (part : Bool) (file : List (ℕ × ImpDirection × List Bool)) (number : ℕ) (sent : Bool) (at other peer : ℕ) (bits : List Bool) (pair : Pair)
    → other ≢ at
    → let follower : Follower = followed_from 1 file (new_follower part) in
    text_told other peer pair (follower_after_record number sent at bits follower).tables ≡ text_told other peer pair follower.tables
