-- The facts about the names and indices of connections hold through all records of a file, and each whole
-- connection was opened. So a further record changes only the reports at its own interface.
use Rattle.std.proofs.Common.{◌≡◌, ◌≢◌, ◌≤◌, ℕ, ◌+◌, ◌-◌, ◌^◌, ◌==◌, Bool, true, false, List, [], ◌∷◌, length, min, refl, sym, ◌∙◌, arith}
use Rattle.std.specs.Prelude.{nat_lt}
use Rattle.std.proofs.lemmas.Bool.{eqb-true}
use Rattle.std.proofs.lemmas.Bool.Decides.{nat_tests}
use Rattle.ncp_interface.specs.declared.imp_direction.ImpDirection.{ImpDirection}
use Rattle.ncp_follow.specs.declared.follower.Follower.{Follower}
use Rattle.ncp_follow.specs.declared.tables.Tables.{Tables}
use Rattle.ncp_follow.specs.declared.opened.TheConstants.{MAX_OPENED}
use Rattle.ncp_follow.specs.Tables.{has_room_opened}
use Rattle.ncp_follow.specs.Followed.{follower_after_record, new_follower}
use Rattle.ncp_proof_follow_tables.specs.FileFollowed.{is_to_imp, followed_from, ReportsAtItsOwnInterface}
use Rattle.ncp_proof_follow_tables.proofs.OpensSo.{AllOpened}
use Rattle.ncp_proof_follow_tables.proofs.Placed.{Placed, placed_begins, text_is}
use Rattle.ncp_proof_follow_tables.proofs.Elsewhere.{Away, record_away}

pub record FileKeeps (t now : Tables) : Type 0 where
  pub placed : Placed now
  pub opened : has_room_opened now.told ≡ true → AllOpened t.tracks → AllOpened now.tracks
  pub more : length t.told ≤ length now.told

pub fewer_opened : (n m : ℕ) → n ≤ m → nat_lt m MAX_OPENED ≡ true → nat_lt n MAX_OPENED ≡ true
fewer_opened n m l e = grind (arith, nat_tests)

pub file_keeps : (number : ℕ) (file : List (ℕ × ImpDirection × List Bool)) (f : Follower) → Placed f.tables → FileKeeps f.tables (followed_from number file f).tables
file_keeps number [] f k = record { placed = k; opened = λ h all. all; more = omega arith }
file_keeps number (x ∷ xs) f k =
    let mid : Follower = follower_after_record number (is_to_imp x.1) x.0 x.2 f in
    let one : Away x.0 f.tables mid.tables = record_away number (is_to_imp x.1) x.0 x.2 f k in
    let rest : FileKeeps mid.tables (followed_from (min (number + 1) (2 ^ 32 - 1)) xs mid).tables = file_keeps (min (number + 1) (2 ^ 32 - 1)) xs mid one.placed in
    record {
      placed = rest.placed;
      opened = λ h all. rest.opened h (one.opened (fewer_opened (length mid.tables.told) (length (followed_from (min (number + 1) (2 ^ 32 - 1)) xs mid).tables.told) rest.more h) all);
      more = let a = one.more in let b = rest.more in omega arith;
    }

other_is : (other at : ℕ) → other ≢ at → (other == at) ≡ false
other_is other at apart = go (other == at) refl
  where
    go : (b : Bool) → (other == at) ≡ b → b ≡ false
    go true e = absurd (apart (eqb-true other at e))
    go false e = refl

pub reports_at_its_own : ReportsAtItsOwnInterface
reports_at_its_own part file number sent at other peer bits pair apart =
    let follower : Follower = followed_from 1 file (new_follower part) in
    let after : Follower = follower_after_record number sent at bits follower in
    let away : Away at follower.tables after.tables = record_away number sent at bits follower (file_keeps 1 file (new_follower part) placed_begins).placed in
    text_is other peer pair after.tables ∙ away.texts (record { at = other; peer = peer; pair = pair }) (other_is other at apart) ∙ sym (text_is other peer pair follower.tables)
