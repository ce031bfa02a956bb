-- What was written of records is read again.
use Rattle.std.proofs.Common.{◌≡◌, ℕ, suc, ◌≤◌, Bool, List, [], ◌∷◌, ◌++◌, length, Option, Some, None, Ok, Err, refl, sym, ap, arith, subst, All}
use Rattle.std.specs.List.{flat_map}
use Rattle.ncp_play_files.specs.declared.file.Direction.{Direction}
use Rattle.ncp_play_files.specs.declared.file.Direction.TheVariants.{ToImp, FromImp}
use Rattle.ncp_play_files.specs.declared.file.FileFault.{FileFault}
use Rattle.ncp_play_files.specs.declared.file.FileFault.TheVariants.{Truncated}
use Rattle.ncp_play_files.specs.declared.version.Version.{Version}
use Rattle.ncp_play_files.specs.declared.version.Version.TheVariants.{One, Two}
use Rattle.ncp_play_files.specs.File.{version_of, HoldsBy}
use Rattle.ncp_play_files.specs.Versions.{Recorded, capture_point_without_host, placed, recorded, next_in, IsOf, bytes_with_capture_point, bytes_of_record, file_bytes}
use Rattle.ncp_play_files.specs.Checked.{FileHolds}
use Rattle.ncp_play_files.proofs.Contents.{by_once, next_record-written}

pub plain_written : (direction : Direction) (message : List Bool) (rest : List ℕ) → length message ≤ 8192
    → next_in (One direction) (bytes_with_capture_point (capture_point_without_host direction) message ++ rest) ≡ Ok (Some (record { capture_point = capture_point_without_host direction; message = message }, rest))
plain_written direction message rest h = ap (recorded (capture_point_without_host direction) (Ok None)) (next_record-written message rest h)

pub placed_written : (direction : Direction) (host : ℕ) (message : List Bool) (rest : List ℕ) → length message ≤ 8192
    → next_in Two (bytes_with_capture_point (placed direction host) message ++ rest) ≡ Ok (Some (record { capture_point = placed direction host; message = message }, rest))
placed_written ToImp host message rest h = ap (recorded (placed ToImp host) (Err Truncated)) (next_record-written message rest h)
placed_written FromImp host message rest h = ap (recorded (placed FromImp host) (Err Truncated)) (next_record-written message rest h)

-- a record that was written is read, whatever stands behind it
pub written_again : (version : Version) (written : Recorded) (rest : List ℕ) → IsOf version written → next_in version (bytes_of_record written ++ rest) ≡ Ok (Some (written, rest))
written_again (One direction) written rest h =
    subst (λ p. next_in (One direction) (bytes_with_capture_point p written.message ++ rest) ≡ Ok (Some (record { capture_point = p; message = written.message }, rest))) (sym h.0) (plain_written direction written.message rest h.1)
written_again Two written rest h =
    subst (λ p. next_in Two (bytes_with_capture_point p written.message ++ rest) ≡ Ok (Some (record { capture_point = p; message = written.message }, rest))) (sym h.1) (placed_written written.capture_point.direction h.0 written.message rest h.2)

pub ends_nowhere : (version : Version) → next_in version [] ≡ Ok None
ends_nowhere (One direction) = refl
ends_nowhere Two = refl

pub holds_written : (version : Version) (records : List Recorded) → All (IsOf version) records → HoldsBy (next_in version) (flat_map bytes_of_record records) records None
holds_written version [] h = ends_nowhere version
holds_written version (written ∷ records) h =
    (flat_map bytes_of_record records, written_again version written (flat_map bytes_of_record records) (h 0 written (omega arith)), holds_written version records (λ k d less. h (suc k) d (omega arith)))

pub version_of-written : (version : Version) (records : List Recorded) → version_of (file_bytes version records) ≡ Some version
version_of-written (One ToImp) records = refl
version_of-written (One FromImp) records = refl
version_of-written Two records = refl

-- a file that was written holds its records
pub file_holds_written : (version : Version) (records : List Recorded) → All (IsOf version) records → FileHolds (file_bytes version records) records None
file_holds_written (One ToImp) records h = holds_written (One ToImp) records h
file_holds_written (One FromImp) records h = holds_written (One FromImp) records h
file_holds_written Two records h = holds_written Two records h

-- and nothing else
pub file_holds_only : (version : Version) (records others : List Recorded) (fault : Option FileFault) → All (IsOf version) records → FileHolds (file_bytes version records) others fault → (others ≡ records) × (fault ≡ None)
file_holds_only (One ToImp) records others fault h k = by_once (next_in (One ToImp)) (flat_map bytes_of_record records) others records fault None k (holds_written (One ToImp) records h)
file_holds_only (One FromImp) records others fault h k = by_once (next_in (One FromImp)) (flat_map bytes_of_record records) others records fault None k (holds_written (One FromImp) records h)
file_holds_only Two records others fault h k = by_once (next_in Two) (flat_map bytes_of_record records) others records fault None k (holds_written Two records h)
