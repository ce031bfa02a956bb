-- A file of version 1 that becomes one of version 2, and then one of version 1 again.
use Rattle.std.proofs.Common.{◌≡◌, ℕ, suc, ◌≤◌, Bool, true, List, [], ◌∷◌, length, Option, None, refl, ap, ◌∙◌, arith, subst, All}
use Rattle.ncp_play_files.specs.declared.file.Direction.{Direction}
use Rattle.ncp_play_files.specs.declared.file.Direction.TheVariants.{ToImp, FromImp}
use Rattle.ncp_play_files.specs.declared.file.FileFault.{FileFault}
use Rattle.ncp_play_files.specs.declared.version.Version.TheVariants.{One, Two}
use Rattle.ncp_play_files.specs.File.{HoldsBy}
use Rattle.ncp_play_files.specs.Versions.{capture_point_without_host, placed}
use Rattle.ncp_play_files.specs.Converted.{next_at, next_of_capture_point, bytes_of_all_at, file_to, converted, ConvertedAs, same_capture_point}
use Rattle.ncp_play_files.proofs.Again.{plain_written, placed_written, ends_nowhere}
use Rattle.ncp_play_files.proofs.Contents.{by_once}
use Rattle.ncp_play_files.proofs.Turned.{at_accepted, ends_at}

abbrev pub Fits : List Bool → Type 0
Fits message = length message ≤ 8192

same_placed : (direction : Direction) (host : ℕ) → same_capture_point (placed direction host) (placed direction host) ≡ true
same_placed ToImp host = grind arith
same_placed FromImp host = grind arith

-- messages that were written at one host are found there again
pub placed_again : (direction : Direction) (host : ℕ) (messages : List (List Bool)) → All Fits messages → HoldsBy (next_at Two (placed direction host)) (bytes_of_all_at (placed direction host) messages) messages None
placed_again direction host [] h = ends_at (placed direction host) None _ (ends_nowhere Two)
placed_again direction host (message ∷ messages) h =
    let rest = bytes_of_all_at (placed direction host) messages in (
      rest,
      ap (next_of_capture_point (placed direction host)) (placed_written direction host message rest (h 0 message (omega arith)))
          ∙ at_accepted (placed direction host) (record { capture_point = placed direction host; message = message }) rest (same_placed direction host),
      placed_again direction host messages (λ k d less. h (suc k) d (omega arith)),
    )

same_plain : (direction : Direction) → same_capture_point (capture_point_without_host direction) (capture_point_without_host direction) ≡ true
same_plain ToImp = refl
same_plain FromImp = refl

plain_again : (direction : Direction) (messages : List (List Bool)) → All Fits messages → HoldsBy (next_at (One direction) (capture_point_without_host direction)) (bytes_of_all_at (capture_point_without_host direction) messages) messages None
plain_again direction [] h = ends_at (capture_point_without_host direction) None _ (ends_nowhere (One direction))
plain_again direction (message ∷ messages) h =
    let rest = bytes_of_all_at (capture_point_without_host direction) messages in (
      rest,
      ap (next_of_capture_point (capture_point_without_host direction)) (plain_written direction message rest (h 0 message (omega arith)))
          ∙ at_accepted (capture_point_without_host direction) (record { capture_point = capture_point_without_host direction; message = message }) rest (same_plain direction),
      plain_again direction messages (λ k d less. h (suc k) d (omega arith)),
    )

pub files_come_back : (direction : Direction) (host : ℕ) (message : List Bool) (messages : List (List Bool)) (there back : List ℕ) (fault other : Option FileFault) → All (λ m. length m ≤ 8192) (message ∷ messages)
    → ConvertedAs host (file_to (One direction) (capture_point_without_host direction) (message ∷ messages) None) there fault → ConvertedAs host there back other
    → (fault ≡ None) × (other ≡ None) × (back ≡ file_to (One direction) (capture_point_without_host direction) (message ∷ messages) None)
files_come_back ToImp host message messages there back fault other fit h k =
    let all = message ∷ messages in
    let one = by_once (next_at (One ToImp) (capture_point_without_host ToImp)) (bytes_of_all_at (capture_point_without_host ToImp) all) h.0 all fault None h.1 (plain_again ToImp all fit) in
    let counterpart : there ≡ file_to Two (placed ToImp host) all None = h.2 ∙ ap (λ xs. converted (One ToImp) ToImp host xs fault) one.0 in
    let again = subst (λ xs. ConvertedAs host xs back other) counterpart k in
    let two = by_once (next_at Two (placed ToImp host)) (bytes_of_all_at (placed ToImp host) all) again.0 all other None again.1 (placed_again ToImp host all fit) in
    (one.1, two.1, again.2 ∙ ap (λ xs. converted Two ToImp host xs other) two.0)
files_come_back FromImp host message messages there back fault other fit h k =
    let all = message ∷ messages in
    let one = by_once (next_at (One FromImp) (capture_point_without_host FromImp)) (bytes_of_all_at (capture_point_without_host FromImp) all) h.0 all fault None h.1 (plain_again FromImp all fit) in
    let counterpart : there ≡ file_to Two (placed FromImp host) all None = h.2 ∙ ap (λ xs. converted (One FromImp) FromImp host xs fault) one.0 in
    let again = subst (λ xs. ConvertedAs host xs back other) counterpart k in
    let two = by_once (next_at Two (placed FromImp host)) (bytes_of_all_at (placed FromImp host) all) again.0 all other None again.1 (placed_again FromImp host all fit) in
    (one.1, two.1, again.2 ∙ ap (λ xs. converted Two FromImp host xs other) two.0)
