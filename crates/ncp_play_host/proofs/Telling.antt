-- The output, by a result that is passed on.
use Rattle.std.proofs.Common.{◌≡◌, ℕ, List, Option, None, Some, Result, Err, sym, refl, subst}
use Rattle.ncp_transcript.specs.declared.note.HostNote.{HostNote}
use Rattle.ncp_play_notes.specs.declared.fault.PlayFault.{PlayFault}
use Rattle.ncp_play_notes.specs.declared.fault.PlayFault.TheVariants.{BadLine, LineTooLong, BadHosts, Feed, ReadFailed, WriteFailed, OutOfMemory}
use Rattle.ncp_play_notes.specs.declared.heading.LinePrefix.{LinePrefix}
use Rattle.ncp_play_notes.specs.Playing.{PrintsAs}
use Rattle.ncp_play_host.specs.declared.lines.LinesEnd.{LinesEnd}

pub prints_passed : (X Y : Type 0) (was : List ℕ) (first : LinePrefix) (notes : List HostNote) (fault : PlayFault) (heading : LinePrefix) (page : List ℕ) (written : Option (List ℕ))
    → PrintsAs {X = X} was first notes (Err fault) heading page written → PrintsAs {X = Y} was first notes (Err fault) heading page written
prints_passed X Y was first notes (BadLine number) heading page written tells = tells
prints_passed X Y was first notes (LineTooLong number) heading page written tells = tells
prints_passed X Y was first notes BadHosts heading page written tells = tells
prints_passed X Y was first notes (Feed fault) heading page written tells = tells
prints_passed X Y was first notes ReadFailed heading page written tells = tells
prints_passed X Y was first notes OutOfMemory heading page written tells = tells
prints_passed X Y was first notes WriteFailed heading page written tells = tells

-- a fault that is returned in place of another
pub prints_end : (X Y : Type 0) (was : List ℕ) (first : LinePrefix) (notes : List HostNote) (r : Result Y PlayFault) (fault : PlayFault) (heading : LinePrefix) (page : List ℕ) (written : Option (List ℕ)) → r ≡ Err fault
    → PrintsAs {X = X} was first notes (Err fault) heading page written → PrintsAs was first notes r heading page written
prints_end X Y was first notes r fault heading page written e tells =
    subst (λ (r : Result Y PlayFault). PrintsAs was first notes r heading page written) (sym e) (prints_passed X Y was first notes fault heading page written tells)

pub none_is : (end : Option LinesEnd) → ((e : LinesEnd) → end ≡ Some e → ⊥) → end ≡ None
none_is None other = refl
none_is (Some end) other = absurd (other end refl)
