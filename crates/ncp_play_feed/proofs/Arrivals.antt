-- Messages that arrive, in order.
use Rattle.std.proofs.Common.{◌≡◌, ℕ, ◌+◌, ◌<◌, ◌≤◌, Bool, true, false, arith, List, [], ◌∷◌, ◌++◌, Option, Some, Result, Ok, Err, refl, sym, ap, ◌∙◌, subst}
use Rattle.std.proofs.lemmas.List.{append_assoc}
use Rattle.std.specs.Result.{IfOk}
use Rattle.ncp_transcript.specs.declared.input.Input.TheVariants as inputs
use Rattle.ncp_transcript.specs.declared.note.HostNote.{HostNote}
use Rattle.ncp_transcript.specs.Alone.{Alone, IsHostStep}
use Rattle.ncp_play_files.specs.declared.file.FileFault.{FileFault}
use Rattle.ncp_play_files.specs.declared.file.FileFault.TheVariants as file
use Rattle.ncp_play_files.specs.declared.file.Direction.{Direction}
use Rattle.ncp_play_files.specs.declared.file.Direction.TheVariants.{ToImp}
use Rattle.ncp_play_files.specs.File.{direction_of, next_record}
use Rattle.ncp_play_files.specs.Steps.{ReadsHeader, ReadsRecord}
use Rattle.ncp_play_files.proofs.Contents.{next_record-front, holds_some}
use Rattle.ncp_play_notes.specs.declared.fault.PlayFault.{PlayFault}
use Rattle.ncp_play_notes.specs.declared.fault.PlayFault.TheVariants.{BadLine, LineTooLong, BadHosts, Feed, ReadFailed, WriteFailed, OutOfMemory}
use Rattle.ncp_play_notes.specs.declared.heading.LinePrefix.{LinePrefix}
use Rattle.ncp_play_notes.specs.Playing.{Does, PrintsAs}
use Rattle.ncp_play_notes.specs.Faults.{play_write_failed}
use Rattle.ncp_play_stream.specs.Pieces.{bytes_and_writes, lost_pieces, Paid}
use Rattle.ncp_play_files.specs.Steps.{unpaid_out}
use Rattle.ncp_play_feed.specs.Steps.{IsOtherHeader, ReadsFeedHeader, HearsNext, HearsOn, Hears, HearsFirst, HearsFrom, unpaid_after_feeding}

-- ---- the header

-- no header was read
pub header_ends : (bytes window : List ℕ) (left : Option (List ℕ)) (fault : FileFault) → ReadsHeader bytes (Err fault) window left → ReadsFeedHeader bytes (Err fault) window left
header_ends bytes window left file.BadHeader h = (refl, subst (λ (o : Option Direction). IsOtherHeader o) (sym h.1) tt)
header_ends bytes window left file.Truncated h = let e : ⊥ = cc (h.0) in absurd e
header_ends bytes window left file.TooLong h = let e : ⊥ = cc (h.0) in absurd e
header_ends bytes window left file.SpareNotZero h = let e : ⊥ = cc (h.0) in absurd e
header_ends bytes window left file.BadDirection h = let e : ⊥ = cc (h.0) in absurd e
header_ends bytes window left file.Mixed h = let e : ⊥ = cc (h.0) in absurd e
header_ends bytes window left file.ReadFailed h = h
header_ends bytes window left file.WriteFailed h = h

-- the header of a file to an IMP
pub other_header : (bytes : List ℕ) → direction_of bytes ≡ Some ToImp → (file.BadHeader ≡ file.BadHeader) × IsOtherHeader (direction_of bytes)
other_header bytes h = (refl, subst (λ (o : Option Direction). IsOtherHeader o) (sym h) tt)

-- ---- one message

-- no record was read
pub next_ends : (bytes window : List ℕ) (message : List Bool) (left : Option (List ℕ)) (before now : Alone) (fault : FileFault) → ReadsRecord bytes (Err fault) message window left → now ≡ before
    → HearsNext bytes before (Err (Feed fault)) now window left
next_ends bytes window message left before now file.BadHeader h same = (h, same)
next_ends bytes window message left before now file.Truncated h same = (h, same)
next_ends bytes window message left before now file.TooLong h same = (h, same)
next_ends bytes window message left before now file.SpareNotZero h same = (h, same)
next_ends bytes window message left before now file.BadDirection h same = (h, same)
next_ends bytes window message left before now file.Mixed h same = (h, same)
next_ends bytes window message left before now file.ReadFailed h same = (h, same)
next_ends bytes window message left before now file.WriteFailed h same = absurd h

-- a record was read, and not everything was done with it
pub next_breaks : (bytes rest window : List ℕ) (message : List Bool) (left : Option (List ℕ)) (before now : Alone) (fault : PlayFault) → next_record bytes ≡ Ok (Some (message, rest))
    → Does (inputs.In message) before (Err fault) now → HearsNext bytes before (Err fault) now window left
next_breaks bytes rest window message left before now OutOfMemory h k = (message, rest, h, k)
next_breaks bytes rest window message left before now WriteFailed h k = (message, rest, h, k)
next_breaks bytes rest window message left before now ReadFailed h k = absurd k
next_breaks bytes rest window message left before now BadHosts h k = absurd k
next_breaks bytes rest window message left before now (BadLine line) h k = absurd k
next_breaks bytes rest window message left before now (LineTooLong line) h k = absurd k
next_breaks bytes rest window message left before now (Feed fault) h k = absurd k

-- ---- messages from here on

-- if there is no further message
pub from_end : (bytes window : List ℕ) (left : Option (List ℕ)) (before now : Alone) → HearsNext bytes before (Ok false) now window left → HearsFrom bytes before (Ok tt) now left
from_end bytes window left before now h = ([], h.0, h.1)

no_message : (bytes : List ℕ) (before now : Alone) (fault : FileFault) → next_record bytes ≡ Err fault → now ≡ before → Hears bytes (Some fault) before now
no_message bytes before now fault h same = ([], h, same)

pub from_err : (bytes window : List ℕ) (left : Option (List ℕ)) (before now : Alone) (fault : PlayFault) → HearsNext bytes before (Err fault) now window left → HearsFrom bytes before (Err fault) now left
from_err bytes window left before now (Feed file.BadHeader) h = no_message bytes before now _ h.0 h.1
from_err bytes window left before now (Feed file.Truncated) h = no_message bytes before now _ h.0 h.1
from_err bytes window left before now (Feed file.TooLong) h = no_message bytes before now _ h.0 h.1
from_err bytes window left before now (Feed file.SpareNotZero) h = no_message bytes before now _ h.0 h.1
from_err bytes window left before now (Feed file.BadDirection) h = no_message bytes before now _ h.0 h.1
from_err bytes window left before now (Feed file.Mixed) h = no_message bytes before now _ h.0 h.1
from_err bytes window left before now (Feed file.ReadFailed) h = let cut = h.0 in (window, cut.3.0, cut.0, sym cut.3.2, cut.3.1, cut.1, ([], cut.2, h.1))
from_err bytes window left before now (Feed file.WriteFailed) h = absurd (h.0)
from_err bytes window left before now OutOfMemory h = let all = holds_some bytes in ([], all.0, all.1, all.2, h.3)
from_err bytes window left before now WriteFailed h = let all = holds_some h.1 in (h.0 ∷ [], all.0, all.1, (h.1, h.2, all.2), (now, h.3, refl))
from_err bytes window left before now ReadFailed h = absurd h
from_err bytes window left before now BadHosts h = absurd h
from_err bytes window left before now (BadLine line) h = absurd h
from_err bytes window left before now (LineTooLong line) h = absurd h

pub hears_on : (bytes window : List ℕ) (left : Option (List ℕ)) (before now : Alone) (r : Result Bool PlayFault) → HearsNext bytes before r now window left → HearsOn bytes before r now window left
hears_on bytes window left before now (Ok more) h = h
hears_on bytes window left before now (Err fault) h = from_err bytes window left before now fault h

-- the out buffer was written before waiting for input, and then the lines of this message were rendered
pub paid_on : (full : Bool) (w0 w1 w2 : ℕ) (a b c : Option (List ℕ)) (r0 r1 : ℕ) (waits : Bool) (r : Result Bool PlayFault) → bytes_and_writes full w0 a ≤ bytes_and_writes full w1 b + unpaid_out (Ok tt) waits
    → bytes_and_writes full w1 b ≤ bytes_and_writes full w2 c + lost_pieces (play_write_failed r) → r1 ≤ r0 → IfOk r (λ more. more ≡ true → waits ≡ true → r1 < r0) → Paid full w0 a r0 w2 c r1 (unpaid_after_feeding r)
paid_on full w0 w1 w2 a b c r0 r1 true (Ok true) h k l waited = omega (arith, h, k, waited refl refl)
paid_on full w0 w1 w2 a b c r0 r1 false (Ok true) h k l waited = omega (arith, h, k, l)
paid_on full w0 w1 w2 a b c r0 r1 true (Ok false) h k l waited = omega (arith, h, k, l)
paid_on full w0 w1 w2 a b c r0 r1 false (Ok false) h k l waited = omega (arith, h, k, l)
paid_on full w0 w1 w2 a b c r0 r1 true (Err fault) h k l waited = omega (arith, h, k, l)
paid_on full w0 w1 w2 a b c r0 r1 false (Err fault) h k l waited = omega (arith, h, k, l)

-- a message before others
module _ (bytes rest : List ℕ) (message : List Bool) (before next : Alone) (h : next_record bytes ≡ Ok (Some (message, rest))) (step : IsHostStep (inputs.In message) before next) where
  more_hear : (now : Alone) (fault : Option FileFault) → Hears rest fault next now → Hears bytes fault before now
  more_hear now fault k = (message ∷ k.0, (rest, h, k.1), (next, step, k.2))

  more_first : (now : Alone) → HearsFirst rest next now → HearsFirst bytes before now
  more_first now k = (message ∷ k.0, k.1, k.2, (rest, h, k.3), (next, step, k.4))

  pub from_more : (left : Option (List ℕ)) (r : Result Unit PlayFault) (now : Alone) → HearsFrom rest next r now left → HearsFrom bytes before r now left
  from_more left (Ok done) now k = more_hear now _ k
  from_more left (Err (Feed file.BadHeader)) now k = more_hear now _ k
  from_more left (Err (Feed file.Truncated)) now k = more_hear now _ k
  from_more left (Err (Feed file.TooLong)) now k = more_hear now _ k
  from_more left (Err (Feed file.SpareNotZero)) now k = more_hear now _ k
  from_more left (Err (Feed file.BadDirection)) now k = more_hear now _ k
  from_more left (Err (Feed file.Mixed)) now k = more_hear now _ k
  from_more left (Err (Feed file.ReadFailed)) now k =
      let front = next_record-front bytes rest message h in
      let heard = k.6 in (
        front.0 ++ k.0,
        k.1,
        k.2,
        front.1 ∙ ap (λ xs. front.0 ++ xs) k.3 ∙ sym (append_assoc front.0 k.0 k.1),
        k.4,
        k.5,
        (message ∷ heard.0, (k.0, front.2 k.0, heard.1), (next, step, heard.2)),
      )
  from_more left (Err (Feed file.WriteFailed)) now k = absurd k
  from_more left (Err OutOfMemory) now k = more_first now k
  from_more left (Err WriteFailed) now k = more_first now k
  from_more left (Err ReadFailed) now k = absurd k
  from_more left (Err BadHosts) now k = absurd k
  from_more left (Err (BadLine line)) now k = absurd k
  from_more left (Err (LineTooLong line)) now k = absurd k

-- ---- results

-- the notes are rendered the same for any other type of result
pub printed_as : (X Y : Type 0) (was : List ℕ) (first : LinePrefix) (notes : List HostNote) (fault : PlayFault) (heading : LinePrefix) (page : List ℕ) (written : Option (List ℕ)) → PrintsAs {X = X} was first notes (Err fault) heading page written
    → PrintsAs {X = Y} was first notes (Err fault) heading page written
printed_as X Y was first notes OutOfMemory heading page written h = h
printed_as X Y was first notes WriteFailed heading page written h = h
printed_as X Y was first notes (Feed fault) heading page written h = h
printed_as X Y was first notes ReadFailed heading page written h = h
printed_as X Y was first notes BadHosts heading page written h = h
printed_as X Y was first notes (BadLine line) heading page written h = h
printed_as X Y was first notes (LineTooLong line) heading page written h = h
