-- Converting messages, one after the other.
use Rattle.std.proofs.Common.{◌≡◌, ℕ, ◌<◌, ◌≤◌, Bool, true, false, cond, List, [], ◌∷◌, ◌++◌, length, Option, Some, None, Result, Ok, Err, refl, sym, ap, ◌∙◌, arith, slice_index_or}
use Rattle.std.proofs.lemmas.List.{append_assoc}
use Rattle.ncp_play_files.specs.declared.file.Direction.TheVariants.{ToImp}
use Rattle.ncp_play_files.specs.declared.file.FileFault.{FileFault}
use Rattle.ncp_play_files.specs.declared.file.FileFault.TheVariants.{BadHeader, Truncated, TooLong, SpareNotZero, ReadFailed, WriteFailed, BadDirection, Mixed}
use Rattle.ncp_play_files.specs.declared.version.Version.{Version}
use Rattle.ncp_play_files.specs.declared.version.Version.TheVariants.{Two}
use Rattle.ncp_play_files.specs.declared.version.CapturePoint.{CapturePoint}
use Rattle.ncp_play_files.specs.File.{Next, ending}
use Rattle.ncp_play_files.specs.Versions.{Recorded, NextRecorded, next_in, header_of, bytes_with_capture_point, direction_by}
use Rattle.ncp_play_buffer.specs.Lines.{number_after}
use Rattle.ncp_play_files.specs.Lines.{lines_printed_from}
use Rattle.ncp_play_files.specs.Converted.{or_to_imp, direction_after, same_capture_point, next_of_capture_point, next_at, bytes_of_all_at}
use Rattle.ncp_play_files.specs.Steps.{Reader, Stops, RendersLines, RendersFrom}
use Rattle.ncp_play_files.specs.Turning.{message_printed, RendersMessages, RendersTurned}
use Rattle.ncp_play_stream.specs.Streams.{RemainingInput, SaidSoFar}
use Rattle.ncp_play_files.proofs.Contents.{IsFront, by_some}
use Rattle.ncp_play_files.proofs.Placing.{in_front}

-- ---- one message

accepted : (capture_point : CapturePoint) (found : Recorded) (rest behind : List ℕ) (message : List Bool) (b : Bool)
    → ◌≡◌ {A = Result Next FileFault} (cond b (Ok (Some (found.message, rest))) (Err Mixed)) (Ok (Some (message, behind))) → (b ≡ true) × (found.message ≡ message) × (rest ≡ behind)
accepted capture_point found rest behind message true h =
    let pair : ◌≡◌ {A = List Bool × List ℕ} (found.message, rest) (message, behind) = cc in
    (refl, ap (λ p. p.0) pair, ap (λ p. p.1) pair)
accepted capture_point found rest behind message false h = let e : ⊥ = cc in absurd e

at_some : (capture_point : CapturePoint) (r : Result NextRecorded FileFault) (message : List Bool) (rest : List ℕ) → next_of_capture_point capture_point r ≡ Ok (Some (message, rest))
    → (found : Recorded) × (r ≡ Ok (Some (found, rest))) × (same_capture_point found.capture_point capture_point ≡ true) × (found.message ≡ message)
at_some capture_point (Ok None) message rest h = let e : ⊥ = cc in absurd e
at_some capture_point (Ok (Some (found, behind))) message rest h =
    let a = accepted capture_point found behind rest message (same_capture_point found.capture_point capture_point) h in
    (found, ap (λ xs. Ok (Some (found, xs))) a.2, a.0, a.1)
at_some capture_point (Err fault) message rest h = let e : ⊥ = cc in absurd e

pub at_accepted : (capture_point : CapturePoint) (found : Recorded) (rest : List ℕ) → same_capture_point found.capture_point capture_point ≡ true → next_of_capture_point capture_point (Ok (Some (found, rest))) ≡ Ok (Some (found.message, rest))
at_accepted capture_point found rest h = ap (λ b. cond b (Ok (Some (found.message, rest))) (Err Mixed)) h

pub at_refused : (capture_point : CapturePoint) (found : Recorded) (rest : List ℕ) → same_capture_point found.capture_point capture_point ≡ false → next_of_capture_point capture_point (Ok (Some (found, rest))) ≡ Err Mixed
at_refused capture_point found rest h = ap (λ b. cond b (Ok (Some (found.message, rest))) (Err Mixed)) h

-- a message that is taken is at the front, whatever follows
pub at_front : (version : Version) (capture_point : CapturePoint) → IsFront (next_at version capture_point)
at_front version capture_point bytes rest message h =
    let one = at_some capture_point (next_in version bytes) message rest h in
    let front = in_front version bytes rest one.0 one.1 in
    (front.0, front.1, λ tail. ap (next_of_capture_point capture_point) (front.2 tail) ∙ at_accepted capture_point one.0 tail one.2 ∙ ap (λ m. Ok (Some (m, tail))) one.3, front.3)

pub ends_at : (capture_point : CapturePoint) (fault : Option FileFault) (r : Result NextRecorded FileFault) → r ≡ ending fault → next_of_capture_point capture_point r ≡ ending fault
ends_at capture_point None r h = ap (next_of_capture_point capture_point) h
ends_at capture_point (Some fault) r h = ap (next_of_capture_point capture_point) h

pub at_stops : (version : Version) (capture_point : CapturePoint) (bytes : List ℕ) (left : Option (List ℕ)) (fault : FileFault) → Stops (next_in version) bytes left fault → Stops (next_at version capture_point) bytes left fault
at_stops version capture_point bytes left BadHeader h = ap (next_of_capture_point capture_point) h
at_stops version capture_point bytes left Truncated h = ap (next_of_capture_point capture_point) h
at_stops version capture_point bytes left TooLong h = ap (next_of_capture_point capture_point) h
at_stops version capture_point bytes left SpareNotZero h = ap (next_of_capture_point capture_point) h
at_stops version capture_point bytes left BadDirection h = ap (next_of_capture_point capture_point) h
at_stops version capture_point bytes left Mixed h = ap (next_of_capture_point capture_point) h
at_stops version capture_point bytes left ReadFailed h = (h.0, h.1, h.2, h.3, h.4, h.5, ends_at capture_point h.2 (next_in version h.0) h.6)
at_stops version capture_point bytes left WriteFailed h = absurd h

-- ---- the direction in a window

pub direction_none : (window : List ℕ) → length window < 1 → ToImp ≡ direction_after Two window
direction_none [] h = refl
direction_none (byte ∷ window) h = absurd (omega arith)

pub direction_first : (window rest : List ℕ) → 1 ≤ length window → or_to_imp (direction_by (slice_index_or window 0 0)) ≡ direction_after Two (window ++ rest)
direction_first [] rest h = absurd (omega arith)
direction_first (byte ∷ window) rest h = refl

pub none_there : (window bytes : List ℕ) (left : Option (List ℕ)) → length window < 1 → RemainingInput window left bytes → left ≡ Some bytes
none_there [] bytes left h a = a.1 ∙ ap Some a.2
none_there (byte ∷ window) bytes left h a = absurd (omega arith)

-- ---- all messages

flat_printed : (capture_point : CapturePoint) (number : ℕ) (messages : List (List Bool)) → lines_printed_from (message_printed capture_point) number messages ≡ bytes_of_all_at capture_point messages
flat_printed capture_point number [] = refl
flat_printed capture_point number (message ∷ messages) = ap (λ xs. bytes_with_capture_point capture_point message ++ xs) (flat_printed capture_point (number_after number) messages)

module _ (to : Version) (capture_point : CapturePoint) (next : Reader (List Bool)) (front : IsFront next) (was : List ℕ) where
  -- no message was taken
  pub turned_none : (bytes page : List ℕ) (left written : Option (List ℕ)) (fault : FileFault) → Stops next bytes left fault → SaidSoFar was page written [] → RendersTurned to capture_point next bytes was (Err fault) left page written
  turned_none bytes page left written BadHeader h k = ([], h, k)
  turned_none bytes page left written Truncated h k = ([], h, k)
  turned_none bytes page left written TooLong h k = ([], h, k)
  turned_none bytes page left written SpareNotZero h k = ([], h, k)
  turned_none bytes page left written BadDirection h k = ([], h, k)
  turned_none bytes page left written Mixed h k = ([], h, k)
  turned_none bytes page left written ReadFailed h k = (h.0, h.1, h.2, h.3, h.4, h.5, ([], h.6, k))
  turned_none bytes page left written WriteFailed h k = absurd h

  module _ (bytes rest : List ℕ) (message : List Bool) (h : next bytes ≡ Ok (Some (message, rest))) where
    -- a write failed in the first
    pub turned_broken : (lost page : List ℕ) (left written : Option (List ℕ)) → SaidSoFar was lost written (header_of to ++ bytes_with_capture_point capture_point message) → RendersTurned to capture_point next bytes was (Err WriteFailed) left page written
    turned_broken lost page left written k =
        let behind = by_some next front rest in
        let more = bytes_of_all_at capture_point behind.0 in (
          behind.1,
          lost ++ more,
          (
            message ∷ behind.0,
            (rest, h, behind.2),
            (k.0, k.1, sym (append_assoc k.0 lost more) ∙ ap (λ xs. xs ++ more) k.2 ∙ append_assoc (header_of to) (bytes_with_capture_point capture_point message) more),
          ),
        )

    turned_lines : (now now_rest : List ℕ) (page : List ℕ) (written : Option (List ℕ)) (ends fault : Option FileFault) (number : ℕ) → next now ≡ Ok (Some (message, now_rest))
        → RendersLines next (message_printed capture_point) number now_rest was (header_of to ++ bytes_with_capture_point capture_point message) ends page written → RendersMessages to capture_point next now was ends fault page written
    turned_lines now now_rest page written ends fault number e k = (
      message ∷ k.0,
      (now_rest, e, k.1),
      (k.2.0, k.2.1, k.2.2 ∙ ap (λ xs. (header_of to ++ bytes_with_capture_point capture_point message) ++ xs) (flat_printed capture_point number k.0) ∙ append_assoc (header_of to) (bytes_with_capture_point capture_point message) (bytes_of_all_at capture_point k.0)),
    )

    -- those behind the first
    pub turned_more : (number : ℕ) (r : Result Unit FileFault) (page : List ℕ) (left written : Option (List ℕ)) → RendersFrom next (message_printed capture_point) number rest was (header_of to ++ bytes_with_capture_point capture_point message) r left page written
        → RendersTurned to capture_point next bytes was r left page written
    turned_more number (Ok done) page left written k = turned_lines bytes rest page written None None number h k
    turned_more number (Err BadHeader) page left written k = turned_lines bytes rest page written _ _ number h k
    turned_more number (Err Truncated) page left written k = turned_lines bytes rest page written _ _ number h k
    turned_more number (Err TooLong) page left written k = turned_lines bytes rest page written _ _ number h k
    turned_more number (Err SpareNotZero) page left written k = turned_lines bytes rest page written _ _ number h k
    turned_more number (Err BadDirection) page left written k = turned_lines bytes rest page written _ _ number h k
    turned_more number (Err Mixed) page left written k = turned_lines bytes rest page written _ _ number h k
    turned_more number (Err ReadFailed) page left written k =
        let f = front bytes rest message h in (
          f.0 ++ k.0,
          k.1,
          k.2,
          f.1 ∙ ap (λ xs. f.0 ++ xs) k.3 ∙ sym (append_assoc f.0 k.0 k.1),
          k.4,
          k.5,
          turned_lines (f.0 ++ k.0) k.0 page written k.2 (Some ReadFailed) number (f.2 k.0) k.6,
        )
    turned_more number (Err WriteFailed) page left written k = (k.0, k.1, turned_lines bytes rest k.1 written k.0 k.0 number h k.2)
