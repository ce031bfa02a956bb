-- Records of both versions, at the front of bytes.
use Rattle.std.proofs.Common.{◌≡◌, ℕ, ◌<◌, ◌≤◌, Bool, List, [], ◌∷◌, ◌++◌, length, Option, Some, None, Result, Ok, Err, refl, sym, ap, ◌∙◌, arith, slice_index_or, drop}
use Rattle.std.proofs.lemmas.List.{length-append, append_assoc}
use Rattle.ncp_play_files.specs.declared.file.Direction.{Direction}
use Rattle.ncp_play_files.specs.declared.file.FileFault.{FileFault}
use Rattle.ncp_play_files.specs.declared.file.FileFault.TheVariants.{BadHeader, Truncated, TooLong, SpareNotZero, ReadFailed, WriteFailed, BadDirection, Mixed}
use Rattle.ncp_play_files.specs.declared.version.Version.{Version}
use Rattle.ncp_play_files.specs.declared.version.Version.TheVariants.{One, Two}
use Rattle.ncp_play_files.specs.declared.version.CapturePoint.{CapturePoint}
use Rattle.ncp_play_files.specs.File.{Next, next_record, ending, one_direction}
use Rattle.ncp_play_files.specs.Versions.{Recorded, NextRecorded, capture_point_without_host, placed, recorded, direction_by, capture_point_toward, next_capture_point, after_capture_point, next_in}
use Rattle.ncp_play_files.specs.Steps.{IsInside, ReadsHeader, ReadsVersion, FindsRecord, HasFaultInFront, Stops}
use Rattle.ncp_play_files.proofs.Contents.{IsFront, next_record-front}

-- a message that has a record was read
pub recorded_some : (capture_point : CapturePoint) (none : Result NextRecorded FileFault) (r : Result Next FileFault) (found : Recorded) (rest : List ℕ) → (none ≡ Ok (Some (found, rest)) → ⊥) → recorded capture_point none r ≡ Ok (Some (found, rest))
    → (message : List Bool) × (r ≡ Ok (Some (message, rest))) × (record { capture_point = capture_point; message = message } ≡ found)
recorded_some capture_point none (Ok None) found rest never h = absurd (never h)
recorded_some capture_point none (Ok (Some (message, behind))) found rest never h =
    let pair : ◌≡◌ {A = Recorded × List ℕ} (record { capture_point = capture_point; message = message }, behind) (found, rest) = cc in
    (message, ap (λ p. Ok (Some (message, p.1))) pair, ap (λ p. p.0) pair)
recorded_some capture_point none (Err fault) found rest never h = let e : ⊥ = cc in absurd e

not_ended : (found : Recorded) (rest : List ℕ) → ◌≡◌ {A = Result NextRecorded FileFault} (Ok None) (Ok (Some (found, rest))) → ⊥
not_ended found rest h = let e : ⊥ = cc in e

not_cut : (found : Recorded) (rest : List ℕ) → ◌≡◌ {A = Result NextRecorded FileFault} (Err Truncated) (Ok (Some (found, rest))) → ⊥
not_cut found rest h = let e : ⊥ = cc in e

toward_some : (o : Option Direction) (bytes rest : List ℕ) (capture_point : CapturePoint) → capture_point_toward o bytes ≡ Ok (Some (capture_point, rest))
    → (host : ℕ) × (bytes ≡ host ∷ rest) × ((tail : List ℕ) → capture_point_toward o (host ∷ tail) ≡ Ok (Some (capture_point, tail)))
toward_some None bytes rest capture_point h = let e : ⊥ = cc in absurd e
toward_some (Some direction) [] rest capture_point h = let e : ⊥ = cc in absurd e
toward_some (Some direction) (host ∷ bytes) rest capture_point h =
    let pair : ◌≡◌ {A = CapturePoint × List ℕ} (placed direction host, bytes) (capture_point, rest) = cc in
    (host, ap (λ p. host ∷ p.1) pair, λ tail. ap (λ p. Ok (Some (p.0, tail))) pair)

pub capture_point_front : IsFront next_capture_point
capture_point_front [] rest capture_point h = let e : ⊥ = cc in absurd e
capture_point_front (byte ∷ bytes) rest capture_point h =
    let t = toward_some (direction_by byte) bytes rest capture_point h in
    (byte ∷ t.0 ∷ [], ap (λ xs. byte ∷ xs) t.1, t.2, omega arith)

after_some : (r : Result (Option (CapturePoint × List ℕ)) FileFault) (found : Recorded) (rest : List ℕ) → after_capture_point r ≡ Ok (Some (found, rest))
    → (capture_point : CapturePoint) × (more : List ℕ) × (r ≡ Ok (Some (capture_point, more))) × (recorded capture_point (Err Truncated) (next_record more) ≡ Ok (Some (found, rest)))
after_some (Ok None) found rest h = let e : ⊥ = cc in absurd e
after_some (Ok (Some (capture_point, more))) found rest h = (capture_point, more, refl, h)
after_some (Err fault) found rest h = let e : ⊥ = cc in absurd e

-- a record of either version is its own bytes, whatever follows
pub in_front : (version : Version) → IsFront (next_in version)
in_front (One direction) bytes rest found h =
    let one = recorded_some (capture_point_without_host direction) (Ok None) (next_record bytes) found rest (not_ended found rest) h in
    let front = next_record-front bytes rest one.0 one.1 in
    (front.0, front.1, λ tail. ap (recorded (capture_point_without_host direction) (Ok None)) (front.2 tail) ∙ ap (λ f. Ok (Some (f, tail))) one.2, omega (arith, front.3))
in_front Two bytes rest found h =
    let two = after_some (next_capture_point bytes) found rest h in
    let passed = capture_point_front bytes two.1 two.0 two.2 in
    let one = recorded_some two.0 (Err Truncated) (next_record two.1) found rest (not_cut found rest) two.3 in
    let front = next_record-front two.1 rest one.0 one.1 in (
      passed.0 ++ front.0,
      passed.1 ∙ ap (λ xs. passed.0 ++ xs) front.1 ∙ sym (append_assoc passed.0 front.0 rest),
      (λ tail.
          ap (next_in Two) (append_assoc passed.0 front.0 tail) ∙ ap after_capture_point (passed.2 (front.0 ++ tail)) ∙ ap (recorded two.0 (Err Truncated)) (front.2 tail) ∙ ap (λ f. Ok (Some (f, tail))) one.2),
      simp length-append (omega (arith, passed.3)),
    )

-- ---- a passage in a window

pub capture_point_none : (window : List ℕ) → length window < 1 → next_capture_point window ≡ Ok None
capture_point_none [] h = refl
capture_point_none (byte ∷ window) h = absurd (omega arith)

-- the first byte stays when more comes
pub first_stays : (window piece now : List ℕ) → now ≡ window ++ piece → 1 ≤ length window → slice_index_or now 0 0 ≡ slice_index_or window 0 0
first_stays [] piece now e h = absurd (omega arith)
first_stays (byte ∷ window) piece now e h = ap (λ xs. slice_index_or xs 0 0) e

pub longer : (window piece now : List ℕ) → now ≡ window ++ piece → 1 ≤ length window → 1 ≤ length now
longer window piece now e h = let l : length now ≡ length (window ++ piece) = ap length e in omega (arith, simp length-append at l)

pub capture_point_bad : (window rest : List ℕ) → 1 ≤ length window → direction_by (slice_index_or window 0 0) ≡ None → next_capture_point (window ++ rest) ≡ Err BadDirection
capture_point_bad [] rest h e = absurd (omega arith)
capture_point_bad (byte ∷ window) rest h e = ap (λ o. capture_point_toward o (window ++ rest)) e

pub capture_point_cut : (window : List ℕ) (direction : Direction) → 1 ≤ length window → length window < 2 → direction_by (slice_index_or window 0 0) ≡ Some direction → next_capture_point window ≡ Err Truncated
capture_point_cut [] direction h k e = absurd (omega arith)
capture_point_cut (byte ∷ []) direction h k e = ap (λ o. capture_point_toward o []) e
capture_point_cut (byte ∷ host ∷ window) direction h k e = absurd (omega arith)

pub capture_point_read : (window rest : List ℕ) (direction : Direction) → 2 ≤ length window → direction_by (slice_index_or window 0 0) ≡ Some direction
    → next_capture_point (window ++ rest) ≡ Ok (Some (placed direction (slice_index_or window 1 0), drop 2 window ++ rest))
capture_point_read [] rest direction h e = absurd (omega arith)
capture_point_read (byte ∷ []) rest direction h e = absurd (omega arith)
capture_point_read (byte ∷ host ∷ window) rest direction h e = ap (λ o. capture_point_toward o (host ∷ (window ++ rest))) e

-- ---- records that were not read

ends_one : (capture_point : CapturePoint) (fault : Option FileFault) (r : Result Next FileFault) → r ≡ ending fault → recorded capture_point (Ok None) r ≡ ending fault
ends_one capture_point None r h = ap (recorded capture_point (Ok None)) h
ends_one capture_point (Some fault) r h = ap (recorded capture_point (Ok None)) h

-- in version 1
pub one_stops : (direction : Direction) (bytes window : List ℕ) (left : Option (List ℕ)) (fault : FileFault) → FindsRecord bytes (Err fault) window left → Stops (next_in (One direction)) bytes left fault
one_stops direction bytes window left BadHeader h = ap (recorded (capture_point_without_host direction) (Ok None)) h
one_stops direction bytes window left Truncated h = ap (recorded (capture_point_without_host direction) (Ok None)) h
one_stops direction bytes window left TooLong h = ap (recorded (capture_point_without_host direction) (Ok None)) h
one_stops direction bytes window left SpareNotZero h = ap (recorded (capture_point_without_host direction) (Ok None)) h
one_stops direction bytes window left BadDirection h = ap (recorded (capture_point_without_host direction) (Ok None)) h
one_stops direction bytes window left Mixed h = ap (recorded (capture_point_without_host direction) (Ok None)) h
one_stops direction bytes window left ReadFailed h = (window, h.3.0, h.0, sym h.3.2, h.3.1, h.1, ends_one (capture_point_without_host direction) h.0 (next_record window) h.2)
one_stops direction bytes window left WriteFailed h = absurd h

ends_following : (fault : Option FileFault) (r : Result (Option (CapturePoint × List ℕ)) FileFault) → r ≡ ending fault → after_capture_point r ≡ ending fault
ends_following None r h = ap after_capture_point h
ends_following (Some fault) r h = ap after_capture_point h

-- in version 2, in the passage
pub capture_point_stops : (bytes : List ℕ) (left : Option (List ℕ)) (fault : FileFault) → Stops next_capture_point bytes left fault → Stops (next_in Two) bytes left fault
capture_point_stops bytes left BadHeader h = ap after_capture_point h
capture_point_stops bytes left Truncated h = ap after_capture_point h
capture_point_stops bytes left TooLong h = ap after_capture_point h
capture_point_stops bytes left SpareNotZero h = ap after_capture_point h
capture_point_stops bytes left BadDirection h = ap after_capture_point h
capture_point_stops bytes left Mixed h = ap after_capture_point h
capture_point_stops bytes left ReadFailed h = (h.0, h.1, h.2, h.3, h.4, h.5, ends_following h.2 (next_capture_point h.0) h.6)
capture_point_stops bytes left WriteFailed h = absurd h

cut_following : (capture_point : CapturePoint) (fault : Option FileFault) (r : Result Next FileFault) → IsInside fault → r ≡ ending fault → recorded capture_point (Err Truncated) r ≡ Err Truncated
cut_following capture_point None r i h = ap (recorded capture_point (Err Truncated)) h
cut_following capture_point (Some fault) r i h = ap (recorded capture_point (Err Truncated)) h ∙ ap Err i

-- and behind it
pub message_stops : (bytes rest window : List ℕ) (capture_point : CapturePoint) (left : Option (List ℕ)) (fault : FileFault) → next_capture_point bytes ≡ Ok (Some (capture_point, rest)) → FindsRecord rest (Err fault) window left
    → Stops (next_in Two) bytes left fault
message_stops bytes rest window capture_point left BadHeader h k = ap after_capture_point h ∙ ap (recorded capture_point (Err Truncated)) k
message_stops bytes rest window capture_point left Truncated h k = ap after_capture_point h ∙ ap (recorded capture_point (Err Truncated)) k
message_stops bytes rest window capture_point left TooLong h k = ap after_capture_point h ∙ ap (recorded capture_point (Err Truncated)) k
message_stops bytes rest window capture_point left SpareNotZero h k = ap after_capture_point h ∙ ap (recorded capture_point (Err Truncated)) k
message_stops bytes rest window capture_point left BadDirection h k = ap after_capture_point h ∙ ap (recorded capture_point (Err Truncated)) k
message_stops bytes rest window capture_point left Mixed h k = ap after_capture_point h ∙ ap (recorded capture_point (Err Truncated)) k
message_stops bytes rest window capture_point left ReadFailed h k =
    let front = capture_point_front bytes rest capture_point h in (
      front.0 ++ window,
      k.3.0,
      Some Truncated,
      front.1 ∙ ap (λ xs. front.0 ++ xs) (sym k.3.2) ∙ sym (append_assoc front.0 window k.3.0),
      k.3.1,
      refl,
      ap after_capture_point (front.2 window) ∙ cut_following capture_point k.0 (next_record window) k.1 k.2,
    )
message_stops bytes rest window capture_point left WriteFailed h k = absurd k

-- in either, in a message that stands behind its passage
pub found_stops : (version : Version) (bytes behind : List ℕ) (capture_point : CapturePoint) (none : Result NextRecorded FileFault) (left : Option (List ℕ)) (fault : FileFault) → next_in version bytes ≡ recorded capture_point none (next_record behind)
    → HasFaultInFront behind fault → Stops (next_in version) bytes left fault
found_stops version bytes behind capture_point none left BadHeader h k = h ∙ ap (recorded capture_point none) k
found_stops version bytes behind capture_point none left Truncated h k = h ∙ ap (recorded capture_point none) k
found_stops version bytes behind capture_point none left TooLong h k = h ∙ ap (recorded capture_point none) k
found_stops version bytes behind capture_point none left SpareNotZero h k = h ∙ ap (recorded capture_point none) k
found_stops version bytes behind capture_point none left BadDirection h k = h ∙ ap (recorded capture_point none) k
found_stops version bytes behind capture_point none left Mixed h k = h ∙ ap (recorded capture_point none) k
found_stops version bytes behind capture_point none left ReadFailed h k = absurd k
found_stops version bytes behind capture_point none left WriteFailed h k = absurd k

-- ---- a header that is none of version 1

pub header_ends : (bytes window : List ℕ) (left : Option (List ℕ)) (fault : FileFault) → ReadsVersion bytes (Err fault) window left → ReadsHeader bytes (Err fault) window left
header_ends bytes window left BadHeader h = (refl, ap one_direction h.1)
header_ends bytes window left Truncated h = let e : ⊥ = cc (h.0) in absurd e
header_ends bytes window left TooLong h = let e : ⊥ = cc (h.0) in absurd e
header_ends bytes window left SpareNotZero h = let e : ⊥ = cc (h.0) in absurd e
header_ends bytes window left BadDirection h = let e : ⊥ = cc (h.0) in absurd e
header_ends bytes window left Mixed h = let e : ⊥ = cc (h.0) in absurd e
header_ends bytes window left ReadFailed h = h
header_ends bytes window left WriteFailed h = absurd h
