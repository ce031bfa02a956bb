-- Converting a file: its header, its direction, and its messages.
use Rattle.std.proofs.Common.{◌≡◌, ℕ, Bool, List, [], ◌∷◌, ◌++◌, take, drop, Option, Some, None, Result, Ok, Err, refl, sym, ap, ◌∙◌, subst}
use Rattle.std.proofs.lemmas.List.{append_assoc}
use Rattle.std.proofs.lemmas.List.Concat.{flat_map-append}
use Rattle.ncp_play_files.specs.declared.file.FileFault.{FileFault}
use Rattle.ncp_play_files.specs.declared.file.FileFault.TheVariants.{BadHeader, Truncated, TooLong, SpareNotZero, ReadFailed, WriteFailed, BadDirection, Mixed}
use Rattle.ncp_play_files.specs.declared.version.Version.{Version}
use Rattle.ncp_play_files.specs.declared.version.Version.TheVariants.{One, Two}
use Rattle.ncp_play_files.specs.declared.version.CapturePoint.{CapturePoint}
use Rattle.ncp_play_files.specs.File.{version_of, HoldsBy}
use Rattle.ncp_play_files.specs.Versions.{header_of, bytes_with_capture_point}
use Rattle.ncp_play_files.specs.Converted.{direction_after, other_version, capture_point_in, next_at, HoldsAt, bytes_of_all_at, file_to, converted, ConvertedAs, ConvertedCut}
use Rattle.ncp_play_files.specs.Steps.{ReadsVersion, RendersFile, RendersOfFile}
use Rattle.ncp_play_files.specs.Turning.{FindsDirection, RendersMessages, RendersTurned}
use Rattle.ncp_play_stream.specs.Streams.{SaidSoFar}
use Rattle.ncp_play_files.proofs.Files.{version_of-short}
use Rattle.ncp_play_files.proofs.Contents.{by_some, by_longer}
use Rattle.ncp_play_files.proofs.Again.{ends_nowhere}
use Rattle.ncp_play_files.proofs.Progress.{inside_cut, after_version, longer_header}
use Rattle.ncp_play_files.proofs.Turned.{at_front, ends_at}

module _ (host : ℕ) where
  -- ---- a header that was not read

  pub turns_nothing : (bytes was window page : List ℕ) (left written : Option (List ℕ)) (fault : FileFault) → ReadsVersion bytes (Err fault) window left → SaidSoFar was page written []
      → RendersOfFile (ConvertedAs host) (ConvertedCut host) bytes was (Err fault) left page written
  turns_nothing bytes was window page left written BadHeader h k = ([], (let e : version_of bytes ≡ None = h.1 in rw e (refl, refl)), k)
  turns_nothing bytes was window page left written Truncated h k = let e : ⊥ = cc (h.0) in absurd e
  turns_nothing bytes was window page left written TooLong h k = let e : ⊥ = cc (h.0) in absurd e
  turns_nothing bytes was window page left written SpareNotZero h k = let e : ⊥ = cc (h.0) in absurd e
  turns_nothing bytes was window page left written BadDirection h k = let e : ⊥ = cc (h.0) in absurd e
  turns_nothing bytes was window page left written Mixed h k = let e : ⊥ = cc (h.0) in absurd e
  turns_nothing bytes was window page left written ReadFailed h k =
      let none : version_of window ≡ None = version_of-short window h.0 in
      (window, h.1.0, [], sym h.1.2, h.1.1, (rw none (h.0, refl)), k)
  turns_nothing bytes was window page left written WriteFailed h k = absurd h

  -- ---- a read that failed in front of the records

  nothing_at : (version : Version) (capture_point : CapturePoint) (body : List ℕ) → body ≡ [] → next_at version capture_point body ≡ Ok None
  nothing_at version capture_point body e = ap (next_at version capture_point) e ∙ ends_at capture_point None _ (ends_nowhere version)

  pub turns_no_more : (bytes was window page : List ℕ) (left written : Option (List ℕ)) (version : Version) (fault : FileFault) → version_of bytes ≡ Some version → FindsDirection version (drop 4 bytes) (Err fault) window left
      → SaidSoFar was page written [] → RendersOfFile (ConvertedAs host) (ConvertedCut host) bytes was (Err fault) left page written
  turns_no_more bytes was window page left written version BadHeader h d k = absurd d
  turns_no_more bytes was window page left written version Truncated h d k = absurd d
  turns_no_more bytes was window page left written version TooLong h d k = absurd d
  turns_no_more bytes was window page left written version SpareNotZero h d k = absurd d
  turns_no_more bytes was window page left written version BadDirection h d k = absurd d
  turns_no_more bytes was window page left written version Mixed h d k = absurd d
  turns_no_more bytes was window page left written version WriteFailed h d k = absurd d
  turns_no_more bytes was window page left written version ReadFailed h d k =
      let behind = after_version bytes [] (drop 4 bytes) version h refl in (
        take 4 bytes ++ [],
        drop 4 bytes,
        [],
        behind.0,
        d,
        rw behind.1 ([], None, tt, nothing_at version _ (drop 4 (take 4 bytes ++ [])) behind.2, refl),
        k,
      )

  -- ---- the messages behind a header

  -- of bytes that were cut off the direction is the same, if they have a message
  cut_part : (version : Version) (given rest : List ℕ) (messages : List (List Bool)) (ends : Option FileFault)
      → HoldsBy (next_at version (capture_point_in version (direction_after version (given ++ rest)) host)) given messages ends
      → HoldsAt version host given messages ends
      × (converted version (direction_after version (given ++ rest)) host messages (Some ReadFailed) ≡ converted version (direction_after version given) host messages (Some ReadFailed))
  cut_part (One direction) given rest messages ends h = (h, refl)
  cut_part Two (byte ∷ given) rest messages ends h = (h, refl)
  cut_part Two [] rest [] ends h = (h, refl)
  cut_part Two [] rest (message ∷ messages) ends h = let e : ⊥ = cc (h.1) in absurd e

  module _ (bytes was : List ℕ) (version : Version) (h : version_of bytes ≡ Some version) where
    all : (page : List ℕ) (written : Option (List ℕ)) (fault : Option FileFault)
        → (let direction = direction_after version (drop 4 bytes) in let to = other_version version direction in
        RendersMessages to (capture_point_in to direction host) (next_at version (capture_point_in version direction host)) (drop 4 bytes) was fault fault page written)
        → RendersFile (ConvertedAs host) bytes was fault page written
    all page written fault k = (converted version (direction_after version (drop 4 bytes)) host k.0 fault, rw h (k.0, k.1, refl), k.2)

    pub file_turned : (r : Result Unit FileFault) (left : Option (List ℕ)) (page : List ℕ) (written : Option (List ℕ))
        → (let direction = direction_after version (drop 4 bytes) in let to = other_version version direction in
        RendersTurned to (capture_point_in to direction host) (next_at version (capture_point_in version direction host)) (drop 4 bytes) was r left page written)
        → RendersOfFile (ConvertedAs host) (ConvertedCut host) bytes was r left page written
    file_turned (Ok done) left page written k = all page written None k
    file_turned (Err BadHeader) left page written k = all page written _ k
    file_turned (Err Truncated) left page written k = all page written _ k
    file_turned (Err TooLong) left page written k = all page written _ k
    file_turned (Err SpareNotZero) left page written k = all page written _ k
    file_turned (Err BadDirection) left page written k = all page written _ k
    file_turned (Err Mixed) left page written k = all page written _ k
    file_turned (Err WriteFailed) left page written k = (k.0, k.1, all k.1 written k.0 k.2)
    file_turned (Err ReadFailed) left page written k =
        let behind = after_version bytes k.0 k.1 version h k.3 in
        let given = take 4 bytes ++ k.0 in
        let messages = k.6.0 in
        let held = subst (λ body. HoldsBy (next_at version (capture_point_in version (direction_after version body) host)) k.0 messages k.2) k.3 k.6.1 in
        let part = cut_part version k.0 k.1 messages k.2 held in
        let same : converted version (direction_after version (drop 4 bytes)) host messages (Some ReadFailed) ≡ converted version (direction_after version k.0) host messages (Some ReadFailed) =
        ap (λ body. converted version (direction_after version body) host messages (Some ReadFailed)) k.3 ∙ part.1 in (
          given,
          k.1,
          converted version (direction_after version (drop 4 bytes)) host messages (Some ReadFailed),
          behind.0,
          k.4,
          rw behind.1 (
            messages,
            k.2,
            inside_cut given k.2 k.5,
            subst (λ body. HoldsAt version host body messages k.2) (sym behind.2) part.0,
            same ∙ ap (λ body. converted version (direction_after version body) host messages (Some ReadFailed)) (sym behind.2),
          ),
          k.6.2,
        )

  -- ---- what becomes of the bytes that came is a beginning of what becomes of all

  file_longer : (to : Version) (capture_point : CapturePoint) (messages more : List (List Bool)) (last : Option FileFault) → (rest : List ℕ) × (file_to to capture_point messages (Some ReadFailed) ++ rest ≡ file_to to capture_point (messages ++ more) last)
  file_longer to capture_point [] more last = (file_to to capture_point more last, refl)
  file_longer to capture_point (message ∷ messages) more last = (
    bytes_of_all_at capture_point more,
    append_assoc (header_of to) (bytes_of_all_at capture_point (message ∷ messages)) (bytes_of_all_at capture_point more) ∙ ap (λ xs. header_of to ++ xs) (sym (flat_map-append (bytes_with_capture_point capture_point) (message ∷ messages) more)),
  )

  body_longer : (version : Version) (body rest : List ℕ) (messages : List (List Bool)) (fault : Option FileFault) → HoldsAt version host body messages fault
      → (more : List ℕ) × (last : Option FileFault) × (others : List (List Bool)) × HoldsAt version host (body ++ rest) others last
      × (converted version (direction_after version body) host messages (Some ReadFailed) ++ more ≡ converted version (direction_after version (body ++ rest)) host others last)
  body_longer (One direction) body rest messages fault h =
      let capture_point = capture_point_in (One direction) direction host in
      let longer = by_longer (next_at (One direction) capture_point) (at_front (One direction) capture_point) body rest messages fault h in
      let text = file_longer Two (capture_point_in Two direction host) messages longer.0 longer.1 in
      (text.0, longer.1, messages ++ longer.0, longer.2, text.1)
  body_longer Two (byte ∷ body) rest messages fault h =
      let direction = direction_after Two (byte ∷ body) in
      let capture_point = capture_point_in Two direction host in
      let longer = by_longer (next_at Two capture_point) (at_front Two capture_point) (byte ∷ body) rest messages fault h in
      let text = file_longer (One direction) (capture_point_in (One direction) direction host) messages longer.0 longer.1 in
      (text.0, longer.1, messages ++ longer.0, longer.2, text.1)
  body_longer Two [] rest [] fault h =
      let capture_point = capture_point_in Two (direction_after Two rest) host in
      let some = by_some (next_at Two capture_point) (at_front Two capture_point) rest in
      (converted Two (direction_after Two rest) host some.0 some.1, some.1, some.0, some.2, refl)
  body_longer Two [] rest (message ∷ messages) fault h = let e : ⊥ = cc (h.1) in absurd e

  some_file : (bytes : List ℕ) (o : Option Version) → version_of bytes ≡ o → (text : List ℕ) × (fault : Option FileFault) × ConvertedAs host bytes text fault
  some_file bytes None h = ([], Some BadHeader, rw h (refl, refl))
  some_file bytes (Some version) h =
      let capture_point = capture_point_in version (direction_after version (drop 4 bytes)) host in
      let some = by_some (next_at version capture_point) (at_front version capture_point) (drop 4 bytes) in
      (converted version (direction_after version (drop 4 bytes)) host some.0 some.1, some.1, rw h (some.0, some.2, refl))

  longer_by : (given rest text : List ℕ) (o : Option Version) → version_of given ≡ o → ConvertedCut host given text → (more : List ℕ) × (last : Option FileFault) × ConvertedAs host (given ++ rest) (text ++ more) last
  longer_by given rest text None e h =
      let none = rw e at h in
      let some = some_file (given ++ rest) (version_of (given ++ rest)) refl in
      (some.0, some.1, subst (λ xs. ConvertedAs host (given ++ rest) (xs ++ some.0) some.1) (sym none.1) some.2)
  longer_by given rest text (Some version) e h =
      let cut = rw e at h in
      let head = longer_header given rest version e in
      let longer = body_longer version (drop 4 given) rest cut.0 cut.1 cut.3 in (
        longer.0,
        longer.1,
        rw head.0 (
          longer.2,
          subst (λ body. HoldsAt version host body longer.2 longer.1) (sym head.1) longer.3,
          ap (λ xs. xs ++ longer.0) cut.4 ∙ longer.4 ∙ ap (λ body. converted version (direction_after version body) host longer.2 longer.1) (sym head.1),
        ),
      )

  pub converted_longer : (given rest text : List ℕ) → ConvertedCut host given text → (more : List ℕ) × (last : Option FileFault) × ConvertedAs host (given ++ rest) (text ++ more) last
  converted_longer given rest text h = longer_by given rest text (version_of given) refl h
