-- Telling of records, one after the other.
use Rattle.std.proofs.Common.{◌≡◌, ℕ, ◌≤◌, Bool, true, false, List, [], ◌∷◌, ◌++◌, length, take, drop, Option, Some, None, Result, Ok, Err, refl, sym, ap, ◌∙◌, arith, subst}
use Rattle.std.proofs.lemmas.List.{append_assoc, append-nil, length-take-le, take-append-drop, drop_at, drop-append-le}
use Rattle.ncp_play_files.specs.declared.file.Direction.{Direction}
use Rattle.ncp_play_files.specs.declared.file.FileFault.{FileFault}
use Rattle.ncp_play_files.specs.declared.file.FileFault.TheVariants.{BadHeader, Truncated, TooLong, SpareNotZero, ReadFailed, WriteFailed, BadDirection, Mixed}
use Rattle.ncp_play_files.specs.declared.version.Version.{Version}
use Rattle.ncp_play_files.specs.File.{version_of, one_direction, direction_of, ending, IsCut}
use Rattle.ncp_play_buffer.specs.Lines.{number_after}
use Rattle.ncp_play_files.specs.Lines.{lines_printed_from}
use Rattle.ncp_play_files.specs.Results.{is_write_failed}
use Rattle.ncp_play_stream.specs.Streams.{SaidSoFar, WritesText, WritesPrefixOf}
use Rattle.ncp_play_files.specs.Writing.{TextReported, PrintedCut, WritesAll, WritesRead, WritesPrefix, Writes}
use Rattle.ncp_play_files.specs.Steps.{Reader, RecordTelling, IsInside, Stops, RendersNext, RendersLines, RendersFrom, RendersOn, RendersFile, RendersOfFile}
use Rattle.ncp_play_files.proofs.Files.{version_of-short, version_of-take, version_of-append}
use Rattle.ncp_play_files.proofs.Contents.{IsFront, by_some}

-- ---- records from a number on

module _ {X : Type 0} (next : Reader X) (front : IsFront next) (lines : RecordTelling X) where
  -- where nothing was said for lack of a record
  pub from_end : (number : ℕ) (bytes was said window page : List ℕ) (left written : Option (List ℕ)) → RendersNext next lines number bytes was said (Ok false) window left page written
      → RendersFrom next lines number bytes was said (Ok tt) left page written
  from_end number bytes was said window page left written h = ([], h.0, (h.1.0, h.1.1, h.1.2 ∙ sym (append-nil said)))

  no_lines : (number : ℕ) (bytes was said page : List ℕ) (written : Option (List ℕ)) (fault : Option FileFault) → next bytes ≡ ending fault → SaidSoFar was page written said
      → RendersLines next lines number bytes was said fault page written
  no_lines number bytes was said page written fault h k = ([], h, (k.0, k.1, k.2 ∙ sym (append-nil said)))

  -- a failed write in a record: what is told of it and of those behind it is not all said
  from_broken : (number : ℕ) (bytes was said : List ℕ) (written : Option (List ℕ)) (first : X) (rest lost : List ℕ) → next bytes ≡ Ok (Some (first, rest))
      → SaidSoFar was lost written (said ++ lines number first) → (fault : Option FileFault) × (lost : List ℕ) × RendersLines next lines number bytes was said fault lost written
  from_broken number bytes was said written first rest lost h k =
      let behind = by_some next front rest in
      let more = lines_printed_from lines (number_after number) behind.0 in (
        behind.1,
        lost ++ more,
        (
          first ∷ behind.0,
          (rest, h, behind.2),
          (
            k.0,
            k.1,
            sym (append_assoc k.0 lost more) ∙ ap (λ xs. xs ++ more) k.2 ∙ append_assoc said (lines number first) more,
          ),
        ),
      )

  pub from_err : (number : ℕ) (bytes was said window page : List ℕ) (left written : Option (List ℕ)) (fault : FileFault) → RendersNext next lines number bytes was said (Err fault) window left page written
      → RendersFrom next lines number bytes was said (Err fault) left page written
  from_err number bytes was said window page left written BadHeader h = no_lines number bytes was said page written _ h.0 h.1
  from_err number bytes was said window page left written Truncated h = no_lines number bytes was said page written _ h.0 h.1
  from_err number bytes was said window page left written TooLong h = no_lines number bytes was said page written _ h.0 h.1
  from_err number bytes was said window page left written SpareNotZero h = no_lines number bytes was said page written _ h.0 h.1
  from_err number bytes was said window page left written BadDirection h = no_lines number bytes was said page written _ h.0 h.1
  from_err number bytes was said window page left written Mixed h = no_lines number bytes was said page written _ h.0 h.1
  from_err number bytes was said window page left written ReadFailed h =
      let cut = h.0 in
      (cut.0, cut.1, cut.2, cut.3, cut.4, cut.5, no_lines number cut.0 was said page written cut.2 cut.6 h.1)
  from_err number bytes was said window page left written WriteFailed h = from_broken number bytes was said written h.0 h.1 h.2 h.3 h.4

  -- a failed write before it was read: nothing is said of it, nor of those behind it
  pub from_lost : (number : ℕ) (bytes was said lost page : List ℕ) (left written : Option (List ℕ)) → SaidSoFar was lost written said → RendersFrom next lines number bytes was said (Err WriteFailed) left page written
  from_lost number bytes was said lost page left written k =
      let all = by_some next front bytes in
      let more = lines_printed_from lines number all.0 in
      (all.1, lost ++ more, (all.0, all.2, (k.0, k.1, sym (append_assoc k.0 lost more) ∙ ap (λ xs. xs ++ more) k.2)))

  pub renders_on : (number : ℕ) (bytes was said window page : List ℕ) (left written : Option (List ℕ)) (r : Result Bool FileFault) → RendersNext next lines number bytes was said r window left page written
      → RendersOn next lines number bytes was said r window left page written
  renders_on number bytes was said window page left written (Ok more) h = h
  renders_on number bytes was said window page left written (Err fault) h = from_err number bytes was said window page left written fault h

  more_lines : (number : ℕ) (bytes rest was said page : List ℕ) (written : Option (List ℕ)) (first : X) (fault : Option FileFault) → next bytes ≡ Ok (Some (first, rest))
      → RendersLines next lines (number_after number) rest was (said ++ lines number first) fault page written → RendersLines next lines number bytes was said fault page written
  more_lines number bytes rest was said page written first fault h k = (
    first ∷ k.0,
    (rest, h, k.1),
    (k.2.0, k.2.1, k.2.2 ∙ append_assoc said (lines number first) (lines_printed_from lines (number_after number) k.0)),
  )

  -- a record in front of others
  pub from_more : (number : ℕ) (bytes rest was said page : List ℕ) (left written : Option (List ℕ)) (first : X) (r : Result Unit FileFault) → next bytes ≡ Ok (Some (first, rest))
      → RendersFrom next lines (number_after number) rest was (said ++ lines number first) r left page written → RendersFrom next lines number bytes was said r left page written
  from_more number bytes rest was said page left written first (Ok done) h k = more_lines number bytes rest was said page written first _ h k
  from_more number bytes rest was said page left written first (Err BadHeader) h k = more_lines number bytes rest was said page written first _ h k
  from_more number bytes rest was said page left written first (Err Truncated) h k = more_lines number bytes rest was said page written first _ h k
  from_more number bytes rest was said page left written first (Err TooLong) h k = more_lines number bytes rest was said page written first _ h k
  from_more number bytes rest was said page left written first (Err SpareNotZero) h k = more_lines number bytes rest was said page written first _ h k
  from_more number bytes rest was said page left written first (Err BadDirection) h k = more_lines number bytes rest was said page written first _ h k
  from_more number bytes rest was said page left written first (Err Mixed) h k = more_lines number bytes rest was said page written first _ h k
  from_more number bytes rest was said page left written first (Err ReadFailed) h k =
      let f = front bytes rest first h in (
        f.0 ++ k.0,
        k.1,
        k.2,
        f.1 ∙ ap (λ xs. f.0 ++ xs) k.3 ∙ sym (append_assoc f.0 k.0 k.1),
        k.4,
        k.5,
        more_lines number (f.0 ++ k.0) k.0 was said page written first k.2 (f.2 k.0) k.6,
      )
  from_more number bytes rest was said page left written first (Err WriteFailed) h k = (k.0, k.1, more_lines number bytes rest was said k.1 written first k.0 h k.2)

-- nothing was read of which something could be told
pub next_ends : {X : Type 0} (next : Reader X) (lines : RecordTelling X) (number : ℕ) (bytes was said window page : List ℕ) (left written : Option (List ℕ)) (fault : FileFault)
    → Stops next bytes left fault → SaidSoFar was page written said → RendersNext next lines number bytes was said (Err fault) window left page written
next_ends next lines number bytes was said window page left written BadHeader h k = (h, k)
next_ends next lines number bytes was said window page left written Truncated h k = (h, k)
next_ends next lines number bytes was said window page left written TooLong h k = (h, k)
next_ends next lines number bytes was said window page left written SpareNotZero h k = (h, k)
next_ends next lines number bytes was said window page left written BadDirection h k = (h, k)
next_ends next lines number bytes was said window page left written Mixed h k = (h, k)
next_ends next lines number bytes was said window page left written ReadFailed h k = (h, k)
next_ends next lines number bytes was said window page left written WriteFailed h k = absurd h

-- ---- headers

-- a file that ends inside a record is cut
pub inside_cut : (bytes : List ℕ) (fault : Option FileFault) → IsInside fault → IsCut bytes fault
inside_cut bytes None h = tt
inside_cut bytes (Some fault) h = subst (λ f. IsCut bytes (Some f)) (sym h) tt

four_at_least : (bytes : List ℕ) (version : Version) → version_of bytes ≡ Some version → 4 ≤ length bytes
four_at_least [] version h = let e : ◌≡◌ {A = Option Version} None (Some version) = sym (version_of-short [] (omega arith)) ∙ h in absurd (let f : ⊥ = cc in f)
four_at_least (a ∷ []) version h = let e : ◌≡◌ {A = Option Version} None (Some version) = sym (version_of-short (a ∷ []) (omega arith)) ∙ h in absurd (let f : ⊥ = cc in f)
four_at_least (a ∷ b ∷ []) version h = let e : ◌≡◌ {A = Option Version} None (Some version) = sym (version_of-short (a ∷ b ∷ []) (omega arith)) ∙ h in absurd (let f : ⊥ = cc in f)
four_at_least (a ∷ b ∷ c ∷ []) version h = let e : ◌≡◌ {A = Option Version} None (Some version) = sym (version_of-short (a ∷ b ∷ c ∷ []) (omega arith)) ∙ h in absurd (let f : ⊥ = cc in f)
four_at_least (a ∷ b ∷ c ∷ d ∷ bytes) version h = omega arith

-- bytes that came behind a header, and those that are left
pub after_version : (bytes given rest : List ℕ) (version : Version) → version_of bytes ≡ Some version → drop 4 bytes ≡ given ++ rest
    → (bytes ≡ (take 4 bytes ++ given) ++ rest) × (version_of (take 4 bytes ++ given) ≡ Some version) × (drop 4 (take 4 bytes ++ given) ≡ given)
after_version bytes given rest version h e =
    let four = four_at_least bytes version h in
    let front : length (take 4 bytes) ≡ 4 = length-take-le 4 bytes four in (
      sym (take-append-drop 4 bytes) ∙ ap (λ xs. take 4 bytes ++ xs) e ∙ sym (append_assoc (take 4 bytes) given rest),
      version_of-append (take 4 bytes) given (omega arith) ∙ version_of-take bytes ∙ h,
      drop_at (take 4 bytes) given 4 front,
    )

-- the header of a file of version 1
one_alone : (bytes : List ℕ) (direction : Direction) (o : Option Version) → version_of bytes ≡ o → one_direction o ≡ Some direction → (version : Version) × (version_of bytes ≡ Some version) × (one_direction (Some version) ≡ Some direction)
one_alone bytes direction None e h = let f : ⊥ = cc in absurd f
one_alone bytes direction (Some version) e h = (version, e, h)

pub after_header : (bytes given rest : List ℕ) (direction : Direction) → direction_of bytes ≡ Some direction → drop 4 bytes ≡ given ++ rest
    → (bytes ≡ (take 4 bytes ++ given) ++ rest) × (direction_of (take 4 bytes ++ given) ≡ Some direction) × (drop 4 (take 4 bytes ++ given) ≡ given)
after_header bytes given rest direction h e =
    let one = one_alone bytes direction (version_of bytes) refl h in
    let behind = after_version bytes given rest one.0 one.1 e in
    (behind.0, ap one_direction behind.1 ∙ one.2, behind.2)

-- bytes behind which more come have the same header
pub longer_header : (given rest : List ℕ) (version : Version) → version_of given ≡ Some version → (version_of (given ++ rest) ≡ Some version) × (drop 4 (given ++ rest) ≡ drop 4 given ++ rest)
longer_header given rest version h =
    let four = four_at_least given version h in
    (version_of-append given rest four ∙ h, drop-append-le 4 given rest four)

-- ---- what was written

module _ (told : TextReported) (cut : PrintedCut)
    (longer : (given rest text : List ℕ) → cut given text → (more : List ℕ) × (last : Option FileFault) × told (given ++ rest) (text ++ more) last) where
  writes_all : (bytes was page last : List ℕ) (written now : Option (List ℕ)) (fault : Option FileFault) → RendersFile told bytes was fault page written → (last ≡ []) × WritesText page written [] last now → WritesAll told bytes was now fault
  writes_all bytes was page last written now fault h k =
      let said = k.1 was h.0 h.2 in
      let same : said.0 ≡ h.0 = sym (append-nil said.0) ∙ ap (λ xs. said.0 ++ xs) (sym k.0) ∙ said.2 ∙ append-nil h.0 in
      (h.0, h.1, said.1 ∙ ap (λ xs. Some (was ++ xs)) same)

  writes_read : (bytes was page last : List ℕ) (left written now : Option (List ℕ)) (given rest text : List ℕ) → bytes ≡ given ++ rest → left ≡ Some rest → cut given text → SaidSoFar was page written text
      → (last ≡ []) × WritesText page written [] last now → WritesRead cut bytes was left now
  writes_read bytes was page last left written now given rest text e l h s k =
      let said = k.1 was text s in
      let same : said.0 ≡ text = sym (append-nil said.0) ∙ ap (λ xs. said.0 ++ xs) (sym k.0) ∙ said.2 ∙ append-nil text in
      (given, rest, text, e, l, h, said.1 ∙ ap (λ xs. Some (was ++ xs)) same)

  writes_prefix : (bytes was lost : List ℕ) (written : Option (List ℕ)) (fault : Option FileFault) → RendersFile told bytes was fault lost written → WritesPrefix told bytes was written
  writes_prefix bytes was lost written fault h = (h.2.0, lost, fault, subst (λ text. told bytes text fault) (sym h.2.2) h.1, h.2.1)

  beginning : (bytes was page : List ℕ) (written now : Option (List ℕ)) (fault : Option FileFault) → RendersFile told bytes was fault page written → WritesPrefixOf page written [] now → WritesPrefix told bytes was now
  beginning bytes was page written now fault h k =
      let said = k.1 was h.0 h.2 in
      (said.0, k.0, fault, subst (λ text. told bytes text fault) (sym (said.2 ∙ append-nil h.0)) h.1, said.1)

  -- what is told of the bytes that came is a beginning of what is told of all bytes
  prefix_longer : (given rest was page text : List ℕ) (written now : Option (List ℕ)) → cut given text → SaidSoFar was page written text → WritesPrefixOf page written [] now → WritesPrefix told (given ++ rest) was now
  prefix_longer given rest was page text written now h s k =
      let more = longer given rest text h in
      let said = k.1 was text s in (
        said.0,
        k.0 ++ more.0,
        more.1,
        subst (λ xs. told (given ++ rest) xs more.1) (ap (λ xs. xs ++ more.0) (sym (said.2 ∙ append-nil text)) ∙ append_assoc said.0 k.0 more.0) more.2,
        said.1,
      )

  -- the page could not be written
  pub wrote_broken : (bytes was page : List ℕ) (left written now : Option (List ℕ)) (r : Result Unit FileFault) → RendersOfFile told cut bytes was r left page written → WritesPrefixOf page written [] now → is_write_failed r ≡ false
      → WritesPrefix told bytes was now
  wrote_broken bytes was page left written now (Ok done) h k n = beginning bytes was page written now _ h k
  wrote_broken bytes was page left written now (Err BadHeader) h k n = beginning bytes was page written now _ h k
  wrote_broken bytes was page left written now (Err Truncated) h k n = beginning bytes was page written now _ h k
  wrote_broken bytes was page left written now (Err TooLong) h k n = beginning bytes was page written now _ h k
  wrote_broken bytes was page left written now (Err SpareNotZero) h k n = beginning bytes was page written now _ h k
  wrote_broken bytes was page left written now (Err BadDirection) h k n = beginning bytes was page written now _ h k
  wrote_broken bytes was page left written now (Err Mixed) h k n = beginning bytes was page written now _ h k
  wrote_broken bytes was page left written now (Err ReadFailed) h k n =
      subst (λ xs. WritesPrefix told xs was now) (sym h.3) (prefix_longer h.0 h.1 was page h.2 written now h.5 h.6 k)
  wrote_broken bytes was page left written now (Err WriteFailed) h k n = absurd (let e : ⊥ = cc in e)

  -- the page was written
  pub wrote_flushed : (bytes was page last : List ℕ) (left written now : Option (List ℕ)) (r : Result Unit FileFault) → RendersOfFile told cut bytes was r left page written → (last ≡ []) × WritesText page written [] last now → is_write_failed r ≡ false
      → Writes told cut bytes was left now r
  wrote_flushed bytes was page last left written now (Ok done) h k n = writes_all bytes was page last written now _ h k
  wrote_flushed bytes was page last left written now (Err BadHeader) h k n = writes_all bytes was page last written now _ h k
  wrote_flushed bytes was page last left written now (Err Truncated) h k n = writes_all bytes was page last written now _ h k
  wrote_flushed bytes was page last left written now (Err TooLong) h k n = writes_all bytes was page last written now _ h k
  wrote_flushed bytes was page last left written now (Err SpareNotZero) h k n = writes_all bytes was page last written now _ h k
  wrote_flushed bytes was page last left written now (Err BadDirection) h k n = writes_all bytes was page last written now _ h k
  wrote_flushed bytes was page last left written now (Err Mixed) h k n = writes_all bytes was page last written now _ h k
  wrote_flushed bytes was page last left written now (Err ReadFailed) h k n = writes_read bytes was page last left written now h.0 h.1 h.2 h.3 h.4 h.5 h.6 k
  wrote_flushed bytes was page last left written now (Err WriteFailed) h k n = absurd (let e : ⊥ = cc in e)

  -- a text could not be written
  pub wrote_failed : (bytes was page : List ℕ) (left written : Option (List ℕ)) (r : Result Unit FileFault) → RendersOfFile told cut bytes was r left page written → is_write_failed r ≡ true → Writes told cut bytes was left written r
  wrote_failed bytes was page left written (Ok done) h n = absurd (let e : ⊥ = cc in e)
  wrote_failed bytes was page left written (Err BadHeader) h n = absurd (let e : ⊥ = cc in e)
  wrote_failed bytes was page left written (Err Truncated) h n = absurd (let e : ⊥ = cc in e)
  wrote_failed bytes was page left written (Err TooLong) h n = absurd (let e : ⊥ = cc in e)
  wrote_failed bytes was page left written (Err SpareNotZero) h n = absurd (let e : ⊥ = cc in e)
  wrote_failed bytes was page left written (Err BadDirection) h n = absurd (let e : ⊥ = cc in e)
  wrote_failed bytes was page left written (Err Mixed) h n = absurd (let e : ⊥ = cc in e)
  wrote_failed bytes was page left written (Err ReadFailed) h n = absurd (let e : ⊥ = cc in e)
  wrote_failed bytes was page left written (Err WriteFailed) h n = writes_prefix bytes was h.1 written h.0 h.2
