-- A pass through records, one after the other, and through a file.
use Rattle.std.proofs.Common.{◌≡◌, inl, inr, ℕ, ◌+◌, ◌-◌, ◌/◌, ◌≤◌, ◌&&◌, Bool, true, false, cond, List, [], ◌∷◌, ◌++◌, length, take, drop, Option, Some, None, Result, Ok, Err, OnOk, OnErr, refl, sym, ap, ◌∙◌, arith, subst}
use Rattle.std.proofs.lemmas.List.{append_assoc, append-nil}
use Rattle.ncp_play_files.specs.declared.file.FileFault.{FileFault}
use Rattle.ncp_play_files.specs.declared.file.FileFault.TheVariants.{BadHeader, Truncated, TooLong, SpareNotZero, ReadFailed, WriteFailed, BadDirection, Mixed}
use Rattle.ncp_play_files.specs.declared.version.Version.{Version}
use Rattle.ncp_play_files.specs.File.{version_of}
use Rattle.ncp_play_files.specs.Versions.{Recorded, next_in}
use Rattle.ncp_play_files.specs.Results.{is_write_failed}
use Rattle.ncp_play_files.specs.Steps.{Stops, ReadsVersion}
use Rattle.ncp_play_files.specs.Writing.{TextReported, PrintedCut, WritesAll, WritesPrefix, Writes}
use Rattle.ncp_play_files.specs.declared.pass.FileEnd.{FileEnd}
use Rattle.ncp_play_files.specs.declared.pass.FileEnd.TheVariants.{Whole, CutOff}
use Rattle.ncp_play_files.specs.Passes.{PassRules, end_at, text_from, state_from, whole_text, read_version, PassHolds, PrintsAs, PrintsCut, PrintsPrefix, Passes, writes_beyond}
use Rattle.ncp_play_files.specs.PassSteps.{PassesNone, PassesPart, PassesNext, PassesTo, PassesBroken, PassesFrom, PassesOn, PassesFileTo, PassesFile, end_in, result_of, unpaid_closing}
use Rattle.ncp_play_buffer.specs.Lines.{number_after}
use Rattle.ncp_play_stream.specs.Pieces.{bytes_and_writes, lost_pieces, unpaid, Paid}
use Rattle.ncp_play_stream.specs.declared.source.Failed.{Failed}
use Rattle.ncp_play_stream.specs.Streams.{SaidSoFar, WritesText, WritesPrefixOf, WritesTextOrPrefixOf}
use Rattle.ncp_play_files.proofs.Files.{version_of-short}
use Rattle.ncp_play_files.proofs.Contents.{by_some}
use Rattle.ncp_play_files.proofs.Placing.{in_front}
use Rattle.ncp_play_files.proofs.Progress.{inside_cut, after_version}

-- ---- records from a number on

module _ {P : Type 0} (rules : PassRules P) (version : Version) where
  module _ (number : ℕ) (state now : rules.State) (bytes was said : List ℕ) where
    none_to : (page : List ℕ) (written : Option (List ℕ)) (fault : Option FileFault) → PassesNone rules version number state bytes was said fault now page written → PassesTo rules version number state bytes was said bytes fault now page written
    none_to page written fault h = ([], h.0, h.1, (h.2.0, h.2.1, h.2.2 ∙ sym (append-nil said)))

    -- where nothing was said for lack of a record
    pub pass_end : (window page : List ℕ) (left written : Option (List ℕ)) → PassesNext rules version number state bytes was said (Ok false) now window left page written → PassesFrom rules version number state bytes was said (Ok tt) now left page written
    pass_end window page left written h = none_to page written None h

    -- a failed write in a record: what is told of it and of those behind it is not all said
    part_broken : (written : Option (List ℕ)) → PassesPart rules version number state bytes was said written → PassesBroken rules version number state bytes was said written
    part_broken written h =
        let behind = by_some (next_in version) (in_front version) h.1 in
        let lines = rules.lines number state h.0 in
        let more = text_from rules (number_after number) (rules.after number state h.0) behind.0 in (
          behind.1,
          h.2 ++ more,
          state_from rules number state (h.0 ∷ behind.0),
          (
            h.0 ∷ behind.0,
            (h.1, h.3, behind.2),
            refl,
            (
              h.4.0,
              h.4.1,
              sym (append_assoc h.4.0 h.2 more) ∙ ap (λ xs. xs ++ more) h.4.2 ∙ append_assoc said lines more,
            ),
          ),
        )

    pub pass_err : (window page : List ℕ) (left written : Option (List ℕ)) (fault : FileFault) → PassesNext rules version number state bytes was said (Err fault) now window left page written
        → PassesFrom rules version number state bytes was said (Err fault) now left page written
    pass_err window page left written BadHeader h = none_to page written _ h
    pass_err window page left written Truncated h = none_to page written _ h
    pass_err window page left written TooLong h = none_to page written _ h
    pass_err window page left written SpareNotZero h = none_to page written _ h
    pass_err window page left written BadDirection h = none_to page written _ h
    pass_err window page left written Mixed h = none_to page written _ h
    pass_err window page left written ReadFailed h =
        let cut = h.0 in
        (cut.0, cut.1, cut.2, cut.3, cut.4, cut.5, ([], cut.6, h.1, (h.2.0, h.2.1, h.2.2 ∙ sym (append-nil said))))
    pass_err window page left written WriteFailed h = part_broken written h

    -- a failed write before it was read: nothing is said of it, nor of those behind it
    pub pass_lost : (lost page : List ℕ) (left written : Option (List ℕ)) → SaidSoFar was lost written said → PassesFrom rules version number state bytes was said (Err WriteFailed) now left page written
    pass_lost lost page left written k =
        let all = by_some (next_in version) (in_front version) bytes in
        let more = text_from rules number state all.0 in
        (all.1, lost ++ more, state_from rules number state all.0, (all.0, all.2, refl, (k.0, k.1, sym (append_assoc k.0 lost more) ∙ ap (λ xs. xs ++ more) k.2)))

    pub passes_on : (window page : List ℕ) (left written : Option (List ℕ)) (r : Result Bool FileFault) → PassesNext rules version number state bytes was said r now window left page written → PassesOn rules version number state bytes was said r now window left page written
    passes_on window page left written (Ok more) h = h
    passes_on window page left written (Err fault) h = pass_err window page left written fault h

    -- nothing was read of which something could be told
    pub pass_ends : (window page : List ℕ) (left written : Option (List ℕ)) (fault : FileFault) → Stops (next_in version) bytes left fault → now ≡ state → SaidSoFar was page written said
        → PassesNext rules version number state bytes was said (Err fault) now window left page written
    pass_ends window page left written BadHeader h e k = (h, e, k)
    pass_ends window page left written Truncated h e k = (h, e, k)
    pass_ends window page left written TooLong h e k = (h, e, k)
    pass_ends window page left written SpareNotZero h e k = (h, e, k)
    pass_ends window page left written BadDirection h e k = (h, e, k)
    pass_ends window page left written Mixed h e k = (h, e, k)
    pass_ends window page left written ReadFailed h e k = (h, e, k)
    pass_ends window page left written WriteFailed h e k = absurd h

  -- a record in front of others
  module _ (number : ℕ) (state : rules.State) (bytes rest was said : List ℕ) (seen : Recorded) where
    more_to : (given behind : List ℕ) (now : rules.State) (page : List ℕ) (written : Option (List ℕ)) (fault : Option FileFault) → next_in version given ≡ Ok (Some (seen, behind))
        → PassesTo rules version (number_after number) (rules.after number state seen) rest was (said ++ rules.lines number state seen) behind fault now page written → PassesTo rules version number state bytes was said given fault now page written
    more_to given behind now page written fault h k = (
      seen ∷ k.0,
      (behind, h, k.1),
      k.2,
      (k.3.0, k.3.1, k.3.2 ∙ append_assoc said (rules.lines number state seen) (text_from rules (number_after number) (rules.after number state seen) k.0)),
    )

    pub pass_more : (now : rules.State) (page : List ℕ) (left written : Option (List ℕ)) (r : Result Unit FileFault) → next_in version bytes ≡ Ok (Some (seen, rest))
        → PassesFrom rules version (number_after number) (rules.after number state seen) rest was (said ++ rules.lines number state seen) r now left page written → PassesFrom rules version number state bytes was said r now left page written
    pass_more now page left written (Ok done) h k = more_to bytes rest now page written _ h k
    pass_more now page left written (Err BadHeader) h k = more_to bytes rest now page written _ h k
    pass_more now page left written (Err Truncated) h k = more_to bytes rest now page written _ h k
    pass_more now page left written (Err TooLong) h k = more_to bytes rest now page written _ h k
    pass_more now page left written (Err SpareNotZero) h k = more_to bytes rest now page written _ h k
    pass_more now page left written (Err BadDirection) h k = more_to bytes rest now page written _ h k
    pass_more now page left written (Err Mixed) h k = more_to bytes rest now page written _ h k
    pass_more now page left written (Err ReadFailed) h k =
        let f = in_front version bytes rest seen h in (
          f.0 ++ k.0,
          k.1,
          k.2,
          f.1 ∙ ap (λ xs. f.0 ++ xs) k.3 ∙ sym (append_assoc f.0 k.0 k.1),
          k.4,
          k.5,
          more_to (f.0 ++ k.0) k.0 now page written k.2 (f.2 k.0) k.6,
        )
    pass_more now page left written (Err WriteFailed) h k = (k.0, k.1, k.2, more_to bytes rest k.2 k.1 written k.0 h k.3)

-- ---- files

-- the text at the end, and what was left in the page
pub closes_out : (page text mid last : List ℕ) (a b c : Option (List ℕ)) (r : Result Unit Failed) → WritesText page a text mid b → OnOk r ((last ≡ []) × WritesText mid b [] last c) → OnErr r (WritesPrefixOf mid b [] c)
    → WritesTextOrPrefixOf page a text r [] c
closes_out page text mid last a b c (Ok done) h ok err = λ was said k.
    let out = ok.1 was (said ++ text) (h was said k) in
    (out.0, out.1, ap (λ xs. out.0 ++ xs) (sym ok.0) ∙ out.2 ∙ append-nil (said ++ text))
closes_out page text mid last a b c (Err failed) h ok err = (
  err.0,
  λ was said k.
      let out = err.1 was (said ++ text) (h was said k) in
      (out.0, out.1, out.2 ∙ append-nil (said ++ text)),
)

module _ {P : Type 0} (rules : PassRules P) (state : rules.State) (was : List ℕ) where
  -- a version that is not read
  pub file_refused : (bytes page : List ℕ) (written : Option (List ℕ)) (now : rules.State) (fault : FileFault) → read_version rules (version_of bytes) ≡ None → now ≡ state → SaidSoFar was page written []
      → fault ≡ BadHeader → PassesFileTo rules state was bytes (Some fault) now page written
  file_refused bytes page written now fault none e k b = ([], (rw none (refl, ap Some b)), e, k)

  -- a header that was not read
  pub file_none : (bytes window page : List ℕ) (left written : Option (List ℕ)) (now : rules.State) (fault : FileFault) → ReadsVersion bytes (Err fault) window left → now ≡ state → SaidSoFar was page written []
      → PassesFile rules state was bytes (Err fault) now left page written
  file_none bytes window page left written now BadHeader h e k = file_refused bytes page written now BadHeader (ap (read_version rules) h.1) e k refl
  file_none bytes window page left written now Truncated h e k = let f : ⊥ = cc (h.0) in absurd f
  file_none bytes window page left written now TooLong h e k = let f : ⊥ = cc (h.0) in absurd f
  file_none bytes window page left written now SpareNotZero h e k = let f : ⊥ = cc (h.0) in absurd f
  file_none bytes window page left written now BadDirection h e k = let f : ⊥ = cc (h.0) in absurd f
  file_none bytes window page left written now Mixed h e k = let f : ⊥ = cc (h.0) in absurd f
  file_none bytes window page left written now ReadFailed h e k =
      let none : version_of window ≡ None = version_of-short window h.0 in
      (window, h.1.0, Some BadHeader, sym h.1.2, h.1.1, h.0, file_refused window page written now BadHeader (ap (read_version rules) none) e k refl)
  file_none bytes window page left written now WriteFailed h e k = absurd h

  pub version_refused : (version : Version) (bytes : List ℕ) → rules.reads version ≡ false → version_of bytes ≡ Some version → read_version rules (version_of bytes) ≡ None
  version_refused version bytes unread h = ap (read_version rules) h ∙ ap (λ b. cond b (Some version) None) unread

  module _ (version : Version) (reads : rules.reads version ≡ true) where
    read_so : (bytes : List ℕ) → version_of bytes ≡ Some version → read_version rules (version_of bytes) ≡ Some version
    read_so bytes h = ap (read_version rules) h ∙ ap (λ b. cond b (Some version) None) reads

    file_to : (bytes page : List ℕ) (written : Option (List ℕ)) (now : rules.State) (fault : Option FileFault) → version_of bytes ≡ Some version
        → PassesTo rules version 1 state (drop 4 bytes) was [] (drop 4 bytes) fault now page written → PassesFileTo rules state was bytes fault now page written
    file_to bytes page written now fault h k = (k.0, (rw (read_so bytes h) k.1), k.2, k.3)

    -- the records behind a header
    pub file_passed : (bytes page : List ℕ) (left written : Option (List ℕ)) (now : rules.State) (r : Result Unit FileFault) → version_of bytes ≡ Some version
        → PassesFrom rules version 1 state (drop 4 bytes) was [] r now left page written → PassesFile rules state was bytes r now left page written
    file_passed bytes page left written now (Ok done) h k = file_to bytes page written now _ h k
    file_passed bytes page left written now (Err BadHeader) h k = file_to bytes page written now _ h k
    file_passed bytes page left written now (Err Truncated) h k = file_to bytes page written now _ h k
    file_passed bytes page left written now (Err TooLong) h k = file_to bytes page written now _ h k
    file_passed bytes page left written now (Err SpareNotZero) h k = file_to bytes page written now _ h k
    file_passed bytes page left written now (Err BadDirection) h k = file_to bytes page written now _ h k
    file_passed bytes page left written now (Err Mixed) h k = file_to bytes page written now _ h k
    file_passed bytes page left written now (Err ReadFailed) h k =
        let behind = after_version bytes k.0 k.1 version h k.3 in
        let given = take 4 bytes ++ k.0 in (
          given,
          k.1,
          k.2,
          behind.0,
          k.4,
          inside_cut given k.2 k.5,
          (k.6.0, (rw (read_so given behind.1, behind.2) k.6.1), k.6.2, k.6.3),
        )
    file_passed bytes page left written now (Err WriteFailed) h k = (k.0, k.1, k.2, file_to bytes k.1 written k.2 k.0 h k.3)

  -- ---- the end

  module _ (bytes page : List ℕ) (left written last : Option (List ℕ)) (now : rules.State) where
    -- the text at the end was written
    all_to : (fault : Option FileFault) (end : FileEnd) → PassesFileTo rules state was bytes fault now page written → WritesText page written (rules.closing now end) [] last
        → (records : List Recorded) × PassHolds rules bytes records fault × (last ≡ Some (was ++ whole_text rules state records end)) × (now ≡ state_from rules 1 state records)
    all_to fault end h k =
        let said = k was (text_from rules 1 state h.0) h.3 in
        let text : said.0 ≡ whole_text rules state h.0 end = sym (append-nil said.0) ∙ said.2 ∙ ap (λ s. text_from rules 1 state h.0 ++ rules.closing s end) h.2 in
        (h.0, h.1, said.1 ∙ ap (λ xs. Some (was ++ xs)) text, h.2)

    closed_to : (fault : Option FileFault) → PassesFileTo rules state was bytes fault now page written → WritesText page written (rules.closing now (end_at fault)) [] last
        → (text : List ℕ) × PrintsAs rules state bytes text fault × (last ≡ Some (was ++ text))
    closed_to fault h k = let all = all_to fault (end_at fault) h k in (whole_text rules state all.0 (end_at fault), (all.0, all.1, refl), all.2)

    pub closed : (r : Result Unit FileFault) → PassesFile rules state was bytes r now left page written → WritesText page written (rules.closing now (end_in r)) [] last → is_write_failed r ≡ false → Passes rules state bytes was left last (result_of rules now r)
    closed (Ok done) h k n = let all = all_to None Whole h k in (all.0, all.1, all.2, ap rules.good all.3)
    closed (Err BadHeader) h k n = closed_to _ h k
    closed (Err Truncated) h k n = closed_to _ h k
    closed (Err TooLong) h k n = closed_to _ h k
    closed (Err SpareNotZero) h k n = closed_to _ h k
    closed (Err BadDirection) h k n = closed_to _ h k
    closed (Err Mixed) h k n = closed_to _ h k
    closed (Err ReadFailed) h k n =
        let said = k was (text_from rules 1 state h.6.0) h.6.3 in
        let text : said.0 ≡ whole_text rules state h.6.0 CutOff = sym (append-nil said.0) ∙ said.2 ∙ ap (λ s. text_from rules 1 state h.6.0 ++ rules.closing s CutOff) h.6.2 in
        (h.0, h.1, whole_text rules state h.6.0 CutOff, h.3, h.4, (h.6.0, h.2, h.5, h.6.1, refl), said.1 ∙ ap (λ xs. Some (was ++ xs)) text)
    closed (Err WriteFailed) h k n = let f : ⊥ = cc in absurd f

    -- the text at the end could not be written
    part_to : (fault : Option FileFault) → PassesFileTo rules state was bytes fault now page written → WritesPrefixOf page written (rules.closing now (end_at fault)) last → WritesPrefix (PrintsAs rules state) bytes was last
    part_to fault h k =
        let said = k.1 was (text_from rules 1 state h.0) h.3 in
        (said.0, k.0, fault, (h.0, h.1, said.2 ∙ ap (λ s. text_from rules 1 state h.0 ++ rules.closing s (end_at fault)) h.2), said.1)

    pub closed_part : (r : Result Unit FileFault) → PassesFile rules state was bytes r now left page written → WritesPrefixOf page written (rules.closing now (end_in r)) last → is_write_failed r ≡ false → PrintsPrefix rules state bytes was last
    closed_part (Ok done) h k n = inl (part_to None h k)
    closed_part (Err BadHeader) h k n = inl (part_to _ h k)
    closed_part (Err Truncated) h k n = inl (part_to _ h k)
    closed_part (Err TooLong) h k n = inl (part_to _ h k)
    closed_part (Err SpareNotZero) h k n = inl (part_to _ h k)
    closed_part (Err BadDirection) h k n = inl (part_to _ h k)
    closed_part (Err Mixed) h k n = inl (part_to _ h k)
    closed_part (Err ReadFailed) h k n =
        let said = k.1 was (text_from rules 1 state h.6.0) h.6.3 in
        inr (h.0, h.1, said.0, k.0, h.3, (h.6.0, h.2, h.5, h.6.1, said.2 ∙ ap (λ s. text_from rules 1 state h.6.0 ++ rules.closing s CutOff) h.6.2), said.1)
    closed_part (Err WriteFailed) h k n = let f : ⊥ = cc in absurd f

    -- a text before could not be written
    pub broken_before : (r : Result Unit FileFault) → PassesFile rules state was bytes r now left page last → is_write_failed r ≡ true → PrintsPrefix rules state bytes was last
    broken_before (Ok done) h n = let f : ⊥ = cc in absurd f
    broken_before (Err BadHeader) h n = let f : ⊥ = cc in absurd f
    broken_before (Err Truncated) h n = let f : ⊥ = cc in absurd f
    broken_before (Err TooLong) h n = let f : ⊥ = cc in absurd f
    broken_before (Err SpareNotZero) h n = let f : ⊥ = cc in absurd f
    broken_before (Err BadDirection) h n = let f : ⊥ = cc in absurd f
    broken_before (Err Mixed) h n = let f : ⊥ = cc in absurd f
    broken_before (Err ReadFailed) h n = let f : ⊥ = cc in absurd f
    broken_before (Err WriteFailed) h n =
        let end = rules.closing h.2 (end_at h.0) in inl (h.3.3.0, h.1 ++ end, h.0, (h.3.0, h.3.1, sym (append_assoc h.3.3.0 h.1 end) ∙ ap (λ xs. xs ++ end) h.3.3.2 ∙ ap (λ s. text_from rules 1 state h.3.0 ++ rules.closing s (end_at h.0)) h.3.2), h.3.3.1)

-- ---- a reader whose output is a text for each file

module _ {P : Type 0} (rules : PassRules P) (state : rules.State) (told : TextReported) (cut : PrintedCut)
    (tells : (bytes text : List ℕ) (fault : Option FileFault) → PrintsAs rules state bytes text fault → told bytes text fault) (cuts : (given text : List ℕ) → PrintsCut rules state given text → cut given text) where
  module _ (longer : (given rest text : List ℕ) → cut given text → (more : List ℕ) × (last : Option FileFault) × told (given ++ rest) (text ++ more) last) (bytes was : List ℕ) (left written : Option (List ℕ)) where
    written_all : (fault : Option FileFault) → WritesAll (PrintsAs rules state) bytes was written fault → WritesAll told bytes was written fault
    written_all fault h = (h.0, tells bytes h.0 fault h.1, h.2)

    written_part : PrintsPrefix rules state bytes was written → WritesPrefix told bytes was written
    written_part (inl h) = (h.0, h.1, h.2, tells bytes (h.0 ++ h.1) h.2 h.3, h.4)
    written_part (inr h) =
        let more = longer h.0 h.1 (h.2 ++ h.3) (cuts h.0 (h.2 ++ h.3) h.5) in (
          h.2,
          h.3 ++ more.0,
          more.1,
          subst (λ xs. told bytes xs more.1) (append_assoc h.2 h.3 more.0) (subst (λ xs. told xs ((h.2 ++ h.3) ++ more.0) more.1) (sym h.4) more.2),
          h.6,
        )

    pub written_ok : (good : Bool) → Passes rules state bytes was left written (Ok good) → Writes told cut bytes was left written (Ok tt)
    written_ok good h = written_all None (whole_text rules state h.0 Whole, (h.0, h.1, refl), h.2)

    pub written_err : (fault : FileFault) → Passes rules state bytes was left written (Err fault) → Writes told cut bytes was left written (Err fault)
    written_err BadHeader h = written_all _ h
    written_err Truncated h = written_all _ h
    written_err TooLong h = written_all _ h
    written_err SpareNotZero h = written_all _ h
    written_err BadDirection h = written_all _ h
    written_err Mixed h = written_all _ h
    written_err ReadFailed h = (h.0, h.1, h.2, h.3, h.4, cuts h.0 h.2 h.5, h.6)
    written_err WriteFailed h = written_part h

-- ---- what is paid

pub waits_too : (prompt waits : Bool) → (prompt && waits) ≡ true → waits ≡ true
waits_too true waits h = h
waits_too false waits h = absurd (let f : ⊥ = cc in f)

-- what a pass that is prompt wrote, until it was closed
pub paid_prompt : (closes : Bool) (was now page : List ℕ) (w0 w1 w2 : ℕ) (b : Option (List ℕ)) (r0 r1 : ℕ) → Paid true w0 (Some was) r0 w1 b r1 (unpaid false page)
    → bytes_and_writes true w1 b + unpaid_closing closes page ≤ bytes_and_writes true w2 (Some now) + lost_pieces true → w0 ≤ w2 + (length now - length was) / 4096 + writes_beyond true closes (r0 - r1)
paid_prompt true was now [] w0 w1 w2 b r0 r1 h k = omega (arith, h, k)
paid_prompt true was now (byte ∷ page) w0 w1 w2 b r0 r1 h k = omega (arith, h, k)
paid_prompt false was now page w0 w1 w2 b r0 r1 h k = omega (arith, h, k)
