-- The lines of the findings of records, one after the other.
use Rattle.std.proofs.Common.{◌≡◌, ℕ, Bool, List, [], ◌∷◌, ◌++◌, drop, Option, Some, None, refl, sym, ap, ◌∙◌, subst}
use Rattle.std.specs.List.{flat_map}
use Rattle.std.proofs.lemmas.List.{append_assoc}
use Rattle.ncp_play_files.specs.declared.file.FileFault.{FileFault}
use Rattle.ncp_play_files.specs.declared.file.FileFault.TheVariants.{BadHeader}
use Rattle.ncp_play_files.specs.declared.version.Version.{Version}
use Rattle.ncp_play_files.specs.declared.version.Version.TheVariants.{One, Two}
use Rattle.ncp_play_files.specs.File.{version_of, HoldsBy}
use Rattle.ncp_play_files.specs.Versions.{Recorded, next_in}
use Rattle.ncp_play_files.proofs.Contents.{by_some, by_longer}
use Rattle.ncp_play_files.proofs.Placing.{in_front}
use Rattle.ncp_play_files.proofs.Progress.{longer_header}
use Rattle.ncp_play_buffer.specs.Lines.{number_after}
use Rattle.ncp_monitor.specs.declared.finding.Finding.{Finding}
use Rattle.ncp_monitor.specs.declared.monitor.Monitor.{Monitor}
use Rattle.ncp_play_audit.specs.Audited.{host_of, findings_of, monitor_after, noted_after_all, finding_lines, audit_lines, AuditedIn, AuditedAs, AuditedCut}
use Rattle.ncp_play_audit.specs.FindingLines.{reported_line}

-- the lines of the findings of a record
pub one_lines : (standard : Bool) (monitor : Monitor) (number at : ℕ) (seen : Recorded) (found : List Finding) → at ≡ host_of seen.capture_point.at → found ≡ findings_of monitor seen
    → flat_map (reported_line standard number at) found ≡ finding_lines standard monitor number seen
one_lines standard monitor number at seen found a f =
    ap (λ n. flat_map (reported_line standard number n) found) a ∙ ap (λ (fs : List Finding). flat_map (reported_line standard number (host_of seen.capture_point.at)) fs) f

-- without coverage nothing is noted
pub none_noted : (monitor : Monitor) (records : List Recorded) → noted_after_all monitor None records ≡ None
none_noted monitor [] = refl
none_noted monitor (seen ∷ more) = none_noted (monitor_after monitor seen) more

-- ---- lines of the bytes that came are a beginning of the lines of all bytes

lines_longer : (standard : Bool) (monitor : Monitor) (number : ℕ) (records more : List Recorded)
    → (rest : List ℕ) × (audit_lines standard monitor number (records ++ more) ≡ audit_lines standard monitor number records ++ rest)
lines_longer standard monitor number [] more = (audit_lines standard monitor number more, refl)
lines_longer standard monitor number (first ∷ records) more =
    let longer = lines_longer standard (monitor_after monitor first) (number_after number) records more in
    (longer.0, ap (λ xs. finding_lines standard monitor number first ++ xs) longer.1 ∙ sym (append_assoc (finding_lines standard monitor number first) _ longer.0))

module _ (standard : Bool) (monitor : Monitor) where
  audited_some : (bytes : List ℕ) (o : Option Version) → (text : List ℕ) × (fault : Option FileFault) × AuditedIn standard monitor bytes text fault o
  audited_some bytes None = ([], Some BadHeader, (refl, refl))
  audited_some bytes (Some (One direction)) = ([], Some BadHeader, (refl, refl))
  audited_some bytes (Some Two) = let held = by_some (next_in Two) (in_front Two) (drop 4 bytes) in (audit_lines standard monitor 1 held.0, held.1, (held.0, held.2, refl))

  longer_by : (given rest text : List ℕ) (fault : Option FileFault) (o : Option Version) → version_of given ≡ o → AuditedIn standard monitor given text fault o
      → (more : List ℕ) × (last : Option FileFault) × AuditedAs standard monitor (given ++ rest) (text ++ more) last
  longer_by given rest text fault None e h =
      let some = audited_some (given ++ rest) (version_of (given ++ rest)) in
      (some.0, some.1, subst (λ xs. AuditedAs standard monitor (given ++ rest) (xs ++ some.0) some.1) (sym h.0) some.2)
  longer_by given rest text fault (Some (One direction)) e h =
      let some = audited_some (given ++ rest) (version_of (given ++ rest)) in
      (some.0, some.1, subst (λ xs. AuditedAs standard monitor (given ++ rest) (xs ++ some.0) some.1) (sym h.0) some.2)
  longer_by given rest text fault (Some Two) e h =
      let head = longer_header given rest Two e in
      let longer = by_longer (next_in Two) (in_front Two) (drop 4 given) rest h.0 fault h.1 in
      let lines = lines_longer standard monitor 1 h.0 longer.0 in (
        lines.0,
        longer.1,
        subst (AuditedIn standard monitor (given ++ rest) (text ++ lines.0) longer.1) (sym head.0) (
          h.0 ++ longer.0,
          subst (λ xs. HoldsBy (next_in Two) xs (h.0 ++ longer.0) longer.1) (sym head.1) longer.2,
          ap (λ xs. xs ++ lines.0) h.2 ∙ sym lines.1,
        ),
      )

  pub audited_longer : (given rest text : List ℕ) → AuditedCut standard monitor given text → (more : List ℕ) × (last : Option FileFault) × AuditedAs standard monitor (given ++ rest) (text ++ more) last
  audited_longer given rest text h = longer_by given rest text h.0 (version_of given) refl h.2
