-- The pass of `audit`: the lines of coverage after those of the findings, and the result.
use Rattle.std.proofs.Common.{◌≡◌, ℕ, ◌+◌, ◌≤◌, ◌&&◌, ◌||◌, not, Bool, true, false, List, [], ◌∷◌, ◌++◌, is_some, Option, Some, None, Result, Ok, Err, OnOk, refl, sym, ap, ◌∙◌, subst, arith}
use Rattle.std.specs.Prelude.{IfOk}
use Rattle.std.proofs.Math.Bool.{and_assoc}
use Rattle.std.proofs.lemmas.List.{append_assoc, append-nil}
use Rattle.ncp_play_files.specs.declared.file.FileFault.{FileFault}
use Rattle.ncp_play_files.specs.declared.version.Version.{Version}
use Rattle.ncp_play_files.specs.declared.version.Version.TheVariants.{One, Two}
use Rattle.ncp_play_files.specs.declared.pass.FileEnd.{FileEnd}
use Rattle.ncp_play_files.specs.declared.pass.FileEnd.TheVariants.{CutOff}
use Rattle.ncp_play_files.specs.File.{version_of}
use Rattle.ncp_play_files.specs.Versions.{Recorded}
use Rattle.ncp_play_files.specs.Writing.{Writes}
use Rattle.ncp_play_files.specs.Passes.{end_at, text_from, state_from, whole_text, PassHolds, PrintsAs, PrintsCut, Passes, writes_beyond}
use Rattle.ncp_play_files.proofs.PassProgress.{written_ok, written_err}
use Rattle.ncp_play_buffer.specs.Lines.{number_after}
use Rattle.ncp_monitor.specs.declared.monitor.Monitor.{Monitor}
use Rattle.ncp_play_audit.specs.Audited.{Noted, monitor_after, noted_after, monitor_after_all, noted_after_all, noted_lines, finding_lines, audit_lines, is_clean_record, is_clean, is_noted_judged, AuditedIn, AuditedAs, AuditedCut, CoveredIn, ReportedAs, HasReportVerdict, done_of, short_writes, AuditState, closing_lines, audit_pass}
use Rattle.ncp_play_audit.proofs.Findings.{none_noted, audited_longer}

module _ (standard : Bool) (monitor : Monitor) (bytes : List ℕ) where
  -- what is printed without coverage is a prefix of what is printed
  covered_longer : (noted : Noted) (text : List ℕ) (fault : Option FileFault) (o : Option Version) → version_of bytes ≡ o → AuditedIn standard monitor bytes text fault o
      → (more : List ℕ) × ReportedAs standard monitor noted bytes (text ++ more) fault
  covered_longer None text fault o e h = ([], subst (λ xs. AuditedAs standard monitor bytes xs fault) (sym (append-nil text)) (subst (AuditedIn standard monitor bytes text fault) (sym e) h))
  covered_longer (Some pairs) text fault None e h =
      let more = noted_lines monitor (Some pairs) in
      (more, subst (CoveredIn standard monitor (Some pairs) bytes (text ++ more) fault) (sym e) (ap (λ xs. xs ++ more) h.0, h.1))
  covered_longer (Some pairs) text fault (Some (One direction)) e h =
      let more = noted_lines monitor (Some pairs) in
      (more, subst (CoveredIn standard monitor (Some pairs) bytes (text ++ more) fault) (sym e) (ap (λ xs. xs ++ more) h.0, h.1))
  covered_longer (Some pairs) text fault (Some Two) e h =
      let more = noted_lines (monitor_after_all monitor h.0) (noted_after_all monitor (Some pairs) h.0) in
      (more, subst (CoveredIn standard monitor (Some pairs) bytes (text ++ more) fault) (sym e) (h.0, h.1, ap (λ xs. xs ++ more) h.2))

-- as of the bytes before a failed read
pub reported_longer : (standard : Bool) (monitor : Monitor) (noted : Noted) (given rest text : List ℕ) → AuditedCut standard monitor given text
    → (more : List ℕ) × (last : Option FileFault) × ReportedAs standard monitor noted (given ++ rest) (text ++ more) last
reported_longer standard monitor noted given rest text h =
    let longer = audited_longer standard monitor given rest text h in
    let covered = covered_longer standard monitor (given ++ rest) noted (text ++ longer.0) longer.1 (version_of (given ++ rest)) refl longer.2 in
    (longer.0 ++ covered.0, longer.1, subst (λ xs. ReportedAs standard monitor noted (given ++ rest) xs longer.1) (append_assoc text longer.0 covered.0) covered.1)

-- ---- the state after records, and their text

and_true : (b : Bool) → b ≡ (b && true)
and_true true = refl
and_true false = refl

module _ (standard strict : Bool) where
  abbrev state_of : Bool → Monitor → Noted → AuditState
  state_of clean monitor noted = record { standard = standard; strict = strict; clean = clean; monitor = monitor; noted = noted }

  state_is : (number : ℕ) (clean : Bool) (monitor : Monitor) (noted : Noted) (records : List Recorded)
      → state_from audit_pass number (state_of clean monitor noted) records ≡ state_of (clean && is_clean standard monitor records) (monitor_after_all monitor records) (noted_after_all monitor noted records)
  state_is number clean monitor noted [] = ap (λ (b : Bool). state_of b monitor noted) (and_true clean)
  state_is number clean monitor noted (seen ∷ more) =
      let one = is_clean_record standard monitor seen in
      let after : Monitor = monitor_after monitor seen in
      let now : Noted = noted_after after noted seen in
      state_is (number_after number) (clean && one) after now more
      ∙ ap (λ (b : Bool). state_of b (monitor_after_all after more) (noted_after_all after now more)) (and_assoc clean one (is_clean standard after more))

  told_is : (number : ℕ) (clean : Bool) (monitor : Monitor) (noted : Noted) (records : List Recorded) → text_from audit_pass number (state_of clean monitor noted) records ≡ audit_lines standard monitor number records
  told_is number clean monitor noted [] = refl
  told_is number clean monitor noted (seen ∷ more) =
      let after : Monitor = monitor_after monitor seen in
      ap (λ (xs : List ℕ). finding_lines standard monitor number seen ++ xs) (told_is (number_after number) (clean && is_clean_record standard monitor seen) after (noted_after after noted seen) more)

  module _ (monitor : Monitor) (noted : Noted) where
    all_lines : (records : List Recorded) (ends : FileEnd)
        → whole_text audit_pass (state_of true monitor noted) records ends ≡ audit_lines standard monitor 1 records ++ closing_lines ends (monitor_after_all monitor records) (noted_after_all monitor noted records)
    all_lines records ends =
        let last : AuditState = state_from audit_pass 1 (state_of true monitor noted) records in
        ap (λ (text : List ℕ). text ++ closing_lines ends last.monitor last.noted) (told_is 1 true monitor noted records)
        ∙ ap (λ (state : AuditState). audit_lines standard monitor 1 records ++ closing_lines ends state.monitor state.noted) (state_is 1 true monitor noted records)

    whole_lines : (records : List Recorded) (fault : Option FileFault)
        → whole_text audit_pass (state_of true monitor noted) records (end_at fault) ≡ audit_lines standard monitor 1 records ++ noted_lines (monitor_after_all monitor records) (noted_after_all monitor noted records)
    whole_lines records None = all_lines records (end_at None)
    whole_lines records (Some fault) = all_lines records (end_at (Some fault))

pub same_state : (standard s s' b b' : Bool) (m m' : Monitor) (n n' : Noted) → s ≡ s' → b ≡ b' → m ≡ m' → n ≡ n' → state_of standard s b m n ≡ state_of standard s' b' m' n'
same_state standard s s' b b' m m' n n' e f g h =
    ap (λ (x : Bool). state_of standard x b m n) e ∙ ap (λ (x : Bool). state_of standard s' x m n) f ∙ ap (λ (x : Monitor). state_of standard s' b' x n) g ∙ ap (λ (x : Noted). state_of standard s' b' m' x) h

pub on_ok : {X E P : Type 0} (r : Result X E) → P → OnOk r P
on_ok (Ok x) p = p
on_ok (Err e) p = tt

-- ---- files

module _ (standard strict : Bool) (monitor : Monitor) where
  reported_by : (noted : Noted) (bytes text : List ℕ) (fault : Option FileFault) (records : List Recorded) (o : Option Version) → version_of bytes ≡ o → PassHolds audit_pass bytes records fault
      → text ≡ audit_lines standard monitor 1 records ++ noted_lines (monitor_after_all monitor records) (noted_after_all monitor noted records) → ReportedAs standard monitor noted bytes text fault
  reported_by None bytes text fault records None e h t =
      let held = rw e at h in
      subst (AuditedIn standard monitor bytes text fault) (sym e) (t ∙ ap (λ (rs : List Recorded). audit_lines standard monitor 1 rs ++ noted_lines (monitor_after_all monitor rs) (noted_after_all monitor None rs)) held.0, held.1)
  reported_by None bytes text fault records (Some (One direction)) e h t =
      let held = rw e at h in
      subst (AuditedIn standard monitor bytes text fault) (sym e) (t ∙ ap (λ (rs : List Recorded). audit_lines standard monitor 1 rs ++ noted_lines (monitor_after_all monitor rs) (noted_after_all monitor None rs)) held.0, held.1)
  reported_by None bytes text fault records (Some Two) e h t =
      let held = rw e at h in
      let lines = audit_lines standard monitor 1 records in
      subst (AuditedIn standard monitor bytes text fault) (sym e) (records, held, t ∙ ap (λ (n : Noted). lines ++ noted_lines (monitor_after_all monitor records) n) (none_noted monitor records) ∙ append-nil lines)
  reported_by (Some pairs) bytes text fault records None e h t =
      let held = rw e at h in
      subst (CoveredIn standard monitor (Some pairs) bytes text fault) (sym e) (t ∙ ap (λ (rs : List Recorded). audit_lines standard monitor 1 rs ++ noted_lines (monitor_after_all monitor rs) (noted_after_all monitor (Some pairs) rs)) held.0, held.1)
  reported_by (Some pairs) bytes text fault records (Some (One direction)) e h t =
      let held = rw e at h in
      subst (CoveredIn standard monitor (Some pairs) bytes text fault) (sym e) (t ∙ ap (λ (rs : List Recorded). audit_lines standard monitor 1 rs ++ noted_lines (monitor_after_all monitor rs) (noted_after_all monitor (Some pairs) rs)) held.0, held.1)
  reported_by (Some pairs) bytes text fault records (Some Two) e h t =
      let held = rw e at h in subst (CoveredIn standard monitor (Some pairs) bytes text fault) (sym e) (records, held, t)

  cut_by : (bytes text : List ℕ) (fault : Option FileFault) (records : List Recorded) (o : Option Version) → version_of bytes ≡ o → PassHolds audit_pass bytes records fault → text ≡ audit_lines standard monitor 1 records → AuditedAs standard monitor bytes text fault
  cut_by bytes text fault records None e h t = let held = rw e at h in subst (AuditedIn standard monitor bytes text fault) (sym e) (t ∙ ap (audit_lines standard monitor 1) held.0, held.1)
  cut_by bytes text fault records (Some (One direction)) e h t = let held = rw e at h in subst (AuditedIn standard monitor bytes text fault) (sym e) (t ∙ ap (audit_lines standard monitor 1) held.0, held.1)
  cut_by bytes text fault records (Some Two) e h t = let held = rw e at h in subst (AuditedIn standard monitor bytes text fault) (sym e) (records, held, t)

  module _ (noted : Noted) where
    reported_as : (bytes text : List ℕ) (fault : Option FileFault) → PrintsAs audit_pass (state_of standard strict true monitor noted) bytes text fault → ReportedAs standard monitor noted bytes text fault
    reported_as bytes text fault h = reported_by noted bytes text fault h.0 (version_of bytes) refl h.1 (h.2 ∙ whole_lines standard strict monitor noted h.0 fault)

    reported_cut : (given text : List ℕ) → PrintsCut audit_pass (state_of standard strict true monitor noted) given text → AuditedCut standard monitor given text
    reported_cut given text h = (h.1, h.2, cut_by given text h.1 h.0 (version_of given) refl h.3 (h.4 ∙ all_lines standard strict monitor noted h.0 CutOff ∙ append-nil (audit_lines standard monitor 1 h.0)))

    pub audited_writes : (bytes was : List ℕ) (left written : Option (List ℕ)) (r : Result Bool FileFault) → Passes audit_pass (state_of standard strict true monitor noted) bytes was left written r
        → Writes (ReportedAs standard monitor noted) (AuditedCut standard monitor) bytes was left written (done_of r)
    audited_writes bytes was left written (Ok good) h = written_ok audit_pass (state_of standard strict true monitor noted) (ReportedAs standard monitor noted) (AuditedCut standard monitor) reported_as reported_cut (reported_longer standard monitor noted) bytes was left written good h
    audited_writes bytes was left written (Err fault) h = written_err audit_pass (state_of standard strict true monitor noted) (ReportedAs standard monitor noted) (AuditedCut standard monitor) reported_as reported_cut (reported_longer standard monitor noted) bytes was left written fault h

    -- the result
    verdict_by : (strictly : Bool) (bytes : List ℕ) (records : List Recorded) (good : Bool) (o : Option Version) → version_of bytes ≡ o → PassHolds audit_pass bytes records None
        → good ≡ (is_clean standard monitor records && (not strictly || is_noted_judged (monitor_after_all monitor records) (noted_after_all monitor noted records))) → HasReportVerdict strictly standard monitor noted bytes good
    verdict_by strictly bytes records good None e h g = let held = rw e at h in absurd (let f : ⊥ = cc (held.1) in f)
    verdict_by strictly bytes records good (Some (One direction)) e h g = let held = rw e at h in absurd (let f : ⊥ = cc (held.1) in f)
    verdict_by false bytes records good (Some Two) e h g = let held = rw e at h in (records, e, held, g ∙ sym (and_true (is_clean standard monitor records)))
    verdict_by true bytes records good (Some Two) e h g = let held = rw e at h in (records, e, held, g)

    pub audited_verdict : (bytes was : List ℕ) (left written : Option (List ℕ)) (r : Result Bool FileFault) → Passes audit_pass (state_of standard strict true monitor noted) bytes was left written r → IfOk r (HasReportVerdict strict standard monitor noted bytes)
    audited_verdict bytes was left written (Ok good) h = verdict_by strict bytes h.0 good (version_of bytes) refl h.1 (h.3 ∙ ap audit_pass.good (state_is standard strict 1 true monitor noted h.0))
    audited_verdict bytes was left written (Err fault) h = tt

-- ---- writes

pub few_writes : (noted : Noted) (before after pieces reads : ℕ) → before ≤ after + pieces + writes_beyond true (is_some noted) reads → before ≤ after + pieces + reads + short_writes noted
few_writes None before after pieces reads h = omega (arith, h)
few_writes (Some pairs) before after pieces reads h = omega (arith, h)

-- without coverage all counts as judged
pub plain_good : (clean strict : Bool) → clean ≡ (clean && (not strict || true))
plain_good true true = refl
plain_good true false = refl
plain_good false strict = refl
