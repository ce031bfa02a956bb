-- What an audit does, by what its auditor has seen before.
use Rattle.std.proofs.Common.{◌≡◌, ℕ, Bool, List, Option, Result, subst}
use Rattle.std.specs.Prelude.{IfOk}
use Rattle.ncp_play_files.specs.declared.file.FileFault.{FileFault}
use Rattle.ncp_play_files.specs.Writing.{Writes}
use Rattle.ncp_monitor.specs.declared.monitor.Monitor.{Monitor}
use Rattle.ncp_play_audit.specs.Audited.{Noted, AuditedCut, ReportedAs, HasReportVerdict, done_of}

module _ (standard : Bool) (bytes was : List ℕ) (left written : Option (List ℕ)) (r : Result Bool FileFault) where
  abbrev Does : Bool → Monitor → Noted → Type 0
  Does strict monitor noted =
      Writes (ReportedAs standard monitor noted) (AuditedCut standard monitor) bytes was left written (done_of r) × IfOk r (HasReportVerdict strict standard monitor noted bytes)

  pub same_audit : (strict strict' : Bool) (one other : Monitor) (noted noted' : Noted) → one ≡ other → noted ≡ noted' → strict ≡ strict'
      → Writes (ReportedAs standard one noted) (AuditedCut standard one) bytes was left written (done_of r) → IfOk r (HasReportVerdict strict standard one noted bytes)
      → Does strict' other noted'
  same_audit strict strict' one other noted noted' e f s writes verdict =
      subst (λ (b : Bool). Does b other noted') s (subst (λ (n : Noted). Does strict other n) f (subst (λ (u : Monitor). Does strict u noted) e (writes, verdict)))
