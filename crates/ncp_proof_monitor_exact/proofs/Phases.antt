-- In a capture without findings and without notices, no phase is suspended after any record, and nothing is
-- overlapped, in doubt or in part at its end.
use Rattle.std.proofs.Common.{◌≡◌, ℕ, ◌<◌, Bool, true, false, not, ◌&&◌, ◌||◌, if◌then◌else◌, List, [], ◌∷◌, ◌++◌, Option, None, Some, refl, sym, ap, ◌∙◌, subst}
use Rattle.std.specs.List.{list_all}
use Rattle.ncp_monitor.specs.declared.coverage.PairCoverage.{PairCoverage}
use Rattle.ncp_monitor.specs.declared.coverage.Unjudged.{Unjudged}
use Rattle.ncp_monitor.specs.declared.coverage.Unjudged.TheVariants.{Messages, Connections, Late, Crowded, Suspended, Restarted, Connection, Part, Alone}
use Rattle.ncp_monitor.specs.declared.finding.Finding.{Finding}
use Rattle.ncp_monitor.specs.declared.monitor.Monitor.{Monitor}
use Rattle.ncp_monitor.specs.Judged.{new_monitor, has_seen, is_crowded}
use Rattle.ncp_monitor.specs.Resets.{is_in_doubt}
use Rattle.ncp_monitor.specs.Coverage.{CaptureRecord, is_session_suspended, new_coverage, pair_in, coverage_of, holds_once, is_restarted}
use Rattle.ncp_proof_monitor_messages.specs.Files.{findings_in}
use Rattle.ncp_proof_monitor_messages.specs.ManyFiles.{AllFit}
use Rattle.ncp_proof_interface_resets.specs.ResetRuns.{has_no_notice, judged_in}
use Rattle.ncp_proof_interface_resets.proofs.Plain.{Plain, plain_new, without_notices}
use Rattle.ncp_proof_monitor_exact.specs.Covered.{AtHosts}
use Rattle.ncp_proof_monitor_exact.proofs.Noting.{noted_by_records}
use Rattle.ncp_proof_monitor_exact.specs.Exact.{monitor_after_file}
use Rattle.ncp_proof_monitor_exact.proofs.Rests.{no_phase_suspended}
use Rattle.ncp_proof_monitor_exact.specs.Judged.{monitor_past_all}
use Rattle.ncp_proof_monitor_exact.proofs.Fronts.{same_monitor, stays_plain, stays_sound, begins_sound, fits_front, none_front, clean_front, open_front, never_once}

pub at_hosts : (file : List CaptureRecord) → AllFit file → AtHosts file
at_hosts [] fit = tt
at_hosts (one ∷ more) fit = (fit.0, at_hosts more fit.2)

module _ (file : List CaptureRecord) (fit : AllFit file) (none : list_all has_no_notice file ≡ true) (clean : judged_in (new_monitor false) file ≡ []) where
  -- it is that of an audit that knows of no notices
  pub found_none : findings_in (new_monitor false) file ≡ []
  found_none = sym (without_notices false file none) ∙ clean

  pub ends_same : monitor_past_all (new_monitor false) file ≡ monitor_after_file (new_monitor false) file
  ends_same = same_monitor file (new_monitor false) (plain_new false) none

  -- ---- after each prefix

  module _ (front back : List CaptureRecord) (is : front ++ back ≡ file) where
    pub front_fits : AllFit front
    front_fits = fits_front front back (subst (λ (rs : List CaptureRecord). AllFit rs) (sym is) fit)

    front_none : list_all has_no_notice front ≡ true
    front_none = none_front front back (ap (list_all has_no_notice) is ∙ none)

    pub front_found : findings_in (new_monitor false) front ≡ []
    front_found = clean_front (new_monitor false) front back (ap (findings_in (new_monitor false)) is ∙ found_none)

    pub front_same : monitor_past_all (new_monitor false) front ≡ monitor_after_file (new_monitor false) front
    front_same = same_monitor front (new_monitor false) (plain_new false) front_none

    front_open : (monitor_after_file (new_monitor false) file).full ≡ false → (monitor_after_file (new_monitor false) front).full ≡ false
    front_open full = open_front (new_monitor false) front back (ap (λ (rs : List CaptureRecord). (monitor_after_file (new_monitor false) rs).full) is ∙ full)

    front_calm : (monitor_after_file (new_monitor false) file).full ≡ false → (at peer : ℕ) → at < 256 → peer < 256 → is_session_suspended (monitor_past_all (new_monitor false) front) at peer ≡ false
    front_calm full at peer a c = ap (λ (v : Monitor). is_session_suspended v at peer) front_same ∙ (no_phase_suspended front at peer front_fits (front_open full) front_found a c).1

  -- ---- at its end

  module _ (at peer : ℕ) (a : at < 256) (c : peer < 256) where
    abbrev pub after : Monitor
    after = monitor_past_all (new_monitor false) file

    abbrev pub pair : PairCoverage
    pair = pair_in (coverage_of (new_monitor false) new_coverage file) at peer

    -- what is known of the two if there was room for all messages
    pub record Quiet : Type 0 where
      pub here : is_crowded after at peer ≡ false
      pub there : is_crowded after peer at ≡ false
      pub calm : pair.suspended ≡ false
      pub whole : after.part ≡ false

    pub quiet : after.full ≡ false → Quiet
    quiet full = record {
      here = ap (λ (v : Monitor). is_crowded v at peer) ends_same ∙ (no_phase_suspended file at peer fit room found_none a c).2;
      there = ap (λ (v : Monitor). is_crowded v peer at) ends_same ∙ (no_phase_suspended file peer at fit room found_none c a).2;
      calm = ap (λ (p : PairCoverage). p.suspended) (noted_by_records false file at peer (at_hosts file fit) a c)
          ∙ never_once (λ (v : Monitor). is_session_suspended v at peer) at peer (new_monitor false) file (λ front back is. front_calm front back is room at peer a c);
      whole = ap (λ (v : Monitor). v.part) ends_same ∙ (stays_sound file (new_monitor false) begins_sound).part;
    }
      where
        room : (monitor_after_file (new_monitor false) file).full ≡ false
        room = ap (λ (v : Monitor). v.full) (sym ends_same) ∙ full

    -- no interface was reset
    pub not_restarted : is_restarted after at peer ≡ false
    not_restarted =
        let k : Plain after = subst (λ (v : Monitor). Plain v) (sym ends_same) (stays_plain file (new_monitor false) (plain_new false) none) in
        ap (λ (b : Bool). not (not b) || not (not (is_in_doubt after.in_doubt at peer))) (k.clear at) ∙ ap (λ (b : Bool). not (not b)) (k.sure at peer)
