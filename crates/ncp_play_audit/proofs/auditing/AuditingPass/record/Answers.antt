use Rattle.std.proofs.Common.{◌≡◌, ◌∙◌, ◌&&◌, List, Bool, ℕ, not, option_map, subst, ap}
use Rattle.std.specs.List.{list_any}
use Rattle.ncp_play_buffer.specs.BufferedSinks.{RendersOrBreaks}
use Rattle.ncp_play_files.specs.Versions.{Recorded}
use Rattle.ncp_monitor.specs.declared.finding.Finding.{Finding}
use Rattle.ncp_interface.specs.declared.imp_direction.ImpDirection.{ImpDirection}
use Rattle.ncp_monitor.specs.declared.monitor.Monitor.{Monitor}
use Rattle.ncp_interface.specs.Events.{event_of}
use Rattle.ncp_monitor.specs.Resets.{judged_findings, after_judged}
use Rattle.ncp_monitor.specs.Coverage.{after_noted}
use Rattle.ncp_play_audit.specs.FindingLines.{is_told}
use Rattle.ncp_play_audit.specs.Audited.{findings_of, way_of, monitor_after, noted_after, finding_lines}
use Rattle.ncp_play_audit.proofs.Findings.{one_lines}
use Rattle.ncp_play_audit.proofs.Covering.{same_state, on_ok}
use Rattle.ncp_play_audit.proofs.auditing.AuditingPass.record.Goals as goal

pub returns-clause-output : goal.returns-clause-output
returns-clause-output g c =
    let standard = c.args.self.now.standard in let monitor = c.args.self.now.auditor.now.monitor in
    let bits = c.args.message in let direction = c.args.capture_point.direction in
    let seen : Recorded = record { capture_point = c.args.capture_point; message = bits } in
    let found : c.as_slice-found.result.now ≡ findings_of monitor seen =
    c.as_slice-found.ensures ∙ c.judge.ensures.found ∙ ap (judged_findings monitor c.way_of-way.result c.host_of-at.result) c.copy_from_part.ensures ∙ ap (λ w. judged_findings monitor w c.host_of-at.result bits) c.way_of-way.ensures
    ∙ ap (λ n. judged_findings monitor (way_of direction) n bits) c.host_of-at.ensures in
    let lines = one_lines standard monitor c.number.result c.host_of-at.result seen c.as_slice-found.result.now c.host_of-at.ensures found in
    subst (λ (text : List ℕ). RendersOrBreaks g.W.Sink c.args.out.now text c.render_findings.result c.render_findings.new.out) (lines ∙ ap (λ n. finding_lines standard monitor n seen) c.number.ensures) c.render_findings.ensures.output

pub returns-clause-state : goal.returns-clause-state
returns-clause-state g c =
    let old = c.args.self.now in let standard = old.standard in let monitor = old.auditor.now.monitor in let noted = old.auditor.now.noted in
    let bits = c.args.message in let direction = c.args.capture_point.direction in let at = c.host_of-at.result in let way = c.way_of-way.result in
    let seen : Recorded = record { capture_point = c.args.capture_point; message = bits } in
    let after = monitor_after monitor seen in
    let found : c.as_slice-found.result.now ≡ findings_of monitor seen =
    c.as_slice-found.ensures ∙ c.judge.ensures.found ∙ ap (judged_findings monitor way at) c.copy_from_part.ensures ∙ ap (λ w. judged_findings monitor w at bits) c.way_of-way.ensures
    ∙ ap (λ n. judged_findings monitor (way_of direction) n bits) c.host_of-at.ensures in
    let clean = c.both-self.ensures ∙ ap (λ b. old.clean && b) (c.is_clean.ensures ∙ ap (λ (fs : List Finding). not (list_any (is_told standard) fs)) found) in
    let judged : c.judge.new.self.monitor ≡ after =
    c.judge.ensures.monitor ∙ ap (after_judged monitor way at) c.copy_from_part.ensures ∙ ap (λ w. after_judged monitor w at bits) c.way_of-way.ensures ∙ ap (λ n. after_judged monitor (way_of direction) n bits) c.host_of-at.ensures in
    let kept : c.judge.new.self.noted ≡ noted_after after noted seen =
    c.judge.ensures.noted
    ∙ ap (λ (m : Monitor). option_map (after_noted m at (event_of way at c.copy_from_part.new.self)) noted) judged
    ∙ ap (λ (xs : List Bool). option_map (after_noted after at (event_of way at xs)) noted) c.copy_from_part.ensures
    ∙ ap (λ (w : ImpDirection). option_map (after_noted after at (event_of w at bits)) noted) c.way_of-way.ensures
    ∙ ap (λ (n : ℕ). option_map (after_noted after n (event_of (way_of direction) n bits)) noted) c.host_of-at.ensures in
    on_ok c.render_findings.result (same_state standard _ _ _ _ _ _ _ _ c.judge.ensures.strict clean judged kept)
