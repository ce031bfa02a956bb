-- A capture without notices is judged as if there were none; and what holds of a capture holds of each
-- prefix of it.
use Rattle.std.proofs.Common.{◌≡◌, ℕ, ◌<◌, Bool, true, false, ◌&&◌, ◌||◌, List, [], ◌∷◌, ◌++◌, length, Option, None, Some, is_none, refl, sym, ap, ◌∙◌, subst}
use Rattle.std.specs.List.{list_all}
use Rattle.std.proofs.lemmas.Bool.{and_parts}
use Rattle.std.proofs.lemmas.List.{length-replicate}
use Rattle.ncp_interface.specs.declared.event.InterfaceEvent.{InterfaceEvent}
use Rattle.ncp_interface.specs.declared.event.InterfaceEvent.TheVariants as event
use Rattle.ncp_monitor.specs.declared.finding.Finding.{Finding}
use Rattle.ncp_monitor.specs.declared.monitor.Monitor.{Monitor}
use Rattle.ncp_interface.specs.declared.notice.ImpNotice.{ImpNotice}
use Rattle.ncp_monitor.specs.declared.views.TheConstants.{HOSTS, VIEWS}
use Rattle.ncp_leader.specs.Message.{message_in}
use Rattle.ncp_interface.specs.Events.{event_of}
use Rattle.ncp_interface.specs.Notices.{notice_of}
use Rattle.ncp_monitor.specs.Views.{new_view}
use Rattle.ncp_monitor.specs.Judged.{new_monitor, sees, fresh_out, monitor_after_out, after_in, turn_at, after_event, record_findings, after_record}
use Rattle.ncp_monitor.specs.Coverage.{CaptureRecord, monitor_past, passes, holds_once}
use Rattle.ncp_proof_monitor_messages.specs.Files.{findings_in}
use Rattle.ncp_proof_monitor_messages.specs.ManyFiles.{AllFit}
use Rattle.ncp_proof_monitor_messages.proofs.OneWay.{Sound, sound_sees, sound_out, sound_said, sound_in, sound_answer}
use Rattle.ncp_proof_interface_resets.specs.ResetRuns.{has_no_notice}
use Rattle.ncp_proof_interface_resets.proofs.Plain.{Plain, plain_record}
use Rattle.ncp_proof_monitor_exact.specs.Exact.{monitor_after_file}
use Rattle.ncp_proof_monitor_exact.proofs.Walk.{begins_open}
use Rattle.ncp_proof_monitor_exact.specs.Judged.{monitor_past_all}

pub parts : (xs ys : List Finding) → xs ++ ys ≡ [] → (xs ≡ []) × (ys ≡ [])
parts [] ys e = (refl, e)
parts (x ∷ xs) ys e = absurd (cc e)

-- ---- without notices

is_nothing : (o : Option ImpNotice) → is_none o ≡ true → o ≡ None
is_nothing None e = refl
is_nothing (Some x) e = absurd (cc e)

pub same_monitor : (file : List CaptureRecord) (u : Monitor) → Plain u → list_all has_no_notice file ≡ true → monitor_past_all u file ≡ monitor_after_file u file
same_monitor [] u k none = refl
same_monitor (one ∷ more) u k none =
    let both = and_parts (has_no_notice one) (list_all has_no_notice more) none in
    let r = plain_record u one.1 one.0 one.2 k (is_nothing (notice_of one.1 one.2) both.0) in
    ap (λ (v : Monitor). monitor_past_all v more) r.after ∙ same_monitor more (after_record u one.1 one.0 one.2) r.plain both.1

pub stays_plain : (file : List CaptureRecord) (u : Monitor) → Plain u → list_all has_no_notice file ≡ true → Plain (monitor_after_file u file)
stays_plain [] u k none = k
stays_plain (one ∷ more) u k none =
    let both = and_parts (has_no_notice one) (list_all has_no_notice more) none in
    let r = plain_record u one.1 one.0 one.2 k (is_nothing (notice_of one.1 one.2) both.0) in
    stays_plain more (after_record u one.1 one.0 one.2) r.plain both.1

-- ---- the capture is whole to its end

event_sound : (u : Monitor) (at : ℕ) (bits : List Bool) (happened : InterfaceEvent) → Sound u → Sound (after_event u at bits happened)
event_sound u at bits event.Short s = s
event_sound u at bits event.Nothing s = s
event_sound u at bits (event.Own kind link) s = s
event_sound u at bits (event.Other kind) s = s
event_sound u at bits (event.Out peer link) s = sound_said (monitor_after_out u at peer link bits) at peer at true (fresh_out u at peer link bits) (message_in bits) (sound_out u at peer link bits s)
event_sound u at bits (event.In peer link) s = sound_said (after_in u at peer link) at peer peer false true (message_in bits) (sound_in u at peer link s)
event_sound u at bits (event.Answer kind peer link) s = sound_answer u kind at peer link s

pub stays_sound : (file : List CaptureRecord) (u : Monitor) → Sound u → Sound (monitor_after_file u file)
stays_sound [] u s = s
stays_sound (one ∷ more) u s = stays_sound more (after_record u one.1 one.0 one.2) (event_sound (sees u one.0) one.0 one.2 (event_of one.1 one.0 one.2) (sound_sees u one.0 s))

pub begins_sound : Sound (new_monitor false)
begins_sound = record { part = refl; seen_long = length-replicate HOSTS false; long = length-replicate VIEWS (new_view false) }

-- ---- a prefix

pub fits_front : (front back : List CaptureRecord) → AllFit (front ++ back) → AllFit front
fits_front [] back fit = tt
fits_front (one ∷ front) back fit = (fit.0, fit.1, fits_front front back fit.2)

pub none_front : (front back : List CaptureRecord) → list_all has_no_notice (front ++ back) ≡ true → list_all has_no_notice front ≡ true
none_front [] back none = refl
none_front (one ∷ front) back none =
    let both = and_parts (has_no_notice one) (list_all has_no_notice (front ++ back)) none in ap (λ (b : Bool). b && list_all has_no_notice front) both.0 ∙ none_front front back both.1

pub clean_front : (u : Monitor) (front back : List CaptureRecord) → findings_in u (front ++ back) ≡ [] → findings_in u front ≡ []
clean_front u [] back e = refl
clean_front u (one ∷ front) back e =
    let after = after_record u one.1 one.0 one.2 in
    let p = parts (record_findings u one.1 one.0 one.2) (findings_in after (front ++ back)) e in
    ap (λ (fs : List Finding). fs ++ findings_in after front) p.0 ∙ clean_front after front back p.1

pub after_front : (u : Monitor) (front back : List CaptureRecord) → monitor_after_file u (front ++ back) ≡ monitor_after_file (monitor_after_file u front) back
after_front u [] back = refl
after_front u (one ∷ front) back = after_front (after_record u one.1 one.0 one.2) front back

pub open_front : (u : Monitor) (front back : List CaptureRecord) → (monitor_after_file u (front ++ back)).full ≡ false → (monitor_after_file u front).full ≡ false
open_front u front back f = begins_open (monitor_after_file u front) back (ap (λ (v : Monitor). v.full) (sym (after_front u front back)) ∙ f)

-- ---- what holds after no prefix holds after no record

pub never_once : (holds : Monitor → Bool) (at peer : ℕ) (u : Monitor) (file : List CaptureRecord) → ((front back : List CaptureRecord) → front ++ back ≡ file → holds (monitor_past_all u front) ≡ false) → holds_once holds at peer u file ≡ false
never_once holds at peer u [] never = refl
never_once holds at peer u (one ∷ more) never =
    let after = monitor_past u one in
    ap (λ (b : Bool). (passes at peer one && b) || holds_once holds at peer after more) (never (one ∷ []) more refl)
    ∙ neither (passes at peer one) (holds_once holds at peer after more)
    ∙ never_once holds at peer after more (λ front back e. never (one ∷ front) back (ap (λ (rest : List CaptureRecord). one ∷ rest) e))
  where
    neither : (b h : Bool) → ((b && false) || h) ≡ h
    neither true h = refl
    neither false h = refl
