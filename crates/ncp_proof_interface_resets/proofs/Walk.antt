-- A walk over a run with resets, in a file that has records of other interfaces too: no rule reports a violation by the host.
use Rattle.std.proofs.Common.{◌≡◌, ℕ, ◌<◌, ◌==◌, Bool, true, false, not, ◌&&◌, ◌||◌, cond, if◌then◌else◌, List, [], ◌∷◌, ◌++◌, length, get_or, filter, Option, None, Some, refl, sym, ap, ◌∙◌, subst}
use Rattle.std.proofs.lemmas.Bool.{and_parts, eqb-true}
use Rattle.std.specs.List.{list_all}
use Rattle.ncp_host.specs.Host.{Host, is_one_of, new_host}
use Rattle.ncp_host.specs.Turns.{next_output}
use Rattle.ncp_transcript.specs.declared.input.Input.{Input}
use Rattle.ncp_transcript.specs.declared.note.HostNote.{HostNote}
use Rattle.ncp_transcript.specs.After.{after_note}
use Rattle.ncp_transcript.specs.Noting.{note_of_message}
use Rattle.ncp_transcript.specs.Runs.{AreHostNotes}
use Rattle.ncp_monitor.specs.declared.finding.Finding.{Finding}
use Rattle.ncp_monitor.specs.declared.finding.Rule.{Rule}
use Rattle.ncp_monitor.specs.declared.finding.Who.{Who}
use Rattle.ncp_monitor.specs.declared.finding.Who.TheVariants.{Host as OfHost, Imp}
use Rattle.ncp_interface.specs.declared.event.InterfaceEvent.{InterfaceEvent}
use Rattle.ncp_interface.specs.declared.event.InterfaceEvent.TheVariants as event
use Rattle.ncp_interface.specs.declared.imp_direction.ImpDirection.{ImpDirection}
use Rattle.ncp_interface.specs.declared.imp_direction.ImpDirection.TheVariants.{ToImp, FromImp}
use Rattle.ncp_monitor.specs.declared.monitor.Monitor.{Monitor}
use Rattle.ncp_interface.specs.declared.notice.ImpNotice.{ImpNotice}
use Rattle.ncp_monitor.specs.declared.resets.Trust.{Trust}
use Rattle.ncp_interface.specs.Events.{event_of}
use Rattle.ncp_interface.specs.Slots.{position_of, with_answer}
use Rattle.ncp_monitor.specs.Judged.{new_monitor, sees, monitor_after_answer, record_findings, after_event, after_record}
use Rattle.ncp_monitor.specs.Resets.{is_of_form, before_event, next_doubt, with_next_doubt, becomes_unclear, with_unclear, after_notice, trust_of, reports, judged_findings, after_judged}
use Rattle.ncp_interface.specs.Notices.{notice_of}
use Rattle.ncp_monitor.proofs.Passing.{Pass, both}
use Rattle.ncp_proof_monitor.specs.Recordings.{gone_by, begun_alone, is_host, spares, AreFit, at_interface}
use Rattle.ncp_proof_monitor.proofs.Spared.{spared}
use Rattle.ncp_proof_monitor.proofs.Steps.{noted}
use Rattle.ncp_proof_monitor.proofs.Leaders.{peers_parts}
use Rattle.ncp_proof_monitor_host.proofs.FlowFile.{AtOwn, own_called, own_came, own_begins}
use Rattle.ncp_proof_interface_resets.specs.ResetRuns.{Happening, Given, Noticed, incompletes_on, inputs_of, covers, covers_all, AreLinks, AreNoticed, notes_following, recording_of, judged_at, NobodyBlamedThroughResets}
use Rattle.ncp_proof_interface_resets.proofs.Near.{NearAll}
use Rattle.ncp_proof_interface_resets.proofs.Steps.{beside, place}
use Rattle.ncp_proof_interface_resets.proofs.Own.{own_seen, own_incomplete}
use Rattle.ncp_proof_interface_resets.proofs.Taken.{none_unclear, none_in_doubt, Along, along_as, elsewhere, came_paced, notice_alone, covered, taken_near}
use Rattle.ncp_proof_interface_resets.proofs.Sent.{Sent, sent}
use Rattle.ncp_proof_interface_resets.proofs.Unclear.{unclear_stays, unclear_long, now_unclear}
use Rattle.ncp_proof_interface_resets.proofs.Judging.{notice_paced}
use Rattle.ncp_interface.specs.declared.sent_message.SentMessage.{SentMessage}
use Rattle.ncp_monitor.specs.declared.views.TheConstants.{HOSTS}
use Rattle.ncp_monitor.specs.Tables.{view_in}

-- ---- what is left out

filter_passes : (P Q : Finding → Bool) (fs : List Finding) → Pass P fs → Pass P (filter Q fs)
filter_passes P Q [] p = refl
filter_passes P Q (f ∷ fs) p = go (Q f) (and_parts (P f) (list_all P fs) p) (filter_passes P Q fs)
  where
    go : (b : Bool) → (P f ≡ true) × (list_all P fs ≡ true) → (Pass P fs → Pass P (filter Q fs)) → Pass P (cond b (f ∷ filter Q fs) (filter Q fs))
    go true parts later = ap (λ (x : Bool). x && list_all P (filter Q fs)) parts.0 ∙ later parts.1
    go false parts later = later parts.1

-- a host that is unclear is not reported at its own interface
unclear_spared : (judged : Rule → Bool) (me : ℕ) (trust : Trust) → trust.host ≡ false → (f : Finding) → reports trust me f ≡ true → spares judged me f ≡ true
unclear_spared judged me trust e f r = go f.who refl r
  where
    go : (w : Who) → f.who ≡ w → reports trust me (record f { who = w }) ≡ true → not (is_host me w && judged f.rule) ≡ true
    go Imp g r = refl
    go (OfHost host) g r = by (host == me) r
      where
        by : (b : Bool) → (if b then trust.host else is_of_form f.rule || trust.peer) ≡ true → not (b && judged f.rule) ≡ true
        by true r = absurd (let nay : true ≡ false = sym r ∙ e in cc)
        by false r = refl

unclear_passes : (judged : Rule → Bool) (me : ℕ) (trust : Trust) → trust.host ≡ false → (fs : List Finding) → Pass (spares judged me) (filter (reports trust me) fs)
unclear_passes judged me trust e [] = refl
unclear_passes judged me trust e (f ∷ fs) = go (reports trust me f) refl (unclear_passes judged me trust e fs)
  where
    go : (b : Bool) → reports trust me f ≡ b → Pass (spares judged me) (filter (reports trust me) fs) → Pass (spares judged me) (cond b (f ∷ filter (reports trust me) fs) (filter (reports trust me) fs))
    go true r later = ap (λ (x : Bool). x && list_all (spares judged me) (filter (reports trust me) fs)) (unclear_spared judged me trust e f r) ∙ later
    go false r later = later

-- after it is unclear
lost : (judged : Rule → Bool) (me : ℕ) (file : List (ℕ × ImpDirection × List Bool)) (U : Monitor) → get_or U.unclear me false ≡ true → Pass (spares judged me) (judged_at U me file)
lost judged me [] U e = refl
lost judged me (one ∷ more) U e =
    both (spares judged me) (if one.0 == me then judged_findings U one.1 one.0 one.2 else []) (judged_at (after_judged U one.1 one.0 one.2) me more) (by (one.0 == me) refl)
    (lost judged me more (after_judged U one.1 one.0 one.2) (unclear_stays U one.1 one.0 one.2 me e))
  where
    host_of : (happened : InterfaceEvent) → (trust_of U me happened).host ≡ false
    host_of event.Short = ap not e
    host_of event.Nothing = ap not e
    host_of (event.Own kind link) = ap not e
    host_of (event.Other kind) = ap not e
    host_of (event.Out peer link) = ap not e
    host_of (event.Answer kind peer link) = ap not e
    host_of (event.In peer link) = ap not e

    by : (b : Bool) → (one.0 == me) ≡ b → Pass (spares judged me) (if b then judged_findings U one.1 one.0 one.2 else [])
    by false d = refl
    by true d =
        subst (λ (at : ℕ). Pass (spares judged me) (judged_findings U one.1 at one.2)) (sym (eqb-true one.0 me d))
        (let happened = event_of one.1 me one.2 in unclear_passes judged me (trust_of U me happened) (host_of happened) (record_findings (before_event U me happened) one.1 me one.2))

-- ---- the records between

abbrev From : (Rule → Bool) → ℕ → Monitor → ImpDirection × List Bool → List (ℕ × ImpDirection × List Bool) → Type 0
From judged me U x file = Pass (spares judged me) (judged_findings U x.0 me x.1 ++ judged_at (after_judged U x.0 me x.1) me file)

-- the host as it is known, and the room to note that it is unclear
record Stands (ns : List ℕ) (me : ℕ) (h : Host) (U : Monitor) : Type 0 where
  pub along : Along ns me h U
  pub long : length U.unclear ≡ HOSTS

skip : (judged : Rule → Bool) (ns : List ℕ) (me : ℕ) (h : Host) (file : List (ℕ × ImpDirection × List Bool)) (U : Monitor) (x : ImpDirection × List Bool) (rest : List (ImpDirection × List Bool)) → Stands ns me h U → at_interface me file ≡ x ∷ rest
    → ((u : Monitor) (more : List (ℕ × ImpDirection × List Bool)) → Stands ns me h u → at_interface me more ≡ rest → From judged me u x more) → Pass (spares judged me) (judged_at U me file)
skip judged ns me h [] U x rest w e k = absurd (cc e)
skip judged ns me h (one ∷ more) U x rest w e k = go (one.0 == me) refl (λ u v f. skip judged ns me h more u x rest v f k)
  where
    next : Bool → List (ImpDirection × List Bool)
    next b = if b then (one.1, one.2) ∷ at_interface me more else at_interface me more

    found : Bool → List Finding
    found b = (if b then judged_findings U one.1 one.0 one.2 else []) ++ judged_at (after_judged U one.1 one.0 one.2) me more

    go : (b : Bool) → (one.0 == me) ≡ b → ((u : Monitor) → Stands ns me h u → at_interface me more ≡ x ∷ rest → Pass (spares judged me) (judged_at u me more)) → Pass (spares judged me) (judged_at U me (one ∷ more))
    go true d later =
        let both_same : (one.1, one.2) ∷ at_interface me more ≡ x ∷ rest = sym (ap next d) ∙ e in
        let head : (one.1, one.2) ≡ x = cc both_same in
        let tail : at_interface me more ≡ rest = cc both_same in
        subst (λ (b : Bool). Pass (spares judged me) (found b)) (sym d)
        (subst (λ (at : ℕ). Pass (spares judged me) (judged_findings U one.1 at one.2 ++ judged_at (after_judged U one.1 at one.2) me more)) (sym (eqb-true one.0 me d))
        (subst (λ (y : ImpDirection × List Bool). From judged me U y more) (sym head) (k U more w tail)))
    go false d later =
        subst (λ (b : Bool). Pass (spares judged me) (found b)) (sym d)
        (later (after_judged U one.1 one.0 one.2) (record { along = elsewhere ns me h U one.0 one.1 one.2 d w.along; long = unclear_long U one.1 one.0 one.2 w.long }) (sym (ap next d) ∙ e))

no_more : (judged : Rule → Bool) (me : ℕ) (file : List (ℕ × ImpDirection × List Bool)) (U : Monitor) → at_interface me file ≡ [] → Pass (spares judged me) (judged_at U me file)
no_more judged me [] U e = refl
no_more judged me (one ∷ more) U e = go (one.0 == me) refl (no_more judged me more (after_judged U one.1 one.0 one.2))
  where
    next : Bool → List (ImpDirection × List Bool)
    next b = if b then (one.1, one.2) ∷ at_interface me more else at_interface me more

    found : Bool → List Finding
    found b = (if b then judged_findings U one.1 one.0 one.2 else []) ++ judged_at (after_judged U one.1 one.0 one.2) me more

    go : (b : Bool) → (one.0 == me) ≡ b → (at_interface me more ≡ [] → Pass (spares judged me) (judged_at (after_judged U one.1 one.0 one.2) me more)) → Pass (spares judged me) (judged_at U me (one ∷ more))
    go true d later = absurd (let nay : (one.1, one.2) ∷ at_interface me more ≡ [] = sym (ap next d) ∙ e in cc nay)
    go false d later = subst (λ (b : Bool). Pass (spares judged me) (found b)) (sym d) (later (sym (ap next d) ∙ e))

-- what comes is not found against the host
came_passes : (judged : Rule → Bool) (me : ℕ) (U : Monitor) (bits : List Bool) → Pass (spares judged me) (judged_findings U FromImp me bits)
came_passes judged me U bits =
    let happened = event_of FromImp me bits in
    filter_passes (spares judged me) (reports (trust_of U me happened) me) (record_findings (before_event U me happened) FromImp me bits) (spared judged me (before_event U me happened) bits)

-- ---- the Incompletes for which a notice stands

-- the notes of the rest, and the host after them
record Rested (ns : List ℕ) (me : ℕ) (links : List (ℕ × ℕ)) (given : List Input) (noted : List HostNote) (U : Monitor) : Type 0 where
  pub host : Host
  pub notes : AreHostNotes given (notes_following links noted) host
  pub along : Along ns me host U

-- the links of a notice, one after the other; what the audit knows stays
takes : (ns : List ℕ) (me : ℕ) (some : ImpNotice) (V : Monitor) (links : List (ℕ × ℕ)) (given : List Input) (noted : List HostNote) (h : Host) → me < 256 → is_one_of me ns ≡ false → ((n : ℕ) → is_one_of n ns ≡ true → n < 256)
    → AreLinks ns links → list_all (covers some) links ≡ true → AreHostNotes (incompletes_on links given) noted h → Along ns me h (after_notice V me (Some some)) → Rested ns me links given noted (after_notice V me (Some some))
takes ns me some V [] given noted h l a small links all p k = record { host = h; notes = p; along = k }
takes ns me some V (one ∷ links) given [] h l a small are all p k = absurd p
takes ns me some V (one ∷ links) given (note ∷ noted) h l a small are all p k =
    let c = and_parts (covers some one) (list_all (covers some) links) all in
    let U = after_notice V me (Some some) in
    let T = beside U k.kept none_unclear none_in_doubt in
    let next : Along ns me (after_note note h) U = record {
      kept = (monitor_after_answer T 9 me one.0 one.1).kept;
      near = nearer U.full;
      own = subst (AtOwn ns me (after_note note h)) (as_beside U.full) (own_incomplete ns me h T one.0 one.1 note l a (small one.0 are.0) are.1 (apart (one.0 == me) refl) p.0 k.own);
    } in
    let rest = takes ns me some V links given noted (after_note note h) l a small are.2 c.1 p.1 next in
    record { host = rest.host; notes = rest.notes; along = rest.along }
  where
    U : Monitor
    U = after_notice V me (Some some)

    T : Monitor
    T = beside U k.kept none_unclear none_in_doubt

    answered : List SentMessage
    answered = with_answer (view_in U.views me one.0).known 9 k.kept (position_of me one.0 one.1 k.kept)

    nearer : (b : Bool) → NearAll me U.kept (if b then T else record T { kept = answered }).kept
    nearer true = k.near
    nearer false =
        taken_near me one.0 one.1 (view_in U.views me one.0).known U.kept k.kept k.near (place me none_unclear none_in_doubt U k.kept k.near me one.0 one.1)
        (λ p q o. covered me one.0 one.1 p V some (and_parts (covers some one) (list_all (covers some) links) all).0 q o)

    as_beside : (b : Bool) → (if b then T else record T { kept = answered }) ≡ beside U (if b then T else record T { kept = answered }).kept none_unclear none_in_doubt
    as_beside true = refl
    as_beside false = refl

    apart : (b : Bool) → (one.0 == me) ≡ b → b ≡ false
    apart false d = refl
    apart true d = absurd (let nay : true ≡ false = sym are.0 ∙ ap (λ (n : ℕ). is_one_of n ns) (eqb-true one.0 me d) ∙ a in cc)

-- ---- the walk

walk : (judged : Rule → Bool) (ns : List ℕ) (me : ℕ) (given : List Happening) (noted : List HostNote) (h : Host) (U : Monitor) (file : List (ℕ × ImpDirection × List Bool)) → me < 256 → is_one_of me ns ≡ false → ((n : ℕ) → is_one_of n ns ≡ true → n < 256)
    → Stands ns me h U → AreNoticed ns given → AreFit (inputs_of given) → AreHostNotes (inputs_of given) noted h → at_interface me file ≡ recording_of given noted → Pass (spares judged me) (judged_at U me file)
walk judged ns me [] noted h U file l a small k are f p e = no_more judged me file U e
walk judged ns me (Given input ∷ given) [] h U file l a small k are f p e = no_more judged me file U e
walk judged ns me (Given (Input.Call call) ∷ given) (note ∷ noted) h U file l a small k are f p e =
    let c = own_called ns me h (beside U k.along.kept none_unclear none_in_doubt) call note p.0 f.0 k.along.own in
    walk judged ns me given noted (after_note note h) U file l a small (record { along = record { kept = k.along.kept; near = k.along.near; own = c }; long = k.long }) are f.1 p.1 e
walk judged ns me (Given (Input.In bits) ∷ given) (note ∷ noted) h U file l a small k are f p e =
    skip judged ns me h file U (FromImp, bits) (recording_of given noted) k e (λ u more v d.
    both (spares judged me) (judged_findings u FromImp me bits) (judged_at (after_judged u FromImp me bits) me more) (came_passes judged me u bits)
    (go u more v d (λ now rest w q. walk judged ns me given noted (after_note note h) now rest l a small w are f p.1 q) (becomes_unclear u me (event_of FromImp me bits)) refl))
  where
    go : (u : Monitor) (more : List (ℕ × ImpDirection × List Bool)) → Stands ns me h u → at_interface me more ≡ recording_of given noted
        → ((now : Monitor) (rest : List (ℕ × ImpDirection × List Bool)) → Stands ns me (after_note note h) now → at_interface me rest ≡ recording_of given noted → Pass (spares judged me) (judged_at now me rest))
        → (b : Bool) → becomes_unclear u me (event_of FromImp me bits) ≡ b → Pass (spares judged me) (judged_at (after_judged u FromImp me bits) me more)
    go u more v d next true g = lost judged me more (after_judged u FromImp me bits) (now_unclear u FromImp me bits l v.long g)
    go u more v d next false g =
        let T = beside u v.along.kept none_unclear none_in_doubt in
        next (after_judged u FromImp me bits) more
        (record {
          along = along_as ns me (after_note note h) (after_judged u FromImp me bits) (after_record T FromImp me bits) (came_paced me u v.along.kept v.along.near bits g) (own_came ns me h T bits note l a p.0 v.along.own);
          long = unclear_long u FromImp me bits v.long;
        }) d
walk judged ns me (Given Input.Out ∷ given) (note ∷ noted) h U file l a small k are f p e =
    go (next_output h) refl p.0 e (λ u more v d. walk judged ns me given noted (after_note note h) u more l a small v are f p.1 d)
  where
    Rest : HostNote → Type 0
    Rest x = (u : Monitor) (more : List (ℕ × ImpDirection × List Bool)) → Stands ns me (after_note x h) u → at_interface me more ≡ recording_of given noted → Pass (spares judged me) (judged_at u me more)

    out : (message : List Bool) → next_output h ≡ Some message → at_interface me file ≡ (ToImp, message) ∷ recording_of given noted → Rest (HostNote.Out message) → Pass (spares judged me) (judged_at U me file)
    out message q e rest =
        skip judged ns me h file U (ToImp, message) (recording_of given noted) k e
        (λ u more v d.
        let went : Sent ns me h u message = sent ns me h u message l a q v.along in
        both (spares judged me) (judged_findings u ToImp me message) (judged_at (after_judged u ToImp me message) me more) (ap (list_all (spares judged me)) went.none)
        (rest (after_judged u ToImp me message) more (record { along = went.along; long = unclear_long u ToImp me message v.long }) d))

    still : Rest HostNote.Nothing → at_interface me file ≡ recording_of given noted → Pass (spares judged me) (judged_at U me file)
    still rest e = rest U file k e

    go : (o : Option (List Bool)) → next_output h ≡ o → note ≡ note_of_message o → at_interface me file ≡ gone_by note ++ recording_of given noted → Rest note → Pass (spares judged me) (judged_at U me file)
    go None q is e rest = still (subst Rest is rest) (subst (λ (x : HostNote). at_interface me file ≡ gone_by x ++ recording_of given noted) is e)
    go (Some message) q is e rest = out message q (subst (λ (x : HostNote). at_interface me file ≡ gone_by x ++ recording_of given noted) is e) (subst Rest is rest)
walk judged ns me (Noticed bits links ∷ given) noted h U file l a small k are f p e =
    skip judged ns me h file U (FromImp, bits) (recording_of given (notes_following links noted)) k e (λ u more v d.
    both (spares judged me) (judged_findings u FromImp me bits) (judged_at (after_judged u FromImp me bits) me more) (came_passes judged me u bits)
    (by u more v d (λ host now rest w q r. walk judged ns me given (notes_following links noted) host now rest l a small w are.2 (fit_rest links f) q r) (notice_of FromImp bits) refl are.0))
  where
    fit_rest : (links : List (ℕ × ℕ)) → AreFit (incompletes_on links (inputs_of given)) → AreFit (inputs_of given)
    fit_rest [] f = f
    fit_rest (one ∷ links) f = fit_rest links f

    read : (u : Monitor) (some : ImpNotice) → notice_of FromImp bits ≡ Some some → after_judged u FromImp me bits ≡ after_notice (sees u me) me (Some some)
    read u some g =
        let is = notice_alone me bits some g in
        ap (λ (x : InterfaceEvent). after_notice (with_unclear (with_next_doubt (after_event (sees (before_event u me x) me) me bits x) me x (next_doubt u me x)) me (becomes_unclear u me x)) me (notice_of FromImp bits)) is
        ∙ ap (after_notice (sees u me) me) g

    noticed : (u : Monitor) → Along ns me h u → (some : ImpNotice) → Along ns me h (after_notice (sees u me) me (Some some))
    noticed u k some =
        let T = beside u k.kept none_unclear none_in_doubt in
        along_as ns me h (after_notice (sees u me) me (Some some)) (sees T me)
        (notice_paced me none_unclear none_in_doubt (sees u me) (sees T me) me (Some some) (record { kept = k.kept; is = refl; near = k.near })) (own_seen ns me h T me k.own)

    by : (u : Monitor) (more : List (ℕ × ImpDirection × List Bool)) → Stands ns me h u → at_interface me more ≡ recording_of given (notes_following links noted)
        → ((host : Host) (now : Monitor) (rest : List (ℕ × ImpDirection × List Bool)) → Stands ns me host now → AreHostNotes (inputs_of given) (notes_following links noted) host → at_interface me rest ≡ recording_of given (notes_following links noted) → Pass (spares judged me) (judged_at now me rest))
        → (o : Option ImpNotice) → notice_of FromImp bits ≡ o → covers_all o links ≡ true → Pass (spares judged me) (judged_at (after_judged u FromImp me bits) me more)
    by u more v d next None g c = absurd (cc c)
    by u more v d next (Some some) g c =
        let V = sees u me in
        let r = takes ns me some V links (inputs_of given) noted h l a small are.1 c p (noticed u v.along some) in
        next r.host (after_judged u FromImp me bits) more (record { along = subst (Along ns me r.host) (sym (read u some g)) r.along; long = unclear_long u FromImp me bits v.long }) r.notes d

-- for any judged rules
pub nobody_blamed : (judged : Rule → Bool) → NobodyBlamedThroughResets judged
nobody_blamed judged me ns given now file peers places small are fit steps here =
    let w = noted (inputs_of given) (begun_alone me ns) now steps in
    let parts = peers_parts me ns peers in
    walk judged ns me given w.0 (new_host me ns) (new_monitor false) file small parts.1 places
    (record { along = record { kept = []; near = tt; own = own_begins ns me parts.0 places }; long = refl }) are fit w.2
    (subst (λ (all : List HostNote). at_interface me file ≡ recording_of given all) w.1 here)
