-- A walk over a run, in a file that has records of other interfaces too: if the judged rules report no
-- violation in the host's flow, they report none by the host.
use Rattle.std.proofs.Common.{◌≡◌, ℕ, ◌<◌, ◌==◌, Bool, true, false, if◌then◌else◌, List, [], ◌∷◌, ◌++◌, Option, None, Some, refl, sym, ap, ◌∙◌, subst}
use Rattle.std.proofs.lemmas.Bool.{eqb-true}
use Rattle.ncp_leader.specs.Message.{message_in}
use Rattle.ncp_peer.specs.PeerState.{PeerState}
use Rattle.ncp_host.specs.Host.{Host, state_of, is_one_of, are_distinct, new_host}
use Rattle.ncp_host.specs.Turns.{next_output}
use Rattle.ncp_transcript.specs.declared.input.Input.{Input}
use Rattle.ncp_transcript.specs.declared.note.HostNote.{HostNote}
use Rattle.ncp_transcript.specs.After.{after_note}
use Rattle.ncp_transcript.specs.Noting.{answer_in, note_of_message}
use Rattle.ncp_transcript.specs.Runs.{IsHostSaid, AreHostNotes}
use Rattle.ncp_transcript.proofs.Saying.{noted_said}
use Rattle.ncp_transcript_two.proofs.Fitting.{note-fits}
use Rattle.ncp_proof_runs.proofs.Said.{IsOut}
use Rattle.ncp_proof_runs.proofs.HostRuns.{Holds, out-turn, out-is}
use Rattle.ncp_proof_runs.proofs.EachPeer.{holds-after, new-holds}
use Rattle.ncp_monitor.specs.declared.finding.Finding.{Finding}
use Rattle.ncp_monitor.specs.declared.finding.Rule.{Rule}
use Rattle.ncp_monitor.specs.declared.monitor.Monitor.{Monitor}
use Rattle.ncp_interface.specs.declared.imp_direction.ImpDirection.{ImpDirection}
use Rattle.ncp_interface.specs.declared.imp_direction.ImpDirection.TheVariants.{ToImp, FromImp}
use Rattle.ncp_monitor.specs.Judged.{new_monitor, sees, fresh_out, monitor_after_out, record_findings, after_record}
use Rattle.ncp_monitor.proofs.Passing.{Pass, both}
use Rattle.ncp_proof_monitor.specs.Recordings.{gone_by, recording, spares, begun_alone, AreFit, is_of_messages_and_phase, at_interface, found_at, NobodyBlamed}
use Rattle.ncp_proof_monitor.proofs.Spared.{spared, FlowSpared, flow_spared, unsaid}
use Rattle.ncp_proof_monitor.proofs.Steps.{noted}
use Rattle.ncp_proof_monitor.proofs.Leaders.{peers_parts, peer_of_turn}
use Rattle.ncp_proof_monitor.proofs.HostSlots.{call_noted}
use Rattle.ncp_proof_monitor.proofs.Linked.{after_call, after_out_of, after_in_of}
use Rattle.ncp_proof_monitor.proofs.LinkWalk.{follows_begins}
use Rattle.ncp_proof_monitor.proofs.ReadyPeers.{AllReady, ready_after, fits_in, fits_out, ready_begins}
use Rattle.ncp_proof_monitor.proofs.PhaseWalk.{call_all, in_all, out_all, out_passes, seen_begins}
use Rattle.ncp_proof_monitor.proofs.Others.{Watched, watched, other_leaves}

-- ---- the records between

-- what is found from a record of the host on
abbrev From : (Rule → Bool) → ℕ → Monitor → ImpDirection × List Bool → List (ℕ × ImpDirection × List Bool) → Type 0
From judged me monitor x file = Pass (spares judged me) (record_findings monitor x.0 me x.1 ++ found_at (after_record monitor x.0 me x.1) me file)

-- up to the next record of the host
skip : (judged : Rule → Bool) (me : ℕ) (h : Host) (file : List (ℕ × ImpDirection × List Bool)) (monitor : Monitor) (x : ImpDirection × List Bool) (rest : List (ImpDirection × List Bool)) → ((n : ℕ) (s : PeerState) → state_of h n ≡ Some s → n < 256) → Watched me h monitor → at_interface me file ≡ x ∷ rest
    → ((u : Monitor) (more : List (ℕ × ImpDirection × List Bool)) → Watched me h u → at_interface me more ≡ rest → From judged me u x more) → Pass (spares judged me) (found_at monitor me file)
skip judged me h [] monitor x rest small w e k = absurd (cc e)
skip judged me h (one ∷ more) monitor x rest small w e k = go (one.0 == me) refl (λ u v f. skip judged me h more u x rest small v f k)
  where
    next : Bool → List (ImpDirection × List Bool)
    next b = if b then (one.1, one.2) ∷ at_interface me more else at_interface me more

    found : Bool → List Finding
    found b = (if b then record_findings monitor one.1 one.0 one.2 else []) ++ found_at (after_record monitor one.1 one.0 one.2) me more

    go : (b : Bool) → (one.0 == me) ≡ b → ((u : Monitor) → Watched me h u → at_interface me more ≡ x ∷ rest → Pass (spares judged me) (found_at u me more)) → Pass (spares judged me) (found_at monitor me (one ∷ more))
    go true d later =
        let both_same : (one.1, one.2) ∷ at_interface me more ≡ x ∷ rest = sym (ap next d) ∙ e in
        let head : (one.1, one.2) ≡ x = cc both_same in
        let tail : at_interface me more ≡ rest = cc both_same in
        subst (λ (b : Bool). Pass (spares judged me) (found b)) (sym d)
        (subst (λ (at : ℕ). Pass (spares judged me) (record_findings monitor one.1 at one.2 ++ found_at (after_record monitor one.1 at one.2) me more)) (sym (eqb-true one.0 me d))
        (subst (λ (y : ImpDirection × List Bool). From judged me monitor y more) (sym head) (k monitor more w tail)))
    go false d later =
        subst (λ (b : Bool). Pass (spares judged me) (found b)) (sym d)
        (later (after_record monitor one.1 one.0 one.2) (watched me h monitor (after_record monitor one.1 one.0 one.2) small (other_leaves me one.0 one.1 one.2 monitor d) w) (sym (ap next d) ∙ e))

-- after the last one
pub no_more : (judged : Rule → Bool) (me : ℕ) (file : List (ℕ × ImpDirection × List Bool)) (monitor : Monitor) → at_interface me file ≡ [] → Pass (spares judged me) (found_at monitor me file)
no_more judged me [] monitor e = refl
no_more judged me (one ∷ more) monitor e = go (one.0 == me) refl (no_more judged me more (after_record monitor one.1 one.0 one.2))
  where
    next : Bool → List (ImpDirection × List Bool)
    next b = if b then (one.1, one.2) ∷ at_interface me more else at_interface me more

    found : Bool → List Finding
    found b = (if b then record_findings monitor one.1 one.0 one.2 else []) ++ found_at (after_record monitor one.1 one.0 one.2) me more

    go : (b : Bool) → (one.0 == me) ≡ b → (at_interface me more ≡ [] → Pass (spares judged me) (found_at (after_record monitor one.1 one.0 one.2) me more)) → Pass (spares judged me) (found_at monitor me (one ∷ more))
    go true d later = let nay : (one.1, one.2) ∷ at_interface me more ≡ [] = sym (ap next d) ∙ e in absurd (cc nay)
    go false d later = subst (λ (b : Bool). Pass (spares judged me) (found b)) (sym d) (later (sym (ap next d) ∙ e))

-- ---- the walk

walk : (judged : Rule → Bool) (ns : List ℕ) (me : ℕ) (given : List Input) (noted : List HostNote) (h : Host) (monitor : Monitor) (file : List (ℕ × ImpDirection × List Bool)) → me < 256 → is_one_of me ns ≡ false → Holds ns h → Watched me h monitor → AllReady h → AreFit given → AreHostNotes given noted h
    → FlowSpared judged me → at_interface me file ≡ recording given noted → Pass (spares judged me) (found_at monitor me file)
walk judged ns me [] noted h monitor file l a k w ready f p t e = no_more judged me file monitor e
walk judged ns me (input ∷ given) [] h monitor file l a k w ready f p t e = no_more judged me file monitor e
walk judged ns me (Input.Call call ∷ given) (note ∷ noted) h monitor file l a k w ready f p t e =
    let said = noted_said (Input.Call call) note h p.0 in
    let c = call_noted call note h p.0 in
    walk judged ns me given noted (after_note note h) monitor file l a (holds-after ns note h k said) (record { follows = after_call ns me note h monitor k said c w.follows; seen = call_all ns me note h monitor k said c ready w.seen })
    (ready_after ns note h k said (note-fits call note h p.0 f.0) ready) f.1 p.1 t e
walk judged ns me (Input.In bits ∷ given) (note ∷ noted) h monitor file l a k w ready f p t e =
    let said = noted_said (Input.In bits) note h p.0 in
    skip judged me h file monitor (FromImp, bits) (recording given noted) (λ n s there. (k.good n s there).0) w e
    (λ u more v d.
    both (spares judged me) (record_findings u FromImp me bits) (found_at (after_record u FromImp me bits) me more) (spared judged me u bits)
    (walk judged ns me given noted (after_note note h) (after_record u FromImp me bits) more l a (holds-after ns note h k said)
    (record { follows = after_in_of ns me h u bits note k a said p.0 v.follows; seen = in_all ns me h u bits note k a l said p.0 v.follows v.seen })
    (ready_after ns note h k said (fits_in (answer_in bits h) bits h note p.0) ready) f p.1 t d))
walk judged ns me (Input.Out ∷ given) (note ∷ noted) h monitor file l a k w ready f p t e =
    let said = noted_said Input.Out note h p.0 in
    go (next_output h) refl p.0 said e
    (λ u more v d. walk judged ns me given noted (after_note note h) u more l a (holds-after ns note h k said) v (ready_after ns note h k said (fits_out (next_output h) note p.0) ready) f p.1 t d)
  where
    Rest : HostNote → Type 0
    Rest x = (u : Monitor) (more : List (ℕ × ImpDirection × List Bool)) → Watched me (after_note x h) u → at_interface me more ≡ recording given noted → Pass (spares judged me) (found_at u me more)

    out : (message : List Bool) → next_output h ≡ Some message → IsHostSaid (HostNote.Out message) h → at_interface me file ≡ (ToImp, message) ∷ recording given noted → Rest (HostNote.Out message) → Pass (spares judged me) (found_at monitor me file)
    out message q said e rest =
        let y = out-turn ns h message k q in
        let is : IsOut y.n message y.s = out-is ns h message k y in
        let other = peer_of_turn ns me h message k a y in
        skip judged me h file monitor (ToImp, message) (recording given noted) (λ n s there. (k.good n s there).0) w e
        (λ u more v d.
        both (spares judged me) (record_findings u ToImp me message) (found_at (after_record u ToImp me message) me more)
        (out_passes (spares judged me) ns me y.n h u message y.s is k l a said y.found v.follows ready v.seen other
        (t (monitor_after_out (sees u me) me y.n is.on message) y.n (fresh_out (sees u me) me y.n is.on message) (message_in message)))
        (rest (after_record u ToImp me message) more (record {
          follows = after_out_of ns me y.n is.on h u message y.s k said is.leader other y.found v.follows;
          seen = out_all ns me y.n h u message y.s is k l a said y.found v.follows ready v.seen other;
        }) d))

    go : (o : Option (List Bool)) → next_output h ≡ o → note ≡ note_of_message o → IsHostSaid note h → at_interface me file ≡ gone_by note ++ recording given noted → Rest note → Pass (spares judged me) (found_at monitor me file)
    go None q is said e rest = (subst Rest is rest) monitor file w (subst (λ (x : HostNote). at_interface me file ≡ gone_by x ++ recording given noted) is e)
    go (Some message) q is said e rest =
        out message q (subst (λ (x : HostNote). IsHostSaid x h) is said) (subst (λ (x : HostNote). at_interface me file ≡ gone_by x ++ recording given noted) is e) (subst Rest is rest)

-- from the beginning
pub run_spared : (judged : Rule → Bool) (ns : List ℕ) (me : ℕ) (given : List Input) (noted : List HostNote) (file : List (ℕ × ImpDirection × List Bool)) → are_distinct ns ≡ true → is_one_of me ns ≡ false → ((n : ℕ) → is_one_of n ns ≡ true → n < 256) → me < 256 → AreFit given → AreHostNotes given noted (new_host me ns)
    → FlowSpared judged me → at_interface me file ≡ recording given noted → Pass (spares judged me) (found_at (new_monitor false) me file)
run_spared judged ns me given noted file distinct away places small fit p t here =
    walk judged ns me given noted (new_host me ns) (new_monitor false) file small away (new-holds me ns distinct places) (record { follows = follows_begins me ns; seen = seen_begins me ns }) (ready_begins me ns) fit p t here

pub none_blamed : NobodyBlamed is_of_messages_and_phase
none_blamed me ns given now file peers places small fit steps here =
    let w = noted given (begun_alone me ns) now steps in
    let parts = peers_parts me ns peers in
    run_spared is_of_messages_and_phase ns me given w.0 file parts.0 parts.1 places small fit w.2 (flow_spared is_of_messages_and_phase me unsaid) (subst (λ (all : List HostNote). at_interface me file ≡ recording given all) w.1 here)
