-- A walk over a run, in a file that has records of other interfaces too: nothing at all is found in what the host sends, so
-- that by no rule it is found to be wrong.
use Rattle.std.proofs.Common.{◌≡◌, ℕ, ◌<◌, ◌==◌, Bool, true, false, if◌then◌else◌, List, [], ◌∷◌, ◌++◌, Option, None, Some, refl, sym, ap, ◌∙◌, subst}
use Rattle.std.proofs.lemmas.Bool.{eqb-true}
use Rattle.ncp_leader.specs.Message.{message_in}
use Rattle.ncp_peer.specs.PeerState.{PeerState}
use Rattle.ncp_host.specs.Host.{Host, state_of, is_one_of, are_distinct, new_host}
use Rattle.ncp_host.specs.Turns.{next_output}
use Rattle.ncp_transcript.specs.declared.call.Call.{Call}
use Rattle.ncp_transcript.specs.declared.input.Input.{Input}
use Rattle.ncp_transcript.specs.declared.note.HostNote.{HostNote}
use Rattle.ncp_transcript.specs.After.{after_note}
use Rattle.ncp_transcript.specs.Noting.{CallNoted, answer_in, note_of_bits, note_of_message, note_of_output}
use Rattle.ncp_transcript.specs.Runs.{IsHostSaid, AreHostNotes}
use Rattle.ncp_transcript.proofs.Saying.{noted_said}
use Rattle.ncp_transcript_two.specs.Seen.{CallFits}
use Rattle.ncp_transcript_two.proofs.Fitting.{note-fits}
use Rattle.ncp_proof_runs.proofs.Said.{IsOut}
use Rattle.ncp_proof_runs.proofs.HostRuns.{Holds, out-turn, out-is}
use Rattle.ncp_proof_runs.proofs.EachPeer.{holds-after, new-holds}
use Rattle.ncp_monitor.specs.declared.finding.Finding.{Finding}
use Rattle.ncp_monitor.specs.declared.finding.Rule.{Rule}
use Rattle.ncp_monitor.specs.declared.monitor.Monitor.{Monitor}
use Rattle.ncp_monitor.specs.declared.view.View.{View}
use Rattle.ncp_interface.specs.declared.imp_direction.ImpDirection.{ImpDirection}
use Rattle.ncp_interface.specs.declared.imp_direction.ImpDirection.TheVariants.{ToImp, FromImp}
use Rattle.ncp_monitor.specs.Tables.{view_in}
use Rattle.ncp_monitor.specs.Judged.{new_monitor, sees, fresh_out, monitor_after_out, record_findings, after_record}
use Rattle.ncp_monitor.proofs.Passing.{Pass, both}
use Rattle.ncp_proof_monitor.specs.Recordings.{gone_by, recording, spares, begun_alone, AreFit, at_interface, found_at, NobodyBlamed}
use Rattle.ncp_proof_monitor.proofs.Spared.{spared}
use Rattle.ncp_proof_monitor.proofs.Steps.{noted}
use Rattle.ncp_proof_monitor.proofs.Leaders.{peers_parts, peer_of_turn}
use Rattle.ncp_proof_monitor.proofs.HostSlots.{call_noted}
use Rattle.ncp_proof_monitor.proofs.Linked.{after_call, after_out_of, after_in_of}
use Rattle.ncp_proof_monitor.proofs.LinkWalk.{follows_begins}
use Rattle.ncp_proof_monitor.proofs.ReadyPeers.{AllReady, ready_after, fits_in, fits_out, ready_begins}
use Rattle.ncp_proof_monitor.proofs.PhaseWalk.{call_all, in_all, out_all, out_passes, seen_begins}
use Rattle.ncp_proof_monitor.proofs.Talking.{empty_pass, message_flow}
use Rattle.ncp_proof_monitor.proofs.Others.{Watched, Leaves, watched, other_leaves}
use Rattle.ncp_proof_monitor.proofs.FileWalk.{no_more}
use Rattle.ncp_proof_monitor_host.proofs.Spoken.{Spoken}
use Rattle.ncp_proof_monitor_replies.proofs.BooksRead.{Reads}
use Rattle.ncp_proof_monitor_replies.proofs.BooksRecord.{record_reads, record_alike}
use Rattle.ncp_proof_monitor_host.proofs.FlowWalk.{AllSpoken, spoken_alike, call_talks, in_talks}
use Rattle.ncp_proof_monitor_host.proofs.FlowOut.{out_unsaid, out_talks, talks_begin}

-- ---- what is known of a host at its own interface, through each record of a file

-- what is seen of the phases, and what is known of what is said
pub record Followed (me : ℕ) (h : Host) (monitor : Monitor) : Type 0 where
  pub watches : Watched me h monitor
  pub talks : AllSpoken me h monitor

-- a record at another interface
passed_by : (me : ℕ) (h : Host) (monitor : Monitor) (at : ℕ) (way : ImpDirection) (bits : List Bool) → ((n : ℕ) (s : PeerState) → state_of h n ≡ Some s → n < 256) → (at == me) ≡ false → Followed me h monitor → Followed me h (after_record monitor way at bits)
passed_by me h monitor at way bits small d w =
    let now = after_record monitor way at bits in
    let l : Leaves me monitor now = other_leaves me at way bits monitor d in
    let r : Reads monitor.conn_tables now.conn_tables = record_reads monitor way at bits in
    record {
      watches = watched me h monitor now small l w.watches;
      talks = record {
        tidy = λ f. r.tidy f (w.talks.tidy (r.room f));
        carries = λ full n s there. w.talks.carries (l.full full) n s there;
        spoken = λ full f n s there.
            subst (λ (v : View). Spoken me n s.peer v now.conn_tables) (sym (l.views n (small n s there)))
            (spoken_alike me n s.peer (view_in monitor.views me n) monitor.conn_tables now.conn_tables (record_alike monitor way at bits me n d) (w.talks.spoken (l.full full) (r.room f) n s there));
      };
    }

-- with what the host keeps
pub record AtOwn (ns : List ℕ) (me : ℕ) (h : Host) (monitor : Monitor) : Type 0 where
  pub holds : Holds ns h
  pub followed : Followed me h monitor
  pub ready : AllReady h

-- a record at another interface
pub own_elsewhere : (ns : List ℕ) (me : ℕ) (h : Host) (monitor : Monitor) (at : ℕ) (way : ImpDirection) (bits : List Bool) → (at == me) ≡ false → AtOwn ns me h monitor → AtOwn ns me h (after_record monitor way at bits)
own_elsewhere ns me h monitor at way bits d k = record {
  holds = k.holds;
  followed = passed_by me h monitor at way bits (λ n s there. (k.holds.good n s there).0) d k.followed;
  ready = k.ready;
}

-- a call
pub own_called : (ns : List ℕ) (me : ℕ) (h : Host) (monitor : Monitor) (call : Call) (note : HostNote) → CallNoted call note h → CallFits call → AtOwn ns me h monitor → AtOwn ns me (after_note note h) monitor
own_called ns me h monitor call note p f k =
    let said = noted_said (Input.Call call) note h p in
    let c = call_noted call note h p in
    let w = k.followed.watches in
    record {
      holds = holds-after ns note h k.holds said;
      followed = record {
        watches = record { follows = after_call ns me note h monitor k.holds said c w.follows; seen = call_all ns me note h monitor k.holds said c k.ready w.seen };
        talks = call_talks ns me note h monitor k.holds said c k.ready w.seen k.followed.talks;
      };
      ready = ready_after ns note h k.holds said (note-fits call note h p f) k.ready;
    }

-- what comes
pub own_came : (ns : List ℕ) (me : ℕ) (h : Host) (monitor : Monitor) (bits : List Bool) (note : HostNote) → me < 256 → is_one_of me ns ≡ false → note ≡ note_of_bits bits h → AtOwn ns me h monitor → AtOwn ns me (after_note note h) (after_record monitor FromImp me bits)
own_came ns me h monitor bits note l a p k =
    let said = noted_said (Input.In bits) note h p in
    let w = k.followed.watches in
    record {
      holds = holds-after ns note h k.holds said;
      followed = record {
        watches = record { follows = after_in_of ns me h monitor bits note k.holds a said p w.follows; seen = in_all ns me h monitor bits note k.holds a l said p w.follows w.seen };
        talks = in_talks ns me h monitor bits note k.holds a l said p w.follows k.ready w.seen k.followed.talks;
      };
      ready = ready_after ns note h k.holds said (fits_in (answer_in bits h) bits h note p) k.ready;
    }

-- a sent message: nothing is found
none_pass : (found : List Finding) → Pass (λ one. false) found → found ≡ []
none_pass [] p = refl
none_pass (one ∷ more) p = absurd (cc p)

pub record WentOut (ns : List ℕ) (me : ℕ) (h : Host) (monitor : Monitor) (message : List Bool) : Type 0 where
  pub none : record_findings monitor ToImp me message ≡ []
  pub own : AtOwn ns me (after_note (HostNote.Out message) h) (after_record monitor ToImp me message)

pub own_went : (ns : List ℕ) (me : ℕ) (h : Host) (monitor : Monitor) (message : List Bool) → me < 256 → is_one_of me ns ≡ false → next_output h ≡ Some message → AtOwn ns me h monitor → WentOut ns me h monitor message
own_went ns me h monitor message l a q k =
    let note : HostNote = HostNote.Out message in
    let p : note ≡ note_of_output h = sym (ap note_of_message q) in
    let said : IsHostSaid note h = noted_said Input.Out note h p in
    let w = k.followed.watches in
    let t = out-turn ns h message k.holds q in
    let is : IsOut t.n message t.s = out-is ns h message k.holds t in
    let other = peer_of_turn ns me h message k.holds a t in
    let unsaid = out_unsaid ns me t.n h monitor message t.s is k.holds l a said t.found w.follows k.ready w.seen k.followed.talks other in
    record {
      none = none_pass (record_findings monitor ToImp me message)
          (out_passes (λ one. false) ns me t.n h monitor message t.s is k.holds l a said t.found w.follows k.ready w.seen other
          (empty_pass (λ one. false) (message_flow (monitor_after_out (sees monitor me) me t.n is.on message) me t.n me true (fresh_out (sees monitor me) me t.n is.on message) (message_in message)) unsaid));
      own = record {
        holds = holds-after ns note h k.holds said;
        followed = record {
          watches = record {
            follows = after_out_of ns me t.n is.on h monitor message t.s k.holds said is.leader other t.found w.follows;
            seen = out_all ns me t.n h monitor message t.s is k.holds l a said t.found w.follows k.ready w.seen other;
          };
          talks = out_talks ns me t.n h monitor message t.s is k.holds l a said t.found w.follows k.ready w.seen k.followed.talks other;
        };
        ready = ready_after ns note h k.holds said (fits_out (next_output h) note p) k.ready;
      };
    }

-- the beginning
pub own_begins : (ns : List ℕ) (me : ℕ) → are_distinct ns ≡ true → ((n : ℕ) → is_one_of n ns ≡ true → n < 256) → AtOwn ns me (new_host me ns) (new_monitor false)
own_begins ns me distinct places = record {
  holds = new-holds me ns distinct places;
  followed = record { watches = record { follows = follows_begins me ns; seen = seen_begins me ns }; talks = talks_begin me ns };
  ready = ready_begins me ns;
}

-- ---- the records between

-- what is found from a record of the host on
abbrev From : (Rule → Bool) → ℕ → Monitor → ImpDirection × List Bool → List (ℕ × ImpDirection × List Bool) → Type 0
From judged me monitor x file = Pass (spares judged me) (record_findings monitor x.0 me x.1 ++ found_at (after_record monitor x.0 me x.1) me file)

-- up to the next record of the host
skip : (judged : Rule → Bool) (ns : List ℕ) (me : ℕ) (h : Host) (file : List (ℕ × ImpDirection × List Bool)) (monitor : Monitor) (x : ImpDirection × List Bool) (rest : List (ImpDirection × List Bool)) → AtOwn ns me h monitor → at_interface me file ≡ x ∷ rest
    → ((u : Monitor) (more : List (ℕ × ImpDirection × List Bool)) → AtOwn ns me h u → at_interface me more ≡ rest → From judged me u x more) → Pass (spares judged me) (found_at monitor me file)
skip judged ns me h [] monitor x rest w e k = absurd (cc e)
skip judged ns me h (one ∷ more) monitor x rest w e k = go (one.0 == me) refl (λ u v f. skip judged ns me h more u x rest v f k)
  where
    next : Bool → List (ImpDirection × List Bool)
    next b = if b then (one.1, one.2) ∷ at_interface me more else at_interface me more

    found : Bool → List Finding
    found b = (if b then record_findings monitor one.1 one.0 one.2 else []) ++ found_at (after_record monitor one.1 one.0 one.2) me more

    go : (b : Bool) → (one.0 == me) ≡ b → ((u : Monitor) → AtOwn ns me h u → at_interface me more ≡ x ∷ rest → Pass (spares judged me) (found_at u me more)) → Pass (spares judged me) (found_at monitor me (one ∷ more))
    go true d later =
        let both_same : (one.1, one.2) ∷ at_interface me more ≡ x ∷ rest = sym (ap next d) ∙ e in
        let head : (one.1, one.2) ≡ x = cc both_same in
        let tail : at_interface me more ≡ rest = cc both_same in
        subst (λ (b : Bool). Pass (spares judged me) (found b)) (sym d)
        (subst (λ (at : ℕ). Pass (spares judged me) (record_findings monitor one.1 at one.2 ++ found_at (after_record monitor one.1 at one.2) me more)) (sym (eqb-true one.0 me d))
        (subst (λ (y : ImpDirection × List Bool). From judged me monitor y more) (sym head) (k monitor more w tail)))
    go false d later =
        subst (λ (b : Bool). Pass (spares judged me) (found b)) (sym d)
        (later (after_record monitor one.1 one.0 one.2) (own_elsewhere ns me h monitor one.0 one.1 one.2 d w) (sym (ap next d) ∙ e))

-- ---- the walk

walk : (judged : Rule → Bool) (ns : List ℕ) (me : ℕ) (given : List Input) (noted : List HostNote) (h : Host) (monitor : Monitor) (file : List (ℕ × ImpDirection × List Bool)) → me < 256 → is_one_of me ns ≡ false → AtOwn ns me h monitor → AreFit given → AreHostNotes given noted h
    → at_interface me file ≡ recording given noted → Pass (spares judged me) (found_at monitor me file)
walk judged ns me [] noted h monitor file l a k f p e = no_more judged me file monitor e
walk judged ns me (input ∷ given) [] h monitor file l a k f p e = no_more judged me file monitor e
walk judged ns me (Input.Call call ∷ given) (note ∷ noted) h monitor file l a k f p e = walk judged ns me given noted (after_note note h) monitor file l a (own_called ns me h monitor call note p.0 f.0 k) f.1 p.1 e
walk judged ns me (Input.In bits ∷ given) (note ∷ noted) h monitor file l a k f p e =
    skip judged ns me h file monitor (FromImp, bits) (recording given noted) k e
    (λ u more v d.
    both (spares judged me) (record_findings u FromImp me bits) (found_at (after_record u FromImp me bits) me more) (spared judged me u bits)
    (walk judged ns me given noted (after_note note h) (after_record u FromImp me bits) more l a (own_came ns me h u bits note l a p.0 v) f p.1 d))
walk judged ns me (Input.Out ∷ given) (note ∷ noted) h monitor file l a k f p e =
    go (next_output h) refl p.0 e (λ u more v d. walk judged ns me given noted (after_note note h) u more l a v f p.1 d)
  where
    Rest : HostNote → Type 0
    Rest x = (u : Monitor) (more : List (ℕ × ImpDirection × List Bool)) → AtOwn ns me (after_note x h) u → at_interface me more ≡ recording given noted → Pass (spares judged me) (found_at u me more)

    out : (message : List Bool) → next_output h ≡ Some message → at_interface me file ≡ (ToImp, message) ∷ recording given noted → Rest (HostNote.Out message) → Pass (spares judged me) (found_at monitor me file)
    out message q e rest =
        skip judged ns me h file monitor (ToImp, message) (recording given noted) k e
        (λ u more v d.
        let went : WentOut ns me h u message = own_went ns me h u message l a q v in
        both (spares judged me) (record_findings u ToImp me message) (found_at (after_record u ToImp me message) me more) (empty_pass (spares judged me) (record_findings u ToImp me message) went.none)
        (rest (after_record u ToImp me message) more went.own d))

    -- if nothing is sent, the note changes nothing
    still : Rest HostNote.Nothing → at_interface me file ≡ recording given noted → Pass (spares judged me) (found_at monitor me file)
    still rest e = rest monitor file k e

    go : (o : Option (List Bool)) → next_output h ≡ o → note ≡ note_of_message o → at_interface me file ≡ gone_by note ++ recording given noted → Rest note → Pass (spares judged me) (found_at monitor me file)
    go None q is e rest = still (subst Rest is rest) (subst (λ (x : HostNote). at_interface me file ≡ gone_by x ++ recording given noted) is e)
    go (Some message) q is e rest = out message q (subst (λ (x : HostNote). at_interface me file ≡ gone_by x ++ recording given noted) is e) (subst Rest is rest)

-- for any judged rules
pub nobody_blamed : (judged : Rule → Bool) → NobodyBlamed judged
nobody_blamed judged me ns given now file peers places small fit steps here =
    let w = noted given (begun_alone me ns) now steps in
    let parts = peers_parts me ns peers in
    walk judged ns me given w.0 (new_host me ns) (new_monitor false) file small parts.1 (own_begins ns me parts.0 places) fit w.2
    (subst (λ (all : List HostNote). at_interface me file ≡ recording given all) w.1 here)
