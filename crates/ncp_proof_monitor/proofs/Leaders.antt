-- A walk over a run: no sent message breaks a rule of leaders.
use Rattle.std.proofs.Common.{◌≡◌, ℕ, ◌==◌, nat_le, Bool, true, false, not, ◌&&◌, List, [], ◌∷◌, ◌++◌, length, Option, None, Some, refl, sym, ap, ◌∙◌, subst}
use Rattle.std.proofs.lemmas.Bool.{eqb-true}
use Rattle.ncp_host.specs.declared.limits.TheConstants.{MAX_PEERS}
use Rattle.ncp_host.specs.Host.{Host, is_one_of, are_distinct, are_peers, new_host}
use Rattle.ncp_host.specs.Turns.{next_output}
use Rattle.ncp_transcript.specs.declared.input.Input.{Input}
use Rattle.ncp_transcript.specs.declared.note.HostNote.{HostNote}
use Rattle.ncp_transcript.specs.After.{after_note}
use Rattle.ncp_transcript.specs.Noting.{note_of_message}
use Rattle.ncp_transcript.specs.Runs.{AreHostNotes}
use Rattle.ncp_transcript.proofs.Saying.{noted_said}
use Rattle.ncp_proof_runs.proofs.States.{Turn, peer_there}
use Rattle.ncp_proof_runs.proofs.HostRuns.{Holds, out-turn, out-is}
use Rattle.ncp_proof_runs.proofs.Said.{IsOut}
use Rattle.ncp_proof_runs.proofs.EachPeer.{holds-after, new-holds}
use Rattle.ncp_monitor.specs.declared.finding.Rule.{Rule}
use Rattle.ncp_monitor.specs.declared.monitor.Monitor.{Monitor}
use Rattle.ncp_interface.specs.declared.imp_direction.ImpDirection.TheVariants.{ToImp, FromImp}
use Rattle.ncp_monitor.specs.Judged.{new_monitor, by_host, sees, record_findings, after_record}
use Rattle.ncp_monitor.proofs.Passing.{Pass, both, is_said, goes}
use Rattle.ncp_proof_monitor.specs.Recordings.{gone_by, recording, findings_from, spares, begun_alone, NoFalseAlarm, is_of_leader}
use Rattle.ncp_proof_monitor.proofs.Spared.{rule_spared, spared}
use Rattle.ncp_proof_monitor.proofs.Steps.{noted}
use Rattle.ncp_proof_monitor.proofs.Goes.{links_unjudged, used, rules_of_used}

-- ---- the peers of a host

pub apart : (me n : ℕ) (ns : List ℕ) → is_one_of me ns ≡ false → is_one_of n ns ≡ true → (n == me) ≡ false
apart me n ns a i = go (n == me) refl
  where
    go : (b : Bool) → (n == me) ≡ b → b ≡ false
    go true g = let no : true ≡ false = sym i ∙ ap (λ (k : ℕ). is_one_of k ns) (eqb-true n me g) ∙ a in absurd (cc)
    go false g = refl

pub parts : (a b c d : Bool) → (a && b && c && not d) ≡ true → (c ≡ true) × (d ≡ false)
parts true true true true e = absurd (cc)
parts true true true false e = (refl, refl)
parts true true false d e = absurd (cc)
parts true false c d e = absurd (cc)
parts false b c d e = absurd (cc)

pub peers_parts : (me : ℕ) (ns : List ℕ) → are_peers me ns ≡ true → (are_distinct ns ≡ true) × (is_one_of me ns ≡ false)
peers_parts me ns e = parts (nat_le 1 (length ns)) (nat_le (length ns) MAX_PEERS) (are_distinct ns) (is_one_of me ns) e

-- ---- sent messages

pub peer_of_turn : (ns : List ℕ) (me : ℕ) (h : Host) (message : List Bool) → Holds ns h → is_one_of me ns ≡ false → (t : Turn h.peers message) → (t.n == me) ≡ false
peer_of_turn ns me h message k a t = apart me t.n ns a (ap (is_one_of t.n) (sym k.numbers) ∙ peer_there h.peers t.n t.s t.found)

unsaid : (r : Rule) → is_said r ≡ true → is_of_leader r ≡ false
unsaid (Rule.Short bits) e = absurd (cc)
unsaid (Rule.OwnHost kind link) e = absurd (cc)
unsaid (Rule.Kind kind) e = absurd (cc)
unsaid (Rule.WrongLink link) e = absurd (cc)
unsaid rule e = refl

leads : (ns : List ℕ) (me : ℕ) (h : Host) (monitor : Monitor) (message : List Bool) → Holds ns h → is_one_of me ns ≡ false → next_output h ≡ Some message
    → Pass (spares is_of_leader me) (record_findings monitor ToImp me message)
leads ns me h monitor message k a e =
    let t = out-turn ns h message k e in
    let is : IsOut t.n message t.s = out-is ns h message k t in
    goes (spares is_of_leader me) monitor me t.n is.on message is.leader (peer_of_turn ns me h message k a t)
    (λ r s. rule_spared is_of_leader me (by_host me r) (unsaid r s))
    (links_unjudged is_of_leader (sees monitor me) me t.n is.on message refl refl)
    (λ r f. rule_spared is_of_leader me (by_host me r) (rules_of_used is_of_leader message t.n is.on r is.leader (used is.on is.a_link) (λ fault. refl) (λ size. refl) (λ flags low text rest. refl) f))

-- ---- the walk

walk : (ns : List ℕ) (me : ℕ) (given : List Input) (noted : List HostNote) (h : Host) (monitor : Monitor) → Holds ns h → is_one_of me ns ≡ false → AreHostNotes given noted h
    → Pass (spares is_of_leader me) (findings_from monitor me (recording given noted))
walk ns me [] noted h monitor k a p = refl
walk ns me (input ∷ given) [] h monitor k a p = refl
walk ns me (Input.Call call ∷ given) (note ∷ noted) h monitor k a p =
    walk ns me given noted (after_note note h) monitor (holds-after ns note h k (noted_said (Input.Call call) note h p.0)) a p.1
walk ns me (Input.In bits ∷ given) (note ∷ noted) h monitor k a p =
    let after = after_record monitor FromImp me bits in
    both (spares is_of_leader me) (record_findings monitor FromImp me bits) (findings_from after me (recording given noted)) (spared is_of_leader me monitor bits)
    (walk ns me given noted (after_note note h) after (holds-after ns note h k (noted_said (Input.In bits) note h p.0)) a p.1)
walk ns me (Input.Out ∷ given) (note ∷ noted) h monitor k a p =
    go (next_output h) refl p.0 (λ u. walk ns me given noted (after_note note h) u (holds-after ns note h k (noted_said Input.Out note h p.0)) a p.1)
  where
    go : (o : Option (List Bool)) → next_output h ≡ o → note ≡ note_of_message o → ((u : Monitor) → Pass (spares is_of_leader me) (findings_from u me (recording given noted)))
        → Pass (spares is_of_leader me) (findings_from monitor me (gone_by note ++ recording given noted))
    go None q e rest = subst (λ (x : HostNote). Pass (spares is_of_leader me) (findings_from monitor me (gone_by x ++ recording given noted))) (sym e) (rest monitor)
    go (Some message) q e rest = subst (λ (x : HostNote). Pass (spares is_of_leader me) (findings_from monitor me (gone_by x ++ recording given noted))) (sym e)
        (both (spares is_of_leader me) (record_findings monitor ToImp me message) (findings_from (after_record monitor ToImp me message) me (recording given noted))
        (leads ns me h monitor message k a q) (rest (after_record monitor ToImp me message)))

pub none_blamed : NoFalseAlarm is_of_leader
none_blamed me ns given now peers places steps =
    let w = noted given (begun_alone me ns) now steps in
    let parts = peers_parts me ns peers in
    subst (λ (all : List HostNote). Pass (spares is_of_leader me) (findings_from (new_monitor false) me (recording given all))) (sym w.1)
    (walk ns me given w.0 (new_host me ns) (new_monitor false) (new-holds me ns parts.0 places) parts.1 w.2)
