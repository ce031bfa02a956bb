-- At the end of a transcript each host has something for the other, its only peer.
use Rattle.std.proofs.Common.{◌≡◌, ℕ, Bool, if◌then◌else◌, List, [], ◌∷◌, Option, Some, sym, ap, ◌∙◌, subst}
use Rattle.std.proofs.lemmas.Bool.{eq-eqb}
use Rattle.ncp_peer.specs.PeerState.{PeerState}
use Rattle.ncp_host.specs.Host.{numbers_of, state_in, state_of}
use Rattle.ncp_transcript_two.specs.Seen.{state_or_new, had_for}
use Rattle.ncp_transcript_two.specs.declared.side.Side.{Side}
use Rattle.ncp_transcript_two.specs.declared.side.Side.TheVariants.{A, B}
use Rattle.ncp_transcript_two.specs.declared.note.Note.{Note}
use Rattle.ncp_transcript_two.specs.Between.{Hosts, other, side_number, host_of, hosts_after_note, hosts_after_notes}
use Rattle.ncp_transcript_two.specs.Transcript.{began, IsTranscript}
use Rattle.ncp_transcript_two.proofs.SeenSteps.{Stand}
use Rattle.ncp_transcript_two.proofs.SeenRuns.{stand-after}
use Rattle.ncp_transcript_two.proofs.Headlines.{stands}

stands-all : (ns : List Note) (w : Hosts) → Stand w → Stand (hosts_after_notes ns w)
stands-all [] w k = k
stands-all (note ∷ ns) w k = stands-all ns (hosts_after_note note w) (stand-after note w k)

stands-last : (ns : List Note) (w : Hosts) → IsTranscript ns w → Stand w
stands-last ns w t = subst (λ (x : Hosts). Stand x) (sym t.state) (stands-all ns (began w) (stands ns w t))

-- a host with one peer has something for it
had-one : (n : ℕ) (ps : List (ℕ × PeerState)) → numbers_of ps ≡ n ∷ [] → state_in ps n ≡ Some (state_or_new (state_in ps n))
had-one n [] e = absurd (cc e)
had-one n (p ∷ ps) e =
    let is : p.0 ≡ n = cc e in
    let here : state_in (p ∷ ps) n ≡ Some p.1 = ap (λ (b : Bool). if b then Some p.1 else state_in ps n) (eq-eqb p.0 n is) in
    here ∙ ap (λ (o : Option PeerState). Some (state_or_new o)) (sym here)

-- what a host has for the other
pub kept-for : (ns : List Note) (w : Hosts) (side : Side) → IsTranscript ns w → state_of (host_of side w) (side_number (other side) w) ≡ Some (had_for (side_number (other side) w) (host_of side w))
kept-for ns w A t = had-one w.number_b w.a.peers (stands-last ns w t).a
kept-for ns w B t = had-one w.number_a w.b.peers (stands-last ns w t).b
