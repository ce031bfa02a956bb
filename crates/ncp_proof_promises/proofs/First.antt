-- What goes out of a host of a world is what the rules of one host say.
use Rattle.std.proofs.Common.{◌≡◌, List, [], ◌∷◌, ◌++◌, Bool, None, Some, refl, sym, ap, ◌∙◌, subst}
use Rattle.std.proofs.lemmas.List.{append_assoc}
use Rattle.ncp_host.specs.Host.{Host, numbers_of}
use Rattle.ncp_peer.specs.Readiness.{IsNext}
use Rattle.ncp_transcript.specs.declared.note.HostNote.{HostNote}
use Rattle.ncp_transcript.specs.After.{after_notes}
use Rattle.ncp_transcript.specs.Runs.{IsHostTranscript, host_began}
use Rattle.ncp_transcript.proofs.Beginning.{began_noted}
use Rattle.ncp_proof_runs.specs.Peers.{FromBeginning}
use Rattle.ncp_proof_runs.proofs.Begun.{is_run}
use Rattle.ncp_proof_runs.proofs.First.{none-ready, out-first}
use Rattle.ncp_transcript_two.specs.declared.side.Side.{Side}
use Rattle.ncp_transcript_two.specs.declared.side.Side.TheVariants.{A, B}
use Rattle.ncp_transcript_two.specs.declared.note.Note.{Note}
use Rattle.ncp_transcript_two.specs.Between.{Hosts, host_of, hosts_after_note, hosts_after_notes}
use Rattle.ncp_transcript_two.specs.Transcript.{began, IsTranscript}
use Rattle.ncp_transcript_two.specs.Sides.{notes_at_side, notes_at}
use Rattle.ncp_proof_promises.proofs.Beginnings.{begins}

-- a host as it was when it began stays
stays : (side : Side) (note : Note) (w : Hosts) → host_began (host_of side (hosts_after_note note w)) ≡ host_began (host_of side w)
stays A (Note.Called A n) w = began_noted n w.a
stays A (Note.Called B n) w = refl
stays B (Note.Called A n) w = refl
stays B (Note.Called B n) w = began_noted n w.b
stays A (Note.Out A n) w = began_noted n w.a
stays A (Note.Out B n) w = refl
stays B (Note.Out A n) w = refl
stays B (Note.Out B n) w = began_noted n w.b
stays A (Note.Came A link n) w = refl
stays A (Note.Came B link n) w = began_noted n w.a
stays B (Note.Came A link n) w = began_noted n w.b
stays B (Note.Came B link n) w = refl
stays A (Note.Lost by link) w = refl
stays B (Note.Lost by link) w = refl
stays A (Note.FoundDead by link) w = refl
stays B (Note.FoundDead by link) w = refl
stays A (Note.Answered A link n) w = began_noted n w.a
stays A (Note.Answered B link n) w = refl
stays B (Note.Answered A link n) w = refl
stays B (Note.Answered B link n) w = began_noted n w.b
stays side (Note.Nothing by link wanted) w = refl

stays-all : (side : Side) (ns : List Note) (w : Hosts) → host_began (host_of side (hosts_after_notes ns w)) ≡ host_began (host_of side w)
stays-all side [] w = refl
stays-all side (note ∷ ns) w = stays-all side ns (hosts_after_note note w) ∙ stays side note w

-- the notes of a side, in two parts
notes-joined : (side : Side) (some more : List Note) → notes_at side (some ++ more) ≡ notes_at side some ++ notes_at side more
notes-joined side [] more = refl
notes-joined side (note ∷ ns) more =
    ap (λ (rest : List HostNote). notes_at_side side note ++ rest) (notes-joined side ns more)
    ∙ sym (append_assoc (notes_at_side side note) (notes_at side ns) (notes_at side more))

with-out : (side : Side) (before after : List Note) (n : HostNote) → notes_at side (before ++ Note.Out side n ∷ after) ≡ notes_at side before ++ n ∷ notes_at side after
with-out A before after n = notes-joined A before (Note.Out A n ∷ after)
with-out B before after n = notes-joined B before (Note.Out B n ∷ after)

-- each host of a world is one by itself
abbrev pub ByItself : Type 0
ByItself = (ns : List Note) (w : Hosts) (side : Side) → IsTranscript ns w → IsHostTranscript (notes_at side ns) (host_of side w)

-- before a note of what goes out: the notes of its host until then have led to it
module _ (alone : ByItself) (side : Side) (before after : List Note) (n : HostNote) (w : Hosts) (t : IsTranscript (before ++ Note.Out side n ∷ after) w) where
  of-host : FromBeginning (host_of side w).me (numbers_of (host_of side w).peers) (notes_at side before ++ n ∷ notes_at side after)
  of-host =
      subst (λ (all : List HostNote). FromBeginning (host_of side w).me (numbers_of (host_of side w).peers) all) (with-out side before after n)
      (is_run (notes_at side (before ++ Note.Out side n ∷ after)) (host_of side w) (alone (before ++ Note.Out side n ∷ after) w side t))

  before-it : host_of side (hosts_after_notes before (began w)) ≡ after_notes (notes_at side before) (host_began (host_of side w))
  before-it =
      (alone before (hosts_after_notes before (began w)) side (begins before (Note.Out side n ∷ after) w t)).state
      ∙ ap (after_notes (notes_at side before)) (stays-all side before (began w)
      ∙ sym (stays-all side (before ++ Note.Out side n ∷ after) (began w)) ∙ sym (ap (λ (x : Hosts). host_began (host_of side x)) t.state))

pub in-vain : ByItself → (before after : List Note) (w : Hosts) (side : Side) → IsTranscript (before ++ Note.Out side HostNote.Nothing ∷ after) w → IsNext None (host_of side (hosts_after_notes before (began w))).peers
in-vain alone before after w side t =
    subst (λ (h : Host). IsNext None h.peers) (sym (before-it alone side before after HostNote.Nothing w t))
    (none-ready (host_of side w).me (numbers_of (host_of side w).peers) (notes_at side before) (notes_at side after) (of-host alone side before after HostNote.Nothing w t))

pub goes-first : ByItself → (before after : List Note) (w : Hosts) (side : Side) (message : List Bool) → IsTranscript (before ++ Note.Out side (HostNote.Out message) ∷ after) w → IsNext (Some message) (host_of side (hosts_after_notes before (began w))).peers
goes-first alone before after w side message t =
    subst (λ (h : Host). IsNext (Some message) h.peers) (sym (before-it alone side before after (HostNote.Out message) w t))
    (out-first (host_of side w).me (numbers_of (host_of side w).peers) (notes_at side before) (notes_at side after) message (of-host alone side before after (HostNote.Out message) w t))
