-- What goes out of a host among many is what the rules of one host say.
use Rattle.std.proofs.Common.{◌≡◌, ℕ, Bool, true, if◌then◌else◌, List, [], ◌∷◌, ◌++◌, None, Some, sym, ap, ◌∙◌, refl, subst}
use Rattle.std.proofs.lemmas.Bool.{eq-eqb}
use Rattle.std.proofs.lemmas.List.{append_assoc}
use Rattle.ncp_host.specs.Host.{Host, is_one_of, new_host}
use Rattle.ncp_peer.specs.Readiness.{IsNext}
use Rattle.ncp_transcript.specs.declared.note.HostNote.{HostNote}
use Rattle.ncp_transcript.specs.declared.note.HostNote.TheVariants as of_host
use Rattle.ncp_transcript.specs.After as transcripts
use Rattle.ncp_proof_runs.specs.Peers.{FromBeginning}
use Rattle.ncp_proof_runs.proofs.First.{none-ready, out-first}
use Rattle.ncp_transcript_many.specs.declared.many_note.ManyNote.{ManyNote}
use Rattle.ncp_transcript_many.specs.declared.many_note.ManyNote.TheVariants as many
use Rattle.ncp_transcript_many.specs.Network.{Network, numbers_in, is_there, others, host_at, after_many_notes}
use Rattle.ncp_transcript_many.specs.ManyTranscript.{network_began, IsManyTranscript}
use Rattle.ncp_transcript_many.specs.Pairs.{note_at_host, notes_at_host}
use Rattle.ncp_transcript_many.proofs.NoteKinds.{Kinds, each-kind}
use Rattle.ncp_transcript_many.proofs.ManyRuns.{said-in, numbers-then, many-begins}
use Rattle.ncp_transcript_many.proofs.ByItself.{host-from, host-led}

-- the notes of a host, in two parts
notes-joined : (k : ℕ) (some more : List ManyNote) → notes_at_host k (some ++ more) ≡ notes_at_host k some ++ notes_at_host k more
notes-joined k [] more = refl
notes-joined k (note ∷ ns) more =
    ap (λ (rest : List HostNote). note_at_host k note ++ rest) (notes-joined k ns more)
    ∙ sym (append_assoc (note_at_host k note) (notes_at_host k ns) (notes_at_host k more))

with-out : (k : ℕ) (before after : List ManyNote) (n : HostNote) → notes_at_host k (before ++ many.Out k n ∷ after) ≡ notes_at_host k before ++ n ∷ notes_at_host k after
with-out k before after n =
    notes-joined k before (many.Out k n ∷ after)
    ∙ ap (λ (b : Bool). notes_at_host k before ++ ((if b then n ∷ [] else []) ++ notes_at_host k after)) (eq-eqb k k refl)

-- a host of whose output there is a note is there
abbrev OutThere : Network → ManyNote → Type 0
OutThere m (many.Out host note) = is_there host m ≡ true
OutThere m other = Unit {0}

out-kinds : (m : Network) → Kinds m (OutThere m)
out-kinds m = record {
  called = λ host call n there noted fits. tt;
  goes = λ host message there next. there;
  still = λ host there next. there;
  came = λ from to link y two there. tt;
  lost = λ from to link two there. tt;
  dead = λ from to link two there. tt;
  answered = λ from to link kind two there. tt;
  never_came = λ from to link two none. tt;
  never_lost = λ from to link two none. tt;
  never_dead = λ from to link two none. tt;
  never_answered = λ from to link two none. tt;
  absent = λ event none. tt;
}

-- before a note of what goes out: the notes of its host until then have led to it
module _ (before after : List ManyNote) (m : Network) (k : ℕ) (n : HostNote) (t : IsManyTranscript (before ++ many.Out k n ∷ after) m) where
  abbrev until : Network
  until = after_many_notes before (network_began m)

  there-then : is_there k until ≡ true
  there-then = let s = said-in before after (many.Out k n) (network_began m) t.run in each-kind until (OutThere until) (out-kinds until) s.0 (many.Out k n) s.1

  there-now : is_there k m ≡ true
  there-now = ap (is_one_of k) (sym (numbers-then before m)) ∙ there-then

  of-host : FromBeginning k (others k (numbers_in m)) (notes_at_host k before ++ n ∷ notes_at_host k after)
  of-host = subst (FromBeginning k (others k (numbers_in m))) (with-out k before after n) (host-from (before ++ many.Out k n ∷ after) m k t there-now)

  before-it : host_at k until ≡ transcripts.after_notes (notes_at_host k before) (new_host k (others k (numbers_in m)))
  before-it =
      host-led before until k (many-begins before (many.Out k n ∷ after) m t) there-then
      ∙ ap (λ (ns : List ℕ). transcripts.after_notes (notes_at_host k before) (new_host k (others k ns))) (numbers-then before m)

pub in-vain : (before after : List ManyNote) (m : Network) (k : ℕ) → IsManyTranscript (before ++ many.Out k of_host.Nothing ∷ after) m → IsNext None (host_at k (after_many_notes before (network_began m))).peers
in-vain before after m k t =
    subst (λ (h : Host). IsNext None h.peers) (sym (before-it before after m k of_host.Nothing t))
    (none-ready k (others k (numbers_in m)) (notes_at_host k before) (notes_at_host k after) (of-host before after m k of_host.Nothing t))

pub goes-first : (before after : List ManyNote) (m : Network) (k : ℕ) (message : List Bool) → IsManyTranscript (before ++ many.Out k (of_host.Out message) ∷ after) m
    → IsNext (Some message) (host_at k (after_many_notes before (network_began m))).peers
goes-first before after m k message t =
    subst (λ (h : Host). IsNext (Some message) h.peers) (sym (before-it before after m k (of_host.Out message) t))
    (out-first k (others k (numbers_in m)) (notes_at_host k before) (notes_at_host k after) message (of-host before after m k (of_host.Out message) t))
