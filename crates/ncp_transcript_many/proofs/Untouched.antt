-- One of many hosts notes something that does not name a host: what it has for that host stays.
use Rattle.std.proofs.Common.{◌≡◌, ℕ, ◌==◌, Bool, true, false, List, refl, sym, ap, ◌∙◌, subst}
use Rattle.std.proofs.lemmas.Bool.{eqb-true}
use Rattle.ncp_host.specs.Host.{Host, state_of, is_one_of}
use Rattle.ncp_transcript.specs.declared.note.HostNote.{HostNote}
use Rattle.ncp_transcript.specs.After.{after_note}
use Rattle.ncp_transcript.specs.Runs as runs
use Rattle.ncp_proof_runs.specs.Peers.{names, note_for}
use Rattle.ncp_proof_runs.proofs.States.{done, done_not}
use Rattle.ncp_proof_runs.proofs.HostRuns.{Holds, note-state}
use Rattle.ncp_transcript_many.specs.Network.{Network, is_there, host_at, host_notes}
use Rattle.ncp_transcript_many.proofs.Numbered.{numbers-stay}
use Rattle.ncp_transcript_many.proofs.Crowds.{host-here, host-there}

pub noted-there : (k j : ℕ) (n : HostNote) (m : Network) → is_there j (host_notes k n m) ≡ is_there j m
noted-there k j n m = ap (is_one_of j) (numbers-stay m.hosts k (after_note n))

-- what a host has for a number that its note does not name stays
pub untouched : (k j number : ℕ) (n : HostNote) (m : Network) (ns : List ℕ) → is_there k m ≡ true → Holds ns (host_at k m) → runs.IsHostSaid n (host_at k m) → (k ≡ j → names number n ≡ false)
    → state_of (host_at j (host_notes k n m)) number ≡ state_of (host_at j m) number
untouched k j number n m ns e holds said apart = go (k == j) refl
  where
    go : (b : Bool) → (k == j) ≡ b → state_of (host_at j (host_notes k n m)) number ≡ state_of (host_at j m) number
    go true t =
        let same : k ≡ j = eqb-true k j t in
        subst (λ (i : ℕ). state_of (host_at i (host_notes k n m)) number ≡ state_of (host_at i m) number) same
        (ap (λ (h : Host). state_of h number) (host-here k n m e)
        ∙ note-state ns n (host_at k m) number holds said
        ∙ ap (λ (b : Bool). done b (note_for n) (state_of (host_at k m) number)) (apart same)
        ∙ sym (done_not (note_for n) (state_of (host_at k m) number)))
    go false t = ap (λ (h : Host). state_of h number) (host-there k j n m t)
