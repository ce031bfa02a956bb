-- What notes say of an echo and of what is read is what the notes before them say.
use Rattle.std.proofs.Common.{◌≡◌, ℕ, Bool, true, false, if◌then◌else◌, List, ◌∷◌, ◌++◌, Option, None, Some, Ok, Err, inl, inr, refl, sym, ap, ◌∙◌}
use Rattle.ncp_wire.specs.declared.command.Command.{Command}
use Rattle.ncp_model.specs.declared.call_fault.CallFault.TheVariants.{Busy, QueueFull, NotUp}
use Rattle.ncp_model.specs.declared.outcomes.Error.{Error}
use Rattle.ncp_model.specs.Echo.{Echoes, echo_answer}
use Rattle.ncp_model.specs.Phase.{up}
use Rattle.ncp_model.specs.Sending.{is_full}
use Rattle.ncp_model.specs.Peers.{Peer, call_accepted, reply_of_echo}
use Rattle.ncp_peer.specs.declared.counts.Counts.{Counts}
use Rattle.ncp_host.specs.Calls.{echoed_returned, errors_returned, counts_returned}
use Rattle.ncp_peer.specs.PeerState.{PeerState}
use Rattle.ncp_host.specs.Host.{Host, state_of, new_host, if_known}
use Rattle.ncp_transcript.specs.declared.call.Call.{Call}
use Rattle.ncp_transcript.specs.declared.note.HostNote.{HostNote}
use Rattle.ncp_transcript.specs.Notes.{done_or_refused, returned_or_refused}
use Rattle.ncp_transcript.specs.After.{after_notes}
use Rattle.ncp_transcript.specs.Runs.{IsHostSaid}
use Rattle.ncp_proof_runs.specs.Peers.{FromBeginning, notes_of_peer}
use Rattle.ncp_proof_runs.specs.Echoing.{echo_of, last_of}
use Rattle.ncp_proof_runs.specs.Counted.{counted_so_far, counts_capped}
use Rattle.ncp_proof_runs.proofs.HostRuns.{done-ok}
use Rattle.ncp_proof_runs.proofs.InRuns.{Before, before_note}
use Rattle.ncp_proof_runs.proofs.EchoTold.{accepted-echo, echoes-noted}
use Rattle.ncp_proof_runs.proofs.CountsTold.{counts-noted}

-- What is read.

byte-read : (n : ℕ) (byte : Option ℕ) (h : Host) → returned_or_refused (Call.Echoed n) (HostNote.Echoed n) (echoed_returned n h) ≡ HostNote.Echoed n byte → (s : PeerState) × (state_of h n ≡ Some s) × (s.peer.echoes.echoed ≡ byte)
byte-read n byte h e = go (state_of h n) refl e
  where
    go : (o : Option PeerState) → state_of h n ≡ o → returned_or_refused (Call.Echoed n) (HostNote.Echoed n) (if_known o (λ s. Ok s.peer.echoes.echoed)) ≡ HostNote.Echoed n byte → (s : PeerState) × (state_of h n ≡ Some s) × (s.peer.echoes.echoed ≡ byte)
    go None f e = absurd (cc)
    go (Some s) f e = (s, f, cc)

errors-read : (n : ℕ) (errors : List Error) (h : Host) → returned_or_refused (Call.Errors n) (HostNote.Errors n) (errors_returned n h) ≡ HostNote.Errors n errors → (s : PeerState) × (state_of h n ≡ Some s) × (s.peer.echoes.errors ≡ errors)
errors-read n errors h e = go (state_of h n) refl e
  where
    go : (o : Option PeerState) → state_of h n ≡ o → returned_or_refused (Call.Errors n) (HostNote.Errors n) (if_known o (λ s. Ok s.peer.echoes.errors)) ≡ HostNote.Errors n errors → (s : PeerState) × (state_of h n ≡ Some s) × (s.peer.echoes.errors ≡ errors)
    go None f e = absurd (cc)
    go (Some s) f e = (s, f, cc)

counts-read : (n : ℕ) (counts : Counts) (h : Host) → returned_or_refused (Call.Counts n) (HostNote.Counts n) (counts_returned n h) ≡ HostNote.Counts n counts → (s : PeerState) × (state_of h n ≡ Some s) × (s.counts ≡ counts)
counts-read n counts h e = go (state_of h n) refl e
  where
    go : (o : Option PeerState) → state_of h n ≡ o → returned_or_refused (Call.Counts n) (HostNote.Counts n) (if_known o (λ s. Ok s.counts)) ≡ HostNote.Counts n counts → (s : PeerState) × (state_of h n ≡ Some s) × (s.counts ≡ counts)
    go None f e = absurd (cc)
    go (Some s) f e = (s, f, cc)

module _ (me : ℕ) (ns : List ℕ) (before after : List HostNote) (n : ℕ) where
  pub byte-noted : (byte : Option ℕ) → FromBeginning me ns (before ++ HostNote.Echoed n byte ∷ after) → byte ≡ (echo_of (notes_of_peer n before)).byte
  byte-noted byte from =
      let b = before_note me ns before after (HostNote.Echoed n byte) from in
      let w = byte-read n byte (after_notes before (new_host me ns)) b.said in
      sym w.2 ∙ ap (λ (x : Echoes). x.echoed) (echoes-noted me ns before n w.0 b.from w.1)

  pub errors-noted : (errors : List Error) → FromBeginning me ns (before ++ HostNote.Errors n errors ∷ after) → errors ≡ last_of 16 (echo_of (notes_of_peer n before)).errors
  errors-noted errors from =
      let b = before_note me ns before after (HostNote.Errors n errors) from in
      let w = errors-read n errors (after_notes before (new_host me ns)) b.said in
      sym w.2 ∙ ap (λ (x : Echoes). x.errors) (echoes-noted me ns before n w.0 b.from w.1)

  pub counts-said : (counts : Counts) → FromBeginning me ns (before ++ HostNote.Counts n counts ∷ after) → counts ≡ counts_capped (counted_so_far (notes_of_peer n before))
  counts-said counts from =
      let b = before_note me ns before after (HostNote.Counts n counts) from in
      let w = counts-read n counts (after_notes before (new_host me ns)) b.said in
      sym w.2 ∙ counts-noted me ns before n w.0 b.from w.1

  -- An echo that was accepted, and one that was refused as busy.

  pub echo-accepted : (byte : ℕ) → FromBeginning me ns (before ++ HostNote.Done (Call.Echo n byte) ∷ after) → (echo_of (notes_of_peer n before)).asked ≡ false
  echo-accepted byte from = go (state_of h n) refl b.said
    where
      h : Host
      h = after_notes before (new_host me ns)

      b : Before me ns before (HostNote.Done (Call.Echo n byte))
      b = before_note me ns before after (HostNote.Done (Call.Echo n byte)) from

      go : (o : Option PeerState) → state_of h n ≡ o → done_or_refused (Call.Echo n byte) (if_known o (λ s. reply_of_echo byte s.peer)) ≡ HostNote.Done (Call.Echo n byte) → (echo_of (notes_of_peer n before)).asked ≡ false
      go None f e = absurd (cc)
      go (Some s) f e =
          sym (ap (λ (x : Echoes). x.awaited) (echoes-noted me ns before n s b.from f))
          ∙ (accepted-echo byte s.peer (done-ok (Call.Echo n byte) (reply_of_echo byte s.peer) e)).2

  busy-awaits : (byte : ℕ) (p : Peer) → done_or_refused (Call.Echo n byte) (reply_of_echo byte p) ≡ HostNote.Refused (Call.Echo n byte) Busy → p.echoes.awaited ≡ true
  busy-awaits byte p e = go (up p.phase) e
    where
      inner : (a b : Bool) → done_or_refused (Call.Echo n byte) (call_accepted (if a then Err Busy else if b then Err QueueFull else Ok (Command.Eco byte))) ≡ HostNote.Refused (Call.Echo n byte) Busy → a ≡ true
      inner true b e = refl
      inner false true e = absurd (cc)
      inner false false e = absurd (cc)

      go : (b : Bool) → done_or_refused (Call.Echo n byte) (if b then call_accepted (echo_answer byte (is_full p.phase) p.echoes) else Err NotUp) ≡ HostNote.Refused (Call.Echo n byte) Busy → p.echoes.awaited ≡ true
      go true e = inner p.echoes.awaited (is_full p.phase) e
      go false e = absurd (cc)

  pub echo-busy : (byte : ℕ) → FromBeginning me ns (before ++ HostNote.Refused (Call.Echo n byte) Busy ∷ after) → (echo_of (notes_of_peer n before)).asked ≡ true
  echo-busy byte from = by b.said
    where
      h : Host
      h = after_notes before (new_host me ns)

      b : Before me ns before (HostNote.Refused (Call.Echo n byte) Busy)
      b = before_note me ns before after (HostNote.Refused (Call.Echo n byte) Busy) from

      go : (o : Option PeerState) → state_of h n ≡ o → done_or_refused (Call.Echo n byte) (if_known o (λ s. reply_of_echo byte s.peer)) ≡ HostNote.Refused (Call.Echo n byte) Busy → (echo_of (notes_of_peer n before)).asked ≡ true
      go None f e = absurd (cc)
      go (Some s) f e = sym (ap (λ (x : Echoes). x.awaited) (echoes-noted me ns before n s b.from f)) ∙ busy-awaits byte s.peer e

      by : IsHostSaid (HostNote.Refused (Call.Echo n byte) Busy) h → (echo_of (notes_of_peer n before)).asked ≡ true
      by (inl e) = go (state_of h n) refl e
      by (inr want) = absurd (cc want.takes)
