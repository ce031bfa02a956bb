-- A call that answers no more than that it was done, from what the host says of it.
use Rattle.std.proofs.Common.{◌≡◌, true, Result, Ok, Err, inl, inr, refl, sym, ap, ◌∙◌}
use Rattle.std.specs.Result.{OnErr}
use Rattle.ncp_model.specs.declared.call_fault.CallFault.{CallFault}
use Rattle.ncp_host.specs.Host.{Host}
use Rattle.ncp_peer.specs.PeerCalls.{DoneOrNoMemory}
use Rattle.ncp_transcript.specs.declared.call.Call.{Call}
use Rattle.ncp_transcript.specs.declared.call.Call.TheVariants.{AskSend, AskReceive}
use Rattle.ncp_transcript.specs.declared.note.HostNote.{HostNote}
use Rattle.ncp_transcript.specs.Notes.{done_or_refused, returned_or_refused}
use Rattle.ncp_transcript.specs.Asked.{asked_in, asked_reply}
use Rattle.ncp_transcript.specs.Answers.{answer_to, takes_memory}
use Rattle.ncp_transcript.specs.After.{after_call, after_note}
use Rattle.ncp_transcript.specs.Noting.{CallNoted}

taking_answers : (call : Call) (h : Host) → takes_memory call ≡ true → answer_to call h ≡ done_or_refused call (asked_reply (asked_in call) h)
taking_answers (AskSend peer local remote size room) h e = refl
taking_answers (AskReceive peer local remote room) h e = refl
taking_answers call h e = absurd (cc e)

module _ (call : Call) (result : Result (Unit {0}) CallFault) (note : HostNote) (before now : Host) (is : note ≡ done_or_refused call result) where
  as_noted : (r : Result (Unit {0}) CallFault) → ((r ≡ Ok tt) → now ≡ after_call call before) → OnErr r (now ≡ before) → now ≡ after_note (done_or_refused call r) before
  as_noted (Ok tt) done stays = done refl
  as_noted (Err fault) done stays = stays

  -- the host is as its note says
  pub done_or_stays : now ≡ after_call call before → OnErr result (now ≡ before) → now ≡ after_note note before
  done_or_stays done stays = as_noted result (λ _. done) stays ∙ ap (λ (n : HostNote). after_note n before) (sym is)

  -- and so is that of a call that takes memory
  pub done_or_short : DoneOrNoMemory (asked_reply (asked_in call) before) (after_call call before) result before now → OnErr result (now ≡ before) → now ≡ after_note note before
  done_or_short (inl d) stays = as_noted result (λ _. d.1) stays ∙ ap (λ (n : HostNote). after_note n before) (sym is)
  done_or_short (inr d) stays = as_noted result (λ ok. absurd (cc)) stays ∙ ap (λ (n : HostNote). after_note n before) (sym is)

  pub noted_or_short : takes_memory call ≡ true → DoneOrNoMemory (asked_reply (asked_in call) before) (after_call call before) result before now → CallNoted call note before
  noted_or_short takes (inl d) = inl (is ∙ ap (done_or_refused call) d.0 ∙ sym (taking_answers call before takes))
  noted_or_short takes (inr d) = inr (record { takes = takes; good = taking_answers call before takes ∙ ap (done_or_refused call) d.1; said = is ∙ ap (done_or_refused call) d.0 })

-- what is read changes nothing
pub answered_stays : {A : Type 0} (call : Call) (told : A → HostNote) (reply : Result A CallFault) (note : HostNote) (h : Host)
    → ((it : A) → after_note (told it) h ≡ h) → note ≡ returned_or_refused call told reply → h ≡ after_note note h
answered_stays call told (Ok it) note h stays is = sym (stays it) ∙ ap (λ (n : HostNote). after_note n h) (sym is)
answered_stays call told (Err fault) note h stays is = ap (λ (n : HostNote). after_note n h) (sym is)
