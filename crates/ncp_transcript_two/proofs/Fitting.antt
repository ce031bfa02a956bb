-- What is told of a call has the numbers of the call.
use Rattle.std.proofs.Common.{◌≡◌, None, Some, refl, sym, subst}
use Rattle.ncp_host.specs.Host.{Host}
use Rattle.ncp_transcript.specs.declared.call.Call.{Call}
use Rattle.ncp_transcript.specs.declared.note.HostNote.{HostNote}
use Rattle.ncp_transcript.specs.declared.note.HostNote.TheVariants.{Done, Took}
use Rattle.ncp_transcript.specs.Noting.{CallNoted}
use Rattle.ncp_transcript.proofs.AskedCalls.{reads, CallOutcome, Was_done, Was_taken, Was_refused, Was_read, outcome-noted}
use Rattle.ncp_transcript_two.specs.Seen.{call_body, NoteFits, CallFits}

-- of what is read nothing is told
pub reads-untold : (note : HostNote) (call : Call) → reads note ≡ Some call → call_body note ≡ None
reads-untold (Done asked) call e = absurd (cc e)
reads-untold (Took peer pair bytes text) call e = absurd (cc e)
reads-untold note call e = refl

pub note-fits : (call : Call) (note : HostNote) (h : Host) → CallNoted call note h → CallFits call → NoteFits (call_body note)
note-fits call note h noted fits = go note (outcome-noted call note h noted)
  where
    go : (n : HostNote) → CallOutcome call h n → NoteFits (call_body n)
    go n (Was_done peer asked s at says by) = fits
    go n (Was_taken peer pair bytes text s at says is) = subst CallFits is fits
    go n (Was_refused fault why) = tt
    go n (Was_read read by) = subst NoteFits (sym (reads-untold read call by)) tt
