-- Two hosts, which are named by their sides.
use Rattle.std.specs.Prelude.{[], ◌∷◌, is_some}
use Rattle.ncp_host.specs.Host.{state_of}
use Rattle.ncp_host.specs.Turns.{next_output}
use Rattle.ncp_peer.specs.PeerCalls.{kept_for}
use Rattle.ncp_transcript.specs.declared.call.Call.TheVariants as calls
use Rattle.ncp_transcript_two.specs.declared.side.Side.{Side}
use Rattle.ncp_transcript_two.specs.declared.side.Side.TheVariants.{A, B}
use Rattle.ncp_transcript_two.specs.declared.event.Event.{Event}
use Rattle.ncp_transcript_two.specs.declared.event.Event.TheVariants as events
use Rattle.ncp_transcript_two.specs.declared.note.Note.{Note}
use Rattle.ncp_transcript_two.specs.Between.{Hosts, side_number, host_of, transit_of, hosts_after_note}
use Rattle.ncp_transcript_two.specs.Happening.{Noted}
use Rattle.ncp_transcript_two.specs.Seen.{seen}
use Rattle.ncp_transcript_two.specs.Transcript.{IsTranscript}
use Rattle.ncp_proof_quiescence.specs.Settled.{IsSettled}
use Rattle.ncp_proof_quiescence.specs.Settling.{IsStillAt, ByItself, GoesOn, says_nothing}
use Rattle.ncp_world.specs.Kinds.{Kind}

abbrev pub two_kind : Kind Side Event Note Hosts
two_kind = record {
  Noted = Noted;
  after = hosts_after_note;
  IsTranscript = IsTranscript;
  reports_nothing = says_nothing;
  names = λ w. A ∷ B ∷ [];
  out = events.Out;
  deliver = λ from to link. events.Deliver from link;
  answer = λ from to link. events.Answer from link;
  wake = λ from to w. events.Call from (calls.Wake (side_number to w));
  ready = λ from w. is_some (next_output (host_of from w));
  kept = λ from to w link. kept_for (state_of (host_of from w) (side_number to w)) link;
  transit = λ from to w link. transit_of from link w;
  ByItself = ByItself;
  GoesOn = GoesOn;
  IsStill = λ from to w. IsStillAt from w;
  IsSettled = λ w. IsSettled (seen w);
}
