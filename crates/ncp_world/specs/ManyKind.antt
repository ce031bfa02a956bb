-- Two to eight hosts, which are named by their numbers.
use Rattle.std.specs.Prelude.{ℕ, is_some}
use Rattle.ncp_subnet.specs.Subnet.{transit_at}
use Rattle.ncp_host.specs.Host.{state_of}
use Rattle.ncp_host.specs.Turns.{next_output}
use Rattle.ncp_peer.specs.PeerCalls.{kept_for}
use Rattle.ncp_transcript.specs.declared.call.Call.TheVariants as calls
use Rattle.ncp_transcript_many.specs.declared.many_event.ManyEvent.{ManyEvent}
use Rattle.ncp_transcript_many.specs.declared.many_event.ManyEvent.TheVariants as events
use Rattle.ncp_transcript_many.specs.declared.many_note.ManyNote.{ManyNote}
use Rattle.ncp_transcript_many.specs.Network.{Network, numbers_in, host_at, after_many}
use Rattle.ncp_transcript_many.specs.ManyHappening.{ManyNoted}
use Rattle.ncp_transcript_many.specs.ManyTranscript.{IsManyTranscript}
use Rattle.ncp_proof_recovery.specs.ManySettling.{IsStillTo, AreSettled, ManyByItself, ManyGoOn, many_says_nothing}
use Rattle.ncp_world.specs.Kinds.{Kind}

abbrev pub many_kind : Kind ℕ ManyEvent ManyNote Network
many_kind = record {
  Noted = ManyNoted;
  after = after_many;
  IsTranscript = IsManyTranscript;
  reports_nothing = many_says_nothing;
  names = numbers_in;
  out = events.Out;
  deliver = events.Deliver;
  answer = events.Answer;
  wake = λ from to m. events.Call from (calls.Wake to);
  ready = λ from m. is_some (next_output (host_at from m));
  kept = λ from to m link. kept_for (state_of (host_at from m) to) link;
  transit = λ from to m link. transit_at m.subnet from to link;
  ByItself = ManyByItself;
  GoesOn = ManyGoOn;
  IsStill = IsStillTo;
  IsSettled = AreSettled;
}
