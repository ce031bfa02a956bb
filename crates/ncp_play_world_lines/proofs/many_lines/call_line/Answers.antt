use Rattle.std.proofs.Common.{◌≡◌, Bool, true, Some, None, if◌then◌else◌, sym, ap, ◌∙◌}
use Rattle.ncp_transcript.specs.Asked.{peer_of_call}
use Rattle.ncp_transcript_many.specs.declared.many_event.ManyEvent.TheVariants as events
use Rattle.ncp_play_world_lines.specs.ManyLines.{is_known, call_if_known}
use Rattle.ncp_play_world_lines.proofs.many_lines.call_line.Goals as goal

pub returns-then-is_known-clause-event : goal.returns-then-is_known-clause-event
returns-then-is_known-clause-event c =
    let known : is_known c.args.hosts.now (peer_of_call c.in-Some.call) ≡ true = cc in
    sym (ap (λ (b : Bool). if b then Some (events.Call c.args.host c.in-Some.call) else None) known) ∙ ap (call_if_known c.args.hosts.now c.args.host) (sym c.in-Some.is ∙ c.in_ok-call.ensures.call)
