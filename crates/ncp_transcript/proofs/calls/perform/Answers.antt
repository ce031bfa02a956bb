use Rattle.std.proofs.Common.{inl, refl, sym, ap, subst}
use Rattle.ncp_host.specs.Calls.{record_told, flags_returned, echoed_returned, counts_returned}
use Rattle.ncp_transcript.specs.declared.call.Call.{Call}
use Rattle.ncp_transcript.specs.declared.call.Call.TheVariants as calls
use Rattle.ncp_transcript.specs.declared.note.HostNote.{HostNote}
use Rattle.ncp_transcript.specs.declared.note.HostNote.TheVariants as notes
use Rattle.ncp_transcript.specs.After.{after_note}
use Rattle.ncp_transcript.specs.Noting.{CallNoted}
use Rattle.ncp_transcript.proofs.Doing.{answered_stays}
use Rattle.ncp_transcript.proofs.calls.perform.Goals as goal

pub returns-in-Reset-clause-note : goal.returns-in-Reset-clause-note
returns-in-Reset-clause-note g c = subst (λ (call : Call). CallNoted call c.reset.result c.args.host.now) (sym c.in-Reset.is) (inl c.reset.ensures.note)

pub returns-in-Allocate-clause-note : goal.returns-in-Allocate-clause-note
returns-in-Allocate-clause-note g c = subst (λ (call : Call). CallNoted call c.allocate.result c.args.host.now) (sym c.in-Allocate.is) (inl c.allocate.ensures.note)

pub returns-in-CallBack-clause-note : goal.returns-in-CallBack-clause-note
returns-in-CallBack-clause-note g c = subst (λ (call : Call). CallNoted call c.call_back.result c.args.host.now) (sym c.in-CallBack.is) (inl c.call_back.ensures.note)

pub returns-in-Interrupt-clause-note : goal.returns-in-Interrupt-clause-note
returns-in-Interrupt-clause-note g c = subst (λ (call : Call). CallNoted call c.interrupt.result c.args.host.now) (sym c.in-Interrupt.is) (inl c.interrupt.ensures.note)

pub returns-in-Echo-clause-note : goal.returns-in-Echo-clause-note
returns-in-Echo-clause-note g c = subst (λ (call : Call). CallNoted call c.echo.result c.args.host.now) (sym c.in-Echo.is) (inl c.echo.ensures.note)

pub returns-in-Close-clause-note : goal.returns-in-Close-clause-note
returns-in-Close-clause-note g c = subst (λ (call : Call). CallNoted call c.close.result c.args.host.now) (sym c.in-Close.is) (inl c.close.ensures.note)

pub returns-in-Wake-clause-note : goal.returns-in-Wake-clause-note
returns-in-Wake-clause-note g c = subst (λ (call : Call). CallNoted call c.wake.result c.args.host.now) (sym c.in-Wake.is) (inl c.wake.ensures.note)

pub returns-in-AskSend-clause-note : goal.returns-in-AskSend-clause-note
returns-in-AskSend-clause-note g c = subst (λ (call : Call). CallNoted call c.ask_send.result c.args.host.now) (sym c.in-AskSend.is) (c.ask_send.ensures.note)

pub returns-in-AskReceive-clause-note : goal.returns-in-AskReceive-clause-note
returns-in-AskReceive-clause-note g c = subst (λ (call : Call). CallNoted call c.ask_receive.result c.args.host.now) (sym c.in-AskReceive.is) (c.ask_receive.ensures.note)

pub returns-in-State-clause-note : goal.returns-in-State-clause-note
returns-in-State-clause-note g c = subst (λ (call : Call). CallNoted call c.state.result c.args.host.now) (sym c.in-State.is) (inl c.state.ensures)

pub returns-in-State-clause-host : goal.returns-in-State-clause-host
returns-in-State-clause-host g c = answered_stays (calls.State c.in-State.peer c.in-State.pair) (notes.State c.in-State.peer c.in-State.pair) (record_told c.in-State.peer c.in-State.pair c.args.host.now) c.state.result c.args.host.now (λ told. refl) c.state.ensures

pub returns-in-Phase-clause-note : goal.returns-in-Phase-clause-note
returns-in-Phase-clause-note g c = subst (λ (call : Call). CallNoted call c.phase.result c.args.host.now) (sym c.in-Phase.is) (inl c.phase.ensures)

pub returns-in-Phase-clause-host : goal.returns-in-Phase-clause-host
returns-in-Phase-clause-host g c = answered_stays (calls.Phase c.in-Phase.peer) (notes.Phase c.in-Phase.peer) (flags_returned c.in-Phase.peer c.args.host.now) c.phase.result c.args.host.now (λ told. refl) c.phase.ensures

pub returns-in-Echoed-clause-note : goal.returns-in-Echoed-clause-note
returns-in-Echoed-clause-note g c = subst (λ (call : Call). CallNoted call c.echoed.result c.args.host.now) (sym c.in-Echoed.is) (inl c.echoed.ensures)

pub returns-in-Echoed-clause-host : goal.returns-in-Echoed-clause-host
returns-in-Echoed-clause-host g c = answered_stays (calls.Echoed c.in-Echoed.peer) (notes.Echoed c.in-Echoed.peer) (echoed_returned c.in-Echoed.peer c.args.host.now) c.echoed.result c.args.host.now (λ told. refl) c.echoed.ensures

pub returns-in-Counts-clause-note : goal.returns-in-Counts-clause-note
returns-in-Counts-clause-note g c = subst (λ (call : Call). CallNoted call c.counts.result c.args.host.now) (sym c.in-Counts.is) (inl c.counts.ensures)

pub returns-in-Counts-clause-host : goal.returns-in-Counts-clause-host
returns-in-Counts-clause-host g c = answered_stays (calls.Counts c.in-Counts.peer) (notes.Counts c.in-Counts.peer) (counts_returned c.in-Counts.peer c.args.host.now) c.counts.result c.args.host.now (λ told. refl) c.counts.ensures

pub returns-in-Waiting-clause-note : goal.returns-in-Waiting-clause-note
returns-in-Waiting-clause-note g c = subst (λ (call : Call). CallNoted call c.waiting.result c.args.host.now) (sym c.in-Waiting.is) (inl c.waiting.ensures)

pub returns-in-Waiting-clause-host : goal.returns-in-Waiting-clause-host
returns-in-Waiting-clause-host g c = ap (λ (note : HostNote). after_note note c.args.host.now) (sym c.waiting.ensures)
