use Rattle.std.proofs.Common.{IfSome, sym, ap, ◌∙◌, subst}
use Rattle.ncp_transcript_two.specs.Transcript.{Noted_world}
use Rattle.ncp_transcript_two.specs.Ledgers.{ledger_of, IsBalanced}
use Rattle.ncp_world.specs.Booked.{IsBooked}
use Rattle.ncp_world.specs.Reckoning.{ledger_read}
use Rattle.ncp_world.proofs.Ledgers.{ledger-is, ledger-balanced, if-some}
use Rattle.ncp_world.proofs.Books.{ledger-booked}
use Rattle.ncp_world.proofs.world.World+S.ledger.Goals as goal

pub returns-clause-ledger : goal.returns-clause-ledger
returns-clause-ledger g c =
    c.ledger.ensures ∙ ap (ledger_read c.args.side c.args.pair) c.lent.ensures ∙ ledger-is c.self.inside.notes c.self.inside.hosts c.self.invariant c.args.side c.args.pair
    ∙ ap (λ (x : Noted_world). ledger_of c.args.side c.args.pair x.hosts) c.self.view_is

pub returns-clause-balanced : goal.returns-clause-balanced
returns-clause-balanced g c = if-some IsBalanced c.ledger.result (λ l e.
    ledger-balanced c.self.inside.notes c.self.inside.hosts c.self.invariant c.args.side c.args.pair l
    (sym (c.ledger.ensures ∙ ap (ledger_read c.args.side c.args.pair) c.lent.ensures ∙ ledger-is c.self.inside.notes c.self.inside.hosts c.self.invariant c.args.side c.args.pair) ∙ e))

pub returns-clause-booked : goal.returns-clause-booked
returns-clause-booked g c = subst (λ (x : Noted_world). IfSome c.ledger.result (IsBooked c.args.side c.args.pair x.notes x.hosts)) c.self.view_is
    (if-some (IsBooked c.args.side c.args.pair c.self.inside.notes c.self.inside.hosts) c.ledger.result (λ l e.
    ledger-booked c.self.inside.notes c.self.inside.hosts c.self.invariant c.args.side c.args.pair l
    (sym (c.ledger.ensures ∙ ap (ledger_read c.args.side c.args.pair) c.lent.ensures ∙ ledger-is c.self.inside.notes c.self.inside.hosts c.self.invariant c.args.side c.args.pair) ∙ e)))
