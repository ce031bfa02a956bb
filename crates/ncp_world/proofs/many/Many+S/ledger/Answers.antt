use Rattle.std.proofs.Common.{IfSome, sym, ap, ◌∙◌, subst}
use Rattle.ncp_transcript_two.specs.declared.side.Side.TheVariants.{A}
use Rattle.ncp_transcript_two.specs.Ledgers.{IsBalanced}
use Rattle.ncp_transcript_many.specs.Network.{between}
use Rattle.ncp_transcript_many.specs.ManyTranscript.{Noted_many}
use Rattle.ncp_transcript_many.specs.Pairs.{notes_between}
use Rattle.ncp_world.specs.Booked.{IsBooked}
use Rattle.ncp_world.specs.ManyLedgers.{many_ledger}
use Rattle.ncp_world.proofs.Ledgers.{if-some}
use Rattle.ncp_world.proofs.ManyLedgers.{many-ledger-is, many-balanced, many-booked}
use Rattle.ncp_world.proofs.many.Many+S.ledger.Goals as goal

pub returns-clause-ledger : goal.returns-clause-ledger
returns-clause-ledger g c =
    c.ledger.ensures ∙ many-ledger-is c.self.inside.notes c.self.inside.hosts c.self.invariant c.args.from c.args.to c.args.pair
    ∙ ap (λ (x : Noted_many). many_ledger c.args.from c.args.to c.args.pair x.hosts) c.self.view_is

pub returns-clause-balanced : goal.returns-clause-balanced
returns-clause-balanced g c = if-some IsBalanced c.ledger.result (λ l e.
    many-balanced c.self.inside.notes c.self.inside.hosts c.self.invariant c.args.from c.args.to c.args.pair l
    (sym (c.ledger.ensures ∙ many-ledger-is c.self.inside.notes c.self.inside.hosts c.self.invariant c.args.from c.args.to c.args.pair) ∙ e))

pub returns-clause-booked : goal.returns-clause-booked
returns-clause-booked g c = subst (λ (x : Noted_many). IfSome c.ledger.result (IsBooked A c.args.pair (notes_between c.args.from c.args.to x.notes) (between c.args.from c.args.to x.hosts))) c.self.view_is
    (if-some (IsBooked A c.args.pair (notes_between c.args.from c.args.to c.self.inside.notes) (between c.args.from c.args.to c.self.inside.hosts)) c.ledger.result (λ l e.
    many-booked c.self.inside.notes c.self.inside.hosts c.self.invariant c.args.from c.args.to c.args.pair l
    (sym (c.ledger.ensures ∙ many-ledger-is c.self.inside.notes c.self.inside.hosts c.self.invariant c.args.from c.args.to c.args.pair) ∙ e)))
