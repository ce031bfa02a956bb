use Rattle.std.proofs.Common.{sym, ap, ◌∙◌, Option, Some}
use Rattle.ncp_model.specs.declared.pair.Pair.{Pair}
use Rattle.ncp_model.specs.Endpoint as model
use Rattle.ncp_model.specs.Ends.{pair_of}
use Rattle.ncp_conn.specs.declared.record.Role.{Role}
use Rattle.ncp_conn.specs.Listing.{pair_demuxed_to}
use Rattle.ncp_conn.proofs.Tables.{no_sender, sender_is, no_receiver, receiver_is}
use Rattle.ncp_conn.proofs.table.Table.pair_on.Goals as goal

pub returns-in_default : goal.returns-in_default
returns-in_default g c =
    sym (ap (λ (e : Role). pair_demuxed_to e c.args.link c.args.self.now) c.in-Send.is
    ∙ ap (λ (o : Option (Pair × model.Endpoint)). pair_of o) (no_sender c.self.inside.entries c.args.self.now c.self.view_is c.self.invariant c.args.link (sym c.key.ensures ∙ c.in_default.is)))

pub returns-in-Some : goal.returns-in-Some
returns-in-Some g c =
    ap Some c.pair.ensures
    ∙ sym (ap (λ (e : Role). pair_demuxed_to e c.args.link c.args.self.now) c.in-Send.is
    ∙ ap (λ (o : Option (Pair × model.Endpoint)). pair_of o) (sender_is c.self.inside.entries c.args.self.now c.self.view_is c.self.invariant c.args.link c.in-Some.key c.index.result.now (sym c.key.ensures ∙ c.in-Some.is) c.index.ensures))

pub returns-in_default-key : goal.returns-in_default-key
returns-in_default-key g c =
    sym (ap (λ (e : Role). pair_demuxed_to e c.args.link c.args.self.now) c.in-Receive.is
    ∙ ap (λ (o : Option (Pair × model.Endpoint)). pair_of o) (no_receiver c.self.inside.entries c.args.self.now c.self.view_is c.self.invariant c.args.link (sym c.key-in-Receive.ensures ∙ c.in_default-key.is)))

pub returns-in-Some-key : goal.returns-in-Some-key
returns-in-Some-key g c =
    ap Some c.pair-in-Receive.ensures
    ∙ sym (ap (λ (e : Role). pair_demuxed_to e c.args.link c.args.self.now) c.in-Receive.is
    ∙ ap (λ (o : Option (Pair × model.Endpoint)). pair_of o) (receiver_is c.self.inside.entries c.args.self.now c.self.view_is c.self.invariant c.args.link c.in-Some-key.key c.index-in-Receive.result.now (sym c.key-in-Receive.ensures ∙ c.in-Some-key.is) c.index-in-Receive.ensures))
