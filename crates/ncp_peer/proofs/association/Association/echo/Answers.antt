use Rattle.std.proofs.Common.{◌≡◌, false, [], ◌∷◌, sym, ap, ◌∙◌}
use Rattle.ncp_wire.specs.declared.command.Command.TheVariants.{Eco}
use Rattle.ncp_model.specs.Echo.{Echoes}
use Rattle.ncp_model.specs.Sending.{is_full}
use Rattle.ncp_model.specs.Peers.{Peer, makes}
use Rattle.ncp_peer.proofs.Echoing.{answered, asked}
use Rattle.ncp_peer.proofs.association.Association.echo.Goals as goal

pub returns-clause-reply : goal.returns-clause-reply
returns-clause-reply g c =
    let p : Peer = record { phase = c.self.inside.phase; ends = c.self.inside.table; echoes = c.self.inside.echoes } in
    let none : p.echoes.awaited ≡ false = cc in
    let place : is_full p.phase ≡ false = cc in
    answered c.args.byte p c.args.self.now c.self.view_is (sym c.is_up.ensures ∙ c.if-not-is_up.false) none place

pub returns-clause-peer : goal.returns-clause-peer
returns-clause-peer g c =
    let p : Peer = record { phase = c.self.inside.phase; ends = c.self.inside.table; echoes = c.self.inside.echoes } in
    let none : p.echoes.awaited ≡ false = cc in
    let place : is_full p.phase ≡ false = cc in
    c.make.ensures ∙ ap (λ (echoes : Echoes). makes (Eco c.args.byte ∷ []) (record p { echoes = echoes })) c.ask.ensures
    ∙ asked c.args.byte p c.args.self.now c.self.view_is (sym c.is_up.ensures ∙ c.if-not-is_up.false) none place
