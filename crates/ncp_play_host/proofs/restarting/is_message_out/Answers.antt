use Rattle.std.proofs.Common.{◌≡◌, ◌<◌, Bool, List, sym, ap, ◌∙◌, arith}
use Rattle.ncp_peer.specs.declared.received.Received.TheVariants as received
use Rattle.ncp_host.specs.Host.{Host}
use Rattle.ncp_host.specs.Arrivals.{received_in}
use Rattle.ncp_host.specs.Restarting.{incomplete_bits}
use Rattle.ncp_play_host.proofs.Incompletes.{is_out, is_not_out}
use Rattle.ncp_play_host.proofs.restarting.is_message_out.Goals as goal

pub returns-in-Answered : goal.returns-in-Answered
returns-in-Answered g c =
    let n : c.args.peer < 256 = omega arith in
    let o : c.args.link < 256 = omega arith in
    let told : received_in (incomplete_bits c.args.peer c.args.link) c.args.host.now ≡ received.Answered =
    ap (λ (h : Host). received_in (incomplete_bits c.args.peer c.args.link) h) (sym c.in_ok-copy.ensures.same)
    ∙ ap (λ (bits : List Bool). received_in bits c.in_ok-copy.copy) (sym c.incomplete.ensures) ∙ sym c.in-Answered.ensures.received in
    sym (is_out c.args.peer c.args.link c.args.host.now n o told)

pub returns : goal.returns
returns g c =
    let n : c.args.peer < 256 = omega arith in
    let o : c.args.link < 256 = omega arith in
    sym (is_not_out c.args.peer c.args.link c.args.host.now n o (λ told.
    c.in_default.not-Answered
    (c.receive.ensures.received ∙ ap (λ (bits : List Bool). received_in bits c.in_ok-copy.copy) c.incomplete.ensures
    ∙ ap (λ (h : Host). received_in (incomplete_bits c.args.peer c.args.link) h) c.in_ok-copy.ensures.same ∙ told)))
