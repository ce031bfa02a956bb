use Rattle.std.proofs.Common.{◌≡◌, inl, inr, ap}
use Rattle.ncp_host.specs.Host.{Host, state_in}
use Rattle.ncp_host.specs.Arrivals.{OneIgnored}
use Rattle.ncp_host.proofs.laws.bits_change_no_other_peer.Goals as goal

-- a count of what is of no peer is in no peer's record
stay : (before now : Host) → OneIgnored before now → now.peers ≡ before.peers
stay before now (inl e) = ap (λ (h : Host). h.peers) e
stay before now (inr (inl e)) = ap (λ (h : Host). h.peers) e
stay before now (inr (inr e)) = ap (λ (h : Host). h.peers) e

pub returns-clause-other : goal.returns-clause-other
returns-clause-other c leader before now other ne only =
    elim only [ inl named ↦ named.others other ne | inr ignored ↦ ap (λ ps. state_in ps other) (stay before now ignored) ]

pub returns-clause-either : goal.returns-clause-either
returns-clause-either c leader before now only = elim only [ inl named ↦ inl named.ignored | inr ignored ↦ inr (stay before now ignored) ]

pub returns-clause-short : goal.returns-clause-short
returns-clause-short c short before now ignored = stay before now ignored
