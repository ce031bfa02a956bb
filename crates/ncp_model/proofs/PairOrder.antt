-- The order of pairs.
use Rattle.std.proofs.Common.{ℕ, ap}
use Rattle.std.specs.Cmp.{IsTotalOrder, nat_cmp_total}
use Rattle.std.specs.Ordering.{nat_cmp}
use Rattle.std.proofs.lemmas.Cmp.{on_total, then_total}
use Rattle.std.proofs.lemmas.Map.Lookups.{CmpEqualImpliesEq, exact_pairs, exact_unsigned}
use Rattle.ncp_model.specs.Pairs.{pair_cmp}

pub pairs_exact : CmpEqualImpliesEq pair_cmp
pairs_exact a b h = ap (λ (p : ℕ × ℕ). record { local = p.0; remote = p.1 }) (exact_pairs nat_cmp nat_cmp exact_unsigned exact_unsigned (a.local, a.remote) (b.local, b.remote) h)

pub pairs_total : IsTotalOrder pair_cmp
pairs_total = then_total (on_total (λ p. p.local) nat_cmp_total) (on_total (λ p. p.remote) nat_cmp_total)
