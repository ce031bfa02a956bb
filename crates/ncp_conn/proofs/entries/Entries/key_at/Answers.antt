use Rattle.std.proofs.Common.{◌≡◌, ℕ, Bool, List, Some, if◌then◌else◌, sym, ap, ◌∙◌}
use Rattle.std.specs.List.{count_by}
use Rattle.slab.specs.Slab.{values}
use Rattle.ncp_model.specs.declared.pair.Pair.{Pair}
use Rattle.ncp_model.specs.Endpoint.{Endpoint}
use Rattle.ncp_conn.specs.Entries.{key_of}
use Rattle.ncp_conn.specs.Listing.{is_before, stands_at}
use Rattle.ncp_conn.proofs.Listing.{keyed_has, yes}
use Rattle.ncp_conn.proofs.entries.Entries.key_at.Goals as goal

pub returns-then-count_before-place-clause-inside : goal.returns-then-count_before-place-clause-inside
returns-then-count_before-place-clause-inside g c =
    let all : List (Pair × Endpoint) = values c.args.self.now.slab in
    let many : count_by (is_before c.in-Some.entry.now.0) all ≡ c.args.place = ap (λ (k : Pair). count_by (is_before k) all) (sym c.pair.ensures) ∙ sym c.count_before.ensures ∙ c.if-count_before-place.true in
    let first : key_of (stands_at c.args.place all) c.loop-key.key-iterator ≡ Some c.in-Some.key =
    ap (λ (es : List (ℕ × (Pair × Endpoint))). key_of (stands_at c.args.place all) es) c.in-Some.ensures.steps
    ∙ ap (λ (b : Bool). if b then Some c.in-Some.key else key_of (stands_at c.args.place all) c.next.new.self) (yes (count_by (is_before c.in-Some.entry.now.0) all) c.args.place many) in
    keyed_has (stands_at c.args.place all) c.args.self.now.slab (Some c.in-Some.key) (sym first ∙ c.loop-key.invariant.2)
