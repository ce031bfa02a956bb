use Rattle.std.proofs.Common.{◌≡◌, sym, ap, ◌∙◌, arith, zero-add, ◌+◌, ◌≤◌, [], List, ℕ, length}
use Rattle.std.specs.List.{count_by}
use Rattle.std.proofs.lemmas.List.Sums.{count_by-le-length}
use Rattle.slab.specs.Slab.{entries, values, slab_len}
use Rattle.slab.proofs.DrainLemmas.{length-values}
use Rattle.ncp_model.specs.declared.pair.Pair.{Pair}
use Rattle.ncp_model.specs.Endpoint.{Endpoint}
use Rattle.ncp_model.specs.Ends.{has_asked}
use Rattle.ncp_conn.proofs.Counts.{one, count_entries, count_cons}
use Rattle.ncp_conn.proofs.entries.Entries.own_requests.Goals as goal

abbrev counted : List (ℕ × (Pair × Endpoint)) → ℕ
counted es = count_by (λ e. has_asked e.1) es

pub loop-entry-init : goal.loop-entry-init
loop-entry-init g c = (tt, tt, zero-add (counted c.into_iter-entry-iterator.result) ∙ ap counted (c.into_iter-entry-iterator.ensures.into_iter_gives ∙ c.iter-entry-items.ensures.rest))

pub overflow_add-count : goal.overflow_add-count
overflow_add-count g c =
    let i = c.loop-entry.invariant.2 in
    let all : counted (entries c.args.self.now.slab) ≡ count_by has_asked (values c.args.self.now.slab) = count_entries has_asked 0 c.args.self.now.slab.slots in
    let few : count_by has_asked (values c.args.self.now.slab) ≤ length (values c.args.self.now.slab) = count_by-le-length has_asked (values c.args.self.now.slab) in
    let len : slab_len c.args.self.now.slab ≡ length (values c.args.self.now.slab) = length-values c.args.self.now.slab.slots in
    let room = c.iter-entry-items.ensures.counted in
    let here : counted c.loop-entry.entry-iterator ≡ one (has_asked c.in-Some.entry.now) + counted c.next.new.self = ap counted c.in-Some.ensures.steps ∙ count_cons (λ (e : ℕ × (Pair × Endpoint)). has_asked e.1) (c.in-Some.field-0-0, c.in-Some.entry.now) c.next.new.self in
    let asked : one (has_asked c.in-Some.entry.now) ≡ 1 = ap one (sym c.is_asked.ensures ∙ c.if-is_asked.true) in
    omega (arith, i, all, few, len, room, here, asked)

pub loop-entry-preserved-then-is_asked : goal.loop-entry-preserved-then-is_asked
loop-entry-preserved-then-is_asked g c =
    let i = c.loop-entry.invariant.2 in
    let here : counted c.loop-entry.entry-iterator ≡ one (has_asked c.in-Some.entry.now) + counted c.next.new.self = ap counted c.in-Some.ensures.steps ∙ count_cons (λ (e : ℕ × (Pair × Endpoint)). has_asked e.1) (c.in-Some.field-0-0, c.in-Some.entry.now) c.next.new.self in
    let asked : one (has_asked c.in-Some.entry.now) ≡ 1 = ap one (sym c.is_asked.ensures ∙ c.if-is_asked.true) in
    (tt, tt, omega (arith, i, here, asked))

pub loop-entry-preserved : goal.loop-entry-preserved
loop-entry-preserved g c =
    let i = c.loop-entry.invariant.2 in
    let here : counted c.loop-entry.entry-iterator ≡ one (has_asked c.in-Some.entry.now) + counted c.next.new.self = ap counted c.in-Some.ensures.steps ∙ count_cons (λ (e : ℕ × (Pair × Endpoint)). has_asked e.1) (c.in-Some.field-0-0, c.in-Some.entry.now) c.next.new.self in
    let asked : one (has_asked c.in-Some.entry.now) ≡ 0 = ap one (sym c.is_asked.ensures ∙ c.if-is_asked.false) in
    (tt, tt, omega (arith, i, here, asked))

pub returns : goal.returns
returns g c =
    let i = c.loop-entry.invariant.2 in
    let none : counted c.loop-entry.entry-iterator ≡ counted [] = ap counted c.in-None.ensures.steps.0 in
    let all : counted (entries c.args.self.now.slab) ≡ count_by has_asked (values c.args.self.now.slab) = count_entries has_asked 0 c.args.self.now.slab.slots in
    omega (arith, i, none, all)
