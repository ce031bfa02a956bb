-- An end after a received request or CLS: it holds no more text than before, on the same link, and it
-- heard nothing new except the received command.
use Rattle.std.proofs.Common.{◌≡◌, ◌<◌, ℕ, ◌==◌, Bool, true, false, not, ◌&&◌, ◌||◌, if◌then◌else◌, List, [], length, Option, None, Some, ◌⊎◌, inl, inr, refl, sym, ap, ◌∙◌, subst, arith}
use Rattle.std.specs.Prelude.{nat_lt, nat_le, is_none}
use Rattle.ncp_wire.specs.declared.command.Command.TheVariants.{Rts, Str, Cls}
use Rattle.ncp_model.specs.declared.pair.Pair.{Pair}
use Rattle.ncp_model.specs.declared.limits.TheConstants.{MAX_BY_PEER}
use Rattle.ncp_model.specs.declared.outcomes.Heard.{Heard}
use Rattle.ncp_model.specs.declared.outcomes.Heard.TheVariants.{Nothing, Reply, Full}
use Rattle.ncp_model.specs.Pairs.{sends, receives, is_proper}
use Rattle.ncp_model.specs.Endpoint.{Endpoint, or_new, is_ended}
use Rattle.ncp_model.specs.Effect.{Effect, Stays, Becomes, end_after, leaves, closing, wrong_parameters}
use Rattle.ncp_model.specs.Commands.{errs, wrong_rts, wrong_str, heard_link, heard_size, hear_rts, hear_str, hear_cls, hear_cls_at}
use Rattle.ncp_monitor.proofs.Shapes.{others_of}
use Rattle.ncp_proof_monitor_allocation.proofs.KeptEnds.{of_end, kept}
use Rattle.ncp_proof_monitor_allocation.proofs.OwnMoves.{no_sender}
use Rattle.ncp_proof_monitor_allocation.proofs.Refusals.{wrong_sexes}

-- ---- what it holds

abbrev pub HeldBefore : Option Endpoint → Option Endpoint → Type 0
HeldBefore before after = (e : Endpoint) → after ≡ Some e → 0 < length e.stored → (old : Endpoint) × ((before ≡ Some old) × ((0 < length old.stored) × (old.link ≡ e.link)))

pub holds_same : (o : Option Endpoint) → HeldBefore o o
holds_same o e k s = (e, (k, (s, refl)))

holds_becomes : (old now : Endpoint) → now.stored ≡ old.stored → now.link ≡ old.link → HeldBefore (Some old) (if is_ended now then None else Some now)
holds_becomes old now st l e k s = go (is_ended now) k
  where
    go : (x : Bool) → (if x then None else Some now) ≡ Some e → (was : Endpoint) × ((Some old ≡ Some was) × ((0 < length was.stored) × (was.link ≡ e.link)))
    go true k = absurd (cc k)
    go false k =
        let is : now ≡ e = cc k in
        (old, (refl, (subst (λ (x : List Bool). 0 < length x) (ap (λ (x : Endpoint). x.stored) (sym is) ∙ st) s, sym l ∙ ap (λ (x : Endpoint). x.link) is)))

holds_nothing : (before : Option Endpoint) (now : Endpoint) → now.stored ≡ [] → HeldBefore before (if is_ended now then None else Some now)
holds_nothing before now n e k s = go (is_ended now) k
  where
    go : (x : Bool) → (if x then None else Some now) ≡ Some e → (was : Endpoint) × ((before ≡ Some was) × ((0 < length was.stored) × (was.link ≡ e.link)))
    go true k = absurd (cc k)
    go false k =
        let is : now ≡ e = cc k in
        let z : 0 < 0 = subst (λ (x : List Bool). 0 < length x) (ap (λ (x : Endpoint). x.stored) (sym is) ∙ n) s in absurd (omega (arith, z))

pub rts_holds : (pair : Pair) (on : ℕ) (taken : Bool) (by_peer : ℕ) (before : Option Endpoint) → receives pair ≡ true → HeldBefore before (end_after before (hear_rts pair on taken by_peer before))
rts_holds pair on taken by_peer before r =
    subst
    (λ (x : Bool). HeldBefore before (end_after before (if x then errs wrong_parameters (Rts pair.remote pair.local on) else if is_none before && nat_le MAX_BY_PEER by_peer then Stays Full else Becomes (heard_link on (or_new before)) Nothing)))
    (sym (wrong_sexes pair on taken before (no_sender pair r))) (holds_same before)

pub str_holds : (pair : Pair) (of_size : ℕ) (by_peer : ℕ) (before : Option Endpoint) → HeldBefore before (end_after before (hear_str pair of_size by_peer before))
str_holds pair of_size by_peer before = go (wrong_str pair of_size before) (is_none before && nat_le MAX_BY_PEER by_peer)
  where
    acts : Bool → Bool → Effect Heard
    acts wrong full = if wrong then errs wrong_parameters (Str pair.remote pair.local of_size) else if full then Stays Full else Becomes (heard_size of_size (or_new before)) Nothing

    taken : (o : Option Endpoint) → HeldBefore o (if is_ended (heard_size of_size (or_new o)) then None else Some (heard_size of_size (or_new o)))
    taken None = holds_nothing None (heard_size of_size (or_new None)) refl
    taken (Some e) = holds_becomes e (heard_size of_size e) refl refl

    go : (x y : Bool) → HeldBefore before (end_after before (acts x y))
    go true y = holds_same before
    go false true = holds_same before
    go false false = taken before

pub cls_holds : (pair : Pair) (before : Option Endpoint) → HeldBefore before (end_after before (hear_cls pair before))
cls_holds pair before = by_sex (is_proper pair) before
  where
    acts : Endpoint → Bool → Bool → Bool → Bool → Effect Heard
    acts e again going busy held =
        if again then errs wrong_parameters (Cls pair.remote pair.local)
        else if going then Becomes (record e { cls = true }) Nothing
        else if busy then Becomes (record e { cls = true; leaving = true; stored = [] }) Nothing
        else if held then Becomes (record e { cls = true; leaving = true }) Nothing
        else Becomes (leaves (record e { cls = true })) (Reply (closing pair))

    go : (e : Endpoint) (a g b h : Bool) → HeldBefore (Some e) (end_after (Some e) (acts e a g b h))
    go e true g b h = holds_same (Some e)
    go e false true b h = holds_becomes e (record e { cls = true }) refl refl
    go e false false true h = holds_nothing (Some e) (record e { cls = true; leaving = true; stored = [] }) refl
    go e false false false true = holds_becomes e (record e { cls = true; leaving = true }) refl refl
    go e false false false false = holds_nothing (Some e) (leaves (record e { cls = true })) refl

    by_sex : (x : Bool) (o : Option Endpoint) → HeldBefore o (end_after o (if not x then errs wrong_parameters (Cls pair.remote pair.local) else hear_cls_at pair o))
    by_sex false o = holds_same o
    by_sex true None = holds_same None
    by_sex true (Some e) = go e e.cls (e.left || e.leaving) (sends pair && e.busy) (receives pair && nat_lt 0 (length e.stored))

-- ---- what it heard

-- a sender has no other link than before, but that which comes
pub rts_heard : (pair : Pair) (on : ℕ) (taken : Bool) (by_peer : ℕ) (before : Option Endpoint) (link : ℕ) → sends pair ≡ true → others_of (kept (sends pair) (end_after before (hear_rts pair on taken by_peer before))) ≡ Some link
    → (others_of (kept (sends pair) before) ≡ Some link) ⊎ (on ≡ link)
rts_heard pair on taken by_peer before link s o = go (wrong_rts pair on taken before) (is_none before && nat_le MAX_BY_PEER by_peer) o
  where
    acts : Bool → Bool → Effect Heard
    acts wrong full = if wrong then errs wrong_parameters (Rts pair.remote pair.local on) else if full then Stays Full else Becomes (heard_link on (or_new before)) Nothing

    now : Endpoint
    now = heard_link on (or_new before)

    by : (x : Bool) → others_of (kept (sends pair) (if x then None else Some now)) ≡ Some link → on ≡ link
    by true o = absurd (cc o)
    by false o = let is : Some on ≡ Some link = sym (ap (λ (x : Bool). others_of (kept x (Some now))) s) ∙ o in cc is

    go : (x y : Bool) → others_of (kept (sends pair) (end_after before (acts x y))) ≡ Some link → (others_of (kept (sends pair) before) ≡ Some link) ⊎ (on ≡ link)
    go true y o = inl o
    go false true o = inl o
    go false false o = inr (by (is_ended now) o)

-- nor by a STR
pub str_heard : (pair : Pair) (of_size : ℕ) (by_peer : ℕ) (before : Option Endpoint) (link : ℕ) → sends pair ≡ true → others_of (kept (sends pair) (end_after before (hear_str pair of_size by_peer before))) ≡ Some link
    → others_of (kept (sends pair) before) ≡ Some link
str_heard pair of_size by_peer before link s o = go (receives pair) (receiver pair s) o
  where
    receiver : (pair : Pair) → sends pair ≡ true → receives pair ≡ false
    receiver pair k = grind arith

    go : (x : Bool) → x ≡ false
        → others_of (kept (sends pair) (end_after before (if not x || of_size == 0 || (or_new before).heard then errs wrong_parameters (Str pair.remote pair.local of_size) else if is_none before && nat_le MAX_BY_PEER by_peer then Stays Full else Becomes (heard_size of_size (or_new before)) Nothing))) ≡ Some link
        → others_of (kept (sends pair) before) ≡ Some link
    go false e o = o
    go true e o = absurd (cc e)

-- nor by a CLS
pub cls_heard : (pair : Pair) (before : Option Endpoint) (sending : Bool) (link : ℕ) → others_of (kept sending (end_after before (hear_cls pair before))) ≡ Some link → others_of (kept sending before) ≡ Some link
cls_heard pair before sending link o = by_sex (is_proper pair) before o
  where
    acts : Endpoint → Bool → Bool → Bool → Bool → Effect Heard
    acts e again going busy held =
        if again then errs wrong_parameters (Cls pair.remote pair.local)
        else if going then Becomes (record e { cls = true }) Nothing
        else if busy then Becomes (record e { cls = true; leaving = true; stored = [] }) Nothing
        else if held then Becomes (record e { cls = true; leaving = true }) Nothing
        else Becomes (leaves (record e { cls = true })) (Reply (closing pair))

    same : (e now : Endpoint) → (of_end sending now).others ≡ (of_end sending e).others → others_of (kept sending (if is_ended now then None else Some now)) ≡ Some link → others_of (kept sending (Some e)) ≡ Some link
    same e now s o = by (is_ended now) o
      where
        by : (x : Bool) → others_of (kept sending (if x then None else Some now)) ≡ Some link → others_of (kept sending (Some e)) ≡ Some link
        by true o = absurd (cc o)
        by false o = sym s ∙ o

    go : (e : Endpoint) (a g b h : Bool) → others_of (kept sending (end_after (Some e) (acts e a g b h))) ≡ Some link → others_of (kept sending (Some e)) ≡ Some link
    go e true g b h o = o
    go e false true b h o = same e (record e { cls = true }) refl o
    go e false false true h o = same e (record e { cls = true; leaving = true; stored = [] }) refl o
    go e false false false true o = same e (record e { cls = true; leaving = true }) refl o
    go e false false false false o = same e (leaves (record e { cls = true })) refl o

    by_sex : (x : Bool) (before : Option Endpoint) → others_of (kept sending (end_after before (if not x then errs wrong_parameters (Cls pair.remote pair.local) else hear_cls_at pair before))) ≡ Some link → others_of (kept sending before) ≡ Some link
    by_sex false before o = o
    by_sex true None o = o
    by_sex true (Some e) o = go e e.cls (e.left || e.leaving) (sends pair && e.busy) (receives pair && nat_lt 0 (length e.stored)) o
