-- What a request or a CLS that comes does at the end of the host that it names, where it may be said; and what the host
-- makes of it where it may not.
use Rattle.std.proofs.Common.{◌≡◌, ℕ, ◌==◌, Bool, true, false, not, ◌&&◌, ◌||◌, if◌then◌else◌, [], ◌∷◌, length, Option, None, Some, refl, sym, ap, ◌∙◌, subst}
use Rattle.std.specs.Prelude.{nat_lt, nat_le, is_none}
use Rattle.ncp_wire.specs.declared.command.Command.TheVariants.{Rts, Str, Cls}
use Rattle.ncp_model.specs.declared.pair.Pair.{Pair}
use Rattle.ncp_model.specs.declared.limits.TheConstants.{MAX_BY_PEER}
use Rattle.ncp_model.specs.declared.outcomes.Heard.{Heard}
use Rattle.ncp_model.specs.declared.outcomes.Heard.TheVariants.{Nothing, Reply, Full}
use Rattle.ncp_model.specs.Pairs.{sends, receives, is_proper}
use Rattle.ncp_model.specs.Endpoint.{Endpoint, or_new, is_ended}
use Rattle.ncp_model.specs.Effect.{Effect, Stays, Becomes, answer, end_after, leaves, closing, is_data_link, made_by_hearing, wrong_parameters}
use Rattle.ncp_model.specs.Commands.{errs, heard_link, heard_size, hear_rts, hear_str, hear_cls, hear_cls_end}
use Rattle.ncp_proof_endpoint.specs.Sound.{SoundAt}
use Rattle.ncp_monitor.proofs.Shapes.{Shape, Say, Ask, Leave, legal, own_step, their_legal, their_step}
use Rattle.ncp_proof_monitor_allocation.proofs.KeptEnds.{of_end, kept, hears_link, hears_size, not_heard}

-- ---- a request that may be said is taken, or the table is full, and the host goes down

pub data Taken (sending : Bool) (x : Say) (before : Option Endpoint) (act : Effect Heard) : Type 0 where
  Takes : answer act ≡ Nothing → kept sending (end_after before act) ≡ their_step x (kept sending before) → Taken sending x before act
  Overfull : answer act ≡ Full → Taken sending x before act

new_or_sound : (pair : Pair) (before : Option Endpoint) → SoundAt pair before → is_ended (or_new before) ≡ false
new_or_sound pair None s = refl
new_or_sound pair (Some e) s = s.over

lasting : (sending : Bool) (e : Endpoint) → is_ended e ≡ false → kept sending (if is_ended e then None else Some e) ≡ kept sending (Some e)
lasting sending e o = ap (λ (b : Bool). kept sending (if b then None else Some e)) o

pub rts_taken : (pair : Pair) (on : ℕ) (by_peer : ℕ) (before : Option Endpoint) → SoundAt pair before → sends pair ≡ true → is_data_link on ≡ true → their_legal (Ask on) (kept true before) ≡ true
    → Taken true (Ask on) before (hear_rts pair on false by_peer before)
rts_taken pair on by_peer before sound s d l =
    go (sends pair) (is_data_link on) (or_new before).heard (is_none before && nat_le MAX_BY_PEER by_peer) s d (not_heard true on before l)
  where
    go : (a b h f : Bool) → a ≡ true → b ≡ true → h ≡ false
        → Taken true (Ask on) before (if not a || not b || h || false then errs wrong_parameters (Rts pair.remote pair.local on) else if f then Stays Full else Becomes (heard_link on (or_new before)) Nothing)
    go false b h f x y z = absurd (cc x)
    go true false h f x y z = absurd (cc y)
    go true true true f x y z = absurd (cc z)
    go true true false true x y z = Overfull refl
    go true true false false x y z = Takes refl (lasting true (heard_link on (or_new before)) (new_or_sound pair before sound) ∙ hears_link on before)

pub str_taken : (pair : Pair) (of_size : ℕ) (by_peer : ℕ) (before : Option Endpoint) → SoundAt pair before → receives pair ≡ true → (of_size == 0) ≡ false → their_legal (Ask of_size) (kept false before) ≡ true
    → Taken false (Ask of_size) before (hear_str pair of_size by_peer before)
str_taken pair of_size by_peer before sound s d l =
    go (receives pair) (of_size == 0) (or_new before).heard (is_none before && nat_le MAX_BY_PEER by_peer) s d (not_heard false of_size before l)
  where
    go : (a b h f : Bool) → a ≡ true → b ≡ false → h ≡ false
        → Taken false (Ask of_size) before (if not a || b || h then errs wrong_parameters (Str pair.remote pair.local of_size) else if f then Stays Full else Becomes (heard_size of_size (or_new before)) Nothing)
    go false b h f x y z = absurd (cc x)
    go true true h f x y z = absurd (cc y)
    go true false true f x y z = absurd (cc z)
    go true false false true x y z = Overfull refl
    go true false false false x y z = Takes refl (lasting false (heard_size of_size (or_new before)) (new_or_sound pair before sound) ∙ hears_size of_size before)

-- ---- a request that is refused: the one ERR is made, and nothing else happens

-- ---- a CLS that may be said: it is known, or the host makes its own at once

pub data Closed (sending : Bool) (pair : Pair) (before : Option Endpoint) (act : Effect Heard) : Type 0 where
  Known : made_by_hearing (answer act) ≡ [] → kept sending (end_after before act) ≡ their_step Leave (kept sending before) → Closed sending pair before act
  Matched : made_by_hearing (answer act) ≡ closing pair ∷ [] → legal Leave (their_step Leave (kept sending before)) ≡ true
      → kept sending (end_after before act) ≡ own_step Leave (their_step Leave (kept sending before)) → Closed sending pair before act

pub cls_taken : (pair : Pair) (sending : Bool) (before : Option Endpoint) → is_proper pair ≡ true → their_legal Leave (kept sending before) ≡ true → Closed sending pair before (hear_cls pair before)
cls_taken pair sending None p l = absurd (cc l)
cls_taken pair sending (Some e) p l = proper (is_proper pair) p
  where
    unclosed : (b : Bool) → not b ≡ true → b ≡ false
    unclosed true k = absurd (cc k)
    unclosed false k = refl

    c : e.cls ≡ false
    c = unclosed e.cls l

    acts : Bool → Bool → Bool → Bool → Effect Heard
    acts again going busy held =
        if again then errs wrong_parameters (Cls pair.remote pair.local)
        else if going then Becomes (record e { cls = true }) Nothing
        else if busy then Becomes (record e { cls = true; leaving = true; stored = [] }) Nothing
        else if held then Becomes (record e { cls = true; leaving = true }) Nothing
        else Becomes (leaves (record e { cls = true })) (Reply (closing pair))

    known : (now : Endpoint) → now.left ≡ e.left → now.cls ≡ true → of_end sending now ≡ record (of_end sending e) { cls = true } → Closed sending pair (Some e) (Becomes now Nothing)
    known now x y z =
        Known refl
        (ap (λ (b : Bool). kept sending (if b && now.cls then None else Some now)) x
        ∙ ap (λ (b : Bool). kept sending (if e.left && b then None else Some now)) y
        ∙ by e.left)
      where
        by : (b : Bool) → kept sending (if b && true then None else Some now) ≡ (if b then None else Some (record (of_end sending e) { cls = true }))
        by true = refl
        by false = ap (λ (s : Shape). Some s) z

    go : (r l g b h : Bool) → r ≡ false → e.left ≡ l → Closed sending pair (Some e) (acts r (l || g) b h)
    go true l g b h r x = absurd (cc r)
    go false true g b h r x = known (record e { cls = true }) refl refl refl
    go false false true b h r x = known (record e { cls = true }) refl refl refl
    go false false false true h r x = known (record e { cls = true; leaving = true; stored = [] }) refl refl refl
    go false false false false true r x = known (record e { cls = true; leaving = true }) refl refl refl
    go false false false false false r x =
        Matched refl
        (subst (λ (b : Bool). legal Leave (if b then None else Some (record (of_end sending e) { cls = true })) ≡ true) (sym x) (ap not x))
        (sym (ap (λ (b : Bool). own_step Leave (if b then None else Some (record (of_end sending e) { cls = true }))) x))

    proper : (b : Bool) → b ≡ true → Closed sending pair (Some e) (if not b then errs wrong_parameters (Cls pair.remote pair.local) else hear_cls_end pair e)
    proper false k = absurd (cc k)
    proper true k = go e.cls e.left e.leaving (sends pair && e.busy) (receives pair && nat_lt 0 (length e.stored)) c refl
