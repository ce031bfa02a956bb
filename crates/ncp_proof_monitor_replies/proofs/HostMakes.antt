-- The commands that a host makes when a request or a CLS of the other host arrives, for any end: none,
-- its own CLS, or an ERR that may be owed. If the tables do not determine which, the invariant is kept as
-- well: the connection is suspended from then on.
use Rattle.std.proofs.Common.{◌≡◌, ℕ, Bool, true, false, not, ◌&&◌, ◌||◌, if◌then◌else◌, List, [], ◌∷◌, ◌++◌, length, Option, None, Some, refl, sym, ap, ◌∙◌, subst}
use Rattle.std.proofs.lemmas.List.{append-nil}
use Rattle.std.specs.Prelude.{nat_lt, nat_le, is_none}
use Rattle.std.specs.FinMap.{get}
use Rattle.ncp_wire.specs.declared.command.Command.{Command}
use Rattle.ncp_wire.specs.declared.command.Command.TheVariants.{Rts, Str, Cls}
use Rattle.ncp_model.specs.declared.pair.Pair.{Pair}
use Rattle.ncp_model.specs.declared.limits.TheConstants.{MAX_BY_PEER}
use Rattle.ncp_model.specs.declared.outcomes.Heard.{Heard}
use Rattle.ncp_model.specs.declared.outcomes.Heard.TheVariants.{Nothing, Reply, Full}
use Rattle.ncp_model.specs.Pairs.{sends, receives, is_proper}
use Rattle.ncp_model.specs.Endpoint.{Endpoint, or_new}
use Rattle.ncp_model.specs.Effect.{Effect, Stays, Becomes, answer, end_after, leaves, closing, error_of, made_by_hearing, wrong_parameters}
use Rattle.ncp_model.specs.Commands.{errs, wrong_rts, wrong_str, heard_link, heard_size, hear_rts, hear_str, hear_cls, hear_cls_at}
use Rattle.ncp_model.specs.Ends.{Ends, map_after}
use Rattle.ncp_model.specs.Peers.{is_full_up}
use Rattle.ncp_monitor.specs.declared.pending_reply.ExpectedReply.{ExpectedReply}
use Rattle.ncp_monitor.specs.declared.observed_flow.ObservedFlow.{ObservedFlow}
use Rattle.ncp_monitor.specs.ConnStates.{SeenTables}
use Rattle.ncp_monitor.specs.Replies.{says_wanted, owes, error_wanted}
use Rattle.ncp_monitor.proofs.Shapes.{Say, Ask, Leave}
use Rattle.ncp_monitor.proofs.LinkOrder.{Sockets, same, about, about_after}
use Rattle.ncp_proof_monitor_allocation.proofs.OwnMoves.{says_of, all_says, sockets_of}
use Rattle.ncp_proof_monitor_allocation.proofs.Users.{Linked}
use Rattle.ncp_proof_monitor_allocation.proofs.Resting.{OneSuspended}
use Rattle.ncp_proof_monitor_allocation.proofs.Meets.{Meets, owed_meets}
use Rattle.ncp_proof_monitor_allocation.proofs.Comes.{says_append, refused_meets}
use Rattle.ncp_proof_monitor_allocation.proofs.Unclears.{unclear_meets, suspended_leave}
use Rattle.ncp_proof_monitor_allocation.proofs.Echoing.{ecos}
use Rattle.ncp_proof_monitor_allocation.proofs.Refusals.{error_fits, other_error_fits}
use Rattle.ncp_proof_monitor_allocation.proofs.RequestsCome.{one_end}
use Rattle.ncp_proof_monitor_allocation.proofs.Came.{asks_in}
use Rattle.ncp_proof_monitor_allocation.proofs.TextErrors.{is_text_error}
use Rattle.ncp_proof_monitor_allocation.proofs.Counted.{is_worded}
use Rattle.ncp_proof_monitor_replies.proofs.OwedItems.{IsItem}

-- a reply that may be owed: it names no connection, and is no RET and no ERR about a text
pub record FitReply (wanted : ExpectedReply) (reply : Command) : Type 0 where
  pub fits : says_wanted wanted reply ≡ true
  pub item : IsItem reply
  pub says : says_of reply ≡ []
  pub echoes : ecos (reply ∷ []) ≡ 0
  pub unworded : is_worded reply ≡ false
  pub plain : is_text_error reply ≡ false

pub refusal_fits : (c : Command) → FitReply (error_wanted 3 3 c) (error_of 3 c)
refusal_fits c = record { fits = error_fits 3 3 c; item = λ suspended links. refl; says = refl; echoes = refl; unworded = refl; plain = refl }

pub unknown_fits : (c : Command) → FitReply (error_wanted 4 3 c) (error_of 4 c)
unknown_fits c = record { fits = error_fits 4 3 c; item = λ suspended links. refl; says = refl; echoes = refl; unworded = refl; plain = refl }

pub other_refusal_fits : (c : Command) → FitReply (error_wanted 4 3 c) (error_of 3 c)
other_refusal_fits c = record { fits = other_error_fits 4 3 c; item = λ suspended links. refl; says = refl; echoes = refl; unworded = refl; plain = refl }

pub data HostMade (wanted : ExpectedReply) (pair : Pair) (act : Effect Heard) : Type 0 where
  MakesNothing : made_by_hearing (answer act) ≡ [] → HostMade wanted pair act
  MakesCls : made_by_hearing (answer act) ≡ closing pair ∷ [] → HostMade wanted pair act
  MakesReply : (reply : Command) → made_by_hearing (answer act) ≡ reply ∷ [] → FitReply wanted reply → HostMade wanted pair act

-- ---- of each

pub rts_made : (pair : Pair) (on : ℕ) (taken : Bool) (by_peer : ℕ) (before : Option Endpoint) → is_full_up (answer (hear_rts pair on taken by_peer before)) ≡ false
    → HostMade (error_wanted 3 3 (Rts pair.remote pair.local on)) pair (hear_rts pair on taken by_peer before)
rts_made pair on taken by_peer before = go (wrong_rts pair on taken before) (is_none before && nat_le MAX_BY_PEER by_peer)
  where
    c : Command
    c = Rts pair.remote pair.local on

    acts : Bool → Bool → Effect Heard
    acts wrong full = if wrong then errs wrong_parameters c else if full then Stays Full else Becomes (heard_link on (or_new before)) Nothing

    go : (x y : Bool) → is_full_up (answer (acts x y)) ≡ false → HostMade (error_wanted 3 3 c) pair (acts x y)
    go true y f = MakesReply (error_of 3 c) refl (refusal_fits c)
    go false true f = absurd (cc f)
    go false false f = MakesNothing refl

pub str_made : (pair : Pair) (of_size : ℕ) (by_peer : ℕ) (before : Option Endpoint) → is_full_up (answer (hear_str pair of_size by_peer before)) ≡ false
    → HostMade (error_wanted 3 3 (Str pair.remote pair.local of_size)) pair (hear_str pair of_size by_peer before)
str_made pair of_size by_peer before = go (wrong_str pair of_size before) (is_none before && nat_le MAX_BY_PEER by_peer)
  where
    c : Command
    c = Str pair.remote pair.local of_size

    acts : Bool → Bool → Effect Heard
    acts wrong full = if wrong then errs wrong_parameters c else if full then Stays Full else Becomes (heard_size of_size (or_new before)) Nothing

    go : (x y : Bool) → is_full_up (answer (acts x y)) ≡ false → HostMade (error_wanted 3 3 c) pair (acts x y)
    go true y f = MakesReply (error_of 3 c) refl (refusal_fits c)
    go false true f = absurd (cc f)
    go false false f = MakesNothing refl

pub cls_made : (pair : Pair) (before : Option Endpoint) → HostMade (error_wanted 4 3 (Cls pair.remote pair.local)) pair (hear_cls pair before)
cls_made pair before = by_sex (is_proper pair) before
  where
    c : Command
    c = Cls pair.remote pair.local

    Wanted_of : Effect Heard → Type 0
    Wanted_of act = HostMade (error_wanted 4 3 c) pair act

    acts : Endpoint → Bool → Bool → Bool → Bool → Effect Heard
    acts e again going busy held =
        if again then errs wrong_parameters c
        else if going then Becomes (record e { cls = true }) Nothing
        else if busy then Becomes (record e { cls = true; leaving = true; stored = [] }) Nothing
        else if held then Becomes (record e { cls = true; leaving = true }) Nothing
        else Becomes (leaves (record e { cls = true })) (Reply (closing pair))

    go : (e : Endpoint) (a g b h : Bool) → Wanted_of (acts e a g b h)
    go e true g b h = MakesReply (error_of 3 c) refl (other_refusal_fits c)
    go e false true b h = MakesNothing refl
    go e false false true h = MakesNothing refl
    go e false false false true = MakesNothing refl
    go e false false false false = MakesCls refl

    by_sex : (x : Bool) (o : Option Endpoint) → Wanted_of (if not x then errs wrong_parameters c else hear_cls_at pair o)
    by_sex false o = MakesReply (error_of 3 c) refl (other_refusal_fits c)
    by_sex true None = MakesReply (error_of 4 c) refl (unknown_fits c)
    by_sex true (Some e) = go e e.cls (e.left || e.leaving) (sends pair && e.busy) (receives pair && nat_lt 0 (length e.stored))

-- ---- what it says of connections: its CLS alone

asks_after : (q : List Say) → asks_in (q ++ Leave ∷ []) ≡ asks_in q
asks_after [] = refl
asks_after (s ∷ q) = go s (asks_after q)
  where
    go : (s : Say) → asks_in (q ++ Leave ∷ []) ≡ asks_in q → asks_in (s ∷ (q ++ Leave ∷ [])) ≡ asks_in (s ∷ q)
    go (Ask n) e = refl
    go Leave e = e

module _ (wanted : ExpectedReply) (pair : Pair) (act : Effect Heard) (w : List Command) where
  pub makes_no_eco : HostMade wanted pair act → ecos (made_by_hearing (answer act)) ≡ 0
  makes_no_eco (MakesNothing e) = ap ecos e
  makes_no_eco (MakesCls e) = ap ecos e
  makes_no_eco (MakesReply reply e fit) = ap ecos e ∙ fit.echoes

  pub asks_as_before : HostMade wanted pair act → (u : Sockets) → asks_in (about u (all_says (w ++ made_by_hearing (answer act)))) ≡ asks_in (about u (all_says w))
  asks_as_before made u = ap (λ (x : List (Sockets × Say)). asks_in (about u x)) (says_append w (made_by_hearing (answer act))) ∙ go made
    where
      silent : all_says (made_by_hearing (answer act)) ≡ [] → asks_in (about u (all_says w ++ all_says (made_by_hearing (answer act)))) ≡ asks_in (about u (all_says w))
      silent e = ap (λ (x : List (Sockets × Say)). asks_in (about u (all_says w ++ x))) e ∙ ap (λ (x : List (Sockets × Say)). asks_in (about u x)) (append-nil (all_says w))

      behind : asks_in (about u (all_says w ++ (sockets_of pair, Leave) ∷ [])) ≡ asks_in (about u (all_says w))
      behind = ap asks_in (about_after u (all_says w) (sockets_of pair) Leave) ∙ by (same u (sockets_of pair))
        where
          by : (x : Bool) → asks_in (if x then about u (all_says w) ++ Leave ∷ [] else about u (all_says w)) ≡ asks_in (about u (all_says w))
          by true = asks_after (about u (all_says w))
          by false = refl

      go : HostMade wanted pair act → asks_in (about u (all_says w ++ all_says (made_by_hearing (answer act)))) ≡ asks_in (about u (all_says w))
      go (MakesNothing e) = silent (ap all_says e)
      go (MakesCls e) = ap (λ (x : List Command). asks_in (about u (all_says w ++ all_says x))) e ∙ behind
      go (MakesReply reply e fit) = silent (ap all_says e ∙ ap (λ (x : List (Sockets × Say)). x ++ []) fit.says)

-- ---- it is unclear

pub unclear_reported : (me n : ℕ) (m : Ends) (w : List Command) (b mid : SeenTables) (pair : Pair) (act : Effect Heard) (wanted : ExpectedReply) → HostMade wanted pair act → OneSuspended me n b mid (sockets_of pair) → Linked me n mid
    → (owes (record { at = me; peer = n; sent = false }) wanted false mid).full ≡ false → Meets me n m w b
    → Meets me n (map_after m pair act) (w ++ made_by_hearing (answer act)) (owes (record { at = me; peer = n; sent = false }) wanted false mid)
unclear_reported me n m w b mid pair act wanted made k linked room meets = go made
  where
    hearing : ObservedFlow
    hearing = record { at = me; peer = n; sent = false }

    now : Ends
    now = map_after m pair act

    after : SeenTables
    after = owes (record { at = me; peer = n; sent = false }) wanted false mid

    rested : Meets me n now w mid
    rested = unclear_meets me n m now pair (end_after (get m pair) act) w b mid (one_end m pair act) k linked meets

    by_made : (u : List Command) → made_by_hearing (answer act) ≡ u → Meets me n now (w ++ u) after → Meets me n now (w ++ made_by_hearing (answer act)) after
    by_made u e = subst (λ (x : List Command). Meets me n now (w ++ x) after) (sym e)

    go : HostMade wanted pair act → Meets me n now (w ++ made_by_hearing (answer act)) after
    go (MakesNothing e) = by_made [] e (subst (λ (x : List Command). Meets me n now x after) (sym (append-nil w)) (owed_meets me n now w mid hearing wanted false room rested))
    go (MakesCls e) = by_made (closing pair ∷ []) e (owed_meets me n now (w ++ closing pair ∷ []) mid hearing wanted false room (suspended_leave me n now w mid pair k.suspended rested))
    go (MakesReply reply e fit) = by_made (reply ∷ []) e (refused_meets me n now w mid reply wanted false fit.says room rested)
