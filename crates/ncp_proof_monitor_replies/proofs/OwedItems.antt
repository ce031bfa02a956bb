-- What waits of a host, as replies and as CLSs of senders: the replies that are due are those that wait.
use Rattle.std.proofs.Common.{◌≡◌, ◌⊎◌, inl, inr, ℕ, ◌==◌, Bool, true, false, not, ◌&&◌, ◌||◌, if◌then◌else◌, List, [], ◌∷◌, ◌++◌, Option, None, Some, eq-eqb, refl, sym, ap, ◌∙◌}
use Rattle.std.specs.FinMap.{get}
use Rattle.ncp_wire.specs.declared.command.Command.{Command}
use Rattle.ncp_wire.specs.declared.command.Command.TheVariants.{Ret, Cls, Erp, Err}
use Rattle.ncp_model.specs.declared.pair.Pair.{Pair}
use Rattle.ncp_model.specs.Endpoint.{Endpoint, is_closing}
use Rattle.ncp_model.specs.Ends.{Ends, any, hears_link}
use Rattle.ncp_model.specs.Demux.{passes}
use Rattle.ncp_model.proofs.Lookups.{any-none, none-any}
use Rattle.ncp_monitor.specs.declared.conn_state.FactKind.{FactKind}
use Rattle.ncp_monitor.specs.ConnStates.{SeenTables, is_marked}
use Rattle.ncp_interface.specs.Sockets.{is_senders}
use Rattle.ncp_monitor.specs.Replies.{is_due_of}
use Rattle.ncp_monitor.proofs.LinkOrder.{Sockets, same, same_is}
use Rattle.ncp_proof_monitor_allocation.proofs.OwnMoves.{sockets_of}
use Rattle.ncp_proof_monitor_allocation.proofs.Changed.{OneEnd, unlike}
use Rattle.ncp_proof_monitor_allocation.proofs.SeenTables.{seen_of}
use Rattle.ncp_proof_monitor_allocation.proofs.Words.{link_given}
use Rattle.ncp_proof_monitor_allocation.proofs.TextErrors.{is_text_error}
use Rattle.ncp_proof_monitor_replies.specs.Owed.{Item, Gives, EndsOn, is_ret_on, nothing_ended, Owed}
use Rattle.ncp_proof_monitor_replies.proofs.Owed.{no_ends, no_rets}

-- ---- `suspended`: the suspended links on which the host sends; `links`: the link of each of its senders

abbrev pub ends_of : Option ℕ → List Item
ends_of None = []
ends_of (Some link) = EndsOn link ∷ []

-- an ERR about a text may come in any order, and nothing is known of a RET on a suspended link
abbrev pub item_of : (ℕ → Bool) → (Sockets → Option ℕ) → Command → List Item
item_of suspended links (Erp byte) = Gives (Erp byte) ∷ []
item_of suspended links (Err code shown) = if is_text_error (Err code shown) then [] else Gives (Err code shown) ∷ []
item_of suspended links (Ret link messages bits) = if suspended link then [] else Gives (Ret link messages bits) ∷ []
item_of suspended links (Cls my your) = if is_senders my then ends_of (links (my, your)) else []
item_of suspended links c = []

abbrev pub items : (ℕ → Bool) → (Sockets → Option ℕ) → List Command → List Item
items suspended links [] = []
items suspended links (c ∷ w) = item_of suspended links c ++ items suspended links w

-- it is a reply that counts, regardless of suspended links
abbrev pub IsItem : Command → Type 0
IsItem c = (suspended : ℕ → Bool) (links : Sockets → Option ℕ) → item_of suspended links c ≡ Gives c ∷ []

-- ---- of the books, and of what the host has

abbrev pub sent_suspended : ℕ → ℕ → SeenTables → ℕ → Bool
sent_suspended me n b link = is_marked me n (FactKind.LinkSuspended false link) b

abbrev pub links_sent : ℕ → ℕ → SeenTables → Sockets → Option ℕ
links_sent me n b u = link_given true (seen_of me n b u)

abbrev pub items_of : ℕ → ℕ → SeenTables → List Command → List Item
items_of me n b w = items (sent_suspended me n b) (links_sent me n b) w

abbrev pub is_open_sender : ℕ → Pair × Endpoint → Bool
is_open_sender link p = hears_link link p && not (is_closing p.1)

-- the host no longer sends on this link
abbrev pub gone_of : Ends → ℕ → Bool
gone_of m link = not (any (is_open_sender link) m)

-- the replies of the host that are due, and those that wait
abbrev pub OwedBy : ℕ → ℕ → Ends → List Command → SeenTables → Type 0
OwedBy me n m w b = Owed (is_due_of me n true) (gone_of m) nothing_ended (items_of me n b w) b.pending_replies

-- ---- lists of what waits

pub joined : {A : Type 0} (x y z : List A) → (x ++ y) ++ z ≡ x ++ (y ++ z)
joined [] y z = refl
joined (s ∷ x) y z = ap (λ (v : List _). s ∷ v) (joined x y z)

pub none_after : {A : Type 0} (x : List A) → x ++ [] ≡ x
none_after [] = refl
none_after (s ∷ x) = ap (λ (v : List _). s ∷ v) (none_after x)

pub items_append : (suspended : ℕ → Bool) (links : Sockets → Option ℕ) (w u : List Command) → items suspended links (w ++ u) ≡ items suspended links w ++ items suspended links u
items_append suspended links [] u = refl
items_append suspended links (c ∷ w) u = ap (λ (x : List Item). item_of suspended links c ++ x) (items_append suspended links w u) ∙ sym (joined (item_of suspended links c) (items suspended links w) (items suspended links u))

-- the same links rest, and senders have the same links

item_alike : (suspended now : ℕ → Bool) (links there : Sockets → Option ℕ) → ((link : ℕ) → now link ≡ suspended link) → ((u : Sockets) → is_senders u.0 ≡ true → there u ≡ links u) → (c : Command) → item_of now there c ≡ item_of suspended links c
item_alike suspended now links there r l (Erp byte) = refl
item_alike suspended now links there r l (Err code shown) = refl
item_alike suspended now links there r l (Ret link messages bits) = ap (λ (b : Bool). if b then [] else Gives (Ret link messages bits) ∷ []) (r link)
item_alike suspended now links there r l (Cls my your) = go (is_senders my) (l (my, your))
  where
    go : (b : Bool) → (b ≡ true → there (my, your) ≡ links (my, your)) → (if b then ends_of (there (my, your)) else []) ≡ (if b then ends_of (links (my, your)) else [])
    go true e = ap ends_of (e refl)
    go false e = refl
item_alike suspended now links there r l c = refl

pub items_alike : (suspended now : ℕ → Bool) (links there : Sockets → Option ℕ) → ((link : ℕ) → now link ≡ suspended link) → ((u : Sockets) → is_senders u.0 ≡ true → there u ≡ links u) → (w : List Command) → items now there w ≡ items suspended links w
items_alike suspended now links there r l [] = refl
items_alike suspended now links there r l (c ∷ w) =
    ap (λ (x : List Item). x ++ items now there w) (item_alike suspended now links there r l c) ∙ ap (λ (x : List Item). item_of suspended links c ++ x) (items_alike suspended now links there r l w)

-- one more link is suspended

fewer_append : (link : ℕ) (x y : List Item) → no_rets link (x ++ y) ≡ no_rets link x ++ no_rets link y
fewer_append link [] y = refl
fewer_append link (EndsOn l ∷ x) y = ap (λ (v : List Item). EndsOn l ∷ v) (fewer_append link x y)
fewer_append link (Gives c ∷ x) y = go (is_ret_on link c) (fewer_append link x y)
  where
    go : (b : Bool) → no_rets link (x ++ y) ≡ no_rets link x ++ no_rets link y
        → (if b then no_rets link (x ++ y) else Gives c ∷ no_rets link (x ++ y)) ≡ (if b then no_rets link x else Gives c ∷ no_rets link x) ++ no_rets link y
    go true e = e
    go false e = ap (λ (v : List Item). Gives c ∷ v) e

item_rested : (suspended now : ℕ → Bool) (links : Sockets → Option ℕ) (link : ℕ) → ((l : ℕ) → now l ≡ (l == link || suspended l)) → (c : Command) → item_of now links c ≡ no_rets link (item_of suspended links c)
item_rested suspended now links link r (Erp byte) = refl
item_rested suspended now links link r (Err code shown) = go (is_text_error (Err code shown))
  where
    go : (b : Bool) → (if b then [] else Gives (Err code shown) ∷ []) ≡ no_rets link (if b then [] else Gives (Err code shown) ∷ [])
    go true = refl
    go false = refl
item_rested suspended now links link r (Ret on messages bits) = ap (λ (b : Bool). if b then [] else Gives (Ret on messages bits) ∷ []) (r on) ∙ go (on == link) refl (suspended on)
  where
    go : (x : Bool) → (on == link) ≡ x → (y : Bool) → (if x || y then [] else Gives (Ret on messages bits) ∷ []) ≡ no_rets link (if y then [] else Gives (Ret on messages bits) ∷ [])
    go true e true = refl
    go true e false = sym (ap (λ (b : Bool). if b then [] else Gives (Ret on messages bits) ∷ []) e)
    go false e true = refl
    go false e false = sym (ap (λ (b : Bool). if b then [] else Gives (Ret on messages bits) ∷ []) e)
item_rested suspended now links link r (Cls my your) = go (is_senders my) (links (my, your))
  where
    go : (b : Bool) (o : Option ℕ) → (if b then ends_of o else []) ≡ no_rets link (if b then ends_of o else [])
    go true None = refl
    go true (Some l) = refl
    go false o = refl
item_rested suspended now links link r c = refl

pub items_rested : (suspended now : ℕ → Bool) (links : Sockets → Option ℕ) (link : ℕ) → ((l : ℕ) → now l ≡ (l == link || suspended l)) → (w : List Command) → items now links w ≡ no_rets link (items suspended links w)
items_rested suspended now links link r [] = refl
items_rested suspended now links link r (c ∷ w) =
    ap (λ (x : List Item). x ++ items now links w) (item_rested suspended now links link r c)
    ∙ ap (λ (x : List Item). no_rets link (item_of suspended links c) ++ x) (items_rested suspended now links link r w)
    ∙ sym (fewer_append link (item_of suspended links c) (items suspended links w))

-- one sender has a link, or no longer has it

-- it is this link, if any
abbrev pub IsOnly : ℕ → Option ℕ → Type 0
IsOnly link o = (o ≡ None) ⊎ (o ≡ Some link)

unended_append : (link : ℕ) (x y : List Item) → no_ends link (x ++ y) ≡ no_ends link x ++ no_ends link y
unended_append link [] y = refl
unended_append link (Gives c ∷ x) y = ap (λ (v : List Item). Gives c ∷ v) (unended_append link x y)
unended_append link (EndsOn l ∷ x) y = go (l == link) (unended_append link x y)
  where
    go : (b : Bool) → no_ends link (x ++ y) ≡ no_ends link x ++ no_ends link y
        → (if b then no_ends link (x ++ y) else EndsOn l ∷ no_ends link (x ++ y)) ≡ (if b then no_ends link x else EndsOn l ∷ no_ends link x) ++ no_ends link y
    go true e = e
    go false e = ap (λ (v : List Item). EndsOn l ∷ v) e

none_of_only : (link : ℕ) (o : Option ℕ) → IsOnly link o → no_ends link (ends_of o) ≡ []
none_of_only link o (inl e) = ap (λ (x : Option ℕ). no_ends link (ends_of x)) e
none_of_only link o (inr e) = ap (λ (x : Option ℕ). no_ends link (ends_of x)) e ∙ ap (λ (b : Bool). if b then [] else EndsOn link ∷ []) (eq-eqb link link refl)

item_linked : (suspended : ℕ → Bool) (links there : Sockets → Option ℕ) (link : ℕ) (p : Sockets) → ((u : Sockets) → same u p ≡ false → is_senders u.0 ≡ true → there u ≡ links u) → IsOnly link (links p) → IsOnly link (there p)
    → (c : Command) → no_ends link (item_of suspended there c) ≡ no_ends link (item_of suspended links c)
item_linked suspended links there link p h before now (Cls my your) = go (is_senders my) (same (my, your) p) refl (h (my, your))
  where
    go : (b x : Bool) → same (my, your) p ≡ x → (same (my, your) p ≡ false → b ≡ true → there (my, your) ≡ links (my, your))
        → no_ends link (if b then ends_of (there (my, your)) else []) ≡ no_ends link (if b then ends_of (links (my, your)) else [])
    go false x s e = refl
    go true false s e = ap (λ (o : Option ℕ). no_ends link (ends_of o)) (e s refl)
    go true true s e =
        let at : (my, your) ≡ p = same_is (my, your) p s in
        ap (λ (u : Sockets). no_ends link (ends_of (there u))) at ∙ none_of_only link (there p) now ∙ sym (none_of_only link (links p) before) ∙ ap (λ (u : Sockets). no_ends link (ends_of (links u))) (sym at)
item_linked suspended links there link p h before now (Erp byte) = refl
item_linked suspended links there link p h before now (Err code shown) = refl
item_linked suspended links there link p h before now (Ret on messages bits) = refl
item_linked suspended links there link p h before now c = refl

pub items_linked : (suspended : ℕ → Bool) (links there : Sockets → Option ℕ) (link : ℕ) (p : Sockets) → ((u : Sockets) → same u p ≡ false → is_senders u.0 ≡ true → there u ≡ links u) → IsOnly link (links p) → IsOnly link (there p)
    → (w : List Command) → no_ends link (items suspended there w) ≡ no_ends link (items suspended links w)
items_linked suspended links there link p h before now [] = refl
items_linked suspended links there link p h before now (c ∷ w) =
    unended_append link (item_of suspended there c) (items suspended there w)
    ∙ ap (λ (x : List Item). x ++ no_ends link (items suspended there w)) (item_linked suspended links there link p h before now c)
    ∙ ap (λ (x : List Item). no_ends link (item_of suspended links c) ++ x) (items_linked suspended links there link p h before now w)
    ∙ sym (unended_append link (item_of suspended links c) (items suspended links w))

-- ---- the host's ends: one changes, and it sends on the link as before, or no longer

not_any : (m : Ends) (link : ℕ) → gone_of m link ≡ true → any (is_open_sender link) m ≡ false
not_any m link g = go (any (is_open_sender link) m) g
  where
    go : (b : Bool) → not b ≡ true → b ≡ false
    go true e = absurd (cc e)
    go false e = refl

pub gone_now : (m now : Ends) (pair : Pair) (after : Option Endpoint) (link : ℕ) → OneEnd m now pair after → (passes (is_open_sender link) pair after ≡ true → passes (is_open_sender link) pair (get m pair) ≡ true)
    → gone_of m link ≡ true → gone_of now link ≡ true
gone_now m now pair after link one k g = ap not (none-any (is_open_sender link) now there)
  where
    before : (q : Pair) → passes (is_open_sender link) q (get m q) ≡ false
    before q = any-none (is_open_sender link) m (not_any m link g) q

    here : passes (is_open_sender link) pair after ≡ false
    here = go (passes (is_open_sender link) pair after) refl
      where
        go : (b : Bool) → passes (is_open_sender link) pair after ≡ b → passes (is_open_sender link) pair after ≡ false
        go true e = let nay : true ≡ false = sym (k e) ∙ before pair in absurd (cc nay)
        go false e = e

    there : (q : Pair) → passes (is_open_sender link) q (get now q) ≡ false
    there q = go (same (sockets_of q) (sockets_of pair)) refl
      where
        go : (b : Bool) → same (sockets_of q) (sockets_of pair) ≡ b → passes (is_open_sender link) q (get now q) ≡ false
        go true e =
            let at : q ≡ pair = ap (λ (u : Sockets). record { local = u.0; remote = u.1 }) (same_is (sockets_of q) (sockets_of pair) e) in
            ap (λ (x : Pair). passes (is_open_sender link) x (get now x)) at ∙ ap (passes (is_open_sender link) pair) one.there ∙ here
        go false e = ap (passes (is_open_sender link) q) (one.elsewhere q (unlike (sockets_of q) (sockets_of pair) e)) ∙ before q

-- where an open sender is there
pub not_gone : (m : Ends) (pair : Pair) (link : ℕ) → passes (is_open_sender link) pair (get m pair) ≡ true → gone_of m link ≡ false
not_gone m pair link k = go (gone_of m link) refl
  where
    go : (b : Bool) → gone_of m link ≡ b → gone_of m link ≡ false
    go true e = let nay : true ≡ false = sym k ∙ any-none (is_open_sender link) m (not_any m link e) pair in absurd (cc nay)
    go false e = e

-- where none is
pub is_gone : (m : Ends) (link : ℕ) → ((q : Pair) → passes (is_open_sender link) q (get m q) ≡ false) → gone_of m link ≡ true
is_gone m link h = ap not (none-any (is_open_sender link) m h)
