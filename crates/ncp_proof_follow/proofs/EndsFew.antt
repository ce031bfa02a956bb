-- After any event, at most 64 of the ends at a host have a local request, and at most 64 exist by the
-- peer's request alone. So there are at most 128.
use Rattle.std.proofs.Common.{◌≡◌, ℕ, suc, ◌+◌, ◌≤◌, Bool, true, false, T, cond, not, ◌&&◌, ◌||◌, nat_le, if◌then◌else◌, List, [], ◌∷◌, length, Option, None, Some, refl, sym, ap, ◌∙◌, subst, arith}
use Rattle.std.specs.declared.cmp.Ordering.{Ordering}
use Rattle.std.specs.declared.cmp.Ordering.TheVariants.{Less, Equal, Greater}
use Rattle.std.specs.List.{count_by, filter}
use Rattle.std.specs.Ordering.{is_eq, is_lt, eq_by_cmp}
use Rattle.std.specs.FinMap.{empty, len-entries, len-empty, find, entries, entries_sorted, entries-insert, get, get-entries, get-remove, get-from_sorted, from_sorted, entries-from_sorted, same_map, insert, remove}
use Rattle.std.specs.FinMap
use Rattle.std.specs.FinMap.Entries.{by_order, below_all, is_sorted, where_key, is_sorted-where_key, find-where_key}
use Rattle.std.proofs.lemmas.Map.Views.{tells_apart}
use Rattle.std.proofs.lemmas.List.Sums.{count_by-le-length, sum_by-cons}
use Rattle.ncp_wire.specs.declared.command.Command.{Command}
use Rattle.ncp_wire.specs.declared.command.Command.TheVariants.{Rts, Str, Cls, All, Gvb, Ret, Inr, Ins, Rst, Rrp}
use Rattle.ncp_model.specs.declared.pair.Pair.{Pair}
use Rattle.ncp_model.specs.declared.limits.TheConstants.{MAX_OWN, MAX_BY_PEER}
use Rattle.ncp_model.specs.Pairs.{pair_cmp}
use Rattle.ncp_model.specs.Endpoint.{Endpoint, is_ended}
use Rattle.ncp_model.specs.Effect.{Effect, Stays, Becomes, answer, end_after}
use Rattle.ncp_model.specs.Texts.{Answer, hear_text, Rfnm, Incomplete}
use Rattle.ncp_model.specs.Ends.{Ends, count, any, put, has_asked, is_by_peer, hears_link, uses_link, free_link, sender_on, receiver_on, pair_of, demux_command, hear, text_in, cut_in, answered_in, map_after, map_after_at, no_ends}
use Rattle.ncp_model.specs.EndpointEvents.{EndpointEvent, Transition, happens}
use Rattle.ncp_model.specs.Peers.{Ask_to_send, Ask_to_receive, Close, Give, Take, Allocate, Call_back, Interrupt}
use Rattle.ncp_model.specs.Phase.{is_resetting}
use Rattle.ncp_model.specs.Sending.{is_full}
use Rattle.ncp_model.proofs.LinksDemux.{itself, led, command-led, cut-led, answered-led}
use Rattle.ncp_model.proofs.PairOrder.{pairs_exact, pairs_total}
use Rattle.ncp_proof_machine.specs.Delivery.{Slot, Empty, Ready, Travelling, Held, MessageTransit, Free, Accepted, Delivered, Lost, Dead}
use Rattle.ncp_proof_machine.specs.Resets.{is_up, host_resets, Party, This, That}
use Rattle.ncp_proof_machine.specs.Hosts.{PairCall, called, quiet, node_cleared, TextOut, Node, node_kept, node_hears, node_hears_other, node_hears_all, node_takes_text, node_hears_text, node_cuts, node_sends_text, node_frees, text_answered, control_answered, node_calls, happens_at, node_echo_called, TwoNodes, nodes_swapped, message_comes, node_text_comes, NodeStep, Calls_reset, Calls, Calls_echo, Falls, Sends_text, Hears, Hears_text, Is_answered, Text_is_answered, node_steps, node_at}
use Rattle.ncp_proof_machine.proofs.HostsBase.{either, other-keeps}
use Rattle.ncp_transcript_two.specs.Tie.{IsReachable, Begins, Goes_on}

-- ---- the entries that are left

alike_turned : (p q : Pair) → eq_by_cmp pair_cmp p q ≡ eq_by_cmp pair_cmp q p
alike_turned p q = go (eq_by_cmp pair_cmp p q) refl (eq_by_cmp pair_cmp q p) refl
  where
    go : (a : Bool) → eq_by_cmp pair_cmp p q ≡ a → (b : Bool) → eq_by_cmp pair_cmp q p ≡ b → a ≡ b
    go true e true f = refl
    go true e false f = sym (itself q) ∙ ap (λ (r : Pair). eq_by_cmp pair_cmp q r) (sym (tells_apart pairs_exact p q e)) ∙ f
    go false e true f = sym e ∙ ap (λ (r : Pair). eq_by_cmp pair_cmp p r) (tells_apart pairs_exact q p f) ∙ itself p
    go false e false f = refl

removed : (m : Ends) (k : Pair) → entries (remove m k) ≡ filter (λ e. not (eq_by_cmp pair_cmp k e.0)) (entries m)
removed m k = ap entries (same_map pairs_total pairs_exact (remove m k) (from_sorted left) alike) ∙ entries-from_sorted pair_cmp left sorted
  where
    other : Pair → Bool
    other x = not (eq_by_cmp pair_cmp k x)

    left : List (Pair × Endpoint)
    left = where_key pair_cmp other (entries m)

    sorted : T (is_sorted pair_cmp left)
    sorted = is_sorted-where_key pair_cmp other (entries m) (entries_sorted m)

    alike : (q : Pair) → get (remove m k) q ≡ get (from_sorted {R = pair_cmp} left) q
    alike q =
        get-remove pairs_total m k q
        ∙ ap (λ (b : Bool). cond b None (get m q)) (alike_turned q k)
        ∙ go (eq_by_cmp pair_cmp k q)
        ∙ ap (λ (o : Option Endpoint). cond (other q) o None) (get-entries m q)
        ∙ sym (find-where_key pair_cmp other q (λ x e. ap other (sym (pairs_exact q x e))) (entries m))
        ∙ sym (get-from_sorted pair_cmp left q sorted)
      where
        go : (b : Bool) → cond b None (get m q) ≡ cond (not b) (get m q) None
        go true = refl
        go false = refl

-- ---- how many entries pass a test of what they hold

abbrev one : Bool → ℕ
one b = cond b 1 0

count_cons : {A : Type 0} (p : A → Bool) (x : A) (xs : List A) → count_by p (x ∷ xs) ≡ one (p x) + count_by p xs
count_cons p x xs = sum_by-cons (λ y. one (p y)) x xs

module _ (f : Endpoint → Bool) where
  abbrev holds : Pair × Endpoint → Bool
  holds q = f q.1

  -- of one that is there
  abbrev had : Option Endpoint → ℕ
  had None = 0
  had (Some e) = one (f e)

  both_parts : (a b : Bool) → T (a && b) → (a ≡ true) × T b
  both_parts true b t = (refl, t)
  both_parts false b t = absurd t

  -- a key before the first is none of them
  before_all : (k q : Pair) (es : List (Pair × Endpoint)) → pair_cmp k q ≡ Less → T (below_all pair_cmp q es) → find pair_cmp k es ≡ None
  before_all k q [] l t = refl
  before_all k q (x ∷ es) l t =
      let parts = first_below t in
      let less : pair_cmp k x.0 ≡ Less = pairs_total.trans k q x.0 l parts.0 in
      ap (λ (r : Ordering). cond (is_eq r) (Some x.1) (find pair_cmp k es)) less ∙ before_all k q es l parts.1
    where
      is_less : (r : Ordering) → T (is_lt r) → r ≡ Less
      is_less Less t = refl
      is_less Equal t = absurd t
      is_less Greater t = absurd t

      first_below : T (is_lt (pair_cmp q x.0) && below_all pair_cmp q es) → (pair_cmp q x.0 ≡ Less) × T (below_all pair_cmp q es)
      first_below t = let p = both_parts (is_lt (pair_cmp q x.0)) (below_all pair_cmp q es) t in (is_less (pair_cmp q x.0) (subst T (sym p.0) tt), p.1)

  put_count : (k : Pair) (e : Endpoint) (es : List (Pair × Endpoint)) → T (is_sorted pair_cmp es) → count_by holds (FinMap.put pair_cmp k e es) + had (find pair_cmp k es) ≡ count_by holds es + one (f e)
  put_count k e [] t = let c = count_cons holds (k, e) [] in omega (arith, c)
  put_count k e (x ∷ es) t =
      let sorted = both_parts (below_all pair_cmp x.0 es) (is_sorted pair_cmp es) t in
      go (pair_cmp k x.0) refl (subst T (sym sorted.0) tt) (put_count k e es sorted.1)
    where
      go : (r : Ordering) → pair_cmp k x.0 ≡ r → T (below_all pair_cmp x.0 es) → count_by holds (FinMap.put pair_cmp k e es) + had (find pair_cmp k es) ≡ count_by holds es + one (f e)
          → count_by holds (by_order r ((k, e) ∷ x ∷ es) ((x.0, e) ∷ es) (x ∷ FinMap.put pair_cmp k e es)) + had (cond (is_eq r) (Some x.1) (find pair_cmp k es)) ≡ count_by holds (x ∷ es) + one (f e)
      go Less l below rest =
          let c = count_cons holds (k, e) (x ∷ es) in
          let z = ap had (before_all k x.0 es l below) in omega (arith, c, z)
      go Equal l below rest =
          let c = count_cons holds (x.0, e) es in
          let d = count_cons holds x es in omega (arith, c, d)
      go Greater l below rest =
          let c = count_cons holds x (FinMap.put pair_cmp k e es) in
          let d = count_cons holds x es in omega (arith, c, d, rest)

  filter_count : (t : Pair × Endpoint → Bool) (es : List (Pair × Endpoint)) → count_by holds (filter t es) ≤ count_by holds es
  filter_count t [] = omega arith
  filter_count t (x ∷ es) = go (t x) (filter_count t es)
    where
      go : (b : Bool) → count_by holds (filter t es) ≤ count_by holds es → count_by holds (cond b (x ∷ filter t es) (filter t es)) ≤ count_by holds (x ∷ es)
      go true l = let c = count_cons holds x (filter t es) in let d = count_cons holds x es in omega (arith, c, d, l)
      go false l = let d = count_cons holds x es in omega (arith, d, l)

  insert_count : (m : Ends) (k : Pair) (e : Endpoint) → count holds (insert m k e) + had (get m k) ≡ count holds m + one (f e)
  insert_count m k e =
      let c = put_count k e (entries m) (entries_sorted m) in
      let i = ap (count_by holds) (entries-insert pairs_total m k e) in
      let g = ap had (get-entries m k) in omega (arith, c, i, g)

  remove_count : (m : Ends) (k : Pair) → count holds (remove m k) ≤ count holds m
  remove_count m k = let l = filter_count (λ e. not (eq_by_cmp pair_cmp k e.0)) (entries m) in let r = ap (count_by holds) (removed m k) in omega (arith, l, r)

-- ---- as many as there may be

pub record Few (m : Ends) : Type 0 where
  pub own : count has_asked m ≤ MAX_OWN
  pub by_peer : count is_by_peer m ≤ MAX_BY_PEER

-- if the table of local requests is full, or that of the peer's, no further end of this kind appears
abbrev is_change : Bool → Bool → Option Endpoint → Option Endpoint → Bool
is_change own by_peer before None = true
is_change own by_peer None (Some f) = if f.asked then not own else not by_peer
is_change own by_peer (Some e) (Some f) = if f.asked then e.asked || not own else not e.asked

few_put : (m : Ends) (pair : Pair) (after : Option Endpoint) → is_change (nat_le MAX_OWN (count has_asked m)) (nat_le MAX_BY_PEER (count is_by_peer m)) (get m pair) after ≡ true → Few m → Few (put m pair after)
few_put m pair None c few = record {
  own = let l = remove_count (λ e. e.asked) m pair in let k = few.own in omega (arith, l, k);
  by_peer = let l = remove_count (λ e. not e.asked) m pair in let k = few.by_peer in omega (arith, l, k);
}
few_put m pair (Some e) c few = go (get m pair) refl c
  where
    room : (n k : ℕ) → nat_le n k ≡ false → k + 1 ≤ n
    room n k h = grind arith

    unfull : (b : Bool) → not b ≡ true → b ≡ false
    unfull true h = absurd (cc h)
    unfull false h = refl

    own_full : Bool
    own_full = nat_le MAX_OWN (count has_asked m)

    peer_full : Bool
    peer_full = nat_le MAX_BY_PEER (count is_by_peer m)

    asks : (o : Option Endpoint) → get m pair ≡ o → count has_asked (insert m pair e) + had (λ x. x.asked) o ≡ count has_asked m + one e.asked
    asks o g = subst (λ (p : Option Endpoint). count has_asked (insert m pair e) + had (λ x. x.asked) p ≡ count has_asked m + one e.asked) g (insert_count (λ x. x.asked) m pair e)

    others : (o : Option Endpoint) → get m pair ≡ o → count is_by_peer (insert m pair e) + had (λ x. not x.asked) o ≡ count is_by_peer m + one (not e.asked)
    others o g = subst (λ (p : Option Endpoint). count is_by_peer (insert m pair e) + had (λ x. not x.asked) p ≡ count is_by_peer m + one (not e.asked)) g (insert_count (λ x. not x.asked) m pair e)

    new : get m pair ≡ None → (y : Bool) → e.asked ≡ y → (if y then not own_full else not peer_full) ≡ true → Few (insert m pair e)
    new g true k c = record {
      own = let a = asks None g in let i = ap one k in let r = room MAX_OWN (count has_asked m) (unfull own_full c) in omega (arith, a, i, r);
      by_peer = let a = others None g in let i = ap (λ (b : Bool). one (not b)) k in let l = few.by_peer in omega (arith, a, i, l);
    }
    new g false k c = record {
      own = let a = asks None g in let i = ap one k in let l = few.own in omega (arith, a, i, l);
      by_peer = let a = others None g in let i = ap (λ (b : Bool). one (not b)) k in let r = room MAX_BY_PEER (count is_by_peer m) (unfull peer_full c) in omega (arith, a, i, r);
    }

    again : (x : Endpoint) → get m pair ≡ Some x → (y z : Bool) → e.asked ≡ y → x.asked ≡ z → (if y then z || not own_full else not z) ≡ true → Few (insert m pair e)
    again x g true true k j c = record {
      own = let a = asks (Some x) g in let i = ap one k in let h = ap one j in let l = few.own in omega (arith, a, i, h, l);
      by_peer = let a = others (Some x) g in let i = ap (λ (b : Bool). one (not b)) k in let h = ap (λ (b : Bool). one (not b)) j in let l = few.by_peer in omega (arith, a, i, h, l);
    }
    again x g true false k j c = record {
      own = let a = asks (Some x) g in let i = ap one k in let h = ap one j in let r = room MAX_OWN (count has_asked m) (unfull own_full c) in omega (arith, a, i, h, r);
      by_peer = let a = others (Some x) g in let i = ap (λ (b : Bool). one (not b)) k in let l = few.by_peer in omega (arith, a, i, l);
    }
    again x g false true k j c = absurd (cc c)
    again x g false false k j c = record {
      own = let a = asks (Some x) g in let i = ap one k in let h = ap one j in let l = few.own in omega (arith, a, i, h, l);
      by_peer = let a = others (Some x) g in let i = ap (λ (b : Bool). one (not b)) k in let h = ap (λ (b : Bool). one (not b)) j in let l = few.by_peer in omega (arith, a, i, h, l);
    }

    go : (o : Option Endpoint) → get m pair ≡ o → is_change own_full peer_full o (Some e) ≡ true → Few (insert m pair e)
    go None g c = new g e.asked refl c
    go (Some x) g c = again x g e.asked x.asked refl refl c

-- ---- what happens to an end

-- where neither table has room
unchanged : (own by_peer : Bool) (before after : Option Endpoint) → is_change true true before after ≡ true → is_change own by_peer before after ≡ true
unchanged own by_peer before None c = refl
unchanged own by_peer None (Some f) c = go f.asked c
  where
    go : (y : Bool) → (if y then false else false) ≡ true → (if y then not own else not by_peer) ≡ true
    go true c = absurd (cc c)
    go false c = absurd (cc c)
unchanged own by_peer (Some e) (Some f) c = go f.asked e.asked c
  where
    go : (y z : Bool) → (if y then z || false else not z) ≡ true → (if y then z || not own else not z) ≡ true
    go true true c = refl
    go true false c = absurd (cc c)
    go false z c = c

-- the own requests, and those of the other
abbrev is_request : EndpointEvent → Bool
is_request (EndpointEvent.Asks_to_send of_size with_room own full) = true
is_request (EndpointEvent.Asks_to_receive with_room on own full) = true
is_request (EndpointEvent.Rts_comes on taken by_peer) = true
is_request (EndpointEvent.Str_comes of_size by_peer) = true
is_request what = false

kept_asked : (pair : Pair) (what : EndpointEvent) (before : Option Endpoint) → is_request what ≡ false → is_change true true before (happens pair what before).after ≡ true
kept_asked pair (EndpointEvent.Asks_to_send of_size with_room own full) before r = absurd (cc r)
kept_asked pair (EndpointEvent.Asks_to_receive with_room on own full) before r = absurd (cc r)
kept_asked pair (EndpointEvent.Rts_comes on taken by_peer) before r = absurd (cc r)
kept_asked pair (EndpointEvent.Str_comes of_size by_peer) before r = absurd (cc r)
kept_asked pair (EndpointEvent.Closes full) None r = grind arith
kept_asked pair (EndpointEvent.Closes full) (Some e) r = grind arith
kept_asked pair (EndpointEvent.Gives text) None r = grind arith
kept_asked pair (EndpointEvent.Gives text) (Some e) r = grind arith
kept_asked pair (EndpointEvent.Takes bytes) None r = grind arith
kept_asked pair (EndpointEvent.Takes bytes) (Some e) r = grind arith
kept_asked pair (EndpointEvent.Allocates m b full) None r = grind arith
kept_asked pair (EndpointEvent.Allocates m b full) (Some e) r = grind arith
kept_asked pair (EndpointEvent.Calls_back m b full) None r = grind arith
kept_asked pair (EndpointEvent.Calls_back m b full) (Some e) r = grind arith
kept_asked pair (EndpointEvent.Interrupts full) None r = grind arith
kept_asked pair (EndpointEvent.Interrupts full) (Some e) r = grind arith
kept_asked pair EndpointEvent.Cls_comes None r = grind arith
kept_asked pair EndpointEvent.Cls_comes (Some e) r = grind arith
kept_asked pair (EndpointEvent.All_comes on m b) None r = grind arith
kept_asked pair (EndpointEvent.All_comes on m b) (Some e) r = grind arith
kept_asked pair (EndpointEvent.Gvb_comes on m b) None r = grind arith
kept_asked pair (EndpointEvent.Gvb_comes on m b) (Some e) r = grind arith
kept_asked pair (EndpointEvent.Ret_comes on m b) None r = grind arith
kept_asked pair (EndpointEvent.Ret_comes on m b) (Some e) r = grind arith
kept_asked pair (EndpointEvent.Inr_comes on) None r = grind arith
kept_asked pair (EndpointEvent.Inr_comes on) (Some e) r = grind arith
kept_asked pair (EndpointEvent.Ins_comes on) None r = grind arith
kept_asked pair (EndpointEvent.Ins_comes on) (Some e) r = grind arith
kept_asked pair (EndpointEvent.Text_comes head of_size text) None r = grind arith
kept_asked pair (EndpointEvent.Text_comes head of_size text) (Some e) r = grind arith
kept_asked pair EndpointEvent.Text_goes_out None r = grind arith
kept_asked pair EndpointEvent.Text_goes_out (Some e) r = grind arith
kept_asked pair (EndpointEvent.Is_answered Rfnm) None r = grind arith
kept_asked pair (EndpointEvent.Is_answered Rfnm) (Some e) r = grind arith
kept_asked pair (EndpointEvent.Is_answered Incomplete) None r = refl
kept_asked pair (EndpointEvent.Is_answered Incomplete) (Some e) r = grind arith
kept_asked pair (EndpointEvent.Is_answered Answer.Dead) None r = refl
kept_asked pair (EndpointEvent.Is_answered Answer.Dead) (Some e) r = grind arith
kept_asked pair EndpointEvent.Is_cleared before r = refl

asks_to_send : (pair : Pair) (of_size with_room own : ℕ) (full by_peer : Bool) (before : Option Endpoint) → is_change (nat_le MAX_OWN own) by_peer before (happens pair (EndpointEvent.Asks_to_send of_size with_room own full) before).after ≡ true
asks_to_send pair of_size with_room own full by_peer None = grind arith
asks_to_send pair of_size with_room own full by_peer (Some e) = grind arith

asks_to_receive : (pair : Pair) (with_room on own : ℕ) (full by_peer : Bool) (before : Option Endpoint) → is_change (nat_le MAX_OWN own) by_peer before (happens pair (EndpointEvent.Asks_to_receive with_room on own full) before).after ≡ true
asks_to_receive pair with_room on own full by_peer None = grind arith
asks_to_receive pair with_room on own full by_peer (Some e) = grind arith

rts_comes : (pair : Pair) (on : ℕ) (taken own : Bool) (by_peer : ℕ) (before : Option Endpoint) → is_change own (nat_le MAX_BY_PEER by_peer) before (happens pair (EndpointEvent.Rts_comes on taken by_peer) before).after ≡ true
rts_comes pair on taken own by_peer None = grind arith
rts_comes pair on taken own by_peer (Some e) = grind arith

str_comes : (pair : Pair) (of_size : ℕ) (own : Bool) (by_peer : ℕ) (before : Option Endpoint) → is_change own (nat_le MAX_BY_PEER by_peer) before (happens pair (EndpointEvent.Str_comes of_size by_peer) before).after ≡ true
str_comes pair of_size own by_peer None = grind arith
str_comes pair of_size own by_peer (Some e) = grind arith

called_change : (pair : Pair) (call : PairCall) (full : Bool) (m : Ends) → is_change (nat_le MAX_OWN (count has_asked m)) (nat_le MAX_BY_PEER (count is_by_peer m)) (get m pair) (happens pair (called call full m) (get m pair)).after ≡ true
called_change pair (Ask_to_send of_size with_room) full m = asks_to_send pair of_size with_room (count has_asked m) full (nat_le MAX_BY_PEER (count is_by_peer m)) (get m pair)
called_change pair (Ask_to_receive with_room) full m = asks_to_receive pair with_room (free_link m) (count has_asked m) full (nat_le MAX_BY_PEER (count is_by_peer m)) (get m pair)
called_change pair Close full m = unchanged (nat_le MAX_OWN (count has_asked m)) (nat_le MAX_BY_PEER (count is_by_peer m)) (get m pair) (happens pair (EndpointEvent.Closes full) (get m pair)).after (kept_asked pair (EndpointEvent.Closes full) (get m pair) refl)
called_change pair (Give text) full m = unchanged (nat_le MAX_OWN (count has_asked m)) (nat_le MAX_BY_PEER (count is_by_peer m)) (get m pair) (happens pair (EndpointEvent.Gives text) (get m pair)).after (kept_asked pair (EndpointEvent.Gives text) (get m pair) refl)
called_change pair (Take bytes) full m = unchanged (nat_le MAX_OWN (count has_asked m)) (nat_le MAX_BY_PEER (count is_by_peer m)) (get m pair) (happens pair (EndpointEvent.Takes bytes) (get m pair)).after (kept_asked pair (EndpointEvent.Takes bytes) (get m pair) refl)
called_change pair (Allocate of_messages of_bits) full m = unchanged (nat_le MAX_OWN (count has_asked m)) (nat_le MAX_BY_PEER (count is_by_peer m)) (get m pair) (happens pair (EndpointEvent.Allocates of_messages of_bits full) (get m pair)).after (kept_asked pair (EndpointEvent.Allocates of_messages of_bits full) (get m pair) refl)
called_change pair (Call_back of_messages of_bits) full m = unchanged (nat_le MAX_OWN (count has_asked m)) (nat_le MAX_BY_PEER (count is_by_peer m)) (get m pair) (happens pair (EndpointEvent.Calls_back of_messages of_bits full) (get m pair)).after (kept_asked pair (EndpointEvent.Calls_back of_messages of_bits full) (get m pair) refl)
called_change pair Interrupt full m = unchanged (nat_le MAX_OWN (count has_asked m)) (nat_le MAX_BY_PEER (count is_by_peer m)) (get m pair) (happens pair (EndpointEvent.Interrupts full) (get m pair)).after (kept_asked pair (EndpointEvent.Interrupts full) (get m pair) refl)

-- ---- at a host

few_after : {A : Type 0} (m : Ends) (pair : Pair) (act : Effect A) → is_change (nat_le MAX_OWN (count has_asked m)) (nat_le MAX_BY_PEER (count is_by_peer m)) (get m pair) (end_after (get m pair) act) ≡ true → Few m → Few (map_after m pair act)
few_after m pair (Stays a) c few = few
few_after m pair (Becomes e a) c few = go (is_ended e) (few_put m pair (if is_ended e then None else Some e) c few)
  where
    go : (b : Bool) → Few (put m pair (if b then None else Some e)) → Few (if b then remove m pair else insert m pair e)
    go true k = k
    go false k = k

few_at : {A : Type 0} (m : Ends) (o : Option Pair) (act : Effect A)
    → ((pair : Pair) → o ≡ Some pair → is_change (nat_le MAX_OWN (count has_asked m)) (nat_le MAX_BY_PEER (count is_by_peer m)) (get m pair) (end_after (get m pair) act) ≡ true) → Few m → Few (map_after_at m o act)
few_at m None act f few = few
few_at m (Some pair) act f few = few_after m pair act (f pair refl) few

few_command : (c : Command) (m : Ends) → Few m → Few (map_after_at m (demux_command c m) (hear c m))
few_command (Rts receive send on) m few =
    few_at m (demux_command (Rts receive send on) m) (hear (Rts receive send on) m)
    (λ pair e. let l = command-led m (Rts receive send on) pair (EndpointEvent.Rts_comes on (any (hears_link on) m) (count is_by_peer m)) e refl in
    subst (λ (o : Option Endpoint). is_change (nat_le MAX_OWN (count has_asked m)) (nat_le MAX_BY_PEER (count is_by_peer m)) (get m pair) o ≡ true) (ap (λ (d : Transition). d.after) l.1) (rts_comes pair on (any (hears_link on) m) (nat_le MAX_OWN (count has_asked m)) (count is_by_peer m) (get m pair))) few
few_command (Str send receive of_size) m few =
    few_at m (demux_command (Str send receive of_size) m) (hear (Str send receive of_size) m)
    (λ pair e. let l = command-led m (Str send receive of_size) pair (EndpointEvent.Str_comes of_size (count is_by_peer m)) e refl in
    subst (λ (o : Option Endpoint). is_change (nat_le MAX_OWN (count has_asked m)) (nat_le MAX_BY_PEER (count is_by_peer m)) (get m pair) o ≡ true) (ap (λ (d : Transition). d.after) l.1) (str_comes pair of_size (nat_le MAX_OWN (count has_asked m)) (count is_by_peer m) (get m pair))) few
few_command (Cls my your) m few =
    few_at m (demux_command (Cls my your) m) (hear (Cls my your) m)
    (λ pair e. let l = command-led m (Cls my your) pair EndpointEvent.Cls_comes e refl in
    subst (λ (o : Option Endpoint). is_change (nat_le MAX_OWN (count has_asked m)) (nat_le MAX_BY_PEER (count is_by_peer m)) (get m pair) o ≡ true) (ap (λ (d : Transition). d.after) l.1) (unchanged (nat_le MAX_OWN (count has_asked m)) (nat_le MAX_BY_PEER (count is_by_peer m)) (get m pair) (happens pair EndpointEvent.Cls_comes (get m pair)).after (kept_asked pair EndpointEvent.Cls_comes (get m pair) refl))) few
few_command (All on a b) m few =
    few_at m (demux_command (All on a b) m) (hear (All on a b) m)
    (λ pair e. let l = command-led m (All on a b) pair (EndpointEvent.All_comes on a b) e refl in
    subst (λ (o : Option Endpoint). is_change (nat_le MAX_OWN (count has_asked m)) (nat_le MAX_BY_PEER (count is_by_peer m)) (get m pair) o ≡ true) (ap (λ (d : Transition). d.after) l.1) (unchanged (nat_le MAX_OWN (count has_asked m)) (nat_le MAX_BY_PEER (count is_by_peer m)) (get m pair) (happens pair (EndpointEvent.All_comes on a b) (get m pair)).after (kept_asked pair (EndpointEvent.All_comes on a b) (get m pair) refl))) few
few_command (Gvb on a b) m few =
    few_at m (demux_command (Gvb on a b) m) (hear (Gvb on a b) m)
    (λ pair e. let l = command-led m (Gvb on a b) pair (EndpointEvent.Gvb_comes on a b) e refl in
    subst (λ (o : Option Endpoint). is_change (nat_le MAX_OWN (count has_asked m)) (nat_le MAX_BY_PEER (count is_by_peer m)) (get m pair) o ≡ true) (ap (λ (d : Transition). d.after) l.1) (unchanged (nat_le MAX_OWN (count has_asked m)) (nat_le MAX_BY_PEER (count is_by_peer m)) (get m pair) (happens pair (EndpointEvent.Gvb_comes on a b) (get m pair)).after (kept_asked pair (EndpointEvent.Gvb_comes on a b) (get m pair) refl))) few
few_command (Ret on a b) m few =
    few_at m (demux_command (Ret on a b) m) (hear (Ret on a b) m)
    (λ pair e. let l = command-led m (Ret on a b) pair (EndpointEvent.Ret_comes on a b) e refl in
    subst (λ (o : Option Endpoint). is_change (nat_le MAX_OWN (count has_asked m)) (nat_le MAX_BY_PEER (count is_by_peer m)) (get m pair) o ≡ true) (ap (λ (d : Transition). d.after) l.1) (unchanged (nat_le MAX_OWN (count has_asked m)) (nat_le MAX_BY_PEER (count is_by_peer m)) (get m pair) (happens pair (EndpointEvent.Ret_comes on a b) (get m pair)).after (kept_asked pair (EndpointEvent.Ret_comes on a b) (get m pair) refl))) few
few_command (Inr on) m few =
    few_at m (demux_command (Inr on) m) (hear (Inr on) m)
    (λ pair e. let l = command-led m (Inr on) pair (EndpointEvent.Inr_comes on) e refl in
    subst (λ (o : Option Endpoint). is_change (nat_le MAX_OWN (count has_asked m)) (nat_le MAX_BY_PEER (count is_by_peer m)) (get m pair) o ≡ true) (ap (λ (d : Transition). d.after) l.1) (unchanged (nat_le MAX_OWN (count has_asked m)) (nat_le MAX_BY_PEER (count is_by_peer m)) (get m pair) (happens pair (EndpointEvent.Inr_comes on) (get m pair)).after (kept_asked pair (EndpointEvent.Inr_comes on) (get m pair) refl))) few
few_command (Ins on) m few =
    few_at m (demux_command (Ins on) m) (hear (Ins on) m)
    (λ pair e. let l = command-led m (Ins on) pair (EndpointEvent.Ins_comes on) e refl in
    subst (λ (o : Option Endpoint). is_change (nat_le MAX_OWN (count has_asked m)) (nat_le MAX_BY_PEER (count is_by_peer m)) (get m pair) o ≡ true) (ap (λ (d : Transition). d.after) l.1) (unchanged (nat_le MAX_OWN (count has_asked m)) (nat_le MAX_BY_PEER (count is_by_peer m)) (get m pair) (happens pair (EndpointEvent.Ins_comes on) (get m pair)).after (kept_asked pair (EndpointEvent.Ins_comes on) (get m pair) refl))) few
few_command c m few = few

few_text : (m : Ends) (on of_size : ℕ) (text : List Bool) → Few m → Few (map_after_at m (pair_of (receiver_on on m)) (text_in on of_size text m))
few_text m on of_size text few =
    few_at m (pair_of (receiver_on on m)) (text_in on of_size text m)
    (λ pair e. let l = led (uses_link on) m pair e in
    subst (λ (o : Option Endpoint). is_change (nat_le MAX_OWN (count has_asked m)) (nat_le MAX_BY_PEER (count is_by_peer m)) (get m pair) o ≡ true) (ap (λ (o : Option Endpoint). end_after (get m pair) (hear_text of_size text o)) l.0) (unchanged (nat_le MAX_OWN (count has_asked m)) (nat_le MAX_BY_PEER (count is_by_peer m)) (get m pair) (happens pair (EndpointEvent.Text_comes [] of_size text) (get m pair)).after (kept_asked pair (EndpointEvent.Text_comes [] of_size text) (get m pair) refl))) few

few_cut : (m : Ends) (on : ℕ) → Few m → Few (map_after_at m (pair_of (sender_on on m)) (cut_in on m))
few_cut m on few =
    few_at m (pair_of (sender_on on m)) (cut_in on m)
    (λ pair e. let l = cut-led m on pair e in
    subst (λ (o : Option Endpoint). is_change (nat_le MAX_OWN (count has_asked m)) (nat_le MAX_BY_PEER (count is_by_peer m)) (get m pair) o ≡ true) (ap (λ (d : Transition). d.after) l.1) (unchanged (nat_le MAX_OWN (count has_asked m)) (nat_le MAX_BY_PEER (count is_by_peer m)) (get m pair) (happens pair EndpointEvent.Text_goes_out (get m pair)).after (kept_asked pair EndpointEvent.Text_goes_out (get m pair) refl))) few

few_answered : (m : Ends) (on : ℕ) → Few m → Few (map_after_at m (pair_of (sender_on on m)) (answered_in on Rfnm m))
few_answered m on few =
    few_at m (pair_of (sender_on on m)) (answered_in on Rfnm m)
    (λ pair e. let l = answered-led m on Rfnm pair e in
    subst (λ (o : Option Endpoint). is_change (nat_le MAX_OWN (count has_asked m)) (nat_le MAX_BY_PEER (count is_by_peer m)) (get m pair) o ≡ true) (ap (λ (d : Transition). d.after) l.1) (unchanged (nat_le MAX_OWN (count has_asked m)) (nat_le MAX_BY_PEER (count is_by_peer m)) (get m pair) (happens pair (EndpointEvent.Is_answered Rfnm) (get m pair)).after (kept_asked pair (EndpointEvent.Is_answered Rfnm) (get m pair) refl))) few

few_none : Few no_ends
few_none = record {
  own = let h = count_by-le-length has_asked (entries (empty {X = Endpoint} {R = pair_cmp})) in let z = nothing in omega (arith, h, z);
  by_peer = let h = count_by-le-length is_by_peer (entries (empty {X = Endpoint} {R = pair_cmp})) in let z = nothing in omega (arith, h, z);
}
  where
    nothing : length (entries (empty {X = Endpoint} {R = pair_cmp})) ≡ 0
    nothing = sym (len-entries (empty {X = Endpoint} {R = pair_cmp})) ∙ len-empty pair_cmp Endpoint

few_kept : (b : Bool) (m : Ends) → Few m → Few (if b then m else no_ends)
few_kept true m few = few
few_kept false m few = few_none

-- ---- at a host, each step

few_hears : (c : Command) (n : Node) → Few n.ends → Few (node_hears c n).ends
few_hears Rst n few = few_none
few_hears Rrp n few = few
few_hears c n few = either (λ (k : Node). Few k.ends) (is_up n.host) (node_hears_other c n) n (few_kept (is_up (node_hears_other c n).host) (map_after_at n.ends (demux_command c n.ends) (hear c n.ends)) (few_command c n.ends few)) few

few_hears_all : (cs : List Command) (n : Node) → Few n.ends → Few (node_hears_all cs n).ends
few_hears_all [] n few = few
few_hears_all (c ∷ cs) n few = few_hears_all cs (node_hears c n) (few_hears c n few)

few_calls : (pair : Pair) (call : PairCall) (n : Node) → Few n.ends → Few (node_calls pair call n).ends
few_calls pair call n few =
    either (λ (k : Node). Few k.ends) (is_up n.host) (happens_at pair (called call (is_full n.host.phase) n.ends) n) n
    (few_kept (is_up (happens_at pair (called call (is_full n.host.phase) n.ends) n).host) (put n.ends pair (happens pair (called call (is_full n.host.phase) n.ends) (get n.ends pair)).after)
    (few_put n.ends pair (happens pair (called call (is_full n.host.phase) n.ends) (get n.ends pair)).after (called_change pair call (is_full n.host.phase) n.ends) few)) few

few_cuts : (on : ℕ) (o : Option (ℕ × List Bool)) (n : Node) → Few n.ends → Few (node_cuts on o n).ends
few_cuts on None n few = few
few_cuts on (Some text) n few = few_cut n.ends on few

few_sends_text : (on : ℕ) (slot : Slot TextOut) (n : Node) → Few n.ends → Few (node_sends_text on slot n).ends
few_sends_text on Empty n few = few_cuts on (answer (cut_in on n.ends)) n few
few_sends_text on (Ready t) n few = few
few_sends_text on (Travelling t) n few = few
few_sends_text on (Held t) n few = few

few_hears_text : (on : ℕ) (head : List Bool) (t : TextOut) (n : Node) → Few n.ends → Few (node_hears_text on head t n).ends
few_hears_text on head t n few =
    either (λ (k : Node). Few k.ends) (is_up n.host) (node_takes_text on head t n) n
    (few_kept (is_up (node_takes_text on head t n).host) (map_after_at n.ends (pair_of (receiver_on on n.ends)) (text_in on t.of_size t.bits n.ends)) (few_text n.ends on t.of_size t.bits few)) few

few_frees : (on : ℕ) (n : Node) → Few n.ends → Few (node_frees on n).ends
few_frees on n few = go (is_up n.host)
  where
    m : Ends
    m = map_after_at n.ends (pair_of (sender_on on n.ends)) (answered_in on Rfnm n.ends)

    go : (b : Bool) → Few (if b then node_kept (node_frees on n).host m else n.ends)
    go true = few_kept (is_up (node_frees on n).host) m (few_answered n.ends on few)
    go false = few

few_text_answered : (on : ℕ) (slot : Slot TextOut) (subnet : MessageTransit TextOut) (n : Node) → Few n.ends → Few (text_answered on slot subnet n).ends
few_text_answered on (Travelling t) Delivered n few = few_frees on n few
few_text_answered on slot subnet n few = few

few_control_answered : (slot : Slot (List Command)) (subnet : MessageTransit (List Command)) (n : Node) → Few n.ends → Few (control_answered slot subnet n).ends
few_control_answered (Travelling t) Delivered n few = few
few_control_answered slot subnet n few = few

few_message : (subnet : MessageTransit (List Command)) (w : TwoNodes) → Few w.this.ends → Few (message_comes subnet w).this.ends
few_message (Accepted m) w few = few_hears_all m w.this few
few_message Free w few = few
few_message Delivered w few = few
few_message Lost w few = few
few_message Dead w few = few

few_text_comes : (on : ℕ) (head : List Bool) (subnet : MessageTransit TextOut) (w : TwoNodes) → Few w.this.ends → Few (node_text_comes on head subnet w).this.ends
few_text_comes on head (Accepted t) w few = few_hears_text on head t w.this few
few_text_comes on head Free w few = few
few_text_comes on head Delivered w few = few
few_text_comes on head Lost w few = few
few_text_comes on head Dead w few = few

few_step : (step : NodeStep) (w : TwoNodes) → Few w.this.ends → Few (node_steps step w).this.ends
few_step Calls_reset w few = either (λ (k : Node). Few k.ends) (is_resetting w.this.host.phase) w.this (node_cleared (host_resets (quiet w.this) w.this.host) w.this) few few_none
few_step (Calls pair call) w few = few_calls pair call w.this few
few_step (Calls_echo byte) w few = either (λ (k : Node). Few k.ends) (is_up w.this.host) (node_echo_called byte w.this) w.this (few_kept (is_up (node_echo_called byte w.this).host) w.this.ends few) few
few_step Falls w few = few_none
few_step (Sends_text on) w few = few_sends_text on (w.this.texts on).slot w.this few
few_step Hears w few = few_message w.that.control.subnet w few
few_step (Hears_text on head) w few = few_text_comes on head (w.that.texts on).subnet w few
few_step Is_answered w few = few_control_answered w.this.control.slot w.this.control.subnet w.this few
few_step (Text_is_answered on) w few = few_text_answered on (w.this.texts on).slot (w.this.texts on).subnet w.this few
few_step it w few = few

few_both : (step : NodeStep) (w : TwoNodes) → Few w.this.ends → Few w.that.ends → Few (node_steps step w).this.ends × Few (node_steps step w).that.ends
few_both step w few other = (few_step step w few, other-keeps (λ (n : Node). Few n.ends) (λ n l k. k) (λ n ls k. k) step w other)

few_side : (side : Party) (step : NodeStep) (w : TwoNodes) → Few w.this.ends × Few w.that.ends → Few (node_at side step w).this.ends × Few (node_at side step w).that.ends
few_side This step w k = few_both step w k.0 k.1
few_side That step w k = let n = few_both step (nodes_swapped w) k.1 k.0 in (n.1, n.0)

-- at both, after any events
pub few_reached : {w : TwoNodes} → IsReachable w → Few w.this.ends × Few w.that.ends
few_reached Begins = (few_none, few_none)
few_reached (Goes_on r side step) = few_side side step _ (few_reached r)

pub few_entries : (m : Ends) → Few m → length (entries m) ≤ 128
few_entries m few = let all = each (entries m) in let a = few.own in let b = few.by_peer in omega (arith, all, a, b)
  where
    each : (es : List (Pair × Endpoint)) → count_by has_asked es + count_by is_by_peer es ≡ length es
    each [] = refl
    each (x ∷ es) = let c = count_cons has_asked x es in let d = count_cons is_by_peer x es in go x.1.asked refl c d (each es)
      where
        both : (b : Bool) → one b + one (not b) ≡ 1
        both true = refl
        both false = refl

        go : (b : Bool) → x.1.asked ≡ b → count_by has_asked (x ∷ es) ≡ one x.1.asked + count_by has_asked es → count_by is_by_peer (x ∷ es) ≡ one (not x.1.asked) + count_by is_by_peer es
            → count_by has_asked es + count_by is_by_peer es ≡ length es → count_by has_asked (x ∷ es) + count_by is_by_peer (x ∷ es) ≡ suc (length es)
        go b k c d rest = let i = both x.1.asked in omega (arith, c, d, rest, i)

pub few_ends : {w : TwoNodes} → IsReachable w → (length (entries w.this.ends) ≤ 128) × (length (entries w.that.ends) ≤ 128)
few_ends r = let f = few_reached r in (few_entries _ f.0, few_entries _ f.1)
