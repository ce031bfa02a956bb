-- Requests: what a table is after them, and what their acts are by their tests.
use Rattle.std.proofs.Common.{◌≡◌, ℕ, ◌+◌, ◌<◌, ◌≤◌, inl, inr, Bool, true, false, cond, not, ◌&&◌, ◌||◌, ◌==◌, nat_le, Option, Some, None, is_none, Ok, Err, refl, sym, ap, ◌∙◌, subst, arith}
use Rattle.std.specs.List.{count_by}
use Rattle.std.specs.FinMap as map
use Rattle.std.specs.FinMap.{insert, remove}
use Rattle.slab.specs.Slab.{get, values, with_value}
use Rattle.std.proofs.lemmas.Bool.{eqb-true}
use Rattle.std.proofs.lemmas.Bool.Decides.{nat_tests}
use Rattle.ncp_wire.specs.declared.command.Command.TheVariants.{Rts, Str}
use Rattle.ncp_model.specs.declared.pair.Pair.{Pair}
use Rattle.ncp_model.specs.declared.call_fault.CallFault.{CallFault}
use Rattle.ncp_model.specs.declared.call_fault.CallFault.TheVariants.{BadSex, BadSize, BadRoom, AlreadyAsked, Closing, TableFull, QueueFull}
use Rattle.ncp_model.specs.declared.outcomes.Heard.TheVariants.{Nothing, Full}
use Rattle.ncp_model.specs.Pairs.{sends, receives}
use Rattle.ncp_model.specs.Endpoint.{Endpoint, new_end, or_new, is_ended}
use Rattle.ncp_model.specs.Effect.{Stays, Becomes, is_room, is_data_link, wrong_parameters}
use Rattle.ncp_model.specs.Calls.{refuse, ◌>>◌, asked_to_send, asked_to_receive, end_to_ask, may_ask_send, may_ask_receive}
use Rattle.ncp_model.proofs.Refusals.{not_refused, first_err, first_ok, stays_by, acts_by}
use Rattle.ncp_model.specs.Commands.{errs, heard_link, heard_size}
use Rattle.ncp_model.specs.Ends.{Ends, count, any, has_asked, is_by_peer, hears_link, uses_link, free_link, ask_send_in, ask_receive_in, map_after, hear_rts_in, hear_str_in, may_ask_in, wrong_rts_in, wrong_str_in}
use Rattle.ncp_conn.specs.Entries.{IsKept, Led}
use Rattle.ncp_conn.specs.declared.entries.Entries.{Entries}
use Rattle.ncp_conn.specs.Changes.{with_end}
use Rattle.ncp_conn.specs.Asking.{Enters}
use Rattle.ncp_conn.proofs.Counts.{one}
use Rattle.ncp_conn.proofs.Tables.{acted, kept_asked, hears_sends, uses_receives, not_receives, not_sends}

last_of : (a b : Bool) → (a && b) ≡ true → b ≡ true
last_of true b h = h
last_of false b h = absurd (cc)

never : {A : Type 0} → (b : Bool) → b ≡ true → b ≡ false → A
never b h g = let t : true ≡ false = sym h ∙ g in absurd (cc)

no_use : {A : Type 0} → (on : ℕ) (p : Pair × Endpoint) → sends p.0 ≡ true → uses_link on p ≡ true → A
no_use on p s h = never (receives p.0) (uses_receives on p h) (not_receives p.0 s)

no_hearing : {A : Type 0} → (on : ℕ) (p : Pair × Endpoint) → receives p.0 ≡ true → hears_link on p ≡ true → A
no_hearing on p s h = never (sends p.0) (hears_sends on p h) (not_sends p.0 s)

-- the link that an entry is on
pub its_link : (a : Bool) (here on : ℕ) → (a && here == on) ≡ true → here ≡ on
its_link a here on h = eqb-true here on (last_of a (here == on) h)

-- The table after a request, in turn the own one of a sender and of a receiver, and the peer's.

second_of : (a b c : Bool) → (a && b && c) ≡ true → b ≡ true
second_of true true c h = refl
second_of true false c h = absurd (cc)
second_of false b c h = absurd (cc)

module _ {S : Type 0} (e new : Entries S) (key : ℕ) (r f : Pair × Endpoint) (at : get e.slab key ≡ Some r) (l : (p : Pair × Endpoint) → get (with_value e.slab key f) key ≡ Some p → Led (acted e key f) new key p) (t : IsKept e) where
  pub kept_asks_send : (of_size room : ℕ) → f ≡ with_end r (asked_to_send of_size room r.1) → sends r.0 ≡ true → count_by has_asked (values e.slab) < 64 → IsKept new
  kept_asks_send of_size room is sender less =
      let g = with_end r (asked_to_send of_size room r.1) in
      let own : count_by has_asked (values e.slab) + 1 ≤ 64 + one r.1.asked = omega (arith, less) in
      let by_peer : count_by is_by_peer (values e.slab) + 0 ≤ 64 + one (not r.1.asked) = let x = t.table.by_peer in omega (arith, x) in
      kept_asked e new key r g at (subst (λ (p : Pair × Endpoint). (q : Pair × Endpoint) → get (with_value e.slab key p) key ≡ Some q → Led (acted e key p) new key q) is l) refl t refl own by_peer
      (λ on p. inl p) (λ on p. no_use on g sender p) (λ on p. p) (λ on p. no_use on r sender p)

  pub kept_asks_receive : (on room : ℕ) → f ≡ with_end r (asked_to_receive on room r.1) → receives r.0 ≡ true → r.1.asked ≡ false → count_by has_asked (values e.slab) < 64 → count_by (uses_link on) (values e.slab) ≡ 0 → IsKept new
  kept_asks_receive on room is receiver first less free =
      let g = with_end r (asked_to_receive on room r.1) in
      let own : count_by has_asked (values e.slab) + 1 ≤ 64 + one r.1.asked = omega (arith, less) in
      let by_peer : count_by is_by_peer (values e.slab) + 0 ≤ 64 + one (not r.1.asked) = let x = t.table.by_peer in omega (arith, x) in
      kept_asked e new key r g at (subst (λ (p : Pair × Endpoint). (q : Pair × Endpoint) → get (with_value e.slab key p) key ≡ Some q → Led (acted e key p) new key q) is l) refl t refl own by_peer
      (λ other p. no_hearing other g receiver p)
      (λ other p. inr (subst (λ (n : ℕ). count_by (uses_link n) (values e.slab) ≡ 0) (its_link (receives r.0 && true) on other p) free))
      (λ other p. no_hearing other r receiver p)
      (λ other p. never r.1.asked (second_of (receives r.0) r.1.asked (r.1.link == other) p) first)

  pub kept_hears_link : (on : ℕ) → f ≡ with_end r (heard_link on r.1) → sends r.0 ≡ true → r.1.heard ≡ false → count_by (hears_link on) (values e.slab) ≡ 0 → IsKept new
  kept_hears_link on is sender first free =
      let g = with_end r (heard_link on r.1) in
      let own : count_by has_asked (values e.slab) + one r.1.asked ≤ 64 + one r.1.asked = let x = t.table.own in omega (arith, x) in
      let by_peer : count_by is_by_peer (values e.slab) + one (not r.1.asked) ≤ 64 + one (not r.1.asked) = let x = t.table.by_peer in omega (arith, x) in
      kept_asked e new key r g at (subst (λ (p : Pair × Endpoint). (q : Pair × Endpoint) → get (with_value e.slab key p) key ≡ Some q → Led (acted e key p) new key q) is l) refl t refl own by_peer
      (λ other p. inr (subst (λ (n : ℕ). count_by (hears_link n) (values e.slab) ≡ 0) (its_link (sends r.0 && true) on other p) free))
      (λ other p. no_use other g sender p)
      (λ other p. never r.1.heard (second_of (sends r.0) r.1.heard (r.1.link == other) p) first)
      (λ other p. no_use other r sender p)

  pub kept_hears_size : (of_size : ℕ) → f ≡ with_end r (heard_size of_size r.1) → receives r.0 ≡ true → IsKept new
  kept_hears_size of_size is receiver =
      let g = with_end r (heard_size of_size r.1) in
      let own : count_by has_asked (values e.slab) + one r.1.asked ≤ 64 + one r.1.asked = let x = t.table.own in omega (arith, x) in
      let by_peer : count_by is_by_peer (values e.slab) + one (not r.1.asked) ≤ 64 + one (not r.1.asked) = let x = t.table.by_peer in omega (arith, x) in
      kept_asked e new key r g at (subst (λ (p : Pair × Endpoint). (q : Pair × Endpoint) → get (with_value e.slab key p) key ≡ Some q → Led (acted e key p) new key q) is l) refl t refl own by_peer
      (λ on p. no_hearing on g receiver p) (λ on p. inl p) (λ on p. no_hearing on r receiver p) (λ on p. p)

pub when : {A : Type 0} (b : Bool) (x y : A) → b ≡ true → cond b x y ≡ x
when true x y h = refl
when false x y h = absurd (cc)

pub unless : {A : Type 0} (b : Bool) (x y : A) → b ≡ false → cond b x y ≡ y
unless true x y h = absurd (cc)
unless false x y h = refl

-- A new entry by a request.

pub new_entry : (p q : Pair × Endpoint) (k : Pair) (act : Endpoint → Endpoint) → p ≡ with_end q (act q.1) → q ≡ (k, new_end) → p ≡ (k, act new_end)
new_entry p q k act h g = h ∙ ap (λ (x : Pair × Endpoint). with_end x (act x.1)) g

not_both : {A : Type 0} → (a b : Bool) → ((a && false) && b) ≡ true → A
not_both true b h = absurd (cc)
not_both false b h = absurd (cc)

below : (n : ℕ) → nat_le 64 n ≡ false → n < 64
below n h = grind (arith, nat_tests)

module _ (m : Ends) (k : Pair) (none : map.get m k ≡ None) where
  pub new_sender : (of_size room : ℕ) → sends k ≡ true → count has_asked m < 64 → Enters m (k, asked_to_send of_size room new_end)
  new_sender of_size room sender less = record {
    none = none;
    over = refl;
    own = λ _. less;
    by_peer = λ h. absurd (cc);
    hears = λ on h. not_both (sends k) (0 == on) h;
    uses = λ on h. no_use on (k, asked_to_send of_size room new_end) sender h;
  }

  pub new_receiver : (on room : ℕ) → receives k ≡ true → count has_asked m < 64 → any (uses_link on) m ≡ false → Enters m (k, asked_to_receive on room new_end)
  new_receiver on room receiver less free = record {
    none = none;
    over = refl;
    own = λ _. less;
    by_peer = λ h. absurd (cc);
    hears = λ other h. not_both (sends k) (on == other) h;
    uses = λ other h. subst (λ (n : ℕ). any (uses_link n) m ≡ false) (its_link (receives k && true) on other h) free;
  }

  pub new_heard_link : (on : ℕ) → sends k ≡ true → nat_le 64 (count is_by_peer m) ≡ false → any (hears_link on) m ≡ false → Enters m (k, heard_link on new_end)
  new_heard_link on sender room free = record {
    none = none;
    over = refl;
    own = λ h. absurd (cc);
    by_peer = λ _. below (count is_by_peer m) room;
    hears = λ other h. subst (λ (n : ℕ). any (hears_link n) m ≡ false) (its_link (sends k && true) on other h) free;
    uses = λ other h. not_both (receives k) (on == other) h;
  }

  pub new_heard_size : (of_size : ℕ) → receives k ≡ true → nat_le 64 (count is_by_peer m) ≡ false → Enters m (k, heard_size of_size new_end)
  new_heard_size of_size receiver room = record {
    none = none;
    over = refl;
    own = λ h. absurd (cc);
    by_peer = λ _. below (count is_by_peer m) room;
    hears = λ on h. no_hearing on (k, heard_size of_size new_end) receiver h;
    uses = λ on h. not_both (receives k) (0 == on) h;
  }

pub entered : {A : Type 0} → (m new : Ends) (k : Pair) (p : Pair × Endpoint) (act : Endpoint → Endpoint) (a : A) → is_ended (act new_end) ≡ false → map.get m k ≡ None → p ≡ (k, act new_end) → new ≡ insert m p.0 p.1 → new ≡ map_after m k (Becomes (act (or_new (map.get m k))) a)
entered m new k p act a over none is h =
    h ∙ ap (λ (x : Pair × Endpoint). insert m x.0 x.1) is ∙ sym (unless (is_ended (act new_end)) (remove m k) (insert m k (act new_end)) over) ∙ ap (λ (o : Option Endpoint). map_after m k (Becomes (act (or_new o)) a)) (sym none)

-- What the acts are.

-- what is known where an or is false
pub neither : (a b : Bool) → (a || b) ≡ false → (a ≡ false) × (b ≡ false)
neither true b h = absurd (cc)
neither false b h = (refl, h)

pub really : (a : Bool) → not a ≡ false → a ≡ true
really true h = refl
really false h = absurd (cc)

pub right_rts : (k : Pair) (on : ℕ) (m : Ends) → wrong_rts_in k on m ≡ false → (sends k ≡ true) × (any (hears_link on) m ≡ false) × (is_data_link on ≡ true) × ((or_new (map.get m k)).heard ≡ false)
right_rts k on m h =
    let a = neither (not (sends k) || not (is_data_link on) || (or_new (map.get m k)).heard) (any (hears_link on) m) h in
    let b = neither (not (sends k) || not (is_data_link on)) (or_new (map.get m k)).heard a.0 in
    let d = neither (not (sends k)) (not (is_data_link on)) b.0 in
    (really (sends k) d.0, a.1, really (is_data_link on) d.1, b.1)

pub right_str : (k : Pair) (of_size : ℕ) (m : Ends) → wrong_str_in k of_size m ≡ false → receives k ≡ true
right_str k of_size m h =
    let a = neither (not (receives k) || of_size == 0) (or_new (map.get m k)).heard h in
    let b = neither (not (receives k)) (of_size == 0) a.0 in
    really (receives k) b.0

pub rts_wrong : (k : Pair) (on : ℕ) (m : Ends) → wrong_rts_in k on m ≡ true → hear_rts_in k on m ≡ errs wrong_parameters (Rts k.remote k.local on)
rts_wrong k on m h = when (wrong_rts_in k on m) _ _ h

pub str_wrong : (k : Pair) (of_size : ℕ) (m : Ends) → wrong_str_in k of_size m ≡ true → hear_str_in k of_size m ≡ errs wrong_parameters (Str k.remote k.local of_size)
str_wrong k of_size m h = when (wrong_str_in k of_size m) _ _ h

module _ (k : Pair) (on : ℕ) (m : Ends) (right : wrong_rts_in k on m ≡ false) where
  pub rts_full : map.get m k ≡ None → nat_le 64 (count is_by_peer m) ≡ true → hear_rts_in k on m ≡ Stays Full
  rts_full none n = unless (wrong_rts_in k on m) _ _ right ∙ ap (λ (o : Option Endpoint). cond (is_none o && nat_le 64 (count is_by_peer m)) (Stays Full) (Becomes (heard_link on (or_new o)) Nothing)) none ∙ when (nat_le 64 (count is_by_peer m)) (Stays Full) _ n

  pub rts_new : map.get m k ≡ None → nat_le 64 (count is_by_peer m) ≡ false → hear_rts_in k on m ≡ Becomes (heard_link on new_end) Nothing
  rts_new none n = unless (wrong_rts_in k on m) _ _ right ∙ ap (λ (o : Option Endpoint). cond (is_none o && nat_le 64 (count is_by_peer m)) (Stays Full) (Becomes (heard_link on (or_new o)) Nothing)) none ∙ unless (nat_le 64 (count is_by_peer m)) (Stays Full) _ n

  pub rts_more : (e : Endpoint) → map.get m k ≡ Some e → hear_rts_in k on m ≡ Becomes (heard_link on e) Nothing
  rts_more e there = unless (wrong_rts_in k on m) _ _ right ∙ ap (λ (o : Option Endpoint). cond (is_none o && nat_le 64 (count is_by_peer m)) (Stays Full) (Becomes (heard_link on (or_new o)) Nothing)) there

module _ (k : Pair) (of_size : ℕ) (m : Ends) (right : wrong_str_in k of_size m ≡ false) where
  pub str_full : map.get m k ≡ None → nat_le 64 (count is_by_peer m) ≡ true → hear_str_in k of_size m ≡ Stays Full
  str_full none n = unless (wrong_str_in k of_size m) _ _ right ∙ ap (λ (o : Option Endpoint). cond (is_none o && nat_le 64 (count is_by_peer m)) (Stays Full) (Becomes (heard_size of_size (or_new o)) Nothing)) none ∙ when (nat_le 64 (count is_by_peer m)) (Stays Full) _ n

  pub str_new : map.get m k ≡ None → nat_le 64 (count is_by_peer m) ≡ false → hear_str_in k of_size m ≡ Becomes (heard_size of_size new_end) Nothing
  str_new none n = unless (wrong_str_in k of_size m) _ _ right ∙ ap (λ (o : Option Endpoint). cond (is_none o && nat_le 64 (count is_by_peer m)) (Stays Full) (Becomes (heard_size of_size (or_new o)) Nothing)) none ∙ unless (nat_le 64 (count is_by_peer m)) (Stays Full) _ n

  pub str_more : (e : Endpoint) → map.get m k ≡ Some e → hear_str_in k of_size m ≡ Becomes (heard_size of_size e) Nothing
  str_more e there = unless (wrong_str_in k of_size m) _ _ right ∙ ap (λ (o : Option Endpoint). cond (is_none o && nat_le 64 (count is_by_peer m)) (Stays Full) (Becomes (heard_size of_size (or_new o)) Nothing)) there

-- the own requests: what the tests of the pair give is what the act gives

module _ (k : Pair) (of_size room : ℕ) (full : Bool) (m : Ends) (ps : sends k ≡ true) (pz : (of_size == 0) ≡ false) (pr : is_room room ≡ true) where
  send_asked : may_ask_send k of_size room (count has_asked m) full (map.get m k) ≡ may_ask_in k full m
  send_asked = not_refused BadSex (not (sends k)) _ (ap not ps) ∙ not_refused BadSize (of_size == 0) _ pz ∙ not_refused BadRoom (not (is_room room)) _ (ap not pr)

  pub send_err : (f : CallFault) → may_ask_in k full m ≡ Err f → ask_send_in k of_size room full m ≡ Stays (Err f)
  send_err f h = stays_by _ f _ (send_asked ∙ h)

  pub send_ok : may_ask_in k full m ≡ Ok tt → ask_send_in k of_size room full m ≡ Becomes (asked_to_send of_size room (or_new (map.get m k))) (Ok (Str k.local k.remote of_size))
  send_ok h = acts_by _ _ (send_asked ∙ h)

module _ (k : Pair) (room : ℕ) (full : Bool) (m : Ends) (ps : receives k ≡ true) (pr : is_room room ≡ true) where
  receive_asked : may_ask_receive k room (count has_asked m) full (map.get m k) ≡ may_ask_in k full m
  receive_asked = not_refused BadSex (not (receives k)) _ (ap not ps) ∙ not_refused BadRoom (not (is_room room)) _ (ap not pr)

  pub receive_err : (f : CallFault) → may_ask_in k full m ≡ Err f → ask_receive_in k room full m ≡ Stays (Err f)
  receive_err f h = stays_by _ f _ (receive_asked ∙ h)

  pub receive_ok : may_ask_in k full m ≡ Ok tt → ask_receive_in k room full m ≡ Becomes (asked_to_receive (free_link m) room (or_new (map.get m k))) (Ok (Rts k.local k.remote (free_link m)))
  receive_ok h = acts_by _ _ (receive_asked ∙ h)

-- and whether a pair may ask, by its end, the table and the queue

pub may_err : (k : Pair) (full : Bool) (m : Ends) (f : CallFault) → end_to_ask (or_new (map.get m k)) ≡ Err f → may_ask_in k full m ≡ Err f
may_err k full m f h = first_err (end_to_ask (or_new (map.get m k))) f _ h

pub may_room : (k : Pair) (full : Bool) (m : Ends) → end_to_ask (or_new (map.get m k)) ≡ Ok tt → may_ask_in k full m ≡ (refuse TableFull (nat_le 64 (count has_asked m)) >> refuse QueueFull full)
may_room k full m h = first_ok (end_to_ask (or_new (map.get m k))) _ h

not_asked : (a b c : Bool) → (refuse AlreadyAsked (a && not (b || c)) >> refuse Closing (b || c)) ≡ Ok (tt {0}) → a ≡ false
not_asked true true c h = absurd (cc)
not_asked true false true h = absurd (cc)
not_asked true false false h = absurd (cc)
not_asked false b c h = refl

pub may_first : (e : Endpoint) → end_to_ask e ≡ Ok tt → e.asked ≡ false
may_first e h = not_asked e.asked e.leaving e.left h

pub not_zero : (n : ℕ) → (n ≡ 0 → ⊥) → (n == 0) ≡ false
not_zero n h = grind (arith, nat_tests)
