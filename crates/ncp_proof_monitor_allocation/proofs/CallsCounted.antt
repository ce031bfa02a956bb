-- The commands that a host makes for a connection by a call, and by the answer to one of its texts, as
-- words: they are right for the state before, and lead to the state after.
use Rattle.std.proofs.Common.{◌≡◌, ℕ, ◌+◌, ◌≤◌, Bool, true, false, not, ◌&&◌, ◌||◌, if◌then◌else◌, List, [], ◌∷◌, ◌++◌, Option, None, Some, is_some, Result, Ok, eq-eqb, refl, sym, ap, ◌∙◌, subst, arith}
use Rattle.std.specs.Prelude.{nat_le, drop, take}
use Rattle.std.specs.List.{filter}
use Rattle.std.proofs.lemmas.Bool.{and_parts}
use Rattle.ncp_wire.specs.declared.command.Command.{Command}
use Rattle.ncp_wire.specs.declared.command.Command.TheVariants.{Rts, Str, All, Gvb, Inr, Ins}
use Rattle.ncp_model.specs.declared.pair.Pair.{Pair}
use Rattle.ncp_model.specs.declared.call_fault.CallFault.{CallFault}
use Rattle.ncp_model.specs.declared.limits.TheConstants.{MAX_ROOM}
use Rattle.ncp_model.specs.Pairs.{sends, receives, is_proper, is_send, is_receive}
use Rattle.ncp_model.specs.Endpoint.{Endpoint, or_new, is_ended, is_closing}
use Rattle.ncp_model.specs.Effect.{Effect, Stays, Becomes, answer, end_after, leaves, closing, made_by_call, made_by_close, made_by_take, made_if_any}
use Rattle.ncp_model.specs.Calls.{asked_to_send, asked_to_receive, ask_send, ask_receive, may_ask_send, may_ask_receive, may_close, may_give, may_take, take_bits, may_allocate, may_call_back, may_interrupt, bits_to_take, emptied, is_too_much, interrupting}
use Rattle.ncp_model.specs.Texts.{Rfnm, Incomplete, Dead}
use Rattle.ncp_model.specs.EndpointEvents.{EndpointEvent, happens}
use Rattle.std.specs.FinMap.{get}
use Rattle.ncp_model.specs.Ends.{Ends}
use Rattle.ncp_proof_endpoint.specs.Sound.{SoundAt}
use Rattle.ncp_proof_endpoint.specs.Limits.{InLimitsAt}
use Rattle.ncp_monitor.specs.ConnStates.{SeenTables}
use Rattle.ncp_interface.specs.Sockets.{is_senders, is_number_given}
use Rattle.ncp_monitor.proofs.Shapes.{Shape, Ask, Leave, legal, own_step}
use Rattle.ncp_proof_monitor_allocation.proofs.Reasons.{either_way, send_asks, receive_asks, asks_going, close_is, take_is, allocate_is, call_back_is, interrupt_is}
use Rattle.ncp_proof_monitor_allocation.proofs.KeptEnds.{of_end, kept, may_ask, number_if}
use Rattle.ncp_proof_monitor_allocation.proofs.OwnMoves.{sockets_of, no_sender}
use Rattle.ncp_proof_monitor_allocation.proofs.Words.{Word, Speaks, Grants, Recalls, Hints, Count, link_given, is_open_on, is_within, names_at_rest, count_after, Agreed, IsCounted, IsUncounted, FitsEnd, Fits, Hidden, LinkHidden, has_link_of, asked_too, asked_there, NoneCounted}
use Rattle.ncp_proof_monitor_allocation.proofs.Changed.{OneEnd}
use Rattle.ncp_proof_monitor_allocation.proofs.TextErrors.{is_text_error, AllAdmitted}
use Rattle.ncp_proof_monitor_allocation.proofs.Counted.{is_worded, command_of, Worded, PairsAgree, Counted, counted_more}

-- the sex of a pair is that of its own socket
pub proper_sex : (pair : Pair) → is_proper pair ≡ true → sends pair ≡ is_senders pair.local
proper_sex pair p = grind arith

pub receiver_sex : (pair : Pair) → receives pair ≡ true → is_senders pair.local ≡ false
receiver_sex pair r = grind arith

abbrev pub HasSex : Pair → Option Endpoint → Type 0
HasSex pair before = is_some before ≡ true → sends pair ≡ is_senders pair.local

-- ---- an end that becomes another

-- with the same numbers, and on its way out if the other was
pub record SameNumbers (e now : Endpoint) : Type 0 where
  pub messages : now.messages ≡ e.messages
  pub bits : now.bits ≡ e.bits
  pub recall : now.recall ≡ e.recall
  pub link : now.link ≡ e.link
  pub asked : now.asked ≡ e.asked
  pub heard : now.heard ≡ e.heard
  pub going : is_closing now ≡ false → is_closing e ≡ false

pub fits_same : (sending : Bool) (links : ℕ → Bool) (e now : Endpoint) (x : Option Shape) (j : Count) → SameNumbers e now → Fits sending links (Some e) x j → Fits sending links (if is_ended now then None else Some now) x j
fits_same sending links e now x j s f = go (is_ended now)
  where
    go : (b : Bool) → Fits sending links (if b then None else Some now) x j
    go true d g n = absurd (cc g)
    go false d g n =
        let is : now ≡ d = cc g in
        let it = f e refl (s.going (ap is_closing is ∙ n)) in
        subst (λ (y : Endpoint). FitsEnd sending links y x j) is (record {
          given = λ l k r. let c = it.given l k r in record { messages = c.messages ∙ sym s.messages; bits = c.bits ∙ sym s.bits; recall = λ y z. c.recall y (sym s.recall ∙ z) };
          ungiven = λ k. let c = it.ungiven k in record { messages = s.messages ∙ c.messages; bits = s.bits ∙ c.bits; none = c.none };
        })

pub hidden_same : (sending : Bool) (links : ℕ → Bool) (e now : Endpoint) → SameNumbers e now → LinkHidden (Some e) sending links → LinkHidden (if is_ended now then None else Some now) sending links
hidden_same sending links e now s h = go (is_ended now)
  where
    linked : (b : Bool) → has_link_of b now ≡ has_link_of b e
    linked true = s.heard
    linked false = s.asked

    go : (b : Bool) → LinkHidden (if b then None else Some now) sending links
    go true d g n k = absurd (cc g)
    go false d g n k =
        let is : now ≡ d = cc g in
        ap (λ (y : Endpoint). links y.link) (sym is) ∙ ap links s.link ∙ h e refl (s.going (ap is_closing is ∙ n)) (sym (linked sending) ∙ ap (has_link_of sending) is ∙ k)

-- it is on its way out
pub fits_going : (sending : Bool) (links : ℕ → Bool) (now : Endpoint) (x : Option Shape) (j : Count) → is_closing now ≡ true → Fits sending links (if is_ended now then None else Some now) x j
fits_going sending links now x j g = go (is_ended now)
  where
    go : (b : Bool) → Fits sending links (if b then None else Some now) x j
    go true d k n = absurd (cc k)
    go false d k n = let is : now ≡ d = cc k in let nay : true ≡ false = sym g ∙ ap is_closing is ∙ n in absurd (cc nay)

pub hidden_going : (sending : Bool) (links : ℕ → Bool) (now : Endpoint) → is_closing now ≡ true → LinkHidden (if is_ended now then None else Some now) sending links
hidden_going sending links now g = go (is_ended now)
  where
    go : (b : Bool) → LinkHidden (if b then None else Some now) sending links
    go true d k n l = absurd (cc k)
    go false d k n l = let is : now ≡ d = cc k in let nay : true ≡ false = sym g ∙ ap is_closing is ∙ n in absurd (cc nay)

-- ---- nothing is said, or one word

pub unspoken : (pair : Pair) (before after : Option Endpoint) (made : List Command) → filter is_worded made ≡ []
    → ((links : ℕ → Bool) (x : Option Shape) (j : Count) → Fits (is_senders pair.local) links before x j → Fits (is_senders pair.local) links after x j)
    → ((links : ℕ → Bool) → LinkHidden before (is_senders pair.local) links → LinkHidden after (is_senders pair.local) links) → Worded pair before after made
unspoken pair before after made s f h = record { more = []; spelled = s; agreed = λ links x j k z g. f links x j g; hidden = λ links g. h links g }

pub stays_worded : (pair : Pair) (before : Option Endpoint) → Worded pair before before []
stays_worded pair before = unspoken pair before before [] refl (λ links x j f. f) (λ links h. h)

pub same_worded : (pair : Pair) (e now : Endpoint) → SameNumbers e now → Worded pair (Some e) (if is_ended now then None else Some now) []
same_worded pair e now s =
    unspoken pair (Some e) (if is_ended now then None else Some now) [] refl (λ links x j f. fits_same (is_senders pair.local) links e now x j s f) (λ links h. hidden_same (is_senders pair.local) links e now s h)

pub going_worded : (pair : Pair) (e now : Endpoint) → is_closing now ≡ true → Worded pair (Some e) (if is_ended now then None else Some now) []
going_worded pair e now g =
    unspoken pair (Some e) (if is_ended now then None else Some now) [] refl (λ links x j f. fits_going (is_senders pair.local) links now x j g) (λ links h. hidden_going (is_senders pair.local) links now g)

-- its CLS
pub leaves_worded : (pair : Pair) (e now : Endpoint) → e.left ≡ false → Worded pair (Some e) (if is_ended (leaves now) then None else Some (leaves now)) (closing pair ∷ [])
leaves_worded pair e now l = record {
  more = Speaks Leave ∷ [];
  spelled = refl;
  agreed = λ links x j k z f. (subst (λ (y : Option Shape). legal Leave y ≡ true) (sym k) (ap not l), (refl, fits_going (is_senders pair.local) links (leaves now) (own_step Leave x) (count_after (Speaks Leave) x j) refl));
  hidden = λ links h. hidden_going (is_senders pair.local) links (leaves now) refl;
}

-- ---- an open end is one on which its link is open

unleaving : (e : Endpoint) → is_closing e ≡ false → e.left ≡ false
unleaving e g = go e.leaving e.left g
  where
    go : (a b : Bool) → (a || b) ≡ false → b ≡ false
    go true b k = absurd (cc k)
    go false b k = k

pub open_end_on : (sending : Bool) (e : Endpoint) → is_closing e ≡ false → (e.asked && e.heard) ≡ true → is_open_on sending e.link (Some (of_end sending e)) ≡ true
open_end_on sending e g o =
    let parts = and_parts e.asked e.heard o in by sending e.asked e.heard e.left parts.0 parts.1 (unleaving e g)
  where
    by : (s a h l : Bool) → a ≡ true → h ≡ true → l ≡ false
        → (is_some (number_if a (if s then e.size else e.link)) && is_some (number_if h (if s then e.link else e.size)) && not l && is_number_given (if s then number_if h (if s then e.link else e.size) else number_if a (if s then e.size else e.link)) e.link) ≡ true
    by true true true false x y z = eq-eqb e.link e.link refl
    by false true true false x y z = eq-eqb e.link e.link refl
    by s false h l x y z = absurd (cc x)
    by s true false l x y z = absurd (cc y)
    by s true true true x y z = absurd (cc z)

pub open_end_given : (sending : Bool) (e : Endpoint) → (e.asked && e.heard) ≡ true → link_given sending (Some (of_end sending e)) ≡ Some e.link
open_end_given sending e o =
    let parts = and_parts e.asked e.heard o in by sending e.asked e.heard parts.0 parts.1
  where
    by : (s a h : Bool) → a ≡ true → h ≡ true → (if s then number_if h (if s then e.link else e.size) else number_if a (if s then e.size else e.link)) ≡ Some e.link
    by true true true x y = refl
    by false true true x y = refl
    by s false h x y = absurd (cc x)
    by s true false x y = absurd (cc y)

open_has_link : (sending : Bool) (e : Endpoint) → (e.asked && e.heard) ≡ true → has_link_of sending e ≡ true
open_has_link true e o = (and_parts e.asked e.heard o).1
open_has_link false e o = (and_parts e.asked e.heard o).0

-- ---- INS or INR
pub hints_worded : (pair : Pair) (e : Endpoint) → HasSex pair (Some e) → is_closing e ≡ false → (e.asked && e.heard) ≡ true → Worded pair (Some e) (if is_ended e then None else Some e) (interrupting pair e ∷ [])
hints_worded pair e sex g o = record {
  more = Hints e.link ∷ [];
  spelled = named (sends pair) (sex refl);
  agreed = λ links x j k z f. (opened x k, (free links, fits_same (is_senders pair.local) links e e x j itself f));
  hidden = λ links h. (h e refl g (open_has_link (is_senders pair.local) e o), hidden_same (is_senders pair.local) links e e itself h);
}
  where
    itself : SameNumbers e e
    itself = record { messages = refl; bits = refl; recall = refl; link = refl; asked = refl; heard = refl; going = λ k. k }

    named : (s : Bool) → s ≡ is_senders pair.local → filter is_worded ((if s then Ins e.link else Inr e.link) ∷ []) ≡ command_of (sockets_of pair, Hints e.link) ∷ []
    named true y = ap (λ (b : Bool). (if b then Ins e.link else Inr e.link) ∷ []) y
    named false y = ap (λ (b : Bool). (if b then Ins e.link else Inr e.link) ∷ []) y

    opened : (x : Option Shape) → x ≡ kept (sends pair) (Some e) → is_open_on (is_senders pair.local) e.link x ≡ true
    opened x k = subst (λ (y : Option Shape). is_open_on (is_senders pair.local) e.link y ≡ true) (sym (k ∙ ap (λ (b : Bool). kept b (Some e)) (sex refl))) (open_end_on (is_senders pair.local) e g o)

    free : (links : ℕ → Bool) → (links e.link || true) ≡ true
    free links = or_true (links e.link)
      where
        or_true : (b : Bool) → (b || true) ≡ true
        or_true true = refl
        or_true false = refl

-- ---- ALL, and GVB

module _ (pair : Pair) (e : Endpoint) (r : receives pair ≡ true) (g : is_closing e ≡ false) (o : (e.asked && e.heard) ≡ true) where
  no_senders : is_senders pair.local ≡ false
  no_senders = receiver_sex pair r

  kept_open : (x : Option Shape) → x ≡ kept (sends pair) (Some e) → (is_open_on false e.link x ≡ true) × (link_given false x ≡ Some e.link)
  kept_open x k =
      let is : x ≡ Some (of_end false e) = k ∙ ap (λ (b : Bool). kept b (Some e)) (no_sender pair r) in (
        subst (λ (y : Option Shape). is_open_on false e.link y ≡ true) (sym is) (open_end_on false e g o),
        subst (λ (y : Option Shape). link_given false y ≡ Some e.link) (sym is) (open_end_given false e o),
      )

  -- the numbers are within the counts, or the link is suspended
  known : (links : ℕ → Bool) (x : Option Shape) (j : Count) (w : Word) → names_at_rest links w ≡ links e.link → link_given false x ≡ Some e.link → Fits false links (Some e) x j → (IsCounted false e j → is_within w j ≡ true)
      → (names_at_rest links w || is_within w j) ≡ true
  known links x j w n k f within = ap (λ (b : Bool). b || is_within w j) n ∙ go (links e.link) refl
    where
      go : (b : Bool) → links e.link ≡ b → (b || is_within w j) ≡ true
      go true y = refl
      go false y = within ((f e refl g).given e.link k y)

  -- with other numbers
  counted_then : (links : ℕ → Bool) (now : Endpoint) (x : Option Shape) (j sum : Count) → link_given false x ≡ Some e.link → (IsCounted false e j → IsCounted false now sum) → Fits false links (Some e) x j → Fits false links (if is_ended now then None else Some now) x sum
  counted_then links now x j sum k c f = go (is_ended now)
    where
      go : (b : Bool) → Fits false links (if b then None else Some now) x sum
      go true d y n = absurd (cc y)
      go false d y n =
          let is : now ≡ d = cc y in
          subst (λ (v : Endpoint). FitsEnd false links v x sum) is (record {
            given = λ l h z. c ((f e refl g).given l h z);
            ungiven = λ h. let nay : Some e.link ≡ None = sym k ∙ h in absurd (cc nay);
          })

  hidden_then : (links : ℕ → Bool) (now : Endpoint) → now.link ≡ e.link → LinkHidden (Some e) false links → (links e.link ≡ true) × LinkHidden (if is_ended now then None else Some now) false links
  hidden_then links now l h = (there, go (is_ended now))
    where
      there : links e.link ≡ true
      there = h e refl g (and_parts e.asked e.heard o).0

      go : (b : Bool) → LinkHidden (if b then None else Some now) false links
      go true d y n k = absurd (cc y)
      go false d y n k = let is : now ≡ d = cc y in ap (λ (v : Endpoint). links v.link) (sym is) ∙ ap links l ∙ there

  pub grants_worded : (messages bits : ℕ) → e.room ≤ MAX_ROOM → is_too_much messages bits e ≡ false
      → Worded pair (Some e) (if is_ended (record e { messages = e.messages + messages; bits = e.bits + bits }) then None else Some (record e { messages = e.messages + messages; bits = e.bits + bits })) (All e.link messages bits ∷ [])
  grants_worded messages bits room little = record {
    more = Grants e.link messages bits ∷ [];
    spelled = refl;
    agreed = λ links x j k z f. subst (λ (s : Bool). Fits s links (Some e) x j → Agreed s links (Fits s links (if is_ended now then None else Some now)) (Grants e.link messages bits ∷ []) x j) (sym no_senders)
        (λ y. ((kept_open x k).0, (known links x j (Grants e.link messages bits) refl (kept_open x k).1 y (within j), counted_then links now x j (granted j) (kept_open x k).1 (counted j) y))) f;
    hidden = λ links h. subst (λ (s : Bool). LinkHidden (Some e) s links → Hidden s links (LinkHidden (if is_ended now then None else Some now) s) (Grants e.link messages bits ∷ [])) (sym no_senders) (λ y. hidden_then links now refl y) h;
  }
    where
      now : Endpoint
      now = record e { messages = e.messages + messages; bits = e.bits + bits }

      granted : Count → Count
      granted j = record j { messages = j.messages + messages; bits = j.bits + bits }

      counted : (j : Count) → IsCounted false e j → IsCounted false now (granted j)
      counted j c = record { messages = ap (λ (n : ℕ). n + messages) c.messages; bits = ap (λ (n : ℕ). n + bits) c.bits; recall = c.recall }

      fewer : (nat_le (e.messages + messages) 65535 && nat_le (e.bits + bits) 65536) ≡ true
      fewer = grind arith

      within : (j : Count) → IsCounted false e j → (nat_le (j.messages + messages) 65535 && nat_le (j.bits + bits) 65536) ≡ true
      within j c = ap (λ (n : ℕ). nat_le (n + messages) 65535 && nat_le (j.bits + bits) 65536) c.messages ∙ ap (λ (n : ℕ). nat_le (e.messages + messages) 65535 && nat_le (n + bits) 65536) c.bits ∙ fewer

  pub recalls_worded : (of_messages of_bits : ℕ) → e.recall ≡ false
      → Worded pair (Some e) (if is_ended (record e { recall = true }) then None else Some (record e { recall = true })) (Gvb e.link of_messages of_bits ∷ [])
  recalls_worded of_messages of_bits none = record {
    more = Recalls e.link of_messages of_bits ∷ [];
    spelled = refl;
    agreed = λ links x j k z f. subst (λ (s : Bool). Fits s links (Some e) x j → Agreed s links (Fits s links (if is_ended now then None else Some now)) (Recalls e.link of_messages of_bits ∷ []) x j) (sym no_senders)
        (λ y. ((kept_open x k).0, (known links x j (Recalls e.link of_messages of_bits) refl (kept_open x k).1 y (λ c. ap not (c.recall refl none)), counted_then links now x j (record j { recall = true }) (kept_open x k).1 (counted j) y))) f;
    hidden = λ links h. subst (λ (s : Bool). LinkHidden (Some e) s links → Hidden s links (LinkHidden (if is_ended now then None else Some now) s) (Recalls e.link of_messages of_bits ∷ [])) (sym no_senders) (λ y. hidden_then links now refl y) h;
  }
    where
      now : Endpoint
      now = record e { recall = true }

      counted : (j : Count) → IsCounted false e j → IsCounted false now (record j { recall = true })
      counted j c = record { messages = c.messages; bits = c.bits; recall = λ y z. absurd (cc z) }

-- ---- requests

-- a size: the link is the other's
pub sends_worded : (pair : Pair) (of_size room : ℕ) (before : Option Endpoint) → sends pair ≡ true → is_closing (or_new before) ≡ false → legal (Ask of_size) (kept true before) ≡ true
    → Worded pair before (if is_ended (asked_to_send of_size room (or_new before)) then None else Some (asked_to_send of_size room (or_new before))) (Str pair.local pair.remote of_size ∷ [])
sends_worded pair of_size room before s g l = record {
  more = Speaks (Ask of_size) ∷ [];
  spelled = ap (λ (b : Bool). (if b then Str pair.local pair.remote of_size else Rts pair.local pair.remote of_size) ∷ []) (sym sender);
  agreed = λ links x j k z f. (
    subst (λ (y : Option Shape). legal (Ask of_size) y ≡ true) (sym (k ∙ ap (λ (b : Bool). kept b before) s)) l,
    (
      refl,
      subst (λ (b : Bool). Fits b links before x j → Fits b links (if is_ended now then None else Some now) (own_step (Ask of_size) x) j) (sym sender) (λ y. fits_now before refl links x j (k ∙ ap (λ (b : Bool). kept b before) s) z y) f,
    ),
  );
  hidden = λ links h. subst (λ (b : Bool). LinkHidden before b links → LinkHidden (if is_ended now then None else Some now) b (asked_too b of_size links)) (sym sender) (λ y. hidden_now before refl links y) h;
}
  where
    now : Endpoint
    now = asked_to_send of_size room (or_new before)

    sender : is_senders pair.local ≡ true
    sender = (and_parts (is_send pair.local) (is_receive pair.remote) s).0

    -- it is there, and as the one before
    lasts : {A : Type 0} (d : Endpoint) → (if is_ended now then None else Some now) ≡ Some d → (now ≡ d → A) → A
    lasts {A} d y f = go (is_ended now) y
      where
        go : (b : Bool) → (if b then None else Some now) ≡ Some d → A
        go true y = absurd (cc y)
        go false y = f (cc y)

    fits_now : (o : Option Endpoint) → o ≡ before → (links : ℕ → Bool) (x : Option Shape) (j : Count) → x ≡ kept true before → NoneCounted x j → Fits true links before x j → Fits true links (if is_ended now then None else Some now) (own_step (Ask of_size) x) j
    fits_now None b links x j k z f d y n = lasts d y (λ is. subst (λ (v : Endpoint). FitsEnd true links v (own_step (Ask of_size) x) j) is (record {
      given = λ q h r. absurd (nay (sym (ap (λ (w : Option Shape). link_given true (own_step (Ask of_size) w)) none) ∙ h));
      ungiven = λ h. record { messages = ap (λ (w : Option Endpoint). (or_new w).messages) (sym b); bits = ap (λ (w : Option Endpoint). (or_new w).bits) (sym b); none = z none };
    }))
      where
        none : x ≡ None
        none = k ∙ ap (kept true) (sym b)

        nay : {q : ℕ} → None ≡ Some q → ⊥
        nay e = cc e
    fits_now (Some e) b links x j k z f d y n = lasts d y (λ is. subst (λ (v : Endpoint). FitsEnd true links v (own_step (Ask of_size) x) j) is (record {
      given = λ q h r. let c = it.given q (sym given ∙ h) r in record {
        messages = c.messages ∙ ap (λ (w : Option Endpoint). (or_new w).messages) b;
        bits = c.bits ∙ ap (λ (w : Option Endpoint). (or_new w).bits) b;
        recall = λ v w. absurd (cc v);
      };
      ungiven = λ h. let c = it.ungiven (sym given ∙ h) in record {
        messages = ap (λ (w : Option Endpoint). (or_new w).messages) (sym b) ∙ c.messages;
        bits = ap (λ (w : Option Endpoint). (or_new w).bits) (sym b) ∙ c.bits;
        none = c.none;
      };
    }))
      where
        is_there : x ≡ Some (of_end true e)
        is_there = k ∙ ap (kept true) (sym b)

        given : link_given true (own_step (Ask of_size) x) ≡ link_given true x
        given = ap (λ (w : Option Shape). link_given true (own_step (Ask of_size) w)) is_there ∙ sym (ap (link_given true) is_there)

        it : FitsEnd true links e x j
        it = f e (sym b) (ap (λ (w : Option Endpoint). is_closing (or_new w)) b ∙ g)

    hidden_now : (o : Option Endpoint) → o ≡ before → (links : ℕ → Bool) → LinkHidden before true links → LinkHidden (if is_ended now then None else Some now) true (asked_too true of_size links)
    hidden_now None b links h d y n k = lasts d y (λ is. let nay : false ≡ true = ap (λ (w : Option Endpoint). (or_new w).heard) b ∙ ap (λ (v : Endpoint). v.heard) is ∙ k in absurd (cc nay))
    hidden_now (Some e) b links h d y n k = lasts d y (λ is.
        ap (λ (v : Endpoint). links v.link) (sym is) ∙ ap (λ (w : Option Endpoint). links (or_new w).link) (sym b)
        ∙ h e (sym b) (ap (λ (w : Option Endpoint). is_closing (or_new w)) b ∙ g) (ap (λ (w : Option Endpoint). (or_new w).heard) b ∙ ap (λ (v : Endpoint). v.heard) is ∙ k))

-- a link of its own
pub receives_worded : (pair : Pair) (on room : ℕ) (before : Option Endpoint) → receives pair ≡ true → is_closing (or_new before) ≡ false → legal (Ask on) (kept false before) ≡ true
    → Worded pair before (if is_ended (asked_to_receive on room (or_new before)) then None else Some (asked_to_receive on room (or_new before))) (Rts pair.local pair.remote on ∷ [])
receives_worded pair on room before r g l = record {
  more = Speaks (Ask on) ∷ [];
  spelled = ap (λ (b : Bool). (if b then Str pair.local pair.remote on else Rts pair.local pair.remote on) ∷ []) (sym receiver);
  agreed = λ links x j k z f. (
    subst (λ (y : Option Shape). legal (Ask on) y ≡ true) (sym (k ∙ ap (λ (b : Bool). kept b before) (no_sender pair r))) l,
    (
      refl,
      subst (λ (b : Bool). Fits b links before x j → Fits b links (if is_ended now then None else Some now) (own_step (Ask on) x) j) (sym receiver) (λ y. fits_now before refl links x j (k ∙ ap (λ (b : Bool). kept b before) (no_sender pair r)) z y) f,
    ),
  );
  hidden = λ links h. subst (λ (b : Bool). LinkHidden (if is_ended now then None else Some now) b (asked_too b on links)) (sym receiver) (hidden_now links);
}
  where
    now : Endpoint
    now = asked_to_receive on room (or_new before)

    receiver : is_senders pair.local ≡ false
    receiver = receiver_sex pair r

    lasts : {A : Type 0} (d : Endpoint) → (if is_ended now then None else Some now) ≡ Some d → (now ≡ d → A) → A
    lasts {A} d y f = go (is_ended now) y
      where
        go : (b : Bool) → (if b then None else Some now) ≡ Some d → A
        go true y = absurd (cc y)
        go false y = f (cc y)

    asked_link : (x : Option Shape) → link_given false (own_step (Ask on) x) ≡ Some on
    asked_link None = refl
    asked_link (Some s) = refl

    -- nothing was counted
    zeros : (o : Option Endpoint) → o ≡ before → (links : ℕ → Bool) (x : Option Shape) (j : Count) → x ≡ kept false before → NoneCounted x j → Fits false links before x j → IsUncounted now j
    zeros None b links x j k z f = record { messages = ap (λ (w : Option Endpoint). (or_new w).messages) (sym b); bits = ap (λ (w : Option Endpoint). (or_new w).bits) (sym b); none = z (k ∙ ap (kept false) (sym b)) }
    zeros (Some e) b links x j k z f =
        let c = (f e (sym b) (ap (λ (w : Option Endpoint). is_closing (or_new w)) b ∙ g)).ungiven (ungiven e.asked (ap (λ (w : Option Endpoint). legal (Ask on) (kept false w)) b ∙ l)) in record {
          messages = ap (λ (w : Option Endpoint). (or_new w).messages) (sym b) ∙ c.messages;
          bits = ap (λ (w : Option Endpoint). (or_new w).bits) (sym b) ∙ c.bits;
          none = c.none;
        }
      where
        is_there : x ≡ Some (of_end false e)
        is_there = k ∙ ap (kept false) (sym b)

        ungiven : (a : Bool) → legal (Ask on) (Some (of_end false e)) ≡ true → link_given false x ≡ None
        ungiven a t = ap (link_given false) is_there ∙ by (number_if e.asked e.link) (and_parts (not (is_some (number_if e.asked e.link))) (not e.left) t).0
          where
            by : (o : Option ℕ) → not (is_some o) ≡ true → o ≡ None
            by None t = refl
            by (Some q) t = absurd (cc t)

    fits_now : (o : Option Endpoint) → o ≡ before → (links : ℕ → Bool) (x : Option Shape) (j : Count) → x ≡ kept false before → NoneCounted x j → Fits false links before x j → Fits false links (if is_ended now then None else Some now) (own_step (Ask on) x) j
    fits_now o b links x j k z f d y n = lasts d y (λ is. subst (λ (v : Endpoint). FitsEnd false links v (own_step (Ask on) x) j) is (record {
      given = λ q h r. let c = zeros o b links x j k z f in record {
        messages = ap (λ (w : Count). w.messages) c.none ∙ sym c.messages;
        bits = ap (λ (w : Count). w.bits) c.none ∙ sym c.bits;
        recall = λ v w. ap (λ (u : Count). u.recall) c.none;
      };
      ungiven = λ h. let nay : Some on ≡ None = sym (asked_link x) ∙ h in absurd (cc nay);
    }))

    hidden_now : (links : ℕ → Bool) → LinkHidden (if is_ended now then None else Some now) false (asked_too false on links)
    hidden_now links d y n k = lasts d y (λ is. ap (λ (v : Endpoint). asked_too false on links v.link) (sym is) ∙ asked_there on links)

-- ---- each call, and the answer to a text

abbrev pub WordedBy : {A : Type 0} → Pair → Option Endpoint → (A → List Command) → Effect A → Type 0
WordedBy pair before made_by act = Worded pair before (end_after before act) (made_by (answer act))

-- it is none that names a link and comes, and no text
abbrev pub is_call : EndpointEvent → Bool
is_call (EndpointEvent.Asks_to_send of_size room own full) = true
is_call (EndpointEvent.Asks_to_receive room on own full) = true
is_call (EndpointEvent.Closes full) = true
is_call (EndpointEvent.Gives text) = true
is_call (EndpointEvent.Takes bytes) = true
is_call (EndpointEvent.Allocates messages bits full) = true
is_call (EndpointEvent.Calls_back messages bits full) = true
is_call (EndpointEvent.Interrupts full) = true
is_call (EndpointEvent.Is_answered how) = true
is_call what = false

-- a store is never larger than this
abbrev pub HasRoom : Option Endpoint → Type 0
HasRoom None = Unit {0}
HasRoom (Some e) = e.room ≤ MAX_ROOM

worded_send : (pair : Pair) (of_size room own : ℕ) (full : Bool) (before : Option Endpoint) → WordedBy pair before made_by_call (ask_send pair of_size room own full before)
worded_send pair of_size room own full before =
    either_way (WordedBy pair before made_by_call) (may_ask_send pair of_size room own full before) (Becomes (asked_to_send of_size room (or_new before)) (Ok (Str pair.local pair.remote of_size))) (λ fault. stays_worded pair before)
    (λ p. let it = send_asks own full before pair of_size room p in sends_worded pair of_size room before it.0 (asks_going (or_new before) it.1) (may_ask true of_size before it.1))

worded_receive : (pair : Pair) (room on own : ℕ) (full : Bool) (before : Option Endpoint) → WordedBy pair before made_by_call (ask_receive pair room on own full before)
worded_receive pair room on own full before =
    either_way (WordedBy pair before made_by_call) (may_ask_receive pair room own full before) (Becomes (asked_to_receive on room (or_new before)) (Ok (Rts pair.local pair.remote on))) (λ fault. stays_worded pair before)
    (λ p. let it = receive_asks own full before pair room p in receives_worded pair on room before it.0 (asks_going (or_new before) it.1) (may_ask false on before it.1))

module _ (pair : Pair) (e : Endpoint) where
  worded_close : (full : Bool) → Worded pair (Some e) (happens pair (EndpointEvent.Closes full) (Some e)).after (happens pair (EndpointEvent.Closes full) (Some e)).made
  worded_close full =
      either_way (WordedBy pair (Some e) made_by_close) (may_close pair full e) (if sends pair && e.busy then Becomes (record e { leaving = true; stored = [] }) (Ok None) else Becomes (leaves e) (Ok (Some (closing pair)))) (λ fault. stays_worded pair (Some e))
      (λ p. go (sends pair && e.busy) (close_is e pair full p))
    where
      go : (b : Bool) → e.left ≡ false → WordedBy {A = Result (Option Command) CallFault} pair (Some e) made_by_close (if b then Becomes (record e { leaving = true; stored = [] }) (Ok None) else Becomes (leaves e) (Ok (Some (closing pair))))
      go true k = going_worded pair e (record e { leaving = true; stored = [] }) refl
      go false k = leaves_worded pair e e k

  same_but_stored : (stored : List Bool) → SameNumbers e (record e { stored = stored })
  same_but_stored stored = record { messages = refl; bits = refl; recall = refl; link = refl; asked = refl; heard = refl; going = λ k. k }

  worded_give : (text : List Bool) → Worded pair (Some e) (happens pair (EndpointEvent.Gives text) (Some e)).after (happens pair (EndpointEvent.Gives text) (Some e)).made
  worded_give text = either_way (WordedBy pair (Some e) (λ _. [])) (may_give pair text e) (Becomes (record e { stored = e.stored ++ text }) done) (λ fault. stays_worded pair (Some e)) (λ p. same_worded pair e (record e { stored = e.stored ++ text }) (same_but_stored (e.stored ++ text)))
    where
      done : Result (Unit {0}) CallFault
      done = Ok tt

  worded_take : (bytes : ℕ) → Worded pair (Some e) (happens pair (EndpointEvent.Takes bytes) (Some e)).after (happens pair (EndpointEvent.Takes bytes) (Some e)).made
  worded_take bytes = either_way (WordedBy pair (Some e) made_by_take) (may_take pair e) (take_bits pair count e) (λ fault. stays_worded pair (Some e)) (λ p. go (e.leaving && emptied e count) (take_is e pair p))
    where
      count : ℕ
      count = bits_to_take bytes e

      now : Endpoint
      now = record e { stored = drop count e.stored }

      go : (d : Bool) → e.left ≡ false
          → WordedBy {A = Result (List Bool × Option Command) CallFault} pair (Some e) made_by_take (if d then Becomes (leaves e) (Ok (take count e.stored, Some (closing pair))) else Becomes now (Ok (take count e.stored, None)))
      go true k = leaves_worded pair e e k
      go false k = same_worded pair e now (same_but_stored (drop count e.stored))

  worded_allocate : (messages bits : ℕ) (full : Bool) → e.room ≤ MAX_ROOM → Worded pair (Some e) (happens pair (EndpointEvent.Allocates messages bits full) (Some e)).after (happens pair (EndpointEvent.Allocates messages bits full) (Some e)).made
  worded_allocate messages bits full room =
      either_way (WordedBy pair (Some e) made_by_call) (may_allocate pair messages bits full e) (Becomes (record e { messages = e.messages + messages; bits = e.bits + bits }) (Ok (All e.link messages bits))) (λ fault. stays_worded pair (Some e))
      (λ p. let it = allocate_is e pair messages bits full p in grants_worded pair e it.2 it.0 it.1 messages bits room it.3)

  worded_call_back : (messages bits : ℕ) (full : Bool) → Worded pair (Some e) (happens pair (EndpointEvent.Calls_back messages bits full) (Some e)).after (happens pair (EndpointEvent.Calls_back messages bits full) (Some e)).made
  worded_call_back messages bits full =
      either_way (WordedBy pair (Some e) made_by_call) (may_call_back pair full e) (Becomes (record e { recall = true }) (Ok (Gvb e.link messages bits))) (λ fault. stays_worded pair (Some e))
      (λ p. let it = call_back_is e pair full p in recalls_worded pair e it.2 it.0 it.1 messages bits it.3)

  worded_interrupt : (full : Bool) → HasSex pair (Some e) → Worded pair (Some e) (happens pair (EndpointEvent.Interrupts full) (Some e)).after (happens pair (EndpointEvent.Interrupts full) (Some e)).made
  worded_interrupt full sex =
      either_way (WordedBy pair (Some e) made_by_call) (may_interrupt full e) (Becomes e (Ok (interrupting pair e))) (λ fault. stays_worded pair (Some e)) (λ p. let it = interrupt_is e full p in hints_worded pair e sex it.0 it.1)

  -- an RFNM
  worded_taken : (e.leaving ≡ true → e.left ≡ false) → Worded pair (Some e) (happens pair (EndpointEvent.Is_answered Rfnm) (Some e)).after (happens pair (EndpointEvent.Is_answered Rfnm) (Some e)).made
  worded_taken unleft = go (sends pair) e.leaving refl
    where
      go : (s g : Bool) → e.leaving ≡ g
          → WordedBy pair (Some e) made_if_any (if not s then Stays None else if g then Becomes (leaves (record e { busy = false })) (Some (closing pair)) else Becomes (record e { busy = false }) None)
      go false g k = stays_worded pair (Some e)
      go true true k = leaves_worded pair e (record e { busy = false }) (unleft k)
      go true false k = same_worded pair e (record e { busy = false }) (record { messages = refl; bits = refl; recall = refl; link = refl; asked = refl; heard = refl; going = λ z. z })

not_left : (pair : Pair) (e : Endpoint) → SoundAt pair (Some e) → e.leaving ≡ true → e.left ≡ false
not_left pair e s l = go e.left refl
  where
    go : (b : Bool) → e.left ≡ b → e.left ≡ false
    go true k = let nay : true ≡ false = sym l ∙ s.due k in absurd (cc nay)
    go false k = k

pub worded : (pair : Pair) (what : EndpointEvent) (before : Option Endpoint) → is_call what ≡ true → SoundAt pair before → HasSex pair before → HasRoom before → Worded pair before (happens pair what before).after (happens pair what before).made
worded pair (EndpointEvent.Asks_to_send of_size room own full) before h sound sex has_room = worded_send pair of_size room own full before
worded pair (EndpointEvent.Asks_to_receive room on own full) before h sound sex has_room = worded_receive pair room on own full before
worded pair (EndpointEvent.Closes full) None h sound sex has_room = stays_worded pair None
worded pair (EndpointEvent.Closes full) (Some e) h sound sex has_room = worded_close pair e full
worded pair (EndpointEvent.Gives text) None h sound sex has_room = stays_worded pair None
worded pair (EndpointEvent.Gives text) (Some e) h sound sex has_room = worded_give pair e text
worded pair (EndpointEvent.Takes bytes) None h sound sex has_room = stays_worded pair None
worded pair (EndpointEvent.Takes bytes) (Some e) h sound sex has_room = worded_take pair e bytes
worded pair (EndpointEvent.Allocates messages bits full) None h sound sex has_room = stays_worded pair None
worded pair (EndpointEvent.Allocates messages bits full) (Some e) h sound sex has_room = worded_allocate pair e messages bits full has_room
worded pair (EndpointEvent.Calls_back messages bits full) None h sound sex has_room = stays_worded pair None
worded pair (EndpointEvent.Calls_back messages bits full) (Some e) h sound sex has_room = worded_call_back pair e messages bits full
worded pair (EndpointEvent.Interrupts full) None h sound sex has_room = stays_worded pair None
worded pair (EndpointEvent.Interrupts full) (Some e) h sound sex has_room = worded_interrupt pair e full sex
worded pair (EndpointEvent.Is_answered Rfnm) None h sound sex has_room = stays_worded pair None
worded pair (EndpointEvent.Is_answered Rfnm) (Some e) h sound sex has_room = worded_taken pair e (not_left pair e sound)
worded pair (EndpointEvent.Is_answered Incomplete) before h sound sex has_room = stays_worded pair before
worded pair (EndpointEvent.Is_answered Dead) before h sound sex has_room = stays_worded pair before
worded pair what before h sound sex has_room = absurd (cc h)

-- ---- none of what a call makes is about a text

abbrev pub has_text_error : List Command → Bool
has_text_error [] = false
has_text_error (c ∷ cs) = is_text_error c || has_text_error cs

pub admitted_none : (me n : ℕ) (cs : List Command) (b : SeenTables) → has_text_error cs ≡ false → AllAdmitted me n cs b
admitted_none me n [] b e = tt
admitted_none me n (c ∷ cs) b e = ((λ k. let nay : true ≡ false = sym (ap (λ (x : Bool). x || has_text_error cs) k) ∙ e in absurd (cc nay)), admitted_none me n cs b (rest (is_text_error c) e))
  where
    rest : (x : Bool) → (x || has_text_error cs) ≡ false → has_text_error cs ≡ false
    rest true e = absurd (cc e)
    rest false e = e

none_erred : (pair : Pair) (what : EndpointEvent) (before : Option Endpoint) → is_call what ≡ true → has_text_error (happens pair what before).made ≡ false
none_erred pair (EndpointEvent.Asks_to_send of_size with_room own full) before h = grind arith
none_erred pair (EndpointEvent.Asks_to_receive with_room on own full) before h = grind arith
none_erred pair (EndpointEvent.Closes full) None h = refl
none_erred pair (EndpointEvent.Closes full) (Some e) h = grind arith
none_erred pair (EndpointEvent.Gives text) before h = refl
none_erred pair (EndpointEvent.Takes bytes) None h = refl
none_erred pair (EndpointEvent.Takes bytes) (Some e) h = grind arith
none_erred pair (EndpointEvent.Allocates m b full) None h = refl
none_erred pair (EndpointEvent.Allocates m b full) (Some e) h = grind arith
none_erred pair (EndpointEvent.Calls_back m b full) None h = refl
none_erred pair (EndpointEvent.Calls_back m b full) (Some e) h = grind arith
none_erred pair (EndpointEvent.Interrupts full) None h = refl
none_erred pair (EndpointEvent.Interrupts full) (Some e) h = grind arith
none_erred pair (EndpointEvent.Is_answered Rfnm) None h = refl
none_erred pair (EndpointEvent.Is_answered Rfnm) (Some e) h = grind arith
none_erred pair (EndpointEvent.Is_answered Incomplete) before h = refl
none_erred pair (EndpointEvent.Is_answered Dead) before h = refl
none_erred pair what before h = absurd (cc h)

limits_room : (pair : Pair) (before : Option Endpoint) → InLimitsAt pair before → HasRoom before
limits_room pair None l = tt
limits_room pair (Some e) l = l.room

-- a call, or an answer to a text
pub counted_call : (me n : ℕ) (m now : Ends) (pair : Pair) (what : EndpointEvent) (w : List Command) (b : SeenTables) → is_call what ≡ true → SoundAt pair (get m pair) → InLimitsAt pair (get m pair)
    → (is_some (get m pair) ≡ true → is_proper pair ≡ true) → OneEnd m now pair (happens pair what (get m pair)).after → PairsAgree me n m w b → Counted me n m w b
    → Counted me n now (w ++ (happens pair what (get m pair)).made) b
counted_call me n m now pair what w b h sound limits proper one pairs c =
    counted_more me n m now pair (happens pair what (get m pair)).after (happens pair what (get m pair)).made w b one
    (worded pair what (get m pair) h sound (λ k. proper_sex pair (proper k)) (limits_room pair (get m pair) limits))
    (admitted_none me n (happens pair what (get m pair)).made b (none_erred pair what (get m pair) h)) pairs c
