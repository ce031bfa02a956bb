-- What an umpire that reads the records of both interfaces knows of the messages from one host to the other.
use Rattle.std.proofs.Common.{◌≡◌, ◌≢◌, ◌⊎◌, inl, inr, ℕ, ◌<◌, ◌==◌, Bool, true, false, not, ◌&&◌, ◌||◌, if◌then◌else◌, List, [], ◌++◌, length, Option, None, Some, option_map, option_to_list, filter, get_or-set_same, get_or-set_other, length-set, Result, Ok, Err, refl, sym, ap, ◌∙◌, subst, arith}
use Rattle.std.proofs.lemmas.Bool.{and_parts}
use Rattle.std.proofs.lemmas.Bool.Decides.{eqb_tells}
use Rattle.ncp_leader.specs.declared.fault.MessageFault.{MessageFault}
use Rattle.ncp_leader.specs.Message.{Message}
use Rattle.ncp_subnet.specs.declared.transit.Transit.TheVariants.{Free, Accepted, Delivered}
use Rattle.ncp_subnet.specs.Transit.{is_free, answer_kind}
use Rattle.ncp_subnet.specs.Ways.{OnLink}
use Rattle.ncp_monitor.specs.declared.finding.Finding.{Finding}
use Rattle.ncp_monitor.specs.declared.finding.Rule.{Rule}
use Rattle.ncp_monitor.specs.declared.finding.Unsent.{Unsent}
use Rattle.ncp_interface.specs.declared.sent_message.SentMessage.{SentMessage}
use Rattle.ncp_monitor.specs.declared.monitor.Monitor.{Monitor}
use Rattle.ncp_monitor.specs.declared.view.View.{View}
use Rattle.ncp_monitor.specs.declared.views.TheConstants.{VIEWS}
use Rattle.ncp_interface.specs.Slots.{is_of, same_but_host, position_of, gone_out, has_room, with_out, busy_link, with_answer}
use Rattle.ncp_monitor.specs.Tables.{view_in, with_view}
use Rattle.ncp_interface.specs.Contents.{message_class}
use Rattle.ncp_monitor.specs.Judged.{by_imp, has_seen, view_of, knows_zero, slot_of_link, same_of, view_after_out, monitor_after_out, sees_both, is_crowded, false_rule, false_finding, stray_finding, answer_findings, monitor_after_answer, judges_coming, unsent_at, unsent_finding, with_coming, after_in, turn_at, after_read, after_said, sees}
use Rattle.ncp_proof_monitor.proofs.KeptOne.{Apart}
use Rattle.ncp_proof_monitor.proofs.PhaseSeen.{view_length}
use Rattle.ncp_proof_monitor.proofs.Shown.{after_answering, after_coming}
use Rattle.ncp_proof_monitor.proofs.Others.{has_room_for_one, put_distinct}
use Rattle.ncp_proof_monitor.proofs.Linked.{keys_distinct}
use Rattle.ncp_proof_monitor_messages.proofs.Tells.{Tells, not_out, after_going, coming, answered}
use Rattle.ncp_proof_monitor_messages.proofs.Network.{read_stays, network_set}

-- the file does not begin in the middle
pub record Sound (monitor : Monitor) : Type 0 where
  pub part : monitor.part ≡ false
  pub seen_long : length monitor.seen ≡ 256
  pub long : length monitor.views ≡ VIEWS

-- of the messages from one host to another, where the subnet has this for each link
pub record OneWay (from to : ℕ) (t : ℕ → OnLink) (monitor : Monitor) : Type 0 where
  pub clear : is_crowded monitor from to ≡ false
  pub seen : (on : ℕ) → is_free (t on) ≡ false → has_seen monitor from ≡ true
  pub tells : monitor.full ≡ false → (on : ℕ) → Tells (t on) (filter (is_of from to on) monitor.kept)

-- the subnet has something else for one link
abbrev pub But : ℕ → OnLink → (ℕ → OnLink) → (ℕ → OnLink) → Type 0
But on now t after = (after on ≡ now) × ((k : ℕ) → k ≢ on → after k ≡ t k)

-- ---- one link, and all others

abbrev AllTell : ℕ → ℕ → (ℕ → OnLink) → List SentMessage → Type 0
AllTell from to t kept = (k : ℕ) → Tells (t k) (filter (is_of from to k) kept)

one_reported : (from to on : ℕ) (now : OnLink) (t after : ℕ → OnLink) (kept then_kept : List SentMessage) → But on now t after → ((q : SentMessage → Bool) → Apart (is_of from to on) q → filter q then_kept ≡ filter q kept)
    → Tells now (filter (is_of from to on) then_kept) → AllTell from to t kept → AllTell from to after then_kept
one_reported from to on now t after kept then_kept b others own all k = go (eqb_tells k on)
  where
    go : (((k == on) ≡ true) × (k ≡ on)) ⊎ (((k == on) ≡ false) × (k ≢ on)) → Tells (after k) (filter (is_of from to k) then_kept)
    go (inl same) = subst (λ (j : ℕ). Tells (after j) (filter (is_of from to j) then_kept)) (sym same.1) (subst (λ (x : OnLink). Tells x (filter (is_of from to on) then_kept)) (sym b.0) own)
    go (inr other) =
        subst (λ (x : OnLink). Tells x (filter (is_of from to k) then_kept)) (sym (b.1 k other.1))
        (subst (Tells (t k)) (sym (others (is_of from to k) (keys_distinct from to on from to k (λ is. other.1 (sym is.2))))) (all k))

far_reported : (from to on g u : ℕ) (t : ℕ → OnLink) (kept then_kept : List SentMessage) → from ≢ g → ((q : SentMessage → Bool) → Apart (is_of from to on) q → filter q then_kept ≡ filter q kept) → AllTell g u t kept → AllTell g u t then_kept
far_reported from to on g u t kept then_kept differ others all k = subst (Tells (t k)) (sym (others (is_of g u k) (keys_distinct from to on g u k (λ is. differ is.0)))) (all k)

-- ---- there was a record at an interface

pub seen_now : (monitor : Monitor) (at : ℕ) → Sound monitor → at < 256 → has_seen (sees monitor at) at ≡ true
seen_now monitor at s a = get_or-set_same monitor.seen at true false (let l : length monitor.seen ≡ 256 = s.seen_long in omega (arith, l, a))

pub seen_stays : (monitor : Monitor) (at host : ℕ) → Sound monitor → at < 256 → has_seen monitor host ≡ true → has_seen (sees monitor at) host ≡ true
seen_stays monitor at host s a e = go (eqb_tells host at)
  where
    go : (((host == at) ≡ true) × (host ≡ at)) ⊎ (((host == at) ≡ false) × (host ≢ at)) → has_seen (sees monitor at) host ≡ true
    go (inl same) = ap (has_seen (sees monitor at)) same.1 ∙ seen_now monitor at s a
    go (inr other) = get_or-set_other monitor.seen at host true false other.1 ∙ e

pub sound_sees : (monitor : Monitor) (at : ℕ) → Sound monitor → Sound (sees monitor at)
sound_sees monitor at s = record { part = s.part; seen_long = length-set monitor.seen at true ∙ s.seen_long; long = s.long }

pub sees_way : (from to : ℕ) (t : ℕ → OnLink) (monitor : Monitor) (at : ℕ) → Sound monitor → at < 256 → OneWay from to t monitor → OneWay from to t (sees monitor at)
sees_way from to t monitor at s a w = record { clear = w.clear; seen = λ on f. seen_stays monitor at from s a (w.seen on f); tells = w.tells }

-- ---- a message is sent

or_false : (b c : Bool) → c ≡ false → (b || c) ≡ b
or_false true true e = absurd (cc)
or_false true false e = refl
or_false false true e = absurd (cc)
or_false false false e = refl

abbrev filled : Monitor → ℕ → ℕ → ℕ → List Bool → Monitor
filled monitor at peer on bits =
    let place = position_of at peer on monitor.kept in
    record monitor {
      full = not (has_room monitor.kept place);
      views = with_view monitor.views at peer (view_after_out (view_in monitor.views at peer) on (slot_of_link monitor at peer on) (same_of monitor at peer on bits));
      kept = with_out monitor.kept place (gone_out at peer on bits);
    }

pub sound_out : (monitor : Monitor) (at peer on : ℕ) (bits : List Bool) → Sound monitor → Sound (monitor_after_out monitor at peer on bits)
sound_out monitor at peer on bits s = go monitor.full
  where
    go : (b : Bool) → Sound (if b then monitor else filled monitor at peer on bits)
    go true = s
    go false = record {
      part = s.part;
      seen_long = s.seen_long;
      long = view_length monitor.views at peer (view_after_out (view_in monitor.views at peer) on (slot_of_link monitor at peer on) (same_of monitor at peer on bits)) ∙ s.long;
    }

-- of the way on which it goes
pub out_way : (from to on : ℕ) (bits : List Bool) (t after : ℕ → OnLink) (monitor : Monitor) → Sound monitor → from < 256 → to < 256 → has_seen monitor from ≡ true → t on ≡ Free → But on (Accepted bits) t after
    → OneWay from to t monitor → OneWay from to after (monitor_after_out monitor from to on bits)
out_way from to on bits t after monitor s f g seen free b w = go monitor.full refl
  where
    go : (b : Bool) → monitor.full ≡ b → OneWay from to after (if b then monitor else filled monitor from to on bits)
    go true e = record { clear = w.clear; seen = λ k x. seen; tells = λ x. let nay : true ≡ false = sym e ∙ x in absurd (cc) }
    go false e =
        let view : View = view_in monitor.views from to in
        let here : Tells Free (filter (is_of from to on) monitor.kept) = subst (λ (x : OnLink). Tells x (filter (is_of from to on) monitor.kept)) free (w.tells e on) in
        record {
          clear = network_set monitor.views from to from to (view_after_out view on (slot_of_link monitor from to on) (same_of monitor from to on bits)) s.long f g (or_false view.overlapped _ (not_out view.known monitor.kept (is_of from to on) here)) ∙ w.clear;
          seen = λ k x. seen;
          tells = λ x.
              let room = has_room_for_one (has_room monitor.kept (position_of from to on monitor.kept)) x in
              one_reported from to on (Accepted bits) t after monitor.kept (with_out monitor.kept (position_of from to on monitor.kept) (gone_out from to on bits)) b (put_distinct from to on monitor.kept bits room)
              (after_going from to on monitor.kept bits here room) (w.tells e);
        }

-- of the other way
pub out_far : (from to on : ℕ) (bits : List Bool) (back t : ℕ → OnLink) (monitor : Monitor) → Sound monitor → from < 256 → to < 256 → from ≢ to → t on ≡ Free → OneWay from to t monitor
    → OneWay to from back monitor → OneWay to from back (monitor_after_out monitor from to on bits)
out_far from to on bits back t monitor s f g differ free own w = go monitor.full refl
  where
    go : (b : Bool) → monitor.full ≡ b → OneWay to from back (if b then monitor else filled monitor from to on bits)
    go true e = w
    go false e =
        let view : View = view_in monitor.views from to in
        let here : Tells Free (filter (is_of from to on) monitor.kept) = subst (λ (x : OnLink). Tells x (filter (is_of from to on) monitor.kept)) free (own.tells e on) in
        record {
          clear = network_set monitor.views from to to from (view_after_out view on (slot_of_link monitor from to on) (same_of monitor from to on bits)) s.long f g (or_false view.overlapped _ (not_out view.known monitor.kept (is_of from to on) here)) ∙ w.clear;
          seen = w.seen;
          tells = λ x.
              let room = has_room_for_one (has_room monitor.kept (position_of from to on monitor.kept)) x in
              far_reported from to on to from back monitor.kept (with_out monitor.kept (position_of from to on monitor.kept) (gone_out from to on bits)) differ (put_distinct from to on monitor.kept bits room) (w.tells e);
        }

-- ---- what it says

pub sound_said : (monitor : Monitor) (at peer by : ℕ) (sent fresh : Bool) (r : Result Message MessageFault) → Sound monitor → Sound (after_said monitor at peer (turn_at monitor at peer by sent) fresh r)
sound_said monitor at peer by sent true (Ok m) s = record {
  part = s.part;
  seen_long = s.seen_long;
  long = view_length monitor.views at peer (after_read (message_class m) (turn_at monitor at peer by sent) m.text (view_of monitor at peer)) ∙ s.long;
}
sound_said monitor at peer by sent false (Ok m) s = s
sound_said monitor at peer by sent fresh (Err fault) s = s

pub said_way : (from to : ℕ) (t : ℕ → OnLink) (monitor : Monitor) (at peer by : ℕ) (sent fresh : Bool) (r : Result Message MessageFault) → Sound monitor → at < 256 → peer < 256
    → OneWay from to t monitor → OneWay from to t (after_said monitor at peer (turn_at monitor at peer by sent) fresh r)
said_way from to t monitor at peer by sent true (Ok m) s a p w = record {
  clear = network_set monitor.views at peer from to (after_read (message_class m) (turn_at monitor at peer by sent) m.text (view_of monitor at peer)) s.long a p (read_stays m by sent (busy_link at peer monitor.kept) (knows_zero monitor at peer) (view_of monitor at peer)) ∙ w.clear;
  seen = w.seen;
  tells = w.tells;
}
said_way from to t monitor at peer by sent false (Ok m) s a p w = w
said_way from to t monitor at peer by sent fresh (Err fault) s a p w = w

-- ---- a message comes

abbrev come : Monitor → ℕ → ℕ → ℕ → Monitor
come monitor at peer on = record monitor { kept = with_coming monitor.kept (position_of peer at on monitor.kept) }

pub sound_in : (monitor : Monitor) (at peer on : ℕ) → Sound monitor → Sound (after_in monitor at peer on)
sound_in monitor at peer on s = go (judges_coming monitor at peer)
  where
    go : (b : Bool) → Sound (if b then come monitor at peer on else monitor)
    go true = record { part = s.part; seen_long = s.seen_long; long = s.long }
    go false = s

all_judged : (full part seen overlapped : Bool) → full ≡ false → part ≡ false → seen ≡ true → overlapped ≡ false → (not full && (not part && seen) && not overlapped) ≡ true
all_judged false false true false a b c d = refl
all_judged true p s c a b d e = absurd (cc)
all_judged false true s c a b d e = absurd (cc)
all_judged false false false c a b d e = absurd (cc)
all_judged false false true true a b d e = absurd (cc)

pub judged : (from to on : ℕ) (t : ℕ → OnLink) (monitor : Monitor) → Sound monitor → is_free (t on) ≡ false → OneWay from to t monitor → monitor.full ≡ false → judges_coming monitor to from ≡ true
judged from to on t monitor s f w e = all_judged monitor.full monitor.part (has_seen monitor from) (is_crowded monitor from to) e s.part (w.seen on f) w.clear

pub unsent_none : (from to on : ℕ) (m bits : List Bool) (t : ℕ → OnLink) (monitor : Monitor) → t on ≡ Accepted m → same_but_host m bits ≡ true → OneWay from to t monitor → unsent_finding monitor to from on bits ≡ None
unsent_none from to on m bits t monitor a same w = go (judges_coming monitor to from) refl
  where
    open_is : judges_coming monitor to from ≡ true → monitor.full ≡ false
    open_is j = by monitor.full (and_parts (not monitor.full) (sees_both monitor from) (and_parts (not monitor.full && sees_both monitor from) (not (is_crowded monitor from to)) j).0).0
      where
        by : (b : Bool) → not b ≡ true → b ≡ false
        by true x = absurd (cc)
        by false x = refl

    go : (b : Bool) → judges_coming monitor to from ≡ b → (if b then option_map (λ (why : Unsent). by_imp (Rule.Unsent from on why)) (unsent_at monitor to from on bits) else None) ≡ None
    go false j = refl
    go true j =
        ap (option_map (λ (why : Unsent). by_imp (Rule.Unsent from on why)))
        (coming (is_of from to on) (λ k s e. e) monitor.kept m bits (subst (λ (x : OnLink). Tells x (filter (is_of from to on) monitor.kept)) a (w.tells (open_is j) on)) same).none

taken_link : (t : OnLink) (m : List Bool) → t ≡ Accepted m → is_free t ≡ false
taken_link t m e = ap is_free e

pub in_way : (from to on : ℕ) (m : List Bool) (t after : ℕ → OnLink) (monitor : Monitor) → Sound monitor → t on ≡ Accepted m → But on Delivered t after → (bits : List Bool) → same_but_host m bits ≡ true
    → OneWay from to t monitor → OneWay from to after (after_in monitor to from on)
in_way from to on m t after monitor s a b bits same w = go (judges_coming monitor to from) refl
  where
    seen : has_seen monitor from ≡ true
    seen = w.seen on (taken_link (t on) m a)

    go : (j : Bool) → judges_coming monitor to from ≡ j → OneWay from to after (if j then come monitor to from on else monitor)
    go true j = record {
      clear = w.clear;
      seen = λ k x. seen;
      tells = λ e.
          one_reported from to on Delivered t after monitor.kept (with_coming monitor.kept (position_of from to on monitor.kept)) b (after_coming from to on monitor.kept).0
          (coming (is_of from to on) (λ k s e. e) monitor.kept m bits (subst (λ (x : OnLink). Tells x (filter (is_of from to on) monitor.kept)) a (w.tells e on)) same).tells (w.tells e);
    }
    go false j = record {
      clear = w.clear;
      seen = λ k x. seen;
      tells = λ e. let nay : false ≡ true = sym j ∙ judged from to on t monitor s (taken_link (t on) m a) w e in absurd (cc);
    }

pub in_far : (from to on : ℕ) (back : ℕ → OnLink) (monitor : Monitor) → from ≢ to → OneWay to from back monitor → OneWay to from back (after_in monitor to from on)
in_far from to on back monitor differ w = go (judges_coming monitor to from)
  where
    go : (j : Bool) → OneWay to from back (if j then come monitor to from on else monitor)
    go false = w
    go true = record {
      clear = w.clear;
      seen = w.seen;
      tells = λ e. far_reported from to on to from back monitor.kept (with_coming monitor.kept (position_of from to on monitor.kept)) differ (after_coming from to on monitor.kept).0 (w.tells e);
    }

-- ---- it is answered

abbrev with_it : Monitor → ℕ → ℕ → ℕ → ℕ → Monitor
with_it monitor kind at peer on = record monitor { kept = with_answer (view_in monitor.views at peer).known kind monitor.kept (position_of at peer on monitor.kept) }

pub sound_answer : (monitor : Monitor) (kind at peer on : ℕ) → Sound monitor → Sound (monitor_after_answer monitor kind at peer on)
sound_answer monitor kind at peer on s = go monitor.full
  where
    go : (b : Bool) → Sound (if b then monitor else with_it monitor kind at peer on)
    go true = s
    go false = record { part = s.part; seen_long = s.seen_long; long = s.long }

nothing_false : (b : Bool) (o : Option Rule) → o ≡ None → (if b then option_map by_imp o else None) ≡ None
nothing_false true o e = ap (option_map by_imp) e
nothing_false false o e = refl

pub answer_none : (from to on kind : ℕ) (t : ℕ → OnLink) (monitor : Monitor) → answer_kind (t on) ≡ Some kind → OneWay from to t monitor → answer_findings monitor kind from to on ≡ []
answer_none from to on kind t monitor k w = go monitor.full refl
  where
    go : (b : Bool) → monitor.full ≡ b → (if b then [] else option_to_list (false_finding monitor kind from to on) ++ option_to_list (stray_finding monitor kind from to on)) ≡ []
    go true e = refl
    go false e =
        let a = answered (is_of from to on) (λ k s e. e) monitor.kept (t on) kind k (w.tells e on) in
        let known : Bool = (view_in monitor.views from to).known in
        ap (λ (o : Option Finding). option_to_list o ++ option_to_list (stray_finding monitor kind from to on)) (nothing_false (sees_both monitor to && not (is_crowded monitor from to)) (false_rule (slot_of_link monitor from to on) kind to on) (a.true_one known to on))
        ∙ ap (λ (o : Option Rule). option_to_list (option_map by_imp o)) (a.out known on)

pub answer_way : (from to on kind : ℕ) (t after : ℕ → OnLink) (monitor : Monitor) → answer_kind (t on) ≡ Some kind → But on Free t after → (has : has_seen monitor from ≡ true) → OneWay from to t monitor → OneWay from to after (monitor_after_answer monitor kind from to on)
answer_way from to on kind t after monitor k b has w = go monitor.full refl
  where
    go : (f : Bool) → monitor.full ≡ f → OneWay from to after (if f then monitor else with_it monitor kind from to on)
    go true e = record { clear = w.clear; seen = λ j x. has; tells = λ x. let nay : true ≡ false = sym e ∙ x in absurd (cc) }
    go false e =
        let known : Bool = (view_in monitor.views from to).known in
        record {
          clear = w.clear;
          seen = λ j x. has;
          tells = λ x.
              one_reported from to on Free t after monitor.kept (with_answer known kind monitor.kept (position_of from to on monitor.kept)) b (after_answering from to on known kind monitor.kept).0
              ((answered (is_of from to on) (λ k s e. e) monitor.kept (t on) kind k (w.tells e on)).tells known) (w.tells e);
        }

pub answer_far : (from to on kind : ℕ) (back : ℕ → OnLink) (monitor : Monitor) → from ≢ to → OneWay to from back monitor → OneWay to from back (monitor_after_answer monitor kind from to on)
answer_far from to on kind back monitor differ w = go monitor.full refl
  where
    go : (f : Bool) → monitor.full ≡ f → OneWay to from back (if f then monitor else with_it monitor kind from to on)
    go true e = w
    go false e =
        let known : Bool = (view_in monitor.views from to).known in
        record {
          clear = w.clear;
          seen = w.seen;
          tells = λ x. far_reported from to on to from back monitor.kept (with_answer known kind monitor.kept (position_of from to on monitor.kept)) differ (after_answering from to on known kind monitor.kept).0 (w.tells e);
        }

-- ---- the subnet loses a message, or finds its destination dead: no record

pub lost_way : (from to on : ℕ) (m : List Bool) (now : OnLink) (t after : ℕ → OnLink) (monitor : Monitor) → t on ≡ Accepted m → ((xs : List SentMessage) → Tells (Accepted m) xs → Tells now xs) → But on now t after → OneWay from to t monitor → OneWay from to after monitor
lost_way from to on m now t after monitor a as_lost b w = record {
  clear = w.clear;
  seen = λ k x. w.seen on (taken_link (t on) m a);
  tells = λ e. one_reported from to on now t after monitor.kept monitor.kept b (λ q p. refl) (as_lost (filter (is_of from to on) monitor.kept) (subst (λ (x : OnLink). Tells x (filter (is_of from to on) monitor.kept)) a (w.tells e on))) (w.tells e);
}
