-- What an umpire knows of the messages both ways between two hosts, through a record of one of them.
use Rattle.std.proofs.Common.{◌≡◌, ◌≢◌, ℕ, ◌<◌, ◌==◌, Bool, true, false, if◌then◌else◌, List, [], ◌∷◌, ◌++◌, None, Some, filter, option_to_list, Result, Ok, refl, sym, ap, ◌∙◌, subst}
use Rattle.std.proofs.lemmas.Bool.{ne_eqb}
use Rattle.std.proofs.lemmas.List.{length-replicate}
use Rattle.ncp_leader.specs.declared.leader.Leader.{Leader}
use Rattle.ncp_leader.specs.declared.leader.Short.{Short}
use Rattle.ncp_leader.specs.Leader.{leader_in}
use Rattle.ncp_leader.specs.Message.{message_in}
use Rattle.ncp_subnet.specs.declared.transit.Transit.TheVariants.{Free, Accepted, Delivered, Lost, Dead}
use Rattle.ncp_subnet.specs.Transit.{is_free, answer_kind}
use Rattle.ncp_subnet.specs.Ways.{OnLink}
use Rattle.ncp_subnet.specs.Subnet.{Subnet, transit_at, with_transit, new_subnet}
use Rattle.ncp_subnet.proofs.Places.{transit_at-same, transit_at-others}
use Rattle.ncp_subnet.proofs.NewRows.{transit-new}
use Rattle.ncp_peer.specs.Output.{leader_to}
use Rattle.ncp_transcript_two.proofs.Written.{answer_leader}
use Rattle.ncp_interface.specs.declared.sent_message.SentMessage.{SentMessage}
use Rattle.ncp_monitor.specs.declared.monitor.Monitor.{Monitor}
use Rattle.ncp_interface.specs.declared.imp_direction.ImpDirection.TheVariants.{ToImp, FromImp}
use Rattle.ncp_interface.specs.Events.{is_answer, event_after}
use Rattle.ncp_interface.specs.Slots.{is_of, same_but_host, position_of, with_answer}
use Rattle.ncp_monitor.specs.declared.view.View.{View}
use Rattle.ncp_monitor.specs.Tables.{index_of, view_in}
use Rattle.ncp_monitor.specs.Views.{new_view}
use Rattle.ncp_monitor.specs.declared.views.TheConstants.{VIEWS}
use Rattle.ncp_monitor.specs.Judged.{new_monitor, sees, fresh_out, monitor_after_out, answer_findings, monitor_after_answer, unsent_finding, after_in, turn_at, message_findings, event_findings, record_findings, after_record}
use Rattle.ncp_monitor.proofs.Following.{out_is, in_is, answer_is}
use Rattle.ncp_proof_monitor.proofs.PhaseLists.{replicated}
use Rattle.ncp_proof_monitor_messages.proofs.Tells.{Tells}
use Rattle.ncp_proof_monitor_messages.proofs.OneWay.{Sound, OneWay, But, seen_now, seen_stays, sound_sees, sees_way, sound_out, out_way, out_far, sound_said, said_way, sound_in, unsent_none, in_way, in_far, sound_answer, answer_none, answer_way, answer_far, lost_way}

-- of the messages of each of two hosts to the other
pub record Ways (a b : ℕ) (s : Subnet) (monitor : Monitor) : Type 0 where
  pub sound : Sound monitor
  pub going : OneWay a b (λ on. transit_at s a b on) monitor
  pub coming : OneWay b a (λ on. transit_at s b a on) monitor

pub turned_ways : (a b : ℕ) (s : Subnet) (monitor : Monitor) → Ways a b s monitor → Ways b a s monitor
turned_ways a b s monitor w = record { sound = w.sound; going = w.coming; coming = w.going }

-- ---- the subnet has something else for one link

but_now : (s : Subnet) (a b link : ℕ) (now : OnLink) → But link now (λ on. transit_at s a b on) (λ on. transit_at (with_transit s a b link now) a b on)
but_now s a b link now = (transit_at-same s a b link now, λ k d. transit_at-others s a b link now a b k (λ is. d is.2))

back_stays : (s : Subnet) (a b link : ℕ) (now : OnLink) (monitor : Monitor) → a ≢ b → OneWay b a (λ on. transit_at s b a on) monitor → OneWay b a (λ on. transit_at (with_transit s a b link now) b a on) monitor
back_stays s a b link now monitor differ w = record {
  clear = w.clear;
  seen = λ on f. w.seen on (ap is_free (sym (same on)) ∙ f);
  tells = λ e on. subst (λ (x : OnLink). Tells x (filter (is_of b a on) monitor.kept)) (sym (same on)) (w.tells e on);
}
  where
    same : (on : ℕ) → transit_at (with_transit s a b link now) b a on ≡ transit_at s b a on
    same on = transit_at-others s a b link now b a on (λ is. differ (sym is.0))

-- ---- a message is sent

pub ways_out : (a b on : ℕ) (bits : List Bool) (s : Subnet) (monitor : Monitor) → a ≢ b → a < 256 → b < 256 → leader_in bits ≡ Ok (leader_to b on) → transit_at s a b on ≡ Free → Ways a b s monitor
    → Ways a b (with_transit s a b on (Accepted bits)) (after_record monitor ToImp a bits)
ways_out a b on bits s monitor differ k l led free w =
    subst (Ways a b (with_transit s a b on (Accepted bits))) (sym (out_is monitor a b on bits led (ne_eqb b a (λ e. differ (sym e)))))
    (record {
      sound = sound_said A a b a true fresh (message_in bits) sound_A;
      going = said_way a b _ A a b a true fresh (message_in bits) sound_A k l (out_way a b on bits (λ on. transit_at s a b on) _ u sound_u k l (seen_now monitor a w.sound k) free (but_now s a b on (Accepted bits)) going_u);
      coming = said_way b a _ A a b a true fresh (message_in bits) sound_A k l
          (back_stays s a b on (Accepted bits) A differ (out_far a b on bits (λ on. transit_at s b a on) (λ on. transit_at s a b on) u sound_u k l differ free going_u (sees_way b a _ monitor a w.sound k w.coming)));
    })
  where
    u : Monitor
    u = sees monitor a

    A : Monitor
    A = monitor_after_out u a b on bits

    fresh : Bool
    fresh = fresh_out u a b on bits

    sound_u : Sound u
    sound_u = sound_sees monitor a w.sound

    sound_A : Sound A
    sound_A = sound_out u a b on bits sound_u

    going_u : OneWay a b (λ on. transit_at s a b on) u
    going_u = sees_way a b _ monitor a w.sound k w.going

-- ---- it comes

pub in_found : (monitor : Monitor) (at peer on : ℕ) (bits : List Bool) → leader_in bits ≡ Ok (leader_to peer on) → (peer == at) ≡ false
    → record_findings monitor FromImp at bits
    ≡ option_to_list (unsent_finding (sees monitor at) at peer on bits)
    ++ message_findings (after_in (sees monitor at) at peer on) at peer (turn_at (after_in (sees monitor at) at peer on) at peer peer false) true on bits
in_found monitor at peer on bits led apart =
    let u = sees monitor at in
    ap (λ (r : Result Leader Short). event_findings u FromImp at bits (event_after FromImp at r)) led
    ∙ (rw apart refl)

pub record Comes_in (a b on : ℕ) (bits : List Bool) (s : Subnet) (monitor : Monitor) : Type 0 where
  pub sent : unsent_finding (sees monitor b) b a on bits ≡ None
  pub ways : Ways a b (with_transit s a b on Delivered) (after_record monitor FromImp b bits)

pub ways_in : (a b on : ℕ) (m bits : List Bool) (s : Subnet) (monitor : Monitor) → a ≢ b → a < 256 → b < 256 → leader_in bits ≡ Ok (leader_to a on) → transit_at s a b on ≡ Accepted m → same_but_host m bits ≡ true → Ways a b s monitor
    → Comes_in a b on bits s monitor
ways_in a b on m bits s monitor differ k l led taken same w = record {
  sent = unsent_none a b on m bits (λ on. transit_at s a b on) u taken same going_u;
  ways =
      subst (Ways a b (with_transit s a b on Delivered)) (sym (in_is monitor b bits (leader_to a on) false led (ne_eqb a b differ) refl refl))
      (record {
        sound = sound_said A b a a false true (message_in bits) sound_A;
        going = said_way a b _ A b a a false true (message_in bits) sound_A l k (in_way a b on m (λ on. transit_at s a b on) _ u sound_u taken (but_now s a b on Delivered) bits same going_u);
        coming = said_way b a _ A b a a false true (message_in bits) sound_A l k (back_stays s a b on Delivered A differ (in_far a b on (λ on. transit_at s b a on) u differ (sees_way b a _ monitor b w.sound l w.coming)));
      });
}
  where
    u : Monitor
    u = sees monitor b

    A : Monitor
    A = after_in u b a on

    sound_u : Sound u
    sound_u = sound_sees monitor b w.sound

    sound_A : Sound A
    sound_A = sound_in u b a on sound_u

    going_u : OneWay a b (λ on. transit_at s a b on) u
    going_u = sees_way a b _ monitor b w.sound l w.going

-- ---- it is answered

pub record Told (a b on : ℕ) (bits : List Bool) (s : Subnet) (monitor : Monitor) : Type 0 where
  pub none : record_findings monitor FromImp a bits ≡ []
  pub ways : Ways a b (with_transit s a b on Free) (after_record monitor FromImp a bits)
  pub views : (at peer : ℕ) → view_in (after_record monitor FromImp a bits).views at peer ≡ view_in monitor.views at peer

answer_found : (monitor : Monitor) (at peer on kind : ℕ) (bits : List Bool) → leader_in bits ≡ Ok (answer_leader kind peer on) → (kind == 0) ≡ false → is_answer kind ≡ true → (peer == at) ≡ false
    → record_findings monitor FromImp at bits ≡ answer_findings (sees monitor at) kind at peer on
answer_found monitor at peer on kind bits led zero answer apart =
    let u = sees monitor at in
    ap (λ (r : Result Leader Short). event_findings u FromImp at bits (event_after FromImp at r)) led
    ∙ (rw (zero, answer, apart) refl)

answer_views : (u : Monitor) (kind at peer on : ℕ) → (monitor_after_answer u kind at peer on).views ≡ u.views
answer_views u kind at peer on = go u.full
  where
    go : (b : Bool) → (if b then u else record u { kept = with_answer (view_in u.views at peer).known kind u.kept (position_of at peer on u.kept) }).views ≡ u.views
    go true = refl
    go false = refl

busy_link : (t : OnLink) (kind : ℕ) → answer_kind t ≡ Some kind → is_free t ≡ false
busy_link Free kind e = absurd (cc)
busy_link (Accepted m) kind e = refl
busy_link Delivered kind e = refl
busy_link Lost kind e = refl
busy_link Dead kind e = refl

pub ways_answer : (a b on kind : ℕ) (bits : List Bool) (s : Subnet) (monitor : Monitor) → a ≢ b → a < 256 → leader_in bits ≡ Ok (answer_leader kind b on) → (kind == 0) ≡ false → is_answer kind ≡ true → answer_kind (transit_at s a b on) ≡ Some kind → Ways a b s monitor
    → Told a b on bits s monitor
ways_answer a b on kind bits s monitor differ k led zero answer is w = record {
  none = answer_found monitor a b on kind bits led zero answer apart ∙ answer_none a b on kind (λ on. transit_at s a b on) u is going_u;
  ways =
      subst (Ways a b (with_transit s a b on Free)) (sym (answer_is monitor a bits (answer_leader kind b on) led apart zero answer))
      (record {
        sound = sound_answer u kind a b on sound_u;
        going = answer_way a b on kind (λ on. transit_at s a b on) _ u is (but_now s a b on Free) (seen_stays monitor a a w.sound k (w.going.seen on (busy_link (transit_at s a b on) kind is))) going_u;
        coming = back_stays s a b on Free (monitor_after_answer u kind a b on) differ (answer_far a b on kind (λ on. transit_at s b a on) u differ (sees_way b a _ monitor a w.sound k w.coming));
      });
  views = λ at peer. ap (λ (y : Monitor). view_in y.views at peer) (answer_is monitor a bits (answer_leader kind b on) led apart zero answer) ∙ ap (λ (xs : List View). view_in xs at peer) (answer_views u kind a b on);
}
  where
    apart : (b == a) ≡ false
    apart = ne_eqb b a (λ e. differ (sym e))

    u : Monitor
    u = sees monitor a

    sound_u : Sound u
    sound_u = sound_sees monitor a w.sound

    going_u : OneWay a b (λ on. transit_at s a b on) u
    going_u = sees_way a b _ monitor a w.sound k w.going

-- ---- it is lost, or its destination is dead

as_lost : (m : List Bool) (xs : List SentMessage) → Tells (Accepted m) xs → Tells Lost xs
as_lost m [] h = h
as_lost m (k ∷ []) h = h.0
as_lost m (k ∷ other ∷ more) h = h

as_dead : (m : List Bool) (xs : List SentMessage) → Tells (Accepted m) xs → Tells Dead xs
as_dead m [] h = h
as_dead m (k ∷ []) h = h.0
as_dead m (k ∷ other ∷ more) h = h

pub ways_lost : (a b on : ℕ) (m : List Bool) (s : Subnet) (monitor : Monitor) → a ≢ b → transit_at s a b on ≡ Accepted m → Ways a b s monitor → Ways a b (with_transit s a b on Lost) monitor
ways_lost a b on m s monitor differ taken w = record {
  sound = w.sound;
  going = lost_way a b on m Lost (λ on. transit_at s a b on) _ monitor taken (as_lost m) (but_now s a b on Lost) w.going;
  coming = back_stays s a b on Lost monitor differ w.coming;
}

pub ways_dead : (a b on : ℕ) (m : List Bool) (s : Subnet) (monitor : Monitor) → a ≢ b → transit_at s a b on ≡ Accepted m → Ways a b s monitor → Ways a b (with_transit s a b on Dead) monitor
ways_dead a b on m s monitor differ taken w = record {
  sound = w.sound;
  going = lost_way a b on m Dead (λ on. transit_at s a b on) _ monitor taken (as_dead m) (but_now s a b on Dead) w.going;
  coming = back_stays s a b on Dead monitor differ w.coming;
}

-- ---- the beginning

new_way : (a b : ℕ) (t : ℕ → OnLink) → ((on : ℕ) → t on ≡ Free) → OneWay a b t (new_monitor false)
new_way a b t f = record {
  clear = ap (λ (v : View). v.overlapped) (replicated VIEWS (index_of a b) (new_view false));
  seen = λ on e. let nay : true ≡ false = sym (ap (λ (h : OnLink). is_free h) (f on)) ∙ e in absurd (cc);
  tells = λ e on. ap (λ (h : OnLink). is_free h) (f on);
}

pub new_ways : (a b : ℕ) → Ways a b (new_subnet (a ∷ b ∷ [])) (new_monitor false)
new_ways a b = record {
  sound = record { part = refl; seen_long = length-replicate 256 false; long = length-replicate VIEWS (new_view false) };
  going = new_way a b _ (λ on. transit-new (a ∷ b ∷ []) a b on);
  coming = new_way b a _ (λ on. transit-new (a ∷ b ∷ []) b a on);
}
