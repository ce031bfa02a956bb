-- What a message says does not change whether two messages were out at once on one link.
use Rattle.std.proofs.Common.{◌≡◌, ◌⊎◌, inl, inr, ℕ, ◌<◌, ◌==◌, Bool, true, false, not, ◌&&◌, ◌||◌, if◌then◌else◌, List, [], ◌∷◌, length, Option, Result, Ok, Err, get_or-set_same, get_or-set_other, get_or, slice_set, refl, sym, ap, ◌∙◌, arith}
use Rattle.std.proofs.lemmas.Bool.Decides.{eqb_tells}
use Rattle.ncp_leader.specs.Message.{Message}
use Rattle.ncp_wire.specs.declared.command.Command.{Command}
use Rattle.ncp_wire.specs.declared.fault.CommandFault.{CommandFault}
use Rattle.ncp_monitor.specs.declared.view.View.{View}
use Rattle.ncp_monitor.specs.declared.views.TheConstants.{VIEWS}
use Rattle.ncp_interface.specs.Contents.{is_unused, message_class, items_said}
use Rattle.ncp_monitor.specs.declared.view.Wait.TheVariants.{Answered}
use Rattle.ncp_monitor.specs.Tables.{index_of, view_in, with_view}
use Rattle.ncp_monitor.specs.Views.{is_answered_too_often, new_view}
use Rattle.ncp_monitor.specs.Phases.{hears_reset, view_after_reset, after_reset_of_host, after_reset_of_peer, view_after_reply, after_reply_of_host, after_reply_of_peer, after_untold_reply, after_item, after_items, after_room}
use Rattle.ncp_monitor.specs.Judged.{shows_all, after_read}

either : (b : Bool) (x y : View) (c : Bool) → x.overlapped ≡ c → y.overlapped ≡ c → (if b then x else y).overlapped ≡ c
either true x y c e f = e
either false x y c e f = f

reset_stays : (n : ℕ) (sent : Bool) (busy : Option ℕ) (zero : Bool) (v : View) → (view_after_reset (record { by = n; sent = sent; busy = busy; zero = zero }) v).overlapped ≡ v.overlapped
reset_stays n sent busy zero v =
    either (hears_reset (record { by = n; sent = sent; busy = busy; zero = zero }) v) (if sent then after_reset_of_host (record { by = n; sent = sent; busy = busy; zero = zero }) v else after_reset_of_peer (record { by = n; sent = sent; busy = busy; zero = zero }) v) v v.overlapped
    (either sent (after_reset_of_host (record { by = n; sent = sent; busy = busy; zero = zero }) v) (after_reset_of_peer (record { by = n; sent = sent; busy = busy; zero = zero }) v) v.overlapped refl refl) refl

reply_stays : (n : ℕ) (sent : Bool) (busy : Option ℕ) (zero : Bool) (v : View) → (view_after_reply (record { by = n; sent = sent; busy = busy; zero = zero }) v).overlapped ≡ v.overlapped
reply_stays n sent busy zero v =
    either v.told (if sent then after_reply_of_host (record { by = n; sent = sent; busy = busy; zero = zero }) v else after_reply_of_peer v) (after_untold_reply (record { by = n; sent = sent; busy = busy; zero = zero }) v) v.overlapped
    (either sent (after_reply_of_host (record { by = n; sent = sent; busy = busy; zero = zero }) v) (after_reply_of_peer v) v.overlapped refl refl)
    (either sent v (record v { host = record v.host { wait = Answered } }) v.overlapped refl refl)

item_stays : (n : ℕ) (sent : Bool) (busy : Option ℕ) (zero : Bool) (item : Result Command CommandFault) (v : View) → (after_item (record { by = n; sent = sent; busy = busy; zero = zero }) item v).overlapped ≡ v.overlapped
item_stays n sent busy zero (Err fault) v = refl
item_stays n sent busy zero (Ok Command.Rst) v = reset_stays n sent busy zero v
item_stays n sent busy zero (Ok Command.Rrp) v = reply_stays n sent busy zero v
item_stays n sent busy zero (Ok Command.Nop) v = refl
item_stays n sent busy zero (Ok (Command.Rts i j k)) v = refl
item_stays n sent busy zero (Ok (Command.Str i j k)) v = refl
item_stays n sent busy zero (Ok (Command.Cls i j)) v = refl
item_stays n sent busy zero (Ok (Command.All i j k)) v = refl
item_stays n sent busy zero (Ok (Command.Gvb i j k)) v = refl
item_stays n sent busy zero (Ok (Command.Ret i j k)) v = refl
item_stays n sent busy zero (Ok (Command.Inr i)) v = refl
item_stays n sent busy zero (Ok (Command.Ins i)) v = refl
item_stays n sent busy zero (Ok (Command.Eco i)) v = refl
item_stays n sent busy zero (Ok (Command.Erp i)) v = refl
item_stays n sent busy zero (Ok (Command.Err i j)) v = refl

items_stay : (n : ℕ) (sent : Bool) (busy : Option ℕ) (zero : Bool) (items : List (Result Command CommandFault)) (v : View) → (after_items (record { by = n; sent = sent; busy = busy; zero = zero }) items v).overlapped ≡ v.overlapped
items_stay n sent busy zero [] v = refl
items_stay n sent busy zero (item ∷ items) v = items_stay n sent busy zero items (after_item (record { by = n; sent = sent; busy = busy; zero = zero }) item v) ∙ item_stays n sent busy zero item v

room_stays : (n : ℕ) (sent : Bool) (busy : Option ℕ) (zero : Bool) (room : Bool) (v : View) → (after_room (record { by = n; sent = sent; busy = busy; zero = zero }) room v).overlapped ≡ v.overlapped
room_stays n sent busy zero room v = either (sent && room && (not v.told || is_answered_too_often v.host.wait)) _ v v.overlapped refl refl

pub read_stays : (m : Message) (n : ℕ) (sent : Bool) (busy : Option ℕ) (zero : Bool) (v : View) → (after_read (message_class m) (record { by = n; sent = sent; busy = busy; zero = zero }) m.text v).overlapped ≡ v.overlapped
read_stays m n sent busy zero v = go (is_unused m.leader.link) (m.leader.link == 0) (m.size == 8) refl refl refl
  where
    go : (x y z : Bool) → is_unused m.leader.link ≡ x → (m.leader.link == 0) ≡ y → (m.size == 8) ≡ z → (after_read (message_class m) (record { by = n; sent = sent; busy = busy; zero = zero }) m.text v).overlapped ≡ v.overlapped
    go true y z e f g = rw e refl
    go false false z e f g = rw (e, f) refl
    go false true true e f g = rw (e, f, g) (room_stays n sent busy zero (shows_all m.text v) (after_items (record { by = n; sent = sent; busy = busy; zero = zero }) (items_said m.text) v) ∙ items_stay n sent busy zero (items_said m.text) v)
    go false true false e f g = rw (e, f, g) refl

-- in the row of views
pub network_set : (views : List View) (at peer f g : ℕ) (x : View) → length views ≡ VIEWS → at < 256 → peer < 256 → x.overlapped ≡ (view_in views at peer).overlapped → (view_in (with_view views at peer x) f g).overlapped ≡ (view_in views f g).overlapped
network_set views at peer f g x l a p e = go (eqb_tells (index_of f g) (index_of at peer))
  where
    i : ℕ
    i = index_of at peer

    inside : i < length views
    inside = let long : length views ≡ 65536 = l in omega (arith, long, a, p)

    go : (((index_of f g == i) ≡ true) × (index_of f g ≡ i)) ⊎ (((index_of f g == i) ≡ false) × (index_of f g ≡ i → ⊥)) → (view_in (with_view views at peer x) f g).overlapped ≡ (view_in views f g).overlapped
    go (inl same) =
        ap (λ (j : ℕ). (get_or (slice_set views i x) j (new_view false)).overlapped) same.1
        ∙ ap (λ (v : View). v.overlapped) (get_or-set_same views i x (new_view false) inside)
        ∙ e ∙ ap (λ (j : ℕ). (get_or views j (new_view false)).overlapped) (sym same.1)
    go (inr other) = ap (λ (v : View). v.overlapped) (get_or-set_other views i (index_of f g) x (new_view false) other.1)
