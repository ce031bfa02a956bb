-- While nothing is found of the messages from one host to another, the view of the one has no two of them out at once, and its
-- slots are known: what is said does not change that.
use Rattle.std.proofs.Common.{◌≡◌, ◌⊎◌, inl, inr, ℕ, ◌<◌, ◌==◌, Bool, true, false, not, ◌&&◌, ◌||◌, if◌then◌else◌, List, [], ◌∷◌, length, Option, Result, Ok, Err, get_or-set_same, get_or-set_other, get_or, slice_set, refl, sym, ap, ◌∙◌, subst, arith}
use Rattle.std.proofs.lemmas.Bool.Decides.{eqb_tells}
use Rattle.ncp_leader.specs.Message.{Message}
use Rattle.ncp_wire.specs.declared.command.Command.{Command}
use Rattle.ncp_wire.specs.declared.fault.CommandFault.{CommandFault}
use Rattle.ncp_monitor.specs.declared.view.View.{View}
use Rattle.ncp_monitor.specs.declared.views.TheConstants.{VIEWS}
use Rattle.ncp_interface.specs.Contents.{is_unused, message_class, items_said}
use Rattle.ncp_monitor.specs.declared.view.Wait.TheVariants.{Answered}
use Rattle.ncp_monitor.specs.Tables.{index_of, view_in, with_view}
use Rattle.ncp_monitor.specs.Views.{is_answered_too_often, new_view}
use Rattle.ncp_monitor.specs.Phases.{hears_reset, after_reset_of_host, after_reset_of_peer, after_reply_of_host, after_reply_of_peer, after_untold_reply, after_item, after_items, after_room}
use Rattle.ncp_monitor.specs.Judged.{shows_all, after_read}
use Rattle.ncp_proof_monitor_messages.proofs.Network.{read_stays}

abbrev pub Fine : View → Type 0
Fine v = (v.overlapped ≡ false) × (v.known ≡ true)

either : (b : Bool) (x y : View) → x.known ≡ true → y.known ≡ true → (if b then x else y).known ≡ true
either true x y e f = e
either false x y e f = f

item_known : (n : ℕ) (sent : Bool) (busy : Option ℕ) (zero : Bool) (item : Result Command CommandFault) (v : View) → v.known ≡ true → (after_item (record { by = n; sent = sent; busy = busy; zero = zero }) item v).known ≡ true
item_known n sent busy zero (Err fault) v k = k
item_known n sent busy zero (Ok Command.Rst) v k =
    either (hears_reset (record { by = n; sent = sent; busy = busy; zero = zero }) v) (if sent then after_reset_of_host (record { by = n; sent = sent; busy = busy; zero = zero }) v else after_reset_of_peer (record { by = n; sent = sent; busy = busy; zero = zero }) v) v
    (either sent (after_reset_of_host (record { by = n; sent = sent; busy = busy; zero = zero }) v) (after_reset_of_peer (record { by = n; sent = sent; busy = busy; zero = zero }) v) refl k) k
item_known n sent busy zero (Ok Command.Rrp) v k =
    either v.told (if sent then after_reply_of_host (record { by = n; sent = sent; busy = busy; zero = zero }) v else after_reply_of_peer v) (after_untold_reply (record { by = n; sent = sent; busy = busy; zero = zero }) v)
    (either sent (after_reply_of_host (record { by = n; sent = sent; busy = busy; zero = zero }) v) (after_reply_of_peer v) refl k)
    (either sent v (record v { host = record v.host { wait = Answered } }) k k)
item_known n sent busy zero (Ok Command.Nop) v k = k
item_known n sent busy zero (Ok (Command.Rts a b c)) v k = k
item_known n sent busy zero (Ok (Command.Str a b c)) v k = k
item_known n sent busy zero (Ok (Command.Cls a b)) v k = k
item_known n sent busy zero (Ok (Command.All a b c)) v k = k
item_known n sent busy zero (Ok (Command.Gvb a b c)) v k = k
item_known n sent busy zero (Ok (Command.Ret a b c)) v k = k
item_known n sent busy zero (Ok (Command.Inr a)) v k = k
item_known n sent busy zero (Ok (Command.Ins a)) v k = k
item_known n sent busy zero (Ok (Command.Eco a)) v k = k
item_known n sent busy zero (Ok (Command.Erp a)) v k = k
item_known n sent busy zero (Ok (Command.Err a b)) v k = k

items_known : (n : ℕ) (sent : Bool) (busy : Option ℕ) (zero : Bool) (items : List (Result Command CommandFault)) (v : View) → v.known ≡ true → (after_items (record { by = n; sent = sent; busy = busy; zero = zero }) items v).known ≡ true
items_known n sent busy zero [] v k = k
items_known n sent busy zero (item ∷ items) v k = items_known n sent busy zero items (after_item (record { by = n; sent = sent; busy = busy; zero = zero }) item v) (item_known n sent busy zero item v k)

room_known : (n : ℕ) (sent : Bool) (busy : Option ℕ) (zero : Bool) (room : Bool) (v : View) → v.known ≡ true → (after_room (record { by = n; sent = sent; busy = busy; zero = zero }) room v).known ≡ true
room_known n sent busy zero room v k = either (sent && room && (not v.told || is_answered_too_often v.host.wait)) _ v k k

read_known : (m : Message) (n : ℕ) (sent : Bool) (busy : Option ℕ) (zero : Bool) (v : View) → v.known ≡ true → (after_read (message_class m) (record { by = n; sent = sent; busy = busy; zero = zero }) m.text v).known ≡ true
read_known m n sent busy zero v k = go (is_unused m.leader.link) (m.leader.link == 0) (m.size == 8) refl refl refl
  where
    go : (x y z : Bool) → is_unused m.leader.link ≡ x → (m.leader.link == 0) ≡ y → (m.size == 8) ≡ z → (after_read (message_class m) (record { by = n; sent = sent; busy = busy; zero = zero }) m.text v).known ≡ true
    go true y z e f g = rw e k
    go false false z e f g = rw (e, f) k
    go false true true e f g = rw (e, f, g) (room_known n sent busy zero (shows_all m.text v) (after_items (record { by = n; sent = sent; busy = busy; zero = zero }) (items_said m.text) v) (items_known n sent busy zero (items_said m.text) v k))
    go false true false e f g = rw (e, f, g) k

pub read_fine : (m : Message) (n : ℕ) (sent : Bool) (busy : Option ℕ) (zero : Bool) (v : View) → Fine v → Fine (after_read (message_class m) (record { by = n; sent = sent; busy = busy; zero = zero }) m.text v)
read_fine m n sent busy zero v f = (read_stays m n sent busy zero v ∙ f.0, read_known m n sent busy zero v f.1)

-- in the row of views
pub fine_set : (views : List View) (at peer f g : ℕ) (x : View) → length views ≡ VIEWS → at < 256 → peer < 256 → (Fine (view_in views at peer) → Fine x) → Fine (view_in views f g) → Fine (view_in (with_view views at peer x) f g)
fine_set views at peer f g x l a p e fine = go (eqb_tells (index_of f g) (index_of at peer))
  where
    i : ℕ
    i = index_of at peer

    inside : i < length views
    inside = let long : length views ≡ 65536 = l in omega (arith, long, a, p)

    go : (((index_of f g == i) ≡ true) × (index_of f g ≡ i)) ⊎ (((index_of f g == i) ≡ false) × (index_of f g ≡ i → ⊥)) → Fine (view_in (with_view views at peer x) f g)
    go (inl same) =
        subst (λ (v : View). Fine v) (sym (ap (λ (j : ℕ). get_or (slice_set views i x) j (new_view false)) same.1 ∙ get_or-set_same views i x (new_view false) inside))
        (e (subst (λ (j : ℕ). Fine (get_or views j (new_view false))) same.1 fine))
    go (inr other) = subst (λ (v : View). Fine v) (sym (get_or-set_other views i (index_of f g) x (new_view false) other.1)) fine

same_at : (at peer a b : ℕ) → peer < 256 → b < 256 → index_of a b ≡ index_of at peer → at ≡ a
same_at at peer a b p s e = omega (arith, e, p, s)

same_peer : (at peer a b : ℕ) → peer < 256 → b < 256 → index_of a b ≡ index_of at peer → peer ≡ b
same_peer at peer a b p s e = omega (arith, e, p, s)

pub place_other : (views : List View) (at peer a b : ℕ) (v : View) → peer < 256 → b < 256 → (at ≡ a → peer ≡ b → ⊥) → view_in (with_view views at peer v) a b ≡ view_in views a b
place_other views at peer a b v p s n = get_or-set_other views (index_of at peer) (index_of a b) v (new_view false) (λ e. n (same_at at peer a b p s e) (same_peer at peer a b p s e))
