-- What two hosts say at the same time commutes: what each of the two may say it may still say after what the other may say, and
-- in either order the same was said.
use Rattle.std.proofs.Common.{◌≡◌, ℕ, ◌+◌, ◌-◌, ◌≤◌, ◌==◌, Bool, true, false, not, ◌&&◌, if◌then◌else◌, List, [], ◌∷◌, ◌++◌, Option, None, Some, is_some, eq-eqb, refl, sym, ap, ◌∙◌, subst, arith}
use Rattle.std.proofs.lemmas.Bool.{and_parts}
use Rattle.ncp_wire.specs.declared.command.Command.{Command}
use Rattle.ncp_wire.specs.declared.command.Command.TheVariants.{Rts, Str, Cls, Eco, Erp, Err, Nop, All, Gvb, Ret, Inr, Ins, Rst, Rrp}
use Rattle.ncp_monitor.specs.Allocation.{part_returned}
use Rattle.ncp_monitor.proofs.Shapes.{Shape, Say, Ask, Leave, Agrees, legal, own_step, their_legal, their_step, hears, may_hear}
use Rattle.ncp_monitor.proofs.LinkOrder.{Sockets, same, same_is}
use Rattle.ncp_proof_monitor_allocation.proofs.SeenTables.{step}
use Rattle.ncp_proof_monitor_allocation.proofs.Words.{Count, no_count}
use Rattle.ncp_proof_monitor_network.specs.Owing.{Owing, Echoes, Returning, is_echo, is_echo_of, is_returning_on, Chosen, NextOwed, owed_after, has_echo, any_owing}
use Rattle.ncp_proof_monitor_network.proofs.Tallied.{left_by, is_open_by, receives_by, IsDemuxed, HasNumbers, count_put, counted_on, recalled_by, returned_by, return_asked, by_side, users_put, is_user, users_after_cls, counts_after_cls, owing_without, without_more, no_more, asked_then_left, following_more}
use Rattle.ncp_proof_monitor_network.proofs.Said.{Said, SaidAlike, say_of, sockets_by, may_say, FitsBy, TallyLegal, Legal, after_say, users_after, counts_said, owing_after, after_said_by, LegalRun, after_run}
use Rattle.ncp_proof_monitor_network.proofs.TallyDiamond.{LeavesRight, open_unleft, led_side, one_sex, sex_one, counts_kept, theirs_leave, ours_leave, legal_after_theirs, legal_after_ours}

-- ---- where the same was said

pub alike_self : (x : Said) → SaidAlike x x
alike_self x = record { shapes = λ u. refl; users = λ s link. refl; counts = λ u. refl; owing = λ s. refl }

pub alike_back : {x y : Said} → SaidAlike x y → SaidAlike y x
alike_back e = record { shapes = λ u. sym (e.shapes u); users = λ s link. sym (e.users s link); counts = λ u. sym (e.counts u); owing = λ s. sym (e.owing s) }

pub alike_then : {x y z : Said} → SaidAlike x y → SaidAlike y z → SaidAlike x z
alike_then e f = record {
  shapes = λ u. e.shapes u ∙ f.shapes u;
  users = λ s link. e.users s link ∙ f.users s link;
  counts = λ u. e.counts u ∙ f.counts u;
  owing = λ s. e.owing s ∙ f.owing s;
}

-- the same may be said
fits_alike : (s : Bool) (o : Option (Sockets × Say)) (m n : Sockets → Option Shape) → ((u : Sockets) → m u ≡ n u) → FitsBy s o m → FitsBy s o n
fits_alike s None m n e f = tt
fits_alike s (Some (p, a)) m n e f = ap (may_say s a) (sym (e p)) ∙ f

led_alike : (s r : Bool) (o p : Option Sockets) (m n : Sockets → Option Shape) (f g : Sockets → Type 0) → o ≡ p → ((u : Sockets) → m u ≡ n u) → ((u : Sockets) → f u → g u) → IsDemuxed s r o m f → IsDemuxed s r p n g
led_alike s r o p m n f g e k h led = subst (λ (q : Option Sockets). IsDemuxed s r q n g) e (go o led)
  where
    go : (q : Option Sockets) → IsDemuxed s r q m f → IsDemuxed s r q n g
    go None led = absurd led
    go (Some u) led = (led.0, ap (is_open_by s) (sym (k u)) ∙ led.1, h u led.2)

tally_alike : (s : Bool) (c : Command) (x y : Said) → SaidAlike x y → TallyLegal s c x → TallyLegal s c y
tally_alike s (Rts receive send link) x y e t = sym (e.users s link) ∙ t
tally_alike s (Str send receive size) x y e t = tt
tally_alike s (Cls my your) x y e t = tt
tally_alike s (Eco byte) x y e t = ap has_echo (sym (e.owing (not s))) ∙ t
tally_alike s (Erp byte) x y e t = subst (NextOwed (is_echo_of byte) any_owing) (e.owing s) t
tally_alike s (Err code bytes) x y e t = absurd t
tally_alike s Nop x y e t = tt
tally_alike s (All link messages bits) x y e t =
    led_alike s s (x.users s link) (y.users s link) x.shapes y.shapes (λ u. ((x.counts u).messages + messages ≤ 65535) × ((x.counts u).bits + bits ≤ 65536)) (λ u. ((y.counts u).messages + messages ≤ 65535) × ((y.counts u).bits + bits ≤ 65536)) (e.users s link) e.shapes
    (λ u k. subst (λ (j : Count). (j.messages + messages ≤ 65535) × (j.bits + bits ≤ 65536)) (e.counts u) k) t
tally_alike s (Gvb link fm fb) x y e t =
    led_alike s s (x.users s link) (y.users s link) x.shapes y.shapes (λ u. (x.counts u).recall ≡ false) (λ u. (y.counts u).recall ≡ false) (e.users s link) e.shapes (λ u k. subst (λ (j : Count). j.recall ≡ false) (e.counts u) k) t
tally_alike s (Ret link messages bits) x y e t =
    led_alike s (not s) (x.users (not s) link) (y.users (not s) link) x.shapes y.shapes (λ u. ((x.counts u).recall ≡ true) × NextOwed (is_returning_on link) (HasNumbers s messages bits (x.counts u)) (x.owing s)) (λ u. ((y.counts u).recall ≡ true) × NextOwed (is_returning_on link) (HasNumbers s messages bits (y.counts u)) (y.owing s)) (e.users (not s) link) e.shapes
    (λ u k. subst (λ (os : List Owing). ((y.counts u).recall ≡ true) × NextOwed (is_returning_on link) (HasNumbers s messages bits (y.counts u)) os) (e.owing s)
    (subst (λ (j : Count). (j.recall ≡ true) × NextOwed (is_returning_on link) (HasNumbers s messages bits j) (x.owing s)) (e.counts u) k)) t
tally_alike s (Inr link) x y e t =
    led_alike s s (x.users s link) (y.users s link) x.shapes y.shapes (λ u. Unit {0}) (λ u. Unit {0}) (e.users s link) e.shapes (λ u k. tt) t
tally_alike s (Ins link) x y e t =
    led_alike s (not s) (x.users (not s) link) (y.users (not s) link) x.shapes y.shapes (λ u. Unit {0}) (λ u. Unit {0}) (e.users (not s) link) e.shapes (λ u k. tt) t
tally_alike s Rst x y e t = tt
tally_alike s Rrp x y e t = tt

pub legal_alike : (s : Bool) (c : Command) {x y : Said} → SaidAlike x y → Legal s c x → Legal s c y
legal_alike s c {x} {y} e l = record { right = l.right; fits = fits_alike s (say_of s c) x.shapes y.shapes e.shapes l.fits; tally = tally_alike s c x y e l.tally }

-- ---- what a command does to the users, to what is counted, and to what is owed

-- of the users: a link is given, or a connection ends
abbrev users_moved : Bool → Option ℕ → Option (Sockets × Say) → (Sockets → Option Shape) → (Bool → ℕ → Option Sockets) → Bool → ℕ → Option Sockets
users_moved s o None m users = users
users_moved s None (Some (p, Ask number)) m users = users
users_moved s (Some link) (Some (p, Ask number)) m users = users_put users s link p
users_moved s o (Some (p, Leave)) m users = users_after_cls (left_by (not s) (m p)) p users

-- the link that a receiver asks for
abbrev link_wanted : Command → Option ℕ
link_wanted (Rts receive send link) = Some link
link_wanted c = None

users_read : (s : Bool) (c : Command) (x : Said) → users_after s c x ≡ users_moved s (link_wanted c) (say_of s c) x.shapes x.users
users_read s (Rts receive send link) x = refl
users_read s (Str send receive size) x = refl
users_read s (Cls my your) x = refl
users_read s (Eco byte) x = refl
users_read s (Erp byte) x = refl
users_read s (Err code bytes) x = refl
users_read s Nop x = refl
users_read s (All link messages bits) x = refl
users_read s (Gvb link fm fb) x = refl
users_read s (Ret link messages bits) x = refl
users_read s (Inr link) x = refl
users_read s (Ins link) x = refl
users_read s Rst x = refl
users_read s Rrp x = refl

-- of one connection, what is counted of it
abbrev count_changed : Bool → Command → Said → Option Sockets
count_changed s (Cls my your) x = if left_by (not s) (x.shapes (sockets_by s my your)) then Some (sockets_by s my your) else None
count_changed s (All link messages bits) x = x.users s link
count_changed s (Gvb link fm fb) x = x.users s link
count_changed s (Ret link messages bits) x = x.users (not s) link
count_changed s c x = None

abbrev count_then : Bool → Command → Count → Count
count_then s (Cls my your) k = no_count
count_then s (All link messages bits) k = counted_on messages bits k
count_then s (Gvb link fm fb) k = recalled_by s fm fb k
count_then s (Ret link messages bits) k = returned_by s messages bits k
count_then s c k = k

counts_read : (s : Bool) (c : Command) (x : Said) (u : Sockets) → counts_said s c x u ≡ count_put x.counts (count_changed s c x) (count_then s c) u
counts_read s (Rts receive send link) x u = refl
counts_read s (Str send receive size) x u = refl
counts_read s (Cls my your) x u = go (left_by (not s) (x.shapes (sockets_by s my your)))
  where
    go : (over : Bool) → counts_after_cls over (sockets_by s my your) x.counts u ≡ count_put x.counts (if over then Some (sockets_by s my your) else None) (λ k. no_count) u
    go true = refl
    go false = refl
counts_read s (Eco byte) x u = refl
counts_read s (Erp byte) x u = refl
counts_read s (Err code bytes) x u = refl
counts_read s Nop x u = refl
counts_read s (All link messages bits) x u = refl
counts_read s (Gvb link fm fb) x u = refl
counts_read s (Ret link messages bits) x u = refl
counts_read s (Inr link) x u = refl
counts_read s (Ins link) x u = refl
counts_read s Rst x u = refl
counts_read s Rrp x u = refl

-- of what the speaker owes
abbrev struck_by : Bool → Command → List Owing → List Owing
struck_by s (Cls my your) os = owing_without (sockets_by s my your) os
struck_by s (Erp byte) os = owed_after (is_echo_of byte) os
struck_by s (Ret link messages bits) os = owed_after (is_returning_on link) os
struck_by s c os = os

-- and what is owed to it from then on
abbrev asks_for : Bool → Command → Said → List Owing
asks_for s (Eco byte) x = Echoes byte ∷ []
asks_for s (Gvb link fm fb) x = return_asked s link fm fb x.shapes x.counts (x.users s link)
asks_for s c x = []

by_side_here : (s : Bool) (now : List Owing) (owing : Bool → List Owing) → by_side s now owing s ≡ now
by_side_here true now owing = refl
by_side_here false now owing = refl

by_side_there : (s : Bool) (now : List Owing) (owing : Bool → List Owing) → by_side s now owing (not s) ≡ owing (not s)
by_side_there true now owing = refl
by_side_there false now owing = refl

by_side_back : (s : Bool) (now : List Owing) (owing : Bool → List Owing) → by_side (not s) now owing s ≡ owing s
by_side_back true now owing = refl
by_side_back false now owing = refl

struck_read : (s : Bool) (c : Command) (x : Said) → owing_after s c x s ≡ struck_by s c (x.owing s)
struck_read s (Rts receive send link) x = refl
struck_read s (Str send receive size) x = refl
struck_read s (Cls my your) x = by_side_here s (owing_without (sockets_by s my your) (x.owing s)) x.owing
struck_read s (Eco byte) x = by_side_back s (x.owing (not s) ++ Echoes byte ∷ []) x.owing
struck_read s (Erp byte) x = by_side_here s (owed_after (is_echo_of byte) (x.owing s)) x.owing
struck_read s (Err code bytes) x = refl
struck_read s Nop x = refl
struck_read s (All link messages bits) x = refl
struck_read s (Gvb link fm fb) x = by_side_back s (x.owing (not s) ++ return_asked s link fm fb x.shapes x.counts (x.users s link)) x.owing
struck_read s (Ret link messages bits) x = by_side_here s (owed_after (is_returning_on link) (x.owing s)) x.owing
struck_read s (Inr link) x = refl
struck_read s (Ins link) x = refl
struck_read s Rst x = refl
struck_read s Rrp x = refl

asks_read : (s : Bool) (c : Command) (x : Said) → owing_after s c x (not s) ≡ x.owing (not s) ++ asks_for s c x
asks_read s (Rts receive send link) x = no_more (x.owing (not s))
asks_read s (Str send receive size) x = no_more (x.owing (not s))
asks_read s (Cls my your) x = by_side_there s (owing_without (sockets_by s my your) (x.owing s)) x.owing ∙ no_more (x.owing (not s))
asks_read s (Eco byte) x = by_side_here (not s) (x.owing (not s) ++ Echoes byte ∷ []) x.owing
asks_read s (Erp byte) x = by_side_there s (owed_after (is_echo_of byte) (x.owing s)) x.owing ∙ no_more (x.owing (not s))
asks_read s (Err code bytes) x = no_more (x.owing (not s))
asks_read s Nop x = no_more (x.owing (not s))
asks_read s (All link messages bits) x = no_more (x.owing (not s))
asks_read s (Gvb link fm fb) x = by_side_here (not s) (x.owing (not s) ++ return_asked s link fm fb x.shapes x.counts (x.users s link)) x.owing
asks_read s (Ret link messages bits) x = by_side_there s (owed_after (is_returning_on link) (x.owing s)) x.owing ∙ no_more (x.owing (not s))
asks_read s (Inr link) x = no_more (x.owing (not s))
asks_read s (Ins link) x = no_more (x.owing (not s))
asks_read s Rst x = no_more (x.owing (not s))
asks_read s Rrp x = no_more (x.owing (not s))

-- ---- and the same is after it, where the same was before

say_alike : (s : Bool) (o : Option (Sockets × Say)) (m n : Sockets → Option Shape) → ((u : Sockets) → m u ≡ n u) → (u : Sockets) → after_say s o m u ≡ after_say s o n u
say_alike s None m n e u = e u
say_alike s (Some (p, a)) m n e u = go (same u p)
  where
    go : (b : Bool) → (if b then step s a (m p) else m u) ≡ (if b then step s a (n p) else n u)
    go true = ap (step s a) (e p)
    go false = e u

put_alike : (users known : Bool → ℕ → Option Sockets) → ((r : Bool) (l : ℕ) → users r l ≡ known r l) → (s : Bool) (link : ℕ) (p : Sockets) (r : Bool) (l : ℕ) → users_put users s link p r l ≡ users_put known s link p r l
put_alike users known e true link p true l = ap (λ (o : Option Sockets). if l == link then Some p else o) (e true l)
put_alike users known e true link p false l = e false l
put_alike users known e false link p true l = e true l
put_alike users known e false link p false l = ap (λ (o : Option Sockets). if l == link then Some p else o) (e false l)

cls_alike : (users known : Bool → ℕ → Option Sockets) → ((r : Bool) (l : ℕ) → users r l ≡ known r l) → (b c : Bool) → b ≡ c → (p : Sockets) (r : Bool) (l : ℕ) → users_after_cls b p users r l ≡ users_after_cls c p known r l
cls_alike users known e b c k p r l =
    ap (λ (o : Option Sockets). if b then (if is_user p o then None else o) else o) (e r l) ∙ ap (λ (a : Bool). users_after_cls a p known r l) k

moved_alike : (s : Bool) (o : Option ℕ) (a : Option (Sockets × Say)) (m n : Sockets → Option Shape) (users known : Bool → ℕ → Option Sockets) → ((u : Sockets) → m u ≡ n u) → ((r : Bool) (l : ℕ) → users r l ≡ known r l)
    → (r : Bool) (l : ℕ) → users_moved s o a m users r l ≡ users_moved s o a n known r l
moved_alike s o None m n users known e f r l = f r l
moved_alike s None (Some (p, Ask number)) m n users known e f r l = f r l
moved_alike s (Some link) (Some (p, Ask number)) m n users known e f r l = put_alike users known f s link p r l
moved_alike s None (Some (p, Leave)) m n users known e f r l = cls_alike users known f (left_by (not s) (m p)) (left_by (not s) (n p)) (ap (left_by (not s)) (e p)) p r l
moved_alike s (Some link) (Some (p, Leave)) m n users known e f r l = cls_alike users known f (left_by (not s) (m p)) (left_by (not s) (n p)) (ap (left_by (not s)) (e p)) p r l

count_alike : (counts known : Sockets → Count) (o p : Option Sockets) (f : Count → Count) (u : Sockets) → counts u ≡ known u → o ≡ p → count_put counts o f u ≡ count_put known p f u
count_alike counts known o p f u e k = go o ∙ ap (λ (q : Option Sockets). count_put known q f u) k
  where
    go : (q : Option Sockets) → count_put counts q f u ≡ count_put known q f u
    go None = e
    go (Some v) = ap (λ (j : Count). if same u v then f j else j) e

counted_alike : (s : Bool) (c : Command) (x y : Said) → SaidAlike x y → count_changed s c x ≡ count_changed s c y
counted_alike s (Rts receive send link) x y e = refl
counted_alike s (Str send receive size) x y e = refl
counted_alike s (Cls my your) x y e = ap (λ (m : Option Shape). if left_by (not s) m then Some (sockets_by s my your) else None) (e.shapes (sockets_by s my your))
counted_alike s (Eco byte) x y e = refl
counted_alike s (Erp byte) x y e = refl
counted_alike s (Err code bytes) x y e = refl
counted_alike s Nop x y e = refl
counted_alike s (All link messages bits) x y e = e.users s link
counted_alike s (Gvb link fm fb) x y e = e.users s link
counted_alike s (Ret link messages bits) x y e = e.users (not s) link
counted_alike s (Inr link) x y e = refl
counted_alike s (Ins link) x y e = refl
counted_alike s Rst x y e = refl
counted_alike s Rrp x y e = refl

-- the RET of a connection that has the same counts, and was left or not
back_alike : (s : Bool) (link fm fb : ℕ) (m n : Sockets → Option Shape) (counts known : Sockets → Count) (o p : Option Sockets) → o ≡ p → ((u : Sockets) → o ≡ Some u → left_by (not s) (m u) ≡ left_by (not s) (n u))
    → ((u : Sockets) → o ≡ Some u → ((counts u).messages ≡ (known u).messages) × ((counts u).bits ≡ (known u).bits)) → return_asked s link fm fb m counts o ≡ return_asked s link fm fb n known p
back_alike s link fm fb m n counts known o p e f g = go o f g ∙ ap (return_asked s link fm fb n known) e
  where
    go : (q : Option Sockets) → ((u : Sockets) → q ≡ Some u → left_by (not s) (m u) ≡ left_by (not s) (n u)) → ((u : Sockets) → q ≡ Some u → ((counts u).messages ≡ (known u).messages) × ((counts u).bits ≡ (known u).bits))
        → return_asked s link fm fb m counts q ≡ return_asked s link fm fb n known q
    go None f g = refl
    go (Some u) f g =
        let k = g u refl in
        ap (λ (b : Bool). if b then [] else Returning u link (part_returned (counts u).messages fm) (part_returned (counts u).bits fb) ∷ []) (f u refl)
        ∙ ap (λ (a : ℕ). if left_by (not s) (n u) then [] else Returning u link (part_returned a fm) (part_returned (counts u).bits fb) ∷ []) k.0
        ∙ ap (λ (a : ℕ). if left_by (not s) (n u) then [] else Returning u link (part_returned (known u).messages fm) (part_returned a fb) ∷ []) k.1

asks_alike : (s : Bool) (c : Command) (x y : Said) → SaidAlike x y → asks_for s c x ≡ asks_for s c y
asks_alike s (Rts receive send link) x y e = refl
asks_alike s (Str send receive size) x y e = refl
asks_alike s (Cls my your) x y e = refl
asks_alike s (Eco byte) x y e = refl
asks_alike s (Erp byte) x y e = refl
asks_alike s (Err code bytes) x y e = refl
asks_alike s Nop x y e = refl
asks_alike s (All link messages bits) x y e = refl
asks_alike s (Gvb link fm fb) x y e =
    back_alike s link fm fb x.shapes y.shapes x.counts y.counts (x.users s link) (y.users s link) (e.users s link) (λ u k. ap (left_by (not s)) (e.shapes u))
    (λ u k. (ap (λ (j : Count). j.messages) (e.counts u), ap (λ (j : Count). j.bits) (e.counts u)))
asks_alike s (Ret link messages bits) x y e = refl
asks_alike s (Inr link) x y e = refl
asks_alike s (Ins link) x y e = refl
asks_alike s Rst x y e = refl
asks_alike s Rrp x y e = refl

owing_alike : (s : Bool) (c : Command) (x y : Said) → SaidAlike x y → (r : Bool) → owing_after s c x r ≡ owing_after s c y r
owing_alike s c x y e r = go s r
  where
    here : (t : Bool) → owing_after t c x t ≡ owing_after t c y t
    here t = struck_read t c x ∙ ap (struck_by t c) (e.owing t) ∙ sym (struck_read t c y)

    there : (t : Bool) → owing_after t c x (not t) ≡ owing_after t c y (not t)
    there t = asks_read t c x ∙ ap (λ (os : List Owing). os ++ asks_for t c x) (e.owing (not t)) ∙ ap (λ (os : List Owing). y.owing (not t) ++ os) (asks_alike t c x y e) ∙ sym (asks_read t c y)

    go : (t q : Bool) → owing_after t c x q ≡ owing_after t c y q
    go true true = here true
    go true false = there true
    go false true = there false
    go false false = here false

pub after_alike : (s : Bool) (c : Command) {x y : Said} → SaidAlike x y → SaidAlike (after_said_by s c x) (after_said_by s c y)
after_alike s c {x} {y} e = record {
  shapes = say_alike s (say_of s c) x.shapes y.shapes e.shapes;
  users = λ r l. ap (λ (f : Bool → ℕ → Option Sockets). f r l) (users_read s c x) ∙ moved_alike s (link_wanted c) (say_of s c) x.shapes y.shapes x.users y.users e.shapes e.users r l
      ∙ sym (ap (λ (f : Bool → ℕ → Option Sockets). f r l) (users_read s c y));
  counts = λ u. counts_read s c x u ∙ count_alike x.counts y.counts (count_changed s c x) (count_changed s c y) (count_then s c) u (e.counts u) (counted_alike s c x y e) ∙ sym (counts_read s c y u);
  owing = owing_alike s c x y e;
}

pub run_alike : (s : Bool) (cs : List Command) {x y : Said} → SaidAlike x y → SaidAlike (after_run s cs x) (after_run s cs y)
run_alike s [] e = e
run_alike s (c ∷ cs) e = run_alike s cs (after_alike s c e)

pub legal_run_alike : (s : Bool) (cs : List Command) {x y : Said} → SaidAlike x y → LegalRun s cs x → LegalRun s cs y
legal_run_alike s [] e l = tt
legal_run_alike s (c ∷ cs) e (l, r) = (legal_alike s c e l, legal_run_alike s cs (after_alike s c e) r)

-- ---- one connection

record Commutes (a b : Say) (m : Option Shape) : Type 0 where
  pub own : legal a (their_step b m) ≡ true
  pub others : their_legal b (own_step a m) ≡ true
  pub same : own_step a (their_step b m) ≡ their_step b (own_step a m)

commutes : (a b : Say) (m : Option Shape) → legal a m ≡ true → their_legal b m ≡ true → Commutes a b m
commutes a b m l t =
    let waits : Agrees (a ∷ []) (own_step a m) m = (l, refl) in
    let after = hears (a ∷ []) (own_step a m) m b t waits in
    record { own = after.0; others = may_hear (a ∷ []) (own_step a m) m b t waits; same = after.1 }

-- ---- all connections: one says something of p, the other of q

record Diamond (o r : Option (Sockets × Say)) (m : Sockets → Option Shape) : Type 0 where
  pub own : FitsBy true o (after_say false r m)
  pub others : FitsBy false r (after_say true o m)
  pub same : (u : Sockets) → after_say true o (after_say false r m) u ≡ after_say false r (after_say true o m) u

diamond_says : (p : Sockets) (a : Say) (q : Sockets) (b : Say) (m : Sockets → Option Shape) → legal a (m p) ≡ true → their_legal b (m q) ≡ true → Diamond (Some (p, a)) (Some (q, b)) m
diamond_says p a q b m l t = go (same p q) (same q p) refl refl
  where
    -- of the same
    here : p ≡ q → Commutes a b (m p)
    here e = commutes a b (m p) l (subst (λ (x : Sockets). their_legal b (m x) ≡ true) (sym e) t)

    itself : (x : Sockets) → same x x ≡ true
    itself (i, j) = rw (eq-eqb i i refl, eq-eqb j j refl) refl

    apart : {A : Type 0} → p ≡ q → same q p ≡ false → A
    apart e d = let nay : true ≡ false = sym (ap (λ (x : Sockets). same x p) (sym e) ∙ itself p) ∙ d in absurd (cc nay)

    both : (u : Sockets) → p ≡ q → (x y : Bool) → same u p ≡ x → same u q ≡ y
        → (if x then own_step a (their_step b (m q)) else if y then their_step b (m q) else m u) ≡ (if y then their_step b (own_step a (m p)) else if x then own_step a (m p) else m u)
    both u e true true s r = subst (λ (x : Sockets). own_step a (their_step b (m x)) ≡ their_step b (own_step a (m p))) e (here e).same
    both u e true false s r = let nay : true ≡ false = sym s ∙ ap (same u) e ∙ r in absurd (cc nay)
    both u e false true s r = let nay : false ≡ true = sym s ∙ ap (same u) e ∙ r in absurd (cc nay)
    both u e false false s r = refl

    each : (u : Sockets) → same p q ≡ false → (x y : Bool) → same u p ≡ x → same u q ≡ y
        → (if x then own_step a (m p) else if y then their_step b (m q) else m u) ≡ (if y then their_step b (m q) else if x then own_step a (m p) else m u)
    each u d true true s r = let nay : true ≡ false = sym r ∙ ap (λ (x : Sockets). same x q) (same_is u p s) ∙ d in absurd (cc nay)
    each u d true false s r = refl
    each u d false true s r = refl
    each u d false false s r = refl

    go : (x y : Bool) → same p q ≡ x → same q p ≡ y → Diamond (Some (p, a)) (Some (q, b)) m
    go true true s r =
        let e = same_is p q s in
        let k = here e in
        record {
          own = rw s (subst (λ (x : Sockets). legal a (their_step b (m x)) ≡ true) e k.own);
          others = rw r k.others;
          same = λ u. rw (s, r) (both u e (same u p) (same u q) refl refl);
        }
    go true false s r = apart (same_is p q s) r
    go false true s r = let nay : true ≡ false = sym (ap (λ (x : Sockets). same p x) (same_is q p r) ∙ itself p) ∙ s in absurd (cc nay)
    go false false s r = record { own = rw s l; others = rw r t; same = λ u. rw (s, r) (each u s (same u p) (same u q) refl refl) }

diamond_shapes : (o r : Option (Sockets × Say)) (m : Sockets → Option Shape) → FitsBy true o m → FitsBy false r m → Diamond o r m
diamond_shapes None None m l t = record { own = tt; others = tt; same = λ u. refl }
diamond_shapes None (Some (q, b)) m l t = record { own = tt; others = t; same = λ u. refl }
diamond_shapes (Some (p, a)) None m l t = record { own = l; others = tt; same = λ u. refl }
diamond_shapes (Some (p, a)) (Some (q, b)) m l t = diamond_says p a q b m l t

-- ---- who has left

unless : (b : Bool) → not b ≡ true → b ≡ false
unless true e = absurd (cc e)
unless false e = refl

-- a side that may say something of a connection has not left it
pub says_unleft : (s : Bool) (a : Say) (m : Option Shape) → may_say s a m ≡ true → left_by s m ≡ false
says_unleft s a None l = refl
says_unleft true (Ask n) (Some m) l = unless m.left (and_parts (not (is_some m.own)) (not m.left) l).1
says_unleft true Leave (Some m) l = unless m.left l
says_unleft false (Ask n) (Some m) l = unless m.cls (and_parts (not (is_some m.others)) (not m.cls) l).1
says_unleft false Leave (Some m) l = unless m.cls l

-- a request leaves that as it is
asked_left : (s t : Bool) (n : ℕ) (m : Option Shape) → left_by t (step s (Ask n) m) ≡ left_by t m
asked_left true true n None = refl
asked_left true false n None = refl
asked_left false true n None = refl
asked_left false false n None = refl
asked_left true true n (Some m) = refl
asked_left true false n (Some m) = refl
asked_left false true n (Some m) = refl
asked_left false false n (Some m) = refl

pub kept_left : (s t : Bool) (p : Sockets) (n : ℕ) (m : Sockets → Option Shape) (u : Sockets) → left_by t (after_say s (Some (p, Ask n)) m u) ≡ left_by t (m u)
kept_left s t p n m u = go (same u p) refl
  where
    go : (b : Bool) → same u p ≡ b → left_by t (if b then step s (Ask n) (m p) else m u) ≡ left_by t (m u)
    go true e = asked_left s t n (m p) ∙ ap (λ (v : Sockets). left_by t (m v)) (sym (same_is u p e))
    go false e = refl

-- with a CLS that is the first it has left
pub closed_left : (s : Bool) (m : Option Shape) → may_say s Leave m ≡ true → left_by (not s) m ≡ false → left_by s (step s Leave m) ≡ true
closed_left true None l e = absurd (cc l)
closed_left false None l e = absurd (cc l)
closed_left true (Some m) l e = ap (λ (b : Bool). left_by true (if b then None else Some (record m { left = true }))) e
closed_left false (Some m) l e = ap (λ (b : Bool). left_by false (if b then None else Some (record m { cls = true }))) e

itself : (u : Sockets) → same u u ≡ true
itself (i, j) = rw (eq-eqb i i refl, eq-eqb j j refl) refl

pub same_back : (u v : Sockets) → same u v ≡ false → same v u ≡ false
same_back u v e = go (same v u) refl
  where
    go : (b : Bool) → same v u ≡ b → same v u ≡ false
    go true d = let nay : true ≡ false = sym (itself u) ∙ ap (same u) (sym (same_is v u d)) ∙ e in absurd (cc nay)
    go false d = d

-- a side has left one connection and not the other: they differ
pub unlike : (s : Bool) (m : Sockets → Option Shape) (p q : Sockets) → left_by s (m p) ≡ false → left_by s (m q) ≡ true → same p q ≡ false
unlike s m p q e f = go (same p q) refl
  where
    go : (b : Bool) → same p q ≡ b → same p q ≡ false
    go true d = let nay : true ≡ false = sym f ∙ ap (λ (v : Sockets). left_by s (m v)) (sym (same_is p q d)) ∙ e in absurd (cc nay)
    go false d = d

-- both leave: the same connection, which the later CLS ends; or two
data BothLeave (p q : Sockets) (m : Sockets → Option Shape) : Type 0 where
  One : p ≡ q → left_by true (m q) ≡ false → left_by false (m p) ≡ false → left_by false (after_say false (Some (q, Leave)) m p) ≡ true → left_by true (after_say true (Some (p, Leave)) m q) ≡ true → BothLeave p q m
  Two : left_by false (after_say false (Some (q, Leave)) m p) ≡ left_by false (m p) → left_by true (after_say true (Some (p, Leave)) m q) ≡ left_by true (m q) → BothLeave p q m

both_leave : (p q : Sockets) (m : Sockets → Option Shape) → may_say true Leave (m p) ≡ true → may_say false Leave (m q) ≡ true → BothLeave p q m
both_leave p q m l t = go (same p q) refl
  where
    go : (b : Bool) → same p q ≡ b → BothLeave p q m
    go true e =
        let is = same_is p q e in
        let own : left_by true (m q) ≡ false = ap (λ (v : Sockets). left_by true (m v)) (sym is) ∙ says_unleft true Leave (m p) l in
        let others : left_by false (m p) ≡ false = ap (λ (v : Sockets). left_by false (m v)) is ∙ says_unleft false Leave (m q) t in
        let back : same q p ≡ true = ap (λ (v : Sockets). same v p) (sym is) ∙ itself p in
        One is own others
        (ap (λ (b : Bool). left_by false (if b then their_step Leave (m q) else m p)) e ∙ closed_left false (m q) t own)
        (ap (λ (b : Bool). left_by true (if b then own_step Leave (m p) else m q)) back ∙ closed_left true (m p) l others)
    go false e =
        Two (ap (λ (b : Bool). left_by false (if b then their_step Leave (m q) else m p)) e)
        (ap (λ (b : Bool). left_by true (if b then own_step Leave (m p) else m q)) (same_back p q e))

-- ---- the users, in either order

put_put : (users : Bool → ℕ → Option Sockets) (l k : ℕ) (p q : Sockets) (r : Bool) (n : ℕ) → users_put (users_put users false k q) true l p r n ≡ users_put (users_put users true l p) false k q r n
put_put users l k p q true n = refl
put_put users l k p q false n = refl

put_cls : (users : Bool → ℕ → Option Sockets) (s : Bool) (link : ℕ) (p : Sockets) (over : Bool) (q : Sockets) → (over ≡ true → same p q ≡ false) → (r : Bool) (n : ℕ)
    → users_put (users_after_cls over q users) s link p r n ≡ users_after_cls over q (users_put users s link p) r n
put_cls users s link p over q f r n = go over s r f
  where
    here : (o : Option Sockets) → same p q ≡ false → (b : Bool) → (if b then Some p else (if is_user q o then None else o)) ≡ (if is_user q (if b then Some p else o) then None else (if b then Some p else o))
    here o e true = ap (λ (d : Bool). if d then None else Some p) (sym e)
    here o e false = refl

    go : (a t w : Bool) → (a ≡ true → same p q ≡ false) → users_put (users_after_cls a q users) t link p w n ≡ users_after_cls a q (users_put users t link p) w n
    go false true true f = refl
    go false true false f = refl
    go false false true f = refl
    go false false false f = refl
    go true true true f = here (users true n) (f refl) (n == link)
    go true true false f = refl
    go true false true f = refl
    go true false false f = here (users false n) (f refl) (n == link)

cls_cls : (users : Bool → ℕ → Option Sockets) (a b : Bool) (p q : Sockets) (r : Bool) (n : ℕ) → users_after_cls a p (users_after_cls b q users) r n ≡ users_after_cls b q (users_after_cls a p users) r n
cls_cls users false b p q r n = refl
cls_cls users true false p q r n = refl
cls_cls users true true p q r n = go (users r n)
  where
    go : (o : Option Sockets) → (if is_user p (if is_user q o then None else o) then None else (if is_user q o then None else o)) ≡ (if is_user q (if is_user p o then None else o) then None else (if is_user p o then None else o))
    go None = refl
    go (Some v) = two (same v p) (same v q) refl refl
      where
        two : (x y : Bool) → same v p ≡ x → same v q ≡ y
            → (if is_user p (if y then None else Some v) then None else (if y then None else Some v)) ≡ (if is_user q (if x then None else Some v) then None else (if x then None else Some v))
        two true true e f = refl
        two true false e f = ap (λ (d : Bool). if d then None else Some v) e
        two false true e f = sym (ap (λ (d : Bool). if d then None else Some v) f)
        two false false e f = ap (λ (d : Bool). if d then None else Some v) e ∙ sym (ap (λ (d : Bool). if d then None else Some v) f)

-- a request, and a CLS of the other
ask_cls : (s : Bool) (link : ℕ) (p : Sockets) (n : ℕ) (q : Sockets) (m : Sockets → Option Shape) (users : Bool → ℕ → Option Sockets) → may_say s (Ask n) (m p) ≡ true → (r : Bool) (l : ℕ)
    → users_put (users_after_cls (left_by s (m q)) q users) s link p r l ≡ users_after_cls (left_by s (after_say s (Some (p, Ask n)) m q)) q (users_put users s link p) r l
ask_cls s link p n q m users may r l =
    put_cls users s link p (left_by s (m q)) q (λ e. unlike s m p q (says_unleft s (Ask n) (m p) may) e) r l
    ∙ ap (λ (b : Bool). users_after_cls b q (users_put users s link p) r l) (sym (kept_left s s p n m q))

users_diamond : (a b : Option ℕ) (o w : Option (Sockets × Say)) (m : Sockets → Option Shape) (users : Bool → ℕ → Option Sockets) → FitsBy true o m → FitsBy false w m → (r : Bool) (l : ℕ)
    → users_moved true a o (after_say false w m) (users_moved false b w m users) r l ≡ users_moved false b w (after_say true o m) (users_moved true a o m users) r l
users_diamond a b None w m users f g r l = refl
users_diamond a b (Some (p, Ask n)) None m users f g r l = refl
users_diamond a b (Some (p, Leave)) None m users f g r l = refl
users_diamond None None (Some (p, Ask n)) (Some (q, Ask k)) m users f g r l = refl
users_diamond None (Some v) (Some (p, Ask n)) (Some (q, Ask k)) m users f g r l = refl
users_diamond (Some u) None (Some (p, Ask n)) (Some (q, Ask k)) m users f g r l = refl
users_diamond (Some u) (Some v) (Some (p, Ask n)) (Some (q, Ask k)) m users f g r l = put_put users u v p q r l
users_diamond None None (Some (p, Ask n)) (Some (q, Leave)) m users f g r l = ap (λ (c : Bool). users_after_cls c q users r l) (sym (kept_left true true p n m q))
users_diamond None (Some v) (Some (p, Ask n)) (Some (q, Leave)) m users f g r l = ap (λ (c : Bool). users_after_cls c q users r l) (sym (kept_left true true p n m q))
users_diamond (Some u) None (Some (p, Ask n)) (Some (q, Leave)) m users f g r l = ask_cls true u p n q m users f r l
users_diamond (Some u) (Some v) (Some (p, Ask n)) (Some (q, Leave)) m users f g r l = ask_cls true u p n q m users f r l
users_diamond None None (Some (p, Leave)) (Some (q, Ask k)) m users f g r l = ap (λ (c : Bool). users_after_cls c p users r l) (kept_left false false q k m p)
users_diamond (Some u) None (Some (p, Leave)) (Some (q, Ask k)) m users f g r l = ap (λ (c : Bool). users_after_cls c p users r l) (kept_left false false q k m p)
users_diamond None (Some v) (Some (p, Leave)) (Some (q, Ask k)) m users f g r l = sym (ask_cls false v q k p m users g r l)
users_diamond (Some u) (Some v) (Some (p, Leave)) (Some (q, Ask k)) m users f g r l = sym (ask_cls false v q k p m users g r l)
users_diamond a b (Some (p, Leave)) (Some (q, Leave)) m users f g r l = by_link a b (go (both_leave p q m f g))
  where
    go : BothLeave p q m
        → users_after_cls (left_by false (after_say false (Some (q, Leave)) m p)) p (users_after_cls (left_by true (m q)) q users) r l
        ≡ users_after_cls (left_by true (after_say true (Some (p, Leave)) m q)) q (users_after_cls (left_by false (m p)) p users) r l
    go (One is own others then_false then_true) =
        rw (own, others, then_false, then_true) (ap (λ (v : Sockets). users_after_cls true v users r l) is)
    go (Two e d) =
        ap (λ (c : Bool). users_after_cls c p (users_after_cls (left_by true (m q)) q users) r l) e
        ∙ cls_cls users (left_by false (m p)) (left_by true (m q)) p q r l
        ∙ ap (λ (c : Bool). users_after_cls c q (users_after_cls (left_by false (m p)) p users) r l) (sym d)

    by_link : (x y : Option ℕ)
        → users_after_cls (left_by false (after_say false (Some (q, Leave)) m p)) p (users_after_cls (left_by true (m q)) q users) r l
        ≡ users_after_cls (left_by true (after_say true (Some (p, Leave)) m q)) q (users_after_cls (left_by false (m p)) p users) r l
        → users_moved true x (Some (p, Leave)) (after_say false (Some (q, Leave)) m) (users_moved false y (Some (q, Leave)) m users) r l
        ≡ users_moved false y (Some (q, Leave)) (after_say true (Some (p, Leave)) m) (users_moved true x (Some (p, Leave)) m users) r l
    by_link None None e = e
    by_link None (Some v) e = e
    by_link (Some u) None e = e
    by_link (Some u) (Some v) e = e

-- ---- what is led: the connection is open for the one that speaks

led_open : (s r : Bool) (o : Option Sockets) (m : Sockets → Option Shape) (p : Sockets → Type 0) → IsDemuxed s r o m p → (u : Sockets) → o ≡ Some u → is_open_by s (m u) ≡ true
led_open s r None m p led u e = absurd led
led_open s r (Some v) m p led u e = let is : v ≡ u = cc e in subst (λ (w : Sockets). is_open_by s (m w) ≡ true) is led.1

led_what : (s r : Bool) (o : Option Sockets) (m : Sockets → Option Shape) (p : Sockets → Type 0) → IsDemuxed s r o m p → (u : Sockets) → o ≡ Some u → p u
led_what s r None m p led u e = absurd led
led_what s r (Some v) m p led u e = let is : v ≡ u = cc e in subst p is led.2

-- after what the other says it is the same
led_user : (s r : Bool) (link : ℕ) (x now : Said) (p : Sockets → Type 0) → LeavesRight s x now → IsDemuxed s r (x.users r link) x.shapes p → now.users r link ≡ x.users r link
led_user s r link x now p leaves led = go (x.users r link) refl led
  where
    go : (o : Option Sockets) → x.users r link ≡ o → IsDemuxed s r o x.shapes p → now.users r link ≡ x.users r link
    go None e led = absurd led
    go (Some u) e led = leaves.users r link u e led.1 ∙ sym e

next_what : (fits : Owing → Bool) (p : Owing → Type 0) (A : Type 0) (os : List Owing) → ((o : Owing) → p o → A) → NextOwed fits p os → A
next_what fits p A [] f n = absurd n
next_what fits p A (o ∷ os) f n = go (fits o) (is_echo o) n (next_what fits p A os f)
  where
    go : (b e : Bool) → Chosen b e (p o) (NextOwed fits p os) → (NextOwed fits p os → A) → A
    go true e n rest = f o n
    go false true n rest = absurd n
    go false false n rest = rest n

-- ---- what is counted, in either order

-- a side has not left a connection whose counts it changes
counted_unleft : (s : Bool) (c : Command) (x : Said) → Legal s c x → (u : Sockets) → count_changed s c x ≡ Some u → left_by s (x.shapes u) ≡ false
counted_unleft s (Rts receive send link) x l u e = absurd (cc e)
counted_unleft s (Str send receive size) x l u e = absurd (cc e)
counted_unleft s (Cls my your) x l u e = go (left_by (not s) (x.shapes (sockets_by s my your))) e
  where
    go : (b : Bool) → (if b then Some (sockets_by s my your) else None) ≡ Some u → left_by s (x.shapes u) ≡ false
    go true e = let is : sockets_by s my your ≡ u = cc e in ap (λ (v : Sockets). left_by s (x.shapes v)) (sym is) ∙ says_unleft s Leave (x.shapes (sockets_by s my your)) l.fits
    go false e = absurd (cc e)
counted_unleft s (Eco byte) x l u e = absurd (cc e)
counted_unleft s (Erp byte) x l u e = absurd (cc e)
counted_unleft s (Err code bytes) x l u e = absurd (cc e)
counted_unleft s Nop x l u e = absurd (cc e)
counted_unleft s (All link messages bits) x l u e = open_unleft s (x.shapes u) (led_open s s (x.users s link) x.shapes (λ v. ((x.counts v).messages + messages ≤ 65535) × ((x.counts v).bits + bits ≤ 65536)) l.tally u e)
counted_unleft s (Gvb link fm fb) x l u e = open_unleft s (x.shapes u) (led_open s s (x.users s link) x.shapes (λ v. (x.counts v).recall ≡ false) l.tally u e)
counted_unleft s (Ret link messages bits) x l u e = open_unleft s (x.shapes u) (led_open s (not s) (x.users (not s) link) x.shapes (λ v. ((x.counts v).recall ≡ true) × NextOwed (is_returning_on link) (HasNumbers s messages bits (x.counts v)) (x.owing s)) l.tally u e)
counted_unleft s (Inr link) x l u e = absurd (cc e)
counted_unleft s (Ins link) x l u e = absurd (cc e)
counted_unleft s Rst x l u e = absurd (cc e)
counted_unleft s Rrp x l u e = absurd (cc e)

-- which a CLS ends, the other has
counted_left : (s : Bool) (my your : ℕ) (x : Said) (u : Sockets) → count_changed s (Cls my your) x ≡ Some u → left_by (not s) (x.shapes u) ≡ true
counted_left s my your x u e = go (left_by (not s) (x.shapes (sockets_by s my your))) refl e
  where
    go : (b : Bool) → left_by (not s) (x.shapes (sockets_by s my your)) ≡ b → (if b then Some (sockets_by s my your) else None) ≡ Some u → left_by (not s) (x.shapes u) ≡ true
    go true k e = let is : sockets_by s my your ≡ u = cc e in ap (λ (v : Sockets). left_by (not s) (x.shapes v)) (sym is) ∙ k
    go false k e = absurd (cc e)

abbrev says_cls : Command → Bool
says_cls (Cls my your) = true
says_cls c = false

-- it changes what is counted of the same connection after what the other says, but where both leave
counted_kept : (s : Bool) (c d : Command) (x : Said) → (says_cls c && says_cls d) ≡ false → Legal s c x → LeavesRight s x (after_said_by (not s) d x) → count_changed s c (after_said_by (not s) d x) ≡ count_changed s c x
counted_kept s (Rts receive send link) d x k l leaves = refl
counted_kept s (Str send receive size) d x k l leaves = refl
counted_kept s (Cls my your) d x k l leaves = ap (λ (b : Bool). if b then Some (sockets_by s my your) else None) (go d k)
  where
    go : (d : Command) → says_cls d ≡ false → left_by (not s) (after_say (not s) (say_of (not s) d) x.shapes (sockets_by s my your)) ≡ left_by (not s) (x.shapes (sockets_by s my your))
    go (Rts receive send link) k = kept_left (not s) (not s) (sockets_by (not s) receive send) link x.shapes (sockets_by s my your)
    go (Str send receive size) k = kept_left (not s) (not s) (sockets_by (not s) send receive) size x.shapes (sockets_by s my your)
    go (Cls my your) k = absurd (cc k)
    go (Eco byte) k = refl
    go (Erp byte) k = refl
    go (Err code bytes) k = refl
    go Nop k = refl
    go (All link messages bits) k = refl
    go (Gvb link fm fb) k = refl
    go (Ret link messages bits) k = refl
    go (Inr link) k = refl
    go (Ins link) k = refl
    go Rst k = refl
    go Rrp k = refl
counted_kept s (Eco byte) d x k l leaves = refl
counted_kept s (Erp byte) d x k l leaves = refl
counted_kept s (Err code bytes) d x k l leaves = refl
counted_kept s Nop d x k l leaves = refl
counted_kept s (All link messages bits) d x k l leaves = led_user s s link x (after_said_by (not s) d x) (λ v. ((x.counts v).messages + messages ≤ 65535) × ((x.counts v).bits + bits ≤ 65536)) leaves l.tally
counted_kept s (Gvb link fm fb) d x k l leaves = led_user s s link x (after_said_by (not s) d x) (λ v. (x.counts v).recall ≡ false) leaves l.tally
counted_kept s (Ret link messages bits) d x k l leaves = led_user s (not s) link x (after_said_by (not s) d x) (λ v. ((x.counts v).recall ≡ true) × NextOwed (is_returning_on link) (HasNumbers s messages bits (x.counts v)) (x.owing s)) leaves l.tally
counted_kept s (Inr link) d x k l leaves = refl
counted_kept s (Ins link) d x k l leaves = refl
counted_kept s Rst d x k l leaves = refl
counted_kept s Rrp d x k l leaves = refl

count_swap : (counts : Sockets → Count) (o p : Option Sockets) (f g : Count → Count) (u : Sockets) → (o ≡ Some u → p ≡ Some u → f (g (counts u)) ≡ g (f (counts u)))
    → count_put (count_put counts p g) o f u ≡ count_put (count_put counts o f) p g u
count_swap counts None p f g u e = refl
count_swap counts (Some v) None f g u e = refl
count_swap counts (Some v) (Some w) f g u e = go (same u v) (same u w) refl refl
  where
    go : (a b : Bool) → same u v ≡ a → same u w ≡ b → (if a then f (if b then g (counts u) else counts u) else (if b then g (counts u) else counts u)) ≡ (if b then g (if a then f (counts u) else counts u) else (if a then f (counts u) else counts u))
    go true true a b = e (ap (λ (z : Sockets). Some z) (sym (same_is u v a))) (ap (λ (z : Sockets). Some z) (sym (same_is u w b)))
    go true false a b = refl
    go false true a b = refl
    go false false a b = refl

-- a RET of the other host takes off at most the counts
within : (m b : ℕ) (k : Count) (o : Owing) → HasNumbers false m b k o → (m ≤ k.messages) × (b ≤ k.bits)
within m b k (Echoes byte) h = absurd h
within m b k (Returning v on a c) h = (h.2, h.3)

-- both change the counts of one connection: an ALL of the one, and a RET of the other, which takes off at
-- most the counts
grant_return : (k : Count) (messages bits m b : ℕ) → m ≤ k.messages → b ≤ k.bits → counted_on messages bits (returned_by false m b k) ≡ returned_by false m b (counted_on messages bits k)
grant_return k messages bits m b e f =
    let one : (k.messages - m) + messages ≡ (k.messages + messages) - m = omega (arith, e) in
    let two : (k.bits - b) + bits ≡ (k.bits + bits) - b = omega (arith, f) in
    ap (λ (a : ℕ). record k { recall = false; messages = a; bits = (k.bits - b) + bits }) one ∙ ap (λ (a : ℕ). record k { recall = false; messages = (k.messages + messages) - m; bits = a }) two

module _ (x : Said) (u : Sockets) where
  abbrev Swaps : Command → Command → Type 0
  Swaps h k = count_then true h (count_then false k (x.counts u)) ≡ count_then false k (count_then true h (x.counts u))

  -- of one that receives, and of one that sends
  not_both : {A : Type 0} → receives_by true u ≡ true → receives_by false u ≡ true → A
  not_both a b = absurd (one_sex u u a b (itself u))

  -- the one has left, as the other has not
  no_cls : {A : Type 0} (s : Bool) → left_by s (x.shapes u) ≡ true → left_by s (x.shapes u) ≡ false → A
  no_cls s e f = let nay : true ≡ false = sym e ∙ f in absurd (cc nay)

  -- it was asked back, and was not
  no_recall : {A : Type 0} → (x.counts u).recall ≡ false → (x.counts u).recall ≡ true → A
  no_recall e f = let nay : false ≡ true = sym e ∙ f in absurd (cc nay)

  swaps : (h k : Command) → Legal true h x → Legal false k x → count_changed true h x ≡ Some u → count_changed false k x ≡ Some u → Swaps h k
  swaps (Rts receive send link) k l t e f = absurd (cc e)
  swaps (Str send receive size) k l t e f = absurd (cc e)
  swaps (Cls my your) k l t e f = no_cls false (counted_left true my your x u e) (counted_unleft false k x t u f)
  swaps (Eco byte) k l t e f = absurd (cc e)
  swaps (Erp byte) k l t e f = absurd (cc e)
  swaps (Err code bytes) k l t e f = absurd (cc e)
  swaps Nop k l t e f = absurd (cc e)
  swaps (All link messages bits) k l t e f = go k t f
    where
      go : (k : Command) → Legal false k x → count_changed false k x ≡ Some u → Swaps (All link messages bits) k
      go (Rts receive send link) t f = absurd (cc f)
      go (Str send receive size) t f = absurd (cc f)
      go (Cls mine yours) t f = no_cls true (counted_left false mine yours x u f) (counted_unleft true (All link messages bits) x l u e)
      go (Eco byte) t f = absurd (cc f)
      go (Erp byte) t f = absurd (cc f)
      go (Err code bytes) t f = absurd (cc f)
      go Nop t f = absurd (cc f)
      go (All on most most_bits) t f =
          not_both (led_side true true (x.users true link) x.shapes (λ v. ((x.counts v).messages + messages ≤ 65535) × ((x.counts v).bits + bits ≤ 65536)) l.tally u e)
          (led_side false false (x.users false on) x.shapes (λ v. ((x.counts v).messages + most ≤ 65535) × ((x.counts v).bits + most_bits ≤ 65536)) t.tally u f)
      go (Gvb on gm gb) t f =
          not_both (led_side true true (x.users true link) x.shapes (λ v. ((x.counts v).messages + messages ≤ 65535) × ((x.counts v).bits + bits ≤ 65536)) l.tally u e)
          (led_side false false (x.users false on) x.shapes (λ v. (x.counts v).recall ≡ false) t.tally u f)
      go (Ret on most most_bits) t f =
          let what = led_what false true (x.users true on) x.shapes (λ v. ((x.counts v).recall ≡ true) × NextOwed (is_returning_on on) (HasNumbers false most most_bits (x.counts v)) (x.owing false)) t.tally u f in
          let less = next_what (is_returning_on on) (HasNumbers false most most_bits (x.counts u)) ((most ≤ (x.counts u).messages) × (most_bits ≤ (x.counts u).bits)) (x.owing false) (within most most_bits (x.counts u)) what.1 in
          grant_return (x.counts u) messages bits most most_bits less.0 less.1
      go (Inr link) t f = absurd (cc f)
      go (Ins link) t f = absurd (cc f)
      go Rst t f = absurd (cc f)
      go Rrp t f = absurd (cc f)
  swaps (Gvb link fm fb) k l t e f = go k t f
    where
      go : (k : Command) → Legal false k x → count_changed false k x ≡ Some u → Swaps (Gvb link fm fb) k
      go (Rts receive send link) t f = absurd (cc f)
      go (Str send receive size) t f = absurd (cc f)
      go (Cls mine yours) t f = no_cls true (counted_left false mine yours x u f) (counted_unleft true (Gvb link fm fb) x l u e)
      go (Eco byte) t f = absurd (cc f)
      go (Erp byte) t f = absurd (cc f)
      go (Err code bytes) t f = absurd (cc f)
      go Nop t f = absurd (cc f)
      go (All on most most_bits) t f =
          not_both (led_side true true (x.users true link) x.shapes (λ v. (x.counts v).recall ≡ false) l.tally u e)
          (led_side false false (x.users false on) x.shapes (λ v. ((x.counts v).messages + most ≤ 65535) × ((x.counts v).bits + most_bits ≤ 65536)) t.tally u f)
      go (Gvb on gm gb) t f =
          not_both (led_side true true (x.users true link) x.shapes (λ v. (x.counts v).recall ≡ false) l.tally u e)
          (led_side false false (x.users false on) x.shapes (λ v. (x.counts v).recall ≡ false) t.tally u f)
      go (Ret on most most_bits) t f = no_recall (led_what true true (x.users true link) x.shapes (λ v. (x.counts v).recall ≡ false) l.tally u e)
          (led_what false true (x.users true on) x.shapes (λ v. ((x.counts v).recall ≡ true) × NextOwed (is_returning_on on) (HasNumbers false most most_bits (x.counts v)) (x.owing false)) t.tally u f).0
      go (Inr link) t f = absurd (cc f)
      go (Ins link) t f = absurd (cc f)
      go Rst t f = absurd (cc f)
      go Rrp t f = absurd (cc f)
  swaps (Ret link messages bits) k l t e f = go k t f
    where
      go : (k : Command) → Legal false k x → count_changed false k x ≡ Some u → Swaps (Ret link messages bits) k
      go (Rts receive send link) t f = absurd (cc f)
      go (Str send receive size) t f = absurd (cc f)
      go (Cls mine yours) t f = no_cls true (counted_left false mine yours x u f) (counted_unleft true (Ret link messages bits) x l u e)
      go (Eco byte) t f = absurd (cc f)
      go (Erp byte) t f = absurd (cc f)
      go (Err code bytes) t f = absurd (cc f)
      go Nop t f = absurd (cc f)
      go (All on most most_bits) t f = refl
      go (Gvb on gm gb) t f = no_recall (led_what false false (x.users false on) x.shapes (λ v. (x.counts v).recall ≡ false) t.tally u f)
          (led_what true false (x.users false link) x.shapes (λ v. ((x.counts v).recall ≡ true) × NextOwed (is_returning_on link) (HasNumbers true messages bits (x.counts v)) (x.owing true)) l.tally u e).0
      go (Ret on most most_bits) t f =
          not_both (led_side false true (x.users true on) x.shapes (λ v. ((x.counts v).recall ≡ true) × NextOwed (is_returning_on on) (HasNumbers false most most_bits (x.counts v)) (x.owing false)) t.tally u f)
          (led_side true false (x.users false link) x.shapes (λ v. ((x.counts v).recall ≡ true) × NextOwed (is_returning_on link) (HasNumbers true messages bits (x.counts v)) (x.owing true)) l.tally u e)
      go (Inr link) t f = absurd (cc f)
      go (Ins link) t f = absurd (cc f)
      go Rst t f = absurd (cc f)
      go Rrp t f = absurd (cc f)
  swaps (Inr link) k l t e f = absurd (cc e)
  swaps (Ins link) k l t e f = absurd (cc e)
  swaps Rst k l t e f = absurd (cc e)
  swaps Rrp k l t e f = absurd (cc e)

data IsClosing (c : Command) : Type 0 where
  Closing : (my your : ℕ) → c ≡ Cls my your → IsClosing c

counts_diamond : (h k : Command) (x : Said) → Legal true h x → Legal false k x → (u : Sockets) → counts_said true h (after_said_by false k x) u ≡ counts_said false k (after_said_by true h x) u
counts_diamond h k x l t u = by_cls h k l t (says_cls h && says_cls k) refl
  where
    -- not both leave, or they leave two connections
    each : (h k : Command) (l : Legal true h x) (t : Legal false k x) → count_changed true h (after_said_by false k x) ≡ count_changed true h x → count_changed false k (after_said_by true h x) ≡ count_changed false k x
        → counts_said true h (after_said_by false k x) u ≡ counts_said false k (after_said_by true h x) u
    each h k l t e f =
        counts_read true h (after_said_by false k x) u
        ∙ count_alike (counts_said false k x) (count_put x.counts (count_changed false k x) (count_then false k)) (count_changed true h (after_said_by false k x)) (count_changed true h x) (count_then true h) u (counts_read false k x u) e
        ∙ count_swap x.counts (count_changed true h x) (count_changed false k x) (count_then true h) (count_then false k) u (swaps x u h k l t)
        ∙ sym (count_alike (counts_said true h x) (count_put x.counts (count_changed true h x) (count_then true h)) (count_changed false k (after_said_by true h x)) (count_changed false k x) (count_then false k) u (counts_read true h x u) f)
        ∙ sym (counts_read false k (after_said_by true h x) u)

    both : (p q : Sockets) (m : Sockets → Option Shape) (counts : Sockets → Count) → p ≡ q → left_by true (m q) ≡ false → left_by false (m p) ≡ false → left_by false (after_say false (Some (q, Leave)) m p) ≡ true → left_by true (after_say true (Some (p, Leave)) m q) ≡ true
        → counts_after_cls (left_by false (after_say false (Some (q, Leave)) m p)) p (counts_after_cls (left_by true (m q)) q counts) u ≡ counts_after_cls (left_by true (after_say true (Some (p, Leave)) m q)) q (counts_after_cls (left_by false (m p)) p counts) u
    both p q m counts is own others then_false then_true = rw (own, others, then_false, then_true) (ap (λ (v : Sockets). counts_after_cls true v counts u) is)

    leave : (my your mine yours : ℕ) (l : Legal true (Cls my your) x) (t : Legal false (Cls mine yours) x) → BothLeave (my, your) (yours, mine) x.shapes
        → counts_said true (Cls my your) (after_said_by false (Cls mine yours) x) u ≡ counts_said false (Cls mine yours) (after_said_by true (Cls my your) x) u
    leave my your mine yours l t (One is own others then_false then_true) = both (my, your) (yours, mine) x.shapes x.counts is own others then_false then_true
    leave my your mine yours l t (Two e f) =
        each (Cls my your) (Cls mine yours) l t (ap (λ (b : Bool). if b then Some (my, your) else None) e) (ap (λ (b : Bool). if b then Some (yours, mine) else None) f)

    counterpart : (a b : Bool) → (a && b) ≡ false → (b && a) ≡ false
    counterpart true true e = e
    counterpart true false e = refl
    counterpart false true e = refl
    counterpart false false e = refl

    closing : (c : Command) → says_cls c ≡ true → IsClosing c
    closing (Rts receive send link) e = absurd (cc e)
    closing (Str send receive size) e = absurd (cc e)
    closing (Cls my your) e = Closing my your refl
    closing (Eco byte) e = absurd (cc e)
    closing (Erp byte) e = absurd (cc e)
    closing (Err code bytes) e = absurd (cc e)
    closing Nop e = absurd (cc e)
    closing (All link messages bits) e = absurd (cc e)
    closing (Gvb link fm fb) e = absurd (cc e)
    closing (Ret link messages bits) e = absurd (cc e)
    closing (Inr link) e = absurd (cc e)
    closing (Ins link) e = absurd (cc e)
    closing Rst e = absurd (cc e)
    closing Rrp e = absurd (cc e)

    two : (h k : Command) → IsClosing h → IsClosing k → Legal true h x → Legal false k x → counts_said true h (after_said_by false k x) u ≡ counts_said false k (after_said_by true h x) u
    two h k (Closing my your e) (Closing mine yours f) =
        subst (λ (i : Command). Legal true i x → Legal false k x → counts_said true i (after_said_by false k x) u ≡ counts_said false k (after_said_by true i x) u) (sym e)
        (subst (λ (i : Command). Legal true (Cls my your) x → Legal false i x → counts_said true (Cls my your) (after_said_by false i x) u ≡ counts_said false i (after_said_by true (Cls my your) x) u) (sym f)
        (λ l t. leave my your mine yours l t (both_leave (my, your) (yours, mine) x.shapes l.fits t.fits)))

    by_cls : (h k : Command) (l : Legal true h x) (t : Legal false k x) (b : Bool) → (says_cls h && says_cls k) ≡ b → counts_said true h (after_said_by false k x) u ≡ counts_said false k (after_said_by true h x) u
    by_cls h k l t true e = two h k (closing h (and_parts (says_cls h) (says_cls k) e).0) (closing k (and_parts (says_cls h) (says_cls k) e).1) l t
    by_cls h k l t false e =
        each h k l t (counted_kept true h k x e l (theirs_leave k x t.fits t.tally)) (counted_kept false k h x (counterpart (says_cls h) (says_cls k) e) t (ours_leave h x l.fits l.tally))

-- ---- what is owed, in either order

-- what is owed from now on is not what is given now
struck_more : (s : Bool) (c : Command) (x : Said) → Legal s c x → (more : List Owing) → ((my your : ℕ) → c ≡ Cls my your → owing_without (sockets_by s my your) more ≡ more) → struck_by s c (x.owing s ++ more) ≡ struck_by s c (x.owing s) ++ more
struck_more s (Rts receive send link) x l more f = refl
struck_more s (Str send receive size) x l more f = refl
struck_more s (Cls my your) x l more f = without_more (sockets_by s my your) (x.owing s) more ∙ ap (λ (os : List Owing). owing_without (sockets_by s my your) (x.owing s) ++ os) (f my your refl)
struck_more s (Eco byte) x l more f = refl
struck_more s (Erp byte) x l more f = following_more (is_echo_of byte) any_owing (x.owing s) more l.tally
struck_more s (Err code bytes) x l more f = refl
struck_more s Nop x l more f = refl
struck_more s (All link messages bits) x l more f = refl
struck_more s (Gvb link fm fb) x l more f = refl
struck_more s (Ret link messages bits) x l more f =
    go (x.users (not s) link) l.tally
  where
    go : (o : Option Sockets) → IsDemuxed s (not s) o x.shapes (λ v. ((x.counts v).recall ≡ true) × NextOwed (is_returning_on link) (HasNumbers s messages bits (x.counts v)) (x.owing s)) → owed_after (is_returning_on link) (x.owing s ++ more) ≡ owed_after (is_returning_on link) (x.owing s) ++ more
    go None led = absurd led
    go (Some u) led = following_more (is_returning_on link) (HasNumbers s messages bits (x.counts u)) (x.owing s) more led.2.1
struck_more s (Inr link) x l more f = refl
struck_more s (Ins link) x l more f = refl
struck_more s Rst x l more f = refl
struck_more s Rrp x l more f = refl

-- of the other one: a RET for a GVB is owed
left_twice : (s : Bool) (m : Option Shape) → left_by (not (not s)) m ≡ left_by s m
left_twice true m = refl
left_twice false m = refl

sexes_distinct : (s : Bool) (u v : Sockets) → receives_by s u ≡ true → receives_by (not s) v ≡ true → same v u ≡ true → ⊥
sexes_distinct true u v a b e = sex_one v u b a e
sexes_distinct false u v a b e = one_sex v u b a e

count_distinct : (counts : Sockets → Count) (o : Option Sockets) (f : Count → Count) (u : Sockets) → ((v : Sockets) → o ≡ Some v → same u v ≡ true → ⊥) → count_put counts o f u ≡ counts u
count_distinct counts None f u e = refl
count_distinct counts (Some v) f u e = go (same u v) refl
  where
    go : (b : Bool) → same u v ≡ b → (if b then f (counts u) else counts u) ≡ counts u
    go true d = absurd (e v refl d)
    go false d = refl

module _ (s : Bool) (x : Said) (u : Sockets) (sex : receives_by (not s) u ≡ true) (is_open : is_open_by (not s) (x.shapes u) ≡ true) (calm : (x.counts u).recall ≡ false) where
  -- what is counted of it is as it was
  unmoved : (c : Command) → Legal s c x → counts_said s c x u ≡ x.counts u
  unmoved (Rts receive send link) l = refl
  unmoved (Str send receive size) l = refl
  unmoved (Cls my your) l = counts_kept (left_by (not s) (x.shapes (sockets_by s my your))) (not s) x (sockets_by s my your) (λ e. e) u is_open
  unmoved (Eco byte) l = refl
  unmoved (Erp byte) l = refl
  unmoved (Err code bytes) l = refl
  unmoved Nop l = refl
  unmoved (All link messages bits) l =
      count_distinct x.counts (x.users s link) (counted_on messages bits) u (λ v e d. sexes_distinct s v u (led_side s s (x.users s link) x.shapes (λ v. ((x.counts v).messages + messages ≤ 65535) × ((x.counts v).bits + bits ≤ 65536)) l.tally v e) sex d)
  unmoved (Gvb link fm fb) l =
      count_distinct x.counts (x.users s link) (recalled_by s fm fb) u (λ v e d. sexes_distinct s v u (led_side s s (x.users s link) x.shapes (λ v. (x.counts v).recall ≡ false) l.tally v e) sex d)
  unmoved (Ret link messages bits) l =
      count_distinct x.counts (x.users (not s) link) (returned_by s messages bits) u
      (λ v e d.
      let asked : (x.counts v).recall ≡ true = (led_what s (not s) (x.users (not s) link) x.shapes (λ v. ((x.counts v).recall ≡ true) × NextOwed (is_returning_on link) (HasNumbers s messages bits (x.counts v)) (x.owing s)) l.tally v e).0 in
      let nay : false ≡ true = sym calm ∙ ap (λ (w : Sockets). (x.counts w).recall) (same_is u v d) ∙ asked in cc nay)
  unmoved (Inr link) l = refl
  unmoved (Ins link) l = refl
  unmoved Rst l = refl
  unmoved Rrp l = refl

-- where the speaker does not leave, as many are asked for
same_asked : (s : Bool) (c : Command) (x : Said) (link fm fb : ℕ) → says_cls c ≡ false → Legal s c x → Legal (not s) (Gvb link fm fb) x → LeavesRight (not s) x (after_said_by s c x)
    → asks_for (not s) (Gvb link fm fb) x ≡ asks_for (not s) (Gvb link fm fb) (after_said_by s c x)
same_asked s c x link fm fb k l t leaves =
    back_alike (not s) link fm fb x.shapes (after_said_by s c x).shapes x.counts (after_said_by s c x).counts (x.users (not s) link) ((after_said_by s c x).users (not s) link)
    (sym (led_user (not s) (not s) link x (after_said_by s c x) calm leaves t.tally))
    (λ u e. sym (left_still c k (not (not s)) u))
    (λ u e.
    let still = unmoved s x u (led_side (not s) (not s) (x.users (not s) link) x.shapes calm t.tally u e) (led_open (not s) (not s) (x.users (not s) link) x.shapes calm t.tally u e) (led_what (not s) (not s) (x.users (not s) link) x.shapes calm t.tally u e) c l in
    (sym (ap (λ (j : Count). j.messages) still), sym (ap (λ (j : Count). j.bits) still)))
  where
    calm : Sockets → Type 0
    calm u = (x.counts u).recall ≡ false

    left_still : (d : Command) → says_cls d ≡ false → (t : Bool) (u : Sockets) → left_by t (after_say s (say_of s d) x.shapes u) ≡ left_by t (x.shapes u)
    left_still (Rts receive send link) k t u = kept_left s t (sockets_by s receive send) link x.shapes u
    left_still (Str send receive size) k t u = kept_left s t (sockets_by s send receive) size x.shapes u
    left_still (Cls my your) k t u = absurd (cc k)
    left_still (Eco byte) k t u = refl
    left_still (Erp byte) k t u = refl
    left_still (Err code bytes) k t u = refl
    left_still Nop k t u = refl
    left_still (All link messages bits) k t u = refl
    left_still (Gvb link fm fb) k t u = refl
    left_still (Ret link messages bits) k t u = refl
    left_still (Inr link) k t u = refl
    left_still (Ins link) k t u = refl
    left_still Rst k t u = refl
    left_still Rrp k t u = refl

-- where it leaves the connection that it sends by, none is owed of it in either order
left_asked : (s : Bool) (my your : ℕ) (x : Said) (link fm fb : ℕ) → Legal s (Cls my your) x → Legal (not s) (Gvb link fm fb) x → LeavesRight (not s) x (after_said_by s (Cls my your) x)
    → owing_without (sockets_by s my your) (x.owing s ++ asks_for (not s) (Gvb link fm fb) x) ≡ owing_without (sockets_by s my your) (x.owing s) ++ asks_for (not s) (Gvb link fm fb) (after_said_by s (Cls my your) x)
left_asked s my your x link fm fb l t leaves = go (x.users (not s) link) refl t.tally
  where
    p : Sockets
    p = sockets_by s my your

    now : Said
    now = after_said_by s (Cls my your) x

    calm : Sockets → Type 0
    calm u = (x.counts u).recall ≡ false

    -- the RET of another connection
    other : (u : Sockets) (a b : ℕ) → same u p ≡ false → (c : Bool) → owing_without p (if c then [] else Returning u link a b ∷ []) ≡ (if c then [] else Returning u link a b ∷ [])
    other u a b e true = refl
    other u a b e false = ap (λ (d : Bool). if not d then Returning u link a b ∷ [] else []) e

    kept : (u : Sockets) → receives_by (not s) u ≡ true → is_open_by (not s) (x.shapes u) ≡ true → calm u → same u p ≡ false → return_asked (not s) link fm fb x.shapes x.counts (Some u) ≡ return_asked (not s) link fm fb now.shapes now.counts (Some u)
    kept u sex is_open k e =
        let still = unmoved s x u sex is_open k (Cls my your) l in
        back_alike (not s) link fm fb x.shapes now.shapes x.counts now.counts (Some u) (Some u) refl
        (λ v f. let is : u ≡ v = cc f in subst (λ (w : Sockets). left_by (not (not s)) (x.shapes w) ≡ left_by (not (not s)) (now.shapes w)) is (sym (ap (λ (d : Bool). left_by (not (not s)) (if d then step s Leave (x.shapes p) else x.shapes u)) e)))
        (λ v f. let is : u ≡ v = cc f in subst (λ (w : Sockets). ((x.counts w).messages ≡ (now.counts w).messages) × ((x.counts w).bits ≡ (now.counts w).bits)) is (sym (ap (λ (j : Count). j.messages) still), sym (ap (λ (j : Count). j.bits) still)))

    -- its own RET
    it : (u : Sockets) → u ≡ p → is_open_by (not s) (x.shapes u) ≡ true → owing_without p (x.owing s ++ return_asked (not s) link fm fb x.shapes x.counts (Some u)) ≡ owing_without p (x.owing s) ++ return_asked (not s) link fm fb now.shapes now.counts (Some u)
    it u e is_open =
        let mine : left_by (not (not s)) (x.shapes u) ≡ false = left_twice s (x.shapes u) ∙ ap (λ (w : Sockets). left_by s (x.shapes w)) e ∙ says_unleft s Leave (x.shapes p) l.fits in
        let others : left_by (not s) (x.shapes p) ≡ false = open_unleft (not s) (x.shapes p) (subst (λ (w : Sockets). is_open_by (not s) (x.shapes w) ≡ true) e is_open) in
        let here : same u p ≡ true = ap (λ (w : Sockets). same w p) e ∙ itself p in
        let gone : left_by (not (not s)) (now.shapes u) ≡ true =
        left_twice s (now.shapes u) ∙ ap (λ (d : Bool). left_by s (if d then step s Leave (x.shapes p) else x.shapes u)) here ∙ closed_left s (x.shapes p) l.fits others in
        ap (λ (d : Bool). owing_without p (x.owing s ++ (if d then [] else Returning u link (part_returned (x.counts u).messages fm) (part_returned (x.counts u).bits fb) ∷ []))) mine
        ∙ subst (λ (w : Sockets). owing_without p (x.owing s ++ Returning w link (part_returned (x.counts u).messages fm) (part_returned (x.counts u).bits fb) ∷ []) ≡ owing_without p (x.owing s)) (sym e)
        (asked_then_left p (x.owing s) link (part_returned (x.counts u).messages fm) (part_returned (x.counts u).bits fb) (itself p))
        ∙ no_more (owing_without p (x.owing s))
        ∙ ap (λ (d : Bool). owing_without p (x.owing s) ++ (if d then [] else Returning u link (part_returned (now.counts u).messages fm) (part_returned (now.counts u).bits fb) ∷ [])) (sym gone)

    user : (u : Sockets) → x.users (not s) link ≡ Some u → is_open_by (not s) (x.shapes u) ≡ true → now.users (not s) link ≡ Some u
    user u e is_open = leaves.users (not s) link u e is_open

    go : (o : Option Sockets) → x.users (not s) link ≡ o → IsDemuxed (not s) (not s) o x.shapes calm
        → owing_without p (x.owing s ++ return_asked (not s) link fm fb x.shapes x.counts (x.users (not s) link)) ≡ owing_without p (x.owing s) ++ return_asked (not s) link fm fb now.shapes now.counts (now.users (not s) link)
    go None e led = absurd led
    go (Some u) e led =
        ap (λ (o : Option Sockets). owing_without p (x.owing s ++ return_asked (not s) link fm fb x.shapes x.counts o)) e
        ∙ by (same u p) refl
        ∙ ap (λ (o : Option Sockets). owing_without p (x.owing s) ++ return_asked (not s) link fm fb now.shapes now.counts o) (sym (user u e led.1))
      where
        by : (b : Bool) → same u p ≡ b → owing_without p (x.owing s ++ return_asked (not s) link fm fb x.shapes x.counts (Some u)) ≡ owing_without p (x.owing s) ++ return_asked (not s) link fm fb now.shapes now.counts (Some u)
        by true d = it u (same_is u p d) led.1
        by false d =
            without_more p (x.owing s) (return_asked (not s) link fm fb x.shapes x.counts (Some u))
            ∙ ap (λ (os : List Owing). owing_without p (x.owing s) ++ os) (other u (part_returned (x.counts u).messages fm) (part_returned (x.counts u).bits fb) d (left_by (not (not s)) (x.shapes u)) ∙ kept u led.0 led.1 led.2 d)

owing_side : (s : Bool) (h k : Command) (x : Said) → Legal s h x → Legal (not s) k x → LeavesRight (not s) x (after_said_by s h x) → struck_by s h (x.owing s ++ asks_for (not s) k x) ≡ struck_by s h (x.owing s) ++ asks_for (not s) k (after_said_by s h x)
owing_side s h (Rts receive send link) x l t leaves = struck_more s h x l [] (λ my your e. refl)
owing_side s h (Str send receive size) x l t leaves = struck_more s h x l [] (λ my your e. refl)
owing_side s h (Cls my your) x l t leaves = struck_more s h x l [] (λ my your e. refl)
owing_side s h (Eco byte) x l t leaves = struck_more s h x l (Echoes byte ∷ []) (λ my your e. refl)
owing_side s h (Erp byte) x l t leaves = struck_more s h x l [] (λ my your e. refl)
owing_side s h (Err code bytes) x l t leaves = struck_more s h x l [] (λ my your e. refl)
owing_side s h Nop x l t leaves = struck_more s h x l [] (λ my your e. refl)
owing_side s h (All link messages bits) x l t leaves = struck_more s h x l [] (λ my your e. refl)
owing_side s h (Gvb link fm fb) x l t leaves = gvb h l leaves
  where
    each : (c : Command) → says_cls c ≡ false → ((my your : ℕ) → c ≡ Cls my your → ⊥) → Legal s c x → LeavesRight (not s) x (after_said_by s c x)
        → struck_by s c (x.owing s ++ asks_for (not s) (Gvb link fm fb) x) ≡ struck_by s c (x.owing s) ++ asks_for (not s) (Gvb link fm fb) (after_said_by s c x)
    each c e f l leaves =
        struck_more s c x l (asks_for (not s) (Gvb link fm fb) x) (λ my your g. absurd (f my your g))
        ∙ ap (λ (os : List Owing). struck_by s c (x.owing s) ++ os) (same_asked s c x link fm fb e l t leaves)

    gvb : (c : Command) → Legal s c x → LeavesRight (not s) x (after_said_by s c x) → struck_by s c (x.owing s ++ asks_for (not s) (Gvb link fm fb) x) ≡ struck_by s c (x.owing s) ++ asks_for (not s) (Gvb link fm fb) (after_said_by s c x)
    gvb (Rts receive send link) l leaves = each (Rts receive send link) refl (λ my your e. cc e) l leaves
    gvb (Str send receive size) l leaves = each (Str send receive size) refl (λ my your e. cc e) l leaves
    gvb (Cls my your) l leaves = left_asked s my your x link fm fb l t leaves
    gvb (Eco byte) l leaves = each (Eco byte) refl (λ my your e. cc e) l leaves
    gvb (Erp byte) l leaves = each (Erp byte) refl (λ my your e. cc e) l leaves
    gvb (Err code bytes) l leaves = each (Err code bytes) refl (λ my your e. cc e) l leaves
    gvb Nop l leaves = each Nop refl (λ my your e. cc e) l leaves
    gvb (All link messages bits) l leaves = each (All link messages bits) refl (λ my your e. cc e) l leaves
    gvb (Gvb link fm fb) l leaves = each (Gvb link fm fb) refl (λ my your e. cc e) l leaves
    gvb (Ret link messages bits) l leaves = each (Ret link messages bits) refl (λ my your e. cc e) l leaves
    gvb (Inr link) l leaves = each (Inr link) refl (λ my your e. cc e) l leaves
    gvb (Ins link) l leaves = each (Ins link) refl (λ my your e. cc e) l leaves
    gvb Rst l leaves = each Rst refl (λ my your e. cc e) l leaves
    gvb Rrp l leaves = each Rrp refl (λ my your e. cc e) l leaves
owing_side s h (Ret link messages bits) x l t leaves = struck_more s h x l [] (λ my your e. refl)
owing_side s h (Inr link) x l t leaves = struck_more s h x l [] (λ my your e. refl)
owing_side s h (Ins link) x l t leaves = struck_more s h x l [] (λ my your e. refl)
owing_side s h Rst x l t leaves = struck_more s h x l [] (λ my your e. refl)
owing_side s h Rrp x l t leaves = struck_more s h x l [] (λ my your e. refl)

owing_diamond : (h k : Command) (x : Said) → Legal true h x → Legal false k x → (r : Bool) → owing_after true h (after_said_by false k x) r ≡ owing_after false k (after_said_by true h x) r
owing_diamond h k x l t true =
    struck_read true h (after_said_by false k x)
    ∙ ap (struck_by true h) (asks_read false k x)
    ∙ owing_side true h k x l t (ours_leave h x l.fits l.tally)
    ∙ ap (λ (os : List Owing). os ++ asks_for false k (after_said_by true h x)) (sym (struck_read true h x))
    ∙ sym (asks_read false k (after_said_by true h x))
owing_diamond h k x l t false =
    asks_read true h (after_said_by false k x)
    ∙ ap (λ (os : List Owing). os ++ asks_for true h (after_said_by false k x)) (struck_read false k x)
    ∙ sym (owing_side false k h x t l (theirs_leave k x t.fits t.tally))
    ∙ ap (struck_by false k) (sym (asks_read true h x))
    ∙ sym (struck_read false k (after_said_by true h x))

-- ---- one command of each

record EitherOrder (h k : Command) (x : Said) : Type 0 where
  pub own : Legal true h (after_said_by false k x)
  pub others : Legal false k (after_said_by true h x)
  pub same : SaidAlike (after_said_by true h (after_said_by false k x)) (after_said_by false k (after_said_by true h x))

either_order : (h k : Command) (x : Said) → Legal true h x → Legal false k x → EitherOrder h k x
either_order h k x l t =
    let d = diamond_shapes (say_of true h) (say_of false k) x.shapes l.fits t.fits in
    record {
      own = record { right = l.right; fits = d.own; tally = legal_after_theirs h k x l.tally t.fits t.tally };
      others = record { right = t.right; fits = d.others; tally = legal_after_ours h k x t.tally l.fits l.tally };
      same = record {
        shapes = d.same;
        users = λ r n. ap (λ (f : Bool → ℕ → Option Sockets). f r n) (users_read true h (after_said_by false k x))
            ∙ moved_alike true (link_wanted h) (say_of true h) (after_said_by false k x).shapes (after_said_by false k x).shapes (users_after false k x) (users_moved false (link_wanted k) (say_of false k) x.shapes x.users) (λ u. refl) (λ q m. ap (λ (f : Bool → ℕ → Option Sockets). f q m) (users_read false k x)) r n
            ∙ users_diamond (link_wanted h) (link_wanted k) (say_of true h) (say_of false k) x.shapes x.users l.fits t.fits r n
            ∙ moved_alike false (link_wanted k) (say_of false k) (after_said_by true h x).shapes (after_said_by true h x).shapes (users_moved true (link_wanted h) (say_of true h) x.shapes x.users) (users_after true h x) (λ u. refl) (λ q m. sym (ap (λ (f : Bool → ℕ → Option Sockets). f q m) (users_read true h x))) r n
            ∙ sym (ap (λ (f : Bool → ℕ → Option Sockets). f r n) (users_read false k (after_said_by true h x)));
        counts = counts_diamond h k x l t;
        owing = owing_diamond h k x l t;
      };
    }

-- ---- one command of the one, and all that the other says meanwhile

pub record EitherOrderAll (h : Command) (ks : List Command) (x : Said) : Type 0 where
  pub own : Legal true h (after_run false ks x)
  pub others : LegalRun false ks (after_said_by true h x)
  pub same : SaidAlike (after_said_by true h (after_run false ks x)) (after_run false ks (after_said_by true h x))

pub either_order_all : (h : Command) (ks : List Command) (x : Said) → Legal true h x → LegalRun false ks x → EitherOrderAll h ks x
either_order_all h [] x l t = record { own = l; others = tt; same = alike_self (after_said_by true h x) }
either_order_all h (k ∷ ks) x l (t, ts) =
    let one = either_order h k x l t in
    let rest = either_order_all h ks (after_said_by false k x) one.own ts in
    record {
      own = rest.own;
      others = (one.others, legal_run_alike false ks one.same rest.others);
      same = alike_then rest.same (run_alike false ks one.same);
    }

-- ---- runs

pub run_append : (s : Bool) (cs ds : List Command) (x : Said) → after_run s (cs ++ ds) x ≡ after_run s ds (after_run s cs x)
run_append s [] ds x = refl
run_append s (c ∷ cs) ds x = run_append s cs ds (after_said_by s c x)

pub legal_append : (s : Bool) (cs ds : List Command) (x : Said) → LegalRun s cs x → LegalRun s ds (after_run s cs x) → LegalRun s (cs ++ ds) x
legal_append s [] ds x l r = r
legal_append s (c ∷ cs) ds x (k, l) r = (k, legal_append s cs ds (after_said_by s c x) l r)

-- what is on its way to the one stays legal when it says something
pub own_run : (c : Command) (ks : List Command) (x : Said) → Legal true c x → LegalRun false ks x → LegalRun false ks (after_said_by true c x)
own_run c ks x l r = (either_order_all c ks x l r).others

-- and this it may say when that has come, and the same was said in the end
pub own_end : (c : Command) (ks : List Command) (x : Said) → Legal true c x → LegalRun false ks x → Legal true c (after_run false ks x) × SaidAlike (after_run false ks (after_said_by true c x)) (after_said_by true c (after_run false ks x))
own_end c ks x l r = let all = either_order_all c ks x l r in (all.own, alike_back all.same)
