-- Who has a link, and a text that is on its way, through all that is said: what the other says leaves both while the one has not left
-- the connection; and who has a link on which the one receives had it before all that the other said.
use Rattle.std.proofs.Common.{◌≡◌, ℕ, Bool, true, false, not, if◌then◌else◌, List, [], ◌∷◌, Option, None, Some, is_some, refl, sym, ap, ◌∙◌}
use Rattle.std.proofs.lemmas.Bool.{and_parts}
use Rattle.ncp_wire.specs.declared.command.Command.{Command}
use Rattle.ncp_wire.specs.declared.command.Command.TheVariants.{Rts, Str, Cls, Eco, Erp, Err, Nop, All, Gvb, Ret, Inr, Ins, Rst, Rrp}
use Rattle.ncp_monitor.proofs.Shapes.{Shape, Say, Ask, Leave, legal, own_step, their_legal, their_step}
use Rattle.ncp_monitor.proofs.LinkOrder.{Sockets, same, same_is}
use Rattle.ncp_proof_monitor_network.proofs.Tallied.{left_by, has_both, is_user, users_after_cls}
use Rattle.ncp_proof_monitor_network.proofs.Said.{Said, say_of, number_by, FitsBy, Legal, after_say, users_after, after_said_by, LegalRun, after_run}
use Rattle.ncp_proof_monitor_network.proofs.TallyDiamond.{put_users}
use Rattle.ncp_proof_monitor_network.proofs.Diamond.{says_unleft, kept_left, closed_left, same_back, unlike}
use Rattle.ncp_proof_monitor_network.proofs.ConsistentViews.{Afloat, Sending, AllSending, LeavesNoText}

-- ---- what the other says, of a connection that the one has not left

kept_user : (k : Command) (x : Said) (r : Bool) (n : ℕ) (u : Sockets) → Legal false k x → x.users r n ≡ Some u → left_by true (x.shapes u) ≡ false → users_after false k x r n ≡ Some u
kept_user (Rts receive send link) x r n u l e f = put_users x.users false link (send, receive) l.tally r n u e
kept_user (Str send receive size) x r n u l e f = e
kept_user (Cls my your) x r n u l e f = go (left_by true (x.shapes (your, my))) refl
  where
    go : (over : Bool) → left_by true (x.shapes (your, my)) ≡ over → users_after_cls over (your, my) x.users r n ≡ Some u
    go true k = ap (λ (o : Option Sockets). if is_user (your, my) o then None else o) e ∙ ap (λ (b : Bool). if b then None else Some u) (unlike true x.shapes u (your, my) f k)
    go false k = e
kept_user (Eco byte) x r n u l e f = e
kept_user (Erp byte) x r n u l e f = e
kept_user (Err code bytes) x r n u l e f = e
kept_user Nop x r n u l e f = e
kept_user (All link messages bits) x r n u l e f = e
kept_user (Gvb link fm fb) x r n u l e f = e
kept_user (Ret link messages bits) x r n u l e f = e
kept_user (Inr link) x r n u l e f = e
kept_user (Ins link) x r n u l e f = e
kept_user Rst x r n u l e f = e
kept_user Rrp x r n u l e f = e

kept_unleft : (o : Option (Sockets × Say)) (m : Sockets → Option Shape) (u : Sockets) → left_by true (m u) ≡ false → left_by true (after_say false o m u) ≡ false
kept_unleft None m u e = e
kept_unleft (Some (p, Ask n)) m u e = kept_left false true p n m u ∙ e
kept_unleft (Some (p, Leave)) m u e = go (same u p) refl
  where
    by : (o : Option Shape) → left_by true o ≡ false → left_by true (their_step Leave o) ≡ false
    by None f = refl
    by (Some s) f = ap (λ (b : Bool). left_by true (if b then None else Some (record s { cls = true }))) f ∙ f

    go : (b : Bool) → same u p ≡ b → left_by true (if b then their_step Leave (m p) else m u) ≡ false
    go true d = by (m p) (ap (λ (v : Sockets). left_by true (m v)) (sym (same_is u p d)) ∙ e)
    go false d = e

kept_number : (o : Option (Sockets × Say)) (m : Sockets → Option Shape) (u : Sockets) → left_by true (m u) ≡ false → number_by true (after_say false o m u) ≡ number_by true (m u)
kept_number None m u e = refl
kept_number (Some (p, a)) m u e = go (same u p) refl
  where
    by : (a : Say) (o : Option Shape) → left_by true o ≡ false → number_by true (their_step a o) ≡ number_by true o
    by (Ask n) None f = refl
    by (Ask n) (Some s) f = refl
    by Leave None f = refl
    by Leave (Some s) f = ap (λ (b : Bool). number_by true (if b then None else Some (record s { cls = true }))) f

    go : (b : Bool) → same u p ≡ b → number_by true (if b then their_step a (m p) else m u) ≡ number_by true (m u)
    go true d =
        let is = same_is u p d in
        by a (m p) (ap (λ (v : Sockets). left_by true (m v)) (sym is) ∙ e) ∙ ap (λ (v : Sockets). number_by true (m v)) (sym is)
    go false d = refl

pub user_run : (ks : List Command) (x : Said) (r : Bool) (n : ℕ) (u : Sockets) → LegalRun false ks x → x.users r n ≡ Some u → left_by true (x.shapes u) ≡ false
    → ((after_run false ks x).users r n ≡ Some u) × (left_by true ((after_run false ks x).shapes u) ≡ false)
user_run [] x r n u l e f = (e, f)
user_run (k ∷ ks) x r n u (l, ls) e f = user_run ks (after_said_by false k x) r n u ls (kept_user k x r n u l e f) (kept_unleft (say_of false k) x.shapes u f)

-- ---- a text that is on its way

pub sends_heard : (k : Command) (x : Said) (t : Afloat) → Legal false k x → AllSending x t → AllSending (after_said_by false k x) t
sends_heard k x t l sends link size bits e =
    let s = sends link size bits e in
    record {
      by = s.by;
      used = kept_user k x false link s.by l s.used s.unleft;
      asked = kept_number (say_of false k) x.shapes s.by s.unleft ∙ s.asked;
      unleft = kept_unleft (say_of false k) x.shapes s.by s.unleft;
    }

pub sends_run : (ks : List Command) (x : Said) (t : Afloat) → LegalRun false ks x → AllSending x t → AllSending (after_run false ks x) t
sends_run [] x t l sends = sends
sends_run (k ∷ ks) x t (l, ls) sends = sends_run ks (after_said_by false k x) t ls (sends_heard k x t l sends)

still : (x now : Said) (link size : ℕ) → (s : Sending link size x) → now.users false link ≡ Some s.by → now.shapes s.by ≡ x.shapes s.by → Sending link size now
still x now link size s e f = record { by = s.by; used = e; asked = ap (number_by true) f ∙ s.asked; unleft = ap (left_by true) f ∙ s.unleft }

-- its sender has asked, and does not ask again
asks_other : (p : Sockets) (n : ℕ) (m : Sockets → Option Shape) (u : Sockets) (size : ℕ) → legal (Ask n) (m p) ≡ true → number_by true (m u) ≡ Some size → same u p ≡ false
asks_other p n m u size l e = go (same u p) refl
  where
    by : (o : Option Shape) → legal (Ask n) o ≡ true → number_by true o ≡ Some size → ⊥
    by None k d = cc d
    by (Some s) k d =
        let free : not (is_some s.own) ≡ true = (and_parts (not (is_some s.own)) (not s.left) k).0 in
        let nay : false ≡ true = ap (λ (o : Option ℕ). not (is_some o)) (sym d) ∙ free in cc nay

    go : (b : Bool) → same u p ≡ b → same u p ≡ false
    go true d = absurd (by (m p) l (ap (λ (v : Sockets). number_by true (m v)) (sym (same_is u p d)) ∙ e))
    go false d = d

pub sends_own : (c : Command) (x : Said) (t : Afloat) → Legal true c x → LeavesNoText c x t → AllSending x t → AllSending (after_said_by true c x) t
sends_own (Rts receive send link) x t l quiet sends n k size_bits e =
    let s = sends n k size_bits e in
    still x (after_said_by true (Rts receive send link) x) n k s s.used
    (ap (λ (b : Bool). if b then own_step (Ask link) (x.shapes (receive, send)) else x.shapes s.by) (asks_other (receive, send) link x.shapes s.by k l.fits s.asked))
sends_own (Str send receive size) x t l quiet sends n k size_bits e =
    let s = sends n k size_bits e in
    still x (after_said_by true (Str send receive size) x) n k s s.used
    (ap (λ (b : Bool). if b then own_step (Ask size) (x.shapes (send, receive)) else x.shapes s.by) (asks_other (send, receive) size x.shapes s.by k l.fits s.asked))
sends_own (Cls my your) x t l quiet sends n k size_bits e =
    go (sends n k size_bits e) (same (sends n k size_bits e).by (my, your)) refl
  where
    go : (s : Sending n k x) → (b : Bool) → same s.by (my, your) ≡ b → Sending n k (after_said_by true (Cls my your) x)
    go s true d = let nay : None ≡ Some (k, size_bits) = sym (quiet n (s.used ∙ ap (λ (v : Sockets). Some v) (same_is s.by (my, your) d))) ∙ e in absurd (cc nay)
    go s false d =
        still x (after_said_by true (Cls my your) x) n k s (by (left_by false (x.shapes (my, your))))
        (ap (λ (b : Bool). if b then own_step Leave (x.shapes (my, your)) else x.shapes s.by) d)
      where
        by : (over : Bool) → users_after_cls over (my, your) x.users false n ≡ Some s.by
        by true = ap (λ (o : Option Sockets). if is_user (my, your) o then None else o) s.used ∙ ap (λ (b : Bool). if b then None else Some s.by) d
        by false = s.used
sends_own (Eco byte) x t l quiet sends n k size_bits e = let s = sends n k size_bits e in still x (after_said_by true (Eco byte) x) n k s s.used refl
sends_own (Erp byte) x t l quiet sends n k size_bits e = let s = sends n k size_bits e in still x (after_said_by true (Erp byte) x) n k s s.used refl
sends_own (Err code bytes) x t l quiet sends n k size_bits e = absurd l.tally
sends_own Nop x t l quiet sends n k size_bits e = let s = sends n k size_bits e in still x (after_said_by true Nop x) n k s s.used refl
sends_own (All link messages bits) x t l quiet sends n k size_bits e = let s = sends n k size_bits e in still x (after_said_by true (All link messages bits) x) n k s s.used refl
sends_own (Gvb link fm fb) x t l quiet sends n k size_bits e = let s = sends n k size_bits e in still x (after_said_by true (Gvb link fm fb) x) n k s s.used refl
sends_own (Ret link messages bits) x t l quiet sends n k size_bits e = let s = sends n k size_bits e in still x (after_said_by true (Ret link messages bits) x) n k s s.used refl
sends_own (Inr link) x t l quiet sends n k size_bits e = let s = sends n k size_bits e in still x (after_said_by true (Inr link) x) n k s s.used refl
sends_own (Ins link) x t l quiet sends n k size_bits e = let s = sends n k size_bits e in still x (after_said_by true (Ins link) x) n k s s.used refl
sends_own Rst x t l quiet sends n k size_bits e = let s = sends n k size_bits e in still x (after_said_by true Rst x) n k s s.used refl
sends_own Rrp x t l quiet sends n k size_bits e = let s = sends n k size_bits e in still x (after_said_by true Rrp x) n k s s.used refl

-- ---- before what the other said

-- the one alone gives a link on which it receives
user_back : (k : Command) (x : Said) (n : ℕ) (u : Sockets) → users_after false k x true n ≡ Some u → x.users true n ≡ Some u
user_back (Rts receive send link) x n u e = e
user_back (Str send receive size) x n u e = e
user_back (Cls my your) x n u e = go (left_by true (x.shapes (your, my))) (x.users true n) e
  where
    go : (over : Bool) (o : Option Sockets) → (if over then (if is_user (your, my) o then None else o) else o) ≡ Some u → o ≡ Some u
    go true o e = by (is_user (your, my) o) e
      where
        by : (b : Bool) → (if b then None else o) ≡ Some u → o ≡ Some u
        by true e = absurd (cc e)
        by false e = e
    go false o e = e
user_back (Eco byte) x n u e = e
user_back (Erp byte) x n u e = e
user_back (Err code bytes) x n u e = e
user_back Nop x n u e = e
user_back (All link messages bits) x n u e = e
user_back (Gvb link fm fb) x n u e = e
user_back (Ret link messages bits) x n u e = e
user_back (Inr link) x n u e = e
user_back (Ins link) x n u e = e
user_back Rst x n u e = e
user_back Rrp x n u e = e

pub users_back : (ks : List Command) (x : Said) (n : ℕ) (u : Sockets) → (after_run false ks x).users true n ≡ Some u → x.users true n ≡ Some u
users_back [] x n u e = e
users_back (k ∷ ks) x n u e = user_back k x n u (users_back ks (after_said_by false k x) n u e)

-- what the other says of it while the one has its link: nothing, or that it leaves it
data Heard (k : Command) (x : Said) (u : Sockets) : Type 0 where
  Nothing_said : after_say false (say_of false k) x.shapes u ≡ x.shapes u → Heard k x u
  Left_then : left_by false (x.shapes u) ≡ false → left_by false (after_say false (say_of false k) x.shapes u) ≡ true → Heard k x u

their_asks : (p : Sockets) (n : ℕ) (m : Sockets → Option Shape) (u : Sockets) → their_legal (Ask n) (m p) ≡ true → has_both (m u) ≡ true → same u p ≡ false
their_asks p n m u l e = go (same u p) refl
  where
    by : (o : Option Shape) → their_legal (Ask n) o ≡ true → has_both o ≡ true → ⊥
    by None k d = cc d
    by (Some s) k d =
        let given : is_some s.others ≡ true = (and_parts (is_some s.own) (is_some s.others) d).1 in
        let free : not (is_some s.others) ≡ true = (and_parts (not (is_some s.others)) (not s.cls) k).0 in
        let nay : false ≡ true = sym (ap not given) ∙ free in cc nay

    go : (b : Bool) → same u p ≡ b → same u p ≡ false
    go true d = absurd (by (m p) l (ap (λ (v : Sockets). has_both (m v)) (sym (same_is u p d)) ∙ e))
    go false d = d

heard : (k : Command) (x : Said) (n : ℕ) (u : Sockets) → Legal false k x → users_after false k x true n ≡ Some u → has_both (x.shapes u) ≡ true → Heard k x u
heard (Rts receive send link) x n u l e both = Nothing_said (ap (λ (b : Bool). if b then their_step (Ask link) (x.shapes (send, receive)) else x.shapes u) (their_asks (send, receive) link x.shapes u l.fits both))
heard (Str send receive size) x n u l e both = Nothing_said (ap (λ (b : Bool). if b then their_step (Ask size) (x.shapes (receive, send)) else x.shapes u) (their_asks (receive, send) size x.shapes u l.fits both))
heard (Cls my your) x n u l e both = go (same u (your, my)) refl
  where
    -- it would have ended
    over : same u (your, my) ≡ true → left_by true (x.shapes (your, my)) ≡ true → ⊥
    over d k =
        let gone : users_after false (Cls my your) x true n ≡ None =
        ap (λ (b : Bool). users_after_cls b (your, my) x.users true n) k
        ∙ ap (λ (o : Option Sockets). if is_user (your, my) o then None else o) (user_back (Cls my your) x n u e)
        ∙ ap (λ (b : Bool). if b then None else Some u) d in
        let nay : None ≡ Some u = sym gone ∙ e in cc nay

    unended : same u (your, my) ≡ true → (b : Bool) → left_by true (x.shapes (your, my)) ≡ b → left_by true (x.shapes (your, my)) ≡ false
    unended d true k = absurd (over d k)
    unended d false k = k

    go : (b : Bool) → same u (your, my) ≡ b → Heard (Cls my your) x u
    go true d =
        Left_then (ap (λ (v : Sockets). left_by false (x.shapes v)) (same_is u (your, my) d) ∙ says_unleft false Leave (x.shapes (your, my)) l.fits)
        (ap (λ (b : Bool). left_by false (if b then their_step Leave (x.shapes (your, my)) else x.shapes u)) d
        ∙ closed_left false (x.shapes (your, my)) l.fits (unended d (left_by true (x.shapes (your, my))) refl))
    go false d = Nothing_said (ap (λ (b : Bool). if b then their_step Leave (x.shapes (your, my)) else x.shapes u) d)
heard (Eco byte) x n u l e both = Nothing_said refl
heard (Erp byte) x n u l e both = Nothing_said refl
heard (Err code bytes) x n u l e both = absurd l.tally
heard Nop x n u l e both = Nothing_said refl
heard (All link messages bits) x n u l e both = Nothing_said refl
heard (Gvb link fm fb) x n u l e both = Nothing_said refl
heard (Ret link messages bits) x n u l e both = Nothing_said refl
heard (Inr link) x n u l e both = Nothing_said refl
heard (Ins link) x n u l e both = Nothing_said refl
heard Rst x n u l e both = Nothing_said refl
heard Rrp x n u l e both = Nothing_said refl

-- of a connection that it has left the other says nothing
left_stays : (o : Option (Sockets × Say)) (m : Sockets → Option Shape) (u : Sockets) → FitsBy false o m → left_by false (m u) ≡ true → left_by false (after_say false o m u) ≡ true
left_stays None m u l e = e
left_stays (Some (p, a)) m u l e =
    ap (λ (b : Bool). left_by false (if b then their_step a (m p) else m u)) (same_back p u (unlike false m p u (says_unleft false a (m p) l) e)) ∙ e

left_run : (ks : List Command) (x : Said) (u : Sockets) → LegalRun false ks x → left_by false (x.shapes u) ≡ true → left_by false ((after_run false ks x).shapes u) ≡ true
left_run [] x u l e = e
left_run (k ∷ ks) x u (l, ls) e = left_run ks (after_said_by false k x) u ls (left_stays (say_of false k) x.shapes u l.fits e)

pub their_back : (ks : List Command) (x : Said) (n : ℕ) (u : Sockets) → LegalRun false ks x → (after_run false ks x).users true n ≡ Some u → left_by false ((after_run false ks x).shapes u) ≡ false → has_both (x.shapes u) ≡ true
    → (left_by false (x.shapes u) ≡ false) × (number_by false ((after_run false ks x).shapes u) ≡ number_by false (x.shapes u))
their_back [] x n u l e f both = (f, refl)
their_back (k ∷ ks) x n u (l, ls) e f both = go (heard k x n u l (users_back ks (after_said_by false k x) n u e) both) (their_back ks (after_said_by false k x) n u ls e f)
  where
    go : Heard k x u
        → (has_both ((after_said_by false k x).shapes u) ≡ true → (left_by false ((after_said_by false k x).shapes u) ≡ false) × (number_by false ((after_run false ks (after_said_by false k x)).shapes u) ≡ number_by false ((after_said_by false k x).shapes u)))
        → (left_by false (x.shapes u) ≡ false) × (number_by false ((after_run false ks (after_said_by false k x)).shapes u) ≡ number_by false (x.shapes u))
    go (Nothing_said d) rest = let before = rest (ap has_both d ∙ both) in (ap (left_by false) (sym d) ∙ before.0, before.1 ∙ ap (number_by false) d)
    go (Left_then g h) rest = let nay : true ≡ false = sym (left_run ks (after_said_by false k x) u ls h) ∙ f in absurd (cc nay)
