-- What two hosts said to each other on the control link, as one of them sees it: the connections, who has each link, what is
-- counted of each connection, and the replies that each owes the other. What each of the two may say, and what is after it. Each
-- definition takes the side that speaks: true is the one who sees it, and false the other.
use Rattle.std.proofs.Common.{◌≡◌, ℕ, ◌+◌, ◌≤◌, ◌==◌, Bool, true, false, not, ◌&&◌, ◌||◌, nat_le, if◌then◌else◌, List, [], ◌∷◌, ◌++◌, Option, None, Some, refl, ap, ◌∙◌}
use Rattle.std.specs.Option.{option_to_list}
use Rattle.ncp_wire.specs.declared.command.Command.{Command}
use Rattle.ncp_wire.specs.declared.command.Command.TheVariants.{Rts, Str, Cls, Eco, Erp, Err, Nop, All, Gvb, Ret, Inr, Ins, Rst, Rrp}
use Rattle.ncp_monitor.specs.declared.finding.Rule.{Rule}
use Rattle.ncp_interface.specs.declared.request.Request.TheVariants.{Link, Size}
use Rattle.ncp_monitor.specs.Requests.{range_rule}
use Rattle.ncp_interface.specs.Sockets.{is_of_sexes}
use Rattle.ncp_monitor.proofs.Shapes.{Shape, Say, Ask, Leave, legal, their_legal, others_of}
use Rattle.ncp_monitor.proofs.LinkOrder.{Sockets, put, number_of}
use Rattle.ncp_proof_monitor_allocation.proofs.OwnMoves.{says_of}
use Rattle.ncp_proof_monitor_allocation.proofs.Proper.{has_right_parts}
use Rattle.ncp_proof_monitor_allocation.proofs.SeenTables.{step}
use Rattle.ncp_proof_monitor_allocation.proofs.Words.{Count, no_count}
use Rattle.ncp_proof_monitor_network.specs.Owing.{Owing, Echoes, is_echo_of, is_returning_on, NextOwed, owed_after, has_echo, any_owing}
use Rattle.ncp_proof_monitor_network.proofs.Tallied.{left_by, IsDemuxed, HasNumbers, count_put, counted_on, counted_off, recalled_by, returned_by, return_asked, by_side, users_put, users_after_cls, counts_after_cls, owing_without}

pub record Said : Type 0 where
  pub shapes : Sockets → Option Shape
  pub users : Bool → ℕ → Option Sockets  -- the connection that has a link on which the side receives
  pub counts : Sockets → Count
  pub owing : Bool → List Owing  -- the replies that the side owes

abbrev pub unspoken : Said
unspoken = record { shapes = λ u. None; users = λ s link. None; counts = λ u. no_count; owing = λ s. [] }

-- the same was said
pub record SaidAlike (x y : Said) : Type 0 where
  pub shapes : (u : Sockets) → x.shapes u ≡ y.shapes u
  pub users : (s : Bool) (link : ℕ) → x.users s link ≡ y.users s link
  pub counts : (u : Sockets) → x.counts u ≡ y.counts u
  pub owing : (s : Bool) → x.owing s ≡ y.owing s

-- ---- what a command says

-- the sockets of a connection, that of the one who sees it first
abbrev pub sockets_by : Bool → ℕ → ℕ → Sockets
sockets_by s own others = (if s then own else others, if s then others else own)

-- of a connection
abbrev pub say_of : Bool → Command → Option (Sockets × Say)
say_of s (Rts receive send link) = Some (sockets_by s receive send, Ask link)
say_of s (Str send receive size) = Some (sockets_by s send receive, Ask size)
say_of s (Cls my your) = Some (sockets_by s my your, Leave)
say_of s c = None

-- of the one's own it is what is known of it elsewhere
own_says : (c : Command) → option_to_list (say_of true c) ≡ says_of c
own_says (Rts receive send link) = refl
own_says (Str send receive size) = refl
own_says (Cls my your) = refl
own_says (Eco byte) = refl
own_says (Erp byte) = refl
own_says (Err code bytes) = refl
own_says Nop = refl
own_says (All link messages bits) = refl
own_says (Gvb link fm fb) = refl
own_says (Ret link messages bits) = refl
own_says (Inr link) = refl
own_says (Ins link) = refl
own_says Rst = refl
own_says Rrp = refl

-- ---- what a side may say

abbrev pub may_say : Bool → Say → Option Shape → Bool
may_say true a m = legal a m
may_say false a m = their_legal a m

abbrev pub FitsBy : Bool → Option (Sockets × Say) → (Sockets → Option Shape) → Type 0
FitsBy s None m = Unit {0}
FitsBy s (Some (p, a)) m = may_say s a (m p) ≡ true

-- the side receives by a connection of these sockets
abbrev pub takes_by : Bool → Sockets → Bool
takes_by true u = is_of_sexes u.0 u.1
takes_by false u = is_of_sexes u.1 u.0

-- what it asked for a connection
abbrev pub number_by : Bool → Option Shape → Option ℕ
number_by true m = number_of m
number_by false m = others_of m

-- by what is counted and what is owed; no error of the other is ever found, so an ERR never is right
abbrev pub TallyLegal : Bool → Command → Said → Type 0
TallyLegal s (Rts receive send link) x = x.users s link ≡ None
TallyLegal s (Str send receive size) x = Unit {0}
TallyLegal s (Cls my your) x = Unit {0}
TallyLegal s (Eco byte) x = has_echo (x.owing (not s)) ≡ false
TallyLegal s (Erp byte) x = NextOwed (is_echo_of byte) any_owing (x.owing s)
TallyLegal s (Err code bytes) x = ⊥
TallyLegal s Nop x = Unit {0}
TallyLegal s (All link messages bits) x = IsDemuxed s s (x.users s link) x.shapes (λ u. ((x.counts u).messages + messages ≤ 65535) × ((x.counts u).bits + bits ≤ 65536))
TallyLegal s (Gvb link fm fb) x = IsDemuxed s s (x.users s link) x.shapes (λ u. (x.counts u).recall ≡ false)
TallyLegal s (Ret link messages bits) x = IsDemuxed s (not s) (x.users (not s) link) x.shapes (λ u. ((x.counts u).recall ≡ true) × NextOwed (is_returning_on link) (HasNumbers s messages bits (x.counts u)) (x.owing s))
TallyLegal s (Inr link) x = IsDemuxed s s (x.users s link) x.shapes (λ u. Unit {0})
TallyLegal s (Ins link) x = IsDemuxed s (not s) (x.users (not s) link) x.shapes (λ u. Unit {0})
TallyLegal s Rst x = Unit {0}
TallyLegal s Rrp x = Unit {0}

pub record Legal (s : Bool) (c : Command) (x : Said) : Type 0 where
  pub right : has_right_parts c ≡ true
  pub fits : FitsBy s (say_of s c) x.shapes
  pub tally : TallyLegal s c x

-- a text: its size is that of the sender's request
abbrev pub TextLegal : Bool → ℕ → ℕ → ℕ → Said → Type 0
TextLegal s link size bits x = IsDemuxed s (not s) (x.users (not s) link) x.shapes (λ u. (number_by s (x.shapes u) ≡ Some size) × (1 ≤ (x.counts u).messages) × (bits ≤ (x.counts u).bits))

-- ---- what is after it

abbrev pub after_say : Bool → Option (Sockets × Say) → (Sockets → Option Shape) → Sockets → Option Shape
after_say s None m = m
after_say s (Some (p, a)) m = put m p (step s a (m p))

abbrev pub users_after : Bool → Command → Said → Bool → ℕ → Option Sockets
users_after s (Rts receive send link) x = users_put x.users s link (sockets_by s receive send)
users_after s (Cls my your) x = users_after_cls (left_by (not s) (x.shapes (sockets_by s my your))) (sockets_by s my your) x.users
users_after s c x = x.users

abbrev pub counts_said : Bool → Command → Said → Sockets → Count
counts_said s (Cls my your) x = counts_after_cls (left_by (not s) (x.shapes (sockets_by s my your))) (sockets_by s my your) x.counts
counts_said s (All link messages bits) x = count_put x.counts (x.users s link) (counted_on messages bits)
counts_said s (Gvb link fm fb) x = count_put x.counts (x.users s link) (recalled_by s fm fb)
counts_said s (Ret link messages bits) x = count_put x.counts (x.users (not s) link) (returned_by s messages bits)
counts_said s c x = x.counts

abbrev pub owing_after : Bool → Command → Said → Bool → List Owing
owing_after s (Cls my your) x = by_side s (owing_without (sockets_by s my your) (x.owing s)) x.owing
owing_after s (Eco byte) x = by_side (not s) (x.owing (not s) ++ Echoes byte ∷ []) x.owing
owing_after s (Erp byte) x = by_side s (owed_after (is_echo_of byte) (x.owing s)) x.owing
owing_after s (Gvb link fm fb) x = by_side (not s) (x.owing (not s) ++ return_asked s link fm fb x.shapes x.counts (x.users s link)) x.owing
owing_after s (Ret link messages bits) x = by_side s (owed_after (is_returning_on link) (x.owing s)) x.owing
owing_after s c x = x.owing

abbrev pub after_said_by : Bool → Command → Said → Said
after_said_by s c x = record { shapes = after_say s (say_of s c) x.shapes; users = users_after s c x; counts = counts_said s c x; owing = owing_after s c x }

-- a text takes off one message and its bits
abbrev pub after_text_by : Bool → ℕ → ℕ → Said → Said
after_text_by s link bits x = record x { counts = count_put x.counts (x.users (not s) link) (counted_off 1 bits) }

-- what the one who sees it owes is forgotten
abbrev pub without_owed : Said → Said
without_owed x = record x { owing = by_side true [] x.owing }

-- ---- one after the other

abbrev pub LegalRun : Bool → List Command → Said → Type 0
LegalRun s [] x = Unit {0}
LegalRun s (c ∷ cs) x = Legal s c x × LegalRun s cs (after_said_by s c x)

abbrev pub after_run : Bool → List Command → Said → Said
after_run s [] x = x
after_run s (c ∷ cs) x = after_run s cs (after_said_by s c x)

-- ---- as the other sees it

abbrev pub facing_shape : Option Shape → Option Shape
facing_shape None = None
facing_shape (Some m) = Some (record { own = m.others; others = m.own; left = m.cls; cls = m.left })

abbrev pub facing_user : Option Sockets → Option Sockets
facing_user None = None
facing_user (Some u) = Some (u.1, u.0)

-- ---- what each command may be, said at once

pub legal_rts : (s : Bool) (receive send link : ℕ) (x : Said) → is_of_sexes receive send ≡ true → range_rule (Rts receive send link) (Link link) ≡ None → may_say s (Ask link) (x.shapes (sockets_by s receive send)) ≡ true
    → x.users s link ≡ None → Legal s (Rts receive send link) x
legal_rts s receive send link x sexes range fits free = record {
  right = ap (λ (b : Bool). b && (nat_le 2 link && nat_le link 71)) sexes ∙ go (nat_le 2 link && nat_le link 71) range;
  fits = fits;
  tally = free;
}
  where
    go : (b : Bool) → (if b then None else Some (Rule.LinkRange (Rts receive send link))) ≡ None → b ≡ true
    go true e = refl
    go false e = absurd (cc e)

pub legal_str : (s : Bool) (send receive size : ℕ) (x : Said) → is_of_sexes receive send ≡ true → range_rule (Str send receive size) (Size size) ≡ None → may_say s (Ask size) (x.shapes (sockets_by s send receive)) ≡ true
    → Legal s (Str send receive size) x
legal_str s send receive size x sexes range fits = record {
  right = ap (λ (b : Bool). b && not (size == 0)) sexes ∙ go (size == 0) range;
  fits = fits;
  tally = tt;
}
  where
    go : (b : Bool) → (if b then Some (Rule.SizeZero (Str send receive size)) else None) ≡ None → not b ≡ true
    go true e = absurd (cc e)
    go false e = refl

pub legal_cls : (s : Bool) (my your : ℕ) (x : Said) → (is_of_sexes my your || is_of_sexes your my) ≡ true → may_say s Leave (x.shapes (sockets_by s my your)) ≡ true → Legal s (Cls my your) x
legal_cls s my your x right fits = record { right = right; fits = fits; tally = tt }

-- what is of no request and no CLS
abbrev pub reports_else : Command → Bool
reports_else (Rts receive send link) = false
reports_else (Str send receive size) = false
reports_else (Cls my your) = false
reports_else c = true

pub legal_reported : (s : Bool) (c : Command) (x : Said) → reports_else c ≡ true → TallyLegal s c x → Legal s c x
legal_reported s (Rts receive send link) x e t = absurd (cc e)
legal_reported s (Str send receive size) x e t = absurd (cc e)
legal_reported s (Cls my your) x e t = absurd (cc e)
legal_reported s (Eco byte) x e t = record { right = refl; fits = tt; tally = t }
legal_reported s (Erp byte) x e t = record { right = refl; fits = tt; tally = t }
legal_reported s (Err code bytes) x e t = absurd t
legal_reported s Nop x e t = record { right = refl; fits = tt; tally = t }
legal_reported s (All link messages bits) x e t = record { right = refl; fits = tt; tally = t }
legal_reported s (Gvb link fm fb) x e t = record { right = refl; fits = tt; tally = t }
legal_reported s (Ret link messages bits) x e t = record { right = refl; fits = tt; tally = t }
legal_reported s (Inr link) x e t = record { right = refl; fits = tt; tally = t }
legal_reported s (Ins link) x e t = record { right = refl; fits = tt; tally = t }
legal_reported s Rst x e t = record { right = refl; fits = tt; tally = t }
legal_reported s Rrp x e t = record { right = refl; fits = tt; tally = t }

-- what changes nothing of it
abbrev pub is_idle : Command → Bool
is_idle Nop = true
is_idle (Inr link) = true
is_idle (Ins link) = true
is_idle Rst = true
is_idle Rrp = true
is_idle c = false

pub idle_leaves : (s : Bool) (c : Command) (x : Said) → is_idle c ≡ true → after_said_by s c x ≡ x
idle_leaves s (Rts receive send link) x e = absurd (cc e)
idle_leaves s (Str send receive size) x e = absurd (cc e)
idle_leaves s (Cls my your) x e = absurd (cc e)
idle_leaves s (Eco byte) x e = absurd (cc e)
idle_leaves s (Erp byte) x e = absurd (cc e)
idle_leaves s (Err code bytes) x e = absurd (cc e)
idle_leaves s Nop x e = refl
idle_leaves s (All link messages bits) x e = absurd (cc e)
idle_leaves s (Gvb link fm fb) x e = absurd (cc e)
idle_leaves s (Ret link messages bits) x e = absurd (cc e)
idle_leaves s (Inr link) x e = refl
idle_leaves s (Ins link) x e = refl
idle_leaves s Rst x e = refl
idle_leaves s Rrp x e = refl
