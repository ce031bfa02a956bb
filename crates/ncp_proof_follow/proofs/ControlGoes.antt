-- The commands of a host are sent: its ends and their histories stay, and so do the texts reported for
-- the connections of live ends.
use Rattle.std.proofs.Common.{append_assoc, ◌≡◌, ◌⊎◌, inl, inr, ℕ, eq-eqb, Bool, true, false, not, if◌then◌else◌, List, [], ◌∷◌, ◌++◌, map, Some, Ok, refl, sym, ap, ◌∙◌, subst}
use Rattle.std.specs.FinMap.{get}
use Rattle.std.proofs.Math.Bool.{beq}
use Rattle.ncp_wire.specs.declared.command.Command.{Command}
use Rattle.ncp_model.specs.declared.pair.Pair.{Pair}
use Rattle.ncp_model.specs.Endpoint.{is_live}
use Rattle.ncp_model.specs.Ends.{Ends}
use Rattle.ncp_monitor.proofs.LinkOrder.{Sockets, same, about}
use Rattle.ncp_monitor.proofs.Shapes.{Say, Ask, Leave}
use Rattle.ncp_follow.specs.declared.followed_conn.FollowedConn.{FollowedConn}
use Rattle.ncp_follow.specs.declared.session.Session.{Session}
use Rattle.ncp_follow.specs.declared.tables.Tables.{Tables}
use Rattle.ncp_follow.specs.declared.observation.Observation.{Observation}
use Rattle.ncp_interface.specs.declared.request.Request.{Request}
use Rattle.ncp_follow.specs.Sessions.{is_heard}
use Rattle.ncp_follow.specs.Tables.{pair_index, index_at_link, after_request, is_right, is_of_receiver, after_asking, closed_at}
use Rattle.ncp_follow.specs.Followed.{after_command, heard_after, end_of_reset, tables_after, tables_after_all, session_after}
use Rattle.ncp_proof_monitor_allocation.proofs.OwnMoves.{all_says}
use Rattle.ncp_proof_monitor_allocation.proofs.Comes.{says_append}
use Rattle.ncp_proof_follow_tables.proofs.Placed.{Name, named, text_named, Placed, Stays, stays_same}
use Rattle.ncp_proof_follow_tables.proofs.PlacedSteps.{after_request_stays, IsOver, ClosedSo, closed_so, granted_stays, returned_stays, cleared_so, cleared_named}
use Rattle.ncp_proof_follow_tables.proofs.LeftsStay.{LeftsStay, lefts_same, command_lefts}
use Rattle.ncp_proof_follow.proofs.HostMeets.{leaves_in}
use Rattle.ncp_proof_follow.proofs.ControlComes.{first_named, its_pair}

-- a CLS is among what is said
pub cls_said : (u : Sockets) (w : List (Sockets × Say)) → leaves_in (about u w) ≡ true → (more : List (Sockets × Say)) → leaves_in (about u (more ++ w)) ≡ true
cls_said u w e [] = e
cls_said u w e ((p, c) ∷ more) = go (same u p) c (cls_said u w e more)
  where
    go : (b : Bool) (c : Say) → leaves_in (about u (more ++ w)) ≡ true → leaves_in (if b then c ∷ about u (more ++ w) else about u (more ++ w)) ≡ true
    go true (Ask k) rest = rest
    go true Leave rest = refl
    go false c rest = rest

-- one of them is said among all
abbrev pub IsSaid : List Command → Command → Type 0
IsSaid w c = (before : List Command) × (after : List Command) × (w ≡ before ++ c ∷ after)

cls_waits : (w : List Command) (my your : ℕ) → IsSaid w (Command.Cls my your) → leaves_in (about (my, your) (all_says w)) ≡ true
cls_waits w my your (before, after, is) =
    subst (λ (x : List Command). leaves_in (about (my, your) (all_says x)) ≡ true) (sym is)
    (subst (λ (x : List (Sockets × Say)). leaves_in (about (my, your) x) ≡ true) (sym (says_append before (Command.Cls my your ∷ after)))
    (cls_said (my, your) (all_says (Command.Cls my your ∷ after)) here (all_says before)))
  where
    itself : same (my, your) (my, your) ≡ true
    itself = rw (eq-eqb my my refl, eq-eqb your your refl) refl

    here : leaves_in (about (my, your) (((my, your), Leave) ∷ all_says after)) ≡ true
    here = subst (λ (b : Bool). leaves_in (if b then Leave ∷ about (my, your) (all_says after) else about (my, your) (all_says after)) ≡ true) (sym itself) refl

module _ (number me n : ℕ) (m : Ends) (w : List Command) (start : Tables) where
  abbrev pub saying : Observation
  saying = record { number = number; at = me; peer = n; sent = true }

  abbrev pub name : Pair → Name
  name q = record { at = me; peer = n; pair = q }

  -- a live end has heard; and no CLS is queued for one whose peer sent a CLS
  abbrev pub NoneOver : Type 0
  NoneOver = (q : Pair) (track : FollowedConn) → is_live (get m q) ≡ true → named (name q) start.tracks ≡ Some track → track.peer_left ≡ true → leaves_in (about (q.local, q.remote) (all_says w)) ≡ true → ⊥

  -- of each end that lives the text is as it was
  pub record GoneOut (t : Tables) : Type 0 where
    pub placed : Placed t
    pub texts : (q : Pair) → is_live (get m q) ≡ true → text_named (name q) t ≡ text_named (name q) start
    pub lefts : LeftsStay false start.tracks t.tracks

  pub gone_begins : Placed start → GoneOut start
  gone_begins p = record { placed = p; texts = λ q l. refl; lefts = lefts_same false start.tracks }

  lefts_then : (t now : Tables) → LeftsStay false start.tracks t.tracks → LeftsStay false t.tracks now.tracks → LeftsStay false start.tracks now.tracks
  lefts_then t now k l j track e g = let was = l j track e g in k j was.track was.was was.gone

  module _ (over : NoneOver) (reset_down : IsSaid w Command.Rst → (q : Pair) → is_live (get m q) ≡ false) where
    asking_stays : (t : Tables) → Placed t → (receive send : ℕ) (request : Request) → Stays t (after_asking saying receive send request t)
    asking_stays t p receive send request = go (is_right receive send request) (beq (is_of_receiver request) true)
      where
        go : (x y : Bool) → Stays t (if not x then t else if y then after_request saying receive send request t else after_request saying send receive request t)
        go false y = stays_same t p
        go true true = after_request_stays saying t p receive send request
        go true false = after_request_stays saying t p send receive request

    by_stays : (t now : Tables) → GoneOut t → Stays t now → LeftsStay false t.tracks now.tracks → GoneOut now
    by_stays t now k s l = record { placed = s.placed; texts = λ q a. s.texts (name q) ∙ k.texts q a; lefts = lefts_then t now k.lefts l }

    -- a CLS of the host
    by_cls : (t : Tables) (my your : ℕ) → IsSaid w (Command.Cls my your) → GoneOut t → GoneOut (closed_at saying t (pair_index me n my your t.tracks))
    by_cls t my your said k = record { placed = so.placed; texts = λ q a. each q a (so.each (name q)) ∙ k.texts q a; lefts = lefts_then t now k.lefts (command_lefts saying t k.placed (Command.Cls my your)) }
      where
        now : Tables
        now = closed_at saying t (pair_index me n my your t.tracks)

        so : ClosedSo saying t k.placed my your now
        so = closed_so saying t k.placed my your (pair_index me n my your t.tracks) refl

        each : (q : Pair) → is_live (get m q) ≡ true → (text_named (name q) now ≡ text_named (name q) t) ⊎ IsOver saying t k.placed my your (name q) now → text_named (name q) now ≡ text_named (name q) t
        each q a (inl e) = e
        each q a (inr o) =
            let was = k.lefts (name q) o.track o.was o.other_left in
            let is : q ≡ record { local = my; remote = your } = its_pair me n q my your o.track (first_named (name q) t.tracks o.track o.was) o.pair in
            let waits : leaves_in (about (q.local, q.remote) (all_says w)) ≡ true = ap (λ (x : Pair). leaves_in (about (x.local, x.remote) (all_says w))) is ∙ cls_waits w my your said in
            absurd (over q was.track a was.was was.gone waits)

    obeyed : (t : Tables) (c : Command) → IsSaid w c → GoneOut t → GoneOut (after_command saying c t)
    obeyed t Command.Nop said k = k
    obeyed t (Command.Rts receive send link) said k = by_stays t (after_command saying (Command.Rts receive send link) t) k (asking_stays t k.placed receive send (Request.Link link)) (command_lefts saying t k.placed (Command.Rts receive send link))
    obeyed t (Command.Str send receive size) said k = by_stays t (after_command saying (Command.Str send receive size) t) k (asking_stays t k.placed receive send (Request.Size size)) (command_lefts saying t k.placed (Command.Str send receive size))
    obeyed t (Command.Cls my your) said k = by_cls t my your said k
    obeyed t (Command.All link messages bits) said k =
        by_stays t (after_command saying (Command.All link messages bits) t) k (granted_stays saying t k.placed false link messages bits (index_at_link me n false link t.tracks) refl) (command_lefts saying t k.placed (Command.All link messages bits))
    obeyed t (Command.Gvb link fm fb) said k = k
    obeyed t (Command.Ret link messages bits) said k =
        by_stays t (after_command saying (Command.Ret link messages bits) t) k (returned_stays saying t k.placed true link messages bits (index_at_link me n true link t.tracks) refl) (command_lefts saying t k.placed (Command.Ret link messages bits))
    obeyed t (Command.Inr link) said k = k
    obeyed t c said k = k

    heard_or_not : (t : Tables) (c : Command) (σ : Session) → IsSaid w c → GoneOut t → GoneOut (heard_after saying c σ t)
    heard_or_not t c σ said k = go (is_heard σ true)
      where
        go : (x : Bool) → GoneOut (if x then after_command saying c t else t)
        go true = obeyed t c said k
        go false = k

    item_goes : (t : Tables) (c : Command) (σ : Session) → IsSaid w c → GoneOut t → GoneOut (tables_after saying (Ok c) σ t)
    item_goes t Command.Rst σ said k =
        let so = cleared_so saying t k.placed (end_of_reset true) in
        record {
          placed = so.placed;
          texts = λ q a. let nay : false ≡ true = sym (reset_down said q) ∙ a in absurd (cc nay);
          lefts = λ j track e g. k.lefts j track (cleared_named saying t k.placed j track e) g;
        }
    item_goes t Command.Rrp σ said k = k
    item_goes t c σ said k = heard_or_not t c σ said k

    pub all_go : (cs rest : List Command) (t : Tables) (σ : Session) (before : List Command) → w ≡ before ++ (cs ++ rest) → GoneOut t → GoneOut (tables_after_all saying (map Ok cs) σ t)
    all_go [] rest t σ before is k = k
    all_go (c ∷ cs) rest t σ before is k =
        all_go cs rest (tables_after saying (Ok c) σ t) (session_after saying (Ok c) σ) (before ++ c ∷ [])
        (is ∙ sym (append_assoc before (c ∷ []) (cs ++ rest))) (item_goes t c σ (before, cs ++ rest, is) k)
