-- A record at the interface of a host leaves the texts reported at other interfaces unchanged. After each
-- record the facts about the names and indices of connections hold, and each whole connection was opened.
use Rattle.std.proofs.Common.{◌≡◌, ◌≤◌, ◌⊎◌, inl, inr, ℕ, ◌==◌, eq-eqb, Bool, true, false, not, ◌&&◌, if◌then◌else◌, List, [], ◌∷◌, length, Option, None, Some, Result, Ok, refl, sym, ap, ◌∙◌, arith}
use Rattle.std.specs.Prelude.{nat_lt}
use Rattle.std.proofs.Math.Bool.{beq}
use Rattle.std.proofs.lemmas.Bool.{eqb-true, and_parts}
use Rattle.std.proofs.lemmas.Bool.Decides.{nat_tests}
use Rattle.std.proofs.lemmas.List.Quantifiers.{position-Some}
use Rattle.ncp_leader.specs.declared.fault.MessageFault.{MessageFault}
use Rattle.ncp_leader.specs.Message.{Message, message_in}
use Rattle.ncp_wire.specs.declared.command.Command.{Command}
use Rattle.ncp_wire.specs.declared.fault.CommandFault.{CommandFault}
use Rattle.ncp_monitor.proofs.Firsts.{first}
use Rattle.ncp_follow.specs.declared.connection.EndReason.{EndReason}
use Rattle.ncp_follow.specs.declared.connection.EndReason.TheVariants.{ReplyCame}
use Rattle.ncp_follow.specs.declared.follower.Follower.{Follower}
use Rattle.ncp_follow.specs.declared.followed_conn.FollowedConn.{FollowedConn}
use Rattle.ncp_interface.specs.declared.request.Request.{Request}
use Rattle.ncp_interface.specs.declared.request.Request.TheVariants.{Link, Size}
use Rattle.ncp_interface.specs.declared.message_class.MessageClass.{MessageClass}
use Rattle.ncp_follow.specs.declared.session.Session.{Session}
use Rattle.ncp_follow.specs.declared.tables.Tables.{Tables}
use Rattle.ncp_follow.specs.declared.opened.TheConstants.{MAX_OPENED}
use Rattle.ncp_follow.specs.declared.observation.Observation.{Observation}
use Rattle.ncp_follow.specs.Tracks.{new_track, is_used, track_at}
use Rattle.ncp_interface.specs.Sockets.{is_number_given, is_senders}
use Rattle.ncp_follow.specs.Sessions.{session_of, is_heard}
use Rattle.ncp_interface.specs.declared.event.InterfaceEvent.{InterfaceEvent}
use Rattle.ncp_interface.specs.declared.notice.ImpNotice.{ImpNotice}
use Rattle.ncp_interface.specs.Events.{way_of, event_of}
use Rattle.ncp_interface.specs.Notices.{notice_of}
use Rattle.ncp_interface.specs.Slots.{position_of, is_repeat, gone_out, with_out}
use Rattle.ncp_follow.specs.Tables.{pair_index, index_at_link, has_room_opened, is_right, is_of_receiver, after_request, after_asking, closed_at, after_close, said_at, after_text, after_clearing}
use Rattle.ncp_follow.specs.Followed.{after_command, end_of_reset, ends_reset, heard_after, tables_after, session_after, tables_after_all, read_tables, follower_after_said, follower_after_out, follower_after_event, follower_after_notice, follower_after_record}
use Rattle.ncp_interface.specs.Contents.{items_said, message_class}
use Rattle.ncp_proof_follow_tables.proofs.OpensSo.{AllOpened, OpensSo, command_opens, text_opens}
use Rattle.ncp_proof_follow_tables.proofs.Placed.{Name, has_name, text_named, Placed, name_is, Stays}
use Rattle.ncp_proof_follow_tables.proofs.PlacedSteps.{after_request_stays, IsOver, ClosedSo, closed_so, granted_stays, returned_stays, SaidSo, said_so, ClearedSo, cleared_so, cleared_named, end_all_length}

-- reports change only at the interface of this host
pub record Away (at : ℕ) (t now : Tables) : Type 0 where
  pub placed : Placed now
  pub texts : (j : Name) → (j.at == at) ≡ false → text_named j now ≡ text_named j t
  pub opened : has_room_opened now.told ≡ true → AllOpened t.tracks → AllOpened now.tracks
  pub more : length t.told ≤ length now.told

pub away_same : (at : ℕ) (t : Tables) → Placed t → Away at t t
away_same at t k = record { placed = k; texts = λ j d. refl; opened = λ h all. all; more = omega arith }

fewer_place : (n m : ℕ) → n ≤ m → nat_lt m MAX_OPENED ≡ true → nat_lt n MAX_OPENED ≡ true
fewer_place n m l e = grind (arith, nat_tests)

pub away_both : (at : ℕ) (t m now : Tables) → Away at t m → Away at m now → Away at t now
away_both at t m now k l = record {
  placed = l.placed;
  texts = λ j d. l.texts j d ∙ k.texts j d;
  opened = λ h all. l.opened h (k.opened (fewer_place (length m.told) (length now.told) l.more h) all);
  more = let one = k.more in let two = l.more in omega arith;
}

opens_away : (at : ℕ) (t now : Tables) → OpensSo t now → Placed now → ((j : Name) → (j.at == at) ≡ false → text_named j now ≡ text_named j t) → Away at t now
opens_away at t now o k texts = record {
  placed = k;
  texts = texts;
  opened = λ h all. o.opened (fewer_place (length t.told) (length now.told) o.more h) all;
  more = o.more;
}

first_is : {A : Type 0} (t : A → Bool) (xs : List A) (x : A) → first t xs ≡ Some x → t x ≡ true
first_is t [] x e = absurd (cc e)
first_is t (y ∷ xs) x e = go (t y) refl e (λ f. first_is t xs x f)
  where
    go : (b : Bool) → t y ≡ b → (if b then Some y else first t xs) ≡ Some x → (first t xs ≡ Some x → t x ≡ true) → t x ≡ true
    go true d f rest = let same : y ≡ x = cc f in ap t (sym same) ∙ d
    go false d f rest = rest f

-- the first of four, of three
first_of_four : (a b c d : Bool) → (a && b && c && d) ≡ true → a ≡ true
first_of_four a b c d e = (and_parts a b (and_parts (a && b) c (and_parts (a && b && c) d e).0).0).0

module _ (observation : Observation) (t : Tables) (k : Placed t) where
  -- the tables after a step: the same is reported for others
  record Kept (now : Tables) : Type 0 where
    pub placed : Placed now
    pub texts : (j : Name) → (j.at == observation.at) ≡ false → text_named j now ≡ text_named j t

  kept_same : Kept t
  kept_same = record { placed = k; texts = λ j d. refl }

  kept_stays : (now : Tables) → Stays t now → Kept now
  kept_stays now s = record { placed = s.placed; texts = λ j d. s.texts j }

  -- a track at this interface has none of these names
  unnamed : (j : Name) (track : FollowedConn) → track.at ≡ observation.at → (j.at == observation.at) ≡ false → has_name j track ≡ false
  unnamed j track e d = go (has_name j track) refl
    where
      go : (b : Bool) → has_name j track ≡ b → has_name j track ≡ false
      go true f =
          let here : j.at ≡ observation.at = ap (λ (x : Name). x.at) (name_is j track f) ∙ e in
          let nay : true ≡ false = sym (eq-eqb j.at observation.at here) ∙ d in absurd (cc nay)
      go false f = f

  asking_kept : (receive send : ℕ) (request : Request) → Kept (after_asking observation receive send request t)
  asking_kept receive send request = go (not (is_right receive send request)) (beq (is_of_receiver request) observation.sent)
    where
      go : (x y : Bool) → Kept (if x then t else if y then after_request observation receive send request t else after_request observation send receive request t)
      go true y = kept_same
      go false true = kept_stays (after_request observation receive send request t) (after_request_stays observation t k receive send request)
      go false false = kept_stays (after_request observation send receive request t) (after_request_stays observation t k send receive request)

  over_kept : (local remote : ℕ) (o : Option ℕ) → pair_index observation.at observation.peer local remote t.tracks ≡ o → Kept (closed_at observation t o)
  over_kept local remote o e = record { placed = c.placed; texts = λ j d. by j d (c.each j) }
    where
      c : ClosedSo observation t k local remote (closed_at observation t o)
      c = closed_so observation t k local remote o e

      by : (j : Name) → (j.at == observation.at) ≡ false → (text_named j (closed_at observation t o) ≡ text_named j t) ⊎ IsOver observation t k local remote j (closed_at observation t o) → text_named j (closed_at observation t o) ≡ text_named j t
      by j d (inl same) = same
      by j d (inr over) =
          let mine : has_name j over.track ≡ true = first_is (has_name j) t.tracks over.track over.was in
          let here : over.track.at ≡ observation.at = eqb-true over.track.at observation.at (first_of_four (over.track.at == observation.at) (over.track.peer == observation.peer) (over.track.local == local) (over.track.remote == remote) over.pair) in
          let nay : true ≡ false = sym mine ∙ unnamed j over.track here d in absurd (cc nay)

  close_kept : (my your : ℕ) → Kept (after_close observation my your t)
  close_kept my your = go observation.sent
    where
      go : (x : Bool) → Kept (if x then closed_at observation t (pair_index observation.at observation.peer my your t.tracks) else closed_at observation t (pair_index observation.at observation.peer your my t.tracks))
      go true = over_kept my your (pair_index observation.at observation.peer my your t.tracks) refl
      go false = over_kept your my (pair_index observation.at observation.peer your my t.tracks) refl

  command_kept : (c : Command) → Kept (after_command observation c t)
  command_kept Command.Nop = kept_same
  command_kept (Command.Rts receive send link) = asking_kept receive send (Link link)
  command_kept (Command.Str send receive size) = asking_kept receive send (Size size)
  command_kept (Command.Cls my your) = close_kept my your
  command_kept (Command.All link messages bits) = kept_stays (after_command observation (Command.All link messages bits) t) (granted_stays observation t k (not observation.sent) link messages bits (index_at_link observation.at observation.peer (not observation.sent) link t.tracks) refl)
  command_kept (Command.Gvb link fm fb) = kept_same
  command_kept (Command.Ret link messages bits) = kept_stays (after_command observation (Command.Ret link messages bits) t) (returned_stays observation t k observation.sent link messages bits (index_at_link observation.at observation.peer observation.sent link t.tracks) refl)
  command_kept (Command.Inr link) = kept_same
  command_kept (Command.Ins link) = kept_same
  command_kept (Command.Eco byte) = kept_same
  command_kept (Command.Erp byte) = kept_same
  command_kept (Command.Err code bytes) = kept_same
  command_kept Command.Rst = kept_same
  command_kept Command.Rrp = kept_same

  text_kept : (link size : ℕ) (text : List Bool) → Kept (after_text observation link size text t)
  text_kept link size text = go (index_at_link observation.at observation.peer observation.sent link t.tracks) refl
    where
      go : (o : Option ℕ) → index_at_link observation.at observation.peer observation.sent link t.tracks ≡ o → Kept (said_at size text t o)
      go None e = kept_same
      go (Some i) e = record { placed = s.placed; texts = λ j d. s.others j (unnamed j (track_at t.tracks i) here d) }
        where
          s : SaidSo observation t k (track_at t.tracks i) size text (said_at size text t (Some i))
          s = said_so observation t k observation.sent link size text i e

          found : is_used observation.at observation.peer observation.sent link (track_at t.tracks i) ≡ true
          found = (position-Some (is_used observation.at observation.peer observation.sent link) t.tracks i (new_track 0 0 0 0) e).1

          here : (track_at t.tracks i).at ≡ observation.at
          here =
              eqb-true (track_at t.tracks i).at observation.at
              (first_of_four ((track_at t.tracks i).at == observation.at) ((track_at t.tracks i).peer == observation.peer) (beq (is_senders (track_at t.tracks i).local) observation.sent) (is_number_given (track_at t.tracks i).link link) found)

  pub command_away : (c : Command) → Away observation.at t (after_command observation c t)
  command_away c = let s = command_kept c in opens_away observation.at t (after_command observation c t) (command_opens t k observation c) s.placed s.texts

  pub text_away : (link size : ℕ) (text : List Bool) → Away observation.at t (after_text observation link size text t)
  text_away link size text = let s = text_kept link size text in opens_away observation.at t (after_text observation link size text t) (text_opens t k observation link size text) s.placed s.texts

  pub clearing_away : (end : EndReason) → Away observation.at t (after_clearing observation end t)
  clearing_away end = record {
    placed = c.placed;
    texts = λ j d. c.others j (ap (λ (x : Bool). x && j.peer == observation.peer) d);
    opened = λ h all j track e w. all j track (cleared_named observation t k j track e) w;
    more = let same = end_all_length observation t k end t.tracks t.told in omega arith;
  }
    where
      c : ClearedSo observation t k (after_clearing observation end t)
      c = cleared_so observation t k end

  heard_away : (c : Command) (s : Session) → Away observation.at t (heard_after observation c s t)
  heard_away c s = go (is_heard s observation.sent)
    where
      go : (b : Bool) → Away observation.at t (if b then after_command observation c t else t)
      go true = command_away c
      go false = away_same observation.at t k

  item_away : (item : Result Command CommandFault) (s : Session) → Away observation.at t (tables_after observation item s t)
  item_away (Result.Err fault) s = away_same observation.at t k
  item_away (Ok Command.Rst) s = clearing_away (end_of_reset observation.sent)
  item_away (Ok Command.Rrp) s = go (ends_reset observation s)
    where
      go : (b : Bool) → Away observation.at t (if b then after_clearing observation ReplyCame t else t)
      go true = clearing_away ReplyCame
      go false = away_same observation.at t k
  item_away (Ok Command.Nop) s = heard_away Command.Nop s
  item_away (Ok (Command.Rts receive send link)) s = heard_away (Command.Rts receive send link) s
  item_away (Ok (Command.Str send receive size)) s = heard_away (Command.Str send receive size) s
  item_away (Ok (Command.Cls my your)) s = heard_away (Command.Cls my your) s
  item_away (Ok (Command.All link messages bits)) s = heard_away (Command.All link messages bits) s
  item_away (Ok (Command.Gvb link fm fb)) s = heard_away (Command.Gvb link fm fb) s
  item_away (Ok (Command.Ret link messages bits)) s = heard_away (Command.Ret link messages bits) s
  item_away (Ok (Command.Inr link)) s = heard_away (Command.Inr link) s
  item_away (Ok (Command.Ins link)) s = heard_away (Command.Ins link) s
  item_away (Ok (Command.Eco byte)) s = heard_away (Command.Eco byte) s
  item_away (Ok (Command.Erp byte)) s = heard_away (Command.Erp byte) s
  item_away (Ok (Command.Err code bytes)) s = heard_away (Command.Err code bytes) s

items_away : (observation : Observation) (items : List (Result Command CommandFault)) (s : Session) (t : Tables) → Placed t → Away observation.at t (tables_after_all observation items s t)
items_away observation [] s t k = away_same observation.at t k
items_away observation (item ∷ items) s t k =
    let here = item_away observation t k item s in
    away_both observation.at t (tables_after observation item s t) (tables_after_all observation items (session_after observation item s) (tables_after observation item s t)) here (items_away observation items (session_after observation item s) (tables_after observation item s t) here.placed)

read_away : (observation : Observation) (payload : MessageClass) (m : Message) (s : Session) (t : Tables) → Placed t → Away observation.at t (read_tables payload observation m s t)
read_away observation MessageClass.Stop m s t k = away_same observation.at t k
read_away observation MessageClass.Control m s t k = items_away observation (items_said m.text) s t k
read_away observation MessageClass.Text m s t k = go (is_heard s observation.sent)
  where
    go : (b : Bool) → Away observation.at t (if b then after_text observation m.leader.link m.size m.text t else t)
    go true = text_away observation t k m.leader.link m.size m.text
    go false = away_same observation.at t k

said_away : (observation : Observation) (r : Result Message MessageFault) (f : Follower) → Placed f.tables → Away observation.at f.tables (follower_after_said observation r f).tables
said_away observation (Ok m) f k = read_away observation (message_class m) m (session_of f.part f.sessions observation.at observation.peer) f.tables k
said_away observation (Result.Err fault) f k = away_same observation.at f.tables k

-- a record
pub record_away : (number : ℕ) (sent : Bool) (at : ℕ) (bits : List Bool) (f : Follower) → Placed f.tables → Away at f.tables (follower_after_record number sent at bits f).tables
record_away number sent at bits f k = noticed (notice_of (way_of sent) bits) (event_of (way_of sent) at bits)
  where
    observation : ℕ → Bool → Observation
    observation peer sent = record { number = number; at = at; peer = peer; sent = sent }

    out : (peer link : ℕ) → Away at f.tables (follower_after_out number at peer link bits f).tables
    out peer link = by (is_repeat f.outs (position_of at peer link f.outs) bits)
      where
        after : Follower
        after = record f { outs = with_out f.outs (position_of at peer link f.outs) (gone_out at peer link bits) }

        by : (b : Bool) → Away at f.tables (if b then after else follower_after_said (observation peer true) (message_in bits) after).tables
        by true = away_same at f.tables k
        by false = said_away (observation peer true) (message_in bits) after k

    happened : (e : InterfaceEvent) → Away at f.tables (follower_after_event number at bits e f).tables
    happened InterfaceEvent.Short = away_same at f.tables k
    happened InterfaceEvent.Nothing = away_same at f.tables k
    happened (InterfaceEvent.Own kind link) = away_same at f.tables k
    happened (InterfaceEvent.Other kind) = away_same at f.tables k
    happened (InterfaceEvent.Out peer link) = out peer link
    happened (InterfaceEvent.Answer kind peer link) = away_same at f.tables k
    happened (InterfaceEvent.In peer link) = said_away (observation peer false) (message_in bits) f k

    noticed : (o : Option ImpNotice) (e : InterfaceEvent) → Away at f.tables (follower_after_notice at o (follower_after_event number at bits e f)).tables
    noticed None e = happened e
    noticed (Some ImpNotice.InterfaceReset) e = happened e
    noticed (Some (ImpNotice.MessageRefused peer link)) e = happened e
