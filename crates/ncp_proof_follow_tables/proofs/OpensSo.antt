-- A connection that both hosts requested while neither had left is opened, if fewer were opened than can
-- be reported. Opened connections stay.
use Rattle.std.proofs.Common.{◌≡◌, ◌<◌, ◌≤◌, ◌⊎◌, inl, inr, ℕ, ◌+◌, Bool, true, false, not, ◌&&◌, ◌||◌, if◌then◌else◌, List, [], ◌∷◌, ◌++◌, length, Option, None, Some, is_some, refl, sym, ap, ◌∙◌, arith}
use Rattle.std.specs.Prelude.{nat_lt, slice_set}
use Rattle.std.specs.List.{remove}
use Rattle.std.proofs.Math.Bool.{beq}
use Rattle.std.proofs.lemmas.List.Quantifiers.{position-Some}
use Rattle.ncp_wire.specs.declared.command.Command.{Command}
use Rattle.ncp_monitor.proofs.Firsts.{none_first, first_after, other_following}
use Rattle.ncp_follow.specs.declared.connection.Connection.{Connection}
use Rattle.ncp_follow.specs.declared.connection.EndReason.{EndReason}
use Rattle.ncp_follow.specs.declared.connection.EndReason.TheVariants.{Closed}
use Rattle.ncp_follow.specs.declared.followed_conn.FollowedConn.{FollowedConn}
use Rattle.ncp_follow.specs.declared.tracks.TheConstants.{MAX_TRACKS}
use Rattle.ncp_interface.specs.declared.request.Request.{Request}
use Rattle.ncp_interface.specs.declared.request.Request.TheVariants.{Link, Size}
use Rattle.ncp_follow.specs.declared.tables.Tables.{Tables}
use Rattle.ncp_follow.specs.declared.observation.Observation.{Observation}
use Rattle.ncp_follow.specs.Amounts.{with_more, with_less}
use Rattle.ncp_follow.specs.Connections.{opened_as, connection_with_text, with_late, with_end_recorded, with_opened_at, with_granted, with_returned, opened_at, connection_with_end}
use Rattle.ncp_follow.specs.Tracks.{new_track, is_pair, is_used, has_left, with_left, has_chosen, with_choice, is_whole, takes_bits, track_at}
use Rattle.ncp_follow.specs.Tables.{pair_index, index_at_link, has_room_opened, with_opened, is_link_taken, track_placed, asked_at, after_request, is_right, is_of_receiver, after_asking, end_by, closed_at, after_close, granted_of, granted_at, returned_of, returned_at, texts_of, said_at, after_text}
use Rattle.ncp_follow.specs.Followed.{after_command}
use Rattle.ncp_proof_follow_tables.proofs.OtherAt.{gone_other, gone_here}
use Rattle.ncp_proof_follow_tables.proofs.TextsAt.{opened_length}
use Rattle.ncp_proof_follow_tables.proofs.Placed.{Name, has_name, named, Placed, SameName, name_of, name_is, NamedSo, each_name}

-- each that is whole was opened
abbrev pub AllOpened : List FollowedConn → Type 0
AllOpened tracks = (j : Name) (track : FollowedConn) → named j tracks ≡ Some track → is_whole track ≡ true → is_some track.place ≡ true

-- that is kept, and what was opened stays
pub record OpensSo (t now : Tables) : Type 0 where
  pub opened : has_room_opened t.told ≡ true → AllOpened t.tracks → AllOpened now.tracks
  pub more : length t.told ≤ length now.told

pub opens_same : (t : Tables) → OpensSo t t
opens_same t = record { opened = λ h k. k; more = omega arith }

module _ (t : Tables) (k : Placed t) where
  set_opened : (i : ℕ) (l : i < length t.tracks) (now : FollowedConn) → SameName (track_at t.tracks i) now → (is_whole now ≡ true → is_some now.place ≡ true) → AllOpened t.tracks → AllOpened (slice_set t.tracks i now)
  set_opened i l now same so all j track e w = go (each_name t k i l now same j)
    where
      go : NamedSo t k i l now same j ⊎ (named j (slice_set t.tracks i now) ≡ named j t.tracks) → is_some track.place ≡ true
      go (inl n) = let is : now ≡ track = cc (sym n.is ∙ e) in ap (λ (x : FollowedConn). is_some x.place) (sym is) ∙ so (ap is_whole is ∙ w)
      go (inr s) = all j track (sym s ∙ e) w

  added_opened : (m : FollowedConn) → is_whole m ≡ false → named (name_of m) t.tracks ≡ None → AllOpened t.tracks → AllOpened (t.tracks ++ m ∷ [])
  added_opened m part none all j track e w = go (has_name j m) refl
    where
      go : (b : Bool) → has_name j m ≡ b → is_some track.place ≡ true
      go true d =
          let is : m ≡ track = cc (sym (first_after (has_name j) t.tracks m (ap (λ (x : Name). named x t.tracks) (name_is j m d) ∙ none) ∙ ap (λ (b : Bool). if b then Some m else None) d) ∙ e) in
          let nay : false ≡ true = sym part ∙ ap is_whole is ∙ w in absurd (cc nay)
      go false d = all j track (sym (other_following (has_name j) t.tracks m d) ∙ e) w

  gone_opened : (i : ℕ) → i < length t.tracks → AllOpened t.tracks → AllOpened (remove t.tracks i)
  gone_opened i l all j track e w = go (has_name j (track_at t.tracks i)) refl
    where
      go : (b : Bool) → has_name j (track_at t.tracks i) ≡ b → is_some track.place ≡ true
      go true d = let nay : None ≡ Some track = sym (gone_here (has_name j) t.tracks i (new_track 0 0 0 0) l (k.unique j) d) ∙ e in absurd (cc nay)
      go false d = all j track (sym (gone_other (has_name j) t.tracks i (new_track 0 0 0 0) l d) ∙ e) w

  -- ---- requests

  request_name : (m : FollowedConn) (request : Request) → SameName m (with_choice m request)
  request_name m (Link link) = record { at = refl; peer = refl; local = refl; remote = refl }
  request_name m (Size size) = record { at = refl; peer = refl; local = refl; remote = refl }

  new_part : (at peer local remote : ℕ) (request : Request) → is_whole (with_choice (new_track at peer local remote) request) ≡ false
  new_part at peer local remote (Link link) = refl
  new_part at peer local remote (Size size) = refl

  one_longer : (c : Connection) (xs : List Connection) → length (xs ++ c ∷ []) ≡ length xs + 1
  one_longer c [] = refl
  one_longer c (x ∷ xs) = let rest = one_longer c xs in omega arith

  request_opens : (observation : Observation) (local remote : ℕ) (request : Request) → OpensSo t (after_request observation local remote request t)
  request_opens observation local remote request = taken (is_link_taken observation local request t.tracks)
    where
      fresh : FollowedConn
      fresh = with_choice (new_track observation.at observation.peer local remote) request

      none : (request : Request) → pair_index observation.at observation.peer local remote t.tracks ≡ None → named (name_of (with_choice (new_track observation.at observation.peer local remote) request)) t.tracks ≡ None
      none (Link link) e = none_first (is_pair observation.at observation.peer local remote) t.tracks e
      none (Size size) e = none_first (is_pair observation.at observation.peer local remote) t.tracks e

      put : (i : ℕ) → i < length t.tracks → OpensSo t (track_placed observation i (with_choice (track_at t.tracks i) request) t)
      put i l = go (is_whole m && has_room_opened t.told) refl
        where
          old : FollowedConn
          old = track_at t.tracks i

          m : FollowedConn
          m = with_choice old request

          name : SameName old m
          name = request_name old request

          placed : FollowedConn
          placed = record m { place = Some (length t.told) }

          not_whole : (w h : Bool) → (w && h) ≡ false → h ≡ true → w ≡ false
          not_whole true h e f = let nay : true ≡ false = sym f ∙ e in absurd (cc nay)
          not_whole false h e f = refl

          go : (b : Bool) → (is_whole m && has_room_opened t.told) ≡ b → OpensSo t (if b then record t { tracks = slice_set t.tracks i placed; told = with_opened t.told observation.number m } else record t { tracks = slice_set t.tracks i m })
          go true e = record {
            opened = λ h all. set_opened i l placed (record { at = name.at; peer = name.peer; local = name.local; remote = name.remote }) (λ w. refl) all;
            more = let longer = one_longer (opened_as (length t.told + 1) observation.number m) t.told in omega arith;
          }
          go false e = record {
            opened = λ h all. set_opened i l m name (λ w. let nay : true ≡ false = sym w ∙ not_whole (is_whole m) (has_room_opened t.told) e h in absurd (cc nay)) all;
            more = omega arith;
          }

      asked : (o : Option ℕ) → pair_index observation.at observation.peer local remote t.tracks ≡ o → OpensSo t (asked_at observation local remote request t o)
      asked None e = go (nat_lt (length t.tracks) MAX_TRACKS)
        where
          go : (b : Bool) → OpensSo t (record t { tracks = if b then t.tracks ++ fresh ∷ [] else t.tracks })
          go true = record { opened = λ h all. added_opened fresh (new_part observation.at observation.peer local remote request) (none request e) all; more = omega arith }
          go false = opens_same t
      asked (Some i) e = go (has_chosen track request) (has_left track observation.sent)
        where
          track : FollowedConn
          track = track_at t.tracks i

          go : (x y : Bool) → OpensSo t (if x || y then t else track_placed observation i (with_choice track request) t)
          go true y = opens_same t
          go false true = opens_same t
          go false false = put i (position-Some (is_pair observation.at observation.peer local remote) t.tracks i (new_track 0 0 0 0) e).0

      taken : (b : Bool) → OpensSo t (if b then t else asked_at observation local remote request t (pair_index observation.at observation.peer local remote t.tracks))
      taken true = opens_same t
      taken false = asked (pair_index observation.at observation.peer local remote t.tracks) refl

  asking_opens : (observation : Observation) (receive send : ℕ) (request : Request) → OpensSo t (after_asking observation receive send request t)
  asking_opens observation receive send request = go (is_right receive send request) (beq (is_of_receiver request) observation.sent)
    where
      go : (x y : Bool) → OpensSo t (if not x then t else if y then after_request observation receive send request t else after_request observation send receive request t)
      go false y = opens_same t
      go true true = request_opens observation receive send request
      go true false = request_opens observation send receive request

  -- ---- a CLS

  end_length : (o : Option ℕ) (end : EndReason) (ended : Option ℕ) → length (with_end_recorded t.told o end ended) ≡ length t.told
  end_length None end ended = refl
  end_length (Some p) end ended = opened_length t.told p (connection_with_end (opened_at t.told p) end ended)

  left_part : (m : FollowedConn) (sent : Bool) → is_whole (with_left m sent) ≡ false
  left_part m true = off (is_some m.link) (is_some m.size)
    where
      off : (x y : Bool) → (x && y && (false && not m.peer_left)) ≡ false
      off true true = refl
      off true false = refl
      off false y = refl
  left_part m false = off (is_some m.link) (is_some m.size) (not m.host_left)
    where
      off : (x y z : Bool) → (x && y && (z && false)) ≡ false
      off true true true = refl
      off true true false = refl
      off true false z = refl
      off false y z = refl

  left_name : (m : FollowedConn) (sent : Bool) → SameName m (with_left m sent)
  left_name m true = record { at = refl; peer = refl; local = refl; remote = refl }
  left_name m false = record { at = refl; peer = refl; local = refl; remote = refl }

  closed_opens : (observation : Observation) (local remote : ℕ) (o : Option ℕ) → pair_index observation.at observation.peer local remote t.tracks ≡ o → OpensSo t (closed_at observation t o)
  closed_opens observation local remote None e = opens_same t
  closed_opens observation local remote (Some i) e = go (has_left track observation.sent) (m.host_left && m.peer_left)
    where
      track : FollowedConn
      track = track_at t.tracks i

      m : FollowedConn
      m = with_left track observation.sent

      l : i < length t.tracks
      l = (position-Some (is_pair observation.at observation.peer local remote) t.tracks i (new_track 0 0 0 0) e).0

      go : (x y : Bool) → OpensSo t (if x then t else if y then record t { tracks = remove t.tracks i; told = with_end_recorded t.told m.place Closed (Some observation.number) } else record t { tracks = slice_set t.tracks i m; told = with_end_recorded t.told m.place (end_by observation.sent) None })
      go true y = opens_same t
      go false true = record { opened = λ h all. gone_opened i l all; more = let same = end_length m.place Closed (Some observation.number) in omega arith }
      go false false = record {
        opened = λ h all. set_opened i l m (left_name track observation.sent) (λ w. let nay : false ≡ true = sym (left_part track observation.sent) ∙ w in absurd (cc nay)) all;
        more = let same = end_length m.place (end_by observation.sent) None in omega arith;
      }

  close_opens : (observation : Observation) (my your : ℕ) → OpensSo t (after_close observation my your t)
  close_opens observation my your = go observation.sent
    where
      go : (b : Bool) → OpensSo t (if b then closed_at observation t (pair_index observation.at observation.peer my your t.tracks) else closed_at observation t (pair_index observation.at observation.peer your my t.tracks))
      go true = closed_opens observation my your (pair_index observation.at observation.peer my your t.tracks) refl
      go false = closed_opens observation your my (pair_index observation.at observation.peer your my t.tracks) refl

  -- ---- an ALL, a RET, a text

  granted_opens : (observation : Observation) (sender : Bool) (link messages bits : ℕ) (o : Option ℕ) → index_at_link observation.at observation.peer sender link t.tracks ≡ o → OpensSo t (granted_at observation messages bits t o)
  granted_opens observation sender link messages bits None e = opens_same t
  granted_opens observation sender link messages bits (Some i) e = go (has_left track observation.sent) track.place refl
    where
      track : FollowedConn
      track = track_at t.tracks i

      go : (x : Bool) (p : Option ℕ) → track.place ≡ p → OpensSo t (if x then t else granted_of i messages bits track t p)
      go true p f = opens_same t
      go false None f = opens_same t
      go false (Some p) f = record {
        opened = λ h all.
            set_opened i (position-Some (is_used observation.at observation.peer sender link) t.tracks i (new_track 0 0 0 0) e).0 (record track { left = with_more track.left messages bits }) (record { at = refl; peer = refl; local = refl; remote = refl })
            (λ w. ap is_some f) all;
        more = let same = opened_length t.told p (with_granted (opened_at t.told p) messages bits) in omega arith;
      }

  returned_opens : (observation : Observation) (sender : Bool) (link messages bits : ℕ) (o : Option ℕ) → index_at_link observation.at observation.peer sender link t.tracks ≡ o → OpensSo t (returned_at observation messages bits t o)
  returned_opens observation sender link messages bits None e = opens_same t
  returned_opens observation sender link messages bits (Some i) e = go (has_left track observation.sent) track.place refl
    where
      track : FollowedConn
      track = track_at t.tracks i

      go : (x : Bool) (p : Option ℕ) → track.place ≡ p → OpensSo t (if x then t else returned_of i messages bits track t p)
      go true p f = opens_same t
      go false None f = opens_same t
      go false (Some p) f = record {
        opened = λ h all.
            set_opened i (position-Some (is_used observation.at observation.peer sender link) t.tracks i (new_track 0 0 0 0) e).0 (record track { left = with_less track.left messages bits }) (record { at = refl; peer = refl; local = refl; remote = refl })
            (λ w. ap is_some f) all;
        more = let same = opened_length t.told p (with_returned (opened_at t.told p) messages bits) in omega arith;
      }

  pub text_opens : (observation : Observation) (link size : ℕ) (text : List Bool) → OpensSo t (after_text observation link size text t)
  text_opens observation link size text = at_place (index_at_link observation.at observation.peer observation.sent link t.tracks) refl
    where
      at_place : (o : Option ℕ) → index_at_link observation.at observation.peer observation.sent link t.tracks ≡ o → OpensSo t (said_at size text t o)
      at_place None e = opens_same t
      at_place (Some i) e = go track.place refl
        where
          track : FollowedConn
          track = track_at t.tracks i

          less : FollowedConn
          less = record track { left = with_less track.left 1 (length text) }

          go : (p : Option ℕ) → track.place ≡ p → OpensSo t (texts_of i size text track t p)
          go None f = opens_same t
          go (Some p) f = by (takes_bits track size (length text))
            where
              by : (b : Bool) → OpensSo t (record t { tracks = slice_set t.tracks i less; told = if b then with_opened_at t.told p (connection_with_text (opened_at t.told p) text) else with_opened_at t.told p (with_late (opened_at t.told p)) })
              by true = record {
                opened = λ h all. set_opened i (position-Some (is_used observation.at observation.peer observation.sent link) t.tracks i (new_track 0 0 0 0) e).0 less (record { at = refl; peer = refl; local = refl; remote = refl }) (λ w. ap is_some f) all;
                more = let same = opened_length t.told p (connection_with_text (opened_at t.told p) text) in omega arith;
              }
              by false = record {
                opened = λ h all. set_opened i (position-Some (is_used observation.at observation.peer observation.sent link) t.tracks i (new_track 0 0 0 0) e).0 less (record { at = refl; peer = refl; local = refl; remote = refl }) (λ w. ap is_some f) all;
                more = let same = opened_length t.told p (with_late (opened_at t.told p)) in omega arith;
              }

  -- ---- each command

  pub command_opens : (observation : Observation) (c : Command) → OpensSo t (after_command observation c t)
  command_opens observation Command.Nop = opens_same t
  command_opens observation (Command.Rts receive send link) = asking_opens observation receive send (Link link)
  command_opens observation (Command.Str send receive size) = asking_opens observation receive send (Size size)
  command_opens observation (Command.Cls my your) = close_opens observation my your
  command_opens observation (Command.All link messages bits) = granted_opens observation (not observation.sent) link messages bits (index_at_link observation.at observation.peer (not observation.sent) link t.tracks) refl
  command_opens observation (Command.Gvb link fm fb) = opens_same t
  command_opens observation (Command.Ret link messages bits) = returned_opens observation observation.sent link messages bits (index_at_link observation.at observation.peer observation.sent link t.tracks) refl
  command_opens observation (Command.Inr link) = opens_same t
  command_opens observation (Command.Ins link) = opens_same t
  command_opens observation (Command.Eco byte) = opens_same t
  command_opens observation (Command.Erp byte) = opens_same t
  command_opens observation (Command.Err code bytes) = opens_same t
  command_opens observation Command.Rst = opens_same t
  command_opens observation Command.Rrp = opens_same t
