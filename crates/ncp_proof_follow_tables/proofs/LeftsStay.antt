-- A command of one host leaves the CLSs of the other unchanged: a connection for which the other sent one
-- existed before, and the other had sent it then.
use Rattle.std.proofs.Common.{◌≡◌, ◌<◌, ◌⊎◌, inl, inr, ℕ, Bool, true, false, not, ◌&&◌, ◌||◌, if◌then◌else◌, List, [], ◌∷◌, ◌++◌, length, Option, None, Some, refl, sym, ap, ◌∙◌}
use Rattle.std.specs.Prelude.{nat_lt, slice_set}
use Rattle.std.specs.List.{remove}
use Rattle.std.proofs.lemmas.List.Quantifiers.{position-Some}
use Rattle.ncp_wire.specs.declared.command.Command.{Command}
use Rattle.ncp_monitor.proofs.Firsts.{none_first, first_after, other_following}
use Rattle.ncp_follow.specs.declared.followed_conn.FollowedConn.{FollowedConn}
use Rattle.ncp_follow.specs.declared.tracks.TheConstants.{MAX_TRACKS}
use Rattle.ncp_interface.specs.declared.request.Request.{Request}
use Rattle.ncp_interface.specs.declared.request.Request.TheVariants.{Link, Size}
use Rattle.ncp_follow.specs.declared.tables.Tables.{Tables}
use Rattle.ncp_follow.specs.declared.observation.Observation.{Observation}
use Rattle.ncp_follow.specs.Amounts.{with_more, with_less}
use Rattle.ncp_follow.specs.Connections.{with_end_recorded}
use Rattle.ncp_follow.specs.declared.connection.EndReason.TheVariants.{Closed}
use Rattle.ncp_follow.specs.Tracks.{new_track, is_pair, is_used, has_left, with_left, has_chosen, with_choice, is_whole, track_at}
use Rattle.ncp_follow.specs.Tables.{pair_index, index_at_link, has_room_opened, with_opened, is_link_taken, track_placed, asked_at, after_request, is_right, is_of_receiver, after_asking, end_by, closed_at, after_close, granted_of, granted_at, returned_of, returned_at}
use Rattle.ncp_follow.specs.Followed.{after_command}
use Rattle.ncp_proof_follow_tables.proofs.OtherAt.{gone_other, gone_here}
use Rattle.ncp_proof_follow_tables.proofs.Placed.{Name, has_name, named, Placed, SameName, name_of, name_is, NamedSo, each_name}
use Rattle.std.proofs.Math.Bool.{beq}

-- it was there, and that side had sent its CLS
pub record WasLeft (side : Bool) (j : Name) (tracks : List FollowedConn) : Type 0 where
  pub track : FollowedConn
  pub was : named j tracks ≡ Some track
  pub gone : has_left track side ≡ true

abbrev pub LeftsStay : Bool → List FollowedConn → List FollowedConn → Type 0
LeftsStay side tracks now = (j : Name) (track : FollowedConn) → named j now ≡ Some track → has_left track side ≡ true → WasLeft side j tracks

pub lefts_same : (side : Bool) (tracks : List FollowedConn) → LeftsStay side tracks tracks
lefts_same side tracks j track e g = record { track = track; was = e; gone = g }

module _ (side : Bool) (t : Tables) (k : Placed t) where
  -- another in its place
  set_lefts : (i : ℕ) (l : i < length t.tracks) (now : FollowedConn) → SameName (track_at t.tracks i) now → has_left now side ≡ has_left (track_at t.tracks i) side → LeftsStay side t.tracks (slice_set t.tracks i now)
  set_lefts i l now same left j track e g = go (each_name t k i l now same j)
    where
      go : NamedSo t k i l now same j ⊎ (named j (slice_set t.tracks i now) ≡ named j t.tracks) → WasLeft side j t.tracks
      go (inl n) =
          let is : now ≡ track = cc (sym n.is ∙ e) in
          record { track = track_at t.tracks i; was = n.was; gone = sym left ∙ ap (λ (x : FollowedConn). has_left x side) is ∙ g }
      go (inr s) = record { track = track; was = sym s ∙ e; gone = g }

  -- one more
  added_lefts : (m : FollowedConn) → has_left m side ≡ false → named (name_of m) t.tracks ≡ None → LeftsStay side t.tracks (t.tracks ++ m ∷ [])
  added_lefts m stays none j track e g = go (has_name j m) refl
    where
      go : (b : Bool) → has_name j m ≡ b → WasLeft side j t.tracks
      go true d =
          let is : m ≡ track = cc (sym (first_after (has_name j) t.tracks m (ap (λ (x : Name). named x t.tracks) (name_is j m d) ∙ none) ∙ ap (λ (b : Bool). if b then Some m else None) d) ∙ e) in
          let nay : false ≡ true = sym stays ∙ ap (λ (x : FollowedConn). has_left x side) is ∙ g in absurd (cc nay)
      go false d = record { track = track; was = sym (other_following (has_name j) t.tracks m d) ∙ e; gone = g }

  -- one fewer
  gone_lefts : (i : ℕ) → i < length t.tracks → LeftsStay side t.tracks (remove t.tracks i)
  gone_lefts i l j track e g = go (has_name j (track_at t.tracks i)) refl
    where
      go : (b : Bool) → has_name j (track_at t.tracks i) ≡ b → WasLeft side j t.tracks
      go true d = let nay : None ≡ Some track = sym (gone_here (has_name j) t.tracks i (new_track 0 0 0 0) l (k.unique j) d) ∙ e in absurd (cc nay)
      go false d = record { track = track; was = sym (gone_other (has_name j) t.tracks i (new_track 0 0 0 0) l d) ∙ e; gone = g }

  -- ---- requests

  request_name : (m : FollowedConn) (request : Request) → SameName m (with_choice m request)
  request_name m (Link link) = record { at = refl; peer = refl; local = refl; remote = refl }
  request_name m (Size size) = record { at = refl; peer = refl; local = refl; remote = refl }

  request_left : (m : FollowedConn) (request : Request) → has_left (with_choice m request) side ≡ has_left m side
  request_left m (Link link) = refl
  request_left m (Size size) = refl

  placed_left : (m : FollowedConn) (place : Option ℕ) → has_left (record m { place = place }) side ≡ has_left m side
  placed_left m place = go side
    where
      go : (b : Bool) → has_left (record m { place = place }) b ≡ has_left m b
      go true = refl
      go false = refl

  new_left : (at peer local remote : ℕ) (request : Request) → has_left (with_choice (new_track at peer local remote) request) side ≡ false
  new_left at peer local remote request = request_left (new_track at peer local remote) request ∙ go side
    where
      go : (b : Bool) → has_left (new_track at peer local remote) b ≡ false
      go true = refl
      go false = refl

  request_lefts : (observation : Observation) (local remote : ℕ) (request : Request) → LeftsStay side t.tracks (after_request observation local remote request t).tracks
  request_lefts observation local remote request = taken (is_link_taken observation local request t.tracks)
    where
      fresh : FollowedConn
      fresh = with_choice (new_track observation.at observation.peer local remote) request

      none : (request : Request) → pair_index observation.at observation.peer local remote t.tracks ≡ None → named (name_of (with_choice (new_track observation.at observation.peer local remote) request)) t.tracks ≡ None
      none (Link link) e = none_first (is_pair observation.at observation.peer local remote) t.tracks e
      none (Size size) e = none_first (is_pair observation.at observation.peer local remote) t.tracks e

      put : (i : ℕ) → i < length t.tracks → (b : Bool)
          → LeftsStay side t.tracks (if b then record t { tracks = slice_set t.tracks i (record (with_choice (track_at t.tracks i) request) { place = Some (length t.told) }); told = with_opened t.told observation.number (with_choice (track_at t.tracks i) request) } else record t { tracks = slice_set t.tracks i (with_choice (track_at t.tracks i) request) }).tracks
      put i l true =
          let old = track_at t.tracks i in
          let n = request_name old request in
          set_lefts i l (record (with_choice old request) { place = Some (length t.told) }) (record { at = n.at; peer = n.peer; local = n.local; remote = n.remote }) (placed_left (with_choice old request) (Some (length t.told)) ∙ request_left old request)
      put i l false = let old = track_at t.tracks i in set_lefts i l (with_choice old request) (request_name old request) (request_left old request)

      asked : (o : Option ℕ) → pair_index observation.at observation.peer local remote t.tracks ≡ o → LeftsStay side t.tracks (asked_at observation local remote request t o).tracks
      asked None e = go (nat_lt (length t.tracks) MAX_TRACKS)
        where
          go : (b : Bool) → LeftsStay side t.tracks (if b then t.tracks ++ fresh ∷ [] else t.tracks)
          go true = added_lefts fresh (new_left observation.at observation.peer local remote request) (none request e)
          go false = lefts_same side t.tracks
      asked (Some i) e = go (has_chosen track request) (has_left track observation.sent)
        where
          track : FollowedConn
          track = track_at t.tracks i

          go : (x y : Bool) → LeftsStay side t.tracks (if x || y then t else track_placed observation i (with_choice track request) t).tracks
          go true y = lefts_same side t.tracks
          go false true = lefts_same side t.tracks
          go false false = put i (position-Some (is_pair observation.at observation.peer local remote) t.tracks i (new_track 0 0 0 0) e).0 (is_whole (with_choice track request) && has_room_opened t.told)

      taken : (b : Bool) → LeftsStay side t.tracks (if b then t else asked_at observation local remote request t (pair_index observation.at observation.peer local remote t.tracks)).tracks
      taken true = lefts_same side t.tracks
      taken false = asked (pair_index observation.at observation.peer local remote t.tracks) refl

  asking_lefts : (observation : Observation) (receive send : ℕ) (request : Request) → LeftsStay side t.tracks (after_asking observation receive send request t).tracks
  asking_lefts observation receive send request = go (is_right receive send request) (beq (is_of_receiver request) observation.sent)
    where
      go : (x y : Bool) → LeftsStay side t.tracks (if not x then t else if y then after_request observation receive send request t else after_request observation send receive request t).tracks
      go false y = lefts_same side t.tracks
      go true true = request_lefts observation receive send request
      go true false = request_lefts observation send receive request

  -- ---- an ALL, or a RET

  granted_lefts : (observation : Observation) (sender : Bool) (link messages bits : ℕ) (o : Option ℕ) → index_at_link observation.at observation.peer sender link t.tracks ≡ o → LeftsStay side t.tracks (granted_at observation messages bits t o).tracks
  granted_lefts observation sender link messages bits None e = lefts_same side t.tracks
  granted_lefts observation sender link messages bits (Some i) e = go (has_left track observation.sent) track.place
    where
      track : FollowedConn
      track = track_at t.tracks i

      numbers_left : (b : Bool) → has_left (record track { left = with_more track.left messages bits }) b ≡ has_left track b
      numbers_left true = refl
      numbers_left false = refl

      go : (x : Bool) (p : Option ℕ) → LeftsStay side t.tracks (if x then t else granted_of i messages bits track t p).tracks
      go true p = lefts_same side t.tracks
      go false None = lefts_same side t.tracks
      go false (Some p) =
          set_lefts i (position-Some (is_used observation.at observation.peer sender link) t.tracks i (new_track 0 0 0 0) e).0 (record track { left = with_more track.left messages bits }) (record { at = refl; peer = refl; local = refl; remote = refl }) (numbers_left side)

  returned_lefts : (observation : Observation) (sender : Bool) (link messages bits : ℕ) (o : Option ℕ) → index_at_link observation.at observation.peer sender link t.tracks ≡ o → LeftsStay side t.tracks (returned_at observation messages bits t o).tracks
  returned_lefts observation sender link messages bits None e = lefts_same side t.tracks
  returned_lefts observation sender link messages bits (Some i) e = go (has_left track observation.sent) track.place
    where
      track : FollowedConn
      track = track_at t.tracks i

      numbers_left : (b : Bool) → has_left (record track { left = with_less track.left messages bits }) b ≡ has_left track b
      numbers_left true = refl
      numbers_left false = refl

      go : (x : Bool) (p : Option ℕ) → LeftsStay side t.tracks (if x then t else returned_of i messages bits track t p).tracks
      go true p = lefts_same side t.tracks
      go false None = lefts_same side t.tracks
      go false (Some p) =
          set_lefts i (position-Some (is_used observation.at observation.peer sender link) t.tracks i (new_track 0 0 0 0) e).0 (record track { left = with_less track.left messages bits }) (record { at = refl; peer = refl; local = refl; remote = refl }) (numbers_left side)

-- ---- a CLS of the one

with_left_other : (m : FollowedConn) (sent : Bool) → has_left (with_left m sent) (not sent) ≡ has_left m (not sent)
with_left_other m true = refl
with_left_other m false = refl

left_name : (m : FollowedConn) (sent : Bool) → SameName m (with_left m sent)
left_name m true = record { at = refl; peer = refl; local = refl; remote = refl }
left_name m false = record { at = refl; peer = refl; local = refl; remote = refl }

module _ (observation : Observation) (t : Tables) (k : Placed t) where
  closed_lefts : (local remote : ℕ) (o : Option ℕ) → pair_index observation.at observation.peer local remote t.tracks ≡ o → LeftsStay (not observation.sent) t.tracks (closed_at observation t o).tracks
  closed_lefts local remote None e = lefts_same (not observation.sent) t.tracks
  closed_lefts local remote (Some i) e = go (has_left track observation.sent) (m.host_left && m.peer_left)
    where
      track : FollowedConn
      track = track_at t.tracks i

      m : FollowedConn
      m = with_left track observation.sent

      l : i < length t.tracks
      l = (position-Some (is_pair observation.at observation.peer local remote) t.tracks i (new_track 0 0 0 0) e).0

      go : (x y : Bool)
          → LeftsStay (not observation.sent) t.tracks (if x then t else if y then record t { tracks = remove t.tracks i; told = with_end_recorded t.told m.place Closed (Some observation.number) } else record t { tracks = slice_set t.tracks i m; told = with_end_recorded t.told m.place (end_by observation.sent) None }).tracks
      go true y = lefts_same (not observation.sent) t.tracks
      go false true = gone_lefts (not observation.sent) t k i l
      go false false = set_lefts (not observation.sent) t k i l m (left_name track observation.sent) (with_left_other track observation.sent)

  close_lefts : (my your : ℕ) → LeftsStay (not observation.sent) t.tracks (after_close observation my your t).tracks
  close_lefts my your = go observation.sent
    where
      go : (b : Bool) → LeftsStay (not observation.sent) t.tracks (if b then closed_at observation t (pair_index observation.at observation.peer my your t.tracks) else closed_at observation t (pair_index observation.at observation.peer your my t.tracks)).tracks
      go true = closed_lefts my your (pair_index observation.at observation.peer my your t.tracks) refl
      go false = closed_lefts your my (pair_index observation.at observation.peer your my t.tracks) refl

  -- ---- each command

  pub command_lefts : (c : Command) → LeftsStay (not observation.sent) t.tracks (after_command observation c t).tracks
  command_lefts Command.Nop = lefts_same (not observation.sent) t.tracks
  command_lefts (Command.Rts receive send link) = asking_lefts (not observation.sent) t k observation receive send (Link link)
  command_lefts (Command.Str send receive size) = asking_lefts (not observation.sent) t k observation receive send (Size size)
  command_lefts (Command.Cls my your) = close_lefts my your
  command_lefts (Command.All link messages bits) = granted_lefts (not observation.sent) t k observation (not observation.sent) link messages bits (index_at_link observation.at observation.peer (not observation.sent) link t.tracks) refl
  command_lefts (Command.Gvb link fm fb) = lefts_same (not observation.sent) t.tracks
  command_lefts (Command.Ret link messages bits) = returned_lefts (not observation.sent) t k observation observation.sent link messages bits (index_at_link observation.at observation.peer observation.sent link t.tracks) refl
  command_lefts (Command.Inr link) = lefts_same (not observation.sent) t.tracks
  command_lefts (Command.Ins link) = lefts_same (not observation.sent) t.tracks
  command_lefts (Command.Eco byte) = lefts_same (not observation.sent) t.tracks
  command_lefts (Command.Erp byte) = lefts_same (not observation.sent) t.tracks
  command_lefts (Command.Err code bytes) = lefts_same (not observation.sent) t.tracks
  command_lefts Command.Rst = lefts_same (not observation.sent) t.tracks
  command_lefts Command.Rrp = lefts_same (not observation.sent) t.tracks
