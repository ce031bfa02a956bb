-- The reported texts, through each command, through a text, and when all connections of two hosts end.
use Rattle.std.proofs.Common.{◌≡◌, ◌<◌, ◌⊎◌, inl, inr, ℕ, ◌+◌, ◌==◌, Bool, true, false, not, ◌&&◌, ◌||◌, if◌then◌else◌, List, [], ◌∷◌, ◌++◌, length, Option, None, Some, is_some, refl, sym, ap, ◌∙◌, subst}
use Rattle.std.specs.Prelude.{nat_lt, slice_set}
use Rattle.std.specs.List.{remove}
use Rattle.std.proofs.lemmas.Bool.{and_parts}
use Rattle.std.proofs.lemmas.List.Quantifiers.{position-Some}
use Rattle.ncp_monitor.proofs.Firsts.{none_first, first_after, other_following, first_filter, none_filter, unique_following, unique_filter}
use Rattle.ncp_follow.specs.declared.connection.Connection.{Connection}
use Rattle.ncp_follow.specs.declared.connection.EndReason.{EndReason}
use Rattle.ncp_follow.specs.declared.connection.EndReason.TheVariants.{Closed}
use Rattle.ncp_follow.specs.declared.followed_conn.FollowedConn.{FollowedConn}
use Rattle.ncp_follow.specs.declared.tracks.TheConstants.{MAX_TRACKS}
use Rattle.ncp_interface.specs.declared.request.Request.{Request}
use Rattle.ncp_interface.specs.declared.request.Request.TheVariants.{Link, Size}
use Rattle.ncp_follow.specs.declared.tables.Tables.{Tables}
use Rattle.ncp_follow.specs.declared.observation.Observation.{Observation}
use Rattle.ncp_follow.specs.Amounts.{with_more, with_less}
use Rattle.ncp_follow.specs.Tracks.{new_track, is_pair, is_used, has_left, with_left, has_chosen, with_choice, nobody_left, is_whole, takes_bits, track_at}
use Rattle.ncp_follow.specs.Connections.{opened_as, connection_with_text, with_late, with_granted, with_returned, connection_with_end, text_with, opened_at, with_opened_at, with_end_recorded}
use Rattle.ncp_follow.specs.Tables.{is_track_of, pair_index, index_at_link, without, has_room_opened, with_opened, is_link_taken, track_placed, asked_at, after_request, end_by, left_at, closed_at, granted_of, granted_at, returned_of, returned_at, texts_of, said_at, end_one, end_all, after_clearing}
use Rattle.ncp_proof_follow_tables.proofs.OtherAt.{first_here}
use Rattle.ncp_proof_follow_tables.proofs.TextsAt.{text_at, opened_same, opened_length}
use Rattle.ncp_proof_follow_tables.proofs.Placed.{Name, has_name, named, place_in, position_of, text_named, Placed, SameName, name_of, name_is, itself, Stays, stays_same, set_stays, set_opened, TakenAway, gone_placed, set_said}

-- ---- one more, which is not opened

added : (t : Tables) → Placed t → (m : FollowedConn) → m.place ≡ None → named (name_of m) t.tracks ≡ None → Stays t (record t { tracks = t.tracks ++ m ∷ [] })
added t k m unplaced none = record {
  placed = record {
    unique = λ j. unique_following (has_name j) t.tracks m (λ e. ap (λ (x : Name). named x t.tracks) (name_is j m e) ∙ none) (k.unique j);
    within = λ j p e. k.within j p (sym (place_same j) ∙ e);
    whole = λ j track p e f. whole_same j track p (has_name j m) refl e f;
    apart = λ j h p e f. k.apart j h p (sym (place_same j) ∙ e) (sym (place_same h) ∙ f);
  };
  texts = λ j. ap (text_at t.told) (place_same j);
}
  where
    mine : (j : Name) → has_name j m ≡ true → named j t.tracks ≡ None
    mine j e = ap (λ (x : Name). named x t.tracks) (name_is j m e) ∙ none

    is : (j : Name) → has_name j m ≡ true → named j (t.tracks ++ m ∷ []) ≡ Some m
    is j e = first_after (has_name j) t.tracks m (mine j e) ∙ ap (λ (b : Bool). if b then Some m else None) e

    place_same : (j : Name) → position_of j (t.tracks ++ m ∷ []) ≡ position_of j t.tracks
    place_same j = go (has_name j m) refl
      where
        go : (b : Bool) → has_name j m ≡ b → position_of j (t.tracks ++ m ∷ []) ≡ position_of j t.tracks
        go true e = ap place_in (is j e) ∙ unplaced ∙ sym (ap place_in (mine j e))
        go false e = ap place_in (other_following (has_name j) t.tracks m e)

    whole_same : (j : Name) (track : FollowedConn) (p : ℕ) (b : Bool) → has_name j m ≡ b → named j (t.tracks ++ m ∷ []) ≡ Some track → track.place ≡ Some p → (is_some track.link ≡ true) × (is_some track.size ≡ true)
    whole_same j track p true d e f =
        let same : m ≡ track = cc (sym (is j d) ∙ e) in
        let nay : None ≡ Some p = sym unplaced ∙ ap (λ (x : FollowedConn). x.place) same ∙ f in absurd (cc nay)
    whole_same j track p false d e f = k.whole j track p (sym (other_following (has_name j) t.tracks m d) ∙ e) f

-- ---- a request

request_name : (m : FollowedConn) (request : Request) → SameName m (with_choice m request)
request_name m (Link link) = record { at = refl; peer = refl; local = refl; remote = refl }
request_name m (Size size) = record { at = refl; peer = refl; local = refl; remote = refl }

request_index : (m : FollowedConn) (request : Request) → (with_choice m request).place ≡ m.place
request_index m (Link link) = refl
request_index m (Size size) = refl

request_link : (m : FollowedConn) (request : Request) → is_some m.link ≡ true → is_some (with_choice m request).link ≡ true
request_link m (Link link) e = refl
request_link m (Size size) e = e

request_size : (m : FollowedConn) (request : Request) → is_some m.size ≡ true → is_some (with_choice m request).size ≡ true
request_size m (Link link) e = e
request_size m (Size size) e = refl

requested_if : (m : FollowedConn) (request : Request) → is_some m.link ≡ true → is_some m.size ≡ true → has_chosen m request ≡ true
requested_if m (Link link) l s = l
requested_if m (Size size) l s = s

whole_parts : (a b c : Bool) → (a && b && c) ≡ true → (a ≡ true) × (b ≡ true)
whole_parts true true c e = (refl, refl)
whole_parts true false c e = absurd (cc e)
whole_parts false b c e = absurd (cc e)

module _ (observation : Observation) (t : Tables) (k : Placed t) where
  -- a connection without this request was not opened
  pub unopened : (i : ℕ) (request : Request) → i < length t.tracks → has_chosen (track_at t.tracks i) request ≡ false → (track_at t.tracks i).place ≡ None
  unopened i request l e = go (track_at t.tracks i).place refl
    where
      old : FollowedConn
      old = track_at t.tracks i

      go : (o : Option ℕ) → old.place ≡ o → old.place ≡ None
      go None f = f
      go (Some p) f =
          let w = k.whole (name_of old) old p (first_here (has_name (name_of old)) t.tracks i (new_track 0 0 0 0) l (k.unique (name_of old)) (itself old)) f in
          let nay : false ≡ true = sym e ∙ requested_if old request w.0 w.1 in absurd (cc nay)

  request_stays : (i : ℕ) (request : Request) → i < length t.tracks → has_chosen (track_at t.tracks i) request ≡ false → Stays t (track_placed observation i (with_choice (track_at t.tracks i) request) t)
  request_stays i request l e = go (is_whole m && has_room_opened t.told) refl
    where
      old : FollowedConn
      old = track_at t.tracks i

      m : FollowedConn
      m = with_choice old request

      unplaced : old.place ≡ None
      unplaced = unopened i request l e

      name : SameName old m
      name = request_name old request

      opened : FollowedConn
      opened = record m { place = Some (length t.told) }

      go : (b : Bool) → (is_whole m && has_room_opened t.told) ≡ b → Stays t (if b then record t { tracks = slice_set t.tracks i opened; told = with_opened t.told observation.number m } else record t { tracks = slice_set t.tracks i m })
      go true f =
          let w = whole_parts (is_some m.link) (is_some m.size) (nobody_left m) (and_parts (is_whole m) (has_room_opened t.told) f).0 in
          set_opened t k i l opened (record { at = name.at; peer = name.peer; local = name.local; remote = name.remote }) unplaced refl w.0 w.1 (opened_as (length t.told + 1) observation.number m) refl
      go false f = set_stays t k i l m name (request_index old request) (request_link old request) (request_size old request) t.told refl (λ o. refl)

  asked_stays : (local remote : ℕ) (request : Request) (o : Option ℕ) → pair_index observation.at observation.peer local remote t.tracks ≡ o → Stays t (asked_at observation local remote request t o)
  asked_stays local remote request None e = go (nat_lt (length t.tracks) MAX_TRACKS)
    where
      m : FollowedConn
      m = with_choice (new_track observation.at observation.peer local remote) request

      none : (request : Request) → named (name_of (with_choice (new_track observation.at observation.peer local remote) request)) t.tracks ≡ None
      none (Link link) = none_first (is_pair observation.at observation.peer local remote) t.tracks e
      none (Size size) = none_first (is_pair observation.at observation.peer local remote) t.tracks e

      go : (b : Bool) → Stays t (record t { tracks = if b then t.tracks ++ m ∷ [] else t.tracks })
      go true = added t k m (request_index (new_track observation.at observation.peer local remote) request) (none request)
      go false = stays_same t k
  asked_stays local remote request (Some i) e = go (has_chosen track request) (has_left track observation.sent) refl
    where
      track : FollowedConn
      track = track_at t.tracks i

      go : (a b : Bool) → has_chosen track request ≡ a → Stays t (if a || b then t else track_placed observation i (with_choice track request) t)
      go true b f = stays_same t k
      go false true f = stays_same t k
      go false false f = request_stays i request (position-Some (is_pair observation.at observation.peer local remote) t.tracks i (new_track 0 0 0 0) e).0 f

  pub after_request_stays : (local remote : ℕ) (request : Request) → Stays t (after_request observation local remote request t)
  after_request_stays local remote request = go (is_link_taken observation local request t.tracks)
    where
      go : (b : Bool) → Stays t (if b then t else asked_at observation local remote request t (pair_index observation.at observation.peer local remote t.tracks))
      go true = stays_same t k
      go false = asked_stays local remote request (pair_index observation.at observation.peer local remote t.tracks) refl

  -- ---- a CLS

  end_same : (o : Option ℕ) (end : EndReason) (ended q : Option ℕ) → text_at (with_end_recorded t.told o end ended) q ≡ text_at t.told q
  end_same None end ended q = refl
  end_same (Some p) end ended q = opened_same t.told p (connection_with_end (opened_at t.told p) end ended) q refl

  end_length : (o : Option ℕ) (end : EndReason) (ended : Option ℕ) → length (with_end_recorded t.told o end ended) ≡ length t.told
  end_length None end ended = refl
  end_length (Some p) end ended = opened_length t.told p (connection_with_end (opened_at t.told p) end ended)

  -- the connection of these sockets is over: the other host had sent its CLS, and no text is reported for
  -- it any longer
  pub record IsOver (local remote : ℕ) (j : Name) (now : Tables) : Type 0 where
    pub track : FollowedConn
    pub was : named j t.tracks ≡ Some track
    pub pair : is_pair observation.at observation.peer local remote track ≡ true
    pub other_left : has_left track (not observation.sent) ≡ true
    pub none : text_named j now ≡ []

  -- the same text is reported for all others
  pub record ClosedSo (local remote : ℕ) (now : Tables) : Type 0 where
    pub placed : Placed now
    pub each : (j : Name) → (text_named j now ≡ text_named j t) ⊎ IsOver local remote j now

  still_so : (local remote : ℕ) (now : Tables) → Stays t now → ClosedSo local remote now
  still_so local remote now s = record { placed = s.placed; each = λ j. inl (s.texts j) }

  both_left : (m : FollowedConn) (sent : Bool) → (with_left m sent).host_left && (with_left m sent).peer_left ≡ true → has_left m (not sent) ≡ true
  both_left m true e = e
  both_left m false e = (and_parts m.host_left true e).0

  left_name : (m : FollowedConn) (sent : Bool) → SameName m (with_left m sent)
  left_name m true = record { at = refl; peer = refl; local = refl; remote = refl }
  left_name m false = record { at = refl; peer = refl; local = refl; remote = refl }

  left_place : (m : FollowedConn) (sent : Bool) → (with_left m sent).place ≡ m.place
  left_place m true = refl
  left_place m false = refl

  left_link : (m : FollowedConn) (sent : Bool) → is_some m.link ≡ true → is_some (with_left m sent).link ≡ true
  left_link m true e = e
  left_link m false e = e

  left_size : (m : FollowedConn) (sent : Bool) → is_some m.size ≡ true → is_some (with_left m sent).size ≡ true
  left_size m true e = e
  left_size m false e = e

  left_so : (local remote i : ℕ) → i < length t.tracks → is_pair observation.at observation.peer local remote (track_at t.tracks i) ≡ true → ClosedSo local remote (left_at observation i (with_left (track_at t.tracks i) observation.sent) t)
  left_so local remote i l pair = go (m.host_left && m.peer_left) refl
    where
      old : FollowedConn
      old = track_at t.tracks i

      m : FollowedConn
      m = with_left old observation.sent

      go : (b : Bool) → (m.host_left && m.peer_left) ≡ b
          → ClosedSo local remote (if b then record t { tracks = remove t.tracks i; told = with_end_recorded t.told m.place Closed (Some observation.number) } else record t { tracks = slice_set t.tracks i m; told = with_end_recorded t.told m.place (end_by observation.sent) None })
      go false e =
          still_so local remote (record t { tracks = slice_set t.tracks i m; told = with_end_recorded t.told m.place (end_by observation.sent) None })
          (set_stays t k i l m (left_name old observation.sent) (left_place old observation.sent) (left_link old observation.sent) (left_size old observation.sent) (with_end_recorded t.told m.place (end_by observation.sent) None)
          (end_length m.place (end_by observation.sent) None) (end_same m.place (end_by observation.sent) None))
      go true e = record { placed = gone.placed; each = λ j. by j (has_name j old) refl }
        where
          now : Tables
          now = record t { tracks = remove t.tracks i; told = with_end_recorded t.told m.place Closed (Some observation.number) }

          gone : TakenAway t k i l now
          gone = gone_placed t k i l (with_end_recorded t.told m.place Closed (Some observation.number)) (end_length m.place Closed (Some observation.number)) (end_same m.place Closed (Some observation.number))

          by : (j : Name) (b : Bool) → has_name j old ≡ b → (text_named j now ≡ text_named j t) ⊎ IsOver local remote j now
          by j false d = inl (gone.texts j d)
          by j true d = inr (record {
            track = old;
            was = first_here (has_name j) t.tracks i (new_track 0 0 0 0) l (k.unique j) d;
            pair = pair;
            other_left = both_left old observation.sent e;
            none = gone.none j d;
          })

  pub closed_so : (local remote : ℕ) (o : Option ℕ) → pair_index observation.at observation.peer local remote t.tracks ≡ o → ClosedSo local remote (closed_at observation t o)
  closed_so local remote None e = still_so local remote t (stays_same t k)
  closed_so local remote (Some i) e = go (has_left track observation.sent)
    where
      track : FollowedConn
      track = track_at t.tracks i

      found : (i < length t.tracks) × (is_pair observation.at observation.peer local remote track ≡ true) × ((h : ℕ) → h < i → is_pair observation.at observation.peer local remote (track_at t.tracks h) ≡ false)
      found = position-Some (is_pair observation.at observation.peer local remote) t.tracks i (new_track 0 0 0 0) e

      go : (b : Bool) → ClosedSo local remote (if b then t else left_at observation i (with_left track observation.sent) t)
      go true = still_so local remote t (stays_same t k)
      go false = left_so local remote i found.0 found.1

  -- ---- an ALL, or a RET

  pub granted_stays : (sender : Bool) (link messages bits : ℕ) (o : Option ℕ) → index_at_link observation.at observation.peer sender link t.tracks ≡ o → Stays t (granted_at observation messages bits t o)
  granted_stays sender link messages bits None e = stays_same t k
  granted_stays sender link messages bits (Some i) e = go (has_left track observation.sent)
    where
      track : FollowedConn
      track = track_at t.tracks i

      l : i < length t.tracks
      l = (position-Some (is_used observation.at observation.peer sender link) t.tracks i (new_track 0 0 0 0) e).0

      by : (p : Option ℕ) → Stays t (granted_of i messages bits track t p)
      by None = stays_same t k
      by (Some p) =
          set_stays t k i l (record track { left = with_more track.left messages bits }) (record { at = refl; peer = refl; local = refl; remote = refl }) refl (λ e. e) (λ e. e)
          (with_opened_at t.told p (with_granted (opened_at t.told p) messages bits)) (opened_length t.told p (with_granted (opened_at t.told p) messages bits)) (λ q. opened_same t.told p (with_granted (opened_at t.told p) messages bits) q refl)

      go : (b : Bool) → Stays t (if b then t else granted_of i messages bits track t track.place)
      go true = stays_same t k
      go false = by track.place

  pub returned_stays : (sender : Bool) (link messages bits : ℕ) (o : Option ℕ) → index_at_link observation.at observation.peer sender link t.tracks ≡ o → Stays t (returned_at observation messages bits t o)
  returned_stays sender link messages bits None e = stays_same t k
  returned_stays sender link messages bits (Some i) e = go (has_left track observation.sent)
    where
      track : FollowedConn
      track = track_at t.tracks i

      l : i < length t.tracks
      l = (position-Some (is_used observation.at observation.peer sender link) t.tracks i (new_track 0 0 0 0) e).0

      by : (p : Option ℕ) → Stays t (returned_of i messages bits track t p)
      by None = stays_same t k
      by (Some p) =
          set_stays t k i l (record track { left = with_less track.left messages bits }) (record { at = refl; peer = refl; local = refl; remote = refl }) refl (λ e. e) (λ e. e)
          (with_opened_at t.told p (with_returned (opened_at t.told p) messages bits)) (opened_length t.told p (with_returned (opened_at t.told p) messages bits)) (λ q. opened_same t.told p (with_returned (opened_at t.told p) messages bits) q refl)

      go : (b : Bool) → Stays t (if b then t else returned_of i messages bits track t track.place)
      go true = stays_same t k
      go false = by track.place

  -- ---- a text: of the connection that has its link, if that was opened

  -- only this connection's reported text changes: this text is appended; or all texts stay the same
  pub record SaidSo (track : FollowedConn) (size : ℕ) (more : List Bool) (now : Tables) : Type 0 where
    pub placed : Placed now
    pub others : (j : Name) → has_name j track ≡ false → text_named j now ≡ text_named j t
    pub late : (j : Name) → has_name j track ≡ true → (is_some track.place && takes_bits track size (length more)) ≡ false → text_named j now ≡ text_named j t
    pub taken : (j : Name) → has_name j track ≡ true → (is_some track.place && takes_bits track size (length more)) ≡ true → text_named j now ≡ text_with (text_named j t) more

  pub said_so : (sender : Bool) (link size : ℕ) (more : List Bool) (i : ℕ) → index_at_link observation.at observation.peer sender link t.tracks ≡ Some i → SaidSo (track_at t.tracks i) size more (said_at size more t (Some i))
  said_so sender link size more i e = by track.place refl
    where
      track : FollowedConn
      track = track_at t.tracks i

      less : FollowedConn
      less = record track { left = with_less track.left 1 (length more) }

      l : i < length t.tracks
      l = (position-Some (is_used observation.at observation.peer sender link) t.tracks i (new_track 0 0 0 0) e).0

      by : (o : Option ℕ) → track.place ≡ o → SaidSo track size more (texts_of i size more track t o)
      by None p = record {
        placed = k;
        others = λ j d. refl;
        late = λ j d f. refl;
        taken = λ j d f. let nay : false ≡ true = sym (ap (λ (x : Option ℕ). is_some x && takes_bits track size (length more)) p) ∙ f in absurd (cc nay);
      }
      by (Some p) f = go (takes_bits track size (length more)) refl
        where
          opened_if : Bool → Tables
          opened_if b = record t {
            tracks = slice_set t.tracks i less;
            told = if b then with_opened_at t.told p (connection_with_text (opened_at t.told p) more) else with_opened_at t.told p (with_late (opened_at t.told p));
          }

          placed_too : (b : Bool) → takes_bits track size (length more) ≡ b → (is_some track.place && takes_bits track size (length more)) ≡ b
          placed_too b e = ap (λ (x : Option ℕ). is_some x && takes_bits track size (length more)) f ∙ e

          go : (b : Bool) → takes_bits track size (length more) ≡ b → SaidSo track size more (opened_if b)
          go true e =
              let s = set_said t k i l less (record { at = refl; peer = refl; local = refl; remote = refl }) p f refl (λ e. e) (λ e. e) more in
              record {
                placed = s.placed;
                others = s.others;
                late = λ j d g. let nay : false ≡ true = sym g ∙ placed_too true e in absurd (cc nay);
                taken = λ j d g. s.its j d;
              }
          go false e =
              let s = set_stays t k i l less (record { at = refl; peer = refl; local = refl; remote = refl }) refl (λ e. e) (λ e. e)
              (with_opened_at t.told p (with_late (opened_at t.told p))) (opened_length t.told p (with_late (opened_at t.told p))) (λ q. opened_same t.told p (with_late (opened_at t.told p)) q refl) in
              record {
                placed = s.placed;
                others = λ j d. s.texts j;
                late = λ j d g. s.texts j;
                taken = λ j d g. let nay : false ≡ true = sym (placed_too false e) ∙ g in absurd (cc nay);
              }

  -- ---- all connections of the two are over

  end_all_same : (end : EndReason) (tracks : List FollowedConn) (told : List Connection) (q : Option ℕ) → text_at (end_all observation.number observation.at observation.peer end tracks told) q ≡ text_at told q
  end_all_same end [] told q = refl
  end_all_same end (track ∷ tracks) told q = end_all_same end tracks (end_one observation.number observation.at observation.peer end track told) q ∙ one (is_track_of observation.at observation.peer track) track.place
    where
      by : (o : Option ℕ) → text_at (with_end_recorded told o end (Some observation.number)) q ≡ text_at told q
      by None = refl
      by (Some p) = opened_same told p (connection_with_end (opened_at told p) end (Some observation.number)) q refl

      one : (b : Bool) (o : Option ℕ) → text_at (if b then with_end_recorded told o end (Some observation.number) else told) q ≡ text_at told q
      one true o = by o
      one false o = refl

  pub end_all_length : (end : EndReason) (tracks : List FollowedConn) (told : List Connection) → length (end_all observation.number observation.at observation.peer end tracks told) ≡ length told
  end_all_length end [] told = refl
  end_all_length end (track ∷ tracks) told = end_all_length end tracks (end_one observation.number observation.at observation.peer end track told) ∙ one (is_track_of observation.at observation.peer track) track.place
    where
      by : (o : Option ℕ) → length (with_end_recorded told o end (Some observation.number)) ≡ length told
      by None = refl
      by (Some p) = opened_length told p (connection_with_end (opened_at told p) end (Some observation.number))

      one : (b : Bool) (o : Option ℕ) → length (if b then with_end_recorded told o end (Some observation.number) else told) ≡ length told
      one true o = by o
      one false o = refl

  -- a name of these two hosts
  abbrev pub is_between_these : Name → Bool
  is_between_these j = j.at == observation.at && j.peer == observation.peer

  pub record ClearedSo (now : Tables) : Type 0 where
    pub placed : Placed now
    pub none : (j : Name) → is_between_these j ≡ true → text_named j now ≡ []
    pub others : (j : Name) → is_between_these j ≡ false → text_named j now ≡ text_named j t

  between_as : (j : Name) (track : FollowedConn) → has_name j track ≡ true → is_track_of observation.at observation.peer track ≡ is_between_these j
  between_as j track e = let is = name_is j track e in ap (λ (x : Name). x.at == observation.at && x.peer == observation.peer) (sym is)

  pub cleared_so : (end : EndReason) → ClearedSo (after_clearing observation end t)
  cleared_so end = record {
    placed = record {
      unique = λ j. unique_filter (has_name j) (λ track. not (is_track_of observation.at observation.peer track)) t.tracks (k.unique j);
      within = λ j p e. subst (λ (n : ℕ). p < n) (sym (end_all_length end t.tracks t.told)) (k.within j p (kept_place j p e));
      whole = λ j track p e f. k.whole j track p (kept_name j (is_between_these j) refl track e) f;
      apart = λ j h p e f. k.apart j h p (kept_place j p e) (kept_place h p f);
    };
    none = λ j e. ap (λ (o : Option FollowedConn). text_at told (place_in o)) (gone j e);
    others = λ j e. ap (λ (o : Option FollowedConn). text_at told (place_in o)) (stays j e) ∙ end_all_same end t.tracks t.told (position_of j t.tracks);
  }
    where
      told : List Connection
      told = end_all observation.number observation.at observation.peer end t.tracks t.told

      gone : (j : Name) → is_between_these j ≡ true → named j (without t.tracks observation.at observation.peer) ≡ None
      gone j e = none_filter (has_name j) (λ track. not (is_track_of observation.at observation.peer track)) t.tracks (λ track d. ap not (between_as j track d ∙ e))

      stays : (j : Name) → is_between_these j ≡ false → named j (without t.tracks observation.at observation.peer) ≡ named j t.tracks
      stays j e = first_filter (has_name j) (λ track. not (is_track_of observation.at observation.peer track)) t.tracks (λ track d. ap not (between_as j track d ∙ e))

      kept_name : (j : Name) (b : Bool) → is_between_these j ≡ b → (track : FollowedConn) → named j (without t.tracks observation.at observation.peer) ≡ Some track → named j t.tracks ≡ Some track
      kept_name j true e track f = let nay : None ≡ Some track = sym (gone j e) ∙ f in absurd (cc nay)
      kept_name j false e track f = sym (stays j e) ∙ f

      kept_place : (j : Name) (p : ℕ) → position_of j (without t.tracks observation.at observation.peer) ≡ Some p → position_of j t.tracks ≡ Some p
      kept_place j p e = go (named j (without t.tracks observation.at observation.peer)) refl e
        where
          go : (o : Option FollowedConn) → named j (without t.tracks observation.at observation.peer) ≡ o → place_in o ≡ Some p → position_of j t.tracks ≡ Some p
          go None d f = absurd (cc f)
          go (Some track) d f = ap place_in (kept_name j (is_between_these j) refl track d) ∙ f

  -- who is left was there
  pub cleared_named : (j : Name) (track : FollowedConn) → named j (without t.tracks observation.at observation.peer) ≡ Some track → named j t.tracks ≡ Some track
  cleared_named j track f = go (is_between_these j) refl
    where
      go : (b : Bool) → is_between_these j ≡ b → named j t.tracks ≡ Some track
      go true e =
          let nay : None ≡ Some track = sym (none_filter (has_name j) (λ x. not (is_track_of observation.at observation.peer x)) t.tracks (λ x d. ap not (between_as j x d ∙ e))) ∙ f in absurd (cc nay)
      go false e = sym (first_filter (has_name j) (λ x. not (is_track_of observation.at observation.peer x)) t.tracks (λ x d. ap not (between_as j x d ∙ e))) ∙ f
