-- Each opened connection has its own index among those reported; and the reported texts, by sockets,
-- through all commands and texts.
use Rattle.std.proofs.Common.{◌≡◌, ◌<◌, ◌⊎◌, inl, inr, ℕ, ◌+◌, ◌==◌, eq-eqb, Bool, true, false, ◌&&◌, List, [], ◌∷◌, ◌++◌, length, Option, None, Some, is_some, refl, sym, ap, ◌∙◌, subst, arith}
use Rattle.std.specs.Prelude.{slice_set}
use Rattle.std.specs.List.{position, remove}
use Rattle.std.proofs.lemmas.Bool.{eqb-true, and_parts}
use Rattle.ncp_model.specs.declared.pair.Pair.{Pair}
use Rattle.ncp_monitor.proofs.Firsts.{first, found_first, none_first, Unique}
use Rattle.ncp_follow.specs.declared.connection.Connection.{Connection}
use Rattle.ncp_follow.specs.declared.followed_conn.FollowedConn.{FollowedConn}
use Rattle.ncp_follow.specs.declared.tables.Tables.{Tables}
use Rattle.ncp_follow.specs.Tracks.{new_track, is_pair, track_at}
use Rattle.ncp_follow.specs.Connections.{text_with, connection_with_text, opened_at, with_opened_at}
use Rattle.ncp_follow.specs.Tables.{pair_index}
use Rattle.ncp_proof_follow_tables.specs.TextReported.{place_opened, text_told}
use Rattle.ncp_proof_follow_tables.proofs.OtherAt.{first_here, set_here, set_other, unique_at, gone_here, gone_other, unique_gone}
use Rattle.ncp_proof_follow_tables.proofs.TextsAt.{text_at, told_here, told_other, opened_length, text_there, more_same, more_new}

-- a connection by the hosts and the sockets
pub record Name : Type 0 where
  pub at : ℕ
  pub peer : ℕ
  pub pair : Pair

abbrev pub has_name : Name → FollowedConn → Bool
has_name k = is_pair k.at k.peer k.pair.local k.pair.remote

abbrev pub named : Name → List FollowedConn → Option FollowedConn
named k tracks = first (has_name k) tracks

abbrev pub place_in : Option FollowedConn → Option ℕ
place_in None = None
place_in (Some track) = track.place

abbrev pub position_of : Name → List FollowedConn → Option ℕ
position_of k tracks = place_in (named k tracks)

-- its text
abbrev pub text_named : Name → Tables → List Bool
text_named k t = text_at t.told (position_of k t.tracks)

place_first : (k : Name) (tracks : List FollowedConn) → place_opened tracks (pair_index k.at k.peer k.pair.local k.pair.remote tracks) ≡ position_of k tracks
place_first k tracks = go (position (has_name k) tracks) refl
  where
    go : (o : Option ℕ) → position (has_name k) tracks ≡ o → place_opened tracks o ≡ position_of k tracks
    go None e = sym (ap place_in (none_first (has_name k) tracks e))
    go (Some i) e = sym (ap place_in (found_first (has_name k) tracks i (new_track 0 0 0 0) e))

pub text_is : (at peer : ℕ) (pair : Pair) (t : Tables) → text_told at peer pair t ≡ text_named (record { at = at; peer = peer; pair = pair }) t
text_is at peer pair t = ap (text_at t.told) (place_first (record { at = at; peer = peer; pair = pair }) t.tracks)

-- ---- what holds of all

pub record Placed (t : Tables) : Type 0 where
  pub unique : (k : Name) → Unique (has_name k) t.tracks
  pub within : (k : Name) (p : ℕ) → position_of k t.tracks ≡ Some p → p < length t.told
  pub whole : (k : Name) (track : FollowedConn) (p : ℕ) → named k t.tracks ≡ Some track → track.place ≡ Some p → (is_some track.link ≡ true) × (is_some track.size ≡ true)
  pub apart : (k j : Name) (p : ℕ) → position_of k t.tracks ≡ Some p → position_of j t.tracks ≡ Some p → k ≡ j

pub placed_begins : Placed (record { tracks = []; told = [] })
placed_begins = record { unique = λ k. tt; within = λ k p e. absurd (cc e); whole = λ k track p e f. absurd (cc e); apart = λ k j p e f. absurd (cc e) }

-- ---- a connection in its place is another of the same sockets

pub record SameName (old now : FollowedConn) : Type 0 where
  pub at : now.at ≡ old.at
  pub peer : now.peer ≡ old.peer
  pub local : now.local ≡ old.local
  pub remote : now.remote ≡ old.remote

names : (k : Name) (old now : FollowedConn) → SameName old now → has_name k now ≡ has_name k old
names k old now s =
    ap (λ (x : ℕ). x == k.at && now.peer == k.peer && now.local == k.pair.local && now.remote == k.pair.remote) s.at
    ∙ ap (λ (x : ℕ). old.at == k.at && x == k.peer && now.local == k.pair.local && now.remote == k.pair.remote) s.peer
    ∙ ap (λ (x : ℕ). old.at == k.at && old.peer == k.peer && x == k.pair.local && now.remote == k.pair.remote) s.local
    ∙ ap (λ (x : ℕ). old.at == k.at && old.peer == k.peer && old.local == k.pair.local && x == k.pair.remote) s.remote

-- who has a name
abbrev pub name_of : FollowedConn → Name
name_of track = record { at = track.at; peer = track.peer; pair = record { local = track.local; remote = track.remote } }

abbrev name_with : ℕ → ℕ → ℕ → ℕ → Name
name_with at peer local remote = record { at = at; peer = peer; pair = record { local = local; remote = remote } }

pub name_is : (k : Name) (track : FollowedConn) → has_name k track ≡ true → k ≡ name_of track
name_is k track e =
    let a = and_parts (track.at == k.at && track.peer == k.peer && track.local == k.pair.local) (track.remote == k.pair.remote) e in
    let b = and_parts (track.at == k.at && track.peer == k.peer) (track.local == k.pair.local) a.0 in
    let c = and_parts (track.at == k.at) (track.peer == k.peer) b.0 in
    ap (λ (x : ℕ). name_with x k.peer k.pair.local k.pair.remote) (sym (eqb-true track.at k.at c.0))
    ∙ ap (λ (x : ℕ). name_with track.at x k.pair.local k.pair.remote) (sym (eqb-true track.peer k.peer c.1))
    ∙ ap (λ (x : ℕ). name_with track.at track.peer x k.pair.remote) (sym (eqb-true track.local k.pair.local b.1))
    ∙ ap (λ (x : ℕ). name_with track.at track.peer track.local x) (sym (eqb-true track.remote k.pair.remote a.1))

pub itself : (track : FollowedConn) → has_name (name_of track) track ≡ true
itself track = rw (eq-eqb track.at track.at refl, eq-eqb track.peer track.peer refl, eq-eqb track.local track.local refl, eq-eqb track.remote track.remote refl) refl

-- the reported texts are the same
abbrev pub TextsStay : Tables → Tables → Type 0
TextsStay t now = (k : Name) → text_named k now ≡ text_named k t

-- with the same texts all that is known is kept
pub record Stays (t now : Tables) : Type 0 where
  pub placed : Placed now
  pub texts : TextsStay t now

pub stays_same : (t : Tables) → Placed t → Stays t t
stays_same t k = record { placed = k; texts = λ j. refl }

module _ (t : Tables) (k : Placed t) (i : ℕ) (l : i < length t.tracks) where
  abbrev pub old : FollowedConn
  old = track_at t.tracks i

  module _ (now : FollowedConn) (same : SameName old now) where
    abbrev pub after : List FollowedConn
    after = slice_set t.tracks i now

    -- what is known of each name: it is that of this connection, or not
    pub record NamedSo (j : Name) : Type 0 where
      pub was : named j t.tracks ≡ Some old
      pub is : named j after ≡ Some now
      pub name : j ≡ name_of old

    pub each_name : (j : Name) → NamedSo j ⊎ (named j after ≡ named j t.tracks)
    each_name j = go (has_name j old) refl
      where
        go : (x : Bool) → has_name j old ≡ x → NamedSo j ⊎ (named j after ≡ named j t.tracks)
        go true e = inl (record {
          was = first_here (has_name j) t.tracks i (new_track 0 0 0 0) l (k.unique j) e;
          is = set_here (has_name j) t.tracks i now (new_track 0 0 0 0) l (k.unique j) e (names j old now same ∙ e);
          name = name_is j old e;
        })
        go false e = inr (set_other (has_name j) t.tracks i now (new_track 0 0 0 0) e (names j old now same ∙ e))

    unique_after : (j : Name) → Unique (has_name j) after
    unique_after j = unique_at (has_name j) t.tracks i now (new_track 0 0 0 0) l (names j old now same) (k.unique j)

    -- ---- with the same place

    module _ (place : now.place ≡ old.place) (link : is_some old.link ≡ true → is_some now.link ≡ true) (size : is_some old.size ≡ true → is_some now.size ≡ true) where
      pub place_stays : (j : Name) → position_of j after ≡ position_of j t.tracks
      place_stays j = elim (each_name j) [
        | inl n ↦ ap place_in n.is ∙ place ∙ sym (ap place_in n.was)
        | inr e ↦ ap place_in e
      ]

      pub set_placed : (told : List Connection) → length told ≡ length t.told → Placed (record { tracks = after; told = told })
      set_placed told len = record {
        unique = unique_after;
        within = λ j p e. let m : p < length t.told = k.within j p (sym (place_stays j) ∙ e) in subst (λ (n : ℕ). p < n) (sym len) m;
        whole = λ j track p e f. whole_after j track p (each_name j) e f;
        apart = λ j h p e f. k.apart j h p (sym (place_stays j) ∙ e) (sym (place_stays h) ∙ f);
      }
        where
          whole_after : (j : Name) (track : FollowedConn) (p : ℕ) → NamedSo j ⊎ (named j after ≡ named j t.tracks) → named j after ≡ Some track → track.place ≡ Some p → (is_some track.link ≡ true) × (is_some track.size ≡ true)
          whole_after j track p (inl n) e f =
              let is : now ≡ track = cc (sym n.is ∙ e) in
              let g : old.place ≡ Some p = sym place ∙ ap (λ (x : FollowedConn). x.place) is ∙ f in
              let w = k.whole j old p n.was g in
              (ap (λ (x : FollowedConn). is_some x.link) (sym is) ∙ link w.0, ap (λ (x : FollowedConn). is_some x.size) (sym is) ∙ size w.1)
          whole_after j track p (inr s) e f = k.whole j track p (sym s ∙ e) f

      -- and the same texts
      pub set_stays : (told : List Connection) → length told ≡ length t.told → ((o : Option ℕ) → text_at told o ≡ text_at t.told o) → Stays t (record { tracks = after; told = told })
      set_stays told len texts = record { placed = set_placed told len; texts = λ j. ap (text_at told) (place_stays j) ∙ texts (position_of j t.tracks) }

    -- ---- it is opened

    module _ (unplaced : old.place ≡ None) (place : now.place ≡ Some (length t.told)) (link : is_some now.link ≡ true) (size : is_some now.size ≡ true) (c : Connection) (silent : c.text ≡ []) where
      abbrev pub told : List Connection
      told = t.told ++ c ∷ []

      longer : length told ≡ length t.told + 1
      longer = go t.told
        where
          go : (xs : List Connection) → length (xs ++ c ∷ []) ≡ length xs + 1
          go [] = refl
          go (x ∷ xs) = let rest = go xs in omega arith

      new_place : (j : Name) (p : ℕ) → NamedSo j → position_of j after ≡ Some p → length t.told ≡ p
      new_place j p n e = cc (sym place ∙ sym (ap place_in n.is) ∙ e)

      text_opened : (j : Name) → NamedSo j ⊎ (named j after ≡ named j t.tracks) → text_at told (position_of j after) ≡ text_at t.told (position_of j t.tracks)
      text_opened j (inl n) =
          ap (text_at told) (ap place_in n.is ∙ place) ∙ more_new t.told c ∙ silent ∙ sym (ap (text_at t.told) (ap place_in n.was ∙ unplaced))
      text_opened j (inr e) = ap (λ (o : Option FollowedConn). text_at told (place_in o)) e ∙ go (position_of j t.tracks) refl
        where
          go : (o : Option ℕ) → position_of j t.tracks ≡ o → text_at told (position_of j t.tracks) ≡ text_at t.told (position_of j t.tracks)
          go None f = ap (text_at told) f ∙ sym (ap (text_at t.told) f)
          go (Some q) f = ap (text_at told) f ∙ more_same t.told q c (k.within j q f) ∙ sym (ap (text_at t.told) f)

      within_opened : (j : Name) (p : ℕ) → NamedSo j ⊎ (named j after ≡ named j t.tracks) → position_of j after ≡ Some p → p < length told
      within_opened j p (inl n) e = let is = new_place j p n e in let m = longer in omega arith
      within_opened j p (inr s) e = let m = k.within j p (sym (ap place_in s) ∙ e) in let n = longer in omega arith

      whole_opened : (j : Name) (track : FollowedConn) (p : ℕ) → NamedSo j ⊎ (named j after ≡ named j t.tracks) → named j after ≡ Some track → track.place ≡ Some p → (is_some track.link ≡ true) × (is_some track.size ≡ true)
      whole_opened j track p (inl n) e f = let is : now ≡ track = cc (sym n.is ∙ e) in (ap (λ (x : FollowedConn). is_some x.link) (sym is) ∙ link, ap (λ (x : FollowedConn). is_some x.size) (sym is) ∙ size)
      whole_opened j track p (inr s) e f = k.whole j track p (sym s ∙ e) f

      distinct_opened : (j h : Name) (p : ℕ) → NamedSo j ⊎ (named j after ≡ named j t.tracks) → NamedSo h ⊎ (named h after ≡ named h t.tracks) → position_of j after ≡ Some p → position_of h after ≡ Some p → j ≡ h
      distinct_opened j h p (inl n) (inl m) e f = n.name ∙ sym m.name
      distinct_opened j h p (inl n) (inr s) e f = let is = new_place j p n e in let m = k.within h p (sym (ap place_in s) ∙ f) in absurd (omega arith)
      distinct_opened j h p (inr s) (inl n) e f = let is = new_place h p n f in let m = k.within j p (sym (ap place_in s) ∙ e) in absurd (omega arith)
      distinct_opened j h p (inr s) (inr r) e f = k.apart j h p (sym (ap place_in s) ∙ e) (sym (ap place_in r) ∙ f)

      pub set_opened : Stays t (record { tracks = after; told = told })
      set_opened = record {
        placed = record {
          unique = unique_after;
          within = λ j p e. within_opened j p (each_name j) e;
          whole = λ j track p e f. whole_opened j track p (each_name j) e f;
          apart = λ j h p e f. distinct_opened j h p (each_name j) (each_name h) e f;
        };
        texts = λ j. text_opened j (each_name j);
      }

  -- ---- it is taken away

  pub record TakenAway (now : Tables) : Type 0 where
    pub placed : Placed now
    pub texts : (j : Name) → has_name j old ≡ false → text_named j now ≡ text_named j t
    pub none : (j : Name) → has_name j old ≡ true → text_named j now ≡ []

  pub gone_placed : (told : List Connection) → length told ≡ length t.told → ((o : Option ℕ) → text_at told o ≡ text_at t.told o) → TakenAway (record { tracks = remove t.tracks i; told = told })
  gone_placed told len texts = record {
    placed = record {
      unique = λ j. unique_gone (has_name j) t.tracks i (new_track 0 0 0 0) l (k.unique j);
      within = λ j p e. subst (λ (n : ℕ). p < n) (sym len) (k.within j p (kept_place j p e));
      whole = λ j track p e f. k.whole j track p (kept_name j track e) f;
      apart = λ j h p e f. k.apart j h p (kept_place j p e) (kept_place h p f);
    };
    texts = λ j d. ap (λ (o : Option FollowedConn). text_at told (place_in o)) (gone_other (has_name j) t.tracks i (new_track 0 0 0 0) l d) ∙ texts (position_of j t.tracks);
    none = λ j d. ap (λ (o : Option FollowedConn). text_at told (place_in o)) (gone_here (has_name j) t.tracks i (new_track 0 0 0 0) l (k.unique j) d);
  }
    where
      kept_name : (j : Name) (track : FollowedConn) → named j (remove t.tracks i) ≡ Some track → named j t.tracks ≡ Some track
      kept_name j track e = go (has_name j old) refl
        where
          go : (x : Bool) → has_name j old ≡ x → named j t.tracks ≡ Some track
          go true d = let nay : None ≡ Some track = sym (gone_here (has_name j) t.tracks i (new_track 0 0 0 0) l (k.unique j) d) ∙ e in absurd (cc nay)
          go false d = sym (gone_other (has_name j) t.tracks i (new_track 0 0 0 0) l d) ∙ e

      kept_place : (j : Name) (p : ℕ) → position_of j (remove t.tracks i) ≡ Some p → position_of j t.tracks ≡ Some p
      kept_place j p e = go (named j (remove t.tracks i)) refl e
        where
          go : (o : Option FollowedConn) → named j (remove t.tracks i) ≡ o → place_in o ≡ Some p → position_of j t.tracks ≡ Some p
          go None d f = absurd (cc f)
          go (Some track) d f = ap place_in (kept_name j track d) ∙ f

  -- ---- a text is said of it

  pub record TextSaid (more : List Bool) (now : Tables) : Type 0 where
    pub placed : Placed now
    pub others : (j : Name) → has_name j old ≡ false → text_named j now ≡ text_named j t
    pub its : (j : Name) → has_name j old ≡ true → text_named j now ≡ text_with (text_named j t) more

  module _ (now : FollowedConn) (same : SameName old now) (p : ℕ) (place : old.place ≡ Some p) (still : now.place ≡ old.place) (link : is_some old.link ≡ true → is_some now.link ≡ true) (size : is_some old.size ≡ true → is_some now.size ≡ true) (more : List Bool) where
    pub set_said : TextSaid more (record { tracks = slice_set t.tracks i now; told = with_opened_at t.told p (connection_with_text (opened_at t.told p) more) })
    set_said = record {
      placed = set_placed now same still link size told (opened_length t.told p (connection_with_text (opened_at t.told p) more));
      others = λ j d. ap (text_at told) (place_stays now same still link size j) ∙ other j d (position_of j t.tracks) refl;
      its = λ j d.
          ap (text_at told) (place_stays now same still link size j ∙ mine j d) ∙ told_here t.told p (connection_with_text (opened_at t.told p) more) (k.within j p (mine j d))
          ∙ ap (λ (xs : List Bool). text_with xs more) (text_there t.told p (k.within j p (mine j d)) ∙ sym (ap (text_at t.told) (mine j d)));
    }
      where
        told : List Connection
        told = with_opened_at t.told p (connection_with_text (opened_at t.told p) more)

        mine : (j : Name) → has_name j old ≡ true → position_of j t.tracks ≡ Some p
        mine j d = ap place_in (first_here (has_name j) t.tracks i (new_track 0 0 0 0) l (k.unique j) d) ∙ place

        other : (j : Name) → has_name j old ≡ false → (o : Option ℕ) → position_of j t.tracks ≡ o → text_at told (position_of j t.tracks) ≡ text_at t.told (position_of j t.tracks)
        other j d None e = ap (text_at told) e ∙ sym (ap (text_at t.told) e)
        other j d (Some q) e = ap (text_at told) e ∙ told_other t.told p q (connection_with_text (opened_at t.told p) more) (λ same. no (same)) ∙ sym (ap (text_at t.told) e)
          where
            no : q ≡ p → ⊥
            no same =
                let is : j ≡ name_of old = k.apart j (name_of old) p (e ∙ ap (λ (x : ℕ). Some x) same) (mine (name_of old) (itself old)) in
                let nay : false ≡ true = sym d ∙ ap (λ (x : Name). has_name x old) is ∙ itself old in cc nay
