-- Entries that are put into a table in their order: each is possible there, and at the end it is the whole map.
use Rattle.std.proofs.Common.{◌≡◌, ℕ, zero, suc, ◌+◌, ◌<◌, ◌≤◌, ◌==◌, Bool, true, false, not, ◌&&◌, ◌||◌, if◌then◌else◌, is_none, nat_lt, nat_le, List, [], ◌∷◌, ◌++◌, All, Option, None, Some, length, slice_get, T, refl, sym, ap, ap₂, ◌∙◌, subst, arith}
use Rattle.std.specs.List.{count_by, remove}
use Rattle.std.specs.FinMap.{find, get, insert, entries, entries_sorted, from_entries, is_sorted, get-entries, same_map}
use Rattle.std.proofs.lemmas.List.Elements.{All-head, All-tail}
use Rattle.ncp_model.specs.declared.pair.Pair.{Pair}
use Rattle.ncp_model.specs.Pairs.{pair_cmp}
use Rattle.ncp_model.proofs.PairOrder.{pairs_total, pairs_exact}
use Rattle.ncp_model.specs.Endpoint.{Endpoint, is_ended}
use Rattle.ncp_model.specs.Ends.{Ends, no_ends, count, any, has_asked, is_by_peer, hears_link, uses_link}
use Rattle.ncp_conn.specs.Entries.{AreEntries}
use Rattle.ncp_conn.specs.Restoring.{can_be, may_stand}
use Rattle.ncp_conn.proofs.Counts.{one, count_cons, count_is}
use Rattle.ncp_conn.proofs.Finding.{within, get_is, are_insert, map_insert}
use Rattle.ncp_conn.proofs.Listing.{rank, find_at}
use Rattle.ncp_peer.specs.Loading.{CanStand}

abbrev Entry : Type 0
Entry = Pair × Endpoint

get_left : (xs ys : List Entry) (i : ℕ) (x : Entry) → slice_get xs i ≡ Some x → slice_get (xs ++ ys) i ≡ Some x
get_left [] ys i x at = absurd (cc)
get_left (a ∷ xs) ys zero x at = at
get_left (a ∷ xs) ys (suc i) x at = get_left xs ys i x at

get_seam : (xs ys : List Entry) (x : Entry) → slice_get (xs ++ x ∷ ys) (length xs) ≡ Some x
get_seam [] ys x = refl
get_seam (a ∷ xs) ys x = get_seam xs ys x

remove_seam : (xs : List Entry) (x : Entry) → remove (xs ++ x ∷ []) (length xs) ≡ xs
remove_seam [] x = refl
remove_seam (a ∷ xs) x = ap (λ (ys : List Entry). a ∷ ys) (remove_seam xs x)

-- the next one has a pair that none before it has
pub next_is_new : (all done others : List Entry) (x : Entry) → T (is_sorted pair_cmp all) → done ++ x ∷ others ≡ all → find pair_cmp x.0 done ≡ None
next_is_new all done others x sorted joined = go (find pair_cmp x.0 done) refl
  where
    go : (o : Option Endpoint) → find pair_cmp x.0 done ≡ o → find pair_cmp x.0 done ≡ None
    go None e = e
    go (Some f) e =
        let at = find_at done x.0 f e in
        let inside : at.0 < length done = within done at.0 (x.0, f) at.1 in
        let here : slice_get all at.0 ≡ Some (x.0, f) = sym (ap (λ (es : List Entry). slice_get es at.0) joined) ∙ get_left done (x ∷ others) at.0 (x.0, f) at.1 in
        let there : slice_get all (length done) ≡ Some x = sym (ap (λ (es : List Entry). slice_get es (length done)) joined) ∙ get_seam done others x in
        let a = rank all at.0 (x.0, f) sorted here in
        let b = rank all (length done) x sorted there in
        absurd (omega (arith, inside, a, b))

-- those that are in the table
pub record AreIn (done : List Entry) (t : Ends) : Type 0 where
  pub is : t ≡ from_entries done
  pub are : AreEntries done

pub none_in : (t : Ends) → t ≡ no_ends → AreIn [] t
none_in t e = record { is = e; are = tt }

pub one_in : (done : List Entry) (x : Entry) (t now : Ends) → AreIn done t → find pair_cmp x.0 done ≡ None → is_ended x.1 ≡ false → now ≡ insert t x.0 x.1 → AreIn (done ++ x ∷ []) now
one_in done x t now has new over e =
    let seam = remove_seam done x in
    let at : slice_get (done ++ x ∷ []) (length done) ≡ Some x = get_seam done [] x in
    let are = are_insert (done ++ x ∷ []) (length done) x.0 x.1 at (subst AreEntries (sym seam) has.are) (ap (find pair_cmp x.0) seam ∙ new) over in
    record {
      is = e ∙ ap (λ (m : Ends). insert m x.0 x.1) (has.is ∙ ap (λ (es : List Entry). from_entries es) (sym seam)) ∙ sym (map_insert (done ++ x ∷ []) (length done) x.0 x.1 are at);
      are = are;
    }

-- with all of them it is the map
pub all_in : (m t : Ends) (done : List Entry) → AreIn done t → done ≡ entries m → t ≡ m
all_in m t done has e =
    has.is ∙ ap (λ (es : List Entry). from_entries es) e ∙ same_map pairs_total pairs_exact _ _ (λ q. get_is (entries m) q ∙ sym (get-entries m q))

count_apart : (p : Entry → Bool) (xs ys : List Entry) → count_by p (xs ++ ys) ≡ count_by p xs + count_by p ys
count_apart p [] ys = omega arith
count_apart p (x ∷ xs) ys = let h = count_apart p xs ys in rw (count_cons p x (xs ++ ys), count_cons p x xs) (omega (arith, h))

below : (a b : ℕ) → a < b → nat_lt a b ≡ true
below a b l = grind arith

none_passes : (n : ℕ) → n ≡ 0 → nat_lt 0 n ≡ false
none_passes n e = grind arith

both : (a b : Bool) → a ≡ true → b ≡ true → (a && b) ≡ true
both a b e f = ap₂ (λ (x y : Bool). x && y) e f

first_of : (a b : Bool) → (a && b) ≡ true → a ≡ true
first_of true b e = refl
first_of false b e = absurd (cc)

not_over : (a : Bool) → not a ≡ true → a ≡ false
not_over true e = absurd (cc)
not_over false e = refl

-- a possible endpoint is not over
pub goes_on : (x : Entry) → can_be x.0 x.1 ≡ true → is_ended x.1 ≡ false
goes_on x can = not_over (is_ended x.1) (first_of _ _ (first_of _ _ (first_of _ _ (first_of _ _ can))))

at_most : (a b : ℕ) → nat_le a b ≡ true → a ≤ b
at_most a b e = grind arith

is_zero : (n : ℕ) → (n == 0) ≡ true → n ≡ 0
is_zero n e = grind arith

last_of : (a b : Bool) → (a && b) ≡ true → b ≡ true
last_of true b e = e
last_of false b e = absurd (cc)

-- its room is no more than a store may have, and none before the local request
pub can_room : (x : Entry) → can_be x.0 x.1 ≡ true → x.1.room ≤ 65536
can_room x can = at_most x.1.room 65536 (last_of _ _ (first_of _ _ (first_of _ _ can)))

pub can_none : (x : Entry) → can_be x.0 x.1 ≡ true → x.1.asked ≡ false → x.1.room ≡ 0
can_none x can none = is_zero x.1.room (sym (ap (λ (b : Bool). b || x.1.room == 0) none) ∙ last_of _ _ (first_of _ _ (first_of _ _ (first_of _ _ can))))

module _ (m t : Ends) (done others : List Entry) (x : Entry) (stand : CanStand m) (has : AreIn done t) (joined : done ++ x ∷ others ≡ entries m) where
  -- what is counted before it, with it, is no more than what is counted in all
  counted : (p : Entry → Bool) → count p t + one (p x) ≤ count p m
  counted p =
      let here : count p t ≡ count_by p done = ap (count p) has.is ∙ count_is p done has.are in
      let all : count p m ≡ count_by p done + count_by p (x ∷ others) = sym (ap (count_by p) joined) ∙ count_apart p done (x ∷ others) in
      let next = count_cons p x others in
      omega (arith, here, all, next)

  room_by : (b : Bool) → x.1.asked ≡ b → (if b then nat_lt (count has_asked t) 64 else nat_lt (count is_by_peer t) 64) ≡ true
  room_by true e = let n = counted has_asked in let o : one (has_asked x) ≡ 1 = ap one e in let most = stand.own in below _ _ (omega (arith, n, o, most))
  room_by false e = let n = counted is_by_peer in let o : one (is_by_peer x) ≡ 1 = ap (λ (b : Bool). one (not b)) e in let most = stand.by_peer in below _ _ (omega (arith, n, o, most))

  alone_by : (p : Entry → Bool) (b : Bool) → p x ≡ b → count p m ≤ 1 → not (b && any p t) ≡ true
  alone_by p false e most = refl
  alone_by p true e most = let n = counted p in let o : one (p x) ≡ 1 = ap one e in ap not (none_passes (count p t) (omega (arith, n, o, most)))

  vacant : is_none (get t x.0) ≡ true
  vacant = ap is_none (ap (λ (n : Ends). get n x.0) has.is ∙ get_is done x.0 ∙ next_is_new (entries m) done others x (entries_sorted m) joined)

  pub next_may_stand : can_be x.0 x.1 ≡ true → may_stand x.0 x.1 t ≡ true
  next_may_stand can =
      both _ _ can (both _ _ (both _ _ vacant (room_by x.1.asked refl))
      (both _ _ (alone_by (hears_link x.1.link) (hears_link x.1.link (x.0, x.1)) refl (stand.hears x.1.link)) (alone_by (uses_link x.1.link) (uses_link x.1.link (x.0, x.1)) refl (stand.uses x.1.link))))

-- what all have the next one has
pub next_has : {A : Type 0} (P : A → Type 0) (all done others : List A) (x : A) → All P all → done ++ x ∷ others ≡ all → P x
next_has P all done others x each joined = go done (subst (All P) (sym joined) each)
  where
    go : (ds : List _) → All P (ds ++ x ∷ others) → P x
    go [] a = All-head P x others a
    go (d ∷ ds) a = go ds (All-tail P d (ds ++ x ∷ others) a)
