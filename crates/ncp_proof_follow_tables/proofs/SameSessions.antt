-- What is seen of two hosts, kept in a row: after one is put there it is the one that is found, and the others are as they were.
use Rattle.std.proofs.Common.{◌≡◌, ◌≤◌, ℕ, zero, suc, ◌+◌, ◌==◌, eq-eqb, Bool, true, false, not, ◌&&◌, if◌then◌else◌, List, [], ◌∷◌, ◌++◌, length, get_or, Option, None, Some, is_some, Result, Ok, refl, sym, ap, ◌∙◌, subst, arith}
use Rattle.std.specs.Prelude.{nat_lt, slice_set}
use Rattle.std.specs.List.{position}
use Rattle.std.proofs.lemmas.Bool.{eqb-true, and_parts}
use Rattle.std.proofs.lemmas.Bool.Decides.{nat_tests}
use Rattle.std.proofs.lemmas.List.Quantifiers.{position-Some}
use Rattle.ncp_leader.specs.Message.{Message}
use Rattle.ncp_wire.specs.declared.command.Command.{Command}
use Rattle.ncp_wire.specs.declared.fault.CommandFault.{CommandFault}
use Rattle.ncp_monitor.proofs.Firsts.{first, found_first, none_first, set_found, first_after, other_following, first_set, other_set}
use Rattle.ncp_interface.specs.declared.message_class.MessageClass.{MessageClass}
use Rattle.ncp_follow.specs.declared.session.Session.{Session}
use Rattle.ncp_follow.specs.declared.sessions.TheConstants.{MAX_SESSIONS}
use Rattle.ncp_follow.specs.declared.tables.Tables.{Tables}
use Rattle.ncp_follow.specs.declared.observation.Observation.{Observation}
use Rattle.ncp_follow.specs.Sessions.{new_session, is_between, session_after_reset, session_after_reply, with_stray, session_at, session_of, put_session, with_session}
use Rattle.ncp_follow.specs.Followed.{is_text_opened, session_after, session_after_all, read_session}
use Rattle.ncp_interface.specs.Contents.{items_said}

abbrev pub found : ℕ → ℕ → List Session → Option Session
found at peer sessions = first (is_between at peer) sessions

abbrev pub or_session : ℕ → ℕ → Option Session → Session
or_session at peer None = new_session false at peer
or_session at peer (Some session) = session

pub session_found : (at peer : ℕ) (sessions : List Session) → session_of false sessions at peer ≡ or_session at peer (found at peer sessions)
session_found at peer sessions = go (position (is_between at peer) sessions) refl
  where
    go : (o : Option ℕ) → position (is_between at peer) sessions ≡ o → session_at sessions o (new_session false at peer) ≡ or_session at peer (found at peer sessions)
    go None e = sym (ap (or_session at peer) (none_first (is_between at peer) sessions e))
    go (Some p) e = sym (ap (or_session at peer) (found_first (is_between at peer) sessions p (new_session false at peer) e))

-- its hosts
pub record Hosts (at peer : ℕ) (session : Session) : Type 0 where
  pub host : session.at ≡ at
  pub other : session.peer ≡ peer

pub session_hosts : (at peer : ℕ) (sessions : List Session) → Hosts at peer (session_of false sessions at peer)
session_hosts at peer sessions = go (position (is_between at peer) sessions) refl
  where
    go : (o : Option ℕ) → position (is_between at peer) sessions ≡ o → Hosts at peer (session_at sessions o (new_session false at peer))
    go None e = record { host = refl; other = refl }
    go (Some p) e =
        let s : Session = get_or sessions p (new_session false at peer) in
        let parts = and_parts (s.at == at) (s.peer == peer) (position-Some (is_between at peer) sessions p (new_session false at peer) e).1 in
        record { host = eqb-true s.at at parts.0; other = eqb-true s.peer peer parts.1 }

-- ---- it stays between these

reset_hosts : (at peer : ℕ) (s : Session) (sent : Bool) → Hosts at peer s → Hosts at peer (session_after_reset s sent)
reset_hosts at peer s true k = record { host = k.host; other = k.other }
reset_hosts at peer s false k = record { host = k.host; other = k.other }

reply_hosts : (at peer : ℕ) (s : Session) (sent : Bool) → Hosts at peer s → Hosts at peer (session_after_reply s sent)
reply_hosts at peer s true k = record { host = k.host; other = k.other }
reply_hosts at peer s false k = record { host = k.host; other = k.other }

stray_hosts : (at peer : ℕ) (s : Session) (sent : Bool) (bits : ℕ) → Hosts at peer s → Hosts at peer (with_stray s sent bits)
stray_hosts at peer s true bits k = record { host = k.host; other = k.other }
stray_hosts at peer s false bits k = record { host = k.host; other = k.other }

item_hosts : (at peer : ℕ) (observation : Observation) (item : Result Command CommandFault) (s : Session) → Hosts at peer s → Hosts at peer (session_after observation item s)
item_hosts at peer observation (Result.Err fault) s k = k
item_hosts at peer observation (Ok Command.Rst) s k = reset_hosts at peer s observation.sent k
item_hosts at peer observation (Ok Command.Rrp) s k = reply_hosts at peer s observation.sent k
item_hosts at peer observation (Ok Command.Nop) s k = k
item_hosts at peer observation (Ok (Command.Rts x y z)) s k = k
item_hosts at peer observation (Ok (Command.Str x y z)) s k = k
item_hosts at peer observation (Ok (Command.Cls x y)) s k = k
item_hosts at peer observation (Ok (Command.All x y z)) s k = k
item_hosts at peer observation (Ok (Command.Gvb x y z)) s k = k
item_hosts at peer observation (Ok (Command.Ret x y z)) s k = k
item_hosts at peer observation (Ok (Command.Inr x)) s k = k
item_hosts at peer observation (Ok (Command.Ins x)) s k = k
item_hosts at peer observation (Ok (Command.Eco x)) s k = k
item_hosts at peer observation (Ok (Command.Erp x)) s k = k
item_hosts at peer observation (Ok (Command.Err x y)) s k = k

all_hosts : (at peer : ℕ) (observation : Observation) (items : List (Result Command CommandFault)) (s : Session) → Hosts at peer s → Hosts at peer (session_after_all observation items s)
all_hosts at peer observation [] s k = k
all_hosts at peer observation (item ∷ items) s k = all_hosts at peer observation items (session_after observation item s) (item_hosts at peer observation item s k)

pub read_hosts : (at peer : ℕ) (payload : MessageClass) (observation : Observation) (message : Message) (s : Session) (t : Tables) → Hosts at peer s → Hosts at peer (read_session payload observation message s t)
read_hosts at peer MessageClass.Stop observation message s t k = k
read_hosts at peer MessageClass.Text observation message s t k = go (is_text_opened observation message.leader.link s t)
  where
    go : (x : Bool) → Hosts at peer (if x then s else with_stray s observation.sent (length message.text))
    go true = k
    go false = stray_hosts at peer s observation.sent (length message.text) k
read_hosts at peer MessageClass.Control observation message s t k = all_hosts at peer observation (items_said message.text) s k

-- ---- it is put there

abbrev pub IsRoom : ℕ → ℕ → List Session → Type 0
IsRoom at peer sessions = is_some (found at peer sessions) ≡ false → nat_lt (length sessions) MAX_SESSIONS ≡ true

hosts_pass : (at peer : ℕ) (s : Session) → Hosts at peer s → is_between at peer s ≡ true
hosts_pass at peer s k = ap (λ (x : ℕ). x == at && s.peer == peer) k.host ∙ ap (λ (x : ℕ). at == at && x == peer) k.other ∙ rw (eq-eqb at at refl, eq-eqb peer peer refl) refl

same_test : (at peer : ℕ) (s : Session) (sessions : List Session) → Hosts at peer s → with_session sessions s ≡ put_session sessions (position (is_between at peer) sessions) s
same_test at peer s sessions k = ap (λ (x : ℕ). put_session sessions (position (is_between x s.peer) sessions) s) k.host ∙ ap (λ (x : ℕ). put_session sessions (position (is_between at x) sessions) s) k.other

pub put_found : (at peer : ℕ) (s : Session) (sessions : List Session) → Hosts at peer s → IsRoom at peer sessions → found at peer (with_session sessions s) ≡ Some s
put_found at peer s sessions k room = ap (found at peer) (same_test at peer s sessions k) ∙ go (position (is_between at peer) sessions) refl
  where
    go : (o : Option ℕ) → position (is_between at peer) sessions ≡ o → found at peer (put_session sessions o s) ≡ Some s
    go None e =
        let none : found at peer sessions ≡ None = none_first (is_between at peer) sessions e in
        ap (λ (x : Bool). found at peer (if x then sessions ++ s ∷ [] else sessions)) (room (ap (λ (o : Option Session). is_some o) none))
        ∙ first_after (is_between at peer) sessions s none ∙ ap (λ (x : Bool). if x then Some s else None) (hosts_pass at peer s k)
    go (Some p) e =
        ap (found at peer) (set_found (is_between at peer) s sessions p (new_session false at peer) e)
        ∙ first_set (is_between at peer) sessions s (get_or sessions p (new_session false at peer)) (hosts_pass at peer s k) (found_first (is_between at peer) sessions p (new_session false at peer) e)

pub put_other : (at peer me n : ℕ) (s : Session) (sessions : List Session) → Hosts at peer s → (at == me && peer == n) ≡ false → found me n (with_session sessions s) ≡ found me n sessions
put_other at peer me n s sessions k d = ap (found me n) (same_test at peer s sessions k) ∙ go (position (is_between at peer) sessions) refl
  where
    apart : (x : Session) → Hosts at peer x → is_between me n x ≡ false
    apart x h = ap (λ (y : ℕ). y == me && x.peer == n) h.host ∙ ap (λ (y : ℕ). at == me && y == n) h.other ∙ d

    passes : (x : Session) → is_between at peer x ≡ true → Hosts at peer x
    passes x e = let parts = and_parts (x.at == at) (x.peer == peer) e in record { host = eqb-true x.at at parts.0; other = eqb-true x.peer peer parts.1 }

    go : (o : Option ℕ) → position (is_between at peer) sessions ≡ o → found me n (put_session sessions o s) ≡ found me n sessions
    go None e = by (nat_lt (length sessions) MAX_SESSIONS)
      where
        by : (x : Bool) → found me n (if x then sessions ++ s ∷ [] else sessions) ≡ found me n sessions
        by true = other_following (is_between me n) sessions s (apart s k)
        by false = refl
    go (Some p) e =
        ap (found me n) (set_found (is_between at peer) s sessions p (new_session false at peer) e)
        ∙ other_set (is_between at peer) (is_between me n) sessions s (λ x f. apart x (passes x f)) (apart s k)

-- ---- how many there are

abbrev pub counted : Bool → ℕ
counted b = if b then 1 else 0

put_length : (at peer : ℕ) (s : Session) (sessions : List Session) → Hosts at peer s → length (with_session sessions s) ≤ length sessions + counted (not (is_some (found at peer sessions)))
put_length at peer s sessions k = subst (λ (xs : List Session). length xs ≤ length sessions + counted (not (is_some (found at peer sessions)))) (sym (same_test at peer s sessions k)) (go (position (is_between at peer) sessions) refl)
  where
    set_length : (xs : List Session) (i : ℕ) → length (slice_set xs i s) ≡ length xs
    set_length [] i = refl
    set_length (x ∷ xs) zero = refl
    set_length (x ∷ xs) (suc i) = ap suc (set_length xs i)

    after_length : (xs : List Session) → length (xs ++ s ∷ []) ≡ length xs + 1
    after_length [] = refl
    after_length (x ∷ xs) = let rest = after_length xs in omega arith

    go : (o : Option ℕ) → position (is_between at peer) sessions ≡ o → length (put_session sessions o s) ≤ length sessions + counted (not (is_some (found at peer sessions)))
    go None e =
        subst (λ (o : Option Session). length (put_session sessions None s) ≤ length sessions + counted (not (is_some o))) (sym (none_first (is_between at peer) sessions e)) (by (nat_lt (length sessions) MAX_SESSIONS))
      where
        by : (x : Bool) → length (if x then sessions ++ s ∷ [] else sessions) ≤ length sessions + 1
        by true = let same = after_length sessions in omega arith
        by false = omega arith
    go (Some p) e = let same = set_length sessions p in omega arith

-- of two hosts, at two interfaces
abbrev pub FewSessions : ℕ → ℕ → List Session → Type 0
FewSessions a b sessions = length sessions ≤ counted (is_some (found a b sessions)) + counted (is_some (found b a sessions))

pub few_room : (a b : ℕ) (sessions : List Session) → FewSessions a b sessions → nat_lt (length sessions) MAX_SESSIONS ≡ true
few_room a b sessions few = go (is_some (found a b sessions)) (is_some (found b a sessions)) few
  where
    below : length sessions ≤ 2 → nat_lt (length sessions) MAX_SESSIONS ≡ true
    below l = grind (arith, nat_tests)

    go : (x y : Bool) → length sessions ≤ counted x + counted y → nat_lt (length sessions) MAX_SESSIONS ≡ true
    go true true l = let m : length sessions ≤ 2 = l in below m
    go true false l = let m : length sessions ≤ 1 = l in below (omega arith)
    go false true l = let m : length sessions ≤ 1 = l in below (omega arith)
    go false false l = let m : length sessions ≤ 0 = l in below (omega arith)

pub few_put : (a b : ℕ) (s : Session) (sessions : List Session) → (a == b) ≡ false → Hosts a b s → FewSessions a b sessions → FewSessions a b (with_session sessions s)
few_put a b s sessions d k few =
    subst (λ (x : Bool). length (with_session sessions s) ≤ counted x + counted (is_some (found b a (with_session sessions s)))) (sym here)
    (subst (λ (x : Bool). length (with_session sessions s) ≤ counted true + counted x) (sym there) (go (is_some (found a b sessions)) few (put_length a b s sessions k)))
  where
    here : is_some (found a b (with_session sessions s)) ≡ true
    here = ap (λ (o : Option Session). is_some o) (put_found a b s sessions k (λ e. few_room a b sessions few))

    there : is_some (found b a (with_session sessions s)) ≡ is_some (found b a sessions)
    there = ap (λ (o : Option Session). is_some o) (put_other a b b a s sessions k (ap (λ (x : Bool). x && b == a) d))

    go : (x : Bool) → length sessions ≤ counted x + counted (is_some (found b a sessions)) → length (with_session sessions s) ≤ length sessions + counted (not x)
        → length (with_session sessions s) ≤ counted true + counted (is_some (found b a sessions))
    go true l m =
        let one : length sessions ≤ 1 + counted (is_some (found b a sessions)) = l in
        let two : length (with_session sessions s) ≤ length sessions + 0 = m in
        let three : length (with_session sessions s) ≤ 1 + counted (is_some (found b a sessions)) = omega arith in three
    go false l m =
        let one : length sessions ≤ 0 + counted (is_some (found b a sessions)) = l in
        let two : length (with_session sessions s) ≤ length sessions + 1 = m in
        let three : length (with_session sessions s) ≤ 1 + counted (is_some (found b a sessions)) = omega arith in three
