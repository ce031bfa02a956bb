-- A command that names a link, and a text, which the other says of an open connection: what the host does with it, and that both
-- sides count the same after it.
use Rattle.std.proofs.Common.{◌≡◌, ◌≤◌, ℕ, ◌+◌, ◌==◌, Bool, true, false, not, ◌&&◌, ◌||◌, if◌then◌else◌, List, [], ◌∷◌, ◌++◌, length, Option, None, Some, is_some, ◌⊎◌, inl, inr, eq-eqb, refl, sym, ap, ◌∙◌, subst, arith}
use Rattle.std.specs.Prelude.{◌-◌, min, nat_lt}
use Rattle.std.specs.Option.{option_to_list}
use Rattle.std.specs.FinMap.{get}
use Rattle.ncp_leader.specs.Message.{Message}
use Rattle.ncp_wire.specs.declared.command.Command.{Command}
use Rattle.ncp_wire.specs.declared.command.Command.TheVariants.{All, Gvb, Ret, Inr, Ins}
use Rattle.ncp_model.specs.declared.pair.Pair.{Pair}
use Rattle.ncp_model.specs.declared.outcomes.Heard.{Heard}
use Rattle.ncp_model.specs.declared.outcomes.Heard.TheVariants.{Nothing, Reply, Late}
use Rattle.ncp_model.specs.declared.outcomes.Took.{Took}
use Rattle.ncp_model.specs.declared.limits.TheConstants.{MAX_COUNT}
use Rattle.ncp_model.specs.Pairs.{sends, receives, is_receive, is_proper}
use Rattle.ncp_model.specs.Endpoint.{Endpoint, is_closing}
use Rattle.ncp_model.specs.Effect.{Effect, Stays, Becomes, answer, end_after, error_of, made_by_hearing, wrong_parameters, not_connected}
use Rattle.ncp_model.specs.Commands.{errs, at_open, all_at, gvb_at, ret_at, interrupted}
use Rattle.ncp_model.specs.Texts.{hear_text, made_by_text}
use Rattle.ncp_model.specs.Ends.{Ends, sender_on, receiver_on, pair_of, end_of, demux_command, hear, text_in, map_after, map_after_at}
use Rattle.ncp_model.proofs.EndsAfter.{after-at, after-elsewhere}
use Rattle.ncp_proof_endpoint.specs.Sound.{SoundAt}
use Rattle.ncp_proof_machine.proofs.EndsGood.{EndsInvariant}
use Rattle.ncp_monitor.specs.declared.finding.Rule.{Rule}
use Rattle.ncp_monitor.specs.declared.conn_state.ConnState.{ConnState}
use Rattle.ncp_interface.specs.Sockets.{is_senders}
use Rattle.ncp_monitor.specs.Allocation.{part_returned, kept_sum, limit_rule, granted_here}
use Rattle.ncp_monitor.specs.Texts.{open_text_rules, size_rule, uses_too_much}
use Rattle.ncp_monitor.proofs.Shapes.{Shape, Say, Leave, Agrees}
use Rattle.ncp_monitor.proofs.LinkOrder.{Sockets}
use Rattle.ncp_proof_monitor_allocation.proofs.KeptEnds.{of_end, kept, number_if}
use Rattle.ncp_proof_monitor_allocation.proofs.Changed.{pair_at, kept_of, OneEnd}
use Rattle.ncp_proof_monitor_allocation.proofs.Proper.{ProperEnds}
use Rattle.ncp_proof_monitor_allocation.proofs.Refusals.{receives_same}
use Rattle.ncp_proof_monitor_allocation.proofs.Words.{Word, Returns, Count, count_of, is_open_on, says_in, NoneCounted, Agreed, FitsEnd, Fits, agreed_more, agreed_kept}
use Rattle.ncp_proof_monitor_allocation.proofs.LinksHeard.{late, at_it, asked_opened, unopened, unasked_unopened, AllHeard, AllRefused, AllTaken, all_heard, gvb_heard, ret_taken, text_late, text_at_it, text_taken}
use Rattle.ncp_proof_monitor_allocation.proofs.LinksReach.{Standing, Stands, Leaves, open_stays, end_there, still_there, sender_led, receiver_led}
use Rattle.ncp_proof_monitor_allocation.proofs.LinkCounts.{Lasting, Takes, sender_counted, sender_agreed, sender_late, receiver_counted, receiver_agreed, receiver_late}

-- ---- a connection that the host asked for and the other has not closed: s: the host sends

abbrev pub open_shape : Bool → ℕ → Option ℕ → Bool → Shape
open_shape s on size left = record { own = if s then size else Some on; others = if s then Some on else size; left = left; cls = false }

-- its end
pub record Reaches (m : Ends) (u : Sockets) (s : Bool) (on : ℕ) (size : Option ℕ) (left : Bool) (q : List Say) : Type 0 where
  pub end : Endpoint
  pub there : get m (pair_at u) ≡ Some end
  pub sender : sends (pair_at u) ≡ s
  pub receiver : receives (pair_at u) ≡ not s
  pub asked : end.asked ≡ true
  pub heard : end.heard ≡ is_some (if s then Some on else size)
  pub its_link : end.link ≡ on
  pub others : (of_end s end).others ≡ (if s then Some on else size)
  pub unclosed : end.cls ≡ false
  pub quiet : is_closing end ≡ false → (q ≡ []) × (left ≡ false)
  pub waits : ((q ≡ []) × (end.left ≡ left)) ⊎ ((q ≡ Leave ∷ []) × ((left ≡ false) × (end.left ≡ true)))

is_there : (f : Bool) (q : List Say) (s : Shape) (o : Option Endpoint) → Standing q (kept f o) s → is_some o ≡ true
is_there f q s None (Stands w k) = absurd (cc k)
is_there f q s None (Leaves w l k) = absurd (cc k)
is_there f q s (Some e) k = refl

pub sexes : (pair : Pair) (s : Bool) → is_proper pair ≡ true → is_senders pair.local ≡ s → (sends pair ≡ s) × (receives pair ≡ not s)
sexes pair s p l =
    let a : is_receive pair.local ≡ not (is_senders pair.local) = receives_same pair.local in
    let b : is_receive pair.remote ≡ not (is_senders pair.remote) = receives_same pair.remote in
    let x : sends pair ≡ (is_senders pair.local && not (is_senders pair.remote)) = ap (λ (y : Bool). is_senders pair.local && y) b in
    let y : receives pair ≡ (not (is_senders pair.local) && is_senders pair.remote) = ap (λ (z : Bool). z && is_senders pair.remote) a in
    let both = go (is_senders pair.local) (is_senders pair.remote) s (sym (ap (λ (z : Bool). z || receives pair) x ∙ ap (λ (z : Bool). (is_senders pair.local && not (is_senders pair.remote)) || z) y) ∙ p) l in
    (x ∙ both.0, y ∙ both.1)
  where
    go : (x y s : Bool) → ((x && not y) || (not x && y)) ≡ true → x ≡ s → ((x && not y) ≡ s) × ((not x && y) ≡ not s)
    go true true s p e = absurd (cc p)
    go true false s p e = (e, ap not e)
    go false true s p e = (e, ap not e)
    go false false s p e = absurd (cc p)

pub reaches : (m : Ends) → ProperEnds m → (u : Sockets) (s : Bool) (on : ℕ) (size : Option ℕ) (k : ℕ) (left : Bool) (q : List Say) → is_senders u.0 ≡ s → (if s then size else Some on) ≡ Some k
    → Agrees q (kept_of m u) (Some (open_shape s on size left)) → Reaches m u s on size left q
reaches m proper u s on size k left q sex own a =
    let t = open_stays q (kept_of m u) (open_shape s on size left) k own refl a in
    let both = sexes (pair_at u) s (proper (pair_at u) (is_there (sends (pair_at u)) q (open_shape s on size left) (get m (pair_at u)) t)) sex in
    let at = end_there (get m (pair_at u)) s on k q (open_shape s on size left) (subst (λ (f : Bool). Agrees q (kept f (get m (pair_at u))) (Some (open_shape s on size left))) both.0 a) own refl (given s) in
    record {
      end = at.end;
      there = at.there;
      sender = both.0;
      receiver = both.1;
      asked = at.asked;
      heard = at.heard;
      its_link = its at.end s refl at.asked at.heard at.its_link;
      others = at.others;
      unclosed = at.unclosed;
      quiet = still_there (get m (pair_at u)) s on q (open_shape s on size left) at;
      waits = at.waits;
    }
  where
    given : (x : Bool) → (if x then (if x then Some on else size) else (if x then size else Some on)) ≡ Some on
    given true = refl
    given false = refl

    its : (e : Endpoint) (x : Bool) → x ≡ s → e.asked ≡ true → e.heard ≡ is_some (if s then Some on else size) → ((if s then e.heard else e.asked) ≡ true → e.link ≡ on) → e.link ≡ on
    its e true x a h f = f (ap (λ (y : Bool). if y then e.heard else e.asked) (sym x) ∙ h ∙ ap (λ (y : Bool). is_some (if y then Some on else size)) (sym x))
    its e false x a h f = f (ap (λ (y : Bool). if y then e.heard else e.asked) (sym x) ∙ a)

-- ---- it does nothing there: the end is on its way out, has not opened, or is not there

pub data Unheeded (m : Ends) (c : Command) : Type 0 where
  Unanswered : map_after_at m (demux_command c m) (hear c m) ≡ m → made_by_hearing (answer (hear c m)) ≡ [] → Unheeded m c
  Unconnected : map_after_at m (demux_command c m) (hear c m) ≡ m → made_by_hearing (answer (hear c m)) ≡ error_of not_connected c ∷ [] → Unheeded m c

pub same_ends : (m : Ends) (o : Option Pair) (a : Heard) → map_after_at m o (Stays a) ≡ m
same_ends m None a = refl
same_ends m (Some p) a = refl

pub unheeded : (m : Ends) (c : Command) (act : Endpoint → Effect Heard) (o : Option (Pair × Endpoint)) → hear c m ≡ at_open c act (end_of o)
    → ((p : Pair × Endpoint) → o ≡ Some p → (is_closing p.1 ≡ true) ⊎ ((is_closing p.1 ≡ false) × (p.1.opened ≡ false))) → Unheeded m c
unheeded m c act None h f = Unconnected (ap (map_after_at m (demux_command c m)) h ∙ same_ends m (demux_command c m) (Reply (error_of not_connected c))) (ap (λ (x : Effect Heard). made_by_hearing (answer x)) h)
unheeded m c act (Some p) h f = go (f p refl)
  where
    go : (is_closing p.1 ≡ true) ⊎ ((is_closing p.1 ≡ false) × (p.1.opened ≡ false)) → Unheeded m c
    go (inl g) =
        let k : hear c m ≡ Stays Late = h ∙ late c act p.1 g in
        Unanswered (ap (map_after_at m (demux_command c m)) k ∙ same_ends m (demux_command c m) Late) (ap (λ (x : Effect Heard). made_by_hearing (answer x)) k)
    go (inr g) =
        let k : hear c m ≡ errs not_connected c = h ∙ unopened c act p.1 g.0 g.1 in
        Unconnected (ap (map_after_at m (demux_command c m)) k ∙ same_ends m (demux_command c m) (Reply (error_of not_connected c))) (ap (λ (x : Effect Heard). made_by_hearing (answer x)) k)

-- ---- after the command, where the link leads

pub record After (m : Ends) (c : Command) (pair : Pair) (o : Option Endpoint) (cs : List Command) : Type 0 where
  pub one : OneEnd m (map_after_at m (demux_command c m) (hear c m)) pair o
  pub made : made_by_hearing (answer (hear c m)) ≡ cs

pub after_hearing : (m : Ends) (c : Command) (pair : Pair) (e : Endpoint) (act : Effect Heard) (o : Option Endpoint) (cs : List Command) → demux_command c m ≡ Some pair → get m pair ≡ Some e → hear c m ≡ act → end_after (Some e) act ≡ o
    → made_by_hearing (answer act) ≡ cs → After m c pair o cs
after_hearing m c pair e act o cs l g h a b = record { one = record { there = ap (λ (x : Ends). get x pair) now ∙ after-at m pair act ∙ ap (λ (x : Option Endpoint). end_after x act) g ∙ a; elsewhere = λ q d. ap (λ (x : Ends). get x q) now ∙ after-elsewhere m pair q act d }; made = ap (λ (x : Effect Heard). made_by_hearing (answer x)) h ∙ b }
  where
    now : map_after_at m (demux_command c m) (hear c m) ≡ map_after m pair act
    now = ap (λ (x : Option Pair). map_after_at m x (hear c m)) l ∙ ap (map_after m pair) h

-- an end that the other has not closed is not over
stays_there : {A : Type 0} (e now : Endpoint) (a : A) → now.cls ≡ false → end_after (Some e) (Becomes now a) ≡ Some now
stays_there e now a c = by now.left now.cls c
  where
    by : (x y : Bool) → y ≡ false → (if x && y then None else Some now) ≡ Some now
    by x true c = absurd (cc c)
    by true false c = refl
    by false false c = refl

pub record Counts (m : Ends) (c : Command) (u : Sockets) (s : Bool) (links : ℕ → Bool) (ws : List Word) (shape : Shape) (conn : ConnState) (cs : List Command) : Type 0 where
  pub end : Endpoint
  pub after : After m c (pair_at u) (Some end) cs
  pub agreed : Agreed s links (Fits s links (Some end)) ws (Some shape) (count_of (Some conn))

-- ---- the host sends

module _ (m : Ends) (good : EndsInvariant m) (u : Sockets) (on size : ℕ) (left : Bool) (links : ℕ → Bool) (ws : List Word) (conn : ConnState) (unrested : links on ≡ false) (at : Reaches m u true on (Some size) left (says_in ws)) (says : Agrees (says_in ws) (kept_of m u) (Some (open_shape true on (Some size) left))) (agreed : Agreed true links (Fits true links (get m (pair_at u))) ws (Some (open_shape true on (Some size) left)) (count_of (Some conn))) where
  abbrev s_shape : Shape
  s_shape = open_shape true on (Some size) left

  s_found : sender_on on m ≡ Some (pair_at u, at.end)
  s_found = sender_led m good on (pair_at u) at.end at.there at.sender at.heard at.its_link

  s_opened : is_closing at.end ≡ false → at.end.opened ≡ true
  s_opened g = asked_opened (pair_at u) at.end (subst (SoundAt (pair_at u)) at.there (good.sound (pair_at u))) at.asked at.heard g

  s_lasting : Lasting true on (Some s_shape)
  s_lasting = record { shape = s_shape; is = refl; own = refl; unclosed = refl; given = refl }

  s_agreed : Agreed true links (Fits true links (Some at.end)) ws (Some s_shape) (count_of (Some conn))
  s_agreed = subst (λ (o : Option Endpoint). Agreed true links (Fits true links o) ws (Some s_shape) (count_of (Some conn))) at.there agreed

  s_numbers : is_closing at.end ≡ false → (conn.messages ≡ at.end.messages) × (conn.bits ≡ at.end.bits)
  s_numbers g = sender_counted links on ws (Some s_shape) (count_of (Some conn)) (Some at.end) at.end s_lasting unrested refl g s_agreed

  -- late: it is only counted
  s_late : (c : Command) (act : Endpoint → Effect Heard) (then_conn : ConnState) → demux_command c m ≡ pair_of (sender_on on m) → hear c m ≡ at_open c act (end_of (sender_on on m)) → is_closing at.end ≡ true
      → Counts m c u true links ws s_shape then_conn []
  s_late c act then_conn l h g = record {
    end = at.end;
    after = after_hearing m c (pair_at u) at.end (Stays Late) (Some at.end) [] (l ∙ ap pair_of s_found) at.there (h ∙ ap (λ (o : Option (Pair × Endpoint)). at_open c act (end_of o)) s_found ∙ late c act at.end g) refl refl;
    agreed = sender_late links on ws (Some s_shape) (count_of (Some conn)) (count_of (Some then_conn)) at.end s_lasting g s_agreed;
  }

  -- open: by what it does there
  s_open : (c : Command) (act : Endpoint → Effect Heard) (did : Effect Heard) (now : Endpoint) (cs : List Command) → demux_command c m ≡ pair_of (sender_on on m) → hear c m ≡ at_open c act (end_of (sender_on on m)) → is_closing at.end ≡ false → act at.end ≡ did
      → end_after (Some at.end) did ≡ Some now → made_by_hearing (answer did) ≡ cs → After m c (pair_at u) (Some now) cs
  s_open c act did now cs l h g d e b =
      after_hearing m c (pair_at u) at.end did (Some now) cs (l ∙ ap pair_of s_found) at.there
      (h ∙ ap (λ (o : Option (Pair × Endpoint)). at_open c act (end_of o)) s_found ∙ at_it c act at.end g (s_opened g) ∙ d) e b

  pub all_open : (a b : ℕ) → Counts m (All on a b) u true links ws s_shape (granted_here a b conn) []
      ⊎ ((is_some (limit_rule (All on a b) (kept_sum conn.messages a) (kept_sum conn.bits b)) ≡ true) × Counts m (All on a b) u true links ws s_shape (granted_here a b conn) (error_of wrong_parameters (All on a b) ∷ []))
  all_open a b = go (is_closing at.end) refl
    where
      by : is_closing at.end ≡ false → AllHeard on a b at.end conn → Counts m (All on a b) u true links ws s_shape (granted_here a b conn) []
          ⊎ ((is_some (limit_rule (All on a b) (kept_sum conn.messages a) (kept_sum conn.bits b)) ≡ true) × Counts m (All on a b) u true links ws s_shape (granted_here a b conn) (error_of wrong_parameters (All on a b) ∷ []))
      by g (AllRefused act same broken) =
          inr (
            broken,
            record {
              end = at.end;
              after = s_open (All on a b) (all_at on a b) (errs wrong_parameters (All on a b)) at.end (error_of wrong_parameters (All on a b) ∷ []) refl refl g act refl refl;
              agreed = subst (λ (x : ConnState). Agreed true links (Fits true links (Some at.end)) ws (Some s_shape) (count_of (Some x))) (sym same) s_agreed;
            },
          )
      by g (AllTaken act more) =
          let now : Endpoint = record at.end { messages = at.end.messages + a; bits = at.end.bits + b } in
          inl (record {
            end = now;
            after = s_open (All on a b) (all_at on a b) (Becomes now Nothing) now [] refl refl g act (stays_there at.end now Nothing at.unclosed) refl;
            agreed = subst (λ (x : ConnState). Agreed true links (Fits true links (Some now)) ws (Some s_shape) (count_of (Some x))) (sym more)
                (sender_agreed links on ws (Some s_shape) (count_of (Some conn)) (count_of (Some (record conn { messages = conn.messages + a; bits = conn.bits + b }))) at.end now s_lasting unrested refl
                (λ e. ap (λ (x : ℕ). x + a) e) (λ e. ap (λ (x : ℕ). x + b) e) s_agreed);
          })

      go : (x : Bool) → is_closing at.end ≡ x → Counts m (All on a b) u true links ws s_shape (granted_here a b conn) []
          ⊎ ((is_some (limit_rule (All on a b) (kept_sum conn.messages a) (kept_sum conn.bits b)) ≡ true) × Counts m (All on a b) u true links ws s_shape (granted_here a b conn) (error_of wrong_parameters (All on a b) ∷ []))
      go true g = inl (s_late (All on a b) (all_at on a b) (granted_here a b conn) refl refl g)
      go false g = by g (all_heard on a b at.end conn (s_numbers g).0 (s_numbers g).1)

  -- where the end is not on its way out a RET is made, and it is right
  kept_open : is_closing at.end ≡ false → (x : Option Shape) → x ≡ kept_of m u → is_open_on true on x ≡ true
  kept_open g x k = ap (is_open_on true on) (k ∙ ap (λ (o : Option Endpoint). kept (sends (pair_at u)) o) at.there ∙ ap (λ (f : Bool). kept f (Some at.end)) at.sender) ∙ by at.end at.asked at.heard at.its_link (unleft at.end.leaving at.end.left g)
    where
      unleft : (x y : Bool) → (x || y) ≡ false → y ≡ false
      unleft true y e = absurd (cc e)
      unleft false y e = e

      by : (e : Endpoint) → e.asked ≡ true → e.heard ≡ true → e.link ≡ on → e.left ≡ false → is_open_on true on (Some (of_end true e)) ≡ true
      by e a h l f = rw (a, h, l, f, eq-eqb on on refl) refl

  pub gvb_open : (f h : ℕ) → ((is_closing at.end ≡ true) × Counts m (Gvb on f h) u true links ws s_shape (record conn { recall = true; messages = conn.messages - part_returned conn.messages f; bits = conn.bits - part_returned conn.bits h }) [])
      ⊎ ((is_closing at.end ≡ false) × Counts m (Gvb on f h) u true links (ws ++ Returns on (part_returned conn.messages f) (part_returned conn.bits h) ∷ []) s_shape
      (record conn { recall = true; messages = conn.messages - part_returned conn.messages f; bits = conn.bits - part_returned conn.bits h }) (Ret on (part_returned conn.messages f) (part_returned conn.bits h) ∷ []))
  gvb_open f h = go (is_closing at.end) refl
    where
      p : ℕ
      p = part_returned conn.messages f

      q : ℕ
      q = part_returned conn.bits h

      then_conn : ConnState
      then_conn = record conn { recall = true; messages = conn.messages - p; bits = conn.bits - q }

      more : is_closing at.end ≡ false → Agreed true links (Fits true links (Some at.end)) (ws ++ Returns on p q ∷ []) (Some s_shape) (count_of (Some conn))
      more g =
          agreed_more true links (λ x j. (x ≡ kept_of m u) × (NoneCounted x j × Fits true links (Some at.end) x j)) (Fits true links (Some at.end)) (Returns on p q ∷ []) ws (Some s_shape) (count_of (Some conn))
          (λ x j k. (kept_open g x k.0, (or_true (links on), λ e s d. fit x j k.1.1 e s d)))
          (agreed_kept true links (Fits true links (Some at.end)) ws (kept_of m u) (Some s_shape) (count_of (Some conn)) says (λ n. absurd (cc n)) s_agreed)
        where
          or_true : (x : Bool) → (x || true) ≡ true
          or_true true = refl
          or_true false = refl

          fit : (x : Option Shape) (j : Count) → Fits true links (Some at.end) x j → (e : Endpoint) → Some at.end ≡ Some e → is_closing e ≡ false → FitsEnd true links e x (record j { recall = false })
          fit x j k e s d = record {
            given = λ l y z. let it = (k e s d).given l y z in record { messages = it.messages; bits = it.bits; recall = λ n. absurd (cc n) };
            ungiven = λ y. let it = (k e s d).ungiven y in record { messages = it.messages; bits = it.bits; none = ap (λ (v : Count). record v { recall = false }) it.none };
          }

      go : (x : Bool) → is_closing at.end ≡ x → ((is_closing at.end ≡ true) × Counts m (Gvb on f h) u true links ws s_shape then_conn [])
          ⊎ ((is_closing at.end ≡ false) × Counts m (Gvb on f h) u true links (ws ++ Returns on p q ∷ []) s_shape then_conn (Ret on p q ∷ []))
      go true g = inl (g, s_late (Gvb on f h) (gvb_at on f h) then_conn refl refl g)
      go false g =
          let n = s_numbers g in
          let now : Endpoint = record at.end { messages = conn.messages - p; bits = conn.bits - q } in
          inr (
            g,
            record {
              end = now;
              after = s_open (Gvb on f h) (gvb_at on f h) (Becomes now (Reply (Ret on p q))) now (Ret on p q ∷ []) refl refl g (gvb_heard on f h at.end conn n.0 n.1) (stays_there at.end now (Reply (Ret on p q)) at.unclosed) refl;
              agreed = sender_agreed links on (ws ++ Returns on p q ∷ []) (Some s_shape) (count_of (Some conn)) (count_of (Some then_conn)) at.end now s_lasting unrested refl (λ e. refl) (λ e. refl) (more g);
            },
          )

  pub inr_open : Counts m (Inr on) u true links ws s_shape conn []
  inr_open = go (is_closing at.end) refl
    where
      now : Endpoint
      now = record at.end { interrupts = min (at.end.interrupts + 1) MAX_COUNT }

      go : (x : Bool) → is_closing at.end ≡ x → Counts m (Inr on) u true links ws s_shape conn []
      go true g = s_late (Inr on) interrupted conn refl refl g
      go false g = record {
        end = now;
        after = s_open (Inr on) interrupted (Becomes now Nothing) now [] refl refl g refl (stays_there at.end now Nothing at.unclosed) refl;
        agreed = sender_agreed links on ws (Some s_shape) (count_of (Some conn)) (count_of (Some conn)) at.end now s_lasting unrested refl (λ e. e) (λ e. e) s_agreed;
      }

-- ---- the host receives

abbrev pub with_less : ℕ → ℕ → Bool → ConnState → ConnState
with_less a b recall conn = record conn { recall = recall; messages = conn.messages - a; bits = conn.bits - b }

put_back : (x a : ℕ) → a ≤ x → x ≡ (x - a) + a
put_back x a l = grind arith

-- what is after a text
pub record AfterText (m : Ends) (on : ℕ) (head : List Bool) (message : Message) (pair : Pair) (o : Option Endpoint) (cs : List Command) : Type 0 where
  pub one : OneEnd m (map_after_at m (pair_of (receiver_on on m)) (text_in on message.size message.text m)) pair o
  pub made : made_by_text head message.text (answer (text_in on message.size message.text m)) ≡ cs

pub after_text : (m : Ends) (on : ℕ) (head : List Bool) (message : Message) (pair : Pair) (e : Endpoint) (act : Effect Took) (o : Option Endpoint) (cs : List Command) → receiver_on on m ≡ Some (pair, e) → get m pair ≡ Some e
    → hear_text message.size message.text (Some e) ≡ act → end_after (Some e) act ≡ o → made_by_text head message.text (answer act) ≡ cs → AfterText m on head message pair o cs
after_text m on head message pair e act o cs f g h a b = record {
  one = record {
    there = ap (λ (x : Ends). get x pair) now ∙ after-at m pair act ∙ ap (λ (x : Option Endpoint). end_after x act) g ∙ a;
    elsewhere = λ q d. ap (λ (x : Ends). get x q) now ∙ after-elsewhere m pair q act d;
  };
  made = ap (λ (x : Effect Took). made_by_text head message.text (answer x)) is ∙ b;
}
  where
    is : text_in on message.size message.text m ≡ act
    is = ap (λ (x : Option (Pair × Endpoint)). hear_text message.size message.text (end_of x)) f ∙ h

    now : map_after_at m (pair_of (receiver_on on m)) (text_in on message.size message.text m) ≡ map_after m pair act
    now = ap (λ (x : Option (Pair × Endpoint)). map_after_at m (pair_of x) (text_in on message.size message.text m)) f ∙ ap (map_after m pair) is

pub record TextCounts (m : Ends) (on : ℕ) (head : List Bool) (message : Message) (u : Sockets) (links : ℕ → Bool) (ws : List Word) (shape : Shape) (conn : ConnState) : Type 0 where
  pub end : Endpoint
  pub after : AfterText m on head message (pair_at u) (Some end) []
  pub agreed : Agreed false links (Fits false links (Some end)) ws (Some shape) (count_of (Some conn))

number_of_heard : (x : Bool) (n k : ℕ) → number_if x n ≡ Some k → n ≡ k
number_of_heard true n k e = cc e
number_of_heard false n k e = absurd (cc e)

-- a text that breaks no rule is within what is seen
within_text : (on : ℕ) (message : Message) (conn : ConnState) → open_text_rules on message conn ≡ [] → (1 ≤ conn.messages) × (length message.text ≤ conn.bits)
within_text on message conn none = (first conn.messages conn.bits (length message.text) fits, second conn.messages conn.bits (length message.text) fits)
  where
    first : (x y t : ℕ) → (x == 0 || nat_lt y t) ≡ false → 1 ≤ x
    first x y t k = grind arith

    second : (x y t : ℕ) → (x == 0 || nat_lt y t) ≡ false → t ≤ y
    second x y t k = grind arith

    go : (r : List Rule) (x : Bool) → r ++ option_to_list (if x then Some (Rule.TextOver on conn.messages (length message.text) conn.bits) else None) ≡ [] → x ≡ false
    go [] true n = absurd (cc n)
    go (z ∷ r) true n = absurd (cc n)
    go r false n = refl

    fits : uses_too_much (length message.text) conn ≡ false
    fits = go (option_to_list (size_rule on message.size conn.size)) (uses_too_much (length message.text) conn) none

module _ (m : Ends) (good : EndsInvariant m) (u : Sockets) (on size : ℕ) (left : Bool) (links : ℕ → Bool) (ws : List Word) (conn : ConnState) (unrested : links on ≡ false) (at : Reaches m u false on (Some size) left (says_in ws)) (agreed : Agreed false links (Fits false links (get m (pair_at u))) ws (Some (open_shape false on (Some size) left)) (count_of (Some conn))) where
  abbrev r_shape : Shape
  r_shape = open_shape false on (Some size) left

  r_found : receiver_on on m ≡ Some (pair_at u, at.end)
  r_found = receiver_led m good on (pair_at u) at.end at.there at.receiver at.asked at.its_link

  r_opened : is_closing at.end ≡ false → at.end.opened ≡ true
  r_opened g = asked_opened (pair_at u) at.end (subst (SoundAt (pair_at u)) at.there (good.sound (pair_at u))) at.asked at.heard g

  r_lasting : Lasting false on (Some r_shape)
  r_lasting = record { shape = r_shape; is = refl; own = refl; unclosed = refl; given = refl }

  r_agreed : Agreed false links (Fits false links (Some at.end)) ws (Some r_shape) (count_of (Some conn))
  r_agreed = subst (λ (o : Option Endpoint). Agreed false links (Fits false links o) ws (Some r_shape) (count_of (Some conn))) at.there agreed

  r_numbers : is_closing at.end ≡ false → (conn.messages ≤ at.end.messages) × (conn.bits ≤ at.end.bits)
  r_numbers g = receiver_counted links on ws (Some r_shape) (count_of (Some conn)) (Some at.end) at.end r_lasting unrested refl g r_agreed

  r_late : (c : Command) (act : Endpoint → Effect Heard) (a b : ℕ) (returns : Bool) (then_conn : ConnState) → Takes a b returns (count_of (Some conn)) (count_of (Some then_conn)) → demux_command c m ≡ pair_of (receiver_on on m)
      → hear c m ≡ at_open c act (end_of (receiver_on on m)) → is_closing at.end ≡ true → Counts m c u false links ws r_shape then_conn []
  r_late c act a b returns then_conn t l h g = record {
    end = at.end;
    after = after_hearing m c (pair_at u) at.end (Stays Late) (Some at.end) [] (l ∙ ap pair_of r_found) at.there (h ∙ ap (λ (o : Option (Pair × Endpoint)). at_open c act (end_of o)) r_found ∙ late c act at.end g) refl refl;
    agreed = receiver_late links on a b returns ws (Some r_shape) (count_of (Some conn)) (count_of (Some then_conn)) at.end r_lasting unrested t g r_agreed;
  }

  r_open : (c : Command) (act : Endpoint → Effect Heard) (did : Effect Heard) (now : Endpoint) (cs : List Command) → demux_command c m ≡ pair_of (receiver_on on m) → hear c m ≡ at_open c act (end_of (receiver_on on m)) → is_closing at.end ≡ false
      → act at.end ≡ did → end_after (Some at.end) did ≡ Some now → made_by_hearing (answer did) ≡ cs → After m c (pair_at u) (Some now) cs
  r_open c act did now cs l h g d e b =
      after_hearing m c (pair_at u) at.end did (Some now) cs (l ∙ ap pair_of r_found) at.there
      (h ∙ ap (λ (o : Option (Pair × Endpoint)). at_open c act (end_of o)) r_found ∙ at_it c act at.end g (r_opened g) ∙ d) e b

  within : (a x y : ℕ) → a ≤ x → x ≤ y → a ≤ y
  within a x y k l = grind arith

  -- a pending RET that gives back no more than the observed counts
  pub ret_open : (a b : ℕ) → a ≤ conn.messages → b ≤ conn.bits → conn.recall ≡ true → Counts m (Ret on a b) u false links ws r_shape (with_less a b false conn) []
  ret_open a b x y r = go (is_closing at.end) refl
    where
      takes : Takes a b true (count_of (Some conn)) (count_of (Some (with_less a b false conn)))
      takes = record { messages = put_back conn.messages a x; bits = put_back conn.bits b y; recall = (r, refl) }

      go : (z : Bool) → is_closing at.end ≡ z → Counts m (Ret on a b) u false links ws r_shape (with_less a b false conn) []
      go true g = r_late (Ret on a b) (ret_at on a b) a b true (with_less a b false conn) takes refl refl g
      go false g =
          let n = r_numbers g in
          let p = within a conn.messages at.end.messages x n.0 in
          let q = within b conn.bits at.end.bits y n.1 in
          let now : Endpoint = record at.end { messages = at.end.messages - a; bits = at.end.bits - b; recall = false } in
          record {
            end = now;
            after = r_open (Ret on a b) (ret_at on a b) (Becomes now Nothing) now [] refl refl g (ret_taken on a b at.end p q) (stays_there at.end now Nothing at.unclosed) refl;
            agreed = receiver_agreed links on a b true ws (Some r_shape) (count_of (Some conn)) (count_of (Some (with_less a b false conn))) at.end now r_lasting unrested takes refl
                (put_back at.end.messages a p) (put_back at.end.bits b q) (λ e. absurd (cc e)) r_agreed;
          }

  none_off : (x : ℕ) → x ≡ x + 0
  none_off x = grind arith

  pub ins_open : Counts m (Ins on) u false links ws r_shape conn []
  ins_open = go (is_closing at.end) refl
    where
      takes : Takes 0 0 false (count_of (Some conn)) (count_of (Some conn))
      takes = record { messages = none_off conn.messages; bits = none_off conn.bits; recall = refl }

      now : Endpoint
      now = record at.end { interrupts = min (at.end.interrupts + 1) MAX_COUNT }

      go : (x : Bool) → is_closing at.end ≡ x → Counts m (Ins on) u false links ws r_shape conn []
      go true g = r_late (Ins on) interrupted 0 0 false conn takes refl refl g
      go false g = record {
        end = now;
        after = r_open (Ins on) interrupted (Becomes now Nothing) now [] refl refl g refl (stays_there at.end now Nothing at.unclosed) refl;
        agreed = receiver_agreed links on 0 0 false ws (Some r_shape) (count_of (Some conn)) (count_of (Some conn)) at.end now r_lasting unrested takes refl
            (none_off at.end.messages) (none_off at.end.bits) (λ e. refl) r_agreed;
      }

  -- a text that breaks no rule
  pub text_open : (head : List Bool) (message : Message) → conn.size ≡ Some size → open_text_rules on message conn ≡ []
      → TextCounts m on head message u links ws r_shape (with_less 1 (length message.text) conn.recall conn)
  text_open head message sized none = go (is_closing at.end) refl
    where
      t : ℕ
      t = length message.text

      enough : (1 ≤ conn.messages) × (t ≤ conn.bits)
      enough = within_text on message conn none

      its_size : at.end.size ≡ size
      its_size = (number_of_heard at.end.heard at.end.size size at.others)

      takes : Takes 1 t false (count_of (Some conn)) (count_of (Some (with_less 1 t conn.recall conn)))
      takes = record { messages = put_back conn.messages 1 enough.0; bits = put_back conn.bits t enough.1; recall = refl }

      go : (x : Bool) → is_closing at.end ≡ x → TextCounts m on head message u links ws r_shape (with_less 1 t conn.recall conn)
      go true g = record {
        end = at.end;
        after = after_text m on head message (pair_at u) at.end (Stays Took.Late) (Some at.end) [] r_found at.there (text_late message.size message.text at.end g) refl refl;
        agreed = receiver_late links on 1 t false ws (Some r_shape) (count_of (Some conn)) (count_of (Some (with_less 1 t conn.recall conn))) at.end r_lasting unrested takes g r_agreed;
      }
      go false g =
          let n = r_numbers g in
          let now : Endpoint = record at.end { messages = at.end.messages - 1; bits = at.end.bits - t; stored = at.end.stored ++ message.text } in
          record {
            end = now;
            after = after_text m on head message (pair_at u) at.end (Becomes now Took.Admitted) (Some now) [] r_found at.there
                (text_at_it message.size message.text at.end g (r_opened g) ∙ text_taken on message conn at.end none (sized ∙ ap (λ (x : ℕ). Some x) (sym its_size)) n.0 n.1) (stays_there at.end now Took.Admitted at.unclosed) refl;
            agreed = receiver_agreed links on 1 t false ws (Some r_shape) (count_of (Some conn)) (count_of (Some (with_less 1 t conn.recall conn))) at.end now r_lasting unrested takes refl
                (put_back at.end.messages 1 (within 1 conn.messages at.end.messages enough.0 n.0)) (put_back at.end.bits t (within t conn.bits at.end.bits enough.1 n.1)) (λ e. refl) r_agreed;
          }

-- ---- the host receives, and the other's STR was not seen: its end has not opened

module _ (m : Ends) (good : EndsInvariant m) (u : Sockets) (on : ℕ) (left : Bool) (q : List Say) (at : Reaches m u false on None left q) where
  u_found : receiver_on on m ≡ Some (pair_at u, at.end)
  u_found = receiver_led m good on (pair_at u) at.end at.there at.receiver at.asked at.its_link

  u_unopened : at.end.opened ≡ false
  u_unopened = unasked_unopened (pair_at u) at.end (subst (SoundAt (pair_at u)) at.there (good.sound (pair_at u))) (rw (at.asked, at.heard) refl)

  out_or_not : (is_closing at.end ≡ true) ⊎ ((is_closing at.end ≡ false) × (at.end.opened ≡ false))
  out_or_not = go (is_closing at.end) refl
    where
      go : (x : Bool) → is_closing at.end ≡ x → (is_closing at.end ≡ true) ⊎ ((is_closing at.end ≡ false) × (at.end.opened ≡ false))
      go true g = inl g
      go false g = inr (g, u_unopened)

  found_out : (p : Pair × Endpoint) → receiver_on on m ≡ Some p → (is_closing p.1 ≡ true) ⊎ ((is_closing p.1 ≡ false) × (p.1.opened ≡ false))
  found_out p f =
      let is : (pair_at u, at.end) ≡ p = cc (sym u_found ∙ f) in
      subst (λ (x : Pair × Endpoint). (is_closing x.1 ≡ true) ⊎ ((is_closing x.1 ≡ false) × (x.1.opened ≡ false))) is out_or_not

  pub ret_unasked : (a b : ℕ) → Unheeded m (Ret on a b)
  ret_unasked a b = unheeded m (Ret on a b) (ret_at on a b) (receiver_on on m) refl found_out

  pub ins_unasked : Unheeded m (Ins on)
  ins_unasked = unheeded m (Ins on) interrupted (receiver_on on m) refl found_out
