-- A connection whose link becomes suspended, with other numbers: for any resulting end, the counts are
-- still those of the host.
use Rattle.std.proofs.Common.{◌≡◌, ℕ, Bool, true, false, not, if◌then◌else◌, List, [], ◌++◌, Option, None, Some, refl, sym, ap, ◌∙◌, subst}
use Rattle.std.specs.FinMap.{get}
use Rattle.std.specs.List.{filter}
use Rattle.ncp_wire.specs.declared.command.Command.{Command}
use Rattle.ncp_model.specs.Pairs.{sends}
use Rattle.ncp_model.specs.Endpoint.{Endpoint}
use Rattle.ncp_model.specs.Ends.{Ends}
use Rattle.ncp_monitor.specs.declared.conn_state.ConnState.{ConnState}
use Rattle.ncp_monitor.specs.declared.conn_state.FactKind.{FactKind}
use Rattle.ncp_monitor.specs.ConnStates.{SeenTables, conn_at_index, is_marked}
use Rattle.ncp_interface.specs.Sockets.{is_senders}
use Rattle.ncp_monitor.proofs.Shapes.{Shape}
use Rattle.ncp_monitor.proofs.LinkOrder.{Sockets}
use Rattle.ncp_proof_monitor_allocation.proofs.KeptEnds.{kept}
use Rattle.ncp_proof_monitor_allocation.proofs.Changed.{pair_at, kept_of, OneEnd}
use Rattle.ncp_proof_monitor_allocation.proofs.SeenTables.{conn_seen, seen_of, is_suspended, suspended_of, receives_at}
use Rattle.ncp_proof_monitor_allocation.proofs.Users.{Linked}
use Rattle.ncp_proof_monitor_allocation.proofs.Proper.{ProperEnds}
use Rattle.ncp_proof_monitor_allocation.proofs.LinkPlaces.{UserAt, AllUnique}
use Rattle.ncp_proof_monitor_allocation.proofs.Plain.{Plain}
use Rattle.ncp_proof_monitor_allocation.proofs.TextErrors.{AllAdmitted}
use Rattle.ncp_proof_monitor_allocation.proofs.Words.{Word, Count, count_of, link_given, NoneCounted, Agreed, Fits, agreed_fits, agreed_wider, agreed_unknown}
use Rattle.ncp_proof_monitor_allocation.proofs.Counted.{is_worded, words_about, links_by, AgreedAt, Counted, PairsAgree, agreed_at, append_nil}
use Rattle.ncp_proof_monitor_allocation.proofs.LinksCome.{Wider, SameConn, SeenNow, counted_step, calm, shape_is}
use Rattle.ncp_proof_monitor_replies.proofs.TheirOpen.{same_seen}

module _ (me n : ℕ) (m : Ends) (w : List Command) (b : SeenTables) (proper : ProperEnds m) (unique : AllUnique me n b) (linked : Linked me n b) (pairs : PairsAgree me n m w b) (c : Counted me n m w b) (on : ℕ) (unmarked : is_marked me n (FactKind.LinkSuspended true on) b ≡ false) (u : Sockets) (user : UserAt me n true on b u) (unclosed : (conn_at_index b.conns user.place).peer_left ≡ false) (size : ℕ) (sized : (conn_at_index b.conns user.place).size ≡ Some size) (after : SeenTables) (conn : ConnState) (numbers : SameConn (conn_at_index b.conns user.place) conn) (seen_after : SeenNow me n b after u conn) (wider : Wider me n b after) (rests_on : is_marked me n (FactKind.LinkSuspended true on) after ≡ true) (plain : Plain me n after) (its_end : Endpoint) (there : get m (pair_at u) ≡ Some its_end) (sender : sends (pair_at u) ≡ false) (asked : its_end.asked ≡ true) (its_link : its_end.link ≡ on) where
  marked : links_by me n after (receives_at u) on ≡ true
  marked = ap (λ (h : Bool). links_by me n after h on) user.receives ∙ rests_on

  sex : is_senders u.0 ≡ false
  sex = unnot (is_senders u.0) user.receives
    where
      unnot : (z : Bool) → not z ≡ true → z ≡ false
      unnot true e = absurd (cc e)
      unnot false e = refl

  same_shape : seen_of me n after u ≡ seen_of me n b u
  same_shape = same_seen me n b after u (conn_at_index b.conns user.place) conn user.seen numbers seen_after u

  kept_given : (s : Option Shape) → s ≡ kept_of m u → link_given false s ≡ Some on
  kept_given s k =
      ap (link_given false) (k ∙ ap (kept (sends (pair_at u))) there ∙ ap (λ (f : Bool). kept f (Some its_end)) sender)
      ∙ ap (λ (h : Bool). if h then Some its_end.link else None) asked ∙ ap (λ (l : ℕ). Some l) its_link

  agreed_now : (end : Option Endpoint) → AgreedAt me n after end (words_about u c.words ++ []) u
  agreed_now end =
      subst (λ (ws : List Word). AgreedAt me n after end ws u) (sym (append_nil (words_about u c.words)))
      (subst (λ (z : Option Shape). Agreed (is_senders u.0) links (Fits (is_senders u.0) links end) (words_about u c.words) z (count_of (conn_seen me n after u))) (sym same_shape)
      (subst (λ (s : Bool). Agreed s links (Fits s links end) (words_about u c.words) (seen_of me n b u) (count_of (conn_seen me n after u))) (sym sex)
      (agreed_fits false links (λ s j. s ≡ kept_of m u) (Fits false links end) (words_about u c.words) (seen_of me n b u) (count_of (conn_seen me n after u)) (λ s j k. none s j k)
      (agreed_unknown false links (λ s j. s ≡ kept_of m u) on (words_about u c.words) (seen_of me n b u) (count_of (conn_seen me n b u)) (count_of (conn_seen me n after u)) marked given (λ s i j g k. k)
      (agreed_wider false (links_by me n b (receives_at u)) links (λ s j. (s ≡ kept_of m u) × (NoneCounted s j × Fits false (links_by me n b (receives_at u)) (get m (pair_at u)) s j)) (λ s j. s ≡ kept_of m u) (words_about u c.words) (seen_of me n b u)
      (count_of (conn_seen me n b u)) (wider.links (receives_at u)) (λ s j k. k.0)
      (subst (λ (f : Bool). Agreed f (links_by me n b (receives_at u)) (λ s j. (s ≡ kept_of m u) × (NoneCounted s j × Fits f (links_by me n b (receives_at u)) (get m (pair_at u)) s j)) (words_about u c.words) (seen_of me n b u) (count_of (conn_seen me n b u))) sex
      (agreed_at me n m w b u (calm me n m w b proper unique linked pairs c true on unmarked u user unclosed) pairs c)))))))
    where
      links : ℕ → Bool
      links = links_by me n after (receives_at u)

      given : link_given false (seen_of me n b u) ≡ Some on
      given = ap (link_given false) (shape_is me n m w b proper unique linked pairs c true on unmarked u user unclosed (Some size) sized)

      none : (s : Option Shape) (j : Count) → s ≡ kept_of m u → Fits false links end s j
      none s j k e f g = record {
        given = λ l h r. let same_link : on ≡ l = cc (sym (kept_given s k) ∙ h) in let nay : true ≡ false = sym marked ∙ ap links same_link ∙ r in absurd (cc nay);
        ungiven = λ h. absurd (cc (sym (kept_given s k) ∙ h));
      }

  awake : suspended_of me n after u ≡ true → ⊥
  awake r = cc (sym r ∙ ap is_suspended seen_after.here ∙ numbers.suspended ∙ sym (ap is_suspended user.seen) ∙ calm me n m w b proper unique linked pairs c true on unmarked u user unclosed)

  pub suspended_step : (now : Ends) (made : List Command) (end : Option Endpoint) → filter is_worded made ≡ [] → AllAdmitted me n made after → OneEnd m now (pair_at u) end → Counted me n now (w ++ made) after
  suspended_step now made end unworded admits one = counted_step me n m now w made b after u end [] one unworded seen_after.others wider c (λ r. agreed_now end) (λ r. absurd (awake r)) plain admits
