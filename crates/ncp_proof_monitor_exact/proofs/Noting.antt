-- What is noted of two hosts, record by record.
use Rattle.std.proofs.Common.{◌≡◌, ◌⊎◌, inl, inr, ℕ, ◌<◌, ◌==◌, Bool, true, false, not, ◌&&◌, ◌||◌, if◌then◌else◌, List, [], ◌∷◌, length, get_or, slice_set, length-set, get_or-set_same, get_or-set_other, refl, sym, ap, ◌∙◌, arith}
use Rattle.std.specs.List.{list_any}
use Rattle.std.proofs.lemmas.Bool.Decides.{eqb_tells}
use Rattle.std.proofs.lemmas.List.{length-replicate, get_or-replicate}
use Rattle.ncp_monitor.specs.declared.coverage.PairCoverage.{PairCoverage}
use Rattle.ncp_interface.specs.declared.event.InterfaceEvent.{InterfaceEvent}
use Rattle.ncp_interface.specs.declared.event.InterfaceEvent.TheVariants as event
use Rattle.ncp_monitor.specs.declared.monitor.Monitor.{Monitor}
use Rattle.ncp_monitor.specs.declared.views.TheConstants.{HOSTS, VIEWS}
use Rattle.ncp_monitor.specs.Tables.{index_of}
use Rattle.ncp_monitor.specs.Judged.{new_monitor, has_seen}
use Rattle.ncp_monitor.specs.Coverage.{CaptureRecord, event_in, monitor_past, is_about, depends_on, is_session_suspended, has_suspended, nothing_passed, new_coverage, pair_in, pair_noted, with_pair_noted, after_noted, coverage_of, passes, is_late, holds_once, pair_by_records}
use Rattle.ncp_proof_monitor_exact.specs.Covered.{AtHosts, NotedByRecords}
use Rattle.ncp_proof_monitor_exact.proofs.Peers.{HasPeer, peer_fits}
use Rattle.ncp_proof_monitor_exact.proofs.Seen.{judged_seen}

-- ---- truth values

same_pair : (a b c d a' b' c' d' : Bool) → a ≡ a' → b ≡ b' → c ≡ c' → d ≡ d'
    → ◌≡◌ {A = PairCoverage} (record { passed = a; late = b; suspended = c; connection = d }) (record { passed = a'; late = b'; suspended = c'; connection = d' })
same_pair a b c d a' b' c' d' e f g h = rw (e, f, g, h) refl

or_none : (a : Bool) → a ≡ (a || false)
or_none true = refl
or_none false = refl

or_so : (a x : Bool) → true ≡ (a || true)
or_so true x = refl
or_so false x = refl

or_three : (a b c : Bool) → ((a || b) || c) ≡ (a || (b || c))
or_three true b c = refl
or_three false b c = refl

none_late : (late so seen : Bool) → (late || (not seen && false)) ≡ late
none_late true so seen = refl
none_late false so true = refl
none_late false so false = refl

-- a record at the peer's interface
late_there : (late d l before : Bool) → ((late || (d && false)) || false) ≡ (late || (not before && false))
late_there true d l before = refl
late_there false true l true = refl
late_there false true l false = refl
late_there false false l true = refl
late_there false false l false = refl

late_here : (late d l seen : Bool) → ((late || (d && not seen)) || (not seen && l)) ≡ (late || (not seen && (d || l)))
late_here true d l seen = refl
late_here false true l true = refl
late_here false true l false = refl
late_here false false l true = refl
late_here false false l false = refl

late_then : (late d l now before there : Bool) → (there ≡ true → now ≡ true) → (there ≡ false → now ≡ before) → ((late || (d && not now)) || (not now && l)) ≡ (late || (not before && (if there then false else d || l)))
late_then late d l now before true e f = rw (e refl) (late_there late d l before)
late_then late d l now before false e f = rw (f refl) (late_here late d l before)

late_else : (late l now before there : Bool) → (there ≡ true → now ≡ true) → (there ≡ false → now ≡ before) → (late || (not now && l)) ≡ (late || (not before && (if there then false else l)))
late_else true l now before there e f = refl
late_else false l now before true e f = rw (e refl) (by before)
  where
    by : (b : Bool) → false ≡ (not b && false)
    by true = refl
    by false = refl
late_else false l now before false e f = rw (f refl) refl

-- ---- the pair of a record

depends_about : (peer : ℕ) (e : InterfaceEvent) (ours : Bool) → (ours && is_about peer e) ≡ false → (ours && depends_on peer e) ≡ false
depends_about peer event.Short ours h = h
depends_about peer event.Nothing ours h = h
depends_about peer (event.Own kind link) ours h = h
depends_about peer (event.Other kind) ours h = h
depends_about peer (event.Out other link) ours h = none ours
  where
    none : (b : Bool) → (b && false) ≡ false
    none true = refl
    none false = refl
depends_about peer (event.In other link) ours h = h
depends_about peer (event.Answer kind other link) ours h = by ours (other == peer) (kind == 5) h
  where
    by : (a b c : Bool) → (a && b) ≡ false → (a && (b && c)) ≡ false
    by true true c e = absurd (cc e)
    by true false c e = refl
    by false b c e = refl

module _ (at peer : ℕ) (after : Monitor) (pairs : List PairCoverage) where
  -- as it was, or with a message more
  abbrev noted_if : Bool → Bool → PairCoverage
  noted_if so depends = if so then pair_noted after at peer depends (pair_in pairs at peer) else pair_in pairs at peer

  set_place : (host other : ℕ) (depends : Bool) → length pairs ≡ VIEWS → host < 256 → other < 256 → peer < 256 → pair_in (with_pair_noted after host other depends pairs) at peer ≡ noted_if (host == at && other == peer) depends
  set_place host other depends l a b c = go (eqb_tells host at) (eqb_tells other peer)
    where
      inside : index_of host other < length pairs
      inside = let long : length pairs ≡ 65536 = l in omega (arith, long, a, b)

      now : PairCoverage
      now = pair_noted after host other depends (pair_in pairs host other)

      elsewhere : (index_of at peer ≡ index_of host other → ⊥) → pair_in (with_pair_noted after host other depends pairs) at peer ≡ pair_in pairs at peer
      elsewhere d = get_or-set_other pairs (index_of host other) (index_of at peer) now nothing_passed d

      go : (((host == at) ≡ true) × (host ≡ at)) ⊎ (((host == at) ≡ false) × (host ≡ at → ⊥)) → (((other == peer) ≡ true) × (other ≡ peer)) ⊎ (((other == peer) ≡ false) × (other ≡ peer → ⊥))
          → pair_in (with_pair_noted after host other depends pairs) at peer ≡ noted_if (host == at && other == peer) depends
      go (inl one) (inl two) =
          ap (λ (n : ℕ). pair_in (with_pair_noted after host other depends pairs) n peer) (sym one.1) ∙ ap (λ (n : ℕ). pair_in (with_pair_noted after host other depends pairs) host n) (sym two.1)
          ∙ get_or-set_same pairs (index_of host other) now nothing_passed inside ∙ ap (λ (n : ℕ). pair_noted after n other depends (pair_in pairs n other)) one.1
          ∙ ap (λ (n : ℕ). pair_noted after at n depends (pair_in pairs at n)) two.1 ∙ ap (λ (b : Bool). noted_if b depends) (sym (ap (λ (b : Bool). b && other == peer) one.0 ∙ two.0))
      go (inl one) (inr two) =
          elsewhere (λ e. two.1 (omega (arith, e, one.1, b, c))) ∙ ap (λ (b : Bool). noted_if b depends) (sym (ap (λ (b : Bool). b && other == peer) one.0 ∙ two.0))
      go (inr one) two = elsewhere (λ e. one.1 (omega (arith, e, b, c))) ∙ ap (λ (b : Bool). noted_if b depends) (sym (ap (λ (b : Bool). b && other == peer) one.0))

  place : (host : ℕ) (e : InterfaceEvent) → length pairs ≡ VIEWS → host < 256 → peer < 256 → HasPeer e → pair_in (after_noted after host e pairs) at peer ≡ noted_if (host == at && is_about peer e) (depends_on peer e)
  place host event.Short l a c k = none (host == at)
    where
      none : (b : Bool) → pair_in pairs at peer ≡ noted_if (b && false) false
      none true = refl
      none false = refl
  place host event.Nothing l a c k = none (host == at)
    where
      none : (b : Bool) → pair_in pairs at peer ≡ noted_if (b && false) false
      none true = refl
      none false = refl
  place host (event.Own kind link) l a c k = none (host == at)
    where
      none : (b : Bool) → pair_in pairs at peer ≡ noted_if (b && false) false
      none true = refl
      none false = refl
  place host (event.Other kind) l a c k = none (host == at)
    where
      none : (b : Bool) → pair_in pairs at peer ≡ noted_if (b && false) false
      none true = refl
      none false = refl
  place host (event.Out other link) l a c k = set_place host other false l a k c
  place host (event.In other link) l a c k = set_place host other true l a k c ∙ by (host == at) (other == peer)
    where
      by : (a b : Bool) → noted_if (a && b) true ≡ noted_if (a && b) b
      by true true = refl
      by true false = refl
      by false b = refl
  place host (event.Answer kind other link) l a c k = set_place host other (kind == 5) l a k c ∙ by (host == at) (other == peer)
    where
      by : (a b : Bool) → noted_if (a && b) (kind == 5) ≡ noted_if (a && b) (b && kind == 5)
      by true true = refl
      by true false = refl
      by false b = refl

noted_long : (after : Monitor) (host : ℕ) (e : InterfaceEvent) (pairs : List PairCoverage) → length (after_noted after host e pairs) ≡ length pairs
noted_long after host event.Short pairs = refl
noted_long after host event.Nothing pairs = refl
noted_long after host (event.Own kind link) pairs = refl
noted_long after host (event.Other kind) pairs = refl
noted_long after host (event.Out other link) pairs = length-set pairs (index_of host other) (pair_noted after host other false (pair_in pairs host other))
noted_long after host (event.In other link) pairs = length-set pairs (index_of host other) (pair_noted after host other true (pair_in pairs host other))
noted_long after host (event.Answer kind other link) pairs = length-set pairs (index_of host other) (pair_noted after host other (kind == 5) (pair_in pairs host other))

-- ---- the hosts that were seen

module _ (u : Monitor) (one : CaptureRecord) where
  seen_there : (peer : ℕ) → length u.seen ≡ HOSTS → one.0 < 256 → (one.0 == peer) ≡ true → has_seen (monitor_past u one) peer ≡ true
  seen_there peer l a e = go (eqb_tells one.0 peer)
    where
      inside : one.0 < length u.seen
      inside = let long : length u.seen ≡ 256 = l in omega (arith, long, a)

      go : (((one.0 == peer) ≡ true) × (one.0 ≡ peer)) ⊎ (((one.0 == peer) ≡ false) × (one.0 ≡ peer → ⊥)) → has_seen (monitor_past u one) peer ≡ true
      go (inl same) = ap (λ (seen : List Bool). get_or seen peer false) (judged_seen u one.1 one.0 one.2) ∙ ap (λ (n : ℕ). get_or (slice_set u.seen one.0 true) n false) (sym same.1) ∙ get_or-set_same u.seen one.0 true false inside
      go (inr other) = let f : false ≡ true = sym other.0 ∙ e in absurd (cc f)

  seen_elsewhere : (peer : ℕ) → (one.0 == peer) ≡ false → has_seen (monitor_past u one) peer ≡ has_seen u peer
  seen_elsewhere peer e = go (eqb_tells one.0 peer)
    where
      go : (((one.0 == peer) ≡ true) × (one.0 ≡ peer)) ⊎ (((one.0 == peer) ≡ false) × (one.0 ≡ peer → ⊥)) → has_seen (monitor_past u one) peer ≡ has_seen u peer
      go (inl same) = let f : true ≡ false = sym same.0 ∙ e in absurd (cc f)
      go (inr other) = ap (λ (seen : List Bool). get_or seen peer false) (judged_seen u one.1 one.0 one.2) ∙ get_or-set_other u.seen one.0 peer true false (λ e. other.1 (sym e))

-- ---- a file

module _ (at peer : ℕ) (a : at < 256) (c : peer < 256) where
  abbrev rests : Monitor → Bool
  rests after = is_session_suspended after at peer

  abbrev suspends : Monitor → Bool
  suspends after = has_suspended at peer after.conn_tables

  -- what was noted before, and what these records say
  abbrev joined : Monitor → PairCoverage → List CaptureRecord → PairCoverage
  joined u pair file = record {
    passed = pair.passed || list_any (passes at peer) file;
    late = pair.late || (not (has_seen u peer) && is_late at peer file);
    suspended = pair.suspended || holds_once rests at peer u file;
    connection = pair.connection || holds_once suspends at peer u file;
  }

  step : (u : Monitor) (pairs : List PairCoverage) (one : CaptureRecord) (more : List CaptureRecord) → length u.seen ≡ HOSTS → length pairs ≡ VIEWS → one.0 < 256
      → joined (monitor_past u one) (pair_in (after_noted (monitor_past u one) one.0 (event_in one) pairs) at peer) more ≡ joined u (pair_in pairs at peer) (one ∷ more)
  step u pairs one more l k fit =
      ap (λ (pair : PairCoverage). joined after pair more) (place at peer after pairs one.0 e k fit c (peer_fits one.1 one.0 one.2)) ∙ go (passes at peer one) refl
    where
      after : Monitor
      after = monitor_past u one

      e : InterfaceEvent
      e = event_in one

      old : PairCoverage
      old = pair_in pairs at peer

      d : Bool
      d = depends_on peer e

      there : (one.0 == peer) ≡ true → has_seen after peer ≡ true
      there h = seen_there u one peer l fit h

      elsewhere : (one.0 == peer) ≡ false → has_seen after peer ≡ has_seen u peer
      elsewhere h = seen_elsewhere u one peer h

      -- it stands at the host's interface
      ours : (x y : Bool) → (x && y) ≡ true → x ≡ true
      ours true y h = refl
      ours false y h = absurd (cc h)

      told : Bool → Bool → PairCoverage
      told so dep = record {
        passed = old.passed || (so || list_any (passes at peer) more);
        late = old.late || (not (has_seen u peer) && (if one.0 == peer then false else dep || is_late at peer more));
        suspended = old.suspended || ((so && rests after) || holds_once rests at peer after more);
        connection = old.connection || ((so && suspends after) || holds_once suspends at peer after more);
      }

      go : (so : Bool) → (one.0 == at && is_about peer e) ≡ so → joined after (if so then pair_noted after at peer d old else old) more ≡ told so (one.0 == at && d)
      go true h =
          same_pair (true || list_any (passes at peer) more) ((old.late || (d && not (has_seen after peer))) || (not (has_seen after peer) && is_late at peer more))
          ((old.suspended || rests after) || holds_once rests at peer after more) ((old.connection || suspends after) || holds_once suspends at peer after more) (old.passed || (true || list_any (passes at peer) more))
          (old.late || (not (has_seen u peer) && (if one.0 == peer then false else (one.0 == at && d) || is_late at peer more))) (old.suspended || ((true && rests after) || holds_once rests at peer after more))
          (old.connection || ((true && suspends after) || holds_once suspends at peer after more)) (or_so old.passed true)
          (late_then old.late d (is_late at peer more) (has_seen after peer) (has_seen u peer) (one.0 == peer) there elsewhere
          ∙ ap (λ (b : Bool). old.late || (not (has_seen u peer) && (if one.0 == peer then false else (b && d) || is_late at peer more))) (sym (ours (one.0 == at) (is_about peer e) h))) (or_three old.suspended (rests after) (holds_once rests at peer after more))
          (or_three old.connection (suspends after) (holds_once suspends at peer after more))
      go false h =
          same_pair (old.passed || list_any (passes at peer) more) (old.late || (not (has_seen after peer) && is_late at peer more)) (old.suspended || holds_once rests at peer after more)
          (old.connection || holds_once suspends at peer after more) (old.passed || (false || list_any (passes at peer) more))
          (old.late || (not (has_seen u peer) && (if one.0 == peer then false else (one.0 == at && d) || is_late at peer more))) (old.suspended || ((false && rests after) || holds_once rests at peer after more))
          (old.connection || ((false && suspends after) || holds_once suspends at peer after more)) refl
          (late_else old.late (is_late at peer more) (has_seen after peer) (has_seen u peer) (one.0 == peer) there elsewhere
          ∙ ap (λ (b : Bool). old.late || (not (has_seen u peer) && (if one.0 == peer then false else b || is_late at peer more))) (sym (depends_about peer e (one.0 == at) h))) refl refl

  walk : (file : List CaptureRecord) (u : Monitor) (pairs : List PairCoverage) → length u.seen ≡ HOSTS → length pairs ≡ VIEWS → AtHosts file → pair_in (coverage_of u pairs file) at peer ≡ joined u (pair_in pairs at peer) file
  walk [] u pairs l k fit =
      let old = pair_in pairs at peer in
      same_pair old.passed old.late old.suspended old.connection (old.passed || false) (old.late || (not (has_seen u peer) && false)) (old.suspended || false) (old.connection || false) (or_none old.passed) (sym (none_late old.late true (has_seen u peer)))
      (or_none old.suspended) (or_none old.connection)
  walk (one ∷ more) u pairs l k fit =
      let after = monitor_past u one in
      let now = after_noted after one.0 (event_in one) pairs in
      walk more after now (ap length (judged_seen u one.1 one.0 one.2) ∙ length-set u.seen one.0 true ∙ l) (noted_long after one.0 (event_in one) pairs ∙ k) fit.1 ∙ step u pairs one more l k fit.0

pub noted_by_records : NotedByRecords
noted_by_records part file at peer fit a c =
    let inside : index_of at peer < VIEWS = omega (arith, a, c) in
    let none : pair_in new_coverage at peer ≡ nothing_passed = get_or-replicate VIEWS (index_of at peer) nothing_passed nothing_passed inside in
    let unseen : has_seen (new_monitor part) peer ≡ false = get_or-replicate HOSTS peer false false c in
    walk at peer a c file (new_monitor part) new_coverage (length-replicate HOSTS false) (length-replicate VIEWS nothing_passed) fit
    ∙ ap (λ (pair : PairCoverage). joined at peer a c (new_monitor part) pair file) none
    ∙ ap (λ (b : Bool). record (pair_by_records at peer (new_monitor part) file) { late = not b && is_late at peer file }) unseen
