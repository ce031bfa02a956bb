-- In a capture without findings and without notices, what is not judged is for lack of room or of records.
use Rattle.std.proofs.Common.{◌≡◌, ℕ, ◌<◌, Bool, true, false, not, ◌&&◌, ◌||◌, if◌then◌else◌, List, [], ◌∷◌, ◌++◌, Option, None, Some, refl, sym, ap, ◌∙◌, subst}
use Rattle.std.specs.List.{list_all}
use Rattle.ncp_monitor.specs.declared.coverage.PairCoverage.{PairCoverage}
use Rattle.ncp_monitor.specs.declared.coverage.Unjudged.{Unjudged}
use Rattle.ncp_monitor.specs.declared.coverage.Unjudged.TheVariants.{Messages, Connections, Late, Crowded, Suspended, Restarted, Connection, Part, Alone}
use Rattle.ncp_monitor.specs.declared.monitor.Monitor.{Monitor}
use Rattle.ncp_monitor.specs.Judged.{new_monitor, has_seen, is_crowded}
use Rattle.ncp_monitor.specs.Coverage.{CaptureRecord, has_suspended, new_coverage, pair_in, coverage_of, is_late, is_restarted}
use Rattle.ncp_proof_monitor_messages.specs.ManyFiles.{AllFit}
use Rattle.ncp_proof_interface_resets.specs.ResetRuns.{has_no_notice, judged_in}
use Rattle.ncp_proof_monitor_exact.proofs.Noting.{noted_by_records}
use Rattle.ncp_proof_monitor_exact.specs.Exact.{monitor_after_file}
use Rattle.ncp_proof_monitor_exact.specs.Judged.{monitor_past_all, reason_for, is_lack, OnlyLacks, AllIsJudged}
use Rattle.ncp_proof_monitor_exact.proofs.Fronts.{after_front, never_once}
use Rattle.ncp_proof_monitor_exact.proofs.Phases.{at_hosts, ends_same, front_found, front_same, quiet, not_restarted}
use Rattle.ncp_proof_monitor_exact.proofs.Tables.{none_of_pair, begins_awake, room_front, stays_awake}

-- ---- the first reason that holds

given : (test : Unjudged → Bool) (r why : Unjudged) → Some r ≡ Some why → (b : Bool) → test r ≡ b → test why ≡ b
given test r why e b f = let is : r ≡ why = cc e in ap test (sym is) ∙ f

-- by what is known of two hosts
abbrev reason_by : Bool → Bool → Bool → Bool → Bool → Bool → Bool → Bool → Bool → Bool → Bool → Option Unjudged
reason_by passed full tables late crowded crowding suspended restarted connection part alone =
    if passed then
    (if full then Some Messages
    else if tables then Some Connections
    else if late then Some Late
    else if crowded || crowding then Some Crowded
    else if suspended then Some Suspended
    else if restarted then Some Restarted
    else if connection then Some Connection
    else if part then Some Part
    else if alone then Some Alone
    else None)
    else None

-- if there is room, nothing is crowded, suspended, restarted or in part
with_room : (passed tables late crowded crowding suspended restarted connection part alone : Bool) (why : Unjudged)
    → crowded ≡ false → crowding ≡ false → suspended ≡ false → restarted ≡ false → part ≡ false
    → reason_by passed false tables late crowded crowding suspended restarted connection part alone ≡ Some why → reason_by passed false tables late false false false false connection false alone ≡ Some why
with_room passed tables late crowded crowding suspended restarted connection part alone why h t s r p e =
    subst (λ (x : Bool). reason_by passed false tables late false false false false connection x alone ≡ Some why) p
    (subst (λ (x : Bool). reason_by passed false tables late false false false x connection part alone ≡ Some why) r
    (subst (λ (x : Bool). reason_by passed false tables late false false x restarted connection part alone ≡ Some why) s
    (subst (λ (x : Bool). reason_by passed false tables late false x suspended restarted connection part alone ≡ Some why) t
    (subst (λ (x : Bool). reason_by passed false tables late x crowding suspended restarted connection part alone ≡ Some why) h e))))

no_room : (passed tables late crowded crowding suspended restarted connection part alone : Bool) (why : Unjudged) → reason_by passed true tables late crowded crowding suspended restarted connection part alone ≡ Some why → Messages ≡ why
no_room true tables late crowded crowding suspended restarted connection part alone why e = cc e
no_room false tables late crowded crowding suspended restarted connection part alone why e = absurd (cc e)

-- ---- connections, links and echoes

module _ (file : List CaptureRecord) (fit : AllFit file) (none : list_all has_no_notice file ≡ true) (clean : judged_in (new_monitor false) file ≡ []) where
  abbrev begun : Monitor
  begun = new_monitor false

  front_awake : (front back : List CaptureRecord) → front ++ back ≡ file → (monitor_after_file begun file).conn_tables.full ≡ false → (at peer : ℕ) → has_suspended at peer (monitor_past_all begun front).conn_tables ≡ false
  front_awake front back is room at peer =
      let whole : (monitor_after_file begun (front ++ back)).conn_tables.full ≡ false = ap (λ (rs : List CaptureRecord). (monitor_after_file begun rs).conn_tables.full) is ∙ room in
      let here : (monitor_after_file begun front).conn_tables.full ≡ false = room_front (monitor_after_file begun front) back (ap (λ (v : Monitor). v.conn_tables.full) (sym (after_front begun front back)) ∙ whole) in
      ap (λ (v : Monitor). has_suspended at peer v.conn_tables) (front_same file fit none clean front back is) ∙ none_of_pair at peer (monitor_after_file begun front).conn_tables (stays_awake front begun begins_awake (front_found file fit none clean front back is) here)

  module _ (at peer : ℕ) (a : at < 256) (c : peer < 256) where
    abbrev u : Monitor
    u = monitor_past_all begun file

    abbrev noted : PairCoverage
    noted = pair_in (coverage_of begun new_coverage file) at peer

    no_connection : u.conn_tables.full ≡ false → noted.connection ≡ false
    no_connection room =
        ap (λ (p : PairCoverage). p.connection) (noted_by_records false file at peer (at_hosts file fit) a c)
        ∙ never_once (λ (v : Monitor). has_suspended at peer v.conn_tables) at peer begun file
        (λ front back is. front_awake front back is (ap (λ (v : Monitor). v.conn_tables.full) (sym (ends_same file fit none clean)) ∙ room) at peer)

    -- the reason, by whether there was room
    abbrev reason_if : Bool → Bool → Bool → Bool → Option Unjudged
    reason_if full tables late alone =
        reason_by noted.passed full tables late (is_crowded u at peer) (is_crowded u peer at) noted.suspended (is_restarted u at peer) noted.connection u.part alone

    with_all_room : (late alone : Bool) (why : Unjudged) → u.full ≡ false → u.conn_tables.full ≡ false → reason_if false false late alone ≡ Some why → reason_by noted.passed false false late false false false false false false alone ≡ Some why
    with_all_room late alone why full room e =
        let q = quiet file fit none clean at peer a c full in
        subst (λ (x : Bool). reason_by noted.passed false false late false false false false x false alone ≡ Some why) (no_connection room)
        (with_room noted.passed false late (is_crowded u at peer) (is_crowded u peer at) noted.suspended (is_restarted u at peer) noted.connection u.part alone why q.here q.there q.calm (not_restarted file fit none clean at peer a c) q.whole e)

    lacks : (late alone : Bool) (why : Unjudged) (full tables : Bool) → u.full ≡ full → u.conn_tables.full ≡ tables → reason_if full tables late alone ≡ Some why → is_lack why ≡ true
    lacks late alone why true tables f g e =
        let is = no_room noted.passed tables late (is_crowded u at peer) (is_crowded u peer at) noted.suspended (is_restarted u at peer) noted.connection u.part alone why e in ap is_lack (sym is)
    lacks late alone why false true f g e = by noted.passed e
      where
        by : (x : Bool) → (if x then Some Connections else None) ≡ Some why → is_lack why ≡ true
        by true k = given is_lack Connections why k true refl
        by false k = absurd (cc k)
    lacks late alone why false false f g e = by noted.passed late alone (with_all_room late alone why f g e)
      where
        by : (x late alone : Bool) → reason_by x false false late false false false false false false alone ≡ Some why → is_lack why ≡ true
        by false late alone k = absurd (cc k)
        by true true alone k = given is_lack Late why k true refl
        by true false true k = given is_lack Alone why k true refl
        by true false false k = absurd (cc k)

pub only_lacks : OnlyLacks
only_lacks file at peer why k a c e =
    let u = monitor_past_all (new_monitor false) file in
    let noted = pair_in (coverage_of (new_monitor false) new_coverage file) at peer in
    lacks file k.0 k.1 k.2 at peer a c (noted.late && has_seen u peer) (not (has_seen u peer)) why u.full u.conn_tables.full refl refl e

pub all_is_judged : AllIsJudged
all_is_judged file at peer k a c full room seen early = go (reason_for file at peer) refl
  where
    u : Monitor
    u = monitor_past_all (new_monitor false) file

    noted : PairCoverage
    noted = pair_in (coverage_of (new_monitor false) new_coverage file) at peer

    not_late : (noted.late && has_seen u peer) ≡ false
    not_late = ap (λ (x : Bool). x && has_seen u peer) (ap (λ (p : PairCoverage). p.late) (noted_by_records false file at peer (at_hosts file k.0) a c) ∙ early)

    nothing : (x : Bool) (why : Unjudged) → reason_by x false false false false false false false false false false ≡ Some why → ⊥
    nothing true why e = cc e
    nothing false why e = cc e

    none_given : (why : Unjudged) → reason_for file at peer ≡ Some why → ⊥
    none_given why e =
        nothing noted.passed why
        (subst (λ (x : Bool). reason_by noted.passed false false x false false false false false false false ≡ Some why) not_late
        (subst (λ (x : Bool). reason_by noted.passed false false (noted.late && has_seen u peer) false false false false false false (not x) ≡ Some why) seen
        (with_all_room file k.0 k.1 k.2 at peer a c (noted.late && has_seen u peer) (not (has_seen u peer)) why full room
        (subst (λ (x : Bool). reason_if file k.0 k.1 k.2 at peer a c false x (noted.late && has_seen u peer) (not (has_seen u peer)) ≡ Some why) room
        (subst (λ (x : Bool). reason_if file k.0 k.1 k.2 at peer a c x u.conn_tables.full (noted.late && has_seen u peer) (not (has_seen u peer)) ≡ Some why) full e)))))

    go : (o : Option Unjudged) → reason_for file at peer ≡ o → reason_for file at peer ≡ None
    go None e = e
    go (Some why) e = absurd (none_given why e)
