-- A walk over a world of two hosts and its file, with the histories of the ends, the monitor and the
-- follower. An invariant that each event preserves holds at the end, and with it all that it implies for
-- each reported connection.
use Rattle.std.proofs.Common.{◌≡◌, ◌≢◌, ◌<◌, ℕ, ◌+◌, ◌-◌, ◌^◌, Bool, true, false, not, ◌&&◌, List, [], ◌∷◌, ◌++◌, length, take, Option, None, Some, append_assoc, refl, sym, ap, ◌∙◌, subst, arith}
use Rattle.std.specs.FinMap.{get}
use Rattle.std.specs.Prelude.{min}
use Rattle.std.proofs.lemmas.Bool.{and_parts}
use Rattle.std.proofs.lemmas.Bool.Decides.{nat_tests}
use Rattle.std.proofs.lemmas.List.{append_cancel_right}
use Rattle.ncp_bits.specs.declared.bits.TheConstants.{MAX_BITS}
use Rattle.ncp_model.specs.declared.pair.Pair.{Pair}
use Rattle.ncp_model.specs.Pairs.{sends, receives, counterpart}
use Rattle.ncp_model.specs.Endpoint.{Endpoint, or_new, is_closing, is_live, is_open}
use Rattle.ncp_proof_endpoint.specs.Histories.{IsPrefix}
use Rattle.ncp_proof_endpoint.specs.Sound.{SoundAt}
use Rattle.ncp_proof_machine.specs.Hosts.{past_of}
use Rattle.ncp_transcript_two.specs.World.{World, swap}
use Rattle.ncp_transcript_two.specs.Watch.{Both, no_histories, turn}
use Rattle.ncp_transcript_two.specs.Underway.{sender_at, receiver_at, text_out, bits_out, Parted}
use Rattle.ncp_transcript_two.specs.declared.event.Event.{Event}
use Rattle.ncp_transcript_two.specs.declared.note.Note.{Note}
use Rattle.ncp_transcript_two.specs.Between.{Hosts, new_hosts, hosts_after_note, hosts_after_notes}
use Rattle.ncp_transcript_two.specs.Happening.{Noted}
use Rattle.ncp_transcript_two.specs.Transcript.{AreNotes, Noted_world, new_world, AreSteps, IsTranscript}
use Rattle.ncp_transcript_two.specs.Seen.{had_for, seen, body_of, side_of, as_rules, watched, histories}
use Rattle.ncp_transcript_two.specs.OfRules.{histories_of}
use Rattle.ncp_transcript_two.proofs.Carried.{counterpart-over}
use Rattle.ncp_transcript_two.proofs.Growing.{began_noted, transcript_new, transcript_grows, begun_noted}
use Rattle.ncp_transcript_two.proofs.Headlines.{watched-all}
use Rattle.ncp_transcript_two.proofs.Runs.{OfModelWith}
use Rattle.ncp_transcript_two.proofs.SeenRuns
use Rattle.ncp_transcript_two.proofs.Underway.{parted-carried}
use Rattle.ncp_monitor.specs.declared.monitor.Monitor.{Monitor}
use Rattle.ncp_interface.specs.declared.imp_direction.ImpDirection.{ImpDirection}
use Rattle.ncp_monitor.specs.Judged.{new_monitor, after_record}
use Rattle.ncp_follow.specs.declared.follower.Follower.{Follower}
use Rattle.ncp_follow.specs.declared.opened.TheConstants.{MAX_OPENED}
use Rattle.ncp_follow.specs.Followed.{new_follower, follower_after_record}
use Rattle.ncp_follow.specs.Tables.{has_room_opened}
use Rattle.ncp_proof_monitor.specs.Worlds.{passes_between, world_file}
use Rattle.ncp_proof_monitor_messages.proofs.Walk.{after_file}
use Rattle.ncp_proof_follow_tables.specs.TextReported.{text_told}
use Rattle.ncp_proof_follow_tables.specs.FileFollowed.{is_to_imp, followed_from}
use Rattle.ncp_proof_follow.specs.OpenedTexts.{OpenedIsGot, GotIsOpened, OpenedIsGiven, OpenedTwice, IsTold, FollowReportsWhatWasGot}
use Rattle.ncp_proof_follow_tables.proofs.Placed.{text_named, text_is}
use Rattle.ncp_proof_follow.proofs.Telling.{Got, GivenSo, take_with}
use Rattle.ncp_proof_follow.proofs.ControlComes.{AtHost}

-- ---- one record after the other

-- the number after them
abbrev pub number_following : ℕ → List (ℕ × ImpDirection × List Bool) → ℕ
number_following number [] = number
number_following number (one ∷ more) = number_following (min (number + 1) (2 ^ 32 - 1)) more

pub followed_both : (number : ℕ) (xs ys : List (ℕ × ImpDirection × List Bool)) (f : Follower) → followed_from number (xs ++ ys) f ≡ followed_from (number_following number xs) ys (followed_from number xs f)
followed_both number [] ys f = refl
followed_both number (x ∷ xs) ys f = followed_both (min (number + 1) (2 ^ 32 - 1)) xs ys (follower_after_record number (is_to_imp x.1) x.0 x.2 f)

pub after_both : (u : Monitor) (xs ys : List (ℕ × ImpDirection × List Bool)) → after_file u (xs ++ ys) ≡ after_file (after_file u xs) ys
after_both u [] ys = refl
after_both u (x ∷ xs) ys = after_both (after_record u x.1 x.0 x.2) xs ys

-- ---- the walk

-- the histories after a note
abbrev pub histories_then : Note → Hosts → Both → Both
histories_then note w p = watched (as_rules (side_of note)) (body_of note) (seen w) p

-- each event preserves it, for any numbers of its records
abbrev pub EachEvent : (Hosts → Both → Monitor → Follower → Type 0) → Type 0
EachEvent Holds =
    (event : Event) (note : Note) (w : Hosts) (p : Both) (u : Monitor) (number : ℕ) (f : Follower) → Noted event note w → Holds w p u f
    → Holds (hosts_after_note note w) (histories_then note w p) (after_file u (passes_between event note w)) (followed_from number (passes_between event note w) f)

pub opened_walk : (Holds : Hosts → Both → Monitor → Follower → Type 0) → EachEvent Holds → (happened : List Event) (notes : List Note) (w : Hosts) (p : Both) (u : Monitor) (number : ℕ) (f : Follower) → AreNotes happened notes w → Holds w p u f
    → Holds (hosts_after_notes notes w) (histories notes w p) (after_file u (world_file happened notes w)) (followed_from number (world_file happened notes w) f)
opened_walk Holds each [] [] w p u number f a k = k
opened_walk Holds each [] (note ∷ notes) w p u number f a k = absurd a
opened_walk Holds each (event ∷ happened) [] w p u number f a k = absurd a
opened_walk Holds each (event ∷ happened) (note ∷ notes) w p u number f a k =
    let here : List (ℕ × ImpDirection × List Bool) = passes_between event note w in
    let rest : List (ℕ × ImpDirection × List Bool) = world_file happened notes (hosts_after_note note w) in
    subst (λ (x : Monitor). Holds (hosts_after_notes (note ∷ notes) w) (histories (note ∷ notes) w p) x (followed_from number (here ++ rest) f)) (sym (after_both u here rest))
    (subst (λ (x : Follower). Holds (hosts_after_notes (note ∷ notes) w) (histories (note ∷ notes) w p) (after_file (after_file u here) rest) x) (sym (followed_both number here rest f))
    (opened_walk Holds each happened notes (hosts_after_note note w) (histories_then note w p) (after_file u here) (number_following number here) (followed_from number here f) a.1
    (each event note w p u number f a.0 k)))

-- ---- the texts reported at both interfaces

pub record OpenedAt (w : Hosts) (p : Both) (f : Follower) : Type 0 where
  pub here : AtHost w.number_a w.number_b (had_for w.number_b w.a) p.this f.tables
  pub there : AtHost w.number_b w.number_a (had_for w.number_a w.b) p.that f.tables
  pub sound_here : (q : Pair) → SoundAt q (get (had_for w.number_b w.a).peer.ends q)
  pub sound_there : (q : Pair) → SoundAt q (get (had_for w.number_a w.b).peer.ends q)

turned_receives : (pair : Pair) → sends pair ≡ true → receives (counterpart pair) ≡ true
turned_receives pair e = grind arith

-- one that is open is not on its way out, and lives

open_stays : (e : Endpoint) → is_open e ≡ true → is_closing e ≡ false
open_stays e o = go (is_closing e) (and_parts (e.asked && e.heard) (not (is_closing e)) o).1
  where
    go : (b : Bool) → not b ≡ true → b ≡ false
    go true e = absurd (cc e)
    go false e = refl

open_lives : (q : Pair) (o : Option Endpoint) → SoundAt q o → is_open (or_new o) ≡ true → is_live o ≡ true
open_lives q None s e = absurd (cc e)
open_lives q (Some x) s e = s.opens e

module _ (pair : Pair) (s : sends pair ≡ true) (w : Hosts) (p : Both) (f : Follower) (k : OpenedAt w p f) where
  abbrev v : World
  v = seen w

  got : Got (get v.that.peer.ends (counterpart pair)) (past_of p.that (counterpart pair)) (text_named (record { at = w.number_b; peer = w.number_a; pair = counterpart pair }) f.tables)
  got = k.there.got (counterpart pair) (turned_receives pair s)

  opened_got : OpenedIsGot pair v p f
  opened_got l g = text_is w.number_b w.number_a (counterpart pair) f.tables ∙ got.is l g

  got_opened : GotIsOpened pair v p f
  got_opened l = subst (IsPrefix (take MAX_BITS (past_of p.that (counterpart pair)).got)) (sym (text_is w.number_b w.number_a (counterpart pair) f.tables)) (got.begins l)

  opened_given : OpenedIsGiven pair v p f
  opened_given l =
      let g : GivenSo (get v.this.peer.ends pair) (past_of p.this pair) (text_named (record { at = w.number_a; peer = w.number_b; pair = pair }) f.tables) = k.here.given pair s l in
      (g.sent, g.rest, g.is, text_is w.number_a w.number_b pair f.tables ∙ g.told, λ o. g.waits (open_stays (sender_at pair v) o))

  -- while both are open, sent text has arrived, or is in flight
  opened_twice : Parted pair v p → OpenedTwice pair v f
  opened_twice parted o r =
      let live : is_live (get v.this.peer.ends pair) ≡ true = open_lives pair (get v.this.peer.ends pair) (k.sound_here pair) o in
      let live_there : is_live (get v.that.peer.ends (counterpart pair)) ≡ true = open_lives (counterpart pair) (get v.that.peer.ends (counterpart pair)) (k.sound_there (counterpart pair)) r in
      let g : GivenSo (get v.this.peer.ends pair) (past_of p.this pair) (text_named (record { at = w.number_a; peer = w.number_b; pair = pair }) f.tables) = k.here.given pair s live in
      let waits : g.rest ≡ (sender_at pair v).stored = g.waits (open_stays (sender_at pair v) o) in
      let sent : g.sent ≡ g_got ++ g_out =
      append_cancel_right g.sent (g_got ++ g_out) (sender_at pair v).stored
      (sym (g.is ∙ ap (λ (xs : List Bool). g.sent ++ xs) waits) ∙ parted (o, r) ∙ sym (append_assoc g_got g_out (sender_at pair v).stored)) in
      let there : text_told w.number_b w.number_a (counterpart pair) f.tables ≡ take MAX_BITS g_got = opened_got live_there (open_stays (receiver_at pair v) r) in
      let here : text_told w.number_a w.number_b pair f.tables ≡ take MAX_BITS (g_got ++ g_out) = text_is w.number_a w.number_b pair f.tables ∙ g.told ∙ ap (take MAX_BITS) sent in
      (take (MAX_BITS - length (take MAX_BITS g_got)) g_out, ap (λ (xs : List Bool). xs ++ take (MAX_BITS - length (take MAX_BITS g_got)) g_out) there ∙ sym (take_with g_got g_out) ∙ sym here)
    where
      g_got : List Bool
      g_got = (past_of p.that (counterpart pair)).got

      g_out : List Bool
      g_out = bits_out (text_out pair v)

  is_told : Parted pair v p → IsTold pair v p f
  is_told parted = (opened_got, got_opened, opened_given, opened_twice parted)

-- ---- of whole runs

transcript_steps : (events : List Event) (before now : Noted_world) → AreSteps events before now → IsTranscript before.notes before.hosts → IsTranscript now.notes now.hosts
transcript_steps [] before now e t = subst (λ (x : Noted_world). IsTranscript x.notes x.hosts) (sym e) t
transcript_steps (event ∷ events) before now (next, step, rest) t =
    transcript_steps events next now rest (transcript_grows before.notes next.notes step.0 before.hosts next.hosts t (event, step.1) step.2 step.3)

turn_opened : (w : Hosts) (p : Both) (f : Follower) → OpenedAt w p f → OpenedAt (SeenRuns.counterpart w) (turn p) f
turn_opened w p f k = record { here = k.there; there = k.here; sound_here = k.sound_there; sound_there = k.sound_here }

-- an invariant that each event preserves, and that implies correct reports while fewer connections were
-- opened than can be reported
pub follow_reports : (Holds : Hosts → Both → Monitor → Follower → Type 0) → EachEvent Holds → ((a b : ℕ) → a ≢ b → a < 256 → b < 256 → Holds (new_hosts a b) no_histories (new_monitor false) (new_follower false))
    → ((w : Hosts) (p : Both) (u : Monitor) (f : Follower) → Holds w p u f → has_room_opened f.tables.told ≡ true → OpenedAt w p f) → FollowReportsWhatWasGot
follow_reports Holds each begins tells a b happened now pair differ k l did s room = (
  is_told pair s now.hosts p f at (parted-carried pair s (seen now.hosts) p model),
  is_told pair s (SeenRuns.counterpart now.hosts) (turn p) f (turn_opened now.hosts p f at) (parted-carried pair s (swap (seen now.hosts)) (turn p) (counterpart-over (seen now.hosts) p model)),
)
  where
    f : Follower
    f = followed_from 1 (world_file happened now.notes (new_hosts a b)) (new_follower false)

    p : Both
    p = histories_of now.notes now.hosts

    noted : AreNotes happened now.notes (new_hosts a b) × (now.hosts ≡ hosts_after_notes now.notes (new_hosts a b))
    noted = begun_noted happened a b now did

    t : IsTranscript now.notes now.hosts
    t = transcript_steps happened (new_world a b) now did (transcript_new a b (new_hosts a b) differ k l refl)

    model : OfModelWith p (seen now.hosts)
    model = watched-all now.notes now.hosts t

    began_there : new_hosts now.hosts.number_a now.hosts.number_b ≡ new_hosts a b
    began_there = ap (λ (w : Hosts). new_hosts w.number_a w.number_b) noted.1 ∙ begins_same now.notes (new_hosts a b)
      where
        begins_same : (notes : List Note) (w : Hosts) → new_hosts (hosts_after_notes notes w).number_a (hosts_after_notes notes w).number_b ≡ new_hosts w.number_a w.number_b
        begins_same [] w = refl
        begins_same (note ∷ notes) w = begins_same notes (hosts_after_note note w) ∙ began_noted note w

    holds : Holds now.hosts p (after_file (new_monitor false) (world_file happened now.notes (new_hosts a b))) f
    holds =
        subst (λ (w : Hosts). Holds w p (after_file (new_monitor false) (world_file happened now.notes (new_hosts a b))) f) (sym noted.1)
        (subst (λ (w : Hosts). Holds (hosts_after_notes now.notes (new_hosts a b)) (histories now.notes w no_histories) (after_file (new_monitor false) (world_file happened now.notes (new_hosts a b))) f) (sym began_there)
        (opened_walk Holds each happened now.notes (new_hosts a b) no_histories (new_monitor false) 1 (new_follower false) noted.0 (begins a b differ k l)))

    roomy : has_room_opened f.tables.told ≡ true
    roomy = let less : length f.tables.told < MAX_OPENED = room in grind (arith, nat_tests)

    at : OpenedAt now.hosts p f
    at = tells now.hosts p (after_file (new_monitor false) (world_file happened now.notes (new_hosts a b))) f holds roomy
