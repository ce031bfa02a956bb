-- What follows: where nothing is found, all that comes on a link came in order.
use Rattle.std.proofs.Common.{◌≡◌, ℕ, ◌==◌, Bool, true, false, not, ◌&&◌, ◌||◌, if◌then◌else◌, List, [], ◌∷◌, ◌++◌, refl, sym, ap, ◌∙◌, subst, arith}
use Rattle.std.proofs.lemmas.Bool.{and_parts}
use Rattle.ncp_subnet.specs.Messages.{from_host}
use Rattle.ncp_transcript_two.specs.Honest.{MessageEvent, Sent, Arrives, Acked, Nacked, Other, InFlight, Clear, Flying, Landed, HonestFrom, RepeatsFrom, sent_from, messages_coming, IsPrefixWithin}
use Rattle.ncp_interface.specs.declared.event.InterfaceEvent.{InterfaceEvent}
use Rattle.ncp_interface.specs.declared.event.InterfaceEvent.TheVariants as event
use Rattle.ncp_monitor.specs.declared.finding.Finding.{Finding}
use Rattle.ncp_monitor.specs.declared.monitor.Monitor.{Monitor}
use Rattle.ncp_interface.specs.declared.imp_direction.ImpDirection.{ImpDirection}
use Rattle.ncp_interface.specs.Events.{event_of}
use Rattle.ncp_monitor.specs.Judged.{new_monitor, record_findings, after_record}
use Rattle.ncp_proof_monitor_messages.specs.Files.{found_by, findings_in}
use Rattle.ncp_proof_monitor_exact.specs.Deeds.{is_toward, deeds_recorded}
use Rattle.ncp_proof_monitor_exact.specs.Exact.{is_of_messages, found_toward, is_seen_for, is_watched, none_toward, begins_at, WatchesAll, CleanIsInOrder}
use Rattle.ncp_proof_monitor_exact.proofs.Begin.{exact}

-- ---- in order

abbrev Lined : InFlight → List Bool → Type 0
Lined Clear last = Unit {0}
Lined (Flying m) last = last ≡ m
Lined Landed last = Unit {0}

abbrev to_come : ℕ → InFlight → List Bool → Bool → List (List Bool) → List (List Bool)
to_come from Clear last true xs = xs
to_come from Clear last false xs = from_host from last ∷ xs
to_come from (Flying m) last fresh xs = from_host from m ∷ xs
to_come from Landed last fresh xs = xs

pub begins : (from : ℕ) (p : InFlight) (last : List Bool) (fresh : Bool) (ds : List MessageEvent) → Lined p last → HonestFrom from p ds → RepeatsFrom last fresh ds → IsPrefixWithin 1 (messages_coming ds) (to_come from p last fresh (sent_from from fresh ds))
begins from Clear last true [] l h r = ([], refl, omega arith)
begins from Clear last false [] l h r = (from_host from last ∷ [], refl, omega arith)
begins from (Flying m) last true [] l h r = (from_host from m ∷ [], refl, omega arith)
begins from (Flying m) last false [] l h r = (from_host from m ∷ [], refl, omega arith)
begins from Landed last true [] l h r = ([], refl, omega arith)
begins from Landed last false [] l h r = ([], refl, omega arith)
begins from Clear last true (Other ∷ ds) l h r = begins from Clear last true ds l h r
begins from Clear last false (Other ∷ ds) l h r = begins from Clear last false ds l h r
begins from (Flying m) last true (Other ∷ ds) l h r = begins from (Flying m) last true ds l h r
begins from (Flying m) last false (Other ∷ ds) l h r = begins from (Flying m) last false ds l h r
begins from Landed last true (Other ∷ ds) l h r = begins from Landed last true ds l h r
begins from Landed last false (Other ∷ ds) l h r = begins from Landed last false ds l h r
begins from Clear last true (Sent m ∷ ds) l h r = begins from (Flying m) m true ds refl h r
begins from Clear last false (Sent m ∷ ds) l h r =
    subst (λ (x : List Bool). IsPrefixWithin 1 (messages_coming ds) (from_host from x ∷ sent_from from false ds)) r.0 (begins from (Flying m) last false ds (sym r.0) h r.1)
begins from (Flying m) last true (Arrives n ∷ ds) l h r =
    let t = begins from Landed last true ds tt h.1 r in
    (t.0, ap (λ (x : List Bool). x ∷ sent_from from true ds) (sym h.0) ∙ ap (λ (xs : List (List Bool)). n ∷ xs) t.1, t.2)
begins from (Flying m) last false (Arrives n ∷ ds) l h r =
    let t = begins from Landed last false ds tt h.1 r in
    (t.0, ap (λ (x : List Bool). x ∷ sent_from from false ds) (sym h.0) ∙ ap (λ (xs : List (List Bool)). n ∷ xs) t.1, t.2)
begins from (Flying m) last true (Nacked ∷ ds) l h r =
    subst (λ (x : List Bool). IsPrefixWithin 1 (messages_coming ds) (from_host from x ∷ sent_from from false ds)) l (begins from Clear last false ds tt h r)
begins from (Flying m) last false (Nacked ∷ ds) l h r =
    subst (λ (x : List Bool). IsPrefixWithin 1 (messages_coming ds) (from_host from x ∷ sent_from from false ds)) l (begins from Clear last false ds tt h r)
begins from Landed last true (Acked ∷ ds) l h r = begins from Clear last true ds tt h r
begins from Landed last false (Acked ∷ ds) l h r = begins from Clear last true ds tt h r
begins from p last fresh (d ∷ ds) l h r = absurd h

-- ---- nothing at all is found

front_empty : (xs ys : List Finding) → xs ++ ys ≡ [] → (xs ≡ []) × (ys ≡ [])
front_empty [] ys e = (refl, e)
front_empty (x ∷ xs) ys e = absurd (cc)

nothing_toward : (from to : ℕ) (u : Monitor) (file : List (ℕ × ImpDirection × List Bool)) → findings_in u file ≡ [] → found_toward from to u file ≡ []
nothing_toward from to u [] e = refl
nothing_toward from to u (one ∷ more) e =
    let here : List Finding = record_findings u one.1 one.0 one.2 in
    let after : Monitor = after_record u one.1 one.0 one.2 in
    let p = front_empty here (findings_in after more) e in
    ap (λ (xs : List Finding). (if is_toward from to one.0 (event_of one.1 one.0 one.2) then xs else []) ++ found_toward from to after more) p.0
    ∙ none (is_toward from to one.0 (event_of one.1 one.0 one.2)) (found_toward from to after more)
    ∙ nothing_toward from to after more p.1
  where
    none : (b : Bool) (xs : List Finding) → (if b then [] else []) ++ xs ≡ xs
    none true xs = refl
    none false xs = refl

pub clean : CleanIsInOrder
clean from to file f t fit full none watched on =
    let ds : List MessageEvent = deeds_recorded from to on file in
    let k = (exact from to file f t fit full).0 (ap (found_by is_of_messages) (nothing_toward from to (new_monitor false) file none), watched) on in
    (k, begins from Clear [] true ds tt k.0 k.1)

-- ---- all is watched

or_true : (b c : Bool) → c ≡ true → (b || c) ≡ true
or_true true c e = refl
or_true false c e = e

seen_by : (e : InterfaceEvent) → is_seen_for true true e ≡ true
seen_by event.Short = refl
seen_by event.Nothing = refl
seen_by (event.Own kind link) = refl
seen_by (event.Other kind) = refl
seen_by (event.Out peer link) = refl
seen_by (event.In peer link) = refl
seen_by (event.Answer kind peer link) = or_true (not (kind == 5)) true refl

all_watched : (from to : ℕ) (file : List (ℕ × ImpDirection × List Bool)) → is_watched from to true true file ≡ true
all_watched from to [] = refl
all_watched from to (one ∷ more) =
    let e = event_of one.1 one.0 one.2 in
    ap (λ (b : Bool). (if is_toward from to one.0 e then b else true) && is_watched from to true true more) (seen_by e) ∙ one_is (is_toward from to one.0 e) (all_watched from to more)
  where
    one_is : (b : Bool) → is_watched from to true true more ≡ true → ((if b then true else true) && is_watched from to true true more) ≡ true
    one_is true k = k
    one_is false k = k

either_of : (b c d : Bool) → (b || (c || d)) ≡ true → ((b || c) || d) ≡ true
either_of true c d e = refl
either_of false c d e = e

end_of : (b : Bool) → (b || false) ≡ true → b ≡ true
end_of true e = refl
end_of false e = absurd (cc)

off : (b : Bool) → not b ≡ true → b ≡ false
off true e = absurd (cc)
off false e = refl

fronted : (from to : ℕ) (sf sto : Bool) (front file : List (ℕ × ImpDirection × List Bool)) → (sf || begins_at from front) ≡ true → (sto || begins_at to front) ≡ true → none_toward from to front ≡ true → is_watched from to sf sto (front ++ file) ≡ true
fronted from to sf sto [] file a b n =
    subst (λ (x : Bool). is_watched from to x sto file ≡ true) (sym (end_of sf a)) (subst (λ (x : Bool). is_watched from to true x file ≡ true) (sym (end_of sto b)) (all_watched from to file))
fronted from to sf sto (one ∷ more) file a b n =
    let e = event_of one.1 one.0 one.2 in
    let p = and_parts (not (is_toward from to one.0 e)) (none_toward from to more) n in
    let sf_now : Bool = sf || one.0 == from in
    let sto_now : Bool = sto || one.0 == to in
    ap (λ (c : Bool). (if c then is_seen_for sf_now sto_now e else true) && is_watched from to sf_now sto_now (more ++ file)) (off (is_toward from to one.0 e) p.0)
    ∙ fronted from to sf_now sto_now more file (either_of sf (one.0 == from) (begins_at from more) a) (either_of sto (one.0 == to) (begins_at to more) b) p.1

pub watches_all : WatchesAll
watches_all from to front file a b n = fronted from to false false front file a b n
