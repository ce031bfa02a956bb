-- What is recorded of a note of two hosts is what passes with its event, and each record names both.
use Rattle.std.proofs.Common.{◌≡◌, ◌⊎◌, inl, inr, ℕ, Bool, true, false, if◌then◌else◌, List, [], ◌∷◌, ◌++◌, Option, None, Some, Ok, refl, sym, ap, ◌∙◌, subst, ◌≤◌, ◌<◌, length, arith, ◌==◌, ◌||◌}
use Rattle.ncp_numbers.specs.Numbers.{bits_of}
use Rattle.std.proofs.lemmas.Bool.{eqb-true}
use Rattle.ncp_leader.specs.declared.leader.Leader.{Leader}
use Rattle.ncp_leader.specs.Leader.{leader_in}
use Rattle.ncp_subnet.specs.declared.transit.Transit.TheVariants.{Free, Accepted, Delivered, Lost, Dead}
use Rattle.ncp_subnet.specs.Transit.{is_accepted, answer_kind}
use Rattle.ncp_subnet.specs.Messages.{from_host, answer_bits, arriving, answering}
use Rattle.ncp_subnet.specs.Subnet.{Subnet, transit_at}
use Rattle.ncp_subnet.proofs.Places.{transit_at-same}
use Rattle.ncp_subnet.specs.Ways.{OnLink}
use Rattle.ncp_peer.specs.Hearing.{answer_of}
use Rattle.ncp_peer.specs.Output.{leader_to, message_to}
use Rattle.ncp_host.specs.Turns.{next_output}
use Rattle.ncp_transcript.specs.declared.note.HostNote.{HostNote}
use Rattle.ncp_transcript.specs.Noting.{note_of_message}
use Rattle.ncp_transcript_two.specs.declared.side.Side.TheVariants.{A, B}
use Rattle.ncp_transcript_two.specs.declared.event.Event.{Event}
use Rattle.ncp_transcript_two.specs.declared.note.Move.{Move}
use Rattle.ncp_transcript_two.specs.declared.note.Note.{Note}
use Rattle.ncp_transcript_two.specs.Between.{Hosts, transit_of, hosts_after_note}
use Rattle.ncp_transcript_two.specs.Happening.{Noted, note_of_coming, note_of_answering}
use Rattle.ncp_transcript_two.proofs.OnePeer.{noted-message, noted-answer}
use Rattle.ncp_transcript_two.proofs.SeenRuns.{counterpart}
use Rattle.ncp_transcript_two.proofs.Written.{answer_leader}
use Rattle.ncp_interface.specs.declared.imp_direction.ImpDirection.{ImpDirection}
use Rattle.ncp_interface.specs.declared.imp_direction.ImpDirection.TheVariants.{ToImp, FromImp}
use Rattle.ncp_interface.specs.declared.notice.ImpNotice.TheVariants as notice
use Rattle.ncp_interface.specs.Events.{is_answer}
use Rattle.ncp_interface.specs.Notices.{notice_after, notice_of}
use Rattle.ncp_transcript_many.specs.ManyHappening.{by_numbers}
use Rattle.ncp_proof_monitor.specs.Worlds.{comes_to, goes_from, passes_between}
use Rattle.ncp_proof_monitor_messages.proofs.Between.{Joined, turned_joined, joined_after, Leaves, leaves, Written, written, comes_as, comes_led, AnswerLed, answer_leads}
use Rattle.ncp_proof_monitor_messages.specs.ManyFiles.{answer_type, came_at, passing, AllFit, NoneNoticed}

-- ---- a record of the two

-- at the interface of the one it names the other
pub record Names (a b at : ℕ) (bits : List Bool) : Type 0 where
  pub leader : Leader
  pub led : leader_in bits ≡ Ok leader
  pub short : length bits ≤ 8192
  pub plain : ((leader.kind == 10) ≡ false) × ((leader.kind == 8) ≡ false)
  pub ends : ((at ≡ a) × (leader.host ≡ b)) ⊎ ((at ≡ b) × (leader.host ≡ a))

abbrev pub AllName : ℕ → ℕ → List (ℕ × ImpDirection × List Bool) → Type 0
AllName a b [] = Unit {0}
AllName a b (one ∷ more) = Names a b one.0 one.2 × AllName a b more

names_turned : (a b at : ℕ) (bits : List Bool) → Names a b at bits → Names b a at bits
names_turned a b at bits n = record { leader = n.leader; led = n.led; short = n.short; plain = n.plain; ends = context n.ends }
  where
    context : {l : ℕ} → ((at ≡ a) × (l ≡ b)) ⊎ ((at ≡ b) × (l ≡ a)) → ((at ≡ b) × (l ≡ a)) ⊎ ((at ≡ a) × (l ≡ b))
    context (inl e) = inr e
    context (inr e) = inl e

all_turned : (a b : ℕ) (file : List (ℕ × ImpDirection × List Bool)) → AllName a b file → AllName b a file
all_turned a b [] n = tt
all_turned a b (one ∷ more) n = (names_turned a b one.0 one.2 n.0, all_turned a b more n.1)

-- what is recorded of the note, and what passes
abbrev pub Fits : ℕ → ℕ → Note → List (ℕ × ImpDirection × List Bool) → Type 0
Fits a b note file = (passing (by_numbers a b note) ≡ file) × AllName a b file

-- ---- it is no notice of an IMP

answer_plain : (kind : ℕ) → is_answer kind ≡ true → ((kind == 10) ≡ false) × ((kind == 8) ≡ false)
answer_plain kind = go (kind == 5) refl (kind == 7) refl (kind == 9) refl
  where
    at : (k : ℕ) → kind ≡ k → ((k == 10) ≡ false) × ((k == 8) ≡ false) → ((kind == 10) ≡ false) × ((kind == 8) ≡ false)
    at k e p = subst (λ (i : ℕ). ((i == 10) ≡ false) × ((i == 8) ≡ false)) (sym e) p

    go : (five : Bool) → (kind == 5) ≡ five → (seven : Bool) → (kind == 7) ≡ seven → (nine : Bool) → (kind == 9) ≡ nine → (five || seven || nine) ≡ true → ((kind == 10) ≡ false) × ((kind == 8) ≡ false)
    go true e seven f nine g h = at 5 (eqb-true kind 5 e) (refl, refl)
    go false e true f nine g h = at 7 (eqb-true kind 7 f) (refl, refl)
    go false e false f true g h = at 9 (eqb-true kind 9 g) (refl, refl)
    go false e false f false g h = absurd (cc h)

no_notice : (way : ImpDirection) (bits : List Bool) (leader : Leader) → leader_in bits ≡ Ok leader → ((leader.kind == 10) ≡ false) × ((leader.kind == 8) ≡ false) → notice_of way bits ≡ None
no_notice ToImp bits leader led p = refl
no_notice FromImp bits leader led p =
    ap (notice_after FromImp) led ∙ ap (λ (b : Bool). if b then Some notice.InterfaceReset else if leader.kind == 8 then Some (notice.MessageRefused leader.host leader.link) else None) p.0
    ∙ ap (λ (b : Bool). if b then Some (notice.MessageRefused leader.host leader.link) else None) p.1

-- ---- how long it is

short_message : (n on size : ℕ) (text : List Bool) → length text ≤ 7928 → length (message_to n on size text) ≤ 8192
unfolding bits_of
short_message n on size text few = omega (arith, few)

short_answer : (kind n on : ℕ) → length (answer_bits kind n on) ≤ 8192
unfolding answer_bits bits_of
short_answer kind n on = omega arith

-- a sent message has at most 8,192 bits, since it is in transit then
short_out : (w : Hosts) (m : List Bool) → Joined w → next_output w.a ≡ Some m → Leaves w m → length m ≤ 8192
short_out w m j q l =
    let now : Hosts = hosts_after_note (Note.Out A (HostNote.Out m)) w in
    let later : Joined now = joined_after (Event.Out A) (Note.Out A (HostNote.Out m)) w (sym (ap (λ (o : Option (List Bool)). Note.Out A (note_of_message o)) q)) j in
    let there : transit_at now.subnet w.number_a w.number_b l.on ≡ Accepted m = ap (λ (s : Subnet). transit_at s w.number_a w.number_b l.on) l.takes ∙ transit_at-same w.subnet w.number_a w.number_b l.on (Accepted m) in
    let r : Written now l.on m = written now l.on m later there in
    subst (λ (xs : List Bool). length xs ≤ 8192) (sym r.is) (short_message w.number_b l.on r.size r.text r.fits.2)

-- ---- a message is sent

out_names : (w : Hosts) → Joined w → AllName w.number_a w.number_b (goes_from w.number_a (note_of_message (next_output w.a)))
out_names w j = go (next_output w.a) refl
  where
    go : (o : Option (List Bool)) → next_output w.a ≡ o → AllName w.number_a w.number_b (goes_from w.number_a (note_of_message (next_output w.a)))
    go None q = subst (λ (x : Option (List Bool)). AllName w.number_a w.number_b (goes_from w.number_a (note_of_message x))) (sym q) tt
    go (Some m) q =
        let l : Leaves w m = leaves w m j q in
        subst (λ (x : Option (List Bool)). AllName w.number_a w.number_b (goes_from w.number_a (note_of_message x))) (sym q) (record { leader = leader_to w.number_b l.on; led = l.led; short = short_out w m j q l; plain = (refl, refl); ends = inl (refl, refl) }, tt)

-- ---- it comes

come_fits : (w : Hosts) (link : ℕ) → Joined w → Fits w.number_a w.number_b (note_of_coming A link (arriving w.number_a (transit_of A link w)) w) (comes_to w.number_b (arriving w.number_a (transit_of A link w)))
come_fits w link j = go (transit_of A link w) refl
  where
    As : OnLink → Type 0
    As h = Fits w.number_a w.number_b (note_of_coming A link (arriving w.number_a h) w) (comes_to w.number_b (arriving w.number_a h))

    go : (h : OnLink) → transit_of A link w ≡ h → As (transit_of A link w)
    go Free q = subst As (sym q) (refl, tt)
    go Delivered q = subst As (sym q) (refl, tt)
    go Lost q = subst As (sym q) (refl, tt)
    go Dead q = subst As (sym q) (refl, tt)
    go (Accepted m) q =
        let r : Written w link m = written w link m j q in
        let led : leader_in (from_host w.number_a m) ≡ Ok (leader_to w.number_a link) = comes_led w link m j r in
        let short : length (from_host w.number_a m) ≤ 8192 = subst (λ (xs : List Bool). length xs ≤ 8192) (sym (comes_as w link m r)) (short_message w.number_a link r.size r.text r.fits.2) in
        subst As (sym q) (
          ap (came_at w.number_b) (noted-message w.b (from_host w.number_a m) (leader_to w.number_a link) led refl),
          (record { leader = leader_to w.number_a link; led = led; short = short; plain = (refl, refl); ends = inr (refl, refl) }, tt),
        )

-- ---- it is answered

same_kind : (x : OnLink) (kind : ℕ) → answer_kind x ≡ Some kind → answer_type (answer_of kind) ≡ kind
same_kind Free kind e = absurd (cc)
same_kind (Accepted m) kind e = absurd (cc)
same_kind Delivered kind e = subst (λ (k : ℕ). answer_type (answer_of k) ≡ k) (let is : 5 ≡ kind = cc in is) refl
same_kind Lost kind e = subst (λ (k : ℕ). answer_type (answer_of k) ≡ k) (let is : 9 ≡ kind = cc in is) refl
same_kind Dead kind e = subst (λ (k : ℕ). answer_type (answer_of k) ≡ k) (let is : 7 ≡ kind = cc in is) refl

answer_fits : (w : Hosts) (link : ℕ) → Joined w → Fits w.number_a w.number_b (note_of_answering A link (answering w.number_b link (answer_kind (transit_of A link w))) w) (comes_to w.number_a (answering w.number_b link (answer_kind (transit_of A link w))))
answer_fits w link j = go (answer_kind (transit_of A link w)) refl
  where
    As : Option ℕ → Type 0
    As o = Fits w.number_a w.number_b (note_of_answering A link (answering w.number_b link o) w) (comes_to w.number_a (answering w.number_b link o))

    go : (o : Option ℕ) → answer_kind (transit_of A link w) ≡ o → As (answer_kind (transit_of A link w))
    go None q = subst As (sym q) (refl, tt)
    go (Some kind) q =
        let l : AnswerLed w link kind = answer_leads w link kind j q in
        let bits : List Bool = answer_bits kind w.number_b link in
        subst As (sym q) (
          ap (came_at w.number_a) (noted-answer w.a bits (answer_leader kind w.number_b link) j.stand.a l.led l.is_one)
              ∙ ap (λ (k : ℕ). (w.number_a, FromImp, answer_bits k w.number_b link) ∷ []) (same_kind (transit_of A link w) kind q),
          (record { leader = answer_leader kind w.number_b link; led = l.led; short = short_answer kind w.number_b link; plain = answer_plain kind l.is_one; ends = inl (refl, refl) }, tt),
        )

-- ---- nothing passes

lost_none : (a b link : ℕ) (c : Bool) → passing (by_numbers a b (if c then Note.Lost A link else Note.Nothing A link Move.Lose)) ≡ []
lost_none a b link true = refl
lost_none a b link false = refl

lost_back : (a b link : ℕ) (c : Bool) → passing (by_numbers a b (if c then Note.Lost B link else Note.Nothing B link Move.Lose)) ≡ []
lost_back a b link true = refl
lost_back a b link false = refl

dead_none : (a b link : ℕ) (c : Bool) → passing (by_numbers a b (if c then Note.FoundDead A link else Note.Nothing A link Move.Dead)) ≡ []
dead_none a b link true = refl
dead_none a b link false = refl

dead_back : (a b link : ℕ) (c : Bool) → passing (by_numbers a b (if c then Note.FoundDead B link else Note.Nothing B link Move.Dead)) ≡ []
dead_back a b link true = refl
dead_back a b link false = refl

-- ---- of the other side

came_back : (w : Hosts) (link : ℕ) (o : Option (List Bool)) → passing (by_numbers w.number_a w.number_b (note_of_coming B link o w)) ≡ passing (by_numbers w.number_b w.number_a (note_of_coming A link o (counterpart w)))
came_back w link None = refl
came_back w link (Some bits) = refl

answered_back : (w : Hosts) (link : ℕ) (o : Option (List Bool)) → passing (by_numbers w.number_a w.number_b (note_of_answering B link o w)) ≡ passing (by_numbers w.number_b w.number_a (note_of_answering A link o (counterpart w)))
answered_back w link None = refl
answered_back w link (Some bits) = refl

-- ---- each event

pub passes_fit : (event : Event) (note : Note) (w : Hosts) → Noted event note w → Joined w → Fits w.number_a w.number_b note (passes_between event note w)
passes_fit (Event.Call A call) note w n j = (ap (λ (x : Note). passing (by_numbers w.number_a w.number_b x)) n.said, tt)
passes_fit (Event.Call B call) note w n j = (ap (λ (x : Note). passing (by_numbers w.number_a w.number_b x)) n.said, tt)
passes_fit (Event.Out A) note w n j = subst (λ (x : Note). Fits w.number_a w.number_b x (passes_between (Event.Out A) x w)) (sym n) (refl, out_names w j)
passes_fit (Event.Out B) note w n j =
    subst (λ (x : Note). Fits w.number_a w.number_b x (passes_between (Event.Out B) x w)) (sym n)
    (refl, all_turned w.number_b w.number_a (goes_from w.number_b (note_of_message (next_output w.b))) (out_names (counterpart w) (turned_joined w j)))
passes_fit (Event.Deliver A link) note w n j = subst (λ (x : Note). Fits w.number_a w.number_b x (passes_between (Event.Deliver A link) x w)) (sym n) (come_fits w link j)
passes_fit (Event.Deliver B link) note w n j =
    let o : Option (List Bool) = arriving w.number_b (transit_of B link w) in
    let f = come_fits (counterpart w) link (turned_joined w j) in
    subst (λ (x : Note). Fits w.number_a w.number_b x (passes_between (Event.Deliver B link) x w)) (sym n)
    (came_back w link o ∙ f.0, all_turned w.number_b w.number_a (comes_to w.number_a o) f.1)
passes_fit (Event.Lose A link) note w n j = (ap (λ (x : Note). passing (by_numbers w.number_a w.number_b x)) n ∙ lost_none w.number_a w.number_b link (is_accepted (transit_of A link w)), tt)
passes_fit (Event.Lose B link) note w n j = (ap (λ (x : Note). passing (by_numbers w.number_a w.number_b x)) n ∙ lost_back w.number_a w.number_b link (is_accepted (transit_of B link w)), tt)
passes_fit (Event.Dead A link) note w n j = (ap (λ (x : Note). passing (by_numbers w.number_a w.number_b x)) n ∙ dead_none w.number_a w.number_b link (is_accepted (transit_of A link w)), tt)
passes_fit (Event.Dead B link) note w n j = (ap (λ (x : Note). passing (by_numbers w.number_a w.number_b x)) n ∙ dead_back w.number_a w.number_b link (is_accepted (transit_of B link w)), tt)
passes_fit (Event.Answer A link) note w n j = subst (λ (x : Note). Fits w.number_a w.number_b x (passes_between (Event.Answer A link) x w)) (sym n) (answer_fits w link j)
passes_fit (Event.Answer B link) note w n j =
    let o : Option (List Bool) = answering w.number_a link (answer_kind (transit_of B link w)) in
    let f = answer_fits (counterpart w) link (turned_joined w j) in
    subst (λ (x : Note). Fits w.number_a w.number_b x (passes_between (Event.Answer B link) x w)) (sym n)
    (answered_back w link o ∙ f.0, all_turned w.number_b w.number_a (comes_to w.number_b o) f.1)

-- ---- each has its place in a file

pub names_fit : (a b : ℕ) (file : List (ℕ × ImpDirection × List Bool)) → a < 256 → b < 256 → AllName a b file → AllFit file
names_fit a b [] i j n = tt
names_fit a b (one ∷ more) i j n = (go n.0.ends, n.0.short, names_fit a b more i j n.1)
  where
    go : ((one.0 ≡ a) × (n.0.leader.host ≡ b)) ⊎ ((one.0 ≡ b) × (n.0.leader.host ≡ a)) → one.0 < 256
    go (inl e) = subst (λ (x : ℕ). x < 256) (sym e.0) i
    go (inr e) = subst (λ (x : ℕ). x < 256) (sym e.0) j

pub fit_both : (xs ys : List (ℕ × ImpDirection × List Bool)) → AllFit xs → AllFit ys → AllFit (xs ++ ys)
fit_both [] ys k l = l
fit_both (x ∷ xs) ys k l = (k.0, k.1, fit_both xs ys k.2 l)

pub none_noticed : (a b : ℕ) (file : List (ℕ × ImpDirection × List Bool)) → AllName a b file → NoneNoticed file
none_noticed a b [] n = tt
none_noticed a b (one ∷ more) n = (no_notice one.1 one.2 n.0.leader n.0.led n.0.plain, none_noticed a b more n.1)

pub unnoticed_both : (xs ys : List (ℕ × ImpDirection × List Bool)) → NoneNoticed xs → NoneNoticed ys → NoneNoticed (xs ++ ys)
unnoticed_both [] ys k l = l
unnoticed_both (x ∷ xs) ys k l = (k.0, unnoticed_both xs ys k.1 l)
