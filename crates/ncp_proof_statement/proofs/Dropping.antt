-- What the page says of notes it says of them without those that a subnet keeps to itself.
use Rattle.std.proofs.Common.{◌≡◌, ◌≤◌, ℕ, ◌+◌, Bool, true, false, List, [], ◌∷◌, ◌++◌, length, refl, sym, ap, ◌∙◌, subst}
use Rattle.ncp_model.specs.declared.pair.Pair.{Pair}
use Rattle.ncp_model.specs.Pairs.{counterpart}
use Rattle.ncp_subnet.specs.Messages.{from_host}
use Rattle.ncp_transcript.specs.declared.note.HostNote.{HostNote}
use Rattle.ncp_transcript.specs.declared.note.HostNote.TheVariants as of_host
use Rattle.ncp_transcript_two.specs.declared.side.Side.{Side}
use Rattle.ncp_transcript_two.specs.declared.note.Move.{Move}
use Rattle.ncp_transcript_two.specs.declared.note.Note.{Note}
use Rattle.ncp_transcript_two.specs.declared.note.Note.TheVariants as notes
use Rattle.ncp_transcript_two.specs.Between.{other}
use Rattle.ncp_transcript_two.specs.Honest.{MessageEvent, Sent, Arrives, Acked, Nacked, Other, sent_from, messages_coming, IsPrefixWithin}
use Rattle.ncp_statement.specs.Statement.{UserEvent, Asked, Gave, TookBits, AllowedBits, CalledBack, OtherEvent, user_event_at, user_events, given_from, given, taken_from, taken, allowed_from, allowed, TakenIsPrefix, WithinAllowance, message_event_of, message_events_of, Delivers, InOrder, Each, ReadsAll, HasNoProtocolError, Headline}
use Rattle.ncp_proof_statement.specs.Moments.{TakenBegins}
use Rattle.ncp_proof_statement.specs.Notes.{SidedNotes, as_note, as_notes, without_subnet}

-- What users did.

given-on : (u : UserEvent) (us vs : List UserEvent) → ((anew : Bool) (g : List Bool) → given_from anew g us ≡ given_from anew g vs) → (anew : Bool) (g : List Bool) → given_from anew g (u ∷ us) ≡ given_from anew g (u ∷ vs)
given-on Asked us vs k anew g = k true g
given-on (Gave text) us vs k true g = k false text
given-on (Gave text) us vs k false g = k false (g ++ text)
given-on (TookBits text) us vs k anew g = k anew g
given-on (AllowedBits bits) us vs k anew g = k anew g
given-on CalledBack us vs k anew g = k anew g
given-on UserEvent.Closed us vs k anew g = k anew g
given-on OtherEvent us vs k anew g = k anew g

taken-on : (u : UserEvent) (us vs : List UserEvent) → ((g : List Bool) → taken_from g us ≡ taken_from g vs) → (g : List Bool) → taken_from g (u ∷ us) ≡ taken_from g (u ∷ vs)
taken-on Asked us vs k g = k []
taken-on (Gave text) us vs k g = k g
taken-on (TookBits text) us vs k g = k (g ++ text)
taken-on (AllowedBits bits) us vs k g = k g
taken-on CalledBack us vs k g = k g
taken-on UserEvent.Closed us vs k g = k g
taken-on OtherEvent us vs k g = k g

allowed-on : (u : UserEvent) (us vs : List UserEvent) → ((n : ℕ) → allowed_from n us ≡ allowed_from n vs) → (n : ℕ) → allowed_from n (u ∷ us) ≡ allowed_from n (u ∷ vs)
allowed-on Asked us vs k n = k 0
allowed-on (Gave text) us vs k n = k n
allowed-on (TookBits text) us vs k n = k n
allowed-on (AllowedBits bits) us vs k n = k (n + bits)
allowed-on CalledBack us vs k n = k n
allowed-on UserEvent.Closed us vs k n = k n
allowed-on OtherEvent us vs k n = k n

module _ (side : Side) (pair : Pair) where
  given-same : (ns : List Note) (anew : Bool) (g : List Bool) → given_from anew g (user_events side pair ns) ≡ given_from anew g (user_events side pair (without_subnet ns))
  given-same [] anew g = refl
  given-same (notes.Lost by link ∷ ns) anew g = given-same ns anew g
  given-same (notes.FoundDead by link ∷ ns) anew g = given-same ns anew g
  given-same (notes.Nothing by link wanted ∷ ns) anew g = given-same ns anew g
  given-same (notes.Called by hn ∷ ns) anew g = given-on (user_event_at side pair (notes.Called by hn)) (user_events side pair ns) (user_events side pair (without_subnet ns)) (given-same ns) anew g
  given-same (notes.Out by hn ∷ ns) anew g = given-same ns anew g
  given-same (notes.Came by link hn ∷ ns) anew g = given-same ns anew g
  given-same (notes.Answered by link hn ∷ ns) anew g = given-same ns anew g

  taken-same : (ns : List Note) (g : List Bool) → taken_from g (user_events side pair ns) ≡ taken_from g (user_events side pair (without_subnet ns))
  taken-same [] g = refl
  taken-same (notes.Lost by link ∷ ns) g = taken-same ns g
  taken-same (notes.FoundDead by link ∷ ns) g = taken-same ns g
  taken-same (notes.Nothing by link wanted ∷ ns) g = taken-same ns g
  taken-same (notes.Called by hn ∷ ns) g = taken-on (user_event_at side pair (notes.Called by hn)) (user_events side pair ns) (user_events side pair (without_subnet ns)) (taken-same ns) g
  taken-same (notes.Out by hn ∷ ns) g = taken-same ns g
  taken-same (notes.Came by link hn ∷ ns) g = taken-same ns g
  taken-same (notes.Answered by link hn ∷ ns) g = taken-same ns g

  allowed-same : (ns : List Note) (n : ℕ) → allowed_from n (user_events side pair ns) ≡ allowed_from n (user_events side pair (without_subnet ns))
  allowed-same [] n = refl
  allowed-same (notes.Lost by link ∷ ns) n = allowed-same ns n
  allowed-same (notes.FoundDead by link ∷ ns) n = allowed-same ns n
  allowed-same (notes.Nothing by link wanted ∷ ns) n = allowed-same ns n
  allowed-same (notes.Called by hn ∷ ns) n = allowed-on (user_event_at side pair (notes.Called by hn)) (user_events side pair ns) (user_events side pair (without_subnet ns)) (allowed-same ns) n
  allowed-same (notes.Out by hn ∷ ns) n = allowed-same ns n
  allowed-same (notes.Came by link hn ∷ ns) n = allowed-same ns n
  allowed-same (notes.Answered by link hn ∷ ns) n = allowed-same ns n

pub within-kept : (ns : List Note) → WithinAllowance ns → WithinAllowance (without_subnet ns)
within-kept ns w side pair = subst (λ (t : List Bool). length t ≤ allowed side pair (without_subnet ns)) (taken-same side pair ns []) (subst (λ (n : ℕ). length (taken side pair ns) ≤ n) (allowed-same side pair ns 0) (w side pair))

pub begins-all : (ns : List Note) → TakenBegins ns → TakenBegins (without_subnet ns)
begins-all ns k side pair =
    let g = k side pair in
    (g.0, sym (given-same side pair ns true []) ∙ g.1 ∙ ap (λ (t : List Bool). t ++ g.0) (taken-same (other side) (counterpart pair) ns []))

-- Where a note stands.

record Splits (ns : List Note) (before : List Note) (note : Note) : Type 0 where
  front : List Note
  back : List Note
  is : ns ≡ front ++ note ∷ back
  same : without_subnet front ≡ before

abbrev first_or : Note → List Note → Note
first_or d [] = d
first_or d (n ∷ ns) = n

abbrev others : List Note → List Note
others [] = []
others (n ∷ ns) = ns

dropped : (k : Note) (ns before : List Note) (note : Note) → ((xs : List Note) → without_subnet (k ∷ xs) ≡ without_subnet xs) → Splits ns before note → Splits (k ∷ ns) before note
dropped k ns before note drops s = record { front = k ∷ s.front; back = s.back; is = ap (λ (xs : List Note). k ∷ xs) s.is; same = drops s.front ∙ s.same }

kept : (k : Note) (ns before after : List Note) (note : Note) → ((xs : List Note) → without_subnet (k ∷ xs) ≡ k ∷ without_subnet xs) → without_subnet (k ∷ ns) ≡ before ++ note ∷ after
    → ((b : List Note) → without_subnet ns ≡ b ++ note ∷ after → Splits ns b note) → Splits (k ∷ ns) before note
kept k ns [] after note keeps e rest =
    let is : k ≡ note = ap (first_or k) (sym (keeps ns) ∙ e) in
    record { front = []; back = ns; is = ap (λ (n : Note). n ∷ ns) is; same = refl }
kept k ns (b ∷ before) after note keeps e rest =
    let whole : k ∷ without_subnet ns ≡ b ∷ (before ++ note ∷ after) = sym (keeps ns) ∙ e in
    let is : k ≡ b = ap (first_or k) whole in
    let s : Splits ns before note = rest before (ap others whole) in
    record { front = k ∷ s.front; back = s.back; is = ap (λ (xs : List Note). k ∷ xs) s.is; same = keeps s.front ∙ ap (λ (xs : List Note). k ∷ xs) s.same ∙ ap (λ (n : Note). n ∷ before) is }

splits : (ns before after : List Note) (note : Note) → without_subnet ns ≡ before ++ note ∷ after → Splits ns before note
splits [] [] after note e = absurd (cc e)
splits [] (b ∷ before) after note e = absurd (cc e)
splits (notes.Lost by link ∷ ns) before after note e = dropped (notes.Lost by link) ns before note (λ xs. refl) (splits ns before after note e)
splits (notes.FoundDead by link ∷ ns) before after note e = dropped (notes.FoundDead by link) ns before note (λ xs. refl) (splits ns before after note e)
splits (notes.Nothing by link wanted ∷ ns) before after note e = dropped (notes.Nothing by link wanted) ns before note (λ xs. refl) (splits ns before after note e)
splits (notes.Called by hn ∷ ns) before after note e = kept (notes.Called by hn) ns before after note (λ xs. refl) e (λ b x. splits ns b after note x)
splits (notes.Out by hn ∷ ns) before after note e = kept (notes.Out by hn) ns before after note (λ xs. refl) e (λ b x. splits ns b after note x)
splits (notes.Came by link hn ∷ ns) before after note e = kept (notes.Came by link hn) ns before after note (λ xs. refl) e (λ b x. splits ns b after note x)
splits (notes.Answered by link hn ∷ ns) before after note e = kept (notes.Answered by link hn) ns before after note (λ xs. refl) e (λ b x. splits ns b after note x)

pub goes-kept : (ns : List Note) → TakenIsPrefix ns → TakenIsPrefix (without_subnet ns)
goes-kept ns k before after side peer pair bytes text e =
    let s : Splits ns before (notes.Called side (of_host.Took peer pair bytes text)) = splits ns before after (notes.Called side (of_host.Took peer pair bytes text)) e in
    let g = k s.front s.back side peer pair bytes text s.is in
    let given_is : given (other side) (counterpart pair) s.front ≡ given (other side) (counterpart pair) before = given-same (other side) (counterpart pair) s.front true [] ∙ ap (given (other side) (counterpart pair)) s.same in
    let taken_is : taken side pair s.front ≡ taken side pair before = taken-same side pair s.front [] ∙ ap (taken side pair) s.same in
    (g.0, sym given_is ∙ g.1 ∙ ap (λ (t : List Bool). (t ++ text) ++ g.0) taken_is)

-- Messages.

coming-on : (d : MessageEvent) (ds es : List MessageEvent) → messages_coming ds ≡ messages_coming es → messages_coming (d ∷ ds) ≡ messages_coming (d ∷ es)
coming-on (Sent m) ds es k = k
coming-on (Arrives m) ds es k = ap (λ (xs : List (List Bool)). m ∷ xs) k
coming-on Acked ds es k = k
coming-on Nacked ds es k = k
coming-on Other ds es k = k

sent-on : (n : ℕ) (d : MessageEvent) (ds es : List MessageEvent) → ((fresh : Bool) → sent_from n fresh ds ≡ sent_from n fresh es) → (fresh : Bool) → sent_from n fresh (d ∷ ds) ≡ sent_from n fresh (d ∷ es)
sent-on n (Sent m) ds es k true = ap (λ (xs : List (List Bool)). from_host n m ∷ xs) (k true)
sent-on n (Sent m) ds es k false = k false
sent-on n (Arrives m) ds es k true = k true
sent-on n (Arrives m) ds es k false = k false
sent-on n Acked ds es k true = k true
sent-on n Acked ds es k false = k true
sent-on n Nacked ds es k true = k false
sent-on n Nacked ds es k false = k false
sent-on n Other ds es k true = k true
sent-on n Other ds es k false = k false

module _ (n : ℕ) (side : Side) (on : ℕ) where
  coming-same : (ns : List Note) → messages_coming (message_events_of side on ns) ≡ messages_coming (message_events_of side on (without_subnet ns))
  coming-same [] = refl
  coming-same (notes.Lost by link ∷ ns) = coming-same ns
  coming-same (notes.FoundDead by link ∷ ns) = coming-same ns
  coming-same (notes.Nothing by link wanted ∷ ns) = coming-same ns
  coming-same (notes.Called by hn ∷ ns) = coming-same ns
  coming-same (notes.Out by hn ∷ ns) = coming-on (message_event_of side on (notes.Out by hn)) (message_events_of side on ns) (message_events_of side on (without_subnet ns)) (coming-same ns)
  coming-same (notes.Came by link hn ∷ ns) = coming-on (message_event_of side on (notes.Came by link hn)) (message_events_of side on ns) (message_events_of side on (without_subnet ns)) (coming-same ns)
  coming-same (notes.Answered by link hn ∷ ns) = coming-on (message_event_of side on (notes.Answered by link hn)) (message_events_of side on ns) (message_events_of side on (without_subnet ns)) (coming-same ns)

  sent-same : (ns : List Note) (fresh : Bool) → sent_from n fresh (message_events_of side on ns) ≡ sent_from n fresh (message_events_of side on (without_subnet ns))
  sent-same [] fresh = refl
  sent-same (notes.Lost by link ∷ ns) true = sent-same ns true
  sent-same (notes.Lost by link ∷ ns) false = sent-same ns false
  sent-same (notes.FoundDead by link ∷ ns) true = sent-same ns true
  sent-same (notes.FoundDead by link ∷ ns) false = sent-same ns false
  sent-same (notes.Nothing by link wanted ∷ ns) true = sent-same ns true
  sent-same (notes.Nothing by link wanted ∷ ns) false = sent-same ns false
  sent-same (notes.Called by hn ∷ ns) true = sent-same ns true
  sent-same (notes.Called by hn ∷ ns) false = sent-same ns false
  sent-same (notes.Out by hn ∷ ns) fresh = sent-on n (message_event_of side on (notes.Out by hn)) (message_events_of side on ns) (message_events_of side on (without_subnet ns)) (sent-same ns) fresh
  sent-same (notes.Came by link hn ∷ ns) fresh = sent-on n (message_event_of side on (notes.Came by link hn)) (message_events_of side on ns) (message_events_of side on (without_subnet ns)) (sent-same ns) fresh
  sent-same (notes.Answered by link hn ∷ ns) fresh = sent-on n (message_event_of side on (notes.Answered by link hn)) (message_events_of side on ns) (message_events_of side on (without_subnet ns)) (sent-same ns) fresh

  begins-kept : (ns : List Note) → IsPrefixWithin 1 (messages_coming (message_events_of side on ns)) (sent_from n true (message_events_of side on ns)) → IsPrefixWithin 1 (messages_coming (message_events_of side on (without_subnet ns))) (sent_from n true (message_events_of side on (without_subnet ns)))
  begins-kept ns k =
      subst (λ (xs : List (List Bool)). IsPrefixWithin 1 xs (sent_from n true (message_events_of side on (without_subnet ns)))) (coming-same ns)
      (subst (IsPrefixWithin 1 (messages_coming (message_events_of side on ns))) (sent-same ns true) k)

pub in_order-kept : (a b : ℕ) (ns : List Note) → InOrder a b ns → InOrder a b (without_subnet ns)
in_order-kept a b ns k side on = begins-kept _ side on ns (k side on)

-- Each note.

pub each-kept : (P : Note → Type 0) (ns : List Note) → Each P ns → Each P (without_subnet ns)
each-kept P [] k = tt
each-kept P (notes.Lost by link ∷ ns) k = each-kept P ns k.1
each-kept P (notes.FoundDead by link ∷ ns) k = each-kept P ns k.1
each-kept P (notes.Nothing by link wanted ∷ ns) k = each-kept P ns k.1
each-kept P (notes.Called by hn ∷ ns) k = (k.0, each-kept P ns k.1)
each-kept P (notes.Out by hn ∷ ns) k = (k.0, each-kept P ns k.1)
each-kept P (notes.Came by link hn ∷ ns) k = (k.0, each-kept P ns k.1)
each-kept P (notes.Answered by link hn ∷ ns) k = (k.0, each-kept P ns k.1)

-- Two hosts by themselves note nothing of what a subnet could not do.

abbrev is_impossible : Note → Bool
is_impossible (notes.Nothing by link wanted) = true
is_impossible note = false

none-vain : (by : Side) (hn : HostNote) → is_impossible (as_note by hn) ≡ false
none-vain by (of_host.Refused call fault) = refl
none-vain by (of_host.Done call) = refl
none-vain by (of_host.Took peer pair bytes text) = refl
none-vain by (of_host.State peer pair r) = refl
none-vain by (of_host.Phase peer flags) = refl
none-vain by (of_host.Echoed peer byte) = refl
none-vain by (of_host.Errors peer errors) = refl
none-vain by (of_host.Counts peer counts) = refl
none-vain by (of_host.Waiting peer place command) = refl
none-vain by (of_host.Kept peer link message) = refl
none-vain by (of_host.Ignored ignored) = refl
none-vain by (of_host.Out message) = refl
none-vain by of_host.Nothing = refl
none-vain by (of_host.In message told) = refl
none-vain by (of_host.Answered peer link how told) = refl

pub never-vain : (ns : SidedNotes) (before after : List Note) (side : Side) (link : ℕ) (wanted : Move) → as_notes ns ≡ before ++ notes.Nothing side link wanted ∷ after → ⊥
never-vain [] [] after side link wanted e = cc e
never-vain [] (b ∷ before) after side link wanted e = cc e
never-vain (n ∷ ns) [] after side link wanted e =
    let is : as_note n.0 n.1 ≡ notes.Nothing side link wanted = ap (first_or (as_note n.0 n.1)) e in
    let no : true ≡ false = sym (ap is_impossible is) ∙ none-vain n.0 n.1 in
    cc no
never-vain (n ∷ ns) (b ∷ before) after side link wanted e = never-vain ns before after side link wanted (ap others e)

-- The page.

pub page-kept : (a b : ℕ) (more : List Note) (ns : SidedNotes) → Headline a b more → Delivers a b (as_notes ns) → without_subnet more ≡ as_notes ns → Headline a b (as_notes ns)
page-kept a b more ns h honest is = record {
  taken_is_prefix = subst TakenIsPrefix is (goes-kept more h.taken_is_prefix);
  within_allowance = subst WithinAllowance is (within-kept more h.within_allowance);
  delivers = honest;
  in_order = subst (InOrder a b) is (in_order-kept a b more h.in_order);
  accepted_by_subnet = λ before after side link wanted e. absurd (never-vain ns before after side link wanted e);
  each_command_read = subst (Each ReadsAll) is (each-kept ReadsAll more h.each_command_read);
  no_protocol_error = subst (Each HasNoProtocolError) is (each-kept HasNoProtocolError more h.no_protocol_error);
}
