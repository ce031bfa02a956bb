-- The representation of a table: pairs with their endpoints, under keys.
use Rattle.std.specs.Prelude.{◌≡◌, ℕ, ◌+◌, ◌≤◌, Bool, true, false, if◌then◌else◌, List, [], ◌∷◌, Option, None, Some}
use Rattle.std.specs.List.{count_by}
use Rattle.std.specs.FinMap.{find}
use Rattle.slab.specs.Slab.{Slab, get, values, Updates}
use Rattle.ncp_model.specs.declared.pair.Pair.{Pair}
use Rattle.ncp_model.specs.declared.limits.TheConstants.{MAX_OWN, MAX_BY_PEER}
use Rattle.ncp_model.specs.Pairs.{pair_cmp}
use Rattle.ncp_model.specs.Endpoint.{Endpoint, is_ended}
use Rattle.ncp_model.specs.Ends.{has_asked, is_by_peer, hears_link, uses_link}
use Rattle.ncp_conn.specs.Indexes.{IsIndex, LeadsTo}
use Rattle.ncp_conn.specs.Sending.{AreSending, Notes}
use Rattle.ncp_conn.specs.declared.entries.Entries.{Entries}

-- no two entries have the same pair, and no endpoint is over
abbrev pub AreEntries : List (Pair × Endpoint) → Type 0
AreEntries [] = Unit {0}
AreEntries (e ∷ es) = (find pair_cmp e.0 es ≡ None) × (is_ended e.1 ≡ false) × AreEntries es

-- the invariant of the entries of a table
pub record IsTable (es : List (Pair × Endpoint)) (capacity : ℕ) : Type 0 where
  pub are : AreEntries es
  pub own : count_by has_asked es ≤ MAX_OWN
  pub by_peer : count_by is_by_peer es ≤ MAX_BY_PEER
  pub room : MAX_OWN + MAX_BY_PEER ≤ capacity
  -- at most one sending endpoint heard a link, and at most one receiving endpoint uses it
  pub hears : (on : ℕ) → count_by (hears_link on) es ≤ 1
  pub uses : (on : ℕ) → count_by (uses_link on) es ≤ 1

module _ {S : Type 0} where
  -- the whole invariant: each link identifies the sending entry that heard it and the receiving entry
  -- that asked with it, and the set of links on which a text may be sent is right
  pub record IsKept (e : Entries S) : Type 0 where
    pub table : IsTable (values e.slab) e.slab.capacity
    pub senders : IsIndex hears_link e.senders e.slab
    pub receivers : IsIndex uses_link e.receivers e.slab
    pub sending : AreSending e.sending e.senders e.slab

  -- the slab is updated at one key, and the links of an entry identify a key, or none
  pub record Puts (old new : Entries S) (key : ℕ) (slot : Option (Pair × Endpoint)) (p : Pair × Endpoint) (to : Option ℕ) : Type 0 where
    pub updates : Updates old.slab new.slab key slot
    pub capacity : new.slab.capacity ≡ old.slab.capacity
    pub senders : LeadsTo hears_link p to old.senders new.senders
    pub receivers : LeadsTo uses_link p to old.receivers new.receivers

  -- the links of an entry identify its key, and the set records whether a text may be sent on them
  pub record Led (old new : Entries S) (key : ℕ) (p : Pair × Endpoint) : Type 0 where
    pub slab : new.slab ≡ old.slab
    pub senders : LeadsTo hears_link p (Some key) old.senders new.senders
    pub receivers : LeadsTo uses_link p (Some key) old.receivers new.receivers
    pub sending : Notes p old.sending new.sending

  -- the set records whether a text may be sent on the links of an entry; if its endpoint is over, it is
  -- removed and its links identify none
  pub record Settled (old new : Entries S) (key : ℕ) (p : Pair × Endpoint) : Type 0 where
    pub sending : Notes p old.sending new.sending
    pub stays : is_ended p.1 ≡ false → new ≡ record old { sending = new.sending }
    pub leaves : is_ended p.1 ≡ true → Puts old new key None p None

-- the first key whose value passes a test
abbrev pub key_of : {A : Type 0} → (A → Bool) → List (ℕ × A) → Option ℕ
key_of test [] = None
key_of test (e ∷ es) = if test e.1 then Some e.0 else key_of test es

-- the key of a pair's entry; None: it has no entry
abbrev pub Found : Slab (Pair × Endpoint) → Pair → Option ℕ → Type 0
Found s pair None = find pair_cmp pair (values s) ≡ None
Found s pair (Some key) = (e : Endpoint) × (get s key ≡ Some (pair, e))
