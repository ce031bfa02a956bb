-- Parts of a saved host, used in the contracts of private functions.
use Rattle.std.specs.Prelude.{◌≡◌, ℕ, Bool, List, [], ◌∷◌, ◌++◌, length, map, Some}
use Rattle.ncp_numbers.specs.Bytes.{bytes_of}
use Rattle.ncp_slot.specs.Slot.{kept_message}
use Rattle.ncp_slot.specs.Slots.{LinkSlot}
use Rattle.ncp_model.specs.Peers.{Peer}
use Rattle.ncp_conn.specs.declared.record.Record.{Record}
use Rattle.ncp_conn.specs.Restoring.{end_told}
use Rattle.ncp_saved.specs.Values.{mark, bits_saved}
use Rattle.ncp_phase.specs.SavedPhase.{phase_saved, echoes_saved}
use Rattle.ncp_peer.specs.SavedPeer.{slot_saved, end_saved, ends_saved}

-- the flags of an endpoint
abbrev pub standing_saved : Record → List ℕ
standing_saved r = map mark (r.asked ∷ r.heard ∷ r.opened ∷ r.leaving ∷ r.left ∷ r.cls ∷ r.busy ∷ r.recall ∷ [])

-- an endpoint was appended without its stored bits: with these after it, it is complete
abbrev pub IsPutButForBits : Record → ℕ → List ℕ → List ℕ → Type 0
IsPutButForBits r room before now =
    (stored : List Bool) → length stored ≡ r.stored → now ++ bytes_of stored ≡ before ++ end_saved (end_told r stored room)

-- the phase, the connections and the echoes
abbrev pub association_saved : Peer → List ℕ
association_saved p = phase_saved p.phase ++ ends_saved p.ends ++ echoes_saved p.echoes

-- the byte for the state of the message on a link
abbrev pub IsKindOf : ℕ → LinkSlot → Type 0
IsKindOf byte slot = (message : List Bool) → kept_message slot ≡ Some message → slot_saved slot ≡ byte ∷ bits_saved message
