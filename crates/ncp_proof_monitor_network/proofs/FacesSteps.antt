-- What both hosts count of one connection, through what is said of it, and through its texts.
use Rattle.std.proofs.Common.{◌≡◌, ℕ, ◌+◌, ◌*◌, ◌≤◌, true, false, refl, arith}
use Rattle.std.proofs.Math.Nat.{mul-le-mul_right}
use Rattle.ncp_monitor.specs.Allocation.{part_returned}
use Rattle.ncp_proof_monitor_allocation.proofs.Words.{Count}
use Rattle.ncp_proof_monitor_network.proofs.Tallied.{Faces, counted_on, counted_off, recalled_by, returned_by}

-- of smaller counts at most as much is given back

pub part_of_all : (n f : ℕ) → part_returned n f ≤ n
part_of_all n f = omega arith

pub part_monotone : (a b f : ℕ) → a ≤ b → part_returned a f ≤ part_returned b f
part_monotone a b f e = let t : a * f ≤ b * f = mul-le-mul_right f e in omega (arith, e, t)

-- an ALL of the receiver, which the sender hears
pub faces_grant : {r s : Count} {om ob tm tb : ℕ} (messages bits : ℕ) → Faces r s om ob tm tb → Faces (counted_on messages bits r) (counted_on messages bits s) om ob tm tb
faces_grant messages bits k = record { messages = let a = k.messages in omega (arith, a); bits = let b = k.bits in omega (arith, b); recall = k.recall }

-- a GVB of the receiver: what the sender takes off it owes
pub faces_recall : {r s : Count} {om ob tm tb : ℕ} (pm pb fm fb : ℕ) → om ≡ 0 → ob ≡ 0 → pm ≤ part_returned s.messages fm → pb ≤ part_returned s.bits fb → Faces r s om ob tm tb
    → Faces (recalled_by true fm fb r) (recalled_by false fm fb s) pm pb tm tb
faces_recall {r} {s} {om} {ob} {tm} {tb} pm pb fm fb e f g h k = record {
  messages = let a = k.messages in let p = part_of_all s.messages fm in omega (arith, a, p, g);
  bits = let b = k.bits in let p = part_of_all s.bits fb in omega (arith, b, p, h);
  recall = refl;
}

-- a RET of the sender: the sender no longer owes it, and the receiver takes it off
pub faces_return : {r s : Count} {om ob tm tb : ℕ} (pm pb messages bits : ℕ) → pm + messages ≤ om → pb + bits ≤ ob → Faces r s om ob tm tb → Faces (returned_by false messages bits r) (returned_by true messages bits s) pm pb tm tb
faces_return pm pb messages bits e f k = record {
  messages = let a = k.messages in omega (arith, a, e);
  bits = let b = k.bits in omega (arith, b, f);
  recall = refl;
}

-- a reply that was left out is no longer owed, and a text that arrived is not underway
pub faces_fall : {r s : Count} {om ob tm tb : ℕ} (pm pb um ub : ℕ) → pm ≤ om → pb ≤ ob → um ≤ tm → ub ≤ tb → Faces r s om ob tm tb → Faces r s pm pb um ub
faces_fall pm pb um ub e f g h k = record { messages = let a = k.messages in omega (arith, a, e, g); bits = let b = k.bits in omega (arith, b, f, h); recall = k.recall }

-- a text of the sender comes
pub faces_in : {r s : Count} {om ob : ℕ} (bits : ℕ) → Faces r s om ob 1 bits → Faces (counted_off 1 bits r) s om ob 0 0
faces_in bits k = record { messages = let a = k.messages in omega (arith, a); bits = let b = k.bits in omega (arith, b); recall = k.recall }
