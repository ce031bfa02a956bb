use Rattle.ncp_transcript.proofs.room.Room.new.Goals as goal

pub invariant_of-result : goal.invariant_of-result
invariant_of-result c = c.in_ok-with_capacity.ensures.capacity
