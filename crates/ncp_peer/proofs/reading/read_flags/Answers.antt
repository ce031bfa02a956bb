use Rattle.std.proofs.Common.{◌≡◌, Bool, Ok, ap}
use Rattle.ncp_phase.specs.declared.flags.Flags.{Flags}
use Rattle.ncp_peer.proofs.reading.read_flags.Goals as goal

made : Bool × Bool × Bool × Bool → Flags
made m = record { down = m.0; want = m.1; owe = m.2; wait = m.3 }

pub returns-in_err-down : goal.returns-in_err-down
returns-in_err-down c = record {
  reads = λ f rest e. absurd (let read = c.read_marks.ensures.reads (f.down, f.want, f.owe, f.wait) rest e in let was = c.in_err-down.was in cc);
}

pub returns : goal.returns
unfolding made
returns c = record {
  reads = λ f rest e.
      let read = c.read_marks.ensures.reads (f.down, f.want, f.owe, f.wait) rest e in
      let same : ◌≡◌ {A = Bool × Bool × Bool × Bool} (c.in_ok-down.down, c.in_ok-down.want, c.in_ok-down.owe, c.in_ok-down.wait) (f.down, f.want, f.owe, f.wait) = (let was = c.in_ok-down.was in let is = read.0 in cc) in
      (ap (λ (m : Bool × Bool × Bool × Bool). Ok (made m)) same, read.1);
}
