use Rattle.std.proofs.Common.{List, ℕ, inl, inr, Ok, Err, refl, subst}
use Rattle.ncp_follow.specs.declared.follower.Follower.{Follower}
use Rattle.ncp_follow.specs.Followed.{new_follower}
use Rattle.ncp_play_follow.specs.FollowedFiles.{Follows}
use Rattle.ncp_play_program.proofs.program.trace_lines.Goals as goal

pub returns-in_default-clause-does : goal.returns-in_default-clause-does
returns-in_default-clause-does g c = inl (refl, refl)

pub returns-in-Ok-follow-clause-does : goal.returns-in-Ok-follow-clause-does
returns-in-Ok-follow-clause-does g c = inr (
  Ok tt,
  refl,
  record { read_failed = c.in-Ok-follow.ensures.read_failed; write_failed = c.in-Ok-follow.ensures.write_failed; blamed = c.in-Ok-follow.ensures.blamed },
  λ bytes was left written.
      subst (λ (f : Follower). Follows c.args.letters f bytes was (g.S.Source.left c.follow.new.source) (g.W.Sink.written c.follow.new.sink) (Ok tt)) c.in-Ok.ensures
      (c.in-Ok-follow.ensures.output bytes was left written),
)

pub returns-clause-does : goal.returns-clause-does
returns-clause-does g c = inr (
  Err c.in-Err.fault,
  refl,
  record { read_failed = c.in-Err.ensures.read_failed; write_failed = c.in-Err.ensures.write_failed; blamed = c.in-Err.ensures.blamed },
  λ bytes was left written.
      subst (λ (f : Follower). Follows c.args.letters f bytes was (g.S.Source.left c.follow.new.source) (g.W.Sink.written c.follow.new.sink) (Err c.in-Err.fault)) c.in-Ok.ensures
      (c.in-Err.ensures.output bytes was left written),
)
