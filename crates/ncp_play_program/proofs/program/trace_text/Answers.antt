use Rattle.std.proofs.Common.{List, ℕ, inl, inr, Ok, Err, refl, subst}
use Rattle.ncp_follow.specs.declared.follower.Follower.{Follower}
use Rattle.ncp_follow.specs.Followed.{new_follower}
use Rattle.ncp_play_follow.specs.FollowedTexts.{FollowsText}
use Rattle.ncp_play_program.proofs.program.trace_text.Goals as goal

pub returns-in_default-clause-does : goal.returns-in_default-clause-does
returns-in_default-clause-does g c = inl (refl, refl)

pub returns-in-Ok-follow_text-clause-does : goal.returns-in-Ok-follow_text-clause-does
returns-in-Ok-follow_text-clause-does g c = inr (
  Ok c.in-Ok-follow_text.there,
  refl,
  record { read_failed = c.in-Ok-follow_text.ensures.read_failed; write_failed = c.in-Ok-follow_text.ensures.write_failed; blamed = c.in-Ok-follow_text.ensures.blamed },
  λ bytes was left written.
      subst (λ (n : ℕ). FollowsText n (new_follower c.args.part) bytes was (g.S.Source.left c.follow_text.new.source) (g.W.Sink.written c.follow_text.new.sink) (Ok c.in-Ok-follow_text.there)) c.from.ensures
      (subst (λ (f : Follower). FollowsText c.from.result f bytes was (g.S.Source.left c.follow_text.new.source) (g.W.Sink.written c.follow_text.new.sink) (Ok c.in-Ok-follow_text.there)) c.in-Ok.ensures
      (c.in-Ok-follow_text.ensures.output bytes was left written)),
)

pub returns-clause-does : goal.returns-clause-does
returns-clause-does g c = inr (
  Err c.in-Err.fault,
  refl,
  record { read_failed = c.in-Err.ensures.read_failed; write_failed = c.in-Err.ensures.write_failed; blamed = c.in-Err.ensures.blamed },
  λ bytes was left written.
      subst (λ (n : ℕ). FollowsText n (new_follower c.args.part) bytes was (g.S.Source.left c.follow_text.new.source) (g.W.Sink.written c.follow_text.new.sink) (Err c.in-Err.fault)) c.from.ensures
      (subst (λ (f : Follower). FollowsText c.from.result f bytes was (g.S.Source.left c.follow_text.new.source) (g.W.Sink.written c.follow_text.new.sink) (Err c.in-Err.fault)) c.in-Ok.ensures
      (c.in-Err.ensures.output bytes was left written)),
)
