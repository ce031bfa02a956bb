use Rattle.std.proofs.Common.{inl, refl, ap, ◌∙◌, Some}
use Rattle.ncp_web.specs.declared.handle.held.BoxedSession.{BoxedSession}
use Rattle.ncp_web.proofs.session.ncp_web_open.Goals as goal

pub returns-in-Ok-new-clause-opens : goal.returns-in-Ok-new-clause-opens
returns-in-Ok-new-clause-opens c = inl (c.in-Ok.stage, c.in-Ok.ensures, refl, c.put.ensures ∙ ap (λ (held : BoxedSession). Some held) c.in-Ok-new.ensures.ok)
