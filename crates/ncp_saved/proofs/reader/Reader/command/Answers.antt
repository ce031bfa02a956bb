-- The opcode tells an ERR from the others.
use Rattle.std.proofs.Common.{◌≡◌, ◌++◌, Ok, true≢false, inl, inr, sym, ap, ◌∙◌, subst}
use Rattle.ncp_wire.specs.declared.command.Command.TheVariants.{Err}
use Rattle.ncp_model.specs.declared.outcomes.Error.{Error}
use Rattle.ncp_saved.specs.Values.{error_saved}
use Rattle.ncp_saved.proofs.Commands.{AreSmall, which}
use Rattle.ncp_saved.proofs.reader.Reader.command.Goals as goal

pub returns-in_err-byte : goal.returns-in_err-byte
returns-in_err-byte c = record {
  reads = λ command rest has e.
      elim (which command c.args.self.now rest (subst AreSmall c.self.view_is c.is_error.ensures.bytes) has e) [
        | inl is ↦ absurd (let read = c.byte.ensures.reads 11 (error_saved is.error ++ rest) is.are in let was = c.in_err-byte.was in cc)
        | inr is ↦ absurd (true≢false (sym c.if-is_error.true ∙ c.is_error.ensures.first is.first is.behind (c.self.view_is ∙ is.begins) ∙ is.other))
      ];
}

pub returns-in_err-code : goal.returns-in_err-code
returns-in_err-code c = record {
  reads = λ command rest has e.
      elim (which command c.args.self.now rest (subst AreSmall c.self.view_is c.is_error.ensures.bytes) has e) [
        | inl is ↦ absurd (let read = c.error.ensures.reads is.error rest is.ten (c.byte.ensures.reads 11 (error_saved is.error ++ rest) is.are).1 in let was = c.in_err-code.was in cc)
        | inr is ↦ absurd (true≢false (sym c.if-is_error.true ∙ c.is_error.ensures.first is.first is.behind (c.self.view_is ∙ is.begins) ∙ is.other))
      ];
}

pub returns-then-is_error : goal.returns-then-is_error
returns-then-is_error c = record {
  reads = λ command rest has e.
      elim (which command c.args.self.now rest (subst AreSmall c.self.view_is c.is_error.ensures.bytes) has e) [
        | inl is ↦
            let read = c.error.ensures.reads is.error rest is.ten (c.byte.ensures.reads 11 (error_saved is.error ++ rest) is.are).1 in
            let same : c.in_ok-code.field-0 ≡ is.error = (let was = c.in_ok-code.was in cc) in
            (ap (λ (error : Error). Ok (Err error.code error.bytes)) same ∙ ap Ok is.is, read.1)
        | inr is ↦ absurd (true≢false (sym c.if-is_error.true ∙ c.is_error.ensures.first is.first is.behind (c.self.view_is ∙ is.begins) ∙ is.other))
      ];
}

pub returns : goal.returns
returns c = record {
  reads = λ command rest has e.
      elim (which command c.args.self.now rest (subst AreSmall c.self.view_is c.is_error.ensures.bytes) has e) [
        | inl is ↦ absurd (true≢false (sym (c.is_error.ensures.first 11 (error_saved is.error ++ rest) (c.self.view_is ∙ is.are)) ∙ c.if-is_error.false))
        | inr is ↦ c.other_command.ensures.reads command rest is.fits is.are
      ];
}
