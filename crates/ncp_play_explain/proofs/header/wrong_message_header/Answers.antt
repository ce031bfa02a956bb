-- What each branch tells.
use Rattle.std.proofs.Common.{◌≡◌, ◌==◌, ◌++◌, false, length, sym, ◌∙◌, codes, decimal}
use Rattle.std.specs.String.{string_bytes}
use Rattle.std.proofs.lemmas.Result.{IfOk-weaker}
use Rattle.std.proofs.lemmas.Bool.{lt-ltb}
use Rattle.ncp_play_explain.specs.Headers.{message_header_printed, wanted}
use Rattle.ncp_play_explain.proofs.HeaderTexts.{printed_host, printed_hosts, printed_many, printed_hexadecimal, printed_short}
use Rattle.ncp_play_explain.proofs.header.wrong_message_header.Goals as goal
use Rattle.ncp_play_explain.proofs.header.wrong_message_header.Goals.{then-starts_with-2-via-then-starts_with-2, then-starts_with-2-via-else-starts_with-2+then-starts_with-3}

pub returns-then-starts_with : goal.returns-then-starts_with
returns-then-starts_with c = record {
  output = IfOk-weaker c.format-then-starts_with.result (λ s. string_bytes s ≡ codes "this is a script of one host: ncp host plays it") (λ s. string_bytes s ≡ message_header_printed c.args.head.now)
      (λ s h. h ∙ sym (printed_host c.args.head.now (sym c.is_empty.ensures ∙ c.if-is_empty.false) (sym c.starts_with.ensures.value ∙ c.if-starts_with.true)))
      c.format-then-starts_with.ensures.ok;
}

pub returns-then-starts_with-2 : goal.returns-then-starts_with-2
returns-then-starts_with-2 c =
    let some : (length c.args.head.now == 0) ≡ false = sym c.is_empty.ensures ∙ c.if-is_empty.false in
    record {
      output = IfOk-weaker c.format-then-starts_with-2.result (λ s. string_bytes s ≡ codes "this is a script of several hosts: ncp world plays it") (λ s. string_bytes s ≡ message_header_printed c.args.head.now)
          (λ s h. h ∙ sym (elim c.then-starts_with-2.branch [
            | then-starts_with-2-via-then-starts_with-2 w ↦ printed_hosts c.args.head.now some (sym c.starts_with.ensures.value ∙ c.if-starts_with.false) (sym c.starts_with-2.ensures.value ∙ w.if-starts_with-2.true)
            | then-starts_with-2-via-else-starts_with-2+then-starts_with-3 w ↦ printed_many c.args.head.now some (sym c.starts_with.ensures.value ∙ c.if-starts_with.false) (sym c.starts_with-2.ensures.value ∙ w.if-starts_with-2.false) (sym w.starts_with-else-starts_with-2.ensures.value ∙ w.if-starts_with-3.true)
          ]))
          c.format-then-starts_with-2.ensures.ok;
    }

pub returns-then-is_hexadecimal : goal.returns-then-is_hexadecimal
returns-then-is_hexadecimal c =
    let some : (length c.args.head.now == 0) ≡ false = sym c.is_empty.ensures ∙ c.if-is_empty.false in
    record {
      output = IfOk-weaker c.format-then-is_hexadecimal.result (λ s. string_bytes s ≡ codes "this is hexadecimal text; 'xxd -r -p' makes bytes of it: " ++ wanted) (λ s. string_bytes s ≡ message_header_printed c.args.head.now)
          (λ s h. h ∙ sym (printed_hexadecimal c.args.head.now some (sym c.starts_with.ensures.value ∙ c.if-starts_with.false) (sym c.starts_with-2.ensures.value ∙ c.if-starts_with-2.false) (sym c.starts_with-else-starts_with-2.ensures.value ∙ c.if-starts_with-3.false) (sym c.is_hexadecimal.ensures ∙ c.if-is_hexadecimal.true)))
          c.format-then-is_hexadecimal.ensures.ok;
    }

pub returns-in_default : goal.returns-in_default
returns-in_default c =
    let some : (length c.args.head.now == 0) ≡ false = sym c.is_empty.ensures ∙ c.if-is_empty.false in
    record {
      output = IfOk-weaker c.format-in_default.result (λ s. string_bytes s ≡ codes "there are " ++ (decimal (length c.args.head.now) ++ (codes " bytes: " ++ wanted))) (λ s. string_bytes s ≡ message_header_printed c.args.head.now)
          (λ s h. h ∙ sym (printed_short c.args.head.now some (sym c.starts_with.ensures.value ∙ c.if-starts_with.false) (sym c.starts_with-2.ensures.value ∙ c.if-starts_with-2.false) (sym c.starts_with-else-starts_with-2.ensures.value ∙ c.if-starts_with-3.false) (sym c.is_hexadecimal.ensures ∙ c.if-is_hexadecimal.false) (lt-ltb (length c.args.head.now) 4 c.in_default.len_below)))
          c.format-in_default.ensures.ok;
    }
