use Rattle.std.proofs.Common.{◌≡◌, ◌+◌, ◌++◌, length, vec_len, vec_capacity}
use Rattle.ncp_transcript.proofs.error_list.ErrorList.of.Given as goal

abbrev pub invariant-loop-error : goal.invariant-loop-error
invariant-loop-error l = record {
  items : l.list.items ++ l.error-iterator ≡ l.initial.error-iterator;
  room : vec_len l.list + length l.error-iterator ≡ vec_capacity l.list;
}
