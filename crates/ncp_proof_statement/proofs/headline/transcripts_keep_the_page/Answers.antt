use Rattle.ncp_proof_statement.proofs.headline.transcripts_keep_the_page.Goals as goal

pub returns : goal.returns
returns c ns w t = record {
  taken_is_prefix = c.taken_is_prefix.ensures ns w t;
  within_allowance = c.what_is_taken_is_within_the_allowance.ensures ns w t;
  delivers = c.messages_are_delivered.ensures ns w t;
  in_order = c.messages_come_in_order.ensures ns w t;
  accepted_by_subnet = c.each_output_is_accepted.ensures.vain ns w t;
  each_command_read = c.each_command_is_read.ensures.read ns w t;
  no_protocol_error = c.none_complains.ensures ns w t;
}
