use Rattle.ncp_play_audit.proofs.rule_words.push_rule.Goals as goal

pub returns-in-OwnHost-clause-bytes : goal.returns-in-OwnHost-clause-bytes
returns-in-OwnHost-clause-bytes c = rw c.in-OwnHost.is c.push_kind_and_link.ensures.bytes

pub returns-in-WrongLink-clause-bytes : goal.returns-in-WrongLink-clause-bytes
returns-in-WrongLink-clause-bytes c = rw c.in-WrongLink.is c.push_one-in-WrongLink.ensures.bytes

pub returns-in-WrongSize-clause-bytes : goal.returns-in-WrongSize-clause-bytes
returns-in-WrongSize-clause-bytes c = rw c.in-WrongSize.is c.push_one-in-WrongSize.ensures.bytes

pub returns-in-Stray-clause-bytes : goal.returns-in-Stray-clause-bytes
returns-in-Stray-clause-bytes c = rw c.in-Stray.is c.push_kind_and_link-in-Stray.ensures.bytes

pub returns-in-RrpUnasked-clause-bytes : goal.returns-in-RrpUnasked-clause-bytes
returns-in-RrpUnasked-clause-bytes c = rw c.in-RrpUnasked.is c.push_text-in-RrpUnasked.ensures.bytes

pub returns-in-MissingRrp-clause-bytes : goal.returns-in-MissingRrp-clause-bytes
returns-in-MissingRrp-clause-bytes c = rw c.in-MissingRrp.is c.push_text-in-MissingRrp.ensures.bytes

pub returns-in-ErrUnjust-clause-bytes : goal.returns-in-ErrUnjust-clause-bytes
returns-in-ErrUnjust-clause-bytes c = rw c.in-ErrUnjust.is c.push_error.ensures.bytes

pub returns-in-LinkRange-clause-bytes : goal.returns-in-LinkRange-clause-bytes
returns-in-LinkRange-clause-bytes c = rw c.in-LinkRange.is c.push_named-in-LinkRange.ensures.bytes

pub returns-in-AskedAgain-clause-bytes : goal.returns-in-AskedAgain-clause-bytes
returns-in-AskedAgain-clause-bytes c = rw c.in-AskedAgain.is c.push_since.ensures.bytes

pub returns-in-Unended-clause-bytes : goal.returns-in-Unended-clause-bytes
returns-in-Unended-clause-bytes c = rw c.in-Unended.is c.push_since-in-Unended.ensures.bytes

pub returns-in-ClsAgain-clause-bytes : goal.returns-in-ClsAgain-clause-bytes
returns-in-ClsAgain-clause-bytes c = rw c.in-ClsAgain.is c.push_since-in-ClsAgain.ensures.bytes

pub returns-in-NotOpen-clause-bytes : goal.returns-in-NotOpen-clause-bytes
returns-in-NotOpen-clause-bytes c = rw c.in-NotOpen.is c.push_not_open.ensures.bytes

pub returns-in-OverLimit-clause-bytes : goal.returns-in-OverLimit-clause-bytes
returns-in-OverLimit-clause-bytes c = rw c.in-OverLimit.is c.push_over_limit.ensures.bytes

pub returns-in-GvbAgain-clause-bytes : goal.returns-in-GvbAgain-clause-bytes
returns-in-GvbAgain-clause-bytes c = rw c.in-GvbAgain.is c.push_named-in-GvbAgain.ensures.bytes

pub returns-in-RetUnasked-clause-bytes : goal.returns-in-RetUnasked-clause-bytes
returns-in-RetUnasked-clause-bytes c = rw c.in-RetUnasked.is c.push_named-in-RetUnasked.ensures.bytes

pub returns-in-RetOther-clause-bytes : goal.returns-in-RetOther-clause-bytes
returns-in-RetOther-clause-bytes c = rw c.in-RetOther.is c.push_named_amounts.ensures.bytes

pub returns-in-RetOver-clause-bytes : goal.returns-in-RetOver-clause-bytes
returns-in-RetOver-clause-bytes c = rw c.in-RetOver.is c.push_named_amounts-in-RetOver.ensures.bytes

pub returns-in-TextNotOpen-clause-bytes : goal.returns-in-TextNotOpen-clause-bytes
returns-in-TextNotOpen-clause-bytes c = rw c.in-TextNotOpen.is c.push_text_not_open.ensures.bytes

pub returns-in-TextSize-clause-bytes : goal.returns-in-TextSize-clause-bytes
returns-in-TextSize-clause-bytes c = rw c.in-TextSize.is c.push_text_size.ensures.bytes

pub returns-in-TextOver-clause-bytes : goal.returns-in-TextOver-clause-bytes
returns-in-TextOver-clause-bytes c = rw c.in-TextOver.is c.push_text_over.ensures.bytes
