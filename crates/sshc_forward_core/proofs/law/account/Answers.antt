use Rattle.sshc_forward_core.proofs.AccountLaw.{each_life_has_its_account, each_life_ends_once, outputs_are_own, each_channel_has_its_pair}
use Rattle.sshc_forward_core.proofs.law.account.Goals as goal

pub returns : goal.returns
returns c = record {
  account = each_life_has_its_account;
  ending = each_life_ends_once;
  own = outputs_are_own;
  pair = each_channel_has_its_pair;
}
