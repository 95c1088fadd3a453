-- The laws of open sessions and of channels that the guarantees of a run depend on, gathered.
use Rattle.sshc_mux.specs.ChannelAccount.{EachEndLeavesAFront, EachLifeHasItsAccount, LegalStays}
use Rattle.sshc_client_table.specs.OpensOnce.{OpensAreAnsweredOnce}
use Rattle.sshc_client_table.specs.ReplyQueue.{RepliesAreInOrder}
use Rattle.sshc_client_table.specs.SessionAccount.{ChannelsAreAccounted}
use Rattle.sshc_client_table.specs.StepLaws.{RowsKeepTheLaws}

pub record SessionLaws : Type 0 where
  pub replies : RepliesAreInOrder
  pub accounted : ChannelsAreAccounted
  pub opens : OpensAreAnsweredOnce
  pub account : EachLifeHasItsAccount
  pub legal : LegalStays
  pub fronts : EachEndLeavesAFront
  pub rows : RowsKeepTheLaws
