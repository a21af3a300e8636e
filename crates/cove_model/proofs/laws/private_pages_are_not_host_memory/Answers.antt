use Rattle.cove_model.proofs.laws.private_pages_are_not_host_memory.Goals as goal
use Rattle.cove_model.proofs.PrivatePages.{own_unseen}

pub returns : goal.returns
returns c = own_unseen
