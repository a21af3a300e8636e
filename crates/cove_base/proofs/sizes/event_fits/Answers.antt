use Rattle.std.proofs.lemmas.Bool.{and_from}
use Rattle.cove_base.proofs.sizes.event_fits.Goals as goal

pub returns-in-Call : goal.returns-in-Call
returns-in-Call c = rw c.in-Call.is (and_from _ _ c.call_fits.ensures c.reply_fits.ensures)

pub returns-in-Guest : goal.returns-in-Guest
returns-in-Guest c = rw c.in-Guest.is (and_from _ _ c.act_fits.ensures c.reply_fits-in-Guest.ensures)
