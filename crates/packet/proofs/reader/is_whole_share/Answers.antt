-- What is left after id and z_i is whole key ids.
-- Assumes nothing.
use borrow.Author.Tests.{le-leb}
use lib.ListN.{length, length-drop}
use Rattle.layout.specs.LaidOut.{whole_entries, whole_share}
use Rattle.packet.proofs.reader.is_whole_share.Goals as goal

pub returns-then-s-ge-SHARE_LENGTH : goal.returns-then-s-ge-SHARE_LENGTH
unfolding whole_share whole_entries
returns-then-s-ge-SHARE_LENGTH c = rw (le-leb 36 (length c.args.s.now) c.if-s-ge-SHARE_LENGTH.true, length-drop)
