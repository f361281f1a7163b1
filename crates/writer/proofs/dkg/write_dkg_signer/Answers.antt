-- `write_dkg_signer`: what `write_dkg` wrote is the message.
-- Assumes nothing.
use Rattle.layout.specs.Encode.{encode, header, parts}
use Rattle.layout.specs.Decode.{within}
use Rattle.framing.specs.Writing.{write_message}
use Rattle.writer.proofs.dkg.write_dkg_signer.Goals as goal

pub returns : goal.returns
unfolding write_message encode header parts within
returns c = c.write_dkg.ensures
