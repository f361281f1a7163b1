-- What is written is read as what was given, number by number.
use Rattle.std.specs.Prelude.{ℕ, ◌≡◌}
use Rattle.layout.specs.declared.Header.{Header}
use Rattle.layout.specs.Messages.{Message}
use Rattle.layout.specs.Encode.{header, encode}
use Rattle.layout.specs.Decode.{decode, taken}
use Rattle.responses.specs.declared.lists.ResponseHead.{ResponseHead}
use Rattle.library_writers.specs.declared.given.RcHead.{RcHead}
use Rattle.library_writers.specs.declared.given.RcResponseHead.{RcResponseHead}

-- the header that a head gives a packet of a kind with so many parts
abbrev pub header_given : ℕ → ℕ → RcHead → Header
header_given kind pairs h =
    record {
      kind = kind;
      signature_type = h.signature_type;
      pairs = pairs;
      signer_id = 0;
      ids = record { dkg_id = h.dkg_id; sign_id = h.sign_id; sign_iter_id = h.sign_iter_id };
    }

-- the reader takes the message's packet, and its header is this one
pub record ReadAs (m : Message) (h : Header) : Type 0 where
  pub decoded : decode (encode m) ≡ taken m
  pub headed : header m ≡ h

-- who responds to which request, number by number
pub record HeadGiven (h : RcResponseHead) (r : ResponseHead) : Type 0 where
  pub dkg_id : r.ids.dkg_id ≡ h.dkg_id
  pub sign_id : r.ids.sign_id ≡ h.sign_id
  pub sign_iter_id : r.ids.sign_iter_id ≡ h.sign_iter_id
  pub signer_id : r.signer_id.0 ≡ h.signer_id
